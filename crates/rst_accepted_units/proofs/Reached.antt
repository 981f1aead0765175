-- The module of each instance is used: the top leads to it, by at most 16 instances, one inside the other.
use Rattle.std.proofs.Common.{◌≡◌, ◌∙◌, ℕ, zero, suc, ◌+◌, ◌-◌, ◌*◌, ◌^◌, ◌<◌, ◌⊎◌, Bool, true, false, ◌||◌, ◌&&◌, List, [], ◌∷◌, ◌++◌, Option, Some, None, map, arith, refl, sym, ap, subst, inl, inr, pow-suc, pow_pos}
use Rattle.std.specs.List.{AllByRecursion, flat_map, list_any, filter_map, cons_option}
use Rattle.std.specs.Cmp.Lexicographic.{bytes_decides}
use Rattle.std.proofs.lemmas.Bool.Decides.{leb_tells}
use Rattle.std.proofs.lemmas.List.Elements.{filter_map-append}
use Rattle.rst_tree.specs.Trees.{Text}
use Rattle.rst_tree.specs.Modules.{PlainInstance, PlainCopied, PlainItem, PlainModule}
use Rattle.rst_tree.specs.Modules as tree
use Rattle.rst_names.specs.Names.{same_text}
use Rattle.rst_hierarchy.specs.Hierarchy.{module_named, instances_in, placed_by, places_of, modules_placed, leads, reaches, is_used}
use Rattle.rst_instances.specs.Places.{Place, child, copies, children, below}
use Rattle.rst_accepted_units.proofs.Lists.{each_weaker, each_always, each_joined, each_flat, each_map, found_any, any_joined, or_first, or_second}

-- a text is the same as itself
pub itself : (t : Text) → same_text t t ≡ true
itself t = (bytes_decides t t).1 refl

both : (a b : Bool) → a ≡ true → b ≡ true → (a && b) ≡ true
both true b h k = k
both false b h k = absurd cc

-- there is a module of some name
pub record IsNamed (modules : List PlainModule) (k : PlainModule) : Type 0 where
  pub name : Text
  pub is : module_named modules name ≡ Some k

-- the module of an instance
pub record IsUsed (modules : List PlainModule) (top k : PlainModule) : Type 0 where
  pub named : IsNamed modules k
  pub used : is_used modules top k ≡ true

module _ (modules : List PlainModule) where
  -- the definitions, opened
  leads_more : (n : ℕ) (m : PlainModule) (name : Text) → leads (suc n) modules m name ≡ (leads n modules m name || list_any (λ k. leads n modules m k.name && leads n modules k name) modules)
  unfolding leads
  leads_more n m name = refl

  leads_now : (m : PlainModule) (name : Text) → leads zero modules m name ≡ list_any (λ k. same_text k.name name) (modules_placed modules m)
  unfolding leads
  leads_now m name = refl

  pub below_zero : (p : Place) → below zero modules p ≡ p ∷ []
  unfolding below
  below_zero p = refl

  pub below_suc : (n : ℕ) (p : Place) → below (suc n) modules p ≡ p ∷ flat_map (below n modules) (children modules p)
  unfolding below
  below_suc n p = refl

  -- ---- one module leads to another

  -- by one instance
  abbrev Leads : PlainModule → PlainModule → Type 0
  Leads a b = leads zero modules a b.name ≡ true

  -- by n + 1 instances, one inside the other
  abbrev Way : ℕ → PlainModule → PlainModule → Type 0
  Way zero a b = Leads a b
  Way (suc n) a b = (k : PlainModule) × IsNamed modules k × Leads a k × Way n k b

  through : (n : ℕ) (a k : PlainModule) (name : Text) → IsNamed modules k → leads n modules a k.name ≡ true → leads n modules k name ≡ true → leads (suc n) modules a name ≡ true
  through n a k name named h g =
      leads_more n a name ∙ or_second (leads n modules a name) (list_any (λ o. leads n modules a o.name && leads n modules o name) modules)
      (found_any (λ o. same_text o.name named.name) (λ o. leads n modules a o.name && leads n modules o name) modules k named.is
      (both (leads n modules a k.name) (leads n modules k name) h g))

  -- a way in two parts
  split : (i j d : ℕ) (a b : PlainModule) → d ≡ suc (i + j) → Way d a b → (k : PlainModule) × IsNamed modules k × Way i a k × Way j k b
  split i j zero a b e w = absurd (omega (arith, e))
  split zero j (suc d) a b e w = let same : d ≡ j = omega (arith, e) in (w.0, w.1, w.2, subst (λ n. Way n w.0 b) same w.3)
  split (suc i) j (suc d) a b e w =
      let less : d ≡ suc (i + j) = omega (arith, e) in
      let s = split i j d w.0 b less w.3 in (s.0, s.1, (w.0, w.1, w.2, s.2), s.3)

  way_leads : (n d : ℕ) (a b : PlainModule) → d < 2 ^ n → Way d a b → leads n modules a b.name ≡ true
  way_leads zero zero a b h w = w
  way_leads zero (suc d) a b h w = absurd (omega (arith, h))
  way_leads (suc n) d a b h w =
      elim (leb_tells (suc d) (2 ^ n)) [
        | inl t ↦ leads_more n a b.name ∙ or_first (leads n modules a b.name) (list_any (λ k. leads n modules a k.name && leads n modules k b.name) modules) (way_leads n d a b t.1 w)
        | inr t ↦
            let some : 0 < 2 ^ n = pow_pos n in
            let double : 2 ^ suc n ≡ 2 ^ n * 2 = pow-suc 2 n in
            let parts : d ≡ suc ((2 ^ n - 1) + (d - 2 ^ n)) = omega (arith, some, t.1) in
            let front : 2 ^ n - 1 < 2 ^ n = omega (arith, some) in
            let back : d - 2 ^ n < 2 ^ n = omega (arith, some, h, double, t.1) in
            let s = split (2 ^ n - 1) (d - 2 ^ n) d a b parts w in
            through n a s.0 b.name s.1 (way_leads n (2 ^ n - 1) a s.0 front s.2) (way_leads n (d - 2 ^ n) s.0 b back s.3)
      ]

  -- ---- a module leads to those of the instances that it places

  -- one of these names leads to a module of this name
  abbrev AreNames : Text → List Text → Type 0
  AreNames name names = list_any (λ k. same_text k.name name) (filter_map (module_named modules) names) ≡ true

  joined : (a b : List Text) (name : Text) → list_any (λ k. same_text k.name name) (filter_map (module_named modules) (a ++ b))
      ≡ (list_any (λ k. same_text k.name name) (filter_map (module_named modules) a) || list_any (λ k. same_text k.name name) (filter_map (module_named modules) b))
  joined a b name =
      ap (list_any (λ k. same_text k.name name)) (filter_map-append (module_named modules) a b)
      ∙ any_joined (λ k. same_text k.name name) (filter_map (module_named modules) a) (filter_map (module_named modules) b)

  in_front : (a b : List Text) (name : Text) → AreNames name a → AreNames name (a ++ b)
  in_front a b name h = joined a b name ∙ or_first (list_any (λ k. same_text k.name name) (filter_map (module_named modules) a)) (list_any (λ k. same_text k.name name) (filter_map (module_named modules) b)) h

  in_back : (a b : List Text) (name : Text) → AreNames name b → AreNames name (a ++ b)
  in_back a b name h = joined a b name ∙ or_second (list_any (λ k. same_text k.name name) (filter_map (module_named modules) a)) (list_any (λ k. same_text k.name name) (filter_map (module_named modules) b)) h

  -- an instance of a module that is there, whose name is among these
  record IsChild (names : List Text) (c : Place) : Type 0 where
    pub named : IsNamed modules c.of
    pub among : AreNames c.of.name names

  first_names : (name : Text) (m : PlainModule) (names : List Text) → module_named modules name ≡ Some m → AreNames m.name (name ∷ names)
  first_names name m names is =
      ap (λ o. list_any (λ (k : PlainModule). same_text k.name m.name) (cons_option o (filter_map (module_named modules) names))) is
      ∙ or_first (same_text m.name m.name) (list_any (λ k. same_text k.name m.name) (filter_map (module_named modules) names)) (itself m.name)

  copies_of : (p : Place) (i : PlainInstance) (m : PlainModule) (cs : List PlainCopied) → module_named modules i.of_module ≡ Some m
      → AllByRecursion (IsChild (map (λ (c : PlainCopied). i.of_module) cs)) (map (child p i m) cs)
  copies_of p i m [] is = tt
  copies_of p i m (c ∷ cs) is =
      each_map (IsChild (i.of_module ∷ map (λ (c : PlainCopied). i.of_module) cs)) (child p i m) (c ∷ cs)
      (each_always (λ (x : PlainCopied). IsChild (i.of_module ∷ map (λ (c : PlainCopied). i.of_module) cs) (child p i m x))
      (λ x. record { named = record { name = i.of_module; is = is }; among = first_names i.of_module m (map (λ (c : PlainCopied). i.of_module) cs) is }) (c ∷ cs))

  of_instance : (p : Place) (i : PlainInstance) (o : Option PlainModule) → module_named modules i.of_module ≡ o
      → AllByRecursion (IsChild (map (λ (c : PlainCopied). i.of_module) i.copies)) (copies p i o)
  of_instance p i None is = tt
  of_instance p i (Some m) is = copies_of p i m i.copies is

  abbrev placing : Place → PlainInstance → List Place
  placing p i = copies p i (module_named modules i.of_module)

  of_items : (p : Place) (items : List PlainItem) → AllByRecursion (IsChild (flat_map placed_by items)) (flat_map (placing p) (flat_map instances_in items))
  of_items p [] = tt
  of_items p (tree.Instances i ∷ items) =
      let names = map (λ (c : PlainCopied). i.of_module) i.copies in
      each_joined (IsChild (names ++ flat_map placed_by items)) (placing p i) (flat_map (placing p) (flat_map instances_in items))
      (each_weaker (IsChild names) (IsChild (names ++ flat_map placed_by items))
      (λ c h. record { named = h.named; among = in_front names (flat_map placed_by items) c.of.name h.among }) (placing p i) (of_instance p i (module_named modules i.of_module) refl))
      (each_weaker (IsChild (flat_map placed_by items)) (IsChild (names ++ flat_map placed_by items))
      (λ c h. record { named = h.named; among = in_back names (flat_map placed_by items) c.of.name h.among }) (flat_map (placing p) (flat_map instances_in items)) (of_items p items))
  of_items p (x ∷ items) = of_items p items

  -- ---- the instances below one

  abbrev Reaches : ℕ → PlainModule → PlainModule → Type 0
  Reaches n a b = (a ≡ b) ⊎ ((d : ℕ) × (d < n) × Way d a b × IsNamed modules b)

  longer : (n : ℕ) (a b c : PlainModule) → IsNamed modules b → Leads a b → Reaches n b c → Reaches (suc n) a c
  longer n a b c named step (inl e) = inr (0, omega arith, subst (λ (m : PlainModule). Leads a m) e step, subst (IsNamed modules) e named)
  longer n a b c named step (inr w) = let less : w.0 < n = w.1 in inr (suc w.0, omega (arith, less), (b, named, step, w.2), w.3)

  each_below : (n : ℕ) (p : Place) → AllByRecursion (λ q. Reaches n p.of q.of) (below n modules p)
  each_below zero p = subst (AllByRecursion (λ (q : Place). Reaches zero p.of q.of)) (sym (below_zero p)) (inl refl, tt)
  each_below (suc n) p =
      subst (AllByRecursion (λ (q : Place). Reaches (suc n) p.of q.of)) (sym (below_suc n p)) (
        inl refl,
        each_flat (IsChild (places_of p.of)) (λ (q : Place). Reaches (suc n) p.of q.of) (below n modules)
            (λ c h. each_weaker (λ (q : Place). Reaches n c.of q.of) (λ (q : Place). Reaches (suc n) p.of q.of)
            (λ q r. longer n p.of c.of q.of h.named (leads_now p.of c.of.name ∙ h.among) r) (below n modules c) (each_below n c)) (children modules p) (of_items p p.of.items),
      )

  reached_used : (top q : PlainModule) → IsNamed modules top → Reaches 16 top q → IsUsed modules top q
  reached_used top q named (inl e) = record {
    named = subst (IsNamed modules) e named;
    used = or_first (same_text q.name top.name) (reaches modules top q.name) (subst (λ (m : PlainModule). same_text q.name m.name ≡ true) (sym e) (itself q.name));
  }
  reached_used top q named (inr w) =
      let less : w.0 < 16 = w.1 in
      let few : w.0 < 2 ^ 8 = omega (arith, less) in
      record { named = w.3; used = or_second (same_text q.name top.name) (reaches modules top q.name) (way_leads 8 w.0 top q few w.2) }

  pub each_used : (p : Place) → IsNamed modules p.of → AllByRecursion (λ q. IsUsed modules p.of q.of) (below 16 modules p)
  each_used p named = each_weaker (λ (q : Place). Reaches 16 p.of q.of) (λ (q : Place). IsUsed modules p.of q.of) (λ q r. reached_used p.of q.of named r) (below 16 modules p) (each_below 16 p)
