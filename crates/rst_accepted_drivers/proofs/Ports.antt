-- What holds of every instance of an accepted design: only its inputs lead outside, and what leads to an input of the top leads to one
-- that is no clock.
use Rattle.std.proofs.Common.{◌≡◌, ◌∙◌, ℕ, zero, suc, ◌+◌, true, Bool, false, cond, List, [], ◌∷◌, map, Option, Some, None, refl, sym, ap, subst, inl, inr, arith}
use Rattle.std.specs.List.{flat_map, find, enumerate_from, slice_get}
use Rattle.rst_tree.specs.Trees.{Text}
use Rattle.rst_tree.specs.Modules.{PlainInstance, PlainCopied, PlainModule}
use Rattle.rst_names.specs.Names.{same_text}
use Rattle.rst_names.specs.Declarations.{signal_named, ports}
use Rattle.rst_names.proofs.TableLemmas.{one_text}
use Rattle.rst_hierarchy.specs.Hierarchy.{module_named, instances_in}
use Rattle.rst_instances.specs.Parameters.{Linked, link_to, links_to}
use Rattle.rst_instances.specs.Places.{Joined, Apart, ToClock, ToInput, Port, Place, joined_or, joined_of, joined_by, linked_name, port_join, is_clock, top_join, child, copies, children, below, top_place}
use Rattle.rst_flow.proofs.Members.{In}
use Rattle.rst_accepted_drivers.proofs.Lists.{in_flat_map, in_map, in_numbered, find_in, Source}

-- ---- the instances below one

-- an instance that another one places
pub record Child (p q : Place) : Type 0 where
  pub instance : PlainInstance
  pub of : PlainModule
  pub copy : PlainCopied
  pub is : child p instance of copy ≡ q

module _ (modules : List PlainModule) where
  in_children : (p q : Place) → In q (children modules p) → Child p q
  in_children p q h =
      let one : Source PlainInstance Place (λ i. copies p i (module_named modules i.of_module)) (flat_map instances_in p.of.items) q =
      in_flat_map (λ i. copies p i (module_named modules i.of_module)) (flat_map instances_in p.of.items) q h in
      by one.of (module_named modules one.of.of_module) one.within
    where
      by : (i : PlainInstance) (o : Option PlainModule) → In q (copies p i o) → Child p q
      by i None k = absurd k
      by i (Some m) k = let made = in_map (child p i m) i.copies q k in record { instance = i; of = m; copy = made.of; is = made.is }

  -- what holds of an instance and of each one that another one places holds of all
  pub all_below : (P : Place → Type 0) → ((p q : Place) → P p → In q (children modules p) → P q) → (n : ℕ) (p : Place) → P p → (q : Place) → In q (below n modules p) → P q
  unfolding below
  all_below P step zero p h q (inl e) = subst P e h
  all_below P step zero p h q (inr k) = absurd k
  all_below P step (suc n) p h q (inl e) = subst P e h
  all_below P step (suc n) p h q (inr k) =
      let one : Source Place Place (below n modules) (children modules p) q = in_flat_map (below n modules) (children modules p) q k in
      all_below P step n one.of (step p one.of h one.there) q one.within

  -- an instance stands in front of those below it
  pub front_below : (n : ℕ) (p : Place) → (rest : List Place) × (below n modules p ≡ p ∷ rest)
  unfolding below
  front_below zero p = ([], refl)
  front_below (suc n) p = (flat_map (below n modules) (children modules p), refl)

-- ---- what leads outside

-- a port that a name is found at
pub record AtPort (joins : List Port) (name : Text) (joined : Joined) : Type 0 where
  pub port : Port
  pub there : In port joins
  pub named : port.name ≡ name
  pub leads : port.joined ≡ joined

at_port : (joins : List Port) (name : Text) (joined : Joined) → joined_of joins name ≡ joined → (joined ≡ Apart → ⊥) → AtPort joins name joined
at_port joins name joined h apart = by (find (λ p. same_text p.name name) joins) refl h
  where
    by : (o : Option Port) → find (λ p. same_text p.name name) joins ≡ o → joined_or o ≡ joined → AtPort joins name joined
    by None e k = absurd (apart (sym k))
    by (Some p) e k = let r = find_in (λ x. same_text x.name name) joins p e in record { port = p; there = r.0; named = one_text p.name name r.1; leads = k }

-- an input of the top that is no clock
pub record TopInput (clock : Option Text) (top : PlainModule) (i : ℕ) : Type 0 where
  pub name : Text
  pub at : slice_get (ports top) i ≡ Some name
  pub leads : joined_of (map (top_join clock top) (enumerate_from 0 (ports top))) name ≡ ToInput i

pub record IsPlaced (clock : Option Text) (top : PlainModule) (p : Place) : Type 0 where
  pub inputs : (name : Text) (joined : Joined) → joined_of p.joins name ≡ joined → (joined ≡ Apart → ⊥) → (signal_named p.of name).input ≡ true
  pub leads : (name : Text) (i : ℕ) → joined_of p.joins name ≡ ToInput i → TopInput clock top i

only_input : (b : Bool) (x joined : Joined) → cond b x Apart ≡ joined → (joined ≡ Apart → ⊥) → (b ≡ true) × (x ≡ joined)
only_input true x joined e apart = (refl, e)
only_input false x joined e apart = absurd (apart (sym e))

input_apart : (i : ℕ) → ToInput i ≡ Apart → ⊥
input_apart i e = cc

module _ (clock : Option Text) (top : PlainModule) (text : Text) where
  top_leads : (name : Text) (i : ℕ) → joined_of (map (top_join clock top) (enumerate_from 0 (ports top))) name ≡ ToInput i → TopInput clock top i
  top_leads name i h =
      let joins : List Port = map (top_join clock top) (enumerate_from 0 (ports top)) in
      let found = at_port joins name (ToInput i) h (input_apart i) in
      let made = in_map (top_join clock top) (enumerate_from 0 (ports top)) found.port found.there in
      let there = in_numbered 0 (ports top) made.of made.there in
      let joined : (top_join clock top made.of).joined ≡ ToInput i = ap (λ (p : Port). p.joined) made.is ∙ found.leads in
      let named : made.of.1 ≡ name = ap (λ (p : Port). p.name) made.is ∙ found.named in
      let input = only_input (signal_named top made.of.1).input (cond (is_clock clock made.of.1) ToClock (ToInput made.of.0)) (ToInput i) joined (input_apart i) in
      let number : made.of.0 ≡ i = no_clock (is_clock clock made.of.1) made.of.0 input.1 in
      record {
        name = name;
        at = ap (slice_get (ports top)) (place there.place made.of.0 i there.is number) ∙ there.at ∙ ap Some named;
        leads = h;
      }
    where
      no_clock : (b : Bool) (n : ℕ) → cond b ToClock (ToInput n) ≡ ToInput i → n ≡ i
      no_clock true n e = absurd cc
      no_clock false n e = cc

      place : (k n i : ℕ) → n ≡ 0 + k → n ≡ i → i ≡ k
      place k n i e f = omega arith

  pub top_placed : IsPlaced clock top (top_place text top clock)
  top_placed = record {
    inputs = λ name joined h apart.
        let joins : List Port = map (top_join clock top) (enumerate_from 0 (ports top)) in
        let found = at_port joins name joined h apart in
        let made = in_map (top_join clock top) (enumerate_from 0 (ports top)) found.port found.there in
        let same : (top_join clock top made.of).joined ≡ joined = ap (λ (p : Port). p.joined) made.is ∙ found.leads in
        let named : made.of.1 ≡ name = ap (λ (p : Port). p.name) made.is ∙ found.named in
        subst (λ n. (signal_named top n).input ≡ true) named (only_input (signal_named top made.of.1).input (cond (is_clock clock made.of.1) ToClock (ToInput made.of.0)) joined same apart).0;
    leads = top_leads;
  }

  module _ (p : Place) (i : PlainInstance) (m : PlainModule) (c : PlainCopied) where
    abbrev links : List Linked
    links = links_to (ports m) c.ports

    child_leads : IsPlaced clock top p → (name : Text) (n : ℕ) → joined_of (map (port_join p.joins links m) (ports m)) name ≡ ToInput n → TopInput clock top n
    child_leads is name n h =
        let joins : List Port = map (port_join p.joins links m) (ports m) in
        let found = at_port joins name (ToInput n) h (input_apart n) in
        let made = in_map (port_join p.joins links m) (ports m) found.port found.there in
        let same : (port_join p.joins links m made.of).joined ≡ ToInput n = ap (λ (q : Port). q.joined) made.is ∙ found.leads in
        by (linked_name (link_to links made.of)) (only_input (signal_named m made.of).input (joined_by p.joins (linked_name (link_to links made.of))) (ToInput n) same (input_apart n)).1
      where
        by : (o : Option Text) → joined_by p.joins o ≡ ToInput n → TopInput clock top n
        by None e = absurd cc
        by (Some outer) e = is.leads outer n e

    child_made : IsPlaced clock top p → IsPlaced clock top (child p i m c)
    child_made is = record {
      inputs = λ name joined h apart.
          let joins : List Port = map (port_join p.joins links m) (ports m) in
          let found = at_port joins name joined h apart in
          let made = in_map (port_join p.joins links m) (ports m) found.port found.there in
          let same : (port_join p.joins links m made.of).joined ≡ joined = ap (λ (q : Port). q.joined) made.is ∙ found.leads in
          let named : made.of ≡ name = ap (λ (q : Port). q.name) made.is ∙ found.named in
          subst (λ t. (signal_named m t).input ≡ true) named (only_input (signal_named m made.of).input (joined_by p.joins (linked_name (link_to links made.of))) joined same apart).0;
      leads = child_leads is;
    }

pub child_placed : (modules : List PlainModule) (clock : Option Text) (top : PlainModule) (p q : Place) → IsPlaced clock top p → In q (children modules p) → IsPlaced clock top q
child_placed modules clock top p q is h = let c = in_children modules p q h in subst (IsPlaced clock top) c.is (child_made clock top top.name p c.instance c.of c.copy is)
