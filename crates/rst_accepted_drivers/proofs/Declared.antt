-- What the rows on names leave of the declarations of one name: an input is no reg.
use Rattle.std.proofs.Common.{◌≡◌, Bool, true, false, cond, not, ◌&&◌, ◌||◌, List, [], ◌∷◌, ◌++◌, map, filter, None, refl, sym, subst, inl, inr, ◌⊎◌, append_assoc, append-nil}
use Rattle.std.specs.List.{list_any, flat_map}
use Rattle.std.proofs.lemmas.Bool.{and_parts, or_cases, not-false, or_left, or_right}
use Rattle.std.proofs.lemmas.List.Elements.{filter-append}
use Rattle.rst_tree.specs.Trees.{Text}
use Rattle.rst_tree.specs.Modules.{PlainPortDecl, PlainNetDecl, PlainNetName, PlainParamDecl, PlainParamName, PlainHeader, PlainItem, PlainModule, PlainCopied}
use Rattle.rst_tree.specs.Modules as tree
use Rattle.rst_names.specs.declared.faults.ElabCode.TheVariants as code
use Rattle.rst_names.specs.Faults.{first, fault_if}
use Rattle.rst_names.specs.Names.{same_text, is_among}
use Rattle.rst_names.specs.declared.forms.Form.{Form}
use Rattle.rst_names.specs.declared.forms.Form.TheVariants.{Listed, Directed, Net, Parameter, Instance}
use Rattle.rst_names.specs.Declarations.{Declaration, declarations, param_declarations, param_declaration, header_declarations, item_declarations, port_declarations, port_declaration, net_declaration, copy_declaration, listed, of_name, declares, is_signal, is_input, is_reg, ports}
use Rattle.rst_names.proofs.TableLemmas.{one_text}
use Rattle.rst_name_faults.specs.NameRows.{goes_with, is_listed, may_follow, twice_behind, twice, bad_port, input_regs, bad_header, is_plain, is_bad_direction, bad_item, bad_ports}
use Rattle.rst_flow.proofs.Members.{In, in_either, any_in}
use Rattle.rst_accepted.proofs.Rows.{left_none, right_none}
use Rattle.rst_accepted_drivers.proofs.Lists.{in_flat_map, in_map, map_in, in_filter, filter_in, none_at, nothing_in, no_fault, clash}

-- ---- the declarations of one name

-- one, or a name in the list of a plain header with its direction, or with its direction and its wire or reg
abbrev Allowed : List Declaration → Type 0
Allowed [] = Unit {0}
Allowed (a ∷ []) = Unit {0}
Allowed (a ∷ b ∷ []) = (is_listed a.form ≡ true) × (is_signal b.form ≡ true)
Allowed (a ∷ b ∷ c ∷ []) = (is_listed a.form ≡ true) × (goes_with b.form c.form ≡ true)
Allowed _ = ⊥

one_more : (ds : List Declaration) (d : Declaration) → Allowed ds → may_follow ds d ≡ true → Allowed (ds ++ d ∷ [])
one_more [] d h k = tt
one_more (a ∷ []) d h k = and_parts (is_listed a.form) (is_signal d.form) k
one_more (a ∷ b ∷ []) d h k = (h.0, (and_parts (goes_with b.form d.form) _ k).0)
one_more (a ∷ b ∷ c ∷ []) d h k = absurd cc
one_more (a ∷ b ∷ c ∷ e ∷ ds) d h k = absurd h

with_next : (name : Text) (earlier : List Declaration) (d : Declaration) → may_follow (of_name d.name earlier) d ≡ true → Allowed (of_name name earlier) → Allowed (of_name name (earlier ++ d ∷ []))
with_next name earlier d may h =
    subst Allowed (sym (filter-append (λ x. same_text x.name name) earlier (d ∷ []))) (by (same_text d.name name) refl)
  where
    by : (b : Bool) → same_text d.name name ≡ b → Allowed (of_name name earlier ++ cond b (d ∷ []) [])
    by true e =
        one_more (of_name name earlier) d h (subst (λ n. may_follow (of_name n earlier) d ≡ true) (one_text d.name name e) may)
    by false e = subst Allowed (sym (append-nil (of_name name earlier))) h

all_allowed : (name : Text) (earlier ds : List Declaration) → first (twice_behind earlier ds) ≡ None → Allowed (of_name name earlier) → Allowed (of_name name (earlier ++ ds))
all_allowed name earlier [] none h = subst (λ xs. Allowed (of_name name xs)) (sym (append-nil earlier)) h
all_allowed name earlier (d ∷ ds) none h =
    let test : Bool = not (may_follow (of_name d.name earlier) d) in
    let here = no_fault test code.Twice d.name 0 (left_none (fault_if test code.Twice d.name 0) (twice_behind (earlier ++ d ∷ []) ds) none) in
    let later = right_none (fault_if test code.Twice d.name 0) (twice_behind (earlier ++ d ∷ []) ds) none in
    subst (λ xs. Allowed (of_name name xs)) (append_assoc earlier (d ∷ []) ds)
    (all_allowed name (earlier ++ d ∷ []) ds later (with_next name earlier d (not-false (may_follow (of_name d.name earlier) d) here) h))

allowed : (m : PlainModule) → first (twice m) ≡ None → (name : Text) → Allowed (of_name name (declarations m))
allowed m none name = all_allowed name [] (declarations m) none tt

-- ---- forms

listed_only : (f : Form) (P : Form → Bool) → is_listed f ≡ true → P Listed ≡ false → P f ≡ true → ⊥
listed_only Listed P h not_listed k = clash (P Listed) not_listed k
listed_only (Directed i r) P h not_listed k = cc
listed_only (Net r) P h not_listed k = cc
listed_only Parameter P h not_listed k = cc
listed_only Instance P h not_listed k = cc

abbrev has : (Form → Bool) → List Declaration → Bool
has test ds = list_any (λ (d : Declaration). test d.form) ds

-- ---- an input is no reg

-- no declaration says both
abbrev is_input_reg : Form → Bool
is_input_reg (Directed i r) = i && r
is_input_reg _ = false

abbrev is_net_reg : Form → Bool
is_net_reg (Net r) = r
is_net_reg _ = false

-- an input and a reg together are one declaration that says both, or a reg beside the direction
input_with_reg : (f g : Form) → goes_with f g ≡ true → is_reg f ≡ true → is_net_reg f ≡ true
input_with_reg (Net r) g h k = k
input_with_reg (Directed i false) g h k = absurd cc
input_with_reg (Directed i true) g h k = absurd cc
input_with_reg Listed g h k = absurd cc
input_with_reg Parameter g h k = absurd cc
input_with_reg Instance g h k = absurd cc

reg_beside : (f g : Form) → goes_with f g ≡ true → is_reg g ≡ true → is_net_reg g ≡ true
reg_beside f (Net r) h k = k
reg_beside (Net s) (Directed i false) h k = absurd cc
reg_beside (Net s) (Directed i true) h k = absurd cc
reg_beside (Directed j s) (Directed i r) h k = absurd (two j s i r h)
  where
    two : (j s i r : Bool) → goes_with (Directed j s) (Directed i r) ≡ true → ⊥
    two j true i r e = cc
    two j false i r e = cc
reg_beside Listed (Directed i r) h k = absurd cc
reg_beside Parameter (Directed i r) h k = absurd cc
reg_beside Instance (Directed i r) h k = absurd cc
reg_beside f Listed h k = absurd cc
reg_beside f Parameter h k = absurd cc
reg_beside f Instance h k = absurd cc

one_form : (f : Form) → is_input f ≡ true → is_reg f ≡ true → is_input_reg f ≡ true
one_form Listed h k = cc
one_form (Directed i r) h k = rw h k
one_form (Net r) h k = absurd cc
one_form Parameter h k = cc
one_form Instance h k = cc

alone : (b : Bool) → (b || false) ≡ true → b ≡ true
alone true e = refl
alone false e = e

-- one of them says that it is an input reg, or one is the reg of a wire or reg declaration
input_reg_in : (ds : List Declaration) → Allowed ds → has is_input ds ≡ true → has is_reg ds ≡ true → (has is_input_reg ds ≡ true) ⊎ (has is_net_reg ds ≡ true)
input_reg_in [] all h k = absurd cc
input_reg_in (a ∷ []) all h k = inl (or_left (is_input_reg a.form) false (one_form a.form (alone (is_input a.form) h) (alone (is_reg a.form) k)))
input_reg_in (a ∷ b ∷ []) all h k =
    let second : (P : Form → Bool) → P Listed ≡ false → has P (a ∷ b ∷ []) ≡ true → P b.form ≡ true = λ P not_listed e. elim (or_cases (P a.form) (P b.form || false) e) [
      | inl f ↦ absurd (listed_only a.form P all.0 not_listed f)
      | inr f ↦ alone (P b.form) f
    ] in
    inl (or_right (is_input_reg a.form) (is_input_reg b.form || false) (or_left (is_input_reg b.form) false (one_form b.form (second is_input refl h) (second is_reg refl k))))
input_reg_in (a ∷ b ∷ c ∷ []) all h k = elim (or_cases (is_reg a.form) (is_reg b.form || (is_reg c.form || false)) k) [
  | inl e ↦ absurd (listed_only a.form is_reg all.0 refl e)
  | inr e ↦ inr (or_right (is_net_reg a.form) (is_net_reg b.form || (is_net_reg c.form || false)) (elim (or_cases (is_reg b.form) (is_reg c.form || false) e) [
    | inl f ↦ or_left (is_net_reg b.form) (is_net_reg c.form || false) (input_with_reg b.form c.form all.1 f)
    | inr f ↦ or_right (is_net_reg b.form) (is_net_reg c.form || false) (or_left (is_net_reg c.form) false (reg_beside b.form c.form all.1 (alone (is_reg c.form) f)))
  ]))
]
input_reg_in (a ∷ b ∷ c ∷ d ∷ ds) all h k = absurd all

-- ---- what the row on ports leaves

module _ (m : PlainModule) (none : first (bad_ports m) ≡ None) where
  abbrev Right : Declaration → Type 0
  Right d = (is_input_reg d.form ≡ true → ⊥) × (is_net_reg d.form ≡ true → declares is_input (declarations m) d.name ≡ false)

  header : first (bad_header m m.header) ≡ None
  header = left_none (bad_header m m.header) (flat_map (bad_item m) m.items) none

  items : first (flat_map (bad_item m) m.items) ≡ None
  items = right_none (bad_header m m.header) (flat_map (bad_item m) m.items) none

  in_params : (d : Declaration) → In d (flat_map param_declarations m.params) → Right d
  in_params d h =
      let one = in_flat_map param_declarations m.params d h in
      let named = in_map (param_declaration one.of) one.of.names d one.within in
      subst Right named.is (λ e. cc, λ e. absurd cc)

  in_ports : (ps : List PlainPortDecl) (d : Declaration) → first (flat_map input_regs ps) ≡ None → In d (flat_map port_declarations ps) → Right d
  in_ports ps d clean h =
      let one = in_flat_map port_declarations ps d h in
      let named = in_map (port_declaration one.of) one.of.names d one.within in
      let here = none_at input_regs ps one.of clean one.there in
      subst Right named.is (λ e. nothing_in (map bad_port one.of.names) (bad_port named.of) (by one.of.names (one.of.input && one.of.reg) e here) (map_in bad_port one.of.names named.of named.there), λ e. absurd cc)
    where
      by : (ns : List Text) (b : Bool) → b ≡ true → first (cond b (map bad_port ns) []) ≡ None → first (map bad_port ns) ≡ None
      by ns true e k = k
      by ns false e k = absurd cc

  in_header : (x : PlainHeader) (d : Declaration) → first (bad_header m x) ≡ None → In d (header_declarations x) → Right d
  in_header (tree.Plain names) d clean h =
      let named = in_map listed names d h in
      subst Right named.is (λ e. cc, λ e. absurd cc)
  in_header (tree.Full ps) d clean h = in_ports ps d clean h

  in_item : (x : PlainItem) (d : Declaration) → first (bad_item m x) ≡ None → In d (item_declarations x) → Right d
  in_item (tree.Port p) d clean h =
      let named = in_map (port_declaration p) p.names d h in
      subst Right named.is (
        λ e. nothing_in (map bad_port (filter (is_bad_direction m p) p.names)) (bad_port named.of) clean
            (map_in bad_port (filter (is_bad_direction m p) p.names) named.of (filter_in (is_bad_direction m p) p.names named.of named.there (bad named.of e))),
        λ e. absurd cc,
      )
    where
      bad : (n : Text) → (p.input && p.reg) ≡ true → is_bad_direction m p n ≡ true
      bad n e = or_right (not (is_plain m.header)) _ (or_right (not (is_among (ports m) n)) (p.input && p.reg) e)
  in_item (tree.Net nd) d clean h =
      let named = in_map (net_declaration nd) nd.names d h in
      subst Right named.is (λ e. cc, λ e. by named.of named.there nd.reg e clean)
    where
      by : (n : PlainNetName) → In n nd.names → (b : Bool) → b ≡ true → first (cond b (map bad_port (filter (declares is_input (declarations m)) (map (λ x. x.name) nd.names))) []) ≡ None
          → declares is_input (declarations m) n.name ≡ false
      by n there false e k = absurd cc
      by n there true e k = by_test (declares is_input (declarations m) n.name) refl
        where
          by_test : (b : Bool) → declares is_input (declarations m) n.name ≡ b → b ≡ false
          by_test false f = refl
          by_test true f = absurd (nothing_in (map bad_port (filter (declares is_input (declarations m)) (map (λ x. x.name) nd.names))) (bad_port n.name) k
              (map_in bad_port (filter (declares is_input (declarations m)) (map (λ x. x.name) nd.names)) n.name
              (filter_in (declares is_input (declarations m)) (map (λ x. x.name) nd.names) n.name (map_in (λ (x : PlainNetName). x.name) nd.names n there) f)))
  in_item (tree.Params p) d clean h =
      let named = in_map (param_declaration p) p.names d h in
      subst Right named.is (λ e. cc, λ e. absurd cc)
  in_item (tree.Assigns as') d clean h = absurd h
  in_item (tree.AlwaysBlock a) d clean h = absurd h
  in_item (tree.Instances i) d clean h =
      let named = in_map copy_declaration i.copies d h in
      subst Right named.is (λ e. cc, λ e. absurd cc)

  right : (d : Declaration) → In d (declarations m) → Right d
  right d h = elim (in_either d (flat_map param_declarations m.params) (header_declarations m.header ++ flat_map item_declarations m.items) h) [
    | inl a ↦ in_params d a
    | inr b ↦ elim (in_either d (header_declarations m.header) (flat_map item_declarations m.items) b) [
      | inl c ↦ in_header m.header d header c
      | inr e ↦ let one = in_flat_map item_declarations m.items d e in in_item one.of d (none_at (bad_item m) m.items one.of items one.there) one.within
    ]
  ]

  pub no_input_reg : first (twice m) ≡ None → (name : Text) → declares is_input (declarations m) name ≡ true → declares is_reg (declarations m) name ≡ true → ⊥
  no_input_reg once name h k = elim (input_reg_in (of_name name (declarations m)) (allowed m once name) h k) [
    | inl e ↦
        let one = any_in (λ (d : Declaration). is_input_reg d.form) (of_name name (declarations m)) e in
        let there = in_filter (λ d. same_text d.name name) (declarations m) one.0 one.1 in
        (right one.0 there.0).0 one.2
    | inr e ↦
        let one = any_in (λ (d : Declaration). is_net_reg d.form) (of_name name (declarations m)) e in
        let there = in_filter (λ d. same_text d.name name) (declarations m) one.0 one.1 in
        clash (declares is_input (declarations m) name) (subst (λ n. declares is_input (declarations m) n ≡ false) (one_text one.0.name name there.1) ((right one.0 there.0).1 one.2)) h
  ]
