-- The roles of what units drive, and of what resets are.
use Rattle.std.proofs.Common.{◌≡◌, ◌∙◌, ℕ, ◌+◌, Bool, true, false, cond, not, ◌&&◌, List, [], ◌∷◌, ◌++◌, length, Some, None, refl, sym, ap, subst, inl, inr, arith}
use Rattle.std.specs.List.{Contains, list_any, slice_get}
use Rattle.std.proofs.lemmas.Bool.{and_parts, and_left, and_right, cond-true, cond-false, false_from_ne_true, not-true}
use Rattle.std.proofs.lemmas.Option.{same_Some}
use Rattle.rst_tree.specs.Trees.{Text}
use Rattle.rst_tree.specs.Modules.{PlainModule}
use Rattle.rst_net.specs.declared.signal.Role.{Role}
use Rattle.rst_net.specs.declared.signal.Role.TheVariants as role
use Rattle.rst_net.specs.declared.unit.Reset.{Reset}
use Rattle.rst_net.specs.Units.{PlainDriver, PlainProcess, PlainFlat, Process}
use Rattle.rst_names.specs.Faults.{first}
use Rattle.rst_names.specs.Names.{same_text}
use Rattle.rst_names.specs.Declarations.{Declared, declarations, declares, is_input, is_reg as is_reg_form, signal_named, signals, ports, inner_names}
use Rattle.rst_hierarchy.specs.Hierarchy.{is_used, used, row_faults, module_faults, Twice, BadPort, NoName, BadConnect, NoParameter}
use Rattle.rst_name_faults.specs.NameRows.{twice, bad_ports}
use Rattle.rst_instances.specs.Places.{Joined, Apart, ToClock, ToInput, Place, Located, joined_of, located, located_from}
use Rattle.rst_items.specs.Seen.{Seen, seen}
use Rattle.rst_items.specs.Items.{number_or, is_clock_name, units, clocked}
use Rattle.rst_items.specs.ItemRows.{is_wire, is_reg, fault_row, target_row, width_row, edge_row, rows_over}
use Rattle.rst_drivers.specs.Drives.{is_of, sets_of, sets_signal, all_assigned, all_blocks, blocks_of}
use Rattle.rst_drivers.specs.FlatRows.{flat_faults}
use Rattle.rst_cycle.specs.Signals.{role_in, role_of, is_wired}
use Rattle.rst_cycle.specs.Drivers.{drives}
use Rattle.rst_elab.specs.Flats.{driven_role, is_top, role_of as flat_role, signal_at}
use Rattle.rst_elab.specs.Elaborated.{flat_from}
use Rattle.rst_accepted.specs.Elaborated.{IsElaborated}
use Rattle.rst_accepted.proofs.Rows.{places_of, first_of, RowsPass, rows_pass, left_none, right_none}
use Rattle.rst_flow.proofs.Members.{In, any_in, in_any}
use Rattle.rst_accepted_drivers.proofs.Lists.{of_contains, flat_map_in, none_at, find_in, clash, filter_in, one_of}
use Rattle.rst_accepted_drivers.proofs.Bits.{statement_bit, bit_of}
use Rattle.rst_accepted_drivers.proofs.Counts.{some_counted, one_block}
use Rattle.rst_accepted_drivers.proofs.Numbers.{OfName, everywhere, at_number, named_signal, get_mapped, get_left}
use Rattle.rst_accepted_drivers.proofs.Declared.{no_input_reg}
use Rattle.rst_accepted_units.proofs.Reached.{IsUsed, each_used}
use Rattle.rst_accepted_units.proofs.Seen.{IsRight, room_of, each_right}
use Rattle.rst_accepted_drivers.proofs.Ports.{TopInput, IsPlaced, all_below, front_below, top_placed, child_placed}
use Rattle.rst_accepted_drivers.proofs.Origins.{SetBy, LinkedTo, Origin, Inner, Block, Link, unit_origin, clocked_origin, reset_origin}

-- ---- roles

driven_wired : (us : List PlainDriver) (cs : List PlainProcess) (i : ℕ) → list_any (sets_signal i) cs ≡ false → is_wired (driven_role us cs i) ≡ true
driven_wired us cs i h = by (list_any (sets_signal i) cs) h
  where
    wire : (b : Bool) → is_wired (cond b role.Wire role.Idle) ≡ true
    wire true = refl
    wire false = refl

    block : (b : Bool) (r : Role) → is_wired r ≡ true → is_wired (cond b role.Block r) ≡ true
    block true r e = refl
    block false r e = e

    by : (b : Bool) → b ≡ false → is_wired (cond b role.Register (cond (list_any (sets_signal i) (all_blocks us)) role.Block (cond (list_any (is_of i) (all_assigned us)) role.Wire role.Idle))) ≡ true
    by true e = absurd cc
    by false e = block (list_any (sets_signal i) (all_blocks us)) (cond (list_any (is_of i) (all_assigned us)) role.Wire role.Idle) (wire (list_any (is_of i) (all_assigned us)))

wired : (driven : ℕ → Role) (s : Seen) (i : ℕ) (d : Declared) → is_clock_name (s.leads d.name) ≡ false → (is_top s.prefix && d.input) ≡ false → is_wired (driven i) ≡ true
    → is_wired (flat_role driven s i d) ≡ true
wired driven s i d clock top h =
    ap is_wired (cond-false (is_clock_name (s.leads d.name)) role.Clock (cond (is_top s.prefix && d.input) role.Input (driven i)) clock
    ∙ cond-false (is_top s.prefix && d.input) role.Input (driven i) top) ∙ h

-- what is joined to nothing is no clock
no_clock : (j : Joined) (input : Bool) → ((j ≡ Apart → ⊥) → input ≡ true) → input ≡ false → is_clock_name j ≡ false
no_clock Apart input h e = refl
no_clock (ToInput i) input h e = refl
no_clock ToClock input h e = absurd (clash input e (h (λ f. cc)))

place_in : (base : ℕ) (ps : List Place) (l : Located) → In l (located_from base ps) → In l.place ps
place_in base [] l h = absurd h
place_in base (p ∷ ps) l (inl e) = inl (ap (λ (x : Located). x.place) e)
place_in base (p ∷ ps) l (inr h) = inr (place_in (base + length (signals p.of)) ps l h)

-- ---- an accepted design

module _ (flat : PlainFlat) (e : IsElaborated flat) where
  abbrev modules : List PlainModule
  modules = e.modules

  abbrev top : PlainModule
  top = e.is.of

  abbrev ls : List Located
  ls = located (places_of e)

  abbrev us : List PlainDriver
  us = units ls

  abbrev cs : List PlainProcess
  cs = clocked ls

  abbrev design : PlainFlat
  design = flat_from (first_of e) (places_of e)

  rows : RowsPass flat e
  rows = rows_pass flat e

  drivers : first (flat_faults design) ≡ None
  drivers = subst (λ f. first (flat_faults f) ≡ None) e.is.flat rows.drivers

  targets : first (rows_over target_row ls) ≡ None
  targets =
      left_none (rows_over target_row ls) (rows_over width_row ls ++ rows_over edge_row ls)
      (right_none (rows_over fault_row ls) (rows_over target_row ls ++ (rows_over width_row ls ++ rows_over edge_row ls)) rows.items)

  -- ---- instances

  is_placed : (l : Located) → In l ls → IsPlaced e.clock top l.place
  is_placed l h =
      all_below modules (IsPlaced e.clock top) (child_placed modules e.clock top) 16 (first_of e) (top_placed e.clock top e.top) l.place (place_in 0 (places_of e) l h)

  is_seen : (l : Located) → In l ls → IsRight (room_of modules ls) (seen l)
  is_seen l h = one_of (λ (k : Located). IsRight (room_of modules ls) (seen k)) ls (each_right modules e.top top e.clock e.is.is_top rows.names) l h

  module _ (l : Located) (h : In l ls) where
    is_used_module : In l.place.of (used modules top)
    is_used_module =
        let used_there = one_of (λ (p : Place). IsUsed modules top p.of) (places_of e) (each_used modules (first_of e) (record { name = e.top; is = e.is.is_top })) l.place (place_in 0 (places_of e) l h) in
        filter_in (is_used modules top) modules l.place.of (find_in (λ m. same_text m.name used_there.named.name) modules l.place.of used_there.named.is).0 used_there.used

    once : first (twice l.place.of) ≡ None
    once =
        none_at (module_faults modules Twice) (used modules top) l.place.of
        (none_at (row_faults modules top) (Twice ∷ BadPort ∷ NoName ∷ BadConnect ∷ NoParameter ∷ []) Twice rows.names (inl refl)) is_used_module

    ports_right : first (bad_ports l.place.of) ≡ None
    ports_right =
        none_at (module_faults modules BadPort) (used modules top) l.place.of
        (none_at (row_faults modules top) (Twice ∷ BadPort ∷ NoName ∷ BadConnect ∷ NoParameter ∷ []) BadPort rows.names (inr (inl refl))) is_used_module

    no_reg : (name : Text) → declares is_input (declarations l.place.of) name ≡ true → declares is_reg_form (declarations l.place.of) name ≡ true → ⊥
    no_reg = no_input_reg l.place.of ports_right once

  -- ---- signals by their numbers

  module _ (l : Located) (h : In l ls) (name : Text) (i : ℕ) (of : OfName l name i) where
    abbrev declared : Declared
    declared = signal_named l.place.of name

    declared_there : slice_get (everywhere (λ k numbered. numbered.1) ls) i ≡ Some declared
    declared_there = at_number (λ k numbered. numbered.1) 0 (places_of e) l h of.place declared of.at i (number of.is)
      where
        number : i ≡ l.base + of.place → l.base + of.place ≡ 0 + i
        number f = omega arith

    signal_there : slice_get design.signals i ≡ Some (signal_at us cs l (i, declared))
    signal_there =
        at_number (signal_at us cs) 0 (places_of e) l h of.place declared of.at i (number of.is)
        ∙ ap (λ n. Some (signal_at us cs l (n, declared))) (sym of.is)
      where
        number : i ≡ l.base + of.place → l.base + of.place ≡ 0 + i
        number f = omega arith

    role_there : role_of design.signals i ≡ flat_role (driven_role us cs) (seen l) i declared
    role_there = ap role_in signal_there

    -- a signal that is no input has a role that units may drive, unless a clocked block sets it
    inner : declared.input ≡ false → list_any (sets_signal i) cs ≡ false → is_wired (role_of design.signals i) ≡ true
    inner no_input no_register =
        ap is_wired role_there
        ∙ wired (driven_role us cs) (seen l) i declared (no_clock (joined_of l.place.joins name) declared.input ((is_placed l h).inputs name (joined_of l.place.joins name) refl) no_input)
        (and_right (is_top l.place.prefix) declared.input no_input) (driven_wired us cs i no_register)

  -- a signal that a clocked block sets is a reg
  register_reg : (l : Located) (h : In l ls) (name : Text) (i : ℕ) → OfName l name i → list_any (sets_signal i) cs ≡ true → declares is_reg_form (declarations l.place.of) name ≡ true
  register_reg l h name i of k =
      let one = any_in (sets_signal i) cs k in
      let set = clocked_origin ls targets one.0 i one.1 one.2 in
      let same : signal_named set.instance.place.of set.name ≡ signal_named l.place.of name =
      same_Some (signal_named set.instance.place.of set.name) (signal_named l.place.of name) (sym (declared_there set.instance set.there set.name i set.of) ∙ declared_there l h name i of) in
      ap (λ (d : Declared). d.reg) (sym same) ∙ set.is

  wire_wired : (i : ℕ) → SetBy ls is_wire i → is_wired (role_of design.signals i) ≡ true
  wire_wired i set =
      let l : Located = set.instance in
      let m : PlainModule = l.place.of in
      let kinds = and_parts ((seen l).total set.name).signal _ set.is in
      let both = and_parts (not (declares is_reg_form (declarations m) set.name)) (not (declares is_input (declarations m) set.name)) kinds.1 in
      let no_reg : declares is_reg_form (declarations m) set.name ≡ false = not-true (declares is_reg_form (declarations m) set.name) both.0 in
      let no_input : declares is_input (declarations m) set.name ≡ false = not-true (declares is_input (declarations m) set.name) both.1 in
      inner l set.there set.name i set.of no_input
      (false_from_ne_true (list_any (sets_signal i) cs) (λ k. clash (declares is_reg_form (declarations m) set.name) no_reg (register_reg l set.there set.name i set.of k)))

  block_wired : (i place : ℕ) (process : PlainProcess) → In (Process process) us → drives (Process process) i place ≡ true → SetBy ls is_reg i → is_wired (role_of design.signals i) ≡ true
  block_wired i place process there d set =
      let l : Located = set.instance in
      let m : PlainModule = l.place.of in
      let no_input : declares is_input (declarations m) set.name ≡ false =
      false_from_ne_true (declares is_input (declarations m) set.name) (λ k. no_reg l set.there set.name k set.is) in
      inner l set.there set.name i set.of no_input (false_from_ne_true (list_any (sets_signal i) cs) (λ k.
      let sets : sets_signal i process ≡ true = bit_of i place (sets_of process.body) (statement_bit i place process.body d) in
      let blocks = some_counted (sets_signal i) (all_blocks us) (in_any (sets_signal i) process (all_blocks us) (flat_map_in blocks_of us (Process process) process there (inl refl)) sets) in
      let registers = some_counted (sets_signal i) cs k in
      let few = one_block design drivers i (signal_at us cs l (i, declared l set.there set.name i set.of)) (signal_there l set.there set.name i set.of) in
      omega (arith, blocks, registers, few)))

  link_wired : (i : ℕ) → LinkedTo ls i → is_wired (role_of design.signals i) ≡ true
  link_wired i link =
      let l : Located = link.instance in
      let known = (is_seen l link.there).inputs link.name link.input in
      let number : known.number ≡ i = sym (ap number_or known.is) ∙ link.number in
      let of : OfName l link.name i = subst (OfName l link.name) number (named_signal l link.name known.number known.extent known.is) in
      ap is_wired (role_there l link.there link.name i of)
      ∙ wired (driven_role us cs) (seen l) i (signal_named l.place.of link.name) link.apart (and_left (is_top l.place.prefix) _ link.below)
      (driven_wired us cs i (false_from_ne_true (list_any (sets_signal i) cs) (λ k. no_reg l link.there link.name link.input (register_reg l link.there link.name i of k))))

  design_wired : (unit : PlainDriver) (i place : ℕ) → In unit us → drives unit i place ≡ true → is_wired (role_of design.signals i) ≡ true
  design_wired unit i place h d = by (unit_origin ls targets unit i place h d)
    where
      by : Origin ls unit i → is_wired (role_of design.signals i) ≡ true
      by (Inner set) = wire_wired i set
      by (Block process same set) = block_wired i place process (subst (λ u. In u us) same h) (ap (λ u. drives u i place) (sym same) ∙ d) set
      by (Link link) = link_wired i link

  pub wires : (unit : PlainDriver) (i place : ℕ) → Contains flat.units unit → drives unit i place ≡ true → is_wired (role_of flat.signals i) ≡ true
  wires unit i place within d =
      subst (λ (f : PlainFlat). is_wired (role_of f.signals i) ≡ true) (sym e.is.flat)
      (design_wired unit i place (subst (λ (f : PlainFlat). In unit f.units) e.is.flat (of_contains flat.units unit within)) d)

  -- ---- resets

  top_role : (i : ℕ) → TopInput e.clock top i → role_of design.signals i ≡ role.Input
  top_role i input =
      let l : Located = record { place = first_of e; base = 0 } in
      let front = front_below modules 16 (first_of e) in
      let there : In l ls = subst (λ ps. In l (located_from 0 ps)) (sym front.1) (inl refl) in
      let declared : Declared = signal_named top input.name in
      let of : OfName l input.name i = record {
        place = i;
        at = get_mapped (signal_named top) (ports top ++ inner_names top) i input.name (get_left (ports top) (inner_names top) i input.name input.at);
        is = omega arith;
      } in
      let is_input : declared.input ≡ true = (is_placed l there).inputs input.name (ToInput i) input.leads (λ f. cc) in
      role_there l there input.name i of
      ∙ (cond-false (is_clock_name (joined_of l.place.joins input.name)) role.Clock (cond declared.input role.Input (driven_role us cs i)) (ap is_clock_name input.leads)
      ∙ cond-true declared.input role.Input (driven_role us cs i) is_input)

  design_resets : (process : PlainProcess) (reset : Reset) → In process cs → process.reset ≡ Some reset → role_of design.signals reset.signal ≡ role.Input
  design_resets process reset h f =
      let r = reset_origin ls targets process reset h f in
      top_role reset.signal ((is_placed r.instance r.there).leads r.name reset.signal r.leads)

  pub resets : (process : PlainProcess) (reset : Reset) → Contains flat.clocked process → process.reset ≡ Some reset → role_of flat.signals reset.signal ≡ role.Input
  resets process reset within f =
      subst (λ (x : PlainFlat). role_of x.signals reset.signal ≡ role.Input) (sym e.is.flat)
      (design_resets process reset (subst (λ (x : PlainFlat). In process x.clocked) e.is.flat (of_contains flat.clocked process within)) f)
