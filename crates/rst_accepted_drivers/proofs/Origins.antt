-- Where the units and the clocked blocks of a design come from, and so what they set.
use Rattle.std.proofs.Common.{◌≡◌, ◌∙◌, ℕ, Bool, true, false, cond, not, ◌&&◌, List, [], ◌∷◌, ◌++◌, Option, Some, None, is_some, refl, sym, ap, inl, inr}
use Rattle.std.specs.List.{list_any, enumerate_from}
use Rattle.std.specs.Option.{option_map}
use Rattle.std.proofs.lemmas.Bool.{or_parts, or_cases, not-false, eqb-true}
use Rattle.std.proofs.lemmas.Option.{same_Some}
use Rattle.rst_tree.specs.Trees.{Text, Tree}
use Rattle.rst_tree.specs.Targets as target
use Rattle.rst_tree.specs.Modules.{PlainNetDecl, PlainNetName, PlainAssign, PlainAlways, PlainCopied, PlainInstance, PlainItem}
use Rattle.rst_tree.specs.Modules as tree
use Rattle.rst_net.specs.declared.signal.Slice.{Slice}
use Rattle.rst_net.specs.declared.unit.Reset.{Reset}
use Rattle.rst_net.specs.Statements.{PlainSet, Statement}
use Rattle.rst_net.specs.Units.{PlainDriver, PlainProcess, Assign, Process}
use Rattle.rst_names.specs.declared.faults.ElabCode.TheVariants as code
use Rattle.rst_names.specs.Faults.{first}
use Rattle.rst_names.specs.Names.{same_text}
use Rattle.rst_names.specs.Declarations.{declarations, declares, is_input}
use Rattle.rst_names.proofs.TableLemmas.{one_text}
use Rattle.rst_instances.specs.Parameters.{Linked, links_to}
use Rattle.rst_instances.specs.Places.{Joined, ToInput, Located, joined_of, names_at, copy_of, dot}
use Rattle.rst_typing.specs.Typing.{typed_set, typed_stmt}
use Rattle.rst_items.specs.Seen.{Seen, seen, Placed, placed}
use Rattle.rst_items.specs.ResetForms.{ResetForm, form_in, is_clocked}
use Rattle.rst_items.specs.Items.{number_at, set_by, wire_unit, assign_unit, input_set, output_set, link_set, is_clock_name, link_units, over_links, block_in, reset_to, reset_of, clocked_body, is_signal_at, clocked_block, item_units, unit_row, item_clocked, clocked_row, of_instance, units, clocked}
use Rattle.rst_items.specs.ItemRows.{is_wire, is_reg, is_target_of, is_bad_target, is_bad_output, is_bad_link, has_bad_link, has_bad_set, is_bad_wire, is_bad_assign, has_bad_target, target_faults, target_row, rows_over}
use Rattle.rst_drivers.specs.Drives.{is_of, sets_of, sets_signal}
use Rattle.rst_cycle.specs.Drivers.{target_has, drives}
use Rattle.rst_elab.specs.Flats.{is_top}
use Rattle.rst_flow.proofs.Members.{In}
use Rattle.rst_accepted_drivers.proofs.Lists.{Source, in_flat_map, in_map, in_one, find_in, none_at, no_fault, none_any}
use Rattle.rst_accepted_drivers.proofs.Bits.{target_bit, statement_bit, bit_of}
use Rattle.rst_accepted_drivers.proofs.Numbers.{OfName, named_signal}
use Rattle.rst_accepted_drivers.proofs.Targets.{AllOf, Passes, tree_slices, place_slices, stmt_slices, clocked_slices, of_signal}

-- a signal that is one of a name of this kind, in one of these instances
pub record SetBy (ls : List Located) (kind : Seen → Text → Bool) (i : ℕ) : Type 0 where
  pub instance : Located
  pub there : In instance ls
  pub name : Text
  pub of : OfName instance name i
  pub is : kind (seen instance) name ≡ true

-- a signal that is an input of an instance below the top, and no clock
pub record LinkedTo (ls : List Located) (i : ℕ) : Type 0 where
  pub instance : Located
  pub there : In instance ls
  pub below : is_top instance.place.prefix ≡ false
  pub name : Text
  pub input : declares is_input (declarations instance.place.of) name ≡ true
  pub apart : is_clock_name (joined_of instance.place.joins name) ≡ false
  pub number : number_at (names_at instance) name ≡ i

pub data Origin (ls : List Located) (unit : PlainDriver) (i : ℕ) : Type 0 where
  Inner : SetBy ls is_wire i → Origin ls unit i
  Block : (process : PlainProcess) → unit ≡ Process process → SetBy ls is_reg i → Origin ls unit i
  Link : LinkedTo ls i → Origin ls unit i

module _ (ls : List Located) (none : first (rows_over target_row ls) ≡ None) (l : Located) (there : In l ls) where
  abbrev s : Seen
  s = seen l

  abbrev at : Placed
  at = placed ls l

  abbrev here : (Seen → Text → Bool) → ℕ → Type 0
  here kind i = SetBy ls kind i

  passes : (kind : Seen → Text → Bool) (n : Text) → kind s n ≡ true → Passes (here kind) (names_at l n)
  passes kind n h i x e = record { instance = l; there = there; name = n; of = named_signal l n i x e; is = h }

  good_target : (numbered : ℕ × PlainItem) → In numbered (enumerate_from 1 l.place.of.items) → has_bad_target at s numbered.1 ≡ false
  good_target numbered h =
      no_fault (has_bad_target at s numbered.1) code.BadTarget s.path numbered.0
      (none_at (target_faults at s) (enumerate_from 1 l.place.of.items) numbered (none_at (of_instance target_row ls) ls l none there) h)

  -- ---- sets and blocks

  module _ (i place : ℕ) where
    set_signal : (kind : Seen → Text → Bool) (set : PlainSet) → AllOf (here kind) set.target → drives (Assign set) i place ≡ true → here kind i
    set_signal kind set all h = of_signal (here kind) set.target i all (bit_of i place set.target (target_bit i place set.target h))

    place_signal : (t : target.Place) (e : Tree) (u : PlainDriver) → is_bad_target s.names (is_wire s) t ≡ false → set_by s.names t e ≡ u → drives u i place ≡ true → here is_wire i
    place_signal t e u good same h =
        set_signal is_wire (typed_set s.names t e true) (place_slices (here is_wire) s.names (is_wire s) (passes is_wire) t good) (ap (λ (x : PlainDriver). drives x i place) same ∙ h)

    wire_origin : (n : PlainNetName) (u : PlainDriver) → is_bad_wire s n ≡ false → In u (wire_unit s.names n) → drives u i place ≡ true → here is_wire i
    wire_origin n u good h d = by n.value good h
      where
        by : (v : Option Tree) → (is_some v && is_bad_target s.names (is_wire s) (target.Whole n.name)) ≡ false
            → In u (elim v as (λ _. List PlainDriver) [ None ↦ [] | Some e ↦ set_by s.names (target.Whole n.name) e ∷ [] ]) → here is_wire i
        by None k w = absurd w
        by (Some e) k w = place_signal (target.Whole n.name) e u k (in_one (set_by s.names (target.Whole n.name) e) u w) d

    block_signal : (n : ℕ) (a : PlainAlways) (u : PlainDriver) → has_bad_set s.names (is_reg s) a.body ≡ false → In u (cond (is_clocked a.events) [] (Process (block_in s.names s.path n a) ∷ []))
        → drives u i place ≡ true → Origin ls u i
    block_signal n a u good h d = by (is_clocked a.events) h
      where
        by : (b : Bool) → In u (cond b [] (Process (block_in s.names s.path n a) ∷ [])) → Origin ls u i
        by true k = absurd k
        by false k =
            let same : Process (block_in s.names s.path n a) ≡ u = in_one (Process (block_in s.names s.path n a)) u k in
            let body : Statement = typed_stmt s.names a.body in
            Block (block_in s.names s.path n a) (sym same)
            (of_signal (here is_reg) (sets_of body) i (stmt_slices (here is_reg) s.names (is_reg s) (passes is_reg) a.body good)
            (bit_of i place (sets_of body) (statement_bit i place body (ap (λ (x : PlainDriver). drives x i place) same ∙ d))))

    -- ---- links

    one_slice : (slice : Slice) → target_has (slice ∷ []) i place ≡ true → slice.signal ≡ i
    one_slice slice h = alone (bit_of i place (slice ∷ []) (target_bit i place (slice ∷ []) h))
      where
        alone : list_any (is_of i) (slice ∷ []) ≡ true → slice.signal ≡ i
        alone k = elim (or_cases (is_of i slice) false k) [
          | inl e ↦ eqb-true slice.signal i e
          | inr e ↦ absurd cc
        ]

    link_origin : (c : PlainCopied) (k : Located) (x : Linked) (u : PlainDriver) → copy_of ls l c ≡ Some k → is_bad_link s (seen k) x ≡ false
        → In u (link_units s.names (seen k) x) → drives u i place ≡ true → Origin ls u i
    link_origin c k x u found good h d = by (is_clock_name (joined_of k.place.joins x.name)) refl h
      where
        prefix : k.place.prefix ≡ (l.place.prefix ++ c.name) ++ dot
        prefix = one_text k.place.prefix ((l.place.prefix ++ c.name) ++ dot) (find_in (λ y. same_text y.place.prefix ((l.place.prefix ++ c.name) ++ dot)) ls k found).1

        no_top : (t : Text) → is_top (t ++ dot) ≡ false
        no_top [] = refl
        no_top (y ∷ t) = refl

        by_input : (b : Bool) → ((seen k).total x.name).input ≡ b → is_clock_name (joined_of k.place.joins x.name) ≡ false → (not b && is_bad_output s.names (is_wire s) x.value) ≡ false
            → drives (Assign (cond b (input_set s.names (seen k) x) (output_set s.names (seen k) x))) i place ≡ true → Origin ls u i
        by_input true e apart g w = Link (record {
          instance = k;
          there = (find_in (λ y. same_text y.place.prefix ((l.place.prefix ++ c.name) ++ dot)) ls k found).0;
          below = ap is_top prefix ∙ no_top (l.place.prefix ++ c.name);
          name = x.name;
          input = e;
          apart = apart;
          number = one_slice (record { signal = number_at (names_at k) x.name; low = 0; width = (seen k).width x.name }) w;
        })
        by_input false e apart g w =
            Inner (set_signal is_wire (output_set s.names (seen k) x)
            (tree_slices (here is_wire) s.names (is_wire s) (passes is_wire) x.value (not-false (is_target_of (is_wire s) x.value) (or_parts (not (is_target_of (is_wire s) x.value)) _ g).0)) w)

        by : (b : Bool) → is_clock_name (joined_of k.place.joins x.name) ≡ b → In u (cond b [] (Assign (link_set s.names (seen k) x) ∷ [])) → Origin ls u i
        by true e w = absurd w
        by false e w =
            let same : Assign (link_set s.names (seen k) x) ≡ u = in_one (Assign (link_set s.names (seen k) x)) u w in
            by_input ((seen k).total x.name).input refl e good (ap (λ (y : PlainDriver). drives y i place) same ∙ d)

    copy_origin : (c : PlainCopied) (u : PlainDriver) → has_bad_link s c (at c) ≡ false → In u (over_links (link_units s.names) c (at c)) → drives u i place ≡ true → Origin ls u i
    copy_origin c u good h d = by (copy_of ls l c) refl good h
      where
        by : (o : Option Located) → copy_of ls l c ≡ o → has_bad_link s c (option_map seen o) ≡ false → In u (over_links (link_units s.names) c (option_map seen o)) → Origin ls u i
        by None e g w = absurd w
        by (Some k) e g w =
            let one : Source Linked PlainDriver (link_units s.names (seen k)) (links_to (seen k).port_names c.ports) u =
            in_flat_map (link_units s.names (seen k)) (links_to (seen k).port_names c.ports) u w in
            link_origin c k one.of u e (none_any (is_bad_link s (seen k)) (links_to (seen k).port_names c.ports) one.of g one.there) one.within d

    -- ---- items

    item_origin : (n : ℕ) (x : PlainItem) (u : PlainDriver) → has_bad_target at s x ≡ false → In u (item_units at s (n, x)) → drives u i place ≡ true → Origin ls u i
    item_origin n (tree.Net d) u good h k =
        let one = in_flat_map (wire_unit s.names) d.names u h in
        Inner (wire_origin one.of u (none_any (is_bad_wire s) d.names one.of good one.there) one.within k)
    item_origin n (tree.Assigns as') u good h k =
        let one = in_map (assign_unit s.names) as' u h in
        Inner (place_signal one.of.target one.of.value u (none_any (is_bad_assign s) as' one.of good one.there) one.is k)
    item_origin n (tree.AlwaysBlock a) u good h k = block_signal n a u good h k
    item_origin n (tree.Instances j) u good h k =
        let one : Source PlainCopied PlainDriver (λ c. over_links (link_units s.names) c (at c)) j.copies u = in_flat_map (λ c. over_links (link_units s.names) c (at c)) j.copies u h in
        copy_origin one.of u (none_any (λ c. has_bad_link s c (at c)) j.copies one.of good one.there) one.within k
    item_origin n (tree.Port d) u good h k = absurd h
    item_origin n (tree.Params d) u good h k = absurd h

    pub instance_origin : (u : PlainDriver) → In u (unit_row at s l.place.of.items) → drives u i place ≡ true → Origin ls u i
    instance_origin u h d =
        let one : Source (ℕ × PlainItem) PlainDriver (item_units at s) (enumerate_from 1 l.place.of.items) u = in_flat_map (item_units at s) (enumerate_from 1 l.place.of.items) u h in
        item_origin one.of.0 one.of.1 u (good_target one.of one.there) one.within d

  -- ---- clocked blocks

  pub record Clocked (p : PlainProcess) : Type 0 where
    pub number : ℕ
    pub block : PlainAlways
    pub item : In (number, tree.AlwaysBlock block) (enumerate_from 1 l.place.of.items)
    pub is : clocked_block s number block ≡ p

  item_clock : (numbered : ℕ × PlainItem) (p : PlainProcess) → In numbered (enumerate_from 1 l.place.of.items) → In p (item_clocked s numbered) → Clocked p
  item_clock numbered p h w = by numbered.0 numbered.1 h w
    where
      one : (n : ℕ) (a : PlainAlways) (b : Bool) → In (n, tree.AlwaysBlock a) (enumerate_from 1 l.place.of.items) → In p (cond b (clocked_block s n a ∷ []) []) → Clocked p
      one n a true h w = record { number = n; block = a; item = h; is = in_one (clocked_block s n a) p w }
      one n a false h w = absurd w

      by : (n : ℕ) (x : PlainItem) → In (n, x) (enumerate_from 1 l.place.of.items) → In p (item_clocked s (n, x)) → Clocked p
      by n (tree.AlwaysBlock a) h w = one n a (is_clocked a.events) h w
      by n (tree.Net d) h w = absurd w
      by n (tree.Assigns as') h w = absurd w
      by n (tree.Instances j) h w = absurd w
      by n (tree.Port d) h w = absurd w
      by n (tree.Params d) h w = absurd w

  in_clocked : (p : PlainProcess) → In p (clocked_row at s l.place.of.items) → Clocked p
  in_clocked p h =
      let one : Source (ℕ × PlainItem) PlainProcess (item_clocked s) (enumerate_from 1 l.place.of.items) p = in_flat_map (item_clocked s) (enumerate_from 1 l.place.of.items) p h in
      item_clock one.of p one.there one.within

  pub clocked_sets : (p : PlainProcess) (i : ℕ) → In p (clocked_row at s l.place.of.items) → sets_signal i p ≡ true → here is_reg i
  clocked_sets p i h k =
      let c = in_clocked p h in
      let form : Option ResetForm = form_in (is_signal_at s) c.block.events c.block.body in
      of_signal (here is_reg) (sets_of (typed_stmt s.names (clocked_body form c.block.body))) i
      (clocked_slices (here is_reg) s.names (is_reg s) (passes is_reg) form c.block.body (good_target (c.number, tree.AlwaysBlock c.block) c.item))
      (ap (sets_signal i) c.is ∙ k)

  pub reset_leads : (p : PlainProcess) (reset : Reset) → In p (clocked_row at s l.place.of.items) → p.reset ≡ Some reset → (name : Text) × (joined_of l.place.joins name ≡ ToInput reset.signal)
  reset_leads p reset h e =
      let c = in_clocked p h in
      by (form_in (is_signal_at s) c.block.events c.block.body) (ap (λ (x : PlainProcess). x.reset) c.is ∙ e)
    where
      to : (name : Text) (level : Bool) (j : Joined) → joined_of l.place.joins name ≡ j → reset_to level j ≡ Some reset → (name : Text) × (joined_of l.place.joins name ≡ ToInput reset.signal)
      to name level (ToInput i) f g =
          let same : record { signal = i; level = level } ≡ reset = same_Some (record { signal = i; level = level }) reset g in
          (name, f ∙ ap (λ (r : Reset). ToInput r.signal) same)
      to name level _ f g = absurd cc

      by : (form : Option ResetForm) → reset_of s.leads form ≡ Some reset → (name : Text) × (joined_of l.place.joins name ≡ ToInput reset.signal)
      by None f = absurd cc
      by (Some form) f = to form.reset form.level (joined_of l.place.joins form.reset) refl f

-- ---- over all instances

module _ (ls : List Located) (none : first (rows_over target_row ls) ≡ None) where
  pub unit_origin : (u : PlainDriver) (i place : ℕ) → In u (units ls) → drives u i place ≡ true → Origin ls u i
  unit_origin u i place h d =
      let one : Source Located PlainDriver (of_instance unit_row ls) ls u = in_flat_map (of_instance unit_row ls) ls u h in
      instance_origin ls none one.of one.there i place u one.within d

  pub clocked_origin : (p : PlainProcess) (i : ℕ) → In p (clocked ls) → sets_signal i p ≡ true → SetBy ls is_reg i
  clocked_origin p i h k =
      let one : Source Located PlainProcess (of_instance clocked_row ls) ls p = in_flat_map (of_instance clocked_row ls) ls p h in
      clocked_sets ls none one.of one.there p i one.within k

  -- what the reset of a clocked block is
  pub record ResetAt (reset : Reset) : Type 0 where
    pub instance : Located
    pub there : In instance ls
    pub name : Text
    pub leads : joined_of instance.place.joins name ≡ ToInput reset.signal

  pub reset_origin : (p : PlainProcess) (reset : Reset) → In p (clocked ls) → p.reset ≡ Some reset → ResetAt reset
  reset_origin p reset h e =
      let one : Source Located PlainProcess (of_instance clocked_row ls) ls p = in_flat_map (of_instance clocked_row ls) ls p h in
      let found = reset_leads ls none one.of one.there p reset one.within e in
      record { instance = one.of; there = one.there; name = found.0; leads = found.1 }
