-- What the items of an instance become fits.
use Rattle.std.proofs.Common.{◌≡◌, ℕ, ◌+◌, Bool, true, false, cond, List, [], ◌∷◌, Some, None, refl}
use Rattle.std.specs.List.{AllByRecursion, flat_map, enumerate_from}
use Rattle.rst_tree.specs.Trees.{Text}
use Rattle.rst_tree.specs.Modules.{PlainNetName, PlainAssign, PlainCopied, PlainItem}
use Rattle.rst_tree.specs.Modules as tree
use Rattle.rst_net.specs.Units.{PlainProcess, Process}
use Rattle.rst_names.specs.declared.faults.ElabCode.TheVariants as code
use Rattle.rst_names.specs.Faults.{first, fault_if}
use Rattle.rst_blocks.specs.Sets.{first_set}
use Rattle.rst_statement_values.specs.Fits.{StatementFits}
use Rattle.rst_items.specs.ResetForms.{is_clocked}
use Rattle.rst_items.specs.Seen.{Seen, Placed}
use Rattle.rst_items.specs.Items.{wire_unit, assign_unit, block_in, clocked_block, item_units, unit_row, item_clocked, clocked_row}
use Rattle.rst_items.specs.ItemRows.{wire_faults, assign_faults, item_faults, at_item, faults_in, fault_row, is_reg, has_bad_target, target_faults, target_row, item_widths, width_row}
use Rattle.rst_accepted.proofs.Rows.{left_none, right_none}
use Rattle.rst_accepted_units.proofs.Lists.{each_weaker, each_map, each_flat, each_joined, none_in_each, none_mapped}
use Rattle.rst_accepted_units.proofs.Seen.{IsRight}
use Rattle.rst_accepted_units.proofs.Sets.{UnitFits, wire_fits, assign_fits}
use Rattle.rst_accepted_units.proofs.Links.{copies_fit}
use Rattle.rst_accepted_units.proofs.Blocks.{block_fits, clocked_fits}

-- the body of a clocked block fits where its sets are nonblocking
pub record BlockFits (room : ℕ → ℕ) (block : PlainProcess) : Type 0 where
  pub fits : first_set true block.body ≡ None → StatementFits room false block.body

no_fault : (b : Bool) (name : Text) (n : ℕ) → first (fault_if b code.BadTarget name n) ≡ None → b ≡ false
no_fault true name n none = absurd cc
no_fault false name n none = refl

module _ (room : ℕ → ℕ) (placed : Placed) (s : Seen) (right : IsRight room s) (ports : (c : PlainCopied) (k : Seen) → placed c ≡ Some k → IsRight room k) where
  -- no row finds a fault in an item
  record Passes (n : ℕ) (x : PlainItem) : Type 0 where
    pub typed : first (item_faults placed s x) ≡ None
    pub targets : has_bad_target placed s x ≡ false
    pub widths : first (item_widths placed s x) ≡ None

  item_fits : (n : ℕ) (x : PlainItem) → Passes n x → AllByRecursion (UnitFits room) (item_units placed s (n, x))
  item_fits n (tree.Net d) h =
      each_flat (λ (w : PlainNetName). first (wire_faults s.names w) ≡ None) (UnitFits room) (wire_unit s.names) (λ w none. wire_fits room s right w none) d.names
      (none_in_each (wire_faults s.names) d.names h.typed)
  item_fits n (tree.Assigns as') h =
      each_map (UnitFits room) (assign_unit s.names) as'
      (each_weaker (λ (a : PlainAssign). first (assign_faults s.names a) ≡ None) (λ (a : PlainAssign). UnitFits room (assign_unit s.names a)) (λ a none. assign_fits room s right a none) as'
      (none_in_each (assign_faults s.names) as' h.typed))
  item_fits n (tree.AlwaysBlock a) h = by (is_clocked a.events)
    where
      by : (b : Bool) → AllByRecursion (UnitFits room) (cond b [] (Process (block_in s.names s.path n a) ∷ []))
      by true = tt
      by false = (block_fits room s right (is_reg s) s.path n a h.typed h.targets, tt)
  item_fits n (tree.Instances i) h = copies_fit room s right placed ports i.copies h.typed h.widths
  item_fits n (tree.Port d) h = tt
  item_fits n (tree.Params d) h = tt

  item_clocked_fits : (n : ℕ) (x : PlainItem) → Passes n x → AllByRecursion (BlockFits room) (item_clocked s (n, x))
  item_clocked_fits n (tree.AlwaysBlock a) h = by (is_clocked a.events)
    where
      by : (b : Bool) → AllByRecursion (BlockFits room) (cond b (clocked_block s n a ∷ []) [])
      by true = (record { fits = λ only. clocked_fits room s right (is_reg s) n a h.typed h.targets only }, tt)
      by false = tt
  item_clocked_fits n (tree.Net d) h = tt
  item_clocked_fits n (tree.Assigns as') h = tt
  item_clocked_fits n (tree.Instances i) h = tt
  item_clocked_fits n (tree.Port d) h = tt
  item_clocked_fits n (tree.Params d) h = tt

  -- ---- all items

  -- what is left of the rows from an item on
  record Left (n : ℕ) (items : List PlainItem) : Type 0 where
    pub typed : first (flat_map (faults_in placed s) (enumerate_from n items)) ≡ None
    pub targets : first (flat_map (target_faults placed s) (enumerate_from n items)) ≡ None
    pub widths : first (flat_map (item_widths placed s) items) ≡ None

  head : (n : ℕ) (x : PlainItem) (items : List PlainItem) → Left n (x ∷ items) → Passes n x
  head n x items h = record {
    typed = none_mapped (at_item s n) (item_faults placed s x) (left_none (faults_in placed s (n, x)) (flat_map (faults_in placed s) (enumerate_from (n + 1) items)) h.typed);
    targets = no_fault (has_bad_target placed s x) s.path n (left_none (target_faults placed s (n, x)) (flat_map (target_faults placed s) (enumerate_from (n + 1) items)) h.targets);
    widths = left_none (item_widths placed s x) (flat_map (item_widths placed s) items) h.widths;
  }

  tail : (n : ℕ) (x : PlainItem) (items : List PlainItem) → Left n (x ∷ items) → Left (n + 1) items
  tail n x items h = record {
    typed = right_none (faults_in placed s (n, x)) (flat_map (faults_in placed s) (enumerate_from (n + 1) items)) h.typed;
    targets = right_none (target_faults placed s (n, x)) (flat_map (target_faults placed s) (enumerate_from (n + 1) items)) h.targets;
    widths = right_none (item_widths placed s x) (flat_map (item_widths placed s) items) h.widths;
  }

  units_from : (n : ℕ) (items : List PlainItem) → Left n items → AllByRecursion (UnitFits room) (flat_map (item_units placed s) (enumerate_from n items))
  units_from n [] h = tt
  units_from n (x ∷ items) h =
      each_joined (UnitFits room) (item_units placed s (n, x)) (flat_map (item_units placed s) (enumerate_from (n + 1) items))
      (item_fits n x (head n x items h)) (units_from (n + 1) items (tail n x items h))

  clocked_from : (n : ℕ) (items : List PlainItem) → Left n items → AllByRecursion (BlockFits room) (flat_map (item_clocked s) (enumerate_from n items))
  clocked_from n [] h = tt
  clocked_from n (x ∷ items) h =
      each_joined (BlockFits room) (item_clocked s (n, x)) (flat_map (item_clocked s) (enumerate_from (n + 1) items))
      (item_clocked_fits n x (head n x items h)) (clocked_from (n + 1) items (tail n x items h))

  pub row_fits : (items : List PlainItem) → first (fault_row placed s items) ≡ None → first (target_row placed s items) ≡ None → first (width_row placed s items) ≡ None → AllByRecursion (UnitFits room) (unit_row placed s items)
  row_fits items typed targets widths = units_from 1 items (record { typed = typed; targets = targets; widths = widths })

  pub clocked_row_fits : (items : List PlainItem) → first (fault_row placed s items) ≡ None → first (target_row placed s items) ≡ None → first (width_row placed s items) ≡ None → AllByRecursion (BlockFits room) (clocked_row placed s items)
  clocked_row_fits items typed targets widths = clocked_from 1 items (record { typed = typed; targets = targets; widths = widths })
