-- Combinational and clocked blocks fit, where their sets are of the right kind.
use Rattle.std.proofs.Common.{◌≡◌, ℕ, Bool, true, false, not, ◌||◌, cond, [], None, is_some, refl}
use Rattle.rst_tree.specs.Trees.{Text}
use Rattle.rst_tree.specs.Statements as tree
use Rattle.rst_tree.specs.Modules.{PlainAlways}
use Rattle.rst_width.specs.Scopes.{Names}
use Rattle.rst_net.specs.Units.{Process}
use Rattle.rst_names.specs.Faults.{first}
use Rattle.rst_typing.specs.Typing.{typed_or, target_answer, is_settable, typed_stmt, stmt_faults}
use Rattle.rst_blocks.specs.Sets.{first_set}
use Rattle.rst_statement_values.specs.Fits.{StatementFits}
use Rattle.rst_items.specs.ResetForms.{bare_stmt}
use Rattle.rst_items.specs.Seen.{Seen}
use Rattle.rst_items.specs.Items.{block_in, clocked_block, is_signal_at}
use Rattle.rst_items.specs.ResetForms.{form_in}
use Rattle.rst_items.specs.ItemRows.{sets_all, has_bad_set, have_bad_set, arms_have_bad_set}
use Rattle.rst_typed_fits.specs.Kinds.{AreSettable, AllSettable, ArmsSettable}
use Rattle.rst_typed_fits.proofs.Leaves.{none_first, none_both}
use Rattle.rst_typed_fits.proofs.Fitting.{stmt_targets, stmt_fits, stmt_sound}
use Rattle.rst_typed_fits.proofs.OneKind.{one_kind}
use Rattle.rst_accepted_units.proofs.Seen.{IsRight}
use Rattle.rst_accepted_units.proofs.Sets.{UnitFits}

neither : (a b : Bool) → (a || b) ≡ false → (a ≡ false) × (b ≡ false)
neither true b h = absurd cc
neither false b h = (refl, h)

good_target : (a b : Bool) → (not a || not b) ≡ false → b ≡ true
good_target true true h = refl
good_target true false h = absurd cc
good_target false b h = absurd cc

-- where no target is bad, each can be set
module _ (names : Names) (kind : Text → Bool) where
  mutual
    pub settable : (s : tree.Statement) → has_bad_set names kind s ≡ false → AreSettable names s
    settable (tree.Block ss) h = all_settable ss h
    settable (tree.If c s) h = settable s h
    settable (tree.IfElse c s t) h = let parts = neither (has_bad_set names kind s) (has_bad_set names kind t) h in (settable s parts.0, settable t parts.1)
    settable (tree.Case wild e arms) h = arms_settable arms h
    settable (tree.Set t e blocking) h = good_target (sets_all kind t) (is_settable (typed_or (target_answer names t))) h
    settable tree.Empty h = tt

    all_settable : (ss : tree.Statements) → have_bad_set names kind ss ≡ false → AllSettable names ss
    all_settable tree.end h = tt
    all_settable (tree.more s ss) h = let parts = neither (has_bad_set names kind s) (have_bad_set names kind ss) h in (settable s parts.0, all_settable ss parts.1)

    arms_settable : (arms : tree.Arms) → arms_have_bad_set names kind arms ≡ false → ArmsSettable names arms
    arms_settable tree.no_arm h = tt
    arms_settable (tree.labels es s others) h = let parts = neither (has_bad_set names kind s) (arms_have_bad_set names kind others) h in (settable s parts.0, arms_settable others parts.1)
    arms_settable (tree.otherwise s others) h = let parts = neither (has_bad_set names kind s) (arms_have_bad_set names kind others) h in (settable s parts.0, arms_settable others parts.1)

-- what holds of a statement holds of it without the `begin` and `end` that hold nothing else
module _ (names : Names) where
  bare_faults : (s : tree.Statement) → stmt_faults names s ≡ [] → stmt_faults names (bare_stmt s) ≡ []
  bare_faults (tree.Block (tree.more s tree.end)) h = bare_faults s (none_both (stmt_faults names s) [] h).0
  bare_faults s h = h

  bare_settable : (s : tree.Statement) → AreSettable names s → AreSettable names (bare_stmt s)
  bare_settable (tree.Block (tree.more s tree.end)) h = bare_settable s h.0
  bare_settable s h = h

module _ (room : ℕ → ℕ) (s : Seen) (right : IsRight room s) where
  -- a statement whose sets are all of one kind
  kind_fits : (b : Bool) (body : tree.Statement) → stmt_faults s.names body ≡ [] → AreSettable s.names body → first_set (not b) (typed_stmt s.names body) ≡ None
      → StatementFits room b (typed_stmt s.names body)
  kind_fits b body none can only =
      stmt_fits room s.names right.meanings right.widths b body none (one_kind b (typed_stmt s.names body) (stmt_targets s.names right.meanings body none can) only)

  pub block_fits : (kind : Text → Bool) (path : Text) (item : ℕ) (a : PlainAlways) → first (stmt_faults s.names a.body) ≡ None → has_bad_set s.names kind a.body ≡ false
      → UnitFits room (Process (block_in s.names path item a))
  block_fits kind path item a none can = record {
    sound = stmt_sound room s.names right.meanings right.widths a.body (none_first (stmt_faults s.names a.body) none);
    fits = λ only. kind_fits true a.body (none_first (stmt_faults s.names a.body) none) (settable s.names kind a.body can) only;
  }

  body_fits : (form : Bool) (body : tree.Statement) → stmt_faults s.names body ≡ [] → AreSettable s.names body → first_set true (typed_stmt s.names (cond form (bare_stmt body) body)) ≡ None
      → StatementFits room false (typed_stmt s.names (cond form (bare_stmt body) body))
  body_fits true body none can only = kind_fits false (bare_stmt body) (bare_faults s.names body none) (bare_settable s.names body can) only
  body_fits false body none can only = kind_fits false body none can only

  pub clocked_fits : (kind : Text → Bool) (item : ℕ) (a : PlainAlways) → first (stmt_faults s.names a.body) ≡ None → has_bad_set s.names kind a.body ≡ false
      → first_set true (clocked_block s item a).body ≡ None → StatementFits room false (clocked_block s item a).body
  clocked_fits kind item a none can only =
      body_fits (is_some (form_in (is_signal_at s) a.events a.body)) a.body (none_first (stmt_faults s.names a.body) none) (settable s.names kind a.body can) only
