use Rattle.std.proofs.Common.{◌∙◌, ◌≡◌, ℕ, false, arith, sym, ap, subst, map, length}
use Rattle.std.proofs.lemmas.List.{length-map}
use Rattle.rst_net.specs.Units.{plain_signal, plain_process}
use Rattle.rst_cycle.specs.Signals.{width_of}
use Rattle.rst_lower.specs.WireWords.{widths_of}
use Rattle.rst_statement_values.specs.Fits.{StatementFits}
use Rattle.rst_statement_terms.specs.Weights.{statement_weight}
use Rattle.rst_reset_gates.specs.NodeWords.{IsBlank}
use Rattle.rst_reset_gates.specs.Tables.{IsTable}
use Rattle.rst_reset_gates.proofs.Blanks.{blank_is, blank_widths, blank_long}
use Rattle.rst_reset_gates.proofs.TableLemmas.{no_table, no_processes, table_narrow, process_fits, process_light, processes_turn}
use Rattle.rst_reset_gates.proofs.resets.resets_of.Goals as goal

pub loop-k-init : goal.loop-k-init
loop-k-init c =
    let signals = map plain_signal c.args.signals.now in
    let none = ap (map plain_process) (no_processes c.args.processes.now) in
    record {
      same = c.in_ok-wires.ensures;
      table = subst (λ ps. IsTable signals ps c.in_ok-table.table) (sym none) (subst (IsTable signals _) (sym c.in_ok-table.ensures) (no_table signals));
    }

pub put_process-requires-clause-blank : goal.put_process-requires-clause-blank
put_process-requires-clause-blank c = subst IsBlank (sym c.in_ok-blank.ensures) (blank_is (map plain_signal c.args.signals.now))

pub put_process-requires-clause-rows : goal.put_process-requires-clause-rows
put_process-requires-clause-rows c =
    let signals = map plain_signal c.args.signals.now in
    λ i.
    let narrow = table_narrow signals _ c.loop-k.table c.loop-k.invariant.table i in
    let wide = ap (λ ws. widths_of ws i) c.in_ok-blank.ensures ∙ blank_widths signals i in
    omega (arith, narrow, wide)

pub put_process-requires-clause-fit : goal.put_process-requires-clause-fit
put_process-requires-clause-fit c =
    let signals = map plain_signal c.args.signals.now in
    let wide : widths_of c.in_ok-blank.blank ≡ width_of signals = λ j i. (ap (λ ws. widths_of ws i) c.in_ok-blank.ensures ∙ blank_widths signals i) j in
    let test = c.loop-k-test.true in
    subst (λ (f : ℕ → ℕ). StatementFits f false (plain_process c.index-processes-count.result).body) (sym wide)
    (process_fits (width_of signals) c.args.processes.now _ c.index-processes-count.result (omega (arith, test)) c.index-processes-count.is c.requires.fit)

pub put_process-requires-clause-at_most_64 : goal.put_process-requires-clause-at_most_64
put_process-requires-clause-at_most_64 c =
    let signals = map plain_signal c.args.signals.now in
    λ i.
    let wide = ap (λ ws. widths_of ws i) c.in_ok-blank.ensures ∙ blank_widths signals i in
    let most = c.requires.at_most_64 i in
    omega (arith, wide, most)

pub put_process-requires-clause-room : goal.put_process-requires-clause-room
put_process-requires-clause-room c =
    let signals = map plain_signal c.args.signals.now in
    let ps = c.args.processes.now in
    let body = (plain_process c.index-processes-count.result).body in
    let wide : widths_of c.in_ok-blank.blank ≡ width_of signals = λ j i. (ap (λ ws. widths_of ws i) c.in_ok-blank.ensures ∙ blank_widths signals i) j in
    let long : length c.in_ok-blank.blank ≡ length c.args.signals.now = ap length c.in_ok-blank.ensures ∙ (blank_long signals ∙ length-map c.args.signals.now plain_signal) in
    let test = c.loop-k-test.true in
    let light = c.requires.light in
    let one = process_light (width_of signals) (length c.args.signals.now) ps _ c.index-processes-count.result (omega (arith, test)) c.index-processes-count.is in
    let same : statement_weight (widths_of c.in_ok-blank.blank) (length c.in_ok-blank.blank) body ≡ statement_weight (width_of signals) (length c.args.signals.now) body =
    λ j. statement_weight (wide j) (long j) body in
    omega (arith, light, one, same)

pub loop-k-preserved : goal.loop-k-preserved
loop-k-preserved c =
    let signals = map plain_signal c.args.signals.now in
    record {
      same = c.in_ok-put_process.ensures.same ∙ c.in_ok-blank.ensures;
      table = processes_turn signals c.args.processes.now c.loop-k.k c.index-processes-count.result c.loop-k.table c.put_process.new.table c.loop-k-test.true c.index-processes-count.is
          c.loop-k.invariant.table c.in_ok-put_process.ensures.precedes;
    }
