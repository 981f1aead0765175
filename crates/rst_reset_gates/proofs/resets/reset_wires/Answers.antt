use Rattle.std.proofs.Common.{◌≤◌, ℕ, arith, ap, subst, map, length}
use Rattle.std.proofs.lemmas.List.{length-map}
use Rattle.rst_gate.specs.GateLists.{next_node}
use Rattle.rst_net.specs.Units.{plain_signal, plain_process}
use Rattle.rst_lower.specs.WireWords.{widths_of}
use Rattle.rst_reset_gates.specs.Tables.{reset_at}
use Rattle.rst_reset_gates.proofs.Registers.{table_same, table_count, words_wide, words_long, same_on_ok, same_if_ok, of_if_ok, less_on_ok}
use Rattle.rst_reset_gates.proofs.resets.reset_wires.Goals as goal

pub resets_of-requires-clause-at_most_64 : goal.resets_of-requires-clause-at_most_64
resets_of-requires-clause-at_most_64 c = subst (λ (f : ℕ → ℕ). (i : ℕ) → f i ≤ 64) c.requires.widths c.requires.at_most_64

pub reset_all-requires-clause-room : goal.reset_all-requires-clause-room
reset_all-requires-clause-room c =
    let fewer = table_count (map plain_signal c.args.signals.now) (map plain_process c.args.processes.now) c.in_ok-table.table (length c.args.signals.now) c.in_ok-table.ensures in
    let room = c.requires.room in
    omega (arith, fewer, room)

pub returns-clause-gates : goal.returns-clause-gates
returns-clause-gates c =
    let same = table_same c.args.start.now (map plain_signal c.args.signals.now) (map plain_process c.args.processes.now) c.in_ok-table.table c.args.gates.now c.requires.widths c.in_ok-table.ensures in
    same_on_ok c.reset_all.result c.reset_all.new.gates _ _ (ap (λ z. z.0) same) c.reset_all.ensures.gates

pub returns-clause-wires : goal.returns-clause-wires
returns-clause-wires c =
    let same = table_same c.args.start.now (map plain_signal c.args.signals.now) (map plain_process c.args.processes.now) c.in_ok-table.table c.args.gates.now c.requires.widths c.in_ok-table.ensures in
    same_if_ok c.reset_all.result _ _ (ap (λ z. z.1) same) c.reset_all.ensures.wires

pub returns-clause-widths : goal.returns-clause-widths
returns-clause-widths c =
    let signals = map plain_signal c.args.signals.now in
    let long = length-map c.args.signals.now plain_signal in
    let count = c.requires.count in
    of_if_ok widths_of c.reset_all.result _ _
    (λ j i. words_wide c.args.start.now (reset_at c.in_ok-table.table) signals c.args.start.now c.args.gates.now 0 (omega (arith, count, long)) i j) c.reset_all.ensures.wires

pub returns-clause-count : goal.returns-clause-count
returns-clause-count c =
    let signals = map plain_signal c.args.signals.now in
    let long = length-map c.args.signals.now plain_signal in
    let count = c.requires.count in
    of_if_ok length c.reset_all.result _ _
    (words_long c.args.start.now (reset_at c.in_ok-table.table) signals c.args.start.now c.args.gates.now 0 (omega (arith, count, long))) c.reset_all.ensures.wires

pub returns-clause-few : goal.returns-clause-few
returns-clause-few c =
    let fewer = table_count (map plain_signal c.args.signals.now) (map plain_process c.args.processes.now) c.in_ok-table.table (length c.args.signals.now) c.in_ok-table.ensures in
    less_on_ok c.reset_all.result (next_node c.reset_all.new.gates) _ _ (omega (arith, fewer)) c.reset_all.ensures.few
