use Rattle.std.proofs.Common.{◌∙◌, ◌≡◌, arith, ap, map, length, get_or}
use Rattle.std.proofs.lemmas.List.{length-map}
use Rattle.rst_gate.specs.GateLists.{next_node}
use Rattle.rst_net.specs.Units.{plain_signal}
use Rattle.rst_word_gates.specs.GateAlgebra.{gates_so_far}
use Rattle.rst_statement_terms.specs.Targets.{word_of}
use Rattle.rst_design_terms.specs.Designs.{reset_word}
use Rattle.rst_reset_gates.specs.Tables.{reset_at}
use Rattle.rst_reset_gates.proofs.Registers.{signal_room, words_turn, role_at}
use Rattle.rst_reset_gates.proofs.resets.reset_all.Goals as goal

pub reset_word-requires-clause-room : goal.reset_word-requires-clause-room
reset_word-requires-clause-room c =
    signal_room (reset_at c.args.table.now) c.loop-k.k (length c.args.signals.now) (next_node c.loop-k.gates) (next_node c.args.gates.now) 2147483648 c.loop-k-test.true c.loop-k.invariant.few c.requires.room

pub loop-k-preserved : goal.loop-k-preserved
loop-k-preserved c =
    let start = c.args.start.now in
    let k = c.loop-k.k in
    let resets = reset_at c.args.table.now in
    let signals = map plain_signal c.args.signals.now in
    let s = c.index-signals-k.result in
    let r = (get_or c.args.signals.now k s).role in
    let long : length signals ≡ length c.args.signals.now = length-map c.args.signals.now plain_signal in
    let test = c.loop-k-test.true in
    let count = c.requires.count in
    let same = c.word-word.ensures ∙ ap (word_of start) c.in_ok-number.ensures in
    words_turn start resets c.args.gates.now signals c.loop-k.gates c.reset_word.new.gates c.loop-k.wires c.push.new.self c.in_ok-read.read.items k r
    (omega (arith, test, long)) (omega (arith, count, long)) (role_at c.args.signals.now k s test c.index-signals-k.is ∙ ap (λ x. x.role) c.index-signals-k.is) c.loop-k.invariant
    (c.in_ok-read.ensures.gates ∙ ap (λ w. (reset_word gates_so_far start (resets k) r c.loop-k.gates w).0) same)
    (c.in_ok-read.ensures.bits ∙ ap (λ w. (reset_word gates_so_far start (resets k) r c.loop-k.gates w).1) same)
    c.in_ok-read.ensures.stand c.in_ok-read.ensures.grows c.in_ok-read.ensures.few c.in_ok-push.ensures
