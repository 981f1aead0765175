use Rattle.std.proofs.Common.{rules, ◌≡◌, ◌∙◌, ◌+◌, ◌-◌, ◌^◌, ◌<◌, ◌≤◌, ◌++◌, [], ◌∷◌, List, length, map, drop, get_or, refl, sym, ap, subst, arith, ℕ}
use Rattle.std.specs.List.{All}
use Rattle.std.specs.declared.vec.Vec.{Vec}
use Rattle.std.specs.declared.alloc.Global.{Global}
use Rattle.std.proofs.lemmas.List.{length-drop}
use Rattle.rst_gate.specs.declared.edge.Edge.{Edge}
use Rattle.rst_gate.specs.Circuits.{IsBelow}
use Rattle.rst_gate.specs.GateLists.{GateList, next_node}
use Rattle.rst_width.specs.declared.typed_expr.TypedExpr.{TypedExpr}
use Rattle.rst_width.specs.Typed.{plain_typed}
use Rattle.rst_net.specs.declared.stmt.TypedStmt.{TypedStmt}
use Rattle.rst_net.specs.declared.stmt.TypedArm.{TypedArm}
use Rattle.rst_net.specs.declared.stmt.TypedCase.{out-TypedCase}
use Rattle.rst_net.specs.Statements.{Statement, Block, If, plain_stmt, plain_stmts, plain_arms, plain_label, arm}
use Rattle.rst_terms.specs.declared.kinds.Connective.TheVariants.{Or}
use Rattle.rst_terms.specs.Algebras.{Step}
use Rattle.rst_terms.specs.Recurrences.{reduced}
use Rattle.rst_word_gates.specs.GateAlgebra.{gates_so_far}
use Rattle.rst_typed_terms.specs.Expressions.{expression_bits}
use Rattle.rst_typed_terms.specs.Weights.{expression_weight}
use Rattle.rst_lower.specs.WireWords.{widths_of}
use Rattle.rst_statement_terms.specs.Statements.{seen, statement_bits}
use Rattle.rst_statement_terms.specs.Weights.{statement_weight, all_weight, arms_weight, default_weight}
use Rattle.rst_statement_values.specs.Fits.{StatementFits, AllFit, ArmsFit, DefaultFits, blocking_of}
use Rattle.rst_statement_gates.specs.declared.marks.Mark.{Mark}
use Rattle.rst_statement_gates.specs.Sights.{sight_of, AreWires}
use Rattle.rst_statement_gates.specs.Plain.{plain_default}
use Rattle.rst_statement_gates.specs.Marks.{Ascend, CoversSets, mark_statement, arm_marks, chain_marks}
use Rattle.rst_statement_gates.specs.Choices.{words_at, with_words, merged_at, held_words, marked_bits, IsReady}
use Rattle.rst_statement_gates.specs.Chains.{Keeps, case_bits}
use Rattle.rst_statement_gates.proofs.Rows.{plain_stmt-Block, plain_case-out}
use Rattle.rst_statement_gates.proofs.Marking.{arm_marked}
use Rattle.rst_statement_gates.proofs.Reading.{are_later}
use Rattle.rst_statement_gates.proofs.Branching.{count_after, widths_after, branch_back, branch_ready, body_covered, first_covered, arms_tested, arms_untested, if_done}
use Rattle.rst_statement_gates.proofs.Steps.{first_chain, all_turn, last_is, next_marks, arm_here, body_fits, body_room, on_ok, if_ok}
use Rattle.rst_statement_gates.proofs.Ends.{small_after, if_ready, if_bits, default_fits, default_room, case_end}
use Rattle.rst_statement_gates.specs.Chains.{no_more}
use Rattle.rst_statement_gates.proofs.Ends.{from_not_true, from_not_false}
use Rattle.rst_statement_gates.proofs.statements.+lowering.Goals.{arms-then-asks+in_ok-test+in_ok-one+in_ok-statement+in_ok-other+in_ok-push, arms-else-asks+in_ok-statement-2}
use Rattle.rst_statement_gates.proofs.statements.+lowering.Goals as goal

pub all-loop-part-preserved : goal.all-loop-part-preserved
all-loop-part-preserved t c =
    all_turn c.args.clocked c.args.held.now c.args.gates.now c.args.wires.now (plain_stmts c.args.parts.now) c.loop-part.gates c.statement.new.gates c.loop-part.wires c.statement.new.wires
    c.args.parts.now c.loop-part.part-index c.part-item.result (omega arith) c.part-item.is c.loop-part.invariant
    c.in_ok-statement.ensures.gates c.in_ok-statement.ensures.wires c.in_ok-statement.ensures.stand c.in_ok-statement.ensures.grows c.in_ok-statement.ensures.few

pub first_branch-turn_back-requires-clause-ascend : goal.first_branch-turn_back-requires-clause-ascend
first_branch-turn_back-requires-clause-ascend t c =
    let size = count_after (next_node c.args.gates.now) c.args.clocked c.args.held.now c.args.wires.now c.statement.new.wires c.args.gates.now (plain_stmt c.args.body.now) c.requires.are c.requires.fit
    c.in_ok-statement.ensures.wires in
    subst (λ z. Ascend 0 z c.in_ok-waiting.waiting.marks.items) (sym size) (subst (Ascend 0 (length c.args.wires.now)) (sym c.in_ok-waiting.ensures.1) c.requires.ascend)

pub first_branch-returns-clause-back : goal.first_branch-returns-clause-back
first_branch-returns-clause-back t c =
    let marks = c.in_ok-waiting.waiting.marks.items in
    let kept = held_words c.in_ok-waiting.waiting.words.items in
    let wires = c.args.wires.now in
    on_ok c.turn_back.result (c.turn_back.new.wires ≡ with_words marks kept c.statement.new.wires) (c.turn_back.new.wires ≡ wires)
    (λ put. branch_back (next_node c.args.gates.now) c.args.clocked c.args.held.now wires c.statement.new.wires c.turn_back.new.wires c.args.gates.now (plain_stmt c.args.body.now) marks kept
    c.requires.are c.requires.fit (subst (Ascend 0 (length wires)) (sym c.in_ok-waiting.ensures.1) c.requires.ascend)
    (subst (CoversSets (length wires) (plain_stmt c.args.body.now)) (sym c.in_ok-waiting.ensures.1) c.requires.marked)
    c.in_ok-statement.ensures.wires (c.in_ok-waiting.ensures.2 ∙ ap (λ (ms : List Mark). words_at ms wires) (sym c.in_ok-waiting.ensures.1)) put)
    c.turn_back.ensures.back

pub first_branch-returns-clause-ready : goal.first_branch-returns-clause-ready
first_branch-returns-clause-ready t c =
    let e = c.in_ok-waiting.ensures in
    let wires = c.args.wires.now in
    if_ok c.turn_back.result _ (λ w. IsReady (next_node c.statement.new.gates) (length wires) (widths_of wires) w)
    (λ w k. branch_ready (next_node c.args.gates.now) (next_node c.statement.new.gates) c.args.clocked c.args.held.now wires c.statement.new.wires c.args.gates.now (plain_stmt c.args.body.now)
    c.args.test c.args.marks.items w c.requires.are c.requires.fit c.requires.ascend c.in_ok-statement.ensures.wires c.in_ok-statement.ensures.stand c.in_ok-statement.ensures.grows c.requires.test_stands
    (record { test = k.0 ∙ e.0; marks = k.1 ∙ e.1; words = k.2 ∙ ap (λ (ms : List Mark). words_at ms c.statement.new.wires) e.1 }))
    c.turn_back.ensures.kept

pub arms-choice-requires : goal.arms-choice-requires
arms-choice-requires t c =
    let a = c.arm-item.result in
    let wires = c.loop-arm.wires in
    let o = plain_default c.args.otherwise.now in
    let labels = map plain_label a.labels.items in
    let body = plain_stmt a.body in
    let rest = plain_arms (drop (c.loop-arm.arm-index + 1) c.args.arms.now) in
    let bits = case_bits (length c.args.wires.now) (plain_arms c.args.arms.now) o in
    let here = arm_here c.args.clocked c.args.held.now c.args.selector.now c.args.full o bits c.args.gates.now c.args.wires.now (plain_arms c.args.arms.now) c.loop-arm.gates wires c.loop-arm.waiting.items
    c.args.arms.now c.loop-arm.arm-index a (omega arith) c.arm-item.is c.loop-arm.invariant.state in
    let fit = body_fits c.args.clocked c.args.held.now c.args.selector.now c.args.full o bits c.args.gates.now c.args.wires.now (plain_arms c.args.arms.now) c.loop-arm.gates wires c.loop-arm.waiting.items labels body rest here in
    let first = first_chain c.args.arms.now c.loop-arm.arm-index a (length c.args.wires.now) o c.loop-arm.chain (omega arith) c.arm-item.is c.loop-arm.invariant.chain in
    let parts = next_marks (length c.args.wires.now) labels body rest o c.loop-arm.chain c.pop-marks.new.self c.pop-marks.result.items first c.pop-marks.ensures in
    let same : c.pop-marks.result.items ≡ arm_marks (length wires) (arm labels body rest) o = parts.1 ∙ ap (λ z. arm_marks z (arm labels body rest) o) (sym here.count) in
    let ascend : Ascend 0 (length wires) c.pop-marks.result.items = subst (Ascend 0 (length wires)) (sym same) (arm_marked (length wires) (arm labels body rest) o).ascend in
    ascend

pub arms-statement-requires : goal.arms-statement-requires
arms-statement-requires t c =
    let a = c.arm-item.result in
    let wires = c.loop-arm.wires in
    let o = plain_default c.args.otherwise.now in
    let labels = map plain_label a.labels.items in
    let body = plain_stmt a.body in
    let rest = plain_arms (drop (c.loop-arm.arm-index + 1) c.args.arms.now) in
    let bits = case_bits (length c.args.wires.now) (plain_arms c.args.arms.now) o in
    let here = arm_here c.args.clocked c.args.held.now c.args.selector.now c.args.full o bits c.args.gates.now c.args.wires.now (plain_arms c.args.arms.now) c.loop-arm.gates wires c.loop-arm.waiting.items
    c.args.arms.now c.loop-arm.arm-index a (omega arith) c.arm-item.is c.loop-arm.invariant.state in
    let fit : StatementFits (widths_of wires) (blocking_of (sight_of c.args.clocked c.args.held.now)) body = body_fits c.args.clocked c.args.held.now c.args.selector.now c.args.full o bits c.args.gates.now c.args.wires.now (plain_arms c.args.arms.now) c.loop-arm.gates wires c.loop-arm.waiting.items labels body rest here in
    let first = first_chain c.args.arms.now c.loop-arm.arm-index a (length c.args.wires.now) o c.loop-arm.chain (omega arith) c.arm-item.is c.loop-arm.invariant.chain in
    let parts = next_marks (length c.args.wires.now) labels body rest o c.loop-arm.chain c.pop-marks.new.self c.pop-marks.result.items first c.pop-marks.ensures in
    let same : c.pop-marks.result.items ≡ arm_marks (length wires) (arm labels body rest) o = parts.1 ∙ ap (λ z. arm_marks z (arm labels body rest) o) (sym here.count) in
    let ascend : Ascend 0 (length wires) c.pop-marks.result.items = subst (Ascend 0 (length wires)) (sym same) (arm_marked (length wires) (arm labels body rest) o).ascend in
    let are : AreWires (next_node c.arm_test.new.gates) c.args.clocked c.args.held.now wires =
    are_later (next_node c.loop-arm.gates) (next_node c.arm_test.new.gates) c.args.clocked c.args.held.now wires c.in_ok-test.ensures.grows here.are in
    let all_room = body_room c.args.clocked c.args.held.now c.args.selector.now c.args.full o bits c.args.gates.now c.args.wires.now (plain_arms c.args.arms.now) c.loop-arm.gates wires c.loop-arm.waiting.items
    labels body rest 2147483648 here c.requires.room in
    let value = c.as_slice-labels.ensures.value in
    let few = rw value at c.in_ok-test.ensures.few in
    let room : next_node c.arm_test.new.gates + statement_weight (widths_of wires) (length wires) body ≤ 2147483648 = omega (arith, all_room, few) in
    search rules

pub arms-turn_back-requires-clause-ascend : goal.arms-turn_back-requires-clause-ascend
arms-turn_back-requires-clause-ascend t c =
    let a = c.arm-item.result in
    let wires = c.loop-arm.wires in
    let o = plain_default c.args.otherwise.now in
    let labels = map plain_label a.labels.items in
    let body = plain_stmt a.body in
    let rest = plain_arms (drop (c.loop-arm.arm-index + 1) c.args.arms.now) in
    let bits = case_bits (length c.args.wires.now) (plain_arms c.args.arms.now) o in
    let here = arm_here c.args.clocked c.args.held.now c.args.selector.now c.args.full o bits c.args.gates.now c.args.wires.now (plain_arms c.args.arms.now) c.loop-arm.gates wires c.loop-arm.waiting.items
    c.args.arms.now c.loop-arm.arm-index a (omega arith) c.arm-item.is c.loop-arm.invariant.state in
    let fit = body_fits c.args.clocked c.args.held.now c.args.selector.now c.args.full o bits c.args.gates.now c.args.wires.now (plain_arms c.args.arms.now) c.loop-arm.gates wires c.loop-arm.waiting.items labels body rest here in
    let first = first_chain c.args.arms.now c.loop-arm.arm-index a (length c.args.wires.now) o c.loop-arm.chain (omega arith) c.arm-item.is c.loop-arm.invariant.chain in
    let parts = next_marks (length c.args.wires.now) labels body rest o c.loop-arm.chain c.pop-marks.new.self c.pop-marks.result.items first c.pop-marks.ensures in
    let same : c.pop-marks.result.items ≡ arm_marks (length wires) (arm labels body rest) o = parts.1 ∙ ap (λ z. arm_marks z (arm labels body rest) o) (sym here.count) in
    let ascend : Ascend 0 (length wires) c.pop-marks.result.items = subst (Ascend 0 (length wires)) (sym same) (arm_marked (length wires) (arm labels body rest) o).ascend in
    let size = count_after (next_node c.loop-arm.gates) c.args.clocked c.args.held.now wires c.statement.new.wires c.arm_test.new.gates body here.are fit c.in_ok-statement.ensures.wires in
    subst (λ z. Ascend 0 z c.in_ok-one.one.marks.items) (sym size) (subst (Ascend 0 (length wires)) (sym c.in_ok-one.ensures.1) ascend)

pub arms-loop-arm-preserved : goal.arms-loop-arm-preserved
arms-loop-arm-preserved t c =
    let a = c.arm-item.result in
    let wires = c.loop-arm.wires in
    let o = plain_default c.args.otherwise.now in
    let labels = map plain_label a.labels.items in
    let body = plain_stmt a.body in
    let rest = plain_arms (drop (c.loop-arm.arm-index + 1) c.args.arms.now) in
    let bits = case_bits (length c.args.wires.now) (plain_arms c.args.arms.now) o in
    let here = arm_here c.args.clocked c.args.held.now c.args.selector.now c.args.full o bits c.args.gates.now c.args.wires.now (plain_arms c.args.arms.now) c.loop-arm.gates wires c.loop-arm.waiting.items
    c.args.arms.now c.loop-arm.arm-index a (omega arith) c.arm-item.is c.loop-arm.invariant.state in
    let fit = body_fits c.args.clocked c.args.held.now c.args.selector.now c.args.full o bits c.args.gates.now c.args.wires.now (plain_arms c.args.arms.now) c.loop-arm.gates wires c.loop-arm.waiting.items labels body rest here in
    let first = first_chain c.args.arms.now c.loop-arm.arm-index a (length c.args.wires.now) o c.loop-arm.chain (omega arith) c.arm-item.is c.loop-arm.invariant.chain in
    let parts = next_marks (length c.args.wires.now) labels body rest o c.loop-arm.chain c.pop-marks.new.self c.pop-marks.result.items first c.pop-marks.ensures in
    let number : c.loop-arm.left - 1 ≡ length (drop (c.loop-arm.arm-index + 1) c.args.arms.now) = (let l = c.loop-arm.invariant.left in let d = length-drop (c.loop-arm.arm-index + 1) c.args.arms.now in omega (arith, l, d)) in
    let last = last_is c.args.full (drop (c.loop-arm.arm-index + 1) c.args.arms.now) (c.loop-arm.left - 1) o number in
    elim c.if-asks.branch [
      | arms-then-asks+in_ok-test+in_ok-one+in_ok-statement+in_ok-other+in_ok-push w ↦
          let same : c.pop-marks.result.items ≡ arm_marks (length wires) (arm labels body rest) o = parts.1 ∙ ap (λ z. arm_marks z (arm labels body rest) o) (sym here.count) in
          let ascend : Ascend 0 (length wires) c.pop-marks.result.items = subst (Ascend 0 (length wires)) (sym same) (arm_marked (length wires) (arm labels body rest) o).ascend in
          let covers = body_covered (length wires) labels body rest o c.pop-marks.result.items same in
          let value = w.as_slice-labels.ensures.value in
          let e = w.in_ok-one.ensures in
          let marks = w.in_ok-one.one.marks.items in
          let are = are_later (next_node c.loop-arm.gates) (next_node w.arm_test.new.gates) c.args.clocked c.args.held.now wires w.in_ok-test.ensures.grows here.are in
          let back = branch_back (next_node c.loop-arm.gates) c.args.clocked c.args.held.now wires w.statement.new.wires w.turn_back.new.wires w.arm_test.new.gates body marks (held_words w.in_ok-one.one.words.items)
          here.are fit (subst (Ascend 0 (length wires)) (sym e.1) ascend) (subst (CoversSets (length wires) body) (sym e.1) covers) w.in_ok-statement.ensures.wires
          (e.2 ∙ ap (λ (ms : List Mark). words_at ms wires) (sym e.1)) w.in_ok-other.ensures.back in
          let k = w.in_ok-other.ensures.kept in
          let keeps : Keeps w.in_ok-test.test c.pop-marks.result.items w.statement.new.wires w.in_ok-other.other =
          record { test = k.0 ∙ e.0; marks = k.1 ∙ e.1; words = k.2 ∙ ap (λ (ms : List Mark). words_at ms w.statement.new.wires) e.1 } in
          let ready = branch_ready (next_node w.arm_test.new.gates) (next_node w.statement.new.gates) c.args.clocked c.args.held.now wires w.statement.new.wires w.arm_test.new.gates body
          w.in_ok-test.test c.pop-marks.result.items w.in_ok-other.other are fit ascend w.in_ok-statement.ensures.wires w.in_ok-statement.ensures.stand w.in_ok-statement.ensures.grows w.in_ok-test.ensures.stands keeps in
          record {
            left = let l = c.loop-arm.invariant.left in omega (arith, l);
            chain = parts.0;
            state = rw (w.gates-is, w.wires-is, w.waiting-is) (arms_tested c.args.clocked c.args.held.now c.args.selector.now c.args.full o bits c.args.gates.now c.args.wires.now (plain_arms c.args.arms.now)
                c.loop-arm.gates w.arm_test.new.gates w.statement.new.gates wires w.turn_back.new.wires labels body rest c.loop-arm.waiting.items w.push.new.self.items w.in_ok-test.test c.pop-marks.result.items w.in_ok-other.other
                here (subst (λ (f : ℕ → ℕ). DefaultFits f (blocking_of (sight_of c.args.clocked c.args.held.now)) o) (sym here.widths) c.requires.default_fit) (last ∙ from_not_true (no_more c.args.full (c.loop-arm.left - 1) o) (sym c.is_tested-asks.ensures ∙ w.if-asks.true)) same
                (rw value at w.in_ok-test.ensures.gates) (rw value at w.in_ok-test.ensures.edge) w.in_ok-statement.ensures.gates back
                (subst (λ (us : List (List Edge)). Keeps w.in_ok-test.test c.pop-marks.result.items us w.in_ok-other.other) w.in_ok-statement.ensures.wires keeps) ready w.in_ok-push.ensures.items
                w.in_ok-test.ensures.grows (rw value at w.in_ok-test.ensures.few) w.in_ok-statement.ensures.grows w.in_ok-statement.ensures.few);
          }
      | arms-else-asks+in_ok-statement-2 w ↦ record {
        left = let l = c.loop-arm.invariant.left in omega (arith, l);
        chain = parts.0;
        state = rw (w.gates-is, w.wires-is, w.waiting-is) (arms_untested c.args.clocked c.args.held.now c.args.selector.now c.args.full o bits c.args.gates.now c.args.wires.now (plain_arms c.args.arms.now)
            c.loop-arm.gates w.statement-else-asks.new.gates wires w.statement-else-asks.new.wires labels body rest c.loop-arm.waiting.items here (last ∙ from_not_false (no_more c.args.full (c.loop-arm.left - 1) o) (sym c.is_tested-asks.ensures ∙ w.if-asks.false))
            w.in_ok-statement-2.ensures.gates w.in_ok-statement-2.ensures.wires w.in_ok-statement-2.ensures.stand w.in_ok-statement-2.ensures.grows w.in_ok-statement-2.ensures.few);
      }
    ]

pub case_statement-arms-requires : goal.case_statement-arms-requires
case_statement-arms-requires t c =
    let out = out-TypedCase c.args.case.now in
    let W = widths_of c.args.wires.now in
    let N = length c.args.wires.now in
    let B = blocking_of (sight_of c.args.clocked c.args.held.now) in
    let whole = plain_case-out c.args.case.now in
    let fit = subst (StatementFits W B) whole c.requires.fit in
    let all = subst (λ (s : Statement). next_node c.args.gates.now + statement_weight W N s ≤ 2147483648) whole c.requires.room in
    let size : length c.as_slice.result.now ≡ out.selector.value.width = ap length c.as_slice.ensures.value ∙ (c.in_ok-selector.ensures.width ∙ ap (λ (e : TypedExpr). e.width) c.deref.ensures) in
    let arms_fit : ArmsFit W B (length c.as_slice.result.now) (plain_arms c.deref-3.result.now) =
    subst (λ n. ArmsFit W B n (plain_arms c.deref-3.result.now)) (sym size) (subst (λ (as_ : List TypedArm). ArmsFit W B out.selector.value.width (plain_arms as_)) (sym c.deref-3.ensures.value) fit.1) in
    let are : AreWires (next_node c.read.new.gates) c.args.clocked c.args.held.now c.args.wires.now =
    are_later (next_node c.args.gates.now) (next_node c.read.new.gates) c.args.clocked c.args.held.now c.args.wires.now c.in_ok-selector.ensures.grows c.requires.are in
    let stands : All (IsBelow (next_node c.read.new.gates)) c.as_slice.result.now = subst (All (IsBelow (next_node c.read.new.gates))) (sym c.as_slice.ensures.value) c.in_ok-selector.ensures.stand in
    let default_fit : DefaultFits W B (plain_default out.otherwise) = fit.2 in
    let chain : c.in_ok-chain.chain ≡ chain_marks N (plain_arms c.deref-3.result.now) (plain_default out.otherwise) =
    c.in_ok-chain.ensures ∙ (λ j. chain_marks (c.len.ensures j) (plain_arms ((c.deref-2.ensures.value ∙ sym c.deref-3.ensures.value) j)) (plain_default out.otherwise)) in
    let few = subst (λ (e : TypedExpr). next_node c.read.new.gates ≤ next_node c.args.gates.now + expression_weight W (plain_typed e)) c.deref.ensures c.in_ok-selector.ensures.few in
    let now : next_node c.read.new.gates + arms_weight W N out.selector.value.width (case_bits N (plain_arms out.arms.items) (plain_default out.otherwise)) (plain_arms out.arms.items) ≤ 2147483648 = omega (arith, all, few) in
    let room : next_node c.read.new.gates + arms_weight W N (length c.as_slice.result.now) (case_bits N (plain_arms c.deref-3.result.now) (plain_default out.otherwise)) (plain_arms c.deref-3.result.now) ≤ 2147483648 =
    subst (λ n. next_node c.read.new.gates + arms_weight W N n (case_bits N (plain_arms c.deref-3.result.now) (plain_default out.otherwise)) (plain_arms c.deref-3.result.now) ≤ 2147483648) (sym size)
    (subst (λ (as_ : List TypedArm). next_node c.read.new.gates + arms_weight W N out.selector.value.width (case_bits N (plain_arms as_) (plain_default out.otherwise)) (plain_arms as_) ≤ 2147483648) (sym c.deref-3.ensures.value) now) in
    search rules

pub case_statement-default-requires : goal.case_statement-default-requires
case_statement-default-requires t c =
    let out = out-TypedCase c.args.case.now in
    let W = widths_of c.args.wires.now in
    let N = length c.args.wires.now in
    let B = blocking_of (sight_of c.args.clocked c.args.held.now) in
    let o = plain_default out.otherwise in
    let whole = plain_case-out c.args.case.now in
    let fit = subst (StatementFits W B) whole c.requires.fit in
    let all = subst (λ (s : Statement). next_node c.args.gates.now + statement_weight W N s ≤ 2147483648) whole c.requires.room in
    let size : length c.as_slice.result.now ≡ out.selector.value.width = ap length c.as_slice.ensures.value ∙ (c.in_ok-selector.ensures.width ∙ ap (λ (e : TypedExpr). e.width) c.deref.ensures) in
    let few = subst (λ (e : TypedExpr). next_node c.read.new.gates ≤ next_node c.args.gates.now + expression_weight W (plain_typed e)) c.deref.ensures c.in_ok-selector.ensures.few in
    let now : next_node c.read.new.gates + (arms_weight W N out.selector.value.width (case_bits N (plain_arms out.arms.items) o) (plain_arms out.arms.items) + default_weight W N o) ≤ 2147483648 = omega (arith, all, few) in
    let begun : next_node c.read.new.gates + (arms_weight W N (length c.as_slice.result.now) (case_bits N (plain_arms c.deref-3.result.now) o) (plain_arms c.deref-3.result.now) + default_weight W N o) ≤ 2147483648 =
    subst (λ n. next_node c.read.new.gates + (arms_weight W N n (case_bits N (plain_arms c.deref-3.result.now) o) (plain_arms c.deref-3.result.now) + default_weight W N o) ≤ 2147483648) (sym size)
    (subst (λ (as_ : List TypedArm). next_node c.read.new.gates + (arms_weight W N out.selector.value.width (case_bits N (plain_arms as_) o) (plain_arms as_) + default_weight W N o) ≤ 2147483648) (sym c.deref-3.ensures.value) now) in
    let state = c.in_ok-waiting.ensures in
    let fits : DefaultFits (widths_of c.arms.new.wires) B o =
    default_fits c.args.clocked c.args.held.now c.as_slice.result.now out.full o (case_bits N (plain_arms c.deref-3.result.now) o) c.read.new.gates c.args.wires.now (plain_arms c.deref-3.result.now)
    c.arms.new.gates c.arms.new.wires c.in_ok-waiting.waiting.items state fit.2 in
    let left = default_room c.args.clocked c.args.held.now c.as_slice.result.now out.full o (case_bits N (plain_arms c.deref-3.result.now) o) c.read.new.gates c.args.wires.now (plain_arms c.deref-3.result.now)
    c.arms.new.gates c.arms.new.wires c.in_ok-waiting.waiting.items 2147483648 state begun in
    let room : next_node c.arms.new.gates + default_weight (widths_of c.arms.new.wires) (length c.arms.new.wires) o ≤ 2147483648 = omega (arith, left) in
    let are : AreWires (next_node c.arms.new.gates) c.args.clocked c.args.held.now c.arms.new.wires = state.are in
    search rules

pub case_statement-merge_all-requires-clause-at_most_64 : goal.case_statement-merge_all-requires-clause-at_most_64
case_statement-merge_all-requires-clause-at_most_64 t c =
    let out = out-TypedCase c.args.case.now in
    let N = length c.args.wires.now in
    let o = plain_default out.otherwise in
    let fit = subst (StatementFits (widths_of c.args.wires.now) (blocking_of (sight_of c.args.clocked c.args.held.now))) (plain_case-out c.args.case.now) c.requires.fit in
    let state = c.in_ok-waiting.ensures in
    let fits = default_fits c.args.clocked c.args.held.now c.as_slice.result.now out.full o (case_bits N (plain_arms c.deref-3.result.now) o) c.read.new.gates c.args.wires.now (plain_arms c.deref-3.result.now)
    c.arms.new.gates c.arms.new.wires c.in_ok-waiting.waiting.items state fit.2 in
    (case_end c.args.clocked c.args.held.now c.as_slice.result.now out.full o (case_bits N (plain_arms c.deref-3.result.now) o) c.read.new.gates c.args.wires.now (plain_arms c.deref-3.result.now)
    c.arms.new.gates c.arms.new.wires c.in_ok-waiting.waiting.items c.default.new.gates c.default.new.wires state fits c.in_ok-default.ensures.wires c.in_ok-default.ensures.grows).at_most_64

pub case_statement-merge_all-requires-clause-ready : goal.case_statement-merge_all-requires-clause-ready
case_statement-merge_all-requires-clause-ready t c =
    let out = out-TypedCase c.args.case.now in
    let N = length c.args.wires.now in
    let o = plain_default out.otherwise in
    let fit = subst (StatementFits (widths_of c.args.wires.now) (blocking_of (sight_of c.args.clocked c.args.held.now))) (plain_case-out c.args.case.now) c.requires.fit in
    let state = c.in_ok-waiting.ensures in
    let fits = default_fits c.args.clocked c.args.held.now c.as_slice.result.now out.full o (case_bits N (plain_arms c.deref-3.result.now) o) c.read.new.gates c.args.wires.now (plain_arms c.deref-3.result.now)
    c.arms.new.gates c.arms.new.wires c.in_ok-waiting.waiting.items state fit.2 in
    (case_end c.args.clocked c.args.held.now c.as_slice.result.now out.full o (case_bits N (plain_arms c.deref-3.result.now) o) c.read.new.gates c.args.wires.now (plain_arms c.deref-3.result.now)
    c.arms.new.gates c.arms.new.wires c.in_ok-waiting.waiting.items c.default.new.gates c.default.new.wires state fits c.in_ok-default.ensures.wires c.in_ok-default.ensures.grows).ready

pub statement-all-requires : goal.statement-all-requires
statement-all-requires t c =
    let W = widths_of c.args.wires.now in
    let N = length c.args.wires.now in
    let B = blocking_of (sight_of c.args.clocked c.args.held.now) in
    let whole : plain_stmt c.args.stmt.now ≡ Block (plain_stmts c.deref.result.now) =
    ap (λ (s : TypedStmt). plain_stmt s) c.in-Block.is ∙ (plain_stmt-Block c.in-Block.parts ∙ ap (λ (l : List TypedStmt). Block (plain_stmts l)) (sym c.deref.ensures.value)) in
    let fit : AllFit W B (plain_stmts c.deref.result.now) = subst (StatementFits W B) whole c.requires.fit in
    let room : next_node c.args.gates.now + all_weight W N (plain_stmts c.deref.result.now) ≤ 2147483648 =
    subst (λ (s : Statement). next_node c.args.gates.now + statement_weight W N s ≤ 2147483648) whole c.requires.room in
    search rules

pub statement-first_branch-requires : goal.statement-first_branch-requires
statement-first_branch-requires t c =
    let W = widths_of c.args.wires.now in
    let N = length c.args.wires.now in
    let S = sight_of c.args.clocked c.args.held.now in
    let B = blocking_of S in
    let asked = plain_typed c.in-If.asked.value in
    let first = plain_stmt c.in-If.first.value in
    let second = plain_stmt c.in-If.second.value in
    let whole : plain_stmt c.args.stmt.now ≡ If asked first second = ap (λ (s : TypedStmt). plain_stmt s) c.in-If.is in
    let fit = subst (StatementFits W B) whole c.requires.fit in
    let all = subst (λ (s : Statement). next_node c.args.gates.now + statement_weight W N s ≤ 2147483648) whole c.requires.room in
    let marks = c.in_ok-marks-in-If.marks.items in
    let is : marks ≡ mark_statement N second (mark_statement N first []) =
    c.in_ok-marks-in-If.ensures.marked ∙ (λ j. mark_statement (c.len.ensures j) (plain_stmt (c.deref-in-If-3.ensures j)) (mark_statement (c.len.ensures j) (plain_stmt (c.deref-in-If-2.ensures j)) [])) in
    let few_test = subst (λ (e : TypedExpr). next_node c.condition.new.gates ≤ next_node c.args.gates.now + (expression_weight W (plain_typed e) + e.width)) c.deref-in-If.ensures c.in_ok-test-in-If.ensures.few in
    let body = c.deref-in-If-4.result.now in
    let fits : StatementFits W B (plain_stmt body) = subst (λ (s : TypedStmt). StatementFits W B (plain_stmt s)) (sym c.deref-in-If-4.ensures) fit.1 in
    let are : AreWires (next_node c.condition.new.gates) c.args.clocked c.args.held.now c.args.wires.now =
    are_later (next_node c.args.gates.now) (next_node c.condition.new.gates) c.args.clocked c.args.held.now c.args.wires.now c.in_ok-test-in-If.ensures.grows c.requires.are in
    let below : c.in_ok-test-in-If.test.node < next_node c.condition.new.gates = c.in_ok-test-in-If.ensures.stands in
    let ascend : Ascend 0 N marks = subst (λ n. Ascend 0 n marks) c.len.ensures c.in_ok-marks-in-If.ensures.ascend in
    let covers : CoversSets N (plain_stmt body) marks = subst (λ (s : TypedStmt). CoversSets N (plain_stmt s) marks) (sym c.deref-in-If-4.ensures) (first_covered N first second marks is) in
    let now : next_node c.condition.new.gates + statement_weight W N first ≤ 2147483648 = omega (arith, all, few_test) in
    let room : next_node c.condition.new.gates + statement_weight W N (plain_stmt body) ≤ 2147483648 =
    subst (λ (s : TypedStmt). next_node c.condition.new.gates + statement_weight W N (plain_stmt s) ≤ 2147483648) (sym c.deref-in-If-4.ensures) now in
    search rules

pub statement-merge-requires-clause-at_most_64 : goal.statement-merge-requires-clause-at_most_64
statement-merge-requires-clause-at_most_64 t c =
    let W = widths_of c.args.wires.now in
    let N = length c.args.wires.now in
    let S = sight_of c.args.clocked c.args.held.now in
    let B = blocking_of S in
    let asked = plain_typed c.in-If.asked.value in
    let first = plain_stmt c.in-If.first.value in
    let second = plain_stmt c.in-If.second.value in
    let whole : plain_stmt c.args.stmt.now ≡ If asked first second = ap (λ (s : TypedStmt). plain_stmt s) c.in-If.is in
    let fit = subst (StatementFits W B) whole c.requires.fit in
    let all = subst (λ (s : Statement). next_node c.args.gates.now + statement_weight W N s ≤ 2147483648) whole c.requires.room in
    let marks = c.in_ok-marks-in-If.marks.items in
    let is : marks ≡ mark_statement N second (mark_statement N first []) =
    c.in_ok-marks-in-If.ensures.marked ∙ (λ j. mark_statement (c.len.ensures j) (plain_stmt (c.deref-in-If-3.ensures j)) (mark_statement (c.len.ensures j) (plain_stmt (c.deref-in-If-2.ensures j)) [])) in
    let few_test = subst (λ (e : TypedExpr). next_node c.condition.new.gates ≤ next_node c.args.gates.now + (expression_weight W (plain_typed e) + e.width)) c.deref-in-If.ensures c.in_ok-test-in-If.ensures.few in
    let back = c.in_ok-waiting-in-If.ensures.back in
    let w = c.in_ok-waiting-in-If.waiting in
    let few_first = subst (λ (s : TypedStmt). next_node c.first_branch.new.gates ≤ next_node c.condition.new.gates + statement_weight W N (plain_stmt s)) c.deref-in-If-4.ensures c.in_ok-waiting-in-If.ensures.few in
    let few_second = subst (λ (s : TypedStmt). next_node c.statement.new.gates ≤ next_node c.first_branch.new.gates + statement_weight W N (plain_stmt s)) c.deref-in-If-5.ensures
    (subst (λ (us : List (List Edge)). next_node c.statement.new.gates ≤ next_node c.first_branch.new.gates + statement_weight (widths_of us) (length us) (plain_stmt c.deref-in-If-5.result.now)) back c.in_ok-statement-in-If.ensures.few) in
    let after : c.statement.new.wires ≡ (statement_bits gates_so_far S c.first_branch.new.gates c.args.wires.now second).1 =
    c.in_ok-statement-in-If.ensures.wires ∙ (λ j. (statement_bits gates_so_far S c.first_branch.new.gates (back j) (plain_stmt (c.deref-in-If-5.ensures j))).1) in
    let keeps = subst (λ (s : TypedStmt). Keeps c.in_ok-test-in-If.test marks (statement_bits gates_so_far S c.condition.new.gates c.args.wires.now (plain_stmt s)).1 w) c.deref-in-If-4.ensures c.in_ok-waiting-in-If.ensures.kept in
    small_after c.args.wires.now c.statement.new.wires
    (widths_after (next_node c.args.gates.now) c.args.clocked c.args.held.now c.args.wires.now c.statement.new.wires c.first_branch.new.gates second c.requires.are fit.2 after) c.requires.are.at_most_64

pub statement-merge-requires-clause-ready : goal.statement-merge-requires-clause-ready
statement-merge-requires-clause-ready t c =
    let W = widths_of c.args.wires.now in
    let N = length c.args.wires.now in
    let S = sight_of c.args.clocked c.args.held.now in
    let B = blocking_of S in
    let asked = plain_typed c.in-If.asked.value in
    let first = plain_stmt c.in-If.first.value in
    let second = plain_stmt c.in-If.second.value in
    let whole : plain_stmt c.args.stmt.now ≡ If asked first second = ap (λ (s : TypedStmt). plain_stmt s) c.in-If.is in
    let fit = subst (StatementFits W B) whole c.requires.fit in
    let all = subst (λ (s : Statement). next_node c.args.gates.now + statement_weight W N s ≤ 2147483648) whole c.requires.room in
    let marks = c.in_ok-marks-in-If.marks.items in
    let is : marks ≡ mark_statement N second (mark_statement N first []) =
    c.in_ok-marks-in-If.ensures.marked ∙ (λ j. mark_statement (c.len.ensures j) (plain_stmt (c.deref-in-If-3.ensures j)) (mark_statement (c.len.ensures j) (plain_stmt (c.deref-in-If-2.ensures j)) [])) in
    let few_test = subst (λ (e : TypedExpr). next_node c.condition.new.gates ≤ next_node c.args.gates.now + (expression_weight W (plain_typed e) + e.width)) c.deref-in-If.ensures c.in_ok-test-in-If.ensures.few in
    let back = c.in_ok-waiting-in-If.ensures.back in
    let w = c.in_ok-waiting-in-If.waiting in
    let few_first = subst (λ (s : TypedStmt). next_node c.first_branch.new.gates ≤ next_node c.condition.new.gates + statement_weight W N (plain_stmt s)) c.deref-in-If-4.ensures c.in_ok-waiting-in-If.ensures.few in
    let few_second = subst (λ (s : TypedStmt). next_node c.statement.new.gates ≤ next_node c.first_branch.new.gates + statement_weight W N (plain_stmt s)) c.deref-in-If-5.ensures
    (subst (λ (us : List (List Edge)). next_node c.statement.new.gates ≤ next_node c.first_branch.new.gates + statement_weight (widths_of us) (length us) (plain_stmt c.deref-in-If-5.result.now)) back c.in_ok-statement-in-If.ensures.few) in
    let after : c.statement.new.wires ≡ (statement_bits gates_so_far S c.first_branch.new.gates c.args.wires.now second).1 =
    c.in_ok-statement-in-If.ensures.wires ∙ (λ j. (statement_bits gates_so_far S c.first_branch.new.gates (back j) (plain_stmt (c.deref-in-If-5.ensures j))).1) in
    let keeps = subst (λ (s : TypedStmt). Keeps c.in_ok-test-in-If.test marks (statement_bits gates_so_far S c.condition.new.gates c.args.wires.now (plain_stmt s)).1 w) c.deref-in-If-4.ensures c.in_ok-waiting-in-If.ensures.kept in
    if_ready (next_node c.args.gates.now) (next_node c.first_branch.new.gates) (next_node c.statement.new.gates) c.args.clocked c.args.held.now c.args.wires.now c.statement.new.wires c.first_branch.new.gates second w
    c.requires.are fit.2 after c.in_ok-statement-in-If.ensures.grows c.in_ok-waiting-in-If.ensures.ready

pub statement-merge-requires-clause-room : goal.statement-merge-requires-clause-room
statement-merge-requires-clause-room t c =
    let W = widths_of c.args.wires.now in
    let N = length c.args.wires.now in
    let S = sight_of c.args.clocked c.args.held.now in
    let B = blocking_of S in
    let asked = plain_typed c.in-If.asked.value in
    let first = plain_stmt c.in-If.first.value in
    let second = plain_stmt c.in-If.second.value in
    let whole : plain_stmt c.args.stmt.now ≡ If asked first second = ap (λ (s : TypedStmt). plain_stmt s) c.in-If.is in
    let fit = subst (StatementFits W B) whole c.requires.fit in
    let all = subst (λ (s : Statement). next_node c.args.gates.now + statement_weight W N s ≤ 2147483648) whole c.requires.room in
    let marks = c.in_ok-marks-in-If.marks.items in
    let is : marks ≡ mark_statement N second (mark_statement N first []) =
    c.in_ok-marks-in-If.ensures.marked ∙ (λ j. mark_statement (c.len.ensures j) (plain_stmt (c.deref-in-If-3.ensures j)) (mark_statement (c.len.ensures j) (plain_stmt (c.deref-in-If-2.ensures j)) [])) in
    let few_test = subst (λ (e : TypedExpr). next_node c.condition.new.gates ≤ next_node c.args.gates.now + (expression_weight W (plain_typed e) + e.width)) c.deref-in-If.ensures c.in_ok-test-in-If.ensures.few in
    let back = c.in_ok-waiting-in-If.ensures.back in
    let w = c.in_ok-waiting-in-If.waiting in
    let few_first = subst (λ (s : TypedStmt). next_node c.first_branch.new.gates ≤ next_node c.condition.new.gates + statement_weight W N (plain_stmt s)) c.deref-in-If-4.ensures c.in_ok-waiting-in-If.ensures.few in
    let few_second = subst (λ (s : TypedStmt). next_node c.statement.new.gates ≤ next_node c.first_branch.new.gates + statement_weight W N (plain_stmt s)) c.deref-in-If-5.ensures
    (subst (λ (us : List (List Edge)). next_node c.statement.new.gates ≤ next_node c.first_branch.new.gates + statement_weight (widths_of us) (length us) (plain_stmt c.deref-in-If-5.result.now)) back c.in_ok-statement-in-If.ensures.few) in
    let after : c.statement.new.wires ≡ (statement_bits gates_so_far S c.first_branch.new.gates c.args.wires.now second).1 =
    c.in_ok-statement-in-If.ensures.wires ∙ (λ j. (statement_bits gates_so_far S c.first_branch.new.gates (back j) (plain_stmt (c.deref-in-If-5.ensures j))).1) in
    let keeps = subst (λ (s : TypedStmt). Keeps c.in_ok-test-in-If.test marks (statement_bits gates_so_far S c.condition.new.gates c.args.wires.now (plain_stmt s)).1 w) c.deref-in-If-4.ensures c.in_ok-waiting-in-If.ensures.kept in
    let bits = if_bits N first second c.in_ok-test-in-If.test marks (statement_bits gates_so_far S c.condition.new.gates c.args.wires.now first).1 w is keeps in
    omega (arith, all, few_test, few_first, few_second, bits)

pub statement-returns-in_ok-statement-in-If-clause-gates : goal.statement-returns-in_ok-statement-in-If-clause-gates
statement-returns-in_ok-statement-in-If-clause-gates t c =
    let W = widths_of c.args.wires.now in
    let N = length c.args.wires.now in
    let S = sight_of c.args.clocked c.args.held.now in
    let B = blocking_of S in
    let asked = plain_typed c.in-If.asked.value in
    let first = plain_stmt c.in-If.first.value in
    let second = plain_stmt c.in-If.second.value in
    let whole : plain_stmt c.args.stmt.now ≡ If asked first second = ap (λ (s : TypedStmt). plain_stmt s) c.in-If.is in
    let fit = subst (StatementFits W B) whole c.requires.fit in
    let all = subst (λ (s : Statement). next_node c.args.gates.now + statement_weight W N s ≤ 2147483648) whole c.requires.room in
    let marks = c.in_ok-marks-in-If.marks.items in
    let is : marks ≡ mark_statement N second (mark_statement N first []) =
    c.in_ok-marks-in-If.ensures.marked ∙ (λ j. mark_statement (c.len.ensures j) (plain_stmt (c.deref-in-If-3.ensures j)) (mark_statement (c.len.ensures j) (plain_stmt (c.deref-in-If-2.ensures j)) [])) in
    let few_test = subst (λ (e : TypedExpr). next_node c.condition.new.gates ≤ next_node c.args.gates.now + (expression_weight W (plain_typed e) + e.width)) c.deref-in-If.ensures c.in_ok-test-in-If.ensures.few in
    let back = c.in_ok-waiting-in-If.ensures.back in
    let w = c.in_ok-waiting-in-If.waiting in
    let few_first = subst (λ (s : TypedStmt). next_node c.first_branch.new.gates ≤ next_node c.condition.new.gates + statement_weight W N (plain_stmt s)) c.deref-in-If-4.ensures c.in_ok-waiting-in-If.ensures.few in
    let few_second = subst (λ (s : TypedStmt). next_node c.statement.new.gates ≤ next_node c.first_branch.new.gates + statement_weight W N (plain_stmt s)) c.deref-in-If-5.ensures
    (subst (λ (us : List (List Edge)). next_node c.statement.new.gates ≤ next_node c.first_branch.new.gates + statement_weight (widths_of us) (length us) (plain_stmt c.deref-in-If-5.result.now)) back c.in_ok-statement-in-If.ensures.few) in
    let after : c.statement.new.wires ≡ (statement_bits gates_so_far S c.first_branch.new.gates c.args.wires.now second).1 =
    c.in_ok-statement-in-If.ensures.wires ∙ (λ j. (statement_bits gates_so_far S c.first_branch.new.gates (back j) (plain_stmt (c.deref-in-If-5.ensures j))).1) in
    let keeps = subst (λ (s : TypedStmt). Keeps c.in_ok-test-in-If.test marks (statement_bits gates_so_far S c.condition.new.gates c.args.wires.now (plain_stmt s)).1 w) c.deref-in-If-4.ensures c.in_ok-waiting-in-If.ensures.kept in
    let at_1 = subst (λ (e : TypedExpr). c.condition.new.gates ≡ (let k = expression_bits gates_so_far (seen S c.args.wires.now) c.args.gates.now (plain_typed e) in reduced gates_so_far Or k.0 k.1).0) c.deref-in-If.ensures c.in_ok-test-in-If.ensures.gates in
    let at_test = subst (λ (e : TypedExpr). c.in_ok-test-in-If.test ≡ (let k = expression_bits gates_so_far (seen S c.args.wires.now) c.args.gates.now (plain_typed e) in reduced gates_so_far Or k.0 k.1).1) c.deref-in-If.ensures c.in_ok-test-in-If.ensures.edge in
    let at_2 : c.first_branch.new.gates ≡ (statement_bits gates_so_far S c.condition.new.gates c.args.wires.now first).0 =
    c.in_ok-waiting-in-If.ensures.gates ∙ (λ j. (statement_bits gates_so_far S c.condition.new.gates c.args.wires.now (plain_stmt (c.deref-in-If-4.ensures j))).0) in
    let at_3 : c.statement.new.gates ≡ (statement_bits gates_so_far S c.first_branch.new.gates c.args.wires.now second).0 =
    c.in_ok-statement-in-If.ensures.gates ∙ (λ j. (statement_bits gates_so_far S c.first_branch.new.gates (back j) (plain_stmt (c.deref-in-If-5.ensures j))).0) in
    let done = if_done (next_node c.args.gates.now) c.args.clocked c.args.held.now c.args.wires.now c.requires.are c.args.gates.now c.condition.new.gates c.first_branch.new.gates c.statement.new.gates
    c.in_ok-test-in-If.test asked first second marks w c.statement.new.wires fit at_1 at_test is at_2 keeps at_3 after in
    let ends = done ∙ ap (λ (s : Statement). statement_bits gates_so_far S c.args.gates.now c.args.wires.now s) (sym whole) in
    on_ok c.merge.result (c.merge.new.gates ≡ (merged_at gates_so_far c.statement.new.gates w.test w.marks.items (held_words w.words.items) c.statement.new.wires).0)
    (c.merge.new.gates ≡ (statement_bits gates_so_far S c.args.gates.now c.args.wires.now (plain_stmt c.args.stmt.now)).0)
    (λ e. e ∙ ap (λ (r : Step GateList (List (List Edge))). r.0) ends) c.merge.ensures.gates

pub statement-returns-in_ok-statement-in-If-clause-wires : goal.statement-returns-in_ok-statement-in-If-clause-wires
statement-returns-in_ok-statement-in-If-clause-wires t c =
    let W = widths_of c.args.wires.now in
    let N = length c.args.wires.now in
    let S = sight_of c.args.clocked c.args.held.now in
    let B = blocking_of S in
    let asked = plain_typed c.in-If.asked.value in
    let first = plain_stmt c.in-If.first.value in
    let second = plain_stmt c.in-If.second.value in
    let whole : plain_stmt c.args.stmt.now ≡ If asked first second = ap (λ (s : TypedStmt). plain_stmt s) c.in-If.is in
    let fit = subst (StatementFits W B) whole c.requires.fit in
    let all = subst (λ (s : Statement). next_node c.args.gates.now + statement_weight W N s ≤ 2147483648) whole c.requires.room in
    let marks = c.in_ok-marks-in-If.marks.items in
    let is : marks ≡ mark_statement N second (mark_statement N first []) =
    c.in_ok-marks-in-If.ensures.marked ∙ (λ j. mark_statement (c.len.ensures j) (plain_stmt (c.deref-in-If-3.ensures j)) (mark_statement (c.len.ensures j) (plain_stmt (c.deref-in-If-2.ensures j)) [])) in
    let few_test = subst (λ (e : TypedExpr). next_node c.condition.new.gates ≤ next_node c.args.gates.now + (expression_weight W (plain_typed e) + e.width)) c.deref-in-If.ensures c.in_ok-test-in-If.ensures.few in
    let back = c.in_ok-waiting-in-If.ensures.back in
    let w = c.in_ok-waiting-in-If.waiting in
    let few_first = subst (λ (s : TypedStmt). next_node c.first_branch.new.gates ≤ next_node c.condition.new.gates + statement_weight W N (plain_stmt s)) c.deref-in-If-4.ensures c.in_ok-waiting-in-If.ensures.few in
    let few_second = subst (λ (s : TypedStmt). next_node c.statement.new.gates ≤ next_node c.first_branch.new.gates + statement_weight W N (plain_stmt s)) c.deref-in-If-5.ensures
    (subst (λ (us : List (List Edge)). next_node c.statement.new.gates ≤ next_node c.first_branch.new.gates + statement_weight (widths_of us) (length us) (plain_stmt c.deref-in-If-5.result.now)) back c.in_ok-statement-in-If.ensures.few) in
    let after : c.statement.new.wires ≡ (statement_bits gates_so_far S c.first_branch.new.gates c.args.wires.now second).1 =
    c.in_ok-statement-in-If.ensures.wires ∙ (λ j. (statement_bits gates_so_far S c.first_branch.new.gates (back j) (plain_stmt (c.deref-in-If-5.ensures j))).1) in
    let keeps = subst (λ (s : TypedStmt). Keeps c.in_ok-test-in-If.test marks (statement_bits gates_so_far S c.condition.new.gates c.args.wires.now (plain_stmt s)).1 w) c.deref-in-If-4.ensures c.in_ok-waiting-in-If.ensures.kept in
    let at_1 = subst (λ (e : TypedExpr). c.condition.new.gates ≡ (let k = expression_bits gates_so_far (seen S c.args.wires.now) c.args.gates.now (plain_typed e) in reduced gates_so_far Or k.0 k.1).0) c.deref-in-If.ensures c.in_ok-test-in-If.ensures.gates in
    let at_test = subst (λ (e : TypedExpr). c.in_ok-test-in-If.test ≡ (let k = expression_bits gates_so_far (seen S c.args.wires.now) c.args.gates.now (plain_typed e) in reduced gates_so_far Or k.0 k.1).1) c.deref-in-If.ensures c.in_ok-test-in-If.ensures.edge in
    let at_2 : c.first_branch.new.gates ≡ (statement_bits gates_so_far S c.condition.new.gates c.args.wires.now first).0 =
    c.in_ok-waiting-in-If.ensures.gates ∙ (λ j. (statement_bits gates_so_far S c.condition.new.gates c.args.wires.now (plain_stmt (c.deref-in-If-4.ensures j))).0) in
    let at_3 : c.statement.new.gates ≡ (statement_bits gates_so_far S c.first_branch.new.gates c.args.wires.now second).0 =
    c.in_ok-statement-in-If.ensures.gates ∙ (λ j. (statement_bits gates_so_far S c.first_branch.new.gates (back j) (plain_stmt (c.deref-in-If-5.ensures j))).0) in
    let done = if_done (next_node c.args.gates.now) c.args.clocked c.args.held.now c.args.wires.now c.requires.are c.args.gates.now c.condition.new.gates c.first_branch.new.gates c.statement.new.gates
    c.in_ok-test-in-If.test asked first second marks w c.statement.new.wires fit at_1 at_test is at_2 keeps at_3 after in
    let ends = done ∙ ap (λ (s : Statement). statement_bits gates_so_far S c.args.gates.now c.args.wires.now s) (sym whole) in
    on_ok c.merge.result (c.merge.new.wires ≡ (merged_at gates_so_far c.statement.new.gates w.test w.marks.items (held_words w.words.items) c.statement.new.wires).1)
    (c.merge.new.wires ≡ (statement_bits gates_so_far S c.args.gates.now c.args.wires.now (plain_stmt c.args.stmt.now)).1)
    (λ e. e ∙ ap (λ (r : Step GateList (List (List Edge))). r.1) ends) c.merge.ensures.wires

pub statement-returns-in_ok-statement-in-If-clause-few : goal.statement-returns-in_ok-statement-in-If-clause-few
statement-returns-in_ok-statement-in-If-clause-few t c =
    let W = widths_of c.args.wires.now in
    let N = length c.args.wires.now in
    let S = sight_of c.args.clocked c.args.held.now in
    let B = blocking_of S in
    let asked = plain_typed c.in-If.asked.value in
    let first = plain_stmt c.in-If.first.value in
    let second = plain_stmt c.in-If.second.value in
    let whole : plain_stmt c.args.stmt.now ≡ If asked first second = ap (λ (s : TypedStmt). plain_stmt s) c.in-If.is in
    let fit = subst (StatementFits W B) whole c.requires.fit in
    let all = subst (λ (s : Statement). next_node c.args.gates.now + statement_weight W N s ≤ 2147483648) whole c.requires.room in
    let marks = c.in_ok-marks-in-If.marks.items in
    let is : marks ≡ mark_statement N second (mark_statement N first []) =
    c.in_ok-marks-in-If.ensures.marked ∙ (λ j. mark_statement (c.len.ensures j) (plain_stmt (c.deref-in-If-3.ensures j)) (mark_statement (c.len.ensures j) (plain_stmt (c.deref-in-If-2.ensures j)) [])) in
    let few_test = subst (λ (e : TypedExpr). next_node c.condition.new.gates ≤ next_node c.args.gates.now + (expression_weight W (plain_typed e) + e.width)) c.deref-in-If.ensures c.in_ok-test-in-If.ensures.few in
    let back = c.in_ok-waiting-in-If.ensures.back in
    let w = c.in_ok-waiting-in-If.waiting in
    let few_first = subst (λ (s : TypedStmt). next_node c.first_branch.new.gates ≤ next_node c.condition.new.gates + statement_weight W N (plain_stmt s)) c.deref-in-If-4.ensures c.in_ok-waiting-in-If.ensures.few in
    let few_second = subst (λ (s : TypedStmt). next_node c.statement.new.gates ≤ next_node c.first_branch.new.gates + statement_weight W N (plain_stmt s)) c.deref-in-If-5.ensures
    (subst (λ (us : List (List Edge)). next_node c.statement.new.gates ≤ next_node c.first_branch.new.gates + statement_weight (widths_of us) (length us) (plain_stmt c.deref-in-If-5.result.now)) back c.in_ok-statement-in-If.ensures.few) in
    let after : c.statement.new.wires ≡ (statement_bits gates_so_far S c.first_branch.new.gates c.args.wires.now second).1 =
    c.in_ok-statement-in-If.ensures.wires ∙ (λ j. (statement_bits gates_so_far S c.first_branch.new.gates (back j) (plain_stmt (c.deref-in-If-5.ensures j))).1) in
    let keeps = subst (λ (s : TypedStmt). Keeps c.in_ok-test-in-If.test marks (statement_bits gates_so_far S c.condition.new.gates c.args.wires.now (plain_stmt s)).1 w) c.deref-in-If-4.ensures c.in_ok-waiting-in-If.ensures.kept in
    let bits = if_bits N first second c.in_ok-test-in-If.test marks (statement_bits gates_so_far S c.condition.new.gates c.args.wires.now first).1 w is keeps in
    on_ok c.merge.result (next_node c.merge.new.gates ≤ next_node c.statement.new.gates + marked_bits w.marks.items)
    (next_node c.merge.new.gates ≤ next_node c.args.gates.now + statement_weight W N (plain_stmt c.args.stmt.now))
    (λ e. subst (λ (s : Statement). next_node c.merge.new.gates ≤ next_node c.args.gates.now + statement_weight W N s) (sym whole) (omega (arith, e, few_test, few_first, few_second, bits)))
    c.merge.ensures.few
