-- What a verdict on a question says of its design.
use Rattle.std.proofs.Common.{◌≡◌, ◌∙◌, ℕ, Bool, true, false, List, [], ◌∷◌, length, replicate, Some, Ok, refl, sym, ap, subst}
use Rattle.std.specs.Prelude.{IsSome}
use Rattle.std.proofs.lemmas.List.{length-map, length-replicate}
use Rattle.std.specs.List.{AllByRecursion}
use Rattle.rst_value.specs.declared.tern.Tern.{Tern}
use Rattle.rst_value.specs.declared.tern.Tern.TheVariants.{Unknown}
use Rattle.rst_value.specs.Terns.{known}
use Rattle.rst_gate.specs.Operations.{on_terns}
use Rattle.rst_gate.specs.Circuits.{Circuit, IsInOrder, first_gate}
use Rattle.rst_gate.specs.GateMachines.{machine_of, terns_of}
use Rattle.rst_gate.specs.Machine.{Machine, IsState, IsWord, outs, after}
use Rattle.rst_gate.specs.MachineLaws.{KeepsStates}
use Rattle.rst_gate.specs.Patterns.{IsPattern, PatternSigns}
use Rattle.rst_gate.specs.TernMachine.{IsKnown, KnowsPattern, pattern_after}
use Rattle.rst_gate.proofs.FoldLaws.{terns_fold}
use Rattle.rst_gate.proofs.PatternFillings.{fillings-words}
use Rattle.rst_word_gates.proofs.Meaning.{terns_constant}
use Rattle.rst_tree.specs.Trees.{Text}
use Rattle.rst_net.specs.Units.{PlainFlat}
use Rattle.rst_cycle.specs.Cycle.{IsMachineOf}
use Rattle.rst_flow.specs.Flows.{Passes}
use Rattle.rst_accepted.specs.Elaborated.{IsElaborated}
use Rattle.rst_settled.specs.Settling.{HasOneMachine}
use Rattle.rst_design_terms.specs.Gates.{gates_of, input_bits, state_bits}
use Rattle.rst_design_terms.proofs.Meaning.{designs_are}
use Rattle.rst_known.specs.Readings.{design_terns}
use Rattle.rst_known.proofs.Trails.{states_are}
use Rattle.rst_source_machine.specs.Ordered.{ordered}
use Rattle.rst_source_machine.specs.Alike.{AreAlike}
use Rattle.rst_verdict.specs.declared.verdict.Verdict.{Verdict}
use Rattle.rst_verdict.specs.declared.verdict.Verdict.TheVariants.{SignedKnown, SignedRelation, Refuted, Never, Alignable, Unknown as Undecided}
use Rattle.rst_question.specs.declared.question.Places.{Places}
use Rattle.rst_question.specs.Questions.{Question, QuestionGives, netlist}
use Rattle.rst_replies.specs.Replies.{Knows, IsVerdictOf, HasOrderedGates}
use Rattle.rst_due.specs.Asked.{IsAccepted}
use Rattle.rst_due.proofs.Accepted.{accepted, places_are}
use Rattle.rst_sign.specs.Promises.{Resets, Refutes, signed_pattern}

-- THE GATES GO THROUGH THE STATES OF THE TERMS

module _ (flat : PlainFlat) (in_order : HasOrderedGates flat) (each : length (gates_of flat).nexts ≡ (gates_of flat).states) where
  step_is : (state places : List Tern) → length state ≡ state_bits flat → length places ≡ input_bits flat
      → (terns_of (gates_of flat)).step state places ≡ (design_terns flat).step state places
  step_is state places tall wide = (designs_are known on_terns terns_fold terns_constant flat places state wide tall in_order).nexts

  next_tall : (state places : List Tern) → length ((terns_of (gates_of flat)).step state places) ≡ state_bits flat
  next_tall state places = length-map (gates_of flat).nexts _ ∙ (each ∙ states_are flat)

  behind_is : (state : List Tern) (pattern : List (List Tern)) → length state ≡ state_bits flat
      → AllByRecursion (λ (places : List Tern). length places ≡ input_bits flat) pattern
      → pattern_after (terns_of (gates_of flat)) state pattern ≡ pattern_after (design_terns flat) state pattern
  behind_is state [] tall wide = refl
  behind_is state (places ∷ pattern) tall wide =
      let one = step_is state places tall wide.0 in
      behind_is ((terns_of (gates_of flat)).step state places) pattern (next_tall state places) wide.1
      ∙ ap (λ (next : List Tern). pattern_after (design_terns flat) next pattern) one

  pub gates_know : (pattern : List (List Tern)) → AllByRecursion (λ (places : List Tern). length places ≡ input_bits flat) pattern
      → KnowsPattern (design_terns flat) pattern → KnowsPattern (terns_of (gates_of flat)) pattern
  gates_know pattern wide knows =
      let start : replicate (gates_of flat).states Unknown ≡ replicate (state_bits flat) Unknown = ap (λ (n : ℕ). replicate n Unknown) (states_are flat) in
      let same = ap (λ (state : List Tern). pattern_after (terns_of (gates_of flat)) state pattern) start
      ∙ behind_is (replicate (state_bits flat) Unknown) pattern (length-replicate (state_bits flat) Unknown) wide in
      subst (AllByRecursion IsKnown) (sym same) knows

-- a machine of gates that keeps its states has a next edge for each
each_next : (c : Circuit) → KeepsStates (machine_of c) → length c.nexts ≡ c.states
each_next c keeps =
    let state = replicate c.states false in
    let input = replicate c.inputs false in
    sym (length-map c.nexts _) ∙ keeps state input (length-replicate c.states false) (length-replicate c.inputs false)

-- THE PATTERN

pub known_resets : ((flat : PlainFlat) (order : List ℕ) → IsElaborated flat → Passes flat order → HasOneMachine flat)
    → ((flat : PlainFlat) (m : Machine) → IsMachineOf flat m → KeepsStates m)
    → ((flat : PlainFlat) (order : List ℕ) → IsElaborated flat → Passes flat order
    → IsInOrder (first_gate (gates_of (ordered flat order))) (gates_of (ordered flat order)).gates → IsMachineOf flat (machine_of (gates_of (ordered flat order))))
    → ((flat : PlainFlat) (order : List ℕ) (m : Machine) (pattern : List (List Tern)) → IsElaborated flat → Passes flat order
    → IsInOrder (first_gate (gates_of (ordered flat order))) (gates_of (ordered flat order)).gates → IsMachineOf flat m → IsPattern m pattern
    → KnowsPattern (terns_of (gates_of (ordered flat order))) pattern → PatternSigns m pattern)
    → (places : Places) (top script : Text) (sources : List Text) (q : Question) → QuestionGives places top script sources (Ok q)
    → HasOrderedGates (netlist q) → Knows q → Resets q.flat q.pattern
known_resets one_machine keeps_states gates_are signs_known places top script sources q gives in_order knows =
    let a : IsAccepted script q = accepted places top script sources q gives in
    let wide = places_are script q a in
    let is : IsMachineOf q.flat (machine_of (gates_of (netlist q))) = gates_are q.flat q.order a.elaborated a.passes in_order in
    let each = each_next (gates_of (netlist q)) (keeps_states q.flat (machine_of (gates_of (netlist q))) is) in
    let known_by_gates : KnowsPattern (terns_of (gates_of (netlist q))) q.pattern = gates_know (netlist q) in_order each q.pattern wide knows in
    record {
      one = one_machine q.flat q.order a.elaborated a.passes;
      signs = λ m m_is.
          let P : ℕ → Type 0 = λ n. AllByRecursion (λ (places : List Tern). length places ≡ n) q.pattern in
          let fits : IsPattern m q.pattern = subst P (sym m_is.inputs) wide in
          signs_known q.flat q.order m q.pattern a.elaborated a.passes in_order m_is fits known_by_gates;
    }

-- a word leads a state to a state
after_is : (m : Machine) → KeepsStates m → (state : List Bool) (word : List (List Bool)) → IsState m state → IsWord m word → IsState m (after m state word)
after_is m keeps state [] is fits = is
after_is m keeps state (input ∷ word) is fits = after_is m keeps (m.step state input) word (keeps state input is fits.0) fits.1

-- WHAT A VERDICT SAYS

module _
    (one_machine : (flat : PlainFlat) (order : List ℕ) → IsElaborated flat → Passes flat order → HasOneMachine flat)
    (keeps_states : (flat : PlainFlat) (m : Machine) → IsMachineOf flat m → KeepsStates m)
    (gates_are : (flat : PlainFlat) (order : List ℕ) → IsElaborated flat → Passes flat order
    → IsInOrder (first_gate (gates_of (ordered flat order))) (gates_of (ordered flat order)).gates → IsMachineOf flat (machine_of (gates_of (ordered flat order))))
  where
    pub signed_resets : ((flat : PlainFlat) (order : List ℕ) (m : Machine) (pattern : List (List Tern)) → IsElaborated flat → Passes flat order
        → IsInOrder (first_gate (gates_of (ordered flat order))) (gates_of (ordered flat order)).gates → IsMachineOf flat m → IsPattern m pattern
        → KnowsPattern (terns_of (gates_of (ordered flat order))) pattern → PatternSigns m pattern)
        → ((flat : PlainFlat) (order : List ℕ) (m : Machine) (pattern : List (List Tern)) → IsElaborated flat → Passes flat order
        → IsInOrder (first_gate (gates_of (ordered flat order))) (gates_of (ordered flat order)).gates → IsMachineOf flat m → IsPattern m pattern
        → PatternSigns (machine_of (gates_of (ordered flat order))) pattern → PatternSigns m pattern)
        → (places : Places) (top script : Text) (sources : List Text) (q : Question) (verdict : Verdict) → QuestionGives places top script sources (Ok q)
        → HasOrderedGates (netlist q) → IsVerdictOf q verdict → IsSome (signed_pattern verdict) → (signed_pattern verdict ≡ Some q.pattern) × Resets q.flat q.pattern
    signed_resets signs_known to_source places top script sources q (SignedKnown seq) gives in_order (knows, is) some =
        (ap (λ (p : List (List Tern)). Some p) is, known_resets one_machine keeps_states gates_are signs_known places top script sources q gives in_order knows)
    signed_resets signs_known to_source places top script sources q (SignedRelation seq equal blocked split land) gives in_order (never, more, is, relation) some =
        let a : IsAccepted script q = accepted places top script sources q gives in
        let wide = places_are script q a in (
          ap (λ (p : List (List Tern)). Some p) is,
          record {
            one = one_machine q.flat q.order a.elaborated a.passes;
            signs = λ m m_is.
                let P : ℕ → Type 0 = λ n. AllByRecursion (λ (places : List Tern). length places ≡ n) q.pattern in
                let fits : IsPattern m q.pattern = subst P (sym m_is.inputs) wide in
                to_source q.flat q.order m q.pattern a.elaborated a.passes in_order m_is fits relation.signs;
          },
        )
    signed_resets signs_known to_source places top script sources q (Refuted seq a b word) gives in_order decides some = let e : false ≡ true = some in cc
    signed_resets signs_known to_source places top script sources q (Never a b blocked freed escape) gives in_order decides some = absurd decides
    signed_resets signs_known to_source places top script sources q (Alignable seq a b word blocked freed split stuck) gives in_order decides some = absurd decides
    signed_resets signs_known to_source places top script sources q (Undecided equal journal) gives in_order decides some = let e : false ≡ true = some in cc

    pub refuted_apart : ((flat : PlainFlat) (order : List ℕ) (m : Machine) → IsElaborated flat → Passes flat order
        → IsInOrder (first_gate (gates_of (ordered flat order))) (gates_of (ordered flat order)).gates → IsMachineOf flat m
        → AreAlike (machine_of (gates_of (ordered flat order))) m)
        → ((l r : Machine) (state : List Bool) (word : List (List Bool)) → AreAlike l r → KeepsStates l → IsState l state → IsWord l word → outs l state word ≡ outs r state word)
        → ((l r : Machine) (state : List Bool) (word : List (List Bool)) → AreAlike l r → KeepsStates l → IsState l state → IsWord l word → after l state word ≡ after r state word)
        → (places : Places) (top script : Text) (sources : List Text) (q : Question) (seq word : List (List Bool)) (a b : List Bool) → QuestionGives places top script sources (Ok q)
        → HasOrderedGates (netlist q) → IsVerdictOf q (Refuted seq a b word) → Refutes q.flat q.pattern seq a b word
    refuted_apart alike same_outs same_after places top script sources q seq word a b gives in_order (never, more, by) =
        let acc : IsAccepted script q = accepted places top script sources q gives in
        let wide = places_are script q acc in
        let l : Machine = machine_of (gates_of (netlist q)) in
        let is : IsMachineOf q.flat l = gates_are q.flat q.order acc.elaborated acc.passes in_order in
        let keeps : KeepsStates l = keeps_states q.flat l is in
        let P : ℕ → Type 0 = λ n. AllByRecursion (λ (places : List Tern). length places ≡ n) q.pattern in
        let fits : IsPattern l q.pattern = subst P (sym is.inputs) wide in
        let run : IsWord l seq = fillings-words l q.pattern seq fits by.fills in
        record {
          one = one_machine q.flat q.order acc.elaborated acc.passes;
          fills = by.fills;
          apart = λ m m_is.
              let both : AreAlike l m = alike q.flat q.order m acc.elaborated acc.passes in_order m_is in
              let behind_a : after l a seq ≡ after m a seq = same_after l m a seq both keeps by.pair.0 run in
              let behind_b : after l b seq ≡ after m b seq = same_after l m b seq both keeps by.pair.1 run in
              let shown_a : outs l (after l a seq) word ≡ outs m (after m a seq) word =
              same_outs l m (after l a seq) word both keeps (after_is l keeps a seq by.pair.0 run) by.is_word ∙ ap (λ (s : List Bool). outs m s word) behind_a in
              let shown_b : outs l (after l b seq) word ≡ outs m (after m b seq) word =
              same_outs l m (after l b seq) word both keeps (after_is l keeps b seq by.pair.1 run) by.is_word ∙ ap (λ (s : List Bool). outs m s word) behind_b in
              let W : ℕ → Type 0 = λ n. AllByRecursion (λ (input : List Bool). length input ≡ n) word in (
                by.pair.0 ∙ both.registers,
                by.pair.1 ∙ both.registers,
                subst W both.inputs by.is_word,
                (λ same. by.apart (shown_a ∙ (same ∙ sym shown_b))),
              );
        }
