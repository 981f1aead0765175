-- The known registers are those of the last state of the trace.
use Rattle.std.proofs.Common.{◌≡◌, ◌∙◌, ℕ, List, length, map, ap, sym, subst}
use Rattle.std.specs.Prelude.{slice_index_or}
use Rattle.std.proofs.lemmas.Option.{get_or_from_slice_get}
use Rattle.rst_value.specs.declared.tern.Tern.{Tern}
use Rattle.rst_gate.specs.GateMachines.{terns_of}
use Rattle.rst_landing.specs.Landings.{known_behind}
use Rattle.rst_relation.specs.Decisions.{is_bit, known_registers}
use Rattle.rst_relation.proofs.Marked.{length-map-is, known_count, marked_behind}
use Rattle.rst_relation.proofs.marking.marked.Goals as goal

pub closed_equal-requires : goal.closed_equal-requires
closed_equal-requires c =
    let last : c.as_slice.result.now ≡ known_behind (terns_of c.args.gates.now) c.args.pattern.now =
    c.as_slice.ensures ∙ (c.index.ensures ∙ (ap (λ (n : ℕ). slice_index_or c.in_ok-trace.trace.states.items n c.index.result.now) c.len-last.ensures
    ∙ get_or_from_slice_get c.in_ok-trace.trace.states.items (length c.args.pattern.now) (known_behind (terns_of c.args.gates.now) c.args.pattern.now) c.index.result.now c.in_ok-trace.ensures.last)) in
    let known : c.in_ok-known.known ≡ known_registers c.args.gates.now c.args.pattern.now = c.in_ok-known.ensures ∙ ap (λ (s : List Tern). map is_bit s) last in
    ap (λ s. length s) known ∙ (length-map-is is_bit (known_behind (terns_of c.args.gates.now) c.args.pattern.now) ∙ known_count c.args.gates.now c.args.pattern.now c.are_sides.ensures.left)

pub returns : goal.returns
returns c =
    let last : c.as_slice.result.now ≡ known_behind (terns_of c.args.gates.now) c.args.pattern.now =
    c.as_slice.ensures ∙ (c.index.ensures ∙ (ap (λ (n : ℕ). slice_index_or c.in_ok-trace.trace.states.items n c.index.result.now) c.len-last.ensures
    ∙ get_or_from_slice_get c.in_ok-trace.trace.states.items (length c.args.pattern.now) (known_behind (terns_of c.args.gates.now) c.args.pattern.now) c.index.result.now c.in_ok-trace.ensures.last)) in
    let known : c.in_ok-known.known ≡ known_registers c.args.gates.now c.args.pattern.now = c.in_ok-known.ensures ∙ ap (λ (s : List Tern). map is_bit s) last in
    marked_behind c.args.gates.now c.args.pattern.now c.in_ok-known.known c.closed_equal.result known c.closed_equal.ensures.within c.closed_equal.ensures.closed c.closed_equal.ensures.largest
