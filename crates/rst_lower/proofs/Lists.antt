-- Steps of the loop over the parts of a join.
use Rattle.std.proofs.Common.{◌≡◌, ℕ, ◌+◌, ◌<◌, ◌≤◌, List, [], ◌++◌, length, drop, get_or, arith, refl, sym, ap, ◌∙◌, append_assoc}
use Rattle.std.proofs.lemmas.List.{drop_more, append-nil}
use Rattle.rst_gate.specs.declared.edge.Edge.{Edge}
use Rattle.rst_gate.specs.GateLists.{GateList, next_node}
use Rattle.rst_width.specs.declared.typed_expr.TypedExpr.{TypedExpr}
use Rattle.rst_width.specs.Typed.{Typed, TypedList, end, more, plain_all, plain_typed}
use Rattle.rst_width.specs.Fit.{AreFit}
use Rattle.rst_width.specs.Reads.{AllReadInside}
use Rattle.rst_terms.specs.Algebras.{Step}
use Rattle.rst_word_gates.specs.GateAlgebra.{gates_so_far}
use Rattle.rst_typed_terms.specs.Expressions.{expression_bits, list_bits}
use Rattle.rst_typed_terms.specs.Weights.{expression_weight, list_weight}

-- the bits so far below those of the parts that are left
abbrev pub above : List Edge → Step GateList (List Edge) → Step GateList (List Edge)
above out r = (r.0, r.1 ++ out)

-- What a loop over parts keeps: the gates and bits of the parts so far, and what the others ask for.
pub record PartsLeft (signals : ℕ → List Edge) (widths : ℕ → ℕ) (start : GateList) (all : TypedList) (gates : GateList) (out : List Edge) (left : TypedList) : Type 0 where
  pub run : list_bits gates_so_far signals start all ≡ above out (list_bits gates_so_far signals gates left)
  pub fit : AreFit left
  pub inside : AllReadInside widths left
  pub few : next_node gates + list_weight widths left ≤ next_node start + list_weight widths all
  pub grows : next_node start ≤ next_node gates

pub parts_begin :
    (signals : ℕ → List Edge) (widths : ℕ → ℕ) (start : GateList) (all : TypedList) → AreFit all → AllReadInside widths all
    → PartsLeft signals widths start all start [] all
parts_begin signals widths start all fit inside = record {
  run = λ i. ((list_bits gates_so_far signals start all).0, sym (append-nil (list_bits gates_so_far signals start all).1) i);
  fit = fit;
  inside = inside;
  few = omega arith;
  grows = omega arith;
}

-- the first of the parts that are left
pub parts_first : (es : List TypedExpr) (i : ℕ) (d : TypedExpr) → i < length es → plain_all (drop i es) ≡ more (plain_typed (get_or es i d)) (plain_all (drop (i + 1) es))
parts_first es i d h = ap plain_all (drop_more es i d h)

-- one more part
pub parts_next :
    (signals : ℕ → List Edge) (widths : ℕ → ℕ) (start : GateList) (all : TypedList) (gates later : GateList) (out word both : List Edge) (x : Typed) (xs : TypedList)
    → PartsLeft signals widths start all gates out (more x xs)
    → later ≡ (expression_bits gates_so_far signals gates x).0 → word ≡ (expression_bits gates_so_far signals gates x).1 → both ≡ word ++ out
    → next_node gates ≤ next_node later → next_node later ≤ next_node gates + expression_weight widths x
    → PartsLeft signals widths start all later both xs
parts_next signals widths start all gates later out word both x xs h state bits joined grows few =
    let r : Step GateList (List Edge) = expression_bits gates_so_far signals gates x in
    let rest : Step GateList (List Edge) = list_bits gates_so_far signals r.0 xs in
    record {
      run = h.run ∙ ((λ i. (rest.0, append_assoc rest.1 r.1 out i)) ∙ rw (joined, state, bits) refl);
      fit = h.fit.1;
      inside = h.inside.1;
      few = omega (arith, h.few);
      grows = omega (arith, h.grows);
    }

pub parts_end :
    (signals : ℕ → List Edge) (widths : ℕ → ℕ) (start : GateList) (all : TypedList) (gates : GateList) (out : List Edge)
    → PartsLeft signals widths start all gates out end → list_bits gates_so_far signals start all ≡ (gates, out)
parts_end signals widths start all gates out h = h.run
