use Rattle.std.proofs.Common.{◌≡◌, ℕ, zero, suc, Bool, true, false, List, [], ◌∷◌, ◌++◌, length, ap, subst, arith, length-append}
use Rattle.std.proofs.lemmas.Bool.{false≢true}
use Rattle.std.specs.Prelude.{slice_index_or}
use Rattle.rst_pairinv_rows.proofs.asks.no_marks.Goals as goal

none_more : (bits : List Bool) → ((i : ℕ) → slice_index_or bits i false ≡ true → ⊥)
    → (i : ℕ) → slice_index_or (bits ++ false ∷ []) i false ≡ true → ⊥
none_more [] h zero e = false≢true e
none_more [] h (suc i) e = false≢true e
none_more (b ∷ bits) h zero e = h zero e
none_more (b ∷ bits) h (suc i) e = none_more bits (λ j. h (suc j)) i e

pub loop-preserved : goal.loop-preserved
loop-preserved c =
    let so_far = c.loop.invariant in
    let push = c.in_ok-push.ensures.ok in
    record {
      count = omega (arith, so_far.count, ap length push, length-append c.loop.bits (false ∷ []));
      none = λ i e. none_more c.loop.bits so_far.none i (subst (λ (bits : List Bool). slice_index_or bits i false ≡ true) push e);
    }
