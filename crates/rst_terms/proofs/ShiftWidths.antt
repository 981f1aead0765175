-- A shift keeps the width of a word, in two values.
use Rattle.std.proofs.Common.{◌≡◌, ℕ, ◌*◌, ◌<◌, Bool, List, [], ◌∷◌, length, replicate, ltb, arith, refl, ap, ◌∙◌}
use Rattle.std.proofs.lemmas.Bool.{cond_both, ltb-true}
use Rattle.std.proofs.lemmas.List.{length-replicate, length-take, length-drop, length-append}
use Rattle.rst_terms.specs.declared.kinds.Direction.{Direction}
use Rattle.rst_terms.specs.declared.kinds.Direction.TheVariants.{Up, Down}
use Rattle.rst_terms.specs.declared.kinds.Connective.TheVariants.{Or}
use Rattle.rst_terms.specs.Algebras.{bits, Step}
use Rattle.rst_terms.specs.Recurrences.{chosen, reduced, moved, moved_out, shifted}
use Rattle.rst_terms.proofs.Choices.{chosen_bits, cond_length}

pub moved_width : {X : Type 0} (way : Direction) (fill : X) (p : ℕ) (xs : List X) → p < length xs → length (moved way fill p xs) ≡ length xs
moved_width Up fill p xs h = simp (length-append, length-replicate, length-take) (omega arith)
moved_width Down fill p xs h = simp (length-append, length-replicate, length-drop) (omega arith)

out_width : (fill : Bool) (ns xs : List Bool) → length (moved_out bits tt fill ns xs).1 ≡ length xs
unfolding moved_out
out_width fill ns xs =
    ap length (chosen_bits (reduced bits Or tt ns).1 (replicate (length xs) fill) xs (length-replicate (length xs) fill))
    ∙ cond_length (reduced bits Or tt ns).1 (replicate (length xs) fill) xs (length xs) (length-replicate (length xs) fill) refl

pub shifted_width : (way : Direction) (fill : Bool) (ns : List Bool) (p : ℕ) (xs : List Bool) → length (shifted way bits tt fill p ns xs).1 ≡ length xs
shifted_width way fill [] p xs = out_width fill [] xs
shifted_width way fill (n ∷ ns) p xs =
    let stage : Step (Unit {0}) (List Bool) = chosen bits tt n (moved way fill p xs) xs in
    cond_both (ltb p (length xs)) (shifted way bits stage.0 fill (2 * p) ns stage.1) (moved_out bits tt fill (n ∷ ns) xs)
    (λ (r : Step (Unit {0}) (List Bool)). length r.1 ≡ length xs)
    (λ e.
    let width = moved_width way fill p xs (ltb-true p (length xs) e) in
    shifted_width way fill ns (2 * p) stage.1
    ∙ (ap length (chosen_bits n (moved way fill p xs) xs width) ∙ cond_length n (moved way fill p xs) xs (length xs) width refl))
    (λ e. out_width fill (n ∷ ns) xs)
