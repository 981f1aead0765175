-- Words are read where they stand.
use Rattle.std.proofs.Common.{◌≡◌, ℕ, bytes_eq, Some, List, ◌++◌, length, take, drop, refl, sym, ap, ◌∙◌}
use Rattle.std.proofs.lemmas.List.{take-append-drop}
use Rattle.std.proofs.lemmas.Slice.Eq.{bytes_eq-Decides}
use Rattle.std.proofs.Math.Seq.{drop-append_seam, take-append_seam}
use Rattle.rst_cert_lines.specs.Reading.{after}
use Rattle.rst_cert_lines.proofs.Binds.{chosen}
use Rattle.rst_cert_lines.proofs.Numbers.{same_bytes}

-- what was read off is the word
pub after_takes : (word text : List ℕ) (it : Unit {0} × List ℕ) → after word text ≡ Some it → text ≡ word ++ it.1
unfolding after
after_takes word text it e =
    let p = chosen (bytes_eq (take (length word) text) word) (tt, drop (length word) text) it e in
    let front = (bytes_eq-Decides (take (length word) text) word).0 p.0 in
    sym (take-append-drop (length word) text) ∙ ap (λ w. w ++ drop (length word) text) front ∙ ap (λ (pair : Unit {0} × List ℕ). word ++ pair.1) p.1

-- a word is read off
pub after_again : (word rest : List ℕ) → after word (word ++ rest) ≡ Some (tt, rest)
unfolding after
after_again word rest = rw (take-append_seam word rest, same_bytes word, drop-append_seam word rest) refl
