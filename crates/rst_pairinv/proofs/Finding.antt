-- A guess that is found to be related, by its bits one behind the other.
use Rattle.std.proofs.Common.{◌≡◌, ◌∙◌, ◌↔◌, ℕ, ◌+◌, Bool, true, false, List, ◌++◌, length, take, drop, ap, sym, subst, arith, length-append}
use Rattle.std.specs.Prelude.{IsTrue, slice_index_or}
use Rattle.std.specs.List.{All}
use Rattle.std.proofs.Math.Seq.{take-append_seam, drop-append_seam}
use Rattle.rst_gate.specs.Circuits.{Circuit}
use Rattle.rst_pair.specs.Sides.{Sides, IsPair}
use Rattle.rst_pair.specs.Hops.{cubes_of}
use Rattle.rst_pair.specs.Fronts.{Front', IsRelated}
use Rattle.rst_pose.proofs.Askings.{cubes_wide}
use Rattle.rst_pairinv.specs.declared.block.Refining.{Refining}
use Rattle.rst_pairinv.specs.Refining.{AreMarked}
use Rattle.rst_pairinv.specs.Turns.{IsRefining}
use Rattle.rst_pairinv.proofs.Blocked.{is_front}

pub pair_count : (p : Sides) (s t both : List Bool) → IsPair p s t → both ≡ s ++ t → length both ≡ p.left.states + p.right.states
pair_count p s t both pair is = omega (arith, ap length is, length-append s t, pair.0, pair.1)

pub guess_wide :
    (p : Sides) (it : Refining) (s t both : List Bool) → IsRefining p it → IsPair p s t → both ≡ s ++ t
    → All (λ cube. length cube ≡ length both) (cubes_of it.front.blocked)
guess_wide p it s t both at pair is =
    cubes_wide p it.front.blocked (length both) (is_front p it.front at.count at.none_freed at.hops).blocked (pair_count p s t both pair is)

pub guess_marked :
    (p : Sides) (f : Front') (s t both : List Bool) → AreMarked p f.equal → IsPair p s t → both ≡ s ++ t → (i : ℕ)
    → slice_index_or f.equal i false ≡ true → length both ≡ length f.equal + length f.equal
guess_marked p f s t both marked pair is i mark =
    let same : p.left.states ≡ p.right.states = ap (λ (c : Circuit). c.states) (marked.one_design i mark) in
    omega (arith, pair_count p s t both pair is, same, marked.count)

pub guess_related :
    (p : Sides) (f : Front') (s t both : List Bool) (found : Bool) → AreMarked p f.equal → IsPair p s t → both ≡ s ++ t
    → (IsTrue found ↔ IsRelated f (take (length f.equal) both) (drop (length f.equal) both)) → IsTrue found → IsRelated f s t
guess_related p f s t both found marked pair is decides holds =
    let count : length s ≡ length f.equal = pair.0 ∙ sym marked.count in
    let left : take (length f.equal) both ≡ s =
    ap (λ (b : List Bool). take (length f.equal) b) is ∙ subst (λ (n : ℕ). take n (s ++ t) ≡ s) count (take-append_seam s t) in
    let right : drop (length f.equal) both ≡ t =
    ap (λ (b : List Bool). drop (length f.equal) b) is ∙ subst (λ (n : ℕ). drop n (s ++ t) ≡ t) count (drop-append_seam s t) in
    subst (λ (x : List Bool). IsRelated f x t) left
    (subst (λ (y : List Bool). IsRelated f (take (length f.equal) both) y) right (decides.0 holds))
