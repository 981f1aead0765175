-- Membership in a front's relation.
use Rattle.std.proofs.Common.{◌≡◌, ◌↔◌, Bool, true, false, not, List, length, take, drop, refl}
use Rattle.std.specs.Prelude.{IsTrue}
use Rattle.std.proofs.lemmas.Bool.{false≢true}
use Rattle.rst_gate.specs.ClosedSets.{AgreeOn}
use Rattle.rst_pair.specs.declared.hop.Hop.{Hop}
use Rattle.rst_pair.specs.Aims.{LiesInSome}
use Rattle.rst_pair.specs.Hops.{cubes_of}
use Rattle.rst_pair.specs.Fronts.{Front', IsRelated}

-- membership in the relation, from that in its two parts
related_first :
    (f : Front') (s t : List Bool) (b : Bool) → AgreeOn f.equal s t → (IsTrue b ↔ LiesInSome (cubes_of f.blocked) s t)
    → IsTrue (not b) → IsRelated f s t
related_first f s t true agree some h = absurd (false≢true h)
related_first f s t false agree some h = record { equal = agree; outside = λ i below holds. false≢true (some.1 (i, below, holds)) }

related_second :
    (f : Front') (s t : List Bool) (b : Bool) → (IsTrue b ↔ LiesInSome (cubes_of f.blocked) s t) → IsRelated f s t → IsTrue (not b)
related_second f s t true some related = let found = some.0 refl in absurd (related.outside found.0 found.1 found.2)
related_second f s t false some related = refl

pub related_when :
    (f : Front') (both equal places : List Bool) (hops : List Hop) (a b : Bool) → equal ≡ f.equal → hops ≡ f.blocked → places ≡ both → a ≡ true
    → (IsTrue a ↔ AgreeOn equal (take (length equal) places) (drop (length equal) places))
    → (IsTrue b ↔ LiesInSome (cubes_of hops) (take (length equal) places) (drop (length equal) places))
    → IsTrue (not b) ↔ IsRelated f (take (length f.equal) both) (drop (length f.equal) both)
related_when f both equal places hops a b is_equal is_hops is_places agreed agree some =
    let agree' = rw (is_equal, is_places) at agree in
    let some' = rw (is_equal, is_hops, is_places) at some in (
      related_first f (take (length f.equal) both) (drop (length f.equal) both) b (agree'.0 agreed) some',
      related_second f (take (length f.equal) both) (drop (length f.equal) both) b some',
    )
