-- What fits together in a design does so in the order of its units.
use Rattle.std.proofs.Common.{◌≡◌, ℕ, zero, suc, true, List, [], ◌∷◌, Option, Some, None, refl, subst}
use Rattle.std.specs.List.{AllByRecursion, slice_get}
use Rattle.std.proofs.lemmas.Option.{same_Some}
use Rattle.rst_net.specs.Units.{PlainDriver, PlainFlat}
use Rattle.rst_cycle.specs.Signals.{width_of}
use Rattle.rst_flow.specs.Edges.{pick, picks}
use Rattle.rst_design_terms.specs.Designs.{unit_statement}
use Rattle.rst_statement_values.specs.Fits.{StatementFits}
use Rattle.rst_agreement.specs.Fits.{DesignFits}
use Rattle.rst_source_machine.specs.Ordered.{ordered}

-- ---- some of a list, in another order

module _ {X : Type 0} (P : X → Type 0) where
  one_of : (xs : List X) → AllByRecursion P xs → (k : ℕ) (x : X) → slice_get xs k ≡ Some x → P x
  one_of [] all k x at = absurd cc
  one_of (y ∷ xs) all zero x at = subst P (same_Some y x at) all.0
  one_of (y ∷ xs) all (suc k) x at = one_of xs all.1 k x at

  all_picked : (xs : List X) → AllByRecursion P xs → (order : List ℕ) → AllByRecursion P (picks xs order)
  all_picked xs all [] = tt
  all_picked xs all (v ∷ order) = by (slice_get xs v) refl (all_picked xs all order)
    where
      by : (o : Option X) → slice_get xs v ≡ o → AllByRecursion P (picks xs order) → AllByRecursion P (pick o (picks xs order))
      by None at rest = rest
      by (Some x) at rest = (one_of xs all v x at, rest)

pub fits_in_order : (flat : PlainFlat) (order : List ℕ) → DesignFits flat → DesignFits (ordered flat order)
fits_in_order flat order fits = record {
  units = all_picked (λ (unit : PlainDriver). StatementFits (width_of flat.signals) true (unit_statement unit)) flat.units fits.units order;
  clocked = fits.clocked;
}
