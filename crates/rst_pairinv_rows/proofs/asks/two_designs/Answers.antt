use Rattle.std.proofs.Common.{◌≡◌, ◌∙◌, ℕ, zero, suc, Bool, true, false, List, [], ◌∷◌, ap}
use Rattle.std.specs.Prelude.{slice_index_or}
use Rattle.rst_gate.specs.ClosedSets.{IsWithin}
use Rattle.rst_pair.proofs.Lists.{zip-length}
use Rattle.rst_pairinv_rows.proofs.asks.two_designs.Goals as goal

within_at : (set other : List Bool) → IsWithin set other → (i : ℕ) → slice_index_or set i false ≡ true → slice_index_or other i false ≡ true
within_at [] [] h i e = e
within_at [] (b ∷ other) h i e = absurd h
within_at (a ∷ set) [] h i e = absurd h
within_at (a ∷ set) (b ∷ other) h zero e = h.0 e
within_at (a ∷ set) (b ∷ other) h (suc i) e = within_at set other h.1 i e

pub ask-requires : goal.ask-requires
ask-requires c = record {
  count = zip-length (λ (a b : Bool). a ≡ true → b ≡ true) c.in_ok-equal.equal c.in_ok-known.known c.in_ok-equal.ensures.within
      ∙ c.in_ok-known.ensures.count ∙ ap (λ g. g.states) c.left_gates.view_is;
  closed = c.in_ok-equal.ensures.closed;
  one_design = λ i marked.
      absurd (c.in_ok-known.ensures.none i (within_at c.in_ok-equal.equal c.in_ok-known.known c.in_ok-equal.ensures.within i marked));
}
