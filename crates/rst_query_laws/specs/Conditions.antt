-- Pairs, fronts and queries that fit together.
use Rattle.std.specs.Prelude.{◌≡◌, ℕ, ◌<◌, true, false, slice_index_or}
use Rattle.rst_pair.specs.declared.query.Query.{Query}
use Rattle.rst_pair.specs.Sides.{Sides, AreSides}
use Rattle.rst_pair.specs.Fronts.{Front', IsFront}
use Rattle.rst_pose.specs.Posing.{IsQueryOf}

-- each marked register is one of both sides
abbrev pub AreShared : Sides → Front' → Type 0
AreShared p f = (i : ℕ) → slice_index_or f.equal i false ≡ true → i < p.right.states

-- the front and the query are of the pair
pub record IsAbout (p : Sides) (f : Front') (query : Query) : Type 0 where
  pub sides : AreSides p
  pub front : IsFront p f
  pub shared : AreShared p f
  pub speaks : IsQueryOf p query
