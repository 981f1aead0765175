-- The hops of a list, place by place.
use Rattle.std.proofs.Common.{◌≡◌, ◌∙◌, ℕ, zero, suc, ◌<◌, ◌+◌, ◌⊎◌, inl, inr, List, [], ◌∷◌, length, get_or, refl, ap, sym, arith}
use Rattle.std.specs.Prelude.{slice_index_or}
use Rattle.std.specs.List.{All}
use Rattle.std.proofs.lemmas.List.{get_or-map}
use Rattle.rst_value.specs.declared.tern.Tern.{Tern}
use Rattle.rst_pair.specs.declared.hop.Hop.{Hop}
use Rattle.rst_pair.specs.Hops.{cubes_of}

-- the cube of the hop at a place
pub cube_read :
    (hops : List Hop) (i : ℕ) (hop : Hop) (d : List Tern) → i < length hops → hop ≡ get_or hops i hop → slice_index_or (cubes_of hops) i d ≡ hop.cube
cube_read hops i hop d below is = get_or-map (λ h. h.cube) hops i hop d below ∙ ap (λ h. h.cube) (sym is)

pub cube_wide :
    (hops : List Hop) (n i : ℕ) (hop : Hop) → All (λ cube. length cube ≡ n) (cubes_of hops) → i < length hops → hop ≡ get_or hops i hop
    → length hop.cube ≡ n
cube_wide hops n i hop wide below is =
    ap length (sym (cube_read hops i hop [] below is)) ∙ wide i [] (omega (arith, below, length_cubes hops)) where
      length_cubes : (hs : List Hop) → length (cubes_of hs) ≡ length hs
      length_cubes [] = refl
      length_cubes (h ∷ hs) = omega (arith, length_cubes hs)

pub last_or_before : (i n : ℕ) → i < n + 1 → (i < n) ⊎ (i ≡ n)
last_or_before zero zero h = inr refl
last_or_before zero (suc n) h = inl (omega arith)
last_or_before (suc i) zero h = absurd (omega arith)
last_or_before (suc i) (suc n) h = elim (last_or_before i n (omega arith)) [
  | inl b ↦ inl (omega (arith, b))
  | inr e ↦ inr (omega (arith, e))
]
