-- The aims of hops have cubes of the right width.
use Rattle.std.proofs.Common.{◌≡◌, ℕ, ◌<◌, ◌+◌, List, [], length, refl, sym, subst}
use Rattle.std.specs.Prelude.{slice_index_or, Option, None, Some}
use Rattle.std.specs.Option.{ForSome}
use Rattle.std.proofs.lemmas.List.{get_or-map, length-map}
use Rattle.rst_value.specs.declared.tern.Tern.{Tern}
use Rattle.rst_pair.specs.declared.hop.Hop.{Hop}
use Rattle.rst_widen.specs.declared.aim.Aim.{Aim}
use Rattle.rst_widen.specs.declared.aim.Aim.TheVariants.{Differ, Inside, Outside}
use Rattle.rst_pair.specs.Sides.{Sides, IsCube}
use Rattle.rst_pair.specs.Aims.{Aim'}
use Rattle.rst_pair.specs.Hops.{AreHops, cubes_of, cube_at, blocked_aim, freed_aim}
use Rattle.rst_widen.specs.Widening.{plain_aim, AimFits}

no_hop : Hop
no_hop = record { cube = []; input = []; next = None }

cube_read : (hops : List Hop) (i : ℕ) (d : List Tern) → i < length hops → slice_index_or (cubes_of hops) i d ≡ (slice_index_or hops i no_hop).cube
cube_read hops i d below = get_or-map (λ h. h.cube) hops i no_hop d below

cube_wide : (p : Sides) (hops : List Hop) (i : ℕ) (d : List Tern) → AreHops p hops → i < length hops → IsCube p (slice_index_or (cubes_of hops) i d)
cube_wide p hops i d are below = rw (cube_read hops i d below) (are i no_hop below).cube

-- what is aimed at, as contracts say it
pub data Aims (p : Sides) : Aim' → Type 0 where
  differ : Aims p Aim'.Differ
  inside : (hops : List Hop) (k : ℕ) → AreHops p hops → k < length hops → Aims p (Aim'.Inside (cube_at hops k))
  outside : (hops : List Hop) → AreHops p hops → Aims p (Aim'.Outside (cubes_of hops))

pub blocked_aims : (p : Sides) (blocked : List Hop) (next : Option ℕ) → AreHops p blocked → ForSome next (λ k. k < length blocked)
    → Aims p (blocked_aim blocked next)
blocked_aims p blocked None are h = differ
blocked_aims p blocked (Some k) are h = inside blocked k are (h k refl)

pub freed_aims : (p : Sides) (blocked freed : List Hop) (next : Option ℕ) → AreHops p blocked → AreHops p freed
    → ForSome next (λ k. k < length freed) → Aims p (freed_aim blocked freed next)
freed_aims p blocked freed None ab af h = outside blocked ab
freed_aims p blocked freed (Some k) ab af h = inside freed k af (h k refl)

-- the widths of an aim
abbrev PlainFits : ℕ → Aim' → Type 0
PlainFits n Aim'.Differ = Unit {0}
PlainFits n (Aim'.Inside cube) = length cube ≡ n
PlainFits n (Aim'.Outside cubes) = (k : ℕ) (d : List Tern) → k < length cubes → length (slice_index_or cubes k d) ≡ n

plain_fits : (p : Sides) (a : Aim') → Aims p a → PlainFits (p.left.states + p.right.states) a
plain_fits p _ differ = tt
plain_fits p _ (inside hops k are below) = cube_wide p hops k [] are below
plain_fits p _ (outside hops are) = λ k d below. cube_wide p hops k d are (subst (λ n. k < n) (length-map hops (λ h. h.cube)) below)

fits : (n : ℕ) (aim : Aim) → PlainFits n (plain_aim aim) → AimFits n aim
fits n Differ h = h
fits n (Inside cube) h = h
fits n (Outside hops) h = h

pub aim_fits : (p : Sides) (aim : Aim) (a : Aim') → plain_aim aim ≡ a → Aims p a → AimFits (p.left.states + p.right.states) aim
aim_fits p aim a is h = fits (p.left.states + p.right.states) aim (subst (PlainFits (p.left.states + p.right.states)) (sym is) (plain_fits p a h))
