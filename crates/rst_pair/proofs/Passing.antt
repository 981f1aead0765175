-- Cubes that pass are right, stay so where they are narrower, and cubes of one pair pass.
use Rattle.std.proofs.Common.{◌≡◌, ◌∙◌, ◌+◌, Bool, true, List, [], ◌++◌, length, take, drop, map, refl, sym, subst, length-append}
use Rattle.std.specs.Prelude.{slice_index_or}
use Rattle.std.specs.List.{AllZip}
use Rattle.std.proofs.lemmas.List.{map-append, length-map}
use Rattle.rst_value.specs.declared.tern.Tern.{Tern}
use Rattle.rst_value.specs.Terns.{known, StandsFor}
use Rattle.rst_value.specs.TernLaws.{Refines}
use Rattle.rst_gate.proofs.Zips.{zip-append}
use Rattle.rst_gate.proofs.Places.{known-stands}
use Rattle.rst_gate.proofs.Readings.{gates_are_sound, gates_are_monotone, gates_are_exact, gates_keep_states}
use Rattle.rst_pair.specs.Sides.{Sides, AreSides, IsPair, Holds, Shown, tern_step, left_machine, right_machine}
use Rattle.rst_pair.specs.Aims.{Aim', AimIsWide, Leads, LeadsAll, shows, passes}
use Rattle.rst_pair.specs.Aims.Aim'.{Differ, Inside, Outside}
use Rattle.rst_pair.proofs.Lists.{zip-take, zip-drop, zip-left, zip-right, zip-same, take-length, drop-length}
use Rattle.rst_pair.proofs.Tables.{Refines-refl, contradicts-apart, within-stand, contradicts-monotone, within-monotone, all-monotone, all-at, all-each, known-contradicts, known-within, known-outside}

-- what the cycle of a pair is, against what a three-valued cycle shows
pub record Stands (p : Sides) (shown : Shown) (s t input : List Bool) : Type 0 where
  pub left_outs : AllZip StandsFor shown.left_outs ((left_machine p).out s input)
  pub right_outs : AllZip StandsFor shown.right_outs ((right_machine p).out t input)
  pub successor : AllZip StandsFor shown.successor ((left_machine p).step s input ++ (right_machine p).step t input)

pub step-stands :
    (p : Sides) (cube : List Tern) (s t input : List Bool) → IsPair p s t → Holds cube s t → Stands p (tern_step p cube input) s t input
step-stands p cube s t input pair holds =
    let left : AllZip StandsFor (take p.left.states cube) s =
    subst (λ n. AllZip StandsFor (take n cube) s) pair.0 (zip-left StandsFor cube s t holds) in
    let right : AllZip StandsFor (drop p.left.states cube) t =
    subst (λ n. AllZip StandsFor (drop n cube) t) pair.0 (zip-right StandsFor cube s t holds) in
    let inputs = known-stands input in
    record {
      left_outs = (gates_are_sound p.left).out _ _ s input left inputs;
      right_outs = (gates_are_sound p.right).out _ _ t input right inputs;
      successor = zip-append StandsFor _ _ _ _
          ((gates_are_sound p.left).step _ _ s input left inputs)
          ((gates_are_sound p.right).step _ _ t input right inputs);
    }

pub shown-leads :
    (p : Sides) (aim : Aim') (shown : Shown) (s t input : List Bool) → Stands p shown s t input → shows aim shown ≡ true → Leads p aim input s t
shown-leads p Differ shown s t input stands h = λ same.
    contradicts-apart shown.left_outs shown.right_outs ((left_machine p).out s input) h stands.left_outs
    (subst (λ outs. AllZip StandsFor shown.right_outs outs) (sym same) stands.right_outs)
shown-leads p (Inside cube) shown s t input stands h =
    within-stand cube shown.successor ((left_machine p).step s input ++ (right_machine p).step t input) h stands.successor
shown-leads p (Outside cubes) shown s t input stands h = λ i below holds.
    contradicts-apart (slice_index_or cubes i []) shown.successor ((left_machine p).step s input ++ (right_machine p).step t input)
    (all-at cubes shown.successor i h below) holds stands.successor

pub passing-right :
    (p : Sides) (aim : Aim') (cube : List Tern) (input : List Bool) → passes p aim input cube ≡ true → LeadsAll p aim cube input
passing-right p aim cube input h = λ s t pair holds.
    shown-leads p aim (tern_step p cube input) s t input (step-stands p cube s t input pair holds) h

-- a narrower cube shows more
record ShowsMore (shown more : Shown) : Type 0 where
  left_outs : AllZip Refines shown.left_outs more.left_outs
  right_outs : AllZip Refines shown.right_outs more.right_outs
  successor : AllZip Refines shown.successor more.successor

step-monotone :
    (p : Sides) (cube narrow : List Tern) (input : List Bool) → AllZip Refines cube narrow
    → ShowsMore (tern_step p cube input) (tern_step p narrow input)
step-monotone p cube narrow input h =
    let left = zip-take Refines p.left.states cube narrow h in
    let right = zip-drop Refines p.left.states cube narrow h in
    let inputs = zip-same Refines Refines-refl (map known input) in
    record {
      left_outs = (gates_are_monotone p.left).out _ _ _ _ left inputs;
      right_outs = (gates_are_monotone p.right).out _ _ _ _ right inputs;
      successor = zip-append Refines _ _ _ _ ((gates_are_monotone p.left).step _ _ _ _ left inputs)
          ((gates_are_monotone p.right).step _ _ _ _ right inputs);
    }

shows-monotone : (aim : Aim') (shown more : Shown) → ShowsMore shown more → shows aim shown ≡ true → shows aim more ≡ true
shows-monotone Differ shown more m h =
    contradicts-monotone shown.left_outs shown.right_outs more.left_outs more.right_outs m.left_outs m.right_outs h
shows-monotone (Inside cube) shown more m h = within-monotone cube shown.successor more.successor m.successor h
shows-monotone (Outside cubes) shown more m h = all-monotone cubes shown.successor more.successor m.successor h

pub passes-monotone :
    (p : Sides) (aim : Aim') (input : List Bool) (cube narrow : List Tern) → AllZip Refines cube narrow
    → passes p aim input cube ≡ true → passes p aim input narrow ≡ true
passes-monotone p aim input cube narrow h =
    shows-monotone aim (tern_step p cube input) (tern_step p narrow input) (step-monotone p cube narrow input h)

-- what the cycle of one pair shows
abbrev known_shown : Sides → List Bool → List Bool → List Bool → Shown
known_shown p s t input = record {
  left_outs = map known ((left_machine p).out s input);
  right_outs = map known ((right_machine p).out t input);
  successor = map known ((left_machine p).step s input ++ (right_machine p).step t input);
}

pub same_shows :
    (aim : Aim') (a b : Shown) → a.left_outs ≡ b.left_outs → a.right_outs ≡ b.right_outs → a.successor ≡ b.successor
    → shows aim a ≡ shows aim b
same_shows Differ a b p q h = rw (p, q) refl
same_shows (Inside cube) a b p q h = rw h refl
same_shows (Outside cubes) a b p q h = rw h refl

one-step :
    (p : Sides) (aim : Aim') (s t input : List Bool) → IsPair p s t
    → shows aim (tern_step p (map known (s ++ t)) input) ≡ shows aim (known_shown p s t input)
one-step p aim s t input pair =
    let parts : map known (s ++ t) ≡ map known s ++ map known t = map-append known s t in
    let count : p.left.states ≡ length (map known s) = sym pair.0 ∙ sym (length-map s known) in
    let left : take p.left.states (map known (s ++ t)) ≡ map known s = rw (parts, count) (take-length (map known s) (map known t)) in
    let right : drop p.left.states (map known (s ++ t)) ≡ map known t = rw (parts, count) (drop-length (map known s) (map known t)) in
    same_shows aim (tern_step p (map known (s ++ t)) input) (known_shown p s t input)
    (rw left ((gates_are_exact p.left).out s input))
    (rw right ((gates_are_exact p.right).out t input))
    (rw (left, right, (gates_are_exact p.left).step s input, (gates_are_exact p.right).step t input)
    (sym (map-append known ((left_machine p).step s input) ((right_machine p).step t input))))

known-shows :
    (p : Sides) (aim : Aim') (s t input : List Bool) → AreSides p → AimIsWide p aim → IsPair p s t → length input ≡ p.left.inputs
    → Leads p aim input s t → shows aim (known_shown p s t input) ≡ true
known-shows p Differ s t input sides wide pair width h =
    known-contradicts ((left_machine p).out s input) ((right_machine p).out t input)
    (length-map p.left.outs _ ∙ sides.ports.outputs ∙ sym (length-map p.right.outs _)) h
known-shows p (Inside cube) s t input sides wide pair width h =
    known-within cube ((left_machine p).step s input ++ (right_machine p).step t input) h
known-shows p (Outside cubes) s t input sides wide pair width h =
    let both : List Bool = (left_machine p).step s input ++ (right_machine p).step t input in
    let count : length both ≡ p.left.states + p.right.states =
    length-append ((left_machine p).step s input) ((right_machine p).step t input)
    ∙ (rw (
      gates_keep_states p.left sides.left s input pair.0 width,
      gates_keep_states p.right sides.right t input pair.1 (width ∙ sides.ports.inputs),
    ) refl) in
    all-each cubes (map known both)
    (λ i below. known-outside (slice_index_or cubes i []) both (wide i below ∙ sym count) (h i below))

pub one-pair :
    (p : Sides) (aim : Aim') (s t input : List Bool) → AreSides p → AimIsWide p aim → IsPair p s t → length input ≡ p.left.inputs
    → Leads p aim input s t → passes p aim input (map known (s ++ t)) ≡ true
one-pair p aim s t input sides wide pair width h =
    one-step p aim s t input pair ∙ known-shows p aim s t input sides wide pair width h
