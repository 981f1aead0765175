-- Where the input of a splitting pair leads it, and what its hop is when it is made wide.
use Rattle.std.proofs.Common.{◌≡◌, ◌∙◌, ℕ, ◌<◌, ◌+◌, inl, inr, Bool, true, false, not, List, [], ◌∷◌, ◌++◌, length, map, refl, ap, sym, subst, arith, length-append}
use Rattle.std.specs.Prelude.{Option, None, Some, IfSome, IfNone}
use Rattle.std.specs.Option.{ForSome}
use Rattle.std.specs.List.{AllZip}
use Rattle.std.proofs.lemmas.List.{length-map}
use Rattle.rst_value.specs.declared.tern.Tern.{Tern}
use Rattle.rst_value.specs.declared.tern.Tern.TheVariants.{Zero, One, Unknown}
use Rattle.rst_value.specs.Terns.{known, StandsFor}
use Rattle.rst_value.specs.TernLaws.{Refines}
use Rattle.rst_pair.specs.declared.hop.Hop.{Hop}
use Rattle.rst_pair.specs.Sides.{Sides, AreSides, left_machine, right_machine, IsPair}
use Rattle.rst_pair.specs.Aims.{AimIsWide, Leads, passes}
use Rattle.rst_pair.specs.Hops.{AreHops, IsHop, IsRight, Passes, IsWidestHop, cube_at, blocked_aim}
use Rattle.rst_pair.proofs.Lists.{zip-length}
use Rattle.rst_pair.proofs.Passing.{one-pair, passing-right}
use Rattle.rst_pairinv.specs.Blocking.{IsBlockedHop}
use Rattle.rst_pairinv.specs.Turns.{Leaves}
use Rattle.rst_pairinv.proofs.Blocked.{length_cubes, cube_wide}

pub not_true : (b : Bool) → not b ≡ true → b ≡ true → ⊥
not_true true e f = let g : false ≡ true = e in absurd (cc)
not_true false e f = let g : false ≡ true = f in absurd (cc)

pub not_false : (b : Bool) → not b ≡ false → b ≡ true
not_false true e = refl
not_false false e = let g : true ≡ false = e in absurd (cc)

-- by the first blocked cube that holds the successors, where the outputs are equal
pub leads_by :
    (p : Sides) (blocked : List Hop) (input s t : List Bool) (next : Option ℕ)
    → (left_machine p).out s input ≡ (right_machine p).out t input → Leaves p blocked input s t
    → IfSome next (λ k. (k < length blocked)
    × AllZip StandsFor (cube_at blocked k) ((left_machine p).step s input ++ (right_machine p).step t input))
    → IfNone next ((i : ℕ) → i < length blocked
    → AllZip StandsFor (cube_at blocked i) ((left_machine p).step s input ++ (right_machine p).step t input) → ⊥)
    → ForSome next (λ k. k < length blocked) × Leads p (blocked_aim blocked next) input s t
leads_by p blocked input s t None same (inl differ) found none = absurd (differ same)
leads_by p blocked input s t None same (inr some) found none =
    absurd (none some.0 (omega (arith, some.1, length_cubes blocked)) some.2)
leads_by p blocked input s t (Some k) same leaves found none = (
  λ j e. let g : k ≡ j = cc in subst (λ (m : ℕ). m < length blocked) g found.0,
  found.1,
)

-- by a blocked cube that holds the successors
pub leaves_by :
    (p : Sides) (blocked : List Hop) (input s t successors : List Bool) (next : Option ℕ) (k : ℕ) → next ≡ Some k
    → successors ≡ (left_machine p).step s input ++ (right_machine p).step t input
    → IfSome next (λ k. (k < length blocked) × AllZip StandsFor (cube_at blocked k) successors) → Leaves p blocked input s t
leaves_by p blocked input s t successors None k is same found = absurd (let e : None ≡ Some k = is in cc)
leaves_by p blocked input s t successors (Some j) k is same found =
    inr (j, omega (arith, found.0, length_cubes blocked), subst (λ (both : List Bool). AllZip StandsFor (cube_at blocked j) both) same found.1)

-- each cube that is aimed at has a place for each register
aim_is_wide :
    (p : Sides) (blocked : List Hop) (next : Option ℕ) → AreHops p blocked → ForSome next (λ k. k < length blocked)
    → AimIsWide p (blocked_aim blocked next)
aim_is_wide p blocked None are h = tt
aim_is_wide p blocked (Some k) are h = cube_wide p blocked k are (h k refl)

-- the hop of one pair
pub record IsOfPair (s t x : List Bool) (k : Option ℕ) (hop : Hop) : Type 0 where
  pub cube : hop.cube ≡ map known (s ++ t)
  pub input : hop.input ≡ x
  pub next : hop.next ≡ k

module _ (p : Sides) (blocked : List Hop) (input s t : List Bool) (next : Option ℕ) (sides : AreSides p) (are : AreHops p blocked)
    (width : length input ≡ p.left.inputs) (pair : IsPair p s t) (earlier : ForSome next (λ k. k < length blocked))
    (leads : Leads p (blocked_aim blocked next) input s t) (hop : Hop) (is : IsOfPair s t input next hop) where
  pub pair_fits : IsHop p (length blocked) hop
  pair_fits = record {
    cube = ap length is.cube ∙ length-map (s ++ t) known ∙ length-append s t
        ∙ ap (λ (n : ℕ). n + length t) pair.0 ∙ ap (λ (n : ℕ). p.left.states + n) pair.1;
    input = ap length is.input ∙ width;
    next = subst (λ (o : Option ℕ). ForSome o (λ k. k < length blocked)) (sym is.next) earlier;
  }

  pub pair_passes : Passes p (blocked_aim blocked hop.next) hop
  pair_passes =
      subst (λ (o : Option ℕ). passes p (blocked_aim blocked o) hop.input hop.cube ≡ true) (sym is.next)
      (subst (λ (x : List Bool). passes p (blocked_aim blocked next) x hop.cube ≡ true) (sym is.input)
      (subst (λ (c : List Tern). passes p (blocked_aim blocked next) input c ≡ true) (sym is.cube)
      (one-pair p (blocked_aim blocked next) s t input sides (aim_is_wide p blocked next are earlier) pair width leads)))

  pub pair_right : IsRight p (blocked_aim blocked hop.next) hop
  pair_right = passing-right p (blocked_aim blocked hop.next) hop.cube hop.input pair_passes

-- a hop that was made wide
pub wide_is_good :
    (p : Sides) (blocked : List Hop) (hop wide : Hop) → IsHop p (length blocked) hop → IsRight p (blocked_aim blocked hop.next) wide
    → AllZip Refines wide.cube hop.cube → Passes p (blocked_aim blocked hop.next) wide → IsWidestHop p (blocked_aim blocked hop.next) wide
    → wide.input ≡ hop.input → wide.next ≡ hop.next → IsBlockedHop p blocked wide
wide_is_good p blocked hop wide fits right contains passes widest input next = record {
  fits = record {
    cube = zip-length Refines wide.cube hop.cube contains ∙ fits.cube;
    input = ap length input ∙ fits.input;
    next = subst (λ (o : Option ℕ). ForSome o (λ k. k < length blocked)) (sym next) fits.next;
  };
  right = subst (λ (o : Option ℕ). IsRight p (blocked_aim blocked o) wide) (sym next) right;
  passes = subst (λ (o : Option ℕ). Passes p (blocked_aim blocked o) wide) (sym next) passes;
  widest = subst (λ (o : Option ℕ). IsWidestHop p (blocked_aim blocked o) wide) (sym next) widest;
}

refined_stands : (a : Tern) (b : Bool) → Refines a (known b) → StandsFor a b
refined_stands Zero true h = absurd (let e : One ≡ Zero = h in cc)
refined_stands Zero false h = refl
refined_stands One true h = refl
refined_stands One false h = absurd (let e : Zero ≡ One = h in cc)
refined_stands Unknown b h = tt

pub refined_holds : (cube : List Tern) (bits : List Bool) → AllZip Refines cube (map known bits) → AllZip StandsFor cube bits
refined_holds [] [] h = tt
refined_holds [] (b ∷ bits) h = absurd h
refined_holds (a ∷ cube) [] h = absurd h
refined_holds (a ∷ cube) (b ∷ bits) h = (refined_stands a b h.0, refined_holds cube bits h.1)
