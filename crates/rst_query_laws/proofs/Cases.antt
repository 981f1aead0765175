-- Tests on states, and what they say of pairs.
use Rattle.std.proofs.Common.{◌≡◌, ◌∙◌, ◌↔◌, ◌⊎◌, inl, inr, ◌+◌, Bool, true, false, not, ◌||◌, List, [], ◌∷◌, ◌++◌, length, map, refl, sym, ap, arith, length-append}
use Rattle.std.specs.List.{All}
use Rattle.std.proofs.lemmas.Bool.{false≢true}
use Rattle.rst_gate.specs.ClosedSets.{AgreeOn}
use Rattle.rst_gate.specs.Machine.{after}
use Rattle.rst_gate.specs.Circuits.{Circuit, IsCircuit}
use Rattle.rst_gate.specs.GateMachines.{machine_of}
use Rattle.rst_pair.specs.declared.hop.Hop.{Hop}
use Rattle.rst_pair.specs.Sides.{Sides, AreSides, left_machine, right_machine}
use Rattle.rst_pair.specs.Aims.{LiesInSome, LiesInNone}
use Rattle.rst_pair.specs.Hops.{cubes_of, AreHops}
use Rattle.rst_pair.specs.Fronts.{Front', IsFront}
use Rattle.rst_pair.specs.Queries.{Reading, left_next, right_next, IsStuck, Lands, Splits, Escapes}
use Rattle.rst_pose.proofs.Askings.{cubes_wide}
use Rattle.rst_query_laws.proofs.Cubes.{some_true, agree_each, differences, some-is, some-of, none-is, none-of, differ-is, differ-of}

-- whether the pair lies in a blocked cube, and in a freed one
abbrev pub blocked : Front' → List Bool → Bool
blocked f pair = some_true (agree_each (cubes_of f.blocked) pair)

abbrev pub freed : Front' → List Bool → Bool
freed f pair = some_true (agree_each (cubes_of f.freed) pair)

abbrev pub next_pair : Sides → List Bool → List Bool → List Bool → List Bool
next_pair p x s t = (left_machine p).step s x ++ (right_machine p).step t x

abbrev pub SplitTest : Sides → Front' → List Bool → List Bool → List Bool → Type 0
SplitTest p f x s t =
    (blocked f (s ++ t) ≡ false)
    × ((some_true (differences ((left_machine p).out s x) ((right_machine p).out t x)) || blocked f (next_pair p x s t)) ≡ true)

abbrev pub StuckTest : Front' → List Bool → Type 0
StuckTest f pair = (blocked f pair ≡ true) × (freed f pair ≡ false)

abbrev pub LeavingTest : Front' → List Bool → Type 0
LeavingTest f pair = (not (blocked f pair) || freed f pair) ≡ true

abbrev pub EscapeTest : Sides → Front' → List Bool → List Bool → List Bool → Type 0
EscapeTest p f x s t = StuckTest f (s ++ t) × LeavingTest f (next_pair p x s t)

length_map : {X Y : Type 0} (g : X → Y) (xs : List X) → length (map g xs) ≡ length xs
length_map g [] = refl
length_map g (x ∷ xs) = omega (arith, length_map g xs)

step_length : (c : Circuit) (s x : List Bool) → IsCircuit c → length ((machine_of c).step s x) ≡ c.states
step_length c s x circuit = length_map _ c.nexts ∙ circuit.each_state

pub after_length : (c : Circuit) (s : List Bool) (word : List (List Bool)) → IsCircuit c → length s ≡ c.states → length (after (machine_of c) s word) ≡ c.states
after_length c s [] circuit same = same
after_length c s (x ∷ word) circuit same = after_length c ((machine_of c).step s x) word circuit (step_length c s x circuit)

out_length : (c : Circuit) (s x : List Bool) → length ((machine_of c).out s x) ≡ length c.outs
out_length c s x = length_map _ c.outs

-- cubes of hops are as wide as the pairs
pub pair_wide :
    (p : Sides) (hops : List Hop) (s t : List Bool) → AreHops p hops → length s ≡ p.left.states → length t ≡ p.right.states
    → All (λ cube. length cube ≡ length (s ++ t)) (cubes_of hops)
pair_wide p hops s t are ls rs =
    let both : length (s ++ t) ≡ length s + length t = length-append s t in
    cubes_wide p hops (length (s ++ t)) are (omega (arith, both, ls, rs))

or_first : (a b : Bool) → a ≡ true → (a || b) ≡ true
or_first true b h = refl
or_first false b h = absurd (false≢true h)

or_second : (a b : Bool) → b ≡ true → (a || b) ≡ true
or_second true b h = refl
or_second false b h = h

pub split_case :
    (p : Sides) (f : Front') (r : Reading) → AreSides p → IsFront p f → length r.left ≡ p.left.states → length r.right ≡ p.right.states
    → AgreeOn f.equal r.left r.right → SplitTest p f r.input r.left r.right ↔ Splits p f r
split_case p f r sides front ls rs equal = (
  λ h. record { related = record { equal = equal; outside = none-is (cubes_of f.blocked) r.left r.right h.0 }; leaves = leaving differ refl h.1 },
  λ h. (
    none-of (cubes_of f.blocked) r.left r.right (pair_wide p f.blocked r.left r.right front.blocked ls rs) h.related.outside,
    elim h.leaves [
      | inl apart ↦ or_first differ (blocked f next) (differ-of outs_left outs_right same apart)
      | inr lies ↦ or_second differ (blocked f next) (some-of (cubes_of f.blocked) (left_next p r) (right_next p r) lies)
    ],
  ),
)
  where
    outs_left : List Bool
    outs_left = (left_machine p).out r.left r.input

    outs_right : List Bool
    outs_right = (right_machine p).out r.right r.input

    next : List Bool
    next = next_pair p r.input r.left r.right

    differ : Bool
    differ = some_true (differences outs_left outs_right)

    same : length outs_left ≡ length outs_right
    same = out_length p.left r.left r.input ∙ sides.ports.outputs ∙ sym (out_length p.right r.right r.input)

    leaving : (b : Bool) → differ ≡ b → (b || blocked f next) ≡ true
        → (outs_left ≡ outs_right → ⊥) ⊎ LiesInSome (cubes_of f.blocked) (left_next p r) (right_next p r)
    leaving true e h = inl (differ-is outs_left outs_right e)
    leaving false e h = inr (some-is (cubes_of f.blocked) (left_next p r) (right_next p r)
        (pair_wide p f.blocked (left_next p r) (right_next p r) front.blocked (step_length p.left r.left r.input sides.left) (step_length p.right r.right r.input sides.right)) h)

pub stuck_case :
    (p : Sides) (f : Front') (s t : List Bool) → IsFront p f → length s ≡ p.left.states → length t ≡ p.right.states
    → StuckTest f (s ++ t) ↔ IsStuck f s t
stuck_case p f s t front ls rs = (
  λ h. record {
    blocked = some-is (cubes_of f.blocked) s t (pair_wide p f.blocked s t front.blocked ls rs) h.0;
    not_freed = none-is (cubes_of f.freed) s t h.1;
  },
  λ h. (some-of (cubes_of f.blocked) s t h.blocked, none-of (cubes_of f.freed) s t (pair_wide p f.freed s t front.freed ls rs) h.not_freed),
)

pub leaving_case :
    (p : Sides) (f : Front') (s t : List Bool) → IsFront p f → length s ≡ p.left.states → length t ≡ p.right.states
    → LeavingTest f (s ++ t) ↔ (LiesInNone (cubes_of f.blocked) s t ⊎ LiesInSome (cubes_of f.freed) s t)
leaving_case p f s t front ls rs = (
  λ h. leaving (blocked f (s ++ t)) refl h,
  λ h. elim h [
    | inl none ↦ or_first (not (blocked f (s ++ t))) (freed f (s ++ t))
        (ap not (none-of (cubes_of f.blocked) s t (pair_wide p f.blocked s t front.blocked ls rs) none))
    | inr lies ↦ or_second (not (blocked f (s ++ t))) (freed f (s ++ t)) (some-of (cubes_of f.freed) s t lies)
  ],
)
  where
    leaving : (b : Bool) → blocked f (s ++ t) ≡ b → (not b || freed f (s ++ t)) ≡ true
        → LiesInNone (cubes_of f.blocked) s t ⊎ LiesInSome (cubes_of f.freed) s t
    leaving false e h = inl (none-is (cubes_of f.blocked) s t e)
    leaving true e h = inr (some-is (cubes_of f.freed) s t (pair_wide p f.freed s t front.freed ls rs) h)

pub escape_case :
    (p : Sides) (f : Front') (r : Reading) → AreSides p → IsFront p f → length r.left ≡ p.left.states → length r.right ≡ p.right.states
    → EscapeTest p f r.input r.left r.right ↔ Escapes p f r
escape_case p f r sides front ls rs =
    let stuck = stuck_case p f r.left r.right front ls rs in
    let leaving = leaving_case p f (left_next p r) (right_next p r) front (step_length p.left r.left r.input sides.left) (step_length p.right r.right r.input sides.right) in
    (λ h. record { stuck = stuck.0 h.0; leaves = leaving.0 h.1 }, λ h. (stuck.1 h.stuck, leaving.1 h.leaves))

pub land_case :
    (p : Sides) (f : Front') (r : Reading) → AreSides p → IsFront p f → length r.left ≡ p.left.states → length r.right ≡ p.right.states
    → (blocked f (after (left_machine p) r.left r.word ++ after (right_machine p) r.right r.word) ≡ true) ↔ Lands p f r
land_case p f r sides front ls rs =
    let s = after (left_machine p) r.left r.word in
    let t = after (right_machine p) r.right r.word in
    let wide = pair_wide p f.blocked s t front.blocked (after_length p.left r.left r.word sides.left ls) (after_length p.right r.right r.word sides.right rs) in
    (λ h. some-is (cubes_of f.blocked) s t wide h, λ h. some-of (cubes_of f.blocked) s t h)
