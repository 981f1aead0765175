-- A model of the query, read and replayed.
use Rattle.std.proofs.Common.{◌≡◌, ◌∙◌, ℕ, zero, suc, ◌+◌, ◌<◌, ◌≤◌, Bool, List, [], ◌∷◌, ◌++◌, length, take, drop, refl, sym, ap, subst, arith, length-drop}
use Rattle.std.specs.Prelude.{slice_index_or}
use Rattle.std.specs.List.{AllZip}
use Rattle.std.proofs.lemmas.List.{length-append, get_or-take, take-map}
use Rattle.rst_value.specs.declared.tern.Tern.{Tern}
use Rattle.rst_value.specs.Terns.{StandsFor}
use Rattle.rst_gate.specs.Machine.{IsWord, after}
use Rattle.rst_gate.specs.Patterns.{IsPattern, IsFilling, free_bits}
use Rattle.rst_gate.proofs.Filling.{filled-fills}
use Rattle.rst_gate.proofs.PatternFillings.{fillings-words}
use Rattle.rst_pair.specs.declared.hop.Hop.{Hop}
use Rattle.rst_pair.specs.declared.query.Query.TheVariants.{LandFree}
use Rattle.rst_pair.specs.Sides.{Sides, AreSides, left_machine, right_machine, IsPair}
use Rattle.rst_pair.specs.Aims.{LiesInSome}
use Rattle.rst_pair.specs.Fronts.{Front'}
use Rattle.rst_pair.specs.Hops.{cubes_of, cube_at}
use Rattle.rst_pair.specs.Queries.{IsQueryCase}
use Rattle.rst_pair.specs.Searches.{IsFirstWith}
use Rattle.rst_query_laws.proofs.Cases.{after_length}
use Rattle.rst_landing.specs.declared.model.Start.{Start}
use Rattle.rst_landing.specs.Landings.{IsLanding}
use Rattle.rst_landing.specs.Models.{IsReadOf, IsFirstHolding}

take_count : (n m : ℕ) (xs : List Bool) → n + m ≤ length xs → length (take n xs) ≡ n
take_count zero m xs h = refl
take_count (suc n) m [] h = absurd (omega arith)
take_count (suc n) m (x ∷ xs) h = omega (arith, take_count n m xs (omega arith))

pub read_pair :
    (p : Sides) (pattern : List (List Tern)) (bits : List Bool) (s : Start) → IsReadOf p pattern bits s
    → length bits ≡ p.left.states + p.right.states + free_bits pattern → IsPair p s.a s.b
read_pair p pattern bits s is count = (
  ap length is.a ∙ take_count p.left.states (p.right.states + free_bits pattern) bits (omega (arith, count)),
  ap length is.b ∙ take_count p.right.states (free_bits pattern) (drop p.left.states bits) (omega (arith, count, length-drop p.left.states bits)),
)

pub read_fills :
    (p : Sides) (pattern : List (List Tern)) (bits : List Bool) (s : Start) → IsReadOf p pattern bits s → IsFilling pattern s.fill
read_fills p pattern bits s is =
    subst (λ (w : List (List Bool)). IsFilling pattern w) (sym is.fill) (filled-fills pattern (drop (p.left.states + p.right.states) bits))

pub read_word :
    (p : Sides) (pattern : List (List Tern)) (bits : List Bool) (s : Start) → IsReadOf p pattern bits s → IsPattern (left_machine p) pattern
    → IsWord (left_machine p) s.fill
read_word p pattern bits s is wide = fillings-words (left_machine p) pattern s.fill wide (read_fills p pattern bits s is)

-- the pair behind the filling
abbrev pub pair_behind : Sides → Start → List Bool
pair_behind p s = after (left_machine p) s.a s.fill ++ after (right_machine p) s.b s.fill

pub pair_count : (p : Sides) (s : Start) → AreSides p → IsPair p s.a s.b → length (pair_behind p s) ≡ p.left.states + p.right.states
pair_count p s sides pair =
    omega (arith, length-append (after (left_machine p) s.a s.fill) (after (right_machine p) s.b s.fill), after_length p.left s.a s.fill sides.left pair.0, after_length p.right s.b s.fill sides.right pair.1)

hop_count : (hops : List Hop) → length (cubes_of hops) ≡ length hops
hop_count [] = refl
hop_count (hop ∷ hops) = omega (arith, hop_count hops)

-- the case of the query lies in some blocked cube
pub read_holds :
    (p : Sides) (f : Front') (pattern : List (List Tern)) (bits both : List Bool) (s : Start) → IsReadOf p pattern bits s
    → IsQueryCase p f (LandFree pattern) bits → both ≡ pair_behind p s
    → (i : ℕ) × (i < length f.blocked) × AllZip StandsFor (cube_at f.blocked i) both
read_holds p f pattern bits both s is case same =
    let lies : LiesInSome (cubes_of f.blocked) (after (left_machine p) s.a s.fill) (after (right_machine p) s.b s.fill) =
    rw (is.a, is.b, is.fill) case.holds in
    (lies.0, omega (arith, lies.1, hop_count f.blocked), rw same lies.2)

cubes_before : (hops : List Hop) (k j : ℕ) → j < k → slice_index_or (cubes_of (take k hops)) j [] ≡ cube_at hops j
cubes_before hops k j lt = ap (λ (cubes : List (List Tern)). slice_index_or cubes j []) (sym (take-map (λ hop. hop.cube) k hops)) ∙ get_or-take k (cubes_of hops) j [] lt

take_most : (k : ℕ) (hops : List Hop) → length (take k hops) ≤ k
take_most zero hops = omega arith
take_most (suc k) [] = omega arith
take_most (suc k) (hop ∷ hops) = omega (arith, take_most k hops)

pub first_with : (hops : List Hop) (k : ℕ) (s t : List Bool) → IsFirstHolding hops (s ++ t) k → IsFirstWith hops k s t
first_with hops k s t is = record {
  below = is.below;
  holds = is.holds;
  first = λ j below holds.
      let before : j < k = omega (arith, below, hop_count (take k hops), take_most k hops) in
      is.first j before (subst (λ (cube : List Tern). AllZip StandsFor cube (s ++ t)) (cubes_before hops k j before) holds);
}

pub is_landing :
    (p : Sides) (f : Front') (pattern : List (List Tern)) (bits both : List Bool) (s : Start) (k : ℕ) → IsReadOf p pattern bits s
    → IsQueryCase p f (LandFree pattern) bits → both ≡ pair_behind p s → IsFirstHolding f.blocked both k
    → IsLanding p f pattern s.a s.b s.fill k
is_landing p f pattern bits both s k is case same first = record {
  pair = read_pair p pattern bits s is case.count;
  fills = read_fills p pattern bits s is;
  lands = first_with f.blocked k _ _ (subst (λ (xs : List Bool). IsFirstHolding f.blocked xs k) same first);
}
