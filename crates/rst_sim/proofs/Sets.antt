-- Sets of registers.
use Rattle.std.proofs.Common.{◌≡◌, ℕ, ◌<◌, ◌≤◌, ◌+◌, Bool, true, false, ◌&&◌, cond, List, [], ◌∷◌, ◌++◌, length, take, get_or, replicate, refl, ap, arith}
use Rattle.std.proofs.lemmas.Bool.{false≢true}
use Rattle.std.proofs.lemmas.List.{take_more, length-take}
use Rattle.std.proofs.lemmas.List.Sums.{sum_by-cons}
use Rattle.rst_gate.specs.Circuits.{Circuit}
use Rattle.rst_gate.proofs.Related.{Respects, nexts_related}
use Rattle.rst_gate.specs.ClosedSets.{on_support, next_support, IsWithin, IsClosedSet}
use Rattle.rst_sim.specs.Supports.{narrowed, members}

abbrev Follows : Bool → Bool → Type 0
Follows a b = a ≡ true → b ≡ true

pub within-itself : (set : List Bool) → IsWithin set set
within-itself [] = tt
within-itself (a ∷ set) = (λ h. h, within-itself set)

pub within-through : (set other third : List Bool) → IsWithin set other → IsWithin other third → IsWithin set third
within-through [] [] [] p q = tt
within-through [] [] (c ∷ third) p q = q
within-through [] (b ∷ other) third p q = absurd p
within-through (a ∷ set) [] third p q = absurd p
within-through (a ∷ set) (b ∷ other) [] p q = absurd q
within-through (a ∷ set) (b ∷ other) (c ∷ third) p q = (λ h. q.0 (p.0 h), within-through set other third p.1 q.1)

both-follow : (a c : Bool) (b d : Bool) → Follows a b → Follows c d → Follows (a && c) (b && d)
both-follow true c b d p q = grind arith
both-follow false c b d p q = grind arith

choice-follow : (s a c : Bool) (t b d : Bool) → Follows s t → Follows a b → Follows c d → Follows (s && a && c) (t && b && d)
choice-follow s a c t b d p q r = both-follow (s && a) c (t && b) d (both-follow s a t b p q) r

support_respects : Respects Follows on_support on_support
support_respects = record {
  low = λ h. h;
  negation = λ a b h. h;
  both = both-follow;
  differ = both-follow;
  choice = choice-follow;
}

-- a larger set supports more
pub support-monotone : (c : Circuit) (set other : List Bool) → IsWithin set other → IsWithin (next_support c set) (next_support c other)
support-monotone c set other h =
    nexts_related Follows on_support on_support support_respects c (replicate c.inputs true) set (replicate c.inputs true) other
    (within-itself (replicate c.inputs true)) h

pub within-narrowed :
    (third set other : List Bool) → IsWithin third set → IsWithin third other → IsWithin third (narrowed set other)
within-narrowed [] [] other p q = tt
within-narrowed [] (a ∷ set) other p q = absurd p
within-narrowed (c ∷ third) [] other p q = absurd p
within-narrowed (c ∷ third) (a ∷ set) [] p q = absurd q
within-narrowed (c ∷ third) (a ∷ set) (b ∷ other) p q =
    (λ h. let x : a ≡ true = p.0 h in let y : b ≡ true = q.0 h in rw (x, y) refl, within-narrowed third set other p.1 q.1)

narrowed-follows : (a b : Bool) → Follows (a && b) a
narrowed-follows true b h = refl
narrowed-follows false b h = h

pub narrowed-within : (set other : List Bool) → length set ≡ length other → IsWithin (narrowed set other) set
narrowed-within [] other h = tt
narrowed-within (a ∷ set) [] h = absurd (omega arith)
narrowed-within (a ∷ set) (b ∷ other) h = (narrowed-follows a b, narrowed-within set other (omega arith))

pub length-narrowed : (set other : List Bool) → length set ≡ length other → length (narrowed set other) ≡ length set
length-narrowed [] other h = refl
length-narrowed (a ∷ set) [] h = absurd (omega arith)
length-narrowed (a ∷ set) (b ∷ other) h = let k : length set ≡ length other = omega arith in omega (arith, length-narrowed set other k)

narrowed-append :
    (set other more third : List Bool) → length set ≡ length other
    → narrowed (set ++ more) (other ++ third) ≡ narrowed set other ++ narrowed more third
narrowed-append [] [] more third h = refl
narrowed-append [] (b ∷ other) more third h = absurd (omega arith)
narrowed-append (a ∷ set) [] more third h = absurd (omega arith)
narrowed-append (a ∷ set) (b ∷ other) more third h =
    let k : length set ≡ length other = omega arith in ap (λ r. (a && b) ∷ r) (narrowed-append set other more third k)

-- one more register
pub narrowed_more :
    (set other : List Bool) (i : ℕ) (d e : Bool) → i < length set → length set ≡ length other
    → narrowed (take (i + 1) set) (take (i + 1) other) ≡ narrowed (take i set) (take i other) ++ (get_or set i d && get_or other i e) ∷ []
narrowed_more set other i d e below same =
    let other_below : i < length other = omega arith in
    let fronts : length (take i set) ≡ length (take i other) = omega (arith, length-take {A = Bool}) in
    rw (take_more set i d below, take_more other i e other_below)
    (narrowed-append (take i set) (take i other) (get_or set i d ∷ []) (get_or other i e ∷ []) fronts)

members_true : (set : List Bool) → members (true ∷ set) ≡ 1 + members set
members_true set = sum_by-cons (λ member. cond member 1 0) true set

members_false : (set : List Bool) → members (false ∷ set) ≡ members set
members_false set = refl

pub members-narrowed : (set other : List Bool) → members (narrowed set other) ≤ members set
members-narrowed [] other = omega arith
members-narrowed (true ∷ set) [] = let none : members [] ≡ 0 = refl in omega (arith, none)
members-narrowed (false ∷ set) [] = let none : members [] ≡ 0 = refl in omega (arith, none)
members-narrowed (true ∷ set) (true ∷ other) =
    omega (arith, members-narrowed set other, members_true set, members_true (narrowed set other))
members-narrowed (true ∷ set) (false ∷ other) =
    omega (arith, members-narrowed set other, members_true set, members_false (narrowed set other))
members-narrowed (false ∷ set) (b ∷ other) =
    omega (arith, members-narrowed set other, members_false set, members_false (narrowed set other))

-- where no member is lost, all are in the other set
pub within-counted :
    (set other : List Bool) → length set ≡ length other → members (narrowed set other) ≡ members set → IsWithin set other
within-counted [] [] h same = tt
within-counted [] (b ∷ other) h same = absurd (omega arith)
within-counted (a ∷ set) [] h same = absurd (omega arith)
within-counted (true ∷ set) (true ∷ other) h same = (
  λ k. refl,
  within-counted set other (omega arith) (omega (arith, same, members_true set, members_true (narrowed set other))),
)
within-counted (true ∷ set) (false ∷ other) h same =
    absurd (omega (arith, same, members-narrowed set other, members_true set, members_false (narrowed set other)))
within-counted (false ∷ set) (b ∷ other) h same = (
  λ k. absurd (false≢true k),
  within-counted set other (omega arith) (omega (arith, same, members_false set, members_false (narrowed set other))),
)

-- what one turn leaves, from what its calls answered
pub turn-smaller :
    (c : Circuit) (set smaller below a b d : List Bool)
    → a ≡ set → below ≡ next_support c a → b ≡ set → d ≡ below → smaller ≡ narrowed b d
    → smaller ≡ narrowed set (next_support c set)
turn-smaller c set smaller below a b d p q r s t = cc

-- a closed set within a set is within what is left of it
pub closed-within-narrowed :
    (c : Circuit) (third set : List Bool) → IsClosedSet c third → IsWithin third set → IsWithin third (narrowed set (next_support c set))
closed-within-narrowed c third set closed h =
    within-narrowed third set (next_support c set) h
    (within-through third (next_support c third) (next_support c set) closed (support-monotone c third set h))
