-- Disjoint paths are at most as many as the choices of the free bits.
use Rattle.std.proofs.Common.{◌≡◌, ℕ, zero, suc, ◌+◌, ◌-◌, ◌*◌, ◌^◌, ◌<◌, ◌≤◌, ℤ, pos, negsuc, Bool, true, false, not, List, [], ◌∷◌, length, map, get_or, refl, sym, ◌∙◌, subst, ap, arith, inl, inr, add-zero}
use Rattle.std.specs.List.{Contains}
use Rattle.std.proofs.Math.Nat.{pow-suc}
use Rattle.rst_value.specs.declared.tern.Tern.{Tern}
use Rattle.rst_value.specs.declared.tern.Tern.TheVariants.{Zero, One, Unknown}
use Rattle.rst_clause.specs.Literals.{literal_holds}
use Rattle.rst_clause.specs.Paths.{literals_from, AreDisjoint, AreApart, AreWide}
use Rattle.rst_clause.proofs.Members.{Contains-nil, Contains-later, Contains-cons_cases, Contains-from_map}

-- no list stands twice
AreDifferent : List (List Bool) → Type 0
AreDifferent [] = Unit {0}
AreDifferent (x ∷ xs) = (Contains xs x → ⊥) × AreDifferent xs

-- each list has this length
AreLong : ℕ → List (List Bool) → Type 0
AreLong n xs = (x : List Bool) → Contains xs x → length x ≡ n

-- the lists that begin with the bit, without it
behind : Bool → List (List Bool) → List (List Bool)
behind b [] = []
behind b ([] ∷ xs) = behind b xs
behind true ((true ∷ x) ∷ xs) = x ∷ behind true xs
behind true ((false ∷ x) ∷ xs) = behind true xs
behind false ((true ∷ x) ∷ xs) = behind false xs
behind false ((false ∷ x) ∷ xs) = x ∷ behind false xs

behind_from : (b : Bool) (xs : List (List Bool)) (x : List Bool) → Contains (behind b xs) x → Contains xs (b ∷ x)
unfolding behind
behind_from b [] x h = absurd (Contains-nil x h)
behind_from b ([] ∷ xs) x h = Contains-later [] xs (b ∷ x) (behind_from b xs x h)
behind_from true ((true ∷ y) ∷ xs) x h = elim (Contains-cons_cases y (behind true xs) x h) [
  | inl e ↦ (0, omega arith, ap (λ z. true ∷ z) e)
  | inr i ↦ Contains-later (true ∷ y) xs (true ∷ x) (behind_from true xs x i)
]
behind_from true ((false ∷ y) ∷ xs) x h = Contains-later (false ∷ y) xs (true ∷ x) (behind_from true xs x h)
behind_from false ((true ∷ y) ∷ xs) x h = Contains-later (true ∷ y) xs (false ∷ x) (behind_from false xs x h)
behind_from false ((false ∷ y) ∷ xs) x h = elim (Contains-cons_cases y (behind false xs) x h) [
  | inl e ↦ (0, omega arith, ap (λ z. false ∷ z) e)
  | inr i ↦ Contains-later (false ∷ y) xs (false ∷ x) (behind_from false xs x i)
]

behind_different : (b : Bool) (xs : List (List Bool)) → AreDifferent xs → AreDifferent (behind b xs)
unfolding behind AreDifferent
behind_different b [] d = tt
behind_different b ([] ∷ xs) d = behind_different b xs d.1
behind_different true ((true ∷ y) ∷ xs) d = (λ h. d.0 (behind_from true xs y h), behind_different true xs d.1)
behind_different true ((false ∷ y) ∷ xs) d = behind_different true xs d.1
behind_different false ((true ∷ y) ∷ xs) d = behind_different false xs d.1
behind_different false ((false ∷ y) ∷ xs) d = (λ h. d.0 (behind_from false xs y h), behind_different false xs d.1)

behind_long : (b : Bool) (n : ℕ) (xs : List (List Bool)) → AreLong (suc n) xs → AreLong n (behind b xs)
unfolding AreLong
behind_long b n xs l x h = let e : length (b ∷ x) ≡ suc n = l (b ∷ x) (behind_from b xs x h) in omega arith

-- each list begins with one of the two bits
behind_both : (n : ℕ) (xs : List (List Bool)) → AreLong (suc n) xs → length xs ≡ length (behind true xs) + length (behind false xs)
unfolding behind AreLong
behind_both n [] l = refl
behind_both n ([] ∷ xs) l = absurd (let e : 0 ≡ suc n = l [] (0, omega arith, refl) in omega arith)
behind_both n ((true ∷ y) ∷ xs) l =
    let ih : length xs ≡ length (behind true xs) + length (behind false xs) = behind_both n xs (λ x h. l x (Contains-later (true ∷ y) xs x h)) in omega arith
behind_both n ((false ∷ y) ∷ xs) l =
    let ih : length xs ≡ length (behind true xs) + length (behind false xs) = behind_both n xs (λ x h. l x (Contains-later (false ∷ y) xs x h)) in omega arith

-- different lists of n bits are at most 2^n
few_different : (n : ℕ) (xs : List (List Bool)) → AreLong n xs → AreDifferent xs → length xs ≤ 2 ^ n
unfolding AreLong AreDifferent
few_different zero [] l d = omega arith
few_different zero (x ∷ []) l d = omega arith
few_different zero (x ∷ y ∷ xs) l d = absurd (d.0 (0, omega arith, nothing y (l y (1, omega arith, refl)) ∙ sym (nothing x (l x (0, omega arith, refl)))))
  where
    nothing : (z : List Bool) → length z ≡ 0 → z ≡ []
    nothing [] e = refl
    nothing (b ∷ z) e = absurd (omega arith)
few_different (suc n) xs l d =
    let one : length (behind true xs) ≤ 2 ^ n = few_different n (behind true xs) (behind_long true n xs l) (behind_different true xs d) in
    let other : length (behind false xs) ≤ 2 ^ n = few_different n (behind false xs) (behind_long false n xs l) (behind_different false xs d) in
    let both : length xs ≡ length (behind true xs) + length (behind false xs) = behind_both n xs l in
    let p : 2 ^ suc n ≡ 2 ^ n * 2 = pow-suc 2 n in
    omega arith

-- the value of a known place; an unknown one reads as false
value_of : Tern → Bool
value_of Zero = false
value_of One = true
value_of Unknown = false

values : List Tern → List Bool
values path = map value_of path

values-length : (path : List Tern) → length (values path) ≡ length path
unfolding values
values-length [] = refl
values-length (t ∷ path) = let ih : length (values path) ≡ length path = values-length path in omega arith

-- a choice that has these values lies in the path
values_lie : (n : ℕ) (path : List Tern) (v : ℕ → Bool) → ((i : ℕ) → i < length path → v (suc (n + i)) ≡ get_or (values path) i false)
    → (k : ℤ) → Contains (literals_from n path) k → literal_holds v k ≡ true
unfolding values value_of
values_lie n [] v h k kin = absurd (Contains-nil k kin)
values_lie n (t ∷ path) v h k kin = here t (h 0 (omega arith)) (values_lie (suc n) path v (λ i lt. ap (λ m. v (suc m)) (moved i) ∙ h (suc i) (omega arith))) k kin
  where
    moved : (i : ℕ) → suc n + i ≡ n + suc i
    moved i = omega arith

    here : (t : Tern) → v (suc (n + 0)) ≡ value_of t → ((k : ℤ) → Contains (literals_from (suc n) path) k → literal_holds v k ≡ true)
        → (k : ℤ) → Contains (literals_from n (t ∷ path)) k → literal_holds v k ≡ true
    here Zero e rest k kin = elim (Contains-cons_cases (negsuc n) (literals_from (suc n) path) k kin) [
      | inl same ↦ subst (λ z. literal_holds v z ≡ true) same (ap not (ap (λ m. v (suc m)) (sym (add-zero n)) ∙ e))
      | inr i ↦ rest k i
    ]
    here One e rest k kin = elim (Contains-cons_cases (pos (suc n)) (literals_from (suc n) path) k kin) [
      | inl same ↦ subst (λ z. literal_holds v z ≡ true) same (ap (λ m. v (suc m)) (sym (add-zero n)) ∙ e)
      | inr i ↦ rest k i
    ]
    here Unknown e rest k kin = rest k kin

-- the choice of the values of a path
abbrev picked : List Tern → ℕ → Bool
picked p i = get_or (values p) (i - 1) false

picked_at : (p : List Tern) (i : ℕ) → picked p (suc (0 + i)) ≡ get_or (values p) i false
picked_at p i = let m : suc (0 + i) - 1 ≡ i = omega arith in ap (λ j. get_or (values p) j false) m

-- disjoint paths of one width have different values
same_meet : (p q : List Tern) → length p ≡ length q → values p ≡ values q → AreDisjoint p q → ⊥
same_meet p q len e apart =
    apart (picked p) (values_lie 0 p (picked p) (λ i lt. picked_at p i)) (values_lie 0 q (picked p) (λ i lt. picked_at p i ∙ ap (λ z. get_or z i false) e))

different_from : (paths : List (List Tern)) → AreApart paths → (free : ℕ) → AreWide free paths → AreDifferent (map values paths)
unfolding AreDifferent
different_from [] apart free wide = tt
different_from (p ∷ paths) apart free wide = (
  λ h.
      let r : (q : List Tern) × Contains paths q × (values p ≡ values q) = Contains-from_map values paths (values p) h in
      let at : (i : ℕ) × (i < length paths) × (get_or paths i [] ≡ r.0) = Contains_at paths r.0 r.1 in
      let lt : at.0 < length paths = at.1 in
      let lenp : length p ≡ free = wide 0 (omega arith) in
      let lenq : length r.0 ≡ free = subst (λ z. length z ≡ free) at.2 (wide (suc at.0) (omega arith)) in
      same_meet p r.0 (lenp ∙ sym lenq) r.2 (subst (λ z. AreDisjoint p z) at.2 (apart 0 (suc at.0) (omega arith) (omega arith))),
  different_from paths (λ i j ij lt. apart (suc i) (suc j) (omega arith) (omega arith)) free (λ i lt. wide (suc i) (omega arith)),
)
  where
    Contains_at : (xs : List (List Tern)) (x : List Tern) → Contains xs x → (i : ℕ) × (i < length xs) × (get_or xs i [] ≡ x)
    Contains_at [] x h = absurd (Contains-nil x h)
    Contains_at (y ∷ xs) x h = elim (Contains-cons_cases y xs x h) [
      | inl e ↦ (0, omega arith, e)
      | inr j ↦ let r : (i : ℕ) × (i < length xs) × (get_or xs i [] ≡ x) = Contains_at xs x j in let lt : r.0 < length xs = r.1 in (suc r.0, omega arith, r.2)
    ]

map-length : (paths : List (List Tern)) → length (map values paths) ≡ length paths
map-length [] = refl
map-length (p ∷ paths) = let ih : length (map values paths) ≡ length paths = map-length paths in omega arith

long_from : (free : ℕ) (paths : List (List Tern)) → AreWide free paths → AreLong free (map values paths)
unfolding AreLong
long_from free [] wide x h = absurd (Contains-nil x h)
long_from free (p ∷ paths) wide x h = elim (Contains-cons_cases (values p) (map values paths) x h) [
  | inl e ↦ subst (λ z. length z ≡ free) e (values-length p ∙ wide 0 (omega arith))
  | inr i ↦ long_from free paths (λ i lt. wide (suc i) (omega arith)) x i
]

pub apart_few : (free : ℕ) (paths : List (List Tern)) → AreWide free paths → AreApart paths → length paths ≤ 2 ^ free
apart_few free paths wide apart =
    let few : length (map values paths) ≤ 2 ^ free = few_different free (map values paths) (long_from free paths wide) (different_from paths apart free wide) in
    let e : length (map values paths) ≡ length paths = map-length paths in
    omega arith
