-- Where no related pair splits, the related pairs are those that agree on the marked registers and behave the same.
use Rattle.std.proofs.Common.{◌≡◌, ◌∙◌, ℕ, zero, suc, ◌<◌, ◌+◌, inl, inr, ℤ, Bool, true, false, List, [], ◌∷◌, ◌++◌, length, take, drop, refl, ap, sym, subst, arith, length-append, length-drop, ◌-◌, ◌≤◌}
use Rattle.std.specs.Prelude.{slice_index_or}
use Rattle.std.proofs.Math.Logic.{∥∥₁_elim}
use Rattle.std.proofs.lemmas.List.{length-take-le}
use Rattle.rst_clause.specs.Solutions.{IsSolution}
use Rattle.rst_pair.specs.declared.journal.Entry.{Entry}
use Rattle.rst_pairinv.specs.declared.block.Refining.{Refining}
use Rattle.rst_pairinv.proofs.Journals.{splitting_keeps}
use Rattle.rst_gate.specs.Machine.{SameAcross}
use Rattle.rst_gate.specs.MachineLaws.{IsInductive}
use Rattle.rst_gate.specs.Circuits.{Circuit}
use Rattle.rst_gate.specs.GateMachines.{machine_of}
use Rattle.rst_gate.specs.ClosedSets.{IsClosedSet, AgreeOn}
use Rattle.rst_gate.proofs.Closed.{closed-agree}
use Rattle.rst_gate.proofs.Readings.{gates_keep_states}
use Rattle.rst_gate.proofs.Relations.{inductive-same}
use Rattle.rst_clause.proofs.Sound.{refutation_refutes}
use Rattle.rst_clause.specs.Results.{largest}
use Rattle.rst_pair.specs.declared.hop.Hop.{Hop}
use Rattle.rst_pair.specs.declared.query.Query.TheVariants.{Split}
use Rattle.rst_pair.specs.Sides.{Sides, AreSides, left_machine, right_machine, IsPair}
use Rattle.rst_pair.specs.Fronts.{Front', IsFront, IsRelated, relation}
use Rattle.rst_pair.specs.Queries.{Splits, IsQueryCase, open_count, sharing_state}
use Rattle.rst_pose.specs.Posed.{posed}
use Rattle.rst_query_laws.specs.Conditions.{AreShared, IsAbout}
use Rattle.rst_query_laws.proofs.Solutions.{solutions_are}
use Rattle.rst_pairinv.specs.Blocking.{AreBlocked}
use Rattle.rst_pairinv.specs.Refining.{AreMarked, Refutes, IsExact, KeepsWork, front_with}
use Rattle.rst_pairinv.specs.Turns.{IsCasePart, clauses_posed, AreSplitting, IsRefining}
use Rattle.rst_pairinv.proofs.Bits.{open_bits, length_open, length_sharing, sharing_open, read_parts}
use Rattle.rst_pairinv.proofs.Blocked.{is_front, same_outside}

inside : (xs : List Bool) (i : ℕ) → slice_index_or xs i false ≡ true → i < length xs
inside [] i e = absurd (let f : false ≡ true = e in cc)
inside (x ∷ xs) zero e = omega arith
inside (x ∷ xs) (suc i) e = omega (arith, inside xs i e)

pub are_shared : (p : Sides) (f : Front') → AreMarked p f.equal → AreShared p f
are_shared p f marked i e =
    let same : p.left.states ≡ p.right.states = ap (λ (c : Circuit). c.states) (marked.one_design i e) in
    omega (arith, inside f.equal i e, marked.count, same)

pub is_about : (p : Sides) (f : Front') → AreSides p → AreMarked p f.equal → IsFront p f → IsAbout p f Split
is_about p f sides marked front = record { sides = sides; front = front; shared = are_shared p f marked; speaks = tt }

-- a refuted query has no case
pub no_case : (p : Sides) (f : Front') (log : List (List ℤ)) → IsAbout p f Split → Refutes p f Split log → (bits : List Bool)
    → IsQueryCase p f Split bits → ⊥
no_case p f log about refutes bits case =
    let solution = (solutions_are p f Split bits about).1 case in
    ∥∥₁_elim solution.1 (λ a b. absurd a) (λ w. refutation_refutes (largest (posed p f Split).fixed) (clauses_posed p f) log refutes w.0 w.2)

-- a related pair that an input leads out of the relation is a case
abbrev bits_of : Sides → Front' → List Bool → List Bool → List Bool → List Bool
bits_of p f input s t = input ++ (s ++ open_bits p.right.states f.equal t)

abbrev SplitsBy : Sides → Front' → List Bool → List Bool → List Bool → Type 0
SplitsBy p f input s t = Splits p f (record { input = input; left = s; right = t; word = [] })

split_case :
    (p : Sides) (f : Front') (input s t : List Bool) → IsPair p s t → length input ≡ p.left.inputs → SplitsBy p f input s t
    → IsQueryCase p f Split (bits_of p f input s t)
split_case p f input s t pair width splits =
    let bits = bits_of p f input s t in
    let parts = read_parts input s (open_bits p.right.states f.equal t) p.left.inputs p.left.states width pair.0 in
    let left = take p.left.states (drop p.left.inputs bits) in
    let right : sharing_state p.right.states f.equal left (drop (p.left.inputs + p.left.states) bits) ≡ t =
    ap (λ (x : List Bool). sharing_state p.right.states f.equal x (drop (p.left.inputs + p.left.states) bits)) parts.1
    ∙ ap (λ (x : List Bool). sharing_state p.right.states f.equal s x) parts.2
    ∙ sharing_open p.right.states f.equal s t pair.1 splits.related.equal in
    record {
      count = omega (
        arith,
        length-append input (s ++ open_bits p.right.states f.equal t),
        length-append s (open_bits p.right.states f.equal t),
        length_open p.right.states f.equal t,
        width,
        pair.0,
      );
      holds = subst (λ (x : List Bool). SplitsBy p f x left (sharing_state p.right.states f.equal left (drop (p.left.inputs + p.left.states) bits)))
          (sym parts.0)
          (subst (λ (x : List Bool). SplitsBy p f input x (sharing_state p.right.states f.equal left (drop (p.left.inputs + p.left.states) bits)))
          (sym parts.1)
          (subst (λ (x : List Bool). SplitsBy p f input s x) (sym right) splits));
    }

-- two lists of bits that aren't different are equal
stable : (xs ys : List Bool) → ((xs ≡ ys → ⊥) → ⊥) → xs ≡ ys
stable [] [] h = refl
stable [] (y ∷ ys) h = absurd (h (λ e. cc))
stable (x ∷ xs) [] h = absurd (h (λ e. cc))
stable (true ∷ xs) (true ∷ ys) h =
    ap (λ (r : List Bool). true ∷ r) (stable xs ys (λ no. h (λ e. no (let f : true ∷ xs ≡ true ∷ ys = e in cc))))
stable (true ∷ xs) (false ∷ ys) h = absurd (h (λ e. (let f : true ∷ xs ≡ false ∷ ys = e in cc)))
stable (false ∷ xs) (true ∷ ys) h = absurd (h (λ e. (let f : false ∷ xs ≡ true ∷ ys = e in cc)))
stable (false ∷ xs) (false ∷ ys) h =
    ap (λ (r : List Bool). false ∷ r) (stable xs ys (λ no. h (λ e. no (let f : false ∷ xs ≡ false ∷ ys = e in cc))))

-- one design keeps agreement on closed registers
agree_next :
    (l r : Circuit) (set s t input : List Bool) → l ≡ r → length set ≡ l.states → length s ≡ l.states → length t ≡ r.states
    → length input ≡ l.inputs → IsClosedSet l set → AgreeOn set s t → AgreeOn set ((machine_of l).step s input) ((machine_of r).step t input)
agree_next l r set s t input e count left right width closed agree =
    subst (λ (c : Circuit). length t ≡ c.states → AgreeOn set ((machine_of l).step s input) ((machine_of c).step t input)) e
    (λ is_state. closed-agree l set s t input count left is_state width closed agree) right

module _ (p : Sides) (f : Front') (sides : AreSides p) (marked : AreMarked p f.equal)
    (none : (bits : List Bool) → IsQueryCase p f Split bits → ⊥) where
  never_splits : (input s t : List Bool) → IsPair p s t → length input ≡ p.left.inputs → SplitsBy p f input s t → ⊥
  never_splits input s t pair width splits = none (bits_of p f input s t) (split_case p f input s t pair width splits)

  is_inductive : IsInductive (left_machine p) (right_machine p) (relation f)
  is_inductive s t input is_s is_t width related = (
    stable ((left_machine p).out s input) ((right_machine p).out t input)
        (λ differ. never_splits input s t (is_s, is_t) width (record { related = related; leaves = inl differ })),
    record {
      equal = λ i mark.
          agree_next p.left p.right f.equal s t input (marked.one_design i mark) marked.count is_s is_t width marked.closed related.equal i mark;
      outside = λ i below holds. never_splits input s t (is_s, is_t) width (record { related = related; leaves = inr (i, below, holds) });
    },
  )

  pub related_same : (s t : List Bool) → IsPair p s t → IsRelated f s t → SameAcross (left_machine p) (right_machine p) s t
  related_same s t pair related =
      inductive-same (left_machine p) (right_machine p) sides.ports (gates_keep_states p.left sides.left) (gates_keep_states p.right sides.right)
      (relation f) is_inductive s t pair.0 pair.1 related

pub exact :
    (p : Sides) (f : Front') (log : List (List ℤ)) → AreSides p → AreMarked p f.equal → f.freed ≡ [] → AreBlocked p f.blocked
    → Refutes p f Split log → IsExact p f
exact p f log sides marked no_freed blocked refutes s t pair =
    let about = is_about p f sides marked (is_front p f marked.count no_freed blocked) in (
      λ related. (related_same p f sides marked (no_case p f log about refutes) s t pair related, related.equal),
      λ same. record { equal = same.1; outside = same_outside p f.blocked sides blocked s t pair same.0 },
    )

-- the parts of a solution
case_part :
    (p : Sides) (f : Front') (bits : List Bool) → AreMarked p f.equal → IsQueryCase p f Split bits
    → (let left = take p.left.states (drop p.left.inputs bits) in
    IsCasePart p f (take p.left.inputs bits) left (sharing_state p.right.states f.equal left (drop (p.left.inputs + p.left.states) bits)))
case_part p f bits marked case =
    let count : length bits ≡ p.left.inputs + p.left.states + open_count p.right.states f.equal = case.count in
    let enough : p.left.inputs + p.left.states ≤ length bits = omega (arith, count) in
    let behind : length (drop p.left.inputs bits) ≡ length bits - p.left.inputs = length-drop p.left.inputs bits in
    record {
      width = length-take-le p.left.inputs bits (omega (arith, enough));
      states = (
        length-take-le p.left.states (drop p.left.inputs bits) (omega (arith, enough, behind)),
        length_sharing p.right.states f.equal (take p.left.states (drop p.left.inputs bits)) (drop (p.left.inputs + p.left.states) bits),
      );
      related = case.holds.related;
      leaves = case.holds.leaves;
    }

pub case_of_solution :
    (p : Sides) (f : Front') (bits x s t : List Bool) → AreSides p → AreMarked p f.equal → IsFront p f
    → IsSolution (posed p f Split).free (clauses_posed p f) bits → x ≡ take p.left.inputs bits
    → s ≡ take p.left.states (drop p.left.inputs bits) → t ≡ sharing_state p.right.states f.equal s (drop (p.left.inputs + p.left.states) bits)
    → IsCasePart p f x s t
case_of_solution p f bits x s t sides marked front solution is_x is_s is_t =
    let case = (solutions_are p f Split bits (is_about p f sides marked front)).0 solution in
    let left = take p.left.states (drop p.left.inputs bits) in
    let right = sharing_state p.right.states f.equal left (drop (p.left.inputs + p.left.states) bits) in
    let same : t ≡ right = is_t ∙ ap (λ (z : List Bool). sharing_state p.right.states f.equal z (drop (p.left.inputs + p.left.states) bits)) is_s in
    subst (λ (z : List Bool). IsCasePart p f z s t) (sym is_x)
    (subst (λ (z : List Bool). IsCasePart p f (take p.left.inputs bits) z t) (sym is_s)
    (subst (λ (z : List Bool). IsCasePart p f (take p.left.inputs bits) left z) (sym same) (case_part p f bits marked case)))

-- what the last question shows of the answer
pub exact_behind :
    (p : Sides) (equal : List Bool) (it : Refining) (blocked : List Hop) (log : List (List ℤ)) → AreSides p → AreMarked p equal
    → IsRefining p it → it.front.equal ≡ equal → blocked ≡ it.front.blocked → Refutes p it.front Split log
    → IsExact p (front_with equal blocked)
exact_behind p equal it blocked log sides marked at is_equal is_blocked refutes =
    let marked' : AreMarked p it.front.equal = subst (AreMarked p) (sym is_equal) marked in
    let e : IsExact p it.front = exact p it.front log sides marked' at.none_freed at.hops refutes in
    let same : it.front ≡ front_with equal blocked =
    ap (λ (m : List Bool). record { equal = m; blocked = it.front.blocked; freed = it.front.freed }) is_equal
    ∙ ap (λ (hs : List Hop). record { equal = equal; blocked = hs; freed = it.front.freed }) (sym is_blocked)
    ∙ ap (λ (hs : List Hop). record { equal = equal; blocked = blocked; freed = hs }) at.none_freed in
    subst (IsExact p) same e

pub work_behind :
    (p : Sides) (equal : List Bool) (it : Refining) (journal : List Entry) → IsRefining p it → it.front.equal ≡ equal
    → journal ≡ it.journal → KeepsWork p equal journal
work_behind p equal it journal at is_equal is =
    subst (KeepsWork p equal) (sym is)
    (splitting_keeps p equal it.journal (subst (λ (m : List Bool). AreSplitting p m it.journal) is_equal at.work))

-- a part of a list by other numbers, and the rest of one
pub same_part : (xs : List Bool) (m n i j : ℕ) → m ≡ i → n ≡ j → take (m + n - m) (drop m xs) ≡ take j (drop i xs)
same_part xs m n i j e f =
    let count : m + n - m ≡ n = omega arith in
    ap (λ (k : ℕ). take k (drop m xs)) (count ∙ f) ∙ ap (λ (k : ℕ). take j (drop k xs)) e

take_all : (n : ℕ) (xs : List Bool) → length xs ≤ n → take n xs ≡ xs
take_all zero [] h = refl
take_all zero (x ∷ xs) h = absurd (omega (arith, h))
take_all (suc n) [] h = refl
take_all (suc n) (x ∷ xs) h = ap (λ (r : List Bool). x ∷ r) (take_all n xs (omega (arith, h)))

pub rest_all : (n : ℕ) (xs : List Bool) → take (length xs - n) (drop n xs) ≡ drop n xs
rest_all n xs = take_all (length xs - n) (drop n xs) (omega (arith, length-drop n xs))

-- the parts of a solution, as they are read
pub read_case :
    (p : Sides) (it : Refining) (bits : List Bool) (l r : Circuit) (marks t : List Bool) → l ≡ p.left → r ≡ p.right → marks ≡ it.front.equal
    → AreSides p → AreMarked p it.front.equal → IsRefining p it
    → IsSolution (posed p it.front Split).free (clauses_posed p it.front) bits
    → t ≡ sharing_state r.states marks (take (l.inputs + l.states - l.inputs) (drop l.inputs bits))
    (take (length bits - (l.inputs + l.states)) (drop (l.inputs + l.states) bits))
    → IsCasePart p it.front (take l.inputs bits) (take (l.inputs + l.states - l.inputs) (drop l.inputs bits)) t
read_case p it bits l r marks t left right is_marks sides marked at solution is =
    let inputs : l.inputs ≡ p.left.inputs = ap (λ (g : Circuit). g.inputs) left in
    let states : l.states ≡ p.left.states = ap (λ (g : Circuit). g.states) left in
    let others : r.states ≡ p.right.states = ap (λ (g : Circuit). g.states) right in
    let both : l.inputs + l.states ≡ p.left.inputs + p.left.states = omega (arith, inputs, states) in
    let s = take (l.inputs + l.states - l.inputs) (drop l.inputs bits) in
    let behind = rest_all (l.inputs + l.states) bits ∙ ap (λ (k : ℕ). drop k bits) both in
    let same = ap (λ (n : ℕ). sharing_state n marks s (take (length bits - (l.inputs + l.states)) (drop (l.inputs + l.states) bits))) others
    ∙ ap (λ (m : List Bool). sharing_state p.right.states m s (take (length bits - (l.inputs + l.states)) (drop (l.inputs + l.states) bits))) is_marks
    ∙ ap (λ (bs : List Bool). sharing_state p.right.states it.front.equal s bs) behind in
    case_of_solution p it.front bits (take l.inputs bits) s t sides marked (is_front p it.front at.count at.none_freed at.hops) solution
    (ap (λ (k : ℕ). take k bits) inputs) (same_part bits l.inputs l.states p.left.inputs p.left.states inputs states) (is ∙ same)
