-- Each query is posed exactly.
use Rattle.std.proofs.Common.{◌≡◌, ◌∙◌, ◌↔◌, ℕ, zero, suc, ◌+◌, ◌-◌, min, ◌≤◌, Bool, true, List, [], ◌∷◌, ◌++◌, length, take, drop, refl, sym, ap, subst, arith, length-drop}
use Rattle.std.proofs.lemmas.List.{take-append-drop, length-take}
use Rattle.rst_value.specs.declared.tern.Tern.{Tern}
use Rattle.rst_gate.specs.Machine.{after}
use Rattle.rst_gate.specs.Patterns.{known_pattern, free_bits}
use Rattle.rst_clause.specs.Literals.{opposite, Solves, AreClauses}
use Rattle.rst_clause.specs.Operations.{IsDefined}
use Rattle.rst_clause.specs.Standing.{BeginsWith}
use Rattle.rst_clause.specs.Results.{largest}
use Rattle.rst_pair.specs.declared.query.Query.{Query}
use Rattle.rst_pair.specs.declared.query.Query.TheVariants.{Split, Land, LandFree, Escape, Stuck}
use Rattle.rst_pair.specs.Sides.{Sides, left_machine, right_machine}
use Rattle.rst_pair.specs.Fronts.{Front'}
use Rattle.rst_pair.specs.Queries.{sharing_state, query_bits, Reading, reading, IsStuck, Splits, Escapes, IsCase, IsQueryCase}
use Rattle.rst_pose.specs.Posed.{Lits, free_literals, sharing_literals, pattern_literals, first_clauses, true_literal, Asked, asked_split, asked_stuck, asked_escape, asked_land}
use Rattle.rst_pose.proofs.Words.{no_free}
use Rattle.rst_query_laws.specs.Conditions.{IsAbout}
use Rattle.rst_query_laws.proofs.Meaning.{values, AllIn}
use Rattle.rst_query_laws.proofs.Cubes.{high_more}
use Rattle.rst_query_laws.proofs.Bits.{free_values, free_in, sharing_values, sharing_in, length_sharing, sharing_agrees, word_filled}
use Rattle.rst_query_laws.proofs.Runs.{RunMeans, run_means, run_bits}
use Rattle.rst_query_laws.proofs.Cases.{blocked, SplitTest, StuckTest, EscapeTest, split_case, stuck_case, escape_case, land_case}
use Rattle.rst_query_laws.proofs.Asked.{AskMeans, blocked_means, stuck_means, split_means, escape_means}
use Rattle.rst_query_laws.proofs.Starts.{start_top, start_high, start_low, IsExact}

-- a case, once the bits are as many as they are to be
case_of : (p : Sides) (f : Front') (query : Query) (bits : List Bool) (A : Type 0) → length bits ≡ query_bits p f query
    → A ↔ IsCase p f query (reading p f query bits) → A ↔ IsQueryCase p f query bits
case_of p f query bits A count iff = (λ a. record { count = count; holds = iff.0 a }, λ h. iff.1 h.holds)

through : (A B C : Type 0) → A ↔ B → B ↔ C → A ↔ C
through A B C g h = (λ a. h.0 (g.0 a), λ c. g.1 (h.1 c))

taken : (m n : ℕ) (bits : List Bool) → m + n ≤ length bits → length (take n (drop m bits)) ≡ n
taken m n bits le = length-take n (drop m bits) ∙ least (length-drop {A = Bool} m bits)
  where
    least : length (drop m bits) ≡ length bits - m → min n (length (drop m bits)) ≡ n
    least e = omega (arith, e, le)

dropped : (m n : ℕ) (bits : List Bool) → length bits ≡ m + n → length (drop m bits) ≡ n
dropped m n bits e = omega (arith, e, length-drop {A = Bool})

take_all : (n : ℕ) (bits : List Bool) → length bits ≡ n → take n bits ≡ bits
take_all zero [] e = refl
take_all zero (b ∷ bits) e = absurd (omega (arith, e))
take_all (suc n) [] e = refl
take_all (suc n) (b ∷ bits) e = ap (λ (xs : List Bool). b ∷ xs) (take_all n bits (omega (arith, e)))

length_free : (before n : ℕ) → length (free_literals before n) ≡ n
length_free before zero = refl
length_free before (suc n) = omega (arith, length_free (suc before) n)

-- a fact on three lists, of equal ones
moved : (P : List Bool → List Bool → List Bool → Type 0) (x y s t u w : List Bool) → x ≡ y → s ≡ t → u ≡ w → P x s u → P y t w
moved P x y s t u w e f g h = subst (λ (z : List Bool). P y t z) g (subst (λ (z : List Bool). P y z u) f (subst (λ (z : List Bool). P z s u) e h))

same_fact : (P : List Bool → List Bool → List Bool → Type 0) (x y s t u w : List Bool) → x ≡ y → s ≡ t → u ≡ w → P x s u ↔ P y t w
same_fact P x y s t u w e f g = (λ h. moved P x y s t u w e f g h, λ h. moved P y x t s w u (sym e) (sym f) (sym g) h)

pub split_exact : (p : Sides) (f : Front') → IsAbout p f Split → IsExact p f Split
split_exact p f about =
    let free = query_bits p f Split in
    let c = first_clauses free in
    let i = p.left.inputs in
    let l = p.left.states in
    let inputs = free_literals 0 i in
    let left = free_literals i l in
    let right = sharing_literals p.right.states f.equal left (i + l) in
    let n = largest c in
    let top : n ≡ free + 1 = start_top free in
    let marks : length f.equal ≡ length left = about.front.equal ∙ sym (length_free i l) in
    let left_in : AllIn c left = free_in n i l (omega (arith, top)) in
    let m : AskMeans free c (asked_split p f (true_literal free) inputs left right c) (λ v. SplitTest p f (values v inputs) (values v left) (values v right)) =
    split_means free p f c (true_literal free) inputs left right (start_high free) (free_in n 0 i (omega (arith, top))) left_in
    (sharing_in n p.right.states f.equal left (i + l) marks left_in (omega (arith, top))) in
    record {
      ready = m.grown.ready;
      held = m.held;
      exact = λ bits v count begins s.
          let r : Reading = reading p f Split bits in
          let is_input : values v inputs ≡ r.input = free_values free bits v 0 i begins count (omega arith) in
          let is_left : values v left ≡ r.left = free_values free bits v i l begins count (omega arith) in
          let is_right : values v right ≡ r.right = sharing_values free bits v p.right.states f.equal left (i + l) begins (omega arith)
          ∙ ap (λ (xs : List Bool). sharing_state p.right.states f.equal xs (drop (i + l) bits)) is_left in
          let splits : SplitTest p f r.input r.left r.right ↔ Splits p f r =
          split_case p f r about.sides about.front (taken i l bits (omega (arith, count))) (length_sharing p.right.states f.equal r.left (drop (i + l) bits))
          (sharing_agrees p.right.states f.equal r.left (drop (i + l) bits) about.shared) in
          let same = same_fact (λ x s t. SplitTest p f x s t) _ _ _ _ _ _ is_input is_left is_right in
          case_of p f Split bits _ count (through _ _ _ (m.exact v s) (through _ _ _ same splits));
    }

pub escape_exact : (p : Sides) (f : Front') → IsAbout p f Escape → IsExact p f Escape
escape_exact p f about =
    let free = query_bits p f Escape in
    let c = first_clauses free in
    let i = p.left.inputs in
    let l = p.left.states in
    let k = p.right.states in
    let inputs = free_literals 0 i in
    let left = free_literals i l in
    let right = free_literals (i + l) k in
    let n = largest c in
    let top : n ≡ free + 1 = start_top free in
    let m : AskMeans free c (asked_escape p f (true_literal free) inputs left right c) (λ v. EscapeTest p f (values v inputs) (values v left) (values v right)) =
    escape_means free p f c (true_literal free) inputs left right (start_high free) (free_in n 0 i (omega (arith, top))) (free_in n i l (omega (arith, top)))
    (free_in n (i + l) k (omega (arith, top))) in
    record {
      ready = m.grown.ready;
      held = m.held;
      exact = λ bits v count begins s.
          let r : Reading = reading p f Escape bits in
          let is_input : values v inputs ≡ r.input = free_values free bits v 0 i begins count (omega arith) in
          let is_left : values v left ≡ r.left = free_values free bits v i l begins count (omega arith) in
          let right_length : length r.right ≡ k = dropped (i + l) k bits count in
          let is_right : values v right ≡ r.right = free_values free bits v (i + l) k begins count (omega arith) ∙ take_all k r.right right_length in
          let escapes : EscapeTest p f r.input r.left r.right ↔ Escapes p f r =
          escape_case p f r about.sides about.front (taken i l bits (omega (arith, count))) right_length in
          let same = same_fact (λ x s t. EscapeTest p f x s t) _ _ _ _ _ _ is_input is_left is_right in
          case_of p f Escape bits _ count (through _ _ _ (m.exact v s) (through _ _ _ same escapes));
    }

pub stuck_exact : (p : Sides) (f : Front') → IsAbout p f Stuck → IsExact p f Stuck
stuck_exact p f about =
    let free = query_bits p f Stuck in
    let c = first_clauses free in
    let l = p.left.states in
    let k = p.right.states in
    let pair = free_literals 0 (l + k) in
    let n = largest c in
    let top : n ≡ free + 1 = start_top free in
    let m : AskMeans free c (asked_stuck f (true_literal free) pair c) (λ v. StuckTest f (values v pair)) =
    stuck_means free f c (true_literal free) pair (start_high free) (free_in n 0 (l + k) (omega (arith, top))) in
    record {
      ready = m.grown.ready;
      held = m.held;
      exact = λ bits v count begins s.
          let r : Reading = reading p f Stuck bits in
          let is_pair : values v pair ≡ r.left ++ r.right =
          free_values free bits v 0 (l + k) begins count (omega arith) ∙ take_all (l + k) bits count ∙ sym (take-append-drop l bits) in
          let stuck : StuckTest f (r.left ++ r.right) ↔ IsStuck f r.left r.right =
          stuck_case p f r.left r.right about.front (taken 0 l bits (omega (arith, count))) (dropped l k bits count) in
          let same : StuckTest f (values v pair) ↔ StuckTest f (r.left ++ r.right) =
          (λ h. subst (λ (x : List Bool). StuckTest f x) is_pair h, λ h. subst (λ (x : List Bool). StuckTest f x) (sym is_pair) h) in
          case_of p f Stuck bits _ count (through _ _ _ (m.exact v s) (through _ _ _ same stuck));
    }

-- what is asked of a pattern's run, by a test of the pair behind it
record LandMeans (p : Sides) (f : Front') (pattern : List (List Tern)) (free : ℕ) (asked : Asked) : Type 0 where
  ready : IsDefined free (largest asked.fixed) asked.fixed
  held : AreClauses (largest asked.fixed) asked.required
  exact : (bits : List Bool) (v : ℕ → Bool) → length bits ≡ free → BeginsWith free bits v → Solves v asked.fixed
      → Solves v asked.required
      ↔ (blocked f (run_bits p pattern (p.left.states + p.right.states) bits (take p.left.states bits) (take p.right.states (drop p.left.states bits))) ≡ true)

land_means :
    (p : Sides) (f : Front') (pattern : List (List Tern)) (free : ℕ) → p.left.states + p.right.states + free_bits pattern ≡ free
    → LandMeans p f pattern free (asked_land p f (true_literal free) pattern (first_clauses free))
land_means p f pattern free enough =
    let c = first_clauses free in
    let low = opposite (true_literal free) in
    let l = p.left.states in
    let k = p.right.states in
    let left = free_literals 0 l in
    let right = free_literals l k in
    let n = largest c in
    let top : n ≡ free + 1 = start_top free in
    let r : Lits = pattern_literals p low pattern (l + k) left right c in
    let rm : RunMeans free p c pattern (l + k) left right r =
    run_means free p c low pattern (l + k) left right (start_low free) (free_in n 0 l (omega (arith, top, enough))) (free_in n l k (omega (arith, top, enough)))
    (omega (arith, enough)) (omega (arith, top)) in
    let high_is = high_more free c r.1 (true_literal free) rm.grown (start_high free) in
    let m = blocked_means free f r.1 (true_literal free) r.0 high_is rm.held in
    record {
      ready = m.grown.ready;
      held = m.held;
      exact = λ bits v count begins s.
          let at_run = m.grown.earlier v s in
          let is_left : values v left ≡ take l bits = free_values free bits v 0 l begins count (omega (arith, enough)) in
          let is_right : values v right ≡ take k (drop l bits) = free_values free bits v l k begins count (omega (arith, enough)) in
          let is_pair : values v r.0 ≡ run_bits p pattern (l + k) bits (take l bits) (take k (drop l bits)) =
          rm.value bits v begins at_run
          ∙ ap (λ (x : List Bool). run_bits p pattern (l + k) bits x (values v right)) is_left
          ∙ ap (λ (x : List Bool). run_bits p pattern (l + k) bits (take l bits) x) is_right in
          let test = m.exact v s in (
            λ a. sym (ap (λ (x : List Bool). blocked f x) is_pair) ∙ test.0 a,
            λ e. test.1 (ap (λ (x : List Bool). blocked f x) is_pair ∙ e),
          );
    }

pub pattern_exact : (p : Sides) (f : Front') (pattern : List (List Tern)) → IsAbout p f (LandFree pattern) → IsExact p f (LandFree pattern)
pattern_exact p f pattern about =
    let free = query_bits p f (LandFree pattern) in
    let l = p.left.states in
    let k = p.right.states in
    let m = land_means p f pattern free refl in
    record {
      ready = m.ready;
      held = m.held;
      exact = λ bits v count begins s.
          let r : Reading = reading p f (LandFree pattern) bits in
          case_of p f (LandFree pattern) bits _ count
          (through _ _ _ (m.exact bits v count begins s)
          (land_case p f r about.sides about.front (taken 0 l bits (omega (arith, count))) (taken l k bits (omega (arith, count)))));
    }

pub word_exact : (p : Sides) (f : Front') (word : List (List Bool)) → IsAbout p f (Land word) → IsExact p f (Land word)
word_exact p f word about =
    let l = p.left.states in
    let k = p.right.states in
    let free = query_bits p f (Land word) in
    let m = land_means p f (known_pattern word) free (omega (arith, no_free word)) in
    record {
      ready = m.ready;
      held = m.held;
      exact = λ bits v count begins s.
          let r : Reading = reading p f (Land word) bits in
          let right_length : length r.right ≡ k = dropped l k bits count in
          let is_pair : run_bits p (known_pattern word) (l + k) bits (take l bits) (take k (drop l bits))
          ≡ after (left_machine p) r.left word ++ after (right_machine p) r.right word =
          ap (λ (w : List (List Bool)). after (left_machine p) (take l bits) w ++ after (right_machine p) (take k (drop l bits)) w) (word_filled word (drop (l + k) bits))
          ∙ ap (λ (x : List Bool). after (left_machine p) r.left word ++ after (right_machine p) x word) (take_all k (drop l bits) right_length) in
          let lands = land_case p f r about.sides about.front (taken 0 l bits (omega (arith, count))) right_length in
          let test = m.exact bits v count begins s in
          case_of p f (Land word) bits _ count (
            λ a. lands.0 (sym (ap (λ (x : List Bool). blocked f x) is_pair) ∙ test.0 a),
            λ h. test.1 (ap (λ (x : List Bool). blocked f x) is_pair ∙ lands.1 h),
          );
    }

pub posed_exact : (p : Sides) (f : Front') (query : Query) → IsAbout p f query → IsExact p f query
posed_exact p f Split about = split_exact p f about
posed_exact p f (Land word) about = word_exact p f word about
posed_exact p f (LandFree pattern) about = pattern_exact p f pattern about
posed_exact p f Escape about = escape_exact p f about
posed_exact p f Stuck about = stuck_exact p f about
