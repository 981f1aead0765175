-- The bits of a typed expression spell its value, in two values.
use Rattle.std.proofs.Common.{◌≡◌, ℕ, ◌+◌, ◌*◌, ◌/◌, ◌%◌, ◌^◌, ◌<◌, ◌≤◌, Bool, true, false, not, List, ◌++◌, length, cond, eqb, arith, refl, sym, ap, ◌∙◌, subst, append_assoc}
use Rattle.std.proofs.lemmas.Bool.{cond_both}
use Rattle.rst_word.specs.Words.{PlainWord, joined}
use Rattle.rst_word.specs.Unary.{is_true}
use Rattle.rst_word.specs.Binary.{binary_word}
use Rattle.rst_width.specs.declared.typed_expr.Shape.{Shape}
use Rattle.rst_width.specs.Typed.{Typed, Node, TypedList, typed, end, more, shape_of}
use Rattle.rst_width.specs.Typed as node
use Rattle.rst_width.specs.Values.{Valuation, value, number_at, word_at, constant_word, joined_parts, joined_behind}
use Rattle.rst_width.specs.Fit.{IsFit, IsFitNode, AreFit, widths}
use Rattle.rst_width.specs.Reads.{ReadsInside, NodeReadsInside, AllReadInside}
use Rattle.rst_width.proofs.OneValue.{same_value}
use Rattle.rst_terms.specs.declared.kinds.Connective.TheVariants.{Or}
use Rattle.rst_terms.specs.Algebras.{bits, Step}
use Rattle.rst_terms.specs.Numbers.{number}
use Rattle.rst_terms.specs.Recurrences.{reduced, chosen}
use Rattle.rst_terms.specs.Operators.{is_division}
use Rattle.rst_terms.specs.Spelling.{Spells}
use Rattle.rst_terms.proofs.Operators.{unary_spells, binary_spells, extended_spells}
use Rattle.rst_terms.proofs.Connectives.{any_number}
use Rattle.rst_terms.proofs.Choices.{chosen_bits, cond_length}
use Rattle.rst_typed_terms.specs.Expressions.{expression_bits, node_bits, list_bits}
use Rattle.rst_typed_terms.specs.Valuations.{AreSpelled}
use Rattle.rst_typed_terms.proofs.Parts.{constant_bits, slice_bits, pick_bits, join_bits, copies_spell, copies_width}
use Rattle.rst_typed_terms.proofs.Operands.{value_width, value_sign, some_bits, unary_width, operands_fit, division, quotient_below}

-- a choice between two words
choice_value : (test : Bool) (n : ℕ) (ts es : List Bool) (t e : PlainWord) → test ≡ not (eqb n 0) → Spells ts t → Spells es e → number (cond test ts es) ≡ cond (not (eqb n 0)) t.value e.value
choice_value true n ts es t e h p q = p.value ∙ ap (λ b. cond b t.value e.value) h
choice_value false n ts es t e h p q = q.value ∙ ap (λ b. cond b t.value e.value) h

choice_spells :
    (ns ts es : List Bool) (c t e : PlainWord) (width : ℕ) → t.width ≡ width → e.width ≡ width → Spells ns c → Spells ts t → Spells es e
    → (length (chosen bits tt (reduced bits Or tt ns).1 ts es).1 ≡ width) × (number (chosen bits tt (reduced bits Or tt ns).1 ts es).1 ≡ cond (is_true c) t.value e.value)
choice_spells ns ts es c t e width tw ew h p q =
    let test : Bool = (reduced bits Or tt ns).1 in
    let one : length ts ≡ width = p.width ∙ tw in
    let other : length es ≡ width = q.width ∙ ew in
    let picked = chosen_bits test ts es (one ∙ sym other) in
    let truth : test ≡ is_true c = any_number ns ∙ ap (λ n. not (eqb n 0)) h.value in
    (ap length picked ∙ cond_length test ts es width one other, ap number picked ∙ choice_value test c.value ts es t e truth p q)

three : (a b c : ℕ) → a + b + c ≡ a + (b + c)
three a b c = omega arith

less_is : (a b : ℕ) → a < b → a ≤ b
less_is a b h = omega arith

-- the widths of parts together
behind_width : (v : Valuation) (w : PlainWord) (xs : TypedList) → (joined_behind v w xs).width ≡ w.width + widths xs
behind_width v w end = omega arith
behind_width v w (more x xs) =
    behind_width v (joined w (value v x)) xs ∙ (ap (λ n. w.width + n + widths xs) (value_width v x) ∙ three w.width (shape_of x).width (widths xs))

parts_width : (v : Valuation) (xs : TypedList) → (joined_parts v xs).width ≡ widths xs
parts_width v end = refl
parts_width v (more x xs) = behind_width v (value v x) xs ∙ ap (λ n. n + widths xs) (value_width v x)

module _ (room : ℕ → ℕ) (words : ℕ → List Bool) (v : Valuation) (spelled : AreSpelled room words v) where
  mutual
    pub expression_spells : (e : Typed) → IsFit e → ReadsInside room e → Spells (expression_bits bits words tt e).1 (value v e)
    expression_spells (typed shape node) f r = node_spells shape node f.1 r

    node_spells : (shape : Shape) (n : Node) → IsFitNode shape n → NodeReadsInside room shape n → Spells (node_bits bits words tt shape n).1 (word_at shape (number_at v shape n))
    node_spells shape (node.Word w) f r =
        let c = constant_bits w.width w.value f.0.fits in record { width = c.width ∙ f.1; value = c.value }
    node_spells shape (node.Signal i) f r = record { width = (spelled i).width ∙ r; value = (spelled i).value }
    node_spells shape (node.Slice i low width) f r =
        let inside : low + width ≤ length (words i) = omega (arith, r, (spelled i).width) in
        let c = slice_bits low width (words i) inside in
        record { width = c.width ∙ f; value = c.value ∙ ap (λ n. n / 2 ^ low % 2 ^ width) (spelled i).value }
    node_spells shape (node.Pick i e) f r =
        let index = expression_spells e f.1 r.1 in
        let ns : List Bool = (expression_bits bits words tt e).1 in
        let width : length ns ≡ (shape_of e).width = index.width ∙ value_width v e in
        let inside : 2 ^ length ns ≤ length (words i) = rw (width, (spelled i).width) r.0 in
        let c = pick_bits ns (words i) inside in
        record {
          width = c.width ∙ sym f.0;
          value = c.value ∙ (ap (λ n. n / 2 ^ number ns % 2) (spelled i).value ∙ ap (λ n. v i / 2 ^ n % 2) index.value);
        }
    node_spells shape (node.Unary op e) f r =
        let c = unary_spells op (expression_bits bits words tt e).1 (value v e) (expression_spells e f.1 r) in
        record { width = c.width ∙ unary_width op shape (shape_of e) (value v e) f.0 (value_width v e); value = c.value }
    node_spells shape (node.Binary op a b) f r =
        cond_both (is_division op) _ _
        (λ (z : Step (Unit {0}) (List Bool)). Spells z.1 (word_at shape (binary_word op (value v a) (value v b)).value))
        (λ d.
        let cut = division op shape (shape_of a) (shape_of b) a b d f.0 f.1 in
        let fixed_a : constant_word a ≡ value v a = same_value (λ _. 0) v a cut.constant.dividend in
        let fixed_b : constant_word b ≡ value v b = same_value (λ _. 0) v b cut.constant.divisor in
        let same : (binary_word op (constant_word a) (constant_word b)).value ≡ (binary_word op (value v a) (value v b)).value = λ i. (binary_word op (fixed_a i) (fixed_b i)).value in
        let fits : (binary_word op (constant_word a) (constant_word b)).value < 2 ^ shape.width =
        subst (λ w. (binary_word op (constant_word a) (constant_word b)).value < 2 ^ w) (value_width (λ _. 0) a ∙ ap (λ (s : Shape). s.width) cut.same) (quotient_below op (constant_word a) (constant_word b) d) in
        let c = constant_bits shape.width (binary_word op (constant_word a) (constant_word b)).value fits in
        record { width = c.width; value = c.value ∙ same })
        (λ d.
        let both = operands_fit shape (shape_of a) (shape_of b) (value v a) (value v b) (value_width v a) (value_width v b) (value_sign v a) (value_sign v b) op f.0 in
        let some : 0 < (value v a).width = rw (value_width v a) (some_bits a f.2) in
        let c = binary_spells op (shape_of a).signed (expression_bits bits words tt a).1 (expression_bits bits words tt b).1 (value v a) (value v b) d some
        both.widths both.sign (expression_spells a f.2 r.0) (expression_spells b f.3 r.1) in
        record { width = c.width ∙ both.width d; value = c.value })
    node_spells shape (node.Choose c a b) f r =
        let z = choice_spells (expression_bits bits words tt c).1 (expression_bits bits words tt a).1 (expression_bits bits words tt b).1
        (value v c) (value v a) (value v b) shape.width
        (value_width v a ∙ ap (λ (s : Shape). s.width) f.0) (value_width v b ∙ ap (λ (s : Shape). s.width) f.1)
        (expression_spells c f.2 r.0) (expression_spells a f.3 r.1) (expression_spells b f.4 r.2) in
        record { width = z.0; value = z.1 }
    node_spells shape (node.Join es) f r =
        let c = parts_spell es f.1 r in record { width = c.width ∙ (parts_width v es ∙ f.0); value = c.value }
    node_spells shape (node.Repeat count es) f r =
        let c = parts_spell es f.2 r in
        let z = copies_spell count (list_bits bits words tt es).1 (joined_parts v es) f.0 c in
        record {
          width = copies_width count (list_bits bits words tt es).1 ∙ (ap (λ n. count * n) (c.width ∙ parts_width v es) ∙ f.1);
          value = z.value;
        }
    node_spells shape (node.Extend e) f r =
        let c = extended_spells shape.signed shape.width (expression_bits bits words tt e).1 (value v e) (expression_spells e f.1 r)
        (rw (value_width v e) (some_bits e f.1)) (rw (value_width v e) (less_is (shape_of e).width shape.width f.0)) in
        record { width = c.width; value = c.value }
    node_spells shape (node.Sign e) f r =
        let c = expression_spells e f.1 r in record { width = c.width ∙ (value_width v e ∙ f.0); value = c.value }

    parts_spell : (es : TypedList) → AreFit es → AllReadInside room es → Spells (list_bits bits words tt es).1 (joined_parts v es)
    parts_spell end f r = record { width = refl; value = refl }
    parts_spell (more x xs) f r = behind_spells xs (expression_bits bits words tt x).1 (value v x) (expression_spells x f.0 r.0) f.1 r.1

    behind_spells :
        (xs : TypedList) (fs : List Bool) (front : PlainWord) → Spells fs front → AreFit xs → AllReadInside room xs
        → Spells ((list_bits bits words tt xs).1 ++ fs) (joined_behind v front xs)
    behind_spells end fs front h f r = h
    behind_spells (more x xs) fs front h f r =
        let xb : List Bool = (expression_bits bits words tt x).1 in
        let rest = behind_spells xs (xb ++ fs) (joined front (value v x)) (join_bits xb fs (value v x) front (expression_spells x f.0 r.0) h) f.1 r.1 in
        let same : (list_bits bits words tt xs).1 ++ xb ++ fs ≡ (list_bits bits words tt xs).1 ++ (xb ++ fs) = append_assoc (list_bits bits words tt xs).1 xb fs in
        record { width = ap length same ∙ rest.width; value = ap number same ∙ rest.value }
