-- A design asks for at most as many gates as it weighs: units, clocked blocks, and one mux for each bit with a reset.
use Rattle.std.proofs.Common.{◌≡◌, ℕ, zero, suc, ◌+◌, ◌*◌, ◌≤◌, Bool, true, false, cond, ◌||◌, List, [], ◌∷◌, length, Option, Some, None, arith, refl, ap}
use Rattle.std.proofs.Math.Nat.{mul_assoc}
use Rattle.std.specs.List.{AllByRecursion}
use Rattle.rst_word.specs.declared.ops.UnaryOp.{UnaryOp}
use Rattle.rst_word.specs.declared.ops.UnaryOp.TheVariants as unary
use Rattle.rst_word.specs.declared.ops.BinaryOp.{BinaryOp}
use Rattle.rst_word.specs.declared.ops.BinaryOp.TheVariants as binary
use Rattle.rst_width.specs.declared.typed_expr.Shape.{Shape}
use Rattle.rst_width.specs.Typed.{Typed, Node, TypedList, typed, shape_of}
use Rattle.rst_width.specs.Typed as node
use Rattle.rst_width.specs.Sized as sized
use Rattle.rst_width.specs.Sizing.{kind_of}
use Rattle.rst_width.specs.Fit.{FitsUnary, FitsBinary, IsFit, IsFitNode, AreFit}
use Rattle.rst_net.specs.declared.unit.Reset.{Reset}
use Rattle.rst_net.specs.Statements.{Label, Statement, Statements, Arms, Default, Block, If, Case, Set, Empty, end, more, no_arm, arm, no_default, default}
use Rattle.rst_net.specs.Units.{PlainSignal, PlainProcess, PlainDriver, Assign, Process, PlainFlat}
use Rattle.rst_cycle.specs.Bits.{digit, has_bit}
use Rattle.rst_cycle.specs.Signals.{width_of}
use Rattle.rst_cycle.specs.Drivers.{sets, arms_set, default_sets}
use Rattle.rst_cycle.specs.Resets.{BitReset, forced, branch_reset, process_reset, or_else, reset_of}
use Rattle.rst_terms.specs.Operators.{is_division}
use Rattle.rst_terms.specs.Weights.{unary_weight, binary_weight}
use Rattle.rst_typed_terms.specs.Weights.{expression_weight, node_weight, list_weight}
use Rattle.rst_statement_terms.specs.Weights.{places_below, bits_among, labels_weight, statement_weight, all_weight, arms_weight, default_weight}
use Rattle.rst_statement_values.specs.Fits.{LabelFits, StatementFits, AllFit, ArmsFit, DefaultFits}
use Rattle.rst_design_terms.specs.Lowerable.{UnitsFit, ClockedFit, units_weight, clocked_weight}
use Rattle.rst_weight.specs.Operators as operator
use Rattle.rst_weight.specs.Counts as counts
use Rattle.rst_weight.specs.Weights as heavy
use Rattle.rst_reset_gates.specs.Counts.{is_reset, reset_count}

-- ---- operators

unary_same : (op : UnaryOp) (shape a : Shape) → FitsUnary op shape a → unary_weight op a.width ≤ operator.unary_weight op shape.width a.width
unary_same unary.Minus shape a fit = let e = ap (λ (z : Shape). z.width) fit in omega (arith, e)
unary_same unary.Plus shape a fit = omega arith
unary_same unary.Invert shape a fit = omega arith
unary_same unary.Not shape a fit = omega arith
unary_same unary.And shape a fit = omega arith
unary_same unary.Nand shape a fit = omega arith
unary_same unary.Or shape a fit = omega arith
unary_same unary.Nor shape a fit = omega arith
unary_same unary.Xor shape a fit = omega arith
unary_same unary.Xnor shape a fit = omega arith

binary_same : (op : BinaryOp) (shape a b : Shape) → FitsBinary (kind_of op) shape a b → binary_weight op a.width b.width ≤ operator.binary_weight op shape.width a.width b.width
binary_same binary.Mul shape a b fit =
    let e = ap (λ (z : Shape). 7 * z.width * z.width) fit.0 in let f = mul_assoc 7 shape.width shape.width in omega (arith, e, f)
binary_same binary.Div shape a b fit = omega arith
binary_same binary.Rem shape a b fit = omega arith
binary_same binary.Add shape a b fit = let e = ap (λ (z : Shape). z.width) fit.0 in omega (arith, e)
binary_same binary.Sub shape a b fit = let e = ap (λ (z : Shape). z.width) fit.0 in omega (arith, e)
binary_same binary.And shape a b fit = let e = ap (λ (z : Shape). z.width) fit.0 in omega (arith, e)
binary_same binary.Xor shape a b fit = let e = ap (λ (z : Shape). z.width) fit.0 in omega (arith, e)
binary_same binary.Xnor shape a b fit = let e = ap (λ (z : Shape). z.width) fit.0 in omega (arith, e)
binary_same binary.Or shape a b fit = let e = ap (λ (z : Shape). z.width) fit.0 in omega (arith, e)
binary_same binary.Shl shape a b fit = let e = ap (λ (z : Shape). z.width) fit in omega (arith, e)
binary_same binary.Shr shape a b fit = let e = ap (λ (z : Shape). z.width) fit in omega (arith, e)
binary_same binary.ArithShl shape a b fit = let e = ap (λ (z : Shape). z.width) fit in omega (arith, e)
binary_same binary.ArithShr shape a b fit = let e = ap (λ (z : Shape). z.width) fit in omega (arith, e)
binary_same binary.Lt shape a b fit = omega arith
binary_same binary.Le shape a b fit = omega arith
binary_same binary.Gt shape a b fit = omega arith
binary_same binary.Ge shape a b fit = omega arith
binary_same binary.Eq shape a b fit = omega arith
binary_same binary.Ne shape a b fit = omega arith
binary_same binary.LogicAnd shape a b fit = omega arith
binary_same binary.LogicOr shape a b fit = omega arith

division_same : (op : BinaryOp) → is_division op ≡ sized.is_division op
division_same binary.Mul = refl
division_same binary.Div = refl
division_same binary.Rem = refl
division_same binary.Add = refl
division_same binary.Sub = refl
division_same binary.Shl = refl
division_same binary.Shr = refl
division_same binary.ArithShl = refl
division_same binary.ArithShr = refl
division_same binary.Lt = refl
division_same binary.Le = refl
division_same binary.Gt = refl
division_same binary.Ge = refl
division_same binary.Eq = refl
division_same binary.Ne = refl
division_same binary.And = refl
division_same binary.Xor = refl
division_same binary.Xnor = refl
division_same binary.Or = refl
division_same binary.LogicAnd = refl
division_same binary.LogicOr = refl

either_less : (b c : Bool) (x y : ℕ) → b ≡ c → x ≤ y → cond b 0 x ≤ cond c 0 y
either_less true true x y e h = omega arith
either_less false false x y e h = h
either_less true false x y e h = cc
either_less false true x y e h = cc

-- ---- bits that pass a test

places_counted : (test : ℕ → Bool) (n : ℕ) → places_below test n ≡ counts.places_below test n
unfolding places_below counts.places_below
places_counted test zero = refl
places_counted test (suc n) = ap (λ m. digit (test n) + m) (places_counted test n)

bits_counted : (test : ℕ → ℕ → Bool) (n : ℕ) → bits_among test n ≡ counts.bits_among test n
unfolding bits_among counts.bits_among
bits_counted test zero = refl
bits_counted test (suc i) = let here = places_counted (test i) 64 in let rest = bits_counted test i in λ j. here j + rest j

no_places : (n : ℕ) → places_below (λ place. false) n ≡ 0
unfolding places_below
no_places zero = refl
no_places (suc n) = let rest = no_places n in omega (arith, rest)

no_bits : (n : ℕ) → bits_among (λ i place. false) n ≡ 0
unfolding bits_among
no_bits zero = refl
no_bits (suc i) = let here = no_places 64 in let rest = no_bits i in λ j. here j + rest j

digit_either : (a b : Bool) → digit (a || b) ≤ digit a + digit b
digit_either true b = omega arith
digit_either false b = omega arith

places_either : (f g : ℕ → Bool) (n : ℕ) → places_below (λ place. f place || g place) n ≤ places_below f n + places_below g n
unfolding places_below
places_either f g zero = omega arith
places_either f g (suc n) = let here = digit_either (f n) (g n) in let rest = places_either f g n in omega (arith, here, rest)

bits_either : (f g : ℕ → ℕ → Bool) (n : ℕ) → bits_among (λ i place. f i place || g i place) n ≤ bits_among f n + bits_among g n
unfolding bits_among
bits_either f g zero = omega arith
bits_either f g (suc i) = let here = places_either (f i) (g i) 64 in let rest = bits_either f g i in omega (arith, here, rest)

-- ---- expressions and statements

module _ (signals : List PlainSignal) where
  abbrev widths : ℕ → ℕ
  widths i = width_of signals i

  abbrev count : ℕ
  count = length signals

  mutual
    expression : (e : Typed) → IsFit e → expression_weight widths e ≤ heavy.expr_weight signals e
    expression (typed shape n) fit = place shape n fit.1

    place : (shape : Shape) (n : Node) → IsFitNode shape n → node_weight widths shape n ≤ heavy.node_weight signals shape n
    place shape (node.Word w) fit = omega arith
    place shape (node.Signal i) fit = omega arith
    place shape (node.Slice i low width) fit = omega arith
    place shape (node.Pick i e) fit = let x = expression e fit.1 in omega (arith, x)
    place shape (node.Unary op e) fit = let x = expression e fit.1 in let o = unary_same op shape (shape_of e) fit.0 in omega (arith, x, o)
    place shape (node.Binary op a b) fit =
        let x = expression a fit.2 in
        let y = expression b fit.3 in
        let o = binary_same op shape (shape_of a) (shape_of b) fit.0 in
        either_less (is_division op) (sized.is_division op)
        (expression_weight widths a + expression_weight widths b + binary_weight op (shape_of a).width (shape_of b).width)
        (operator.binary_weight op shape.width (shape_of a).width (shape_of b).width + (heavy.expr_weight signals a + heavy.expr_weight signals b))
        (division_same op) (omega (arith, x, y, o))
    place shape (node.Choose c a b) fit =
        let z = expression c fit.2 in let x = expression a fit.3 in let y = expression b fit.4 in omega (arith, x, y, z)
    place shape (node.Join es) fit = parts es fit.1
    place shape (node.Repeat n es) fit = parts es fit.2
    place shape (node.Extend e) fit = expression e fit.1
    place shape (node.Sign e) fit = expression e fit.1

    parts : (es : TypedList) → AreFit es → list_weight widths es ≤ heavy.list_weight signals es
    parts node.end fit = omega arith
    parts (node.more e es) fit = let x = expression e fit.0 in let rest = parts es fit.1 in omega (arith, x, rest)

  labels : (w : ℕ) (all : List Label) → AllByRecursion (LabelFits widths w) all → labels_weight widths count w all ≤ heavy.labels_weight signals w all
  labels w [] fit = omega arith
  labels w (label ∷ all) fit = let x = expression label.value fit.0.value.fit in let rest = labels w all fit.1 in omega (arith, x, rest)

  mutual
    statement : (b : Bool) (st : Statement) → StatementFits widths b st → statement_weight widths count st ≤ heavy.stmt_weight signals st
    statement b (Block statements) fit = all_of b statements fit
    statement b (If condition first second) fit =
        let x = expression condition fit.0.fit in
        let y = statement b first fit.1 in
        let z = statement b second fit.2 in
        let n = bits_counted (λ i place. sets first i place || sets second i place) count in
        omega (arith, x, y, z, n)
    statement b (Case selector arms otherwise full) fit =
        let x = expression selector fit.0.fit in
        let n = bits_counted (λ i place. arms_set arms i place || default_sets otherwise i place) count in
        let y = arms_of b (shape_of selector).width (bits_among (λ i place. arms_set arms i place || default_sets otherwise i place) count) (counts.bits_set count (Case selector arms otherwise full)) arms n fit.1 in
        let z = default_of b otherwise fit.2 in
        omega (arith, x, y, z)
    statement b (Set set) fit = expression set.value fit.value.fit
    statement b Empty fit = omega arith

    all_of : (b : Bool) (statements : Statements) → AllFit widths b statements → all_weight widths count statements ≤ heavy.stmts_weight signals statements
    all_of b end fit = omega arith
    all_of b (more st statements) fit = let x = statement b st fit.0 in let rest = all_of b statements fit.1 in omega (arith, x, rest)

    arms_of : (b : Bool) (w m n : ℕ) (arms : Arms) → m ≡ n → ArmsFit widths b w arms → arms_weight widths count w m arms ≤ heavy.arms_weight signals w n arms
    arms_of b w m n no_arm e fit = omega arith
    arms_of b w m n (arm ls body arms) e fit =
        let l = labels w ls fit.0 in let x = statement b body fit.1 in let rest = arms_of b w m n arms e fit.2 in omega (arith, l, x, rest, e)

    default_of : (b : Bool) (otherwise : Default) → DefaultFits widths b otherwise → default_weight widths count otherwise ≤ heavy.default_weight signals otherwise
    default_of b no_default fit = omega arith
    default_of b (default st) fit = statement b st fit

  units : (all : List PlainDriver) → UnitsFit widths all → units_weight widths count all ≤ heavy.units_weight signals all
  units [] fit = omega arith
  units (Assign set ∷ all) fit = let x = expression set.value fit.0.value.fit in let rest = units all fit.1 in omega (arith, x, rest)
  units (Process process ∷ all) fit = let x = statement true process.body fit.0 in let rest = units all fit.1 in omega (arith, x, rest)

  -- ---- resets

  abbrev of_process : Option Reset → Statement → ℕ → ℕ → Option BitReset
  of_process reset body i place = elim reset [ None ↦ None | Some r ↦ branch_reset r body i place ]

  none_reset : (n : ℕ) → bits_among (λ i place. false) n ≡ 0
  none_reset n = no_bits n

  branch_is : (b : Bool) (r : BitReset) → is_reset (cond b (Some r) None) ≡ b
  branch_is true r = refl
  branch_is false r = refl

  one_process : (reset : Option Reset) (body : Statement) → bits_among (λ i place. is_reset (of_process reset body i place)) count ≤ heavy.reset_bits signals reset body
  one_process None body = let n = none_reset count in omega (arith, n)
  one_process (Some r) (If condition first second) =
      let same : bits_among (λ i place. is_reset (of_process (Some r) (If condition first second) i place)) count ≡ bits_among (sets first) count =
      λ j. bits_among (λ i place. branch_is (sets first i place) (record { signal = r.signal; level = r.level; value = has_bit (forced first i) place }) j) count in
      let n = bits_counted (sets first) count in
      omega (arith, same, n)
  one_process (Some r) (Block statements) = let n = none_reset count in omega (arith, n)
  one_process (Some r) (Case selector arms otherwise full) = let n = none_reset count in omega (arith, n)
  one_process (Some r) (Set set) = let n = none_reset count in omega (arith, n)
  one_process (Some r) Empty = let n = none_reset count in omega (arith, n)

  else_is : (a b : Option BitReset) → is_reset (or_else a b) ≡ (is_reset a || is_reset b)
  else_is None b = refl
  else_is (Some r) b = refl

  clocked : (all : List PlainProcess) → ClockedFit widths all → reset_count (reset_of all) count + clocked_weight widths count all ≤ heavy.clocked_weight signals all
  clocked [] fit = let n = none_reset count in omega (arith, n)
  clocked (process ∷ all) fit =
      let x = statement false process.body fit.0 in
      let rest = clocked all fit.1 in
      let one = one_process process.reset process.body in
      let same : reset_count (reset_of (process ∷ all)) count
      ≡ bits_among (λ i place. is_reset (process_reset process i place) || is_reset (reset_of all i place)) count =
      λ j. bits_among (λ i place. else_is (process_reset process i place) (reset_of all i place) j) count in
      let two = bits_either (λ i place. is_reset (process_reset process i place)) (λ i place. is_reset (reset_of all i place)) count in
      omega (arith, x, rest, one, same, two)

pub weighed : (flat : PlainFlat) → UnitsFit (width_of flat.signals) flat.units → ClockedFit (width_of flat.signals) flat.clocked
    → reset_count (reset_of flat.clocked) (length flat.signals)
    + (units_weight (width_of flat.signals) (length flat.signals) flat.units + clocked_weight (width_of flat.signals) (length flat.signals) flat.clocked) ≤ heavy.weight flat
weighed flat u k = let x = units flat.signals flat.units u in let y = clocked flat.signals flat.clocked k in omega (arith, x, y)
