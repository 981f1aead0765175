-- Sums that end at the greatest number, and rows in memory.
use Rattle.std.proofs.Common.{◌≡◌, ◌∙◌, refl, sym, ap, ℕ, ◌+◌, ◌≤◌, List, length, drop, map, arith}
use Rattle.std.proofs.lemmas.List.{at_drop_all}
use Rattle.rst_width.specs.declared.typed_expr.TypedExpr.{TypedExpr}
use Rattle.rst_width.specs.Typed.{plain_all, plain_typed}
use Rattle.rst_width.proofs.Rows.{plain_row-hidden, plain_node-Join, plain_node-Repeat}
use Rattle.rst_net.specs.declared.stmt.TypedStmt.{TypedStmt}
use Rattle.rst_net.specs.declared.stmt.TypedArm.{TypedArm}
use Rattle.rst_net.specs.declared.stmt.TypedCase.{TypedCase, out-TypedCase}
use Rattle.rst_net.specs.declared.stmt.TypedLabel.{TypedLabel}
use Rattle.rst_net.specs.declared.unit.Driver.{Driver}
use Rattle.rst_net.specs.declared.unit.Process.{Process}
use Rattle.rst_net.specs.Statements.{Statement, Arms, no_arm, arm, plain_stmts, plain_arms, plain_case, plain_label}
use Rattle.rst_net.specs.Units.{PlainSignal, plain_driver, plain_process}
use Rattle.rst_blocks.specs.Plain.{plain_default}
use Rattle.rst_blocks.proofs.Lists.{plain_stmt-Block, plain_case-out}
use Rattle.rst_blocks.proofs.Targets.{targets_in-sets}
use Rattle.rst_weight.specs.Counts.{bits_set}
use Rattle.rst_weight.specs.Weights.{expr_weight, list_weight, labels_weight, stmts_weight, arms_weight, default_weight, stmt_weight, units_weight, clocked_weight}
use Rattle.rst_weight.specs.Plain.{cut}

pub cut-cut : (a b : ℕ) → cut (cut a + b) ≡ cut (a + b)
cut-cut a b = omega arith

pub ruleset expressions = (plain_row-hidden, plain_node-Join, plain_node-Repeat)

pub ruleset statements = (plain_stmt-Block)

pub ruleset cases = (plain_case-out)

pub ruleset targets = (targets_in-sets)

module _ (signals : List PlainSignal) where
  -- behind the last index there is none
  pub list-none : (xs : List TypedExpr) (i : ℕ) → length xs ≤ i → list_weight signals (plain_all (drop i xs)) ≡ 0
  list-none xs i h = at_drop_all (λ ys. list_weight signals (plain_all ys)) xs i h

  pub labels-none : (width : ℕ) (xs : List TypedLabel) (i : ℕ) → length xs ≤ i → labels_weight signals width (map plain_label (drop i xs)) ≡ 0
  labels-none width xs i h = at_drop_all (λ ys. labels_weight signals width (map plain_label ys)) xs i h

  pub stmts-none : (xs : List TypedStmt) (i : ℕ) → length xs ≤ i → stmts_weight signals (plain_stmts (drop i xs)) ≡ 0
  stmts-none xs i h = at_drop_all (λ ys. stmts_weight signals (plain_stmts ys)) xs i h

  pub arms-none : (width bits : ℕ) (xs : List TypedArm) (i : ℕ) → length xs ≤ i → arms_weight signals width bits (plain_arms (drop i xs)) ≡ 0
  arms-none width bits xs i h = at_drop_all (λ ys. arms_weight signals width bits (plain_arms ys)) xs i h

  pub units-none : (xs : List Driver) (i : ℕ) → length xs ≤ i → units_weight signals (map plain_driver (drop i xs)) ≡ 0
  units-none xs i h = at_drop_all (λ ys. units_weight signals (map plain_driver ys)) xs i h

  pub clocked-none : (xs : List Process) (i : ℕ) → length xs ≤ i → clocked_weight signals (map plain_process (drop i xs)) ≡ 0
  clocked-none xs i h = at_drop_all (λ ys. clocked_weight signals (map plain_process ys)) xs i h

  -- a count of bits may end at the greatest number, where the sum does
  pub arms-cut : (width n s : ℕ) (others : Arms) → cut (s + arms_weight signals width (cut n) others) ≡ cut (s + arms_weight signals width n others)
  arms-cut width n s no_arm = refl
  arms-cut width n s (arm labels body others) =
      let l = labels_weight signals width labels in
      let b = stmt_weight signals body in
      let rest = arms-cut width n (s + l + cut n + b) others in
      step s l b n (arms_weight signals width (cut n) others) (arms_weight signals width n others) rest
    where
      step : (s l b n r t : ℕ) → cut (s + l + cut n + b + r) ≡ cut (s + l + cut n + b + t) → cut (s + (l + (cut n + (b + r)))) ≡ cut (s + (l + (n + (b + t))))
      step s l b n r t e = omega arith

  -- a case of what was summed of its parts
  pub case_sum : (sum bits selected all width : ℕ) (case : TypedCase) (selector : TypedExpr) (arms : List TypedArm)
      → selector ≡ (out-TypedCase case).selector.value → width ≡ (out-TypedCase case).selector.value.width → arms ≡ (out-TypedCase case).arms.items
      → bits ≡ cut (bits_set (length signals) (plain_case case)) → selected ≡ cut (sum + expr_weight signals (plain_typed selector)) → all ≡ cut (selected + arms_weight signals width bits (plain_arms arms))
      → cut (all + default_weight signals (plain_default (out-TypedCase case).otherwise)) ≡ cut (sum + stmt_weight signals (plain_case case))
  case_sum sum bits selected all width case selector arms is_selector is_width are_arms is_bits is_selected is_all =
      let e = plain_typed (out-TypedCase case).selector.value in
      let w = (out-TypedCase case).selector.value.width in
      let others = plain_arms (out-TypedCase case).arms.items in
      let behind = default_weight signals (plain_default (out-TypedCase case).otherwise) in
      let n = bits_set (length signals) (plain_case case) in
      let whole : stmt_weight signals (plain_case case) ≡ expr_weight signals e + (arms_weight signals w n others + behind) =
      ap (λ (s : Statement). stmt_weight signals s) (plain_case-out case)
      ∙ ap (λ (s : Statement). expr_weight signals e + (arms_weight signals w (bits_set (length signals) s) others + behind)) (sym (plain_case-out case)) in
      let first : selected ≡ cut (sum + expr_weight signals e) = is_selected ∙ ap (λ (x : TypedExpr). cut (sum + expr_weight signals (plain_typed x))) is_selector in
      let second : all ≡ cut (selected + arms_weight signals w (cut n) others) =
      is_all ∙ ap (λ k. cut (selected + arms_weight signals k bits (plain_arms arms))) is_width ∙ ap (λ (xs : List TypedArm). cut (selected + arms_weight signals w bits (plain_arms xs))) are_arms
      ∙ ap (λ k. cut (selected + arms_weight signals w k others)) is_bits in
      step sum selected all (expr_weight signals e) (arms_weight signals w (cut n) others) (arms_weight signals w n others) behind (stmt_weight signals (plain_case case)) whole first second
      (arms-cut w n (sum + expr_weight signals e + behind) others)
    where
      step : (sum selected all e b a d whole : ℕ) → whole ≡ e + (a + d) → selected ≡ cut (sum + e) → all ≡ cut (selected + b) → cut (sum + e + d + b) ≡ cut (sum + e + d + a) → cut (all + d) ≡ cut (sum + whole)
      step sum selected all e b a d whole w s t u = omega arith
