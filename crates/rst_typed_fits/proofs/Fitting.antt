-- Sets and statements that are typed without a fault fit.
use Rattle.std.proofs.Common.{◌≡◌, ℕ, ◌≤◌, Bool, List, [], ◌++◌, arith, refl, ap}
use Rattle.std.specs.List.{AllByRecursion}
use Rattle.rst_tree.specs.Trees.{Tree, Trees}
use Rattle.rst_tree.specs.Trees as expr
use Rattle.rst_tree.specs.Targets.{Place}
use Rattle.rst_tree.specs.Statements as tree
use Rattle.rst_width.specs.declared.typed_expr.Shape.{Shape}
use Rattle.rst_width.specs.Scopes.{Names, AreMeanings}
use Rattle.rst_width.specs.Typed.{shape_of}
use Rattle.rst_width.specs.Sized.{larger}
use Rattle.rst_width.specs.Reads.{HaveWidths}
use Rattle.rst_width.specs.Targets.{target_expr}
use Rattle.rst_width.specs.Answers.{own_shape, typed_answer, placed_answer}
use Rattle.rst_net.specs.declared.signal.Slice.{Slice}
use Rattle.rst_cycle.specs.Effects as run
use Rattle.rst_typing.specs.Typing.{typed_or, typed_at, answer_faults, target_answer, target_slices, target_width, typed_set, set_faults, shape_of_labels, shape_of_arms, typed_labels, label_faults, typed_stmt, typed_stmts, typed_arms, typed_default, stmt_faults, stmts_faults, arms_faults}
use Rattle.rst_statement_values.specs.Fits.{SliceInside, LabelFits, SetFits, StatementFits, AllFit, ArmsFit, DefaultFits}
use Rattle.rst_settled.specs.Designs.{IsSound, AllSound, ArmsSound, DefaultSound}
use Rattle.rst_typed_fits.specs.Kinds.{EachSet, EachSetIn, EachSetInArms, EachSetInDefault, HaveTargets, HasBits, AreSettable, AllSettable, ArmsSettable}
use Rattle.rst_typed_fits.proofs.Leaves.{none_both, at_fit, at_reads, at_fits, placed_fit, placed_fits}
use Rattle.rst_typed_fits.proofs.Slices.{slices_inside, slices_narrow, slices_whole, some_bits}
use Rattle.rst_typed_fits.proofs.Covers.{covered}

-- the shape of a case is as wide as each label and as what it began with
labels_grow : (names : Names) (start : Shape) (es : Trees) → start.width ≤ (shape_of_labels names start es).width
labels_grow names start expr.end = omega arith
labels_grow names start (expr.more e es) = omega (arith, labels_grow names (larger start (own_shape names e)) es)

arms_grow : (names : Names) (start : Shape) (arms : tree.Arms) → start.width ≤ (shape_of_arms names start arms).width
arms_grow names start tree.no_arm = omega arith
arms_grow names start (tree.labels es s others) = omega (arith, labels_grow names start es, arms_grow names (shape_of_labels names start es) others)
arms_grow names start (tree.otherwise s others) = arms_grow names start others

-- where targets can be set, each set has bits
module _ (names : Names) (right : AreMeanings names) where
  pub target_narrow : (t : Place) → answer_faults (target_answer names t) ≡ [] → run.target_width (target_slices names t) ≤ target_width names t
  target_narrow t none =
      let fit = at_fit names right (target_expr t) 0 none in
      omega (arith, slices_narrow (typed_or (target_answer names t)) fit.fit, ap (λ (s : Shape). s.width) fit.at)

  mutual
    pub stmt_targets : (s : tree.Statement) → stmt_faults names s ≡ [] → AreSettable names s → HaveTargets (typed_stmt names s)
    stmt_targets (tree.Block ss) none can = stmts_targets ss none can
    stmt_targets (tree.If c s) none can = (stmt_targets s (none_both (answer_faults (typed_answer names c 0)) (stmt_faults names s) none).1 can, tt)
    stmt_targets (tree.IfElse c s t) none can =
        let two = none_both (stmt_faults names s) (stmt_faults names t) (none_both (answer_faults (typed_answer names c 0)) (stmt_faults names s ++ stmt_faults names t) none).1 in
        (stmt_targets s two.0 can.0, stmt_targets t two.1 can.1)
    stmt_targets (tree.Case wild e arms) none can =
        let shape = shape_of_arms names (own_shape names e) arms in
        let parts = none_both (answer_faults (placed_answer names e shape)) (arms_faults names shape arms) none in
        (arms_targets shape arms parts.1 can, default_targets shape arms parts.1 can)
    stmt_targets (tree.Set t e blocking) none can =
        let fit = (at_fit names right (target_expr t) 0 (none_both (answer_faults (target_answer names t)) (answer_faults (typed_answer names e (target_width names t))) none).0).fit in
        omega (arith, slices_whole (typed_or (target_answer names t)) fit can, some_bits (typed_or (target_answer names t)) fit)
    stmt_targets tree.Empty none can = tt

    stmts_targets : (ss : tree.Statements) → stmts_faults names ss ≡ [] → AllSettable names ss → EachSetIn HasBits (typed_stmts names ss)
    stmts_targets tree.end none can = tt
    stmts_targets (tree.more s ss) none can =
        let parts = none_both (stmt_faults names s) (stmts_faults names ss) none in
        (stmt_targets s parts.0 can.0, stmts_targets ss parts.1 can.1)

    arms_targets : (shape : Shape) (arms : tree.Arms) → arms_faults names shape arms ≡ [] → ArmsSettable names arms → EachSetInArms HasBits (typed_arms names shape arms)
    arms_targets shape tree.no_arm none can = tt
    arms_targets shape (tree.labels es s others) none can =
        let two = none_both (stmt_faults names s) (arms_faults names shape others) (none_both (label_faults names shape es) (stmt_faults names s ++ arms_faults names shape others) none).1 in
        (stmt_targets s two.0 can.0, arms_targets shape others two.1 can.1)
    arms_targets shape (tree.otherwise s others) none can = arms_targets shape others (none_both (stmt_faults names s) (arms_faults names shape others) none).1 can.1

    default_targets : (shape : Shape) (arms : tree.Arms) → arms_faults names shape arms ≡ [] → ArmsSettable names arms → EachSetInDefault HasBits (typed_default names arms)
    default_targets shape tree.no_arm none can = tt
    default_targets shape (tree.labels es s others) none can =
        let two = none_both (stmt_faults names s) (arms_faults names shape others) (none_both (label_faults names shape es) (stmt_faults names s ++ arms_faults names shape others) none).1 in
        default_targets shape others two.1 can.1
    default_targets shape (tree.otherwise s others) none can = stmt_targets s (none_both (stmt_faults names s) (arms_faults names shape others) none).0 can.0

module _ (room : ℕ → ℕ) (names : Names) (right : AreMeanings names) (inside : HaveWidths room names) where
  pub target_inside : (t : Place) → answer_faults (target_answer names t) ≡ [] → AllByRecursion (SliceInside room) (target_slices names t)
  target_inside t none =
      slices_inside room (typed_or (target_answer names t)) (at_fit names right (target_expr t) 0 none).fit (at_reads room names right inside (target_expr t) 0 none)

  -- a set of slices that lie inside their signals, the value of which works at their width at least
  pub parts_fit : (target : List Slice) (e : Tree) (width : ℕ) (blocking : Bool) → AllByRecursion (SliceInside room) target → run.target_width target ≤ width → answer_faults (typed_answer names e width) ≡ []
      → SetFits room blocking (record { target = target; value = typed_at names e width; blocking = blocking })
  parts_fit target e width blocking slices wide none = record {
    value = at_fits room names right inside e width none;
    slices = slices;
    wide = omega (arith, wide, ap (λ (s : Shape). s.width) (at_fit names right e width none).at);
    kind = refl;
  }

  pub set_fits : (t : Place) (e : Tree) (blocking : Bool) → set_faults names t e ≡ [] → SetFits room blocking (typed_set names t e blocking)
  set_fits t e blocking none =
      let parts = none_both (answer_faults (target_answer names t)) (answer_faults (typed_answer names e (target_width names t))) none in
      parts_fit (target_slices names t) e (target_width names t) blocking (target_inside t parts.0) (target_narrow names right t parts.0) parts.1

  -- the labels of one arm
  labels_fit : (shape start : Shape) (w : ℕ) (es : Trees) → w ≡ shape.width → (shape_of_labels names start es).width ≤ shape.width → label_faults names shape es ≡ []
      → AllByRecursion (LabelFits room w) (typed_labels names shape es)
  labels_fit shape start w expr.end same wide none = tt
  labels_fit shape start w (expr.more e es) same wide none =
      let parts = none_both (answer_faults (placed_answer names e shape)) (label_faults names shape es) none in
      let grown = labels_grow names (larger start (own_shape names e)) es in
      let fit = placed_fit names right e shape parts.0 in (
        record {
          value = placed_fits room names right inside e shape parts.0;
          width = omega (arith, same, wide, grown, ap (λ (s : Shape). s.width) fit.at);
        },
        labels_fit shape (larger start (own_shape names e)) w es same wide parts.1,
      )

  -- the selector has the width of its case
  selector_width : (e : Tree) (arms : tree.Arms) → answer_faults (placed_answer names e (shape_of_arms names (own_shape names e) arms)) ≡ []
      → (shape_of (typed_or (placed_answer names e (shape_of_arms names (own_shape names e) arms)))).width ≡ (shape_of_arms names (own_shape names e) arms).width
  selector_width e arms none =
      let shape = shape_of_arms names (own_shape names e) arms in
      omega (arith, ap (λ (s : Shape). s.width) (placed_fit names right e shape none).at, arms_grow names (own_shape names e) arms)

  mutual
    pub stmt_fits : (b : Bool) (s : tree.Statement) → stmt_faults names s ≡ [] → EachSet (λ set. set.blocking ≡ b) (typed_stmt names s) → StatementFits room b (typed_stmt names s)
    stmt_fits b (tree.Block ss) none kind = stmts_fit b ss none kind
    stmt_fits b (tree.If c s) none kind =
        let parts = none_both (answer_faults (typed_answer names c 0)) (stmt_faults names s) none in
        (at_fits room names right inside c 0 parts.0, stmt_fits b s parts.1 kind.0, tt)
    stmt_fits b (tree.IfElse c s t) none kind =
        let parts = none_both (answer_faults (typed_answer names c 0)) (stmt_faults names s ++ stmt_faults names t) none in
        let two = none_both (stmt_faults names s) (stmt_faults names t) parts.1 in
        (at_fits room names right inside c 0 parts.0, stmt_fits b s two.0 kind.0, stmt_fits b t two.1 kind.1)
    stmt_fits b (tree.Case wild e arms) none kind =
        let shape = shape_of_arms names (own_shape names e) arms in
        let selector = typed_or (placed_answer names e shape) in
        let parts = none_both (answer_faults (placed_answer names e shape)) (arms_faults names shape arms) none in
        let fits = placed_fits room names right inside e shape parts.0 in (
          fits,
          arms_fit b shape (own_shape names e) (shape_of selector).width arms (selector_width e arms parts.0) (omega arith) parts.1 kind.0,
          default_fits b shape arms parts.1 kind.1,
          covered room names shape (own_shape names e).width selector arms (typed_default names arms) fits.fit fits.inside,
        )
    stmt_fits b (tree.Set t e blocking) none kind = let fits = set_fits t e blocking none in record { value = fits.value; slices = fits.slices; wide = fits.wide; kind = kind }
    stmt_fits b tree.Empty none kind = tt

    stmts_fit : (b : Bool) (ss : tree.Statements) → stmts_faults names ss ≡ [] → EachSetIn (λ set. set.blocking ≡ b) (typed_stmts names ss) → AllFit room b (typed_stmts names ss)
    stmts_fit b tree.end none kind = tt
    stmts_fit b (tree.more s ss) none kind =
        let parts = none_both (stmt_faults names s) (stmts_faults names ss) none in
        (stmt_fits b s parts.0 kind.0, stmts_fit b ss parts.1 kind.1)

    arms_fit : (b : Bool) (shape start : Shape) (w : ℕ) (arms : tree.Arms) → w ≡ shape.width → (shape_of_arms names start arms).width ≤ shape.width → arms_faults names shape arms ≡ []
        → EachSetInArms (λ set. set.blocking ≡ b) (typed_arms names shape arms) → ArmsFit room b w (typed_arms names shape arms)
    arms_fit b shape start w tree.no_arm same wide none kind = tt
    arms_fit b shape start w (tree.labels es s others) same wide none kind =
        let parts = none_both (label_faults names shape es) (stmt_faults names s ++ arms_faults names shape others) none in
        let two = none_both (stmt_faults names s) (arms_faults names shape others) parts.1 in (
          labels_fit shape start w es same (omega (arith, wide, arms_grow names (shape_of_labels names start es) others)) parts.0,
          stmt_fits b s two.0 kind.0,
          arms_fit b shape (shape_of_labels names start es) w others same wide two.1 kind.1,
        )
    arms_fit b shape start w (tree.otherwise s others) same wide none kind =
        let two = none_both (stmt_faults names s) (arms_faults names shape others) none in
        arms_fit b shape start w others same wide two.1 kind

    default_fits : (b : Bool) (shape : Shape) (arms : tree.Arms) → arms_faults names shape arms ≡ [] → EachSetInDefault (λ set. set.blocking ≡ b) (typed_default names arms) → DefaultFits room b (typed_default names arms)
    default_fits b shape tree.no_arm none kind = tt
    default_fits b shape (tree.labels es s others) none kind =
        let parts = none_both (label_faults names shape es) (stmt_faults names s ++ arms_faults names shape others) none in
        let two = none_both (stmt_faults names s) (arms_faults names shape others) parts.1 in
        default_fits b shape others two.1 kind
    default_fits b shape (tree.otherwise s others) none kind =
        let two = none_both (stmt_faults names s) (arms_faults names shape others) none in
        stmt_fits b s two.0 kind

  mutual
    pub stmt_sound : (s : tree.Statement) → stmt_faults names s ≡ [] → IsSound room (typed_stmt names s)
    stmt_sound (tree.Block ss) none = stmts_sound ss none
    stmt_sound (tree.If c s) none = (stmt_sound s (none_both (answer_faults (typed_answer names c 0)) (stmt_faults names s) none).1, tt)
    stmt_sound (tree.IfElse c s t) none =
        let two = none_both (stmt_faults names s) (stmt_faults names t) (none_both (answer_faults (typed_answer names c 0)) (stmt_faults names s ++ stmt_faults names t) none).1 in
        (stmt_sound s two.0, stmt_sound t two.1)
    stmt_sound (tree.Case wild e arms) none =
        let shape = shape_of_arms names (own_shape names e) arms in
        let parts = none_both (answer_faults (placed_answer names e shape)) (arms_faults names shape arms) none in
        let fits = placed_fits room names right inside e shape parts.0 in (
          arms_sound shape arms parts.1,
          default_sound shape arms parts.1,
          covered room names shape (own_shape names e).width (typed_or (placed_answer names e shape)) arms (typed_default names arms) fits.fit fits.inside,
        )
    stmt_sound (tree.Set t e blocking) none = (set_fits t e blocking none).slices
    stmt_sound tree.Empty none = tt

    stmts_sound : (ss : tree.Statements) → stmts_faults names ss ≡ [] → AllSound room (typed_stmts names ss)
    stmts_sound tree.end none = tt
    stmts_sound (tree.more s ss) none =
        let parts = none_both (stmt_faults names s) (stmts_faults names ss) none in
        (stmt_sound s parts.0, stmts_sound ss parts.1)

    arms_sound : (shape : Shape) (arms : tree.Arms) → arms_faults names shape arms ≡ [] → ArmsSound room (typed_arms names shape arms)
    arms_sound shape tree.no_arm none = tt
    arms_sound shape (tree.labels es s others) none =
        let two = none_both (stmt_faults names s) (arms_faults names shape others) (none_both (label_faults names shape es) (stmt_faults names s ++ arms_faults names shape others) none).1 in
        (stmt_sound s two.0, arms_sound shape others two.1)
    arms_sound shape (tree.otherwise s others) none = arms_sound shape others (none_both (stmt_faults names s) (arms_faults names shape others) none).1

    default_sound : (shape : Shape) (arms : tree.Arms) → arms_faults names shape arms ≡ [] → DefaultSound room (typed_default names arms)
    default_sound shape tree.no_arm none = tt
    default_sound shape (tree.labels es s others) none =
        let two = none_both (stmt_faults names s) (arms_faults names shape others) (none_both (label_faults names shape es) (stmt_faults names s ++ arms_faults names shape others) none).1 in
        default_sound shape others two.1
    default_sound shape (tree.otherwise s others) none = stmt_sound s (none_both (stmt_faults names s) (arms_faults names shape others) none).0
