-- Statements whose sets are of one kind, and whose sets have targets.
use Rattle.std.specs.Prelude.{◌≡◌, ◌<◌, Bool, true}
use Rattle.rst_tree.specs.Statements as tree
use Rattle.rst_width.specs.Scopes.{Names}
use Rattle.rst_net.specs.Statements.{PlainSet, Statement, Statements, Arms, Default, Block, If, Case, Set, Empty, end, more, no_arm, arm, no_default, default}
use Rattle.rst_cycle.specs.Effects.{target_width}
use Rattle.rst_typing.specs.Typing.{typed_or, target_answer, is_settable}

-- P holds of each set of a statement
abbrev mutual
  pub EachSet : (PlainSet → Type 0) → Statement → Type 0
  EachSet P (Block statements) = EachSetIn P statements
  EachSet P (If condition first second) = EachSet P first × EachSet P second
  EachSet P (Case selector arms otherwise full) = EachSetInArms P arms × EachSetInDefault P otherwise
  EachSet P (Set set) = P set
  EachSet P Empty = Unit {0}

  pub EachSetIn : (PlainSet → Type 0) → Statements → Type 0
  EachSetIn P end = Unit {0}
  EachSetIn P (more statement statements) = EachSet P statement × EachSetIn P statements

  pub EachSetInArms : (PlainSet → Type 0) → Arms → Type 0
  EachSetInArms P no_arm = Unit {0}
  EachSetInArms P (arm labels body arms) = EachSet P body × EachSetInArms P arms

  pub EachSetInDefault : (PlainSet → Type 0) → Default → Type 0
  EachSetInDefault P no_default = Unit {0}
  EachSetInDefault P (default statement) = EachSet P statement

-- each set is blocking, or each is nonblocking
abbrev pub HaveKind : Bool → Statement → Type 0
HaveKind blocking s = EachSet (λ set. set.blocking ≡ blocking) s

-- a set has bits to set, and each set of a statement has
abbrev pub HasBits : PlainSet → Type 0
HasBits set = 0 < target_width set.target

abbrev pub HaveTargets : Statement → Type 0
HaveTargets s = EachSet HasBits s

-- each target of a statement of the tree can be set
abbrev mutual
  pub AreSettable : Names → tree.Statement → Type 0
  AreSettable names (tree.Block ss) = AllSettable names ss
  AreSettable names (tree.If c s) = AreSettable names s
  AreSettable names (tree.IfElse c s t) = AreSettable names s × AreSettable names t
  AreSettable names (tree.Case wild e arms) = ArmsSettable names arms
  AreSettable names (tree.Set t e blocking) = is_settable (typed_or (target_answer names t)) ≡ true
  AreSettable names tree.Empty = Unit {0}

  pub AllSettable : Names → tree.Statements → Type 0
  AllSettable names tree.end = Unit {0}
  AllSettable names (tree.more s ss) = AreSettable names s × AllSettable names ss

  pub ArmsSettable : Names → tree.Arms → Type 0
  ArmsSettable names tree.no_arm = Unit {0}
  ArmsSettable names (tree.labels es s others) = AreSettable names s × ArmsSettable names others
  ArmsSettable names (tree.otherwise s others) = AreSettable names s × ArmsSettable names others
