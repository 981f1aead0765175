-- What expressions and statements read. Right sides, conditions, selectors, labels and indices are read. A whole name and a select
-- with a variable index read all bits of their signal, a select with constant places the selected bits.
use Rattle.std.specs.Prelude.{ℕ, Bool, List, [], ◌∷◌, ◌++◌}
use Rattle.rst_width.specs.Typed.{Typed, TypedList, Node, typed}
use Rattle.rst_width.specs.Typed as node
use Rattle.rst_net.specs.declared.signal.Slice as parts
use Rattle.rst_net.specs.Statements.{Label, Statement, Statements, Arms, Default, Block, If, Case, Set, Empty, end, more, no_arm, arm, no_default, default}
use Rattle.rst_net.specs.Units.{PlainDriver, Assign, Process}
use Rattle.rst_cycle.specs.Drivers.{target_has}

-- all bits of a signal: none is wider
abbrev pub whole : ℕ → parts.Slice
whole i = record { signal = i; low = 0; width = 64 }

abbrev mutual
  -- what an expression reads, in the order of the text
  pub reads_of : Typed → List parts.Slice
  reads_of (typed shape n) = node_reads n

  pub node_reads : Node → List parts.Slice
  node_reads (node.Word w) = []
  node_reads (node.Signal i) = whole i ∷ []
  node_reads (node.Slice i low width) = record { signal = i; low = low; width = width } ∷ []
  node_reads (node.Pick i e) = whole i ∷ reads_of e
  node_reads (node.Unary op e) = reads_of e
  node_reads (node.Binary op a b) = reads_of a ++ reads_of b
  node_reads (node.Choose c a b) = reads_of c ++ (reads_of a ++ reads_of b)
  node_reads (node.Join es) = list_reads es
  node_reads (node.Repeat count es) = list_reads es
  node_reads (node.Extend e) = reads_of e
  node_reads (node.Sign e) = reads_of e

  pub list_reads : TypedList → List parts.Slice
  list_reads node.end = []
  list_reads (node.more e es) = reads_of e ++ list_reads es

abbrev pub label_reads : List Label → List parts.Slice
label_reads [] = []
label_reads (label ∷ labels) = reads_of label.value ++ label_reads labels

abbrev mutual
  -- what a statement reads, in the order of the text, a default behind the arms of its case
  pub reads_in : Statement → List parts.Slice
  reads_in (Block statements) = reads_in_all statements
  reads_in (If condition first second) = reads_of condition ++ (reads_in first ++ reads_in second)
  reads_in (Case selector arms otherwise full) = reads_of selector ++ (reads_in_arms arms ++ reads_in_default otherwise)
  reads_in (Set set) = reads_of set.value
  reads_in Empty = []

  pub reads_in_all : Statements → List parts.Slice
  reads_in_all end = []
  reads_in_all (more statement statements) = reads_in statement ++ reads_in_all statements

  pub reads_in_arms : Arms → List parts.Slice
  reads_in_arms no_arm = []
  reads_in_arms (arm labels body arms) = label_reads labels ++ (reads_in body ++ reads_in_arms arms)

  pub reads_in_default : Default → List parts.Slice
  reads_in_default no_default = []
  reads_in_default (default statement) = reads_in statement

abbrev pub unit_reads : PlainDriver → List parts.Slice
unit_reads (Assign set) = reads_of set.value
unit_reads (Process process) = reads_in process.body

-- whether an expression reads a bit
abbrev pub reads : Typed → ℕ → ℕ → Bool
reads e i place = target_has (reads_of e) i place
