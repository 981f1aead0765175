-- Names, and the names that an expression, a target or a statement uses, in the order of the text.
use Rattle.std.specs.Prelude.{nat_eq, Bool, cond, List, [], ◌∷◌, ◌++◌, Option, Some, None}
use Rattle.std.specs.List.{list_any}
use Rattle.std.specs.Cmp.Lexicographic.{pointwise}
use Rattle.rst_tree.specs.Trees.{Text, Tree, Trees}
use Rattle.rst_tree.specs.Trees as tree
use Rattle.rst_tree.specs.Targets.{Place, Places}
use Rattle.rst_tree.specs.Targets as target
use Rattle.rst_tree.specs.Statements.{Statement, Statements, Arms}
use Rattle.rst_tree.specs.Statements as stmt

abbrev pub same_text : Text → Text → Bool
same_text a b = pointwise nat_eq a b

abbrev pub is_among : List Text → Text → Bool
is_among names name = list_any (λ n. same_text n name) names

-- The names of a list that stand before themselves in it, or among earlier ones.
abbrev pub repeats : List Text → List Text → List Text
repeats earlier [] = []
repeats earlier (x ∷ xs) = cond (is_among earlier x) (x ∷ []) [] ++ repeats (earlier ++ x ∷ []) xs

-- what is made of a part, where it is there
abbrev pub if_any : {X Y : Type 0} → (X → List Y) → Option X → List Y
if_any f None = []
if_any f (Some x) = f x

-- The names of an expression.
abbrev mutual
  pub names_in : Tree → List Text
  names_in (tree.Number n) = []
  names_in (tree.Name n) = n ∷ []
  names_in (tree.Bit n i) = n ∷ names_in i
  names_in (tree.Part n h l) = n ∷ (names_in h ++ names_in l)
  names_in (tree.Paren e) = names_in e
  names_in (tree.Unary op e) = names_in e
  names_in (tree.Binary op a b) = names_in a ++ names_in b
  names_in (tree.Choose c a b) = names_in c ++ (names_in a ++ names_in b)
  names_in (tree.Join es) = names_in_all es
  names_in (tree.Repeat n es) = names_in n ++ names_in_all es
  names_in (tree.Signed e) = names_in e
  names_in (tree.Unsigned e) = names_in e

  pub names_in_all : Trees → List Text
  names_in_all tree.end = []
  names_in_all (tree.more x xs) = names_in x ++ names_in_all xs

-- The names of a target.
abbrev mutual
  pub names_in_target : Place → List Text
  names_in_target (target.Whole n) = n ∷ []
  names_in_target (target.Bit n i) = n ∷ names_in i
  names_in_target (target.Part n h l) = n ∷ (names_in h ++ names_in l)
  names_in_target (target.Join ts) = names_in_targets ts

  pub names_in_targets : Places → List Text
  names_in_targets target.end = []
  names_in_targets (target.more t ts) = names_in_target t ++ names_in_targets ts

-- The names of a statement.
abbrev mutual
  pub names_in_stmt : Statement → List Text
  names_in_stmt (stmt.Block ss) = names_in_stmts ss
  names_in_stmt (stmt.If c s) = names_in c ++ names_in_stmt s
  names_in_stmt (stmt.IfElse c s t) = names_in c ++ (names_in_stmt s ++ names_in_stmt t)
  names_in_stmt (stmt.Case wild e arms) = names_in e ++ names_in_arms arms
  names_in_stmt (stmt.Set t e blocking) = names_in_target t ++ names_in e
  names_in_stmt stmt.Empty = []

  pub names_in_stmts : Statements → List Text
  names_in_stmts stmt.end = []
  names_in_stmts (stmt.more s ss) = names_in_stmt s ++ names_in_stmts ss

  pub names_in_arms : Arms → List Text
  names_in_arms stmt.no_arm = []
  names_in_arms (stmt.labels es s others) = names_in_all es ++ (names_in_stmt s ++ names_in_arms others)
  names_in_arms (stmt.otherwise s others) = names_in_stmt s ++ names_in_arms others
