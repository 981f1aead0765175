-- A target is typed as the expression of the same text.
use Rattle.rst_tree.specs.Trees.{Tree, Trees}
use Rattle.rst_tree.specs.Trees as tree
use Rattle.rst_tree.specs.Targets.{Place, Places, Whole, Bit, Part, Join, end, more}
use Rattle.rst_width.specs.Typed.{Typed, Node, TypedList}
use Rattle.rst_width.specs.Typed as node

abbrev mutual
  pub target_expr : Place → Tree
  target_expr (Whole n) = tree.Name n
  target_expr (Bit n i) = tree.Bit n i
  target_expr (Part n h l) = tree.Part n h l
  target_expr (Join ps) = tree.Join (target_exprs ps)

  pub target_exprs : Places → Trees
  target_exprs end = tree.end
  target_exprs (more p ps) = tree.more (target_expr p) (target_exprs ps)

-- What can stand in the typed form of a target: signals, slices of them, bits with a variable index, parameters, and joins of these.
abbrev mutual
  pub IsPlace : Typed → Type 0
  IsPlace (node.typed shape n) = IsPlaceNode n

  pub IsPlaceNode : Node → Type 0
  IsPlaceNode (node.Word w) = Unit {0}
  IsPlaceNode (node.Signal i) = Unit {0}
  IsPlaceNode (node.Slice i low width) = Unit {0}
  IsPlaceNode (node.Pick i e) = Unit {0}
  IsPlaceNode (node.Join es) = ArePlaces es
  IsPlaceNode _ = ⊥

  pub ArePlaces : TypedList → Type 0
  ArePlaces node.end = Unit {0}
  ArePlaces (node.more x xs) = IsPlace x × ArePlaces xs
