-- Sizing a target, and what stands in its typed form.
use Rattle.std.proofs.Common.{◌≡◌, ◌∙◌, ℕ, ◌+◌, ◌<◌, ◌≤◌, Bool, true, false, cond, not, ◌||◌, Ok, Err, Some, None, Option, suc, List, length, drop, get_or, ap, sym, arith, nat_lt, Result}
use Rattle.std.specs.Prelude.{IfOk, ℤ, int_le, ◌-ℤ◌, unsigned_abs}
use Rattle.std.proofs.lemmas.Bool.{le-ltb}
use Rattle.std.proofs.lemmas.List.{at_drop_more, at_drop_all}
use Rattle.rst_tree.specs.declared.expr.Target.{Target}
use Rattle.rst_tree.specs.Trees.{Text}
use Rattle.rst_tree.specs.Targets.{Place, Places, Whole, Bit, Part, Join, end, more, plain_target, plain_targets}
use Rattle.rst_width.specs.declared.typed_expr.Shape.{Shape}
use Rattle.rst_width.specs.declared.typed_expr.WidthFault.{WidthFault}
use Rattle.rst_width.specs.declared.typed_expr.WidthFault.TheVariants.{NoName, TooWide, BadSelect, NotConstant, MayLeaveRange}
use Rattle.rst_width.specs.Scopes.{Names, Meaning, Extent, Signal, Param, Later}
use Rattle.rst_width.specs.Typed.{Typed, Node, TypedList}
use Rattle.rst_width.specs.Typed as node
use Rattle.rst_width.specs.Values.{constant_number}
use Rattle.rst_width.specs.Sized.{Answer, Sized, Found, Leaf, Earlier, Own, Good, by_itself, own}
use Rattle.rst_width.specs.Selects.{bit_found, part_of, part_found, number_of_part, stays_inside, in_range, place_in, leaves_range, open_shape}
use Rattle.rst_width.specs.Sizing.{Parts, one_bit, named, with_part, join_found, sized, sized_parts}
use Rattle.rst_width.specs.Targets.{target_expr, target_exprs, IsPlace, IsPlaceNode, ArePlaces}
use Rattle.rst_width.specs.Cut.{cut, with_next}
use Rattle.rst_width.proofs.Fits.{bind}
use Rattle.rst_width.proofs.SizingCuts.{followed_by, followed_by-next, followed_by-all}

module _ (names : Names) where
  -- one turn of the loop over parts
  pub next_place : (xs : List Target) (i : ℕ) (x : Target) (front front' : Parts) (s : Sized) → i < length xs → x ≡ get_or xs i x → front' ≡ with_next front s → s ≡ cut (sized false names (target_expr (plain_target x)))
      → followed_by front' (sized_parts false names (target_exprs (plain_targets (drop (i + 1) xs)))) ≡ followed_by front (sized_parts false names (target_exprs (plain_targets (drop i xs))))
  next_place xs i x front front' s inside item next is =
      let rest = sized_parts false names (target_exprs (plain_targets (drop (i + 1) xs))) in
      let here : sized_parts false names (target_exprs (plain_targets (drop i xs))) ≡ with_part (sized false names (target_expr (plain_target x))) rest =
      at_drop_more (λ (ys : List Target). sized_parts false names (target_exprs (plain_targets ys))) xs i x inside ∙ ap (λ (y : Target). with_part (sized false names (target_expr (plain_target y))) rest) (sym item) in
      ap (λ (f : Parts). followed_by f rest) next ∙ ap (λ (z : Sized). followed_by (with_next front z) rest) is
      ∙ followed_by-next front (sized false names (target_expr (plain_target x))) rest ∙ ap (followed_by front) (sym here)

  -- behind the last turn
  pub all_places : (xs : List Target) (i : ℕ) (front total : Parts) → length xs ≤ i → front.width ≤ 65 → followed_by front (sized_parts false names (target_exprs (plain_targets (drop i xs)))) ≡ total → front ≡ total
  all_places xs i front total behind small is =
      sym (followed_by-all front small) ∙ ap (followed_by front) (sym (at_drop_all (λ (ys : List Target). sized_parts false names (target_exprs (plain_targets ys))) xs i behind)) ∙ is

-- what can stand at a leaf of a target
abbrev pub FoundPlace : Found → Type 0
FoundPlace (Earlier fault) = Unit {0}
FoundPlace (Own fault) = Unit {0}
FoundPlace (Good n) = IsPlaceNode n

either : (b : Bool) (x y : Found) → FoundPlace x → FoundPlace y → FoundPlace (cond b x y)
either true x y h k = h
either false x y h k = k

leaf-place : (shape : Shape) (found : Found) → FoundPlace found → IfOk (by_itself (Leaf shape found)) IsPlace
leaf-place shape (Earlier fault) h = tt
leaf-place shape (Own fault) h =
    elim (nat_lt 64 shape.width) as (λ b. IfOk (cond b (Err TooWide) (Err fault)) IsPlace) [ true ↦ tt | false ↦ tt ]
leaf-place shape (Good n) h =
    let same : nat_lt shape.width shape.width ≡ false = le-ltb shape.width shape.width (omega arith) in
    rw same (elim (nat_lt 64 shape.width) as (λ b. IfOk (cond b (Err TooWide) (Ok (node.typed shape n))) IsPlace) [ true ↦ tt | false ↦ h ])

named-place : (name : Text) (m : Option Meaning) → IfOk (by_itself (named false name m)) IsPlace
named-place name None = leaf-place open_shape (Earlier (NoName name)) tt
named-place name (Some (Signal i extent)) = leaf-place (node.sized_as extent.width extent.signed) (Good (node.Signal i)) tt
named-place name (Some (Param w)) = leaf-place (node.sized_as w.width w.signed) (Good (node.Word w)) tt
named-place name (Some (Later ranged)) = leaf-place open_shape (Own NotConstant) tt

bit-place : (name : Text) (m : Option Meaning) (index : Answer) → FoundPlace (bit_found false name m index)
bit-place name m (Err fault) = tt
bit-place name None (Ok index) = tt
bit-place name (Some (Param w)) (Ok index) = tt
bit-place name (Some (Later ranged)) (Ok index) = tt
bit-place name (Some (Signal i extent)) (Ok index) =
    either (not extent.ranged) _ _ tt
    (either (node.names_signal index) _ _
    (either (stays_inside extent (node.shape_of index)) (Good (node.Pick i index)) (Own MayLeaveRange) tt tt)
    (either (in_range extent (constant_number index)) _ (Own BadSelect) tt tt))

part_of-place : (i : ℕ) (extent : Extent) (high low : Option ℤ) → FoundPlace (part_of false i extent high low)
part_of-place i extent (Some high) (Some low) =
    either (not extent.ranged || (leaves_range extent (Some high) || (leaves_range extent (Some low) || not (int_le low high)))) (Own BadSelect)
    (Good (node.Slice i (place_in extent low) (suc (unsigned_abs (high -ℤ low))))) tt tt
part_of-place i extent (Some high) None = either _ (Own BadSelect) (Own NotConstant) tt tt
part_of-place i extent None low = either _ (Own BadSelect) (Own NotConstant) tt tt

part-place : (name : Text) (m : Option Meaning) (high low : Answer) → FoundPlace (part_found false name m high low)
part-place name m (Err fault) low = tt
part-place name m (Ok high) (Err fault) = tt
part-place name None (Ok high) (Ok low) = tt
part-place name (Some (Param w)) (Ok high) (Ok low) = tt
part-place name (Some (Later ranged)) (Ok high) (Ok low) = tt
part-place name (Some (Signal i extent)) (Ok high) (Ok low) = part_of-place i extent (number_of_part (Ok high)) (number_of_part (Ok low))

join-place : (list : Result TypedList WidthFault) → IfOk list ArePlaces → FoundPlace (join_found list)
join-place (Err fault) h = tt
join-place (Ok node.end) h = tt
join-place (Ok (node.more x xs)) h = h

mutual
  pub target-place : (names : Names) (p : Place) → IfOk (by_itself (sized false names (target_expr p))) IsPlace
  target-place names (Whole n) = named-place n (names n)
  target-place names (Bit n i) = leaf-place one_bit (bit_found false n (names n) (by_itself (sized false names i))) (bit-place n (names n) (by_itself (sized false names i)))
  target-place names (Part n h l) =
      leaf-place (own (sized false names (target_expr (Part n h l)))) (part_found false n (names n) (by_itself (sized false names h)) (by_itself (sized false names l)))
      (part-place n (names n) (by_itself (sized false names h)) (by_itself (sized false names l)))
  target-place names (Join ps) =
      leaf-place (own (sized false names (target_expr (Join ps)))) (join_found (sized_parts false names (target_exprs ps)).list)
      (join-place (sized_parts false names (target_exprs ps)).list (target-places names ps))

  pub target-places : (names : Names) (ps : Places) → IfOk (sized_parts false names (target_exprs ps)).list ArePlaces
  target-places names end = tt
  target-places names (more p ps) =
      bind IsPlace ArePlaces (by_itself (sized false names (target_expr p))) _ (target-place names p)
      (λ x h. bind ArePlaces ArePlaces (sized_parts false names (target_exprs ps)).list _ (target-places names ps) (λ xs k. (h, k)))
