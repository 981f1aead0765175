-- The signals that the typed form of a target sets: those of its names.
use Rattle.std.proofs.Common.{◌≡◌, ℕ, Bool, true, false, cond, not, ◌&&◌, ◌||◌, Ok, Err, Some, None, Option, suc, List, [], ◌∷◌, refl, subst, nat_lt, Result, inl, inr}
use Rattle.std.specs.Prelude.{IfOk, ℤ, int_le, ◌-ℤ◌, unsigned_abs}
use Rattle.std.specs.List.{AllByRecursion, list_any}
use Rattle.std.proofs.lemmas.Bool.{and_parts, or_cases, or_parts, not-false, eqb-true}
use Rattle.rst_tree.specs.Trees.{Text, Tree, Trees}
use Rattle.rst_tree.specs.Trees as tree
use Rattle.rst_tree.specs.Targets.{Place, Places, Whole, Bit, Part, Join, end, more}
use Rattle.rst_tree.specs.Statements as stmt
use Rattle.rst_width.specs.declared.typed_expr.Shape.{Shape}
use Rattle.rst_width.specs.declared.typed_expr.WidthFault.{WidthFault}
use Rattle.rst_width.specs.declared.typed_expr.WidthFault.TheVariants.{NoName, TooWide, BadSelect, NotConstant, MayLeaveRange}
use Rattle.rst_width.specs.Scopes.{Names, Meaning, Extent, Signal, Param, Later}
use Rattle.rst_width.specs.Typed.{Typed, Node, TypedList}
use Rattle.rst_width.specs.Typed as node
use Rattle.rst_width.specs.Values.{constant_number}
use Rattle.rst_width.specs.Sized.{Answer, Found, Leaf, Earlier, Own, Good, by_itself, in_context, brought, own}
use Rattle.rst_width.specs.Selects.{bit_found, part_of, part_found, number_of_part, stays_inside, in_range, place_in, leaves_range, open_shape}
use Rattle.rst_width.specs.Sizing.{one_bit, named, join_found, sized, sized_parts}
use Rattle.rst_width.specs.Answers.{own_shape, typed_answer, widened_shape}
use Rattle.rst_width.specs.Targets.{target_expr, target_exprs}
use Rattle.rst_width.proofs.Fits.{bind}
use Rattle.rst_net.specs.declared.signal.Slice.{Slice}
use Rattle.rst_typing.specs.Typing.{slices_of, slices_at, slices_of_all, typed_or, typed_at, target_slices, typed_stmt, typed_stmts, typed_arms, typed_default, shape_of_arms}
use Rattle.rst_items.specs.ItemRows.{sets_all, all_set, is_target_of, are_targets_of, is_bad_target, has_bad_set, have_bad_set, arms_have_bad_set}
use Rattle.rst_items.specs.ResetForms.{ResetForm, bare_stmt}
use Rattle.rst_items.specs.Items.{clocked_body}
use Rattle.rst_drivers.specs.Drives.{is_of, sets_of, sets_of_all, sets_of_arms, sets_of_default}
use Rattle.rst_accepted_units.proofs.Lists.{each_joined}

-- each slice is of a signal that passes
module _ (P : ℕ → Type 0) where
  abbrev pub Of : Slice → Type 0
  Of s = P s.signal

  abbrev pub AllOf : List Slice → Type 0
  AllOf slices = AllByRecursion Of slices

  abbrev OfTyped : Typed → Type 0
  OfTyped t = AllOf (slices_of t)

  abbrev OfList : TypedList → Type 0
  OfList ts = AllOf (slices_of_all ts)

  -- what can stand at a leaf of a target
  abbrev OfFound : Found → Type 0
  OfFound (Earlier fault) = Unit {0}
  OfFound (Own fault) = Unit {0}
  OfFound (Good n) = (shape : Shape) → AllOf (slices_at shape n)

  either : (b : Bool) (x y : Found) → OfFound x → OfFound y → OfFound (cond b x y)
  either true x y h k = h
  either false x y h k = k

  leaf-of : (shape context : Shape) (found : Found) → OfFound found → IfOk (in_context true (Leaf shape found) context) OfTyped
  leaf-of shape context (Earlier fault) h = tt
  leaf-of shape context (Own fault) h =
      elim (nat_lt 64 context.width) as (λ b. IfOk (cond b (Err TooWide) (Err fault)) OfTyped) [ true ↦ tt | false ↦ tt ]
  leaf-of shape context (Good n) h =
      elim (nat_lt 64 context.width) as (λ b. IfOk (cond b (Err TooWide) (Ok (brought shape n context))) OfTyped) [
        | true ↦ tt
        | false ↦ elim (nat_lt shape.width context.width) as (λ b. OfTyped (cond b (node.typed context (node.Extend (node.typed shape n))) (node.typed context n))) [
          | true ↦ tt
          | false ↦ h context
        ]
      ]

  -- a name whose signals pass
  abbrev pub Passes : Option Meaning → Type 0
  Passes m = (i : ℕ) (x : Extent) → m ≡ Some (Signal i x) → P i

  named-of : (context : Shape) (name : Text) (m : Option Meaning) → Passes m → IfOk (in_context true (named false name m) context) OfTyped
  named-of context name None h = leaf-of open_shape context (Earlier (NoName name)) tt
  named-of context name (Some (Signal i extent)) h = leaf-of (node.sized_as extent.width extent.signed) context (Good (node.Signal i)) (λ shape. (h i extent refl, tt))
  named-of context name (Some (Param w)) h = leaf-of (node.sized_as w.width w.signed) context (Good (node.Word w)) (λ shape. tt)
  named-of context name (Some (Later ranged)) h = leaf-of open_shape context (Own NotConstant) tt

  bit-of : (name : Text) (m : Option Meaning) (index : Answer) → Passes m → OfFound (bit_found false name m index)
  bit-of name m (Err fault) h = tt
  bit-of name None (Ok index) h = tt
  bit-of name (Some (Param w)) (Ok index) h = tt
  bit-of name (Some (Later ranged)) (Ok index) h = tt
  bit-of name (Some (Signal i extent)) (Ok index) h =
      either (not extent.ranged) _ _ tt
      (either (node.names_signal index) _ _
      (either (stays_inside extent (node.shape_of index)) (Good (node.Pick i index)) (Own MayLeaveRange) (λ shape. tt) tt)
      (either (in_range extent (constant_number index)) (Good (node.Slice i (place_in extent (constant_number index)) 1)) (Own BadSelect) (λ shape. (h i extent refl, tt)) tt))

  part_of-of : (i : ℕ) (extent : Extent) (high low : Option ℤ) → P i → OfFound (part_of false i extent high low)
  part_of-of i extent (Some high) (Some low) h =
      either (not extent.ranged || (leaves_range extent (Some high) || (leaves_range extent (Some low) || not (int_le low high)))) (Own BadSelect)
      (Good (node.Slice i (place_in extent low) (suc (unsigned_abs (high -ℤ low))))) tt (λ shape. (h, tt))
  part_of-of i extent (Some high) None h = either _ (Own BadSelect) (Own NotConstant) tt tt
  part_of-of i extent None low h = either _ (Own BadSelect) (Own NotConstant) tt tt

  part-of : (name : Text) (m : Option Meaning) (high low : Answer) → Passes m → OfFound (part_found false name m high low)
  part-of name m (Err fault) low h = tt
  part-of name m (Ok high) (Err fault) h = tt
  part-of name None (Ok high) (Ok low) h = tt
  part-of name (Some (Param w)) (Ok high) (Ok low) h = tt
  part-of name (Some (Later ranged)) (Ok high) (Ok low) h = tt
  part-of name (Some (Signal i extent)) (Ok high) (Ok low) h = part_of-of i extent (number_of_part (Ok high)) (number_of_part (Ok low)) (h i extent refl)

  join-of : (list : Result TypedList WidthFault) → IfOk list OfList → OfFound (join_found list)
  join-of (Err fault) h = tt
  join-of (Ok node.end) h = tt
  join-of (Ok (node.more x xs)) h = λ shape. h

  -- ---- an expression in the form of a target, all names of which are of a kind

  module _ (names : Names) (kind : Text → Bool) (right : (n : Text) → kind n ≡ true → Passes (names n)) where
    mutual
      sized-of : (e : Tree) (context : Shape) → is_target_of kind e ≡ true → IfOk (in_context true (sized false names e) context) OfTyped
      sized-of (tree.Name n) context h = named-of context n (names n) (right n h)
      sized-of (tree.Bit n i) context h = leaf-of one_bit context (bit_found false n (names n) (by_itself (sized false names i))) (bit-of n (names n) (by_itself (sized false names i)) (right n h))
      sized-of (tree.Part n high low) context h =
          leaf-of (own (sized false names (tree.Part n high low))) context (part_found false n (names n) (by_itself (sized false names high)) (by_itself (sized false names low)))
          (part-of n (names n) (by_itself (sized false names high)) (by_itself (sized false names low)) (right n h))
      sized-of (tree.Join es) context h =
          leaf-of (own (sized false names (tree.Join es))) context (join_found (sized_parts false names es).list) (join-of (sized_parts false names es).list (parts-of es h))
      sized-of (tree.Number n) context h = absurd cc
      sized-of (tree.Paren e) context h = absurd cc
      sized-of (tree.Unary op e) context h = absurd cc
      sized-of (tree.Binary op a b) context h = absurd cc
      sized-of (tree.Choose c a b) context h = absurd cc
      sized-of (tree.Repeat n es) context h = absurd cc
      sized-of (tree.Signed e) context h = absurd cc
      sized-of (tree.Unsigned e) context h = absurd cc

      parts-of : (es : Trees) → are_targets_of kind es ≡ true → IfOk (sized_parts false names es).list OfList
      parts-of tree.end h = tt
      parts-of (tree.more x xs) h =
          let both = and_parts (is_target_of kind x) (are_targets_of kind xs) h in
          bind OfTyped OfList (by_itself (sized false names x)) _ (sized-of x (own (sized false names x)) both.0)
          (λ t f. bind OfList OfList (sized_parts false names xs).list _ (parts-of xs both.1) (λ ts g. each_joined Of (slices_of t) (slices_of_all ts) f g))

    or_default : (a : Answer) → IfOk a OfTyped → OfTyped (typed_or a)
    or_default (Ok t) h = h
    or_default (Err fault) h = tt

    pub tree_slices : (e : Tree) → is_target_of kind e ≡ true → AllOf (slices_of (typed_at names e 0))
    tree_slices e h = or_default (typed_answer names e 0) (sized-of e (widened_shape (own (sized false names e)) 0) h)

    -- ---- a target is the expression of the same text

    mutual
      same_test : (t : Place) → sets_all kind t ≡ true → is_target_of kind (target_expr t) ≡ true
      same_test (Whole n) h = h
      same_test (Bit n i) h = h
      same_test (Part n high low) h = h
      same_test (Join ts) h = same_tests ts h

      same_tests : (ts : Places) → all_set kind ts ≡ true → are_targets_of kind (target_exprs ts) ≡ true
      same_tests end h = h
      same_tests (more t ts) h =
          let both = and_parts (sets_all kind t) (all_set kind ts) h in
          two (is_target_of kind (target_expr t)) (are_targets_of kind (target_exprs ts)) (same_test t both.0) (same_tests ts both.1)
        where
          two : (a b : Bool) → a ≡ true → b ≡ true → (a && b) ≡ true
          two true b e f = f
          two false b e f = e

    pub place_slices : (t : Place) → is_bad_target names kind t ≡ false → AllOf (target_slices names t)
    place_slices t h = tree_slices (target_expr t) (same_test t (not-false (sets_all kind t) (or_parts (not (sets_all kind t)) _ h).0))

    -- ---- and so are the targets of the sets of a statement

    mutual
      pub stmt_slices : (s : stmt.Statement) → has_bad_set names kind s ≡ false → AllOf (sets_of (typed_stmt names s))
      stmt_slices (stmt.Block ss) h = stmts_slices ss h
      stmt_slices (stmt.If c s) h = each_joined Of (sets_of (typed_stmt names s)) [] (stmt_slices s h) tt
      stmt_slices (stmt.IfElse c s t) h =
          let both = or_parts (has_bad_set names kind s) (has_bad_set names kind t) h in
          each_joined Of (sets_of (typed_stmt names s)) (sets_of (typed_stmt names t)) (stmt_slices s both.0) (stmt_slices t both.1)
      stmt_slices (stmt.Case wild e arms) h =
          let shape = shape_of_arms names (own_shape names e) arms in
          each_joined Of (sets_of_arms (typed_arms names shape arms)) (sets_of_default (typed_default names arms)) (arms_slices shape arms h) (default_slices arms h)
      stmt_slices (stmt.Set t e blocking) h = place_slices t h
      stmt_slices stmt.Empty h = tt

      stmts_slices : (ss : stmt.Statements) → have_bad_set names kind ss ≡ false → AllOf (sets_of_all (typed_stmts names ss))
      stmts_slices stmt.end h = tt
      stmts_slices (stmt.more s ss) h =
          let both = or_parts (has_bad_set names kind s) (have_bad_set names kind ss) h in
          each_joined Of (sets_of (typed_stmt names s)) (sets_of_all (typed_stmts names ss)) (stmt_slices s both.0) (stmts_slices ss both.1)

      arms_slices : (shape : Shape) (arms : stmt.Arms) → arms_have_bad_set names kind arms ≡ false → AllOf (sets_of_arms (typed_arms names shape arms))
      arms_slices shape stmt.no_arm h = tt
      arms_slices shape (stmt.labels es s others) h =
          let both = or_parts (has_bad_set names kind s) (arms_have_bad_set names kind others) h in
          each_joined Of (sets_of (typed_stmt names s)) (sets_of_arms (typed_arms names shape others)) (stmt_slices s both.0) (arms_slices shape others both.1)
      arms_slices shape (stmt.otherwise s others) h =
          let both = or_parts (has_bad_set names kind s) (arms_have_bad_set names kind others) h in
          arms_slices shape others both.1

      default_slices : (arms : stmt.Arms) → arms_have_bad_set names kind arms ≡ false → AllOf (sets_of_default (typed_default names arms))
      default_slices stmt.no_arm h = tt
      default_slices (stmt.labels es s others) h =
          let both = or_parts (has_bad_set names kind s) (arms_have_bad_set names kind others) h in
          default_slices others both.1
      default_slices (stmt.otherwise s others) h =
          let both = or_parts (has_bad_set names kind s) (arms_have_bad_set names kind others) h in
          stmt_slices s both.0

    bare_passes : (s : stmt.Statement) → has_bad_set names kind s ≡ false → has_bad_set names kind (bare_stmt s) ≡ false
    bare_passes (stmt.Block stmt.end) h = h
    bare_passes (stmt.Block (stmt.more s stmt.end)) h = bare_passes s (or_parts (has_bad_set names kind s) false h).0
    bare_passes (stmt.Block (stmt.more s (stmt.more t ss))) h = h
    bare_passes (stmt.If c s) h = h
    bare_passes (stmt.IfElse c s t) h = h
    bare_passes (stmt.Case wild e arms) h = h
    bare_passes (stmt.Set t e blocking) h = h
    bare_passes stmt.Empty h = h

    -- a clocked block in reset form has the same targets
    pub clocked_slices : (form : Option ResetForm) (s : stmt.Statement) → has_bad_set names kind s ≡ false → AllOf (sets_of (typed_stmt names (clocked_body form s)))
    clocked_slices None s h = stmt_slices s h
    clocked_slices (Some f) s h = stmt_slices (bare_stmt s) (bare_passes s h)

  pub of_signal : (slices : List Slice) (i : ℕ) → AllOf slices → list_any (is_of i) slices ≡ true → P i
  of_signal [] i all h = absurd cc
  of_signal (s ∷ slices) i all h = elim (or_cases (is_of i s) (list_any (is_of i) slices) h) [
    | inl a ↦ subst P (eqb-true s.signal i a) all.0
    | inr b ↦ of_signal slices i all.1 b
  ]
