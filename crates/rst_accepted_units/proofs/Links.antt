-- Links fit: the value of an input link works at the width of the port, and the target of an output link is as wide as its port.
use Rattle.std.proofs.Common.{◌≡◌, ◌∙◌, ℕ, ◌<◌, ◌≤◌, max, nat_eq, nat_lt, Bool, true, false, not, ◌&&◌, cond, List, [], ◌∷◌, ◌++◌, Option, Some, None, Ok, Err, arith, refl, sym, ap, subst}
use Rattle.std.specs.List.{AllByRecursion, flat_map}
use Rattle.std.proofs.lemmas.Bool.Decides.{nat_tests}
use Rattle.rst_tree.specs.Trees.{Text, Tree}
use Rattle.rst_tree.specs.Trees as expr
use Rattle.rst_tree.specs.Modules.{PlainCopied}
use Rattle.rst_width.specs.declared.typed_expr.Shape.{Shape}
use Rattle.rst_width.specs.Scopes.{Meaning, Signal, Param, Later, IsMeaning}
use Rattle.rst_width.specs.declared.typed_expr.WidthFault.TheVariants.{TooWide}
use Rattle.rst_width.specs.Typed.{Typed, typed, sized_as, shape_of, names_signal}
use Rattle.rst_width.specs.Typed as node
use Rattle.rst_width.specs.Sized.{Answer, own, brought, in_context}
use Rattle.rst_width.specs.Sizing.{named}
use Rattle.rst_width.specs.Fit.{IsFit}
use Rattle.rst_width.specs.Answers.{own_shape, widened_shape, typed_answer}
use Rattle.rst_net.specs.Units.{Assign}
use Rattle.rst_names.specs.declared.faults.ElabCode.TheVariants as code
use Rattle.rst_names.specs.Faults.{first, fault_if}
use Rattle.rst_typing.specs.Typing.{typed_or, typed_at, answer_faults}
use Rattle.rst_statement_values.specs.Fits.{ExpressionFits, SliceInside, SetFits}
use Rattle.rst_instances.specs.Parameters.{Linked, links_to}
use Rattle.rst_items.specs.Seen.{Seen, Placed}
use Rattle.rst_items.specs.Items.{number_or, number_at, input_set, output_set, link_set, is_clock_name, link_units, over_links, over_copies}
use Rattle.rst_items.specs.ItemRows.{link_answer, link_faults, link_width}
use Rattle.rst_accepted.proofs.Rows.{left_none, right_none}
use Rattle.rst_typed_fits.proofs.Leaves.{none_first, at_fit, at_reads, at_fits}
use Rattle.rst_typed_fits.proofs.Slices.{slices_inside, slices_narrow}
use Rattle.rst_typed_fits.proofs.Fitting.{parts_fit}
use Rattle.rst_accepted_units.proofs.Lists.{each_joined}
use Rattle.rst_accepted_units.proofs.Seen.{IsRight}
use Rattle.rst_accepted_units.proofs.Sets.{UnitFits, assigned}

small_width : (t : Typed) → IsFit t → (shape_of t).width ≤ 64
small_width (typed shape n) fit = fit.0.at_most_64

-- a name in a context, by what it stands for
abbrev name_answer : Text → Option Meaning → ℕ → Answer
name_answer name o width = let s = named false name o in in_context true s (widened_shape (own s) width)

no_wider : (w : ℕ) (t : Typed) → w ≤ 64 → answer_faults (cond {A = Answer} (nat_lt 64 w) (Err TooWide) (Ok t)) ≡ []
no_wider w t small = by (nat_lt 64 w) refl
  where
    by : (b : Bool) → nat_lt 64 w ≡ b → answer_faults (cond {A = Answer} b (Err TooWide) (Ok t)) ≡ []
    by true e = let wide : 64 < w = grind (arith, nat_tests) in absurd (omega (arith, wide, small))
    by false e = refl

within_64 : (name : Text) (m : Meaning) (width : ℕ) → IsMeaning m → ((ranged : Bool) → m ≡ Later ranged → ⊥) → width ≤ 64 → answer_faults (name_answer name (Some m) width) ≡ []
within_64 name (Signal i extent) width right never small =
    no_wider (max extent.width width) (brought (sized_as extent.width extent.signed) (node.Signal i) (widened_shape (sized_as extent.width extent.signed) width)) (omega (arith, right.at_most_64, small))
within_64 name (Param w) width right never small =
    no_wider (max w.width width) (brought (sized_as w.width w.signed) (node.Word w) (widened_shape (sized_as w.width w.signed) width)) (omega (arith, right.at_most_64, small))
within_64 name (Later ranged) width right never small = absurd (never ranged refl)

-- a port's value fits, and is wide enough for what it is linked to
record PortFits (room : ℕ → ℕ) (width : ℕ) (t : Typed) : Type 0 where
  pub value : ExpressionFits room t
  pub wide : width ≤ (shape_of t).width

-- what stands in the place of a name without a declaration
one_bit_fits : (room : ℕ → ℕ) (width : ℕ) → width ≡ 1 → PortFits room width (typed (sized_as 1 false) (node.Word (record { width = 1; signed = false; value = 0 })))
one_bit_fits room width one = record {
  value = record {
    fit = (record { some_bits = omega arith; at_most_64 = omega arith }, (record { some_bits = omega arith; at_most_64 = omega arith; fits = omega arith }, refl));
    inside = tt;
  };
  wide = omega (arith, one);
}

module _ (room : ℕ → ℕ) (k : Seen) (right : IsRight room k) (name : Text) where
  port_fits : (width : ℕ) → width ≤ 64 → width ≡ k.width name → PortFits room width (typed_at k.names (expr.Name name) width)
  port_fits width small same = by (k.names name) refl
    where
      by : (o : Option Meaning) → k.names name ≡ o → PortFits room width (typed_at k.names (expr.Name name) width)
      by None is = subst (λ (o : Option Meaning). PortFits room width (typed_or (name_answer name o width))) (sym is) (one_bit_fits room width (same ∙ right.missing name is))
      by (Some m) is =
          let none : answer_faults (typed_answer k.names (expr.Name name) width) ≡ [] =
          ap (λ o. answer_faults (name_answer name o width)) is ∙ within_64 name m width (right.meanings name m is) (λ ranged e. right.never name ranged (is ∙ ap (λ x. Some x) e)) small in
          let fit = at_fit k.names right.meanings (expr.Name name) width none in
          record {
            value = at_fits room k.names right.meanings right.widths (expr.Name name) width none;
            wide = omega (arith, ap (λ (s : Shape). s.width) fit.at);
          }

-- ---- one link

module _ (room : ℕ → ℕ) (s k : Seen) (right : IsRight room s) (port : IsRight room k) (l : Linked) where
  input_fits : (k.total l.name).input ≡ true → first (answer_faults (typed_answer s.names l.value (k.width l.name))) ≡ None → SetFits room true (input_set s.names k l)
  input_fits is none =
      let here = port.inputs l.name is in
      let number : number_at k.names l.name ≡ here.number = ap number_or here.is in
      let extent = port.meanings l.name (Signal here.number here.extent) here.is in
      let wide : room here.number ≡ here.extent.width = port.widths l.name here.number here.extent here.is in
      let same : room (number_at k.names l.name) ≡ room here.number = ap room number in
      let slice : SliceInside room (record { signal = number_at k.names l.name; low = 0; width = k.width l.name }) =
      record { some_bits = omega (arith, extent.some_bits, here.width); inside = omega (arith, wide, same, here.width) } in
      parts_fit room s.names right.meanings right.widths (record { signal = number_at k.names l.name; low = 0; width = k.width l.name } ∷ []) l.value (k.width l.name) true
      (slice, tt) (omega arith) (none_first (answer_faults (typed_answer s.names l.value (k.width l.name))) none)

  output_fits : first (answer_faults (typed_answer s.names l.value 0)) ≡ None → (own_shape s.names l.value).width ≡ k.width l.name → SetFits room true (output_set s.names k l)
  output_fits none same =
      let good = none_first (answer_faults (typed_answer s.names l.value 0)) none in
      let fit = at_fit s.names right.meanings l.value 0 good in
      let target = typed_at s.names l.value 0 in
      let width = (own_shape s.names l.value).width in
      let shape : (shape_of target).width ≡ width = ap (λ (x : Shape). x.width) fit.at ∙ omega arith in
      let small : width ≤ 64 = omega (arith, shape, small_width target fit.fit) in
      let value = port_fits room k port l.name width small same in
      record {
        value = value.value;
        slices = slices_inside room target fit.fit (at_reads room s.names right.meanings right.widths l.value 0 good);
        wide = omega (arith, slices_narrow target fit.fit, shape, value.wide);
        kind = refl;
      }

  same_width : (t : Bool) (name : Text) → first (fault_if (not t && true) code.PortWidth name 0) ≡ None → t ≡ true
  same_width true name none = refl
  same_width false name none = absurd cc

  equal : (a b : ℕ) → nat_eq a b ≡ true → a ≡ b
  equal a b e = grind (arith, nat_tests)

  set_fits_by : (input : Bool) → (k.total l.name).input ≡ input → first (answer_faults (typed_answer s.names l.value (cond input (k.width l.name) 0))) ≡ None
      → (t converted : Bool) → t ≡ nat_eq (own_shape s.names l.value).width (k.width l.name) → first (fault_if (not t && not (input && converted)) code.PortWidth (k.prefix ++ l.name) 0) ≡ None
      → SetFits room true (cond input (input_set s.names k l) (output_set s.names k l))
  set_fits_by true is none t converted told row = input_fits is none
  set_fits_by false is none t converted told row =
      output_fits none (equal (own_shape s.names l.value).width (k.width l.name) (sym told ∙ same_width t (k.prefix ++ l.name) row))

  pub link_fits : first (link_faults s.names k l) ≡ None → first (link_width s.names k l) ≡ None → AllByRecursion (UnitFits room) (link_units s.names k l)
  link_fits none row = by (is_clock_name (k.leads l.name))
    where
      by : (b : Bool) → AllByRecursion (UnitFits room) (cond b [] (Assign (link_set s.names k l) ∷ []))
      by true = tt
      by false = (assigned room (link_set s.names k l) (set_fits_by (k.total l.name).input refl none (nat_eq (own_shape s.names l.value).width (k.width l.name)) (not (names_signal (typed_or (link_answer s.names k l)))) refl row), tt)

-- ---- the links of an item

module _ (room : ℕ → ℕ) (s : Seen) (right : IsRight room s) where
  links_fit : (k : Seen) → IsRight room k → (ls : List Linked) → first (flat_map (link_faults s.names k) ls) ≡ None → first (flat_map (link_width s.names k) ls) ≡ None
      → AllByRecursion (UnitFits room) (flat_map (link_units s.names k) ls)
  links_fit k port [] none row = tt
  links_fit k port (l ∷ ls) none row =
      each_joined (UnitFits room) (link_units s.names k l) (flat_map (link_units s.names k) ls)
      (link_fits room s k right port l (left_none (link_faults s.names k l) (flat_map (link_faults s.names k) ls) none) (left_none (link_width s.names k l) (flat_map (link_width s.names k) ls) row))
      (links_fit k port ls (right_none (link_faults s.names k l) (flat_map (link_faults s.names k) ls) none) (right_none (link_width s.names k l) (flat_map (link_width s.names k) ls) row))

  copy_fits : (c : PlainCopied) (o : Option Seen) → ((k : Seen) → o ≡ Some k → IsRight room k) → first (over_links (link_faults s.names) c o) ≡ None → first (over_links (link_width s.names) c o) ≡ None
      → AllByRecursion (UnitFits room) (over_links (link_units s.names) c o)
  copy_fits c None ports none row = tt
  copy_fits c (Some k) ports none row = links_fit k (ports k refl) (links_to k.port_names c.ports) none row

  pub copies_fit : (placed : Placed) → ((c : PlainCopied) (k : Seen) → placed c ≡ Some k → IsRight room k) → (cs : List PlainCopied)
      → first (over_copies (link_faults s.names) placed cs) ≡ None → first (over_copies (link_width s.names) placed cs) ≡ None → AllByRecursion (UnitFits room) (over_copies (link_units s.names) placed cs)
  copies_fit placed ports [] none row = tt
  copies_fit placed ports (c ∷ cs) none row =
      each_joined (UnitFits room) (over_links (link_units s.names) c (placed c)) (over_copies (link_units s.names) placed cs)
      (copy_fits c (placed c) (ports c) (left_none (over_links (link_faults s.names) c (placed c)) (over_copies (link_faults s.names) placed cs) none) (left_none (over_links (link_width s.names) c (placed c)) (over_copies (link_width s.names) placed cs) row))
      (copies_fit placed ports cs (right_none (over_links (link_faults s.names) c (placed c)) (over_copies (link_faults s.names) placed cs) none) (right_none (over_links (link_width s.names) c (placed c)) (over_copies (link_width s.names) placed cs) row))
