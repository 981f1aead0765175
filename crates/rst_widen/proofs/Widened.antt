-- What widening place by place answers.
use Rattle.std.proofs.Common.{◌≡◌, ◌∙◌, ℕ, zero, suc, ◌<◌, ◌+◌, Bool, true, false, cond, List, [], ◌∷◌, length, refl, sym, subst, arith}
use Rattle.std.proofs.lemmas.Bool.{false≢true}
use Rattle.std.specs.Prelude.{slice_index_or, slice_set}
use Rattle.std.specs.List.{AllZip}
use Rattle.rst_value.specs.declared.tern.Tern.{Tern}
use Rattle.rst_value.specs.declared.tern.Tern.TheVariants.{Zero, One, Unknown}
use Rattle.rst_value.specs.TernLaws.{Refines}
use Rattle.rst_gate.proofs.Related.{zip-get_or_past}
use Rattle.rst_pair.specs.Sides.{Sides, IsCube}
use Rattle.rst_pair.specs.Aims.{Aim', LeadsAll, passes, IsWidest}
use Rattle.rst_widen.specs.Widening.{tried, widened, IsOrder, IsWidened}
use Rattle.rst_pair.proofs.Lists.{zip-same, zip-through, zip-set, zip-set_left, zip-length, set-read}
use Rattle.rst_pair.proofs.Tables.{Refines-refl, Refines-trans}
use Rattle.rst_pair.proofs.Passing.{passing-right, passes-monotone}

module _ (p : Sides) (aim : Aim') (input : List Bool) where
  -- which of the two cubes it is
  data Tried (cube : List Tern) (i : ℕ) : List Tern → Type 0 where
    wider : passes p aim input (slice_set cube i Unknown) ≡ true → Tried cube i (slice_set cube i Unknown)
    as_before : passes p aim input (slice_set cube i Unknown) ≡ false → Tried cube i cube

  tried_by : (cube : List Tern) (i : ℕ) (b : Bool) → passes p aim input (slice_set cube i Unknown) ≡ b
      → Tried cube i (cond b (slice_set cube i Unknown) cube)
  tried_by cube i true h = wider h
  tried_by cube i false h = as_before h

  which : (cube : List Tern) (i : ℕ) → Tried cube i (tried p aim input cube i)
  which cube i = tried_by cube i (passes p aim input (slice_set cube i Unknown)) refl

  refines-set : (cube : List Tern) (i : ℕ) → AllZip Refines (slice_set cube i Unknown) cube
  refines-set cube i = zip-set_left Refines cube cube i Unknown (λ b. tt) (zip-same Refines Refines-refl cube)

  tried-refines' : (cube : List Tern) (i : ℕ) (new : List Tern) → Tried cube i new → AllZip Refines new cube
  tried-refines' cube i _ (wider h) = refines-set cube i
  tried-refines' cube i _ (as_before h) = zip-same Refines Refines-refl cube

  pub widened-refines : (cube : List Tern) (order : List ℕ) → AllZip Refines (widened p aim input cube order) cube
  widened-refines cube [] = zip-same Refines Refines-refl cube
  widened-refines cube (i ∷ order) =
      zip-through Refines Refines-trans _ (tried p aim input cube i) cube (widened-refines (tried p aim input cube i) order)
      (tried-refines' cube i _ (which cube i))

  tried-passes' : (cube : List Tern) (i : ℕ) (new : List Tern) → Tried cube i new → passes p aim input cube ≡ true → passes p aim input new ≡ true
  tried-passes' cube i _ (wider h) q = h
  tried-passes' cube i _ (as_before h) q = q

  pub widened-passes :
      (cube : List Tern) (order : List ℕ) → passes p aim input cube ≡ true → passes p aim input (widened p aim input cube order) ≡ true
  widened-passes cube [] h = h
  widened-passes cube (i ∷ order) h = widened-passes (tried p aim input cube i) order (tried-passes' cube i _ (which cube i) h)

  tried-right' : (cube : List Tern) (i : ℕ) (new : List Tern) → Tried cube i new → LeadsAll p aim cube input → LeadsAll p aim new input
  tried-right' cube i _ (wider h) q = passing-right p aim (slice_set cube i Unknown) input h
  tried-right' cube i _ (as_before h) q = q

  pub widened-right :
      (cube : List Tern) (order : List ℕ) → LeadsAll p aim cube input → LeadsAll p aim (widened p aim input cube order) input
  widened-right cube [] h = h
  widened-right cube (i ∷ order) h = widened-right (tried p aim input cube i) order (tried-right' cube i _ (which cube i) h)

  -- the place is X, or can't be made X
  abbrev IsSettled : List Tern → ℕ → Type 0
  IsSettled cube i = (slice_index_or cube i Unknown ≡ Unknown → ⊥) → passes p aim input (slice_set cube i Unknown) ≡ false

  tried-settled : (cube : List Tern) (i : ℕ) (new : List Tern) → Tried cube i new → IsSettled new i
  tried-settled cube i _ (wider h) known_there = absurd (known_there (set-read cube i Unknown))
  tried-settled cube i _ (as_before h) known_there = h

  known-below : (a b : Tern) → Refines a b → (a ≡ Unknown → ⊥) → b ≡ Unknown → ⊥
  known-below Zero b r h e = h (sym r ∙ e)
  known-below One b r h e = h (sym r ∙ e)
  known-below Unknown b r h e = h refl

  not-passing : (b : Bool) → (b ≡ true → ⊥) → b ≡ false
  not-passing true h = absurd (h refl)
  not-passing false h = refl

  settled-wider : (wide cube : List Tern) (i : ℕ) → AllZip Refines wide cube → IsSettled cube i → IsSettled wide i
  settled-wider wide cube i z settled known_there =
      let here : Refines (slice_index_or wide i Unknown) (slice_index_or cube i Unknown) = zip-get_or_past Refines wide cube i Unknown Unknown tt z in
      let no : passes p aim input (slice_set cube i Unknown) ≡ false = settled (known-below _ _ here known_there) in
      not-passing _
      (λ yes. false≢true
      (sym no
      ∙ passes-monotone p aim input (slice_set wide i Unknown) (slice_set cube i Unknown) (zip-set Refines wide cube i Unknown Unknown tt z) yes))

  settled_at :
      (cube : List Tern) (order : List ℕ) (k i : ℕ) → k < length order → slice_index_or order k i ≡ i
      → IsSettled (widened p aim input cube order) i
  settled_at cube [] k i below e = absurd (omega arith)
  settled_at cube (j ∷ order) zero i below e =
      settled-wider (widened p aim input (tried p aim input cube j) order) (tried p aim input cube j) i
      (widened-refines (tried p aim input cube j) order)
      (subst (IsSettled (tried p aim input cube j)) e (tried-settled cube j _ (which cube j)))
  settled_at cube (j ∷ order) (suc k) i below e = settled_at (tried p aim input cube j) order k i (omega arith) e

  pub widened-widest :
      (cube : List Tern) (order : List ℕ) (n : ℕ) → length cube ≡ n → IsOrder n order → IsWidest p aim input (widened p aim input cube order)
  widened-widest cube order n count is i below =
      let same : length (widened p aim input cube order) ≡ length cube =
      zip-length Refines (widened p aim input cube order) cube (widened-refines cube order) in
      let here = is.all i (omega (arith, below, count, same)) in settled_at cube order here.0 i here.1 here.2

  pub answer-right : (cube new : List Tern) → IsWidened p aim input cube new → LeadsAll p aim cube input → LeadsAll p aim new input
  answer-right cube new w h = rw w.is (widened-right cube w.order h)

  pub answer-refines : (cube new : List Tern) → IsWidened p aim input cube new → AllZip Refines new cube
  answer-refines cube new w = rw w.is (widened-refines cube w.order)

  pub answer-passes : (cube new : List Tern) → IsWidened p aim input cube new → passes p aim input cube ≡ true → passes p aim input new ≡ true
  answer-passes cube new w h = rw w.is (widened-passes cube w.order h)

  pub answer-widest : (cube new : List Tern) → IsWidened p aim input cube new → IsCube p cube → IsWidest p aim input new
  answer-widest cube new w wide = rw w.is (widened-widest cube w.order (p.left.states + p.right.states) wide w.is_order)
