-- The bits that a statement leaves the signals with spell its effect, in two values.
use Rattle.std.proofs.Common.{◌≡◌, ℕ, ◌+◌, ◌<◌, ◌≤◌, ◌^◌, Bool, true, false, not, ◌&&◌, ◌||◌, List, [], ◌∷◌, length, cond, eqb, arith, refl, sym, ap, ◌∙◌, subst}
use Rattle.std.specs.List.{AllByRecursion, list_any}
use Rattle.std.proofs.lemmas.Bool.{cond_both}
use Rattle.rst_word.specs.Words.{PlainWord}
use Rattle.rst_word.specs.Unary.{is_true}
use Rattle.rst_width.specs.Typed.{Typed, shape_of}
use Rattle.rst_width.specs.Values.{Valuation, value}
use Rattle.rst_net.specs.Statements.{Label, PlainSet, Statement, Statements, Arms, Default, Block, If, Case, Set, Empty, end, more, no_arm, arm, no_default, default}
use Rattle.rst_terms.specs.declared.kinds.Connective.TheVariants.{Or}
use Rattle.rst_terms.specs.Algebras.{bits, Step}
use Rattle.rst_terms.specs.Recurrences.{reduced, joined, equal}
use Rattle.rst_terms.specs.Numbers.{number}
use Rattle.rst_terms.specs.Spelling.{Spells}
use Rattle.rst_terms.proofs.Places.{number_below}
use Rattle.rst_terms.proofs.Connectives.{any_number, or_more}
use Rattle.rst_typed_terms.specs.Expressions.{expression_bits}
use Rattle.rst_typed_terms.specs.Valuations.{AreSpelled}
use Rattle.rst_typed_terms.proofs.Values.{expression_spells}
use Rattle.rst_typed_terms.proofs.Operands.{value_width}
use Rattle.rst_cycle.specs.Effects.{Progress, effect, effects, arms_effect, default_effect, is_chosen, matches, agree, set_effect}
use Rattle.rst_cycle.specs.Effects as step
use Rattle.rst_cycle.specs.Drivers.{sets, all_set, arms_set, default_sets, slice_has}
use Rattle.rst_statement_terms.specs.Targets.{Words, word_of, with_target, merged}
use Rattle.rst_statement_terms.specs.Statements.{Sight, Held, Current, seen, unmasked, label_bits, is_last, statement_bits, all_bits, arm_bits, default_bits}
use Rattle.rst_statement_values.specs.Fits.{ExpressionFits, LabelFits, SliceInside, SetFits, any_chosen, has_default, IsCovered, blocking_of, StatementFits, AllFit, ArmsFit, DefaultFits}
use Rattle.rst_statement_values.specs.Agreement.{Sees, Agrees}
use Rattle.rst_statement_values.proofs.Matches.{label_matches}
use Rattle.rst_statement_values.proofs.Slices.{target_spelled}
use Rattle.rst_statement_values.proofs.Branches.{Keeps, keeps_itself, keeps_more, keeps_then, branch_choice, branch_keeps, target_keeps, left_false, right_false}

-- a block behind its statements, and the bits that they leave alone
pub record Goes (room : ℕ → ℕ) (sight : Sight Bool) (words after : Words Bool) (p : Progress) (which : ℕ → ℕ → Bool) : Type 0 where
  pub agrees : Agrees room sight after p
  pub keeps : Keeps words after which

-- what reads see is spelled
seen_spelled : (room : ℕ → ℕ) (sight : Sight Bool) (words : Words Bool) (p : Progress) → Agrees room sight words p → AreSpelled room (seen sight words) p.seen
seen_spelled room (Held held) words p h = h.sees
seen_spelled room Current words p h = subst (AreSpelled room (word_of words)) (sym h.sees) h.last

in_range : (room : ℕ → ℕ) (words : ℕ → List Bool) (v : Valuation) → AreSpelled room words v → (i : ℕ) → v i < 2 ^ room i
in_range room words v h i =
    let below = number_below (words i) in
    let width = (h i).width in
    let value = (h i).value in
    rw (width, value) at below

chosen_agrees :
    (room : ℕ → ℕ) (sight : Sight Bool) (c d : Bool) (ys ns after : Words Bool) (y n : Progress) → c ≡ d → after ≡ cond c ys ns
    → Agrees room sight ys y → (d ≡ false → Agrees room sight ns n) → Agrees room sight after (cond d y n)
chosen_agrees room sight true true ys ns after y n e is h k = subst (λ w. Agrees room sight w y) (sym is) h
chosen_agrees room sight false false ys ns after y n e is h k = subst (λ w. Agrees room sight w n) (sym is) (k refl)
chosen_agrees room sight true false ys ns after y n e is h k = cc
chosen_agrees room sight false true ys ns after y n e is h k = cc

merged_keeps :
    (words ys ns : Words Bool) (c : Bool) (first second : ℕ → ℕ → Bool) → Keeps words ys first → Keeps words ns second
    → Keeps words (merged bits tt c (λ i place. first i place || second i place) 0 ys ns).1 (λ i place. first i place || second i place)
merged_keeps words ys ns c first second h k =
    subst (λ w. Keeps words w (λ i place. first i place || second i place)) (sym (branch_choice c words ys ns first second h k)) (branch_keeps c words ys ns first second h k)

merged_agrees :
    (room : ℕ → ℕ) (sight : Sight Bool) (words ys ns : Words Bool) (c d : Bool) (y n : Progress) (first second : ℕ → ℕ → Bool) → c ≡ d
    → Keeps words ys first → Keeps words ns second → Agrees room sight ys y → (d ≡ false → Agrees room sight ns n)
    → Agrees room sight (merged bits tt c (λ i place. first i place || second i place) 0 ys ns).1 (cond d y n)
merged_agrees room sight words ys ns c d y n first second e h k p q =
    chosen_agrees room sight c d ys ns (merged bits tt c (λ i place. first i place || second i place) 0 ys ns).1 y n e (branch_choice c words ys ns first second h k) p q

-- an arm behind which others stand: its agreement asks that a full case takes one of its ways
record Chain (room : ℕ → ℕ) (sight : Sight Bool) (words after : Words Bool) (p : Progress) (which : ℕ → ℕ → Bool) (covered : Type 0) : Type 0 where
  pub agrees : covered → Agrees room sight after p
  pub keeps : Keeps words after which

-- a condition
truth : (xs : List Bool) (w : PlainWord) → Spells xs w → (reduced bits Or tt xs).1 ≡ is_true w
truth xs w h = any_number xs ∙ ap (λ n. not (eqb n 0)) h.value

-- the `or` of a list of bits
either_is : (a b : Bool) → not (not a && not b) ≡ (a || b)
either_is true b = refl
either_is false true = refl
either_is false false = refl

label_truth :
    (room : ℕ → ℕ) (words : ℕ → List Bool) (v : Valuation) → AreSpelled room words v → (selector : List Bool) (w : PlainWord) → Spells selector w
    → (width : ℕ) → w.width ≡ width → (labels : List Label) → AllByRecursion (LabelFits room width) labels
    → (reduced bits Or tt (label_bits bits words selector tt labels).1).1 ≡ is_chosen v w labels
label_truth room words v spelled selector w h width is [] fits = refl
label_truth room words v spelled selector w h width is (label ∷ labels) fits =
    let e : List Bool = (expression_bits bits words tt label.value).1 in
    let spells = expression_spells room words v spelled label.value fits.0.value.fit fits.0.value.inside in
    let widths : length selector ≡ length e = h.width ∙ (is ∙ sym (spells.width ∙ (value_width v label.value ∙ fits.0.width))) in
    let one : (equal bits tt (unmasked label.mask selector) (unmasked label.mask e)).1 ≡ matches v w label =
    label_matches selector e label.mask widths ∙ (λ i. agree (h.width i) label.mask (h.value i) (spells.value i)) in
    let rest = label_truth room words v spelled selector w h width is labels fits.1 in
    let more : List Bool = (label_bits bits words selector tt labels).1 in
    or_more more (equal bits tt (unmasked label.mask selector) (unmasked label.mask e)).1
    ∙ (either_is (equal bits tt (unmasked label.mask selector) (unmasked label.mask e)).1 (reduced bits Or tt more).1
    ∙ (λ i. one i || rest i))

-- one of three tests
turn_or : (a b c : Bool) → ((a || b) || c) ≡ false → (a || (b || c)) ≡ false
turn_or true b c h = cc
turn_or false b c h = h

-- behind an arm that isn't chosen one of the others is
next_covered : (a b c : Bool) → ((a || b) || c) ≡ true → a ≡ false → (b || c) ≡ true
next_covered true b c h e = cc
next_covered false b c h e = h

last_covered : (a : Bool) → ((a || false) || false) ≡ true → a ≡ true
last_covered true h = refl
last_covered false h = cc

kept_sight : (room : ℕ → ℕ) (sight : Sight Bool) (p : Progress) (set : PlainSet) → set.blocking ≡ blocking_of sight → (n : ℕ) → Sees room sight p → Sees room sight (step.set_to set n p)
kept_sight room (Held held) p set kind n h = subst (λ b. AreSpelled room (word_of held) (cond b (step.with_target set.target n p.seen) p.seen)) (sym kind) h
kept_sight room Current p set kind n h = subst (λ b. cond b (step.with_target set.target n p.seen) p.seen ≡ step.with_target set.target n p.last) (sym kind) (ap (step.with_target set.target n) h)

module _ (room : ℕ → ℕ) (sight : Sight Bool) where
  set_goes : (words : Words Bool) (p : Progress) (set : PlainSet) → SetFits room (blocking_of sight) set → Agrees room sight words p
      → Goes room sight words (with_target set.target (expression_bits bits (seen sight words) tt set.value).1 words) (set_effect set p) (λ i place. list_any (slice_has i place) set.target)
  set_goes words p set fits h =
      let spells = expression_spells room (seen sight words) p.seen (seen_spelled room sight words p h) set.value fits.value.fit fits.value.inside in
      let part : List Bool = (expression_bits bits (seen sight words) tt set.value).1 in
      let n : ℕ = (value p.seen set.value).value in
      let long = spells.width ∙ value_width p.seen set.value in
      let wide = fits.wide in
      record {
        agrees = record {
          last = target_spelled room set.target words p.last part n fits.slices h.last (omega (arith, long, wide)) spells.value;
          sees = kept_sight room sight p set fits.kind n h.sees;
        };
        keeps = target_keeps room set.target part words (λ i. (h.last i).width) fits.slices (omega (arith, long, wide));
      }

  -- an arm that is tested, in front of the others
  tested :
      (labels : List Label) (body : Statement) (arms : Arms) (otherwise : Default) (behind : Unit {0} → Words Bool → Step (Unit {0}) (Words Bool)) (beyond : Progress → Progress)
      (bs : List Bool) (w : PlainWord) (width : ℕ) (full : Bool) (words : Words Bool) (p : Progress)
      → Spells bs w → w.width ≡ width → AllByRecursion (LabelFits room width) labels → Agrees room sight words p
      → Goes room sight words (statement_bits bits sight tt words body).1 (effect body p) (sets body)
      → Chain room sight words (arm_bits bits sight bs full tt words arms otherwise behind).1 (arms_effect w arms beyond p) (λ i place. arms_set arms i place || default_sets otherwise i place)
      (full ≡ true → (any_chosen p.seen w arms || has_default otherwise) ≡ true)
      → Chain room sight words
      (merged bits tt (reduced bits Or tt (label_bits bits (seen sight words) bs tt labels).1).1 (λ i place. sets body i place || (arms_set arms i place || default_sets otherwise i place)) 0
      (statement_bits bits sight tt words body).1 (arm_bits bits sight bs full tt words arms otherwise behind).1).1
      (cond (is_chosen p.seen w labels) (effect body p) (arms_effect w arms beyond p))
      (λ i place. (sets body i place || arms_set arms i place) || default_sets otherwise i place)
      (full ≡ true → ((is_chosen p.seen w labels || any_chosen p.seen w arms) || has_default otherwise) ≡ true)
  tested labels body arms otherwise behind beyond bs w width full words p spells is fits h one rest =
      let test : Bool = (reduced bits Or tt (label_bits bits (seen sight words) bs tt labels).1).1 in
      let ys : Words Bool = (statement_bits bits sight tt words body).1 in
      let ns : Words Bool = (arm_bits bits sight bs full tt words arms otherwise behind).1 in
      let others : ℕ → ℕ → Bool = λ i place. arms_set arms i place || default_sets otherwise i place in
      let e = label_truth room (seen sight words) p.seen (seen_spelled room sight words p h) bs w spells width is labels fits in
      record {
        agrees = λ covered.
            merged_agrees room sight words ys ns test (is_chosen p.seen w labels) (effect body p) (arms_effect w arms beyond p) (sets body) others e one.keeps rest.keeps one.agrees
            (λ other. rest.agrees (λ f. next_covered (is_chosen p.seen w labels) (any_chosen p.seen w arms) (has_default otherwise) (covered f) other));
        keeps = keeps_more words (merged bits tt test (λ i place. sets body i place || others i place) 0 ys ns).1 (λ i place. sets body i place || others i place)
            (λ i place. (sets body i place || arms_set arms i place) || default_sets otherwise i place)
            (λ i place f. turn_or (sets body i place) (arms_set arms i place) (default_sets otherwise i place) f)
            (merged_keeps words ys ns test (sets body) others one.keeps rest.keeps);
      }

  mutual
    pub statement_goes :
        (st : Statement) (words : Words Bool) (p : Progress) → StatementFits room (blocking_of sight) st → Agrees room sight words p
        → Goes room sight words (statement_bits bits sight tt words st).1 (effect st p) (sets st)
    statement_goes (Block statements) words p fits h = all_go statements words p fits h
    statement_goes (If condition first second) words p fits h =
        let spells = expression_spells room (seen sight words) p.seen (seen_spelled room sight words p h) condition fits.0.fit fits.0.inside in
        let test : Bool = (reduced bits Or tt (expression_bits bits (seen sight words) tt condition).1).1 in
        let one : Words Bool = (statement_bits bits sight tt words first).1 in
        let other : Words Bool = (statement_bits bits sight tt words second).1 in
        let y = statement_goes first words p fits.1 h in
        let n = statement_goes second words p fits.2 h in
        record {
          agrees = merged_agrees room sight words one other test (is_true (value p.seen condition)) (effect first p) (effect second p) (sets first) (sets second)
              (truth (expression_bits bits (seen sight words) tt condition).1 (value p.seen condition) spells) y.keeps n.keeps y.agrees (λ _. n.agrees);
          keeps = merged_keeps words one other test (sets first) (sets second) y.keeps n.keeps;
        }
    statement_goes (Case selector arms otherwise full) words p fits h =
        let see = seen_spelled room sight words p h in
        let spells = expression_spells room (seen sight words) p.seen see selector fits.0.fit fits.0.inside in
        let chain = arms_go arms otherwise (λ t ws. default_bits bits sight t ws otherwise) (λ q. default_effect otherwise q) (λ ws q agrees. default_goes otherwise ws q fits.2 agrees)
        (expression_bits bits (seen sight words) tt selector).1 (value p.seen selector) (shape_of selector).width full words p spells (value_width p.seen selector) fits.1 h in
        record { agrees = chain.agrees (λ e. fits.3 e p.seen (in_range room (seen sight words) p.seen see)); keeps = chain.keeps }
    statement_goes (Set set) words p fits h = set_goes words p set fits h
    statement_goes Empty words p fits h = record { agrees = h; keeps = keeps_itself words (λ i place. false) }

    all_go :
        (statements : Statements) (words : Words Bool) (p : Progress) → AllFit room (blocking_of sight) statements → Agrees room sight words p
        → Goes room sight words (all_bits bits sight tt words statements).1 (effects statements p) (all_set statements)
    all_go end words p fits h = record { agrees = h; keeps = keeps_itself words (λ i place. false) }
    all_go (more statement statements) words p fits h =
        let one = statement_goes statement words p fits.0 h in
        let middle : Words Bool = (statement_bits bits sight tt words statement).1 in
        let rest = all_go statements middle (effect statement p) fits.1 one.agrees in
        record {
          agrees = rest.agrees;
          keeps = keeps_then words middle (all_bits bits sight tt middle statements).1 (sets statement) (all_set statements) one.keeps rest.keeps;
        }

    arms_go :
        (arms : Arms) (otherwise : Default) (behind : Unit {0} → Words Bool → Step (Unit {0}) (Words Bool)) (beyond : Progress → Progress)
        → ((words : Words Bool) (p : Progress) → Agrees room sight words p → Goes room sight words (behind tt words).1 (beyond p) (default_sets otherwise))
        → (bs : List Bool) (w : PlainWord) (width : ℕ) (full : Bool) (words : Words Bool) (p : Progress)
        → Spells bs w → w.width ≡ width → ArmsFit room (blocking_of sight) width arms → Agrees room sight words p
        → Chain room sight words (arm_bits bits sight bs full tt words arms otherwise behind).1 (arms_effect w arms beyond p) (λ i place. arms_set arms i place || default_sets otherwise i place)
        (full ≡ true → (any_chosen p.seen w arms || has_default otherwise) ≡ true)
    arms_go no_arm otherwise behind beyond ends bs w width full words p spells is fits h =
        let last = ends words p h in record { agrees = λ covered. last.agrees; keeps = last.keeps }
    arms_go (arm labels body no_arm) no_default behind beyond ends bs w width true words p spells is fits h =
        let one = statement_goes body words p fits.1 h in
        record {
          agrees = λ covered.
              let taken : is_chosen p.seen w labels ≡ true = last_covered (is_chosen p.seen w labels) (covered refl) in
              subst (λ b. Agrees room sight (statement_bits bits sight tt words body).1 (cond b (effect body p) (beyond p))) (sym taken) one.agrees;
          keeps = keeps_more words (statement_bits bits sight tt words body).1 (sets body) (λ i place. sets body i place || false || false)
              (λ i place e. left_false (sets body i place) false (left_false (sets body i place || false) false e)) one.keeps;
        }
    arms_go (arm labels body no_arm) no_default behind beyond ends bs w width false words p spells is fits h =
        tested labels body no_arm no_default behind beyond bs w width false words p spells is fits.0 h
        (statement_goes body words p fits.1 h) (arms_go no_arm no_default behind beyond ends bs w width false words p spells is fits.2 h)
    arms_go (arm labels body no_arm) (default st) behind beyond ends bs w width full words p spells is fits h =
        tested labels body no_arm (default st) behind beyond bs w width full words p spells is fits.0 h
        (statement_goes body words p fits.1 h) (arms_go no_arm (default st) behind beyond ends bs w width full words p spells is fits.2 h)
    arms_go (arm labels body (arm ls b as_)) otherwise behind beyond ends bs w width full words p spells is fits h =
        tested labels body (arm ls b as_) otherwise behind beyond bs w width full words p spells is fits.0 h
        (statement_goes body words p fits.1 h) (arms_go (arm ls b as_) otherwise behind beyond ends bs w width full words p spells is fits.2 h)

    default_goes :
        (otherwise : Default) (words : Words Bool) (p : Progress) → DefaultFits room (blocking_of sight) otherwise → Agrees room sight words p
        → Goes room sight words (default_bits bits sight tt words otherwise).1 (default_effect otherwise p) (default_sets otherwise)
    default_goes no_default words p fits h = record { agrees = h; keeps = keeps_itself words (λ i place. false) }
    default_goes (default statement) words p fits h = statement_goes statement words p fits h
