-- What a block leaves bits with, by structure: which bits it leaves alone, and on what those that it sets rest.
use Rattle.std.proofs.Common.{◌≡◌, ◌∙◌, ℕ, Bool, true, false, not, ◌&&◌, ◌||◌, List, ◌++◌, cond, refl, sym, ap}
use Rattle.std.proofs.lemmas.Bool.{or_parts}
use Rattle.std.proofs.lemmas.List.Folds.{list_any-append}
use Rattle.rst_word.specs.Words.{PlainWord}
use Rattle.rst_word.specs.Unary.{is_true}
use Rattle.rst_width.specs.Values.{value}
use Rattle.rst_net.specs.declared.signal.Slice.{Slice}
use Rattle.rst_net.specs.Statements.{Statement, Statements, Arms, Default, Block, If, Case, Set, Empty, end, more, no_arm, arm, no_default, default}
use Rattle.rst_cycle.specs.Effects.{Progress, effect, effects, arms_effect, default_effect, is_chosen}
use Rattle.rst_cycle.specs.Drivers.{slice_has, target_has, sets, all_set, arms_set, default_sets}
use Rattle.rst_blocks.specs.Reads.{reads_of, label_reads, reads_in, reads_in_all, reads_in_arms, reads_in_default}
use Rattle.rst_blocks.specs.Surely.{surely, surely_all, surely_arms, surely_end, early, early_all, early_arms, early_default}
use Rattle.rst_settled.proofs.Targets.{bit, target_leaves}

-- ---- bits that a statement doesn't set

chosen_leaves : (c : Bool) (y n p : Progress) (i place : ℕ) → bit y.last i place ≡ bit p.last i place → bit n.last i place ≡ bit p.last i place
    → bit (cond c y n).last i place ≡ bit p.last i place
chosen_leaves true y n p i place h k = h
chosen_leaves false y n p i place h k = k

module _ (i place : ℕ) where
  mutual
    pub statement_leaves : (st : Statement) (p : Progress) → sets st i place ≡ false → bit (effect st p).last i place ≡ bit p.last i place
    statement_leaves (Block statements) p h = all_leave statements p h
    statement_leaves (If condition first second) p h =
        let no = or_parts (sets first i place) (sets second i place) h in
        chosen_leaves (is_true (value p.seen condition)) (effect first p) (effect second p) p i place (statement_leaves first p no.0)
        (statement_leaves second p no.1)
    statement_leaves (Case selector arms otherwise full) p h =
        let no = or_parts (arms_set arms i place) (default_sets otherwise i place) h in
        arms_leave arms (value p.seen selector) (λ q. default_effect otherwise q) p (default_leaves otherwise p no.1) no.0
    statement_leaves (Set set) p h = target_leaves set.target (value p.seen set.value).value p.last i place h
    statement_leaves Empty p h = refl

    all_leave : (statements : Statements) (p : Progress) → all_set statements i place ≡ false → bit (effects statements p).last i place ≡ bit p.last i place
    all_leave end p h = refl
    all_leave (more statement statements) p h =
        let no = or_parts (sets statement i place) (all_set statements i place) h in
        all_leave statements (effect statement p) no.1 ∙ statement_leaves statement p no.0

    arms_leave :
        (arms : Arms) (w : PlainWord) (behind : Progress → Progress) (p : Progress) → bit (behind p).last i place ≡ bit p.last i place
        → arms_set arms i place ≡ false → bit (arms_effect w arms behind p).last i place ≡ bit p.last i place
    arms_leave no_arm w behind p ends h = ends
    arms_leave (arm labels body arms) w behind p ends h =
        let no = or_parts (sets body i place) (arms_set arms i place) h in
        chosen_leaves (is_chosen p.seen w labels) (effect body p) (arms_effect w arms behind p) p i place (statement_leaves body p no.0)
        (arms_leave arms w behind p ends no.1)

    default_leaves : (otherwise : Default) (p : Progress) → default_sets otherwise i place ≡ false
        → bit (default_effect otherwise p).last i place ≡ bit p.last i place
    default_leaves no_default p h = refl
    default_leaves (default statement) p h = statement_leaves statement p h

  -- ---- a bit that is set before

  both_true : (a b : Bool) → a ≡ true → b ≡ true → (a && b) ≡ true
  both_true true b h k = k
  both_true false b h k = cc

  mutual
    pub surely_before : (st : Statement) → surely i place st true ≡ true
    surely_before (Block statements) = all_before statements
    surely_before (If condition first second) = both_true (surely i place first true) (surely i place second true) (surely_before first) (surely_before second)
    surely_before (Case selector arms otherwise full) = both_true (surely_end i place otherwise full true) (surely_arms i place arms true)
        (end_before otherwise full) (arms_before arms)
    surely_before (Set set) = refl
    surely_before Empty = refl

    all_before : (statements : Statements) → surely_all i place statements true ≡ true
    all_before end = refl
    all_before (more statement statements) = ap (surely_all i place statements) (surely_before statement) ∙ all_before statements

    arms_before : (arms : Arms) → surely_arms i place arms true ≡ true
    arms_before no_arm = refl
    arms_before (arm labels body arms) = both_true (surely i place body true) (surely_arms i place arms true) (surely_before body) (arms_before arms)

    end_before : (otherwise : Default) (full : Bool) → surely_end i place otherwise full true ≡ true
    end_before (default statement) full = surely_before statement
    end_before no_default true = refl
    end_before no_default false = refl

  -- is never read early
  either_false : (a b : Bool) → a ≡ false → b ≡ false → (a || b) ≡ false
  either_false true b h k = cc
  either_false false b h k = k

  mutual
    pub early_before : (st : Statement) → early i place st true ≡ false
    early_before (Block statements) = all_early_before statements
    early_before (If condition first second) = either_false (early i place first true) (early i place second true) (early_before first) (early_before second)
    early_before (Case selector arms otherwise full) =
        either_false (early_arms i place arms true) (early_default i place otherwise true) (arms_early_before arms) (default_early_before otherwise)
    early_before (Set set) = refl
    early_before Empty = refl

    all_early_before : (statements : Statements) → early_all i place statements true ≡ false
    all_early_before end = refl
    all_early_before (more statement statements) =
        either_false (early i place statement true) (early_all i place statements (surely i place statement true)) (early_before statement)
        (ap (early_all i place statements) (surely_before statement) ∙ all_early_before statements)

    arms_early_before : (arms : Arms) → early_arms i place arms true ≡ false
    arms_early_before no_arm = refl
    arms_early_before (arm labels body arms) = either_false (early i place body true) (early_arms i place arms true) (early_before body) (arms_early_before arms)

    default_early_before : (otherwise : Default) → early_default i place otherwise true ≡ false
    default_early_before no_default = refl
    default_early_before (default statement) = early_before statement

  -- ---- a bit that isn't read

  split : (xs ys : List Slice) → target_has (xs ++ ys) i place ≡ false → (target_has xs i place ≡ false) × (target_has ys i place ≡ false)
  split xs ys h = or_parts (target_has xs i place) (target_has ys i place) (sym (list_any-append (slice_has i place) xs ys) ∙ h)

  not_both : (b r : Bool) → r ≡ false → (not b && r) ≡ false
  not_both true r h = refl
  not_both false r h = h

  mutual
    pub early_unread : (st : Statement) (before : Bool) → target_has (reads_in st) i place ≡ false → early i place st before ≡ false
    early_unread (Block statements) before h = all_unread statements before h
    early_unread (If condition first second) before h =
        let one = split (reads_of condition) (reads_in first ++ reads_in second) h in
        let two = split (reads_in first) (reads_in second) one.1 in
        either_false (not before && target_has (reads_of condition) i place) (early i place first before || early i place second before)
        (not_both before (target_has (reads_of condition) i place) one.0)
        (either_false (early i place first before) (early i place second before) (early_unread first before two.0) (early_unread second before two.1))
    early_unread (Case selector arms otherwise full) before h =
        let one = split (reads_of selector) (reads_in_arms arms ++ reads_in_default otherwise) h in
        let two = split (reads_in_arms arms) (reads_in_default otherwise) one.1 in
        either_false (not before && target_has (reads_of selector) i place) (early_arms i place arms before || early_default i place otherwise before)
        (not_both before (target_has (reads_of selector) i place) one.0)
        (either_false (early_arms i place arms before) (early_default i place otherwise before) (arms_unread arms before two.0)
        (default_unread otherwise before two.1))
    early_unread (Set set) before h = not_both before (target_has (reads_of set.value) i place) h
    early_unread Empty before h = refl

    all_unread : (statements : Statements) (before : Bool) → target_has (reads_in_all statements) i place ≡ false → early_all i place statements before ≡ false
    all_unread end before h = refl
    all_unread (more statement statements) before h =
        let one = split (reads_in statement) (reads_in_all statements) h in
        either_false (early i place statement before) (early_all i place statements (surely i place statement before)) (early_unread statement before one.0)
        (all_unread statements (surely i place statement before) one.1)

    arms_unread : (arms : Arms) (before : Bool) → target_has (reads_in_arms arms) i place ≡ false → early_arms i place arms before ≡ false
    arms_unread no_arm before h = refl
    arms_unread (arm labels body arms) before h =
        let one = split (label_reads labels) (reads_in body ++ reads_in_arms arms) h in
        let two = split (reads_in body) (reads_in_arms arms) one.1 in
        either_false (not before && target_has (label_reads labels) i place) (early i place body before || early_arms i place arms before)
        (not_both before (target_has (label_reads labels) i place) one.0)
        (either_false (early i place body before) (early_arms i place arms before) (early_unread body before two.0) (arms_unread arms before two.1))

    default_unread : (otherwise : Default) (before : Bool) → target_has (reads_in_default otherwise) i place ≡ false → early_default i place otherwise before ≡ false
    default_unread no_default before h = refl
    default_unread (default statement) before h = early_unread statement before h
