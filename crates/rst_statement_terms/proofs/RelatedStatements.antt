-- The terms of statements in two algebras whose operations respect a relation.
use Rattle.std.proofs.Common.{◌≡◌, ℕ, ◌/◌, ◌%◌, eqb, Bool, true, false, ◌||◌, List, [], ◌∷◌, cond}
use Rattle.std.proofs.lemmas.Bool.{cond_both}
use Rattle.std.specs.List.{AllZip}
use Rattle.rst_terms.specs.declared.kinds.Connective.TheVariants.{Or}
use Rattle.rst_terms.specs.Algebras.{Algebra, Step}
use Rattle.rst_terms.specs.Recurrences.{reduced, equal}
use Rattle.rst_terms.proofs.Respects.{Respects}
use Rattle.rst_terms.proofs.Respects as law
use Rattle.rst_typed_terms.specs.Expressions.{expression_bits}
use Rattle.rst_typed_terms.proofs.Related.{expression_good, expression_related}
use Rattle.rst_net.specs.Statements.{Label, Statement, Statements, Arms, Default, Block, If, Case, Set, Empty, end, more, no_arm, arm, no_default, default}
use Rattle.rst_cycle.specs.Drivers.{sets, arms_set, default_sets}
use Rattle.rst_statement_terms.specs.Targets.{Words, word_of, with_target, merged}
use Rattle.rst_statement_terms.specs.Statements.{Sight, Held, Current, seen, unmasked, label_bits, is_last, statement_bits, all_bits, arm_bits, default_bits}
use Rattle.rst_statement_terms.specs.StatementLaws.{SeeAlike}
use Rattle.rst_statement_terms.proofs.RelatedWords as table

module _ {S T X Y : Type 0} (Good : S → Type 0) (R : X → Y → Type 0) (A : Algebra S X) (B : Algebra T Y) (r : Respects Good R A B) where
  seen_related : (reads : Sight X) (others : Sight Y) (ws : Words X) (vs : Words Y) (i : ℕ) → SeeAlike R reads others → AllZip (AllZip R) ws vs → AllZip R (seen reads ws i) (seen others vs i)
  seen_related (Held us) (Held zs) ws vs i p q = table.word_related Good R A B r us zs i p
  seen_related (Held us) Current ws vs i p q = absurd p
  seen_related Current (Held zs) ws vs i p q = absurd p
  seen_related Current Current ws vs i p q = table.word_related Good R A B r ws vs i q

  any_cond :
      (b : Bool) (x y : Step S (Words X)) (u v : Step T (Words Y))
      → (Good x.0 → AllZip (AllZip R) x.1 u.1) → (Good y.0 → AllZip (AllZip R) y.1 v.1) → Good (cond b x y).0 → AllZip (AllZip R) (cond b x y).1 (cond b u v).1
  any_cond true x y u v h k = h
  any_cond false x y u v h k = k

  dropped : (b : Bool) (x : X) (u : Y) (xs : List X) (us : List Y) → R x u → AllZip R xs us → AllZip R (cond b xs (x ∷ xs)) (cond b us (u ∷ us))
  dropped true x u xs us p q = q
  dropped false x u xs us p q = (p, q)

  unmasked_related : (mask : ℕ) (xs : List X) (us : List Y) → AllZip R xs us → AllZip R (unmasked mask xs) (unmasked mask us)
  unmasked_related mask [] [] p = tt
  unmasked_related mask [] (u ∷ us) p = absurd p
  unmasked_related mask (x ∷ xs) [] p = absurd p
  unmasked_related mask (x ∷ xs) (u ∷ us) p =
      dropped (eqb (mask % 2) 1) x u (unmasked (mask / 2) xs) (unmasked (mask / 2) us) p.0 (unmasked_related (mask / 2) xs us p.1)

  labels_good : (signals : ℕ → List X) (selector : List X) (labels : List Label) (s : S) → Good (label_bits A signals selector s labels).0 → Good s
  labels_good signals selector [] s g = g
  labels_good signals selector (label ∷ labels) s g =
      let e : Step S (List X) = expression_bits A signals s label.value in
      let m : Step S X = equal A e.0 (unmasked label.mask selector) (unmasked label.mask e.1) in
      expression_good Good R A B r signals label.value s
      (law.equal_good Good R A B r (unmasked label.mask selector) (unmasked label.mask e.1) e.0 (labels_good signals selector labels m.0 g))

  labels_related :
      (signals : ℕ → List X) (others : ℕ → List Y) → ((i : ℕ) → AllZip R (signals i) (others i)) → (selector : List X) (other : List Y) → AllZip R selector other
      → (labels : List Label) (s : S) (t : T) → Good (label_bits A signals selector s labels).0
      → AllZip R (label_bits A signals selector s labels).1 (label_bits B others other t labels).1
  labels_related signals others same selector other p [] s t g = tt
  labels_related signals others same selector other p (label ∷ labels) s t g =
      let e : Step S (List X) = expression_bits A signals s label.value in
      let f : Step T (List Y) = expression_bits B others t label.value in
      let m : Step S X = equal A e.0 (unmasked label.mask selector) (unmasked label.mask e.1) in
      let n : Step T Y = equal B f.0 (unmasked label.mask other) (unmasked label.mask f.1) in
      let g1 : Good m.0 = labels_good signals selector labels m.0 g in
      let g0 : Good e.0 = law.equal_good Good R A B r (unmasked label.mask selector) (unmasked label.mask e.1) e.0 g1 in (
        law.equal_related Good R A B r (unmasked label.mask selector) (unmasked label.mask e.1) (unmasked label.mask other) (unmasked label.mask f.1) e.0 f.0 g1
            (unmasked_related label.mask selector other p)
            (unmasked_related label.mask e.1 f.1 (expression_related Good R A B r signals others same label.value s t g0)),
        labels_related signals others same selector other p labels m.0 n.0 g,
      )

  mutual
    pub statement_good : (reads : Sight X) (st : Statement) (s : S) (words : Words X) → Good (statement_bits A reads s words st).0 → Good s
    statement_good reads (Block statements) s words g = all_good reads statements s words g
    statement_good reads (If condition first second) s words g =
        let c : Step S (List X) = expression_bits A (seen reads words) s condition in
        let test : Step S X = reduced A Or c.0 c.1 in
        let y : Step S (Words X) = statement_bits A reads test.0 words first in
        let n : Step S (Words X) = statement_bits A reads y.0 words second in
        expression_good Good R A B r (seen reads words) condition s
        (law.reduced_good Good R A B r Or c.1 c.0
        (statement_good reads first test.0 words
        (statement_good reads second y.0 words
        (table.merged_good Good R A B r (λ i place. sets first i place || sets second i place) test.1 y.1 n.1 0 n.0 g))))
    statement_good reads (Case selector arms otherwise full) s words g =
        let c : Step S (List X) = expression_bits A (seen reads words) s selector in
        expression_good Good R A B r (seen reads words) selector s
        (arm_good reads c.1 full arms otherwise (λ t us. default_bits A reads t us otherwise) (default_good reads otherwise) c.0 words g)
    statement_good reads (Set set) s words g = expression_good Good R A B r (seen reads words) set.value s g
    statement_good reads Empty s words g = g

    all_good : (reads : Sight X) (statements : Statements) (s : S) (words : Words X) → Good (all_bits A reads s words statements).0 → Good s
    all_good reads end s words g = g
    all_good reads (more statement statements) s words g =
        let one : Step S (Words X) = statement_bits A reads s words statement in
        statement_good reads statement s words (all_good reads statements one.0 one.1 g)

    arm_good :
        (reads : Sight X) (selector : List X) (full : Bool) (arms : Arms) (otherwise : Default) (behind : S → Words X → Step S (Words X))
        → ((s : S) (words : Words X) → Good (behind s words).0 → Good s)
        → (s : S) (words : Words X) → Good (arm_bits A reads selector full s words arms otherwise behind).0 → Good s
    arm_good reads selector full no_arm otherwise behind good s words g = good s words g
    arm_good reads selector full (arm labels body arms) otherwise behind good s words g =
        let m : Step S (List X) = label_bits A (seen reads words) selector s labels in
        let test : Step S X = reduced A Or m.0 m.1 in
        let y : Step S (Words X) = statement_bits A reads test.0 words body in
        let n : Step S (Words X) = arm_bits A reads selector full y.0 words arms otherwise behind in
        cond_both (is_last full arms otherwise) (statement_bits A reads s words body)
        (merged A n.0 test.1 (λ i place. sets body i place || (arms_set arms i place || default_sets otherwise i place)) 0 y.1 n.1)
        (λ (z : Step S (Words X)). Good z.0 → Good s)
        (λ _ g. statement_good reads body s words g)
        (λ _ g.
        labels_good (seen reads words) selector labels s
        (law.reduced_good Good R A B r Or m.1 m.0
        (statement_good reads body test.0 words
        (arm_good reads selector full arms otherwise behind good y.0 words
        (table.merged_good Good R A B r (λ i place. sets body i place || (arms_set arms i place || default_sets otherwise i place)) test.1 y.1 n.1 0 n.0 g)))))
        g

    default_good : (reads : Sight X) (otherwise : Default) (s : S) (words : Words X) → Good (default_bits A reads s words otherwise).0 → Good s
    default_good reads no_default s words g = g
    default_good reads (default statement) s words g = statement_good reads statement s words g

  mutual
    pub statement_related :
        (reads : Sight X) (others : Sight Y) → SeeAlike R reads others → (st : Statement) (s : S) (t : T) (ws : Words X) (vs : Words Y) → AllZip (AllZip R) ws vs
        → Good (statement_bits A reads s ws st).0 → AllZip (AllZip R) (statement_bits A reads s ws st).1 (statement_bits B others t vs st).1
    statement_related reads others see (Block statements) s t ws vs p g = all_related reads others see statements s t ws vs p g
    statement_related reads others see (If condition first second) s t ws vs p g =
        let c : Step S (List X) = expression_bits A (seen reads ws) s condition in
        let test : Step S X = reduced A Or c.0 c.1 in
        let y : Step S (Words X) = statement_bits A reads test.0 ws first in
        let n : Step S (Words X) = statement_bits A reads y.0 ws second in
        let d : Step T (List Y) = expression_bits B (seen others vs) t condition in
        let tested : Step T Y = reduced B Or d.0 d.1 in
        let u : Step T (Words Y) = statement_bits B others tested.0 vs first in
        let v : Step T (Words Y) = statement_bits B others u.0 vs second in
        let g3 : Good n.0 = table.merged_good Good R A B r (λ i place. sets first i place || sets second i place) test.1 y.1 n.1 0 n.0 g in
        let g2 : Good y.0 = statement_good reads second y.0 ws g3 in
        let g1 : Good test.0 = statement_good reads first test.0 ws g2 in
        let g0 : Good c.0 = law.reduced_good Good R A B r Or c.1 c.0 g1 in
        table.merged_related Good R A B r (λ i place. sets first i place || sets second i place) test.1 tested.1 y.1 n.1 u.1 v.1 0 n.0 v.0 g
        (law.reduced_related Good R A B r Or c.1 d.1 c.0 d.0 g1
        (expression_related Good R A B r (seen reads ws) (seen others vs) (λ i. seen_related reads others ws vs i see p) condition s t g0))
        (statement_related reads others see first test.0 tested.0 ws vs p g2) (statement_related reads others see second y.0 u.0 ws vs p g3)
    statement_related reads others see (Case selector arms otherwise full) s t ws vs p g =
        let c : Step S (List X) = expression_bits A (seen reads ws) s selector in
        let d : Step T (List Y) = expression_bits B (seen others vs) t selector in
        let g0 : Good c.0 = arm_good reads c.1 full arms otherwise (λ t us. default_bits A reads t us otherwise) (default_good reads otherwise) c.0 ws g in
        arm_related reads others see c.1 d.1
        (expression_related Good R A B r (seen reads ws) (seen others vs) (λ i. seen_related reads others ws vs i see p) selector s t g0)
        full arms otherwise (λ t us. default_bits A reads t us otherwise) (λ t us. default_bits B others t us otherwise)
        (default_good reads otherwise) (default_related reads others see otherwise) c.0 d.0 ws vs p g
    statement_related reads others see (Set set) s t ws vs p g =
        table.target_related Good R A B r set.target (expression_bits A (seen reads ws) s set.value).1 (expression_bits B (seen others vs) t set.value).1 ws vs
        (expression_related Good R A B r (seen reads ws) (seen others vs) (λ i. seen_related reads others ws vs i see p) set.value s t g) p
    statement_related reads others see Empty s t ws vs p g = p

    all_related :
        (reads : Sight X) (others : Sight Y) → SeeAlike R reads others → (statements : Statements) (s : S) (t : T) (ws : Words X) (vs : Words Y) → AllZip (AllZip R) ws vs
        → Good (all_bits A reads s ws statements).0 → AllZip (AllZip R) (all_bits A reads s ws statements).1 (all_bits B others t vs statements).1
    all_related reads others see end s t ws vs p g = p
    all_related reads others see (more statement statements) s t ws vs p g =
        let one : Step S (Words X) = statement_bits A reads s ws statement in
        let other : Step T (Words Y) = statement_bits B others t vs statement in
        all_related reads others see statements one.0 other.0 one.1 other.1
        (statement_related reads others see statement s t ws vs p (all_good reads statements one.0 one.1 g)) g

    arm_related :
        (reads : Sight X) (others : Sight Y) → SeeAlike R reads others → (selector : List X) (other : List Y) → AllZip R selector other
        → (full : Bool) (arms : Arms) (otherwise : Default) (behind : S → Words X → Step S (Words X)) (beyond : T → Words Y → Step T (Words Y))
        → ((s : S) (words : Words X) → Good (behind s words).0 → Good s)
        → ((s : S) (t : T) (ws : Words X) (vs : Words Y) → AllZip (AllZip R) ws vs → Good (behind s ws).0 → AllZip (AllZip R) (behind s ws).1 (beyond t vs).1)
        → (s : S) (t : T) (ws : Words X) (vs : Words Y) → AllZip (AllZip R) ws vs
        → Good (arm_bits A reads selector full s ws arms otherwise behind).0
        → AllZip (AllZip R) (arm_bits A reads selector full s ws arms otherwise behind).1 (arm_bits B others other full t vs arms otherwise beyond).1
    arm_related reads others see selector other q full no_arm otherwise behind beyond good alike s t ws vs p g = alike s t ws vs p g
    arm_related reads others see selector other q full (arm labels body arms) otherwise behind beyond good alike s t ws vs p g =
        let m : Step S (List X) = label_bits A (seen reads ws) selector s labels in
        let test : Step S X = reduced A Or m.0 m.1 in
        let y : Step S (Words X) = statement_bits A reads test.0 ws body in
        let n : Step S (Words X) = arm_bits A reads selector full y.0 ws arms otherwise behind in
        let k : Step T (List Y) = label_bits B (seen others vs) other t labels in
        let tested : Step T Y = reduced B Or k.0 k.1 in
        let u : Step T (Words Y) = statement_bits B others tested.0 vs body in
        let v : Step T (Words Y) = arm_bits B others other full u.0 vs arms otherwise beyond in
        any_cond (is_last full arms otherwise) (statement_bits A reads s ws body)
        (merged A n.0 test.1 (λ i place. sets body i place || (arms_set arms i place || default_sets otherwise i place)) 0 y.1 n.1)
        (statement_bits B others t vs body)
        (merged B v.0 tested.1 (λ i place. sets body i place || (arms_set arms i place || default_sets otherwise i place)) 0 u.1 v.1)
        (λ g. statement_related reads others see body s t ws vs p g)
        (λ g.
        let g3 : Good n.0 = table.merged_good Good R A B r (λ i place. sets body i place || (arms_set arms i place || default_sets otherwise i place)) test.1 y.1 n.1 0 n.0 g in
        let g2 : Good y.0 = arm_good reads selector full arms otherwise behind good y.0 ws g3 in
        let g1 : Good test.0 = statement_good reads body test.0 ws g2 in
        let g0 : Good m.0 = law.reduced_good Good R A B r Or m.1 m.0 g1 in
        table.merged_related Good R A B r (λ i place. sets body i place || (arms_set arms i place || default_sets otherwise i place)) test.1 tested.1 y.1 n.1 u.1 v.1 0 n.0 v.0 g
        (law.reduced_related Good R A B r Or m.1 k.1 m.0 k.0 g1
        (labels_related (seen reads ws) (seen others vs) (λ i. seen_related reads others ws vs i see p) selector other q labels s t g0))
        (statement_related reads others see body test.0 tested.0 ws vs p g2)
        (arm_related reads others see selector other q full arms otherwise behind beyond good alike y.0 u.0 ws vs p g3))
        g

    default_related :
        (reads : Sight X) (others : Sight Y) → SeeAlike R reads others → (otherwise : Default) (s : S) (t : T) (ws : Words X) (vs : Words Y) → AllZip (AllZip R) ws vs
        → Good (default_bits A reads s ws otherwise).0 → AllZip (AllZip R) (default_bits A reads s ws otherwise).1 (default_bits B others t vs otherwise).1
    default_related reads others see no_default s t ws vs p g = p
    default_related reads others see (default statement) s t ws vs p g = statement_related reads others see statement s t ws vs p g
