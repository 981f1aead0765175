-- Reading a list with commas one part after the other, as a loop does.
use Rattle.std.proofs.Common.{◌≡◌, ℕ, zero, suc, List, [], ◌∷◌, length, Bool, Option, Some, None, refl, sym, ap, ◌∙◌}
use Rattle.rst_tree.specs.Trees.{Tree, Trees}
use Rattle.rst_tree.specs.Trees as trees
use Rattle.rst_grammar.specs.declared.symbol.Symbol.{Symbol}
use Rattle.rst_grammar.specs.declared.symbol.Symbol.TheVariants as symbol
use Rattle.rst_grammar.specs.declared.symbol.Terminal.TheVariants as terminal
use Rattle.rst_grammar.specs.Reading.{after, Readers, more_in, list_from, ◌>>=◌}
use Rattle.rst_grammar.specs.ReadStatement.{label_in, more_labels, labels_in}
use Rattle.rst_read.specs.declared.stop.Stop.{Stop}
use Rattle.rst_read.specs.Gives.{Fails}
use Rattle.rst_read.proofs.Chains.{Chain, Found, with_front, with_first, begins, goes_on, ends, stops}

-- a comma and a part, at most this many times
abbrev pub more_by : {X L : Type 0} → Chain X L → (List Symbol → Option (X × List Symbol)) → ℕ → List Symbol → Found L
more_by c read zero rest = Some (c.none, rest)
more_by c read (suc most) (symbol.Terminal terminal.Comma ∷ rest) = read rest >>= λ first. with_first c first.0 (more_by c read most first.1)
more_by c read (suc most) rest = Some (c.none, rest)

comma_is : (ts next : List Symbol) → after terminal.Comma ts ≡ Some next → ts ≡ symbol.Terminal terminal.Comma ∷ next
comma_is [] next e = absurd cc
comma_is (symbol.Terminal terminal.Comma ∷ ts) next e = cc
comma_is (s ∷ ts) next e = absurd cc

no_comma : {X L : Type 0} (c : Chain X L) (read : List Symbol → Option (X × List Symbol)) (k : ℕ) (ts : List Symbol) → after terminal.Comma ts ≡ None → more_by c read k ts ≡ Some (c.none, ts)
no_comma c read zero ts e = refl
no_comma c read (suc k) [] e = refl
no_comma c read (suc k) (symbol.Terminal terminal.Comma ∷ ts) e = absurd cc
no_comma c read (suc k) (s ∷ ts) e = refl

-- a list of one part, so far
pub one_read : {X L : Type 0} (c : Chain X L) (read : List Symbol → Option (X × List Symbol)) (k : ℕ) (front : L) (first : X) (rest behind : List Symbol)
    → front ≡ c.more first c.none → behind ≡ rest → k ≡ length rest → with_front c front (more_by c read k behind) ≡ with_first c first (more_by c read (length rest) rest)
one_read c read k front first rest behind e same n =
    let all = more_by c read (length rest) rest in
    let moved : with_front c front (more_by c read k behind) ≡ with_front c (c.appended c.none first) all = rw (e, same, n, c.one first) refl in
    moved ∙ goes_on c c.none first (with_first c first all) all _ refl refl ∙ begins c c.none (with_first c first all) refl

pub comma_goes_on : {X L : Type 0} (c : Chain X L) (read : List Symbol → Option (X × List Symbol)) (k j : ℕ) (front : L) (x : X) (rest next behind : List Symbol) (total : Found L)
    → k ≡ suc j → after terminal.Comma rest ≡ Some next → read next ≡ Some (x, behind)
    → with_front c front (more_by c read k rest) ≡ total → with_front c (c.appended front x) (more_by c read j behind) ≡ total
comma_goes_on c read k j front x rest next behind total n a h so_far =
    goes_on c front x (more_by c read k rest) (more_by c read j behind) total (rw (n, comma_is rest next a, h) refl) so_far

pub comma_stops : {X L : Type 0} (c : Chain X L) (read : List Symbol → Option (X × List Symbol)) (k : ℕ) (front : L) (rest : List Symbol) (total : Found L)
    → after terminal.Comma rest ≡ None → with_front c front (more_by c read k rest) ≡ total → total ≡ Some (front, rest)
comma_stops c read k front rest total a so_far = ends c front rest (more_by c read k rest) total (no_comma c read k rest a) so_far

pub comma_done : {X L : Type 0} (c : Chain X L) (read : List Symbol → Option (X × List Symbol)) (k : ℕ) (front : L) (rest : List Symbol) (total : Found L)
    → k ≡ 0 → with_front c front (more_by c read k rest) ≡ total → total ≡ Some (front, rest)
comma_done c read k front rest total z so_far = ends c front rest (more_by c read k rest) total (ap (λ n. more_by c read n rest) z) so_far

pub comma_fails : {X L : Type 0} (c : Chain X L) (e : Stop) (read : List Symbol → Option (X × List Symbol)) (k j : ℕ) (front : L) (rest next : List Symbol) (total : Found L)
    → k ≡ suc j → after terminal.Comma rest ≡ Some next → Fails e (read next) → with_front c front (more_by c read k rest) ≡ total → Fails e total
comma_fails c e read k j front rest next total n a h so_far =
    stops c e front (read next) (more_by c read k rest) total h (λ none. rw (n, comma_is rest next a, none) refl) so_far

-- ---- expressions and labels

pub joined_trees : Trees → Trees → Trees
joined_trees trees.end ys = ys
joined_trees (trees.more x xs) ys = trees.more x (joined_trees xs ys)

pub before_none : (xs : Trees) → joined_trees xs trees.end ≡ xs
unfolding joined_trees
before_none trees.end = refl
before_none (trees.more x xs) = ap (trees.more x) (before_none xs)

pub along : (xs : Trees) (x : Tree) (ys : Trees) → joined_trees (trees.appended xs x) ys ≡ joined_trees xs (trees.more x ys)
unfolding joined_trees
along trees.end x ys = refl
along (trees.more z zs) x ys = ap (trees.more z) (along zs x ys)

pub behind_none : (xs : Trees) → joined_trees trees.end xs ≡ xs
unfolding joined_trees
behind_none xs = refl

abbrev pub of_trees : Chain Tree Trees
of_trees = record { none = trees.end; more = trees.more; appended = trees.appended; joined = joined_trees; behind_none = behind_none; before_none = before_none; one = λ x. refl; along = along }

pub same_step : {A B : Type 0} (o : Option A) (f g : A → Option B) → ((a : A) → f a ≡ g a) → (o >>= f) ≡ (o >>= g)
same_step (Some a) f g e = e a
same_step None f g e = refl

more_in-is : (r : Readers) (k : ℕ) (ts : List Symbol) → more_in r k ts ≡ more_by of_trees r.full k ts
unfolding more_in
more_in-is r zero ts = refl
more_in-is r (suc k) [] = refl
more_in-is r (suc k) (symbol.Terminal terminal.Comma ∷ ts) = same_step (r.full ts) _ _ (λ first. ap (with_first of_trees first.0) (more_in-is r k first.1))
more_in-is r (suc k) (s ∷ ts) = refl

pub list_begins : (r : Readers) (k : ℕ) (front : Trees) (first : Tree) (rest behind : List Symbol)
    → front ≡ trees.more first trees.end → behind ≡ rest → k ≡ length rest → with_front of_trees front (more_by of_trees r.full k behind) ≡ list_from r first rest
unfolding list_from
list_begins r k front first rest behind e same n =
    one_read of_trees r.full k front first rest behind e same n ∙ ap (with_first of_trees first) (sym (more_in-is r (length rest) rest))

more_labels-is : (r : Readers) (wild : Bool) (k : ℕ) (ts : List Symbol) → more_labels r wild k ts ≡ more_by of_trees (label_in r wild) k ts
unfolding more_labels
more_labels-is r wild zero ts = refl
more_labels-is r wild (suc k) [] = refl
more_labels-is r wild (suc k) (symbol.Terminal terminal.Comma ∷ ts) = same_step (label_in r wild ts) _ _ (λ first. ap (with_first of_trees first.0) (more_labels-is r wild k first.1))
more_labels-is r wild (suc k) (s ∷ ts) = refl

pub labels_begin : (r : Readers) (wild : Bool) (k : ℕ) (front : Trees) (first : Tree) (ts rest behind : List Symbol)
    → label_in r wild ts ≡ Some (first, rest) → front ≡ trees.more first trees.end → behind ≡ rest → k ≡ length rest
    → with_front of_trees front (more_by of_trees (label_in r wild) k behind) ≡ labels_in r wild ts
unfolding labels_in
labels_begin r wild k front first ts rest behind h e same n =
    one_read of_trees (label_in r wild) k front first rest behind e same n ∙ ap (with_first of_trees first) (sym (more_labels-is r wild (length rest) rest)) ∙ rw h refl
