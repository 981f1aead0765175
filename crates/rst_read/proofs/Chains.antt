-- Lists that are read one part after the other, as a loop does.
use Rattle.std.proofs.Common.{◌≡◌, List, Option, Some, None, refl, sym, ap, ◌∙◌}
use Rattle.rst_grammar.specs.declared.symbol.Symbol.{Symbol}
use Rattle.rst_grammar.specs.Reading.{◌>>=◌}
use Rattle.rst_read.specs.declared.stop.Stop.{Stop}
use Rattle.rst_read.specs.declared.stop.Stop.TheVariants as stop
use Rattle.rst_read.specs.Gives.{Fails}

-- a type of lists of parts, with a part at the front or at the back, and one list behind the other
pub record Chain (X L : Type 0) : Type 0 where
  pub none : L
  pub more : X → L → L
  pub appended : L → X → L
  pub joined : L → L → L
  pub behind_none : (xs : L) → joined none xs ≡ xs
  pub before_none : (xs : L) → joined xs none ≡ xs
  pub one : (x : X) → appended none x ≡ more x none
  pub along : (xs : L) (x : X) (ys : L) → joined (appended xs x) ys ≡ joined xs (more x ys)

-- a list, and the symbols behind it
abbrev pub Found : Type 0 → Type 0
Found L = Option (L × List Symbol)

-- what was read before, and what is still read
abbrev pub with_front : {X L : Type 0} → Chain X L → L → Found L → Found L
with_front c front read = read >>= λ o. Some (c.joined front o.0, o.1)

-- a part, and what is read behind it
abbrev pub with_first : {X L : Type 0} → Chain X L → X → Found L → Found L
with_first c x read = read >>= λ o. Some (c.more x o.0, o.1)

-- nothing was read before
pub begins : {X L : Type 0} (c : Chain X L) (front : L) (read : Found L) → front ≡ c.none → with_front c front read ≡ read
begins c front (Some o) e = ap (λ xs. Some (c.joined xs o.0, o.1)) e ∙ ap (λ xs. Some (xs, o.1)) (c.behind_none o.0)
begins c front None e = refl

-- one more part
pub goes_on : {X L : Type 0} (c : Chain X L) (front : L) (x : X) (read next total : Found L) → read ≡ with_first c x next → with_front c front read ≡ total → with_front c (c.appended front x) next ≡ total
goes_on c front x read (Some o) total e so_far = ap (λ xs. Some (xs, o.1)) (c.along front x o.0) ∙ ap (with_front c front) (sym e) ∙ so_far
goes_on c front x read None total e so_far = ap (with_front c front) (sym e) ∙ so_far

-- no more parts
pub ends : {X L : Type 0} (c : Chain X L) (front : L) (rest : List Symbol) (read total : Found L) → read ≡ Some (c.none, rest) → with_front c front read ≡ total → total ≡ Some (front, rest)
ends c front rest read total e so_far = sym so_far ∙ ap (with_front c front) e ∙ ap (λ xs. Some (xs, rest)) (c.before_none front)

-- nothing is read any more
pub fails : {X L : Type 0} (c : Chain X L) (front : L) (read total : Found L) → read ≡ None → with_front c front read ≡ total → total ≡ None
fails c front read total e so_far = sym so_far ∙ ap (with_front c front) e

-- the part isn't read
pub stops : {X L : Type 0} {Y : Type 0} (c : Chain X L) (e : Stop) (front : L) (part : Option Y) (read total : Found L) → Fails e part → (part ≡ None → read ≡ None) → with_front c front read ≡ total → Fails e total
stops c stop.NoMemory front part read total h none so_far = tt
stops c stop.NoTree front part read total h none so_far = fails c front read total (none h) so_far

-- steps one behind the other, grouped to the left
pub regrouped : {A B C : Type 0} (o : Option A) (f : A → Option B) (g : B → Option C) (h : A → Option C) → ((a : A) → h a ≡ (f a >>= g)) → (o >>= h) ≡ ((o >>= f) >>= g)
regrouped (Some a) f g h e = e a
regrouped None f g h e = refl
