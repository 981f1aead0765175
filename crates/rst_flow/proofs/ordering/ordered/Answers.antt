use Rattle.std.proofs.Common.{◌≡◌, ◌∙◌, refl, sym, ap, subst, ℕ, zero, suc, ◌<◌, List, [], ◌∷◌, length, map, get_or, Option, Some, None, Result, Ok, Err, IfOk, IsSome, arith, rules}
use Rattle.std.specs.List.{slice_get}
use Rattle.std.specs.declared.vec.Vec.{Vec}
use Rattle.std.specs.declared.alloc.Global.{Global}
use Rattle.rst_net.specs.declared.unit.Driver.{Driver}
use Rattle.rst_flow.specs.Edges.{pick, picks}
use Rattle.rst_flow.proofs.ordering.ordered.Goals as goal

some_at : {X : Type 0} (xs : List X) (v : ℕ) → v < length (map Some xs) → IsSome (get_or (map Some xs) v None)
some_at [] v below = absurd (omega arith)
some_at (x ∷ xs) zero below = search rules
some_at (x ∷ xs) (suc v) below = some_at xs v (omega arith)

pub take_all-requires-clause-there : goal.take_all-requires-clause-there
take_all-requires-clause-there c v below =
    subst (λ (ys : List (Option Driver)). IsSome (get_or ys v None)) (sym c.in_ok-left.ensures)
    (some_at c.args.units.items v (subst (λ (ys : List (Option Driver)). v < length ys) c.in_ok-left.ensures below))

at_get : {X : Type 0} (xs : List X) (v : ℕ) → get_or (map Some xs) v None ≡ slice_get xs v
at_get [] v = refl
at_get (x ∷ xs) zero = refl
at_get (x ∷ xs) (suc v) = at_get xs v

pick_same : {X : Type 0} (x : X) (o : Option X) (rest : List X) → Some x ≡ o → x ∷ rest ≡ pick o rest
pick_same x None rest e = absurd cc
pick_same x (Some y) rest e = ap (λ z. z ∷ rest) (same_some x y e)
  where
    same_some : {X : Type 0} (x y : X) → Some x ≡ Some y → x ≡ y
    same_some x y e = cc

heads : {X : Type 0} (x y : X) (xs ys : List X) → x ∷ xs ≡ y ∷ ys → x ≡ y
heads x y xs ys e = cc

tails : {X : Type 0} (x y : X) (xs ys : List X) → x ∷ xs ≡ y ∷ ys → xs ≡ ys
tails x y xs ys e = cc

all_picked : {X : Type 0} (xs made : List X) (order : List ℕ) → map Some made ≡ map (λ v. get_or (map Some xs) v None) order → made ≡ picks xs order
all_picked xs [] [] e = refl
all_picked xs [] (v ∷ order) e = absurd cc
all_picked xs (m ∷ made) [] e = absurd cc
all_picked xs (m ∷ made) (v ∷ order) e =
    ap (λ rest. m ∷ rest) (all_picked xs made order (tails (Some m) (get_or (map Some xs) v None) (map Some made) (map (λ w. get_or (map Some xs) w None) order) e))
    ∙ pick_same m (slice_get xs v) (picks xs order) (heads (Some m) (get_or (map Some xs) v None) (map Some made) (map (λ w. get_or (map Some xs) w None) order) e ∙ at_get xs v)

if_ok : {T E : Type 0} (P Q : T → Type 0) (r : Result T E) → ((x : T) → P x → Q x) → IfOk r P → IfOk r Q
if_ok P Q (Ok x) f h = f x h
if_ok P Q (Err e) f h = tt

pub returns : goal.returns
returns c =
    if_ok (λ (made : Vec Driver Global). map Some made.items ≡ map (λ v. get_or c.in_ok-left.left.items v None) c.args.order.now) (λ (made : Vec Driver Global). made.items ≡ picks c.args.units.items c.args.order.now)
    c.take_all.result
    (λ made h. all_picked c.args.units.items made.items c.args.order.now
    (h ∙ ap (λ (ys : List (Option Driver)). map (λ v. get_or ys v None) c.args.order.now) c.in_ok-left.ensures))
    c.take_all.ensures
