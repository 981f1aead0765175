use Rattle.std.proofs.Common.{arith, ◌≡◌, ◌<◌, ◌≤◌, ◌+◌, ◌∙◌, ◌++◌, ◌∷◌, [], ◌⊎◌, inl, inr, ℕ, ap, subst, sym, Bool, take, length, get_or, add-one}
use Rattle.std.specs.List.{Contains}
use Rattle.std.proofs.Math.Seq.{take-suc, take-length}
use Rattle.std.proofs.lemmas.List.Elements.{Contains-push_cases}
use Rattle.rst_clause.specs.Queue.{LooksAt}
use Rattle.rst_clause.proofs.Members.{Contains-nil}
use Rattle.rst_clause.proofs.Queueing.{looks_start, looks_false, looks_more, looks_among}
use Rattle.rst_clause.proofs.propagation.look_at_occurrences.Goals as goal
use Rattle.rst_clause.proofs.propagation.look_at_occurrences.Goals.{then-i-len+in_ok-is_false+else-is_false, else-i-len}

pub loop-k-init : goal.loop-k-init
loop-k-init c = looks_start c.args.clauses.now (λ j. Contains (take 0 c.occurrences-numbers.result.now) j) c.args.trail.now (λ j h. Contains-nil j h)

pub returns-then-is_false : goal.returns-then-is_false
returns-then-is_false c =
    let i = get_or c.occurrences-numbers.result.now c.loop-k.k 0 in
    looks_false c.args.clauses.now (λ j. Contains (take c.loop-k.k c.occurrences-numbers.result.now) j) (λ j. Contains (get_or c.args.clauses.now j []) c.args.lit)
    c.args.trail.now c.loop-k.trail c.look.new.trail i c.loop-k.invariant
    (subst (λ (b : Bool). LooksAt c.args.clauses.now i c.loop-k.trail c.look.new.trail b) c.if-is_false.true c.in_ok-is_false.ensures)

pub loop-k-preserved : goal.loop-k-preserved
loop-k-preserved c =
    let numbers = c.occurrences-numbers.result.now in
    let i = get_or numbers c.loop-k.k 0 in
    let lt : c.loop-k.k < length numbers = c.loop-k-test.true in
    let one_more : take (c.loop-k.k + 1) numbers ≡ take c.loop-k.k numbers ++ i ∷ [] = rw add-one (take-suc numbers c.loop-k.k 0 lt) in
    let cases : (j : ℕ) → Contains (take (c.loop-k.k + 1) numbers) j → Contains (take c.loop-k.k numbers) j ⊎ (i ≡ j) =
    λ j h. Contains-push_cases (take c.loop-k.k numbers) i j (subst (λ z. Contains z j) one_more h) in
    elim c.if-i-len.branch [
      | then-i-len+in_ok-is_false+else-is_false w ↦ rw w.trail-is
          (looks_more c.args.clauses.now (λ j. Contains (take c.loop-k.k numbers) j) (λ j. Contains (take (c.loop-k.k + 1) numbers) j)
          c.args.trail.now c.loop-k.trail w.look.new.trail i c.loop-k.invariant
          (subst (λ (b : Bool). LooksAt c.args.clauses.now i c.loop-k.trail w.look.new.trail b) w.if-is_false.false w.in_ok-is_false.ensures)
          (λ j h. elim (cases j h) [ inl before ↦ inl before | inr e ↦ inr (sym e) ]))
      | else-i-len w ↦ rw w.trail-is
          (looks_among c.args.clauses.now (λ j. Contains (take c.loop-k.k numbers) j) (λ j. Contains (take (c.loop-k.k + 1) numbers) j)
          c.args.trail.now c.loop-k.trail c.loop-k.invariant
          (λ j below h. elim (cases j h) [
            | inl before ↦ before
            | inr e ↦
                let past : c.len.result ≤ i = w.if-i-len.false in
                let at : c.len.result ≡ length c.args.clauses.now = c.len.ensures in
                absurd (omega (arith, e, past, at, below))
          ]))
    ]

pub returns : goal.returns
returns c =
    let numbers = c.occurrences-numbers.result.now in
    let at_end : c.loop-k.k ≡ length numbers = omega (arith, c.loop-k-test.false, c.loop-k.auto.k-end) in
    let all : take c.loop-k.k numbers ≡ numbers = ap (λ n. take n numbers) at_end ∙ take-length numbers in
    looks_among c.args.clauses.now (λ j. Contains (take c.loop-k.k numbers) j) (λ j. Contains (get_or c.args.clauses.now j []) c.args.lit)
    c.args.trail.now c.loop-k.trail c.loop-k.invariant
    (λ j below h. subst (λ z. Contains z j) (sym all) (c.occurrences-numbers.ensures j below h))
