use Rattle.std.proofs.Common.{arith, ◌≡◌, ◌<◌, ◌++◌, ◌∷◌, [], length, subst, ap, ◌∙◌, refl, List, ℤ, true, false, get_or}
use Rattle.std.proofs.lemmas.List.{get_or_default}
use Rattle.rst_clause.specs.Propagation.{Follows, Closes}
use Rattle.rst_clause.proofs.Members.{absent}
use Rattle.rst_check.proofs.Replays.{replayed_more, replayed_closed, not_replayed}
use Rattle.rst_check.proofs.check.all_follow.Goals as goal

pub returns-then-not-branch : goal.returns-then-not-branch
returns-then-not-branch c =
    let log = c.args.log.now in
    let lt : c.loop-i.i < length log = omega (arith, c.loop-i-test.true, c.len-i-end.ensures) in
    let line : c.get-line.result.now ≡ get_or log c.loop-i.i [] = c.get-line.ensures ∙ get_or_default log c.loop-i.i c.get-line.result.now [] lt in (
      (λ e. absurd (let f : false ≡ true = e in cc)),
      (λ each. absurd (not_replayed c.args.p.now.clauses log c.args.p.now.trail c.loop-i.p.clauses c.loop-i.p.trail c.loop-i.i c.loop-i.invariant.0 c.get-line.result.now lt line
          (subst (λ z. Follows c.loop-i.p.clauses z → ⊥) c.as_slice.ensures (absent _ _ c.in_ok-follows.ensures.answer c.if-not-branch.true)) each)),
    )

pub returns-then-branch : goal.returns-then-branch
returns-then-branch c =
    let log = c.args.log.now in
    let lt : c.loop-i.i < length log = omega (arith, c.loop-i-test.true, c.len-i-end.ensures) in
    let line : c.get-line.result.now ≡ get_or log c.loop-i.i [] = c.get-line.ensures ∙ get_or_default log c.loop-i.i c.get-line.result.now [] lt in
    let yes : Follows c.loop-i.p.clauses c.get-line.result.now = subst (λ z. Follows c.loop-i.p.clauses z) c.as_slice.ensures (c.in_ok-follows.ensures.answer.0 c.if-not-branch.false) in
    let closes : Closes (c.loop-i.p.clauses ++ c.get-line.result.now ∷ []) =
    subst (λ (z : List (List ℤ)). Closes (z ++ c.get-line.result.now ∷ [])) c.in_ok-follows.ensures.back.clauses
    (subst (λ z. Closes (c.follows.new.p.clauses ++ z ∷ [])) c.as_slice-in-loop-i.ensures (c.in_ok-learns.ensures.closes c.if-branch.true)) in (
      (λ e. replayed_closed c.args.p.now.clauses log c.args.p.now.trail c.loop-i.p.clauses c.loop-i.p.trail c.loop-i.i c.loop-i.invariant.0 c.get-line.result.now lt line yes closes),
      (λ h. refl),
    )

pub loop-i-preserved : goal.loop-i-preserved
loop-i-preserved c =
    let log = c.args.log.now in
    let lt : c.loop-i.i < length log = omega (arith, c.loop-i-test.true, c.len-i-end.ensures) in
    let line : c.get-line.result.now ≡ get_or log c.loop-i.i [] = c.get-line.ensures ∙ get_or_default log c.loop-i.i c.get-line.result.now [] lt in
    let yes : Follows c.loop-i.p.clauses c.get-line.result.now = subst (λ z. Follows c.loop-i.p.clauses z) c.as_slice.ensures (c.in_ok-follows.ensures.answer.0 c.if-not-branch.false) in (
      replayed_more c.args.p.now.clauses log c.args.p.now.trail c.loop-i.p.clauses c.loop-i.p.trail c.loop-i.i c.loop-i.invariant.0 c.get-line.result.now lt line
          c.learns.new.p.clauses c.learns.new.p.trail yes
          (c.in_ok-learns.ensures.clauses c.if-branch.false ∙ ap (λ (z : List (List ℤ)). z ++ c.as_slice-in-loop-i.result.now ∷ []) c.in_ok-follows.ensures.back.clauses
          ∙ ap (λ z. c.loop-i.p.clauses ++ z ∷ []) c.as_slice-in-loop-i.ensures) (c.in_ok-learns.ensures.vars ∙ c.in_ok-follows.ensures.back.vars)
          (c.in_ok-learns.ensures.implied c.if-branch.false),
      c.learns.ensures.root,
      c.in_ok-learns.ensures.settled c.if-branch.false,
    )
