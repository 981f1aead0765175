use Rattle.std.proofs.Common.{arith, [], ◌≡◌, ◌<◌, ◌≤◌, ◌∙◌, refl, ℕ, subst, pos, get_or, length, Option, None}
use Rattle.std.specs.List.{Contains}
use Rattle.std.proofs.lemmas.List.{get_or_default}
use Rattle.rst_clause.specs.Trails.Grows.{same}
use Rattle.rst_clause.specs.Queue.{LooksAtAll}
use Rattle.rst_clause.proofs.Queueing.{Grows-join, Grows-longer, quiet_next, quiet_all}
use Rattle.rst_clause.proofs.propagation.look_along.Goals as goal

pub waiting-init : goal.waiting-init
waiting-init c = record { grows = same; vars = refl; place = c.requires.from; quiet = c.requires.quiet }

pub returns-in-Some : goal.returns-in-Some
returns-in-Some c =
    let w = subst (λ (o : Option ℕ). LooksAtAll c.args.clauses.now (λ i. Contains (get_or c.args.clauses.now i []) c.opposite.result) c.waiting.trail c.look_at_occurrences.new.trail o) c.in-Some.is c.in_ok-found.ensures in
    record {
      grows = Grows-join c.args.clauses.now c.args.trail.now c.waiting.trail c.look_at_occurrences.new.trail c.waiting.invariant.grows w.grows;
      vars = w.vars ∙ c.waiting.invariant.vars;
      outcome = w.outcome;
    }

pub waiting-preserved : goal.waiting-preserved
waiting-preserved c =
    let w = subst (λ (o : Option ℕ). LooksAtAll c.args.clauses.now (λ i. Contains (get_or c.args.clauses.now i []) c.opposite.result) c.waiting.trail c.look_at_occurrences.new.trail o) c.in_default.is c.in_ok-found.ensures in
    let lt : c.waiting.next < length c.waiting.trail.lits = subst (λ n. c.waiting.next < n) c.len.ensures.value c.waiting-test.true in
    let is : c.get-lit.result ≡ get_or c.waiting.trail.lits c.waiting.next (pos 0) =
    c.get-lit.ensures.value ∙ get_or_default c.waiting.trail.lits c.waiting.next c.get-lit.result (pos 0) lt in
    let longer : length c.waiting.trail.lits ≤ length c.look_at_occurrences.new.trail.lits = Grows-longer c.args.clauses.now c.waiting.trail c.look_at_occurrences.new.trail w.grows in
    record {
      grows = Grows-join c.args.clauses.now c.args.trail.now c.waiting.trail c.look_at_occurrences.new.trail c.waiting.invariant.grows w.grows;
      vars = w.vars ∙ c.waiting.invariant.vars;
      place = omega (arith, lt, longer);
      quiet = quiet_next c.args.clauses.now c.waiting.next c.get-lit.result c.waiting.trail c.look_at_occurrences.new.trail lt is c.waiting.invariant.quiet
          (subst (λ k. LooksAtAll c.args.clauses.now (λ i. Contains (get_or c.args.clauses.now i []) k) c.waiting.trail c.look_at_occurrences.new.trail None) c.opposite.ensures w);
    }

pub returns : goal.returns
returns c =
    let w = c.waiting.invariant in
    let le : length c.waiting.trail.lits ≤ c.waiting.next = subst (λ n. n ≤ c.waiting.next) c.len.ensures.value c.waiting-test.false in
    record { grows = w.grows; vars = w.vars; outcome = quiet_all c.args.clauses.now c.waiting.next c.waiting.trail.lits le w.quiet }
