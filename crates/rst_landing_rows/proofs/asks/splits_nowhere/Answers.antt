use Rattle.std.proofs.Common.{subst}
use Rattle.rst_pair.specs.declared.query.Query.TheVariants.{Split}
use Rattle.rst_query_laws.specs.Conditions.{IsAbout}
use Rattle.rst_solve.specs.declared.solver.Answer.{Answer}
use Rattle.rst_solve.specs.Answers.{Answers}
use Rattle.rst_landing_rows.proofs.Splits.{no_split}
use Rattle.rst_landing_rows.proofs.asks.splits_nowhere.Goals as goal

pub returns-in-Refuted : goal.returns-in-Refuted
returns-in-Refuted c = λ yes bits case.
    let found = subst (λ (a : Answer). Answers c.in_ok-clauses.clauses 1000 a) c.in-Refuted.is c.in_ok-solve.ensures in
    let about : IsAbout c.args.pair.now c.args.front.now Split = record {
      sides = c.are_sides.ensures;
      front = c.requires.posable.within.front;
      shared = λ i marked. absurd (c.requires.unmarked i marked);
      speaks = tt;
    } in
    no_split c.args.pair.now c.args.front.now c.in_ok-clauses.clauses c.in-Refuted.log about c.in_ok-clauses.ensures found.0 bits case
