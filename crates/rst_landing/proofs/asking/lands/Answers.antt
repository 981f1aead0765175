use Rattle.std.proofs.Common.{◌≡◌, ◌∙◌, Bool, List, sym, subst}
use Rattle.std.proofs.lemmas.Result.{IfOk-weaker}
use Rattle.rst_pair.specs.declared.query.Query.TheVariants.{LandFree}
use Rattle.rst_pair.specs.Queries.{IsQueryCase}
use Rattle.rst_solve.specs.declared.solver.Answer.{Answer}
use Rattle.rst_landing.specs.declared.answer.Landing.{Landing}
use Rattle.rst_landing.specs.Work.{IsLandWork}
use Rattle.rst_landing.specs.Landings.{journal_of, land_variables}
use Rattle.rst_landing.specs.Models.{AnswersLand}
use Rattle.rst_landing.proofs.Working.{land_work}
use Rattle.rst_landing.proofs.Cases.{land_about, solution_case, refuted_inside}
use Rattle.rst_landing.proofs.asking.lands.Goals as goal

pub outside-requires-clause-case : goal.outside-requires-clause-case
outside-requires-clause-case c =
    let p = c.args.pair.now in
    let f = c.args.front.now in
    let pattern = c.args.seq.now in
    let found = subst (λ (a : Answer). AnswersLand p f pattern c.args.left a) c.in-Model.is c.in_ok-bits.ensures in
    let about = land_about p f pattern c.are_sides.ensures c.requires.posable c.requires.known in
    subst (λ (bits : List Bool). IsQueryCase p f (LandFree pattern) bits) (sym c.as_slice.ensures) (solution_case p f pattern c.in-Model.bits about found.0)

pub returns-in_ok-journal-in-Model-clause-journal : goal.returns-in_ok-journal-in-Model-clause-journal
returns-in_ok-journal-in-Model-clause-journal c =
    let p = c.args.pair.now in
    let f = c.args.front.now in
    let pattern = c.args.seq.now in
    let left = c.args.left in
    let found = subst (λ (a : Answer). AnswersLand p f pattern left a) c.in-Model.is c.in_ok-bits.ensures in
    IfOk-weaker c.outside.result (λ (a : Landing). journal_of a ≡ c.in_ok-journal-in-Model.journal) (λ (a : Landing). IsLandWork p f pattern left (journal_of a))
    (λ a same.
    land_work p f pattern left c.in-Model.paths.items (journal_of a) found.1.0 found.1.1 c.requires.split (same ∙ c.in_ok-journal-in-Model.ensures))
    c.outside.ensures.journal

pub returns-in_ok-journal-in-Refuted-clause-journal : goal.returns-in_ok-journal-in-Refuted-clause-journal
returns-in_ok-journal-in-Refuted-clause-journal c =
    let p = c.args.pair.now in
    let f = c.args.front.now in
    let pattern = c.args.seq.now in
    let left = c.args.left in
    let found = subst (λ (a : Answer). AnswersLand p f pattern left a) c.in-Refuted.is c.in_ok-bits.ensures in
    land_work p f pattern left c.in-Refuted.paths.items c.in_ok-journal-in-Refuted.journal found.3.0 found.3.1 c.requires.split c.in_ok-journal-in-Refuted.ensures

pub returns-in_ok-journal-in-Refuted-clause-inside : goal.returns-in_ok-journal-in-Refuted-clause-inside
returns-in_ok-journal-in-Refuted-clause-inside c =
    let p = c.args.pair.now in
    let f = c.args.front.now in
    let pattern = c.args.seq.now in
    let found = subst (λ (a : Answer). AnswersLand p f pattern c.args.left a) c.in-Refuted.is c.in_ok-bits.ensures in
    let about = land_about p f pattern c.are_sides.ensures c.requires.posable c.requires.known in
    refuted_inside p f pattern (land_variables p f pattern) c.in-Refuted.log about c.requires.known found.0

pub returns-in_ok-journal-in-Spent-clause-journal : goal.returns-in_ok-journal-in-Spent-clause-journal
returns-in_ok-journal-in-Spent-clause-journal c =
    let p = c.args.pair.now in
    let f = c.args.front.now in
    let pattern = c.args.seq.now in
    let left = c.args.left in
    let found = subst (λ (a : Answer). AnswersLand p f pattern left a) c.in-Spent.is c.in_ok-bits.ensures in
    land_work p f pattern left c.in-Spent.paths.items c.in_ok-journal-in-Spent.journal found.2.0 found.2.1 c.requires.split c.in_ok-journal-in-Spent.ensures
