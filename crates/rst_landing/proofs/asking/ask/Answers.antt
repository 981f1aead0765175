use Rattle.std.proofs.Common.{◌≡◌, ◌∙◌, List, ap}
use Rattle.std.proofs.lemmas.Result.{IfOk-weaker}
use Rattle.rst_value.specs.declared.tern.Tern.{Tern}
use Rattle.rst_pair.specs.declared.query.Query.TheVariants.{LandFree}
use Rattle.rst_pose.specs.Posed.{posed}
use Rattle.rst_pose.specs.Posing.{posed_of}
use Rattle.rst_solve.specs.declared.solver.Answer.{Answer}
use Rattle.rst_solve.specs.Answers.{Answers}
use Rattle.rst_landing.specs.Models.{AnswersLand}
use Rattle.rst_landing.proofs.Answering.{answers_land}
use Rattle.rst_landing.proofs.asking.ask.Goals as goal

pub returns : goal.returns
returns c =
    let p = c.args.pair.now in
    let f = c.args.front.now in
    let copied : c.in_ok-pattern.pattern ≡ c.args.seq.now = c.in_ok-pattern.ensures ∙ c.as_slice.ensures in
    let same : posed_of c.in_ok-clauses.clauses ≡ posed p f (LandFree c.args.seq.now) =
    c.in_ok-clauses.ensures ∙ ap (λ (pattern : List (List Tern)). posed p f (LandFree pattern)) copied in
    IfOk-weaker c.solve.result (λ (a : Answer). Answers c.in_ok-clauses.clauses c.args.left a) (λ (a : Answer). AnswersLand p f c.args.seq.now c.args.left a)
    (λ a h. answers_land p f c.args.seq.now c.args.left c.in_ok-clauses.clauses a same h) c.solve.ensures
