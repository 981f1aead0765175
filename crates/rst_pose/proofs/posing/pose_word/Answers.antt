use Rattle.std.proofs.Common.{◌≡◌, ◌∙◌, subst, sym, ap}
use Rattle.std.proofs.lemmas.Result.{IfOk-weaker}
use Rattle.rst_pair.specs.declared.query.Query.TheVariants.{Land, LandFree}
use Rattle.rst_pose.specs.Posed.{posed}
use Rattle.rst_pose.specs.Posing.{IsPosable, posed_of}
use Rattle.rst_pose.proofs.Words.{word_posable, word_posed}
use Rattle.rst_pose.proofs.posing.pose_word.Goals as goal

pub pose_land-requires : goal.pose_land-requires
pose_land-requires c =
    subst (λ pattern. IsPosable c.args.pair.now c.args.front.now (LandFree pattern)) (sym c.in_ok-pattern.ensures)
    (word_posable c.args.pair.now c.args.front.now c.args.word.now c.requires)

pub returns : goal.returns
returns c =
    IfOk-weaker c.pose_land.result _ (λ clauses. posed_of clauses ≡ posed c.args.pair.now c.args.front.now (Land c.args.word.now))
    (λ clauses is. is ∙ ap (λ pattern. posed c.args.pair.now c.args.front.now (LandFree pattern)) c.in_ok-pattern.ensures
    ∙ word_posed c.args.pair.now c.args.front.now c.args.word.now)
    c.pose_land.ensures
