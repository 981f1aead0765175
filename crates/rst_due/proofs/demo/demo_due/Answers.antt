-- What is due of a demonstration: of the question that its texts ask, or of their refusal.
use Rattle.std.proofs.Common.{◌≡◌, ◌∙◌, ap, refl, map, string_bytes, List, [], ◌∷◌, ℕ, codes}
use Rattle.rst_design.specs.Texts.{texts_of}
use Rattle.rst_demo.specs.Demo.{demo_source, demo_script}
use Rattle.rst_due.specs.Due.{no_places}
use Rattle.rst_due.proofs.Accepted.{sound}
use Rattle.rst_due.proofs.Chains.{read_moved, stops_moved, demo_ok, demo_err, demo_gates_ok, demo_gates_err}
use Rattle.rst_due.proofs.demo.demo_due.Goals as goal

pub reply_demo-requires : goal.reply_demo-requires
reply_demo-requires c =
    sound c.netlists_are_orderly.ensures.orderly c.netlists_are_orderly.ensures.fits c.netlists_are_orderly.ensures.widths no_places (codes "demo") c.demo_script.result.now (texts_of c.as_slice.result.now) c.in-Ok.question
    c.in-Ok.ensures.question

pub returns-in-Ok-clause-ends : goal.returns-in-Ok-clause-ends
returns-in-Ok-clause-ends c =
    demo_ok (map string_bytes c.args.words.now) c.args.stages (texts_of c.as_slice.result.now) c.in-Ok.question c.reply_demo.result
    (ap texts_of c.as_slice.ensures.value ∙ (c.in_ok-sources.ensures.texts ∙ ap (λ (s : List ℕ). s ∷ []) c.in_ok-source.ensures.exact))
    (read_moved no_places no_places (codes "demo") (codes "demo") c.demo_script.result.now demo_script (texts_of c.as_slice.result.now) (texts_of c.as_slice.result.now) c.in-Ok.question
    refl refl c.demo_script.ensures refl c.in-Ok.ensures.question)
    c.reply_demo.ensures.due

pub returns-in-Ok-clause-gates : goal.returns-in-Ok-clause-gates
returns-in-Ok-clause-gates c =
    demo_gates_ok (map string_bytes c.args.words.now) c.args.stages c.one_answer.ensures.answer (texts_of c.as_slice.result.now) c.in-Ok.question c.reply_demo.result
    (ap texts_of c.as_slice.ensures.value ∙ (c.in_ok-sources.ensures.texts ∙ ap (λ (s : List ℕ). s ∷ []) c.in_ok-source.ensures.exact))
    (read_moved no_places no_places (codes "demo") (codes "demo") c.demo_script.result.now demo_script (texts_of c.as_slice.result.now) (texts_of c.as_slice.result.now) c.in-Ok.question
    refl refl c.demo_script.ensures refl c.in-Ok.ensures.question)
    c.reply_demo.ensures.gates

pub returns-clause-ends : goal.returns-clause-ends
returns-clause-ends c =
    demo_err (map string_bytes c.args.words.now) c.args.stages (texts_of c.as_slice.result.now) c.in-Err.stop c.demo_stopped.result
    (ap texts_of c.as_slice.ensures.value ∙ (c.in_ok-sources.ensures.texts ∙ ap (λ (s : List ℕ). s ∷ []) c.in_ok-source.ensures.exact))
    (stops_moved no_places no_places (codes "demo") (codes "demo") c.demo_script.result.now demo_script (texts_of c.as_slice.result.now) (texts_of c.as_slice.result.now) c.in-Err.stop
    refl refl c.demo_script.ensures refl c.in-Err.ensures.refused)
    c.demo_stopped.ensures.due

pub returns-clause-gates : goal.returns-clause-gates
returns-clause-gates c =
    demo_gates_err (map string_bytes c.args.words.now) c.args.stages c.one_answer.ensures.answer (texts_of c.as_slice.result.now) c.in-Err.stop c.demo_stopped.result
    (ap texts_of c.as_slice.ensures.value ∙ (c.in_ok-sources.ensures.texts ∙ ap (λ (s : List ℕ). s ∷ []) c.in_ok-source.ensures.exact))
    (stops_moved no_places no_places (codes "demo") (codes "demo") c.demo_script.result.now demo_script (texts_of c.as_slice.result.now) (texts_of c.as_slice.result.now) c.in-Err.stop
    refl refl c.demo_script.ensures refl c.in-Err.ensures.refused)
    c.demo_stopped.ensures.due
