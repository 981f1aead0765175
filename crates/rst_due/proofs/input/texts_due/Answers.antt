-- What is due of the texts: of the question that they ask, or of their refusal.
use Rattle.std.proofs.Common.{◌≡◌, ◌∙◌, ap, refl, map, string_bytes, List}
use Rattle.std.specs.declared.vec.Vec.{Vec}
use Rattle.std.specs.declared.alloc.Global.{Global}
use Rattle.rst_command.specs.Commands.{Input, plain_input}
use Rattle.rst_loads.specs.Loads.{Texts, plain_texts}
use Rattle.rst_design.specs.Texts.{texts_of}
use Rattle.rst_question.specs.declared.question.Places.{Places}
use Rattle.rst_due.specs.Due.{places_of}
use Rattle.rst_due.proofs.Accepted.{sound}
use Rattle.rst_due.proofs.Chains.{place_same, read_moved, stops_moved, texts_ok, texts_err, texts_gates_ok, texts_gates_err}
use Rattle.rst_due.proofs.input.texts_due.Goals as goal

pub question_due-requires : goal.question_due-requires
question_due-requires c =
    sound c.netlists_are_orderly.ensures.orderly c.netlists_are_orderly.ensures.fits c.netlists_are_orderly.ensures.widths c.places_of.result c.as_bytes.result.now c.as_slice.result.now
    (texts_of c.as_slice-2.result.now) c.in-Ok.question c.in-Ok.ensures.question

pub returns-in-Ok-clause-ends : goal.returns-in-Ok-clause-ends
returns-in-Ok-clause-ends c =
    let input : Input = plain_input c.args.input.now in
    let texts : Texts = plain_texts c.args.texts.now in
    let same : c.places_of.result ≡ places_of input =
    c.places_of.ensures ∙ place_same input c.args.input.now.files.first c.args.input.now.files.texts.now refl c.args.input.now.files.some in
    texts_ok (map string_bytes c.args.words.now) input texts c.args.purpose c.places_of.result same c.in-Ok.question c.question_due.result
    (read_moved c.places_of.result c.places_of.result c.as_bytes.result.now input.top c.as_slice.result.now texts.script (texts_of c.as_slice-2.result.now) texts.sources c.in-Ok.question
    refl c.as_bytes.ensures.value c.as_slice.ensures.value (ap texts_of c.as_slice-2.ensures.value) c.in-Ok.ensures.question)
    c.question_due.ensures.ends

pub returns-in-Ok-clause-gates : goal.returns-in-Ok-clause-gates
returns-in-Ok-clause-gates c =
    let input : Input = plain_input c.args.input.now in
    let texts : Texts = plain_texts c.args.texts.now in
    let same : c.places_of.result ≡ places_of input =
    c.places_of.ensures ∙ place_same input c.args.input.now.files.first c.args.input.now.files.texts.now refl c.args.input.now.files.some in
    texts_gates_ok (map string_bytes c.args.words.now) input texts c.args.purpose c.places_of.result same c.one_answer.ensures.answer c.in-Ok.question c.question_due.result
    (read_moved c.places_of.result c.places_of.result c.as_bytes.result.now input.top c.as_slice.result.now texts.script (texts_of c.as_slice-2.result.now) texts.sources c.in-Ok.question
    refl c.as_bytes.ensures.value c.as_slice.ensures.value (ap texts_of c.as_slice-2.ensures.value) c.in-Ok.ensures.question)
    c.question_due.ensures.gates

pub returns-in-Err-clause-ends : goal.returns-in-Err-clause-ends
returns-in-Err-clause-ends c =
    let input : Input = plain_input c.args.input.now in
    let texts : Texts = plain_texts c.args.texts.now in
    let same : c.places_of.result ≡ places_of input =
    c.places_of.ensures ∙ place_same input c.args.input.now.files.first c.args.input.now.files.texts.now refl c.args.input.now.files.some in
    texts_err (map string_bytes c.args.words.now) input texts c.args.purpose c.places_of.result same c.in-Err.stop c.question_stopped.result
    (stops_moved c.places_of.result c.places_of.result c.as_bytes.result.now input.top c.as_slice.result.now texts.script (texts_of c.as_slice-2.result.now) texts.sources c.in-Err.stop
    refl c.as_bytes.ensures.value c.as_slice.ensures.value (ap texts_of c.as_slice-2.ensures.value) c.in-Err.ensures.refused)
    c.question_stopped.ensures.due

pub returns-in-Err-clause-gates : goal.returns-in-Err-clause-gates
returns-in-Err-clause-gates c =
    let input : Input = plain_input c.args.input.now in
    let texts : Texts = plain_texts c.args.texts.now in
    let same : c.places_of.result ≡ places_of input =
    c.places_of.ensures ∙ place_same input c.args.input.now.files.first c.args.input.now.files.texts.now refl c.args.input.now.files.some in
    texts_gates_err (map string_bytes c.args.words.now) input texts c.args.purpose c.places_of.result same c.one_answer.ensures.answer c.in-Err.stop c.question_stopped.result
    (stops_moved c.places_of.result c.places_of.result c.as_bytes.result.now input.top c.as_slice.result.now texts.script (texts_of c.as_slice-2.result.now) texts.sources c.in-Err.stop
    refl c.as_bytes.ensures.value c.as_slice.ensures.value (ap texts_of c.as_slice-2.ensures.value) c.in-Err.ensures.refused)
    c.question_stopped.ensures.due
