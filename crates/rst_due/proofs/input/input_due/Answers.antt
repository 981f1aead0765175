-- What is due of an input: of its texts, or of the load that gave none.
use Rattle.std.proofs.Common.{map, string_bytes}
use Rattle.rst_command.specs.Commands.{plain_input}
use Rattle.rst_loads.specs.Loads.{plain_texts}
use Rattle.rst_due.proofs.Chains.{input_ok, input_gates_ok, input_failed_ok, input_some_ok, input_sure_ok, input_sure_err, input_err, input_gates_err, input_failed_err, input_some_err}
use Rattle.rst_due.proofs.input.input_due.Goals as goal

pub returns-in-Ok-clause-due : goal.returns-in-Ok-clause-due
returns-in-Ok-clause-due g c =
    input_ok (map string_bytes c.args.words.now) (g.K.Desk.files c.args.desk.now) c.args.purpose (plain_input c.args.input.now) (plain_texts c.in-Ok.texts) c.texts_due.result
    c.in-Ok.ensures.texts c.texts_due.ensures.ends

pub returns-in-Ok-clause-gates : goal.returns-in-Ok-clause-gates
returns-in-Ok-clause-gates g c =
    input_gates_ok (map string_bytes c.args.words.now) (g.K.Desk.files c.args.desk.now) c.args.purpose (plain_input c.args.input.now) (plain_texts c.in-Ok.texts) c.texts_due.result
    c.in-Ok.ensures.texts c.texts_due.ensures.ends c.texts_due.ensures.gates

pub returns-in-Ok-clause-failed : goal.returns-in-Ok-clause-failed
returns-in-Ok-clause-failed g c =
    input_failed_ok (map string_bytes c.args.words.now) (g.K.Desk.files c.args.desk.now) c.args.purpose (plain_input c.args.input.now) (plain_texts c.in-Ok.texts) _ _ c.texts_due.result
    c.texts_due.ensures.ends

pub returns-in-Ok-clause-some : goal.returns-in-Ok-clause-some
returns-in-Ok-clause-some g c =
    input_some_ok (map string_bytes c.args.words.now) (g.K.Desk.files c.args.desk.now) c.args.purpose (plain_input c.args.input.now) (plain_texts c.in-Ok.texts) c.texts_due.result
    c.texts_due.ensures.ends

pub returns-in-Err-clause-due : goal.returns-in-Err-clause-due
returns-in-Err-clause-due g c =
    input_err (map string_bytes c.args.words.now) (g.K.Desk.files c.args.desk.now) c.args.purpose (plain_input c.args.input.now) c.in-Err.stop c.in-Err.ensures.stop c.load_stopped.result
    c.load_stopped.ensures.due

pub returns-in-Err-clause-gates : goal.returns-in-Err-clause-gates
returns-in-Err-clause-gates g c =
    input_gates_err (map string_bytes c.args.words.now) (g.K.Desk.files c.args.desk.now) c.args.purpose (plain_input c.args.input.now) c.in-Err.stop c.in-Err.ensures.stop c.load_stopped.result
    c.load_stopped.ensures.due

pub returns-in-Err-clause-failed : goal.returns-in-Err-clause-failed
returns-in-Err-clause-failed g c =
    input_failed_err (map string_bytes c.args.words.now) (g.K.Desk.files c.args.desk.now) c.args.purpose (plain_input c.args.input.now) c.in-Err.stop _ _ c.load_stopped.result
    c.in-Err.ensures.loaded c.in-Err.ensures.cause c.load_stopped.ensures.due

pub returns-in-Err-clause-some : goal.returns-in-Err-clause-some
returns-in-Err-clause-some g c =
    input_some_err (map string_bytes c.args.words.now) (g.K.Desk.files c.args.desk.now) c.args.purpose (plain_input c.args.input.now) c.in-Err.stop c.load_stopped.result c.load_stopped.ensures.due

pub returns-in-Ok-clause-sure : goal.returns-in-Ok-clause-sure
returns-in-Ok-clause-sure g c =
    input_sure_ok (map string_bytes c.args.words.now) (g.K.Desk.files c.args.desk.now) c.args.purpose (plain_input c.args.input.now) (plain_texts c.in-Ok.texts) c.texts_due.result
    c.in-Ok.ensures.texts c.texts_due.ensures.ends _

pub returns-in-Err-clause-sure : goal.returns-in-Err-clause-sure
returns-in-Err-clause-sure g c =
    input_sure_err (map string_bytes c.args.words.now) (g.K.Desk.files c.args.desk.now) c.args.purpose (plain_input c.args.input.now) c.in-Err.stop _ c.in-Err.ensures.sure c.load_stopped.result
    c.load_stopped.ensures.due
