-- The words spell the command, so its script stands before its sources, and its stages are few. What is due of it is what its part came to.
use Rattle.std.proofs.Common.{◌∙◌, ap, Some, map, string_bytes}
use Rattle.rst_command.specs.declared.words.Command as read
use Rattle.rst_command.specs.Commands.{Check, Known, Demo, plain_input, plain_command}
use Rattle.rst_due.proofs.Spelled.{check_before, known_before, demo_few}
use Rattle.rst_due.proofs.Runs.{runs_as, gates_as, sure_as, demo_runs, demo_gates, demo_sure}
use Rattle.rst_due.proofs.commands.due.Goals as goal

pub input_due-requires : goal.input_due-requires
input_due-requires g c =
    check_before (map string_bytes c.args.words.now) c.in-Check.input c.in-Check.cert.now c.in-Check.input.files.some
    (c.requires ∙ ap (λ (x : read.Command). Some (plain_command x)) c.in-Check.is)

pub input_due-requires-in-Known : goal.input_due-requires-in-Known
input_due-requires-in-Known g c =
    known_before (map string_bytes c.args.words.now) c.in-Known.input c.in-Known.input.files.some
    (c.requires ∙ ap (λ (x : read.Command). Some (plain_command x)) c.in-Known.is)

pub demo_due-requires : goal.demo_due-requires
demo_due-requires g c =
    demo_few (map string_bytes c.args.words.now) c.in-Demo.stages
    (c.requires ∙ ap (λ (x : read.Command). Some (plain_command x)) c.in-Demo.is)

pub returns-in-Check-clause-due : goal.returns-in-Check-clause-due
returns-in-Check-clause-due g c =
    runs_as (map string_bytes c.args.words.now) (g.K.Desk.files c.args.desk.now) c.input_due.result (Check (plain_input c.in-Check.input) c.in-Check.cert.now)
    (plain_command c.args.command.now) (ap plain_command c.in-Check.is) c.input_due.ensures.due

pub returns-in-Check-clause-gates : goal.returns-in-Check-clause-gates
returns-in-Check-clause-gates g c =
    gates_as (map string_bytes c.args.words.now) (g.K.Desk.files c.args.desk.now) c.input_due.result (Check (plain_input c.in-Check.input) c.in-Check.cert.now)
    (plain_command c.args.command.now) (ap plain_command c.in-Check.is) c.input_due.ensures.gates

pub returns-in-Known-clause-due : goal.returns-in-Known-clause-due
returns-in-Known-clause-due g c =
    runs_as (map string_bytes c.args.words.now) (g.K.Desk.files c.args.desk.now) c.input_due-in-Known.result (Known (plain_input c.in-Known.input))
    (plain_command c.args.command.now) (ap plain_command c.in-Known.is) c.input_due-in-Known.ensures.due

pub returns-in-Known-clause-gates : goal.returns-in-Known-clause-gates
returns-in-Known-clause-gates g c =
    gates_as (map string_bytes c.args.words.now) (g.K.Desk.files c.args.desk.now) c.input_due-in-Known.result (Known (plain_input c.in-Known.input))
    (plain_command c.args.command.now) (ap plain_command c.in-Known.is) c.input_due-in-Known.ensures.gates

pub returns-in-Demo-clause-due : goal.returns-in-Demo-clause-due
returns-in-Demo-clause-due g c =
    runs_as (map string_bytes c.args.words.now) (g.K.Desk.files c.args.desk.now) c.demo_due.result (Demo c.in-Demo.stages)
    (plain_command c.args.command.now) (ap plain_command c.in-Demo.is)
    (demo_runs (map string_bytes c.args.words.now) (g.K.Desk.files c.args.desk.now) c.demo_due.result c.in-Demo.stages c.demo_due.ensures.ends)

pub returns-in-Demo-clause-gates : goal.returns-in-Demo-clause-gates
returns-in-Demo-clause-gates g c =
    gates_as (map string_bytes c.args.words.now) (g.K.Desk.files c.args.desk.now) c.demo_due.result (Demo c.in-Demo.stages)
    (plain_command c.args.command.now) (ap plain_command c.in-Demo.is)
    (demo_gates (map string_bytes c.args.words.now) (g.K.Desk.files c.args.desk.now) c.demo_due.result c.in-Demo.stages c.demo_due.ensures.gates)

pub returns-in-Check-clause-sure : goal.returns-in-Check-clause-sure
returns-in-Check-clause-sure g c =
    sure_as _ (map string_bytes c.args.words.now) (g.K.Desk.files c.args.desk.now) c.input_due.result (Check (plain_input c.in-Check.input) c.in-Check.cert.now)
    (plain_command c.args.command.now) (ap plain_command c.in-Check.is) c.input_due.ensures.sure

pub returns-in-Known-clause-sure : goal.returns-in-Known-clause-sure
returns-in-Known-clause-sure g c =
    sure_as _ (map string_bytes c.args.words.now) (g.K.Desk.files c.args.desk.now) c.input_due-in-Known.result (Known (plain_input c.in-Known.input))
    (plain_command c.args.command.now) (ap plain_command c.in-Known.is) c.input_due-in-Known.ensures.sure

pub returns-in-Demo-clause-sure : goal.returns-in-Demo-clause-sure
returns-in-Demo-clause-sure g c =
    sure_as _ (map string_bytes c.args.words.now) (g.K.Desk.files c.args.desk.now) c.demo_due.result (Demo c.in-Demo.stages)
    (plain_command c.args.command.now) (ap plain_command c.in-Demo.is)
    (demo_sure _ (map string_bytes c.args.words.now) (g.K.Desk.files c.args.desk.now) c.demo_due.result c.in-Demo.stages c.demo_due.ensures.ends)
