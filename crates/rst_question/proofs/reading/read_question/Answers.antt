-- Where a step refuses, the question is refused so.
use Rattle.std.proofs.Common.{◌≡◌, ◌∙◌, ap, subst, List, map, Option}
use Rattle.rst_net.specs.declared.signal.Role.TheVariants as role
use Rattle.rst_outside.specs.declared.names.PortBits.{PortBits}
use Rattle.rst_net.specs.declared.signal.Signal.{Signal}
use Rattle.rst_net.specs.Units.{plain_signal}
use Rattle.rst_tree.specs.Trees.{Text}
use Rattle.rst_reject.specs.Steps.{StopsBy}
use Rattle.rst_script.specs.Scripts.{plain_script}
use Rattle.rst_design.specs.Texts.{texts_of}
use Rattle.rst_design.specs.Netlists.{IsNetlistOf}
use Rattle.rst_ports.specs.Ports.{ports_with}
use Rattle.rst_question.specs.Questions.{PlacedDesign}
use Rattle.rst_question.proofs.Parts.{script_stops, design_stops, fit_stops}
use Rattle.rst_question.proofs.reading.read_question.Goals as goal

pub returns-in-Err-clause-refused : goal.returns-in-Err-clause-refused
returns-in-Err-clause-refused c = script_stops c.args.places c.args.top.now c.args.script.now (texts_of c.args.sources.now) c.in-Err.stop c.in-Err.ensures.refused

pub returns-in-Err-net_of-clause-refused : goal.returns-in-Err-net_of-clause-refused
returns-in-Err-net_of-clause-refused c =
    let P : Option Text → Type 0 = λ clock. StopsBy (PlacedDesign c.args.places.sources (texts_of c.args.sources.now) c.args.top.now clock) c.in-Err-net_of.stop in
    design_stops c.args.places c.args.top.now c.args.script.now (texts_of c.args.sources.now) (plain_script c.in-Ok.said) c.in-Err-net_of.stop c.in-Ok.ensures.script
    (subst P c.clock_of.ensures c.in-Err-net_of.ensures.refused)

pub returns-in-Err-pattern_of-clause-refused : goal.returns-in-Err-pattern_of-clause-refused
returns-in-Err-pattern_of-clause-refused c =
    let P : Option Text → Type 0 = λ clock. IsNetlistOf (texts_of c.args.sources.now) c.args.top.now clock c.in-Ok-net_of.net in
    let ports_for : List Signal → List PortBits = λ signals. ports_with role.Input (map plain_signal signals) in
    fit_stops c.args.places c.args.top.now c.args.script.now (texts_of c.args.sources.now) (plain_script c.in-Ok.said) c.in-Ok-net_of.net c.as_slice-2.result.now
    c.in-Err-pattern_of.stop c.in-Ok.ensures.script (subst P c.clock_of.ensures c.in-Ok-net_of.ensures.net)
    (c.as_slice-2.ensures ∙ (c.in_ok-ports.ensures ∙ ap ports_for c.as_slice.ensures.value)) c.in-Err-pattern_of.ensures.refused
