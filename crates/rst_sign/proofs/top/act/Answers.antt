-- A run of words that spell no command, and one of a command.
use Rattle.std.proofs.Common.{refl, sym, ◌∙◌, map, string_bytes, Option, ap}
use Rattle.std.specs.Option.{option_map}
use Rattle.rst_command.specs.Commands.{plain_command}
use Rattle.rst_command.specs.declared.words.Command as read
use Rattle.rst_sign.proofs.Acting.{usage_run, command_run, memory_run, same_run}
use Rattle.rst_sign.proofs.top.act.Goals as goal

pub returns-in_default : goal.returns-in_default
returns-in_default g c =
    same_run c.as_slice-list.result.now c.args.words.now.items _ _ _ c.as_slice-list.ensures.value
    (usage_run (map string_bytes c.as_slice-list.result.now) _ _ c.put_answer.result c.usage.result.now c.usage.ensures
    (sym c.read_command.ensures ∙ ap (λ (o : Option read.Command). option_map plain_command o) c.in_default.is) refl
    c.put_answer.ensures.carries c.put_answer.ensures.cause c.put_answer.ensures.whole c.put_answer.ensures.prefix c.put_answer.ensures.fits)

pub returns-in-Ok : goal.returns-in-Ok
returns-in-Ok g c =
    same_run c.as_slice-list.result.now c.args.words.now.items _ _ _ c.as_slice-list.ensures.value
    (command_run (map string_bytes c.as_slice-list.result.now) (plain_command c.in-Some.command) _ _ c.in-Ok.outcome
    (sym c.read_command.ensures ∙ ap (λ (o : Option read.Command). option_map plain_command o) c.in-Some.is) c.in-Ok.ensures.runs)

pub returns-in-Err : goal.returns-in-Err
returns-in-Err g c =
    same_run c.as_slice-list.result.now c.args.words.now.items _ _ _ c.as_slice-list.ensures.value
    (memory_run (map string_bytes c.as_slice-list.result.now) (plain_command c.in-Some.command) _ _ c.no_memory.result
    (sym c.read_command.ensures ∙ ap (λ (o : Option read.Command). option_map plain_command o) c.in-Some.is) c.no_memory.ensures c.in-Err.ensures.nothing)

pub act_on-requires : goal.act_on-requires
act_on-requires g c = sym c.read_command.ensures ∙ ap (λ (o : Option read.Command). option_map plain_command o) c.in-Some.is
