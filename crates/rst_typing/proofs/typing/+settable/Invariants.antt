use Rattle.std.proofs.Common.{◌≡◌, drop}
use Rattle.rst_width.specs.Typed.{plain_all}
use Rattle.rst_typing.specs.Typing.{are_settable}
use Rattle.rst_typing.proofs.typing.+settable.Given as goal

-- what is left can be set where all parts can
abbrev pub invariant-are_settable-loop-part : goal.invariant-are_settable-loop-part
invariant-are_settable-loop-part l = are_settable (plain_all (drop l.part-index l.parts)) ≡ are_settable (plain_all l.parts)
