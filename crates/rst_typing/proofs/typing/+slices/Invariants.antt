use Rattle.std.proofs.Common.{◌≡◌, ◌++◌, drop}
use Rattle.rst_width.specs.Typed.{plain_all}
use Rattle.rst_typing.specs.Typing.{slices_of_all}
use Rattle.rst_typing.proofs.typing.+slices.Given as goal

-- the slices so far, and those of the parts that are left
abbrev pub invariant-push_all-loop-part : goal.invariant-push_all-loop-part
invariant-push_all-loop-part l = l.made.items ++ slices_of_all (plain_all (drop l.part-index l.parts)) ≡ l.fn.made.items ++ slices_of_all (plain_all l.parts)
