use Rattle.std.proofs.Common.{◌≡◌, drop}
use Rattle.rst_width.specs.Typed.{plain_all, list_names}
use Rattle.rst_width.proofs.values.+names.Given as goal

-- what is left names a signal where all of them do
abbrev pub invariant-list_names-loop-part : goal.invariant-list_names-loop-part
invariant-list_names-loop-part l = list_names (plain_all (drop l.part-index l.parts)) ≡ list_names (plain_all l.parts)
