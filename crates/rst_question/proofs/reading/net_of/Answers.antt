-- The refusal of the design, with the place of its file.
use Rattle.rst_question.proofs.Files.{few_files}
use Rattle.std.specs.Option.{option_copied}
use Rattle.rst_question.proofs.reading.net_of.Goals as goal

pub placed-requires-clause-few : goal.placed-requires-clause-few
placed-requires-clause-few c =
    few_files c.args.sources.now c.args.top.now (option_copied c.args.clock) c.in-Err-Rejected.reject c.requires.few (rw c.in-Err-Rejected.field-0-is at c.in-Err-Rejected.ensures.refused)

pub returns-in-Err-Rejected-clause-refused : goal.returns-in-Err-Rejected-clause-refused
returns-in-Err-Rejected-clause-refused c = (c.in-Err-Rejected.reject, rw c.in-Err-Rejected.field-0-is at c.in-Err-Rejected.ensures.refused, c.placed.ensures)
