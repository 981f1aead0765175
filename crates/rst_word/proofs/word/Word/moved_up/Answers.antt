use Rattle.std.proofs.Common.{rules}
use Rattle.rst_word.proofs.Powers.{moved_out}
use Rattle.rst_word.proofs.word.Word.moved_up.Goals as goal

pub returns-else-places-self : goal.returns-else-places-self
returns-else-places-self c = rw (moved_out c.args.self.value c.args.places c.args.self.width (search rules)) c.with_value-else-places-self.ensures
