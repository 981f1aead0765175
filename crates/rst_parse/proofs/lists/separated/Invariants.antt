use Rattle.std.proofs.Common.{◌≡◌, ◌-◌, map}
use Rattle.rst_grammar.specs.ReadParts.{separated, more_separated}
use Rattle.rst_parse.specs.Separators.{reader_of}
use Rattle.rst_parse.proofs.Turns.{with_front}
use Rattle.rst_parse.proofs.lists.separated.Given as goal

-- what was read, and what is left to read, is what all gives
abbrev pub invariant-loop : goal.invariant-loop
invariant-loop g l =
    with_front (map g.R.Reader.plain l.parts.items) (more_separated (reader_of l.separator) (g.R.Reader.reader l.reader) (l.turns - l.counter) l.rest)
    ≡ separated (reader_of l.separator) (g.R.Reader.reader l.reader) l.fn.symbols
