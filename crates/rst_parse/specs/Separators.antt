-- What separates the parts of a list.
use Rattle.std.specs.Prelude.{List, Option}
use Rattle.rst_grammar.specs.declared.symbol.Symbol.{Symbol}
use Rattle.rst_grammar.specs.ReadParts.{comma, comma_before_name}
use Rattle.rst_grammar.specs.ReadItems.{or_comma}
use Rattle.rst_parse.specs.declared.lists.Separator.{Separator}
use Rattle.rst_parse.specs.declared.lists.Separator.TheVariants as separator

-- the reader of each
abbrev pub reader_of : Separator → List Symbol → Option (List Symbol)
reader_of separator.Comma = comma
reader_of separator.CommaBeforeName = comma_before_name
reader_of separator.OrComma = or_comma
