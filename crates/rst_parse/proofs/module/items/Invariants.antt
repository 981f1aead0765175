use Rattle.std.proofs.Common.{◌≡◌, ◌-◌, map}
use Rattle.rst_tree.specs.Modules.{plain_item}
use Rattle.rst_grammar.specs.declared.symbol.Terminal.TheVariants as terminal
use Rattle.rst_grammar.specs.ReadParts.{until}
use Rattle.rst_grammar.specs.ReadItems.{item_in}
use Rattle.rst_grammar.specs.ReadModule.{items_in}
use Rattle.rst_parse.proofs.Turns.{with_front}
use Rattle.rst_parse.proofs.module.items.Given as goal

-- what was read, and what is left to read, is what all gives
abbrev pub invariant-loop : goal.invariant-loop
invariant-loop l = with_front (map plain_item l.items.items) (until terminal.Endmodule (item_in 200) (l.turns - l.counter) l.rest) ≡ items_in 200 l.symbols
