-- What reading a part returns: the part, and the symbols after it.
use Rattle.std.specs.Prelude.{List}
use Rattle.std.specs.Borrow.{Bor}
use Rattle.rst_grammar.specs.declared.symbol.Symbol.{Symbol}

-- the part in plain form, and the symbols after it
abbrev pub beside : {X Y : Type 0} → (X → Y) → X × Bor (List Symbol) → Y × List Symbol
beside plain x = (plain x.0, x.1.now)

-- a part that is its own plain form, and the symbols after it
abbrev pub itself : {X : Type 0} → X × Bor (List Symbol) → X × List Symbol
itself x = (x.0, x.1.now)
