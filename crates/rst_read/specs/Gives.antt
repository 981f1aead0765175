-- What reading returns, and what it has to be.
use Rattle.std.specs.Prelude.{◌≡◌, List, Option, Some, None, Result, Ok, Err}
use Rattle.std.specs.Borrow.{Bor}
use Rattle.rst_tree.specs.Trees.{Tree, Trees, plain, plain_all}
use Rattle.rst_grammar.specs.declared.symbol.Symbol.{Symbol}
use Rattle.rst_read.specs.declared.parsed.Parsed.{Parsed}
use Rattle.rst_read.specs.declared.parsed.Boxed.{Boxed}
use Rattle.rst_read.specs.declared.parsed.Many.{Many}
use Rattle.rst_read.specs.declared.stop.Stop.{Stop}
use Rattle.rst_read.specs.declared.stop.Stop.TheVariants as stop

-- What a function returned, seen by view, is what reading gives, unless memory ran out.
abbrev pub Fails : {Y : Type 0} → Stop → Option Y → Type 0
Fails stop.NoMemory read = Unit {0}
Fails stop.NoTree read = read ≡ None

abbrev pub Gives : {X Y : Type 0} → (X → Y) → Result X Stop → Option Y → Type 0
Gives view (Ok x) read = read ≡ Some (view x)
Gives view (Err e) read = Fails e read

-- the tree that was read, and the symbols after it
abbrev pub seen : Parsed × Bor (List Symbol) → Tree × List Symbol
seen x = (plain x.0.tree, x.1.now)

abbrev pub seen_boxed : Boxed × Bor (List Symbol) → Tree × List Symbol
seen_boxed x = (plain x.0.tree.value, x.1.now)

abbrev pub seen_all : Many × Bor (List Symbol) → Trees × List Symbol
seen_all x = (plain_all x.0.trees.items, x.1.now)

-- the symbols alone
abbrev pub rest_of : Bor (List Symbol) → List Symbol
rest_of r = r.now
