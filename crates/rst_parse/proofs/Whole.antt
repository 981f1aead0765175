-- A whole module.
use Rattle.std.proofs.Common.{ℕ, ◌≤◌, List, Some}
use Rattle.rst_tree.specs.Modules.{PlainModule, height_of_module}
use Rattle.rst_grammar.specs.declared.symbol.Symbol.{Symbol}
use Rattle.rst_grammar.specs.Modules.{SpellsModule}
use Rattle.rst_grammar.specs.ReadModule.{module_reader}
use Rattle.rst_grammar.proofs.ExactModules.{module_none}
use Rattle.rst_read.specs.declared.stop.Stop.{Stop}
use Rattle.rst_read.specs.declared.stop.Stop.TheVariants as stop
use Rattle.rst_read.specs.Gives.{Fails}

-- What fails for want of memory alone has a module to find.
pub module_fails : (e : Stop) (limit : ℕ) (ts : List Symbol) (m : PlainModule) → Fails e (module_reader limit ts) → SpellsModule m ts → height_of_module m ≤ limit → Fails e (Some m)
module_fails stop.NoMemory limit ts m fails spelled small = tt
module_fails stop.NoTree limit ts m fails spelled small = absurd (module_none limit ts m fails spelled small)
