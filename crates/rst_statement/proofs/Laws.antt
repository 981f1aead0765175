-- A whole statement.
use Rattle.std.proofs.Common.{ℕ, ◌≤◌, List, Some, sym, ◌∙◌}
use Rattle.rst_tree.specs.Statements.{Statement, height_of}
use Rattle.rst_grammar.specs.declared.symbol.Symbol.{Symbol}
use Rattle.rst_grammar.specs.Statements.{SpellsStmt}
use Rattle.rst_grammar.specs.ReadStatement.{stmt_reader}
use Rattle.rst_grammar.proofs.Exact.{no_result}
use Rattle.rst_grammar.proofs.SoundStatements.{whole_statement_takes}
use Rattle.rst_read.specs.declared.stop.Stop.{Stop}
use Rattle.rst_read.specs.declared.stop.Stop.TheVariants as stop
use Rattle.rst_read.specs.Gives.{Fails}

-- no statement where none was read
pub no_statement : (err : Stop) (ts : List Symbol) (s : Statement) (h : ℕ) → Fails err (stmt_reader h ts) → SpellsStmt s ts → height_of s ≤ h → Fails err (Some s)
no_statement stop.NoMemory ts s h fails spelled small = tt
no_statement stop.NoTree ts s h fails spelled small = absurd (no_result _ (sym fails ∙ whole_statement_takes h ts s spelled small))
