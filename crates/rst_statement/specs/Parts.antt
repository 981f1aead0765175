-- Parts of the readers of targets and statements that the code has as functions of their own.
use Rattle.std.specs.Prelude.{ℕ, length, List, ◌∷◌, Bool, Option, Some, None, nat_eq, if◌then◌else◌}
use Rattle.rst_tree.specs.Targets as targets
use Rattle.rst_tree.specs.Targets.{Places}
use Rattle.rst_tree.specs.Statements.{Arms, no_arm, labels, otherwise}
use Rattle.rst_grammar.specs.declared.symbol.Terminal.TheVariants as terminal
use Rattle.rst_grammar.specs.declared.symbol.Symbol.{Symbol}
use Rattle.rst_grammar.specs.declared.symbol.Symbol.TheVariants as symbol
use Rattle.rst_grammar.specs.Reading.{◌>>=◌, after, Readers}
use Rattle.rst_grammar.specs.ReadStatement.{TargetReader, StmtReader, more_targets, labels_in, default_colon}

-- a target, and those behind commas
unfoldable pub targets_in : TargetReader → List Symbol → Option (Places × List Symbol)
targets_in target ts = do
  first ← target ts
  others ← more_targets target (length first.1) first.1
  Some (targets.more first.0 others.0, others.1)

-- behind an opening brace
unfoldable pub join_of : TargetReader → TargetReader
join_of target rest = do
  all ← targets_in target rest
  behind ← after terminal.CloseBrace all.1
  Some (targets.Join all.0, behind)

abbrev pub ArmReader : Type 0
ArmReader = List Symbol → Option (Arms × List Symbol)

-- behind `default`: one arm
unfoldable pub default_in : StmtReader → ArmReader
default_in stmt rest = stmt (default_colon rest) >>= λ s. Some (otherwise s.0 no_arm, s.1)

-- one arm with labels
unfoldable pub labelled_in : Readers → StmtReader → Bool → ArmReader
labelled_in below stmt wild ts = do
  es ← labels_in below wild ts
  behind ← after terminal.Colon es.1
  s ← stmt behind
  Some (labels es.0 s.0 no_arm, s.1)

-- one arm, with at most this many defaults
unfoldable pub arm_in : Readers → StmtReader → Bool → ℕ → ArmReader
arm_in below stmt wild most_defaults (symbol.Terminal terminal.Default ∷ rest) = if nat_eq most_defaults 0 then None else default_in stmt rest
arm_in below stmt wild most_defaults ts = labelled_in below stmt wild ts
