-- The terms of units and of clocked blocks spell what these do.
use Rattle.std.proofs.Common.{ℕ, Bool, true, List, [], ◌∷◌, refl}
use Rattle.rst_width.specs.Values.{Valuation}
use Rattle.rst_net.specs.Statements.{Set}
use Rattle.rst_net.specs.Units.{PlainDriver, PlainProcess, Assign, Process}
use Rattle.rst_cycle.specs.Effects.{beginning}
use Rattle.rst_cycle.specs.Cycle.{clocked_effect}
use Rattle.rst_terms.specs.Algebras.{bits}
use Rattle.rst_typed_terms.specs.Valuations.{AreSpelled}
use Rattle.rst_statement_terms.specs.Targets.{Words, word_of}
use Rattle.rst_statement_terms.specs.Statements.{Held, Current, statement_bits}
use Rattle.rst_statement_values.proofs.Effects.{statement_goes}
use Rattle.rst_statement_values.specs.Fits.{StatementFits}
use Rattle.rst_design_terms.specs.Designs.{unit_statement, unit_bits, units_bits, clocked_bits}
use Rattle.rst_design_terms.specs.Lowerable.{UnitsFit, ClockedFit}
use Rattle.rst_settled.proofs.Runs.{done, done_all}

module _ (room : ℕ → ℕ) where
  unit_spelled : (unit : PlainDriver) → StatementFits room true (unit_statement unit) → (words : Words Bool) (v : Valuation) → AreSpelled room (word_of words) v
      → AreSpelled room (word_of (unit_bits bits tt words unit).1) (done unit v)
  unit_spelled (Assign set) fits words v spelled = (statement_goes room Current (Set set) words (beginning v v) fits (record { last = spelled; sees = refl })).agrees.last
  unit_spelled (Process process) fits words v spelled =
      (statement_goes room Current process.body words (beginning v v) fits (record { last = spelled; sees = refl })).agrees.last

  pub units_spelled : (units : List PlainDriver) → UnitsFit room units → (words : Words Bool) (v : Valuation) → AreSpelled room (word_of words) v
      → AreSpelled room (word_of (units_bits bits tt words units).1) (done_all units v)
  units_spelled [] fits words v spelled = spelled
  units_spelled (unit ∷ units) fits words v spelled =
      units_spelled units fits.1 (unit_bits bits tt words unit).1 (done unit v) (unit_spelled unit fits.0 words v spelled)

  pub clocked_spelled :
      (settled : Words Bool) (signals : Valuation) → AreSpelled room (word_of settled) signals → (processes : List PlainProcess) → ClockedFit room processes
      → (held : Words Bool) (v : Valuation) → AreSpelled room (word_of held) v
      → AreSpelled room (word_of (clocked_bits bits settled tt held processes).1) (clocked_effect signals processes v)
  clocked_spelled settled signals reads [] fits held v spelled = spelled
  clocked_spelled settled signals reads (process ∷ processes) fits held v spelled =
      let goes = statement_goes room (Held settled) process.body held (beginning signals v) fits.0 (record { last = spelled; sees = reads }) in
      clocked_spelled settled signals reads processes fits.1 (statement_bits bits (Held settled) tt held process.body).1 _ goes.agrees.last
