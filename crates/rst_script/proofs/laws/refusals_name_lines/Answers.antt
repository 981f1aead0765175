use Rattle.rst_script.proofs.FaultFacts.{read_faults, fit_faults}
use Rattle.rst_script.proofs.laws.refusals_name_lines.Goals as goal

pub returns : goal.returns
returns c = record { read = read_faults; fit = fit_faults }
