use Rattle.rst_cert_lines.proofs.LineLaws.{step_takes, free_step_takes}
use Rattle.rst_cert_lines.proofs.ClauseLaws.{clause_takes}
use Rattle.rst_cert_lines.proofs.HopLaws.{hop_line_takes}
use Rattle.rst_cert_lines.proofs.EntryLaws.{entry_takes}
use Rattle.rst_cert_lines.proofs.laws.what_is_read_is_written.Goals as goal

pub returns-clause-step : goal.returns-clause-step
returns-clause-step c = λ inputs text it read. step_takes inputs text it read

pub returns-clause-free_step : goal.returns-clause-free_step
returns-clause-free_step c = λ inputs text it read. free_step_takes inputs text it read

pub returns-clause-clause : goal.returns-clause-clause
returns-clause-clause c = λ text it read. clause_takes text it read

pub returns-clause-hop : goal.returns-clause-hop
returns-clause-hop c = λ shape word before text it read. hop_line_takes shape word before text it read

pub returns-clause-entry : goal.returns-clause-entry
returns-clause-entry c = λ place text it read. entry_takes place text it read
