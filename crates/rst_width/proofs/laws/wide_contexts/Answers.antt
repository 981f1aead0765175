use Rattle.rst_width.proofs.Cuts.{larger-cut}
use Rattle.rst_width.proofs.TableRows.{placed-cut}
use Rattle.rst_width.proofs.laws.wide_contexts.Goals as goal

pub returns : goal.returns
returns c = record { placed = placed-cut; larger = larger-cut }
