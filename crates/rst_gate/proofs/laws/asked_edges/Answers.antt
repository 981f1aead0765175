use Rattle.rst_gate.specs.Operations.{on_bits, on_terns}
use Rattle.rst_gate.proofs.FoldLaws.{bits_fold, terns_fold}
use Rattle.rst_gate.proofs.SharedMeaning.{asked_are}
use Rattle.rst_gate.proofs.StandOnce.{keeps_different}
use Rattle.rst_gate.proofs.laws.asked_edges.Goals as goal

pub returns-clause-two : goal.returns-clause-two
returns-clause-two c = asked_are on_bits bits_fold

pub returns-clause-three : goal.returns-clause-three
returns-clause-three c = asked_are on_terns terns_fold

pub returns-clause-once : goal.returns-clause-once
returns-clause-once c = keeps_different
