use Rattle.rst_design.proofs.OneAnswer.{one_design, one_netlist, one_refusal, not_both, one_whole}
use Rattle.rst_design.proofs.laws.one_answer.Goals as goal

pub returns : goal.returns
returns c =
    let once = c.one_reading.ensures in
    record {
      design = one_design once;
      netlist = one_netlist once;
      refusal = one_refusal once;
      not_both = not_both once;
      answer = one_whole once;
    }
