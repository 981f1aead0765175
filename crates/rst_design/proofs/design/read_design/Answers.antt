use Rattle.std.specs.Option.{option_copied}
use Rattle.std.proofs.lemmas.Result.{err_from_is_err_and}
use Rattle.rst_net.specs.Units.{plain_flat}
use Rattle.rst_hierarchy.specs.Tables.{modules_in}
use Rattle.rst_design.specs.Texts.{texts_of}
use Rattle.rst_design.proofs.Wholes.{few_bits, text_stops, elaboration_stops, flow_stops, netlist}
use Rattle.rst_design.proofs.design.read_design.Goals as goal

pub returns-in_err-sources-clause-refused : goal.returns-in_err-sources-clause-refused
returns-in_err-sources-clause-refused c =
    let p = err_from_is_err_and c.from_residual.result c.from_residual.ensures.1 in
    rw (p.1, p.2) (text_stops (texts_of c.args.files.now) c.args.top.now (option_copied c.args.clock) c.in_err-sources.field-0.0 c.in_err-sources.ensures.refused)

pub returns-in_err-flat-clause-refused : goal.returns-in_err-flat-clause-refused
returns-in_err-flat-clause-refused c =
    let p = err_from_is_err_and c.from_residual-in_err-flat.result c.from_residual-in_err-flat.ensures.1 in
    rw (p.1, p.2) (elaboration_stops (texts_of c.args.files.now) c.args.top.now (option_copied c.args.clock) (modules_in c.in_ok-sources.sources.items) c.in_ok-sources.ensures.spelled
    c.in_err-flat.field-0.0 c.in_err-flat.ensures.refused)

pub net_of-requires : goal.net_of-requires
net_of-requires c = record {
  few = few_bits (modules_in c.in_ok-sources.sources.items) c.args.top.now (option_copied c.args.clock) c.in_ok-flat.flat c.in_ok-flat.ensures.flat;
}

pub returns-clause-accepted : goal.returns-clause-accepted
returns-clause-accepted c =
    netlist (texts_of c.args.files.now) c.args.top.now (option_copied c.args.clock) (modules_in c.in_ok-sources.sources.items) c.in_ok-sources.ensures.spelled
    (plain_flat c.in_ok-flat.flat) c.in_ok-flat.ensures.flat c.net_of.result c.net_of.ensures.net

pub returns-clause-refused : goal.returns-clause-refused
returns-clause-refused c =
    flow_stops (texts_of c.args.files.now) c.args.top.now (option_copied c.args.clock) (modules_in c.in_ok-sources.sources.items) c.in_ok-sources.ensures.spelled
    (plain_flat c.in_ok-flat.flat) c.in_ok-flat.ensures.flat c.net_of.result c.net_of.ensures.refused
