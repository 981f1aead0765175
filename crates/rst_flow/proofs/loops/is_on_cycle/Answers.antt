use Rattle.std.proofs.Common.{◌∙◌, sym}
use Rattle.rst_order.specs.Graphs.{graph_of}
use Rattle.rst_flow.proofs.Ranked.{not_around}
use Rattle.rst_flow.proofs.loops.is_on_cycle.Goals as goal

pub returns-then-is_alone : goal.returns-then-is_alone
returns-then-is_alone c some cycle =
    not_around c.in-Some.ranks.rank.items c.in-Some.ranks.alone.items (graph_of c.args.predecessors.now) (c.requires.ranks c.in-Some.ranks c.in-Some.is) c.args.drive.unit
    (sym c.is_alone.ensures ∙ c.if-is_alone.true) cycle
