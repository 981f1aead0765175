use Rattle.std.proofs.Common.{arith}
use Rattle.rst_instances.specs.Tables.{plain_linked}
use Rattle.rst_names.proofs.Turns.{read}
use Rattle.rst_items.specs.Tables.{seen_site}
use Rattle.rst_elab.specs.ClockRows.{misused_in_link}
use Rattle.rst_elab.specs.Tables.{test_of}
use Rattle.rst_elab.proofs.FirstNames.{first_found, first_later}
use Rattle.rst_elab.proofs.clocks.misused_in_links.Goals as goal

pub returns-in-Some : goal.returns-in-Some
returns-in-Some c =
    first_found plain_linked (misused_in_link (test_of c.args.test.now) (seen_site c.args.inner)) c.args.links.now c.loop-link.link-index c.link-item.result
    (read c.args.links.now c.loop-link.link-index c.link-item.result (omega arith) c.link-item.is) c.in-Some.name.now c.loop-link.invariant c.in-Some.ensures

pub loop-link-preserved : goal.loop-link-preserved
loop-link-preserved c =
    first_later plain_linked (misused_in_link (test_of c.args.test.now) (seen_site c.args.inner)) c.args.links.now c.loop-link.link-index c.link-item.result
    (read c.args.links.now c.loop-link.link-index c.link-item.result (omega arith) c.link-item.is) c.loop-link.invariant c.in_default.ensures
