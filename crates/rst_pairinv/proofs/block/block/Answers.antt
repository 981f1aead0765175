use Rattle.std.proofs.Common.{◌≡◌, ◌∙◌, length, ap, arith}
use Rattle.rst_pairinv.proofs.Blocked.{hops_few}
use Rattle.rst_pairinv.proofs.Noting.{hop_noted, fresh_noted}
use Rattle.rst_pairinv.proofs.block.block.Goals as goal

pub next_of-requires-clause-few : goal.next_of-requires-clause-few
next_of-requires-clause-few c =
    let is : c.as_slice.result.now ≡ c.args.so_far.now.front.blocked = c.as_slice.ensures.value ∙ ap (λ f. f.blocked) c.front.view_is in
    omega (arith, ap length is, hops_few c.args.pair.now c.args.so_far.now c.requires.at, c.requires.few)

pub returns-clause-at : goal.returns-clause-at
returns-clause-at c =
    hop_noted c.args.pair.now c.args.so_far.now c.note.new.so_far c.in_ok-hop.hop c.args.left.now c.args.right.now c.in_ok-both.both
    c.in_ok-both.ensures c.requires.at c.in_ok-note.ensures c.in_ok-hop.ensures.good c.requires.states c.in_ok-hop.ensures.holds c.requires.related

pub returns-clause-fresh : goal.returns-clause-fresh
returns-clause-fresh c = fresh_noted c.args.so_far.now c.note.new.so_far c.in_ok-hop.hop c.in_ok-both.both c.in_ok-note.ensures
