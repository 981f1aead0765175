use Rattle.std.proofs.Common.{◌≤◌, length, map, ap, ◌∙◌, arith}
use Rattle.rst_width.specs.Scopes.{Names, extent_of}
use Rattle.rst_names.specs.Declarations.{signals}
use Rattle.rst_names.specs.Tables.{plain_declared}
use Rattle.rst_instances.specs.Places.{extent_by, extent_in}
use Rattle.rst_instances.specs.Tables.{module_at, plain_place}
use Rattle.rst_instances.proofs.ExtentLemmas.{place_names}
use Rattle.rst_instances.proofs.TurnLemmas.{there_at, shown_more, shown_end}
use Rattle.rst_instances.proofs.extents.shapes_in.Goals as goal

pub loop-d-preserved : goal.loop-d-preserved
loop-d-preserved c = λ modules h right.
    let p = c.args.place.now in
    let xs = c.in-Some.tables.facts.now.signals.items in
    let i = c.loop-d.d-index in
    let d = c.d-item.result in
    let is = there_at c.deref-d-items.result.now xs i d c.deref-d-items.ensures.value c.loop-d-test.true c.d-item.is in
    shown_more extent_of plain_declared (extent_in (plain_place modules p)) xs i d c.loop-d.shapes.items c.push.new.self.items c.in_ok-shape.shape (map (extent_in (plain_place modules p)) (signals (module_at modules p.of)))
    is c.in_ok-push.ensures.items
    (c.in_ok-shape.ensures ∙ ap (λ (n : Names). extent_by n d.signed (plain_declared d).range) (place_names modules p c.in-Some.tables right (c.in-Some.ensures.right modules h)))
    (c.loop-d.invariant modules h right)

pub returns : goal.returns
returns c = λ modules h right.
    let p = c.args.place.now in
    let xs = c.in-Some.tables.facts.now.signals.items in
    let past : length xs ≤ c.loop-d.d-index = omega (arith, ap length c.deref-d-items.ensures.value) in
    shown_end plain_declared (extent_in (plain_place modules p)) xs c.loop-d.d-index (map extent_of c.loop-d.shapes.items) (map (extent_in (plain_place modules p)) (signals (module_at modules p.of))) past
    (c.loop-d.invariant modules h right)
