use Rattle.std.proofs.Common.{◌∙◌, inl, inr}
use Rattle.rst_outside.proofs.Lookups.{past-room, nothing-saved}
use Rattle.rst_outside.proofs.store.bytes_shown.Goals as goal
use Rattle.rst_outside.proofs.store.bytes_shown.Goals.{then-is_for+in_default, else-is_for}

pub loop-room-preserved : goal.loop-room-preserved
loop-room-preserved c =
    c.loop-room.invariant
    ∙ past-room c.args.name.now c.args.rooms.now c.args.files.now c.loop-room.room-index c.room-item.result c.loop-room-test.true c.room-item.is
    (elim c.if-is_for.branch [
      | then-is_for+in_default w ↦ inr (nothing-saved c.room-item.result (rw w.in_default.is at w.saved.ensures))
      | else-is_for w ↦ inl (cc)
    ])
