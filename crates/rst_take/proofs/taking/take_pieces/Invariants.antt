use Rattle.std.proofs.Common.{◌≡◌, ◌≤◌, ◌+◌, ◌-◌, length}
use Rattle.rst_take.specs.Fronts.{HasRead}
use Rattle.rst_take.proofs.taking.take_pieces.Given as goal

abbrev pub invariant-loop-count : goal.invariant-loop-count
invariant-loop-count g l = record {
  read : HasRead l.name (g.K.Desk.files l.initial.desk) l.from l.reader;
  within : l.from ≤ l.limit;
  room : length l.room ≡ 65536;
  files : g.K.Desk.files l.desk ≡ g.K.Desk.files l.initial.desk;
  later : g.K.Desk.load_faults l.initial.desk ≤ g.K.Desk.load_faults l.desk;
  saves : g.K.Desk.save_faults l.desk ≡ g.K.Desk.save_faults l.initial.desk;
  as_sure : g.K.Desk.sure_loads l.desk ≡ g.K.Desk.sure_loads l.initial.desk;
  sure_room : g.K.Desk.sure_room l.desk ≡ g.K.Desk.sure_room l.initial.desk;
}

abbrev pub decreases-loop-count : goal.decreases-loop-count
decreases-loop-count g l = l.limit + 1 - l.from
