-- A desk in memory with sure loads and sure room, as contracts see it.
use Rattle.std.specs.Prelude.{ℕ, List, Option}
use Rattle.rst_outside.specs.declared.desk.DeskFile.{DeskFile}
use Rattle.rst_outside.specs.SureRoom.{SureRoom}

pub record SureState : Type 0 where
  pub files : List DeskFile
  pub room : Option SureRoom
  pub load_faults : ℕ
  pub save_faults : ℕ
