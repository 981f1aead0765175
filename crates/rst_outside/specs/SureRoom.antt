-- Room for pieces under a name, as contracts see it.
use Rattle.std.specs.Prelude.{◌≡◌, ◌-◌, ◌≤◌, ℕ, List, Option, None, Some}

-- the name, and how many bytes are left
pub record SureRoom : Type 0 where
  pub name : List ℕ
  pub left : ℕ

-- there is room for so many bytes under the name
abbrev pub HasRoomFor : List ℕ → ℕ → Option SureRoom → Type 0
HasRoomFor name n None = ⊥
HasRoomFor name n (Some room) = (room.name ≡ name) × (n ≤ room.left)

-- the room behind so many bytes
abbrev pub lowered : ℕ → Option SureRoom → Option SureRoom
lowered n None = None
lowered n (Some room) = Some (record room { left = room.left - n })
