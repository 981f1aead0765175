-- What fits in the sure room is written.
use Rattle.std.proofs.Common.{◌≡◌, ℕ, List, length, ◌≤◌, Option, Some, None, Result, Ok, Err}
use Rattle.std.specs.Prelude.{IfSome, IsOk}
use Rattle.rst_outside.specs.SureRoom.{SureRoom}
use Rattle.rst_sign.specs.Run.{FitsIn, FitsUnder}

pub put_fits : (room : Option ℕ) (text : List ℕ) (Is : Type 0) (More : ℕ → Type 0) → IfSome room (λ r. length text ≤ r → Is × More r) → FitsIn room text → Is
put_fits None text Is More h fits = absurd fits
put_fits (Some r) text Is More h fits = (h fits).0

pub save_fits : (room : Option SureRoom) (name text : List ℕ) (Is : Type 0) (More : SureRoom → Type 0)
    → IfSome room (λ r. r.name ≡ name → length text ≤ r.left → Is × More r) → FitsUnder room name text → Is
save_fits None name text Is More h fits = absurd fits
save_fits (Some r) name text Is More h fits = (h fits.0 fits.1).0
