-- Words of a range.
use Rattle.std.proofs.Common.{ℕ, ◌^◌, ◌<◌, ◌≤◌, arith}
use Rattle.std.proofs.Math.Nat.{pow-le-pow_right}

-- a word fits where its width does
pub small_word : (value width count : ℕ) → value < 2 ^ width → width ≤ count → value < 2 ^ count
small_word value width count h le =
    let two : 0 < 2 = omega arith in
    let more : 2 ^ width ≤ 2 ^ count = pow-le-pow_right two le in
    omega arith
