-- A file that is read piece by piece.
use Rattle.std.proofs.Common.{◌≡◌, ◌+◌, ◌-◌, ◌≤◌, ◌<◌, ℕ, List, [], ◌∷◌, ◌++◌, length, take, drop, refl, sym, ap, subst, ◌∙◌, arith, length-append}
use Rattle.std.proofs.lemmas.List.{length-take, length-drop, length-take-le, take_all}
use lib.Seq.{take-add}
use Rattle.std.specs.Prelude.{Option, None, Some, IfSome, Result, Ok, Err}
use Rattle.rst_outside.specs.declared.desk.DeskFile.{DeskFile}
use Rattle.rst_outside.specs.Files.{IsHeldUnder, IsLongUnder, IsPieceUnder}
use Rattle.rst_cert_reader.specs.Kept.{Kept, StandsFor}
use Rattle.rst_take.specs.Fronts.{IsFrontUnder, HasRead, HasReadAll}

-- no byte is read at first
pub none_read : (name : List ℕ) (files : Option (List DeskFile)) (reader : Option Kept) → StandsFor reader [] → HasRead name files 0 reader
none_read name None reader stands = record { front = []; count = refl; stands = stands; held = tt }
none_read name (Some files) reader stands = record { front = []; count = refl; stands = stands; held = λ bytes is. refl }

value_of : {A : Type 0} → A → Option A → A
value_of d (Some x) = x
value_of d None = d

same_some : {A : Type 0} (x y : A) → Some x ≡ Some y → x ≡ y
unfolding value_of
same_some x y e = ap (value_of x) e

-- the first bytes of a file go on as its piece does
front_more : (front into bytes : List ℕ) (count : ℕ) → count ≤ length into → front ≡ take (length front) bytes → take count into ≡ take count (drop (length front) bytes)
    → front ++ take count into ≡ take (length (front ++ take count into)) bytes
front_more front into bytes count fits is piece =
    let sum : length (front ++ take count into) ≡ length front + count = length-append front (take count into) ∙ ap (λ n. length front + n) (length-take-le count into fits) in
    ap (λ xs. xs ++ take count into) is
    ∙ ap (λ xs. take (length front) bytes ++ xs) piece
    ∙ sym (take-add (length front) count bytes)
    ∙ ap (λ n. take n bytes) (sym sum)

held_more : (name front into : List ℕ) (files : Option (List DeskFile)) (count : ℕ) → count ≤ length into → IfSome files (IsPieceUnder name (length front) count into) → IfSome files (IsFrontUnder name front)
    → IfSome files (IsFrontUnder name (front ++ take count into))
held_more name front into None count fits piece held = tt
held_more name front into (Some files) count fits piece held = λ bytes is.
    let same = same_some piece.0 bytes (sym piece.1 ∙ is) in
    front_more front into bytes count fits (held bytes is) (subst (λ b. take count into ≡ take count (drop (length front) b)) same piece.2.0)

-- behind a piece more of the file was read
pub reads_on : (name : List ℕ) (files : Option (List DeskFile)) (from count : ℕ) (into : List ℕ) (old new : Option Kept) → count ≤ length into → IfSome files (IsPieceUnder name from count into)
    → ((text : List ℕ) → StandsFor old text → StandsFor new (text ++ take count into)) → HasRead name files from old → HasRead name files (from + count) new
reads_on name files from count into old new fits piece fed read = record {
  front = read.front ++ take count into;
  count = length-append read.front (take count into) ∙ ap (λ n. length read.front + n) (length-take-le count into fits) ∙ ap (λ n. n + count) read.count;
  stands = fed read.front read.stands;
  held = held_more name read.front into files count fits (subst (λ n. IfSome files (IsPieceUnder name n count into)) (sym read.count) piece) read.held;
}

held_all : (name front into : List ℕ) (files : Option (List DeskFile)) → IfSome files (IsPieceUnder name (length front) 0 into) → IfSome files (IsFrontUnder name front) → IfSome files (IsHeldUnder name front)
held_all name front into None piece held = tt
held_all name front into (Some files) piece held =
    let bytes = piece.0 in
    let ends = piece.2.1.0 refl in
    piece.1 ∙ ap (λ text. Some text) (sym (held bytes piece.1 ∙ take_all (length front) bytes ends))

-- a piece of no bytes ends the file
pub reads_all : (name : List ℕ) (files : Option (List DeskFile)) (from limit count : ℕ) (into : List ℕ) (reader : Option Kept) → from ≤ limit → count ≡ 0 → IfSome files (IsPieceUnder name from count into)
    → HasRead name files from reader → HasReadAll name limit files reader
reads_all name files from limit count into reader fits none piece read = record {
  text = read.front;
  short = omega (arith, fits, read.count);
  stands = read.stands;
  held = held_all name read.front into files (subst (λ n. IfSome files (IsPieceUnder name (length read.front) n into)) none (subst (λ n. IfSome files (IsPieceUnder name n count into)) (sym read.count) piece)) read.held;
}

-- a piece past the limit is of a longer file
pub reads_past : (name : List ℕ) (files : Option (List DeskFile)) (from limit count : ℕ) (into : List ℕ) → count ≤ length into → from ≤ limit → limit < from + count → IfSome files (IsPieceUnder name from count into)
    → IfSome files (IsLongUnder name limit)
reads_past name None from limit count into fits first past piece = tt
reads_past name (Some files) from limit count into fits first past piece =
    let bytes = piece.0 in
    let one : length (take count into) ≡ count = length-take-le count into fits in
    let two : length (take count (drop from bytes)) ≤ length bytes - from = (let a = length-take count (drop from bytes) in let b = length-drop from bytes in omega arith) in
    let same = ap length piece.2.0 in
    (bytes, piece.1, omega arith)

ok_of : {A E : Type 0} → A → Result A E → A
ok_of d (Ok x) = x
ok_of d (Err e) = d

pub same_ok : {A E : Type 0} (x y : A) → ◌≡◌ {A = Result A E} (Ok x) (Ok y) → x ≡ y
unfolding ok_of
same_ok x y e = ap (ok_of x) e
