-- Pieces that are saved one behind the other under one name.
use Rattle.std.proofs.Common.{◌≡◌, ℕ, ◌-◌, ◌^◌, ◌≤◌, Bool, true, false, List, [], ◌++◌, length, refl, sym, ap, subst, ◌∙◌, length-append, arith}
use Rattle.std.specs.Prelude.{Option, None, Some, IfSome}
use Rattle.rst_outside.specs.declared.desk.DeskFile.{DeskFile}
use Rattle.rst_outside.specs.Files.{bytes_before, SavesPiece, ChangesOnly}
use Rattle.rst_outside.specs.SureRoom.{SureRoom}
use Rattle.rst_outside.specs.Causes.{Rose, HasCause}

-- other files stay over two changes under one name
pub changes_both : (name : List ℕ) (old mid new : Option (List DeskFile)) → ChangesOnly name old mid → ChangesOnly name mid new → ChangesOnly name old new
changes_both name None None None first second = tt
changes_both name None None (Some new) first second = second
changes_both name None (Some mid) new first second = absurd first
changes_both name (Some old) None new first second = absurd first
changes_both name (Some old) (Some mid) None first second = second
changes_both name (Some old) (Some mid) (Some new) first second = λ other differs. second other differs ∙ first other differs

-- without a change other files stay
pub changes_none : (name : List ℕ) (files : Option (List DeskFile)) → ChangesOnly name files files
changes_none name None = tt
changes_none name (Some files) = λ other differs. refl

-- a piece behind what was saved
pub saves_both : (name given piece : List ℕ) (old mid new : Option (List DeskFile)) → SavesPiece name true given old mid → SavesPiece name false piece mid new → SavesPiece name true (given ++ piece) old new
saves_both name given piece None mid new first second = tt
saves_both name given piece (Some old) None new first second = absurd first
saves_both name given piece (Some old) (Some mid) None first second = second
saves_both name given piece (Some old) (Some mid) (Some new) first second =
    second ∙ ap (λ standing. Some (bytes_before false standing ++ piece)) first

-- a count that rose later rose
pub rose_later : (before mid now : ℕ) → before ≤ mid → Rose mid now → Rose before now
rose_later before mid now later rose = omega arith

-- what was given is saved, as the first piece or behind others
pub record HasGiven (name given : List ℕ) (first : Bool) (old new : Option (List DeskFile)) (faults now : ℕ) (room left : Option SureRoom) : Type 0 where
  pub none : first ≡ true → (given ≡ []) × (new ≡ old)
  pub saved : first ≡ false → SavesPiece name true given old new
  pub at_most : first ≡ false → now ≤ 2 ^ 64 - 1
  pub later : faults ≤ now
  pub others : ChangesOnly name old new
  pub lowered : (r : SureRoom) → room ≡ Some r → r.name ≡ name → length given ≤ r.left → left ≡ Some (record r { left = r.left - length given })

pub nothing_given : (name : List ℕ) (files : Option (List DeskFile)) (faults : ℕ) (room : Option SureRoom) → HasGiven name [] true files files faults faults room room
nothing_given name files faults room = record {
  none = λ first. (refl, refl);
  saved = λ first. cc;
  at_most = λ first. cc;
  later = omega arith;
  others = changes_none name files;
  lowered = λ r is same fits.
      let all : r.left ≡ r.left - 0 = omega arith in
      is ∙ ap (λ n. Some (record r { left = n })) all;
}

-- what a desk says of a save where its room is sure
abbrev pub SaveFits : (name piece : List ℕ) (room : Option SureRoom) (ok : Type 0) (left : Option SureRoom) → Type 0
SaveFits name piece room ok left = IfSome room (λ r. r.name ≡ name → length piece ≤ r.left → ok × (left ≡ Some (record r { left = r.left - length piece })))

saved_more : (name given piece : List ℕ) (first : Bool) (old mid new : Option (List DeskFile)) → (first ≡ true → (given ≡ []) × (mid ≡ old)) → (first ≡ false → SavesPiece name true given old mid)
    → SavesPiece name first piece mid new → SavesPiece name true (given ++ piece) old new
saved_more name given piece true old mid new none saved piece_saved =
    let is = none refl in
    let S : List ℕ → Type 0 = λ front. SavesPiece name true (front ++ piece) old new in
    let F : Option (List DeskFile) → Type 0 = λ files. SavesPiece name true piece files new in
    subst S (sym is.0) (subst F is.1 piece_saved)
saved_more name given piece false old mid new none saved piece_saved = saves_both name given piece old mid new (saved refl) piece_saved

-- the save of a piece that fits in sure room is taken
pub piece_taken : (name given piece : List ℕ) (first : Bool) (old new : Option (List DeskFile)) (faults now : ℕ) (room mid left : Option SureRoom) (ok : Type 0)
    → HasGiven name given first old new faults now room mid → SaveFits name piece mid ok left
    → (r : SureRoom) → room ≡ Some r → r.name ≡ name → length (given ++ piece) ≤ r.left → ok × (left ≡ Some (record r { left = r.left - length (given ++ piece) }))
piece_taken name given piece first old new faults now room mid left ok has fits r is same enough =
    let sum = length-append given piece in
    let standing = has.lowered r is same (omega arith) in
    let F : Option SureRoom → Type 0 = λ o. SaveFits name piece o ok left in
    let taken = subst F standing fits same (omega arith) in
    let less : (r.left - length given) - length piece ≡ r.left - length (given ++ piece) = omega arith in
    (taken.0, taken.1 ∙ ap (λ n. Some (record r { left = n })) less)

-- a piece more
pub given_more : (name given piece : List ℕ) (first : Bool) (old mid new : Option (List DeskFile)) (faults before now : ℕ) (room kept left : Option SureRoom) (ok fails : Type 0)
    → HasGiven name given first old mid faults before room kept → SavesPiece name first piece mid new → ChangesOnly name mid new
    → HasCause before now fails → SaveFits name piece kept ok left
    → HasGiven name (given ++ piece) false old new faults now room left
given_more name given piece first old mid new faults before now room kept left ok fails has saved others cause fits = record {
  none = λ is. cc;
  saved = λ is. saved_more name given piece first old mid new has.none has.saved saved;
  at_most = λ is. cause.at_most;
  later = omega arith;
  others = changes_both name old mid new has.others others;
  lowered = λ r is same enough. (piece_taken name given piece first old mid faults before room kept left ok has fits r is same enough).1;
}

-- a fact of the value, if there is one
pub if_some : {A : Type 0} (option : Option A) (P : A → Type 0) → ((a : A) → option ≡ Some a → P a) → IfSome option P
if_some None P each = tt
if_some (Some a) P each = each a refl

pub not_taken : false ≡ true → ⊥
not_taken taken = cc
