-- Where nothing is left, the whole text is saved.
use Rattle.std.proofs.Common.{◌≡◌, ℕ, ◌<◌, Bool, true, false, List, [], ◌++◌, length, refl, sym, ap, subst, ◌∙◌, append-nil, arith}
use Rattle.std.specs.Prelude.{Option}
use Rattle.rst_outside.specs.declared.desk.DeskFile.{DeskFile}
use Rattle.rst_outside.specs.SureRoom.{SureRoom}
use Rattle.rst_verdict.specs.declared.cert.Cert.{Cert}
use Rattle.rst_certificate.specs.CertText.{cert_text}
use Rattle.rst_certificate.specs.Writing.{Writing, left_of}
use Rattle.rst_certificate.proofs.Writers.{given_of, given_and_left, text_begins}
use Rattle.rst_certificate.proofs.Saves.{HasGiven}

-- some piece was saved before all of a text was
some_saved : (first : Bool) (given text : List ℕ) → (first ≡ true → given ≡ []) → given ≡ text → 0 < length text → first ≡ false
some_saved true given text none whole begins =
    let empty : length text ≡ 0 = ap length (sym whole ∙ none refl) in
    absurd (omega arith)
some_saved false given text none whole begins = refl

pub whole_given : (writing : Writing) (cert : Cert) (name : List ℕ) (first : Bool) (old new : Option (List DeskFile)) (faults now : ℕ) (room left : Option SureRoom)
    → writing.cert ≡ cert → left_of writing ≡ [] → HasGiven name (given_of writing) first old new faults now room left
    → HasGiven name (cert_text cert) false old new faults now room left
whole_given writing cert name first old new faults now room left same none has =
    let whole : given_of writing ≡ cert_text cert =
    sym (append-nil (given_of writing)) ∙ ap (λ back. given_of writing ++ back) (sym none) ∙ given_and_left writing ∙ ap cert_text same in
    let saved = some_saved first (given_of writing) (cert_text cert) (λ is. (has.none is).0) whole (text_begins cert) in
    let G : List ℕ → Type 0 = λ given. HasGiven name given false old new faults now room left in
    let F : Bool → Type 0 = λ flag. HasGiven name (given_of writing) flag old new faults now room left in
    subst G whole (subst F saved has)
