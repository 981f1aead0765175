-- Writers behind a piece.
use Rattle.std.proofs.Common.{◌≡◌, ℕ, ◌<◌, ◌≤◌, min, arith, ◌+◌, List, ◌++◌, length, drop, take, sym, ap, ◌∙◌, Some}
use Rattle.std.proofs.lemmas.List.{drop-drop, take-append-drop, length-take}
use Rattle.std.proofs.Math.Seq.{take-add}
use Rattle.rst_verdict.specs.declared.cert.Cert.{Cert}
use Rattle.rst_certificate.specs.CertText.{cert_text}
use Rattle.rst_certificate.specs.Writing.{Writing, left_of, IsNext, behind}

-- what was left is the piece and what is left behind it
pub left_behind : (writing : Writing) (piece : List ℕ) → IsNext writing (Some piece) → left_of writing ≡ piece ++ left_of (behind writing (Some piece))
left_behind writing piece next =
    sym (take-append-drop (length piece) (left_of writing))
    ∙ ap (λ front. front ++ drop (length piece) (left_of writing)) (sym next.2)
    ∙ ap (λ back. piece ++ back) (drop-drop (length piece) writing.given (cert_text writing.cert))

-- the bytes that were given
abbrev pub given_of : Writing → List ℕ
given_of writing = take writing.given (cert_text writing.cert)

-- what was given and what is left are the text
pub given_and_left : (writing : Writing) → given_of writing ++ left_of writing ≡ cert_text writing.cert
given_and_left writing = take-append-drop writing.given (cert_text writing.cert)

-- the piece was given too
pub given_behind : (writing : Writing) (piece : List ℕ) → IsNext writing (Some piece) → given_of (behind writing (Some piece)) ≡ given_of writing ++ piece
given_behind writing piece next =
    take-add writing.given (length piece) (cert_text writing.cert) ∙ ap (λ back. given_of writing ++ back) (sym next.2)

-- a text has a byte
pub text_begins : (cert : Cert) → 0 < length (cert_text cert)
unfolding cert_text
text_begins cert = omega arith

-- a piece is no longer than what is left
pub given_fits : (writing : Writing) (piece : List ℕ) → IsNext writing (Some piece) → length (given_of writing ++ piece) ≤ length (cert_text writing.cert)
given_fits writing piece next =
    let count : length (given_of (behind writing (Some piece))) ≡ min (writing.given + length piece) (length (cert_text writing.cert)) =
    length-take (writing.given + length piece) (cert_text writing.cert) in
    let same : length (given_of (behind writing (Some piece))) ≡ length (given_of writing ++ piece) = ap length (given_behind writing piece next) in
    omega arith
