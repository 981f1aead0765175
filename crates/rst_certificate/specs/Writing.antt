-- A writer of a certificate's text, as contracts see it.
use Rattle.std.specs.Prelude.{◌≡◌, ◌<◌, ◌≤◌, ◌+◌, ℕ, Option, None, Some, List, [], length, take, drop}
use Rattle.rst_verdict.specs.declared.cert.Cert.{Cert}
use Rattle.rst_certificate.specs.CertText.{cert_text}

-- the certificate, and how many bytes of its text were given
pub record Writing : Type 0 where
  pub cert : Cert
  pub given : ℕ

-- the bytes of the text that weren't given yet
abbrev pub left_of : Writing → List ℕ
left_of writing = drop writing.given (cert_text writing.cert)

-- the next piece has 1 to 65,536 bytes, the next ones of the text; there is none exactly where none is left
abbrev pub IsNext : Writing → Option (List ℕ) → Type 0
IsNext writing None = left_of writing ≡ []
IsNext writing (Some piece) = (0 < length piece) × (length piece ≤ 65536) × (piece ≡ take (length piece) (left_of writing))

-- the writer behind a piece
abbrev pub behind : Writing → Option (List ℕ) → Writing
behind writing None = writing
behind writing (Some piece) = record writing { given = writing.given + length piece }
