-- What a file's text is as a certificate.
use Rattle.std.specs.Prelude.{◌≡◌, ◌≤◌, ℕ, Some, Result, Ok, Err, ⊤, List, length}
use Rattle.rst_outside.specs.declared.desk.LoadError.TheVariants as loads
use Rattle.rst_outside.specs.declared.desk.DeskFile.{DeskFile}
use Rattle.rst_outside.specs.Files.{bytes_under}
use Rattle.rst_verdict.specs.declared.cert.Cert.{Cert}
use Rattle.rst_cert_reader.specs.declared.reader.CertFault.{CertFault}
use Rattle.rst_cert_reader.specs.declared.reader.CertFault.TheVariants as faults
use Rattle.rst_cert_reader.specs.Readings.{cert_of}
use Rattle.rst_take.specs.declared.fault.TakeFault.{TakeFault}
use Rattle.rst_take.specs.declared.fault.TakeFault.TheVariants.{Load, Text}

-- a text of at most so many bytes stands under the name, and read as a certificate it gives this
abbrev pub IsReadUnder : List ℕ → ℕ → Result Cert CertFault → List DeskFile → Type 0
IsReadUnder name limit answer files = (text : List ℕ) × (bytes_under name files ≡ Some text) × (length text ≤ limit) × (cert_of text ≡ answer)

-- what a text is, unless memory ran out, which is the fault of a load
abbrev pub Takes : Result Cert CertFault → Result Cert TakeFault → Type 0
Takes read (Ok cert) = read ≡ Ok cert
Takes read (Err (Text faults.NoMemory)) = ⊥
Takes read (Err (Text faults.Cut)) = read ≡ Err faults.Cut
Takes read (Err (Text faults.BadHeader)) = read ≡ Err faults.BadHeader
Takes read (Err (Text (faults.BadLine number))) = read ≡ Err (faults.BadLine number)
Takes read (Err (Load loads.NoMemory)) = ⊤
Takes read (Err (Load loads.TooLong)) = ⊥
Takes read (Err (Load loads.Failed)) = ⊥
