-- What a text that was read whole is answered as.
use Rattle.std.proofs.Common.{◌≡◌, ◌≤◌, ℕ, List, length, subst}
use Rattle.std.specs.Prelude.{Option, None, Some, IfSome, IfOk, Result, Ok, Err}
use Rattle.rst_outside.specs.declared.desk.DeskFile.{DeskFile}
use Rattle.rst_outside.specs.Files.{IsHeldUnder}
use Rattle.rst_outside.specs.declared.desk.LoadError.TheVariants as loads
use Rattle.rst_verdict.specs.declared.cert.Cert.{Cert}
use Rattle.rst_certificate.specs.CertText.{cert_text}
use Rattle.rst_cert_reader.specs.declared.reader.CertFault.{CertFault}
use Rattle.rst_cert_reader.specs.declared.reader.CertFault.TheVariants as faults
use Rattle.rst_cert_reader.specs.Readings.{cert_of}
use Rattle.rst_cert_reader.specs.Kept.{Kept, StandsFor}
use Rattle.rst_cert_reader.proofs.Found.{found}
use Rattle.rst_take.specs.declared.fault.TakeFault.{TakeFault}
use Rattle.rst_take.specs.declared.fault.TakeFault.TheVariants.{Load, Text}
use Rattle.rst_take.specs.Takes.{IsReadUnder, Takes}
use Rattle.rst_take.specs.Fronts.{HasReadAll}

-- what a reader of the whole text is answered as is what the text means
pub means : (name : List ℕ) (limit : ℕ) (files : Option (List DeskFile)) (reader : Option Kept) (result : Result Cert TakeFault) (all : HasReadAll name limit files reader)
    → ((text : List ℕ) → StandsFor reader text → Takes (cert_of text) result) → Takes (cert_of all.text) result
means name limit files reader result all h = h all.text all.stands

read_under : (name text : List ℕ) (limit : ℕ) (answer : Result Cert CertFault) (files : Option (List DeskFile)) → length text ≤ limit → IfSome files (IsHeldUnder name text) → cert_of text ≡ answer
    → IfSome files (IsReadUnder name limit answer)
read_under name text limit answer None short held is = tt
read_under name text limit answer (Some files) short held is = (text, held, short, is)

pub cert_read : (name : List ℕ) (limit : ℕ) (files : Option (List DeskFile)) (reader : Option Kept) (result : Result Cert TakeFault) (all : HasReadAll name limit files reader)
    → Takes (cert_of all.text) result → IfOk result (λ cert. IfSome files (IsReadUnder name limit (Ok cert)))
cert_read name limit files reader (Ok cert) all h = read_under name all.text limit (Ok cert) files all.short all.held h
cert_read name limit files reader (Err fault) all h = tt

pub cert_written : (text : List ℕ) (result : Result Cert TakeFault) → Takes (cert_of text) result → IfOk result (λ cert. cert_of (cert_text cert) ≡ Ok cert)
cert_written text (Ok cert) h = subst (λ t. cert_of t ≡ Ok cert) (found text cert h) h
cert_written text (Err fault) h = tt

pub cert_short : (text : List ℕ) (limit : ℕ) (result : Result Cert TakeFault) → length text ≤ limit → Takes (cert_of text) result → IfOk result (λ cert. length (cert_text cert) ≤ limit)
cert_short text limit (Ok cert) short h = subst (λ t. length t ≤ limit) (found text cert h) short
cert_short text limit (Err fault) short h = tt

fault_means : (read : Result Cert CertFault) (fault : CertFault) → Takes read (Err (Text fault)) → read ≡ Err fault
fault_means read faults.NoMemory h = absurd h
fault_means read faults.Cut h = h
fault_means read faults.BadHeader h = h
fault_means read (faults.BadLine number) h = h

pub fault_read : (name : List ℕ) (limit : ℕ) (files : Option (List DeskFile)) (reader : Option Kept) (result : Result Cert TakeFault) (all : HasReadAll name limit files reader)
    → Takes (cert_of all.text) result → (fault : CertFault) → result ≡ Err (Text fault) → IfSome files (IsReadUnder name limit (Err fault))
fault_read name limit files reader result all h fault is =
    read_under name all.text limit (Err fault) files all.short all.held (fault_means (cert_of all.text) fault (subst (λ r. Takes (cert_of all.text) r) is h))

pub no_memory_fault : (read : Result Cert CertFault) (result : Result Cert TakeFault) → Takes read result → result ≡ Err (Text faults.NoMemory) → ⊥
no_memory_fault read result h is = subst (λ r. Takes read r) is h

pub not_failed : (read : Result Cert CertFault) (result : Result Cert TakeFault) → Takes read result → result ≡ Err (Load loads.Failed) → ⊥
not_failed read result h is = subst (λ r. Takes read r) is h

pub not_long : (read : Result Cert CertFault) (result : Result Cert TakeFault) → Takes read result → result ≡ Err (Load loads.TooLong) → ⊥
not_long read result h is = subst (λ r. Takes read r) is h
