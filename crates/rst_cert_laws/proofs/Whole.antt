-- A certificate's text is read back as the certificate.
use Rattle.std.proofs.Common.{◌≡◌, ◌==◌, ◌≤◌, ℕ, zero, suc, Bool, true, false, List, [], ◌∷◌, ◌++◌, codes, refl, ap, ◌∙◌, arith}
use Rattle.std.specs.Prelude.{Ok}
use Rattle.std.proofs.lemmas.Bool.{eq-eqb}
use Rattle.rst_verdict.specs.declared.verdict.Verdict.{Verdict}
use Rattle.rst_verdict.specs.declared.cert.Cert.{Cert}
use Rattle.rst_certificate.specs.CertText.{header_lines, part_lines, cert_lines, cert_text, free_bits_of}
use Rattle.rst_cert_reader.specs.declared.heading.HeadLine.TheVariants.{Version}
use Rattle.rst_cert_reader.specs.declared.heading.Heading.{Heading}
use Rattle.rst_cert_reader.specs.declared.gathered.Gathered.{Gathered}
use Rattle.rst_cert_reader.specs.declared.stage.Stage.TheVariants.{Head, Begin, End, Closed}
use Rattle.rst_cert_reader.specs.Headings.{no_heading}
use Rattle.rst_cert_reader.specs.Readings.{Reading, first_section, nothing, cert_from, finished, cert_of}
use Rattle.rst_cert_laws.specs.Limits.{CertFits}
use Rattle.rst_cert_laws.proofs.Lines.{Goes, goes_none, goes_step, goes_both, stands, at, reading_behind, number_behind, ends_behind, ends_both, lines_are_fed}
use Rattle.rst_cert_laws.proofs.Parts.{kind_of, parts_go}
use Rattle.rst_cert_laws.proofs.Heads.{heading_of, head_goes}

not_both : (x : Bool) → x ≡ true → x ≡ false → ⊥
not_both true e f = cc
not_both false e f = cc

-- a version without free bits is the first
first_version : (version : ℕ) → (version == 2) ≡ false → 1 ≤ version → version ≤ 2 → version ≡ 1
first_version zero other some most = absurd (omega (arith, some))
first_version (suc zero) other some most = refl
first_version (suc (suc v)) other some most =
    let two : suc (suc v) ≡ 2 = omega (arith, most) in
    absurd (not_both (suc (suc v) == 2) (eq-eqb (suc (suc v)) 2 two) other)

end_goes : (h : Heading) (g : Gathered) → Goes (stands h g End) (codes "end" ∷ []) (stands h g Closed)
end_goes h g = goes_step (stands h g End) (stands h g Closed) (stands h g Closed) (codes "end") [] (λ n. refl) refl (goes_none (stands h g Closed))

-- the line `end` ends the text
ends_here : (front middle : List (List ℕ)) → ends_behind false (front ++ middle ++ codes "end" ∷ []) ≡ true
ends_here front middle = ends_both false (front ++ middle) (codes "end" ∷ [])

-- what the whole text comes to
finish_is : (r : Reading) (n : ℕ) (e : Bool) (h : Heading) (g : Gathered) → e ≡ true → r ≡ stands h g Closed → finished (at r n e []) ≡ Ok (cert_from h g)
finish_is r n e h g ends is = ap (λ x. finished (at r n x [])) ends ∙ ap (λ y. finished (at y n true [])) is

pub read_back : (cert : Cert) → CertFits cert → cert_of (cert_text cert) ≡ Ok cert
unfolding cert_text
read_back cert fits =
    let h = heading_of cert in
    let none : (cert.version == 2) ≡ false → free_bits_of cert.verdict ≡ 0 = λ first. fits.free (first_version cert.version first fits.some_version fits.version) in
    let parts = parts_go h cert.verdict none fits.evidence in
    let g = parts.gathered in
    let goes : Goes (stands no_heading nothing (Head Version)) (cert_lines cert) (stands h g Closed) =
    goes_both _ (stands h g End) _ (header_lines cert ++ part_lines cert.verdict) (codes "end" ∷ [])
    (goes_both _ (stands h nothing (Begin (first_section (kind_of cert.verdict)))) _ (header_lines cert) (part_lines cert.verdict) (head_goes cert fits) parts.goes) (end_goes h g) in
    let ls = cert_lines cert in
    let r = stands no_heading nothing (Head Version) in
    ap finished (lines_are_fed r 0 false ls goes.clear)
    ∙ finish_is (reading_behind r 0 ls) (number_behind 0 ls) (ends_behind false ls) h g (ends_here (header_lines cert) (part_lines cert.verdict)) (goes.reads 0)
    ∙ ap (λ (v : Verdict). Ok (record { version = cert.version; form = cert.form; clock = cert.clock; registers = cert.registers; inputs = cert.inputs; outputs = cert.outputs; verdict = v })) parts.is
