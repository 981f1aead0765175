-- The header of a certificate is read as it is written.
use Rattle.std.proofs.Common.{◌≡◌, ◌≤◌, ◌<◌, ◌^◌, ◌-◌, ℕ, Option, None, Some, option_map, List, [], ◌∷◌, codes, refl, ap, ◌∙◌, arith}
use Rattle.std.specs.Prelude.{IfSome, IsTrue}
use Rattle.std.proofs.lemmas.Bool.{le-leb}
use Rattle.rst_lex.specs.Words.{is_name}
use Rattle.rst_verdict.specs.declared.verdict.Verdict.{Verdict}
use Rattle.rst_verdict.specs.declared.verdict.Verdict.TheVariants.{SignedKnown, SignedRelation, Refuted, Never, Alignable, Unknown}
use Rattle.rst_verdict.specs.declared.cert.Cert.{Cert}
use Rattle.rst_certificate.specs.Words.{counted}
use Rattle.rst_certificate.specs.CertText.{clock_line, kind_line, header_lines}
use Rattle.rst_cert_lines.proofs.WordLaws.{after_again}
use Rattle.rst_cert_reader.specs.declared.heading.HeadLine.{HeadLine}
use Rattle.rst_cert_reader.specs.declared.heading.HeadLine.TheVariants.{Version, Form, Clock, Registers, Inputs, Outputs, Kind}
use Rattle.rst_cert_reader.specs.declared.heading.Heading.{Heading}
use Rattle.rst_cert_reader.specs.declared.stage.Stage.TheVariants.{Head, Begin}
use Rattle.rst_cert_reader.specs.Headings.{version_of, version_in, name_behind, clock_in, kind_in, no_heading, with_line}
use Rattle.rst_cert_reader.specs.Readings.{Reading, first_section, stage_behind_head, nothing, with_head}
use Rattle.rst_cert_laws.specs.Limits.{CertFits}
use Rattle.rst_cert_laws.proofs.Breaks.{IsClear, clear_counted, clear_name}
use Rattle.rst_cert_laws.proofs.Lines.{Goes, goes_none, goes_step, stands, number_again}
use Rattle.rst_cert_laws.proofs.Parts.{kind_of}

version_again : (version : ℕ) → 1 ≤ version → version ≤ 2 → version_in (counted (codes "reset-certificate") version) ≡ Some version
unfolding version_in
version_again version some most =
    let small : version < 2 ^ 64 = omega (arith, most) in
    ap version_of (number_again (codes "reset-certificate") 2 version most small) ∙ rw (le-leb 1 version some) refl

clock_again : (clock : Option (List ℕ)) → IfSome clock (λ name. IsTrue (is_name name)) → clock_in (clock_line clock) ≡ Some clock
unfolding clock_in
clock_again None h = refl
clock_again (Some name) h = ap name_behind (after_again (codes "clock ") name) ∙ rw h refl

kind_again : (verdict : Verdict) → kind_in (kind_line verdict) ≡ Some (kind_of verdict)
unfolding kind_in
kind_again (SignedKnown seq) = refl
kind_again (SignedRelation seq equal blocked split land) = refl
kind_again (Refuted seq a b word) = refl
kind_again (Never a b blocked freed escape) = refl
kind_again (Alignable seq a b word blocked freed split stuck) = refl
kind_again (Unknown equal journal) = refl

clear_clock : (clock : Option (List ℕ)) → IfSome clock (λ name. IsTrue (is_name name)) → IsClear (clock_line clock)
clear_clock None h = refl
clear_clock (Some name) h = clear_name name h

clear_kind : (verdict : Verdict) → IsClear (kind_line verdict)
clear_kind (SignedKnown seq) = refl
clear_kind (SignedRelation seq equal blocked split land) = refl
clear_kind (Refuted seq a b word) = refl
clear_kind (Never a b blocked freed escape) = refl
clear_kind (Alignable seq a b word blocked freed split stuck) = refl
clear_kind (Unknown equal journal) = refl

-- a line of the header is read, and the header goes on
head_step : (due : HeadLine) (h next : Heading) (l : List ℕ) (ls : List (List ℕ)) (new : Reading) → with_line due h l ≡ Some next → IsClear l
    → Goes (stands next nothing (stage_behind_head due next.kind)) ls new → Goes (stands h nothing (Head due)) (l ∷ ls) new
head_step due h next l ls new is clear rest =
    goes_step (stands h nothing (Head due)) (stands next nothing (stage_behind_head due next.kind)) new l ls (λ n. ap (with_head due nothing) is) clear rest

abbrev pub heading_of : Cert → Heading
heading_of cert = record {
  version = cert.version;
  form = cert.form;
  clock = cert.clock;
  registers = cert.registers;
  inputs = cert.inputs;
  outputs = cert.outputs;
  kind = kind_of cert.verdict;
}

pub head_goes : (cert : Cert) → CertFits cert → Goes (stands no_heading nothing (Head Version)) (header_lines cert) (stands (heading_of cert) nothing (Begin (first_section (kind_of cert.verdict))))
head_goes cert fits =
    let version = cert.version in
    let form = cert.form in
    let registers = cert.registers in
    let inputs = cert.inputs in
    let outputs = cert.outputs in
    let small_version : version < 2 ^ 64 = let most = fits.version in omega (arith, most) in
    let small_form : form < 2 ^ 64 = let most = fits.form in omega (arith, most) in
    let most_form : form ≤ 2 ^ 32 - 1 = let most = fits.form in omega (arith, most) in
    let small_registers : registers < 2 ^ 64 = let most = fits.registers in omega (arith, most) in
    let small_inputs : inputs < 2 ^ 64 = let most = fits.inputs in omega (arith, most) in
    let small_outputs : outputs < 2 ^ 64 = let most = fits.outputs in omega (arith, most) in
    let h1 : Heading = record no_heading { version = version } in
    let h2 : Heading = record h1 { form = form } in
    let h3 : Heading = record h2 { clock = cert.clock } in
    let h4 : Heading = record h3 { registers = registers } in
    let h5 : Heading = record h4 { inputs = inputs } in
    let h6 : Heading = record h5 { outputs = outputs } in
    let h7 : Heading = record h6 { kind = kind_of cert.verdict } in
    head_step Version no_heading h1 _ _ _ (ap (option_map (λ n. record no_heading { version = n })) (version_again version fits.some_version fits.version)) (clear_counted (codes "reset-certificate") version refl small_version)
    (head_step Form h1 h2 _ _ _ (ap (option_map (λ n. record h1 { form = n })) (number_again (codes "form") (2 ^ 32 - 1) form most_form small_form)) (clear_counted (codes "form") form refl small_form)
    (head_step Clock h2 h3 _ _ _ (ap (option_map (λ c. record h2 { clock = c })) (clock_again cert.clock fits.clock)) (clear_clock cert.clock fits.clock)
    (head_step Registers h3 h4 _ _ _ (ap (option_map (λ n. record h3 { registers = n })) (number_again (codes "registers") 512 registers fits.registers small_registers)) (clear_counted (codes "registers") registers refl small_registers)
    (head_step Inputs h4 h5 _ _ _ (ap (option_map (λ n. record h4 { inputs = n })) (number_again (codes "inputs") 256 inputs fits.inputs small_inputs)) (clear_counted (codes "inputs") inputs refl small_inputs)
    (head_step Outputs h5 h6 _ _ _ (ap (option_map (λ n. record h5 { outputs = n })) (number_again (codes "outputs") 256 outputs fits.outputs small_outputs)) (clear_counted (codes "outputs") outputs refl small_outputs)
    (head_step Kind h6 h7 (kind_line cert.verdict) [] _ (ap (option_map (λ k. record h6 { kind = k })) (kind_again cert.verdict)) (clear_kind cert.verdict)
    (goes_none (stands h7 nothing (Begin (first_section (kind_of cert.verdict)))))))))))
