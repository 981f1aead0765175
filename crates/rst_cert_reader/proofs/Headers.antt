-- The lines of a header, by what was read of them.
use Rattle.std.proofs.Common.{◌≡◌, ◌^◌, ◌-◌, ℕ, Bool, true, false, cond, bytes_eq, nat_le, Option, None, Some, List, [], ◌∷◌, ◌++◌, codes, refl, sym, ap, subst}
use Rattle.std.proofs.lemmas.Slice.Eq.{bytes_eq-Decides}
use Rattle.rst_lex.specs.Words.{is_name}
use Rattle.rst_certificate.specs.Words.{counted}
use Rattle.rst_certificate.specs.CertText.{clock_line}
use Rattle.rst_cert_lines.specs.Reading.{Read, after}
use Rattle.rst_cert_lines.proofs.WordLaws.{after_takes}
use Rattle.rst_cert_lines.proofs.Binds.{the_some, no_some, chosen}
use Rattle.rst_cert_reader.specs.declared.heading.HeadLine.{HeadLine}
use Rattle.rst_cert_reader.specs.declared.heading.HeadLine.TheVariants.{Version, Form, Clock, Registers, Inputs, Outputs, Kind}
use Rattle.rst_cert_reader.specs.declared.heading.CertKind.{CertKind}
use Rattle.rst_cert_reader.specs.declared.heading.CertKind.TheVariants.{Known, Relation, Refuted, Never, Alignable, Unknown}
use Rattle.rst_cert_reader.specs.declared.heading.Heading.{Heading}
use Rattle.rst_cert_reader.specs.Headings.{number_in, version_of, version_in, name_behind, clock_in, kind_in, with_line}
use Rattle.rst_cert_reader.proofs.Adding.{number_line, map_some}

abbrev pub kind_word : CertKind → List ℕ
kind_word Known = codes "known"
kind_word Relation = codes "relation"
kind_word Refuted = codes "refuted"
kind_word Never = codes "never"
kind_word Alignable = codes "alignable"
kind_word Unknown = codes "unknown"

-- the lines before one of the header
abbrev pub head_before : HeadLine → Heading → List (List ℕ)
head_before Version h = []
head_before Form h = counted (codes "reset-certificate") h.version ∷ []
head_before Clock h = counted (codes "reset-certificate") h.version ∷ counted (codes "form") h.form ∷ []
head_before Registers h = counted (codes "reset-certificate") h.version ∷ counted (codes "form") h.form ∷ clock_line h.clock ∷ []
head_before Inputs h = counted (codes "reset-certificate") h.version ∷ counted (codes "form") h.form ∷ clock_line h.clock ∷ counted (codes "registers") h.registers ∷ []
head_before Outputs h = counted (codes "reset-certificate") h.version ∷ counted (codes "form") h.form ∷ clock_line h.clock ∷ counted (codes "registers") h.registers ∷ counted (codes "inputs") h.inputs ∷ []
head_before Kind h = counted (codes "reset-certificate") h.version ∷ counted (codes "form") h.form ∷ clock_line h.clock ∷ counted (codes "registers") h.registers ∷ counted (codes "inputs") h.inputs ∷ counted (codes "outputs") h.outputs ∷ []

abbrev pub head_all : Heading → List (List ℕ)
head_all h = counted (codes "reset-certificate") h.version ∷ counted (codes "form") h.form ∷ clock_line h.clock ∷ counted (codes "registers") h.registers ∷ counted (codes "inputs") h.inputs ∷ counted (codes "outputs") h.outputs ∷ kind_word h.kind ∷ []

-- the lines behind one of the header
abbrev pub head_behind : HeadLine → Heading → List (List ℕ)
head_behind Version h = head_before Form h
head_behind Form h = head_before Clock h
head_behind Clock h = head_before Registers h
head_behind Registers h = head_before Inputs h
head_behind Inputs h = head_before Outputs h
head_behind Outputs h = head_before Kind h
head_behind Kind h = head_all h

version_some : (option : Option ℕ) (number : ℕ) → version_of option ≡ Some number → option ≡ Some number
version_some None number e = absurd (no_some number e)
version_some (Some n) number e = ap (λ (k : ℕ). Some k) (chosen (nat_le 1 n) n number e).1

pub version_line : (text : List ℕ) (number : ℕ) → version_in text ≡ Some number → text ≡ counted (codes "reset-certificate") number
unfolding version_in
version_line text number e =
    (number_line (codes "reset-certificate") 2 text number (version_some (number_in (codes "reset-certificate") 2 text) number e)).0

name_some : (read : Read (Unit {0})) (text : List ℕ) (clock : Option (List ℕ)) → ((found : Unit {0} × List ℕ) → read ≡ Some found → text ≡ codes "clock " ++ found.1)
    → name_behind read ≡ Some clock → text ≡ clock_line clock
name_some None text clock is e = absurd (no_some clock e)
name_some (Some found) text clock is e =
    subst (λ (c : Option (List ℕ)). text ≡ clock_line c) (chosen (is_name found.1) (Some found.1) clock e).1 (is found refl)

clock_by : (x : Bool) (text : List ℕ) (clock : Option (List ℕ)) → x ≡ bytes_eq text (codes "noclock") → cond x (Some None) (name_behind (after (codes "clock ") text)) ≡ Some clock → text ≡ clock_line clock
clock_by true text clock is e =
    subst (λ (c : Option (List ℕ)). text ≡ clock_line c) (the_some None clock e) ((bytes_eq-Decides text (codes "noclock")).0 (sym is))
clock_by false text clock is e = name_some (after (codes "clock ") text) text clock (λ found f. after_takes (codes "clock ") text found f) e

clock_is : (text : List ℕ) (clock : Option (List ℕ)) → clock_in text ≡ Some clock → text ≡ clock_line clock
unfolding clock_in
clock_is text clock e = clock_by (bytes_eq text (codes "noclock")) text clock refl e

kind_by : (a b c d e f : Bool) (text : List ℕ) (kind : CertKind) → a ≡ bytes_eq text (codes "known") → b ≡ bytes_eq text (codes "relation") → c ≡ bytes_eq text (codes "refuted")
    → d ≡ bytes_eq text (codes "never") → e ≡ bytes_eq text (codes "alignable") → f ≡ bytes_eq text (codes "unknown")
    → cond a (Some Known) (cond b (Some Relation) (cond c (Some Refuted) (cond d (Some Never) (cond e (Some Alignable) (cond f (Some Unknown) None))))) ≡ Some kind
    → text ≡ kind_word kind
kind_by true b c d e f text kind p q r s t u is = subst (λ (k : CertKind). text ≡ kind_word k) (the_some Known kind is) ((bytes_eq-Decides text (codes "known")).0 (sym p))
kind_by false true c d e f text kind p q r s t u is = subst (λ (k : CertKind). text ≡ kind_word k) (the_some Relation kind is) ((bytes_eq-Decides text (codes "relation")).0 (sym q))
kind_by false false true d e f text kind p q r s t u is = subst (λ (k : CertKind). text ≡ kind_word k) (the_some Refuted kind is) ((bytes_eq-Decides text (codes "refuted")).0 (sym r))
kind_by false false false true e f text kind p q r s t u is = subst (λ (k : CertKind). text ≡ kind_word k) (the_some Never kind is) ((bytes_eq-Decides text (codes "never")).0 (sym s))
kind_by false false false false true f text kind p q r s t u is = subst (λ (k : CertKind). text ≡ kind_word k) (the_some Alignable kind is) ((bytes_eq-Decides text (codes "alignable")).0 (sym t))
kind_by false false false false false true text kind p q r s t u is = subst (λ (k : CertKind). text ≡ kind_word k) (the_some Unknown kind is) ((bytes_eq-Decides text (codes "unknown")).0 (sym u))
kind_by false false false false false false text kind p q r s t u is = absurd (no_some kind is)

pub kind_is : (text : List ℕ) (kind : CertKind) → kind_in text ≡ Some kind → text ≡ kind_word kind
unfolding kind_in
kind_is text kind e = kind_by (bytes_eq text (codes "known")) (bytes_eq text (codes "relation")) (bytes_eq text (codes "refuted")) (bytes_eq text (codes "never"))
    (bytes_eq text (codes "alignable")) (bytes_eq text (codes "unknown")) text kind refl refl refl refl refl refl e

-- a line of the header stands behind those before it
pub heads_on : (due : HeadLine) (h new : Heading) (text : List ℕ) → with_line due h text ≡ Some new → head_behind due new ≡ head_before due h ++ text ∷ []
heads_on Version h new text e =
    let made : ℕ → Heading = λ n. record h { version = n } in
    let p = map_some made (version_in text) new e in
    subst (λ (it : Heading). head_behind Version it ≡ head_before Version h ++ text ∷ []) p.2 (ap (λ (t : List ℕ). t ∷ []) (sym (version_line text p.0 p.1)))
heads_on Form h new text e =
    let made : ℕ → Heading = λ n. record h { form = n } in
    let p = map_some made (number_in (codes "form") (2 ^ 32 - 1) text) new e in
    subst (λ (it : Heading). head_behind Form it ≡ head_before Form h ++ text ∷ []) p.2
    (ap (λ (t : List ℕ). head_before Form h ++ t ∷ []) (sym (number_line (codes "form") (2 ^ 32 - 1) text p.0 p.1).0))
heads_on Clock h new text e =
    let made : Option (List ℕ) → Heading = λ c. record h { clock = c } in
    let p = map_some made (clock_in text) new e in
    subst (λ (it : Heading). head_behind Clock it ≡ head_before Clock h ++ text ∷ []) p.2 (ap (λ (t : List ℕ). head_before Clock h ++ t ∷ []) (sym (clock_is text p.0 p.1)))
heads_on Registers h new text e =
    let made : ℕ → Heading = λ n. record h { registers = n } in
    let p = map_some made (number_in (codes "registers") 512 text) new e in
    subst (λ (it : Heading). head_behind Registers it ≡ head_before Registers h ++ text ∷ []) p.2
    (ap (λ (t : List ℕ). head_before Registers h ++ t ∷ []) (sym (number_line (codes "registers") 512 text p.0 p.1).0))
heads_on Inputs h new text e =
    let made : ℕ → Heading = λ n. record h { inputs = n } in
    let p = map_some made (number_in (codes "inputs") 256 text) new e in
    subst (λ (it : Heading). head_behind Inputs it ≡ head_before Inputs h ++ text ∷ []) p.2
    (ap (λ (t : List ℕ). head_before Inputs h ++ t ∷ []) (sym (number_line (codes "inputs") 256 text p.0 p.1).0))
heads_on Outputs h new text e =
    let made : ℕ → Heading = λ n. record h { outputs = n } in
    let p = map_some made (number_in (codes "outputs") 256 text) new e in
    subst (λ (it : Heading). head_behind Outputs it ≡ head_before Outputs h ++ text ∷ []) p.2
    (ap (λ (t : List ℕ). head_before Outputs h ++ t ∷ []) (sym (number_line (codes "outputs") 256 text p.0 p.1).0))
heads_on Kind h new text e =
    let made : CertKind → Heading = λ k. record h { kind = k } in
    let p = map_some made (kind_in text) new e in
    subst (λ (it : Heading). head_behind Kind it ≡ head_before Kind h ++ text ∷ []) p.2 (ap (λ (t : List ℕ). head_before Kind h ++ t ∷ []) (sym (kind_is text p.0 p.1)))
