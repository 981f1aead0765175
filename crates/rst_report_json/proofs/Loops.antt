-- One port more, as loops meet it.
use Rattle.std.proofs.Common.{◌≡◌, ℕ, suc, ◌+◌, ◌<◌, List, ◌∷◌, length, get_or, take, drop, sym, ap, ◌∙◌, add-one}
use Rattle.std.proofs.Math.Seq.{drop-cons}
use Rattle.serde_json.specs.Data.{Members, put}
use Rattle.rst_outside.specs.declared.names.PortBits.{PortBits}
use Rattle.rst_value.specs.declared.tern.Tern.{Tern}
use Rattle.rst_report_json.specs.JsonReports.{name_text, places_data, with_values}

next_of : {A : Type 0} (xs : List A) (i : ℕ) (x : A) → i < length xs → x ≡ get_or xs i x → drop i xs ≡ x ∷ drop (i + 1) xs
next_of xs i x h e = rw (add-one, drop-cons xs i x h) (ap (λ first. first ∷ drop (suc i) xs) (sym e))

-- the object with the member of one port more
pub values_more : (ports : List PortBits) (i : ℕ) (port : PortBits) (rest own behind : List Tern) (name : List ℕ) (old new total : Members) → i < length ports → port ≡ get_or ports i port
    → name ≡ port.name → own ≡ take port.width rest → behind ≡ drop port.width rest → new ≡ put (name_text name) (places_data own) old
    → with_values (drop i ports) rest old ≡ total → with_values (drop (i + 1) ports) behind new ≡ total
values_more ports i port rest own behind name old new total h e named owned left grown before =
    let same : put (name_text name) (places_data own) old ≡ put (name_text port.name) (places_data (take port.width rest)) old = cc in
    ap (λ they. with_values (drop (i + 1) ports) they new) left
    ∙ (ap (λ members. with_values (drop (i + 1) ports) (drop port.width rest) members) (grown ∙ same)
    ∙ (ap (λ them. with_values them rest old) (sym (next_of ports i port h e)) ∙ before))
