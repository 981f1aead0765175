-- One port or one cycle more, as loops meet them.
use Rattle.std.proofs.Common.{◌≡◌, ℕ, suc, ◌+◌, ◌<◌, List, ◌∷◌, ◌++◌, length, get_or, take, drop, sym, ap, ◌∙◌, append_assoc, add-one}
use Rattle.std.proofs.Math.Seq.{drop-cons}
use Rattle.rst_outside.specs.declared.names.PortBits.{PortBits}
use Rattle.rst_value.specs.declared.tern.Tern.{Tern}
use Rattle.rst_report.specs.Heads.{width_sum}
use Rattle.rst_report.specs.Rows.{value_text, values_text, cycle_row, cycle_rows}

next_of : {A : Type 0} (xs : List A) (i : ℕ) (x : A) → i < length xs → x ≡ get_or xs i x → drop i xs ≡ x ∷ drop (i + 1) xs
next_of xs i x h e = rw (add-one, drop-cons xs i x h) (ap (λ first. first ∷ drop (suc i) xs) (sym e))

-- the widths of the ports that are left
pub width_sum-drop : (ports : List PortBits) (i : ℕ) (port : PortBits) → i < length ports → port ≡ get_or ports i port
    → width_sum (drop i ports) ≡ port.width + width_sum (drop (i + 1) ports)
width_sum-drop ports i port h e = ap width_sum (next_of ports i port h e)

-- the text with the value of one port more
pub values_more : (mark : ℕ) (ports : List PortBits) (i : ℕ) (port : PortBits) (rest own behind : List Tern) (name text new total : List ℕ) → i < length ports → port ≡ get_or ports i port
    → name ≡ port.name → own ≡ take port.width rest → behind ≡ drop port.width rest → new ≡ text ++ value_text mark name own
    → text ++ values_text mark (drop i ports) rest ≡ total → new ++ values_text mark (drop (i + 1) ports) behind ≡ total
values_more mark ports i port rest own behind name text new total h e named owned left grown before =
    let own_text : value_text mark name own ≡ value_text mark port.name (take port.width rest) = cc in
    let others : values_text mark (drop (i + 1) ports) behind ≡ values_text mark (drop (i + 1) ports) (drop port.width rest) = ap (values_text mark (drop (i + 1) ports)) left in
    ap (λ front. front ++ values_text mark (drop (i + 1) ports) behind) (grown ∙ ap (λ value. text ++ value) own_text)
    ∙ (ap (λ values. (text ++ value_text mark port.name (take port.width rest)) ++ values) others
    ∙ (append_assoc text (value_text mark port.name (take port.width rest)) (values_text mark (drop (i + 1) ports) (drop port.width rest))
    ∙ (ap (λ left_ports. text ++ values_text mark left_ports rest) (sym (next_of ports i port h e)) ∙ before)))

-- the text with the row of one cycle more
pub cycles_more : (mark : ℕ) (ports : List PortBits) (cycles : List (List Tern)) (i : ℕ) (cycle places : List Tern) (text new total : List ℕ) → i < length cycles
    → cycle ≡ get_or cycles i cycle → places ≡ cycle → new ≡ text ++ cycle_row mark ports i places → text ++ cycle_rows mark ports i (drop i cycles) ≡ total
    → new ++ cycle_rows mark ports (i + 1) (drop (i + 1) cycles) ≡ total
cycles_more mark ports cycles i cycle places text new total h e same grown before =
    ap (λ front. front ++ cycle_rows mark ports (i + 1) (drop (i + 1) cycles)) (grown ∙ ap (λ these. text ++ cycle_row mark ports i these) same)
    ∙ (append_assoc text (cycle_row mark ports i cycle) (cycle_rows mark ports (i + 1) (drop (i + 1) cycles))
    ∙ (ap (λ (left : List (List Tern)). text ++ cycle_rows mark ports i left) (sym (next_of cycles i cycle h e)) ∙ before))
