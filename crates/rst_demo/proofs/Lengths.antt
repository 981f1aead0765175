-- How long the design's text is.
use Rattle.std.proofs.Common.{◌≡◌, ℕ, zero, suc, ◌+◌, ◌*◌, ◌^◌, ◌≤◌, List, ◌++◌, length, length-append, Result, Ok, Err, IfOk, codes, decimal, arith}
use Rattle.rst_outside.specs.declared.names.NoMemory.{NoMemory}
use Rattle.std.proofs.lemmas.Fmt.{length-decimal-le}
use Rattle.rst_text.specs.Lines.{line}
use Rattle.rst_demo.specs.Demo.{stage_module, top_opening, wire_line, instance_line, stage_lines, chain_lines, output_line, closing_lines, demo_source}

digits : (k : ℕ) → k ≤ 60 → length (decimal k) ≤ 2
digits k h = length-decimal-le 2 k (omega arith) (omega arith) (omega arith)

wire_length : (d : List ℕ) → length (codes "wire [7:0] w" ++ (d ++ line (codes ";"))) ≡ 14 + length d
wire_length d = simp length-append (omega arith)

instance_length : (d e : List ℕ) → length (codes "stage u" ++ (d ++ (codes " (clk, rst, w" ++ (e ++ (codes ", w" ++ (d ++ line (codes ");"))))))) ≡ 26 + (length d + length e + length d)
instance_length d e = simp length-append (omega arith)

stage_length : (before k : ℕ) → before ≤ 60 → k ≤ 60 → length (stage_lines before k) ≤ 50
stage_length before k hb hk = rw (length-append (wire_line k) (instance_line before k), wire_length (decimal k), instance_length (decimal k) (decimal before)) (omega (arith, digits before hb, digits k hk))

chain_length : (n : ℕ) → n ≤ 60 → length (chain_lines n) ≤ 50 * n
chain_length zero h = omega arith
chain_length (suc n) h = rw (length-append (chain_lines n) (stage_lines n (n + 1))) (omega (arith, chain_length n (omega arith), stage_length n (n + 1) (omega arith) (omega arith)))

output_length : (d : List ℕ) → length (codes "assign y = w" ++ (d ++ line (codes ";"))) ≡ 14 + length d
output_length d = simp length-append (omega arith)

closing_length : (n : ℕ) → n ≤ 60 → length (closing_lines n) ≤ 100
closing_length n h =
    rw (length-append (line (codes "always @(posedge clk) if (rst) v <= 1'b0; else v <= dv;")) (output_line n ++ line (codes "endmodule")), length-append (output_line n) (line (codes "endmodule")), output_length (decimal n))
    (omega (arith, digits n h))

-- a source may have 2 ^ 20 bytes
pub source_length : (n : ℕ) → n ≤ 60 → length (demo_source n) ≤ 2 ^ 20
source_length n h =
    rw (length-append (stage_module ++ top_opening) (chain_lines n ++ closing_lines n), length-append (chain_lines n) (closing_lines n), length-append stage_module top_opening)
    (omega (arith, chain_length n h, closing_length n h))

pub source_is_short : (n : ℕ) (result : Result (List ℕ) NoMemory) → n ≤ 60 → IfOk result (λ bytes. bytes ≡ demo_source n) → IfOk result (λ bytes. length bytes ≤ 2 ^ 20)
source_is_short n (Ok bytes) h exact = rw exact (source_length n h)
source_is_short n (Err e) h exact = tt
