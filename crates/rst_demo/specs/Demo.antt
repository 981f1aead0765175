-- The design and the script of a demonstration: a chain of stages that each add 1 to eight bits of data, and a valid flag.
use Rattle.std.specs.Prelude.{ℕ, zero, suc, ◌+◌, List, [], ◌++◌, codes, decimal}
use Rattle.rst_text.specs.Lines.{line}

-- the module of one stage
abbrev pub stage_module : List ℕ
stage_module =
    line (codes "module stage(input clk, input rst, input [7:0] d, output reg [7:0] q);")
    ++ (line (codes "always @(posedge clk) if (rst) q <= 8'd0; else q <= d + 8'd1;")
    ++ line (codes "endmodule"))

-- the top's ports, and the wire of its data input
abbrev pub top_opening : List ℕ
top_opening =
    line (codes "module demo(input clk, input rst, input dv, input [7:0] d, output reg v, output [7:0] y);")
    ++ (line (codes "wire [7:0] w0;")
    ++ line (codes "assign w0 = d;"))

abbrev pub opening_lines : List ℕ
opening_lines = stage_module ++ top_opening

-- the wire that stage k drives
abbrev pub wire_line : ℕ → List ℕ
wire_line k = codes "wire [7:0] w" ++ (decimal k ++ line (codes ";"))

-- stage k, which reads the wire before it
abbrev pub instance_line : ℕ → ℕ → List ℕ
instance_line before k = codes "stage u" ++ (decimal k ++ (codes " (clk, rst, w" ++ (decimal before ++ (codes ", w" ++ (decimal k ++ line (codes ");"))))))

abbrev pub stage_lines : ℕ → ℕ → List ℕ
stage_lines before k = wire_line k ++ instance_line before k

-- the stages from 1 on, as many as there are
abbrev pub chain_lines : ℕ → List ℕ
chain_lines zero = []
chain_lines (suc n) = chain_lines n ++ stage_lines n (n + 1)

-- the data output behind the last stage
abbrev pub output_line : ℕ → List ℕ
output_line n = codes "assign y = w" ++ (decimal n ++ line (codes ";"))

-- the valid flag, the data output, and the end of the top
abbrev pub closing_lines : ℕ → List ℕ
closing_lines n = line (codes "always @(posedge clk) if (rst) v <= 1'b0; else v <= dv;") ++ (output_line n ++ line (codes "endmodule"))

-- the design with n stages
abbrev pub demo_source : ℕ → List ℕ
demo_source n = opening_lines ++ (chain_lines n ++ closing_lines n)

-- one cycle of reset
abbrev pub demo_script : List ℕ
demo_script = line (codes "reset-script 1") ++ (line (codes "clock clk") ++ line (codes "step rst=1"))
