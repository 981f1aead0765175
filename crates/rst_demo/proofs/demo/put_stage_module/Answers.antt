use Rattle.std.proofs.Common.{codes}
use Rattle.rst_text.specs.Lines.{line}
use Rattle.rst_demo.proofs.Pieces.{three_more}
use Rattle.rst_demo.proofs.demo.put_stage_module.Goals as goal

pub returns : goal.returns
returns c =
    three_more c.args.text.now c.put_line.new.self c.put_line-2.new.self c.put_line-3.new.self
    (line (codes "module stage(input clk, input rst, input [7:0] d, output reg [7:0] q);"))
    (line (codes "always @(posedge clk) if (rst) q <= 8'd0; else q <= d + 8'd1;")) (line (codes "endmodule"))
    c.in_ok-put_line.ensures c.in_ok-put_line-2.ensures c.in_ok-put_line-3.ensures
