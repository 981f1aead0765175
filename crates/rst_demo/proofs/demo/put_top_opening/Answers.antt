use Rattle.std.proofs.Common.{codes}
use Rattle.rst_text.specs.Lines.{line}
use Rattle.rst_demo.proofs.Pieces.{three_more}
use Rattle.rst_demo.proofs.demo.put_top_opening.Goals as goal

pub returns : goal.returns
returns c =
    three_more c.args.text.now c.put_line.new.self c.put_line-2.new.self c.put_line-3.new.self
    (line (codes "module demo(input clk, input rst, input dv, input [7:0] d, output reg v, output [7:0] y);"))
    (line (codes "wire [7:0] w0;")) (line (codes "assign w0 = d;"))
    c.in_ok-put_line.ensures c.in_ok-put_line-2.ensures c.in_ok-put_line-3.ensures
