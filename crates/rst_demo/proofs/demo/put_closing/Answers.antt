use Rattle.std.proofs.Common.{codes}
use Rattle.rst_text.specs.Lines.{line}
use Rattle.rst_demo.specs.Demo.{output_line}
use Rattle.rst_demo.proofs.Pieces.{three_more}
use Rattle.rst_demo.proofs.demo.put_closing.Goals as goal

pub returns : goal.returns
returns c =
    three_more c.args.text.now c.put_line.new.self c.put_output.new.text c.put_line-2.new.self
    (line (codes "always @(posedge clk) if (rst) v <= 1'b0; else v <= dv;")) (output_line c.args.stages) (line (codes "endmodule"))
    c.in_ok-put_line.ensures c.in_ok-put_output.ensures c.in_ok-put_line-2.ensures
