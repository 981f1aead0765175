use Rattle.rst_report_json.proofs.Shapes.{report_is}
use Rattle.rst_report_json.proofs.laws.reports_have_their_shape.Goals as goal

pub returns : goal.returns
returns c = report_is
