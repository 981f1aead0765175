use Rattle.std.proofs.Common.{◌≡◌, ◌≤◌, ℕ, List, Result, Ok, Err, Some, false, IfOk, ap, ◌∙◌, subst, arith}
use Rattle.serde_json.specs.Data.{Data, depth}
use Rattle.serde_json.specs.Read.{read}
use Rattle.serde_json.specs.View.{view}
use Rattle.serde_json.specs.Written.{has_float, compact_text}
use Rattle.rst_outside.specs.declared.names.NoMemory.{NoMemory}
use Rattle.rst_text.specs.Lines.{line}
use Rattle.rst_report_json.specs.JsonReports.{report_data, report_json}
use Rattle.rst_report_json.proofs.Shapes.{report_is}
use Rattle.rst_report_json.proofs.ShapeFacts.{no_floats, few_levels}
use Rattle.rst_report_json.proofs.report.report_json.Goals as goal

-- a line of this text is a line of it
with_text : (result : Result (List ℕ) NoMemory) (text : List ℕ) (found : Data) → read text ≡ Some found → IfOk result (λ bytes. bytes ≡ line text)
    → IfOk result (λ bytes. (text : List ℕ) × (bytes ≡ line text) × (read text ≡ Some found))
with_text (Ok bytes) text found reads is = (text, is, reads)
with_text (Err e) text found reads is = tt

pub returns : goal.returns
returns c =
    let same : view c.in_ok-value.value ≡ report_data c.args.head.now c.args.verdict.now = c.in_ok-value.ensures in
    let exact : has_float (view c.in_ok-value.value) ≡ false = ap has_float same ∙ no_floats (report_data c.args.head.now c.args.verdict.now) (report_is c.args.head.now c.args.verdict.now) in
    let shallow : depth (view c.in_ok-value.value) ≤ 3 = rw same (few_levels (report_data c.args.head.now c.args.verdict.now) (report_is c.args.head.now c.args.verdict.now)) in
    let whole : line c.as_bytes.result.now ≡ report_json c.args.head.now c.args.verdict.now =
    ap line (c.as_bytes.ensures.value ∙ (c.in_ok-written.ensures.text exact ∙ ap compact_text same)) in
    let reads : read c.as_bytes.result.now ≡ Some (report_data c.args.head.now c.args.verdict.now) =
    ap read c.as_bytes.ensures.value ∙ (c.in_ok-written.ensures.reads_back (omega (arith, shallow)) ∙ ap Some same) in
    record {
      exact = subst (λ (text : List ℕ). IfOk c.one_line.result (λ bytes. bytes ≡ text)) whole c.one_line.ensures;
      reads_back = with_text c.one_line.result c.as_bytes.result.now (report_data c.args.head.now c.args.verdict.now) reads c.one_line.ensures;
    }
