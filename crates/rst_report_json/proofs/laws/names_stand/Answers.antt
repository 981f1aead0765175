use Rattle.std.proofs.Common.{List, ℕ}
use Rattle.std.specs.Str.{IsAscii}
use Rattle.std.proofs.lemmas.Str.{utf8_lossy-IsUtf8, IsUtf8-from_ascii}
use Rattle.rst_report_json.proofs.laws.names_stand.Goals as goal

pub returns : goal.returns
returns c = λ (name : List ℕ) (ascii : IsAscii name). utf8_lossy-IsUtf8 name (IsUtf8-from_ascii name ascii)
