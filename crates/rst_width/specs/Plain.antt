-- Sized expressions of the code in plain form.
use Rattle.std.specs.Prelude.{Option, Some, None, Result, Ok, Err}
use Rattle.std.specs.declared.vec.Vec.{Vec}
use Rattle.std.specs.declared.alloc.Global.{Global}
use Rattle.rst_word.specs.Plain.{plain_word}
use Rattle.rst_width.specs.declared.names.Meaning.{Meaning}
use Rattle.rst_width.specs.declared.names.Meaning.TheVariants as meaning
use Rattle.rst_width.specs.declared.parts.Parts.{Parts}
use Rattle.rst_width.specs.declared.sized.SizedExpr.{SizedExpr}
use Rattle.rst_width.specs.declared.sized.SizedExpr.TheVariants as code
use Rattle.rst_width.specs.declared.sized.Found.{Found}
use Rattle.rst_width.specs.declared.sized.Found.TheVariants as found
use Rattle.rst_width.specs.declared.typed_expr.TypedExpr.{TypedExpr}
use Rattle.rst_width.specs.declared.typed_expr.WidthFault.{WidthFault}
use Rattle.rst_width.specs.Typed.{TypedList, plain_typed, plain_node, plain_all}
use Rattle.rst_width.specs.Scopes.{extent_of}
use Rattle.rst_width.specs.Scopes as scopes
use Rattle.rst_width.specs.Sizing as sizing
use Rattle.rst_width.specs.Sized as sized
use Rattle.rst_width.specs.Sized.{Answer, Sized}

abbrev pub plain_meaning : Option Meaning → Option scopes.Meaning
plain_meaning None = None
plain_meaning (Some (meaning.Signal i shape)) = Some (scopes.Signal i (extent_of shape))
plain_meaning (Some (meaning.Param w)) = Some (scopes.Param (plain_word w))
plain_meaning (Some (meaning.Later u)) = Some (scopes.Later u.ranged)

abbrev pub plain_answer : Result TypedExpr WidthFault → Answer
plain_answer (Ok e) = Ok (plain_typed e)
plain_answer (Err fault) = Err fault

abbrev pub plain_found : Found → sized.Found
plain_found (found.Earlier fault) = sized.Earlier fault
plain_found (found.Own fault) = sized.Own fault
plain_found (found.Good node) = sized.Good (plain_node node)

abbrev pub plain_sized : SizedExpr → Sized
plain_sized (code.Leaf shape found) = sized.Leaf shape (plain_found found)
plain_sized (code.Unary' op p a) = sized.Unary op (plain_sized a)
plain_sized (code.Binary' op p a q b) = sized.Binary op (plain_sized a) (plain_sized b)
plain_sized (code.Shift' op p a amount) = sized.Shift op (plain_sized a) (plain_answer amount)
plain_sized (code.Choose' c p a q b) = sized.Choose (plain_answer c) (plain_sized a) (plain_sized b)

abbrev pub plain_list : Result (Vec TypedExpr Global) WidthFault → Result TypedList WidthFault
plain_list (Ok es) = Ok (plain_all es.items)
plain_list (Err fault) = Err fault

abbrev pub plain_parts : Parts → sizing.Parts
plain_parts parts = record { width = parts.width; list = plain_list parts.list }
