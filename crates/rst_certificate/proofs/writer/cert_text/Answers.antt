use Rattle.std.proofs.Common.{◌++◌, Some, sym, ap, ◌∙◌, append_assoc}
use Rattle.rst_certificate.specs.Writing.{left_of, behind}
use Rattle.rst_certificate.proofs.Writers.{left_behind}
use Rattle.rst_certificate.proofs.writer.cert_text.Goals as goal

pub loop-piece-preserved : goal.loop-piece-preserved
loop-piece-preserved c =
    let parts = left_behind c.loop-piece.writer c.in-Some.piece.now c.in-Some.ensures.next in
    let after = rw c.in-Some.is at c.next.follows.holds-at-none in
    rw (after, c.in_ok-extend_from_slice.ensures.items) (
      c.loop-piece.invariant.0,
      append_assoc c.loop-piece.text.items c.in-Some.piece.now (left_of (behind c.loop-piece.writer (Some c.in-Some.piece.now)))
          ∙ ap (λ rest. c.loop-piece.text.items ++ rest) (sym parts)
          ∙ c.loop-piece.invariant.1,
    )
