use Rattle.std.proofs.Common.{◌≡◌, ◌∙◌, ap}
use Rattle.rst_outside.specs.Files.{bytes_under}
use Rattle.rst_outside.proofs.Lookups.{others-piece}
use Rattle.rst_outside.proofs.memory_desk.MemoryDeskDesk.save_piece.Goals as goal

pub returns-then-save_piece-clause-others : goal.returns-then-save_piece-clause-others
returns-then-save_piece-clause-others c =
    λ other differ.
    let before : c.self.inside.store.files ≡ c.args.self.now.files = ap (λ d. d.files) (c.self.view_is ∙ c.is_to_fail.ensures.count) in
    rw c.if-save_piece.ensures.saved
    (others-piece other c.args.name.now c.args.first c.args.bytes.now c.self.inside.store.files differ
    ∙ ap (bytes_under other) before)
