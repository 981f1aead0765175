use Rattle.std.proofs.Common.{◌∙◌, sym}
use Rattle.std.proofs.lemmas.Bool.{OnTrue_at, OnTrue_from}
use Rattle.rst_outside.proofs.Lookups.{piece-in-first}
use Rattle.rst_outside.proofs.store.Store.save_piece.Goals as goal

pub returns-clause-saved : goal.returns-clause-saved
returns-clause-saved c =
    OnTrue_from c.save_in.result _
    (λ is.
    let saved = OnTrue_at is c.save_in.ensures.saved in
    rw (saved, ← c.self.view_is)
    (piece-in-first c.args.name.now c.args.first c.args.piece.now c.self.inside.rooms.items c.self.inside.files.items (sym c.save_in.ensures.fits ∙ is) c.self.invariant))
