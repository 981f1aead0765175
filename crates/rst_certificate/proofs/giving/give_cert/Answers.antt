use Rattle.std.proofs.Common.{◌≡◌, ℕ, ◌≤◌, ◌-◌, List, Some, refl, sym, ap, subst, ◌∙◌, length, false, true, arith}
use Rattle.rst_outside.specs.SureRoom.{SureRoom}
use Rattle.rst_certificate.specs.CertText.{cert_text}
use Rattle.rst_certificate.proofs.Writers.{given_of, given_behind, given_fits}
use Rattle.rst_certificate.proofs.Saves.{HasGiven, given_more, piece_taken, if_some, not_taken}
use Rattle.rst_certificate.proofs.WholeTexts.{whole_given}
use Rattle.rst_certificate.proofs.giving.give_cert.Goals as goal

pub returns-in_err-save_piece-clause-fits : goal.returns-in_err-save_piece-clause-fits
returns-in_err-save_piece-clause-fits g c =
    let has = c.loop-piece.invariant.given in
    let writer = c.loop-piece.writer in
    let fits = given_fits writer c.in-Some.piece.now c.in-Some.ensures.next in
    let same_text : length (cert_text writer.cert) ≡ length (cert_text c.args.writer.now.cert) = ap (λ cert. length (cert_text cert)) c.loop-piece.invariant.cert in
    if_some (g.K.Desk.sure_room c.args.desk.now) _ (λ r is same enough.
    let taken = piece_taken c.args.name.now (given_of writer) c.in-Some.piece.now c.loop-piece.first _ _ _ _ _ _ _ _ has c.in_err-save_piece.ensures.fits r is same (omega arith) in
    absurd (not_taken taken.0))

pub loop-piece-preserved : goal.loop-piece-preserved
loop-piece-preserved g c =
    let writer = c.loop-piece.writer in
    let piece = c.in-Some.piece.now in
    let after = rw c.in-Some.is at c.next.follows.holds-at-none in
    let kept = c.in_ok-save_piece.ensures in
    let more = given_more c.args.name.now (given_of writer) piece c.loop-piece.first _ _ _ _ _ _ _ _ _ _ _ c.loop-piece.invariant.given kept.saved kept.others kept.cause kept.fits in
    let G : List ℕ → Type 0 = λ given.
    HasGiven c.args.name.now given false (g.K.Desk.files c.args.desk.now) (g.K.Desk.files c.save_piece.new.self)
    (g.K.Desk.save_faults c.args.desk.now) (g.K.Desk.save_faults c.save_piece.new.self)
    (g.K.Desk.sure_room c.args.desk.now) (g.K.Desk.sure_room c.save_piece.new.self)
    in
    record {
      cert = ap (λ w. w.cert) after ∙ c.loop-piece.invariant.cert;
      given = subst G (sym (ap given_of after ∙ given_behind writer piece c.in-Some.ensures.next)) more;
      loads = kept.loads ∙ c.loop-piece.invariant.loads;
      as_sure = kept.as_sure ∙ c.loop-piece.invariant.as_sure;
    }

pub returns-clause-saved : goal.returns-clause-saved
returns-clause-saved g c =
    (whole_given _ _ _ _ _ _ _ _ _ _ c.loop-piece.invariant.cert c.in_default.ensures.next c.loop-piece.invariant.given).saved refl

pub returns-clause-cause : goal.returns-clause-cause
returns-clause-cause g c =
    let whole = whole_given _ _ _ _ _ _ _ _ _ _ c.loop-piece.invariant.cert c.in_default.ensures.next c.loop-piece.invariant.given in
    record { later = whole.later; at_most = whole.at_most refl; failed = λ fails. cc }

pub returns-clause-fits : goal.returns-clause-fits
returns-clause-fits g c =
    let whole = whole_given _ _ _ _ _ _ _ _ _ _ c.loop-piece.invariant.cert c.in_default.ensures.next c.loop-piece.invariant.given in
    let P : SureRoom → Type 0 = λ room. room.name ≡ c.args.name.now → length (cert_text c.args.writer.now.cert) ≤ room.left
    → (true ≡ true) × (g.K.Desk.sure_room c.loop-piece.desk ≡ Some (record room { left = room.left - length (cert_text c.args.writer.now.cert) }))
    in
    if_some _ P (λ r is same enough. (refl, whole.lowered r is same enough))
