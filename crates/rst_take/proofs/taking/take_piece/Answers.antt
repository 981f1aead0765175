use Rattle.std.proofs.Common.{◌≡◌, ◌≤◌, ◌+◌, length, ℕ, subst, arith}
use Rattle.rst_take.specs.Fronts.{HasRead}
use Rattle.rst_take.proofs.Pieces.{reads_on, reads_all, same_ok}
use Rattle.rst_take.proofs.taking.take_piece.Goals.{then-left, else-left}
use Rattle.rst_take.proofs.taking.take_piece.Goals as goal

pub returns-in-Ok-feed_front-clause-fed : goal.returns-in-Ok-feed_front-clause-fed
returns-in-Ok-feed_front-clause-fed g c = λ read.
    let long : length c.load_front.new.room ≡ 65536 = c.in-Ok.ensures.room in
    let within : c.in-Ok.count ≤ c.if-left.most = c.in-Ok.ensures.within in
    let most : c.if-left.most ≤ 65536 = elim c.if-left.branch [ then-left w ↦ omega (arith, w.if-left, w.most-is) | else-left w ↦ omega (arith, w.most-is) ] in
    let fits : c.in-Ok.count ≤ length c.load_front.new.room = omega (arith, long, within, most) in
    reads_on c.args.name.now (g.K.Desk.files c.args.desk.now) c.args.from c.in-Ok.count c.load_front.new.room c.args.reader.now c.feed_front.new.reader fits c.in-Ok.ensures.piece
    c.in-Ok-feed_front.ensures read

pub returns-in-Ok-feed_front-clause-end : goal.returns-in-Ok-feed_front-clause-end
returns-in-Ok-feed_front-clause-end g c = λ is read.
    let none : c.in-Ok.count ≡ 0 = same_ok c.in-Ok.count 0 is in
    let same : c.args.from + c.in-Ok.count ≡ c.args.from = omega (arith, none) in
    let more = returns-in-Ok-feed_front-clause-fed g c read in
    let here = subst (λ (n : ℕ). HasRead c.args.name.now (g.K.Desk.files c.args.desk.now) n c.feed_front.new.reader) same more in
    reads_all c.args.name.now (g.K.Desk.files c.args.desk.now) c.args.from c.args.limit c.in-Ok.count c.load_front.new.room c.feed_front.new.reader c.requires.from none c.in-Ok.ensures.piece here
