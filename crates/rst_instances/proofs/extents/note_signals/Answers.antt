use Rattle.std.proofs.Common.{◌≡◌, ℕ, ◌+◌, ◌≤◌, [], ◌∷◌, length, drop, map, nat_eq, refl, sym, ap, ◌∙◌, arith, drop_of_length-le}
use Rattle.std.proofs.lemmas.Option.{slice_get_read}
use Rattle.std.specs.Cmp.Lexicographic.{pointwise}
use Rattle.indexmap.specs.IndexMap.{get}
use Rattle.rst_width.specs.Scopes.{Signal, meaning_of, either_of, extent_of}
use Rattle.rst_names.specs.Tables.{plain_declared}
use Rattle.rst_names.proofs.Turns.{at, read}
use Rattle.rst_instances.specs.Parameters.{known, names_from}
use Rattle.rst_instances.specs.Locations.{shown_signals}
use Rattle.rst_instances.proofs.KnownLemmas.{names_step, either_of-none}
use Rattle.rst_instances.proofs.extents.note_signals.Goals as goal

pub loop-place-preserved : goal.loop-place-preserved
loop-place-preserved c = λ few same name.
    let ds = c.args.signals.now in
    let es = c.args.shapes.now in
    let base = c.args.base in
    let i = c.loop-place.place in
    let d = c.index-signals-place.result in
    let e = c.in-Some.shape.now in
    let is = read ds i d c.loop-place-test.true c.index-signals-place.is in
    let there = slice_get_read es (length es) i e refl c.in-Some.ensures.lookup.3.0 c.in-Some.ensures.lookup.1 in
    let one = known d.name.now (Signal (base + i) (extent_of e)) ∷ [] in
    let rest = shown_signals (base + (i + 1)) (map plain_declared (drop (i + 1) ds)) (map extent_of (drop (i + 1) es)) in
    let number : c.counted.result ≡ base + i = omega (arith, c.counted.ensures) in
    let next : base + i + 1 ≡ base + (i + 1) = omega arith in
    names_step (meaning_of (get (pointwise nat_eq) c.loop-place.entries name)) (meaning_of (get (pointwise nat_eq) c.note_signal.new.entries name))
    (either_of (meaning_of (get (pointwise nat_eq) c.args.entries.now name)) (names_from (shown_signals base (map plain_declared ds) (map extent_of es)) name))
    one rest (shown_signals (base + i) (map plain_declared (drop i ds)) (map extent_of (drop i es))) name
    (ap (λ l. shown_signals (base + i) (map plain_declared l) (map extent_of (drop i es))) (at ds i d is).back
    ∙ ap (λ l. shown_signals (base + i) (plain_declared d ∷ map plain_declared (drop (i + 1) ds)) (map extent_of l)) (at es i e there).back
    ∙ ap (λ (n : ℕ). known d.name.now (Signal (base + i) (extent_of e)) ∷ shown_signals n (map plain_declared (drop (i + 1) ds)) (map extent_of (drop (i + 1) es))) next)
    (c.in_ok-note_signal.ensures name ∙ ap (λ (n : ℕ). either_of (meaning_of (get (pointwise nat_eq) c.loop-place.entries name)) (names_from (known d.name.now (Signal n (extent_of e)) ∷ []) name)) number)
    (c.loop-place.invariant few same name)

pub returns : goal.returns
returns c = λ few same name.
    let ds = c.args.signals.now in
    let past : length ds ≤ c.loop-place.place = omega arith in
    let now = meaning_of (get (pointwise nat_eq) c.loop-place.entries name) in
    sym (either_of-none now)
    ∙ ap (λ l. either_of now (names_from (shown_signals (c.args.base + c.loop-place.place) (map plain_declared l) (map extent_of (drop c.loop-place.place c.args.shapes.now))) name)) (sym (drop_of_length-le ds past))
    ∙ c.loop-place.invariant few same name
