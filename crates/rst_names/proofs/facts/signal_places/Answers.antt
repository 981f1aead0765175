use Rattle.std.proofs.Common.{◌≡◌, List, map, position, nat_eq, Some, slice_get, ap, ◌∙◌, arith}
use Rattle.std.specs.Option.{option_map}
use Rattle.std.specs.Cmp.Lexicographic.{pointwise}
use Rattle.std.proofs.lemmas.List.{take_all, length-map}
use Rattle.std.proofs.lemmas.Option.{slice_get-map}
use Rattle.indexmap.specs.IndexMap.{get}
use Rattle.rst_names.specs.Names.{same_text}
use Rattle.rst_names.specs.Declarations.{Declared}
use Rattle.rst_names.specs.Tables.{plain_declared}
use Rattle.rst_names.proofs.Turns.{read}
use Rattle.rst_names.proofs.TableLemmas.{goes_on}
use Rattle.rst_names.proofs.facts.signal_places.Goals as goal

pub loop-at-preserved : goal.loop-at-preserved
loop-at-preserved c =
    let signals = c.args.signals.now in
    let d = c.index-signals-at.result in
    let is : slice_get (map plain_declared signals) c.loop-at.at ≡ Some (plain_declared d) =
    slice_get-map plain_declared signals c.loop-at.at ∙ ap (option_map plain_declared) (read signals c.loop-at.at d (omega arith) c.index-signals-at.is) in
    goes_on (λ (s : Declared). s.name) (map plain_declared signals) c.loop-at.at (plain_declared d) is
    (get (pointwise nat_eq) c.loop-at.made) (get (pointwise nat_eq) c.place.new.made) c.loop-at.invariant c.in_ok-place.ensures

pub returns : goal.returns
returns c =
    let signals = map plain_declared c.args.signals.now in
    λ name. c.loop-at.invariant name ∙ ap (λ (ds : List Declared). position (λ d. same_text d.name name) ds) (take_all c.loop-at.at signals (simp length-map (omega arith)))
