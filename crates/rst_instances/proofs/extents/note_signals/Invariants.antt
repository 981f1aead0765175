use Rattle.std.proofs.Common.{◌≡◌, ◌+◌, ◌<◌, ◌^◌, map, drop, length, nat_eq}
use Rattle.std.specs.Cmp.Lexicographic.{pointwise}
use Rattle.indexmap.specs.IndexMap.{get}
use Rattle.rst_tree.specs.Trees.{Text}
use Rattle.rst_width.specs.Scopes.{meaning_of, either_of, extent_of}
use Rattle.rst_names.specs.Tables.{plain_declared}
use Rattle.rst_instances.specs.Parameters.{names_from}
use Rattle.rst_instances.specs.Locations.{shown_signals}
use Rattle.rst_instances.proofs.extents.note_signals.Given as goal

abbrev pub invariant-loop-place : goal.invariant-loop-place
invariant-loop-place l = l.base + length l.signals < 2 ^ 32 → length l.shapes ≡ length l.signals → (name : Text)
    → either_of (meaning_of (get (pointwise nat_eq) l.entries name)) (names_from (shown_signals (l.base + l.place) (map plain_declared (drop l.place l.signals)) (map extent_of (drop l.place l.shapes))) name)
    ≡ either_of (meaning_of (get (pointwise nat_eq) l.fn.entries name)) (names_from (shown_signals l.base (map plain_declared l.signals) (map extent_of l.shapes)) name)
