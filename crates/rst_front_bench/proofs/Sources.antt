-- Modules of one source more.
use Rattle.std.proofs.Common.{◌≡◌, List, [], ◌∷◌, ◌++◌, Result, Ok, Err, is_ok, if◌then◌else◌, sym, subst, append-nil}
use Rattle.std.proofs.lemmas.Grind.{flat_map-append}
use Rattle.std.proofs.lemmas.List.Elements.{All-append}
use Rattle.std.specs.List.{All}
use Rattle.rst_tree.specs.declared.module.Source.{Source}
use Rattle.rst_tree.specs.Modules.{plain_source}
use Rattle.rst_tree.specs.WellFormed.{WellFormed}
use Rattle.rst_hierarchy.specs.Tables.{modules_in}

one-more : (sources : List Source) (source : Source) → All WellFormed (modules_in sources) → All WellFormed (plain_source source) → All WellFormed (modules_in (sources ++ source ∷ []))
one-more sources source formed more =
    subst (All WellFormed) (sym (flat_map-append plain_source sources (source ∷ [])))
    (All-append WellFormed (modules_in sources) (plain_source source ++ []) formed (subst (All WellFormed) (sym (append-nil (plain_source source))) more))

pub pushed : {T E : Type 0} (result : Result T E) (sources longer : List Source) (source : Source)
    → longer ≡ (if is_ok result then sources ++ source ∷ [] else sources)
    → All WellFormed (modules_in sources) → All WellFormed (plain_source source) → All WellFormed (modules_in longer)
pushed (Ok x) sources longer source is formed more = subst (λ l. All WellFormed (modules_in l)) (sym is) (one-more sources source formed more)
pushed (Err x) sources longer source is formed more = subst (λ l. All WellFormed (modules_in l)) (sym is) formed
