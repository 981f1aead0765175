-- Texts with modules, and texts with a netlist, come to these.
use Rattle.std.proofs.Common.{◌≡◌, ℕ, ◌+◌, List, [], ◌∷◌, Option, Ok, refl, ap}
use Rattle.rst_tree.specs.Trees.{Text}
use Rattle.rst_tree.specs.Modules.{PlainModule}
use Rattle.rst_flow.specs.declared.net.Net.{Net}
use Rattle.rst_reject.specs.Steps.{goes_on}
use Rattle.rst_design.specs.Texts.{Spells, TextsGive}
use Rattle.rst_design.specs.Netlists.{IsNetlistOf, plain_net}
use Rattle.rst_design.specs.Answers.{with_order, in_order, DesignGives}

pub spelled_gives : (file : ℕ) (texts : List Text) (all : List PlainModule) → Spells texts all → TextsGive file texts (Ok all)
spelled_gives file [] all is = ap Ok is
spelled_gives file (text ∷ texts) all (modules, others, s, rest, is) =
    goes_on modules (goes_on s.tokens s.lexed s.parsed) (goes_on others (spelled_gives (file + 1) texts others rest) (ap Ok is))

-- a netlist is that of a design with its order
pub netlist_gives : (texts : List Text) (top : Text) (clock : Option Text) (net : Net) (n : IsNetlistOf texts top clock net) → DesignGives texts top clock (Ok (with_order n.flat n.made.order))
netlist_gives texts top clock net n =
    goes_on n.design.modules (spelled_gives 0 texts n.design.modules n.design.spelled)
    (goes_on n.flat (n.design.none, n.design.is) (goes_on n.made.order n.made.passes refl))

pub netlist_parts : (texts : List Text) (top : Text) (clock : Option Text) (net : Net) (n : IsNetlistOf texts top clock net) → plain_net net ≡ in_order (with_order n.flat n.made.order)
netlist_parts texts top clock net n =
    let signals = n.made.signals in
    let units = n.made.units in
    let clocked = n.made.clocked in
    let outputs = n.made.outputs in
    cc
