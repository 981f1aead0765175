-- Netlists of accepted designs have gates.
use Rattle.std.proofs.Common.{◌≡◌, ℕ, ◌≤◌, List, Option, Result, Ok, Err, IfOk}
use Rattle.rst_tree.specs.Trees.{Text}
use Rattle.rst_net.specs.Units.{PlainFlat}
use Rattle.rst_cycle.specs.Signals.{width_of}
use Rattle.rst_flow.specs.declared.net.Net.{Net}
use Rattle.rst_flow.specs.Results.{IsNet}
use Rattle.rst_accepted.specs.Elaborated.{IsElaborated}
use Rattle.rst_agreement.specs.Fits.{DesignFits}
use Rattle.rst_design.specs.Netlists.{IsNetlistOf, elaborated}
use Rattle.rst_net_gates.specs.Netlists.{plain_net, IsLowerable}

pub lowerable : {E : Type 0} (texts : List Text) (top : Text) (clock : Option Text) (result : Result Net E)
    → ((flat : PlainFlat) (net : Net) → IsElaborated flat → IsNet flat net → DesignFits (plain_net net))
    → ((flat : PlainFlat) (net : Net) → IsElaborated flat → IsNet flat net → (i : ℕ) → width_of (plain_net net).signals i ≤ 64)
    → IfOk result (IsNetlistOf texts top clock) → IfOk result (λ net. IsLowerable (plain_net net))
lowerable texts top clock (Ok net) fits widths is = record { fits = fits is.flat net (elaborated is.design) is.made; widths = widths is.flat net (elaborated is.design) is.made }
lowerable texts top clock (Err e) fits widths is = tt
