-- A frame of named results, as the outputs and the state of one cycle.
use Rattle.std.proofs.Common.{◌≡◌, ◌∙◌, Bool, true, List, replicate, ap, sym, refl}
use Rattle.rst_value.specs.declared.tern.Tern.{Tern}
use Rattle.rst_value.specs.Domains.{Content}
use Rattle.rst_value.specs.Terns.{known}
use Rattle.rst_value.specs.TwoDomains.{bits}
use Rattle.rst_value.specs.TernDomains.{terns}
use Rattle.rst_gate.specs.Operations.{on_bits, on_terns}
use Rattle.rst_gate.specs.Circuits.{Circuit}
use Rattle.rst_gate.specs.NamedResults.{frame_gives}
use Rattle.rst_gate.specs.GateMachines.{machine_of, terns_of}
use Rattle.rst_gate.proofs.Pure.{pure_frame}
use Rattle.rst_gate.specs.ClosedSets.{on_support, next_support}
use Rattle.rst_sim.specs.Supports.{supports}

abbrev pub Given : Type 0 → Type 0
Given X = List X × List X × Content

pub two_cycle :
    (c : Circuit) (state input outs nexts : List Bool) (before behind : Content)
    → frame_gives bits c input state before ≡ (outs, nexts, behind)
    → (outs ≡ (machine_of c).out state input) × (nexts ≡ (machine_of c).step state input)
two_cycle c state input outs nexts before behind h =
    let e = sym h ∙ pure_frame (λ b. b) on_bits refl c input state before in
    (ap (λ (r : Given Bool). r.0) e, ap (λ (r : Given Bool). r.1) e)

pub tern_cycle :
    (c : Circuit) (state input outs nexts : List Tern) (before behind : Content)
    → frame_gives terns c input state before ≡ (outs, nexts, behind)
    → (outs ≡ (terns_of c).out state input) × (nexts ≡ (terns_of c).step state input)
tern_cycle c state input outs nexts before behind h =
    let e = sym h ∙ pure_frame known on_terns refl c input state before in
    (ap (λ (r : Given Tern). r.0) e, ap (λ (r : Given Tern). r.1) e)

pub support_cycle :
    (c : Circuit) (set inputs outs nexts : List Bool) (before behind : Content)
    → inputs ≡ replicate c.inputs true
    → frame_gives supports c inputs set before ≡ (outs, nexts, behind)
    → nexts ≡ next_support c set
support_cycle c set inputs outs nexts before behind is h =
    let e = sym h ∙ pure_frame (λ _. true) on_support refl c inputs set before in
    rw (← is) (ap (λ (r : Given Bool). r.1) e)
