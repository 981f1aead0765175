use Rattle.std.proofs.Common.{subst}
use Rattle.std.specs.Option.{option_copied}
use Rattle.rst_names.specs.declared.faults.ElabError.TheVariants as error
use Rattle.rst_names.specs.Faults.{Refuses}
use Rattle.rst_hierarchy.specs.Tables.{modules_in}
use Rattle.rst_elab.specs.Elaborated.{faults}
use Rattle.rst_design.proofs.Wholes.{fault_told}
use Rattle.rst_design.proofs.design.flat_of.Goals as goal

pub returns-in-Err-Fault-clause-refused : goal.returns-in-Err-Fault-clause-refused
returns-in-Err-Fault-clause-refused c =
    let top = c.args.top.now in
    let clock = option_copied c.args.clock in
    let fault = c.in-Err-Fault.fault in
    let told = subst (λ e. Refuses e (faults (modules_in c.deref.result.now) top clock)) c.in-Err-Fault.field-0-is c.in-Err-Fault.ensures.refused in
    let refused = subst (λ sources. Refuses (error.Fault fault) (faults (modules_in sources) top clock)) c.deref.ensures.value told in
    rw c.elaboration_stop.ensures (fault_told (modules_in c.args.sources.items) top clock fault refused)
