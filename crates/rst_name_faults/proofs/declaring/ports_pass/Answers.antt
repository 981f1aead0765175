use Rattle.std.proofs.Common.{◌≡◌, not, map, filter, None}
use Rattle.std.specs.List.{flat_map}
use Rattle.rst_tree.specs.Modules.{plain_port_decl}
use Rattle.rst_names.specs.Faults.{first}
use Rattle.rst_names.specs.Declarations.{declarations, declares, is_directed}
use Rattle.rst_name_faults.specs.NameRows.{bad_port, input_regs, bad_item}
use Rattle.rst_name_faults.specs.Tables.{module_of}
use Rattle.rst_name_faults.proofs.declaring.ports_pass.Goals as goal
use Rattle.std.proofs.Common.{sym, ap, subst, ◌∙◌}
use Rattle.rst_tree.specs.Modules.{plain_header}
use Rattle.rst_names.proofs.RowLemmas.{first-none_append}
use Rattle.rst_name_faults.specs.NameRows.{bad_header}
use Rattle.rst_name_faults.proofs.declaring.ports_pass.Goals.{in-Plain+in_ok-listed_pass-in-Plain, in-Full+in_ok-full_passes-in-Full}

pub loop-item-init : goal.loop-item-init
loop-item-init c =
    let m = module_of c.args.facts.now in
    let none : first (bad_header m m.header) ≡ None = elim c.match-facts.branch [
      | in-Plain+in_ok-listed_pass-in-Plain w ↦
          ap (λ h. first (bad_header m (plain_header h))) w.in-Plain.is
          ∙ subst (λ l. first (map bad_port (filter (λ n. not (declares is_directed (declarations m) n)) l)) ≡ None) w.deref.ensures.value w.in_ok-listed_pass-in-Plain.ensures.passes
      | in-Full+in_ok-full_passes-in-Full w ↦
          ap (λ h. first (bad_header m (plain_header h))) w.in-Full.is
          ∙ subst (λ l. first (flat_map input_regs (map plain_port_decl l)) ≡ None) w.deref-in-Full.ensures.value w.in_ok-full_passes-in-Full.ensures.passes
    ] in
    sym (first-none_append (bad_header m m.header) (flat_map (bad_item m) m.items) none)
