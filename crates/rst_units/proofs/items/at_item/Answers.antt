use Rattle.std.proofs.Common.{◌≡◌, subst}
use Rattle.rst_width.specs.declared.typed_expr.WidthFault.{WidthFault}
use Rattle.rst_width.specs.declared.typed_expr.WidthFault.TheVariants.{NoMemory}
use Rattle.rst_tree.specs.Trees.{Text}
use Rattle.rst_names.specs.declared.faults.ElabCode.{ElabCode}
use Rattle.rst_names.specs.Faults.{fault_at, Tells}
use Rattle.rst_instances.specs.Parameters.{code_of}
use Rattle.rst_items.proofs.Rounds.{refuses_made}
use Rattle.rst_units.proofs.items.at_item.Goals as goal
use Rattle.rst_units.proofs.items.at_item.Goals.{in-NoMemory, in_default}

pub returns-in-Ok : goal.returns-in-Ok
returns-in-Ok c = λ faults h.
    let path = c.args.located.now.place.path in
    let other : c.args.fault ≡ NoMemory → ⊥ = elim c.match-matches.branch [ in-NoMemory w ↦ (λ same. cc (w.matches-is, c.if-matches.false)) | in_default w ↦ w.in_default.not-NoMemory ] in
    refuses_made c.refusal.result (λ (f : WidthFault). fault_at (code_of f) path c.args.item) faults c.args.fault (h.is_first other)
    (subst (λ (k : ElabCode). Tells c.refusal.result (fault_at k path c.args.item)) c.in-Ok.ensures
    (subst (λ (p : Text). Tells c.refusal.result (fault_at c.in-Ok.code p c.args.item)) c.as_slice.ensures c.refusal.ensures))
