use Rattle.std.proofs.Common.{◌≡◌, ◌∙◌, ◌∷◌, [], ◌++◌, suc, ℤ, length, ap, subst, sym, arith, rules}
use Rattle.rst_clause.specs.Extension.{literal_of}
use Rattle.rst_clause.specs.Trails.{Trail'}
use Rattle.rst_solve.specs.Choices.{AllKnownTo}
use Rattle.rst_solve.proofs.Descents.{decided_known}
use Rattle.rst_solve.proofs.Steps.{path_long, at_decided}
use Rattle.rst_solve.proofs.tree.decide.Goals as goal

pub index_mut-requires : goal.index_mut-requires
index_mut-requires c =
    let w : length c.args.t.now.path.items ≡ c.args.q.now.free = path_long _ _ _ c.args.t.now c.requires.at in
    omega arith

pub returns-clause-at : goal.returns-clause-at
returns-clause-at c =
    let lits : c.push-2.new.self.lits ≡ c.args.t.now.trail.lits ++ literal_of c.args.value c.args.bit ∷ [] =
    ap (λ (t : Trail'). t.lits) c.in_ok-push-2.ensures.ok ∙ ap (λ (k : ℤ). c.args.t.now.trail.lits ++ k ∷ []) c.literal.ensures in
    at_decided _ _ _ c.args.t.now _ (record { bit = c.args.bit; value = c.args.value; floor = c.len-floor.result }) c.len-floor.ensures.value c.requires.at c.requires.complete
    c.requires.bit c.requires.known c.requires.is_open (ap (λ (t : Trail'). t.vars) c.in_ok-push-2.ensures.ok) lits c.in_ok-push.ensures (search rules)

pub returns-clause-known : goal.returns-clause-known
returns-clause-known c =
    let lits : c.push-2.new.self.lits ≡ c.args.t.now.trail.lits ++ literal_of c.args.value c.args.bit ∷ [] =
    ap (λ (t : Trail'). t.lits) c.in_ok-push-2.ensures.ok ∙ ap (λ (k : ℤ). c.args.t.now.trail.lits ++ k ∷ []) c.literal.ensures in
    subst (λ z. AllKnownTo z (suc c.args.bit)) (sym lits) (decided_known c.args.t.now.trail.lits c.args.bit c.args.value c.requires.known)
