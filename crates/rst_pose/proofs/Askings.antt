-- What is asked of pairs, from its parts.
use Rattle.std.proofs.Common.{◌≡◌, ◌∙◌, ℕ, zero, suc, ◌+◌, ◌<◌, ℤ, List, [], ◌∷◌, ◌++◌, length, refl, sym, ap, subst, arith, append_assoc}
use Rattle.std.specs.List.{All}
use Rattle.std.specs.Prelude.{slice_index_or}
use Rattle.rst_value.specs.declared.tern.Tern.{Tern}
use Rattle.rst_value.specs.Domains.{Content}
use Rattle.rst_pair.specs.declared.hop.Hop.{Hop}
use Rattle.rst_pair.specs.Sides.{Sides}
use Rattle.rst_pair.specs.Hops.{cubes_of, AreHops}
use Rattle.rst_pair.specs.Fronts.{Front'}
use Rattle.rst_pose.specs.declared.gate.Cycle.{Cycle}
use Rattle.rst_pose.specs.Posed.{Framed, true_literal, framed, in_cubes, in_none, outs_differ, each_false, Asked, asked_split, asked_blocked, asked_stuck, asked_leaving, asked_escape}
use Rattle.rst_clause.specs.declared.clause_domain.ClauseDomain.{ClauseDomain}
use Rattle.rst_pose.specs.Posing.{framed_by, Grows, Asks}

length_cubes : (hops : List Hop) → length (cubes_of hops) ≡ length hops
length_cubes [] = refl
length_cubes (hop ∷ hops) = omega (arith, length_cubes hops)

-- each cube of the hops has a place for each register of both sides
pub cubes_wide :
    (p : Sides) (hops : List Hop) (n : ℕ) → AreHops p hops → n ≡ p.left.states + p.right.states → All (λ cube. length cube ≡ n) (cubes_of hops)
cubes_wide p hops n are same i d below = each (p.left.states + p.right.states) hops (λ k h lt. (are k h lt).cube) i d (omega (arith, below, length_cubes hops)) ∙ sym same
  where
    each : (m : ℕ) (hops : List Hop) → ((k : ℕ) (h : Hop) → k < length hops → length (slice_index_or hops k h).cube ≡ m)
        → (i : ℕ) (d : List Tern) → i < length hops → length (slice_index_or (cubes_of hops) i d) ≡ m
    each m [] h i d below = absurd (omega arith)
    each m (hop ∷ hops) h zero d below = h 0 hop (omega arith)
    each m (hop ∷ hops) h (suc i) d below = each m hops (λ k g lt. h (suc k) g (omega arith)) i d (omega arith)

abbrev asked_by : Content → List (List ℤ) → Asked
asked_by fixed required = record { fixed = fixed; required = required }

pub split_asked :
    (p : Sides) (f : Front') (high : ℤ) (inputs left right : List ℤ) (c0 c1 c2 c3 c4 : Content) (cycle : Cycle) (held differ reached : List ℤ)
    → framed p inputs left right c0 ≡ framed_by cycle c1 → in_cubes high (cubes_of f.blocked) (left ++ right) c1 ≡ (held, c2)
    → outs_differ cycle.left.outs cycle.right.outs c2 ≡ (differ, c3)
    → in_cubes high (cubes_of f.blocked) (cycle.left.nexts ++ cycle.right.nexts) c3 ≡ (reached, c4)
    → asked_split p f high inputs left right c0 ≡ record { fixed = c4; required = each_false held ++ (differ ++ reached) ∷ [] }
split_asked p f high inputs left right c0 c1 c2 c3 c4 cycle held differ reached e1 e2 e3 e4 =
    ap (λ (frame : Framed).
    let pair = in_cubes high (cubes_of f.blocked) (left ++ right) frame.behind in
    let differ = outs_differ frame.left_outs frame.right_outs pair.1 in
    let next = in_cubes high (cubes_of f.blocked) (frame.left_nexts ++ frame.right_nexts) differ.1 in
    asked_by next.1 (each_false pair.0 ++ (differ.0 ++ next.0) ∷ []))
    e1 ∙ rw (e2, e3, e4) refl

pub blocked_asked :
    (f : Front') (high : ℤ) (pair : List ℤ) (c0 c1 : Content) (found : List ℤ) → in_cubes high (cubes_of f.blocked) pair c0 ≡ (found, c1)
    → asked_blocked f high pair c0 ≡ record { fixed = c1; required = found ∷ [] }
blocked_asked f high pair c0 c1 found e = rw e refl

pub stuck_asked :
    (f : Front') (high : ℤ) (pair : List ℤ) (c0 c1 c2 : Content) (blocked freed : List ℤ)
    → in_cubes high (cubes_of f.blocked) pair c0 ≡ (blocked, c1) → in_cubes high (cubes_of f.freed) pair c1 ≡ (freed, c2)
    → asked_stuck f high pair c0 ≡ record { fixed = c2; required = blocked ∷ each_false freed }
stuck_asked f high pair c0 c1 c2 blocked freed e1 e2 = rw (e1, e2) refl

pub leaving_asked :
    (f : Front') (high : ℤ) (pair : List ℤ) (c0 c1 c2 : Content) (none : ℤ) (freed : List ℤ)
    → in_none high high (cubes_of f.blocked) pair c0 ≡ (none, c1) → in_cubes high (cubes_of f.freed) pair c1 ≡ (freed, c2)
    → asked_leaving f high pair c0 ≡ record { fixed = c2; required = (none ∷ freed) ∷ [] }
leaving_asked f high pair c0 c1 c2 none freed e1 e2 = rw (e1, e2) refl

pub escape_asked :
    (p : Sides) (f : Front') (high : ℤ) (inputs left right : List ℤ) (c0 c1 : Content) (cycle : Cycle) (stuck leaving : Asked)
    → framed p inputs left right c0 ≡ framed_by cycle c1 → asked_stuck f high (left ++ right) c1 ≡ stuck
    → asked_leaving f high (cycle.left.nexts ++ cycle.right.nexts) stuck.fixed ≡ leaving
    → asked_escape p f high inputs left right c0 ≡ record { fixed = leaving.fixed; required = stuck.required ++ leaving.required }
escape_asked p f high inputs left right c0 c1 cycle stuck leaving e1 e2 e3 =
    ap (λ (frame : Framed).
    let stuck = asked_stuck f high (left ++ right) frame.behind in
    let leaving = asked_leaving f high (frame.left_nexts ++ frame.right_nexts) stuck.fixed in
    asked_by leaving.fixed (stuck.required ++ leaving.required))
    e1
    ∙ ap (λ (stuck : Asked).
    let leaving = asked_leaving f high (cycle.left.nexts ++ cycle.right.nexts) stuck.fixed in
    asked_by leaving.fixed (stuck.required ++ leaving.required))
    e2
    ∙ ap (λ (leaving : Asked). asked_by leaving.fixed (stuck.required ++ leaving.required)) e3

pub escape_asks :
    (p : Sides) (f : Front') (inputs left right now next : List ℤ) (d0 d1 d2 d3 : ClauseDomain) (cycle : Cycle)
    → framed p inputs left right d0.clauses.fixed ≡ framed_by cycle d1.clauses.fixed → Grows 132610 d0 d1
    → now ≡ left ++ right → next ≡ cycle.left.nexts ++ cycle.right.nexts
    → Asks 204800000 (asked_stuck f (true_literal d1.clauses.free) now d1.clauses.fixed) d1 d2
    → Asks 204900000 (asked_leaving f (true_literal d2.clauses.free) next d2.clauses.fixed) d2 d3
    → Asks 409832610 (asked_escape p f (true_literal d0.clauses.free) inputs left right d0.clauses.fixed) d0 d3
escape_asks p f inputs left right now next d0 d1 d2 d3 cycle e1 grows is_now is_next stuck0 leaving0 =
    let high = true_literal d0.clauses.free in
    let nexts = cycle.left.nexts ++ cycle.right.nexts in
    let s = asked_stuck f high (left ++ right) d1.clauses.fixed in
    let l = asked_leaving f high nexts s.fixed in
    let whole = escape_asked p f high inputs left right d0.clauses.fixed d1.clauses.fixed cycle s l e1 refl refl in
    let same_stuck : asked_stuck f (true_literal d1.clauses.free) now d1.clauses.fixed ≡ s =
    ap (λ (k : ℕ). asked_stuck f (true_literal k) now d1.clauses.fixed) grows.free ∙ ap (λ (xs : List ℤ). asked_stuck f high xs d1.clauses.fixed) is_now in
    let stuck : Asks 204800000 s d1 d2 = subst (λ (a : Asked). Asks 204800000 a d1 d2) same_stuck stuck0 in
    let same_leaving : asked_leaving f (true_literal d2.clauses.free) next d2.clauses.fixed ≡ l =
    ap (λ (k : ℕ). asked_leaving f (true_literal k) next d2.clauses.fixed) (stuck.free ∙ grows.free)
    ∙ ap (λ (xs : List ℤ). asked_leaving f high xs d2.clauses.fixed) is_next ∙ ap (λ (c : Content). asked_leaving f high nexts c) stuck.fixed in
    let leaving : Asks 204900000 l d2 d3 = subst (λ (a : Asked). Asks 204900000 a d2 d3) same_leaving leaving0 in
    record {
      fixed = leaving.fixed ∙ sym (ap (λ (a : Asked). a.fixed) whole);
      required = leaving.required ∙ ap (λ (r : List (List ℤ)). r ++ l.required) (stuck.required ∙ ap (λ (r : List (List ℤ)). r ++ s.required) grows.required)
          ∙ append_assoc d0.clauses.required s.required l.required ∙ sym (ap (λ (a : Asked). d0.clauses.required ++ a.required) whole);
      free = leaving.free ∙ stuck.free ∙ grows.free;
      least = omega (arith, grows.least, stuck.least, leaving.least);
      most = omega (arith, grows.most, stuck.most, leaving.most);
    }
