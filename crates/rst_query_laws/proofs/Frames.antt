-- What a cycle of gates stands for.
use Rattle.std.proofs.Common.{◌≡◌, ◌∙◌, ℕ, zero, suc, ℤ, pos, Bool, true, false, not, ◌&&◌, if◌then◌else◌, List, [], ◌∷◌, ◌++◌, map, refl, sym, ap, subst, arith}
use Rattle.std.specs.Prelude.{slice_index_or}
use Rattle.std.proofs.lemmas.List.{map-append}
use Rattle.std.proofs.lemmas.List.Elements.{All-push}
use Rattle.rst_value.specs.Bits.{bit_xor, bit_mux}
use Rattle.rst_value.specs.Domains.{Content}
use Rattle.rst_gate.specs.declared.edge.Edge.{Edge}
use Rattle.rst_gate.specs.declared.edge.Gate.{Gate}
use Rattle.rst_gate.specs.declared.edge.Gate.TheVariants.{And, Xor, Mux}
use Rattle.rst_gate.specs.Operations.{on_bits}
use Rattle.rst_gate.specs.Circuits.{Circuit}
use Rattle.rst_gate.specs.Nodes.{edge_value, gate_value, values_behind, node_values, out_values, next_values}
use Rattle.rst_gate.specs.NamedResults.{edge_gives, two_give, three_give, gate_gives, nodes_give, edges_give, frame_gives}
use Rattle.rst_clause.specs.Literals.{opposite, literal_holds, Solves, IsLiteral}
use Rattle.rst_clause.specs.Results.{largest, false_variable, clause_results}
use Rattle.rst_clause.proofs.Ranges.{false_is, defined_more}
use Rattle.rst_clause.proofs.Extending.{false_value}
use Rattle.rst_pair.specs.Sides.{Sides, left_machine, right_machine}
use Rattle.rst_pose.specs.Posed.{Lits, Framed, framed}
use Rattle.rst_query_laws.proofs.Meaning.{values, Ready, In, AllIn, Grown, grown_not, grown_twice, One, Means, MeansAll, means_as, in_more, all_more, both_means, differ_means, choice_means, opposite_in, opposite_value, all_cons, all_append}

-- the literal of an edge
abbrev edge_literal : ℤ → List ℤ → Edge → ℤ
edge_literal low zs edge = if edge.inverted then opposite (slice_index_or zs edge.node low) else slice_index_or zs edge.node low

edge_is : (low : ℤ) (zs : List ℤ) (edge : Edge) (c : Content) → edge_gives clause_results low zs edge c ≡ (edge_literal low zs edge, c)
edge_is low zs edge c = by_sign edge.inverted (slice_index_or zs edge.node low)
  where
    by_sign : (b : Bool) (z : ℤ) → ◌≡◌ {A = One} (if b then (opposite z, c) else (z, c)) (if b then opposite z else z, c)
    by_sign true z = refl
    by_sign false z = refl

in_at : (c : Content) (low : ℤ) (zs : List ℤ) (i : ℕ) → AllIn c zs → In c low → In c (slice_index_or zs i low)
in_at c low [] i h l = l
in_at c low (z ∷ zs) zero h l = h 0 z (omega arith)
in_at c low (z ∷ zs) (suc i) h l = in_at c low zs i (λ j d lt. h (suc j) d (omega arith)) l

edge_in : (c : Content) (low : ℤ) (zs : List ℤ) (edge : Edge) → AllIn c zs → In c low → In c (edge_literal low zs edge)
edge_in c low zs edge h l = by_sign edge.inverted
  where
    by_sign : (b : Bool) → In c (if b then opposite (slice_index_or zs edge.node low) else slice_index_or zs edge.node low)
    by_sign true = opposite_in c (slice_index_or zs edge.node low) (in_at c low zs edge.node h l)
    by_sign false = in_at c low zs edge.node h l

value_at : (v : ℕ → Bool) (low : ℤ) (zs : List ℤ) (i : ℕ) → literal_holds v low ≡ false → literal_holds v (slice_index_or zs i low) ≡ slice_index_or (values v zs) i false
value_at v low [] i e = e
value_at v low (z ∷ zs) zero e = refl
value_at v low (z ∷ zs) (suc i) e = value_at v low zs i e

edge_means :
    (v : ℕ → Bool) (c : Content) (low : ℤ) (zs : List ℤ) (edge : Edge) → AllIn c zs → In c low → literal_holds v low ≡ false
    → literal_holds v (edge_literal low zs edge) ≡ edge_value on_bits (values v zs) edge
edge_means v c low zs edge h l e = by_sign edge.inverted
  where
    z : ℤ
    z = slice_index_or zs edge.node low

    by_sign : (b : Bool) → literal_holds v (if b then opposite z else z) ≡ (if b then not (slice_index_or (values v zs) edge.node false) else slice_index_or (values v zs) edge.node false)
    by_sign true = opposite_value c z v (in_at c low zs edge.node h l) ∙ ap not (value_at v low zs edge.node e)
    by_sign false = value_at v low zs edge.node e

-- the literals of nodes are in range, and the false one is false
record AreNodes (free : ℕ) (c : Content) (low : ℤ) (zs : List ℤ) : Type 0 where
  ready : Ready free c
  held : AllIn c zs
  low_held : In c low
  is_low : (v : ℕ → Bool) → Solves v c → literal_holds v low ≡ false

gate_means :
    (free : ℕ) (c : Content) (low : ℤ) (zs : List ℤ) (gate : Gate) → AreNodes free c low zs
    → Means free c (gate_gives clause_results low zs gate c) (λ v. gate_value on_bits (values v zs) gate)
gate_means free c low zs (And a b) n =
    let x = edge_literal low zs a in
    let y = edge_literal low zs b in
    let is : gate_gives clause_results low zs (And a b) c ≡ clause_results.both c x y =
    ap (λ (r : One). two_give clause_results.both r (λ k. edge_gives clause_results low zs b k)) (edge_is low zs a c)
    ∙ ap (λ (r : One). clause_results.both r.1 x r.0) (edge_is low zs b c) in
    let m = both_means free c x y n.ready (edge_in c low zs a n.held n.low_held) (edge_in c low zs b n.held n.low_held) in
    subst (λ (r : One). Means free c r (λ v. gate_value on_bits (values v zs) (And a b))) (sym is)
    (means_as free c (clause_results.both c x y) _ _ m (λ v s.
    let e = n.is_low v (m.grown.earlier v s) in
    ap (λ (t : Bool). t && literal_holds v y) (edge_means v c low zs a n.held n.low_held e)
    ∙ ap (λ (t : Bool). edge_value on_bits (values v zs) a && t) (edge_means v c low zs b n.held n.low_held e)))
gate_means free c low zs (Xor a b) n =
    let x = edge_literal low zs a in
    let y = edge_literal low zs b in
    let is : gate_gives clause_results low zs (Xor a b) c ≡ clause_results.differ c x y =
    ap (λ (r : One). two_give clause_results.differ r (λ k. edge_gives clause_results low zs b k)) (edge_is low zs a c)
    ∙ ap (λ (r : One). clause_results.differ r.1 x r.0) (edge_is low zs b c) in
    let m = differ_means free c x y n.ready (edge_in c low zs a n.held n.low_held) (edge_in c low zs b n.held n.low_held) in
    subst (λ (r : One). Means free c r (λ v. gate_value on_bits (values v zs) (Xor a b))) (sym is)
    (means_as free c (clause_results.differ c x y) _ _ m (λ v s.
    let e = n.is_low v (m.grown.earlier v s) in
    ap (λ (t : Bool). bit_xor t (literal_holds v y)) (edge_means v c low zs a n.held n.low_held e)
    ∙ ap (λ (t : Bool). bit_xor (edge_value on_bits (values v zs) a) t) (edge_means v c low zs b n.held n.low_held e)))
gate_means free c low zs (Mux s a b) n =
    let w = edge_literal low zs s in
    let x = edge_literal low zs a in
    let y = edge_literal low zs b in
    let is : gate_gives clause_results low zs (Mux s a b) c ≡ clause_results.choice c w x y =
    ap (λ (r : One). three_give clause_results.choice r (λ k. edge_gives clause_results low zs a k) (λ k. edge_gives clause_results low zs b k)) (edge_is low zs s c)
    ∙ ap (λ (r : One). two_give (λ k t u. clause_results.choice k w t u) r (λ k. edge_gives clause_results low zs b k)) (edge_is low zs a c)
    ∙ ap (λ (r : One). clause_results.choice r.1 w x r.0) (edge_is low zs b c) in
    let m = choice_means free c w x y n.ready (edge_in c low zs s n.held n.low_held) (edge_in c low zs a n.held n.low_held) (edge_in c low zs b n.held n.low_held) in
    subst (λ (r : One). Means free c r (λ v. gate_value on_bits (values v zs) (Mux s a b))) (sym is)
    (means_as free c (clause_results.choice c w x y) _ _ m (λ v solves.
    let e = n.is_low v (m.grown.earlier v solves) in
    ap (λ (t : Bool). bit_mux t (literal_holds v x) (literal_holds v y)) (edge_means v c low zs s n.held n.low_held e)
    ∙ ap (λ (t : Bool). bit_mux (edge_value on_bits (values v zs) s) t (literal_holds v y)) (edge_means v c low zs a n.held n.low_held e)
    ∙ ap (λ (t : Bool). bit_mux (edge_value on_bits (values v zs) s) (edge_value on_bits (values v zs) a) t) (edge_means v c low zs b n.held n.low_held e)))

nodes_mean :
    (free : ℕ) (c : Content) (low : ℤ) (zs : List ℤ) (gates : List Gate) → AreNodes free c low zs
    → MeansAll free c (nodes_give clause_results low gates zs c) (λ v. values_behind on_bits gates (values v zs))
nodes_mean free c low zs [] n = record { grown = grown_not free c n.ready; held = n.held; value = λ v s. refl }
nodes_mean free c low zs (gate ∷ gates) n =
    let r : One = gate_gives clause_results low zs gate c in
    let m : Means free c r (λ v. gate_value on_bits (values v zs) gate) = gate_means free c low zs gate n in
    let more : AreNodes free r.1 low (zs ++ r.0 ∷ []) = record {
      ready = m.grown.ready;
      held = All-push (IsLiteral (largest r.1)) zs r.0 (all_more free c r.1 zs m.grown n.held) m.held;
      low_held = in_more free c r.1 low m.grown n.low_held;
      is_low = λ v s. n.is_low v (m.grown.earlier v s);
    } in
    let rest = nodes_mean free r.1 low (zs ++ r.0 ∷ []) gates more in
    record {
      grown = grown_twice free c r.1 _ m.grown rest.grown;
      held = rest.held;
      value = λ v s. rest.value v s
          ∙ ap (λ (bits : List Bool). values_behind on_bits gates bits) (map-append (λ z. literal_holds v z) zs (r.0 ∷ [])
          ∙ ap (λ (b : Bool). values v zs ++ b ∷ []) (m.value v (rest.grown.earlier v s)));
    }

edges_are : (low : ℤ) (zs : List ℤ) (edges : List Edge) (c : Content)
    → edges_give clause_results low zs edges c ≡ (map (λ e. edge_literal low zs e) edges, c)
edges_are low zs [] c = refl
edges_are low zs (edge ∷ edges) c =
    ap (λ (r : One). let rest = edges_give clause_results low zs edges r.1 in lits (r.0 ∷ rest.0) rest.1) (edge_is low zs edge c)
    ∙ ap (λ (r : Lits). lits (edge_literal low zs edge ∷ r.0) r.1) (edges_are low zs edges c)
  where
    lits : List ℤ → Content → Lits
    lits zs c = (zs, c)

edges_in : (c : Content) (low : ℤ) (zs : List ℤ) (edges : List Edge) → AllIn c zs → In c low → AllIn c (map (λ e. edge_literal low zs e) edges)
edges_in c low zs [] h l = λ i d lt. absurd (omega arith)
edges_in c low zs (edge ∷ edges) h l = all_cons (largest c) (edge_literal low zs edge) (map (λ e. edge_literal low zs e) edges) (edge_in c low zs edge h l) (edges_in c low zs edges h l)

edges_mean :
    (v : ℕ → Bool) (c : Content) (low : ℤ) (zs : List ℤ) (edges : List Edge) → AllIn c zs → In c low → literal_holds v low ≡ false
    → values v (map (λ e. edge_literal low zs e) edges) ≡ map (edge_value on_bits (values v zs)) edges
edges_mean v c low zs [] h l e = refl
edges_mean v c low zs (edge ∷ edges) h l e = same_bits _ _ _ _ (edge_means v c low zs edge h l e) (edges_mean v c low zs edges h l e)
  where
    same_bits : (a b : Bool) (xs ys : List Bool) → a ≡ b → xs ≡ ys → a ∷ xs ≡ b ∷ ys
    same_bits a b xs ys p q = cc

-- outputs, successors, and the content behind them
abbrev pub Cycle : Type 0
Cycle = List ℤ × List ℤ × Content

pub record CycleMeans (free : ℕ) (g : Circuit) (c : Content) (inputs states : List ℤ) (r : Cycle) : Type 0 where
  pub grown : Grown free c r.2
  pub outs_held : AllIn r.2 r.0
  pub nexts_held : AllIn r.2 r.1
  pub outs : (v : ℕ → Bool) → Solves v r.2 → values v r.0 ≡ out_values on_bits g (values v inputs) (values v states)
  pub nexts : (v : ℕ → Bool) → Solves v r.2 → values v r.1 ≡ next_values on_bits g (values v inputs) (values v states)

pub frame_means :
    (free : ℕ) (g : Circuit) (c : Content) (inputs states : List ℤ) → Ready free c → AllIn c inputs → AllIn c states
    → CycleMeans free g c inputs states (frame_gives clause_results g inputs states c)
frame_means free g c inputs states ready ins sts =
    let low : ℤ = pos (false_variable c) in
    let named : false_variable c ≡ suc free = false_is free (largest c) c ready in
    let low_held : In c low = (omega (arith, named), omega (arith, named, defined_more free (largest c) c ready)) in
    let first = low ∷ (inputs ++ states) in
    let is_low : (v : ℕ → Bool) → Solves v c → literal_holds v low ≡ false =
    λ v s. ap (λ (k : ℕ). literal_holds v (pos k)) named ∙ false_value free (largest c) c ∣ ready ∣₁ v s in
    let n : AreNodes free c low first = record {
      ready = ready;
      held = all_cons (largest c) low (inputs ++ states) low_held (all_append (largest c) inputs states ins sts);
      low_held = low_held;
      is_low = is_low;
    } in
    let nodes : Lits = nodes_give clause_results low g.gates first c in
    let m : MeansAll free c nodes (λ v. values_behind on_bits g.gates (values v first)) = nodes_mean free c low first g.gates n in
    let outs = map (λ e. edge_literal low nodes.0 e) g.outs in
    let nexts = map (λ e. edge_literal low nodes.0 e) g.nexts in
    let is : frame_gives clause_results g inputs states c ≡ (outs, nexts, nodes.1) =
    ap (λ (r : Lits). let rest = edges_give clause_results low nodes.0 g.nexts r.1 in cycle r.0 rest.0 rest.1) (edges_are low nodes.0 g.outs nodes.1)
    ∙ ap (λ (r : Lits). cycle outs r.0 r.1) (edges_are low nodes.0 g.nexts nodes.1) in
    let low_in : In nodes.1 low = in_more free c nodes.1 low m.grown low_held in
    let nodes_are : (v : ℕ → Bool) → Solves v nodes.1 → values v nodes.0 ≡ node_values on_bits g.gates (values v inputs) (values v states) =
    λ v s. m.value v s ∙ ap (λ (bits : List Bool). values_behind on_bits g.gates bits)
    (ap (λ (b : Bool). b ∷ values v (inputs ++ states)) (is_low v (m.grown.earlier v s))
    ∙ ap (λ (bits : List Bool). false ∷ bits) (map-append (λ z. literal_holds v z) inputs states)) in
    subst (λ (r : Cycle). CycleMeans free g c inputs states r) (sym is) (record {
      grown = m.grown;
      outs_held = edges_in nodes.1 low nodes.0 g.outs m.held low_in;
      nexts_held = edges_in nodes.1 low nodes.0 g.nexts m.held low_in;
      outs = λ v s. edges_mean v nodes.1 low nodes.0 g.outs m.held low_in (is_low v (m.grown.earlier v s))
          ∙ ap (λ (bits : List Bool). map (edge_value on_bits bits) g.outs) (nodes_are v s);
      nexts = λ v s. edges_mean v nodes.1 low nodes.0 g.nexts m.held low_in (is_low v (m.grown.earlier v s))
          ∙ ap (λ (bits : List Bool). map (edge_value on_bits bits) g.nexts) (nodes_are v s);
    })
  where
    cycle : List ℤ → List ℤ → Content → Cycle
    cycle os ns c = (os, ns, c)

-- a cycle of both sides
pub record BothMean (free : ℕ) (p : Sides) (c : Content) (inputs left right : List ℤ) (f : Framed) : Type 0 where
  pub grown : Grown free c f.behind
  pub left_outs_held : AllIn f.behind f.left_outs
  pub left_nexts_held : AllIn f.behind f.left_nexts
  pub right_outs_held : AllIn f.behind f.right_outs
  pub right_nexts_held : AllIn f.behind f.right_nexts
  pub left_outs : (v : ℕ → Bool) → Solves v f.behind → values v f.left_outs ≡ (left_machine p).out (values v left) (values v inputs)
  pub left_nexts : (v : ℕ → Bool) → Solves v f.behind → values v f.left_nexts ≡ (left_machine p).step (values v left) (values v inputs)
  pub right_outs : (v : ℕ → Bool) → Solves v f.behind → values v f.right_outs ≡ (right_machine p).out (values v right) (values v inputs)
  pub right_nexts : (v : ℕ → Bool) → Solves v f.behind → values v f.right_nexts ≡ (right_machine p).step (values v right) (values v inputs)

pub framed_means :
    (free : ℕ) (p : Sides) (c : Content) (inputs left right : List ℤ) → Ready free c → AllIn c inputs → AllIn c left → AllIn c right
    → BothMean free p c inputs left right (framed p inputs left right c)
framed_means free p c inputs left right ready ins ls rs =
    let l : Cycle = frame_gives clause_results p.left inputs left c in
    let lm : CycleMeans free p.left c inputs left l = frame_means free p.left c inputs left ready ins ls in
    let r : Cycle = frame_gives clause_results p.right inputs right l.2 in
    let rm : CycleMeans free p.right l.2 inputs right r =
    frame_means free p.right l.2 inputs right lm.grown.ready (all_more free c l.2 inputs lm.grown ins) (all_more free c l.2 right lm.grown rs) in
    record {
      grown = grown_twice free c l.2 r.2 lm.grown rm.grown;
      left_outs_held = all_more free l.2 r.2 l.0 rm.grown lm.outs_held;
      left_nexts_held = all_more free l.2 r.2 l.1 rm.grown lm.nexts_held;
      right_outs_held = rm.outs_held;
      right_nexts_held = rm.nexts_held;
      left_outs = λ v s. lm.outs v (rm.grown.earlier v s);
      left_nexts = λ v s. lm.nexts v (rm.grown.earlier v s);
      right_outs = λ v s. rm.outs v s;
      right_nexts = λ v s. rm.nexts v s;
    }
