-- What the literals behind a pattern stand for.
use Rattle.std.proofs.Common.{◌≡◌, ◌∙◌, ℕ, ◌+◌, ◌≤◌, ℤ, Bool, false, not, List, [], ◌∷◌, ◌++◌, drop, refl, ap, arith}
use Rattle.std.proofs.lemmas.List.{map-append}
use Rattle.rst_value.specs.declared.tern.Tern.{Tern}
use Rattle.rst_value.specs.Domains.{Content}
use Rattle.rst_gate.specs.Machine.{after}
use Rattle.rst_gate.specs.Patterns.{free_count, free_bits, filled_places, filled}
use Rattle.rst_clause.specs.Literals.{literal_holds, Solves}
use Rattle.rst_clause.specs.Standing.{BeginsWith}
use Rattle.rst_clause.specs.Results.{largest}
use Rattle.rst_pair.specs.Sides.{Sides, left_machine, right_machine}
use Rattle.rst_pose.specs.Posed.{Lits, Framed, framed, cycle_literals, pattern_literals}
use Rattle.rst_query_laws.proofs.Meaning.{values, Ready, In, AllIn, Grown, grown_not, grown_twice, in_more, all_append, opposite_in, opposite_value}
use Rattle.rst_query_laws.proofs.Frames.{BothMean, framed_means}
use Rattle.rst_query_laws.proofs.Bits.{cycle_values, cycle_in, drop_drop}

-- the literal is false under each solution
pub record IsLow (free : ℕ) (c : Content) (low : ℤ) : Type 0 where
  pub ready : Ready free c
  pub held : In c low
  pub fails : (v : ℕ → Bool) → Solves v c → literal_holds v low ≡ false

pub low_more : (free : ℕ) (a b : Content) (low : ℤ) → Grown free a b → IsLow free a low → IsLow free b low
low_more free a b low g h = record { ready = g.ready; held = in_more free a b low g h.held; fails = λ v s. h.fails v (g.earlier v s) }

-- behind the filling by the bits behind those before
abbrev pub run_bits : Sides → List (List Tern) → ℕ → List Bool → List Bool → List Bool → List Bool
run_bits p pattern before bits s t =
    after (left_machine p) s (filled pattern (drop before bits)) ++ after (right_machine p) t (filled pattern (drop before bits))

pub record RunMeans (free : ℕ) (p : Sides) (c : Content) (pattern : List (List Tern)) (before : ℕ) (left right : List ℤ) (r : Lits) : Type 0 where
  pub grown : Grown free c r.1
  pub held : AllIn r.1 r.0
  pub value : (bits : List Bool) (v : ℕ → Bool) → BeginsWith free bits v → Solves v r.1
      → values v r.0 ≡ run_bits p pattern before bits (values v left) (values v right)

pub run_means :
    (free : ℕ) (p : Sides) (c : Content) (low : ℤ) (pattern : List (List Tern)) (before : ℕ) (left right : List ℤ) → IsLow free c low
    → AllIn c left → AllIn c right → before + free_bits pattern ≤ free → free ≤ largest c
    → RunMeans free p c pattern before left right (pattern_literals p low pattern before left right c)
run_means free p c low [] before left right low_is ls rs le below = record {
  grown = grown_not free c low_is.ready;
  held = all_append (largest c) left right ls rs;
  value = λ bits v begins s. map-append (λ z. literal_holds v z) left right;
}
run_means free p c low (places ∷ pattern) before left right low_is ls rs le below =
    let inputs = cycle_literals low places before in
    let ins : AllIn c inputs = cycle_in (largest c) low places before low_is.held (opposite_in c low low_is.held) (omega (arith, le, below)) in
    let f : Framed = framed p inputs left right c in
    let m : BothMean free p c inputs left right f = framed_means free p c inputs left right low_is.ready ins ls rs in
    let next = before + free_count places in
    let r : Lits = pattern_literals p low pattern next f.left_nexts f.right_nexts f.behind in
    let rest : RunMeans free p f.behind pattern next f.left_nexts f.right_nexts r =
    run_means free p f.behind low pattern next f.left_nexts f.right_nexts (low_more free c f.behind low m.grown low_is)
    m.left_nexts_held m.right_nexts_held (omega (arith, le)) (omega (arith, below, m.grown.more)) in
    record {
      grown = grown_twice free c f.behind r.1 m.grown rest.grown;
      held = rest.held;
      value = λ bits v begins s.
          let at_frame = rest.grown.earlier v s in
          let at_start = m.grown.earlier v at_frame in
          let fails = low_is.fails v at_start in
          let input : values v inputs ≡ filled_places places (drop before bits) =
          cycle_values free bits v low places before begins fails (opposite_value c low v low_is.held ∙ ap not fails) (omega (arith, le)) in
          rest.value bits v begins s
          ∙ stepped p pattern bits places before _ _ _ _
          (m.left_nexts v at_frame ∙ ap (λ (xs : List Bool). (left_machine p).step (values v left) xs) input)
          (m.right_nexts v at_frame ∙ ap (λ (xs : List Bool). (right_machine p).step (values v right) xs) input);
    }
  where
    stepped : (p : Sides) (pattern : List (List Tern)) (bits : List Bool) (places : List Tern) (before : ℕ) (s t s' t' : List Bool)
        → s' ≡ (left_machine p).step s (filled_places places (drop before bits)) → t' ≡ (right_machine p).step t (filled_places places (drop before bits))
        → run_bits p pattern (before + free_count places) bits s' t' ≡ run_bits p (places ∷ pattern) before bits s t
    stepped p pattern bits places before s t s' t' es et = rw (es, et, drop_drop before (free_count places) bits) refl
