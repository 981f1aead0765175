-- What is asked of pairs, as tests.
use Rattle.std.proofs.Common.{◌≡◌, ◌∙◌, ◌↔◌, ℕ, ℤ, Bool, true, not, ◌&&◌, ◌||◌, List, [], ◌∷◌, ◌++◌, sym, ap, subst}
use Rattle.std.proofs.lemmas.List.{map-append}
use Rattle.rst_value.specs.Domains.{Content}
use Rattle.rst_clause.specs.Literals.{literal_holds, Solves, AreClauses}
use Rattle.rst_clause.specs.Results.{largest}
use Rattle.rst_clause.proofs.Gates.{solves_all, all_solve, Solves-left, Solves-right}
use Rattle.rst_clause.proofs.Ranges.{AreClauses-append, AreClauses-more}
use Rattle.rst_pair.specs.Sides.{Sides, left_machine, right_machine}
use Rattle.rst_pair.specs.Hops.{cubes_of}
use Rattle.rst_pair.specs.Fronts.{Front'}
use Rattle.rst_pose.specs.Posed.{Lits, Framed, framed, in_cubes, in_none, outs_differ, each_false, Asked, asked_split, asked_blocked, asked_stuck, asked_leaving, asked_escape}
use Rattle.rst_query_laws.proofs.Meaning.{values, AllIn, Grown, grown_twice, One, in_more, all_more, all_cons, all_append}
use Rattle.rst_query_laws.proofs.Frames.{BothMean, framed_means}
use Rattle.rst_query_laws.proofs.Cubes.{IsHigh, high_more, some_true, agree_each, differences, cubes_mean, none_means, outs_mean}
use Rattle.rst_query_laws.proofs.Demands.{solves_both, clause-is, clause-of, false-is, false-of, some_append, one_in, false_in}
use Rattle.rst_query_laws.proofs.Cases.{blocked, freed, next_pair, SplitTest, StuckTest, LeavingTest, EscapeTest}

-- there are more gates, and a choice that solves their clauses solves the required ones exactly where this holds
pub record AskMeans (free : ℕ) (c : Content) (asked : Asked) (Case : (ℕ → Bool) → Type 0) : Type 0 where
  pub grown : Grown free c asked.fixed
  pub held : AreClauses (largest asked.fixed) asked.required
  pub exact : (v : ℕ → Bool) → Solves v asked.fixed → Solves v asked.required ↔ Case v

pub blocked_means :
    (free : ℕ) (f : Front') (c : Content) (high : ℤ) (pair : List ℤ) → IsHigh free c high → AllIn c pair
    → AskMeans free c (asked_blocked f high pair c) (λ v. blocked f (values v pair) ≡ true)
blocked_means free f c high pair h q =
    let r : Lits = in_cubes high (cubes_of f.blocked) pair c in
    let m = cubes_mean free c high (cubes_of f.blocked) pair h q in
    record {
      grown = m.grown;
      held = one_in (largest r.1) r.0 m.held;
      exact = λ v s. (
        λ a. ap some_true (sym (m.value v s)) ∙ clause-is v r.0 a,
        λ e. clause-of v r.0 (ap some_true (m.value v s) ∙ e),
      );
    }

pub stuck_means :
    (free : ℕ) (f : Front') (c : Content) (high : ℤ) (pair : List ℤ) → IsHigh free c high → AllIn c pair
    → AskMeans free c (asked_stuck f high pair c) (λ v. StuckTest f (values v pair))
stuck_means free f c high pair h q =
    let b : Lits = in_cubes high (cubes_of f.blocked) pair c in
    let bm = cubes_mean free c high (cubes_of f.blocked) pair h q in
    let g : Lits = in_cubes high (cubes_of f.freed) pair b.1 in
    let gm = cubes_mean free b.1 high (cubes_of f.freed) pair (high_more free c b.1 high bm.grown h) (all_more free c b.1 pair bm.grown q) in
    let n = largest g.1 in
    record {
      grown = grown_twice free c b.1 g.1 bm.grown gm.grown;
      held = AreClauses-append n (b.0 ∷ []) (each_false g.0) (one_in n b.0 (all_more free b.1 g.1 b.0 gm.grown bm.held)) (false_in n g.0 gm.held);
      exact = λ v s.
          let before = gm.grown.earlier v s in (
            λ a. (
              ap some_true (sym (bm.value v before)) ∙ clause-is v b.0 (Solves-left v (b.0 ∷ []) (each_false g.0) a),
              ap some_true (sym (gm.value v s)) ∙ false-is v n g.0 gm.held (solves_all v (each_false g.0) (Solves-right v (b.0 ∷ []) (each_false g.0) a)),
            ),
            λ e. solves_both v (b.0 ∷ []) (each_false g.0) (clause-of v b.0 (ap some_true (bm.value v before) ∙ e.0))
                (all_solve v (each_false g.0) (false-of v n g.0 gm.held (ap some_true (gm.value v s) ∙ e.1))),
          );
    }

pub leaving_means :
    (free : ℕ) (f : Front') (c : Content) (high : ℤ) (pair : List ℤ) → IsHigh free c high → AllIn c pair
    → AskMeans free c (asked_leaving f high pair c) (λ v. LeavingTest f (values v pair))
leaving_means free f c high pair h q =
    let z : One = in_none high high (cubes_of f.blocked) pair c in
    let zm = none_means free c high high (cubes_of f.blocked) pair h h.held q in
    let g : Lits = in_cubes high (cubes_of f.freed) pair z.1 in
    let gm = cubes_mean free z.1 high (cubes_of f.freed) pair (high_more free c z.1 high zm.grown h) (all_more free c z.1 pair zm.grown q) in
    let n = largest g.1 in
    let same : (v : ℕ → Bool) → Solves v g.1 → some_true (values v (z.0 ∷ g.0)) ≡ (not (blocked f (values v pair)) || freed f (values v pair)) =
    λ v s.
    let before = gm.grown.earlier v s in
    ap (λ (b : Bool). b || some_true (values v g.0))
    (zm.value v before ∙ ap (λ (b : Bool). b && not (blocked f (values v pair))) (h.holds v (zm.grown.earlier v before)))
    ∙ ap (λ (bits : List Bool). not (blocked f (values v pair)) || some_true bits) (gm.value v s) in
    record {
      grown = grown_twice free c z.1 g.1 zm.grown gm.grown;
      held = one_in n (z.0 ∷ g.0) (all_cons n z.0 g.0 (in_more free z.1 g.1 z.0 gm.grown zm.held) gm.held);
      exact = λ v s. (λ a. sym (same v s) ∙ clause-is v (z.0 ∷ g.0) a, λ e. clause-of v (z.0 ∷ g.0) (same v s ∙ e));
    }

pub split_means :
    (free : ℕ) (p : Sides) (f : Front') (c : Content) (high : ℤ) (inputs left right : List ℤ) → IsHigh free c high
    → AllIn c inputs → AllIn c left → AllIn c right
    → AskMeans free c (asked_split p f high inputs left right c) (λ v. SplitTest p f (values v inputs) (values v left) (values v right))
split_means free p f c high inputs left right h ins ls rs =
    let fr : Framed = framed p inputs left right c in
    let fm : BothMean free p c inputs left right fr = framed_means free p c inputs left right h.ready ins ls rs in
    let h1 = high_more free c fr.behind high fm.grown h in
    let pair = left ++ right in
    let pair_in = all_more free c fr.behind pair fm.grown (all_append (largest c) left right ls rs) in
    let b : Lits = in_cubes high (cubes_of f.blocked) pair fr.behind in
    let bm = cubes_mean free fr.behind high (cubes_of f.blocked) pair h1 pair_in in
    let d : Lits = outs_differ fr.left_outs fr.right_outs b.1 in
    let dm = outs_mean free b.1 fr.left_outs fr.right_outs bm.grown.ready (all_more free fr.behind b.1 fr.left_outs bm.grown fm.left_outs_held)
    (all_more free fr.behind b.1 fr.right_outs bm.grown fm.right_outs_held) in
    let to_d = grown_twice free fr.behind b.1 d.1 bm.grown dm.grown in
    let next = fr.left_nexts ++ fr.right_nexts in
    let next_in = all_more free fr.behind d.1 next to_d (all_append (largest fr.behind) fr.left_nexts fr.right_nexts fm.left_nexts_held fm.right_nexts_held) in
    let g : Lits = in_cubes high (cubes_of f.blocked) next d.1 in
    let gm = cubes_mean free d.1 high (cubes_of f.blocked) next (high_more free fr.behind d.1 high to_d h1) next_in in
    let n = largest g.1 in
    let b_in = all_more free b.1 g.1 b.0 (grown_twice free b.1 d.1 g.1 dm.grown gm.grown) bm.held in
    let clause = d.0 ++ g.0 in
    let first : (v : ℕ → Bool) → Solves v g.1 → some_true (values v b.0) ≡ blocked f (values v left ++ values v right) =
    λ v s.
    ap some_true (bm.value v (dm.grown.earlier v (gm.grown.earlier v s)))
    ∙ ap (λ (bits : List Bool). blocked f bits) (map-append (λ z. literal_holds v z) left right) in
    let second : (v : ℕ → Bool) → Solves v g.1
    → some_true (values v clause) ≡ (some_true (differences ((left_machine p).out (values v left) (values v inputs)) ((right_machine p).out (values v right) (values v inputs)))
    || blocked f (next_pair p (values v inputs) (values v left) (values v right))) =
    λ v s.
    let at_d = gm.grown.earlier v s in
    let at_fr = to_d.earlier v at_d in
    ap some_true (map-append (λ z. literal_holds v z) d.0 g.0) ∙ some_append (values v d.0) (values v g.0)
    ∙ ap (λ (bits : List Bool). some_true bits || some_true (values v g.0))
    (dm.value v at_d ∙ ap (λ (bits : List Bool). differences bits (values v fr.right_outs)) (fm.left_outs v at_fr)
    ∙ ap (λ (bits : List Bool). differences ((left_machine p).out (values v left) (values v inputs)) bits) (fm.right_outs v at_fr))
    ∙ ap (λ (bits : List Bool). some_true (differences ((left_machine p).out (values v left) (values v inputs)) ((right_machine p).out (values v right) (values v inputs))) || some_true bits)
    (gm.value v s ∙ ap (λ (bits : List Bool). agree_each (cubes_of f.blocked) bits)
    (map-append (λ z. literal_holds v z) fr.left_nexts fr.right_nexts
    ∙ ap (λ (bits : List Bool). bits ++ values v fr.right_nexts) (fm.left_nexts v at_fr)
    ∙ ap (λ (bits : List Bool). (left_machine p).step (values v left) (values v inputs) ++ bits) (fm.right_nexts v at_fr))) in
    record {
      grown = grown_twice free c fr.behind g.1 fm.grown (grown_twice free fr.behind d.1 g.1 to_d gm.grown);
      held = AreClauses-append n (each_false b.0) (clause ∷ []) (false_in n b.0 b_in)
          (one_in n clause (all_append n d.0 g.0 (all_more free d.1 g.1 d.0 gm.grown dm.held) gm.held));
      exact = λ v s. (
        λ a. (
          sym (first v s) ∙ false-is v n b.0 b_in (solves_all v (each_false b.0) (Solves-left v (each_false b.0) (clause ∷ []) a)),
          sym (second v s) ∙ clause-is v clause (Solves-right v (each_false b.0) (clause ∷ []) a),
        ),
        λ e. solves_both v (each_false b.0) (clause ∷ []) (all_solve v (each_false b.0) (false-of v n b.0 b_in (first v s ∙ e.0)))
            (clause-of v clause (second v s ∙ e.1)),
      );
    }

pub escape_means :
    (free : ℕ) (p : Sides) (f : Front') (c : Content) (high : ℤ) (inputs left right : List ℤ) → IsHigh free c high
    → AllIn c inputs → AllIn c left → AllIn c right
    → AskMeans free c (asked_escape p f high inputs left right c) (λ v. EscapeTest p f (values v inputs) (values v left) (values v right))
escape_means free p f c high inputs left right h ins ls rs =
    let fr : Framed = framed p inputs left right c in
    let fm : BothMean free p c inputs left right fr = framed_means free p c inputs left right h.ready ins ls rs in
    let h1 = high_more free c fr.behind high fm.grown h in
    let pair = left ++ right in
    let s : Asked = asked_stuck f high pair fr.behind in
    let sm : AskMeans free fr.behind s (λ v. StuckTest f (values v pair)) =
    stuck_means free f fr.behind high pair h1 (all_more free c fr.behind pair fm.grown (all_append (largest c) left right ls rs)) in
    let next = fr.left_nexts ++ fr.right_nexts in
    let l : Asked = asked_leaving f high next s.fixed in
    let lm : AskMeans free s.fixed l (λ v. LeavingTest f (values v next)) =
    leaving_means free f s.fixed high next (high_more free fr.behind s.fixed high sm.grown h1)
    (all_more free fr.behind s.fixed next sm.grown (all_append (largest fr.behind) fr.left_nexts fr.right_nexts fm.left_nexts_held fm.right_nexts_held)) in
    let n = largest l.fixed in
    let now_is : (v : ℕ → Bool) → values v pair ≡ values v left ++ values v right = λ v. map-append (λ z. literal_holds v z) left right in
    let next_is : (v : ℕ → Bool) → Solves v fr.behind → values v next ≡ next_pair p (values v inputs) (values v left) (values v right) =
    λ v at_fr.
    map-append (λ z. literal_holds v z) fr.left_nexts fr.right_nexts
    ∙ ap (λ (bits : List Bool). bits ++ values v fr.right_nexts) (fm.left_nexts v at_fr)
    ∙ ap (λ (bits : List Bool). (left_machine p).step (values v left) (values v inputs) ++ bits) (fm.right_nexts v at_fr) in
    record {
      grown = grown_twice free c fr.behind l.fixed fm.grown (grown_twice free fr.behind s.fixed l.fixed sm.grown lm.grown);
      held = AreClauses-append n s.required l.required (AreClauses-more (largest s.fixed) n s.required lm.grown.more sm.held) lm.held;
      exact = λ v solves.
          let at_s = lm.grown.earlier v solves in
          let at_fr = sm.grown.earlier v at_s in
          let stuck = sm.exact v at_s in
          let leaving = lm.exact v solves in (
            λ a. (
              subst (λ (bits : List Bool). StuckTest f bits) (now_is v) (stuck.0 (Solves-left v s.required l.required a)),
              subst (λ (bits : List Bool). LeavingTest f bits) (next_is v at_fr) (leaving.0 (Solves-right v s.required l.required a)),
            ),
            λ e. solves_both v s.required l.required (stuck.1 (subst (λ (bits : List Bool). StuckTest f bits) (sym (now_is v)) e.0))
                (leaving.1 (subst (λ (bits : List Bool). LeavingTest f bits) (sym (next_is v at_fr)) e.1)),
          );
    }
