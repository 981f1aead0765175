-- The terms of designs in two algebras whose operations respect a relation.
use Rattle.std.proofs.Common.{◌≡◌, ℕ, zero, suc, Bool, true, false, List, [], ◌∷◌, length, take, drop, replicate, map, get_or, cond, Option, Some, None, sym, subst}
use Rattle.std.specs.List.{AllZip, flat_map}
use Rattle.rst_terms.specs.Algebras.{Algebra, Step}
use Rattle.rst_terms.proofs.Respects.{Respects, same_length}
use Rattle.rst_terms.proofs.Respects as law
use Rattle.rst_net.specs.declared.signal.Role.{Role}
use Rattle.rst_net.specs.declared.signal.Role.TheVariants as role
use Rattle.rst_net.specs.Units.{PlainSignal, PlainProcess, PlainDriver, PlainFlat}
use Rattle.rst_cycle.specs.Signals.{with_role}
use Rattle.rst_cycle.specs.Resets.{BitReset, reset_of}
use Rattle.rst_statement_terms.specs.Targets.{Words, word_of}
use Rattle.rst_statement_terms.specs.Statements.{Sight, Held, Current, statement_bits}
use Rattle.rst_statement_terms.proofs.RelatedWords as table
use Rattle.rst_statement_terms.proofs.RelatedStatements.{statement_good, statement_related}
use Rattle.rst_design_terms.specs.Designs.{turned_onto, turned, start_word, inputs_behind, state_behind, start_words, holds_at, reset_bit, reset_bits, reset_word, reset_words, unit_statement, unit_bits, units_bits, clocked_bits, Designed, listed_words, design_bits}

module _ {S T X Y : Type 0} (Good : S → Type 0) (R : X → Y → Type 0) (A : Algebra S X) (B : Algebra T Y) (r : Respects Good R A B) where
  turned_onto_related :
      (xs others : List X) (us rest : List Y) → AllZip R xs us → AllZip R others rest → AllZip R (turned_onto xs others) (turned_onto us rest)
  turned_onto_related [] others [] rest p q = q
  turned_onto_related [] others (u ∷ us) rest p q = absurd p
  turned_onto_related (x ∷ xs) others [] rest p q = absurd p
  turned_onto_related (x ∷ xs) others (u ∷ us) rest p q = turned_onto_related xs (x ∷ others) us (u ∷ rest) p.1 (p.0, q)

  turned_related : (xs : List X) (us : List Y) → AllZip R xs us → AllZip R (turned xs) (turned us)
  turned_related xs us p = turned_onto_related xs [] us [] p tt

  copies_related : (count : ℕ) (x : X) (u : Y) → R x u → AllZip R (replicate count x) (replicate count u)
  copies_related zero x u p = tt
  copies_related (suc count) x u p = (p, copies_related count x u p)

  first_related : (xs : List X) (us : List Y) (x : X) (u : Y) → AllZip R xs us → R x u → R (get_or xs 0 x) (get_or us 0 u)
  first_related [] [] x u p q = q
  first_related [] (v ∷ us) x u p q = absurd p
  first_related (y ∷ xs) [] x u p q = absurd p
  first_related (y ∷ xs) (v ∷ us) x u p q = p.0

  start_word_related :
      (r' : Role) (w : ℕ) (inputs state : List X) (others rest : List Y) → AllZip R inputs others → AllZip R state rest
      → AllZip R (start_word (A.constant false) r' w inputs state) (start_word (B.constant false) r' w others rest)
  start_word_related role.Input w inputs state others rest p q = turned_related (take w inputs) (take w others) (law.zip_take Good R A B r w inputs others p)
  start_word_related role.Register w inputs state others rest p q = turned_related (take w state) (take w rest) (law.zip_take Good R A B r w state rest q)
  start_word_related role.Clock w inputs state others rest p q = copies_related w (A.constant false) (B.constant false) (r.constant false)
  start_word_related role.Block w inputs state others rest p q = copies_related w (A.constant false) (B.constant false) (r.constant false)
  start_word_related role.Wire w inputs state others rest p q = copies_related w (A.constant false) (B.constant false) (r.constant false)
  start_word_related role.Idle w inputs state others rest p q = copies_related w (A.constant false) (B.constant false) (r.constant false)

  inputs_related : (r' : Role) (w : ℕ) (xs : List X) (us : List Y) → AllZip R xs us → AllZip R (inputs_behind r' w xs) (inputs_behind r' w us)
  inputs_related role.Input w xs us p = law.zip_drop Good R A B r w xs us p
  inputs_related role.Register w xs us p = p
  inputs_related role.Clock w xs us p = p
  inputs_related role.Block w xs us p = p
  inputs_related role.Wire w xs us p = p
  inputs_related role.Idle w xs us p = p

  state_related : (r' : Role) (w : ℕ) (xs : List X) (us : List Y) → AllZip R xs us → AllZip R (state_behind r' w xs) (state_behind r' w us)
  state_related role.Register w xs us p = law.zip_drop Good R A B r w xs us p
  state_related role.Input w xs us p = p
  state_related role.Clock w xs us p = p
  state_related role.Block w xs us p = p
  state_related role.Wire w xs us p = p
  state_related role.Idle w xs us p = p

  start_related :
      (signals : List PlainSignal) (inputs state : List X) (others rest : List Y) → AllZip R inputs others → AllZip R state rest
      → AllZip (AllZip R) (start_words (A.constant false) signals inputs state) (start_words (B.constant false) signals others rest)
  start_related [] inputs state others rest p q = tt
  start_related (s ∷ signals) inputs state others rest p q =
      let w : ℕ = s.extent.width in (
        start_word_related s.role w inputs state others rest p q,
        start_related signals (inputs_behind s.role w inputs) (state_behind s.role w state) (inputs_behind s.role w others) (state_behind s.role w rest)
            (inputs_related s.role w inputs others p) (state_related s.role w state rest q),
      )

  -- ---- resets

  holds_related : (level : Bool) (x : X) (u : Y) → R x u → R (holds_at A level x) (holds_at B level u)
  holds_related true x u p = p
  holds_related false x u p = r.negation x u p

  reset_bit_good : (start : Words X) (reset : Option BitReset) (s : S) (x : X) → Good (reset_bit A start reset s x).0 → Good s
  reset_bit_good start None s x g = g
  reset_bit_good start (Some reset) s x g =
      r.choice_good s (holds_at A reset.level (get_or (word_of start reset.signal) 0 (A.constant false))) (A.constant reset.value) x g

  reset_bit_related :
      (start : Words X) (other : Words Y) → AllZip (AllZip R) start other → (reset : Option BitReset) (s : S) (t : T) (x : X) (u : Y) → R x u
      → Good (reset_bit A start reset s x).0 → R (reset_bit A start reset s x).1 (reset_bit B other reset t u).1
  reset_bit_related start other same None s t x u p g = p
  reset_bit_related start other same (Some reset) s t x u p g =
      let xs : List X = word_of start reset.signal in
      let us : List Y = word_of other reset.signal in
      r.choice s t (holds_at A reset.level (get_or xs 0 (A.constant false))) (A.constant reset.value) x
      (holds_at B reset.level (get_or us 0 (B.constant false))) (B.constant reset.value) u g
      (holds_related reset.level (get_or xs 0 (A.constant false)) (get_or us 0 (B.constant false))
      (first_related xs us (A.constant false) (B.constant false) (table.word_related Good R A B r start other reset.signal same) (r.constant false)))
      (r.constant reset.value) p

  reset_bits_good : (start : Words X) (resets : ℕ → Option BitReset) (xs : List X) (s : S) → Good (reset_bits A start resets s xs).0 → Good s
  reset_bits_good start resets [] s g = g
  reset_bits_good start resets (x ∷ xs) s g =
      let m : Step S X = reset_bit A start (resets (length xs)) s x in
      reset_bit_good start (resets (length xs)) s x (reset_bits_good start resets xs m.0 g)

  reset_bits_related :
      (start : Words X) (other : Words Y) → AllZip (AllZip R) start other → (resets : ℕ → Option BitReset) (xs : List X) (us : List Y) (s : S) (t : T)
      → AllZip R xs us → Good (reset_bits A start resets s xs).0 → AllZip R (reset_bits A start resets s xs).1 (reset_bits B other resets t us).1
  reset_bits_related start other same resets [] [] s t p g = tt
  reset_bits_related start other same resets [] (u ∷ us) s t p g = absurd p
  reset_bits_related start other same resets (x ∷ xs) [] s t p g = absurd p
  reset_bits_related start other same resets (x ∷ xs) (u ∷ us) s t p g =
      let m : Step S X = reset_bit A start (resets (length xs)) s x in
      let n : Step T Y = reset_bit B other (resets (length us)) t u in
      let g1 : Good m.0 = reset_bits_good start resets xs m.0 g in (
        subst (λ k. R m.1 (reset_bit B other (resets k) t u).1) (same_length R xs us p.1)
            (reset_bit_related start other same (resets (length xs)) s t x u p.0 g1),
        reset_bits_related start other same resets xs us m.0 n.0 p.1 g,
      )

  reset_word_good : (start : Words X) (resets : ℕ → Option BitReset) (r' : Role) (word : List X) (s : S) → Good (reset_word A start resets r' s word).0 → Good s
  reset_word_good start resets role.Register word s g = reset_bits_good start resets (turned word) s g
  reset_word_good start resets role.Input word s g = g
  reset_word_good start resets role.Clock word s g = g
  reset_word_good start resets role.Block word s g = g
  reset_word_good start resets role.Wire word s g = g
  reset_word_good start resets role.Idle word s g = g

  reset_word_related :
      (start : Words X) (other : Words Y) → AllZip (AllZip R) start other → (resets : ℕ → Option BitReset) (r' : Role) (word : List X) (rest : List Y) (s : S) (t : T)
      → AllZip R word rest → Good (reset_word A start resets r' s word).0 → AllZip R (reset_word A start resets r' s word).1 (reset_word B other resets r' t rest).1
  reset_word_related start other same resets role.Register word rest s t p g =
      turned_related (reset_bits A start resets s (turned word)).1 (reset_bits B other resets t (turned rest)).1
      (reset_bits_related start other same resets (turned word) (turned rest) s t (turned_related word rest p) g)
  reset_word_related start other same resets role.Input word rest s t p g = p
  reset_word_related start other same resets role.Clock word rest s t p g = p
  reset_word_related start other same resets role.Block word rest s t p g = p
  reset_word_related start other same resets role.Wire word rest s t p g = p
  reset_word_related start other same resets role.Idle word rest s t p g = p

  reset_words_good :
      (start : Words X) (resets : ℕ → ℕ → Option BitReset) (signals : List PlainSignal) (words : Words X) (s : S) (i : ℕ)
      → Good (reset_words A start resets s i signals words).0 → Good s
  reset_words_good start resets [] words s i g = g
  reset_words_good start resets (signal ∷ signals) [] s i g = g
  reset_words_good start resets (signal ∷ signals) (word ∷ words) s i g =
      let m : Step S (List X) = reset_word A start (resets i) signal.role s word in
      reset_word_good start (resets i) signal.role word s (reset_words_good start resets signals words m.0 (suc i) g)

  reset_words_related :
      (start : Words X) (other : Words Y) → AllZip (AllZip R) start other → (resets : ℕ → ℕ → Option BitReset) (signals : List PlainSignal) (words : Words X) (rest : Words Y)
      (s : S) (t : T) (i : ℕ) → AllZip (AllZip R) words rest → Good (reset_words A start resets s i signals words).0
      → AllZip (AllZip R) (reset_words A start resets s i signals words).1 (reset_words B other resets t i signals rest).1
  reset_words_related start other same resets [] words rest s t i p g = tt
  reset_words_related start other same resets (signal ∷ signals) [] [] s t i p g = tt
  reset_words_related start other same resets (signal ∷ signals) [] (u ∷ us) s t i p g = absurd p
  reset_words_related start other same resets (signal ∷ signals) (x ∷ xs) [] s t i p g = absurd p
  reset_words_related start other same resets (signal ∷ signals) (word ∷ words) (u ∷ us) s t i p g =
      let m : Step S (List X) = reset_word A start (resets i) signal.role s word in
      let n : Step T (List Y) = reset_word B other (resets i) signal.role t u in
      let g1 : Good m.0 = reset_words_good start resets signals words m.0 (suc i) g in (
        reset_word_related start other same (resets i) signal.role word u s t p.0 g1,
        reset_words_related start other same resets signals words us m.0 n.0 (suc i) p.1 g,
      )

  -- ---- units and clocked blocks

  unit_good : (unit : PlainDriver) (s : S) (words : Words X) → Good (unit_bits A s words unit).0 → Good s
  unit_good unit s words g = statement_good Good R A B r Current (unit_statement unit) s words g

  unit_related :
      (unit : PlainDriver) (s : S) (t : T) (ws : Words X) (vs : Words Y) → AllZip (AllZip R) ws vs → Good (unit_bits A s ws unit).0
      → AllZip (AllZip R) (unit_bits A s ws unit).1 (unit_bits B t vs unit).1
  unit_related unit s t ws vs p g = statement_related Good R A B r Current Current tt (unit_statement unit) s t ws vs p g

  units_good : (units : List PlainDriver) (s : S) (words : Words X) → Good (units_bits A s words units).0 → Good s
  units_good [] s words g = g
  units_good (unit ∷ units) s words g =
      let m : Step S (Words X) = unit_bits A s words unit in
      unit_good unit s words (units_good units m.0 m.1 g)

  units_related :
      (units : List PlainDriver) (s : S) (t : T) (ws : Words X) (vs : Words Y) → AllZip (AllZip R) ws vs → Good (units_bits A s ws units).0
      → AllZip (AllZip R) (units_bits A s ws units).1 (units_bits B t vs units).1
  units_related [] s t ws vs p g = p
  units_related (unit ∷ units) s t ws vs p g =
      let m : Step S (Words X) = unit_bits A s ws unit in
      let n : Step T (Words Y) = unit_bits B t vs unit in
      units_related units m.0 n.0 m.1 n.1 (unit_related unit s t ws vs p (units_good units m.0 m.1 g)) g

  clocked_good : (settled : Words X) (processes : List PlainProcess) (s : S) (held : Words X) → Good (clocked_bits A settled s held processes).0 → Good s
  clocked_good settled [] s held g = g
  clocked_good settled (process ∷ processes) s held g =
      let m : Step S (Words X) = statement_bits A (Held settled) s held process.body in
      statement_good Good R A B r (Held settled) process.body s held (clocked_good settled processes m.0 m.1 g)

  clocked_related :
      (settled : Words X) (other : Words Y) → AllZip (AllZip R) settled other → (processes : List PlainProcess) (s : S) (t : T) (ws : Words X) (vs : Words Y)
      → AllZip (AllZip R) ws vs → Good (clocked_bits A settled s ws processes).0
      → AllZip (AllZip R) (clocked_bits A settled s ws processes).1 (clocked_bits B other t vs processes).1
  clocked_related settled other same [] s t ws vs p g = p
  clocked_related settled other same (process ∷ processes) s t ws vs p g =
      let m : Step S (Words X) = statement_bits A (Held settled) s ws process.body in
      let n : Step T (Words Y) = statement_bits B (Held other) t vs process.body in
      clocked_related settled other same processes m.0 n.0 m.1 n.1
      (statement_related Good R A B r (Held settled) (Held other) same process.body s t ws vs p (clocked_good settled processes m.0 m.1 g)) g

  -- ---- the design

  listed_related : (ws : Words X) (vs : Words Y) → AllZip (AllZip R) ws vs → (signals : List ℕ) → AllZip R (listed_words ws signals) (listed_words vs signals)
  listed_related ws vs p [] = tt
  listed_related ws vs p (i ∷ signals) =
      law.zip_append Good R A B r (turned (word_of ws i)) (listed_words ws signals) (turned (word_of vs i)) (listed_words vs signals)
      (turned_related (word_of ws i) (word_of vs i) (table.word_related Good R A B r ws vs i p)) (listed_related ws vs p signals)

  pub design_good : (flat : PlainFlat) (s : S) (inputs state : List X) → Good (design_bits A flat s inputs state).behind → Good s
  design_good flat s inputs state g =
      let start : Words X = start_words (A.constant false) flat.signals inputs state in
      let reads : Step S (Words X) = reset_words A start (reset_of flat.clocked) s 0 flat.signals start in
      let settled : Step S (Words X) = units_bits A reads.0 reads.1 flat.units in
      reset_words_good start (reset_of flat.clocked) flat.signals start s 0 (units_good flat.units reads.0 reads.1 (clocked_good settled.1 flat.clocked settled.0 start g))

  pub record DesignsAlike (d : Designed S X) (e : Designed T Y) : Type 0 where
    pub outs : AllZip R d.outs e.outs
    pub nexts : AllZip R d.nexts e.nexts

  pub design_related :
      (flat : PlainFlat) (s : S) (t : T) (inputs state : List X) (others rest : List Y) → AllZip R inputs others → AllZip R state rest
      → Good (design_bits A flat s inputs state).behind → DesignsAlike (design_bits A flat s inputs state) (design_bits B flat t others rest)
  design_related flat s t inputs state others rest p q g =
      let start : Words X = start_words (A.constant false) flat.signals inputs state in
      let begin : Words Y = start_words (B.constant false) flat.signals others rest in
      let reads : Step S (Words X) = reset_words A start (reset_of flat.clocked) s 0 flat.signals start in
      let looks : Step T (Words Y) = reset_words B begin (reset_of flat.clocked) t 0 flat.signals begin in
      let settled : Step S (Words X) = units_bits A reads.0 reads.1 flat.units in
      let rested : Step T (Words Y) = units_bits B looks.0 looks.1 flat.units in
      let next : Step S (Words X) = clocked_bits A settled.1 settled.0 start flat.clocked in
      let then_ : Step T (Words Y) = clocked_bits B rested.1 rested.0 begin flat.clocked in
      let g1 : Good settled.0 = clocked_good settled.1 flat.clocked settled.0 start g in
      let g0 : Good reads.0 = units_good flat.units reads.0 reads.1 g1 in
      let same0 = start_related flat.signals inputs state others rest p q in
      let same1 = reset_words_related start begin same0 (reset_of flat.clocked) flat.signals start begin s t 0 same0 g0 in
      let same2 = units_related flat.units reads.0 looks.0 reads.1 looks.1 same1 g1 in
      let same3 = clocked_related settled.1 rested.1 same2 flat.clocked settled.0 rested.0 start begin same0 g in
      record {
        outs = listed_related settled.1 rested.1 same2 flat.outputs;
        nexts = listed_related next.1 then_.1 same3 (map (λ w. w.number) (with_role role.Register flat.signals));
      }
