-- A flat design has one order of its units, or one first row of flow that refuses it.
use Rattle.std.proofs.Common.{◌≡◌, ℕ, ◌<◌, ◌≤◌, inl, inr, true, false, List, [], ◌∷◌, length, Option, Some, None, Result, Ok, Err, refl, sym, ap, ◌∙◌, arith}
use Rattle.std.proofs.lemmas.Bool.{cases_order}
use Rattle.rst_order.specs.Graphs.{Graph}
use Rattle.rst_net.specs.Statements.{Statement}
use Rattle.rst_net.specs.Units.{PlainDriver, PlainFlat, Assign, Process}
use Rattle.rst_blocks.specs.Blocks.{wrong_set, first_unlisted, is_held, NoneHeld, FirstHeld, HeldBy, HeldInUnit, HeldIs}
use Rattle.rst_weight.specs.Weights.{weight}
use Rattle.rst_flow.specs.declared.flowing.FlowError.{FlowError}
use Rattle.rst_flow.specs.declared.flowing.FlowError.TheVariants as fault
use Rattle.rst_flow.specs.Edges.{IsUnitGraph, IsLooped, IsFirstLooped, IsUnitOrder}
use Rattle.rst_flow.specs.Flows.{name_at, Passes, IsRefusal}
use Rattle.rst_reject.specs.declared.reject.Reject.{Reject}
use Rattle.rst_reject.specs.Steps.{Then, refused, goes_on, HasOneAnswer}
use Rattle.rst_reject.proofs.Steps.{one_answer}
use Rattle.rst_causes.specs.Causes.{flow_reject}
use Rattle.rst_design.specs.Answers.{FlowGives}
use Rattle.rst_design.proofs.Orders.{SameEdges, reaches_too, one_order}

-- ---- the first signal of which a block can hold a bit

none_or_first : (body : Statement) (i : ℕ) → NoneHeld body → FirstHeld body i → ⊥
none_or_first body i none f = let no : is_held body i f.holds.place ≡ false = none i f.holds.place f.holds.below in let yes : is_held body i f.holds.place ≡ true = f.holds.held in cc

earlier_held : (body : Statement) (i j : ℕ) → FirstHeld body i → FirstHeld body j → i < j → ⊥
earlier_held body i j a b less =
    let no : is_held body i a.holds.place ≡ false = b.first i less a.holds.place a.holds.below in
    let yes : is_held body i a.holds.place ≡ true = a.holds.held in
    cc

held_in_block : (body : Statement) (a b : Option ℕ) → HeldBy body a → HeldBy body b → a ≡ b
held_in_block body None None x y = refl
held_in_block body None (Some j) x y = absurd (none_or_first body j x y)
held_in_block body (Some i) None x y = absurd (none_or_first body i y x)
held_in_block body (Some i) (Some j) x y = elim (cases_order i j) [
  | inl same ↦ ap Some same
  | inr (inl less) ↦ absurd (earlier_held body i j x y less)
  | inr (inr more) ↦ absurd (earlier_held body j i y x more)
]

held_in_unit : (unit : PlainDriver) (a b : Option ℕ) → HeldInUnit unit a → HeldInUnit unit b → a ≡ b
held_in_unit (Assign set) a b x y = x ∙ sym y
held_in_unit (Process process) a b x y = held_in_block process.body a b x y

one_held : (units : List PlainDriver) (a b : Option ℕ) → HeldIs units a → HeldIs units b → a ≡ b
one_held [] a b x y = cc
one_held (unit ∷ units) None None x y = refl
one_held (unit ∷ units) None (Some j) (x, xs) (inl y) = held_in_unit unit None (Some j) x y
one_held (unit ∷ units) None (Some j) (x, xs) (inr (y, ys)) = one_held units None (Some j) xs ys
one_held (unit ∷ units) (Some i) None (inl x) (y, ys) = held_in_unit unit (Some i) None x y
one_held (unit ∷ units) (Some i) None (inr (x, xs)) (y, ys) = one_held units (Some i) None xs ys
one_held (unit ∷ units) (Some i) (Some j) (inl x) (inl y) = held_in_unit unit (Some i) (Some j) x y
one_held (unit ∷ units) (Some i) (Some j) (inl x) (inr (y, ys)) = let no = held_in_unit unit (Some i) None x y in cc
one_held (unit ∷ units) (Some i) (Some j) (inr (x, xs)) (inl y) = let no = held_in_unit unit None (Some j) x y in cc
one_held (unit ∷ units) (Some i) (Some j) (inr (x, xs)) (inr (y, ys)) = one_held units (Some i) (Some j) xs ys

-- ---- the graph of the units

same_edges : (count : ℕ) (units : List PlainDriver) (g h : Graph) → IsUnitGraph count units g → IsUnitGraph count units h → SameEdges g h
same_edges count units g h a b = record {
  vertices = a.vertices ∙ sym b.vertices;
  there = λ u v e. b.complete u v (a.sound u v e);
  back = λ u v e. a.complete u v (b.sound u v e);
}

looped_too : (units : List PlainDriver) (g h : Graph) (signal : ℕ) → SameEdges g h → IsLooped units g signal → IsLooped units h signal
looped_too units g h signal s l = record {
  unit = l.unit;
  driver = l.driver;
  place = l.place;
  at = l.at;
  driven = l.driven;
  around = reaches_too g h s l.unit l.unit l.around;
}

earlier_looped : (count : ℕ) (units : List PlainDriver) (i j : ℕ) → IsFirstLooped count units i → IsFirstLooped count units j → i < j → ⊥
earlier_looped count units i j a b less = b.first i less (looped_too units a.graph b.graph i (same_edges count units a.graph b.graph a.edges b.edges) a.looped)

one_looped : (count : ℕ) (units : List PlainDriver) (i j : ℕ) → IsFirstLooped count units i → IsFirstLooped count units j → i ≡ j
one_looped count units i j a b = elim (cases_order i j) [
  | inl same ↦ same
  | inr (inl less) ↦ absurd (earlier_looped count units i j a b less)
  | inr (inr more) ↦ absurd (earlier_looped count units j i b a more)
]

one_unit_order : (count : ℕ) (units : List PlainDriver) (xs ys : List ℕ) → IsUnitOrder count units xs → IsUnitOrder count units ys → xs ≡ ys
one_unit_order count units xs ys a b = one_order a.graph b.graph (same_edges count units a.graph b.graph a.edges b.edges) xs ys a.steps b.steps

ordered_or_looped : (count : ℕ) (units : List PlainDriver) (order : List ℕ) (signal : ℕ) → IsUnitOrder count units order → IsFirstLooped count units signal → ⊥
ordered_or_looped count units order signal a b =
    a.acyclic b.looped.unit (reaches_too b.graph a.graph (same_edges count units b.graph a.graph b.edges a.edges) b.looped.unit b.looped.unit b.looped.around)

-- ---- the rows as a chain of steps

-- a row on a signal that is there or not
abbrev pub SignalGives : PlainFlat → (Option ℕ → Type 0) → (List ℕ → FlowError) → Result (Option ℕ) FlowError → Type 0
SignalGives flat Is error (Ok none) = Is None × (none ≡ None)
SignalGives flat Is error (Err e) = (signal : ℕ) × Is (Some signal) × (e ≡ error (name_at flat signal))

one_signal : (flat : PlainFlat) (Is : Option ℕ → Type 0) (error : List ℕ → FlowError) → ((a b : Option ℕ) → Is a → Is b → a ≡ b) → HasOneAnswer (SignalGives flat Is error)
one_signal flat Is error one (Ok a) (Ok b) (x, p) (y, q) = cc
one_signal flat Is error one (Ok a) (Err f) (x, p) (j, y, q) = let no = one None (Some j) x y in cc
one_signal flat Is error one (Err e) (Ok b) (i, x, p) (y, q) = let no = one (Some i) None x y in cc
one_signal flat Is error one (Err e) (Err f) (i, x, p) (j, y, q) =
    let same : i ≡ j = let somes = one (Some i) (Some j) x y in cc in
    ap Err (p ∙ (ap (λ k. error (name_at flat k)) same ∙ sym q))

abbrev pub LoopGives : PlainFlat → Result (List ℕ) FlowError → Type 0
LoopGives flat (Ok order) = IsUnitOrder (length flat.signals) flat.units order
LoopGives flat (Err e) = (signal : ℕ) × IsFirstLooped (length flat.signals) flat.units signal × (e ≡ fault.Loop (name_at flat signal))

one_loop : (flat : PlainFlat) → HasOneAnswer (LoopGives flat)
one_loop flat (Ok a) (Ok b) x y = ap Ok (one_unit_order (length flat.signals) flat.units a b x y)
one_loop flat (Ok a) (Err f) x (j, y, q) = absurd (ordered_or_looped (length flat.signals) flat.units a j x y)
one_loop flat (Err e) (Ok b) (i, x, p) y = absurd (ordered_or_looped (length flat.signals) flat.units b i y x)
one_loop flat (Err e) (Err f) (i, x, p) (j, y, q) =
    let same : i ≡ j = one_looped (length flat.signals) flat.units i j x y in
    ap Err (p ∙ (ap (λ k. fault.Loop (name_at flat k)) same ∙ sym q))

abbrev pub WeightGives : PlainFlat → List ℕ → Result (List ℕ) FlowError → Type 0
WeightGives flat order (Ok same) = (same ≡ order) × (weight flat ≤ 16384)
WeightGives flat order (Err e) = (e ≡ fault.Limit) × (16384 < weight flat)

one_weight : (flat : PlainFlat) (order : List ℕ) → HasOneAnswer (WeightGives flat order)
one_weight flat order (Ok a) (Ok b) (p, x) (q, y) = cc
one_weight flat order (Ok a) (Err f) (p, x) (q, y) = absurd (omega arith)
one_weight flat order (Err e) (Ok b) (p, x) (q, y) = absurd (omega arith)
one_weight flat order (Err e) (Err f) (p, x) (q, y) = cc

abbrev pub IsWrong : PlainFlat → Option ℕ → Type 0
IsWrong flat answer = wrong_set flat.units flat.clocked ≡ answer

abbrev pub IsUnlisted : PlainFlat → Option ℕ → Type 0
IsUnlisted flat answer = first_unlisted flat.units ≡ answer

abbrev pub RowsGive : PlainFlat → Result (List ℕ) FlowError → Type 0
RowsGive flat =
    Then (SignalGives flat (IsWrong flat) fault.Blocking) (λ u.
    Then (SignalGives flat (IsUnlisted flat) fault.Sensitivity) (λ v.
    Then (SignalGives flat (HeldIs flat.units) fault.Latch) (λ w. Then (LoopGives flat) (WeightGives flat))))

one_row : (flat : PlainFlat) → HasOneAnswer (RowsGive flat)
one_row flat =
    one_answer (one_signal flat (IsWrong flat) fault.Blocking (λ a b x y. sym x ∙ y)) (λ u.
    one_answer (one_signal flat (IsUnlisted flat) fault.Sensitivity (λ a b x y. sym x ∙ y)) (λ v.
    one_answer (one_signal flat (HeldIs flat.units) fault.Latch (one_held flat.units)) (λ w. one_answer (one_loop flat) (one_weight flat))))

passes_rows : (flat : PlainFlat) (order : List ℕ) → Passes flat order → RowsGive flat (Ok order)
passes_rows flat order p =
    goes_on None (p.blocks.blocking, refl)
    (goes_on None (p.blocks.sensitivity, refl)
    (goes_on None (p.blocks.latch, refl) (goes_on order p.ordered (refl, p.light))))

refused_rows : (flat : PlainFlat) (error : FlowError) (r : Reject) → IsRefusal flat error → flow_reject error ≡ Some r → RowsGive flat (Err error)
refused_rows flat (fault.Blocking name) r h is = refused (fault.Blocking name) (h.signal, h.wrong, ap fault.Blocking h.named) refl
refused_rows flat (fault.Sensitivity name) r h is = goes_on None (h.blocking, refl) (refused (fault.Sensitivity name) (h.signal, h.unlisted, ap fault.Sensitivity h.named) refl)
refused_rows flat (fault.Latch name) r h is =
    goes_on None (h.blocking, refl) (goes_on None (h.sensitivity, refl) (refused (fault.Latch name) (h.signal, h.held, ap fault.Latch h.named) refl))
refused_rows flat (fault.Loop name) r h is =
    goes_on None (h.blocks.blocking, refl) (goes_on None (h.blocks.sensitivity, refl) (goes_on None (h.blocks.latch, refl)
    (refused (fault.Loop name) (h.signal, h.looped, ap fault.Loop h.named) refl)))
refused_rows flat fault.Limit r h is =
    goes_on None (h.blocks.blocking, refl) (goes_on None (h.blocks.sensitivity, refl) (goes_on None (h.blocks.latch, refl)
    (goes_on h.order h.ordered (refl, h.heavy))))
refused_rows flat fault.NoMemory r h is = cc

pub one_flow : (flat : PlainFlat) → HasOneAnswer (FlowGives flat)
one_flow flat (Ok a) (Ok b) x y = let same = one_row flat (Ok a) (Ok b) (passes_rows flat a x) (passes_rows flat b y) in cc
one_flow flat (Ok a) (Err s) x (f, y, q) = let no = one_row flat (Ok a) (Err f) (passes_rows flat a x) (refused_rows flat f s y q) in cc
one_flow flat (Err r) (Ok b) (e, x, p) y = let no = one_row flat (Err e) (Ok b) (refused_rows flat e r x p) (passes_rows flat b y) in cc
one_flow flat (Err r) (Err s) (e, x, p) (f, y, q) =
    let same : e ≡ f = let errors = one_row flat (Err e) (Err f) (refused_rows flat e r x p) (refused_rows flat f s y q) in cc in
    let somes : Some r ≡ Some s = sym p ∙ (ap flow_reject same ∙ q) in
    cc
