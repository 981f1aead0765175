-- What a branch leaves blank wires with.
use Rattle.std.proofs.Common.{◌≡◌, ◌∙◌, ℕ, suc, Bool, true, false, not, ◌&&◌, eqb, List, [], ◌∷◌, ◌++◌, length, map, get_or, set, refl, sym, ap, subst, Result, Ok, Err, OnOk}
use Rattle.std.specs.List.{AllByRecursion, AllZip}
use Rattle.std.proofs.lemmas.List.{ext_get_or}
use Rattle.rst_value.specs.Bits.{bit_xor, bit_mux}
use Rattle.rst_gate.specs.declared.edge.Edge.{Edge}
use Rattle.rst_gate.specs.GateLists.{GateList}
use Rattle.rst_gate.specs.SharedGates.{constant_edge, turned, asked_and, asked_xor, asked_mux}
use Rattle.rst_gate.proofs.Related.{zip-get_or_past}
use Rattle.rst_net.specs.declared.signal.Slice.{Slice}
use Rattle.rst_net.specs.Statements.{Statement, Statements, Arms, Default, Block, If, Case, Set, Empty, end, more, no_arm, arm, no_default, default}
use Rattle.rst_cycle.specs.Bits.{has_bit}
use Rattle.rst_cycle.specs.Drivers.{sets}
use Rattle.rst_cycle.specs.Effects.{beginning, effect}
use Rattle.rst_blocks.specs.Sets.{targets_in, targets_in_all, targets_in_arms, targets_in_default}
use Rattle.rst_terms.specs.Algebras.{bits}
use Rattle.rst_terms.specs.Numbers.{digit, number}
use Rattle.rst_terms.proofs.Places.{bit_at_place}
use Rattle.rst_terms.proofs.Respects.{Respects, same_length}
use Rattle.rst_word_gates.specs.GateAlgebra.{gates_so_far}
use Rattle.rst_lower.specs.WireWords.{widths_of}
use Rattle.rst_statement_terms.specs.Targets.{Words, word_of}
use Rattle.rst_statement_terms.specs.Statements.{Held, statement_bits}
use Rattle.rst_statement_terms.proofs.RelatedWords.{word_related}
use Rattle.rst_statement_terms.proofs.RelatedStatements.{statement_related}
use Rattle.rst_statement_values.specs.Fits.{StatementFits, AllFit, ArmsFit, DefaultFits, SliceInside}
use Rattle.rst_statement_values.proofs.Effects.{Goes, statement_goes}
use Rattle.rst_reset_gates.specs.NodeWords.{IsBlank}
use Rattle.rst_reset_gates.specs.Tables.{IsForced}
use Rattle.rst_reset_gates.proofs.Blanks.{IsConstant, zeros, blank_constant, zeros_spell}

-- ---- gates over constant edges are bits

both_constant : (s : GateList) (x y : Bool) → (asked_and s (constant_edge x) (constant_edge y)).1 ≡ constant_edge (x && y)
unfolding asked_and
both_constant s true y = refl
both_constant s false y = refl

differ_constant : (s : GateList) (x y : Bool) → (asked_xor s (constant_edge x) (constant_edge y)).1 ≡ constant_edge (bit_xor x y)
unfolding asked_xor
differ_constant s x y = refl

choice_constant : (s : GateList) (z x y : Bool) → (asked_mux s (constant_edge z) (constant_edge x) (constant_edge y)).1 ≡ constant_edge (bit_mux z x y)
unfolding asked_mux
choice_constant s true x y = refl
choice_constant s false x y = refl

turned_constant : (x : Bool) → turned true (constant_edge x) ≡ constant_edge (not x)
turned_constant true = refl
turned_constant false = refl

constants_respect : Respects (λ (s : GateList). Unit {0}) IsConstant gates_so_far bits
constants_respect = record {
  constant = λ b. refl;
  negation = λ a x p. ap (turned true) p ∙ turned_constant x;
  both_good = λ s a b g. tt;
  differ_good = λ s a b g. tt;
  choice_good = λ s c a b g. tt;
  both = λ s t a b x y g p q. (λ i. (asked_and s (p i) (q i)).1) ∙ both_constant s x y;
  differ = λ s t a b x y g p q. (λ i. (asked_xor s (p i) (q i)).1) ∙ differ_constant s x y;
  choice = λ s t c a b z x y g o p q. (λ i. (asked_mux s (o i) (p i) (q i)).1) ∙ choice_constant s z x y;
}

-- ---- bits of numbers

digit_is : (b : Bool) → eqb (digit b) 1 ≡ b
digit_is true = refl
digit_is false = refl

bit_at : (xs : List Bool) (place : ℕ) → has_bit (number xs) place ≡ get_or xs place false
bit_at xs place = ap (λ n. eqb n 1) (sym (bit_at_place xs place)) ∙ digit_is (get_or xs place false)

-- words of constant edges, by their bits
read_as : (es : List Edge) (bs : List Bool) → AllZip IsConstant es bs → es ≡ map constant_edge bs
read_as [] [] h = refl
read_as [] (b ∷ bs) h = absurd h
read_as (e ∷ es) [] h = absurd h
read_as (e ∷ es) (b ∷ bs) h = let p = h.0 in let q = read_as es bs h.1 in λ i. p i ∷ q i

zeros_long : (words : Words Edge) → length (zeros words) ≡ length words
zeros_long [] = refl
zeros_long (w ∷ words) = ap suc (zeros_long words)

pub is_forced : (g : GateList) (blank : Words Edge) (st : Statement) → IsBlank blank → StatementFits (widths_of blank) false st
    → IsForced st blank (statement_bits gates_so_far (Held blank) g blank st).1
is_forced g blank st is fits =
    let zs : Words Bool = zeros blank in
    let vs : Words Bool = (statement_bits bits (Held zs) tt zs st).1 in
    let ws : Words Edge = (statement_bits gates_so_far (Held blank) g blank st).1 in
    let same = blank_constant blank is in
    let alike : AllZip (AllZip IsConstant) ws vs =
    statement_related (λ (s : GateList). Unit {0}) IsConstant gates_so_far bits constants_respect (Held blank) (Held zs) same st g tt blank zs same tt in
    let goes : Goes (widths_of blank) (Held zs) zs vs (effect st (beginning (λ _. 0) (λ _. 0))) (sets st) =
    statement_goes (widths_of blank) (Held zs) st zs (beginning (λ _. 0) (λ _. 0)) fits (record { last = zeros_spell blank; sees = zeros_spell blank }) in
    let word = λ (i : ℕ). word_related (λ (s : GateList). Unit {0}) IsConstant gates_so_far bits constants_respect ws vs i alike in
    let begun = λ (i : ℕ). word_related (λ (s : GateList). Unit {0}) IsConstant gates_so_far bits constants_respect blank zs i same in
    record {
      count = same_length (AllZip IsConstant) ws vs alike ∙ (sym goes.keeps.count ∙ zeros_long blank);
      widths = λ i. same_length IsConstant (word_of ws i) (word_of vs i) (word i) ∙ (goes.agrees.last i).width;
      bits = λ i place below.
          let value : get_or (word_of ws i) place (constant_edge false) ≡ constant_edge (get_or (word_of vs i) place false) =
          zip-get_or_past IsConstant (word_of ws i) (word_of vs i) place (constant_edge false) false refl (word i) in
          ap (λ (e : Edge). e.inverted) value
          ∙ (sym (bit_at (word_of vs i) place) ∙ ap (λ n. has_bit n place) (goes.agrees.last i).value);
      kept = λ i none.
          let words : word_of zs i ≡ word_of vs i =
          ext_get_or false (word_of zs i) (word_of vs i) (goes.keeps.widths i) (λ place below. goes.keeps.bits i place (none place)) in
          read_as (word_of ws i) (word_of vs i) (word i) ∙ (ap (map constant_edge) (sym words) ∙ sym (read_as (word_of blank i) (word_of zs i) (begun i)));
    }

-- ---- the slices of a statement's targets lie inside their signals

both_inside : (room : ℕ → ℕ) (xs ys : List Slice) → AllByRecursion (SliceInside room) xs → AllByRecursion (SliceInside room) ys → AllByRecursion (SliceInside room) (xs ++ ys)
both_inside room [] ys p q = q
both_inside room (x ∷ xs) ys p q = (p.0, both_inside room xs ys p.1 q)

mutual
  pub targets_inside : (room : ℕ → ℕ) (b : Bool) (st : Statement) → StatementFits room b st → AllByRecursion (SliceInside room) (targets_in st)
  targets_inside room b (Block statements) h = all_inside room b statements h
  targets_inside room b (If condition first second) h =
      both_inside room (targets_in first) (targets_in second) (targets_inside room b first h.1) (targets_inside room b second h.2)
  targets_inside room b (Case selector arms otherwise full) h =
      both_inside room (targets_in_arms arms) (targets_in_default otherwise) (arms_inside room b _ arms h.1) (default_inside room b otherwise h.2)
  targets_inside room b (Set set) h = h.slices
  targets_inside room b Empty h = tt

  all_inside : (room : ℕ → ℕ) (b : Bool) (statements : Statements) → AllFit room b statements → AllByRecursion (SliceInside room) (targets_in_all statements)
  all_inside room b end h = tt
  all_inside room b (more statement statements) h =
      both_inside room (targets_in statement) (targets_in_all statements) (targets_inside room b statement h.0) (all_inside room b statements h.1)

  arms_inside : (room : ℕ → ℕ) (b : Bool) (width : ℕ) (arms : Arms) → ArmsFit room b width arms → AllByRecursion (SliceInside room) (targets_in_arms arms)
  arms_inside room b width no_arm h = tt
  arms_inside room b width (arm labels body arms) h =
      both_inside room (targets_in body) (targets_in_arms arms) (targets_inside room b body h.1) (arms_inside room b width arms h.2)

  default_inside : (room : ℕ → ℕ) (b : Bool) (otherwise : Default) → DefaultFits room b otherwise → AllByRecursion (SliceInside room) (targets_in_default otherwise)
  default_inside room b no_default h = tt
  default_inside room b (default statement) h = targets_inside room b statement h

pub forced_result : {X E : Type 0} (r : Result X E) (g : GateList) (blank old new : Words Edge) (st : Statement) → old ≡ blank → IsBlank blank → StatementFits (widths_of blank) false st
    → OnOk r (new ≡ (statement_bits gates_so_far (Held blank) g old st).1) → OnOk r (IsForced st blank new)
forced_result (Ok x) g blank old new st same is fits h =
    subst (IsForced st blank) (sym (h ∙ ap (λ ws. (statement_bits gates_so_far (Held blank) g ws st).1) same)) (is_forced g blank st is fits)
forced_result (Err e) g blank old new st same is fits h = tt
