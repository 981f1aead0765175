-- The readers of declarations are exact.
use Rattle.std.proofs.Common.{◌≡◌, ℕ, ◌≤◌, Bool, true, false, List, [], ◌∷◌, ◌++◌, Option, Some, None, refl, sym, ap, subst, arith}
use Rattle.rst_tree.specs.Trees.{Tree, Text, height}
use Rattle.rst_tree.specs.Modules.{PlainRange, PlainParamName, PlainNetName, tallest, height_if, height_of_range, height_of_port_decl, height_of_param_name, height_of_param_decl, height_of_net_name, height_of_net_decl}
use Rattle.rst_grammar.specs.declared.symbol.Terminal.TheVariants as terminal
use Rattle.rst_grammar.specs.declared.symbol.Symbol.{Symbol}
use Rattle.rst_grammar.specs.declared.symbol.Symbol.TheVariants as symbol
use Rattle.rst_grammar.specs.Says.{Nothing, ◌⊗◌, quoted, named}
use Rattle.rst_grammar.specs.Expressions.{Spells}
use Rattle.rst_grammar.specs.Productions.{Optional, Flag, Listed}
use Rattle.rst_grammar.specs.Declarations.{SpellsRange, direction, MayBeWire, no_kind, wire, SpellsKind, SpellsPortDecl, SpellsParamName, parameter_word, SpellsParamDecl, net_word, SpellsNetValue, SpellsNetName, SpellsNetDecl}
use Rattle.rst_grammar.specs.ReadParts.{ReaderOf, name_in, mapped, both, up_to, optional, flag, separated, comma, comma_before_name}
use Rattle.rst_grammar.specs.ReadDeclarations.{expr_in, range_of, range_in, direction_in, kind_in, names_in, port_decl_of, port_decl_in, param_name_of, param_name_in, param_names_in, param_decl_of, param_decl_in, net_value_in, net_name_of, net_name_in, net_names_in, net_decl_of, net_decl_in}
use Rattle.rst_grammar.proofs.Fronts.{Front, one_is, one_front, nothing_is, nothing_front}
use Rattle.rst_grammar.proofs.Tools.{Follows, colon_follows, close_bracket_follows, comma_follows, semicolon_follows}
use Rattle.rst_grammar.proofs.Takes.{full_takes}
use Rattle.rst_grammar.proofs.Sound.{readers_sound, some_is}
use Rattle.rst_grammar.proofs.Exact.{IsExact, Anything, Without, without, before_behind, name_exact, name_is, flag_exact, behind_exact, up_to_exact, both_exact, mapped_exact, same_exact, mapped_reads, both_reads, optional_exact}
use Rattle.rst_grammar.proofs.ExactLists.{separated_exact, comma_separator, name_separator}

-- ---- expressions and ranges

pub expr_exact : (limit : ℕ) → IsExact Spells height limit (expr_in limit) (Follows 0)
expr_exact limit = record {
  sound = λ ts x r. let s = (readers_sound limit).full ts x r in (s.front, s.small);
  takes = λ e ts rest f small may. full_takes e ts rest limit f small may;
}

-- behind "["
abbrev pub RangeInside : PlainRange → List Symbol → Type 0
RangeInside r = Spells r.high ⊗ quoted terminal.Colon ⊗ Spells r.low ⊗ quoted terminal.CloseBracket

pub range_exact : (limit : ℕ) → IsExact RangeInside height_of_range limit (range_in limit) Anything
unfolding range_in
range_exact limit =
    let low = up_to_exact terminal.CloseBracket (λ rest. close_bracket_follows 0) (expr_exact limit) in
    let two = both_exact (expr_exact limit) (behind_exact terminal.Colon low) (before_behind (Follows 0) terminal.Colon _ (λ rest. colon_follows 0)) in
    mapped_exact range_of two (λ x ts p small. (p, omega (arith, small))) (λ r ts p small. ((r.high, r.low), refl, p, omega (arith, small)))

abbrev pub MayFollowRange : List Symbol → Type 0
MayFollowRange ts = Anything ts × Without terminal.OpenBracket ts

pub range_option_exact : (limit : ℕ) → IsExact (Optional SpellsRange) (height_if height_of_range) limit (optional terminal.OpenBracket (range_in limit)) MayFollowRange
range_option_exact limit = optional_exact terminal.OpenBracket (range_exact limit)

-- ---- ports

direction_sound : (limit : ℕ) (ts : List Symbol) (x : Bool × List Symbol) → direction_in ts ≡ Some x → Front (quoted (direction x.0)) ts x.1 × (0 ≤ limit)
unfolding direction_in
direction_sound limit (symbol.Terminal terminal.Input ∷ rest) x r =
    let made : Bool × List Symbol = (true, rest) in
    subst (λ (y : Bool × List Symbol). Front (quoted (direction y.0)) (symbol.Terminal terminal.Input ∷ rest) y.1 × (0 ≤ limit)) (some_is made x r) (one_front refl, omega arith)
direction_sound limit (symbol.Terminal terminal.Output ∷ rest) x r =
    let made : Bool × List Symbol = (false, rest) in
    subst (λ (y : Bool × List Symbol). Front (quoted (direction y.0)) (symbol.Terminal terminal.Output ∷ rest) y.1 × (0 ≤ limit)) (some_is made x r) (one_front refl, omega arith)
direction_sound limit ts x r = absurd cc

direction_takes : (limit : ℕ) (b : Bool) (ts rest : List Symbol) → Front (quoted (direction b)) ts rest → 0 ≤ limit → Anything rest → direction_in ts ≡ Some (b, rest)
unfolding direction_in
direction_takes limit true ts rest f small may = rw (one_is f) refl
direction_takes limit false ts rest f small may = rw (one_is f) refl

direction_exact : (limit : ℕ) → IsExact (λ b. quoted (direction b)) (λ b. 0) limit direction_in Anything
direction_exact limit = record { sound = direction_sound limit; takes = direction_takes limit }

abbrev MayFollowKind : List Symbol → Type 0
MayFollowKind ts = Without terminal.Reg ts × Without terminal.Wire ts

kind_sound : (limit : ℕ) (ts : List Symbol) (x : Bool × List Symbol) → kind_in ts ≡ Some x → Front (SpellsKind x.0) ts x.1 × (0 ≤ limit)
unfolding kind_in
kind_sound limit (symbol.Terminal terminal.Reg ∷ rest) x r =
    let made : Bool × List Symbol = (true, rest) in
    subst (λ (y : Bool × List Symbol). Front (SpellsKind y.0) (symbol.Terminal terminal.Reg ∷ rest) y.1 × (0 ≤ limit)) (some_is made x r) (one_front refl, omega arith)
kind_sound limit (symbol.Terminal terminal.Wire ∷ rest) x r =
    let made : Bool × List Symbol = (false, rest) in
    let f : Front (quoted terminal.Wire) (symbol.Terminal terminal.Wire ∷ rest) rest = one_front refl in
    subst (λ (y : Bool × List Symbol). Front (SpellsKind y.0) (symbol.Terminal terminal.Wire ∷ rest) y.1 × (0 ≤ limit)) (some_is made x r) (record { text = f.text; parts = f.parts; says = wire f.says }, omega arith)
kind_sound limit ts x r =
    let made : Bool × List Symbol = (false, ts) in
    let f = nothing_front ts in
    subst (λ (y : Bool × List Symbol). Front (SpellsKind y.0) ts y.1 × (0 ≤ limit)) (some_is made x r) (record { text = f.text; parts = f.parts; says = no_kind f.says }, omega arith)

kind_none : (ts : List Symbol) → MayFollowKind ts → kind_in ts ≡ Some (false, ts)
unfolding kind_in
kind_none (symbol.Terminal terminal.Reg ∷ rest) may = absurd (refuted may.0)
  where
    refuted : Some rest ≡ None → ⊥
    refuted e = cc
kind_none (symbol.Terminal terminal.Wire ∷ rest) may = absurd (refuted may.1)
  where
    refuted : Some rest ≡ None → ⊥
    refuted e = cc
kind_none ts may = refl

kind_wire : (text ts rest : List Symbol) → MayBeWire text → ts ≡ text ++ rest → MayFollowKind rest → kind_in ts ≡ Some (false, rest)
unfolding kind_in
kind_wire text ts rest (no_kind p) e may =
    let is : Front Nothing ts rest = record { text = text; parts = e; says = p } in
    rw (nothing_is is) (kind_none rest may)
kind_wire text ts rest (wire p) e may =
    let is : Front (quoted terminal.Wire) ts rest = record { text = text; parts = e; says = p } in
    rw (one_is is) refl

kind_takes : (limit : ℕ) (b : Bool) (ts rest : List Symbol) → Front (SpellsKind b) ts rest → 0 ≤ limit → MayFollowKind rest → kind_in ts ≡ Some (b, rest)
unfolding kind_in
kind_takes limit true ts rest f small may =
    let is : Front (quoted terminal.Reg) ts rest = record { text = f.text; parts = f.parts; says = f.says } in
    rw (one_is is) refl
kind_takes limit false ts rest f small may = kind_wire f.text ts rest f.says f.parts may

kind_exact : (limit : ℕ) → IsExact SpellsKind (λ b. 0) limit kind_in MayFollowKind
kind_exact limit = record { sound = kind_sound limit; takes = kind_takes limit }

-- no name stands behind a comma
abbrev pub EndsNames : List Symbol → Type 0
EndsNames ts = Anything ts × (comma_before_name ts ≡ None)

pub names_exact : (limit : ℕ) → IsExact (Listed named) (tallest (λ n. 0)) limit names_in EndsNames
unfolding names_in
names_exact limit = separated_exact (name_exact limit) (name_separator name_is (λ rest. tt))

-- names are of no height
pub nameless : (limit : ℕ) (names : List Text) → tallest (λ n. 0) names ≤ limit
nameless limit [] = omega arith
nameless limit (n ∷ names) = omega (arith, nameless limit names)

-- what may stand before names with a range, and before that with a sign
range_before_names : (ts : List Symbol) (y : List Text × List Symbol) → names_in ts ≡ Some y → MayFollowRange ts
unfolding names_in separated name_in
range_before_names ts y r = (tt, without terminal.OpenBracket names_in (λ rest. refl) ts y r)

module _ (limit : ℕ) where
  abbrev PortEnd : Type 0
  PortEnd = Option PlainRange × List Text

  abbrev port_end_in : ReaderOf PortEnd
  port_end_in = both (optional terminal.OpenBracket (range_in limit)) names_in

  sign_before_end : (ts : List Symbol) (y : PortEnd × List Symbol) → port_end_in ts ≡ Some y → Without terminal.Signed ts
  unfolding both optional names_in separated name_in
  sign_before_end ts y r = without terminal.Signed port_end_in (λ rest. refl) ts y r

  kind_before_end : (ts : List Symbol) (y : (Bool × PortEnd) × List Symbol) → both (flag terminal.Signed) port_end_in ts ≡ Some y → MayFollowKind ts
  unfolding both flag optional names_in separated name_in
  kind_before_end ts y r = (without terminal.Reg (both (flag terminal.Signed) port_end_in) (λ rest. refl) ts y r, without terminal.Wire (both (flag terminal.Signed) port_end_in) (λ rest. refl) ts y r)

  pub port_decl_exact : IsExact SpellsPortDecl height_of_port_decl limit (port_decl_in limit) EndsNames
  unfolding port_decl_in
  port_decl_exact =
      let ends = both_exact (range_option_exact limit) (names_exact limit) range_before_names in
      let signed = both_exact (flag_exact terminal.Signed limit) ends sign_before_end in
      let kind = both_exact (kind_exact limit) signed kind_before_end in
      let all = both_exact (direction_exact limit) kind (λ ts y r. tt) in
      mapped_exact port_decl_of all (λ x ts p small. (p, omega (arith, small))) (λ d ts p small. ((d.input, (d.reg, (d.signed, (d.range, d.names)))), refl, p, omega (arith, small, nameless limit d.names)))

-- ---- parameters

param_name_begins : (limit : ℕ) (ts : List Symbol) (y : PlainParamName × List Symbol) → param_name_in limit ts ≡ Some y → (n : List ℕ) × (rest : List Symbol) × (ts ≡ symbol.Name n ∷ rest)
unfolding param_name_in
param_name_begins limit ts y r =
    let a = mapped_reads param_name_of _ ts y r in
    let b = both_reads _ _ ts a.0 a.1 in
    name_is ts b.0 b.1

param_name_exact : (limit : ℕ) → IsExact SpellsParamName height_of_param_name limit (param_name_in limit) (Follows 0)
unfolding param_name_in
param_name_exact limit =
    let two = both_exact (name_exact limit) (behind_exact terminal.Equal (expr_exact limit)) (λ ts y r. tt) in
    mapped_exact param_name_of two (λ x ts p small. (p, omega (arith, small))) (λ n ts p small. ((n.name, n.value), refl, p, omega (arith, small)))

abbrev pub EndsParams : List Symbol → Type 0
EndsParams ts = Follows 0 ts × (comma_before_name ts ≡ None)

param_names_exact : (limit : ℕ) → IsExact (Listed SpellsParamName) (tallest height_of_param_name) limit (param_names_in limit) EndsParams
unfolding param_names_in
param_names_exact limit = separated_exact (param_name_exact limit) (name_separator (param_name_begins limit) (λ rest. comma_follows 0))

module _ (local : Bool) (limit : ℕ) where
  abbrev ParamsEnd : Type 0
  ParamsEnd = Option PlainRange × List PlainParamName

  abbrev params_end_in : ReaderOf ParamsEnd
  params_end_in = both (optional terminal.OpenBracket (range_in limit)) (param_names_in limit)

  range_before_params : (ts : List Symbol) (y : List PlainParamName × List Symbol) → param_names_in limit ts ≡ Some y → MayFollowRange ts
  unfolding param_names_in param_name_in separated mapped both name_in
  range_before_params ts y r = (tt, without terminal.OpenBracket (param_names_in limit) (λ rest. refl) ts y r)

  sign_before_params : (ts : List Symbol) (y : ParamsEnd × List Symbol) → params_end_in ts ≡ Some y → Without terminal.Signed ts
  unfolding both optional param_names_in param_name_in separated mapped name_in
  sign_before_params ts y r = without terminal.Signed params_end_in (λ rest. refl) ts y r

  pub param_decl_exact : IsExact (λ d ts. (d.local ≡ local) × SpellsParamDecl d ts) height_of_param_decl limit (param_decl_in local limit) EndsParams
  unfolding param_decl_in
  param_decl_exact =
      let ends = both_exact (range_option_exact limit) (param_names_exact limit) range_before_params in
      let signed = both_exact (flag_exact terminal.Signed limit) ends sign_before_params in
      let all = behind_exact (parameter_word local) signed in
      mapped_exact (param_decl_of local) all (λ x ts p small. ((refl, p), omega (arith, small)))
      (λ d ts p small. (
        (d.signed, (d.range, d.names)),
        ap (λ b. param_decl_of b (d.signed, (d.range, d.names))) (sym p.0),
        subst (λ b. (quoted (parameter_word b) ⊗ Flag terminal.Signed d.signed ⊗ Optional SpellsRange d.range ⊗ Listed SpellsParamName d.names) ts) p.0 p.1,
        omega (arith, small),
      ))

-- ---- nets

abbrev pub EndsNetName : List Symbol → Type 0
EndsNetName ts = Follows 0 ts × Without terminal.Equal ts

reg_value_sound : (limit : ℕ) (ts : List Symbol) (x : Option Tree × List Symbol) → net_value_in true limit ts ≡ Some x → Front (SpellsNetValue true x.0) ts x.1 × (height_if height x.0 ≤ limit)
unfolding net_value_in
reg_value_sound limit ts x r =
    let made : Option Tree × List Symbol = (None, ts) in
    let f = nothing_front ts in
    subst (λ (y : Option Tree × List Symbol). Front (SpellsNetValue true y.0) ts y.1 × (height_if height y.0 ≤ limit)) (some_is made x r) (record { text = f.text; parts = f.parts; says = f.says }, omega arith)

reg_value_takes : (limit : ℕ) (x : Option Tree) (ts rest : List Symbol) → Front (SpellsNetValue true x) ts rest → height_if height x ≤ limit → EndsNetName rest → net_value_in true limit ts ≡ Some (x, rest)
unfolding net_value_in
reg_value_takes limit None ts rest f small may =
    let is : Front Nothing ts rest = record { text = f.text; parts = f.parts; says = f.says } in
    rw (nothing_is is) refl
reg_value_takes limit (Some e) ts rest f small may = absurd f.says

abbrev WireValue : Option Tree → List Symbol → Type 0
WireValue = Optional (λ e. quoted terminal.Equal ⊗ Spells e)

to_wire : (x : Option Tree) (ts : List Symbol) → WireValue x ts → SpellsNetValue false x ts
to_wire None ts p = p
to_wire (Some e) ts p = p

from_wire : (x : Option Tree) (ts : List Symbol) → SpellsNetValue false x ts → WireValue x ts
from_wire None ts p = p
from_wire (Some e) ts p = p

net_value_exact : (reg : Bool) (limit : ℕ) → IsExact (SpellsNetValue reg) (height_if height) limit (net_value_in reg limit) EndsNetName
unfolding net_value_in
net_value_exact true limit = record { sound = reg_value_sound limit; takes = reg_value_takes limit }
net_value_exact false limit = same_exact (optional_exact terminal.Equal (expr_exact limit)) to_wire from_wire

net_name_exact : (reg : Bool) (limit : ℕ) → IsExact (SpellsNetName reg) height_of_net_name limit (net_name_in reg limit) EndsNetName
unfolding net_name_in
net_name_exact reg limit =
    let two = both_exact (name_exact limit) (net_value_exact reg limit) (λ ts y r. tt) in
    mapped_exact net_name_of two (λ x ts p small. (p, omega (arith, small))) (λ n ts p small. ((n.name, n.value), refl, p, omega (arith, small)))

net_names_exact : (reg : Bool) (limit : ℕ) → IsExact (Listed (SpellsNetName reg)) (tallest height_of_net_name) limit (net_names_in reg limit) (λ rest. EndsNetName rest × (comma rest ≡ None))
unfolding net_names_in
net_names_exact reg limit = separated_exact (net_name_exact reg limit) (comma_separator (λ rest y r. (comma_follows 0, refl)))

module _ (reg : Bool) (limit : ℕ) where
  abbrev NetEnd : Type 0
  NetEnd = Option PlainRange × List PlainNetName

  abbrev net_names_end : ReaderOf (List PlainNetName)
  net_names_end = up_to terminal.Semicolon (net_names_in reg limit)

  abbrev net_end_in : ReaderOf NetEnd
  net_end_in = both (optional terminal.OpenBracket (range_in limit)) net_names_end

  ends_at_semicolon : (rest : List Symbol) → EndsNetName (symbol.Terminal terminal.Semicolon ∷ rest) × (comma (symbol.Terminal terminal.Semicolon ∷ rest) ≡ None)
  unfolding comma
  ends_at_semicolon rest = ((semicolon_follows 0, refl), refl)

  range_before_nets : (ts : List Symbol) (y : List PlainNetName × List Symbol) → net_names_end ts ≡ Some y → MayFollowRange ts
  unfolding up_to net_names_in net_name_in separated mapped both name_in
  range_before_nets ts y r = (tt, without terminal.OpenBracket net_names_end (λ rest. refl) ts y r)

  sign_before_nets : (ts : List Symbol) (y : NetEnd × List Symbol) → net_end_in ts ≡ Some y → Without terminal.Signed ts
  unfolding both optional up_to net_names_in net_name_in separated mapped name_in
  sign_before_nets ts y r = without terminal.Signed net_end_in (λ rest. refl) ts y r

  pub net_decl_exact : IsExact (λ d ts. (d.reg ≡ reg) × SpellsNetDecl d ts) height_of_net_decl limit (net_decl_in reg limit) Anything
  unfolding net_decl_in
  net_decl_exact =
      let ends = both_exact (range_option_exact limit) (up_to_exact terminal.Semicolon ends_at_semicolon (net_names_exact reg limit)) range_before_nets in
      let signed = both_exact (flag_exact terminal.Signed limit) ends sign_before_nets in
      let all = behind_exact (net_word reg) signed in
      mapped_exact (net_decl_of reg) all (λ x ts p small. ((refl, p), omega (arith, small)))
      (λ d ts p small. (
        (d.signed, (d.range, d.names)),
        ap (λ b. net_decl_of b (d.signed, (d.range, d.names))) (sym p.0),
        subst (λ b. (quoted (net_word b) ⊗ Flag terminal.Signed d.signed ⊗ Optional SpellsRange d.range ⊗ Listed (SpellsNetName b) d.names ⊗ quoted terminal.Semicolon) ts) p.0 p.1,
        omega (arith, small),
      ))
