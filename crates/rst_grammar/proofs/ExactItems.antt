-- The readers of items are exact.
use Rattle.std.proofs.Common.{◌≡◌, ℕ, ◌≤◌, Bool, true, false, List, [], ◌∷◌, ◌++◌, length, ◌<◌, Some, None, refl, sym, subst, ◌∙◌, arith}
use Rattle.rst_tree.specs.Trees.{Text}
use Rattle.rst_tree.specs.Targets.{height_of_target}
use Rattle.rst_tree.specs.Statements.{height_of}
use Rattle.rst_tree.specs.declared.module.Event.{Event}
use Rattle.rst_tree.specs.declared.module.EdgeKind.{EdgeKind}
use Rattle.rst_tree.specs.declared.module.EdgeKind.TheVariants as edge
use Rattle.rst_tree.specs.Modules.{PlainEvents, Any, OneOf, PlainAlways, PlainParamDecl, PlainItem, Port, Net, Params, Assigns, AlwaysBlock, Instances, tallest, height_of_port_decl, height_of_param_decl, height_of_assign, height_of_item}
use Rattle.rst_grammar.specs.declared.symbol.Terminal.{Terminal}
use Rattle.rst_grammar.specs.declared.symbol.Terminal.TheVariants as terminal
use Rattle.rst_grammar.specs.declared.symbol.Symbol.{Symbol}
use Rattle.rst_grammar.specs.declared.symbol.Symbol.TheVariants as symbol
use Rattle.rst_grammar.specs.Says.{Nothing, ◌⊗◌, quoted, named}
use Rattle.rst_grammar.specs.Targets.{SpellsTarget}
use Rattle.rst_grammar.specs.Statements.{SpellsStmt}
use Rattle.rst_grammar.specs.Productions.{Optional, Flag, Separated, Listed}
use Rattle.rst_grammar.specs.Declarations.{SpellsRange, direction, SpellsKind, SpellsPortDecl, parameter_word, SpellsParamDecl, SpellsParamName, net_word, SpellsNetName, SpellsNetDecl}
use Rattle.rst_grammar.specs.Links.{SpellsParamLinks, SpellsCopied, SpellsInstance}
use Rattle.rst_grammar.specs.Items.{SpellsAssign, SpellsEdge, SpellsEvent, OrComma, or, comma, SpellsAny, star, star_inside, SpellsControl, SpellsEvents, SpellsItem}
use Rattle.rst_grammar.specs.Reading.{◌>>=◌, after}
use Rattle.rst_grammar.specs.ReadStatement.{target_reader, stmt_reader}
use Rattle.rst_grammar.specs.ReadParts.{ReaderOf, name_in, mapped, both, behind, up_to, separated, comma_before_name}
use Rattle.rst_grammar.specs.ReadParts as parts
use Rattle.rst_grammar.specs.ReadDeclarations.{port_decl_in, param_decl_in, net_decl_in}
use Rattle.rst_grammar.specs.ReadItems.{instance_in, assign_of, assign_in, assigns_in, edge_in, event_of, event_in, or_comma, event_list_in, events_in, always_of, always_in, word_item, item_in}
use Rattle.rst_grammar.proofs.Fronts.{Front, split, joined, one_is, one_front, nothing_is, nothing_front}
use Rattle.rst_grammar.proofs.Tools.{bind_some, Follows, comma_follows, semicolon_follows}
use Rattle.rst_grammar.proofs.Sound.{some_is, after_front, quoted_front}
use Rattle.rst_grammar.proofs.TakesTargets.{NoBracket, target_takes}
use Rattle.rst_grammar.proofs.TakesStatements.{NoElse, stmt_takes}
use Rattle.rst_grammar.proofs.SoundTargets.{target_sound}
use Rattle.rst_grammar.proofs.SoundStatements.{stmt_sound}
use Rattle.rst_grammar.proofs.Exact.{IsExact, Anything, Without, without, is_after, no_result, before_behind, name_exact, behind_exact, up_to_exact, both_exact, mapped_exact}
use Rattle.rst_grammar.proofs.ExactLists.{IsSeparator, separated_exact, comma_separator, quoted_shorter}
use Rattle.rst_grammar.proofs.ExactDeclarations.{expr_exact, port_decl_exact, param_decl_exact, net_decl_exact}
use Rattle.rst_grammar.proofs.ExactLinks.{instance_exact}

-- ---- assigns

target_exact : (limit : ℕ) → IsExact SpellsTarget height_of_target limit (target_reader limit) NoBracket
target_exact limit = record {
  sound = λ ts x r. let s = target_sound limit ts x r in (s.front, s.small);
  takes = λ t ts rest f small may. target_takes t ts rest limit f small may;
}

assign_exact : (limit : ℕ) → IsExact SpellsAssign height_of_assign limit (assign_in limit) (Follows 0)
unfolding assign_in
assign_exact limit =
    let two = both_exact (target_exact limit) (behind_exact terminal.Equal (expr_exact limit)) (before_behind NoBracket terminal.Equal _ (λ rest. refl)) in
    mapped_exact assign_of two (λ x ts p small. (p, omega (arith, small))) (λ a ts p small. ((a.target, a.value), refl, p, omega (arith, small)))

assigns_exact : (limit : ℕ) → IsExact (λ as'. quoted terminal.Assign ⊗ Listed SpellsAssign as' ⊗ quoted terminal.Semicolon) (tallest height_of_assign) limit (assigns_in limit) Anything
unfolding assigns_in parts.comma
assigns_exact limit =
    let list = separated_exact (assign_exact limit) (comma_separator (λ rest y r. comma_follows 0)) in
    behind_exact terminal.Assign (up_to_exact terminal.Semicolon (λ rest. (semicolon_follows 0, refl)) list)

-- ---- always blocks

abbrev MayFollowEdge : List Symbol → Type 0
MayFollowEdge ts = Without terminal.Posedge ts × Without terminal.Negedge ts

abbrev EdgeRead : ℕ → List Symbol → EdgeKind × List Symbol → Type 0
EdgeRead limit ts x = Front (SpellsEdge x.0) ts x.1 × (0 ≤ limit)

edge_sound : (limit : ℕ) (ts : List Symbol) (x : EdgeKind × List Symbol) → edge_in ts ≡ Some x → EdgeRead limit ts x
unfolding edge_in
edge_sound limit (symbol.Terminal terminal.Posedge ∷ rest) x r =
    let made : EdgeKind × List Symbol = (edge.Rising, rest) in
    subst (EdgeRead limit (symbol.Terminal terminal.Posedge ∷ rest)) (some_is made x r) (one_front refl, omega arith)
edge_sound limit (symbol.Terminal terminal.Negedge ∷ rest) x r =
    let made : EdgeKind × List Symbol = (edge.Falling, rest) in
    subst (EdgeRead limit (symbol.Terminal terminal.Negedge ∷ rest)) (some_is made x r) (one_front refl, omega arith)
edge_sound limit ts x r =
    let made : EdgeKind × List Symbol = (edge.Level, ts) in
    subst (EdgeRead limit ts) (some_is made x r) (nothing_front ts, omega arith)

edge_none : (ts : List Symbol) → MayFollowEdge ts → edge_in ts ≡ Some (edge.Level, ts)
unfolding edge_in
edge_none (symbol.Terminal terminal.Posedge ∷ rest) may = absurd (no_result rest (sym may.0))
edge_none (symbol.Terminal terminal.Negedge ∷ rest) may = absurd (no_result rest (sym may.1))
edge_none ts may = refl

edge_takes : (limit : ℕ) (x : EdgeKind) (ts rest : List Symbol) → Front (SpellsEdge x) ts rest → 0 ≤ limit → MayFollowEdge rest → edge_in ts ≡ Some (x, rest)
unfolding edge_in
edge_takes limit edge.Level ts rest f small may =
    let is : Front Nothing ts rest = record { text = f.text; parts = f.parts; says = f.says } in
    rw (nothing_is is) (edge_none rest may)
edge_takes limit edge.Rising ts rest f small may =
    let is : Front (quoted terminal.Posedge) ts rest = record { text = f.text; parts = f.parts; says = f.says } in
    rw (one_is is) refl
edge_takes limit edge.Falling ts rest f small may =
    let is : Front (quoted terminal.Negedge) ts rest = record { text = f.text; parts = f.parts; says = f.says } in
    rw (one_is is) refl

edge_exact : (limit : ℕ) → IsExact SpellsEdge (λ e. 0) limit edge_in MayFollowEdge
edge_exact limit = record { sound = edge_sound limit; takes = edge_takes limit }

edge_before_name : (ts : List Symbol) (y : Text × List Symbol) → name_in ts ≡ Some y → MayFollowEdge ts
unfolding name_in
edge_before_name ts y r = (without terminal.Posedge name_in (λ rest. refl) ts y r, without terminal.Negedge name_in (λ rest. refl) ts y r)

event_exact : (limit : ℕ) → IsExact SpellsEvent (λ e. 0) limit event_in Anything
unfolding event_in
event_exact limit =
    let two = both_exact (edge_exact limit) (name_exact limit) edge_before_name in
    mapped_exact event_of two (λ x ts p small. (p, omega arith)) (λ e ts p small. ((e.edge, e.name), refl, p, omega arith))

or_comma_sound : (ts rest : List Symbol) → or_comma ts ≡ Some rest → Front OrComma ts rest
unfolding or_comma
or_comma_sound (symbol.Terminal terminal.Or ∷ m) rest e =
    let f = quoted_front terminal.Or m in
    subst (Front OrComma (symbol.Terminal terminal.Or ∷ m)) (some_is m rest e) (record { text = f.text; parts = f.parts; says = or f.says })
or_comma_sound (symbol.Terminal terminal.Comma ∷ m) rest e =
    let f = quoted_front terminal.Comma m in
    subst (Front OrComma (symbol.Terminal terminal.Comma ∷ m)) (some_is m rest e) (record { text = f.text; parts = f.parts; says = comma f.says })
or_comma_sound ts rest e = absurd cc

or_comma_takes : (text ts rest : List Symbol) → OrComma text → ts ≡ text ++ rest → or_comma ts ≡ Some rest
unfolding or_comma
or_comma_takes text ts rest (or p) e =
    let is : Front (quoted terminal.Or) ts rest = record { text = text; parts = e; says = p } in
    rw (one_is is) refl
or_comma_takes text ts rest (comma p) e =
    let is : Front (quoted terminal.Comma) ts rest = record { text = text; parts = e; says = p } in
    rw (one_is is) refl

or_comma_shorter : (text ts rest : List Symbol) → OrComma text → ts ≡ text ++ rest → length rest < length ts
or_comma_shorter text ts rest (or p) e = quoted_shorter terminal.Or ts rest (record { text = text; parts = e; says = p })
or_comma_shorter text ts rest (comma p) e = quoted_shorter terminal.Comma ts rest (record { text = text; parts = e; says = p })

or_comma_separator : IsSeparator OrComma or_comma event_in Anything
or_comma_separator = record {
  sound = or_comma_sound;
  takes = λ ts rest y f r. or_comma_takes f.text ts rest f.says f.parts;
  before = λ ts rest y n r. tt;
  shorter = λ ts rest f. or_comma_shorter f.text ts rest f.says f.parts;
}

list_in : ReaderOf (List Event)
list_in = up_to terminal.CloseParen (separated or_comma event_in)

list_exact : (limit : ℕ) → IsExact (λ es. Separated OrComma SpellsEvent es ⊗ quoted terminal.CloseParen) (tallest (λ e. 0)) limit list_in Anything
unfolding list_in or_comma
list_exact limit = up_to_exact terminal.CloseParen (λ rest. (tt, refl)) (separated_exact (event_exact limit) or_comma_separator)

no_star : (rest : List Symbol) → list_in (symbol.Terminal terminal.Star ∷ rest) ≡ None
unfolding list_in up_to separated event_in mapped both edge_in name_in
no_star rest = refl

abbrev ControlRead : List Symbol → PlainEvents × List Symbol → Type 0
ControlRead ts x = Front (SpellsControl x.0) ts x.1

-- behind "("
abbrev InsideRead : List Symbol → PlainEvents × List Symbol → Type 0
InsideRead m x = ControlRead (symbol.Terminal terminal.OpenParen ∷ m) x

star_read : (rest : List Symbol) (x : PlainEvents × List Symbol) → ◌>>=◌ {B = PlainEvents × List Symbol} (after terminal.CloseParen rest) (λ outside. Some (Any, outside)) ≡ Some x → InsideRead (symbol.Terminal terminal.Star ∷ rest) x
star_read rest x r =
    let a = bind_some (after terminal.CloseParen rest) (λ outside. Some (Any, outside)) x r in
    let f = joined (quoted_front terminal.OpenParen (symbol.Terminal terminal.Star ∷ rest)) (joined (quoted_front terminal.Star rest) (after_front terminal.CloseParen rest a.0 a.1)) in
    let made : PlainEvents × List Symbol = (Any, a.0) in
    subst (InsideRead (symbol.Terminal terminal.Star ∷ rest)) (some_is made x a.2) (record { text = f.text; parts = f.parts; says = star_inside f.says })

list_read : (m : List Symbol) (x : PlainEvents × List Symbol) → mapped OneOf (up_to terminal.CloseParen (separated or_comma event_in)) m ≡ Some x → InsideRead m x
unfolding mapped list_in
list_read m x r =
    let a = bind_some (list_in m) (λ y. Some (OneOf y.0, y.1)) x r in
    let inner = (list_exact 0).sound m a.0 a.1 in
    let f = joined (quoted_front terminal.OpenParen m) inner.0 in
    let made : PlainEvents × List Symbol = (OneOf a.0.0, a.0.1) in
    subst (InsideRead m) (some_is made x a.2) (record { text = f.text; parts = f.parts; says = f.says })

inside_sound : (m : List Symbol) (x : PlainEvents × List Symbol) → event_list_in m ≡ Some x → InsideRead m x
unfolding event_list_in
inside_sound (symbol.Terminal terminal.Star ∷ rest) x r = star_read rest x r
inside_sound m x r = list_read m x r

control_sound : (ts : List Symbol) (x : PlainEvents × List Symbol) → events_in ts ≡ Some x → ControlRead ts x
unfolding events_in
control_sound (symbol.Terminal terminal.Star ∷ rest) x r =
    let made : PlainEvents × List Symbol = (Any, rest) in
    let f = quoted_front terminal.Star rest in
    subst (ControlRead (symbol.Terminal terminal.Star ∷ rest)) (some_is made x r) (record { text = f.text; parts = f.parts; says = star f.says })
control_sound (symbol.Terminal terminal.OpenParen ∷ rest) x r = inside_sound rest x r
control_sound ts x r = absurd cc

any_takes : (text ts rest : List Symbol) → SpellsAny text → ts ≡ text ++ rest → events_in ts ≡ Some (Any, rest)
unfolding events_in event_list_in
any_takes text ts rest (star p) e =
    let is : Front (quoted terminal.Star) ts rest = record { text = text; parts = e; says = p } in
    rw (one_is is) refl
any_takes text ts rest (star_inside p) e =
    let f : Front (quoted terminal.OpenParen ⊗ quoted terminal.Star ⊗ quoted terminal.CloseParen) ts rest = record { text = text; parts = e; says = p } in
    let a = split f in
    let b = split a.right in
    rw (one_is a.left, one_is b.left, is_after terminal.CloseParen b.mid rest (one_is b.right)) refl

list_next : (m : List Symbol) → Without terminal.Star m → event_list_in m ≡ mapped OneOf (up_to terminal.CloseParen (separated or_comma event_in)) m
unfolding event_list_in
list_next (symbol.Terminal terminal.Star ∷ rest) starless = absurd (no_result rest (sym starless))
list_next m starless = refl

control_takes : (limit : ℕ) (x : PlainEvents) (ts rest : List Symbol) → Front (SpellsControl x) ts rest → 0 ≤ limit → Anything rest → events_in ts ≡ Some (x, rest)
unfolding events_in mapped list_in
control_takes limit Any ts rest f small may = any_takes f.text ts rest f.says f.parts
control_takes limit (OneOf es) ts rest f small may =
    let g : Front (quoted terminal.OpenParen ⊗ Separated OrComma SpellsEvent es ⊗ quoted terminal.CloseParen) ts rest = record { text = f.text; parts = f.parts; says = f.says } in
    let a = split {P = quoted terminal.OpenParen} {Q = Separated OrComma SpellsEvent es ⊗ quoted terminal.CloseParen} g in
    let read : list_in a.mid ≡ Some (es, rest) = (list_exact (tallest (λ e. 0) es)).takes es a.mid rest a.right (omega arith) tt in
    rw (one_is a.left) (list_next a.mid (without terminal.Star list_in no_star a.mid (es, rest) read) ∙ rw read refl)

control_exact : (limit : ℕ) → IsExact SpellsControl (λ e. 0) limit events_in Anything
control_exact limit = record { sound = λ ts x r. (control_sound ts x r, omega arith); takes = control_takes limit }

stmt_exact : (limit : ℕ) → IsExact SpellsStmt height_of limit (stmt_reader limit) NoElse
stmt_exact limit = record {
  sound = λ ts x r. let s = stmt_sound limit ts x r in (s.front, s.small);
  takes = λ s ts rest f small may. stmt_takes s ts rest limit f small (λ open'. may);
}

always_exact : (limit : ℕ) → IsExact (λ a. quoted terminal.Always ⊗ SpellsEvents a.events ⊗ SpellsStmt a.body) (λ a. height_of a.body) limit (always_in limit) NoElse
unfolding always_in
always_exact limit =
    let two = both_exact (behind_exact terminal.At (control_exact limit)) (stmt_exact limit) (λ ts y r. tt) in
    let made = mapped_exact {Q = λ (a : PlainAlways). SpellsEvents a.events ⊗ SpellsStmt a.body} {n = λ (a : PlainAlways). height_of a.body} always_of two (λ x ts p small. (p, omega (arith, small))) (λ a ts p small. ((a.events, a.body), refl, p, omega (arith, small))) in
    behind_exact terminal.Always made

-- ---- each item

module _ (limit : ℕ) where
  abbrev ItemRead : List Symbol → PlainItem × List Symbol → Type 0
  ItemRead ts x = Front (SpellsItem x.0) ts x.1 × (height_of_item x.0 ≤ limit)

  port_item_exact : IsExact (λ d. SpellsPortDecl d ⊗ quoted terminal.Semicolon) height_of_port_decl limit (up_to terminal.Semicolon (port_decl_in limit)) Anything
  unfolding comma_before_name
  port_item_exact = up_to_exact terminal.Semicolon (λ rest. (tt, refl)) (port_decl_exact limit)

  -- a declaration of parameters, local or not
  abbrev LocalDecl : Bool → PlainParamDecl → List Symbol → Type 0
  LocalDecl local d ts = (d.local ≡ local) × SpellsParamDecl d ts

  params_item_exact : (local : Bool) → IsExact (λ d. LocalDecl local d ⊗ quoted terminal.Semicolon) height_of_param_decl limit (up_to terminal.Semicolon (param_decl_in local limit)) Anything
  unfolding comma_before_name
  params_item_exact local = up_to_exact terminal.Semicolon (λ rest. (semicolon_follows 0, refl)) (param_decl_exact local limit)

  params_said : (local : Bool) (d : PlainParamDecl) (ts : List Symbol) → (LocalDecl local d ⊗ quoted terminal.Semicolon) ts → (SpellsParamDecl d ⊗ quoted terminal.Semicolon) ts
  params_said local d ts p = record { first = p.first; second = p.second; parts = p.parts; left = p.left.1; right = p.right }

  -- an item of one kind
  variant : {A : Type 0} {P : A → List Symbol → Type 0} {size : A → ℕ} {one : ReaderOf A} {May : List Symbol → Type 0} (make : A → PlainItem) → IsExact P size limit one May
      → ((a : A) (ts : List Symbol) → P a ts → SpellsItem (make a) ts) → ((a : A) → size a ≤ limit → height_of_item (make a) ≤ limit) → (ts : List Symbol) (x : PlainItem × List Symbol) → mapped make one ts ≡ Some x → ItemRead ts x
  unfolding mapped
  variant {one = one} make e says low ts x r =
      let a = bind_some (one ts) (λ y. Some (make y.0, y.1)) x r in
      let inner = e.sound ts a.0 a.1 in
      let made : PlainItem × List Symbol = (make a.0.0, a.0.1) in
      subst (ItemRead ts) (some_is made x a.2) (record { text = inner.0.text; parts = inner.0.parts; says = says a.0.0 inner.0.text inner.0.says }, low a.0.0 inner.1)

  word_sound : (t : Terminal) (ts : List Symbol) (x : PlainItem × List Symbol) → word_item t limit ts ≡ Some x → ItemRead ts x
  unfolding word_item
  word_sound terminal.Input ts x r = variant Port port_item_exact (λ d ts p. p) (λ d small. small) ts x r
  word_sound terminal.Output ts x r = variant Port port_item_exact (λ d ts p. p) (λ d small. small) ts x r
  word_sound terminal.Wire ts x r = variant Net (net_decl_exact false limit) (λ d ts p. p.1) (λ d small. small) ts x r
  word_sound terminal.Reg ts x r = variant Net (net_decl_exact true limit) (λ d ts p. p.1) (λ d small. small) ts x r
  word_sound terminal.Parameter ts x r = variant Params (params_item_exact false) (params_said false) (λ d small. small) ts x r
  word_sound terminal.Localparam ts x r = variant Params (params_item_exact true) (params_said true) (λ d small. small) ts x r
  word_sound terminal.Assign ts x r = variant Assigns (assigns_exact limit) (λ as' ts p. p) (λ as' small. small) ts x r
  word_sound terminal.Always ts x r = variant AlwaysBlock (always_exact limit) (λ a ts p. p) (λ a small. small) ts x r
  word_sound t ts x r = absurd cc

  item_sound : (ts : List Symbol) (x : PlainItem × List Symbol) → item_in limit ts ≡ Some x → ItemRead ts x
  unfolding item_in
  item_sound [] x r = absurd cc
  item_sound (symbol.Name n ∷ rest) x r = variant Instances (instance_exact limit) (λ i ts p. p) (λ i small. small) (symbol.Name n ∷ rest) x r
  item_sound (symbol.Number n ∷ rest) x r = absurd cc
  item_sound (symbol.Terminal t ∷ rest) x r = word_sound t (symbol.Terminal t ∷ rest) x r

  -- an item is read where its kind is told by its first symbol
  made_item : {A : Type 0} (make : A → PlainItem) (one : ReaderOf A) (a : A) (ts rest : List Symbol) → item_in limit ts ≡ mapped make one ts → one ts ≡ Some (a, rest) → item_in limit ts ≡ Some (make a, rest)
  unfolding mapped
  made_item make one a ts rest told read = told ∙ rw read refl

  port_told : (input : Bool) (ts m : List Symbol) → ts ≡ symbol.Terminal (direction input) ∷ m → item_in limit ts ≡ mapped Port (up_to terminal.Semicolon (port_decl_in limit)) ts
  unfolding item_in word_item
  port_told true ts m e = rw e refl
  port_told false ts m e = rw e refl

  net_told : (reg : Bool) (ts m : List Symbol) → ts ≡ symbol.Terminal (net_word reg) ∷ m → item_in limit ts ≡ mapped Net (net_decl_in reg limit) ts
  unfolding item_in word_item
  net_told true ts m e = rw e refl
  net_told false ts m e = rw e refl

  params_told : (local : Bool) (ts m : List Symbol) → ts ≡ symbol.Terminal (parameter_word local) ∷ m → item_in limit ts ≡ mapped Params (up_to terminal.Semicolon (param_decl_in local limit)) ts
  unfolding item_in word_item
  params_told true ts m e = rw e refl
  params_told false ts m e = rw e refl

  assign_told : (ts m : List Symbol) → ts ≡ symbol.Terminal terminal.Assign ∷ m → item_in limit ts ≡ mapped Assigns (assigns_in limit) ts
  unfolding item_in word_item
  assign_told ts m e = rw e refl

  always_told : (ts m : List Symbol) → ts ≡ symbol.Terminal terminal.Always ∷ m → item_in limit ts ≡ mapped AlwaysBlock (always_in limit) ts
  unfolding item_in word_item
  always_told ts m e = rw e refl

  instance_told : (n : Text) (ts m : List Symbol) → ts ≡ symbol.Name n ∷ m → item_in limit ts ≡ mapped Instances (instance_in limit) ts
  unfolding item_in
  instance_told n ts m e = rw e refl

  item_takes : (x : PlainItem) (ts rest : List Symbol) → Front (SpellsItem x) ts rest → height_of_item x ≤ limit → NoElse rest → item_in limit ts ≡ Some (x, rest)
  item_takes (Port d) ts rest f small may =
      let g : Front (SpellsPortDecl d ⊗ quoted terminal.Semicolon) ts rest = record { text = f.text; parts = f.parts; says = f.says } in
      let a = split {P = SpellsPortDecl d} {Q = quoted terminal.Semicolon} g in
      let b = split {P = quoted (direction d.input)} {Q = SpellsKind d.reg ⊗ Flag terminal.Signed d.signed ⊗ Optional SpellsRange d.range ⊗ Listed named d.names} a.left in
      made_item Port _ d ts rest (port_told d.input ts b.mid (one_is b.left)) (port_item_exact.takes d ts rest g small tt)
  item_takes (Net d) ts rest f small may =
      let g : Front (SpellsNetDecl d) ts rest = record { text = f.text; parts = f.parts; says = f.says } in
      let b = split {P = quoted (net_word d.reg)} {Q = Flag terminal.Signed d.signed ⊗ Optional SpellsRange d.range ⊗ Listed (SpellsNetName d.reg) d.names ⊗ quoted terminal.Semicolon} g in
      let read = (net_decl_exact d.reg limit).takes d ts rest (record { text = f.text; parts = f.parts; says = (refl, f.says) }) small tt in
      made_item Net _ d ts rest (net_told d.reg ts b.mid (one_is b.left)) read
  item_takes (Params d) ts rest f small may =
      let says : (LocalDecl d.local d ⊗ quoted terminal.Semicolon) f.text = record { first = f.says.first; second = f.says.second; parts = f.says.parts; left = (refl, f.says.left); right = f.says.right } in
      let g : Front (SpellsParamDecl d ⊗ quoted terminal.Semicolon) ts rest = record { text = f.text; parts = f.parts; says = f.says } in
      let a = split {P = SpellsParamDecl d} {Q = quoted terminal.Semicolon} g in
      let b = split {P = quoted (parameter_word d.local)} {Q = Flag terminal.Signed d.signed ⊗ Optional SpellsRange d.range ⊗ Listed SpellsParamName d.names} a.left in
      made_item Params _ d ts rest (params_told d.local ts b.mid (one_is b.left)) ((params_item_exact d.local).takes d ts rest (record { text = f.text; parts = f.parts; says = says }) small tt)
  item_takes (Assigns as') ts rest f small may =
      let g : Front (quoted terminal.Assign ⊗ Listed SpellsAssign as' ⊗ quoted terminal.Semicolon) ts rest = record { text = f.text; parts = f.parts; says = f.says } in
      let b = split {P = quoted terminal.Assign} {Q = Listed SpellsAssign as' ⊗ quoted terminal.Semicolon} g in
      made_item Assigns _ as' ts rest (assign_told ts b.mid (one_is b.left)) ((assigns_exact limit).takes as' ts rest g small tt)
  item_takes (AlwaysBlock x) ts rest f small may =
      let g : Front (quoted terminal.Always ⊗ SpellsEvents x.events ⊗ SpellsStmt x.body) ts rest = record { text = f.text; parts = f.parts; says = f.says } in
      let b = split {P = quoted terminal.Always} {Q = SpellsEvents x.events ⊗ SpellsStmt x.body} g in
      made_item AlwaysBlock _ x ts rest (always_told ts b.mid (one_is b.left)) ((always_exact limit).takes x ts rest g small may)
  item_takes (Instances i) ts rest f small may =
      let g : Front (SpellsInstance i) ts rest = record { text = f.text; parts = f.parts; says = f.says } in
      let b = split {P = named i.of_module} {Q = SpellsParamLinks i.params ⊗ Listed SpellsCopied i.copies ⊗ quoted terminal.Semicolon} g in
      made_item Instances _ i ts rest (instance_told i.of_module ts b.mid (one_is b.left)) ((instance_exact limit).takes i ts rest g small tt)

  pub item_exact : IsExact SpellsItem height_of_item limit (item_in limit) NoElse
  item_exact = record { sound = item_sound; takes = item_takes }
