-- The reader of modules is exact, so that a list of symbols has at most one module.
use Rattle.std.proofs.Common.{◌≡◌, ◌↔◌, ℕ, ◌+◌, ◌≤◌, Bool, true, false, List, [], ◌∷◌, ◌++◌, Option, Some, None, refl, sym, ap, subst, ◌∙◌, arith}
use Rattle.rst_tree.specs.Trees.{Text}
use Rattle.rst_tree.specs.Modules.{PlainParamDecl, PlainPortDecl, PlainHeader, Plain, Full, PlainItem, PlainModule, tallest, height_of_param_decl, height_of_port_decl, height_of_header, height_of_item, height_of_module}
use Rattle.rst_grammar.specs.declared.symbol.Terminal.TheVariants as terminal
use Rattle.rst_grammar.specs.declared.symbol.Symbol.{Symbol}
use Rattle.rst_grammar.specs.declared.symbol.Symbol.TheVariants as symbol
use Rattle.rst_grammar.specs.Says.{Nothing, ◌⊗◌, quoted, named}
use Rattle.rst_grammar.specs.Productions.{Optional, Flag, Repeated, MoreSeparated, Listed}
use Rattle.rst_grammar.specs.Declarations.{SpellsRange, direction, SpellsKind, SpellsPortDecl}
use Rattle.rst_grammar.specs.Items.{SpellsItem}
use Rattle.rst_grammar.specs.Modules.{SpellsGroup, SpellsHeaderParams, NoPorts, no_parens, empty_parens, SpellsHeader, SpellsModule}
use Rattle.rst_grammar.specs.Reading.{cases, after}
use Rattle.rst_grammar.specs.ReadParts.{ReaderOf, mapped, both, behind, up_to, separated, comma, comma_before_name}
use Rattle.rst_grammar.specs.ReadDeclarations.{direction_in, names_in, port_decl_in, param_decl_in}
use Rattle.rst_grammar.specs.ReadItems.{word_item, item_in}
use Rattle.rst_grammar.specs.ReadModule.{groups_in, header_params_in, ports_in, header_in, items_in, module_of, module_reader}
use Rattle.rst_grammar.proofs.Fronts.{Front, split, joined, one_is, nothing_is, nothing_front, whole, whole_of}
use Rattle.rst_grammar.proofs.Tools.{bind_some, comma_follows, close_follows}
use Rattle.rst_grammar.proofs.Sound.{some_is, after_front, quoted_front}
use Rattle.rst_grammar.proofs.Exact.{IsExact, Anything, Without, without, is_after, no_result, before_behind, behind_is, name_exact, behind_exact, up_to_exact, both_exact, mapped_exact, mapped_reads}
use Rattle.rst_grammar.proofs.ExactLists.{separated_exact, comma_separator, until_exact}
use Rattle.rst_grammar.proofs.ExactDeclarations.{EndsNames, names_exact, nameless, port_decl_exact, EndsParams, param_decl_exact}
use Rattle.rst_grammar.proofs.ExactItems.{item_exact}

-- ---- the parameters of a header

module _ (limit : ℕ) where
  -- a group begins with "parameter", so a comma before it ends no list of values
  group_before : (rest : List Symbol) (y : PlainParamDecl × List Symbol) → param_decl_in false limit rest ≡ Some y → EndsParams (symbol.Terminal terminal.Comma ∷ rest)
  unfolding param_decl_in comma_before_name
  group_before rest y r =
      let a = mapped_reads _ _ rest y r in
      let b = behind_is terminal.Parameter _ rest a.0 a.1 in
      (comma_follows 0, ap (λ m. comma_before_name (symbol.Terminal terminal.Comma ∷ m)) b.1)

  groups_exact : IsExact (Listed SpellsGroup) (tallest height_of_param_decl) limit (groups_in limit) (λ rest. EndsParams rest × (comma rest ≡ None))
  unfolding groups_in
  groups_exact = separated_exact (param_decl_exact false limit) (comma_separator group_before)

  abbrev Inside : List PlainParamDecl → List Symbol → Type 0
  Inside groups = quoted terminal.OpenParen ⊗ Listed SpellsGroup groups ⊗ quoted terminal.CloseParen

  inside_exact : IsExact Inside (tallest height_of_param_decl) limit (behind terminal.OpenParen (up_to terminal.CloseParen (groups_in limit))) Anything
  unfolding comma comma_before_name
  inside_exact = behind_exact terminal.OpenParen (up_to_exact terminal.CloseParen (λ rest. ((close_follows 0, refl), refl)) groups_exact)

  abbrev ParamsRead : List Symbol → List PlainParamDecl × List Symbol → Type 0
  ParamsRead ts x = Front (SpellsHeaderParams x.0) ts x.1 × (tallest height_of_param_decl x.0 ≤ limit)

  -- behind "#(" there is a group
  some_groups : (groups : List PlainParamDecl) (ts : List Symbol) → (quoted terminal.Hash ⊗ Inside groups) ts → SpellsHeaderParams groups ts
  some_groups [] ts p = absurd p.right.right.left
  some_groups (d ∷ groups) ts p = p

  params_found : (ts : List Symbol) (x : List PlainParamDecl × List Symbol) (o : Option (List Symbol)) → after terminal.Hash ts ≡ o → cases o (Some ([], ts)) (λ rest. behind terminal.OpenParen (up_to terminal.CloseParen (groups_in limit)) rest) ≡ Some x → ParamsRead ts x
  params_found ts x None is r =
      let made : List PlainParamDecl × List Symbol = ([], ts) in
      let f = nothing_front ts in
      subst (ParamsRead ts) (some_is made x r) (record { text = f.text; parts = f.parts; says = f.says }, omega arith)
  params_found ts x (Some rest) is r =
      let inner = inside_exact.sound rest x r in
      let f : Front (quoted terminal.Hash ⊗ Inside x.0) ts x.1 = joined (after_front terminal.Hash ts rest is) inner.0 in
      (record { text = f.text; parts = f.parts; says = some_groups x.0 f.text f.says }, inner.1)

  params_sound : (ts : List Symbol) (x : List PlainParamDecl × List Symbol) → header_params_in limit ts ≡ Some x → ParamsRead ts x
  unfolding header_params_in
  params_sound ts x r = params_found ts x (after terminal.Hash ts) refl r

  params_taken : (x : List PlainParamDecl) (ts rest : List Symbol) → Front (SpellsHeaderParams x) ts rest → tallest height_of_param_decl x ≤ limit → Without terminal.Hash rest → header_params_in limit ts ≡ Some (x, rest)
  unfolding header_params_in
  params_taken [] ts rest f small may =
      let is : Front Nothing ts rest = record { text = f.text; parts = f.parts; says = f.says } in
      rw (nothing_is is, may) refl
  params_taken (d ∷ groups) ts rest f small may =
      let g : Front (quoted terminal.Hash ⊗ Inside (d ∷ groups)) ts rest = record { text = f.text; parts = f.parts; says = f.says } in
      let a = split {P = quoted terminal.Hash} {Q = Inside (d ∷ groups)} g in
      rw (is_after terminal.Hash ts a.mid (one_is a.left)) (inside_exact.takes (d ∷ groups) a.mid rest a.right small tt)

  header_params_exact : IsExact SpellsHeaderParams (tallest height_of_param_decl) limit (header_params_in limit) (Without terminal.Hash)
  header_params_exact = record { sound = params_sound; takes = params_taken }

-- ---- the ports of a header

module _ (limit : ℕ) where
  -- a port declaration begins with its direction, so a comma before it ends no list of names
  name_refused : (n : Text) (rest : List Symbol) → port_decl_in limit (symbol.Name n ∷ rest) ≡ None
  unfolding port_decl_in mapped both direction_in
  name_refused n rest = refl

  port_before : (rest : List Symbol) (y : PlainPortDecl × List Symbol) → port_decl_in limit rest ≡ Some y → EndsNames (symbol.Terminal terminal.Comma ∷ rest)
  unfolding comma_before_name
  port_before [] y r = (tt, refl)
  port_before (symbol.Name n ∷ rest) y r = absurd (no_result y (sym (name_refused n rest) ∙ r))
  port_before (symbol.Number n ∷ rest) y r = (tt, refl)
  port_before (symbol.Terminal t ∷ rest) y r = (tt, refl)

  names_end : ReaderOf (List Text)
  names_end = up_to terminal.CloseParen names_in

  names_end_exact : IsExact (λ ns. Listed named ns ⊗ quoted terminal.CloseParen) (tallest (λ n. 0)) limit names_end Anything
  unfolding names_end comma_before_name
  names_end_exact = up_to_exact terminal.CloseParen (λ rest. (tt, refl)) (names_exact limit)

  decls_end : ReaderOf (List PlainPortDecl)
  decls_end = up_to terminal.CloseParen (separated comma (port_decl_in limit))

  decls_end_exact : IsExact (λ ds. Listed SpellsPortDecl ds ⊗ quoted terminal.CloseParen) (tallest height_of_port_decl) limit decls_end Anything
  unfolding decls_end comma comma_before_name
  decls_end_exact = up_to_exact terminal.CloseParen (λ rest. ((tt, refl), refl)) (separated_exact (port_decl_exact limit) (comma_separator port_before))

  abbrev HeaderRead : List Symbol → PlainHeader × List Symbol → Type 0
  HeaderRead ts x = Front (SpellsHeader x.0) ts x.1 × (height_of_header x.0 ≤ limit)

  -- behind "("
  abbrev PortsRead : List Symbol → PlainHeader × List Symbol → Type 0
  PortsRead m x = HeaderRead (symbol.Terminal terminal.OpenParen ∷ m) x

  empty_read : (rest : List Symbol) (x : PlainHeader × List Symbol) → Some (Plain [], rest) ≡ Some x → PortsRead (symbol.Terminal terminal.CloseParen ∷ rest) x
  empty_read rest x r =
      let made : PlainHeader × List Symbol = (Plain [], rest) in
      let f = joined (quoted_front terminal.OpenParen (symbol.Terminal terminal.CloseParen ∷ rest)) (quoted_front terminal.CloseParen rest) in
      subst (PortsRead (symbol.Terminal terminal.CloseParen ∷ rest)) (some_is made x r) (record { text = f.text; parts = f.parts; says = empty_parens f.says }, omega arith)

  plain_front : (ns : List Text) (m rest : List Symbol) → Front (Listed named ns ⊗ quoted terminal.CloseParen) m rest → Front (SpellsHeader (Plain ns)) (symbol.Terminal terminal.OpenParen ∷ m) rest
  plain_front [] m rest f = absurd f.says.left
  plain_front (n ∷ ns) m rest f =
      let g : Front (quoted terminal.OpenParen ⊗ Listed named (n ∷ ns) ⊗ quoted terminal.CloseParen) (symbol.Terminal terminal.OpenParen ∷ m) rest = joined (quoted_front terminal.OpenParen m) f in
      record { text = g.text; parts = g.parts; says = g.says }

  names_read : (m : List Symbol) (x : PlainHeader × List Symbol) → mapped Plain (up_to terminal.CloseParen names_in) m ≡ Some x → PortsRead m x
  unfolding mapped names_end
  names_read m x r =
      let a = bind_some (names_end m) (λ y. Some (Plain y.0, y.1)) x r in
      let inner = names_end_exact.sound m a.0 a.1 in
      let made : PlainHeader × List Symbol = (Plain a.0.0, a.0.1) in
      subst (PortsRead m) (some_is made x a.2) (plain_front a.0.0 m a.0.1 inner.0, omega arith)

  decls_read : (m : List Symbol) (x : PlainHeader × List Symbol) → mapped Full (up_to terminal.CloseParen (separated comma (port_decl_in limit))) m ≡ Some x → PortsRead m x
  unfolding mapped decls_end
  decls_read m x r =
      let a = bind_some (decls_end m) (λ y. Some (Full y.0, y.1)) x r in
      let inner = decls_end_exact.sound m a.0 a.1 in
      let f = joined (quoted_front terminal.OpenParen m) inner.0 in
      let made : PlainHeader × List Symbol = (Full a.0.0, a.0.1) in
      subst (PortsRead m) (some_is made x a.2) (record { text = f.text; parts = f.parts; says = f.says }, inner.1)

  ports_sound : (m : List Symbol) (x : PlainHeader × List Symbol) → ports_in limit m ≡ Some x → PortsRead m x
  unfolding ports_in
  ports_sound (symbol.Terminal terminal.CloseParen ∷ rest) x r = empty_read rest x r
  ports_sound (symbol.Name n ∷ rest) x r = names_read (symbol.Name n ∷ rest) x r
  ports_sound m x r = decls_read m x r

  header_found : (ts : List Symbol) (x : PlainHeader × List Symbol) (o : Option (List Symbol)) → after terminal.OpenParen ts ≡ o → cases o (Some (Plain [], ts)) (λ rest. ports_in limit rest) ≡ Some x → HeaderRead ts x
  header_found ts x None is r =
      let made : PlainHeader × List Symbol = (Plain [], ts) in
      let f = nothing_front ts in
      subst (HeaderRead ts) (some_is made x r) (record { text = f.text; parts = f.parts; says = no_parens f.says }, omega arith)
  header_found ts x (Some rest) is r = subst (λ m. HeaderRead m x) (sym (one_is (after_front terminal.OpenParen ts rest is))) (ports_sound rest x r)

  header_sound : (ts : List Symbol) (x : PlainHeader × List Symbol) → header_in limit ts ≡ Some x → HeaderRead ts x
  unfolding header_in
  header_sound ts x r = header_found ts x (after terminal.OpenParen ts) refl r

  in_parens : (x : PlainHeader) (ts m rest : List Symbol) → ts ≡ symbol.Terminal terminal.OpenParen ∷ m → ports_in limit m ≡ Some (x, rest) → header_in limit ts ≡ Some (x, rest)
  unfolding header_in
  in_parens x ts m rest e r = rw (e, r) refl

  no_ports_taken : (text ts rest : List Symbol) → NoPorts text → ts ≡ text ++ rest → Without terminal.OpenParen rest → header_in limit ts ≡ Some (Plain [], rest)
  unfolding header_in ports_in
  no_ports_taken text ts rest (no_parens p) parts may =
      let is : Front Nothing ts rest = record { text = text; parts = parts; says = p } in
      rw (nothing_is is, may) refl
  no_ports_taken text ts rest (empty_parens p) parts may =
      let f : Front (quoted terminal.OpenParen ⊗ quoted terminal.CloseParen) ts rest = record { text = text; parts = parts; says = p } in
      let a = split f in
      rw (one_is a.left, one_is a.right) refl

  names_next : (n : Text) (m k : List Symbol) → m ≡ symbol.Name n ∷ k → ports_in limit m ≡ mapped Plain (up_to terminal.CloseParen names_in) m
  unfolding ports_in
  names_next n m k e = rw e refl

  decls_next : (input : Bool) (m k : List Symbol) → m ≡ symbol.Terminal (direction input) ∷ k → ports_in limit m ≡ mapped Full (up_to terminal.CloseParen (separated comma (port_decl_in limit))) m
  unfolding ports_in
  decls_next true m k e = rw e refl
  decls_next false m k e = rw e refl

  header_takes : (x : PlainHeader) (ts rest : List Symbol) → Front (SpellsHeader x) ts rest → height_of_header x ≤ limit → Without terminal.OpenParen rest → header_in limit ts ≡ Some (x, rest)
  unfolding mapped names_end decls_end
  header_takes (Plain []) ts rest f small may = no_ports_taken f.text ts rest f.says f.parts may
  header_takes (Plain (n ∷ ns)) ts rest f small may =
      let g : Front (quoted terminal.OpenParen ⊗ Listed named (n ∷ ns) ⊗ quoted terminal.CloseParen) ts rest = record { text = f.text; parts = f.parts; says = f.says } in
      let a = split {P = quoted terminal.OpenParen} {Q = Listed named (n ∷ ns) ⊗ quoted terminal.CloseParen} g in
      let b = split {P = Listed named (n ∷ ns)} {Q = quoted terminal.CloseParen} a.right in
      let c = split {P = named n} {Q = MoreSeparated (quoted terminal.Comma) named ns} b.left in
      let read : names_end a.mid ≡ Some (n ∷ ns, rest) = names_end_exact.takes (n ∷ ns) a.mid rest a.right (nameless limit (n ∷ ns)) tt in
      in_parens (Plain (n ∷ ns)) ts a.mid rest (one_is a.left) (names_next n a.mid c.mid (one_is c.left) ∙ rw read refl)
  header_takes (Full []) ts rest f small may = absurd f.says.right.left
  header_takes (Full (d ∷ ds)) ts rest f small may =
      let g : Front (quoted terminal.OpenParen ⊗ Listed SpellsPortDecl (d ∷ ds) ⊗ quoted terminal.CloseParen) ts rest = record { text = f.text; parts = f.parts; says = f.says } in
      let a = split {P = quoted terminal.OpenParen} {Q = Listed SpellsPortDecl (d ∷ ds) ⊗ quoted terminal.CloseParen} g in
      let b = split {P = Listed SpellsPortDecl (d ∷ ds)} {Q = quoted terminal.CloseParen} a.right in
      let c = split {P = SpellsPortDecl d} {Q = MoreSeparated (quoted terminal.Comma) SpellsPortDecl ds} b.left in
      let e = split {P = quoted (direction d.input)} {Q = SpellsKind d.reg ⊗ Flag terminal.Signed d.signed ⊗ Optional SpellsRange d.range ⊗ Listed named d.names} c.left in
      let read : decls_end a.mid ≡ Some (d ∷ ds, rest) = decls_end_exact.takes (d ∷ ds) a.mid rest a.right small tt in
      in_parens (Full (d ∷ ds)) ts a.mid rest (one_is a.left) (decls_next d.input a.mid e.mid (one_is e.left) ∙ rw read refl)

  header_exact : IsExact SpellsHeader height_of_header limit (header_in limit) (Without terminal.OpenParen)
  header_exact = record { sound = header_sound; takes = header_takes }

-- ---- modules

items_exact : (limit : ℕ) → IsExact (λ xs. Repeated SpellsItem xs ⊗ quoted terminal.Endmodule) (tallest height_of_item) limit (items_in limit) Anything
unfolding items_in item_in word_item
items_exact limit = until_exact terminal.Endmodule refl refl (λ rest. refl) (λ rest. refl) (λ ts y r. without terminal.Else (item_in limit) (λ rest. refl) ts y r) (item_exact limit)

module _ (limit : ℕ) where
  abbrev body_in : ReaderOf (List PlainItem)
  body_in = behind terminal.Semicolon (items_in limit)

  params_before : (ts : List Symbol) (y : (PlainHeader × List PlainItem) × List Symbol) → both (header_in limit) body_in ts ≡ Some y → Without terminal.Hash ts
  unfolding both header_in behind
  params_before ts y r = without terminal.Hash (both (header_in limit) body_in) (λ rest. refl) ts y r

  pub module_exact : IsExact SpellsModule height_of_module limit (module_reader limit) Anything
  unfolding module_reader
  module_exact =
      let body = behind_exact terminal.Semicolon (items_exact limit) in
      let header = both_exact (header_exact limit) body (before_behind (Without terminal.OpenParen) terminal.Semicolon _ (λ rest. refl)) in
      let params = both_exact (header_params_exact limit) header params_before in
      let name = both_exact (name_exact limit) params (λ ts y r. tt) in
      let made = mapped_exact {Q = λ (m : PlainModule). named m.name ⊗ SpellsHeaderParams m.params ⊗ SpellsHeader m.header ⊗ quoted terminal.Semicolon ⊗ Repeated SpellsItem m.items ⊗ quoted terminal.Endmodule} {n = height_of_module} module_of name
      (λ x ts p small. (p, omega (arith, small))) (λ m ts p small. ((m.name, (m.params, (m.header, m.items))), refl, p, omega (arith, small))) in
      behind_exact terminal.Module made

-- ---- whole modules

-- what is read up to the end of the symbols is a module that they spell
pub module_sound : (limit : ℕ) (ts rest : List Symbol) (m : PlainModule) → module_reader limit ts ≡ Some (m, rest) → rest ≡ [] → SpellsModule m ts × (height_of_module m ≤ limit)
module_sound limit ts rest m found none =
    let x : PlainModule × List Symbol = (m, rest) in
    let read = (module_exact limit).sound ts x found in
    (whole_of ts rest read.0 none, read.1)

-- a module that the symbols spell is read
pub module_takes : (limit : ℕ) (ts : List Symbol) (m : PlainModule) → SpellsModule m ts → height_of_module m ≤ limit → module_reader limit ts ≡ Some (m, [])
module_takes limit ts m spelled small = (module_exact limit).takes m ts [] (whole ts spelled) small tt

-- so a whole list is read as the module that it spells
pub module_reads : (limit : ℕ) (ts : List Symbol) (m : PlainModule) → (module_reader limit ts ≡ Some (m, [])) ↔ (SpellsModule m ts × (height_of_module m ≤ limit))
module_reads limit ts m = (λ found. module_sound limit ts [] m found refl, λ spelled. module_takes limit ts m spelled.0 spelled.1)

-- no module but the one that was read
pub module_only : (limit : ℕ) (ts rest : List Symbol) (m n : PlainModule) → module_reader limit ts ≡ Some (n, rest) → SpellsModule m ts → height_of_module m ≤ limit → (m ≡ n) × (rest ≡ [])
module_only limit ts rest m n found spelled small =
    let x : PlainModule × List Symbol = (m, []) in
    let y : PlainModule × List Symbol = (n, rest) in
    let same = some_is x y (sym (module_takes limit ts m spelled small) ∙ found) in
    (ap (λ (p : PlainModule × List Symbol). p.0) same, sym (ap (λ (p : PlainModule × List Symbol). p.1) same))

-- where nothing is read, the symbols spell no module of that height
pub module_none : (limit : ℕ) (ts : List Symbol) (m : PlainModule) → module_reader limit ts ≡ None → SpellsModule m ts → height_of_module m ≤ limit → ⊥
module_none limit ts m none spelled small =
    let x : PlainModule × List Symbol = (m, []) in
    no_result x (sym none ∙ module_takes limit ts m spelled small)

-- A list of symbols has at most one module.
pub one_module : (m n : PlainModule) (ts : List Symbol) → SpellsModule m ts → SpellsModule n ts → m ≡ n
one_module m n ts p q =
    let limit = height_of_module m + height_of_module n in
    (module_only limit ts [] m n (module_takes limit ts n q (omega arith)) p (omega arith)).0
