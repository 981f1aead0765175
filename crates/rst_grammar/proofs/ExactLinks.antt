-- The readers of links and instances are exact.
use Rattle.std.proofs.Common.{◌≡◌, ℕ, zero, suc, ◌≤◌, max, List, [], ◌∷◌, ◌++◌, length, Option, Some, None, refl, sym, ap, subst, ◌∙◌, arith}
use Rattle.rst_tree.specs.Trees.{Tree, height}
use Rattle.rst_tree.specs.Modules.{PlainLink, PlainLinks, Ordered, Named, PlainCopied, tallest, height_if, height_of_link, height_of_links, height_of_copied}
use Rattle.rst_grammar.specs.declared.symbol.Terminal.TheVariants as terminal
use Rattle.rst_grammar.specs.declared.symbol.Symbol.{Symbol}
use Rattle.rst_grammar.specs.declared.symbol.Symbol.TheVariants as symbol
use Rattle.rst_grammar.specs.Says.{Nothing, ◌⊗◌, quoted, named}
use Rattle.rst_grammar.specs.Expressions.{Spells}
use Rattle.rst_grammar.specs.Productions.{Optional, MoreSeparated, Listed}
use Rattle.rst_grammar.specs.Links.{SpellsLink, SpellsLinks, SpellsParamLinks, no_links, some_links, SpellsCopied, SpellsInstance}
use Rattle.rst_grammar.specs.Reading.{◌>>=◌, cases, after, readers, higher, full_in, binary_in, operand_in, terminal_in, unary_in}
use Rattle.rst_grammar.specs.ReadParts.{ReaderOf, name_in, mapped, both, up_to, more_separated, separated, comma}
use Rattle.rst_grammar.specs.ReadDeclarations.{expr_in}
use Rattle.rst_grammar.specs.ReadItems.{link_value_in, link_of, link_in, links_in, parens_in, param_links_in, copied_of, copied_in, copies_in, instance_of, instance_in}
use Rattle.rst_grammar.proofs.Fronts.{Front, split, joined, one_is, nothing_is, nothing_front}
use Rattle.rst_grammar.proofs.Tools.{bind_some, Follows, comma_follows, close_follows}
use Rattle.rst_grammar.proofs.Terminals.{after_is}
use Rattle.rst_grammar.proofs.Sound.{some_is, after_front}
use Rattle.rst_grammar.proofs.Exact.{IsExact, Anything, Without, without, is_after, no_result, name_exact, behind_exact, up_to_exact, both_exact, mapped_exact}
use Rattle.rst_grammar.proofs.ExactLists.{separated_exact, comma_separator}
use Rattle.rst_grammar.proofs.ExactDeclarations.{expr_exact}

-- ---- one link by place

-- a comma or the closing parenthesis stands behind a link by place
data EndsLink (ts : List Symbol) : Type 0 where
  at_comma : (rest : List Symbol) → ts ≡ symbol.Terminal terminal.Comma ∷ rest → EndsLink ts
  at_close : (rest : List Symbol) → ts ≡ symbol.Terminal terminal.CloseParen ∷ rest → EndsLink ts

link_follows : (ts : List Symbol) → EndsLink ts → Follows 0 ts
link_follows ts (at_comma rest e) = rw e (comma_follows 0)
link_follows ts (at_close rest e) = rw e (close_follows 0)

-- no expression begins so
comma_refused : (limit : ℕ) (rest : List Symbol) → expr_in limit (symbol.Terminal terminal.Comma ∷ rest) ≡ None
unfolding readers higher full_in binary_in operand_in terminal_in unary_in
comma_refused zero rest = refl
comma_refused (suc limit) rest = refl

close_refused : (limit : ℕ) (rest : List Symbol) → expr_in limit (symbol.Terminal terminal.CloseParen ∷ rest) ≡ None
unfolding readers higher full_in binary_in operand_in terminal_in unary_in
close_refused zero rest = refl
close_refused (suc limit) rest = refl

dot_refused : (limit : ℕ) (rest : List Symbol) → expr_in limit (symbol.Terminal terminal.Dot ∷ rest) ≡ None
unfolding readers higher full_in binary_in operand_in terminal_in unary_in
dot_refused zero rest = refl
dot_refused (suc limit) rest = refl

abbrev LinkRead : ℕ → List Symbol → Option Tree × List Symbol → Type 0
LinkRead limit ts x = Front (Optional Spells x.0) ts x.1 × (height_if height x.0 ≤ limit)

empty_link : (limit : ℕ) (ts : List Symbol) (x : Option Tree × List Symbol) → Some (None, ts) ≡ Some x → LinkRead limit ts x
empty_link limit ts x r =
    let made : Option Tree × List Symbol = (None, ts) in
    let f = nothing_front ts in
    subst (LinkRead limit ts) (some_is made x r) (record { text = f.text; parts = f.parts; says = f.says }, omega arith)

some_link : (limit : ℕ) (ts : List Symbol) (x : Option Tree × List Symbol) → ◌>>=◌ {B = Option Tree × List Symbol} (expr_in limit ts) (λ e. Some (Some e.0, e.1)) ≡ Some x → LinkRead limit ts x
some_link limit ts x r =
    let a = bind_some (expr_in limit ts) (λ e. Some (Some e.0, e.1)) x r in
    let inner = (expr_exact limit).sound ts a.0 a.1 in
    let made : Option Tree × List Symbol = (Some a.0.0, a.0.1) in
    subst (LinkRead limit ts) (some_is made x a.2) (record { text = inner.0.text; parts = inner.0.parts; says = inner.0.says }, inner.1)

link_value_sound : (limit : ℕ) (ts : List Symbol) (x : Option Tree × List Symbol) → link_value_in limit ts ≡ Some x → LinkRead limit ts x
unfolding link_value_in
link_value_sound limit (symbol.Terminal terminal.Comma ∷ rest) x r = empty_link limit (symbol.Terminal terminal.Comma ∷ rest) x r
link_value_sound limit (symbol.Terminal terminal.CloseParen ∷ rest) x r = empty_link limit (symbol.Terminal terminal.CloseParen ∷ rest) x r
link_value_sound limit ts x r = some_link limit ts x r

link_value_next : (limit : ℕ) (ts : List Symbol) → Without terminal.Comma ts → Without terminal.CloseParen ts → link_value_in limit ts ≡ ◌>>=◌ {B = Option Tree × List Symbol} (expr_in limit ts) (λ e. Some (Some e.0, e.1))
unfolding link_value_in
link_value_next limit (symbol.Terminal terminal.Comma ∷ rest) no_comma no_close = absurd (no_result rest (sym no_comma))
link_value_next limit (symbol.Terminal terminal.CloseParen ∷ rest) no_comma no_close = absurd (no_result rest (sym no_close))
link_value_next limit ts no_comma no_close = refl

empty_taken : (limit : ℕ) (ts : List Symbol) → EndsLink ts → link_value_in limit ts ≡ Some (None, ts)
unfolding link_value_in
empty_taken limit ts (at_comma rest e) = rw e refl
empty_taken limit ts (at_close rest e) = rw e refl

link_value_takes : (limit : ℕ) (x : Option Tree) (ts rest : List Symbol) → Front (Optional Spells x) ts rest → height_if height x ≤ limit → EndsLink rest → link_value_in limit ts ≡ Some (x, rest)
link_value_takes limit None ts rest f small may =
    let is : Front Nothing ts rest = record { text = f.text; parts = f.parts; says = f.says } in
    ap (link_value_in limit) (nothing_is is) ∙ empty_taken limit rest may
link_value_takes limit (Some e) ts rest f small may =
    let is : Front (Spells e) ts rest = record { text = f.text; parts = f.parts; says = f.says } in
    let read = (expr_exact limit).takes e ts rest is small (link_follows rest may) in
    link_value_next limit ts (without terminal.Comma (expr_in limit) (comma_refused limit) ts (e, rest) read) (without terminal.CloseParen (expr_in limit) (close_refused limit) ts (e, rest) read) ∙ rw read refl

link_value_exact : (limit : ℕ) → IsExact (Optional Spells) (height_if height) limit (link_value_in limit) EndsLink
link_value_exact limit = record { sound = link_value_sound limit; takes = link_value_takes limit }

-- ---- lists of links

ordered_in : ℕ → ReaderOf (List (Option Tree))
ordered_in limit = separated comma (link_value_in limit)

ordered_exact : (limit : ℕ) → IsExact (Listed (Optional Spells)) (tallest (height_if height)) limit (ordered_in limit) (λ rest. EndsLink rest × (comma rest ≡ None))
unfolding ordered_in
ordered_exact limit = separated_exact (link_value_exact limit) (comma_separator (λ rest y r. at_comma rest refl))

link_exact : (limit : ℕ) → IsExact SpellsLink height_of_link limit (link_in limit) Anything
unfolding link_in
link_exact limit =
    let value = behind_exact terminal.OpenParen (up_to_exact terminal.CloseParen (λ rest. at_close rest refl) (link_value_exact limit)) in
    let all = behind_exact terminal.Dot (both_exact (name_exact limit) value (λ ts y r. tt)) in
    mapped_exact link_of all (λ x ts p small. (p, omega (arith, small))) (λ l ts p small. ((l.name, l.value), refl, p, omega (arith, small)))

named_in : ℕ → ReaderOf (List PlainLink)
named_in limit = separated comma (link_in limit)

named_exact : (limit : ℕ) → IsExact (Listed SpellsLink) (tallest height_of_link) limit (named_in limit) (λ rest. Anything rest × (comma rest ≡ None))
unfolding named_in
named_exact limit = separated_exact (link_exact limit) (comma_separator (λ rest y r. tt))

-- Before the closing parenthesis one empty link would be read, and elsewhere never one alone.
close_ordered : (limit : ℕ) (rest : List Symbol) → ordered_in limit (symbol.Terminal terminal.CloseParen ∷ rest) ≡ Some (None ∷ [], symbol.Terminal terminal.CloseParen ∷ rest)
unfolding ordered_in separated link_value_in more_separated comma
close_ordered limit rest = refl

OneEmpty : List (Option Tree) → Type 0
OneEmpty es = es ≡ None ∷ []

one_some : (e : Tree) (es : List (Option Tree)) → OneEmpty (Some e ∷ es) → ⊥
unfolding OneEmpty
one_some e es same = cc

one_more : (x y : Option Tree) (es : List (Option Tree)) → OneEmpty (x ∷ y ∷ es) → ⊥
unfolding OneEmpty
one_more x y es same = cc

module _ (limit : ℕ) where
  after_comma : (m : List Symbol) (x : List (Option Tree) × List Symbol) → ordered_in limit (symbol.Terminal terminal.Comma ∷ m) ≡ Some x → OneEmpty x.0 → ⊥
  unfolding ordered_in separated link_value_in more_separated comma
  after_comma m x r one =
      let a = bind_some (more_separated comma (link_value_in limit) (suc (length m)) (symbol.Terminal terminal.Comma ∷ m)) (λ others. Some (None ∷ others.0, others.1)) x r in
      let b = bind_some (link_value_in limit m) (λ first. more_separated comma (link_value_in limit) (length m) first.1 >>= λ others. Some (first.0 ∷ others.0, others.1)) a.0 a.1 in
      let c = bind_some (more_separated comma (link_value_in limit) (length m) b.0.1) (λ others. Some (b.0.0 ∷ others.0, others.1)) a.0 b.2 in
      let inner : List (Option Tree) × List Symbol = (b.0.0 ∷ c.0.0, c.0.1) in
      let made : List (Option Tree) × List Symbol = (None ∷ a.0.0, a.0.1) in
      let first = ap (λ (y : List (Option Tree) × List Symbol). y.0) (some_is inner a.0 c.2) in
      let all = ap (λ (y : List (Option Tree) × List Symbol). y.0) (some_is made x a.2) in
      one_more None b.0.0 c.0.0 (subst OneEmpty (sym all ∙ ap (λ (es : List (Option Tree)). None ∷ es) (sym first)) one)

  with_value : (ts : List Symbol) (x : List (Option Tree) × List Symbol) → Without terminal.Comma ts → Without terminal.CloseParen ts → ordered_in limit ts ≡ Some x → OneEmpty x.0 → ⊥
  unfolding ordered_in separated
  with_value ts x no_comma no_close r one =
      let a = bind_some (link_value_in limit ts) (λ first. more_separated comma (link_value_in limit) (length first.1) first.1 >>= λ others. Some (first.0 ∷ others.0, others.1)) x r in
      let b = bind_some (more_separated comma (link_value_in limit) (length a.0.1) a.0.1) (λ others. Some (a.0.0 ∷ others.0, others.1)) x a.2 in
      let v = bind_some (expr_in limit ts) (λ e. Some (Some e.0, e.1)) a.0 (sym (link_value_next limit ts no_comma no_close) ∙ a.1) in
      let made : List (Option Tree) × List Symbol = (a.0.0 ∷ b.0.0, b.0.1) in
      let value : Option Tree × List Symbol = (Some v.0.0, v.0.1) in
      let all = ap (λ (y : List (Option Tree) × List Symbol). y.0) (some_is made x b.2) in
      let first = ap (λ (y : Option Tree × List Symbol). y.0) (some_is value a.0 v.2) in
      one_some v.0.0 b.0.0 (subst OneEmpty (sym all ∙ ap (λ (y : Option Tree). y ∷ b.0.0) (sym first)) one)

  never_one_empty : (ts : List Symbol) (x : List (Option Tree) × List Symbol) → Without terminal.CloseParen ts → ordered_in limit ts ≡ Some x → OneEmpty x.0 → ⊥
  never_one_empty (symbol.Terminal terminal.Comma ∷ m) x no_close r one = after_comma m x r one
  never_one_empty [] x no_close r one = with_value [] x refl no_close r one
  never_one_empty (symbol.Terminal t ∷ m) x no_close r one = with_value (symbol.Terminal t ∷ m) x refl no_close r one
  never_one_empty (symbol.Name n ∷ m) x no_close r one = with_value (symbol.Name n ∷ m) x refl no_close r one
  never_one_empty (symbol.Number n ∷ m) x no_close r one = with_value (symbol.Number n ∷ m) x refl no_close r one

  ordered_links : (es : List (Option Tree)) (ts rest : List Symbol) → Front (Listed (Optional Spells) es) ts rest → (OneEmpty es → ⊥) → Front (SpellsLinks (Ordered es)) ts rest
  unfolding OneEmpty
  ordered_links [] ts rest f more = absurd f.says
  ordered_links (None ∷ []) ts rest f more = absurd (more refl)
  ordered_links (Some e ∷ []) ts rest f more = record { text = f.text; parts = f.parts; says = f.says }
  ordered_links (None ∷ y ∷ es) ts rest f more = record { text = f.text; parts = f.parts; says = f.says }
  ordered_links (Some e ∷ y ∷ es) ts rest f more = record { text = f.text; parts = f.parts; says = f.says }

  abbrev LinksRead : List Symbol → PlainLinks × List Symbol → Type 0
  LinksRead ts x = Front (SpellsLinks x.0) ts x.1 × (height_of_links x.0 ≤ limit)

  ordered_sound : (ts : List Symbol) (x : PlainLinks × List Symbol) → Without terminal.CloseParen ts → mapped Ordered (separated comma (link_value_in limit)) ts ≡ Some x → LinksRead ts x
  unfolding mapped ordered_in
  ordered_sound ts x no_close r =
      let a = bind_some (ordered_in limit ts) (λ y. Some (Ordered y.0, y.1)) x r in
      let inner = (ordered_exact limit).sound ts a.0 a.1 in
      let made : PlainLinks × List Symbol = (Ordered a.0.0, a.0.1) in
      subst (LinksRead ts) (some_is made x a.2) (ordered_links a.0.0 ts a.0.1 inner.0 (never_one_empty ts a.0 no_close a.1), inner.1)

  named_sound : (ts : List Symbol) (x : PlainLinks × List Symbol) → mapped Named (separated comma (link_in limit)) ts ≡ Some x → LinksRead ts x
  unfolding mapped named_in
  named_sound ts x r =
      let a = bind_some (named_in limit ts) (λ y. Some (Named y.0, y.1)) x r in
      let inner = (named_exact limit).sound ts a.0 a.1 in
      let made : PlainLinks × List Symbol = (Named a.0.0, a.0.1) in
      subst (LinksRead ts) (some_is made x a.2) (record { text = inner.0.text; parts = inner.0.parts; says = inner.0.says }, inner.1)

  links_sound : (ts : List Symbol) (x : PlainLinks × List Symbol) → links_in limit ts ≡ Some x → LinksRead ts x
  unfolding links_in
  links_sound [] x r = ordered_sound [] x refl r
  links_sound (symbol.Terminal terminal.CloseParen ∷ rest) x r =
      let made : PlainLinks × List Symbol = (Ordered [], symbol.Terminal terminal.CloseParen ∷ rest) in
      let f = nothing_front (symbol.Terminal terminal.CloseParen ∷ rest) in
      subst (LinksRead (symbol.Terminal terminal.CloseParen ∷ rest)) (some_is made x r) (record { text = f.text; parts = f.parts; says = f.says }, omega arith)
  links_sound (symbol.Terminal terminal.Dot ∷ rest) x r = named_sound (symbol.Terminal terminal.Dot ∷ rest) x r
  links_sound (symbol.Terminal t ∷ rest) x r = ordered_sound (symbol.Terminal t ∷ rest) x refl r
  links_sound (symbol.Name n ∷ rest) x r = ordered_sound (symbol.Name n ∷ rest) x refl r
  links_sound (symbol.Number n ∷ rest) x r = ordered_sound (symbol.Number n ∷ rest) x refl r

  abbrev AtClose : List Symbol → Type 0
  AtClose ts = (rest : List Symbol) × (ts ≡ symbol.Terminal terminal.CloseParen ∷ rest)

  ordered_next : (ts : List Symbol) → Without terminal.CloseParen ts → Without terminal.Dot ts → links_in limit ts ≡ mapped Ordered (separated comma (link_value_in limit)) ts
  unfolding links_in
  ordered_next [] no_close no_dot = refl
  ordered_next (symbol.Terminal terminal.CloseParen ∷ rest) no_close no_dot = absurd (no_result rest (sym no_close))
  ordered_next (symbol.Terminal terminal.Dot ∷ rest) no_close no_dot = absurd (no_result rest (sym no_dot))
  ordered_next (s ∷ rest) no_close no_dot = refl

  dot_ordered : (rest : List Symbol) → ordered_in limit (symbol.Terminal terminal.Dot ∷ rest) ≡ None
  unfolding ordered_in separated link_value_in
  dot_ordered rest = rw (dot_refused limit rest) refl

  no_close_ordered : (es : List (Option Tree)) (ts rest : List Symbol) → ordered_in limit ts ≡ Some (es, rest) → (OneEmpty es → ⊥) → Without terminal.CloseParen ts
  unfolding OneEmpty
  no_close_ordered es ts rest r more = by_case (after terminal.CloseParen ts) refl
    where
      made : List Symbol → List (Option Tree) × List Symbol
      made m = (None ∷ [], symbol.Terminal terminal.CloseParen ∷ m)

      found : List (Option Tree) × List Symbol
      found = (es, rest)

      by_case : (o : Option (List Symbol)) → after terminal.CloseParen ts ≡ o → after terminal.CloseParen ts ≡ None
      by_case None is = is
      by_case (Some m) is =
          let at_m = ap (ordered_in limit) (after_is terminal.CloseParen ts m is) in
          let same = some_is found (made m) (sym r ∙ at_m ∙ close_ordered limit m) in
          absurd (more (ap (λ (y : List (Option Tree) × List Symbol). y.0) same))

  ordered_takes : (es : List (Option Tree)) (ts rest : List Symbol) → Front (Listed (Optional Spells) es) ts rest → (OneEmpty es → ⊥) → tallest (height_if height) es ≤ limit → AtClose rest → links_in limit ts ≡ Some (Ordered es, rest)
  unfolding mapped ordered_in comma
  ordered_takes es ts rest f more small may =
      let read : ordered_in limit ts ≡ Some (es, rest) = (ordered_exact limit).takes es ts rest f small (at_close may.0 may.1, close_no_comma) in
      ordered_next ts (no_close_ordered es ts rest read more) (without terminal.Dot (ordered_in limit) dot_ordered ts (es, rest) read) ∙ rw read refl
    where
      close_no_comma : comma rest ≡ None
      close_no_comma = ap comma may.1

  pub named_next : (ts m : List Symbol) → ts ≡ symbol.Terminal terminal.Dot ∷ m → links_in limit ts ≡ mapped Named (separated comma (link_in limit)) ts
  unfolding links_in
  named_next ts m e = rw e refl

  named_takes : (ls : List PlainLink) (ts rest : List Symbol) → Front (Listed SpellsLink ls) ts rest → tallest height_of_link ls ≤ limit → AtClose rest → links_in limit ts ≡ Some (Named ls, rest)
  unfolding mapped named_in comma
  named_takes [] ts rest f small may = absurd f.says
  named_takes (l ∷ ls) ts rest f small may =
      let a = split {P = SpellsLink l} {Q = MoreSeparated (quoted terminal.Comma) SpellsLink ls} f in
      let b = split {P = quoted terminal.Dot} {Q = named l.name ⊗ quoted terminal.OpenParen ⊗ Optional Spells l.value ⊗ quoted terminal.CloseParen} a.left in
      let read : named_in limit ts ≡ Some (l ∷ ls, rest) = (named_exact limit).takes (l ∷ ls) ts rest f small (tt, ap comma may.1) in
      named_next ts b.mid (one_is b.left) ∙ rw read refl

  none_taken : (ts : List Symbol) → AtClose ts → links_in limit ts ≡ Some (Ordered [], ts)
  unfolding links_in
  none_taken ts may = rw may.1 refl

  links_takes : (x : PlainLinks) (ts rest : List Symbol) → Front (SpellsLinks x) ts rest → height_of_links x ≤ limit → AtClose rest → links_in limit ts ≡ Some (x, rest)
  unfolding OneEmpty
  links_takes (Ordered []) ts rest f small may =
      let is : Front Nothing ts rest = record { text = f.text; parts = f.parts; says = f.says } in
      ap (links_in limit) (nothing_is is) ∙ none_taken rest may
  links_takes (Ordered (None ∷ [])) ts rest f small may = absurd f.says
  links_takes (Ordered (Some e ∷ [])) ts rest f small may = ordered_takes (Some e ∷ []) ts rest (record { text = f.text; parts = f.parts; says = f.says }) (one_some e []) small may
  links_takes (Ordered (None ∷ y ∷ es)) ts rest f small may = ordered_takes (None ∷ y ∷ es) ts rest (record { text = f.text; parts = f.parts; says = f.says }) (one_more None y es) small may
  links_takes (Ordered (Some e ∷ y ∷ es)) ts rest f small may = ordered_takes (Some e ∷ y ∷ es) ts rest (record { text = f.text; parts = f.parts; says = f.says }) (one_more (Some e) y es) small may
  links_takes (Named ls) ts rest f small may = named_takes ls ts rest (record { text = f.text; parts = f.parts; says = f.says }) small may

  links_exact : IsExact SpellsLinks height_of_links limit (links_in limit) AtClose
  links_exact = record { sound = links_sound; takes = links_takes }

-- ---- instances

-- "(" links ")"
abbrev InParens : PlainLinks → List Symbol → Type 0
InParens l = quoted terminal.OpenParen ⊗ SpellsLinks l ⊗ quoted terminal.CloseParen

parens_exact : (limit : ℕ) → IsExact InParens height_of_links limit (parens_in limit) Anything
unfolding parens_in
parens_exact limit = behind_exact terminal.OpenParen (up_to_exact terminal.CloseParen (λ rest. (rest, refl)) (links_exact limit))

module _ (limit : ℕ) where
  abbrev ParamLinksRead : List Symbol → PlainLinks × List Symbol → Type 0
  ParamLinksRead ts x = Front (SpellsParamLinks x.0) ts x.1 × (height_of_links x.0 ≤ limit)

  param_links_found : (ts : List Symbol) (x : PlainLinks × List Symbol) (o : Option (List Symbol)) → after terminal.Hash ts ≡ o → cases o (Some (Ordered [], ts)) (λ rest. parens_in limit rest) ≡ Some x → ParamLinksRead ts x
  param_links_found ts x None is r =
      let made : PlainLinks × List Symbol = (Ordered [], ts) in
      let f = nothing_front ts in
      subst (ParamLinksRead ts) (some_is made x r) (record { text = f.text; parts = f.parts; says = no_links refl f.says }, omega arith)
  param_links_found ts x (Some rest) is r =
      let inner = (parens_exact limit).sound rest x r in
      let f : Front (quoted terminal.Hash ⊗ InParens x.0) ts x.1 = joined (after_front terminal.Hash ts rest is) inner.0 in
      (record { text = f.text; parts = f.parts; says = some_links f.says }, inner.1)

  param_links_sound : (ts : List Symbol) (x : PlainLinks × List Symbol) → param_links_in limit ts ≡ Some x → ParamLinksRead ts x
  unfolding param_links_in
  param_links_sound ts x r = param_links_found ts x (after terminal.Hash ts) refl r

  param_links_taken : (x : PlainLinks) (text ts rest : List Symbol) → SpellsParamLinks x text → ts ≡ text ++ rest → height_of_links x ≤ limit → Without terminal.Hash rest → param_links_in limit ts ≡ Some (x, rest)
  unfolding param_links_in
  param_links_taken x text ts rest (no_links empty p) parts small may =
      let is : Front Nothing ts rest = record { text = text; parts = parts; says = p } in
      rw (nothing_is is, may, empty) refl
  param_links_taken x text ts rest (some_links p) parts small may =
      let f : Front (quoted terminal.Hash ⊗ InParens x) ts rest = record { text = text; parts = parts; says = p } in
      let a = split {P = quoted terminal.Hash} {Q = InParens x} f in
      rw (is_after terminal.Hash ts a.mid (one_is a.left)) ((parens_exact limit).takes x a.mid rest a.right small tt)

  param_links_exact : IsExact SpellsParamLinks height_of_links limit (param_links_in limit) (Without terminal.Hash)
  param_links_exact = record { sound = param_links_sound; takes = λ x ts rest f small may. param_links_taken x f.text ts rest f.says f.parts small may }

  copied_exact : IsExact SpellsCopied height_of_copied limit (copied_in limit) Anything
  unfolding copied_in
  copied_exact =
      let two = both_exact (name_exact limit) (parens_exact limit) (λ ts y r. tt) in
      mapped_exact copied_of two (λ x ts p small. (p, omega (arith, small))) (λ c ts p small. ((c.name, c.ports), refl, p, omega (arith, small)))

  copies_exact : IsExact (Listed SpellsCopied) (tallest height_of_copied) limit (copies_in limit) (λ rest. Anything rest × (comma rest ≡ None))
  unfolding copies_in
  copies_exact = separated_exact copied_exact (comma_separator (λ rest y r. tt))

  abbrev copies_end : ReaderOf (List PlainCopied)
  copies_end = up_to terminal.Semicolon (copies_in limit)

  copies_end_exact : IsExact (λ cs. Listed SpellsCopied cs ⊗ quoted terminal.Semicolon) (tallest height_of_copied) limit copies_end Anything
  unfolding comma
  copies_end_exact = up_to_exact terminal.Semicolon (λ rest. (tt, refl)) copies_exact

  links_before_copies : (ts : List Symbol) (y : List PlainCopied × List Symbol) → copies_end ts ≡ Some y → Without terminal.Hash ts
  unfolding up_to copies_in copied_in separated mapped both name_in
  links_before_copies ts y r = without terminal.Hash copies_end (λ rest. refl) ts y r

  pub instance_exact : IsExact SpellsInstance (λ i. max (height_of_links i.params) (tallest height_of_copied i.copies)) limit (instance_in limit) Anything
  unfolding instance_in
  instance_exact =
      let two = both_exact param_links_exact copies_end_exact links_before_copies in
      let all = both_exact (name_exact limit) two (λ ts y r. tt) in
      mapped_exact instance_of all (λ x ts p small. (p, omega (arith, small))) (λ i ts p small. ((i.of_module, (i.params, i.copies)), refl, p, omega (arith, small)))
