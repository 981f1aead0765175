-- A module that symbols spell is well formed, and has at most as many parts as there are symbols.
use Rattle.std.proofs.Common.{◌≡◌, ℕ, suc, ◌+◌, ◌≤◌, Bool, true, false, List, [], ◌∷◌, length, length-append, Option, Some, None, ap, ◌∙◌, arith}
use Rattle.std.specs.List.{All, sum_by}
use Rattle.std.proofs.lemmas.List.Elements.{All-nil, All-cons}
use Rattle.std.proofs.lemmas.List.Sums.{sum_by-cons}
use Rattle.rst_tree.specs.Trees.{Tree, Text}
use Rattle.rst_tree.specs.Modules.{PlainRange, PlainPortDecl, PlainParamName, PlainParamDecl, PlainNetName, PlainNetDecl, PlainAssign, PlainEvents, Any, OneOf, PlainLink, PlainLinks, Ordered, Named, PlainCopied, PlainItem, Port, Net, Params, Assigns, AlwaysBlock, Instances, PlainHeader, Plain, Full, PlainModule}
use Rattle.rst_tree.specs.WellFormed.{Formed, FormedIf, FormedRange, FormedPortDecl, FormedParamName, FormedParamDecl, FormedNetValue, FormedNetName, FormedNetDecl, FormedAssign, FormedEvents, FormedLink, FormedLinks, FormedCopied, FormedItem, FormedHeader, FormedModule, parts_of_item, ports_of, parts_of}
use Rattle.rst_grammar.specs.declared.symbol.Terminal.TheVariants as terminal
use Rattle.rst_grammar.specs.declared.symbol.Symbol.{Symbol}
use Rattle.rst_grammar.specs.Says.{Then, quoted, named}
use Rattle.rst_grammar.specs.Expressions.{Spells}
use Rattle.rst_grammar.specs.Productions.{ProductionOf, Optional, Repeated, MoreSeparated, Listed}
use Rattle.rst_grammar.specs.Declarations.{SpellsRange, SpellsPortDecl, SpellsParamName, SpellsParamDecl, SpellsNetValue, SpellsNetName, SpellsNetDecl}
use Rattle.rst_grammar.specs.Links.{SpellsLink, SpellsLinks, SpellsParamLinks, no_links, some_links, SpellsCopied, SpellsInstance}
use Rattle.rst_grammar.specs.Items.{SpellsAssign, SpellsControl, SpellsItem}
use Rattle.rst_grammar.specs.Modules.{SpellsGroup, SpellsHeaderParams, SpellsHeader, SpellsModule}
use Rattle.rst_grammar.proofs.Formed.{tree_formed, target_formed, stmt_formed}

-- ---- lists

-- as many symbols as its two parts have
long : {P Q : List Symbol → Type 0} (ts : List Symbol) (p : Then P Q ts) → length ts ≡ length p.first + length p.second
long ts p = ap length p.parts ∙ length-append p.first p.second

module _ {A : Type 0} {P : ProductionOf A} {Q : A → Type 0} (each : (x : A) (ts : List Symbol) → P x ts → Q x) where
  repeated_all : (xs : List A) (ts : List Symbol) → Repeated P xs ts → All Q xs
  repeated_all [] ts p = All-nil Q
  repeated_all (x ∷ xs) ts p = All-cons Q x xs (each x p.first p.left) (repeated_all xs p.second p.right)

  more_all : (xs : List A) (ts : List Symbol) → MoreSeparated (quoted terminal.Comma) P xs ts → All Q xs
  more_all [] ts p = All-nil Q
  more_all (x ∷ xs) ts p = All-cons Q x xs (each x p.right.first p.right.left) (more_all xs p.right.second p.right.right)

  separated_all : (xs : List A) (ts : List Symbol) → Listed P xs ts → All Q xs
  separated_all [] ts p = absurd p
  separated_all (x ∷ xs) ts p = All-cons Q x xs (each x p.first p.left) (more_all xs p.second p.right)

module _ {A : Type 0} {P : ProductionOf A} {size : A → ℕ} (each : (x : A) (ts : List Symbol) → P x ts → size x ≤ length ts) where
  repeated_sum : (xs : List A) (ts : List Symbol) → Repeated P xs ts → sum_by size xs ≤ length ts
  repeated_sum [] ts p = omega arith
  repeated_sum (x ∷ xs) ts p = omega (arith, sum_by-cons size x xs, long ts p, each x p.first p.left, repeated_sum xs p.second p.right)

  more_sum : (xs : List A) (ts : List Symbol) → MoreSeparated (quoted terminal.Comma) P xs ts → sum_by size xs ≤ length ts
  more_sum [] ts p = omega arith
  more_sum (x ∷ xs) ts p = omega (arith, sum_by-cons size x xs, long ts p, long p.second p.right, each x p.right.first p.right.left, more_sum xs p.right.second p.right.right)

  separated_sum : (xs : List A) (ts : List Symbol) → Listed P xs ts → sum_by size xs ≤ length ts
  separated_sum [] ts p = absurd p
  separated_sum (x ∷ xs) ts p = omega (arith, sum_by-cons size x xs, long ts p, each x p.first p.left, more_sum xs p.second p.right)

module _ {A : Type 0} {P : ProductionOf A} (each : (x : A) (ts : List Symbol) → P x ts → 1 ≤ length ts) where
  more_count : (xs : List A) (ts : List Symbol) → MoreSeparated (quoted terminal.Comma) P xs ts → length xs ≤ length ts
  more_count [] ts p = omega arith
  more_count (x ∷ xs) ts p = omega (arith, long ts p, long p.second p.right, each x p.right.first p.right.left, more_count xs p.right.second p.right.right)

  separated_count : (xs : List A) (ts : List Symbol) → Listed P xs ts → length xs ≤ length ts
  separated_count [] ts p = absurd p
  separated_count (x ∷ xs) ts p = omega (arith, long ts p, each x p.first p.left, more_count xs p.second p.right)

-- one symbol
name_long : (n : Text) (ts : List Symbol) → named n ts → 1 ≤ length ts
name_long n ts p = omega (arith, ap length p.is)

-- ---- declarations

range_formed : (r : PlainRange) (ts : List Symbol) → SpellsRange r ts → FormedRange r
range_formed r ts p =
    let q = p.right in
    (tree_formed r.high q.first q.left, tree_formed r.low q.right.right.first q.right.right.left)

ranges_formed : (r : Option PlainRange) (ts : List Symbol) → Optional SpellsRange r ts → FormedIf FormedRange r
ranges_formed None ts p = tt
ranges_formed (Some r) ts p = range_formed r ts p

port_decl_formed : (d : PlainPortDecl) (ts : List Symbol) → SpellsPortDecl d ts → FormedPortDecl d
port_decl_formed d ts p =
    let q = p.right.right.right in
    ranges_formed d.range q.first q.left

param_name_formed : (n : PlainParamName) (ts : List Symbol) → SpellsParamName n ts → FormedParamName n
param_name_formed n ts p = tree_formed n.value p.right.second p.right.right

param_decl_formed : (d : PlainParamDecl) (ts : List Symbol) → SpellsParamDecl d ts → FormedParamDecl d
param_decl_formed d ts p =
    let q = p.right.right in
    (ranges_formed d.range q.first q.left, separated_all param_name_formed d.names q.second q.right)

net_value_formed : (reg : Bool) (e : Option Tree) (ts : List Symbol) → SpellsNetValue reg e ts → FormedNetValue reg e
net_value_formed reg None ts p = tt
net_value_formed false (Some e) ts p = tree_formed e p.second p.right
net_value_formed true (Some e) ts p = absurd p

net_name_formed : (reg : Bool) (n : PlainNetName) (ts : List Symbol) → SpellsNetName reg n ts → FormedNetName reg n
net_name_formed reg n ts p = net_value_formed reg n.value p.second p.right

net_decl_formed : (d : PlainNetDecl) (ts : List Symbol) → SpellsNetDecl d ts → FormedNetDecl d
net_decl_formed d ts p =
    let q = p.right.right in
    (ranges_formed d.range q.first q.left, separated_all (net_name_formed d.reg) d.names q.right.first q.right.left)

port_decl_long : (d : PlainPortDecl) (ts : List Symbol) → SpellsPortDecl d ts → length d.names ≤ length ts
port_decl_long d ts p =
    let q = p.right in
    let r = q.right in
    let s = r.right in
    omega (arith, long ts p, long p.second q, long q.second r, long r.second s, separated_count name_long d.names s.second s.right)

param_name_long : (n : PlainParamName) (ts : List Symbol) → SpellsParamName n ts → 1 ≤ length ts
param_name_long n ts p = omega (arith, long ts p, name_long n.name p.first p.left)

param_decl_long : (d : PlainParamDecl) (ts : List Symbol) → SpellsParamDecl d ts → length d.names ≤ length ts
param_decl_long d ts p =
    let q = p.right in
    let r = q.right in
    omega (arith, long ts p, long p.second q, long q.second r, separated_count param_name_long d.names r.second r.right)

net_name_long : (reg : Bool) (n : PlainNetName) (ts : List Symbol) → SpellsNetName reg n ts → 1 ≤ length ts
net_name_long reg n ts p = omega (arith, long ts p, name_long n.name p.first p.left)

net_decl_long : (d : PlainNetDecl) (ts : List Symbol) → SpellsNetDecl d ts → suc (length d.names) ≤ length ts
net_decl_long d ts p =
    let q = p.right in
    let r = q.right in
    let s = r.right in
    omega (arith, long ts p, long p.second q, long q.second r, long r.second s, ap length p.left.is, separated_count (net_name_long d.reg) d.names s.first s.left)

-- ---- items

assign_formed : (a : PlainAssign) (ts : List Symbol) → SpellsAssign a ts → FormedAssign a
assign_formed a ts p = (target_formed a.target p.first p.left, tree_formed a.value p.right.second p.right.right)

events_formed : (e : PlainEvents) (ts : List Symbol) → SpellsControl e ts → FormedEvents e
events_formed Any ts p = tt
events_formed (OneOf []) ts p = absurd p.right.left
events_formed (OneOf (e ∷ es)) ts p = tt

value_formed : (e : Option Tree) (ts : List Symbol) → Optional Spells e ts → FormedIf Formed e
value_formed None ts p = tt
value_formed (Some e) ts p = tree_formed e ts p

link_formed : (l : PlainLink) (ts : List Symbol) → SpellsLink l ts → FormedLink l
link_formed l ts p =
    let q = p.right.right.right in
    value_formed l.value q.first q.left

links_formed : (l : PlainLinks) (ts : List Symbol) → SpellsLinks l ts → FormedLinks l
links_formed (Ordered []) ts p = All-nil (FormedIf Formed)
links_formed (Ordered (None ∷ [])) ts p = absurd p
links_formed (Ordered (e ∷ es)) ts p = separated_all value_formed (e ∷ es) ts p
links_formed (Named ls) ts p = separated_all link_formed ls ts p

param_links_formed : (l : PlainLinks) (ts : List Symbol) → SpellsParamLinks l ts → FormedLinks l
param_links_formed l ts (no_links is p) = rw is (All-nil (FormedIf Formed))
param_links_formed l ts (some_links p) =
    let q = p.right.right in
    links_formed l q.first q.left

copied_formed : (c : PlainCopied) (ts : List Symbol) → SpellsCopied c ts → FormedCopied c
copied_formed c ts p =
    let q = p.right.right in
    links_formed c.ports q.first q.left

item_formed : (x : PlainItem) (ts : List Symbol) → SpellsItem x ts → FormedItem x
item_formed (Port d) ts p = port_decl_formed d p.first p.left
item_formed (Net d) ts p = net_decl_formed d ts p
item_formed (Params d) ts p = param_decl_formed d p.first p.left
item_formed (Assigns as') ts p =
    let q = p.right in
    separated_all assign_formed as' q.first q.left
item_formed (AlwaysBlock a) ts p =
    let q = p.right in
    (events_formed a.events q.left.second q.left.right, stmt_formed a.body q.second q.right)
item_formed (Instances i) ts p =
    let q = p.right in
    (param_links_formed i.params q.first q.left, separated_all copied_formed i.copies q.right.first q.right.left)

copied_long : (c : PlainCopied) (ts : List Symbol) → SpellsCopied c ts → 1 ≤ length ts
copied_long c ts p = omega (arith, long ts p, name_long c.name p.first p.left)

item_long : (x : PlainItem) (ts : List Symbol) → SpellsItem x ts → parts_of_item x ≤ length ts
item_long (Port d) ts p = omega (arith, long ts p, port_decl_long d p.first p.left, ap length p.right.is)
item_long (Net d) ts p = net_decl_long d ts p
item_long (Params d) ts p = omega (arith, long ts p, param_decl_long d p.first p.left, ap length p.right.is)
item_long (Assigns as') ts p = omega (arith, long ts p, ap length p.left.is)
item_long (AlwaysBlock a) ts p = omega (arith, long ts p, ap length p.left.is)
item_long (Instances i) ts p =
    let q = p.right in
    let r = q.right in
    omega (arith, long ts p, long p.second q, long q.second r, name_long i.of_module p.first p.left, separated_count copied_long i.copies r.first r.left)

-- ---- modules

group_formed : (d : PlainParamDecl) (ts : List Symbol) → SpellsGroup d ts → FormedParamDecl d
group_formed d ts p = param_decl_formed d ts p.1

group_long : (d : PlainParamDecl) (ts : List Symbol) → SpellsGroup d ts → length d.names ≤ length ts
group_long d ts p = param_decl_long d ts p.1

params_formed : (groups : List PlainParamDecl) (ts : List Symbol) → SpellsHeaderParams groups ts → All FormedParamDecl groups
params_formed [] ts p = All-nil FormedParamDecl
params_formed (d ∷ groups) ts p =
    let q = p.right.right in
    separated_all group_formed (d ∷ groups) q.first q.left

params_long : (groups : List PlainParamDecl) (ts : List Symbol) → SpellsHeaderParams groups ts → sum_by (λ d. length d.names) groups ≤ length ts
params_long [] ts p = omega arith
params_long (d ∷ groups) ts p =
    let q = p.right in
    let r = q.right in
    omega (arith, long ts p, long p.second q, long q.second r, separated_sum group_long (d ∷ groups) r.first r.left)

header_formed : (h : PlainHeader) (ts : List Symbol) → SpellsHeader h ts → FormedHeader h
header_formed (Plain names) ts p = tt
header_formed (Full ports) ts p =
    let q = p.right in
    separated_all port_decl_formed ports q.first q.left

header_long : (h : PlainHeader) (ts : List Symbol) → SpellsHeader h ts → ports_of h ≤ length ts
header_long (Plain []) ts p = omega arith
header_long (Plain (n ∷ names)) ts p =
    let q = p.right in
    omega (arith, long ts p, long p.second q, separated_count name_long (n ∷ names) q.first q.left)
header_long (Full ports) ts p =
    let q = p.right in
    omega (arith, long ts p, long p.second q, separated_sum port_decl_long ports q.first q.left)

pub module_formed : (m : PlainModule) (ts : List Symbol) → SpellsModule m ts → FormedModule m
module_formed m ts p =
    let q = p.right.right in
    let r = q.right in
    record {
      params = params_formed m.params q.first q.left;
      header = header_formed m.header r.first r.left;
      items = repeated_all item_formed m.items r.right.right.first r.right.right.left;
    }

pub module_long : (m : PlainModule) (ts : List Symbol) → SpellsModule m ts → parts_of m ≤ length ts
module_long m ts p =
    let a = p.right in
    let b = a.right in
    let c = b.right in
    let d = c.right in
    let e = d.right in
    omega (arith, long ts p, long p.second a, long a.second b, long b.second c, long c.second d, long d.second e, params_long m.params b.first b.left, header_long m.header c.first c.left, repeated_sum item_long m.items e.first e.left)
