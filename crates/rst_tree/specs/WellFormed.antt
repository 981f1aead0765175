-- Which modules are well formed: what holds of each module that a text spells beyond the types of its parts. Calls that
-- take modules and not texts ask for it.
use Rattle.std.specs.Prelude.{◌≡◌, ℕ, ◌+◌, ◌≤◌, suc, List, [], ◌∷◌, length, Bool, true, false, Option, Some, None}
use Rattle.std.specs.List.{All, sum_by}
use Rattle.rst_tree.specs.Trees as trees
use Rattle.rst_tree.specs.Trees.{Tree, Trees, Number, Name, Paren, Unary, Binary, Choose, Repeat, Signed, Unsigned}
use Rattle.rst_tree.specs.Targets as targets
use Rattle.rst_tree.specs.Targets.{Place, Places, Whole}
use Rattle.rst_tree.specs.Statements.{Statement, Statements, Arms, Block, If, IfElse, Case, Set, Empty, end, more, no_arm, labels, otherwise}
use Rattle.rst_tree.specs.Modules.{PlainRange, PlainPortDecl, PlainParamName, PlainParamDecl, PlainNetName, PlainNetDecl, PlainAssign, PlainEvents, Any, OneOf, PlainAlways, PlainLink, PlainLinks, Ordered, Named, PlainCopied, PlainInstance, PlainItem, Port, Net, Params, Assigns, AlwaysBlock, Instances, PlainHeader, Plain, Full, PlainModule, height_of_module}

-- ---- expressions

abbrev pub HasTree : Trees → Type 0
HasTree trees.end = ⊥
HasTree (trees.more e es) = Unit {0}

-- No join and no repetition is without parts, and no literal has masked bits.
abbrev mutual
  pub Formed : Tree → Type 0
  Formed (Number n) = n.mask ≡ 0
  Formed (Name n) = Unit {0}
  Formed (trees.Bit n i) = Formed i
  Formed (trees.Part n h l) = Formed h × Formed l
  Formed (Paren e) = Formed e
  Formed (Unary op e) = Formed e
  Formed (Binary op a b) = Formed a × Formed b
  Formed (Choose c a b) = Formed c × Formed a × Formed b
  Formed (trees.Join es) = HasTree es × AllFormed es
  Formed (Repeat n es) = Formed n × HasTree es × AllFormed es
  Formed (Signed e) = Formed e
  Formed (Unsigned e) = Formed e

  pub AllFormed : Trees → Type 0
  AllFormed trees.end = Unit {0}
  AllFormed (trees.more e es) = Formed e × AllFormed es

-- ---- targets

abbrev pub HasTarget : Places → Type 0
HasTarget targets.end = ⊥
HasTarget (targets.more t ts) = Unit {0}

-- No join is without parts.
abbrev mutual
  pub FormedTarget : Place → Type 0
  FormedTarget (Whole n) = Unit {0}
  FormedTarget (targets.Bit n i) = Formed i
  FormedTarget (targets.Part n h l) = Formed h × Formed l
  FormedTarget (targets.Join ts) = HasTarget ts × AllFormedTargets ts

  pub AllFormedTargets : Places → Type 0
  AllFormedTargets targets.end = Unit {0}
  AllFormedTargets (targets.more t ts) = FormedTarget t × AllFormedTargets ts

-- ---- statements

-- A label is a well formed expression or, under casez, one literal, which may have masked bits.
abbrev pub FormedLabel : Bool → Tree → Type 0
FormedLabel true (Number n) = Unit {0}
FormedLabel wild e = Formed e

abbrev pub FormedLabels : Bool → Trees → Type 0
FormedLabels wild trees.end = Unit {0}
FormedLabels wild (trees.more e es) = FormedLabel wild e × FormedLabels wild es

abbrev pub HasArm : Arms → Type 0
HasArm no_arm = ⊥
HasArm _ = Unit {0}

-- how many arms are a default
abbrev pub defaults : Arms → ℕ
defaults no_arm = 0
defaults (labels es s others) = defaults others
defaults (otherwise s others) = suc (defaults others)

-- Each case has an arm and at most one default, and each arm that is no default has a label.
abbrev mutual
  pub FormedStmt : Statement → Type 0
  FormedStmt (Block ss) = AllFormedStmts ss
  FormedStmt (If c s) = Formed c × FormedStmt s
  FormedStmt (IfElse c s t) = Formed c × FormedStmt s × FormedStmt t
  FormedStmt (Case wild e arms) = Formed e × HasArm arms × (defaults arms ≤ 1) × FormedArms arms wild
  FormedStmt (Set t e blocking) = FormedTarget t × Formed e
  FormedStmt Empty = Unit {0}

  pub AllFormedStmts : Statements → Type 0
  AllFormedStmts end = Unit {0}
  AllFormedStmts (more s ss) = FormedStmt s × AllFormedStmts ss

  pub FormedArms : Arms → Bool → Type 0
  FormedArms no_arm wild = Unit {0}
  FormedArms (labels es s others) wild = HasTree es × FormedLabels wild es × FormedStmt s × FormedArms others wild
  FormedArms (otherwise s others) wild = FormedStmt s × FormedArms others wild

-- ---- declarations

-- of an optional part
abbrev pub FormedIf : {A : Type 0} → (A → Type 0) → Option A → Type 0
FormedIf P None = Unit {0}
FormedIf P (Some x) = P x

abbrev pub FormedRange : PlainRange → Type 0
FormedRange r = Formed r.high × Formed r.low

abbrev pub FormedPortDecl : PlainPortDecl → Type 0
FormedPortDecl d = FormedIf FormedRange d.range

abbrev pub FormedParamName : PlainParamName → Type 0
FormedParamName n = Formed n.value

abbrev pub FormedParamDecl : PlainParamDecl → Type 0
FormedParamDecl d = FormedIf FormedRange d.range × All FormedParamName d.names

-- A reg has no value where it is declared.
abbrev pub FormedNetValue : Bool → Option Tree → Type 0
FormedNetValue reg None = Unit {0}
FormedNetValue false (Some e) = Formed e
FormedNetValue true (Some e) = ⊥

abbrev pub FormedNetName : Bool → PlainNetName → Type 0
FormedNetName reg n = FormedNetValue reg n.value

abbrev pub FormedNetDecl : PlainNetDecl → Type 0
FormedNetDecl d = FormedIf FormedRange d.range × All (FormedNetName d.reg) d.names

-- ---- items

abbrev pub FormedAssign : PlainAssign → Type 0
FormedAssign a = FormedTarget a.target × Formed a.value

-- A list of events has one.
abbrev pub FormedEvents : PlainEvents → Type 0
FormedEvents Any = Unit {0}
FormedEvents (OneOf []) = ⊥
FormedEvents (OneOf (e ∷ es)) = Unit {0}

abbrev pub FormedAlways : PlainAlways → Type 0
FormedAlways a = FormedEvents a.events × FormedStmt a.body

abbrev pub FormedLink : PlainLink → Type 0
FormedLink l = FormedIf Formed l.value

abbrev pub FormedLinks : PlainLinks → Type 0
FormedLinks (Ordered es) = All (FormedIf Formed) es
FormedLinks (Named ls) = All FormedLink ls

abbrev pub FormedCopied : PlainCopied → Type 0
FormedCopied c = FormedLinks c.ports

abbrev pub FormedInstance : PlainInstance → Type 0
FormedInstance i = FormedLinks i.params × All FormedCopied i.copies

abbrev pub FormedItem : PlainItem → Type 0
FormedItem (Port d) = FormedPortDecl d
FormedItem (Net d) = FormedNetDecl d
FormedItem (Params d) = FormedParamDecl d
FormedItem (Assigns as') = All FormedAssign as'
FormedItem (AlwaysBlock a) = FormedAlways a
FormedItem (Instances i) = FormedInstance i

abbrev pub FormedHeader : PlainHeader → Type 0
FormedHeader (Plain names) = Unit {0}
FormedHeader (Full ports) = All FormedPortDecl ports

-- ---- modules

pub record FormedModule (m : PlainModule) : Type 0 where
  pub params : All FormedParamDecl m.params
  pub header : FormedHeader m.header
  pub items : All FormedItem m.items

-- An item counts as one, and so does each name that it declares and each copy in it.
abbrev pub parts_of_item : PlainItem → ℕ
parts_of_item (Port d) = suc (length d.names)
parts_of_item (Net d) = suc (length d.names)
parts_of_item (Params d) = suc (length d.names)
parts_of_item (Assigns as') = 1
parts_of_item (AlwaysBlock a) = 1
parts_of_item (Instances i) = suc (length i.copies)

-- how many ports a header has
abbrev pub ports_of : PlainHeader → ℕ
ports_of (Plain names) = length names
ports_of (Full ports) = sum_by (λ d. length d.names) ports

-- how many items, ports, parameters, declared names and copies a module has together
abbrev pub parts_of : PlainModule → ℕ
parts_of m = sum_by (λ d. length d.names) m.params + (ports_of m.header + sum_by parts_of_item m.items)

pub record WellFormed (m : PlainModule) : Type 0 where
  pub formed : FormedModule m
  pub few : parts_of m ≤ 1048576
  pub low : height_of_module m ≤ 200
