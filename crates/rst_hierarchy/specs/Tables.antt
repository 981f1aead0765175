-- How the code shows the modules of a design, and its marks and counts.
use Rattle.std.specs.Prelude.{◌≡◌, ℕ, suc, nat_eq, min, Bool, false, ◌||◌, ◌&&◌, List, [], Option, None, Some, map, filter, position, length, get_or}
use Rattle.std.specs.List.{All, AllZip, flat_map, filter_map, list_any, sum_by, enumerate_from}
use Rattle.std.specs.Cmp.Lexicographic.{pointwise}
use Rattle.indexmap.specs.IndexMap.{get}
use Rattle.rst_tree.specs.Trees.{Text}
use Rattle.rst_tree.specs.declared.module.Source.{Source}
use Rattle.rst_tree.specs.Modules.{PlainModule, plain_module, plain_source}
use Rattle.rst_names.specs.declared.facts.Facts.{Facts}
use Rattle.rst_names.specs.Faults.{Fault}
use Rattle.rst_names.specs.Names.{same_text, is_among}
use Rattle.rst_names.specs.Declarations.{ports, settable}
use Rattle.indexmap.specs.IndexSet.{contains}
use Rattle.rst_hierarchy.specs.declared.connects.Names.{Names}
use Rattle.rst_hierarchy.specs.declared.connects.Linked.{Linked}
use Rattle.rst_hierarchy.specs.declared.hierarchy.NameRow.{NameRow}
use Rattle.rst_hierarchy.specs.declared.hierarchy.NameRow.TheVariants as row
use Rattle.rst_hierarchy.specs.Hierarchy.{ModuleRow, Twice, BadPort, NoName, BadConnect, NoParameter}
use Rattle.rst_hierarchy.specs.declared.modules as code
use Rattle.rst_hierarchy.specs.Hierarchy.{places_of}
pub use Rattle.rst_name_faults.specs.Tables.{module_of, AreRight}

-- the modules of all files, in the order of files and texts
abbrev pub modules_in : List Source → List PlainModule
modules_in sources = flat_map plain_source sources

abbrev pub plain_modules : code.Modules.Modules → List PlainModule
plain_modules m = map (λ r. plain_module r.now) m.list.items

-- the place of the module of a name
abbrev pub place_named : List PlainModule → Text → Option ℕ
place_named modules name = position (λ k. same_text k.name name) modules

pub record IsTable (m : code.Modules.Modules) : Type 0 where
  pub places : (name : Text) → get (pointwise nat_eq) m.places name ≡ place_named (plain_modules m) name

-- the tables of these modules
pub record AreFacts (modules : List PlainModule) (fs : List Facts) : Type 0 where
  pub all : All AreRight fs
  pub of : map module_of fs ≡ modules

-- ---- words of proofs

-- the places of the modules of names, and of those that a module places
abbrev pub places_named : List PlainModule → List Text → List ℕ
places_named modules names = filter_map (place_named modules) names

abbrev pub placed : List PlainModule → PlainModule → List ℕ
placed modules m = places_named modules (places_of m)

-- whether the place that is looked for is this one
abbrev pub is_place : Option ℕ → ℕ → Bool
is_place None k = false
is_place (Some wanted) k = nat_eq k wanted

-- marks of modules, and of each two of them
abbrev pub mark_at : List Bool → ℕ → Bool
mark_at marks place = get_or marks place false

abbrev pub mark_in : List (List Bool) → ℕ → ℕ → Bool
mark_in rows row place = mark_at (get_or rows row []) place

abbrev pub rows_of : (PlainModule → Text → Bool) → List PlainModule → List (List Bool)
rows_of test modules = map (λ m. map (λ k. test m k.name) modules) modules

-- which modules these places mark directly
abbrev pub direct_row : List PlainModule → List ℕ → List Bool
direct_row modules places = map (λ k. list_any (is_place (place_named modules k.name)) places) modules

-- one more doubling of a row, over each module that it marks
abbrev pub is_over : List (List Bool) → ℕ → ℕ × Bool → Bool
is_over rows to p = p.1 && mark_in rows p.0 to

abbrev pub leads_over : List (List Bool) → List Bool → ℕ → Bool
leads_over rows row to = list_any (is_over rows to) (enumerate_from 0 row)

abbrev pub next_mark : List (List Bool) → List Bool → ℕ × Bool → Bool
next_mark rows row p = p.1 || leads_over rows row p.0

abbrev pub doubled_row : List (List Bool) → List Bool → List Bool
doubled_row rows row = map (next_mark rows row) (enumerate_from 0 row)

abbrev pub doubled : List (List Bool) → List (List Bool)
doubled rows = map (doubled_row rows) rows

-- whether one of these places is marked, and how many instances stand below places of so many
abbrev pub one_marked : List Bool → List ℕ → Bool
one_marked marks places = list_any (mark_at marks) places

abbrev pub counted : List ℕ → List ℕ → ℕ
counted counts places = min (suc (sum_by (λ p. get_or counts p 0) places)) 1025

-- the faults of a row in the modules that a test passes
abbrev pub faults_where : (PlainModule → Bool) → (PlainModule → List Fault) → List PlainModule → List Fault
faults_where test row modules = flat_map row (filter test modules)

-- whether a set shows these names: how many, and which
pub record AreNames (names : List Text) (n : Names) : Type 0 where
  pub many : n.count ≡ length names
  pub among : (name : Text) → contains (pointwise nat_eq) n.set name ≡ is_among names name

-- what the links of a module's instances may name
pub record IsLinked (m : PlainModule) (l : Linked) : Type 0 where
  pub by_ports : AreNames (ports m) l.ports
  pub by_params : AreNames (settable m) l.params

abbrev pub AreLinked : List PlainModule → List Linked → Type 0
AreLinked modules ls = AllZip IsLinked modules ls

-- the same of the module of a name, where there is one
abbrev pub LinksOf : Option PlainModule → Option Linked → Type 0
LinksOf None None = Unit {0}
LinksOf None (Some l) = ⊥
LinksOf (Some m) None = ⊥
LinksOf (Some m) (Some l) = IsLinked m l

-- the rows over names as the definitions have them
abbrev pub plain_row : NameRow → ModuleRow
plain_row row.Twice = Twice
plain_row row.BadPort = BadPort
plain_row row.NoName = NoName
plain_row row.BadConnect = BadConnect
plain_row row.NoParameter = NoParameter
