-- The rows of refusals over modules and their hierarchy: TwoModules, the limit of modules, NoTop, NoModule, Recursive, and the
-- limits of depth and of instances (IEEE 1364-2001, clause 12.1).
use Rattle.std.specs.Prelude.{ℕ, zero, suc, nat_lt, Bool, true, ◌||◌, ◌&&◌, cond, List, [], ◌∷◌, ◌++◌, Option, map, filter, find, length, is_none}
use Rattle.std.specs.List.{flat_map, list_any, filter_map, sum_by}
use Rattle.rst_tree.specs.Trees.{Text}
use Rattle.rst_tree.specs.Modules.{PlainInstance, PlainCopied, PlainItem, PlainModule}
use Rattle.rst_tree.specs.Modules as tree
use Rattle.rst_names.specs.declared.faults.ElabCode.TheVariants as code
use Rattle.rst_names.specs.Faults.{Fault, fault_if, fault_at}
use Rattle.rst_names.specs.Names.{same_text, repeats}
use Rattle.rst_name_faults.specs.NameRows.{twice, bad_ports, no_names, bad_copies, bad_params}

-- The module of this name.
abbrev pub module_named : List PlainModule → Text → Option PlainModule
module_named modules name = find (λ m. same_text m.name name) modules

-- the item of instances, where it is one
abbrev pub instances_in : PlainItem → List PlainInstance
instances_in (tree.Instances i) = i ∷ []
instances_in _ = []

-- The names of the modules that a module places, one for each instance, in the order of the text.
abbrev pub placed_by : PlainItem → List Text
placed_by (tree.Instances i) = map (λ c. i.of_module) i.copies
placed_by _ = []

abbrev pub places_of : PlainModule → List Text
places_of m = flat_map placed_by m.items

abbrev pub modules_placed : List PlainModule → PlainModule → List PlainModule
modules_placed modules m = filter_map (module_named modules) (places_of m)

-- A module leads to this name by at most 2 ^ n instances, one inside the other.
unfoldable pub leads : ℕ → List PlainModule → PlainModule → Text → Bool
leads zero modules m name = list_any (λ k. same_text k.name name) (modules_placed modules m)
leads (suc n) modules m name = leads n modules m name || list_any (λ k. leads n modules m k.name && leads n modules k name) modules

-- No way from a module to another one is longer than the number of modules, which is at most 256.
abbrev pub reaches : List PlainModule → PlainModule → Text → Bool
reaches modules m name = leads 8 modules m name

-- The modules that are reached from the top, and the top itself.
abbrev pub is_used : List PlainModule → PlainModule → PlainModule → Bool
is_used modules top m = same_text m.name top.name || reaches modules top m.name

abbrev pub used : List PlainModule → PlainModule → List PlainModule
used modules top = filter (is_used modules top) modules

-- Below a module stand n instances, one inside the other.
unfoldable pub is_deep : ℕ → List PlainModule → PlainModule → Bool
is_deep zero modules m = true
is_deep (suc n) modules m = list_any (is_deep n modules) (modules_placed modules m)

-- How many instances an instance of the module is, itself and those below it, to a depth of n.
unfoldable pub instance_count : ℕ → List PlainModule → PlainModule → ℕ
instance_count zero modules m = 1
instance_count (suc n) modules m = suc (sum_by (instance_count n modules) (modules_placed modules m))

-- ---- the rows

-- "two modules have one name": "the first such second module"
abbrev pub two_modules : List PlainModule → List Fault
two_modules modules = map (λ n. fault_at code.TwoModules n 0) (repeats [] (map (λ m. m.name) modules))

-- the names of limits: `Modules`, `Depth`, `Instances`
abbrev pub modules_text : Text
modules_text = 77 ∷ 111 ∷ 100 ∷ 117 ∷ 108 ∷ 101 ∷ 115 ∷ []

abbrev pub depth_text : Text
depth_text = 68 ∷ 101 ∷ 112 ∷ 116 ∷ 104 ∷ []

abbrev pub instances_text : Text
instances_text = 73 ∷ 110 ∷ 115 ∷ 116 ∷ 97 ∷ 110 ∷ 99 ∷ 101 ∷ 115 ∷ []

-- "more than 256 modules"
abbrev pub module_limit : List PlainModule → List Fault
module_limit modules = fault_if (nat_lt 256 (length modules)) code.Limit modules_text 0

-- "a used module places an unknown module"
abbrev pub unknown_in : List PlainModule → PlainItem → List Fault
unknown_in modules (tree.Instances i) = cond (is_none (module_named modules i.of_module)) (map (λ c. fault_at code.NoModule i.of_module 0) i.copies) []
unknown_in modules _ = []

abbrev pub no_modules : List PlainModule → PlainModule → List Fault
no_modules modules m = flat_map (unknown_in modules) m.items

-- "a used module reaches itself"
abbrev pub recursive : List PlainModule → PlainModule → List Fault
recursive modules m = fault_if (reaches modules m m.name) code.Recursive m.name 0

-- "depth above 16", which counts the top
abbrev pub depth_limit : List PlainModule → PlainModule → List Fault
depth_limit modules top = fault_if (is_deep 16 modules top) code.Limit depth_text 0

-- "instances above 1,024", which count the top
abbrev pub instance_limit : List PlainModule → PlainModule → List Fault
instance_limit modules top = fault_if (nat_lt 1024 (instance_count 16 modules top)) code.Limit instances_text 0

abbrev pub bad_connects_in : List PlainModule → PlainItem → List Fault
bad_connects_in modules (tree.Instances i) = bad_copies i (module_named modules i.of_module)
bad_connects_in modules _ = []

abbrev pub bad_connects : List PlainModule → PlainModule → List Fault
bad_connects modules m = flat_map (bad_connects_in modules) m.items

abbrev pub no_parameters_in : List PlainModule → PlainItem → List Fault
no_parameters_in modules (tree.Instances i) = bad_params i (module_named modules i.of_module)
no_parameters_in modules _ = []

abbrev pub no_parameters : List PlainModule → PlainModule → List Fault
no_parameters modules m = flat_map (no_parameters_in modules) m.items

-- The rows that look at the used modules one by one, in their order.
pub data ModuleRow : Type 0 where
  NoModule : ModuleRow
  Recursive : ModuleRow
  Twice : ModuleRow
  BadPort : ModuleRow
  NoName : ModuleRow
  BadConnect : ModuleRow
  NoParameter : ModuleRow

abbrev pub module_faults : List PlainModule → ModuleRow → PlainModule → List Fault
module_faults modules NoModule m = no_modules modules m
module_faults modules Recursive m = recursive modules m
module_faults modules Twice m = twice m
module_faults modules BadPort m = bad_ports m
module_faults modules NoName m = no_names m
module_faults modules BadConnect m = bad_connects modules m
module_faults modules NoParameter m = no_parameters modules m

-- A row over the used modules, in the order of files and texts.
abbrev pub row_faults : List PlainModule → PlainModule → ModuleRow → List Fault
row_faults modules top row = flat_map (module_faults modules row) (used modules top)

-- Row by row over the whole design.
abbrev pub text_faults : List PlainModule → List Fault
text_faults modules = two_modules modules ++ module_limit modules

abbrev pub hierarchy_faults : List PlainModule → PlainModule → List Fault
hierarchy_faults modules top =
    flat_map (row_faults modules top) (NoModule ∷ Recursive ∷ []) ++ (depth_limit modules top ++ instance_limit modules top)

abbrev pub name_faults : List PlainModule → PlainModule → List Fault
name_faults modules top = flat_map (row_faults modules top) (Twice ∷ BadPort ∷ NoName ∷ BadConnect ∷ NoParameter ∷ [])
