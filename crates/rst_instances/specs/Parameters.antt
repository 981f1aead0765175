-- The values of the parameters of an instance (IEEE 1364-2001, clauses 3.11 and 12.2).
use Rattle.std.specs.Prelude.{ℕ, suc, ◌%◌, ◌^◌, nat_lt, Bool, not, cond, ◌&&◌, ◌||◌, List, [], ◌∷◌, ◌++◌, Option, Some, None, map, filter, find, is_some, unwrap_or, Result, Ok, Err, ℤ, pos, int_le, ◌-ℤ◌, unsigned_abs}
use Rattle.std.specs.List.{filter_map}
use Rattle.std.specs.Option.{option_map}
use Rattle.rst_word.specs.Words.{PlainWord, number_of}
use Rattle.rst_tree.specs.Trees.{Text, Tree}
use Rattle.rst_tree.specs.Modules.{PlainRange, PlainParamDecl, PlainParamName, PlainLink, PlainLinks, PlainModule}
use Rattle.rst_tree.specs.Modules as tree
use Rattle.rst_width.specs.declared.typed_expr.WidthFault.{WidthFault}
use Rattle.rst_width.specs.declared.typed_expr.WidthFault.TheVariants as width
use Rattle.rst_width.specs.Scopes.{Names, Meaning, Param, Later}
use Rattle.rst_width.specs.Answers.{constant_answer}
use Rattle.rst_names.specs.declared.faults.ElabCode.{ElabCode}
use Rattle.rst_names.specs.declared.faults.ElabCode.TheVariants as code
use Rattle.rst_names.specs.Names.{same_text}
use Rattle.rst_names.specs.Declarations.{Declaration, declarations, is_signal, is_value, param_decls}

-- ---- what names stand for

pub record Known : Type 0 where
  pub name : Text
  pub meaning : Meaning

abbrev pub known : Text → Meaning → Known
known name meaning = record { name = name; meaning = meaning }

-- The names of a list; of several entries with one name the first counts.
abbrev pub names_from : List Known → Names
names_from ks name = option_map (λ k. k.meaning) (find (λ k. same_text k.name name) ks)

-- The code of a fault of an expression. (Want of memory is no fault of an expression, and no answer has it.)
abbrev pub code_of : WidthFault → ElabCode
code_of (width.NoName name) = code.NoName
code_of width.TooWide = code.TooWide
code_of width.ZeroWidth = code.ZeroWidth
code_of width.BadSelect = code.BadSelect
code_of width.MayLeaveRange = code.MayLeaveRange
code_of width.NotConstant = code.NotConstant
code_of width.ZeroDivisor = code.ZeroDivisor
code_of width.NoMemory = code.NoName

abbrev pub coded : {X : Type 0} → Result X WidthFault → Result X ElabCode
coded (Ok x) = Ok x
coded (Err fault) = Err (code_of fault)

infixl 10 ◌then◌
abbrev pub ◌then◌ : {X Y : Type 0} → Result X ElabCode → (X → Result Y ElabCode) → Result Y ElabCode
Ok x then f = f x
Err e then f = Err e

-- ---- ranges

pub record Ends : Type 0 where
  pub high : ℤ
  pub low : ℤ

-- The ends of a range are constant words, the high one first; the number of a constant word is read by its sign.
abbrev pub ends_answer : Names → PlainRange → Result Ends ElabCode
ends_answer names r =
    coded (constant_answer names r.high 0) then λ h. coded (constant_answer names r.low 0) then λ l.
    Ok (record { high = number_of h; low = number_of l })

-- "not 0 <= low <= high < 65,536"
abbrev pub is_bad_range : Ends → Bool
is_bad_range ends = not (int_le (pos 0) ends.low && (int_le ends.low ends.high && int_le ends.high (pos 65535)))

abbrev pub width_of : Ends → ℕ
width_of ends = suc (unsigned_abs (ends.high -ℤ ends.low))

-- The width of a parameter's range, where it has one: "faulty as in" the ranges of signals, the ends first.
abbrev pub checked_width : Ends → Result (Option ℕ) ElabCode
checked_width ends = cond (is_bad_range ends) (Err code.BadRange) (cond (nat_lt 64 (width_of ends)) (Err code.TooWide) (Ok (Some (width_of ends))))

abbrev pub param_width : Names → Option PlainRange → Result (Option ℕ) ElabCode
param_width names None = Ok None
param_width names (Some r) = ends_answer names r then checked_width

-- ---- values

-- A parameter with its value, or with the code of the first fault of its range and its value.
pub record Valued : Type 0 where
  pub name : Text
  pub value : Result PlainWord ElabCode

-- A link with a value, to this name.
pub record Linked : Type 0 where
  pub name : Text
  pub value : Tree

abbrev pub linked : Text → Tree → Linked
linked name value = record { name = name; value = value }

-- Links by order, to these names; an empty one links nothing.
abbrev pub linked_in_order : List Text → List (Option Tree) → List Linked
linked_in_order [] es = []
linked_in_order (n ∷ ns) [] = []
linked_in_order (n ∷ ns) (None ∷ es) = linked_in_order ns es
linked_in_order (n ∷ ns) (Some e ∷ es) = linked n e ∷ linked_in_order ns es

abbrev pub links_to : List Text → PlainLinks → List Linked
links_to names (tree.Ordered es) = linked_in_order names es
links_to names (tree.Named ls) = filter_map (λ l. option_map (linked l.name) l.value) ls

abbrev pub link_to : List Linked → Text → Option Linked
link_to links name = find (λ l. same_text l.name name) links

-- "An untyped parameter takes the width and sign of its final value; with `signed` alone, its width. With a range it has that
-- range, unsigned unless `signed` is given, and its final value is converted as in an assignment."
abbrev pub as_declared : Bool → Option ℕ → PlainWord → PlainWord
as_declared signed None w = record { width = w.width; signed = signed || w.signed; value = w.value }
as_declared signed (Some width) w = record { width = width; signed = signed; value = w.value % 2 ^ width }

-- Its value, at the larger of its own width and that of the range.
abbrev pub value_at : Names → Bool → Option ℕ → Tree → Result PlainWord ElabCode
value_at names signed range e = coded (constant_answer names e (unwrap_or range 0)) then λ w. Ok (as_declared signed range w)

-- "Overrides are worked out in the parent", and an overridden default isn't worked out.
abbrev pub value_of : Names → Names → Bool → Option ℕ → Tree → Option Linked → Result PlainWord ElabCode
value_of own outside signed range default None = value_at own signed range default
value_of own outside signed range default (Some set) = value_at outside signed range set.value

-- The values of parameters as names, those without one left out.
abbrev pub known_value : Valued → Option Known
known_value v = elim v.value as (λ _. Option Known) [ Ok w ↦ Some (known v.name (Param w)) | Err e ↦ None ]

abbrev pub known_values : List Valued → List Known
known_values values = filter_map known_value values

-- The names of a module before they have a width and sign: signals, with or without a range, and parameters.
abbrev pub later : Declaration → Known
later d = known d.name (Later (is_signal d.form && is_some d.range))

abbrev pub laters : List Declaration → List Known
laters ds = map later (filter (λ d. is_value d.form) ds)

abbrev pub unshaped : PlainModule → List Known
unshaped m = laters (declarations m)

-- "A parameter's value and its range may use only parameters declared before it; any other is NotConstant." So is a signal.
abbrev pub names_behind : PlainModule → List Valued → Names
names_behind m values = names_from (known_values values ++ unshaped m)

-- the value of one parameter, behind those before it; its declaration has this width
abbrev pub valued : PlainModule → Names → List Linked → PlainParamDecl → Result (Option ℕ) ElabCode → List Valued → PlainParamName → Valued
valued m outside links d width before p =
    record { name = p.name; value = width then λ range. value_of (names_behind m before) outside d.signed range p.value (link_to links p.name) }

-- The values of the parameters of one declaration, whose range is worked out once, behind those before it.
abbrev pub values_of_names : PlainModule → Names → List Linked → PlainParamDecl → Result (Option ℕ) ElabCode → List Valued → List PlainParamName → List Valued
values_of_names m outside links d width before [] = before
values_of_names m outside links d width before (p ∷ ps) =
    values_of_names m outside links d width (before ++ valued m outside links d width before p ∷ []) ps

abbrev pub values_of_decls : PlainModule → Names → List Linked → List Valued → List PlainParamDecl → List Valued
values_of_decls m outside links before [] = before
values_of_decls m outside links before (d ∷ ds) =
    values_of_decls m outside links (values_of_names m outside links d (param_width (names_behind m before) d.range) before d.names) ds

-- The values of all parameters of an instance of this module, in the order of the text, where these links set some of them to
-- what they are outside.
abbrev pub values_of : PlainModule → Names → List Linked → List Valued
values_of m outside links = values_of_decls m outside links [] (param_decls m)
