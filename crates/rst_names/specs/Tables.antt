-- How the code shows what a module declares: its tables agree with the definitions.
use Rattle.std.specs.Prelude.{◌≡◌, ℕ, nat_eq, Bool, false, not, ◌&&◌, ◌||◌, cond, List, Option, Some, None, is_none, map, position}
use Rattle.std.specs.List.{list_any}
use Rattle.std.specs.Option.{option_map}
use Rattle.std.specs.Cmp.Lexicographic.{pointwise}
use Rattle.indexmap.specs.IndexMap.{IndexMap, get}
use Rattle.rst_tree.specs.Trees.{Text}
use Rattle.rst_tree.specs.Modules.{PlainRange, PlainModule, plain_range, plain_module}
use Rattle.rst_names.specs.declared.forms as code
use Rattle.rst_names.specs.declared.facts as facts
use Rattle.rst_names.specs.Names.{same_text}
use Rattle.rst_names.specs.Declarations.{Declaration, Declared, declarations, of_name, declares, is_input, is_output, is_signal, is_reg, is_parameter, signal_declarations, first_range, ports, settable, signals}

abbrev pub plain_declaration : code.Declaration.Declaration → Declaration
plain_declaration d = record { name = d.name.now; form = d.form; signed = d.signed; range = option_map (λ r. plain_range r.now) d.range }

abbrev pub plain_declared : facts.Declared.Declared → Declared
plain_declared d = record {
  name = d.name.now;
  input = d.input;
  output = d.output;
  reg = d.reg;
  signed = d.signed;
  range = option_map (λ r. plain_range r.now) d.range;
}

-- All declarations of one name together.
pub record Total : Type 0 where
  pub input : Bool
  pub output : Bool
  pub signal : Bool
  pub reg : Bool
  pub parameter : Bool
  pub signed : Bool
  pub range : Option PlainRange

abbrev pub total_in : List Declaration → Text → Total
total_in ds name = record {
  input = declares is_input ds name;
  output = declares is_output ds name;
  signal = declares is_signal ds name;
  reg = declares is_reg ds name;
  parameter = declares is_parameter ds name;
  signed = list_any (λ d. d.signed) (of_name name (signal_declarations ds));
  range = first_range (of_name name (signal_declarations ds));
}

abbrev pub plain_summary : facts.Summary.Summary → Total
plain_summary s = record {
  input = s.input;
  output = s.output;
  signal = s.signal;
  reg = s.reg;
  parameter = s.parameter;
  signed = s.signed;
  range = option_map (λ r. plain_range r.now) s.range;
}

abbrev pub total_or : Option facts.Summary.Summary → Total
total_or None = record { input = false; output = false; signal = false; reg = false; parameter = false; signed = false; range = None }
total_or (Some s) = plain_summary s

-- one more declaration of a name
abbrev pub with_declaration : Total → Declaration → Total
with_declaration t d = record {
  input = t.input || is_input d.form;
  output = t.output || is_output d.form;
  signal = t.signal || is_signal d.form;
  reg = t.reg || is_reg d.form;
  parameter = t.parameter || is_parameter d.form;
  signed = t.signed || (is_signal d.form && d.signed);
  range = cond (is_signal d.form && not t.signal) d.range t.range;
}

-- the signal that these facts of a name make
abbrev pub declared_by : Text → Total → Declared
declared_by name t = record { name = name; input = t.input; output = t.output; reg = t.reg; signed = t.signed; range = t.range }

-- the place that a name has, or else this one, if the test holds
abbrev pub or_here : Option ℕ → Bool → ℕ → Option ℕ
or_here None test place = cond test (Some place) None
or_here (Some first) test place = Some first

-- the signal that a table makes of a name, and whether a name has no place in one
abbrev pub signal_by : {S : Type 0} → IndexMap Text facts.Summary.Summary S → Text → Declared
signal_by table name = declared_by name (total_or (get (pointwise nat_eq) table name))

abbrev pub is_new : {S : Type 0} → IndexMap Text ℕ S → Text → Bool
is_new places name = is_none (get (pointwise nat_eq) places name)

-- what the tables say of a name
abbrev pub total_at : facts.Facts.Facts → Text → Total
total_at f name = total_or (get (pointwise nat_eq) f.summaries name)

-- a name that is neither a signal nor a parameter, and one that is a signal
abbrev pub is_undeclared : facts.Facts.Facts → Text → Bool
is_undeclared f name = not ((total_at f name).signal || (total_at f name).parameter)

abbrev pub is_signal_in : facts.Facts.Facts → Text → Bool
is_signal_in f name = (total_at f name).signal

-- The tables of this module.
pub record IsFacts (m : PlainModule) (f : facts.Facts.Facts) : Type 0 where
  pub of : plain_module f.module.now ≡ m
  pub declared : map plain_declaration f.declarations.items ≡ declarations m
  pub port_names : map (λ n. n.now) f.ports.items ≡ ports m
  pub port_places : (name : Text) → get (pointwise nat_eq) f.port_places name ≡ position (λ n. same_text n name) (ports m)
  pub settable_names : map (λ n. n.now) f.settable.items ≡ settable m
  pub signal_facts : map plain_declared f.signals.items ≡ signals m
  pub signal_places : (name : Text) → get (pointwise nat_eq) f.signal_places name ≡ position (λ d. same_text d.name name) (signals m)
  pub summaries : (name : Text) → total_or (get (pointwise nat_eq) f.summaries name) ≡ total_in (declarations m) name
