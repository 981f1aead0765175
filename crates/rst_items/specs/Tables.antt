-- How the code shows reset forms, and instances with the tables of their modules.
use Rattle.std.specs.Prelude.{◌≡◌, ℕ, nat_eq, List, [], ◌++◌, Option, Some, None, map, slice_get, position}
use Rattle.std.specs.List.{All}
use Rattle.std.specs.Option.{option_map, option_and_then}
use Rattle.std.specs.Cmp.Lexicographic.{pointwise}
use Rattle.indexmap.specs.IndexMap.{get}
use Rattle.rst_tree.specs.Trees.{Text}
use Rattle.rst_tree.specs.Modules.{PlainItem, PlainModule, plain_module}
use Rattle.rst_width.specs.declared.scope.SignalShape.{SignalShape}
use Rattle.rst_width.specs.Scopes.{names_of}
use Rattle.rst_names.specs.declared.facts.Facts.{Facts}
use Rattle.rst_names.specs.Names.{same_text}
use Rattle.rst_names.specs.Tables.{total_at}
use Rattle.rst_hierarchy.specs.Tables.{AreFacts}
use Rattle.rst_instances.specs.declared.design as memory
use Rattle.rst_instances.specs.Places.{Located, dot}
use Rattle.rst_instances.specs.Tables.{leads_to}
use Rattle.rst_instances.specs.Locations.{plain_located, IsLocated}
use Rattle.rst_items.specs.declared.reset_forms.ResetForm as form
use Rattle.rst_items.specs.declared.reset_forms.Condition as condition
use Rattle.rst_items.specs.declared.links.Site as site
use Rattle.rst_items.specs.declared.links.Whole as whole
use Rattle.rst_items.specs.ResetForms.{Condition, ResetForm}
use Rattle.rst_items.specs.Seen.{Seen, Placed}

-- ---- reset forms

abbrev pub plain_condition : condition.Condition → Condition
plain_condition c = record { name = c.name.now; level = c.level }

abbrev pub plain_form : form.ResetForm → ResetForm
plain_form f = record { reset = f.reset.now; level = f.level; clock = f.clock.now }

-- ---- an instance beside the tables of its module

-- the width of a signal; 1 for what is none
abbrev pub width_or : Option SignalShape → ℕ
width_or None = 1
width_or (Some s) = s.width

abbrev pub width_by : Facts → memory.Located.Located → Text → ℕ
width_by f l name = width_or (option_and_then (λ i. slice_get l.shapes.items i) (get (pointwise nat_eq) f.signal_places name))

abbrev pub seen_by : Facts → memory.Located.Located → Seen
seen_by f l = record {
  path = l.place.path;
  prefix = l.place.prefix;
  total = total_at f;
  names = names_of l.names;
  width = width_by f l;
  leads = leads_to l.place f;
  port_names = map (λ n. n.now) f.ports.items;
}

abbrev pub seen_site : site.Site → Seen
seen_site s = seen_by s.facts.now s.located.now

-- ---- all instances

-- the tables of an instance's module
abbrev pub facts_at : whole.Whole → memory.Located.Located → Option Facts
facts_at w l = slice_get w.design.now.facts.now l.place.of

abbrev pub seen_in : whole.Whole → memory.Located.Located → Option Seen
seen_in w l = option_map (λ f. seen_by f l) (facts_at w l)

abbrev pub seen_at : whole.Whole → ℕ → Option Seen
seen_at w i = option_and_then (seen_in w) (slice_get w.all.now i)

-- which instance each copy places, by the table of prefixes
abbrev pub placed_in : whole.Whole → memory.Located.Located → Placed
placed_in w l c = option_and_then (seen_at w) (get (pointwise nat_eq) w.prefixes.now ((l.place.prefix ++ c.name) ++ dot))

-- what a row makes of the items of an instance, by its tables; nothing where it has none
abbrev pub by_tables : {X : Type 0} → (Placed → Seen → List PlainItem → List X) → Placed → memory.Located.Located → Option Facts → List X
by_tables row placed l None = []
by_tables row placed l (Some f) = row placed (seen_by f l) (plain_module f.module.now).items

abbrev pub at_place : {X : Type 0} → (Placed → Seen → List PlainItem → List X) → whole.Whole → memory.Located.Located → List X
at_place row w l = by_tables row (placed_in w l) l (facts_at w l)

-- ---- what the tables have to say

-- All instances of a design of these modules.
pub record IsWhole (modules : List PlainModule) (w : whole.Whole) : Type 0 where
  pub declared : AreFacts modules w.design.now.facts.now
  pub instances : All (IsLocated modules) w.all.now
  pub prefixes : (prefix : Text) → get (pointwise nat_eq) w.prefixes.now prefix ≡ position (λ l. same_text l.place.prefix prefix) w.all.now

abbrev pub located_in : List PlainModule → whole.Whole → List Located
located_in modules w = map (plain_located modules) w.all.now
