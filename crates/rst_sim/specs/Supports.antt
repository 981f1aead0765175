-- Words on the search for the largest closed set.
use Rattle.std.specs.Prelude.{ℕ, Bool, true, ◌&&◌, List, [], ◌∷◌, count_by}
use Rattle.rst_value.specs.Domains.{Named}

-- the reading that says what lies below a node, as results of a domain that writes nothing
abbrev pub supports : Named Bool
supports = record {
  constant = λ c b. (true, c);
  negation = λ c a. (a, c);
  both = λ c a b. (a && b, c);
  differ = λ c a b. (a && b, c);
  choice = λ c s a b. (s && a && b, c);
}

-- the members of the first set that are in the second
abbrev pub narrowed : List Bool → List Bool → List Bool
narrowed [] other = []
narrowed (a ∷ set) [] = []
narrowed (a ∷ set) (b ∷ other) = (a && b) ∷ narrowed set other

-- how many members
abbrev pub members : List Bool → ℕ
members set = count_by (λ member. member) set
