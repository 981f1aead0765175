-- What is read off the lines of certificates.
use Rattle.std.specs.Prelude.{◌&&◌, ◌+◌, ◌-◌, ◌^◌, ℕ, ℤ, Bool, false, nat_le, nat_lt, Option, None, Some, List, [], ◌∷◌, length, codes, if◌then◌else◌}
use Rattle.rst_value.specs.declared.tern.Tern.{Tern}
use Rattle.rst_pair.specs.declared.hop.Hop.{Hop}
use Rattle.rst_pair.specs.declared.query.Kind.{Kind}
use Rattle.rst_pair.specs.declared.query.Kind.TheVariants.{Split, Land, Escape, Stuck}
use Rattle.rst_pair.specs.declared.journal.Entry.{Entry}
use Rattle.rst_pair.specs.declared.journal.Entry.TheVariants.{Candidate, Conflict, Blocked, Freed, Built}
use Rattle.rst_cert_lines.specs.declared.lines.Shape.{Shape}
use Rattle.rst_cert_lines.specs.declared.lines.Place.{Place}
use Rattle.rst_cert_lines.specs.Reading.{Read, ◌>>=◌, when, or_else, after, bits_at, places_at, number_at, literals_behind}

-- the input of a cycle
unfoldable pub step_at : ℕ → List ℕ → Read (List Bool)
step_at inputs text = after (codes "step =") text >>= λ step. bits_at inputs step.1

-- the input of a cycle, whose bits may be free
unfoldable pub free_step_at : ℕ → List ℕ → Read (List Tern)
free_step_at inputs text = after (codes "step =") text >>= λ step. places_at inputs step.1

-- a word, a space and a number
unfoldable pub counted_at : List ℕ → List ℕ → Read ℕ
counted_at word text = after word text >>= λ first. after (codes " ") first.1 >>= λ space. number_at space.1

-- a word and so many bits
unfoldable pub state_at : List ℕ → ℕ → List ℕ → Read (List Bool)
state_at word count text = after word text >>= λ first. after (codes " =") first.1 >>= λ equals. bits_at count equals.1

-- a clause
unfoldable pub clause_at : List ℕ → Read (List ℤ)
clause_at text = after (codes "clause ") text >>= λ first. literals_behind (length first.1) [] first.1

-- the number of an earlier hop, of those before
abbrev pub earlier_in : ℕ → ℕ × List ℕ → Read (Option ℕ)
earlier_in before it = if nat_lt it.0 before then Some (Some it.0, it.1) else None

abbrev pub no_next : Unit {0} × List ℕ → Read (Option ℕ)
no_next it = Some (None, it.1)

-- where a hop leads that has so many before it
unfoldable pub target_at : List ℕ → ℕ → List ℕ → Read (Option ℕ)
target_at word before text =
    or_else (after word text >>= no_next)
    (after (codes "to ") text >>= λ first. number_at first.1 >>= earlier_in before)

-- a hop
unfoldable pub hop_at : Shape → List ℕ → ℕ → List ℕ → Read Hop
hop_at shape word before text =
    after (codes "=") text >>= λ equals. places_at (shape.registers + shape.registers) equals.1
    >>= λ cube. after (codes " via =") cube.1 >>= λ via. bits_at shape.inputs via.1
    >>= λ input. after (codes " ") input.1 >>= λ space. target_at word before space.1
    >>= λ next. Some (record { cube = cube.0; input = input.0; next = next.0 }, next.1)

-- a hop on a line of its own
unfoldable pub hop_line_at : Shape → List ℕ → ℕ → List ℕ → Read Hop
hop_line_at shape word before text = after (codes "cube ") text >>= λ first. hop_at shape word before first.1

-- the pair that a hop was found for
unfoldable pub pair_at : ℕ → List ℕ → Read (List Bool)
pair_at registers text = after (codes " pair =") text >>= λ pair. bits_at (registers + registers) pair.1

-- the level of an input bit
abbrev pub first_bit : List Bool → Bool
first_bit [] = false
first_bit (bit ∷ bits) = bit

-- an input bit below 2^32, and its level
unfoldable pub candidate_at : List ℕ → Read Entry
candidate_at text =
    number_at text >>= λ input. when (nat_lt input.0 (2 ^ 32)) (after (codes " ") input.1 >>= λ space. bits_at 1 space.1
    >>= λ level. Some (Candidate input.0 (first_bit level.0), level.1))

-- the kind of a query
unfoldable pub kind_at : List ℕ → Read Kind
kind_at text =
    or_else (after (codes "split") text >>= λ it. Some (Split, it.1))
    (or_else (after (codes "land") text >>= λ it. Some (Land, it.1))
    (or_else (after (codes "escape") text >>= λ it. Some (Escape, it.1))
    (after (codes "stuck") text >>= λ it. Some (Stuck, it.1))))

-- how many places the path of a query has, at least and at most: over the inputs and both states of the split, with the marked
-- registers shared; over both states, and in version 2 up to 1,024 free bits; over the inputs and both states; over both states
abbrev pub least_places : Shape → ℕ → Kind → ℕ
least_places shape marked Split = shape.inputs + (shape.registers + (shape.registers - marked))
least_places shape marked Land = shape.registers + shape.registers
least_places shape marked Escape = shape.inputs + (shape.registers + shape.registers)
least_places shape marked Stuck = shape.registers + shape.registers

abbrev pub more_places : Bool → Kind → ℕ
more_places free Land = if free then 1024 else 0
more_places free Split = 0
more_places free Escape = 0
more_places free Stuck = 0

abbrev pub fits_query : Shape → ℕ → Bool → Kind → ℕ → Bool
fits_query shape marked free kind count = nat_le (least_places shape marked kind) count && nat_le count (least_places shape marked kind + more_places free kind)

-- a path of a query, up to the end
unfoldable pub conflict_at : Shape → ℕ → Bool → List ℕ → Read Entry
conflict_at shape marked free text =
    kind_at text >>= λ kind. after (codes " =") kind.1 >>= λ equals.
    when (fits_query shape marked free kind.0 (length equals.1)) (places_at (length equals.1) equals.1 >>= λ cube. Some (Conflict kind.0 cube.0, cube.1))

-- two states
unfoldable pub built_at : ℕ → List ℕ → Read Entry
built_at registers text =
    after (codes "=") text >>= λ equals. bits_at registers equals.1 >>= λ a. after (codes " =") a.1 >>= λ more. bits_at registers more.1
    >>= λ b. Some (Built a.0 b.0, b.1)

unfoldable pub blocked_entry_at : Shape → ℕ → List ℕ → Read Entry
blocked_entry_at shape before text =
    hop_at shape (codes "out") before text >>= λ hop. pair_at shape.registers hop.1 >>= λ pair. Some (Blocked hop.0 pair.0, pair.1)

unfoldable pub freed_entry_at : Shape → ℕ → List ℕ → Read Entry
freed_entry_at shape before text =
    hop_at shape (codes "in") before text >>= λ hop. pair_at shape.registers hop.1 >>= λ pair. Some (Freed hop.0 pair.0, pair.1)

abbrev pub entry_by : Place → Read (Unit {0}) → Read (Unit {0}) → Read (Unit {0}) → Read (Unit {0}) → Read (Unit {0}) → Read Entry
entry_by place (Some it) b c d e = candidate_at it.1
entry_by place None (Some it) c d e = conflict_at place.shape place.marked place.free it.1
entry_by place None None (Some it) d e = blocked_entry_at place.shape place.blocked it.1
entry_by place None None None (Some it) e = freed_entry_at place.shape place.freed it.1
entry_by place None None None None (Some it) = built_at place.shape.registers it.1
entry_by place None None None None None = None

-- a unit of work, by its first word
unfoldable pub entry_at : Place → List ℕ → Read Entry
entry_at place text =
    entry_by place (after (codes "candidate ") text) (after (codes "conflict ") text) (after (codes "blocked ") text) (after (codes "freed ") text) (after (codes "built ") text)
