-- Which bits a statement surely sets, and which it can read before they are set, by its structure.
use Rattle.std.specs.Prelude.{ℕ, Bool, true, false, not, ◌&&◌, ◌||◌}
use Rattle.rst_net.specs.Statements.{Statement, Statements, Arms, Default, Block, If, Case, Set, Empty, end, more, no_arm, arm, no_default, default}
use Rattle.rst_cycle.specs.Drivers.{target_has}
use Rattle.rst_blocks.specs.Reads.{reads, label_reads}

module _ (i place : ℕ) where
  abbrev mutual
    -- Whether a bit is surely set behind a statement, by whether it surely is before it: such bits grow along a list of statements;
    -- behind an `if` they are those of both branches.
    pub surely : Statement → Bool → Bool
    surely (Block statements) before = surely_all statements before
    surely (If condition first second) before = surely first before && surely second before
    surely (Case selector arms otherwise full) before = surely_end otherwise full before && surely_arms arms before
    surely (Set set) before = before || target_has set.target i place
    surely Empty before = before

    pub surely_all : Statements → Bool → Bool
    surely_all end before = before
    surely_all (more statement statements) before = surely_all statements (surely statement before)

    -- Behind a case they are those of all arms, and those of its default; without a default those before it where it isn't full.
    pub surely_arms : Arms → Bool → Bool
    surely_arms no_arm before = true
    surely_arms (arm labels body arms) before = surely body before && surely_arms arms before

    pub surely_end : Default → Bool → Bool → Bool
    surely_end (default statement) full before = surely statement before
    surely_end no_default full before = full || before

  abbrev mutual
    -- Whether a statement can read the bit before it is set, by whether it surely is set before the statement.
    pub early : Statement → Bool → Bool
    early (Block statements) before = early_all statements before
    early (If condition first second) before = (not before && reads condition i place) || (early first before || early second before)
    early (Case selector arms otherwise full) before = (not before && reads selector i place) || (early_arms arms before || early_default otherwise before)
    early (Set set) before = not before && reads set.value i place
    early Empty before = false

    pub early_all : Statements → Bool → Bool
    early_all end before = false
    early_all (more statement statements) before = early statement before || early_all statements (surely statement before)

    pub early_arms : Arms → Bool → Bool
    early_arms no_arm before = false
    early_arms (arm labels body arms) before = (not before && target_has (label_reads labels) i place) || (early body before || early_arms arms before)

    pub early_default : Default → Bool → Bool
    early_default no_default before = false
    early_default (default statement) before = early statement before
