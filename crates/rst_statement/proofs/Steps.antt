-- The readers of a height above 0.
use Rattle.std.proofs.Common.{◌≡◌, ℕ, zero, suc, ◌-◌, List, length, Option, Some, None, refl, ap, arith}
use Rattle.rst_tree.specs.Targets.{Place, Places}
use Rattle.rst_tree.specs.Targets as targets
use Rattle.rst_grammar.specs.declared.symbol.Terminal.TheVariants as terminal
use Rattle.rst_grammar.specs.declared.symbol.Symbol.{Symbol}
use Rattle.rst_grammar.specs.Reading.{readers, after, ◌>>=◌}
use Rattle.rst_grammar.specs.ReadStatement.{TargetReader, more_targets, target_join, target_in, target_reader, stmt_in, stmt_reader}
use Rattle.rst_read.proofs.Chains.{regrouped}
use Rattle.rst_statement.specs.Parts.{targets_in, join_of}

pub target_at : (n : ℕ) (ts : List Symbol) → (n ≡ 0 → ⊥) → target_reader n ts ≡ target_in (readers (n - 1)) (target_reader (n - 1)) ts
unfolding target_reader
target_at zero ts h = absurd (h refl)
target_at (suc n) ts h = let e : n ≡ suc n - 1 = omega arith in ap (λ m. target_in (readers m) (target_reader m) ts) e

pub target_none : (n : ℕ) (ts : List Symbol) → n ≡ 0 → target_reader n ts ≡ None
unfolding target_reader
target_none n ts e = ap (λ m. target_reader m ts) e

pub stmt_at : (n : ℕ) (ts : List Symbol) → (n ≡ 0 → ⊥) → stmt_reader n ts ≡ stmt_in (readers (n - 1)) (target_reader (n - 1)) (stmt_reader (n - 1)) ts
unfolding stmt_reader
stmt_at zero ts h = absurd (h refl)
stmt_at (suc n) ts h = let e : n ≡ suc n - 1 = omega arith in ap (λ m. stmt_in (readers m) (target_reader m) (stmt_reader m) ts) e

pub stmt_none : (n : ℕ) (ts : List Symbol) → n ≡ 0 → stmt_reader n ts ≡ None
unfolding stmt_reader
stmt_none n ts e = ap (λ m. stmt_reader m ts) e

-- a join reads its targets as one list
pub join_is : (target : TargetReader) (ts : List Symbol) → target_join target ts ≡ join_of target ts
unfolding target_join join_of targets_in
join_is target ts = regrouped (target ts) (λ first. more_targets target (length first.1) first.1 >>= λ others. one_list first.0 others) closed _ (λ first.
    regrouped (more_targets target (length first.1) first.1) (one_list first.0) closed _ (λ others. refl))
  where
    joined : Places → List Symbol → Option (Place × List Symbol)
    joined all behind = Some (targets.Join all, behind)

    one_list : Place → Places × List Symbol → Option (Places × List Symbol)
    one_list first others = Some (targets.more first others.0, others.1)

    closed : Places × List Symbol → Option (Place × List Symbol)
    closed all = after terminal.CloseBrace all.1 >>= λ behind. joined all.0 behind

pub ruleset joins = (join_is)
