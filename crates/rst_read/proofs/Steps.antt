-- The readers of a height above 0, and the loop over operators.
use Rattle.std.proofs.Common.{◌≡◌, ℕ, zero, suc, ◌-◌, List, length, Option, Some, None, refl, sym, ap, ◌∙◌, arith}
use Rattle.rst_tree.specs.Trees.{Tree}
use Rattle.rst_word.specs.declared.ops.BinaryOp.{BinaryOp}
use Rattle.rst_grammar.specs.declared.symbol.Symbol.{Symbol}
use Rattle.rst_read.specs.declared.stop.Stop.{Stop}
use Rattle.rst_read.specs.declared.stop.Stop.TheVariants as stop
use Rattle.rst_read.specs.Gives.{Fails}
use Rattle.rst_grammar.specs.Reading.{Readers, readers, higher, operand_in, binary_in, full_in, tail_in, with_right, operator_at, after, ◌>>=◌}

readers_at : (n : ℕ) → (n ≡ 0 → ⊥) → readers n ≡ higher (readers (n - 1)) (n - 1)
unfolding readers
readers_at zero h = absurd (h refl)
readers_at (suc n) h = let e : suc n - 1 ≡ n = omega arith in ap (λ m. higher (readers m) m) (sym e)

pub full_at : (n : ℕ) (ts : List Symbol) → (n ≡ 0 → ⊥) → (readers n).full ts ≡ full_in (readers (n - 1)) (n - 1) ts
unfolding higher
full_at n ts h = ap (λ r. r.full ts) (readers_at n h)

pub operand_at : (n : ℕ) (ts : List Symbol) → (n ≡ 0 → ⊥) → (readers n).operand ts ≡ operand_in (readers (n - 1)) ts
unfolding higher
operand_at n ts h = ap (λ r. r.operand ts) (readers_at n h)

pub binary_at : (n least : ℕ) (ts : List Symbol) → (n ≡ 0 → ⊥) → (readers n).binary least ts ≡ binary_in (readers (n - 1)) (n - 1) least ts
unfolding higher
binary_at n least ts h = ap (λ r. r.binary least ts) (readers_at n h)

pub full_none : (n : ℕ) (ts : List Symbol) → n ≡ 0 → (readers n).full ts ≡ None
unfolding readers
full_none n ts e = ap (λ m. (readers m).full ts) e

pub operand_none : (n : ℕ) (ts : List Symbol) → n ≡ 0 → (readers n).operand ts ≡ None
unfolding readers
operand_none n ts e = ap (λ m. (readers m).operand ts) e

pub binary_none : (n least : ℕ) (ts : List Symbol) → n ≡ 0 → (readers n).binary least ts ≡ None
unfolding readers
binary_none n least ts e = ap (λ m. (readers m).binary least ts) e

-- ---- the loop over operators

pub tail_goes : (r : Readers) (limit k j least : ℕ) (left next : Tree) (rest after behind : List Symbol) (op : BinaryOp) → k ≡ suc j → operator_at least rest ≡ Some (op, after) → with_right r limit op left after ≡ Some (next, behind)
    → tail_in r limit k least left rest ≡ tail_in r limit j least next behind
unfolding tail_in
tail_goes r limit k j least left next rest after behind op e o w = rw (e, o, w) refl

pub tail_ends : (r : Readers) (limit k j least : ℕ) (left : Tree) (rest : List Symbol) → k ≡ suc j → operator_at least rest ≡ None → tail_in r limit k least left rest ≡ Some (left, rest)
unfolding tail_in
tail_ends r limit k j least left rest e o = rw (e, o) refl

pub tail_fails : (r : Readers) (limit k j least : ℕ) (left : Tree) (rest after : List Symbol) (op : BinaryOp) → k ≡ suc j → operator_at least rest ≡ Some (op, after) → with_right r limit op left after ≡ None → tail_in r limit k least left rest ≡ None
unfolding tail_in
tail_fails r limit k j least left rest after op e o w = rw (e, o, w) refl

pub tail_out : (r : Readers) (limit k least : ℕ) (left : Tree) (rest : List Symbol) → k ≡ 0 → tail_in r limit k least left rest ≡ None
unfolding tail_in
tail_out r limit k least left rest e = rw e refl

-- the exit where the right operand isn't read
pub tail_err : (e : Stop) (r : Readers) (limit k j least : ℕ) (left : Tree) (rest after : List Symbol) (op : BinaryOp) (total : Option (Tree × List Symbol)) → k ≡ suc j → operator_at least rest ≡ Some (op, after) → Fails e (with_right r limit op left after)
    → tail_in r limit k least left rest ≡ total → Fails e total
tail_err stop.NoMemory r limit k j least left rest after op total e o w so_far = tt
tail_err stop.NoTree r limit k j least left rest after op total e o w so_far = sym so_far ∙ tail_fails r limit k j least left rest after op e o w
