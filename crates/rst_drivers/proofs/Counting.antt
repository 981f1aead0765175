-- What is counted, slice by slice and block by block.
use Rattle.std.proofs.Common.{◌≡◌, ◌∙◌, inl, inr, ℕ, ◌+◌, ◌<◌, ◌≤◌, Bool, true, false, not, ◌&&◌, ◌||◌, cond, nat_eq, nat_lt, nat_le, List, [], ◌∷◌, ◌++◌, length, get_or, take, map, Some, slice_get, refl, sym, ap, subst, arith}
use Rattle.std.proofs.Math.ListN.{set, replicate}
use Rattle.std.specs.Prelude.{count_by, bit_and}
use Rattle.std.specs.List.{list_any, fold}
use Rattle.std.proofs.lemmas.Bool.{eq-eqb, ne_eqb, cases_eq}
use Rattle.std.proofs.lemmas.Nat.Bits.{bit_at-zero}
use Rattle.std.proofs.lemmas.Option.{slice_get_within, get_or_from_slice_get}
use Rattle.std.proofs.lemmas.Grind.{flat_map-append}
use Rattle.std.proofs.lemmas.List.{append-nil, append_assoc, map-append, length-set, get_or-set_same, get_or-set_other, get_or-replicate, length-replicate}
use Rattle.rst_net.specs.declared.signal.Slice.{Slice}
use Rattle.rst_net.specs.declared.unit.Driver.{Driver}
use Rattle.rst_net.specs.declared.unit.Process.{Process}
use Rattle.rst_net.specs.Units.{PlainDriver, PlainProcess, plain_driver, plain_process}
use Rattle.rst_names.proofs.Turns.{at}
use Rattle.rst_drivers.specs.declared.drives.Drive.{Drive}
use Rattle.rst_drivers.specs.Drives.{is_set, is_of, has_bit, sets_of, sets_signal, sets_bit, assigned, blocks_of, all_assigned, all_blocks}
use Rattle.rst_drivers.specs.Tables.{AreDrives}
use Rattle.rst_drivers.specs.Counts.{bits_of, nothing, with_assign, with_block, others_of, at_signal, counted, drivers, IsCounted, AreCounted}
use Rattle.rst_drivers.proofs.Tests.{or_assoc, or_false, or_true, or_and_false, one_more, second, count-push, any-push, any-counts}
use Rattle.rst_drivers.proofs.BitLemmas.{set_or, set_and, slice_bits}

-- ---- one signal of a table

-- a step at one signal
abbrev pub own : (Drive → Slice → Drive) → ℕ → Drive → Slice → Drive
own step signal d s = cond (is_of signal s) (step d s) d

at-own : (step : Drive → Slice → Drive) (ds : List Drive) (s : Slice) (i : ℕ) → i < length ds → get_or (at_signal step ds s) i nothing ≡ own step i (get_or ds i nothing) s
at-own step ds s i within = elim (cases_eq s.signal i) [
  | inl same ↦
      ap (λ k. get_or (set ds k (step (get_or ds k nothing) s)) i nothing) same
      ∙ get_or-set_same ds i (step (get_or ds i nothing) s) nothing within
      ∙ sym (ap (λ t. cond t (step (get_or ds i nothing) s) (get_or ds i nothing)) (eq-eqb s.signal i same))
  | inr other ↦
      get_or-set_other ds s.signal i (step (get_or ds s.signal nothing) s) nothing (λ e. other (sym e))
      ∙ sym (ap (λ t. cond t (step (get_or ds i nothing) s) (get_or ds i nothing)) (ne_eqb s.signal i other))
]

pub length-counted : (step : Drive → Slice → Drive) (ds : List Drive) (xs : List Slice) → length (counted step ds xs) ≡ length ds
length-counted step ds [] = refl
length-counted step ds (s ∷ xs) = length-counted step (at_signal step ds s) xs ∙ length-set ds s.signal (step (get_or ds s.signal nothing) s)

counted-own : (step : Drive → Slice → Drive) (ds : List Drive) (xs : List Slice) (i : ℕ) → i < length ds → get_or (counted step ds xs) i nothing ≡ fold (own step i) (get_or ds i nothing) xs
counted-own step ds [] i within = refl
counted-own step ds (s ∷ xs) i within =
    let inside : i < length (at_signal step ds s) = subst (λ n. i < n) (sym (length-set ds s.signal (step (get_or ds s.signal nothing) s))) within in
    counted-own step (at_signal step ds s) xs i inside ∙ ap (λ d. fold (own step i) d xs) (at-own step ds s i within)

-- ---- places of targets

-- the place of a slice
abbrev inside : Slice → ℕ → Bool
inside s bit = nat_le s.low bit && nat_lt bit (s.low + s.width)

assign_bits : (d : Drive) (s : Slice) (bit : ℕ) (t : Bool) → bit < 64 → is_set ((cond t (with_assign d s) d).bits) bit ≡ (is_set d.bits bit || (t && inside s bit))
assign_bits d s bit true h = set_or d.bits (bits_of s) bit ∙ ap (λ t. is_set d.bits bit || t) (slice_bits s bit h)
assign_bits d s bit false h = or_false (is_set d.bits bit)

assign_twice : (d : Drive) (s : Slice) (bit : ℕ) (t : Bool) → bit < 64 → is_set ((cond t (with_assign d s) d).twice) bit ≡ (is_set d.twice bit || (is_set d.bits bit && (t && inside s bit)))
assign_twice d s bit true h =
    set_or d.twice (bit_and d.bits (bits_of s)) bit
    ∙ ap (λ t. is_set d.twice bit || t) (set_and d.bits (bits_of s) bit ∙ ap (λ t. is_set d.bits bit && t) (slice_bits s bit h))
assign_twice d s bit false h = or_and_false (is_set d.twice bit) (is_set d.bits bit)

assign_assigned : (d : Drive) (s : Slice) (t : Bool) → (cond t (with_assign d s) d).assigned ≡ (d.assigned || t)
assign_assigned d s true = or_true d.assigned
assign_assigned d s false = or_false d.assigned

assign_shared : (d : Drive) (s : Slice) (t : Bool) → (cond t (with_assign d s) d).shared ≡ d.shared
assign_shared d s true = refl
assign_shared d s false = refl

assign_by_block : (d : Drive) (s : Slice) (t : Bool) → (cond t (with_assign d s) d).by_block ≡ d.by_block
assign_by_block d s true = refl
assign_by_block d s false = refl

assign_by_clocked : (d : Drive) (s : Slice) (t : Bool) → (cond t (with_assign d s) d).by_clocked ≡ d.by_clocked
assign_by_clocked d s true = refl
assign_by_clocked d s false = refl

assign_last : (d : Drive) (s : Slice) (t : Bool) → (cond t (with_assign d s) d).last ≡ d.last
assign_last d s true = refl
assign_last d s false = refl

-- one more place
place-more : (places : List Slice) (bs cs : List PlainProcess) (signal bit : ℕ) (s : Slice) → drivers places bs cs signal bit + cond (has_bit signal bit s) 1 0 ≡ drivers (places ++ s ∷ []) bs cs signal bit
place-more places bs cs signal bit s = omega (arith, count-push (has_bit signal bit) places s)

assign_one : (places : List Slice) (bs cs : List PlainProcess) (k i : ℕ) (d : Drive) (s : Slice) → IsCounted places bs cs k i d → IsCounted (places ++ s ∷ []) bs cs k i (own with_assign i d s)
assign_one places bs cs k i d s c = record {
  bits = λ bit h.
      assign_bits d s bit (is_of i s) h ∙ ap (λ t. t || has_bit i bit s) (c.bits bit h)
      ∙ one_more (drivers places bs cs i bit) (has_bit i bit s) ∙ ap (λ n. nat_lt 0 n) (place-more places bs cs i bit s);
  twice = λ bit h.
      assign_twice d s bit (is_of i s) h ∙ ap (λ t. t || (is_set d.bits bit && has_bit i bit s)) (c.twice bit h)
      ∙ ap (λ t. nat_lt 1 (drivers places bs cs i bit) || (t && has_bit i bit s)) (c.bits bit h)
      ∙ second (drivers places bs cs i bit) (has_bit i bit s) ∙ ap (λ n. nat_lt 1 n) (place-more places bs cs i bit s);
  shared = assign_shared d s (is_of i s) ∙ c.shared;
  assigned = assign_assigned d s (is_of i s) ∙ ap (λ t. t || is_of i s) c.assigned ∙ sym (any-push (is_of i) places s);
  by_block = assign_by_block d s (is_of i s) ∙ c.by_block;
  by_clocked = assign_by_clocked d s (is_of i s) ∙ c.by_clocked;
  last = subst (λ n. n ≤ k) (sym (assign_last d s (is_of i s))) c.last;
}

assign_all : (places : List Slice) (bs cs : List PlainProcess) (k i : ℕ) (d : Drive) (xs : List Slice) → IsCounted places bs cs k i d → IsCounted (places ++ xs) bs cs k i (fold (own with_assign i) d xs)
assign_all places bs cs k i d [] c = subst (λ l. IsCounted l bs cs k i d) (sym (append-nil places)) c
assign_all places bs cs k i d (s ∷ xs) c =
    subst (λ l. IsCounted l bs cs k i (fold (own with_assign i) (own with_assign i d s) xs)) (append_assoc places (s ∷ []) xs)
    (assign_all (places ++ s ∷ []) bs cs k i (own with_assign i d s) xs (assign_one places bs cs k i d s c))

-- ---- blocks

-- What a block of this number has counted so far beyond `before`: it sets the bits of a test, and the signal or not.
record InBlock (before : Drive) (number : ℕ) (clocked : Bool) (set_bits : ℕ → Bool) (sets : Bool) (d : Drive) : Type 0 where
  others : others_of number d ≡ before.bits
  last : nat_eq d.last number ≡ sets
  old : d.last ≤ number
  bits : (bit : ℕ) → bit < 64 → is_set d.bits bit ≡ (is_set before.bits bit || set_bits bit)
  twice : (bit : ℕ) → bit < 64 → is_set d.twice bit ≡ (is_set before.twice bit || (is_set before.bits bit && set_bits bit))
  shared : d.shared ≡ (before.shared || ((before.by_block || before.by_clocked) && sets))
  assigned : d.assigned ≡ before.assigned
  by_block : d.by_block ≡ (before.by_block || (sets && not clocked))
  by_clocked : d.by_clocked ≡ (before.by_clocked || (sets && clocked))

in_block-same : (before : Drive) (number : ℕ) (clocked : Bool) (f g : ℕ → Bool) (t u : Bool) (d : Drive) → ((bit : ℕ) → f bit ≡ g bit) → t ≡ u → InBlock before number clocked f t d → InBlock before number clocked g u d
in_block-same before number clocked f g t u d same e b = record {
  others = b.others;
  last = b.last ∙ e;
  old = b.old;
  bits = λ bit h. b.bits bit h ∙ ap (λ x. is_set before.bits bit || x) (same bit);
  twice = λ bit h. b.twice bit h ∙ ap (λ x. is_set before.twice bit || (is_set before.bits bit && x)) (same bit);
  shared = b.shared ∙ ap (λ x. before.shared || ((before.by_block || before.by_clocked) && x)) e;
  assigned = b.assigned;
  by_block = b.by_block ∙ ap (λ x. before.by_block || (x && not clocked)) e;
  by_clocked = b.by_clocked ∙ ap (λ x. before.by_clocked || (x && clocked)) e;
}

in_block-start : (before : Drive) (number : ℕ) (clocked : Bool) → before.last < number → InBlock before number clocked (λ _. false) false before
in_block-start before number clocked older =
    let new : nat_eq before.last number ≡ false = ne_eqb before.last number (λ e. omega arith) in
    record {
      others = ap (λ t. cond t before.others before.bits) new;
      last = new;
      old = omega arith;
      bits = λ bit h. or_false (is_set before.bits bit);
      twice = λ bit h. or_and_false (is_set before.twice bit) (is_set before.bits bit);
      shared = or_and_false before.shared (before.by_block || before.by_clocked);
      assigned = refl;
      by_block = or_false before.by_block;
      by_clocked = or_false before.by_clocked;
    }

spread : (t b a p : Bool) → ((t || (b && a)) || (b && p)) ≡ (t || (b && (a || p)))
spread true b a p = refl
spread false true a p = refl
spread false false a p = refl

first_time : (s b c t x y : Bool) → ((s || ((b || c) && t)) || (not t && ((b || (t && x)) || (c || (t && y))))) ≡ (s || ((b || c) && (t || true)))
first_time true b c t x y = refl
first_time false true c true x y = refl
first_time false true c false x y = refl
first_time false false true true x y = refl
first_time false false true false x y = refl
first_time false false false true x y = refl
first_time false false false false x y = refl

now_set : (b t x : Bool) → ((b || (t && x)) || x) ≡ (b || ((t || true) && x))
now_set true t x = refl
now_set false true true = refl
now_set false true false = refl
now_set false false x = refl

block_one : (before : Drive) (number : ℕ) (clocked : Bool) (f : ℕ → Bool) (t : Bool) (d : Drive) (s : Slice) (u : Bool) → InBlock before number clocked f t d
    → InBlock before number clocked (λ bit. f bit || (u && inside s bit)) (t || u) (cond u (with_block number clocked d s) d)
block_one before number clocked f t d s true b =
    let mine : nat_eq number number ≡ true = eq-eqb number number refl in
    record {
      others = ap (λ x. cond x (others_of number d) (with_block number clocked d s).bits) mine ∙ b.others;
      last = mine ∙ or_true t;
      old = omega arith;
      bits = λ bit h.
          set_or d.bits (bits_of s) bit ∙ ap (λ x. is_set d.bits bit || x) (slice_bits s bit h) ∙ ap (λ x. x || inside s bit) (b.bits bit h)
          ∙ or_assoc (is_set before.bits bit) (f bit) (inside s bit);
      twice = λ bit h.
          set_or d.twice (bit_and (others_of number d) (bits_of s)) bit
          ∙ ap (λ x. is_set d.twice bit || x) (set_and (others_of number d) (bits_of s) bit ∙ ap (λ x. is_set (others_of number d) bit && x) (slice_bits s bit h))
          ∙ ap (λ n. is_set d.twice bit || (is_set n bit && inside s bit)) b.others
          ∙ ap (λ x. x || (is_set before.bits bit && inside s bit)) (b.twice bit h)
          ∙ spread (is_set before.twice bit) (is_set before.bits bit) (f bit) (inside s bit);
      shared =
          ap (λ x. x || (not (nat_eq d.last number) && (d.by_block || d.by_clocked))) b.shared
          ∙ ap (λ x. (before.shared || ((before.by_block || before.by_clocked) && t)) || (not x && (d.by_block || d.by_clocked))) b.last
          ∙ ap (λ x. (before.shared || ((before.by_block || before.by_clocked) && t)) || (not t && (x || d.by_clocked))) b.by_block
          ∙ ap (λ x. (before.shared || ((before.by_block || before.by_clocked) && t)) || (not t && ((before.by_block || (t && not clocked)) || x))) b.by_clocked
          ∙ first_time before.shared before.by_block before.by_clocked t (not clocked) clocked;
      assigned = b.assigned;
      by_block = ap (λ x. x || not clocked) b.by_block ∙ now_set before.by_block t (not clocked);
      by_clocked = ap (λ x. x || clocked) b.by_clocked ∙ now_set before.by_clocked t clocked;
    }
block_one before number clocked f t d s false b = in_block-same before number clocked f (λ bit. f bit || false) t (t || false) d (λ bit. or_false (f bit)) (or_false t) b

block_all : (before : Drive) (number : ℕ) (clocked : Bool) (f : ℕ → Bool) (t : Bool) (i : ℕ) (d : Drive) (xs : List Slice) → InBlock before number clocked f t d
    → InBlock before number clocked (λ bit. f bit || list_any (has_bit i bit) xs) (t || list_any (is_of i) xs) (fold (own (with_block number clocked) i) d xs)
block_all before number clocked f t i d [] b = in_block-same before number clocked f (λ bit. f bit || false) t (t || false) d (λ bit. or_false (f bit)) (or_false t) b
block_all before number clocked f t i d (s ∷ xs) b =
    in_block-same before number clocked (λ bit. (f bit || has_bit i bit s) || list_any (has_bit i bit) xs) (λ bit. f bit || (has_bit i bit s || list_any (has_bit i bit) xs))
    ((t || is_of i s) || list_any (is_of i) xs) (t || (is_of i s || list_any (is_of i) xs)) (fold (own (with_block number clocked) i) (own (with_block number clocked) i d s) xs)
    (λ bit. or_assoc (f bit) (has_bit i bit s) (list_any (has_bit i bit) xs)) (or_assoc t (is_of i s) (list_any (is_of i) xs))
    (block_all before number clocked (λ bit. f bit || has_bit i bit s) (t || is_of i s) i (own (with_block number clocked) i d s) xs
    (block_one before number clocked f t d s (is_of i s) b))

-- a whole block
abbrev block : ℕ → Bool → ℕ → Drive → PlainProcess → Drive
block number clocked i d p = fold (own (with_block number clocked) i) d (sets_of p.body)

whole_block : (number : ℕ) (clocked : Bool) (i : ℕ) (d : Drive) (p : PlainProcess) → d.last < number → InBlock d number clocked (λ bit. sets_bit i bit p) (sets_signal i p) (block number clocked i d p)
whole_block number clocked i d p older = block_all d number clocked (λ _. false) false i d (sets_of p.body) (in_block-start d number clocked older)

and_true : (a b : Bool) → (a || b) ≡ (a || (b && true))
and_true a true = refl
and_true a false = refl

block-more : (places : List Slice) (bs cs : List PlainProcess) (signal bit : ℕ) (p : PlainProcess) → drivers places bs cs signal bit + cond (sets_bit signal bit p) 1 0 ≡ drivers places (bs ++ p ∷ []) cs signal bit
block-more places bs cs signal bit p = omega (arith, count-push (sets_bit signal bit) bs p)

clocked-more : (places : List Slice) (bs cs : List PlainProcess) (signal bit : ℕ) (p : PlainProcess) → drivers places bs cs signal bit + cond (sets_bit signal bit p) 1 0 ≡ drivers places bs (cs ++ p ∷ []) signal bit
clocked-more places bs cs signal bit p = omega (arith, count-push (sets_bit signal bit) cs p)

-- what a whole block adds, whichever list it is in
module _ (places : List Slice) (bs cs : List PlainProcess) (k number i : ℕ) (clocked : Bool) (d : Drive) (p : PlainProcess) (c : IsCounted places bs cs k i d) (next : number ≡ k + 1) where
  after : InBlock d number clocked (λ bit. sets_bit i bit p) (sets_signal i p) (block number clocked i d p)
  after = whole_block number clocked i d p (omega (arith, c.last))

  block_bits : (n bit : ℕ) → bit < 64 → drivers places bs cs i bit + cond (sets_bit i bit p) 1 0 ≡ n → is_set (block number clocked i d p).bits bit ≡ nat_lt 0 n
  block_bits n bit h e =
      after.bits bit h ∙ ap (λ t. t || sets_bit i bit p) (c.bits bit h) ∙ one_more (drivers places bs cs i bit) (sets_bit i bit p) ∙ ap (λ m. nat_lt 0 m) e

  block_twice : (n bit : ℕ) → bit < 64 → drivers places bs cs i bit + cond (sets_bit i bit p) 1 0 ≡ n → is_set (block number clocked i d p).twice bit ≡ nat_lt 1 n
  block_twice n bit h e =
      after.twice bit h ∙ ap (λ t. t || (is_set d.bits bit && sets_bit i bit p)) (c.twice bit h)
      ∙ ap (λ t. nat_lt 1 (drivers places bs cs i bit) || (t && sets_bit i bit p)) (c.bits bit h)
      ∙ second (drivers places bs cs i bit) (sets_bit i bit p) ∙ ap (λ m. nat_lt 1 m) e

  block_shared : (n : ℕ) → (count_by (sets_signal i) bs + count_by (sets_signal i) cs) + cond (sets_signal i p) 1 0 ≡ n → (block number clocked i d p).shared ≡ nat_lt 1 n
  block_shared n e =
      after.shared ∙ ap (λ t. t || ((d.by_block || d.by_clocked) && sets_signal i p)) c.shared
      ∙ ap (λ t. nat_lt 1 (count_by (sets_signal i) bs + count_by (sets_signal i) cs) || (t && sets_signal i p))
      (ap (λ t. t || d.by_clocked) c.by_block ∙ ap (λ t. list_any (sets_signal i) bs || t) c.by_clocked ∙ any-counts (sets_signal i) bs cs)
      ∙ second (count_by (sets_signal i) bs + count_by (sets_signal i) cs) (sets_signal i p) ∙ ap (λ m. nat_lt 1 m) e

block_done : (places : List Slice) (bs cs : List PlainProcess) (k number i : ℕ) (d : Drive) (p : PlainProcess) → IsCounted places bs cs k i d → number ≡ k + 1
    → IsCounted places (bs ++ p ∷ []) cs number i (block number false i d p)
block_done places bs cs k number i d p c next =
    let a = after places bs cs k number i false d p c next in
    record {
      bits = λ bit h. block_bits places bs cs k number i false d p c next (drivers places (bs ++ p ∷ []) cs i bit) bit h (block-more places bs cs i bit p);
      twice = λ bit h. block_twice places bs cs k number i false d p c next (drivers places (bs ++ p ∷ []) cs i bit) bit h (block-more places bs cs i bit p);
      shared = block_shared places bs cs k number i false d p c next (count_by (sets_signal i) (bs ++ p ∷ []) + count_by (sets_signal i) cs) (omega (arith, count-push (sets_signal i) bs p));
      assigned = a.assigned ∙ c.assigned;
      by_block = a.by_block ∙ sym (and_true d.by_block (sets_signal i p)) ∙ ap (λ t. t || sets_signal i p) c.by_block ∙ sym (any-push (sets_signal i) bs p);
      by_clocked = a.by_clocked ∙ sym (or_and_false d.by_clocked (sets_signal i p)) ∙ c.by_clocked;
      last = a.old;
    }

clocked_done : (places : List Slice) (bs cs : List PlainProcess) (k number i : ℕ) (d : Drive) (p : PlainProcess) → IsCounted places bs cs k i d → number ≡ k + 1
    → IsCounted places bs (cs ++ p ∷ []) number i (block number true i d p)
clocked_done places bs cs k number i d p c next =
    let a = after places bs cs k number i true d p c next in
    record {
      bits = λ bit h. block_bits places bs cs k number i true d p c next (drivers places bs (cs ++ p ∷ []) i bit) bit h (clocked-more places bs cs i bit p);
      twice = λ bit h. block_twice places bs cs k number i true d p c next (drivers places bs (cs ++ p ∷ []) i bit) bit h (clocked-more places bs cs i bit p);
      shared = block_shared places bs cs k number i true d p c next (count_by (sets_signal i) bs + count_by (sets_signal i) (cs ++ p ∷ [])) (omega (arith, count-push (sets_signal i) cs p));
      assigned = a.assigned ∙ c.assigned;
      by_block = a.by_block ∙ sym (or_and_false d.by_block (sets_signal i p)) ∙ c.by_block;
      by_clocked = a.by_clocked ∙ sym (and_true d.by_clocked (sets_signal i p)) ∙ ap (λ t. t || sets_signal i p) c.by_clocked ∙ sym (any-push (sets_signal i) cs p);
      last = a.old;
    }

-- ---- all signals

pub none_counted : (n : ℕ) → AreCounted [] [] [] 0 (replicate n nothing)
none_counted n = record {
  each = λ i within.
      subst (λ d. IsCounted [] [] [] 0 i d) (sym (get_or-replicate n i nothing nothing (subst (λ m. i < m) (length-replicate n nothing) within)))
      (record { bits = λ bit h. none bit; twice = λ bit h. none bit; shared = refl; assigned = refl; by_block = refl; by_clocked = refl; last = omega arith });
}
  where
    none : (bit : ℕ) → is_set 0 bit ≡ false
    none bit = ap (λ m. nat_eq m 1) (bit_at-zero bit)

pub places_counted : (places : List Slice) (bs cs : List PlainProcess) (k : ℕ) (ds : List Drive) (xs : List Slice) → AreCounted places bs cs k ds → AreCounted (places ++ xs) bs cs k (counted with_assign ds xs)
places_counted places bs cs k ds xs c = record {
  each = λ i within.
      let inside_old : i < length ds = subst (λ n. i < n) (length-counted with_assign ds xs) within in
      subst (λ d. IsCounted (places ++ xs) bs cs k i d) (sym (counted-own with_assign ds xs i inside_old)) (assign_all places bs cs k i (get_or ds i nothing) xs (c.each i inside_old));
}

pub block_counted : (places : List Slice) (bs cs : List PlainProcess) (k number : ℕ) (ds : List Drive) (p : PlainProcess) → number ≡ k + 1 → AreCounted places bs cs k ds
    → AreCounted places (bs ++ p ∷ []) cs number (counted (with_block number false) ds (sets_of p.body))
block_counted places bs cs k number ds p next c = record {
  each = λ i within.
      let inside_old : i < length ds = subst (λ n. i < n) (length-counted (with_block number false) ds (sets_of p.body)) within in
      subst (λ d. IsCounted places (bs ++ p ∷ []) cs number i d) (sym (counted-own (with_block number false) ds (sets_of p.body) i inside_old))
      (block_done places bs cs k number i (get_or ds i nothing) p (c.each i inside_old) next);
}

pub clocked_counted : (places : List Slice) (bs cs : List PlainProcess) (k number : ℕ) (ds : List Drive) (p : PlainProcess) → number ≡ k + 1 → AreCounted places bs cs k ds
    → AreCounted places bs (cs ++ p ∷ []) number (counted (with_block number true) ds (sets_of p.body))
clocked_counted places bs cs k number ds p next c = record {
  each = λ i within.
      let inside_old : i < length ds = subst (λ n. i < n) (length-counted (with_block number true) ds (sets_of p.body)) within in
      subst (λ d. IsCounted places bs (cs ++ p ∷ []) number i d) (sym (counted-own (with_block number true) ds (sets_of p.body) i inside_old))
      (clocked_done places bs cs k number i (get_or ds i nothing) p (c.each i inside_old) next);
}

-- ---- units

-- one more unit
pub assigned_more : (units : List Driver) (i : ℕ) (u : Driver) → slice_get units i ≡ Some u → all_assigned (map plain_driver (take (i + 1) units)) ≡ all_assigned (map plain_driver (take i units)) ++ assigned (plain_driver u)
assigned_more units i u is =
    ap (λ l. all_assigned (map plain_driver l)) (at units i u is).front ∙ ap all_assigned (map-append plain_driver (take i units) (u ∷ []))
    ∙ flat_map-append assigned (map plain_driver (take i units)) (plain_driver u ∷ [])
    ∙ ap (λ l. all_assigned (map plain_driver (take i units)) ++ l) (append-nil (assigned (plain_driver u)))

pub blocks_more : (units : List Driver) (i : ℕ) (u : Driver) → slice_get units i ≡ Some u → all_blocks (map plain_driver (take (i + 1) units)) ≡ all_blocks (map plain_driver (take i units)) ++ blocks_of (plain_driver u)
blocks_more units i u is =
    ap (λ l. all_blocks (map plain_driver l)) (at units i u is).front ∙ ap all_blocks (map-append plain_driver (take i units) (u ∷ []))
    ∙ flat_map-append blocks_of (map plain_driver (take i units)) (plain_driver u ∷ [])
    ∙ ap (λ l. all_blocks (map plain_driver (take i units)) ++ l) (append-nil (blocks_of (plain_driver u)))

pub processes_more : (clocked : List Process) (i : ℕ) (p : Process) → slice_get clocked i ≡ Some p → map plain_process (take (i + 1) clocked) ≡ map plain_process (take i clocked) ++ plain_process p ∷ []
processes_more clocked i p is = ap (map plain_process) (at clocked i p is).front ∙ map-append plain_process (take i clocked) (p ∷ [])

-- a table of which all is counted shows what drives the signals
pub are_drives : (us : List PlainDriver) (cs : List PlainProcess) (number signals : ℕ) (ds : List Drive) → length ds ≡ signals → AreCounted (all_assigned us) (all_blocks us) cs number ds → AreDrives us cs signals ds
are_drives us cs number signals ds count c = record {
  count = count;
  each = λ i d is.
      let h = subst (λ x. IsCounted (all_assigned us) (all_blocks us) cs number i x) (get_or_from_slice_get ds i d nothing is) (c.each i (slice_get_within ds i d is)) in
      record { bits = h.bits; twice = h.twice; shared = h.shared; assigned = h.assigned; by_block = h.by_block; by_clocked = h.by_clocked };
}
