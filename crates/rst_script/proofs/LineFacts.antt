-- The first line of a text, and the first word of a line, as the functions that split them find them.
use Rattle.std.proofs.Common.{◌≡◌, ℕ, suc, ◌+◌, ◌-◌, ◌<◌, ◌≤◌, Bool, true, false, cond, not, nat_eq, List, [], ◌∷◌, ◌++◌, length, take, drop, filter, refl, sym, ap, subst, ◌∙◌, length-drop, arith}
use Rattle.std.proofs.Math.Seq.{take-length}
use Rattle.std.specs.List.{prefix_len}
use Rattle.rst_script.specs.Lines.{begun, is_newline, lines, is_gap, parts, is_filled, words, without_return, line_words, Line, said_line, said_lines}

abbrev pub in_line : ℕ → Bool
in_line b = not (is_newline b)

abbrev pub in_word : ℕ → Bool
in_word b = not (is_gap b)

first_line_by : (b : ℕ) (bs : List ℕ) (x : Bool) → (prefix_len in_line bs < length bs → lines bs ≡ take (prefix_len in_line bs) bs ∷ lines (drop (prefix_len in_line bs + 1) bs))
    → cond (not x) (1 + prefix_len in_line bs) 0 < suc (length bs)
    → cond x ([] ∷ lines bs) (begun b (lines bs))
    ≡ take (cond (not x) (1 + prefix_len in_line bs) 0) (b ∷ bs) ∷ lines (drop (cond (not x) (1 + prefix_len in_line bs) 0 + 1) (b ∷ bs))
first_line_by b bs true later h = refl
first_line_by b bs false later h =
    let n = prefix_len in_line bs in
    let e : 1 + n ≡ suc n = omega arith in
    let f : 1 + n + 1 ≡ suc (n + 1) = omega arith in
    ap (begun b) (later (omega arith))
    ∙ (ap (λ k. take k (b ∷ bs) ∷ lines (drop (n + 1) bs)) (sym e) ∙ ap (λ k. take (1 + n) (b ∷ bs) ∷ lines (drop k (b ∷ bs))) (sym f))

-- a line that ends at a newline
pub first_line : (text : List ℕ) → prefix_len in_line text < length text → lines text ≡ take (prefix_len in_line text) text ∷ lines (drop (prefix_len in_line text + 1) text)
first_line [] h = absurd (omega (arith, h))
first_line (b ∷ bs) h = first_line_by b bs (is_newline b) (first_line bs) h

last_line_by : (b : ℕ) (bs : List ℕ) (x : Bool) → (0 < length bs → length bs ≡ prefix_len in_line bs → lines bs ≡ bs ∷ [])
    → suc (length bs) ≡ cond (not x) (1 + prefix_len in_line bs) 0 → cond x ([] ∷ lines bs) (begun b (lines bs)) ≡ (b ∷ bs) ∷ []
last_line_by b bs true later h = absurd (omega (arith, h))
last_line_by b [] false later h = refl
last_line_by b (c ∷ cs) false later h = ap (begun b) (later (omega arith) (omega arith))

-- a last line without a newline
pub last_line : (text : List ℕ) → 0 < length text → length text ≡ prefix_len in_line text → lines text ≡ text ∷ []
last_line [] h e = absurd (omega (arith, h))
last_line (b ∷ bs) h e = last_line_by b bs (is_newline b) (last_line bs) e

gap_by : (b : ℕ) (bs : List ℕ) (x : Bool) → x ≡ is_gap b → words (drop (prefix_len is_gap bs) bs) ≡ words bs
    → words (drop (cond x (1 + prefix_len is_gap bs) 0) (b ∷ bs)) ≡ filter is_filled (cond x ([] ∷ parts bs) (begun b (parts bs)))
gap_by b bs true e later = let f : 1 + prefix_len is_gap bs ≡ suc (prefix_len is_gap bs) = omega arith in ap (λ k. words (drop k (b ∷ bs))) f ∙ later
gap_by b bs false e later = ap (λ x. filter is_filled (cond x ([] ∷ parts bs) (begun b (parts bs)))) (sym e)

-- gaps in front of the words
pub behind_gap : (line : List ℕ) → words (drop (prefix_len is_gap line) line) ≡ words line
behind_gap [] = refl
behind_gap (b ∷ bs) = gap_by b bs (is_gap b) refl (behind_gap bs)

no_gap_by : (b : ℕ) (bs : List ℕ) (x : Bool) → x ≡ is_gap b → prefix_len is_gap (drop (prefix_len is_gap bs) bs) ≡ 0
    → prefix_len is_gap (drop (cond x (1 + prefix_len is_gap bs) 0) (b ∷ bs)) ≡ 0
no_gap_by b bs true e later = let f : 1 + prefix_len is_gap bs ≡ suc (prefix_len is_gap bs) = omega arith in ap (λ k. prefix_len is_gap (drop k (b ∷ bs))) f ∙ later
no_gap_by b bs false e later = ap (λ x. cond x (1 + prefix_len is_gap bs) 0) (sym e)

pub no_gap : (line : List ℕ) → prefix_len is_gap (drop (prefix_len is_gap line) line) ≡ 0
no_gap [] = refl
no_gap (b ∷ bs) = no_gap_by b bs (is_gap b) refl (no_gap bs)

-- the parts behind the first
parts_behind : List ℕ → List (List ℕ)
parts_behind [] = []
parts_behind (b ∷ bs) = parts bs

word_by : (b : ℕ) (bs : List ℕ) (x : Bool) → parts bs ≡ take (prefix_len in_word bs) bs ∷ parts_behind (drop (prefix_len in_word bs) bs)
    → cond x ([] ∷ parts bs) (begun b (parts bs))
    ≡ take (cond (not x) (1 + prefix_len in_word bs) 0) (b ∷ bs) ∷ parts_behind (drop (cond (not x) (1 + prefix_len in_word bs) 0) (b ∷ bs))
unfolding parts_behind
word_by b bs true later = refl
word_by b bs false later =
    let e : 1 + prefix_len in_word bs ≡ suc (prefix_len in_word bs) = omega arith in
    ap (begun b) later ∙ ap (λ k. take k (b ∷ bs) ∷ parts_behind (drop k (b ∷ bs))) (sym e)

first_part : (line : List ℕ) → parts line ≡ take (prefix_len in_word line) line ∷ parts_behind (drop (prefix_len in_word line) line)
unfolding parts_behind
first_part [] = refl
first_part (b ∷ bs) = word_by b bs (is_gap b) (first_part bs)

stops_by : (b : ℕ) (bs : List ℕ) (x : Bool) → x ≡ is_gap b
    → filter is_filled (parts_behind (drop (prefix_len in_word bs) bs)) ≡ words (drop (prefix_len in_word bs) bs)
    → filter is_filled (parts_behind (drop (cond (not x) (1 + prefix_len in_word bs) 0) (b ∷ bs))) ≡ words (drop (cond (not x) (1 + prefix_len in_word bs) 0) (b ∷ bs))
unfolding parts_behind
stops_by b bs true e later = ap (λ x. filter is_filled (cond x ([] ∷ parts bs) (begun b (parts bs)))) e
stops_by b bs false e later =
    let f : 1 + prefix_len in_word bs ≡ suc (prefix_len in_word bs) = omega arith in
    ap (λ k. filter is_filled (parts_behind (drop k (b ∷ bs)))) f ∙ (later ∙ ap (λ k. words (drop k (b ∷ bs))) (sym f))

-- behind a word stands a gap, or nothing
stops : (line : List ℕ) → filter is_filled (parts_behind (drop (prefix_len in_word line) line)) ≡ words (drop (prefix_len in_word line) line)
unfolding parts_behind
stops [] = refl
stops (b ∷ bs) = stops_by b bs (is_gap b) refl (stops bs)

filled_by : (b : ℕ) (bs : List ℕ) (x : Bool) → cond x (1 + prefix_len is_gap bs) 0 ≡ 0 → is_filled (take (cond (not x) (1 + prefix_len in_word bs) 0) (b ∷ bs)) ≡ true
filled_by b bs true e = absurd (omega (arith, e))
filled_by b bs false e = let f : 1 + prefix_len in_word bs ≡ suc (prefix_len in_word bs) = omega arith in ap (λ k. is_filled (take k (b ∷ bs))) f

filled : (line : List ℕ) → 0 < length line → prefix_len is_gap line ≡ 0 → is_filled (take (prefix_len in_word line) line) ≡ true
filled [] h e = absurd (omega (arith, h))
filled (b ∷ bs) h e = filled_by b bs (is_gap b) e

-- the first word of a line that begins with no gap
pub first_word : (line : List ℕ) → 0 < length line → prefix_len is_gap line ≡ 0 → words line ≡ take (prefix_len in_word line) line ∷ words (drop (prefix_len in_word line) line)
first_word line h e =
    let n = prefix_len in_word line in
    ap (filter is_filled) (first_part line)
    ∙ (ap (λ x. cond x (take n line ∷ filter is_filled (parts_behind (drop n line))) (filter is_filled (parts_behind (drop n line)))) (filled line h e)
    ∙ ap (λ others. take n line ∷ others) (stops line))

-- a word has a byte at least
pub word_len : (line : List ℕ) → 0 < length line → prefix_len is_gap line ≡ 0 → 0 < prefix_len in_word line
word_len [] h e = absurd (omega (arith, h))
word_len (b ∷ bs) h e = word_len_by b bs (is_gap b) e where
  word_len_by : (b : ℕ) (bs : List ℕ) (x : Bool) → cond x (1 + prefix_len is_gap bs) 0 ≡ 0 → 0 < cond (not x) (1 + prefix_len in_word bs) 0
  word_len_by b bs true e = absurd (omega (arith, e))
  word_len_by b bs false e = omega arith

skipped : (number : ℕ) (said : List (List ℕ)) (others : List Line) → said ≡ [] → said_line number said others ≡ others
skipped number said others e = ap (λ said. said_line number said others) e

-- a line that says nothing
pub skip_line : (number : ℕ) (text line behind part : List ℕ) → lines text ≡ line ∷ lines behind → words part ≡ line_words line → words part ≡ []
    → said_lines number (lines text) ≡ said_lines (number + 1) (lines behind)
skip_line number text line behind part e f none =
    ap (said_lines number) e ∙ skipped (number + 1) (line_words line) (said_lines (number + 1) (lines behind)) (sym f ∙ none)

-- a line that says something
pub say_line : (number : ℕ) (text line behind part word : List ℕ) (more : List (List ℕ)) → lines text ≡ line ∷ lines behind → words part ≡ line_words line
    → words part ≡ word ∷ more → said_lines number (lines text) ≡ record { number = number + 1; words = words part } ∷ said_lines (number + 1) (lines behind)
say_line number text line behind part word more e f some =
    ap (said_lines number) e
    ∙ (ap (λ said. said_line (number + 1) said (said_lines (number + 1) (lines behind))) (sym f ∙ some)
    ∙ ap (λ (said : List (List ℕ)). let it : Line = record { number = number + 1; words = said } in it ∷ said_lines (number + 1) (lines behind)) (sym some))

-- what stands before a carriage return that ends the line
pub before_return : (rest : List ℕ) → without_return (rest ++ 13 ∷ []) ≡ rest
before_return [] = refl
before_return (b ∷ []) = refl
before_return (b ∷ c ∷ rest) = ap (λ more. b ∷ more) (before_return (c ∷ rest))

pub all_of_rest : (k : ℕ) (text : List ℕ) → take (length text - k) (drop k text) ≡ drop k text
all_of_rest k text = ap (λ n. take n (drop k text)) (sym (length-drop k text)) ∙ take-length (drop k text)

pub line_cut : (text : List ℕ) (len : ℕ) → len ≡ prefix_len in_line text → len < length text
    → lines text ≡ take len text ∷ lines (take (length text - (len + 1)) (drop (len + 1) text))
line_cut text len e h =
    subst (λ k. lines text ≡ take k text ∷ lines (drop (k + 1) text)) (sym e) (first_line text (omega (arith, e, h)))
    ∙ ap (λ rest. take len text ∷ lines rest) (sym (all_of_rest (len + 1) text))

pub line_all : (text : List ℕ) (len : ℕ) → len ≡ prefix_len in_line text → 0 < length text → length text ≤ len → len ≤ length text → lines text ≡ text ∷ []
line_all text len e some h k = last_line text some (omega (arith, e, h, k))

pub words_none : (line : List ℕ) (start : ℕ) → start ≡ prefix_len is_gap line → length (take (length line - start) (drop start line)) ≡ 0 → words line ≡ []
words_none line start e none =
    sym (behind_gap line) ∙ (ap (λ k. words (drop k line)) (sym e) ∙ no_words (drop start line) (ap length (sym (all_of_rest start line)) ∙ none)) where
      no_words : (text : List ℕ) → length text ≡ 0 → words text ≡ []
      no_words [] f = refl
      no_words (b ∷ bs) f = absurd (omega (arith, f))

no_gap_behind : (line behind : List ℕ) (start : ℕ) → start ≡ prefix_len is_gap line → behind ≡ take (length line - start) (drop start line) → prefix_len is_gap behind ≡ 0
no_gap_behind line behind start e f =
    ap (prefix_len is_gap) (f ∙ all_of_rest start line) ∙ (ap (λ k. prefix_len is_gap (drop k line)) e ∙ no_gap line)

-- the first word behind a gap
pub words_cut : (line behind : List ℕ) (start len : ℕ) → start ≡ prefix_len is_gap line → behind ≡ take (length line - start) (drop start line) → 0 < length behind
    → len ≡ prefix_len in_word behind → words line ≡ take len behind ∷ words (take (length behind - len) (drop len behind))
words_cut line behind start len e f some g =
    sym (behind_gap line)
    ∙ (ap (λ k. words (drop k line)) (sym e)
    ∙ (ap words (sym (f ∙ all_of_rest start line))
    ∙ (first_word behind some (no_gap_behind line behind start e f)
    ∙ (ap (λ k. take k behind ∷ words (drop k behind)) (sym g)
    ∙ ap (λ rest. take len behind ∷ words rest) (sym (all_of_rest len behind))))))

-- it has a byte at least
pub word_filled : (line behind : List ℕ) (start len : ℕ) → start ≡ prefix_len is_gap line → behind ≡ take (length line - start) (drop start line) → 0 < length behind
    → len ≡ prefix_len in_word behind → 0 < len
word_filled line behind start len e f some g =
    let h : 0 < prefix_len in_word behind = word_len behind some (no_gap_behind line behind start e f) in omega (arith, g, h)

-- a line that doesn't end with a carriage return
pub no_return : (rest : List ℕ) (last : ℕ) → nat_eq last 13 ≡ false → without_return (rest ++ last ∷ []) ≡ rest ++ last ∷ []
no_return [] last e = ap (λ b. cond b [] (last ∷ [])) e
no_return (b ∷ []) last e = ap (λ more. b ∷ more) (no_return [] last e)
no_return (b ∷ c ∷ rest) last e = ap (λ more. b ∷ more) (no_return (c ∷ rest) last e)

pub ends_otherwise : (line rest : List ℕ) (last : ℕ) → line ≡ rest ++ last ∷ [] → nat_eq last 13 ≡ false → line ≡ without_return line
ends_otherwise line rest last e f = e ∙ (sym (no_return rest last f) ∙ ap without_return (sym e))

pub ends_so : (line rest : List ℕ) (last : ℕ) → line ≡ rest ++ last ∷ [] → last ≡ 13 → rest ≡ without_return line
ends_so line rest last e f = sym (before_return rest) ∙ (ap (λ b. without_return (rest ++ b ∷ [])) (sym f) ∙ ap without_return (sym e))
