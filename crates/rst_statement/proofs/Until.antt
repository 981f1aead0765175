-- Reading the statements of a block, and the arms of a case, one after the other, as a loop does.
use Rattle.std.proofs.Common.{◌≡◌, ℕ, zero, suc, ◌-◌, List, [], ◌∷◌, Bool, Some, None, refl, sym, ap, arith}
use Rattle.std.proofs.lemmas.Bool.{ne_eqb}
use Rattle.rst_tree.specs.Statements.{Statement, Statements, Arms, no_arm, labels, otherwise, appended_arms}
use Rattle.rst_tree.specs.Statements as statements
use Rattle.rst_grammar.specs.declared.symbol.Symbol.{Symbol}
use Rattle.rst_grammar.specs.declared.symbol.Symbol.TheVariants as symbol
use Rattle.rst_grammar.specs.declared.symbol.Terminal.TheVariants as terminal
use Rattle.rst_tree.specs.WellFormed.{defaults}
use Rattle.rst_grammar.specs.Reading.{after, Readers, ◌>>=◌}
use Rattle.rst_grammar.specs.ReadStatement.{StmtReader, until_end, arms_in, labels_in, default_colon}
use Rattle.rst_read.specs.declared.stop.Stop.{Stop}
use Rattle.rst_read.specs.Gives.{Fails}
use Rattle.rst_statement.specs.Parts.{arm_in, labelled_in, default_in}
use Rattle.rst_read.proofs.Chains.{Chain, Found, with_front, with_first, goes_on, ends, fails, stops, regrouped}

-- ---- statements up to `end`

pub joined_statements : Statements → Statements → Statements
joined_statements statements.end ys = ys
joined_statements (statements.more x xs) ys = statements.more x (joined_statements xs ys)

pub before_no_statement : (xs : Statements) → joined_statements xs statements.end ≡ xs
unfolding joined_statements
before_no_statement statements.end = refl
before_no_statement (statements.more x xs) = ap (statements.more x) (before_no_statement xs)

pub along_statements : (xs : Statements) (x : Statement) (ys : Statements) → joined_statements (statements.appended xs x) ys ≡ joined_statements xs (statements.more x ys)
unfolding joined_statements
along_statements statements.end x ys = refl
along_statements (statements.more z zs) x ys = ap (statements.more z) (along_statements zs x ys)

pub behind_no_statement : (xs : Statements) → joined_statements statements.end xs ≡ xs
unfolding joined_statements
behind_no_statement xs = refl

abbrev pub of_statements : Chain Statement Statements
of_statements = record { none = statements.end; more = statements.more; appended = statements.appended; joined = joined_statements; behind_none = behind_no_statement; before_none = before_no_statement; one = λ x. refl; along = along_statements }

end_is : (ts next : List Symbol) → after terminal.End ts ≡ Some next → ts ≡ symbol.Terminal terminal.End ∷ next
end_is [] next e = absurd cc
end_is (symbol.Terminal terminal.End ∷ ts) next e = cc
end_is (s ∷ ts) next e = absurd cc

until_next : (stmt : StmtReader) (j : ℕ) (ts : List Symbol) → after terminal.End ts ≡ None → until_end stmt (suc j) ts ≡ (stmt ts >>= λ s. with_first of_statements s.0 (until_end stmt j s.1))
unfolding until_end
until_next stmt j [] e = refl
until_next stmt j (symbol.Terminal terminal.End ∷ ts) e = absurd cc
until_next stmt j (s ∷ ts) e = refl

pub end_stops : (stmt : StmtReader) (k j : ℕ) (front : Statements) (rest next : List Symbol) (total : Found Statements)
    → k ≡ suc j → after terminal.End rest ≡ Some next → with_front of_statements front (until_end stmt k rest) ≡ total → total ≡ Some (front, next)
unfolding until_end
end_stops stmt k j front rest next total n a so_far = ends of_statements front next (until_end stmt k rest) total (rw (n, end_is rest next a) refl) so_far

pub end_goes_on : (stmt : StmtReader) (k j : ℕ) (front : Statements) (s : Statement) (rest behind : List Symbol) (total : Found Statements)
    → k ≡ suc j → after terminal.End rest ≡ None → stmt rest ≡ Some (s, behind)
    → with_front of_statements front (until_end stmt k rest) ≡ total → with_front of_statements (statements.appended front s) (until_end stmt j behind) ≡ total
end_goes_on stmt k j front s rest behind total n a h so_far =
    goes_on of_statements front s (until_end stmt k rest) (until_end stmt j behind) total (rw (n, until_next stmt j rest a, h) refl) so_far

pub end_fails : (e : Stop) (stmt : StmtReader) (k j : ℕ) (front : Statements) (rest : List Symbol) (total : Found Statements)
    → k ≡ suc j → after terminal.End rest ≡ None → Fails e (stmt rest) → with_front of_statements front (until_end stmt k rest) ≡ total → Fails e total
end_fails e stmt k j front rest total n a h so_far =
    stops of_statements e front (stmt rest) (until_end stmt k rest) total h (λ none. rw (n, until_next stmt j rest a, none) refl) so_far

pub end_missing : (stmt : StmtReader) (k : ℕ) (front : Statements) (rest : List Symbol) (total : Found Statements)
    → k ≡ 0 → with_front of_statements front (until_end stmt k rest) ≡ total → total ≡ None
unfolding until_end
end_missing stmt k front rest total z so_far = fails of_statements front (until_end stmt k rest) total (rw z refl) so_far

-- ---- arms up to `endcase`

pub before_no_arm : (xs : Arms) → appended_arms xs no_arm ≡ xs
before_no_arm no_arm = refl
before_no_arm (labels es s xs) = ap (labels es s) (before_no_arm xs)
before_no_arm (otherwise s xs) = ap (otherwise s) (before_no_arm xs)

pub along_arms : (xs x ys : Arms) → appended_arms (appended_arms xs x) ys ≡ appended_arms xs (appended_arms x ys)
along_arms no_arm x ys = refl
along_arms (labels es s xs) x ys = ap (labels es s) (along_arms xs x ys)
along_arms (otherwise s xs) x ys = ap (otherwise s) (along_arms xs x ys)

abbrev pub of_arms : Chain Arms Arms
of_arms = record { none = no_arm; more = appended_arms; appended = appended_arms; joined = appended_arms; behind_none = λ xs. refl; before_none = before_no_arm; one = λ x. sym (before_no_arm x); along = along_arms }

endcase_is : (ts next : List Symbol) → after terminal.Endcase ts ≡ Some next → ts ≡ symbol.Terminal terminal.Endcase ∷ next
endcase_is [] next e = absurd cc
endcase_is (symbol.Terminal terminal.Endcase ∷ ts) next e = cc
endcase_is (s ∷ ts) next e = absurd cc

-- with labels, no default is used up
labels_next : (below : Readers) (stmt : StmtReader) (wild : Bool) (j most : ℕ) (ts : List Symbol)
    → (labels_in below wild ts >>= λ es. after terminal.Colon es.1 >>= λ behind. stmt behind >>= λ s. arms_in below stmt wild j most s.1 >>= λ others. Some (labels es.0 s.0 others.0, others.1))
    ≡ (labelled_in below stmt wild ts >>= λ a. with_first of_arms a.0 (arms_in below stmt wild j (most - defaults a.0) a.1))
unfolding labelled_in
labels_next below stmt wild j most ts =
    regrouped (labels_in below wild ts) (λ es. after terminal.Colon es.1 >>= λ behind. stmt behind >>= λ s. Some (labels es.0 s.0 no_arm, s.1)) (λ a. with_first of_arms a.0 (arms_in below stmt wild j (most - defaults a.0) a.1)) _ (λ es.
    regrouped (after terminal.Colon es.1) (λ behind. stmt behind >>= λ s. Some (labels es.0 s.0 no_arm, s.1)) (λ a. with_first of_arms a.0 (arms_in below stmt wild j (most - defaults a.0) a.1)) _ (λ behind.
    regrouped (stmt behind) (λ s. Some (labels es.0 s.0 no_arm, s.1)) (λ a. with_first of_arms a.0 (arms_in below stmt wild j (most - defaults a.0) a.1)) _ (λ s.
    ap (λ n. arms_in below stmt wild j n s.1 >>= λ others. Some (labels es.0 s.0 others.0, others.1)) (omega arith))))

default_next : (below : Readers) (stmt : StmtReader) (wild : Bool) (j most : ℕ) (ts : List Symbol)
    → (stmt (default_colon ts) >>= λ s. arms_in below stmt wild j most s.1 >>= λ others. Some (otherwise s.0 others.0, others.1))
    ≡ (default_in stmt ts >>= λ a. with_first of_arms a.0 (arms_in below stmt wild j (suc most - defaults a.0) a.1))
unfolding default_in
default_next below stmt wild j most ts =
    regrouped (stmt (default_colon ts)) (λ s. Some (otherwise s.0 no_arm, s.1)) (λ a. with_first of_arms a.0 (arms_in below stmt wild j (suc most - defaults a.0) a.1)) _ (λ s.
    ap (λ n. arms_in below stmt wild j n s.1 >>= λ others. Some (otherwise s.0 others.0, others.1)) (omega arith))

-- one arm, and those behind it
arms_next : (below : Readers) (stmt : StmtReader) (wild : Bool) (j most : ℕ) (ts : List Symbol) → after terminal.Endcase ts ≡ None
    → arms_in below stmt wild (suc j) most ts ≡ (arm_in below stmt wild most ts >>= λ a. with_first of_arms a.0 (arms_in below stmt wild j (most - defaults a.0) a.1))
unfolding arms_in arm_in
arms_next below stmt wild j most [] e = labels_next below stmt wild j most []
arms_next below stmt wild j most (symbol.Terminal terminal.Endcase ∷ ts) e = absurd cc
arms_next below stmt wild j zero (symbol.Terminal terminal.Default ∷ ts) e = refl
arms_next below stmt wild j (suc most) (symbol.Terminal terminal.Default ∷ ts) e = rw (ne_eqb (suc most) 0 (λ same. absurd (omega arith))) (default_next below stmt wild j most ts)
arms_next below stmt wild j most (s ∷ ts) e = labels_next below stmt wild j most (s ∷ ts)

pub arms_stop : (below : Readers) (stmt : StmtReader) (wild : Bool) (k j most : ℕ) (front : Arms) (rest next : List Symbol) (total : Found Arms)
    → k ≡ suc j → after terminal.Endcase rest ≡ Some next → with_front of_arms front (arms_in below stmt wild k most rest) ≡ total → total ≡ Some (front, next)
unfolding arms_in
arms_stop below stmt wild k j most front rest next total n a so_far = ends of_arms front next (arms_in below stmt wild k most rest) total (rw (n, endcase_is rest next a) refl) so_far

pub arms_go_on : (below : Readers) (stmt : StmtReader) (wild : Bool) (k j most : ℕ) (front x : Arms) (rest behind : List Symbol) (total : Found Arms)
    → k ≡ suc j → after terminal.Endcase rest ≡ None → arm_in below stmt wild most rest ≡ Some (x, behind)
    → with_front of_arms front (arms_in below stmt wild k most rest) ≡ total → with_front of_arms (appended_arms front x) (arms_in below stmt wild j (most - defaults x) behind) ≡ total
arms_go_on below stmt wild k j most front x rest behind total n a h so_far =
    goes_on of_arms front x (arms_in below stmt wild k most rest) (arms_in below stmt wild j (most - defaults x) behind) total (rw (n, arms_next below stmt wild j most rest a, h) refl) so_far

pub arms_fail : (e : Stop) (below : Readers) (stmt : StmtReader) (wild : Bool) (k j most : ℕ) (front : Arms) (rest : List Symbol) (total : Found Arms)
    → k ≡ suc j → after terminal.Endcase rest ≡ None → Fails e (arm_in below stmt wild most rest) → with_front of_arms front (arms_in below stmt wild k most rest) ≡ total → Fails e total
arms_fail e below stmt wild k j most front rest total n a h so_far =
    stops of_arms e front (arm_in below stmt wild most rest) (arms_in below stmt wild k most rest) total h (λ none. rw (n, arms_next below stmt wild j most rest a, none) refl) so_far

pub arms_missing : (below : Readers) (stmt : StmtReader) (wild : Bool) (k most : ℕ) (front : Arms) (rest : List Symbol) (total : Found Arms)
    → k ≡ 0 → with_front of_arms front (arms_in below stmt wild k most rest) ≡ total → total ≡ None
unfolding arms_in
arms_missing below stmt wild k most front rest total z so_far = fails of_arms front (arms_in below stmt wild k most rest) total (rw z refl) so_far
