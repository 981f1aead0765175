-- What the loop over a text keeps.
use Rattle.std.proofs.Common.{◌≡◌, ℕ, ◌+◌, ◌-◌, ◌<◌, ◌≤◌, List, [], ◌∷◌, ◌++◌, length, take, drop, Ok, Err, inl, inr, refl, sym, ap, subst, ◌∙◌, arith, append_assoc, length-append, length-drop, All, slice_range}
use Rattle.std.proofs.lemmas.List.Elements.{All-cons, All-nil}
use Rattle.std.proofs.lemmas.List.{append-nil, nil_from_length, drop-drop}
use Rattle.std.proofs.Math.Seq.{take-length, take-append_seam}
use Rattle.std.proofs.lemmas.List.Prefix.{front_rest}
use Rattle.rst_lex.specs.declared.front.Cause.{Cause}
use Rattle.rst_lex.specs.declared.piece.Piece.{Piece}
use Rattle.rst_lex.specs.declared.piece.Piece.TheVariants as pieces
use Rattle.rst_lex.specs.declared.lexer.LexFault.{LexFault}
use Rattle.rst_lex.specs.declared.lexer.LexFault.TheVariants as faults
use Rattle.rst_lex.specs.declared.token.TokenKind.{TokenKind}
use Rattle.rst_lex.specs.declared.token.Token.{Token}
use Rattle.rst_lex.specs.Gaps.{IsGap}
use Rattle.rst_lex.specs.Tokens.{IsToken, token_text, InOrder}
use Rattle.rst_lex.specs.Lexing.{Answer, with_token, fault_at, Lexes, done, gap, token, fault, bad_byte, Reads, IsTokenOf}
use Rattle.rst_lex.specs.Pieces.{IsPiece}
use Rattle.rst_lex.proofs.Shapes.{no_empty_token}
use Rattle.rst_lex.proofs.GapFronts.{no_empty_gap}

abbrev ok_of : List Token → Answer
ok_of tokens = Ok tokens

abbrev err_of : LexFault → Answer
err_of f = Err f

-- an answer with these tokens before the others
abbrev pub with_tokens : List Token → Answer → Answer
with_tokens ts (Ok us) = Ok (ts ++ us)
with_tokens ts (Err f) = Err f

-- What is read of the rest is, behind these tokens, what is read of the text.
pub record Front (text : List ℕ) (at : ℕ) (ts : List Token) : Type 0 where
  pub goes : (answer : Answer) → Lexes at (drop at text) answer → Reads text (with_tokens ts answer)
  pub within : at ≤ length text

with_none : (answer : Answer) → answer ≡ with_tokens [] answer
with_none (Ok us) = refl
with_none (Err f) = refl

pub front_start : (text : List ℕ) → Front text 0 []
front_start text = record { goes = λ answer l. subst (Reads text) (with_none answer) l; within = omega arith }

-- what the piece at a place says
pub piece_says : (text : List ℕ) (at : ℕ) (p : Piece) → at < length text → IsPiece p (take (length text - at) (drop at text)) → IsPiece p (drop at text)
piece_says text at p lt s =
    let whole : take (length text - at) (drop at text) ≡ drop at text = ap (λ k. take k (drop at text)) (sym (length-drop at text)) ∙ take-length (drop at text) in
    subst (IsPiece p) whole s

pub gap_some : (bs : List ℕ) → IsGap bs → 0 < length bs
gap_some [] g = absurd (no_empty_gap g)
gap_some (b ∷ bs) g = omega arith

pub token_some : (bs : List ℕ) → IsToken bs → 0 < length bs
token_some [] t = absurd (no_empty_token t)
token_some (b ∷ bs) t = omega arith

pub gap_ends : (text : List ℕ) (at len : ℕ) → at < length text → IsPiece (pieces.Gap len) (drop at text) → (0 < len) × (at + len ≤ length text)
gap_ends text at len lt s =
    let some = gap_some s.0 s.3.fits in
    let whole = ap length s.3.parts ∙ length-append s.0 s.1 in
    (omega (arith, some, s.4), omega (arith, whole, length-drop at text, s.4))

pub token_ends : (text : List ℕ) (at len : ℕ) (kind : TokenKind) → at < length text → IsPiece (pieces.Token kind len) (drop at text) → (0 < len) × (at + len ≤ length text)
token_ends text at len kind lt s =
    let some = token_some s.0 s.4.fits in
    let whole = ap length s.4.parts ∙ length-append s.0 s.1 in
    (omega (arith, some, s.6), omega (arith, whole, length-drop at text, s.6))

rest_is : (text : List ℕ) (at len : ℕ) (bs rest : List ℕ) → drop at text ≡ bs ++ rest → length bs ≡ len → rest ≡ drop (at + len) text
rest_is text at len bs rest e n = sym (sym (drop-drop len at text) ∙ ap (λ k. drop k (drop at text)) (sym n) ∙ front_rest (drop at text) bs rest e)

pub front_gap : (text : List ℕ) (at len : ℕ) (ts : List Token) → at < length text → Front text at ts → IsPiece (pieces.Gap len) (drop at text) → Front text (at + len) ts
front_gap text at len ts lt f s =
    let rest = rest_is text at len s.0 s.1 s.3.parts s.4 in
    record {
      goes = λ answer l. f.goes answer (gap s.0 s.1 s.2 s.3 (subst (λ n. Lexes (at + n) s.1 answer) (sym s.4) (subst (λ r. Lexes (at + len) r answer) (sym rest) l)));
      within = (gap_ends text at len lt s).1;
    }

with_one : (ts : List Token) (kind : TokenKind) (start end : ℕ) (answer : Answer) → with_tokens ts (with_token kind start end answer) ≡ with_tokens (ts ++ (record { kind = kind; start = start; end = end } ∷ [])) answer
with_one ts kind start end (Ok us) = ap (λ (l : List Token). Ok l) (sym (append_assoc ts (record { kind = kind; start = start; end = end } ∷ []) us))
with_one ts kind start end (Err f) = refl

pub front_token : (text : List ℕ) (at len : ℕ) (kind : TokenKind) (ts : List Token) → at < length text → Front text at ts → IsPiece (pieces.Token kind len) (drop at text) → Front text (at + len) (ts ++ (record { kind = kind; start = at; end = at + len } ∷ []))
front_token text at len kind ts lt f s =
    let rest = rest_is text at len s.0 s.1 s.4.parts s.6 in
    record {
      goes = λ answer l. subst (Reads text) (with_one ts kind at (at + len) answer) (f.goes (with_token kind at (at + len) answer)
          (token kind s.0 s.1 answer s.2 s.3 s.4 s.5 (subst (λ n. Lexes (at + n) s.1 answer) (sym s.6) (subst (λ r. Lexes (at + len) r answer) (sym rest) l)) (ap (λ n. with_token kind at (at + n) answer) (sym s.6))));
      within = (token_ends text at len kind lt s).1;
    }

at_end : (text : List ℕ) (at : ℕ) → length text ≤ at → drop at text ≡ []
at_end text at le = nil_from_length (drop at text) (omega (arith, length-drop at text))

pub front_done : (text : List ℕ) (at : ℕ) (ts : List Token) → length text ≤ at → Front text at ts → Reads text (Ok ts)
front_done text at ts le f = subst (λ (l : List Token). Reads text (Ok l)) (append-nil ts) (f.goes (Ok []) (subst (λ r. Lexes at r (Ok [])) (sym (at_end text at le)) done))

pub fault_reads : (at : ℕ) (text : List ℕ) (cause : Cause) → 0 < length text → IsPiece (pieces.Fault cause) text → Lexes at text (Err (fault_at cause at))
fault_reads at text cause lt (inl f) = fault cause f
fault_reads at [] cause lt (inr b) = absurd (omega arith)
fault_reads at (c ∷ cs) cause lt (inr b) = subst (λ k. Lexes at (c ∷ cs) (Err (fault_at k at))) (sym b.0) (bad_byte c cs b.1 b.2 b.3)

pub front_fault : (text : List ℕ) (at : ℕ) (ts : List Token) (cause : Cause) → at < length text → Front text at ts → IsPiece (pieces.Fault cause) (drop at text) → Reads text (Err (fault_at cause at))
front_fault text at ts cause lt f s = f.goes (Err (fault_at cause at)) (fault_reads at (drop at text) cause (omega (arith, length-drop at text)) s)

-- ---- where tokens stand, and what they are

pub record Stands (whole : List ℕ) (at : ℕ) (text : List ℕ) (tokens : List Token) : Type 0 where
  pub order : InOrder at (at + length text) tokens
  pub kinds : All (λ t. IsTokenOf t.kind (token_text whole t)) tokens

weaker : (low from len : ℕ) (tokens : List Token) → low ≤ from → InOrder from len tokens → InOrder low len tokens
weaker low from len [] le o = omega arith
weaker low from len (t ∷ tokens) le o = (omega arith, o.1, o.2)

middle : (text front bs rest : List ℕ) (at : ℕ) → text ≡ front ++ (bs ++ rest) → length front ≡ at → slice_range text at (at + length bs) ≡ bs
middle text front bs rest at e n =
    let behind : drop at text ≡ bs ++ rest = ap (λ k. drop k text) (sym n) ∙ front_rest text front (bs ++ rest) e in
    let count : at + length bs - at ≡ length bs = omega arith in
    ap (λ k. take k (drop at text)) count ∙ ap (take (length bs)) behind ∙ take-append_seam bs rest

same_ok : (us vs : List Token) → ok_of us ≡ ok_of vs → us ≡ vs
same_ok us vs e = cc

ok_no_err : (us : List Token) (f : LexFault) → ok_of us ≡ err_of f → ⊥
ok_no_err us f e = cc

behind_gap : (whole : List ℕ) (at : ℕ) (text bs rest : List ℕ) (tokens : List Token) → text ≡ bs ++ rest → Stands whole (at + length bs) rest tokens → Stands whole at text tokens
behind_gap whole at text bs rest tokens e s =
    let n : at + length bs + length rest ≡ at + length text = omega (arith, ap length e, length-append bs rest) in
    record { order = weaker at (at + length bs) (at + length text) tokens (omega arith) (subst (λ n. InOrder (at + length bs) n tokens) n s.order); kinds = s.kinds }

with_first : (whole front : List ℕ) (at : ℕ) (text bs rest : List ℕ) (kind : TokenKind) (tokens : List Token) → whole ≡ front ++ text → length front ≡ at → text ≡ bs ++ rest → IsToken bs → IsTokenOf kind bs
    → Stands whole (at + length bs) rest tokens → Stands whole at text (record { kind = kind; start = at; end = at + length bs } ∷ tokens)
with_first whole front at text bs rest kind tokens w n e t k s =
    let first : Token = record { kind = kind; start = at; end = at + length bs } in
    let len : at + length bs + length rest ≡ at + length text = omega (arith, ap length e, length-append bs rest) in
    let here = middle whole front bs rest at (w ∙ ap (λ k. front ++ k) e) n in
    record {
      order = (omega arith, omega (arith, token_some bs t), subst (λ n. InOrder (at + length bs) n tokens) len s.order);
      kinds = All-cons (λ t. IsTokenOf t.kind (token_text whole t)) first tokens (subst (IsTokenOf kind) (sym here) k) s.kinds;
    }

token_in : (whole front : List ℕ) (at : ℕ) (text bs rest : List ℕ) (kind : TokenKind) (others answer : Answer) (tokens : List Token) → whole ≡ front ++ text → length front ≡ at → text ≡ bs ++ rest → IsToken bs → IsTokenOf kind bs
    → answer ≡ with_token kind at (at + length bs) others → answer ≡ Ok tokens → ((us : List Token) → others ≡ Ok us → Stands whole (at + length bs) rest us) → Stands whole at text tokens
token_in whole front at text bs rest kind (Err f) answer tokens w n e t k a b again = absurd (ok_no_err tokens f (sym b ∙ a))
token_in whole front at text bs rest kind (Ok us) answer tokens w n e t k a b again =
    subst (Stands whole at text) (same_ok (record { kind = kind; start = at; end = at + length bs } ∷ us) tokens (sym a ∙ b)) (with_first whole front at text bs rest kind us w n e t k (again us refl))

nothing_in : (whole : List ℕ) (at : ℕ) → Stands whole at [] []
nothing_in whole at = record { order = omega arith; kinds = All-nil (λ t. IsTokenOf t.kind (token_text whole t)) }

stands_in : {at : ℕ} {text : List ℕ} {answer : Answer} (whole front : List ℕ) (tokens : List Token) → whole ≡ front ++ text → length front ≡ at → answer ≡ Ok tokens → Lexes at text answer → Stands whole at text tokens
stands_in {at} whole front tokens w n a done = subst (Stands whole at []) (same_ok [] tokens a) (nothing_in whole at)
stands_in {at} {text} whole front tokens w n a (gap bs rest s b l) =
    behind_gap whole at text bs rest tokens b.parts (stands_in whole (front ++ bs) tokens (w ∙ ap (λ k. front ++ k) b.parts ∙ sym (append_assoc front bs rest)) (omega (arith, n, length-append front bs)) a l)
stands_in {at} {text} {answer} whole front tokens w n a (token kind bs rest others s g b k l e) =
    token_in whole front at text bs rest kind others answer tokens w n b.parts b.fits k e a
    (λ us f. stands_in whole (front ++ bs) us (w ∙ ap (λ k. front ++ k) b.parts ∙ sym (append_assoc front bs rest)) (omega (arith, n, length-append front bs)) f l)
stands_in {at} whole front tokens w n a (fault cause f) = absurd (ok_no_err tokens (fault_at cause at) (sym a))
stands_in {at} whole front tokens w n a (bad_byte c cs s g t) = absurd (ok_no_err tokens (faults.BadByte at) (sym a))

pub in_order : (text : List ℕ) (tokens : List Token) → Reads text (Ok tokens) → InOrder 0 (length text) tokens
in_order text tokens l = let n : 0 + length text ≡ length text = omega arith in subst (λ n. InOrder 0 n tokens) n (stands_in text [] tokens refl refl refl l).order

pub kinds_in : (text : List ℕ) (tokens : List Token) → Reads text (Ok tokens) → All (λ t. IsTokenOf t.kind (token_text text t)) tokens
kinds_in text tokens l = (stands_in text [] tokens refl refl refl l).kinds
