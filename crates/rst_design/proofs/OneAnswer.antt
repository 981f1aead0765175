-- Texts come to one answer, since a text is read in one way.
use Rattle.std.proofs.Common.{◌≡◌, ℕ, ◌+◌, List, [], ◌∷◌, Option, Some, Result, Ok, Err, sym, ap, ◌∙◌}
use Rattle.rst_lex.specs.declared.token.Token.{Token}
use Rattle.rst_lex.specs.Lexing as lexing
use Rattle.rst_lex.specs.Lexing.{Reads}
use Rattle.rst_tree.specs.Trees.{Text}
use Rattle.rst_tree.specs.Modules.{PlainModule}
use Rattle.rst_parse.proofs.OneAnswer as parsing
use Rattle.rst_net.specs.Units.{PlainFlat}
use Rattle.rst_elab.specs.Elaborated.{flat_below, IsFlat}
use Rattle.rst_flow.specs.declared.net.Net.{Net}
use Rattle.rst_reject.specs.declared.reject.Reject.{Reject}
use Rattle.rst_reject.specs.Steps.{Then, goes_on, HasOneAnswer}
use Rattle.rst_reject.proofs.Steps.{one_answer}
use Rattle.rst_causes.specs.Causes.{lexing_reject, parsing_reject, elaboration_reject}
use Rattle.rst_design.specs.Texts.{LexingGives, ParsingGives, TextGives, TextsGive}
use Rattle.rst_design.specs.Netlists.{IsDesignOf, IsNetlistOf, plain_net}
use Rattle.rst_design.specs.Answers.{ElaborationGives, with_order, in_order, DesignGives, IsRefused}
use Rattle.rst_design.proofs.Gives.{spelled_gives, netlist_gives, netlist_parts}
use Rattle.rst_design.proofs.Rows.{one_flow}

module _ (once : (text : List ℕ) (p q : lexing.Answer) → Reads text p → Reads text q → p ≡ q) where
  -- ---- texts

  one_lexing : (file : ℕ) (text : Text) → HasOneAnswer (LexingGives file text)
  one_lexing file text (Ok a) (Ok b) x y = let same = once text _ _ x y in cc
  one_lexing file text (Ok a) (Err s) x (g, y, q) = let no = once text _ _ x y in cc
  one_lexing file text (Err r) (Ok b) (f, x, p) y = let no = once text _ _ x y in cc
  one_lexing file text (Err r) (Err s) (f, x, p) (g, y, q) =
      let same : f ≡ g = let errors = once text _ _ x y in cc in
      let somes : Some r ≡ Some s = sym p ∙ (ap (lexing_reject file text) same ∙ q) in
      cc

  one_parsing : (file : ℕ) (text : Text) (tokens : List Token) → HasOneAnswer (ParsingGives file text tokens)
  one_parsing file text tokens (Ok a) (Ok b) x y = let same = parsing.one_answer text tokens (Ok a) (Ok b) x y in cc
  one_parsing file text tokens (Ok a) (Err s) x (g, y, q) = let no = parsing.one_answer text tokens (Ok a) (Err g) x y in cc
  one_parsing file text tokens (Err r) (Ok b) (f, x, p) y = let no = parsing.one_answer text tokens (Err f) (Ok b) x y in cc
  one_parsing file text tokens (Err r) (Err s) (f, x, p) (g, y, q) =
      let same : f ≡ g = let errors = parsing.one_answer text tokens (Err f) (Err g) x y in cc in
      let somes : Some r ≡ Some s = sym p ∙ (ap (parsing_reject file text tokens) same ∙ q) in
      cc

  one_text : (file : ℕ) (text : Text) → HasOneAnswer (TextGives file text)
  one_text file text = one_answer (one_lexing file text) (one_parsing file text)

  pub one_source : (file : ℕ) (texts : List Text) → HasOneAnswer (TextsGive file texts)
  one_source file [] p q x y = x ∙ sym y
  one_source file (text ∷ texts) p q x y =
      one_answer (one_text file text) (λ modules. one_answer (one_source (file + 1) texts) (λ others a b e f. e ∙ sym f)) p q x y

  -- ---- elaboration

  one_flat : (modules : List PlainModule) (top : Text) (clock : Option Text) (a b : PlainFlat) → IsFlat modules top clock a → IsFlat modules top clock b → a ≡ b
  one_flat modules top clock a b x y =
      let same : x.of ≡ y.of = let somes = sym x.is_top ∙ y.is_top in cc in
      x.flat ∙ (ap (flat_below modules top clock) same ∙ sym y.flat)

  one_elaboration : (modules : List PlainModule) (top : Text) (clock : Option Text) → HasOneAnswer (ElaborationGives modules top clock)
  one_elaboration modules top clock (Ok a) (Ok b) (n, x) (m, y) = ap Ok (one_flat modules top clock a b x y)
  one_elaboration modules top clock (Ok a) (Err s) (n, x) (g, y, q) = cc
  one_elaboration modules top clock (Err r) (Ok b) (f, x, p) (m, y) = cc
  one_elaboration modules top clock (Err r) (Err s) (f, x, p) (g, y, q) =
      let same : f ≡ g = let somes = sym x ∙ y in cc in
      ap Err (p ∙ (ap elaboration_reject same ∙ sym q))

  -- ---- the whole

  abbrev pub FlatGives : List Text → Text → Option Text → Result PlainFlat Reject → Type 0
  FlatGives texts top clock = Then (TextsGive 0 texts) (λ modules. ElaborationGives modules top clock)

  pub one_design : (texts : List Text) (top : Text) (clock : Option Text) (a b : PlainFlat) → IsDesignOf texts top clock a → IsDesignOf texts top clock b → a ≡ b
  one_design texts top clock a b x y =
      let one : HasOneAnswer (FlatGives texts top clock) = one_answer (one_source 0 texts) (λ modules. one_elaboration modules top clock) in
      let gives_a : FlatGives texts top clock (Ok a) = goes_on x.modules (spelled_gives 0 texts x.modules x.spelled) (x.none, x.is) in
      let gives_b : FlatGives texts top clock (Ok b) = goes_on y.modules (spelled_gives 0 texts y.modules y.spelled) (y.none, y.is) in
      let same = one (Ok a) (Ok b) gives_a gives_b in
      cc

  pub one_whole : (texts : List Text) (top : Text) (clock : Option Text) → HasOneAnswer (DesignGives texts top clock)
  one_whole texts top clock =
      one_answer (one_source 0 texts) (λ modules.
      one_answer (one_elaboration modules top clock) (λ flat. one_answer (one_flow flat) (λ order p q x y. x ∙ sym y)))

  pub one_netlist : (texts : List Text) (top : Text) (clock : Option Text) (a b : Net) → IsNetlistOf texts top clock a → IsNetlistOf texts top clock b → plain_net a ≡ plain_net b
  one_netlist texts top clock a b x y =
      let same : with_order x.flat x.made.order ≡ with_order y.flat y.made.order =
      let oks = one_whole texts top clock (Ok (with_order x.flat x.made.order)) (Ok (with_order y.flat y.made.order)) (netlist_gives texts top clock a x) (netlist_gives texts top clock b y) in cc in
      netlist_parts texts top clock a x ∙ (ap in_order same ∙ sym (netlist_parts texts top clock b y))

  pub one_refusal : (texts : List Text) (top : Text) (clock : Option Text) (r s : Reject) → IsRefused texts top clock r → IsRefused texts top clock s → r ≡ s
  one_refusal texts top clock r s x y = let errors = one_whole texts top clock (Err r) (Err s) x y in cc

  pub not_both : (texts : List Text) (top : Text) (clock : Option Text) (net : Net) (r : Reject) → IsNetlistOf texts top clock net → IsRefused texts top clock r → ⊥
  not_both texts top clock net r n x = let no = one_whole texts top clock (Ok (with_order n.flat n.made.order)) (Err r) (netlist_gives texts top clock net n) x in cc
