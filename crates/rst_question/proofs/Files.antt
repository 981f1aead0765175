-- A refusal of the texts of a design has the number of one of them, or none.
use Rattle.std.proofs.Common.{◌≡◌, ◌∙◌, ◌⊎◌, inl, inr, ℕ, suc, ◌+◌, ◌<◌, ◌≤◌, List, [], ◌∷◌, ◌++◌, length, Option, Some, None, Result, Ok, Err, refl, sym, ap, subst, arith}
use Rattle.std.specs.Prelude.{IfSome, slice_get}
use Rattle.std.specs.Option.{option_map}
use Rattle.std.specs.declared.vec.Vec.{Vec}
use Rattle.std.specs.declared.alloc.Global.{Global}
use Rattle.std.proofs.lemmas.List.{length-map}
use Rattle.rst_lex.specs.declared.lexer.LexFault.{LexFault}
use Rattle.rst_lex.specs.declared.lexer.LexFault.TheVariants as lexing
use Rattle.rst_lex.specs.declared.token.Token.{Token}
use Rattle.rst_parse.specs.declared.parser.ParseFault.{ParseFault}
use Rattle.rst_parse.specs.declared.parser.ParseFault.TheVariants as parsing
use Rattle.rst_flow.specs.declared.flowing.FlowError.{FlowError}
use Rattle.rst_flow.specs.declared.flowing.FlowError.TheVariants as flow
use Rattle.rst_tree.specs.Trees.{Text}
use Rattle.rst_tree.specs.Modules.{PlainModule}
use Rattle.rst_net.specs.Units.{PlainFlat}
use Rattle.rst_reject.specs.declared.reject.Reject.{Reject}
use Rattle.rst_reject.specs.Steps.{Then}
use Rattle.rst_causes.specs.Causes.{lexing_reject, parsing_reject, refused_token, no_module, elaboration_reject, flow_reject}
use Rattle.rst_design.specs.Texts.{texts_of, LexingGives, ParsingGives, TextGives, TextsGive}
use Rattle.rst_design.specs.Answers.{Ordered, ElaborationGives, FlowGives, DesignGives, with_order}
use Rattle.rst_question.proofs.Thens.{refusal_of}

-- the file of a refusal
file_of : (r s : Reject) (file : Option ℕ) → Some s ≡ Some r → s.file ≡ file → r.file ≡ file
file_of r s file is has =
    let same : s ≡ r = cc in
    ap (λ (x : Reject). x.file) (sym same) ∙ has

lexing_file : (file : ℕ) (text : Text) (fault : LexFault) (r : Reject) → lexing_reject file text fault ≡ Some r → r.file ≡ Some file
lexing_file file text (lexing.BadByte at) r is = file_of r _ (Some file) is refl
lexing_file file text (lexing.OpenComment at) r is = file_of r _ (Some file) is refl
lexing_file file text (lexing.BadNumber at) r is = file_of r _ (Some file) is refl
lexing_file file text (lexing.NumberTooWide at) r is = file_of r _ (Some file) is refl
lexing_file file text (lexing.Directive at) r is = file_of r _ (Some file) is refl
lexing_file file text lexing.NoMemory r is = cc

mapped_file : (file : ℕ) (o : Option Token) (f : Token → Reject) → ((t : Token) → (f t).file ≡ Some file) → (r : Reject) → option_map f o ≡ Some r → r.file ≡ Some file
mapped_file file None f each r is = cc
mapped_file file (Some t) f each r is = file_of r (f t) (Some file) is (each t)

parsing_file : (file : ℕ) (text : Text) (tokens : List Token) (fault : ParseFault) (r : Reject) → parsing_reject file text tokens fault ≡ Some r → r.file ≡ Some file
parsing_file file text tokens (parsing.Unsupported i) r is = mapped_file file (slice_get tokens i) (refused_token file text) (λ t. refl) r is
parsing_file file text tokens (parsing.NoTree i) r is = mapped_file file (slice_get tokens i) (no_module file text) (λ t. refl) r is
parsing_file file text tokens parsing.NoMemory r is = cc

flow_file : (error : FlowError) (r : Reject) → flow_reject error ≡ Some r → r.file ≡ None
flow_file (flow.Blocking name) r is = file_of r _ None is refl
flow_file (flow.Sensitivity name) r is = file_of r _ None is refl
flow_file (flow.Latch name) r is = file_of r _ None is refl
flow_file (flow.Loop name) r is = file_of r _ None is refl
flow_file flow.Limit r is = file_of r _ None is refl
flow_file flow.NoMemory r is = cc

text_file : (file : ℕ) (text : Text) (r : Reject) → TextGives file text (Err r) → r.file ≡ Some file
text_file file text r gives = elim (refusal_of {First = LexingGives file text} {Rest = ParsingGives file text} r gives) [
  | inl (fault, x, p) ↦ lexing_file file text fault r p
  | inr (tokens, f, (fault, x, p)) ↦ parsing_file file text tokens fault r p
]

below : (file end : ℕ) (o : Option ℕ) → o ≡ Some file → file < end → IfSome o (λ k. k < end)
below file end o is small = subst (λ (x : Option ℕ). IfSome x (λ k. k < end)) (sym is) small

later : (o : Option ℕ) (a b : ℕ) → a ≡ b → IfSome o (λ k. k < a) → IfSome o (λ k. k < b)
later o a b is holds = subst (λ (n : ℕ). IfSome o (λ k. k < n)) is holds

pub texts_file : (file : ℕ) (texts : List Text) (r : Reject) → TextsGive file texts (Err r) → IfSome r.file (λ k. k < file + length texts)
texts_file file [] r gives = cc
texts_file file (text ∷ texts) r gives =
    let Others : List PlainModule → Result (List PlainModule) Reject → Type 0 = λ modules. Then (TextsGive (file + 1) texts) (λ others all. all ≡ Ok (modules ++ others)) in
    elim (refusal_of {First = TextGives file text} {Rest = Others} r gives) [
      | inl f ↦ below file (file + suc (length texts)) r.file (text_file file text r f) (omega arith)
      | inr (modules, f, rest) ↦ elim (refusal_of {First = TextsGive (file + 1) texts} {Rest = λ others all. all ≡ Ok (modules ++ others)} r rest) [
        | inl g ↦ later r.file (file + 1 + length texts) (file + suc (length texts)) (omega arith) (texts_file (file + 1) texts r g)
        | inr (others, g, e) ↦ cc
      ]
    ]

none_file : (o : Option ℕ) (end : ℕ) → o ≡ None → IfSome o (λ k. k < end)
none_file o end is = subst (λ (x : Option ℕ). IfSome x (λ k. k < end)) (sym is) tt

widened : (o : Option ℕ) (a b : ℕ) → a ≤ b → IfSome o (λ k. k < a) → IfSome o (λ k. k < b)
widened None a b le h = tt
widened (Some k) a b le h = omega (arith, h, le)

-- the number of a refused file is below that of the texts
pub file_below : (texts : List Text) (top : Text) (clock : Option Text) (r : Reject) → DesignGives texts top clock (Err r) → IfSome r.file (λ k. k < length texts)
file_below texts top clock r gives =
    let Flowed : PlainFlat → Result Ordered Reject → Type 0 = λ flat. Then (FlowGives flat) (λ order answer. answer ≡ Ok (with_order flat order)) in
    let Elaborated : List PlainModule → Result Ordered Reject → Type 0 = λ modules. Then (ElaborationGives modules top clock) Flowed in
    elim (refusal_of {First = TextsGive 0 texts} {Rest = Elaborated} r gives) [
      | inl f ↦ later r.file (0 + length texts) (length texts) (omega arith) (texts_file 0 texts r f)
      | inr (modules, f, rest) ↦ elim (refusal_of {First = ElaborationGives modules top clock} {Rest = Flowed} r rest) [
        | inl (fault, x, p) ↦ none_file r.file (length texts) (ap (λ (x : Reject). x.file) p)
        | inr (flat, g, flows) ↦ elim (refusal_of {First = FlowGives flat} {Rest = λ order answer. answer ≡ Ok (with_order flat order)} r flows) [
          | inl (error, y, q) ↦ none_file r.file (length texts) (flow_file error r q)
          | inr (order, h, e) ↦ cc
        ]
      ]
    ]

-- of at most 64 texts
pub few_files : (files : List (Vec ℕ Global)) (top : Text) (clock : Option Text) (r : Reject) → length files ≤ 64 → DesignGives (texts_of files) top clock (Err r)
    → IfSome r.file (λ k. k < 64)
few_files files top clock r few gives = widened r.file (length (texts_of files)) 64 (rw (length-map files (λ (file : Vec ℕ Global). file.items)) few) (file_below (texts_of files) top clock r gives)
