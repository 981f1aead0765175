-- One text more.
use Rattle.std.proofs.Common.{◌≡◌, ◌≢◌, ℕ, ◌+◌, ◌<◌, List, [], ◌∷◌, ◌++◌, length, take, drop, get_or, slice_get, Some, None, Err, refl, sym, ap, subst, ◌∙◌, append_assoc, append-nil, arith}
use Rattle.std.specs.List.{All}
use Rattle.std.specs.declared.vec.Vec.{Vec}
use Rattle.std.specs.declared.alloc.Global.{Global}
use Rattle.std.proofs.lemmas.Grind.{flat_map-append}
use Rattle.std.proofs.lemmas.List.{map-append, length-map, length-take-le, take-append-drop}
use Rattle.std.proofs.lemmas.List.Elements.{All-append}
use Rattle.rst_lex.specs.declared.token.Token.{Token}
use Rattle.rst_parse.specs.declared.parser.ParseFault.{ParseFault}
use Rattle.rst_parse.specs.declared.parser.ParseFault.TheVariants as parsing
use Rattle.rst_parse.specs.Parsing.{Parses}
use Rattle.rst_tree.specs.declared.module.Source.{Source}
use Rattle.rst_tree.specs.Modules.{plain_source}
use Rattle.rst_tree.specs.WellFormed.{WellFormed}
use Rattle.rst_names.proofs.Turns.{at, read}
use Rattle.rst_hierarchy.specs.Tables.{modules_in}
use Rattle.rst_reject.specs.declared.stop.Stop.{Stop}
use Rattle.rst_reject.specs.declared.stop.Stop.TheVariants as stops
use Rattle.rst_reject.specs.Rejects.{IfRejected}
use Rattle.rst_tree.specs.Trees.{Text}
use Rattle.rst_tree.specs.Modules.{PlainModule}
use Rattle.rst_reject.specs.declared.reject.Reject.{Reject}
use Rattle.rst_reject.specs.Steps.{refused, goes_on, StopsBy}
use Rattle.rst_causes.specs.Causes.{parsing_reject}
use Rattle.rst_design.specs.Texts.{texts_of, SpellsModules, Spells, ParsingGives, TextGives, TextsGive}

-- texts that spell modules, and one more behind them
pub spells_more : (front : List Text) (all : List PlainModule) (text : Text) (more : List PlainModule) → Spells front all → SpellsModules text more → Spells (front ++ text ∷ []) (all ++ more)
spells_more [] all text more is s = (more, [], s, refl, ap (λ l. l ++ more) is ∙ sym (append-nil more))
spells_more (t ∷ ts) all text more (modules, others, first, rest, is) s =
    (modules, others ++ more, first, spells_more ts others text more rest s, ap (λ l. l ++ more) is ∙ append_assoc modules others more)

-- behind texts that spell modules comes one that is refused
pub refused_behind : (file : ℕ) (front : List Text) (all : List PlainModule) (text : Text) (rest : List Text) (r : Reject) → Spells front all → TextGives (file + length front) text (Err r)
    → TextsGive file (front ++ text ∷ rest) (Err r)
refused_behind file [] all text rest r is h = let same : file + 0 ≡ file = omega arith in refused r (subst (λ n. TextGives n text (Err r)) same h) refl
refused_behind file (t ∷ ts) all text rest r (modules, others, first, spelled, is) h =
    let same : file + length (t ∷ ts) ≡ file + 1 + length ts = omega arith in
    goes_on modules (goes_on first.tokens first.lexed first.parsed)
    (refused r (refused_behind (file + 1) ts others text rest r spelled (subst (λ n. TextGives n text (Err r)) same h)) refl)

-- a fault of parsing that is told
pub parsing_refused : (file : ℕ) (text : Text) (tokens : List Token) (fault : ParseFault) (stop : Stop) → (fault ≢ parsing.NoMemory → Parses text tokens (Err fault))
    → IfRejected stop (λ r. parsing_reject file text tokens fault ≡ Some r) → StopsBy (ParsingGives file text tokens) stop
parsing_refused file text tokens fault (stops.Rejected r) parses is = (fault, parses told, is)
  where
    told : fault ≡ parsing.NoMemory → ⊥
    told none = let no : None ≡ Some r = subst (λ f. parsing_reject file text tokens f ≡ Some r) none is in cc
parsing_refused file text tokens fault stops.NoMemory parses is = tt

-- one turn of the loop over files
module _ (files : List (Vec ℕ Global)) (i : ℕ) (file : Vec ℕ Global) (within : i < length files) (is : file ≡ get_or files i file) where
  there : slice_get files i ≡ Some file
  there = read files i file within is

  front : texts_of (take (i + 1) files) ≡ texts_of (take i files) ++ file.items ∷ []
  front = ap texts_of (at files i file there).front ∙ map-append _ (take i files) (file ∷ [])

  pub file_spelled : (sources longer : List Source) (source : Source) → longer ≡ sources ++ source ∷ [] → Spells (texts_of (take i files)) (modules_in sources) → SpellsModules file.items (plain_source source)
      → Spells (texts_of (take (i + 1) files)) (modules_in longer)
  file_spelled sources longer source pushed so_far more =
      let all : modules_in sources ++ plain_source source ≡ modules_in longer =
      ap (λ l. modules_in sources ++ l) (sym (append-nil (plain_source source))) ∙ (sym (flat_map-append plain_source sources (source ∷ [])) ∙ ap modules_in (sym pushed)) in
      subst (λ l. Spells l (modules_in longer)) (sym front)
      (subst (Spells (texts_of (take i files) ++ file.items ∷ [])) all (spells_more (texts_of (take i files)) (modules_in sources) file.items (plain_source source) so_far more))

  whole : texts_of (take i files) ++ file.items ∷ texts_of (drop (i + 1) files) ≡ texts_of files
  whole =
      sym (map-append _ (take i files) (file ∷ drop (i + 1) files)) ∙ (ap (λ l. texts_of (take i files ++ l)) (sym (at files i file there).back) ∙ ap texts_of (take-append-drop i files))

  pub file_refused : (all : List PlainModule) (stop : Stop) → Spells (texts_of (take i files)) all → StopsBy (TextGives i file.items) stop → StopsBy (TextsGive 0 (texts_of files)) stop
  file_refused all (stops.Rejected r) so_far h =
      let len : length (texts_of (take i files)) ≡ i = length-map (take i files) _ ∙ length-take-le i files (omega arith) in
      let count : i ≡ 0 + length (texts_of (take i files)) = omega arith in
      subst (λ l. TextsGive 0 l (Err r)) whole (refused_behind 0 (texts_of (take i files)) all file.items (texts_of (drop (i + 1) files)) r so_far (subst (λ n. TextGives n file.items (Err r)) count h))
  file_refused all stops.NoMemory so_far h = tt

-- the modules of one source more are well formed
pub file_formed : (sources longer : List Source) (source : Source) → longer ≡ sources ++ source ∷ [] → All WellFormed (modules_in sources) → All WellFormed (plain_source source)
    → All WellFormed (modules_in longer)
file_formed sources longer source pushed formed more =
    subst (λ l. All WellFormed (modules_in l)) (sym pushed)
    (subst (All WellFormed) (sym (flat_map-append plain_source sources (source ∷ [])))
    (All-append WellFormed (modules_in sources) (plain_source source ++ []) formed (subst (All WellFormed) (sym (append-nil (plain_source source))) more)))
