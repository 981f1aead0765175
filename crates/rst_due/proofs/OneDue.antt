-- Each step comes to one answer, and so does the chain, but for the evidence of a verdict.
use Rattle.std.proofs.Common.{◌≡◌, ◌∙◌, inl, inr, ℕ, List, [], ◌∷◌, codes, Option, Some, None, Result, Ok, Err, refl, sym, ap, subst}
use Rattle.rst_outside.specs.declared.desk.DeskFile.{DeskFile}
use Rattle.rst_reject.specs.declared.reject.Reject.{Reject}
use Rattle.rst_reject.specs.Steps.{Then, refused, goes_on, HasOneAnswer}
use Rattle.rst_tree.specs.Trees.{Text}
use Rattle.rst_command.specs.Commands.{Input, Command, Check, Known, Demo, command_of}
use Rattle.rst_loads.specs.declared.loading.Stop.{Stop}
use Rattle.rst_loads.specs.declared.loading.Stop.TheVariants.{Unread, TooLong, NoMemory}
use Rattle.rst_loads.specs.Loads.{Texts, texts_of}
use Rattle.rst_demo.specs.Demo.{demo_source, demo_script}
use Rattle.rst_verdict.specs.declared.verdict.Verdict.{Verdict}
use Rattle.rst_answer.specs.declared.answer.Answer.TheVariants as answer
use Rattle.rst_answer.specs.Answers.{Due, refused_due}
use Rattle.rst_design.specs.Answers.{DesignGives}
use Rattle.rst_question.specs.Questions.{Question, QuestionGives}
use Rattle.rst_question.proofs.OneQuestion.{one_question}
use Rattle.rst_replies.specs.Replies.{check_due, demo_due, shown_due}
use Rattle.rst_due.specs.declared.input.Purpose.{Purpose}
use Rattle.rst_due.specs.declared.input.Purpose.TheVariants as purpose
use Rattle.rst_due.specs.Due.{Step, Stops, CommandGives, LoadStops, LoadsGive, places_of, Asks, no_places, unfiled, DemoAsks, DecisionGives, QuestionDecides, DemoDecides, InputRuns, CommandRuns, IsDue, CommandDecides, AreOne}
use Rattle.rst_due.specs.Asked.{CommandAsks}

-- A CHAIN WHOSE FIRST STEP IS KNOWN

module _ {A : Type 0} {First : Step A} {Rest : A → Step (Unit {0})} (one : HasOneAnswer First) where
  -- it goes on as its first step does
  pub goes : {a : A} {answer : Result (Unit {0}) Due} → First (Ok a) → Then First Rest answer → Rest a answer
  goes {a} {answer} first (refused r f e) = let no = one (Ok a) (Err r) first f in cc
  goes {a} {answer} first (goes_on b f x) =
      let oks = one (Ok b) (Ok a) f first in
      let same : b ≡ a = cc in
      subst (λ (z : A). Rest z answer) same x

-- what a chain stops with is one, but for the evidence of a verdict
abbrev pub IsAlike : Step (Unit {0}) → Type 0
IsAlike Chain = (a b : Due) → Chain (Err a) → Chain (Err b) → AreOne a b

module _ {A : Type 0} {First : Step A} {Rest : A → Step (Unit {0})} (one : HasOneAnswer First) (rest : (a : A) → IsAlike (Rest a)) where
  pub alike : IsAlike (Then First Rest)
  alike a b (refused r f e) (refused s g h) =
      let errors = one (Err r) (Err s) f g in
      let same : a ≡ b = cc in
      inl same
  alike a b (refused r f e) (goes_on y g z) = let no = one (Err r) (Ok y) f g in cc
  alike a b (goes_on x f z) (refused s g h) = let no = one (Ok x) (Err s) f g in cc
  alike a b (goes_on x f v) (goes_on y g w) =
      let oks = one (Ok y) (Ok x) g f in
      let same : y ≡ x = cc in
      rest x a b v (subst (λ (z : A). Rest z (Err b)) same w)

alike_stop : (due : Due) → IsAlike (Stops due)
alike_stop due a b x y = let same : a ≡ b = cc in inl same

-- behind a decision stands a verdict
verdict_stop : (q : Question) (of : Verdict → Due) → ((verdict : Verdict) → (of verdict).answer ≡ answer.Decided verdict) → (due : Due)
    → Then (DecisionGives q) (λ verdict. Stops (of verdict)) (Err due) → (v : Verdict) × (due.answer ≡ answer.Decided v)
verdict_stop q of decided due (refused r f e) = absurd f
verdict_stop q of decided due (goes_on verdict f x) =
    let same : due ≡ of verdict = cc in
    (verdict, ap (λ (d : Due). d.answer) same ∙ decided verdict)

alike_verdicts : (q : Question) (of : Verdict → Due) → ((verdict : Verdict) → (of verdict).answer ≡ answer.Decided verdict)
    → IsAlike (Then (DecisionGives q) (λ verdict. Stops (of verdict)))
alike_verdicts q of decided a b x y = inr (verdict_stop q of decided a x, verdict_stop q of decided b y)

-- THE STEPS

one_command : (words : List (List ℕ)) → HasOneAnswer (CommandGives words)
one_command words (Ok a) (Ok b) x y = let somes = sym x ∙ y in cc
one_command words (Ok a) (Err e) x (n, y) = cc
one_command words (Err d) (Ok b) (n, x) y = cc
one_command words (Err d) (Err e) (n, x) (m, y) = ap Err (x ∙ sym y)

one_load_stop : (words : List (List ℕ)) (stop : Stop) (d e : Due) → LoadStops words stop d → LoadStops words stop e → d ≡ e
one_load_stop words (Unread place) d e x y = x ∙ sym y
one_load_stop words (TooLong place) d e x y = x ∙ sym y
one_load_stop words NoMemory d e x y = absurd x

one_load : (words : List (List ℕ)) (files : List DeskFile) (failed : Option ℕ) (input : Input) → HasOneAnswer (LoadsGive words files failed input)
one_load words files failed input (Ok a) (Ok b) x y = let oks = sym x ∙ y in cc
one_load words files failed input (Ok a) (Err e) x (t, y, q) = cc
one_load words files failed input (Err d) (Ok b) (s, x, p) y = cc
one_load words files failed input (Err d) (Err e) (s, x, p) (t, y, q) =
    let same : s ≡ t = let errors = sym x ∙ y in cc in
    ap Err (one_load_stop words t d e (subst (λ (z : Stop). LoadStops words z d) same p) q)

module _ (one : (texts : List Text) (top : Text) (clock : Option Text) → HasOneAnswer (DesignGives texts top clock)) where
  pub one_asked : (words : List (List ℕ)) (input : Input) (texts : Texts) → HasOneAnswer (Asks words input texts)
  one_asked words input texts (Ok a) (Ok b) x y =
      let oks = one_question one (places_of input) input.top texts.script texts.sources (Ok a) (Ok b) x y in cc
  one_asked words input texts (Ok a) (Err e) x (s, y, q) =
      let no = one_question one (places_of input) input.top texts.script texts.sources (Ok a) (Err s) x y in cc
  one_asked words input texts (Err d) (Ok b) (r, x, p) y =
      let no = one_question one (places_of input) input.top texts.script texts.sources (Err r) (Ok b) x y in cc
  one_asked words input texts (Err d) (Err e) (r, x, p) (s, y, q) =
      let same : r ≡ s = let errors = one_question one (places_of input) input.top texts.script texts.sources (Err r) (Err s) x y in cc in
      ap Err (p ∙ (ap (refused_due words) same ∙ sym q))

  one_demo : (stages : ℕ) → HasOneAnswer (QuestionGives no_places (codes "demo") demo_script (demo_source stages ∷ []))
  one_demo stages = one_question one no_places (codes "demo") demo_script (demo_source stages ∷ [])

  pub one_demo_asked : (words : List (List ℕ)) (stages : ℕ) → HasOneAnswer (DemoAsks words stages)
  one_demo_asked words stages (Ok a) (Ok b) x y = let oks = one_demo stages (Ok a) (Ok b) x y in cc
  one_demo_asked words stages (Ok a) (Err e) x (s, y, q) = let no = one_demo stages (Ok a) (Err s) x y in cc
  one_demo_asked words stages (Err d) (Ok b) (r, x, p) y = let no = one_demo stages (Err r) (Ok b) x y in cc
  one_demo_asked words stages (Err d) (Err e) (r, x, p) (s, y, q) =
      let same : r ≡ s = let errors = one_demo stages (Err r) (Err s) x y in cc in
      ap Err (p ∙ (ap (λ (z : Reject). refused_due words (unfiled z)) same ∙ sym q))

  -- WHAT IS DUE OF A QUESTION THAT IS ASKED

  pub input_goes_on : (words : List (List ℕ)) (files : List DeskFile) (failed : Option ℕ) (command : Command) (purpose : Purpose) (input : Input) (texts : Texts) (q : Question) (due : Due)
      → LoadsGive words files failed input (Ok texts) → Asks words input texts (Ok q) → InputRuns words files failed purpose input (Err due) → QuestionDecides input purpose q (Err due)
  input_goes_on words files failed command purpose input texts q due gives asks runs =
      goes (one_asked words input texts) asks (goes (one_load words files failed input) gives runs)

  -- of a command's question
  pub decides_due : (words : List (List ℕ)) (files : List DeskFile) (failed : Option ℕ) (command : Command) (q : Question) (due : Due) → CommandAsks words files failed command q
      → CommandRuns words files failed command (Err due) → CommandDecides command q (Err due)
  decides_due words files failed (Check input cert) q due (texts, gives, asks) runs = input_goes_on words files failed (Check input cert) purpose.Check input texts q due gives asks runs
  decides_due words files failed (Known input) q due (texts, gives, asks) runs = input_goes_on words files failed (Known input) purpose.Known input texts q due gives asks runs
  decides_due words files failed (Demo stages) q due asks runs = goes (one_demo_asked words stages) asks runs

  pub asked_due : (words : List (List ℕ)) (files : List DeskFile) (failed : Option ℕ) (command : Command) (q : Question) (due : Due) → command_of words ≡ Some command
      → CommandAsks words files failed command q → IsDue words files failed due → CommandDecides command q (Err due)
  asked_due words files failed command q due spelled asks is = decides_due words files failed command q due asks (goes (one_command words) spelled is)

  -- AT MOST ONE ANSWER IS DUE, BUT FOR THE EVIDENCE OF A VERDICT

  alike_question : (input : Input) (purpose : Purpose) (q : Question) → IsAlike (QuestionDecides input purpose q)
  alike_question input purpose.Check q = alike_verdicts q (check_due input.top q) (λ verdict. refl)
  alike_question input purpose.Known q = alike_stop (shown_due q)

  alike_input : (words : List (List ℕ)) (files : List DeskFile) (failed : Option ℕ) (purpose : Purpose) (input : Input) → IsAlike (InputRuns words files failed purpose input)
  alike_input words files failed purpose input =
      alike (one_load words files failed input) (λ texts. alike (one_asked words input texts) (alike_question input purpose))

  alike_run : (words : List (List ℕ)) (files : List DeskFile) (failed : Option ℕ) (command : Command) → IsAlike (CommandRuns words files failed command)
  alike_run words files failed (Check input cert) = alike_input words files failed purpose.Check input
  alike_run words files failed (Known input) = alike_input words files failed purpose.Known input
  alike_run words files failed (Demo stages) =
      alike (one_demo_asked words stages) (λ q. alike_verdicts q (demo_due stages q) (λ verdict. refl))

  pub one_due : (words : List (List ℕ)) (files : List DeskFile) (failed : Option ℕ) (a b : Due) → IsDue words files failed a → IsDue words files failed b → AreOne a b
  one_due words files failed a b x y = alike (one_command words) (alike_run words files failed) a b x y
