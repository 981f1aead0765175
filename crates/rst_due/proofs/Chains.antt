-- Chains from what the parts of the code came to.
use Rattle.std.proofs.Common.{◌≡◌, ◌≢◌, ◌≤◌, ◌∙◌, ◌⊎◌, inl, inr, ℕ, List, [], ◌∷◌, length, map, codes, string_bytes, String, Option, Some, None, Result, Ok, Err, refl, sym, ap, subst, arith}
use Rattle.std.specs.Prelude.{IfSome, IfOk}
use Rattle.std.specs.List.{Contains}
use Rattle.std.specs.declared.alloc.Global.{Global}
use Rattle.rst_outside.specs.declared.desk.DeskFile.{DeskFile}
use Rattle.rst_outside.specs.Causes.{Rose}
use Rattle.rst_reject.specs.declared.reject.Reject.{Reject}
use Rattle.rst_reject.specs.declared.stop.Stop as rejecting
use Rattle.rst_reject.specs.declared.stop.Stop.TheVariants as rejected
use Rattle.rst_reject.specs.Rejects.{IfRejected}
use Rattle.rst_reject.specs.Steps.{Then, refused, goes_on, HasOneAnswer, StopsBy}
use Rattle.rst_tree.specs.Trees.{Text}
use Rattle.rst_command.specs.Commands.{Word, words_from, Input}
use Rattle.rst_loads.specs.declared.loading.Stop as loading
use Rattle.rst_loads.specs.declared.loading.Stop.TheVariants as stopped
use Rattle.rst_loads.specs.Loads.{Texts, texts_of, failed_of, places, IsCause}
use Rattle.rst_demo.specs.Demo.{demo_source, demo_script}
use Rattle.rst_answer.specs.declared.answer.Answer.TheVariants as answer
use Rattle.rst_answer.specs.Answers.{Due, refused_due, unread_of, plain_due}
use Rattle.rst_design.specs.Answers.{DesignGives}
use Rattle.rst_net.specs.Units.{PlainFlat}
use Rattle.rst_question.specs.declared.question.Places.{Places}
use Rattle.rst_question.specs.declared.question.Question as read
use Rattle.rst_question.specs.Questions.{Question, QuestionGives, netlist, Stands, IsRead}
use Rattle.rst_design.specs.Netlists.{plain_net}
use Rattle.rst_outside.specs.declared.names.NoMemory.{NoMemory}
use Rattle.rst_answer.specs.declared.ready.Ready.{Ready}
use Rattle.rst_question.proofs.OneQuestion.{one_question}
use Rattle.rst_verdict.specs.declared.verdict.Verdict.{Verdict}
use Rattle.rst_replies.specs.Replies.{CheckGives, check_due, demo_due, shown_due, HasOrderedGates}
use Rattle.rst_replies.specs.Replies.{DemoGives as DemoReplies}
use Rattle.rst_due.specs.declared.input.Purpose.{Purpose}
use Rattle.rst_due.specs.declared.input.Purpose.TheVariants as purpose
use Rattle.rst_due.specs.Due.{Stops, LoadStops, LoadsGive, first_place, places_of, Asks, no_places, unfiled, DemoGives, DemoAsks, QuestionDecides, DemoDecides, InputRuns, CommandRuns, IsLater, Ends}
use Rattle.rst_due.specs.Asked.{InputAsks}

-- WHERE THE SOURCES STAND

pub first_is : (first : ℕ) (words : List (String Global)) → 1 ≤ length words → first_place (words_from first (map string_bytes words)) ≡ first
first_is first [] some = omega (arith, some)
first_is first (word ∷ words) some = refl

pub place_same : (input : Input) (first : ℕ) (words : List (String Global)) → input.files ≡ words_from first (map string_bytes words) → 1 ≤ length words
    → (let at : Places = record { script = input.script.place; sources = first } in at) ≡ places_of input
place_same input first words files some =
    let first_same : first_place input.files ≡ first = ap first_place files ∙ first_is first words some in
    ap (λ (n : ℕ). let at : Places = record { script = input.script.place; sources = n } in at) (sym first_same)

-- what was read of equal texts
pub read_moved : (at to : Places) (top top_to script script_to : Text) (sources sources_to : List Text) (q : read.Question) → at ≡ to → top ≡ top_to → script ≡ script_to
    → sources ≡ sources_to → IsRead at top script sources q → IsRead to top_to script_to sources_to q
read_moved at to top top_to script script_to sources sources_to q a t s f r =
    subst (λ (z : Places). IsRead z top_to script_to sources_to q) a
    (subst (λ (z : Text). IsRead at z script_to sources_to q) t
    (subst (λ (z : Text). IsRead at top z sources_to q) s (subst (λ (z : List Text). IsRead at top script z q) f r)))

pub stops_moved : (at to : Places) (top top_to script script_to : Text) (sources sources_to : List Text) (stop : rejecting.Stop) → at ≡ to → top ≡ top_to → script ≡ script_to
    → sources ≡ sources_to → StopsBy (QuestionGives at top script sources) stop → StopsBy (QuestionGives to top_to script_to sources_to) stop
stops_moved at to top top_to script script_to sources sources_to stop a t s f r =
    subst (λ (z : Places). StopsBy (QuestionGives z top_to script_to sources_to) stop) a
    (subst (λ (z : Text). StopsBy (QuestionGives at z script_to sources_to) stop) t
    (subst (λ (z : Text). StopsBy (QuestionGives at top z sources_to) stop) s (subst (λ (z : List Text). StopsBy (QuestionGives at top script z) stop) f r)))

-- THE END OF THE CHAIN

later_refused : (words : List (List ℕ)) (r : Reject) (due : Due) → due ≡ refused_due words r → IsLater due
later_refused words r due is = subst IsLater (sym is) (record { unread = refl; some = λ bad. cc })

later_checked : (top : List ℕ) (q : Question) (verdict : Verdict) (due : Due) → due ≡ check_due top q verdict → IsLater due
later_checked top q verdict due is = subst IsLater (sym is) (record { unread = refl; some = λ bad. cc })

later_demo : (stages : ℕ) (q : Question) (verdict : Verdict) (due : Due) → due ≡ demo_due stages q verdict → IsLater due
later_demo stages q verdict due is = subst IsLater (sym is) (record { unread = refl; some = λ bad. cc })

later_shown : (q : Question) (due : Due) → due ≡ shown_due q → IsLater due
later_shown q due is = subst IsLater (sym is) (record { unread = refl; some = λ bad. cc })

-- THE DECISION

pub check_ends : (input : Input) (q : Question) (due : Due) → CheckGives input.top q due → Ends (QuestionDecides input purpose.Check q) due
check_ends input q due (verdict, decides, is) = record { chain = goes_on verdict decides (ap Err is); later = later_checked input.top q verdict due is }

pub known_ends : (input : Input) (q : Question) (due : Due) → due ≡ shown_due q → Ends (QuestionDecides input purpose.Known q) due
known_ends input q due is = record { chain = ap Err is; later = later_shown q due is }

pub demo_ends : (stages : ℕ) (q : Question) (due : Due) → DemoReplies stages q due → Ends (DemoDecides stages q) due
demo_ends stages q due (verdict, decides, is) = record { chain = goes_on verdict decides (ap Err is); later = later_demo stages q verdict due is }

-- THE QUESTION

pub texts_end : (words : List (List ℕ)) (input : Input) (texts : Texts) (purpose : Purpose) (q : Question) (due : Due) → Asks words input texts (Ok q)
    → Ends (QuestionDecides input purpose q) due → Ends (Then (Asks words input texts) (QuestionDecides input purpose)) due
texts_end words input texts purpose q due asks ends = record { chain = goes_on q asks ends.chain; later = ends.later }

pub texts_refused : (words : List (List ℕ)) (input : Input) (texts : Texts) (purpose : Purpose) (r : Reject) (due : Due)
    → QuestionGives (places_of input) input.top texts.script texts.sources (Err r) → due ≡ refused_due words r
    → Ends (Then (Asks words input texts) (QuestionDecides input purpose)) due
texts_refused words input texts purpose r due gives is = record { chain = refused due (r, gives, is) refl; later = later_refused words r due is }

pub demo_end : (words : List (List ℕ)) (stages : ℕ) (q : Question) (due : Due) → DemoGives stages (Ok q)
    → Ends (DemoDecides stages q) due → Ends (Then (DemoAsks words stages) (DemoDecides stages)) due
demo_end words stages q due asks ends = record { chain = goes_on q asks ends.chain; later = ends.later }

pub demo_refused : (words : List (List ℕ)) (stages : ℕ) (r : Reject) (due : Due) → DemoGives stages (Err r) → due ≡ refused_due words (unfiled r)
    → Ends (Then (DemoAsks words stages) (DemoDecides stages)) due
demo_refused words stages r due gives is = record { chain = refused due (r, gives, is) refl; later = later_refused words (unfiled r) due is }

-- THE GATES OF THE QUESTION

module _ (one : (texts : List Text) (top : Text) (clock : Option Text) → HasOneAnswer (DesignGives texts top clock)) where
  -- the one question that is asked has gates in order
  pub gates_asked : (at : Places) (top script : Text) (sources : List Text) (q r : Question) (net : PlainFlat) → QuestionGives at top script sources (Ok q)
      → net ≡ netlist q → HasOrderedGates net → QuestionGives at top script sources (Ok r) → HasOrderedGates (netlist r)
  gates_asked at top script sources q r net gives is ordered again =
      let same : q ≡ r = let oks = one_question one at top script sources (Ok q) (Ok r) gives again in cc in
      subst HasOrderedGates (is ∙ ap netlist same) ordered

  -- and there is none where the texts were refused
  pub none_asked : (at : Places) (top script : Text) (sources : List Text) (s : Reject) (r : Question) → QuestionGives at top script sources (Err s)
      → QuestionGives at top script sources (Ok r) → HasOrderedGates (netlist r)
  none_asked at top script sources s r gives again = let no = one_question one at top script sources (Err s) (Ok r) gives again in cc

-- THE LOADS

module _ (words : List (List ℕ)) (files : List DeskFile) (purpose : Purpose) (input : Input) (due : Due) where
  pub loaded_runs : (texts : Texts) → texts_of files None input ≡ Ok texts → Ends (Then (Asks words input texts) (QuestionDecides input purpose)) due
      → InputRuns words files (unread_of due.answer) purpose input (Err due)
  loaded_runs texts gives ends =
      let P : Option ℕ → Type 0 = λ failed. texts_of files failed input ≡ Ok texts in
      goes_on texts (subst P (sym ends.later.unread) gives) ends.chain

  -- where loads are sure, as where none has failed
  pub loaded_sure : (texts : Texts) → texts_of files None input ≡ Ok texts → Ends (Then (Asks words input texts) (QuestionDecides input purpose)) due
      → InputRuns words files None purpose input (Err due)
  loaded_sure texts gives ends = goes_on texts gives ends.chain

  pub loaded_gates : (texts : Texts) (q : Question) → texts_of files None input ≡ Ok texts → IsLater due
      → ((r : Question) → Asks words input texts (Ok r) → HasOrderedGates (netlist r)) → InputAsks words files (unread_of due.answer) input q → HasOrderedGates (netlist q)
  loaded_gates texts q gives later each (others, again, asks) =
      let P : Option ℕ → Type 0 = λ failed. texts_of files failed input ≡ Ok others in
      let oks = sym gives ∙ subst P later.unread again in
      let same : others ≡ texts = cc in
      each q (subst (λ (t : Texts). Asks words input t (Ok q)) same asks)

  unread_is : (stop : loading.Stop) → LoadStops words stop due → unread_of due.answer ≡ failed_of stop
  unread_is (stopped.Unread place) is = ap (λ (d : Due). unread_of d.answer) is
  unread_is (stopped.TooLong place) is = ap (λ (d : Due). unread_of d.answer) is
  unread_is stopped.NoMemory is = absurd is

  pub not_usage : (stop : loading.Stop) → LoadStops words stop due → due.answer ≢ answer.NoCommand
  not_usage (stopped.Unread place) is bad = let e = sym (ap (λ (d : Due). d.answer) is) ∙ bad in cc
  not_usage (stopped.TooLong place) is bad = let e = sym (ap (λ (d : Due). d.answer) is) ∙ bad in cc
  not_usage stopped.NoMemory is bad = absurd is

  memory_not : (stop : loading.Stop) → LoadStops words stop due → stop ≢ stopped.NoMemory
  memory_not (stopped.Unread place) is bad = cc
  memory_not (stopped.TooLong place) is bad = cc
  memory_not stopped.NoMemory is bad = absurd is

  pub stopped_runs : (stop : loading.Stop) → LoadStops words stop due → (stop ≢ stopped.NoMemory → texts_of files (failed_of stop) input ≡ Err stop)
      → InputRuns words files (unread_of due.answer) purpose input (Err due)
  stopped_runs stop stops gives =
      let P : Option ℕ → Type 0 = λ failed. texts_of files failed input ≡ Err stop in
      refused due (stop, subst P (sym (unread_is stop stops)) (gives (memory_not stop stops)), stops) refl

  pub stopped_sure : (stop : loading.Stop) → LoadStops words stop due → (stop ≢ stopped.NoMemory → texts_of files None input ≡ Err stop)
      → InputRuns words files None purpose input (Err due)
  stopped_sure stop stops gives = refused due (stop, gives (memory_not stop stops), stops) refl

  pub stopped_gates : (stop : loading.Stop) (q : Question) → LoadStops words stop due → (stop ≢ stopped.NoMemory → texts_of files (failed_of stop) input ≡ Err stop)
      → InputAsks words files (unread_of due.answer) input q → HasOrderedGates (netlist q)
  stopped_gates stop q stops gives (texts, again, asks) =
      let P : Option ℕ → Type 0 = λ failed. texts_of files failed input ≡ Err stop in
      let no = sym (subst P (sym (unread_is stop stops)) (gives (memory_not stop stops))) ∙ again in
      cc

  both : (stop : loading.Stop) (before now : ℕ) → IfSome (failed_of stop) (Contains (places input)) → IsCause before now stop
      → IfSome (failed_of stop) (λ place. Contains (places input) place × Rose before now)
  both (stopped.Unread place) before now inside cause = (inside, cause)
  both (stopped.TooLong place) before now inside cause = tt
  both stopped.NoMemory before now inside cause = tt

  pub stopped_failed : (stop : loading.Stop) (before now : ℕ) → LoadStops words stop due → IfSome (failed_of stop) (Contains (places input)) → IsCause before now stop
      → IfSome (unread_of due.answer) (λ place. Contains (places input) place × Rose before now)
  stopped_failed stop before now stops inside cause =
      let P : Option ℕ → Type 0 = λ o. IfSome o (λ place. Contains (places input) place × Rose before now) in
      subst P (sym (unread_is stop stops)) (both stop before now inside cause)

  pub later_failed : (before now : ℕ) → IsLater due → IfSome (unread_of due.answer) (λ place. Contains (places input) place × Rose before now)
  later_failed before now later =
      let P : Option ℕ → Type 0 = λ o. IfSome o (λ place. Contains (places input) place × Rose before now) in
      subst P (sym later.unread) tt

-- WHAT THE CODE HAS READY

abbrev pub EndsReady : Result Ready NoMemory → (Result (Unit {0}) Due → Type 0) → Type 0
EndsReady result Chain = IfOk result (λ ready. Ends Chain (plain_due ready))

pub question_check : (input : Input) (q : read.Question) (what : Purpose) (result : Result Ready NoMemory) → what ≡ purpose.Check
    → IfOk result (λ ready. (r : Question) → Stands r q → CheckGives input.top r (plain_due ready))
    → IfOk result (λ ready. (r : Question) → Stands r q → Ends (QuestionDecides input what r) (plain_due ready))
question_check input q what (Ok ready) is h = λ r stands.
    subst (λ (p : Purpose). Ends (QuestionDecides input p r) (plain_due ready)) (sym is) (check_ends input r (plain_due ready) (h r stands))
question_check input q what (Err e) is h = tt

pub question_known : (input : Input) (q : read.Question) (what : Purpose) (result : Result Ready NoMemory) → what ≡ purpose.Known
    → IfOk result (λ ready. (r : Question) → Stands r q → plain_due ready ≡ shown_due r)
    → IfOk result (λ ready. (r : Question) → Stands r q → Ends (QuestionDecides input what r) (plain_due ready))
question_known input q what (Ok ready) is h = λ r stands.
    subst (λ (p : Purpose). Ends (QuestionDecides input p r) (plain_due ready)) (sym is) (known_ends input r (plain_due ready) (h r stands))
question_known input q what (Err e) is h = tt

module _ (words : List (List ℕ)) (input : Input) (texts : Texts) (purpose : Purpose) (at : Places) (same : at ≡ places_of input) where
  abbrev Chain : Result (Unit {0}) Due → Type 0
  Chain = Then (Asks words input texts) (QuestionDecides input purpose)

  abbrev Gives : Places → Result Question Reject → Type 0
  Gives places = QuestionGives places input.top texts.script texts.sources

  pub texts_ok : (q : read.Question) (result : Result Ready NoMemory) → IsRead at input.top texts.script texts.sources q
      → IfOk result (λ ready. (r : Question) → Stands r q → Ends (QuestionDecides input purpose r) (plain_due ready)) → EndsReady result Chain
  texts_ok q (Ok ready) r h =
      texts_end words input texts purpose r.question (plain_due ready) (subst (λ (z : Places). Gives z (Ok r.question)) same r.asked) (h r.question r.stands)
  texts_ok q (Err e) r h = tt

  pub texts_err : (stop : rejecting.Stop) (result : Result Ready NoMemory) → StopsBy (Gives at) stop
      → IfOk result (λ ready. (r : Reject) × (stop ≡ rejected.Rejected r) × (plain_due ready ≡ refused_due words r)) → EndsReady result Chain
  texts_err stop (Ok ready) stops (r, is, due) =
      texts_refused words input texts purpose r (plain_due ready)
      (subst (λ (z : Places). Gives z (Err r)) same (subst (λ (z : rejecting.Stop). StopsBy (Gives at) z) is stops)) due
  texts_err stop (Err e) stops h = tt

  module _ (one : (texts : List Text) (top : Text) (clock : Option Text) → HasOneAnswer (DesignGives texts top clock)) where
    pub texts_gates_ok : (q : read.Question) (result : Result Ready NoMemory) → IsRead at input.top texts.script texts.sources q
        → IfOk result (λ ready. HasOrderedGates (plain_net q.net)) → IfOk result (λ ready. (r : Question) → Asks words input texts (Ok r) → HasOrderedGates (netlist r))
    texts_gates_ok q (Ok ready) r h = λ z asks.
        gates_asked one (places_of input) input.top texts.script texts.sources r.question z (plain_net q.net) (subst (λ (z : Places). Gives z (Ok r.question)) same r.asked) r.stands.net h asks
    texts_gates_ok q (Err e) r h = tt

    pub texts_gates_err : (stop : rejecting.Stop) (result : Result Ready NoMemory) → StopsBy (Gives at) stop
        → IfOk result (λ ready. (r : Reject) × (stop ≡ rejected.Rejected r) × (plain_due ready ≡ refused_due words r))
        → IfOk result (λ ready. (r : Question) → Asks words input texts (Ok r) → HasOrderedGates (netlist r))
    texts_gates_err stop (Ok ready) stops (s, is, due) = λ z asks.
        none_asked one (places_of input) input.top texts.script texts.sources s z
        (subst (λ (z : Places). Gives z (Err s)) same (subst (λ (z : rejecting.Stop). StopsBy (Gives at) z) is stops)) asks
    texts_gates_err stop (Err e) stops h = tt

module _ (words : List (List ℕ)) (stages : ℕ) where
  abbrev DemoChain : Result (Unit {0}) Due → Type 0
  DemoChain = Then (DemoAsks words stages) (DemoDecides stages)

  abbrev Reads : List Text → read.Question → Type 0
  Reads sources q = IsRead no_places (codes "demo") demo_script sources q

  pub demo_ok : (sources : List Text) (q : read.Question) (result : Result Ready NoMemory) → sources ≡ demo_source stages ∷ [] → Reads sources q
      → IfOk result (λ ready. (r : Question) → Stands r q → DemoReplies stages r (plain_due ready)) → EndsReady result DemoChain
  demo_ok sources q (Ok ready) is r h =
      demo_end words stages r.question (plain_due ready) (subst (λ (z : List Text). QuestionGives no_places (codes "demo") demo_script z (Ok r.question)) is r.asked)
      (demo_ends stages r.question (plain_due ready) (h r.question r.stands))
  demo_ok sources q (Err e) is r h = tt

  pub demo_err : (sources : List Text) (stop : rejecting.Stop) (result : Result Ready NoMemory) → sources ≡ demo_source stages ∷ []
      → StopsBy (QuestionGives no_places (codes "demo") demo_script sources) stop
      → IfOk result (λ ready. (r : Reject) × (stop ≡ rejected.Rejected r) × (plain_due ready ≡ refused_due words (unfiled r))) → EndsReady result DemoChain
  demo_err sources stop (Ok ready) same stops (r, is, due) =
      demo_refused words stages r (plain_due ready)
      (subst (λ (z : List Text). QuestionGives no_places (codes "demo") demo_script z (Err r)) same
      (subst (λ (z : rejecting.Stop). StopsBy (QuestionGives no_places (codes "demo") demo_script sources) z) is stops)) due
  demo_err sources stop (Err e) same stops h = tt

  module _ (one : (texts : List Text) (top : Text) (clock : Option Text) → HasOneAnswer (DesignGives texts top clock)) where
    pub demo_gates_ok : (sources : List Text) (q : read.Question) (result : Result Ready NoMemory) → sources ≡ demo_source stages ∷ [] → Reads sources q
        → IfOk result (λ ready. HasOrderedGates (plain_net q.net)) → IfOk result (λ ready. (r : Question) → DemoAsks words stages (Ok r) → HasOrderedGates (netlist r))
    demo_gates_ok sources q (Ok ready) is r h = λ z asks.
        gates_asked one no_places (codes "demo") demo_script (demo_source stages ∷ []) r.question z (plain_net q.net)
        (subst (λ (z : List Text). QuestionGives no_places (codes "demo") demo_script z (Ok r.question)) is r.asked) r.stands.net h asks
    demo_gates_ok sources q (Err e) is r h = tt

    pub demo_gates_err : (sources : List Text) (stop : rejecting.Stop) (result : Result Ready NoMemory) → sources ≡ demo_source stages ∷ []
        → StopsBy (QuestionGives no_places (codes "demo") demo_script sources) stop
        → IfOk result (λ ready. (r : Reject) × (stop ≡ rejected.Rejected r) × (plain_due ready ≡ refused_due words (unfiled r)))
        → IfOk result (λ ready. (r : Question) → DemoAsks words stages (Ok r) → HasOrderedGates (netlist r))
    demo_gates_err sources stop (Ok ready) same stops (s, is, due) = λ z asks.
        none_asked one no_places (codes "demo") demo_script (demo_source stages ∷ []) s z
        (subst (λ (z : List Text). QuestionGives no_places (codes "demo") demo_script z (Err s)) same
        (subst (λ (z : rejecting.Stop). StopsBy (QuestionGives no_places (codes "demo") demo_script sources) z) is stops)) asks
    demo_gates_err sources stop (Err e) same stops h = tt

-- BEHIND THE LOADS

module _ (words : List (List ℕ)) (told : Option (List DeskFile)) (purpose : Purpose) (input : Input) where
  abbrev Runs : Due → Type 0
  Runs due = IfSome told (λ files. InputRuns words files (unread_of due.answer) purpose input (Err due))

  abbrev Sure : Due → Type 0
  Sure due = IfSome told (λ files. InputRuns words files None purpose input (Err due))

  abbrev Gates : Due → Type 0
  Gates due = IfSome told (λ files. (q : Question) → InputAsks words files (unread_of due.answer) input q → HasOrderedGates (netlist q))

  runs_told : (told : Option (List DeskFile)) (P Q : List DeskFile → Type 0) → IfSome told P → ((files : List DeskFile) → P files → Q files) → IfSome told Q
  runs_told None P Q h f = tt
  runs_told (Some files) P Q h f = f files h

  pub input_ok : (texts : Texts) (result : Result Ready NoMemory) → IfSome told (λ files. texts_of files None input ≡ Ok texts)
      → EndsReady result (Then (Asks words input texts) (QuestionDecides input purpose)) → IfOk result (λ ready. Runs (plain_due ready))
  input_ok texts (Ok ready) gives ends = runs_told told _ _ gives (λ files is. loaded_runs words files purpose input (plain_due ready) texts is ends)
  input_ok texts (Err e) gives ends = tt

  pub input_sure_ok : (texts : Texts) (result : Result Ready NoMemory) → IfSome told (λ files. texts_of files None input ≡ Ok texts)
      → EndsReady result (Then (Asks words input texts) (QuestionDecides input purpose)) → (S : Type 0) → IfOk result (λ ready. S → Sure (plain_due ready))
  input_sure_ok texts (Ok ready) gives ends S = λ sure. runs_told told _ _ gives (λ files is. loaded_sure words files purpose input (plain_due ready) texts is ends)
  input_sure_ok texts (Err e) gives ends S = tt

  pub input_sure_err : (stop : loading.Stop) (S : Type 0) → (S → stop ≢ stopped.NoMemory → IfSome told (λ files. texts_of files None input ≡ Err stop))
      → (result : Result Ready NoMemory) → IfOk result (λ ready. LoadStops words stop (plain_due ready)) → IfOk result (λ ready. S → Sure (plain_due ready))
  input_sure_err stop S gives (Ok ready) stops = λ sure.
      runs_told told _ _ (gives sure (memory_not words [] purpose input (plain_due ready) stop stops)) (λ files is. stopped_sure words files purpose input (plain_due ready) stop stops (λ memory. is))
  input_sure_err stop S gives (Err e) stops = tt

  pub input_gates_ok : (texts : Texts) (result : Result Ready NoMemory) → IfSome told (λ files. texts_of files None input ≡ Ok texts)
      → EndsReady result (Then (Asks words input texts) (QuestionDecides input purpose))
      → IfOk result (λ ready. (r : Question) → Asks words input texts (Ok r) → HasOrderedGates (netlist r)) → IfOk result (λ ready. Gates (plain_due ready))
  input_gates_ok texts (Ok ready) gives ends each =
      runs_told told _ _ gives (λ files is. λ q asks. loaded_gates words files purpose input (plain_due ready) texts q is ends.later each asks)
  input_gates_ok texts (Err e) gives ends each = tt

  pub input_failed_ok : (texts : Texts) (before now : ℕ) (result : Result Ready NoMemory)
      → EndsReady result (Then (Asks words input texts) (QuestionDecides input purpose))
      → IfOk result (λ ready. IfSome (unread_of (plain_due ready).answer) (λ place. Contains (places input) place × Rose before now))
  input_failed_ok texts before now (Ok ready) ends = later_failed words [] purpose input (plain_due ready) before now ends.later
  input_failed_ok texts before now (Err e) ends = tt

  pub input_some_ok : (texts : Texts) (result : Result Ready NoMemory)
      → EndsReady result (Then (Asks words input texts) (QuestionDecides input purpose)) → IfOk result (λ ready. (plain_due ready).answer ≢ answer.NoCommand)
  input_some_ok texts (Ok ready) ends = ends.later.some
  input_some_ok texts (Err e) ends = tt

  module _ (stop : loading.Stop) (gives : stop ≢ stopped.NoMemory → IfSome told (λ files. texts_of files (failed_of stop) input ≡ Err stop)) where
    given : (due : Due) → LoadStops words stop due → IfSome told (λ files. texts_of files (failed_of stop) input ≡ Err stop)
    given due stops = gives (memory_not words [] purpose input due stop stops)

    pub input_err : (result : Result Ready NoMemory) → IfOk result (λ ready. LoadStops words stop (plain_due ready)) → IfOk result (λ ready. Runs (plain_due ready))
    input_err (Ok ready) stops = runs_told told _ _ (given (plain_due ready) stops) (λ files is. stopped_runs words files purpose input (plain_due ready) stop stops (λ memory. is))
    input_err (Err e) stops = tt

    pub input_gates_err : (result : Result Ready NoMemory) → IfOk result (λ ready. LoadStops words stop (plain_due ready)) → IfOk result (λ ready. Gates (plain_due ready))
    input_gates_err (Ok ready) stops =
        runs_told told _ _ (given (plain_due ready) stops) (λ files is. λ q asks. stopped_gates words files purpose input (plain_due ready) stop q stops (λ memory. is) asks)
    input_gates_err (Err e) stops = tt

  pub input_failed_err : (stop : loading.Stop) (before now : ℕ) (result : Result Ready NoMemory) → IfSome (failed_of stop) (Contains (places input)) → IsCause before now stop
      → IfOk result (λ ready. LoadStops words stop (plain_due ready))
      → IfOk result (λ ready. IfSome (unread_of (plain_due ready).answer) (λ place. Contains (places input) place × Rose before now))
  input_failed_err stop before now (Ok ready) inside cause stops = stopped_failed words [] purpose input (plain_due ready) stop before now stops inside cause
  input_failed_err stop before now (Err e) inside cause stops = tt

  pub input_some_err : (stop : loading.Stop) (result : Result Ready NoMemory) → IfOk result (λ ready. LoadStops words stop (plain_due ready))
      → IfOk result (λ ready. (plain_due ready).answer ≢ answer.NoCommand)
  input_some_err stop (Ok ready) stops = not_usage words [] purpose input (plain_due ready) stop stops
  input_some_err stop (Err e) stops = tt
