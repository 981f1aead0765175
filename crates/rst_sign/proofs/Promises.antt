-- The promises of a run, each from what `act` says of it and from the laws on due answers and on verdicts.
use Rattle.std.proofs.Common.{◌≡◌, ◌≢◌, ◌⊎◌, ◌↔◌, inl, inr, ℕ, Bool, List, [], ◌∷◌, codes, true, false, Option, Some, None, Ok, Err, refl, sym, ap, subst, ◌∙◌}
use Rattle.std.specs.Prelude.{IfSome, IfNone, IsNone, IsSome, IsTrue}
use Rattle.std.specs.Io.KnownBytes.{Appends}
use Rattle.rst_outside.specs.declared.desk.DeskFile.{DeskFile}
use Rattle.rst_outside.specs.Causes.{Rose}
use Rattle.rst_outside.specs.Files.{ChangesOnly}
use Rattle.rst_value.specs.declared.tern.Tern.{Tern}
use Rattle.rst_verdict.specs.declared.verdict.Verdict.{Verdict}
use Rattle.rst_verdict.specs.declared.verdict.Verdict.TheVariants.{SignedKnown, SignedRelation, Refuted, Never, Alignable, Unknown}
use Rattle.rst_tree.specs.Trees.{Text}
use Rattle.rst_reject.specs.declared.reject.Reject.{Reject}
use Rattle.rst_command.specs.Commands.{Command, Check, Known, Demo, command_of}
use Rattle.rst_loads.specs.declared.loading.Stop.TheVariants as stopped
use Rattle.rst_loads.specs.Loads.{texts_of}
use Rattle.rst_demo.specs.Demo.{demo_source, demo_script}
use Rattle.rst_answer.specs.declared.answer.Status.{Status}
use Rattle.rst_answer.specs.declared.answer.Status.TheVariants.{Signed, Usage, ReadFault, WriteFault, Rejected, NoMemory}
use Rattle.rst_answer.specs.declared.answer.Status.TheVariants as status
use Rattle.rst_answer.specs.declared.answer.Answer.{Answer}
use Rattle.rst_answer.specs.declared.answer.Answer.TheVariants as answer
use Rattle.rst_answer.specs.declared.answer.Outcome.{Outcome}
use Rattle.rst_answer.specs.Answers.{Due, status_of, outcome_of, fault_of, no_memory, usage_line, refused_due, Carries}
use Rattle.rst_question.specs.declared.question.Places.{Places}
use Rattle.rst_question.specs.Questions.{Question, QuestionGives, netlist}
use Rattle.rst_replies.specs.Replies.{Knows, IsVerdictOf, HasOrderedGates, shown_due}
use Rattle.rst_due.specs.Due.{IsDue, AreOne, CommandDecides, places_of, no_places}
use Rattle.rst_due.specs.Asked.{CommandAsks, IsDecided, IsShown}
use Rattle.rst_sign.specs.Run.{Outside, Writes, Answers, IsRun, IsLoaded, HasGates, cert_name}
use Rattle.rst_sign.specs.Promises.{Resets, Refutes, signed_pattern, IsSigned, IsRefutedBy, IsUnknown, IsUnread, IsRefused, is_check}
use Rattle.rst_sign.proofs.Statuses.{verdict_status}
use Rattle.rst_sign.proofs.Acting.{unchanged}
use Rattle.rst_sign.proofs.Endings.{Ending, no_command, unread, rejected, checked, demonstrated, shown, ending, decided_verdict, known_verdict}

-- at most one answer is due, but for the evidence of a verdict
abbrev pub OneDue : Type 0
OneDue = (words : List (List ℕ)) (files : List DeskFile) (failed : Option ℕ) (a b : Due) → IsDue words files failed a → IsDue words files failed b → AreOne a b

-- a question that is asked is answered
abbrev pub AskedDue : Type 0
AskedDue = (words : List (List ℕ)) (files : List DeskFile) (failed : Option ℕ) (command : Command) (q : Question) (due : Due) → command_of words ≡ Some command
    → CommandAsks words files failed command q → IsDue words files failed due → CommandDecides command q (Err due)

-- a pattern that a verdict signs is a reset sequence
abbrev pub SignedResets : Type 0
SignedResets = (places : Places) (top script : Text) (sources : List Text) (q : Question) (verdict : Verdict) → QuestionGives places top script sources (Ok q)
    → HasOrderedGates (netlist q) → IsVerdictOf q verdict → IsSome (signed_pattern verdict) → (signed_pattern verdict ≡ Some q.pattern) × Resets q.flat q.pattern

-- a verdict that refutes tells its states apart
abbrev pub RefutedApart : Type 0
RefutedApart = (places : Places) (top script : Text) (sources : List Text) (q : Question) (seq word : List (List Bool)) (a b : List Bool) → QuestionGives places top script sources (Ok q)
    → HasOrderedGates (netlist q) → IsVerdictOf q (Refuted seq a b word) → Refutes q.flat q.pattern seq a b word

-- WHAT IS TOLD

-- a fact of what is told
pub if_told : {A : Type 0} (told : Option A) (P : A → Type 0) → ((x : A) → told ≡ Some x → P x) → IfSome told P
if_told None P each = tt
if_told (Some x) P each = each x refl

at_told : {A : Type 0} (told : Option A) (P : A → Type 0) (x : A) → told ≡ Some x → IfSome told P → P x
at_told {A} told P x is holds = let Q : Option A → Type 0 = λ o. IfSome o P in subst Q is holds

none_has : (o : Option ℕ) (P : ℕ → Type 0) → IfSome o P → ((x : ℕ) → P x → ⊥) → o ≡ None
none_has None P holds never = refl
none_has (Some x) P holds never = absurd (never x holds)

not_both : {A : Type 0} (o : Option A) → IsNone o → IsSome o → ⊥
not_both None none some = let e : false ≡ true = some in cc
not_both (Some x) none some = let e : true ≡ false = none in cc

is_none : {A : Type 0} (o : Option A) → IsNone o → o ≡ None
is_none None none = refl
is_none (Some x) none = let e : true ≡ false = none in cc

-- WHAT AN OUTCOME CARRIES

verdict_kept : (a : Answer) (outcome : Outcome) → Carries a outcome → outcome.verdict ≡ (outcome_of a).verdict
verdict_kept a outcome (inl is) = ap (λ (o : Outcome). o.verdict) is
verdict_kept a outcome (inr is) = ap (λ (o : Outcome). o.verdict) is

reject_kept : (a : Answer) (outcome : Outcome) → Carries a outcome → outcome.reject ≡ (outcome_of a).reject
reject_kept a outcome (inl is) = ap (λ (o : Outcome). o.reject) is
reject_kept a outcome (inr is) = ap (λ (o : Outcome). o.reject) is

unread_kept : (a : Answer) (outcome : Outcome) → Carries a outcome → outcome.unread ≡ (outcome_of a).unread
unread_kept a outcome (inl is) = ap (λ (o : Outcome). o.unread) is
unread_kept a outcome (inr is) = ap (λ (o : Outcome). o.unread) is

-- the status is the answer's where no write failed
status_kept : (a : Answer) (outcome : Outcome) → Carries a outcome → outcome.status ≢ WriteFault → (outcome_of a).status ≡ outcome.status
status_kept a outcome (inl is) not = sym (ap (λ (o : Outcome). o.status) is)
status_kept a outcome (inr is) not = absurd (not (ap (λ (o : Outcome). o.status) is))

-- the answer of a status
decided_of : (a : Answer) (s : Status) → (outcome_of a).status ≡ s → (s ≡ Signed) ⊎ ((s ≡ status.Refuted) ⊎ (s ≡ status.Unknown)) → (v : Verdict) × (a ≡ answer.Decided v)
decided_of answer.NoCommand s is (inl e) = let x : Usage ≡ Signed = is ∙ e in cc
decided_of answer.NoCommand s is (inr (inl e)) = let x : Usage ≡ status.Refuted = is ∙ e in cc
decided_of answer.NoCommand s is (inr (inr e)) = let x : Usage ≡ status.Unknown = is ∙ e in cc
decided_of (answer.Unread place) s is (inl e) = let x : ReadFault ≡ Signed = is ∙ e in cc
decided_of (answer.Unread place) s is (inr (inl e)) = let x : ReadFault ≡ status.Refuted = is ∙ e in cc
decided_of (answer.Unread place) s is (inr (inr e)) = let x : ReadFault ≡ status.Unknown = is ∙ e in cc
decided_of (answer.Refused reject) s is (inl e) = let x : Rejected ≡ Signed = is ∙ e in cc
decided_of (answer.Refused reject) s is (inr (inl e)) = let x : Rejected ≡ status.Refuted = is ∙ e in cc
decided_of (answer.Refused reject) s is (inr (inr e)) = let x : Rejected ≡ status.Unknown = is ∙ e in cc
decided_of answer.Shown s is (inl e) = let x : status.Shown ≡ Signed = is ∙ e in cc
decided_of answer.Shown s is (inr (inl e)) = let x : status.Shown ≡ status.Refuted = is ∙ e in cc
decided_of answer.Shown s is (inr (inr e)) = let x : status.Shown ≡ status.Unknown = is ∙ e in cc
decided_of (answer.Decided v) s is some = (v, refl)

-- the verdict of a status
signed_of : (v : Verdict) → status_of v ≡ Signed → IsSome (signed_pattern v)
signed_of (SignedKnown seq) is = refl
signed_of (SignedRelation seq equal blocked split land) is = refl
signed_of (Refuted seq a b word) is = let x : status.Refuted ≡ Signed = is in cc
signed_of (Never a b blocked freed escape) is = let x : status.NonResettable ≡ Signed = is in cc
signed_of (Alignable seq a b word blocked freed split stuck) is = let x : status.Alignable ≡ Signed = is in cc
signed_of (Unknown equal journal) is = let x : status.Unknown ≡ Signed = is in cc

pub record IsRefutation (v : Verdict) : Type 0 where
  pub seq : List (List Bool)
  pub a : List Bool
  pub b : List Bool
  pub word : List (List Bool)
  pub is : v ≡ Refuted seq a b word

refuted_of : (v : Verdict) → status_of v ≡ status.Refuted → IsRefutation v
refuted_of (SignedKnown seq) is = let x : Signed ≡ status.Refuted = is in cc
refuted_of (SignedRelation seq equal blocked split land) is = let x : Signed ≡ status.Refuted = is in cc
refuted_of (Refuted seq a b word) is = record { seq = seq; a = a; b = b; word = word; is = refl }
refuted_of (Never a b blocked freed escape) is = let x : status.NonResettable ≡ status.Refuted = is in cc
refuted_of (Alignable seq a b word blocked freed split stuck) is = let x : status.Alignable ≡ status.Refuted = is in cc
refuted_of (Unknown equal journal) is = let x : status.Unknown ≡ status.Refuted = is in cc

unknown_of : (q : Question) (outcome : Outcome) (v : Verdict) → status_of v ≡ status.Unknown → outcome.verdict ≡ Some v → IsVerdictOf q v → IsUnknown outcome q
unknown_of q outcome (SignedKnown seq) is has decides = let x : Signed ≡ status.Unknown = is in cc
unknown_of q outcome (SignedRelation seq equal blocked split land) is has decides = let x : Signed ≡ status.Unknown = is in cc
unknown_of q outcome (Refuted seq a b word) is has decides = let x : status.Refuted ≡ status.Unknown = is in cc
unknown_of q outcome (Never a b blocked freed escape) is has decides = absurd decides
unknown_of q outcome (Alignable seq a b word blocked freed split stuck) is has decides = absurd decides
unknown_of q outcome (Unknown equal journal) is has (never, work) = record { equal = equal; journal = journal; has = has; unknown = never; work = work }

shown_of : (a : Answer) → (outcome_of a).status ≡ status.Shown → a ≡ answer.Shown
shown_of answer.NoCommand is = let x : Usage ≡ status.Shown = is in cc
shown_of (answer.Unread place) is = let x : ReadFault ≡ status.Shown = is in cc
shown_of (answer.Refused reject) is = let x : Rejected ≡ status.Shown = is in cc
shown_of answer.Shown is = refl
shown_of (answer.Decided v) is = absurd ((verdict_status v).shown is)

usage_of : (a : Answer) → (outcome_of a).status ≡ Usage → a ≡ answer.NoCommand
usage_of answer.NoCommand is = refl
usage_of (answer.Unread place) is = let x : ReadFault ≡ Usage = is in cc
usage_of (answer.Refused reject) is = let x : Rejected ≡ Usage = is in cc
usage_of answer.Shown is = let x : status.Shown ≡ Usage = is in cc
usage_of (answer.Decided v) is = absurd ((verdict_status v).usage is)

verdict_whole : (a : Answer) → IfSome (outcome_of a).verdict (λ v. ((outcome_of a).status ≡ status_of v) ⊎ ((outcome_of a).status ≡ WriteFault))
verdict_whole answer.NoCommand = tt
verdict_whole (answer.Unread place) = tt
verdict_whole (answer.Refused reject) = tt
verdict_whole answer.Shown = tt
verdict_whole (answer.Decided v) = inl refl

verdict_faulted : (a : Answer) → IfSome (fault_of a).verdict (λ v. ((fault_of a).status ≡ status_of v) ⊎ ((fault_of a).status ≡ WriteFault))
verdict_faulted answer.NoCommand = tt
verdict_faulted (answer.Unread place) = tt
verdict_faulted (answer.Refused reject) = tt
verdict_faulted answer.Shown = tt
verdict_faulted (answer.Decided v) = inr refl

reject_whole : (a : Answer) → IsSome (outcome_of a).reject → ((outcome_of a).status ≡ Rejected) ⊎ ((outcome_of a).status ≡ WriteFault)
reject_whole answer.NoCommand some = let e : false ≡ true = some in cc
reject_whole (answer.Unread place) some = let e : false ≡ true = some in cc
reject_whole (answer.Refused reject) some = inl refl
reject_whole answer.Shown some = let e : false ≡ true = some in cc
reject_whole (answer.Decided v) some = let e : false ≡ true = some in cc

unread_whole : (a : Answer) → IsSome (outcome_of a).unread → ((outcome_of a).status ≡ ReadFault) ⊎ ((outcome_of a).status ≡ WriteFault)
unread_whole answer.NoCommand some = let e : false ≡ true = some in cc
unread_whole (answer.Unread place) some = inl refl
unread_whole (answer.Refused reject) some = let e : false ≡ true = some in cc
unread_whole answer.Shown some = let e : false ≡ true = some in cc
unread_whole (answer.Decided v) some = let e : false ≡ true = some in cc

rejected_whole : (a : Answer) → (outcome_of a).status ≡ Rejected → IsSome (outcome_of a).reject
rejected_whole answer.NoCommand is = let x : Usage ≡ Rejected = is in cc
rejected_whole (answer.Unread place) is = let x : ReadFault ≡ Rejected = is in cc
rejected_whole (answer.Refused reject) is = refl
rejected_whole answer.Shown is = let x : status.Shown ≡ Rejected = is in cc
rejected_whole (answer.Decided v) is = absurd ((verdict_status v).rejected is)

read_fault_whole : (a : Answer) → (outcome_of a).status ≡ ReadFault → IsSome (outcome_of a).unread
read_fault_whole answer.NoCommand is = let x : Usage ≡ ReadFault = is in cc
read_fault_whole (answer.Unread place) is = refl
read_fault_whole (answer.Refused reject) is = let x : Rejected ≡ ReadFault = is in cc
read_fault_whole answer.Shown is = let x : status.Shown ≡ ReadFault = is in cc
read_fault_whole (answer.Decided v) is = absurd ((verdict_status v).read_fault is)

no_memory_whole : (a : Answer) → (outcome_of a).status ≡ NoMemory → outcome_of a ≡ no_memory
no_memory_whole answer.NoCommand is = let x : Usage ≡ NoMemory = is in cc
no_memory_whole (answer.Unread place) is = let x : ReadFault ≡ NoMemory = is in cc
no_memory_whole (answer.Refused reject) is = let x : Rejected ≡ NoMemory = is in cc
no_memory_whole answer.Shown is = let x : status.Shown ≡ NoMemory = is in cc
no_memory_whole (answer.Decided v) is = absurd ((verdict_status v).no_memory is)

-- WHAT A DUE ANSWER SAYS OF THE INPUT

-- what the outcome of a due answer keeps
abbrev verdict_in : Due → Option Verdict
verdict_in due = (outcome_of due.answer).verdict

abbrev refused_in : Due → Option Reject
refused_in due = (outcome_of due.answer).reject

abbrev unread_in : Due → Option ℕ
unread_in due = (outcome_of due.answer).unread

-- the question that a command asks is one that texts ask
pub record IsAsked (q : Question) : Type 0 where
  pub places : Places
  pub top : Text
  pub script : Text
  pub sources : List Text
  pub gives : QuestionGives places top script sources (Ok q)

asked : (words : List (List ℕ)) (files : List DeskFile) (failed : Option ℕ) (command : Command) (q : Question) → CommandAsks words files failed command q → IsAsked q
asked words files failed (Check input cert) q (texts, gives, asks) = record { places = places_of input; top = input.top; script = texts.script; sources = texts.sources; gives = asks }
asked words files failed (Known input) q (texts, gives, asks) = record { places = places_of input; top = input.top; script = texts.script; sources = texts.sources; gives = asks }
asked words files failed (Demo stages) q asks = record { places = no_places; top = codes "demo"; script = demo_script; sources = demo_source stages ∷ []; gives = asks }

module _ (words : List (List ℕ)) (files : List DeskFile) (failed : Option ℕ) where
  -- the verdict that a due answer has is one of a question that is decided
  decided_from : (due : Due) (v : Verdict) → Ending words files failed due → verdict_in due ≡ Some v
      → (q : Question) × IsDecided words files failed q × IsVerdictOf q v
  decided_from due v (no_command none is) has = let e : None ≡ Some v = sym (ap verdict_in is) ∙ has in cc
  decided_from due v (unread command input place spelled reads gives is) has = let e : None ≡ Some v = sym (ap verdict_in is) ∙ has in cc
  decided_from due v (rejected r is) has = let e : None ≡ Some v = sym (ap verdict_in is) ∙ has in cc
  decided_from due v (checked input cert q verdict spelled asks decides is) has =
      let e : Some verdict ≡ Some v = sym (ap verdict_in is) ∙ has in
      let same : verdict ≡ v = cc in
      (q, record { command = Check input cert; spelled = spelled; decides = refl; asks = asks }, subst (IsVerdictOf q) same decides)
  decided_from due v (demonstrated stages q verdict spelled asks decides is) has =
      let e : Some verdict ≡ Some v = sym (ap verdict_in is) ∙ has in
      let same : verdict ≡ v = cc in
      (q, record { command = Demo stages; spelled = spelled; decides = refl; asks = asks }, subst (IsVerdictOf q) same decides)
  decided_from due v (shown input q spelled asks is) has = let e : None ≡ Some v = sym (ap verdict_in is) ∙ has in cc

  -- rows are shown of a question that `known` asks
  shown_from : (due : Due) → Ending words files failed due → due.answer ≡ answer.Shown → (q : Question) × IsShown words files failed q × (due ≡ shown_due q)
  shown_from due (no_command none is) has = let e : answer.NoCommand ≡ answer.Shown = sym (ap (λ (d : Due). d.answer) is) ∙ has in cc
  shown_from due (unread command input place spelled reads gives is) has = let e : answer.Unread place ≡ answer.Shown = sym (ap (λ (d : Due). d.answer) is) ∙ has in cc
  shown_from due (rejected r is) has = let e : answer.Refused r ≡ answer.Shown = sym (ap (λ (d : Due). d.answer) is) ∙ has in cc
  shown_from due (checked input cert q verdict spelled asks decides is) has = let e : answer.Decided verdict ≡ answer.Shown = sym (ap (λ (d : Due). d.answer) is) ∙ has in cc
  shown_from due (demonstrated stages q verdict spelled asks decides is) has = let e : answer.Decided verdict ≡ answer.Shown = sym (ap (λ (d : Due). d.answer) is) ∙ has in cc
  shown_from due (shown input q spelled asks is) has = (q, record { input = input; spelled = spelled; asks = asks }, is)

  -- the refusal that a due answer has is the one that is due
  refused_from : (due : Due) (r : Reject) → Ending words files failed due → refused_in due ≡ Some r → due ≡ refused_due words r
  refused_from due r (no_command none is) has = let e : None ≡ Some r = sym (ap refused_in is) ∙ has in cc
  refused_from due r (unread command input place spelled reads gives is) has = let e : None ≡ Some r = sym (ap refused_in is) ∙ has in cc
  refused_from due r (rejected s is) has =
      let e : Some s ≡ Some r = sym (ap refused_in is) ∙ has in
      let same : s ≡ r = cc in
      is ∙ ap (refused_due words) same
  refused_from due r (checked input cert q verdict spelled asks decides is) has = let e : None ≡ Some r = sym (ap refused_in is) ∙ has in cc
  refused_from due r (demonstrated stages q verdict spelled asks decides is) has = let e : None ≡ Some r = sym (ap refused_in is) ∙ has in cc
  refused_from due r (shown input q spelled asks is) has = let e : None ≡ Some r = sym (ap refused_in is) ∙ has in cc

  -- where an unread file is due, its load is the first that gives no text
  unread_from : (due : Due) (place : ℕ) → failed ≡ Some place → Ending words files failed due → unread_in due ≡ Some place → IsUnread words files place
  unread_from due place at (no_command none is) has = let e : None ≡ Some place = sym (ap unread_in is) ∙ has in cc
  unread_from due place at (unread command input n spelled reads gives is) has =
      let e : Some n ≡ Some place = sym (ap unread_in is) ∙ has in
      let same : n ≡ place = cc in
      let P : Option ℕ → Type 0 = λ o. texts_of files o input ≡ Err (stopped.Unread n) in
      let Q : ℕ → Type 0 = λ k. texts_of files (Some place) input ≡ Err (stopped.Unread k) in
      record { command = command; spelled = spelled; input = input; reads = reads; stops = subst Q same (subst P at gives) }
  unread_from due place at (rejected r is) has = let e : None ≡ Some place = sym (ap unread_in is) ∙ has in cc
  unread_from due place at (checked input cert q verdict spelled asks decides is) has = let e : None ≡ Some place = sym (ap unread_in is) ∙ has in cc
  unread_from due place at (demonstrated stages q verdict spelled asks decides is) has = let e : None ≡ Some place = sym (ap unread_in is) ∙ has in cc
  unread_from due place at (shown input q spelled asks is) has = let e : None ≡ Some place = sym (ap unread_in is) ∙ has in cc

  -- without a verdict no certificate is due
  no_cert_from : (due : Due) → Ending words files failed due → verdict_in due ≡ None → due.cert ≡ None
  no_cert_from due (no_command none is) has = ap (λ (d : Due). d.cert) is
  no_cert_from due (unread command input place spelled reads gives is) has = ap (λ (d : Due). d.cert) is
  no_cert_from due (rejected r is) has = ap (λ (d : Due). d.cert) is
  no_cert_from due (checked input cert q verdict spelled asks decides is) has = let e : Some verdict ≡ None = sym (ap verdict_in is) ∙ has in cc
  no_cert_from due (demonstrated stages q verdict spelled asks decides is) has = ap (λ (d : Due). d.cert) is
  no_cert_from due (shown input q spelled asks is) has = ap (λ (d : Due). d.cert) is

  -- and none but that of `check`
  no_cert_but : (due : Due) → Ending words files failed due → is_check (command_of words) ≡ false → due.cert ≡ None
  no_cert_but due (no_command none is) not = ap (λ (d : Due). d.cert) is
  no_cert_but due (unread command input place spelled reads gives is) not = ap (λ (d : Due). d.cert) is
  no_cert_but due (rejected r is) not = ap (λ (d : Due). d.cert) is
  no_cert_but due (checked input cert q verdict spelled asks decides is) not = let e : true ≡ false = sym (ap is_check spelled) ∙ not in cc
  no_cert_but due (demonstrated stages q verdict spelled asks decides is) not = ap (λ (d : Due). d.cert) is
  no_cert_but due (shown input q spelled asks is) not = ap (λ (d : Due). d.cert) is

-- THE PROMISES

module _ (words : List (List ℕ)) (old new : Outside) (outcome : Outcome) (run : IsRun words old new outcome) where
  -- unless memory ran out, something is due, and the run writes it
  written : outcome.status ≢ NoMemory → Answers words old new outcome
  written memory = elim run.due [ inl none ↦ absurd (memory (ap (λ (o : Outcome). o.status) none)) | inr some ↦ some ]

  is_told : (a : Answers words old new outcome) (files : List DeskFile) → old.files ≡ Some files → IsDue words files outcome.unread a.due
  is_told a files told = at_told old.files (λ files. IsDue words files outcome.unread a.due) files told a.is

  ends : (a : Answers words old new outcome) (files : List DeskFile) → old.files ≡ Some files → Ending words files outcome.unread a.due
  ends a files told = ending words files outcome.unread a.due (is_told a files told)

  pub due_told : (files : List DeskFile) → old.files ≡ Some files → outcome.status ≢ NoMemory
      → (due : Due) × IsDue words files outcome.unread due × Writes (cert_name words) due old new outcome
  due_told files told memory =
      let a = written memory in
      (a.due, is_told a files told, a.writes)

  -- where loads are sure, what is due where none has failed
  pub sure_told : (files : List DeskFile) → old.files ≡ Some files → IsTrue old.sure_loads → outcome.status ≢ NoMemory
      → (due : Due) × IsDue words files None due × Carries due.answer outcome
  sure_told files told sure memory =
      let a = written memory in
      (a.due, at_told old.files (λ files. IsDue words files None a.due) files told (a.sure sure), a.writes.carries)

  -- the outcome is that of a due answer, or that of want of memory
  shape : (P : Outcome → Type 0) → P no_memory → ((a : Answer) → P (outcome_of a)) → ((a : Answer) → P (fault_of a)) → P outcome
  shape P none whole fault =
      elim run.due [
        | inl is ↦ subst P (sym is) none
        | inr a ↦ elim a.writes.carries [ inl is ↦ subst P (sym is) (whole a.due.answer) | inr is ↦ subst P (sym is) (fault a.due.answer) ]
      ]

  -- refusals, exactly
  pub refused_exactly : OneDue → (files : List DeskFile) → old.files ≡ Some files → outcome.status ≢ NoMemory → (r : Reject)
      → (outcome.reject ≡ Some r) ↔ IsRefused words files outcome.unread r
  refused_exactly one files told memory r =
      let a = written memory in (
        (λ has.
            let is : a.due ≡ refused_due words r = refused_from words files outcome.unread a.due r (ends a files told) (sym (reject_kept a.due.answer outcome a.writes.carries) ∙ has) in
            let P : Due → Type 0 = λ d. IsDue words files outcome.unread d in
            subst P is (is_told a files told)),
        (λ is. elim (one words files outcome.unread a.due (refused_due words r) (is_told a files told) is) [
          | inl same ↦ reject_kept a.due.answer outcome a.writes.carries ∙ ap refused_in same
          | inr (left, right) ↦ let e : answer.Refused r ≡ answer.Decided right.0 = right.1 in cc
        ]),
      )

  -- what a run with the status of a verdict decided
  pub record Decided (files : List DeskFile) (s : Status) : Type 0 where
    pub question : Question
    pub verdict : Verdict
    pub is : IsDecided words files None question
    pub decides : IsVerdictOf question verdict
    pub has : outcome.verdict ≡ Some verdict
    pub status : status_of verdict ≡ s
    pub asked : IsAsked question
    pub gates : HasOrderedGates (netlist question)

  decided : (files : List DeskFile) (s : Status) → old.files ≡ Some files → outcome.status ≡ s → (s ≡ Signed) ⊎ ((s ≡ status.Refuted) ⊎ (s ≡ status.Unknown)) → Decided files s
  decided files s told ended some =
      let memory : outcome.status ≢ NoMemory = λ e. elim some [
        | inl x ↦ let y : Signed ≡ NoMemory = sym x ∙ (sym ended ∙ e) in cc
        | inr (inl x) ↦ let y : status.Refuted ≡ NoMemory = sym x ∙ (sym ended ∙ e) in cc
        | inr (inr x) ↦ let y : status.Unknown ≡ NoMemory = sym x ∙ (sym ended ∙ e) in cc
      ] in
      let fault : outcome.status ≢ WriteFault = λ e. elim some [
        | inl x ↦ let y : Signed ≡ WriteFault = sym x ∙ (sym ended ∙ e) in cc
        | inr (inl x) ↦ let y : status.Refuted ≡ WriteFault = sym x ∙ (sym ended ∙ e) in cc
        | inr (inr x) ↦ let y : status.Unknown ≡ WriteFault = sym x ∙ (sym ended ∙ e) in cc
      ] in
      let a = written memory in
      let whole : (outcome_of a.due.answer).status ≡ s = status_kept a.due.answer outcome a.writes.carries fault ∙ ended in
      let d = decided_of a.due.answer s whole some in
      let has : verdict_in a.due ≡ Some d.0 = ap (λ (x : Answer). (outcome_of x).verdict) d.1 in
      let none : outcome.unread ≡ None = unread_kept a.due.answer outcome a.writes.carries ∙ ap (λ (x : Answer). (outcome_of x).unread) d.1 in
      let known = decided_from words files outcome.unread a.due d.0 (ends a files told) has in
      let there : IsDecided words files outcome.unread known.0 = known.1 in
      let gates = at_told old.files (λ files. (command : Command) → command_of words ≡ Some command → HasGates words files outcome.unread command) files told a.gates in
      record {
        question = known.0;
        verdict = d.0;
        is = subst (λ (failed : Option ℕ). IsDecided words files failed known.0) none there;
        decides = known.2;
        has = verdict_kept a.due.answer outcome a.writes.carries ∙ has;
        status = sym (ap (λ (x : Answer). (outcome_of x).status) d.1) ∙ whole;
        asked = asked words files outcome.unread there.command known.0 there.asks;
        gates = gates there.command there.spelled known.0 there.asks;
      }

  pub signed_promise : SignedResets → (files : List DeskFile) → old.files ≡ Some files → outcome.status ≡ Signed
      → (q : Question) × IsDecided words files None q × IsSigned outcome q
  signed_promise resets files told ended =
      let d = decided files Signed told ended (inl refl) in
      let both = resets d.asked.places d.asked.top d.asked.script d.asked.sources d.question d.verdict d.asked.gives d.gates d.decides (signed_of d.verdict d.status) in
      (d.question, d.is, record { verdict = d.verdict; has = d.has; pattern = both.0; resets = both.1 })

  pub refuted_promise : RefutedApart → (files : List DeskFile) → old.files ≡ Some files → outcome.status ≡ status.Refuted
      → (q : Question) × IsDecided words files None q × IsRefutedBy outcome q
  refuted_promise apart files told ended =
      let d = decided files status.Refuted told ended (inr (inl refl)) in
      let r = refuted_of d.verdict d.status in (
        d.question,
        d.is,
        record {
          seq = r.seq;
          a = r.a;
          b = r.b;
          word = r.word;
          has = d.has ∙ ap (λ (v : Verdict). Some v) r.is;
          refutes = apart d.asked.places d.asked.top d.asked.script d.asked.sources d.question r.seq r.word r.a r.b d.asked.gives d.gates (subst (IsVerdictOf d.question) r.is d.decides);
        },
      )

  pub unknown_promise : (files : List DeskFile) → old.files ≡ Some files → outcome.status ≡ status.Unknown
      → (q : Question) × IsDecided words files None q × IsUnknown outcome q
  unknown_promise files told ended =
      let d = decided files status.Unknown told ended (inr (inr refl)) in
      (d.question, d.is, unknown_of d.question outcome d.verdict d.status d.has d.decides)

  -- a verdict that is kept
  pub verdict_promise : (files : List DeskFile) → old.files ≡ Some files → outcome.status ≢ NoMemory → (v : Verdict) → outcome.verdict ≡ Some v
      → (q : Question) × IsDecided words files outcome.unread q × IsVerdictOf q v
  verdict_promise files told memory v has =
      let a = written memory in
      decided_from words files outcome.unread a.due v (ends a files told) (sym (verdict_kept a.due.answer outcome a.writes.carries) ∙ has)

  -- the verdict on a question that is decided
  verdict_on : AskedDue → (files : List DeskFile) → old.files ≡ Some files → (a : Answers words old new outcome) (q : Question) → IsDecided words files outcome.unread q
      → (v : Verdict) × IsVerdictOf q v × (a.due.answer ≡ answer.Decided v)
  verdict_on asks files told a q d =
      decided_verdict d.command q a.due d.decides (asks words files outcome.unread d.command q a.due d.spelled d.asks (is_told a files told))

  -- known, exactly
  pub known_exactly : AskedDue → (files : List DeskFile) → old.files ≡ Some files → outcome.status ≢ NoMemory → (pattern : List (List Tern))
      → (outcome.verdict ≡ Some (SignedKnown pattern)) ↔ ((q : Question) × IsDecided words files outcome.unread q × Knows q × (pattern ≡ q.pattern))
  known_exactly asks files told memory pattern =
      let a = written memory in (
        (λ has.
            let d = verdict_promise files told memory (SignedKnown pattern) has in
            (d.0, d.1, d.2.0, d.2.1)),
        (λ x.
            let v = verdict_on asks files told a x.0 x.1 in
            let is : v.0 ≡ SignedKnown x.0.pattern = known_verdict x.0 v.0 v.1 x.2 in
            verdict_kept a.due.answer outcome a.writes.carries
            ∙ (ap (λ (z : Answer). (outcome_of z).verdict) v.2 ∙ (ap (λ (z : Verdict). Some z) is ∙ ap (λ (p : List (List Tern)). Some (SignedKnown p)) (sym x.3)))),
      )

  -- where no count of faults rises, the outcome is that of what is due, unless memory runs out
  certain : (Rose old.save_faults new.save_faults → ⊥) → (Rose old.put_faults new.put_faults → ⊥)
      → ((a : Answers words old new outcome) × (outcome ≡ outcome_of a.due.answer)) ⊎ (outcome.status ≡ NoMemory)
  certain no_save no_put =
      elim run.due [
        | inl none ↦ inr (ap (λ (o : Outcome). o.status) none)
        | inr a ↦ elim a.writes.carries [
          | inl whole ↦ inl (a, whole)
          | inr fault ↦ elim (a.writes.fault (ap (λ (o : Outcome). o.status) fault)) [ inl save ↦ absurd (no_save save) | inr put ↦ absurd (no_put put) ]
        ]
      ]

  no_unread : (Rose old.load_faults new.load_faults → ⊥) → outcome.unread ≡ None
  no_unread no_load = none_has outcome.unread (λ place. IsLoaded words place × Rose old.load_faults new.load_faults) run.unread (λ place cause. no_load cause.1)

  pub always_decided : AskedDue → (files : List DeskFile) → old.files ≡ Some files → (q : Question) → IsDecided words files None q
      → (Rose old.load_faults new.load_faults → ⊥) → (Rose old.save_faults new.save_faults → ⊥) → (Rose old.put_faults new.put_faults → ⊥)
      → ((verdict : Verdict) × IsVerdictOf q verdict × (outcome.verdict ≡ Some verdict) × (outcome.status ≡ status_of verdict)) ⊎ (outcome.status ≡ NoMemory)
  always_decided asks files told q x no_load no_save no_put =
      elim (certain no_save no_put) [
        | inl (a, is) ↦
            let v = verdict_on asks files told a q (subst (λ (failed : Option ℕ). IsDecided words files failed q) (sym (no_unread no_load)) x) in
            inl (
              v.0,
              v.1,
              ap (λ (o : Outcome). o.verdict) is ∙ ap (λ (z : Answer). (outcome_of z).verdict) v.2,
              ap (λ (o : Outcome). o.status) is ∙ ap (λ (z : Answer). (outcome_of z).status) v.2,
            )
        | inr none ↦ inr none
      ]

  pub always_signed : AskedDue → (files : List DeskFile) → old.files ≡ Some files → (q : Question) → IsDecided words files None q → Knows q
      → (Rose old.load_faults new.load_faults → ⊥) → (Rose old.save_faults new.save_faults → ⊥) → (Rose old.put_faults new.put_faults → ⊥)
      → (outcome.status ≡ Signed) ⊎ (outcome.status ≡ NoMemory)
  always_signed asks files told q x knows no_load no_save no_put =
      elim (always_decided asks files told q x no_load no_save no_put) [
        | inl (v, decides, has, status) ↦ inl (status ∙ ap status_of (known_verdict q v decides knows))
        | inr none ↦ inr none
      ]

  -- shown, and always shown
  pub shown_promise : (files : List DeskFile) → old.files ≡ Some files → outcome.status ≡ status.Shown
      → (q : Question) × IsShown words files None q × Appends old.taken new.taken (shown_due q).text
  shown_promise files told is_shown =
      let memory : outcome.status ≢ NoMemory = λ e. let x : status.Shown ≡ NoMemory = sym is_shown ∙ e in cc in
      let fault : outcome.status ≢ WriteFault = λ e. let x : status.Shown ≡ WriteFault = sym is_shown ∙ e in cc in
      let a = written memory in
      let is : a.due.answer ≡ answer.Shown = shown_of a.due.answer (status_kept a.due.answer outcome a.writes.carries fault ∙ is_shown) in
      let none : outcome.unread ≡ None = unread_kept a.due.answer outcome a.writes.carries ∙ ap (λ (x : Answer). (outcome_of x).unread) is in
      let s = shown_from words files outcome.unread a.due (ends a files told) is in
      let P : Option ℕ → Type 0 = λ failed. IsShown words files failed s.0 in
      let T : Due → Type 0 = λ d. Appends old.taken new.taken d.text in
      (s.0, subst P none s.1, subst T s.2 (a.writes.text fault))

  pub always_shown : AskedDue → (files : List DeskFile) → old.files ≡ Some files → (q : Question) → IsShown words files None q
      → (Rose old.load_faults new.load_faults → ⊥) → (Rose old.save_faults new.save_faults → ⊥) → (Rose old.put_faults new.put_faults → ⊥)
      → (outcome.status ≡ status.Shown) ⊎ (outcome.status ≡ NoMemory)
  always_shown asks files told q x no_load no_save no_put =
      elim (certain no_save no_put) [
        | inl (a, is) ↦
            let there = subst (λ (failed : Option ℕ). IsShown words files failed q) (sym (no_unread no_load)) x in
            let errors = asks words files outcome.unread (Known there.input) q a.due there.spelled there.asks (is_told a files told) in
            let same : a.due ≡ shown_due q = cc in
            inl (ap (λ (o : Outcome). o.status) is ∙ ap (λ (d : Due). (outcome_of d.answer).status) same)
        | inr none ↦ inr none
      ]

  -- usage, exactly
  pub usage_promise : IsNone (command_of words) → Carries answer.NoCommand outcome
  usage_promise none =
      elim run.due [
        | inl is ↦ absurd (not_both (command_of words) none (run.nothing (ap (λ (o : Outcome). o.status) is)).0)
        | inr a ↦ let P : Due → Type 0 = λ d. Carries d.answer outcome in subst P (a.usage none) a.writes.carries
      ]

  pub usage_only : outcome.status ≡ Usage → IsNone (command_of words)
  usage_only status =
      let memory : outcome.status ≢ NoMemory = λ e. let x : Usage ≡ NoMemory = sym status ∙ e in cc in
      let fault : outcome.status ≢ WriteFault = λ e. let x : Usage ≡ WriteFault = sym status ∙ e in cc in
      let a = written memory in
      a.none (usage_of a.due.answer (status_kept a.due.answer outcome a.writes.carries fault ∙ status))

  pub usage_text : IsNone (command_of words) → outcome.status ≡ Usage → Appends old.taken new.taken usage_line
  usage_text none status =
      let memory : outcome.status ≢ NoMemory = λ e. let x : Usage ≡ NoMemory = sym status ∙ e in cc in
      let fault : outcome.status ≢ WriteFault = λ e. let x : Usage ≡ WriteFault = sym status ∙ e in cc in
      let a = written memory in
      let P : Due → Type 0 = λ d. Appends old.taken new.taken d.text in
      subst P (a.usage none) (a.writes.text fault)

  -- a fault is answered only where it is counted
  pub write_fault : outcome.status ≡ WriteFault → Rose old.save_faults new.save_faults ⊎ Rose old.put_faults new.put_faults
  write_fault status =
      let memory : outcome.status ≢ NoMemory = λ e. let x : WriteFault ≡ NoMemory = sym status ∙ e in cc in
      (written memory).writes.fault status

  pub unread_promise : (files : List DeskFile) → old.files ≡ Some files → (place : ℕ) → outcome.unread ≡ Some place → IsUnread words files place
  unread_promise files told place has =
      elim run.due [
        | inl is ↦ let x : None ≡ Some place = sym (ap (λ (o : Outcome). o.unread) is) ∙ has in cc
        | inr a ↦
            unread_from words files outcome.unread a.due place has (ends a files told) (sym (unread_kept a.due.answer outcome a.writes.carries) ∙ has)
      ]

  -- what is kept, and with which status
  pub kept_verdict : IfSome outcome.verdict (λ v. (outcome.status ≡ status_of v) ⊎ (outcome.status ≡ WriteFault))
  kept_verdict = shape (λ o. IfSome o.verdict (λ v. (o.status ≡ status_of v) ⊎ (o.status ≡ WriteFault))) tt verdict_whole verdict_faulted

  pub kept_reject : IsSome outcome.reject → (outcome.status ≡ Rejected) ⊎ (outcome.status ≡ WriteFault)
  kept_reject =
      shape (λ o. IsSome o.reject → (o.status ≡ Rejected) ⊎ (o.status ≡ WriteFault)) (λ some. let e : false ≡ true = some in cc) reject_whole (λ a some. inr refl)

  pub kept_unread : IsSome outcome.unread → (outcome.status ≡ ReadFault) ⊎ (outcome.status ≡ WriteFault)
  kept_unread =
      shape (λ o. IsSome o.unread → (o.status ≡ ReadFault) ⊎ (o.status ≡ WriteFault)) (λ some. let e : false ≡ true = some in cc) unread_whole (λ a some. inr refl)

  pub rejected_has : outcome.status ≡ Rejected → IsSome outcome.reject
  rejected_has =
      shape (λ o. o.status ≡ Rejected → IsSome o.reject) (λ is. cc) rejected_whole (λ a is. cc)

  pub read_fault_has : outcome.status ≡ ReadFault → IsSome outcome.unread
  read_fault_has =
      shape (λ o. o.status ≡ ReadFault → IsSome o.unread) (λ is. cc) read_fault_whole (λ a is. cc)

  pub no_memory_keeps : outcome.status ≡ NoMemory → outcome ≡ no_memory
  no_memory_keeps =
      shape (λ o. o.status ≡ NoMemory → o ≡ no_memory) (λ is. refl) no_memory_whole (λ a is. cc)

  pub memory_is : outcome.status ≡ NoMemory → IsSome (command_of words)
  memory_is status = (run.nothing status).0

  -- where no certificate is due, no file changes
  none_saved : (files : List DeskFile) → old.files ≡ Some files → ((due : Due) → Ending words files outcome.unread due → Carries due.answer outcome → due.cert ≡ None)
      → new.files ≡ Some files
  none_saved files told none =
      elim run.due [
        | inl is ↦ (run.nothing (ap (λ (o : Outcome). o.status) is)).1.files ∙ told
        | inr a ↦
            let P : Option (List ℕ) → Type 0 = λ o. IfNone o (new.files ≡ old.files) in
            subst P (none a.due (ends a files told) a.writes.carries) a.writes.kept ∙ told
      ]

  pub no_certificate : (files : List DeskFile) → old.files ≡ Some files → IsNone outcome.verdict → new.files ≡ Some files
  no_certificate files told none =
      none_saved files told (λ due end carries.
      no_cert_from words files outcome.unread due end (sym (verdict_kept due.answer outcome carries) ∙ is_none outcome.verdict none))

  pub only_check : (files : List DeskFile) → old.files ≡ Some files → is_check (command_of words) ≡ false → new.files ≡ Some files
  only_check files told not = none_saved files told (λ due end carries. no_cert_but words files outcome.unread due end not)

  -- no file but the certificate's differs
  pub other_files : ChangesOnly (cert_name words) old.files new.files
  other_files =
      elim run.due [
        | inl is ↦ unchanged (cert_name words) old.files new.files (run.nothing (ap (λ (o : Outcome). o.status) is)).1.files
        | inr a ↦ a.writes.others
      ]
