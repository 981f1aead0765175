-- What a run does, from what its parts do.
use Rattle.std.proofs.Common.{◌≡◌, ◌≢◌, ◌⊎◌, inl, inr, ℕ, List, true, false, Option, Some, None, Result, Ok, Err, map, String, string_bytes, refl, sym, ap, subst, ◌∙◌}
use Rattle.std.specs.Prelude.{IfSome, IfNone, IfOk, IsNone, IsSome, IsTrue}
use Rattle.std.specs.List.{Contains}
use Rattle.std.specs.declared.alloc.Global.{Global}
use Rattle.std.specs.Io.KnownBytes.{Appends}
use Rattle.rst_outside.specs.declared.desk.DeskFile.{DeskFile}
use Rattle.rst_outside.specs.SureRoom.{SureRoom}
use Rattle.rst_outside.specs.Causes.{Rose, AppendsPrefix}
use Rattle.rst_outside.specs.Files.{IsHeldUnder, ChangesOnly}
use Rattle.rst_reject.specs.Steps.{refused, goes_on}
use Rattle.rst_command.specs.Commands.{Command, command_of}
use Rattle.rst_answer.specs.declared.answer.Status.TheVariants.{Signed, Shown, Usage, ReadFault, WriteFault, Rejected, NoMemory}
use Rattle.rst_answer.specs.declared.answer.Answer.{Answer}
use Rattle.rst_answer.specs.declared.answer.Answer.TheVariants as answer
use Rattle.rst_answer.specs.declared.answer.Outcome.{Outcome}
use Rattle.rst_answer.specs.Answers.{Due, outcome_of, no_memory, unread_of, usage_due, usage_line, Carries}
use Rattle.rst_due.specs.Due.{CommandRuns, IsDue}
use Rattle.rst_due.specs.Asked.{loaded}
use Rattle.rst_sign.proofs.Statuses.{verdict_status}
use Rattle.rst_sign.specs.Run.{Outside, FitsIn, FitsUnder, HasRoom, Writes, Runs, Answers, IsRun, IsLoaded, HasGates, saved_under, name_in, cert_name}

-- an outcome that carries an answer isn't that of want of memory
no_memory_not : (a : Answer) → (outcome_of a).status ≢ NoMemory
no_memory_not answer.NoCommand is = let e : Usage ≡ NoMemory = is in cc
no_memory_not (answer.Unread place) is = let e : ReadFault ≡ NoMemory = is in cc
no_memory_not (answer.Refused reject) is = let e : Rejected ≡ NoMemory = is in cc
no_memory_not answer.Shown is = let e : Shown ≡ NoMemory = is in cc
no_memory_not (answer.Decided verdict) is = absurd ((verdict_status verdict).no_memory is)

carried_not : (a : Answer) (outcome : Outcome) → Carries a outcome → outcome.status ≢ NoMemory
carried_not a outcome (inl is) status = no_memory_not a (sym (ap (λ (o : Outcome). o.status) is) ∙ status)
carried_not a outcome (inr is) status = let e : WriteFault ≡ NoMemory = sym (ap (λ (o : Outcome). o.status) is) ∙ status in cc

-- an outcome without a fault of writing is the answer's
pub whole : (a : Answer) (outcome : Outcome) → Carries a outcome → outcome.status ≢ WriteFault → outcome ≡ outcome_of a
whole a outcome (inl is) not = is
whole a outcome (inr is) not = absurd (not (ap (λ (o : Outcome). o.status) is))

-- the unread file is that of the answer
unread_same : (a : Answer) → (outcome_of a).unread ≡ unread_of a
unread_same answer.NoCommand = refl
unread_same (answer.Unread place) = refl
unread_same (answer.Refused reject) = refl
unread_same answer.Shown = refl
unread_same (answer.Decided verdict) = refl

unread_carried : (a : Answer) (outcome : Outcome) → Carries a outcome → outcome.unread ≡ unread_of a
unread_carried a outcome (inl is) = ap (λ (o : Outcome). o.unread) is ∙ unread_same a
unread_carried a outcome (inr is) = ap (λ (o : Outcome). o.unread) is ∙ unread_same a

-- files that stay change nothing
pub unchanged : (name : List ℕ) (old new : Option (List DeskFile)) → new ≡ old → ChangesOnly name old new
unchanged name None new is =
    let P : Option (List DeskFile) → Type 0 = λ o. ChangesOnly name None o in
    subst P (sym is) tt
unchanged name (Some files) new is =
    let P : Option (List DeskFile) → Type 0 = λ o. ChangesOnly name (Some files) o in
    subst P (sym is) (λ other different. refl)

not_both : {A : Type 0} (o : Option A) → IsNone o → IsSome o → ⊥
not_both None none some = let e : false ≡ true = some in cc
not_both (Some x) none some = let e : true ≡ false = none in cc

pub is_none : {A : Type 0} (o : Option A) → o ≡ None → IsNone o
is_none None is = refl
is_none (Some x) is = cc

is_some : {A : Type 0} (o : Option A) (x : A) → o ≡ Some x → IsSome o
is_some None x is = cc
is_some (Some y) x is = refl

each_told : {A : Type 0} (told : Option A) (P : A → Type 0) → ((x : A) → P x) → IfSome told P
each_told None P each = tt
each_told (Some x) P each = each x

pub map_told : {A : Type 0} (told : Option A) (P Q : A → Type 0) → ((x : A) → P x → Q x) → IfSome told P → IfSome told Q
map_told None P Q each holds = tt
map_told (Some x) P Q each holds = each x holds

-- a run of words that spell no command puts the usage line
pub usage_run : (words : List (List ℕ)) (old new : Outside) (outcome : Outcome) (line : List ℕ) → line ≡ usage_line → command_of words ≡ None → new.files ≡ old.files
    → Carries answer.NoCommand outcome → (outcome.status ≡ WriteFault → Rose old.put_faults new.put_faults)
    → (outcome ≡ outcome_of answer.NoCommand → Appends old.taken new.taken line) → AppendsPrefix old.taken new.taken line
    → (FitsIn old.put_room line → outcome ≡ outcome_of answer.NoCommand) → IsRun words old new outcome
usage_run words old new outcome line is none files carries cause text_put prefix_put fits_put =
    let R : List ℕ → Type 0 = λ l. FitsIn old.put_room l → outcome ≡ outcome_of answer.NoCommand in
    let fits : FitsIn old.put_room usage_line → outcome ≡ outcome_of answer.NoCommand = subst R is fits_put in
    let W : List ℕ → Type 0 = λ l. outcome ≡ outcome_of answer.NoCommand → Appends old.taken new.taken l in
    let text : outcome ≡ outcome_of answer.NoCommand → Appends old.taken new.taken usage_line = subst W is text_put in
    let X : List ℕ → Type 0 = λ l. AppendsPrefix old.taken new.taken l in
    let prefix : AppendsPrefix old.taken new.taken usage_line = subst X is prefix_put in
    let writes : Writes (cert_name words) usage_due old new outcome = record {
      carries = carries;
      fault = λ status. inr (cause status);
      text = λ not. text (whole answer.NoCommand outcome carries not);
      prefix = prefix;
      saved = λ not. tt;
      put_failed = λ status. tt;
      others = unchanged (cert_name words) old.files new.files files;
      kept = files;
      roomy = λ room. fits room.put;
    } in
    let unread_none : outcome.unread ≡ None = unread_carried answer.NoCommand outcome carries in
    let U : Option ℕ → Type 0 = λ o. IfSome o (λ place. IsLoaded words place × Rose old.load_faults new.load_faults) in
    let answers : Answers words old new outcome = record {
      due = usage_due;
      writes = writes;
      is = each_told old.files (λ files. IsDue words files outcome.unread usage_due) (λ files. refused usage_due (none, refl) refl);
      sure = λ _. each_told old.files (λ files. IsDue words files None usage_due) (λ files. refused usage_due (none, refl) refl);
      gates = each_told old.files (λ files. (command : Command) → command_of words ≡ Some command → HasGates words files outcome.unread command)
          (λ files command spelled. let never = sym none ∙ spelled in cc);
      usage = λ _. refl;
      none = λ _. is_none (command_of words) none;
    } in
    record {
      due = inr answers;
      unread = subst U (sym unread_none) tt;
      nothing = λ status. absurd (carried_not answer.NoCommand outcome carries status);
    }

-- what is delivered where an answer is due
pub record Delivers (name : List ℕ) (due : Due) (files : Option (List DeskFile)) (saves : ℕ) (room : Option SureRoom) (old new : Outside) (outcome : Outcome) : Type 0 where
  pub carries : Carries due.answer outcome
  pub cause : outcome.status ≡ WriteFault → Rose saves new.save_faults ⊎ Rose old.put_faults new.put_faults
  pub text : outcome ≡ outcome_of due.answer → Appends old.taken new.taken due.text
  pub prefix : AppendsPrefix old.taken new.taken due.text
  pub saved : outcome ≡ outcome_of due.answer → IfSome due.cert (λ cert. IfSome new.files (IsHeldUnder name cert))
  pub put_failed : outcome.status ≡ WriteFault → IfSome due.cert (λ cert.
      (IfSome new.files (IsHeldUnder name cert) × Rose old.put_faults new.put_faults)
      ⊎ ((new.taken ≡ old.taken) × Rose saves new.save_faults))
  pub others : ChangesOnly name files new.files
  pub kept : IfNone due.cert (new.files ≡ files)
  pub roomy : HasRoom name due room old.put_room → outcome ≡ outcome_of due.answer

pub delivered_runs : (words : List (List ℕ)) (command : Command) (old new : Outside) (outcome : Outcome) (due : Due) (name : List ℕ) (files : Option (List DeskFile)) (loads saves : ℕ) (room : Option SureRoom)
    → name ≡ saved_under command → IfSome old.files (λ told. CommandRuns words told (unread_of due.answer) command (Err due))
    → IfSome old.files (λ told. HasGates words told (unread_of due.answer) command)
    → IfSome (unread_of due.answer) (λ place. Contains (loaded command) place × Rose old.load_faults loads) → due.answer ≢ answer.NoCommand
    → files ≡ old.files → saves ≡ old.save_faults → new.load_faults ≡ loads → room ≡ old.save_room
    → (IsTrue old.sure_loads → IfSome old.files (λ told. CommandRuns words told None command (Err due)))
    → Delivers name due files saves room old new outcome → Runs words command old new outcome
delivered_runs words command old new outcome due name files loads saves room name_is is_due gates risen some files_same saves_same loads_same room_same sure delivers =
    let N : List ℕ → Type 0 = λ n. Delivers n due files saves room old new outcome in
    let d : Delivers (saved_under command) due files saves room old new outcome = subst N name_is delivers in
    let H : Option SureRoom → Type 0 = λ r. HasRoom (saved_under command) due r old.put_room → outcome ≡ outcome_of due.answer in
    let F : Option (List DeskFile) → Type 0 = λ o. ChangesOnly (saved_under command) o new.files in
    let K : Option (List DeskFile) → Type 0 = λ o. IfNone due.cert (new.files ≡ o) in
    let C : ℕ → Type 0 = λ n. outcome.status ≡ WriteFault → Rose n new.save_faults ⊎ Rose old.put_faults new.put_faults in
    let Q : ℕ → Type 0 = λ n. outcome.status ≡ WriteFault → IfSome due.cert (λ cert.
    (IfSome new.files (IsHeldUnder (saved_under command) cert) × Rose old.put_faults new.put_faults) ⊎ ((new.taken ≡ old.taken) × Rose n new.save_faults)) in
    let writes : Writes (saved_under command) due old new outcome = record {
      carries = d.carries;
      fault = subst C saves_same d.cause;
      text = λ not. d.text (whole due.answer outcome d.carries not);
      prefix = d.prefix;
      saved = λ not. d.saved (whole due.answer outcome d.carries not);
      put_failed = subst Q saves_same d.put_failed;
      others = subst F files_same d.others;
      kept = subst K files_same d.kept;
      roomy = subst H room_same d.roomy;
    } in
    let unread_is : outcome.unread ≡ unread_of due.answer = unread_carried due.answer outcome d.carries in
    let U : Option ℕ → Type 0 = λ o. IfSome o (λ place. Contains (loaded command) place × Rose old.load_faults new.load_faults) in
    let L : ℕ → Type 0 = λ n. IfSome (unread_of due.answer) (λ place. Contains (loaded command) place × Rose old.load_faults n) in
    let D : Option ℕ → Type 0 = λ o. IfSome old.files (λ told. CommandRuns words told o command (Err due)) in
    let G : Option ℕ → Type 0 = λ o. IfSome old.files (λ told. HasGates words told o command) in
    record {
      due = due;
      writes = writes;
      runs = subst D (sym unread_is) is_due;
      sure = sure;
      gates = subst G (sym unread_is) gates;
      some = some;
      unread = subst U (sym unread_is) (subst L (sym loads_same) risen);
    }

-- a run of a command
pub command_run : (words : List (List ℕ)) (command : Command) (old new : Outside) (outcome : Outcome) → command_of words ≡ Some command
    → Runs words command old new outcome → IsRun words old new outcome
command_run words command old new outcome spelled r =
    let W : Option Command → Type 0 = λ c. Writes (name_in c) r.due old new outcome in
    let answers : Answers words old new outcome = record {
      due = r.due;
      writes = subst W (sym spelled) r.writes;
      is = map_told old.files (λ files. CommandRuns words files outcome.unread command (Err r.due)) (λ files. IsDue words files outcome.unread r.due) (λ files runs. goes_on command spelled runs) r.runs;
      sure = λ loads. map_told old.files (λ files. CommandRuns words files None command (Err r.due)) (λ files. IsDue words files None r.due) (λ files runs. goes_on command spelled runs) (r.sure loads);
      gates = map_told old.files (λ files. HasGates words files outcome.unread command)
          (λ files. (c : Command) → command_of words ≡ Some c → HasGates words files outcome.unread c)
          (λ files gates c also.
          let somes = sym spelled ∙ also in
          let same : command ≡ c = cc in
          subst (HasGates words files outcome.unread) same gates) r.gates;
      usage = λ none. absurd (not_both (command_of words) none (is_some (command_of words) command spelled));
      none = λ is. absurd (r.some is);
    } in
    record {
      due = inr answers;
      unread = map_told outcome.unread (λ place. Contains (loaded command) place × Rose old.load_faults new.load_faults)
          (λ place. IsLoaded words place × Rose old.load_faults new.load_faults)
          (λ place both. (record { command = command; spelled = spelled; loads = both.0 }, both.1)) r.unread;
      nothing = λ status. absurd (carried_not r.due.answer outcome r.writes.carries status);
    }

-- a command that found no memory
pub memory_run : (words : List (List ℕ)) (command : Command) (old new : Outside) (outcome : Outcome) → command_of words ≡ Some command
    → outcome ≡ no_memory → (new.files ≡ old.files) × (new.taken ≡ old.taken) → IsRun words old new outcome
memory_run words command old new outcome spelled is same =
    let U : Outcome → Type 0 = λ o. IfSome o.unread (λ place. IsLoaded words place × Rose old.load_faults new.load_faults) in
    record {
      due = inl is;
      unread = subst U (sym is) tt;
      nothing = λ status. (is_some (command_of words) command spelled, record { taken = same.1; files = same.0 });
    }

-- what a call that may run out of memory delivers
pub delivered : {E : Type 0} (words : List (List ℕ)) (command : Command) (old new : Outside) (result : Result Outcome E) (due : Due) (name : List ℕ) (files : Option (List DeskFile)) (loads saves : ℕ) (room : Option SureRoom)
    → name ≡ saved_under command → IfSome old.files (λ told. CommandRuns words told (unread_of due.answer) command (Err due))
    → IfSome old.files (λ told. HasGates words told (unread_of due.answer) command)
    → IfSome (unread_of due.answer) (λ place. Contains (loaded command) place × Rose old.load_faults loads) → due.answer ≢ answer.NoCommand
    → files ≡ old.files → saves ≡ old.save_faults → new.load_faults ≡ loads → room ≡ old.save_room
    → (IsTrue old.sure_loads → IfSome old.files (λ told. CommandRuns words told None command (Err due)))
    → IfOk result (λ o. Carries due.answer o)
    → IfOk result (λ o. o.status ≡ WriteFault → Rose saves new.save_faults ⊎ Rose old.put_faults new.put_faults)
    → IfOk result (λ o. o ≡ outcome_of due.answer → Appends old.taken new.taken due.text)
    → IfOk result (λ o. AppendsPrefix old.taken new.taken due.text)
    → IfOk result (λ o. o ≡ outcome_of due.answer → IfSome due.cert (λ cert. IfSome new.files (IsHeldUnder name cert)))
    → IfOk result (λ o. o.status ≡ WriteFault → IfSome due.cert (λ cert.
    (IfSome new.files (IsHeldUnder name cert) × Rose old.put_faults new.put_faults) ⊎ ((new.taken ≡ old.taken) × Rose saves new.save_faults)))
    → ChangesOnly name files new.files → IfNone due.cert (new.files ≡ files)
    → IfOk result (λ o. HasRoom name due room old.put_room → o ≡ outcome_of due.answer) → IfOk result (λ o. Runs words command old new o)
delivered words command old new (Ok o) due name files loads saves room name_is is_due gates risen some files_same saves_same loads_same room_same sure carries cause text prefix saved put_failed others kept roomy =
    delivered_runs words command old new o due name files loads saves room name_is is_due gates risen some files_same saves_same loads_same room_same sure (record {
      carries = carries;
      cause = cause;
      text = text;
      prefix = prefix;
      saved = saved;
      put_failed = put_failed;
      others = others;
      kept = kept;
      roomy = roomy;
    })
delivered words command old new (Err e) due name files loads saves room name_is is_due gates risen some files_same saves_same loads_same room_same sure carries cause text prefix saved put_failed others kept roomy = tt

-- words that are the same run the same
pub same_run : (a b : List (String Global)) (old new : Outside) (outcome : Outcome) → a ≡ b → IsRun (map string_bytes a) old new outcome → IsRun (map string_bytes b) old new outcome
same_run a b old new outcome is run =
    let P : List (String Global) → Type 0 = λ words. IsRun (map string_bytes words) old new outcome in
    subst P is run
