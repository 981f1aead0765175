-- What a run does to the outside, whatever its command.
use Rattle.std.specs.Prelude.{◌≡◌, ◌≢◌, ◌⊎◌, ◌≤◌, ℕ, Bool, List, [], length, Option, Some, None, IfSome, IfNone, IsNone, IsSome, IsTrue, Err}
use Rattle.std.specs.List.{Contains}
use Rattle.std.specs.Io.KnownBytes.{Appends}
use Rattle.rst_outside.specs.declared.desk.DeskFile.{DeskFile}
use Rattle.rst_outside.specs.SureRoom.{SureRoom}
use Rattle.rst_outside.specs.Causes.{Rose, AppendsPrefix}
use Rattle.rst_outside.specs.Files.{IsHeldUnder, ChangesOnly}
use Rattle.rst_command.specs.Commands.{Command, Check, Known, Demo, command_of}
use Rattle.rst_answer.specs.declared.answer.Status.TheVariants.{WriteFault, NoMemory}
use Rattle.rst_answer.specs.declared.answer.Outcome.{Outcome}
use Rattle.rst_answer.specs.declared.answer.Answer.TheVariants.{NoCommand}
use Rattle.rst_answer.specs.Answers.{Due, no_memory, outcome_of, usage_due, Carries}
use Rattle.rst_question.specs.Questions.{Question, netlist}
use Rattle.rst_replies.specs.Replies.{HasOrderedGates}
use Rattle.rst_due.specs.Due.{CommandRuns, IsDue}
use Rattle.rst_due.specs.Asked.{CommandAsks, loaded}

-- the desk and the sink: the files and the bytes that they tell, their counts of faults, whether loads are sure, and sure room
pub record Outside : Type 0 where
  pub files : Option (List DeskFile)
  pub load_faults : ℕ
  pub save_faults : ℕ
  pub sure_loads : Bool
  pub save_room : Option SureRoom
  pub taken : Option (List ℕ)
  pub put_faults : ℕ
  pub put_room : Option ℕ

-- the sure room of a sink is enough for a text
abbrev pub FitsIn : Option ℕ → List ℕ → Type 0
FitsIn None text = ⊥
FitsIn (Some room) text = length text ≤ room

-- the sure room of a desk stands under the name, and is enough for a text
abbrev pub FitsUnder : Option SureRoom → List ℕ → List ℕ → Type 0
FitsUnder None name text = ⊥
FitsUnder (Some room) name text = (room.name ≡ name) × (length text ≤ room.left)

-- there is sure room for all that is due
pub record HasRoom (name : List ℕ) (due : Due) (save_room : Option SureRoom) (put_room : Option ℕ) : Type 0 where
  pub put : FitsIn put_room due.text
  pub saved : IfSome due.cert (FitsUnder save_room name)

-- the name under which a command saves its certificate: CERT of `check`; no other command saves one
abbrev pub saved_under : Command → List ℕ
saved_under (Check input cert) = cert
saved_under (Known input) = []
saved_under (Demo stages) = []

abbrev pub name_in : Option Command → List ℕ
name_in None = []
name_in (Some command) = saved_under command

abbrev pub cert_name : List (List ℕ) → List ℕ
cert_name words = name_in (command_of words)

-- the words spell a command that loads the word at this place
pub record IsLoaded (words : List (List ℕ)) (place : ℕ) : Type 0 where
  pub command : Command
  pub spelled : command_of words ≡ Some command
  pub loads : Contains (loaded command) place

-- how a due answer is written: the certificate is saved under its name, and then the text is put
pub record Writes (name : List ℕ) (due : Due) (old new : Outside) (outcome : Outcome) : Type 0 where
  -- the outcome carries the due answer, or a fault of writing in its place
  pub carries : Carries due.answer outcome
  pub fault : outcome.status ≡ WriteFault → Rose old.save_faults new.save_faults ⊎ Rose old.put_faults new.put_faults
  -- the text is put whole, or a prefix of it where a write failed
  pub text : outcome.status ≢ WriteFault → Appends old.taken new.taken due.text
  pub prefix : AppendsPrefix old.taken new.taken due.text
  -- the certificate is saved whole, also where only the put failed; where the save failed, nothing is put
  pub saved : outcome.status ≢ WriteFault → IfSome due.cert (λ cert. IfSome new.files (IsHeldUnder name cert))
  pub put_failed : outcome.status ≡ WriteFault → IfSome due.cert (λ cert.
      (IfSome new.files (IsHeldUnder name cert) × Rose old.put_faults new.put_faults)
      ⊎ ((new.taken ≡ old.taken) × Rose old.save_faults new.save_faults))
  -- no other file changes, and none where no certificate is due
  pub others : ChangesOnly name old.files new.files
  pub kept : IfNone due.cert (new.files ≡ old.files)
  -- within sure room no write fails
  pub roomy : HasRoom name due old.save_room old.put_room → outcome ≡ outcome_of due.answer

-- the design of each question that the command asks has gates that read earlier nodes only
abbrev pub HasGates : List (List ℕ) → List DeskFile → Option ℕ → Command → Type 0
HasGates words files failed command = (q : Question) → CommandAsks words files failed command q → HasOrderedGates (netlist q)

-- a run of a command that found memory
pub record Runs (words : List (List ℕ)) (command : Command) (old new : Outside) (outcome : Outcome) : Type 0 where
  pub due : Due
  pub writes : Writes (saved_under command) due old new outcome
  pub runs : IfSome old.files (λ files. CommandRuns words files outcome.unread command (Err due))
  -- where loads are sure, it is what is due where none has failed
  pub sure : IsTrue old.sure_loads → IfSome old.files (λ files. CommandRuns words files None command (Err due))
  pub gates : IfSome old.files (λ files. HasGates words files outcome.unread command)
  pub some : due.answer ≢ NoCommand
  pub unread : IfSome outcome.unread (λ place. Contains (loaded command) place × Rose old.load_faults new.load_faults)

-- nothing is put or saved
pub record IsUntouched (old new : Outside) : Type 0 where
  pub taken : new.taken ≡ old.taken
  pub files : new.files ≡ old.files

-- something is due, and the run writes it
pub record Answers (words : List (List ℕ)) (old new : Outside) (outcome : Outcome) : Type 0 where
  pub due : Due
  pub writes : Writes (cert_name words) due old new outcome
  pub is : IfSome old.files (λ files. IsDue words files outcome.unread due)
  pub sure : IsTrue old.sure_loads → IfSome old.files (λ files. IsDue words files None due)
  pub gates : IfSome old.files (λ files. (command : Command) → command_of words ≡ Some command → HasGates words files outcome.unread command)
  -- the usage line is due of words that spell no command, and of no others
  pub usage : IsNone (command_of words) → due ≡ usage_due
  pub none : due.answer ≡ NoCommand → IsNone (command_of words)

-- a run
pub record IsRun (words : List (List ℕ)) (old new : Outside) (outcome : Outcome) : Type 0 where
  pub due : (outcome ≡ no_memory) ⊎ Answers words old new outcome
  -- a load that is said to have failed is one of the command's, and is counted
  pub unread : IfSome outcome.unread (λ place. IsLoaded words place × Rose old.load_faults new.load_faults)
  -- where memory ran out, the words spell a command, and nothing is put or saved
  pub nothing : outcome.status ≡ NoMemory → IsSome (command_of words) × IsUntouched old new
