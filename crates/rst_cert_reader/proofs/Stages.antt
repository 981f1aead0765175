-- What is due is no fault.
use Rattle.std.proofs.Common.{◌≡◌, ◌==◌, ℕ, ℤ, Bool, true, false, List, refl, if◌then◌else◌}
use Rattle.rst_cert_reader.specs.declared.heading.HeadLine.{HeadLine}
use Rattle.rst_cert_reader.specs.declared.heading.HeadLine.TheVariants.{Version, Form, Clock, Registers, Inputs, Outputs, Kind}
use Rattle.rst_cert_reader.specs.declared.heading.CertKind.{CertKind}
use Rattle.rst_cert_reader.specs.declared.heading.CertKind.TheVariants.{Known, Relation, Refuted, Never, Alignable, Unknown}
use Rattle.rst_cert_reader.specs.declared.heading.Heading.{Heading}
use Rattle.rst_cert_reader.specs.declared.gathered.Gathered.{Gathered}
use Rattle.rst_cert_reader.specs.declared.section.Section.{Section}
use Rattle.rst_cert_reader.specs.declared.section.Section.TheVariants.{FreeSteps, Steps, Word, Equal, StateA, StateB, Blocked, Freed, SplitLog, LandLog, EscapeLog, StuckLog, Journal}
use Rattle.rst_cert_reader.specs.declared.stage.Stage.{Stage}
use Rattle.rst_cert_reader.specs.declared.stage.Stage.TheVariants.{Head, Begin, Items, Endless, End, Closed, BadHead, Bad}
use Rattle.rst_cert_reader.specs.Readings.{Reading, stage_behind, stage_behind_head, stage_with, told, taken}
use Rattle.rst_cert_reader.specs.Kept.{name_taken, clause_read}

-- whatever is due, but no fault
abbrev pub shown : Heading → Gathered → Stage → Reading
shown heading gathered stage = record { heading = heading; gathered = gathered; stage = stage }

pub told_head : (heading : Heading) (gathered : Gathered) (due : HeadLine) (kind : CertKind) → told heading gathered (stage_behind_head due kind) ≡ shown heading gathered (stage_behind_head due kind)
told_head heading gathered Version kind = refl
told_head heading gathered Form kind = refl
told_head heading gathered Clock kind = refl
told_head heading gathered Registers kind = refl
told_head heading gathered Inputs kind = refl
told_head heading gathered Outputs kind = refl
told_head heading gathered Kind kind = refl

told_behind : (heading : Heading) (gathered : Gathered) (kind : CertKind) (section : Section) → told heading gathered (stage_behind kind section) ≡ shown heading gathered (stage_behind kind section)
told_behind heading gathered Known section = refl
told_behind heading gathered Relation FreeSteps = refl
told_behind heading gathered Relation Steps = refl
told_behind heading gathered Relation Word = refl
told_behind heading gathered Relation Equal = refl
told_behind heading gathered Relation StateA = refl
told_behind heading gathered Relation StateB = refl
told_behind heading gathered Relation Blocked = refl
told_behind heading gathered Relation Freed = refl
told_behind heading gathered Relation SplitLog = refl
told_behind heading gathered Relation LandLog = refl
told_behind heading gathered Relation EscapeLog = refl
told_behind heading gathered Relation StuckLog = refl
told_behind heading gathered Relation Journal = refl
told_behind heading gathered Refuted FreeSteps = refl
told_behind heading gathered Refuted Steps = refl
told_behind heading gathered Refuted Word = refl
told_behind heading gathered Refuted Equal = refl
told_behind heading gathered Refuted StateA = refl
told_behind heading gathered Refuted StateB = refl
told_behind heading gathered Refuted Blocked = refl
told_behind heading gathered Refuted Freed = refl
told_behind heading gathered Refuted SplitLog = refl
told_behind heading gathered Refuted LandLog = refl
told_behind heading gathered Refuted EscapeLog = refl
told_behind heading gathered Refuted StuckLog = refl
told_behind heading gathered Refuted Journal = refl
told_behind heading gathered Never FreeSteps = refl
told_behind heading gathered Never Steps = refl
told_behind heading gathered Never Word = refl
told_behind heading gathered Never Equal = refl
told_behind heading gathered Never StateA = refl
told_behind heading gathered Never StateB = refl
told_behind heading gathered Never Blocked = refl
told_behind heading gathered Never Freed = refl
told_behind heading gathered Never SplitLog = refl
told_behind heading gathered Never LandLog = refl
told_behind heading gathered Never EscapeLog = refl
told_behind heading gathered Never StuckLog = refl
told_behind heading gathered Never Journal = refl
told_behind heading gathered Alignable FreeSteps = refl
told_behind heading gathered Alignable Steps = refl
told_behind heading gathered Alignable Word = refl
told_behind heading gathered Alignable Equal = refl
told_behind heading gathered Alignable StateA = refl
told_behind heading gathered Alignable StateB = refl
told_behind heading gathered Alignable Blocked = refl
told_behind heading gathered Alignable Freed = refl
told_behind heading gathered Alignable SplitLog = refl
told_behind heading gathered Alignable LandLog = refl
told_behind heading gathered Alignable EscapeLog = refl
told_behind heading gathered Alignable StuckLog = refl
told_behind heading gathered Alignable Journal = refl
told_behind heading gathered Unknown FreeSteps = refl
told_behind heading gathered Unknown Steps = refl
told_behind heading gathered Unknown Word = refl
told_behind heading gathered Unknown Equal = refl
told_behind heading gathered Unknown StateA = refl
told_behind heading gathered Unknown StateB = refl
told_behind heading gathered Unknown Blocked = refl
told_behind heading gathered Unknown Freed = refl
told_behind heading gathered Unknown SplitLog = refl
told_behind heading gathered Unknown LandLog = refl
told_behind heading gathered Unknown EscapeLog = refl
told_behind heading gathered Unknown StuckLog = refl
told_behind heading gathered Unknown Journal = refl

told_by : (x : Bool) (heading : Heading) (gathered : Gathered) (kind : CertKind) (section : Section) (left : ℕ)
    → told heading gathered (if x then stage_behind kind section else Items section left) ≡ shown heading gathered (if x then stage_behind kind section else Items section left)
told_by true heading gathered kind section left = told_behind heading gathered kind section
told_by false heading gathered kind section left = refl

pub told_with : (heading : Heading) (gathered : Gathered) (kind : CertKind) (section : Section) (left : ℕ) → told heading gathered (stage_with kind section left) ≡ shown heading gathered (stage_with kind section left)
told_with heading gathered kind section left = told_by (left == 0) heading gathered kind section left

-- what is told is all that the next line looks at
pub taken_told : (heading : Heading) (gathered : Gathered) (stage : Stage) (number : ℕ) (line : List ℕ)
    → taken (told heading gathered stage).heading (told heading gathered stage).gathered (told heading gathered stage).stage number line ≡ taken heading gathered stage number line
taken_told heading gathered (Head due) number line = refl
taken_told heading gathered (Begin section) number line = refl
taken_told heading gathered (Items section left) number line = refl
taken_told heading gathered Endless number line = refl
taken_told heading gathered End number line = refl
taken_told heading gathered Closed number line = refl
taken_told heading gathered BadHead number line = refl
taken_told heading gathered (Bad first) number line = refl

-- what is due is told
pub told_stage : (heading : Heading) (gathered : Gathered) (stage : Stage) → (told heading gathered stage).stage ≡ stage
told_stage heading gathered (Head due) = refl
told_stage heading gathered (Begin section) = refl
told_stage heading gathered (Items section left) = refl
told_stage heading gathered Endless = refl
told_stage heading gathered End = refl
told_stage heading gathered Closed = refl
told_stage heading gathered BadHead = refl
told_stage heading gathered (Bad first) = refl

pub name_told : (heading : Heading) (gathered : Gathered) (stage : Stage) (number : ℕ) (name : List ℕ)
    → name_taken (told heading gathered stage).heading (told heading gathered stage).gathered (told heading gathered stage).stage number name ≡ name_taken heading gathered stage number name
name_told heading gathered (Head Version) number name = refl
name_told heading gathered (Head Form) number name = refl
name_told heading gathered (Head Clock) number name = refl
name_told heading gathered (Head Registers) number name = refl
name_told heading gathered (Head Inputs) number name = refl
name_told heading gathered (Head Outputs) number name = refl
name_told heading gathered (Head Kind) number name = refl
name_told heading gathered (Begin section) number name = refl
name_told heading gathered (Items section left) number name = refl
name_told heading gathered Endless number name = refl
name_told heading gathered End number name = refl
name_told heading gathered Closed number name = refl
name_told heading gathered BadHead number name = refl
name_told heading gathered (Bad first) number name = refl

pub literals_told : (heading : Heading) (gathered : Gathered) (stage : Stage) (number : ℕ) (clause : List ℤ)
    → clause_read (told heading gathered stage).heading (told heading gathered stage).gathered (told heading gathered stage).stage number clause ≡ clause_read heading gathered stage number clause
literals_told heading gathered (Head due) number clause = refl
literals_told heading gathered (Begin section) number clause = refl
literals_told heading gathered (Items section left) number clause = refl
literals_told heading gathered Endless number clause = refl
literals_told heading gathered End number clause = refl
literals_told heading gathered Closed number clause = refl
literals_told heading gathered BadHead number clause = refl
literals_told heading gathered (Bad first) number clause = refl
