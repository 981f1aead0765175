-- What the lines so far are, by what was read of them.
use Rattle.std.proofs.Common.{◌≡◌, ◌+◌, ℕ, ℤ, Bool, List, [], ◌∷◌, ◌++◌, length, map, codes, refl}
use Rattle.std.specs.List.{flat_map}
use Rattle.rst_value.specs.declared.tern.Tern.{Tern}
use Rattle.rst_pair.specs.declared.hop.Hop.{Hop}
use Rattle.rst_pair.specs.declared.journal.Entry.{Entry}
use Rattle.rst_certificate.specs.Words.{counted, bits_text}
use Rattle.rst_certificate.specs.CertText.{step_line, free_step_line, blocked_line, freed_line, clause_line, entry_line}
use Rattle.rst_cert_reader.specs.declared.heading.CertKind.{CertKind}
use Rattle.rst_cert_reader.specs.declared.heading.CertKind.TheVariants.{Known, Relation, Refuted, Never, Alignable, Unknown}
use Rattle.rst_cert_reader.specs.declared.gathered.Gathered.{Gathered}
use Rattle.rst_cert_reader.specs.declared.section.Section.{Section}
use Rattle.rst_cert_reader.specs.declared.section.Section.TheVariants.{FreeSteps, Steps, Word, Equal, StateA, StateB, Blocked, Freed, SplitLog, LandLog, EscapeLog, StuckLog, Journal}
use Rattle.rst_cert_reader.specs.declared.stage.Stage.{Stage}
use Rattle.rst_cert_reader.specs.declared.stage.Stage.TheVariants.{Begin, End}
use Rattle.rst_cert_reader.specs.Readings.{stage_behind}

-- the lines of a section of which so many are left
abbrev pub section_lines : Section → Gathered → ℕ → List (List ℕ)
section_lines FreeSteps g left = counted (codes "sequence") (length g.seq + left) ∷ map free_step_line g.seq
section_lines Steps g left = counted (codes "sequence") (length g.plain + left) ∷ map step_line g.plain
section_lines Word g left = counted (codes "word") (length g.word + left) ∷ map step_line g.word
section_lines Equal g left = (codes "equal " ++ bits_text g.equal) ∷ []
section_lines StateA g left = (codes "a " ++ bits_text g.a) ∷ []
section_lines StateB g left = (codes "b " ++ bits_text g.b) ∷ []
section_lines Blocked g left = counted (codes "blocked") (length g.blocked + left) ∷ map blocked_line g.blocked
section_lines Freed g left = counted (codes "freed") (length g.freed + left) ∷ map freed_line g.freed
section_lines SplitLog g left = counted (codes "log split") (length g.first + left) ∷ map clause_line g.first
section_lines LandLog g left = counted (codes "log land") (length g.second + left) ∷ map clause_line g.second
section_lines EscapeLog g left = counted (codes "log escape") (length g.first + left) ∷ map clause_line g.first
section_lines StuckLog g left = counted (codes "log stuck") (length g.second + left) ∷ map clause_line g.second
section_lines Journal g left = counted (codes "journal") (length g.journal + left) ∷ map entry_line g.journal

abbrev pub lines_of : List Section → Gathered → List (List ℕ)
lines_of sections g = flat_map (λ section. section_lines section g 0) sections

-- the sections before one of a kind
abbrev pub before : CertKind → Section → List Section
before Known FreeSteps = []
before Known _ = []
before Relation FreeSteps = []
before Relation Equal = FreeSteps ∷ []
before Relation Blocked = FreeSteps ∷ Equal ∷ []
before Relation SplitLog = FreeSteps ∷ Equal ∷ Blocked ∷ []
before Relation LandLog = FreeSteps ∷ Equal ∷ Blocked ∷ SplitLog ∷ []
before Relation _ = []
before Refuted Steps = []
before Refuted Word = Steps ∷ StateA ∷ StateB ∷ []
before Refuted StateA = Steps ∷ []
before Refuted StateB = Steps ∷ StateA ∷ []
before Refuted _ = []
before Never StateA = []
before Never StateB = StateA ∷ []
before Never Blocked = StateA ∷ StateB ∷ []
before Never Freed = StateA ∷ StateB ∷ Blocked ∷ []
before Never EscapeLog = StateA ∷ StateB ∷ Blocked ∷ Freed ∷ []
before Never _ = []
before Alignable Steps = []
before Alignable Word = Steps ∷ StateA ∷ StateB ∷ []
before Alignable StateA = Steps ∷ []
before Alignable StateB = Steps ∷ StateA ∷ []
before Alignable Blocked = Steps ∷ StateA ∷ StateB ∷ Word ∷ []
before Alignable Freed = Steps ∷ StateA ∷ StateB ∷ Word ∷ Blocked ∷ []
before Alignable SplitLog = Steps ∷ StateA ∷ StateB ∷ Word ∷ Blocked ∷ Freed ∷ []
before Alignable StuckLog = Steps ∷ StateA ∷ StateB ∷ Word ∷ Blocked ∷ Freed ∷ SplitLog ∷ []
before Alignable _ = []
before Unknown Equal = []
before Unknown Journal = Equal ∷ []
before Unknown _ = []

-- all the sections of a kind
abbrev pub all_of : CertKind → List Section
all_of Known = FreeSteps ∷ []
all_of Relation = FreeSteps ∷ Equal ∷ Blocked ∷ SplitLog ∷ LandLog ∷ []
all_of Refuted = Steps ∷ StateA ∷ StateB ∷ Word ∷ []
all_of Never = StateA ∷ StateB ∷ Blocked ∷ Freed ∷ EscapeLog ∷ []
all_of Alignable = Steps ∷ StateA ∷ StateB ∷ Word ∷ Blocked ∷ Freed ∷ SplitLog ∷ StuckLog ∷ []
all_of Unknown = Equal ∷ Journal ∷ []

-- the section is one of the kind's
abbrev pub IsOf : CertKind → Section → Type 0
IsOf Known FreeSteps = Unit {0}
IsOf Known _ = ⊥
IsOf Relation FreeSteps = Unit {0}
IsOf Relation Equal = Unit {0}
IsOf Relation Blocked = Unit {0}
IsOf Relation SplitLog = Unit {0}
IsOf Relation LandLog = Unit {0}
IsOf Relation _ = ⊥
IsOf Refuted Steps = Unit {0}
IsOf Refuted StateA = Unit {0}
IsOf Refuted StateB = Unit {0}
IsOf Refuted Word = Unit {0}
IsOf Refuted _ = ⊥
IsOf Never StateA = Unit {0}
IsOf Never StateB = Unit {0}
IsOf Never Blocked = Unit {0}
IsOf Never Freed = Unit {0}
IsOf Never EscapeLog = Unit {0}
IsOf Never _ = ⊥
IsOf Alignable Steps = Unit {0}
IsOf Alignable StateA = Unit {0}
IsOf Alignable StateB = Unit {0}
IsOf Alignable Word = Unit {0}
IsOf Alignable Blocked = Unit {0}
IsOf Alignable Freed = Unit {0}
IsOf Alignable SplitLog = Unit {0}
IsOf Alignable StuckLog = Unit {0}
IsOf Alignable _ = ⊥
IsOf Unknown Equal = Unit {0}
IsOf Unknown Journal = Unit {0}
IsOf Unknown _ = ⊥

-- the stage behind a section is that behind its lines
abbrev pub FollowsOn : CertKind → List Section → Stage → Type 0
FollowsOn kind sections (Begin section) = (before kind section ≡ sections) × IsOf kind section
FollowsOn kind sections End = all_of kind ≡ sections
FollowsOn kind sections _ = ⊥

pub follows_on : (kind : CertKind) (section : Section) → IsOf kind section → FollowsOn kind (before kind section ++ section ∷ []) (stage_behind kind section)
follows_on Known FreeSteps h = refl
follows_on Known Steps h = absurd h
follows_on Known Word h = absurd h
follows_on Known Equal h = absurd h
follows_on Known StateA h = absurd h
follows_on Known StateB h = absurd h
follows_on Known Blocked h = absurd h
follows_on Known Freed h = absurd h
follows_on Known SplitLog h = absurd h
follows_on Known LandLog h = absurd h
follows_on Known EscapeLog h = absurd h
follows_on Known StuckLog h = absurd h
follows_on Known Journal h = absurd h
follows_on Relation FreeSteps h = (refl, tt)
follows_on Relation Steps h = absurd h
follows_on Relation Word h = absurd h
follows_on Relation Equal h = (refl, tt)
follows_on Relation StateA h = absurd h
follows_on Relation StateB h = absurd h
follows_on Relation Blocked h = (refl, tt)
follows_on Relation Freed h = absurd h
follows_on Relation SplitLog h = (refl, tt)
follows_on Relation LandLog h = refl
follows_on Relation EscapeLog h = absurd h
follows_on Relation StuckLog h = absurd h
follows_on Relation Journal h = absurd h
follows_on Refuted FreeSteps h = absurd h
follows_on Refuted Steps h = (refl, tt)
follows_on Refuted Word h = refl
follows_on Refuted Equal h = absurd h
follows_on Refuted StateA h = (refl, tt)
follows_on Refuted StateB h = (refl, tt)
follows_on Refuted Blocked h = absurd h
follows_on Refuted Freed h = absurd h
follows_on Refuted SplitLog h = absurd h
follows_on Refuted LandLog h = absurd h
follows_on Refuted EscapeLog h = absurd h
follows_on Refuted StuckLog h = absurd h
follows_on Refuted Journal h = absurd h
follows_on Never FreeSteps h = absurd h
follows_on Never Steps h = absurd h
follows_on Never Word h = absurd h
follows_on Never Equal h = absurd h
follows_on Never StateA h = (refl, tt)
follows_on Never StateB h = (refl, tt)
follows_on Never Blocked h = (refl, tt)
follows_on Never Freed h = (refl, tt)
follows_on Never SplitLog h = absurd h
follows_on Never LandLog h = absurd h
follows_on Never EscapeLog h = refl
follows_on Never StuckLog h = absurd h
follows_on Never Journal h = absurd h
follows_on Alignable FreeSteps h = absurd h
follows_on Alignable Steps h = (refl, tt)
follows_on Alignable Word h = (refl, tt)
follows_on Alignable Equal h = absurd h
follows_on Alignable StateA h = (refl, tt)
follows_on Alignable StateB h = (refl, tt)
follows_on Alignable Blocked h = (refl, tt)
follows_on Alignable Freed h = (refl, tt)
follows_on Alignable SplitLog h = (refl, tt)
follows_on Alignable LandLog h = absurd h
follows_on Alignable EscapeLog h = absurd h
follows_on Alignable StuckLog h = refl
follows_on Alignable Journal h = absurd h
follows_on Unknown FreeSteps h = absurd h
follows_on Unknown Steps h = absurd h
follows_on Unknown Word h = absurd h
follows_on Unknown Equal h = (refl, tt)
follows_on Unknown StateA h = absurd h
follows_on Unknown StateB h = absurd h
follows_on Unknown Blocked h = absurd h
follows_on Unknown Freed h = absurd h
follows_on Unknown SplitLog h = absurd h
follows_on Unknown LandLog h = absurd h
follows_on Unknown EscapeLog h = absurd h
follows_on Unknown StuckLog h = absurd h
follows_on Unknown Journal h = refl

pub keeps_freesteps : (kind : CertKind) (g : Gathered) (v : List (List Tern)) → IsOf kind FreeSteps → lines_of (before kind FreeSteps) (record g { seq = v }) ≡ lines_of (before kind FreeSteps) g
keeps_freesteps Known g v h = refl
keeps_freesteps Relation g v h = refl
keeps_freesteps Refuted g v h = absurd h
keeps_freesteps Never g v h = absurd h
keeps_freesteps Alignable g v h = absurd h
keeps_freesteps Unknown g v h = absurd h

pub keeps_steps : (kind : CertKind) (g : Gathered) (v : List (List Bool)) → IsOf kind Steps → lines_of (before kind Steps) (record g { plain = v }) ≡ lines_of (before kind Steps) g
keeps_steps Known g v h = absurd h
keeps_steps Relation g v h = absurd h
keeps_steps Refuted g v h = refl
keeps_steps Never g v h = absurd h
keeps_steps Alignable g v h = refl
keeps_steps Unknown g v h = absurd h

pub keeps_word : (kind : CertKind) (g : Gathered) (v : List (List Bool)) → IsOf kind Word → lines_of (before kind Word) (record g { word = v }) ≡ lines_of (before kind Word) g
keeps_word Known g v h = absurd h
keeps_word Relation g v h = absurd h
keeps_word Refuted g v h = refl
keeps_word Never g v h = absurd h
keeps_word Alignable g v h = refl
keeps_word Unknown g v h = absurd h

pub keeps_equal : (kind : CertKind) (g : Gathered) (v : List Bool) (m : ℕ) → IsOf kind Equal → lines_of (before kind Equal) (record g { equal = v; marked = m }) ≡ lines_of (before kind Equal) g
keeps_equal Known g v m h = absurd h
keeps_equal Relation g v m h = refl
keeps_equal Refuted g v m h = absurd h
keeps_equal Never g v m h = absurd h
keeps_equal Alignable g v m h = absurd h
keeps_equal Unknown g v m h = refl

pub keeps_statea : (kind : CertKind) (g : Gathered) (v : List Bool) → IsOf kind StateA → lines_of (before kind StateA) (record g { a = v }) ≡ lines_of (before kind StateA) g
keeps_statea Known g v h = absurd h
keeps_statea Relation g v h = absurd h
keeps_statea Refuted g v h = refl
keeps_statea Never g v h = refl
keeps_statea Alignable g v h = refl
keeps_statea Unknown g v h = absurd h

pub keeps_stateb : (kind : CertKind) (g : Gathered) (v : List Bool) → IsOf kind StateB → lines_of (before kind StateB) (record g { b = v }) ≡ lines_of (before kind StateB) g
keeps_stateb Known g v h = absurd h
keeps_stateb Relation g v h = absurd h
keeps_stateb Refuted g v h = refl
keeps_stateb Never g v h = refl
keeps_stateb Alignable g v h = refl
keeps_stateb Unknown g v h = absurd h

pub keeps_blocked : (kind : CertKind) (g : Gathered) (v : List Hop) → IsOf kind Blocked → lines_of (before kind Blocked) (record g { blocked = v }) ≡ lines_of (before kind Blocked) g
keeps_blocked Known g v h = absurd h
keeps_blocked Relation g v h = refl
keeps_blocked Refuted g v h = absurd h
keeps_blocked Never g v h = refl
keeps_blocked Alignable g v h = refl
keeps_blocked Unknown g v h = absurd h

pub keeps_freed : (kind : CertKind) (g : Gathered) (v : List Hop) → IsOf kind Freed → lines_of (before kind Freed) (record g { freed = v }) ≡ lines_of (before kind Freed) g
keeps_freed Known g v h = absurd h
keeps_freed Relation g v h = absurd h
keeps_freed Refuted g v h = absurd h
keeps_freed Never g v h = refl
keeps_freed Alignable g v h = refl
keeps_freed Unknown g v h = absurd h

pub keeps_splitlog : (kind : CertKind) (g : Gathered) (v : List (List ℤ)) → IsOf kind SplitLog → lines_of (before kind SplitLog) (record g { first = v }) ≡ lines_of (before kind SplitLog) g
keeps_splitlog Known g v h = absurd h
keeps_splitlog Relation g v h = refl
keeps_splitlog Refuted g v h = absurd h
keeps_splitlog Never g v h = absurd h
keeps_splitlog Alignable g v h = refl
keeps_splitlog Unknown g v h = absurd h

pub keeps_landlog : (kind : CertKind) (g : Gathered) (v : List (List ℤ)) → IsOf kind LandLog → lines_of (before kind LandLog) (record g { second = v }) ≡ lines_of (before kind LandLog) g
keeps_landlog Known g v h = absurd h
keeps_landlog Relation g v h = refl
keeps_landlog Refuted g v h = absurd h
keeps_landlog Never g v h = absurd h
keeps_landlog Alignable g v h = absurd h
keeps_landlog Unknown g v h = absurd h

pub keeps_escapelog : (kind : CertKind) (g : Gathered) (v : List (List ℤ)) → IsOf kind EscapeLog → lines_of (before kind EscapeLog) (record g { first = v }) ≡ lines_of (before kind EscapeLog) g
keeps_escapelog Known g v h = absurd h
keeps_escapelog Relation g v h = absurd h
keeps_escapelog Refuted g v h = absurd h
keeps_escapelog Never g v h = refl
keeps_escapelog Alignable g v h = absurd h
keeps_escapelog Unknown g v h = absurd h

pub keeps_stucklog : (kind : CertKind) (g : Gathered) (v : List (List ℤ)) → IsOf kind StuckLog → lines_of (before kind StuckLog) (record g { second = v }) ≡ lines_of (before kind StuckLog) g
keeps_stucklog Known g v h = absurd h
keeps_stucklog Relation g v h = absurd h
keeps_stucklog Refuted g v h = absurd h
keeps_stucklog Never g v h = absurd h
keeps_stucklog Alignable g v h = refl
keeps_stucklog Unknown g v h = absurd h

pub keeps_journal : (kind : CertKind) (g : Gathered) (v : List Entry) (m k : ℕ) → IsOf kind Journal → lines_of (before kind Journal) (record g { journal = v; blocked_entries = m; freed_entries = k }) ≡ lines_of (before kind Journal) g
keeps_journal Known g v m k h = absurd h
keeps_journal Relation g v m k h = absurd h
keeps_journal Refuted g v m k h = absurd h
keeps_journal Never g v m k h = absurd h
keeps_journal Alignable g v m k h = absurd h
keeps_journal Unknown g v m k h = refl
