-- What a contract sees of a Section: its worker, and the parts of it that do not change while its words are read.
use Rattle.std.specs.Prelude.{◌≡◌, ◌++◌, ◌∷◌, List, [], length, slice_index_or, ℕ}
use Rattle.std.specs.Borrow.{GName}
use Rattle.std.specs.List.{Contains}
use Rattle.config_image.specs.Image.{Group, row}
use Rattle.config_image.specs.Lookup.{BeginsWithImage}
use Rattle.versions.specs.declared.step.Step.{Step}
use Rattle.versions.specs.declared.step.Step.TheVariants.{Fetch, Leave}
use Rattle.versions.specs.declared.step.Entry.{Entry}
use Rattle.versions.specs.declared.view.WorkerView.{WorkerView}
use Rattle.versions.specs.declared.view.Stage.{Stage}
use Rattle.versions.specs.declared.view.Stage.TheVariants.{Inside, Outside}
use Rattle.versions.specs.Step.{entry}
use Rattle.versions.specs.Safety.{IsHeldPlace}
use Rattle.versions.specs.Table.{the_shape}
use Rattle.read_section.specs.declared.section.Section.{Section}
use Rattle.read_section.specs.Layout.{IsPublishable}
use Rattle.read_section.specs.Worker.{Enters, WorkerValue, left, steps}

-- the worker whose section it is
abbrev pub worker_of : Section → WorkerValue
worker_of section = section.worker.now

-- the name of the borrow of that worker, which ends with the section
abbrev pub borrow_of : Section → GName
borrow_of section = section.worker.ghost_name

-- the places whose words are ready: those of the extent that was made ready last
abbrev pub ready_from : Section → ℕ
ready_from section = section.kept.extent.at

abbrev pub ready_to : Section → ℕ
ready_to section = section.kept.extent.end

-- how much further its words are in the table than in the image
abbrev pub shift_of : Section → ℕ
shift_of section = section.kept.extent.shift

abbrev pub version_of : Stage → ℕ
version_of (Inside read_word n r) = n
version_of _ = 0

-- the number of the version that a worker holds; 0 for none
abbrev pub held_version : WorkerValue → ℕ
held_version worker = version_of worker.view.stage

abbrev pub words_in : Stage → List (List Group) → List ℕ
words_in (Inside read_word n r) seen = row (slice_index_or seen n [])
words_in _ seen = []

-- the row of the version that a worker holds, as it has seen it: the image and zeros after it. There are no words if it holds
-- none
abbrev pub held_words : WorkerValue → List ℕ
held_words worker = words_in worker.view.stage worker.view.seen

abbrev pub before_fetch : Step → List Entry → List Entry → List Entry
before_fetch (Fetch w place) log older = older
before_fetch _ log older = log

-- a log without the fetches that it ends with
abbrev pub before_fetches : List Entry → List Entry
before_fetches [] = []
before_fetches (newest ∷ older) = before_fetch newest.step (newest ∷ older) (before_fetches older)

-- a worker without the fetches that its log ends with: in a section, as it was at the pin, since no peek comes there
abbrev pub at_pin : WorkerValue → WorkerValue
at_pin worker = record worker { view = record worker.view { log = before_fetches worker.view.log } }

-- the parts that do not change while a section's words are read: its worker, and all of that worker except fetches
pub record SectionRest : Type 0 where
  pub borrow : GName
  pub pinned : WorkerValue

abbrev pub section_rest : Section → SectionRest
section_rest section = record { borrow = borrow_of section; pinned = at_pin (worker_of section) }

-- the step is a fetch of the worker, of a word of the version that it holds
abbrev pub IsFetchIn : WorkerView (List Group) → Step → Type 0
IsFetchIn view step = (place : ℕ) × (step ≡ Fetch view.number place) × IsHeldPlace the_shape view place

-- the fetches that a worker's log ends with are of words of the version that it holds
pub record EndsInFetches (worker : WorkerValue) : Type 0 where
  pub fetches : List Entry
  pub log : worker.view.log ≡ fetches ++ (at_pin worker).view.log
  pub each : (read_word n r : ℕ) (entry : Entry) → worker.view.stage ≡ Inside read_word n r → Contains fetches entry → IsFetchIn worker.view entry.step

-- a worker holds the version that it has seen last, which is a configuration; its row begins with the image of that
pub record HoldsLastSeen (worker : WorkerValue) : Type 0 where
  pub config : List Group
  pub older : List (List Group)
  pub last_seen : worker.view.seen ≡ older ++ config ∷ []
  pub number : held_version worker ≡ length older
  pub publishable : IsPublishable config
  pub row_is : held_words worker ≡ row config
  pub image : BeginsWithImage (held_words worker) config

-- a worker entered, which left it inside, made fetches of words of the version that it held, and left: these steps and no others
pub record IsWholeSection (before inside after : WorkerValue) : Type 0 where
  pub entered : Enters before inside
  pub fetches : List Entry
  pub each : (read_word n r : ℕ) (entry : Entry) → inside.view.stage ≡ Inside read_word n r → Contains fetches entry → IsFetchIn inside.view entry.step
  pub log : after.view.log ≡ entry (Leave inside.view.number) 0 ∷ (fetches ++ inside.view.log)
  pub outside : after.view.stage ≡ Outside
  pub seen : after.view.seen ≡ inside.view.seen
  pub number : after.view.number ≡ inside.view.number
  pub table : after.table ≡ before.table

-- `enter`, reads that keep the section's rest, and `leave` together are a whole section
abbrev pub SectionsAreWhole : Type 0
SectionsAreWhole =
    (before inside last after : WorkerValue) → Enters before inside → at_pin last ≡ at_pin inside → EndsInFetches last → after ≡ steps left last → IsWholeSection before inside after
