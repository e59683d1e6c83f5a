-- What single steps tell a worker of versions and words.
use Rattle.std.specs.Prelude.{◌≡◌, ◌/◌, List, ℕ}
use Rattle.std.specs.List.{Contains}
use Rattle.config_image.specs.Image.{Group}
use Rattle.versions.specs.declared.view.Stage.TheVariants.{Inside}
use Rattle.versions.specs.View.{last_pinned}
use Rattle.versions.specs.Safety.{IsOwnLog}
use Rattle.versions.specs.Table.{the_shape}
use Rattle.read_section.specs.Layout.{IsPublishable}
use Rattle.read_section.specs.View.{Shows}
use Rattle.read_section.specs.Worker.{WorkerValue}
use Rattle.read_section.specs.body.Plays.{TellsWord}

-- the worker's log is its own, in the order of a worker's steps
abbrev pub IsOwnLogOf : WorkerValue → Type 0
IsOwnLogOf worker = IsOwnLog the_shape worker.view.number worker.view

-- a load of `current` that gave x showed the worker these versions
pub record Sees (worker : WorkerValue) (x : ℕ) (seen : List (List Group)) : Type 0 where
  pub shows : Shows the_shape x seen worker.view.seen
  pub publishable : (config : List Group) → Contains seen config → IsPublishable config
  pub own_log : IsOwnLogOf worker

-- a pin gave x and these pages: where x has the version that the worker's pin before gave, the worker knew these pages already
abbrev pub KeepsPages : WorkerValue → ℕ → List ℕ → Type 0
KeepsPages worker x pages = x / the_shape.rows ≡ last_pinned the_shape.rows worker.view.log → pages ≡ worker.view.pages

-- x is the word that the version which the worker holds has at the place, if it has one there
abbrev pub SeesWord : WorkerValue → ℕ → ℕ → Type 0
SeesWord worker place x = (read_word n r : ℕ) → worker.view.stage ≡ Inside read_word n r → TellsWord the_shape worker.view.seen worker.view.pages n r place x
