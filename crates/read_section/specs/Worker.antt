-- What a contract sees of a Worker.
use Rattle.std.specs.Prelude.{◌≡◌, ◌+◌, ◌/◌, List, ℕ}
use Rattle.atomic_table.specs.Seated.{TableId}
use Rattle.config_image.specs.Image.{Group}
use Rattle.versions.specs.declared.view.Stage.{Stage}
use Rattle.versions.specs.declared.view.Stage.TheVariants.{Announced, Inside, Outside, Peeked}
use Rattle.versions.specs.declared.view.WorkerView.{WorkerView}
use Rattle.versions.specs.View.{after_announce, after_leave, after_peek, after_pin, read_word_of}
use Rattle.versions.specs.Table.{the_shape}
use Rattle.read_section.specs.View.{Shows}

-- the worker's table, and its knowledge
pub record WorkerValue : Type 0 where
  pub table : TableId
  pub view : WorkerView (List Group)

-- a worker after steps of its own
abbrev pub steps : (WorkerView (List Group) → WorkerView (List Group)) → WorkerValue → WorkerValue
steps after worker = record worker { view = after worker.view }

-- outside a section, and not between an announce and its pin
abbrev pub IsOutside : Stage → Type 0
IsOutside Outside = Unit {0}
IsOutside (Peeked n) = Unit {0}
IsOutside (Announced read_word) = ⊥
IsOutside (Inside read_word n r) = ⊥

-- inside a section of version n, which is in row r
abbrev pub IsInside : Stage → ℕ → ℕ → Type 0
IsInside stage n r = stage ≡ Inside (read_word_of stage) n r

abbrev pub left_from : Stage → WorkerView (List Group) → WorkerView (List Group)
left_from (Inside read_word n r) view = after_leave view
left_from _ view = view

-- a worker that is inside leaves; another makes no step
abbrev pub left : WorkerView (List Group) → WorkerView (List Group)
left view = left_from view.stage view

-- a worker enters: if an abandoned section left it inside it leaves; then it peeks, announces the version of that peek plus 1,
-- and pins. `peeked` and `pinned` are the words that it loaded, and `pages` those of the version that the pin loaded
pub record Enters (before after : WorkerValue) : Type 0 where
  pub peeked : ℕ
  pub pinned : ℕ
  pub seen_by_peek : List (List Group)
  pub seen_by_pin : List (List Group)
  pub pages : List ℕ
  pub peek_shows : Shows the_shape peeked seen_by_peek before.view.seen
  pub pin_shows : Shows the_shape pinned seen_by_pin seen_by_peek
  pub three_steps : after ≡ steps (λ view. after_pin the_shape.rows pinned seen_by_pin pages (after_announce (peeked / the_shape.rows + 1) (after_peek the_shape.rows peeked seen_by_peek (left view)))) before
