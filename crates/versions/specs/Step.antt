-- The steps: the word of the table that each is on, and the actor that makes it.
use Rattle.std.specs.Prelude.{◌≡◌, ◌+◌, ℕ}
use Rattle.versions.specs.declared.step.Step.{Step}
use Rattle.versions.specs.declared.step.Step.TheVariants.{Announce, Fetch, Fill, Leave, Peek, Pin, Publish, Scan}
use Rattle.versions.specs.declared.step.Entry.{Entry}

abbrev pub entry : Step → ℕ → Entry
entry step word = record { step = step; word = word }

-- the one word that a step loads or stores
abbrev pub place_of : Step → ℕ
place_of (Peek w) = 0
place_of (Announce w) = 1 + w
place_of (Pin w) = 0
place_of (Fetch w place) = place
place_of (Leave w) = 1 + w
place_of (Fill place word) = place
place_of (Publish r) = 0
place_of (Scan place) = place

-- a step of worker w
abbrev pub IsStepOf : ℕ → Step → Type 0
IsStepOf w (Peek v) = v ≡ w
IsStepOf w (Announce v) = v ≡ w
IsStepOf w (Pin v) = v ≡ w
IsStepOf w (Fetch v place) = v ≡ w
IsStepOf w (Leave v) = v ≡ w
IsStepOf w (Fill place word) = ⊥
IsStepOf w (Publish r) = ⊥
IsStepOf w (Scan place) = ⊥

-- a worker's load of `current`
abbrev pub LoadsCurrent : Step → Type 0
LoadsCurrent (Peek w) = Unit {0}
LoadsCurrent (Pin w) = Unit {0}
LoadsCurrent _ = ⊥
