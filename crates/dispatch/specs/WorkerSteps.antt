-- The steps of a batch on the table: those of its worker, and no other actor's (docs/TABLE.md, "The eight steps").
use Rattle.std.specs.Prelude.{◌≡◌, ◌++◌, List}
use Rattle.std.specs.List.{All}
use Rattle.read_section.specs.Worker.{WorkerValue}
use Rattle.versions.specs.declared.step.Entry.{Entry}
use Rattle.versions.specs.Step.{IsStepOf}

-- the log of a worker goes on by steps of that worker: peeks, announces, pins, fetches and leaves, and no fill, publish or scan
pub record AddsOwnSteps (before after : WorkerValue) : Type 0 where
  pub number : after.view.number ≡ before.view.number
  pub newer : List Entry
  pub log : after.view.log ≡ newer ++ before.view.log
  pub own : All (λ (entry : Entry). IsStepOf before.view.number entry.step) newer
