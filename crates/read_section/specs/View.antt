-- The versions that loads of `current` show a worker, and the logs that scans show the operator.
use Rattle.std.specs.Prelude.{◌≡◌, ◌/◌, List, length, suc, ℕ}
use mathlib.Core.Option.{some}
use lib.ListN.{get_elem?}
use Rattle.versions.specs.declared.step.Entry.{Entry}
use Rattle.versions.specs.declared.view.OperatorView.{OperatorView}
use Rattle.versions.specs.Layout.{Shape}
use Rattle.versions.specs.View.{BeginsWith, BeginsWithLog, read_word_after}
use Rattle.versions.specs.Legal.{IsLogOf}

module _ {C : Type 0} (shape : Shape C) where
  -- a load of `current` that loaded x showed these versions, from 0 up to the one in x
  pub record Shows (x : ℕ) (seen before : List C) : Type 0 where
    pub up_to_version : length seen ≡ suc (x / shape.rows)
    pub goes_on : BeginsWith seen before

  -- a scan of worker w that loaded x shows this log of the worker: its own, in the order of a worker's steps, after which x is
  -- its read word, and beginning with the log that the operator's scan before showed
  pub record TellsLog (view : OperatorView C) (w x : ℕ) (log : List Entry) : Type 0 where
    pub own : IsLogOf shape w log
    pub read : x ≡ read_word_after log
    pub goes_on : (older : List Entry) → get_elem? view.scanned_logs w ≡ some older → BeginsWithLog log older
