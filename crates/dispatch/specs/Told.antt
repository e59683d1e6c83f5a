-- The notes that an outbox takes of the datagrams of a batch, in order (docs/SWITCH.md, "Devices").
use Rattle.std.specs.Prelude.{◌≡◌, ◌++◌, ◌∷◌, ◌⊎◌, Bool, Err, List, Ok, Option, Result, [], false, flat_map, true, ℕ}
use Rattle.dispatch.specs.declared.batches.BatchDone.{BatchDone}
use Rattle.dispatch.specs.declared.batches.BatchFault.{BatchFault}
use Rattle.dispatch.specs.declared.batches.BatchFault.TheVariants as fault
use Rattle.packet_verdict.specs.declared.verdict.Verdict.{Verdict}
use Rattle.dispatch.specs.Batch.{FailsToReceive, IsBatch, IsCutShort, Judged, Parts}
use Rattle.dispatch.specs.Device.{Takes}

-- the verdict of a packet, or that the send of the last verdict failed
pub data Told : Type 0 where
  judged_as : Verdict → List ℕ → Told
  send_failed : Told

-- the notes of a send
abbrev pub told_by_send : {A E : Type 0} → Result A E → List Told
told_by_send (Ok done) = []
told_by_send (Err fault) = send_failed ∷ []

abbrev pub failure_told : Bool → List Told
failure_told true = send_failed ∷ []
failure_told false = []

-- the notes of a datagram: its verdict, and then its send, if that failed
abbrev pub told_of : Judged → List Told
told_of judged = judged_as judged.verdict judged.packet ∷ failure_told judged.failed

abbrev pub all_told : List Judged → List Told
all_told judged = flat_map told_of judged

-- the same for a datagram whose verdict, or whose failed send, could not be counted: there is no note of a verdict that is not counted
abbrev pub told_of_last : Judged → List Told
told_of_last judged = told_if judged.failed
  where
    told_if : Bool → List Told
    told_if true = told_of judged
    told_if false = []

-- the notes at the end of a batch
abbrev pub IsToldAtEnd : ℕ → Parts → Parts → Result BatchDone BatchFault → List Told → Type 0
IsToldAtEnd room before after (Ok done) told = told ≡ []
IsToldAtEnd room before after (Err fault.ReceiveFailed) told = told ≡ []
IsToldAtEnd room before after (Err fault.CountFull) told =
    (FailsToReceive room before after × (told ≡ [])) ⊎ ((last : Judged) × IsCutShort room before after last × (told ≡ told_of_last last))

-- a batch, whose outbox took note of each datagram once, in their order, and of nothing else
pub record IsToldBatch (room limit : ℕ) (before after : Parts) (result : Result BatchDone BatchFault) (told told' : Option (List Told)) : Type 0 where
  pub batch : IsBatch room limit before after result
  pub last : List Told
  pub at_end : IsToldAtEnd room batch.last after result last
  pub told_once : Takes told told' (all_told batch.judged ++ last)
