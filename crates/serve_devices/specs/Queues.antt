-- What contracts see of a worker's queue, and of the queues of all workers.
use Rattle.std.specs.Prelude.{◌%◌, ◌+◌, ◌≡◌, ◌⊎◌, IsSome, List, None, Some, length, slice_get, slice_set, ℕ}
use Rattle.crossbeam_channel.specs.Ends.{receives_on}
use Rattle.serve_devices.specs.Channel.{AreOneChannel, HasPut, IsSameReceiver, IsSameSender, put_by, taken_from}
use Rattle.serve_devices.specs.Ingress.{Receive}
use Rattle.serve_devices.specs.declared.queue_ingress.QueueIngress.{QueueIngress}
use Rattle.serve_devices.specs.declared.worker_queues.WorkerQueue.{WorkerQueue}

-- what was put for the worker, in order
abbrev pub put_for : WorkerQueue → List Receive
put_for queue = put_by queue.arriving

-- its worker is not known to have ended
abbrev pub IsOpen : WorkerQueue → Type 0
IsOpen queue = queue.ended ≡ None

-- its worker is known to have ended
abbrev pub HasEnded : WorkerQueue → Type 0
HasEnded queue = IsSome queue.ended

-- this receive was put for the worker; or none was, since the worker has ended, or since memory for a datagram was refused. It becomes
-- known that the worker has ended only if the receive was not put
abbrev pub Arrives : WorkerQueue → WorkerQueue → Receive → Type 0
Arrives before after receive =
    (HasPut before.arriving after.arriving receive × (after.ended ≡ before.ended))
    ⊎ (IsSameSender before.arriving after.arriving × (HasEnded after ⊎ (IsSome receive × (after.ended ≡ before.ended))))

abbrev pub IsSameQueue : WorkerQueue → WorkerQueue → Type 0
IsSameQueue before after = IsSameSender before.arriving after.arriving × (after.ended ≡ before.ended)

module _ {R : Type 0} where
  -- what the end of a queue has given, in order
  abbrev pub given_by : QueueIngress R → List Receive
  given_by ingress = taken_from ingress.arriving

  abbrev pub AreOneQueue : QueueIngress R → WorkerQueue → Type 0
  AreOneQueue ingress queue = AreOneChannel queue.arriving ingress.arriving

  -- the end of the same queue, whatever it has given
  abbrev pub IsSameEnd : QueueIngress R → QueueIngress R → Type 0
  IsSameEnd before after = receives_on after.arriving.end ≡ receives_on before.arriving.end

  abbrev pub IsSameIngress : QueueIngress R → QueueIngress R → Type 0
  IsSameIngress before after = IsSameReceiver before.arriving after.arriving

-- the queue of each worker, and the worker whose turn it is, counted from 0
pub record QueuesValue : Type 0 where
  pub queues : List WorkerQueue
  pub turn : ℕ

-- it is the next worker's turn, after the last one's the first's
abbrev pub next_turn : QueuesValue → ℕ
next_turn queues = (queues.turn + 1) % length queues.queues

-- the receive was put for the worker whose turn it is, or for none, and nothing else was put
abbrev pub HandsOn : QueuesValue → QueuesValue → Receive → Type 0
HandsOn before after receive =
    (old new : WorkerQueue) × (slice_get before.queues before.turn ≡ Some old) × (after.queues ≡ slice_set before.queues before.turn new) × Arrives old new receive
