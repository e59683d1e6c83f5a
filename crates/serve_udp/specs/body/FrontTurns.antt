-- A turn of the front, one receive after the other.
use Rattle.std.specs.Prelude.{◌≡◌, ◌∷◌, Bool, List, Option, [], false, length, map, option_map, take, true, ℕ}
use Rattle.dispatch.specs.Device.{Takes}
use Rattle.serve_devices.specs.Ingress.{Receive, cut_to}
use Rattle.serve_devices.specs.Queues.{HandsOn, QueuesValue, next_turn}
use Rattle.serve_udp.specs.FrontTurn.{AreHandedOn, FrontEvent, came, none_came}

-- one receive was made and handed on, or nothing came
abbrev pub HandsOne : ℕ → Option (List FrontEvent) → Option (List FrontEvent) → QueuesValue → QueuesValue → Bool → Type 0
HandsOne room log log' before after true =
    (receive : Receive) × Takes log log' (came receive ∷ []) × HandsOn before after (option_map (take room) receive) × (after.turn ≡ next_turn before)
HandsOne room log log' before after false = Takes log log' (none_came ∷ []) × (after ≡ before)

-- so many receives of a turn were made
pub record IsFrontBegun (room count : ℕ) (log log' : Option (List FrontEvent)) (before after : QueuesValue) : Type 0 where
  pub receives : List Receive
  pub counted : length receives ≡ count
  pub logged : Takes log log' (map came receives)
  pub handed_on : AreHandedOn before (cut_to room receives) after
