-- A turn of the front, one receive after the other.
use Rattle.std.proofs.Common.{◌≡◌, ◌≤◌, ◌∙◌, ◌+◌, ◌++◌, ◌∷◌, List, None, Option, Some, [], ap, arith, length, length-append, length-take-le, map, option_map, refl, subst, sym, take, take_all, true, ℕ}
use Rattle.std.proofs.lemmas.List.{map-append}
use Rattle.dispatch.specs.Device.{Takes}
use Rattle.dispatch.proofs.DeviceLemmas.{takes_more, takes_nothing}
use Rattle.serve_devices.specs.Ingress.{cut_to}
use Rattle.serve_devices.specs.Queues.{HandsOn, QueuesValue, next_turn}
use Rattle.serve_udp.specs.FrontTurn.{AreHandedOn, CameBy, FrontEvent, came, none, one_more}
use Rattle.serve_udp.specs.declared.front_turn.Arrived.TheVariants.{Datagram}
use Rattle.serve_udp.specs.body.FrontTurns.{HandsOne, IsFrontBegun}

-- what was received of a datagram is what there is room for, and that was handed on
pub handed_whole : (log log' : Option (List FrontEvent)) (before after : QueuesValue) (room size : ℕ) (buffer bytes : List ℕ) → length buffer ≡ room
    → CameBy log log' (Datagram size) buffer → bytes ≡ take size buffer → HandsOn before after (Some bytes) → after.turn ≡ next_turn before
    → HandsOne room log log' before after true
handed_whole log log' before after room size buffer bytes long (whole, logged, same) is handed turned = (
  Some whole,
  logged,
  subst (λ cut. HandsOn before after (Some cut)) (is ∙ same ∙ ap (λ (n : ℕ). take n whole) long) handed,
  turned,
)

-- a datagram of which no more is known
pub is_cut : (size : ℕ) (buffer : List ℕ) → size ≤ length buffer → CameBy None None (Datagram size) buffer
is_cut size buffer within =
    let long = length-take-le size buffer within in
    (take size buffer, tt, sym (take_all (length buffer) (take size buffer) (omega (arith, long, within))))

-- no receive was made yet
pub front_begins : (room : ℕ) (log : Option (List FrontEvent)) (before : QueuesValue) → IsFrontBegun room 0 log log before before
front_begins room log before = record { receives = []; counted = refl; logged = takes_nothing log; handed_on = none before refl }

module _ (room count : ℕ) (log mid log' : Option (List FrontEvent)) (before between after : QueuesValue) (turn : IsFrontBegun room count log mid before between) where
  -- one receive more was handed on
  pub front_goes_on : HandsOne room mid log' between after true → IsFrontBegun room (count + 1) log log' before after
  front_goes_on (receive, logged, handed, turned) = record {
    receives = turn.receives ++ receive ∷ [];
    counted = length-append turn.receives (receive ∷ []) ∙ ap (λ (n : ℕ). n + 1) turn.counted;
    logged = subst (Takes log log') (sym (map-append came turn.receives (receive ∷ [])))
        (takes_more log mid log' (map came turn.receives) (came receive ∷ []) turn.logged logged);
    handed_on = subst (λ handed_now. AreHandedOn before handed_now after) (sym (map-append (option_map (take room)) turn.receives (receive ∷ [])))
        (one_more (cut_to room turn.receives) (option_map (take room) receive) between after turn.handed_on handed turned);
  }
