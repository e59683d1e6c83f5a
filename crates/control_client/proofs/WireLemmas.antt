-- What a wire logged in two times, one after the other.
use Rattle.std.proofs.Common.{◌∙◌, ◌++◌, List, None, Option, Some, [], ap, append-nil, append_assoc, sym}
use Rattle.control_client.specs.Wire.{Event, Logs}

pub logs_nothing : (log : Option (List Event)) → Logs log log []
logs_nothing None = tt
logs_nothing (Some events) = sym (append-nil events)

pub logs_more : (before mid after : Option (List Event)) (first then : List Event) → Logs before mid first → Logs mid after then → Logs before after (first ++ then)
logs_more None mid after first then one two = tt
logs_more (Some a) None after first then one two = absurd one
logs_more (Some a) (Some b) None first then one two = absurd two
logs_more (Some a) (Some b) (Some c) first then one two = two ∙ (ap (λ (all : List Event). all ++ then) one ∙ append_assoc a first then)
