-- One attempt to drain a member.
use Rattle.std.specs.Prelude.{◌≡◌, List, ℕ}
use Rattle.ipv4_fields.specs.declared.endpoint.Endpoint.{Endpoint}
use Rattle.bpf_verify.specs.Program.{ProgramValue}
use Rattle.member_group.specs.Group.{GroupOf}
use Rattle.member_group.specs.Over.{group_over}
use Rattle.member_group.specs.declared.command.Command.{Command}
use Rattle.control_rules.specs.Drain.{AreDraining, DrainIn, EndsDrain, IsDrainRefusal, IsNotSpread, SendsDrain}
use Rattle.control_rules.specs.History.{ClientValue}
use Rattle.control_rules.specs.Load.{IsAgain, IsEnd, IsPublishedReply}
use Rattle.control_rules.specs.Text.{changes_text}
use Rattle.control_rules.specs.declared.draining.DrainAttempt.{DrainAttempt}
use Rattle.control_rules.specs.declared.draining.DrainAttempt.TheVariants.{Again, Ended}
use Rattle.control_rules.specs.declared.draining.Drained.TheVariants as ended
use Rattle.control_rules.specs.declared.drain_refusal.DrainRefusal.TheVariants.{NotSpread, Unknown}
use Rattle.control_rules.specs.declared.planning.Plan.{Plan}
use Rattle.control_rules.specs.declared.planning.Plan.TheVariants as plan

-- a group by the words of its programs
abbrev pub group_words : GroupOf ProgramValue → GroupOf (List ℕ)
group_words group = group_over (λ program. program.words) group

-- the plan for the member at an index of a group
abbrev pub IsGroupPlan : GroupOf (List ℕ) → ℕ → Endpoint → ℕ → Plan → Type 0
IsGroupPlan group index key id (plan.Lines text) =
    (commands : List (Command (List ℕ))) × AreDraining group index key id commands × (text.items ≡ changes_text commands)
IsGroupPlan group index key id (plan.Refused (Unknown refusal)) = ⊥
IsGroupPlan group index key id (plan.Refused NotSpread) = IsNotSpread group index

-- the plan for the member of a number
abbrev pub IsPlan : List (GroupOf (List ℕ)) → Endpoint → ℕ → Plan → Type 0
IsPlan config key id (plan.Lines text) =
    (commands : List (Command (List ℕ))) × DrainIn config key id commands × (text.items ≡ changes_text commands)
IsPlan config key id (plan.Refused refusal) = IsDrainRefusal config key id refusal

-- the meaning of a reply to the change
abbrev pub IsDrainReplyRead : List ℕ → DrainAttempt → Type 0
IsDrainReplyRead reply (Ended (ended.Published version)) = IsPublishedReply reply version
IsDrainReplyRead reply (Ended (ended.Refused text)) = (text.items ≡ reply) × IsEnd reply
IsDrainReplyRead reply (Ended (ended.Unsent refusal)) = ⊥
IsDrainReplyRead reply (Ended ended.Changed) = ⊥
IsDrainReplyRead reply (Again busy) = IsAgain reply

abbrev pub IsDrainAttempt : Endpoint → ℕ → ClientValue → ClientValue → DrainAttempt → Type 0
IsDrainAttempt key id before after (Ended drained) = EndsDrain key id before after drained
IsDrainAttempt key id before after (Again busy) = (reply : List ℕ) × SendsDrain key id before after reply × IsAgain reply
