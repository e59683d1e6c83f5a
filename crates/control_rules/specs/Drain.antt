-- How a member is drained: the other members of its group take its buckets, and it leaves (docs/COMMANDS.md, "drain").
use Rattle.std.specs.Prelude.{◌≡◌, ◌++◌, ◌∷◌, List, None, Some, [], codes, decimal, length, slice_get, ℕ}
use Rattle.ipv4_fields.specs.declared.endpoint.Endpoint.{Endpoint}
use Rattle.config_diff.specs.Words.{words_config}
use Rattle.member_group.specs.Code.{command_code}
use Rattle.member_group.specs.Group.{GroupOf, group_of}
use Rattle.member_group.specs.Refusal.{first_refusal}
use Rattle.member_group.specs.declared.command.Command.{Command}
use Rattle.member_group.specs.declared.command.Command.TheVariants.{Leave, SetSelector}
use Rattle.member_group.specs.declared.member.Member.{Member}
use Rattle.fault_code.specs.Code.{plain}
use Rattle.fault_code.specs.declared.Code.{Code}
use Rattle.selector_buckets.specs.Buckets.{BucketsValue}
use Rattle.selector_buckets.specs.Drained.{CanDrain, drained}
use Rattle.selector_buckets.specs.Reading.{IsSelectorOf}
use Rattle.selector_buckets.specs.Words.{selector_words}
use Rattle.selector_buckets.specs.declared.hash.HashBy.{HashBy}
use Rattle.control_client.specs.Exchange.{Asks}
use Rattle.control_client.specs.Lines.{IsBlockOf, script_known}
use Rattle.control_rules.specs.Asked.{AskEndsBy}
use Rattle.control_rules.specs.Failing.{StopsAsking}
use Rattle.control_rules.specs.History.{ClientValue, IsReadLine, Learns}
use Rattle.control_rules.specs.Load.{IsAgain, IsEnd, IsPublishedReply}
use Rattle.control_rules.specs.Text.{changes_text}
use Rattle.control_rules.specs.declared.ask_failure.AskFailure.{AskFailure}
use Rattle.control_rules.specs.declared.ask_failure.AskFailure.TheVariants as failed
use Rattle.control_rules.specs.declared.draining.Drained.{Drained}
use Rattle.control_rules.specs.declared.draining.Drained.TheVariants.{Changed, Published, Refused, Unsent}
use Rattle.control_rules.specs.declared.drain_refusal.DrainRefusal.{DrainRefusal}
use Rattle.control_rules.specs.declared.drain_refusal.DrainRefusal.TheVariants.{NotSpread, Unknown}

-- ---- one group, by the words of its programs

-- the table without the member at an index
abbrev pub without_member : ℕ → ℕ → BucketsValue → BucketsValue
without_member count index buckets = record { depth = buckets.depth; members = drained count index buckets.members }

-- the commands that drain the member at an index of a group: the selector of the table without it, and the leave
pub record AreDraining (group : GroupOf (List ℕ)) (index : ℕ) (key : Endpoint) (id : ℕ) (commands : List (Command (List ℕ))) : Type 0 where
  pub words : List ℕ
  pub by : HashBy
  pub buckets : BucketsValue
  pub selects : group.selector ≡ Some words
  pub is_spread : IsSelectorOf words by buckets
  pub can_drain : CanDrain (length group.members) index buckets.members
  pub commands_are : commands ≡ SetSelector key (selector_words by (without_member (length group.members) index buckets)) ∷ Leave key id ∷ []

-- the selector of the group is not one that `spread` makes for its members, or there is no other member
pub data IsNotSpread (group : GroupOf (List ℕ)) (index : ℕ) : Type 0 where
  no_selector : group.selector ≡ None → IsNotSpread group index
  other_program : (words : List ℕ) → group.selector ≡ Some words → ((by : HashBy) (buckets : BucketsValue) → IsSelectorOf words by buckets → ⊥) → IsNotSpread group index
  no_takers : (words : List ℕ) (by : HashBy) (buckets : BucketsValue) → group.selector ≡ Some words → IsSelectorOf words by buckets →
      (CanDrain (length group.members) index buckets.members → ⊥) → IsNotSpread group index

-- ---- a configuration

-- the group at the key has a member with the ID at an index, of which this is so
pub record HasMemberAt (config : List (GroupOf (List ℕ))) (key : Endpoint) (id : ℕ) (Holds : GroupOf (List ℕ) → ℕ → Type 0) : Type 0 where
  pub group : GroupOf (List ℕ)
  pub index : ℕ
  pub member : Member (List ℕ)
  pub found : group_of key config ≡ Some group
  pub at : slice_get group.members index ≡ Some member
  pub has_id : member.id ≡ id
  pub holds : Holds group index

-- these commands drain the member of a number
abbrev pub DrainIn : List (GroupOf (List ℕ)) → Endpoint → ℕ → List (Command (List ℕ)) → Type 0
DrainIn config key id commands = HasMemberAt config key id (λ group index. AreDraining group index key id commands)

-- `leave`, which has no program
abbrev pub leave_of : Endpoint → ℕ → Command (List ℕ)
leave_of key id = Leave key id

-- why it is not drained: `leave` is refused, or its buckets are not known, or nobody can take them
abbrev pub IsDrainRefusal : List (GroupOf (List ℕ)) → Endpoint → ℕ → DrainRefusal → Type 0
IsDrainRefusal config key id (Unknown refusal) = first_refusal (leave_of key id) config ≡ Some refusal
IsDrainRefusal config key id NotSpread = HasMemberAt config key id IsNotSpread

-- its code
abbrev pub drain_code : DrainRefusal → Code
drain_code (Unknown refusal) = command_code refusal
drain_code NotSpread = plain (codes "H") 1

-- ---- a switch

-- the commands as one change of a version: `at V all 2`, and the two lines
abbrev pub IsDrainRequest : ℕ → List (Command (List ℕ)) → List ℕ → Type 0
IsDrainRequest version commands request = IsBlockOf (codes "at " ++ decimal version ++ codes " all ") (script_known (Some (changes_text commands))) request

module _ (key : Endpoint) (id : ℕ) where
  -- a version was read, and the commands that drain the member of it; then the change of that version was sent, or was too long for
  -- that, and had this reply
  pub record SendsDrain (before after : ClientValue) (reply : List ℕ) : Type 0 where
    pub version : ℕ
    pub mid : ClientValue
    pub commands : List (Command (List ℕ))
    pub request : List ℕ
    pub learns : Learns before mid (λ history. DrainIn (words_config (history version)) key id commands)
    pub is_request : IsDrainRequest version commands request
    pub asked : Asks mid.switch request reply mid.log after.log
    pub same_switch : after.switch ≡ mid.switch

  -- changes were sent one after the other, each to be tried again
  pub data AreDrainTries (before : ClientValue) : ClientValue → Type 0 where
    no_drain : (after : ClientValue) → after ≡ before → AreDrainTries before after
    one_drain : (mid after : ClientValue) (reply : List ℕ) → AreDrainTries before mid → SendsDrain mid after reply → IsAgain reply → AreDrainTries before after

  -- how it ends
  abbrev pub EndsDrain : ClientValue → ClientValue → Drained → Type 0
  EndsDrain before after (Published version) = (reply : List ℕ) × SendsDrain before after reply × IsPublishedReply reply version
  EndsDrain before after (Refused text) = SendsDrain before after text.items × IsEnd text.items
  EndsDrain before after (Unsent refusal) = Learns before after (λ history. (version : ℕ) × IsDrainRefusal (words_config (history version)) key id refusal)
  EndsDrain before after Changed = Learns before after (λ history. Unit {0})

  abbrev pub Drains : ClientValue → ClientValue → Drained → Type 0
  Drains before after drained = (mid : ClientValue) × AreDrainTries before mid × EndsDrain mid after drained

  -- a version was read, and the commands that drain the member of it; then the change of that version was sent, and failed so
  pub record DrainSendFails (failure : AskFailure) (before after : ClientValue) : Type 0 where
    pub version : ℕ
    pub mid : ClientValue
    pub commands : List (Command (List ℕ))
    pub request : List ℕ
    pub learns : Learns before mid (λ history. DrainIn (words_config (history version)) key id commands)
    pub is_request : IsDrainRequest version commands request
    pub stopped : AskEndsBy failure mid.switch request mid.log after.log
    pub same_switch : after.switch ≡ mid.switch

  -- how one attempt fails: at reading; or the lines were not read, and no change was sent; or at the change
  pub data DrainTryFails (failure : AskFailure) (before after : ClientValue) : Type 0 where
    drain_reading_failed : StopsAsking IsReadLine failure before after → DrainTryFails failure before after
    lines_unread : failure ≡ failed.ReadFailed → Learns before after (λ history. Unit {0}) → DrainTryFails failure before after
    drain_send_failed : DrainSendFails failure before after → DrainTryFails failure before after

  -- changes were sent, each to be tried again, and one attempt more failed so
  abbrev pub FailsDrain : AskFailure → ClientValue → ClientValue → Type 0
  FailsDrain failure before after = (mid : ClientValue) × AreDrainTries before mid × DrainTryFails failure mid after
