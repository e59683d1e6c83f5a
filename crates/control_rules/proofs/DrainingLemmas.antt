-- A member that is drained: the plan for it, by the words of programs, and what one attempt comes to.
use Rattle.std.proofs.Common.{◌≡◌, ◌⊎◌, ◌∙◌, ◌+◌, ◌<◌, ◌≤◌, ◌∷◌, Bool, List, None, Option, Some, [], ap, arith, drop, false, get_or, inl, inr, length, refl, subst, suc, sym, zero, ℕ}
use Rattle.std.specs.Prelude.{◌↔◌, Err, IfNone, IfOk, IfSome, Ok, Result, is_none, option_map, slice_get, true}
use Rattle.std.specs.List.{find}
use Rattle.std.proofs.lemmas.Bool.{false≢true, ne_eqb}
use Rattle.std.proofs.lemmas.List.{length-map}
use Rattle.std.proofs.lemmas.Option.{slice_get-map}
use Rattle.bpf_verify.specs.Program.{ProgramValue}
use Rattle.ipv4_fields.specs.declared.endpoint.Endpoint.{Endpoint}
use Rattle.config_diff.specs.Words.{words_config}
use Rattle.config_image.specs.Image.{Group}
use Rattle.member_group.proofs.OverLemmas.{group-over, member-over}
use Rattle.member_group.specs.Group.{GroupOf, group_of, has_id}
use Rattle.member_group.specs.Over.{group_over, member_over}
use Rattle.member_group.specs.Refusal.{first_of, in_group, member_causes}
use Rattle.member_group.specs.declared.command.Command.{Command}
use Rattle.member_group.specs.declared.command.Command.TheVariants.{Leave, SetSelector}
use Rattle.member_group.specs.declared.member.Member.{Member}
use Rattle.member_group.specs.declared.refusal.Refusal.TheVariants.{NoGroup, NoMember}
use Rattle.control_rules.specs.Drain.{AreDraining, HasMemberAt, IsDrainRefusal, IsNotSpread, SendsDrain, no_takers, other_program, without_member}
use Rattle.control_rules.specs.Drain.{DrainTryFails, drain_reading_failed, lines_unread}
use Rattle.control_rules.specs.Failing.{StopsAsking}
use Rattle.selector_buckets.specs.Buckets.{BucketsValue}
use Rattle.selector_buckets.specs.Drained.{CanDrain}
use Rattle.selector_buckets.specs.Reading.{IsSelectorOf}
use Rattle.selector_buckets.specs.Words.{selector_words}
use Rattle.selector_buckets.specs.declared.hash.HashBy.{HashBy}
use Rattle.control_rules.specs.History.{ClientValue, History, IsReadLine, Learns}
use Rattle.control_rules.specs.declared.ask_failure.AskFailure.{AskFailure}
use Rattle.control_rules.specs.declared.ask_failure.AskFailure.TheVariants as failed
use Rattle.control_rules.proofs.LearnLemmas.{learns_weaker}
use Rattle.control_rules.proofs.StopLemmas.{stops_unstored}
use Rattle.control_rules.specs.Text.{changes_text}
use Rattle.control_rules.proofs.FoundLemmas.{some_holds}
use Rattle.control_rules.specs.Load.{IsEnd}
use Rattle.control_rules.specs.body.Draining.{IsDrainAttempt, IsDrainReplyRead, IsGroupPlan, IsPlan, group_words}
use Rattle.control_rules.specs.declared.draining.DrainAttempt.{DrainAttempt}
use Rattle.control_rules.specs.declared.draining.DrainAttempt.TheVariants.{Again, Ended}
use Rattle.control_rules.specs.declared.draining.Drained.TheVariants.{Changed, Published, Refused, Unsent}
use Rattle.control_rules.specs.declared.drain_refusal.DrainRefusal.TheVariants.{NotSpread, Unknown}
use Rattle.control_rules.specs.declared.planning.Plan.{Plan}
use Rattle.control_rules.specs.declared.planning.Plan.TheVariants as plan

abbrev words_of : ProgramValue → List ℕ
words_of program = program.words

-- ---- the member of a number

find_on : {X : Type 0} (p : X → Bool) (xs : List X) (i : ℕ) (d : X) → i < length xs → p (get_or xs i d) ≡ false → find p (drop i xs) ≡ find p (drop (i + 1) xs)
find_on p [] i d inside fails = absurd (omega arith)
find_on p (x ∷ xs) zero d inside fails = rw fails refl
find_on p (x ∷ xs) (suc i) d inside fails =
    let next : suc i + 1 ≡ suc (i + 1) = omega arith in
    find_on p xs i d (omega arith) fails ∙ ap (λ n. find p (drop n (x ∷ xs))) (sym next)

-- the search goes on after a member of another number
pub other_member : (members : List (Member ProgramValue)) (id i : ℕ) (d : Member ProgramValue) → i < length members → ((get_or members i d).id ≡ id → ⊥)
    → find (has_id id) members ≡ find (has_id id) (drop i members) → find (has_id id) members ≡ find (has_id id) (drop (i + 1) members)
other_member members id i d inside other so_far = so_far ∙ find_on (has_id id) members i d inside (ne_eqb (get_or members i d).id id other)

pub no_such_member : (members : List (Member ProgramValue)) (id i : ℕ) → length members ≤ i → find (has_id id) members ≡ find (has_id id) (drop i members)
    → find (has_id id) members ≡ None
no_such_member members id i past so_far = so_far ∙ ap (find (has_id id)) (nothing_left members i past)
  where
    nothing_left : (xs : List (Member ProgramValue)) (n : ℕ) → length xs ≤ n → drop n xs ≡ []
    nothing_left [] zero past = refl
    nothing_left [] (suc n) past = refl
    nothing_left (x ∷ xs) zero past = absurd (omega arith)
    nothing_left (x ∷ xs) (suc n) past = nothing_left xs n (omega arith)

-- ---- a group by the words of its programs

module _ (group : GroupOf ProgramValue) (program : ProgramValue) (words : List ℕ) (some : Some program ≡ group.selector) (words_is : words ≡ program.words) where
  selects_words : (group_words group).selector ≡ Some words
  selects_words = ap (option_map words_of) (sym some) ∙ ap (λ (w : List ℕ). Some w) (sym words_is)

  pub other_selector : (index : ℕ) (read : Option (HashBy × BucketsValue)) → read ≡ None → IfNone read ((by : HashBy) (buckets : BucketsValue) → IsSelectorOf words by buckets → ⊥)
      → IsNotSpread (group_words group) index
  other_selector index None is none = other_program words selects_words none
  other_selector index (Some found) is none = cc

members_are : (group : GroupOf ProgramValue) → length (group_words group).members ≡ length group.members
members_are group = length-map group.members (member_over words_of)

module _ (group : GroupOf ProgramValue) (index : ℕ) (program : ProgramValue) (words : List ℕ) (by : HashBy) (buckets : BucketsValue) (read : Option (HashBy × BucketsValue))
    (members : List (Member ProgramValue)) (some : Some program ≡ group.selector) (words_is : words ≡ program.words) (read_is : read ≡ Some (by, buckets))
    (table : IfSome read (λ found. IsSelectorOf words found.0 found.1)) (members_is : members ≡ group.members) where
  is_spread : IsSelectorOf words by buckets
  is_spread = some_holds (λ found. IsSelectorOf words found.0 found.1) read (by, buckets) table read_is

  same_length : length members ≡ length (group_words group).members
  same_length = ap length members_is ∙ sym (members_are group)

  pub nobody_takes : (can : Bool) → (can ≡ true) ↔ CanDrain (length members) index buckets.members → can ≡ false → IsNotSpread (group_words group) index
  nobody_takes can tested is =
      no_takers words by buckets (selects_words group program words some words_is) is_spread
      (λ drains. false≢true (sym is ∙ tested.1 (subst (λ n. CanDrain n index buckets.members) (sym same_length) drains)))

  pub drains_group : (key : Endpoint) (id : ℕ) (can : Bool) (rest : BucketsValue) (new text : List ℕ) → (can ≡ true) ↔ CanDrain (length members) index buckets.members → can ≡ true
      → rest ≡ without_member (length members) index buckets → new ≡ selector_words by rest → text ≡ changes_text (SetSelector key new ∷ Leave key id ∷ [])
      → (commands : List (Command (List ℕ))) × AreDraining (group_words group) index key id commands × (text ≡ changes_text commands)
  drains_group key id can rest new text tested is rest_is new_is lines = (
    SetSelector key new ∷ Leave key id ∷ [],
    record {
      words = words;
      by = by;
      buckets = buckets;
      selects = selects_words group program words some words_is;
      is_spread = is_spread;
      can_drain = subst (λ n. CanDrain n index buckets.members) same_length (tested.0 is);
      commands_are = ap (λ (w : List ℕ). SetSelector key w ∷ Leave key id ∷ []) (new_is ∙ ap (selector_words by) (rest_is ∙ ap (λ n. without_member n index buckets) same_length));
    },
    lines,
  )

-- ---- the plan

module _ (config : List Group) (key : Endpoint) (id : ℕ) where
  pub no_group : group_of key config ≡ None → IsDrainRefusal (words_config config) key id (Unknown NoGroup)
  no_group none = ap (in_group (member_causes id)) (group-over words_of key config ∙ ap (option_map (group_over words_of)) none)

  module _ (group : GroupOf ProgramValue) (found : group_of key config ≡ Some group) where
    found_words : group_of key (words_config config) ≡ Some (group_words group)
    found_words = group-over words_of key config ∙ ap (option_map (group_over words_of)) found

    pub no_member : find (has_id id) group.members ≡ None → IsDrainRefusal (words_config config) key id (Unknown NoMember)
    no_member none =
        ap (in_group (member_causes id)) found_words
        ∙ ap (λ member. first_of ((is_none member, NoMember) ∷ [])) (member-over words_of id group ∙ ap (option_map (member_over words_of)) none)

    module _ (index : ℕ) (member : Member ProgramValue) (at : slice_get group.members index ≡ Some member) (is : member.id ≡ id) where
      has_member : (Holds : GroupOf (List ℕ) → ℕ → Type 0) → Holds (group_words group) index → HasMemberAt (words_config config) key id Holds
      has_member Holds holds = record {
        group = group_words group;
        index = index;
        member = member_over words_of member;
        found = found_words;
        at = slice_get-map (member_over words_of) group.members index ∙ ap (option_map (member_over words_of)) at;
        has_id = is;
        holds = holds;
      }

      pub planned_so : (it : Plan) → IsGroupPlan (group_words group) index key id it → IsPlan (words_config config) key id it
      planned_so (plan.Lines text) (commands, draining, lines) = (commands, has_member _ draining, lines)
      planned_so (plan.Refused (Unknown refusal)) is_plan = absurd is_plan
      planned_so (plan.Refused NotSpread) is_plan = has_member _ is_plan

      pub planned_result : {E : Type 0} (result : Result Plan E) → IfOk result (IsGroupPlan (group_words group) index key id) → IfOk result (IsPlan (words_config config) key id)
      planned_result (Ok it) is_plan = planned_so it is_plan
      planned_result (Err fault) is_plan = tt

-- ---- one attempt

pub drain_attempt_read : (key : Endpoint) (id : ℕ) (before after : ClientValue) (reply : List ℕ) (attempt : DrainAttempt) → IsDrainReplyRead reply attempt →
    SendsDrain key id before after reply → IsDrainAttempt key id before after attempt
drain_attempt_read key id before after reply (Ended (Published version)) is sends = (reply, sends, is)
drain_attempt_read key id before after reply (Ended (Refused text)) is sends = (subst (SendsDrain key id before after) (sym is.0) sends, subst IsEnd (sym is.0) is.1)
drain_attempt_read key id before after reply (Ended (Unsent refusal)) is sends = absurd is
drain_attempt_read key id before after reply (Ended Changed) is sends = absurd is
drain_attempt_read key id before after reply (Again busy) is sends = (reply, sends, is)

-- the request could not be made of what was read
pub unmade_drain : (key : Endpoint) (id : ℕ) (failure : AskFailure) (before after : ClientValue) (Holds : History → Type 0) →
    (failure ≡ failed.ReadFailed) ⊎ (failure ≡ failed.OutOfMemory) → Learns before after Holds → DrainTryFails key id failure before after
unmade_drain key id failure before after Holds (inl is) it = lines_unread is (learns_weaker before after Holds (λ history. Unit {0}) (λ history are holds. tt) it)
unmade_drain key id failure before after Holds (inr is) it =
    drain_reading_failed (subst (λ (one : AskFailure). StopsAsking IsReadLine one before after) (sym is) (stops_unstored before after Holds it))
