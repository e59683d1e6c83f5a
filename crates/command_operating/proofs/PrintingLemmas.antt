-- Texts of which a beginning was printed, why a command that asks a switch fails, and how `rules` and `drain` fail.
use Rattle.std.proofs.Common.{◌≡◌, ◌≢◌, ◌∙◌, ◌⊎◌, ◌++◌, Err, List, None, Ok, Option, Result, Some, [], ap, append_assoc, codes, inl, inr, refl, subst, sym, ℕ}
use Rattle.std.specs.Prelude.{IfErr, IfOk, IsErrAnd}
use Rattle.std.proofs.KnownBytes.{Appends-nil, Appends-trans}
use Rattle.std.specs.Io.KnownBytes.{Appends, append_known}
use Rattle.clap.specs.Words.{Text}
use Rattle.command_line.specs.ControlAddress.{IsNoControlAddress, SpellsControlAddress}
use Rattle.command_line.specs.Ending.{AppendsBeginning, line_of}
use Rattle.command_line.specs.declared.control_address.ControlAddress.{ControlAddress}
use Rattle.command_line.specs.declared.control_address.ControlAddress.TheVariants.{Udp}
use Rattle.command_line.specs.declared.ending.Failure.{Failure}
use Rattle.command_line.specs.declared.ending.Failure.TheVariants.{BindFailed, NoAnswer, OutOfMemory, PollFailed, ReadFailed, RulesChanged, WriteFailed}
use Rattle.command_line.specs.declared.ending.Status.{Status}
use Rattle.command_line.specs.declared.ending.Status.TheVariants.{Done, Failed, Refused}
use Rattle.control_client.specs.Wire.{peer_of}
use Rattle.control_rules.specs.declared.draining.Drained.{Drained}
use Rattle.ipv4_fields.specs.declared.endpoint.Endpoint.{Endpoint}
use Rattle.command_operating.specs.Draining.{DrainsFrom, EndsDraining, MayFailDraining, NamesMember, NamesNoMember, PrintsDrain, drained_line, drained_status, no_member, not_drained}
use Rattle.command_operating.specs.Printing.{Begins, EndsInPrintFailure, IsAskFault, PrintFails}
use Rattle.command_operating.specs.Reported.{IsTold, told_alone}
use Rattle.command_operating.specs.Showing.{IsRulesOf, PrintsRules}
use Rattle.command_operating.specs.body.Asked.{IsUnasked}
use Rattle.command_operating.specs.body.Drained.{BeginsDrained}
use Rattle.command_operating.proofs.ShowingLemmas.{good_never_failed}

-- ---- a text in parts

pub begins_none : (known : Option (List ℕ)) (text : List ℕ) → AppendsBeginning known known text
begins_none known text = ([], text, Appends-nil known, refl)

-- of the first part a beginning
pub begins_first : (before after : Option (List ℕ)) (first then : List ℕ) → AppendsBeginning before after first → AppendsBeginning before after (first ++ then)
begins_first before after first then so_far =
    (so_far.0, so_far.1 ++ then, so_far.2, ap (λ bytes. bytes ++ then) so_far.3 ∙ append_assoc so_far.0 so_far.1 then)

-- of the second
pub begins_then : (before mid after : Option (List ℕ)) (first then : List ℕ) → Appends before mid first → AppendsBeginning mid after then
    → AppendsBeginning before after (first ++ then)
begins_then before mid after first then one two = (
  first ++ two.0,
  two.1,
  Appends-trans before mid after first two.0 one two.2,
  ap (λ bytes. first ++ bytes) two.3 ∙ sym (append_assoc first two.0 two.1),
)

-- ---- what would have been printed

appends_more : (known : Option (List ℕ)) (more : List ℕ) → Appends known (append_known known more) more
appends_more None more = tt
appends_more (Some bytes) more = refl

-- a text
pub begins_text : (Writes : Option (List ℕ) → Option (List ℕ) → Type 0) (before after : Option (List ℕ)) (text : List ℕ) → AppendsBeginning before after text
    → ((whole : Option (List ℕ)) → Appends before whole text → Writes before whole) → Begins Writes before after
begins_text Writes before after text so_far writes = record {
  printed = so_far.0;
  left = so_far.1;
  whole = append_known after so_far.1;
  begun = so_far.2;
  rest = appends_more after so_far.1;
  writes = writes (append_known after so_far.1)
      (subst (λ (bytes : List ℕ). Appends before (append_known after so_far.1) bytes) (sym so_far.3)
      (Appends-trans before after (append_known after so_far.1) so_far.0 so_far.1 so_far.2 (appends_more after so_far.1)));
}

-- more than a text that was printed
pub begins_after : (Writes Writes' : Option (List ℕ) → Option (List ℕ) → Type 0) (before mid after : Option (List ℕ)) (text : List ℕ) → Appends before mid text
    → ((whole : Option (List ℕ)) → Writes mid whole → Writes' before whole) → Begins Writes mid after → Begins Writes' before after
begins_after Writes Writes' before mid after text written more so_far = record {
  printed = text ++ so_far.printed;
  left = so_far.left;
  whole = so_far.whole;
  begun = Appends-trans before mid after text so_far.printed written so_far.begun;
  rest = so_far.rest;
  writes = more so_far.whole so_far.writes;
}

pub begins_as : (Writes Writes' : Option (List ℕ) → Option (List ℕ) → Type 0) (before after : Option (List ℕ))
    → ((whole : Option (List ℕ)) → Writes before whole → Writes' before whole) → Begins Writes before after → Begins Writes' before after
begins_as Writes Writes' before after more so_far = record {
  printed = so_far.printed;
  left = so_far.left;
  whole = so_far.whole;
  begun = so_far.begun;
  rest = so_far.rest;
  writes = more so_far.whole so_far.writes;
}

-- ---- why a command failed

pub memory_unasked : IsUnasked OutOfMemory
memory_unasked = (λ is. cc, λ is. cc, λ is. cc)

pub write_unasked : IsUnasked WriteFailed
write_unasked = (λ is. cc, λ is. cc, λ is. cc)

pub rules_unasked : IsUnasked RulesChanged
rules_unasked = (λ is. cc, λ is. cc, λ is. cc)

pub poll_unasked : IsUnasked PollFailed
poll_unasked = (λ is. cc, λ is. cc, λ is. cc)

pub answer_unasked : IsUnasked NoAnswer
answer_unasked = (λ is. cc, λ is. cc, λ is. cc)

pub unasked_fault : (address : ControlAddress) (failure : Failure) → IsUnasked failure → IsAskFault ⊥ address failure
unasked_fault address failure unasked = record { no_thread = unasked.1; over_udp = λ is path. unasked.2 is; of_file = unasked.0 }

pub udp_fault : (endpoint : Endpoint) → IsAskFault ⊥ (Udp endpoint) BindFailed
udp_fault endpoint = record { no_thread = λ is. cc; over_udp = λ is path. path; of_file = λ is. cc }

pub if_unasked : {A : Type 0} (address : ControlAddress) (result : Result A Failure) → IfErr result IsUnasked → IfErr result (IsAskFault ⊥ address)
if_unasked address (Ok value) unasked = tt
if_unasked address (Err failure) unasked = unasked_fault address failure unasked

pub fault_as : (A B : Type 0) (address : ControlAddress) (failure : Failure) → (A → B) → IsAskFault A address failure → IsAskFault B address failure
fault_as A B address failure more fault = record { no_thread = fault.no_thread; over_udp = fault.over_udp; of_file = λ is. more (fault.of_file is) }

pub memory_fault : {A : Type 0} (address : ControlAddress) (failure : Failure) → failure ≡ OutOfMemory → IsAskFault A address failure
memory_fault address failure is = record { no_thread = λ same. cc; over_udp = λ same path. cc; of_file = λ same. absurd (cc) }

pub write_fault : {A : Type 0} (address : ControlAddress) (failure : Failure) → failure ≡ WriteFailed → IsAskFault A address failure
write_fault address failure is = record { no_thread = λ same. cc; over_udp = λ same path. cc; of_file = λ same. absurd (cc) }

pub unwritten_unasked : (failure : Failure) → failure ≡ WriteFailed → IsUnasked failure
unwritten_unasked failure is = (λ same. cc, λ same. cc, λ same. cc)

-- an error is passed on
pub unasked_passed : {A : Type 0} (result : Result A Failure) (failure : Failure) → IsErrAnd result (λ given. given ≡ failure) → IsUnasked failure → IfErr result IsUnasked
unasked_passed (Ok value) failure is unasked = tt
unasked_passed (Err given) failure is unasked = subst IsUnasked (sym is) unasked

pub fault_passed : {A : Type 0} (Reads : Type 0) (address : ControlAddress) (result : Result A Failure) (failure : Failure) → IsErrAnd result (λ given. given ≡ failure)
    → IsAskFault Reads address failure → IfErr result (IsAskFault Reads address)
fault_passed Reads address (Ok value) failure is fault = tt
fault_passed Reads address (Err given) failure is fault = subst (IsAskFault Reads address) (sym is) fault

-- it reads no file
pub fault_unread : {A : Type 0} (address : ControlAddress) (result : Result A Failure) → IfErr result (IsAskFault ⊥ address) → IfErr result (λ failure. failure ≢ ReadFailed)
fault_unread address (Ok value) fault = tt
fault_unread address (Err failure) fault = fault.of_file

-- ---- how a command failed

module _ (Writes : Option (List ℕ) → Option (List ℕ) → Type 0) (MayFail : Failure → Type 0) (control : Option Text) (before after told_before told_after : Option (List ℕ)) where
  -- a write failed
  pub print_unwritten : (failure : Failure) → failure ≡ WriteFailed → Begins Writes before after → IsTold control failure told_before told_after
      → PrintFails Writes MayFail control before after told_before told_after failure
  print_unwritten failure is so_far told =
      record { reason = λ other. absurd (other is); unwritten = λ other. absurd (other is); begun = λ again. so_far; told = told }

  -- the same of the refusal
  pub print_unrefused : (text : List ℕ) → AppendsBeginning before after text → ((whole : Option (List ℕ)) → Appends before whole text → Writes before whole)
      → AppendsBeginning told_before told_after (line_of WriteFailed) → PrintFails Writes MayFail control before after told_before told_after WriteFailed
  print_unrefused text so_far writes told = print_unwritten WriteFailed refl (begins_text Writes before after text so_far writes) (told_alone told)

  pub ends_unrefused : (text : List ℕ) → AppendsBeginning before after text → ((whole : Option (List ℕ)) → Appends before whole text → Writes before whole)
      → AppendsBeginning told_before told_after (line_of WriteFailed) → EndsInPrintFailure Writes MayFail control before after told_before told_after
  ends_unrefused text so_far writes told = (WriteFailed, print_unrefused text so_far writes told)

-- the same of more that is written, for more reasons
pub print_as : (Writes Writes' : Option (List ℕ) → Option (List ℕ) → Type 0) (MayFail MayFail' : Failure → Type 0) (control : Option Text)
    (before after told_before told_after : Option (List ℕ)) → ((whole : Option (List ℕ)) → Writes before whole → Writes' before whole)
    → ((failure : Failure) → MayFail failure → MayFail' failure) → (failure : Failure) → PrintFails Writes MayFail control before after told_before told_after failure
    → PrintFails Writes' MayFail' control before after told_before told_after failure
print_as Writes Writes' MayFail MayFail' control before after told_before told_after more may failure fails = record {
  reason = λ other. may failure (fails.reason other);
  unwritten = fails.unwritten;
  begun = λ is. begins_as Writes Writes' before after more (fails.begun is);
  told = fails.told;
}

module _ {X : Type 0} (Writes : Option (List ℕ) → Option (List ℕ) → Type 0) (MayFail : Failure → Type 0) (control : Option Text) (contents : X → Option (List ℕ)) (old new : X)
    (told_before told_after : Option (List ℕ)) where
  pub print_fail : (failure : Failure) → MayFail failure → (failure ≢ WriteFailed → new ≡ old) → (failure ≡ WriteFailed → Begins Writes (contents old) (contents new))
      → IsTold control failure told_before told_after → PrintFails Writes MayFail control (contents old) (contents new) told_before told_after failure
  print_fail failure may unwritten begun told = record { reason = λ other. may; unwritten = λ other. ap contents (unwritten other); begun = begun; told = told }

  pub print_fails : (ended : Result Status Failure) → IfErr ended MayFail → IfErr ended (λ failure. failure ≢ WriteFailed → new ≡ old)
      → IfErr ended (λ failure. failure ≡ WriteFailed → Begins Writes (contents old) (contents new)) → IfErr ended (λ failure. IsTold control failure told_before told_after)
      → IfErr ended (PrintFails Writes MayFail control (contents old) (contents new) told_before told_after)
  print_fails (Ok given) may unwritten begun told = tt
  print_fails (Err why) may unwritten begun told = print_fail why may unwritten begun told

  pub print_ended : (ended : Result Status Failure) (status : Status) → IfOk ended (λ given. status ≡ given)
      → IfOk ended (λ given. (given ≡ Done) ⊎ (given ≡ Refused)) → IfErr ended (PrintFails Writes MayFail control (contents old) (contents new) told_before told_after)
      → status ≡ Failed → EndsInPrintFailure Writes MayFail control (contents old) (contents new) told_before told_after
  print_ended (Ok given) status is good fails failed = absurd (good_never_failed (Ok given) good (sym is ∙ failed))
  print_ended (Err why) status is good fails failed = (why, fails)

-- ---- `rules`

pub rules_begun : (control : Text) (address : ControlAddress) (text : List ℕ) (before after : Option (List ℕ)) → SpellsControlAddress control address
    → IsRulesOf (peer_of address) text → AppendsBeginning before after text → Begins (PrintsRules control) before after
rules_begun control address text before after spells is_rules so_far =
    begins_text (PrintsRules control) before after text so_far
    (λ whole written. inl (record { address = address; is_address = spells; text = text; is_rules = is_rules; written = written }))

pub no_rules_address : (control : Text) (before whole : Option (List ℕ)) → IsNoControlAddress control → Appends before whole (codes "refused C1\n") → PrintsRules control before whole
no_rules_address control before whole none written = inr (none, written)

-- ---- `drain`

-- why it failed
pub may_fail_draining : (control key member : Text) (address : ControlAddress) (endpoint : Endpoint) (id : ℕ) → SpellsControlAddress control address
    → NamesMember key member endpoint id → (ended : Result Status Failure) → IfErr ended (IsAskFault ⊥ address) → IfErr ended (MayFailDraining control key member)
may_fail_draining control key member address endpoint id spells names (Ok given) fault = tt
may_fail_draining control key member address endpoint id spells names (Err why) fault = ((endpoint, id, names), (address, spells, fault))

pub no_drain_member : (control key member : Text) (before whole : Option (List ℕ)) → (IsNoControlAddress control) ⊎ NamesNoMember key member
    → Appends before whole (codes "refused C1\n") → PrintsDrain control key member before whole
no_drain_member control key member before whole none written = inr (no_member none written)

module _ (control key member : Text) (address : ControlAddress) (endpoint : Endpoint) (id : ℕ) (before after : Option (List ℕ)) (spells : SpellsControlAddress control address)
    (names : NamesMember key member endpoint id) where
  ends_draining : (drained : Drained) (whole : Option (List ℕ)) (status : Status) → DrainsFrom (peer_of address) endpoint id drained → status ≡ drained_status drained
      → Appends before whole (drained_line drained ++ codes "\n") → EndsDraining control key member before whole status
  ends_draining drained whole status drains is written = record {
    address = address;
    endpoint = endpoint;
    id = id;
    drained = drained;
    is_address = spells;
    names = names;
    drains = drains;
    status_is = is;
    written = written;
  }

  line_begun : (drained : Drained) → DrainsFrom (peer_of address) endpoint id drained → (drained_status drained ≡ Done) ⊎ (drained_status drained ≡ Refused)
      → AppendsBeginning before after (drained_line drained ++ codes "\n") → Begins (PrintsDrain control key member) before after
  line_begun drained drains (inl done) so_far =
      begins_text (PrintsDrain control key member) before after (drained_line drained ++ codes "\n") so_far
      (λ whole written. inl (ends_draining drained whole Done drains (sym done) written))
  line_begun drained drains (inr refused) so_far =
      begins_text (PrintsDrain control key member) before after (drained_line drained ++ codes "\n") so_far
      (λ whole written. inr (not_drained (ends_draining drained whole Refused drains (sym refused) written)))

  pub drain_begun : (ended : Result Status Failure)
      → IfErr ended (λ failure. failure ≡ WriteFailed → (drained : Drained) × DrainsFrom (peer_of address) endpoint id drained × BeginsDrained drained before after)
      → IfErr ended (λ failure. failure ≡ WriteFailed → Begins (PrintsDrain control key member) before after)
  drain_begun (Ok given) begun = tt
  drain_begun (Err why) begun = λ is. let it = begun is in line_begun it.0 it.1 it.2.ended it.2.begun
