-- What is learned of a switch, and how a command ends that is reported.
use Rattle.std.proofs.Common.{◌≡◌, ◌≢◌, ◌∙◌, ◌⊎◌, Err, List, None, Ok, Option, Result, Some, inl, inr, refl, subst, sym, ℕ}
use Rattle.std.specs.Prelude.{IfErr, IfOk, OnErr, OnOk}
use Rattle.clap.specs.Words.{Text}
use Rattle.config_image.specs.Image.{Group}
use Rattle.command_line.specs.declared.ending.Status.{Status}
use Rattle.command_line.specs.declared.ending.Status.TheVariants.{Done, Failed, Refused}
use Rattle.control_rules.specs.declared.ask_failure.AskFailure.{AskFailure}
use Rattle.control_rules.specs.declared.loading.Loaded.{Loaded}
use Rattle.command_line.specs.declared.ending.Failure.{Failure}
use Rattle.control_client.specs.Exchange.{AreExchanged}
use Rattle.control_rules.specs.History.{ClientValue, Learns}
use Rattle.config_diff.specs.Words.{words_config}
use Rattle.control_rules.specs.Load.{IsDifference, Loads}
use Rattle.control_rules.specs.Rules.{rules_file}
use Rattle.control_client.specs.declared.device.Peer.{Peer}
use Rattle.command_operating.specs.Reported.{IsTold}
use Rattle.command_line.specs.ControlAddress.{IsNoControlAddress, SpellsControlAddress}
use Rattle.command_line.specs.declared.control_address.ControlAddress.{ControlAddress}
use Rattle.command_line.specs.declared.control_address.ControlAddress.TheVariants as address_of
use Rattle.control_client.specs.Wire.{peer_of}
use Rattle.command_operating.specs.body.Asked.{IsAsked}
use Rattle.command_operating.specs.Showing.{AreChangesTo, IsNoSwitch, IsRulesOf, IsSwitch, LoadsInto}

-- the text of a version's rules
pub rules_learned : (before after : ClientValue) (switch : Peer) (version : ℕ) (text : List ℕ) → before.switch ≡ switch
    → Learns before after (λ history. text ≡ rules_file version (history version)) → IsRulesOf switch text
rules_learned before after switch version text is learns = record {
  told = learns.told;
  events = learns.events;
  are_exchanged = subst (λ (s : Peer). AreExchanged s learns.told learns.events) is learns.are_exchanged;
  holds = λ history configs true_to. (version, learns.holds history configs true_to);
}

-- the lines of a diff
pub changes_learned : (before after : ClientValue) (switch : Peer) (config : List Group) (text : List ℕ) → before.switch ≡ switch
    → Learns before after (λ history. IsDifference history (words_config config) text) → AreChangesTo switch config text
changes_learned before after switch config text is learns = record {
  told = learns.told;
  events = learns.events;
  are_exchanged = subst (λ (s : Peer). AreExchanged s learns.told learns.events) is learns.are_exchanged;
  holds = learns.holds;
}

-- what came of a file
pub loaded_into : (before after : ClientValue) (switch : Peer) (text : List ℕ) (config : List Group) (loaded : Loaded) → before.switch ≡ switch
    → Loads text (words_config config) before after loaded → LoadsInto switch text config loaded
loaded_into before after switch text config loaded is loads = record { before = before; after = after; is_client = is; loads = loads }

pub loaded_so : (before after : ClientValue) (switch : Peer) (text : List ℕ) (config : List Group) (result : Result Loaded AskFailure) → before.switch ≡ switch
    → IfOk result (Loads text (words_config config) before after) → IfOk result (LoadsInto switch text config)
loaded_so before after switch text config (Ok loaded) is loads = loaded_into before after switch text config loaded is loads
loaded_so before after switch text config (Err why) is loads = tt

-- the switch that is asked
pub is_switch : (control : Option Text) (text : Text) (address : ControlAddress) → IsAsked control text address → IsSwitch control (peer_of address)
is_switch control text address asked = subst (λ (c : Option Text). IsSwitch c (peer_of address)) (sym asked.given) (address, asked.is_address, refl)

pub no_address : (control : Option Text) → ((text : Text) → control ≡ Some text → IsNoControlAddress text) → IsNoSwitch control
no_address None none switch is = is
no_address (Some text) none switch (address, spells, is) = spells_none text address (none text refl) spells
  where
    spells_none : (text : Text) (address : ControlAddress) → IsNoControlAddress text → SpellsControlAddress text address → ⊥
    spells_none text (address_of.Udp endpoint) none spells = none.no_endpoint endpoint spells.0 spells.1
    spells_none text (address_of.Unix path) none spells = none.no_path path.now spells.0 spells.1

-- ---- how a command ended that is reported

abbrev pub IsDoneOrRefused : Status → Type 0
IsDoneOrRefused status = (status ≡ Done) ⊎ (status ≡ Refused)

pub never_failed : (status : Status) → IsDoneOrRefused status → status ≡ Failed → ⊥
never_failed status (inl is) failed = cc
never_failed status (inr is) failed = cc

-- a failure shows nothing before its own line
pub told_from : {X : Type 0} (control : Option Text) (contents : X → Option (List ℕ)) (old new : X) (after : Option (List ℕ)) (ended : Result Status Failure)
    → OnErr ended (new ≡ old) → IfErr ended (λ failure. IsTold control failure (contents new) after) → IfErr ended (λ failure. IsTold control failure (contents old) after)
told_from control contents old new after (Ok given) same told = tt
told_from {X} control contents old new after (Err why) same told = subst (λ (x : X). IsTold control why (contents x) after) same told

-- what was done shows nothing
pub nothing_told : {X : Type 0} (old mid new : X) (ended : Result Status Failure) (status : Status) → IfOk ended (λ given. status ≡ given) → OnOk ended (new ≡ mid)
    → OnErr ended (status ≡ Failed) → IfOk ended (λ given. given ≡ Done → mid ≡ old) → status ≡ Done → new ≡ old
nothing_told old mid new (Ok given) status is same failed untold done = same ∙ untold (sym is ∙ done)
nothing_told old mid new (Err why) status is same failed untold done = absurd (not_both (sym failed ∙ done))
  where
    not_both : Failed ≡ Done → ⊥
    not_both both = absurd (cc)

pub done_is_good : (ended : Result Status Failure) → IfOk ended (λ given. given ≡ Done) → IfOk ended IsDoneOrRefused
done_is_good (Ok given) is = inl is
done_is_good (Err why) is = tt

pub good_never_failed : (ended : Result Status Failure) → IfOk ended IsDoneOrRefused → IfOk ended (λ given. given ≢ Failed)
good_never_failed (Ok given) good = never_failed given good
good_never_failed (Err why) good = tt
