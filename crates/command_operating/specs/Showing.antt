-- The output of the commands `rules` and `load`, by the rules of a switch (docs/COMMANDS.md, "rules", "load").
use Rattle.std.specs.Prelude.{◌≡◌, ◌⊎◌, ◌++◌, Bool, List, None, Option, Some, [], codes, decimal, false, length, true, ℕ}
use Rattle.std.specs.Io.KnownBytes.{Appends}
use Rattle.std.specs.List.{All}
use Rattle.clap.specs.Words.{Text}
use Rattle.command_explain.specs.Meaning.{file_line}
use Rattle.command_explain.specs.Printed.{ShowsCode}
use Rattle.command_line.specs.ControlAddress.{IsNoControlAddress, SpellsControlAddress}
use Rattle.command_line.specs.declared.control_address.ControlAddress.{ControlAddress}
use Rattle.command_line.specs.Ending.{AppendsBeginning}
use Rattle.command_line.specs.declared.ending.Failure.{Failure}
use Rattle.command_line.specs.declared.ending.Failure.TheVariants.{OutOfMemory, ReadFailed}
use Rattle.command_line.specs.Input.{IsInput}
use Rattle.command_line.specs.declared.ending.Status.{Status}
use Rattle.command_line.specs.declared.ending.Status.TheVariants.{Done, Failed, Refused}
use Rattle.config_image.specs.Image.{Group}
use Rattle.control_client.specs.Exchange.{AreExchanged, Exchange}
use Rattle.control_client.specs.Wire.{Event, peer_of}
use Rattle.control_client.specs.declared.device.Peer.{Peer}
use Rattle.control_line.specs.Rules.{IsConfigOf}
use Rattle.control_rules.specs.declared.loading.Loaded.{Loaded}
use Rattle.control_rules.specs.declared.loading.Loaded.TheVariants.{Changed, Published, Unchanged}
use Rattle.control_rules.specs.declared.loading.Loaded.TheVariants as loading
use Rattle.config_diff.specs.Words.{words_config}
use Rattle.control_rules.specs.History.{AreConfigs, ClientValue, History, IsTrueTo}
use Rattle.control_rules.specs.Load.{IsDifference, Loads}
use Rattle.control_rules.specs.Rules.{rules_file}
use Rattle.member_group.specs.Charge.{charge_of, members_of}
use Rattle.command_operating.specs.Opening.{IsMadeFrom, RefusesRules}
use Rattle.command_operating.specs.Printing.{MayFailAsking}

-- lines were exchanged with a switch, and this is so of each switch of which all their replies are true
pub record LearnsOf (switch : Peer) (Holds : History → Type 0) : Type 0 where
  pub told : List Exchange
  pub events : List Event
  pub are_exchanged : AreExchanged switch told events
  pub holds : (history : History) → AreConfigs history → All (IsTrueTo history) told → Holds history

-- the rules of one of its versions
abbrev pub IsRulesOf : Peer → List ℕ → Type 0
IsRulesOf switch text = LearnsOf switch (λ history. (version : ℕ) × (text ≡ rules_file version (history version)))

-- the rules of the switch at the address were read, and written
pub record WritesRules (control : Text) (before after : Option (List ℕ)) : Type 0 where
  pub address : ControlAddress
  pub is_address : SpellsControlAddress control address
  pub text : List ℕ
  pub is_rules : IsRulesOf (peer_of address) text
  pub written : Appends before after text

-- what `rules` writes: the rules, or that it is given no address
abbrev pub PrintsRules : Text → Option (List ℕ) → Option (List ℕ) → Type 0
PrintsRules control before after = WritesRules control before after ⊎ (IsNoControlAddress control × Appends before after (codes "refused C1\n"))

-- ---- `load`

-- the address that is given is this switch's
abbrev pub IsSwitch : Option Text → Peer → Type 0
IsSwitch None switch = ⊥
IsSwitch (Some control) switch = (address : ControlAddress) × SpellsControlAddress control address × (switch ≡ peer_of address)

-- no address is given, or a text that is none
abbrev pub IsNoSwitch : Option Text → Type 0
IsNoSwitch control = (switch : Peer) → IsSwitch control switch → ⊥

-- the measures of a configuration
abbrev pub measures_line : List Group → List ℕ
measures_line config =
    codes "groups " ++ decimal (length config) ++ codes " members " ++ decimal (members_of config) ++ codes " charge " ++ decimal (charge_of config)

-- a version's number, and what follows it
abbrev pub version_line : ℕ → List ℕ → List ℕ
version_line version rest = codes "version " ++ decimal version ++ rest

-- lines that lead from the rules of one of its versions to these
abbrev pub AreChangesTo : Peer → List Group → List ℕ → Type 0
AreChangesTo switch config text = LearnsOf switch (λ history. IsDifference history (words_config config) text)

-- a client of the switch made its rules those of a file, and it ended so
pub record LoadsInto (switch : Peer) (text : List ℕ) (config : List Group) (loaded : Loaded) : Type 0 where
  pub before : ClientValue
  pub after : ClientValue
  pub is_client : before.switch ≡ switch
  pub loads : Loads text (words_config config) before after loaded

-- how the replacing of the rules ended, as a line and as a status
abbrev pub loaded_line : Loaded → List ℕ
loaded_line (Unchanged version) = version_line version (codes " unchanged")
loaded_line (Published version) = version_line version []
loaded_line (loading.Refused reply) = reply.items
loaded_line Changed = []

abbrev pub loaded_status : Loaded → Status
loaded_status (Unchanged version) = Done
loaded_status (Published version) = Done
loaded_status (loading.Refused reply) = Refused
loaded_status Changed = Failed

-- people are shown why a switch refused the rules of a file, by what the code of its reply means; if memory or a write failed, a
-- beginning of that or nothing
pub data ShowsFileRefusal (name reply : List ℕ) (told_before told_after : Option (List ℕ)) : Type 0 where
  explained : (code : List ℕ) (place : Option ℕ) → ShowsCode reply code place → AppendsBeginning told_before told_after (file_line name code) →
      ShowsFileRefusal name reply told_before told_after
  unread : ((code : List ℕ) (place : Option ℕ) → ShowsCode reply code place → ⊥) → told_after ≡ told_before → ShowsFileRefusal name reply told_before told_after

-- what was written about the configuration of a file: its measures; the changes that lead to it; or the version that has it
pub data WritesLoad (control : Option Text) (input before after : Option (List ℕ)) : (only_check only_diff : Bool) → Type 0 where
  checked : (only_diff : Bool) (config : List Group) → IsMadeFrom input config →
      Appends before after (measures_line config ++ codes "\n") → WritesLoad control input before after true only_diff
  shown : (switch : Peer) → IsSwitch control switch → (config : List Group) → IsMadeFrom input config →
      (changes : List ℕ) → AreChangesTo switch config changes → Appends before after changes → WritesLoad control input before after false true
  replaced : (switch : Peer) → IsSwitch control switch → (text : List ℕ) (config : List Group) → IsInput input text → IsConfigOf text config →
      (loaded : Loaded) → LoadsInto switch text config loaded → loaded_status loaded ≡ Done → Appends before after (loaded_line loaded ++ codes "\n") →
      WritesLoad control input before after false false

-- `load` is given no address of a switch, a file that is refused, or rules that the switch refuses, and the refusal was written
pub data RefusesLoad (control : Option Text) (input before after : Option (List ℕ)) : (only_check only_diff : Bool) → Type 0 where
  no_switch : (only_diff : Bool) → IsNoSwitch control → Appends before after (codes "refused C1\n") → RefusesLoad control input before after false only_diff
  file_refused : (only_check only_diff : Bool) → RefusesRules input before after → RefusesLoad control input before after only_check only_diff
  change_refused : (switch : Peer) → IsSwitch control switch → (text : List ℕ) (config : List Group) → IsInput input text → IsConfigOf text config →
      (loaded : Loaded) → LoadsInto switch text config loaded → loaded_status loaded ≡ Refused → Appends before after (loaded_line loaded ++ codes "\n") →
      RefusesLoad control input before after false false

-- what `load` writes of the file with these bytes
abbrev pub PrintsLoad : Option Text → Option (List ℕ) → (only_check only_diff : Bool) → (before after : Option (List ℕ)) → Type 0
PrintsLoad control input only_check only_diff before after =
    WritesLoad control input before after only_check only_diff ⊎ RefusesLoad control input before after only_check only_diff

-- why it may fail: with `--check` it reads a file, and asks no switch; else it has the address of a switch, and asks it, too
abbrev pub MayFailLoading : Option Text → (only_check : Bool) → Failure → Type 0
MayFailLoading control true failure = (failure ≡ ReadFailed) ⊎ (failure ≡ OutOfMemory)
MayFailLoading None false failure = ⊥
MayFailLoading (Some control) false failure = MayFailAsking (Unit {0}) control failure
