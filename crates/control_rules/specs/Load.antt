-- How a rules file replaces the rules of a switch (docs/COMMANDS.md, "load").
use Rattle.std.specs.Prelude.{◌≡◌, ◌≢◌, ◌++◌, ◌∷◌, ◌⊎◌, Bool, List, Some, [], codes, decimal, false, nat_eq, true, ℕ}
use Rattle.std.specs.List.{starts_with}
use Rattle.config_diff.specs.Lead.{LeadTo}
use Rattle.config_diff.specs.Words.{words_config}
use Rattle.member_group.specs.Group.{GroupOf}
use Rattle.member_group.specs.declared.command.Command.{Command}
use Rattle.control_client.specs.Exchange.{Asks, is_refusal}
use Rattle.control_client.specs.Lines.{IsBlockOf, script_known}
use Rattle.control_rules.specs.Fields.{fields_in}
use Rattle.control_rules.specs.Asked.{AskEndsBy}
use Rattle.control_rules.specs.Failing.{StopsAsking}
use Rattle.control_rules.specs.History.{ClientValue, History, IsReadLine, Learns}
use Rattle.control_rules.specs.Text.{changes_text}
use Rattle.control_rules.specs.declared.ask_failure.AskFailure.{AskFailure}
use Rattle.control_rules.specs.declared.ask_failure.AskFailure.TheVariants as failed
use Rattle.control_rules.specs.declared.loading.Loaded.{Loaded}
use Rattle.control_rules.specs.declared.loading.Loaded.TheVariants.{Changed, Published, Refused, Unchanged}

-- the text is lines of commands that lead from the rules of some version to these
pub record IsDifference (history : History) (wanted : List (GroupOf (List ℕ))) (text : List ℕ) : Type 0 where
  pub version : ℕ
  pub commands : List (Command (List ℕ))
  pub lead : LeadTo commands (words_config (history version)) wanted
  pub lines : text ≡ changes_text commands

-- the rules of a file as one change of a version: `at V anew N`, and the N lines
abbrev pub IsRequestFor : List ℕ → ℕ → List ℕ → Type 0
IsRequestFor file version request = IsBlockOf (codes "at " ++ decimal version ++ codes " anew ") (script_known (Some file)) request

-- a reply that it is another version
abbrev pub is_outdated : List ℕ → Bool
is_outdated reply = starts_with nat_eq reply (codes "refused M1 ")

-- a reply after which it is tried again: the version is another one, a publication is busy, or it is no reply to a change
abbrev pub IsAgain : List ℕ → Type 0
IsAgain reply = (is_outdated reply ≡ true) ⊎ ((reply ≡ codes "refused B2") ⊎ (is_refusal reply ≡ false))

-- a reply that ends it: a refusal for another cause
pub record IsEnd (reply : List ℕ) : Type 0 where
  pub refusal : is_refusal reply ≡ true
  pub not_outdated : is_outdated reply ≡ false
  pub not_busy : reply ≢ codes "refused B2"

-- the reply that this version is published, by its fields
abbrev pub IsPublishedReply : List ℕ → ℕ → Type 0
IsPublishedReply reply version = fields_in reply ≡ codes "ok" ∷ codes "version" ∷ decimal version ∷ []

module _ (file : List ℕ) (wanted : List (GroupOf (List ℕ))) where
  -- a version was read whose rules are not these; then the change of that version was sent, or was too long for that, and had this
  -- reply
  pub record Sends (before after : ClientValue) (reply : List ℕ) : Type 0 where
    pub version : ℕ
    pub mid : ClientValue
    pub request : List ℕ
    pub learns : Learns before mid (λ history. words_config (history version) ≢ wanted)
    pub is_request : IsRequestFor file version request
    pub asked : Asks mid.switch request reply mid.log after.log
    pub same_switch : after.switch ≡ mid.switch

  -- changes were sent one after the other, each to be tried again
  pub data AreTries (before : ClientValue) : ClientValue → Type 0 where
    no_try : (after : ClientValue) → after ≡ before → AreTries before after
    one_more : (mid after : ClientValue) (reply : List ℕ) → AreTries before mid → Sends mid after reply → IsAgain reply → AreTries before after

  -- how it ends
  abbrev pub EndsLoad : ClientValue → ClientValue → Loaded → Type 0
  EndsLoad before after (Unchanged version) = Learns before after (λ history. words_config (history version) ≡ wanted)
  EndsLoad before after (Published version) = (reply : List ℕ) × Sends before after reply × IsPublishedReply reply version
  EndsLoad before after (Refused text) = Sends before after text.items × IsEnd text.items
  EndsLoad before after Changed = Learns before after (λ history. Unit {0})

  abbrev pub Loads : ClientValue → ClientValue → Loaded → Type 0
  Loads before after loaded = (mid : ClientValue) × AreTries before mid × EndsLoad mid after loaded

  -- a version was read whose rules are not these; then the change of that version was sent, and failed so
  pub record SendFails (failure : AskFailure) (before after : ClientValue) : Type 0 where
    pub version : ℕ
    pub mid : ClientValue
    pub request : List ℕ
    pub learns : Learns before mid (λ history. words_config (history version) ≢ wanted)
    pub is_request : IsRequestFor file version request
    pub stopped : AskEndsBy failure mid.switch request mid.log after.log
    pub same_switch : after.switch ≡ mid.switch

  -- how one attempt fails: at reading; or the lines of the file were not read, and no change was sent; or at the change
  pub data TryFails (failure : AskFailure) (before after : ClientValue) : Type 0 where
    reading_failed : StopsAsking IsReadLine failure before after → TryFails failure before after
    file_unread : failure ≡ failed.ReadFailed → Learns before after (λ history. Unit {0}) → TryFails failure before after
    send_failed : SendFails failure before after → TryFails failure before after

  -- changes were sent, each to be tried again, and one attempt more failed so
  abbrev pub FailsLoad : AskFailure → ClientValue → ClientValue → Type 0
  FailsLoad failure before after = (mid : ClientValue) × AreTries before mid × TryFails failure mid after
