-- One attempt to load a rules file.
use Rattle.std.specs.Prelude.{◌≡◌, List, ℕ}
use Rattle.member_group.specs.Group.{GroupOf}
use Rattle.control_rules.specs.History.{ClientValue}
use Rattle.control_rules.specs.Load.{EndsLoad, IsAgain, IsEnd, IsPublishedReply, Sends}
use Rattle.control_rules.specs.declared.loading.Attempt.{Attempt}
use Rattle.control_rules.specs.declared.loading.Attempt.TheVariants.{Again, Ended}
use Rattle.control_rules.specs.declared.loading.Loaded.TheVariants.{Changed, Published, Refused, Unchanged}

-- the meaning of a reply to the change
abbrev pub IsReplyRead : List ℕ → Attempt → Type 0
IsReplyRead reply (Ended (Published version)) = IsPublishedReply reply version
IsReplyRead reply (Ended (Refused text)) = (text.items ≡ reply) × IsEnd reply
IsReplyRead reply (Ended (Unchanged version)) = ⊥
IsReplyRead reply (Ended Changed) = ⊥
IsReplyRead reply (Again busy) = IsAgain reply

abbrev pub IsAttempt : List ℕ → List (GroupOf (List ℕ)) → ClientValue → ClientValue → Attempt → Type 0
IsAttempt file wanted before after (Ended loaded) = EndsLoad file wanted before after loaded
IsAttempt file wanted before after (Again busy) = (reply : List ℕ) × Sends file wanted before after reply × IsAgain reply
