-- What `load` prints of a switch.
use Rattle.std.specs.Prelude.{◌≡◌, ◌++◌, ◌⊎◌, List, Option, codes, ℕ}
use Rattle.std.specs.Io.KnownBytes.{Appends}
use Rattle.command_line.specs.Ending.{AppendsBeginning}
use Rattle.command_line.specs.declared.ending.Status.{Status}
use Rattle.command_line.specs.declared.ending.Status.TheVariants.{Done, Refused}
use Rattle.config_image.specs.Image.{Group}
use Rattle.control_client.specs.declared.device.Peer.{Peer}
use Rattle.control_rules.specs.declared.loading.Loaded.{Loaded}
use Rattle.command_operating.specs.Showing.{AreChangesTo, LoadsInto, loaded_line, loaded_status}

-- the lines that lead from its rules to these
abbrev pub PrintsChanges : Peer → List Group → (before after : Option (List ℕ)) → Type 0
PrintsChanges switch config before after = (changes : List ℕ) × AreChangesTo switch config changes × Appends before after changes

-- how the replacing of its rules by those of a file ended, as a status and as a line
abbrev pub ReplacesAs : Peer → List ℕ → List Group → (before after : Option (List ℕ)) → Status → Type 0
ReplacesAs switch text config before after status =
    (loaded : Loaded) × (status ≡ loaded_status loaded) × LoadsInto switch text config loaded × Appends before after (loaded_line loaded ++ codes "\n")

abbrev pub PrintsLoaded : Peer → List ℕ → List Group → (before after : Option (List ℕ)) → Type 0
PrintsLoaded switch text config before after = (status : Status) × ((status ≡ Done) ⊎ (status ≡ Refused)) × ReplacesAs switch text config before after status

-- a beginning of the line about the replacing of its rules; it is no failure
pub record BeginsLoaded (loaded : Loaded) (before after : Option (List ℕ)) : Type 0 where
  pub ended : (loaded_status loaded ≡ Done) ⊎ (loaded_status loaded ≡ Refused)
  pub begun : AppendsBeginning before after (loaded_line loaded ++ codes "\n")

-- of those of a file
abbrev pub BeginsReplaced : Peer → List ℕ → List Group → (before after : Option (List ℕ)) → Type 0
BeginsReplaced switch text config before after = (loaded : Loaded) × LoadsInto switch text config loaded × BeginsLoaded loaded before after
