-- How `load` ends.
use Rattle.std.proofs.Common.{◌≡◌, ◌≢◌, ◌∙◌, ◌⊎◌, ◌++◌, Bool, Err, List, Ok, Option, Result, Some, codes, false, inl, inr, refl, subst, sym, true, ℕ}
use Rattle.std.specs.Prelude.{IfErr, IfOk, OnErr, OnOk}
use Rattle.std.specs.Io.KnownBytes.{Appends}
use Rattle.clap.specs.Words.{Text}
use Rattle.config_image.specs.Image.{Group}
use Rattle.command_line.specs.Ending.{AppendsBeginning, line_of}
use Rattle.command_line.specs.Input.{IsInput}
use Rattle.command_line.specs.declared.control_address.ControlAddress.{ControlAddress}
use Rattle.command_line.specs.declared.ending.Failure.{Failure}
use Rattle.command_line.specs.declared.ending.Failure.TheVariants.{OutOfMemory, ReadFailed, WriteFailed}
use Rattle.command_line.specs.declared.ending.Status.{Status}
use Rattle.command_line.specs.declared.ending.Status.TheVariants.{Done, Failed, Refused}
use Rattle.command_streams.specs.Endings.{EndsByOneCause}
use Rattle.command_streams.specs.Failures.{FailuresValue}
use Rattle.control_client.specs.Wire.{peer_of}
use Rattle.control_client.specs.declared.device.Peer.{Peer}
use Rattle.control_line.specs.Rules.{IsConfigOf}
use Rattle.control_rules.specs.declared.loading.Loaded.{Loaded}
use Rattle.command_operating.specs.Opening.{FailsUnread, IsMadeFrom, RefusesRules}
use Rattle.command_operating.specs.Printing.{Begins, IsAskFault, PrintFails}
use Rattle.command_operating.specs.Reported.{told_alone}
use Rattle.command_operating.specs.Showing.{AreChangesTo, IsNoSwitch, IsSwitch, LoadsInto, MayFailLoading, PrintsLoad, RefusesLoad, WritesLoad, change_refused, checked, file_refused, loaded_line, loaded_status, measures_line, no_switch, replaced, shown}
use Rattle.command_operating.specs.body.Asked.{IsAsked}
use Rattle.command_operating.specs.body.Changes.{BeginsLoaded, BeginsReplaced, PrintsChanges, PrintsLoaded, ReplacesAs}
use Rattle.command_operating.proofs.CauseLemmas.{once_as}
use Rattle.command_operating.proofs.PrintingLemmas.{begins_as, begins_text, fault_as, print_as, print_unwritten}
use Rattle.command_operating.proofs.ShowingLemmas.{is_switch, never_failed}

-- ---- what is printed of a switch

-- the changes were not printed whole
pub changes_begun : (switch : Peer) (config : List Group) (before after : Option (List ℕ)) (changes : List ℕ) → AreChangesTo switch config changes
    → AppendsBeginning before after changes → Begins (PrintsChanges switch config) before after
changes_begun switch config before after changes are so_far =
    begins_text (PrintsChanges switch config) before after changes so_far (λ whole written. (changes, are, written))

-- the line of a replacing
pub replaced_as : (switch : Peer) (text : List ℕ) (config : List Group) (loaded : Loaded) (before after : Option (List ℕ)) (ended : Result Status Failure)
    → IfOk ended (λ status. status ≡ loaded_status loaded) → OnOk ended (Appends before after (loaded_line loaded ++ codes "\n")) → LoadsInto switch text config loaded
    → IfOk ended (ReplacesAs switch text config before after)
replaced_as switch text config loaded before after (Ok given) status printed loads = (loaded, status, loads, printed)
replaced_as switch text config loaded before after (Err why) status printed loads = tt

pub ended_replaced : (switch : Peer) (text : List ℕ) (config : List Group) (before after : Option (List ℕ)) (ended : Result Status Failure) (status : Status)
    → IfOk ended (λ given. status ≡ given) → OnErr ended (status ≡ Failed)
    → IfOk ended (ReplacesAs switch text config before after) → (status ≡ Failed → ⊥) → ReplacesAs switch text config before after status
ended_replaced switch text config before after (Ok given) status is failed printed never = subst (ReplacesAs switch text config before after) (sym is) printed
ended_replaced switch text config before after (Err why) status is failed printed never = absurd (never failed)

-- its line was not printed whole
pub loaded_begun : {A : Type 0} (loaded : Loaded) (before after : Option (List ℕ)) (result : Result A Failure)
    → (loaded_status loaded ≡ Done) ⊎ (loaded_status loaded ≡ Refused) → AppendsBeginning before after (loaded_line loaded ++ codes "\n")
    → IfErr result (λ failure. failure ≡ WriteFailed → BeginsLoaded loaded before after)
loaded_begun loaded before after (Ok given) ended so_far = tt
loaded_begun loaded before after (Err why) ended so_far = λ is. record { ended = ended; begun = so_far }

replaced_begun : (switch : Peer) (text : List ℕ) (config : List Group) (before after : Option (List ℕ)) → BeginsReplaced switch text config before after
    → Begins (PrintsLoaded switch text config) before after
replaced_begun switch text config before after (loaded, loads, begins) =
    begins_text (PrintsLoaded switch text config) before after (loaded_line loaded ++ codes "\n") begins.begun
    (λ whole written. (loaded_status loaded, begins.ended, (loaded, refl, loads, written)))

pub all_begun : (switch : Peer) (text : List ℕ) (config : List Group) (before after : Option (List ℕ)) (ended : Result Status Failure)
    → IfErr ended (λ failure. failure ≡ WriteFailed → BeginsReplaced switch text config before after)
    → IfErr ended (λ failure. failure ≡ WriteFailed → Begins (PrintsLoaded switch text config) before after)
all_begun switch text config before after (Ok given) begun = tt
all_begun switch text config before after (Err why) begun = λ is. replaced_begun switch text config before after (begun is)

-- ---- what `load` writes

module _ (control : Option Text) (input before after : Option (List ℕ)) (only_check only_diff : Bool) where
  pub refuses_switch : only_check ≡ false → IsNoSwitch control → Appends before after (codes "refused C1\n") → RefusesLoad control input before after only_check only_diff
  refuses_switch is none written = subst (λ (b : Bool). RefusesLoad control input before after b only_diff) (sym is) (no_switch only_diff none written)

  module _ (no_check : only_check ≡ false) (switch : Peer) (is_switch : IsSwitch control switch) (text : List ℕ) (config : List Group) (whole : IsInput input text)
      (made : IsConfigOf text config) where
    pub shows : only_diff ≡ true → PrintsChanges switch config before after → WritesLoad control input before after only_check only_diff
    shows is done =
        subst (λ (b : Bool). WritesLoad control input before after b only_diff) (sym no_check)
        (subst (λ (b : Bool). WritesLoad control input before after false b) (sym is)
        (shown switch is_switch config (record { text = text; is_input = whole; made = made }) done.0 done.1 done.2))

    pub replaces : only_diff ≡ false → (status : Status) → ((status ≡ Failed → ⊥) → ReplacesAs switch text config before after status) → status ≡ Done
        → WritesLoad control input before after only_check only_diff
    replaces is status printed done =
        let p = printed (never_failed status (inl done)) in
        subst (λ (b : Bool). WritesLoad control input before after b only_diff) (sym no_check)
        (subst (λ (b : Bool). WritesLoad control input before after false b) (sym is) (replaced switch is_switch text config whole made p.0 p.2 (sym p.1 ∙ done) p.3))

    pub refuses_change : only_diff ≡ false → (status : Status) → ((status ≡ Failed → ⊥) → ReplacesAs switch text config before after status) → status ≡ Refused
        → RefusesLoad control input before after only_check only_diff
    refuses_change is status printed refused =
        let p = printed (never_failed status (inr refused)) in
        subst (λ (b : Bool). RefusesLoad control input before after b only_diff) (sym no_check)
        (subst (λ (b : Bool). RefusesLoad control input before after false b) (sym is) (change_refused switch is_switch text config whole made p.0 p.2 (sym p.1 ∙ refused) p.3))

    prints_loaded : only_diff ≡ false → PrintsLoaded switch text config before after → PrintsLoad control input only_check only_diff before after
    prints_loaded is (status, inl done, ends) = inl (replaces is status (λ never. ends) done)
    prints_loaded is (status, inr refused, ends) = inr (refuses_change is status (λ never. ends) refused)

-- ---- why it failed

module _ (control : Option Text) (only_check : Bool) where
  pub may_check : only_check ≡ true → (failure : Failure) → (failure ≡ ReadFailed) ⊎ (failure ≡ OutOfMemory) → MayFailLoading control only_check failure
  may_check is failure cause = subst (λ (b : Bool). MayFailLoading control b failure) (sym is) cause

  module _ (text : Text) (address : ControlAddress) (asked : IsAsked control text address) (no_check : only_check ≡ false) where
    may_ask : (failure : Failure) → IsAskFault (Unit {0}) address failure → MayFailLoading control only_check failure
    may_ask failure fault =
        subst (λ (b : Bool). MayFailLoading control b failure) (sym no_check)
        (subst (λ (c : Option Text). MayFailLoading c false failure) (sym asked.given) (address, asked.is_address, fault))

    pub may_read : (failure : Failure) → (failure ≡ ReadFailed) ⊎ (failure ≡ OutOfMemory) → MayFailLoading control only_check failure
    may_read failure cause = may_ask failure (of_cause cause)
      where
        of_cause : (failure ≡ ReadFailed) ⊎ (failure ≡ OutOfMemory) → IsAskFault (Unit {0}) address failure
        of_cause (inl is) = record { no_thread = λ same. cc; over_udp = λ same path. cc; of_file = λ same. tt }
        of_cause (inr is) = record { no_thread = λ same. cc; over_udp = λ same path. cc; of_file = λ same. tt }

    pub may_fail_asking : (failure : Failure) → IsAskFault ⊥ address failure → MayFailLoading control only_check failure
    may_fail_asking failure fault = may_ask failure (fault_as ⊥ (Unit {0}) address failure (λ never. tt) fault)

-- ---- how it failed

module _ (control : Option Text) (input before after told_before told_after : Option (List ℕ)) (only_check only_diff : Bool) where
  abbrev pub LoadFails : Failure → Type 0
  LoadFails failure =
      PrintFails (PrintsLoad control input only_check only_diff) (MayFailLoading control only_check) control before after told_before told_after failure

  -- there is no configuration
  pub fail_unread : ((failure : Failure) → (failure ≡ ReadFailed) ⊎ (failure ≡ OutOfMemory) → MayFailLoading control only_check failure) → (failure : Failure)
      → FailsUnread input before after told_before told_after failure → LoadFails failure
  fail_unread may failure unread = record {
    reason = λ other. may failure (not_written other unread.cause);
    unwritten = unread.unwritten;
    begun = λ is. begins_as (RefusesRules input) (PrintsLoad control input only_check only_diff) before after
        (λ whole refuses. inr (file_refused only_check only_diff refuses)) (unread.begun is);
    told = told_alone unread.told;
  }
    where
      not_written : failure ≢ WriteFailed → (failure ≡ ReadFailed) ⊎ ((failure ≡ OutOfMemory) ⊎ (failure ≡ WriteFailed))
          → (failure ≡ ReadFailed) ⊎ (failure ≡ OutOfMemory)
      not_written other (inl is) = inl is
      not_written other (inr (inl is)) = inr is
      not_written other (inr (inr is)) = absurd (other is)

  -- the measures were not written
  pub fail_measures : only_check ≡ true → (config : List Group) → IsMadeFrom input config → (failure : Failure) → failure ≡ WriteFailed
      → AppendsBeginning before after (measures_line config ++ codes "\n") → AppendsBeginning told_before told_after (line_of failure) → LoadFails failure
  fail_measures is config made failure unwritten so_far told =
      print_unwritten (PrintsLoad control input only_check only_diff) (MayFailLoading control only_check) control before after told_before told_after failure unwritten
      (begins_text (PrintsLoad control input only_check only_diff) before after (measures_line config ++ codes "\n") so_far
      (λ whole written. inl (subst (λ (b : Bool). WritesLoad control input before whole b only_diff) (sym is) (checked only_diff config made written))))
      (told_alone told)

  module _ (text : Text) (address : ControlAddress) (asked : IsAsked control text address) (no_check : only_check ≡ false) (bytes : List ℕ) (config : List Group)
      (whole : IsInput input bytes) (made : IsConfigOf bytes config) where
    asks : (Writes : Option (List ℕ) → Option (List ℕ) → Type 0) → ((end : Option (List ℕ)) → Writes before end → PrintsLoad control input only_check only_diff before end)
        → (failure : Failure) → PrintFails Writes (IsAskFault ⊥ address) (Some text) before after told_before told_after failure → LoadFails failure
    asks Writes more failure fails =
        subst (λ (c : Option Text). PrintFails (PrintsLoad control input only_check only_diff) (MayFailLoading control only_check) c before after told_before told_after failure)
        (sym asked.given)
        (print_as Writes (PrintsLoad control input only_check only_diff) (IsAskFault ⊥ address) (MayFailLoading control only_check) (Some text) before after told_before told_after
        more (may_fail_asking control only_check text address asked no_check) failure fails)

    -- the changes were not printed
    pub fail_changes : only_diff ≡ true → (failure : Failure)
        → PrintFails (PrintsChanges (peer_of address) config) (IsAskFault ⊥ address) (Some text) before after told_before told_after failure → LoadFails failure
    fail_changes is =
        asks (PrintsChanges (peer_of address) config)
        (λ end done. inl (shows control input before end only_check only_diff no_check (peer_of address) (is_switch control text address asked) bytes config whole made is done))

    -- the rules were not replaced
    pub fail_replacing : only_diff ≡ false → (failure : Failure)
        → PrintFails (PrintsLoaded (peer_of address) bytes config) (IsAskFault ⊥ address) (Some text) before after told_before told_after failure → LoadFails failure
    fail_replacing is =
        asks (PrintsLoaded (peer_of address) bytes config)
        (λ end done. prints_loaded control input before end only_check only_diff no_check (peer_of address) (is_switch control text address asked) bytes config whole made is done)

-- it read no more of the file
pub ends_asked : (Reports Reports' : Failure → Type 0) (status : Status) (read read' : ℕ) (written written' : FailuresValue)
    → ((failure : Failure) → Reports failure → Reports' failure) → read' ≡ read → ((read : ℕ) → EndsByOneCause Reports status read read written written')
    → EndsByOneCause Reports' status read read' written written'
ends_asked Reports Reports' status read read' written written' more kept ends =
    subst (λ (r : ℕ). EndsByOneCause Reports' status read r written written') (sym kept) (once_as Reports Reports' read read written written' status more (ends read))
