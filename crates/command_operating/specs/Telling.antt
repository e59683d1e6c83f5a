-- The output of the command `tell` (docs/COMMANDS.md, "tell").
use Rattle.std.specs.Prelude.{◌≡◌, ◌≢◌, ◌&&◌, ◌==◌, ◌++◌, ◌∷◌, Bool, List, None, Option, Some, [], codes, false, flat_map, if◌then◌else◌, not, true, ℕ}
use Rattle.std.specs.List.{list_any}
use Rattle.std.specs.Str.{bytes_eq}
use Rattle.std.specs.Io.KnownBytes.{Appends}
use Rattle.clap.specs.Words.{Text}
use Rattle.command_line.specs.ControlAddress.{IsNoControlAddress, SpellsControlAddress}
use Rattle.command_line.specs.Ending.{AppendsBeginning, line_of}
use Rattle.command_line.specs.declared.control_address.ControlAddress.{ControlAddress}
use Rattle.command_line.specs.declared.ending.Failure.{Failure}
use Rattle.command_line.specs.declared.ending.Failure.TheVariants as failure
use Rattle.control_client.specs.Lines.{script_known}
use Rattle.control_client.specs.Tell.{ChangeStopsOverSocket, StopsOverSocket, TellsAll, TellsChange}
use Rattle.control_client.specs.Wire.{peer_of}
use Rattle.control_client.specs.declared.device.Peer.{Peer}
use Rattle.control_line.specs.Answer.{NumberedLine, numbered}
use Rattle.command_operating.specs.RefusalLines.{Shows}
use Rattle.command_operating.specs.Reported.{IsTold}

-- the lines of one word
abbrev pub whole_lines : List Text
whole_lines = codes "show" ∷ codes "sweep" ∷ codes "stop" ∷ codes "totals" ∷ []

abbrev pub is_whole : Text → Bool
is_whole word = list_any (λ line. bytes_eq word line) whole_lines

-- a space is 32
abbrev pub has_space : Text → Bool
has_space word = list_any (λ byte. byte == 32) word

-- words are one line if the first of them is no line of one word, and none has a space
abbrev pub is_one_line : List Text → Bool
is_one_line [] = false
is_one_line (first ∷ rest) = not (is_whole first) && not (list_any has_space (first ∷ rest))

-- the words, with a space between each two
abbrev pub joined : List Text → Text
joined [] = []
joined (first ∷ rest) = first ++ flat_map (λ (word : Text). 32 ∷ word) rest

-- the lines that words are: one, or a line each
abbrev pub lines_of_words : List Text → List Text
lines_of_words words = if is_one_line words then joined words ∷ [] else words

-- the lines to send, with their numbers: those of the words, or of a script if there are none
abbrev pub lines_told : List Text → Option (List ℕ) → Option (List NumberedLine)
lines_told [] input = script_known input
lines_told (first ∷ rest) input = Some (numbered 1 (lines_of_words (first ∷ rest)))

-- the lines were sent, all as one change or not, and those that were not done were shown
abbrev pub Tells : Bool → Peer → Option (List NumberedLine) → (before after told_before told_after : Option (List ℕ)) → Bool → Type 0
Tells false switch lines before after told_before told_after refused = TellsAll Shows switch lines None None before after told_before told_after refused
Tells true switch lines before after told_before told_after refused = TellsChange Shows switch lines None None before after told_before told_after refused

-- or it ended by a fault
abbrev pub StopsTelling : Bool → Failure → Peer → Option (List NumberedLine) → (before after told_before told_after : Option (List ℕ)) → Type 0
StopsTelling false why switch lines before after told_before told_after = StopsOverSocket Shows why switch lines before after told_before told_after
StopsTelling true why switch lines before after told_before told_after = ChangeStopsOverSocket why switch lines before after × (told_after ≡ told_before)

-- all replies were written, one of them a refusal or none, and those that are refusals were shown on standard error
pub record WritesReplies (control : Text) (all : Bool) (words : List Text) (input before after told_before told_after : Option (List ℕ)) (refused : Bool) : Type 0 where
  pub address : ControlAddress
  pub is_address : SpellsControlAddress control address
  pub tells_all : Tells all (peer_of address) (lines_told words input) before after told_before told_after refused

-- `tell` failed so: the refusal of an address could not be written, or it stopped after some requests; if it has words it reads no input
pub data TellFails (control : Text) (all : Bool) (words : List Text) (input before after told_before told_after : Option (List ℕ)) : Failure → Type 0 where
  unwritten_refusal : IsNoControlAddress control →
      AppendsBeginning told_before told_after (line_of failure.WriteFailed) → TellFails control all words input before after told_before told_after failure.WriteFailed
  stopped : (address : ControlAddress) (why : Failure) (told_then : Option (List ℕ)) → SpellsControlAddress control address → (words ≢ [] → why ≢ failure.ReadFailed) →
      StopsTelling all why (peer_of address) (lines_told words input) before after told_before told_then → IsTold (Some control) why told_then told_after →
      TellFails control all words input before after told_before told_after why

abbrev pub EndsInTellFailure : Text → Bool → List Text → (input before after told_before told_after : Option (List ℕ)) → Type 0
EndsInTellFailure control all words input before after told_before told_after =
    (why : Failure) × TellFails control all words input before after told_before told_after why

-- `tell` is given a text that is no address, and the refusal of that was written; or a reply is a refusal, all replies were written, and
-- those that are refusals were shown on standard error
pub data IsToldRefusal (control : Text) (all : Bool) (words : List Text) (input before after told_before told_after : Option (List ℕ)) : Type 0 where
  no_switch : IsNoControlAddress control → Appends before after (codes "refused C1\n") → IsToldRefusal control all words input before after told_before told_after
  line_refused : WritesReplies control all words input before after told_before told_after true → IsToldRefusal control all words input before after told_before told_after
