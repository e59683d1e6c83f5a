-- The lines of commands: what they spell, and that a rules file has each as a line of its own.
use Rattle.std.proofs.Common.{◌≡◌, ◌∙◌, ◌<◌, ◌^◌, ◌∷◌, ◌++◌, List, [], ap, append_assoc, arith, codes, decimal, false, inl, nat_le, refl, suc, ℕ}
use Rattle.std.specs.List.{list_all}
use Rattle.std.proofs.lemmas.Bool.{and_parts, leb-true, ne_eqb}
use Rattle.std.proofs.lemmas.Grind.{flat_map-append}
use Rattle.ipv4_fields.specs.declared.endpoint.Endpoint.{Endpoint}
use Rattle.ipv4_fields.specs.Cut.{Lacks}
use Rattle.ipv4_fields.specs.Endpoint.{IsEndpoint, endpoint_text}
use Rattle.ipv4_fields.proofs.TextLemmas.{lacks-append, lacks-cons, lacks-decimal, lacks-endpoint}
use Rattle.bpf_asm.specs.Text.{IsPrintable, printed_in_line}
use Rattle.bpf_verify.specs.Accepted.{IsAccepted}
use Rattle.bpf_asm.proofs.ProgramLemmas.{line_printable}
use Rattle.filter_program.specs.Program.{Source, assembly}
use Rattle.member_group.specs.Over.{command_over}
use Rattle.member_group.specs.declared.command.Command.{Command}
use Rattle.member_group.specs.declared.command.Command.TheVariants.{AddGroup, ClearFilter, ClearSelector, Join, Leave, LockFilter, RemoveGroup, SetFilter, SetSelector}
use Rattle.control_line.specs.Request.{Spells, change}
use Rattle.control_line.specs.Rules.{is_skipped, without_return}
use Rattle.control_rules.specs.Text.{assembly_text, change_text, changes_text, keyed, numbered}

pub changes-append : (one other : List (Command (List ℕ))) → changes_text (one ++ other) ≡ changes_text one ++ changes_text other
changes-append one other = flat_map-append (λ command. change_text command ++ 10 ∷ []) one other

-- ---- what a line spells

-- numbers and endpoints in their ranges, and programs that are accepted
abbrev pub IsInRange : Command (List ℕ) → Type 0
IsInRange (AddGroup key) = IsEndpoint key
IsInRange (RemoveGroup key) = IsEndpoint key
IsInRange (Join key id to) = IsEndpoint key × (id < 2 ^ 32) × IsEndpoint to
IsInRange (Leave key id) = IsEndpoint key × (id < 2 ^ 32)
IsInRange (SetSelector key words) = IsEndpoint key × IsAccepted words
IsInRange (ClearSelector key) = IsEndpoint key
IsInRange (SetFilter key id words) = IsEndpoint key × (id < 2 ^ 32) × IsAccepted words
IsInRange (ClearFilter key id) = IsEndpoint key × (id < 2 ^ 32)
IsInRange (LockFilter key id) = IsEndpoint key × (id < 2 ^ 32)

-- the command with the texts of its programs
abbrev pub asked_of : Command (List ℕ) → Command Source
asked_of command = command_over (λ words. assembly (printed_in_line words)) command

keyed_is : (word : List ℕ) (key : Endpoint) (rest : List ℕ) → keyed word key ++ rest ≡ word ++ (codes " " ++ (endpoint_text key ++ rest))
keyed_is word key rest = append_assoc word (codes " " ++ endpoint_text key) rest

numbered_is : (word : List ℕ) (key : Endpoint) (id : ℕ) (rest : List ℕ) →
    numbered word key id ++ rest ≡ word ++ (codes " " ++ (endpoint_text key ++ (codes " " ++ (decimal id ++ rest))))
numbered_is word key id rest = append_assoc (keyed word key) (codes " " ++ decimal id) rest ∙ keyed_is word key (codes " " ++ (decimal id ++ rest))

pub change_spells : (command : Command (List ℕ)) → IsInRange command → Spells (change_text command) (change (asked_of command))
change_spells (AddGroup key) fits = (codes "add" ∷ endpoint_text key ∷ [], refl, (fits, refl))
change_spells (RemoveGroup key) fits = (codes "remove" ∷ endpoint_text key ∷ [], refl, (fits, refl))
change_spells (Join key id to) fits =
    (codes "join" ∷ endpoint_text key ∷ decimal id ∷ endpoint_text to ∷ [], numbered_is (codes "join") key id (codes " " ++ endpoint_text to), (fits.0, fits.1, fits.2, refl))
change_spells (Leave key id) fits =
    (codes "leave" ∷ endpoint_text key ∷ decimal id ∷ [], keyed_is (codes "leave") key (codes " " ++ decimal id), (fits.0, fits.1, refl))
change_spells (SetSelector key words) fits =
    (codes "selector" ∷ endpoint_text key ∷ codes "asm" ∷ printed_in_line words ∷ [], keyed_is (codes "selector") key _, (fits.0, refl))
change_spells (ClearSelector key) fits =
    (codes "selector" ∷ endpoint_text key ∷ codes "none" ∷ [], keyed_is (codes "selector") key _, (fits, refl))
change_spells (SetFilter key id words) fits =
    (codes "filter" ∷ endpoint_text key ∷ decimal id ∷ codes "asm" ∷ printed_in_line words ∷ [], numbered_is (codes "filter") key id _, (fits.0, fits.1, refl))
change_spells (ClearFilter key id) fits =
    (codes "filter" ∷ endpoint_text key ∷ decimal id ∷ codes "none" ∷ [], numbered_is (codes "filter") key id _, (fits.0, fits.1, refl))
change_spells (LockFilter key id) fits =
    (codes "lock" ∷ endpoint_text key ∷ decimal id ∷ [], keyed_is (codes "lock") key (codes " " ++ decimal id), (fits.0, fits.1, refl))

-- ---- the line in a rules file

module _ (s : ℕ) (low : s < 32) where
  lacks_printable : (text : List ℕ) → IsPrintable text → Lacks s text
  lacks_printable [] all = λ k inside. absurd (omega arith)
  lacks_printable (b ∷ text) all =
      let both = and_parts (nat_le 32 b) (list_all (λ it. nat_le 32 it) text) all in
      let high = leb-true 32 b both.0 in
      lacks-cons s b text (λ same. omega arith) (lacks_printable text both.1)

  lacks_word : (text : List ℕ) → IsPrintable text → Lacks s text
  lacks_word text all = lacks_printable text all

  lacks_key : (key : Endpoint) → Lacks s (endpoint_text key)
  lacks_key key = lacks-endpoint s key (omega arith)

  lacks_number : (n : ℕ) → Lacks s (decimal n)
  lacks_number n = lacks-decimal s n (inl (omega arith))

  lacks_keyed : (word : List ℕ) (key : Endpoint) → IsPrintable word → Lacks s (keyed word key)
  lacks_keyed word key all =
      lacks-append s word (codes " " ++ endpoint_text key) (lacks_word word all) (lacks-append s (codes " ") (endpoint_text key) (lacks_word (codes " ") refl) (lacks_key key))

  lacks_numbered : (word : List ℕ) (key : Endpoint) (id : ℕ) → IsPrintable word → Lacks s (numbered word key id)
  lacks_numbered word key id all =
      lacks-append s (keyed word key) (codes " " ++ decimal id) (lacks_keyed word key all) (lacks-append s (codes " ") (decimal id) (lacks_word (codes " ") refl) (lacks_number id))

  lacks_assembly : (words : List ℕ) → IsAccepted words → Lacks s (assembly_text words)
  lacks_assembly words accepted =
      lacks-append s (codes " asm ") (printed_in_line words) (lacks_word (codes " asm ") refl) (lacks_printable (printed_in_line words) (line_printable words accepted))

  pub lacks_change : (command : Command (List ℕ)) → IsInRange command → Lacks s (change_text command)
  lacks_change (AddGroup key) fits = lacks_keyed (codes "add") key refl
  lacks_change (RemoveGroup key) fits = lacks_keyed (codes "remove") key refl
  lacks_change (Join key id to) fits =
      lacks-append s (numbered (codes "join") key id) (codes " " ++ endpoint_text to) (lacks_numbered (codes "join") key id refl)
      (lacks-append s (codes " ") (endpoint_text to) (lacks_word (codes " ") refl) (lacks_key to))
  lacks_change (Leave key id) fits = lacks_numbered (codes "leave") key id refl
  lacks_change (SetSelector key words) fits =
      lacks-append s (keyed (codes "selector") key) (assembly_text words) (lacks_keyed (codes "selector") key refl) (lacks_assembly words fits.1)
  lacks_change (ClearSelector key) fits =
      lacks-append s (keyed (codes "selector") key) (codes " none") (lacks_keyed (codes "selector") key refl) (lacks_word (codes " none") refl)
  lacks_change (SetFilter key id words) fits =
      lacks-append s (numbered (codes "filter") key id) (assembly_text words) (lacks_numbered (codes "filter") key id refl) (lacks_assembly words fits.2)
  lacks_change (ClearFilter key id) fits =
      lacks-append s (numbered (codes "filter") key id) (codes " none") (lacks_numbered (codes "filter") key id refl) (lacks_word (codes " none") refl)
  lacks_change (LockFilter key id) fits = lacks_numbered (codes "lock") key id refl

-- it is not skipped
pub change_counts : (command : Command (List ℕ)) → is_skipped (change_text command) ≡ false
change_counts (AddGroup key) = refl
change_counts (RemoveGroup key) = refl
change_counts (Join key id to) = refl
change_counts (Leave key id) = refl
change_counts (SetSelector key words) = refl
change_counts (ClearSelector key) = refl
change_counts (SetFilter key id words) = refl
change_counts (ClearFilter key id) = refl
change_counts (LockFilter key id) = refl

-- and has no CR to be dropped
pub no_return : (text : List ℕ) → Lacks 13 text → without_return text ≡ text
no_return [] lacks = refl
no_return (b ∷ []) lacks = rw (ne_eqb b 13 (lacks 0 (omega arith))) refl
no_return (b ∷ next ∷ text) lacks = ap (λ rest. b ∷ rest) (no_return (next ∷ text) (λ k inside. lacks (suc k) (omega arith)))
