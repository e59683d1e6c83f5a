-- What a run does at the first word.
use Rattle.std.proofs.Common.{◌≡◌, ◌∙◌, ◌∷◌, ◌+◌, ◌<◌, ◌^◌, List, Some, ap, arith, drop, ℕ}
use Rattle.bpf_insn.specs.declared.instruction.Insn.{Insn}
use Rattle.bpf_insn.specs.declared.instruction.Insn.TheVariants.{LoadAbsolute, LoadIndexed, LoadXHeader}
use Rattle.bpf_insn.specs.declared.instruction.Size.{Size}
use Rattle.bpf_insn.specs.declared.instruction.Size.TheVariants.{Byte}
use Rattle.bpf_insn.specs.Word.{FieldsFit, instruction_of, word_of}
use Rattle.bpf_insn.proofs.WordLemmas.{instruction_of-word_of}
use Rattle.bpf_machine.specs.Meaning.{Cells, Effect, Ending, a_or_end, effect, ends, goes_on, header_length, mean, word_effect, x_or_end}
use Rattle.bpf_machine.specs.Packet.{packet_number}
use Rattle.bpf_machine.proofs.RunLemmas.{means_by_first_word}

-- how a run goes on after an effect, over the words behind
abbrev pub after_effect : Effect → List ℕ → List ℕ → Ending
after_effect (ends ending) words packet = ending
after_effect (goes_on dropped a x cells) words packet = mean (drop dropped words) a x cells packet

mean_by : (word : ℕ) (words : List ℕ) (a x : ℕ) (cells : Cells) (packet : List ℕ) (does : Effect) → word_effect (instruction_of word) a x cells packet ≡ does → mean (word ∷ words) a x cells packet ≡ after_effect does words packet
mean_by word words a x cells packet (ends ending) is = ((means_by_first_word packet).first_ends word words a x cells ending is).0
mean_by word words a x cells packet (goes_on dropped a' x' cells') is = ((means_by_first_word packet).first_goes_on word words a x cells dropped a' x' cells' is).0

pub mean_first : (insn : Insn) (words : List ℕ) (a x : ℕ) (cells : Cells) (packet : List ℕ) → FieldsFit insn → mean (word_of insn ∷ words) a x cells packet ≡ after_effect (effect insn a x cells packet) words packet
mean_first insn words a x cells packet fits =
    mean_by (word_of insn) words a x cells packet (effect insn a x cells packet) (ap (λ read. word_effect read a x cells packet) (instruction_of-word_of insn fits))

module _ (words packet : List ℕ) (a x : ℕ) (cells : Cells) where
  pub load_first : (size : Size) (k v : ℕ) → k < 2 ^ 32 → packet_number packet size k ≡ Some v → mean (word_of (LoadAbsolute size k) ∷ words) a x cells packet ≡ mean words v x cells packet
  load_first size k v fits is = mean_first (LoadAbsolute size k) words a x cells packet fits ∙ ap (λ o. after_effect (a_or_end o x cells) words packet) is

  pub load_indexed_first : (size : Size) (v : ℕ) → packet_number packet size (x + 0) ≡ Some v → mean (word_of (LoadIndexed size 0) ∷ words) a x cells packet ≡ mean words v x cells packet
  load_indexed_first size v is = mean_first (LoadIndexed size 0) words a x cells packet (omega arith) ∙ ap (λ o. after_effect (a_or_end o x cells) words packet) is

  pub load_header_first : (v : ℕ) → header_length (packet_number packet Byte 0) ≡ Some v → mean (word_of (LoadXHeader 0) ∷ words) a x cells packet ≡ mean words a v cells packet
  load_header_first v is = mean_first (LoadXHeader 0) words a x cells packet (omega arith) ∙ ap (λ o. after_effect (x_or_end o a cells) words packet) is
