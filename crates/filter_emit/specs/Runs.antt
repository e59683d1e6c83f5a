-- The effect of a run that comes to words of a program, and the cells that it may load there.
use Rattle.std.specs.Prelude.{◌≡◌, ◌++◌, ◌<◌, ◌⊎◌, ◌∷◌, [], List, Ok, ℕ}
use Rattle.bpf_insn.specs.declared.instruction.Insn.{Insn}
use Rattle.bpf_insn.specs.Word.{instruction_of}
use Rattle.bpf_verify.specs.Path.{IsPath, IsStoredOn, LoadsAt}
use Rattle.bpf_machine.specs.Meaning.{Cells, mean}
use Rattle.filter_emit.specs.Pieces.{Meaning}

-- one more instruction is in front
abbrev pub IsPushed : Insn → List ℕ → List ℕ → Type 0
IsPushed insn before after = (word : ℕ) × (instruction_of word ≡ Ok insn) × (after ≡ word ∷ before)

-- if the cells below d were stored, each load on a path from the first word is of a cell that was stored
abbrev pub LoadsStored : ℕ → List ℕ → Type 0
LoadsStored d words = (pc cell : ℕ) → LoadsAt words pc cell → (earlier : List ℕ) → IsPath words (earlier ++ pc ∷ []) → (cell < d) ⊎ IsStoredOn words earlier cell

-- a run over the words comes to the others with nothing changed
pub record ComesTo (others words : List ℕ) : Type 0 where
  pub loads_stored : (d : ℕ) → LoadsStored d others → LoadsStored d words
  pub goes : (packet : List ℕ) (a x : ℕ) (cells : Cells) → mean words a x cells packet ≡ mean others a x cells packet

-- it goes to the yes target always
abbrev pub GoesToYes : Meaning
GoesToYes at_yes at_no words = ComesTo at_yes words
