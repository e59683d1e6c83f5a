-- Words are added line by line: what the lines that are left give is what all lines give.
use Rattle.std.proofs.Common.{◌≡◌, ◌∙◌, ◌+◌, ◌++◌, ◌<◌, ◌≤◌, List, None, Option, Some, [], ap, append_assoc, arith, drop, get_or, length, map, refl, sym, ◌∷◌, ℕ}
use Rattle.std.specs.Borrow.{Bor}
use Rattle.std.proofs.lemmas.List.{append-nil, drop_all, drop_more, length_push}
use Rattle.bpf_insn.specs.Word.{word_of}
use Rattle.bpf_asm.specs.declared.fault.AsmFault.{AsmFault}
use Rattle.bpf_asm.specs.declared.line.Line.{Line as LentLine}
use Rattle.bpf_asm.specs.body.Reading.{line_at}
use Rattle.bpf_asm.specs.Statement.{Line, Statement}
use Rattle.bpf_asm.specs.Target.{IsCode, count_of, first_of, statement_fault, statements_of, targets_fault, with_statement}
use Rattle.bpf_asm.specs.body.View.{AddsWord, line_of, lines_left}
use Rattle.bpf_asm.proofs.TargetLemmas.{no_statement_fault}

-- the lines that are left of a text
abbrev pub lines_at : Option (Bor (List ℕ)) → List Line
lines_at left = map line_at (lines_left left)

-- a line with nothing on it
abbrev pub blank : LentLine
blank = record { label = None; statement = None }

-- the lines from place i on: one, and those behind it, or none
pub lines_more : (lines : List LentLine) (i : ℕ) → i < length lines → map line_of (drop i lines) ≡ line_of (get_or lines i blank) ∷ map line_of (drop (i + 1) lines)
lines_more lines i inside = ap (map line_of) (drop_more lines i blank inside)

pub lines_done : (lines : List LentLine) (i : ℕ) → length lines ≤ i → map line_of (drop i lines) ≡ []
lines_done lines i behind = ap (map line_of) (drop_all i lines behind)

-- what the lines that are left give behind these words is what all lines give
pub record Emits (places : List ℕ → Option ℕ) (whole left : List Line) (n : ℕ) (words : List ℕ) : Type 0 where
  pub code : (rest : List ℕ) → IsCode places (length words) (statements_of left) rest → IsCode places 0 (statements_of whole) (words ++ rest)
  pub fault : targets_fault places (length words) n left ≡ targets_fault places 0 1 whole

module _ (places : List ℕ → Option ℕ) where
  length-added : (statement : Option Statement) (words after : List ℕ) → AddsWord places words statement after → length after ≡ length words + count_of statement
  length-added None words after added = rw added (omega arith)
  length-added (Some statement) words after (insn, is, added) = rw added (length_push words (word_of insn))

  code_more : (statement : Option Statement) (words after rest : List ℕ) (statements whole : List Statement) → AddsWord places words statement after → ((others : List ℕ) → IsCode places (length words) (with_statement statement statements) others → IsCode places 0 whole (words ++ others)) → IsCode places (length after) statements rest → IsCode places 0 whole (after ++ rest)
  code_more None words after rest statements whole added code left = rw added (code rest (rw added at left))
  code_more (Some statement) words after rest statements whole (insn, is, added) code left =
      rw (added, append_assoc) (code (word_of insn ∷ rest) (insn, rest, refl, is, rw (added, length_push words (word_of insn)) at left))

  no_added_fault : (statement : Option Statement) (n : ℕ) (words after : List ℕ) → AddsWord places words statement after → statement_fault places (length words) n statement ≡ None
  no_added_fault None n words after added = refl
  no_added_fault (Some statement) n words after (insn, is, added) = no_statement_fault places (length words) n statement insn is

  pub emits_more : (whole left : List Line) (line : Line) (n : ℕ) (words after : List ℕ) → Emits places whole (line ∷ left) n words → AddsWord places words line.statement after → Emits places whole left (n + 1) after
  emits_more whole left line n words after emits added = record {
    code = λ rest code. code_more line.statement words after rest (statements_of left) (statements_of whole) added emits.code code;
    fault =
        ap (λ pc. targets_fault places pc (n + 1) left) (length-added line.statement words after added)
        ∙ sym (ap (λ fault. first_of fault (targets_fault places (length words + count_of line.statement) (n + 1) left)) (no_added_fault line.statement n words after added))
        ∙ emits.fault;
  }

  pub emits_fault : (whole left : List Line) (line : Line) (n : ℕ) (words : List ℕ) (fault : AsmFault) → Emits places whole (line ∷ left) n words → statement_fault places (length words) n line.statement ≡ Some fault → targets_fault places 0 1 whole ≡ Some fault
  emits_fault whole left line n words fault emits faulty =
      sym emits.fault ∙ ap (λ first. first_of first (targets_fault places (length words + count_of line.statement) (n + 1) left)) faulty

  pub emits_all : (whole : List Line) (n : ℕ) (words : List ℕ) → Emits places whole [] n words → IsCode places 0 (statements_of whole) words
  emits_all whole n words emits = rw append-nil at (emits.code [] refl)
