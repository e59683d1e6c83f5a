-- The text of the program in a line, and a line of it by its number.
use Rattle.std.proofs.Common.{◌≡◌, ◌∙◌, ◌≤◌, ◌∷◌, List, MatchOption, None, Option, Some, [], ap, le-ltb, option_map, refl, sym, ℕ}
use Rattle.member_group.specs.declared.command.Command.{Command}
use Rattle.control_line.specs.Answer.{program_in}
use Rattle.control_line.specs.Column.{HasProgramText, bytes_in, place_of_line}
use Rattle.control_line.specs.Request.{Spells, change}
use Rattle.filter_program.specs.Program.{Source}
use Rattle.control_line.proofs.OneLineLemmas.{one_command}

pub one_text : (line one other : List ℕ) → HasProgramText line one → HasProgramText line other → one ≡ other
one_text line one other has also =
    let same : Some has.source ≡ Some also.source =
    sym has.program ∙ (ap program_in (one_command line has.command also.command has.spells also.spells) ∙ also.program) in
    let sources : has.source ≡ also.source = cc in
    has.text_is ∙ (ap bytes_in sources ∙ sym also.text_is)

-- the text of a command's program is the one in its line
pub text_of_command : {A : Type 0} (bytes : A → List ℕ) (line : List ℕ) (command : Command Source) (result : Option A) → Spells line (change command)
    → option_map bytes result ≡ option_map bytes_in (program_in command)
    → MatchOption result ((text : List ℕ) → HasProgramText line text → ⊥) (λ one. HasProgramText line (bytes one))
text_of_command {A} bytes line command result spells same = by_both result (program_in command) refl same
  where
    by_both : (one : Option A) (program : Option Source) → program_in command ≡ program → option_map bytes one ≡ option_map bytes_in program
        → MatchOption one ((text : List ℕ) → HasProgramText line text → ⊥) (λ given. HasProgramText line (bytes given))
    by_both None None is same = λ text has.
        let both : Some has.source ≡ None = sym has.program ∙ (ap program_in (one_command line has.command command has.spells spells) ∙ is) in absurd (cc)
    by_both None (Some source) is same = absurd (cc)
    by_both (Some one) None is same = absurd (cc)
    by_both (Some one) (Some source) is same = record { command = command; source = source; spells = spells; program = is; text_is = cc }

-- the first line of a text begins with it
pub first_place : (number : ℕ) (text : List ℕ) → number ≤ 1 → place_of_line number text ≡ 0
first_place number [] first = refl
first_place number (byte ∷ rest) first = simp (le-ltb 1 number first) refl
