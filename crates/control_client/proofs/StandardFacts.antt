-- Worked examples of the definitions.
use Rattle.std.proofs.Common.{Some, [], codes, false, refl, true, ◌∷◌, ◌≡◌}
use Rattle.control_client.specs.Exchange.{has_refusal, is_refusal, text_of}
use Rattle.control_client.specs.Refused.{refusals_of}
use Rattle.control_line.specs.Rules.{lines_in, rules_in}

no_bytes_no_line : lines_in (codes "") ≡ []
no_bytes_no_line = refl

ended_and_unended : lines_in (codes "show\nsweep") ≡ codes "show" ∷ codes "sweep" ∷ []
ended_and_unended = refl

all_ended : lines_in (codes "show\nsweep\n") ≡ codes "show" ∷ codes "sweep" ∷ []
all_ended = refl

empty_lines : lines_in (codes "\n\nshow") ≡ [] ∷ [] ∷ codes "show" ∷ []
empty_lines = refl

comments_and_returns : rules_in (codes "# rules\r\nshow\r\n \t\r\n  # no rule\nsweep\r")
    ≡ record { number = 2; text = codes "show" } ∷ record { number = 5; text = codes "sweep" } ∷ []
comments_and_returns = refl

refused_line : is_refusal (codes "refused G3") ≡ true
refused_line = refl

want_of_memory : is_refusal (codes "failed E3") ≡ true
want_of_memory = refl

done_line : is_refusal (codes "ok version 1") ≡ false
done_line = refl

shorter_than_a_refusal : is_refusal (codes "refused") ≡ false
shorter_than_a_refusal = refl

text_of_two : text_of (record { line = codes "stop"; reply = codes "ok stop" } ∷ record { line = []; reply = [] } ∷ []) ≡ codes "ok stop\n\n"
text_of_two = refl

one_refused : has_refusal (record { line = codes "stop"; reply = codes "ok stop" } ∷ record { line = []; reply = codes "refused C1" } ∷ []) ≡ true
one_refused = refl

-- a line that was done, a block that was not, and a line after it
shown_of_three : refusals_of (
    record { request = record { head = Some 1; lines = []; text = codes "show" }; reply = codes "version 0 groups 0 members 0 charge 2" } ∷
    record { request = record { head = Some 3; lines = 4 ∷ 6 ∷ []; text = codes "all 2\nshow\nshow" }; reply = codes "refused C1 line 1" } ∷
    record { request = record { head = Some 7; lines = []; text = codes "totals" }; reply = codes "failed E3" } ∷ [])
    ≡ record { head = Some 3; lines = 4 ∷ 6 ∷ []; reply = codes "refused C1 line 1" } ∷ record { head = Some 7; lines = []; reply = codes "failed E3" } ∷ []
shown_of_three = refl
