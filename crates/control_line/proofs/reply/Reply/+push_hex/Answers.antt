use Rattle.std.proofs.Common.{◌≡◌, ◌++◌, ◌∙◌, ◌∷◌, ◌%◌, ◌/◌, ◌-◌, [], ap, append-nil, append_assoc, arith, sym}
use Rattle.std.specs.Char.{digit_char}
use Rattle.bpf_formats.specs.Hex.{hex_digits}
use Rattle.bpf_formats.proofs.DigitLemmas.{hex_digits_none}
use Rattle.control_line.proofs.DigitLemmas.{hex_more, high_char, low_char}
use Rattle.control_line.proofs.reply.Reply.+push_hex.Goals as goal
use Rattle.control_line.proofs.reply.Reply.+push_hex.Goals.{else-digit-lt10, then-digit-lt10}

pub returns-then-count-eq0-clause-appended : goal.returns-then-count-eq0-clause-appended
returns-then-count-eq0-clause-appended t c =
    sym (append-nil c.args.self.now) ∙ ap (λ digits. c.args.self.now ++ digits) (sym (hex_digits_none c.args.count c.args.number c.if-count-eq0.true))

pub returns-clause-appended : goal.returns-clause-appended
returns-clause-appended t c =
    let front = hex_digits (c.args.count - 1) (c.args.number / 16) in
    let digit : c.if-digit-lt10.push_digit ≡ digit_char (c.args.number % 16) = elim c.if-digit-lt10.branch [
      | then-digit-lt10 w ↦ omega (arith, w.push_digit-is, low_char (c.args.number % 16) (omega (arith, w.if-digit-lt10)))
      | else-digit-lt10 w ↦ omega (arith, w.push_digit-is, high_char (c.args.number % 16) (omega (arith, w.if-digit-lt10)))
    ] in
    c.push_digit.ensures
    ∙ ap (λ text. text ++ c.if-digit-lt10.push_digit ∷ []) c.push_hex.ensures.appended
    ∙ ap (λ d. (c.args.self.now ++ front) ++ d ∷ []) digit
    ∙ append_assoc c.args.self.now front (digit_char (c.args.number % 16) ∷ [])
    ∙ ap (λ digits. c.args.self.now ++ digits) (sym (hex_more c.args.count c.args.number (omega (arith, c.if-count-eq0.false))))
