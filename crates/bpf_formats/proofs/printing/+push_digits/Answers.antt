use Rattle.std.proofs.Common.{◌≡◌, ◌∙◌, ◌++◌, ◌-◌, ◌/◌, ◌%◌, ap, append_assoc, arith, false, string_bytes, sym}
use Rattle.std.specs.Fmt.{digits}
use Rattle.std.proofs.lemmas.Grind.{common_steps}
use Rattle.std.proofs.lemmas.Result.{on_ok_weaker}
use Rattle.bpf_formats.specs.Hex.{hex_digits}
use Rattle.bpf_formats.proofs.DigitLemmas.{hex_digits_more, hex_digits_none}
use Rattle.bpf_formats.proofs.printing.+push_digits.Goals as goal

pub returns-then-count-eq0 : goal.returns-then-count-eq0
returns-then-count-eq0 g t c =
    let none = hex_digits_none c.args.count c.args.n c.if-count-eq0.true in grind (arith, common_steps)

pub returns : goal.returns
returns g t c =
    let before = string_bytes c.args.text.now in
    let front = hex_digits (c.args.count - 1) (c.args.n / 16) in
    let last = digits 16 false (c.args.n % 16) in
    let appended : string_bytes c.push_digits.new.text ++ last ≡ before ++ hex_digits c.args.count c.args.n =
    ap (λ text. text ++ last) c.in_ok-push_digits.ensures
    ∙ append_assoc before front last
    ∙ ap (λ more. before ++ more) (sym (hex_digits_more c.args.count c.args.n (omega arith))) in
    let P : Type 0 = string_bytes c.write.new.self ≡ string_bytes c.push_digits.new.text ++ last in
    on_ok_weaker {P = P} c.write.result (λ wrote. wrote ∙ appended) (rw c.in_radix.ensures at c.write.ensures.bytes)
