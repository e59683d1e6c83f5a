use Rattle.std.proofs.Common.{◌≡◌, arith, false, true}
use Rattle.std.specs.List.{list_all}
use Rattle.hex.specs.Hex.{is_hex_digit}
use Rattle.control_line.proofs.JudgeLemmas.{long_is_bad, long_is_refused, odd_is_bad}
use Rattle.control_line.proofs.judging.judge_digits.Goals as goal

pub returns-then-digits-ne0 : goal.returns-then-digits-ne0
returns-then-digits-ne0 c = odd_is_bad c.args.version c.args.groups.now c.args.digits.now (omega arith)

pub returns-then-not-are_digits : goal.returns-then-not-are_digits
returns-then-not-are_digits c =
    let bad : list_all is_hex_digit c.args.digits.now ≡ false = cc in
    long_is_bad c.args.version c.args.groups.now c.args.digits.now bad

pub returns : goal.returns
returns c =
    let all : list_all is_hex_digit c.args.digits.now ≡ true = cc in
    long_is_refused c.args.version c.args.groups.now c.args.digits.now (omega arith) all (omega arith)
