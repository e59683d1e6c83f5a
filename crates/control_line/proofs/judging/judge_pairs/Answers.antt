use Rattle.std.proofs.Common.{◌≡◌, ◌∙◌, Ok, arith, rules}
use Rattle.hex.specs.Hex.{decode_of}
use Rattle.hex.proofs.HexLemmas.{decode_of-ok}
use Rattle.control_line.proofs.JudgeLemmas.{bad_digit_is_bad, pairs_are_judged}
use Rattle.control_line.proofs.judging.judge_pairs.Goals as goal

pub returns-then-not-read_pairs : goal.returns-then-not-read_pairs
returns-then-not-read_pairs c = bad_digit_is_bad c.args.version c.args.groups.now c.args.digits.now (c.read_pairs.ensures.no_packet (search rules))

pub judged-requires : goal.judged-requires
judged-requires c =
    let is : decode_of c.args.digits.now ≡ Ok c.read_pairs.new.packet = c.read_pairs.ensures.packet (search rules) in
    let size = (decode_of-ok c.args.digits.now c.read_pairs.new.packet is).2 in
    omega arith

pub returns : goal.returns
returns c =
    let is : decode_of c.args.digits.now ≡ Ok c.read_pairs.new.packet = c.read_pairs.ensures.packet (search rules) in
    c.judged.ensures ∙ pairs_are_judged c.args.version c.args.groups.now c.args.digits.now c.read_pairs.new.packet is (omega arith)
