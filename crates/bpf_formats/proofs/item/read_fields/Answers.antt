use Rattle.std.proofs.Common.{arith, rules}
use Rattle.bpf_formats.proofs.FieldLemmas.{fourth_stands, second_stands, third_stands}
use Rattle.bpf_formats.proofs.item.read_fields.Goals as goal

pub returns-in_err-code : goal.returns-in_err-code
returns-in_err-code c =
    rw c.from_residual.ensures (λ it spelled. c.in_err-code.ensures _ _ (omega (arith, spelled.code_fits)) spelled.is_item)

pub returns-in_err-jt : goal.returns-in_err-jt
returns-in_err-jt c =
    rw c.from_residual-in_err-jt.ensures
    (λ it spelled. c.in_err-jt.ensures _ _ (omega (arith, spelled.jt_fits)) (second_stands c.args.item.now it spelled c.in_ok-code.code c.in_ok-code.rest.now c.in_ok-code.ensures.0 c.in_ok-code.ensures.1))

pub returns-in_err-jf : goal.returns-in_err-jf
returns-in_err-jf c =
    rw c.from_residual-in_err-jf.ensures
    (λ it spelled. c.in_err-jf.ensures _ _ (omega (arith, spelled.jf_fits)) (third_stands c.args.item.now it spelled c.in_ok-code.code c.in_ok-jt.jt c.in_ok-code.rest.now c.in_ok-jt.rest.now c.in_ok-code.ensures.0 c.in_ok-jt.ensures.0 c.in_ok-code.ensures.1 c.in_ok-jt.ensures.1))

pub returns-in_err-read_number : goal.returns-in_err-read_number
returns-in_err-read_number c =
    rw c.from_residual-in_err-read_number.ensures
    (λ it spelled. c.in_err-read_number.ensures _ (omega (arith, spelled.k_fits)) (fourth_stands c.args.item.now it spelled c.in_ok-code.code c.in_ok-jt.jt c.in_ok-jf.jf c.in_ok-code.rest.now c.in_ok-jt.rest.now c.in_ok-jf.k.now c.in_ok-code.ensures.0 c.in_ok-jt.ensures.0 c.in_ok-jf.ensures.0 c.in_ok-code.ensures.1 c.in_ok-jt.ensures.1 c.in_ok-jf.ensures.1))

pub returns : goal.returns
returns c = search rules
