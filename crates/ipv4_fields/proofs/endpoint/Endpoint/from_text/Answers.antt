use Rattle.std.proofs.Common.{arith}
use Rattle.ipv4_fields.proofs.TextLemmas.{fourth_stands, port_stands, second_stands, third_stands}
use Rattle.ipv4_fields.proofs.endpoint.Endpoint.from_text.Goals as goal

pub returns-in_err-a : goal.returns-in_err-a
returns-in_err-a c = rw c.from_residual.ensures (λ e range is. c.in_err-a.ensures _ _ (omega (arith, range.address)) is)

pub returns-in_err-b : goal.returns-in_err-b
returns-in_err-b c =
    rw c.from_residual-in_err-b.ensures
    (λ e range is. c.in_err-b.ensures _ _ (omega arith) (second_stands c.args.text.now e range is c.in_ok-a.a c.in_ok-a.rest.now c.in_ok-a.ensures.0 c.in_ok-a.ensures.1))

pub returns-in_err-c : goal.returns-in_err-c
returns-in_err-c c =
    rw c.from_residual-in_err-c.ensures
    (λ e range is. c.in_err-c.ensures _ _ (omega arith) (third_stands c.args.text.now e range is c.in_ok-a.a c.in_ok-b.b c.in_ok-a.rest.now c.in_ok-b.rest.now c.in_ok-a.ensures.0 c.in_ok-b.ensures.0 c.in_ok-a.ensures.1 c.in_ok-b.ensures.1))

pub returns-in_err-d : goal.returns-in_err-d
returns-in_err-d c =
    rw c.from_residual-in_err-d.ensures
    (λ e range is. c.in_err-d.ensures _ _ (omega arith) (fourth_stands c.args.text.now e range is c.in_ok-a.a c.in_ok-b.b c.in_ok-c.c c.in_ok-a.rest.now c.in_ok-b.rest.now c.in_ok-c.rest.now c.in_ok-a.ensures.0 c.in_ok-b.ensures.0 c.in_ok-c.ensures.0 c.in_ok-a.ensures.1 c.in_ok-b.ensures.1 c.in_ok-c.ensures.1))

pub returns-in_err-read_number : goal.returns-in_err-read_number
returns-in_err-read_number c =
    rw c.from_residual-in_err-read_number.ensures
    (λ e range is. c.in_err-read_number.ensures _ (omega (arith, range.port)) (port_stands c.args.text.now e range is c.in_ok-a.a c.in_ok-b.b c.in_ok-c.c c.in_ok-d.d c.in_ok-a.rest.now c.in_ok-b.rest.now c.in_ok-c.rest.now c.in_ok-d.port.now c.in_ok-a.ensures.0 c.in_ok-b.ensures.0 c.in_ok-c.ensures.0 c.in_ok-d.ensures.0 c.in_ok-a.ensures.1 c.in_ok-b.ensures.1 c.in_ok-c.ensures.1 c.in_ok-d.ensures.1))
