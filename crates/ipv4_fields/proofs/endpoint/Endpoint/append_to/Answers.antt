use Rattle.std.proofs.Common.{arith, decimal, length-append}
use Rattle.std.proofs.lemmas.Fmt.{length-decimal-le}
use Rattle.ipv4_fields.proofs.endpoint.Endpoint.append_to.Goals as goal

pub append_number-requires : goal.append_number-requires
append_number-requires g c =
    let range = c.well_formed in
    record { room = omega (arith, c.requires.room, c.append_part.ensures.len, c.append_part-2.ensures.len, c.append_part-3.ensures.len, c.append_part-4.ensures.len, length-decimal-le 5 c.args.self.port (omega arith) (omega arith) (omega arith)) }

pub returns-clause-len : goal.returns-clause-len
returns-clause-len g c =
    let range = c.well_formed in
    let digits = length-decimal-le 5 c.args.self.port (omega arith) (omega arith) (omega arith) in
    rw c.append_number.ensures.appended (omega (arith, c.append_part.ensures.len, c.append_part-2.ensures.len, c.append_part-3.ensures.len, c.append_part-4.ensures.len, digits, length-append (g.T.TextBuffer.text c.append_part-4.new.text) (decimal c.args.self.port)))
