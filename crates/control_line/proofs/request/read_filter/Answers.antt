use Rattle.std.proofs.Common.{ap, arith, option_map, ◌∙◌}
use Rattle.control_line.specs.Request.{spaced}
use Rattle.control_line.specs.body.Reading.{program_fields, source_of}
use Rattle.control_line.proofs.RequestLemmas.{filter_spelled, none_filters}
use Rattle.control_line.proofs.request.read_filter.Goals as goal

pub returns-in_err-read_program : goal.returns-in_err-read_program
returns-in_err-read_program c = let range = c.ranges.member in rw c.from_residual.ensures (none_filters c.args.key c.args.member c.args.fields.now c.requires (omega arith) c.in_err-read_program.ensures)

pub returns-in-Some : goal.returns-in-Some
returns-in-Some c =
    let range = c.ranges.member in
    filter_spelled c.args.key c.args.member c.args.fields.now (source_of c.in-Some.program) c.requires (omega arith)
    (c.in_ok-read_program.ensures ∙ ap (λ program. spaced (program_fields (option_map source_of program))) c.in-Some.is)
