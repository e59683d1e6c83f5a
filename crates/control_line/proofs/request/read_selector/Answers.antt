use Rattle.std.proofs.Common.{Some, ap, option_map, ◌∙◌, rules}
use Rattle.control_line.specs.Request.{spaced}
use Rattle.control_line.specs.body.Reading.{program_fields, source_of}
use Rattle.control_line.proofs.RequestLemmas.{none_selects, none_selects_by_expression, selector_spelled}
use Rattle.control_line.proofs.request.read_selector.Goals as goal

pub returns-in_err-read_program : goal.returns-in_err-read_program
returns-in_err-read_program c = rw c.from_residual.ensures (none_selects c.args.key c.args.fields.now c.requires c.in_err-read_program.ensures)

pub returns-in-Some-Assembly : goal.returns-in-Some-Assembly
returns-in-Some-Assembly c =
    selector_spelled c.args.key c.in-Some-Assembly.text.now c.args.fields.now c.requires
    (c.in_ok-read_program.ensures ∙ ap (λ program. spaced (program_fields (option_map source_of program))) (c.in-Some-Assembly.is ∙ ap Some c.in-Some-Assembly.field-0-is))

pub returns-in-Some-Expression : goal.returns-in-Some-Expression
returns-in-Some-Expression c =
    none_selects_by_expression c.args.key c.in-Some-Expression.field-0-0.now c.args.fields.now c.requires
    (c.in_ok-read_program.ensures ∙ ap (λ program. spaced (program_fields (option_map source_of program))) (c.in-Some-Expression.is ∙ ap Some c.in-Some-Expression.field-0-is))

pub returns-in-None : goal.returns-in-None
returns-in-None c = search rules
