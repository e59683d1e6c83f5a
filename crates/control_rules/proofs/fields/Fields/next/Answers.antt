use Rattle.std.proofs.Common.{◌∙◌, ap, sym}
use Rattle.control_rules.specs.body.Left.{fields_left}
use Rattle.control_rules.proofs.FieldLemmas.{fields-last, fields-split}
use Rattle.control_rules.proofs.fields.Fields.next.Goals as goal

pub returns-in-Some : goal.returns-in-Some
returns-in-Some c =
    sym c.self.view_is ∙ ap fields_left c.in_ok-text.was
    ∙ fields-split c.in_ok-text.text.now c.in-Some.field.now c.in-Some.rest.now c.in-Some.ensures

pub returns-in-None : goal.returns-in-None
returns-in-None c =
    sym c.self.view_is ∙ ap fields_left c.in_ok-text.was ∙ fields-last c.in_ok-text.text.now c.in-None.ensures
