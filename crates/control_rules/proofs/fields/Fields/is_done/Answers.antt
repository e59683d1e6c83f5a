use Rattle.std.proofs.Common.{◌∙◌, ap, sym}
use Rattle.std.proofs.lemmas.Bool.{false≢true}
use Rattle.control_rules.specs.body.Left.{fields_left}
use Rattle.control_rules.proofs.FieldLemmas.{some_field}
use Rattle.control_rules.proofs.fields.Fields.is_done.Goals as goal

pub returns-in-Some : goal.returns-in-Some
returns-in-Some c = (
  λ never. absurd (false≢true never),
  λ empty. absurd (some_field c.in-Some.field-0.now (sym (ap fields_left c.in-Some.is) ∙ c.self.view_is ∙ empty)),
)
