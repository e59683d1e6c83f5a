use Rattle.config_image.proofs.FormLemmas.{form_tells}
use Rattle.config_image.proofs.pooled_form_tells_row.Goals as goal

pub returns : goal.returns
returns c = form_tells
