use Rattle.versions.proofs.PooledLemmas as form
use Rattle.versions.proofs.pooled_form_stands.Goals as goal

pub returns : goal.returns
returns c = form.pooled_form_stands
