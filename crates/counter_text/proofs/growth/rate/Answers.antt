use Rattle.std.proofs.Common.{◌∙◌, ◌*◌, ◌/◌, ap, arith}
use Rattle.counter_text.proofs.RateLemmas.{rate_by_parts}
use Rattle.counter_text.proofs.growth.rate.Goals as goal

pub returns-clause-rate : goal.returns-clause-rate
returns-clause-rate c =
    rate_by_parts c.args.growth c.from-millis.result (omega arith) ∙ ap (λ m. c.args.growth * 1000 / m) c.from-millis.ensures
