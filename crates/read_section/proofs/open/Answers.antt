use Rattle.std.proofs.Common.{rules}
use Rattle.versions.proofs.WorldLemmas.{has_room}
use Rattle.read_section.proofs.open.Goals as goal

pub opening_words-requires : goal.opening_words-requires
opening_words-requires c = record { room = has_room c.args.config c.charge.result c.charge.ensures.config c.charge.ensures.charge_exact c.if-charge-gt-CHARGE_LIMIT.false }

pub returns-then-charge-gt-CHARGE_LIMIT-clause-opened : goal.returns-then-charge-gt-CHARGE_LIMIT-clause-opened
returns-then-charge-gt-CHARGE_LIMIT-clause-opened c = search rules

pub returns-then-charge-gt-CHARGE_LIMIT-clause-workers : goal.returns-then-charge-gt-CHARGE_LIMIT-clause-workers
returns-then-charge-gt-CHARGE_LIMIT-clause-workers c = search rules

pub returns-then-charge-gt-CHARGE_LIMIT-clause-within : goal.returns-then-charge-gt-CHARGE_LIMIT-clause-within
returns-then-charge-gt-CHARGE_LIMIT-clause-within c = search rules

pub returns-then-charge-gt-CHARGE_LIMIT-clause-too_big : goal.returns-then-charge-gt-CHARGE_LIMIT-clause-too_big
returns-then-charge-gt-CHARGE_LIMIT-clause-too_big c = search rules

pub returns-clause-opened : goal.returns-clause-opened
returns-clause-opened c = search rules

pub returns-clause-workers : goal.returns-clause-workers
returns-clause-workers c = search rules

pub returns-clause-within : goal.returns-clause-within
returns-clause-within c = search rules

pub returns-clause-too_big : goal.returns-clause-too_big
returns-clause-too_big c = search rules
