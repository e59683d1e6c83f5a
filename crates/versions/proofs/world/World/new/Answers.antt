use Rattle.std.proofs.Common.{None, subst, sym, ℕ}
use Rattle.versions.specs.World.{first_pages}
use Rattle.versions.specs.body.Mirror.{BeginsAtStart}
use Rattle.versions.specs.body.WorldKept.{IsWorld}
use Rattle.versions.proofs.WorldLemmas.{IsWorld-opened, has_room, light}
use Rattle.versions.proofs.world.World.new.Goals as goal

pub invariant_of-result : goal.invariant_of-result
invariant_of-result g c = subst (λ events. IsWorld c.args.config events c.in_ok-words.words.items c.in_ok-progress.progress None) (sym c.new-events.ensures.items)
    (IsWorld-opened c.args.config c.in_ok-words.words.items c.in_ok-progress.progress (has_room c.args.config c.charge.result c.charge.ensures.config c.charge.ensures.charge_exact c.if-charge-gt-CHARGE_LIMIT.false) (light c.args.config c.charge.result c.charge.ensures.charge_exact c.if-charge-gt-CHARGE_LIMIT.false) c.in_ok-words.ensures.words (subst (λ (n : ℕ). BeginsAtStart (first_pages n) c.in_ok-progress.progress) c.page_count.ensures.exact c.in_ok-progress.ensures))

pub opening_words-requires : goal.opening_words-requires
opening_words-requires g c = record { room = has_room c.args.config c.charge.result c.charge.ensures.config c.charge.ensures.charge_exact c.if-charge-gt-CHARGE_LIMIT.false }
