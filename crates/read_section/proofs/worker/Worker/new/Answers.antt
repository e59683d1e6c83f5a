use Rattle.read_section.specs.Worker.{IsOutside}
use Rattle.read_section.proofs.CacheLemmas.{cache_first}
use Rattle.std.proofs.Common.{subst}
use Rattle.read_section.proofs.worker.Worker.new.Goals as goal

pub invariant_of-result : goal.invariant_of-result
invariant_of-result c = (c.requires.outside, cache_first c.args.seat.view c.args.cache c.requires.first c.requires.blank (λ k n r e. subst IsOutside e c.requires.outside))
