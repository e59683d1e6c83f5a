use Rattle.std.proofs.Common.{ap, subst, sym, ◌%◌, ◌∙◌, rules}
use Rattle.versions.specs.declared.layout.TheConstants.{ROWS}
use Rattle.read_section.specs.Section.{HoldsLastSeen, worker_of}
use Rattle.read_section.specs.body.Cache.{IsCacheOf}
use Rattle.read_section.specs.Worker.{Enters, WorkerValue}
use Rattle.read_section.proofs.EnterLemmas.{HoldsLastSeen-pinned, enters, may_peek_at, number_seen, peeked_stage, pinned_inside, seen_on}
use Rattle.read_section.proofs.CacheLemmas.{announced_after, cache_pinned, pins_later}
use Rattle.read_section.proofs.worker.Worker.enter.Goals as goal

pub announce-requires-clause-peeked : goal.announce-requires-clause-peeked
announce-requires-clause-peeked c = let may = may_peek_at c.self.inside.held _ c.self.invariant.0 in let one = c.peek-peeked.ensures in rw c.current_version.ensures (peeked_stage c.args.self.now c.self.inside.seat may (c.self.view_is ∙ c.leave.ensures.left) _ c.peek-peeked.result one.0 one.2)

pub pin-pinned-requires : goal.pin-pinned-requires
pin-pinned-requires c = (_, ap (λ w. w.view.stage) c.announce.ensures)

pub set_version-requires : goal.set_version-requires
set_version-requires c = let seat = c.self.inside.seat in let cache = c.self.inside.cache in let one = c.peek-peeked.ensures in let three = c.pin-pinned.ensures in let was = announced_after seat cache c.self.invariant.1 c.peek-peeked.new.self c.announce.new.self c.peek-peeked.result one.0 _ one.1.shows one.2 (rw c.current_version.ensures at c.announce.ensures) in
    rw c.current_version-version.ensures record { later = pins_later c.announce.new.self.view cache was c.pin-pinned.result three.0 three.2.shows }

pub invariant_of-self : goal.invariant_of-self
invariant_of-self c = let may = may_peek_at c.self.inside.held _ c.self.invariant.0 in let out = c.self.view_is ∙ c.leave.ensures.left in let seat = c.self.inside.seat in let cache = c.self.inside.cache in let one = c.peek-peeked.ensures in let three = c.pin-pinned.ensures in let was = announced_after seat cache c.self.invariant.1 c.peek-peeked.new.self c.announce.new.self c.peek-peeked.result one.0 _ one.1.shows one.2 (rw c.current_version.ensures at c.announce.ensures) in (
  (c.pin-pinned.result % ROWS, rw c.current_version-version.ensures (pinned_inside c.args.self.now seat may out _ c.peek-peeked.result one.0 one.2 _ _ c.pin-pinned.result three.0 three.1 (rw c.current_version.ensures at c.announce.ensures) three.4 one.1 three.2)),
  subst (λ (w : WorkerValue). IsCacheOf w.view c.set_version.new.self) (sym three.4)
      (cache_pinned c.announce.new.self.view cache was c.pin-pinned.result three.0 three.1 c.set_version.new.self three.2.shows three.3 (rw c.current_version-version.ensures at c.set_version.ensures.version) (rw c.current_version-version.ensures at c.set_version.ensures.same) (rw c.current_version-version.ensures at c.set_version.ensures.forgets_form) (rw c.current_version-version.ensures at c.set_version.ensures.forgets_extents)),
)

pub returns-clause-entered_by_three_steps : goal.returns-clause-entered_by_three_steps
returns-clause-entered_by_three_steps c = let may = may_peek_at c.self.inside.held _ c.self.invariant.0 in let one = c.peek-peeked.ensures in let three = c.pin-pinned.ensures in let out = c.self.view_is ∙ c.leave.ensures.left in subst (Enters c.args.self.now) (sym c.of.ensures.worker) (enters c.args.self.now c.self.inside.seat may out _ c.peek-peeked.result one.0 one.2 _ _ c.pin-pinned.result three.0 three.1 (rw c.current_version.ensures at c.announce.ensures) three.4 one.1 three.2)

pub returns-clause-section_row : goal.returns-clause-section_row
returns-clause-section_row c = let may = may_peek_at c.self.inside.held _ c.self.invariant.0 in let one = c.peek-peeked.ensures in let three = c.pin-pinned.ensures in let out = c.self.view_is ∙ c.leave.ensures.left in subst HoldsLastSeen (sym c.of.ensures.worker) (HoldsLastSeen-pinned c.args.self.now c.self.inside.seat may out _ c.peek-peeked.result one.0 one.2 _ _ c.pin-pinned.result three.0 three.1 (rw c.current_version.ensures at c.announce.ensures) three.4 one.1 three.2)

pub returns-clause-seen_grows : goal.returns-clause-seen_grows
returns-clause-seen_grows c = let may = may_peek_at c.self.inside.held _ c.self.invariant.0 in let one = c.peek-peeked.ensures in let three = c.pin-pinned.ensures in let out = c.self.view_is ∙ c.leave.ensures.left in seen_on c.args.self.now (worker_of c.of.result) (subst (Enters c.args.self.now) (sym c.of.ensures.worker) (enters c.args.self.now c.self.inside.seat may out _ c.peek-peeked.result one.0 one.2 _ _ c.pin-pinned.result three.0 three.1 (rw c.current_version.ensures at c.announce.ensures) three.4 one.1 three.2))

pub returns-clause-number_is_seen : goal.returns-clause-number_is_seen
returns-clause-number_is_seen c = let may = may_peek_at c.self.inside.held _ c.self.invariant.0 in let one = c.peek-peeked.ensures in let three = c.pin-pinned.ensures in let out = c.self.view_is ∙ c.leave.ensures.left in number_seen (worker_of c.of.result) (subst HoldsLastSeen (sym c.of.ensures.worker) (HoldsLastSeen-pinned c.args.self.now c.self.inside.seat may out _ c.peek-peeked.result one.0 one.2 _ _ c.pin-pinned.result three.0 three.1 (rw c.current_version.ensures at c.announce.ensures) three.4 one.1 three.2))

pub of-requires-clause-inside : goal.of-requires-clause-inside
of-requires-clause-inside c = let may = may_peek_at c.self.inside.held _ c.self.invariant.0 in let one = c.peek-peeked.ensures in let three = c.pin-pinned.ensures in let out = c.self.view_is ∙ c.leave.ensures.left in rw (c.current_version-version.ensures, c.current_row.ensures.row) (pinned_inside c.args.self.now c.self.inside.seat may out _ c.peek-peeked.result one.0 one.2 _ _ c.pin-pinned.result three.0 three.1 (rw c.current_version.ensures at c.announce.ensures) three.4 one.1 three.2)

pub of-requires-clause-last_seen : goal.of-requires-clause-last_seen
of-requires-clause-last_seen c = let may = may_peek_at c.self.inside.held _ c.self.invariant.0 in let one = c.peek-peeked.ensures in let three = c.pin-pinned.ensures in let out = c.self.view_is ∙ c.leave.ensures.left in HoldsLastSeen-pinned c.args.self.now c.self.inside.seat may out _ c.peek-peeked.result one.0 one.2 _ _ c.pin-pinned.result three.0 three.1 (rw c.current_version.ensures at c.announce.ensures) three.4 one.1 three.2

pub returns-clause-same_worker : goal.returns-clause-same_worker
returns-clause-same_worker c = search rules

pub returns-clause-ends_in_fetches : goal.returns-clause-ends_in_fetches
returns-clause-ends_in_fetches c = search rules
