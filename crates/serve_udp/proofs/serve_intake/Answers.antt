use Rattle.std.proofs.Common.{◌≡◌, ◌∙◌, None, [], ap, map, refl, rules}
use Rattle.std.proofs.lemmas.List.Elements.{All-map, All-nil, All-weaker}
use Rattle.dispatch.specs.Counted.{IsNew, counters_of}
use Rattle.dispatch.specs.Workers.{parts_of_job}
use Rattle.dispatch.proofs.CountedLemmas.{counted}
use Rattle.serve_devices.specs.Devices.{MemberOutboxValue, new_outbox, source_of}
use Rattle.serve_udp.specs.Service.{AreStartsOf, HasSilentOutbox, ready_begun, totals_begun}
use Rattle.serve_udp.specs.declared.jobs.TheConstants.{LIMIT}
use Rattle.serve_udp.specs.declared.sockets.TheConstants.{LONGEST_DATAGRAM}
use Rattle.serve_udp.proofs.CountedLemmas.{sources_of_starts}
use Rattle.serve_udp.proofs.ServingLemmas.{begins_totals, has_ready, never_written, only_writes, only_writes_end}
use Rattle.serve_udp.proofs.serve_intake.Goals as goal

pub returns-clause-not_bound : goal.returns-clause-not_bound
returns-clause-not_bound g c =
    let failed = c.write_totals.ensures.failed in
    search rules

pub returns-clause-no_input : goal.returns-clause-no_input
returns-clause-no_input g c = only_writes _ c.write_totals.ensures.failed

pub returns-clause-ready_or_nothing : goal.returns-clause-ready_or_nothing
returns-clause-ready_or_nothing g c = only_writes_end _ _ _ c.write_totals.ensures.failed

pub returns-clause-served : goal.returns-clause-served
returns-clause-served g c =
    let opened = c.in_ok-jobs.ensures.opened in
    let jobs = c.in_ok-jobs.jobs.items in
    let totals = c.in_ok-totals.ensures.totals in
    let table = c.in_ok-jobs.service.tally.table in
    let is_counted = counted _ _ table jobs [] (counters_of totals.ends) (record { ends = totals.ends; run_to_the_end = totals.run_to_the_end; counters_back = refl })
    (All-nil (IsNew table)) opened.counters.new_counters c.args.config c.in_ok-jobs.service.receiver.operator.table LONGEST_DATAGRAM LIMIT
    (AreStartsOf c.args.intake.sources.items) c.in_ok-jobs.ensures.new_workers opened.rooms
    (record {
      their_sources = sources_of_starts (parts_of_job _ _) (λ job. job.source) (λ job. refl) jobs ∙ ap (map source_of) opened.their_sources;
      silent_outboxes = All-map HasSilentOutbox (parts_of_job _ _) jobs
          (All-weaker (λ job. job.outbox ≡ new_outbox None) (λ job. HasSilentOutbox (parts_of_job _ _ job)) (λ job new. ap (λ (o : MemberOutboxValue). o.outbox) new) jobs opened.new_outboxes);
    })
    c.in_ok-totals.totals totals.sum_exact in
    let written = c.write_totals.ensures.written in
    search rules

pub returns-clause-begun : goal.returns-clause-begun
returns-clause-begun g c =
    let opened = c.in_ok-jobs.ensures.opened in
    let jobs = c.in_ok-jobs.jobs.items in
    let totals = c.in_ok-totals.ensures.totals in
    let table = c.in_ok-jobs.service.tally.table in
    let is_counted = counted _ _ table jobs [] (counters_of totals.ends) (record { ends = totals.ends; run_to_the_end = totals.run_to_the_end; counters_back = refl })
    (All-nil (IsNew table)) opened.counters.new_counters c.args.config c.in_ok-jobs.service.receiver.operator.table LONGEST_DATAGRAM LIMIT
    (AreStartsOf c.args.intake.sources.items) c.in_ok-jobs.ensures.new_workers opened.rooms
    (record {
      their_sources = sources_of_starts (parts_of_job _ _) (λ job. job.source) (λ job. refl) jobs ∙ ap (map source_of) opened.their_sources;
      silent_outboxes = All-map HasSilentOutbox (parts_of_job _ _) jobs
          (All-weaker (λ job. job.outbox ≡ new_outbox None) (λ job. HasSilentOutbox (parts_of_job _ _ job)) (λ job new. ap (λ (o : MemberOutboxValue). o.outbox) new) jobs opened.new_outboxes);
    })
    c.in_ok-totals.totals totals.sum_exact in
    begins_totals c.write_totals.result _ _ _ _ _
    (totals_begun _ c.in_ok-totals.totals (g.W.CountedWrite.contents c.write_ready.new.out) c.in_default.ensures.written is_counted c.write_totals.ensures.beginning)

pub returns-in-Err-clause-begun : goal.returns-in-Err-clause-begun
returns-in-Err-clause-begun g c = λ is. ready_begun _ c.write_ready.ensures.beginning

pub returns-in_err-jobs-clause-begun : goal.returns-in_err-jobs-clause-begun
returns-in_err-jobs-clause-begun g c = search rules

pub returns-in_err-totals-clause-begun : goal.returns-in_err-totals-clause-begun
returns-in_err-totals-clause-begun g c = search rules

pub returns-in_err-jobs-clause-not_bound : goal.returns-in_err-jobs-clause-not_bound
returns-in_err-jobs-clause-not_bound g c = search rules

pub returns-in_err-jobs-clause-ready_or_nothing : goal.returns-in_err-jobs-clause-ready_or_nothing
returns-in_err-jobs-clause-ready_or_nothing g c = search rules

pub returns-in_err-jobs-clause-served : goal.returns-in_err-jobs-clause-served
returns-in_err-jobs-clause-served g c = search rules

pub returns-in_err-totals-clause-not_bound : goal.returns-in_err-totals-clause-not_bound
returns-in_err-totals-clause-not_bound g c = search rules

pub returns-in_err-totals-clause-ready_or_nothing : goal.returns-in_err-totals-clause-ready_or_nothing
returns-in_err-totals-clause-ready_or_nothing g c = search rules

pub returns-in_err-totals-clause-served : goal.returns-in_err-totals-clause-served
returns-in_err-totals-clause-served g c = search rules

pub returns-clause-quiet : goal.returns-clause-quiet
returns-clause-quiet g c =
    has_ready c.write_totals.result _ _ (g.W.CountedWrite.contents c.write_ready.new.out) _ _ _ _ c.in_default.ensures.written c.write_totals.ensures.beginning

pub returns-in_err-jobs-clause-quiet : goal.returns-in_err-jobs-clause-quiet
returns-in_err-jobs-clause-quiet g c = search rules

pub returns-in_err-totals-clause-quiet : goal.returns-in_err-totals-clause-quiet
returns-in_err-totals-clause-quiet g c = never_written _ _ (search rules)
