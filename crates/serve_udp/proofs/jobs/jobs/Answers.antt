use Rattle.std.proofs.Common.{◌∙◌, ◌∷◌, ◌++◌, [], ap, append-nil, arith, length, length-append, reverse, sym}
use Rattle.serve_udp.specs.body.Jobs.{sources_of}
use Rattle.serve_udp.proofs.JobsLemmas.{none_made, one_source_taken}
use Rattle.serve_udp.proofs.jobs.jobs.Goals as goal

pub loop-job-init : goal.loop-job-init
loop-job-init g c =
    let enough = c.requires.outlets in
    let all = c.requires.sources in (
      c.in-Ok.ensures.capacity,
      omega (arith, all),
      sym (ap (λ jobs. c.args.sources.items ++ reverse (sources_of jobs)) c.in-Ok.ensures.items ∙ append-nil c.args.sources.items),
      omega (arith, enough),
      none_made _ _ _ c.in-Ok.ensures.items,
    )

pub loop-job-preserved : goal.loop-job-preserved
loop-job-preserved g c =
    let fewer = c.in-Some-pop.ensures.len in
    let enough = c.loop-job.invariant.3 in
    let less = ap length c.in-Some.ensures.items in
    let one = length-append c.pop.new.self.items (c.in-Some.source ∷ []) in
    let all = c.loop-job.invariant.1 in (
      omega arith,
      omega (arith, less, one, all),
      one_source_taken _ _ _ _ _ _ c.loop-job.invariant.2 c.in-Some.ensures.items (c.add_job.ensures.source ∙ ap (λ s. sources_of c.loop-job.jobs.items ++ s ∷ []) c.in_ok-devices.ensures.source),
      omega (arith, fewer, enough),
      c.add_job.ensures.added _ _ _ c.loop-job.invariant.4,
    )
