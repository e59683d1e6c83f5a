use Rattle.std.proofs.Common.{◌≡◌, length, subst}
use Rattle.read_section.specs.Operator.{AreOpenedWorkers}
use Rattle.bench_threads.specs.Jobs.{AreJobs, AreTaken}
use Rattle.bench_threads.proofs.JobLemmas.{IfOk-both, jobs-opened}
use Rattle.bench_threads.proofs.jobs.open_jobs.Goals as goal

pub returns : goal.returns
returns c =
    let table = c.in_ok-_operator._operator.table in let workers = c.in_ok-_operator.workers.items in
    let opened = subst (λ config. AreOpenedWorkers table config workers) c.new.ensures.empty c.in_ok-_operator.ensures.workers in
    IfOk-both c.take_jobs.result (λ jobs. length jobs.items ≡ c.args.threads) (λ jobs. AreTaken c.args.placing c.args.threads c.args.rounds workers c.args.threads jobs.items)
    (λ jobs. AreJobs c.args.placing c.args.threads c.args.rounds jobs.items)
    (λ jobs counted taken. jobs-opened c.args.placing c.args.threads c.args.rounds workers table jobs.items opened counted taken)
    c.take_jobs.ensures.count c.take_jobs.ensures.taken
