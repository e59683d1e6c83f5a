use Rattle.std.specs.Prelude.{string_bytes}
use Rattle.command_query.proofs.QueryLemmas.{spread_listed}
use Rattle.command_query.proofs.spreading.spread_selector.Goals as goal

pub returns-clause-answer : goal.returns-clause-answer
returns-clause-answer c =
    spread_listed c.args.depth c.args.by c.args.shares.now c.in_ok-buckets.buckets c.in_ok-program.program.words (string_bytes c.in_ok-print.field-0) c.in_ok-buckets.ensures.depth
    c.in_ok-buckets.ensures.table c.in_ok-program.ensures.words c.in_ok-print.ensures.printed
