use Rattle.std.proofs.Common.{rules}
use Rattle.filter_parse.proofs.reduce.reduce_connectives.Goals as goal

pub returns-after-top : goal.returns-after-top
returns-after-top g c = search rules

pub returns-after-top-2 : goal.returns-after-top-2
returns-after-top-2 g c = search rules

pub returns-in_ok-push-2 : goal.returns-in_ok-push-2
returns-in_ok-push-2 g c = search rules
