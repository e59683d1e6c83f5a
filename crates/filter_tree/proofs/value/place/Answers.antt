use Rattle.std.proofs.Common.{rules}
use Rattle.filter_tree.proofs.value.place.Goals as goal

pub returns-in-Ip : goal.returns-in-Ip
returns-in-Ip c = search rules

pub returns-in_ok-ihl-in-Tcp : goal.returns-in_ok-ihl-in-Tcp
returns-in_ok-ihl-in-Tcp c = search rules
