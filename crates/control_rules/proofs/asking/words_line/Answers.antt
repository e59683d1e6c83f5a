use Rattle.std.proofs.Common.{rules}
use Rattle.control_rules.proofs.LineLemmas.{words_spelled}
use Rattle.control_rules.proofs.asking.words_line.Goals as goal

pub returns : goal.returns
returns c = words_spelled c.args.key c.args.owner c.args.place c.push_number.new.self c.requires (search rules) (search rules) (search rules)
