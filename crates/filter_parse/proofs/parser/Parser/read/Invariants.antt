use Rattle.std.proofs.Common.{◌≡◌, ◌≤◌, ◌-◌, drop, length}
use Rattle.filter_parse.specs.body.Parser.{parsing_of, postfix_from, postfix_of}
use Rattle.filter_parse.specs.body.Scan.{tokens_from}
use Rattle.filter_parse.proofs.parser.Parser.read.Given as goal

abbrev pub invariant-loop-token : goal.invariant-loop-token
invariant-loop-token g l = record {
  within : l.at ≤ length l.text;
  few : l.brackets ≤ l.at;
  rest : postfix_from (tokens_from 0 l.at (drop l.at l.text)) (length l.text) l.brackets (parsing_of l.self) ≡ postfix_of l.text;
}

abbrev pub decreases-loop-token : goal.decreases-loop-token
decreases-loop-token g l = length l.text - l.at
