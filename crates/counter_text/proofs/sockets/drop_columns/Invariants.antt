use Rattle.std.proofs.Common.{◌≡◌, map, take}
use Rattle.counter_text.specs.Sockets.{drop_columns}
use Rattle.counter_text.proofs.sockets.drop_columns.Given as goal

abbrev pub invariant-loop-line : goal.invariant-loop-line
invariant-loop-line l = map (λ column. column.now) l.found.items ≡ drop_columns l.front (map (λ line. line.now) (take l.line-index l.line-items))
