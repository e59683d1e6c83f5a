use Rattle.std.proofs.Common.{◌≡◌, map, take}
use Rattle.std.specs.List.{filter}
use Rattle.counter_text.specs.Sockets.{has_bytes}
use Rattle.counter_text.proofs.sockets.columns.Given as goal

abbrev pub invariant-loop-piece : goal.invariant-loop-piece
invariant-loop-piece l = map (λ column. column.now) l.row.items ≡ filter has_bytes (map (λ piece. piece.now) (take l.piece-index l.piece-items))
