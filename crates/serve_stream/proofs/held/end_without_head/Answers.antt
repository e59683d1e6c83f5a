use Rattle.serve_stream.proofs.held.end_without_head.Goals as goal

pub returns-then-names_block : goal.returns-then-names_block
returns-then-names_block c = c.names_block.ensures.0 c.if-names_block.true
