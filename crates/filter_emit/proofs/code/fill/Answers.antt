use Rattle.filter_emit.proofs.FieldLemmas.{is_filled}
use Rattle.filter_emit.proofs.code.fill.Goals as goal

pub returns : goal.returns
returns g c = record {
  filled = is_filled c.args.fixup c.args.to c.index.result.now c.with_skip.result c.args.words.now.items c.index.ensures c.with_skip.ensures c.requires.there c.requires.behind
      c.requires.near c.requires.room;
}
