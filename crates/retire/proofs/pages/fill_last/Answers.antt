use Rattle.std.proofs.Common.{refl}
use Rattle.retire.proofs.PageLemmas.{first_free}
use Rattle.retire.proofs.pages.fill_last.Goals as goal

pub fill_program-requires-clause-free : goal.fill_program-requires-clause-free
fill_program-requires-clause-free c = let t = c.if-not-begins_free.ensures.0 refl in first_free c.args.operator.now c.args.words.now c.args.own.now t.0 c.requires.ready t.1 t.2

pub returns-clause-filled : goal.returns-clause-filled
returns-clause-filled c = λ is. let t = c.if-not-begins_free.ensures.0 refl in let last = c.if-not-ends_before.ensures refl in record {
  free = (first_free c.args.operator.now c.args.words.now c.args.own.now t.0 c.requires.ready t.1 t.2).free;
  filled = c.fill_program.ensures;
  index = last.0;
  page = last.1;
  at = last.2;
  last = last.3;
}
