use Rattle.retire.proofs.PageLemmas.{all_filled, left_counted, last_filled, left_ready, none_filled, one_program_more}
use Rattle.retire.proofs.pages.fill_programs.Goals as goal

pub loop-words-init : goal.loop-words-init
loop-words-init c = none_filled c.args.operator.now c.args.pages.now c.args.programs c.into_iter-words-iterator.result c.requires.ready c.into_iter-words-iterator.ensures.into_iter_gives

pub fill_new-requires-clause-enough : goal.fill_new-requires-clause-enough
fill_new-requires-clause-enough c = left_counted c.args.operator.now c.loop-words.operator c.args.pages.now c.loop-words.left.now c.args.programs c.loop-words.words-iterator c.requires.ready c.loop-words.invariant
    c.in-Some.words.now c.next.new.self c.in-Some.ensures.steps c.requires.counted

pub fill_new-requires-clause-ready : goal.fill_new-requires-clause-ready
fill_new-requires-clause-ready c = left_ready c.args.operator.now c.loop-words.operator c.args.pages.now c.loop-words.left.now c.args.programs c.loop-words.words-iterator c.requires.ready c.loop-words.invariant
    c.in-Some.words.now c.next.new.self c.in-Some.ensures.steps

pub loop-words-preserved : goal.loop-words-preserved
loop-words-preserved c = one_program_more c.args.operator.now c.loop-words.operator c.args.pages.now c.loop-words.left.now c.args.programs c.loop-words.words-iterator c.requires.ready c.loop-words.invariant
    c.in-Some.words.now c.next.new.self c.in-Some.ensures.steps c.requires.counted c.fill_new.new.operator c.fill_new.result.1.now c.fill_new.ensures.left c.fill_new.ensures.fills

pub returns-then-ends_before : goal.returns-then-ends_before
returns-then-ends_before c = let t = c.ends_before.ensures c.if-ends_before.true in let f = c.fill_new.ensures.filled t.0 t.1 t.2 in
    last_filled c.args.operator.now c.loop-words.operator c.fill_new.new.operator c.args.pages.now c.loop-words.left.now c.args.programs c.loop-words.words-iterator c.requires.ready c.loop-words.invariant
    c.in-Some.words.now c.next.new.self c.in-Some.ensures.steps c.requires.counted c.fill_new.result.1.now c.fill_new.ensures.left c.fill_new.ensures.fills c.args.end c.requires.below t.0 t.1 f.0 f.1 f.2 t.3

pub returns : goal.returns
returns c = all_filled c.args.operator.now c.loop-words.operator c.args.pages.now c.loop-words.left.now c.args.programs c.loop-words.words-iterator c.loop-words.invariant c.in-None.ensures.steps.0 c.requires.counted
