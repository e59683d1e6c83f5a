use Rattle.std.proofs.Common.{◌≡◌, ◌∙◌, ◌+◌, ◌-◌, ◌*◌, ◌/◌, ◌++◌, ◌∷◌, [], ap, arith, drop, length, rules, sym, take}
use Rattle.std.proofs.lemmas.Result.{on_ok_weaker}
use Rattle.bpf_insn.specs.Word.{word_of}
use Rattle.selector_buckets.specs.Words.{tree_words}
use Rattle.selector_buckets.proofs.TreeWordLemmas.{first_fits, first_half, half_small, pushed_node, second_fits, second_half, tree_words-leaf}
use Rattle.selector_buckets.proofs.tree.+push_tree.Goals as goal

pub returns-then-depth-eq0 : goal.returns-then-depth-eq0
returns-then-depth-eq0 t c = record {
  pushed = c.in_ok-push.ensures.items ∙ ap (λ xs. c.args.words.now.items ++ xs) (ap (λ w. w ∷ []) c.to_word.ensures.word ∙ sym (tree_words-leaf c.args.depth c.args.low c.args.width c.args.members.now c.if-depth-eq0.true));
}

pub test-requires-clause-half : goal.test-requires-clause-half
test-requires-clause-half t c = half_small c.args.depth c.args.low c.args.width c.args.members.now c.requires.limited c.if-depth-eq0.false c.requires.whole

pub push_tree-requires : goal.push_tree-requires
push_tree-requires t c = (
  search rules,
  (
    let limited = c.requires.limited in omega arith,
    (
      first_half c.args.depth c.args.low c.args.width c.args.members.now c.requires.limited c.if-depth-eq0.false c.requires.whole,
      (c.requires.width, first_fits c.args.depth c.args.low c.args.width c.args.members.now c.requires.limited c.if-depth-eq0.false c.requires.whole c.requires.fits),
    ),
  ),
)

pub push_tree-requires-2 : goal.push_tree-requires-2
push_tree-requires-2 t c = (
  search rules,
  (
    let limited = c.requires.limited in omega arith,
    (
      second_half c.args.depth c.args.low c.args.width c.args.members.now c.requires.limited c.if-depth-eq0.false c.requires.whole,
      (c.requires.width, second_fits c.args.depth c.args.low c.args.width c.args.members.now c.requires.limited c.if-depth-eq0.false c.requires.whole c.requires.fits),
    ),
  ),
)

pub returns : goal.returns
returns t c =
    let P : Type 0 = c.push_tree-2.new.words.items ≡ c.push_tree.new.words.items ++ tree_words (c.args.depth - 1) (c.args.low + length c.args.members.now / 2 * c.args.width) c.args.width (take (length c.args.members.now - length c.args.members.now / 2) (drop (length c.args.members.now / 2) c.args.members.now)) in
    record {
      pushed = on_ok_weaker {P = P} c.push_tree-2.result
          (λ push3. pushed_node c.args.depth c.args.low c.args.width c.args.members.now c.requires.limited c.if-depth-eq0.false c.requires.whole
          c.args.words.now.items c.push-2.new.self.items c.push_tree.new.words.items c.push_tree-2.new.words.items c.to_word-2.result
          (c.to_word-2.ensures.word ∙ ap word_of c.test.ensures) c.in_ok-push-2.ensures.items c.in_ok-push_tree.ensures.pushed push3)
          c.push_tree-2.ensures.pushed;
    }
