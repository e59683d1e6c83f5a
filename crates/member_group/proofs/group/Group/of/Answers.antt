use Rattle.member_group.proofs.group.Group.of.Goals as goal

pub invariant_of-parts : goal.invariant_of-parts
invariant_of-parts g c = record {
  charged = rw c.deref.ensures.value at c.charge_of_parts-charge.ensures.charge c.args.key;
  charge_limited = c.charge_of_parts-charge.ensures.bounded;
  counted = rw c.deref-2.ensures.value at c.words_of_parts-words.ensures.words c.args.key;
  words_limited = c.words_of_parts-words.ensures.limited;
}
