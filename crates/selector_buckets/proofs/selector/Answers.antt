use Rattle.std.proofs.Common.{◌≡◌, ◌∙◌, ap, arith, length, subst, sym}
use Rattle.bpf_verify.specs.Accepted.{IsAccepted}
use Rattle.bpf_machine.specs.Meaning.{ending_of}
use Rattle.selector_buckets.specs.Words.{selector_words}
use Rattle.selector_buckets.proofs.SelectorLemmas.{selector_accepted, selector_length, selector_selects, selector_written}
use Rattle.selector_buckets.proofs.selector.Goals as goal

pub overflow_cast-charge : goal.overflow_cast-charge
overflow_cast-charge c =
    let written : c.push_tree.new.words.items ≡ selector_words c.args.by c.args.buckets.now =
    selector_written c.args.by c.args.buckets.now c.new-words.result.items c.push_hash.new.words.items c.push_tree.new.words.items c.members.result.now c.depth.result c.width.result
    c.new-words.ensures.items c.in_ok-push_hash.ensures.pushed c.in_ok-push_tree.ensures.pushed c.depth.ensures.depth c.width.ensures.width c.members.ensures.members in
    let few = (selector_accepted c.args.by c.args.buckets.now c.depth.ensures.table).not_too_long in
    omega (arith, c.len-charge.ensures, c.push_tree.new.words.ok.0, ap length written)

pub charged-requires-clause-accepted : goal.charged-requires-clause-accepted
charged-requires-clause-accepted c =
    let written : c.push_tree.new.words.items ≡ selector_words c.args.by c.args.buckets.now =
    selector_written c.args.by c.args.buckets.now c.new-words.result.items c.push_hash.new.words.items c.push_tree.new.words.items c.members.result.now c.depth.result c.width.result
    c.new-words.ensures.items c.in_ok-push_hash.ensures.pushed c.in_ok-push_tree.ensures.pushed c.depth.ensures.depth c.width.ensures.width c.members.ensures.members in
    subst IsAccepted (sym written) (selector_accepted c.args.by c.args.buckets.now c.depth.ensures.table)

pub charged-requires-clause-limited : goal.charged-requires-clause-limited
charged-requires-clause-limited c =
    let written : c.push_tree.new.words.items ≡ selector_words c.args.by c.args.buckets.now =
    selector_written c.args.by c.args.buckets.now c.new-words.result.items c.push_hash.new.words.items c.push_tree.new.words.items c.members.result.now c.depth.result c.width.result
    c.new-words.ensures.items c.in_ok-push_hash.ensures.pushed c.in_ok-push_tree.ensures.pushed c.depth.ensures.depth c.width.ensures.width c.members.ensures.members in
    let few = (selector_accepted c.args.by c.args.buckets.now c.depth.ensures.table).not_too_long in
    omega (arith, c.len-charge.ensures, c.push_tree.new.words.ok.0, ap length written)

pub returns-clause-selects : goal.returns-clause-selects
returns-clause-selects c packet dispatched =
    let written : c.push_tree.new.words.items ≡ selector_words c.args.by c.args.buckets.now =
    selector_written c.args.by c.args.buckets.now c.new-words.result.items c.push_hash.new.words.items c.push_tree.new.words.items c.members.result.now c.depth.result c.width.result
    c.new-words.ensures.items c.in_ok-push_hash.ensures.pushed c.in_ok-push_tree.ensures.pushed c.depth.ensures.depth c.width.ensures.width c.members.ensures.members in
    ap (λ words. ending_of words packet) (c.charged.ensures.words_taken ∙ written) ∙ selector_selects c.args.by c.args.buckets.now c.depth.ensures.table packet dispatched

pub returns-clause-within_length : goal.returns-clause-within_length
returns-clause-within_length c =
    let written : c.push_tree.new.words.items ≡ selector_words c.args.by c.args.buckets.now =
    selector_written c.args.by c.args.buckets.now c.new-words.result.items c.push_hash.new.words.items c.push_tree.new.words.items c.members.result.now c.depth.result c.width.result
    c.new-words.ensures.items c.in_ok-push_hash.ensures.pushed c.in_ok-push_tree.ensures.pushed c.depth.ensures.depth c.width.ensures.width c.members.ensures.members in
    omega (arith, ap length (c.charged.ensures.words_taken ∙ written), selector_length c.args.by c.args.buckets.now c.depth.ensures.table)
