use Rattle.std.proofs.Common.{◌≡◌, ◌∙◌, ◌+◌, ◌-◌, ◌/◌, ◌++◌, ap, arith, drop, length, rules, sym, take}
use Rattle.std.proofs.lemmas.Result.{on_ok_weaker}
use Rattle.selector_buckets.specs.body.Reading.{leaves}
use Rattle.selector_buckets.proofs.ReadingLemmas.{first_slice_long, leaves-first, read_node, second_slice_long}
use Rattle.selector_buckets.proofs.reading.+read_members.Goals as goal

pub returns-then-depth-eq0 : goal.returns-then-depth-eq0
returns-then-depth-eq0 t c = record {
  read = c.in_ok-push.ensures.items ∙ ap (λ xs. c.args.members.now.items ++ xs) (sym (leaves-first c.args.depth c.args.tree.now c.if-depth-eq0.true));
}

pub read_members-requires : goal.read_members-requires
read_members-requires t c = (
  search rules,
  (let limited = c.requires.depth in omega arith, first_slice_long c.args.depth c.args.tree.now c.if-depth-eq0.false c.requires.whole),
)

pub read_members-requires-2 : goal.read_members-requires-2
read_members-requires-2 t c = (
  search rules,
  (let limited = c.requires.depth in omega arith, second_slice_long c.args.depth c.args.tree.now c.if-depth-eq0.false c.requires.whole),
)

pub returns : goal.returns
returns t c =
    let tree = c.args.tree.now in
    let P : Type 0 = c.read_members-2.new.members.items ≡ c.read_members.new.members.items ++ leaves (c.args.depth - 1) (take (length tree - (1 + length tree / 2)) (drop (1 + length tree / 2) tree)) in
    record {
      read = on_ok_weaker {P = P} c.read_members-2.result
          (λ read2. read_node c.args.depth tree c.if-depth-eq0.false c.requires.whole c.args.members.now.items c.read_members.new.members.items c.read_members-2.new.members.items c.in_ok-read_members.ensures.read read2)
          c.read_members-2.ensures.read;
    }
