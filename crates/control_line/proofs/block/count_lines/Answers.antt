use Rattle.std.proofs.Common.{◌∷◌, ◌++◌, [], arith, length-append, refl}
use Rattle.control_line.proofs.BlockLemmas.{all_read, none_read, one_read, shorter}
use Rattle.control_line.proofs.block.count_lines.Goals as goal

pub loop-line-init : goal.loop-line-init
loop-line-init c = (([], none_read c.args.text.now c.requires, refl), omega arith)

pub loop-line-preserved : goal.loop-line-preserved
loop-line-preserved c =
    let ((lines, so_far, count), within) = c.loop-line.invariant in
    let fewer = shorter c.loop-line.left.now c.in-Some._line.now c.in-Some.rest.now c.in-Some.ensures in (
      (
        lines ++ c.in-Some._line.now ∷ [],
        one_read c.args.text.now c.loop-line.left.now lines c.in-Some._line.now c.in-Some.rest.now so_far c.in-Some.ensures,
        omega (arith, count, length-append lines (c.in-Some._line.now ∷ [])),
      ),
      omega (arith, fewer, within),
    )

pub returns : goal.returns
returns c =
    let ((lines, so_far, count), within) = c.loop-line.invariant in
    (lines, all_read c.args.text.now c.loop-line.left.now lines so_far c.in_default.ensures, count)
