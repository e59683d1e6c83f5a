use Rattle.std.proofs.Common.{◌≡◌, ◌≤◌, arith, length}
use Rattle.member_group.specs.Charge.{charge_of}
use Rattle.config_image.specs.declared.TheConstants.{ROW_WORDS}
use Rattle.config_image.specs.Pooled.{ArePages, parts}
use Rattle.test_config.proofs.tests.pooled.pages_from.Goals as goal

pub returns-clause-room : goal.returns-clause-room
returns-clause-room g c =
    let config = c.args.config.now in let made = c.loop-part.pages.items in
    let charged : charge_of config ≤ ROW_WORDS = (let exact = c.charge.ensures.charge_exact in let small = c.if-charge.false in omega arith) in
    let counted : length made ≡ length (parts config) =
    (let count = c.loop-part.invariant.0 in let all = c.loop-part-test.false in let within = c.loop-part.auto.part-end in let exact = c.page_count-part-end.ensures.exact in omega arith) in
    let pages : ArePages config made = record { counted = counted; below = c.loop-part.invariant.1 } in
    let told = c.row_tells_its_parts.ensures.charged config made c.charge.ensures.config charged pages in
    let inside = told.inside in let short = told.short in omega arith
