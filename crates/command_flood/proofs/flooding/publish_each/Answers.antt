use Rattle.command_flood.proofs.PublicationLemmas.{is_tried, tried_more}
use Rattle.command_flood.proofs.flooding.publish_each.Goals as goal

pub loop-successor-preserved-in-Some : goal.loop-successor-preserved-in-Some
loop-successor-preserved-in-Some c =
    let p = c.publish.ensures in (
      tt,
      tt,
      tried_more c.loop-successor.yielded c.in-Some.successor c.args.operator.now c.loop-successor.operator c.publish.new.self c.loop-successor.invariant.2
          (is_tried c.in-Some.successor c.loop-successor.operator c.publish.new.self c.publish.result p.published_exactly p.too_big p.exhausted p.busy p.kept),
    )

pub loop-successor-preserved : goal.loop-successor-preserved
loop-successor-preserved c =
    let p = c.publish.ensures in (
      tt,
      tt,
      tried_more c.loop-successor.yielded c.in-Some.successor c.args.operator.now c.loop-successor.operator c.publish.new.self c.loop-successor.invariant.2
          (is_tried c.in-Some.successor c.loop-successor.operator c.publish.new.self c.publish.result p.published_exactly p.too_big p.exhausted p.busy p.kept),
    )
