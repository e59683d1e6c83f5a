use Rattle.control_line.proofs.ChangeLemmas.{is_published, is_unpublished}
use Rattle.control_line.proofs.change.publish_next.Goals as goal

pub returns-in-Ok : goal.returns-in-Ok
returns-in-Ok c =
    let told = c.in-Ok.ensures in
    record {
      short = tt;
      published = is_published c.args.next c.args.operator.now c.publish.new.self c.in-Ok.version (λ above. told.too_big.1 above) (λ small last. told.exhausted.1 (small, last)) told.published_exactly told.new_number;
    }

pub returns-in-Err : goal.returns-in-Err
returns-in-Err c =
    let told = c.in-Err.ensures in
    record {
      short = tt;
      published = is_unpublished c.args.next c.args.operator.now c.publish.new.self c.in-Err.fault told.too_big told.exhausted told.busy told.kept;
    }
