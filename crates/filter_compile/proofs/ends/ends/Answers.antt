use Rattle.filter_emit.proofs.WritesLemmas.{Writes-means}
use Rattle.filter_compile.specs.body.Header.{destination_of, source_of}
use Rattle.filter_compile.proofs.HeaderLemmas.{Tests-end}
use Rattle.filter_compile.proofs.ends.ends.Goals as goal

pub returns-in-Ok : goal.returns-in-Ok
returns-in-Ok g c =
    let end = c.in-Ok in let sides = c.both in record {
      writes = rw c.in-Source.is (Writes-means
          (λ at_yes at_no words h. Tests-end c.args.check.now c.args.known c.source.result (source_of c.args.part) end.behind sides.result.yes sides.result.no at_yes at_no words c.source.ensures sides.ensures.yes sides.ensures.no h) end.ensures.writes);
    }

pub returns-in-Ok-test_end : goal.returns-in-Ok-test_end
returns-in-Ok-test_end g c =
    let end = c.in-Ok-test_end in let sides = c.both-in-Ok-test_end in record {
      writes = rw c.in-Destination.is (Writes-means
          (λ at_yes at_no words h. Tests-end c.args.check.now c.args.known c.destination.result (destination_of c.args.part) end.behind sides.result.yes sides.result.no at_yes at_no words c.destination.ensures sides.ensures.yes sides.ensures.no h) end.ensures.writes);
    }
