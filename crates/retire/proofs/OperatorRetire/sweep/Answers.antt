use Rattle.std.proofs.Common.{ap, refl, subst, ◌∙◌}
use Rattle.read_section.specs.Operator.{IsReport, OperatorValue}
use Rattle.retire.proofs.PublishLemmas.{looked_keeps}
use Rattle.retire.proofs.OperatorRetire.sweep.Goals as goal

pub returns : goal.returns
returns c =
    let each = c.scan_each.ensures in
    let reported_kept = ap (λ (o : OperatorValue). o.reported) each.no_more ∙ looked_keeps (λ (o : OperatorValue). o.reported) (λ w x log o. refl) each.scans c.args.self.now in record {
      sweep_exact = record {
        scanned = c.scan_each.new.operator;
        each = c.scan_each.ensures;
        report = subst (λ k. IsReport c.scan_each.new.operator.view k c.report.result.first c.report.result.count) reported_kept c.report.ensures.report_exact;
        reported = c.report.ensures.reported;
      };
    }
