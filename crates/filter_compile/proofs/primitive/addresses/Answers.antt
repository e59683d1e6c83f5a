use Rattle.std.proofs.Common.{arith}
use Rattle.filter_tree.specs.Primitive.{is_ip}
use Rattle.filter_compile.specs.declared.ends.Part.TheVariants.{Address}
use Rattle.filter_compile.specs.body.Header.{ends_pass, weight_of_addresses}
use Rattle.filter_compile.specs.body.Weight.{version_weight_under}
use Rattle.filter_compile.proofs.GuardLemmas.{Guards-added, Writes-guarded}
use Rattle.filter_compile.proofs.primitive.addresses.Goals as goal

pub returns : goal.returns
returns g c =
    let ip = c.guard_ip.new.passed in let sides = c.in_ok-sides.sides in let pass = ends_pass Address c.args.direction c.args.check.now in record {
      writes = Writes-guarded c.args.known ip.on sides.yes sides.no c.or_no.result ip.no is_ip pass (weight_of_addresses (version_weight_under c.args.known) c.args.direction c.args.check.now) (omega arith) c.or_no.ensures.of_self c.or_no.ensures.of_no (Guards-added c.args.known is_ip version_weight_under c.at_once-ip.result ip c.at_once-ip.ensures.on c.in_ok-guard_ip.ensures.adds)
          c.in_ok-sides.ensures.writes;
    }
