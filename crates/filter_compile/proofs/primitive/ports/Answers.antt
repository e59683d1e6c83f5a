use Rattle.std.proofs.Common.{List, arith, subst, sym, ℕ}
use Rattle.filter_emit.proofs.GuardLemmas.{Extends-writes}
use Rattle.ipv4_fields.specs.declared.header.Field.TheVariants.{Protocol}
use Rattle.ipv4_fields.specs.Field.{field_of}
use Rattle.filter_tree.specs.declared.truth.Truth.{Truth}
use Rattle.filter_tree.specs.Outcome.{◌and_then◌, tested}
use Rattle.filter_tree.specs.Primitive.{has_ports, is_first_fragment, is_ip}
use Rattle.filter_facts.specs.Known.{Holds, Knows}
use Rattle.filter_facts.proofs.FactLemmas.{x_known}
use Rattle.filter_compile.specs.declared.ends.Part.TheVariants.{Port}
use Rattle.filter_compile.specs.body.Header.{ends_pass, weight_of_ports}
use Rattle.filter_compile.specs.body.Weight.{ports_weight_under}
use Rattle.filter_compile.proofs.GuardLemmas.{Guards-added, Writes-guarded}
use Rattle.filter_compile.proofs.HeaderLemmas.{Tests-header, ends_fail}
use Rattle.filter_compile.proofs.primitive.ports.Goals as goal

pub returns : goal.returns
returns g c =
    let before = c.guard_ports.new.passed in let sides = c.in_ok-sides.sides in let on = c.with_header_in_x-on.result in let direction = c.args.direction in let check = c.args.check.now in let pass = ends_pass Port direction check in
    let guard : List ℕ → Truth = λ packet. is_ip packet and_then tested (has_ports c.args.transport) (field_of Protocol packet) and_then is_first_fragment packet in record {
      writes = Writes-guarded c.args.known before.on sides.yes sides.no c.or_no.result before.no guard pass (weight_of_ports (ports_weight_under c.args.known c.args.transport) direction check) (omega arith) c.or_no.ensures.of_self c.or_no.ensures.of_no (Guards-added c.args.known guard (λ k. ports_weight_under k c.args.transport) c.at_once-before.result before c.at_once-before.ensures.on c.in_ok-guard_ports.ensures.adds)
          (Extends-writes
          (λ at_yes at_no mid words loads h. Tests-header (Holds before.on) (Holds on) (Holds sides.yes) (Holds sides.no) c.header_in_x.result pass at_yes at_no mid words (λ packet a x k. subst (λ b. Knows b packet x) (sym c.header_in_x.ensures.exact) (x_known before.on packet a x k))
          c.with_header_in_x-on.ensures.holds (ends_fail direction check) (loads 0) h)
          c.in_ok-load_header.ensures.extends c.in_ok-sides.ensures.writes);
    }
