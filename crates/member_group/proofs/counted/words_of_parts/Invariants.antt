use Rattle.std.proofs.Common.{◌*◌, ◌+◌, ◌≡◌, ◌≤◌, length, take}
use Rattle.std.specs.List.{sum_by}
use Rattle.bpf_verify.specs.declared.TheConstants.{MAX_INSTRUCTIONS}
use Rattle.ipv4_fields.specs.declared.endpoint.Endpoint.{Endpoint}
use Rattle.member_group.specs.Charge.{programs_of_group}
use Rattle.member_group.proofs.counted.words_of_parts.Given as goal

abbrev pub invariant-loop-member : goal.invariant-loop-member
invariant-loop-member g l = record {
  counted : (key : Endpoint) → l.words ≡ sum_by (λ program. length program.words) (programs_of_group (record { key = key; selector = l.selector; members = take l.member-index l.members }));
  bounded : l.words ≤ MAX_INSTRUCTIONS + MAX_INSTRUCTIONS * l.member-index;
}
