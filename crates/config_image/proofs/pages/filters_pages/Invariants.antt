use Rattle.std.proofs.Common.{◌≡◌, ◌+◌, ◌*◌, ◌≤◌, drop, length}
use Rattle.std.specs.List.{sum_by}
use Rattle.bpf_verify.specs.declared.TheConstants.{MAX_INSTRUCTIONS}
use Rattle.config_image.specs.Image.{words_of}
use Rattle.config_image.specs.Pooled.{pages_for}
use Rattle.config_image.proofs.pages.filters_pages.Given as goal

abbrev pub invariant-loop-member : goal.invariant-loop-member
invariant-loop-member g l =
    (l.pages + sum_by (λ member. pages_for (length (words_of member.filter))) (drop l.member-index l.members)
    ≡ sum_by (λ member. pages_for (length (words_of member.filter))) l.members)
    × (l.pages ≤ l.member-index * pages_for MAX_INSTRUCTIONS)
