use Rattle.std.proofs.Common.{◌≡◌, arith, length, rules}
use Rattle.std.specs.List.{sum_by}
use Rattle.std.proofs.lemmas.List.{at_drop_all}
use Rattle.bpf_verify.specs.Program.{ProgramValue}
use Rattle.member_group.specs.declared.member.Member.{Member}
use Rattle.config_image.specs.Image.{words_of}
use Rattle.config_image.specs.Pooled.{pages_for}
use Rattle.config_image.proofs.PooledLemmas.{filter_pages_from}
use Rattle.config_image.proofs.pages.filters_pages.Goals as goal

pub loop-member-preserved : goal.loop-member-preserved
loop-member-preserved g c =
    let own : c.program_pages-pages.result ≡ pages_for (length (words_of c.member-item.result.filter)) = search rules in
    let left = filter_pages_from c.args.members.now c.loop-member.member-index c.member-item.result c.loop-member-test.true c.member-item.is in
    (omega arith, omega arith)

pub returns-clause-pages : goal.returns-clause-pages
returns-clause-pages g c =
    let none = at_drop_all (sum_by (λ (m : Member ProgramValue). pages_for (length (words_of m.filter)))) c.args.members.now c.loop-member.member-index c.loop-member-test.false in
    omega arith
