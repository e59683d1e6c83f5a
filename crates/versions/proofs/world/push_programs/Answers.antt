use Rattle.std.proofs.Common.{◌∙◌, ◌+◌, ◌*◌, ap, length, rules}
use Rattle.config_image.specs.declared.TheConstants.{PAGE_WORDS}
use Rattle.config_image.specs.Pooled.{pages_for}
use Rattle.versions.proofs.OpenedLemmas.{one_program_more}
use Rattle.versions.proofs.world.push_programs.Goals as goal

pub loop-program-preserved : goal.loop-program-preserved
loop-program-preserved g c =
    one_program_more c.loop-program.words.items c.extend_from_slice.new.self.items c.resize.new.self.items c.in-Some.program.now _ c.loop-program.program-iterator c.next.new.self _ _
    c.in-Some.ensures.steps c.loop-program.invariant c.in_ok-extend_from_slice.ensures.items (ap (λ q. c.len.result + q * PAGE_WORDS) c.pages_for.ensures ∙ ap (λ n. n + pages_for (length c.in-Some.program.now) * PAGE_WORDS) (c.len.ensures ∙ c.loop-program.words.ok.0)) c.extend_from_slice.new.self.ok.0 c.in_ok-resize.ensures.items

pub returns : goal.returns
returns g c = search rules
