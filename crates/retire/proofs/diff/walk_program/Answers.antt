use Rattle.std.proofs.Common.{◌+◌, ◌≤◌, ap, arith, length, subst}
use Rattle.std.specs.Option.{option_map, option_to_list}
use Rattle.config_image.specs.declared.TheConstants.{PAGE_LIMIT}
use Rattle.config_image.specs.Pooled.{pages_for}
use Rattle.retire.specs.body.Diff.{pages_in, words_in}
use Rattle.retire.proofs.DiffLemmas.{pages-one}
use Rattle.retire.proofs.diff.walk_program.Goals as goal

pub pass-requires : goal.pass-requires
pass-requires c = record {
  room = omega (
    arith,
    subst (λ o. c.args.walk.now.pages + pages_in (words_in (option_to_list (option_map (λ lent. lent.now) o))) ≤ PAGE_LIMIT) c.in-Some.is c.requires.room,
    pages-one c.in-Some.program.now.words,
    ap (λ l. pages_for (length l)) c.words.ensures.words,
  );
}
