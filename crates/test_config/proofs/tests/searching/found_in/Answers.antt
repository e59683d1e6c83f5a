use Rattle.std.proofs.Common.{◌≡◌, arith, sym, rules}
use Rattle.std.proofs.lemmas.Option.{slice_get-get_or}
use Rattle.config_image.specs.Search.{asked}
use Rattle.test_config.proofs.tests.searching.found_in.Goals as goal

pub loop-index-preserved : goal.loop-index-preserved
loop-index-preserved c =
    let search = c.loop-index.invariant.is_search in
    let index : c.in-Some.index ≡ asked c.loop-index.search = c.in-Some.ensures.asked in
    let inside = c.in-Some.ensures.among _ _ _ search in
    let fewer = c.tell.ensures.fewer in
    record {
      is_search = c.tell.ensures.told _ _ _ search (rw (sym index) (slice_get-get_or _ _ 0 inside));
      at_most = let most = c.loop-index.invariant.at_most in omega arith;
    }

pub loop-index-init : goal.loop-index-init
loop-index-init c = search rules

pub new-search-requires-clause-before_end : goal.new-search-requires-clause-before_end
new-search-requires-clause-before_end c = search rules
