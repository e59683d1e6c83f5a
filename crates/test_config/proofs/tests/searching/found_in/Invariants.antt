use Rattle.std.proofs.Common.{◌+◌, ◌≤◌}
use Rattle.config_image.specs.Search.{IsSearchOf, reads_left}
use Rattle.config_image.specs.declared.TheConstants.{READ_LIMIT}
use Rattle.test_config.proofs.tests.searching.found_in.Given as goal

abbrev pub invariant-loop-index : goal.invariant-loop-index
invariant-loop-index l = record {
  is_search : IsSearchOf l.entries l.end l.place l.search;
  at_most : l.reads + reads_left l.search ≤ READ_LIMIT;
}

abbrev pub decreases-loop-index : goal.decreases-loop-index
decreases-loop-index l = reads_left l.search
