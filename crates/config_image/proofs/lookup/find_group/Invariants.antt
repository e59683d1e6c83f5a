use Rattle.std.proofs.Common.{◌≡◌, ◌-◌, List}
use Rattle.config_image.specs.Image.{Group}
use Rattle.config_image.specs.Lookup.{BeginsWithImage}
use Rattle.config_image.proofs.SearchLemmas.{IsBetween}
use Rattle.config_image.proofs.lookup.find_group.Given as goal

abbrev pub invariant-halving : goal.invariant-halving
invariant-halving g l =
    (g.W.Words.words l.words ≡ g.W.Words.words l.fn.words)
    × (g.W.Words.rest l.words ≡ g.W.Words.rest l.fn.words)
    × ((config : List Group) → BeginsWithImage (g.W.Words.words l.fn.words) config → IsBetween l.fn.key config l.low l.high)

abbrev pub decreases-halving : goal.decreases-halving
decreases-halving g l = l.high - l.low
