use Rattle.std.proofs.Common.{◌≡◌, take}
use Rattle.config_image.specs.Image.{image}
use Rattle.test_config.proofs.tests.images.words_of.Given as goal

abbrev pub invariant-loop-i : goal.invariant-loop-i
invariant-loop-i l = l.words.items ≡ take l.i (image l.config)
