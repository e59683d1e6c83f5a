use Rattle.config_image.specs.Pooled.{parts_of}
use Rattle.retire.specs.body.Filling.{BeginsIn, FillsPages}
use Rattle.retire.proofs.pages.fill_program.Given as goal

abbrev pub invariant-loop-place : goal.invariant-loop-place
invariant-loop-place l = FillsPages l.fn.operator l.operator l.own (parts_of l.words) × BeginsIn l.operator l.own l.words l.place
