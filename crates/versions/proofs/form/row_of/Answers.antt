use Rattle.std.proofs.Common.{◌≡◌, ◌∙◌, ◌+◌, ◌-◌, ap, arith, drop, take, ℕ}
use Rattle.config_image.specs.declared.TheConstants.{ROW_WORDS}
use Rattle.versions.proofs.form.row_of.Goals as goal

pub returns : goal.returns
returns c = let begin = c.row_begin-begin.result in
    record { words = ap (λ (k : ℕ). take k (drop begin c.args.words.now)) (let g : (begin + ROW_WORDS) - begin ≡ ROW_WORDS = omega arith in g) ∙ ap (λ (k : ℕ). take ROW_WORDS (drop k c.args.words.now)) c.row_begin-begin.ensures }
