use Rattle.std.proofs.Common.{ap, subst, sym, ◌∙◌, ◌∷◌, ℕ, length, replicate, ◌-◌}
use Rattle.config_image.specs.Image.{image}
use Rattle.versions.specs.declared.layout.TheConstants.{ROWS}
use Rattle.versions.specs.State.{new_operator}
use Rattle.versions.specs.Table.{the_shape}
use Rattle.versions.specs.World.{opening_stored}
use Rattle.versions.proofs.ShapeLemmas.{rows_is}
use Rattle.read_section.specs.body.OperatorKept.{IsKeptBy}
use Rattle.read_section.proofs.KeeperLemmas.{IsKeptBy-opened}
use Rattle.read_section.proofs.operator.Operator.opened.Goals as goal

pub invariant_of-result : goal.invariant_of-result
invariant_of-result c = subst (λ v. IsKeptBy v c.args.config c.args.book 0 (c.image_len.result ∷ replicate (ROWS - 1) 0) c.args.words.items c.args.pages) (sym (ap (λ s. s.view) c.requires.seat))
    (subst (IsKeptBy (new_operator the_shape c.args.config (opening_stored c.args.config)) c.args.config c.args.book 0 (c.image_len.result ∷ replicate (ROWS - 1) 0) c.args.words.items) (sym c.requires.pages)
    (IsKeptBy-opened c.args.config c.args.book (c.image_len.result ∷ replicate (ROWS - 1) 0) c.args.words.items c.requires.publishable c.requires.book (ap (λ (n : ℕ). n ∷ replicate (ROWS - 1) 0) c.image_len.ensures.length_exact ∙ ap (λ (n : ℕ). length (image c.args.config) ∷ replicate (n - 1) 0) (sym rows_is)) c.requires.words))
