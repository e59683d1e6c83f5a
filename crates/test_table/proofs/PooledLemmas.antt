-- A row without page table entries holds a configuration without programs.
use Rattle.std.proofs.Common.{◌≡◌, ◌∙◌, ◌+◌, ◌*◌, ◌<◌, List, [], ap, arith, length, slice_index, sym, ℕ}
use Rattle.config_image.specs.declared.TheConstants.{ROW_WORDS}
use Rattle.config_image.specs.Image.{Group}
use Rattle.config_image.specs.Pooled.{parts, pooled_row}
use Rattle.config_image.proofs.PooledLemmas.{parts_stand}
use Rattle.versions.specs.Table.{the_shape}
use Rattle.read_section.specs.Layout.{HoldsConfig}
use Rattle.read_section.specs.Operator.{OperatorValue}
use Rattle.read_section.proofs.FilledLemmas.{word_at}
use Rattle.versions.proofs.ListLemmas.{none_of_none}

pub no_pages_held : (config : List Group) → length (parts config) ≡ 0 → (o : OperatorValue) (r : ℕ) → ((i : ℕ) → i < ROW_WORDS → word_at o r i ≡ slice_index (pooled_row config []) i) → HoldsConfig o.view r config
unfolding the_shape
no_pages_held config none o r row = (
  [],
  record {
    counted = sym none;
    below = λ index page at. absurd (none_of_none page index at);
    fits = λ index part cut. ((parts_stand config).sized index part cut).1;
    row = λ i low. ap (λ (n : ℕ). slice_index o.view.stored n) (let g : 0 + (r * ROW_WORDS + i) ≡ r * ROW_WORDS + i = omega arith in g) ∙ row i low;
    standing = λ index page k x part at cut word. absurd (none_of_none page index at);
  },
)
