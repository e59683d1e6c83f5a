-- A row and pages that hold a configuration in the pooled form.
use Rattle.std.proofs.Common.{◌≡◌, ℕ, suc, ◌+◌, ◌-◌, ◌*◌, ◌<◌, ◌≤◌, All, List, ap, arith, drop, get_or, length, length-drop, slice_get, suc-mul, mul-le-mul_right, sym, ◌∙◌}
use Rattle.std.proofs.lemmas.Option.{slice_get-get_or}
use Rattle.std.proofs.lemmas.List.{ext_get_or, get_or-drop, get_or-take, length-take-le}
use Rattle.config_image.specs.Image.{Group}
use Rattle.config_image.specs.Pooled.{ArePages, IsPooledForm, PooledFormTells, pages_of, pooled_row}
use Rattle.config_image.proofs.FormLemmas.{form_tells}
use Rattle.config_image.proofs.PooledLemmas.{row_tells_with_room}
use Rattle.versions.specs.Layout.{HoldsForm, pages_named, row_at, stored_words}
use Rattle.versions.specs.Pooled.{HasRoom, PooledFormStands, page_word}
use Rattle.versions.specs.Table.{the_shape}
use Rattle.versions.proofs.ShapeLemmas.{named_is, pages_is, parts_is, row_is, row_words_is}

module _ (words : List ℕ) (r : ℕ) (config : List Group) (pages : List ℕ) (whole : length words ≡ stored_words the_shape) (low : r < the_shape.rows) (fits : HasRoom config)
    (h : HoldsForm the_shape 0 words r config pages) where
  -- a page's number has 16 bits
  small_pages : All (λ page. page < 65536) pages
  small_pages = λ k d inside. let low' = h.below k (get_or pages k d) (slice_get-get_or pages k d inside) in omega (arith, pages_is)

  are : ArePages config pages
  are = record { counted = h.counted ∙ ap length (parts_is config); below = small_pages }

  -- the row's words are those of the form
  row_stands : row_at the_shape words r ≡ pooled_row config pages
  row_stands =
      let under : suc r * the_shape.row_words ≤ the_shape.rows * the_shape.row_words = mul-le-mul_right the_shape.row_words low in let tells = row_tells_with_room config pages fits are in
      let rest = drop (r * the_shape.row_words) words in
      let long : length rest ≡ length words - r * the_shape.row_words = length-drop (r * the_shape.row_words) words in
      let all : length (row_at the_shape words r) ≡ the_shape.row_words = length-take-le the_shape.row_words rest (omega (arith, suc-mul r the_shape.row_words)) in
      ext_get_or 0 (row_at the_shape words r) (pooled_row config pages) (all ∙ (row_words_is ∙ sym tells.whole))
      (λ i inside. get_or-take the_shape.row_words rest i 0 (omega arith) ∙ (get_or-drop (r * the_shape.row_words) words i 0 ∙ (ap (λ (k : ℕ). get_or words k 0) (let g : r * the_shape.row_words + i ≡ 0 + (r * the_shape.row_words + i) = omega arith in g) ∙ (h.row i (omega arith) ∙ ap (λ l. get_or l i 0) (row_is config pages)))))

  holds : IsPooledForm config (row_at the_shape words r) pages (page_word 0 words)
  holds = record { are = are; row_is = row_stands; stands = λ index page k x part at cut word. h.standing index page k x part at (ap (λ l. slice_get l index) (parts_is config) ∙ cut) word }

  pub stands : PooledFormTells config (row_at the_shape words r) pages (page_word 0 words) × (pages_named the_shape words r ≡ pages)
  stands = (form_tells config (row_at the_shape words r) pages (page_word 0 words) fits holds, named_is words r ∙ ap pages_of row_stands ∙ (row_tells_with_room config pages fits are).pages_are)

pub pooled_form_stands : PooledFormStands
pooled_form_stands = stands
