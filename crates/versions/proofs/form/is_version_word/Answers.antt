use Rattle.std.proofs.Common.{◌∙◌, ap, arith, get_or, inl, length}
use Rattle.config_image.specs.PageTable.{header_len}
use Rattle.versions.specs.Pooled.{names_in}
use Rattle.versions.proofs.FormLemmas.{length-names_in, length-row_in, part_of_word, word_of_part, word_of_row}
use Rattle.versions.proofs.form.is_version_word.Goals as goal

pub returns-then-place-lt-POOL_BEGIN : goal.returns-then-place-lt-POOL_BEGIN
returns-then-place-lt-POOL_BEGIN c = record {
  word = λ config pages h room. (
    (λ e. inl (c.is_in_row.ensures.0 e)),
    λ word. c.is_in_row.ensures.1 (word_of_row c.args.words.now c.args.row config pages c.requires.table c.requires.row room h c.args.place c.if-place-lt-POOL_BEGIN.true word),
  );
}

pub is_part_word-requires : goal.is_part_word-requires
is_part_word-requires c = record { names = omega (arith, ap length c.row_names.ensures.names, length-names_in c.row_of-row_words.result.now, ap length c.row_of-row_words.ensures.words, length-row_in c.args.words.now c.args.row c.requires.table c.requires.row) }

pub returns : goal.returns
returns c = record {
  word = λ config pages h room. let up = c.if-place-lt-POOL_BEGIN.false in let named = c.row_names.ensures.names ∙ ap names_in c.row_of-row_words.ensures.words in let ends = c.image_len-end.ensures ∙ ap (λ l. header_len (get_or l 0 0)) c.row_of-row_words.ensures.words in (
    (λ e. word_of_part c.args.words.now c.args.row config pages c.requires.table c.requires.row room h c.args.place _ c.row_names.result.now up named ends (c.is_part_word.ensures.0 e)),
    λ word. c.is_part_word.ensures.1 (part_of_word c.args.words.now c.args.row config pages c.requires.table c.requires.row room h c.args.place _ c.row_names.result.now up named ends word),
  );
}
