use Rattle.std.proofs.Common.{◌∙◌, ◌++◌, ap, refl}
use Rattle.versions.specs.declared.layout.TheConstants.{ROWS_BEGIN}
use Rattle.versions.proofs.OpenedLemmas.{all_in_pages, opened_words_sized, zeros_made}
use Rattle.versions.proofs.world.opening_words.Goals as goal

pub returns : goal.returns
returns g c = let config = c.args.config.now in record {
  words = opened_words_sized config c.requires.room c.resize.new.self.items c.push_row.new.words.items c.resize-2.new.self.items c.push_programs.new.words.items c.resize-3.new.self.items _ _ _
      (zeros_made c.in_ok-words.words.items c.resize.new.self.items ROWS_BEGIN c.in_ok-words.words.len c.in_ok-words.ensures.items c.in_ok-words.words.ok.0 c.in_ok-resize.ensures.items)
      c.in_ok-push_row.ensures.pushed c.push_row.new.words.ok.0 c.in_ok-resize-2.ensures.items
      (c.in_ok-push_programs.ensures.pushed ∙ ap (λ l. c.resize-2.new.self.items ++ all_in_pages l) c.of.ensures.all) c.push_programs.new.words.ok.0 c.in_ok-resize-3.ensures.items refl;
}
