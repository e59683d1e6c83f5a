use Rattle.read_section.proofs.HeldLemmas as held
use Rattle.read_section.proofs.versions_rule.held_words_stand.Goals as goal

pub returns : goal.returns
returns c = record {
  words_stand = held.words_stand;
  words_stay = held.words_stay;
  fetch_exact = held.fetch_exact;
  not_filled = held.not_filled;
}
