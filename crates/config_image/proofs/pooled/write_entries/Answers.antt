use Rattle.std.proofs.Common.{◌≡◌, ◌∷◌, ◌+◌, [], List, ap, ℕ}
use Rattle.config_image.proofs.PartsLemmas.{size_of}
use Rattle.config_image.proofs.EntryLemmas.{first_fits, entries_enough, entries_first, entries_last, entries_room, entries_step, place_fits, size_step}
use Rattle.config_image.proofs.pooled.write_entries.Goals as goal

pub loop-words-init : goal.loop-words-init
loop-words-init g c =
    let same : c.into_iter-words-iterator.result ≡ c.args.programs = c.into_iter-words-iterator.ensures.into_iter_gives in (
      entries_first _ _ _ _ _ _ same c.requires.pages c.requires.room,
      rw same c.requires.pages,
      ap (λ (some : List (List ℕ)). c.args.programs_at + size_of some) same,
    )

pub write_program_entries-left-requires-clause-enough : goal.write_program_entries-left-requires-clause-enough
write_program_entries-left-requires-clause-enough g c =
    let step : c.loop-words.words-iterator ≡ c.in-Some.words.now ∷ c.next.new.self = c.in-Some.ensures.steps in
    entries_enough _ _ _ step c.loop-words.left.now c.loop-words.invariant.1

pub write_program_entries-left-requires-clause-limited : goal.write_program_entries-left-requires-clause-limited
write_program_entries-left-requires-clause-limited g c =
    let step : c.loop-words.words-iterator ≡ c.in-Some.words.now ∷ c.next.new.self = c.in-Some.ensures.steps in
    (first_fits _ _ _ step c.loop-words.place _ _ c.loop-words.invariant.2 c.requires.limited).1

pub write_program_entries-left-requires-clause-room : goal.write_program_entries-left-requires-clause-room
write_program_entries-left-requires-clause-room g c =
    let step : c.loop-words.words-iterator ≡ c.in-Some.words.now ∷ c.next.new.self = c.in-Some.ensures.steps in
    entries_room _ _ _ step _ _ _ _ _ c.loop-words.left.now _ c.loop-words.invariant.1 c.loop-words.invariant.0

pub overflow_add-place : goal.overflow_add-place
overflow_add-place g c =
    let step : c.loop-words.words-iterator ≡ c.in-Some.words.now ∷ c.next.new.self = c.in-Some.ensures.steps in
    place_fits _ (first_fits _ _ _ step c.loop-words.place _ _ c.loop-words.invariant.2 c.requires.limited).1

pub loop-words-preserved : goal.loop-words-preserved
loop-words-preserved g c =
    let step : c.loop-words.words-iterator ≡ c.in-Some.words.now ∷ c.next.new.self = c.in-Some.ensures.steps in
    let written = c.write_program_entries-left.ensures in
    let next = entries_step _ _ _ step _ _ _ _ _ c.loop-words.left.now _ c.loop-words.invariant.1 c.loop-words.invariant.0 _ _ _ written.left written.taken written.room in
    (next.0, next.1, size_step _ _ _ step c.loop-words.place _ c.loop-words.invariant.2)

pub returns-clause-room : goal.returns-clause-room
returns-clause-room g c =
    let none : c.loop-words.words-iterator ≡ [] = c.in-None.ensures.steps.0 in
    (entries_last _ _ _ _ c.args.programs_at c.loop-words.place c.args.programs c.loop-words.words-iterator c.loop-words.left.now c.args.pages.now none c.requires.pages c.loop-words.invariant.0).1
