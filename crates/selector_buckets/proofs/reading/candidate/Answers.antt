use Rattle.std.proofs.Common.{◌≡◌, ◌∙◌, ◌+◌, ◌-◌, ◌++◌, ap, drop, length, subst, sym, take}
use Rattle.selector_buckets.specs.Buckets.{IsTable}
use Rattle.selector_buckets.specs.Words.{hash_words}
use Rattle.selector_buckets.specs.body.Reading.{leaves}
use Rattle.selector_buckets.proofs.ReadingLemmas.{leaves_table, read_by, read_length, read_long, read_slice, read_table, table_with}
use Rattle.selector_buckets.proofs.reading.candidate.Goals as goal

pub returns-then-words-first-clause-none : goal.returns-then-words-first-clause-none
returns-then-words-first-clause-none c by buckets is =
    read_long c.args.words.now by buckets is c.hash_len-first.result (c.hash_len-first.ensures ∙ ap (λ b. length (hash_words b)) c.hash_by-by.ensures) c.if-words-first.true

pub returns-in_default-clause-none : goal.returns-in_default-clause-none
returns-in_default-clause-none c by buckets is =
    let n = c.hash_len-first.result in
    let slice = read_slice c.args.words.now by buckets is n (c.hash_len-first.ensures ∙ ap (λ b. length (hash_words b)) c.hash_by-by.ensures) in
    c.in_default.ensures.none buckets.depth is.table.limited (ap (λ t. length t + 1) slice ∙ read_length c.args.words.now by buckets is)

pub new-requires : goal.new-requires
new-requires c =
    let n = c.hash_len-first.result in
    let tree = take (length c.args.words.now - n) (drop n c.args.words.now) in
    let read : c.read_members.new.members.items ≡ leaves c.in-Some.depth tree = c.in_ok-read_members.ensures.read ∙ ap (λ xs. xs ++ leaves c.in-Some.depth tree) c.new-members.ensures.items in
    subst (λ m. IsTable (record { depth = c.in-Some.depth; members = m })) (sym read) (leaves_table c.in-Some.depth tree c.in-Some.ensures.some.0)

pub returns-clause-some : goal.returns-clause-some
returns-clause-some c by buckets is =
    let n = c.hash_len-first.result in
    let tree = take (length c.args.words.now - n) (drop n c.args.words.now) in
    let depth = c.in-Some.depth in
    let slice = read_slice c.args.words.now by buckets is n (c.hash_len-first.ensures ∙ ap (λ b. length (hash_words b)) c.hash_by-by.ensures) in
    let read : c.read_members.new.members.items ≡ leaves depth tree = c.in_ok-read_members.ensures.read ∙ ap (λ xs. xs ++ leaves depth tree) c.new-members.ensures.items in (
      c.hash_by-by.ensures ∙ read_by c.args.words.now by buckets is,
      c.new.ensures
          ∙ (ap (table_with depth) (read ∙ ap (leaves depth) slice)
          ∙ read_table c.args.words.now by buckets is depth (sym (ap (λ t. length t + 1) slice) ∙ c.in-Some.ensures.some.1)),
    )
