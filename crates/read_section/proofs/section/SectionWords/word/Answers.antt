use Rattle.std.proofs.Common.{Some, ap, arith, inl, rules, slice_get, subst, sym, ◌*◌, ◌+◌, ◌≡◌, ◌∙◌, ℕ}
use Rattle.config_image.specs.declared.TheConstants.{ROW_WORDS}
use Rattle.config_image.specs.PageTable.{header_len}
use Rattle.config_image.specs.Cache.{Holds}
use Rattle.versions.specs.declared.layout.TheConstants.{ROWS_BEGIN}
use Rattle.versions.specs.declared.view.Stage.TheVariants.{Inside}
use Rattle.versions.specs.View.{after_fetch}
use Rattle.read_section.specs.Reads.{FewFetches}
use Rattle.read_section.specs.Section.{borrow_of, held_words, worker_of}
use Rattle.read_section.specs.Worker.{WorkerValue, steps}
use Rattle.read_section.specs.body.Found.{Knows}
use Rattle.read_section.specs.body.Steps.{SeesWord}
use Rattle.read_section.proofs.FrontLemmas.{front_held, front_reads, front_value, front_within}
use Rattle.read_section.proofs.HeldWordLemmas.{held_stage}
use Rattle.read_section.proofs.ExtentReadLemmas.{extent_held, extent_kept, extent_reads, extent_value, extent_within}
use Rattle.read_section.proofs.ReadLemmas.{none_fetched, pinned_kept, read_last}
use Rattle.read_section.proofs.RowReadLemmas.{first_held, first_newest, first_word, heads_found, row_alone}
use Rattle.read_section.proofs.section.SectionWords.word.Goals as goal

pub row_place-requires-clause-small : goal.row_place-requires-clause-small
row_place-requires-clause-small c = let s = c.args.self.now in let within = front_within (worker_of s) s.kept.row s.kept.heads s.kept.extent c.args.i s.known c.requires (let ne = c.if-i-eq0.false in omega arith) c.if-i-self.true in omega arith

pub fetch-requires-clause-held : goal.fetch-requires-clause-held
fetch-requires-clause-held c = let s = c.args.self.now in rw c.row_place.ensures (front_held (worker_of s) s.kept.row s.kept.heads s.kept.extent c.args.i s.known c.requires (let ne = c.if-i-eq0.false in omega arith) c.if-i-self.true)

pub fetch-requires-clause-within : goal.fetch-requires-clause-within
fetch-requires-clause-within c = let s = c.args.self.now in rw c.row_place.ensures (front_within (worker_of s) s.kept.row s.kept.heads s.kept.extent c.args.i s.known c.requires (let ne = c.if-i-eq0.false in omega arith) c.if-i-self.true)

pub returns-then-i-self-clause-value : goal.returns-then-i-self-clause-value
returns-then-i-self-clause-value c = let s = c.args.self.now in front_value (worker_of s) s.kept.row s.kept.heads s.kept.extent c.args.i s.known c.requires (let ne = c.if-i-eq0.false in omega arith) c.if-i-self.true c.fetch.result (rw c.row_place.ensures at c.fetch.ensures.word)

pub returns-then-i-self-clause-few_fetches : goal.returns-then-i-self-clause-few_fetches
returns-then-i-self-clause-few_fetches c = let s = c.args.self.now in front_reads (worker_of s) s.kept.row s.kept.heads s.kept.extent c.args.i s.known c.requires (let ne = c.if-i-eq0.false in omega arith) c.if-i-self.true 13 c.fetch.result c.fetch.new.self (omega arith) (rw c.row_place.ensures at c.fetch.ensures.one_fetch)

pub invariant_of-self-2 : goal.invariant_of-self-2
invariant_of-self-2 c = let s = c.args.self.now in let w = worker_of s in let read = c.read_by_row-word.ensures.few_fetches in let t = held_stage w.view.stage w.view.seen c.args.i c.requires in let after = c.read_by_row-word.new.worker in
    record { known = heads_found after s.kept.row s.kept.heads s.kept.extent t.0 t.1 t.2 (subst (λ (v : WorkerValue). v.view.stage ≡ Inside t.0 t.1 t.2) (sym read.only) t.3) (subst (λ (v : WorkerValue). Knows v.view s.kept.row s.kept.heads s.kept.extent) (sym read.only) s.known) c.form.result.0 c.form.ensures c.programs_at-self.result c.programs_at-self.ensures }

pub returns-clause-rest_kept : goal.returns-clause-rest_kept
returns-clause-rest_kept c = let s = c.args.self.now in λ j. record { borrow = borrow_of s; pinned = pinned_kept 13 c.args.i c.read_by_row-word.result (worker_of s) c.read_by_row-word.new.worker c.read_by_row-word.ensures.few_fetches j }

pub fetch-first-requires-clause-held : goal.fetch-first-requires-clause-held
fetch-first-requires-clause-held c = let s = c.args.self.now in let w = worker_of s in rw c.row_begin.ensures (first_held w s.kept.row c.args.i (row_alone w s.kept.row s.kept.heads s.kept.extent c.args.i c.requires s.known) c.requires)

pub returns-then-i-eq0-clause-value : goal.returns-then-i-eq0-clause-value
returns-then-i-eq0-clause-value c = let s = c.args.self.now in let w = worker_of s in
    let told : (place x length : ℕ) → place ≡ ROWS_BEGIN + s.kept.row * ROW_WORDS → SeesWord w place x → length ≡ header_len x → slice_get (held_words w) c.args.i ≡ Some length =
    λ place x length e sees is. first_word w s.kept.row c.args.i (row_alone w s.kept.row s.kept.heads s.kept.extent c.args.i c.requires s.known) c.requires x (subst (λ (p : ℕ). SeesWord w p x) e sees) c.if-i-eq0.true ∙ ap Some (sym is) in
    search (rules, told)

pub returns-then-i-eq0-clause-few_fetches : goal.returns-then-i-eq0-clause-few_fetches
returns-then-i-eq0-clause-few_fetches c = let s = c.args.self.now in let w = worker_of s in let row = row_alone w s.kept.row s.kept.heads s.kept.extent c.args.i c.requires s.known in
    let fetched : (place x answer : ℕ) (after : WorkerValue) → place ≡ ROWS_BEGIN + s.kept.row * ROW_WORDS → SeesWord w place x → after ≡ steps (after_fetch place x) w → FewFetches c.args.i answer w after =
    λ place x answer after first sees e. read_last 0 w w (none_fetched w) after _ x (e ∙ ap (λ (p : ℕ). steps (after_fetch p x) w) first) (first_held w s.kept.row c.args.i row c.requires) 13 c.args.i answer (omega arith)
    (first_newest w s.kept.row c.args.i row c.requires x (subst (λ (p : ℕ). SeesWord w p x) first sees) answer (inl c.if-i-eq0.true)) in
    search (rules, fetched)

pub overflow_add-self : goal.overflow_add-self
overflow_add-self c = let s = c.args.self.now in let w = worker_of s in let there : Holds s.kept.extent c.args.i = (c.if-self-i.true, c.if-i-self-2.true) in let is = extent_kept w s.kept.row s.kept.heads s.kept.extent s.known (let low = c.if-self-i.true in let high = c.if-i-self-2.true in omega arith) in
    let within = extent_within w s.kept.extent c.args.i is c.requires there in omega arith

pub fetch-requires-then-i-self-2-clause-held : goal.fetch-requires-then-i-self-2-clause-held
fetch-requires-then-i-self-2-clause-held c = let s = c.args.self.now in let w = worker_of s in let there : Holds s.kept.extent c.args.i = (c.if-self-i.true, c.if-i-self-2.true) in let is = extent_kept w s.kept.row s.kept.heads s.kept.extent s.known (let low = c.if-self-i.true in let high = c.if-i-self-2.true in omega arith) in
    extent_held w s.kept.extent c.args.i is c.requires there 0 w (none_fetched w)

pub fetch-requires-then-i-self-2-clause-within : goal.fetch-requires-then-i-self-2-clause-within
fetch-requires-then-i-self-2-clause-within c = let s = c.args.self.now in let w = worker_of s in let there : Holds s.kept.extent c.args.i = (c.if-self-i.true, c.if-i-self-2.true) in let is = extent_kept w s.kept.row s.kept.heads s.kept.extent s.known (let low = c.if-self-i.true in let high = c.if-i-self-2.true in omega arith) in
    extent_within w s.kept.extent c.args.i is c.requires there

pub returns-then-i-self-2-clause-value : goal.returns-then-i-self-2-clause-value
returns-then-i-self-2-clause-value c = let s = c.args.self.now in let w = worker_of s in let there : Holds s.kept.extent c.args.i = (c.if-self-i.true, c.if-i-self-2.true) in let is = extent_kept w s.kept.row s.kept.heads s.kept.extent s.known (let low = c.if-self-i.true in let high = c.if-i-self-2.true in omega arith) in
    extent_value w s.kept.extent c.args.i is c.requires there 0 w (none_fetched w) c.fetch-then-i-self-2.result c.fetch-then-i-self-2.ensures.word

pub returns-then-i-self-2-clause-few_fetches : goal.returns-then-i-self-2-clause-few_fetches
returns-then-i-self-2-clause-few_fetches c = let s = c.args.self.now in let w = worker_of s in let there : Holds s.kept.extent c.args.i = (c.if-self-i.true, c.if-i-self-2.true) in let is = extent_kept w s.kept.row s.kept.heads s.kept.extent s.known (let low = c.if-self-i.true in let high = c.if-i-self-2.true in omega arith) in
    extent_reads w s.kept.extent c.args.i is c.requires there 0 w (none_fetched w) c.fetch-then-i-self-2.result 13 c.fetch-then-i-self-2.new.self (omega arith) c.fetch-then-i-self-2.ensures.one_fetch
