use Rattle.std.proofs.Common.{◌≡◌, ◌<◌, arith, length, subst, sym}
use Rattle.versions.specs.declared.view.Stage.TheVariants.{Inside}
use Rattle.read_section.specs.Section.{borrow_of, held_words, worker_of}
use Rattle.read_section.specs.Worker.{WorkerValue}
use Rattle.read_section.specs.body.Found.{Knows}
use Rattle.read_section.proofs.HeldWordLemmas.{held_stage}
use Rattle.read_section.proofs.ExtentReadLemmas.{extent_limit, extent_found, extent_room}
use Rattle.read_section.proofs.ReadLemmas.{fetched_in, pinned_kept}
use Rattle.read_section.proofs.RowReadLemmas.{knows_extent, row_alone}
use Rattle.read_section.proofs.section.SectionWords.make_ready.Goals as goal

pub ready_words-requires : goal.ready_words-requires
ready_words-requires c = let s = c.args.self.now in let w = worker_of s in let t = held_stage w.view.stage w.view.seen c.args.i c.requires in let p = c.in-Some.extent in let told = c.in-Some.ensures in
    extent_limit w p (extent_found w s.kept.row s.kept.heads s.kept.extent p s.known told.0) t.0 t.1 t.2 t.3 (let a = told.1.0 in let b = told.1.1 in omega arith)

pub invariant_of-self : goal.invariant_of-self
invariant_of-self c = let s = c.args.self.now in let w = worker_of s in let t = held_stage w.view.stage w.view.seen c.args.i c.requires in let p = c.in-Some.extent in let told = c.in-Some.ensures in
    record { known = knows_extent w s.kept.row s.kept.heads s.kept.extent p t.0 t.1 t.2 t.3 s.known (λ some. told.0) }

pub returns-in-Some-clause-room : goal.returns-in-Some-clause-room
returns-in-Some-clause-room c = let s = c.args.self.now in let w = worker_of s in let t = held_stage w.view.stage w.view.seen c.args.i c.requires in let p = c.in-Some.extent in let told = c.in-Some.ensures in let is = extent_found w s.kept.row s.kept.heads s.kept.extent p s.known told.0 in
    let some : p.at < p.end = (let a = told.1.0 in let b = told.1.1 in omega arith) in let limit = extent_limit w p is t.0 t.1 t.2 t.3 some in let shift = c.ready_words.ensures.shift in let room = extent_room w p is some (omega arith) in omega arith

pub ready_words-requires-in-Some-lookup : goal.ready_words-requires-in-Some-lookup
ready_words-requires-in-Some-lookup c = let s = c.args.self.now in let w = worker_of s in let t = held_stage w.view.stage w.view.seen c.args.i c.requires in let read = c.read_by_row-word.ensures.few_fetches in let after = c.read_by_row-word.new.worker in let stage : after.view.stage ≡ Inside t.0 t.1 t.2 = subst (λ (v : WorkerValue). v.view.stage ≡ Inside t.0 t.1 t.2) (sym read.only) t.3 in let known = subst (λ (v : WorkerValue). Knows v.view s.kept.row s.kept.heads s.kept.extent) (sym read.only) s.known in let p = c.in-Some-lookup.extent in let told = c.in-Some-lookup.ensures in
    extent_limit after p (extent_found after s.kept.row s.kept.heads s.kept.extent p known told.0) t.0 t.1 t.2 stage (let a = told.1.0 in let b = told.1.1 in omega arith)

pub invariant_of-self-in-Some-lookup : goal.invariant_of-self-in-Some-lookup
invariant_of-self-in-Some-lookup c = let s = c.args.self.now in let w = worker_of s in let t = held_stage w.view.stage w.view.seen c.args.i c.requires in let read = c.read_by_row-word.ensures.few_fetches in let after = c.read_by_row-word.new.worker in let stage : after.view.stage ≡ Inside t.0 t.1 t.2 = subst (λ (v : WorkerValue). v.view.stage ≡ Inside t.0 t.1 t.2) (sym read.only) t.3 in let known = subst (λ (v : WorkerValue). Knows v.view s.kept.row s.kept.heads s.kept.extent) (sym read.only) s.known in let p = c.in-Some-lookup.extent in let told = c.in-Some-lookup.ensures in
    record { known = knows_extent after s.kept.row s.kept.heads s.kept.extent p t.0 t.1 t.2 stage known (λ some. told.0) }

pub returns-in-Some-lookup-clause-room : goal.returns-in-Some-lookup-clause-room
returns-in-Some-lookup-clause-room c = let s = c.args.self.now in let w = worker_of s in let t = held_stage w.view.stage w.view.seen c.args.i c.requires in let read = c.read_by_row-word.ensures.few_fetches in let after = c.read_by_row-word.new.worker in let stage : after.view.stage ≡ Inside t.0 t.1 t.2 = subst (λ (v : WorkerValue). v.view.stage ≡ Inside t.0 t.1 t.2) (sym read.only) t.3 in let known = subst (λ (v : WorkerValue). Knows v.view s.kept.row s.kept.heads s.kept.extent) (sym read.only) s.known in let p = c.in-Some-lookup.extent in let told = c.in-Some-lookup.ensures in let is = extent_found after s.kept.row s.kept.heads s.kept.extent p known told.0 in
    let some : p.at < p.end = (let a = told.1.0 in let b = told.1.1 in omega arith) in let limit = extent_limit after p is t.0 t.1 t.2 stage some in let shift = c.ready_words-in-Some-lookup.ensures.shift in let room = extent_room after p is some (omega arith) in omega arith

pub returns-in-Some-lookup-clause-few_fetches : goal.returns-in-Some-lookup-clause-few_fetches
returns-in-Some-lookup-clause-few_fetches c = let s = c.args.self.now in fetched_in 13 c.args.i c.read_by_row-word.result (worker_of s) c.read_by_row-word.new.worker c.read_by_row-word.ensures.few_fetches

pub returns-in-Some-lookup-clause-rest_kept : goal.returns-in-Some-lookup-clause-rest_kept
returns-in-Some-lookup-clause-rest_kept c = let s = c.args.self.now in λ j. record { borrow = borrow_of s; pinned = pinned_kept 13 c.args.i c.read_by_row-word.result (worker_of s) c.read_by_row-word.new.worker c.read_by_row-word.ensures.few_fetches j }

pub invariant_of-self-in-None : goal.invariant_of-self-in-None
invariant_of-self-in-None c = let s = c.args.self.now in let read = c.read_by_row-word.ensures.few_fetches in let after = c.read_by_row-word.new.worker in let known = subst (λ (v : WorkerValue). Knows v.view s.kept.row s.kept.heads s.kept.extent) (sym read.only) s.known in
    record { known = row_alone after s.kept.row s.kept.heads s.kept.extent c.args.i (subst (λ (v : WorkerValue). c.args.i < length (held_words v)) (sym read.only) c.requires) known }

pub returns-in-None-clause-few_fetches : goal.returns-in-None-clause-few_fetches
returns-in-None-clause-few_fetches c = let s = c.args.self.now in fetched_in 13 c.args.i c.read_by_row-word.result (worker_of s) c.read_by_row-word.new.worker c.read_by_row-word.ensures.few_fetches

pub returns-in-None-clause-rest_kept : goal.returns-in-None-clause-rest_kept
returns-in-None-clause-rest_kept c = let s = c.args.self.now in λ j. record { borrow = borrow_of s; pinned = pinned_kept 13 c.args.i c.read_by_row-word.result (worker_of s) c.read_by_row-word.new.worker c.read_by_row-word.ensures.few_fetches j }
