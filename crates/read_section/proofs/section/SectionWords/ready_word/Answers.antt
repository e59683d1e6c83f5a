use Rattle.std.proofs.Common.{Some, ap, arith, length, rules, slice_get, subst, sym, ◌+◌, ◌-◌, ◌<◌, ◌≡◌, ◌∙◌, ℕ}
use Rattle.config_image.specs.Cache.{Holds}
use Rattle.versions.specs.declared.layout.TheConstants.{TABLE_WORDS}
use Rattle.versions.specs.Safety.{IsHeldPlace}
use Rattle.versions.specs.View.{after_fetch}
use Rattle.versions.specs.Table.{the_shape}
use Rattle.read_section.specs.Reads.{Reads}
use Rattle.read_section.specs.Section.{held_words, worker_of}
use Rattle.read_section.specs.Worker.{WorkerValue, steps}
use Rattle.read_section.specs.body.Steps.{SeesWord}
use Rattle.read_section.proofs.ExtentReadLemmas.{extent_held, extent_kept, extent_reads, extent_value, extent_within}
use Rattle.read_section.proofs.ReadLemmas.{none_fetched}
use Rattle.read_section.proofs.section.SectionWords.ready_word.Goals as goal

pub fetch-requires-clause-held : goal.fetch-requires-clause-held
fetch-requires-clause-held c = let s = c.args.self.now in let w = worker_of s in let p = s.kept.extent in let i = c.args.number - p.shift in let there : Holds p i = (let low = c.requires.from in let high = c.requires.to in (omega arith, omega arith)) in let is = extent_kept w s.kept.row s.kept.heads p s.known (let low = c.requires.from in let high = c.requires.to in omega arith) in let held : i < length (held_words w) = (let within = c.requires.within in let low = c.requires.from in omega arith) in let number : p.shift + i ≡ c.args.number = (let low = c.requires.from in omega arith) in
    subst (IsHeldPlace the_shape w.view) number (extent_held w p i is held there 0 w (none_fetched w))

pub fetch-requires-clause-within : goal.fetch-requires-clause-within
fetch-requires-clause-within c = let s = c.args.self.now in let w = worker_of s in let p = s.kept.extent in let i = c.args.number - p.shift in let there : Holds p i = (let low = c.requires.from in let high = c.requires.to in (omega arith, omega arith)) in let is = extent_kept w s.kept.row s.kept.heads p s.known (let low = c.requires.from in let high = c.requires.to in omega arith) in let held : i < length (held_words w) = (let within = c.requires.within in let low = c.requires.from in omega arith) in let number : p.shift + i ≡ c.args.number = (let low = c.requires.from in omega arith) in
    subst (λ (place : ℕ). place < TABLE_WORDS) number (extent_within w p i is held there)

pub returns-clause-value : goal.returns-clause-value
returns-clause-value c = let s = c.args.self.now in let w = worker_of s in let p = s.kept.extent in let i = c.args.number - p.shift in let there : Holds p i = (let low = c.requires.from in let high = c.requires.to in (omega arith, omega arith)) in let is = extent_kept w s.kept.row s.kept.heads p s.known (let low = c.requires.from in let high = c.requires.to in omega arith) in let held : i < length (held_words w) = (let within = c.requires.within in let low = c.requires.from in omega arith) in let number : p.shift + i ≡ c.args.number = (let low = c.requires.from in omega arith) in
    let told : (x : ℕ) → SeesWord w c.args.number x → slice_get (held_words w) i ≡ Some x = λ x sees. extent_value w p i is held there 0 w (none_fetched w) x (subst (λ (place : ℕ). SeesWord w place x) (sym number) sees) in
    search (rules, told)

pub returns-clause-one_fetch : goal.returns-clause-one_fetch
returns-clause-one_fetch c = let s = c.args.self.now in let w = worker_of s in let p = s.kept.extent in let i = c.args.number - p.shift in let there : Holds p i = (let low = c.requires.from in let high = c.requires.to in (omega arith, omega arith)) in let is = extent_kept w s.kept.row s.kept.heads p s.known (let low = c.requires.from in let high = c.requires.to in omega arith) in let held : i < length (held_words w) = (let within = c.requires.within in let low = c.requires.from in omega arith) in let number : p.shift + i ≡ c.args.number = (let low = c.requires.from in omega arith) in
    let fetched : (x : ℕ) (after : WorkerValue) → after ≡ steps (after_fetch c.args.number x) w → Reads 1 i x w after = λ x after e. extent_reads w p i is held there 0 w (none_fetched w) x 1 after (omega arith) (e ∙ ap (λ (place : ℕ). steps (after_fetch place x) w) (sym number)) in
    search (rules, fetched)
