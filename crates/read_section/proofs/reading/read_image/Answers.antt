use Rattle.std.proofs.Common.{arith}
use Rattle.read_section.specs.body.Found.{no_extent}
use Rattle.read_section.proofs.FrontLemmas.{front_held, front_reads, front_value}
use Rattle.read_section.proofs.ExtentReadLemmas.{extent_held, extent_reads, extent_told, extent_value, extent_within, tells_in}
use Rattle.read_section.proofs.RowReadLemmas.{form_in, heads_found, sought_there}
use Rattle.read_section.proofs.reading.read_image.Goals as goal

pub fetch-requires-clause-held : goal.fetch-requires-clause-held
fetch-requires-clause-held c = rw c.row_place.ensures (let w = c.args.worker.now in let f = c.requires.form in let heads = heads_found w c.args.row 0 no_extent f.0 f.1 f.2 f.3 c.requires.known c.args.form.0 (λ some. form_in w c.args.form.0 f) c.programs_at.result c.programs_at.ensures in
    front_held w c.args.row c.programs_at.result no_extent c.args.i heads c.requires.held c.requires.inside.0 c.if-i-programs_at.true)

pub returns-then-i-programs_at-clause-value : goal.returns-then-i-programs_at-clause-value
returns-then-i-programs_at-clause-value c = let w = c.args.worker.now in let f = c.requires.form in let heads = heads_found w c.args.row 0 no_extent f.0 f.1 f.2 f.3 c.requires.known c.args.form.0 (λ some. form_in w c.args.form.0 f) c.programs_at.result c.programs_at.ensures in
    front_value w c.args.row c.programs_at.result no_extent c.args.i heads c.requires.held c.requires.inside.0 c.if-i-programs_at.true c.fetch.result (rw c.row_place.ensures at c.fetch.ensures.word)

pub returns-then-i-programs_at-clause-few_fetches : goal.returns-then-i-programs_at-clause-few_fetches
returns-then-i-programs_at-clause-few_fetches c = let w = c.args.worker.now in let f = c.requires.form in let heads = heads_found w c.args.row 0 no_extent f.0 f.1 f.2 f.3 c.requires.known c.args.form.0 (λ some. form_in w c.args.form.0 f) c.programs_at.result c.programs_at.ensures in
    front_reads w c.args.row c.programs_at.result no_extent c.args.i heads c.requires.held c.requires.inside.0 c.if-i-programs_at.true 12 c.fetch.result c.fetch.new.self (omega arith) (rw c.row_place.ensures at c.fetch.ensures.one_fetch)

pub find_extent-extent-requires : goal.find_extent-extent-requires
find_extent-extent-requires c = let e = c.programs_at.ensures in let low = c.if-i-programs_at.false in sought_there c.args.worker.now c.args.row c.args.form.0 c.args.i c.requires.known c.requires.form (omega arith) c.requires.inside.1

pub overflow_add-extent : goal.overflow_add-extent
overflow_add-extent c = let w = c.args.worker.now in let p = c.find_extent-extent.result in let is = extent_told w c.args.row p c.requires.known (tells_in w p c.find_extent-extent.ensures.found) in let there = c.find_extent-extent.ensures.there in let few = c.find_extent-extent.ensures.few in let most = few.1 in let within = extent_within w p c.args.i is c.requires.held there in omega arith

pub fetch-requires-2-clause-held : goal.fetch-requires-2-clause-held
fetch-requires-2-clause-held c = let w = c.args.worker.now in let p = c.find_extent-extent.result in let is = extent_told w c.args.row p c.requires.known (tells_in w p c.find_extent-extent.ensures.found) in let there = c.find_extent-extent.ensures.there in let few = c.find_extent-extent.ensures.few in let most = few.1 in
    extent_held w p c.args.i is c.requires.held there few.0 c.find_extent-extent.new.worker few.2

pub fetch-requires-2-clause-within : goal.fetch-requires-2-clause-within
fetch-requires-2-clause-within c = let w = c.args.worker.now in let p = c.find_extent-extent.result in let is = extent_told w c.args.row p c.requires.known (tells_in w p c.find_extent-extent.ensures.found) in let there = c.find_extent-extent.ensures.there in let few = c.find_extent-extent.ensures.few in let most = few.1 in
    extent_within w p c.args.i is c.requires.held there

pub returns-clause-value : goal.returns-clause-value
returns-clause-value c = let w = c.args.worker.now in let p = c.find_extent-extent.result in let is = extent_told w c.args.row p c.requires.known (tells_in w p c.find_extent-extent.ensures.found) in let there = c.find_extent-extent.ensures.there in let few = c.find_extent-extent.ensures.few in let most = few.1 in
    extent_value w p c.args.i is c.requires.held there few.0 c.find_extent-extent.new.worker few.2 c.fetch-2.result c.fetch-2.ensures.word

pub returns-clause-few_fetches : goal.returns-clause-few_fetches
returns-clause-few_fetches c = let w = c.args.worker.now in let p = c.find_extent-extent.result in let is = extent_told w c.args.row p c.requires.known (tells_in w p c.find_extent-extent.ensures.found) in let there = c.find_extent-extent.ensures.there in let few = c.find_extent-extent.ensures.few in let most = few.1 in
    extent_reads w p c.args.i is c.requires.held there few.0 c.find_extent-extent.new.worker few.2 c.fetch-2.result 12 c.fetch-2.new.self (omega arith) c.fetch-2.ensures.one_fetch
