use Rattle.std.proofs.Common.{ap, arith, ◌<◌, ◌∙◌, ◌∷◌, ◌++◌, [], rules}
use Rattle.config_image.specs.declared.TheConstants.{ROW_WORDS}
use Rattle.read_section.proofs.FilledLemmas.{row_inside}
use Rattle.retire.specs.body.Sink.{SinkValue, taken_of}
use Rattle.retire.proofs.FillingLemmas.{front_grows, one_word_more}
use Rattle.retire.proofs.sink.RowSinkWordSink.put.Goals as goal

pub fill_other-requires-clause-free : goal.fill_other-requires-clause-free
fill_other-requires-clause-free g c = c.self.invariant.fills.fills.still_free

pub invariant_of-self : goal.invariant_of-self
invariant_of-self g c = let h = c.self.invariant in let s = c.self.inside in let e = c.fill_other.ensures in let room = c.requires in let same = ap (λ (v : SinkValue). v.place) c.self.view_is in
    let small : s.place < ROW_WORDS = omega arith in record {
      inside = omega arith;
      fills = one_word_more _ _ _ s.row s.place c.args.word (row_inside s.row h.fills.fills.still_free.0) small e h.fills;
    }

pub returns-clause-taken : goal.returns-clause-taken
returns-clause-taken g c = let h = c.self.invariant in let s = c.self.inside in let e = c.fill_other.ensures in let room = c.requires in let same = ap (λ (v : SinkValue). v.place) c.self.view_is in
    let small : s.place < ROW_WORDS = omega arith in
    ap (λ l. s.operator.ghost_name ∷ s.row ∷ l) (front_grows s.operator.now s.operator.now c.fill_other.new.operator s.row s.place c.args.word (row_inside s.row h.fills.fills.still_free.0) small e)
    ∙ ap (λ (v : SinkValue). taken_of v ++ c.args.word ∷ []) c.self.view_is

pub returns-clause-room : goal.returns-clause-room
returns-clause-room g c = search rules
