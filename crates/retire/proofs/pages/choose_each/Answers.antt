use Rattle.std.proofs.Common.{◌∙◌, IfSome, [], ◌∷◌, ap, arith, length, refl, subst, sym}
use Rattle.std.proofs.lemmas.Grind.{common_steps}
use Rattle.config_image.specs.Walk.{words_of_programs}
use Rattle.config_image.proofs.ProgramLemmas.{parts-by_words}
use Rattle.retire.specs.body.Allocation.{IsBehindNoneFree, IsPassing, NoneFree, AllocationValue, TakesOneMore}
use Rattle.retire.proofs.RunLemmas.{if_some, none_before_more, none_free_yet, room_for_run, run_beside}
use Rattle.retire.proofs.AllocationLemmas.{all_allocated, current_held, room_for_next, allocated_for_next}
use Rattle.retire.proofs.pages.choose_each.Goals.{else-end-eq0, then-end-eq0}
use Rattle.retire.proofs.pages.choose_each.Goals as goal

pub share_equal-requires : goal.share_equal-requires
share_equal-requires g c = let view = c.args.operator.now.view in let of = c.of-current.result in let config = c.args.config.now in let h = c.loop-words.invariant in
    let left = c.loop-words.current.left in
    let passing = subst (λ b. IsPassing (words_of_programs b.now) c.loop-words.current.pages.now left.programs left.pages.now) (sym h.1)
    (subst (λ b. IsPassing (words_of_programs of.config.now) b.now left.programs left.pages.now) (sym h.2) h.3) in
    let room = room_for_run view (words_of_programs of.config.now) of.pages.now c.of-current.ensures.none_passed.counted (current_held view of.config.now of.pages.now c.of-current.ensures.stands) (words_of_programs config)
    g.row.N c.loop-words.programs c.loop-words.allocation h.0 (omega (arith, c.requires.enough, ap length (parts-by_words config))) in
    (omega (arith, c.requires.limit), (passing, room))

pub take_for-requires : goal.take_for-requires
take_for-requires g c = let view = c.args.operator.now.view in let of = c.of-current.result in let config = c.args.config.now in let h = c.loop-words.invariant in
    let run = run_beside view (words_of_programs of.config.now) of.pages.now c.of-current.ensures.none_passed.counted (current_held view of.config.now of.pages.now c.of-current.ensures.stands) (words_of_programs config)
    _ _ _ _ h.0 _ _ (ap (λ b. words_of_programs b.now) h.1) (ap (λ b. b.now) h.2) c.in-Some.ensures.some in
    let held = subst (λ b. NoneFree view b.now) (sym (c.share_equal.ensures.same.1 ∙ h.2)) (current_held view of.config.now of.pages.now c.of-current.ensures.stands) in
    let room = room_for_next view (words_of_programs of.config.now) of.pages.now (words_of_programs config) (c.in-Some.words.now ∷ c.share_equal.new.programs) c.share_equal.new.allocation run
    c.in-Some.words.now c.share_equal.new.programs refl g.row.N (omega (arith, c.requires.enough, ap length (parts-by_words config))) in
    let passing = subst (λ b. IsPassing (words_of_programs b.now) c.share_equal.new.self.pages.now c.share_equal.new.self.left.programs c.share_equal.new.self.left.pages.now) (sym c.share_equal.ensures.same.0)
    (subst (λ b. IsPassing (words_of_programs c.loop-words.current.config.now) b.now c.share_equal.new.self.left.programs c.share_equal.new.self.left.pages.now) (sym c.share_equal.ensures.same.1) c.share_equal.ensures.passing) in
    (omega (arith, c.requires.limit), (c.requires.row, (passing, (held, (room, (c.requires.limit, run.allocation_is))))))

pub loop-words-preserved : goal.loop-words-preserved
loop-words-preserved g c = let view = c.args.operator.now.view in let h = c.loop-words.invariant in let e = c.take_for.ensures in let words = c.in-Some.words.now in let of = c.of-current.result in
    let config_is = c.share_equal.ensures.same.0 ∙ h.1 in let pages_are = c.share_equal.ensures.same.1 ∙ h.2 in
    let run = run_beside view (words_of_programs of.config.now) of.pages.now c.of-current.ensures.none_passed.counted (current_held view of.config.now of.pages.now c.of-current.ensures.stands) (words_of_programs c.args.config.now)
    _ _ _ _ h.0 _ _ (ap (λ b. words_of_programs b.now) h.1) (ap (λ b. b.now) h.2) c.in-Some.ensures.some in (
      allocated_for_next view (words_of_programs of.config.now) of.pages.now (words_of_programs c.args.config.now) (words ∷ c.share_equal.new.programs) c.share_equal.new.allocation run words c.share_equal.new.programs refl c.take_for.new.allocation e.allocation
          (subst (λ b. TakesOneMore view (words_of_programs b.now) of.pages.now words c.share_equal.new.allocation c.take_for.new.allocation) config_is
          (subst (λ b. TakesOneMore view (words_of_programs c.share_equal.new.self.config.now) b.now words c.share_equal.new.allocation c.take_for.new.allocation) pages_are e.one_more)),
      e.same.0 ∙ config_is,
      e.same.1 ∙ pages_are,
      subst (λ b. IsPassing (words_of_programs b.now) of.pages.now c.take_for.new.current.left.programs c.take_for.new.current.left.pages.now) config_is
          (subst (λ b. IsPassing (words_of_programs c.share_equal.new.self.config.now) b.now c.take_for.new.current.left.programs c.take_for.new.current.left.pages.now) pages_are e.passing),
      elim c.if-end-eq0.branch [
        | then-end-eq0 w ↦ subst (λ o. IfSome o (λ first. IsBehindNoneFree view (words_of_programs c.args.config.now) c.take_for.new.allocation.pages first.0.now first.1)) (sym w.first-is)
            (none_before_more view (words_of_programs c.args.config.now) c.share_equal.new.allocation.pages e.one_more.own c.take_for.new.allocation.pages words w.count.result e.one_more.pages
            (subst (IsBehindNoneFree view (words_of_programs c.args.config.now) c.share_equal.new.allocation.pages words) (sym w.count.ensures)
            (none_free_yet view (words_of_programs of.config.now) of.pages.now c.of-current.ensures.none_passed.counted (current_held view of.config.now of.pages.now c.of-current.ensures.stands) (words_of_programs c.args.config.now)
            words c.share_equal.new.programs c.share_equal.new.allocation run (sym c.end.ensures ∙ w.if-end-eq0.true))))
        | else-end-eq0 w ↦ subst (λ o. IfSome o (λ first. IsBehindNoneFree view (words_of_programs c.args.config.now) c.take_for.new.allocation.pages first.0.now first.1)) (sym w.first-is)
            (if_some c.loop-words.first (λ first there.
            none_before_more view (words_of_programs c.args.config.now) c.share_equal.new.allocation.pages e.one_more.own c.take_for.new.allocation.pages first.0.now first.1 e.one_more.pages
            (none_before_more view (words_of_programs c.args.config.now) c.loop-words.allocation.pages c.in-Some.ensures.some.own c.share_equal.new.allocation.pages first.0.now first.1 (ap (λ (v : AllocationValue). v.pages) c.in-Some.ensures.some.allocation) there)) h.4)
      ],
    )

pub returns-clause-chosen : goal.returns-clause-chosen
returns-clause-chosen g c = let view = c.args.operator.now.view in let of = c.of-current.result in let h = c.loop-words.invariant in
    let run = run_beside view (words_of_programs of.config.now) of.pages.now c.of-current.ensures.none_passed.counted (current_held view of.config.now of.pages.now c.of-current.ensures.stands) (words_of_programs c.args.config.now)
    _ _ _ _ h.0 _ _ (ap (λ b. words_of_programs b.now) h.1) (ap (λ b. b.now) h.2) c.in_default.ensures.none in
    let t = all_allocated view (words_of_programs of.config.now) of.pages.now (words_of_programs c.args.config.now) [] c.share_equal.new.allocation run refl in
    record { earlier = of.config.now; current = c.of-current.ensures.current; current_pages = of.pages.now; stands = c.of-current.ensures.stands; takes = t.0; counted = t.1 }

pub returns-clause-below : goal.returns-clause-below
returns-clause-below g c = let view = c.args.operator.now.view in let of = c.of-current.result in let h = c.loop-words.invariant in
    let run = run_beside view (words_of_programs of.config.now) of.pages.now c.of-current.ensures.none_passed.counted (current_held view of.config.now of.pages.now c.of-current.ensures.stands) (words_of_programs c.args.config.now)
    _ _ _ _ h.0 _ _ (ap (λ b. words_of_programs b.now) h.1) (ap (λ b. b.now) h.2) c.in_default.ensures.none in
    run.allocation_is.below

pub loop-words-init : goal.loop-words-init
loop-words-init g c = grind (arith, common_steps)

pub loop-words-smaller : goal.loop-words-smaller
loop-words-smaller g c = grind (arith, common_steps)

pub returns-clause-first : goal.returns-clause-first
returns-clause-first g c = grind (arith, common_steps)
