-- What a turn comes to.
use Rattle.std.proofs.Common.{◌≡◌, ◌∙◌, ◌≤◌, ◌++◌, ◌↔◌, ◌≢◌, ◌⊎◌, Bool, List, Option, [], ap, append-nil, arith, false, inl, inr, length, length-append, refl, subst, sym, true, ℕ}
use Rattle.serve_stream.specs.declared.conversation.Conversation.{Conversation}
use Rattle.serve_stream.specs.declared.conversation.Stage.{Stage}
use Rattle.serve_stream.specs.declared.conversation.Stage.TheVariants.{Closing, Open, Over, Stopping}
use Rattle.serve_stream.specs.declared.conversation.Turn.{Turn}
use Rattle.serve_stream.specs.declared.conversation.Turn.TheVariants.{Closed, Stop}
use Rattle.serve_stream.specs.Answers.{Exchange}
use Rattle.serve_stream.specs.Standing.{ComesTo, HearsMore, IsHindered, IsTurn, Moves, SaysMore, waiting_of}
use Rattle.serve_stream.specs.Stream.{Event, Happened, Logs, ended, failed, gave_none, interrupted, took_none}
use Rattle.serve_stream.specs.body.Waiting.{AnswersFew, IsKept, IsRead, IsWritten}
use Rattle.serve_stream.proofs.MoveLemmas.{happened_after, happened_before, happened_parts, logs_more, logs_none, moves_more, not_happened, stays}

-- what is over stays so
stays_over : (one other : Stage) → ((other ≡ Over → ⊥) → other ≡ one) → one ≡ Over → other ≡ Over
stays_over one Open kept is = let same : Open ≡ one = kept (λ over. absurd cc) in absurd (cc (same, is))
stays_over one Closing kept is = let same : Closing ≡ one = kept (λ over. absurd cc) in absurd (cc (same, is))
stays_over one Stopping kept is = let same : Stopping ≡ one = kept (λ over. absurd cc) in absurd (cc (same, is))
stays_over one Over kept is = refl

-- a write, and the end if it is due
pub write_and_close : (log log' : Option (List Event)) (d e f : Conversation) (more : Bool) (written : IsWritten log log' d e more) → Moves e f [] [] → Moves d f written.events []
write_and_close log log' d e f more written closes =
    subst (λ (events : List Event). Moves d f events []) (append-nil written.events) (moves_more d e f written.events [] [] [] written.moves closes)

module _ {S : Type 0} (Does : S → S → Exchange → Type 0) where
  pub turn_over : (budget : ℕ) (log : Option (List Event)) (state : S) (c : Conversation) → c.stage ≡ Over → IsTurn Does budget log log state state c c Closed
  turn_over budget log state c over = record {
    events = [];
    exchanges = [];
    logged = logs_none log;
    leads = refl;
    few = omega arith;
    moves = stays c;
    comes_to = over;
    brief = λ other. omega arith;
    stop = λ none. (none, (λ is. absurd cc, λ stop. absurd stop));
    ended = λ here. (refl, refl, refl);
    over_if_failed = λ here. over;
    closed_if_ended = λ here. absurd here;
    not_opened = λ none. none;
    over_if_taken = λ is. absurd (cc (is, over));
  }

  module _ (budget : ℕ) (log middle later : Option (List Event)) (state state' : S) (a b d f : Conversation) (more : Bool) (turn : Turn) (read : IsRead log middle a b more)
      (few : AnswersFew Does budget state state' b d) (lives : a.stage ≡ Over → ⊥) where
    pub turn_made : (events : List Event) → Logs middle later events → Moves d f events [] → ComesTo turn f (read.events ++ events) → (turn ≢ Stop → length events ≤ 1)
        → (f.stage ≡ Stopping → ⊥) → ((turn ≡ Stop) ↔ (d.stage ≡ Stopping)) → (Happened failed (read.events ++ events) → f.stage ≡ Over)
        → (Happened ended (read.events ++ events) → f.stage ≡ Open → ⊥) → ((a.stage ≡ Open → ⊥) → f.stage ≡ Open → ⊥) → (f.stage ≡ Closing → waiting_of f ≡ [] → ⊥)
        → IsTurn Does budget log later state state' a f turn
    turn_made events logged moves comes brief ends stop failing closing not_opened taken = record {
      events = read.events ++ events;
      exchanges = few.exchanges;
      logged = logs_more log middle later read.events events read.logged logged;
      leads = few.leads;
      few = few.few;
      moves = moves_more a b f read.events events [] few.exchanges read.moves
          (subst (λ (xs : List Exchange). Moves b f events xs) (append-nil few.exchanges) (moves_more b d f [] events few.exchanges [] few.moves moves));
      comes_to = comes;
      brief = λ other. let len = length-append read.events events in let first = read.brief in let next = brief other in omega (arith, len, first, next);
      stop = λ none. (ends, let last = few.stop (read.no_stop none) in (λ is. last.0 (stop.0 is), λ is. stop.1 (last.1 is)));
      ended = λ over. absurd (lives over);
      over_if_failed = failing;
      closed_if_ended = closing;
      not_opened = not_opened;
      over_if_taken = taken;
    }

    -- a write, and the end if it is due
    pub turn_written : (e : Conversation) (more' : Bool) (written : IsWritten middle later d e more') → Moves e f [] [] → IsKept e f → ComesTo turn f (read.events ++ written.events)
        → (turn ≡ Stop → ⊥) → (d.stage ≡ Stopping → ⊥) → (d.stage ≡ Open → b.stage ≡ Open) → (b.stage ≡ Over → d.stage ≡ Over) → (f.stage ≡ Closing → waiting_of f ≡ [] → ⊥)
        → IsTurn Does budget log later state state' a f turn
    turn_written e more' written closes kept comes other quiet opens ends taken =
        turn_made written.events written.logged (write_and_close middle later d e f more' written closes) comes (λ is. written.brief) by (λ is. absurd (other is), λ here. absurd (quiet here))
        (λ here. failing (happened_parts failed read.events written.events here)) (λ here. closing (happened_parts ended read.events written.events here))
        (λ none is. read.not_opened none (opens (opened is))) taken
      where
        opened : f.stage ≡ Open → d.stage ≡ Open
        opened is = from written.stage
          where
            same : f.stage ≡ e.stage
            same = kept.stage (λ over. absurd (cc (over, is)))

            from : (e.stage ≡ d.stage) ⊎ (e.stage ≡ Over) → d.stage ≡ Open
            from (inl was) = sym was ∙ (sym same ∙ is)
            from (inr over) = absurd (cc (over, same, is))

        failing : Happened failed read.events ⊎ Happened failed written.events → f.stage ≡ Over
        failing (inl first) = stays_over e.stage f.stage kept.stage (still written.stage)
          where
            still : (e.stage ≡ d.stage) ⊎ (e.stage ≡ Over) → e.stage ≡ Over
            still (inl was) = was ∙ ends (read.over_if_failed first)
            still (inr over) = over
        failing (inr next) = stays_over e.stage f.stage kept.stage (written.over_if_failed next)

        closing : Happened ended read.events ⊎ Happened ended written.events → f.stage ≡ Open → ⊥
        closing (inl first) is = read.closed_if_ended first (opens (opened is))
        closing (inr next) is = written.not_ended next

        by : f.stage ≡ Stopping → ⊥
        by here = by_stage written.stage
          where
            same : f.stage ≡ e.stage
            same = kept.stage (λ over. absurd (cc (over, here)))

            by_stage : (e.stage ≡ d.stage) ⊎ (e.stage ≡ Over) → ⊥
            by_stage (inl is) = quiet (sym is ∙ (sym same ∙ here))
            by_stage (inr over) = absurd (cc (over, same, here))

module _ (log middle later : Option (List Event)) (a b d e f : Conversation) (more more' : Bool) (read : IsRead log middle a b more) (written : IsWritten middle later d e more') (kept : IsKept e f)
    (lives : f.stage ≡ Over → ⊥) where
  was_open : f.stage ≡ Open → (d.stage ≡ Open)
  was_open here = by written.stage
    where
      by : (e.stage ≡ d.stage) ⊎ (e.stage ≡ Over) → d.stage ≡ Open
      by (inl same) = sym same ∙ (sym (kept.stage lives) ∙ here)
      by (inr over) = absurd (lives (kept.stage lives ∙ over))

  pub waits_to_read : (b.unread ≡ [] → d.unread ≡ []) → (d.stage ≡ Open → b.stage ≡ Open) → (f.stage ≡ Open → f.last.now ≡ [] → more ≡ false)
      → f.stage ≡ Open → f.last.now ≡ [] → (f.unread ≡ []) × Happened gave_none (read.events ++ written.events)
  waits_to_read none opens quiet_if here no_last =
      let quiet = read.no_more (quiet_if here no_last) (opens (was_open here)) in
      (kept.unread ∙ (written.unread ∙ none quiet.0), happened_before gave_none read.events written.events quiet.1)

  pub waits_to_write : more' ≡ false → (waiting_of f ≡ [] → ⊥) → Happened took_none (read.events ++ written.events)
  waits_to_write quiet some =
      happened_after took_none read.events written.events
      (written.no_more quiet (λ over. lives (kept.stage lives ∙ over)) (λ none. some (ap (λ r. r ++ f.last.now) kept.replies ∙ (ap (λ l. e.replies ++ l) kept.last ∙ none))))

  pub hears : (f.stage ≡ Open) × (f.last.now ≡ []) × (more ≡ true) → HearsMore f (read.events ++ written.events)
  hears yes_more = (yes_more.0, yes_more.1, not_happened gave_none read.events written.events (read.some_more yes_more.2) written.gave_all)

  pub says : more' ≡ true → SaysMore f (read.events ++ written.events)
  says yes_more =
      let some = written.some_more yes_more in (
        λ none. some.0 (sym (ap (λ r. r ++ f.last.now) kept.replies ∙ ap (λ l. e.replies ++ l) kept.last) ∙ none),
        not_happened took_none read.events written.events read.took_all some.1,
      )

-- what an earlier read does not change
pub hindered_after : (past events : List Event) → IsHindered events → IsHindered (past ++ events)
hindered_after past events (inl here) = inl (happened_after took_none past events here)
hindered_after past events (inr (inl here)) = inr (inl (happened_after interrupted past events here))
hindered_after past events (inr (inr here)) = inr (inr (happened_after failed past events here))
