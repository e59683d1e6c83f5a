-- What writes to the stream come to.
use Rattle.std.proofs.Common.{◌≡◌, ◌∙◌, ◌+◌, ◌<◌, ◌≤◌, ◌++◌, ◌∷◌, ◌≢◌, ◌⊎◌, Bool, List, Option, [], ap, append-nil, arith, drop, false, inl, inr, length, not, refl, subst, sym, take, true, ℕ}
use Rattle.std.proofs.lemmas.List.{length-drop, take-append-drop, take-append-le}
use Rattle.serve_stream.specs.declared.conversation.Conversation.{Conversation}
use Rattle.serve_stream.specs.declared.conversation.Stage.TheVariants.{Over, Stopping}
use Rattle.serve_stream.specs.declared.stream.Sent.{Sent}
use Rattle.serve_stream.specs.declared.stream.Sent.TheVariants as sent
use Rattle.serve_stream.specs.Standing.{IsHindered, Moves, waiting_of}
use Rattle.serve_stream.specs.Stream.{Event, Happened, Logs, events_of_write, failed, interrupted, took, took_none}
use Rattle.serve_stream.specs.body.Waiting.{IsSameBut, IsWritingOut, IsWritten, IsWrittenOut, first_of, next_of}
use Rattle.serve_stream.proofs.MoveLemmas.{fails, happened_after, happened_before, logs_more, logs_none, moves_more, stays, stops, writes}
use Rattle.serve_stream.proofs.ReadLemmas.{one_only}

pub not_written : (log : Option (List Event)) (c : Conversation) → (c.stage ≡ Over) ⊎ (waiting_of c ≡ []) → IsWritten log log c c false
not_written log c why = record {
  events = [];
  logged = logs_none log;
  moves = stays c;
  brief = omega arith;
  gave_all = λ here. here;
  some_more = λ is. absurd cc;
  no_more = λ no lives some. absurd (by why lives some);
  progress = λ is. absurd cc;
  goes_on = λ is. refl;
  fails = λ over lives. absurd (lives over);
  over_if_failed = λ here. absurd here;
  not_ended = λ here. here;
  stage = inl refl;
  held = refl;
  unread = refl;
}
  where
    by : (c.stage ≡ Over) ⊎ (waiting_of c ≡ []) → (c.stage ≡ Over → ⊥) → (waiting_of c ≡ [] → ⊥) → ⊥
    by (inl over) lives some = lives over
    by (inr none) lives some = some none

positive : (bytes : List ℕ) → (bytes ≡ [] → ⊥) → 0 < length bytes
positive [] some = absurd (some refl)
positive (byte ∷ bytes) some = omega arith

first_some : (replies last : List ℕ) → (replies ++ last ≡ [] → ⊥) → 0 < length (first_of replies last)
first_some [] last some = positive last some
first_some (byte ∷ replies) last some = omega arith

-- what is written next is the front of what waits
front_of : (replies last bytes : List ℕ) (count : ℕ) → bytes ≡ first_of replies last → count ≤ length bytes → take count bytes ≡ take count (replies ++ last)
front_of [] last bytes count is within = ap (take count) is
front_of (byte ∷ replies) last bytes count is within = ap (take count) is ∙ sym (take-append-le count (byte ∷ replies) last (omega (arith, ap length is)))

module _ (log log' : Option (List Event)) (c c' : Conversation) (same : IsSameBut c c') (lives : c.stage ≡ Over → ⊥) (came : Sent) (bytes : List ℕ) (is_next : bytes ≡ next_of c)
    (logged : Logs log log' (events_of_write came bytes)) where
  pub wrote : (count : ℕ) (more all : Bool) → came ≡ sent.Bytes count → (count ≤ length bytes) × (0 < length bytes → 0 < count) → waiting_of c' ≡ drop count (waiting_of c)
      → ((all ≡ true → waiting_of c' ≡ []) × (waiting_of c' ≡ [] → all ≡ true)) → (more ≡ false → all ≡ true) → (more ≡ true → all ≡ false) → (waiting_of c ≡ [] → ⊥)
      → IsWritten log log' c c' more
  wrote count more all is within less tested flips flips' some_wait = record {
    events = took (take count bytes) ∷ [];
    logged = subst (λ (s : Sent). Logs log log' (events_of_write s bytes)) is logged;
    moves = writes c c' (took (take count bytes) ∷ []) same refl
        (sym (take-append-drop count (waiting_of c)) ∙ (ap (λ t. t ++ drop count (waiting_of c)) (sym (front_of c.replies c.last.now bytes count is_next within.0) ∙ sym (append-nil (take count bytes)))
        ∙ ap (λ t. (take count bytes ++ []) ++ t) (sym less))) lives;
    brief = omega arith;
    gave_all = λ here. one_only (λ is. absurd cc) here;
    some_more = λ is. (λ none. absurd (cc (tested.1 none, flips' is)), λ here. one_only (λ is. absurd cc) here);
    no_more = λ no here some. absurd (some (tested.0 (flips no)));
    progress = λ is. inl (
        let first = first_some c.replies c.last.now some_wait in
        let len = ap length is_next in
        let moved = within.1 (omega (arith, first, len)) in
        let some = positive (waiting_of c) some_wait in
        let left = ap length less in omega (arith, moved, some, left, length-drop count (waiting_of c)));
    goes_on = λ is. same.stage;
    fails = λ over here. absurd (here (sym same.stage ∙ over));
    over_if_failed = λ here. absurd (one_only (λ is. absurd cc) here);
    not_ended = λ here. one_only (λ is. absurd cc) here;
    stage = inl same.stage;
    held = same.held;
    unread = same.unread;
  }

module _ (log log' : Option (List Event)) (c : Conversation) (lives : c.stage ≡ Over → ⊥) (came : Sent) (bytes : List ℕ) (logged : Logs log log' (events_of_write came bytes)) where
  itself : IsSameBut c c
  itself = record { unread = refl; held = refl; stage = refl }

  pub interrupts : came ≡ sent.Interrupted → (waiting_of c ≡ [] → ⊥) → IsWritten log log' c c true
  interrupts is some = record {
    events = interrupted ∷ [];
    logged = subst (λ (s : Sent). Logs log log' (events_of_write s bytes)) is logged;
    moves = writes c c (interrupted ∷ []) itself refl refl lives;
    brief = omega arith;
    gave_all = λ here. one_only (λ is_same. absurd cc) here;
    some_more = λ yes_more. (some, λ here. one_only (λ is_same. absurd cc) here);
    no_more = λ no here some. absurd cc;
    progress = λ is_more. inr (inl refl);
    goes_on = λ is_more. refl;
    fails = λ over here. absurd (here over);
    over_if_failed = λ here. absurd (one_only (λ is_same. absurd cc) here);
    not_ended = λ here. one_only (λ is_same. absurd cc) here;
    stage = inl refl;
    held = refl;
    unread = refl;
  }

  pub blocked : came ≡ sent.NotYet → IsWritten log log' c c false
  blocked is = record {
    events = took_none ∷ [];
    logged = subst (λ (s : Sent). Logs log log' (events_of_write s bytes)) is logged;
    moves = writes c c (took_none ∷ []) itself refl refl lives;
    brief = omega arith;
    gave_all = λ here. one_only (λ is_same. absurd cc) here;
    some_more = λ yes_more. absurd cc;
    no_more = λ no here some. inl refl;
    progress = λ is_more. absurd cc;
    goes_on = λ is_more. refl;
    fails = λ over here. absurd (here over);
    over_if_failed = λ here. absurd (one_only (λ is_same. absurd cc) here);
    not_ended = λ here. one_only (λ is_same. absurd cc) here;
    stage = inl refl;
    held = refl;
    unread = refl;
  }

  pub write_failed : came ≡ sent.Failed → IsWritten log log' c (record c { stage = Over }) false
  write_failed is = record {
    events = failed ∷ [];
    logged = subst (λ (s : Sent). Logs log log' (events_of_write s bytes)) is logged;
    moves = fails c c.unread;
    brief = omega arith;
    gave_all = λ here. one_only (λ is_same. absurd cc) here;
    some_more = λ yes_more. absurd cc;
    no_more = λ no here some. absurd (here refl);
    progress = λ is_more. absurd cc;
    goes_on = λ is_more. absurd cc;
    fails = λ over here. inl refl;
    over_if_failed = λ here. refl;
    not_ended = λ here. one_only (λ is_same. absurd cc) here;
    stage = inr refl;
    held = refl;
    unread = refl;
  }

pub was_true : (b : Bool) → not b ≡ false → b ≡ true
was_true true is = refl
was_true false is = absurd cc

pub was_false : (b : Bool) → not b ≡ true → b ≡ false
was_false true is = absurd cc
was_false false is = refl

-- ---- several writes

pub writing_none : (log : Option (List Event)) (c : Conversation) (most : ℕ) → length (waiting_of c) ≤ most → IsWritingOut log log c c 0 most
writing_none log c most few = record { events = []; logged = logs_none log; moves = stays c; stage = refl; progress = inl (omega (arith, few)) }

module _ (log middle later : Option (List Event)) (a b c : Conversation) (count most : ℕ) (one : IsWritingOut log middle a b count most) where
  pub writing_more : IsWritten middle later b c true → IsWritingOut log later a c (count + 1) most
  writing_more other = record {
    events = one.events ++ other.events;
    logged = logs_more log middle later one.events other.events one.logged other.logged;
    moves = moves_more a b c one.events other.events [] [] one.moves other.moves;
    stage = other.goes_on refl ∙ one.stage;
    progress = by one.progress (other.progress refl);
  }
    where
      by : (length (waiting_of b) + count ≤ most) ⊎ Happened interrupted one.events → (length (waiting_of c) < length (waiting_of b)) ⊎ Happened interrupted other.events
          → (length (waiting_of c) + (count + 1) ≤ most) ⊎ Happened interrupted (one.events ++ other.events)
      by (inl few) (inl less) = inl (omega (arith, few, less))
      by (inl few) (inr here) = inr (happened_after interrupted one.events other.events here)
      by (inr here) other_part = inr (happened_before interrupted one.events other.events here)

  pub out_hindered : (a.stage ≡ Over → ⊥) → IsWritten middle later b c false → IsWrittenOut log later a c
  out_hindered lives other = record {
    events = one.events ++ other.events;
    logged = logs_more log middle later one.events other.events one.logged other.logged;
    moves = moves_more a b c one.events other.events [] [] one.moves other.moves;
    stage = by other.stage;
    all = λ some. why some other.stage;
  }
    where
      lives_still : b.stage ≡ Over → ⊥
      lives_still over = lives (sym one.stage ∙ over)

      by : (c.stage ≡ b.stage) ⊎ (c.stage ≡ Over) → (c.stage ≡ a.stage) ⊎ (c.stage ≡ Over)
      by (inl same) = inl (same ∙ one.stage)
      by (inr over) = inr over

      why : (waiting_of c ≡ [] → ⊥) → (c.stage ≡ b.stage) ⊎ (c.stage ≡ Over) → IsHindered (one.events ++ other.events)
      why some (inl same) = inl (happened_after took_none one.events other.events (other.no_more refl (λ over. lives_still (sym same ∙ over)) some))
      why some (inr over) = inr (inr (happened_after failed one.events other.events (other.fails over lives_still)))

  pub out_done : most ≤ count → IsWrittenOut log middle a b
  out_done end = record {
    events = one.events;
    logged = one.logged;
    moves = one.moves;
    stage = inl one.stage;
    all = λ some. by some one.progress;
  }
    where
      by : (waiting_of b ≡ [] → ⊥) → (length (waiting_of b) + count ≤ most) ⊎ Happened interrupted one.events → IsHindered one.events
      by some (inl few) = let more = positive (waiting_of b) some in absurd (omega (arith, few, more, end))
      by some (inr here) = inr (inl here)

pub stopped : (log log' : Option (List Event)) (a b : Conversation) → a.stage ≡ Stopping → IsWrittenOut log log' a b
    → (events : List Event) × Logs log log' events × Moves a (record b { stage = Over }) events [] × (waiting_of (record b { stage = Over }) ≢ [] → IsHindered events)
stopped log log' a b here out = (
  out.events,
  out.logged,
  subst (λ (e : List Event). Moves a (record b { stage = Over }) e []) (append-nil out.events) (moves_more a b (record b { stage = Over }) out.events [] [] [] out.moves (stops b (by out.stage))),
  out.all,
)
  where
    by : (b.stage ≡ a.stage) ⊎ (b.stage ≡ Over) → (b.stage ≡ Stopping) ⊎ (b.stage ≡ Over)
    by (inl same) = inl (same ∙ here)
    by (inr over) = inr over
