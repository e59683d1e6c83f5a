-- A turn of control, one datagram after the other.
use Rattle.std.proofs.Common.{◌≡◌, ◌≤◌, ◌∙◌, ◌+◌, ◌++◌, ◌∷◌, Bool, List, None, Option, [], ap, append-nil, arith, false, length, length-take-le, refl, subst, sym, take, take_all, true, ℕ}
use Rattle.dispatch.specs.Device.{Takes}
use Rattle.dispatch.proofs.DeviceLemmas.{takes_more, takes_nothing}
use Rattle.ipv4_fields.specs.declared.endpoint.Endpoint.{Endpoint}
use Rattle.serve_control.specs.Answer.{AnswersDatagram, IsTotals, Service, bytes_of}
use Rattle.serve_control.specs.declared.ControlAnswer.{ControlAnswer}
use Rattle.serve_control.specs.declared.ignored.BoundAddresses.{BoundAddresses}
use Rattle.serve_udp.specs.Control.{AnswersInTurn, CameBy, ControlEvent, IsControlTurn, answered, came, no_memory, none, none_came, one_failed, one_more, receive_failed, replied}
use Rattle.serve_udp.specs.body.Turns.{AnswersOne, GoesOnBy, IsBegun, IsSentBack, ReceivesOne}
use Rattle.serve_udp.specs.declared.control_turn.TheConstants.{CONTROL_TURN}
use Rattle.serve_udp.specs.declared.control_turn.Asked.TheVariants.{Datagram}
use Rattle.serve_udp.specs.declared.control_turn.Next.TheVariants as next

module _ (room : ℕ) (bound : BoundAddresses) (log log' : Option (List ControlEvent)) (before after : Service) where
  -- a receive failed
  pub one_receive_failed : Takes log log' (receive_failed ∷ []) → after ≡ before → GoesOnBy room bound log log' before after next.Answered
  one_receive_failed logged same = record {
    events = receive_failed ∷ [];
    logged = logged;
    goes_on = λ first count earlier turn. one_failed count earlier after (subst (AnswersInTurn room bound first count earlier false) (sym same) turn);
  }

  -- a datagram came, and was answered
  pub one_answered : (mid : Option (List ControlEvent)) (from : Endpoint) (len : ℕ) (buffer text : List ℕ) (stops said : Bool) → length buffer ≡ room
      → CameBy log mid (Datagram from len) buffer → text ≡ take len buffer → AnswersOne bound from text mid log' before after said → said ≡ stops
      → ReceivesOne room bound log log' before after stops
  one_answered mid from len buffer text stops said long (whole, first, cut) is one are = record {
    events = came from whole ∷ one.replies;
    logged = takes_more log mid log' (came from whole ∷ []) one.replies first one.logged;
    goes_on = λ start count earlier turn.
        subst (λ (b : Bool). AnswersInTurn room bound start (count + 1) (earlier ++ came from whole ∷ one.replies) b after) (sym one.stopped ∙ are)
        (one_more count earlier one.replies before after from whole one.answer turn
        (subst (λ (t : List ℕ). AnswersDatagram bound from t before after one.answer) (is ∙ cut ∙ ap (λ (n : ℕ). take n whole) long) one.answered)
        one.replied_to);
  }

  -- the room is given in other words
  pub at_room : (here : ℕ) (stops : Bool) → here ≡ room → ReceivesOne here bound log log' before after stops → ReceivesOne room bound log log' before after stops
  at_room here stops same one = subst (λ (n : ℕ). ReceivesOne n bound log log' before after stops) same one

-- no receive was made yet
pub turn_begins : (room : ℕ) (bound : BoundAddresses) (log : Option (List ControlEvent)) (before : Service) → IsBegun room bound 0 log log before before
turn_begins room bound log before = record { events = []; logged = takes_nothing log; answered_each = none before refl }

module _ (room : ℕ) (bound : BoundAddresses) (count : ℕ) (log mid log' : Option (List ControlEvent)) (before between after : Service) (turn : IsBegun room bound count log mid before between) where
  -- the turn goes on
  pub turn_goes_on : ReceivesOne room bound mid log' between after false → IsBegun room bound (count + 1) log log' before after
  turn_goes_on more = record {
    events = turn.events ++ more.events;
    logged = takes_more log mid log' turn.events more.events turn.logged more.logged;
    answered_each = more.goes_on before count turn.events turn.answered_each;
  }

  -- it ends, since none came
  pub turn_finds_none : (after ≡ between) × Takes mid log' (none_came ∷ []) → IsControlTurn room bound log log' before after next.Nothing
  turn_finds_none (same, logged) = record {
    count = count;
    events = turn.events;
    last = none_came ∷ [];
    logged = takes_more log mid log' turn.events (none_came ∷ []) turn.logged logged;
    answered_each = subst (AnswersInTurn room bound before count turn.events false) (sym same) turn.answered_each;
    ends = refl;
  }

  -- it ends at a request to stop
  pub turn_stops : ReceivesOne room bound mid log' between after true → IsControlTurn room bound log log' before after next.Stop
  turn_stops more = record {
    count = count + 1;
    events = turn.events ++ more.events;
    last = [];
    logged = subst (Takes log log') (sym (append-nil (turn.events ++ more.events))) (takes_more log mid log' turn.events more.events turn.logged more.logged);
    answered_each = more.goes_on before count turn.events turn.answered_each;
    ends = refl;
  }

-- it ends after its last receive
pub turn_is_over : (room : ℕ) (bound : BoundAddresses) (count : ℕ) (log log' : Option (List ControlEvent)) (before after : Service)
    → IsBegun room bound count log log' before after → count ≡ CONTROL_TURN → IsControlTurn room bound log log' before after next.Answered
turn_is_over room bound count log log' before after turn all = record {
  count = count;
  events = turn.events;
  last = [];
  logged = subst (Takes log log') (sym (append-nil turn.events)) turn.logged;
  answered_each = turn.answered_each;
  ends = (all, refl);
}

-- a datagram of which no more is known
pub asks_cut : (from : Endpoint) (len : ℕ) (buffer : List ℕ) → len ≤ length buffer → CameBy None None (Datagram from len) buffer
asks_cut from len buffer within =
    let long = length-take-le len buffer within in
    (take len buffer, tt, sym (take_all (length buffer) (take len buffer) (omega (arith, long, within))))

-- ---- replies

pub sent_back : (log log' : Option (List ControlEvent)) (to : Endpoint) (answer : ControlAnswer) (bytes : List ℕ) → bytes ≡ bytes_of answer
    → Takes log log' (replied to bytes ∷ []) → IsSentBack log log' to answer
sent_back log log' to answer bytes are sent = record {
  events = replied to (bytes_of answer) ∷ [];
  logged = subst (λ (b : List ℕ). Takes log log' (replied to b ∷ [])) are sent;
  replied_to = answered answer;
}

pub not_sent : (log : Option (List ControlEvent)) (to : Endpoint) (answer : ControlAnswer) → IsTotals answer → IsSentBack log log to answer
not_sent log to answer totals = record { events = []; logged = takes_nothing log; replied_to = no_memory answer totals }
