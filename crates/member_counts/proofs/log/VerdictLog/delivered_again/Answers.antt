use Rattle.std.proofs.Common.{◌≡◌, ◌==◌, ◌&&◌, ◌+◌, ◌%◌, ◌^◌, ◌∙◌, ap, ap₂, arith, inr, is_some, sym, true}
use Rattle.member_counts.specs.declared.counts.Counts.{Counts}
use Rattle.member_counts.specs.declared.key.CountKey.{CountKey}
use Rattle.member_counts.specs.Key.{member_key, same_key}
use Rattle.member_counts.specs.Log.{Log, has_key, last_key, with_counts}
use Rattle.member_counts.specs.body.Runs.{group_number, has_run, is_sent, packed_one, runs, whole}
use Rattle.member_counts.proofs.KeyLemmas.{same_from_same_key}
use Rattle.member_counts.proofs.LogLemmas.{delivered-log, has-last_key, not-wrapped, same_key-numbers, taken-back}
use Rattle.member_counts.proofs.log.VerdictLog.delivered_again.Goals as goal

pub returns-then-not-has_numbers-clause-again : goal.returns-then-not-has_numbers-clause-again
returns-then-not-has_numbers-clause-again c =
    let inside = c.self.inside in
    let key = member_key c.in-Deliver.group c.in-Deliver.member in
    let same : c.has_numbers.result ≡ same_key inside.last.key key =
    c.has_numbers.ensures.same ∙ ap₂ (λ member group. (member == c.in-Deliver.member) && (group == group_number c.in-Deliver.group)) c.self.invariant.5 c.self.invariant.6
    ∙ same_key-numbers inside.last.key c.in-Deliver.group c.in-Deliver.member c.self.invariant.7 c.has_numbers.ensures.fits c.has_numbers.ensures.below in
    let has : same_key inside.last.key key ≡ has_key key c.args.self.now =
    sym (has-last_key key inside.earlier.items (has_run inside.has_counts inside.packed) (whole inside.last inside.packed) (λ none. (c.self.invariant.2 none).0))
    ∙ ap (λ (log : Log). has_key key log) c.self.view_is in
    rw c.in-Deliver.is (sym c.if-not-has_numbers.true ∙ (same ∙ has))

pub returns-then-is_over-clause-again : goal.returns-then-is_over-clause-again
returns-then-is_over-clause-again c =
    let inside = c.self.inside in
    let key = member_key c.in-Deliver.group c.in-Deliver.member in
    let same : c.has_numbers.result ≡ same_key inside.last.key key =
    c.has_numbers.ensures.same ∙ ap₂ (λ member group. (member == c.in-Deliver.member) && (group == group_number c.in-Deliver.group)) c.self.invariant.5 c.self.invariant.6
    ∙ same_key-numbers inside.last.key c.in-Deliver.group c.in-Deliver.member c.self.invariant.7 c.has_numbers.ensures.fits c.has_numbers.ensures.below in
    let has : same_key inside.last.key key ≡ has_key key c.args.self.now =
    sym (has-last_key key inside.earlier.items (has_run inside.has_counts inside.packed) (whole inside.last inside.packed) (λ none. (c.self.invariant.2 none).0))
    ∙ ap (λ (log : Log). has_key key log) c.self.view_is in
    let own : inside.last.key ≡ key = same_from_same_key inside.last.key key (sym same ∙ c.if-not-has_numbers.false) in
    let back : c.take_back.new.packed ≡ inside.packed = c.take_back.ensures ∙ taken-back inside.packed c.packed_one-one.result (omega (arith, c.self.ranges)) c.packed_one-one.ensures.fits in
    rw c.in-Deliver.is
    (c.add_again.ensures.again (inr (ap (λ (k : CountKey). is_some k.member) own))
    ∙ ap₂ (λ packed (key : CountKey). same_key (last_key inside.last.key (runs inside.earlier.items (has_run inside.has_counts packed) (whole inside.last packed))) key) back own
    ∙ ap (λ (log : Log). has_key key log) c.self.view_is)

pub returns-then-is_over-clause-counted : goal.returns-then-is_over-clause-counted
returns-then-is_over-clause-counted c added =
    let inside = c.self.inside in
    let key = member_key c.in-Deliver.group c.in-Deliver.member in
    let same : c.has_numbers.result ≡ same_key inside.last.key key =
    c.has_numbers.ensures.same ∙ ap₂ (λ member group. (member == c.in-Deliver.member) && (group == group_number c.in-Deliver.group)) c.self.invariant.5 c.self.invariant.6
    ∙ same_key-numbers inside.last.key c.in-Deliver.group c.in-Deliver.member c.self.invariant.7 c.has_numbers.ensures.fits c.has_numbers.ensures.below in
    let own : inside.last.key ≡ key = same_from_same_key inside.last.key key (sym same ∙ c.if-not-has_numbers.false) in
    let back : c.take_back.new.packed ≡ inside.packed = c.take_back.ensures ∙ taken-back inside.packed c.packed_one-one.result (omega (arith, c.self.ranges)) c.packed_one-one.ensures.fits in
    rw c.in-Deliver.is
    (c.add_again.ensures.counted added
    ∙ ap (λ packed. with_counts inside.last.key c.one_delivered.result true (record {
      entries = runs inside.earlier.items (has_run inside.has_counts packed) (whole inside.last packed);
      room = inside.room;
      sent = is_sent packed inside.ended;
      kept = inside.last.key;
    })) back
    ∙ ap (λ (log : Log). with_counts inside.last.key c.one_delivered.result true log) c.self.view_is
    ∙ ap₂ (λ (key : CountKey) (counts : Counts). with_counts key counts true c.args.self.now) own c.one_delivered.ensures.counts)

pub returns-clause-again : goal.returns-clause-again
returns-clause-again c =
    let inside = c.self.inside in
    let key = member_key c.in-Deliver.group c.in-Deliver.member in
    let same : c.has_numbers.result ≡ same_key inside.last.key key =
    c.has_numbers.ensures.same ∙ ap₂ (λ member group. (member == c.in-Deliver.member) && (group == group_number c.in-Deliver.group)) c.self.invariant.5 c.self.invariant.6
    ∙ same_key-numbers inside.last.key c.in-Deliver.group c.in-Deliver.member c.self.invariant.7 c.has_numbers.ensures.fits c.has_numbers.ensures.below in
    let has : same_key inside.last.key key ≡ has_key key c.args.self.now =
    sym (has-last_key key inside.earlier.items (has_run inside.has_counts inside.packed) (whole inside.last inside.packed) (λ none. (c.self.invariant.2 none).0))
    ∙ ap (λ (log : Log). has_key key log) c.self.view_is in
    rw c.in-Deliver.is (sym c.if-not-has_numbers.false ∙ (same ∙ has))

pub returns-clause-counted : goal.returns-clause-counted
returns-clause-counted c done =
    let inside = c.self.inside in
    let key = member_key c.in-Deliver.group c.in-Deliver.member in
    let same : c.has_numbers.result ≡ same_key inside.last.key key =
    c.has_numbers.ensures.same ∙ ap₂ (λ member group. (member == c.in-Deliver.member) && (group == group_number c.in-Deliver.group)) c.self.invariant.5 c.self.invariant.6
    ∙ same_key-numbers inside.last.key c.in-Deliver.group c.in-Deliver.member c.self.invariant.7 c.has_numbers.ensures.fits c.has_numbers.ensures.below in
    let own : inside.last.key ≡ key = same_from_same_key inside.last.key key (sym same ∙ c.if-not-has_numbers.false) in
    let sum = not-wrapped inside.packed c.packed_one-one.result (omega (arith, c.self.ranges)) c.packed_one-one.ensures.fits c.if-is_over.false in
    let packed : (inside.packed + c.packed_one-one.result) % 2 ^ 128 ≡ inside.packed + packed_one c.in-Deliver.bytes =
    sum.0 ∙ ap (λ one. inside.packed + one) c.packed_one-one.ensures.packed in
    rw (c.in-Deliver.is, ← c.self.view_is, packed)
    (delivered-log inside.earlier.items inside.has_counts inside.last inside.packed inside.ended inside.room c.in-Deliver.bytes key
    (λ none. ((c.self.invariant.2 none).0, (c.self.invariant.2 none).1)) c.self.invariant.3 c.self.invariant.9 c.self.invariant.8 own
    (rw c.packed_one-one.ensures.packed at sum.1))
