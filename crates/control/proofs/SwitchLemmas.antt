-- The switch after a line that was answered: it is ready again.
use Rattle.std.proofs.Common.{◌≡◌, ◌∙◌, ◌≤◌, ◌++◌, ◌∷◌, List, Some, [], ap, append-nil, arith, length, length-append, length-set, refl, set, slice_get, subst, sym, ℕ}
use Rattle.std.proofs.lemmas.Option.{slice_get_within}
use Rattle.atomic_table.specs.Seated.{TableId}
use Rattle.config_image.specs.Image.{Group}
use Rattle.dispatch.specs.Verdict.{value_of, verdict}
use Rattle.filter_compile.specs.Answer.{IsPacket}
use Rattle.versions.specs.declared.layout.TheConstants.{WORKERS}
use Rattle.versions.specs.declared.view.Stage.{Stage}
use Rattle.versions.specs.declared.view.Stage.TheVariants.{Announced, Inside, Outside, Peeked}
use Rattle.versions.specs.declared.view.WorkerView.{WorkerView}
use Rattle.versions.specs.View.{BeginsWith, read_word_after}
use Rattle.versions.proofs.MirrorLemmas.{some_same}
use Rattle.read_section.specs.Operator.{AreOpenedWorkers, IsCurrent, OperatorValue, opened_operator}
use Rattle.read_section.specs.Section.{held_version}
use Rattle.read_section.specs.Worker.{WorkerValue, left_from}
use Rattle.retire.proofs.PublishLemmas.{looked_keeps}
use Rattle.retire.proofs.RowLemmas.{worker_inside}
use Rattle.control_line.specs.declared.TheConstants.{LINE_LIMIT}
use Rattle.control_line.specs.declared.reason.Reason.TheVariants.{PacketTooLong}
use Rattle.control_line.specs.declared.reply.LineAnswer.{LineAnswer}
use Rattle.control_line.specs.declared.reply.LineAnswer.TheVariants.{GroupRead, LineRefused, MemberRead, PacketJudged, PacketMalformed, Published, Refused, Shown, Swept, WordsRead}
use Rattle.control_line.specs.Answer.{Answers, Does}
use Rattle.control_line.specs.Answer.{IsAnswered}
use Rattle.control.specs.PacketLine.{HasNoPacket, IsPacketLine}
use Rattle.control_line.specs.Packet.{SpellsPacket, SpellsTooMuch}
use Rattle.control.specs.body.Ready.{AreOutside, IsOutsideAt, IsReady, MetFirst, Stands}
use Rattle.control_line.specs.Reply.{judged_text, reply_text}
use Rattle.control.specs.Script.{RepliesTo, Standing, at_start, standing_after, text_value, to_control, to_long_packet, to_packet}
use Rattle.control.specs.body.Switch.{JudgesPacket}
use Rattle.control_line.proofs.ChangeLemmas.{agrees_with, still_agrees}
use Rattle.control.proofs.JudgeLemmas.{same_verdict}
use Rattle.control_line.proofs.LineLemmas.{nothing_keeps, refused_does_nothing}
use Rattle.control.proofs.MeetLemmas.{holds_of_set, slice_get-set_same}
use Rattle.control.proofs.ReadyLemmas.{comes_and_stands}

-- the line has this reply, and the switch is ready for the next one
abbrev pub Replies : Standing → List ℕ → List ℕ → OperatorValue → List WorkerValue → Type 0
Replies now line reply after workers = (next : Standing) × RepliesTo now line reply next × IsReady after workers next

-- ---- all workers were met

ready_again : (before after : OperatorValue) (workers workers' : List WorkerValue) (now : Standing) → Stands before now → MetFirst WORKERS before after workers workers' → IsReady after workers' now
ready_again before after workers workers' now stands met = record {
  outside = met.outside;
  stands = record {
    agrees = still_agrees now.config before.view after.view met.published stands.agrees;
    version = stands.version ∙ sym met.number;
    published_length = ap length met.published ∙ stands.published_length;
    rows_length = ap length met.version_rows ∙ stands.rows_length;
    reported = stands.reported ∙ sym met.reported;
    limited = stands.limited;
  };
  seen_all = λ w worker at.
      let inside = slice_get_within workers' w worker at in
      let count = met.outside.count in
      met.seen_all w worker (omega arith) at ∙ sym met.published;
  free = λ m replaced. let number = met.number in (replaced, λ w low. met.cleared w m (worker_inside w low) (omega arith));
}

-- ---- a switch that was opened

module _ (table : TableId) (config : List Group) where
  opened_stands : config ≡ [] → Stands (opened_operator table config) at_start
  opened_stands empty = record {
    agrees = (config, ([], refl), ([], refl, empty));
    version = refl;
    published_length = refl;
    rows_length = refl;
    reported = refl;
    limited = omega arith;
  }

  pub opened_outside : (workers : List WorkerValue) → AreOpenedWorkers table config workers → AreOutside table workers
  opened_outside workers opened = record {
    count = opened.count;
    each = λ w worker at.
        let inside = slice_get_within workers w worker at in
        let count = opened.count in
        subst (IsOutsideAt table w) (some_same _ worker (sym (opened.each w (omega arith)) ∙ at)) (record { table_is = refl; number = refl; read_word = refl });
  }

  pub opened_ready : (before after : OperatorValue) (workers workers' : List WorkerValue) → config ≡ [] → before ≡ opened_operator table config → MetFirst WORKERS before after workers workers' → IsReady after workers' at_start
  opened_ready before after workers workers' empty is met = ready_again before after workers workers' at_start (subst (λ o. Stands o at_start) (sym is) (opened_stands empty)) met

-- ---- a line without a packet

keeps_table : (answer : LineAnswer) (before after : OperatorValue) → Does answer before after → after.table ≡ before.table
keeps_table (Refused why) before after does = (nothing_keeps before after (refused_does_nothing why before after does)).table
keeps_table (LineRefused number why) before after same = ap (λ (o : OperatorValue). o.table) same
keeps_table (Published version) before after (config, publishes) = publishes.table
keeps_table (Shown version groups members charge) before after same = ap (λ (o : OperatorValue). o.table) same
keeps_table (GroupRead version index groups key members selector) before after same = ap (λ (o : OperatorValue). o.table) same
keeps_table (MemberRead version index members id to filter locked) before after same = ap (λ (o : OperatorValue). o.table) same
keeps_table (WordsRead version place count words) before after same = ap (λ (o : OperatorValue). o.table) same
keeps_table (PacketJudged version judged) before after same = ap (λ (o : OperatorValue). o.table) same
keeps_table (PacketMalformed version why) before after same = ap (λ (o : OperatorValue). o.table) same
keeps_table (Swept reclaimed) before after sweeps =
    ap (λ (o : OperatorValue). o.table) (sweeps.reported)
    ∙ ap (λ (o : OperatorValue). o.table) sweeps.each.no_more
    ∙ looked_keeps (λ (o : OperatorValue). o.table) (λ w x log o. refl) sweeps.each.scans before

pub outside_after_line : (before after : OperatorValue) (workers : List WorkerValue) (line reply : List ℕ) → (answer : LineAnswer) × (reply ≡ reply_text answer) × IsAnswered line before after answer → AreOutside before.table workers → AreOutside after.table workers
outside_after_line before after workers line reply (answer, is, done) outside = subst (λ table. AreOutside table workers) (sym (keeps_table answer before after done.steps)) outside

pub line_answered : (before between after : OperatorValue) (workers workers' : List WorkerValue) (line reply : List ℕ) → HasNoPacket line
    → (answer : LineAnswer) × (reply ≡ reply_text answer) × IsAnswered line before between answer → MetFirst WORKERS between after workers workers'
    → (now : Standing) → IsReady before workers now → Replies now line reply after workers'
line_answered before between after workers workers' line reply none (answer, is, done) met now ready =
    let (config, answers, agrees) = done.text now.config ready.stands.agrees in
    let comes : Answers now.version now.config line answer config = subst (λ n. Answers n now.config line answer config) (sym ready.stands.version) answers in
    let (in_script, stands) = comes_and_stands before now ready.stands ready.free line answer config between comes done.steps agrees in (
      standing_after now answer config,
      subst (λ r. RepliesTo now line r (standing_after now answer config)) (sym is) (to_control answer config none comes in_script),
      ready_again between after workers workers' (standing_after now answer config) stands met,
    )

-- ---- too many bytes for a packet

pub long_packet_answered : (before after : OperatorValue) (workers workers' : List WorkerValue) (line reply : List ℕ)
    → (digits : List ℕ) × (length line ≤ LINE_LIMIT) × IsPacketLine line digits × SpellsTooMuch digits → reply ≡ reply_text (Refused PacketTooLong) → MetFirst WORKERS before after workers workers'
    → (now : Standing) → IsReady before workers now → Replies now line reply after workers'
long_packet_answered before after workers workers' line reply (digits, short, has, too_much) is met now ready = (
  now,
  subst (λ r. RepliesTo now line r now) (sym is) (to_long_packet digits short has too_much),
  ready_again before after workers workers' now ready.stands met,
)

-- ---- a packet

module _ {A : Type 0} where
  append-none : (xs rest : List A) → length rest ≡ 0 → xs ++ rest ≡ xs
  append-none xs [] none = append-nil xs
  append-none xs (x ∷ rest) none = absurd (omega arith)

  both_begin : (xs ys : List A) → BeginsWith xs ys → BeginsWith ys xs → xs ≡ ys
  both_begin xs ys (rest, longer) (more, shorter) = longer ∙ append-none ys rest (omega (arith, ap length longer, length-append ys rest, ap length shorter, length-append xs more))

number_left : (stage : Stage) (view : WorkerView (List Group)) → (left_from stage view).number ≡ view.number
number_left Outside view = refl
number_left (Peeked n) view = refl
number_left (Announced k) view = refl
number_left (Inside k n r) view = refl

module _ (worker worker' : WorkerValue) (packet reply : List ℕ) (judges : JudgesPacket worker worker' packet reply) where
  -- the worker is outside again
  judged_outside : (table : TableId) (w : ℕ) → IsOutsideAt table w worker → IsOutsideAt table w worker'
  judged_outside table w outside = record {
    table_is = judges.own_section.table ∙ outside.table_is;
    number = judges.own_section.number ∙ ap (λ (o : WorkerValue). o.view.number) judges.own_section.entered.three_steps ∙ number_left worker.view.stage worker.view ∙ outside.number;
    read_word = ap read_word_after judges.own_section.log;
  }

  pub still_outside : (table : TableId) (workers : List WorkerValue) → slice_get workers 0 ≡ Some worker → AreOutside table workers → AreOutside table (set workers 0 worker')
  still_outside table workers here outside = record {
    count = length-set workers 0 worker' ∙ outside.count;
    each = holds_of_set (IsOutsideAt table) workers 0 worker' (slice_get_within workers 0 worker here) (judged_outside table 0 (outside.each 0 worker here)) (λ w other ne at. outside.each w other at);
  }

  module _ (before after : OperatorValue) (workers workers' : List WorkerValue) (here : slice_get workers 0 ≡ Some worker) (met : MetFirst WORKERS before after (set workers 0 worker') workers') (now : Standing) (ready : IsReady before workers now) where
    abbrev inside : WorkerValue
    inside = judges.inside

    -- what the worker had seen inside is all that was published
    seen_inside : inside.view.seen ≡ before.view.published
    seen_inside = both_begin inside.view.seen before.view.published
        (subst (BeginsWith inside.view.seen) (ready.seen_all 0 worker here) judges.seen_grows)
        (subst (BeginsWith before.view.published) judges.own_section.seen (met.all_of_it 0 worker' (omega arith) (slice_get-set_same workers 0 worker' (slice_get_within workers 0 worker here))))

    is_current : IsCurrent before.view judges.last_seen.config
    is_current = (judges.last_seen.older, sym seen_inside ∙ judges.last_seen.last_seen)

    version_is : held_version inside ≡ now.version
    version_is =
        let number = judges.last_seen.number in
        let long = ready.stands.published_length in
        let seen : before.view.published ≡ judges.last_seen.older ++ judges.last_seen.config ∷ [] = sym seen_inside ∙ judges.last_seen.last_seen in
        omega (arith, ap length seen, length-append judges.last_seen.older (judges.last_seen.config ∷ []))

    reply_is : IsPacket packet → reply ≡ judged_text now.version (verdict text_value now.config packet)
    reply_is bytes =
        judges.reply_is
        ∙ ap (λ n. judged_text n (verdict value_of judges.last_seen.config packet)) version_is
        ∙ ap (judged_text now.version) (same_verdict now.config judges.last_seen.config packet (agrees_with now.config before.view judges.last_seen.config is_current ready.stands.agrees) bytes)

    pub packet_answered : (line : List ℕ) → IsPacket packet → (digits : List ℕ) × (length line ≤ LINE_LIMIT) × IsPacketLine line digits × SpellsPacket digits packet → Replies now line reply after workers'
    packet_answered line bytes (digits, short, has, spells) = (
      now,
      subst (λ r. RepliesTo now line r now) (sym (reply_is bytes)) (to_packet digits packet short has spells),
      ready_again before after (set workers 0 worker') workers' now ready.stands met,
    )
