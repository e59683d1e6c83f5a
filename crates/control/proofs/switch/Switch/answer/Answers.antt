use Rattle.std.proofs.Common.{◌≡◌, ◌∙◌, ◌≤◌, List, MatchOption, None, Option, Some, ap, arith, length, subst, sym, ℕ}
use Rattle.std.proofs.lemmas.List.{with_items_is}
use Rattle.std.proofs.lemmas.Option.{slice_get_read}
use Rattle.versions.specs.declared.layout.TheConstants.{WORKERS}
use Rattle.control_line.specs.declared.TheConstants.{LINE_LIMIT}
use Rattle.control.specs.declared.packet_line.PacketSize.{PacketSize}
use Rattle.control.specs.declared.switch.Switch.{Switch}
use Rattle.control.specs.PacketLine.{HasNoPacket, IsPacketLine}
use Rattle.control_line.specs.Packet.{SpellsPacket}
use Rattle.control.specs.body.Packet.{IsReadInto}
use Rattle.control.specs.body.Ready.{AreOutside, MetFirst}
use Rattle.control.proofs.SwitchLemmas.{Replies, line_answered, long_packet_answered, outside_after_line, packet_answered, still_outside}
use Rattle.control.proofs.switch.Switch.answer.Goals as goal
use Rattle.control.proofs.switch.Switch.answer.Goals.{in-None+in_ok-reply-in-None, in-Some-TooLong, in-Some-Whole}

pub meet_all-requires : goal.meet_all-requires
meet_all-requires c =
    let before = c.args.self.now in
    let AllOutside = λ (switch : Switch). AreOutside switch.operator.table switch.workers.items in
    record {
      outside = subst (AreOutside c.match-branch-2.self.operator.table) (sym c.deref_mut.ensures.value)
          elim c.match-branch-2.branch [
            | in-None+in_ok-reply-in-None w ↦
                subst AllOutside (sym w.self-is)
                (outside_after_line before.operator w.line.new.operator before.workers.items c.args.text.now w.in_ok-reply-in-None.reply w.in_ok-reply-in-None.ensures.answered c.requires.outside)
            | in-Some-TooLong w ↦ subst AllOutside (sym w.self-is) c.requires.outside
            | in-Some-Whole w ↦
                let here = slice_get_read before.workers.items WORKERS 0 w.index_mut.result.now (sym c.requires.outside.count) (omega arith) w.index_mut.ensures.value in
                subst AllOutside (sym w.self-is)
                (still_outside w.index_mut.result.now w.judge_packet-reply.new.worker w.deref.result.now w.judge_packet-reply.result w.judge_packet-reply.ensures.judged before.operator.table before.workers.items here c.requires.outside)
          ];
    }

pub returns : goal.returns
returns c =
    let before = c.args.self.now in
    let after = c.meet_all.new in
    let text = c.args.text.now in
    let packet = c.read_packet_into.new.packet.items in
    let long : length after.workers ≡ c.match-branch-2.self.workers.len = omega arith in
    let read = λ (line : Option PacketSize) (is : c.in_ok-read_packet_into.field-0 ≡ line). subst (λ line. MatchOption line (HasNoPacket text) (IsReadInto text packet)) is c.in_ok-read_packet_into.ensures.read in
    let met = λ (switch : Switch) (is : c.match-branch-2.self ≡ switch).
    subst (λ (s : Switch). MetFirst WORKERS s.operator after.operator s.workers.items after.workers) is
    (subst (λ workers. MetFirst WORKERS c.match-branch-2.self.operator after.operator workers after.workers) c.deref_mut.ensures.value c.meet_all.ensures.met) in
    record {
      replies = λ now ready.
          subst (Replies now text c.match-branch-2.reply after.operator) (sym (with_items_is c.match-branch-2.self.workers after.workers long))
          elim c.match-branch-2.branch [
            | in-None+in_ok-reply-in-None w ↦
                subst (λ reply. Replies now text reply after.operator after.workers) (sym w.reply-is)
                (line_answered before.operator w.line.new.operator after.operator before.workers.items after.workers text w.in_ok-reply-in-None.reply
                (read None w.in-None.is) w.in_ok-reply-in-None.ensures.answered (met _ w.self-is) now ready)
            | in-Some-TooLong w ↦
                subst (λ reply. Replies now text reply after.operator after.workers) (sym w.reply-is)
                (long_packet_answered before.operator after.operator before.workers.items after.workers text w.refused-reply.result
                (read _ (w.in-Some-TooLong.is ∙ ap Some w.in-Some-TooLong.field-0-is)) w.refused-reply.ensures.text (met _ w.self-is) now ready)
            | in-Some-Whole w ↦
                let here = slice_get_read before.workers.items WORKERS 0 w.index_mut.result.now (sym c.requires.outside.count) (omega arith) w.index_mut.ensures.value in
                subst (λ reply. Replies now text reply after.operator after.workers) (sym w.reply-is)
                (packet_answered w.index_mut.result.now w.judge_packet-reply.new.worker w.deref.result.now w.judge_packet-reply.result w.judge_packet-reply.ensures.judged
                before.operator after.operator before.workers.items after.workers here (met _ w.self-is) now ready text w.judge_packet-reply.ensures.is_packet
                (subst (λ packet. (digits : List ℕ) × (length text ≤ LINE_LIMIT) × IsPacketLine text digits × SpellsPacket digits packet) (sym w.deref.ensures.value)
                (read _ (w.in-Some-Whole.is ∙ ap Some w.in-Some-Whole.field-0-is))))
          ];
      outside = subst (AreOutside after.operator.table) (sym (with_items_is c.match-branch-2.self.workers after.workers long)) c.meet_all.ensures.met.outside;
    }
