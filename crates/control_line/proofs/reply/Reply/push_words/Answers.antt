use Rattle.std.proofs.Common.{◌++◌, ◌∙◌, ap, append-nil, append_assoc, arith, codes, get_or, sym, take}
use Rattle.std.specs.List.{flat_map}
use Rattle.bpf_formats.specs.Hex.{hex_digits}
use Rattle.control_line.specs.Reply.{spaced_word}
use Rattle.control_line.proofs.DigitLemmas.{words_more}
use Rattle.control_line.proofs.reply.Reply.push_words.Goals as goal

pub loop-word-init : goal.loop-word-init
loop-word-init c = record { text = sym (append-nil c.args.self.now); len = omega arith }

pub push-requires : goal.push-requires
push-requires c = record { room = omega (arith, c.loop-word.invariant.len, c.loop-word-test.true, c.requires.room) }

pub push_hex-requires : goal.push_hex-requires
push_hex-requires c = omega (arith, c.push.ensures.len, c.loop-word.invariant.len, c.loop-word-test.true, c.requires.room)

pub loop-word-preserved : goal.loop-word-preserved
loop-word-preserved c =
    let front = flat_map spaced_word (take c.loop-word.word-index c.args.words.now) in
    let digits = hex_digits 16 (get_or c.args.words.now c.loop-word.word-index 0) in
    record {
      text =
          c.push_hex.ensures.appended
          ∙ ap (λ text. text ++ digits) (c.push.ensures.appended ∙ ap (λ text. text ++ codes " ") c.loop-word.invariant.text)
          ∙ append_assoc (c.args.self.now ++ front) (codes " ") digits
          ∙ append_assoc c.args.self.now front (codes " " ++ digits)
          ∙ ap (λ text. c.args.self.now ++ text) (sym (words_more c.args.words.now c.loop-word.word-index c.loop-word-test.true));
      len = omega (arith, c.push_hex.ensures.len, c.push.ensures.len, c.loop-word.invariant.len);
    }
