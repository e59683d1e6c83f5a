-- A script has one text.
use Rattle.std.proofs.Common.{◌≡◌, ◌∙◌, ◌≤◌, ◌++◌, ◌∷◌, List, [], ap, append_assoc, arith, codes, inl, inr, length, refl, subst, sym, ℕ}
use Rattle.std.proofs.lemmas.List.{append_cancel_left, append_cancel_right}
use Rattle.dispatch.specs.Verdict.{returned, verdict}
use Rattle.hex.proofs.HexLemmas.{decode_of-ok}
use Rattle.read_section.specs.declared.operator.Reclaimed.{Reclaimed}
use Rattle.retire.specs.declared.fault.PublishFault.TheVariants.{Busy}
use Rattle.control_line.specs.declared.TheConstants.{LINE_LIMIT}
use Rattle.control_line.specs.declared.reason.Reason.TheVariants.{Publishing}
use Rattle.control_line.specs.declared.reply.LineAnswer.{LineAnswer}
use Rattle.control_line.specs.declared.reply.LineAnswer.TheVariants.{GroupRead, LineRefused, MemberRead, PacketJudged, PacketMalformed, Published, Refused, Shown, Swept, WordsRead}
use Rattle.control_line.specs.Agrees.{Compiler, TextConfig}
use Rattle.control_line.specs.Answer.{AnswersBy, AreOne, HasOneAnswer, HasOneAnswerBy, HaveSameTexts, IsOperatorsChoice, by_function}
use Rattle.control_line.specs.Reading.{Reading}
use Rattle.control_line.specs.Request.{Spells, read}
use Rattle.filter_program.specs.Program.{IsProgramFor, text_ending}
use Rattle.control.proofs.EndLemmas.{part_of_script}
use Rattle.packet_verdict.proofs.OverLemmas.{verdict-over}
use Rattle.control.proofs.RequestLemmas.{same_last, same_request}
use Rattle.control.specs.PacketLine.{HasNoPacket, IsPacketLine}
use Rattle.control_line.specs.Packet.{IsHex, SpellsPacket, SpellsTooMuch}
use Rattle.control_line.specs.Reply.{judged_text, reply_text}
use Rattle.control.specs.Script.{AreAnsweredBy, BeginsRequest, ComesInScript, HasOneText, HasOneTextBy, IsRequest, IsScriptTextBy, RepliesToBy, Standing, at_start, no_request, of_nothing, of_requests, one_more, standing_after, text_value, to_control, to_long_packet, to_packet, with_last_lf}
use Rattle.member_group.specs.Over.{config_over}

-- ---- lines that have a packet

hex_of : (digits packet : List ℕ) → SpellsPacket digits packet → IsHex digits
hex_of digits packet spells =
    let read = decode_of-ok digits packet spells.spells in
    record { even = read.0; digits = read.1 }

not_too_much : (digits packet : List ℕ) → SpellsPacket digits packet → SpellsTooMuch digits → ⊥
not_too_much digits packet spells much =
    let read = decode_of-ok digits packet spells.spells in
    let twice = read.2 in
    let short = spells.not_too_long in
    let long = much.too_long in
    omega arith

same_digits : (line one other : List ℕ) → IsPacketLine line one → IsPacketLine line other → one ≡ other
same_digits line one other is also = append_cancel_left (codes "packet ") one other (sym is ∙ also)

same_packet : (digits one other : List ℕ) → SpellsPacket digits one → SpellsPacket digits other → one ≡ other
same_packet digits one other spells also = let both = sym spells.spells ∙ also.spells in cc both

no_control : (line digits : List ℕ) → HasNoPacket line → length line ≤ LINE_LIMIT → IsPacketLine line digits → IsHex digits → ⊥
no_control line digits none short is hex = let long = none digits is hex in omega arith

-- ---- requests from the first to the last

-- from here on the requests have this text; only the last one may lack lines
data GoesOnBy (by : Compiler) : Standing → List ℕ → List ℕ → Type 0 where
  last_one : (now last : Standing) (request reply : List ℕ) → BeginsRequest request → RepliesToBy by now request reply last → GoesOnBy by now (request ++ 10 ∷ []) (reply ++ 10 ∷ [])
  one_first : (now next : Standing) (request reply rest text : List ℕ) → IsRequest request → RepliesToBy by now request reply next → GoesOnBy by next rest text
      → GoesOnBy by now (request ++ 10 ∷ rest) (reply ++ 10 ∷ text)

not_nil : (front rest : List ℕ) → front ++ 10 ∷ rest ≡ [] → ⊥
not_nil [] rest is = cc is
not_nil (x ∷ front) rest is = cc is

goes_on : (by : Compiler) (requests text rest more : List ℕ) (now : Standing) → AreAnsweredBy by requests text now → GoesOnBy by now rest more → GoesOnBy by at_start (requests ++ rest) (text ++ more)
goes_on by _ _ rest more _ no_request tail = tail
goes_on by _ _ rest more _ (one_more requests text request reply now next answered is replies) tail =
    subst (λ t. GoesOnBy by at_start t ((text ++ (reply ++ 10 ∷ [])) ++ more)) (whole requests request rest)
    (subst (GoesOnBy by at_start (requests ++ (request ++ 10 ∷ rest))) (whole text reply more)
    (goes_on by requests text (request ++ 10 ∷ rest) (reply ++ 10 ∷ more) now answered (one_first now next request reply rest more is replies tail)))
  where
    whole : (front one rest : List ℕ) → front ++ (one ++ 10 ∷ rest) ≡ (front ++ (one ++ 10 ∷ [])) ++ rest
    whole front one rest = ap (λ t. front ++ t) (sym (append_assoc one (10 ∷ []) rest)) ∙ sym (append_assoc front (one ++ 10 ∷ []) rest)

goes_on_some : {by : Compiler} (now : Standing) (rest text : List ℕ) → GoesOnBy by now rest text → rest ≡ [] → ⊥
goes_on_some _ _ _ (last_one now last request reply begins replies) none = not_nil request [] none
goes_on_some _ _ _ (one_first now next request reply rest text is replies tail) none = not_nil request rest none

-- ---- two texts

-- Two compilers, and configurations that are alike: for a fit request they lead to one answer and to configurations that are alike, but for
-- what the operator has to say. They judge a packet alike.
module _ (AreAlike : TextConfig → TextConfig → Type 0) (by by' : Compiler) (IsFit : List ℕ → Type 0) (start : AreAlike [] [])
    (law : (version : ℕ) (config config' : TextConfig) (line : List ℕ) (one other : LineAnswer) (next also : TextConfig) → AreAlike config config' → IsFit line
    → AnswersBy by version config line one next → AnswersBy by' version config' line other also → AreOne AreAlike one next other also)
    (judged : (config config' : TextConfig) (packet : List ℕ) → AreAlike config config' → verdict text_value config packet ≡ verdict text_value config' packet) where
  -- both scripts stand alike
  record AreAt (now now' : Standing) : Type 0 where
    version : now.version ≡ now'.version
    config : AreAlike now.config now'.config
    reported : now.reported ≡ now'.reported

  module _ (now now' : Standing) (at : AreAt now now') where
    same_sweep : (one other : Reclaimed) → ComesInScript now (Swept one) → ComesInScript now' (Swept other) → one ≡ other
    same_sweep one other comes also =
        let first : one.first ≡ other.first = comes.0 ∙ at.reported ∙ sym also.0 in
        let count : one.count ≡ other.count = omega (arith, comes.0, comes.1, also.0, also.1, at.reported, at.version) in
        ap (λ n. record { first = n; count = one.count }) first ∙ ap (λ n. record { first = other.first; count = n }) count

    -- what the operator has to say of a request is settled in a script
    by_choice : (one other : LineAnswer) (next also : TextConfig) → IsOperatorsChoice AreAlike one next other also → ComesInScript now one → ComesInScript now' other → (one ≡ other) × AreAlike next also
    by_choice (Published version) (Refused (Publishing Busy)) next also choice comes comes' = absurd comes'
    by_choice (Refused (Publishing Busy)) (Published version) next also choice comes comes' = absurd comes
    by_choice (Swept one) (Swept other) next also choice comes comes' = (ap Swept (same_sweep one other comes comes'), choice)
    by_choice _ _ next also choice comes comes' = absurd choice

    by_answers : (one other : LineAnswer) (next also : TextConfig) → AreOne AreAlike one next other also → ComesInScript now one → ComesInScript now' other → (one ≡ other) × AreAlike next also
    by_answers one other next also (inl same) comes comes' = same
    by_answers one other next also (inr choice) comes comes' = by_choice one other next also choice comes comes'

    at_after : (answer : LineAnswer) (next also : TextConfig) → AreAlike next also → AreAt (standing_after now answer next) (standing_after now' answer also)
    at_after (Refused why) next also alike = record { version = at.version; config = alike; reported = at.reported }
    at_after (LineRefused number why) next also alike = record { version = at.version; config = alike; reported = at.reported }
    at_after (Published version) next also alike = record { version = refl; config = alike; reported = at.reported }
    at_after (Shown version groups members charge) next also alike = record { version = at.version; config = alike; reported = at.reported }
    at_after (GroupRead version index groups key members selector) next also alike = record { version = at.version; config = alike; reported = at.reported }
    at_after (MemberRead version index members id to filter locked) next also alike = record { version = at.version; config = alike; reported = at.reported }
    at_after (WordsRead version place count words) next also alike = record { version = at.version; config = alike; reported = at.reported }
    at_after (PacketJudged version judged) next also alike = record { version = at.version; config = alike; reported = at.reported }
    at_after (PacketMalformed version why) next also alike = record { version = at.version; config = alike; reported = at.reported }
    at_after (Swept reclaimed) next also alike = record { version = at.version; config = alike; reported = refl }

    same_reply : (line one other : List ℕ) (next also : Standing) → IsFit line → RepliesToBy by now line one next → RepliesToBy by' now' line other also → (one ≡ other) × AreAt next also
    same_reply line _ _ _ _ fit (to_control answer next none answers comes) (to_control answer' next' none' answers' comes') =
        let here = subst (λ n. AnswersBy by' n now'.config line answer' next') (sym at.version) answers' in
        let same = by_answers answer answer' next next' (law now.version now.config now'.config line answer answer' next next' at.config fit answers here) comes comes' in
        (ap reply_text same.0, subst (λ a. AreAt (standing_after now answer next) (standing_after now' a next')) same.0 (at_after answer next next' same.1))
    same_reply line _ _ _ _ fit (to_control answer next none answers comes) (to_packet digits packet short is spells) = absurd (no_control line digits none short is (hex_of digits packet spells))
    same_reply line _ _ _ _ fit (to_control answer next none answers comes) (to_long_packet digits short is much) = absurd (no_control line digits none short is much.hex)
    same_reply line _ _ _ _ fit (to_packet digits packet short is spells) (to_control answer next none answers comes) = absurd (no_control line digits none short is (hex_of digits packet spells))
    same_reply line _ _ _ _ fit (to_packet digits packet short is spells) (to_packet digits' packet' short' is' spells') =
        let digit = same_digits line digits digits' is is' in
        let same = same_packet digits' packet packet' (subst (λ d. SpellsPacket d packet) digit spells) spells' in (
          ap (λ n. judged_text n (verdict text_value now.config packet)) at.version
              ∙ ap (judged_text now'.version) (judged now.config now'.config packet at.config)
              ∙ ap (λ p. judged_text now'.version (verdict text_value now'.config p)) same,
          at,
        )
    same_reply line _ _ _ _ fit (to_packet digits packet short is spells) (to_long_packet digits' short' is' much) =
        absurd (not_too_much digits packet spells (subst SpellsTooMuch (same_digits line digits' digits is' is) much))
    same_reply line _ _ _ _ fit (to_long_packet digits short is much) (to_control answer next none answers comes) = absurd (no_control line digits none short is much.hex)
    same_reply line _ _ _ _ fit (to_long_packet digits short is much) (to_packet digits' packet short' is' spells) =
        absurd (not_too_much digits' packet spells (subst SpellsTooMuch (same_digits line digits digits' is is') much))
    same_reply line _ _ _ _ fit (to_long_packet digits short is much) (to_long_packet digits' short' is' much') = (refl, at)

  -- each text before an LF is fit
  abbrev AllFit : List ℕ → Type 0
  AllFit text = (front line back : List ℕ) → text ≡ front ++ (line ++ 10 ∷ back) → IsFit line

  rest_fits : (request rest : List ℕ) → AllFit (request ++ 10 ∷ rest) → AllFit rest
  rest_fits request rest all front line back is =
      all (request ++ 10 ∷ front) line back (ap (λ t. request ++ 10 ∷ t) is ∙ sym (append_assoc request (10 ∷ front) (line ++ 10 ∷ back)))

  same_line : (line line' : List ℕ) (now now' : Standing) → line ≡ line' → AreAt now now' → IsFit line → (one other : List ℕ) (next also : Standing)
      → RepliesToBy by now line one next → RepliesToBy by' now' line' other also → (one ≡ other) × AreAt next also
  same_line line line' now now' same at fit one other next also replies replies' =
      same_reply now now' at line one other next also fit replies (subst (λ l. RepliesToBy by' now' l other also) (sym same) replies')

  with_reply : (reply reply' text text' : List ℕ) → reply ≡ reply' → text ≡ text' → reply ++ 10 ∷ text ≡ reply' ++ 10 ∷ text'
  with_reply reply reply' text text' same also = ap (λ r. r ++ 10 ∷ text) same ∙ ap (λ t. reply' ++ 10 ∷ t) also

  same_on : (now now' : Standing) (rest rest' one other : List ℕ) → AreAt now now' → rest ≡ rest' → AllFit rest → GoesOnBy by now rest one → GoesOnBy by' now' rest' other → one ≡ other
  same_on _ _ _ _ _ _ at same fit (last_one now last request reply begins replies) (last_one now' last' request' reply' begins' replies') =
      let both = same_line request request' now now' (append_cancel_right request request' (10 ∷ []) same) at (fit [] request [] refl) reply reply' last last' replies replies' in
      with_reply reply reply' [] [] both.0 refl
  same_on _ _ _ _ _ _ at same fit (last_one now last request reply begins replies) (one_first now' next' request' reply' rest' text' is' replies' tail') =
      absurd (goes_on_some next' rest' text' tail' (same_last request' request rest' is' begins (sym same)).1)
  same_on _ _ _ _ _ _ at same fit (one_first now next request reply rest text is replies tail) (last_one now' last' request' reply' begins' replies') =
      absurd (goes_on_some next rest text tail (same_last request request' rest is begins' same).1)
  same_on _ _ _ _ _ _ at same fit (one_first now next request reply rest text is replies tail) (one_first now' next' request' reply' rest' text' is' replies' tail') =
      let cut = same_request request request' rest rest' is is' same in
      let both = same_line request request' now now' cut.0 at (fit [] request rest refl) reply reply' next next' replies replies' in
      with_reply reply reply' text text' both.0 (same_on next next' rest rest' text text' both.1 cut.1 (rest_fits request rest fit) tail tail')

  none_and_some : (script requests request : List ℕ) → script ≡ [] → with_last_lf script ≡ requests ++ (request ++ 10 ∷ []) → ⊥
  none_and_some script requests request none is =
      not_nil (requests ++ request) [] (append_assoc requests request (10 ∷ []) ∙ (sym is ∙ ap with_last_lf none))

  same_text : (script one other : List ℕ) → AllFit (with_last_lf script) → IsScriptTextBy by script one → IsScriptTextBy by' script other → one ≡ other
  same_text script _ _ fit (of_nothing none) (of_nothing none') = refl
  same_text script _ _ fit (of_nothing none) (of_requests requests text request reply now last answered begins whole replies) = absurd (none_and_some script requests request none whole)
  same_text script _ _ fit (of_requests requests text request reply now last answered begins whole replies) (of_nothing none) = absurd (none_and_some script requests request none whole)
  same_text script _ _ fit (of_requests requests text request reply now last answered begins whole replies) (of_requests requests' text' request' reply' now' last' answered' begins' whole' replies') =
      same_on at_start at_start (requests ++ (request ++ 10 ∷ [])) (requests' ++ (request' ++ 10 ∷ [])) (text ++ (reply ++ 10 ∷ [])) (text' ++ (reply' ++ 10 ∷ []))
      (record { version = refl; config = start; reported = refl }) (sym whole ∙ whole') (subst AllFit whole fit)
      (goes_on by requests text (request ++ 10 ∷ []) (reply ++ 10 ∷ []) now answered (last_one now last request reply begins replies))
      (goes_on by' requests' text' (request' ++ 10 ∷ []) (reply' ++ 10 ∷ []) now' answered' (last_one now' last' request' reply' begins' replies'))

-- ---- one text

-- what texts mean settles a verdict
text_verdict : (config : TextConfig) (packet : List ℕ) → verdict (λ text p. returned (text_ending text p)) (config_over (λ program. program.text) config) packet ≡ verdict text_value config packet
text_verdict config packet = verdict-over (λ program. program.text) (λ text p. returned (text_ending text p)) text_value packet (λ program. refl) config

pub one_text : HasOneAnswer → HasOneText
one_text law script one other silent is also =
    same_text HaveSameTexts IsProgramFor IsProgramFor (λ line. (reading : Reading) → Spells line (read reading) → ⊥) refl
    (λ version config config' line first second next after alike fit answers answers'. law version config config' line first second next after alike fit answers answers')
    (λ config config' packet alike. sym (text_verdict config packet) ∙ ap (λ texts. verdict (λ text p. returned (text_ending text p)) texts packet) alike ∙ text_verdict config' packet)
    script one other (λ front line back whole reading. let part = part_of_script script front line back whole in silent front line part.0 reading part.1) is also

pub one_text_by : HasOneAnswerBy → HasOneTextBy
one_text_by law compiled script one other is also =
    same_text (λ config config'. config ≡ config') (by_function compiled) (by_function compiled) (λ line. Unit {0}) refl
    (λ version config config' line first second next after same fit answers answers'.
    law compiled version config line first second next after answers (subst (λ c. AnswersBy (by_function compiled) version c line second after) (sym same) answers'))
    (λ config config' packet same. ap (λ c. verdict text_value c packet) same)
    script one other (λ front line back whole. tt) is also
