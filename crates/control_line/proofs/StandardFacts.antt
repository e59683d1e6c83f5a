-- Worked examples: lines and what they ask for, replies and their texts.
use Rattle.std.proofs.Common.{◌≡◌, ◌∷◌, None, [], arith, codes, lit<, lit≤, refl}
use Rattle.std.specs.Char.{encode_utf8}
use Rattle.std.specs.Fmt.{digits}
use Rattle.bpf_asm.specs.declared.fault.AsmFault.TheVariants as asm
use Rattle.bpf_verify.specs.declared.fault.Fault.TheVariants as verify
use Rattle.ipv4_fields.specs.declared.endpoint.Endpoint.{Endpoint}
use Rattle.ipv4_fields.specs.Endpoint.{IsEndpoint}
use Rattle.member_group.specs.declared.command.Command.TheVariants.{AddGroup, Join, SetFilter, SetSelector}
use Rattle.member_group.specs.declared.refusal.Refusal.TheVariants.{GroupExists, NoMember}
use Rattle.filter_program.specs.declared.fault.TextFault.TheVariants.{Assembly, Words}
use Rattle.retire.specs.declared.fault.PublishFault.TheVariants.{Busy}
use Rattle.control_line.specs.declared.reason.Reason.TheVariants.{BadForm, Command, OtherVersion, Publishing, Text}
use Rattle.control_line.specs.declared.reply.LineAnswer.TheVariants.{LineRefused, PacketJudged, PacketMalformed, Published, Refused, Shown, Swept}
use Rattle.control_line.specs.Agrees.{Agrees, TextConfig}
use Rattle.control_line.specs.Answer.{Answers, changed, is_made, not_made, published, refused, replied, shown, was_read}
use Rattle.control_line.specs.Block.{single}
use Rattle.control_line.proofs.OneMessageLemmas.{spelled_short}
use Rattle.control_line.specs.Reply.{reply_text}
use Rattle.control_line.specs.Reading.{verdict_on}
use Rattle.control_line.specs.Request.{Spells, change, read, show}
use Rattle.hex.specs.Hex.{decode_pairs}
use Rattle.packet_verdict.specs.Malformed.{malformation_of}
use Rattle.packet_verdict.specs.declared.malformed.Malformation.TheVariants.{Fragment, Short}
use Rattle.packet_verdict.specs.declared.verdict.Verdict.TheVariants.{NoGroup}
use Rattle.filter_program.specs.Program.{assembly, expression}

-- 10.0.0.2:53 and 127.0.0.1:9001
abbrev key : Endpoint
key = record { address = 167772162; port = 53 }

abbrev to : Endpoint
to = record { address = 2130706433; port = 9001 }

key_range : IsEndpoint key
key_range = record { address = lit< tt; port = lit< tt }

to_range : IsEndpoint to
to_range = record { address = lit< tt; port = lit< tt }

-- ---- lines

adds : Spells (codes "add 10.0.0.2:53") (change (AddGroup key))
unfolding digits
adds = (codes "add" ∷ codes "10.0.0.2:53" ∷ [], refl, (key_range, refl))

joins : Spells (codes "join 10.0.0.2:53 1 127.0.0.1:9001") (change (Join key 1 to))
unfolding digits
joins = (codes "join" ∷ codes "10.0.0.2:53" ∷ codes "1" ∷ codes "127.0.0.1:9001" ∷ [], refl, (key_range, lit< tt, to_range, refl))

-- two spaces: the second belongs to the text
selects : Spells (codes "selector 10.0.0.2:53 asm  ret #0") (change (SetSelector key (assembly (codes " ret #0"))))
unfolding digits
selects = (codes "selector" ∷ codes "10.0.0.2:53" ∷ codes "asm" ∷ codes " ret #0" ∷ [], refl, (key_range, refl))

-- no text at all
filters : Spells (codes "filter 10.0.0.2:53 3 expr ") (change (SetFilter key 3 (expression [])))
unfolding digits
filters = (codes "filter" ∷ codes "10.0.0.2:53" ∷ codes "3" ∷ codes "expr" ∷ [] ∷ [], refl, (key_range, lit< tt, refl))

shows : Spells (codes "show") show
shows = refl

judges : Spells (codes "judge 4500") (read (verdict_on (codes "4500")))
judges = (codes "judge" ∷ codes "4500" ∷ [], refl, refl)

judges_no_byte : Spells (codes "judge ") (read (verdict_on []))
judges_no_byte = (codes "judge" ∷ [] ∷ [], refl, refl)

-- ---- what a line is answered, from the empty configuration on

empty_agrees : Agrees [] []
empty_agrees = ([], refl, refl)

abbrev one_group : TextConfig
one_group = record { key = key; selector = None; members = [] } ∷ []

adds_a_group : Answers 0 [] (codes "add 10.0.0.2:53") (Published 1) one_group
adds_a_group =
    replied (single (change (AddGroup key))) _ _ (spelled_short _ (change (AddGroup key)) adds (lit≤ tt)) adds
    (changed (AddGroup key) _ _ (is_made one_group _ _ (record { made = AddGroup key; means = refl; applied = refl; is = refl }) (published (lit≤ tt) (λ e. absurd (omega arith)))))

refuses_it_again : Answers 1 one_group (codes "add 10.0.0.2:53") (Refused (Command GroupExists)) one_group
refuses_it_again =
    replied (single (change (AddGroup key))) _ _ (spelled_short _ (change (AddGroup key)) adds (lit≤ tt)) adds
    (changed (AddGroup key) _ _ (not_made (Command GroupExists) (refused (AddGroup key) GroupExists refl refl)))

shows_it : Answers 1 one_group (codes "show") (Shown 1 1 0 6) one_group
shows_it = replied (single show) _ _ (spelled_short _ show shows (lit≤ tt)) shows shown

two_bytes_are_short : Answers 1 one_group (codes "judge 4500") (PacketMalformed 1 Short) one_group
unfolding decode_pairs malformation_of
two_bytes_are_short =
    replied (single (read (verdict_on (codes "4500")))) _ _ (spelled_short _ (read (verdict_on (codes "4500"))) judges (lit≤ tt)) judges (was_read (verdict_on (codes "4500")))

half_a_byte_is_none : Answers 1 one_group (codes "judge 450") (Refused BadForm) one_group
unfolding decode_pairs
half_a_byte_is_none =
    replied (single (read (verdict_on (codes "450")))) _ _ (spelled_short _ (read (verdict_on (codes "450"))) (codes "judge" ∷ codes "450" ∷ [], refl, refl) (lit≤ tt))
    (codes "judge" ∷ codes "450" ∷ [], refl, refl) (was_read (verdict_on (codes "450")))

-- ---- replies

published_text : reply_text (Published 7) ≡ codes "ok version 7"
unfolding digits
published_text = refl

second_line : reply_text (LineRefused 2 (Command GroupExists)) ≡ codes "refused G2 line 2"
unfolding digits encode_utf8
second_line = refl

other_version : reply_text (Refused (OtherVersion 7)) ≡ codes "refused M1 7"
unfolding digits encode_utf8
other_version = refl

shown_text : reply_text (Shown 7 1 2 28) ≡ codes "version 7 groups 1 members 2 charge 28"
unfolding digits
shown_text = refl

judged_text : reply_text (PacketJudged 7 NoGroup) ≡ codes "version 7 nogroup"
unfolding digits
judged_text = refl

malformed_text : reply_text (PacketMalformed 7 Fragment) ≡ codes "version 7 malformed fragment"
unfolding digits
malformed_text = refl

swept : reply_text (Swept (record { first = 0; count = 7 })) ≡ codes "reclaimed 0 7"
unfolding digits
swept = refl

bad_line : reply_text (Refused BadForm) ≡ codes "refused C1"
unfolding digits encode_utf8
bad_line = refl

no_member : reply_text (Refused (Command NoMember)) ≡ codes "refused G3"
unfolding digits encode_utf8
no_member = refl

busy : reply_text (Refused (Publishing Busy)) ≡ codes "refused B2"
unfolding digits encode_utf8
busy = refl

syntax_fault : reply_text (Refused (Text (Assembly (asm.Syntax 2)))) ≡ codes "refused A1 2"
unfolding digits encode_utf8
syntax_fault = refl

jump_outside : reply_text (Refused (Text (Words (verify.JumpOutside 0)))) ≡ codes "refused V8 0"
unfolding digits encode_utf8
jump_outside = refl

unended : reply_text (Refused (Text (Words verify.NoReturn))) ≡ codes "refused V10"
unfolding digits encode_utf8
unended = refl
