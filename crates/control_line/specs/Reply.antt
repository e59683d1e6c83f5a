-- The text of a reply (docs/COMMANDS.md, "Control lines").
use Rattle.std.specs.Prelude.{◌-◌, ◌++◌, Bool, List, codes, decimal, false, take, true, ℕ}
use Rattle.std.specs.List.{flat_map}
use Rattle.ipv4_fields.specs.Endpoint.{endpoint_text}
use Rattle.bpf_formats.specs.Hex.{hex_digits}
use Rattle.control_line.specs.declared.reply.LineAnswer.{LineAnswer}
use Rattle.control_line.specs.declared.reply.LineAnswer.TheVariants.{GroupRead, LineRefused, MemberRead, PacketJudged, PacketMalformed, Published, Refused, Shown, Swept, WordsRead}
use Rattle.control_line.specs.Reason.{refusal_text}
use Rattle.packet_verdict.specs.declared.malformed.Malformation.{Malformation}
use Rattle.packet_verdict.specs.declared.malformed.Malformation.TheVariants as broken
use Rattle.packet_verdict.specs.declared.verdict.Verdict.{Verdict}
use Rattle.packet_verdict.specs.declared.verdict.Verdict.TheVariants.{Deliver, Dropped, Malformed, NoGroup, NoMembers}

-- 1 for true
abbrev pub flag : Bool → ℕ
flag true = 1
flag false = 0

-- a word, after a space
abbrev pub spaced_word : ℕ → List ℕ
spaced_word word = codes " " ++ hex_digits 16 word

-- a verdict, as its reply names it
abbrev pub verdict_text : Verdict → List ℕ
verdict_text Malformed = codes "malformed"
verdict_text NoGroup = codes "nogroup"
verdict_text NoMembers = codes "nomembers"
verdict_text (Dropped key id) = codes "dropped " ++ endpoint_text key ++ codes " " ++ decimal id
verdict_text (Deliver key id to bytes) =
    codes "deliver " ++ endpoint_text key ++ codes " " ++ decimal id ++ codes " " ++ endpoint_text to ++ codes " " ++ decimal bytes

-- the version that judged, and its verdict
abbrev pub judged_text : ℕ → Verdict → List ℕ
judged_text version verdict = codes "version " ++ decimal version ++ codes " " ++ verdict_text verdict

-- the rule that a malformed packet breaks
abbrev pub malformation_text : Malformation → List ℕ
malformation_text broken.Short = codes "short"
malformation_text broken.Version = codes "version"
malformation_text broken.Header = codes "header"
malformation_text broken.Length = codes "length"
malformation_text broken.Protocol = codes "protocol"
malformation_text broken.Fragment = codes "fragment"
malformation_text broken.UdpLength = codes "udplength"

-- the line of an answer, without LF
abbrev pub reply_text : LineAnswer → List ℕ
reply_text (Refused reason) = refusal_text reason
reply_text (LineRefused number reason) = refusal_text reason ++ codes " line " ++ decimal number
reply_text (Published version) = codes "ok version " ++ decimal version
reply_text (Shown version groups members charge) =
    codes "version " ++ decimal version ++ codes " groups " ++ decimal groups
    ++ codes " members " ++ decimal members ++ codes " charge " ++ decimal charge
reply_text (Swept reclaimed) = codes "reclaimed " ++ decimal reclaimed.first ++ codes " " ++ decimal reclaimed.count
reply_text (GroupRead version index groups key members selector) =
    codes "version " ++ decimal version ++ codes " group " ++ decimal index ++ codes " of " ++ decimal groups
    ++ codes " " ++ endpoint_text key ++ codes " members " ++ decimal members ++ codes " selector " ++ decimal selector
reply_text (MemberRead version index members id to filter locked) =
    codes "version " ++ decimal version ++ codes " member " ++ decimal index ++ codes " of " ++ decimal members
    ++ codes " " ++ decimal id ++ codes " " ++ endpoint_text to ++ codes " filter " ++ decimal filter
    ++ codes " locked " ++ decimal (flag locked)
reply_text (WordsRead version place count words) =
    codes "version " ++ decimal version ++ codes " words " ++ decimal place ++ codes " of " ++ decimal count
    ++ flat_map spaced_word (take (count - place) words)
reply_text (PacketJudged version judged) = judged_text version judged
reply_text (PacketMalformed version why) = codes "version " ++ decimal version ++ codes " malformed " ++ malformation_text why
