-- How the replies of a script are counted in its summary (docs/COMMANDS.md, "replay").
use Rattle.std.specs.Prelude.{◌≡◌, ◌<◌, ◌^◌, ◌++◌, Bool, List, None, Some, codes, decimal, ℕ}
use Rattle.ipv4_fields.specs.declared.endpoint.Endpoint.{Endpoint}
use Rattle.control.specs.Endpoint.{IsEndpoint, endpoint_text}
use Rattle.fault_code.specs.Code.{name_text}
use Rattle.control.specs.Reason.{reason_code, refusal_text}
use Rattle.control.specs.Reply.{judged_text, reply_text}
use Rattle.control_line.specs.declared.reason.Reason.{Reason}
use Rattle.control_line.specs.declared.reply.LineAnswer.TheVariants.{GroupRead, LineRefused, MemberRead, PacketMalformed, Published, Shown, Swept, WordsRead}
use Rattle.packet_verdict.specs.declared.malformed.Malformation.{Malformation}
use Rattle.packet_verdict.specs.declared.verdict.Verdict.{Verdict}
use Rattle.packet_verdict.specs.declared.verdict.Verdict.TheVariants.{Deliver, Dropped, Malformed, NoGroup, NoMembers}
use Rattle.read_section.specs.declared.operator.Reclaimed.{Reclaimed}
use Rattle.control_summary.specs.Kind.{reply_kind}

-- the kind of a verdict: its reply without the receiver and the bytes
abbrev pub verdict_kind : Verdict → List ℕ
verdict_kind Malformed = codes "malformed"
verdict_kind NoGroup = codes "nogroup"
verdict_kind NoMembers = codes "nomembers"
verdict_kind (Dropped key id) = codes "dropped " ++ endpoint_text key ++ codes " " ++ decimal id
verdict_kind (Deliver key id to bytes) = codes "deliver " ++ endpoint_text key ++ codes " " ++ decimal id

-- the kind of a refusal: its code, without the number
abbrev pub refusal_kind : Reason → List ℕ
refusal_kind reason = codes "refused " ++ name_text (reason_code reason)

-- the key of a verdict is an endpoint, and its member's number is below 2^32
abbrev pub NamesMember : Verdict → Type 0
NamesMember (Dropped key id) = IsEndpoint key × (id < 2 ^ 32)
NamesMember (Deliver key id to bytes) = IsEndpoint key × (id < 2 ^ 32)
NamesMember judged = Unit {0}

-- the reply to a packet is counted by its verdict
abbrev pub VerdictsAreCounted : Type 0
VerdictsAreCounted = (version : ℕ) (judged : Verdict) → version < 2 ^ 64 → NamesMember judged → reply_kind (judged_text version judged) ≡ Some (verdict_kind judged)

-- the reply to a line that judges a malformed packet is counted so, too; for another packet it is the reply to a packet
abbrev pub MalformationsAreCounted : Type 0
MalformationsAreCounted = (version : ℕ) (why : Malformation) → reply_kind (reply_text (PacketMalformed version why)) ≡ Some (verdict_kind Malformed)

-- the reply that refuses a request is counted by its code, also if a line of a block is refused
abbrev pub RefusalsAreCounted : Type 0
RefusalsAreCounted =
    ((reason : Reason) → reply_kind (refusal_text reason) ≡ Some (refusal_kind reason))
    × ((number : ℕ) (reason : Reason) → reply_kind (reply_text (LineRefused number reason)) ≡ Some (refusal_kind reason))

-- the other replies are not counted
abbrev pub ChangesAreNotCounted : Type 0
ChangesAreNotCounted = (version : ℕ) → reply_kind (reply_text (Published version)) ≡ None

abbrev pub ShowsAreNotCounted : Type 0
ShowsAreNotCounted = (version groups members charge : ℕ) → version < 2 ^ 64 → reply_kind (reply_text (Shown version groups members charge)) ≡ None

abbrev pub ReadsAreNotCounted : Type 0
ReadsAreNotCounted =
    ((version index groups : ℕ) (key : Endpoint) (members selector : ℕ) →
    reply_kind (reply_text (GroupRead version index groups key members selector)) ≡ None)
    × ((version index members id : ℕ) (to : Endpoint) (filter : ℕ) (locked : Bool) →
    reply_kind (reply_text (MemberRead version index members id to filter locked)) ≡ None)
    × ((version place count : ℕ) (words : List ℕ) → reply_kind (reply_text (WordsRead version place count words)) ≡ None)

abbrev pub SweepsAreNotCounted : Type 0
SweepsAreNotCounted = (reclaimed : Reclaimed) → reply_kind (reply_text (Swept reclaimed)) ≡ None
