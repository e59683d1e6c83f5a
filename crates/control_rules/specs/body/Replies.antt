-- The contents of replies, by their fields.
use Rattle.std.specs.Prelude.{◌≡◌, ◌≤◌, ◌∷◌, List, [], codes, decimal, ℕ}
use Rattle.std.specs.List.{AllZip}
use Rattle.ipv4_fields.specs.Endpoint.{IsEndpoint, endpoint_text}
use Rattle.bpf_formats.specs.Hex.{SpellsDigits}
use Rattle.control_line.specs.Reply.{flag}
use Rattle.control_rules.specs.Fields.{fields_in}
use Rattle.control_rules.specs.declared.replies.GroupShown.{GroupShown}
use Rattle.control_rules.specs.declared.replies.MemberShown.{MemberShown}
use Rattle.control_rules.specs.declared.replies.WordsShown.{WordsShown}
use Rattle.versions.specs.declared.layout.TheConstants.{LAST_NUMBER}

abbrev pub MOST : ℕ
MOST = 4294967295

pub record IsGroupReply (reply : List ℕ) (shown : GroupShown) : Type 0 where
  pub groups : ℕ
  pub version : shown.version ≤ LAST_NUMBER
  pub key : IsEndpoint shown.key
  pub members : shown.members ≤ MOST
  pub selector : shown.selector ≤ MOST
  pub fields : fields_in reply ≡ codes "version" ∷ decimal shown.version ∷ codes "group" ∷ decimal shown.index ∷ codes "of" ∷ decimal groups
      ∷ endpoint_text shown.key ∷ codes "members" ∷ decimal shown.members ∷ codes "selector" ∷ decimal shown.selector ∷ []

pub record IsMemberReply (reply : List ℕ) (shown : MemberShown) : Type 0 where
  pub members : ℕ
  pub version : shown.version ≤ LAST_NUMBER
  pub id : shown.id ≤ MOST
  pub to : IsEndpoint shown.to
  pub filter : shown.filter ≤ MOST
  pub fields : fields_in reply ≡ codes "version" ∷ decimal shown.version ∷ codes "member" ∷ decimal shown.index ∷ codes "of" ∷ decimal members
      ∷ decimal shown.id ∷ endpoint_text shown.to ∷ codes "filter" ∷ decimal shown.filter ∷ codes "locked" ∷ decimal (flag shown.locked) ∷ []

pub record IsWordsReply (reply : List ℕ) (shown : WordsShown) : Type 0 where
  pub words : List (List ℕ)
  pub version : shown.version ≤ LAST_NUMBER
  pub count : shown.count ≤ MOST
  pub spelled : AllZip SpellsDigits words shown.words.items
  pub fields : fields_in reply ≡ codes "version" ∷ decimal shown.version ∷ codes "words" ∷ decimal shown.place ∷ codes "of" ∷ decimal shown.count ∷ words

-- the fields of a version and of the number of words, and those that follow
pub record IsCountRead (before : List (List ℕ)) (version place count : ℕ) (after : List (List ℕ)) : Type 0 where
  pub version_fits : version ≤ LAST_NUMBER
  pub count_fits : count ≤ MOST
  pub fields : before ≡ codes "version" ∷ decimal version ∷ codes "words" ∷ decimal place ∷ codes "of" ∷ decimal count ∷ after
