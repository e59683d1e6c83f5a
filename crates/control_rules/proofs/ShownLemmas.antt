-- What a true reply shows of the version that it names.
use Rattle.std.proofs.Common.{◌≡◌, ◌∙◌, ◌≤◌, ◌<◌, ◌^◌, ◌-◌, Bool, List, None, Option, Some, ap, arith, codes, decimal, length, refl, slice_get, subst, sym, take, ℕ}
use Rattle.std.specs.Prelude.{IfSome, false, option_and_then, true}
use Rattle.std.proofs.lemmas.Fmt.{decimal_injective}
use Rattle.ipv4_fields.specs.declared.endpoint.Endpoint.{Endpoint}
use Rattle.ipv4_fields.specs.Endpoint.{endpoint_text}
use Rattle.ipv4_fields.proofs.TextLemmas.{one_endpoint}
use Rattle.bpf_verify.specs.Program.{IsProgram, ProgramValue}
use Rattle.config_image.specs.Image.{Group}
use Rattle.member_group.specs.Charge.{charge_of, members_of}
use Rattle.member_group.specs.Group.{IsMember, group_of, member_of}
use Rattle.member_group.specs.declared.member.Member.{Member}
use Rattle.member_group.specs.declared.refusal.Refusal.TheVariants.{NoGroup, NoMember, NoProgram}
use Rattle.versions.specs.declared.layout.TheConstants.{LAST_NUMBER}
use Rattle.control_line.specs.Reading.{group_answer, group_at, member_answer, member_at, or_refused, window, words_answer}
use Rattle.control_line.specs.Reply.{flag, reply_text}
use Rattle.control_line.specs.Request.{Spells, read}
use Rattle.control_line.specs.declared.reason.Reason.TheVariants.{Command}
use Rattle.control_rules.specs.Fields.{fields_in}
use Rattle.control_rules.specs.History.{AreConfigs, History, IsTrueTo}
use Rattle.control_rules.specs.body.Lines.{words_reading}
use Rattle.control_rules.specs.body.Replies.{IsGroupReply, IsMemberReply, IsWordsReply}
use Rattle.control_rules.specs.Shown.{IsShownReply}
use Rattle.control_rules.specs.Shown.{AreWordsAt, IsGroupAt, IsMemberAt, IsShownOf, program_at, words_in}
use Rattle.control_rules.specs.declared.replies.GroupShown.{GroupShown}
use Rattle.control_rules.specs.declared.replies.MemberShown.{MemberShown}
use Rattle.control_rules.specs.declared.replies.Shown.{Shown}
use Rattle.control_rules.specs.declared.replies.WordsShown.{WordsShown}
use Rattle.control_rules.proofs.FoundLemmas.{all_got, group_at_is, group_is, program_is}
use Rattle.control_rules.proofs.ReplyLemmas.{group-fields, hex_fields, member-fields, no_refusal, shown-fields, words-fields, words_are}
use Rattle.control_rules.proofs.WordLemmas.{accepted_fit, fit-window, window_shown}
use Rattle.bpf_formats.proofs.PrintLemmas.{Fit}
use Rattle.bpf_formats.specs.Hex.{SpellsDigits}
use Rattle.std.specs.List.{AllZip}

abbrev words_of : ProgramValue → List ℕ
words_of program = program.words

same_number : (m n : ℕ) → m < 2 ^ 64 → n < 2 ^ 64 → decimal m ≡ decimal n → m ≡ n
same_number m n low also is = decimal_injective m n low also is

same_flag : (one other : Bool) → decimal (flag one) ≡ decimal (flag other) → one ≡ other
same_flag true true same = refl
same_flag false false same = refl
same_flag true false same = let it = same_number 1 0 (omega arith) (omega arith) same in absurd (omega arith)
same_flag false true same = let it = same_number 0 1 (omega arith) (omega arith) same in absurd (omega arith)

count_small : (program : Option ProgramValue) → IfSome program IsProgram → words_in program < 2 ^ 64
count_small None is = omega arith
count_small (Some program) is = let short = is.accepted.not_too_long in omega arith

module _ (history : History) (are : AreConfigs history) (line reply : List ℕ) (true : IsTrueTo history (record { line = line; reply = reply })) where
  pub shown_true : (shown : Shown) → IsShownReply reply shown → line ≡ codes "show" → IsShownOf (history shown.version) shown
  shown_true shown it asks =
      let (version, low, is) = true.shows asks in
      let config = history version in
      let same = sym it.fields ∙ ap fields_in is ∙ shown-fields version (length config) (members_of config) (charge_of config) in
      let names : decimal shown.version ≡ decimal version = cc in
      let versions : shown.version ≡ version = same_number shown.version version (omega (arith, it.version)) (omega (arith, low)) names in
      let limited = (are version).limited in
      let count : decimal shown.groups ≡ decimal (length config) = cc in
      subst (λ v. IsShownOf (history v) shown) (sym versions) (record {
        groups = same_number shown.groups (length config) (omega (arith, it.groups)) (omega arith) count;
        members = cc;
        charge = cc;
      })

  pub group_true : (index : ℕ) (shown : GroupShown) → IsGroupReply reply shown → Spells line (read (group_at index)) → IsGroupAt (history shown.version) index shown
  group_true index shown it asks =
      let (version, low, is) = true.reads (group_at index) asks in
      by_group version low (slice_get (history version) index) refl is
    where
      by_group : (version : ℕ) → version ≤ LAST_NUMBER → (found : Option Group) → slice_get (history version) index ≡ found →
          reply ≡ reply_text (or_refused NoGroup (group_answer words_of version index (length (history version))) found) →
          IsGroupAt (history shown.version) index shown
      by_group version low None at is = absurd (no_refusal reply (Command NoGroup) _ is it.fields)
      by_group version low (Some group) at is =
          let of = group_at_is (history version) (are version) index group at in
          let same = sym it.fields ∙ ap fields_in is ∙ group-fields version index (length (history version)) group.key (length group.members) (words_in group.selector) in
          let names : decimal shown.version ≡ decimal version = cc in
          let versions : shown.version ≡ version = same_number shown.version version (omega (arith, it.version)) (omega (arith, low)) names in
          let keys : endpoint_text shown.key ≡ endpoint_text group.key = cc in
          let count : decimal shown.members ≡ decimal (length group.members) = cc in
          let size : decimal shown.selector ≡ decimal (words_in group.selector) = cc in
          let limited = of.limited in
          subst (λ v. IsGroupAt (history v) index shown) (sym versions) (record {
            group = group;
            at = at;
            key = one_endpoint shown.key group.key it.key of.key keys;
            members = same_number shown.members (length group.members) (omega (arith, it.members)) (omega arith) count;
            selector = same_number shown.selector (words_in group.selector) (omega (arith, it.selector)) (count_small group.selector of.selector) size;
          })

  pub member_true : (key : Endpoint) (index : ℕ) (shown : MemberShown) → IsMemberReply reply shown → Spells line (read (member_at key index)) →
      IsMemberAt (history shown.version) key index shown
  member_true key index shown it asks =
      let (version, low, is) = true.reads (member_at key index) asks in
      by_group version low (group_of key (history version)) refl is
    where
      by_member : (version : ℕ) → version ≤ LAST_NUMBER → (group : Group) → group_of key (history version) ≡ Some group →
          (found : Option (Member ProgramValue)) → slice_get group.members index ≡ found →
          reply ≡ reply_text (or_refused NoMember (member_answer words_of version index (length group.members)) found) →
          IsMemberAt (history shown.version) key index shown
      by_member version low group has None at is = absurd (no_refusal reply (Command NoMember) _ is it.fields)
      by_member version low group has (Some member) at is =
          let of = all_got IsMember group.members index member (group_is (history version) (are version) key group has).members at in
          let same = sym it.fields ∙ ap fields_in is ∙ member-fields version index (length group.members) member.id member.to (words_in member.filter) member.locked in
          let names : decimal shown.version ≡ decimal version = cc in
          let versions : shown.version ≡ version = same_number shown.version version (omega (arith, it.version)) (omega (arith, low)) names in
          let ids : decimal shown.id ≡ decimal member.id = cc in
          let ends : endpoint_text shown.to ≡ endpoint_text member.to = cc in
          let size : decimal shown.filter ≡ decimal (words_in member.filter) = cc in
          let set : decimal (flag shown.locked) ≡ decimal (flag member.locked) = cc in
          subst (λ v. IsMemberAt (history v) key index shown) (sym versions) (record {
            group = group;
            member = member;
            found = has;
            at = at;
            id = same_number shown.id member.id (omega (arith, it.id)) (omega (arith, of.id)) ids;
            to = one_endpoint shown.to member.to it.to of.to ends;
            filter = same_number shown.filter (words_in member.filter) (omega (arith, it.filter)) (count_small member.filter of.filter) size;
            locked = same_flag shown.locked member.locked set;
          })

      by_group : (version : ℕ) → version ≤ LAST_NUMBER → (found : Option Group) → group_of key (history version) ≡ found →
          reply ≡ reply_text (or_refused NoGroup (λ group. or_refused NoMember (member_answer words_of version index (length group.members)) (slice_get group.members index)) found) →
          IsMemberAt (history shown.version) key index shown
      by_group version low None at is = absurd (no_refusal reply (Command NoGroup) _ is it.fields)
      by_group version low (Some group) at is = by_member version low group at (slice_get group.members index) refl is

  pub words_true : (key : Endpoint) (owner : Option ℕ) (place : ℕ) (shown : WordsShown) → IsWordsReply reply shown →
      Spells line (read (words_reading key owner place)) → AreWordsAt (history shown.version) key owner place shown
  words_true key owner place shown it asks = by_owner owner asks
    where
      by_program : (owner : Option ℕ) (version : ℕ) → version ≤ LAST_NUMBER → (program : ProgramValue) → program_at key owner (history version) ≡ Some program →
          reply ≡ reply_text (words_answer words_of version place program) → AreWordsAt (history shown.version) key owner place shown
      by_program owner version low program has is =
          let fit = accepted_fit program.words (program_is (history version) (are version) key owner program has).accepted in
          let cut = window_shown program.words place in
          let same = sym it.fields ∙ ap fields_in is ∙ words-fields version place (length program.words) (window program.words place) (subst Fit (sym cut) (fit-window program.words place fit)) in
          let names : decimal shown.version ≡ decimal version = cc in
          let versions : shown.version ≡ version = same_number shown.version version (omega (arith, it.version)) (omega (arith, low)) names in
          let spelled : it.words ≡ hex_fields (take (length program.words - place) (window program.words place)) = cc in
          subst (λ v. AreWordsAt (history v) key owner place shown) (sym versions) (record {
            program = program;
            found = has;
            words = words_are _ shown.words.items (fit-window program.words place fit) (subst (λ fields. AllZip SpellsDigits fields shown.words.items) (spelled ∙ ap hex_fields cut) it.spelled);
          })

      by_owner : (owner : Option ℕ) → Spells line (read (words_reading key owner place)) → AreWordsAt (history shown.version) key owner place shown
      by_owner None asks =
          let (version, low, is) = true.reads (words_reading key None place) asks in
          by_group version low (group_of key (history version)) refl is
        where
          by_selector : (version : ℕ) → version ≤ LAST_NUMBER → (group : Group) → group_of key (history version) ≡ Some group → (found : Option ProgramValue) →
              group.selector ≡ found → reply ≡ reply_text (or_refused NoProgram (words_answer words_of version place) found) → AreWordsAt (history shown.version) key None place shown
          by_selector version low group has None at is = absurd (no_refusal reply (Command NoProgram) _ is it.fields)
          by_selector version low group has (Some program) at is =
              by_program None version low program (ap (λ found. option_and_then (λ group. group.selector) found) has ∙ at) is

          by_group : (version : ℕ) → version ≤ LAST_NUMBER → (found : Option Group) → group_of key (history version) ≡ found →
              reply ≡ reply_text (or_refused NoGroup (λ group. or_refused NoProgram (words_answer words_of version place) group.selector) found) →
              AreWordsAt (history shown.version) key None place shown
          by_group version low None at is = absurd (no_refusal reply (Command NoGroup) _ is it.fields)
          by_group version low (Some group) at is = by_selector version low group at group.selector refl is
      by_owner (Some id) asks =
          let (version, low, is) = true.reads (words_reading key (Some id) place) asks in
          by_group version low (group_of key (history version)) refl is
        where
          by_filter : (version : ℕ) → version ≤ LAST_NUMBER → (group : Group) → group_of key (history version) ≡ Some group →
              (member : Member ProgramValue) → member_of id group ≡ Some member → (found : Option ProgramValue) →
              member.filter ≡ found → reply ≡ reply_text (or_refused NoProgram (words_answer words_of version place) found) → AreWordsAt (history shown.version) key (Some id) place shown
          by_filter version low group has member named None at is = absurd (no_refusal reply (Command NoProgram) _ is it.fields)
          by_filter version low group has member named (Some program) at is =
              by_program (Some id) version low program
              (ap (λ found. option_and_then (λ group. option_and_then (λ member. member.filter) (member_of id group)) found) has
              ∙ ap (λ found. option_and_then (λ member. member.filter) found) named ∙ at) is

          by_member : (version : ℕ) → version ≤ LAST_NUMBER → (group : Group) → group_of key (history version) ≡ Some group →
              (found : Option (Member ProgramValue)) → member_of id group ≡ found →
              reply ≡ reply_text (or_refused NoMember (λ member. or_refused NoProgram (words_answer words_of version place) member.filter) found) →
              AreWordsAt (history shown.version) key (Some id) place shown
          by_member version low group has None at is = absurd (no_refusal reply (Command NoMember) _ is it.fields)
          by_member version low group has (Some member) at is = by_filter version low group has member at member.filter refl is

          by_group : (version : ℕ) → version ≤ LAST_NUMBER → (found : Option Group) → group_of key (history version) ≡ found →
              reply ≡ reply_text (or_refused NoGroup (λ group. or_refused NoMember (λ member. or_refused NoProgram (words_answer words_of version place) member.filter) (member_of id group)) found) →
              AreWordsAt (history shown.version) key (Some id) place shown
          by_group version low None at is = absurd (no_refusal reply (Command NoGroup) _ is it.fields)
          by_group version low (Some group) at is = by_member version low group at (member_of id group) refl is
