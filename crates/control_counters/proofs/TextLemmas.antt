-- A reply is the text of its fields.
use Rattle.std.proofs.Common.{◌≡◌, ◌≢◌, ◌∙◌, ◌==◌, ◌∷◌, Bool, List, [], ap, ap₂, codes, cond, eqb-true, false, refl, sym, true, ℕ}
use Rattle.ipv4_fields.specs.declared.endpoint.Endpoint.{Endpoint}
use Rattle.control_line.specs.Request.{spaced}
use Rattle.control_line.specs.Rules.{grow_first}
use Rattle.control_client.specs.Exchange.{Exchange}
use Rattle.control_rules.specs.Fields.{fields_in}
use Rattle.control_rules.proofs.FieldLemmas.{some_field}
use Rattle.counter_text.specs.declared.counters.GroupCount.{GroupCount}
use Rattle.counter_text.specs.declared.counters.MemberCount.{MemberCount}
use Rattle.counter_text.specs.declared.counters.Totals.{Totals}
use Rattle.control_counters.specs.Frame.{seat_of}
use Rattle.control_counters.specs.Counts.{group_exchange, group_line, group_reply, member_exchange, member_line, member_reply, totals_exchange, totals_reply}
use Rattle.control_counters.specs.body.Replies.{group_fields, member_fields, totals_fields}

spaced-grow : (byte : ℕ) (fields : List (List ℕ)) → fields ≢ [] → spaced (grow_first byte fields) ≡ byte ∷ spaced fields
spaced-grow byte [] some = absurd (some refl)
spaced-grow byte (field ∷ []) some = refl
spaced-grow byte (field ∷ next ∷ more) some = refl

spaced-space : (fields : List (List ℕ)) → fields ≢ [] → spaced ([] ∷ fields) ≡ 32 ∷ spaced fields
spaced-space [] some = absurd (some refl)
spaced-space (field ∷ more) some = refl

pub spaced-fields : (text : List ℕ) → spaced (fields_in text) ≡ text
spaced-fields [] = refl
spaced-fields (byte ∷ text) = by_test (byte == 32) refl (spaced-fields text)
  where
    by_test : (b : Bool) → (byte == 32) ≡ b → spaced (fields_in text) ≡ text →
        spaced (cond b ([] ∷ fields_in text) (grow_first byte (fields_in text))) ≡ byte ∷ text
    by_test true is whole =
        spaced-space (fields_in text) (some_field text) ∙ ap₂ (λ (b : ℕ) (rest : List ℕ). b ∷ rest) (sym (eqb-true byte 32 is)) whole
    by_test false is whole = spaced-grow byte (fields_in text) (some_field text) ∙ ap (λ rest. byte ∷ rest) whole

text_of : (text : List ℕ) (fields : List (List ℕ)) → fields_in text ≡ fields → text ≡ spaced fields
text_of text fields are = sym (spaced-fields text) ∙ ap spaced are

pub totals_told : (reply : List ℕ) (totals : Totals) → fields_in reply ≡ totals_fields totals →
    ◌≡◌ {A = List Exchange} (record { line = codes "totals"; reply = reply } ∷ []) (totals_exchange totals ∷ [])
totals_told reply totals are =
    let is : reply ≡ totals_reply totals = text_of reply (totals_fields totals) are in
    ap (λ (text : List ℕ). let one : Exchange = record { line = codes "totals"; reply = text } in one ∷ []) is

module _ (line reply : List ℕ) where
  told_so : (line' reply' : List ℕ) → line ≡ line' → reply ≡ reply' →
      ◌≡◌ {A = List Exchange} (record { line = line; reply = reply } ∷ []) (record { line = line'; reply = reply' } ∷ [])
  told_so line' reply' lines replies =
      ap₂ (λ (l r : List ℕ). let one : Exchange = record { line = l; reply = r } in one ∷ []) lines replies

  pub group_told : (key : Endpoint) (group : GroupCount) → line ≡ group_line key → group.key ≡ key → fields_in reply ≡ group_fields group →
      (group.key ≡ key) × (◌≡◌ {A = List Exchange} (record { line = line; reply = reply } ∷ []) (group_exchange group ∷ []))
  group_told key group asks same are =
      (same, told_so (group_line group.key) (group_reply group) (asks ∙ ap group_line (sym same)) (text_of reply (group_fields group) are))

  pub member_told : (member counts : MemberCount) → line ≡ member_line member.key member.id → seat_of counts ≡ seat_of member →
      fields_in reply ≡ member_fields counts →
      (seat_of counts ≡ seat_of member) × (◌≡◌ {A = List Exchange} (record { line = line; reply = reply } ∷ []) (member_exchange counts ∷ []))
  member_told member counts asks same are = (
    same,
    told_so (member_line counts.key counts.id) (member_reply counts)
        (asks ∙ ap (λ seat. member_line seat.key seat.id) (sym same)) (text_of reply (member_fields counts) are),
  )
