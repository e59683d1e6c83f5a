-- Which names a text has: a group's key, or that and a member's number.
use Rattle.std.proofs.Common.{◌≡◌, ◌≢◌, ◌∙◌, ◌<◌, ◌≤◌, ◌++◌, ◌∷◌, List, None, Option, Some, ap, append-nil, arith, codes, decimal, refl, subst, sym, ℕ}
use Rattle.std.specs.Prelude.{IfSome}
use Rattle.ipv4_fields.specs.Cut.{IsSplitAt, Lacks}
use Rattle.ipv4_fields.specs.Endpoint.{IsEndpoint, endpoint_text}
use Rattle.ipv4_fields.specs.declared.endpoint.Endpoint.{Endpoint}
use Rattle.ipv4_fields.proofs.TextLemmas.{has_separator, lacks-endpoint, lacks-test, one_cut}
use Rattle.member_counts.specs.declared.key.CountKey.{CountKey}
use Rattle.serve_control.specs.Members.{IsAskable, asked_text, id_text, names_text}

no_space : (group : Endpoint) → Lacks 32 (endpoint_text group)
no_space group = lacks-endpoint 32 group (omega arith)

module _ (names : List ℕ) where
  -- a text without a space is a group's key or nothing
  pub no_key : Lacks 32 names → ((e : Endpoint) → IsEndpoint e → names ≢ endpoint_text e) → (asked : CountKey) → IsAskable asked → names ≢ names_text asked
  no_key lacks none asked able same = of asked.member same
    where
      of : (member : Option ℕ) → names ≡ endpoint_text asked.group ++ id_text member → ⊥
      of None is = none asked.group able.group (is ∙ append-nil (endpoint_text asked.group))
      of (Some id) is = has_separator 32 (endpoint_text asked.group) (decimal id) (subst (Lacks 32) is lacks)

  pub is_key : (e : Endpoint) → names ≡ endpoint_text e → names ≡ names_text (record { group = e; member = None })
  is_key e is = is ∙ sym (append-nil (endpoint_text e))

  module _ (key id : List ℕ) (cut : IsSplitAt 32 names key id) where
    parts : (asked : CountKey) → names ≡ names_text asked → (n : ℕ) × (asked.member ≡ Some n) × (key ≡ endpoint_text asked.group) × (id ≡ decimal n)
    parts asked same = of asked.member refl same
      where
        of : (member : Option ℕ) → asked.member ≡ member → names ≡ endpoint_text asked.group ++ id_text member
            → (n : ℕ) × (asked.member ≡ Some n) × (key ≡ endpoint_text asked.group) × (id ≡ decimal n)
        of None of_asked is =
            absurd (has_separator 32 key id (subst (Lacks 32) (sym (is ∙ append-nil (endpoint_text asked.group)) ∙ cut.whole) (no_space asked.group)))
        of (Some n) of_asked is =
            let both = one_cut 32 key (endpoint_text asked.group) id (decimal n) cut.lacks (no_space asked.group) (sym cut.whole ∙ is) in (n, of_asked, both.0, both.1)

    pub no_group : ((e : Endpoint) → IsEndpoint e → key ≢ endpoint_text e) → (asked : CountKey) → IsAskable asked → names ≢ names_text asked
    no_group none asked able same = let found = parts asked same in none asked.group able.group found.2

    pub no_number : ((n : ℕ) → n ≤ 4294967295 → id ≢ decimal n) → (asked : CountKey) → IsAskable asked → names ≢ names_text asked
    no_number none asked able same =
        let found = parts asked same in
        let small = subst (λ (member : Option ℕ). IfSome member (λ n. n < 4294967296)) found.1 able.member in
        none found.0 (omega (arith, small)) found.3

    pub is_member : (e : Endpoint) (n : ℕ) → key ≡ endpoint_text e → id ≡ decimal n → names ≡ names_text (record { group = e; member = Some n })
    is_member e n of_key of_id = cut.whole ∙ (ap (λ t. t ++ 32 ∷ id) of_key ∙ ap (λ t. endpoint_text e ++ 32 ∷ t) of_id)

module _ (text : List ℕ) where
  pub no_space_asked : Lacks 32 text → (asked : CountKey) → IsAskable asked → text ≢ asked_text asked
  no_space_asked lacks asked able same = has_separator 32 (codes "totals") (names_text asked) (subst (Lacks 32) same lacks)

  module _ (word names : List ℕ) (cut : IsSplitAt 32 text word names) where
    both : (asked : CountKey) → text ≡ asked_text asked → (word ≡ codes "totals") × (names ≡ names_text asked)
    both asked same = one_cut 32 word (codes "totals") names (names_text asked) cut.lacks (lacks-test 32 (codes "totals") refl) (sym cut.whole ∙ same)

    pub other_word : (word ≡ codes "totals" → ⊥) → (asked : CountKey) → IsAskable asked → text ≢ asked_text asked
    other_word other asked able same = other (both asked same).0

    pub no_names : ((asked : CountKey) → IsAskable asked → names ≢ names_text asked) → (asked : CountKey) → IsAskable asked → text ≢ asked_text asked
    no_names none asked able same = none asked able (both asked same).1

    pub is_asked : (asked : CountKey) → word ≡ codes "totals" → names ≡ names_text asked → text ≡ asked_text asked
    is_asked asked of_word of_names = cut.whole ∙ (ap (λ t. t ++ 32 ∷ names) of_word ∙ ap (λ t. codes "totals" ++ 32 ∷ t) of_names)
