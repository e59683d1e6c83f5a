-- What a source gave and an outbox took in two times, one after the other.
use Rattle.std.proofs.Common.{◌≡◌, ◌∙◌, ◌++◌, ◌∷◌, List, None, Ok, Option, Some, [], ap, append-nil, append_assoc, length, map, refl, subst, sym, take, ℕ}
use Rattle.std.proofs.lemmas.List.{map-append}
use Rattle.dispatch.specs.declared.device.Failed.{Failed}
use Rattle.dispatch.specs.Device.{AreGivenAfter, Gives, Takes, given_in}

pub takes_nothing : {A : Type 0} (taken : Option (List A)) → Takes taken taken []
takes_nothing {A = A} None = tt
takes_nothing {A = A} (Some sent) = sym (append-nil sent)

pub takes_more : {A : Type 0} (before mid after : Option (List A)) (sent more : List A) → Takes before mid sent → Takes mid after more → Takes before after (sent ++ more)
takes_more {A = A} before mid None sent more first second = tt
takes_more {A = A} before None (Some later) sent more first second = absurd second
takes_more {A = A} None (Some taken) (Some later) sent more first second = absurd first
takes_more {A = A} (Some earlier) (Some taken) (Some later) sent more first second =
    second ∙ ap (λ (all : List A). all ++ more) first ∙ append_assoc earlier sent more

pub gives_nothing : (room : ℕ) (coming : Option (List (List ℕ))) → Gives room coming coming []
gives_nothing room None = tt
gives_nothing room (Some coming) = ([], refl, refl)

pub gives_more : (room : ℕ) (before mid after : Option (List (List ℕ))) (given more : List (List ℕ)) → Gives room before mid given → Gives room mid after more
    → Gives room before after (given ++ more)
gives_more room None mid after given more first second = tt
gives_more room (Some coming) None after given more first second = absurd first
gives_more room (Some coming) (Some later) None given more first second = absurd second
gives_more room (Some coming) (Some later) (Some last) given more first second = (
  first.0 ++ second.0,
  first.1 ∙ ap (λ (rest : List (List ℕ)). first.0 ++ rest) second.1 ∙ sym (append_assoc first.0 second.0 last),
  ap (λ (g : List (List ℕ)). g ++ more) first.2 ∙ ap (λ (m : List (List ℕ)). map (take room) first.0 ++ m) second.2 ∙ sym (map-append (take room) first.0 second.0),
)

-- nothing was given, whatever the room
pub gives_nothing_to : (room other : ℕ) (before after : Option (List (List ℕ))) → Gives other before after [] → Gives room before after []
gives_nothing_to room other None after given = tt
gives_nothing_to room other (Some coming) None given = absurd given
gives_nothing_to room other (Some coming) (Some later) ([], whole, none) = ([], whole, refl)
gives_nothing_to room other (Some coming) (Some later) (first ∷ rest, whole, none) = cc

-- a datagram was received into a buffer of so much room
pub gives_one : (room : ℕ) (before after : Option (List (List ℕ))) (bytes packet : List ℕ) (size : ℕ) (answer : Option ℕ) → answer ≡ Some size
    → length bytes ≡ room → packet ≡ take size bytes → Gives (length bytes) before after (given_in {E = Failed} bytes (Ok answer)) → Gives room before after (packet ∷ [])
gives_one room before after bytes packet size answer some same is given =
    let cut = subst (λ (a : Option ℕ). Gives (length bytes) before after (given_in {E = Failed} bytes (Ok a))) some given in
    let roomy = subst (λ (n : ℕ). Gives n before after (take size bytes ∷ [])) same cut in
    subst (λ (p : List ℕ). Gives room before after (p ∷ [])) (sym is) roomy

-- nothing was received into a buffer
pub gives_none : (room : ℕ) (before after : Option (List (List ℕ))) (bytes : List ℕ) (answer : Option ℕ) → answer ≡ None
    → Gives (length bytes) before after (given_in {E = Failed} bytes (Ok answer)) → Gives room before after []
gives_none room before after bytes answer none given =
    gives_nothing_to room (length bytes) before after (subst (λ (a : Option ℕ). Gives (length bytes) before after (given_in {E = Failed} bytes (Ok a))) none given)

-- ---- the datagrams that were given

pub after_nothing : (room : ℕ) (given : Option (List (List ℕ))) → AreGivenAfter room given given []
after_nothing room None = tt
after_nothing room (Some given) = ([], sym (append-nil given), refl)

pub after_more : (room : ℕ) (before mid after : Option (List (List ℕ))) (first then : List (List ℕ)) → AreGivenAfter room before mid first → AreGivenAfter room mid after then
    → AreGivenAfter room before after (first ++ then)
after_more room None None None first then one two = tt
after_more room None None (Some last) first then one two = absurd two
after_more room None (Some later) after first then one two = absurd one
after_more room (Some earlier) None after first then one two = absurd one
after_more room (Some earlier) (Some later) None first then one two = absurd two
after_more room (Some earlier) (Some later) (Some last) first then one two = (
  one.0 ++ two.0,
  two.1 ∙ ap (λ (all : List (List ℕ)). all ++ two.0) one.1 ∙ append_assoc earlier one.0 two.0,
  ap (λ (g : List (List ℕ)). g ++ then) one.2 ∙ ap (λ (m : List (List ℕ)). map (take room) one.0 ++ m) two.2 ∙ sym (map-append (take room) one.0 two.0),
)

-- nothing was given, whatever the room
pub after_nothing_to : (room other : ℕ) (before after : Option (List (List ℕ))) → AreGivenAfter other before after [] → AreGivenAfter room before after []
after_nothing_to room other None None given = tt
after_nothing_to room other None (Some later) given = absurd given
after_nothing_to room other (Some earlier) None given = absurd given
after_nothing_to room other (Some earlier) (Some later) ([], whole, none) = ([], whole, refl)
after_nothing_to room other (Some earlier) (Some later) (first ∷ rest, whole, none) = cc

-- a datagram was received into a buffer of so much room
pub after_one : (room : ℕ) (before after : Option (List (List ℕ))) (bytes packet : List ℕ) (size : ℕ) (answer : Option ℕ) → answer ≡ Some size
    → length bytes ≡ room → packet ≡ take size bytes → AreGivenAfter (length bytes) before after (given_in {E = Failed} bytes (Ok answer))
    → AreGivenAfter room before after (packet ∷ [])
after_one room before after bytes packet size answer some same is given =
    let cut = subst (λ (a : Option ℕ). AreGivenAfter (length bytes) before after (given_in {E = Failed} bytes (Ok a))) some given in
    let roomy = subst (λ (n : ℕ). AreGivenAfter n before after (take size bytes ∷ [])) same cut in
    subst (λ (p : List ℕ). AreGivenAfter room before after (p ∷ [])) (sym is) roomy

-- nothing was received into a buffer
pub after_none : (room : ℕ) (before after : Option (List (List ℕ))) (bytes : List ℕ) (answer : Option ℕ) → answer ≡ None
    → AreGivenAfter (length bytes) before after (given_in {E = Failed} bytes (Ok answer)) → AreGivenAfter room before after []
after_none room before after bytes answer none given =
    after_nothing_to room (length bytes) before after (subst (λ (a : Option ℕ). AreGivenAfter (length bytes) before after (given_in {E = Failed} bytes (Ok a))) none given)
