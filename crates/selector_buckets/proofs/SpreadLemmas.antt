-- The table of members with IDs and weights: it is whole, and they share it by weight.
use Rattle.std.proofs.Common.{◌≡◌, ◌∙◌, ◌<◌, ◌^◌, ◌≤◌, List, ap, arith, get_or, length, sym, ℕ, ⊎_elim}
use Rattle.std.specs.Prelude.{replicate, sum}
use Rattle.std.proofs.lemmas.Bool.{cases_lt}
use Rattle.std.proofs.lemmas.List.{get_or_past, length-map}
use Rattle.selector_buckets.specs.declared.share.Share.{Share}
use Rattle.selector_buckets.specs.Buckets.{IsTable}
use Rattle.selector_buckets.specs.Shares.{HasMembersOnly, IsShared, ids_of, quotas_of, share_of, weights_of}
use Rattle.selector_buckets.specs.Turns.{rounds, table_of}
use Rattle.selector_buckets.proofs.ShareLemmas.{all_given, quotas_near}
use Rattle.selector_buckets.proofs.TurnLemmas.{filled_long, filled_members, filled_shares}

pub length-quotas_of : (weights : List ℕ) (count : ℕ) → 0 < sum weights → length (quotas_of weights count) ≡ length weights
length-quotas_of weights count some = (quotas_near weights count some).each_quota

module _ (ids weights : List ℕ) (depth : ℕ) (each : length ids ≡ length weights) (few : length ids ≤ 64) (some : 0 < sum weights) where
  abbrev count : ℕ
  count = 2 ^ depth

  abbrev quotas : List ℕ
  quotas = quotas_of weights count

  abbrev table : List ℕ
  table = table_of ids weights count

  each_quota : length quotas ≡ length ids
  each_quota = length-quotas_of weights count some ∙ sym each

  whole : sum quotas ≡ count
  whole = all_given weights count some

  pub table_long : length table ≡ count
  table_long = filled_long ids quotas depth each_quota few whole

  pub table_members : HasMembersOnly (length weights) table
  table_members bucket inside = omega (arith, filled_members ids quotas depth each_quota few whole bucket (omega (arith, table_long)), each)

  pub table_shared : IsShared weights table
  table_shared member inside =
      let near = quotas_near weights count some in
      let has : share_of table member ≡ get_or quotas member 0 = filled_shares ids quotas depth each_quota few whole member (omega (arith, each)) in
      let long = table_long in
      rw (has, long) (near.not_many member inside, near.not_few member inside)

  pub table_bytes : (bucket : ℕ) → get_or table bucket 0 < 2 ^ 8
  table_bytes bucket = ⊎_elim
      (λ inside. omega (arith, filled_members ids quotas depth each_quota few whole bucket (omega (arith, table_long)), few))
      (λ past. rw (get_or_past table bucket 0 past) (omega arith)) (cases_lt bucket (length table))

-- ---- of members with IDs and weights

module _ (shares : List Share) (depth : ℕ) (few : length shares ≤ 64) (some : 0 < sum (weights_of shares)) where
  abbrev made : List ℕ
  made = table_of (ids_of shares) (weights_of shares) (2 ^ depth)

  ids_long : length (ids_of shares) ≡ length shares
  ids_long = length-map shares (λ share. share.id)

  weights_long : length (weights_of shares) ≡ length shares
  weights_long = length-map shares (λ share. share.weight)

  each_long : length (ids_of shares) ≡ length (weights_of shares)
  each_long = ids_long ∙ sym weights_long

  ids_few : length (ids_of shares) ≤ 64
  ids_few = omega (arith, ids_long)

  pub made_shared : IsShared (weights_of shares) made
  made_shared = table_shared (ids_of shares) (weights_of shares) depth each_long ids_few some

  pub made_members : HasMembersOnly (length shares) made
  made_members bucket inside = omega (arith, table_members (ids_of shares) (weights_of shares) depth each_long ids_few some bucket inside, weights_long)

  pub made_long : length made ≡ 2 ^ depth
  made_long = table_long (ids_of shares) (weights_of shares) depth each_long ids_few some

  pub made_table : depth ≤ 8 → IsTable (record { depth = depth; members = made })
  made_table limited = record { limited = limited; whole = made_long; bytes = table_bytes (ids_of shares) (weights_of shares) depth each_long ids_few some }

pub is_made : (shares : List Share) (depth count : ℕ) (ids weights quotas table : List ℕ) → count ≡ 2 ^ depth → ids ≡ ids_of shares → weights ≡ weights_of shares → quotas ≡ quotas_of weights count → table ≡ rounds ids quotas count (replicate count 255)
    → table ≡ table_of (ids_of shares) (weights_of shares) (2 ^ depth)
is_made shares depth count ids weights quotas table count_is ids_are weights_are quotas_are is =
    is
    ∙ (ap (λ i. rounds i quotas count (replicate count 255)) ids_are
    ∙ (ap (λ q. rounds (ids_of shares) q count (replicate count 255)) (quotas_are ∙ ap (λ w. quotas_of w count) weights_are)
    ∙ ap (λ n. rounds (ids_of shares) (quotas_of (weights_of shares) n) n (replicate n 255)) count_is))

pub each_made_long : (shares : List Share) (count : ℕ) (ids weights quotas : List ℕ) → 0 < sum (weights_of shares) → ids ≡ ids_of shares → weights ≡ weights_of shares → quotas ≡ quotas_of weights count → length quotas ≡ length ids
each_made_long shares count ids weights quotas some ids_are weights_are quotas_are =
    let there : 0 < sum weights = omega (arith, ap sum weights_are) in
    ap length quotas_are ∙ (length-quotas_of weights count there ∙ (ap length weights_are ∙ (length-map shares (λ share. share.weight) ∙ (sym (length-map shares (λ share. share.id)) ∙ ap length (sym ids_are)))))
