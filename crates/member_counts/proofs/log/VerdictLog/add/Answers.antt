use Rattle.std.proofs.Common.{◌≡◌, ◌<◌, ◌++◌, ◌∷◌, ◌∙◌, [], ap, arith, false, inl, sym}
use Rattle.member_counts.specs.Log.{Log, has_key}
use Rattle.member_counts.proofs.LogLemmas.{next-run}
use Rattle.member_counts.proofs.log.VerdictLog.add.Goals as goal

pub returns : goal.returns
returns c =
    let key = c.args.key in
    let counts = c.args.counts in
    let old = c.args.self.now in
    let room = c.requires.room in
    let room-there : 0 < old.room = omega (arith, room) in
    let other : has_key key old ≡ false = sym (c.add_again.ensures.again (inl room-there)) ∙ c.if-add_again.false in
    c.begin.ensures
    ∙ ap (λ (log : Log). record log { entries = log.entries ++ record { key = key; counts = counts } ∷ []; sent = c.args.sent; kept = key })
    (c.add_again.ensures.unchanged c.if-add_again.false)
    ∙ ap (λ entries. record old { entries = entries; sent = c.args.sent; kept = key }) (next-run key counts old.kept old.entries other)
