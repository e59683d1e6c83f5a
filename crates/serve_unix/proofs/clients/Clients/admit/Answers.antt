use Rattle.std.proofs.Common.{[], arith, ◌∷◌, refl}
use Rattle.serve_unix.specs.Connections.{not_watched, watched}
use Rattle.serve_unix.specs.Places.{is_free, no_events, no_memory, no_place}
use Rattle.serve_unix.proofs.PlaceLemmas.{next_within, seated_now, turned_away_now, was_not_watched, was_watched, tells_nothing}
use Rattle.serve_unix.proofs.clients.Clients.admit.Goals as goal

pub returns-in_default : goal.returns-in_default
returns-in_default g c =
    turned_away_now g.S.Stream.log _ _ _ _ [] (g.S.Stream.log c.args.stream) (g.S.Stream.log c.args.stream) c.requires refl (tells_nothing (g.C.Connections.log c.args.connections.now))
    c.close.ensures.logged (no_place (g.S.Stream.log c.args.stream) c.in_default.ensures refl)

pub returns-then-not-watch : goal.returns-then-not-watch
returns-then-not-watch g c =
    turned_away_now g.S.Stream.log _ _ _ _ (not_watched c.in-Some.place ∷ []) _ _ c.requires c.watch.ensures.stream_kept
    (was_not_watched _ _ _ c.in-Some.place c.if-not-watch.true c.watch.ensures.logged) c.close-then-not-watch.ensures.logged
    (no_events c.in-Some.place _ c.in-Some.ensures refl)

pub returns-in_default-new : goal.returns-in_default-new
returns-in_default-new g c =
    turned_away_now g.S.Stream.log _ _ _ _ (watched c.in-Some.place ∷ []) _ _ c.requires c.watch.ensures.stream_kept
    (was_watched _ _ _ c.in-Some.place c.if-not-watch.false c.watch.ensures.logged) c.close-in_default-new.ensures.logged
    (no_memory c.in-Some.place _ c.in-Some.ensures refl)

pub put-requires : goal.put-requires
put-requires g c =
    let inside = next_within is_free c.args.self.now.places.items c.args.self.now.next c.in-Some.place c.in-Some.ensures in
    let all = c.args.self.now.of_places in let many = c.args.self.now.places.ok.0 in omega (arith, inside, all, many)

pub returns : goal.returns
returns g c =
    seated_now g.S.Stream.log _ _ _ _ _ c.in-Some.place c.watch.new.stream _ c.in-Ok.conversation c.in-Some.ensures c.requires c.watch.ensures.stream_kept c.if-not-watch.false
    c.watch.ensures.logged c.in-Ok.ensures c.put.ensures
