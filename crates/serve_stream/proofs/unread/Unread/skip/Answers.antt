use Rattle.std.proofs.Common.{◌+◌, ◌∙◌, ap, drop, sym, take}
use Rattle.std.proofs.lemmas.List.{drop-drop}
use Rattle.std.proofs.lemmas.Slice.{between_is}
use Rattle.serve_stream.proofs.unread.Unread.skip.Goals as goal

pub returns : goal.returns
returns c =
    let unread = c.self.inside in
    between_is unread.room.items (unread.next + c.args.count) unread.end
    ∙ (sym (drop-drop c.args.count unread.next (take unread.end unread.room.items)) ∙ ap (drop c.args.count) (sym (between_is unread.room.items unread.next unread.end) ∙ c.self.view_is))
