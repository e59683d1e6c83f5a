use Rattle.std.proofs.Common.{refl}
use Rattle.serve_unix.proofs.client.Client.turn.Goals as goal

pub returns : goal.returns
returns g c = record {
  conversation = c.turn-turn.new.self;
  between = c.turn-turn.new.answers;
  made = c.turn-turn.ensures;
  noted = c.note_if_unheld.ensures;
  kept = c.note_unheld.ensures;
  number = refl;
  is_active = c.active_after-self.ensures;
}
