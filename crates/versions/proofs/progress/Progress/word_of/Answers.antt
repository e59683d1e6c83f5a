use Rattle.std.proofs.Common.{subst, sym}
use Rattle.versions.specs.body.Mirror.{IsDecided}
use Rattle.versions.proofs.progress.Progress.word_of.Goals as goal

pub returns-in-Peek : goal.returns-in-Peek
returns-in-Peek g c = λ s reached room m proposed. subst (λ step. IsDecided s step c.peek_word.result) (sym c.in-Peek.is) (c.peek_word.ensures s reached room m)

pub returns-in-Announce : goal.returns-in-Announce
returns-in-Announce g c = λ s reached room m proposed. subst (λ step. IsDecided s step c.announce_word.result) (sym c.in-Announce.is) (c.announce_word.ensures s reached room m)

pub returns-in-Pin : goal.returns-in-Pin
returns-in-Pin g c = λ s reached room m proposed. subst (λ step. IsDecided s step c.pin_word.result) (sym c.in-Pin.is) (c.pin_word.ensures s reached room m)

pub returns-in-Fetch : goal.returns-in-Fetch
returns-in-Fetch g c = λ s reached room m proposed. subst (λ step. IsDecided s step c.fetch_word.result) (sym c.in-Fetch.is) (c.fetch_word.ensures s reached room m)

pub returns-in-Leave : goal.returns-in-Leave
returns-in-Leave g c = λ s reached room m proposed. subst (λ step. IsDecided s step c.leave_word.result) (sym c.in-Leave.is) (c.leave_word.ensures s reached room m)

pub returns-in-Fill : goal.returns-in-Fill
returns-in-Fill g c = λ s reached room m proposed. subst (λ step. IsDecided s step c.fill_word.result) (sym c.in-Fill.is) (c.fill_word.ensures s reached room m)

pub returns-in-Scan : goal.returns-in-Scan
returns-in-Scan g c = λ s reached room m proposed. subst (λ step. IsDecided s step c.scan_word.result) (sym c.in-Scan.is) (c.scan_word.ensures s reached room m)

pub returns-in-Publish : goal.returns-in-Publish
returns-in-Publish g c = λ s reached room m proposed. subst (λ step. IsDecided s step c.publish_word.result) (sym c.in-Publish.is) (c.publish_word.ensures s reached room m proposed)
