use Rattle.std.proofs.Common.{◌+◌, ◌∙◌, ap, arith, map, rules, subst, sym, set}
use Rattle.config_image.specs.PageTable.{page_of}
use Rattle.config_image.specs.Pooled.{pages_of}
use Rattle.versions.proofs.FormLemmas.{pages_in_row}
use Rattle.versions.specs.declared.step.Step.TheVariants.{Announce, Fetch, Leave, Peek, Pin}
use Rattle.versions.specs.State.{after_step}
use Rattle.versions.specs.Legal.{IsLegalStep}
use Rattle.versions.specs.Book.{with_version_in}
use Rattle.versions.specs.body.Mirror.{IsMirror, moved}
use Rattle.versions.specs.Table.{the_shape}
use Rattle.versions.proofs.FollowLemmas.{fill_below, follows_announce, follows_fetch, follows_fill, follows_leave, follows_peek, follows_pin, follows_publish, follows_scan, publish_below, published_pages, worker_below}
use Rattle.versions.proofs.progress.Progress.take.Goals as goal

pub move_worker-requires : goal.move_worker-requires
move_worker-requires g c = let t = c.requires.legal in let a = c.in-Peek in let legal = subst (λ step. IsLegalStep the_shape t.0 step c.args.word) a.is t.3 in
    worker_below t.0 t.1 c.args.words.now c.args.self.now t.2 a.worker (Peek a.worker) c.args.word legal.0

pub read_word_place-requires : goal.read_word_place-requires
read_word_place-requires g c = let t = c.requires.legal in let a = c.in-Announce in
    worker_below t.0 t.1 c.args.words.now c.args.self.now t.2 a.worker (Announce a.worker) c.args.word (subst (λ step. IsLegalStep the_shape t.0 step c.args.word) a.is t.3)

pub offset_bounds-words-read_word_place : goal.offset_bounds-words-read_word_place
offset_bounds-words-read_word_place g c = let t = c.requires.legal in let a = c.in-Announce in
    let low = worker_below t.0 t.1 c.args.words.now c.args.self.now t.2 a.worker (Announce a.worker) c.args.word (subst (λ step. IsLegalStep the_shape t.0 step c.args.word) a.is t.3) in let at = c.read_word_place.ensures in omega (arith, c.requires.table)

pub bounds-words-read_word_place : goal.bounds-words-read_word_place
bounds-words-read_word_place g c = let t = c.requires.legal in let a = c.in-Announce in
    let low = worker_below t.0 t.1 c.args.words.now c.args.self.now t.2 a.worker (Announce a.worker) c.args.word (subst (λ step. IsLegalStep the_shape t.0 step c.args.word) a.is t.3) in let at = c.read_word_place.ensures in omega (arith, c.requires.table)

pub move_worker-requires-in-Announce : goal.move_worker-requires-in-Announce
move_worker-requires-in-Announce g c = let t = c.requires.legal in let a = c.in-Announce in
    worker_below t.0 t.1 c.args.words.now c.args.self.now t.2 a.worker (Announce a.worker) c.args.word (subst (λ step. IsLegalStep the_shape t.0 step c.args.word) a.is t.3)

pub move_worker-requires-in-Pin : goal.move_worker-requires-in-Pin
move_worker-requires-in-Pin g c = let t = c.requires.legal in let a = c.in-Pin in let legal = subst (λ step. IsLegalStep the_shape t.0 step c.args.word) a.is t.3 in
    worker_below t.0 t.1 c.args.words.now c.args.self.now t.2 a.worker (Pin a.worker) c.args.word legal.0

pub offset_bounds-words-place : goal.offset_bounds-words-place
offset_bounds-words-place g c = let t = c.requires.legal in let low = fill_below t.0 t.1 c.args.words.now c.args.self.now t.2 c.in-Fill.place c.in-Fill.word c.args.word (subst (λ step. IsLegalStep the_shape t.0 step c.args.word) c.in-Fill.is t.3) in search (rules, low)

pub bounds-words-place : goal.bounds-words-place
bounds-words-place g c = let t = c.requires.legal in let low = fill_below t.0 t.1 c.args.words.now c.args.self.now t.2 c.in-Fill.place c.in-Fill.word c.args.word (subst (λ step. IsLegalStep the_shape t.0 step c.args.word) c.in-Fill.is t.3) in omega (arith, c.requires.table)

pub count_version-requires-clause-number : goal.count_version-requires-clause-number
count_version-requires-clause-number g c = let t = c.requires.legal in (publish_below t.0 t.1 c.args.words.now c.args.self.now t.2 c.in-Publish.row c.args.word (subst (λ step. IsLegalStep the_shape t.0 step c.args.word) c.in-Publish.is t.3)).1

pub count_version-requires-clause-pages : goal.count_version-requires-clause-pages
count_version-requires-clause-pages g c = let t = c.requires.legal in
    published_pages t.0 t.1 c.args.words.now c.args.self.now t.2 c.in-Publish.row c.args.word _ (c.row_names.ensures.pages ∙ ap pages_of c.row_of.ensures.words ∙ sym (pages_in_row c.args.words.now c.in-Publish.row))
    (subst (λ step. IsLegalStep the_shape t.0 step c.args.word) c.in-Publish.is t.3)

pub move_worker-requires-in-Fetch : goal.move_worker-requires-in-Fetch
move_worker-requires-in-Fetch g c = let t = c.requires.legal in let a = c.in-Fetch in let legal = subst (λ step. IsLegalStep the_shape t.0 step c.args.word) a.is t.3 in
    worker_below t.0 t.1 c.args.words.now c.args.self.now t.2 a.worker (Fetch a.worker a.place) c.args.word legal.0

pub read_word_place-requires-in-Leave : goal.read_word_place-requires-in-Leave
read_word_place-requires-in-Leave g c = let t = c.requires.legal in let a = c.in-Leave in
    worker_below t.0 t.1 c.args.words.now c.args.self.now t.2 a.worker (Leave a.worker) c.args.word (subst (λ step. IsLegalStep the_shape t.0 step c.args.word) a.is t.3)

pub offset_bounds-words-read_word_place-in-Leave : goal.offset_bounds-words-read_word_place-in-Leave
offset_bounds-words-read_word_place-in-Leave g c = let t = c.requires.legal in let a = c.in-Leave in
    let low = worker_below t.0 t.1 c.args.words.now c.args.self.now t.2 a.worker (Leave a.worker) c.args.word (subst (λ step. IsLegalStep the_shape t.0 step c.args.word) a.is t.3) in let at = c.read_word_place-in-Leave.ensures in omega (arith, c.requires.table)

pub bounds-words-read_word_place-in-Leave : goal.bounds-words-read_word_place-in-Leave
bounds-words-read_word_place-in-Leave g c = let t = c.requires.legal in let a = c.in-Leave in
    let low = worker_below t.0 t.1 c.args.words.now c.args.self.now t.2 a.worker (Leave a.worker) c.args.word (subst (λ step. IsLegalStep the_shape t.0 step c.args.word) a.is t.3) in let at = c.read_word_place-in-Leave.ensures in omega (arith, c.requires.table)

pub move_worker-requires-in-Leave : goal.move_worker-requires-in-Leave
move_worker-requires-in-Leave g c = let t = c.requires.legal in let a = c.in-Leave in
    worker_below t.0 t.1 c.args.words.now c.args.self.now t.2 a.worker (Leave a.worker) c.args.word (subst (λ step. IsLegalStep the_shape t.0 step c.args.word) a.is t.3)

pub returns-in-Peek : goal.returns-in-Peek
returns-in-Peek g c = λ s reached m legal. let a = c.in-Peek in
    subst (λ progress. IsMirror the_shape (after_step the_shape s c.args.step c.args.word) c.args.words.now progress) (sym c.move_worker.ensures)
    (subst (λ step. IsLegalStep the_shape s step c.args.word → IsMirror the_shape (after_step the_shape s step c.args.word) c.args.words.now (moved a.worker (Peek a.worker) c.args.word c.args.self.now)) (sym a.is)
    (follows_peek s reached c.args.words.now c.args.self.now m a.worker c.args.word) legal)

pub returns-in-Announce : goal.returns-in-Announce
returns-in-Announce g c = λ s reached m legal. let a = c.in-Announce in
    rw c.read_word_place.ensures
    (subst (λ progress. IsMirror the_shape (after_step the_shape s c.args.step c.args.word) (set c.args.words.now (1 + a.worker) c.args.word) progress) (sym c.move_worker-in-Announce.ensures)
    (subst (λ step. IsLegalStep the_shape s step c.args.word → IsMirror the_shape (after_step the_shape s step c.args.word) (set c.args.words.now (1 + a.worker) c.args.word) (moved a.worker (Announce a.worker) c.args.word c.args.self.now)) (sym a.is)
    (follows_announce s reached c.args.words.now c.args.self.now m a.worker c.args.word) legal))

pub returns-in-Pin : goal.returns-in-Pin
returns-in-Pin g c = λ s reached m legal. let a = c.in-Pin in
    subst (λ progress. IsMirror the_shape (after_step the_shape s c.args.step c.args.word) c.args.words.now progress) (sym c.move_worker-in-Pin.ensures)
    (subst (λ step. IsLegalStep the_shape s step c.args.word → IsMirror the_shape (after_step the_shape s step c.args.word) c.args.words.now (moved a.worker (Pin a.worker) c.args.word c.args.self.now)) (sym a.is)
    (follows_pin s reached c.args.words.now c.args.self.now m a.worker c.args.word) legal)

pub returns-in-Fetch : goal.returns-in-Fetch
returns-in-Fetch g c = λ s reached m legal. let a = c.in-Fetch in
    subst (λ progress. IsMirror the_shape (after_step the_shape s c.args.step c.args.word) c.args.words.now progress) (sym c.move_worker-in-Fetch.ensures)
    (subst (λ step. IsLegalStep the_shape s step c.args.word → IsMirror the_shape (after_step the_shape s step c.args.word) c.args.words.now (moved a.worker (Fetch a.worker a.place) c.args.word c.args.self.now)) (sym a.is)
    (follows_fetch s reached c.args.words.now c.args.self.now m a.worker a.place c.args.word) legal)

pub returns-in-Leave : goal.returns-in-Leave
returns-in-Leave g c = λ s reached m legal. let a = c.in-Leave in
    rw c.read_word_place-in-Leave.ensures
    (subst (λ progress. IsMirror the_shape (after_step the_shape s c.args.step c.args.word) (set c.args.words.now (1 + a.worker) c.args.word) progress) (sym c.move_worker-in-Leave.ensures)
    (subst (λ step. IsLegalStep the_shape s step c.args.word → IsMirror the_shape (after_step the_shape s step c.args.word) (set c.args.words.now (1 + a.worker) c.args.word) (moved a.worker (Leave a.worker) c.args.word c.args.self.now)) (sym a.is)
    (follows_leave s reached c.args.words.now c.args.self.now m a.worker c.args.word) legal))

pub returns-in-Fill : goal.returns-in-Fill
returns-in-Fill g c = λ s reached m legal. let a = c.in-Fill in
    subst (λ step. IsLegalStep the_shape s step c.args.word → IsMirror the_shape (after_step the_shape s step c.args.word) (set c.args.words.now a.place c.args.word) c.args.self.now) (sym a.is)
    (follows_fill s reached c.args.words.now c.args.self.now m a.place a.word c.args.word) legal

pub returns-in-Publish : goal.returns-in-Publish
returns-in-Publish g c = λ s reached m legal. let a = c.in-Publish in
    subst (λ book. IsMirror the_shape (after_step the_shape s c.args.step c.args.word) (set c.args.words.now 0 c.args.word) (record c.args.self.now { book = book })) (sym c.count_version.ensures.counted)
    (subst (λ step. IsLegalStep the_shape s step c.args.word → IsMirror the_shape (after_step the_shape s step c.args.word) (set c.args.words.now 0 c.args.word) (record c.args.self.now { book = with_version_in a.row (map page_of c.row_names.result.now) c.args.self.now.book })) (sym a.is)
    (follows_publish s reached c.args.words.now c.args.self.now m a.row c.args.word _ (c.row_names.ensures.pages ∙ ap pages_of c.row_of.ensures.words ∙ sym (pages_in_row c.args.words.now a.row))) legal)

pub returns-in-Scan : goal.returns-in-Scan
returns-in-Scan g c = λ s reached m legal. let a = c.in-Scan in
    subst (λ step. IsLegalStep the_shape s step c.args.word → IsMirror the_shape (after_step the_shape s step c.args.word) c.args.words.now (record c.args.self.now { book = c.take_scan.new.self })) (sym a.is)
    (follows_scan s reached c.args.words.now c.args.self.now m a.place c.args.word c.take_scan.new.self c.take_scan.ensures.cleared) legal
