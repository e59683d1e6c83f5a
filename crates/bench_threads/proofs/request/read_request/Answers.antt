use Rattle.std.proofs.Common.{◌≡◌, ◌∙◌, List, codes, map, string_bytes, sym, true, ℕ, rules}
use Rattle.bench_threads.proofs.RequestLemmas.{four_words, request_exact}
use Rattle.bench_threads.proofs.request.read_request.Goals as goal

pub returns-in-len4 : goal.returns-in-len4
returns-in-len4 c =
    let words = c.args.words.now in let found = c.request_of-in-len4.ensures in
    let four = four_words string_bytes words c.threads-item-then-words-lt5.result c.rounds-item-then-words-lt5.result c.placing-item-then-words-lt5.result c.time-item.result
    c.in-len4.len_at_least c.in-len4.len_below c.threads-item-then-words-lt5.is c.rounds-item-then-words-lt5.is c.placing-item-then-words-lt5.is c.time-item.is in
    let threads : List ℕ = c.as_str-in-len4.result.now in let threads_is = c.as_str-in-len4.ensures.value in
    let rounds : List ℕ = c.as_str-in-len4-2.result.now in let rounds_is = c.as_str-in-len4-2.ensures.value in
    let placing : List ℕ = c.as_str-in-len4-3.result.now in let placing_is = c.as_str-in-len4-3.ensures.value in
    let asked : string_bytes c.time-item.result ≡ codes "--time" = sym c.as_str-then-words-lt5.ensures.value ∙ c.asks_for_time.ensures.0 (search rules) in
    request_exact (map string_bytes words) threads rounds placing true c.request_of-in-len4.result (cc) found.request found.timed
