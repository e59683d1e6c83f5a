-- The line that the program prints (docs/PERFORMANCE.md, "Sections in threads").
use Rattle.std.specs.Prelude.{◌++◌, ◌*◌, List, None, Option, Some, [], codes, decimal, ℕ}
use Rattle.std.specs.Io.KnownBytes.{Appends}
use Rattle.bench_threads.specs.declared.placing.Placing.{Placing}
use Rattle.bench_threads.specs.declared.placing.Placing.TheVariants.{SideBySide, Spread}
use Rattle.bench_threads.specs.declared.request.Request.{Request}

-- the word that asks for a placing
abbrev pub word_of : Placing → List ℕ
word_of Spread = codes "spread"
word_of SideBySide = codes "side-by-side"

abbrev pub time_text : Option ℕ → List ℕ
time_text None = []
time_text (Some nanoseconds) = codes " nanoseconds " ++ decimal nanoseconds

-- the threads, the placing, the sections of all threads and, if there is one, the time
abbrev pub line_text : Request → Option ℕ → List ℕ
line_text request nanoseconds =
    codes "threads " ++ decimal request.threads ++ codes " placing " ++ word_of request.placing
    ++ codes " sections " ++ decimal (request.threads * request.rounds) ++ time_text nanoseconds

-- that line was written, and nothing else
abbrev pub WritesLine : Request → Option ℕ → Option (List ℕ) → Option (List ℕ) → Type 0
WritesLine request nanoseconds before after = Appends before after (line_text request nanoseconds ++ codes "\n")
