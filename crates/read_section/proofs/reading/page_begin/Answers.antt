use Rattle.std.proofs.Common.{arith}
use Rattle.config_image.specs.PageTable.{page_of}
use Rattle.read_section.proofs.WorkerSeatLemmas.{page_place_is}
use Rattle.read_section.proofs.reading.page_begin.Goals as goal

pub returns : goal.returns
returns c = let e = c.page.ensures.page in let at = c.page_place.ensures in let p = page_place_is (page_of c.args.entry.0) 0 in omega arith
