use Rattle.std.proofs.Common.{◌<◌, IfOk, Some, arith, option_map, subst, ℕ}
use Rattle.command_line.specs.Input.{IsInput}
use Rattle.control_line.specs.declared.TheConstants.{BLOCK_LIMIT}
use Rattle.command_operating.specs.Files.{first_bytes}
use Rattle.command_operating.proofs.OpeningLemmas.{read_of}
use Rattle.command_operating.proofs.rules_file.read_text.Goals as goal

pub returns-clause-text : goal.returns-clause-text
returns-clause-text g c =
    let most = c.most_read.ensures in
    let enough : BLOCK_LIMIT < c.most_read.result = omega (arith, most) in
    read_of (λ text. text.items) (g.F.ReadFiles.contents c.args.files.now c.args.name.now) c.most_read.result enough c.read.result c.read.ensures.bytes

pub returns-clause-most : goal.returns-clause-most
returns-clause-most g c =
    subst (λ (most : ℕ). IfOk c.read.result (λ text. IsInput (option_map (first_bytes (Some most)) (g.F.ReadFiles.contents c.args.files.now c.args.name.now)) text.items))
    c.most_read.ensures c.read.ensures.bytes
