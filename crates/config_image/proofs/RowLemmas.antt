-- Rows: an image and then zeros.
use Rattle.std.proofs.Common.{◌≡◌, ◌∙◌, ◌+◌, ◌++◌, ◌-◌, ◌≤◌, List, ap, arith, length, length-append, replicate, take, ℕ}
use Rattle.std.proofs.Math.Seq.{take-append-add}
use Rattle.std.proofs.lemmas.List.{length-replicate, take-replicate}
use Rattle.member_group.specs.Charge.{charge_of}
use Rattle.member_group.specs.Group.{IsConfig}
use Rattle.config_image.specs.declared.TheConstants.{ROW_WORDS}
use Rattle.config_image.specs.Image.{Group, image, row}
use Rattle.config_image.specs.Lookup.{BeginsWithImage, RowHolds}
use Rattle.config_image.proofs.ImageLemmas.{length_word}
use Rattle.config_image.proofs.LengthLemmas.{within_charge}
use Rattle.config_image.proofs.LookupLemmas.{word_of_image}

pub row-padded : (config : List Group) → length (image config) ≤ ROW_WORDS → row config ≡ image config ++ replicate (ROW_WORDS - length (image config)) 0
unfolding row
row-padded config fits =
    let rest = ROW_WORDS - length (image config) in
    let split : ROW_WORDS ≡ length (image config) + rest = omega arith in
    ap (λ (n : ℕ). take n (image config ++ replicate ROW_WORDS 0)) split
    ∙ take-append-add (image config) (replicate ROW_WORDS 0) rest
    ∙ ap (λ (ws : List ℕ). image config ++ ws) (take-replicate rest ROW_WORDS 0 (omega arith))

pub row_holds : (config : List Group) → IsConfig config → charge_of config ≤ ROW_WORDS → RowHolds config
row_holds config is_config charged =
    let within = within_charge config is_config in
    let padded = row-padded config (omega arith) in
    let begins : BeginsWithImage (row config) config = record { is_config = is_config; rest = replicate (ROW_WORDS - length (image config)) 0; begins = padded } in
    let zeros = length-replicate {A = ℕ} (ROW_WORDS - length (image config)) 0 in
    record {
      padded = padded;
      whole = ap length padded ∙ length-append (image config) (replicate (ROW_WORDS - length (image config)) 0) ∙ omega arith;
      begins = begins;
      length_word = word_of_image (row config) config begins 0 (length (image config)) (length_word config);
    }
