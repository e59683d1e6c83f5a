-- Replies that wait to be written together.
use Rattle.std.proofs.Common.{◌≡◌, ◌∙◌, ◌++◌, List, Option, [], ap, append_assoc, append-nil, refl, subst, sym, ℕ}
use Rattle.std.proofs.KnownBytes.{Appends-nil, Appends-trans}
use Rattle.std.specs.Io.KnownBytes.{Appends}
use Rattle.control.specs.Replay.{WasWritten}
use Rattle.control.specs.body.Waiting.{WritesAllBut}
use Rattle.control.proofs.WritingLemmas.{written_more}

pub waits_none : (known : Option (List ℕ)) → WritesAllBut [] known known []
waits_none known = record { told = []; is = refl; written = Appends-nil known }

-- where nothing waits all is written
pub told_all : (before after : Option (List ℕ)) (text : List ℕ) → WritesAllBut [] before after text → Appends before after text
told_all before after text w = subst (Appends before after) (sym (w.is ∙ append-nil w.told)) w.written

-- more behind what waits, of which a beginning may be written
pub waits_more : (start mid after : Option (List ℕ)) (text waiting waiting' more : List ℕ) → WritesAllBut waiting start mid text → WritesAllBut waiting' mid after (waiting ++ more)
    → WritesAllBut waiting' start after (text ++ more)
waits_more start mid after text waiting waiting' more a b = record {
  told = a.told ++ b.told;
  is = ap (λ front. front ++ more) a.is ∙ (append_assoc a.told waiting more ∙ (ap (λ rest. a.told ++ rest) b.is ∙ sym (append_assoc a.told b.told waiting')));
  written = Appends-trans start mid after a.told b.told a.written b.written;
}

-- what waits is written
pub waits_no_more : (start mid after : Option (List ℕ)) (text waiting : List ℕ) → WritesAllBut waiting start mid text → Appends mid after waiting → WritesAllBut [] start after text
waits_no_more start mid after text waiting a all = record {
  told = a.told ++ waiting;
  is = a.is ∙ sym (append-nil (a.told ++ waiting));
  written = Appends-trans start mid after a.told waiting a.written all;
}

-- of more behind what waits a beginning is
pub cut_is : (start mid : Option (List ℕ)) (text waiting more told untold : List ℕ) → (a : WritesAllBut waiting start mid text) → waiting ++ more ≡ told ++ untold → text ++ more ≡ (a.told ++ told) ++ untold
cut_is start mid text waiting more told untold a is =
    ap (λ front. front ++ more) a.is ∙ (append_assoc a.told waiting more ∙ (ap (λ rest. a.told ++ rest) is ∙ sym (append_assoc a.told told untold)))

pub cut_written : (failures : ℕ) (start mid after : Option (List ℕ)) (text waiting told : List ℕ) → (a : WritesAllBut waiting start mid text) → WasWritten failures mid after told
    → WasWritten failures start after (a.told ++ told)
cut_written failures start mid after text waiting told a was = written_more failures start mid after a.told told a.written was
