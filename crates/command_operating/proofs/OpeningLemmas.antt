-- What is read of a rules file is refused, or makes a configuration, as the whole file does.
use Rattle.std.proofs.Common.{◌≡◌, ◌∙◌, ◌<◌, ◌≤◌, ◌⊎◌, Err, List, None, Ok, Option, Result, Some, ap, arith, inl, inr, length, refl, subst, take, ℕ}
use Rattle.std.proofs.lemmas.Bool.{cases_lt}
use Rattle.std.proofs.lemmas.List.{length-take-le, take_all}
use Rattle.std.specs.Io.KnownBytes.{Appends}
use Rattle.std.specs.Prelude.{IfOk, option_map}
use Rattle.command_line.specs.Ending.{AppendsBeginning, line_of}
use Rattle.command_line.specs.Input.{IsInput}
use Rattle.command_line.specs.declared.ending.Failure.{Failure}
use Rattle.command_line.specs.declared.ending.Failure.TheVariants.{OutOfMemory, ReadFailed, WriteFailed}
use Rattle.config_image.specs.Image.{Group}
use Rattle.member_group.specs.Charge.{charge_of}
use Rattle.versions.specs.declared.layout.TheConstants.{CHARGE_LIMIT}
use Rattle.filter_program.specs.Program.{IsProgramFor}
use Rattle.control_line.specs.declared.TheConstants.{BLOCK_LIMIT}
use Rattle.control_line.specs.declared.reason.Reason.{Reason}
use Rattle.control_line.specs.declared.rules_file.RulesFault.TheVariants as fault
use Rattle.control_line.specs.Rules.{IsConfigOf, IsFaultOfFile, RefusesFileBy, bad_line, long, too_big}
use Rattle.control_line.proofs.ChangeLemmas.{charged_alike}
use Rattle.command_operating.specs.Opening.{EndsUnread, FailsUnread, IsMadeFrom, RefusesRules, file_refusal_text}
use Rattle.command_operating.specs.body.Reading.{IsReadOf}
use Rattle.command_operating.proofs.PrintingLemmas.{begins_text}

-- all of a list was taken, or a list that is too long, too
whole_or_long : (limit most : ℕ) (xs bytes : List ℕ) → limit < most → bytes ≡ take most xs
    → (bytes ≡ xs) ⊎ ((limit < length xs) × (limit < length bytes))
whole_or_long limit most xs bytes enough is = of_length (cases_lt limit (length xs))
  where
    of_most : (limit < length xs) → (most < length xs) ⊎ (length xs ≤ most) → limit < length bytes
    of_most over (inl more) = let all : length bytes ≡ most = ap length is ∙ length-take-le most xs (omega arith) in omega (arith, all)
    of_most over (inr fits) = let all : length bytes ≡ length xs = ap length (is ∙ take_all most xs fits) in omega (arith, all)

    of_length : (limit < length xs) ⊎ (length xs ≤ limit) → (bytes ≡ xs) ⊎ ((limit < length xs) × (limit < length bytes))
    of_length (inl over) = inr (over, of_most over (cases_lt most (length xs)))
    of_length (inr within) = inl (is ∙ take_all most xs (omega arith))

not_both : (a b : ℕ) → a < b → b ≤ a → ⊥
not_both a b less more = omega (arith, less, more)

module _ (xs bytes : List ℕ) (most : ℕ) (enough : BLOCK_LIMIT < most) (is : bytes ≡ take most xs) where
  made_whole : (config : List Group) → IsConfigOf bytes config → bytes ≡ xs
  made_whole config made = of_length (whole_or_long BLOCK_LIMIT most xs bytes enough is)
    where
      of_length : (bytes ≡ xs) ⊎ ((BLOCK_LIMIT < length xs) × (BLOCK_LIMIT < length bytes)) → bytes ≡ xs
      of_length (inl same) = same
      of_length (inr over) = absurd (not_both BLOCK_LIMIT (length bytes) over.1 made.1.short.bytes)

  refused_whole : (line : Option ℕ) (why : Reason) → RefusesFileBy IsProgramFor bytes line why → RefusesFileBy IsProgramFor xs line why
  refused_whole line why refused = of_length (whole_or_long BLOCK_LIMIT most xs bytes enough is)
    where
      of_refusal : (line : Option ℕ) (why : Reason) → (BLOCK_LIMIT < length xs) × (BLOCK_LIMIT < length bytes) → RefusesFileBy IsProgramFor bytes line why → RefusesFileBy IsProgramFor xs line why
      of_refusal line why over (long is_long) = long (λ short. not_both BLOCK_LIMIT (length xs) over.0 short.bytes)
      of_refusal line why over (bad_line number reason short first) = absurd (not_both BLOCK_LIMIT (length bytes) over.1 short.bytes)
      of_refusal line why over (too_big config short lead big) = absurd (not_both BLOCK_LIMIT (length bytes) over.1 short.bytes)

      of_length : (bytes ≡ xs) ⊎ ((BLOCK_LIMIT < length xs) × (BLOCK_LIMIT < length bytes)) → RefusesFileBy IsProgramFor xs line why
      of_length (inl same) = subst (λ (text : List ℕ). RefusesFileBy IsProgramFor text line why) same refused
      of_length (inr over) = of_refusal line why over refused

-- all of the input was read, if it makes a configuration
pub whole_of : (input : Option (List ℕ)) (bytes : List ℕ) → IsReadOf input bytes → (config : List Group) → IsConfigOf bytes config → IsInput input bytes
whole_of None bytes read config made = tt
whole_of (Some xs) bytes read config made = made_whole xs bytes read.most read.enough read.is_read config made

pub made_of : (input : Option (List ℕ)) (bytes : List ℕ) → IsReadOf input bytes → (config : List Group) → IsConfigOf bytes config → IsMadeFrom input config
made_of input bytes read config made = record { text = bytes; is_input = whole_of input bytes read config made; made = made }

pub refused_of : (input before after : Option (List ℕ)) (bytes : List ℕ) → IsReadOf input bytes
    → (line : Option ℕ) (why : Reason) → IsFaultOfFile bytes (fault.Refused line why) → Appends before after (file_refusal_text line why)
    → RefusesRules input before after
refused_of None before after bytes read line why refused written = record {
  text = bytes;
  line = line;
  why = why;
  is_input = tt;
  refused = refused;
  written = written;
}
refused_of (Some xs) before after bytes read line why refused written = record {
  text = xs;
  line = line;
  why = why;
  is_input = refl;
  refused = refused_whole xs bytes read.most read.enough read.is_read line why refused;
  written = written;
}

-- the charge of what a file makes
pub charge_within : (text : List ℕ) (config : List Group) → IsConfigOf text config → charge_of config ≤ CHARGE_LIMIT
charge_within text config made = let same = charged_alike made.0 config made.2 in let within = made.1.charge in omega (arith, same, within)

-- the first bytes of a file, more of them than a rules file may have if it has more
pub read_of : {X : Type 0} (items : X → List ℕ) (known : Option (List ℕ)) (most : ℕ) → BLOCK_LIMIT < most → (result : Result X Failure)
    → IfOk result (λ bytes. IsInput (option_map (take most) known) (items bytes)) → IfOk result (λ bytes. IsReadOf known (items bytes))
read_of items known most enough (Ok bytes) read = record { most = most; enough = enough; is_read = read }
read_of items known most enough (Err failure) read = tt

-- ---- there is no configuration

module _ (input before told_before told_after : Option (List ℕ)) where
  pub fails_reading : (failure : Failure) → (failure ≡ ReadFailed) ⊎ (failure ≡ OutOfMemory) → AppendsBeginning told_before told_after (line_of failure)
      → FailsUnread input before before told_before told_after failure
  fails_reading failure (inl is) told = record { cause = inl is; unwritten = λ other. refl; begun = λ again. absurd (cc); told = told }
  fails_reading failure (inr is) told = record { cause = inr (inl is); unwritten = λ other. refl; begun = λ again. absurd (cc); told = told }

  pub not_read : (failure : Failure) → (failure ≡ ReadFailed) ⊎ (failure ≡ OutOfMemory) → AppendsBeginning told_before told_after (line_of failure)
      → EndsUnread input before before told_before told_after
  not_read failure is told = (failure, fails_reading failure is told)

  -- the refusal of the bytes that were read could not be written
  module _ (bytes : List ℕ) (read : IsReadOf input bytes) (line : Option ℕ) (why : Reason) (refused : IsFaultOfFile bytes (fault.Refused line why))
      (after : Option (List ℕ)) where
    pub fails_refusing : AppendsBeginning before after (file_refusal_text line why) → AppendsBeginning told_before told_after (line_of WriteFailed)
        → FailsUnread input before after told_before told_after WriteFailed
    fails_refusing so_far told = record {
      cause = inr (inr refl);
      unwritten = λ other. absurd (other refl);
      begun = λ is. begins_text (RefusesRules input) before after (file_refusal_text line why) so_far
          (λ whole written. refused_of input before whole bytes read line why refused written);
      told = told;
    }

    pub not_written : AppendsBeginning before after (file_refusal_text line why) → AppendsBeginning told_before told_after (line_of WriteFailed)
        → EndsUnread input before after told_before told_after
    not_written so_far told = (WriteFailed, fails_refusing so_far told)
