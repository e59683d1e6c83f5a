-- Plain words: what follows of their instructions, by what plain.rt has for their code.
use Rattle.std.proofs.Common.{◌≡◌, ◌*◌, ◌+◌, ◌/◌, ◌%◌, ◌^◌, ◌<◌, ◌∙◌, None, ap, arith, bit_and, bit_or, refl, subst, sym, true, ℕ}
use Rattle.std.specs.Prelude.{nat_lt}
use Rattle.std.specs.Int.{bit_at}
use Rattle.std.specs.Int.Bits.{or_zero_r}
use Rattle.std.proofs.Math.Pow.{pow-lt}
use Rattle.std.proofs.lemmas.Nat.{and_mask}
use Rattle.std.proofs.lemmas.Bool.{lt-ltb}
use Rattle.bpf_insn.specs.declared.instruction.Insn.{Insn}
use Rattle.bpf_insn.specs.declared.instruction.Insn.TheVariants.{Alu, Jump, JumpIf, LoadAbsolute, LoadCell, LoadXCell, ReturnA, ReturnConstant, Store, StoreX}
use Rattle.bpf_insn.specs.declared.instruction.Operation.{Operation}
use Rattle.bpf_insn.specs.declared.instruction.Operation.TheVariants.{Div, Lsh, Mod, Rsh}
use Rattle.bpf_insn.specs.declared.instruction.Operand.TheVariants.{K, X}
use Rattle.bpf_insn.specs.declared.instruction.Size.{Size}
use Rattle.bpf_insn.specs.Table.{Uses, instruction_with, unused_sum, uses_constant, uses_none}
use Rattle.bpf_insn.specs.Word.{constant_of, false_jump_of, true_jump_of}
use Rattle.bpf_verify.specs.declared.plain.Plain.{Plain}
use Rattle.bpf_verify.specs.declared.plain.TheConstants.{PLACE, ANY, LOAD, NONE, SHIFT, STORE, ZERO}
use Rattle.bpf_verify.specs.Accepted.{instruction_fault}
use Rattle.bpf_verify.specs.body.Plain.{GoesOn}

-- ---- instructions that do nothing with cells, and have no fault whatever their fields are

abbrev pub QuietOperation : Operation → Type 0
QuietOperation Div = ⊥
QuietOperation Mod = ⊥
QuietOperation Lsh = ⊥
QuietOperation Rsh = ⊥
QuietOperation _ = Unit {0}

abbrev pub IsQuiet : Insn → Type 0
IsQuiet (LoadAbsolute size k) = ⊥
IsQuiet (LoadCell k) = ⊥
IsQuiet (LoadXCell k) = ⊥
IsQuiet (Store k) = ⊥
IsQuiet (StoreX k) = ⊥
IsQuiet (Alu operation (K k)) = QuietOperation operation
IsQuiet (Jump k) = ⊥
IsQuiet (JumpIf test operand offsets) = ⊥
IsQuiet (ReturnConstant k) = ⊥
IsQuiet ReturnA = ⊥
IsQuiet _ = Unit {0}

quiet_goes_on : (insn : Insn) (before : ℕ) → IsQuiet insn → GoesOn insn before before
quiet_goes_on (LoadAbsolute size k) before never = absurd never
quiet_goes_on (LoadCell k) before never = absurd never
quiet_goes_on (LoadXCell k) before never = absurd never
quiet_goes_on (Store k) before never = absurd never
quiet_goes_on (StoreX k) before never = absurd never
quiet_goes_on (Alu Div (K k)) before never = absurd never
quiet_goes_on (Alu Mod (K k)) before never = absurd never
quiet_goes_on (Alu Lsh (K k)) before never = absurd never
quiet_goes_on (Alu Rsh (K k)) before never = absurd never
quiet_goes_on (Jump k) before never = absurd never
quiet_goes_on (JumpIf test operand offsets) before never = absurd never
quiet_goes_on (ReturnConstant k) before never = absurd never
quiet_goes_on ReturnA before never = absurd never
quiet_goes_on (Alu operation (K k)) before quiet =
    record { faultless = λ len pc. refl; goes_on = λ pc. refl; no_return = λ returns. returns; finds = tt; leaves = refl }
quiet_goes_on (Alu operation X) before quiet =
    record { faultless = λ len pc. refl; goes_on = λ pc. refl; no_return = λ returns. returns; finds = tt; leaves = refl }
quiet_goes_on _ before quiet =
    record { faultless = λ len pc. refl; goes_on = λ pc. refl; no_return = λ returns. returns; finds = tt; leaves = refl }

-- ---- the fields of a word below a limit

module _ (w : ℕ) where
  no_offsets : w % 2 ^ 48 < 2 ^ 32 → true_jump_of w + false_jump_of w ≡ 0
  no_offsets below = omega arith

  no_fields : w % 2 ^ 48 < 1 → true_jump_of w + false_jump_of w + constant_of w ≡ 0
  no_fields below = omega arith

  constant_below : (n : ℕ) → n < 2 ^ 32 → w % 2 ^ 48 < n → constant_of w < n
  constant_below n fits below = omega arith

  small_constant : w % 2 ^ 48 < 16 → w % 16 ≡ constant_of w
  small_constant below = omega arith

-- ---- the sets of cells, by a mark that is 0 or 1

abbrev pub after_mark : ℕ → ℕ → ℕ → ℕ
after_mark before mark k = bit_or before (mark * 2 ^ k % 65536)

none_stored : (before k : ℕ) → before ≡ after_mark before 0 k
none_stored before k =
    let nothing : 0 * 2 ^ k % 65536 ≡ 0 = omega arith in
    sym (ap (λ mark. bit_or before mark) nothing ∙ or_zero_r before)

one_stored : (before k : ℕ) → k < 16 → after_mark before 1 k ≡ bit_or before (2 ^ k)
one_stored before k small =
    let fits : 2 ^ k < 2 ^ 16 = pow-lt small in
    let same : 1 * 2 ^ k % 65536 ≡ 2 ^ k = omega arith in
    ap (λ mark. bit_or before mark) same

goes_on_with : (insn : Insn) (before k : ℕ) → GoesOn insn before before → GoesOn insn before (after_mark before 0 k)
goes_on_with insn before k goes = subst (λ after. GoesOn insn before after) (none_stored before k) goes

-- ---- the entries of both tables

abbrev pub Says : Uses → Plain → ℕ → ℕ → Type 0
Says uses plain w before =
    (unused_sum uses (true_jump_of w) (false_jump_of w) (constant_of w) ≡ 0)
    × GoesOn (instruction_with uses (true_jump_of w) (false_jump_of w) (constant_of w)) before (after_mark before plain.stores (w % 16))

-- a word of the entry whose fields are below the limit uses no other field, and its instruction goes on
pub record Holds (uses : Uses) (plain : Plain) : Type 0 where
  pub says : (w before : ℕ) → w % 2 ^ 48 < plain.limit → bit_and (before / 2 ^ (w % 16)) plain.loads ≡ plain.loads → Says uses plain w before

pub never : (uses : Uses) → Holds uses NONE
never uses = record { says = λ w before below found. absurd (omega arith) }

pub nothing : (insn : Insn) → IsQuiet insn → Holds (uses_none insn) ZERO
nothing insn quiet = record {
  says = λ w before below found.
      (no_fields w below, goes_on_with insn before (w % 16) (quiet_goes_on insn before quiet));
}

pub any : (insn : ℕ → Insn) → ((k : ℕ) → IsQuiet (insn k)) → Holds (uses_constant insn) ANY
any insn quiet = record {
  says = λ w before below found.
      (no_offsets w below, goes_on_with (insn (constant_of w)) before (w % 16) (quiet_goes_on (insn (constant_of w)) before (quiet (constant_of w))));
}

pub absolute : (size : Size) → Holds (uses_constant (λ k. LoadAbsolute size k)) PLACE
absolute size = record {
  says = λ w before below found.
      let small : nat_lt (constant_of w) 2147483648 ≡ true = lt-ltb (constant_of w) 2147483648 (omega arith) in (
        no_offsets w (omega arith),
        goes_on_with (LoadAbsolute size (constant_of w)) before (w % 16) (record {
          faultless = λ len pc. rw small refl;
          goes_on = λ pc. refl;
          no_return = λ returns. returns;
          finds = tt;
          leaves = refl;
        }),
      );
}

shift_holds : (operation : Operation) (w : ℕ) → ((k len pc : ℕ) → nat_lt k 32 ≡ true → instruction_fault len pc (Alu operation (K k)) ≡ None) → (before : ℕ) → w % 2 ^ 48 < 32 → GoesOn (Alu operation (K (constant_of w))) before before
shift_holds operation w faultless before below =
    let small : nat_lt (constant_of w) 32 ≡ true = lt-ltb (constant_of w) 32 (constant_below w 32 (omega arith) below) in
    record {
      faultless = λ len pc. faultless (constant_of w) len pc small;
      goes_on = λ pc. refl;
      no_return = λ returns. returns;
      finds = tt;
      leaves = refl;
    }

pub left : Holds (uses_constant (λ k. Alu Lsh (K k))) SHIFT
left = record {
  says = λ w before below found. (
    no_offsets w (omega arith),
    goes_on_with (Alu Lsh (K (constant_of w))) before (w % 16) (shift_holds Lsh w (λ k len pc small. rw small refl) before below),
  );
}

pub right : Holds (uses_constant (λ k. Alu Rsh (K k))) SHIFT
right = record {
  says = λ w before below found. (
    no_offsets w (omega arith),
    goes_on_with (Alu Rsh (K (constant_of w))) before (w % 16) (shift_holds Rsh w (λ k len pc small. rw small refl) before below),
  );
}

-- a cell that is loaded is in the set before
found_cell : (w before : ℕ) → w % 2 ^ 48 < 16 → bit_and (before / 2 ^ (w % 16)) 1 ≡ 1 → bit_at before (constant_of w) ≡ 1
found_cell w before below found =
    let bit : bit_at before (w % 16) ≡ 1 = sym (and_mask (before / 2 ^ (w % 16)) 1) ∙ found in
    subst (λ k. bit_at before k ≡ 1) (small_constant w below) bit

cell_below : (w : ℕ) → w % 2 ^ 48 < 16 → nat_lt (constant_of w) 16 ≡ true
cell_below w below = lt-ltb (constant_of w) 16 (constant_below w 16 (omega arith) below)

pub load : Holds (uses_constant (λ k. LoadCell k)) LOAD
load = record {
  says = λ w before below found.
      let small = cell_below w below in (
        no_offsets w (omega arith),
        goes_on_with (LoadCell (constant_of w)) before (w % 16) (record {
          faultless = λ len pc. rw small refl;
          goes_on = λ pc. refl;
          no_return = λ returns. returns;
          finds = found_cell w before below found;
          leaves = refl;
        }),
      );
}

pub load_x : Holds (uses_constant (λ k. LoadXCell k)) LOAD
load_x = record {
  says = λ w before below found.
      let small = cell_below w below in (
        no_offsets w (omega arith),
        goes_on_with (LoadXCell (constant_of w)) before (w % 16) (record {
          faultless = λ len pc. rw small refl;
          goes_on = λ pc. refl;
          no_return = λ returns. returns;
          finds = found_cell w before below found;
          leaves = refl;
        }),
      );
}

stored_cell : (w before : ℕ) → w % 2 ^ 48 < 16 → after_mark before 1 (w % 16) ≡ bit_or before (2 ^ constant_of w)
stored_cell w before below =
    one_stored before (w % 16) (omega arith) ∙ ap (λ k. bit_or before (2 ^ k)) (small_constant w below)

pub store : Holds (uses_constant (λ k. Store k)) STORE
store = record {
  says = λ w before below found.
      let small = cell_below w below in (
        no_offsets w (omega arith),
        record {
          faultless = λ len pc. rw small refl;
          goes_on = λ pc. refl;
          no_return = λ returns. returns;
          finds = tt;
          leaves = stored_cell w before below;
        },
      );
}

pub store_x : Holds (uses_constant (λ k. StoreX k)) STORE
store_x = record {
  says = λ w before below found.
      let small = cell_below w below in (
        no_offsets w (omega arith),
        record {
          faultless = λ len pc. rw small refl;
          goes_on = λ pc. refl;
          no_return = λ returns. returns;
          finds = tt;
          leaves = stored_cell w before below;
        },
      );
}
