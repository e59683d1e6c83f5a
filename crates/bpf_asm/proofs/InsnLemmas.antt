-- Instructions: what is read of a mnemonic and an operand is what is spelled there, and what is spelled is read.
use Rattle.std.proofs.Common.{◌≡◌, ◌∙◌, List, None, Option, Some, [], ap, codes, refl, subst, ◌∷◌, ℕ}
use Rattle.std.specs.Option.{option_map}
use Rattle.bpf_insn.specs.declared.instruction.Insn.{Insn}
use Rattle.bpf_insn.specs.declared.instruction.Insn.TheVariants.{Alu, CopyFromX, CopyToX, LoadAbsolute, LoadCell, LoadConstant, LoadIndexed, LoadLength, LoadXCell, LoadXConstant, LoadXHeader, LoadXLength, Negate, ReturnA, ReturnConstant, Store, StoreX}
use Rattle.bpf_insn.specs.declared.instruction.Size.TheVariants.{Byte, Half, Word}
use Rattle.bpf_insn.specs.declared.instruction.Operation.{Operation}
use Rattle.bpf_insn.specs.declared.instruction.Operation.TheVariants.{Add, And, Div, Lsh, Mod, Mul, Or, Rsh, Sub, Xor}
use Rattle.bpf_insn.specs.declared.instruction.Operand.{Operand}
use Rattle.bpf_insn.specs.declared.instruction.Operand.TheVariants.{K, X}
use Rattle.bpf_insn.specs.declared.instruction.Test.{Test}
use Rattle.bpf_insn.specs.declared.instruction.Test.TheVariants.{CommonBit, Equal, Greater, GreaterOrEqual}
use Rattle.bpf_asm.proofs.FormLemmas.{by_name, form_tokens, nothing_found}
use Rattle.bpf_asm.specs.body.Reading.{Form, absolute_form, alone, cell_form, cell_operand, constant_form, header_form, indexed_form, insn_in, name_form, nothing, on_name, operand_of, operation_of, operation_or, other_insn, return_of, short_load, skip_form, test_of, word_load, x_load}
use Rattle.bpf_asm.specs.Statement.{SpellsInsn, operand, operation_name, test_name}
use Rattle.bpf_asm.specs.Token.{word}

-- the operand behind a mnemonic, as an instruction's tokens
abbrev pub Spelled : List ℕ → Form → Insn → Type 0
Spelled name form insn = SpellsInsn (word name ∷ form_tokens form) insn

-- the instruction that was read is the one that was found
the_same : (name : List ℕ) (form : Form) (insn found : Insn) → Some insn ≡ Some found → Spelled name form insn → Spelled name form found
the_same name form insn found same spelled = let it : insn ≡ found = cc in subst (Spelled name form) it spelled

-- an instruction that is read of one name as operand
the_named : (name operand_name expected : List ℕ) (insn found : Insn) → on_name operand_name expected insn ≡ Some found → Spelled name (name_form expected) insn → Spelled name (name_form operand_name) found
the_named name operand_name expected insn found is spelled =
    by_name operand_name expected (Some insn) None found (λ same here. rw same (the_same name (name_form expected) insn found here spelled)) (nothing_found found) is

word_load_is : (form : Form) (found : Insn) → word_load form ≡ Some found → Spelled (codes "ld") form found
unfolding word_load
word_load_is nothing found is = nothing_found found is
word_load_is (absolute_form k) found is = the_same (codes "ld") (absolute_form k) (LoadAbsolute Word k) found is refl
word_load_is (indexed_form k) found is = the_same (codes "ld") (indexed_form k) (LoadIndexed Word k) found is refl
word_load_is (constant_form k) found is = the_same (codes "ld") (constant_form k) (LoadConstant k) found is refl
word_load_is (cell_form k) found is = the_same (codes "ld") (cell_form k) (LoadCell k) found is refl
word_load_is (header_form k) found is = nothing_found found is
word_load_is (skip_form k) found is = nothing_found found is
word_load_is (name_form other) found is = the_named (codes "ld") other (codes "len") LoadLength found is refl

half_load_is : (form : Form) (found : Insn) → short_load Half form ≡ Some found → Spelled (codes "ldh") form found
unfolding short_load
half_load_is nothing found is = nothing_found found is
half_load_is (absolute_form k) found is = the_same (codes "ldh") (absolute_form k) (LoadAbsolute Half k) found is refl
half_load_is (indexed_form k) found is = the_same (codes "ldh") (indexed_form k) (LoadIndexed Half k) found is refl
half_load_is (constant_form k) found is = nothing_found found is
half_load_is (cell_form k) found is = nothing_found found is
half_load_is (header_form k) found is = nothing_found found is
half_load_is (skip_form k) found is = nothing_found found is
half_load_is (name_form other) found is = nothing_found found is

byte_load_is : (form : Form) (found : Insn) → short_load Byte form ≡ Some found → Spelled (codes "ldb") form found
unfolding short_load
byte_load_is nothing found is = nothing_found found is
byte_load_is (absolute_form k) found is = the_same (codes "ldb") (absolute_form k) (LoadAbsolute Byte k) found is refl
byte_load_is (indexed_form k) found is = the_same (codes "ldb") (indexed_form k) (LoadIndexed Byte k) found is refl
byte_load_is (constant_form k) found is = nothing_found found is
byte_load_is (cell_form k) found is = nothing_found found is
byte_load_is (header_form k) found is = nothing_found found is
byte_load_is (skip_form k) found is = nothing_found found is
byte_load_is (name_form other) found is = nothing_found found is

x_load_is : (form : Form) (found : Insn) → x_load form ≡ Some found → Spelled (codes "ldx") form found
unfolding x_load
x_load_is nothing found is = nothing_found found is
x_load_is (absolute_form k) found is = nothing_found found is
x_load_is (indexed_form k) found is = nothing_found found is
x_load_is (constant_form k) found is = the_same (codes "ldx") (constant_form k) (LoadXConstant k) found is refl
x_load_is (cell_form k) found is = the_same (codes "ldx") (cell_form k) (LoadXCell k) found is refl
x_load_is (header_form k) found is = the_same (codes "ldx") (header_form k) (LoadXHeader k) found is refl
x_load_is (skip_form k) found is = nothing_found found is
x_load_is (name_form other) found is = the_named (codes "ldx") other (codes "len") LoadXLength found is refl

return_is : (form : Form) (found : Insn) → return_of form ≡ Some found → Spelled (codes "ret") form found
unfolding return_of
return_is nothing found is = nothing_found found is
return_is (absolute_form k) found is = nothing_found found is
return_is (indexed_form k) found is = nothing_found found is
return_is (constant_form k) found is = the_same (codes "ret") (constant_form k) (ReturnConstant k) found is refl
return_is (cell_form k) found is = nothing_found found is
return_is (header_form k) found is = nothing_found found is
return_is (skip_form k) found is = nothing_found found is
return_is (name_form other) found is = the_named (codes "ret") other (codes "a") ReturnA found is refl

-- an instruction without an operand
alone_is : (name : List ℕ) (insn : Insn) (form : Form) (found : Insn) → Spelled name nothing insn → alone insn form ≡ Some found → Spelled name form found
unfolding alone
alone_is name insn nothing found spelled is = the_same name nothing insn found is spelled
alone_is name insn (absolute_form k) found spelled is = nothing_found found is
alone_is name insn (indexed_form k) found spelled is = nothing_found found is
alone_is name insn (constant_form k) found spelled is = nothing_found found is
alone_is name insn (cell_form k) found spelled is = nothing_found found is
alone_is name insn (header_form k) found spelled is = nothing_found found is
alone_is name insn (skip_form k) found spelled is = nothing_found found is
alone_is name insn (name_form other) found spelled is = nothing_found found is

-- a store
store_is : (name : List ℕ) (store : ℕ → Insn) (form : Form) (found : Insn) → ((k : ℕ) → Spelled name (cell_form k) (store k)) → option_map store (cell_operand form) ≡ Some found → Spelled name form found
unfolding cell_operand
store_is name store nothing found spelled is = nothing_found found is
store_is name store (absolute_form k) found spelled is = nothing_found found is
store_is name store (indexed_form k) found spelled is = nothing_found found is
store_is name store (constant_form k) found spelled is = nothing_found found is
store_is name store (cell_form k) found spelled is = the_same name (cell_form k) (store k) found is (spelled k)
store_is name store (header_form k) found spelled is = nothing_found found is
store_is name store (skip_form k) found spelled is = nothing_found found is
store_is name store (name_form other) found spelled is = nothing_found found is

-- an operand of an operation or a test
pub operand_is : (form : Form) (found : Operand) → operand_of form ≡ Some found → form_tokens form ≡ operand found
unfolding operand_of
operand_is nothing found is = nothing_found found is
operand_is (absolute_form k) found is = nothing_found found is
operand_is (indexed_form k) found is = nothing_found found is
operand_is (constant_form k) found is = let same : K k ≡ found = cc in ap operand same
operand_is (cell_form k) found is = nothing_found found is
operand_is (header_form k) found is = nothing_found found is
operand_is (skip_form k) found is = nothing_found found is
operand_is (name_form other) found is =
    by_name other (codes "x") (Some X) None found (λ name here. let same : X ≡ found = cc in ap (λ it. word it ∷ []) name ∙ ap operand same) (nothing_found found) is

pub operation_is : (name : List ℕ) (found : Operation) → operation_of name ≡ Some found → name ≡ operation_name found
unfolding operation_of
operation_is name found is =
    by_name name (codes "add") _ _ found (λ same here. let it : Add ≡ found = cc in same ∙ ap operation_name it) (λ other_0.
    by_name name (codes "sub") _ _ found (λ same here. let it : Sub ≡ found = cc in same ∙ ap operation_name it) (λ other_1.
    by_name name (codes "mul") _ _ found (λ same here. let it : Mul ≡ found = cc in same ∙ ap operation_name it) (λ other_2.
    by_name name (codes "div") _ _ found (λ same here. let it : Div ≡ found = cc in same ∙ ap operation_name it) (λ other_3.
    by_name name (codes "or") _ _ found (λ same here. let it : Or ≡ found = cc in same ∙ ap operation_name it) (λ other_4.
    by_name name (codes "and") _ _ found (λ same here. let it : And ≡ found = cc in same ∙ ap operation_name it) (λ other_5.
    by_name name (codes "lsh") _ _ found (λ same here. let it : Lsh ≡ found = cc in same ∙ ap operation_name it) (λ other_6.
    by_name name (codes "rsh") _ _ found (λ same here. let it : Rsh ≡ found = cc in same ∙ ap operation_name it) (λ other_7.
    by_name name (codes "mod") _ _ found (λ same here. let it : Mod ≡ found = cc in same ∙ ap operation_name it) (λ other_8.
    by_name name (codes "xor") _ _ found (λ same here. let it : Xor ≡ found = cc in same ∙ ap operation_name it) (λ other_9.
    nothing_found found other_9) other_8) other_7) other_6) other_5) other_4) other_3) other_2) other_1) other_0) is

pub test_is : (name : List ℕ) (found : Test) → test_of name ≡ Some found → name ≡ test_name found
unfolding test_of
test_is name found is =
    by_name name (codes "jeq") _ _ found (λ same here. let it : Equal ≡ found = cc in same ∙ ap test_name it) (λ other_0.
    by_name name (codes "jgt") _ _ found (λ same here. let it : Greater ≡ found = cc in same ∙ ap test_name it) (λ other_1.
    by_name name (codes "jge") _ _ found (λ same here. let it : GreaterOrEqual ≡ found = cc in same ∙ ap test_name it) (λ other_2.
    by_name name (codes "jset") _ _ found (λ same here. let it : CommonBit ≡ found = cc in same ∙ ap test_name it) (λ other_3.
    nothing_found found other_3) other_2) other_1) other_0) is

other_is : (name : List ℕ) (form : Form) (found : Insn) → other_insn name form ≡ Some found → Spelled name form found
unfolding other_insn
other_is name form found is =
    by_name name (codes "ld") _ _ found (λ same here. rw same (word_load_is form found here)) (λ other_0.
    by_name name (codes "ldh") _ _ found (λ same here. rw same (half_load_is form found here)) (λ other_1.
    by_name name (codes "ldb") _ _ found (λ same here. rw same (byte_load_is form found here)) (λ other_2.
    by_name name (codes "ldx") _ _ found (λ same here. rw same (x_load_is form found here)) (λ other_3.
    by_name name (codes "st") _ _ found (λ same here. rw same (store_is (codes "st") Store form found (λ k. refl) here)) (λ other_4.
    by_name name (codes "stx") _ _ found (λ same here. rw same (store_is (codes "stx") StoreX form found (λ k. refl) here)) (λ other_5.
    by_name name (codes "ret") _ _ found (λ same here. rw same (return_is form found here)) (λ other_6.
    by_name name (codes "neg") _ _ found (λ same here. rw same (alone_is (codes "neg") Negate form found refl here)) (λ other_7.
    by_name name (codes "tax") _ _ found (λ same here. rw same (alone_is (codes "tax") CopyToX form found refl here)) (λ other_8.
    by_name name (codes "txa") _ _ found (λ same here. rw same (alone_is (codes "txa") CopyFromX form found refl here)) (λ other_9.
    nothing_found found other_9) other_8) other_7) other_6) other_5) other_4) other_3) other_2) other_1) other_0) is

insn_by : (name : List ℕ) (form : Form) (found : Insn) (operation : Option Operation) → operation_of name ≡ operation → operation_or name form operation ≡ Some found → Spelled name form found
insn_by name form found None no_operation is = other_is name form found is
insn_by name form found (Some operation) an_operation is = by_operand (operand_of form) refl is where
  by_operand : (right : Option Operand) → operand_of form ≡ right → option_map (Alu operation) right ≡ Some found → Spelled name form found
  by_operand None no_operand same = nothing_found found same
  by_operand (Some right) an_operand same =
      let it : Alu operation right ≡ found = cc in
      subst (SpellsInsn (word name ∷ form_tokens form)) it (ap (λ mnemonic. word mnemonic ∷ form_tokens form) (operation_is name operation an_operation) ∙ ap (λ rest. word (operation_name operation) ∷ rest) (operand_is form right an_operand))

pub insn_is : (name : List ℕ) (form : Form) (found : Insn) → insn_in name form ≡ Some found → Spelled name form found
unfolding insn_in
insn_is name form found is = insn_by name form found (operation_of name) refl is
