-- A program's text has one meaning: one program, or one fault, and never both.
use Rattle.std.proofs.Common.{◌≡◌, ◌∙◌, ◌<◌, ◌≤◌, ◌⊎◌, List, None, Option, Some, ap, arith, inl, inr, length, refl, subst, sym, ℕ}
use Rattle.std.proofs.lemmas.Bool.{cases_lt}
use Rattle.std.proofs.lemmas.Option.{slice_get_within}
use Rattle.bpf_insn.specs.Word.{instruction_of}
use Rattle.bpf_asm.specs.Assembly.{Assembles, IsFaultOf}
use Rattle.bpf_asm.specs.declared.fault.AsmFault.{AsmFault}
use Rattle.bpf_asm.proofs.AssemblyLemmas as asm_laws
use Rattle.bpf_verify.specs.Accepted.{EndsInReturn, HasFault, IsFaultless, word_fault}
use Rattle.bpf_verify.specs.Fault.{IsFirstAt, IsFirstFault, IsGoodBelow}
use Rattle.bpf_verify.specs.Path.{IsStoredBefore, IsUnstored}
use Rattle.bpf_verify.specs.declared.TheConstants.{CELLS, MAX_INSTRUCTIONS}
use Rattle.bpf_verify.specs.declared.fault.Fault.{Fault}
use Rattle.bpf_verify.specs.declared.fault.Fault.TheVariants.{Ancillary, BadCell, BadOpcode, BadShift, Empty, JumpOutside, NoReturn, StrayField, TooLong, UnstoredCell, ZeroDivisor}
use Rattle.bpf_verify.proofs.FaultLemmas.{fault_refutes}
use Rattle.filter_compile.specs.declared.fault.CompileFault.TheVariants as compile
use Rattle.filter_parse.specs.Fault.{HasFault as HasParseFault, HasTree}
use Rattle.filter_parse.specs.Laws.{ExcludesFaults, HasOneFault as HasOneParseFault, HasOneTree}
use Rattle.filter_parse.specs.declared.fault.ParseFault.{ParseFault}
use Rattle.filter_parse.specs.declared.fault.ParseFault.TheVariants as parse
use Rattle.filter_tree.specs.Measure.{cells_of, size_of}
use Rattle.filter_tree.specs.Tree.{Tree}
use Rattle.filter_program.specs.Fault.{HasNotBoth, HasOneFault, HasOneProgram, IsAssemblyFault, IsExpressionFault}
use Rattle.filter_program.specs.Program.{IsAssembledTo, IsCompilable, assembly, expression, of_tree, of_words}
use Rattle.filter_program.specs.declared.fault.TextFault.{TextFault}
use Rattle.filter_program.specs.declared.fault.TextFault.TheVariants.{Assembly, Compiling, Expression, OutOfMemory, Words}

-- ---- the first fault of words

-- a first fault by its kind
data First (program : List ℕ) : Fault → Type 0 where
  empty : length program ≡ 0 → First program Empty
  long : MAX_INSTRUCTIONS < length program → First program TooLong
  placed : (pc : ℕ) (fault : Fault) → IsFirstAt program pc fault → First program fault
  unended : IsGoodBelow program (length program) → (EndsInReturn program → ⊥) → First program NoReturn
  unstored : (pc : ℕ) → IsGoodBelow program (length program) → EndsInReturn program → IsUnstored program pc → ((q : ℕ) → q < pc → IsStoredBefore program q) → First program (UnstoredCell pc)

as_first : (program : List ℕ) (fault : Fault) → IsFirstFault program fault → First program fault
as_first program Empty first = empty first
as_first program TooLong first = long first
as_first program (BadOpcode pc) first = placed pc _ first
as_first program (StrayField pc) first = placed pc _ first
as_first program (ZeroDivisor pc) first = placed pc _ first
as_first program (BadShift pc) first = placed pc _ first
as_first program (BadCell pc) first = placed pc _ first
as_first program (JumpOutside pc) first = placed pc _ first
as_first program (Ancillary pc) first = placed pc _ first
as_first program NoReturn first = unended first.0 first.1
as_first program (UnstoredCell pc) first = unstored pc first.0 first.1 first.2 first.3

no_fault_there : (program : List ℕ) (pc : ℕ) (fault : Fault) → HasFault program pc fault → IsFaultless program pc → ⊥
no_fault_there program pc fault has none =
    let found : Some has.0 ≡ Some none.0 = sym has.1 ∙ none.1 in
    let word : has.0 ≡ none.0 = cc in
    let same : ◌≡◌ {A = Option Fault} (Some fault) None = sym has.2 ∙ ap (λ w. word_fault (length program) pc (instruction_of w)) word ∙ none.2 in
    absurd (cc)

one_fault_there : (program : List ℕ) (pc : ℕ) (one other : Fault) → HasFault program pc one → HasFault program pc other → one ≡ other
one_fault_there program pc one other has also =
    let found : Some has.0 ≡ Some also.0 = sym has.1 ∙ also.1 in
    let word : has.0 ≡ also.0 = cc in
    let same : ◌≡◌ {A = Option Fault} (Some one) (Some other) = sym has.2 ∙ ap (λ w. word_fault (length program) pc (instruction_of w)) word ∙ also.2 in
    cc

no_fault_below : (program : List ℕ) (pc n : ℕ) (fault : Fault) → pc < n → HasFault program pc fault → IsGoodBelow program n → ⊥
no_fault_below program pc n fault below has good = no_fault_there program pc fault has (good.faultless pc below)

no_fault_inside : (program : List ℕ) (pc : ℕ) (fault : Fault) → HasFault program pc fault → IsGoodBelow program (length program) → ⊥
no_fault_inside program pc fault has good = no_fault_below program pc (length program) fault (slice_get_within program pc has.0 has.1) has good

not_unstored : (program : List ℕ) (pc : ℕ) → IsUnstored program pc → IsStoredBefore program pc → ⊥
not_unstored program pc missing stored = let path = missing.2 in path.2 (stored missing.0 missing.1 path.0 path.1)

split : (m n : ℕ) → (m < n) ⊎ ((n < m) ⊎ (m ≡ n))
split m n = by_first (cases_lt m n) (cases_lt n m)
  where
    by_first : (m < n) ⊎ (n ≤ m) → (n < m) ⊎ (m ≤ n) → (m < n) ⊎ ((n < m) ⊎ (m ≡ n))
    by_first (inl below) other = inl below
    by_first (inr up) (inl above) = inr (inl above)
    by_first (inr up) (inr down) = inr (inr (omega arith))

one_place : (program : List ℕ) (pc at : ℕ) (one other : Fault) → IsFirstAt program pc one → IsFirstAt program at other → one ≡ other
one_place program pc at one other first also = by_place (split pc at)
  where
    by_place : (pc < at) ⊎ ((at < pc) ⊎ (pc ≡ at)) → one ≡ other
    by_place (inl below) = absurd (no_fault_below program pc at one below first.1 also.0)
    by_place (inr (inl above)) = absurd (no_fault_below program at pc other above also.1 first.0)
    by_place (inr (inr same)) = one_fault_there program pc one other first.1 (subst (λ (n : ℕ). HasFault program n other) (sym same) also.1)

one_load : (program : List ℕ) (pc at : ℕ) → IsUnstored program pc → ((q : ℕ) → q < pc → IsStoredBefore program q) → IsUnstored program at → ((q : ℕ) → q < at → IsStoredBefore program q) → pc ≡ at
one_load program pc at missing least also others = by_place (split pc at)
  where
    by_place : (pc < at) ⊎ ((at < pc) ⊎ (pc ≡ at)) → pc ≡ at
    by_place (inl below) = absurd (not_unstored program pc missing (others pc below))
    by_place (inr (inl above)) = absurd (not_unstored program at also (least at above))
    by_place (inr (inr same)) = same

two_firsts : (program : List ℕ) (one other : Fault) → First program one → First program other → one ≡ other
two_firsts program one other (empty none) (empty also) = refl
two_firsts program one other (empty none) (long more) = absurd (omega arith)
two_firsts program one other (empty none) (placed at fault first) = let some = first.0.not_empty in absurd (omega arith)
two_firsts program one other (empty none) (unended good no_end) = let some = good.not_empty in absurd (omega arith)
two_firsts program one other (empty none) (unstored at good end missing least) = let some = good.not_empty in absurd (omega arith)
two_firsts program one other (long more) (empty also) = absurd (omega arith)
two_firsts program one other (long more) (long also) = refl
two_firsts program one other (long more) (placed at fault first) = let short = first.0.not_too_long in absurd (omega arith)
two_firsts program one other (long more) (unended good no_end) = let short = good.not_too_long in absurd (omega arith)
two_firsts program one other (long more) (unstored at good end missing least) = let short = good.not_too_long in absurd (omega arith)
two_firsts program one other (placed pc fault first) (empty also) = let some = first.0.not_empty in absurd (omega arith)
two_firsts program one other (placed pc fault first) (long also) = let short = first.0.not_too_long in absurd (omega arith)
two_firsts program one other (placed pc fault first) (placed at other_fault also) = one_place program pc at one other first also
two_firsts program one other (placed pc fault first) (unended good no_end) = absurd (no_fault_inside program pc fault first.1 good)
two_firsts program one other (placed pc fault first) (unstored at good end missing least) = absurd (no_fault_inside program pc fault first.1 good)
two_firsts program one other (unended good no_end) (empty also) = let some = good.not_empty in absurd (omega arith)
two_firsts program one other (unended good no_end) (long also) = let short = good.not_too_long in absurd (omega arith)
two_firsts program one other (unended good no_end) (placed at fault first) = absurd (no_fault_inside program at fault first.1 good)
two_firsts program one other (unended good no_end) (unended also no_other) = refl
two_firsts program one other (unended good no_end) (unstored at also end missing least) = absurd (no_end end)
two_firsts program one other (unstored pc good end missing least) (empty also) = let some = good.not_empty in absurd (omega arith)
two_firsts program one other (unstored pc good end missing least) (long also) = let short = good.not_too_long in absurd (omega arith)
two_firsts program one other (unstored pc good end missing least) (placed at fault first) = absurd (no_fault_inside program at fault first.1 good)
two_firsts program one other (unstored pc good end missing least) (unended also no_end) = absurd (no_end end)
two_firsts program one other (unstored pc good end missing least) (unstored at also other_end other_missing other_least) = ap UnstoredCell (one_load program pc at missing least other_missing other_least)

one_first : (program : List ℕ) (one other : Fault) → IsFirstFault program one → IsFirstFault program other → one ≡ other
one_first program one other first also = two_firsts program one other (as_first program one first) (as_first program other also)

-- ---- texts

-- what holds of the grammar of expressions
pub record GrammarLaws : Type 0 where
  pub one_tree : HasOneTree
  pub no_fault : ExcludesFaults
  pub one_fault : HasOneParseFault

-- the fault of a text, by kind
data AssemblyWhy (text : List ℕ) : TextFault → Type 0 where
  unread : (fault : AsmFault) → IsFaultOf text fault → AssemblyWhy text (Assembly fault)
  unaccepted : (fault : Fault) (words : List ℕ) → Assembles text words → IsFirstFault words fault → AssemblyWhy text (Words fault)

as_assembly : (text : List ℕ) (fault : TextFault) → IsAssemblyFault text fault → AssemblyWhy text fault
as_assembly text (Assembly why) fault = unread why fault
as_assembly text (Words why) (words, assembles, first) = unaccepted why words assembles first
as_assembly text (Expression why) fault = absurd fault
as_assembly text (Compiling why) fault = absurd fault
as_assembly text OutOfMemory fault = absurd fault

two_assembly_faults : (text : List ℕ) (one other : TextFault) → AssemblyWhy text one → AssemblyWhy text other → one ≡ other
two_assembly_faults text one other (unread fault is) (unread another also) = ap Assembly (asm_laws.one_fault text fault another is also)
two_assembly_faults text one other (unread fault is) (unaccepted another words assembles first) = absurd (asm_laws.not_both text words fault assembles is)
two_assembly_faults text one other (unaccepted fault words assembles first) (unread another also) = absurd (asm_laws.not_both text words another assembles also)
two_assembly_faults text one other (unaccepted fault words assembles first) (unaccepted another others also its) =
    ap Words (one_first words fault another first (subst (λ w. IsFirstFault w another) (asm_laws.one_value text others words also assembles) its))

data ExpressionWhy (text : List ℕ) : TextFault → Type 0 where
  unparsed : (fault : ParseFault) → HasParseFault text fault → ExpressionWhy text (Expression fault)
  spread : (tree : Tree) → HasTree text tree → CELLS < cells_of tree → ExpressionWhy text (Compiling compile.CellsExceeded)
  large : (tree : Tree) → HasTree text tree → cells_of tree ≤ CELLS → MAX_INSTRUCTIONS < size_of tree → ExpressionWhy text (Compiling compile.TooLong)

as_expression : (text : List ℕ) (fault : TextFault) → IsExpressionFault text fault → ExpressionWhy text fault
as_expression text (Assembly why) fault = absurd fault
as_expression text (Words why) fault = absurd fault
as_expression text (Expression (parse.Syntax at)) fault = unparsed (parse.Syntax at) fault
as_expression text (Expression (parse.NumberTooBig at)) fault = unparsed (parse.NumberTooBig at) fault
as_expression text (Expression (parse.BadAddress at)) fault = unparsed (parse.BadAddress at) fault
as_expression text (Expression (parse.BadPrefix at)) fault = unparsed (parse.BadPrefix at) fault
as_expression text (Expression (parse.TooDeep at)) fault = unparsed (parse.TooDeep at) fault
as_expression text (Expression parse.OutOfMemory) fault = absurd fault
as_expression text (Compiling compile.CellsExceeded) (tree, has, above) = spread tree has above
as_expression text (Compiling compile.TooLong) (tree, has, within, above) = large tree has within above
as_expression text (Compiling compile.OutOfMemory) fault = absurd fault
as_expression text OutOfMemory fault = absurd fault

two_expression_faults : GrammarLaws → (text : List ℕ) (one other : TextFault) → ExpressionWhy text one → ExpressionWhy text other → one ≡ other
two_expression_faults laws text one other (unparsed fault is) (unparsed another also) = ap Expression (laws.one_fault text fault another is also)
two_expression_faults laws text one other (unparsed fault is) (spread tree has above) = absurd (laws.no_fault text tree fault has is)
two_expression_faults laws text one other (unparsed fault is) (large tree has within above) = absurd (laws.no_fault text tree fault has is)
two_expression_faults laws text one other (spread tree has above) (unparsed fault is) = absurd (laws.no_fault text tree fault has is)
two_expression_faults laws text one other (spread tree has above) (spread another also more) = refl
two_expression_faults laws text one other (spread tree has above) (large another also within more) = let same = ap cells_of (laws.one_tree text tree another has also) in absurd (omega arith)
two_expression_faults laws text one other (large tree has within above) (unparsed fault is) = absurd (laws.no_fault text tree fault has is)
two_expression_faults laws text one other (large tree has within above) (spread another also more) = let same = ap cells_of (laws.one_tree text tree another has also) in absurd (omega arith)
two_expression_faults laws text one other (large tree has within above) (large another also inside more) = refl

pub one_fault : GrammarLaws → HasOneFault
one_fault laws (assembly text) one other is also = two_assembly_faults text one other (as_assembly text one is) (as_assembly text other also)
one_fault laws (expression text) one other is also = two_expression_faults laws text one other (as_expression text one is) (as_expression text other also)

pub one_program : GrammarLaws → HasOneProgram
one_program laws (assembly text) (of_words words) (of_words others) is also = ap of_words (asm_laws.one_value text words others is.assembled also.assembled)
one_program laws (assembly text) (of_words words) (of_tree tree) is also = absurd also
one_program laws (assembly text) (of_tree tree) other is also = absurd is
one_program laws (expression text) (of_tree tree) (of_tree other) is also = ap of_tree (laws.one_tree text tree other is.tree_is also.tree_is)
one_program laws (expression text) (of_tree tree) (of_words words) is also = absurd also
one_program laws (expression text) (of_words words) other is also = absurd is

no_assembly : (text words : List ℕ) (fault : TextFault) → IsAssembledTo text words → AssemblyWhy text fault → ⊥
no_assembly text words fault is (unread why unread_why) = asm_laws.not_both text words why is.assembled unread_why
no_assembly text words fault is (unaccepted why others also first) =
    fault_refutes words why (subst (λ w. IsFirstFault w why) (asm_laws.one_value text others words also is.assembled) first) is.accepted

no_expression : GrammarLaws → (text : List ℕ) (tree : Tree) (fault : TextFault) → IsCompilable text tree → ExpressionWhy text fault → ⊥
no_expression laws text tree fault is (unparsed why unparsed_why) = laws.no_fault text tree why is.tree_is unparsed_why
no_expression laws text tree fault is (spread other also above) = let same = ap cells_of (laws.one_tree text tree other is.tree_is also) in let few = is.cells in omega arith
no_expression laws text tree fault is (large other also within above) = let same = ap size_of (laws.one_tree text tree other is.tree_is also) in let small = is.size in omega arith

pub not_both : GrammarLaws → HasNotBoth
not_both laws (assembly text) (of_words words) fault is why = no_assembly text words fault is (as_assembly text fault why)
not_both laws (assembly text) (of_tree tree) fault is why = is
not_both laws (expression text) (of_tree tree) fault is why = no_expression laws text tree fault is (as_expression text fault why)
not_both laws (expression text) (of_words words) fault is why = is
