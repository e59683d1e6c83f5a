-- What the grammar spells the parser reads: over the tokens of an expression it puts out the parts of its tree.
use Rattle.std.proofs.Common.{◌≡◌, ◌≤◌, ◌∙◌, ◌∷◌, ◌++◌, ◌&&◌, List, None, Option, Some, [], ap, arith, cond, false, nat_le, option_and_then, refl, suc, sym, true, ℕ}
use Rattle.std.proofs.lemmas.Bool.{le-leb, lt-leb}
use Rattle.filter_tree.specs.declared.arithmetic.Operator.{Operator}
use Rattle.filter_tree.specs.declared.arithmetic.Protocol.TheVariants.{Tcp as TcpName, Udp as UdpName}
use Rattle.filter_tree.specs.declared.primitive.Direction.{Direction}
use Rattle.filter_tree.specs.declared.primitive.Direction.TheVariants.{Both, Destination as ToDestination, Either, Source as FromSource}
use Rattle.filter_tree.specs.declared.primitive.Primitive.{Primitive}
use Rattle.filter_tree.specs.declared.primitive.Transport.{Transport}
use Rattle.filter_tree.specs.declared.primitive.Transport.TheVariants.{Tcp, Udp, Unnamed}
use Rattle.filter_tree.specs.declared.expression.Relation.{Relation}
use Rattle.filter_tree.specs.Tree.{ArithTree, Tree}
use Rattle.filter_parse.specs.declared.item.Item.{Item}
use Rattle.filter_parse.specs.declared.item.Item.TheVariants.{Negate, Operate, Primitive as PushPrimitive, Relate}
use Rattle.filter_parse.specs.declared.state.State.TheVariants.{Directed, Expects, Named as HasNamed, Number as HasNumber, Truth as HasTruth, WantsLeast, WantsMost, WantsProtocol}
use Rattle.filter_parse.specs.declared.state.Pending.{Pending}
use Rattle.filter_parse.specs.declared.state.Pending.TheVariants.{Bracket, Compared, Index, Joined, Negated, Operated}
use Rattle.filter_parse.specs.declared.token.Connective.{Connective}
use Rattle.filter_parse.specs.declared.token.Connective.TheVariants.{And, AndSign, Or, OrSign}
use Rattle.filter_parse.specs.declared.token.Token.{Token}
use Rattle.filter_parse.specs.declared.token.Token.TheVariants.{Compares, Connects, Destination, Host, Net, Number, Operates, Port, PortRange, Source}
use Rattle.filter_parse.specs.Grammar.{Spells, SpellsArith, SpellsDirection, SpellsExpr, SpellsOperand, SpellsPrimitive, SpellsTransport, SpellsUnary, bracketed, byte_at, bytes_at, combined, destination, enclosed, four, greater, host, joined, junction, len, less, literal, named, negated, net, one, operand, port, portrange, precedence_of, proto, protocol, related, simple, source, source_and_destination, source_or_destination, tcp, two, udp, unary, undirected, unnamed}
use Rattle.filter_parse.specs.body.Parser.{Parsing, accepted, begins_direction, ends, in_direction, is_numeric, junction_of, lookahead_precedence, negation_of, parsing, reduced, reduced_connectives, reduced_name, reduced_operators, reduced_relation, shifted}
use Rattle.filter_parse.proofs.Gathered.{run, with_arith, with_tree}

-- the lookahead before some tokens
abbrev pub next_of : List Token → Option Token
next_of [] = None
next_of (token ∷ rest) = Some token

-- two parsers that the lookahead reduces alike go on alike
pub run-reduced : (rest : List Token) (parser other : Parsing) → reduced (next_of rest) parser ≡ reduced (next_of rest) other →
    run rest parser ≡ run rest other
run-reduced [] parser other same = ap accepted same
run-reduced (token ∷ rest) parser other same = ap (λ (s : Parsing). option_and_then (run rest) (shifted token s)) same

pub reduced-reduced_connectives : (lookahead : Option Token) (stack : List Pending) (output : List Item) →
    reduced lookahead (reduced_connectives stack output) ≡ reduced_connectives stack output
reduced-reduced_connectives lookahead [] output = refl
reduced-reduced_connectives lookahead (Joined word ∷ stack) output = refl
reduced-reduced_connectives lookahead (Negated ∷ stack) output = reduced-reduced_connectives lookahead stack (output ++ Negate ∷ [])
reduced-reduced_connectives lookahead (Bracket numeric ∷ stack) output = refl
reduced-reduced_connectives lookahead (Compared relator ∷ stack) output = refl
reduced-reduced_connectives lookahead (Operated operator ∷ stack) output = refl
reduced-reduced_connectives lookahead (Index p ∷ stack) output = refl

-- every operator that waits binds less tightly than a precedence says
abbrev pub IsBelow : ℕ → List Pending → Type 0
IsBelow precedence stack = (l : ℕ) (output : List Item) → precedence ≤ l → reduced_operators l stack output ≡ parsing HasNumber stack output

IsBelow-operand : (operator : Operator) (stack : List Pending) → IsBelow (suc (precedence_of operator)) (Operated operator ∷ stack)
IsBelow-operand operator stack l output above =
    let test : nat_le l (precedence_of operator) ≡ false = lt-leb l (precedence_of operator) (omega arith) in
    ap (λ t. cond t (reduced_operators l stack (output ++ Operate operator ∷ [])) (parsing HasNumber (Operated operator ∷ stack) output)) test

IsBelow-truth : (stack : List Pending) → is_numeric stack ≡ false → IsBelow 0 stack
IsBelow-truth [] h l output above = refl
IsBelow-truth (Joined word ∷ stack) h l output above = refl
IsBelow-truth (Negated ∷ stack) h l output above = refl
IsBelow-truth (Bracket numeric ∷ stack) h l output above = refl
IsBelow-truth (Compared relator ∷ stack) h l output above = absurd cc
IsBelow-truth (Operated operator ∷ stack) h l output above = absurd cc
IsBelow-truth (Index p ∷ stack) h l output above = absurd cc

-- the operator that waits takes its right side where what follows is no tighter
reduced_operators-operand : (lookahead : Option Token) (operator : Operator) (stack : List Pending) (output : List Item) →
    lookahead_precedence lookahead ≤ precedence_of operator →
    reduced lookahead (parsing HasNumber (Operated operator ∷ stack) output) ≡ reduced lookahead (parsing HasNumber stack (output ++ Operate operator ∷ []))
reduced_operators-operand lookahead operator stack output loose =
    ap (λ t. reduced_relation (ends lookahead) (cond t (reduced_operators (lookahead_precedence lookahead) stack (output ++ Operate operator ∷ [])) (parsing HasNumber (Operated operator ∷ stack) output)))
    (le-leb (lookahead_precedence lookahead) (precedence_of operator) loose)

-- and goes on as if it had
pub operator-run : (more : List Token) (operator : Operator) (stack : List Pending) (output : List Item) →
    lookahead_precedence (next_of more) ≤ precedence_of operator →
    run more (parsing HasNumber (Operated operator ∷ stack) output) ≡ run more (parsing HasNumber stack (output ++ Operate operator ∷ []))
operator-run more operator stack output loose =
    run-reduced more (parsing HasNumber (Operated operator ∷ stack) output) (parsing HasNumber stack (output ++ Operate operator ∷ []))
    (reduced_operators-operand (next_of more) operator stack output loose)

-- so does the relation that waits where an expression ends
pub relation-run : (more : List Token) (relator : Relation) (stack : List Pending) (output : List Item) → ends (next_of more) ≡ true →
    run more (parsing HasNumber (Compared relator ∷ stack) output) ≡ run more (reduced_connectives stack (output ++ Relate relator ∷ []))
relation-run more relator stack output end =
    run-reduced more (parsing HasNumber (Compared relator ∷ stack) output) (reduced_connectives stack (output ++ Relate relator ∷ []))
    (ap (λ t. reduced_relation t (parsing HasNumber (Compared relator ∷ stack) output)) end
    ∙ sym (reduced-reduced_connectives (next_of more) stack (output ++ Relate relator ∷ [])))

pub ends-loose : (lookahead : Option Token) → ends lookahead ≡ true → lookahead_precedence lookahead ≤ 0
ends-loose None h = omega arith
ends-loose (Some (Operates operator)) h = absurd cc
ends-loose (Some _) h = omega arith

mutual
  pub arith-run : {precedence : ℕ} {from rest : List Token} {a : ArithTree} → SpellsArith precedence from rest a →
      (stack : List Pending) (output : List Item) → IsBelow precedence stack → lookahead_precedence (next_of rest) ≤ precedence →
      run from (parsing Expects stack output) ≡ run rest (parsing HasNumber stack (with_arith a output))
  arith-run (operand d) stack output below loose = operand-run d stack output
  arith-run (combined {precedence = precedence} {from = from} {mid = mid} {rest = rest} {a = a} {b = b} operator tight d e) stack output below loose =
      arith-run d stack output (λ l is above. below l is (omega arith)) (omega arith)
      ∙ ap (λ (s : Parsing). option_and_then (run mid) (shifted (Operates operator) (reduced_relation false s))) (below (precedence_of operator) (with_arith a output) tight)
      ∙ arith-run e (Operated operator ∷ stack) (with_arith a output) (IsBelow-operand operator stack) (omega arith)
      ∙ operator-run rest operator stack (with_arith b (with_arith a output)) (omega arith)

  pub operand-run : {from rest : List Token} {a : ArithTree} → SpellsOperand from rest a →
      (stack : List Pending) (output : List Item) →
      run from (parsing Expects stack output) ≡ run rest (parsing HasNumber stack (with_arith a output))
  operand-run literal stack output = refl
  operand-run len stack output = refl
  operand-run (bracketed d) stack output = arith-run d (Bracket (is_numeric stack) ∷ stack) output (λ l is above. refl) (omega arith)
  operand-run (byte_at {p = p} d) stack output = arith-run d (Index p ∷ stack) output (λ l is above. refl) (omega arith)
  operand-run (bytes_at {p = p} size_token one d) stack output = arith-run d (Index p ∷ stack) output (λ l is above. refl) (omega arith)
  operand-run (bytes_at {p = p} size_token two d) stack output = arith-run d (Index p ∷ stack) output (λ l is above. refl) (omega arith)
  operand-run (bytes_at {p = p} size_token four d) stack output = arith-run d (Index p ∷ stack) output (λ l is above. refl) (omega arith)

-- the words behind a direction
data IsWord : Token → Type 0 where
  host_word : IsWord Host
  net_word : IsWord Net
  port_word : IsWord Port
  portrange_word : IsWord PortRange

-- the tokens that a direction, or a word behind none, begins with
data BeginsDirection : Token → Type 0 where
  begins_source : BeginsDirection Source
  begins_destination : BeginsDirection Destination
  begins_word : {word : Token} → IsWord word → BeginsDirection word

-- the parser stands before a direction
abbrev IsBefore : Transport → Parsing → List Pending → List Item → Type 0
IsBefore transport parser stack output =
    (token : Token) → BeginsDirection token → shifted token (reduced (Some token) parser) ≡ begins_direction transport token stack output

begins_direction-word : {word : Token} → IsWord word → (transport : Transport) (stack : List Pending) (output : List Item) →
    begins_direction transport word stack output ≡ in_direction word transport Either stack output
begins_direction-word host_word transport stack output = refl
begins_direction-word net_word transport stack output = refl
begins_direction-word port_word transport stack output = refl
begins_direction-word portrange_word transport stack output = refl

shifted-source : {word : Token} → IsWord word → (transport : Transport) (stack : List Pending) (output : List Item) →
    shifted word (reduced (Some word) (parsing (Directed transport FromSource) stack output)) ≡ in_direction word transport FromSource stack output
shifted-source host_word transport stack output = refl
shifted-source net_word transport stack output = refl
shifted-source port_word transport stack output = refl
shifted-source portrange_word transport stack output = refl

direction-run : {from after : List Token} {direction : Direction} → SpellsDirection from after direction →
    (word : Token) (rest : List Token) → after ≡ word ∷ rest → IsWord word →
    (transport : Transport) (parser : Parsing) (stack : List Pending) (output : List Item) → IsBefore transport parser stack output →
    run from parser ≡ option_and_then (run rest) (in_direction word transport direction stack output)
direction-run undirected word rest e is transport parser stack output before =
    ap (λ ts. run ts parser) e
    ∙ ap (option_and_then (run rest)) (before word (begins_word is) ∙ begins_direction-word is transport stack output)
direction-run (source {rest = after}) word rest e is transport parser stack output before =
    ap (option_and_then (run after)) (before Source begins_source)
    ∙ ap (λ ts. run ts (parsing (Directed transport FromSource) stack output)) e
    ∙ ap (option_and_then (run rest)) (shifted-source is transport stack output)
direction-run (destination {rest = after}) word rest e is transport parser stack output before =
    ap (option_and_then (run after)) (before Destination begins_destination)
    ∙ ap (λ ts. run ts (parsing (Directed transport ToDestination) stack output)) e
direction-run (source_or_destination {rest = after}) word rest e is transport parser stack output before =
    ap (option_and_then (run (Connects Or ∷ Destination ∷ after))) (before Source begins_source)
    ∙ ap (λ ts. run ts (parsing (Directed transport Either) stack output)) e
direction-run (source_and_destination {rest = after}) word rest e is transport parser stack output before =
    ap (option_and_then (run (Connects And ∷ Destination ∷ after))) (before Source begins_source)
    ∙ ap (λ ts. run ts (parsing (Directed transport Both) stack output)) e

unnamed-shifted : {token : Token} → BeginsDirection token → (stack : List Pending) (output : List Item) → is_numeric stack ≡ false →
    shifted token (reduced (Some token) (parsing Expects stack output)) ≡ begins_direction Unnamed token stack output
unnamed-shifted begins_source stack output h = ap (λ t. cond t None (begins_direction Unnamed Source stack output)) h
unnamed-shifted begins_destination stack output h = ap (λ t. cond t None (begins_direction Unnamed Destination stack output)) h
unnamed-shifted (begins_word host_word) stack output h = ap (λ t. cond t None (begins_direction Unnamed Host stack output)) h
unnamed-shifted (begins_word net_word) stack output h = ap (λ t. cond t None (begins_direction Unnamed Net stack output)) h
unnamed-shifted (begins_word port_word) stack output h = ap (λ t. cond t None (begins_direction Unnamed Port stack output)) h
unnamed-shifted (begins_word portrange_word) stack output h = ap (λ t. cond t None (begins_direction Unnamed PortRange stack output)) h

tcp-shifted : {token : Token} → BeginsDirection token → (stack : List Pending) (output : List Item) → is_numeric stack ≡ false →
    shifted token (reduced (Some token) (parsing (HasNamed TcpName) stack output)) ≡ begins_direction Tcp token stack output
tcp-shifted begins_source stack output h = ap (λ t. cond t None (begins_direction Tcp Source stack output)) h
tcp-shifted begins_destination stack output h = ap (λ t. cond t None (begins_direction Tcp Destination stack output)) h
tcp-shifted (begins_word host_word) stack output h = ap (λ t. cond t None (begins_direction Tcp Host stack output)) h
tcp-shifted (begins_word net_word) stack output h = ap (λ t. cond t None (begins_direction Tcp Net stack output)) h
tcp-shifted (begins_word port_word) stack output h = ap (λ t. cond t None (begins_direction Tcp Port stack output)) h
tcp-shifted (begins_word portrange_word) stack output h = ap (λ t. cond t None (begins_direction Tcp PortRange stack output)) h

udp-shifted : {token : Token} → BeginsDirection token → (stack : List Pending) (output : List Item) → is_numeric stack ≡ false →
    shifted token (reduced (Some token) (parsing (HasNamed UdpName) stack output)) ≡ begins_direction Udp token stack output
udp-shifted begins_source stack output h = ap (λ t. cond t None (begins_direction Udp Source stack output)) h
udp-shifted begins_destination stack output h = ap (λ t. cond t None (begins_direction Udp Destination stack output)) h
udp-shifted (begins_word host_word) stack output h = ap (λ t. cond t None (begins_direction Udp Host stack output)) h
udp-shifted (begins_word net_word) stack output h = ap (λ t. cond t None (begins_direction Udp Net stack output)) h
udp-shifted (begins_word port_word) stack output h = ap (λ t. cond t None (begins_direction Udp Port stack output)) h
udp-shifted (begins_word portrange_word) stack output h = ap (λ t. cond t None (begins_direction Udp PortRange stack output)) h

-- over a protocol and a direction the parser comes to the word behind them
prefix-run : {from mid : List Token} {transport : Transport} → SpellsTransport from mid transport →
    {direction : Direction} (word : Token) (rest : List Token) → SpellsDirection mid (word ∷ rest) direction → IsWord word →
    (stack : List Pending) (output : List Item) → is_numeric stack ≡ false →
    run from (parsing Expects stack output) ≡ option_and_then (run rest) (in_direction word transport direction stack output)
prefix-run unnamed word rest d is stack output h =
    direction-run d word rest refl is Unnamed _ stack output (λ token begin. unnamed-shifted begin stack output h)
prefix-run tcp word rest d is stack output h =
    direction-run d word rest refl is Tcp (parsing (HasNamed TcpName) stack output) stack output (λ token begin. tcp-shifted begin stack output h)
prefix-run udp word rest d is stack output h =
    direction-run d word rest refl is Udp (parsing (HasNamed UdpName) stack output) stack output (λ token begin. udp-shifted begin stack output h)

pub primitive-run : {from rest : List Token} {p : Primitive} → SpellsPrimitive from rest p → (stack : List Pending) (output : List Item) →
    is_numeric stack ≡ false → ends (next_of rest) ≡ true →
    run from (parsing Expects stack output) ≡ run rest (reduced_connectives stack (output ++ PushPrimitive p ∷ []))
primitive-run (protocol {rest = rest} {p = p}) stack output h end =
    run-reduced rest (parsing (HasNamed p) stack output) _
    (ap (λ t. reduced_name (t && negation_of (is_numeric stack)) p stack output) end
    ∙ ap (λ t. reduced_name (negation_of t) p stack output) h
    ∙ sym (reduced-reduced_connectives (next_of rest) stack (output ++ PushPrimitive (named p) ∷ [])))
primitive-run (proto {rest = rest} {n = n}) stack output h end =
    ap (λ t. option_and_then (run (Number n ∷ rest)) (cond t None (Some (parsing WantsProtocol stack output)))) h
primitive-run (host d) stack output h end = prefix-run unnamed Host _ d host_word stack output h
primitive-run (net d) stack output h end = prefix-run unnamed Net _ d net_word stack output h
primitive-run (port t d) stack output h end = prefix-run t Port _ d port_word stack output h
primitive-run (portrange t d) stack output h end = prefix-run t PortRange _ d portrange_word stack output h
primitive-run (less {rest = rest} {n = n}) stack output h end =
    ap (λ t. option_and_then (run (Number n ∷ rest)) (cond t None (Some (parsing WantsMost stack output)))) h
primitive-run (greater {rest = rest} {n = n}) stack output h end =
    ap (λ t. option_and_then (run (Number n ∷ rest)) (cond t None (Some (parsing WantsLeast stack output)))) h

pub with_tree-joined : (word : Connective) (a b : Tree) (output : List Item) →
    with_tree b (with_tree a output) ++ junction_of word ∷ [] ≡ with_tree (joined word a b) output
with_tree-joined And a b output = refl
with_tree-joined AndSign a b output = refl
with_tree-joined Or a b output = refl
with_tree-joined OrSign a b output = refl

mutual
  pub unary-run : {from rest : List Token} {e : Tree} → SpellsUnary from rest e → (stack : List Pending) (output : List Item) →
      is_numeric stack ≡ false → ends (next_of rest) ≡ true →
      run from (parsing Expects stack output) ≡ run rest (reduced_connectives stack (with_tree e output))
  unary-run (negated {mid = mid} d) stack output h end =
      ap (λ t. option_and_then (run mid) (cond t None (Some (parsing Expects (Negated ∷ stack) output)))) h
      ∙ unary-run d (Negated ∷ stack) output refl end
  unary-run (enclosed d) stack output h end = expr-run d (Bracket (is_numeric stack) ∷ stack) output h (λ is. refl) refl
  unary-run (simple d) stack output h end = primitive-run d stack output h end
  unary-run (related {mid = mid} {rest = rest} {a = a} {b = b} relator d f) stack output h end =
      arith-run d stack output (IsBelow-truth stack h) (omega arith)
      ∙ ap (λ (s : Parsing). option_and_then (run mid) (shifted (Compares relator) (reduced_relation false s)))
      (IsBelow-truth stack h 0 (with_arith a output) (omega arith))
      ∙ ap (λ t. option_and_then (run mid) (cond t None (Some (parsing Expects (Compared relator ∷ stack) (with_arith a output))))) h
      ∙ arith-run f (Compared relator ∷ stack) (with_arith a output) (λ l is above. refl) (ends-loose (next_of rest) end)
      ∙ relation-run rest relator stack (with_arith b (with_arith a output)) end

  pub expr-run : {from rest : List Token} {e : Tree} → SpellsExpr from rest e → (stack : List Pending) (output : List Item) →
      is_numeric stack ≡ false → ((is : List Item) → reduced_connectives stack is ≡ parsing HasTruth stack is) → ends (next_of rest) ≡ true →
      run from (parsing Expects stack output) ≡ run rest (parsing HasTruth stack (with_tree e output))
  expr-run (unary {rest = rest} d) stack output h base end = unary-run d stack output h end ∙ ap (run rest) (base _)
  expr-run (junction {rest = rest} {a = a} {b = b} word d f) stack output h base end =
      expr-run d stack output h base refl
      ∙ unary-run f (Joined word ∷ stack) (with_tree a output) refl end
      ∙ ap (λ is. run rest (parsing HasTruth stack is)) (with_tree-joined word a b output)

-- the parser reads every whole expression, and puts out its tree's parts
pub run-spelt : {tokens : List Token} {tree : Tree} → Spells tokens tree → run tokens (parsing Expects [] []) ≡ Some (with_tree tree [])
run-spelt d = expr-run d [] [] refl (λ is. refl) refl
