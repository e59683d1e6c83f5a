-- Whatever the parser has read can go on to a whole expression.
use Rattle.std.proofs.Common.{◌≡◌, ◌≤◌, ◌∙◌, ◌∷◌, ◌++◌, ◌&&◌, Bool, List, None, Option, Some, [], ap, arith, cond, false, nat_le, option_and_then, refl, sym, true, ℕ}
use Rattle.filter_tree.specs.declared.arithmetic.Operator.TheVariants.{Divide, Subtract}
use Rattle.filter_tree.specs.declared.arithmetic.Protocol.{Protocol}
use Rattle.filter_tree.specs.declared.arithmetic.Protocol.TheVariants.{Ip as IpName, Tcp as TcpName, Udp as UdpName}
use Rattle.filter_tree.specs.declared.arithmetic.Size.{Size}
use Rattle.filter_tree.specs.declared.arithmetic.Size.TheVariants.{One}
use Rattle.filter_tree.specs.declared.primitive.Direction.{Direction}
use Rattle.filter_tree.specs.declared.primitive.Direction.TheVariants.{Either, Source as FromSource}
use Rattle.filter_tree.specs.declared.primitive.Primitive.TheVariants.{AtLeast, AtMost, Host as IsHost, Net as IsNet, Port as IsPort, PortRange as IsPortRange, Proto as IsProto}
use Rattle.filter_tree.specs.declared.primitive.Transport.{Transport}
use Rattle.filter_tree.specs.declared.primitive.Transport.TheVariants.{Tcp, Udp, Unnamed}
use Rattle.filter_parse.specs.declared.item.Item.{Item}
use Rattle.filter_parse.specs.declared.item.Item.TheVariants.{Access, Negate, Number as PushNumber, Operate, Primitive as PushPrimitive, Relate}
use Rattle.filter_parse.specs.declared.state.State.{State}
use Rattle.filter_parse.specs.declared.state.State.TheVariants.{Directed, Expects, Named as HasNamed, Number as HasNumber, Truth as HasTruth, WantsAddress, WantsBits, WantsDash, WantsEnd, WantsFirst, WantsLast, WantsLeast, WantsMost, WantsNetwork, WantsPort, WantsProtocol, WantsSize, WantsSlash, Widened}
use Rattle.filter_parse.specs.declared.state.Pending.{Pending}
use Rattle.filter_parse.specs.declared.state.Pending.TheVariants.{Bracket, Compared, Index, Joined, Negated, Operated}
use Rattle.filter_parse.specs.declared.token.Connective.TheVariants.{And, Or}
use Rattle.filter_parse.specs.declared.token.Token.{Token}
use Rattle.filter_parse.specs.declared.token.Token.TheVariants.{Address, Close, CloseIndex, Colon, Compares, Connects, Destination, Greater, Host, Length, Less, Named, Net, Not, Number, Open, OpenIndex, Operates, Port, PortRange, Proto, Source}
use Rattle.filter_tree.specs.declared.expression.Relation.TheVariants.{Equal}
use Rattle.filter_parse.specs.Grammar.{named, precedence_of}
use Rattle.filter_parse.specs.body.Parser.{Parsing, after_name, after_number, after_protocol, after_source, after_truth, begins, begins_direction, begins_truth, ends, in_direction, in_primitive, is_numeric, junction_of, lookahead_precedence, negation_of, parsing, reduced, reduced_connectives, reduced_name, reduced_operators, reduced_relation, shifted, size_of_number, sized_by}
use Rattle.filter_parse.proofs.Gathered.{IfAny, run, unless}
use Rattle.filter_parse.proofs.RunLemmas.{ends-loose, next_of, operator-run, relation-run}

-- nothing waits for the end of an expression without `and` and `or`
abbrev pub IsBase : List Pending → Type 0
IsBase [] = Unit {0}
IsBase (Bracket numeric ∷ stack) = Unit {0}
IsBase _ = ⊥

-- an expression may stand there
abbrev pub IsForTruth : List Pending → Type 0
IsForTruth [] = Unit {0}
IsForTruth (Joined word ∷ stack) = IsBase stack × IsForTruth stack
IsForTruth (Negated ∷ stack) = IsForTruth stack
IsForTruth (Bracket true ∷ stack) = ⊥
IsForTruth (Bracket false ∷ stack) = IsForTruth stack
IsForTruth _ = ⊥

-- an arithmetic expression may stand there
abbrev pub IsForNumber : List Pending → Type 0
IsForNumber [] = Unit {0}
IsForNumber (Joined word ∷ stack) = IsBase stack × IsForTruth stack
IsForNumber (Negated ∷ stack) = IsForTruth stack
IsForNumber (Bracket true ∷ stack) = IsForNumber stack
IsForNumber (Bracket false ∷ stack) = IsForTruth stack
IsForNumber (Compared relator ∷ stack) = IsForTruth stack
IsForNumber (Operated operator ∷ stack) = IsForNumber stack
IsForNumber (Index p ∷ stack) = IsForNumber stack

-- what is open fits what has been read
abbrev pub IsProper : Parsing → Type 0
IsProper (parsing Expects stack output) = IsForNumber stack
IsProper (parsing HasNumber stack output) = IsForNumber stack
IsProper (parsing HasTruth stack output) = IsBase stack × IsForTruth stack
IsProper (parsing (HasNamed p) stack output) = IsForNumber stack
IsProper (parsing (WantsSize p) stack output) = IsForNumber stack
IsProper (parsing (WantsEnd p size) stack output) = IsForNumber stack
IsProper (parsing _ stack output) = IsForTruth stack

number-of_truth : (stack : List Pending) → IsForTruth stack → IsForNumber stack
number-of_truth [] p = tt
number-of_truth (Joined word ∷ stack) p = p
number-of_truth (Negated ∷ stack) p = p
number-of_truth (Bracket true ∷ stack) p = absurd p
number-of_truth (Bracket false ∷ stack) p = p
number-of_truth (Compared relator ∷ stack) p = absurd p
number-of_truth (Operated operator ∷ stack) p = absurd p
number-of_truth (Index q ∷ stack) p = absurd p

truth-of_number : (stack : List Pending) → IsForNumber stack → is_numeric stack ≡ false → IsForTruth stack
truth-of_number [] p h = tt
truth-of_number (Joined word ∷ stack) p h = p
truth-of_number (Negated ∷ stack) p h = p
truth-of_number (Bracket true ∷ stack) p h = absurd cc
truth-of_number (Bracket false ∷ stack) p h = p
truth-of_number (Compared relator ∷ stack) p h = absurd cc
truth-of_number (Operated operator ∷ stack) p h = absurd cc
truth-of_number (Index q ∷ stack) p h = absurd cc

reduced_connectives-base : (stack : List Pending) (output : List Item) → IsBase stack → reduced_connectives stack output ≡ parsing HasTruth stack output
reduced_connectives-base [] output p = refl
reduced_connectives-base (Joined word ∷ stack) output p = absurd p
reduced_connectives-base (Negated ∷ stack) output p = absurd p
reduced_connectives-base (Bracket numeric ∷ stack) output p = refl
reduced_connectives-base (Compared relator ∷ stack) output p = refl
reduced_connectives-base (Operated operator ∷ stack) output p = refl
reduced_connectives-base (Index q ∷ stack) output p = refl

-- some tokens make what the parser has read whole, and an expression ends before them
abbrev IsClosedBy : Parsing → List Token → Type 0
IsClosedBy parser more = (final : List Item) × (run more parser ≡ Some final)

close-truth : (stack : List Pending) (output : List Item) → IsForTruth stack →
    (more : List Token) × IsClosedBy (reduced_connectives stack output) more × (ends (next_of more) ≡ true)
close-truth [] output p = ([], (output, refl), refl)
close-truth (Joined word ∷ stack) output (base, p) =
    let c : (more : List Token) × IsClosedBy (reduced_connectives stack (output ++ junction_of word ∷ [])) more × (ends (next_of more) ≡ true) =
    close-truth stack (output ++ junction_of word ∷ []) p in
    (c.0, (c.1.0, ap (run c.0) (sym (reduced_connectives-base stack (output ++ junction_of word ∷ []) base)) ∙ c.1.1), c.2)
close-truth (Negated ∷ stack) output p = close-truth stack (output ++ Negate ∷ []) p
close-truth (Bracket true ∷ stack) output p = absurd p
close-truth (Bracket false ∷ stack) output p =
    let c : (more : List Token) × IsClosedBy (reduced_connectives stack output) more × (ends (next_of more) ≡ true) = close-truth stack output p in
    (Close ∷ c.0, c.1, refl)
close-truth (Compared relator ∷ stack) output p = absurd p
close-truth (Operated operator ∷ stack) output p = absurd p
close-truth (Index q ∷ stack) output p = absurd p

-- an equation closes what waits for an expression
close-equation : (stack : List Pending) (output : List Item) → is_numeric stack ≡ false → IsForTruth stack → ((i : List Item) → reduced_operators 0 stack i ≡ parsing HasNumber stack i) →
    (more : List Token) × IsClosedBy (parsing HasNumber stack output) more × (lookahead_precedence (next_of more) ≤ 0)
close-equation stack output h p same =
    let after : List Item = output ++ PushNumber 1 ∷ [] in
    let c : (more : List Token) × IsClosedBy (reduced_connectives stack (after ++ Relate Equal ∷ [])) more × (ends (next_of more) ≡ true) =
    close-truth stack (after ++ Relate Equal ∷ []) p in (
      Compares Equal ∷ Number 1 ∷ c.0,
      (
        c.1.0,
        ap (λ (s : Parsing). option_and_then (run (Number 1 ∷ c.0)) (shifted (Compares Equal) (reduced_relation false s))) (same output)
            ∙ ap (λ t. option_and_then (run (Number 1 ∷ c.0)) (cond t None (Some (parsing Expects (Compared Equal ∷ stack) output)))) h
            ∙ relation-run c.0 Equal stack after c.2 ∙ c.1.1,
      ),
      omega arith,
    )

close-number : (stack : List Pending) (output : List Item) → IsForNumber stack →
    (more : List Token) × IsClosedBy (parsing HasNumber stack output) more × (lookahead_precedence (next_of more) ≤ 0)
close-number [] output p = close-equation [] output refl p (λ i. refl)
close-number (Joined word ∷ stack) output p = close-equation (Joined word ∷ stack) output refl p (λ i. refl)
close-number (Negated ∷ stack) output p = close-equation (Negated ∷ stack) output refl p (λ i. refl)
close-number (Bracket true ∷ stack) output p =
    let c : (more : List Token) × IsClosedBy (parsing HasNumber stack output) more × (lookahead_precedence (next_of more) ≤ 0) = close-number stack output p in
    (Close ∷ c.0, c.1, omega arith)
close-number (Bracket false ∷ stack) output p =
    let c : (more : List Token) × IsClosedBy (parsing HasNumber stack output) more × (lookahead_precedence (next_of more) ≤ 0) =
    close-number stack output (number-of_truth stack p) in
    (Close ∷ c.0, c.1, omega arith)
close-number (Compared relator ∷ stack) output p =
    let c : (more : List Token) × IsClosedBy (reduced_connectives stack (output ++ Relate relator ∷ [])) more × (ends (next_of more) ≡ true) =
    close-truth stack (output ++ Relate relator ∷ []) p in
    (c.0, (c.1.0, relation-run c.0 relator stack output c.2 ∙ c.1.1), ends-loose (next_of c.0) c.2)
close-number (Operated operator ∷ stack) output p =
    let c : (more : List Token) × IsClosedBy (parsing HasNumber stack (output ++ Operate operator ∷ [])) more × (lookahead_precedence (next_of more) ≤ 0) =
    close-number stack (output ++ Operate operator ∷ []) p in (
      c.0,
      (
        c.1.0,
        operator-run c.0 operator stack output (omega (arith, c.2)) ∙ c.1.1,
      ),
      c.2,
    )
close-number (Index q ∷ stack) output p =
    let c : (more : List Token) × IsClosedBy (parsing HasNumber stack (output ++ Access q One ∷ [])) more × (lookahead_precedence (next_of more) ≤ 0) =
    close-number stack (output ++ Access q One ∷ []) p in
    (CloseIndex ∷ c.0, c.1, omega arith)

-- what a primitive closes with: a port
abbrev IsClosed : Parsing → Type 0
IsClosed parser = (more : List Token) × IsClosedBy parser more

close-primitive : (stack : List Pending) (output : List Item) → IsForTruth stack → (parser : Parsing) (more : List Token) →
    ((rest : List Token) → run (more ++ rest) parser ≡ run rest (reduced_connectives stack output)) → IsClosed parser
close-primitive stack output p parser more reads =
    let c : (m : List Token) × IsClosedBy (reduced_connectives stack output) m × (ends (next_of m) ≡ true) = close-truth stack output p in
    (more ++ c.0, (c.1.0, reads c.0 ∙ c.1.1))

close-operand : (stack : List Pending) (output : List Item) → IsForNumber stack → (parser : Parsing) (more : List Token) →
    ((rest : List Token) → run (more ++ rest) parser ≡ run rest (parsing HasNumber stack output)) → IsClosed parser
close-operand stack output p parser more reads =
    let c : (m : List Token) × IsClosedBy (parsing HasNumber stack output) m × (lookahead_precedence (next_of m) ≤ 0) = close-number stack output p in
    (more ++ c.0, (c.1.0, reads c.0 ∙ c.1.1))

pub close : (parser : Parsing) → IsProper parser → IsClosed parser
close (parsing Expects stack output) p = close-operand stack (output ++ PushNumber 1 ∷ []) p _ (Number 1 ∷ []) (λ rest. refl)
close (parsing HasNumber stack output) p = close-operand stack output p _ [] (λ rest. refl)
close (parsing HasTruth stack output) (base, p) =
    close-primitive stack output p _ [] (λ rest. ap (run rest) (sym (reduced_connectives-base stack output base)))
close (parsing (HasNamed q) stack output) p =
    close-operand stack ((output ++ PushNumber 1 ∷ []) ++ Access q One ∷ []) p _ (OpenIndex ∷ Number 1 ∷ CloseIndex ∷ []) (λ rest. refl)
close (parsing (Directed transport FromSource) stack output) p =
    close-primitive stack (output ++ PushPrimitive (IsPort transport FromSource 0) ∷ []) p _ (Port ∷ Number 0 ∷ []) (λ rest. refl)
close (parsing (Directed transport direction) stack output) p =
    close-primitive stack (output ++ PushPrimitive (IsPort transport direction 0) ∷ []) p _ (Port ∷ Number 0 ∷ []) (λ rest. refl)
close (parsing (Widened transport FromSource) stack output) p =
    close-primitive stack (output ++ PushPrimitive (IsPort transport FromSource 0) ∷ []) p _ (Destination ∷ Port ∷ Number 0 ∷ []) (λ rest. refl)
close (parsing (Widened transport direction) stack output) p =
    close-primitive stack (output ++ PushPrimitive (IsPort transport direction 0) ∷ []) p _ (Destination ∷ Port ∷ Number 0 ∷ []) (λ rest. refl)
close (parsing WantsProtocol stack output) p =
    close-primitive stack (output ++ PushPrimitive (IsProto 0) ∷ []) p _ (Number 0 ∷ []) (λ rest. refl)
close (parsing (WantsAddress direction) stack output) p =
    close-primitive stack (output ++ PushPrimitive (IsHost direction 0) ∷ []) p _ (Address 0 ∷ []) (λ rest. refl)
close (parsing (WantsNetwork direction) stack output) p =
    close-primitive stack (output ++ PushPrimitive (IsNet direction (record { address = 0; bits = 0 })) ∷ []) p _
    (Address 0 ∷ Operates Divide ∷ Number 0 ∷ []) (λ rest. refl)
close (parsing (WantsSlash direction a) stack output) p =
    close-primitive stack (output ++ PushPrimitive (IsNet direction (record { address = a; bits = 0 })) ∷ []) p _
    (Operates Divide ∷ Number 0 ∷ []) (λ rest. refl)
close (parsing (WantsBits direction a) stack output) p =
    close-primitive stack (output ++ PushPrimitive (IsNet direction (record { address = a; bits = 0 })) ∷ []) p _ (Number 0 ∷ []) (λ rest. refl)
close (parsing (WantsPort transport direction) stack output) p =
    close-primitive stack (output ++ PushPrimitive (IsPort transport direction 0) ∷ []) p _ (Number 0 ∷ []) (λ rest. refl)
close (parsing (WantsFirst transport direction) stack output) p =
    close-primitive stack (output ++ PushPrimitive (IsPortRange transport direction 0 0) ∷ []) p _
    (Number 0 ∷ Operates Subtract ∷ Number 0 ∷ []) (λ rest. refl)
close (parsing (WantsDash transport direction n) stack output) p =
    close-primitive stack (output ++ PushPrimitive (IsPortRange transport direction n 0) ∷ []) p _ (Operates Subtract ∷ Number 0 ∷ []) (λ rest. refl)
close (parsing (WantsLast transport direction n) stack output) p =
    close-primitive stack (output ++ PushPrimitive (IsPortRange transport direction n 0) ∷ []) p _ (Number 0 ∷ []) (λ rest. refl)
close (parsing WantsMost stack output) p = close-primitive stack (output ++ PushPrimitive (AtMost 0) ∷ []) p _ (Number 0 ∷ []) (λ rest. refl)
close (parsing WantsLeast stack output) p = close-primitive stack (output ++ PushPrimitive (AtLeast 0) ∷ []) p _ (Number 0 ∷ []) (λ rest. refl)
close (parsing (WantsSize q) stack output) p =
    close-operand stack (output ++ Access q One ∷ []) p _ (Number 1 ∷ CloseIndex ∷ []) (λ rest. refl)
close (parsing (WantsEnd q size) stack output) p = close-operand stack (output ++ Access q size ∷ []) p _ (CloseIndex ∷ []) (λ rest. refl)

-- every step keeps what is open fit
abbrev pub IsProperIfAny : Option Parsing → Type 0
IsProperIfAny found = IfAny IsProper found

reduced_connectives-proper : (stack : List Pending) (output : List Item) → IsForTruth stack → IsProper (reduced_connectives stack output)
reduced_connectives-proper [] output p = (tt, tt)
reduced_connectives-proper (Joined word ∷ stack) output p = p
reduced_connectives-proper (Negated ∷ stack) output p = reduced_connectives-proper stack (output ++ Negate ∷ []) p
reduced_connectives-proper (Bracket true ∷ stack) output p = absurd p
reduced_connectives-proper (Bracket false ∷ stack) output p = (tt, p)
reduced_connectives-proper (Compared relator ∷ stack) output p = absurd p
reduced_connectives-proper (Operated operator ∷ stack) output p = absurd p
reduced_connectives-proper (Index q ∷ stack) output p = absurd p

reduced_operators-proper : (precedence : ℕ) (stack : List Pending) (output : List Item) → IsForNumber stack → IsProper (reduced_operators precedence stack output)
reduced_operators-proper precedence [] output p = p
reduced_operators-proper precedence (Joined word ∷ stack) output p = p
reduced_operators-proper precedence (Negated ∷ stack) output p = p
reduced_operators-proper precedence (Bracket numeric ∷ stack) output p = p
reduced_operators-proper precedence (Compared relator ∷ stack) output p = p
reduced_operators-proper precedence (Index q ∷ stack) output p = p
reduced_operators-proper precedence (Operated operator ∷ stack) output p =
    elim (nat_le precedence (precedence_of operator))
    as (λ t. IsProper (cond t (reduced_operators precedence stack (output ++ Operate operator ∷ [])) (parsing HasNumber (Operated operator ∷ stack) output)))
    [ true ↦ reduced_operators-proper precedence stack (output ++ Operate operator ∷ []) p | false ↦ p ]

reduced_relation-proper : (end : Bool) (parser : Parsing) → IsProper parser → IsProper (reduced_relation end parser)
reduced_relation-proper true (parsing HasNumber (Compared relator ∷ stack) output) p = reduced_connectives-proper stack (output ++ Relate relator ∷ []) p
reduced_relation-proper _ parser p = p

declared-proper : (end numeric : Bool) (q : Protocol) (stack : List Pending) (output : List Item) → is_numeric stack ≡ numeric → IsForNumber stack →
    IsProper (reduced_name (end && negation_of numeric) q stack output)
declared-proper true false q stack output h p = reduced_connectives-proper stack (output ++ PushPrimitive (named q) ∷ []) (truth-of_number stack p h)
declared-proper true true q stack output h p = p
declared-proper false numeric q stack output h p = p

reduced-proper : (lookahead : Option Token) (parser : Parsing) → IsProper parser → IsProper (reduced lookahead parser)
reduced-proper lookahead (parsing HasNumber stack output) p =
    reduced_relation-proper (ends lookahead) (reduced_operators (lookahead_precedence lookahead) stack output) (reduced_operators-proper (lookahead_precedence lookahead) stack output p)
reduced-proper lookahead (parsing (HasNamed q) stack output) p = declared-proper (ends lookahead) (is_numeric stack) q stack output refl p
reduced-proper lookahead (parsing _ stack output) p = p

in_direction-proper : (token : Token) (transport : Transport) (direction : Direction) (stack : List Pending) (output : List Item) → IsForTruth stack →
    IsProperIfAny (in_direction token transport direction stack output)
in_direction-proper Host Unnamed direction stack output p = p
in_direction-proper Net Unnamed direction stack output p = p
in_direction-proper Port transport direction stack output p = p
in_direction-proper PortRange transport direction stack output p = p
in_direction-proper _ _ direction stack output p = tt

after_source-proper : (token : Token) (transport : Transport) (stack : List Pending) (output : List Item) → IsForTruth stack →
    IsProperIfAny (after_source transport token stack output)
after_source-proper (Connects Or) transport stack output p = p
after_source-proper (Connects And) transport stack output p = p
after_source-proper token transport stack output p = in_direction-proper token transport FromSource stack output p

begins_direction-proper : (token : Token) (transport : Transport) (stack : List Pending) (output : List Item) → IsForTruth stack →
    IsProperIfAny (begins_direction transport token stack output)
begins_direction-proper Source transport stack output p = p
begins_direction-proper Destination transport stack output p = p
begins_direction-proper token transport stack output p = in_direction-proper token transport Either stack output p

begins_truth-proper : (token : Token) (stack : List Pending) (output : List Item) → IsForTruth stack → IsProperIfAny (begins_truth token stack output)
begins_truth-proper Not stack output p = number-of_truth (Negated ∷ stack) p
begins_truth-proper Less stack output p = p
begins_truth-proper Greater stack output p = p
begins_truth-proper token stack output p = begins_direction-proper token Unnamed stack output p

bracket-proper : (numeric : Bool) (stack : List Pending) → is_numeric stack ≡ numeric → IsForNumber stack → IsForNumber (Bracket numeric ∷ stack)
bracket-proper true stack h p = p
bracket-proper false stack h p = truth-of_number stack p h

begins-proper : (token : Token) (stack : List Pending) (output : List Item) → IsForNumber stack → IsProperIfAny (begins token stack output)
begins-proper (Number n) stack output p = p
begins-proper Length stack output p = p
begins-proper (Named q) stack output p = p
begins-proper Open stack output p = bracket-proper (is_numeric stack) stack refl p
begins-proper token stack output p =
    unless IsProper (is_numeric stack) (begins_truth token stack output) (λ h. begins_truth-proper token stack output (truth-of_number stack p h))

after_number-proper : (token : Token) (stack : List Pending) (output : List Item) → IsForNumber stack → IsProperIfAny (after_number token stack output)
after_number-proper (Operates operator) stack output p = p
after_number-proper (Compares relator) stack output p =
    unless IsProper (is_numeric stack) (Some (parsing Expects (Compared relator ∷ stack) output)) (λ h. truth-of_number stack p h)
after_number-proper Close (Bracket true ∷ stack) output p = p
after_number-proper Close (Bracket false ∷ stack) output p = number-of_truth stack p
after_number-proper CloseIndex (Index q ∷ stack) output p = p
after_number-proper Colon (Index q ∷ stack) output p = p
after_number-proper _ _ output p = tt

after_truth-proper : (token : Token) (stack : List Pending) (output : List Item) → IsBase stack × IsForTruth stack → IsProperIfAny (after_truth token stack output)
after_truth-proper (Connects word) stack output p = p
after_truth-proper Close (Bracket true ∷ stack) output p = absurd p.1
after_truth-proper Close (Bracket false ∷ stack) output p = reduced_connectives-proper stack output p.1
after_truth-proper _ _ output p = tt

after_protocol-proper : (q : Protocol) (token : Token) (stack : List Pending) (output : List Item) → IsForTruth stack → IsProperIfAny (after_protocol q token stack output)
after_protocol-proper IpName Proto stack output p = p
after_protocol-proper TcpName token stack output p = begins_direction-proper token Tcp stack output p
after_protocol-proper UdpName token stack output p = begins_direction-proper token Udp stack output p
after_protocol-proper _ _ stack output p = tt

after_name-proper : (q : Protocol) (token : Token) (stack : List Pending) (output : List Item) → IsForNumber stack → IsProperIfAny (after_name q token stack output)
after_name-proper q OpenIndex stack output p = p
after_name-proper q token stack output p =
    unless IsProper (is_numeric stack) (after_protocol q token stack output) (λ h. after_protocol-proper q token stack output (truth-of_number stack p h))

in_primitive-proper : (state : State) (token : Token) (stack : List Pending) (output : List Item) → IsProper (parsing state stack output) →
    IsProperIfAny (in_primitive state token stack output)
in_primitive-proper (Directed transport FromSource) token stack output p = after_source-proper token transport stack output p
in_primitive-proper (Directed transport direction) token stack output p = in_direction-proper token transport direction stack output p
in_primitive-proper (Widened transport direction) Destination stack output p = p
in_primitive-proper WantsProtocol (Number n) stack output p = reduced_connectives-proper stack (output ++ PushPrimitive (IsProto n) ∷ []) p
in_primitive-proper (WantsAddress direction) (Address a) stack output p = reduced_connectives-proper stack (output ++ PushPrimitive (IsHost direction a) ∷ []) p
in_primitive-proper (WantsNetwork direction) (Address a) stack output p = p
in_primitive-proper (WantsSlash direction a) (Operates Divide) stack output p = p
in_primitive-proper (WantsBits direction a) (Number n) stack output p =
    reduced_connectives-proper stack (output ++ PushPrimitive (IsNet direction (record { address = a; bits = n })) ∷ []) p
in_primitive-proper (WantsPort transport direction) (Number n) stack output p =
    reduced_connectives-proper stack (output ++ PushPrimitive (IsPort transport direction n) ∷ []) p
in_primitive-proper (WantsFirst transport direction) (Number n) stack output p = p
in_primitive-proper (WantsDash transport direction n) (Operates Subtract) stack output p = p
in_primitive-proper (WantsLast transport direction n) (Number m) stack output p =
    reduced_connectives-proper stack (output ++ PushPrimitive (IsPortRange transport direction n m) ∷ []) p
in_primitive-proper WantsMost (Number n) stack output p = reduced_connectives-proper stack (output ++ PushPrimitive (AtMost n) ∷ []) p
in_primitive-proper WantsLeast (Number n) stack output p = reduced_connectives-proper stack (output ++ PushPrimitive (AtLeast n) ∷ []) p
in_primitive-proper _ _ stack output p = tt

sized-proper : (q : Protocol) (size : Option Size) (stack : List Pending) (output : List Item) → IsForNumber stack → IsProperIfAny (sized_by q size stack output)
sized-proper q None stack output p = tt
sized-proper q (Some size) stack output p = p

shifted-proper : (token : Token) (parser : Parsing) → IsProper parser → IsProperIfAny (shifted token parser)
shifted-proper token (parsing Expects stack output) p = begins-proper token stack output p
shifted-proper token (parsing HasNumber stack output) p = after_number-proper token stack output p
shifted-proper token (parsing HasTruth stack output) p = after_truth-proper token stack output p
shifted-proper token (parsing (HasNamed q) stack output) p = after_name-proper q token stack output p
shifted-proper (Number n) (parsing (WantsSize q) stack output) p = sized-proper q (size_of_number n) stack output p
shifted-proper CloseIndex (parsing (WantsEnd q size) stack output) p = p
shifted-proper token (parsing state stack output) p = in_primitive-proper state token stack output p

pub step-proper : (token : Token) (parser : Parsing) → IsProper parser → IsProperIfAny (shifted token (reduced (Some token) parser))
step-proper token parser p = shifted-proper token (reduced (Some token) parser) (reduced-proper (Some token) parser p)
