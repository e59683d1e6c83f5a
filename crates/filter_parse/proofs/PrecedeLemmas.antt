-- The parser's state tells which tokens stand before the lookahead.
use Rattle.std.proofs.Common.{◌≡◌, ◌∙◌, ◌∷◌, ◌++◌, ◌&&◌, Bool, List, None, Option, Some, [], ap, arith, cond, false, nat_le, refl, sym, true, ℕ}
use Rattle.filter_tree.specs.declared.arithmetic.Operator.{Operator}
use Rattle.filter_tree.specs.declared.arithmetic.Operator.TheVariants.{Add, And as BitAnd, Divide, ExclusiveOr, Modulo, Multiply, Or as BitOr, ShiftLeft, ShiftRight, Subtract}
use Rattle.filter_tree.specs.declared.arithmetic.Protocol.{Protocol}
use Rattle.filter_tree.specs.declared.arithmetic.Protocol.TheVariants.{Icmp, Ip as IpName, Tcp as TcpName, Udp as UdpName}
use Rattle.filter_tree.specs.declared.arithmetic.Size.{Size}
use Rattle.filter_tree.specs.declared.primitive.Direction.{Direction}
use Rattle.filter_tree.specs.declared.primitive.Direction.TheVariants.{Either, Source as FromSource}
use Rattle.filter_tree.specs.declared.primitive.Primitive.TheVariants.{AtLeast, AtMost, Host as IsHost, Net as IsNet, Port as IsPort, PortRange as IsPortRange, Proto as IsProto}
use Rattle.filter_tree.specs.declared.primitive.Transport.{Transport}
use Rattle.filter_tree.specs.declared.primitive.Transport.TheVariants.{Tcp, Udp, Unnamed}
use Rattle.filter_parse.specs.declared.fault.ParseFault.TheVariants.{NumberTooBig}
use Rattle.filter_parse.specs.declared.item.Item.{Item}
use Rattle.filter_parse.specs.declared.item.Item.TheVariants.{Negate, Operate, Primitive as PushPrimitive, Relate}
use Rattle.filter_parse.specs.declared.state.State.{State}
use Rattle.filter_parse.specs.declared.state.State.TheVariants.{Directed, Expects, Named as HasNamed, Number as HasNumber, Truth as HasTruth, WantsAddress, WantsBits, WantsDash, WantsEnd, WantsFirst, WantsLast, WantsLeast, WantsMost, WantsNetwork, WantsPort, WantsProtocol, WantsSize, WantsSlash, Widened}
use Rattle.filter_parse.specs.declared.state.Pending.{Pending}
use Rattle.filter_parse.specs.declared.state.Pending.TheVariants.{Bracket, Compared, Index, Joined, Negated, Operated}
use Rattle.filter_parse.specs.declared.token.Connective.TheVariants.{And, Or}
use Rattle.filter_parse.specs.declared.token.Token.{Token}
use Rattle.filter_parse.specs.declared.token.Token.TheVariants.{Address, Close, CloseIndex, Colon, Compares, Connects, Destination, Greater, Host, Length, Less, Named, Net, Not, Number, Open, OpenIndex, Operates, Port, PortRange, Proto, Source}
use Rattle.filter_parse.specs.Fault.{bracket_fault, limit_after, network_after, open_brackets, own_fault, prefix_fault}
use Rattle.filter_parse.specs.Grammar.{named, precedence_of}
use Rattle.filter_parse.specs.body.Parser.{Parsing, after_name, after_number, after_protocol, after_source, after_truth, begins, begins_direction, begins_truth, ends, fault_in, in_direction, in_primitive, is_numeric, lookahead_precedence, negation_of, parsing, reduced, reduced_connectives, reduced_name, reduced_operators, reduced_relation, shifted, size_of_number, sized_by, state_of}
use Rattle.filter_parse.proofs.Gathered.{IfAny, unless}

-- the number or address behind these tokens is an operand's
abbrev pub IsFree : List Token → Type 0
IsFree before = (limit_after before ≡ 4294967295) × (network_after before ≡ None)

-- which tokens stand before the lookahead
abbrev pub Precedes : State → List Token → Type 0
Precedes Expects before = IsFree before
Precedes HasNumber before = (operator : Operator) → IsFree (Operates operator ∷ before)
Precedes WantsProtocol before = (b : List Token) × (before ≡ Proto ∷ b)
Precedes (WantsNetwork direction) before = (b : List Token) × (before ≡ Net ∷ b)
Precedes (WantsSlash direction a) before = (b : List Token) × (before ≡ Address a ∷ Net ∷ b)
Precedes (WantsBits direction a) before = (b : List Token) × (before ≡ Operates Divide ∷ Address a ∷ Net ∷ b)
Precedes (WantsPort transport direction) before = (b : List Token) × (before ≡ Port ∷ b)
Precedes (WantsFirst transport direction) before = (b : List Token) × (before ≡ PortRange ∷ b)
Precedes (WantsDash transport direction n) before = (b : List Token) × (before ≡ Number n ∷ PortRange ∷ b)
Precedes (WantsLast transport direction n) before = (b : List Token) × (before ≡ Operates Subtract ∷ Number n ∷ PortRange ∷ b)
Precedes WantsMost before = (b : List Token) × (before ≡ Less ∷ b)
Precedes WantsLeast before = (b : List Token) × (before ≡ Greater ∷ b)
Precedes (WantsSize p) before = (b : List Token) × (before ≡ Colon ∷ b)
Precedes _ before = Unit {0}

abbrev pub PrecedesIfAny : Option Parsing → List Token → Type 0
PrecedesIfAny found before = IfAny (λ parser. Precedes (state_of parser) before) found

-- an operator behind a token that is neither the first number of a range nor the address of a network
free-operator : (before : List Token) → limit_after (Operates Subtract ∷ before) ≡ 4294967295 → network_after (Operates Divide ∷ before) ≡ None →
    (operator : Operator) → IsFree (Operates operator ∷ before)
free-operator before limit network BitOr = (refl, refl)
free-operator before limit network ExclusiveOr = (refl, refl)
free-operator before limit network BitAnd = (refl, refl)
free-operator before limit network ShiftLeft = (refl, refl)
free-operator before limit network ShiftRight = (refl, refl)
free-operator before limit network Add = (refl, refl)
free-operator before limit network Subtract = (limit, refl)
free-operator before limit network Multiply = (refl, refl)
free-operator before limit network Divide = (refl, network)
free-operator before limit network Modulo = (refl, refl)

pub free-length : (before : List Token) (operator : Operator) → IsFree (Operates operator ∷ Length ∷ before)
free-length before = free-operator (Length ∷ before) refl refl

pub free-close : (before : List Token) (operator : Operator) → IsFree (Operates operator ∷ Close ∷ before)
free-close before = free-operator (Close ∷ before) refl refl

pub free-close_index : (before : List Token) (operator : Operator) → IsFree (Operates operator ∷ CloseIndex ∷ before)
free-close_index before = free-operator (CloseIndex ∷ before) refl refl

free-limit : (before : List Token) (n : ℕ) → IsFree before → limit_after (Operates Subtract ∷ Number n ∷ before) ≡ 4294967295
free-limit [] n f = refl
free-limit (PortRange ∷ before) n f = absurd (omega (arith, f.0))
free-limit (_ ∷ before) n f = refl

pub free-number : (before : List Token) (n : ℕ) → IsFree before → (operator : Operator) → IsFree (Operates operator ∷ Number n ∷ before)
free-number before n f = free-operator (Number n ∷ before) (free-limit before n f) refl

reduced_connectives-precedes : (before : List Token) (stack : List Pending) (output : List Item) → Precedes (state_of (reduced_connectives stack output)) before
reduced_connectives-precedes before [] output = tt
reduced_connectives-precedes before (Joined word ∷ stack) output = tt
reduced_connectives-precedes before (Negated ∷ stack) output = reduced_connectives-precedes before stack (output ++ Negate ∷ [])
reduced_connectives-precedes before (Bracket numeric ∷ stack) output = tt
reduced_connectives-precedes before (Compared relator ∷ stack) output = tt
reduced_connectives-precedes before (Operated operator ∷ stack) output = tt
reduced_connectives-precedes before (Index q ∷ stack) output = tt

reduced_operators-precedes : (before : List Token) (precedence : ℕ) (stack : List Pending) (output : List Item) → Precedes HasNumber before →
    Precedes (state_of (reduced_operators precedence stack output)) before
reduced_operators-precedes before precedence [] output p = p
reduced_operators-precedes before precedence (Joined word ∷ stack) output p = p
reduced_operators-precedes before precedence (Negated ∷ stack) output p = p
reduced_operators-precedes before precedence (Bracket numeric ∷ stack) output p = p
reduced_operators-precedes before precedence (Compared relator ∷ stack) output p = p
reduced_operators-precedes before precedence (Index q ∷ stack) output p = p
reduced_operators-precedes before precedence (Operated operator ∷ stack) output p =
    elim (nat_le precedence (precedence_of operator))
    as (λ t. Precedes (state_of (cond t (reduced_operators precedence stack (output ++ Operate operator ∷ [])) (parsing HasNumber (Operated operator ∷ stack) output))) before)
    [ true ↦ reduced_operators-precedes before precedence stack (output ++ Operate operator ∷ []) p | false ↦ p ]

reduced_relation-precedes : (before : List Token) (end : Bool) (parser : Parsing) → Precedes (state_of parser) before → Precedes (state_of (reduced_relation end parser)) before
reduced_relation-precedes before true (parsing HasNumber (Compared relator ∷ stack) output) p = reduced_connectives-precedes before stack (output ++ Relate relator ∷ [])
reduced_relation-precedes before _ parser p = p

declared-precedes : (before : List Token) (is : Bool) (q : Protocol) (stack : List Pending) (output : List Item) → Precedes (state_of (reduced_name is q stack output)) before
declared-precedes before true q stack output = reduced_connectives-precedes before stack (output ++ PushPrimitive (named q) ∷ [])
declared-precedes before false q stack output = tt

reduced-precedes : (before : List Token) (lookahead : Option Token) (parser : Parsing) → Precedes (state_of parser) before → Precedes (state_of (reduced lookahead parser)) before
reduced-precedes before lookahead (parsing HasNumber stack output) p =
    reduced_relation-precedes before (ends lookahead) (reduced_operators (lookahead_precedence lookahead) stack output) (reduced_operators-precedes before (lookahead_precedence lookahead) stack output p)
reduced-precedes before lookahead (parsing (HasNamed q) stack output) p = declared-precedes before (ends lookahead && negation_of (is_numeric stack)) q stack output
reduced-precedes before lookahead (parsing _ stack output) p = p

in_direction-precedes : (before : List Token) (token : Token) (transport : Transport) (direction : Direction) (stack : List Pending) (output : List Item) →
    PrecedesIfAny (in_direction token transport direction stack output) (token ∷ before)
in_direction-precedes before Host Unnamed direction stack output = tt
in_direction-precedes before Net Unnamed direction stack output = (before, refl)
in_direction-precedes before Port transport direction stack output = (before, refl)
in_direction-precedes before PortRange transport direction stack output = (before, refl)
in_direction-precedes before _ _ direction stack output = tt

after_source-precedes : (before : List Token) (token : Token) (transport : Transport) (stack : List Pending) (output : List Item) →
    PrecedesIfAny (after_source transport token stack output) (token ∷ before)
after_source-precedes before (Connects Or) transport stack output = tt
after_source-precedes before (Connects And) transport stack output = tt
after_source-precedes before token transport stack output = in_direction-precedes before token transport FromSource stack output

begins_direction-precedes : (before : List Token) (token : Token) (transport : Transport) (stack : List Pending) (output : List Item) →
    PrecedesIfAny (begins_direction transport token stack output) (token ∷ before)
begins_direction-precedes before Source transport stack output = tt
begins_direction-precedes before Destination transport stack output = tt
begins_direction-precedes before token transport stack output = in_direction-precedes before token transport Either stack output

begins_truth-precedes : (before : List Token) (token : Token) (stack : List Pending) (output : List Item) → PrecedesIfAny (begins_truth token stack output) (token ∷ before)
begins_truth-precedes before Not stack output = (refl, refl)
begins_truth-precedes before Less stack output = (before, refl)
begins_truth-precedes before Greater stack output = (before, refl)
begins_truth-precedes before token stack output = begins_direction-precedes before token Unnamed stack output

begins-precedes : (before : List Token) (token : Token) (stack : List Pending) (output : List Item) → IsFree before → PrecedesIfAny (begins token stack output) (token ∷ before)
begins-precedes before (Number n) stack output p = free-number before n p
begins-precedes before Length stack output p = free-length before
begins-precedes before (Named q) stack output p = tt
begins-precedes before Open stack output p = (refl, refl)
begins-precedes before token stack output p = unless (λ s. Precedes (state_of s) (token ∷ before)) (is_numeric stack) (begins_truth token stack output) (λ _. begins_truth-precedes before token stack output)

after_number-precedes : (before : List Token) (token : Token) (stack : List Pending) (output : List Item) → ((operator : Operator) → IsFree (Operates operator ∷ before)) →
    PrecedesIfAny (after_number token stack output) (token ∷ before)
after_number-precedes before (Operates operator) stack output p = p operator
after_number-precedes before (Compares relator) stack output p =
    unless (λ s. Precedes (state_of s) (Compares relator ∷ before)) (is_numeric stack) (Some (parsing Expects (Compared relator ∷ stack) output)) (λ _. (refl, refl))
after_number-precedes before Close (Bracket numeric ∷ stack) output p = free-close before
after_number-precedes before CloseIndex (Index q ∷ stack) output p = free-close_index before
after_number-precedes before Colon (Index q ∷ stack) output p = (before, refl)
after_number-precedes before _ _ output p = tt

after_truth-precedes : (before : List Token) (token : Token) (stack : List Pending) (output : List Item) → PrecedesIfAny (after_truth token stack output) (token ∷ before)
after_truth-precedes before (Connects word) stack output = (refl, refl)
after_truth-precedes before Close (Bracket numeric ∷ stack) output = reduced_connectives-precedes (Close ∷ before) stack output
after_truth-precedes before _ _ output = tt

after_protocol-precedes : (before : List Token) (q : Protocol) (token : Token) (stack : List Pending) (output : List Item) → PrecedesIfAny (after_protocol q token stack output) (token ∷ before)
after_protocol-precedes before IpName Proto stack output = (before, refl)
after_protocol-precedes before TcpName token stack output = begins_direction-precedes before token Tcp stack output
after_protocol-precedes before UdpName token stack output = begins_direction-precedes before token Udp stack output
after_protocol-precedes before _ _ stack output = tt

after_name-precedes : (before : List Token) (q : Protocol) (token : Token) (stack : List Pending) (output : List Item) → PrecedesIfAny (after_name q token stack output) (token ∷ before)
after_name-precedes before q OpenIndex stack output = (refl, refl)
after_name-precedes before q token stack output =
    unless (λ s. Precedes (state_of s) (token ∷ before)) (is_numeric stack) (after_protocol q token stack output) (λ _. after_protocol-precedes before q token stack output)

in_primitive-precedes : (before : List Token) (state : State) (token : Token) (stack : List Pending) (output : List Item) → Precedes state before →
    PrecedesIfAny (in_primitive state token stack output) (token ∷ before)
in_primitive-precedes before (Directed transport FromSource) token stack output p = after_source-precedes before token transport stack output
in_primitive-precedes before (Directed transport direction) token stack output p = in_direction-precedes before token transport direction stack output
in_primitive-precedes before (Widened transport direction) Destination stack output p = tt
in_primitive-precedes before WantsProtocol (Number n) stack output p = reduced_connectives-precedes (Number n ∷ before) stack (output ++ PushPrimitive (IsProto n) ∷ [])
in_primitive-precedes before (WantsAddress direction) (Address a) stack output p =
    reduced_connectives-precedes (Address a ∷ before) stack (output ++ PushPrimitive (IsHost direction a) ∷ [])
in_primitive-precedes before (WantsNetwork direction) (Address a) stack output (b, is) = (b, ap (λ ts. Address a ∷ ts) is)
in_primitive-precedes before (WantsSlash direction a) (Operates Divide) stack output (b, is) = (b, ap (λ ts. Operates Divide ∷ ts) is)
in_primitive-precedes before (WantsBits direction a) (Number n) stack output p =
    reduced_connectives-precedes (Number n ∷ before) stack (output ++ PushPrimitive (IsNet direction (record { address = a; bits = n })) ∷ [])
in_primitive-precedes before (WantsPort transport direction) (Number n) stack output p =
    reduced_connectives-precedes (Number n ∷ before) stack (output ++ PushPrimitive (IsPort transport direction n) ∷ [])
in_primitive-precedes before (WantsFirst transport direction) (Number n) stack output (b, is) = (b, ap (λ ts. Number n ∷ ts) is)
in_primitive-precedes before (WantsDash transport direction n) (Operates Subtract) stack output (b, is) = (b, ap (λ ts. Operates Subtract ∷ ts) is)
in_primitive-precedes before (WantsLast transport direction n) (Number m) stack output p =
    reduced_connectives-precedes (Number m ∷ before) stack (output ++ PushPrimitive (IsPortRange transport direction n m) ∷ [])
in_primitive-precedes before WantsMost (Number n) stack output p = reduced_connectives-precedes (Number n ∷ before) stack (output ++ PushPrimitive (AtMost n) ∷ [])
in_primitive-precedes before WantsLeast (Number n) stack output p = reduced_connectives-precedes (Number n ∷ before) stack (output ++ PushPrimitive (AtLeast n) ∷ [])
in_primitive-precedes before _ _ stack output p = tt

sized-precedes : (before : List Token) (q : Protocol) (size : Option Size) (stack : List Pending) (output : List Item) → PrecedesIfAny (sized_by q size stack output) before
sized-precedes before q None stack output = tt
sized-precedes before q (Some size) stack output = tt

shifted-precedes : (before : List Token) (token : Token) (parser : Parsing) → Precedes (state_of parser) before → PrecedesIfAny (shifted token parser) (token ∷ before)
shifted-precedes before token (parsing Expects stack output) p = begins-precedes before token stack output p
shifted-precedes before token (parsing HasNumber stack output) p = after_number-precedes before token stack output p
shifted-precedes before token (parsing HasTruth stack output) p = after_truth-precedes before token stack output
shifted-precedes before token (parsing (HasNamed q) stack output) p = after_name-precedes before q token stack output
shifted-precedes before (Number n) (parsing (WantsSize q) stack output) p = sized-precedes (Number n ∷ before) q (size_of_number n) stack output
shifted-precedes before CloseIndex (parsing (WantsEnd q size) stack output) p = free-close_index before
shifted-precedes before token (parsing state stack output) p = in_primitive-precedes before state token stack output p

pub step-precedes : (before : List Token) (token : Token) (parser : Parsing) → Precedes (state_of parser) before →
    PrecedesIfAny (shifted token (reduced (Some token) parser)) (token ∷ before)
step-precedes before token parser p = shifted-precedes before token (reduced (Some token) parser) (reduced-precedes before (Some token) parser p)

reduced_operators-refuses : (n : ℕ) (stack : List Pending) (output : List Item) → shifted (Number n) (reduced_operators 0 stack output) ≡ None
reduced_operators-refuses n [] output = refl
reduced_operators-refuses n (Joined word ∷ stack) output = refl
reduced_operators-refuses n (Negated ∷ stack) output = refl
reduced_operators-refuses n (Bracket numeric ∷ stack) output = refl
reduced_operators-refuses n (Compared relator ∷ stack) output = refl
reduced_operators-refuses n (Index q ∷ stack) output = refl
reduced_operators-refuses n (Operated operator ∷ stack) output =
    elim (nat_le 0 (precedence_of operator))
    as (λ t. shifted (Number n) (cond t (reduced_operators 0 stack (output ++ Operate operator ∷ [])) (parsing HasNumber (Operated operator ∷ stack) output)) ≡ None)
    [ true ↦ reduced_operators-refuses n stack (output ++ Operate operator ∷ []) | false ↦ refl ]

name-refuses : (q : Protocol) (test : Bool) (n : ℕ) (stack : List Pending) (output : List Item) →
    cond test None (after_protocol q (Number n) stack output) ≡ None
name-refuses q true n stack output = refl
name-refuses IpName false n stack output = refl
name-refuses TcpName false n stack output = refl
name-refuses UdpName false n stack output = refl
name-refuses Icmp false n stack output = refl

number-faults : (limit other : ℕ) (network elsewhere : Option ℕ) (n at : ℕ) → limit ≡ other → network ≡ elsewhere →
    (cond (nat_le n limit) (prefix_fault network n at) (Some (NumberTooBig at))) ≡ (cond (nat_le n other) (prefix_fault elsewhere n at) (Some (NumberTooBig at)))
number-faults limit other network elsewhere n at e f =
    ap (λ l. cond (nat_le n l) (prefix_fault network n at) (Some (NumberTooBig at))) e
    ∙ ap (λ w. cond (nat_le n other) (prefix_fault w n at) (Some (NumberTooBig at))) f

-- a number that fits has the fault that the tokens before it say
number-fault : (before : List Token) (n at count : ℕ) (state : State) (stack : List Pending) (output : List Item) (s : Parsing) → Precedes state before →
    shifted (Number n) (reduced (Some (Number n)) (parsing state stack output)) ≡ Some s →
    own_fault before (Number n) at ≡ fault_in (state_of (reduced (Some (Number n)) (parsing state stack output))) count (Number n) at
number-fault before n at count Expects stack output s p h = number-faults _ _ _ _ n at p.0 p.1
number-fault before n at count HasNumber stack output s p h = absurd (let e = reduced_operators-refuses n stack output in cc)
number-fault before n at count HasTruth stack output s p h = absurd cc
number-fault before n at count (HasNamed q) stack output s p h = absurd (let e = name-refuses q (is_numeric stack) n stack output in cc)
number-fault before n at count (Directed transport FromSource) stack output s p h = absurd cc
number-fault before n at count (Directed transport direction) stack output s p h = absurd cc
number-fault before n at count (Widened transport direction) stack output s p h = absurd cc
number-fault before n at count WantsProtocol stack output s (b, is) h = ap (λ ts. own_fault ts (Number n) at) is
number-fault before n at count (WantsAddress direction) stack output s p h = absurd cc
number-fault before n at count (WantsNetwork direction) stack output s p h = absurd cc
number-fault before n at count (WantsSlash direction a) stack output s p h = absurd cc
number-fault before n at count (WantsBits direction a) stack output s (b, is) h = ap (λ ts. own_fault ts (Number n) at) is
number-fault before n at count (WantsPort transport direction) stack output s (b, is) h = ap (λ ts. own_fault ts (Number n) at) is
number-fault before n at count (WantsFirst transport direction) stack output s (b, is) h = ap (λ ts. own_fault ts (Number n) at) is
number-fault before n at count (WantsDash transport direction m) stack output s p h = absurd cc
number-fault before n at count (WantsLast transport direction m) stack output s (b, is) h = ap (λ ts. own_fault ts (Number n) at) is
number-fault before n at count WantsMost stack output s (b, is) h = ap (λ ts. own_fault ts (Number n) at) is
number-fault before n at count WantsLeast stack output s (b, is) h = ap (λ ts. own_fault ts (Number n) at) is
number-fault before n at count (WantsSize q) stack output s (b, is) h = ap (λ ts. own_fault ts (Number n) at) is
number-fault before n at count (WantsEnd q size) stack output s p h = absurd cc

-- the fault that the parser sees is the one that the tokens before say
pub own_fault-seen : (before : List Token) (token : Token) (at count : ℕ) (parser s : Parsing) → Precedes (state_of parser) before →
    count ≡ open_brackets before → shifted token (reduced (Some token) parser) ≡ Some s →
    own_fault before token at ≡ fault_in (state_of (reduced (Some token) parser)) count token at
own_fault-seen before (Number n) at count (parsing state stack output) s p e h = number-fault before n at count state stack output s p h
own_fault-seen before Open at count (parsing state stack output) s p e h = ap (λ c. bracket_fault c at) (sym e)
own_fault-seen before OpenIndex at count (parsing state stack output) s p e h = ap (λ c. bracket_fault c at) (sym e)
own_fault-seen before _ at count (parsing state stack output) s p e h = refl
