-- The parser as a machine: its state, its stack with the top first, and its output so far in postfix order. A step reduces by
-- the lookahead, and then shifts it.
use Rattle.std.specs.Prelude.{◌≡◌, ◌⊎◌, ◌∷◌, ◌++◌, ◌==◌, ◌&&◌, Bool, List, None, Option, Some, [], false, if◌then◌else◌, length, nat_le, true, Result, Ok, Err, ℕ}
use Rattle.filter_tree.specs.declared.arithmetic.Operator.{Operator}
use Rattle.filter_tree.specs.declared.arithmetic.Operator.TheVariants.{Divide, Subtract}
use Rattle.filter_tree.specs.declared.arithmetic.Protocol.{Protocol}
use Rattle.filter_tree.specs.declared.arithmetic.Protocol.TheVariants.{Ip as IpName, Tcp as TcpName, Udp as UdpName}
use Rattle.filter_tree.specs.declared.arithmetic.Size.{Size}
use Rattle.filter_tree.specs.declared.arithmetic.Size.TheVariants.{Four, One, Two}
use Rattle.filter_tree.specs.declared.primitive.Direction.{Direction}
use Rattle.filter_tree.specs.declared.primitive.Direction.TheVariants.{Both, Destination as ToDestination, Either, Source as FromSource}
use Rattle.filter_tree.specs.declared.primitive.Primitive.TheVariants.{AtLeast, AtMost, Host as IsHost, Net as IsNet, Port as IsPort, PortRange as IsPortRange, Proto as IsProto}
use Rattle.filter_tree.specs.declared.primitive.Transport.{Transport}
use Rattle.filter_tree.specs.declared.primitive.Transport.TheVariants.{Tcp, Udp, Unnamed}
use Rattle.filter_parse.specs.declared.fault.ParseFault.{ParseFault}
use Rattle.filter_parse.specs.declared.fault.ParseFault.TheVariants.{BadAddress, NumberTooBig, OutOfMemory, Syntax}
use Rattle.filter_parse.specs.declared.item.Item.{Item}
use Rattle.filter_parse.specs.declared.item.Item.TheVariants.{Access, Conjoin, Disjoin, Length as PushLength, Negate, Number as PushNumber, Operate, Primitive as PushPrimitive, Relate}
use Rattle.filter_parse.specs.declared.parser.Parser.{Parser}
use Rattle.filter_parse.specs.declared.state.State.{State}
use Rattle.filter_parse.specs.declared.state.State.TheVariants.{Directed, Expects, Named as HasNamed, Number as HasNumber, Truth as HasTruth, WantsAddress, WantsBits, WantsDash, WantsEnd, WantsFirst, WantsLast, WantsLeast, WantsMost, WantsNetwork, WantsPort, WantsProtocol, WantsSize, WantsSlash, Widened}
use Rattle.filter_parse.specs.declared.state.Pending.{Pending}
use Rattle.filter_parse.specs.declared.state.Pending.TheVariants.{Bracket, Compared, Index, Joined, Negated, Operated}
use Rattle.filter_parse.specs.declared.token.Connective.{Connective}
use Rattle.filter_parse.specs.declared.token.Connective.TheVariants.{And, AndSign, Or, OrSign}
use Rattle.filter_parse.specs.declared.token.Token.{Token}
use Rattle.filter_parse.specs.declared.token.Token.TheVariants.{Address, Close, CloseIndex, Colon, Compares, Connects, Destination, Greater, Host, Length, Less, Named, Net, Not, Number, Open, OpenIndex, Operates, Port, PortRange, Proto, Source}
use Rattle.filter_parse.specs.Fault.{bracket_fault, open_after, prefix_fault}
use Rattle.filter_parse.specs.Grammar.{named, precedence_of}
use Rattle.filter_parse.specs.body.Stack.{from_top}
use Rattle.filter_parse.specs.Token.{Placed}
use Rattle.filter_parse.specs.body.Scan.{tokens_of}

-- the state, the stack and the output
pub data Parsing : Type 0 where
  parsing : State → List Pending → List Item → Parsing

-- the part that stands for `and`, `&&`, `or` and `||`
abbrev pub junction_of : Connective → Item
junction_of And = Conjoin
junction_of AndSign = Conjoin
junction_of Or = Disjoin
junction_of OrSign = Disjoin

-- whether only an arithmetic expression may stand above the top
abbrev pub is_numeric : List Pending → Bool
is_numeric (Bracket numeric ∷ stack) = numeric
is_numeric (Compared relator ∷ stack) = true
is_numeric (Operated operator ∷ stack) = true
is_numeric (Index protocol ∷ stack) = true
is_numeric _ = false

-- how tightly the lookahead takes an arithmetic expression from the operators before it
abbrev pub lookahead_precedence : Option Token → ℕ
lookahead_precedence (Some (Operates operator)) = precedence_of operator
lookahead_precedence _ = 0

-- whether an expression ends before the lookahead
abbrev pub ends : Option Token → Bool
ends None = true
ends (Some (Connects word)) = true
ends (Some Close) = true
ends _ = false

-- a whole operand reduces the operators on top that bind at least as tightly as a precedence says
abbrev pub reduced_operators : ℕ → List Pending → List Item → Parsing
reduced_operators precedence (Operated operator ∷ stack) output =
    if nat_le precedence (precedence_of operator) then reduced_operators precedence stack (output ++ Operate operator ∷ [])
    else parsing HasNumber (Operated operator ∷ stack) output
reduced_operators precedence stack output = parsing HasNumber stack output

-- a whole expression reduces each `not` on top, and the one `and` or `or` below them
abbrev pub reduced_connectives : List Pending → List Item → Parsing
reduced_connectives (Negated ∷ stack) output = reduced_connectives stack (output ++ Negate ∷ [])
reduced_connectives (Joined word ∷ stack) output = parsing HasTruth stack (output ++ junction_of word ∷ [])
reduced_connectives stack output = parsing HasTruth stack output

-- the relation on top is reduced where an expression ends
abbrev pub reduced_relation : Bool → Parsing → Parsing
reduced_relation true (parsing HasNumber (Compared relator ∷ stack) output) = reduced_connectives stack (output ++ Relate relator ∷ [])
reduced_relation _ parser = parser

-- so is a protocol's name that is an expression
abbrev pub reduced_name : Bool → Protocol → List Pending → List Item → Parsing
reduced_name true protocol stack output = reduced_connectives stack (output ++ PushPrimitive (named protocol) ∷ [])
reduced_name false protocol stack output = parsing (HasNamed protocol) stack output

-- not
abbrev pub negation_of : Bool → Bool
negation_of true = false
negation_of false = true

-- what the lookahead reduces
abbrev pub reduced : Option Token → Parsing → Parsing
reduced lookahead (parsing HasNumber stack output) = reduced_relation (ends lookahead) (reduced_operators (lookahead_precedence lookahead) stack output)
reduced lookahead (parsing (HasNamed protocol) stack output) =
    reduced_name (ends lookahead && negation_of (is_numeric stack)) protocol stack output
reduced lookahead parser = parser

-- Shifts. The lookahead behind the direction of a primitive, which begins the rest of it; `None` where no expression goes on so.
abbrev pub in_direction : Token → Transport → Direction → List Pending → List Item → Option Parsing
in_direction Host Unnamed direction stack output = Some (parsing (WantsAddress direction) stack output)
in_direction Net Unnamed direction stack output = Some (parsing (WantsNetwork direction) stack output)
in_direction Port transport direction stack output = Some (parsing (WantsPort transport direction) stack output)
in_direction PortRange transport direction stack output = Some (parsing (WantsFirst transport direction) stack output)
in_direction _ _ _ _ _ = None

-- the lookahead behind `src`, which `or` and `and` may widen
abbrev pub after_source : Transport → Token → List Pending → List Item → Option Parsing
after_source transport (Connects Or) stack output = Some (parsing (Widened transport Either) stack output)
after_source transport (Connects And) stack output = Some (parsing (Widened transport Both) stack output)
after_source transport token stack output = in_direction token transport FromSource stack output

-- the lookahead that begins a primitive's direction
abbrev pub begins_direction : Transport → Token → List Pending → List Item → Option Parsing
begins_direction transport Source stack output = Some (parsing (Directed transport FromSource) stack output)
begins_direction transport Destination stack output = Some (parsing (Directed transport ToDestination) stack output)
begins_direction transport token stack output = in_direction token transport Either stack output

-- the lookahead that begins an expression and no arithmetic one
abbrev pub begins_truth : Token → List Pending → List Item → Option Parsing
begins_truth Not stack output = Some (parsing Expects (Negated ∷ stack) output)
begins_truth Less stack output = Some (parsing WantsMost stack output)
begins_truth Greater stack output = Some (parsing WantsLeast stack output)
begins_truth token stack output = begins_direction Unnamed token stack output

-- the lookahead that begins an expression or an arithmetic one
abbrev pub begins : Token → List Pending → List Item → Option Parsing
begins (Number n) stack output = Some (parsing HasNumber stack (output ++ PushNumber n ∷ []))
begins Length stack output = Some (parsing HasNumber stack (output ++ PushLength ∷ []))
begins (Named protocol) stack output = Some (parsing (HasNamed protocol) stack output)
begins Open stack output = Some (parsing Expects (Bracket (is_numeric stack) ∷ stack) output)
begins token stack output = if is_numeric stack then None else begins_truth token stack output

-- the lookahead behind an arithmetic expression
abbrev pub after_number : Token → List Pending → List Item → Option Parsing
after_number (Operates operator) stack output = Some (parsing Expects (Operated operator ∷ stack) output)
after_number (Compares relator) stack output =
    if is_numeric stack then None else Some (parsing Expects (Compared relator ∷ stack) output)
after_number Close (Bracket numeric ∷ stack) output = Some (parsing HasNumber stack output)
after_number CloseIndex (Index protocol ∷ stack) output = Some (parsing HasNumber stack (output ++ Access protocol One ∷ []))
after_number Colon (Index protocol ∷ stack) output = Some (parsing (WantsSize protocol) stack output)
after_number _ _ _ = None

-- the lookahead behind an expression
abbrev pub after_truth : Token → List Pending → List Item → Option Parsing
after_truth (Connects word) stack output = Some (parsing Expects (Joined word ∷ stack) output)
after_truth Close (Bracket numeric ∷ stack) output = Some (reduced_connectives stack output)
after_truth _ _ _ = None

-- the lookahead behind a protocol's name that begins a primitive
abbrev pub after_protocol : Protocol → Token → List Pending → List Item → Option Parsing
after_protocol IpName Proto stack output = Some (parsing WantsProtocol stack output)
after_protocol TcpName token stack output = begins_direction Tcp token stack output
after_protocol UdpName token stack output = begins_direction Udp token stack output
after_protocol _ _ _ _ = None

-- the lookahead behind a protocol's name
abbrev pub after_name : Protocol → Token → List Pending → List Item → Option Parsing
after_name protocol OpenIndex stack output = Some (parsing Expects (Index protocol ∷ stack) output)
after_name protocol token stack output = if is_numeric stack then None else after_protocol protocol token stack output

-- the lookahead inside a primitive
abbrev pub in_primitive : State → Token → List Pending → List Item → Option Parsing
in_primitive (Directed transport FromSource) token stack output = after_source transport token stack output
in_primitive (Directed transport direction) token stack output = in_direction token transport direction stack output
in_primitive (Widened transport direction) Destination stack output = Some (parsing (Directed transport direction) stack output)
in_primitive WantsProtocol (Number n) stack output = Some (reduced_connectives stack (output ++ PushPrimitive (IsProto n) ∷ []))
in_primitive (WantsAddress direction) (Address a) stack output =
    Some (reduced_connectives stack (output ++ PushPrimitive (IsHost direction a) ∷ []))
in_primitive (WantsNetwork direction) (Address a) stack output = Some (parsing (WantsSlash direction a) stack output)
in_primitive (WantsSlash direction a) (Operates Divide) stack output = Some (parsing (WantsBits direction a) stack output)
in_primitive (WantsBits direction a) (Number n) stack output =
    Some (reduced_connectives stack (output ++ PushPrimitive (IsNet direction (record { address = a; bits = n })) ∷ []))
in_primitive (WantsPort transport direction) (Number n) stack output =
    Some (reduced_connectives stack (output ++ PushPrimitive (IsPort transport direction n) ∷ []))
in_primitive (WantsFirst transport direction) (Number n) stack output =
    Some (parsing (WantsDash transport direction n) stack output)
in_primitive (WantsDash transport direction n) (Operates Subtract) stack output =
    Some (parsing (WantsLast transport direction n) stack output)
in_primitive (WantsLast transport direction n) (Number m) stack output =
    Some (reduced_connectives stack (output ++ PushPrimitive (IsPortRange transport direction n m) ∷ []))
in_primitive WantsMost (Number n) stack output = Some (reduced_connectives stack (output ++ PushPrimitive (AtMost n) ∷ []))
in_primitive WantsLeast (Number n) stack output = Some (reduced_connectives stack (output ++ PushPrimitive (AtLeast n) ∷ []))
in_primitive _ _ _ _ = None

-- the size that a number behind `:` is
abbrev pub size_of_number : ℕ → Option Size
size_of_number n = if n == 1 then Some One else (if n == 2 then Some Two else (if n == 4 then Some Four else None))

-- an accessor behind its size
abbrev pub sized_by : Protocol → Option Size → List Pending → List Item → Option Parsing
sized_by protocol None stack output = None
sized_by protocol (Some size) stack output = Some (parsing (WantsEnd protocol size) stack output)

-- what the lookahead makes of the state; `None` where no expression goes on so
abbrev pub shifted : Token → Parsing → Option Parsing
shifted token (parsing Expects stack output) = begins token stack output
shifted token (parsing HasNumber stack output) = after_number token stack output
shifted token (parsing HasTruth stack output) = after_truth token stack output
shifted token (parsing (HasNamed protocol) stack output) = after_name protocol token stack output
shifted (Number n) (parsing (WantsSize protocol) stack output) = sized_by protocol (size_of_number n) stack output
shifted CloseIndex (parsing (WantsEnd protocol size) stack output) =
    Some (parsing HasNumber stack (output ++ Access protocol size ∷ []))
shifted token (parsing state stack output) = in_primitive state token stack output

-- the parts of the whole expression, none where it is not whole
abbrev pub accepted : Parsing → Option (List Item)
accepted (parsing HasTruth [] output) = Some output
accepted _ = None

-- the greatest number that may be shifted
abbrev pub limit_in : State → ℕ
limit_in WantsProtocol = 255
limit_in (WantsPort transport direction) = 65535
limit_in (WantsFirst transport direction) = 65535
limit_in (WantsLast transport direction n) = 65535
limit_in _ = 4294967295

-- the address whose prefix bits may be shifted
abbrev pub network_in : State → Option ℕ
network_in (WantsBits direction a) = Some a
network_in _ = None

-- the fault of a number or an address by what it says
abbrev pub limit_fault : State → Token → ℕ → Option ParseFault
limit_fault state (Number n) at = if nat_le n (limit_in state) then prefix_fault (network_in state) n at else Some (NumberTooBig at)
limit_fault state (Address a) at = if nat_le a 4294967295 then None else Some (BadAddress at)
limit_fault state _ at = None

-- the fault of a token by what it says, where so many brackets are open
abbrev pub fault_in : State → ℕ → Token → ℕ → Option ParseFault
fault_in state count Open at = bracket_fault count at
fault_in state count OpenIndex at = bracket_fault count at
fault_in state count token at = limit_fault state token at

-- what has been shifted last
abbrev pub state_of : Parsing → State
state_of (parsing state stack output) = state

-- a token that does not fit is at fault whatever it says
abbrev pub judged_by : Option ParseFault → ℕ → Option Parsing → Result Parsing ParseFault
judged_by own at None = Err (Syntax at)
judged_by (Some fault) at (Some parser) = Err fault
judged_by None at (Some parser) = Ok parser

-- a step: what a token at a place makes of the parser, where so many brackets are open
abbrev pub stepped : Token → ℕ → ℕ → Parsing → Result Parsing ParseFault
stepped token at count parser =
    judged_by (fault_in (state_of (reduced (Some token) parser)) count token at) at (shifted token (reduced (Some token) parser))

-- a fault ends the parse
abbrev pub passed_on : (Parsing → Result (List Item) ParseFault) → Result Parsing ParseFault → Result (List Item) ParseFault
passed_on more (Ok parser) = more parser
passed_on more (Err fault) = Err fault

-- what is not whole at the end lacks something there
abbrev pub at_end : ℕ → Option (List Item) → Result (List Item) ParseFault
at_end end (Some output) = Ok output
at_end end None = Err (Syntax end)

-- the output over the tokens left, before a place where they end, or their fault
abbrev pub postfix_from : List Placed → ℕ → ℕ → Parsing → Result (List Item) ParseFault
postfix_from [] end count parser = at_end end (accepted (reduced None parser))
postfix_from (placed ∷ more) end count parser =
    passed_on (postfix_from more end (open_after placed.token count)) (stepped placed.token placed.place count parser)

-- the parts of the expression that a text is, in postfix order, or its fault
abbrev pub postfix_of : List ℕ → Result (List Item) ParseFault
postfix_of text = postfix_from (tokens_of text) (length text) 0 (parsing Expects [] [])

-- what a contract sees of a `Parser`
abbrev pub parsing_of : {A : Type 0} → Parser A → Parsing
parsing_of parser = parsing parser.state (from_top parser.stack) parser.output.entries.items

-- the operator on top where it binds at least as tightly as a precedence says
abbrev pub reducible : ℕ → List Pending → Option Operator
reducible precedence (Operated operator ∷ stack) = if nat_le precedence (precedence_of operator) then Some operator else None
reducible precedence _ = None

-- an outcome of a step is the expected one, or memory was refused
abbrev pub Meets : {T : Type 0} → Result Parsing ParseFault → Result T ParseFault → Parsing → Type 0
Meets expected (Ok done) parser = expected ≡ Ok parser
Meets expected (Err fault) parser = (fault ≡ OutOfMemory) ⊎ (expected ≡ Err fault)
