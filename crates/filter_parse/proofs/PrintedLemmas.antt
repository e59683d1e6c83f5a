-- The tokens of a printed tree, and that they spell it.
use Rattle.std.proofs.Common.{◌≡◌, ◌<◌, ◌∙◌, ◌∷◌, ◌++◌, ◌&&◌, Bool, List, None, Some, [], ap, append_assoc, arith, codes, cond, false, length, nat_eq, refl, subst, sym, true, ℕ}
use Rattle.std.proofs.lemmas.Bool.Decides.{nat_tests}
use Rattle.std.proofs.lemmas.List.{append-nil}
use Rattle.std.specs.Char.{is_ascii_digit}
use Rattle.std.specs.Fmt.{decimal}
use Rattle.std.specs.List.{list_all, prefix_len}
use Rattle.filter_tree.specs.declared.arithmetic.Operator.{Operator}
use Rattle.filter_tree.specs.declared.arithmetic.Operator.TheVariants.{Add, And as BitAnd, Divide, ExclusiveOr, Modulo, Multiply, Or as BitOr, ShiftLeft, ShiftRight, Subtract}
use Rattle.filter_tree.specs.declared.arithmetic.Protocol.{Protocol}
use Rattle.filter_tree.specs.declared.arithmetic.Protocol.TheVariants.{Icmp, Ip as IpName, Tcp as TcpName, Udp as UdpName}
use Rattle.filter_tree.specs.declared.arithmetic.Size.{Size}
use Rattle.filter_tree.specs.declared.arithmetic.Size.TheVariants.{Four, One, Two}
use Rattle.filter_tree.specs.declared.expression.Relation.{Relation}
use Rattle.filter_tree.specs.declared.expression.Relation.TheVariants.{Equal, Greater as GreaterThan, GreaterOrEqual, Less as LessThan, LessOrEqual, NotEqual}
use Rattle.filter_tree.specs.declared.primitive.Direction.{Direction}
use Rattle.filter_tree.specs.declared.primitive.Direction.TheVariants.{Both, Destination as ToDestination, Either, Source as FromSource}
use Rattle.filter_tree.specs.declared.primitive.Primitive.{Primitive}
use Rattle.filter_tree.specs.declared.primitive.Primitive.TheVariants.{AtLeast, AtMost, Host as IsHost, Ip, Net as IsNet, Port as IsPort, PortRange as IsPortRange, Proto as IsProto}
use Rattle.filter_tree.specs.declared.primitive.Transport.{Transport}
use Rattle.filter_tree.specs.declared.primitive.Transport.TheVariants.{Tcp, Udp, Unnamed}
use Rattle.filter_tree.specs.Text.{beside, printed, printed_address, printed_arith, printed_direction, printed_operator, printed_primitive, printed_protocol, printed_relation, printed_size, printed_transport}
use Rattle.filter_tree.specs.Tree.{ArithTree, IsArithInRange, IsInRange, IsPrimitiveInRange, Tree, accessor, conjunction, disjunction, negation, number, operation, packet_length, primitive, relation}
use Rattle.filter_parse.specs.declared.token.Connective.TheVariants.{And, AndSign, Or, OrSign}
use Rattle.filter_parse.specs.declared.token.Token.{Token}
use Rattle.filter_parse.specs.declared.token.Token.TheVariants.{Address, Close, CloseIndex, Colon, Compares, Connects, Destination, Greater, Host, Length, Less, Named, Net, Not, Number, Open, OpenIndex, Operates, Port, PortRange, Proto, Source}
use Rattle.filter_parse.specs.Grammar.{Spells, SpellsDirection, SpellsOperand, SpellsPrimitive, SpellsSize, SpellsTransport, SpellsUnary, bracketed, bytes_at, combined, destination, enclosed, four, greater, host, junction, len, less, literal, negated, net, one, operand, port, portrange, proto, protocol, related, simple, source, source_and_destination, tcp, two, udp, unary, undirected, unnamed}
use Rattle.filter_parse.specs.Token.{begins_word, is_blank, is_number_part, is_word_part, kinds, pair_sign, word_token}
use Rattle.filter_parse.specs.body.Scan.{tokens_of}
use Rattle.filter_parse.proofs.AddressLemmas.{lexes-address}
use Rattle.filter_parse.proofs.LexLemmas.{IsAlone, IsRun, Lexes, and-parts, decimal-run, lexes-decimal, lexes-digits, lexes-one, lexes-sign, lexes-space, lexes-word}

-- the tokens of a printed tree, and others behind them
abbrev pub size_token : Size → Token
size_token One = Number 1
size_token Two = Number 2
size_token Four = Number 4

abbrev pub arith_tokens : ArithTree → List Token → List Token
arith_tokens (number n) rest = Number n ∷ rest
arith_tokens packet_length rest = Length ∷ rest
arith_tokens (accessor p index size) rest = Named p ∷ OpenIndex ∷ arith_tokens index (Colon ∷ size_token size ∷ CloseIndex ∷ rest)
arith_tokens (operation left operator right) rest = Open ∷ arith_tokens left (Operates operator ∷ arith_tokens right (Close ∷ rest))

abbrev pub direction_tokens : Direction → List Token → List Token
direction_tokens FromSource rest = Source ∷ rest
direction_tokens ToDestination rest = Destination ∷ rest
direction_tokens Either rest = rest
direction_tokens Both rest = Source ∷ Connects And ∷ Destination ∷ rest

abbrev pub transport_tokens : Transport → List Token → List Token
transport_tokens Tcp rest = Named TcpName ∷ rest
transport_tokens Udp rest = Named UdpName ∷ rest
transport_tokens Unnamed rest = rest

abbrev pub primitive_tokens : Primitive → List Token → List Token
primitive_tokens Ip rest = Named IpName ∷ rest
primitive_tokens (IsProto n) rest = Named IpName ∷ Proto ∷ Number n ∷ rest
primitive_tokens (IsHost direction a) rest = direction_tokens direction (Host ∷ Address a ∷ rest)
primitive_tokens (IsNet direction prefix) rest =
    direction_tokens direction (Net ∷ Address prefix.address ∷ Operates Divide ∷ Number prefix.bits ∷ rest)
primitive_tokens (IsPort transport direction n) rest = transport_tokens transport (direction_tokens direction (Port ∷ Number n ∷ rest))
primitive_tokens (IsPortRange transport direction n m) rest =
    transport_tokens transport (direction_tokens direction (PortRange ∷ Number n ∷ Operates Subtract ∷ Number m ∷ rest))
primitive_tokens (AtMost n) rest = Less ∷ Number n ∷ rest
primitive_tokens (AtLeast n) rest = Greater ∷ Number n ∷ rest

abbrev pub tree_tokens : Tree → List Token → List Token
tree_tokens (primitive p) rest = primitive_tokens p rest
tree_tokens (relation left relator right) rest = arith_tokens left (Compares relator ∷ arith_tokens right rest)
tree_tokens (negation tree) rest = Not ∷ tree_tokens tree rest
tree_tokens (conjunction left right) rest = Open ∷ tree_tokens left (Connects And ∷ tree_tokens right (Close ∷ rest))
tree_tokens (disjunction left right) rest = Open ∷ tree_tokens left (Connects Or ∷ tree_tokens right (Close ∷ rest))

-- they spell the tree
size-spelt : (size : Size) → SpellsSize (size_token size) size
size-spelt One = one
size-spelt Two = two
size-spelt Four = four

arith-spelt : (a : ArithTree) (rest : List Token) → SpellsOperand (arith_tokens a rest) rest a
arith-spelt (number n) rest = literal
arith-spelt packet_length rest = len
arith-spelt (accessor p index size) rest =
    bytes_at (size_token size) (size-spelt size) (operand (arith-spelt index (Colon ∷ size_token size ∷ CloseIndex ∷ rest)))
arith-spelt (operation left operator right) rest =
    bracketed (combined operator (omega arith)
    (operand (arith-spelt left (Operates operator ∷ arith_tokens right (Close ∷ rest)))) (operand (arith-spelt right (Close ∷ rest))))

direction-spelt : (direction : Direction) (rest : List Token) → SpellsDirection (direction_tokens direction rest) rest direction
direction-spelt FromSource rest = source
direction-spelt ToDestination rest = destination
direction-spelt Either rest = undirected
direction-spelt Both rest = source_and_destination

transport-spelt : (transport : Transport) (rest : List Token) → SpellsTransport (transport_tokens transport rest) rest transport
transport-spelt Tcp rest = tcp
transport-spelt Udp rest = udp
transport-spelt Unnamed rest = unnamed

primitive-spelt : (p : Primitive) (rest : List Token) → SpellsPrimitive (primitive_tokens p rest) rest p
primitive-spelt Ip rest = protocol
primitive-spelt (IsProto n) rest = proto
primitive-spelt (IsHost direction a) rest = host (direction-spelt direction (Host ∷ Address a ∷ rest))
primitive-spelt (IsNet direction prefix) rest = net (direction-spelt direction (Net ∷ Address prefix.address ∷ Operates Divide ∷ Number prefix.bits ∷ rest))
primitive-spelt (IsPort transport direction n) rest =
    port (transport-spelt transport (direction_tokens direction (Port ∷ Number n ∷ rest))) (direction-spelt direction (Port ∷ Number n ∷ rest))
primitive-spelt (IsPortRange transport direction n m) rest =
    portrange (transport-spelt transport (direction_tokens direction (PortRange ∷ Number n ∷ Operates Subtract ∷ Number m ∷ rest)))
    (direction-spelt direction (PortRange ∷ Number n ∷ Operates Subtract ∷ Number m ∷ rest))
primitive-spelt (AtMost n) rest = less
primitive-spelt (AtLeast n) rest = greater

tree-spelt : (tree : Tree) (rest : List Token) → SpellsUnary (tree_tokens tree rest) rest tree
tree-spelt (primitive p) rest = simple (primitive-spelt p rest)
tree-spelt (relation left relator right) rest =
    related relator (operand (arith-spelt left (Compares relator ∷ arith_tokens right rest))) (operand (arith-spelt right rest))
tree-spelt (negation tree) rest = negated (tree-spelt tree rest)
tree-spelt (conjunction left right) rest =
    enclosed (junction And (unary (tree-spelt left (Connects And ∷ tree_tokens right (Close ∷ rest)))) (tree-spelt right (Close ∷ rest)))
tree-spelt (disjunction left right) rest =
    enclosed (junction Or (unary (tree-spelt left (Connects Or ∷ tree_tokens right (Close ∷ rest)))) (tree-spelt right (Close ∷ rest)))

pub tokens-spell : (tree : Tree) → Spells (tree_tokens tree []) tree
tokens-spell tree = unary (tree-spelt tree [])

-- the texts of its tokens
alone : (c : ℕ) → ((d : ℕ) → pair_sign c d ≡ None) → (rest : List ℕ) → IsAlone c rest
alone c never [] = tt
alone c never (d ∷ rest) = never d

lexes-open : (rest : List ℕ) (tokens : List Token) → Lexes rest tokens → Lexes (40 ∷ rest) (Open ∷ tokens)
lexes-open rest tokens h = lexes-sign 40 rest tokens refl refl refl (alone 40 (λ d. refl) rest) h

lexes-close : (rest : List ℕ) (tokens : List Token) → Lexes rest tokens → Lexes (41 ∷ rest) (Close ∷ tokens)
lexes-close rest tokens h = lexes-sign 41 rest tokens refl refl refl (alone 41 (λ d. refl) rest) h

lexes-open_index : (rest : List ℕ) (tokens : List Token) → Lexes rest tokens → Lexes (91 ∷ rest) (OpenIndex ∷ tokens)
lexes-open_index rest tokens h = lexes-sign 91 rest tokens refl refl refl (alone 91 (λ d. refl) rest) h

lexes-close_index : (rest : List ℕ) (tokens : List Token) → Lexes rest tokens → Lexes (93 ∷ rest) (CloseIndex ∷ tokens)
lexes-close_index rest tokens h = lexes-sign 93 rest tokens refl refl refl (alone 93 (λ d. refl) rest) h

lexes-colon : (rest : List ℕ) (tokens : List Token) → Lexes rest tokens → Lexes (58 ∷ rest) (Colon ∷ tokens)
lexes-colon rest tokens h = lexes-sign 58 rest tokens refl refl refl (alone 58 (λ d. refl) rest) h

lexes-operator : (o : Operator) (rest : List ℕ) (tokens : List Token) → IsAlone 38 rest → IsAlone 124 rest → Lexes rest tokens →
    Lexes (printed_operator o ++ rest) (Operates o ∷ tokens)
lexes-operator BitOr rest tokens a b h = lexes-sign 124 rest tokens refl refl refl b h
lexes-operator ExclusiveOr rest tokens a b h = lexes-sign 94 rest tokens refl refl refl (alone 94 (λ d. refl) rest) h
lexes-operator BitAnd rest tokens a b h = lexes-sign 38 rest tokens refl refl refl a h
lexes-operator ShiftLeft rest tokens a b h = lexes-one 60 (60 ∷ rest) rest (record { token = Operates ShiftLeft; len = 2 }) tokens refl refl refl h
lexes-operator ShiftRight rest tokens a b h = lexes-one 62 (62 ∷ rest) rest (record { token = Operates ShiftRight; len = 2 }) tokens refl refl refl h
lexes-operator Add rest tokens a b h = lexes-sign 43 rest tokens refl refl refl (alone 43 (λ d. refl) rest) h
lexes-operator Subtract rest tokens a b h = lexes-sign 45 rest tokens refl refl refl (alone 45 (λ d. refl) rest) h
lexes-operator Multiply rest tokens a b h = lexes-sign 42 rest tokens refl refl refl (alone 42 (λ d. refl) rest) h
lexes-operator Divide rest tokens a b h = lexes-sign 47 rest tokens refl refl refl (alone 47 (λ d. refl) rest) h
lexes-operator Modulo rest tokens a b h = lexes-sign 37 rest tokens refl refl refl (alone 37 (λ d. refl) rest) h

lexes-relation : (r : Relation) (rest : List ℕ) (tokens : List Token) → Lexes (32 ∷ rest) tokens → Lexes (printed_relation r ++ 32 ∷ rest) (Compares r ∷ tokens)
lexes-relation GreaterThan rest tokens h = lexes-sign 62 (32 ∷ rest) tokens refl refl refl refl h
lexes-relation LessThan rest tokens h = lexes-sign 60 (32 ∷ rest) tokens refl refl refl refl h
lexes-relation GreaterOrEqual rest tokens h = lexes-one 62 (61 ∷ 32 ∷ rest) (32 ∷ rest) (record { token = Compares GreaterOrEqual; len = 2 }) tokens refl refl refl h
lexes-relation LessOrEqual rest tokens h = lexes-one 60 (61 ∷ 32 ∷ rest) (32 ∷ rest) (record { token = Compares LessOrEqual; len = 2 }) tokens refl refl refl h
lexes-relation Equal rest tokens h = lexes-sign 61 (32 ∷ rest) tokens refl refl refl refl h
lexes-relation NotEqual rest tokens h = lexes-one 33 (61 ∷ 32 ∷ rest) (32 ∷ rest) (record { token = Compares NotEqual; len = 2 }) tokens refl refl refl h

lexes-protocol : (p : Protocol) (rest : List ℕ) (tokens : List Token) → prefix_len is_word_part rest ≡ 0 → Lexes rest tokens →
    Lexes (printed_protocol p ++ rest) (Named p ∷ tokens)
lexes-protocol IpName rest tokens apart h = lexes-word 105 (112 ∷ []) rest (Named IpName) tokens refl refl refl refl apart h
lexes-protocol TcpName rest tokens apart h = lexes-word 116 (99 ∷ 112 ∷ []) rest (Named TcpName) tokens refl refl refl refl apart h
lexes-protocol UdpName rest tokens apart h = lexes-word 117 (100 ∷ 112 ∷ []) rest (Named UdpName) tokens refl refl refl refl apart h
lexes-protocol Icmp rest tokens apart h = lexes-word 105 (99 ∷ 109 ∷ 112 ∷ []) rest (Named Icmp) tokens refl refl refl refl apart h

lexes-size : (size : Size) (rest : List ℕ) (tokens : List Token) → prefix_len is_number_part rest ≡ 0 → Lexes rest tokens →
    Lexes (printed_size size ++ rest) (size_token size ∷ tokens)
lexes-size One rest tokens apart h = lexes-digits 49 [] rest (Number 1) tokens refl refl refl refl refl apart h
lexes-size Two rest tokens apart h = lexes-digits 50 [] rest (Number 2) tokens refl refl refl refl refl apart h
lexes-size Four rest tokens apart h = lexes-digits 52 [] rest (Number 4) tokens refl refl refl refl refl apart h

-- a gap between tokens
data IsGap : List ℕ → Type 0 where
  closed : IsGap []
  spaced : IsGap (32 ∷ [])

lexes-gap : {gap : List ℕ} → IsGap gap → (rest : List ℕ) (tokens : List Token) → Lexes rest tokens → Lexes (gap ++ rest) tokens
lexes-gap closed rest tokens h = h
lexes-gap spaced rest tokens h = lexes-space rest tokens h

gap-beside : (o : Operator) {gap : List ℕ} → IsGap gap → IsGap (beside o gap)
gap-beside BitOr g = g
gap-beside ExclusiveOr g = g
gap-beside BitAnd g = g
gap-beside ShiftLeft g = g
gap-beside ShiftRight g = g
gap-beside Add g = g
gap-beside Subtract g = g
gap-beside Multiply g = g
gap-beside Divide g = closed
gap-beside Modulo g = g

-- no word and no number goes on there
abbrev IsApart : List ℕ → Type 0
IsApart rest = (prefix_len is_number_part rest ≡ 0) × (prefix_len is_word_part rest ≡ 0)

apart-gap : {gap : List ℕ} → IsGap gap → (rest : List ℕ) → IsApart rest → IsApart (gap ++ rest)
apart-gap closed rest a = a
apart-gap spaced rest a = (refl, refl)

apart-operator : (o : Operator) (rest : List ℕ) → IsApart (printed_operator o ++ rest)
apart-operator BitOr rest = (refl, refl)
apart-operator ExclusiveOr rest = (refl, refl)
apart-operator BitAnd rest = (refl, refl)
apart-operator ShiftLeft rest = (refl, refl)
apart-operator ShiftRight rest = (refl, refl)
apart-operator Add rest = (refl, refl)
apart-operator Subtract rest = (refl, refl)
apart-operator Multiply rest = (refl, refl)
apart-operator Divide rest = (refl, refl)
apart-operator Modulo rest = (refl, refl)

all-first : (c : ℕ) (others : Bool) → (is_ascii_digit c && others) ≡ true → is_ascii_digit c ≡ true
all-first c others h = (and-parts (is_ascii_digit c) others h).0

-- what begins an operand makes no sign of two bytes with `&` or `|` before it
module _ (k : ℕ) (lone : (c : ℕ) → nat_eq c 38 ≡ false → nat_eq c 124 ≡ false → pair_sign k c ≡ None) where
  digit-below : (c : ℕ) → is_ascii_digit c ≡ true → nat_eq c 38 ≡ false
  digit-below c h = grind (arith, nat_tests)

  digit-not : (c m : ℕ) → is_ascii_digit c ≡ true → 57 < m → nat_eq c m ≡ false
  digit-not c m h above = grind (arith, nat_tests)

  alone-run : (n : ℕ) (ds rest : List ℕ) → IsRun n ds → IsAlone k (ds ++ rest)
  alone-run n [] rest r = absurd r
  alone-run n (c ∷ w) rest r =
      let digit = (all-first c (list_all is_ascii_digit w) r.0) in
      lone c (digit-below c digit) (digit-not c 124 digit (omega arith))

  alone-arith : (gap : List ℕ) (a : ArithTree) (rest : List ℕ) → IsArithInRange a → IsAlone k (printed_arith gap a ++ rest)
  alone-arith gap (number n) rest range = alone-run n (decimal n) rest (decimal-run n (omega arith))
  alone-arith gap packet_length rest range = lone 108 refl refl
  alone-arith gap (accessor IpName index size) rest range = lone 105 refl refl
  alone-arith gap (accessor TcpName index size) rest range = lone 116 refl refl
  alone-arith gap (accessor UdpName index size) rest range = lone 117 refl refl
  alone-arith gap (accessor Icmp index size) rest range = lone 105 refl refl
  alone-arith gap (operation left o right) rest range = lone 40 refl refl

alone-and : (c : ℕ) → nat_eq c 38 ≡ false → nat_eq c 124 ≡ false → pair_sign 38 c ≡ None
alone-and c e f = ap (λ t. cond t (Some (Connects AndSign)) None) e

alone-or : (c : ℕ) → nat_eq c 38 ≡ false → nat_eq c 124 ≡ false → pair_sign 124 c ≡ None
alone-or c e f = ap (λ t. cond t (Some (Connects OrSign)) None) f

alone-gap : (k : ℕ) → pair_sign k 32 ≡ None → {gap : List ℕ} → IsGap gap → (rest : List ℕ) → IsAlone k rest → IsAlone k (gap ++ rest)
alone-gap k none closed rest a = a
alone-gap k none spaced rest a = none

regroup-accessor : (p i s rest : List ℕ) → (((((p ++ codes "[") ++ i) ++ codes ":") ++ s) ++ codes "]") ++ rest ≡ p ++ (91 ∷ (i ++ (58 ∷ (s ++ (93 ∷ rest)))))
regroup-accessor p i s rest = simp append_assoc

regroup-operation : (g l b o r rest : List ℕ) → ((((((((codes "(" ++ g) ++ l) ++ b) ++ o) ++ b) ++ r) ++ g) ++ codes ")") ++ rest
    ≡ 40 ∷ (g ++ (l ++ (b ++ (o ++ (b ++ (r ++ (g ++ (41 ∷ rest))))))))
regroup-operation g l b o r rest = simp append_assoc

lexes-arith : {gap : List ℕ} → IsGap gap → (a : ArithTree) → IsArithInRange a → (rest : List ℕ) (tokens : List Token) → IsApart rest → Lexes rest tokens →
    Lexes (printed_arith gap a ++ rest) (arith_tokens a tokens)
lexes-arith g (number n) range rest tokens apart h = lexes-decimal n rest tokens range apart.0 h
lexes-arith g packet_length range rest tokens apart h = lexes-word 108 (101 ∷ 110 ∷ []) rest Length tokens refl refl refl refl apart.1 h
lexes-arith {gap} g (accessor p index size) range rest tokens apart h =
    subst (λ t. Lexes t (Named p ∷ OpenIndex ∷ arith_tokens index (Colon ∷ size_token size ∷ CloseIndex ∷ tokens)))
    (sym (regroup-accessor (printed_protocol p) (printed_arith [] index) (printed_size size) rest))
    (lexes-protocol p _ _ refl (lexes-open_index _ _
    (lexes-arith closed index range _ _ (refl, refl) (lexes-colon _ _
    (lexes-size size _ _ refl (lexes-close_index rest tokens h))))))
lexes-arith {gap} g (operation left o right) (range-left, range-right) rest tokens apart h =
    let b = gap-beside o g in
    let behind : List ℕ = gap ++ 41 ∷ rest in
    let h-behind : Lexes behind (Close ∷ tokens) = lexes-gap g (41 ∷ rest) (Close ∷ tokens) (lexes-close rest tokens h) in
    let right-text : List ℕ = printed_arith gap right ++ behind in
    let h-right : Lexes right-text (arith_tokens right (Close ∷ tokens)) =
    lexes-arith g right range-right behind (Close ∷ tokens) (apart-gap g (41 ∷ rest) (refl, refl)) h-behind in
    let h-operator : Lexes (printed_operator o ++ (beside o gap ++ right-text)) (Operates o ∷ arith_tokens right (Close ∷ tokens)) =
    lexes-operator o (beside o gap ++ right-text) (arith_tokens right (Close ∷ tokens))
    (alone-gap 38 refl b right-text (alone-arith 38 alone-and gap right behind range-right))
    (alone-gap 124 refl b right-text (alone-arith 124 alone-or gap right behind range-right))
    (lexes-gap b right-text _ h-right) in
    subst (λ t. Lexes t (Open ∷ arith_tokens left (Operates o ∷ arith_tokens right (Close ∷ tokens))))
    (sym (regroup-operation gap (printed_arith gap left) (beside o gap) (printed_operator o) (printed_arith gap right) rest))
    (lexes-open _ _ (lexes-gap g _ _
    (lexes-arith g left range-left (beside o gap ++ (printed_operator o ++ (beside o gap ++ right-text))) _
    (apart-gap b _ (apart-operator o (beside o gap ++ right-text))) (lexes-gap b _ _ h-operator))))

-- a word and the space behind it
word-space : (c : ℕ) (w rest : List ℕ) (token : Token) (tokens : List Token) → is_blank c ≡ false → begins_word c ≡ true →
    prefix_len is_word_part (c ∷ w) ≡ length (c ∷ w) → word_token (c ∷ w) ≡ token → Lexes rest tokens → Lexes ((c ∷ w) ++ 32 ∷ rest) (token ∷ tokens)
word-space c w rest token tokens dark begins full is h =
    lexes-word c w (32 ∷ rest) token tokens dark begins full is refl (lexes-space rest tokens h)

lexes-direction : (direction : Direction) (rest : List ℕ) (tokens : List Token) → Lexes rest tokens →
    Lexes (printed_direction direction ++ rest) (direction_tokens direction tokens)
lexes-direction FromSource rest tokens h = word-space 115 (114 ∷ 99 ∷ []) rest Source tokens refl refl refl refl h
lexes-direction ToDestination rest tokens h = word-space 100 (115 ∷ 116 ∷ []) rest Destination tokens refl refl refl refl h
lexes-direction Either rest tokens h = h
lexes-direction Both rest tokens h =
    word-space 115 (114 ∷ 99 ∷ []) _ Source _ refl refl refl refl
    (word-space 97 (110 ∷ 100 ∷ []) _ (Connects And) _ refl refl refl refl (word-space 100 (115 ∷ 116 ∷ []) rest Destination tokens refl refl refl refl h))

lexes-transport : (transport : Transport) (rest : List ℕ) (tokens : List Token) → Lexes rest tokens →
    Lexes (printed_transport transport ++ rest) (transport_tokens transport tokens)
lexes-transport Tcp rest tokens h = word-space 116 (99 ∷ 112 ∷ []) rest (Named TcpName) tokens refl refl refl refl h
lexes-transport Udp rest tokens h = word-space 117 (100 ∷ 112 ∷ []) rest (Named UdpName) tokens refl refl refl refl h
lexes-transport Unnamed rest tokens h = h

regroup-three : (a b c rest : List ℕ) → ((a ++ b) ++ c) ++ rest ≡ a ++ (b ++ (c ++ rest))
regroup-three a b c rest = simp append_assoc

regroup-four : (a b c d rest : List ℕ) → (((a ++ b) ++ c) ++ d) ++ rest ≡ a ++ (b ++ (c ++ (d ++ rest)))
regroup-four a b c d rest = simp append_assoc

regroup-five : (a b c d e rest : List ℕ) → ((((a ++ b) ++ c) ++ d) ++ e) ++ rest ≡ a ++ (b ++ (c ++ (d ++ (e ++ rest))))
regroup-five a b c d e rest = simp append_assoc

regroup-six : (a b c d e f rest : List ℕ) → (((((a ++ b) ++ c) ++ d) ++ e) ++ f) ++ rest ≡ a ++ (b ++ (c ++ (d ++ (e ++ (f ++ rest)))))
regroup-six a b c d e f rest = simp append_assoc

lexes-primitive : (p : Primitive) → IsPrimitiveInRange p → (rest : List ℕ) (tokens : List Token) → IsApart rest → Lexes rest tokens →
    Lexes (printed_primitive p ++ rest) (primitive_tokens p tokens)
lexes-primitive Ip range rest tokens apart h = lexes-word 105 (112 ∷ []) rest (Named IpName) tokens refl refl refl refl apart.1 h
lexes-primitive (IsProto n) range rest tokens apart h =
    subst (λ t. Lexes t (Named IpName ∷ Proto ∷ Number n ∷ tokens)) (sym (append_assoc (codes "ip proto ") (decimal n) rest))
    (word-space 105 (112 ∷ []) _ (Named IpName) _ refl refl refl refl
    (word-space 112 (114 ∷ 111 ∷ 116 ∷ 111 ∷ []) _ Proto _ refl refl refl refl (lexes-decimal n rest tokens (omega arith) apart.0 h)))
lexes-primitive (IsHost direction a) range rest tokens apart h =
    subst (λ t. Lexes t (direction_tokens direction (Host ∷ Address a ∷ tokens)))
    (sym (regroup-three (printed_direction direction) (codes "host ") (printed_address a) rest))
    (lexes-direction direction _ _ (word-space 104 (111 ∷ 115 ∷ 116 ∷ []) _ Host _ refl refl refl refl (lexes-address a rest tokens range apart.0 h)))
lexes-primitive (IsNet direction prefix) range rest tokens apart h =
    subst (λ t. Lexes t (direction_tokens direction (Net ∷ Address prefix.address ∷ Operates Divide ∷ Number prefix.bits ∷ tokens)))
    (sym (regroup-five (printed_direction direction) (codes "net ") (printed_address prefix.address) (codes "/") (decimal prefix.bits) rest))
    (lexes-direction direction _ _ (word-space 110 (101 ∷ 116 ∷ []) _ Net _ refl refl refl refl
    (lexes-address prefix.address _ _ range.0 refl
    (lexes-sign 47 _ _ refl refl refl (alone 47 (λ d. refl) _)
    (lexes-decimal prefix.bits rest tokens (omega (arith, range.1.not_too_long)) apart.0 h)))))
lexes-primitive (IsPort transport direction n) range rest tokens apart h =
    subst (λ t. Lexes t (transport_tokens transport (direction_tokens direction (Port ∷ Number n ∷ tokens))))
    (sym (regroup-four (printed_transport transport) (printed_direction direction) (codes "port ") (decimal n) rest))
    (lexes-transport transport _ _ (lexes-direction direction _ _
    (word-space 112 (111 ∷ 114 ∷ 116 ∷ []) _ Port _ refl refl refl refl (lexes-decimal n rest tokens (omega arith) apart.0 h))))
lexes-primitive (IsPortRange transport direction n m) range rest tokens apart h =
    subst (λ t. Lexes t (transport_tokens transport (direction_tokens direction (PortRange ∷ Number n ∷ Operates Subtract ∷ Number m ∷ tokens))))
    (sym (regroup-six (printed_transport transport) (printed_direction direction) (codes "portrange ") (decimal n) (codes "-") (decimal m) rest))
    (lexes-transport transport _ _ (lexes-direction direction _ _
    (word-space 112 (111 ∷ 114 ∷ 116 ∷ 114 ∷ 97 ∷ 110 ∷ 103 ∷ 101 ∷ []) _ PortRange _ refl refl refl refl
    (lexes-decimal n _ _ (omega (arith, range.0)) refl
    (lexes-sign 45 _ _ refl refl refl (alone 45 (λ d. refl) _) (lexes-decimal m rest tokens (omega (arith, range.1)) apart.0 h))))))
lexes-primitive (AtMost n) range rest tokens apart h =
    subst (λ t. Lexes t (Less ∷ Number n ∷ tokens)) (sym (append_assoc (codes "less ") (decimal n) rest))
    (word-space 108 (101 ∷ 115 ∷ 115 ∷ []) _ Less _ refl refl refl refl (lexes-decimal n rest tokens range apart.0 h))
lexes-primitive (AtLeast n) range rest tokens apart h =
    subst (λ t. Lexes t (Greater ∷ Number n ∷ tokens)) (sym (append_assoc (codes "greater ") (decimal n) rest))
    (word-space 103 (114 ∷ 101 ∷ 97 ∷ 116 ∷ 101 ∷ 114 ∷ []) _ Greater _ refl refl refl refl (lexes-decimal n rest tokens range apart.0 h))

lexes-tree : (tree : Tree) → IsInRange tree → (rest : List ℕ) (tokens : List Token) → IsApart rest → Lexes rest tokens →
    Lexes (printed tree ++ rest) (tree_tokens tree tokens)
lexes-tree (primitive p) range rest tokens apart h = lexes-primitive p range rest tokens apart h
lexes-tree (relation left relator right) range rest tokens apart h =
    subst (λ t. Lexes t (arith_tokens left (Compares relator ∷ arith_tokens right tokens)))
    (sym (regroup-five (printed_arith (codes " ") left) (codes " ") (printed_relation relator) (codes " ") (printed_arith (codes " ") right) rest))
    (lexes-arith spaced left range.0 _ _ (refl, refl)
    (lexes-space _ _ (lexes-relation relator _ _ (lexes-space _ _ (lexes-arith spaced right range.1 rest tokens apart h)))))
lexes-tree (negation tree) range rest tokens apart h =
    subst (λ t. Lexes t (Not ∷ tree_tokens tree tokens)) (sym (append_assoc (codes "not ") (printed tree) rest))
    (word-space 110 (111 ∷ 116 ∷ []) _ Not _ refl refl refl refl (lexes-tree tree range rest tokens apart h))
lexes-tree (conjunction left right) range rest tokens apart h =
    subst (λ t. Lexes t (Open ∷ tree_tokens left (Connects And ∷ tree_tokens right (Close ∷ tokens))))
    (sym (regroup-five (codes "( ") (printed left) (codes " and ") (printed right) (codes " )") rest))
    (lexes-open _ _ (lexes-space _ _ (lexes-tree left range.0 _ _ (refl, refl)
    (lexes-space _ _ (word-space 97 (110 ∷ 100 ∷ []) _ (Connects And) _ refl refl refl refl
    (lexes-tree right range.1 _ _ (refl, refl) (lexes-space _ _ (lexes-close rest tokens h))))))))
lexes-tree (disjunction left right) range rest tokens apart h =
    subst (λ t. Lexes t (Open ∷ tree_tokens left (Connects Or ∷ tree_tokens right (Close ∷ tokens))))
    (sym (regroup-five (codes "( ") (printed left) (codes " or ") (printed right) (codes " )") rest))
    (lexes-open _ _ (lexes-space _ _ (lexes-tree left range.0 _ _ (refl, refl)
    (lexes-space _ _ (word-space 111 (114 ∷ []) _ (Connects Or) _ refl refl refl refl
    (lexes-tree right range.1 _ _ (refl, refl) (lexes-space _ _ (lexes-close rest tokens h))))))))

pub printed-tokens : (tree : Tree) → IsInRange tree → kinds (tokens_of (printed tree)) ≡ tree_tokens tree []
printed-tokens tree range =
    ap (λ t. kinds (tokens_of t)) (sym (append-nil (printed tree))) ∙ (lexes-tree tree range [] [] (refl, refl) (record { same = λ place. refl })).same 0
