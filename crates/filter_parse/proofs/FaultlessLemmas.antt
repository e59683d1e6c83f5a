-- No token of a printed tree is at fault, and so it reads back.
use Rattle.std.proofs.Common.{◌≡◌, ◌<◌, ◌≤◌, ◌+◌, ◌-◌, ◌%◌, ◌^◌, ◌∙◌, ◌∷◌, ◌&&◌, List, None, Some, [], ap, arith, cond, nat_eq, nat_le, pred, refl, subst, suc, sym, ℕ}
use Rattle.std.proofs.lemmas.Bool.{eq-eqb, le-leb, lt-ltb}
use Rattle.filter_tree.specs.declared.arithmetic.Operator.{Operator}
use Rattle.filter_tree.specs.declared.arithmetic.Operator.TheVariants.{Divide, Subtract}
use Rattle.filter_tree.specs.declared.arithmetic.Protocol.TheVariants.{Ip as IpName, Tcp as TcpName, Udp as UdpName}
use Rattle.filter_tree.specs.declared.arithmetic.Size.{Size}
use Rattle.filter_tree.specs.declared.arithmetic.Size.TheVariants.{Four, One, Two}
use Rattle.filter_tree.specs.declared.primitive.Direction.{Direction}
use Rattle.filter_tree.specs.declared.primitive.Direction.TheVariants.{Both, Destination as ToDestination, Either, Source as FromSource}
use Rattle.filter_tree.specs.declared.primitive.Primitive.{Primitive}
use Rattle.filter_tree.specs.declared.primitive.Primitive.TheVariants.{AtLeast, AtMost, Host as IsHost, Ip, Net as IsNet, Port as IsPort, PortRange as IsPortRange, Proto as IsProto}
use Rattle.filter_tree.specs.declared.primitive.Transport.{Transport}
use Rattle.filter_tree.specs.declared.primitive.Transport.TheVariants.{Tcp, Udp, Unnamed}
use Rattle.filter_parse.specs.declared.token.Connective.TheVariants.{And, Or}
use Rattle.filter_parse.specs.declared.token.Token.{Token}
use Rattle.filter_parse.specs.declared.token.Token.TheVariants.{Address, Close, CloseIndex, Colon, Compares, Connects, Destination, Greater, Host, Length, Less, Named, Net, Not, Number, Open, OpenIndex, Operates, Port, PortRange, Proto, Source}
use Rattle.filter_parse.specs.declared.fault.ParseFault.TheVariants.{BadAddress, BadPrefix, NumberTooBig, TooDeep}
use Rattle.filter_tree.specs.Measure.{depth_of, depth_of_arith}
use Rattle.filter_tree.specs.Text.{printed}
use Rattle.filter_tree.specs.Tree.{ArithTree, IsArithInRange, IsInRange, IsPrimitiveInRange, Tree, accessor, conjunction, disjunction, negation, number, operation, packet_length, primitive, relation}
use Rattle.filter_parse.specs.Fault.{IsFaultless, bracket_fault, network_after, open_brackets, own_fault, prefix_fault}
use Rattle.filter_parse.specs.Grammar.{Spells}
use Rattle.filter_parse.specs.Laws.{ReadsBack}
use Rattle.filter_parse.specs.Token.{Placed, kinds}
use Rattle.filter_parse.proofs.ScanLemmas.{tree-there}
use Rattle.filter_parse.specs.body.Scan.{tokens_of}
use Rattle.filter_parse.proofs.PrecedeLemmas.{IsFree, free-close, free-close_index, free-length, free-number}
use Rattle.filter_parse.proofs.PrintedLemmas.{arith_tokens, direction_tokens, primitive_tokens, printed-tokens, size_token, tokens-spell, transport_tokens, tree_tokens}

-- no token is at fault, wherever it stands
abbrev pub IsSound : List Token → List Token → Type 0
IsSound before [] = Unit {0}
IsSound before (token ∷ more) = ((at : ℕ) → own_fault before token at ≡ None) × IsSound (token ∷ before) more

sound-faultless : (before : List Token) (placed : List Placed) → IsSound before (kinds placed) → IsFaultless before placed
sound-faultless before [] s = tt
sound-faultless before (next ∷ more) s = (s.0 next.place, sound-faultless (next.token ∷ before) more s.1)

-- the tokens before a place, once a tree has come
abbrev arith_before : ArithTree → List Token → List Token
arith_before (number n) before = Number n ∷ before
arith_before packet_length before = Length ∷ before
arith_before (accessor p index size) before = CloseIndex ∷ size_token size ∷ Colon ∷ arith_before index (OpenIndex ∷ Named p ∷ before)
arith_before (operation left operator right) before = Close ∷ arith_before right (Operates operator ∷ arith_before left (Open ∷ before))

open-arith : (a : ArithTree) (before : List Token) → open_brackets (arith_before a before) ≡ open_brackets before
open-arith (number n) before = refl
open-arith packet_length before = refl
open-arith (accessor p index One) before = ap pred (open-arith index (OpenIndex ∷ Named p ∷ before))
open-arith (accessor p index Two) before = ap pred (open-arith index (OpenIndex ∷ Named p ∷ before))
open-arith (accessor p index Four) before = ap pred (open-arith index (OpenIndex ∷ Named p ∷ before))
open-arith (operation left operator right) before =
    ap pred (open-arith right (Operates operator ∷ arith_before left (Open ∷ before)) ∙ open-arith left (Open ∷ before))

free-arith : (a : ArithTree) (before : List Token) → IsFree before → (operator : Operator) → IsFree (Operates operator ∷ arith_before a before)
free-arith (number n) before f operator = free-number before n f operator
free-arith packet_length before f operator = free-length before operator
free-arith (accessor p index size) before f operator = free-close_index (size_token size ∷ Colon ∷ arith_before index (OpenIndex ∷ Named p ∷ before)) operator
free-arith (operation left o right) before f operator = free-close (arith_before right (Operates o ∷ arith_before left (Open ∷ before))) operator

-- a number that is free has no fault
sound-number : (before : List Token) (n at : ℕ) → IsFree before → n < 2 ^ 32 → own_fault before (Number n) at ≡ None
sound-number before n at f small =
    ap (λ l. cond (nat_le n l) (prefix_fault (network_after before) n at) (Some (NumberTooBig at))) f.0
    ∙ ap (λ w. cond (nat_le n 4294967295) (prefix_fault w n at) (Some (NumberTooBig at))) f.1
    ∙ ap (λ t. cond t None (Some (NumberTooBig at))) (le-leb n 4294967295 (omega arith))

sound-bracket : (count at : ℕ) → count < 64 → bracket_fault count at ≡ None
sound-bracket count at h = ap (λ t. cond t None (Some (TooDeep at))) (lt-ltb count 64 h)

sound-size : (size : Size) (before : List Token) (at : ℕ) → own_fault (Colon ∷ before) (size_token size) at ≡ None
sound-size One before at = refl
sound-size Two before at = refl
sound-size Four before at = refl

sound-close : (size : Size) (before rest : List Token) → IsSound (CloseIndex ∷ size_token size ∷ Colon ∷ before) rest →
    IsSound before (Colon ∷ size_token size ∷ CloseIndex ∷ rest)
sound-close size before rest s = (λ at. refl, (sound-size size before, (λ at. refl, s)))

depth-some : (a : ArithTree) → 1 ≤ depth_of_arith a
depth-some (number n) = omega arith
depth-some packet_length = omega arith
depth-some (accessor p index size) = omega arith
depth-some (operation left operator right) = omega arith

sound-arith : (a : ArithTree) → IsArithInRange a → (before rest : List Token) → IsFree before → open_brackets before + depth_of_arith a ≤ 65 →
    IsSound (arith_before a before) rest → IsSound before (arith_tokens a rest)
sound-arith (number n) range before rest f room s = (λ at. sound-number before n at f range, s)
sound-arith packet_length range before rest f room s = (λ at. refl, s)
sound-arith (accessor p index size) range before rest f room s =
    let deep : 1 ≤ depth_of_arith index = depth-some index in (
      λ at. refl,
      (
        λ at. sound-bracket (open_brackets before) at (omega arith),
        sound-arith index range (OpenIndex ∷ Named p ∷ before) (Colon ∷ size_token size ∷ CloseIndex ∷ rest) (refl, refl) (omega arith)
            (sound-close size (arith_before index (OpenIndex ∷ Named p ∷ before)) rest s),
      ),
    )
sound-arith (operation left operator right) (range-left, range-right) before rest f room s =
    let deep : 1 ≤ depth_of_arith left = depth-some left in
    let same : open_brackets (arith_before left (Open ∷ before)) ≡ suc (open_brackets before) = open-arith left (Open ∷ before) in (
      λ at. sound-bracket (open_brackets before) at (omega arith),
      sound-arith left range-left (Open ∷ before) (Operates operator ∷ arith_tokens right (Close ∷ rest)) (refl, refl) (omega arith) (
        λ at. refl,
        sound-arith right range-right (Operates operator ∷ arith_before left (Open ∷ before)) (Close ∷ rest)
            (free-arith left (Open ∷ before) (refl, refl) operator) (omega arith) (λ at. refl, s),
      ),
    )

abbrev direction_before : Direction → List Token → List Token
direction_before FromSource before = Source ∷ before
direction_before ToDestination before = Destination ∷ before
direction_before Either before = before
direction_before Both before = Destination ∷ Connects And ∷ Source ∷ before

abbrev transport_before : Transport → List Token → List Token
transport_before Tcp before = Named TcpName ∷ before
transport_before Udp before = Named UdpName ∷ before
transport_before Unnamed before = before

abbrev primitive_before : Primitive → List Token → List Token
primitive_before Ip before = Named IpName ∷ before
primitive_before (IsProto n) before = Number n ∷ Proto ∷ Named IpName ∷ before
primitive_before (IsHost direction a) before = Address a ∷ Host ∷ direction_before direction before
primitive_before (IsNet direction prefix) before =
    Number prefix.bits ∷ Operates Divide ∷ Address prefix.address ∷ Net ∷ direction_before direction before
primitive_before (IsPort transport direction n) before = Number n ∷ Port ∷ direction_before direction (transport_before transport before)
primitive_before (IsPortRange transport direction n m) before =
    Number m ∷ Operates Subtract ∷ Number n ∷ PortRange ∷ direction_before direction (transport_before transport before)
primitive_before (AtMost n) before = Number n ∷ Less ∷ before
primitive_before (AtLeast n) before = Number n ∷ Greater ∷ before

abbrev tree_before : Tree → List Token → List Token
tree_before (primitive p) before = primitive_before p before
tree_before (relation left relator right) before = arith_before right (Compares relator ∷ arith_before left before)
tree_before (negation tree) before = tree_before tree (Not ∷ before)
tree_before (conjunction left right) before = Close ∷ tree_before right (Connects And ∷ tree_before left (Open ∷ before))
tree_before (disjunction left right) before = Close ∷ tree_before right (Connects Or ∷ tree_before left (Open ∷ before))

open-direction : (direction : Direction) (before : List Token) → open_brackets (direction_before direction before) ≡ open_brackets before
open-direction FromSource before = refl
open-direction ToDestination before = refl
open-direction Either before = refl
open-direction Both before = refl

open-transport : (transport : Transport) (before : List Token) → open_brackets (transport_before transport before) ≡ open_brackets before
open-transport Tcp before = refl
open-transport Udp before = refl
open-transport Unnamed before = refl

open-primitive : (p : Primitive) (before : List Token) → open_brackets (primitive_before p before) ≡ open_brackets before
open-primitive Ip before = refl
open-primitive (IsProto n) before = refl
open-primitive (IsHost direction a) before = open-direction direction before
open-primitive (IsNet direction prefix) before = open-direction direction before
open-primitive (IsPort transport direction n) before = open-direction direction (transport_before transport before) ∙ open-transport transport before
open-primitive (IsPortRange transport direction n m) before = open-direction direction (transport_before transport before) ∙ open-transport transport before
open-primitive (AtMost n) before = refl
open-primitive (AtLeast n) before = refl

open-tree : (tree : Tree) (before : List Token) → open_brackets (tree_before tree before) ≡ open_brackets before
open-tree (primitive p) before = open-primitive p before
open-tree (relation left relator right) before = open-arith right (Compares relator ∷ arith_before left before) ∙ open-arith left before
open-tree (negation tree) before = open-tree tree (Not ∷ before)
open-tree (conjunction left right) before =
    ap pred (open-tree right (Connects And ∷ tree_before left (Open ∷ before)) ∙ open-tree left (Open ∷ before))
open-tree (disjunction left right) before =
    ap pred (open-tree right (Connects Or ∷ tree_before left (Open ∷ before)) ∙ open-tree left (Open ∷ before))

sound-direction : (direction : Direction) (before rest : List Token) → IsSound (direction_before direction before) rest → IsSound before (direction_tokens direction rest)
sound-direction FromSource before rest s = (λ at. refl, s)
sound-direction ToDestination before rest s = (λ at. refl, s)
sound-direction Either before rest s = s
sound-direction Both before rest s = (λ at. refl, (λ at. refl, (λ at. refl, s)))

sound-transport : (transport : Transport) (before rest : List Token) → IsSound (transport_before transport before) rest → IsSound before (transport_tokens transport rest)
sound-transport Tcp before rest s = (λ at. refl, s)
sound-transport Udp before rest s = (λ at. refl, s)
sound-transport Unnamed before rest s = s

sound-address : (before : List Token) (a at : ℕ) → a < 2 ^ 32 → own_fault before (Address a) at ≡ None
sound-address before a at small = ap (λ t. cond t None (Some (BadAddress at))) (le-leb a 4294967295 (omega arith))

sound-limit : (limit n at : ℕ) → n ≤ limit → cond (nat_le n limit) (prefix_fault None n at) (Some (NumberTooBig at)) ≡ None
sound-limit limit n at h = ap (λ t. cond t None (Some (NumberTooBig at))) (le-leb n limit h)

sound-bits : (a n at : ℕ) → n ≤ 32 → a % 2 ^ (32 - n) ≡ 0 → cond (nat_le n 4294967295) (prefix_fault (Some a) n at) (Some (NumberTooBig at)) ≡ None
sound-bits a n at small clear =
    ap (λ t. cond t (prefix_fault (Some a) n at) (Some (NumberTooBig at))) (le-leb n 4294967295 (omega arith))
    ∙ ap (λ t. cond (t && nat_eq (a % 2 ^ (32 - n)) 0) None (Some (BadPrefix at))) (le-leb n 32 small)
    ∙ ap (λ t. cond t None (Some (BadPrefix at))) (eq-eqb (a % 2 ^ (32 - n)) 0 clear)

sound-primitive : (p : Primitive) → IsPrimitiveInRange p → (before rest : List Token) → IsSound (primitive_before p before) rest →
    IsSound before (primitive_tokens p rest)
sound-primitive Ip range before rest s = (λ at. refl, s)
sound-primitive (IsProto n) range before rest s = (λ at. refl, (λ at. refl, (λ at. sound-limit 255 n at (omega arith), s)))
sound-primitive (IsHost direction a) range before rest s =
    sound-direction direction before _ (λ at. refl, (λ at. sound-address (Host ∷ direction_before direction before) a at range, s))
sound-primitive (IsNet direction prefix) range before rest s =
    sound-direction direction before _ (
      λ at. refl,
      (
        λ at. sound-address (Net ∷ direction_before direction before) prefix.address at range.0,
        (λ at. refl, (λ at. sound-bits prefix.address prefix.bits at range.1.not_too_long range.1.no_host_bits, s)),
      ),
    )
sound-primitive (IsPort transport direction n) range before rest s =
    sound-transport transport before _ (sound-direction direction (transport_before transport before) _
    (λ at. refl, (λ at. sound-limit 65535 n at (omega arith), s)))
sound-primitive (IsPortRange transport direction n m) range before rest s =
    sound-transport transport before _ (sound-direction direction (transport_before transport before) _
    (λ at. refl, (λ at. sound-limit 65535 n at (omega (arith, range.0)), (λ at. refl, (λ at. sound-limit 65535 m at (omega (arith, range.1)), s)))))
sound-primitive (AtMost n) range before rest s = (λ at. refl, (λ at. sound-limit 4294967295 n at (omega arith), s))
sound-primitive (AtLeast n) range before rest s = (λ at. refl, (λ at. sound-limit 4294967295 n at (omega arith), s))

depth-tree : (tree : Tree) → 1 ≤ depth_of tree
depth-tree (primitive p) = omega arith
depth-tree (relation left relator right) = omega arith
depth-tree (negation tree) = omega arith
depth-tree (conjunction left right) = omega arith
depth-tree (disjunction left right) = omega arith

sound-tree : (tree : Tree) → IsInRange tree → (before rest : List Token) → IsFree before → open_brackets before + depth_of tree ≤ 65 →
    IsSound (tree_before tree before) rest → IsSound before (tree_tokens tree rest)
sound-tree (primitive p) range before rest f room s = sound-primitive p range before rest s
sound-tree (relation left relator right) (range-left, range-right) before rest f room s =
    let same : open_brackets (arith_before left before) ≡ open_brackets before = open-arith left before in
    sound-arith left range-left before (Compares relator ∷ arith_tokens right rest) f (omega arith)
    (λ at. refl, sound-arith right range-right (Compares relator ∷ arith_before left before) rest (refl, refl) (omega arith) s)
sound-tree (negation tree) range before rest f room s = (λ at. refl, sound-tree tree range (Not ∷ before) rest (refl, refl) (omega arith) s)
sound-tree (conjunction left right) (range-left, range-right) before rest f room s =
    let deep : 1 ≤ depth_of left = depth-tree left in
    let same : open_brackets (tree_before left (Open ∷ before)) ≡ suc (open_brackets before) = open-tree left (Open ∷ before) in (
      λ at. sound-bracket (open_brackets before) at (omega arith),
      sound-tree left range-left (Open ∷ before) (Connects And ∷ tree_tokens right (Close ∷ rest)) (refl, refl) (omega arith)
          (λ at. refl, sound-tree right range-right (Connects And ∷ tree_before left (Open ∷ before)) (Close ∷ rest) (refl, refl) (omega arith) (λ at. refl, s)),
    )
sound-tree (disjunction left right) (range-left, range-right) before rest f room s =
    let deep : 1 ≤ depth_of left = depth-tree left in
    let same : open_brackets (tree_before left (Open ∷ before)) ≡ suc (open_brackets before) = open-tree left (Open ∷ before) in (
      λ at. sound-bracket (open_brackets before) at (omega arith),
      sound-tree left range-left (Open ∷ before) (Connects Or ∷ tree_tokens right (Close ∷ rest)) (refl, refl) (omega arith)
          (λ at. refl, sound-tree right range-right (Connects Or ∷ tree_before left (Open ∷ before)) (Close ∷ rest) (refl, refl) (omega arith) (λ at. refl, s)),
    )

pub read-back : ReadsBack
read-back tree range shallow =
    let tokens = printed-tokens tree range in
    tree-there (printed tree) tree
    (record {
      spelt = subst (λ ts. Spells ts tree) (sym tokens) (tokens-spell tree);
      faultless = sound-faultless [] (tokens_of (printed tree))
          (subst (IsSound []) (sym tokens) (sound-tree tree range [] [] (refl, refl) (omega arith) tt));
      shallow = shallow;
    })
