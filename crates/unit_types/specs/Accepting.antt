-- Which tokens are a type, as one who reads them finds it, token by token: the place of the reader, and the brackets that are open.
use Rattle.std.specs.Prelude.{◌≡◌, ◌<◌, Bool, true, false, List, [], ◌∷◌, map, length, Option, Some, None}
use Rattle.type_table.specs.declared.form.Form.{Form}
use Rattle.sisal_lex.specs.declared.token.Kind.{Kind}
use Rattle.sisal_lex.specs.declared.token.Kind.TheVariants as kind
use Rattle.sisal_lex.specs.declared.token.Token.{Token}
use Rattle.sisal_lex.specs.declared.token.Word.TheVariants as word
use Rattle.sisal_lex.specs.declared.token.Sign.TheVariants as sign
use Rattle.unit_types.specs.declared.open.Opener.{Opener}
use Rattle.unit_types.specs.declared.open.Opener.TheVariants as opener
use Rattle.unit_types.specs.declared.open.Open.{Open}
use Rattle.unit_types.specs.declared.open.Open.TheVariants as entry
use Rattle.unit_types.specs.declared.open.Next.{Next}
use Rattle.unit_types.specs.declared.open.Next.TheVariants as next

-- the bracket of an array or a stream, or of members, which are those of a union or not
pub data Shape : Type 0 where
  sequence : Shape
  members : Bool → Shape

-- what comes next
pub data Place : Type 0 where
  a_type : Place
  bracket : Shape → Place
  a_name : Place
  behind_name : Place
  behind : Place
  behind_semicolon : Place

-- what a token is to the reader
pub data Class : Type 0 where
  -- a word that begins a type, and what comes behind it
  begins : Place → Class
  called : Class
  comma : Class
  semicolon : Class
  colon : Class
  opens : Class
  closes : Class
  other : Class

abbrev pub class : Kind → Class
class (kind.Word word.WInteger) = begins behind
class (kind.Word word.WBoolean) = begins behind
class (kind.Word word.WCharacter) = begins behind
class (kind.Word word.WNull) = begins behind
class (kind.Word word.WReal) = begins behind
class (kind.Word word.WDoubleReal) = begins behind
class (kind.Word word.WArray) = begins (bracket sequence)
class (kind.Word word.WStream) = begins (bracket sequence)
class (kind.Word word.WRecord) = begins (bracket (members false))
class (kind.Word word.WUnion) = begins (bracket (members true))
class (kind.Id x) = called
class (kind.Sign sign.SComma) = comma
class (kind.Sign sign.SSemicolon) = semicolon
class (kind.Sign sign.SColon) = colon
class (kind.Sign sign.SOpenBracket) = opens
class (kind.Sign sign.SCloseBracket) = closes
class _ = other

-- what comes in a bracket
abbrev pub inside : Shape → Place
inside sequence = a_type
inside (members is_union) = a_name

-- where a token leads, if it may stand there
abbrev pub goes : Place → List Shape → Class → Option (Place × List Shape)
goes a_type os (begins p) = Some (p, os)
goes a_type os called = Some (behind, os)
goes (bracket s) os opens = Some (inside s, s ∷ os)
goes a_name (members b ∷ os) called = Some (behind_name, members b ∷ os)
goes behind_name os comma = Some (a_name, os)
goes behind_name os colon = Some (a_type, os)
goes behind_name (members true ∷ os) semicolon = Some (behind_semicolon, members true ∷ os)
goes behind_name (members true ∷ os) closes = Some (behind, os)
goes behind (sequence ∷ os) closes = Some (behind, os)
goes behind (members b ∷ os) semicolon = Some (behind_semicolon, members b ∷ os)
goes behind (members b ∷ os) closes = Some (behind, os)
goes behind_semicolon (members b ∷ os) called = Some (behind_name, members b ∷ os)
goes behind_semicolon (members b ∷ os) closes = Some (behind, os)
goes _ os c = None

-- tokens lead from there to the end of a type, where nothing is open
abbrev pub Accepts : Option (Place × List Shape) → List Kind → Type 0
Accepts None ks = ⊥
Accepts (Some s) [] = (s.0 ≡ behind) × (s.1 ≡ [])
Accepts (Some s) (k ∷ ks) = Accepts (goes s.0 s.1 (class k)) ks

-- members are open, or those of a union
abbrev pub AreMembers : List Shape → Type 0
AreMembers (members b ∷ os) = Unit {0}
AreMembers _ = ⊥

abbrev pub IsUnion : List Shape → Type 0
IsUnion (members true ∷ os) = Unit {0}
IsUnion _ = ⊥

abbrev pub kinds_of : List Token → List Kind
kinds_of ts = map (λ t. t.kind) ts

-- ---- the same in the reader

abbrev pub opened_in : Opener → Shape
opened_in opener.Array = sequence
opened_in opener.Stream = sequence
opened_in opener.Record = members false
opened_in opener.Union = members true

abbrev pub shape_of : Open → Shape
shape_of (entry.Sequence s) = sequence
shape_of (entry.Members m) = members m.is_union

abbrev pub shapes_of : List Open → List Shape
shapes_of os = map shape_of os

abbrev pub place_of : Next → Place
place_of next.Type = a_type
place_of (next.Bracket o line) = bracket (opened_in o)
place_of next.Name = a_name
place_of next.AfterName = behind_name
place_of (next.After n) = behind
place_of next.AfterSemicolon = behind_semicolon

-- the number of a type that was read is in the table
abbrev pub IsThere : List Form → Next → Type 0
IsThere forms (next.After n) = n < length forms
IsThere forms _ = Unit {0}
