-- Types by number while written types are read: tables that grow, names of types, what is open, and what stands for it.
use Rattle.std.specs.Prelude.{◌≡◌, ◌<◌, ◌≤◌, ℕ, ◌+◌, length, drop, List, [], ◌∷◌, ◌++◌, All, map, Bool, true, false, Option, Some, None, slice_get, slice_range, if◌then◌else◌}
use Rattle.name_scope.specs.Newest.{newest}
use Rattle.flow_value.specs.declared.ty.Ty.{Ty}
use Rattle.flow_value.specs.declared.ty.Ty.TheVariants as ty
use Rattle.type_table.specs.declared.form.Form.{Form}
use Rattle.type_table.specs.declared.form.Form.TheVariants as form
use Rattle.type_table.specs.declared.form.Member.{Member as NumberedMember}
use Rattle.type_table.specs.Tables.{IsTable, IsOver, AddsAtMost}
use Rattle.sisal_lex.specs.declared.token.Kind.{Kind}
use Rattle.sisal_lex.specs.declared.token.Kind.TheVariants as kind
use Rattle.sisal_lex.specs.declared.token.Word.{Word}
use Rattle.sisal_lex.specs.declared.token.Word.TheVariants as word
use Rattle.sisal_lex.specs.declared.token.Token.{Token}
use Rattle.sisal_tree.specs.declared.unit.Named.{Named}
use Rattle.sisal_tree.specs.declared.unit.TypeDef.{TypeDef}
use Rattle.sisal_tree.specs.declared.unit.FunDef.{FunDef}
use Rattle.sisal_tree.specs.declared.unit.Item.{Item}
use Rattle.sisal_tree.specs.declared.unit.Item.TheVariants as item
use Rattle.sisal_grammar.specs.declared.value.Placed.{Placed}
use Rattle.sisal_grammar.specs.Placed.{placed}
use Rattle.type_rules.specs.Records.{are_distinct}
use Rattle.typed_tree.specs.Types.{Member, IsNumber}
use Rattle.typed_tree.specs.Typing.{names_of}
use Rattle.typed_tree.specs.Written.{Denotes}
use Rattle.unit_types.specs.declared.open.Opener.{Opener}
use Rattle.unit_types.specs.declared.open.Opener.TheVariants as opener
use Rattle.unit_types.specs.declared.open.First.{First}
use Rattle.unit_types.specs.declared.open.First.TheVariants as first
use Rattle.unit_types.specs.declared.open.Members.{Members}
use Rattle.unit_types.specs.declared.open.Open.{Open}
use Rattle.unit_types.specs.declared.open.Open.TheVariants as entry
use Rattle.unit_types.specs.declared.open.Next.{Next}
use Rattle.unit_types.specs.declared.open.Next.TheVariants as next

-- a token at a place
abbrev pub at_place : ℕ → Token → Placed
at_place n t = record { place = n; kind = t.kind; line = t.line }

-- what a sequence makes of its element, and a record or a union of its members
abbrev pub sequence_of : Bool → Ty → Ty
sequence_of is_stream t = if is_stream then ty.Stream t else ty.Arr t

abbrev pub members_of : Bool → List Member → Ty
members_of is_union ms = if is_union then ty.Uni ms else ty.Rec ms

-- a table to which this one has grown
pub record IsLater (old forms : List Form) : Type 0 where
  pub more : List Form
  pub grown : forms ≡ old ++ more
  pub table : IsTable forms

-- this table has grown to that one
pub record IsGrown (old new : List Form) : Type 0 where
  pub more : List Form
  pub is : new ≡ old ++ more

-- the names of types with numbers, and the same with types
abbrev pub AreKnown : List Form → List (List ℕ) → List (ℕ × ℕ) → List (ℕ × Ty) → Type 0
AreKnown forms spellings [] [] = Unit {0}
AreKnown forms spellings (n ∷ ns) (t ∷ ts) = (n.0 ≡ t.0) × IsNumber forms spellings n.1 t.1 × AreKnown forms spellings ns ts
AreKnown forms spellings _ _ = ⊥

-- ---- names

-- a name with a spelling
pub record IsSpelled (spellings : List (List ℕ)) (n : ℕ) : Type 0 where
  pub spelling : List ℕ
  pub is : slice_get spellings n ≡ Some spelling

abbrev pub AreSpelled : List (List ℕ) → List ℕ → Type 0
AreSpelled spellings [] = Unit {0}
AreSpelled spellings (n ∷ ns) = IsSpelled spellings n × AreSpelled spellings ns

-- the token is a name with a spelling, or no name
abbrev pub IsKindSpelled : List (List ℕ) → Kind → Type 0
IsKindSpelled spellings (kind.Id n) = IsSpelled spellings n
IsKindSpelled spellings _ = Unit {0}

abbrev pub AreTokensSpelled : List (List ℕ) → List Token → Type 0
AreTokensSpelled spellings [] = Unit {0}
AreTokensSpelled spellings (t ∷ ts) = IsKindSpelled spellings t.kind × AreTokensSpelled spellings ts

-- so are the names in what is open, and those of the members are the ones that were noted
abbrev pub AreOpenSpelled : List (List ℕ) → List Open → Type 0
AreOpenSpelled spellings [] = Unit {0}
AreOpenSpelled spellings (entry.Sequence s ∷ os) = AreOpenSpelled spellings os
AreOpenSpelled spellings (entry.Members m ∷ os) =
    AreSpelled spellings m.names × AreSpelled spellings (names_of m.group) × (map (λ m. m.name) m.members ≡ m.names) × AreOpenSpelled spellings os

-- nothing that is open has more members, with the names whose type comes next, than n
abbrev pub AreSized : ℕ → List Open → Type 0
AreSized n [] = Unit {0}
AreSized n (entry.Sequence s ∷ os) = AreSized n os
AreSized n (entry.Members m ∷ os) = (length m.members + length m.group ≤ n) × AreSized n os

-- no field or tag stands twice in a form
abbrev pub HasEachOnce : Form → Type 0
HasEachOnce (form.Record ms) = are_distinct (map (λ m. m.name) ms) ≡ true
HasEachOnce (form.Union ms) = are_distinct (map (λ m. m.name) ms) ≡ true
HasEachOnce _ = Unit {0}

-- each number stands for a type, in which no field or tag stands twice
pub record AreStanding (spellings : List (List ℕ)) (forms : List Form) : Type 0 where
  pub stands : (n : ℕ) → n < length forms → (t : Ty) × IsNumber forms spellings n t
  pub once : All HasEachOnce forms

-- ---- parts of steps

-- the word that begins a type
abbrev pub word_of : First → Word
word_of first.Boolean = word.WBoolean
word_of first.Character = word.WCharacter
word_of first.Integer = word.WInteger
word_of first.Null = word.WNull
word_of first.Real = word.WReal
word_of first.DoubleReal = word.WDoubleReal
word_of (first.Opens opener.Array) = word.WArray
word_of (first.Opens opener.Stream) = word.WStream
word_of (first.Opens opener.Record) = word.WRecord
word_of (first.Opens opener.Union) = word.WUnion

-- what comes behind it
abbrev pub begun : First → ℕ → Option Next
begun first.Boolean line = Some (next.After 0)
begun first.Character line = Some (next.After 1)
begun first.Integer line = Some (next.After 2)
begun first.Null line = Some (next.After 3)
begun first.Real line = None
begun first.DoubleReal line = None
begun (first.Opens o) line = Some (next.Bracket o line)

abbrev pub no_members : ℕ → Bool → Members
no_members line is_union = record { line = line; is_union = is_union; members = []; names = []; group = [] }

-- what a bracket opens
abbrev pub opened_by : Opener → ℕ → Open
opened_by opener.Array line = entry.Sequence (record { line = line; is_stream = false })
opened_by opener.Stream line = entry.Sequence (record { line = line; is_stream = true })
opened_by opener.Record line = entry.Members (no_members line false)
opened_by opener.Union line = entry.Members (no_members line true)

-- and what comes in it
abbrev pub inside_of : Opener → Next
inside_of opener.Array = next.Type
inside_of opener.Stream = next.Type
inside_of opener.Record = next.Name
inside_of opener.Union = next.Name

-- members with one name more in the group
abbrev pub with_name : Members → Named → Members
with_name m n = record { line = m.line; is_union = m.is_union; members = m.members; names = m.names; group = m.group ++ n ∷ [] }

abbrev pub members_with : List Named → ℕ → List NumberedMember
members_with ns ty = map (λ n. record { name = n.name; ty = ty }) ns

-- members with the group
abbrev pub with_group : Members → ℕ → Members
with_group m ty = record { line = m.line; is_union = m.is_union; members = m.members ++ members_with m.group ty; names = m.names ++ names_of m.group; group = [] }

-- forms
abbrev pub sequence_form : Bool → ℕ → Form
sequence_form is_stream n = if is_stream then form.Stream n else form.Array n

abbrev pub members_form : Bool → List NumberedMember → Form
members_form is_union ms = if is_union then form.Union ms else form.Record ms

-- a form has got this number
pub record IsMade (old new : List Form) (f : Form) (later : Next) : Type 0 where
  pub number : ℕ
  pub is : later ≡ next.After number
  pub there : slice_get new number ≡ Some f
  pub adds : AddsAtMost old f new
  pub over : IsOver (length old) f

-- a table is used for these tokens: it has grown, and each number stands for a type if it did before
pub record IsUsed (tokens : List Token) (old new : List Form) : Type 0 where
  pub grown : IsGrown old new
  pub standing : (spellings : List (List ℕ)) → AreTokensSpelled spellings tokens → AreStanding spellings old → AreStanding spellings new

-- and so are the names of types: those with numbers are those with these types
pub record HasNames (spellings : List (List ℕ)) (forms : List Form) (known : List (ℕ × ℕ)) (types : List (ℕ × Ty)) : Type 0 where
  pub standing : AreStanding spellings forms
  pub named : AreKnown forms spellings known types

-- the names of the types of items, in order, where these are known before, the newest first: in the end they are these
pub data Names (spellings : List (List ℕ)) (tokens : List Token) : List (ℕ × Ty) → List Item → List (ℕ × Ty) → Type 0 where
  no_item : {types : List (ℕ × Ty)} → Names spellings tokens types [] types
  a_type : {types all : List (ℕ × Ty)} {d : TypeDef} {a : Ty} {items : List Item}
      → Denotes spellings types (slice_range (placed 0 tokens) d.ty.from d.ty.to) a → newest d.name types ≡ None → Names spellings tokens ((d.name, a) ∷ types) items all
      → Names spellings tokens types (item.Alias d ∷ items) all
  a_function : {types all : List (ℕ × Ty)} {f : FunDef} {items : List Item} → Names spellings tokens types items all → Names spellings tokens types (item.Function f ∷ items) all

-- types come with this item, and then these are known
pub record IsNamed (spellings : List (List ℕ)) (tokens : List Token) (types : List (ℕ × Ty)) (i : Item) (forms : List Form) (known : List (ℕ × ℕ)) : Type 0 where
  pub later : List (ℕ × Ty)
  pub names : HasNames spellings forms known later
  pub leads : (items : List Item) (all : List (ℕ × Ty)) → Names spellings tokens later items all → Names spellings tokens types (i ∷ items) all

-- the types of items up to a place
pub record AreNamed (spellings : List (List ℕ)) (tokens : List Token) (items : List Item) (n : ℕ) (forms : List Form) (known : List (ℕ × ℕ)) : Type 0 where
  pub types : List (ℕ × Ty)
  pub names : HasNames spellings forms known types
  pub leads : (all : List (ℕ × Ty)) → Names spellings tokens types (drop n items) all → Names spellings tokens [] items all
