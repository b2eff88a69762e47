-- What was read where the reader of a written type stands: the tokens so far, as parts of the types that are open. Types that were
-- read have their numbers in a table.
use Rattle.std.specs.Prelude.{◌≡◌, ◌<◌, ℕ, ◌+◌, length, drop, List, [], ◌∷◌, ◌++◌, Bool, true, false, Some}
use Rattle.flow_value.specs.declared.ty.Ty.{Ty}
use Rattle.type_table.specs.declared.form.Form.{Form}
use Rattle.type_table.specs.declared.form.Member.{Member as NumberedMember}
use Rattle.type_table.specs.Tables.{IsTable}
use Rattle.sisal_lex.specs.declared.token.Sign.TheVariants as sign
use Rattle.sisal_lex.specs.declared.token.Token.{Token}
use Rattle.sisal_tree.specs.declared.unit.Named.{Named}
use Rattle.sisal_grammar.specs.declared.value.Placed.{Placed}
use Rattle.sisal_grammar.specs.Acts.{named}
use Rattle.sisal_grammar.specs.Placed.{placed}
use Rattle.sisal_grammar.specs.Phrases.{many, comma_name}
use Rattle.sisal_grammar.specs.Spells.{IsSign, IsName, Spells}
use Rattle.typed_tree.specs.Types.{Member, IsNumber, AreMembers}
use Rattle.typed_tree.specs.Typing.{names_of}
use Rattle.typed_tree.specs.Written.{IsSequenceWord, IsMembersWord, AreOf, Denotes, HasMembers, HasType, Misnames, MisnamesMember}
use Rattle.unit_types.specs.declared.open.Opener.{Opener}
use Rattle.unit_types.specs.declared.open.Opener.TheVariants as opener
use Rattle.unit_types.specs.declared.open.Members.{Members}
use Rattle.unit_types.specs.declared.open.Open.{Open}
use Rattle.unit_types.specs.declared.open.Open.TheVariants as entry
use Rattle.unit_types.specs.declared.open.Next.{Next}
use Rattle.unit_types.specs.declared.open.Next.TheVariants as next
use Rattle.unit_types.specs.Accepting.{Accepts, IsThere, a_type, class, goes, kinds_of, place_of, shapes_of}
use Rattle.unit_types.specs.Rests.{at_place, sequence_of, members_of, IsLater, IsGrown, AreKnown, IsKindSpelled, AreTokensSpelled, AreOpenSpelled, AreSized, AreStanding}

-- ---- names of members

-- names with commas between them
pub record AreNames (ts : List Placed) (group : List Named) : Type 0 where
  pub first : Placed
  pub others : List Placed
  pub names : List Named
  pub whole : ts ≡ first ∷ others
  pub is : IsName first
  pub spelled : Spells (many comma_name) others names
  pub all : group ≡ named first ∷ names

-- names, behind which more may come
abbrev pub MayGoOn : List Placed → List Named → Type 0
MayGoOn ts group = (others : List Placed) (names : List Named) → Spells (many comma_name) others names → AreNames (ts ++ others) (group ++ names)

-- names so far, behind which one more comes
abbrev pub GoesOn : List Placed → List Named → Type 0
GoesOn ts group = (p : Placed) → IsName p → MayGoOn (ts ++ p ∷ []) (group ++ named p ∷ [])

-- names and a colon
pub record AreAnnounced (ts : List Placed) (group : List Named) : Type 0 where
  pub inner : List Placed
  pub colon : Placed
  pub whole : ts ≡ inner ++ colon ∷ []
  pub are : AreNames inner group
  pub is : IsSign sign.SColon colon

-- ---- open brackets

-- the word before a bracket
abbrev pub Opens : Opener → Placed → Type 0
Opens opener.Array p = IsSequenceWord p (λ t. sequence_of false t)
Opens opener.Stream p = IsSequenceWord p (λ t. sequence_of true t)
Opens opener.Record p = IsMembersWord p false (λ ms. members_of false ms)
Opens opener.Union p = IsMembersWord p true (λ ms. members_of true ms)

-- behind that word, which stands on a line, where `before` comes before it
pub record BehindWord (o : Opener) (line : ℕ) (before : List Placed → Type 0) (ts : List Placed) : Type 0 where
  pub outer : List Placed
  pub word : Placed
  pub whole : ts ≡ outer ++ word ∷ []
  pub leads : before outer
  pub opens : Opens o word
  pub on_line : word.line ≡ line

-- in the brackets of an array or a stream, where a phrase stands in them
pub record InSequence (is_stream : Bool) (line : ℕ) (before phrase : List Placed → Type 0) (ts : List Placed) : Type 0 where
  pub outer : List Placed
  pub word : Placed
  pub bracket : Placed
  pub inner : List Placed
  pub whole : ts ≡ outer ++ (word ∷ bracket ∷ inner)
  pub leads : before outer
  pub opens : IsSequenceWord word (λ t. sequence_of is_stream t)
  pub on_line : word.line ≡ line
  pub opened : IsSign sign.SOpenBracket bracket
  pub is : phrase inner

-- `spellings` says how the names of the text are spelled, `types` which names of types are known, the newest first, and `forms` is the table
module _ (spellings : List (List ℕ)) (types : List (ℕ × Ty)) (forms : List Form) where
  -- in the brackets of a record or a union: members with their semicolons, which have these numbers and names, and then a phrase
  pub record InMembers (is_union : Bool) (line : ℕ) (numbers : List NumberedMember) (known : List ℕ) (before : List Placed → Type 0) (phrase : List Placed → List Named → List Member → List Placed → Type 0) (ts : List Placed) : Type 0 where
    pub outer : List Placed
    pub word : Placed
    pub bracket : Placed
    pub done : List Placed
    pub inner : List Placed
    pub names : List Named
    pub members : List Member
    pub whole : ts ≡ outer ++ (word ∷ bracket ∷ (done ++ inner))
    pub leads : before outer
    pub opens : IsMembersWord word is_union (λ ms. members_of is_union ms)
    pub on_line : word.line ≡ line
    pub opened : IsSign sign.SOpenBracket bracket
    pub all_names : names_of names ≡ known
    pub numbered : AreMembers forms spellings numbers members
    -- what may follow the members done, and what may break a rule behind them
    pub follows : (us : List Placed) (ns : List Named) (ms : List Member) → HasMembers spellings types is_union us ns ms → HasMembers spellings types is_union (done ++ us) (names ++ ns) (members ++ ms)
    pub fails : (us : List Placed) (rule line : ℕ) → MisnamesMember spellings types is_union us rule line → MisnamesMember spellings types is_union (done ++ us) rule line
    pub is : phrase done names members inner

  -- the members are all there, behind which a bracket may close them
  pub record Gathers (is_union : Bool) (line : ℕ) (numbers : List NumberedMember) (known : List ℕ) (before : List Placed → Type 0) (ts : List Placed) : Type 0 where
    pub outer : List Placed
    pub word : Placed
    pub bracket : Placed
    pub inner : List Placed
    pub names : List Named
    pub members : List Member
    pub whole : ts ≡ outer ++ (word ∷ bracket ∷ inner)
    pub leads : before outer
    pub opens : IsMembersWord word is_union (λ ms. members_of is_union ms)
    pub on_line : word.line ≡ line
    pub opened : IsSign sign.SOpenBracket bracket
    pub all_names : names_of names ≡ known
    pub numbered : AreMembers forms spellings numbers members
    pub are : HasMembers spellings types is_union inner names members

  -- ---- places

  -- where a type comes, with these brackets open
  abbrev pub AtType : List Open → List Placed → Type 0
  AtType [] ts = ts ≡ []
  AtType (entry.Sequence s ∷ os) ts = InSequence s.is_stream s.line (AtType os) (λ inner. inner ≡ []) ts
  AtType (entry.Members m ∷ os) ts = InMembers m.is_union m.line m.members m.names (AtType os) (λ done names members inner. AreAnnounced inner m.group) ts

  -- names with their type, which is this
  abbrev pub HasGroup : Bool → List Named → Ty → List Placed → Type 0
  HasGroup without group a inner = (ms : List Member) → AreOf spellings types a group ms → HasType spellings types without inner group ms

  -- behind a type
  abbrev pub Behind : List Open → Ty → List Placed → Type 0
  Behind [] a ts = Denotes spellings types ts a
  Behind (entry.Sequence s ∷ os) a ts = InSequence s.is_stream s.line (AtType os) (λ inner. Denotes spellings types inner a) ts
  Behind (entry.Members m ∷ os) a ts = InMembers m.is_union m.line m.members m.names (AtType os) (λ done names members inner. HasGroup m.is_union m.group a inner) ts

  -- behind a type of this number
  pub record BehindNumber (os : List Open) (n : ℕ) (ts : List Placed) : Type 0 where
    pub type : Ty
    pub stands : IsNumber forms spellings n type
    pub is : Behind os type ts

  -- behind the semicolon of these members, with no name of a next one
  pub record AreSoFar (m : Members) (done : List Placed) (names : List Named) (members : List Member) (inner : List Placed) : Type 0 where
    pub nothing : inner ≡ []
    pub no_name : m.group ≡ []
    pub are : HasMembers spellings types m.is_union done names members

  -- in a record or a union
  abbrev pub InBrackets : List Open → (Members → List Placed → List Named → List Member → List Placed → Type 0) → List Placed → Type 0
  InBrackets (entry.Members m ∷ os) phrase ts = InMembers m.is_union m.line m.members m.names (AtType os) (phrase m) ts
  InBrackets _ phrase ts = ⊥

  -- the reader stands behind these tokens
  abbrev pub Stands : Next → List Open → List Placed → Type 0
  Stands next.Type os ts = AtType os ts
  Stands (next.Bracket o line) os ts = BehindWord o line (AtType os) ts
  Stands next.Name os ts = InBrackets os (λ m done names members inner. GoesOn inner m.group) ts
  Stands next.AfterName os ts = InBrackets os (λ m done names members inner. MayGoOn inner m.group) ts
  Stands (next.After n) os ts = BehindNumber os n ts
  Stands next.AfterSemicolon os ts = InBrackets os AreSoFar ts

-- ---- steps

-- a token leads from a place of the reader to another, with these names of types
pub record Leads (known : List (ℕ × ℕ)) (old new : List Form) (now : Next) (os : List Open) (t : Token) (later : Next) (rest : List Open) : Type 0 where
  pub goes_on : goes (place_of now) (shapes_of os) (class t.kind) ≡ Some (place_of later, shapes_of rest)
  pub there : IsTable new → IsThere new later
  pub grown : IsGrown old new
  pub spelled : (spellings : List (List ℕ)) → IsKindSpelled spellings t.kind → AreOpenSpelled spellings os → AreOpenSpelled spellings rest
  pub standing : (spellings : List (List ℕ)) → AreOpenSpelled spellings os → AreStanding spellings old → AreStanding spellings new
  pub sized : (n : ℕ) → AreSized n os → AreSized (n + 1) rest
  pub reaches : (spellings : List (List ℕ)) (types : List (ℕ × Ty)) (forms : List Form) → IsLater new forms → AreOpenSpelled spellings os → AreKnown forms spellings known types
      → (n : ℕ) (ts : List Placed) → Stands spellings types forms now os ts → Stands spellings types forms later rest (ts ++ at_place n t ∷ [])

-- the tokens up to this one break a rule on a line, whatever comes behind
pub record Refuses (known : List (ℕ × ℕ)) (forms : List Form) (now : Next) (os : List Open) (t : Token) (rule line : ℕ) : Type 0 where
  pub misnames : (spellings : List (List ℕ)) (types : List (ℕ × Ty)) → IsTable forms → AreOpenSpelled spellings os → AreKnown forms spellings known types
      → (n : ℕ) (ts behind : List Placed) → Stands spellings types forms now os ts → Misnames spellings types (ts ++ at_place n t ∷ behind) rule line

-- ---- all tokens

-- the tokens up to a place are read
pub record IsReading (known : List (ℕ × ℕ)) (old now : List Form) (tokens : List Token) (i : ℕ) (later : Next) (os : List Open) : Type 0 where
  pub accepted : Accepts (Some (a_type, [])) (kinds_of tokens) → Accepts (Some (place_of later, shapes_of os)) (kinds_of (drop i tokens))
  pub there : IsTable now → IsThere now later
  pub grown : IsGrown old now
  pub spelled : (spellings : List (List ℕ)) → AreTokensSpelled spellings tokens → AreOpenSpelled spellings os
  pub standing : (spellings : List (List ℕ)) → AreTokensSpelled spellings tokens → AreStanding spellings old → AreStanding spellings now
  pub sized : AreSized i os
  pub reaches : (spellings : List (List ℕ)) (types : List (ℕ × Ty)) (forms : List Form) → IsLater now forms → AreTokensSpelled spellings tokens → AreKnown forms spellings known types
      → (n : ℕ) → (ts : List Placed) × (placed n tokens ≡ ts ++ placed (n + i) (drop i tokens)) × Stands spellings types forms later os ts

-- tokens lead to the number of a type
pub record Reads (known : List (ℕ × ℕ)) (old new : List Form) (tokens : List Token) (number : ℕ) : Type 0 where
  pub grown : IsGrown old new
  pub there : number < length new
  pub standing : (spellings : List (List ℕ)) → AreTokensSpelled spellings tokens → AreStanding spellings old → AreStanding spellings new
  pub denotes : (spellings : List (List ℕ)) (types : List (ℕ × Ty)) (forms : List Form) → IsLater new forms → AreTokensSpelled spellings tokens → AreKnown forms spellings known types
      → (n : ℕ) (a : Ty) → IsNumber forms spellings number a → Denotes spellings types (placed n tokens) a

-- tokens that break a rule on a line
pub record ReadsFault (known : List (ℕ × ℕ)) (old : List Form) (tokens : List Token) (rule line : ℕ) : Type 0 where
  pub misnames : (spellings : List (List ℕ)) (types : List (ℕ × Ty)) → AreTokensSpelled spellings tokens → AreKnown old spellings known types → (n : ℕ) → Misnames spellings types (placed n tokens) rule line
