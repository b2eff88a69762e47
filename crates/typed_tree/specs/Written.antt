-- Which types written types denote (SISAL Language Reference Manual 1.2, types), a case a production, and what breaks a rule
-- on the names of types and of their members:
--  2  a name of a type is not known here
--  3  a real type
--  4  a type is deeper than 64
--  5  a field or a tag stands twice in one type
use Rattle.std.specs.Prelude.{◌≡◌, ℕ, List, [], ◌∷◌, ◌++◌, Bool, true, false, Option, Some, None, slice_get}
use Rattle.name_scope.specs.Newest.{newest}
use Rattle.loop_folds.specs.Ty.{Ty}
use Rattle.loop_folds.specs.Ty.TheVariants as ty
use Rattle.sisal_tree.specs.Word.TheVariants as word
use Rattle.sisal_tree.specs.Sign.TheVariants as sign
use Rattle.sisal_tree.specs.declared.unit.Named.{Named}
use Rattle.sisal_grammar.specs.declared.value.Placed.{Placed}
use Rattle.sisal_grammar.specs.Acts.{named, name_in}
use Rattle.sisal_grammar.specs.Phrases.{many, maybe, comma_name, semicolon}
use Rattle.sisal_grammar.specs.Spells.{IsWord, IsSign, IsName, Spells}
use Rattle.typed_tree.specs.Scopes.{AreDistinct}
use Rattle.typed_tree.specs.Types.{Member, IsShallow}
use Rattle.typed_tree.specs.Typing.{names_of}
use Rattle.typed_tree.specs.Breaks.{IsTwice}

-- `array` or `stream`, and what it makes of the type of its elements
pub data IsSequenceWord : Placed → (Ty → Ty) → Type 0 where
  array : {t : Placed} → IsWord word.WArray t → IsSequenceWord t ty.Arr
  stream : {t : Placed} → IsWord word.WStream t → IsSequenceWord t ty.Stream

-- `record`, or `union`, whose tags may stand without a type, and what it makes of its members
pub data IsMembersWord : Placed → (without : Bool) → (List Member → Ty) → Type 0 where
  a_record : {t : Placed} → IsWord word.WRecord t → IsMembersWord t false ty.Rec
  a_union : {t : Placed} → IsWord word.WUnion t → IsMembersWord t true ty.Uni

-- `spellings` says how the names of the text are spelled, and `types` which names of types are known, the newest first
module _ (spellings : List (List ℕ)) (types : List (ℕ × Ty)) where
  -- members of these names, as they are spelled, all of one type
  pub data AreOf (a : Ty) : List Named → List Member → Type 0 where
    no_name : AreOf a [] []
    a_name : {n : Named} {spelling : List ℕ} {ns : List Named} {ms : List Member}
        → slice_get spellings n.name ≡ Some spelling → AreOf a ns ms → AreOf a (n ∷ ns) ((spelling, a) ∷ ms)

  mutual
    -- the tokens, which are a type, denote this type here
    pub data Denotes : List Placed → Ty → Type 0 where
      integer : {t : Placed} → IsWord word.WInteger t → Denotes (t ∷ []) ty.Int
      boolean : {t : Placed} → IsWord word.WBoolean t → Denotes (t ∷ []) ty.Bool
      character : {t : Placed} → IsWord word.WCharacter t → Denotes (t ∷ []) ty.Char
      null : {t : Placed} → IsWord word.WNull t → Denotes (t ∷ []) ty.Null
      a_name : {t : Placed} {a : Ty} → IsName t → newest (name_in t) types ≡ Some a → Denotes (t ∷ []) a
      sequence : {t u v : Placed} {make : Ty → Ty} {ts : List Placed} {a : Ty}
          → IsSequenceWord t make → IsSign sign.SOpenBracket u → Denotes ts a → IsSign sign.SCloseBracket v → IsShallow (make a)
          → Denotes (t ∷ u ∷ (ts ++ (v ∷ []))) (make a)
      members : {t u v : Placed} {without : Bool} {make : List Member → Ty} {ts : List Placed} {ns : List Named} {ms : List Member}
          → IsMembersWord t without make → IsSign sign.SOpenBracket u → HasMembers without ts ns ms → IsSign sign.SCloseBracket v
          → AreDistinct (names_of ns) → IsShallow (make ms)
          → Denotes (t ∷ u ∷ (ts ++ (v ∷ []))) (make ms)

    -- what stands in the brackets of a record or a union: the names where they stand, and the members
    pub data HasMembers : Bool → List Placed → List Named → List Member → Type 0 where
      last : {without : Bool} {ts us : List Placed} {ns : List Named} {ms : List Member} {s : Option (Unit {0})}
          → HasType without ts ns ms → Spells (maybe semicolon) us s → HasMembers without (ts ++ us) ns ms
      more : {without : Bool} {t : Placed} {ts us : List Placed} {ns os : List Named} {ms others : List Member}
          → HasType without ts ns ms → IsSign sign.SSemicolon t → HasMembers without us os others
          → HasMembers without (ts ++ (t ∷ us)) (ns ++ os) (ms ++ others)

    -- names with their type; without one, it is null
    pub data HasType : Bool → List Placed → List Named → List Member → Type 0 where
      of_type : {without : Bool} {t u : Placed} {ts us : List Placed} {ns : List Named} {a : Ty} {ms : List Member}
          → IsName t → Spells (many comma_name) ts ns → IsSign sign.SColon u → Denotes us a → AreOf a (named t ∷ ns) ms
          → HasType without (t ∷ (ts ++ (u ∷ us))) (named t ∷ ns) ms
      of_null : {t : Placed} {ts : List Placed} {ns : List Named} {ms : List Member}
          → IsName t → Spells (many comma_name) ts ns → AreOf ty.Null (named t ∷ ns) ms → HasType true (t ∷ ts) (named t ∷ ns) ms

  mutual
    -- what is to be a type, at the front of these tokens, breaks a rule on a line
    pub data Misnames : List Placed → ℕ → ℕ → Type 0 where
      unknown : {t : Placed} (rest : List Placed) → IsName t → newest (name_in t) types ≡ None → Misnames (t ∷ rest) 2 t.line
      real : {t : Placed} (rest : List Placed) → IsWord word.WReal t → Misnames (t ∷ rest) 3 t.line
      double_real : {t : Placed} (rest : List Placed) → IsWord word.WDoubleReal t → Misnames (t ∷ rest) 3 t.line
      in_elements : {t u : Placed} {make : Ty → Ty} {ts : List Placed} {rule line : ℕ}
          → IsSequenceWord t make → IsSign sign.SOpenBracket u → Misnames ts rule line → Misnames (t ∷ u ∷ ts) rule line
      deep_sequence : {t u v : Placed} {make : Ty → Ty} {ts : List Placed} {a : Ty} (rest : List Placed)
          → IsSequenceWord t make → IsSign sign.SOpenBracket u → Denotes ts a → IsSign sign.SCloseBracket v → (IsShallow (make a) → ⊥)
          → Misnames (t ∷ u ∷ (ts ++ (v ∷ rest))) 4 t.line
      in_members : {t u : Placed} {without : Bool} {make : List Member → Ty} {ts : List Placed} {rule line : ℕ}
          → IsMembersWord t without make → IsSign sign.SOpenBracket u → MisnamesMember without ts rule line → Misnames (t ∷ u ∷ ts) rule line
      deep_members : {t u v : Placed} {without : Bool} {make : List Member → Ty} {ts : List Placed} {ns : List Named} {ms : List Member} (rest : List Placed)
          → IsMembersWord t without make → IsSign sign.SOpenBracket u → HasMembers without ts ns ms → IsSign sign.SCloseBracket v → (IsShallow (make ms) → ⊥)
          → Misnames (t ∷ u ∷ (ts ++ (v ∷ rest))) 4 t.line
      -- a name stands twice among the members up to some place
      member_twice : {t u : Placed} {without : Bool} {make : List Member → Ty} {ts : List Placed} {ns : List Named} {ms : List Member} {line : ℕ} (rest : List Placed)
          → IsMembersWord t without make → IsSign sign.SOpenBracket u → HasMembers without ts ns ms → IsTwice ns line → Misnames (t ∷ u ∷ (ts ++ rest)) 5 line

    -- the type of a member breaks a rule, where those of the members before it denote types
    pub data MisnamesMember : Bool → List Placed → ℕ → ℕ → Type 0 where
      here : {without : Bool} {t u : Placed} {ts us : List Placed} {ns : List Named} {rule line : ℕ}
          → IsName t → Spells (many comma_name) ts ns → IsSign sign.SColon u → Misnames us rule line
          → MisnamesMember without (t ∷ (ts ++ (u ∷ us))) rule line
      later : {without : Bool} {t : Placed} {ts us : List Placed} {ns : List Named} {ms : List Member} {rule line : ℕ}
          → HasType without ts ns ms → IsSign sign.SSemicolon t → MisnamesMember without us rule line
          → MisnamesMember without (ts ++ (t ∷ us)) rule line
