-- A reader of written types: it tells the type at the front of tokens, and the tokens behind it.
use Rattle.std.proofs.Common.{ℕ, zero, suc, Bool, true, false, List, [], ◌∷◌, ◌++◌, Option, Some, None, slice_get, if◌then◌else◌, nat_eq, leb}
use Rattle.name_scope.specs.Newest.{newest}
use Rattle.flow_value.specs.declared.ty.Ty.{Ty}
use Rattle.flow_value.specs.declared.ty.Ty.TheVariants as ty
use Rattle.sisal_lex.specs.declared.token.Kind.{Kind}
use Rattle.sisal_lex.specs.declared.token.Kind.TheVariants as kind
use Rattle.sisal_lex.specs.declared.token.Word.TheVariants as word
use Rattle.sisal_lex.specs.declared.token.Sign.TheVariants as sign
use Rattle.sisal_tree.specs.declared.unit.Named.{Named}
use Rattle.sisal_grammar.specs.declared.value.Placed.{Placed}
use Rattle.sisal_grammar.specs.Acts.{named}
use Rattle.typed_tree.specs.Types.{Member, depth_of}
use Rattle.typed_tree.specs.Typing.{names_of}

-- what a token is to the reader
pub data Class : Type 0 where
  basic : Ty → Class
  called : ℕ → Class
  sequence : (Ty → Ty) → Class
  group : Bool → (List Member → Ty) → Class
  comma : Class
  semicolon : Class
  colon : Class
  opens : Class
  closes : Class
  other : Class

abbrev pub class : Kind → Class
class (kind.Word word.WInteger) = basic ty.Int
class (kind.Word word.WBoolean) = basic ty.Bool
class (kind.Word word.WCharacter) = basic ty.Char
class (kind.Word word.WNull) = basic ty.Null
class (kind.Word word.WArray) = sequence ty.Arr
class (kind.Word word.WStream) = sequence ty.Stream
class (kind.Word word.WRecord) = group false ty.Rec
class (kind.Word word.WUnion) = group true ty.Uni
class (kind.Id x) = called x
class (kind.Sign sign.SComma) = comma
class (kind.Sign sign.SSemicolon) = semicolon
class (kind.Sign sign.SColon) = colon
class (kind.Sign sign.SOpenBracket) = opens
class (kind.Sign sign.SCloseBracket) = closes
class _ = other

-- ---- small parts

abbrev pub and_then : {A B : Type 0} → Option A → (A → Option B) → Option B
and_then None f = None
and_then (Some a) f = f a

-- the tokens behind a token of a class
abbrev pub behind_open : Class → List Placed → Option (List Placed)
behind_open opens ts = Some ts
behind_open _ ts = None

abbrev pub behind_close : Class → List Placed → Option (List Placed)
behind_close closes ts = Some ts
behind_close _ ts = None

abbrev pub opened : List Placed → Option (List Placed)
opened [] = None
opened (t ∷ ts) = behind_open (class t.kind) ts

abbrev pub closed : List Placed → Option (List Placed)
closed [] = None
closed (t ∷ ts) = behind_close (class t.kind) ts

abbrev pub is_comma : Class → Bool
is_comma comma = true
is_comma _ = false

abbrev pub is_called : Class → Bool
is_called (called x) = true
is_called _ = false

abbrev pub is_name_first : List Placed → Bool
is_name_first [] = false
is_name_first (t ∷ ts) = is_called (class t.kind)

-- a type that is not too deep
abbrev pub kept_if : Bool → Ty → List Placed → Option (Ty × List Placed)
kept_if true a ts = Some (a, ts)
kept_if false a ts = None

abbrev pub stands : ℕ → List ℕ → Bool
stands x [] = false
stands x (y ∷ ys) = if nat_eq x y then true else stands x ys

-- no number stands twice
abbrev pub once : List ℕ → Bool
once [] = true
once (x ∷ xs) = if stands x xs then false else once xs

-- ---- names

abbrev pub two_more : Bool → Placed → Placed → List Placed → List Named × List Placed → List Named × List Placed
two_more true t u ts more = (named u ∷ more.0, more.1)
two_more false t u ts more = ([], t ∷ u ∷ ts)

-- {"," name}
abbrev pub names : List Placed → List Named × List Placed
names [] = ([], [])
names (t ∷ []) = ([], t ∷ [])
names (t ∷ u ∷ ts) = two_more (if is_comma (class t.kind) then is_called (class u.kind) else false) t u ts (names ts)

-- ---- members

-- the names and the members that were read, and the tokens behind them
pub record Group : Type 0 where
  pub names : List Named
  pub members : List Member
  pub rest : List Placed

abbrev pub joined : Group → Group → Group
joined g h = record { names = g.names ++ h.names; members = g.members ++ h.members; rest = h.rest }

-- behind a semicolon
abbrev pub more_if : Bool → (List Placed → Option Group) → Group → List Placed → Option Group
more_if true more g ts = and_then (more ts) (λ h. Some (joined g h))
more_if false more g ts = Some (record { names = g.names; members = g.members; rest = ts })

abbrev pub more_at : Class → (List Placed → Option Group) → Group → List Placed → Option Group
more_at semicolon more g ts = more_if (is_name_first ts) more g ts
more_at _ more g ts = Some g

abbrev pub more_behind : (List Placed → Option Group) → Group → List Placed → Option Group
more_behind more g [] = Some g
more_behind more g (t ∷ ts) = more_at (class t.kind) more g ts

-- ---- brackets

abbrev pub kept : Ty → List Placed → Option (Ty × List Placed)
kept a ts = kept_if (leb (depth_of a) 64) a ts

abbrev pub record_if : Bool → Ty → List Placed → Option (Ty × List Placed)
record_if true a ts = kept a ts
record_if false a ts = None

abbrev pub close_sequence : (Ty → Ty) → Ty × List Placed → Option (Ty × List Placed)
close_sequence make p = and_then (closed p.1) (λ ts. kept (make p.0) ts)

abbrev pub close_group : (List Member → Ty) → Group → Option (Ty × List Placed)
close_group make g = and_then (closed g.rest) (λ ts. record_if (once (names_of g.names)) (make g.members) ts)

-- ---- the reader

module _ (spellings : List (List ℕ)) where
  abbrev pub members_of : Ty → List Named → Option (List Member)
  members_of a [] = Some []
  members_of a (n ∷ ns) = and_then (slice_get spellings n.name) (λ s. and_then (members_of a ns) (λ ms. Some ((s, a) ∷ ms)))

  abbrev pub group_of : Ty → List Named → List Placed → Option Group
  group_of a ns ts = and_then (members_of a ns) (λ ms. Some (record { names = ns; members = ms; rest = ts }))

  abbrev pub null_group : Bool → List Named → List Placed → Option Group
  null_group true ns ts = group_of ty.Null ns ts
  null_group false ns ts = None

  module _ (inner : List Placed → Option (Ty × List Placed)) (without : Bool) where
    abbrev pub typed_group : Class → List Named → Placed → List Placed → Option Group
    typed_group colon ns t ts = and_then (inner ts) (λ p. group_of p.0 ns p.1)
    typed_group _ ns t ts = null_group without ns (t ∷ ts)

    abbrev pub group_behind : List Named → List Placed → Option Group
    group_behind ns [] = null_group without ns []
    group_behind ns (t ∷ ts) = typed_group (class t.kind) ns t ts

    abbrev pub group_at : Class → Placed → List Placed → Option Group
    group_at (called x) t ts = group_behind (named t ∷ (names ts).0) (names ts).1
    group_at _ t ts = None

    abbrev pub a_group : List Placed → Option Group
    a_group [] = None
    a_group (t ∷ ts) = group_at (class t.kind) t ts

    -- field {";" field} [";"], with this many fields at most
    abbrev pub groups : ℕ → List Placed → Option Group
    groups zero ts = None
    groups (suc n) ts = and_then (a_group ts) (λ g. more_behind (groups n) g g.rest)

  module _ (types : List (ℕ × Ty)) where
    abbrev pub begin : (List Placed → Option (Ty × List Placed)) → ℕ → Class → List Placed → Option (Ty × List Placed)
    begin inner n (basic a) ts = Some (a, ts)
    begin inner n (called x) ts = and_then (newest x types) (λ a. Some (a, ts))
    begin inner n (sequence make) ts = and_then (opened ts) (λ us. and_then (inner us) (close_sequence make))
    begin inner n (group without make) ts = and_then (opened ts) (λ us. and_then (groups inner without n us) (close_group make))
    begin inner n _ ts = None

    abbrev pub front : (List Placed → Option (Ty × List Placed)) → ℕ → List Placed → Option (Ty × List Placed)
    front inner n [] = None
    front inner n (t ∷ ts) = begin inner n (class t.kind) ts

    -- a type with this many brackets in each other at most, and this many fields in each
    abbrev pub read : ℕ → List Placed → Option (Ty × List Placed)
    read zero ts = None
    read (suc n) ts = front (read n) n ts
