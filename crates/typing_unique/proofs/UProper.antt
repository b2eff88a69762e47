-- What a written type denotes has no field or tag twice.
use Rattle.std.proofs.Common.{◌≡◌, ℕ, zero, suc, Bool, List, [], ◌∷◌, ◌++◌, Contains, refl, ap, subst, ◌∙◌, Some, slice_get}
use Rattle.name_scope.specs.Newest.{newest}
use Rattle.flow_value.specs.declared.ty.Ty.{Ty}
use Rattle.flow_value.specs.declared.ty.Ty.TheVariants as ty
use Rattle.sisal_tree.specs.declared.unit.Named.{Named}
use Rattle.sisal_grammar.specs.declared.value.Placed.{Placed}
use Rattle.sisal_grammar.specs.Acts.{named}
use Rattle.typed_tree.specs.Scopes.{AreDistinct}
use Rattle.typed_tree.specs.Types.{Member}
use Rattle.typed_tree.specs.Typing.{names_of}
use Rattle.typed_tree.specs.Written.{IsSequenceWord, IsMembersWord, AreOf, Denotes, HasMembers, HasType}
use Rattle.typed_tree.specs.Written as written
use Rattle.typing_unique.specs.Fair.{AreOnce, IsProper, AreProper}
use Rattle.typing_unique.specs.Fair as fair
use Rattle.typing_unique.specs.UnitLaws.{AreSpelledOnce}
use Rattle.typing_unique.proofs.UOnce.{contains_first, contains_later}

proper_append : (ms others : List Member) → AreProper ms → AreProper others → AreProper (ms ++ others)
proper_append _ others fair.no_member q = q
proper_append _ others (fair.a_member {name = name} {a = a} {ms = ms} p ps) q = fair.a_member p (proper_append ms others ps q)

sequence_proper : (t : Placed) (make : Ty → Ty) (a : Ty) → IsSequenceWord t make → IsProper a → IsProper (make a)
sequence_proper _ _ a (written.array w) p = fair.array a p
sequence_proper _ _ a (written.stream w) p = fair.stream a p

members_word : (t : Placed) (without : Bool) (make : List Member → Ty) (ms : List Member) → IsMembersWord t without make → (ms ≡ [] → ⊥) → AreOnce ms → AreProper ms
    → IsProper (make ms)
members_word _ _ _ ms (written.a_record w) some once p = fair.a_record ms once p
members_word _ _ _ ms (written.a_union w) some once p = fair.a_union ms some once p

module _ (spellings : List (List ℕ)) where
  -- the members are spelled as the names are
  abbrev pub Spelled : List Named → List Member → Type 0
  Spelled [] [] = Unit {0}
  Spelled (n ∷ ns) (m ∷ ms) = (slice_get spellings n.name ≡ Some m.0) × Spelled ns ms
  Spelled _ _ = ⊥

  spelled_append : (ns os : List Named) (ms others : List Member) → Spelled ns ms → Spelled os others → Spelled (ns ++ os) (ms ++ others)
  spelled_append [] os [] others p q = q
  spelled_append [] os (m ∷ ms) others p q = absurd p
  spelled_append (n ∷ ns) os [] others p q = absurd p
  spelled_append (n ∷ ns) os (m ∷ ms) others p q = (p.0, spelled_append ns os ms others p.1 q)

  module _ (each : AreSpelledOnce spellings) where
    -- the name of a member
    name_there : (ns : List Named) (ms : List Member) (x j : ℕ) (name : List ℕ) (b : Ty) → Spelled ns ms → slice_get spellings x ≡ Some name
        → slice_get ms j ≡ Some (name, b) → Contains (names_of ns) x
    name_there [] [] x j name b p s e = cc
    name_there [] (m ∷ ms) x j name b p s e = absurd p
    name_there (n ∷ ns) [] x j name b p s e = absurd p
    name_there (n ∷ ns) (m ∷ ms) x zero name b p s e =
        let same : m ≡ (name, b) = cc in
        subst (λ y. Contains (y ∷ names_of ns) x) (each x n.name name s (p.0 ∙ ap (λ q. Some q.0) same)) (contains_first x (names_of ns))
    name_there (n ∷ ns) (m ∷ ms) x (suc j) name b p s e = contains_later x n.name (names_of ns) (name_there ns ms x j name b p.1 s e)

    one_place : (ns : List Named) (ms : List Member) → Spelled ns ms → AreDistinct (names_of ns) → (i j : ℕ) (name : List ℕ) (a b : Ty)
        → slice_get ms i ≡ Some (name, a) → slice_get ms j ≡ Some (name, b) → i ≡ j
    one_place [] [] p d i j name a b e f = cc
    one_place [] (m ∷ ms) p d i j name a b e f = absurd p
    one_place (n ∷ ns) [] p d i j name a b e f = absurd p
    one_place (n ∷ ns) (m ∷ ms) p d zero zero name a b e f = refl
    one_place (n ∷ ns) (m ∷ ms) p d zero (suc j) name a b e f =
        let same : m ≡ (name, a) = cc in
        absurd (d.0 (name_there ns ms n.name j name b p.1 (p.0 ∙ ap (λ q. Some q.0) same) f))
    one_place (n ∷ ns) (m ∷ ms) p d (suc i) zero name a b e f =
        let same : m ≡ (name, b) = cc in
        absurd (d.0 (name_there ns ms n.name i name a p.1 (p.0 ∙ ap (λ q. Some q.0) same) e))
    one_place (n ∷ ns) (m ∷ ms) p d (suc i) (suc j) name a b e f = ap suc (one_place ns ms p.1 d.1 i j name a b e f)

  module _ (types : List (ℕ × Ty)) where
    of_spelled : (a : Ty) (ns : List Named) (ms : List Member) → AreOf spellings types a ns ms → Spelled ns ms
    of_spelled a _ _ written.no_name = tt
    of_spelled a _ _ (written.a_name {ns = ns} {ms = ms} e d) = (e, of_spelled a ns ms d)

    of_proper : (a : Ty) (ns : List Named) (ms : List Member) → AreOf spellings types a ns ms → IsProper a → AreProper ms
    of_proper a _ _ written.no_name p = fair.no_member
    of_proper a _ _ (written.a_name {ns = ns} {ms = ms} e d) p = fair.a_member p (of_proper a ns ms d p)

-- members, some of them
record IsList (spellings : List (List ℕ)) (ns : List Named) (ms : List Member) : Type 0 where
  spelled : Spelled spellings ns ms
  proper : AreProper ms
  some : ms ≡ [] → ⊥

list_of : (spellings : List (List ℕ)) (types : List (ℕ × Ty)) (a : Ty) (n : Named) (ns : List Named) (ms : List Member) → AreOf spellings types a (n ∷ ns) ms → IsProper a
    → IsList spellings (n ∷ ns) ms
list_of spellings types a n ns ms d p = record {
  spelled = of_spelled spellings types a (n ∷ ns) ms d;
  proper = of_proper spellings types a (n ∷ ns) ms d p;
  some = λ e. subst (Spelled spellings (n ∷ ns)) e (of_spelled spellings types a (n ∷ ns) ms d);
}

some_append : (ms others : List Member) → (ms ≡ [] → ⊥) → ms ++ others ≡ [] → ⊥
some_append [] others h e = h refl
some_append (m ∷ ms) others h e = cc

list_append : (spellings : List (List ℕ)) (ns os : List Named) (ms others : List Member) → IsList spellings ns ms → IsList spellings os others → IsList spellings (ns ++ os) (ms ++ others)
list_append spellings ns os ms others p q = record {
  spelled = spelled_append spellings ns os ms others p.spelled q.spelled;
  proper = proper_append ms others p.proper q.proper;
  some = some_append ms others p.some;
}

module _ (spellings : List (List ℕ)) (types : List (ℕ × Ty)) (each : AreSpelledOnce spellings) (known : (x : ℕ) (a : Ty) → newest x types ≡ Some a → IsProper a) where
  mutual
    pub denoted_proper : (ts : List Placed) (a : Ty) → Denotes spellings types ts a → IsProper a
    denoted_proper _ _ (written.integer w) = fair.integer
    denoted_proper _ _ (written.boolean w) = fair.boolean
    denoted_proper _ _ (written.character w) = fair.character
    denoted_proper _ _ (written.null w) = fair.null
    denoted_proper _ a (written.a_name {t = t} x e) = known _ a e
    denoted_proper _ _ (written.sequence {t = t} {make = make} {ts = ts} {a = a} w s d e h) = sequence_proper t make a w (denoted_proper ts a d)
    denoted_proper _ _ (written.members {t = t} {without = without} {make = make} {ts = ts} {ns = ns} {ms = ms} w s d e distinct h) =
        let l = members_list without ts ns ms d in
        members_word t without make ms w l.some (record { place = one_place spellings each ns ms l.spelled distinct }) l.proper

    members_list : (without : Bool) (ts : List Placed) (ns : List Named) (ms : List Member) → HasMembers spellings types without ts ns ms → IsList spellings ns ms
    members_list without _ ns ms (written.last {ts = ts} d s) = type_list without ts ns ms d
    members_list without _ _ _ (written.more {ts = ts} {us = us} {ns = ns} {os = os} {ms = ms} {others = others} d s e) =
        list_append spellings ns os ms others (type_list without ts ns ms d) (members_list without us os others e)

    type_list : (without : Bool) (ts : List Placed) (ns : List Named) (ms : List Member) → HasType spellings types without ts ns ms → IsList spellings ns ms
    type_list without _ _ ms (written.of_type {t = t} {us = us} {ns = ns} {a = a} x d s e of) = list_of spellings types a (named t) ns ms of (denoted_proper us a e)
    type_list _ _ _ ms (written.of_null {t = t} {ns = ns} x d of) = list_of spellings types ty.Null (named t) ns ms of fair.null
