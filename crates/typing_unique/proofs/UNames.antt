-- Names with commas between them, and the classes of tokens, are read as they are spelled.
use Rattle.std.proofs.Common.{◌≡◌, ℕ, Bool, false, List, [], ◌∷◌, ◌++◌, refl, sym, ap, subst, ◌∙◌, if◌then◌else◌, Some}
use Rattle.flow_value.specs.declared.ty.Ty.{Ty}
use Rattle.sisal_lex.specs.declared.token.Sign.TheVariants as sign
use Rattle.sisal_tree.specs.declared.unit.Named.{Named}
use Rattle.sisal_grammar.specs.declared.value.Placed.{Placed}
use Rattle.sisal_grammar.specs.Acts.{named, name_of, name_in}
use Rattle.sisal_grammar.specs.Phrases.{many, comma_name}
use Rattle.sisal_grammar.specs.Spells.{IsSign, IsName, Spells, nothing, more, comma_name_is}
use Rattle.typed_tree.specs.Types.{Member}
use Rattle.typed_tree.specs.Written.{IsSequenceWord, array, stream, IsMembersWord, a_record, a_union, AreOf}
use Rattle.typed_tree.specs.Written as written
use Rattle.typing_unique.proofs.UReader.{Class, class, called, sequence, group, is_comma, is_called, two_more, names, and_then, members_of}
use Rattle.typing_unique.proofs.UReader as reader

-- ---- classes

pub class_name : (t : Placed) → IsName t → class t.kind ≡ called (name_in t)
class_name t n = subst (λ k. class k ≡ called (name_of k)) (sym n.is) refl

pub class_comma : (t : Placed) → IsSign sign.SComma t → class t.kind ≡ reader.comma
class_comma t s = ap class s.is

pub class_sequence : (t : Placed) (make : Ty → Ty) → IsSequenceWord t make → class t.kind ≡ sequence make
class_sequence _ _ (array w) = ap class w.is
class_sequence _ _ (stream w) = ap class w.is

pub class_members : (t : Placed) (without : Bool) (make : List Member → Ty) → IsMembersWord t without make → class t.kind ≡ group without make
class_members _ _ _ (a_record w) = ap class w.is
class_members _ _ _ (a_union w) = ap class w.is

-- ---- names

step : (t u : Placed) (ts : List Placed) → IsSign sign.SComma t → IsName u → names (t ∷ u ∷ ts) ≡ (named u ∷ (names ts).0, (names ts).1)
step t u ts s n =
    ap (λ c. two_more (if is_comma c then is_called (class u.kind) else false) t u ts (names ts)) (class_comma t s)
    ∙ ap (λ c. two_more (is_called c) t u ts (names ts)) (class_name u n)

-- no comma, no name behind one
pub names_end : (t : Placed) (ts : List Placed) → is_comma (class t.kind) ≡ false → names (t ∷ ts) ≡ ([], t ∷ ts)
names_end t [] e = refl
names_end t (u ∷ us) e = ap (λ b. two_more (if b then is_called (class u.kind) else false) t u us (names us)) e

pub names_are_read : (ts : List Placed) (ns : List Named) (t : Placed) (rest : List Placed) → Spells (many comma_name) ts ns → is_comma (class t.kind) ≡ false
    → names (ts ++ (t ∷ rest)) ≡ (ns, t ∷ rest)
names_are_read _ _ t rest nothing e = names_end t rest e
names_are_read _ _ t rest (more {us = us} {l = l} (comma_name_is {t = c} {u = u} s n) d) e =
    step c u (us ++ (t ∷ rest)) s n ∙ ap (λ p. (named u ∷ p.0, p.1)) (names_are_read us l t rest d e)

-- more names may stand behind
pub names_in_front : (ts : List Placed) (ns : List Named) (rest : List Placed) → Spells (many comma_name) ts ns → (more : List Named) × ((names (ts ++ rest)).0 ≡ ns ++ more)
names_in_front _ _ rest nothing = ((names rest).0, refl)
names_in_front _ _ rest (more {us = us} {l = l} (comma_name_is {t = c} {u = u} s n) d) =
    let f = names_in_front us l rest d in
    (f.0, ap (λ p. p.0) (step c u (us ++ rest) s n) ∙ ap (λ x. named u ∷ x) f.1)

-- ---- members

pub members_are : (spellings : List (List ℕ)) (types : List (ℕ × Ty)) (a : Ty) (ns : List Named) (ms : List Member) → AreOf spellings types a ns ms
    → members_of spellings a ns ≡ Some ms
members_are spellings types a _ _ written.no_name = refl
members_are spellings types a _ _ (written.a_name {n = n} {spelling = spelling} {ns = ns} {ms = ms} e d) =
    ap (λ o. and_then o (λ s. and_then (members_of spellings a ns) (λ l. Some ((s, a) ∷ l)))) e
    ∙ ap (λ o. and_then o (λ l. Some ((spelling, a) ∷ l))) (members_are spellings types a ns ms d)
