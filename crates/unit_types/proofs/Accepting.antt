-- Which tokens may stand at a place, and that those of a type are accepted.
use Rattle.std.proofs.Common.{◌≡◌, ℕ, Bool, true, false, List, [], ◌∷◌, ◌++◌, map, Option, Some, None, refl, sym, ap, subst, ◌∙◌, append_assoc, IsSome}
use Rattle.sisal_lex.specs.declared.token.Kind.{Kind}
use Rattle.sisal_lex.specs.declared.token.Kind.TheVariants as kind
use Rattle.sisal_lex.specs.declared.token.Word.TheVariants as word
use Rattle.sisal_lex.specs.declared.token.Sign.{Sign}
use Rattle.sisal_lex.specs.declared.token.Sign.TheVariants as sign
use Rattle.sisal_tree.specs.declared.unit.Named.{Named}
use Rattle.sisal_tree.specs.declared.unit.Field.{Field}
use Rattle.sisal_tree.specs.declared.unit.Written.{Written}
use Rattle.sisal_grammar.specs.declared.value.Placed.{Placed}
use Rattle.sisal_grammar.specs.Phrases.{many, maybe, ty, field, fields, tagf, comma_name, semicolon, semi_field, semi_tagf, colon_type}
use Rattle.sisal_grammar.specs.Spells.{IsSign, IsName, Spells}
use Rattle.sisal_grammar.specs.Spells as spells
use Rattle.unit_types.specs.declared.open.Opener.{Opener}
use Rattle.unit_types.specs.declared.open.Next.{Next}
use Rattle.unit_types.specs.declared.open.Next.TheVariants as next
use Rattle.unit_types.specs.declared.open.Sequence.{Sequence}
use Rattle.unit_types.specs.declared.open.Members.{Members}
use Rattle.unit_types.specs.declared.open.Open.TheVariants as entry
use Rattle.unit_types.specs.declared.open.Open.{Open}
use Rattle.unit_types.specs.Accepting.{Shape, sequence, members, Place, a_type, bracket, a_name, behind_name, behind, behind_semicolon, called, class, goes, Accepts, IsUnion, opened_in, shape_of, shapes_of, place_of}

-- ---- the tokens of a type

abbrev pub kinds : List Placed → List Kind
kinds ts = map (λ t. t.kind) ts

on : (p : Place) (os : List Shape) (k l : Kind) (ks : List Kind) → k ≡ l → Accepts (goes p os (class l)) ks → Accepts (goes p os (class k)) ks
on p os k l ks e h = subst (λ k. Accepts (goes p os (class k)) ks) (sym e) h

moved : (p : Place) (os : List Shape) (xs ys zs : List Placed) → Accepts (Some (p, os)) (kinds (xs ++ (ys ++ zs))) → Accepts (Some (p, os)) (kinds ((xs ++ ys) ++ zs))
moved p os xs ys zs h = subst (λ l. Accepts (Some (p, os)) (kinds l)) (sym (append_assoc xs ys zs)) h

names_go : (ts : List Placed) (ns : List Named) → Spells (many comma_name) ts ns → (b : Bool) (os : List Shape) (rest : List Placed)
    → Accepts (Some (behind_name, members b ∷ os)) (kinds rest) → Accepts (Some (behind_name, members b ∷ os)) (kinds (ts ++ rest))
names_go _ _ spells.nothing b os rest h = h
names_go _ _ (spells.more {us = us} {l = l} (spells.comma_name_is {t = t} {u = u} c n) d) b os rest h =
    on behind_name (members b ∷ os) t.kind (kind.Sign sign.SComma) (kinds (u ∷ (us ++ rest))) c.is
    (on a_name (members b ∷ os) u.kind (kind.Id n.number) (kinds (us ++ rest)) n.is (names_go us l d b os rest h))

-- a semicolon or none, and the bracket
last_goes : (ts : List Placed) (s : Option (Unit {0})) → Spells (maybe semicolon) ts s → (b : Bool) (os : List Shape) (v : Placed) (rest : List Placed) → IsSign sign.SCloseBracket v
    → Accepts (Some (behind, os)) (kinds rest) → Accepts (Some (behind, members b ∷ os)) (kinds (ts ++ (v ∷ rest)))
last_goes _ _ spells.absent b os v rest e h = on behind (members b ∷ os) v.kind (kind.Sign sign.SCloseBracket) (kinds rest) e.is h
last_goes _ _ (spells.present (spells.semicolon_is {t = t} s)) b os v rest e h =
    on behind (members b ∷ os) t.kind (kind.Sign sign.SSemicolon) (kinds (v ∷ rest)) s.is
    (on behind_semicolon (members b ∷ os) v.kind (kind.Sign sign.SCloseBracket) (kinds rest) e.is h)

-- behind tags the reader stands behind a name or behind a type
data IsEnd : Place → Type 0 where
  name : IsEnd behind_name
  type : IsEnd behind

last_tag : (ts : List Placed) (s : Option (Unit {0})) → Spells (maybe semicolon) ts s → (q : Place) → IsEnd q → (os : List Shape) (v : Placed) (rest : List Placed) → IsSign sign.SCloseBracket v
    → Accepts (Some (behind, os)) (kinds rest) → Accepts (Some (q, members true ∷ os)) (kinds (ts ++ (v ∷ rest)))
last_tag ts s d _ type os v rest e h = last_goes ts s d true os v rest e h
last_tag _ _ spells.absent _ name os v rest e h = on behind_name (members true ∷ os) v.kind (kind.Sign sign.SCloseBracket) (kinds rest) e.is h
last_tag _ _ (spells.present (spells.semicolon_is {t = t} s)) _ name os v rest e h =
    on behind_name (members true ∷ os) t.kind (kind.Sign sign.SSemicolon) (kinds (v ∷ rest)) s.is
    (on behind_semicolon (members true ∷ os) v.kind (kind.Sign sign.SCloseBracket) (kinds rest) e.is h)

-- a semicolon behind tags
semicolon_goes : (q : Place) → IsEnd q → (os : List Shape) (t : Placed) (ks : List Kind) → IsSign sign.SSemicolon t → Accepts (Some (behind_semicolon, members true ∷ os)) ks → Accepts (Some (q, members true ∷ os)) (t.kind ∷ ks)
semicolon_goes _ name os t ks s h = on behind_name (members true ∷ os) t.kind (kind.Sign sign.SSemicolon) ks s.is h
semicolon_goes _ type os t ks s h = on behind (members true ∷ os) t.kind (kind.Sign sign.SSemicolon) ks s.is h

-- a name of a member may stand there
abbrev TakesName : Place → Bool → List Shape → Type 0
TakesName p b os = goes p (members b ∷ os) called ≡ Some (behind_name, members b ∷ os)

first_goes : (p : Place) (b : Bool) (os : List Shape) (t : Placed) (ks : List Kind) → TakesName p b os → IsName t → Accepts (Some (behind_name, members b ∷ os)) ks → Accepts (Some (p, members b ∷ os)) (t.kind ∷ ks)
first_goes p b os t ks e n h = on p (members b ∷ os) t.kind (kind.Id n.number) ks n.is (subst (λ o. Accepts o ks) (sym e) h)

-- what stands in the bracket of an array or a stream
element_goes : (ts : List Placed) (os : List Shape) (u v : Placed) (rest : List Placed) → IsSign sign.SOpenBracket u → IsSign sign.SCloseBracket v → Accepts (Some (behind, os)) (kinds rest)
    → (Accepts (Some (behind, sequence ∷ os)) (kinds (v ∷ rest)) → Accepts (Some (a_type, sequence ∷ os)) (kinds (ts ++ (v ∷ rest)))) → Accepts (Some (bracket sequence, os)) (kinds (u ∷ ((ts ++ (v ∷ [])) ++ rest)))
element_goes ts os u v rest o c h inner =
    on (bracket sequence) os u.kind (kind.Sign sign.SOpenBracket) (kinds ((ts ++ (v ∷ [])) ++ rest)) o.is
    (moved a_type (sequence ∷ os) ts (v ∷ []) rest (inner (on behind (sequence ∷ os) v.kind (kind.Sign sign.SCloseBracket) (kinds rest) c.is h)))

colon_goes : (b : Bool) (os : List Shape) (u : Placed) (ks : List Kind) → IsSign sign.SColon u → Accepts (Some (a_type, members b ∷ os)) ks → Accepts (Some (behind_name, members b ∷ os)) (u.kind ∷ ks)
colon_goes b os u ks s h = on behind_name (members b ∷ os) u.kind (kind.Sign sign.SColon) ks s.is h

mutual
  pub type_goes : (ts : List Placed) (w : Written) → Spells ty ts w → (os : List Shape) (rest : List Placed) → Accepts (Some (behind, os)) (kinds rest) → Accepts (Some (a_type, os)) (kinds (ts ++ rest))
  type_goes _ _ (spells.integer_type {t = t} w) os rest h = on a_type os t.kind (kind.Word word.WInteger) (kinds rest) w.is h
  type_goes _ _ (spells.boolean_type {t = t} w) os rest h = on a_type os t.kind (kind.Word word.WBoolean) (kinds rest) w.is h
  type_goes _ _ (spells.character_type {t = t} w) os rest h = on a_type os t.kind (kind.Word word.WCharacter) (kinds rest) w.is h
  type_goes _ _ (spells.null_type {t = t} w) os rest h = on a_type os t.kind (kind.Word word.WNull) (kinds rest) w.is h
  type_goes _ _ (spells.real_type {t = t} w) os rest h = on a_type os t.kind (kind.Word word.WReal) (kinds rest) w.is h
  type_goes _ _ (spells.double_real_type {t = t} w) os rest h = on a_type os t.kind (kind.Word word.WDoubleReal) (kinds rest) w.is h
  type_goes _ _ (spells.named_type {t = t} n) os rest h = on a_type os t.kind (kind.Id n.number) (kinds rest) n.is h
  type_goes _ _ (spells.array_type {t = t} {u = u} {v = v} {ts = ts} {w = w} a o d c) os rest h =
      on a_type os t.kind (kind.Word word.WArray) (kinds (u ∷ ((ts ++ (v ∷ [])) ++ rest))) a.is (element_goes ts os u v rest o c h (type_goes ts w d (sequence ∷ os) (v ∷ rest)))
  type_goes _ _ (spells.stream_type {t = t} {u = u} {v = v} {ts = ts} {w = w} a o d c) os rest h =
      on a_type os t.kind (kind.Word word.WStream) (kinds (u ∷ ((ts ++ (v ∷ [])) ++ rest))) a.is (element_goes ts os u v rest o c h (type_goes ts w d (sequence ∷ os) (v ∷ rest)))
  type_goes _ _ (spells.record_type {t = t} {u = u} {v = v} {ts = ts} {l = l} a o d c) os rest h =
      on a_type os t.kind (kind.Word word.WRecord) (kinds (u ∷ ((ts ++ (v ∷ [])) ++ rest))) a.is
      (on (bracket (members false)) os u.kind (kind.Sign sign.SOpenBracket) (kinds ((ts ++ (v ∷ [])) ++ rest)) o.is
      (moved a_name (members false ∷ os) ts (v ∷ []) rest (fields_go ts l d false os v rest c h)))
  type_goes _ _ (spells.union_type {t = t} {u = u} {v = v} {ts = ts} {us = us} {vs = vs} {l = l} {s = s} a o f d e c) os rest h =
      on a_type os t.kind (kind.Word word.WUnion) (kinds (u ∷ ((ts ++ (us ++ (vs ++ (v ∷ [])))) ++ rest))) a.is
      (on (bracket (members true)) os u.kind (kind.Sign sign.SOpenBracket) (kinds ((ts ++ (us ++ (vs ++ (v ∷ [])))) ++ rest)) o.is
      (moved a_name (members true ∷ os) ts (us ++ (vs ++ (v ∷ []))) rest
      (tags_go ts tt f a_name os ((us ++ (vs ++ (v ∷ []))) ++ rest) refl (λ q end.
      moved q (members true ∷ os) us (vs ++ (v ∷ [])) rest
      (more_tags us l d os ((vs ++ (v ∷ [])) ++ rest) (λ q end. moved q (members true ∷ os) vs (v ∷ []) rest (last_tag vs s e q end os v rest c h)) q end)))))

  fields_go : (ts : List Placed) (l : List Field) → Spells fields ts l → (b : Bool) (os : List Shape) (v : Placed) (rest : List Placed) → IsSign sign.SCloseBracket v
      → Accepts (Some (behind, os)) (kinds rest) → Accepts (Some (a_name, members b ∷ os)) (kinds (ts ++ (v ∷ rest)))
  fields_go _ _ (spells.fields_are {ts = ts} {us = us} {vs = vs} {f = f} {l = l} {s = s} d e g) b os v rest c h =
      moved a_name (members b ∷ os) ts (us ++ vs) (v ∷ rest)
      (field_goes ts f d a_name b os ((us ++ vs) ++ (v ∷ rest)) refl
      (moved behind (members b ∷ os) us vs (v ∷ rest) (more_fields us l e b os (vs ++ (v ∷ rest)) (last_goes vs s g b os v rest c h))))

  more_fields : (ts : List Placed) (l : List Field) → Spells (many semi_field) ts l → (b : Bool) (os : List Shape) (rest : List Placed)
      → Accepts (Some (behind, members b ∷ os)) (kinds rest) → Accepts (Some (behind, members b ∷ os)) (kinds (ts ++ rest))
  more_fields _ _ spells.nothing b os rest h = h
  more_fields _ _ (spells.more {us = us} {l = l} (spells.semi_field_is {t = t} {ts = ts} {f = f} s d) e) b os rest h =
      on behind (members b ∷ os) t.kind (kind.Sign sign.SSemicolon) (kinds ((ts ++ us) ++ rest)) s.is
      (moved behind_semicolon (members b ∷ os) ts us rest (field_goes ts f d behind_semicolon b os (us ++ rest) refl (more_fields us l e b os rest h)))

  field_goes : (ts : List Placed) (f : Field) → Spells field ts f → (p : Place) (b : Bool) (os : List Shape) (rest : List Placed) → TakesName p b os
      → Accepts (Some (behind, members b ∷ os)) (kinds rest) → Accepts (Some (p, members b ∷ os)) (kinds (ts ++ rest))
  field_goes _ _ (spells.field_is {t = t} {u = u} {ts = ts} {us = us} {ns = ns} {w = w} n d s e) p b os rest takes h =
      first_goes p b os t (kinds ((ts ++ (u ∷ us)) ++ rest)) takes n
      (moved behind_name (members b ∷ os) ts (u ∷ us) rest
      (names_go ts ns d b os (u ∷ (us ++ rest)) (colon_goes b os u (kinds (us ++ rest)) s (type_goes us w e (members b ∷ os) rest h))))

  tags_go : (ts : List Placed) (x : Unit {0}) → Spells tagf ts x → (p : Place) (os : List Shape) (rest : List Placed) → TakesName p true os
      → ((q : Place) → IsEnd q → Accepts (Some (q, members true ∷ os)) (kinds rest)) → Accepts (Some (p, members true ∷ os)) (kinds (ts ++ rest))
  tags_go _ _ (spells.tagf_is {t = t} {ts = ts} {us = us} {ns = ns} {w = w} n d e) p os rest takes h =
      first_goes p true os t (kinds ((ts ++ us) ++ rest)) takes n
      (moved behind_name (members true ∷ os) ts us rest
      (names_go ts ns d true os (us ++ rest) (content_goes us w e os rest h)))

  -- a colon and a type, or none
  content_goes : (ts : List Placed) (w : Option Written) → Spells (maybe colon_type) ts w → (os : List Shape) (rest : List Placed)
      → ((q : Place) → IsEnd q → Accepts (Some (q, members true ∷ os)) (kinds rest)) → Accepts (Some (behind_name, members true ∷ os)) (kinds (ts ++ rest))
  content_goes _ _ spells.absent os rest h = h behind_name name
  content_goes _ _ (spells.present (spells.colon_type_is {t = t} {ts = ts} {w = w} s d)) os rest h = colon_goes true os t (kinds (ts ++ rest)) s (type_goes ts w d (members true ∷ os) rest (h behind type))

  more_tags : (ts : List Placed) (l : List (Unit {0})) → Spells (many semi_tagf) ts l → (os : List Shape) (rest : List Placed)
      → ((q : Place) → IsEnd q → Accepts (Some (q, members true ∷ os)) (kinds rest)) → (q : Place) → IsEnd q → Accepts (Some (q, members true ∷ os)) (kinds (ts ++ rest))
  more_tags _ _ spells.nothing os rest h q end = h q end
  more_tags _ _ (spells.more {us = us} {l = l} (spells.semi_tagf_is {t = t} {ts = ts} s d) e) os rest h q end =
      semicolon_goes q end os t (kinds ((ts ++ us) ++ rest)) s
      (moved behind_semicolon (members true ∷ os) ts us rest (tags_go ts tt d behind_semicolon os (us ++ rest) refl (more_tags us l e os rest h)))

-- ---- what may stand at a place

pub accepts_some : (o : Option (Place × List Shape)) (ks : List Kind) → Accepts o ks → IsSome o
accepts_some None ks h = absurd h
accepts_some (Some s) ks h = refl

only_opens : (k : Kind) (s : Shape) (os : List Shape) → IsSome (goes (bracket s) os (class k)) → k ≡ kind.Sign sign.SOpenBracket
only_opens (kind.Word word.WInteger) s os h = cc
only_opens (kind.Sign sign.SOpenBracket) s os h = refl
only_opens _ s os h = cc

pub bracket_opens : (n : Next) (o : Opener) (line : ℕ) (os : List Shape) (k : Kind) → n ≡ next.Bracket o line → IsSome (goes (place_of n) os (class k)) → k ≡ kind.Sign sign.SOpenBracket
bracket_opens n o line os k e h = only_opens k (opened_in o) os (subst (λ n. IsSome (goes (place_of n) os (class k))) e h)

only_closes : (s : Sign) (os : List Shape) → IsSome (goes behind (sequence ∷ os) (class (kind.Sign s))) → s ≡ sign.SCloseBracket
only_closes sign.SCloseBracket os h = refl
only_closes _ os h = cc

pub sequence_closes : (o : Open) (s : Sequence) (os : List Shape) (g : Sign) → o ≡ entry.Sequence s → IsSome (goes behind (shape_of o ∷ os) (class (kind.Sign g))) → g ≡ sign.SCloseBracket
sequence_closes o s os g e h = only_closes g os (subst (λ o. IsSome (goes behind (shape_of o ∷ os) (class (kind.Sign g)))) e h)

last_closes : (s : Sign) (os : List Shape) → IsSome (goes behind_semicolon os (class (kind.Sign s))) → s ≡ sign.SCloseBracket
last_closes sign.SCloseBracket os h = refl
last_closes _ [] h = cc
last_closes _ (sequence ∷ os) h = cc
last_closes _ (members b ∷ os) h = cc

pub bracket_closes : (os : List Shape) (k : Kind) (s : Sign) → k ≡ kind.Sign s → IsSome (goes behind_semicolon os (class k)) → k ≡ kind.Sign sign.SCloseBracket
bracket_closes os k s e h = e ∙ ap kind.Sign (last_closes s os (subst (λ k. IsSome (goes behind_semicolon os (class k))) e h))

union_only : (b : Bool) (os : List Shape) → IsUnion (members b ∷ os) → b ≡ true
union_only true os h = refl
union_only false os h = absurd h

pub union_tag : (stack : List Open) (m : Members) (os : List Open) → stack ≡ entry.Members m ∷ os → IsUnion (shapes_of stack) → m.is_union ≡ true
union_tag stack m os e h = union_only m.is_union (shapes_of os) (subst (λ l. IsUnion (shapes_of l)) e h)

pub none_open : (os : List Open) → shapes_of os ≡ [] → os ≡ []
none_open [] e = refl
none_open (o ∷ os) e = cc
