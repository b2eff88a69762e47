-- All tokens of a written type.
use Rattle.std.proofs.Common.{◌≡◌, ◌<◌, ◌≤◌, ℕ, zero, suc, ◌+◌, ◌-◌, ◌^◌, List, [], ◌∷◌, ◌++◌, length, drop, take, Some, IsSome, refl, sym, ap, subst, ◌∙◌, arith, append_assoc}
use Rattle.std.specs.Prelude.{slice_range}
use Rattle.std.proofs.lemmas.List.{append-nil}
use Rattle.std.proofs.Math.Seq.{drop-nil}
use Rattle.flow_value.specs.declared.ty.Ty.{Ty}
use Rattle.type_table.specs.declared.form.Form.{Form}
use Rattle.type_table.specs.Tables.{IsTable}
use Rattle.sisal_lex.specs.declared.token.Token.{Token}
use Rattle.sisal_tree.specs.declared.unit.Written.{Written}
use Rattle.sisal_grammar.specs.declared.value.Placed.{Placed}
use Rattle.sisal_grammar.specs.Placed.{placed}
use Rattle.typed_tree.specs.Types.{IsNumber}
use Rattle.typed_tree.specs.Written.{Denotes, Misnames}
use Rattle.unit_types.specs.declared.open.Open.{Open}
use Rattle.unit_types.specs.declared.open.Open.TheVariants as entry
use Rattle.unit_types.specs.declared.open.Next.{Next}
use Rattle.unit_types.specs.declared.open.Next.TheVariants as next
use Rattle.unit_types.specs.Rests.{at_place, IsLater, IsGrown, AreKnown, IsKindSpelled, AreTokensSpelled, AreSized, AreStanding, IsUsed, HasNames}
use Rattle.text_trees.specs.Spelled.{IsType}
use Rattle.unit_types.specs.Accepting.{Accepts, IsThere, a_type, behind, class, goes, kinds_of, place_of, shapes_of}
use Rattle.unit_types.specs.Reached.{BehindNumber, Stands, Leads, Refuses, Reads, ReadsFault, IsReading}
use Rattle.unit_types.proofs.Accepting.{accepts_some, kinds, type_goes}
use Rattle.unit_types.proofs.Standing.{one_type, number_later}

pub begin_reading : (known : List (ℕ × ℕ)) (old : List Form) (tokens : List Token) → IsReading known old old tokens 0 next.Type []
begin_reading known old tokens = record {
  accepted = λ h. h;
  there = λ table. tt;
  grown = record { more = []; is = sym (append-nil old) };
  spelled = λ sp h. tt;
  standing = λ sp h s. s;
  sized = tt;
  reaches = λ sp tys forms l h k n. let e : n + 0 ≡ n = omega arith in ([], ap (λ p. placed p tokens) (sym e), refl);
}

kind_at : (sp : List (List ℕ)) (tokens : List Token) (i : ℕ) (t : Token) (rest : List Token) → AreTokensSpelled sp tokens → drop i tokens ≡ t ∷ rest → IsKindSpelled sp t.kind
kind_at sp [] i t rest h e = let k : t ∷ rest ≡ [] = sym e ∙ drop-nil i in cc
kind_at sp (u ∷ us) zero t rest h e = let k : u ≡ t = cc in subst (λ t. IsKindSpelled sp t.kind) k h.0
kind_at sp (u ∷ us) (suc i) t rest h e = kind_at sp us i t rest h.1 e

later_before : (old now forms : List Form) → IsGrown old now → IsLater now forms → IsLater old forms
later_before old now forms g l = record {
  more = g.more ++ l.more;
  grown = l.grown ∙ ap (λ x. x ++ l.more) g.is ∙ append_assoc old g.more l.more;
  table = l.table;
}

pub known_later : (old more : List Form) (sp : List (List ℕ)) (ns : List (ℕ × ℕ)) (ts : List (ℕ × Ty)) → AreKnown old sp ns ts → AreKnown (old ++ more) sp ns ts
known_later old more sp [] [] h = tt
known_later old more sp [] (t ∷ ts) h = absurd h
known_later old more sp (n ∷ ns) [] h = absurd h
known_later old more sp (n ∷ ns) (t ∷ ts) h = (h.0, number_later old more sp h.1, known_later old more sp ns ts h.2)

pub known_grown : (old new : List Form) (sp : List (List ℕ)) (ns : List (ℕ × ℕ)) (ts : List (ℕ × Ty)) → IsGrown old new → AreKnown old sp ns ts → AreKnown new sp ns ts
known_grown old new sp ns ts g h = subst (λ f. AreKnown f sp ns ts) (sym g.is) (known_later old g.more sp ns ts h)

pub go_on_reading : (known : List (ℕ × ℕ)) (old now new : List Form) (tokens : List Token) (i : ℕ) (here later : Next) (os rest : List Open) (t : Token) → drop i tokens ≡ t ∷ drop (i + 1) tokens
    → IsReading known old now tokens i here os → Leads known now new here os t later rest → IsReading known old new tokens (i + 1) later rest
go_on_reading known old now new tokens i here later os rest t e r l = record {
  accepted = λ h.
      subst (λ o. Accepts o (kinds_of (drop (i + 1) tokens))) l.goes_on
      (subst (λ ts. Accepts (Some (place_of here, shapes_of os)) (kinds_of ts)) e (r.accepted h));
  there = l.there;
  grown = record { more = r.grown.more ++ l.grown.more; is = l.grown.is ∙ ap (λ x. x ++ l.grown.more) r.grown.is ∙ append_assoc old r.grown.more l.grown.more };
  spelled = λ sp h. l.spelled sp (kind_at sp tokens i t (drop (i + 1) tokens) h e) (r.spelled sp h);
  standing = λ sp h s. l.standing sp (r.spelled sp h) (r.standing sp h s);
  sized = l.sized i r.sized;
  reaches = λ sp tys forms lt h k n.
      let b : (ts : List Placed) × (placed n tokens ≡ ts ++ placed (n + i) (drop i tokens)) × Stands sp tys forms here os ts = r.reaches sp tys forms (later_before now new forms l.grown lt) h k n in
      let p : n + i + 1 ≡ n + (i + 1) = omega arith in (
        b.0 ++ at_place (n + i) t ∷ [],
        b.1 ∙ ap (λ x. b.0 ++ placed (n + i) x) e ∙ sym (append_assoc b.0 (at_place (n + i) t ∷ []) (placed (n + i + 1) (drop (i + 1) tokens)))
            ∙ ap (λ q. (b.0 ++ at_place (n + i) t ∷ []) ++ placed q (drop (i + 1) tokens)) p,
        l.reaches sp tys forms lt (r.spelled sp h) k (n + i) b.0 b.2,
      );
}

pub end_reading : (known : List (ℕ × ℕ)) (old now : List Form) (tokens : List Token) (i k : ℕ) (later : Next) (os : List Open) → IsReading known old now tokens i later os → drop i tokens ≡ []
    → later ≡ next.After k → os ≡ [] → k < length now → Reads known old now tokens k
end_reading known old now tokens i k later os r e is none there = record {
  grown = r.grown;
  there = there;
  standing = r.standing;
  denotes = λ sp tys forms l h known_now n a stands.
      let b : (ts : List Placed) × (placed n tokens ≡ ts ++ placed (n + i) (drop i tokens)) × Stands sp tys forms later os ts = r.reaches sp tys forms l h known_now n in
      let whole : placed n tokens ≡ b.0 = b.1 ∙ ap (λ x. b.0 ++ placed (n + i) x) e ∙ append-nil b.0 in
      let f : BehindNumber sp tys forms [] k b.0 = subst (λ o. Stands sp tys forms (next.After k) o b.0) none (subst (λ x. Stands sp tys forms x os b.0) is b.2) in
      subst (λ l. Denotes sp tys l a) (sym whole) (subst (Denotes sp tys b.0) (one_type forms sp stands f.type f.stands) f.is);
}

sized_up : (n k : ℕ) (os : List Open) → n ≤ k → AreSized n os → AreSized k os
sized_up n k [] le h = tt
sized_up n k (entry.Sequence s ∷ os) le h = sized_up n k os le h
sized_up n k (entry.Members m ∷ os) le h = let f = h.0 in (omega (arith, f, le), sized_up n k os le h.1)

-- of few tokens few members are open
pub reading_few : (known : List (ℕ × ℕ)) (old now : List Form) (tokens : List Token) (i k : ℕ) (here : Next) (os : List Open) → IsReading known old now tokens i here os → i < length tokens → length tokens ≤ k → AreSized k os
reading_few known old now tokens i k here os r within few = sized_up i k os (omega (arith, within, few)) r.sized

-- the next token may stand here
pub next_accepted : (known : List (ℕ × ℕ)) (old now : List Form) (tokens : List Token) (i : ℕ) (here : Next) (os : List Open) (t : Token) → drop i tokens ≡ t ∷ drop (i + 1) tokens
    → IsReading known old now tokens i here os → Accepts (Some (a_type, [])) (kinds_of tokens) → IsSome (goes (place_of here) (shapes_of os) (class t.kind))
next_accepted known old now tokens i here os t e r h =
    accepts_some (goes (place_of here) (shapes_of os) (class t.kind)) (kinds_of (drop (i + 1) tokens)) (subst (λ ts. Accepts (Some (place_of here, shapes_of os)) (kinds_of ts)) e (r.accepted h))

-- behind the last one there is a type, and nothing is open
pub end_accepted : (known : List (ℕ × ℕ)) (old now : List Form) (tokens : List Token) (i : ℕ) (here : Next) (os : List Open) → IsReading known old now tokens i here os → drop i tokens ≡ []
    → Accepts (Some (a_type, [])) (kinds_of tokens) → (place_of here ≡ behind) × (shapes_of os ≡ [])
end_accepted known old now tokens i here os r e h = subst (λ ts. Accepts (Some (place_of here, shapes_of os)) (kinds_of ts)) e (r.accepted h)

-- its number is in the table
pub end_there : (known : List (ℕ × ℕ)) (old now : List Form) (tokens : List Token) (i k : ℕ) (here : Next) (os : List Open) → IsReading known old now tokens i here os → IsTable now → here ≡ next.After k → k < length now
end_there known old now tokens i k here os r table e = subst (IsThere now) e (r.there table)

-- a token at which the reader stops
pub stop_reading : (known : List (ℕ × ℕ)) (old now : List Form) (tokens : List Token) (i : ℕ) (here : Next) (os : List Open) (t : Token) (rule line : ℕ) → drop i tokens ≡ t ∷ drop (i + 1) tokens → IsTable now
    → IsReading known old now tokens i here os → Refuses known now here os t rule line → ReadsFault known old tokens rule line
stop_reading known old now tokens i here os t rule line e table r f = record {
  misnames = λ sp tys h k n.
      let l : IsLater now now = record { more = []; grown = sym (append-nil now); table = table } in
      let known_now : AreKnown now sp known tys = known_grown old now sp known tys r.grown k in
      let b : (ts : List Placed) × (placed n tokens ≡ ts ++ placed (n + i) (drop i tokens)) × Stands sp tys now here os ts = r.reaches sp tys now l h known_now n in
      subst (λ l. Misnames sp tys l rule line) (sym (b.1 ∙ ap (λ x. b.0 ++ placed (n + i) x) e)) (f.misnames sp tys table (r.spelled sp h) known_now (n + i) b.0 (placed (n + i + 1) (drop (i + 1) tokens)) b.2);
}

-- ---- a range of tokens

take_few : (n : ℕ) (ts : List Token) → length (take n ts) ≤ n
take_few zero ts = omega arith
take_few (suc n) [] = omega arith
take_few (suc n) (t ∷ ts) = let h = take_few n ts in omega (arith, h)

pub range_few : (ts : List Token) (from to : ℕ) → to < 2 ^ 32 → length (slice_range ts from to) ≤ 2 ^ 32
range_few ts from to h = let k = take_few (to - from) (drop from ts) in omega (arith, k, h)

placed_drop : (i n : ℕ) (ts : List Token) → drop i (placed n ts) ≡ placed (n + i) (drop i ts)
placed_drop zero n ts = let e : n ≡ n + 0 = omega arith in ap (λ k. placed k ts) e
placed_drop (suc i) n [] = refl
placed_drop (suc i) n (t ∷ ts) = let e : n + 1 + i ≡ n + suc i = omega arith in placed_drop i (n + 1) ts ∙ ap (λ k. placed k (drop i ts)) e

placed_take : (i n : ℕ) (ts : List Token) → take i (placed n ts) ≡ placed n (take i ts)
placed_take zero n ts = refl
placed_take (suc i) n [] = refl
placed_take (suc i) n (t ∷ ts) = ap (λ l. record { place = n; kind = t.kind; line = t.line } ∷ l) (placed_take i (n + 1) ts)

pub placed_range : (from to : ℕ) (ts : List Token) → slice_range (placed 0 ts) from to ≡ placed from (slice_range ts from to)
placed_range from to ts =
    let e : 0 + from ≡ from = omega arith in
    ap (take (to - from)) (placed_drop from 0 ts ∙ ap (λ k. placed k (drop from ts)) e) ∙ placed_take (to - from) from (drop from ts)

spelled_drop : (sp : List (List ℕ)) (i : ℕ) (ts : List Token) → AreTokensSpelled sp ts → AreTokensSpelled sp (drop i ts)
spelled_drop sp zero ts h = h
spelled_drop sp (suc i) [] h = h
spelled_drop sp (suc i) (t ∷ ts) h = spelled_drop sp i ts h.1

spelled_take : (sp : List (List ℕ)) (i : ℕ) (ts : List Token) → AreTokensSpelled sp ts → AreTokensSpelled sp (take i ts)
spelled_take sp zero ts h = tt
spelled_take sp (suc i) [] h = h
spelled_take sp (suc i) (t ∷ ts) h = (h.0, spelled_take sp i ts h.1)

spelled_range : (sp : List (List ℕ)) (from to : ℕ) (ts : List Token) → AreTokensSpelled sp ts → AreTokensSpelled sp (slice_range ts from to)
spelled_range sp from to ts h = spelled_take sp (to - from) (drop from ts) (spelled_drop sp from ts h)

-- what a range of tokens denotes
pub range_denotes : (known : List (ℕ × ℕ)) (old new : List Form) (tokens : List Token) (from to k : ℕ) → Reads known old new (slice_range tokens from to) k
    → (sp : List (List ℕ)) (tys : List (ℕ × Ty)) (forms : List Form) → IsLater new forms → AreTokensSpelled sp tokens → AreKnown forms sp known tys
    → (a : Ty) → IsNumber forms sp k a → Denotes sp tys (slice_range (placed 0 tokens) from to) a
range_denotes known old new tokens from to k r sp tys forms l h kn a stands =
    subst (λ l. Denotes sp tys l a) (sym (placed_range from to tokens)) (r.denotes sp tys forms l (spelled_range sp from to tokens h) kn from a stands)

-- and what it breaks
pub range_misnames : (known : List (ℕ × ℕ)) (old : List Form) (tokens : List Token) (from to rule line : ℕ) → ReadsFault known old (slice_range tokens from to) rule line
    → (sp : List (List ℕ)) (tys : List (ℕ × Ty)) → AreTokensSpelled sp tokens → AreKnown old sp known tys → Misnames sp tys (slice_range (placed 0 tokens) from to) rule line
range_misnames known old tokens from to rule line r sp tys h kn =
    subst (λ l. Misnames sp tys l rule line) (sym (placed_range from to tokens)) (r.misnames sp tys (spelled_range sp from to tokens h) kn from)

pub range_uses : (known : List (ℕ × ℕ)) (old new : List Form) (tokens : List Token) (from to k : ℕ) → Reads known old new (slice_range tokens from to) k → IsUsed tokens old new
range_uses known old new tokens from to k r = record {
  grown = r.grown;
  standing = λ sp h s. r.standing sp (spelled_range sp from to tokens h) s;
}

-- ---- a table in use

pub unused : (tokens : List Token) (old : List Form) → IsUsed tokens old old
unused tokens old = record { grown = record { more = []; is = sym (append-nil old) }; standing = λ sp h s. s }

pub used_again : (tokens : List Token) (old now new : List Form) → IsUsed tokens old now → IsUsed tokens now new → IsUsed tokens old new
used_again tokens old now new a b = record {
  grown = record { more = a.grown.more ++ b.grown.more; is = b.grown.is ∙ ap (λ x. x ++ b.grown.more) a.grown.is ∙ append_assoc old a.grown.more b.grown.more };
  standing = λ sp h s. b.standing sp h (a.standing sp h s);
}

pub names_later : (tokens : List Token) (old new : List Form) (sp : List (List ℕ)) (ns : List (ℕ × ℕ)) (ts : List (ℕ × Ty)) → IsUsed tokens old new → AreTokensSpelled sp tokens
    → HasNames sp old ns ts → HasNames sp new ns ts
names_later tokens old new sp ns ts u h k = record { standing = u.standing sp h k.standing; named = known_grown old new sp ns ts u.grown k.named }

-- the type that is denoted, at the table that is left
pub denoted_here : (known : List (ℕ × ℕ)) (old new : List Form) (tokens : List Token) (from to k : ℕ) → IsUsed tokens old new → k < length new → IsTable new
    → ((sp : List (List ℕ)) (tys : List (ℕ × Ty)) (forms : List Form) → IsLater new forms → AreTokensSpelled sp tokens → AreKnown forms sp known tys
    → (a : Ty) → IsNumber forms sp k a → Denotes sp tys (slice_range (placed 0 tokens) from to) a)
    → (sp : List (List ℕ)) (tys : List (ℕ × Ty)) → AreTokensSpelled sp tokens → AreStanding sp old → AreKnown old sp known tys
    → (a : Ty) × Denotes sp tys (slice_range (placed 0 tokens) from to) a × IsNumber new sp k a
denoted_here known old new tokens from to k used there table denotes sp tys h s kn =
    let t : (a : Ty) × IsNumber new sp k a = (used.standing sp h s).stands k there in
    let l : IsLater new new = record { more = []; grown = sym (append-nil new); table = table } in
    (t.0, denotes sp tys new l h (known_grown old new sp known tys used.grown kn) t.0 t.1, t.1)

-- ---- the tokens of a type

placed_kinds : (n : ℕ) (ts : List Token) → kinds (placed n ts) ≡ kinds_of ts
placed_kinds n [] = refl
placed_kinds n (t ∷ ts) = ap (λ ks. t.kind ∷ ks) (placed_kinds (n + 1) ts)

pub type_accepted : (tokens : List Token) (w : Written) → IsType tokens w → Accepts (Some (a_type, [])) (kinds_of (slice_range tokens w.from w.to))
type_accepted tokens w h =
    subst (λ ks. Accepts (Some (a_type, [])) ks) (placed_kinds w.from (slice_range tokens w.from w.to))
    (subst (λ ts. Accepts (Some (a_type, [])) (kinds ts)) (placed_range w.from w.to tokens)
    (subst (λ ts. Accepts (Some (a_type, [])) (kinds ts)) (append-nil (slice_range (placed 0 tokens) w.from w.to))
    (type_goes (slice_range (placed 0 tokens) w.from w.to) w h.spelled [] [] (refl, refl))))
