-- Each step of the reader of written types: where it stands behind its token.
use Rattle.std.proofs.Common.{◌≡◌, ◌<◌, ◌≤◌, ℕ, ◌+◌, ◌^◌, Bool, true, false, List, [], ◌∷◌, ◌++◌, map, length, Some, slice_get, refl, sym, ap, subst, ◌∙◌, append_assoc, arith}
use Rattle.std.proofs.lemmas.List.{map-append, append-nil, length-append, length-map}
use Rattle.std.proofs.lemmas.Option.{slice_get_within}
use Rattle.name_scope.specs.Newest.{newest}
use Rattle.flow_value.specs.declared.ty.Ty.{Ty}
use Rattle.flow_value.specs.declared.ty.Ty.TheVariants as ty
use Rattle.type_table.specs.declared.form.Form.{Form}
use Rattle.type_table.specs.declared.form.Form.TheVariants as form
use Rattle.type_table.specs.declared.form.Member.{Member as NumberedMember}
use Rattle.type_table.specs.Tables.{IsTable, IsOver, AddsAtMost, HasFew}
use Rattle.sisal_lex.specs.declared.token.Kind.TheVariants as kind
use Rattle.sisal_lex.specs.declared.token.Sign.TheVariants as sign
use Rattle.sisal_lex.specs.declared.token.Token.{Token}
use Rattle.sisal_tree.specs.declared.unit.Named.{Named}
use Rattle.sisal_grammar.specs.declared.value.Placed.{Placed}
use Rattle.sisal_grammar.specs.Acts.{name_of, named}
use Rattle.sisal_grammar.specs.Spells.{IsSign, IsName, nothing, more as one_more, comma_name_is}
use Rattle.typed_tree.specs.Scopes.{AreDistinct}
use Rattle.typed_tree.specs.Types.{IsNumber, boolean, character, integer, null, no_member}
use Rattle.typed_tree.specs.Typing.{names_of}
use Rattle.typed_tree.specs.Written.{AreOf, Denotes, HasType}
use Rattle.typed_tree.specs.Written as written
use Rattle.unit_types.specs.declared.open.Opener.{Opener}
use Rattle.unit_types.specs.declared.open.Opener.TheVariants as opener
use Rattle.unit_types.specs.declared.open.First.{First}
use Rattle.unit_types.specs.declared.open.First.TheVariants as first
use Rattle.unit_types.specs.declared.open.Sequence.{Sequence}
use Rattle.unit_types.specs.declared.open.Members.{Members}
use Rattle.unit_types.specs.declared.open.Open.{Open}
use Rattle.unit_types.specs.declared.open.Open.TheVariants as entry
use Rattle.unit_types.specs.declared.open.Next.{Next}
use Rattle.unit_types.specs.declared.open.Next.TheVariants as next
use Rattle.unit_types.specs.Rests.{at_place, sequence_of, members_of, IsLater, AreKnown, IsSpelled, AreSpelled, IsKindSpelled, AreOpenSpelled, AreSized, no_members, word_of, begun, opened_by, inside_of, with_name, members_with, with_group, sequence_form, members_form}
use Rattle.unit_types.specs.Accepting.{Shape, sequence, members, Place, a_type, bracket, a_name, behind_name, behind, behind_semicolon, Class, begins as begins_at, called, comma as a_comma, semicolon, colon as a_colon, opens as opening, closes as closing, other, class, goes, opened_in, shapes_of, place_of, IsThere}
use Rattle.unit_types.specs.Reached.{AreNames, MayGoOn, GoesOn, AreAnnounced, Opens, BehindWord, Gathers, AtType, HasGroup, AreSoFar, Stands, Leads}
use Rattle.unit_types.proofs.Known.{known_newest}
use Rattle.unit_types.proofs.Depth.{shallow_number}
use Rattle.unit_types.proofs.Tables.{stays, grown_by, basic, basic_there, later_there, sequence_number, members_number, sequence_stands, members_stand}
use Rattle.unit_types.proofs.Reached.{members_on, typed, sequence_closed, members_closed, gathered, gathered_group, semicolon_behind}

-- ---- how many members are open

sized_more : (n : ℕ) (os : List Open) → AreSized n os → AreSized (n + 1) os
sized_more n [] h = tt
sized_more n (entry.Sequence s ∷ os) h = sized_more n os h
sized_more n (entry.Members m ∷ os) h = let f = h.0 in (omega (arith, f), sized_more n os h.1)

-- those of a group count already
pub group_sized : (m : Members) (ty n : ℕ) → length m.members + length m.group ≤ n → length (with_group m ty).members ≤ n
group_sized m ty n h =
    let e : length (with_group m ty).members ≡ length m.members + length (members_with m.group ty) = length-append m.members (members_with m.group ty) in
    let f : length (members_with m.group ty) ≡ length m.group = length-map m.group _ in
    omega (arith, e, f, h)

pub sequence_few : (is_stream : Bool) (n : ℕ) → HasFew (sequence_form is_stream n)
sequence_few true n = omega arith
sequence_few false n = omega arith

pub members_few : (is_union : Bool) (ms : List NumberedMember) → length ms ≤ 2 ^ 32 → HasFew (members_form is_union ms)
members_few true ms h = h
members_few false ms h = h

-- ---- the first token of a type

module _ (known : List (ℕ × ℕ)) (forms : List Form) (os : List Open) (t : Token) where
  -- the table and what is open stay
  first_leads : (later : Next) → goes a_type (shapes_of os) (class t.kind) ≡ Some (place_of later, shapes_of os) → (IsTable forms → IsThere forms later)
      → ((sp : List (List ℕ)) (tys : List (ℕ × Ty)) (table : List Form) → IsLater forms table → AreKnown table sp known tys → (n : ℕ) (ts : List Placed)
      → AtType sp tys table os ts → Stands sp tys table later os (ts ++ at_place n t ∷ []))
      → Leads known forms forms next.Type os t later os
  first_leads later g there f = record {
    goes_on = g;
    there = there;
    grown = stays forms;
    spelled = λ sp s h. h;
    standing = λ sp s h. h;
    sized = λ n h. sized_more n os h;
    reaches = λ sp tys table l s k n ts c. f sp tys table l k n ts c;
  }

  -- one token is a type
  one_leads : (later : Next) (number : ℕ) (a : Ty) → next.After number ≡ later → goes a_type (shapes_of os) (class t.kind) ≡ Some (behind, shapes_of os) → (IsTable forms → number < length forms)
      → ((sp : List (List ℕ)) (tys : List (ℕ × Ty)) (table : List Form) (n : ℕ) → Denotes sp tys (at_place n t ∷ []) a)
      → ((sp : List (List ℕ)) (table : List Form) → IsLater forms table → IsNumber table sp number a) → Leads known forms forms next.Type os t later os
  one_leads later number a q g there d stands = first_leads later (subst (λ x. goes a_type (shapes_of os) (class t.kind) ≡ Some (place_of x, shapes_of os)) q g) (λ table. subst (IsThere forms) q (there table)) (λ sp tys table l k n ts c.
      subst (λ x. Stands sp tys table x os (ts ++ at_place n t ∷ [])) q
      (record { type = a; stands = stands sp table l; is = typed sp tys table os ts (at_place n t ∷ []) a c (d sp tys table n) }))

  word_leads : (later : Next) (o : Opener) → next.Bracket o t.line ≡ later → goes a_type (shapes_of os) (class t.kind) ≡ Some (bracket (opened_in o), shapes_of os) → ((n : ℕ) → Opens o (at_place n t))
      → Leads known forms forms next.Type os t later os
  word_leads later o q g opens = first_leads later (subst (λ x. goes a_type (shapes_of os) (class t.kind) ≡ Some (place_of x, shapes_of os)) q g) (λ table. subst (IsThere forms) q tt) (λ sp tys table l k n ts c.
      subst (λ x. Stands sp tys table x os (ts ++ at_place n t ∷ [])) q
      (record { outer = ts; word = at_place n t; whole = refl; leads = c; opens = opens n; on_line = refl }))

  pub begins : (f : First) (later : Next) → t.kind ≡ kind.Word (word_of f) → begun f t.line ≡ Some later → Leads known forms forms next.Type os t later os
  begins first.Boolean later w e = one_leads later 0 ty.Bool (cc) (ap (λ k. goes a_type (shapes_of os) (class k)) w) (λ table. basic_there forms 0 form.Boolean table (λ r. refl)) (λ sp tys table n. written.boolean (record { is = w })) (λ sp table l. boolean (basic table 0 form.Boolean l.table (λ r. refl)))
  begins first.Character later w e = one_leads later 1 ty.Char (cc) (ap (λ k. goes a_type (shapes_of os) (class k)) w) (λ table. basic_there forms 1 form.Character table (λ r. refl)) (λ sp tys table n. written.character (record { is = w })) (λ sp table l. character (basic table 1 form.Character l.table (λ r. refl)))
  begins first.Integer later w e = one_leads later 2 ty.Int (cc) (ap (λ k. goes a_type (shapes_of os) (class k)) w) (λ table. basic_there forms 2 form.Integer table (λ r. refl)) (λ sp tys table n. written.integer (record { is = w })) (λ sp table l. integer (basic table 2 form.Integer l.table (λ r. refl)))
  begins first.Null later w e = one_leads later 3 ty.Null (cc) (ap (λ k. goes a_type (shapes_of os) (class k)) w) (λ table. basic_there forms 3 form.Null table (λ r. refl)) (λ sp tys table n. written.null (record { is = w })) (λ sp table l. null (basic table 3 form.Null l.table (λ r. refl)))
  begins first.Real later w e = cc
  begins first.DoubleReal later w e = cc
  begins (first.Opens opener.Array) later w e = word_leads later opener.Array (cc) (ap (λ k. goes a_type (shapes_of os) (class k)) w) (λ n. written.array (record { is = w }))
  begins (first.Opens opener.Stream) later w e = word_leads later opener.Stream (cc) (ap (λ k. goes a_type (shapes_of os) (class k)) w) (λ n. written.stream (record { is = w }))
  begins (first.Opens opener.Record) later w e = word_leads later opener.Record (cc) (ap (λ k. goes a_type (shapes_of os) (class k)) w) (λ n. written.a_record (record { is = w }))
  begins (first.Opens opener.Union) later w e = word_leads later opener.Union (cc) (ap (λ k. goes a_type (shapes_of os) (class k)) w) (λ n. written.a_union (record { is = w }))

  pub begins_name : (x m : ℕ) → t.kind ≡ kind.Id x → newest x known ≡ Some m → m < length forms → Leads known forms forms next.Type os t (next.After m) os
  begins_name x m w e there = first_leads (next.After m) (ap (λ k. goes a_type (shapes_of os) (class k)) w) (λ table. there) (λ sp tys table l k n ts c.
      let found : (b : Ty) × (newest x tys ≡ Some b) × IsNumber table sp m b = known_newest table sp x m known tys k e in
      record {
        type = found.0;
        stands = found.2;
        is = typed sp tys table os ts (at_place n t ∷ []) found.0 c (written.a_name {t = at_place n t} (record { number = x; is = w }) (ap (λ q. newest (name_of q) tys) w ∙ found.1));
      })

-- ---- brackets

-- the first name of a group
first_name : (p : Placed) → IsName p → MayGoOn (p ∷ []) (named p ∷ [])
first_name p is = λ others names s. record { first = p; others = others; names = names; whole = refl; is = is; spelled = s; all = refl }

module _ (known : List (ℕ × ℕ)) (forms : List Form) (os : List Open) (t : Token) (line : ℕ) (is : t.kind ≡ kind.Sign sign.SOpenBracket) where
  behind_word : (outer ts : List Placed) (word p : Placed) → ts ≡ outer ++ word ∷ [] → ts ++ p ∷ [] ≡ outer ++ (word ∷ p ∷ [])
  behind_word outer ts word p e = ap (λ l. l ++ p ∷ []) e ∙ append_assoc outer (word ∷ []) (p ∷ [])

  enters_sequence : (sp : List (List ℕ)) (tys : List (ℕ × Ty)) (table : List Form) (o : Opener) (b : Bool) (n : ℕ) (ts : List Placed) → (c : BehindWord o line (AtType sp tys table os) ts)
      → written.IsSequenceWord c.word (λ t. sequence_of b t) → AtType sp tys table (entry.Sequence (record { line = line; is_stream = b }) ∷ os) (ts ++ at_place n t ∷ [])
  enters_sequence sp tys table o b n ts c w = record {
    outer = c.outer;
    word = c.word;
    bracket = at_place n t;
    inner = [];
    whole = behind_word c.outer ts c.word (at_place n t) c.whole;
    leads = c.leads;
    opens = w;
    on_line = c.on_line;
    opened = record { is = is };
    is = refl;
  }

  enters_members : (sp : List (List ℕ)) (tys : List (ℕ × Ty)) (table : List Form) (o : Opener) (b : Bool) (n : ℕ) (ts : List Placed) → (c : BehindWord o line (AtType sp tys table os) ts)
      → written.IsMembersWord c.word b (λ ms. members_of b ms) → Stands sp tys table next.Name (entry.Members (no_members line b) ∷ os) (ts ++ at_place n t ∷ [])
  enters_members sp tys table o b n ts c w = record {
    outer = c.outer;
    word = c.word;
    bracket = at_place n t;
    done = [];
    inner = [];
    names = [];
    members = [];
    whole = behind_word c.outer ts c.word (at_place n t) c.whole;
    leads = c.leads;
    opens = w;
    on_line = c.on_line;
    opened = record { is = is };
    all_names = refl;
    numbered = no_member;
    follows = λ us ns ms h. h;
    fails = λ us rule line h. h;
    is = first_name;
  }

  pub enters : (o : Opener) → Leads known forms forms (next.Bracket o line) os t (inside_of o) (opened_by o line ∷ os)
  enters opener.Array = record {
    goes_on = ap (λ k. goes (bracket sequence) (shapes_of os) (class k)) is;
    there = λ table. tt;
    grown = stays forms;
    spelled = λ sp s h. h;
    standing = λ sp s h. h;
    sized = λ n h. sized_more n os h;
    reaches = λ sp tys table l s k n ts c. enters_sequence sp tys table opener.Array false n ts c c.opens;
  }
  enters opener.Stream = record {
    goes_on = ap (λ k. goes (bracket sequence) (shapes_of os) (class k)) is;
    there = λ table. tt;
    grown = stays forms;
    spelled = λ sp s h. h;
    standing = λ sp s h. h;
    sized = λ n h. sized_more n os h;
    reaches = λ sp tys table l s k n ts c. enters_sequence sp tys table opener.Stream true n ts c c.opens;
  }
  enters opener.Record = record {
    goes_on = ap (λ k. goes (bracket (members false)) (shapes_of os) (class k)) is;
    there = λ table. tt;
    grown = stays forms;
    spelled = λ sp s h. (tt, tt, refl, h);
    standing = λ sp s h. h;
    sized = λ n h. (omega arith, sized_more n os h);
    reaches = λ sp tys table l s k n ts c. enters_members sp tys table opener.Record false n ts c c.opens;
  }
  enters opener.Union = record {
    goes_on = ap (λ k. goes (bracket (members true)) (shapes_of os) (class k)) is;
    there = λ table. tt;
    grown = stays forms;
    spelled = λ sp s h. (tt, tt, refl, h);
    standing = λ sp s h. h;
    sized = λ n h. (omega arith, sized_more n os h);
    reaches = λ sp tys table l s k n ts c. enters_members sp tys table opener.Union true n ts c c.opens;
  }

-- ---- names of members

named_here : (t : Token) (x n : ℕ) → t.kind ≡ kind.Id x → named (at_place n t) ≡ record { name = x; line = t.line }
named_here t x n h = λ i. record { name = name_of (h i); line = t.line }

more_names : (spellings : List (List ℕ)) (xs ys : List ℕ) → AreSpelled spellings xs → AreSpelled spellings ys → AreSpelled spellings (xs ++ ys)
more_names spellings [] ys h k = k
more_names spellings (x ∷ xs) ys h k = (h.0, more_names spellings xs ys h.1 k)

module _ (known : List (ℕ × ℕ)) (forms : List Form) (os : List Open) (t : Token) (x : ℕ) (m : Members) (is : t.kind ≡ kind.Id x) where
  abbrev one_name : Named
  one_name = record { name = x; line = t.line }

  spelled_name : (sp : List (List ℕ)) → IsKindSpelled sp t.kind → AreOpenSpelled sp (entry.Members m ∷ os) → AreOpenSpelled sp (entry.Members (with_name m one_name) ∷ os)
  spelled_name sp s h =
      let k : IsSpelled sp x = subst (IsKindSpelled sp) is s in
      (h.0, subst (AreSpelled sp) (sym (map-append (λ n. n.name) m.group (one_name ∷ []))) (more_names sp (names_of m.group) (x ∷ []) h.1 (k, tt)), h.2, h.3)

  sized_name : (n : ℕ) → AreSized n (entry.Members m ∷ os) → AreSized (n + 1) (entry.Members (with_name m one_name) ∷ os)
  sized_name n h = let e = length-append m.group (one_name ∷ []) in let f = h.0 in (omega (arith, e, f), sized_more n os h.1)

  pub names_one : Leads known forms forms next.Name (entry.Members m ∷ os) t next.AfterName (entry.Members (with_name m one_name) ∷ os)
  names_one = record {
    goes_on = ap (λ k. goes a_name (members m.is_union ∷ shapes_of os) (class k)) is;
    there = λ table. tt;
    grown = stays forms;
    spelled = spelled_name;
    standing = λ sp s h. h;
    sized = sized_name;
    reaches = λ sp tys table l s k n ts c.
        members_on sp tys table m.is_union m.line m.members m.names (AtType sp tys table os) (λ done names members inner. GoesOn inner m.group) (λ done names members inner. MayGoOn inner (m.group ++ one_name ∷ [])) ts (at_place n t ∷ [])
        (λ done names members inner h. subst (λ y. MayGoOn (inner ++ at_place n t ∷ []) (m.group ++ y ∷ [])) (named_here t x n is) (h (at_place n t) (record { number = x; is = is }))) c;
  }

  pub names_behind : Leads known forms forms next.AfterSemicolon (entry.Members m ∷ os) t next.AfterName (entry.Members (with_name m one_name) ∷ os)
  names_behind = record {
    goes_on = ap (λ k. goes behind_semicolon (members m.is_union ∷ shapes_of os) (class k)) is;
    there = λ table. tt;
    grown = stays forms;
    spelled = spelled_name;
    standing = λ sp s h. h;
    sized = sized_name;
    reaches = λ sp tys table l s k n ts c.
        members_on sp tys table m.is_union m.line m.members m.names (AtType sp tys table os) (AreSoFar sp tys table m) (λ done names members inner. MayGoOn inner (m.group ++ one_name ∷ [])) ts (at_place n t ∷ [])
        (λ done names members inner h.
        subst (λ l. MayGoOn (l ++ at_place n t ∷ []) (m.group ++ one_name ∷ [])) (sym h.nothing)
        (subst (λ g. MayGoOn (at_place n t ∷ []) (g ++ one_name ∷ [])) (sym h.no_name)
        (subst (λ y. MayGoOn (at_place n t ∷ []) (y ∷ [])) (named_here t x n is) (first_name (at_place n t) (record { number = x; is = is }))))) c;
  }

-- ---- behind a name

-- names are all there
ends_names : (inner : List Placed) (group : List Named) → MayGoOn inner group → AreNames inner group
ends_names inner group h = subst (λ g. AreNames inner g) (append-nil group) (subst (λ l. AreNames l (group ++ [])) (append-nil inner) (h [] [] nothing))

comma_goes_on : (inner : List Placed) (group : List Named) (p : Placed) → IsSign sign.SComma p → MayGoOn inner group → GoesOn (inner ++ p ∷ []) group
comma_goes_on inner group p c h = λ q is others names s.
    let tokens : inner ++ (p ∷ q ∷ others) ≡ ((inner ++ p ∷ []) ++ q ∷ []) ++ others = sym (append_assoc (inner ++ p ∷ []) (q ∷ []) others ∙ append_assoc inner (p ∷ []) (q ∷ others)) in
    let all : group ++ (named q ∷ names) ≡ (group ++ named q ∷ []) ++ names = sym (append_assoc group (named q ∷ []) names) in
    subst (λ l. AreNames l ((group ++ named q ∷ []) ++ names)) tokens
    (subst (AreNames (inner ++ (p ∷ q ∷ others))) all (h (p ∷ q ∷ others) (named q ∷ names) (one_more {ts = p ∷ q ∷ []} (comma_name_is c is) s)))

module _ (known : List (ℕ × ℕ)) (forms : List Form) (t : Token) where
  comma_reaches : (sp : List (List ℕ)) (tys : List (ℕ × Ty)) (table : List Form) (os : List Open) (n : ℕ) (ts : List Placed) → t.kind ≡ kind.Sign sign.SComma
      → Stands sp tys table next.AfterName os ts → Stands sp tys table next.Name os (ts ++ at_place n t ∷ [])
  comma_reaches sp tys table [] n ts is c = absurd c
  comma_reaches sp tys table (entry.Sequence s ∷ os) n ts is c = absurd c
  comma_reaches sp tys table (entry.Members m ∷ os) n ts is c =
      members_on sp tys table m.is_union m.line m.members m.names (AtType sp tys table os) (λ done names members inner. MayGoOn inner m.group) (λ done names members inner. GoesOn inner m.group) ts (at_place n t ∷ [])
      (λ done names members inner h. comma_goes_on inner m.group (at_place n t) (record { is = is }) h) c

  pub comma : (os : List Open) → t.kind ≡ kind.Sign sign.SComma → Leads known forms forms next.AfterName os t next.Name os
  comma os is = record {
    goes_on = ap (λ k. goes behind_name (shapes_of os) (class k)) is;
    there = λ table. tt;
    grown = stays forms;
    spelled = λ sp s h. h;
    standing = λ sp s h. h;
    sized = λ n h. sized_more n os h;
    reaches = λ sp tys table l s k n ts c. comma_reaches sp tys table os n ts is c;
  }

  colon_reaches : (sp : List (List ℕ)) (tys : List (ℕ × Ty)) (table : List Form) (os : List Open) (n : ℕ) (ts : List Placed) → t.kind ≡ kind.Sign sign.SColon
      → Stands sp tys table next.AfterName os ts → Stands sp tys table next.Type os (ts ++ at_place n t ∷ [])
  colon_reaches sp tys table [] n ts is c = absurd c
  colon_reaches sp tys table (entry.Sequence s ∷ os) n ts is c = absurd c
  colon_reaches sp tys table (entry.Members m ∷ os) n ts is c =
      members_on sp tys table m.is_union m.line m.members m.names (AtType sp tys table os) (λ done names members inner. MayGoOn inner m.group) (λ done names members inner. AreAnnounced inner m.group) ts (at_place n t ∷ [])
      (λ done names members inner h. record { inner = inner; colon = at_place n t; whole = refl; are = ends_names inner m.group h; is = record { is = is } }) c

  pub colon : (os : List Open) → t.kind ≡ kind.Sign sign.SColon → Leads known forms forms next.AfterName os t next.Type os
  colon os is = record {
    goes_on = ap (λ k. goes behind_name (shapes_of os) (class k)) is;
    there = λ table. tt;
    grown = stays forms;
    spelled = λ sp s h. h;
    standing = λ sp s h. h;
    sized = λ n h. sized_more n os h;
    reaches = λ sp tys table l s k n ts c. colon_reaches sp tys table os n ts is c;
  }

-- without a type it is null
untyped : (sp : List (List ℕ)) (tys : List (ℕ × Ty)) (table : List Form) (without : Bool) (inner : List Placed) (group : List Named) → without ≡ true → MayGoOn inner group → HasGroup sp tys table without group ty.Null inner
untyped sp tys table without inner group w h = λ ms of.
    let n : AreNames inner group = ends_names inner group h in
    subst (λ l. HasType sp tys without l group ms) (sym n.whole)
    (subst (λ g. HasType sp tys without (n.first ∷ n.others) g ms) (sym n.all)
    (subst (λ b. HasType sp tys b (n.first ∷ n.others) (named n.first ∷ n.names) ms) (sym w) (written.of_null n.is n.spelled (subst (λ g. AreOf sp tys ty.Null g ms) n.all of))))

pub behind_tags : (sp : List (List ℕ)) (tys : List (ℕ × Ty)) (table : List Form) (m : Members) (os : List Open) (ts : List Placed) → m.is_union ≡ true → IsNumber table sp 3 ty.Null
    → Stands sp tys table next.AfterName (entry.Members m ∷ os) ts → Stands sp tys table (next.After 3) (entry.Members m ∷ os) ts
behind_tags sp tys table m os ts w null_stands c = record {
  type = ty.Null;
  stands = null_stands;
  is = record {
    outer = c.outer;
    word = c.word;
    bracket = c.bracket;
    done = c.done;
    inner = c.inner;
    names = c.names;
    members = c.members;
    whole = c.whole;
    leads = c.leads;
    opens = c.opens;
    on_line = c.on_line;
    opened = c.opened;
    all_names = c.all_names;
    numbered = c.numbered;
    follows = c.follows;
    fails = c.fails;
    is = untyped sp tys table m.is_union c.inner m.group w c.is;
  };
}

ends_too : (b : Bool) (os : List Shape) (c : Class) (r : Place × List Shape) → b ≡ true → goes behind (members b ∷ os) c ≡ Some r → goes behind_name (members b ∷ os) c ≡ Some r
ends_too false os c r w e = cc
ends_too true os (begins_at p) r w e = cc
ends_too true os called r w e = cc
ends_too true os a_comma r w e = cc
ends_too true os semicolon r w e = e
ends_too true os a_colon r w e = cc
ends_too true os opening r w e = cc
ends_too true os closing r w e = e
ends_too true os other r w e = cc

pub without_type : (known : List (ℕ × ℕ)) (old new : List Form) (m : Members) (os : List Open) (t : Token) (later : Next) (rest : List Open) → m.is_union ≡ true
    → Leads known old new (next.After 3) (entry.Members m ∷ os) t later rest → Leads known old new next.AfterName (entry.Members m ∷ os) t later rest
without_type known old new m os t later rest w l = record {
  goes_on = ends_too m.is_union (shapes_of os) (class t.kind) (place_of later, shapes_of rest) w l.goes_on;
  there = l.there;
  grown = l.grown;
  spelled = l.spelled;
  standing = l.standing;
  sized = l.sized;
  reaches = λ sp tys table later_table s k n ts c.
      l.reaches sp tys table later_table s k n ts (behind_tags sp tys table m os ts w (null (basic table 3 form.Null later_table.table (λ r. refl))) c);
}

-- ---- behind a type

names_with : (group : List Named) (ty : ℕ) → map (λ m. m.name) (members_with group ty) ≡ names_of group
names_with [] ty = refl
names_with (n ∷ ns) ty = ap (λ l. n.name ∷ l) (names_with ns ty)

spelled_group : (sp : List (List ℕ)) (m : Members) (os : List Open) (ty : ℕ) → AreOpenSpelled sp (entry.Members m ∷ os) → AreOpenSpelled sp (entry.Members (with_group m ty) ∷ os)
spelled_group sp m os ty h = (
  more_names sp m.names (names_of m.group) h.0 h.1,
  tt,
  map-append (λ m. m.name) m.members (members_with m.group ty) ∙ ap (λ l. l ++ map (λ m. m.name) (members_with m.group ty)) h.2 ∙ ap (λ l. m.names ++ l) (names_with m.group ty),
  h.3,
)

pub semicolon_leads : (known : List (ℕ × ℕ)) (forms : List Form) (m : Members) (os : List Open) (t : Token) (number : ℕ) → t.kind ≡ kind.Sign sign.SSemicolon
    → Leads known forms forms (next.After number) (entry.Members m ∷ os) t next.AfterSemicolon (entry.Members (with_group m number) ∷ os)
semicolon_leads known forms m os t number is = record {
  goes_on = ap (λ k. goes behind (members m.is_union ∷ shapes_of os) (class k)) is;
  there = λ table. tt;
  grown = stays forms;
  spelled = λ sp s h. spelled_group sp m os number h;
  standing = λ sp s h. h;
  sized = λ n h. let g : length (with_group m number).members ≤ n = group_sized m number n h.0 in (omega (arith, g), sized_more n os h.1);
  reaches = λ sp tys table l s k n ts c. semicolon_behind sp tys table os m c.type number ts s.1 c.stands c.is (at_place n t) (record { is = is });
}

-- ---- closing brackets

pub closes_sequence : (known : List (ℕ × ℕ)) (old new : List Form) (s : Sequence) (os : List Open) (t : Token) (number n : ℕ) → t.kind ≡ kind.Sign sign.SCloseBracket
    → slice_get new n ≡ Some (sequence_form s.is_stream number) → AddsAtMost old (sequence_form s.is_stream number) new → IsOver (length old) (sequence_form s.is_stream number)
    → Leads known old new (next.After number) (entry.Sequence s ∷ os) t (next.After n) os
closes_sequence known old new s os t number n is there adds over = record {
  goes_on = ap (λ k. goes behind (sequence ∷ shapes_of os) (class k)) is;
  there = λ table. slice_get_within new n (sequence_form s.is_stream number) there;
  grown = grown_by old new (sequence_form s.is_stream number) adds;
  spelled = λ sp k h. h;
  standing = λ sp k h. sequence_stands sp s.is_stream number old new over adds h;
  sized = λ n h. sized_more n os h;
  reaches = λ sp tys table l k names p ts c.
      let at : slice_get table n ≡ Some (sequence_form s.is_stream number) = later_there new table n (sequence_form s.is_stream number) l there in
      let q : IsNumber table sp n (sequence_of s.is_stream c.type) = sequence_number table sp s.is_stream n number c.type at c.stands in
      record {
        type = sequence_of s.is_stream c.type;
        stands = q;
        is = sequence_closed sp tys table os s ts c.type (at_place p t) (record { is = is }) c.is (shallow_number table sp n (sequence_form s.is_stream number) (sequence_of s.is_stream c.type) l.table at q);
      };
}

-- a bracket behind all members
closes : (sp : List (List ℕ)) (tys : List (ℕ × Ty)) (new table : List Form) (os : List Open) (b : Bool) (line : ℕ) (numbers : List NumberedMember) (names : List ℕ) (t : Token) (p n : ℕ) (ts : List Placed) → IsLater new table
    → t.kind ≡ kind.Sign sign.SCloseBracket → AreDistinct names → slice_get new n ≡ Some (members_form b numbers) → Gathers sp tys table b line numbers names (AtType sp tys table os) ts
    → Stands sp tys table (next.After n) os (ts ++ at_place p t ∷ [])
closes sp tys new table os b line numbers names t p n ts l is distinct there g =
    let at : slice_get table n ≡ Some (members_form b numbers) = later_there new table n (members_form b numbers) l there in
    let q : IsNumber table sp n (members_of b g.members) = members_number table sp b n numbers g.members at g.numbered in
    record {
      type = members_of b g.members;
      stands = q;
      is = members_closed sp tys table os b line numbers names ts g (at_place p t) (record { is = is }) distinct (shallow_number table sp n (members_form b numbers) (members_of b g.members) l.table at q);
    }

pub closes_members : (known : List (ℕ × ℕ)) (old new : List Form) (m : Members) (os : List Open) (t : Token) (n : ℕ) → t.kind ≡ kind.Sign sign.SCloseBracket → AreDistinct m.names
    → slice_get new n ≡ Some (members_form m.is_union m.members) → AddsAtMost old (members_form m.is_union m.members) new → IsOver (length old) (members_form m.is_union m.members)
    → Leads known old new next.AfterSemicolon (entry.Members m ∷ os) t (next.After n) os
closes_members known old new m os t n is distinct there adds over = record {
  goes_on = ap (λ k. goes behind_semicolon (members m.is_union ∷ shapes_of os) (class k)) is;
  there = λ table. slice_get_within new n (members_form m.is_union m.members) there;
  grown = grown_by old new (members_form m.is_union m.members) adds;
  spelled = λ sp k h. h.3;
  standing = λ sp k h. members_stand sp m.is_union m.members m.names old new k.2 k.0 distinct over adds h;
  sized = λ n h. sized_more n os h.1;
  reaches = λ sp tys table l k names p ts c. closes sp tys new table os m.is_union m.line m.members m.names t p n ts l is distinct there (gathered sp tys table os m ts c);
}

pub closes_group : (known : List (ℕ × ℕ)) (old new : List Form) (m : Members) (os : List Open) (t : Token) (number n : ℕ) → t.kind ≡ kind.Sign sign.SCloseBracket → AreDistinct (with_group m number).names
    → slice_get new n ≡ Some (members_form m.is_union (with_group m number).members) → AddsAtMost old (members_form m.is_union (with_group m number).members) new
    → IsOver (length old) (members_form m.is_union (with_group m number).members)
    → Leads known old new (next.After number) (entry.Members m ∷ os) t (next.After n) os
closes_group known old new m os t number n is distinct there adds over = record {
  goes_on = ap (λ k. goes behind (members m.is_union ∷ shapes_of os) (class k)) is;
  there = λ table. slice_get_within new n (members_form m.is_union (with_group m number).members) there;
  grown = grown_by old new (members_form m.is_union (with_group m number).members) adds;
  spelled = λ sp k h. h.3;
  standing = λ sp k h.
      let s : AreOpenSpelled sp (entry.Members (with_group m number) ∷ os) = spelled_group sp m os number k in
      members_stand sp m.is_union (with_group m number).members (with_group m number).names old new s.2 s.0 distinct over adds h;
  sized = λ n h. sized_more n os h.1;
  reaches = λ sp tys table l k names p ts c.
      closes sp tys new table os m.is_union m.line (with_group m number).members (with_group m number).names t p n ts l is distinct there (gathered_group sp tys table os m c.type number ts k.1 c.stands c.is).0;
}

-- places that are the same
pub leads_as : {known : List (ℕ × ℕ)} {old new : List Form} {now : Next} {os os' : List Open} {t : Token} {later later' : Next} {rest rest' : List Open}
    → later' ≡ later → rest' ≡ rest → os' ≡ os → Leads known old new now os t later rest → Leads known old new now os' t later' rest'
leads_as {known} {old} {new} {now} {os} {os'} {t} {later} {later'} {rest} {rest'} a b c l =
    subst (λ x. Leads known old new now x t later' rest') (sym c) (subst (λ x. Leads known old new now os t later' x) (sym b) (subst (λ x. Leads known old new now os t x rest) (sym a) l))

pub leads_from : {known : List (ℕ × ℕ)} {old new : List Form} {now now' : Next} {os : List Open} {t : Token} {later : Next} {rest : List Open}
    → now' ≡ now → Leads known old new now os t later rest → Leads known old new now' os t later rest
leads_from {known} {old} {new} {now} {now'} {os} {t} {later} {rest} e l = subst (λ x. Leads known old new x os t later rest) (sym e) l
