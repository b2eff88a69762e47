-- Where the reader of a written type stands: a type that comes there, and what breaks a rule there.
use Rattle.std.proofs.Common.{◌≡◌, ℕ, Bool, List, [], ◌∷◌, ◌++◌, refl, sym, ap, subst, ◌∙◌, append_assoc}
use Rattle.std.proofs.lemmas.List.{map-append, append-nil}
use Rattle.flow_value.specs.declared.ty.Ty.{Ty}
use Rattle.type_table.specs.declared.form.Form.{Form}
use Rattle.type_table.specs.declared.form.Member.{Member as NumberedMember}
use Rattle.sisal_lex.specs.declared.token.Sign.TheVariants as sign
use Rattle.sisal_tree.specs.declared.unit.Named.{Named}
use Rattle.sisal_grammar.specs.declared.value.Placed.{Placed}
use Rattle.sisal_grammar.specs.Spells.{IsSign, absent, present, semicolon_is}
use Rattle.typed_tree.specs.Scopes.{AreDistinct}
use Rattle.typed_tree.specs.Types.{Member, IsShallow, IsNumber, AreMembers, no_member, a_member}
use Rattle.typed_tree.specs.Typing.{names_of}
use Rattle.typed_tree.specs.Breaks.{IsTwice}
use Rattle.typed_tree.specs.Written.{AreOf, Denotes, HasMembers, HasType, Misnames, MisnamesMember}
use Rattle.typed_tree.specs.Written as written
use Rattle.unit_types.specs.declared.open.Sequence.{Sequence}
use Rattle.unit_types.specs.declared.open.Members.{Members}
use Rattle.unit_types.specs.declared.open.Open.{Open}
use Rattle.unit_types.specs.declared.open.Open.TheVariants as entry
use Rattle.unit_types.specs.Rests.{sequence_of, members_of, AreSpelled, members_with, with_group}
use Rattle.unit_types.specs.Reached.{AreNames, AreAnnounced, InSequence, InMembers, Gathers, AtType, HasGroup, Behind, AreSoFar}

-- ---- tokens behind a bracket

pub more_behind : (ts outer inner us : List Placed) (word bracket : Placed) → ts ≡ outer ++ (word ∷ bracket ∷ inner) → ts ++ us ≡ outer ++ (word ∷ bracket ∷ (inner ++ us))
more_behind ts outer inner us word bracket e = ap (λ l. l ++ us) e ∙ append_assoc outer (word ∷ bracket ∷ inner) us

pub more_inside : (ts outer done inner us : List Placed) (word bracket : Placed) → ts ≡ outer ++ (word ∷ bracket ∷ (done ++ inner)) → ts ++ us ≡ outer ++ (word ∷ bracket ∷ (done ++ (inner ++ us)))
more_inside ts outer done inner us word bracket e = more_behind ts outer (done ++ inner) us word bracket e ∙ ap (λ l. outer ++ (word ∷ bracket ∷ l)) (append_assoc done inner us)

sequence_on : (b : Bool) (line : ℕ) (before phrase later : List Placed → Type 0) (ts us : List Placed) → ((inner : List Placed) → phrase inner → later (inner ++ us))
    → InSequence b line before phrase ts → InSequence b line before later (ts ++ us)
sequence_on b line before phrase later ts us f c = record {
  outer = c.outer;
  word = c.word;
  bracket = c.bracket;
  inner = c.inner ++ us;
  whole = more_behind ts c.outer c.inner us c.word c.bracket c.whole;
  leads = c.leads;
  opens = c.opens;
  on_line = c.on_line;
  opened = c.opened;
  is = f c.inner c.is;
}

-- members of a group
record Groups (table : List Form) (sp : List (List ℕ)) (tys : List (ℕ × Ty)) (group : List Named) (ty : ℕ) (a : Ty) : Type 0 where
  members : List Member
  are : AreOf sp tys a group members
  numbered : AreMembers table sp (members_with group ty) members

groups : (table : List Form) (sp : List (List ℕ)) (tys : List (ℕ × Ty)) (ty : ℕ) (a : Ty) → IsNumber table sp ty a → (group : List Named) → AreSpelled sp (names_of group) → Groups table sp tys group ty a
groups table sp tys ty a h [] s = record { members = []; are = written.no_name; numbered = no_member }
groups table sp tys ty a h (n ∷ ns) s =
    let g : Groups table sp tys ns ty a = groups table sp tys ty a h ns s.1 in
    record { members = (s.0.spelling, a) ∷ g.members; are = written.a_name s.0.is g.are; numbered = a_member s.0.is h g.numbered }

members_append : (table : List Form) (sp : List (List ℕ)) {ms ns : List NumberedMember} {fs gs : List Member} → AreMembers table sp ms fs → AreMembers table sp ns gs → AreMembers table sp (ms ++ ns) (fs ++ gs)
members_append table sp no_member h = h
members_append table sp (a_member s p q) h = a_member s p (members_append table sp q h)

names_append : (ns group : List Named) (xs : List ℕ) → names_of ns ≡ xs → names_of (ns ++ group) ≡ xs ++ names_of group
names_append ns group xs e = map-append (λ n. n.name) ns group ∙ ap (λ l. l ++ names_of group) e

module _ (sp : List (List ℕ)) (tys : List (ℕ × Ty)) (table : List Form) where
  pub members_on : (b : Bool) (line : ℕ) (numbers : List NumberedMember) (known : List ℕ) (before : List Placed → Type 0) (phrase later : List Placed → List Named → List Member → List Placed → Type 0) (ts us : List Placed)
      → ((done : List Placed) (names : List Named) (members : List Member) (inner : List Placed) → phrase done names members inner → later done names members (inner ++ us))
      → InMembers sp tys table b line numbers known before phrase ts → InMembers sp tys table b line numbers known before later (ts ++ us)
  members_on b line numbers known before phrase later ts us f c = record {
    outer = c.outer;
    word = c.word;
    bracket = c.bracket;
    done = c.done;
    inner = c.inner ++ us;
    names = c.names;
    members = c.members;
    whole = more_inside ts c.outer c.done c.inner us c.word c.bracket c.whole;
    leads = c.leads;
    opens = c.opens;
    on_line = c.on_line;
    opened = c.opened;
    all_names = c.all_names;
    numbered = c.numbered;
    follows = c.follows;
    fails = c.fails;
    is = f c.done c.names c.members c.inner c.is;
  }

  -- ---- a type that comes

  announced : (group : List Named) (inner us : List Placed) (h : AreAnnounced inner group) → inner ++ us ≡ h.are.first ∷ (h.are.others ++ (h.colon ∷ us))
  announced group inner us h = ap (λ l. l ++ us) h.whole ∙ append_assoc h.inner (h.colon ∷ []) us ∙ ap (λ l. l ++ (h.colon ∷ us)) h.are.whole

  group_typed : (without : Bool) (group : List Named) (inner us : List Placed) (a : Ty) → AreAnnounced inner group → Denotes sp tys us a → HasGroup sp tys table without group a (inner ++ us)
  group_typed without group inner us a h d = λ ms of.
      let n : AreNames h.inner group = h.are in
      subst (λ l. HasType sp tys without l group ms) (sym (announced group inner us h))
      (subst (λ g. HasType sp tys without (n.first ∷ (n.others ++ (h.colon ∷ us))) g ms) (sym n.all)
      (written.of_type n.is n.spelled h.is d (subst (λ g. AreOf sp tys a g ms) n.all of)))

  group_fails : (without : Bool) (group : List Named) (inner us : List Placed) (rule line : ℕ) → AreAnnounced inner group → Misnames sp tys us rule line → MisnamesMember sp tys without (inner ++ us) rule line
  group_fails without group inner us rule line h m =
      let n : AreNames h.inner group = h.are in
      subst (λ l. MisnamesMember sp tys without l rule line) (sym (announced group inner us h)) (written.here n.is n.spelled h.is m)

  pub typed : (os : List Open) (ts us : List Placed) (a : Ty) → AtType sp tys table os ts → Denotes sp tys us a → Behind sp tys table os a (ts ++ us)
  typed [] ts us a e d = subst (λ l. Denotes sp tys (l ++ us) a) (sym e) d
  typed (entry.Sequence s ∷ os) ts us a c d =
      sequence_on s.is_stream s.line (AtType sp tys table os) (λ inner. inner ≡ []) (λ inner. Denotes sp tys inner a) ts us (λ inner e. subst (λ l. Denotes sp tys (l ++ us) a) (sym e) d) c
  typed (entry.Members m ∷ os) ts us a c d =
      members_on m.is_union m.line m.members m.names (AtType sp tys table os) (λ done names members inner. AreAnnounced inner m.group) (λ done names members inner. HasGroup sp tys table m.is_union m.group a inner) ts us
      (λ done names members inner h. group_typed m.is_union m.group inner us a h d) c

  -- what breaks a rule there breaks it in the whole
  pub breaks : (os : List Open) (ts us : List Placed) (rule line : ℕ) → AtType sp tys table os ts → Misnames sp tys us rule line → Misnames sp tys (ts ++ us) rule line
  breaks [] ts us rule line e m = subst (λ l. Misnames sp tys (l ++ us) rule line) (sym e) m
  breaks (entry.Sequence s ∷ os) ts us rule line c m =
      subst (λ l. Misnames sp tys l rule line) (sym (more_behind ts c.outer c.inner us c.word c.bracket c.whole))
      (breaks os c.outer (c.word ∷ c.bracket ∷ (c.inner ++ us)) rule line c.leads (written.in_elements c.opens c.opened (subst (λ l. Misnames sp tys (l ++ us) rule line) (sym c.is) m)))
  breaks (entry.Members m ∷ os) ts us rule line c x =
      subst (λ l. Misnames sp tys l rule line) (sym (more_inside ts c.outer c.done c.inner us c.word c.bracket c.whole))
      (breaks os c.outer (c.word ∷ c.bracket ∷ (c.done ++ (c.inner ++ us))) rule line c.leads
      (written.in_members c.opens c.opened (c.fails (c.inner ++ us) rule line (group_fails m.is_union m.group c.inner us rule line c.is x))))

  -- ---- the end of an array or a stream

  module _ (os : List Open) (s : Sequence) (ts : List Placed) (a : Ty) (p : Placed) (is : IsSign sign.SCloseBracket p) (c : Behind sp tys table (entry.Sequence s ∷ os) a ts) where
    pub sequence_closed : IsShallow (sequence_of s.is_stream a) → Behind sp tys table os (sequence_of s.is_stream a) (ts ++ p ∷ [])
    sequence_closed shallow = subst (Behind sp tys table os (sequence_of s.is_stream a)) (sym (more_behind ts c.outer c.inner (p ∷ []) c.word c.bracket c.whole))
        (typed os c.outer (c.word ∷ c.bracket ∷ (c.inner ++ (p ∷ []))) (sequence_of s.is_stream a) c.leads (written.sequence c.opens c.opened c.is is shallow))

    pub sequence_deep : (rest : List Placed) → (IsShallow (sequence_of s.is_stream a) → ⊥) → Misnames sp tys (ts ++ p ∷ rest) 4 s.line
    sequence_deep rest deep = subst (Misnames sp tys (ts ++ p ∷ rest) 4) c.on_line
        (subst (λ l. Misnames sp tys l 4 c.word.line) (sym (more_behind ts c.outer c.inner (p ∷ rest) c.word c.bracket c.whole))
        (breaks os c.outer (c.word ∷ c.bracket ∷ (c.inner ++ (p ∷ rest))) 4 c.word.line c.leads (written.deep_sequence rest c.opens c.opened c.is is deep)))

  -- ---- the end of a record or a union

  module _ (os : List Open) (b : Bool) (line : ℕ) (numbers : List NumberedMember) (known : List ℕ) (ts : List Placed) (g : Gathers sp tys table b line numbers known (AtType sp tys table os) ts) where
    pub members_closed : (p : Placed) → IsSign sign.SCloseBracket p → AreDistinct known → IsShallow (members_of b g.members) → Behind sp tys table os (members_of b g.members) (ts ++ p ∷ [])
    members_closed p is distinct shallow = subst (Behind sp tys table os (members_of b g.members)) (sym (more_behind ts g.outer g.inner (p ∷ []) g.word g.bracket g.whole))
        (typed os g.outer (g.word ∷ g.bracket ∷ (g.inner ++ (p ∷ []))) (members_of b g.members) g.leads
        (written.members g.opens g.opened g.are is (subst AreDistinct (sym g.all_names) distinct) shallow))

    pub members_deep : (p : Placed) (rest : List Placed) → IsSign sign.SCloseBracket p → (IsShallow (members_of b g.members) → ⊥) → Misnames sp tys (ts ++ p ∷ rest) 4 line
    members_deep p rest is deep = subst (Misnames sp tys (ts ++ p ∷ rest) 4) g.on_line
        (subst (λ l. Misnames sp tys l 4 g.word.line) (sym (more_behind ts g.outer g.inner (p ∷ rest) g.word g.bracket g.whole))
        (breaks os g.outer (g.word ∷ g.bracket ∷ (g.inner ++ (p ∷ rest))) 4 g.word.line g.leads (written.deep_members rest g.opens g.opened g.are is deep)))

    pub members_twice : (rest : List Placed) (at : ℕ) → IsTwice g.names at → Misnames sp tys (ts ++ rest) 5 at
    members_twice rest at h = subst (λ l. Misnames sp tys l 5 at) (sym (more_behind ts g.outer g.inner rest g.word g.bracket g.whole))
        (breaks os g.outer (g.word ∷ g.bracket ∷ (g.inner ++ rest)) 5 at g.leads (written.member_twice rest g.opens g.opened g.are h))

  -- behind a semicolon
  pub gathered : (os : List Open) (m : Members) (ts : List Placed) → InMembers sp tys table m.is_union m.line m.members m.names (AtType sp tys table os) (AreSoFar sp tys table m) ts
      → Gathers sp tys table m.is_union m.line m.members m.names (AtType sp tys table os) ts
  gathered os m ts c = record {
    outer = c.outer;
    word = c.word;
    bracket = c.bracket;
    inner = c.done;
    names = c.names;
    members = c.members;
    whole = c.whole ∙ ap (λ l. c.outer ++ (c.word ∷ c.bracket ∷ l)) (ap (λ l. c.done ++ l) c.is.nothing ∙ append-nil c.done);
    leads = c.leads;
    opens = c.opens;
    on_line = c.on_line;
    opened = c.opened;
    all_names = c.all_names;
    numbered = c.numbered;
    are = c.is.are;
  }

  module _ (os : List Open) (m : Members) (a : Ty) (number : ℕ) (ts : List Placed) (spelled : AreSpelled sp (names_of m.group)) (stands : IsNumber table sp number a) (c : Behind sp tys table (entry.Members m ∷ os) a ts) where
    group : Groups table sp tys m.group number a
    group = groups table sp tys number a stands m.group spelled

    has_group : HasType sp tys m.is_union c.inner m.group group.members
    has_group = c.is group.members group.are

    -- behind the type of a group
    pub gathered_group : (g : Gathers sp tys table m.is_union m.line (with_group m number).members (with_group m number).names (AtType sp tys table os) ts) × (g.names ≡ c.names ++ m.group)
    gathered_group = (
      record {
        outer = c.outer;
        word = c.word;
        bracket = c.bracket;
        inner = c.done ++ c.inner;
        names = c.names ++ m.group;
        members = c.members ++ group.members;
        whole = c.whole;
        leads = c.leads;
        opens = c.opens;
        on_line = c.on_line;
        opened = c.opened;
        all_names = names_append c.names m.group m.names c.all_names;
        numbered = members_append table sp c.numbered group.numbered;
        are = c.follows c.inner m.group group.members
            (subst (λ l. HasMembers sp tys m.is_union l m.group group.members) (append-nil c.inner) (written.last has_group absent));
      },
      refl,
    )

    -- a semicolon behind it
    pub semicolon_behind : (p : Placed) → IsSign sign.SSemicolon p
        → InMembers sp tys table m.is_union m.line (with_group m number).members (with_group m number).names (AtType sp tys table os) (AreSoFar sp tys table (with_group m number)) (ts ++ p ∷ [])
    semicolon_behind p is =
        let behind : (us : List Placed) → c.done ++ (c.inner ++ (p ∷ us)) ≡ (c.done ++ (c.inner ++ p ∷ [])) ++ us =
        λ us. ap (λ l. c.done ++ l) (sym (append_assoc c.inner (p ∷ []) us)) ∙ sym (append_assoc c.done (c.inner ++ p ∷ []) us) in
        record {
          outer = c.outer;
          word = c.word;
          bracket = c.bracket;
          done = c.done ++ (c.inner ++ p ∷ []);
          inner = [];
          names = c.names ++ m.group;
          members = c.members ++ group.members;
          whole = more_inside ts c.outer c.done c.inner (p ∷ []) c.word c.bracket c.whole ∙ ap (λ l. c.outer ++ (c.word ∷ c.bracket ∷ l)) (sym (append-nil (c.done ++ (c.inner ++ p ∷ []))));
          leads = c.leads;
          opens = c.opens;
          on_line = c.on_line;
          opened = c.opened;
          all_names = names_append c.names m.group m.names c.all_names;
          numbered = members_append table sp c.numbered group.numbered;
          follows = λ us ns ms h.
              subst (λ l. HasMembers sp tys m.is_union l ((c.names ++ m.group) ++ ns) ((c.members ++ group.members) ++ ms)) (behind us)
              (subst (λ l. HasMembers sp tys m.is_union (c.done ++ (c.inner ++ (p ∷ us))) l ((c.members ++ group.members) ++ ms)) (sym (append_assoc c.names m.group ns))
              (subst (HasMembers sp tys m.is_union (c.done ++ (c.inner ++ (p ∷ us))) (c.names ++ (m.group ++ ns))) (sym (append_assoc c.members group.members ms))
              (c.follows (c.inner ++ (p ∷ us)) (m.group ++ ns) (group.members ++ ms) (written.more has_group is h))));
          fails = λ us rule line h. subst (λ l. MisnamesMember sp tys m.is_union l rule line) (behind us) (c.fails (c.inner ++ (p ∷ us)) rule line (written.later has_group is h));
          is = record { nothing = refl; no_name = refl; are = c.follows (c.inner ++ p ∷ []) m.group group.members (written.last has_group (present (semicolon_is is))) };
        }
