-- What denotes a type is read to it.
use Rattle.std.proofs.Common.{◌≡◌, ◌≤◌, ℕ, zero, suc, Bool, true, false, List, [], ◌∷◌, ◌++◌, length, sym, ap, subst, ◌∙◌, arith, append_assoc, append-nil, length-append, ◌⊎◌, inl, inr, Option, Some, le-leb}
use Rattle.flow_value.specs.declared.ty.Ty.{Ty}
use Rattle.flow_value.specs.declared.ty.Ty.TheVariants as ty
use Rattle.sisal_lex.specs.declared.token.Sign.TheVariants as sign
use Rattle.sisal_tree.specs.declared.unit.Named.{Named}
use Rattle.sisal_grammar.specs.declared.value.Placed.{Placed}
use Rattle.sisal_grammar.specs.Acts.{named}
use Rattle.sisal_grammar.specs.Phrases.{many, comma_name}
use Rattle.sisal_grammar.specs.Spells.{IsSign, IsName, Spells, absent, present, semicolon_is}
use Rattle.typed_tree.specs.Types.{Member, IsShallow, depth_of}
use Rattle.typed_tree.specs.Typing.{names_of}
use Rattle.typed_tree.specs.Written.{IsSequenceWord, IsMembersWord, AreOf, Denotes, HasMembers, HasType}
use Rattle.typed_tree.specs.Written as written
use Rattle.typing_unique.proofs.UReader.{Class, class, basic, called, sequence, group, and_then, behind_open, behind_close, is_called, is_name_first, is_comma, kept_if, once, Group, names, members_of, group_of, typed_group, group_behind, group_at, a_group, joined, more_if, more_at, more_behind, groups, kept, record_if, close_sequence, close_group, begin, front, read}
use Rattle.typing_unique.proofs.UReader as reader
use Rattle.typing_unique.proofs.UNames.{class_name, class_sequence, class_members, names_are_read, members_are}
use Rattle.typing_unique.proofs.UOnce.{distinct_once}

-- ---- lengths

pub within_rest : (xs ys : List Placed) (n : ℕ) → length (xs ++ ys) ≤ n → length ys ≤ n
within_rest xs ys n l = omega (arith, length-append xs ys)

pub within_less : (xs : List Placed) (t : Placed) (ys : List Placed) (n : ℕ) → length (xs ++ (t ∷ ys)) ≤ suc n → length ys ≤ n
within_less xs t ys n l = omega (arith, length-append xs (t ∷ ys))

pub within_part : (xs : List Placed) (t : Placed) (ys : List Placed) (n : ℕ) → length (xs ++ (t ∷ ys)) ≤ n → length ys ≤ n
within_part xs t ys n l = omega (arith, length-append xs (t ∷ ys))

-- a closing token moved to what stands behind
pub moved : (xs : List Placed) (t : Placed) (rest : List Placed) → (xs ++ (t ∷ [])) ++ rest ≡ xs ++ (t ∷ rest)
moved xs t rest = append_assoc xs (t ∷ []) rest

-- a token at which a group of names ends
abbrev pub IsEnd : Placed → Type 0
IsEnd t = (class t.kind ≡ reader.semicolon) ⊎ (class t.kind ≡ reader.closes)

pub end_no_comma : (t : Placed) → IsEnd t → is_comma (class t.kind) ≡ false
end_no_comma t (inl e) = ap is_comma e
end_no_comma t (inr e) = ap is_comma e

module _ (spellings : List (List ℕ)) (types : List (ℕ × Ty)) where
  -- ---- one step of the reader

  pub read_at : (n : ℕ) (t : Placed) (ts : List Placed) (o : Option (Ty × List Placed)) → length (t ∷ ts) ≤ n
      → ((m : ℕ) → length ts ≤ m → begin spellings types (read spellings types m) m (class t.kind) ts ≡ o) → read spellings types n (t ∷ ts) ≡ o
  read_at zero t ts o l f = absurd (omega arith)
  read_at (suc m) t ts o l f = f m (omega arith)

  pub kept_shallow : (a : Ty) (ts : List Placed) → IsShallow a → kept a ts ≡ Some (a, ts)
  kept_shallow a ts h = ap (λ b. kept_if b a ts) (le-leb (depth_of a) 64 h)

  -- a sequence up to its element
  pub opens_sequence : (inner : List Placed → Option (Ty × List Placed)) (n : ℕ) (t u : Placed) (make : Ty → Ty) (ts : List Placed)
      → IsSequenceWord t make → IsSign sign.SOpenBracket u
      → begin spellings types inner n (class t.kind) (u ∷ ts) ≡ and_then (inner ts) (close_sequence make)
  opens_sequence inner n t u make ts w s =
      ap (λ c. begin spellings types inner n c (u ∷ ts)) (class_sequence t make w)
      ∙ ap (λ k. and_then (behind_open (class k) ts) (λ us. and_then (inner us) (close_sequence make))) s.is

  pub closes_sequence : (make : Ty → Ty) (a : Ty) (v : Placed) (rest : List Placed) → IsSign sign.SCloseBracket v
      → close_sequence make (a, v ∷ rest) ≡ kept (make a) rest
  closes_sequence make a v rest s = ap (λ k. and_then (behind_close (class k) rest) (λ ts. kept (make a) ts)) s.is

  -- a record or a union up to its members
  pub opens_group : (inner : List Placed → Option (Ty × List Placed)) (n : ℕ) (t u : Placed) (without : Bool) (make : List Member → Ty) (ts : List Placed)
      → IsMembersWord t without make → IsSign sign.SOpenBracket u
      → begin spellings types inner n (class t.kind) (u ∷ ts) ≡ and_then (groups spellings inner without n ts) (close_group make)
  opens_group inner n t u without make ts w s =
      ap (λ c. begin spellings types inner n c (u ∷ ts)) (class_members t without make w)
      ∙ ap (λ k. and_then (behind_open (class k) ts) (λ us. and_then (groups spellings inner without n us) (close_group make))) s.is

  pub closes_group : (make : List Member → Ty) (ns : List Named) (ms : List Member) (v : Placed) (rest : List Placed) → IsSign sign.SCloseBracket v
      → close_group make (record { names = ns; members = ms; rest = v ∷ rest }) ≡ record_if (once (names_of ns)) (make ms) rest
  closes_group make ns ms v rest s = ap (λ k. and_then (behind_close (class k) rest) (λ ts. record_if (once (names_of ns)) (make ms) ts)) s.is

  -- ---- names with their type

  group_is : (a : Ty) (ns : List Named) (ms : List Member) (ts : List Placed) → AreOf spellings types a ns ms
      → group_of spellings a ns ts ≡ Some (record { names = ns; members = ms; rest = ts })
  group_is a ns ms ts d = ap (λ o. and_then o (λ l. Some (record { names = ns; members = l; rest = ts }))) (members_are spellings types a ns ms d)

  -- the names, and then a token that is no comma
  pub behind_names : (inner : List Placed → Option (Ty × List Placed)) (without : Bool) (t : Placed) (ts : List Placed) (ns : List Named) (u : Placed) (us : List Placed)
      → IsName t → Spells (many comma_name) ts ns → is_comma (class u.kind) ≡ false
      → a_group spellings inner without (t ∷ (ts ++ (u ∷ us))) ≡ typed_group spellings inner without (class u.kind) (named t ∷ ns) u us
  behind_names inner without t ts ns u us n d e =
      ap (λ c. group_at spellings inner without c t (ts ++ (u ∷ us))) (class_name t n)
      ∙ ap (λ p. group_behind spellings inner without (named t ∷ p.0) p.1) (names_are_read ts ns u us d e)

  pub colon_behind : (inner : List Placed → Option (Ty × List Placed)) (without : Bool) (t : Placed) (ts : List Placed) (ns : List Named) (u : Placed) (us : List Placed)
      → IsName t → Spells (many comma_name) ts ns → IsSign sign.SColon u
      → a_group spellings inner without (t ∷ (ts ++ (u ∷ us))) ≡ and_then (inner us) (λ p. group_of spellings p.0 (named t ∷ ns) p.1)
  colon_behind inner without t ts ns u us n d s =
      behind_names inner without t ts ns u us n d (ap (λ k. is_comma (class k)) s.is)
      ∙ ap (λ k. typed_group spellings inner without (class k) (named t ∷ ns) u us) s.is

  pub typed_exact : (inner : List Placed → Option (Ty × List Placed)) (without : Bool) (t : Placed) (ts : List Placed) (ns : List Named) (ms : List Member) (u : Placed) (us : List Placed) (a : Ty) (rest : List Placed)
      → IsName t → Spells (many comma_name) ts ns → IsSign sign.SColon u → inner (us ++ rest) ≡ Some (a, rest) → AreOf spellings types a (named t ∷ ns) ms
      → a_group spellings inner without (t ∷ (ts ++ (u ∷ (us ++ rest)))) ≡ Some (record { names = named t ∷ ns; members = ms; rest = rest })
  typed_exact inner without t ts ns ms u us a rest x d s e of =
      colon_behind inner without t ts ns u (us ++ rest) x d s
      ∙ ap (λ o. and_then o (λ p. group_of spellings p.0 (named t ∷ ns) p.1)) e
      ∙ group_is a (named t ∷ ns) ms rest of

  end_behind : (inner : List Placed → Option (Ty × List Placed)) (t : Placed) (ts : List Placed) (ns : List Named) (ms : List Member) (u : Placed) (us : List Placed)
      → IsName t → Spells (many comma_name) ts ns → AreOf spellings types ty.Null (named t ∷ ns) ms → IsEnd u
      → a_group spellings inner true (t ∷ (ts ++ (u ∷ us))) ≡ Some (record { names = named t ∷ ns; members = ms; rest = u ∷ us })
  end_behind inner t ts ns ms u us n d of end =
      behind_names inner true t ts ns u us n d (end_no_comma u end)
      ∙ by end
      ∙ group_is ty.Null (named t ∷ ns) ms (u ∷ us) of
    where
      by : IsEnd u → typed_group spellings inner true (class u.kind) (named t ∷ ns) u us ≡ group_of spellings ty.Null (named t ∷ ns) (u ∷ us)
      by (inl e) = ap (λ c. typed_group spellings inner true c (named t ∷ ns) u us) e
      by (inr e) = ap (λ c. typed_group spellings inner true c (named t ∷ ns) u us) e

  -- ---- members begin with a name

  pub type_first : (without : Bool) (ts : List Placed) (ns : List Named) (ms : List Member) (rest : List Placed) → HasType spellings types without ts ns ms → is_name_first (ts ++ rest) ≡ true
  type_first without _ _ ms rest (written.of_type {t = t} n d s e of) = ap is_called (class_name t n)
  type_first _ _ _ ms rest (written.of_null {t = t} n d of) = ap is_called (class_name t n)

  pub members_first : (without : Bool) (ts : List Placed) (ns : List Named) (ms : List Member) (rest : List Placed) → HasMembers spellings types without ts ns ms
      → is_name_first (ts ++ rest) ≡ true
  members_first without _ ns ms rest (written.last {ts = ts} {us = us} d s) = ap is_name_first (append_assoc ts us rest) ∙ type_first without ts ns ms (us ++ rest) d
  members_first without _ _ _ rest (written.more {t = t} {ts = ts} {us = us} {ns = ns} {ms = ms} d s e) =
      ap is_name_first (append_assoc ts (t ∷ us) rest) ∙ type_first without ts ns ms (t ∷ (us ++ rest)) d

  -- ---- behind a group

  pub closing : (more : List Placed → Option Group) (g : Group) (v : Placed) (rest : List Placed) → IsSign sign.SCloseBracket v → more_behind more g (v ∷ rest) ≡ Some g
  closing more g v rest s = ap (λ k. more_at (class k) more g rest) s.is

  pub last_semicolon : (more : List Placed → Option Group) (g : Group) (t v : Placed) (rest : List Placed) → IsSign sign.SSemicolon t → IsSign sign.SCloseBracket v
      → more_behind more g (t ∷ v ∷ rest) ≡ Some (record { names = g.names; members = g.members; rest = v ∷ rest })
  last_semicolon more g t v rest s e =
      ap (λ k. more_at (class k) more g (v ∷ rest)) s.is
      ∙ ap (λ k. more_if (is_called (class k)) more g (v ∷ rest)) e.is

  pub further : (more : List Placed → Option Group) (g : Group) (t : Placed) (rest : List Placed) → IsSign sign.SSemicolon t → is_name_first rest ≡ true
      → more_behind more g (t ∷ rest) ≡ and_then (more rest) (λ h. Some (joined g h))
  further more g t rest s e =
      ap (λ k. more_at (class k) more g rest) s.is
      ∙ ap (λ b. more_if b more g rest) e

  -- ---- the derivations

  mutual
    pub read_type : (ts : List Placed) (a : Ty) → Denotes spellings types ts a → (n : ℕ) (rest : List Placed) → length (ts ++ rest) ≤ n
        → read spellings types n (ts ++ rest) ≡ Some (a, rest)
    read_type _ _ (written.integer {t = t} w) n rest l =
        read_at n t rest (Some (ty.Int, rest)) l (λ m b. ap (λ k. begin spellings types (read spellings types m) m (class k) rest) w.is)
    read_type _ _ (written.boolean {t = t} w) n rest l =
        read_at n t rest (Some (ty.Bool, rest)) l (λ m b. ap (λ k. begin spellings types (read spellings types m) m (class k) rest) w.is)
    read_type _ _ (written.character {t = t} w) n rest l =
        read_at n t rest (Some (ty.Char, rest)) l (λ m b. ap (λ k. begin spellings types (read spellings types m) m (class k) rest) w.is)
    read_type _ _ (written.null {t = t} w) n rest l =
        read_at n t rest (Some (ty.Null, rest)) l (λ m b. ap (λ k. begin spellings types (read spellings types m) m (class k) rest) w.is)
    read_type _ a (written.a_name {t = t} x e) n rest l =
        read_at n t rest (Some (a, rest)) l (λ m b.
        ap (λ c. begin spellings types (read spellings types m) m c rest) (class_name t x)
        ∙ ap (λ o. and_then o (λ c. Some (c, rest))) e)
    read_type _ _ (written.sequence {t = t} {u = u} {v = v} {make = make} {ts = ts} {a = a} w s d e h) n rest l =
        subst (λ ys. length (t ∷ u ∷ ys) ≤ n → read spellings types n (t ∷ u ∷ ys) ≡ Some (make a, rest)) (sym (moved ts v rest))
        (λ long. read_at n t (u ∷ (ts ++ (v ∷ rest))) (Some (make a, rest)) long (λ m b.
        opens_sequence (read spellings types m) m t u make (ts ++ (v ∷ rest)) w s
        ∙ ap (λ o. and_then o (close_sequence make)) (read_type ts a d m (v ∷ rest) (omega arith))
        ∙ closes_sequence make a v rest e
        ∙ kept_shallow (make a) rest h))
        l
    read_type _ _ (written.members {t = t} {u = u} {v = v} {without = without} {make = make} {ts = ts} {ns = ns} {ms = ms} w s d e distinct h) n rest l =
        subst (λ ys. length (t ∷ u ∷ ys) ≤ n → read spellings types n (t ∷ u ∷ ys) ≡ Some (make ms, rest)) (sym (moved ts v rest))
        (λ long. read_at n t (u ∷ (ts ++ (v ∷ rest))) (Some (make ms, rest)) long (λ m b.
        opens_group (read spellings types m) m t u without make (ts ++ (v ∷ rest)) w s
        ∙ ap (λ o. and_then o (close_group make)) (read_members without ts ns ms d m m v rest e (omega arith) (omega arith))
        ∙ closes_group make ns ms v rest e
        ∙ ap (λ c. record_if c (make ms) rest) (distinct_once (names_of ns) distinct)
        ∙ kept_shallow (make ms) rest h))
        l

    pub read_members : (without : Bool) (ts : List Placed) (ns : List Named) (ms : List Member) → HasMembers spellings types without ts ns ms
        → (n m : ℕ) (v : Placed) (rest : List Placed) → IsSign sign.SCloseBracket v → length (ts ++ (v ∷ rest)) ≤ n → length (ts ++ (v ∷ rest)) ≤ m
        → groups spellings (read spellings types n) without m (ts ++ (v ∷ rest)) ≡ Some (record { names = ns; members = ms; rest = v ∷ rest })
    read_members without ts ns ms d n zero v rest e l k = absurd (omega (arith, length-append ts (v ∷ rest)))
    read_members without _ ns ms (written.last {ts = ts} d absent) n (suc m) v rest e l k =
        subst (λ xs. length (xs ++ (v ∷ rest)) ≤ n → groups spellings (read spellings types n) without (suc m) (xs ++ (v ∷ rest)) ≡ Some (record { names = ns; members = ms; rest = v ∷ rest })) (sym (append-nil ts))
        (λ long.
        ap (λ o. and_then o (λ g. more_behind (groups spellings (read spellings types n) without m) g g.rest)) (read_group without ts ns ms d n v rest (inr (ap class e.is)) long)
        ∙ closing (groups spellings (read spellings types n) without m) (record { names = ns; members = ms; rest = v ∷ rest }) v rest e)
        l
    read_members without _ ns ms (written.last {ts = ts} d (present (semicolon_is {t = t} s))) n (suc m) v rest e l k =
        subst (λ xs. length xs ≤ n → groups spellings (read spellings types n) without (suc m) xs ≡ Some (record { names = ns; members = ms; rest = v ∷ rest })) (sym (moved ts t (v ∷ rest)))
        (λ long.
        ap (λ o. and_then o (λ g. more_behind (groups spellings (read spellings types n) without m) g g.rest)) (read_group without ts ns ms d n t (v ∷ rest) (inl (ap class s.is)) long)
        ∙ last_semicolon (groups spellings (read spellings types n) without m) (record { names = ns; members = ms; rest = t ∷ v ∷ rest }) t v rest s e)
        l
    read_members without _ _ _ (written.more {t = t} {ts = ts} {us = us} {ns = ns} {os = os} {ms = ms} {others = others} d s f) n (suc m) v rest e l k =
        subst (λ xs. length xs ≤ n → length xs ≤ suc m → groups spellings (read spellings types n) without (suc m) xs ≡ Some (record { names = ns ++ os; members = ms ++ others; rest = v ∷ rest }))
        (sym (append_assoc ts (t ∷ us) (v ∷ rest)))
        (λ long most.
        ap (λ o. and_then o (λ g. more_behind (groups spellings (read spellings types n) without m) g g.rest)) (read_group without ts ns ms d n t (us ++ (v ∷ rest)) (inl (ap class s.is)) long)
        ∙ further (groups spellings (read spellings types n) without m) (record { names = ns; members = ms; rest = t ∷ (us ++ (v ∷ rest)) }) t (us ++ (v ∷ rest)) s (members_first without us os others (v ∷ rest) f)
        ∙ ap (λ o. and_then o (λ h. Some (joined (record { names = ns; members = ms; rest = t ∷ (us ++ (v ∷ rest)) }) h)))
        (read_members without us os others f n m v rest e (within_part ts t (us ++ (v ∷ rest)) n long) (within_less ts t (us ++ (v ∷ rest)) m most)))
        l k

    pub read_group : (without : Bool) (ts : List Placed) (ns : List Named) (ms : List Member) → HasType spellings types without ts ns ms
        → (n : ℕ) (v : Placed) (rest : List Placed) → IsEnd v → length (ts ++ (v ∷ rest)) ≤ n
        → a_group spellings (read spellings types n) without (ts ++ (v ∷ rest)) ≡ Some (record { names = ns; members = ms; rest = v ∷ rest })
    read_group without _ _ ms (written.of_type {t = t} {u = u} {ts = ts} {us = us} {ns = ns} {a = a} x d s e of) n v rest end l =
        subst (λ xs. length (t ∷ xs) ≤ n → a_group spellings (read spellings types n) without (t ∷ xs) ≡ Some (record { names = named t ∷ ns; members = ms; rest = v ∷ rest }))
        (sym (append_assoc ts (u ∷ us) (v ∷ rest)))
        (λ long.
        typed_exact (read spellings types n) without t ts ns ms u us a (v ∷ rest) x d s (read_type us a e n (v ∷ rest) (within_part (t ∷ ts) u (us ++ (v ∷ rest)) n long)) of)
        l
    read_group _ _ _ ms (written.of_null {t = t} {ts = ts} {ns = ns} x d of) n v rest end l = end_behind (read spellings types n) t ts ns ms v rest x d of end
