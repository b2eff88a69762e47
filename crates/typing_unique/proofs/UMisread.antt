-- What breaks a rule on types is read to nothing.
use Rattle.std.proofs.Common.{◌≡◌, ◌≤◌, ℕ, zero, suc, Bool, true, false, List, [], ◌∷◌, ◌++◌, length, refl, sym, ap, subst, ◌∙◌, arith, append_assoc, append-nil, inl, Option, Some, None, leb, leb-true}
use Rattle.flow_value.specs.declared.ty.Ty.{Ty}
use Rattle.flow_value.specs.declared.ty.Ty.TheVariants as ty
use Rattle.sisal_tree.specs.declared.unit.Named.{Named}
use Rattle.sisal_grammar.specs.declared.value.Placed.{Placed}
use Rattle.sisal_grammar.specs.Acts.{named}
use Rattle.typed_tree.specs.Types.{Member, IsShallow, depth_of}
use Rattle.typed_tree.specs.Typing.{names_of}
use Rattle.typed_tree.specs.Breaks.{IsTwice}
use Rattle.typed_tree.specs.Written.{Denotes, HasMembers, HasType, Misnames, MisnamesMember}
use Rattle.typed_tree.specs.Written as written
use Rattle.typing_unique.proofs.UReader.{Class, class, and_then, is_called, is_name_first, kept_if, once, Group, names, members_of, group_of, null_group, typed_group, group_behind, group_at, a_group, joined, more_if, more_at, more_behind, groups, closed, kept, record_if, close_sequence, close_group, begin, read}
use Rattle.typing_unique.proofs.UReader as reader
use Rattle.typing_unique.proofs.UNames.{class_name, names_in_front}
use Rattle.typing_unique.proofs.UOnce.{twice_once}
use Rattle.typing_unique.proofs.URead.{within_part, read_at, opens_sequence, closes_sequence, opens_group, closes_group, colon_behind, type_first, members_first, further, typed_exact, read_type, read_members, read_group}

-- ---- names that were read so far

-- a group, if there is one, begins with these names
abbrev pub FrontOf : List Named → Option Group → Type 0
FrontOf ns None = Unit {0}
FrontOf ns (Some g) = (more : List Named) × (g.names ≡ ns ++ more)

front_then : {A : Type 0} (ns : List Named) (o : Option A) (f : A → Option Group) → ((a : A) → FrontOf ns (f a)) → FrontOf ns (and_then o f)
front_then ns None f h = tt
front_then ns (Some a) f h = h a

itself : (ns : List Named) (g : Group) → g.names ≡ ns → FrontOf ns (Some g)
itself ns g e = ([], e ∙ sym (append-nil ns))

front_if : (b : Bool) (more : List Placed → Option Group) (g : Group) (ts : List Placed) → FrontOf g.names (more_if b more g ts)
front_if true more g ts = front_then g.names (more ts) (λ h. Some (joined g h)) (λ h. (h.names, refl))
front_if false more g ts = itself g.names (record { names = g.names; members = g.members; rest = ts }) refl

front_at : (c : Class) (more : List Placed → Option Group) (g : Group) (ts : List Placed) → FrontOf g.names (more_at c more g ts)
front_at reader.semicolon more g ts = front_if (is_name_first ts) more g ts
front_at _ more g ts = itself g.names g refl

front_behind : (more : List Placed → Option Group) (g : Group) (ts : List Placed) → FrontOf g.names (more_behind more g ts)
front_behind more g [] = itself g.names g refl
front_behind more g (t ∷ ts) = front_at (class t.kind) more g ts

-- fewer names in front
fewer : (ns os : List Named) (o : Option Group) → FrontOf (ns ++ os) o → FrontOf ns o
fewer ns os None h = tt
fewer ns os (Some g) h = (os ++ h.0, h.1 ∙ append_assoc ns os h.0)

front_on : (ns : List Named) (o : Option Group) (more : List Placed → Option Group) → FrontOf ns o → FrontOf ns (and_then o (λ g. more_behind more g g.rest))
front_on ns None more h = tt
front_on ns (Some g) more h =
    fewer ns h.0 (more_behind more g g.rest) (subst (λ l. FrontOf l (more_behind more g g.rest)) h.1 (front_behind more g g.rest))

front_joined : (ns os : List Named) (g : Group) (o : Option Group) → g.names ≡ ns → FrontOf os o → FrontOf (ns ++ os) (and_then o (λ h. Some (joined g h)))
front_joined ns os g None e h = tt
front_joined ns os g (Some r) e h = (h.0, ap (λ l. l ++ r.names) e ∙ ap (λ l. ns ++ l) h.1 ∙ sym (append_assoc ns os h.0))

-- ---- types that are too deep, and names that stand twice

deep_if : (a : Ty) (b : Bool) → leb (depth_of a) 64 ≡ b → (IsShallow a → ⊥) → (ts : List Placed) → kept_if b a ts ≡ None
deep_if a true e h ts = absurd (h (leb-true (depth_of a) 64 e))
deep_if a false e h ts = refl

kept_deep : (a : Ty) (ts : List Placed) → (IsShallow a → ⊥) → kept a ts ≡ None
kept_deep a ts h = deep_if a (leb (depth_of a) 64) refl h ts

record_deep : (b : Bool) (a : Ty) (ts : List Placed) → (IsShallow a → ⊥) → record_if b a ts ≡ None
record_deep true a ts h = kept_deep a ts h
record_deep false a ts h = refl

nothing_behind : {A B : Type 0} (o : Option A) (f : A → Option B) → ((a : A) → f a ≡ None) → and_then o f ≡ None
nothing_behind None f h = refl
nothing_behind (Some a) f h = h a

twice_closes : (ns : List Named) (line : ℕ) (o : Option Group) (make : List Member → Ty) → IsTwice ns line → FrontOf ns o → and_then o (close_group make) ≡ None
twice_closes ns line None make t h = refl
twice_closes ns line (Some g) make t h =
    nothing_behind (closed g.rest) (λ ts. record_if (once (names_of g.names)) (make g.members) ts)
    (λ ts. ap (λ l. record_if (once (names_of l)) (make g.members) ts) h.1 ∙ ap (λ b. record_if b (make g.members) ts) (twice_once ns h.0 line t))

module _ (spellings : List (List ℕ)) (types : List (ℕ × Ty)) where
  -- ---- members in front

  group_front : (a : Ty) (ns os : List Named) (ts : List Placed) → FrontOf ns (group_of spellings a (ns ++ os) ts)
  group_front a ns os ts = front_then ns (members_of spellings a (ns ++ os)) (λ ms. Some (record { names = ns ++ os; members = ms; rest = ts })) (λ ms. (os, refl))

  typed_front : (inner : List Placed → Option (Ty × List Placed)) (c : Class) (ns os : List Named) (t : Placed) (ts : List Placed)
      → FrontOf ns (typed_group spellings inner true c (ns ++ os) t ts)
  typed_front inner reader.colon ns os t ts = front_then ns (inner ts) (λ p. group_of spellings p.0 (ns ++ os) p.1) (λ p. group_front p.0 ns os p.1)
  typed_front inner _ ns os t ts = group_front ty.Null ns os (t ∷ ts)

  behind_front : (inner : List Placed → Option (Ty × List Placed)) (ns os : List Named) (ts : List Placed) → FrontOf ns (group_behind spellings inner true (ns ++ os) ts)
  behind_front inner ns os [] = group_front ty.Null ns os []
  behind_front inner ns os (t ∷ ts) = typed_front inner (class t.kind) ns os t ts

  type_front : (without : Bool) (ts : List Placed) (ns : List Named) (ms : List Member) → HasType spellings types without ts ns ms
      → (n : ℕ) (rest : List Placed) → length (ts ++ rest) ≤ n → FrontOf ns (a_group spellings (read spellings types n) without (ts ++ rest))
  type_front without _ _ ms (written.of_type {t = t} {u = u} {ts = ts} {us = us} {ns = ns} {a = a} x d s e of) n rest l =
      subst (λ xs. length (t ∷ xs) ≤ n → FrontOf (named t ∷ ns) (a_group spellings (read spellings types n) without (t ∷ xs))) (sym (append_assoc ts (u ∷ us) rest))
      (λ long.
      subst (FrontOf (named t ∷ ns))
      (sym (typed_exact spellings types (read spellings types n) without t ts ns ms u us a rest x d s (read_type spellings types us a e n rest (within_part (t ∷ ts) u (us ++ rest) n long)) of))
      (itself (named t ∷ ns) (record { names = named t ∷ ns; members = ms; rest = rest }) refl))
      l
  type_front _ _ _ ms (written.of_null {t = t} {ts = ts} {ns = ns} x d of) n rest l =
      let f = names_in_front ts ns rest d in
      subst (FrontOf (named t ∷ ns))
      (sym (ap (λ c. group_at spellings (read spellings types n) true c t (ts ++ rest)) (class_name t x)
      ∙ ap (λ os. group_behind spellings (read spellings types n) true (named t ∷ os) (names (ts ++ rest)).1) f.1))
      (behind_front (read spellings types n) (named t ∷ ns) f.0 (names (ts ++ rest)).1)

  members_front : (without : Bool) (ts : List Placed) (ns : List Named) (ms : List Member) → HasMembers spellings types without ts ns ms
      → (n m : ℕ) (rest : List Placed) → length (ts ++ rest) ≤ n → FrontOf ns (groups spellings (read spellings types n) without m (ts ++ rest))
  members_front without ts ns ms d n zero rest l = tt
  members_front without _ ns ms (written.last {ts = ts} {us = us} d s) n (suc m) rest l =
      subst (λ xs. length xs ≤ n → FrontOf ns (groups spellings (read spellings types n) without (suc m) xs)) (sym (append_assoc ts us rest))
      (λ long.
      front_on ns (a_group spellings (read spellings types n) without (ts ++ (us ++ rest))) (groups spellings (read spellings types n) without m)
      (type_front without ts ns ms d n (us ++ rest) long))
      l
  members_front without _ _ _ (written.more {t = t} {ts = ts} {us = us} {ns = ns} {os = os} {ms = ms} {others = others} d s f) n (suc m) rest l =
      subst (λ xs. length xs ≤ n → FrontOf (ns ++ os) (groups spellings (read spellings types n) without (suc m) xs)) (sym (append_assoc ts (t ∷ us) rest))
      (λ long.
      subst (FrontOf (ns ++ os))
      (sym (ap (λ o. and_then o (λ g. more_behind (groups spellings (read spellings types n) without m) g g.rest)) (read_group spellings types without ts ns ms d n t (us ++ rest) (inl (ap class s.is)) long)
      ∙ further spellings types (groups spellings (read spellings types n) without m) (record { names = ns; members = ms; rest = t ∷ (us ++ rest) }) t (us ++ rest) s (members_first spellings types without us os others rest f)))
      (front_joined ns os (record { names = ns; members = ms; rest = t ∷ (us ++ rest) }) (groups spellings (read spellings types n) without m (us ++ rest)) refl
      (members_front without us os others f n m rest (within_part ts t (us ++ rest) n long))))
      l

  -- ---- what breaks a rule

  member_first : (without : Bool) (ts : List Placed) (rule line : ℕ) → MisnamesMember spellings types without ts rule line → is_name_first ts ≡ true
  member_first without _ rule line (written.here {t = t} x d s e) = ap is_called (class_name t x)
  member_first without _ rule line (written.later {t = t} {ts = ts} {us = us} {ns = ns} {ms = ms} d s e) = type_first spellings types without ts ns ms (t ∷ us) d

  mutual
    pub misread_type : (ts : List Placed) (rule line : ℕ) → Misnames spellings types ts rule line → (n : ℕ) → length ts ≤ n → read spellings types n ts ≡ None
    misread_type _ _ _ (written.unknown {t = t} rest x e) n l =
        read_at spellings types n t rest None l (λ m b.
        ap (λ c. begin spellings types (read spellings types m) m c rest) (class_name t x)
        ∙ ap (λ o. and_then o (λ a. Some (a, rest))) e)
    misread_type _ _ _ (written.real {t = t} rest w) n l =
        read_at spellings types n t rest None l (λ m b. ap (λ k. begin spellings types (read spellings types m) m (class k) rest) w.is)
    misread_type _ _ _ (written.double_real {t = t} rest w) n l =
        read_at spellings types n t rest None l (λ m b. ap (λ k. begin spellings types (read spellings types m) m (class k) rest) w.is)
    misread_type _ rule line (written.in_elements {t = t} {u = u} {make = make} {ts = ts} w s d) n l =
        read_at spellings types n t (u ∷ ts) None l (λ m b.
        opens_sequence spellings types (read spellings types m) m t u make ts w s
        ∙ ap (λ o. and_then o (close_sequence make)) (misread_type ts rule line d m (omega arith)))
    misread_type _ _ _ (written.deep_sequence {t = t} {u = u} {v = v} {make = make} {ts = ts} {a = a} rest w s d e h) n l =
        read_at spellings types n t (u ∷ (ts ++ (v ∷ rest))) None l (λ m b.
        opens_sequence spellings types (read spellings types m) m t u make (ts ++ (v ∷ rest)) w s
        ∙ ap (λ o. and_then o (close_sequence make)) (read_type spellings types ts a d m (v ∷ rest) (omega arith))
        ∙ closes_sequence spellings types make a v rest e
        ∙ kept_deep (make a) rest h)
    misread_type _ rule line (written.in_members {t = t} {u = u} {without = without} {make = make} {ts = ts} w s d) n l =
        read_at spellings types n t (u ∷ ts) None l (λ m b.
        opens_group spellings types (read spellings types m) m t u without make ts w s
        ∙ ap (λ o. and_then o (close_group make)) (misread_member without ts rule line d m m (omega arith)))
    misread_type _ _ _ (written.deep_members {t = t} {u = u} {v = v} {without = without} {make = make} {ts = ts} {ns = ns} {ms = ms} rest w s d e h) n l =
        read_at spellings types n t (u ∷ (ts ++ (v ∷ rest))) None l (λ m b.
        opens_group spellings types (read spellings types m) m t u without make (ts ++ (v ∷ rest)) w s
        ∙ ap (λ o. and_then o (close_group make)) (read_members spellings types without ts ns ms d m m v rest e (omega arith) (omega arith))
        ∙ closes_group spellings types make ns ms v rest e
        ∙ record_deep (once (names_of ns)) (make ms) rest h)
    misread_type _ _ line (written.member_twice {t = t} {u = u} {without = without} {make = make} {ts = ts} {ns = ns} {ms = ms} rest w s d tw) n l =
        read_at spellings types n t (u ∷ (ts ++ rest)) None l (λ m b.
        opens_group spellings types (read spellings types m) m t u without make (ts ++ rest) w s
        ∙ twice_closes ns line (groups spellings (read spellings types m) without m (ts ++ rest)) make tw (members_front without ts ns ms d m m rest (omega arith)))

    pub misread_member : (without : Bool) (ts : List Placed) (rule line : ℕ) → MisnamesMember spellings types without ts rule line
        → (n m : ℕ) → length ts ≤ n → groups spellings (read spellings types n) without m ts ≡ None
    misread_member without ts rule line d n zero l = refl
    misread_member without _ rule line (written.here {t = t} {u = u} {ts = ts} {us = us} {ns = ns} x d s e) n (suc m) l =
        ap (λ o. and_then o (λ g. more_behind (groups spellings (read spellings types n) without m) g g.rest))
        (colon_behind spellings types (read spellings types n) without t ts ns u us x d s
        ∙ ap (λ o. and_then o (λ p. group_of spellings p.0 (named t ∷ ns) p.1)) (misread_type us rule line e n (within_part (t ∷ ts) u us n l)))
    misread_member without _ rule line (written.later {t = t} {ts = ts} {us = us} {ns = ns} {ms = ms} d s e) n (suc m) l =
        ap (λ o. and_then o (λ g. more_behind (groups spellings (read spellings types n) without m) g g.rest)) (read_group spellings types without ts ns ms d n t us (inl (ap class s.is)) l)
        ∙ further spellings types (groups spellings (read spellings types n) without m) (record { names = ns; members = ms; rest = t ∷ us }) t us s (member_first without us rule line e)
        ∙ ap (λ o. and_then o (λ h. Some (joined (record { names = ns; members = ms; rest = t ∷ us }) h))) (misread_member without us rule line e n m (within_part ts t us n l))
