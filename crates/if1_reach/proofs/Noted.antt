-- What is noted of the users of ports, edge by edge.
use Rattle.std.proofs.Common.{◌≡◌, ◌≢◌, ◌∙◌, ℕ, ◌+◌, ◌<◌, Bool, true, false, ◌&&◌, ◌==◌, cond, if◌then◌else◌, List, [], ◌∷◌, ◌++◌, length, map, filter, set, slice_index_or, Option, Some, None, ◌⊎◌, inl, inr, arith, refl, sym, ap, eqb-true, eq-eqb}
use Rattle.std.specs.Map.{lookup}
use Rattle.std.proofs.lemmas.Bool.{and_parts, and_from}
use Rattle.std.proofs.lemmas.Option.{same_Some}
use Rattle.std.proofs.lemmas.List.{length-set, length_push, get_or_append_left, get_or_push, get_or-set_same, get_or-set_other}
use Rattle.if1_graph.specs.declared.graph.Edge.{Edge}
use Rattle.if1_graph.specs.declared.graph.Origin.TheVariants.{Port, Lit}
use Rattle.if1_graph.specs.Tables.{or_else}
use Rattle.if1_graph.specs.Ports.{leaves}
use Rattle.if1_marks.proofs.Tests.{no-both}
use Rattle.if1_reach.specs.declared.users.PortUsers.{PortUsers}
use Rattle.if1_reach.specs.Users.{users_in, group_at, group_users, users_at, AreGrouped, HasUsers}

pub lookup-push : {K V : Type 0} (p : K → Bool) (entries : List (K × V)) (k : K) (v : V) →
    lookup p (entries ++ (k, v) ∷ []) ≡ or_else (lookup p entries) (if p k then Some v else None)
lookup-push p [] k v = refl
lookup-push p (e ∷ entries) k v = go (p e.0) (lookup-push p entries k v)
  where
    go : (b : Bool) → lookup p (entries ++ (k, v) ∷ []) ≡ or_else (lookup p entries) (if p k then Some v else None) →
        (if b then Some e.1 else lookup p (entries ++ (k, v) ∷ [])) ≡ or_else (if b then Some e.1 else lookup p entries) (if p k then Some v else None)
    go true h = refl
    go false h = h

none-is : {A : Type 0} {B : Type 0} (b : B) → ◌≡◌ {A = Option B} None (Some b) → A
none-is b e = cc

same-port : (l p m q : ℕ) → ((l == m) && (p == q)) ≡ true → (l ≡ m) × (p ≡ q)
same-port l p m q h = let r = and_parts (l == m) (p == q) h in (eqb-true l m r.0, eqb-true p q r.1)

itself : (l p : ℕ) → ((l == l) && (p == p)) ≡ true
itself l p = and_from (l == l) (p == p) (eq-eqb l l refl) (eq-eqb p p refl)

-- ---- a group is begun

module _ (old new : PortUsers) (node port k : ℕ) (was : AreGrouped old) (free : group_at old node port ≡ None) (is-k : k ≡ length old.lists.items) (lists : new.lists.items ≡ old.lists.items ++ [] ∷ [])
    (groups : (l p : ℕ) → group_at new l p ≡ or_else (group_at old l p) (if (l == node) && (p == port) then Some k else None)) where
  here : group_at new node port ≡ Some k
  here = groups node port ∙ (ap (λ o. or_else o (if (node == node) && (port == port) then Some k else None)) free ∙ ap (λ b. if b then Some k else None) (itself node port))

  longer : length new.lists.items ≡ length old.lists.items + 1
  longer = ap length lists ∙ length_push old.lists.items []

  abbrev Old-or-new : ℕ → ℕ → ℕ → Type 0
  Old-or-new l p j = (group_at old l p ≡ Some j) ⊎ ((l ≡ node) × (p ≡ port) × (k ≡ j))

  cases : (l p j : ℕ) → group_at new l p ≡ Some j → Old-or-new l p j
  cases l p j h = go (group_at old l p) refl ((l == node) && (p == port)) refl (sym (groups l p) ∙ h)
    where
      go : (o : Option ℕ) → group_at old l p ≡ o → (b : Bool) → ((l == node) && (p == port)) ≡ b → or_else o (if b then Some k else None) ≡ Some j → Old-or-new l p j
      go (Some i) is b e h = inl (is ∙ h)
      go None is true e h = let r = same-port l p node port e in inr (r.0, r.1, same_Some k j h)
      go None is false e h = none-is j h

  begun : AreGrouped new
  begun =
      record {
        there = λ l p j h. elim (cases l p j h) [
          | inl o ↦ let a = was.there l p j o in omega (arith, a, longer)
          | inr n ↦ omega (arith, n.2, is-k, longer)
        ];
        apart = λ l p m q j h i. both l p m q j (cases l p j h) (cases m q j i);
      }
    where
      both : (l p m q j : ℕ) → Old-or-new l p j → Old-or-new m q j → (l ≡ m) × (p ≡ q)
      both l p m q j (inl a) (inl b) = was.apart l p m q j a b
      both l p m q j (inl a) (inr b) = let s = was.there l p j a in absurd (omega (arith, s, b.2, is-k))
      both l p m q j (inr a) (inl b) = let s = was.there m q j b in absurd (omega (arith, s, a.2, is-k))
      both l p m q j (inr a) (inr b) = (a.0 ∙ sym b.0, a.1 ∙ sym b.1)

  kept : (l p : ℕ) → users_at new l p ≡ users_at old l p
  kept l p = go (group_at old l p) refl ((l == node) && (p == port)) refl
    where
      go : (o : Option ℕ) → group_at old l p ≡ o → (b : Bool) → ((l == node) && (p == port)) ≡ b → users_at new l p ≡ users_at old l p
      go (Some j) is b e =
          let lt = was.there l p j is in
          ap (group_users new.lists.items) (groups l p ∙ ap (λ o. or_else o (if (l == node) && (p == port) then Some k else None)) is)
          ∙ (ap (λ xs. slice_index_or xs j []) lists ∙ (get_or_append_left old.lists.items ([] ∷ []) [] j lt ∙ sym (ap (group_users old.lists.items) is)))
      go None is true e =
          ap (group_users new.lists.items) (groups l p ∙ (ap (λ o. or_else o (if (l == node) && (p == port) then Some k else None)) is ∙ ap (λ b. if b then Some k else None) e))
          ∙ (ap (λ xs. slice_index_or xs k []) lists ∙ (get_or_push old.lists.items [] [] k (sym is-k) ∙ sym (ap (group_users old.lists.items) is)))
      go None is false e =
          ap (group_users new.lists.items) (groups l p ∙ (ap (λ o. or_else o (if (l == node) && (p == port) then Some k else None)) is ∙ ap (λ b. if b then Some k else None) e))
          ∙ sym (ap (group_users old.lists.items) is)

  pub group-begun : AreGrouped new × (group_at new node port ≡ Some k) × (k < length new.lists.items) × ((l p : ℕ) → users_at new l p ≡ users_at old l p)
  group-begun = (begun, here, omega (arith, is-k, longer), kept)

-- ---- a user is noted

module _ (old new : PortUsers) (node port k to : ℕ) (was : AreGrouped old) (group : group_at old node port ≡ Some k) (same : (l p : ℕ) → group_at new l p ≡ group_at old l p) (list : List ℕ) (is-list : list ≡ slice_index_or old.lists.items k [])
    (lists : new.lists.items ≡ set old.lists.items k (list ++ to ∷ [])) where
  there : k < length old.lists.items
  there = was.there node port k group

  grouped : AreGrouped new
  grouped =
      record {
        there = λ l p j h. let a = was.there l p j (sym (same l p) ∙ h) in omega (arith, a, ap length lists, length-set old.lists.items k (list ++ to ∷ []));
        apart = λ l p m q j h i. was.apart l p m q j (sym (same l p) ∙ h) (sym (same m q) ∙ i);
      }

  abbrev one : Bool → List ℕ
  one b = if b then to ∷ [] else []

  append-none : (xs : List ℕ) → xs ≡ xs ++ []
  append-none [] = refl
  append-none (x ∷ xs) = ap (λ ys. x ∷ ys) (append-none xs)

  are : (l p : ℕ) → users_at new l p ≡ users_at old l p ++ one ((node == l) && (port == p))
  are l p = go (group_at old l p) refl ((node == l) && (port == p)) refl
    where
      by : (o : Option ℕ) → group_at old l p ≡ o → users_at new l p ≡ group_users new.lists.items o
      by o is = ap (group_users new.lists.items) (same l p ∙ is)

      apart : (j : ℕ) → group_at old l p ≡ Some j → ((node == l) && (port == p)) ≡ false → j ≢ k
      apart j is e z =
          let r = was.apart node port l p k group (is ∙ ap Some z) in
          no-both ((node == l) && (port == p)) (and_from (node == l) (port == p) (eq-eqb node l r.0) (eq-eqb port p r.1)) e

      go : (o : Option ℕ) → group_at old l p ≡ o → (b : Bool) → ((node == l) && (port == p)) ≡ b → users_at new l p ≡ users_at old l p ++ one ((node == l) && (port == p))
      go o is true e =
          let r = same-port node port l p e in
          let here : group_at old l p ≡ Some k = ap (λ z. group_at old z p) (sym r.0) ∙ (ap (group_at old node) (sym r.1) ∙ group) in
          by (Some k) here
          ∙ (ap (λ xs. slice_index_or xs k []) lists ∙ (get_or-set_same old.lists.items k (list ++ to ∷ []) [] there
          ∙ (ap (λ xs. xs ++ to ∷ []) (is-list ∙ sym (ap (group_users old.lists.items) here)) ∙ ap (λ b. users_at old l p ++ one b) (sym e))))
      go (Some j) is false e =
          by (Some j) is
          ∙ (ap (λ xs. slice_index_or xs j []) lists ∙ (get_or-set_other old.lists.items k j (list ++ to ∷ []) [] (apart j is e)
          ∙ (sym (ap (group_users old.lists.items) is) ∙ (append-none (users_at old l p) ∙ ap (λ b. users_at old l p ++ one b) (sym e)))))
      go None is false e =
          by None is ∙ (sym (ap (group_users old.lists.items) is) ∙ (append-none (users_at old l p) ∙ ap (λ b. users_at old l p ++ one b) (sym e)))

  pub user-noted : AreGrouped new × ((l p : ℕ) → users_at new l p ≡ users_at old l p ++ one ((node == l) && (port == p)))
  user-noted = (grouped, are)

-- ---- edge by edge

users-push : (l p : ℕ) (es : List Edge) (e : Edge) → users_in (es ++ e ∷ []) (Port l p) ≡ users_in es (Port l p) ++ (if leaves l p e.from then e.node ∷ [] else [])
users-push l p [] e = go (leaves l p e.from)
  where
    go : (b : Bool) → map (λ (e : Edge). e.node) (cond b (e ∷ []) []) ≡ (if b then e.node ∷ [] else [])
    go true = refl
    go false = refl
users-push l p (f ∷ es) e = go (leaves l p f.from) (users-push l p es e)
  where
    go : (b : Bool) → users_in (es ++ e ∷ []) (Port l p) ≡ users_in es (Port l p) ++ (if leaves l p e.from then e.node ∷ [] else []) →
        map (λ (e : Edge). e.node) (cond b (f ∷ filter (λ e. leaves l p e.from) (es ++ e ∷ [])) (filter (λ e. leaves l p e.from) (es ++ e ∷ [])))
        ≡ map (λ (e : Edge). e.node) (cond b (f ∷ filter (λ e. leaves l p e.from) es) (filter (λ e. leaves l p e.from) es)) ++ (if leaves l p e.from then e.node ∷ [] else [])
    go true h = ap (λ ys. f.node ∷ ys) h
    go false h = h

pub edge-noted : (old new : PortUsers) (node port : ℕ) (es : List Edge) (e : Edge) → e.from ≡ Port node port → AreGrouped new →
    ((l p : ℕ) → users_at new l p ≡ users_at old l p ++ (if (node == l) && (port == p) then e.node ∷ [] else [])) → HasUsers es old → HasUsers (es ++ e ∷ []) new
edge-noted old new node port es e from grouped are was =
    record {
      grouped = grouped;
      are = λ l p.
          are l p
          ∙ (ap (λ xs. xs ++ (if (node == l) && (port == p) then e.node ∷ [] else [])) (was.are l p)
          ∙ (ap (λ o. users_in es (Port l p) ++ (if leaves l p o then e.node ∷ [] else [])) (sym from) ∙ sym (users-push l p es e)));
    }

pub literal-noted : (users : PortUsers) (es : List Edge) (e : Edge) (text : List ℕ) → e.from ≡ Lit text → HasUsers es users → HasUsers (es ++ e ∷ []) users
literal-noted users es e text from was =
    record {
      grouped = was.grouped;
      are = λ l p. was.are l p ∙ (none (users_in es (Port l p)) ∙ (ap (λ o. users_in es (Port l p) ++ (if leaves l p o then e.node ∷ [] else [])) (sym from) ∙ sym (users-push l p es e)));
    }
  where
    none : (xs : List ℕ) → xs ≡ xs ++ []
    none [] = refl
    none (x ∷ xs) = ap (λ ys. x ∷ ys) (none xs)
