-- Who is to blame that an edge may not take, by the users of its port.
use Rattle.std.proofs.Common.{◌≡◌, ◌≢◌, ◌∙◌, ℕ, ◌+◌, ◌<◌, suc, Bool, true, false, cond, List, [], ◌∷◌, ◌++◌, length, map, filter, take, get_or, slice_index, Option, Some, None, ◌⊎◌, inl, inr, Contains, All, arith, refl, sym, ap, subst, ◌==◌}
use Rattle.std.proofs.lemmas.Bool.{and_parts, and_from, eq-eqb}
use Rattle.std.proofs.lemmas.List.{get_or-map}
use Rattle.std.proofs.lemmas.List.Elements.{All-weaker, All-more}
use Rattle.if1_graph.specs.declared.graph.Edge.{Edge}
use Rattle.if1_graph.specs.declared.graph.Graph.{Graph}
use Rattle.if1_graph.specs.declared.graph.Graph.TheViews.{out-Graph}
use Rattle.if1_graph.specs.declared.graph.Origin.{Origin}
use Rattle.if1_graph.specs.declared.graph.Origin.TheVariants.{Port, Lit}
use Rattle.if1_graph.specs.declared.graph.Unit1.{Unit1}
use Rattle.if1_graph.specs.Ports.{leaves}
use Rattle.if1_graph.specs.Units.{Home, Place}
use Rattle.if1_order.specs.Walks.{Lists, Leads}
use Rattle.if1_marks.specs.Given.{is_consuming}
use Rattle.if1_marks.specs.Owned.{leaving, is_owned}
use Rattle.if1_marks.specs.Sound.{MayTake, edges_to_its_node}
use Rattle.if1_marks.specs.Orders.{ComesBefore}
use Rattle.if1_marks.specs.Faults.{IsToBlame, may_not, twice, takes_too, not_before}
use Rattle.if1_marks.proofs.Lists.{in-none, in-mapped, in-filter}
use Rattle.if1_marks.proofs.Tests.{same-number, no-both, one-only}
use Rattle.if1_marks.proofs.Taken.{in-leaving}
use Rattle.marks_made.proofs.Lists.{from-mapped, passed}
use Rattle.marks_made.specs.Units.{is_candidate}
use Rattle.if1_reach.specs.declared.users.PortUsers.{PortUsers}
use Rattle.if1_reach.specs.Users.{users_in}
use Rattle.mark_check.specs.Entries.{IsNetOf}
use Rattle.mark_check.specs.Late.{IsInOrder, IsAfter}
use Rattle.mark_check.specs.Least.{IsLeast, IsAmong, lesser_of}
use Rattle.mark_check.specs.Takers.{IsWrongTaker, IsReaderAt, IsReader, IsOwnFault, IsLookedAt, IsFirstTaker, taking}
use Rattle.mark_check.proofs.Lesser.{least-same, least-both}
use Rattle.mark_check.proofs.Wrong.{first-here, by-labels}

abbrev node-of : Edge → ℕ
node-of e = e.node

-- ---- users of a port

leaving-users : (g : Graph) (o : Origin) → map node-of (leaving g o) ≡ users_in (out-Graph g).edges o
leaving-users g (Port l port) = refl
leaving-users g (Lit text) = refl

count-users : (n : ℕ) (es : List Edge) → length (filter (λ m. m == n) (map node-of es)) ≡ length (filter (λ f. f.node == n) es)
count-users n [] = refl
count-users n (e ∷ es) = go (e.node == n) (count-users n es)
  where
    go : (b : Bool) → length (filter (λ m. m == n) (map node-of es)) ≡ length (filter (λ f. f.node == n) es) →
        length (cond b (e.node ∷ filter (λ m. m == n) (map node-of es)) (filter (λ m. m == n) (map node-of es))) ≡ length (cond b (e ∷ filter (λ f. f.node == n) es) (filter (λ f. f.node == n) es))
    go true h = ap suc h
    go false h = h

-- a taker is an edge from the port that takes
taker-edge : (g : Graph) (o : Origin) (l : ℕ) → Contains (users_in (taking (out-Graph g).edges) o) l → (f : Edge) × Contains (leaving g o) f × (f.takes ≡ true) × (f.node ≡ l)
taker-edge g (Port n port) l c =
    let r = from-mapped node-of (filter (λ e. leaves n port e.from) (taking (out-Graph g).edges)) l c in
    let q = passed (λ e. leaves n port e.from) (taking (out-Graph g).edges) r.0 r.1 in
    let s = passed (λ e. e.takes) (out-Graph g).edges r.0 q.0 in
    (r.0, in-filter (λ e. leaves n port e.from) (out-Graph g).edges r.0 s.0 q.1, s.1, r.2)
taker-edge g (Lit text) l c = in-none l c

edge-taker : (g : Graph) (o : Origin) (f : Edge) → Contains (leaving g o) f → f.takes ≡ true → Contains (users_in (taking (out-Graph g).edges) o) f.node
edge-taker g (Port n port) f h also =
    let q = passed (λ e. leaves n port e.from) (out-Graph g).edges f h in
    in-mapped node-of (filter (λ e. leaves n port e.from) (taking (out-Graph g).edges)) f
    (in-filter (λ e. leaves n port e.from) (taking (out-Graph g).edges) f (in-filter (λ e. e.takes) (out-Graph g).edges f q.0 also) q.1)
edge-taker g (Lit text) f h also = in-none f h

-- ---- one edge

module _ (u : Unit1) (p : Place) (e : Edge) (there : Contains (out-Graph p.graph).edges e) (users takers : List ℕ) (users-are : users ≡ users_in (out-Graph p.graph).edges e.from)
    (takers-are : takers ≡ users_in (taking (out-Graph p.graph).edges) e.from) (may : Bool) (may-is : may ≡ is_candidate u p e) where
  fellows : List Edge
  fellows = leaving p.graph e.from

  nodes-are : users ≡ map node-of (leaving p.graph e.from)
  nodes-are = users-are ∙ sym (leaving-users p.graph e.from)

  count : length (filter (λ m. m == e.node) users) ≡ edges_to_its_node p.graph e
  count = ap (λ xs. length (filter (λ m. m == e.node) xs)) nodes-are ∙ count-users e.node (leaving p.graph e.from)

  may-take : may ≡ true → MayTake u p e
  may-take h = and_parts (is_consuming u p.graph e) (is_owned u p e.from) (sym may-is ∙ h)

  takes-may : MayTake u p e → may ≡ true
  takes-may m = may-is ∙ and_from (is_consuming u p.graph e) (is_owned u p e.from) m.0 m.1

  reader-blamed : (l : ℕ) → IsReader p.graph users takers e.node may l → IsToBlame u p e l
  reader-blamed l (inl (same, inl h)) = subst (IsToBlame u p e) (sym same) (may_not (λ m. no-both may (takes-may m) h))
  reader-blamed l (inl (same, inr ne)) = subst (IsToBlame u p e) (sym same) (twice (λ h. ne (count ∙ h)))
  reader-blamed l (inr (inl (c, ne))) =
      let r = taker-edge p.graph e.from l (subst (λ xs. Contains xs l) takers-are c) in
      subst (IsToBlame u p e) r.3 (takes_too r.0 r.1 (λ same. ne (sym r.3 ∙ ap node-of same)) r.2)
  reader-blamed l (inr (inr (c, (ne, nb)))) =
      let r = from-mapped node-of (leaving p.graph e.from) l (subst (λ xs. Contains xs l) nodes-are c) in
      subst (IsToBlame u p e) r.2 (not_before r.0 r.1 (λ same. ne (sym r.2 ∙ same)) (λ b. nb (subst (λ m. ComesBefore p.graph m e.node) r.2 b)))

  its-own : (b : Bool) → may ≡ b → (b ≡ true → length (filter (λ m. m == e.node) users) ≢ 1) → IsOwnFault users e.node may e.node
  its-own true h ne = (refl, inr (ne refl))
  its-own false h ne = (refl, inl h)

  not-may : (b : Bool) → may ≡ b → ¬ MayTake u p e → may ≡ false
  not-may true h never = absurd (never (may-take h))
  not-may false h never = h

  blamed-reader : {l : ℕ} → IsToBlame u p e l → IsReader p.graph users takers e.node may l
  blamed-reader (may_not never) = inl (refl, inl (not-may may refl never))
  blamed-reader (twice ne) = inl (refl, inr (λ h. ne (sym count ∙ h)))
  blamed-reader (takes_too f h other also) = go (f.node == e.node) refl
    where
      alone : f.node ≡ e.node → may ≡ true → length (filter (λ m. m == e.node) users) ≢ 1
      alone same h-may one =
          other (one-only (filter (λ f. f.node == e.node) (leaving p.graph e.from)) f e (sym count ∙ one)
          (in-filter (λ f. f.node == e.node) (leaving p.graph e.from) f h (eq-eqb f.node e.node same))
          (in-filter (λ f. f.node == e.node) (leaving p.graph e.from) e (in-leaving u p e.from e (may-take h-may).1 there refl) (eq-eqb e.node e.node refl)))

      go : (b : Bool) → (f.node == e.node) ≡ b → IsReader p.graph users takers e.node may f.node
      go true same =
          let is = same-number f.node e.node same in
          subst (IsReader p.graph users takers e.node may) (sym is) (inl (its-own may refl (alone is)))
      go false differ =
          inr (inl (subst (λ xs. Contains xs f.node) (sym takers-are) (edge-taker p.graph e.from f h also), λ same. no-both (f.node == e.node) (eq-eqb f.node e.node same) differ))
  blamed-reader (not_before f h ne nb) =
      inr (inr (subst (λ xs. Contains xs f.node) (sym nodes-are) (in-mapped node-of (leaving p.graph e.from) f h), (ne, nb)))

  pub reader-found : e.takes ≡ true → (r : Option ℕ) → IsLeast (IsReader p.graph users takers e.node may) r → IsReaderAt u p e r
  reader-found takes r w = go r (least-same (IsReader p.graph users takers e.node may) (IsToBlame u p e) reader-blamed (λ l x. blamed-reader x) r w)
    where
      go : (r : Option ℕ) → IsLeast (IsToBlame u p e) r → IsReaderAt u p e r
      go None none = λ x. none x.1.0 x.1.1
      go (Some l) x = (takes, x)

pub none-taken : (u : Unit1) (p : Place) (e : Edge) → e.takes ≡ false → IsReaderAt u p e None
none-taken u p e h = λ x. no-both e.takes x.0 h

-- ---- ways by places

pub no-circle : (g : Graph) (labels : List ℕ) (lists : Lists) → IsInOrder g → IsNetOf g labels lists → (s : ℕ) → s < length lists → ¬ Leads lists s s
no-circle g labels lists o w s h v =
    let at : s < length labels = omega (arith, h, w.net.fit, ap length w.is) in
    o.acyclic (slice_index labels s) (by-labels g labels lists w s s (slice_index labels s) at (at, refl) v)

-- ---- takers of a port

cond-push : (b : Bool) (es : List Edge) (e : Edge) (rest : List Edge) → (rest ≡ es ++ filter (λ f. f.takes) (e ∷ [])) → (x : Edge) → cond b (x ∷ rest) rest ≡ (cond b (x ∷ es) es ++ filter (λ f. f.takes) (e ∷ []))
cond-push true es e rest h x = ap (λ xs. x ∷ xs) h
cond-push false es e rest h x = h

taking-push : (es : List Edge) (e : Edge) → taking (es ++ e ∷ []) ≡ (taking es ++ taking (e ∷ []))
taking-push [] e = refl
taking-push (x ∷ es) e = cond-push x.takes (taking es) e (taking (es ++ e ∷ [])) (taking-push es e) x

pub taking-more : (es : List Edge) (e : Edge) → e.takes ≡ true → taking (es ++ e ∷ []) ≡ taking es ++ e ∷ []
taking-more es e h = taking-push es e ∙ ap (λ b. taking es ++ cond b (e ∷ []) []) h

pub taking-same : (es : List Edge) (e : Edge) → e.takes ≡ false → taking (es ++ e ∷ []) ≡ taking es
taking-same es e h = taking-push es e ∙ (ap (λ b. taking es ++ cond b (e ∷ []) []) h ∙ append-none (taking es))
  where
    append-none : (xs : List Edge) → (xs ++ []) ≡ xs
    append-none [] = refl
    append-none (x ∷ xs) = ap (λ ys. x ∷ ys) (append-none xs)

-- ---- readers

pub readers-found : (g : Graph) (users takers : List ℕ) (node : ℕ) (may : Bool) (own taker late others found : Option ℕ) → IsLeast (IsOwnFault users node may) own → IsLeast (IsAmong takers (λ m. m ≢ node)) taker → IsLeast (IsAmong users (IsAfter g node)) late →
    others ≡ lesser_of taker late → found ≡ lesser_of own others → IsLeast (IsReader g users takers node may) found
readers-found g users takers node may own taker late others found x y z e f =
    subst (IsLeast (IsReader g users takers node may)) (sym f)
    (least-both (IsOwnFault users node may) (λ l. IsAmong takers (λ m. m ≢ node) l ⊎ IsAmong users (IsAfter g node) l) own others x
    (subst (IsLeast (λ l. IsAmong takers (λ m. m ≢ node) l ⊎ IsAmong users (IsAfter g node) l)) (sym e)
    (least-both (IsAmong takers (λ m. m ≢ node)) (IsAmong users (IsAfter g node)) taker late y z)))

-- ---- the edges of a graph

pub all-untaken : (u : Unit1) (p : Place) (es : List Edge) → All (λ e. e.takes ≡ false) es → All (λ e. ¬ IsWrongTaker u p e) es
all-untaken u p es h = All-weaker (λ e. e.takes ≡ false) (λ e. ¬ IsWrongTaker u p e) (λ e untaken x. no-both e.takes x.0 untaken) es h

-- as the loop over the edges has it
module _ (g : Graph) (flags : List Bool) (labels : List ℕ) (lists : Lists) (users takers : PortUsers) (w : IsLookedAt g labels lists users takers) (items : List Edge) (is-items : items ≡ (out-Graph g).edges)
    (n : ℕ) (e : Edge) (h : n < length items) (is : e ≡ get_or items n e) where
  abbrev at : Home → Place
  at home = record { graph = g; home = home }

  lt : n < length (out-Graph g).edges
  lt = subst (λ es. n < length es) is-items h

  e-is : e ≡ get_or (out-Graph g).edges n e
  e-is = is ∙ ap (λ es. get_or es n e) is-items

  edge-there : Contains (out-Graph g).edges e
  edge-there = (n, lt, sym e-is)

  pub node-there : e.node ≢ 0 → Contains labels e.node
  node-there ne = subst (λ ls. Contains ls e.node) (sym w.net.is) (w.order.there e edge-there ne)

  module _ (found : Option ℕ) (reader : (u : Unit1) (p : Place) → IsLookedAt p.graph labels lists users takers → Contains (out-Graph p.graph).edges e → get_or flags n false ≡ is_candidate u p e → IsReaderAt u p e found) where
    reads : (u : Unit1) (home : Home) → flags ≡ map (is_candidate u (at home)) (out-Graph g).edges → IsReaderAt u (at home) e found
    reads u home f =
        reader u (at home) w edge-there
        (ap (λ xs. get_or xs n false) f ∙ (get_or-map (is_candidate u (at home)) (out-Graph g).edges n e false lt ∙ ap (is_candidate u (at home)) (sym e-is)))

    pub turn-bad : (l : ℕ) → found ≡ Some l → (u : Unit1) (home : Home) → flags ≡ map (is_candidate u (at home)) (out-Graph g).edges → All (λ e. ¬ IsWrongTaker u (at home) e) (take n (out-Graph g).edges) →
        IsFirstTaker u (at home) (record { node = e.node; port = e.port; reader = l })
    turn-bad l is-found u home f none =
        let r : IsReaderAt u (at home) e (Some l) = subst (IsReaderAt u (at home) e) is-found (reads u home f) in
        record {
          edge = e;
          first = first-here (IsWrongTaker u (at home)) (out-Graph g).edges n e e lt e-is none (r.0, (l, r.1.holds));
          node = refl;
          port = refl;
          reader = r.1;
        }

    pub turn-good : found ≡ None → (u : Unit1) (home : Home) → flags ≡ map (is_candidate u (at home)) (out-Graph g).edges → All (λ e. ¬ IsWrongTaker u (at home) e) (take n (out-Graph g).edges) →
        All (λ e. ¬ IsWrongTaker u (at home) e) (take (n + 1) (out-Graph g).edges)
    turn-good is-found u home f none =
        All-more (λ e. ¬ IsWrongTaker u (at home) e) (out-Graph g).edges n e lt none
        (subst (λ (x : Edge). ¬ IsWrongTaker u (at home) x) e-is (subst (IsReaderAt u (at home) e) is-found (reads u home f)))
