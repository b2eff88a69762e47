-- What is answered for an edge that may take.
use Rattle.std.proofs.Common.{◌≡◌, ◌≢◌, ◌∙◌, ℕ, ◌<◌, ◌≤◌, zero, suc, Bool, true, false, not, ◌&&◌, ◌||◌, cond, if◌then◌else◌, List, [], ◌∷◌, length, slice_index, map, filter, All, Contains, MatchBool, inl, inr, arith, refl, sym, ap, subst, ◌==◌}
use Rattle.std.specs.Prelude.{nat_lt}
use Rattle.std.specs.List.{list_any}
use Rattle.std.proofs.lemmas.Bool.{or_cases, or_left, and_parts, and_from, eq-eqb, ne_eqb, not_from_false, not-true}
use Rattle.std.proofs.lemmas.List.Elements.{Contains-get_or, All-contains, All-weaker, All-contains_itself}
use Rattle.if1_graph.specs.declared.graph.Edge.{Edge}
use Rattle.if1_graph.specs.declared.graph.Graph.{Graph}
use Rattle.if1_graph.specs.declared.graph.Graph.TheViews.{out-Graph}
use Rattle.if1_graph.specs.declared.graph.Origin.{Origin}
use Rattle.if1_graph.specs.declared.graph.Origin.TheVariants.{Port, Lit}
use Rattle.if1_graph.specs.Units.{ends}
use Rattle.if1_order.specs.Orders.{node_labels}
use Rattle.if1_order.specs.Walks.{Lists}
use Rattle.if1_marks.specs.Owned.{leaving}
use Rattle.if1_marks.proofs.Lists.{here, there}
use Rattle.if1_marks.proofs.Tests.{same-number, any-found, any-there, no-both}
use Rattle.marks_made.specs.Ways.{Leads}
use Rattle.marks_made.specs.Made.{Orders, Answer, Kept, Taken, Twice, Blocked, is_taken, links, precedes, is_edge, is_order, others, is_twice, is_before, is_blocked, ordered, answer, after}
use Rattle.marks_made.proofs.Ways.{by-sound, by-complete}
use Rattle.marks_made.proofs.Lists.{passed}
use Rattle.marks_made.proofs.Steps.{Inv, ends-there, none-ordered}
use Rattle.if1_reach.specs.Paths.{IsPath}
use Rattle.if1_reach.specs.Users.{users_in}
use Rattle.take_marks.specs.declared.why.Why.{Why}
use Rattle.take_marks.specs.declared.why.Why.TheVariants as why
use Rattle.take_marks.specs.Standing.{Stands, AreRising, top}
use Rattle.take_marks.specs.Judged.{IsRow, IsLookedAt, IsAnswered, AreThere, AreOthers, IsTriedAs}
use Rattle.take_marks.proofs.Tried.{path-leads}

leaving-users : (g : Graph) (o : Origin) → map (λ (e : Edge). e.node) (leaving g o) ≡ users_in (out-Graph g).edges o
leaving-users g (Port l port) = refl
leaving-users g (Lit text) = refl

over-filter : (p : ℕ → Bool) (es : List Edge) → map (λ (e : Edge). e.node) (filter (λ (e : Edge). p e.node) es) ≡ filter p (map (λ (e : Edge). e.node) es)
over-filter p [] = refl
over-filter p (e ∷ es) = go (p e.node) (over-filter p es)
  where
    go : (b : Bool) → map (λ (e : Edge). e.node) (filter (λ (e : Edge). p e.node) es) ≡ filter p (map (λ (e : Edge). e.node) es) →
        map (λ (e : Edge). e.node) (cond b (e ∷ filter (λ (e : Edge). p e.node) es) (filter (λ (e : Edge). p e.node) es)) ≡ cond b (e.node ∷ filter p (map (λ (e : Edge). e.node) es)) (filter p (map (λ (e : Edge). e.node) es))
    go true h = ap (λ xs. e.node ∷ xs) h
    go false h = h

same-length : (es : List Edge) → length (map (λ (e : Edge). e.node) es) ≡ length es
same-length [] = refl
same-length (e ∷ es) = ap suc (same-length es)

-- ---- rows

row-filter : (p : ℕ → Bool) (ls : List ℕ) → IsRow ls → IsRow (filter p ls)
row-filter p [] r = tt
row-filter p (x ∷ xs) r = go (p x) (row-filter p xs r.1)
  where
    go : (b : Bool) → IsRow (filter p xs) → IsRow (cond b (x ∷ filter p xs) (filter p xs))
    go true rest = ((λ y c ne. r.0 y (passed p xs y c).0 ne), rest)
    go false rest = rest

row-rising : (ls : List ℕ) → IsRow ls → ((l : ℕ) → Contains ls l → l ≢ 0) → AreRising ls
row-rising ls r ne =
    record {
      least = λ k h. let z = ne (slice_index ls k) (Contains-get_or ls k 0 h) in omega (arith, z);
      up = λ i j le h. rises ls r ne i j le h;
    }
  where
    rises : (ls : List ℕ) → IsRow ls → ((l : ℕ) → Contains ls l → l ≢ 0) → (i j : ℕ) → i ≤ j → j < length ls → slice_index ls i ≤ slice_index ls j
    rises [] r ne i j le h = absurd (omega (arith, h))
    rises (x ∷ xs) r ne zero zero le h = omega arith
    rises (x ∷ xs) r ne zero (suc j) le h =
        let c = Contains-get_or xs j 0 (omega (arith, h)) in
        (r.0 (slice_index xs j) c (ne (slice_index xs j) (there x xs (slice_index xs j) c))).1
    rises (x ∷ xs) r ne (suc i) zero le h = absurd (omega (arith, le))
    rises (x ∷ xs) r ne (suc i) (suc j) le h = rises xs r.1 (λ l c. ne l (there x xs l c)) i j (omega (arith, le)) (omega (arith, h))

none-any : (p : ℕ → Bool) (ls : List ℕ) → ((l : ℕ) → Contains ls l → p l ≡ false) → list_any p ls ≡ false
none-any p [] h = refl
none-any p (l ∷ ls) h = ap (λ b. b || list_any p ls) (h l (here l ls)) ∙ none-any p ls (λ m c. h m (there l ls m c))

-- ---- for an edge

module _ (g : Graph) (may : Edge → Bool) (os : Orders) (e : Edge) (users : List ℕ) (node : ℕ) (w : IsLookedAt g may os e users node) where
  inv : Inv g may w.markable os
  inv = record { named = w.sound.named; acyclic = w.sound.acyclic }

  nodes-are : map (λ (f : Edge). f.node) (leaving g e.from) ≡ users
  nodes-are = leaving-users g e.from ∙ sym w.users_are

  twice-is : is_twice g e ≡ nat_lt 1 (length (filter (λ l. l == node) users))
  twice-is =
      ap (nat_lt 1)
      (sym (same-length (filter (λ f. f.node == e.node) (leaving g e.from)))
      ∙ (ap length (over-filter (λ l. l == e.node) (leaving g e.from))
      ∙ (ap (λ ls. length (filter (λ l. l == e.node) ls)) nodes-are ∙ ap (λ n. length (filter (λ l. l == n) users)) w.leads)))

  pub others-are : others g e ≡ filter (λ l. not (l == node)) users
  others-are =
      over-filter (λ l. not (l == e.node)) (leaving g e.from)
      ∙ (ap (filter (λ l. not (l == e.node))) nodes-are ∙ ap (λ n. filter (λ l. not (l == n)) users) w.leads)

  is-answer : (tw bl : Bool) → is_twice g e ≡ tw → is_blocked g os e ≡ bl → answer g may os e ≡ (if tw then Twice else if bl then Blocked else Taken)
  is-answer tw bl a b =
      ap (λ m. if not m then Kept else if is_twice g e then Twice else if is_blocked g os e then Blocked else Taken) w.may_take
      ∙ (ap (λ x. if x then Twice else if is_blocked g os e then Blocked else Taken) a ∙ ap (λ x. if tw then Twice else if x then Blocked else Taken) b)

  after-is : (a : Answer) → answer g may os e ≡ a → after g may os e ≡ (if is_taken a then ordered g e.node (others g e) os else os)
  after-is a h = ap (λ x. if is_taken x then ordered g e.node (others g e) os else os) h

  module _ (lists : Lists) (befores : List (List ℕ)) where
    pub judged-twice : nat_lt 1 (length (filter (λ l. l == node) users)) ≡ true → Stands g os lists befores → IsAnswered g may os e lists befores why.Twice
    judged-twice tw stands =
        let a = is-answer true (is_blocked g os e) (twice-is ∙ tw) refl in
        record { is = a; stands = subst (λ o. Stands g o lists befores) (sym (after-is Twice a)) stands; way = tt }

    pub judged-last : nat_lt 1 (length (filter (λ l. l == node) users)) ≡ false → node ≡ 0 → Stands g os lists befores → IsAnswered g may os e lists befores why.Taken
    judged-last tw z stands =
        let zero-node : e.node ≡ 0 = w.leads ∙ z in
        let bl = none-any (is_before g os e.node) (others g e) (λ l c. ap (λ b. not b && ((l == 0) || precedes g os e.node l)) (eq-eqb e.node 0 zero-node)) in
        let a = is-answer false false (twice-is ∙ tw) bl in
        record { is = a; stands = subst (λ o. Stands g o lists befores) (sym (after-is Taken a ∙ none-ordered g may w.markable e.node zero-node (others g e) os)) stands; way = tt }

    pub judged-stopped : nat_lt 1 (length (filter (λ l. l == node) users)) ≡ false → node ≢ 0 → (ls path : List ℕ) → ls ≡ filter (λ l. not (l == node)) users → Contains ls 0 → path ≡ node ∷ 0 ∷ [] → Stands g os lists befores →
        IsAnswered g may os e lists befores (why.Blocked path)
    judged-stopped tw ne ls path is c p stands =
        let d : Contains (others g e) 0 = subst (λ xs. Contains xs 0) (is ∙ sym others-are) c in
        let inner : e.node ≢ 0 = λ z. ne (sym w.leads ∙ z) in
        let bl = any-there (is_before g os e.node) (others g e) 0 d
        (and_from (not (e.node == 0)) ((0 == 0) || precedes g os e.node 0) (not_from_false (e.node == 0) (ne_eqb e.node 0 inner)) (or_left (0 == 0) (precedes g os e.node 0) refl)) in
        let a = is-answer false true (twice-is ∙ tw) bl in
        record {
          is = a;
          stands = subst (λ o. Stands g o lists befores) (sym (after-is Blocked a)) stands;
          way = record { user = 0; there = d; way = p ∙ ap (λ n. n ∷ 0 ∷ []) (sym w.leads) };
        }

  -- the other users are nodes
  module _ (tw : nat_lt 1 (length (filter (λ l. l == node) users)) ≡ false) (ne : node ≢ 0) (ls : List ℕ) (is : ls ≡ filter (λ l. not (l == node)) users) (no-end : ¬ Contains ls 0) where
    not-zero : (l : ℕ) → Contains ls l → l ≢ 0
    not-zero l c z = no-end (subst (Contains ls) z c)

    targets : (l m : ℕ) → links g os l m ≡ true → Contains (node_labels g) l × Contains (node_labels g) m
    targets l m h =
        elim (or_cases (list_any (is_edge l m) (out-Graph g).edges) (list_any (is_order l m) os) h) [
          | inl x ↦
              let r = any-found (is_edge l m) (out-Graph g).edges x in
              let q = and_parts _ ((r.0.node == m) && not (m == 0)) r.2 in
              let s = and_parts (r.0.node == m) (not (m == 0)) q.1 in
              let nm : r.0.node ≡ m = same-number r.0.node m s.0 in
              (w.sources l m x, subst (Contains (node_labels g)) nm (w.markable.there r.0 r.1 (λ z. no-both (m == 0) (eq-eqb m 0 (sym nm ∙ z)) (not-true (m == 0) s.1))))
          | inr x ↦
              let r = any-found (is_order l m) os x in
              let q = and_parts (r.0.0 == l) (r.0.1 == m) r.2 in
              let n = w.sound.named r.0 r.1 in
              (subst (Contains (node_labels g)) (same-number r.0.0 l q.0) n.0, subst (Contains (node_labels g)) (same-number r.0.1 m q.1) n.1)
        ]

    pub are-others : ((l : ℕ) → Contains users l → l ≤ top) → AreOthers g os ls node
    are-others least =
        record {
          rising = w.rising;
          linked = targets;
          sound = w.sound;
          inner = ne;
          up = row-rising ls (subst IsRow (sym is) (row-filter (λ l. not (l == node)) users w.row)) not-zero;
          few = λ k h. least (slice_index ls k) (passed (λ l. not (l == node)) users (slice_index ls k) (subst (λ xs. Contains xs (slice_index ls k)) is (Contains-get_or ls k 0 h))).0;
        }

    inner : e.node ≢ 0
    inner z = ne (sym w.leads ∙ z)

    pub judged-tried : (lists : Lists) (befores : List (List ℕ)) (y : Why) → IsTriedAs g may os ls node lists befores y → IsAnswered g may os e lists befores y
    judged-tried lists befores why.Taken (free, stands) =
        let bl = none-any (is_before g os e.node) (others g e) clear in
        let a = is-answer false false (twice-is ∙ tw) bl in
        record {
          is = a;
          stands = subst (λ o. Stands g o lists befores) (sym (after-is Taken a ∙ (ap (λ n. ordered g n (others g e) os) w.leads ∙ ap (λ xs. ordered g node xs os) (others-are ∙ sym is)))) stands;
          way = tt;
        }
      where
        by : (l : ℕ) → Contains ls l → (b : Bool) → precedes g os node l ≡ b → b ≡ false
        by l c true h = absurd (free l c (by-sound (links g os) (ends g) node l h))
        by l c false h = refl

        clear : (l : ℕ) → Contains (others g e) l → is_before g os e.node l ≡ false
        clear l c =
            let d : Contains ls l = subst (λ xs. Contains xs l) (others-are ∙ sym is) c in
            ap (λ n. not (n == 0) && ((l == 0) || precedes g os n l)) w.leads
            ∙ (ap (λ b. not (node == 0) && (b || precedes g os node l)) (ne_eqb l 0 (not-zero l d))
            ∙ (ap (λ b. not (node == 0) && b) (by l d (precedes g os node l) refl) ∙ off (not (node == 0))))
          where
            off : (b : Bool) → (b && false) ≡ false
            off true = refl
            off false = refl
    judged-tried lists befores (why.Blocked path) ((l, c, p), stands) =
        let d : Contains (others g e) l = subst (λ xs. Contains xs l) (is ∙ sym others-are) c in
        let leads : Leads (links g os) e.node l = subst (λ n. Leads (links g os) n l) (sym w.leads) (path-leads (links g os) node l path p) in
        let bl = any-there (is_before g os e.node) (others g e) l d
        (and_from (not (e.node == 0)) ((l == 0) || precedes g os e.node l) (not_from_false (e.node == 0) (ne_eqb e.node 0 inner))
        (ap (λ b. b || precedes g os e.node l) (ne_eqb l 0 (not-zero l c)) ∙ by-complete (links g os) (ends g) (ends-there g may w.markable os inv) leads)) in
        let a = is-answer false true (twice-is ∙ tw) bl in
        record {
          is = a;
          stands = subst (λ o. Stands g o lists befores) (sym (after-is Blocked a)) stands;
          way = record { user = l; there = d; way = subst (λ b. MatchBool b (path ≡ e.node ∷ 0 ∷ []) (IsPath (links g os) e.node l path)) (sym (ne_eqb l 0 (not-zero l c))) (subst (λ n. IsPath (links g os) n l path) (sym w.leads) p) };
        }
    judged-tried lists befores why.Kept h = absurd h
    judged-tried lists befores why.Twice h = absurd h

-- ---- what is there

pub others-there : (labels users ls : List ℕ) (node : ℕ) → AreThere labels users → ls ≡ filter (λ l. not (l == node)) users → ¬ Contains ls 0 → All (Contains labels) ls
others-there labels users ls node all is no-end =
    All-weaker (Contains ls) (Contains labels)
    (λ l c. All-contains (λ l. l ≢ 0 → Contains labels l) users l all (passed (λ l. not (l == node)) users l (subst (λ xs. Contains xs l) is c)).0 (λ z. no-end (subst (Contains ls) z c)))
    ls (All-contains_itself ls)

pub others-other : (users ls : List ℕ) (node : ℕ) → ls ≡ filter (λ l. not (l == node)) users → All (λ l. l ≢ node) ls
others-other users ls node is =
    All-weaker (Contains ls) (λ l. l ≢ node)
    (λ l c same. no-both (l == node) (eq-eqb l node same) (not-true (l == node) (passed (λ l. not (l == node)) users l (subst (λ xs. Contains xs l) is c)).1))
    ls (All-contains_itself ls)
