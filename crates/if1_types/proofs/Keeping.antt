-- Trees by number, with one more.
use Rattle.std.proofs.Common.{◌≡◌, ℕ, zero, suc, ◌+◌, ◌<◌, ◌≤◌, Bool, true, false, ◌&&◌, nat_eq, List, [], ◌∷◌, ◌++◌, length, get_or, slice_get, position, Option, Some, None, if◌then◌else◌, refl, sym, ap, ◌∙◌, subst, arith, append_assoc, ◌⊎◌, inl, inr, true≢false, eqb-true, ◌≢◌}
use Rattle.std.proofs.lemmas.List.{length-append, length-map, map-append}
use Rattle.std.specs.Map.{keys_of}
use Rattle.indexmap.specs.IndexMap.{insert_entry}
use Rattle.std.proofs.lemmas.Option.{slice_get_within}
use Rattle.std.proofs.lemmas.Bool.{eq-eqb}
use Rattle.type_table.proofs.Lists.{IsEarlier, IsLast, which, found, none_found, not_among, insert_last}
use Rattle.if1_types.specs.Trees.{Tree, leaf, node, over, over_both}
use Rattle.if1_types.specs.Shapes.{Key, key_eq, tree_at, key_tree, trees_onto, trees_in, members_in, key_at, IsOnce, IsKept, IsLater, Stands, IsKeyOf, AreCounted, AreHeld}

onto_more : (ts : List Tree) (ks : List Key) (k : Key) → trees_onto ts (ks ++ k ∷ []) ≡ trees_onto ts ks ++ key_tree (trees_onto ts ks) k ∷ []
onto_more ts [] k = refl
onto_more ts (j ∷ ks) k = onto_more (ts ++ key_tree ts j ∷ []) ks k

pub trees_more : (ks : List Key) (k : Key) → trees_in (ks ++ k ∷ []) ≡ trees_in ks ++ key_tree (trees_in ks) k ∷ []
trees_more ks k = onto_more [] ks k

-- the items of a list with more behind
got_before : (ts us : List Tree) (n : ℕ) → n < length ts → get_or (ts ++ us) n leaf ≡ get_or ts n leaf
got_before [] us n h = absurd (omega (arith, h))
got_before (t ∷ ts) us zero h = refl
got_before (t ∷ ts) us (suc n) h = got_before ts us n (omega (arith, h))

got_last : (ts : List Tree) (t : Tree) → get_or (ts ++ t ∷ []) (length ts) leaf ≡ t
got_last [] t = refl
got_last (u ∷ ts) t = got_last ts t

tree_before : (ts us : List Tree) (n : ℕ) → n ≤ length ts → tree_at (ts ++ us) n ≡ tree_at ts n
tree_before ts us zero h = refl
tree_before ts us (suc n) h = got_before ts us n (omega (arith, h))

pub stands_later : {ts us : List Tree} {n : ℕ} {t : Tree} → IsLater ts us → Stands ts n t → Stands us n t
stands_later {ts} {us} {n} {t} l s =
    subst (λ us. Stands us n t) (sym l.is)
    (record { within = omega (arith, s.within, length-append ts l.more); is = tree_before ts l.more n s.within ∙ s.is })

pub tree_later : (ts us : List Tree) (n : ℕ) → IsLater ts us → n ≤ length ts → tree_at us n ≡ tree_at ts n
tree_later ts us n l h = (stands_later l (record { within = h; is = refl })).is

pub later_same : (ts : List Tree) → IsLater ts ts
later_same ts = record { more = []; is = by ts }
  where
    by : (ts : List Tree) → ts ≡ ts ++ []
    by [] = refl
    by (t ∷ ts) = ap (λ us. t ∷ us) (by ts)

pub later_then : {ts us vs : List Tree} → IsLater ts us → IsLater us vs → IsLater ts vs
later_then {ts} l m = record {
  more = l.more ++ m.more;
  is = m.is ∙ ap (λ us. us ++ m.more) l.is ∙ append_assoc ts l.more m.more;
}

pub later_one : (ts : List Tree) (t : Tree) → IsLater ts (ts ++ t ∷ [])
later_one ts t = record { more = t ∷ []; is = refl }

-- ---- keys

same_numbers : (a b : ℕ) → nat_eq a b ≡ true → a ≡ b
same_numbers a b h = eqb-true a b h

both_true : (a b : Bool) → (a && b) ≡ true → (a ≡ true) × (b ≡ true)
both_true true b h = (refl, h)
both_true false b h = absurd (true≢false (sym h))

pub same_key : (a b : Key) → key_eq a b ≡ true → a ≡ b
same_key a b h =
    let p = both_true (nat_eq a.0 b.0 && nat_eq a.1 b.1) (nat_eq a.2 b.2) h in
    let q = both_true (nat_eq a.0 b.0) (nat_eq a.1 b.1) p.0 in
    let x = same_numbers a.0 b.0 q.0 in
    let y = same_numbers a.1 b.1 q.1 in
    let z = same_numbers a.2 b.2 p.1 in
    λ j. (x j, y j, z j)

pub own_key : (a : Key) → key_eq a a ≡ true
own_key a = ap (λ b. (b && nat_eq a.1 a.1) && nat_eq a.2 a.2) (eq-eqb a.0 a.0 refl) ∙ ap (λ b. b && nat_eq a.2 a.2) (eq-eqb a.1 a.1 refl) ∙ eq-eqb a.2 a.2 refl

-- ---- a key that is there

pub stands_found : (ks : List Key) (ts : List Tree) (k : Key) (i : ℕ) → IsKept ks ts → Some i ≡ position (key_eq k) ks → Stands ts (suc i) (key_tree ts k)
stands_found ks ts k i kept h =
    let f = found (key_eq k) ks i h in
    let same : k ≡ f.item = same_key k f.item f.passes in
    let at : slice_get ks i ≡ Some k = f.is ∙ ap Some (sym same) in
    record { within = omega (arith, slice_get_within ks i k at, kept.count); is = (kept.rows i k at).0 }

-- ---- a key that is not there

abbrev kind_of : Tree → ℕ
kind_of leaf = 0
kind_of (node k a b) = k

abbrev first_of : Tree → Tree
first_of leaf = leaf
first_of (node k a b) = a

abbrev second_of : Tree → Tree
second_of leaf = leaf
second_of (node k a b) = b

abbrev is_node : Tree → Bool
is_node leaf = false
is_node (node k a b) = true

row_at : {X : Type 0} (ks : List X) (i : ℕ) → i < length ks → (k : X) × (slice_get ks i ≡ Some k)
row_at [] i h = absurd (omega (arith, h))
row_at (k ∷ ks) zero h = (k, refl)
row_at (k ∷ ks) (suc i) h = row_at ks i (omega (arith, h))

pub split : (n m : ℕ) → (n ≤ m) ⊎ (m < n)
split zero m = inl (omega arith)
split (suc n) zero = inr (omega arith)
split (suc n) (suc m) = elim (split n m) [
  | inl x ↦ inl (omega (arith, x))
  | inr x ↦ inr (omega (arith, x))
]

-- no number has the tree of a key that is not there
no_number : (ks : List Key) (ts : List Tree) (k : Key) → IsKept ks ts → k.1 ≤ length ts → k.2 ≤ length ts → position (key_eq k) ks ≡ None
    → (n : ℕ) → n ≤ length ts → tree_at ts n ≡ key_tree ts k → ⊥
no_number ks ts k kept a b absent zero h e = true≢false (sym (ap is_node e))
no_number ks ts k kept a b absent (suc i) h e =
    let r = row_at ks i (omega (arith, h, kept.count)) in
    let row = kept.rows i r.0 r.1 in
    let same : key_tree ts r.0 ≡ key_tree ts k = sym row.0 ∙ e in
    let x : r.0.0 ≡ k.0 = ap kind_of same in
    let y : r.0.1 ≡ k.1 = kept.once r.0.1 k.1 row.1 a (ap first_of same) in
    let z : r.0.2 ≡ k.2 = kept.once r.0.2 k.2 row.2 b (ap second_of same) in
    let key : ◌≡◌ {A = Key} r.0 k = λ j. (x j, y j, z j) in
    let no = not_among (key_eq k) ks i k (none_found (key_eq k) ks absent) (r.1 ∙ ap Some key) in
    true≢false (sym (own_key k) ∙ no)

pub kept_more : (ks : List Key) (ts : List Tree) (k : Key) → IsKept ks ts → k.1 ≤ length ts → k.2 ≤ length ts → position (key_eq k) ks ≡ None
    → IsKept (ks ++ k ∷ []) (ts ++ key_tree ts k ∷ [])
kept_more ks ts k kept a b absent = record {
  count = length-append ts (t ∷ []) ∙ ap (λ n. n + 1) kept.count ∙ sym (length-append ks (k ∷ []));
  rows = λ i j h. row i j (which ks k i j h);
  once = once;
}
  where
    t : Tree
    t = key_tree ts k

    longer : length (ts ++ key_tree ts k ∷ []) ≡ length ts + 1
    longer = length-append ts (key_tree ts k ∷ [])

    kept_tree : (j : Key) → j.1 ≤ length ts → j.2 ≤ length ts → key_tree (ts ++ key_tree ts k ∷ []) j ≡ key_tree ts j
    kept_tree j x y =
        ap (λ s. node j.0 s (tree_at (ts ++ key_tree ts k ∷ []) j.2)) (tree_before ts (key_tree ts k ∷ []) j.1 x)
        ∙ ap (λ s. node j.0 (tree_at ts j.1) s) (tree_before ts (key_tree ts k ∷ []) j.2 y)

    last : tree_at (ts ++ key_tree ts k ∷ []) (suc (length ts)) ≡ key_tree ts k
    last = got_last ts (key_tree ts k)

    row : (i : ℕ) (j : Key) → IsEarlier ks i j ⊎ IsLast ks k i j
        → (tree_at (ts ++ key_tree ts k ∷ []) (suc i) ≡ key_tree (ts ++ key_tree ts k ∷ []) j) × (j.1 ≤ length (ts ++ key_tree ts k ∷ [])) × (j.2 ≤ length (ts ++ key_tree ts k ∷ []))
    row i j (inl e) =
        let r = kept.rows i j e.is in
        let below : i < length ts = omega (arith, slice_get_within ks i j e.is, kept.count) in
        (tree_before ts (key_tree ts k ∷ []) (suc i) (omega (arith, below)) ∙ r.0 ∙ sym (kept_tree j r.1 r.2), omega (arith, r.1, longer), omega (arith, r.2, longer))
    row i j (inr l) =
        let at : i ≡ length ts = l.place ∙ sym kept.count in
        let x : j.1 ≤ length ts = subst (λ j. j.1 ≤ length ts) l.is a in
        let y : j.2 ≤ length ts = subst (λ j. j.2 ≤ length ts) l.is b in
        (ap (λ i. tree_at (ts ++ key_tree ts k ∷ []) (suc i)) at ∙ last ∙ ap (key_tree ts) l.is ∙ sym (kept_tree j x y), omega (arith, x, longer), omega (arith, y, longer))

    -- a number is one from before or the new one
    side : (n : ℕ) → n ≤ length (ts ++ key_tree ts k ∷ []) → (n ≤ length ts) ⊎ (n ≡ suc (length ts))
    side n h = elim (split n (length ts)) [
      | inl x ↦ inl x
      | inr x ↦ inr (omega (arith, x, h, longer))
    ]

    both : (n m : ℕ) → (n ≤ length ts) ⊎ (n ≡ suc (length ts)) → (m ≤ length ts) ⊎ (m ≡ suc (length ts))
        → tree_at (ts ++ key_tree ts k ∷ []) n ≡ tree_at (ts ++ key_tree ts k ∷ []) m → n ≡ m
    both n m (inl x) (inl y) e = kept.once n m x y (sym (tree_before ts (key_tree ts k ∷ []) n x) ∙ e ∙ tree_before ts (key_tree ts k ∷ []) m y)
    both n m (inl x) (inr y) e =
        absurd (no_number ks ts k kept a b absent n x (sym (tree_before ts (key_tree ts k ∷ []) n x) ∙ e ∙ ap (tree_at (ts ++ key_tree ts k ∷ [])) y ∙ last))
    both n m (inr x) (inl y) e =
        absurd (no_number ks ts k kept a b absent m y (sym (tree_before ts (key_tree ts k ∷ []) m y) ∙ sym e ∙ ap (tree_at (ts ++ key_tree ts k ∷ [])) x ∙ last))
    both n m (inr x) (inr y) e = x ∙ sym y

    once : IsOnce (ts ++ key_tree ts k ∷ [])
    once n m x y e = both n m (side n x) (side m y) e

pub stands_last : (ts : List Tree) (t : Tree) → Stands (ts ++ t ∷ []) (suc (length ts)) t
stands_last ts t = record { within = omega (arith, length-append ts (t ∷ [])); is = got_last ts t }

-- ---- what is kept after a key that was not there is inserted

pub record IsAdded {V : Type 0} (es new : List (Key × V)) (k : Key) : Type 0 where
  pub kept : IsKept (keys_of new) (trees_in (keys_of new))
  pub trees : trees_in (keys_of new) ≡ trees_in (keys_of es) ++ key_tree (trees_in (keys_of es)) k ∷ []

pub added : {V : Type 0} (es new : List (Key × V)) (k : Key) (v : V) → IsKept (keys_of es) (trees_in (keys_of es))
    → k.1 ≤ length (trees_in (keys_of es)) → k.2 ≤ length (trees_in (keys_of es)) → position (key_eq k) (keys_of es) ≡ None → new ≡ insert_entry key_eq es k v → IsAdded es new k
added {V} es new k v kept a b absent entries =
    let last : new ≡ es ++ (k, v) ∷ [] = entries ∙ insert_last key_eq k v es (none_found (key_eq k) (keys_of es) absent) in
    let keys : keys_of new ≡ keys_of es ++ k ∷ [] = ap keys_of last ∙ map-append (λ e. e.0) es ((k, v) ∷ []) in
    let trees : trees_in (keys_of new) ≡ trees_in (keys_of es) ++ key_tree (trees_in (keys_of es)) k ∷ [] = ap trees_in keys ∙ trees_more (keys_of es) k in
    record {
      kept = subst (IsKept (keys_of new)) (sym trees) (subst (λ ks. IsKept ks (trees_in (keys_of es) ++ key_tree (trees_in (keys_of es)) k ∷ [])) (sym keys) (kept_more (keys_of es) (trees_in (keys_of es)) k kept a b absent));
      trees = trees;
    }

-- the members of each list are still counted
pub added_counted : (es new : List (Key × ℕ)) (k : Key) (v : ℕ) → AreHeld es → IsAdded es new k → position (key_eq k) (keys_of es) ≡ None → new ≡ insert_entry key_eq es k v
    → v ≡ members_in (key_tree (trees_in (keys_of es)) k) → AreCounted new
added_counted es new k v held more absent entries is i e h =
    let last : new ≡ es ++ (k, v) ∷ [] = entries ∙ insert_last key_eq k v es (none_found (key_eq k) (keys_of es) absent) in
    by (which es (k, v) i e (subst (λ new. slice_get new i ≡ Some e) last h))
  where
    ts : List Tree
    ts = trees_in (keys_of es)

    count : length ts ≡ length es
    count = held.kept.count ∙ length-map es (λ e. e.0)

    by : IsEarlier es i e ⊎ IsLast es (k, v) i e → e.1 ≡ members_in (tree_at (trees_in (keys_of new)) (suc i))
    by (inl x) =
        held.counted i e x.is
        ∙ ap members_in (sym (tree_before ts (key_tree ts k ∷ []) (suc i) (omega (arith, slice_get_within es i e x.is, count))) ∙ ap (λ ts. tree_at ts (suc i)) (sym more.trees))
    by (inr l) =
        ap (λ e. e.1) (sym l.is) ∙ is
        ∙ ap members_in (sym (got_last ts (key_tree ts k)) ∙ ap (λ i. get_or (ts ++ key_tree ts k ∷ []) i leaf) (count ∙ sym l.place) ∙ ap (λ ts. tree_at ts (suc i)) (sym more.trees))

-- ---- the row of a number

pub key_got : (es : List (Key × ℕ)) (n i : ℕ) (e : Key × ℕ) → suc i ≡ n → Some e ≡ slice_get es i → Some e.0 ≡ key_at (keys_of es) n
key_got es n i e is h = sym (by es i e (sym h)) ∙ ap (key_at (keys_of es)) is
  where
    by : (es : List (Key × ℕ)) (i : ℕ) (e : Key × ℕ) → slice_get es i ≡ Some e → slice_get (keys_of es) i ≡ Some e.0
    by [] i e h = cc
    by (d ∷ es) zero e h = ap (λ o. elim o [ None ↦ None | Some e ↦ Some e.0 ]) h
    by (d ∷ es) (suc i) e h = by es i e h

pub key_is : (es : List (Key × ℕ)) (i : ℕ) (e : Key × ℕ) → AreHeld es → Some e ≡ slice_get es i → IsKeyOf (keys_of es) (suc i) (Some e.0)
key_is es i e held h = held.kept.rows i e.0 (map_get es i e (sym h))
  where
    map_get : (es : List (Key × ℕ)) (i : ℕ) (e : Key × ℕ) → slice_get es i ≡ Some e → slice_get (keys_of es) i ≡ Some e.0
    map_get [] i e h = cc
    map_get (d ∷ es) zero e h = ap (λ o. elim o [ None ↦ None | Some e ↦ Some e.0 ]) h
    map_get (d ∷ es) (suc i) e h = map_get es i e h

no_tree : (ts : List Tree) (i : ℕ) → length ts ≤ i → tree_at ts (suc i) ≡ leaf
no_tree [] i h = refl
no_tree (t ∷ ts) zero h = absurd (omega (arith, h))
no_tree (t ∷ ts) (suc i) h = no_tree ts i (omega (arith, h))

none_beyond : (es : List (Key × ℕ)) (i : ℕ) → None ≡ slice_get es i → length es ≤ i
none_beyond [] i h = omega arith
none_beyond (e ∷ es) zero h = cc
none_beyond (e ∷ es) (suc i) h = let w = none_beyond es i h in omega (arith, w)

pub key_none : (es : List (Key × ℕ)) (i : ℕ) → AreHeld es → None ≡ slice_get es i → IsKeyOf (keys_of es) (suc i) None
key_none es i held h = let w = none_beyond es i h in no_tree (trees_in (keys_of es)) i (omega (arith, w, held.kept.count, length-map es (λ e. e.0)))

-- every number has the key of its place
pub keys_are : (es : List (Key × ℕ)) → AreHeld es → (n : ℕ) → IsKeyOf (keys_of es) n (key_at (keys_of es) n)
keys_are es held zero = refl
keys_are es held (suc i) = by (slice_get (keys_of es) i) refl
  where
    beyond : (ks : List Key) (i : ℕ) → slice_get ks i ≡ None → length ks ≤ i
    beyond [] i h = omega arith
    beyond (k ∷ ks) zero h = cc
    beyond (k ∷ ks) (suc i) h = let w = beyond ks i h in omega (arith, w)

    by : (o : Option Key) → slice_get (keys_of es) i ≡ o → IsKeyOf (keys_of es) (suc i) o
    by None h = let w = beyond (keys_of es) i h in no_tree (trees_in (keys_of es)) i (omega (arith, w, held.kept.count))
    by (Some k) h = held.kept.rows i k h

-- ---- what is over something

is_there : (ts : List Tree) (n : ℕ) → IsOnce ts → n ≤ length ts → n ≢ 0 → is_node (tree_at ts n) ≡ true
is_there ts n once h some = by (tree_at ts n) refl
  where
    by : (t : Tree) → tree_at ts n ≡ t → is_node t ≡ true
    by leaf e = absurd (some (once n 0 h (omega arith) e))
    by (node k a b) e = refl

over_node : (k : ℕ) (t : Tree) → is_node t ≡ true → over k t ≡ node k t leaf
over_node k leaf h = absurd (true≢false (sym h))
over_node k (node i a b) h = refl

over_nodes : (k : ℕ) (t u : Tree) → is_node t ≡ true → is_node u ≡ true → over_both k t u ≡ node k t u
over_nodes k leaf u h i = absurd (true≢false (sym h))
over_nodes k (node j a b) leaf h i = absurd (true≢false (sym i))
over_nodes k (node j a b) (node l c d) h i = refl

pub over_some : (ts : List Tree) (k n : ℕ) → IsOnce ts → n ≤ length ts → n ≢ 0 → over k (tree_at ts n) ≡ node k (tree_at ts n) leaf
over_some ts k n once h some = over_node k (tree_at ts n) (is_there ts n once h some)

pub over_some_both : (ts : List Tree) (k n m : ℕ) → IsOnce ts → n ≤ length ts → m ≤ length ts → n ≢ 0 → m ≢ 0 → over_both k (tree_at ts n) (tree_at ts m) ≡ node k (tree_at ts n) (tree_at ts m)
over_some_both ts k n m once h i some other = over_nodes k (tree_at ts n) (tree_at ts m) (is_there ts n once h some) (is_there ts m once i other)

-- ---- a list has no more members than there are trees

abbrev AreFew : List Tree → Type 0
AreFew ts = (n : ℕ) → members_in (tree_at ts n) ≤ length ts

members_node : (j : ℕ) (a b : Tree) → members_in (node j a b) ≤ suc (members_in b)
members_node j a b = by (nat_eq j 9)
  where
    by : (is : Bool) → (if is then suc (members_in b) else 0) ≤ suc (members_in b)
    by true = omega arith
    by false = omega arith

few_more : (ts : List Tree) (t : Tree) → AreFew ts → members_in t ≤ suc (length ts) → AreFew (ts ++ t ∷ [])
few_more ts t few h zero = omega arith
few_more ts t few h (suc i) =
    let longer = length-append ts (t ∷ []) in
    elim (split (suc i) (length ts)) [
      | inl before ↦ omega (arith, longer, ap members_in (tree_before ts (t ∷ []) (suc i) before), few (suc i))
      | inr behind ↦ elim (split i (length ts)) [
        | inl here ↦
            let same : i ≡ length ts = omega (arith, behind, here) in
            omega (arith, longer, h, ap (λ n. members_in (get_or (ts ++ t ∷ []) n leaf)) same ∙ ap members_in (got_last ts t))
        | inr past ↦ omega (arith, ap members_in (no_tree (ts ++ t ∷ []) i (omega (arith, past, longer))))
      ]
    ]

few_onto : (ts : List Tree) (ks : List Key) → AreFew ts → AreFew (trees_onto ts ks)
few_onto ts [] few = few
few_onto ts (k ∷ ks) few =
    few_onto (ts ++ key_tree ts k ∷ []) ks
    (few_more ts (key_tree ts k) few (omega (arith, members_node k.0 (tree_at ts k.1) (tree_at ts k.2), few k.2)))

pub few_members : (ks : List Key) (n : ℕ) → members_in (tree_at (trees_in ks) n) ≤ length (trees_in ks)
few_members ks = few_onto [] ks none
  where
    none : AreFew []
    none zero = omega arith
    none (suc n) = omega arith
