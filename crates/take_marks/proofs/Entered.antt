-- Ordering edges, entered user by user.
use Rattle.std.proofs.Common.{◌≡◌, ◌≢◌, ◌∙◌, ℕ, ◌+◌, ◌<◌, ◌≤◌, zero, suc, Bool, true, false, not, ◌||◌, ◌&&◌, if◌then◌else◌, List, [], ◌∷◌, ◌++◌, length, drop, set, slice_index, slice_index_or, Contains, ◌⊎◌, inl, inr, arith, refl, sym, ap, subst, ◌==◌, drop-cons}
use Rattle.std.specs.Prelude.{nat_lt}
use Rattle.std.specs.List.{list_any}
use Rattle.std.specs.List.Sorted.{IsStrictlyIncreasing}
use Rattle.std.proofs.lemmas.Bool.{or_cases, or_left, or_right, and_parts, and_from, eq-eqb, ne_eqb, cases_eq}
use Rattle.std.proofs.lemmas.List.{length-set, get_or-set_same, get_or-set_other}
use Rattle.std.proofs.lemmas.List.Elements.{Contains-push, Contains-push_cases, Contains-append_left}
use Rattle.if1_graph.specs.declared.graph.Graph.{Graph}
use Rattle.if1_graph.specs.declared.graph.Graph.TheViews.{out-Graph}
use Rattle.if1_order.specs.Orders.{node_labels}
use Rattle.if1_order.specs.Walks.{Lists, feeders_of}
use Rattle.if1_order.specs.Feeders.{IsPlace}
use Rattle.if1_order.proofs.Orders.{same_place, entry_cases}
use Rattle.if1_marks.proofs.Tests.{same-number, any-found, any-there, no-both}
use Rattle.if1_marks.proofs.Lists.{here, here-or-there, in-none}
use Rattle.marks_made.specs.Made.{Orders, links, is_edge, is_order}
use Rattle.if1_reach.specs.Nets.{with_link}
use Rattle.if1_reach.proofs.Links.{entered, net-same}
use Rattle.take_marks.specs.Told.{is_in, told, place_in, is_light}
use Rattle.take_marks.specs.Standing.{Stands, ArePlaces, AreRising, past, HasEntered}

-- the place of a label is found
pub place-found : (labels : List ℕ) (l k : ℕ) → IsStrictlyIncreasing labels → IsPlace labels k l → place_in labels l ≡ k
place-found labels l k up p = same_place labels (place_in labels l) k up (first labels k p).0 p.0 ((first labels k p).1 ∙ sym p.1)
  where
    first : (ls : List ℕ) (k : ℕ) → IsPlace ls k l → IsPlace ls (place_in ls l) l
    first [] k p = absurd (omega (arith, p.0))
    first (x ∷ ls) k p = go (x == l) refl k p (first ls)
      where
        go : (b : Bool) → (x == l) ≡ b → (k : ℕ) → IsPlace (x ∷ ls) k l → ((k : ℕ) → IsPlace ls k l → IsPlace ls (place_in ls l) l) → IsPlace (x ∷ ls) (if b then 0 else suc (place_in ls l)) l
        go true e k p rest = (omega arith, same-number x l e)
        go false e zero p rest = absurd (no-both (x == l) (eq-eqb x l p.1) e)
        go false e (suc k) p rest = let r = rest k (omega (arith, p.0), p.1) in (omega (arith, r.0), r.1)

-- ---- one ordering edge

pub more-links : (g : Graph) (os : Orders) (l t a b : ℕ) → with_link (links g os) l t a b ≡ links g ((l, t) ∷ os) a b
more-links g os l t a b = go (list_any (is_edge a b) (out-Graph g).edges) (list_any (is_order a b) os) ((l == a) && (t == b))
  where
    go : (x y z : Bool) → ((x || y) || z) ≡ (x || (z || y))
    go true y z = refl
    go false true true = refl
    go false true false = refl
    go false false true = refl
    go false false false = refl

module _ (g : Graph) (os : Orders) (up : IsStrictlyIncreasing (node_labels g)) (lists : Lists) (befores : List (List ℕ)) (was : Stands g os lists befores) (s t l m : ℕ) (ps : IsPlace (node_labels g) s l) (pt : IsPlace (node_labels g) t m) where
  abbrev new : List (List ℕ)
  new = set befores t (slice_index_or befores t [] ++ l ∷ [])

  on-list : (u a : ℕ) → u < length (node_labels g) → Contains (slice_index_or new u []) a → list_any (is_order a (slice_index (node_labels g) u)) ((l, m) ∷ os) ≡ true
  on-list u a h c =
      elim (cases_eq u t) [
        | inl same ↦
            elim (Contains-push_cases (slice_index_or befores t []) l a (subst (λ ks. Contains ks a) (ap (λ z. slice_index_or new z []) same ∙ get_or-set_same befores t (slice_index_or befores t [] ++ l ∷ []) [] (omega (arith, pt.0, was.fit))) c)) [
              | inl old ↦ or_right (is_order a (slice_index (node_labels g) u) (l, m)) (list_any (is_order a (slice_index (node_labels g) u)) os)
                  ((was.listed u a h).0 (subst (λ z. Contains (slice_index_or befores z []) a) (sym same) old))
              | inr is ↦ or_left (is_order a (slice_index (node_labels g) u) (l, m)) (list_any (is_order a (slice_index (node_labels g) u)) os)
                  (and_from (l == a) (m == slice_index (node_labels g) u) (eq-eqb l a is) (eq-eqb m (slice_index (node_labels g) u) (sym pt.1 ∙ ap (slice_index (node_labels g)) (sym same))))
            ]
        | inr ne ↦ or_right (is_order a (slice_index (node_labels g) u) (l, m)) (list_any (is_order a (slice_index (node_labels g) u)) os)
            ((was.listed u a h).0 (subst (λ ks. Contains ks a) (get_or-set_other befores t u (slice_index_or befores t [] ++ l ∷ []) [] ne) c))
      ]

  from-list : (u a : ℕ) → u < length (node_labels g) → list_any (is_order a (slice_index (node_labels g) u)) ((l, m) ∷ os) ≡ true → Contains (slice_index_or new u []) a
  from-list u a h e =
      elim (or_cases (is_order a (slice_index (node_labels g) u) (l, m)) (list_any (is_order a (slice_index (node_labels g) u)) os) e) [
        | inl now ↦
            let r = and_parts (l == a) (m == slice_index (node_labels g) u) now in
            let tu : t ≡ u = same_place (node_labels g) t u up pt.0 h (pt.1 ∙ same-number m (slice_index (node_labels g) u) r.1) in
            subst (λ z. Contains (slice_index_or new z []) a) tu
            (subst (λ ks. Contains ks a) (sym (get_or-set_same befores t (slice_index_or befores t [] ++ l ∷ []) [] (omega (arith, pt.0, was.fit))))
            (subst (Contains (slice_index_or befores t [] ++ l ∷ [])) (same-number l a r.0) (Contains-push (slice_index_or befores t []) l)))
        | inr old ↦ kept u a ((was.listed u a h).1 old) (cases_eq u t)
      ]
    where
      kept : (u a : ℕ) → Contains (slice_index_or befores u []) a → (u ≡ t) ⊎ (u ≢ t) → Contains (slice_index_or new u []) a
      kept u a c (inl same) =
          subst (λ z. Contains (slice_index_or new z []) a) (sym same)
          (subst (λ ks. Contains ks a) (sym (get_or-set_same befores t (slice_index_or befores t [] ++ l ∷ []) [] (omega (arith, pt.0, was.fit))))
          (Contains-append_left (slice_index_or befores t []) (l ∷ []) a (subst (λ z. Contains (slice_index_or befores z []) a) same c)))
      kept u a c (inr ne) = subst (λ ks. Contains ks a) (sym (get_or-set_other befores t u (slice_index_or befores t [] ++ l ∷ []) [] ne)) c

  pub stands-more : Stands g ((l, m) ∷ os) (set lists t (feeders_of lists t ++ s ∷ [])) new
  stands-more =
      record {
        net = net-same (more-links g os l m) (entered (node_labels g) up lists (links g os) was.net l m s t ps pt);
        fit = length-set befores t (slice_index_or befores t [] ++ l ∷ []) ∙ was.fit;
        listed = λ u a h. (on-list u a h, from-list u a h);
      }

-- ---- who is wanted

abbrev pub last_of : List ℕ → ℕ → ℕ
last_of ls zero = 0
last_of ls (suc n) = slice_index ls n

module _ (ls : List ℕ) (rising : AreRising ls) where
  not-greater : (n : ℕ) → n ≤ length ls → (m : ℕ) → Contains (past ls n) m → m ≤ last_of ls n
  not-greater zero h m c = in-none m c
  not-greater (suc n) h m c =
      elim (here-or-there (slice_index ls n) (past ls n) m c) [
        | inl e ↦ omega (arith, e)
        | inr i ↦ let r = not-greater n (omega (arith, h)) m i in let s = up-to n h in omega (arith, r, s)
      ]
    where
      up-to : (n : ℕ) → suc n ≤ length ls → last_of ls n ≤ slice_index ls n
      up-to zero h = omega arith
      up-to (suc n) h = rising.up n (suc n) (omega arith) (omega (arith, h))

  pub same-in : (n : ℕ) → n < length ls → is_in (past ls n) (slice_index ls n) ≡ (slice_index ls n == last_of ls n)
  same-in zero h = sym (ne_eqb (slice_index ls 0) 0 (λ e. let r = rising.least 0 h in omega (arith, r, e)))
  same-in (suc n) h = go (slice_index ls (suc n) == slice_index ls n) refl (is_in (past ls (suc n)) (slice_index ls (suc n))) refl
    where
      go : (b : Bool) → (slice_index ls (suc n) == slice_index ls n) ≡ b → (c : Bool) → is_in (past ls (suc n)) (slice_index ls (suc n)) ≡ c → c ≡ b
      go true e true f = refl
      go false e false f = refl
      go true e false f = absurd (no-both (is_in (past ls (suc n)) (slice_index ls (suc n)))
          (any-there (λ m. m == slice_index ls (suc n)) (past ls (suc n)) (slice_index ls n) (here (slice_index ls n) (past ls n)) (eq-eqb (slice_index ls n) (slice_index ls (suc n)) (sym (same-number (slice_index ls (suc n)) (slice_index ls n) e)))) f)
      go false e true f =
          let r = any-found (λ m. m == slice_index ls (suc n)) (past ls (suc n)) f in
          let le = not-greater (suc n) (omega (arith, h)) r.0 r.1 in
          let same = same-number r.0 (slice_index ls (suc n)) r.2 in
          let up = rising.up n (suc n) (omega arith) h in
          absurd (no-both (slice_index ls (suc n) == slice_index ls n) (eq-eqb (slice_index ls (suc n)) (slice_index ls n) (omega (arith, le, same, up))) e)

-- ---- step by step

pub none-entered : (ls places : List ℕ) (t : ℕ) (weights : List ℕ) (lists : Lists) (befores : List (List ℕ)) → HasEntered ls places t weights 0 lists befores lists befores
none-entered ls places t weights lists befores =
    record { fit = refl; fits = refl; told_so = λ g os taker up p q r w. (os, w, refl); fed = λ s u c. inl c }

module _ (ls places : List ℕ) (t : ℕ) (weights : List ℕ) (n : ℕ) (old : Lists) (oldest : List (List ℕ)) (lists : Lists) (befores : List (List ℕ)) (was : HasEntered ls places t weights n old oldest lists befores) (h : n < length ls)
    (place weight : ℕ) (is-place : place ≡ slice_index places n) (is-weight : weight ≡ slice_index weights place) (inside : t < length old) (wanted : Bool) (test : wanted ≡ not ((slice_index ls n == last_of ls n) || nat_lt weight (slice_index ls n)))
    (new : Lists) (newest : List (List ℕ)) (is-new : new ≡ (if wanted then set lists t (feeders_of lists t ++ place ∷ []) else lists)) (is-newest : newest ≡ (if wanted then set befores t (slice_index_or befores t [] ++ slice_index ls n ∷ []) else befores)) where
  abbrev l : ℕ
  l = slice_index ls n

  pub one-entered : HasEntered ls places t weights (n + 1) old oldest new newest
  one-entered =
      record {
        fit = ap length is-new ∙ (kept wanted ∙ was.fit);
        fits = ap length is-newest ∙ (keeps wanted ∙ was.fits);
        told_so = λ g os taker up p q r w. told-so g os taker up p q r w;
        fed = λ s u c. feeds wanted s u (subst (λ ls. Contains (slice_index_or ls u []) s) is-new c);
      }
    where
      kept : (b : Bool) → length (if b then set lists t (feeders_of lists t ++ place ∷ []) else lists) ≡ length lists
      kept true = length-set lists t (feeders_of lists t ++ place ∷ [])
      kept false = refl

      keeps : (b : Bool) → length (if b then set befores t (slice_index_or befores t [] ++ l ∷ []) else befores) ≡ length befores
      keeps true = length-set befores t (slice_index_or befores t [] ++ l ∷ [])
      keeps false = refl

      feeds : (b : Bool) (s u : ℕ) → Contains (slice_index_or (if b then set lists t (feeders_of lists t ++ place ∷ []) else lists) u []) s → Contains (slice_index_or old u []) s ⊎ ((u ≡ t) × ((k : ℕ) × (k < length ls) × (s ≡ slice_index places k)))
      feeds false s u c = was.fed s u c
      feeds true s u c =
          elim (entry_cases lists place t (omega (arith, inside, was.fit)) s u c) [
            | inl i ↦ was.fed s u i
            | inr e ↦ inr (sym e.1, (n, h, sym e.0 ∙ is-place))
          ]

      told-so : (g : Graph) (os : Orders) (taker : ℕ) → IsStrictlyIncreasing (node_labels g) → ArePlaces (node_labels g) ls places → IsPlace (node_labels g) t taker → AreRising ls → Stands g os old oldest →
          (now : Orders) × Stands g now new newest × (told (is_light (node_labels g) weights) taker (past ls (n + 1)) (drop (n + 1) ls) now ≡ told (is_light (node_labels g) weights) taker [] ls os)
      told-so g os taker up p q r w =
          let x = was.told_so g os taker up p q r w in
          by x.0 x.1 x.2 (is_in (past ls n) l || is_light (node_labels g) weights l) refl
        where
          ps : IsPlace (node_labels g) place l
          ps = subst (λ z. IsPlace (node_labels g) z l) (sym is-place) (p.are n h)

          same-test : wanted ≡ not (is_in (past ls n) l || is_light (node_labels g) weights l)
          same-test =
              test ∙ (ap (λ b. not (b || nat_lt weight l)) (sym (same-in ls r n h))
              ∙ ap (λ z. not (is_in (past ls n) l || nat_lt z l)) (is-weight ∙ ap (slice_index weights) (sym (place-found (node_labels g) l place up ps))))

          opened : (now : Orders) → told (is_light (node_labels g) weights) taker (past ls n) (drop n ls) now ≡ told (is_light (node_labels g) weights) taker (past ls (n + 1)) (drop (n + 1) ls) (if is_in (past ls n) l || is_light (node_labels g) weights l then now else (l, taker) ∷ now)
          opened now =
              ap (λ xs. told (is_light (node_labels g) weights) taker (past ls n) xs now) (drop-cons ls n 0 h)
              ∙ ap (λ k. told (is_light (node_labels g) weights) taker (past ls k) (drop k ls) (if is_in (past ls n) l || is_light (node_labels g) weights l then now else (l, taker) ∷ now)) one
            where
              one : suc n ≡ n + 1
              one = omega arith

          by : (now : Orders) → Stands g now lists befores → told (is_light (node_labels g) weights) taker (past ls n) (drop n ls) now ≡ told (is_light (node_labels g) weights) taker [] ls os → (b : Bool) → (is_in (past ls n) l || is_light (node_labels g) weights l) ≡ b →
              (now : Orders) × Stands g now new newest × (told (is_light (node_labels g) weights) taker (past ls (n + 1)) (drop (n + 1) ls) now ≡ told (is_light (node_labels g) weights) taker [] ls os)
          by now stands e true is =
              let f : wanted ≡ false = same-test ∙ ap not is in (
                now,
                subst (λ z. Stands g now z newest) (sym (is-new ∙ ap (λ b. if b then set lists t (feeders_of lists t ++ place ∷ []) else lists) f))
                    (subst (λ z. Stands g now lists z) (sym (is-newest ∙ ap (λ b. if b then set befores t (slice_index_or befores t [] ++ l ∷ []) else befores) f)) stands),
                ap (λ b. told (is_light (node_labels g) weights) taker (past ls (n + 1)) (drop (n + 1) ls) (if b then now else (l, taker) ∷ now)) (sym is) ∙ (sym (opened now) ∙ e),
              )
          by now stands e false is =
              let f : wanted ≡ true = same-test ∙ ap not is in (
                (l, taker) ∷ now,
                subst (λ z. Stands g ((l, taker) ∷ now) z newest) (sym (is-new ∙ ap (λ b. if b then set lists t (feeders_of lists t ++ place ∷ []) else lists) f))
                    (subst (λ z. Stands g ((l, taker) ∷ now) (set lists t (feeders_of lists t ++ place ∷ [])) z) (sym (is-newest ∙ ap (λ b. if b then set befores t (slice_index_or befores t [] ++ l ∷ []) else befores) f))
                    (stands-more g now up lists befores stands place t l taker ps q)),
                ap (λ b. told (is_light (node_labels g) weights) taker (past ls (n + 1)) (drop (n + 1) ls) (if b then now else (l, taker) ∷ now)) (sym is) ∙ (sym (opened now) ∙ e),
              )

pub last-is : (ls : List ℕ) (n : ℕ) → slice_index ls n ≡ last_of ls (n + 1)
last-is ls n = ap (last_of ls) one
  where
    one : suc n ≡ n + 1
    one = omega arith
