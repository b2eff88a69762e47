-- Which numbers of ports stand in a list that does not fall.
use Rattle.std.proofs.Common.{◌≡◌, ℕ, zero, suc, ◌+◌, ◌<◌, ◌≤◌, true, ◌&&◌, ◌==◌, nat_le, List, [], ◌∷◌, length, ◌↔◌, ◌⊎◌, inl, inr, All, Contains, Decides, refl, sym, ap, subst, ◌∙◌, arith, leb-true, le-leb, eqb-true, eq-eqb}
use Rattle.std.proofs.lemmas.Bool.{and_parts, and_from}
use Rattle.std.proofs.lemmas.List.Elements.{All-cons, All-head, All-tail}
use Rattle.if1_order.proofs.Members.{contains_here, contains_there, contains_cases, contains_none}
use Rattle.if1_graph.specs.Units.{greatest}
use Rattle.if1_graph.specs.Formed.{IsOnce}
use Rattle.if1_graph.specs.Ports.{AreFirst, AreAtLeast, count_from}
use Rattle.if1_ports.specs.Counts.{are_counted, are_rising}

-- no number is below the one before it, and the first one is at least this
abbrev pub Up : ℕ → List ℕ → Type 0
Up least [] = Unit {0}
Up least (p ∷ ps) = (least ≤ p) × Up p ps

above : (least : ℕ) (ps : List ℕ) (port : ℕ) → Up least ps → Contains ps port → least ≤ port
above least [] port up h = contains_none port h
above least (p ∷ ps) port up h =
    elim (contains_cases p ps port h) [
      | inl same ↦ omega (arith, up.0, same)
      | inr there ↦ omega (arith, up.0, above p ps port up.1 there)
    ]

-- ---- one after another

-- the numbers are so many from the first on
abbrev AreFrom : ℕ → ℕ → List ℕ → Type 0
AreFrom first n ps = (port : ℕ) → Contains ps port ↔ ((first ≤ port) × (port < first + n))

counted_are : (first : ℕ) (ps : List ℕ) → are_counted first ps ≡ true → IsOnce ps × AreFrom first (length ps) ps
counted_are first [] h = (tt, λ port. (λ c. contains_none port c, λ r. absurd (omega (arith, r.0, r.1))))
counted_are first (p ∷ ps) h =
    let both = and_parts (p == first) (are_counted (suc first) ps) h in
    let same : p ≡ first = eqb-true p first both.0 in
    let rest = counted_are (suc first) ps both.1 in (
      (λ c. let r = (rest.1 p).0 c in omega (arith, same, r.0), rest.0),
      λ port. (
        λ c.
            elim (contains_cases p ps port c) [
              | inl e ↦ (omega (arith, same, e), omega (arith, same, e))
              | inr there ↦ let r = (rest.1 port).0 there in (omega (arith, r.0), omega (arith, r.1))
            ],
        λ r. in_range first p ps port same (λ a. (rest.1 port).1 (a, omega (arith, r.1))) r.0,
      ),
    )
  where
    in_range : (first p : ℕ) (ps : List ℕ) (port : ℕ) → p ≡ first → (suc first ≤ port → Contains ps port) → first ≤ port → Contains (p ∷ ps) port
    in_range first p ps port same later h =
        elim (split first port h) [
          | inl e ↦ subst (λ q. Contains (p ∷ ps) q) (same ∙ e) (contains_here p ps)
          | inr a ↦ contains_there p ps port (later a)
        ]
      where
        split : (a b : ℕ) → a ≤ b → (a ≡ b) ⊎ (suc a ≤ b)
        split a b h = grind arith

are_counted_so : (first n : ℕ) (ps : List ℕ) (least : ℕ) → Up least ps → IsOnce ps → AreFrom first n ps → (are_counted first ps ≡ true) × (length ps ≡ n)
are_counted_so first zero [] least up once these = (refl, refl)
are_counted_so first (suc n) [] least up once these = contains_none first ((these first).1 (omega arith, omega arith))
are_counted_so first zero (p ∷ ps) least up once these = let r = (these p).0 (contains_here p ps) in absurd (omega (arith, r.0, r.1))
are_counted_so first (suc n) (p ∷ ps) least up once these =
    let here = (these p).0 (contains_here p ps) in
    let one : p ≡ first = begins first p ps up.1 here.0 ((these first).1 (omega arith, omega arith)) in
    let rest = are_counted_so (suc first) n ps p up.1 once.1 (λ port. (
      λ c. let r = (these port).0 (contains_there p ps port c) in (beyond first p ps port one once.0 c r.0, omega (arith, r.1)),
      λ r.
          elim (contains_cases p ps port ((these port).1 (omega (arith, r.0), omega (arith, r.1)))) [
            | inl e ↦ absurd (omega (arith, e, one, r.0))
            | inr there ↦ there
          ],
    )) in
    (and_from (p == first) (are_counted (suc first) ps) (eq-eqb p first one) rest.0, ap suc rest.1)
  where
    begins : (first p : ℕ) (ps : List ℕ) → Up p ps → first ≤ p → Contains (p ∷ ps) first → p ≡ first
    begins first p ps up h c =
        elim (contains_cases p ps first c) [ inl e ↦ e | inr there ↦ omega (arith, h, above p ps first up there) ]

    beyond : (first p : ℕ) (ps : List ℕ) (port : ℕ) → p ≡ first → (¬ Contains ps p) → Contains ps port → first ≤ port → suc first ≤ port
    beyond first p ps port one none c h =
        elim (split first port h) [ inl e ↦ absurd (none (subst (λ q. Contains ps q) (sym (one ∙ e)) c)) | inr a ↦ a ]
      where
        split : (a b : ℕ) → a ≤ b → (a ≡ b) ⊎ (suc a ≤ b)
        split a b h = grind arith

pub first_counted : (ps : List ℕ) (n : ℕ) → Up 0 ps → AreFirst n ps → (are_counted 1 ps ≡ true) × (length ps ≡ n)
first_counted ps n up f =
    are_counted_so 1 n ps 0 up f.once
    (λ port. (λ c. let r = (f.these port).0 c in (r.0, omega (arith, r.1)), λ r. (f.these port).1 (r.0, omega (arith, r.1))))

pub counted_first : (ps : List ℕ) → are_counted 1 ps ≡ true → AreFirst (length ps) ps
counted_first ps h =
    let r = counted_are 1 ps h in
    record {
      once = r.0;
      these = λ port. (λ c. let q = (r.1 port).0 c in (q.0, omega (arith, q.1)), λ q. (r.1 port).1 (q.0, omega (arith, q.1)));
    }

pub decides_first : (ps : List ℕ) (n : ℕ) → Up 0 ps → Decides (are_counted 1 ps && (length ps == n)) (AreFirst n ps)
decides_first ps n up = (
  λ h.
      let both = and_parts (are_counted 1 ps) (length ps == n) h in
      subst (λ m. AreFirst m ps) (eqb-true (length ps) n both.1) (counted_first ps both.0),
  λ f. let r = first_counted ps n up f in and_from (are_counted 1 ps) (length ps == n) r.0 (eq-eqb (length ps) n r.1),
)

pub decides_at_least : (ps : List ℕ) (k : ℕ) → Up 0 ps → Decides (are_counted 1 ps && nat_le k (length ps)) (AreAtLeast k ps)
decides_at_least ps k up = (
  λ h.
      let both = and_parts (are_counted 1 ps) (nat_le k (length ps)) h in
      (length ps, leb-true k (length ps) both.1, counted_first ps both.0),
  λ f.
      let r = first_counted ps f.0 up f.2 in
      and_from (are_counted 1 ps) (nat_le k (length ps)) r.0 (le-leb k (length ps) (omega (arith, f.1, r.1))),
)

-- ---- each once

rising_once : (least : ℕ) (ps : List ℕ) → are_rising least ps ≡ true → IsOnce ps × ((port : ℕ) → Contains ps port → least ≤ port)
rising_once least [] h = (tt, λ port c. contains_none port c)
rising_once least (p ∷ ps) h =
    let both = and_parts (nat_le least p) (are_rising (suc p) ps) h in
    let low : least ≤ p = leb-true least p both.0 in
    let rest = rising_once (suc p) ps both.1 in (
      (λ c. absurd (omega (arith, rest.1 p c)), rest.0),
      λ port c. elim (contains_cases p ps port c) [ inl e ↦ omega (arith, low, e) | inr there ↦ omega (arith, low, rest.1 port there) ],
    )

once_rising : (least : ℕ) (ps : List ℕ) (low : ℕ) → Up low ps → IsOnce ps → ((port : ℕ) → Contains ps port → least ≤ port) → are_rising least ps ≡ true
once_rising least [] low up once all = refl
once_rising least (p ∷ ps) low up once all =
    and_from (nat_le least p) (are_rising (suc p) ps) (le-leb least p (all p (contains_here p ps)))
    (once_rising (suc p) ps p up.1 once.1 (λ port c. beyond p ps port once.0 c (above p ps port up.1 c)))
  where
    beyond : (p : ℕ) (ps : List ℕ) (port : ℕ) → (¬ Contains ps p) → Contains ps port → p ≤ port → suc p ≤ port
    beyond p ps port none c h =
        elim (split p port h) [ inl e ↦ absurd (none (subst (λ q. Contains ps q) (sym e) c)) | inr a ↦ a ]
      where
        split : (a b : ℕ) → a ≤ b → (a ≡ b) ⊎ (suc a ≤ b)
        split a b h = grind arith

pub decides_once : (ps : List ℕ) → Up 0 ps → Decides (are_rising 0 ps) (IsOnce ps)
decides_once ps up = (
  λ h. (rising_once 0 ps h).0,
  λ once. once_rising 0 ps 0 up once (λ port c. omega arith),
)

-- ---- the greatest

all_below : (ps : List ℕ) (n : ℕ) → greatest ps ≤ n → All (λ p. p ≤ n) ps
all_below [] n h = λ k d b. absurd (omega (arith, b))
all_below (p ∷ ps) n h = All-cons (λ p. p ≤ n) p ps (omega (arith, h)) (all_below ps n (omega (arith, h)))

greatest_below : (ps : List ℕ) (n : ℕ) → All (λ p. p ≤ n) ps → greatest ps ≤ n
greatest_below [] n h = omega arith
greatest_below (p ∷ ps) n h =
    omega (arith, All-head (λ p. p ≤ n) p ps h, greatest_below ps n (All-tail (λ p. p ≤ n) p ps h))

pub decides_below : (ps : List ℕ) (n : ℕ) → Decides (nat_le (greatest ps) n) (All (λ p. p ≤ n) ps)
decides_below ps n = (λ h. all_below ps n (leb-true (greatest ps) n h), λ a. le-leb (greatest ps) n (greatest_below ps n a))

-- ---- 0, 1, ..

pub decides_list : (first : ℕ) (n : ℕ) (ps : List ℕ) → Decides (are_counted first ps && (length ps == n)) (ps ≡ count_from first n)
decides_list first n ps = (
  λ h.
      let both = and_parts (are_counted first ps) (length ps == n) h in
      is_list first ps both.0 ∙ ap (count_from first) (eqb-true (length ps) n both.1),
  λ e. subst (λ qs. (are_counted first qs && (length qs == n)) ≡ true) (sym e) (list_is first n),
)
  where
    is_list : (first : ℕ) (ps : List ℕ) → are_counted first ps ≡ true → ps ≡ count_from first (length ps)
    is_list first [] h = refl
    is_list first (p ∷ ps) h =
        let both = and_parts (p == first) (are_counted (suc first) ps) h in
        ap (λ q. q ∷ ps) (eqb-true p first both.0) ∙ ap (λ qs. first ∷ qs) (is_list (suc first) ps both.1)

    list_is : (first n : ℕ) → (are_counted first (count_from first n) && (length (count_from first n) == n)) ≡ true
    list_is first zero = refl
    list_is first (suc n) =
        let both = and_parts (are_counted (suc first) (count_from (suc first) n)) (length (count_from (suc first) n) == n) (list_is (suc first) n) in
        and_from ((first == first) && are_counted (suc first) (count_from (suc first) n)) (suc (length (count_from (suc first) n)) == suc n)
        (and_from (first == first) (are_counted (suc first) (count_from (suc first) n)) (eq-eqb first first refl) both.0)
        (eq-eqb (suc (length (count_from (suc first) n))) (suc n) (ap suc (eqb-true (length (count_from (suc first) n)) n both.1)))
