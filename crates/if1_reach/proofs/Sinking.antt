-- Least weights by one pass from the end of a stretch.
use Rattle.std.proofs.Common.{◌≡◌, ◌≢◌, ◌∙◌, ℕ, ◌+◌, ◌<◌, ◌≤◌, List, [], ◌∷◌, ◌++◌, length, take, set, slice_index, slice_index_or, Contains, ◌⊎◌, inl, inr, arith, refl, sym, ap, subst}
use Rattle.std.proofs.lemmas.Bool.{cases_lt, cases_eq}
use Rattle.std.proofs.lemmas.List.{length-set, get_or-set_same, get_or-set_other, take_more, take_all}
use Rattle.std.proofs.lemmas.List.Elements.{Contains-get_or, Contains-push, Contains-push_cases, Contains-append_left}
use Rattle.if1_marks.proofs.Lists.{in-none}
use Rattle.if1_order.specs.Walks.{Lists, feeders_of, AreInside, Leads, step, onward}
use Rattle.if1_reach.specs.declared.ranks.Ranks.{Ranks}
use Rattle.if1_reach.specs.Ranks.{IsRanked}
use Rattle.if1_reach.specs.Least.{AreLowered, IsInStretch, IsOrLeads, AreLeast}
use Rattle.if1_reach.proofs.Ranking.{leads-up}

pub none-lowered : (v : ℕ) (ws ps : List ℕ) → AreLowered (take 0 ps) v ws ws
none-lowered v ws ps = record { fit = refl; down = λ x. omega arith; low = λ x h c. in-none x c; kept = λ x. inl refl }

module _ (ps : List ℕ) (n v : ℕ) (old now : List ℕ) (was : AreLowered (take n ps) v old now) (h : n < length ps) where
  abbrev at : ℕ
  at = slice_index ps n

  more : (P : List ℕ → Type 0) → P (take n ps ++ at ∷ []) → P (take (n + 1) ps)
  more P p = subst P (sym (take_more ps n 0 h)) p

  -- its weight is no greater already
  pub lowered-kept : slice_index now at ≤ v → AreLowered (take (n + 1) ps) v old now
  lowered-kept le =
      record {
        fit = was.fit;
        down = was.down;
        low = λ x i c. elim (Contains-push_cases (take n ps) at x (subst (λ ks. Contains ks x) (take_more ps n 0 h) c)) [
          | inl j ↦ was.low x i j
          | inr same ↦ subst (λ z. slice_index now z ≤ v) same le
        ];
        kept = λ x. elim (was.kept x) [
          | inl e ↦ inl e
          | inr r ↦ inr (more (λ ks. Contains ks x) (Contains-append_left (take n ps) (at ∷ []) x r.0), r.1)
        ];
      }

  pub lowered-set : at < length old → v < slice_index now at → (new : List ℕ) → new ≡ set now at v → AreLowered (take (n + 1) ps) v old new
  lowered-set inside lt new e =
      subst (AreLowered (take (n + 1) ps) v old) (sym e)
      (record {
        fit = length-set now at v ∙ was.fit;
        down = λ x. elim (cases_eq x at) [
          | inl same ↦ subst (λ z. slice_index (set now at v) z ≤ slice_index old z) (sym same)
              (let d = was.down at in let s = get_or-set_same now at v 0 (omega (arith, inside, was.fit)) in omega (arith, d, s, lt))
          | inr ne ↦ let d = was.down x in let s = get_or-set_other now at x v 0 ne in omega (arith, d, s)
        ];
        low = λ x i c. elim (cases_eq x at) [
          | inl same ↦ subst (λ z. slice_index (set now at v) z ≤ v) (sym same) (let s = get_or-set_same now at v 0 (omega (arith, inside, was.fit)) in omega (arith, s))
          | inr ne ↦ elim (Contains-push_cases (take n ps) at x (subst (λ ks. Contains ks x) (take_more ps n 0 h) c)) [
            | inl j ↦ let d = was.low x i j in let s = get_or-set_other now at x v 0 ne in omega (arith, d, s)
            | inr same ↦ absurd (ne (sym same))
          ]
        ];
        kept = λ x. elim (cases_eq x at) [
          | inl same ↦ inr (
            more (λ ks. Contains ks x) (subst (Contains (take n ps ++ at ∷ [])) (sym same) (Contains-push (take n ps) at)),
            subst (λ z. slice_index (set now at v) z ≡ v) (sym same) (get_or-set_same now at v 0 (omega (arith, inside, was.fit))),
          )
          | inr ne ↦ elim (was.kept x) [
            | inl e ↦ inl (get_or-set_other now at x v 0 ne ∙ e)
            | inr r ↦ inr (more (λ ks. Contains ks x) (Contains-append_left (take n ps) (at ∷ []) x r.0), get_or-set_other now at x v 0 ne ∙ r.1)
          ]
        ];
      })

pub all-lowered : (ps : List ℕ) (n v : ℕ) (old now : List ℕ) → AreLowered (take n ps) v old now → length ps ≤ n → AreLowered ps v old now
all-lowered ps n v old now was h = subst (λ ks. AreLowered ks v old now) (take_all n ps h) was

-- ---- the pass

-- the weights, once all places from this rank on were passed
pub record AreSunk (lists : Lists) (ranks : List ℕ) (first end : ℕ) (weights : List ℕ) (rank : ℕ) (now : List ℕ) : Type 0 where
  pub high : rank ≤ end
  pub fit : length now ≡ length lists
  pub found : (x : ℕ) → IsInStretch lists ranks first end x → (y : ℕ) × IsInStretch lists ranks first end y × IsOrLeads lists x y × (slice_index now x ≡ slice_index weights y)
  pub down : (x : ℕ) → slice_index now x ≤ slice_index weights x
  pub done : (x y : ℕ) → IsInStretch lists ranks first end x → IsInStretch lists ranks first end y → rank ≤ slice_index ranks y → Contains (feeders_of lists y) x → slice_index now x ≤ slice_index now y

module _ (lists : Lists) (r : Ranks) (inside : AreInside lists) (w : IsRanked lists r) (first end : ℕ) (weights : List ℕ) where
  abbrev In : ℕ → Type 0
  In = IsInStretch lists r.ranks first end

  abbrev Sunk : ℕ → List ℕ → Type 0
  Sunk rank now = AreSunk lists r.ranks first end weights rank now

  pub sink-start : length weights ≡ length lists → (rank : ℕ) → rank ≡ end → Sunk rank weights
  sink-start fit rank e =
      record {
        high = omega (arith, e);
        fit = fit;
        found = λ x i. (x, i, inl refl, refl);
        down = λ x. omega arith;
        done = λ x y i j h c. absurd (omega (arith, e, h, j.to));
      }

  module _ (rank : ℕ) (now : List ℕ) (was : Sunk rank now) (next place v : ℕ) (is-next : next + 1 ≡ rank) (low : first ≤ next) (there : place < length lists) (has-rank : slice_index r.ranks place ≡ next) (is-v : v ≡ slice_index now place) where
    in-place : In place
    in-place = record { there = there; from = omega (arith, has-rank, low); to = omega (arith, has-rank, is-next, was.high) }

    not-fed : (x : ℕ) → next ≤ slice_index r.ranks x → ¬ Contains (feeders_of lists place) x
    not-fed x h c = let a = w.along x place c in omega (arith, a, has-rank, h)

    pub sink-next : (new : List ℕ) → AreLowered (feeders_of lists place) v now new → Sunk next new
    sink-next new l =
        record {
          high = omega (arith, is-next, was.high);
          fit = l.fit ∙ was.fit;
          found = λ x i. elim (l.kept x) [
            | inl same ↦ let f = was.found x i in (f.0, f.1, f.2, same ∙ f.3)
            | inr k ↦
                let f = was.found place in-place in
                (f.0, f.1, inr (through x f.0 k.0 f.2), k.1 ∙ (is-v ∙ f.3))
          ];
          down = λ x. let a = l.down x in let b = was.down x in omega (arith, a, b);
          done = λ x y i j h c. elim (l.kept y) [
            | inr k ↦ absurd (not-fed y h k.0)
            | inl same ↦ later x y i j h c same (cases_eq y place)
          ];
        }
      where
        through : (x y : ℕ) → Contains (feeders_of lists place) x → IsOrLeads lists place y → Leads lists x y
        through x y c (inl e) = subst (Leads lists x) e (step c)
        through x y c (inr v) = onward c v

        later : (x y : ℕ) → In x → In y → next ≤ slice_index r.ranks y → Contains (feeders_of lists y) x → slice_index new y ≡ slice_index now y → (y ≡ place) ⊎ (y ≢ place) → slice_index new x ≤ slice_index new y
        later x y i j h c same (inl e) =
            let a = l.low x (omega (arith, i.there, was.fit)) (subst (λ z. Contains (feeders_of lists z) x) e c) in
            let b : slice_index now y ≡ slice_index now place = ap (slice_index now) e in
            omega (arith, a, same, b, is-v)
        later x y i j h c same (inr ne) =
            let up : rank ≤ slice_index r.ranks y = above y j (cases_lt next (slice_index r.ranks y)) h ne in
            let a = was.done x y i j up c in
            let b = l.down x in
            omega (arith, a, b, same)
          where
            above : (y : ℕ) → In y → (next < slice_index r.ranks y) ⊎ (slice_index r.ranks y ≤ next) → next ≤ slice_index r.ranks y → y ≢ place → rank ≤ slice_index r.ranks y
            above y j (inl lt) h ne = omega (arith, lt, is-next)
            above y j (inr le) h ne =
                let e : slice_index r.ranks y ≡ slice_index r.ranks place = omega (arith, le, h, has-rank) in
                absurd (ne (sym (w.stands y j.there) ∙ (ap (slice_index r.order) e ∙ w.stands place there)))

  pub sink-end : (rank : ℕ) (now : List ℕ) → Sunk rank now → rank ≤ first → AreLeast lists r.ranks first end weights now
  sink-end rank now was h =
      record {
        fit = was.fit;
        found = was.found;
        below = λ x y i j l. under x y i j l;
      }
    where
      along : {x y : ℕ} → Leads lists x y → In x → In y → slice_index now x ≤ slice_index now y
      along (step {s = s} {t = t} c) i j = was.done s t i j (omega (arith, h, j.from)) c
      along (onward {s = s} {t = t} {u = u} c v) i j =
          let up = w.along s t c in
          let down = leads-up lists r w v in
          let k : In t = record { there = middle t v; from = omega (arith, i.from, up); to = omega (arith, j.to, down) } in
          let a = was.done s t i k (omega (arith, h, k.from)) c in
          let b = along v k j in
          omega (arith, a, b)
        where
          middle : (t : ℕ) → Leads lists t u → t < length lists
          middle t (step {s = s} {t = t2} c) = inside s t2 c
          middle t (onward {s = s} {t = t2} {u = u2} c v) = inside s t2 c

      under : (x y : ℕ) → In x → In y → IsOrLeads lists x y → slice_index now x ≤ slice_index weights y
      under x y i j (inl e) = subst (λ z. slice_index now x ≤ slice_index weights z) e (was.down x)
      under x y i j (inr l) = let a = along l i j in let b = was.down y in omega (arith, a, b)

pub fed-inside : (lists : Lists) (at n : ℕ) (items : List ℕ) → AreInside lists → items ≡ feeders_of lists at → length lists ≡ n → (k d : ℕ) → k < length items → slice_index_or items k d < n
fed-inside lists at n items inside e fit k d h =
    subst (λ z. slice_index_or items k d < z) fit (inside (slice_index_or items k d) at (subst (λ xs. Contains xs (slice_index_or items k d)) e (Contains-get_or items k d h)))
