-- From before one iteration to before a later one, where the body keeps to itself: the machine stands before each of them once.
use Rattle.std.proofs.Common.{◌≡◌, ℕ, zero, suc, ◌+◌, ◌<◌, ◌≤◌, ◌⊎◌, inl, inr, List, [], ◌∷◌, ◌++◌, length, map, drop, pos, replicate, refl, sym, ap, ◌∙◌, subst, arith}
use Rattle.flow_value.specs.declared.value.Val.{Val}
use Rattle.flow_value.specs.declared.value.Val.TheVariants as val
use Rattle.graph_meaning.specs.Carried.{Carried, Many}
use Rattle.graph_meaning.specs.Forms.{items, places_of, rows_of}
use Rattle.ordered_meaning.specs.Laws.{counting}
use Rattle.ordered_meaning.specs.Ordered.{RowsYield, Total}
use Rattle.run_code.proofs.Folding.{puts_all}
use Rattle.run_code.proofs.Totals.{both-fire, nothing-fires}
use Rattle.run_code.specs.Cells.{Cells, Operand, cells_at, cells_from, look, write}
use Rattle.run_code.specs.Coded.{Layout, graph_yields, yields}
use Rattle.run_code.specs.Collections.{put_all}
use Rattle.run_code.specs.Machine.{Goes, at, counter, elements}
use Rattle.run_code.specs.Steps.{Each}
use Rattle.run_laws.specs.Facts.{AreLong}
use Rattle.run_laws.proofs.Cells.{HoldsAll, Same, all-later, as-many, cells-held, held-both, write-below, write-in}
use Rattle.run_laws.proofs.ForAlls.{IsSpread, Over, adds-go, after-next, each-goes, low, mine, row-on, row_cells, spread-later, top}
use Rattle.run_laws.proofs.Passing.{Below, of-two, part-runs}
use Rattle.run_laws.proofs.Rows.{row-length, write-above}
use Rattle.run_laws.proofs.Stepping.{counts, does}
use Rattle.run_ranges.specs.Apart.{AreApart, StepsApart}
use Rattle.run_ranges.proofs.Apart.{looks-same}
use Rattle.run_ranges.proofs.Bodies.{Path, from-same, here, onward, path-both, through}
use Rattle.run_ranges.proofs.Going.{held-row}

-- ---- other cells for the ForAll

many-items : (n : ℕ) (v : Val) → length (replicate n v) ≡ n
many-items zero v = refl
many-items (suc n) v = ap suc (many-items n v)

-- so many elements that they never end
abbrev endless : ℕ → Carried
endless limit = Many (replicate (suc limit) (val.Int (pos 0)))

some-multiple : (i : ℕ) (ms : List Carried) → i < places_of ms → 0 < length ms
some-multiple i [] lt = absurd (omega (arith, lt))
some-multiple i (m ∷ ms) lt = omega arith

held-second : (cells : Cells) (base lo : ℕ) (as₁ bs : List Operand) (ks ls : List Carried) → length as₁ ≡ length ks → HoldsAll cells base lo (as₁ ++ bs) (ks ++ ls) → HoldsAll cells base lo bs ls
held-second cells base lo [] bs [] ls e h = h
held-second cells base lo [] bs (k ∷ ks) ls e h = absurd (omega (arith, e))
held-second cells base lo (a ∷ as₁) bs [] ls e h = absurd (omega (arith, e))
held-second cells base lo (a ∷ as₁) bs (k ∷ ks) ls e h = held-second cells base lo as₁ bs ks ls (omega (arith, e)) h.1

module _ (limit first n count base : ℕ) (some : 0 < n) (fits : first + n ≤ count) (now : Cells) where
  abbrev others : Cells
  others = write (base + first) 1 (endless limit ∷ []) (write (base + count) 1 (counter 0 ∷ []) now)

  others-below : (j : ℕ) → j < base + first → others j ≡ now j
  others-below j lt =
      write-below (base + first) 1 (endless limit ∷ []) (write (base + count) 1 (counter 0 ∷ []) now) j lt ∙ write-below (base + count) 1 (counter 0 ∷ []) now j (omega (arith, lt, fits))

  others-above : (j : ℕ) → base + count < j → others j ≡ now j
  others-above j lt =
      write-above (base + first) 1 (endless limit ∷ []) (write (base + count) 1 (counter 0 ∷ []) now) j (omega (arith, lt, fits)) ∙ write-above (base + count) 1 (counter 0 ∷ []) now j (omega (arith, lt))

  others-agree : (j : ℕ) → (j < base + first) ⊎ (base + count < j) → now j ≡ others j
  others-agree j (inl lt) = sym (others-below j lt)
  others-agree j (inr lt) = sym (others-above j lt)

  others-count : others (base + count) ≡ counter 0
  others-count =
      write-above (base + first) 1 (endless limit ∷ []) (write (base + count) 1 (counter 0 ∷ []) now) (base + count) (omega (arith, some, fits))
      ∙ (ap (write (base + count) 1 (counter 0 ∷ []) now) (omega arith) ∙ write-in (base + count) 1 (counter 0 ∷ []) now 0 (omega arith))

  others-first : others (base + first) ≡ endless limit
  others-first = ap others (omega arith) ∙ write-in (base + first) 1 (endless limit ∷ []) (write (base + count) 1 (counter 0 ∷ []) now) 0 (omega arith)

  first-long : (m : ℕ) → 0 < m → limit < places_of (cells_from others (base + first) m)
  first-long zero lt = absurd (omega (arith, lt))
  first-long (suc m) lt =
      let e : length (items (others (base + first))) ≡ suc limit = ap (λ c. length (items c)) others-first ∙ many-items (suc limit) (val.Int (pos 0)) in
      omega (arith, e)

  others-long : limit < places_of (cells_from others (base + first) n)
  others-long = first-long n some

-- ---- iterations

module _ (X : Layout) (limit room : ℕ) (args : List Operand) (generator body returns m : ℕ) (own : List Carried → List Carried → ℕ) (w a b lo : ℕ) (x : Over X limit room args generator body returns m own w a b lo)
    (apart_is : (pc : ℕ) → x.turn ≤ pc → pc < x.turned → StepsApart x.turn x.turned x.mid (x.mid + (x.n + x.k)) pc (X.code pc)) (results : AreApart x.mid (x.mid + (x.n + x.k)) x.nexts) (ahead : x.turn ≤ x.turned) (behind : x.turned < x.turns) where
  abbrev peak : ℕ
  peak = top X limit room args generator body returns m own w a b lo x

  abbrev Goal : (base until : ℕ) → Cells → (fires : ℕ) → Cells → (fires' : ℕ) → Type 0
  Goal base until cells fires last fires' =
      Path X limit x.turn x.turned x.mid x.n x.k x.turns x.leave base x.cs x.nexts apart_is x.each_is x.adds x.cs_many ahead behind until (at x.turns base cells [] fires) (at x.turns base last [] fires')

  pub record Steadily (base until : ℕ) (cells : Cells) (fires fires' : ℕ) (ks ms cols : List Carried) (more : List (List Carried)) (i : ℕ) : Type 0 where
    pub last : Cells
    pub path : Path X limit x.turn x.turned x.mid x.n x.k x.turns x.leave base x.cs x.nexts apart_is x.each_is x.adds x.cs_many ahead behind until (at x.turns base cells [] fires) (at x.turns base last [] fires')
    pub kept : IsSpread X limit room args generator body returns m own w a b lo x base last ks ms (puts_all x.cs more cols) i

  -- the body, on an iteration's cells
  record Bodily (base until : ℕ) (now : Cells) (fires fires' : ℕ) (rs : List Carried) : Type 0 where
    pub last : Cells
    pub path : Path X limit x.turn x.turned x.mid x.n x.k x.turns x.leave base x.cs x.nexts apart_is x.each_is x.adds x.cs_many ahead behind until (at x.turn base now [] fires) (at x.turned base last [] fires')
    pub kept : (j : ℕ) → j ≤ base + peak → last j ≡ now j
    pub told : map (look last base) x.nexts ≡ rs

  bodily : (n : ℕ) → Below X limit (suc n) → (base until : ℕ) (now : Cells) (fires : ℕ) (ks ms cols es : List Carried) (i : ℕ) (rs : List Carried) (one : Total (counting X.weights)) → 0 < x.n
      → IsSpread X limit room args generator body returns m own w a b lo x base now ks ms cols i → HoldsAll now base (suc peak + x.n) (x.for_body ++ cells_at (suc peak) x.n) (ks ++ es)
      → graph_yields X n body (ks ++ es) rs one → fires + one.fires ≤ limit → Bodily base until now fires (fires + one.fires) rs
  bodily n below base until now fires ks ms cols es i rs one some h lent goes le =
      let l = low X limit room args generator body returns m own w a b lo x in
      let fits : x.mid + x.n ≤ peak = omega arith in
      let cells = others limit x.mid x.n peak base some fits now in
      let same : Same (base + x.mid) cells now = λ j lt. others-below limit x.mid x.n peak base some fits now j lt in
      let my = mine X limit room args generator body returns m own w a b lo x in
      let outer = all-later cells now base lo lo args ks (omega arith) (λ j lt. same j (omega (arith, lt, l))) h.outer in
      let inner = all-later cells now base x.mid x.mid my ks (omega arith) same h.inner in
      let few = as-many now base (suc peak + x.n) x.for_body ks (of-two now base lo x.mid (suc peak + x.n) args my x.for_body ks x.body_lent (omega (arith, l)) (omega arith) h.outer h.inner) in
      let there = cells-held now base (suc peak + x.n) (suc peak) x.n es (held-second now base (suc peak + x.n) x.for_body (cells_at (suc peak) x.n) ks es few lent) in
      let given = held-both cells base (suc peak + x.n) x.for_body (cells_at (suc peak) x.n) ks es (of-two cells base lo x.mid (suc peak + x.n) args my x.for_body ks x.body_lent (omega (arith, l)) (omega arith) outer inner)
      (held-row cells base (suc peak + x.n) (suc peak) x.n es (omega arith) (from-same cells now (base + suc peak) x.n (λ j up lt. others-above limit x.mid x.n peak base some fits now j (omega (arith, up))) ∙ there)) in
      let r = part-runs X limit (suc n) n (omega arith) below room (x.for_body ++ cells_at (suc peak) x.n) body x.turn x.turned (suc peak + x.n) x.nexts x.turning base cells [] fires (ks ++ es) rs one given goes le in
      let zero_is = others-count limit x.mid x.n peak base some fits now in
      let q = through X limit x.turn x.turned x.mid x.n x.k x.turns x.leave base x.cs x.nexts apart_is x.each_is x.adds x.cs_many ahead behind (cells_from cells (base + x.mid) x.n) (others-long limit x.mid x.n peak base some fits now)
      X.weigh until (at x.turn base cells [] fires) (at x.turned base r.cells' [] (fires + one.fires)) r.sum r.comes (refl, omega arith, ahead) zero_is refl (refl, refl, refl) (r.same (base + peak) (omega arith) ∙ zero_is) now
      (others-agree limit x.mid x.n peak base some fits now) in
      record {
        last = q.last;
        path = q.path;
        kept = q.kept;
        told = looks-same X limit x.turn x.turned x.mid peak (omega arith) apart_is base base q.last r.cells' (λ i o. q.agree (base + i) (shift i o)) x.nexts results ∙ r.told;
      }
    where
      shift : (i : ℕ) → (i < x.mid) ⊎ (x.mid + (x.n + x.k) < i) → (base + i < base + x.mid) ⊎ (base + (x.mid + (x.n + x.k)) < base + i)
      shift i (inl lt) = inl (omega (arith, lt))
      shift i (inr lt) = inr (omega (arith, lt))

  pub some-steady : (n : ℕ) → Below X limit (suc n) → (k : ℕ) (base until : ℕ) (cells : Cells) (fires : ℕ) (ks ms cols : List Carried) (i : ℕ) (more : List (List Carried)) (c : Total (counting X.weights))
      → AreLong (places_of ms) ms → i + k ≤ places_of ms → i + k ≡ until → IsSpread X limit room args generator body returns m own w a b lo x base cells ks ms cols i
      → RowsYield (counting X.weights) X.network X.order (yields X n) body (map (λ r. ks ++ r) (rows_of k (map (drop i) (map items ms)))) more c → fires + c.fires ≤ limit
      → Steadily base until cells fires (fires + c.fires) ks ms cols more (i + k)
  some-steady n below zero base until cells fires ks ms cols i more c long full ends h goes le =
      let zf = nothing-fires X.weights c goes.1 in
      record {
        last = cells;
        path = subst (λ z. Goal base until cells fires cells z) (omega (arith, zf)) (here (at x.turns base cells [] fires));
        kept = subst (λ z. IsSpread X limit room args generator body returns m own w a b lo x base cells ks ms (puts_all x.cs z cols) (i + 0)) (sym goes.0)
            (subst (IsSpread X limit room args generator body returns m own w a b lo x base cells ks ms cols) (omega arith) h);
      }
  some-steady n below (suc k) base until cells fires ks ms cols i more c long full ends h goes le =
      let rs = goes.0 in
      let others = goes.1 in
      let one = goes.2 in
      let later = goes.3 in
      let bf = both-fire X.weights c one later 1 0 goes.7 in
      let lt : i < places_of ms = omega (arith, full) in
      let now = row_cells X limit room args generator body returns m own w a b lo x base cells ms i in
      let row = row-on X limit room args generator body returns m own w a b lo x base cells ks ms cols i h long lt in
      let given = cells-held cells base peak x.mid x.n ms h.given in
      let many = row-length cells base peak x.mid x.n ms h.given in
      let several = some-multiple i ms lt in
      let begins = does limit X.code (Each x.n x.mid peak x.turn x.leave) x.turns base cells [] fires (Goes (at x.turn base now [] (suc fires))) x.each_is
      (each-goes X limit room args generator body returns m own w a b lo x base cells [] fires ks ms cols i h lt ∙ counts limit X.code fires (λ f. Goes (at x.turn base now [] f)) (omega (arith, le, bf))) in
      let r = bodily n below base until now (suc fires) ks ms cols (elements i ms) (suc i) rs one (omega (arith, several, many)) row.kept row.lent goes.4 (omega (arith, le, bf)) in
      let d = adds-go X limit room args generator body returns m own w a b lo x base r.last [] (suc fires + one.fires) ks ms cols rs (suc i)
      (spread-later X limit room args generator body returns m own w a b lo x base r.last now ks ms cols (suc i) (λ j lt. r.kept j (omega (arith, lt))) row.kept) r.told in
      let q = some-steady n below k base until d.last (suc fires + one.fires) ks ms (put_all x.cs rs cols) (suc i) others later long (omega (arith, full)) (omega (arith, ends)) d.kept
      (subst (λ z. RowsYield (counting X.weights) X.network X.order (yields X n) body z others later) (after-next X limit room args generator body returns m own w a b lo x k ks ms i) goes.5) (omega (arith, le, bf)) in
      record {
        last = q.last;
        path = subst (λ z. Goal base until cells fires q.last z) (omega (arith, bf))
            (onward (at x.turns base cells [] fires) (at x.turn base now [] (suc fires)) (at x.turns base q.last [] ((suc fires + one.fires) + later.fires))
            (inr (inr ((refl, refl, refl), i, omega (arith, ends), h.at_turn, subst (λ z. i < places_of z) (sym given) lt))) begins
            (path-both X limit x.turn x.turned x.mid x.n x.k x.turns x.leave base x.cs x.nexts apart_is x.each_is x.adds x.cs_many ahead behind until
            (at x.turn base now [] (suc fires)) (at x.turned base r.last [] (suc fires + one.fires)) (at x.turns base q.last [] ((suc fires + one.fires) + later.fires)) r.path
            (onward (at x.turned base r.last [] (suc fires + one.fires)) (at x.turns base d.last [] (suc fires + one.fires)) (at x.turns base q.last [] ((suc fires + one.fires) + later.fires)) (inr (inl (refl, refl, refl))) d.went q.path)));
        kept = subst (λ z. IsSpread X limit room args generator body returns m own w a b lo x base q.last ks ms (puts_all x.cs z cols) (i + suc k)) (sym goes.6)
            (subst (IsSpread X limit room args generator body returns m own w a b lo x base q.last ks ms (puts_all x.cs others (put_all x.cs rs cols))) (omega arith) q.kept);
      }
