-- From before one iteration to before a later one.
use Rattle.std.proofs.Common.{◌≡◌, ℕ, zero, suc, ◌+◌, ◌<◌, ◌≤◌, List, [], ◌∷◌, ◌++◌, map, drop, refl, sym, ◌∙◌, subst, arith}
use Rattle.graph_meaning.specs.Carried.{Carried}
use Rattle.graph_meaning.specs.Forms.{items, places_of, rows_of}
use Rattle.ordered_meaning.specs.Laws.{counting}
use Rattle.ordered_meaning.specs.Ordered.{RowsYield, Total}
use Rattle.run_code.proofs.Folding.{puts_all}
use Rattle.run_code.proofs.Totals.{both-fire, nothing-fires}
use Rattle.run_code.specs.Cells.{At, Cells, Lit, Operand, cells_at, cells_from, own_cells}
use Rattle.run_code.specs.Coded.{AreCoded, ForAllIs, Layout, the_for_all, yields}
use Rattle.run_code.specs.Collections.{Collect, put_all}
use Rattle.run_code.specs.Machine.{Frame, Reaches, at, counted, counter, stays}
use Rattle.run_code.specs.Machine as machine
use Rattle.run_code.specs.Steps.{Each}
use Rattle.run_laws.specs.Facts.{AreLong}
use Rattle.run_laws.proofs.Cells as cells
use Rattle.run_laws.proofs.Cells.{Same}
use Rattle.run_laws.proofs.ForAlls.{IsSpread, Over, adds-go, after-next, each-goes, mine, row-on, row_cells, spread-later, top}
use Rattle.run_laws.proofs.Forward.{forward}
use Rattle.run_laws.proofs.Passing.{Below, any-part, part-of, part-runs}
use Rattle.run_laws.proofs.Stepping.{comes-as, comes-then, counts, one-step}
use Rattle.run_ranges.specs.Ranges.{DoRangesGo, Goes, HoldsAll, IsBefore, put_rows, rows_from}

-- ---- rows of an Each

module _ (X : Layout) (limit room : ℕ) (args : List Operand) (generator body returns m : ℕ) (own : List Carried → List Carried → ℕ) (w a b lo : ℕ) (x : Over X limit room args generator body returns m own w a b lo) where
  abbrev Spread : (base : ℕ) (cells : Cells) (ks ms cols : List Carried) (i : ℕ) → Type 0
  Spread base cells ks ms cols i = IsSpread X limit room args generator body returns m own w a b lo x base cells ks ms cols i

  abbrev peak : ℕ
  peak = top X limit room args generator body returns m own w a b lo x

  pub record Passed (base : ℕ) (cells : Cells) (calls : List Frame) (fires fires' : ℕ) (ks ms cols : List Carried) (more : List (List Carried)) (i : ℕ) : Type 0 where
    pub last : Cells
    pub adds : ℕ
    pub comes : Reaches X.weigh limit X.code (at x.turns base cells calls fires) (at x.turns base last calls fires') adds
    pub kept : IsSpread X limit room args generator body returns m own w a b lo x base last ks ms (puts_all x.cs more cols) i

  pub some-pass : (n : ℕ) → Below X limit (suc n) → (k : ℕ) (base : ℕ) (cells : Cells) (calls : List Frame) (fires : ℕ) (ks ms cols : List Carried) (i : ℕ) (more : List (List Carried)) (c : Total (counting X.weights))
      → AreLong (places_of ms) ms → i + k ≤ places_of ms → IsSpread X limit room args generator body returns m own w a b lo x base cells ks ms cols i
      → RowsYield (counting X.weights) X.network X.order (yields X n) body (map (λ r. ks ++ r) (rows_of k (map (drop i) (map items ms)))) more c → fires + c.fires ≤ limit
      → Passed base cells calls fires (fires + c.fires) ks ms cols more (i + k)
  some-pass n below zero base cells calls fires ks ms cols i more c long full h goes le =
      let zf = nothing-fires X.weights c goes.1 in
      record {
        last = cells;
        adds = 0;
        comes = comes-as X.weigh limit X.code (at x.turns base cells calls fires) x.turns base cells calls fires (fires + c.fires) 0 0 (omega (arith, zf)) refl (stays (at x.turns base cells calls fires));
        kept = subst (λ z. Spread base cells ks ms (puts_all x.cs z cols) (i + 0)) (sym goes.0) (subst (Spread base cells ks ms cols) (omega arith) h);
      }
  some-pass n below (suc k) base cells calls fires ks ms cols i more c long full h goes le =
      let rs = goes.0 in
      let others = goes.1 in
      let one = goes.2 in
      let later = goes.3 in
      let bf = both-fire X.weights c one later 1 0 goes.7 in
      let lt : i < places_of ms = omega (arith, full) in
      let now = row_cells X limit room args generator body returns m own w a b lo x base cells ms i in
      let row = row-on X limit room args generator body returns m own w a b lo x base cells ks ms cols i h long lt in
      let begins = one-step X.weigh limit X.code x.turns base cells calls fires (at x.turn base now calls (suc fires)) (Each x.n x.mid peak x.turn x.leave) 0 x.each_is
      (each-goes X limit room args generator body returns m own w a b lo x base cells calls fires ks ms cols i h lt ∙ counts limit X.code fires (λ f. machine.Goes (at x.turn base now calls f)) (omega (arith, le, bf))) refl in
      let r = part-runs X limit (suc n) n (omega arith) below room (x.for_body ++ cells_at (suc peak) x.n) body x.turn x.turned (suc peak + x.n) x.nexts x.turning base now calls (suc fires) (ks ++ machine.elements i ms) rs one
      row.lent goes.4 (omega (arith, le, bf)) in
      let d = adds-go X limit room args generator body returns m own w a b lo x base r.cells' calls (suc fires + one.fires) ks ms cols rs (suc i)
      (spread-later X limit room args generator body returns m own w a b lo x base r.cells' now ks ms cols (suc i) (λ j lt. r.same j (omega (arith, lt))) row.kept) r.told in
      let q = some-pass n below k base d.last calls (suc fires + one.fires) ks ms (put_all x.cs rs cols) (suc i) others later long (omega (arith, full)) d.kept
      (subst (λ z. RowsYield (counting X.weights) X.network X.order (yields X n) body z others later) (after-next X limit room args generator body returns m own w a b lo x k ks ms i) goes.5) (omega (arith, le, bf)) in
      let here = X.weights.of_results body rs + x.extra rs in
      record {
        last = q.last;
        adds = 0 + (r.sum + (here + q.adds));
        comes = comes-as X.weigh limit X.code (at x.turns base cells calls fires) x.turns base q.last calls ((suc fires + one.fires) + later.fires) (fires + c.fires) (0 + (r.sum + (here + q.adds))) (0 + (r.sum + (here + q.adds))) (omega (arith, bf)) refl
            (comes-then X.weigh limit X.code (at x.turns base cells calls fires) (at x.turn base now calls (suc fires)) (at x.turns base q.last calls ((suc fires + one.fires) + later.fires)) 0 (r.sum + (here + q.adds)) begins
            (comes-then X.weigh limit X.code (at x.turn base now calls (suc fires)) (at x.turned base r.cells' calls (suc fires + one.fires)) (at x.turns base q.last calls ((suc fires + one.fires) + later.fires)) r.sum (here + q.adds) r.comes
            (comes-then X.weigh limit X.code (at x.turned base r.cells' calls (suc fires + one.fires)) (at x.turns base d.last calls (suc fires + one.fires)) (at x.turns base q.last calls ((suc fires + one.fires) + later.fires)) here q.adds d.comes q.comes)));
        kept = subst (λ z. Spread base q.last ks ms (puts_all x.cs z cols) (i + suc k)) (sym goes.6) (subst (Spread base q.last ks ms (puts_all x.cs others (put_all x.cs rs cols))) (omega arith) q.kept);
      }

-- ---- a ForAll in code

module _ (X : Layout) (limit : ℕ) where
  abbrev pub all-of : (room : ℕ) (args : List Operand) (generator body returns m : ℕ) (own : List Carried → List Carried → ℕ) (w a b lo : ℕ)
      → ForAllIs X room args generator body returns m own w a b lo → Over X limit room args generator body returns m own w a b lo
  all-of room _ _ _ _ _ _ _ _ _ _ (the_for_all args generator body returns m own w a b lo picks mid n k made turns turn turned leave left other nodes results cs extra lists nexts lasts for_body for_returns
      start generating spreads_are made_weighs lists_many cs_many each_is body_lent turning adds turn_weighs turn_many within refolds returns_lent returning hands) =
      record {
        picks = picks;
        mid = mid;
        n = n;
        k = k;
        other = other;
        nodes = nodes;
        results = results;
        cs = cs;
        extra = extra;
        cs_many = cs_many;
        within = within;
        refolds = refolds;
        made = made;
        turns = turns;
        turn = turn;
        turned = turned;
        leave = leave;
        left = left;
        lists = lists;
        nexts = nexts;
        lasts = lasts;
        for_body = for_body;
        for_returns = for_returns;
        start = start;
        generating = part-of X limit room (own_cells picks args (lo + w)) generator (suc (suc a)) made mid lists generating;
        spreads_are = spreads_are;
        made_weighs = made_weighs;
        lists_many = lists_many;
        each_is = each_is;
        body_lent = body_lent;
        turning = part-of X limit room (for_body ++ cells_at (suc (mid + (n + k))) n) body turn turned (suc (mid + (n + k)) + n) nexts turning;
        adds = adds;
        turn_weighs = turn_weighs;
        turn_many = turn_many;
        returns_lent = returns_lent;
        returning = any-part X limit room ((for_returns ++ cells_at mid n) ++ cells_at (mid + n) k) other nodes results leave left (mid + (n + k)) lasts returning;
        hands = hands;
      }

-- ---- what cells have

-- what is held here is held there
pub held-to : (now : Cells) (base lo : ℕ) (args : List Operand) (ks : List Carried) → HoldsAll now base lo args ks → cells.HoldsAll now base lo args ks
held-to now base lo [] [] h = tt
held-to now base lo [] (k ∷ ks) h = absurd h
held-to now base lo (a ∷ args) [] h = absurd h
held-to now base lo (At i ∷ args) (k ∷ ks) h = (h.0, held-to now base lo args ks h.1)
held-to now base lo (Lit c ∷ args) (k ∷ ks) h = (h.0, held-to now base lo args ks h.1)

pub held-of : (now : Cells) (base lo : ℕ) (args : List Operand) (ks : List Carried) → cells.HoldsAll now base lo args ks → HoldsAll now base lo args ks
held-of now base lo [] [] h = tt
held-of now base lo [] (k ∷ ks) h = absurd h
held-of now base lo (a ∷ args) [] h = absurd h
held-of now base lo (At i ∷ args) (k ∷ ks) h = (h.0, held-of now base lo args ks h.1)
held-of now base lo (Lit c ∷ args) (k ∷ ks) h = (h.0, held-of now base lo args ks h.1)

-- cells in a row have what is in them
held-there : (now : Cells) (base lo i n : ℕ) → i + n ≤ lo → cells.HoldsAll now base lo (cells_at i n) (cells_from now (base + i) n)
held-there now base lo i zero le = tt
held-there now base lo i (suc n) le =
    ((omega (arith, le), refl), subst (λ z. cells.HoldsAll now base lo (cells_at (suc i) n) (cells_from now z n)) (omega arith) (held-there now base lo (suc i) n (omega (arith, le))))

pub held-row : (now : Cells) (base lo i n : ℕ) (ks : List Carried) → i + n ≤ lo → cells_from now (base + i) n ≡ ks → cells.HoldsAll now base lo (cells_at i n) ks
held-row now base lo i n ks le e = subst (cells.HoldsAll now base lo (cells_at i n)) e (held-there now base lo i n le)

pub puts-same : (cs : List Collect) (rows : List (List Carried)) (ms : List Carried) → puts_all cs rows ms ≡ put_rows cs rows ms
puts-same cs [] ms = refl
puts-same cs (r ∷ rs) ms = puts-same cs rs (put_all cs r ms)

-- ---- the law

module _ (X : Layout) (limit : ℕ) (coded : AreCoded X) (base : ℕ) (now : Cells) (calls : List Frame) (fires : ℕ) (ks ms cols : List Carried) (i k : ℕ) (long : AreLong (places_of ms) ms) (full : i + k ≤ places_of ms) (n : ℕ) (results : List (List Carried)) (c : Total (counting X.weights)) (le : fires + c.fires ≤ limit) where
  to-go : (room : ℕ) (args : List Operand) (generator body returns m : ℕ) (own : List Carried → List Carried → ℕ) (w a b lo : ℕ) (is : ForAllIs X room args generator body returns m own w a b lo)
      → IsBefore X (record { room = room; args = args; generator = generator; body = body; returns = returns; many = m; own = own; width = w; begin = a; end = b; low = lo; is = is }) base now ks ms cols i
      → RowsYield (counting X.weights) X.network X.order (yields X n) body (rows_from i k ks ms) results c
      → Goes X limit (record { room = room; args = args; generator = generator; body = body; returns = returns; many = m; own = own; width = w; begin = a; end = b; low = lo; is = is }) base now calls fires c.fires ks ms cols i k results
  to-go room _ _ _ _ _ _ _ _ _ _ (the_for_all args generator body returns m own w a b lo picks mid j q made turns turn turned leave left other nodes outs cs extra lists nexts lasts for_body for_returns
      start generating spreads_are made_weighs lists_many cs_many each_is body_lent turning adds turn_weighs turn_many within refolds returns_lent returning hands) h goes =
      let is = the_for_all args generator body returns m own w a b lo picks mid j q made turns turn turned leave left other nodes outs cs extra lists nexts lasts for_body for_returns
      start generating spreads_are made_weighs lists_many cs_many each_is body_lent turning adds turn_weighs turn_many within refolds returns_lent returning hands in
      let x = all-of X limit room args generator body returns m own w a b lo is in
      let p = some-pass X limit room args generator body returns m own w a b lo x n (forward X limit coded (suc n)) k base now calls fires ks ms cols i results c long full
      (record {
        outer = held-to now base lo args ks h.inputs;
        inner = held-to now base mid (mine X limit room args generator body returns m own w a b lo x) ks h.copies;
        given = held-row now base (mid + (j + q)) mid j ms (omega arith) h.multiples;
        built = held-row now base (mid + (j + q)) (mid + j) q cols (omega arith) h.collected;
        at_turn = h.counted;
      }) goes le in
      let kept = p.kept in
      record {
        last = p.last;
        adds = p.adds;
        reaches = p.comes;
        before = record {
          inputs = held-of p.last base lo args ks kept.outer;
          copies = held-of p.last base mid (mine X limit room args generator body returns m own w a b lo x) ks kept.inner;
          multiples = cells.cells-held p.last base (mid + (j + q)) mid j ms kept.given;
          collected = cells.cells-held p.last base (mid + (j + q)) (mid + j) q (puts_all cs results cols) kept.built ∙ puts-same cs results cols;
          counted = kept.at_turn;
        };
      }

pub ranges-go : DoRangesGo
ranges-go X limit coded f base now calls fires ks ms cols i k before long full n results c goes le =
    to-go X limit coded base now calls fires ks ms cols i k long full n results c le f.room f.args f.generator f.body f.returns f.many f.own f.width f.begin f.end f.low f.is before goes
