-- Where the machine ends from a ForAll on, the ForAll goes to its results.
--
-- By recursion on the iterations that are left, as many as the generator's multiples say.
use Rattle.std.proofs.Common.{◌≡◌, ℕ, zero, suc, ◌+◌, ◌<◌, ◌≤◌, false, List, [], ◌∷◌, ◌++◌, length, map, drop, refl, sym, ◌∙◌, subst, arith}
use Rattle.run_code.specs.Carried.{Carried}
use Rattle.run_code.specs.Forms.{Form, Next, Stage, Enter, Iterate, Leave, Generating, Returning, errors, follow, gather, iterate, spread, columns, first_spoiled, places_of, items, rows_of}
use Rattle.run_code.specs.Forms as form
use Rattle.run_code.proofs.Growing.{graph-on, rows-on, yields-on}
use Rattle.run_code.specs.Laws.{counting}
use Rattle.run_code.specs.Ordered.{RowsYield, Total, nothing, with_both}
use Rattle.run_code.proofs.Folding.{all-made, puts_all}
use Rattle.run_code.proofs.Refolding.{from-collected}
use Rattle.run_code.specs.Cells.{Cells, Operand, cells_at, look, own_cells}
use Rattle.run_code.specs.Coded.{AreCoded, Layout, yields}
use Rattle.run_code.specs.Collections.{collected, nothing_in, put_all}
use Rattle.run_code.specs.Machine.{EndsIn, Frame, Goes, State, at, elements, spreads}
use Rattle.run_code.specs.Refolds.{AllLong}
use Rattle.run_code.specs.Steps.{Each}
use Rattle.run_laws.proofs.Cells.{HoldsAll, Same, all-later}
use Rattle.run_laws.proofs.Ends.{Fewer, WentFrom, WentOn, any-went, enters, leaves-on, on-as, part-went, start-went}
use Rattle.run_laws.proofs.ForAlls.{IsSpread, Over, Spreading, adds-go, after-next, each-goes, each-leaves, goes_over, goes_wrong, lent-returns, low, plain-many, row-on, row_cells, spread-goes, spread-later, spreading}
use Rattle.run_laws.proofs.Rows.{drop-none}
use Rattle.run_laws.proofs.Stepping.{counts, does, end-next, within}
use Rattle.run_laws.specs.Facts.{AreLong}

module _ (X : Layout) (limit : ℕ) (coded : AreCoded X) (RS : List Carried) (END : ℕ) where
  module _ (room : ℕ) (args : List Operand) (generator body returns m : ℕ) (own : List Carried → List Carried → ℕ) (w a b lo : ℕ) (x : Over X limit room args generator body returns m own w a b lo) where
    abbrev F : Form
    F = form.ForAll generator body returns m w

    abbrev E : ℕ → State → Type 0
    E j s = EndsIn j limit X.code s RS END

    abbrev From : ℕ → Type 0
    From j = WentFrom X limit coded RS END j

    abbrev On : List Carried → Next → ℕ → Type 0
    On ks next fires = WentOn X limit coded RS END F ks next fires

    abbrev top : ℕ
    top = x.mid + (x.n + x.k)

    abbrev Spread' : ℕ → Cells → List Carried → List Carried → List Carried → ℕ → Type 0
    Spread' base cells ks ms cols i = IsSpread X limit room args generator body returns m own w a b lo x base cells ks ms cols i

    abbrev row_at : ℕ → Cells → List Carried → ℕ → Cells
    row_at base cells ms i = row_cells X limit room args generator body returns m own w a b lo x base cells ms i

    abbrev rows_after : ℕ → List Carried → List Carried → ℕ → List (List Carried)
    rows_after k ks ms i = map (λ r. ks ++ r) (rows_of k (map (drop i) (map items ms)))

    pub record RowsWent (base : ℕ) (cells : Cells) (calls : List Frame) (fires : ℕ) (ks ms cols : List Carried) (k i j : ℕ) : Type 0 where
      pub steps : ℕ
      pub lists : List (List Carried)
      pub cost : Total (counting X.weights)
      pub goes : RowsYield (counting X.weights) X.network X.order (yields X steps) body (map (λ r. ks ++ r) (rows_of k (map (drop i) (map items ms)))) lists cost
      pub within : fires + cost.fires ≤ limit
      pub last : Cells
      pub kept : IsSpread X limit room args generator body returns m own w a b lo x base last ks ms (puts_all x.cs lists cols) (i + k)
      pub long : AllLong m lists
      pub left : ℕ
      pub less : left ≤ j
      pub ends : EndsIn left limit X.code (at x.turns base last calls (fires + cost.fires)) RS END

    rows-went : (k j : ℕ) → ((i : ℕ) → i ≤ j → From i) → (base : ℕ) (cells : Cells) (calls : List Frame) (fires : ℕ) (ks ms cols : List Carried) (i : ℕ) → fires ≤ limit
        → AreLong (places_of ms) ms → i + k ≡ places_of ms → Spread' base cells ks ms cols i → E j (at x.turns base cells calls fires) → RowsWent base cells calls fires ks ms cols k i j
    rows-went zero j most base cells calls fires ks ms cols i lim long full h ends =
        record {
          steps = 0;
          lists = [];
          cost = nothing (counting X.weights);
          goes = (refl, refl);
          within = omega (arith, lim);
          last = cells;
          kept = subst (Spread' base cells ks ms cols) (omega arith) h;
          long = tt;
          left = j;
          less = omega arith;
          ends = subst (λ z. E j (at x.turns base cells calls z)) (omega arith) ends;
        }
    rows-went (suc k) j most base cells calls fires ks ms cols i lim long full h ends =
        let lt : i < places_of ms = omega (arith, full) in
        let now = row_at base cells ms i in
        let goes_is = each-goes X limit room args generator body returns m own w a b lo x base cells calls fires ks ms cols i h lt in
        let less_than = within limit X.code (Each x.n x.mid top x.turn x.leave) x.turns base cells calls fires (λ f. at x.turn base now calls f) x.each_is goes_is j RS END ends in
        let z = end-next limit X.code (at x.turns base cells calls fires) (at x.turn base now calls (suc fires))
        (does limit X.code (Each x.n x.mid top x.turn x.leave) x.turns base cells calls fires (Goes (at x.turn base now calls (suc fires))) x.each_is (goes_is ∙ counts limit X.code fires (λ f. Goes (at x.turn base now calls f)) less_than)) j RS END ends in
        let e₁ = z.1 in
        let row = row-on X limit room args generator body returns m own w a b lo x base cells ks ms cols i h long lt in
        let p = part-went X limit coded RS END z.0 (most z.0 (omega (arith, e₁))) room (x.for_body ++ cells_at (suc top) x.n) body x.turn x.turned (suc top + x.n) x.nexts x.turning base now calls (suc fires) (ks ++ elements i ms) (omega (arith, less_than)) row.lent z.2 in
        let d = adds-go X limit room args generator body returns m own w a b lo x base p.cells' calls (suc fires + p.cost.fires) ks ms cols p.rs (suc i)
        (spread-later X limit room args generator body returns m own w a b lo x base p.cells' now ks ms cols (suc i) (λ j lt. p.same j (omega (arith, lt))) row.kept) p.told in
        let e = end-next limit X.code (at x.turned base p.cells' calls (suc fires + p.cost.fires)) (at x.turns base d.last calls (suc fires + p.cost.fires)) d.went p.left RS END p.ends in
        let e₂ = e.1 in
        let e₃ = p.less in
        let q = rows-went k e.0 (λ i at_most. most i (omega (arith, at_most, e₁, e₂, e₃))) base d.last calls (suc fires + p.cost.fires) ks ms (put_all x.cs p.rs cols) (suc i) p.within long (omega (arith, full)) d.kept e.2 in
        let e₄ = q.less in
        let w' = q.within in
        let n = p.steps + q.steps in
        record {
          steps = n;
          lists = p.rs ∷ q.lists;
          cost = with_both (counting X.weights) 1 0 p.cost q.cost;
          goes = (
            p.rs,
            q.lists,
            p.cost,
            q.cost,
            graph-on (counting X.weights) X.network X.order (yields X p.steps) (yields X n) (yields-on (counting X.weights) X.network X.order p.steps n (omega arith)) body (ks ++ elements i ms) p.rs p.cost p.goes,
            subst (λ z. RowsYield (counting X.weights) X.network X.order (yields X n) body z q.lists q.cost) (sym (after-next X limit room args generator body returns m own w a b lo x k ks ms i))
                (rows-on (counting X.weights) X.network X.order (yields X q.steps) (yields X n) (yields-on (counting X.weights) X.network X.order q.steps n (omega arith)) body (rows_after k ks ms (suc i)) q.lists q.cost q.goes),
            refl,
            refl,
          );
          within = omega (arith, w');
          last = q.last;
          kept = subst (Spread' base q.last ks ms (puts_all x.cs q.lists (put_all x.cs p.rs cols))) (omega arith) q.kept;
          long = (d.long, q.long);
          left = q.left;
          less = omega (arith, e₁, e₂, e₃, e₄);
          ends = subst (λ z. E q.left (at x.turns base q.last calls z)) (omega arith) q.ends;
        }

    returning-went : (j : ℕ) → ((i : ℕ) → i ≤ j → From i) → (base : ℕ) (cells : Cells) (calls : List Frame) (fires : ℕ) (ks ms : List Carried) (lists : List (List Carried)) (i : ℕ) → fires ≤ limit
        → AllLong m lists → places_of ms ≤ i → Spread' base cells ks ms (collected x.cs lists) i → E j (at x.turns base cells calls fires) → On ks (Enter false returns ((ks ++ ms) ++ columns m lists) Returning) fires
    returning-went j most base cells calls fires ks ms lists i lim long full h ends =
        let cols = collected x.cs lists in
        let z = end-next limit X.code (at x.turns base cells calls fires) (at x.leave base cells calls fires)
        (does limit X.code (Each x.n x.mid top x.turn x.leave) x.turns base cells calls fires (Goes (at x.leave base cells calls fires)) x.each_is (each-leaves X limit room args generator body returns m own w a b lo x base cells calls fires ks ms cols i h full)) j RS END ends in
        let less = z.1 in
        let p = any-went X limit coded RS END z.0 (most z.0 (omega (arith, less))) room ((x.for_returns ++ cells_at x.mid x.n) ++ cells_at (x.mid + x.n) x.k) x.other x.nodes x.results x.leave x.left top x.lasts x.returning base cells calls fires ((ks ++ ms) ++ cols) lim
        (lent-returns X limit room args generator body returns m own w a b lo x base cells ks ms cols i h) z.2 in
        let g = from-collected X.weights (length args + x.n) m x.cs returns x.other (yields X p.steps) (ks ++ ms) lists (plain-many X limit room args generator body returns m own w a b lo x base cells ks ms cols i h) long (X.order returns) x.nodes (X.network returns).results x.results x.extra x.refolds p.rs p.cost p.goes in
        let gf = g.2 in
        let w' = p.within in
        record {
          steps = suc (p.steps + 1);
          outs = p.rs;
          cost = with_both (counting X.weights) 0 0 g.0 (nothing (counting X.weights));
          goes = enters X limit coded RS END F ks false returns ((ks ++ ms) ++ columns m lists) Returning p.rs p.rs g.0 (nothing (counting X.weights)) p.steps 1 g.1 (refl, refl);
          within = omega (arith, w', gf);
        }

    spread-went : (k j : ℕ) → ((i : ℕ) → i ≤ j → From i) → (base : ℕ) (cells : Cells) (calls : List Frame) (fires : ℕ) (ks ms : List Carried) → fires ≤ limit
        → AreLong (places_of ms) ms → k ≡ places_of ms → Spread' base cells ks ms (nothing_in x.cs) 0 → E j (at x.turns base cells calls fires)
        → On ks (spread body returns m ks ms (rows_of k (map items ms))) fires
    spread-went zero j most base cells calls fires ks ms lim long full h ends =
        returning-went j most base cells calls fires ks ms [] 0 lim tt (omega (arith, full)) (subst (λ z. Spread' base cells ks ms z 0) (all-made x.cs []) h) ends
    spread-went (suc k) j most base cells calls fires ks ms lim long full h ends =
        let r = rows-went (suc k) j most base cells calls fires ks ms (nothing_in x.cs) 0 lim long (omega (arith, full)) h ends in
        let less = r.less in
        let kept = subst (λ z. Spread' base r.last ks ms z (0 + suc k)) (all-made x.cs r.lists) r.kept in
        let y = returning-went r.left (λ i at_most. most i (omega (arith, at_most, less))) base r.last calls (fires + r.cost.fires) ks ms r.lists (0 + suc k) r.within r.long (omega (arith, full)) kept r.ends in
        let w' = y.within in
        let n = r.steps + y.steps in
        record {
          steps = suc n;
          outs = y.outs;
          cost = with_both (counting X.weights) 0 0 r.cost y.cost;
          goes = (
            r.lists,
            r.cost,
            y.cost,
            subst (λ z. RowsYield (counting X.weights) X.network X.order (yields X n) body (map (λ r. ks ++ r) (rows_of (suc k) z)) r.lists r.cost) (drop-none (map items ms))
                (rows-on (counting X.weights) X.network X.order (yields X r.steps) (yields X n) (yields-on (counting X.weights) X.network X.order r.steps n (omega arith)) body (rows_after (suc k) ks ms 0) r.lists r.cost r.goes),
            yields-on (counting X.weights) X.network X.order y.steps n (omega arith) F ks (gather F ks ms r.lists) y.outs y.cost y.goes,
            refl,
          );
          within = omega (arith, w');
        }

    made-went : (j : ℕ) → ((i : ℕ) → i ≤ j → From i) → (base : ℕ) (cells : Cells) (calls : List Frame) (fires : ℕ) (ks ms : List Carried) (next : Next) → fires ≤ limit
        → HoldsAll cells base lo args ks → HoldsAll cells base x.mid (own_cells x.picks args (lo + w)) ks → map (look cells base) x.lists ≡ ms → Spreading F body returns m ks ms x.turns next (spreads (first_spoiled ms) ms x.turns)
        → E j (at x.made base cells calls fires) → On ks next fires
    made-went j most base cells calls fires ks ms next lim outer inner told (goes_over long next_is to) ends =
        let s = spread-goes X limit room args generator body returns m own w a b lo x base cells calls fires ks ms outer inner told to in
        let z = end-next limit X.code (at x.made base cells calls fires) (at x.turns base s.last calls fires) s.went j RS END ends in
        let less = z.1 in
        on-as X limit coded RS END F ks next (spread body returns m ks ms (rows_of (places_of ms) (map items ms))) fires next_is
        (spread-went (places_of ms) z.0 (λ i at_most. most i (omega (arith, at_most, less))) base s.last calls fires ks ms lim long refl s.kept z.2)
    made-went j most base cells calls fires ks ms next lim outer inner told (goes_wrong e next_is to) ends =
        leaves-on X limit coded RS END F ks (errors w e) next fires next_is lim

    pub for-all-went : (k : ℕ) → Fewer X limit coded RS END k → (base : ℕ) (cells : Cells) (calls : List Frame) (fires : ℕ) (ks : List Carried) → HoldsAll cells base lo args ks → E k (at a base cells calls fires)
        → On ks (Enter false generator ks Generating) (suc fires)
    for-all-went k fewer base cells calls fires ks held ends =
        let s = start-went X limit coded RS END k args own w a lo x.mid x.picks x.start base cells calls fires ks held ends in
        let lt = s.less in
        let less = s.fewer in
        let l = low X limit room args generator body returns m own w a b lo x in
        let p = part-went X limit coded RS END s.left (fewer s.left less) room (own_cells x.picks args (lo + w)) generator (suc (suc a)) x.made x.mid x.lists x.generating base s.cells' calls (suc fires) ks (omega (arith, lt)) s.held s.ends in
        let same₁ : Same (base + lo) s.cells' cells = λ j lt. s.same j (omega (arith, lt)) in
        let same₂ : Same (base + lo) p.cells' s.cells' = λ j lt. p.same j (omega (arith, lt, l)) in
        let less' = p.less in
        let y = made-went p.left (λ i at_most. fewer i (omega (arith, at_most, less', less))) base p.cells' calls (suc fires + p.cost.fires) ks p.rs (iterate F body returns m ks p.rs (first_spoiled p.rs)) p.within
        (all-later p.cells' s.cells' base lo lo args ks (omega arith) same₂ (all-later s.cells' cells base lo lo args ks (omega arith) same₁ held))
        (all-later p.cells' s.cells' base x.mid x.mid (own_cells x.picks args (lo + w)) ks (omega arith) p.same s.held) p.told
        (spreading F body returns m ks p.rs x.turns) p.ends in
        let w' = y.within in
        record {
          steps = suc (p.steps + y.steps);
          outs = y.outs;
          cost = with_both (counting X.weights) 0 0 p.cost y.cost;
          goes = enters X limit coded RS END F ks false generator ks Generating p.rs y.outs p.cost y.cost p.steps y.steps p.goes y.goes;
          within = omega (arith, w');
        }
