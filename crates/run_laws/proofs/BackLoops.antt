-- Where the machine ends from a loop on, the loop goes to its results.
--
-- By induction on the steps that are left at each test: a turn leaves fewer.
use Rattle.std.proofs.Common.{ℕ, zero, suc, ◌+◌, ◌<◌, ◌≤◌, Bool, true, false, List, [], ◌∷◌, ◌++◌, length, refl, sym, ap, ◌∙◌, subst, arith}
use Rattle.run_code.specs.Carried.{Carried, val_of}
use Rattle.run_code.specs.Forms.{Form, Next, Enter, Leave, Starting, Testing, Turning, Returning, errors, follow, tested, turn_columns}
use Rattle.run_code.specs.Laws.{counting}
use Rattle.run_code.specs.Ordered.{nothing, with_both}
use Rattle.run_code.proofs.Refolding.{from-collected}
use Rattle.run_code.specs.Cells.{Cells, Operand, cells_at, look, own_cells}
use Rattle.run_code.specs.Coded.{AreCoded, GoesIn, Layout, graph_yields, loop_form, yields}
use Rattle.run_code.specs.Collections.{collected}
use Rattle.run_code.specs.Machine.{EndsIn, Frame, Goes, State, at, chosen, tested_by}
use Rattle.run_code.specs.Steps.{Count, Test}
use Rattle.run_laws.proofs.Cells.{HoldsAll, Same, all-later}
use Rattle.run_laws.proofs.Ends.{Fewer, WentFrom, WentOn, any-went, enters, leaves-on, on-as, part-went, start-went}
use Rattle.run_laws.proofs.Loops.{lent-returns, low}
use Rattle.run_laws.proofs.Loops.{Chose, IsKept, Loop, again, args-many, begin-keeps, begins, chose, done, followed, kept-later, lent, loop-outputs, spoiled, turn-keeps}
use Rattle.run_laws.proofs.Rows.{forth, turns-columns}
use Rattle.run_laws.proofs.Stepping.{counts, does, end-next, within}

module _ (X : Layout) (limit : ℕ) (coded : AreCoded X) (RS : List Carried) (END : ℕ) where
  module _ (room : ℕ) (early : Bool) (args : List Operand) (init test body returns : ℕ) (own : List Carried → List Carried → ℕ) (w a b lo : ℕ) (x : Loop X limit room early args init test body returns own w a b lo) where
    abbrev F : Form
    F = loop_form early init test body returns w

    abbrev E : ℕ → State → Type 0
    E j s = EndsIn j limit X.code s RS END

    abbrev From : ℕ → Type 0
    From j = WentFrom X limit coded RS END j

    abbrev On : List Carried → Next → ℕ → Type 0
    On ks next fires = WentOn X limit coded RS END F ks next fires

    abbrev N : ℕ
    N = x.mid + (x.n + x.k)

    abbrev Kept : ℕ → Cells → List Carried → List Carried → List (List Carried) → Type 0
    Kept base cells ks ls turns = IsKept X limit room early args init test body returns own w a b lo x base cells ks ls turns

    returning-went : (j : ℕ) → From j → (base : ℕ) (cells : Cells) (calls : List Frame) (fires : ℕ) (ks ls : List Carried) (turns : List (List Carried)) → fires ≤ limit → Kept base cells ks ls turns
        → E j (at x.leave base cells calls fires) → On ks (Enter false returns (ks ++ turn_columns (ls ∷ turns)) Returning) fires
    returning-went j went base cells calls fires ks ls turns lim h ends =
        let rows = forth (ls ∷ turns) in
        let p = any-went X limit coded RS END j went room (x.for_returns ++ x.stand) x.other x.nodes x.results x.leave x.left N x.lasts x.returning base cells calls fires (ks ++ collected x.cs rows) lim
        (lent-returns X limit room early args init test body returns own w a b lo x base cells ks ls turns h) ends in
        let g = from-collected X.weights (length args) x.n x.cs returns x.other (yields X p.steps) ks rows (args-many X limit room early args init test body returns own w a b lo x base cells ks ls turns h) h.long (X.order returns) x.nodes (X.network returns).results x.results x.extra x.refolds p.rs p.cost p.goes in
        let gf = g.2 in
        let w' = p.within in
        record {
          steps = suc (p.steps + 1);
          outs = p.rs;
          cost = with_both (counting X.weights) 0 0 g.0 (nothing (counting X.weights));
          goes = enters X limit coded RS END F ks false returns (ks ++ turn_columns (ls ∷ turns)) Returning p.rs p.rs g.0 (nothing (counting X.weights)) p.steps 1
              (subst (λ z. graph_yields X p.steps returns (ks ++ z) p.rs g.0) (sym (turns-columns x.n ls turns h.long)) g.1)
              (subst (λ q. yields X 1 F ks q p.rs (nothing (counting X.weights))) (sym (followed early init test body returns w ks Returning p.rs)) (refl, refl));
          within = omega (arith, w', gf);
        }

    -- from the test on, where fewer steps than a number are left
    abbrev TestsWent : ℕ → Type 0
    TestsWent bound = (j : ℕ) → j < bound → ((i : ℕ) → i ≤ j → WentFrom X limit coded RS END i) → (base : ℕ) (cells : Cells) (calls : List Frame) (fires : ℕ) (ks ls : List Carried) (turns : List (List Carried)) → fires ≤ limit
        → IsKept X limit room early args init test body returns own w a b lo x base cells ks ls turns
        → EndsIn j limit X.code (at x.tests base cells calls fires) RS END → WentOn X limit coded RS END F ks (Enter false test (ks ++ ls) (Testing (ls ∷ turns))) fires

    -- a turn that was counted
    turning-went : (bound : ℕ) → TestsWent bound → (j : ℕ) → j ≤ bound → ((i : ℕ) → i ≤ j → From i) → (base : ℕ) (cells : Cells) (calls : List Frame) (fires : ℕ) (ks ls : List Carried) (turns : List (List Carried)) → suc fires ≤ limit → Kept base cells ks ls turns
        → E j (at x.turn base cells calls (suc fires)) → On ks (Enter true body (ks ++ ls) (Turning (ls ∷ turns))) fires
    turning-went bound tests j le most base cells calls fires ks ls turns lim h ends =
        let p = part-went X limit coded RS END j (most j (omega arith)) room (x.for_body ++ cells_at x.mid x.n) body x.turn x.turned N x.nexts x.turning base cells calls (suc fires) (ks ++ ls) lim
        (lent X limit room early args init test body returns own w a b lo x x.for_body x.body_lent base cells ks ls turns h x.mid x.n ls h.loop_values) ends in
        let kept = kept-later X limit room early args init test body returns own w a b lo x base p.cells' cells ks ls turns p.same h in
        let k = turn-keeps X limit room early args init test body returns own w a b lo x base p.cells' calls (suc fires + p.cost.fires) ks ls p.rs turns kept p.told in
        let e = end-next limit X.code (at x.turned base p.cells' calls (suc fires + p.cost.fires)) (at x.tests base k.last calls (suc fires + p.cost.fires)) k.keep p.left RS END p.ends in
        let fewer = e.1 in
        let fewer' = p.less in
        let y = tests e.0 (omega (arith, fewer, fewer', le)) (λ i at_most. most i (omega (arith, at_most, fewer, fewer'))) base k.last calls (suc fires + p.cost.fires) ks p.rs (ls ∷ turns) p.within k.kept e.2 in
        let w' = y.within in
        record {
          steps = suc (p.steps + y.steps);
          outs = y.outs;
          cost = with_both (counting X.weights) 1 0 p.cost y.cost;
          goes = enters X limit coded RS END F ks true body (ks ++ ls) (Turning (ls ∷ turns)) p.rs y.outs p.cost y.cost p.steps y.steps p.goes
              (subst (λ q. yields X y.steps F ks q y.outs y.cost) (sym (followed early init test body returns w ks (Turning (ls ∷ turns)) p.rs)) y.goes);
          within = omega (arith, w');
        }

    choosing-went : (bound : ℕ) → TestsWent bound → (j : ℕ) → j ≤ bound → ((i : ℕ) → i ≤ j → From i) → (base : ℕ) (cells : Cells) (calls : List Frame) (fires : ℕ) (ks ls : List Carried) (turns : List (List Carried)) (next : Next) → fires ≤ limit → Kept base cells ks ls turns
        → Chose F body returns ks ls turns x.turn x.leave next (tested_by x.turn x.leave (val_of (look cells base x.go)))
        → E j (at x.tested base cells calls fires) → On ks next fires
    choosing-went bound tests j le most base cells calls fires ks ls turns next lim h (done next_is to) ends =
        let z = end-next limit X.code (at x.tested base cells calls fires) (at x.leave base cells calls fires)
        (does limit X.code (Test x.go x.turn x.leave lo w b) x.tested base cells calls fires (Goes (at x.leave base cells calls fires)) x.chooses (ap (λ y. chosen limit y lo w b base cells calls fires) to)) j RS END ends in
        let less = z.1 in
        on-as X limit coded RS END F ks next (Enter false returns (ks ++ turn_columns (ls ∷ turns)) Returning) fires next_is
        (returning-went z.0 (most z.0 (omega (arith, less))) base cells calls fires ks ls turns lim h z.2)
    choosing-went bound tests j le most base cells calls fires ks ls turns next lim h (spoiled e next_is to) ends =
        leaves-on X limit coded RS END F ks (errors w e) next fires (next_is ∙ ap (λ k. Leave (errors k e)) (loop-outputs early init test body returns w)) lim
    choosing-went bound tests j le most base cells calls fires ks ls turns next lim h (again next_is to) ends =
        let lt = within limit X.code (Test x.go x.turn x.leave lo w b) x.tested base cells calls fires (λ f. at x.turn base cells calls f) x.chooses (ap (λ y. chosen limit y lo w b base cells calls fires) to) j RS END ends in
        let z = end-next limit X.code (at x.tested base cells calls fires) (at x.turn base cells calls (suc fires))
        (does limit X.code (Test x.go x.turn x.leave lo w b) x.tested base cells calls fires (Goes (at x.turn base cells calls (suc fires))) x.chooses
        (ap (λ y. chosen limit y lo w b base cells calls fires) to ∙ counts limit X.code fires (λ f. Goes (at x.turn base cells calls f)) lt)) j RS END ends in
        let less = z.1 in
        on-as X limit coded RS END F ks next (Enter true body (ks ++ ls) (Turning (ls ∷ turns))) fires next_is
        (turning-went bound tests z.0 (omega (arith, less, le)) (λ i at_most. most i (omega (arith, at_most, less))) base cells calls fires ks ls turns (omega (arith, lt)) h z.2)

    testing-went : (bound : ℕ) → TestsWent bound
    testing-went zero j lt most base cells calls fires ks ls turns lim h ends = absurd (omega (arith, lt))
    testing-went (suc bound) j lt most base cells calls fires ks ls turns lim h ends =
        let p = part-went X limit coded RS END j (most j (omega arith)) room (x.for_test ++ cells_at x.mid x.n) test x.tests x.tested N (x.go ∷ []) x.testing base cells calls fires (ks ++ ls) lim
        (lent X limit room early args init test body returns own w a b lo x x.for_test x.test_lent base cells ks ls turns h x.mid x.n ls h.loop_values) ends in
        let kept = kept-later X limit room early args init test body returns own w a b lo x base p.cells' cells ks ls turns p.same h in
        let v = val_of (look p.cells' base x.go) in
        let less = p.less in
        let y = choosing-went bound (testing-went bound) p.left (omega (arith, less, lt)) (λ i at_most. most i (omega (arith, at_most, less))) base p.cells' calls (fires + p.cost.fires) ks ls turns (tested F body returns ks ls turns v) p.within kept
        (chose F body returns ks ls turns x.turn x.leave v) p.ends in
        let w' = y.within in
        record {
          steps = suc (p.steps + y.steps);
          outs = y.outs;
          cost = with_both (counting X.weights) 0 0 p.cost y.cost;
          goes = enters X limit coded RS END F ks false test (ks ++ ls) (Testing (ls ∷ turns)) p.rs y.outs p.cost y.cost p.steps y.steps p.goes
              (subst (λ q. yields X y.steps F ks (follow F ks (Testing (ls ∷ turns)) q) y.outs y.cost) p.told
              (subst (λ q. yields X y.steps F ks q y.outs y.cost) (sym (followed early init test body returns w ks (Testing (ls ∷ turns)) (look p.cells' base x.go ∷ []))) y.goes));
          within = omega (arith, w');
        }

    -- from where the loop values were begun
    starting-went : (e : Bool) → GoesIn X e x.starts x.turn x.tests → (j : ℕ) → ((i : ℕ) → i ≤ j → From i) → (base : ℕ) (cells : Cells) (calls : List Frame) (fires : ℕ) (ks ls : List Carried) → fires ≤ limit → Kept base cells ks ls []
        → E j (at x.starts base cells calls fires) → On ks (begins e test body ks ls) fires
    starting-went false is j most base cells calls fires ks ls lim h ends =
        testing-went (suc j) j (omega arith) most base cells calls fires ks ls [] lim h (subst (λ p. E j (at p base cells calls fires)) is ends)
    starting-went true is j most base cells calls fires ks ls lim h ends =
        let lt = within limit X.code Count x.starts base cells calls fires (λ f. at (suc x.starts) base cells calls f) is.0 refl j RS END ends in
        let z = end-next limit X.code (at x.starts base cells calls fires) (at (suc x.starts) base cells calls (suc fires))
        (does limit X.code Count x.starts base cells calls fires (Goes (at (suc x.starts) base cells calls (suc fires))) is.0 (counts limit X.code fires (λ f. Goes (at (suc x.starts) base cells calls f)) lt)) j RS END ends in
        let less = z.1 in
        turning-went (suc z.0) (testing-went (suc z.0)) z.0 (omega arith) (λ i at_most. most i (omega (arith, at_most, less))) base cells calls fires ks ls [] (omega (arith, lt)) h (subst (λ p. E z.0 (at p base cells calls (suc fires))) (sym is.1) z.2)

    pub loop-went : (k : ℕ) → Fewer X limit coded RS END k → (base : ℕ) (cells : Cells) (calls : List Frame) (fires : ℕ) (ks : List Carried) → HoldsAll cells base lo args ks → E k (at a base cells calls fires)
        → On ks (Enter false init ks Starting) (suc fires)
    loop-went k fewer base cells calls fires ks held ends =
        let s = start-went X limit coded RS END k args own w a lo x.mid x.picks x.start base cells calls fires ks held ends in
        let lt = s.less in
        let less = s.fewer in
        let l = low X limit room early args init test body returns own w a b lo x in
        let p = part-went X limit coded RS END s.left (fewer s.left less) room (own_cells x.picks args (lo + w)) init (suc (suc a)) x.begun x.mid x.firsts x.first base s.cells' calls (suc fires) ks (omega (arith, lt)) s.held s.ends in
        let same₁ : Same (base + lo) s.cells' cells = λ j lt. s.same j (omega (arith, lt)) in
        let same₂ : Same (base + lo) p.cells' s.cells' = λ j lt. p.same j (omega (arith, lt, l)) in
        let q = begin-keeps X limit room early args init test body returns own w a b lo x base p.cells' calls (suc fires + p.cost.fires) ks p.rs
        (all-later p.cells' s.cells' base lo lo args ks (omega arith) same₂ (all-later s.cells' cells base lo lo args ks (omega arith) same₁ held))
        (all-later p.cells' s.cells' base x.mid x.mid (own_cells x.picks args (lo + w)) ks (omega arith) p.same s.held) p.told in
        let e = end-next limit X.code (at x.begun base p.cells' calls (suc fires + p.cost.fires)) (at x.starts base q.last calls (suc fires + p.cost.fires)) q.keep p.left RS END p.ends in
        let less' = e.1 in
        let less'' = p.less in
        let y = starting-went early x.goes_in e.0 (λ i at_most. fewer i (omega (arith, at_most, less', less'', less))) base q.last calls (suc fires + p.cost.fires) ks p.rs p.within q.kept e.2 in
        let w' = y.within in
        record {
          steps = suc (p.steps + y.steps);
          outs = y.outs;
          cost = with_both (counting X.weights) 0 0 p.cost y.cost;
          goes = enters X limit coded RS END F ks false init ks Starting p.rs y.outs p.cost y.cost p.steps y.steps p.goes
              (subst (λ q. yields X y.steps F ks q y.outs y.cost) (sym (followed early init test body returns w ks Starting p.rs)) y.goes);
          within = omega (arith, w');
        }
