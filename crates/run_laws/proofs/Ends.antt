-- What goes where the machine ends, and the parts of compound nodes.
use Rattle.std.proofs.Common.{◌≡◌, ℕ, suc, ◌+◌, ◌<◌, ◌≤◌, Bool, false, List, [], map, refl, sym, subst, arith}
use Rattle.run_code.specs.Carried.{Carried}
use Rattle.run_code.specs.Entered.{entry_fires}
use Rattle.run_code.specs.Forms.{Form, Next, Stage, Enter, Leave, follow}
use Rattle.run_code.specs.Demand.{Source, Kind, Vertex}
use Rattle.run_code.proofs.Growing.{graph-on, nodes-on, yields-on}
use Rattle.run_code.specs.Laws.{counting}
use Rattle.run_code.specs.Ordered.{Inputs, Bindings, KindYields, NodesYield, ReadsAll, Total, and_results, nothing, with_both}
use Rattle.run_code.specs.Cells.{Cells, Operand, look, own_cells}
use Rattle.run_code.specs.Coded.{AreCoded, Layout, NodesAre, Places, Starts, graph_yields, yields}
use Rattle.run_code.specs.Known.{AreReadable, IsReadable, Known, known_after}
use Rattle.run_code.specs.Machine.{EndsIn, Frame, State, at}
use Rattle.run_code.specs.Steps.{Count}
use Rattle.run_laws.proofs.Cells.{Good, HoldsAll, Same, good-lent}
use Rattle.run_laws.proofs.Forward.{forward}
use Rattle.run_laws.proofs.Passing.{Part, PartOf, any-runs, copies-pass, part_goes}
use Rattle.run_laws.proofs.Stepping.{end-after, end-next, within}
use Rattle.run_laws.proofs.Told.{Tells, read-known, tells-after, tells-inputs}

module _ (X : Layout) (limit : ℕ) (coded : AreCoded X) (RS : List Carried) (END : ℕ) where
  abbrev pub Ending : ℕ → State → Type 0
  Ending k s = EndsIn k limit X.code s RS END

  -- from here the nodes go
  pub record Went (g : ℕ) (env : Bindings) (vs : List Vertex) (fires : ℕ) : Type 0 where
    pub steps : ℕ
    pub after : Bindings
    pub cost : Total (counting X.weights)
    pub goes : NodesYield (counting X.weights) (yields X steps) g env vs after cost
    pub within : fires + cost.fires ≤ limit

  pub record WentKind (kind : Kind) (ks : List Carried) (fires : ℕ) : Type 0 where
    pub steps : ℕ
    pub outs : List Carried
    pub cost : Total (counting X.weights)
    pub goes : KindYields (counting X.weights) (yields X steps) kind ks outs cost
    pub within : fires + (1 + cost.fires) ≤ limit

  pub record WentOn (F : Form) (ks : List Carried) (next : Next) (fires : ℕ) : Type 0 where
    pub steps : ℕ
    pub outs : List Carried
    pub cost : Total (counting X.weights)
    pub goes : yields X steps F ks next outs cost
    pub within : fires + cost.fires ≤ limit

  abbrev pub WentFrom : ℕ → Type 0
  WentFrom k = (room g : ℕ) (places : Places) (vs : List Vertex) (a b lo : ℕ) → NodesAre X room g places vs a b lo
      → (known : Known) → IsReadable X.width known vs → (base : ℕ) (cells : Cells) (calls : List Frame) (fires : ℕ) (env : Bindings) → fires ≤ limit → Good cells base lo places known env → Tells known env
      → EndsIn k limit X.code (at a base cells calls fires) RS END → Went g env vs fires

  abbrev pub Fewer : ℕ → Type 0
  Fewer k = (j : ℕ) → j < k → WentFrom j

  -- what goes on by another name of what is next
  pub on-as : (F : Form) (ks : List Carried) (next other : Next) (fires : ℕ) → next ≡ other → WentOn F ks other fires → WentOn F ks next fires
  on-as F ks next other fires e y = record { steps = y.steps; outs = y.outs; cost = y.cost; goes = subst (λ q. yields X y.steps F ks q y.outs y.cost) (sym e) y.goes; within = y.within }

  pub leaves-on : (F : Form) (ks rs : List Carried) (next : Next) (fires : ℕ) → next ≡ Leave rs → fires ≤ limit → WentOn F ks next fires
  leaves-on F ks rs next fires e lim =
      record { steps = 1; outs = rs; cost = nothing (counting X.weights); goes = subst (λ q. yields X 1 F ks q rs (nothing (counting X.weights))) (sym e) (refl, refl); within = omega (arith, lim) }

  -- a graph that is entered, and what follows it
  pub enters : (F : Form) (ks : List Carried) (t : Bool) (g : ℕ) (ins : List Carried) (stage : Stage) (ms outs : List Carried) (inner later : Total (counting X.weights)) (p q : ℕ)
      → graph_yields X p g ins ms inner → yields X q F ks (follow F ks stage ms) outs later
      → yields X (suc (p + q)) F ks (Enter t g ins stage) outs (with_both (counting X.weights) (entry_fires t) 0 inner later)
  enters F ks t g ins stage ms outs inner later p q a b = (
    ms,
    inner,
    later,
    graph-on (counting X.weights) X.network X.order (yields X p) (yields X (p + q)) (yields-on (counting X.weights) X.network X.order p (p + q) (omega arith)) g ins ms inner a,
    yields-on (counting X.weights) X.network X.order q (p + q) (omega arith) F ks (follow F ks stage ms) outs later b,
    refl,
  )

  -- what nodes that went give
  pub any-results : (g : ℕ) (vs : List Vertex) (outs : List Source) (ks : List Carried) (fires : ℕ) (ord : AreReadable X.width vs outs) (r : Went g (Inputs ks) vs fires) → (rs : List Carried) × ReadsAll r.after outs rs
  any-results g vs outs ks fires ord r =
      read-known (known_after X.width [] vs) r.after (tells-after (counting X.weights) X.width (yields X r.steps) g [] vs (Inputs ks) r.after r.cost (tells-inputs ks) r.goes) outs ord.1

  -- so they go, with more steps too
  pub any-of : (g : ℕ) (vs : List Vertex) (outs : List Source) (ks : List Carried) (fires n : ℕ) (r : Went g (Inputs ks) vs fires) → r.steps ≤ n → (rs : List Carried) → ReadsAll r.after outs rs
      → part_goes X limit n g vs outs ks rs (and_results (counting X.weights) r.cost (X.weights.of_results g rs))
  any-of g vs outs ks fires n r le rs reads =
      (r.after, r.cost, nodes-on (counting X.weights) X.network X.order (yields X r.steps) (yields X n) (yields-on (counting X.weights) X.network X.order r.steps n le) g (Inputs ks) vs r.after r.cost r.goes, reads, refl)

  pub results-of : (g : ℕ) (ks : List Carried) (fires : ℕ) (ord : AreReadable X.width (X.order g) (X.network g).results) (r : Went g (Inputs ks) (X.order g) fires) → (rs : List Carried) × ReadsAll r.after (X.network g).results rs
  results-of g ks fires ord r = any-results g (X.order g) (X.network g).results ks fires ord r

  pub graph-of : (g : ℕ) (ks : List Carried) (fires n : ℕ) (r : Went g (Inputs ks) (X.order g) fires) → r.steps ≤ n → (rs : List Carried) → ReadsAll r.after (X.network g).results rs
      → graph_yields X n g ks rs (and_results (counting X.weights) r.cost (X.weights.of_results g rs))
  graph-of g ks fires n r le rs reads = any-of g (X.order g) (X.network g).results ks fires n r le rs reads

  -- a part goes, and the machine has come to its end
  pub record AnyWent (g : ℕ) (vs : List Vertex) (outs : List Source) (b lo base : ℕ) (cells : Cells) (calls : List Frame) (fires : ℕ) (froms : List Operand) (ks : List Carried) (j : ℕ) : Type 0 where
    pub steps : ℕ
    pub rs : List Carried
    pub cost : Total (counting X.weights)
    pub goes : part_goes X limit steps g vs outs ks rs cost
    pub within : fires + cost.fires ≤ limit
    pub cells' : Cells
    pub same : Same (base + lo) cells' cells
    pub told : map (look cells' base) froms ≡ rs
    pub left : ℕ
    pub less : left ≤ j
    pub ends : EndsIn left limit X.code (at b base cells' calls (fires + cost.fires)) RS END

  pub any-went : (j : ℕ) → WentFrom j → (room : ℕ) (args : List Operand) (g : ℕ) (vs : List Vertex) (outs : List Source) (a b lo : ℕ) (froms : List Operand) → (p : PartOf X limit room args g vs outs a b lo froms)
      → (base : ℕ) (cells : Cells) (calls : List Frame) (fires : ℕ) (ks : List Carried) → fires ≤ limit → HoldsAll cells base lo args ks → Ending j (at a base cells calls fires)
      → AnyWent g vs outs b lo base cells calls fires froms ks j
  any-went j went room args g vs outs a b lo froms p base cells calls fires ks lim held ends =
      let ord = p.ordered in
      let r = went room g p.places vs a b lo p.nodes [] ord.0 base cells calls fires (Inputs ks) lim (good-lent cells base lo p.places args ks p.lends held) (tells-inputs ks) ends in
      let res = any-results g vs outs ks fires p.ordered r in
      let cost = and_results (counting X.weights) r.cost (X.weights.of_results g res.0) in
      let goes = any-of g vs outs ks fires r.steps r (omega arith) res.0 res.1 in
      let q = any-runs X limit (suc r.steps) r.steps (omega arith) (forward X limit coded (suc r.steps)) room args g vs outs a b lo froms p base cells calls fires ks res.0 cost held goes r.within in
      let e = end-after X.weigh limit X.code (at a base cells calls fires) (at b base q.cells' calls (fires + cost.fires)) q.sum q.comes j RS END ends in
      record { steps = r.steps; rs = res.0; cost = cost; goes = goes; within = r.within; cells' = q.cells'; same = q.same; told = q.told; left = e.0; less = e.1; ends = e.2 }

  abbrev pub PartWent : (g b lo base : ℕ) (cells : Cells) (calls : List Frame) (fires : ℕ) (froms : List Operand) (ks : List Carried) (j : ℕ) → Type 0
  PartWent g b lo base cells calls fires froms ks j = AnyWent g (X.order g) (X.network g).results b lo base cells calls fires froms ks j

  pub part-went : (j : ℕ) → WentFrom j → (room : ℕ) (args : List Operand) (g a b lo : ℕ) (froms : List Operand) → (p : Part X limit room args g a b lo froms)
      → (base : ℕ) (cells : Cells) (calls : List Frame) (fires : ℕ) (ks : List Carried) → fires ≤ limit → HoldsAll cells base lo args ks → Ending j (at a base cells calls fires)
      → PartWent g b lo base cells calls fires froms ks j
  part-went j went room args g a b lo froms p base cells calls fires ks lim held ends = any-went j went room args g (X.order g) (X.network g).results a b lo froms p base cells calls fires ks lim held ends

  -- the last graph of a node
  pub last-went : (j : ℕ) → WentFrom j → (F : Form) (stage : Stage) (all ins : List Carried) → ((ms : List Carried) → follow F all stage ms ≡ Leave ms)
      → (room : ℕ) (args : List Operand) (g a e up : ℕ) (froms : List Operand) → Part X limit room args g a e up froms
      → (base : ℕ) (cells : Cells) (calls : List Frame) (fires : ℕ) → fires ≤ limit → HoldsAll cells base up args ins → Ending j (at a base cells calls fires) → WentOn F all (Enter false g ins stage) fires
  last-went j went F stage all ins leaves room args g a e up froms p base cells calls fires lim held ends =
      let r = part-went j went room args g a e up froms p base cells calls fires ins lim held ends in
      let le = r.within in
      record {
        steps = suc (r.steps + 1);
        outs = r.rs;
        cost = with_both (counting X.weights) 0 0 r.cost (nothing (counting X.weights));
        goes = enters F all false g ins stage r.rs r.rs r.cost (nothing (counting X.weights)) r.steps 1 r.goes
            (subst (λ q. yields X 1 F all q r.rs (nothing (counting X.weights))) (sym (leaves r.rs)) (refl, refl));
        within = omega (arith, le);
      }

  -- past the count and the copies
  pub record Started (a lo w mid : ℕ) (mine : List Operand) (base : ℕ) (cells : Cells) (calls : List Frame) (fires : ℕ) (ks : List Carried) (k : ℕ) : Type 0 where
    pub less : fires < limit
    pub cells' : Cells
    pub same : Same (base + (lo + w)) cells' cells
    pub held : HoldsAll cells' base mid mine ks
    pub left : ℕ
    pub fewer : suc left ≤ k
    pub ends : EndsIn left limit X.code (at (suc (suc a)) base cells' calls (suc fires)) RS END

  pub start-went : (k : ℕ) (args : List Operand) (own : List Carried → List Carried → ℕ) (w a lo mid : ℕ) (picks : List Bool) → Starts X a lo w picks args own mid
      → (base : ℕ) (cells : Cells) (calls : List Frame) (fires : ℕ) (ks : List Carried) → HoldsAll cells base lo args ks → Ending k (at a base cells calls fires)
      → Started a lo w mid (own_cells picks args (lo + w)) base cells calls fires ks k
  start-went k args own w a lo mid picks start base cells calls fires ks held ends =
      let lt = within limit X.code Count a base cells calls fires (λ x. at (suc a) base cells calls x) start.counts refl k RS END ends in
      let p = copies-pass X limit args own w a lo mid picks start base cells calls fires ks [] held lt in
      let x = end-next limit X.code (at a base cells calls fires) (at (suc a) base cells calls (suc fires)) p.counted k RS END ends in
      let y = end-next limit X.code (at (suc a) base cells calls (suc fires)) (at (suc (suc a)) base p.cells' calls (suc fires)) p.moved x.0 RS END x.2 in
      let e = x.1 in
      let f = y.1 in
      record { less = lt; cells' = p.cells'; same = p.same; held = p.held; left = y.0; fewer = omega (arith, e, f); ends = y.2 }
