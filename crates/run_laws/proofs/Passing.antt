-- What it is that the machine has come through nodes, and the parts of compound nodes.
use Rattle.std.proofs.Common.{◌≡◌, ℕ, zero, suc, ◌+◌, ◌<◌, ◌≤◌, Bool, false, List, [], ◌∷◌, length, map, get_or, inl, inr, ◌⊎◌, refl, sym, ap, ◌∙◌, subst, arith}
use Rattle.run_code.specs.Cause.{Cause}
use Rattle.run_code.specs.Carried.{Carried, Unfilled}
use Rattle.run_code.specs.Forms.{Form, Stage, Enter, Leave, errors, follow}
use Rattle.run_code.specs.Demand.{Source, Kind, Vertex}
use Rattle.run_code.specs.Laws.{counting}
use Rattle.run_code.specs.Ordered.{Inputs, Bindings, GraphYields, KindYields, NodesYield, Rest, Total}
use Rattle.run_code.specs.Known.{Known, IsReadable, AreReadable, known_after}
use Rattle.run_code.proofs.Totals.{both-fire, both-sum, nothing-fires, nothing-sum, results-fire, results-sum}
use Rattle.run_code.specs.Cells.{Cells, Operand, look, own_cells, picked, write}
use Rattle.run_code.specs.Coded.{AreOf, GraphIs, Hands, Layout, Lends, NodeIs, NodesAre, PartIs, Places, Starts, a_part, graph_yields, operand, yields}
use Rattle.run_code.specs.Machine.{Frame, Goes, Reaches, State, added, at, doing, step}
use Rattle.run_code.specs.Steps.{Count, Move, Step}
use Rattle.run_laws.proofs.Cells.{Good, Holds, HoldsAll, Same, all-later, good-lent, held-later, look-all, look-picked, own-held, read-held, write-below, write-in}
use Rattle.run_laws.proofs.Stepping.{comes-as, comes-then, counts, does, one-step}

-- each is one of two
pub of-two : (cells : Cells) (base lo mid top : ℕ) (args mine xs : List Operand) (ks : List Carried) → AreOf args mine xs → lo ≤ top → mid ≤ top → HoldsAll cells base lo args ks → HoldsAll cells base mid mine ks → HoldsAll cells base top xs ks
of-two cells base lo mid top [] [] [] ks h p q a b = all-later cells cells base lo top [] ks p (λ j lt. refl) a
of-two cells base lo mid top [] [] (x ∷ xs) ks h p q a b = absurd h
of-two cells base lo mid top [] (y ∷ ys) xs ks h p q a b = absurd h
of-two cells base lo mid top (y ∷ ys) [] xs ks h p q a b = absurd h
of-two cells base lo mid top (y ∷ ys) (z ∷ zs) [] ks h p q a b = absurd h
of-two cells base lo mid top (y ∷ ys) (z ∷ zs) (x ∷ xs) [] h p q a b = absurd a
of-two cells base lo mid top (y ∷ ys) (z ∷ zs) (x ∷ xs) (k ∷ ks) h p q a b = (one h.0, of-two cells base lo mid top ys zs xs ks h.1 p q a.1 b.1)
  where
    one : (x ≡ y) ⊎ (x ≡ z) → Holds cells base top x k
    one (inl e) = subst (λ o. Holds cells base top o k) (sym e) (held-later cells cells base lo top y k p (λ j lt. refl) a.0)
    one (inr e) = subst (λ o. Holds cells base top o k) (sym e) (held-later cells cells base mid top z k q (λ j lt. refl) b.0)

pub writes-outs : (base lo w : ℕ) (rs : List Carried) (cells : Cells) (i : ℕ) → i < w → write (base + lo) w rs cells (base + (lo + i)) ≡ get_or rs i Unfilled
writes-outs base lo w rs cells i lt = ap (write (base + lo) w rs cells) (omega arith) ∙ write-in (base + lo) w rs cells i lt

module _ (X : Layout) (limit : ℕ) where
  abbrev pub Comes : State → State → ℕ → Type 0
  Comes s t x = Reaches X.weigh limit X.code s t x

  -- the machine has come through nodes
  pub record Reached (a b lo base : ℕ) (cells : Cells) (places : Places) (known : Known) (calls : List Frame) (fires : ℕ) (c : Total (counting X.weights)) (after : Bindings) : Type 0 where
    pub cells' : Cells
    pub top : ℕ
    pub rises : lo ≤ top
    pub comes : Reaches X.weigh limit X.code (at a base cells calls fires) (at b base cells' calls (fires + c.fires)) c.sum
    pub same : Same (base + lo) cells' cells
    pub good : Good cells' base top places known after

  -- the machine has come from a place to the end of a node, and adds so much
  pub record Closed (w b lo pc base : ℕ) (cells : Cells) (calls : List Frame) (fires fires' sum : ℕ) (rs : List Carried) : Type 0 where
    pub cells' : Cells
    pub comes : Reaches X.weigh limit X.code (at pc base cells calls fires) (at b base cells' calls fires') sum
    pub same : Same (base + lo) cells' cells
    pub outs : (i : ℕ) → i < w → cells' (base + (lo + i)) ≡ get_or rs i Unfilled

  abbrev pub DoesNodes : Rest (counting X.weights) → Type 0
  DoesNodes rest = (room g : ℕ) (places : Places) (vs : List Vertex) (a b lo : ℕ) → NodesAre X room g places vs a b lo → (known : Known) → IsReadable X.width known vs
      → (base : ℕ) (cells : Cells) (calls : List Frame) (fires : ℕ) (env after : Bindings) (c : Total (counting X.weights))
      → Good cells base lo places known env → NodesYield (counting X.weights) rest g env vs after c → fires + c.fires ≤ limit → Reached a b lo base cells places (known_after X.width known vs) calls fires c after

  abbrev pub Below : ℕ → Type 0
  Below n = (m : ℕ) → suc m ≤ n → DoesNodes (yields X m)

  abbrev pub DoesNode : Rest (counting X.weights) → Type 0
  DoesNode rest = (room : ℕ) (args : List Operand) (k : Kind) (own : List Carried → List Carried → ℕ) (w a b lo : ℕ) → NodeIs X room args k own w a b lo
      → (base : ℕ) (cells : Cells) (calls : List Frame) (fires : ℕ) (ks rs : List Carried) (c : Total (counting X.weights))
      → HoldsAll cells base lo args ks → KindYields (counting X.weights) rest k ks rs c → fires + (1 + c.fires) ≤ limit
      → Closed w b lo a base cells calls fires (fires + (1 + c.fires)) (own ks rs + c.sum) rs

  pub below-less : (n m : ℕ) → m ≤ n → Below n → Below m
  below-less n m le below k lt = below k (omega (arith, le, lt))

  -- ---- put together

  -- first to another place, then to the end
  pub then-closed : (w b lo pc at_pc base : ℕ) (cells cells₁ : Cells) (calls : List Frame) (fires fires₁ fires' x y : ℕ) (rs : List Carried)
      → Reaches X.weigh limit X.code (at pc base cells calls fires) (at at_pc base cells₁ calls fires₁) x → Same (base + lo) cells₁ cells
      → Closed w b lo at_pc base cells₁ calls fires₁ fires' y rs → Closed w b lo pc base cells calls fires fires' (x + y) rs
  then-closed w b lo pc at_pc base cells cells₁ calls fires fires₁ fires' x y rs comes same q =
      record {
        cells' = q.cells';
        comes = comes-then X.weigh limit X.code (at pc base cells calls fires) (at at_pc base cells₁ calls fires₁) (at b base q.cells' calls fires') x y comes q.comes;
        same = λ j lt. q.same j lt ∙ same j lt;
        outs = q.outs;
      }

  pub closed-as : (w b lo pc base : ℕ) (cells : Cells) (calls : List Frame) (fires f f' x x' : ℕ) (rs : List Carried) → f ≡ f' → x ≡ x'
      → Closed w b lo pc base cells calls fires f x rs → Closed w b lo pc base cells calls fires f' x' rs
  closed-as w b lo pc base cells calls fires f f' x x' rs e d q =
      subst (λ z. Closed w b lo pc base cells calls fires f' z rs) d (subst (λ z. Closed w b lo pc base cells calls fires z x rs) e q)

  -- a step that writes errors
  pub errors-close : (w b lo pc base : ℕ) (cells : Cells) (calls : List Frame) (fires x : ℕ) (s : Step) (e : Cause) (rs : List Carried) → X.code pc ≡ s
      → doing limit s pc base cells calls fires ≡ Goes (at b base (write (base + lo) w (errors w e) cells) calls fires) → added X.weigh s pc base cells ≡ x → rs ≡ errors w e
      → Closed w b lo pc base cells calls fires fires x rs
  errors-close w b lo pc base cells calls fires x s e rs is to adds r =
      record {
        cells' = write (base + lo) w (errors w e) cells;
        comes = one-step X.weigh limit X.code pc base cells calls fires (at b base (write (base + lo) w (errors w e) cells) calls fires) s x is to adds;
        same = λ j lt. write-below (base + lo) w (errors w e) cells j lt;
        outs = λ i lt. writes-outs base lo w (errors w e) cells i lt ∙ ap (λ y. get_or y i Unfilled) (sym r);
      }

  -- ---- parts

  pub record PartOf (room : ℕ) (args : List Operand) (g : ℕ) (vs : List Vertex) (outs : List Source) (a b lo : ℕ) (froms : List Operand) : Type 0 where
    pub places : Places
    pub lends : Lends places args
    pub ordered : AreReadable X.width vs outs
    pub nodes : NodesAre X room g places vs a b lo
    pub is : map (operand places) outs ≡ froms

  abbrev pub Part : (room : ℕ) (args : List Operand) (g a b lo : ℕ) (froms : List Operand) → Type 0
  Part room args g a b lo froms = PartOf room args g (X.order g) (X.network g).results a b lo froms

  pub any-part : (room : ℕ) (args : List Operand) (g : ℕ) (vs : List Vertex) (outs : List Source) (a b lo : ℕ) (froms : List Operand) → PartIs X room args g vs outs a b lo froms → PartOf room args g vs outs a b lo froms
  any-part room _ _ _ _ _ _ _ _ (a_part args g vs outs a b lo places lends ordered nodes froms is) = record { places = places; lends = lends; ordered = ordered; nodes = nodes; is = is }

  pub part-of : (room : ℕ) (args : List Operand) (g a b lo : ℕ) (froms : List Operand) → GraphIs X room args g a b lo froms → Part room args g a b lo froms
  part-of room args g a b lo froms p = any-part room args g (X.order g) (X.network g).results a b lo froms p

  -- these nodes go as a graph does
  abbrev pub part_goes : ℕ → ℕ → List Vertex → List Source → List Carried → List Carried → Total (counting X.weights) → Type 0
  part_goes n g vs outs ks rs c = GraphYields (counting X.weights) (λ i. record { nodes = vs; results = outs }) (λ i. vs) (yields X n) g ks rs c

  -- the machine has come through a graph, whose results stand there
  pub record Ran (g a b lo base : ℕ) (cells : Cells) (calls : List Frame) (fires : ℕ) (c : Total (counting X.weights)) (froms : List Operand) (rs : List Carried) : Type 0 where
    pub cells' : Cells
    pub sum : ℕ
    pub comes : Reaches X.weigh limit X.code (at a base cells calls fires) (at b base cells' calls (fires + c.fires)) sum
    pub whole : c.sum ≡ sum + X.weights.of_results g rs
    pub same : Same (base + lo) cells' cells
    pub told : map (look cells' base) froms ≡ rs

  pub any-runs : (n m : ℕ) → suc m ≤ n → Below n → (room : ℕ) (args : List Operand) (g : ℕ) (vs : List Vertex) (outs : List Source) (a b lo : ℕ) (froms : List Operand) → PartOf room args g vs outs a b lo froms
      → (base : ℕ) (cells : Cells) (calls : List Frame) (fires : ℕ) (ks rs : List Carried) (c : Total (counting X.weights))
      → HoldsAll cells base lo args ks → part_goes m g vs outs ks rs c → fires + c.fires ≤ limit → Ran g a b lo base cells calls fires c froms rs
  any-runs n m lt below room args g vs outs a b lo froms p base cells calls fires ks rs c held goes le =
      let inner = goes.1 in
      let ordered = p.ordered in
      let rf = results-fire X.weights c inner (X.weights.of_results g rs) goes.4 in
      let rsum = results-sum X.weights c inner (X.weights.of_results g rs) goes.4 in
      let r = below m lt room g p.places vs a b lo p.nodes [] ordered.0 base cells calls fires (Inputs ks) goes.0 inner (good-lent cells base lo p.places args ks p.lends held) goes.2 (omega (arith, le, rf)) in
      record {
        cells' = r.cells';
        sum = inner.sum;
        comes = comes-as X.weigh limit X.code (at a base cells calls fires) b base r.cells' calls (fires + inner.fires) (fires + c.fires) inner.sum inner.sum (omega (arith, rf)) refl r.comes;
        whole = rsum;
        same = r.same;
        told = ap (map (look r.cells' base)) (sym p.is) ∙ look-all r.cells' base r.top (map (operand p.places) outs) rs (read-held r.cells' base r.top p.places (known_after X.width [] vs) goes.0 r.good outs ordered.1 rs goes.3);
      }

  -- a graph whose results become the outputs
  pub any-closes : (n m : ℕ) → suc m ≤ n → Below n → (room : ℕ) (args : List Operand) (g : ℕ) (vs : List Vertex) (outs : List Source) (a e up : ℕ) (froms : List Operand) → PartOf room args g vs outs a e up froms → (lo w b : ℕ) → Hands X g e froms lo w b → lo ≤ up
      → (base : ℕ) (cells : Cells) (calls : List Frame) (fires : ℕ) (ks rs : List Carried) (c : Total (counting X.weights))
      → HoldsAll cells base up args ks → part_goes m g vs outs ks rs c → fires + c.fires ≤ limit → Closed w b lo a base cells calls fires (fires + c.fires) c.sum rs
  any-closes n m lt below room args g vs outs a e up froms p lo w b hands rise base cells calls fires ks rs c held goes le =
      let r = any-runs n m lt below room args g vs outs a e up froms p base cells calls fires ks rs c held goes le in
      let whole = r.whole in
      let last = write (base + lo) w (map (look r.cells' base) froms) r.cells' in
      let moves = one-step X.weigh limit X.code e base r.cells' calls (fires + c.fires) (at b base last calls (fires + c.fires)) (Move froms lo w b) (X.weights.of_results g rs) hands.moves refl
      (hands.weighs (map (look r.cells' base) froms) ∙ ap (X.weights.of_results g) r.told) in
      record {
        cells' = last;
        comes = comes-as X.weigh limit X.code (at a base cells calls fires) b base last calls (fires + c.fires) (fires + c.fires) (r.sum + X.weights.of_results g rs) c.sum refl (sym whole)
            (comes-then X.weigh limit X.code (at a base cells calls fires) (at e base r.cells' calls (fires + c.fires)) (at b base last calls (fires + c.fires)) r.sum (X.weights.of_results g rs) r.comes moves);
        same = λ j lt. write-below (base + lo) w (map (look r.cells' base) froms) r.cells' j lt ∙ r.same j (omega (arith, lt, rise));
        outs = λ i lt. writes-outs base lo w (map (look r.cells' base) froms) r.cells' i lt ∙ ap (λ y. get_or y i Unfilled) r.told;
      }

  pub part-runs : (n m : ℕ) → suc m ≤ n → Below n → (room : ℕ) (args : List Operand) (g a b lo : ℕ) (froms : List Operand) → Part room args g a b lo froms
      → (base : ℕ) (cells : Cells) (calls : List Frame) (fires : ℕ) (ks rs : List Carried) (c : Total (counting X.weights))
      → HoldsAll cells base lo args ks → graph_yields X m g ks rs c → fires + c.fires ≤ limit → Ran g a b lo base cells calls fires c froms rs
  part-runs n m lt below room args g a b lo froms p base cells calls fires ks rs c held goes le = any-runs n m lt below room args g (X.order g) (X.network g).results a b lo froms p base cells calls fires ks rs c held goes le

  -- the last graph of a node
  pub last-closes : (n : ℕ) → Below n → (F : Form) (stage : Stage) (all ins : List Carried) → ((ms : List Carried) → follow F all stage ms ≡ Leave ms)
      → (room : ℕ) (args : List Operand) (g a e up : ℕ) (froms : List Operand) → Part room args g a e up froms → (lo w b : ℕ) → Hands X g e froms lo w b → lo ≤ up
      → (base : ℕ) (cells : Cells) (calls : List Frame) (fires : ℕ) (rs : List Carried) (c : Total (counting X.weights))
      → HoldsAll cells base up args ins → yields X n F all (Enter false g ins stage) rs c → fires + c.fires ≤ limit → Closed w b lo a base cells calls fires (fires + c.fires) c.sum rs
  last-closes zero below F stage all ins leaves room args g a e up froms p lo w b hands rise base cells calls fires rs c held goes le = absurd goes
  last-closes (suc zero) below F stage all ins leaves room args g a e up froms p lo w b hands rise base cells calls fires rs c held goes le = absurd goes.4
  last-closes (suc (suc n)) below F stage all ins leaves room args g a e up froms p lo w b hands rise base cells calls fires rs c held goes le =
      let inner = goes.1 in
      let later = goes.2 in
      let out = subst (λ x. yields X (suc n) F all x rs later) (leaves goes.0) goes.4 in
      let zf = nothing-fires X.weights later out.1 in
      let zs = nothing-sum X.weights later out.1 in
      let bf = both-fire X.weights c inner later 0 0 goes.5 in
      let bs = both-sum X.weights c inner later 0 0 goes.5 in
      let q = any-closes (suc (suc n)) (suc n) (omega arith) below room args g (X.order g) (X.network g).results a e up froms p lo w b hands rise base cells calls fires ins goes.0 inner held goes.3 (omega (arith, le, bf, zf)) in
      closed-as w b lo a base cells calls fires (fires + inner.fires) (fires + c.fires) inner.sum c.sum rs (omega (arith, bf, zf)) (omega (arith, bs, zs))
      (subst (λ x. Closed w b lo a base cells calls fires (fires + inner.fires) inner.sum x) (sym out.0) q)

  -- ---- the count and the copies before the parts

  pub record Copied (a lo w mid : ℕ) (mine : List Operand) (base : ℕ) (cells : Cells) (calls : List Frame) (fires own : ℕ) (ks : List Carried) : Type 0 where
    pub cells' : Cells
    pub counted : step limit X.code (at a base cells calls fires) ≡ Goes (at (suc a) base cells calls (suc fires))
    pub moved : step limit X.code (at (suc a) base cells calls (suc fires)) ≡ Goes (at (suc (suc a)) base cells' calls (suc fires))
    pub comes : Reaches X.weigh limit X.code (at a base cells calls fires) (at (suc (suc a)) base cells' calls (suc fires)) own
    pub same : Same (base + (lo + w)) cells' cells
    pub held : HoldsAll cells' base mid mine ks

  pub copies-pass : (args : List Operand) (own : List Carried → List Carried → ℕ) (w a lo mid : ℕ) (picks : List Bool) → Starts X a lo w picks args own mid
      → (base : ℕ) (cells : Cells) (calls : List Frame) (fires : ℕ) (ks rs : List Carried) → HoldsAll cells base lo args ks → fires < limit
      → Copied a lo w mid (own_cells picks args (lo + w)) base cells calls fires (own ks rs) ks
  copies-pass args own w a lo mid picks x base cells calls fires ks rs held lt =
      let froms = picked picks args in
      let n = length froms in
      let fits = x.fits in
      let seen = look-picked cells base lo picks args ks held in
      let now = write (base + (lo + w)) n (map (look cells base) froms) cells in
      let count = one-step X.weigh limit X.code a base cells calls fires (at (suc a) base cells calls (suc fires)) Count 0 x.counts (counts limit X.code fires (λ f. Goes (at (suc a) base cells calls f)) lt) refl in
      let move = one-step X.weigh limit X.code (suc a) base cells calls (suc fires) (at (suc (suc a)) base now calls (suc fires)) (Move froms (lo + w) n (suc (suc a))) (own ks rs) x.copies refl (ap (λ y. X.weigh (suc a) y []) seen ∙ x.weighs ks rs) in
      let same : Same (base + (lo + w)) now cells = λ j lt. write-below (base + (lo + w)) n (map (look cells base) froms) cells j lt in
      record {
        cells' = now;
        counted = does limit X.code Count a base cells calls fires (Goes (at (suc a) base cells calls (suc fires))) x.counts (counts limit X.code fires (λ f. Goes (at (suc a) base cells calls f)) lt);
        moved = does limit X.code (Move froms (lo + w) n (suc (suc a))) (suc a) base cells calls (suc fires) (Goes (at (suc (suc a)) base now calls (suc fires))) x.copies refl;
        comes = comes-as X.weigh limit X.code (at a base cells calls fires) (suc (suc a)) base now calls (suc fires) (suc fires) (0 + own ks rs) (own ks rs) refl (omega arith)
            (comes-then X.weigh limit X.code (at a base cells calls fires) (at (suc a) base cells calls (suc fires)) (at (suc (suc a)) base now calls (suc fires)) 0 (own ks rs) count move);
        same = same;
        held = own-held now cells base lo (lo + w) mid picks args ks (omega (arith, fits)) (λ j lt. same j (omega (arith, lt))) fits
            (λ i lt. writes-outs base (lo + w) n (map (look cells base) froms) cells i lt ∙ ap (λ y. get_or y i Unfilled) seen) held;
      }
