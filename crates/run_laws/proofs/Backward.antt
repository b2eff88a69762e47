-- Where the machine ends, the graph goes to its results, at the sum that it adds.
--
-- By induction on the steps that are left: what a stretch's first part goes to is known, so by the forward lemma the machine has come through it, and
-- there are fewer steps left for the next part.
use Rattle.std.proofs.Common.{◌≡◌, ℕ, zero, suc, ◌+◌, ◌≤◌, Bool, false, List, [], ◌∷◌, length, map, get_or, refl, sym, ap, ◌∙◌, subst, arith}
use Rattle.run_code.specs.Val.TheViews as values
use Rattle.run_code.specs.Carried.{Carried, Value, Unfilled, val_of}
use Rattle.run_code.specs.NodeValues.{op}
use Rattle.run_code.specs.Entered.{IsIn}
use Rattle.run_code.specs.Forms.{Form, Next, First, next_of, arm_in, Enter, Iterate, Leave, Called, Chosen, Selecting, Starting, Generating, select, errors, follow, first}
use Rattle.run_code.specs.Forms as form
use Rattle.run_code.specs.Demand.{Kind, Whole, Vertex}
use Rattle.run_code.specs.Plain.{Means, Costs}
use Rattle.run_code.proofs.Growing.{kind-on, nodes-on, yields-on}
use Rattle.run_code.proofs.Recorded.{recorded}
use Rattle.run_code.specs.Laws.{counting}
use Rattle.run_code.specs.Ordered.{Fired, Inputs, Bindings, and_results, nothing, with_both}
use Rattle.run_code.proofs.Same.{itself}
use Rattle.run_code.proofs.Shuffled.{all-listed}
use Rattle.run_code.proofs.Complete.{yields-where-costed}
use Rattle.run_code.specs.Cells.{At, Cells, Operand, look, own_cells, write}
use Rattle.run_code.specs.Coded.{AreCoded, ArmsAre, Layout, NodeIs, NodesAre, Places, Starts, a_call, a_for_all, a_loop, a_node, a_select, a_tag_case, loop_form, no_node, operand, scalar, yields}
use Rattle.run_code.specs.Known.{IsReadable, Known}
use Rattle.run_code.specs.Machine.{EndsIn, Frame, Goes, State, arm_by, at, choice, chosen, tagged}
use Rattle.run_code.specs.Steps.{Branch, Call, Fire, Tag}
use Rattle.run_laws.proofs.BackForAlls.{for-all-went}
use Rattle.run_laws.proofs.BackLoops.{loop-went}
use Rattle.run_laws.proofs.Cells.{Good, HoldsAll, all-later, as-many, good-bound, good-later, good-passed, look-all, read-held, write-in}
use Rattle.run_laws.proofs.Ends.{Fewer, Went, WentFrom, WentKind, WentOn, enters, graph-of, last-went, leaves-on, on-as, part-went, results-of, start-went}
use Rattle.run_laws.proofs.ForAlls.{over-of}
use Rattle.run_laws.proofs.Forward.{Selected, Tagged, all-done, arm, content-held, forward, into, no_more, node-passes, selected, spoils, tagged-by, union-held}
use Rattle.run_laws.proofs.Loops.{loop-first, loop-of}
use Rattle.run_laws.proofs.Passing.{Part, part-of}
use Rattle.run_laws.proofs.Stepping.{counts, does, end-after, end-next, one-end, within}
use Rattle.run_laws.proofs.Told.{Tells, read-known, tells-bound, tells-inputs}
use Rattle.run_laws.specs.Laws.{AreEndsRecorded, EndsAdding, IsExact}

module _ (X : Layout) (limit : ℕ) (coded : AreCoded X) (RS : List Carried) (END : ℕ) where
  abbrev E : ℕ → State → Type 0
  E k s = EndsIn k limit X.code s RS END

  abbrev On : Form → List Carried → Next → ℕ → Type 0
  On F ks next fires = WentOn X limit coded RS END F ks next fires

  abbrev Few : ℕ → Type 0
  Few k = Fewer X limit coded RS END k

  -- a node past its own firing
  of-whole : (F : Form) (ks : List Carried) (next : Next) (fires : ℕ) → next_of (first F ks) ≡ next → On F ks next (suc fires) → WentKind X limit coded RS END (Whole F) ks fires
  of-whole F ks next fires e y =
      let w' = y.within in
      record { steps = y.steps; outs = y.outs; cost = y.cost; goes = subst (λ q. yields X y.steps F ks q y.outs y.cost) (sym e) y.goes; within = omega (arith, w') }

  call-went : (k : ℕ) → Few k → (room : ℕ) (args : List Operand) (f w a lo : ℕ) → IsIn f X.functions → length args ≡ X.params f → lo + w ≤ room → X.code a ≡ Call (X.entry f) room args lo w
      → (base : ℕ) (cells : Cells) (calls : List Frame) (fires : ℕ) (ks : List Carried) → HoldsAll cells base lo args ks → E k (at a base cells calls fires) → On (form.Call f) ks (Enter false f ks Called) (suc fires)
  call-went k fewer room args f w a lo in_f many fits is base cells calls fires ks held ends =
      let fn = coded f in_f in
      let o : Frame = record { pc = suc a; base = base; out = lo; width = w } in
      let first = write (base + room) (length args) (map (look cells base) args) cells in
      let lt = within limit X.code (Call (X.entry f) room args lo w) a base cells calls fires (λ x. at (X.entry f) (base + room) first (o ∷ calls) x) is refl k RS END ends in
      let eq = look-all cells base lo args ks held in
      let n = as-many cells base lo args ks held in
      let next = end-next limit X.code (at a base cells calls fires) (at (X.entry f) (base + room) first (o ∷ calls) (suc fires))
      (does limit X.code (Call (X.entry f) room args lo w) a base cells calls fires (Goes (at (X.entry f) (base + room) first (o ∷ calls) (suc fires))) is
      (counts limit X.code fires (λ x. Goes (at (X.entry f) (base + room) first (o ∷ calls) x)) lt)) k RS END ends in
      let good = good-passed first (base + room) (X.params f) fn.places ks (sym n ∙ many) fn.inputs fn.wanting
      (λ i lt. write-in (base + room) (length args) (map (look cells base) args) cells i (omega (arith, lt, many)) ∙ ap (λ x. get_or x i Unfilled) eq) in
      let less = next.1 in
      let ord = fn.ordered in
      let r = fewer next.0 (omega (arith, less)) (X.size f) f fn.places (X.order f) (X.entry f) fn.end (X.params f) fn.nodes [] ord.0 (base + room) first (o ∷ calls) (suc fires) (Inputs ks) (omega (arith, lt)) good (tells-inputs ks) next.2 in
      let res = results-of X limit coded RS END f ks (suc fires) ord r in
      let w' = r.within in
      let inner = and_results (counting X.weights) r.cost (X.weights.of_results f res.0) in
      record {
        steps = suc (r.steps + 1);
        outs = res.0;
        cost = with_both (counting X.weights) 0 0 inner (nothing (counting X.weights));
        goes = enters X limit coded RS END (form.Call f) ks false f ks Called res.0 res.0 inner (nothing (counting X.weights)) r.steps 1 (graph-of X limit coded RS END f ks (suc fires) r.steps r (omega arith) res.0 res.1) (refl, refl);
        within = omega (arith, w');
      }

  chosen-went : (k : ℕ) → ((i : ℕ) → i ≤ k → WentFrom X limit coded RS END i) → (room : ℕ) (args : List Operand) (s : ℕ) (gs : List ℕ) (w m b lo up : ℕ) (targets : List ℕ) (selector : Operand) → X.code m ≡ Branch selector targets lo w b
      → (base : ℕ) (cells : Cells) (calls : List Frame) (fires : ℕ) (ks : List Carried) (next : Next) → fires ≤ limit → HoldsAll cells base up args ks
      → Selected X limit room args w b lo up (form.Select s gs w) ks next (choice targets (val_of (look cells base selector)))
      → E k (at m base cells calls fires) → On (form.Select s gs w) ks next fires
  chosen-went k most room args s gs w m b lo up targets selector is base cells calls fires ks next lim held (no_more e next_is to) ends =
      leaves-on X limit coded RS END (form.Select s gs w) ks (errors w e) next fires next_is lim
  chosen-went k most room args s gs w m b lo up targets selector is base cells calls fires ks next lim held (arm g t next_is to body) ends =
      let x = end-next limit X.code (at m base cells calls fires) (at t base cells calls fires)
      (does limit X.code (Branch selector targets lo w b) m base cells calls fires (Goes (at t base cells calls fires)) is (ap (λ y. chosen limit y lo w b base cells calls fires) to)) k RS END ends in
      let less = x.1 in
      on-as X limit coded RS END (form.Select s gs w) ks next (Enter false g ks Chosen) fires next_is
      (last-went X limit coded RS END x.0 (most x.0 (omega (arith, less))) (form.Select s gs w) Chosen ks ks (λ ms. refl) room args g t body.end up body.froms body.part base cells calls fires lim held x.2)

  select-went : (k : ℕ) → Few k → (room : ℕ) (args : List Operand) (s : ℕ) (gs : List ℕ) (own : List Carried → List Carried → ℕ) (w a b lo : ℕ) (picks : List Bool) (mid m : ℕ) (selector : Operand) (targets : List ℕ)
      → Starts X a lo w picks args own mid → Part X limit room (own_cells picks args (lo + w)) s (suc (suc a)) m mid (selector ∷ []) → X.code m ≡ Branch selector targets lo w b
      → ArmsAre X room (own_cells picks args (lo + w)) gs targets w b lo mid
      → (base : ℕ) (cells : Cells) (calls : List Frame) (fires : ℕ) (ks : List Carried) → HoldsAll cells base lo args ks → E k (at a base cells calls fires) → On (form.Select s gs w) ks (Enter false s ks Selecting) (suc fires)
  select-went k fewer room args s gs own w a b lo picks mid m selector targets starts part branch arms base cells calls fires ks held ends =
      let mine = own_cells picks args (lo + w) in
      let st = start-went X limit coded RS END k args own w a lo mid picks starts base cells calls fires ks held ends in
      let lt = st.less in
      let less = st.fewer in
      let p = part-went X limit coded RS END st.left (fewer st.left less) room mine s (suc (suc a)) m mid (selector ∷ []) part base st.cells' calls (suc fires) ks (omega (arith, lt)) st.held st.ends in
      let less' = p.less in
      let v = val_of (look p.cells' base selector) in
      let y = chosen-went p.left (λ i at_most. fewer i (omega (arith, at_most, less, less'))) room mine s gs w m b lo mid targets selector branch base p.cells' calls (suc fires + p.cost.fires) ks (select (form.Select s gs w) gs ks v) p.within
      (all-later p.cells' st.cells' base mid mid mine ks (omega arith) p.same st.held) (selected X limit room mine s gs targets w b lo mid arms ks v) p.ends in
      let w' = y.within in
      record {
        steps = suc (p.steps + y.steps);
        outs = y.outs;
        cost = with_both (counting X.weights) 0 0 p.cost y.cost;
        goes = enters X limit coded RS END (form.Select s gs w) ks false s ks Selecting p.rs y.outs p.cost y.cost p.steps y.steps p.goes
            (subst (λ q. yields X y.steps (form.Select s gs w) ks (follow (form.Select s gs w) ks Selecting q) y.outs y.cost) p.told y.goes);
        within = omega (arith, w');
      }

  tag-chosen : (k : ℕ) → ((i : ℕ) → i ≤ k → WentFrom X limit coded RS END i) → (room : ℕ) (others : List Operand) (gs : List ℕ) (w t b lo mid : ℕ) (union : Operand) (targets : List ℕ) → X.code t ≡ Tag union targets mid lo w b
      → (base : ℕ) (cells : Cells) (calls : List Frame) (fires : ℕ) (x : Carried) (ks : List Carried) (first : First) → fires ≤ limit → look cells base union ≡ x → HoldsAll cells base mid others ks
      → Tagged X limit room (At mid ∷ others) w b lo (suc mid) ks first (arm_by targets (values.out-Val (val_of x)))
      → E k (at t base cells calls fires) → On (form.TagCase gs w) (x ∷ ks) (next_of first) fires
  tag-chosen k most room others gs w t b lo mid union targets is base cells calls fires x ks first lim seen held (spoils e first_is to) ends =
      leaves-on X limit coded RS END (form.TagCase gs w) (x ∷ ks) (errors w e) (next_of first) fires (ap next_of first_is) lim
  tag-chosen k most room others gs w t b lo mid union targets is base cells calls fires x ks first lim seen held (into g to_place v first_is to body) ends =
      let now = write (base + mid) 1 (Value v ∷ []) cells in
      let y = end-next limit X.code (at t base cells calls fires) (at to_place base now calls fires)
      (does limit X.code (Tag union targets mid lo w b) t base cells calls fires (Goes (at to_place base now calls fires)) is
      (ap (λ y. tagged (arm_by targets (values.out-Val (val_of y))) mid lo w b base cells calls fires) seen ∙ ap (λ y. tagged y mid lo w b base cells calls fires) to)) k RS END ends in
      let less = y.1 in
      on-as X limit coded RS END (form.TagCase gs w) (x ∷ ks) (next_of first) (Enter false g (Value v ∷ ks) Chosen) fires (ap next_of first_is)
      (last-went X limit coded RS END y.0 (most y.0 (omega (arith, less))) (form.TagCase gs w) Chosen (x ∷ ks) (Value v ∷ ks) (λ ms. refl) room (At mid ∷ others) g to_place body.end (suc mid) body.froms body.part base now calls fires lim
      (content-held X limit cells base mid others ks v held) y.2)

  tag-went : (k : ℕ) → Few k → (room : ℕ) (args : List Operand) (gs : List ℕ) (own : List Carried → List Carried → ℕ) (w a b lo : ℕ) (picks : List Bool) (mid : ℕ) (union : Operand) (others : List Operand) (targets : List ℕ)
      → Starts X a lo w picks args own mid → own_cells picks args (lo + w) ≡ union ∷ others → X.code (suc (suc a)) ≡ Tag union targets mid lo w b → ArmsAre X room (At mid ∷ others) gs targets w b lo (suc mid)
      → (base : ℕ) (cells : Cells) (calls : List Frame) (fires : ℕ) (ks : List Carried) → HoldsAll cells base lo args ks → E k (at a base cells calls fires)
      → On (form.TagCase gs w) ks (next_of (first (form.TagCase gs w) ks)) (suc fires)
  tag-went k fewer room args gs own w a b lo picks mid union others targets starts split is arms base cells calls fires [] held ends =
      let st = start-went X limit coded RS END k args own w a lo mid picks starts base cells calls fires [] held ends in
      absurd (subst (λ y. HoldsAll st.cells' base mid y []) split st.held)
  tag-went k fewer room args gs own w a b lo picks mid union others targets starts split is arms base cells calls fires (x ∷ ks) held ends =
      let st = start-went X limit coded RS END k args own w a lo mid picks starts base cells calls fires (x ∷ ks) held ends in
      let lt = st.less in
      let less = st.fewer in
      let h = union-held X limit st.cells' base mid (own_cells picks args (lo + w)) union others x ks split st.held in
      tag-chosen st.left (λ i at_most. fewer i (omega (arith, at_most, less))) room others gs w (suc (suc a)) b lo mid union targets is base st.cells' calls (suc fires) x ks (arm_in gs w ks (values.out-Val (val_of x))) (omega (arith, lt)) h.0 h.1
      (tagged-by X limit room (At mid ∷ others) gs targets w b lo (suc mid) arms ks (values.out-Val (val_of x))) st.ends

  -- ---- all kinds

  node-went : (k : ℕ) → Few k → (room : ℕ) (args : List Operand) (kind : Kind) (own : List Carried → List Carried → ℕ) (w a b lo : ℕ) → NodeIs X room args kind own w a b lo
      → (base : ℕ) (cells : Cells) (calls : List Frame) (fires : ℕ) (ks : List Carried) → HoldsAll cells base lo args ks → E k (at a base cells calls fires) → WentKind X limit coded RS END kind ks fires
  node-went k fewer room _ _ _ _ _ _ _ (scalar args row shape own w a lo is weighs) base cells calls fires ks held ends =
      let lt = within limit X.code (Fire row shape args lo w) a base cells calls fires (λ x. at (suc a) base (write (base + lo) w (op row shape (map (look cells base) args)) cells) calls x) is refl k RS END ends in
      record { steps = 0; outs = op row shape ks; cost = nothing (counting X.weights); goes = (refl, refl); within = omega (arith, lt) }
  node-went k fewer room _ _ _ _ _ _ _ (a_call args f own w a lo in_f many fits is weighs) base cells calls fires ks held ends =
      of-whole (form.Call f) ks (Enter false f ks Called) fires refl (call-went k fewer room args f w a lo in_f many fits is base cells calls fires ks held ends)
  node-went k fewer room _ _ _ _ _ _ _ (a_select args s gs own w a b lo picks mid m selector targets starts part free branch arms) base cells calls fires ks held ends =
      of-whole (form.Select s gs w) ks (Enter false s ks Selecting) fires refl
      (select-went k fewer room args s gs own w a b lo picks mid m selector targets starts (part-of X limit room (own_cells picks args (lo + w)) s (suc (suc a)) m mid (selector ∷ []) part) branch arms base cells calls fires ks held ends)
  node-went k fewer room _ _ _ _ _ _ _ (a_tag_case args gs own w a b lo picks mid union others targets starts split is arms) base cells calls fires ks held ends =
      of-whole (form.TagCase gs w) ks (next_of (first (form.TagCase gs w) ks)) fires refl (tag-went k fewer room args gs own w a b lo picks mid union others targets starts split is arms base cells calls fires ks held ends)
  node-went k fewer room _ _ _ _ _ _ _ (a_loop early args init test body returns own w a b lo loop) base cells calls fires ks held ends =
      of-whole (loop_form early init test body returns w) ks (Enter false init ks Starting) fires (ap next_of (loop-first early init test body returns w ks))
      (loop-went X limit coded RS END room early args init test body returns own w a b lo (loop-of X limit room early args init test body returns own w a b lo loop) k fewer base cells calls fires ks held ends)
  node-went k fewer room _ _ _ _ _ _ _ (a_for_all args generator body returns m own w a b lo over) base cells calls fires ks held ends =
      of-whole (form.ForAll generator body returns m w) ks (Enter false generator ks Generating) fires refl
      (for-all-went X limit coded RS END room args generator body returns m own w a b lo (over-of X limit room args generator body returns m own w a b lo over) k fewer base cells calls fires ks held ends)

  nodes-went : (k : ℕ) → Few k → (room g : ℕ) (places : Places) (vs : List Vertex) (a b lo : ℕ) → NodesAre X room g places vs a b lo
      → (j : ℕ) → j ≤ k → (known : Known) → IsReadable X.width known vs → (base : ℕ) (cells : Cells) (calls : List Frame) (fires : ℕ) (env : Bindings) → fires ≤ limit → Good cells base lo places known env → Tells known env
      → E j (at a base cells calls fires) → Went X limit coded RS END g env vs fires
  nodes-went k fewer room _ _ _ _ _ _ (no_node g places a lo) j le known ord base cells calls fires env lim good tells ends =
      record { steps = 0; after = env; cost = nothing (counting X.weights); goes = (refl, refl); within = omega (arith, lim) }
  nodes-went k fewer room _ _ _ _ _ _ (a_node g places v vs a m b lo next puts fits node nodes) j le known ord base cells calls fires env lim good tells ends =
      let ks = read-known known env tells v.ins ord.2 in
      let held = read-held cells base lo places known env good v.ins ord.2 ks.0 ks.1 in
      let x = node-went j (λ i lt. fewer i (omega (arith, lt, le))) room (map (operand places) v.ins) v.kind (X.weights.of_node g v) (X.width v) a m lo node base cells calls fires ks.0 held ends in
      let own = X.weights.of_node g v ks.0 x.outs in
      let p = node-passes X limit coded x.steps (forward X limit coded x.steps) room (map (operand places) v.ins) v.kind (X.weights.of_node g v) (X.width v) a m lo node base cells calls fires ks.0 x.outs x.cost held x.goes x.within in
      let good' = good-bound p.cells' base lo next (X.width v) v.label x.outs places known env ord.0 ord.1 puts fits p.outs (good-later p.cells' cells base lo next places known env (omega (arith, fits)) p.same good) in
      let e = end-after X.weigh limit X.code (at a base cells calls fires) (at m base p.cells' calls (fires + (1 + x.cost.fires))) (own + x.cost.sum) p.comes j RS END ends in
      let less = e.1 in
      let r = nodes-went k fewer room g places vs m b next nodes e.0 (omega (arith, less, le)) ((v.label, X.width v) ∷ known) ord.3 base p.cells' calls (fires + (1 + x.cost.fires)) (Fired v.label x.outs env) x.within good' (tells-bound v.label (X.width v) x.outs known env tells) e.2 in
      let n = x.steps + r.steps in
      let on = yields-on (counting X.weights) X.network X.order x.steps n (omega arith) in
      let later = yields-on (counting X.weights) X.network X.order r.steps n (omega arith) in
      let w = r.within in
      record {
        steps = n;
        after = r.after;
        cost = with_both (counting X.weights) 1 own x.cost r.cost;
        goes = (
          x.outs,
          x.cost,
          r.cost,
          record { operands = ks.0; reads = ks.1; gives = kind-on (counting X.weights) X.network X.order (yields X x.steps) (yields X n) on v.kind ks.0 x.outs x.cost x.goes },
          nodes-on (counting X.weights) X.network X.order (yields X r.steps) (yields X n) later g (Fired v.label x.outs env) vs r.after r.cost r.goes,
          refl,
        );
        within = omega (arith, w);
      }

  pub backward : (k : ℕ) → Few k
  backward zero j lt room g places vs a b lo nodes = absurd (omega (arith, lt))
  backward (suc k) j lt room g places vs a b lo nodes = nodes-went j (λ i less. backward k i (omega (arith, less, lt))) room g places vs a b lo nodes j (omega arith)

pub ends-recorded : AreEndsRecorded
ends-recorded X limit coded orderly inorder k f ins rs c cells in_f many held ends =
    let ok = all-listed X.network X.order orderly inorder in
    let fn = coded f in_f in
    let ordered = fn.ordered in
    let good = good-passed cells 0 (X.params f) fn.places ins many fn.inputs fn.wanting (λ i lt. ap cells (omega arith) ∙ held i (omega (arith, lt, many))) in
    let r = backward X limit coded rs c (suc k) k (omega arith) (X.size f) f fn.places (X.order f) (X.entry f) fn.end (X.params f) fn.nodes [] ordered.0 0 cells [] 0 (Inputs ins) (omega arith) good (tells-inputs ins) ends in
    let res = results-of X limit coded rs c f ins 0 fn.ordered r in
    let t = and_results (counting X.weights) r.cost (X.weights.of_results f res.0) in
    let g = graph-of X limit coded rs c f ins 0 r.steps r (omega arith) res.0 res.1 in
    let w = r.within in
    let d = all-done X limit coded r.steps f ins res.0 t cells in_f many held g (omega (arith, w)) in
    let e = end-after X.weigh limit X.code (at (X.entry f) 0 cells [] 0) d.0 d.1 d.2 k rs c ends in
    let same = one-end limit X.code e.0 d.0 res.0 rs t.fires c d.3 e.2 in
    let x = recorded (counting X.weights) X.network X.order ok r.steps f ins res.0 t g X.weights (itself X.weights) in (
      t.sum,
      subst (λ y. EndsAdding X.weigh limit X.code (at (X.entry f) 0 cells [] 0) y c t.sum) same.0 (subst (λ y. EndsAdding X.weigh limit X.code (at (X.entry f) 0 cells [] 0) res.0 y t.sum) same.1 d),
      (x.0, subst (λ y. Means X.network x.0 f ins y) same.0 x.1, subst (λ y. Costs X.network x.0 f ins y) same.1 x.2, x.3),
      subst (λ y. y ≤ limit) same.1 (omega (arith, w)),
    )

pub exact : IsExact
exact X limit coded orderly inorder f ins cells in_f many held e c costs le =
    let ok = all-listed X.network X.order orderly inorder in
    let g = yields-where-costed (counting X.weights) X.network X.order ok e f ins c costs in
    let t = g.2 in
    let same = g.4 in
    let d = all-done X limit coded g.0 f ins g.1 t cells in_f many held g.3 (omega (arith, same, le)) in
    let x = recorded (counting X.weights) X.network X.order ok g.0 f ins g.1 t g.3 X.weights (itself X.weights) in
    (g.1, t.sum, subst (λ y. EndsAdding X.weigh limit X.code (at (X.entry f) 0 cells [] 0) g.1 y t.sum) same d, (x.0, x.1, subst (λ y. Costs X.network x.0 f ins y) same x.2, x.3))
