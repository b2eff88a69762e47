-- Tables that are filled from the last graph to the first.
use Rattle.std.proofs.Common.{◌≡◌, ℕ, zero, suc, ◌+◌, ◌-◌, ◌<◌, ◌≤◌, max, drop, if◌then◌else◌, inl, inr, List, [], ◌∷◌, length, get_or, slice_get, refl, sym, ap, ◌∙◌, subst, arith, get_or-set_other, get_or-set_same, set, eqb, Bool, true, false}
use Rattle.std.proofs.lemmas.Bool.{eq-eqb}
use Rattle.std.proofs.lemmas.Option.{slice_get_past}
use Rattle.std.proofs.lemmas.List.{drop_more}
use Rattle.graph_meaning.specs.Entered.{IsIn}
use Rattle.run_made.proofs.Lying.{eqb-sound}
use Rattle.plan_data.specs.declared.plan.PlanData.{PlanData}
use Rattle.plan_data.specs.declared.plan.PlanGraph.{PlanGraph}
use Rattle.plan_data.specs.declared.plan.PlanNode.{PlanNode}
use Rattle.plan_data.specs.declared.plan.Work.{Work}
use Rattle.plan_data.specs.declared.plan.Work.TheVariants as work
use Rattle.plan_data.specs.Parts.{arms_steps, collects_of, extent_in, graph_refolded, greatest_of, nodes_cells, nodes_of, nodes_steps, own_copies, refolded_of, results_of, size_in, table_of, work_cells, work_steps}
use Rattle.plan_tables.specs.Above.{AllAbove, AreAbove, IsPartAbove, entry_at, roomed, tabled}

module _ (D E : PlanData) (same_graphs : D.graphs ≡ E.graphs) (k : ℕ) where
  refolded-same : (r : ℕ) → graph_refolded D r ≡ graph_refolded E r
  refolded-same r = ap (λ gs. refolded_of r (slice_get gs r)) same_graphs

  module _ (same : (h : ℕ) → k < h → size_in D h ≡ size_in E h) where
    arms-same : (gs : List ℕ) → AllAbove k gs → arms_steps D gs ≡ arms_steps E gs
    arms-same [] up = refl
    arms-same (g ∷ gs) up = let a = same g up.0 in let b = arms-same gs up.1 in omega (arith, a, b)

    last-same : (r : ℕ) → k < refolded_of r (slice_get D.graphs r) → size_in D (graph_refolded D r) ≡ size_in E (graph_refolded E r)
    last-same r up = same (graph_refolded D r) up ∙ ap (size_in E) (refolded-same r)

    work-same : (x : Work) → IsPartAbove D.graphs k x → work_steps D x ≡ work_steps E x
    work-same (work.Plain row shape writes copies) up = refl
    work-same (work.Call f) up = refl
    work-same (work.Select s gs) up = let a = same s up.0 in let b = arms-same gs up.1 in omega (arith, a, b)
    work-same (work.TagCase gs) up = let b = arms-same gs up in omega (arith, b)
    work-same (work.LoopA p) up = let a = same p.init up.0 in let b = same p.test up.1 in let c = same p.body up.2 in let d = last-same p.returns up.3 in omega (arith, a, b, c, d)
    work-same (work.LoopB p) up = let a = same p.init up.0 in let b = same p.test up.1 in let c = same p.body up.2 in let d = last-same p.returns up.3 in omega (arith, a, b, c, d)
    work-same (work.ForAll g b r m) up = let a = same g up.0 in let c = same b up.1 in let d = last-same r up.2 in omega (arith, a, c, d)

    pub steps-same : (ns : List PlanNode) → AreAbove D.graphs k ns → nodes_steps D ns ≡ nodes_steps E ns
    steps-same [] up = refl
    steps-same (n ∷ ns) up = let a = work-same n.work up.0 in let b = steps-same ns up.1 in omega (arith, a, b)

  module _ (same : (h : ℕ) → k < h → extent_in D h ≡ extent_in E h) where
    greatest-same : (gs : List ℕ) → AllAbove k gs → greatest_of D gs ≡ greatest_of E gs
    greatest-same [] up = refl
    greatest-same (g ∷ gs) up = ap (λ x. max x (greatest_of D gs)) (same g up.0) ∙ ap (λ x. max (extent_in E g) x) (greatest-same gs up.1)

    end-same : (r : ℕ) → k < refolded_of r (slice_get D.graphs r) → extent_in D (graph_refolded D r) ≡ extent_in E (graph_refolded E r)
    end-same r up = same (graph_refolded D r) up ∙ ap (extent_in E) (refolded-same r)

    loop-alike : (i t b r : ℕ) → k < i → k < t → k < b → k < refolded_of r (slice_get D.graphs r)
        → max (extent_in D i) (length (results_of (slice_get D.graphs i)) + (length (collects_of (slice_get D.graphs r)) + max (extent_in D t) (max (extent_in D b) (extent_in D (graph_refolded D r)))))
        ≡ max (extent_in E i) (length (results_of (slice_get E.graphs i)) + (length (collects_of (slice_get E.graphs r)) + max (extent_in E t) (max (extent_in E b) (extent_in E (graph_refolded E r)))))
    loop-alike i t b r a c d e =
        let all = λ (gs : List PlanGraph) (p q s z : ℕ). max p (length (results_of (slice_get gs i)) + (length (collects_of (slice_get gs r)) + max q (max s z))) in
        ap (λ gs. all gs (extent_in D i) (extent_in D t) (extent_in D b) (extent_in D (graph_refolded D r))) same_graphs
        ∙ (ap (λ p. all E.graphs p (extent_in D t) (extent_in D b) (extent_in D (graph_refolded D r))) (same i a)
        ∙ (ap (λ p. all E.graphs (extent_in E i) p (extent_in D b) (extent_in D (graph_refolded D r))) (same t c)
        ∙ (ap (λ p. all E.graphs (extent_in E i) (extent_in E t) p (extent_in D (graph_refolded D r))) (same b d)
        ∙ ap (λ p. all E.graphs (extent_in E i) (extent_in E t) (extent_in E b) p) (end-same r e))))

    work-alike : (x : Work) → IsPartAbove D.graphs k x → work_cells D x ≡ work_cells E x
    work-alike (work.Plain row shape writes copies) up = refl
    work-alike (work.Call f) up = refl
    work-alike (work.Select s gs) up = ap (λ x. max x (greatest_of D gs)) (same s up.0) ∙ ap (λ x. max (extent_in E s) x) (greatest-same gs up.1)
    work-alike (work.TagCase gs) up = ap suc (greatest-same gs up)
    work-alike (work.LoopA p) up = loop-alike p.init p.test p.body p.returns up.0 up.1 up.2 up.3
    work-alike (work.LoopB p) up = loop-alike p.init p.test p.body p.returns up.0 up.1 up.2 up.3
    work-alike (work.ForAll g b r m) up =
        let all = λ (gs : List PlanGraph) (p q z : ℕ). max p (length (results_of (slice_get gs g)) + (length (collects_of (slice_get gs r)) + max (suc (length (results_of (slice_get gs g))) + q) z)) in
        ap (λ gs. all gs (extent_in D g) (extent_in D b) (extent_in D (graph_refolded D r))) same_graphs
        ∙ (ap (λ p. all E.graphs p (extent_in D b) (extent_in D (graph_refolded D r))) (same g up.0)
        ∙ (ap (λ p. all E.graphs (extent_in E g) p (extent_in D (graph_refolded D r))) (same b up.1)
        ∙ ap (λ p. all E.graphs (extent_in E g) (extent_in E b) p) (end-same r up.2)))

    pub cells-same : (ns : List PlanNode) → AreAbove D.graphs k ns → nodes_cells D ns ≡ nodes_cells E ns
    cells-same [] up = refl
    cells-same (n ∷ ns) up =
        ap (λ x. max (n.width + (own_copies n.work n.ins + x)) (n.width + nodes_cells D ns)) (work-alike n.work up.0)
        ∙ ap (λ x. max (n.width + (own_copies n.work n.ins + work_cells E n.work)) (n.width + x)) (cells-same ns up.1)

-- a table that is right from a number on, one number more
pub table-more : (F : List ℕ → ℕ → ℕ) → ((k : ℕ) (xs ys : List ℕ) → ((h : ℕ) → k < h → table_of xs h ≡ table_of ys h) → F xs k ≡ F ys k)
    → (xs : List ℕ) (g n : ℕ) → g < length xs → ((k : ℕ) → suc g ≤ k → table_of xs k ≡ F xs k) → n ≡ F xs g
    → (k : ℕ) → g ≤ k → table_of (set xs g n) k ≡ F (set xs g n) k
table-more F only xs g n lt before now k le = go (eqb k g) (eqb-sound k g) (λ e. eq-eqb k g e)
  where
    other : (h : ℕ) → (h ≡ g → ⊥) → table_of (set xs g n) h ≡ table_of xs h
    other h ne = get_or-set_other xs g h n 0 ne

    above : (h : ℕ) → g ≤ h → (x : ℕ) → h < x → table_of xs x ≡ table_of (set xs g n) x
    above h up x more = sym (other x (λ e. absurd (omega (arith, e, more, up))))

    go : (c : Bool) → (c ≡ true → k ≡ g) → (k ≡ g → c ≡ true) → table_of (set xs g n) k ≡ F (set xs g n) k
    go true sound total =
        subst (λ x. table_of (set xs g n) x ≡ F (set xs g n) x) (sym (sound refl)) (get_or-set_same xs g n 0 lt ∙ (now ∙ only g xs (set xs g n) (above g (omega arith))))
    go false sound total =
        let ne : k ≡ g → ⊥ = λ e. absurd (let x : false ≡ true = total e in cc) in
        other k ne ∙ (before k (omega (arith, le, ne)) ∙ only k xs (set xs g n) (above k le))

pub table-past : (xs : List ℕ) (k : ℕ) → length xs ≤ k → table_of xs k ≡ 0
table-past [] k h = refl
table-past (x ∷ xs) zero h = absurd (omega (arith, h))
table-past (x ∷ xs) (suc k) h = table-past xs k (omega (arith, h))

-- behind the last graph nothing is taken
pub steps-past : (graphs : List PlanGraph) (xs : List ℕ) (k : ℕ) → length graphs ≤ k → length xs ≤ k → table_of xs k ≡ nodes_steps (tabled graphs xs) (nodes_of (slice_get graphs k))
steps-past graphs xs k a b = table-past xs k b ∙ sym (ap (λ x. nodes_steps (tabled graphs xs) (nodes_of x)) (slice_get_past graphs k a))

pub cells-past : (graphs : List PlanGraph) (xs : List ℕ) (k : ℕ) → length graphs ≤ k → length xs ≤ k → table_of xs k ≡ nodes_cells (roomed graphs xs) (nodes_of (slice_get graphs k))
cells-past graphs xs k a b = table-past xs k b ∙ sym (ap (λ x. nodes_cells (roomed graphs xs) (nodes_of x)) (slice_get_past graphs k a))

-- ---- functions

module _ (D : PlanData) where
  rest-size : (fs : List ℕ) (i : ℕ) → arms_steps D (drop i fs) ≤ arms_steps D fs
  rest-size [] zero = omega arith
  rest-size [] (suc i) = omega arith
  rest-size (f ∷ fs) zero = omega arith
  rest-size (f ∷ fs) (suc i) = let a = rest-size fs i in omega (arith, a)

  -- the function at a place, and those behind it
  pub at-place : (fs : List ℕ) (i : ℕ) → i < length fs → drop i fs ≡ get_or fs i 0 ∷ drop (suc i) fs
  at-place fs i lt = let e : i + 1 ≡ suc i = omega arith in drop_more fs i 0 lt ∙ ap (λ x. get_or fs i 0 ∷ drop x fs) e

  place-fits : (fs : List ℕ) (i begin : ℕ) → i < length fs → begin + arms_steps D (drop (suc i) fs) ≡ arms_steps D fs → suc (size_in D (get_or fs i 0)) ≤ begin
  place-fits fs i begin lt far =
      let a = rest-size fs i in
      let b = ap (arms_steps D) (at-place fs i lt) in
      omega (arith, a, b, far)

  -- the function before a place that is reached
  pub begin-fits : (fs : List ℕ) (place begin : ℕ) → 0 < place → place ≤ length fs → begin + arms_steps D (drop place fs) ≡ arms_steps D fs → suc (size_in D (get_or fs (place - 1) 0)) ≤ begin
  begin-fits fs place begin some inside far =
      let e : place ≡ suc (place - 1) = omega (arith, some) in
      place-fits fs (place - 1) begin (omega (arith, some, inside)) (subst (λ x. begin + arms_steps D (drop x fs) ≡ arms_steps D fs) e far)

  pub entries-more : (es : List ℕ) (h : ℕ) (hs : List ℕ) (begin next : ℕ) → h < length es → next ≡ begin + suc (size_in D h)
      → ((f : ℕ) → IsIn f hs → table_of es f ≡ entry_at D hs next f)
      → (f : ℕ) → IsIn f (h ∷ hs) → table_of (set es h begin) f ≡ entry_at D (h ∷ hs) begin f
  entries-more es h hs begin next lt e right f in_f = go (eqb h f) (eqb-sound h f) (λ e. eq-eqb h f e) in_f
    where
      go : (c : Bool) → (c ≡ true → h ≡ f) → (h ≡ f → c ≡ true) → IsIn f (h ∷ hs) → table_of (set es h begin) f ≡ (if c then begin else entry_at D hs (begin + suc (size_in D h)) f)
      go true sound total there = subst (λ x. table_of (set es h begin) x ≡ begin) (sound refl) (get_or-set_same es h begin 0 lt)
      go false sound total (inl e) = absurd (let x : false ≡ true = total (sym e) in cc)
      go false sound total (inr there) =
          get_or-set_other es h f begin 0 (λ e. absurd (let x : false ≡ true = total (sym e) in cc)) ∙ (right f there ∙ ap (λ x. entry_at D hs x f) e)

pub in-all : (fs : List ℕ) (i : ℕ) → i < length fs → IsIn (get_or fs i 0) fs
in-all [] i lt = absurd (omega (arith, lt))
in-all (f ∷ fs) zero lt = inl refl
in-all (f ∷ fs) (suc i) lt = inr (in-all fs i (omega (arith, lt)))
