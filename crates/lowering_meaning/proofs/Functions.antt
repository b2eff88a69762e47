-- Each function: its graph has a cost exactly where the source gives values, then it gives these, and the cost is at most eight times
-- the steps.
use Rattle.std.proofs.Common.{◌≡◌, ℕ, zero, suc, ◌+◌, ◌*◌, List, [], ◌∷◌, ◌++◌, map, length, slice_get, get_or, Option, Some, None, inl, inr, refl, sym, ap, ◌∙◌, subst, arith}
use Rattle.std.proofs.lemmas.List.{length-map}
use Rattle.flow_value.specs.declared.value.Val.{Val}
use Rattle.flow_value.specs.declared.value.Val.TheVariants as val
use Rattle.flow_value.specs.declared.cause.Cause.TheVariants as cause
use Rattle.flow_value.specs.declared.ty.Ty.{Ty}
use Rattle.if1_graph.specs.declared.op.Simple.TheVariants as simple
use Rattle.type_table.specs.declared.form.Form.{Form}
use Rattle.typed_tree.specs.declared.expr.TypedExpr.{TypedExpr}
use Rattle.typed_tree.specs.declared.program.Function.{Function}
use Rattle.typed_tree.specs.Types.{AreNumbers}
use Rattle.typed_values.specs.Fitting.{Header, FunctionFits, FunctionsFit, BodyFits}
use Rattle.typed_rows.specs.Rows.{AreOf}
use Rattle.meaning.specs.Timed.{given, plus, andthen}
use Rattle.meaning.specs.Words.{failed}
use Rattle.meaning.specs.Meaning.{Gives as Means, all_of, results_of, function_gives, calls, meaning}
use Rattle.graph_meaning.specs.Carried.{Value, Unfilled}
use Rattle.lowering_meaning.proofs.Told.{Telling, AreInner}
use Rattle.graph_meaning.specs.Demand.{Network}
use Rattle.graph_meaning.specs.Plain.{NodesFire}
use Rattle.lowering.specs.declared.feed.Feed.{Feed}
use Rattle.lowering.specs.declared.feed.Feed.TheVariants.{Literal, Named, Absent, Port}
use Rattle.lowering.specs.declared.feed.Carried as wired
use Rattle.lowering.specs.declared.feed.Carried.TheVariants.{One}
use Rattle.lowering.specs.declared.feed.Wire.{Wire}
use Rattle.lowering.specs.Feeds.{wire}
use Rattle.lowering.specs.declared.graph.Action.TheVariants.{Row}
use Rattle.lowering.specs.declared.graph.Lowered.{Lowered}
use Rattle.lowering.specs.Graphs.{ports, closed, used, uses}
use Rattle.lowering.specs.Operations.{Lowers, all_lowered}
use Rattle.lowering.specs.Loops.{own_inputs}
use Rattle.lowering.specs.Phrases.{each, phrase, lowers}
use Rattle.lowering.specs.Programs.{stub, bodies, function_lowered}
use Rattle.lowering_meaning.specs.Coverage.{Coverage, AreCovered}
use Rattle.lowering_meaning.proofs.Timed.{Yield, yield-given, yield-plus, yield-deeper}
use Rattle.lowering_meaning.proofs.Wires.{AllWires, left-wires, right-wires, weaker-wires, In, IsThere, FromNames, MadeFrom}
use Rattle.lowering_meaning.proofs.Sites.{Site, SeenIn, AllCarry, IsAt, AreAt, Done, as-values, done-made, done-more}
use Rattle.lowering_meaning.proofs.Inside.{inner, nodes-are, placed-inside, Gives, graph-gives, own-carry, seen-inside}
use Rattle.lowering_meaning.proofs.Forms.{ports-wired, Typed, of-length, Drawn, step-drawn, nil-drawn, cons-drawn}
use Rattle.lowering_meaning.proofs.Ifs.{node-from}
use Rattle.lowering_meaning.proofs.Nodes.{row-done}
use Rattle.lowering_meaning.proofs.Timed.{given-is}
use Rattle.lowering_meaning.proofs.ReadForms.{Reads}
use Rattle.lowering_meaning.proofs.Trees as trees
use Rattle.lowering_meaning.proofs.Trees.{numbers-length, FitsTo, CallsDrawn, FormsDrawn}
use Rattle.lowering_meaning.proofs.TreeReads as reading
use Rattle.lowering_meaning.proofs.TreeReads.{FormsRead, CallRead, CallsRead}

-- ---- functions by their places

pub record FittingFunction (forms : List Form) (spellings : List (List ℕ)) (hs : List Header) (p : List Function) (f : ℕ) (h : Header) : Type 0 where
  pub function : Function
  pub there : slice_get p f ≡ Some function
  pub fits : FunctionFits (AreNumbers forms spellings) hs h function

pub fitting-function : (forms : List Form) (spellings : List (List ℕ)) (hs ks : List Header) (p : List Function) → FunctionsFit (AreNumbers forms spellings) hs ks p → (f : ℕ) (h : Header) → slice_get ks f ≡ Some h
    → FittingFunction forms spellings hs p f h
fitting-function forms spellings hs [] p fit f h e = absurd cc
fitting-function forms spellings hs (k ∷ ks) [] fit f h e = absurd fit
fitting-function forms spellings hs (k ∷ ks) (d ∷ ds) fit zero h e = record { function = d; there = refl; fits = subst (λ k. FunctionFits (AreNumbers forms spellings) hs k d) (same e) fit.0 }
  where
    same : Some k ≡ Some h → k ≡ h
    same e = cc
fitting-function forms spellings hs (k ∷ ks) (d ∷ ds) fit (suc f) h e =
    let r = fitting-function forms spellings hs ks ds fit.1 f h e in
    record { function = r.function; there = r.there; fits = r.fits }

-- ---- what a function uses

-- own inputs are no ports of a graph around
none-around : (j : ℕ) (ts : List wired.Carried) (up n p : ℕ) (t : wired.Carried) → In (wire (Port (suc up) n p) t) (ports 0 j ts) → ⊥
none-around j [] up n p t a = a
none-around j (c ∷ ts) up n p t (inl e) = own (ap (λ (w : Wire). w.feed) e)
  where
    own : Port 0 0 j ≡ Port (suc up) n p → ⊥
    own e = cc
none-around j (c ∷ ts) up n p t (inr a) = none-around (suc j) ts up n p t a

all-there : (j : ℕ) (ts : List wired.Carried) (w : Wire) → FromNames (ports 0 j ts) w → IsThere [] w
all-there j ts w h = go w.feed w.ty h
  where
    go : (f : Feed) (t : wired.Carried) → FromNames (ports 0 j ts) (wire f t) → IsThere [] (wire f t)
    go (Port (suc up) n p) t h = absurd (none-around j ts up n p t h)
    go (Port zero n p) t h = tt
    go (Literal c) t h = tt
    go (Named x) t h = tt
    go Absent t h = tt

bodies-are : (forms : List Form) (es : List TypedExpr) → map (lowers forms) es ≡ each (map (phrase forms) es)
bodies-are forms [] = refl
bodies-are forms (e ∷ es) = ap (λ gs. lowers forms e ∷ gs) (bodies-are forms es)

-- ---- a function of another text

abbrev stub_means : Means
stub_means names = plus 1 (given (val.Err cause.Explicit ∷ []))

stubs-mean : (ns : List ℕ) (names : List Val) → all_of (map (λ n. stub_means) ns) names ≡ plus (length ns) (given (failed (length ns) cause.Explicit))
stubs-mean [] names = refl
stubs-mean (n ∷ ns) names =
    ap (λ r. andthen (stub_means names) (λ vs. andthen r (λ ws. given (vs ++ ws)))) (stubs-mean ns names)
    ∙ ap (λ i. Some (failed (suc (length ns)) cause.Explicit, i)) (counted (length ns))
  where
    counted : (k : ℕ) → 1 + 0 + (k + 0 + 0) ≡ suc k + 0
    counted k = omega arith

module _ (u : Network) (number : ℕ → ℕ) (shape : Telling) (forms : List Form) (spellings : List (List ℕ)) where
  stub-drawn : (γ : List Ty) (t : ℕ) → Drawn u number shape forms spellings γ 1 0 (stub t) stub_means
  stub-drawn γ t =
      step-drawn u number shape forms spellings γ (stub t) (λ names. given (val.Err cause.Explicit ∷ []))
      (record {
        free = λ env k q. node-from env (Row simple.Error) [] 1 (One t ∷ []) k q tt;
        runs = λ names vs i o e. record {
          limit = 1;
          bound = omega arith;
          draws = λ s k q env w a pl. subst (λ ws. Done u number shape s k (stub t env k q) ws 1) (given-is (val.Err cause.Explicit ∷ []) vs i e).0 (row-done u number shape s k q simple.Error [] t [] (val.Err cause.Explicit) refl pl tt);
        };
      })

  stubs-drawn : (γ : List Ty) (ns : List ℕ) → Drawn u number shape forms spellings γ (length ns) 0 (all_lowered (map stub ns)) (all_of (map (λ n. stub_means) ns))
  stubs-drawn γ [] = nil-drawn u number shape forms spellings γ
  stubs-drawn γ (n ∷ ns) = cons-drawn u number shape forms spellings γ (length ns) (stub n) (map stub ns) stub_means (map (λ n. stub_means) ns) (stub-drawn γ n) (stubs-drawn γ ns)

module _ (u : Network) (number : ℕ → ℕ) (shape : Telling) (forms : List Form) (spellings : List (List ℕ)) (hs : List Header) (p : List Function) (cover : Coverage) where
  abbrev pub made : ℕ → Function → Lowered
  made f d = function_lowered forms d 0 (suc (number f))

  -- where the graph of a function stands
  pub record FunctionAt (f : ℕ) (d : Function) : Type 0 where
    pub net : IsAt u number shape (number f) (closed [] 0 0 (made f d))
    pub graphs : AreAt u number shape (suc (number f)) (made f d).graphs

  module _ (fit : FunctionsFit (AreNumbers forms spellings) hs hs p) (covers : AreCovered cover p)
      (sound : (n : ℕ) (γ : List Ty) (e : TypedExpr) (tys : List Ty) → FitsTo u number shape forms spellings hs p cover γ e tys → Typed γ (meaning n p e) tys)
      (sound-calls : (n f : ℕ) (h : Header) → slice_get hs f ≡ Some h → Typed h.params (calls n p f) h.results)
      (laws : FormsDrawn u number shape forms spellings hs p cover)
      (stand : (f : ℕ) (d : Function) → slice_get p f ≡ Some d → FunctionAt f d) where
    abbrev at_function : ℕ → List Val → Site
    at_function f vs = inner (number f) [] 0 0 (map Value vs)

    abbrev env_of : Function → List Wire
    env_of d = own_inputs 1 (map One d.params)

    params-carry : (f : ℕ) (h : Header) (d : Function) (vs : List Val) → AreNumbers forms spellings d.params h.params → AreOf h.params vs → AllCarry u number shape (at_function f vs) (env_of d) vs
    params-carry f h d vs n o =
        as-values u number shape (at_function f vs) (env_of d) vs
        (own-carry u number shape (at_function f vs) 0 (map One d.params) (map Value vs) (length-map d.params One ∙ numbers-length forms spellings d.params h.params n ∙ of-length h.params vs o ∙ sym (length-map vs Value))
        (λ i k. let y : 0 + 0 + i ≡ i = omega arith in ap (λ k. get_or (map Value vs) k Unfilled) y))

    nothing-inside : (q : ℕ) → AreInner shape 0 (q ∷ []) []
    nothing-inside q i r j y x g n f e = absurd cc

    there-in : (f : ℕ) (d : Function) → slice_get p f ≡ Some d → MadeFrom (env_of d) (made f d) → AllWires (SeenIn shape (number f) []) (uses (made f d))
    there-in f d at h =
        seen-inside u number shape (number f ∷ []) 0 (number f) [] 0 0 (made f d) (nothing-inside (number f)) refl (stand f d at).net
        (weaker-wires (FromNames (env_of d)) (IsThere []) (all-there 1 (map One d.params)) (uses (made f d)) h)

    -- what the results of a function give on its arguments, its graph gives
    graph-drawn : (f : ℕ) (h : Header) (d : Function) (γ : List Ty) (slack : ℕ) (k : Means) (vs rs : List Val) (j : ℕ) → slice_get p f ≡ Some d → AreNumbers forms spellings d.params h.params → AreOf h.params vs
        → Drawn u number shape forms spellings h.params slack 0 (all_lowered (bodies forms d.body d.results)) k → k vs ≡ Some (rs, j) → Gives u number shape (number f) (map Value vs) (map Value rs) (8 * j)
    graph-drawn f h d γ slack k vs rs j there n o dr e =
        let s = at_function f vs in
        let m = made f d in
        let r = dr.runs vs rs j o e in
        let w = there-in f d there (dr.free (env_of d) 0 (suc (number f))) in
        let at = stand f d there in
        let done = r.draws s 0 (suc (number f)) (env_of d) (ports-wired forms spellings 0 1 d.params h.params n) (params-carry f h d vs n o) (placed-inside u number shape s m at.net at.graphs (left-wires (SeenIn shape (number f) []) (used m.nodes) m.values w)) in
        graph-gives u number shape s m (map Value rs) (8 * j) at.net (right-wires (SeenIn shape (number f) []) (used m.nodes) m.values w) (done-made u number shape s 0 m rs (8 * j) (done-more u number shape s 0 m rs r.limit (8 * j) done (omega (arith, r.bound))))

    pub calls-drawn : (n : ℕ) → CallsDrawn u number shape forms spellings hs p cover n
    calls-drawn zero f h there vs rs j o e = absurd cc
    calls-drawn (suc n) f h there vs rs j o e =
        let x = fitting-function forms spellings hs hs p fit f h there in
        by (calls-drawn n) x.function x.there x.fits x.function.body refl
      where
        by : CallsDrawn u number shape forms spellings hs p cover n → (d : Function) → slice_get p f ≡ Some d → FunctionFits (AreNumbers forms spellings) hs h d → (b : Option (List TypedExpr)) → d.body ≡ b → Gives u number shape (number f) (map Value vs) (map Value rs) (8 * j)
        by c d at fits None eb =
            let given : all_of (map (λ n. stub_means) d.results) vs ≡ Some (rs, j) =
            stubs-mean d.results vs ∙ sym (ap (λ x. function_gives x (meaning n p) vs) at ∙ ap (λ b. results_of (length d.results) b (meaning n p) vs) eb) ∙ e in
            graph-drawn f h d h.params (length d.results) (all_of (map (λ n. stub_means) d.results)) vs rs j at fits.params o
            (subst (λ b. Drawn u number shape forms spellings h.params (length d.results) 0 (all_lowered (bodies forms b d.results)) (all_of (map (λ n. stub_means) d.results))) (sym eb) (stubs-drawn u number shape forms spellings h.params d.results)) given
        by c d at fits (Some es) eb =
            let given : all_of (map (meaning n p) es) vs ≡ Some (rs, j) =
            sym (ap (λ x. function_gives x (meaning n p) vs) at ∙ ap (λ b. results_of (length d.results) b (meaning n p) vs) eb) ∙ e in
            let body = subst (λ b. BodyFits (AreNumbers forms spellings) hs h b) eb fits.body in
            let dr = trees.all-drawn u number shape forms spellings hs p cover sound sound-calls laws n c h.params es h.results body (covers f d es at eb) in
            graph-drawn f h d h.params (length (map (phrase forms) es)) (all_of (map (meaning n p) es)) vs rs j at fits.params o
            (subst (λ b. Drawn u number shape forms spellings h.params (length (map (phrase forms) es)) 0 (all_lowered (bodies forms b d.results)) (all_of (map (meaning n p) es))) (sym eb)
            (subst (λ gs. Drawn u number shape forms spellings h.params (length (map (phrase forms) es)) 0 (all_lowered gs) (all_of (map (meaning n p) es))) (sym (bodies-are forms es)) dr)) given

    module _ (reads : FormsRead u number shape forms spellings hs p cover) where
      abbrev Called : ℕ → Type 0
      Called m = CallRead u number shape forms spellings hs p cover m

      read-function : (m : ℕ) → CallsRead u number shape forms spellings hs p cover m → Called m
      read-function m r f h there args c o fire =
          let x = fitting-function forms spellings hs hs p fit f h there in
          by x.function x.there x.fits x.function.body refl
        where
          by : (d : Function) → slice_get p f ≡ Some d → FunctionFits (AreNumbers forms spellings) hs h d → (b : Option (List TypedExpr)) → d.body ≡ b → Yield (λ j. calls j p f args)
          by d at fits None eb =
              yield-deeper (λ j. plus (length d.results) (given (failed (length d.results) cause.Explicit))) _
              (λ j. ap (λ x. function_gives x (meaning j p) args) at ∙ ap (λ b. results_of (length d.results) b (meaning j p) args) eb) (yield-plus (length d.results) _ (yield-given (failed (length d.results) cause.Explicit)))
          by d at fits (Some es) eb =
              let body = subst (λ b. BodyFits (AreNumbers forms spellings) hs h b) eb fits.body in
              let s = at_function f args in
              let m1 = made f d in
              let here = stand f d at in
              let same : (λ (env : List Wire). all_lowered (bodies forms d.body d.results) env) ≡ (λ env. all_lowered (each (map (phrase forms) es)) env) =
              ap (λ b. all_lowered (bodies forms b d.results)) eb ∙ ap (λ gs. all_lowered gs) (bodies-are forms es) in
              let dr = trees.all-drawn u number shape forms spellings hs p cover sound sound-calls laws 0 (calls-drawn 0) h.params es h.results body (covers f d es at eb) in
              let free : MadeFrom (env_of d) m1 = subst (λ (g : Lowers). MadeFrom (env_of d) (g (env_of d) 0 (suc (number f)))) (sym same) (dr.free (env_of d) 0 (suc (number f))) in
              let pl = placed-inside u number shape s m1 here.net here.graphs (left-wires (SeenIn shape (number f) []) (used m1.nodes) m1.values (there-in f d at free)) in
              let fires = subst (λ ns. NodesFire u m (number f) (map Value args) ns c) (nodes-are u number shape s m1 here.net) fire in
              let read = subst (λ (g : Lowers). Reads u number shape forms spellings m h.params g args (λ j. all_of (map (meaning j p) es) args)) (sym same)
              (reading.all-read u number shape forms spellings hs p cover sound sound-calls laws reads calls-drawn h.params es h.results body (covers f d es at eb) m r args o) in
              yield-deeper _ _ (λ j. ap (λ x. function_gives x (meaning j p) args) at ∙ ap (λ b. results_of (length d.results) b (meaning j p) args) eb)
              (read s 0 (suc (number f)) (env_of d) c (ports-wired forms spellings 0 1 d.params h.params fits.params) (params-carry f h d args fits.params o) pl fires)

      below : (m : ℕ) → CallsRead u number shape forms spellings hs p cover m
      below zero l le = absurd (omega (arith, le))
      below (suc m) l le = read-function l (λ k lk. below m k (omega (arith, le, lk)))

      pub calls-read : (m : ℕ) → Called m
      calls-read m = read-function m (below m)
