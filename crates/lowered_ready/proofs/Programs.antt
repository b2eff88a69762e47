-- The lowered graphs of a fitting program obey the rules.
use Rattle.std.proofs.Common.{◌≡◌, ℕ, zero, suc, inl, inr, ◌+◌, List, [], ◌∷◌, ◌++◌, map, slice_get, get_or, Option, Some, None, refl, sym, ap, subst, ◌∙◌, arith}
use Rattle.std.specs.Prelude.{All}
use Rattle.std.proofs.lemmas.List.{length-map, append-nil}
use Rattle.std.proofs.lemmas.List.Elements.{All-nil, All-cons}
use Rattle.std.proofs.lemmas.Option.{same_Some}
use Rattle.flow_value.specs.declared.ty.Ty.{Ty}
use Rattle.if1_graph.specs.Tables.{◌>>=◌, at_port}
use Rattle.if1_graph.specs.Types.{Sort, Plain, Function}
use Rattle.if1_graph.specs.Ports.{arguments_of, results_of}
use Rattle.if1_graph.specs.Typing.{IsListed}
use Rattle.type_table.specs.declared.form.Form.{Form}
use Rattle.type_table.specs.declared.form.Form.TheVariants as form
use Rattle.typed_tree.specs.declared.expr.TypedExpr.{TypedExpr}
use Rattle.typed_tree.specs.declared.program.Function.{Function as TypedFunction}
use Rattle.typed_tree.specs.Types.{AreNumbers}
use Rattle.typed_tree.specs.Types as number
use Rattle.lowering_meaning.specs.FittingTreesFitting.{Header, BodyFits, FunctionsFit}
use Rattle.lowering.specs.declared.feed.Feed.{Feed}
use Rattle.lowering.specs.declared.feed.Feed.TheVariants.{Literal, Named, Absent, Port}
use Rattle.lowering.specs.declared.feed.Carried.{Carried}
use Rattle.lowering.specs.declared.feed.Carried.TheVariants.{One, Callee}
use Rattle.lowering.specs.declared.feed.Wire.{Wire}
use Rattle.lowering.specs.Feeds.{outside, outsides}
use Rattle.lowering.specs.declared.graph.LoweredNode.{LoweredNode}
use Rattle.lowering.specs.declared.graph.LoweredGraph.{LoweredGraph}
use Rattle.lowering.specs.declared.graph.Lowered.{Lowered}
use Rattle.lowering.specs.Graphs.{closed, closed_graphs, numbers, size, uses, new_graph, new_graphs}
use Rattle.lowering.specs.Loops.{own_inputs}
use Rattle.lowering.specs.Phrases.{phrase, lowers}
use Rattle.lowering.specs.Programs.{bodies, function_lowered, functions_lowered, graphs, graph_at}
use Rattle.lowering_meaning.specs.Fitting.{HaveMembers}
use Rattle.lowering_meaning.proofs.Programs.{has-basics}
use Rattle.lowering_meaning.proofs.Wired.{typed-ports}
use Rattle.lowered_ready.specs.Rules.{HasPartsRight, AreListed, IsFunctionGraph}
use Rattle.lowered_ready.specs.RuleLaws.{ObeyRules}
use Rattle.lowered_ready.proofs.Scopes.{AreIn, own-in}
use Rattle.lowered_ready.proofs.Made.{HaveParts, AllHaveParts}
use Rattle.lowered_ready.proofs.Closing.{IsCovered, AreCovered, Closes, closed_list}
use Rattle.lowered_ready.proofs.Closing as closing
use Rattle.lowered_ready.proofs.RuleSorting.{AreSorted, plain, sorted-length}
use Rattle.lowered_ready.proofs.World.{World, Of, AllTo}
use Rattle.lowered_ready.proofs.Wholes.{Outer, Made, Sit, AllInner, sorts_of, inner-of, inner-graphs}
use Rattle.lowered_ready.proofs.RuleForms as forms_are
use Rattle.lowered_ready.proofs.RuleTrees.{AreRuled, all-to, stubs-to}

no_port : {A : Type 0} {c : A} → None ≡ Some c → ⊥
no_port e = cc

module _ (x : World) where
  -- ---- functions

  -- nothing is around a function
  none-around : (ws : List Wire) → Outer x [] (outsides ws) → AreCovered [] ws
  none-around [] a = tt
  none-around (w ∷ ws) a = by w.feed w.ty a (λ h. none-around ws h)
    where
      by : (f : Feed) (t : Carried) → Outer x [] (outside t f ++ outsides ws) → (Outer x [] (outsides ws) → AreCovered [] ws) → IsCovered [] f × AreCovered [] ws
      by (Literal c) t a r = (tt, r a)
      by (Named s) t a r = (tt, r a)
      by Absent t a r = (tt, r a)
      by (Port zero n p) t a r = (tt, r a)
      by (Port (suc zero) n p) t a r = absurd (no_port a.0.0)
      by (Port (suc (suc up)) n p) t a r = absurd (no_port a.0.0.0)

  several-are : (es : List TypedExpr) → map (λ p. p.lowers) (map (phrase x.forms) es) ≡ map (lowers x.forms) es
  several-are [] = refl
  several-are (e ∷ es) = ap (λ l. lowers x.forms e ∷ l) (several-are es)

  body-to : (h : Header) (b : Option (List TypedExpr)) (ns : List ℕ) → BodyFits (AreNumbers x.forms x.names) x.hs h b → AreNumbers x.forms x.names ns h.results → ((es : List TypedExpr) → b ≡ Some es → AreRuled x es) → AllTo x h.params (bodies x.forms b ns) h.results
  body-to h None ns f num v = stubs-to x h.params ns h.results num
  body-to h (Some es) ns f num v = subst (λ gs. AllTo x h.params gs h.results) (several-are es) (all-to x h.params es h.results f (v es refl))

  abbrev own_of : TypedFunction → List Carried
  own_of f = map One f.params

  -- functions, each with the graph that it becomes
  pub data FunctionsMade : List Header → List TypedFunction → List Lowered → Type 0 where
    none_made : FunctionsMade [] [] []
    one_made : (h : Header) (hs : List Header) (f : TypedFunction) (fs : List TypedFunction) (m : Lowered) (ms : List Lowered) → Made x None (own_of f) [] (Of x h.results) m → AreNumbers x.forms x.names f.params h.params
        → FunctionsMade hs fs ms → FunctionsMade (h ∷ hs) (f ∷ fs) (m ∷ ms)

  functions-made : (q : ℕ) (gs : List Header) (fs : List TypedFunction) → FunctionsFit (AreNumbers x.forms x.names) x.hs gs fs → ((k : ℕ) (f : TypedFunction) (es : List TypedExpr) → slice_get fs k ≡ Some f → f.body ≡ Some es → AreRuled x es)
      → Sit x q (closed_graphs [] 0 0 (new_graphs q (map (function_lowered x.forms) fs))) → FunctionsMade gs fs (new_graphs q (map (function_lowered x.forms) fs))
  functions-made q [] [] h v s = none_made
  functions-made q [] (f ∷ fs) h v s = absurd h
  functions-made q (g ∷ gs) [] h v s = absurd h
  functions-made q (g ∷ gs) (f ∷ fs) h v s =
      let m = new_graph (function_lowered x.forms f) q in
      let rest = new_graphs (q + size m) (map (function_lowered x.forms) fs) in
      let seen = subst (λ l. AreIn x.forms x.names (record { own = l; outs = [] } ∷ []) (own_inputs 1 (own_of f))) (append-nil (own_of f)) (own-in x.forms x.names [] (own_of f) [] [] []) in
      one_made g gs f fs m rest
      (forms_are.all-does x g.params (bodies x.forms f.body f.results) g.results (body-to g f.body f.results h.0.body h.0.results (λ es e. v 0 f es refl e)) None (own_of f) [] [] (own_inputs 1 (own_of f))
      (typed-ports x.forms x.names f.params g.params h.0.params 0 1) seen (suc q) (closing.sits-inside x.forms x.names x.sort x.at q [] 0 0 m rest s)) h.0.params
      (functions-made (q + size m) gs fs h.1 (λ k d es e b. v (suc k) d es e b) (closing.others x.forms x.names x.sort x.at q [] 0 0 m rest s))

  made-inner : (gs : List Header) (fs : List TypedFunction) (ms : List Lowered) → FunctionsMade gs fs ms → AllInner x [] ms
  made-inner _ _ _ none_made = tt
  made-inner _ _ _ (one_made h hs f fs m ms r n rest) = (inner-of x None (own_of f) [] (Of x h.results) m r, made-inner hs fs ms rest)

  pub record MadeAt (gs : List Header) (f : TypedFunction) (ms : List Lowered) (k : ℕ) : Type 0 where
    pub header : Header
    pub there : slice_get gs k ≡ Some header
    pub lowered : Lowered
    pub graph : slice_get (closed_list [] 0 0 ms) k ≡ Some (closed [] 0 0 lowered)
    pub right : Made x None (own_of f) [] (Of x header.results) lowered
    pub params : AreNumbers x.forms x.names f.params header.params

  made-at : (gs : List Header) (fs : List TypedFunction) (ms : List Lowered) → FunctionsMade gs fs ms → (k : ℕ) (f : TypedFunction) → slice_get fs k ≡ Some f → MadeAt gs f ms k
  made-at _ _ _ none_made k f e = absurd cc
  made-at _ _ _ (one_made h hs g fs m ms r n rest) zero f e =
      subst (λ f. MadeAt (h ∷ hs) f (m ∷ ms) 0) (same_Some g f e) (record { header = h; there = refl; lowered = m; graph = refl; right = r; params = n })
  made-at _ _ _ (one_made h hs g fs m ms r n rest) (suc k) f e =
      let a = made-at hs fs ms rest k f e in
      record { header = a.header; there = a.there; lowered = a.lowered; graph = a.graph; right = a.right; params = a.params }

  -- the graph of the number of a place
  number-at : (ns : List ℕ) (ds : List LoweredGraph) → map x.at ns ≡ map Some ds → (k : ℕ) (d : LoweredGraph) → slice_get ds k ≡ Some d → x.at (get_or ns k 0) ≡ Some d
  number-at [] [] e k d f = absurd cc
  number-at [] (y ∷ ds) e k d f = absurd cc
  number-at (n ∷ ns) [] e k d f = absurd cc
  number-at (n ∷ ns) (y ∷ ds) e zero d f = heads e ∙ f
    where
      heads : x.at n ∷ map x.at ns ≡ Some y ∷ map Some ds → x.at n ≡ Some y
      heads e = cc
  number-at (n ∷ ns) (y ∷ ds) e (suc k) d f = number-at ns ds (tails e) k d f
    where
      tails : x.at n ∷ map x.at ns ≡ Some y ∷ map Some ds → map x.at ns ≡ map Some ds
      tails e = cc

  -- an own input of a function is one of its arguments
  argument : (ns : List ℕ) (tys : List Ty) → AreNumbers x.forms x.names ns tys → (i : ℕ) (c : Carried) → slice_get (map One ns) i ≡ Some c → (t : Ty) × (slice_get (map x.bare tys) i ≡ Some t) × (x.sort c ≡ Plain t)
  argument [] tys h i c e = absurd cc
  argument (n ∷ ns) [] h i c e = absurd h
  argument (n ∷ ns) (t ∷ tys) h zero c e = (x.bare t, refl, ap x.sort (sym (same_Some (One n) c e)) ∙ x.sorting.values n t h.0)
  argument (n ∷ ns) (t ∷ tys) h (suc i) c e = argument ns tys h.1 i c e

  listed : (o : Option Sort) (all : List Ty) → results_of o ≡ Some (map x.bare all) → (i : ℕ) (ws : List Wire) (tys : List Ty) → AreSorted x.sort ws (sorts_of x tys) → ((j : ℕ) → slice_get (map x.bare tys) j ≡ slice_get (map x.bare all) (i + j)) → AreListed x.sort x.at o (suc i) ws
  listed o all e i [] tys h f = tt
  listed o all e i (w ∷ ws) [] h f = absurd h
  listed o all e i (w ∷ ws) (t ∷ tys) h f =
      let z : i + 0 ≡ i = omega arith in (
        (h.0.0, (x.bare t, ap (λ o. o >>= at_port (suc i)) e ∙ ap (slice_get (map x.bare all)) (sym z) ∙ sym (f 0), h.0.1)),
        listed o all e (suc i) ws tys h.1 (λ j. let y : i + suc j ≡ suc i + j = omega arith in f (suc j) ∙ ap (slice_get (map x.bare all)) y),
      )

  function-right : (f : TypedFunction) (ms : List Lowered) (k : ℕ) → MadeAt x.hs f ms k → (d : LoweredGraph) → slice_get (closed_list [] 0 0 ms) k ≡ Some d → IsFunctionGraph x.sort x.at k d
  function-right f ms k a d e =
      let m = a.lowered in
      let fun = x.sorting.callees k a.header a.there in
      let results = forms_are.results-sorted x [] 0 0 m.values a.header.results a.right.values in
      let many = sorted-length x.sort (closed [] 0 0 m).results (sorts_of x a.header.results) results ∙ length-map a.header.results (plain x.forms x.names x.hs x.bare x.sort x.sorting) in
      subst (IsFunctionGraph x.sort x.at k) (same_Some (closed [] 0 0 m) d (sym a.graph ∙ e)) (record {
        graph = closing.closed-graph x.forms x.names x.sort x.at None (own_of f) [] (Of x a.header.results) m [] 0 0 (IsListed (arguments_of (Some (x.sort (Callee k))))) a.right
            (none-around (uses m) (closing.right-outer x.forms x.names x.sort x.at None (own_of f) [] (Of x a.header.results) m a.right)) tt (closes fun);
        results = listed (Some (x.sort (Callee k))) a.header.results (ap (λ s. results_of (Some s)) fun) 0 (closed [] 0 0 m).results a.header.results results (λ j. let z : j ≡ 0 + j = omega arith in ap (slice_get (map x.bare a.header.results)) z);
        arguments = map x.bare a.header.params;
        given = map x.bare a.header.results;
        header = fun;
        count = many ∙ sym (length-map a.header.results x.bare);
      })
    where
      closes : x.sort (Callee k) ≡ Function (map x.bare a.header.params) (map x.bare a.header.results) → Closes x.forms x.names x.sort x.at (own_of f) [] 0 0 (IsListed (arguments_of (Some (x.sort (Callee k)))))
      closes fun = record { owns = λ q c e. let z : q ≡ 0 + q = omega arith in subst (λ n. IsListed (arguments_of (Some (x.sort (Callee k)))) n (x.sort c)) z (owned q c e); around = λ i w e. absurd cc }
        where
          owned : (q : ℕ) (c : Carried) → at_port q (own_of f) ≡ Some c → IsListed (arguments_of (Some (x.sort (Callee k)))) q (x.sort c)
          owned zero c e = absurd cc
          owned (suc i) c e =
              let r = argument f.params a.header.params a.params i c e in
              subst (λ o. IsListed o (suc i) (x.sort c)) (sym (ap (λ s. arguments_of (Some s)) fun)) (r.0, r.1, r.2)

-- ---- programs

parts-at : (sort : Carried → Sort) (at : ℕ → Option LoweredGraph) (forms : List Form) (names : List (List ℕ)) (ds : List LoweredGraph) → AllHaveParts forms names sort at ds → (i : ℕ) (d : LoweredGraph) → slice_get ds i ≡ Some d → All (HasPartsRight sort at) d.nodes
parts-at sort at forms names [] h i d e = absurd cc
parts-at sort at forms names (y ∷ ds) h zero d e = subst (λ (d : LoweredGraph). All (HasPartsRight sort at) d.nodes) (same_Some y d e) (all y.nodes h.0)
  where
    all : (vs : List LoweredNode) → HaveParts forms names sort at vs → All (HasPartsRight sort at) vs
    all [] h = All-nil (HasPartsRight sort at)
    all (v ∷ vs) h = All-cons (HasPartsRight sort at) v vs h.0 (all vs h.1)
parts-at sort at forms names (y ∷ ds) h (suc i) d e = parts-at sort at forms names ds h.1 i d e

pub obey-rules : ObeyRules
obey-rules p fit covered bare sort sorting =
    let basics = has-basics p.types fit.types in
    let x : World = record {
      forms = p.types;
      names = p.names;
      hs = fit.headers;
      bare = bare;
      sort = sort;
      at = graph_at p;
      sorting = sorting;
      members = filled;
      booleans = number.boolean basics.booleans;
      characters = number.character basics.characters;
      integers = number.integer basics.integers;
    } in
    let ms = functions_lowered p in
    let sits : Sit x 1 (closed_graphs [] 0 0 ms) = λ i d e. let z : suc i ≡ 1 + i = omega arith in subst (λ n. graph_at p n ≡ Some d) z e in
    let made = functions-made x 1 fit.headers p.functions fit.tree.fits (λ k f es e b. covered k f es e b) sits in
    let numbered = closing.sits-at p.types p.names sort (graph_at p) 1 [] 0 0 ms sits in
    let all = inner-graphs x [] [] 0 0 ms (made-inner x fit.headers p.functions ms made) in
    record {
      functions = λ place f d e g.
          let a = made-at x fit.headers p.functions ms made place f e in
          function-right x f ms place a d (a.graph ∙ sym (number-at x (numbers 1 ms) (closed_list [] 0 0 ms) numbered place (closed [] 0 0 a.lowered) a.graph) ∙ g);
      parts = λ q d e. at-number q d e all;
    }
  where
    filled : HaveMembers p.types
    filled t ms (inl e) = fit.types.well.members t (form.Record ms) e
    filled t ms (inr e) = fit.types.well.members t (form.Union ms) e

    at-number : (q : ℕ) (d : LoweredGraph) → graph_at p q ≡ Some d → AllHaveParts p.types p.names sort (graph_at p) (graphs p) → All (HasPartsRight sort (graph_at p)) d.nodes
    at-number zero d e h = absurd cc
    at-number (suc q) d e h = parts-at sort (graph_at p) p.types p.names (graphs p) h q d e
