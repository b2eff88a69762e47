-- What a form meets, by its parts.
use Rattle.std.proofs.Common.{◌≡◌, ℕ, ◌-◌, List, [], ◌∷◌, ◌++◌, map, drop, length, refl, sym, ap, ◌∙◌}
use Rattle.type_table.specs.declared.form.Form.{Form}
use Rattle.typed_tree.specs.declared.expr.TypedExpr.{TypedExpr}
use Rattle.typed_tree.specs.declared.expr.TypedKind.{TypedKind}
use Rattle.typed_tree.specs.declared.expr.Case.{Case}
use Rattle.typed_tree.specs.declared.expr.Product.{Product}
use Rattle.typed_tree.specs.declared.expr.Turns.{Turns}
use Rattle.typed_tree.specs.declared.expr.TypedKind.TheVariants as typed
use Rattle.typed_tree.specs.declared.expr.TypedKind.TheViews.{roll-TypedKind}
use Rattle.typed_tree.specs.declared.expr.TypedKind.TheOpen.{TypedKind-F}
use Rattle.typed_tree.specs.declared.expr.TypedKind.TheFolds.{map-TypedKind, fold-roll-TypedKind}
use lib.ListN.{length-drop}
use Rattle.lowering.specs.Operations.{integer}
use Rattle.lowering.specs.Loops.{many, loop_name, unless_places}
use Rattle.lowering.specs.declared.feed.Carried.{Carried}
use Rattle.lowering.specs.declared.feed.Carried.TheVariants.{One}
use Rattle.line_types.specs.Traces.{case_traced, product_traced, initial_traced, returns_traced, Wired, carried_at, collected, renew, each, Trace, Kind, Phrase, andthen, a_node, ones, graph_lines, phrase, phrase_kind, kind_traced, expr_traced}
use Rattle.line_labels.specs.Needs.{put, added}
use Rattle.line_walk.specs.Met.{kind_met, exprs_met, defs_met, selector_met, extras_met, test_met}
use Rattle.line_walk.proofs.Added.{added_both}
use Rattle.line_walk.proofs.Lists.{defs-whole, drop-front}

append-nil : (xs : List Carried) → xs ++ [] ≡ xs
append-nil [] = refl
append-nil (x ∷ xs) = ap (λ l. x ∷ l) (append-nil xs)

-- one graph after another
pub graphs-added : (ks : List Carried) (a : Trace) (more : List Trace) → added (added ks (graph_lines (a ∷ []))) (graph_lines more) ≡ added ks (graph_lines (a ∷ more))
graphs-added ks a more =
    sym (added_both ks (graph_lines (a ∷ [])) (graph_lines more)) ∙ ap (λ l. added ks (l ++ graph_lines more)) (append-nil (a.lines ++ a.values))

-- the lines of a graph, and then its results
pub graph_added : (ks : List Carried) (a : Trace) → added (added ks a.lines) a.values ≡ added ks (graph_lines (a ∷ []))
graph_added ks a = sym (added_both ks a.lines a.values) ∙ sym (ap (added ks) (append-nil (a.lines ++ a.values)))

-- a part with definitions, one after another
pub part-added : (ks ds : List Carried) (b : Trace) → added (added (added ks ds) b.lines) b.values ≡ added ks (graph_lines (record { lines = ds ++ b.lines; values = b.values } ∷ []))
part-added ks ds b =
    ap (λ l. added l b.values) (sym (added_both ks ds b.lines)) ∙ graph_added ks (record { lines = ds ++ b.lines; values = b.values })

-- what is collected besides, and then the loop names with it
pub row_added : (ks loop : List Carried) (e : Trace) → added (added ks e.lines) (loop ++ e.values) ≡ added ks (graph_lines (record { lines = e.lines ++ []; values = loop ++ e.values } ∷ []))
row_added ks loop e =
    ap (λ l. added (added ks l) (loop ++ e.values)) (sym (append-nil e.lines)) ∙ graph_added ks (record { lines = e.lines ++ []; values = loop ++ e.values })

-- a graph whose first lines were met apart
pub front-added : (ks fs : List Carried) (a : Trace) → added (added ks fs) (graph_lines (a ∷ [])) ≡ added ks (graph_lines (record { lines = fs ++ a.lines; values = a.values } ∷ []))
front-added ks fs a = sym (graph_added (added ks fs) a) ∙ part-added ks fs a

-- the parts of a `for initial`
pub initial-added : (ks fs ds : List Carried) (i x b r : Trace)
    → added (added (added (added (added (added ks fs) (graph_lines (i ∷ []))) (graph_lines (x ∷ []))) ds) (graph_lines (b ∷ []))) (graph_lines (r ∷ []))
    ≡ added ks (graph_lines (record { lines = fs ++ i.lines; values = i.values } ∷ x ∷ record { lines = ds ++ b.lines; values = b.values } ∷ r ∷ []))
initial-added ks fs ds i x b r =
    let j : Trace = record { lines = fs ++ i.lines; values = i.values } in
    let m : Trace = record { lines = ds ++ b.lines; values = b.values } in
    let k = added ks (graph_lines (j ∷ [])) in
    ap (λ l. added (added (added (added l (graph_lines (x ∷ []))) ds) (graph_lines (b ∷ []))) (graph_lines (r ∷ []))) (front-added ks fs i)
    ∙ (ap (λ l. added l (graph_lines (r ∷ []))) (front-added (added k (graph_lines (x ∷ []))) ds b)
    ∙ (graphs-added (added k (graph_lines (x ∷ []))) m (r ∷ [])
    ∙ (graphs-added k x (m ∷ r ∷ []) ∙ graphs-added ks j (x ∷ m ∷ r ∷ []))))

-- the arms of a choice, behind its union
pub case-added : (ks us arms : List Carried) (c : Carried) → put (added (added ks us) arms) c ≡ added ks (us ++ (arms ++ c ∷ []))
case-added ks us arms c = sym (added_both ks us (arms ++ c ∷ []) ∙ added_both (added ks us) arms (c ∷ []))

-- the parts of a loop over generators, behind its bounds
pub product-added : (ks us ds : List Carried) (g b r : Trace)
    → added (added (added (added (added (added ks us) (graph_lines (g ∷ []))) ds) b.lines) b.values) (graph_lines (r ∷ []))
    ≡ added ks (us ++ graph_lines (g ∷ record { lines = ds ++ b.lines; values = b.values } ∷ r ∷ []))
product-added ks us ds g b r =
    let k = added ks us in
    let m : Trace = record { lines = ds ++ b.lines; values = b.values } in
    ap (λ l. added l (graph_lines (r ∷ []))) (part-added (added k (graph_lines (g ∷ []))) ds b)
    ∙ (graphs-added (added k (graph_lines (g ∷ []))) m (r ∷ [])
    ∙ (graphs-added k g (m ∷ r ∷ []) ∙ sym (added_both ks us (graph_lines (g ∷ m ∷ r ∷ [])))))

module _ (forms : List Form) where
  is-kind : (x : TypedKind-F TypedKind TypedExpr) (k : TypedKind) (ts : List ℕ) (env : List Carried) → k ≡ roll-TypedKind x
      → kind_met forms k ts env ≡ (kind_traced forms (map-TypedKind TypedKind TypedExpr Kind Phrase (phrase_kind forms) (phrase forms) x)).traces ts env
  is-kind x k ts env e =
      ap (λ y. kind_met forms y ts env) e ∙ ap (λ (y : Kind). y.traces ts env) (fold-roll-TypedKind Kind Phrase (kind_traced forms) expr_traced x)

  pub let-is : (k : TypedKind) (ds : List (List TypedExpr)) (es : List TypedExpr) (ts : List ℕ) (env : List Carried) → k ≡ typed.Let ds es
      → kind_met forms k ts env ≡ andthen (defs_met forms ds env) (exprs_met forms es)
  let-is k ds es ts env e = is-kind (TypedKind-F.Let ds es) k ts env (e ∙ sym (typed.rolls-Let ds es))

  pub if-is : (k : TypedKind) (xs ys zs : List TypedExpr) (ts : List ℕ) (env : List Carried) → k ≡ typed.If xs ys zs
      → kind_met forms k ts env ≡ a_node (graph_lines (selector_met forms xs env ∷ exprs_met forms zs env ∷ exprs_met forms ys env ∷ [])) (ones ts)
  if-is k xs ys zs ts env e = is-kind (TypedKind-F.If xs ys zs) k ts env (e ∙ sym (typed.rolls-If xs ys zs))

  pub case-is : (k : TypedKind) (c : Case) (us : List TypedExpr) (arms : List (List TypedExpr)) (ts : List ℕ) (env : List Carried) → k ≡ typed.Case c us arms
      → kind_met forms k ts env ≡ andthen (exprs_met forms us env) (λ cs. case_traced forms c (map each (map (map (phrase forms)) arms)) ts cs env)
  case-is k c us arms ts env e = is-kind (TypedKind-F.Case c us arms) k ts env (e ∙ sym (typed.rolls-Case c us arms))

  pub product-is : (k : TypedKind) (p : Product) (bs : List TypedExpr) (ds : List (List TypedExpr)) (es : List TypedExpr) (ts : List ℕ) (env : List Carried) → k ≡ typed.Product p bs ds es
      → kind_met forms k ts env ≡ andthen (exprs_met forms bs env) (λ cs. product_traced forms p (map each (map (map (phrase forms)) ds)) (each (map (phrase forms) es)) ts cs env)
  product-is k p bs ds es ts env e = is-kind (TypedKind-F.Product p bs ds es) k ts env (e ∙ sym (typed.rolls-Product p bs ds es))

  pub initial-is : (k : TypedKind) (t : Turns) (fs : List (List TypedExpr)) (xs : List TypedExpr) (ds : List (List TypedExpr)) (es : List TypedExpr) (ts : List ℕ) (env : List Carried) → k ≡ typed.Initial t fs xs ds es
      → kind_met forms k ts env ≡ initial_traced t (map each (map (map (phrase forms)) fs)) (each (map (phrase forms) xs)) (map each (map (map (phrase forms)) ds)) (map (phrase forms) es) ts env
  initial-is k t fs xs ds es ts env e = is-kind (TypedKind-F.Initial t fs xs ds es) k ts env (e ∙ sym (typed.rolls-Initial t fs xs ds es))

  -- the parts of a `for initial`, where these names are in force inside and so many of them are loop names
  abbrev pub parts-of : Turns → List Carried → List Carried → Trace → List TypedExpr → List (List TypedExpr) → List TypedExpr → List ℕ → ℕ → (List Carried → List Carried) → List Carried → List Trace
  parts-of t env names first xs ds es ts m keep w =
      let bs = unless_places t.clauses in
      let loop = loop_name (length env) m in
      let d = defs_met forms ds w in
      let after = renew t.renewed (drop (length w) d.values) names in
      let e = extras_met forms loop bs es w in
      let a = extras_met forms loop bs es (env ++ after) in
      record { lines = first.lines ++ (e.lines ++ []); values = names ++ e.values }
      ∷ test_met forms t.is_until xs w
      ∷ record { lines = d.lines ++ (a.lines ++ []); values = keep after ++ a.values }
      ∷ returns_traced (Wired (One integer)) t.clauses (map (carried_at (map many (names ++ e.values))) (collected loop m bs (map (phrase forms) es))) ts
      ∷ []

  kept-front : (t : Turns) (env names : List Carried) (first : Trace) (xs : List TypedExpr) (ds : List (List TypedExpr)) (es : List TypedExpr) (ts : List ℕ) (m : ℕ) (w : List Carried)
      → graph_lines (parts-of t env names first xs ds es ts m (λ l. l) w) ≡ graph_lines (parts-of t env names first xs ds es ts m (λ l. drop (length env) (env ++ l)) w)
  kept-front t env names first xs ds es ts m w =
      let after = renew t.renewed (drop (length w) (defs_met forms ds w).values) names in
      ap (λ q. graph_lines (parts-of t env names first xs ds es ts m (λ l. q) w)) (sym (drop-front env after))

  pub initial-lines : (k : TypedKind) (t : Turns) (fs : List (List TypedExpr)) (xs : List TypedExpr) (ds : List (List TypedExpr)) (es : List TypedExpr) (ts : List ℕ) (env : List Carried) → k ≡ typed.Initial t fs xs ds es
      → let v = (defs_met forms fs env).values in
      (kind_met forms k ts env).lines ≡ graph_lines (parts-of t env (drop (length env) v) (defs_met forms fs env) xs ds es ts (length v - length env) (λ l. drop (length env) (env ++ l)) v)
  initial-lines k t fs xs ds es ts env e =
      let first = defs_met forms fs env in
      let v = first.values in
      let names = drop (length env) v in
      ap (λ (x : Trace). x.lines) (initial-is k t fs xs ds es ts env e)
      ∙ (ap (λ m. graph_lines (parts-of t env names first xs ds es ts m (λ l. l) (env ++ names))) (length-drop (length env) v)
      ∙ (ap (λ w. graph_lines (parts-of t env names first xs ds es ts (length v - length env) (λ l. l) w)) (defs-whole (map each (map (map (phrase forms)) fs)) env)
      ∙ kept-front t env names first xs ds es ts (length v - length env) v))
