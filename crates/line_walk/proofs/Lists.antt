-- Lists of phrases and of definitions, one after another.
use Rattle.std.proofs.Common.{◌≡◌, ℕ, suc, ◌+◌, ◌<◌, Bool, true, false, List, [], ◌∷◌, ◌++◌, drop, take, map, length, get_or, Option, Some, None, refl, sym, ap, ap₂, ◌∙◌, arith, append_assoc}
use Rattle.std.proofs.Math.Seq.{drop-cons}
use Rattle.type_table.specs.declared.form.Form.{Form}
use Rattle.typed_tree.specs.declared.expr.TypedExpr.{TypedExpr}
use Rattle.lowering.specs.declared.feed.Carried.{Carried}
use Rattle.line_types.specs.Traces.{Trace, Traces, beside, no_line, a_node, with_not, phrase, extra, extras, traces, all_traced, defs_traced, reversed}
use Rattle.line_labels.specs.Needs.{put, added}
use Rattle.line_walk.specs.Met.{exprs_met, defs_met, clause_met, clauses_met, first_flag, extra_met, extras_met}
use Rattle.line_walk.proofs.Added.{added_both}

-- what is left begins with the item of a place
pub next-item : {A : Type 0} (xs : List A) (i : ℕ) (x : A) → i < length xs → x ≡ get_or xs i x → drop i xs ≡ x ∷ drop (i + 1) xs
next-item xs i x below is =
    let next : suc i ≡ i + 1 = omega arith in
    drop-cons xs i x below ∙ (ap (λ y. y ∷ drop (suc i) xs) (sym is) ∙ ap (λ k. x ∷ drop k xs) next)

module _ (forms : List Form) where
  pub exprs-needs : (es : List TypedExpr) (i : ℕ) (e : TypedExpr) (env ks : List Carried) → drop i es ≡ e ∷ drop (i + 1) es
      → added (added ks (traces forms e env).lines) (exprs_met forms (drop (i + 1) es) env).lines ≡ added ks (exprs_met forms (drop i es) env).lines
  exprs-needs es i e env ks cons =
      sym (ap (λ l. added ks (exprs_met forms l env).lines) cons ∙ added_both ks (traces forms e env).lines (exprs_met forms (drop (i + 1) es) env).lines)

  pub exprs-values : (es : List TypedExpr) (i : ℕ) (e : TypedExpr) (env vs : List Carried) → drop i es ≡ e ∷ drop (i + 1) es
      → (vs ++ (traces forms e env).values) ++ (exprs_met forms (drop (i + 1) es) env).values ≡ vs ++ (exprs_met forms (drop i es) env).values
  exprs-values es i e env vs cons =
      append_assoc vs (traces forms e env).values (exprs_met forms (drop (i + 1) es) env).values ∙ sym (ap (λ l. vs ++ (exprs_met forms l env).values) cons)

  pub defs-needs : (ds : List (List TypedExpr)) (i : ℕ) (d : List TypedExpr) (env ks : List Carried) → drop i ds ≡ d ∷ drop (i + 1) ds
      → added (added ks (exprs_met forms d env).lines) (defs_met forms (drop (i + 1) ds) (env ++ (exprs_met forms d env).values)).lines ≡ added ks (defs_met forms (drop i ds) env).lines
  defs-needs ds i d env ks cons =
      sym (ap (λ l. added ks (defs_met forms l env).lines) cons ∙ added_both ks (exprs_met forms d env).lines (defs_met forms (drop (i + 1) ds) (env ++ (exprs_met forms d env).values)).lines)

  pub defs-values : (ds : List (List TypedExpr)) (i : ℕ) (d : List TypedExpr) (env : List Carried) → drop i ds ≡ d ∷ drop (i + 1) ds
      → (defs_met forms (drop (i + 1) ds) (env ++ (exprs_met forms d env).values)).values ≡ (defs_met forms (drop i ds) env).values
  defs-values ds i d env cons = sym (ap (λ l. (defs_met forms l env).values) cons)

-- the names of definitions stand behind those around
pub defs-behind : (ds : List (List Traces)) (env : List Carried) → (vs : List Carried) × ((defs_traced ds env).values ≡ env ++ vs)
defs-behind [] env = ([], nothing env)
  where
    nothing : (xs : List Carried) → xs ≡ xs ++ []
    nothing [] = refl
    nothing (x ∷ xs) = ap (λ l. x ∷ l) (nothing xs)
defs-behind (d ∷ ds) env =
    let vs = (all_traced d env).values in
    let r = defs-behind ds (env ++ vs) in
    (vs ++ r.0, r.1 ∙ append_assoc env vs r.0)

pub take-front : (xs ys : List Carried) → take (length xs) (xs ++ ys) ≡ xs
take-front [] ys = refl
take-front (x ∷ xs) ys = ap (λ l. x ∷ l) (take-front xs ys)

pub defs-left : (ds : List (List Traces)) (env : List Carried) → take (length env) (defs_traced ds env).values ≡ env
defs-left ds env = let r = defs-behind ds env in ap (take (length env)) r.1 ∙ take-front env r.0

pub drop-front : (xs ys : List Carried) → drop (length xs) (xs ++ ys) ≡ ys
drop-front [] ys = refl
drop-front (x ∷ xs) ys = drop-front xs ys

-- the names around, and behind them those of definitions
pub defs-whole : (ds : List (List Traces)) (env : List Carried) → env ++ drop (length env) (defs_traced ds env).values ≡ (defs_traced ds env).values
defs-whole ds env =
    let r = defs-behind ds env in
    ap (λ l. env ++ drop (length env) l) r.1 ∙ (ap (λ l. env ++ l) (drop-front env r.0) ∙ sym r.1)

-- the names around, where more stand before those of definitions
pub inner-left : (ds : List (List Traces)) (env more : List Carried) → take (length env) (defs_traced ds (env ++ more)).values ≡ env
inner-left ds env more =
    let r = defs-behind ds (env ++ more) in
    ap (take (length env)) (r.1 ∙ append_assoc env more r.0) ∙ take-front env (more ++ r.0)

-- one more from the end on
pub one-before : (cs : List Carried) (i : ℕ) (ks : List Carried) (c : Carried) → drop i cs ≡ c ∷ drop (suc i) cs → put (added ks (reversed (drop (suc i) cs))) c ≡ added ks (reversed (drop i cs))
one-before cs i ks c cons = sym (ap (λ l. added ks (reversed l)) cons ∙ added_both ks (reversed (drop (suc i) cs)) (c ∷ []))

nil-behind : (xs : List Carried) → xs ++ [] ≡ xs
nil-behind [] = refl
nil-behind (x ∷ xs) = ap (λ l. x ∷ l) (nil-behind xs)

beside-none : (a b : Trace) → beside a b ≡ beside (beside a (no_line [])) b
beside-none a b = ap₂ (λ (l v : List Carried). a_node (l ++ b.lines) (v ++ b.values)) (sym (nil-behind a.lines)) (sym (nil-behind a.values))

-- one more value or mask of a clause
module _ (forms : List Form) where
  one-clause : (bs : List Bool) (e : TypedExpr) (es : List TypedExpr) (env : List Carried)
      → clauses_met forms bs (e ∷ es) env ≡ beside (clause_met forms (first_flag bs) e env) (clauses_met forms (drop 1 bs) es env)
  one-clause [] e [] env = refl
  one-clause [] e (x ∷ xs) env = refl
  one-clause (true ∷ bs) e es env = refl
  one-clause (false ∷ bs) e es env = refl

  pub clause-needs : (bs : List Bool) (e : TypedExpr) (es : List TypedExpr) (env ks : List Carried)
      → added (added ks (clause_met forms (first_flag bs) e env).lines) (clauses_met forms (drop 1 bs) es env).lines ≡ added ks (clauses_met forms bs (e ∷ es) env).lines
  clause-needs bs e es env ks =
      sym (ap (λ (x : Trace). added ks x.lines) (one-clause bs e es env) ∙ added_both ks (clause_met forms (first_flag bs) e env).lines (clauses_met forms (drop 1 bs) es env).lines)

  pub clause-values : (bs : List Bool) (e : TypedExpr) (es : List TypedExpr) (env vs : List Carried)
      → (vs ++ (clause_met forms (first_flag bs) e env).values) ++ (clauses_met forms (drop 1 bs) es env).values ≡ vs ++ (clauses_met forms bs (e ∷ es) env).values
  clause-values bs e es env vs =
      append_assoc vs (clause_met forms (first_flag bs) e env).values (clauses_met forms (drop 1 bs) es env).values ∙ sym (ap (λ (x : Trace). vs ++ x.values) (one-clause bs e es env))

  -- one more value or mask of a clause, which may be a loop name
  one-extra : (loop : Option ℕ → Option ℕ) (bs : List Bool) (e : TypedExpr) (es : List TypedExpr) (env : List Carried)
      → extras_met forms loop bs (e ∷ es) env ≡ beside (extra_met forms loop (first_flag bs) e env) (extras_met forms loop (drop 1 bs) es env)
  one-extra loop [] e [] env = refl
  one-extra loop [] e (x ∷ xs) env = refl
  one-extra loop (true ∷ bs) e es env = beside-none (with_not (phrase forms e).traces env) (extras_met forms loop bs es env)
  one-extra loop (false ∷ bs) e es env = by (loop (phrase forms e).name)
    where
      by : (d : Option ℕ) → all_traced (extra d (phrase forms e).traces ++ extras loop bs (map (phrase forms) es)) env
          ≡ beside (all_traced (extra d (phrase forms e).traces ++ []) env) (extras_met forms loop bs es env)
      by None = beside-none ((phrase forms e).traces env) (extras_met forms loop bs es env)
      by (Some x) = refl

  pub extra-needs : (loop : Option ℕ → Option ℕ) (bs : List Bool) (e : TypedExpr) (es : List TypedExpr) (env ks : List Carried)
      → added (added ks (extra_met forms loop (first_flag bs) e env).lines) (extras_met forms loop (drop 1 bs) es env).lines ≡ added ks (extras_met forms loop bs (e ∷ es) env).lines
  extra-needs loop bs e es env ks =
      sym (ap (λ (x : Trace). added ks x.lines) (one-extra loop bs e es env) ∙ added_both ks (extra_met forms loop (first_flag bs) e env).lines (extras_met forms loop (drop 1 bs) es env).lines)

  pub extra-values : (loop : Option ℕ → Option ℕ) (bs : List Bool) (e : TypedExpr) (es : List TypedExpr) (env vs : List Carried)
      → (vs ++ (extra_met forms loop (first_flag bs) e env).values) ++ (extras_met forms loop (drop 1 bs) es env).values ≡ vs ++ (extras_met forms loop bs (e ∷ es) env).values
  extra-values loop bs e es env vs =
      append_assoc vs (extra_met forms loop (first_flag bs) e env).values (extras_met forms loop (drop 1 bs) es env).values ∙ sym (ap (λ (x : Trace). vs ++ x.values) (one-extra loop bs e es env))
