use Rattle.std.proofs.Common.{◌≡◌, ℕ, Bool, ◌+◌, ◌-◌, suc, List, [], ◌++◌, ◌∷◌, drop, take, length, map, sym, ap, ap₂, ◌∙◌, arith}
use Rattle.typed_tree.specs.declared.expr.TypedExpr.{TypedExpr}
use Rattle.typed_tree.specs.declared.expr.TypedKind.TheVariants as typed
use Rattle.std.specs.Prelude.{if◌then◌else◌, IsTrue}
use Rattle.lowering.specs.Operations.{integer}
use Rattle.lowering.specs.declared.feed.Carried.TheVariants.{One}
use Rattle.line_walk.proofs.Renewals.{known-added, known-later, again-added}
use Rattle.lowering.specs.Choices.{type_of}
use Rattle.lowering.specs.Loops.{many, single, unless_places, loop_name}
use Rattle.lowering.specs.declared.feed.Carried.{Carried}
use Rattle.line_types.specs.Traces.{Trace, each, phrase, graph_lines, carried_at, arm_names, generators_traced, returns_traced, bound_of, defs_traced, Wired, collected, renew}
use Rattle.line_labels.specs.Needs.{put, added}
use Rattle.line_walk.specs.Met.{exprs_met, defs_met, selector_met, arms_met, clause_met, clauses_met, first_flag, extras_met, extra_met, row_met, test_met}
use Rattle.line_walk.proofs.Added.{added_both}
use Rattle.line_walk.proofs.FormParts.{graphs-added, let-is, if-is, case-added, case-is, product-added, product-is, initial-added, initial-lines}
use Rattle.line_walk.proofs.Lists.{next-item, exprs-needs, exprs-values, defs-needs, defs-values, defs-left, defs-whole, take-front, inner-left, clause-needs, clause-values, extra-needs, extra-values}
use Rattle.line_walk.proofs.walk.Walk.+walk.Goals as goal

pub exprs-loop-e-preserved : goal.exprs-loop-e-preserved
exprs-loop-e-preserved t c =
    let forms = c.args.types.now in
    let es = c.args.es.now in
    let i = c.loop-e.e-index in
    let e = c.e-item.result in
    let cons = next-item es i e c.loop-e-test.true c.e-item.is in
    let old = c.loop-e.self in
    let same = c.in_ok-expr.ensures.names in
    record {
      needs = ap (λ n. added c.expr.new.self.needs (exprs_met forms (drop (i + 1) es) n).lines) same
          ∙ (ap (λ k. added k (exprs_met forms (drop (i + 1) es) old.names).lines) c.in_ok-expr.ensures.needs
          ∙ (exprs-needs forms es i e old.names old.needs cons ∙ c.loop-e.invariant.needs));
      values = ap (λ n. c.expr.new.values ++ (exprs_met forms (drop (i + 1) es) n).values) same
          ∙ (ap (λ v. v ++ (exprs_met forms (drop (i + 1) es) old.names).values) c.in_ok-expr.ensures.values
          ∙ (exprs-values forms es i e old.names c.loop-e.values cons ∙ c.loop-e.invariant.values));
      names = same ∙ c.loop-e.invariant.names;
    }

pub defs-loop-def-preserved : goal.defs-loop-def-preserved
defs-loop-def-preserved t c =
    let forms = c.args.types.now in
    let ds = c.args.defs.now in
    let i = c.loop-def.def-index in
    let d = c.as_slice.result.now in
    let item = c.def-item.result in
    let cons = next-item ds i item c.loop-def-test.true c.def-item.is ∙ ap (λ x. x ∷ drop (i + 1) ds) (sym c.as_slice.ensures) in
    let old = c.loop-def.self in
    let later = c.in_ok-def.ensures.names in
    record {
      needs = ap (λ n. added c.def.new.self.needs (defs_met forms (drop (i + 1) ds) n).lines) later
          ∙ (ap (λ k. added k (defs_met forms (drop (i + 1) ds) (old.names ++ (exprs_met forms d old.names).values)).lines) c.in_ok-def.ensures.needs
          ∙ (defs-needs forms ds i d old.names old.needs cons ∙ c.loop-def.invariant.needs));
      names = ap (λ n. (defs_met forms (drop (i + 1) ds) n).values) later ∙ (defs-values forms ds i d old.names cons ∙ c.loop-def.invariant.names);
    }

pub kind-returns-in_ok-exprs-in-Let-clause-needs : goal.kind-returns-in_ok-exprs-in-Let-clause-needs
kind-returns-in_ok-exprs-in-Let-clause-needs t c =
    let forms = c.args.types.now in
    let ds = c.in-Let.defs in
    let es = c.in-Let.parts in
    let env = c.args.self.now.names in
    let ks = c.args.self.now.needs in
    let first = c.in_ok-defs-in-Let.ensures in
    let lines = λ (l : List TypedExpr) (n : List Carried). (exprs_met forms l n).lines in
    let names : c.defs.new.self.names ≡ (defs_met forms ds env).values = first.names ∙ ap (λ l. (defs_met forms l env).values) c.as_slice-in-Let.ensures in
    let needs : c.defs.new.self.needs ≡ added ks (defs_met forms ds env).lines = first.needs ∙ ap (λ l. added ks (defs_met forms l env).lines) c.as_slice-in-Let.ensures in
    c.in_ok-exprs-in-Let.ensures.needs
    ∙ (ap (λ l. added c.defs.new.self.needs (lines l c.defs.new.self.names)) c.as_slice-in-Let-2.ensures
    ∙ (ap (λ n. added c.defs.new.self.needs (lines es n)) names
    ∙ (ap (λ k. added k (lines es (defs_met forms ds env).values)) needs
    ∙ (sym (added_both ks (defs_met forms ds env).lines (lines es (defs_met forms ds env).values))
    ∙ sym (ap (λ (x : Trace). added ks x.lines) (let-is forms c.args.kind.now ds es c.args.tys.now env c.in-Let.is))))))

pub kind-returns-in_ok-exprs-in-Let-clause-names : goal.kind-returns-in_ok-exprs-in-Let-clause-names
kind-returns-in_ok-exprs-in-Let-clause-names t c =
    let forms = c.args.types.now in
    let env = c.args.self.now.names in
    let ds = c.as_slice-in-Let.result.now in
    c.truncate.ensures
    ∙ (ap (take c.len-mark.result) (c.in_ok-exprs-in-Let.ensures.names ∙ c.in_ok-defs-in-Let.ensures.names)
    ∙ (ap (λ n. take n (defs_met forms ds env).values) c.len-mark.ensures ∙ defs-left (map each (map (map (phrase forms)) ds)) env))

pub kind-returns-in_ok-add_ones-in-If-clause-needs : goal.kind-returns-in_ok-add_ones-in-If-clause-needs
kind-returns-in_ok-add_ones-in-If-clause-needs t c =
    let forms = c.args.types.now in
    let env = c.args.self.now.names in
    let ks = c.args.self.now.needs in
    let xs = c.in-If.test in
    let ys = c.in-If.arm in
    let zs = c.in-If.other in
    let s = selector_met forms xs env in
    let o = exprs_met forms zs env in
    let a = exprs_met forms ys env in
    let one : Trace → List Carried = λ x. graph_lines (x ∷ []) in
    let before = c.selector.new.self in
    let middle = c.graph.new.self in
    let names = c.in_ok-selector-in-If.ensures.names in
    let later = c.in_ok-graph-in-If.ensures.names ∙ names in
    let first : before.needs ≡ added ks (one s) = c.in_ok-selector-in-If.ensures.needs ∙ ap (λ l. added ks (one (selector_met forms l env))) c.as_slice-in-If.ensures in
    let second : middle.needs ≡ added (added ks (one s)) (one o) = c.in_ok-graph-in-If.ensures.needs
    ∙ (ap (λ l. added before.needs (one (exprs_met forms l before.names))) c.as_slice-in-If-2.ensures
    ∙ (ap (λ n. added before.needs (one (exprs_met forms zs n))) names ∙ ap (λ k. added k (one o)) first)) in
    c.in_ok-graph-in-If-2.ensures.needs
    ∙ (ap (λ l. added middle.needs (one (exprs_met forms l middle.names))) c.as_slice-in-If-3.ensures
    ∙ (ap (λ n. added middle.needs (one (exprs_met forms ys n))) later
    ∙ (ap (λ k. added k (one a)) second
    ∙ (graphs-added (added ks (one s)) o (a ∷ [])
    ∙ (graphs-added ks s (o ∷ a ∷ [])
    ∙ sym (ap (λ (x : Trace). added ks x.lines) (if-is forms c.args.kind.now xs ys zs c.args.tys.now env c.in-If.is)))))))

pub arms-loop-at-preserved : goal.arms-loop-at-preserved
arms-loop-at-preserved t c =
    let forms = c.args.types.now in
    let case = c.args.case.now in
    let ty = c.args.ty in
    let arms = c.args.arms.now in
    let i = c.loop-at.at in
    let old = c.loop-at.self in
    let d = c.as_slice.result.now in
    let rest = drop (i + 1) arms in
    let cons = next-item arms i c.index-arms-at.result c.loop-at-test.true c.index-arms-at.is ∙ ap (λ x. x ∷ rest) (sym c.as_slice.ensures) in
    let same = c.in_ok-arm.ensures.names in
    let step : i + 1 ≡ suc i = omega arith in
    let own : c.arm.new.self.needs ≡ added old.needs (graph_lines (exprs_met forms d (arm_names forms case ty i old.names) ∷ [])) =
    c.in_ok-arm.ensures.needs ∙ ap (λ e. added old.needs (graph_lines (exprs_met forms d e ∷ []))) (c.arm_name-name.ensures old.names) in
    record {
      needs = ap (λ n. added c.arm.new.self.needs (graph_lines (arms_met forms case ty (i + 1) rest n))) same
          ∙ (ap (λ m. added c.arm.new.self.needs (graph_lines (arms_met forms case ty m rest old.names))) step
          ∙ (ap (λ k. added k (graph_lines (arms_met forms case ty (suc i) rest old.names))) own
          ∙ (graphs-added old.needs (exprs_met forms d (arm_names forms case ty i old.names)) (arms_met forms case ty (suc i) rest old.names)
          ∙ (ap (λ (l : List (List TypedExpr)). added old.needs (graph_lines (arms_met forms case ty i l old.names))) (sym cons) ∙ c.loop-at.invariant.needs))));
      names = same ∙ c.loop-at.invariant.names;
    }

pub clauses-loop-e-preserved : goal.clauses-loop-e-preserved
clauses-loop-e-preserved t c =
    let forms = c.args.types.now in
    let es = c.args.es.now in
    let i = c.loop-e.e-index in
    let e = c.e-item.result in
    let left = c.loop-e.left.now in
    let rest = drop (i + 1) es in
    let cons = next-item es i e c.loop-e-test.true c.e-item.is in
    let old = c.loop-e.self in
    let vs = c.loop-e.values in
    let same = c.in_ok-clause.ensures.names in
    let mask = c.next_flag-mask.ensures.first in
    let behind = c.next_flag-mask.ensures.rest in
    let x = clause_met forms (first_flag left) e old.names in
    record {
      needs = ap (λ n. added c.clause.new.self.needs (clauses_met forms c.next_flag-mask.result.1.now rest n).lines) same
          ∙ (ap (λ b. added c.clause.new.self.needs (clauses_met forms b rest old.names).lines) behind
          ∙ (ap (λ k. added k (clauses_met forms (drop 1 left) rest old.names).lines) (c.in_ok-clause.ensures.needs ∙ ap (λ m. added old.needs (clause_met forms m e old.names).lines) mask)
          ∙ (clause-needs forms left e rest old.names old.needs
          ∙ (ap (λ (l : List TypedExpr). added old.needs (clauses_met forms left l old.names).lines) (sym cons) ∙ c.loop-e.invariant.needs))));
      values = ap (λ n. c.clause.new.values ++ (clauses_met forms c.next_flag-mask.result.1.now rest n).values) same
          ∙ (ap (λ b. c.clause.new.values ++ (clauses_met forms b rest old.names).values) behind
          ∙ (ap (λ k. k ++ (clauses_met forms (drop 1 left) rest old.names).values) (c.in_ok-clause.ensures.values ∙ ap (λ m. vs ++ (clause_met forms m e old.names).values) mask)
          ∙ (clause-values forms left e rest old.names vs
          ∙ (ap (λ (l : List TypedExpr). vs ++ (clauses_met forms left l old.names).values) (sym cons) ∙ c.loop-e.invariant.values))));
      names = same ∙ c.loop-e.invariant.names;
    }

pub kind-returns-in_ok-add_ones-in-Case-clause-needs : goal.kind-returns-in_ok-add_ones-in-Case-clause-needs
kind-returns-in_ok-add_ones-in-Case-clause-needs t c =
    let forms = c.args.types.now in
    let env = c.args.self.now.names in
    let ks = c.args.self.now.needs in
    let case = c.in-Case.case in
    let us = c.as_slice-in-Case.result.now in
    let arms = c.as_slice-in-Case-5.result.now in
    let k : c.args.kind.now ≡ typed.Case case us arms = c.in-Case.is ∙ ap₂ (λ u a. typed.Case case u a) (sym c.as_slice-in-Case.ensures) (sym c.as_slice-in-Case-5.ensures) in
    let on = (exprs_met forms us env).values in
    let u = carried_at on 0 in
    let values : c.as_slice-in-Case-2.result.now ≡ on = c.as_slice-in-Case-2.ensures ∙ c.in_ok-on-in-Case.ensures.values in
    let uc : c.carried_at-carried-in-Case.result ≡ u = c.carried_at-carried-in-Case.ensures ∙ ap (λ l. carried_at l 0) values in
    let ty : c.type_of.result ≡ type_of u = c.type_of.ensures ∙ ap type_of uc in
    let before = c.operands.new.self in
    let first : before.needs ≡ added ks (exprs_met forms us env).lines = c.in_ok-on-in-Case.ensures.needs in
    let lines = graph_lines (arms_met forms case (type_of u) 0 arms env) in
    let second : c.arms.new.self.needs ≡ added (added ks (exprs_met forms us env).lines) lines =
    c.in_ok-arms-in-Case.ensures.needs
    ∙ (ap (λ n. added before.needs (graph_lines (arms_met forms case c.type_of.result 0 arms n))) c.in_ok-on-in-Case.ensures.names
    ∙ (ap (λ y. added before.needs (graph_lines (arms_met forms case y 0 arms env))) ty ∙ ap (λ l. added l lines) first)) in
    c.in_ok-add-in-Case.ensures
    ∙ (ap (λ x. put c.arms.new.self.needs x) uc
    ∙ (ap (λ l. put l u) second
    ∙ (case-added ks (exprs_met forms us env).lines lines u
    ∙ sym (ap (λ (x : Trace). added ks x.lines) (case-is forms c.args.kind.now case us arms c.args.tys.now env k)))))

pub kind-returns-in_ok-add_ones-in-Product-clause-needs : goal.kind-returns-in_ok-add_ones-in-Product-clause-needs
kind-returns-in_ok-add_ones-in-Product-clause-needs t c =
    let forms = c.args.types.now in
    let env = c.args.self.now.names in
    let ks = c.args.self.now.needs in
    let p = c.in-Product.product in
    let us = c.as_slice-in-Product.result.now in
    let ds = c.as_slice-in-Product-4.result.now in
    let es = c.as_slice-in-Product-7.result.now in
    let tys = c.args.tys.now in
    let k : c.args.kind.now ≡ typed.Product p us ds es =
    c.in-Product.is
    ∙ (ap (λ u. typed.Product p u c.in-Product.defs c.in-Product.parts) (sym c.as_slice-in-Product.ensures)
    ∙ (ap (λ d. typed.Product p us d c.in-Product.parts) (sym c.as_slice-in-Product-4.ensures) ∙ ap (λ e. typed.Product p us ds e) (sym c.as_slice-in-Product-7.ensures))) in
    let us-lines = (exprs_met forms us env).lines in
    let cs = (exprs_met forms us env).values in
    let g = generators_traced forms p.sources cs in
    let inside = env ++ map single g.values in
    let d = defs_met forms ds inside in
    let bs = unless_places p.clauses in
    let b = clauses_met forms bs es d.values in
    let r = returns_traced (bound_of forms p.sources cs) p.clauses (map many b.values) tys in
    let on : c.in_ok-on-in-Product.on ≡ cs = c.in_ok-on-in-Product.ensures.values in
    let a0 = c.operands-in-Product.new.self in
    let a1 = c.begin_product.new.self in
    let a2 = c.defs-in-Product.new.self in
    let a3 = c.clauses.new.self in
    let g1 : generators_traced forms c.as_slice-in-Product-2.result.now c.as_slice-in-Product-3.result.now ≡ g =
    ap (λ s. generators_traced forms s c.as_slice-in-Product-3.result.now) c.as_slice-in-Product-2.ensures ∙ ap (λ l. generators_traced forms p.sources l) (c.as_slice-in-Product-3.ensures ∙ on) in
    let n1 : a1.names ≡ inside = c.in_ok-begin_product-in-Product.ensures.names
    ∙ (ap (λ l. l ++ map single (generators_traced forms c.as_slice-in-Product-2.result.now c.as_slice-in-Product-3.result.now).values) c.in_ok-on-in-Product.ensures.names ∙ ap (λ (x : Trace). env ++ map single x.values) g1) in
    let k1 : a1.needs ≡ added (added ks us-lines) (graph_lines (g ∷ [])) = c.in_ok-begin_product-in-Product.ensures.needs
    ∙ (ap (λ l. added l (graph_lines (generators_traced forms c.as_slice-in-Product-2.result.now c.as_slice-in-Product-3.result.now ∷ []))) c.in_ok-on-in-Product.ensures.needs ∙ ap (λ (x : Trace). added (added ks us-lines) (graph_lines (x ∷ []))) g1) in
    let n2 : a2.names ≡ d.values = c.in_ok-defs-in-Product.ensures.names ∙ ap (λ n. (defs_met forms ds n).values) n1 in
    let k2 : a2.needs ≡ added (added (added ks us-lines) (graph_lines (g ∷ []))) d.lines = c.in_ok-defs-in-Product.ensures.needs
    ∙ (ap (λ n. added a1.needs (defs_met forms ds n).lines) n1 ∙ ap (λ l. added l d.lines) k1) in
    let masks : c.as_slice-in-Product-6.result.now ≡ bs = c.as_slice-in-Product-6.ensures ∙ (c.in_ok-masks-in-Product.ensures ∙ ap unless_places c.as_slice-in-Product-5.ensures) in
    let b1 : clauses_met forms c.as_slice-in-Product-6.result.now es a2.names ≡ b =
    ap (λ m. clauses_met forms m es a2.names) masks ∙ ap (λ n. clauses_met forms bs es n) n2 in
    let k3 : a3.needs ≡ added (added (added (added ks us-lines) (graph_lines (g ∷ []))) d.lines) b.lines = c.in_ok-body-in-Product.ensures.needs
    ∙ (ap (λ (x : Trace). added a2.needs x.lines) b1 ∙ ap (λ l. added l b.lines) k2) in
    let body : c.as_slice-in-Product-9.result.now ≡ b.values = c.as_slice-in-Product-9.ensures ∙ (c.in_ok-body-in-Product.ensures.values ∙ ap (λ (x : Trace). x.values) b1) in
    let on8 : c.as_slice-in-Product-8.result.now ≡ cs = c.as_slice-in-Product-8.ensures ∙ on in
    c.in_ok-end_product-in-Product.ensures.needs
    ∙ (ap (λ l. added (added a3.needs c.as_slice-in-Product-9.result.now) (graph_lines (returns_traced (bound_of forms p.sources l) p.clauses (map many c.as_slice-in-Product-9.result.now) tys ∷ []))) on8
    ∙ (ap (λ v. added (added a3.needs v) (graph_lines (returns_traced (bound_of forms p.sources cs) p.clauses (map many v) tys ∷ []))) body
    ∙ (ap (λ l. added (added l b.values) (graph_lines (r ∷ []))) k3
    ∙ (product-added ks us-lines d.lines g b r
    ∙ sym (ap (λ (x : Trace). added ks x.lines) (product-is forms c.args.kind.now p us ds es tys env k))))))

pub kind-returns-in_ok-add_ones-in-Product-clause-names : goal.kind-returns-in_ok-add_ones-in-Product-clause-names
kind-returns-in_ok-add_ones-in-Product-clause-names t c =
    let forms = c.args.types.now in
    let env = c.args.self.now.names in
    let ds = c.as_slice-in-Product-4.result.now in
    let more = map single (generators_traced forms c.as_slice-in-Product-2.result.now c.as_slice-in-Product-3.result.now).values in
    let n1 : c.begin_product.new.self.names ≡ env ++ more = c.in_ok-begin_product-in-Product.ensures.names ∙ ap (λ l. l ++ more) c.in_ok-on-in-Product.ensures.names in
    let n2 : c.clauses.new.self.names ≡ (defs_met forms ds (env ++ more)).values =
    c.in_ok-body-in-Product.ensures.names ∙ (c.in_ok-defs-in-Product.ensures.names ∙ ap (λ n. (defs_met forms ds n).values) n1) in
    c.in_ok-end_product-in-Product.ensures.names
    ∙ (c.truncate-in-Product.ensures
    ∙ (ap (λ m. take m c.clauses.new.self.names) c.len-mark-in-Product.ensures
    ∙ (ap (λ n. take (length env) n) n2 ∙ inner-left (map each (map (map (phrase forms)) ds)) env more)))

pub extras-loop-e-preserved : goal.extras-loop-e-preserved
extras-loop-e-preserved t c =
    let forms = c.args.types.now in
    let loop = loop_name c.args.around c.args.count in
    let es = c.args.es.now in
    let i = c.loop-e.e-index in
    let e = c.e-item.result in
    let left = c.loop-e.left.now in
    let rest = drop (i + 1) es in
    let cons = next-item es i e c.loop-e-test.true c.e-item.is in
    let old = c.loop-e.self in
    let vs = c.loop-e.values in
    let same = c.in_ok-extra.ensures.names in
    let mask = c.next_flag-mask.ensures.first in
    let behind = c.next_flag-mask.ensures.rest in
    record {
      needs = ap (λ n. added c.extra.new.self.needs (extras_met forms loop c.next_flag-mask.result.1.now rest n).lines) same
          ∙ (ap (λ b. added c.extra.new.self.needs (extras_met forms loop b rest old.names).lines) behind
          ∙ (ap (λ k. added k (extras_met forms loop (drop 1 left) rest old.names).lines) (c.in_ok-extra.ensures.needs ∙ ap (λ m. added old.needs (extra_met forms loop m e old.names).lines) mask)
          ∙ (extra-needs forms loop left e rest old.names old.needs
          ∙ (ap (λ (l : List TypedExpr). added old.needs (extras_met forms loop left l old.names).lines) (sym cons) ∙ c.loop-e.invariant.needs))));
      values = ap (λ n. c.extra.new.values ++ (extras_met forms loop c.next_flag-mask.result.1.now rest n).values) same
          ∙ (ap (λ b. c.extra.new.values ++ (extras_met forms loop b rest old.names).values) behind
          ∙ (ap (λ k. k ++ (extras_met forms loop (drop 1 left) rest old.names).values) (c.in_ok-extra.ensures.values ∙ ap (λ m. vs ++ (extra_met forms loop m e old.names).values) mask)
          ∙ (extra-values forms loop left e rest old.names vs
          ∙ (ap (λ (l : List TypedExpr). vs ++ (extras_met forms loop left l old.names).values) (sym cons) ∙ c.loop-e.invariant.values))));
      names = same ∙ c.loop-e.invariant.names;
    }

pub kind-returns-in_ok-add_ones-in-Initial-clause-needs : goal.kind-returns-in_ok-add_ones-in-Initial-clause-needs
kind-returns-in_ok-add_ones-in-Initial-clause-needs t c =
    let forms = c.args.types.now in
    let env = c.args.self.now.names in
    let ks = c.args.self.now.needs in
    let tys = c.args.tys.now in
    let p = c.in-Initial.turns in
    let fs = c.as_slice-in-Initial.result.now in
    let es = c.as_slice-in-Initial-4.result.now in
    let xs = c.as_slice-in-Initial-5.result.now in
    let ds = c.as_slice-in-Initial-6.result.now in
    let k : c.args.kind.now ≡ typed.Initial p fs xs ds es =
    c.in-Initial.is
    ∙ (ap (λ l. typed.Initial p l c.in-Initial.test c.in-Initial.defs c.in-Initial.parts) (sym c.as_slice-in-Initial.ensures)
    ∙ (ap (λ l. typed.Initial p fs l c.in-Initial.defs c.in-Initial.parts) (sym c.as_slice-in-Initial-5.ensures)
    ∙ (ap (λ l. typed.Initial p fs xs l c.in-Initial.parts) (sym c.as_slice-in-Initial-6.ensures) ∙ ap (λ l. typed.Initial p fs xs ds l) (sym c.as_slice-in-Initial-4.ensures)))) in
    let first = defs_met forms fs env in
    let v = first.values in
    let n = length env in
    let m = length v - n in
    let bs = unless_places p.clauses in
    let names = drop n v in
    let a0 = c.defs-in-Initial.new.self in
    let a1 = c.row.new.self in
    let a2 = c.test.new.self in
    let a3 = c.defs-in-Initial-2.new.self in
    let a4 = c.renew_names.new.self in
    let a5 = c.again.new.self in
    let around : c.len-around.result ≡ n = c.len-around.ensures in
    let n0 : a0.names ≡ v = c.in_ok-defs-in-Initial.ensures.names in
    let k0 : a0.needs ≡ added ks first.lines = c.in_ok-defs-in-Initial.ensures.needs in
    let inside : c.len-inside.result ≡ length v = c.len-inside.ensures ∙ ap length n0 in
    let count : c.saturating_sub-count.result ≡ m = c.saturating_sub-count.ensures ∙ ap₂ (λ a b. a - b) inside around in
    let masks : c.in_ok-masks-in-Initial.masks ≡ bs = c.in_ok-masks-in-Initial.ensures ∙ ap unless_places c.as_slice-in-Initial-2.ensures in
    let row-is : (a b : ℕ) (l : List Bool) (w y : List Carried) → a ≡ n → b ≡ m → l ≡ bs → w ≡ y → row_met forms a b l es w ≡ row_met forms n m bs es y =
    λ a b l w y ea eb el ew. ap (λ q. row_met forms q b l es w) ea ∙ (ap (λ q. row_met forms n q l es w) eb ∙ (ap (λ q. row_met forms n m q es w) el ∙ ap (λ q. row_met forms n m bs es q) ew)) in
    let i = row_met forms n m bs es v in
    let i-is = row-is c.len-around.result c.saturating_sub-count.result c.as_slice-in-Initial-3.result.now a0.names v around count (c.as_slice-in-Initial-3.ensures ∙ masks) n0 in
    let k1 : a1.needs ≡ added (added ks first.lines) (graph_lines (i ∷ [])) = c.in_ok-row-in-Initial.ensures.needs
    ∙ (ap (λ (q : Trace). added a0.needs (graph_lines (q ∷ []))) i-is ∙ ap (λ l. added l (graph_lines (i ∷ []))) k0) in
    let n1 : a1.names ≡ v = c.in_ok-row-in-Initial.ensures.names ∙ n0 in
    let x = test_met forms p.is_until xs v in
    let k2 : a2.needs ≡ added (added (added ks first.lines) (graph_lines (i ∷ []))) (graph_lines (x ∷ [])) = c.in_ok-test-in-Initial.ensures.needs
    ∙ (ap (λ w. added a1.needs (graph_lines (test_met forms p.is_until xs w ∷ []))) n1 ∙ ap (λ l. added l (graph_lines (x ∷ []))) k1) in
    let n2 : a2.names ≡ v = c.in_ok-test-in-Initial.ensures.names ∙ n1 in
    let d = defs_met forms ds v in
    let big = added (added (added (added ks first.lines) (graph_lines (i ∷ []))) (graph_lines (x ∷ []))) d.lines in
    let n3 : a3.names ≡ d.values = c.in_ok-defs-in-Initial-2.ensures.names ∙ ap (λ w. (defs_met forms ds w).values) n2 in
    let k3 : a3.needs ≡ big = c.in_ok-defs-in-Initial-2.ensures.needs ∙ (ap (λ w. added a2.needs (defs_met forms ds w).lines) n2 ∙ ap (λ l. added l d.lines) k2) in
    let kept : take c.len-inside.result a3.names ≡ v = ap₂ (λ q w. take q w) inside n3 ∙ defs-left (map each (map (map (phrase forms)) ds)) v in
    let loop-is : drop c.len-around.result (take c.len-inside.result a3.names) ≡ names = ap₂ (λ q w. drop q w) around kept in
    let after = renew p.renewed (drop (length v) d.values) names in
    let after-is : renew c.as_slice-in-Initial-7.result.now (drop c.len-inside.result a3.names) (drop c.len-around.result (take c.len-inside.result a3.names)) ≡ after =
    ap₂ (λ q w. renew q w (drop c.len-around.result (take c.len-inside.result a3.names))) c.as_slice-in-Initial-7.ensures (ap₂ (λ q w. drop q w) inside n3) ∙ ap (λ l. renew p.renewed (drop (length v) d.values) l) loop-is in
    let n4 : a4.names ≡ env ++ after = c.in_ok-is_same-in-Initial.ensures.names
    ∙ ap₂ (λ q w. q ++ w) (ap₂ (λ q w. take q w) around kept ∙ defs-left (map each (map (map (phrase forms)) fs)) env) after-is in
    let b = row_met forms n m bs es (env ++ after) in
    let b-is : row_met forms c.len-around.result c.saturating_sub-count.result c.as_slice-in-Initial-8.result.now c.as_slice-in-Initial-9.result.now a4.names ≡ b =
    ap (λ l. row_met forms c.len-around.result c.saturating_sub-count.result c.as_slice-in-Initial-8.result.now l a4.names) (c.as_slice-in-Initial-9.ensures ∙ sym c.as_slice-in-Initial-4.ensures)
    ∙ row-is c.len-around.result c.saturating_sub-count.result c.as_slice-in-Initial-8.result.now a4.names (env ++ after) around count (c.as_slice-in-Initial-8.ensures ∙ masks) n4 in
    let is = c.in_ok-is_same-in-Initial.is_same in
    let whole : IsTrue is → env ++ after ≡ v = λ h. ap (λ l. env ++ l) (sym after-is ∙ (c.in_ok-is_same-in-Initial.ensures.same h ∙ loop-is)) ∙ defs-whole (map each (map (map (phrase forms)) fs)) env in
    let gi = graph_lines (i ∷ []) in
    let gx = graph_lines (x ∷ []) in
    let gb = graph_lines (b ∷ []) in
    let start = added ks first.lines in
    let known = known-later (added (added start gi) gx) gi d.lines (known-later (added start gi) gi gx (known-added start gi)) in
    let k5 : a5.needs ≡ added big gb = c.in_ok-again-in-Initial.ensures.needs
    ∙ (ap (λ (q : Trace). if is then a4.needs else added a4.needs (graph_lines (q ∷ []))) b-is
    ∙ (ap (λ l. if is then l else added l gb) (c.in_ok-is_same-in-Initial.ensures.needs ∙ k3)
    ∙ again-added big is gi gb (λ h. ap (λ w. graph_lines (row_met forms n m bs es w ∷ [])) (whole h)) known)) in
    let part = λ (a q : ℕ) (l : List Bool) (e : List TypedExpr) (w : List Carried). returns_traced (Wired (One integer)) p.clauses (map (carried_at (map many w)) (collected (loop_name a q) q l (map (phrase forms) e))) tys in
    let r = part n m bs es i.values in
    let row : c.as_slice-in-Initial-13.result.now ≡ i.values = c.as_slice-in-Initial-13.ensures ∙ (c.in_ok-row-in-Initial.ensures.values ∙ ap (λ (q : Trace). q.values) i-is) in
    let end = λ (q : Trace). added a5.needs (graph_lines (q ∷ [])) in
    c.in_ok-end_turns-in-Initial.ensures.needs
    ∙ (ap (λ l. added a5.needs (graph_lines (returns_traced (Wired (One integer)) l (map (carried_at (map many c.as_slice-in-Initial-13.result.now)) (collected (loop_name c.len-around.result c.saturating_sub-count.result) c.saturating_sub-count.result c.as_slice-in-Initial-11.result.now (map (phrase forms) c.as_slice-in-Initial-12.result.now))) tys ∷ []))) c.as_slice-in-Initial-10.ensures
    ∙ (ap (λ a. end (part a c.saturating_sub-count.result c.as_slice-in-Initial-11.result.now c.as_slice-in-Initial-12.result.now c.as_slice-in-Initial-13.result.now)) around
    ∙ (ap (λ q. end (part n q c.as_slice-in-Initial-11.result.now c.as_slice-in-Initial-12.result.now c.as_slice-in-Initial-13.result.now)) count
    ∙ (ap (λ l. end (part n m l c.as_slice-in-Initial-12.result.now c.as_slice-in-Initial-13.result.now)) (c.as_slice-in-Initial-11.ensures ∙ masks)
    ∙ (ap (λ e. end (part n m bs e c.as_slice-in-Initial-13.result.now)) (c.as_slice-in-Initial-12.ensures ∙ sym c.as_slice-in-Initial-4.ensures)
    ∙ (ap (λ w. end (part n m bs es w)) row
    ∙ (ap (λ l. added l (graph_lines (r ∷ []))) k5
    ∙ (initial-added ks first.lines d.lines i x b r
    ∙ sym (ap (λ l. added ks l) (initial-lines forms c.args.kind.now p fs xs ds es tys env k))))))))))

pub kind-returns-in_ok-add_ones-in-Initial-clause-names : goal.kind-returns-in_ok-add_ones-in-Initial-clause-names
kind-returns-in_ok-add_ones-in-Initial-clause-names t c =
    let forms = c.args.types.now in
    let env = c.args.self.now.names in
    let first = map each (map (map (phrase forms)) c.as_slice-in-Initial.result.now) in
    let turn = map each (map (map (phrase forms)) c.as_slice-in-Initial-6.result.now) in
    let v = (defs_traced first env).values in
    let a3 = c.defs-in-Initial-2.new.self in
    let n0 : c.defs-in-Initial.new.self.names ≡ v = c.in_ok-defs-in-Initial.ensures.names in
    let n2 : c.test.new.self.names ≡ v = c.in_ok-test-in-Initial.ensures.names ∙ (c.in_ok-row-in-Initial.ensures.names ∙ n0) in
    let n3 : a3.names ≡ (defs_traced turn v).values = c.in_ok-defs-in-Initial-2.ensures.names ∙ ap (λ w. (defs_traced turn w).values) n2 in
    let inside : c.len-inside.result ≡ length v = c.len-inside.ensures ∙ ap length n0 in
    let kept : take c.len-inside.result a3.names ≡ v = ap₂ (λ q w. take q w) inside n3 ∙ defs-left turn v in
    let front : take c.len-around.result (take c.len-inside.result a3.names) ≡ env = ap₂ (λ q w. take q w) c.len-around.ensures kept ∙ defs-left first env in
    let after = renew c.as_slice-in-Initial-7.result.now (drop c.len-inside.result a3.names) (drop c.len-around.result (take c.len-inside.result a3.names)) in
    let n5 : c.again.new.self.names ≡ env ++ after = c.in_ok-again-in-Initial.ensures.names ∙ (c.in_ok-is_same-in-Initial.ensures.names ∙ ap (λ l. l ++ after) front) in
    c.in_ok-end_turns-in-Initial.ensures.names
    ∙ (c.truncate-in-Initial.ensures ∙ (ap₂ (λ q w. take q w) c.len-around.ensures n5 ∙ take-front env after))
