use Rattle.std.proofs.Common.{◌≡◌, ◌∙◌, ◌+◌, ◌∷◌, [], ℕ, suc, List, length, map, ap, ap₂, subst, arith}
use Rattle.std.specs.Prelude.{IfOk}
use Rattle.if1_graph.specs.declared.op.Compound.TheVariants as compound
use Rattle.typed_tree.specs.declared.expr.ClauseForm.{ClauseForm}
use Rattle.lowering.specs.declared.feed.Carried.{Carried}
use Rattle.lowering.specs.declared.feed.Wire.{Wire}
use Rattle.lowering.specs.Feeds.{into}
use Rattle.lowering.specs.Graphs.{Lowering, whole}
use Rattle.lowering.specs.Loops.{Bound, many, own_inputs, returns_lowered, bound_of}
use Rattle.lowered_data.specs.declared.made.Made.{Made}
use Rattle.lowered_data.specs.States.{IsMade, AreParts, new_parts, places_in}
use Rattle.lower_nodes.specs.Bounds.{plain}
use Rattle.lower_nodes.specs.Placing.{IsPlaced}
use Rattle.lower_exprs.proofs.Forks.{forall_made}
use Rattle.lower_exprs.proofs.foralls.forall_node.Goals as goal

pub returns : goal.returns
returns c = λ before b body ws env inner p q.
    let forms = c.args.forms.now in
    let ts = c.args.types.now in
    let x = c.args.product.now in
    let g = c.args.first.now in
    let r = c.args.second.now in
    let e = c.args.made.now in
    let m = c.returns_part.new.made in
    let w = c.whole.new.self in
    let k = c.in_ok-third.third in
    let step : length c.as_slice-elements.result.now + 1 ≡ suc (length g.carried) = let l = ap (λ (k : List Carried). length k) c.as_slice-elements.ensures in omega (arith, l) in
    let spans : c.as_slice-spans.result.now ≡ own_inputs (suc (length g.carried)) (map many r.carried) =
    c.as_slice-spans.ensures ∙ c.in_ok-multiples.ensures ∙ ap₂ (λ n (k : List Carried). own_inputs n (map many k)) step c.as_slice-columns.ensures in
    let bound : plain c.in_ok-bound.bound ≡ bound_of forms x.sources (map into ws) = c.in_ok-bound.ensures ∙ ap₂ (bound_of forms) c.as_slice-sources.ensures inner in
    let s : IsPlaced (returns_lowered (bound_of forms x.sources (map into ws)) x.clauses (own_inputs (suc (length g.carried)) (map many r.carried)) ts) e m k =
    subst (λ (y : Bound). IsPlaced (returns_lowered y x.clauses (own_inputs (suc (length g.carried)) (map many r.carried)) ts) e m k) bound
    (subst (λ (cs : List ClauseForm). IsPlaced (returns_lowered (plain c.in_ok-bound.bound) cs (own_inputs (suc (length g.carried)) (map many r.carried)) ts) e m k) c.as_slice-clauses.ensures
    (subst (λ (us : List Wire). IsPlaced (returns_lowered (plain c.in_ok-bound.bound) c.as_slice-clauses.result.now us ts) e m k) spans c.in_ok-third.ensures)) in
    let count : length c.as_slice-columns.result.now ≡ length r.carried = ap (λ (k : List Carried). length k) c.as_slice-columns.ensures in
    let all = λ (start : Made) (fs : List Lowering) (u : AreParts fs start m) (v : g.place ∷ r.place ∷ k.place ∷ [] ≡ places_in start fs).
    subst (λ (n : ℕ). IfOk c.whole.result (λ (us : List Wire). IsMade (whole compound.ForAll (new_parts start fs) (0 ∷ 1 ∷ 2 ∷ []) n ts) start w us)) count
    (subst (λ (l : List ℕ). IfOk c.whole.result (λ (us : List Wire). IsMade (whole compound.ForAll (new_parts start fs) l (length c.as_slice-columns.result.now) ts) start w us)) c.in_ok-arms.ensures
    (c.whole.ensures start fs u v)) in
    forall_made c.whole.result forms x.sources x.clauses body ts ws env before b e m w g r k p q s all
