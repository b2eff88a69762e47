use Rattle.std.proofs.Common.{◌≡◌, ◌∙◌, ◌∷◌, [], ℕ, List, map, ap, subst}
use Rattle.std.specs.Prelude.{IfOk}
use Rattle.if1_graph.specs.declared.op.Compound.{Compound}
use Rattle.typed_tree.specs.declared.expr.ClauseForm.{ClauseForm}
use Rattle.lowering.specs.declared.feed.Carried.{Carried}
use Rattle.lowering.specs.declared.feed.Wire.{Wire}
use Rattle.lowering.specs.Graphs.{Lowering, whole}
use Rattle.lowering.specs.Operations.{one, wire_at}
use Rattle.lowering.specs.Loops.{Wired, many, own_inputs, loop_kind, returns_lowered}
use Rattle.lowered_data.specs.declared.made.Made.{Made}
use Rattle.lowered_data.specs.States.{IsMade, AreParts, new_parts, places_in}
use Rattle.lower_nodes.specs.Placing.{IsPlaced}
use Rattle.lower_exprs.proofs.Initials.{loop_made}
use Rattle.lower_exprs.proofs.turns.loop_node.Goals as goal

pub returns : goal.returns
returns c = λ before b d f g h tys env p q r.
    let ts = c.args.types.now in
    let t = c.args.turns.now in
    let x = c.args.first.now in
    let e = c.args.made.now in
    let m = c.returns_part.new.made in
    let w = c.whole.new.self in
    let last = c.in_ok-last.last in
    let places = c.args.places.now in
    let spans : c.as_slice-multiples.result.now ≡ map (wire_at (own_inputs 1 (map many x.carried))) places =
    c.as_slice-multiples.ensures ∙ c.in_ok-spans.ensures ∙ ap (λ (k : List Carried). map (wire_at (own_inputs 1 (map many k))) places) c.as_slice-lasting.ensures in
    let s0 : IsPlaced (returns_lowered (Wired c.one.result) c.as_slice-clauses.result.now c.as_slice-multiples.result.now ts) e m last = c.in_ok-last.ensures in
    let s : IsPlaced (returns_lowered (Wired one) t.clauses (map (wire_at (own_inputs 1 (map many x.carried))) places) ts) e m last =
    subst (λ (u : Wire). IsPlaced (returns_lowered (Wired u) t.clauses (map (wire_at (own_inputs 1 (map many x.carried))) places) ts) e m last) c.one.ensures
    (subst (λ (cs : List ClauseForm). IsPlaced (returns_lowered (Wired c.one.result) cs (map (wire_at (own_inputs 1 (map many x.carried))) places) ts) e m last) c.as_slice-clauses.ensures
    (subst (λ (us : List Wire). IsPlaced (returns_lowered (Wired c.one.result) c.as_slice-clauses.result.now us ts) e m last) spans s0)) in
    let go = λ (start : Made) (fs : List Lowering) (u : AreParts fs start m) (v : x.place ∷ c.args.test.now.place ∷ c.args.turn.now.place ∷ last.place ∷ [] ≡ places_in start fs).
    subst (λ (k : Compound). IfOk c.whole.result (λ (ws : List Wire). IsMade (whole k (new_parts start fs) (0 ∷ 1 ∷ 2 ∷ 3 ∷ []) 0 ts) start w ws)) c.loop_kind-compound.ensures
    (subst (λ (l : List ℕ). IfOk c.whole.result (λ (ws : List Wire). IsMade (whole c.loop_kind-compound.result (new_parts start fs) l 0 ts) start w ws)) c.in_ok-arms.ensures
    (c.whole.ensures start fs u v)) in
    loop_made c.whole.result (loop_kind t.is_first) f g h tys places t.clauses ts env before b d e m w x c.args.test.now c.args.turn.now last p q r s go
