use Rattle.std.proofs.Common.{◌≡◌, sym, subst}
use Rattle.if1_graph.specs.Types.{Plain}
use Rattle.if1_types.specs.Forms.{IsTy, IsSort}
use Rattle.if1_types.proofs.numbered.Sorts.type_of.Goals as goal

pub returns-in-Value-clause-of : goal.returns-in-Value-clause-of
returns-in-Value-clause-of c = λ ts t n e.
    let ks = c.args.self.now.shapes in
    let r = c.in-Value.ensures.of (Plain t) (subst (λ k. IsSort ks k (Plain t)) (sym c.number.ensures) (n.stand c.args.label (Plain t) e)) in
    let same : t ≡ r.0 = cc in
    subst (IsTy ks c.in-Value.ty) (sym same) r.2

pub returns-in-Multiple-clause-of : goal.returns-in-Multiple-clause-of
returns-in-Multiple-clause-of c = λ ts t n e.
    let ks = c.args.self.now.shapes in
    let r = c.in-Multiple.ensures.of (Plain t) (subst (λ k. IsSort ks k (Plain t)) (sym c.number.ensures) (n.stand c.args.label (Plain t) e)) in
    absurd cc

pub returns-in-Function-clause-of : goal.returns-in-Function-clause-of
returns-in-Function-clause-of c = λ ts t n e.
    let ks = c.args.self.now.shapes in
    let r = c.in-Function.ensures.of (Plain t) (subst (λ k. IsSort ks k (Plain t)) (sym c.number.ensures) (n.stand c.args.label (Plain t) e)) in
    absurd cc

pub returns-in-Nothing-clause-of : goal.returns-in-Nothing-clause-of
returns-in-Nothing-clause-of c = λ ts t n e.
    let ks = c.args.self.now.shapes in
    absurd (c.in-Nothing.ensures.of (Plain t) (subst (λ k. IsSort ks k (Plain t)) (sym c.number.ensures) (n.stand c.args.label (Plain t) e)))
