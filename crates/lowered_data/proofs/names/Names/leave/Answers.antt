use Rattle.std.proofs.Common.{◌∙◌, List, ap, sym, map, length, subst, All}
use Rattle.lowering.specs.declared.feed.Wire.{Wire}
use Rattle.lowered_data.specs.Scopes.{scopes, seen, IsAround}
use Rattle.lowered_data.proofs.Levels.{left_is}
use Rattle.lowered_data.proofs.names.Names.leave.Goals as goal

pub invariant_of-self : goal.invariant_of-self
invariant_of-self c =
    let p = c.requires in
    let l = left_is c.self.inside.wires c.self.inside.marks c.pop.new.self c.in-Some.names p.before p.more c.self.invariant (c.self.view_is ∙ p.is) c.in-Some.ensures in
    subst (λ (ws : List Wire). All (λ w. IsAround (length c.pop.new.self) w.feed) ws) (sym c.truncate.ensures) l.stand

pub returns-in-Some : goal.returns-in-Some
returns-in-Some c = λ before more is.
    let l = left_is c.self.inside.wires c.self.inside.marks c.pop.new.self c.in-Some.names before more c.self.invariant (c.self.view_is ∙ is) c.in-Some.ensures in
    ap (λ (ws : List Wire). scopes (map (seen (length c.pop.new.self)) ws) c.pop.new.self) c.truncate.ensures ∙ l.names
