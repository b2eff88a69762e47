use Rattle.std.proofs.Common.{rules, ◌<◌, length}
use Rattle.name_scope.proofs.Chains.{ends}
use Rattle.name_scope.proofs.Scope.end_newest.Goals as goal

pub index_mut-requires : goal.index_mut-requires
index_mut-requires g c =
    let fits : c.in-Some.entry.name < length c.self.inside.newest.items = (ends _ _ _ _ c.in-Some.ensures.items c.self.invariant).fits in search rules

pub invariant_of-self : goal.invariant_of-self
invariant_of-self g c = (ends _ _ _ _ c.in-Some.ensures.items c.self.invariant).indexed
