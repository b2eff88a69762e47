use Rattle.std.proofs.Common.{◌≡◌, ◌≤◌, map, max, drop}
use Rattle.type_table.specs.Forms.{deepest}
use Rattle.type_table.specs.Tables.{depths}
use Rattle.type_table.proofs.store.Store.deepest.Given as goal

abbrev pub invariant-loop-member : goal.invariant-loop-member
invariant-loop-member l =
    (max l.most (deepest (depths l.self) (map (λ m. m.ty) (drop l.member-index l.members))) ≡ deepest (depths l.self) (map (λ m. m.ty) l.members)) × (l.most ≤ 64)
