use Rattle.std.proofs.Common.{◌∙◌, List, ℕ, ap, map, length}
use Rattle.lowered_data.specs.Scopes.{scopes, entered, seen}
use Rattle.lowered_data.proofs.Levels.{entered_is}
use Rattle.lowered_data.proofs.names.Names.enter.Goals as goal

pub returns : goal.returns
returns c =
    let ws = c.self.inside.wires in
    let ms = c.self.inside.marks in
    ap (λ (k : List ℕ). scopes (map (seen (length k)) ws) k) c.in_ok-add.ensures.ok
    ∙ entered_is ws ms c.len.result c.self.invariant c.len.ensures
    ∙ ap entered c.self.view_is
