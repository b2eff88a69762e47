use Rattle.std.proofs.Common.{◌≡◌, suc, ◌-◌, ap, ◌∙◌, sym, arith}
use Rattle.std.specs.Map.{keys_of}
use Rattle.if1_types.specs.Shapes.{trees_in, tree_at, members_in}
use Rattle.if1_types.proofs.shapes.Shapes.members.Goals as goal

pub returns-in-Some : goal.returns-in-Some
returns-in-Some c =
    let es = c.self.inside.keys.entries in
    let place : suc (c.args.number - 1) ≡ c.args.number = omega (arith, c.if-number-eq0.false) in
    c.self.invariant.counted (c.args.number - 1) (c.in-Some.field-0-0.now, c.in-Some.members.now) (sym c.in-Some.ensures.entry)
    ∙ ap (λ n. members_in (tree_at (trees_in (keys_of es)) n)) place
    ∙ ap (λ ks. members_in (tree_at (trees_in ks) c.args.number)) c.self.view_is
