use Rattle.std.proofs.Common.{◌≡◌, ◌∙◌, ◌++◌, ◌∷◌, [], List, Bool, true, false, ap, sym, if◌then◌else◌}
use Rattle.std.proofs.lemmas.Result.{on_ok_weaker}
use Rattle.lowering.specs.declared.feed.Feed.TheVariants.{Port}
use Rattle.lowering.specs.declared.feed.Wire.{Wire}
use Rattle.lowering.specs.Feeds.{wire, has}
use Rattle.lowered_data.proofs.Keying.{Key, found, missed}
use Rattle.lowered_data.proofs.keys.Keys.add.Goals as goal

pub insert-requires : goal.insert-requires
insert-requires c =
    let v : Key = (c.args.up, c.args.node, c.args.port) in
    ap (λ (ks : List Wire). has ks (Port v.0 v.1 v.2)) (sym c.self.view_is) ∙ (missed v c.self.inside.ports.entries c.in-None.ensures.index).1

pub returns-in-Some : goal.returns-in-Some
returns-in-Some c =
    let v : Key = (c.args.up, c.args.node, c.args.port) in
    let f = Port v.0 v.1 v.2 in
    let there : has c.args.self.now f ≡ true =
    ap (λ (ks : List Wire). has ks f) (sym c.self.view_is) ∙ (found v c.self.inside.ports.entries c.in-Some.field-0 c.in-Some.ensures.index).1 in
    ap (λ (b : Bool). if b then c.args.self.now else c.args.self.now ++ wire f c.args.ty ∷ []) (sym there)

pub returns-in-None : goal.returns-in-None
returns-in-None c =
    let v : Key = (c.args.up, c.args.node, c.args.port) in
    let f = Port v.0 v.1 v.2 in
    let absent : has c.args.self.now f ≡ false =
    ap (λ (ks : List Wire). has ks f) (sym c.self.view_is) ∙ (missed v c.self.inside.ports.entries c.in-None.ensures.index).1 in
    on_ok_weaker c.insert.result (λ e. e ∙ ap (λ (b : Bool). if b then c.args.self.now else c.args.self.now ++ wire f c.args.ty ∷ []) (sym absent)) c.insert.ensures
