use Rattle.std.proofs.Common.{◌∙◌, List, ap, sym, map, length}
use Rattle.std.proofs.lemmas.List.{take-map}
use Rattle.lowering.specs.declared.feed.Wire.{Wire}
use Rattle.lowered_data.specs.Scopes.{scopes, first_names, seen}
use Rattle.lowered_data.proofs.names.Names.truncate.Goals as goal

pub returns : goal.returns
returns c =
    let ms = c.self.inside.marks in
    ap (λ (k : List Wire). scopes (map (seen (length ms)) k) ms) c.truncate.ensures
    ∙ ap (λ (h : List Wire). scopes h ms) (sym (take-map (seen (length ms)) c.args.names c.self.inside.wires))
    ∙ ap (first_names c.args.names) c.self.view_is
