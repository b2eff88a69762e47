use Rattle.std.proofs.Common.{◌∙◌, ap, bytes_eq, vec_items}
use Rattle.std.specs.List.{list_any}
use Rattle.unit_entry.proofs.KnownNames.{any_keys}
use Rattle.unit_entry.proofs.lacking.Names.has.Goals as goal

pub returns : goal.returns
returns c =
    c.contains.ensures
    ∙ any_keys vec_items c.args.text.now c.self.inside.set.keys
    ∙ ap (list_any (λ n. bytes_eq n c.args.text.now)) c.self.view_is
