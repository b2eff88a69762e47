use Rattle.std.proofs.Common.{◌∙◌, ap, bytes_eq, vec_items, map, ◌||◌}
use Rattle.std.specs.List.{list_any}
use Rattle.unit_entry.proofs.KnownNames.{has_inserted}
use Rattle.unit_entry.proofs.lacking.Names.add.Goals as goal

pub returns : goal.returns
returns c = λ t.
    ap (λ ks. list_any (λ n. bytes_eq n t) (map vec_items ks)) c.in_ok-insert.ensures.keys
    ∙ has_inserted vec_items c.into_vec.result c.self.inside.set.keys t
    ∙ ap (λ ns. list_any (λ n. bytes_eq n t) ns || bytes_eq (vec_items c.into_vec.result) t) c.self.view_is
    ∙ ap (λ v. list_any (λ n. bytes_eq n t) c.args.self.now || bytes_eq v t) c.into_vec.ensures
