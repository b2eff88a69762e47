use Rattle.std.proofs.Common.{◌≡◌, sym, ap, ◌∙◌, position}
use Rattle.type_table.specs.Keys.{has_key}
use Rattle.type_table.proofs.Stores.{key_place}
use Rattle.type_table.proofs.store.Store.place.Goals as goal

pub returns : goal.returns
returns c = c.get_index_of.ensures.index ∙ key_place c.self.invariant c.args.key.now.items ∙ ap (position (has_key c.args.key.now.items)) c.self.view_is
