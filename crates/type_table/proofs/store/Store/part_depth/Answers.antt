use Rattle.std.proofs.Common.{◌≡◌, sym, ap, ◌∙◌}
use Rattle.std.specs.Option.{unwrap_or}
use Rattle.std.proofs.lemmas.Option.{unwrap_or-slice_get}
use Rattle.type_table.specs.Tables.{depths}
use Rattle.type_table.proofs.store.Store.part_depth.Goals as goal

pub returns-in-None-clause-value : goal.returns-in-None-clause-value
returns-in-None-clause-value c = ap (λ o. unwrap_or o 0) c.in-None.ensures.value ∙ unwrap_or-slice_get (depths c.args.self.now) c.args.ty 0
