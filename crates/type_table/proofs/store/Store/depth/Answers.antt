use Rattle.std.proofs.Common.{◌≡◌, sym, ap, ◌∙◌, subst, slice_get, None, Some}
use Rattle.std.specs.Option.{option_map}
use Rattle.type_table.specs.Tables.{depths}
use Rattle.type_table.proofs.Stores.{depth_place, depth_small}
use Rattle.type_table.proofs.store.Store.depth.Goals as goal

pub returns-in-Some-clause-small : goal.returns-in-Some-clause-small
returns-in-Some-clause-small c = depth_small c.self.invariant c.args.number _ (sym c.in-Some.ensures.entry)

pub returns-in-None-clause-value : goal.returns-in-None-clause-value
returns-in-None-clause-value c =
    ap (option_map (λ e. e.1.depth)) c.in-None.ensures.entry ∙ depth_place c.self.invariant c.args.number ∙ ap (λ fs. slice_get (depths fs) c.args.number) c.self.view_is
