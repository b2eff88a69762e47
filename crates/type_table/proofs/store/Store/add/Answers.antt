use Rattle.std.proofs.Common.{◌≡◌, ◌∙◌, vec_items}
use Rattle.type_table.proofs.Stores.{IsMore, kept_after}
use Rattle.type_table.specs.declared.store.Known.{Known}
use Rattle.type_table.proofs.store.Store.add.Goals as goal

more : (c : goal.Joined-branch-3) → IsMore vec_items c.insert.new.self.entries c.note.new.places c.args.self.now c.args.form
more c =
    let known : Known = record { form = c.args.form; depth = c.args.depth } in
    kept_after vec_items c.self.inside.forms.entries c.insert.new.self.entries c.self.inside.places c.note.new.places c.args.self.now c.len-number.result c.members_of.result.now c.args.key known
    c.self.invariant c.self.view_is c.len-number.ensures.len c.members_of.ensures
    c.requires.keyed c.requires.deep c.requires.shallow c.requires.absent c.requires.parts c.requires.members
    c.in_ok-note.ensures.here c.note.ensures.others c.in_ok-insert.ensures.entries

pub invariant_of-self-2 : goal.invariant_of-self-2
invariant_of-self-2 c = (more c).kept

pub returns-clause-ok : goal.returns-clause-ok
returns-clause-ok c = (more c).forms
