use Rattle.source_meaning.proofs.slots.add_slots.Goals as goal

pub returns-in-Many : goal.returns-in-Many
returns-in-Many c = rw c.in-Many.is c.add_each.ensures
