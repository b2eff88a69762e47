use Rattle.node_works.proofs.tables.types_of.Goals as goal

pub outlines_of-requires-clause-numbers : goal.outlines_of-requires-clause-numbers
outlines_of-requires-clause-numbers c =
    let s = c.in_ok-sorts.ensures in
    record { labels = s.labels; sorts = s.numbers; stand = s.stand; once = s.once; read = s.read; keys = s.keys }
