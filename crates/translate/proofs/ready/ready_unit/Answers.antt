use Rattle.translate.proofs.ready.ready_unit.Goals as goal

pub numbered-requires-clause-ready : goal.numbered-requires-clause-ready
numbered-requires-clause-ready c =
    c.translated_units_are_ready.ensures c.args.program.now c.in_ok-unit.unit c.requires.fits c.requires.covered c.requires.within c.in_ok-unit.ensures

pub numbered-requires-clause-normal : goal.numbered-requires-clause-normal
numbered-requires-clause-normal c = c.translated_units_are_normal.ensures c.args.program.now c.in_ok-unit.unit c.requires.fits c.in_ok-unit.ensures
