use Rattle.if1_typing.proofs.given.given_of.Goals as goal

pub returns : goal.returns
returns c = record { callees = c.in_ok-callees.ensures; sound = c.in_ok-map.ensures.sound; seen = c.in_ok-map.ensures.seen }
