use Rattle.std.proofs.Common.{sym}
use Rattle.sisal_top.proofs.lines.write_syntax.Goals as goal

pub returns-in-BadByte-clause-takes : goal.returns-in-BadByte-clause-takes
returns-in-BadByte-clause-takes g c = rw (c.in-BadByte.is, sym c.from.ensures) c.write_numbered.ensures.takes

pub returns-in-NumberTooWide-clause-takes : goal.returns-in-NumberTooWide-clause-takes
returns-in-NumberTooWide-clause-takes g c = rw (c.in-NumberTooWide.is, sym c.from-in-NumberTooWide.ensures) c.write_numbered-in-NumberTooWide.ensures.takes

pub returns-in-OpenText-clause-takes : goal.returns-in-OpenText-clause-takes
returns-in-OpenText-clause-takes g c = rw (c.in-OpenText.is, sym c.from-in-OpenText.ensures) c.write_numbered-in-OpenText.ensures.takes

pub returns-in-Token-clause-takes : goal.returns-in-Token-clause-takes
returns-in-Token-clause-takes g c = rw (c.in-Token.is, sym c.from-in-Token.ensures, sym c.from-in-Token-2.ensures) c.write_placed.ensures.takes

pub returns-in-TooDeep-clause-takes : goal.returns-in-TooDeep-clause-takes
returns-in-TooDeep-clause-takes g c = rw (c.in-TooDeep.is, sym c.from-in-TooDeep.ensures) c.write_numbered-in-TooDeep.ensures.takes
