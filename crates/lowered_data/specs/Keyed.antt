-- Ports as they are kept.
use Rattle.std.specs.Prelude.{ℕ}
use Rattle.lowering.specs.declared.feed.Feed.TheVariants.{Port}
use Rattle.lowering.specs.declared.feed.Carried.{Carried}
use Rattle.lowering.specs.declared.feed.Wire.{Wire}
use Rattle.lowering.specs.Feeds.{wire}

-- the wire of a port, and what it carries
abbrev pub keyed : ((ℕ × ℕ × ℕ) × Carried) → Wire
keyed e = wire (Port e.0.0 e.0.1 e.0.2) e.1
