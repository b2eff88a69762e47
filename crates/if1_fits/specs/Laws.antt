-- What the test decides.
use Rattle.std.specs.Prelude.{ℕ, List, Option, Decides}
use Rattle.if1_graph.specs.declared.op.Reducer.{Reducer}
use Rattle.if1_graph.specs.declared.row.Want.{Want}
use Rattle.if1_graph.specs.Types.{Sort}
use Rattle.if1_graph.specs.Typing.{Known, Fits}
use Rattle.if1_types.specs.Shapes.{Key}
use Rattle.if1_types.specs.Forms.{IsSort, AreOnce, AreRead}
use Rattle.if1_fits.specs.Tests.{IsKnown, fits_at}

-- where numbers stand for what the ports carry and for the function that is called, a type is one that the table wants exactly where the
-- test of its number says so
abbrev pub FitsDecides : Type 0
FitsDecides =
    (ks : List Key) (k : Known) (at : ℕ → ℕ) (callee : ℕ) (named : Option Reducer) → AreOnce ks → AreRead ks → IsKnown ks k at callee named
    → (want : Want) (n : ℕ) (s : Sort) → IsSort ks n s → Decides (fits_at ks at callee named want n) (Fits k want s)
