-- The first of faults: that of the first line, and of several in one line that of the least number.
use Rattle.std.specs.Prelude.{ℕ, Bool, ◌&&◌, ◌||◌, ◌==◌, nat_lt, List, [], ◌∷◌, Option, Some, None, if◌then◌else◌}
use Rattle.if1_graph.specs.declared.fault.If1Fault.{If1Fault}
use Rattle.if1_graph.specs.declared.fault.If1Fault.TheVariants as refusal
use Rattle.if1_read.specs.declared.fault.Kind.{Kind}
use Rattle.if1_read.specs.declared.fault.Kind.TheVariants.{Bad, Unknown, Real, TooMany}
use Rattle.if1_read.specs.declared.fault.Fault.{Fault}
use Rattle.if1_read.specs.Faults.{rank}

abbrev pub is_before : Fault → Fault → Bool
is_before a b = nat_lt a.line b.line || ((a.line == b.line) && nat_lt (rank a.kind) (rank b.kind))

abbrev pub earlier_of : Fault → Fault → Fault
earlier_of a b = if is_before b a then b else a

abbrev pub earlier : Option Fault → Option Fault → Option Fault
earlier None o = o
earlier (Some a) None = Some a
earlier (Some a) (Some b) = Some (earlier_of a b)

abbrev pub least : List Fault → Option Fault
least [] = None
least (f ∷ fs) = earlier (Some f) (least fs)

-- what is wrong with a line, if anything
abbrev pub found : ℕ → Option Kind → Option Fault
found n None = None
found n (Some k) = Some (record { line = n; kind = k })

abbrev pub noted : ℕ → Option Kind → List Fault
noted n None = []
noted n (Some k) = record { line = n; kind = k } ∷ []

-- the refusal for a fault
abbrev pub refusal_at : ℕ → Kind → If1Fault
refusal_at n Bad = refusal.BadLine n
refusal_at n Unknown = refusal.Unknown n
refusal_at n Real = refusal.Real n
refusal_at n TooMany = refusal.TooMany n

abbrev pub refusal_of : Fault → If1Fault
refusal_of f = refusal_at f.line f.kind
