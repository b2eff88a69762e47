-- The lines of the statuses, which the sink of errors takes.
use Rattle.std.specs.Prelude.{◌≤◌, ℕ, List, [], ◌∷◌, ◌++◌, take, length, codes, decimal, Option, Result, Ok, Err}
use Rattle.flow_io.specs.Bytes.{AddsOn}
use Rattle.flow_io.specs.declared.failed.Failed.{Failed}
use Rattle.sisal_top.specs.declared.status.Status.{Status}
use Rattle.sisal_top.specs.declared.status.Status.TheVariants as status
use Rattle.sisal_top.specs.declared.status.CallFault.{CallFault}
use Rattle.sisal_top.specs.declared.status.CallFault.TheVariants as call
use Rattle.sisal_top.specs.declared.status.SyntaxFault.{SyntaxFault}
use Rattle.sisal_top.specs.declared.status.SyntaxFault.TheVariants as syntax
use Rattle.sisal_top.specs.declared.status.TextFault.{TextFault}
use Rattle.sisal_top.specs.declared.status.TextFault.TheVariants as text
use Rattle.sisal_top.specs.declared.status.UnitFault.{UnitFault}
use Rattle.sisal_top.specs.declared.status.UnitFault.TheVariants as unit
use Rattle.sisal_top.specs.declared.status.UsageFault.{UsageFault}
use Rattle.sisal_top.specs.declared.status.UsageFault.TheVariants as usage

-- words and a line feed; words, a number and a line feed; and words and a number twice
abbrev pub plain_line : List ℕ → List ℕ
plain_line words = words ++ 10 ∷ []

abbrev pub numbered_line : List ℕ → ℕ → List ℕ
numbered_line words n = words ++ (decimal n ++ 10 ∷ [])

abbrev pub placed_line : List ℕ → ℕ → List ℕ → ℕ → List ℕ
placed_line words n between m = words ++ (decimal n ++ numbered_line between m)

abbrev pub usage_line : UsageFault → List ℕ
usage_line (usage.Unknown k) = numbered_line (codes "sisal: usage 2 word ") k
usage_line (usage.Repeated k) = numbered_line (codes "sisal: usage 3 word ") k
usage_line (usage.NotANumber k) = numbered_line (codes "sisal: usage 4 word ") k
usage_line (usage.OutOfRange k) = numbered_line (codes "sisal: usage 5 word ") k
usage_line usage.Missing = plain_line (codes "sisal: usage 1")

abbrev pub syntax_line : SyntaxFault → List ℕ
syntax_line (syntax.BadByte l) = numbered_line (codes "sisal: syntax lex 1 line ") l
syntax_line (syntax.NumberTooWide l) = numbered_line (codes "sisal: syntax lex 2 line ") l
syntax_line (syntax.OpenText l) = numbered_line (codes "sisal: syntax lex 3 line ") l
syntax_line (syntax.Token t l) = placed_line (codes "sisal: syntax token ") t (codes " line ") l
syntax_line (syntax.TooDeep l) = numbered_line (codes "sisal: syntax depth line ") l

abbrev pub value_line : ℕ → TextFault → List ℕ
value_line a (text.BadSpelling b) = placed_line (codes "sisal: argument ") a (codes " value 1 byte ") b
value_line a (text.WrongShape b) = placed_line (codes "sisal: argument ") a (codes " value 2 byte ") b
value_line a text.TooLarge = placed_line (codes "sisal: argument ") a (codes " value ") 3

abbrev pub argument_line : CallFault → List ℕ
argument_line call.Entry = plain_line (codes "sisal: argument entry")
argument_line (call.Count w g) = placed_line (codes "sisal: argument count wanted ") w (codes " given ") g
argument_line (call.Value a f) = value_line a f

-- a node by its graph, its port, and the node that reads what the port takes
abbrev pub node_line : ℕ → ℕ → ℕ → List ℕ
node_line n p r = (codes " node " ++ decimal n) ++ placed_line (codes " port ") p (codes " reader ") r

abbrev pub marks_line : ℕ → ℕ → ℕ → ℕ → List ℕ
marks_line g n p r = (codes "sisal: if1 8 graph " ++ decimal g) ++ node_line n p r

abbrev pub if1_line : UnitFault → List ℕ
if1_line (unit.BadLine l) = numbered_line (codes "sisal: if1 1 line ") l
if1_line (unit.Unknown l) = numbered_line (codes "sisal: if1 2 line ") l
if1_line (unit.Real l) = numbered_line (codes "sisal: if1 3 line ") l
if1_line unit.Unclosed = plain_line (codes "sisal: if1 4")
if1_line (unit.Cycle g n) = placed_line (codes "sisal: if1 5 graph ") g (codes " node ") n
if1_line (unit.Ports g n) = placed_line (codes "sisal: if1 6 graph ") g (codes " node ") n
if1_line (unit.TypeOf g n) = placed_line (codes "sisal: if1 7 graph ") g (codes " node ") n
if1_line (unit.Marks g n p r) = marks_line g n p r
if1_line (unit.TooMany l) = numbered_line (codes "sisal: if1 9 line ") l

-- what is written to the sink of errors: nothing where all is done
abbrev pub line_of : Status → List ℕ
line_of (status.Usage f) = usage_line f
line_of status.ReadFault = plain_line (codes "sisal: read fault")
line_of status.WriteFault = plain_line (codes "sisal: write fault")
line_of status.NoMemory = plain_line (codes "sisal: no memory")
line_of (status.Syntax f) = syntax_line f
line_of (status.Typing r l) = placed_line (codes "sisal: type rule ") r (codes " line ") l
line_of (status.If1 f) = if1_line f
line_of (status.Argument f) = argument_line f
line_of status.TurnLimit = plain_line (codes "sisal: turn limit")
line_of status.TooLong = plain_line (codes "sisal: text too long")
line_of status.Later = plain_line (codes "sisal: not built yet")
line_of (status.Unlinked name) = codes "sisal: unlinked " ++ plain_line name
line_of status.Done = []

-- A sink took these bytes, or a prefix of them before a write failed.
abbrev pub Takes : Result (Unit {0}) Failed → Option (List ℕ) → List ℕ → Option (List ℕ) → Type 0
Takes (Ok u) before bytes after = AddsOn before bytes after
Takes (Err e) before bytes after = (n : ℕ) × (n ≤ length bytes) × AddsOn before (take n bytes) after
