-- The numbers of the statuses, and the statuses of other crates' faults.
use Rattle.std.specs.Prelude.{ℕ}
use Rattle.if1_graph.specs.declared.fault.If1Fault.{If1Fault}
use Rattle.if1_graph.specs.declared.fault.If1Fault.TheVariants as if1
use Rattle.mean_call.specs.declared.fault.ArgumentFault.{ArgumentFault}
use Rattle.mean_call.specs.declared.fault.ArgumentFault.TheVariants as argument
use Rattle.mean_call.specs.declared.fault.Refusal.{Refusal}
use Rattle.mean_call.specs.declared.fault.Refusal.TheVariants as refusal
use Rattle.run_words.specs.declared.fault.WordFault.{WordFault}
use Rattle.run_words.specs.declared.fault.WordFault.TheVariants as word
use Rattle.sisal_lex.specs.declared.fault.LexFault.{LexFault}
use Rattle.sisal_lex.specs.declared.fault.LexFault.TheVariants as lexer
use Rattle.sisal_parse.specs.declared.fault.ParseFault.{ParseFault}
use Rattle.sisal_parse.specs.declared.fault.ParseFault.TheVariants as parser
use Rattle.type_rules.specs.declared.fault.TypeFault.{TypeFault}
use Rattle.type_rules.specs.declared.fault.TypeFault.TheVariants as checker
use Rattle.compile_call.specs.TranslateFault.{TranslateFault}
use Rattle.compile_call.specs.TranslateFault.TheVariants as translator
use Rattle.value_text.specs.declared.fault.ValueFault.{ValueFault}
use Rattle.value_text.specs.declared.fault.ValueFault.TheVariants as value
use Rattle.sisal_top.specs.declared.status.Status.{Status}
use Rattle.sisal_top.specs.declared.status.Status.TheVariants as status
use Rattle.sisal_top.specs.declared.status.CallFault.{CallFault}
use Rattle.sisal_top.specs.declared.status.CallFault.TheVariants as call
use Rattle.sisal_top.specs.declared.status.SyntaxFault.TheVariants as syntax
use Rattle.sisal_top.specs.declared.status.TextFault.{TextFault}
use Rattle.sisal_top.specs.declared.status.TextFault.TheVariants as text
use Rattle.sisal_top.specs.declared.status.UnitFault.{UnitFault}
use Rattle.sisal_top.specs.declared.status.UnitFault.TheVariants as unit
use Rattle.sisal_top.specs.declared.status.UsageFault.{UsageFault}
use Rattle.sisal_top.specs.declared.status.UsageFault.TheVariants as usage

abbrev pub code_of : Status → ℕ
code_of status.Done = 0
code_of (status.Usage f) = 1
code_of status.ReadFault = 2
code_of status.WriteFault = 3
code_of status.NoMemory = 4
code_of (status.Syntax f) = 5
code_of (status.Typing r l) = 6
code_of (status.If1 f) = 7
code_of (status.Argument f) = 8
code_of status.TurnLimit = 9
code_of status.TooLong = 10
code_of status.Later = 11
code_of (status.Unlinked name) = 12

-- the status of a fault of the words, of the lexer, of the parser, of the checker and of a call
abbrev pub of_words : WordFault → Status
of_words word.NoMemory = status.NoMemory
of_words word.Missing = status.Usage usage.Missing
of_words (word.Unknown k) = status.Usage (usage.Unknown k)
of_words (word.Repeated k) = status.Usage (usage.Repeated k)
of_words (word.NotANumber k) = status.Usage (usage.NotANumber k)
of_words (word.OutOfRange k) = status.Usage (usage.OutOfRange k)

abbrev pub of_lexer : LexFault → Status
of_lexer (lexer.BadByte l) = status.Syntax (syntax.BadByte l)
of_lexer (lexer.NumberTooWide l) = status.Syntax (syntax.NumberTooWide l)
of_lexer (lexer.OpenText l) = status.Syntax (syntax.OpenText l)
of_lexer lexer.TooLong = status.TooLong
of_lexer lexer.NoMemory = status.NoMemory

abbrev pub of_parser : ParseFault → Status
of_parser (parser.Syntax t l) = status.Syntax (syntax.Token t l)
of_parser (parser.TooDeep l) = status.Syntax (syntax.TooDeep l)
of_parser parser.NoMemory = status.NoMemory

abbrev pub of_checker : TypeFault → Status
of_checker (checker.Rule r l) = status.Typing r l
of_checker checker.NoMemory = status.NoMemory

abbrev pub of_translator : TranslateFault → Status
of_translator (translator.TooMany l) = status.Typing 24 l
of_translator translator.NoMemory = status.NoMemory

abbrev pub of_value : ℕ → ValueFault → Status
of_value k (value.BadSpelling b) = status.Argument (call.Value k (text.BadSpelling b))
of_value k (value.WrongShape b) = status.Argument (call.Value k (text.WrongShape b))
of_value k value.TooLarge = status.Argument (call.Value k text.TooLarge)
of_value k value.NoMemory = status.NoMemory

abbrev pub of_argument : ArgumentFault → Status
of_argument argument.Entry = status.Argument call.Entry
of_argument (argument.Count wanted given) = status.Argument (call.Count wanted given)
of_argument (argument.Value k f) = of_value k f

abbrev pub of_refusal : Refusal → Status
of_refusal (refusal.Unlinked name) = status.Unlinked name
of_refusal (refusal.Argument f) = of_argument f
of_refusal refusal.TurnLimit = status.TurnLimit
of_refusal refusal.NoMemory = status.NoMemory

-- the status of a fault of an IF1 text
abbrev pub of_unit : If1Fault → Status
of_unit if1.NoMemory = status.NoMemory
of_unit (if1.BadLine l) = status.If1 (unit.BadLine l)
of_unit (if1.Unknown l) = status.If1 (unit.Unknown l)
of_unit (if1.Real l) = status.If1 (unit.Real l)
of_unit if1.Unclosed = status.If1 unit.Unclosed
of_unit (if1.Cycle g n) = status.If1 (unit.Cycle g n)
of_unit (if1.Ports g n) = status.If1 (unit.Ports g n)
of_unit (if1.TypeOf g n) = status.If1 (unit.TypeOf g n)
of_unit (if1.Marks g n p r) = status.If1 (unit.Marks g n p r)
of_unit (if1.TooMany l) = status.If1 (unit.TooMany l)

-- ---- the faults of other crates that a status carries, none of which is want of memory

abbrev pub word_fault : UsageFault → WordFault
word_fault usage.Missing = word.Missing
word_fault (usage.Unknown k) = word.Unknown k
word_fault (usage.Repeated k) = word.Repeated k
word_fault (usage.NotANumber k) = word.NotANumber k
word_fault (usage.OutOfRange k) = word.OutOfRange k

abbrev pub value_fault : TextFault → ValueFault
value_fault (text.BadSpelling b) = value.BadSpelling b
value_fault (text.WrongShape b) = value.WrongShape b
value_fault text.TooLarge = value.TooLarge

abbrev pub argument_fault : CallFault → ArgumentFault
argument_fault call.Entry = argument.Entry
argument_fault (call.Count wanted given) = argument.Count wanted given
argument_fault (call.Value k f) = argument.Value k (value_fault f)

abbrev pub if1_fault : UnitFault → If1Fault
if1_fault (unit.BadLine l) = if1.BadLine l
if1_fault (unit.Unknown l) = if1.Unknown l
if1_fault (unit.Real l) = if1.Real l
if1_fault unit.Unclosed = if1.Unclosed
if1_fault (unit.Cycle g n) = if1.Cycle g n
if1_fault (unit.Ports g n) = if1.Ports g n
if1_fault (unit.TypeOf g n) = if1.TypeOf g n
if1_fault (unit.Marks g n p r) = if1.Marks g n p r
if1_fault (unit.TooMany l) = if1.TooMany l
