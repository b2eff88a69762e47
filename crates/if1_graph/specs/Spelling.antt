-- The one spelling of a line: one blank between parts, pragmas in the order na, tk, bf (M-170, text form).
use Rattle.std.specs.Prelude.{◌≡◌, ℕ, ◌^◌, ◌<◌, ◌≤◌, Bool, true, false, ◌&&◌, not, ◌==◌, nat_lt, nat_le, IsTrue, List, [], ◌∷◌, ◌++◌, map, Option, Some, None, codes, decimal, if◌then◌else◌}
use Rattle.std.specs.List.{list_all}
use Rattle.if1_graph.specs.LineParts.{is_line_byte, Part, Word, Quoted, Broken}
use Rattle.if1_graph.specs.Entries.{entry_form}
use Rattle.if1_graph.specs.declared.line.EntryForm.{EntryForm}
use Rattle.if1_graph.specs.declared.line.EntryForm.TheVariants as form
use Rattle.if1_graph.specs.declared.line.Line.{Line}
use Rattle.if1_graph.specs.declared.line.Line.TheVariants as line

abbrev pub number : ℕ → Part
number n = Word (decimal n)

-- decimals with commas, 44, between them
abbrev pub after_commas : List ℕ → List ℕ
after_commas [] = []
after_commas (n ∷ ns) = 44 ∷ decimal n ++ after_commas ns

abbrev pub commas : List ℕ → List ℕ
commas [] = []
commas (n ∷ ns) = decimal n ++ after_commas ns

-- the pragmas for a name, a mark and a list that say something
abbrev pub name_part : List ℕ → List Part
name_part [] = []
name_part (c ∷ name) = Word (codes "%na=" ++ c ∷ name) ∷ []

abbrev pub take_part : Bool → List Part
take_part true = Word (codes "%tk=1") ∷ []
take_part false = []

abbrev pub before_part : List ℕ → List Part
before_part [] = []
before_part (n ∷ ns) = Word (codes "%bf=" ++ commas (n ∷ ns)) ∷ []

abbrev pub node_pragmas : List ℕ → List ℕ → List Part
node_pragmas name before = name_part name ++ before_part before

-- the numbers of a row of the table of types behind its code
abbrev pub entry_parts : Option EntryForm → ℕ → ℕ → List Part
entry_parts (Some form.OneLabel) first second = number first ∷ []
entry_parts (Some form.Basic) first second = number first ∷ []
entry_parts (Some form.Member) first second = number first ∷ number second ∷ []
entry_parts (Some form.Function) first second = number first ∷ number second ∷ []
entry_parts None first second = number first ∷ []

-- X and G
abbrev pub function_letter : Bool → ℕ
function_letter exported = if exported then 88 else 71

-- the parts of a line; those of a `{` line come at once
abbrev pub line_parts : Line → List Part
line_parts line.Blank = []
line_parts (line.Entry label code first second name) = Word (codes "T") ∷ number label ∷ number code ∷ entry_parts (entry_form code) first second ++ name_part name
line_parts (line.Node label op before name) = Word (codes "N") ∷ number label ∷ number op ∷ node_pragmas name before
line_parts (line.Edge source out node port ty takes name) = Word (codes "E") ∷ number source ∷ number out ∷ number node ∷ number port ∷ number ty ∷ name_part name ++ take_part takes
line_parts (line.Literal node port ty text name) = Word (codes "L") ∷ number node ∷ number port ∷ number ty ∷ Quoted text ∷ name_part name
line_parts (line.Function exported fun name) = Word (function_letter exported ∷ []) ∷ number fun ∷ Quoted name ∷ []
line_parts (line.Subgraph name) = Word (codes "G") ∷ number 0 ∷ name_part name
line_parts (line.Import ty name) = Word (codes "I") ∷ number ty ∷ Quoted name ∷ []
line_parts (line.Open rest) = Word (123 ∷ rest) ∷ []
line_parts (line.Close label op count assoc before name) = Word (codes "}") ∷ number label ∷ number op ∷ number count ∷ map number assoc ++ node_pragmas name before

-- quotes, 34, stand around a text
abbrev pub part_text : Part → List ℕ
part_text (Word w) = w
part_text (Quoted t) = 34 ∷ t ++ 34 ∷ []
part_text Broken = []

-- each part behind a blank
abbrev pub after_blanks : List Part → List ℕ
after_blanks [] = []
after_blanks (p ∷ ps) = 32 ∷ part_text p ++ after_blanks ps

abbrev pub spaced : List Part → List ℕ
spaced [] = []
spaced (p ∷ ps) = part_text p ++ after_blanks ps

-- without the line feed that ends it
abbrev pub line_text : Line → List ℕ
line_text l = spaced (line_parts l)

-- the brace of a compound node is followed by a word, its label and its opcode, which say nothing
abbrev pub compound_words : ℕ → ℕ → List ℕ
compound_words label op = codes " Compound " ++ decimal label ++ 32 ∷ decimal op

abbrev pub opening : ℕ → ℕ → Line
opening label op = line.Open (compound_words label op)

-- the lines, each with the line feed, 10, that ends it
abbrev pub text_of : List Line → List ℕ
text_of [] = []
text_of (l ∷ ls) = line_text l ++ 10 ∷ text_of ls

-- ---- the lines that have a spelling

abbrev pub IsNumber : ℕ → Type 0
IsNumber n = n < 2 ^ 32

abbrev pub IsLabel : ℕ → Type 0
IsLabel n = (1 ≤ n) × (n < 2 ^ 32)

-- a name in a pragma has printed characters, 33 to 126
abbrev pub is_visible : ℕ → Bool
is_visible c = nat_le 33 c && nat_le c 126

abbrev pub IsName : List ℕ → Type 0
IsName name = IsTrue (list_all is_visible name)

-- a text in quotes has none within
abbrev pub is_quotable : ℕ → Bool
is_quotable c = is_line_byte c && not (c == 34)

abbrev pub IsQuotable : List ℕ → Type 0
IsQuotable text = IsTrue (list_all is_quotable text)

abbrev pub are_numbers : List ℕ → Bool
are_numbers ns = list_all (λ n. nat_lt n (2 ^ 32)) ns

-- each above this one and the one before it
abbrev pub rises_from : ℕ → List ℕ → Bool
rises_from n [] = true
rises_from n (m ∷ ms) = nat_lt n m && rises_from m ms

-- labels of nodes, each once, rising
abbrev pub AreBefore : List ℕ → Type 0
AreBefore ns = IsTrue (are_numbers ns && rises_from 0 ns)

abbrev pub AreEntryNumbers : Option EntryForm → ℕ → ℕ → Type 0
AreEntryNumbers (Some form.OneLabel) first second = IsLabel first × (second ≡ 0)
AreEntryNumbers (Some form.Basic) first second = (first ≤ 6) × (second ≡ 0)
AreEntryNumbers (Some form.Member) first second = IsLabel first × IsNumber second
AreEntryNumbers (Some form.Function) first second = IsNumber first × IsLabel second
AreEntryNumbers None first second = ⊥

-- what is said of the numbers and texts of a line that is read
abbrev pub IsSpelled : Line → Type 0
IsSpelled line.Blank = Unit {0}
IsSpelled (line.Entry label code first second name) = IsLabel label × IsNumber code × AreEntryNumbers (entry_form code) first second × IsName name
IsSpelled (line.Node label op before name) = IsLabel label × IsNumber op × AreBefore before × IsName name
IsSpelled (line.Edge source out node port ty takes name) = IsNumber source × IsLabel out × IsNumber node × IsLabel port × IsLabel ty × IsName name
IsSpelled (line.Literal node port ty text name) = IsNumber node × IsLabel port × IsLabel ty × IsQuotable text × IsName name
IsSpelled (line.Function exported fun name) = IsLabel fun × IsQuotable name
IsSpelled (line.Subgraph name) = IsName name
IsSpelled (line.Import ty name) = IsLabel ty × IsQuotable name
IsSpelled (line.Open rest) = IsTrue (list_all is_line_byte rest)
IsSpelled (line.Close label op count assoc before name) = IsLabel label × IsNumber op × IsNumber count × IsTrue (are_numbers assoc) × AreBefore before × IsName name
