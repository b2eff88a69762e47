-- Programs, lowered: the table of types, the graphs of functions that another text has, their numbers and labels.
use Rattle.std.proofs.Common.{◌≡◌, ℕ, refl, ◌++◌, map, List, [], ◌∷◌, None}
use Rattle.std.specs.Prelude.{codes}
use Rattle.if1_graph.specs.declared.op.Simple.TheVariants as simple
use Rattle.typed_tree.specs.Operation.TheVariants as operation
use Rattle.typed_tree.specs.Folding.TheVariants as folding
use Rattle.typed_tree.specs.declared.expr.Source.TheVariants as source
use Rattle.typed_tree.specs.declared.expr.TypedKind.TheOpen.{TypedKind-F}
use Rattle.lowering.specs.declared.feed.Carried.TheVariants.{One, Callee}
use Rattle.typed_tree.specs.declared.program.Function.{Function}
use Rattle.typed_tree.specs.declared.program.Program.{Program}
use Rattle.lowering.specs.Loops.{Phrase}
use Rattle.lowering.specs.Programs.{graphs, number_of}
use Rattle.lowering.specs.Types.{Entry, entry, basics, function_label, with_types, table, label_of, header_label}
use Rattle.lowering.specs.TooMany.{too_many}
use Rattle.lowering.proofs.Words.{arms, by, forms, out, value, int, truth, row, graph, clause, at, num, name, var, apply, lines_of}

-- ---- the table of types, for the lines of a function of (n: integer; u: U returns R, A):
--     record [x: n; y: 1; t: for i in 1, n returns array of tagcase u tag p: i otherwise: 0 end tagcase end for], array A []
abbrev typed_text : List Phrase
typed_text =
    apply operation.Record (var 0 ∷ num 1 ∷ at (TypedKind-F.Product (record { sources = (source.Range ∷ []); clauses = (clause folding.Array ∷ []) })
    (num 1 ∷ var 0 ∷ []) []
    (at (TypedKind-F.Case (arms 0 (by 0 0 ∷ []) 1) (name 1 8 ∷ []) ((var 2 ∷ []) ∷ (num 0 ∷ []) ∷ [])) (2 ∷ []) ∷ [])) (5 ∷ []) ∷ []) 9
    ∷ apply operation.EmptyArray [] 5
    ∷ []

-- ---- programs, here of functions that another text has

abbrev names : List (List ℕ)
names = codes "p" ∷ codes "q" ∷ codes "w" ∷ codes "z" ∷ codes "x" ∷ codes "y" ∷ codes "t" ∷ codes "f" ∷ codes "g" ∷ []

abbrev function : ℕ → ℕ → List ℕ → List ℕ → Function
function line name params results = record { line = line; name = name; parameters = []; params = params; results = results; body = None }

abbrev line : ℕ → ℕ → ℕ → Entry
line code first second = entry code first second []

-- the types of a function enter before those of its lines; each type stands once, behind its parts, and the members of a list stand
-- from the last to the first
the_table : with_types forms names [] (lines_of (2 ∷ 8 ∷ []) typed_text) (function_label forms names (function 3 7 (2 ∷ 8 ∷ []) (9 ∷ 5 ∷ [])) basics).table ≡
    basics
    ++ (entry 7 3 0 (codes "z") ∷ entry 7 4 5 (codes "w") ∷ entry 7 1 6 (codes "q") ∷ entry 7 3 7 (codes "p") ∷ line 9 8 0 ∷ line 8 9 0 ∷ line 8 3 10
    ∷ line 0 3 0 ∷ line 8 12 0 ∷ entry 2 12 0 (codes "t") ∷ entry 2 3 14 (codes "y") ∷ entry 2 3 15 (codes "x") ∷ line 5 16 0 ∷ line 8 17 13 ∷ line 3 11 18
    ∷ line 4 3 0 ∷ [])
the_table = refl

-- two functions of another text, of (integer returns array[integer], integer) and of (returns boolean)
abbrev stubs : Program
stubs = record { names = names; types = forms; functions = function 2 7 (2 ∷ []) (5 ∷ 2 ∷ []) ∷ function 4 8 [] (0 ∷ []) ∷ []; defines = [] }

the_stubs : graphs stubs ≡
    graph (row simple.Error [] ∷ row simple.Error [] ∷ []) (value 5 (out 1 1) ∷ int (out 2 1) ∷ [])
    ∷ graph (row simple.Error [] ∷ []) (truth (out 1 1) ∷ []) ∷ []
the_stubs = refl

their_numbers : map (number_of stubs) (0 ∷ 1 ∷ []) ≡ 1 ∷ 2 ∷ []
their_numbers = refl

-- headers come first
their_table : table stubs ≡ basics ++ (line 8 3 0 ∷ line 0 3 0 ∷ line 8 6 5 ∷ line 3 5 7 ∷ line 8 1 0 ∷ line 3 0 9 ∷ [])
their_table = refl

their_labels : (header_label stubs (function 4 8 [] (0 ∷ [])) ∷ map (label_of stubs) (One 5 ∷ One 0 ∷ Callee 0 ∷ []) ≡ 10 ∷ 6 ∷ 1 ∷ 8 ∷ []) × (too_many stubs ≡ None)
their_labels = (refl, refl)
