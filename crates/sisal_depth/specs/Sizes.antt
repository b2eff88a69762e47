-- How deep the expressions of values nest, told from the steps of a derivation. Numbers above 201
-- count as 201.
use Rattle.std.specs.Prelude.{ℕ, ◌+◌, min, max, List, [], ◌∷◌, take, drop, length, get_or, if◌then◌else◌, nat_lt}
use Rattle.pushdown.specs.declared.Step.{Step}
use Rattle.pushdown.specs.declared.Step.TheVariants.{Read, Open}
use Rattle.sisal_lex.specs.declared.token.Token.{Token}
use Rattle.sisal_lex.specs.declared.token.Kind.TheVariants as kind
use Rattle.sisal_grammar.specs.declared.action.Action.{Action}
use Rattle.sisal_grammar.specs.declared.action.Action.TheVariants as action
use Rattle.sisal_grammar.specs.Sorts.{args}
use Rattle.sisal_grammar.specs.Plan.{plan}
use Rattle.sisal_depth.specs.declared.sizes.Growth.{Growth}

abbrev pub capped : ℕ → ℕ
capped n = min n 201

-- `adds`: how many operators or selectors these are, each of which makes what stands before them one
-- deeper; `along`: the depth that they have with nothing before them; `least`: the depth of the
-- deepest expression; `line`: the line on which it begins
abbrev pub growth : ℕ → ℕ → ℕ → ℕ → Growth
growth adds along least line = record { adds = capped adds; along = capped along; least = capped least; line = line }

abbrev pub no_growth : Growth
no_growth = growth 0 0 0 0

-- something whose deepest expression is so deep
abbrev pub flat : ℕ → Growth
flat n = growth 0 0 n 0

-- an expression so deep that begins on a line
abbrev pub on_line : ℕ → ℕ → Growth
on_line n l = growth 0 0 n l

-- the depth of the deepest of these
abbrev pub deepest : List Growth → ℕ
deepest [] = 0
deepest (x ∷ xs) = max x.least (deepest xs)

abbrev pub at : ℕ → List Growth → Growth
at n z = get_or z n no_growth

-- the line of the deeper one, of the first where they are as deep
abbrev pub deeper_line : Growth → Growth → ℕ
deeper_line x y = if nat_lt x.least y.least then y.line else x.line

-- an operator with its right operand, or a selector with its expression, before others
abbrev pub link : Growth → Growth → Growth
link x rest = growth (rest.adds + 1) (max (x.least + rest.adds + 1) rest.along) 0 0

-- what follows an operand, before others
abbrev pub both : Growth → Growth → Growth
both x rest = growth (x.adds + rest.adds) (max (x.along + rest.adds) rest.along) 0 0

-- an expression before others
abbrev pub listed : Growth → Growth → Growth
listed x rest = growth (rest.adds + 1) (max (x.least + rest.adds + 1) rest.along) (max x.least rest.least) (deeper_line x rest)

-- an item of a unit before others
abbrev pub deeper : Growth → Growth → Growth
deeper x rest = growth 0 0 (max x.least rest.least) (deeper_line x rest)

-- an operand with what follows it
abbrev pub followed : Growth → Growth → Growth
followed x rest = on_line (max (x.least + rest.adds) rest.along) x.line

-- an expression of these parts, which begins with the first of them
abbrev pub around : List Growth → Growth
around z = on_line (deepest z + 1) (at 0 z).line

-- an operand with its selectors and then the operators of each of six ranks
abbrev pub through : Growth → Growth → Growth → Growth → Growth → Growth → Growth → Growth → Growth
through x a b c d e f g = followed (followed (followed (followed (followed (followed (followed x a) b) c) d) e) f) g

-- the size of what an action gives, by the sizes of what it takes
abbrev pub grown : Action → List Growth → Growth
grown action.Whole z = at 4 z
grown action.MoreItems z = deeper (at 0 z) (at 1 z)
grown action.Defined z = at 2 z
grown action.Exprs z = listed (at 0 z) (at 1 z)
grown action.MoreExprs z = listed (at 1 z) (at 2 z)
grown action.SameExprs z = at 0 z
grown action.Chain z = followed (at 0 z) (at 1 z)
grown action.MoreTail z = link (at 1 z) (at 2 z)
grown action.OneTail z = link (at 1 z) no_growth
grown action.Prefix z = around z
grown action.SameExpr z = at 0 z
grown action.Posted z = followed (at 0 z) (at 1 z)
grown action.MorePosts z = both (at 0 z) (at 1 z)
grown action.Bracket z = link (at 1 z) (at 2 z)
grown action.Dot z = growth 1 0 0 0
grown action.Replaced z = growth 1 (deepest z + 1) 0 0
grown action.MoreBracket z = listed (at 1 z) (at 2 z)
grown action.ColonBracket z = growth 0 ((at 1 z).least + 1) 0 0
grown action.NameOrCall z = around z
grown action.Literal z = around z
grown action.Old z = around z
grown action.Convert z = around z
grown action.Group z = around z
grown action.ErrorOf z = around z
grown action.Is z = around z
grown action.Array z = around z
grown action.Stream z = around z
grown action.Record z = around z
grown action.Union z = on_line ((at 4 z).along + 1) (at 0 z).line
grown action.Let z = around z
grown action.If z = around z
grown action.Case z = around z
grown action.For z = on_line (at 1 z).least (at 0 z).line
grown action.NoExpr z = growth 0 1 0 0
grown action.SomeExpr z = growth 0 (at 1 z).least (at 1 z).least 0
grown action.ElseIf z = listed (around z) no_growth
grown action.Else z = at 1 z
grown action.Rest z = through (on_line ((at 0 z).least + 1) 0) (at 1 z) (at 2 z) (at 3 z) (at 4 z) (at 5 z) (at 6 z) (at 7 z)
grown action.Product z = flat (deepest z + (at 1 z).adds + 1)
grown action.Initial z = flat (deepest z + 1)
grown action.MoreGroups z = growth ((at 2 z).adds + 1) 0 (deepest z) 0
grown _ z = flat (deepest z)

-- what stands for a token where there is none
abbrev pub no_token : Token
no_token = record { kind = kind.Letter 0; line = 0 }

-- the size of a token
abbrev pub token_size : Token → Growth
token_size t = on_line 0 t.line

-- the sizes of the values of these steps, whose tokens these are
abbrev pub sizes_of : List Step → List Token → List Growth
sizes_of [] ts = []
sizes_of (Read ∷ es) [] = []
sizes_of (Read ∷ es) (t ∷ ts) = token_size t ∷ sizes_of es ts
sizes_of (Open p ∷ es) ts = grown (plan.action p) (take (length (args (plan.action p))) (sizes_of es ts)) ∷ drop (length (args (plan.action p))) (sizes_of es ts)
