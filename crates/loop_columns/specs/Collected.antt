-- What a loop of turns collects besides the values of its loop names, and where the values of its clauses are collected (SISAL
-- Language Reference Manual 1.2, `for initial`; IF1 manual M-170, LoopA, LoopB).
use Rattle.std.specs.Prelude.{◌≡◌, ℕ, ◌+◌, Bool, true, false, List, [], ◌∷◌, ◌++◌, map, length, get_or, Option, Some, None}
use Rattle.flow_value.specs.declared.operation.Scalar1.TheVariants as unary
use Rattle.flow_value.specs.declared.value.Val.{Val}
use Rattle.value_ops.specs.Operations.{op_value}
use Rattle.value_ops.specs.declared.operation.Operation.TheVariants as operation
use Rattle.typed_tree.specs.declared.expr.ClauseForm.{ClauseForm}
use Rattle.meaning.specs.Words.{value_at}
use Rattle.graph_meaning.specs.Carried.{Carried, Value, Unfilled}
use Rattle.graph_meaning.specs.Forms.{columns}
use Rattle.lowering.specs.Loops.{Phrase, unless_places, loop_name, extras, collected}
use Rattle.loop_columns.specs.Clauses.{spans, shown}
use Rattle.loop_columns.specs.Turns.{fulls}

abbrev pub beside : Option ℕ → Val → List Val → List Val
beside None v vs = v ∷ vs
beside (Some x) v vs = vs

-- the values of a row that are no loop names, and the Not of each that is a mask of `unless`
abbrev pub besides_of : (Option ℕ → Option ℕ) → List Bool → List Phrase → List Val → List Val
besides_of loop bs [] row = []
besides_of loop [] (p ∷ ps) row = []
besides_of loop (b ∷ bs) (p ∷ ps) [] = []
besides_of loop (true ∷ bs) (p ∷ ps) (v ∷ row) = op_value (operation.Unary unary.Not) (v ∷ []) ∷ besides_of loop bs ps row
besides_of loop (false ∷ bs) (p ∷ ps) (v ∷ row) = beside (loop p.name) v (besides_of loop bs ps row)

-- a phrase that is a name has its value
abbrev pub HasName : Option ℕ → List Val → Val → Type 0
HasName None names v = Unit {0}
HasName (Some x) names v = value_at names x ≡ v

abbrev pub AreNamed : List Phrase → List Val → List Val → Type 0
AreNamed [] names [] = Unit {0}
AreNamed (p ∷ ps) names (v ∷ row) = HasName p.name names v × AreNamed ps names row
AreNamed _ names _ = ⊥

-- so many loop names around which these are the names, and for each list of their values the row of the clauses
abbrev pub AreRowsOf : List Val → ℕ → List Phrase → List (List Val) → List (List Val) → Type 0
AreRowsOf env count ps [] [] = Unit {0}
AreRowsOf env count ps (l ∷ ls) (row ∷ rows) = (length l ≡ count) × AreNamed ps (env ++ l) row × AreRowsOf env count ps ls rows
AreRowsOf env count ps _ _ = ⊥

module _ (env : List Val) (count : ℕ) (cs : List ClauseForm) (ps : List Phrase) where
  -- the places of the loop names among those in force
  abbrev pub loop : Option ℕ → Option ℕ
  loop = loop_name (length env) count

  abbrev pub besides : List Val → List Val
  besides = besides_of loop (unless_places cs) ps

  -- the length of a list of loop values
  abbrev pub wide : ℕ
  wide = count + length (extras loop (unless_places cs) ps)

  -- what stands at these places among the multiples of all lists of loop values
  abbrev pub at_places : List ℕ → List (List Val) → List (List Val) → List Carried
  at_places places ls rows = map (λ x. get_or (columns wide (map (map Value) (fulls besides ls rows))) x Unfilled) places

  -- lists of loop values are of one length, and the clauses' values are collected at their places
  pub record IsCollected : Type 0 where
    pub long : (l row : List Val) → length l ≡ count → AreNamed ps (env ++ l) row → length (l ++ besides row) ≡ wide
    pub columns_at : (ls rows : List (List Val)) → AreRowsOf env count ps ls rows → at_places (collected loop count (unless_places cs) ps) ls rows ≡ columns (spans cs) (map (shown cs) rows)

-- where each clause has one phrase for its value and one for its mask
abbrev pub AreCollected : Type 0
AreCollected = (env : List Val) (count : ℕ) (cs : List ClauseForm) (ps : List Phrase) → spans cs ≡ length ps → IsCollected env count cs ps
