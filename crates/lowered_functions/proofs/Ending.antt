-- The graph of one function.
use Rattle.std.proofs.Common.{◌≡◌, ◌∙◌, ℕ, suc, ◌+◌, List, [], ◌∷◌, ◌++◌, map, refl, ap, ap₂, arith}
use Rattle.type_table.specs.declared.form.Form.{Form}
use Rattle.typed_tree.specs.declared.expr.TypedExpr.{TypedExpr}
use Rattle.lowering.specs.declared.feed.Wire.{Wire}
use Rattle.lowering.specs.Graphs.{Lowering, new_graph}
use Rattle.lowering.specs.Operations.{Lowers}
use Rattle.lowering.specs.Phrases.{each, lowers}
use Rattle.lowered_data.specs.declared.made.Made.{Made}
use Rattle.lowered_data.specs.States.{made, IsMade, lowered_in}
use Rattle.lower_nodes.proofs.Walks.{Going, with_values}
use Rattle.lower_exprs.specs.Phrased.{phrases}
use Rattle.lowered_functions.specs.Ends.{lowered_of}

pub phrases-are : (forms : List Form) (es : List TypedExpr) → each (phrases forms es) ≡ map (lowers forms) es
phrases-are forms [] = refl
phrases-are forms (e ∷ es) = ap (λ (l : List Lowers). lowers forms e ∷ l) (phrases-are forms es)

-- nothing is made yet
pub begun-with : (f : Lowering) (a : Made) (vs : List Wire) → vs ≡ [] → Going f f a a vs
begun-with f a vs e = record { goes = λ after ws p. with_values f a after (vs ++ ws) ws (ap (λ k. k ++ ws) e) p }

-- what began with no node is the graph
pub begun-with-none : (f : Lowering) (q : ℕ) (b : Made) (ws : List Wire) → IsMade f (made (q + 1) [] [] []) b ws → lowered_of b ws ≡ new_graph f q
begun-with-none f q b ws p =
    let a = made (q + 1) [] [] [] in
    let m = lowered_in a f in
    let first : q + 1 + 0 ≡ suc q = omega arith in
    let same : m ≡ new_graph f q = ap (f 0) first in
    ap₂ lowered_of p.after_is p.values_are ∙ same
