-- The functions of a unit by their names.
use Rattle.std.proofs.Common.{◌≡◌, ℕ, ◌+◌, ◌<◌, take, if◌then◌else◌, List, [], ◌∷◌, ◌++◌, length, get_or, bytes_eq, Option, Some, None, option_map, sym, ap, ◌∙◌}
use Rattle.std.proofs.lemmas.List.{take_more}
use Rattle.if1_graph.specs.declared.graph.Graph.{Graph}
use Rattle.if1_graph.specs.declared.graph.Graph.TheViews.{out-Graph}
use Rattle.if1_graph.specs.Formed.{function_named}
use Rattle.if1_graph.specs.Tables.{or_else}
use Rattle.if1_ports.proofs.Tables.{find_push, if_map, or_else_map}
use Rattle.node_works.specs.declared.functions.Callee.{Callee}
use Rattle.node_works.specs.Tables.{callee_named, callee_of}

-- with one function more
pub named-more : (gs : List Graph) (i : ℕ) (g : Graph) → i < length gs → g ≡ get_or gs i g → (text : List ℕ) (old new : Option Callee) → old ≡ callee_named (take i gs) text
    → new ≡ or_else old (if bytes_eq (out-Graph g).name text then Some (callee_of g) else None) → new ≡ callee_named (take (i + 1) gs) text
named-more gs i g h is text old new was e =
    let more : take (i + 1) gs ≡ take i gs ++ g ∷ [] = take_more gs i g h ∙ ap (λ x. take i gs ++ x ∷ []) (sym is) in
    e
    ∙ ap (λ m. or_else m (if bytes_eq (out-Graph g).name text then Some (callee_of g) else None)) was
    ∙ ap (or_else (callee_named (take i gs) text)) (if_map callee_of (bytes_eq (out-Graph g).name text) g)
    ∙ or_else_map callee_of (function_named (take i gs) text) (if bytes_eq (out-Graph g).name text then Some g else None)
    ∙ ap (option_map callee_of) (sym (find_push (λ g. bytes_eq (out-Graph g).name text) (take i gs) g))
    ∙ ap (λ gs. callee_named gs text) (sym more)
