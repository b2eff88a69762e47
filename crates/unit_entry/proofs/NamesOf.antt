-- Names that stand for the functions which other units have.
use Rattle.std.proofs.Common.{◌≡◌, ◌∙◌, ap, refl, ℕ, Bool, ◌&&◌, not, List, [], ◌∷◌, Some, cond, bytes_eq, option_map}
use Rattle.std.specs.List.{find, list_any}
use Rattle.if1_graph.specs.declared.graph.Graph.{Graph}
use Rattle.if1_graph.specs.declared.graph.Graph.TheViews.{out-Graph}
use Rattle.if1_graph.specs.declared.graph.Unit1.{Unit1}
use Rattle.unit_entry.specs.Entries.{first_lacking, is_imported, is_lacking, is_of}

find_same : (f g : Graph → Bool) → ((x : Graph) → f x ≡ g x) → (xs : List Graph) → find f xs ≡ find g xs
find_same f g same [] = refl
find_same f g same (x ∷ xs) = ap (λ b. cond b (Some x) (find f xs)) (same x) ∙ ap (λ o. cond (g x) (Some x) o) (find_same f g same xs)

pub lacks : (u : Unit1) (names : List (List ℕ)) → ((t : List ℕ) → list_any (λ n. bytes_eq n t) names ≡ is_imported u.imports t)
    → option_map (λ g. (out-Graph g).name) (find (is_of names) u.graphs) ≡ first_lacking u
lacks u names known =
    ap (option_map (λ g. (out-Graph g).name)) (find_same (is_of names) (is_lacking u) (λ g. ap (λ b. not (out-Graph g).exported && b) (known (out-Graph g).name)) u.graphs)
