-- The canonical text of a valid unit in normal order is read as the unit.
use Rattle.std.proofs.Common.{◌≡◌, ℕ, suc, ◌≤◌, Bool, true, false, List, [], ◌∷◌, ◌++◌, map, get_or, Some, refl, sym, ap, subst, ◌∙◌, append_assoc, append-nil, arith}
use Rattle.std.specs.Prelude.{All, filter, ◌==◌}
use Rattle.std.specs.List.{flat_map}
use Rattle.std.proofs.lemmas.List.Elements.{All-nil, All-cons, All-head, All-tail, All-append, All-map, filter-append}
use Rattle.if1_graph.specs.declared.line.Line.{Line}
use Rattle.if1_graph.specs.declared.line.Line.TheVariants as line
use Rattle.if1_graph.specs.Reading.{line_of}
use Rattle.if1_graph.specs.Spelling.{IsSpelled}
use Rattle.if1_graph.proofs.Endings.{text_lines, all_read}
use Rattle.if1_graph.specs.declared.graph.Graph.{Graph}
use Rattle.if1_graph.specs.declared.graph.Graph.TheViews.{out-Graph}
use Rattle.if1_graph.specs.declared.graph.TypeEntry.{TypeEntry}
use Rattle.if1_graph.specs.declared.graph.Unit1.{Unit1}
use Rattle.if1_graph.specs.Units.{levels, most_levels, ends, Function, Place, each_from, places_of, places}
use Rattle.if1_graph.specs.Formed.{IsImport, IsGraph}
use Rattle.if1_graph.specs.Normal.{IsNormalGraph}
use Rattle.if1_graph.specs.Ports.{ArePortsRight}
use Rattle.if1_graph.specs.Lines.{body, entry_line, import_line, function_lines, lines_of}
use Rattle.if1_graph.specs.Reads.{entries_in, is_of_graph, GivesUnit, no_graph, import, function, deepest}
use Rattle.if1_write.specs.Laws.{WrittenIsRead}
use Rattle.if1_write.proofs.Alls.{all_left, all_right, all_joined, all_pass}
use Rattle.if1_write.proofs.Depths.{Shallow, shallow_both, shallow_parts, shallow_flat, shallow_map, shallow_all}
use Rattle.if1_write.proofs.Spelled.{Good, function_good, import_good, entry_spelled}
use Rattle.if1_write.proofs.Gives.{Given}
use Rattle.if1_write.proofs.Walk.{Sound, here_of, walk}

abbrev header : Graph → Line
header g = line.Function (out-Graph g).exported (out-Graph g).fun (out-Graph g).name

record FunctionGiven (u : Unit1) (m : ℕ) (g : Graph) : Type 0 where
  given : Given u m g
  good : Good (header g)

functions_given : (u : Unit1) (m k : ℕ) (gs : List Graph) → All (λ g. levels g ≤ m) gs → All (Sound u) (each_from (λ k g. places_of m (Function k) g) k gs) →
    All (FunctionGiven u m) gs
functions_given u m k [] low h = All-nil (FunctionGiven u m)
functions_given u m k (g ∷ gs) low h =
    let rest = each_from (λ k g. places_of m (Function k) g) (suc k) gs in
    let here = all_left (Sound u) (places_of m (Function k) g) rest h in
    All-cons (FunctionGiven u m) g gs
    (record {
      given = walk u m (Function k) g (All-head (λ g. levels g ≤ m) g gs low) here;
      good = function_good u g k (here_of (Sound u) m (Function k) g here).formed.header;
    })
    (functions_given u m (suc k) gs (All-tail (λ g. levels g ≤ m) g gs low) (all_right (Sound u) (places_of m (Function k) g) rest h))

functions_give : (u : Unit1) (m : ℕ) (gs : List Graph) → All (FunctionGiven u m) gs → GivesUnit u (flat_map function_lines gs) [] gs
functions_give u m [] h = no_graph
functions_give u m (g ∷ gs) h =
    let here = (All-head (FunctionGiven u m) g gs h).given in
    function g here.gives here.same (functions_give u m gs (All-tail (FunctionGiven u m) g gs h))

imports_give : (u : Unit1) (is : List (ℕ × List ℕ)) (ls : List Line) (gs : List Graph) → GivesUnit u ls [] gs → GivesUnit u (map import_line is ++ ls) is gs
imports_give u [] ls gs h = h
imports_give u (i ∷ is) ls gs h = import i.0 i.1 (imports_give u is ls gs h)

function_lines_good : (u : Unit1) (m : ℕ) (g : Graph) → FunctionGiven u m g → All Good (function_lines g)
function_lines_good u m g h = All-cons Good (header g) (body g).1 h.good h.given.good

-- ---- the lines of a unit

abbrev types : Unit1 → List Line
types u = map entry_line u.types

abbrev rest : Unit1 → List Line
rest u = map import_line u.imports ++ flat_map function_lines u.graphs

in_two : (u : Unit1) → lines_of u ≡ types u ++ rest u
in_two u = append_assoc (types u) (map import_line u.imports) (flat_map function_lines u.graphs)

entries_first : (ts : List TypeEntry) (ls : List Line) → entries_in (map entry_line ts ++ ls) ≡ ts ++ entries_in ls
entries_first [] ls = refl
entries_first (t ∷ ts) ls = ap (λ es. t ∷ es) (entries_first ts ls)

no_entry : (l : Line) (ls : List Line) → is_of_graph l ≡ true → entries_in (l ∷ ls) ≡ entries_in ls
no_entry (line.Entry label code first second name) ls h = absurd cc
no_entry _ ls h = refl

no_entries : (ls : List Line) → All (λ l. is_of_graph l ≡ true) ls → entries_in ls ≡ []
no_entries [] h = refl
no_entries (l ∷ ls) h =
    no_entry l ls (All-head (λ l. is_of_graph l ≡ true) l ls h) ∙ no_entries ls (All-tail (λ l. is_of_graph l ≡ true) l ls h)

no_types : (ts : List TypeEntry) → filter is_of_graph (map entry_line ts) ≡ []
no_types [] = refl
no_types (t ∷ ts) = no_types ts

module _ (u : Unit1) (good : All Good (rest u)) where
  of_graphs : All (λ l. is_of_graph l ≡ true) (rest u)
  of_graphs k d i = (good k d i).0

  table : entries_in (lines_of u) ≡ u.types
  table = ap entries_in (in_two u) ∙ entries_first u.types (rest u) ∙ ap (λ t. u.types ++ t) (no_entries (rest u) of_graphs) ∙ append-nil u.types

  remaining : filter is_of_graph (lines_of u) ≡ rest u
  remaining =
      ap (filter is_of_graph) (in_two u)
      ∙ filter-append is_of_graph (types u) (rest u)
      ∙ ap (λ t. t ++ filter is_of_graph (rest u)) (no_types u.types)
      ∙ all_pass is_of_graph (rest u) of_graphs

shallow_unit : (u : Unit1) (m : ℕ) → All (FunctionGiven u m) u.graphs → Shallow m (lines_of u)
shallow_unit u m h =
    shallow_both m (types u ++ map import_line u.imports) (flat_map function_lines u.graphs)
    (shallow_both m (types u) (map import_line u.imports) (shallow_map m entry_line u.types (λ t k ls. refl)) (shallow_map m import_line u.imports (λ i k ls. refl)))
    (shallow_parts m function_lines u.graphs (λ k d i. shallow_flat m (header (get_or u.graphs k d)) (body (get_or u.graphs k d)).1 (λ o ls. refl) (h k d i).given.shallow))

sounds : (u : Unit1) (ps : List Place) → All (IsGraph u) ps → All (IsNormalGraph u) ps → All (λ p. All (ArePortsRight u p) (ends p.graph)) ps → All (Sound u) ps
sounds u ps a b c k d i = record { formed = a k d i; normal = b k d i; filled = c k d i }

pub written : WrittenIsRead
written u ready normal =
    let formed = ready.formed in
    let given = functions_given u most_levels 0 u.graphs formed.nesting (sounds u (places u) formed.graphs normal ready.ports) in
    let good = All-append Good (map import_line u.imports) (flat_map function_lines u.graphs)
    (All-map Good import_line u.imports (λ k d i. import_good u.types (get_or u.imports k d) (formed.imports k d i)))
    (all_joined Good function_lines u.graphs (λ k d i. function_lines_good u most_levels (get_or u.graphs k d) (given k d i))) in
    let spelled : All IsSpelled (lines_of u) = subst (All IsSpelled) (sym (in_two u))
    (All-append IsSpelled (types u) (rest u)
    (All-map IsSpelled entry_line u.types (λ k d i. entry_spelled u.types (get_or u.types k d) formed.types.entries (formed.types.entries k d i)))
    (λ k d i. (good k d i).1)) in
    record {
      lines = lines_of u;
      read = ap (map line_of) (text_lines (lines_of u) spelled) ∙ all_read (lines_of u) spelled;
      give = record {
        types = λ l. ap (filter (λ (e : TypeEntry). e.label == l)) (sym (table u good));
        graphs = subst (λ (ls : List Line). GivesUnit u ls u.imports u.graphs) (sym (remaining u good))
            (imports_give u u.imports (flat_map function_lines u.graphs) u.graphs (functions_give u most_levels u.graphs given));
        nesting = shallow_all most_levels (lines_of u) (shallow_unit u most_levels given);
        formed = formed;
        normal = normal;
      };
    }
