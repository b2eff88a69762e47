-- The names of the functions that lines give.
use Rattle.std.proofs.Common.{◌≡◌, ℕ, suc, Bool, true, false, cond, ◌||◌, rules, List, [], ◌∷◌, ◌++◌, map, length, Option, Some, is_some, bytes_eq, refl, sym, ap, ◌∙◌, append_assoc}
use Rattle.std.specs.List.{list_any}
use Rattle.if1_graph.specs.declared.line.Line.{Line}
use Rattle.if1_graph.specs.declared.line.Line.TheVariants as line
use Rattle.if1_graph.specs.declared.graph.Graph.{Graph}
use Rattle.if1_graph.specs.declared.graph.Graph.TheViews.{out-Graph, roll-Graph}
use Rattle.if1_graph.specs.declared.graph.Graph.TheViews as graphs
use Rattle.if1_graph.specs.declared.graph.Node.{Node}
use Rattle.if1_graph.specs.declared.graph.Edge.{Edge}
use Rattle.if1_graph.specs.declared.graph.Unit1.{Unit1}
use Rattle.if1_graph.specs.Formed.{function_named}
use Rattle.if1_graph.specs.Reads.{GivesBody, GivesParts, GivesUnit, no_line, simple, compound, edge, literal, no_part, part, no_graph, import, function}
use Rattle.if1_read.specs.declared.judge.Known.{Known}
use Rattle.if1_read.specs.Known.{AreNamed, Fits}
use Rattle.if1_read.specs.declared.read.Spot.{Spot}
use Rattle.if1_read.specs.Sorting.{named_in, has_name}
use Rattle.if1_read.proofs.Spots.{at, of_part, of_close}

module _ (u : Unit1) (t : List ℕ) (known : Bool) where
  mutual
    -- the lines of a graph name no function of the unit
    body_silent : (d : ℕ) (ls : List Line) (ns : List Node) (es : List Edge) → GivesBody u ls ns es → (rest : List Line) → named_in t (at d true) known (ls ++ rest) ≡ named_in t (at d true) known rest
    body_silent d ls ns es no_line rest = refl
    body_silent d ls ns es (simple {ls = ls0} {ns = ns0} {es = es0} n label op before name is g) rest = body_silent d ls0 ns0 es0 g rest
    body_silent d ls ns es (compound {ps = ps} {ls = ls0} {ns = ns0} {es = es0} n more label op gs assoc before name is p g) rest =
        let close = line.Close label op (length gs) assoc before name in
        ap (named_in t (at (suc d) false) known) (append_assoc ps (close ∷ ls0) rest)
        ∙ (parts_silent d false ps gs p label op (length gs) assoc before name (ls0 ++ rest) ∙ body_silent d ls0 ns0 es0 g rest)
    body_silent d ls ns es (edge {ls = ls0} {ns = ns0} {es = es0} from out node port ty takes name g) rest = body_silent d ls0 ns0 es0 g rest
    body_silent d ls ns es (literal {ls = ls0} {ns = ns0} {es = es0} node port ty text name g) rest = body_silent d ls0 ns0 es0 g rest

    -- nor do those of the graphs in a compound node
    parts_silent : (d : ℕ) (r : Bool) (ls : List Line) (gs : List Graph) → GivesParts u ls gs → (label op count : ℕ) (assoc before name : List ℕ) (rest : List Line) →
        named_in t (at (suc d) r) known (ls ++ line.Close label op count assoc before name ∷ rest) ≡ named_in t (at d true) known rest
    parts_silent d r ls gs no_part label op count assoc before name rest =
        ap (λ (s : Spot). named_in t s known rest) (of_close d r label op count assoc before name)
    parts_silent d r ls gs (part {ls = bs} {ps = ps} {ns = ns} {es = es} {gs = gs0} g b same p) label op count assoc before name rest =
        let behind = line.Close label op count assoc before name ∷ rest in
        ap (λ (s : Spot). named_in t s known ((bs ++ ps) ++ behind)) (of_part d r (out-Graph g).name)
        ∙ ap (named_in t (at (suc d) true) known) (append_assoc bs ps behind)
        ∙ (body_silent (suc d) bs ns es b (ps ++ behind) ∙ parts_silent d true ps gs0 p label op count assoc before name rest)

or_assoc : (a b c : Bool) → ((a || b) || c) ≡ (a || (b || c))
or_assoc true b c = refl
or_assoc false b c = refl

or_false : (a : Bool) → (a || false) ≡ a
or_false true = refl
or_false false = refl

some_if : (b : Bool) (g : Graph) (o : Option Graph) → is_some (cond b (Some g) o) ≡ (b || is_some o)
some_if true g o = refl
some_if false g o = refl

unit_names : (u : Unit1) (t : List ℕ) (r known : Bool) (ls : List Line) (is : List (ℕ × List ℕ)) (gs : List Graph) → GivesUnit u ls is gs →
    named_in t (at 0 r) known ls ≡ (known || is_some (function_named gs t))
unit_names u t r known ls is gs no_graph = sym (or_false known)
unit_names u t r known ls is gs (import {ls = ls0} {is = is0} {gs = gs0} ty name g) = unit_names u t false known ls0 is0 gs0 g
unit_names u t r known ls is gs (function {bs = bs} {ls = ls0} {ns = ns} {es = es} {is = is0} {gs = gs0} g b same more) =
    let here : Bool = bytes_eq (out-Graph g).name t in
    body_silent u t (known || here) 0 bs ns es b ls0
    ∙ unit_names u t true (known || here) ls0 is0 gs0 more
    ∙ or_assoc known here (is_some (function_named gs0 t))
    ∙ ap (λ (x : Bool). known || x) (sym (some_if here g (function_named gs0 t)))

-- a unit of functions with these names and nothing else
abbrev pub named_graph : List ℕ → Graph
named_graph name = roll-Graph (record { number = 0; exported = false; name = name; fun = 0; nodes = []; edges = [] })

graph_name : (name : List ℕ) → (out-Graph (named_graph name)).name ≡ name
graph_name name = search (rules, graphs.the_lemmas)

names_of : (names : List (List ℕ)) → AreNamed names (map named_graph names)
names_of [] t = refl
names_of (n ∷ ns) t =
    some_if (bytes_eq (out-Graph (named_graph n)).name t) (named_graph n) (function_named (map named_graph ns) t)
    ∙ ap (λ (x : Bool). x || is_some (function_named (map named_graph ns) t)) (ap (λ (y : List ℕ). bytes_eq y t) (graph_name n))
    ∙ ap (λ (x : Bool). bytes_eq n t || x) (names_of ns t)

abbrev pub named_unit : Known → Unit1
named_unit k = record { types = k.table.types; imports = []; graphs = map named_graph k.names }

pub named_fits : (k : Known) → Fits k (named_unit k)
named_fits k = record { types = refl; names = names_of k.names }

-- functions that lines give to any unit with these types are those of the names
pub given_named : (k : Known) (ls : List Line) (is : List (ℕ × List ℕ)) (gs : List Graph) →
    ((t : List ℕ) → list_any (λ n. bytes_eq n t) k.names ≡ has_name t ls) → GivesUnit (named_unit k) ls is gs → AreNamed k.names gs
given_named k ls is gs has given t = sym (has t ∙ unit_names (named_unit k) t false false ls is gs given)
