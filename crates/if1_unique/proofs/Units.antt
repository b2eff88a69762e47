-- A text gives at most one unit.
use Rattle.std.proofs.Common.{◌≡◌, List, [], ◌∷◌, map, Some, refl, sym, subst, ◌∙◌}
use Rattle.std.specs.Prelude.{filter}
use Rattle.if1_graph.specs.declared.line.Line.{Line}
use Rattle.if1_graph.specs.declared.graph.TypeEntry.{TypeEntry}
use Rattle.if1_graph.specs.declared.graph.Unit1.{Unit1}
use Rattle.if1_graph.specs.Formed.{IsFormed}
use Rattle.if1_graph.specs.Normal.{IsNormal}
use Rattle.if1_graph.specs.Reads.{is_of_graph, LinesGive}
use Rattle.if1_unique.specs.Laws.{IsOneUnit}
use Rattle.if1_unique.proofs.Held.{HoldFrom, unit_held}
use Rattle.if1_unique.proofs.Listed.{rising_same}
use Rattle.if1_unique.proofs.Alike.{Sound}
use Rattle.if1_unique.proofs.Lines.{functions_same}
use Rattle.if1_unique.proofs.Numbered.{all_same}

sound : (u : Unit1) → IsFormed u → IsNormal u → HoldFrom (Sound u) 0 u.graphs
sound u formed normal = unit_held (Sound u) u formed.nesting (λ k d i. record { formed = formed.graphs k d i; normal = normal k d i })

-- two units of the same lines
lines_once : (ls : List Line) (u v : Unit1) → LinesGive ls u → LinesGive ls v → u ≡ v
lines_once ls u v a b =
    let types : u.types ≡ v.types =
    rising_same (λ (e : TypeEntry). e.label) u.types v.types a.formed.types.rising b.formed.types.rising (λ l. a.types l ∙ sym (b.types l)) in
    let us = sound u a.formed a.normal in
    let vs = sound v b.formed b.normal in
    let all = functions_same u v types (filter is_of_graph ls) u.imports u.graphs a.graphs (filter is_of_graph ls) v.imports v.graphs b.graphs refl 0 0 us vs in
    let graphs = all_same u v all.graphs us vs in
    λ i. record { types = types i; imports = all.imports i; graphs = graphs i }

somes : (ls ks : List Line) → map (λ l. Some l) ls ≡ map (λ l. Some l) ks → ls ≡ ks
somes [] [] e = refl
somes [] (k ∷ ks) e = absurd cc
somes (l ∷ ls) [] e = absurd cc
somes (l ∷ ls) (k ∷ ks) e =
    let first : l ≡ k = cc in
    let others : map (λ l. Some l) ls ≡ map (λ l. Some l) ks = cc in
    let rest = somes ls ks others in
    λ i. first i ∷ rest i

pub one : IsOneUnit
one text u v a b = lines_once b.lines u v (subst (λ (ls : List Line). LinesGive ls u) (somes a.lines b.lines (sym a.read ∙ b.read)) a.give) b.give
