-- The types of the example are those of the table.
use Rattle.std.proofs.Common.{◌≡◌, ℕ, suc, List, [], ◌∷◌, Some, refl, inl, inr}
use Rattle.std.specs.Prelude.{All}
use Rattle.std.specs.List.{AllByRecursion as ByRecursion}
use Rattle.std.proofs.lemmas.List.Elements.{All-from_recursion}
use Rattle.flow_value.specs.declared.ty.Ty.TheVariants as ty
use Rattle.if1_graph.specs.declared.graph.Graph.{Graph}
use Rattle.if1_graph.specs.declared.graph.Graph.TheViews.{out-Graph}
use Rattle.if1_graph.specs.declared.graph.Edge.{Edge}
use Rattle.if1_graph.specs.Types.{Sort, Plain, sort_at}
use Rattle.if1_graph.specs.Units.{node_at, edges_into, width, Home, Function, ends}
use Rattle.if1_graph.specs.Ports.{edges_from, part_of}
use Rattle.if1_graph.specs.Typing.{IsTyped, IsWanted, IsGiven, AgreesWith, IsEndTyped, AreTypesRight, result_of}
use Rattle.if1_graph.specs.Ready.{TypesHold}
use Rattle.graph_examples.specs.Greater.{edge, types, which, otherwise, equal, main, greater}
use Rattle.graph_examples.proofs.GreaterOuts.{looks, which-ends, otherwise-ends, equal-ends, main-ends, place}
use Rattle.graph_examples.proofs.GreaterFormed.{at-places}
use Rattle.graph_examples.proofs.GreaterPorts.{at-ends, which-home, otherwise-home, equal-home}

abbrev int : Sort
int = Plain ty.Int

abbrev bool : Sort
bool = Plain ty.Bool

-- ---- an end, by the edges into it

abbrev IsEdgeTyped : Graph → Home → Edge → Type 0
IsEdgeTyped g h e = IsTyped greater (place g h) e

abbrev IsEdgeAgreed : Graph → Edge → Type 0
IsEdgeAgreed g e = AgreesWith greater g e e.from

end-typed : (g : Graph) (h : Home) (l : ℕ) (es : List Edge) → edges_into g l ≡ es → IsEndTyped greater (place g h) (node_at (out-Graph g).nodes l) → ByRecursion (IsEdgeTyped g h) es → ByRecursion (IsEdgeAgreed g) es → AreTypesRight greater (place g h) l
end-typed g h l es e p t a =
    record {
      place = p;
      edges = rw e (All-from_recursion (IsEdgeTyped g h) es t);
      agree = rw e (All-from_recursion (IsEdgeAgreed g) es a);
    }

edge-typed : (g : Graph) (h : Home) (e : Edge) (s : Sort) → sort_at types e.ty ≡ Some s → IsWanted greater (place g h) e.node (node_at (out-Graph g).nodes e.node) e.port s → IsGiven greater (place g h) e.from s → IsEdgeTyped g h e
edge-typed g h e s a w i = inr (s, a, w, i)

-- the only edge from a port agrees with itself
agrees : (g : Graph) (a l p n q t : ℕ) → edges_from g (suc l) p ≡ edge a p n q t ∷ [] → All (λ other. sort_at types other.ty ≡ sort_at types t) (edges_from g (suc l) p)
agrees g a l p n q t e = rw e (All-from_recursion (λ other. sort_at types other.ty ≡ sort_at types t) (edge a p n q t ∷ []) (refl, tt))

-- ---- which

which-at-0 : AreTypesRight greater (place which which-home) 0
which-at-0 =
    end-typed which which-home 0 (edge 1 1 0 1 1 ∷ []) (simp looks) (simp looks tt)
    (edge-typed which which-home (edge 1 1 0 1 1) int refl (simp (looks, part_of) refl) (simp looks refl), tt)
    (agrees which 1 0 1 0 1 1 (simp (looks, edges_from)), tt)

which-at-1 : AreTypesRight greater (place which which-home) 1
which-at-1 =
    end-typed which which-home 1 (edge 2 1 1 1 2 ∷ []) (simp looks) (simp looks tt)
    (edge-typed which which-home (edge 2 1 1 1 2) bool refl (simp looks (inr (inl refl))) (simp looks refl), tt)
    (agrees which 2 1 1 1 1 2 (simp (looks, edges_from)), tt)

which-at-2 : AreTypesRight greater (place which which-home) 2
which-at-2 =
    end-typed which which-home 2 (edge 0 1 2 1 1 ∷ edge 0 2 2 2 1 ∷ []) (simp looks) (simp looks tt) (
      edge-typed which which-home (edge 0 1 2 1 1) int refl (simp looks (inl refl)) (simp (looks, part_of, width) refl),
      (edge-typed which which-home (edge 0 2 2 2 1) int refl (simp looks ((ty.Int, refl), refl)) (simp (looks, part_of, width) refl), tt),
    )
    (tt, (tt, tt))

which-types : All (AreTypesRight greater (place which which-home)) (ends which)
which-types =
    at-ends which (AreTypesRight greater (place which which-home)) _ which-ends
    (which-at-0, (which-at-1, (which-at-2, (which-at-1, (which-at-2, (which-at-2, (which-at-0, tt)))))))

-- ---- the alternatives

otherwise-at-0 : AreTypesRight greater (place otherwise otherwise-home) 0
otherwise-at-0 =
    end-typed otherwise otherwise-home 0 (edge 1 1 0 1 1 ∷ []) (simp looks) (simp looks tt)
    (edge-typed otherwise otherwise-home (edge 1 1 0 1 1) int refl (simp (looks, part_of, result_of) ((ty.Int, refl), refl)) (simp looks refl), tt)
    (agrees otherwise 1 0 1 0 1 1 (simp (looks, edges_from)), tt)

otherwise-at-1 : AreTypesRight greater (place otherwise otherwise-home) 1
otherwise-at-1 =
    end-typed otherwise otherwise-home 1 (edge 0 1 1 1 1 ∷ edge 0 2 1 2 1 ∷ []) (simp looks) (simp looks tt) (
      edge-typed otherwise otherwise-home (edge 0 1 1 1 1) int refl (simp looks refl) (simp (looks, part_of, width) refl),
      (edge-typed otherwise otherwise-home (edge 0 2 1 2 1) int refl (simp looks refl) (simp (looks, part_of, width) refl), tt),
    )
    (tt, (tt, tt))

otherwise-types : All (AreTypesRight greater (place otherwise otherwise-home)) (ends otherwise)
otherwise-types =
    at-ends otherwise (AreTypesRight greater (place otherwise otherwise-home)) _ otherwise-ends
    (otherwise-at-0, (otherwise-at-1, (otherwise-at-1, (otherwise-at-1, (otherwise-at-0, tt)))))

equal-at-0 : AreTypesRight greater (place equal equal-home) 0
equal-at-0 =
    end-typed equal equal-home 0 (edge 1 1 0 1 1 ∷ []) (simp looks) (simp looks tt)
    (edge-typed equal equal-home (edge 1 1 0 1 1) int refl (simp (looks, part_of, result_of) ((ty.Int, refl), refl)) (simp looks ((ty.Int, refl), refl)), tt)
    (agrees equal 1 0 1 0 1 1 (simp (looks, edges_from)), tt)

equal-at-1 : AreTypesRight greater (place equal equal-home) 1
equal-at-1 =
    end-typed equal equal-home 1 (edge 0 1 1 1 1 ∷ edge 0 2 1 2 1 ∷ []) (simp looks) (simp looks tt) (
      edge-typed equal equal-home (edge 0 1 1 1 1) int refl (simp looks (inl refl)) (simp (looks, part_of, width) refl),
      (edge-typed equal equal-home (edge 0 2 1 2 1) int refl (simp looks ((ty.Int, refl), refl)) (simp (looks, part_of, width) refl), tt),
    )
    (tt, (tt, tt))

equal-types : All (AreTypesRight greater (place equal equal-home)) (ends equal)
equal-types =
    at-ends equal (AreTypesRight greater (place equal equal-home)) _ equal-ends
    (equal-at-0, (equal-at-1, (equal-at-1, (equal-at-1, (equal-at-0, tt)))))

-- ---- main

main-at-0 : AreTypesRight greater (place main (Function 0)) 0
main-at-0 =
    end-typed main (Function 0) 0 (edge 2 1 0 1 1 ∷ []) (simp looks) (simp looks (ty.Int ∷ ty.Int ∷ [], ty.Int ∷ [], refl))
    (edge-typed main (Function 0) (edge 2 1 0 1 1) int refl (simp looks (ty.Int, refl, refl)) (simp (looks, result_of) refl), tt)
    (agrees main 2 1 1 0 1 1 (simp (looks, edges_from)), tt)

main-at-2 : AreTypesRight greater (place main (Function 0)) 2
main-at-2 =
    end-typed main (Function 0) 2 (edge 0 1 2 1 1 ∷ edge 0 2 2 2 1 ∷ []) (simp looks) (simp looks tt) (
      edge-typed main (Function 0) (edge 0 1 2 1 1) int refl (simp looks (ty.Int, refl)) (simp looks (ty.Int, refl, refl)),
      (edge-typed main (Function 0) (edge 0 2 2 2 1) int refl (simp looks (ty.Int, refl)) (simp looks (ty.Int, refl, refl)), tt),
    )
    (tt, (tt, tt))

main-types : All (AreTypesRight greater (place main (Function 0))) (ends main)
main-types =
    at-ends main (AreTypesRight greater (place main (Function 0))) _ main-ends
    (main-at-0, (main-at-2, (main-at-2, (main-at-2, (main-at-0, tt)))))

pub types-hold : TypesHold greater
types-hold = at-places (λ p. All (AreTypesRight greater p) (ends p.graph)) (main-types, (which-types, (otherwise-types, (equal-types, tt))))
