-- What a unit is shown to be ready and normal with: ends of its graphs by the edges into them, literals, and edges in order.
use Rattle.std.proofs.Common.{◌≡◌, ◌∙◌, ◌≤◌, ℕ, zero, suc, List, [], ◌∷◌, Some, refl, sym, ap, subst, inr, arith}
use Rattle.std.specs.Prelude.{All, AllPairs, Contains, unwrap_or}
use Rattle.std.specs.List.{AllByRecursion as ByRecursion}
use Rattle.std.proofs.lemmas.List.Elements.{All-from_recursion}
use Rattle.std.proofs.lemmas.List.Kept.{AllPairs-cons}
use Rattle.if1_graph.specs.declared.graph.Edge.{Edge}
use Rattle.if1_graph.specs.declared.graph.Graph.{Graph}
use Rattle.if1_graph.specs.declared.graph.Graph.TheViews.{out-Graph}
use Rattle.if1_graph.specs.declared.graph.TypeEntry.{TypeEntry}
use Rattle.if1_graph.specs.declared.graph.Unit1.{Unit1}
use Rattle.if1_graph.specs.Formed.{IsOnce, IsLiteralFor, want_at}
use Rattle.if1_graph.specs.Kinds.{kind_at, basic_at}
use Rattle.if1_graph.specs.Normal.{Precedes}
use Rattle.if1_graph.specs.Ports.{AreFirst, IsThere, IsEndFilled, ArePortsRight, edges_from}
use Rattle.if1_graph.specs.Types.{Sort, entry_at, sort_at}
use Rattle.if1_graph.specs.Typing.{IsTyped, IsWanted, IsGiven, AgreesWith, IsEndTyped, AreTypesRight}
use Rattle.if1_graph.specs.Units.{node_at, edges_into, Home, ends}
use Rattle.graph_examples.proofs.GreaterFormed.{once-of-one, once-of-two}
use Rattle.graph_examples.proofs.GreaterOuts.{place}

-- ---- ports 1 to n

pub once-of-three : IsOnce (1 ∷ 2 ∷ 3 ∷ [])
once-of-three = (no-one, (no-two, ((λ c. absurd (omega (arith, c.1))), tt)))
  where
    no-one : Contains {X = ℕ} (2 ∷ 3 ∷ []) 1 → ⊥
    no-one (zero, lt, e) = absurd (omega (arith, e))
    no-one (suc zero, lt, e) = absurd (omega (arith, e))
    no-one (suc (suc k), lt, e) = absurd (omega (arith, lt))

    no-two : Contains {X = ℕ} (3 ∷ []) 2 → ⊥
    no-two (zero, lt, e) = absurd (omega (arith, e))
    no-two (suc k, lt, e) = absurd (omega (arith, lt))

pub first-none : AreFirst 0 []
first-none = record { once = tt; these = λ port. ((λ c. absurd (omega (arith, c.1))), (λ h. absurd (omega (arith, h.0, h.1)))) }

pub first-one : AreFirst 1 (1 ∷ [])
first-one = record { once = once-of-one 1; these = λ port. (up port, down port) }
  where
    up : (port : ℕ) → Contains (1 ∷ []) port → (1 ≤ port) × (port ≤ 1)
    up port (zero, lt, e) = (omega (arith, e), omega (arith, e))
    up port (suc k, lt, e) = absurd (omega (arith, lt))

    down : (port : ℕ) → (1 ≤ port) × (port ≤ 1) → Contains (1 ∷ []) port
    down port h = (0, omega arith, omega (arith, h.0, h.1))

pub first-two : AreFirst 2 (1 ∷ 2 ∷ [])
first-two = record { once = once-of-two; these = λ port. (up port, down port) }
  where
    up : (port : ℕ) → Contains (1 ∷ 2 ∷ []) port → (1 ≤ port) × (port ≤ 2)
    up port (zero, lt, e) = (omega (arith, e), omega (arith, e))
    up port (suc zero, lt, e) = (omega (arith, e), omega (arith, e))
    up port (suc (suc k), lt, e) = absurd (omega (arith, lt))

    down : (port : ℕ) → (1 ≤ port) × (port ≤ 2) → Contains (1 ∷ 2 ∷ []) port
    down zero h = absurd (omega (arith, h.0))
    down (suc zero) h = (0, omega arith, refl)
    down (suc (suc zero)) h = (1, omega arith, refl)
    down (suc (suc (suc k))) h = absurd (omega (arith, h.1))

pub first-three : AreFirst 3 (1 ∷ 2 ∷ 3 ∷ [])
first-three = record { once = once-of-three; these = λ port. (up port, down port) }
  where
    up : (port : ℕ) → Contains (1 ∷ 2 ∷ 3 ∷ []) port → (1 ≤ port) × (port ≤ 3)
    up port (zero, lt, e) = (omega (arith, e), omega (arith, e))
    up port (suc zero, lt, e) = (omega (arith, e), omega (arith, e))
    up port (suc (suc zero), lt, e) = (omega (arith, e), omega (arith, e))
    up port (suc (suc (suc k)), lt, e) = absurd (omega (arith, lt))

    down : (port : ℕ) → (1 ≤ port) × (port ≤ 3) → Contains (1 ∷ 2 ∷ 3 ∷ []) port
    down zero h = absurd (omega (arith, h.0))
    down (suc zero) h = (0, omega arith, refl)
    down (suc (suc zero)) h = (1, omega arith, refl)
    down (suc (suc (suc zero))) h = (2, omega arith, refl)
    down (suc (suc (suc (suc k)))) h = absurd (omega (arith, h.1))

pub at-ends : (g : Graph) (P : ℕ → Type 0) (ls : List ℕ) → ends g ≡ ls → ByRecursion P ls → All P (ends g)
at-ends g P ls e h = subst (All P) (sym e) (All-from_recursion P ls h)

-- ---- edges in order

-- each edge precedes all later ones
abbrev pub Pairs : List Edge → Type 0
Pairs [] = Unit {0}
Pairs (e ∷ es) = ByRecursion (Precedes e) es × Pairs es

pub pairs-all : (es : List Edge) → Pairs es → AllPairs Precedes es
pairs-all [] h = λ i j d lt jt. absurd (omega (arith, jt))
pairs-all (e ∷ es) h = AllPairs-cons Precedes e es (All-from_recursion (Precedes e) es h.0) (pairs-all es h.1)

module _ (u : Unit1) where
  -- ---- literals

  abbrev FitsEntry : Graph → Edge → List ℕ → TypeEntry → Type 0
  FitsEntry g e text entry = IsLiteralFor u.graphs (want_at g e.node e.port) text (kind_at entry.code) (basic_at entry.first)

  -- the entry of a label is the one that stands there
  pub literal-fits : (g : Graph) (e : Edge) (text : List ℕ) (known : TypeEntry) → entry_at u.types e.ty ≡ Some known → FitsEntry g e text known → (entry : TypeEntry) → entry_at u.types e.ty ≡ Some entry → FitsEntry g e text entry
  literal-fits g e text known is fits entry found = subst (FitsEntry g e text) (ap (λ o. unwrap_or o known) (sym is ∙ found)) fits

  -- ---- an end, by the edges into it

  abbrev IsPort : Graph → Home → Edge → Type 0
  IsPort g h e = IsThere u (place g h) e.from

  -- its ports are filled, and the edges into it come from ports that are there
  pub end-right : (g : Graph) (h : Home) (l : ℕ) (es : List Edge) → edges_into g l ≡ es → IsEndFilled u (place g h) l (node_at (out-Graph g).nodes l) → ByRecursion (IsPort g h) es → ArePortsRight u (place g h) l
  end-right g h l es e f s = record { filled = f; sources = rw e (All-from_recursion (IsPort g h) es s) }

  abbrev IsEdgeTyped : Graph → Home → Edge → Type 0
  IsEdgeTyped g h e = IsTyped u (place g h) e

  abbrev IsEdgeAgreed : Graph → Edge → Type 0
  IsEdgeAgreed g e = AgreesWith u g e e.from

  -- the edges into it have the types of the table
  pub end-typed : (g : Graph) (h : Home) (l : ℕ) (es : List Edge) → edges_into g l ≡ es → IsEndTyped u (place g h) (node_at (out-Graph g).nodes l) → ByRecursion (IsEdgeTyped g h) es → ByRecursion (IsEdgeAgreed g) es → AreTypesRight u (place g h) l
  end-typed g h l es e p t a =
      record {
        place = p;
        edges = rw e (All-from_recursion (IsEdgeTyped g h) es t);
        agree = rw e (All-from_recursion (IsEdgeAgreed g) es a);
      }

  pub edge-typed : (g : Graph) (h : Home) (e : Edge) (s : Sort) → sort_at u.types e.ty ≡ Some s → IsWanted u (place g h) e.node (node_at (out-Graph g).nodes e.node) e.port s → IsGiven u (place g h) e.from s → IsEdgeTyped g h e
  edge-typed g h e s a w i = inr (s, a, w, i)

  abbrev HasSortOf : ℕ → Edge → Type 0
  HasSortOf t other = sort_at u.types other.ty ≡ sort_at u.types t

  -- the edges from a port agree with one of them
  pub agrees : (g : Graph) (l p t : ℕ) (es : List Edge) → edges_from g (suc l) p ≡ es → ByRecursion (HasSortOf t) es → All (HasSortOf t) (edges_from g (suc l) p)
  agrees g l p t es e h = rw e (All-from_recursion (HasSortOf t) es h)
