-- The edges into a node, by port.
use Rattle.std.proofs.Common.{◌≡◌, ℕ, zero, suc, ◌<◌, ◌≤◌, Bool, true, false, cond, ◌==◌, List, [], ◌∷◌, find, filter, slice_get, get_or, length, AllPairs, Contains, Some, None, ◌⊎◌, inl, inr, refl, sym, ap, ◌∙◌, subst, arith, ne_eqb, eqb-true}
use Rattle.std.specs.List.{AllWithin}
use Rattle.std.specs.List.Sorted.{IsNonDecreasingBy}
use Rattle.std.proofs.lemmas.Bool.Decides.{eqb_tells}
use Rattle.std.proofs.lemmas.List.Elements.{Contains-get_or}
use Rattle.if1_graph.specs.declared.graph.Graph.{Graph}
use Rattle.if1_graph.specs.declared.graph.Graph.TheViews.{out-Graph}
use Rattle.if1_graph.specs.declared.graph.Edge.{Edge}
use Rattle.if1_graph.specs.Normal.{Precedes}
use Rattle.if1_graph.specs.Units.{edges_into}
use Rattle.if1_order.proofs.Members.{contains_here, contains_there, contains_cases, contains_none}
use Rattle.if1_fits.specs.Views.{AreUp}

-- what a filter keeps stands in the list, and passes
pub filter_kept : {A : Type 0} (p : A → Bool) (xs : List A) (x : A) → Contains (filter p xs) x → Contains xs x × (p x ≡ true)
filter_kept p [] x h = contains_none x h
filter_kept p (y ∷ xs) x h = by (p y) refl h (filter_kept p xs x)
  where
    by : (b : Bool) → p y ≡ b → Contains (cond b (y ∷ filter p xs) (filter p xs)) x → (Contains (filter p xs) x → Contains xs x × (p x ≡ true)) →
        Contains (y ∷ xs) x × (p x ≡ true)
    by true is h more =
        elim (contains_cases y (filter p xs) x h) [
          | inl e ↦ subst (λ x. Contains (y ∷ xs) x × (p x ≡ true)) e (contains_here y xs, is)
          | inr there ↦ let r = more there in (contains_there y xs x r.0, r.1)
        ]
    by false is h more = let r = more h in (contains_there y xs x r.0, r.1)

later : (e : Edge) (es : List Edge) → AllPairs Precedes (e ∷ es) → (f : Edge) → Contains es f → Precedes e f
later e es h f c = subst (λ x. Precedes e x) c.2 (h 0 (suc c.0) f (omega arith) (omega (arith, c.1)))

same_node : (e f : Edge) (l : ℕ) → Precedes e f → e.node ≡ l → f.node ≡ l → e.port ≤ f.port
same_node e f l (inl h) a b = h.1
same_node e f l (inr (one, inl h)) a b = absurd (omega (arith, h, a, b))
same_node e f l (inr (one, inr h)) a b = absurd (omega (arith, one, h, a, b))

up_cons : (e : Edge) (es : List Edge) → ((f : Edge) → Contains es f → e.port ≤ f.port) → AreUp es → AreUp (e ∷ es)
up_cons e es low up zero zero d a b = absurd (omega (arith, a))
up_cons e es low up zero (suc j) d a b = low (get_or es j d) (Contains-get_or es j d (omega (arith, b)))
up_cons e es low up (suc i) zero d a b = absurd (omega (arith, a))
up_cons e es low up (suc i) (suc j) d a b = up i j d (omega (arith, a)) (omega (arith, b))

kept_up : (es : List Edge) (l : ℕ) → AllPairs Precedes es → AreUp (filter (λ e. e.node == l) es)
kept_up [] l h = λ i j d a b. absurd (omega (arith, b))
kept_up (e ∷ es) l h = by (e.node == l) refl (kept_up es l (λ i j d a b. h (suc i) (suc j) d (omega (arith, a)) (omega (arith, b))))
  where
    by : (b : Bool) → (e.node == l) ≡ b → AreUp (filter (λ e. e.node == l) es) → AreUp (cond b (e ∷ filter (λ e. e.node == l) es) (filter (λ e. e.node == l) es))
    by true is more =
        up_cons e (filter (λ e. e.node == l) es)
        (λ f c.
        let r = filter_kept (λ (e : Edge). e.node == l) es f c in
        same_node e f l (later e es h f r.0) (eqb-true e.node l is) (eqb-true f.node l r.1)) more
    by false is more = more

pub into_up : (g : Graph) (l : ℕ) → AllPairs Precedes (out-Graph g).edges → AreUp (edges_into g l)
into_up g l h = kept_up (out-Graph g).edges l h
