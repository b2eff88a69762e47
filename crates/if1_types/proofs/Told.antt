-- Numbers of all entries, from one entry to the next.
use Rattle.std.proofs.Common.{◌≡◌, ℕ, ◌==◌, Bool, true, false, List, [], ◌∷◌, ◌++◌, Some, None, refl, sym, subst, arith, if◌then◌else◌}
use Rattle.if1_graph.specs.declared.graph.TypeEntry.{TypeEntry}
use Rattle.if1_graph.specs.Types.{entry_at}
use Rattle.if1_types.specs.Trees.{Tree, leaf}
use Rattle.if1_types.specs.Shapes.{IsLater, Stands}
use Rattle.if1_types.specs.Tables.{number_at, labels_in, AreTold}
use Rattle.if1_types.proofs.Keeping.{stands_later}

told_later : (ts us : List Tree) (f : TypeEntry → Tree) (es : List TypeEntry) (ns : List ℕ) → IsLater ts us → AreTold ts f es ns → AreTold us f es ns
told_later ts us f [] [] l h = tt
told_later ts us f [] (n ∷ ns) l h = absurd h
told_later ts us f (e ∷ es) [] l h = absurd h
told_later ts us f (e ∷ es) (n ∷ ns) l h = (stands_later l h.0, told_later ts us f es ns l h.1)

told_push : (ts : List Tree) (f : TypeEntry → Tree) (es : List TypeEntry) (ns : List ℕ) (e : TypeEntry) (n : ℕ) → AreTold ts f es ns → Stands ts n (f e) → AreTold ts f (es ++ e ∷ []) (ns ++ n ∷ [])
told_push ts f [] [] e n h s = (s, tt)
told_push ts f [] (m ∷ ns) e n h s = absurd h
told_push ts f (d ∷ es) [] e n h s = absurd h
told_push ts f (d ∷ es) (m ∷ ns) e n h s = (h.0, told_push ts f es ns e n h.1 s)

-- one entry more
pub told_more : (ts us : List Tree) (f : TypeEntry → Tree) (es done more : List TypeEntry) (ns new : List ℕ) (e : TypeEntry) (n : ℕ) → IsLater ts us → AreTold ts f done ns
    → Stands us n (f e) → more ≡ done ++ e ∷ [] → new ≡ ns ++ n ∷ [] → AreTold us f more new
told_more ts us f es done more ns new e n l h s is new_is =
    subst (λ more. AreTold us f more new) (sym is) (subst (AreTold us f (done ++ e ∷ [])) (sym new_is) (told_push us f done ns e n (told_later ts us f done ns l h) s))

-- the number beside a label has the tree of the label's entry
pub told_at : (ts : List Tree) (f : TypeEntry → Tree) (es : List TypeEntry) (ns : List ℕ) (l : ℕ) → AreTold ts f es ns
    → Stands ts (number_at (labels_in es) ns l) (elim (entry_at es l) [ None ↦ leaf | Some e ↦ f e ])
told_at ts f [] [] l h = record { within = omega arith; is = refl }
told_at ts f [] (n ∷ ns) l h = absurd h
told_at ts f (e ∷ es) [] l h = absurd h
told_at ts f (e ∷ es) (n ∷ ns) l h = by (e.label == l) (told_at ts f es ns l h.1)
  where
    by : (b : Bool) → Stands ts (number_at (labels_in es) ns l) (elim (entry_at es l) [ None ↦ leaf | Some e ↦ f e ])
        → Stands ts (if b then n else number_at (labels_in es) ns l) (elim (if b then Some e else entry_at es l) [ None ↦ leaf | Some e ↦ f e ])
    by true rest = h.0
    by false rest = rest
