-- Numbers of sorts, from the trees.
use Rattle.std.proofs.Common.{◌≡◌, ℕ, List, Option, Some, None, sym, ap, ◌∙◌, subst, arith}
use Rattle.std.proofs.lemmas.Option.{same_Some}
use Rattle.std.specs.List.Sorted.{IsStrictlyIncreasing}
use Rattle.if1_graph.specs.declared.graph.TypeEntry.{TypeEntry}
use Rattle.if1_graph.specs.Kinds.{kind_at}
use Rattle.if1_graph.specs.Types.{Sort, sort_at, most_deep}
use Rattle.if1_types.specs.Trees.{Tree, leaf, node, tree_within, sort_tree, sort_tree_at}
use Rattle.if1_types.specs.Shapes.{Key, tree_at, trees_in, IsOnce, Stands}
use Rattle.if1_types.specs.Forms.{IsSort, Stand}
use Rattle.if1_types.specs.Telling.{told_sort, read_sort, Tells}
use Rattle.if1_types.specs.Tables.{number_at, labels_in, AreTold, AreSorts}
use Rattle.if1_types.proofs.Same.{sort_tells, trees_same, told_same}
use Rattle.if1_types.proofs.Told.{told_at}

-- the numbers of labels have the trees of their sorts
abbrev HaveSorts : List Tree → List TypeEntry → List ℕ → Type 0
HaveSorts trees ts ns = (l : ℕ) → Stands trees (number_at (labels_in ts) ns l) (sort_tree_at ts l)

have_sorts : (us : List Tree) (types : List TypeEntry) (sorts : List ℕ)
    → AreTold us (λ e. sort_tree (tree_within most_deep types) types e (kind_at e.code)) types sorts → HaveSorts us types sorts
have_sorts us types sorts told l = told_at us (λ e. sort_tree (tree_within most_deep types) types e (kind_at e.code)) types sorts l told

pub are_sorts : (us : List Tree) (types : List TypeEntry) (sorts labels : List ℕ) → IsStrictlyIncreasing (labels_in types) → IsOnce us → labels ≡ labels_in types
    → AreTold us (λ e. sort_tree (tree_within most_deep types) types e (kind_at e.code)) types sorts → AreSorts types labels sorts
are_sorts us types sorts labels rising once is told =
    subst (λ labels. AreSorts types labels sorts) (sym is) (record { rising = rising; there = λ l. (nothing l, absent l); same = λ l m. (forth l m, back l m) })
  where
    have : HaveSorts us types sorts
    have = have_sorts us types sorts told

    forth : (l m : ℕ) → number_at (labels_in types) sorts l ≡ number_at (labels_in types) sorts m → sort_at types l ≡ sort_at types m
    forth l m e =
        trees_same told_sort read_sort (sort_at types l) (sort_at types m) (sort_tree_at types l) (sort_tree_at types m) (sort_tells types l) (sort_tells types m)
        (sym (have l).is ∙ ap (tree_at us) e ∙ (have m).is)

    back : (l m : ℕ) → sort_at types l ≡ sort_at types m → number_at (labels_in types) sorts l ≡ number_at (labels_in types) sorts m
    back l m e =
        once (number_at (labels_in types) sorts l) (number_at (labels_in types) sorts m) (have l).within (have m).within
        ((have l).is ∙ told_same told_sort read_sort (sort_at types l) (sort_at types m) (sort_tree_at types l) (sort_tree_at types m) (sort_tells types l) (sort_tells types m) e ∙ sym (have m).is)

    nothing : (l : ℕ) → number_at (labels_in types) sorts l ≡ 0 → sort_at types l ≡ None
    nothing l e =
        trees_same told_sort read_sort (sort_at types l) None (sort_tree_at types l) leaf (sort_tells types l) tt
        (sym (have l).is ∙ ap (tree_at us) e)

    absent : (l : ℕ) → sort_at types l ≡ None → number_at (labels_in types) sorts l ≡ 0
    absent l e =
        once (number_at (labels_in types) sorts l) 0 (have l).within (omega arith)
        ((have l).is ∙ told_same told_sort read_sort (sort_at types l) None (sort_tree_at types l) leaf (sort_tells types l) tt e)

told_by : (o : Option Sort) (s : Sort) (t : Tree) → Tells told_sort read_sort o t → o ≡ Some s → (told_sort s ≡ t) × (read_sort t ≡ Some s)
told_by None s t h e = cc
told_by (Some r) s leaf h e = absurd h
told_by (Some r) s (node k a b) h e = let same = same_Some r s e in (ap told_sort (sym same) ∙ h.0, h.1 ∙ e)

pub they_stand : (ks : List Key) (types : List TypeEntry) (sorts labels : List ℕ) → labels ≡ labels_in types
    → AreTold (trees_in ks) (λ e. sort_tree (tree_within most_deep types) types e (kind_at e.code)) types sorts → Stand types ks labels sorts
they_stand ks types sorts labels is told =
    subst (λ labels. Stand types ks labels sorts) (sym is) (λ l s h. by l s h (told_by (sort_at types l) s (sort_tree_at types l) (sort_tells types l) h))
  where
    have : HaveSorts (trees_in ks) types sorts
    have = have_sorts (trees_in ks) types sorts told

    by : (l : ℕ) (s : Sort) → sort_at types l ≡ Some s → (told_sort s ≡ sort_tree_at types l) × (read_sort (sort_tree_at types l) ≡ Some s) → IsSort ks (number_at (labels_in types) sorts l) s
    by l s h t = record { stands = subst (Stands (trees_in ks) (number_at (labels_in types) sorts l)) (sym t.0) (have l); bare = ap read_sort t.0 ∙ t.1 }
