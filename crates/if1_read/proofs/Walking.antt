-- Lines one after another, each where it stands.
use Rattle.std.proofs.Common.{◌≡◌, ℕ, Bool, true, false, cond, List, [], ◌∷◌, ◌++◌, Option, Some, None, refl, sym, ap, ◌∙◌, true≢false}
use Rattle.std.specs.Prelude.{filter}
use Rattle.std.proofs.lemmas.List.Elements.{filter-append}
use Rattle.if1_graph.specs.declared.line.Line.{Line}
use Rattle.if1_graph.specs.declared.line.Line.TheVariants as line
use Rattle.if1_graph.specs.Reads.{is_of_graph}
use Rattle.if1_read.specs.Faults.{Layer, next, layers_from, with_some, told}

abbrev pub Lined : Type 0
Lined = ℕ × Line

pub layers_append : (os : List Layer) (xs ys : List Lined) → layers_from os (xs ++ ys) ≡ layers_from (layers_from os xs) ys
layers_append os [] ys = refl
layers_append os (x ∷ xs) ys = layers_append (next x.0 x.1 os) xs ys

pub some_append : {A : Type 0} (o : Option A) (xs ys : List A) → with_some o (xs ++ ys) ≡ with_some o xs ++ ys
some_append None xs ys = refl
some_append (Some x) xs ys = refl

pub told_append : {A : Type 0} (f : Line → List Layer → Option A) (os : List Layer) (xs ys : List Lined) →
    told f os (xs ++ ys) ≡ told f os xs ++ told f (layers_from os xs) ys
told_append f os [] ys = refl
told_append f os (x ∷ xs) ys =
    let os2 = next x.0 x.1 os in
    ap (with_some (f x.1 os)) (told_append f os2 xs ys) ∙ some_append (f x.1 os) (told f os2 xs) (told f (layers_from os2 xs) ys)

-- what holds of each line where it stands
abbrev pub EachAt : (Line → List Layer → Type 0) → List Layer → List Lined → Type 0
EachAt P os [] = Unit {0}
EachAt P os (l ∷ ls) = P l.1 os × EachAt P (next l.0 l.1 os) ls

pub each_append : (P : Line → List Layer → Type 0) (os : List Layer) (xs ys : List Lined) → EachAt P os xs → EachAt P (layers_from os xs) ys → EachAt P os (xs ++ ys)
each_append P os [] ys h k = k
each_append P os (x ∷ xs) ys h k = (h.0, each_append P (next x.0 x.1 os) xs ys h.1 k)

pub each_at : (P : Line → List Layer → Type 0) (os : List Layer) (xs : List Lined) (x : Lined) (ys : List Lined) → EachAt P os (xs ++ x ∷ ys) → P x.1 (layers_from os xs)
each_at P os [] x ys h = h.0
each_at P os (z ∷ xs) x ys h = each_at P (next z.0 z.1 os) xs x ys h.1

-- ---- lines of graphs

abbrev pub of_graph : Lined → Bool
of_graph l = is_of_graph l.1

abbrev pub graph_lines : List Lined → List Lined
graph_lines ls = filter of_graph ls

quiet : (l : Line) (n : ℕ) (os : List Layer) → is_of_graph l ≡ false → next n l os ≡ os
quiet line.Blank n os e = refl
quiet (line.Entry label code first second name) n os e = refl
quiet _ n os e = absurd (true≢false e)

layers_if : (b : Bool) (x : Lined) (os : List Layer) (ls : List Lined) → of_graph x ≡ b → layers_from os (cond b (x ∷ ls) ls) ≡ layers_from (next x.0 x.1 os) ls
layers_if true x os ls e = refl
layers_if false x os ls e = ap (λ ps. layers_from ps ls) (sym (quiet x.1 x.0 os e))

pub layers_kept : (os : List Layer) (ls : List Lined) → layers_from os (graph_lines ls) ≡ layers_from os ls
layers_kept os [] = refl
layers_kept os (x ∷ ls) = layers_if (of_graph x) x os (graph_lines ls) refl ∙ layers_kept (next x.0 x.1 os) ls

-- what says nothing but of graphs
abbrev pub IsOfGraphs : {A : Type 0} → (Line → List Layer → Option A) → Type 0
IsOfGraphs f = (l : Line) (os : List Layer) → is_of_graph l ≡ false → f l os ≡ None

told_if : {A : Type 0} (f : Line → List Layer → Option A) → IsOfGraphs f → (b : Bool) (x : Lined) (os : List Layer) (ls : List Lined) → of_graph x ≡ b →
    told f os (cond b (x ∷ ls) ls) ≡ with_some (f x.1 os) (told f (next x.0 x.1 os) ls)
told_if f none true x os ls e = refl
told_if f none false x os ls e =
    ap (λ o. with_some o (told f os ls)) (sym (none x.1 os e)) ∙ ap (λ ps. with_some (f x.1 os) (told f ps ls)) (sym (quiet x.1 x.0 os e))

pub told_kept : {A : Type 0} (f : Line → List Layer → Option A) → IsOfGraphs f → (os : List Layer) (ls : List Lined) → told f os (graph_lines ls) ≡ told f os ls
told_kept f none os [] = refl
told_kept f none os (x ∷ ls) =
    told_if f none (of_graph x) x os (graph_lines ls) refl ∙ ap (with_some (f x.1 os)) (told_kept f none (next x.0 x.1 os) ls)

-- a line of a graph among the others
pub kept_at : (xs : List Lined) (x : Lined) (ys : List Lined) → of_graph x ≡ true → graph_lines (xs ++ x ∷ ys) ≡ graph_lines xs ++ x ∷ graph_lines ys
kept_at xs x ys e =
    filter-append of_graph xs (x ∷ ys) ∙ ap (λ b. graph_lines xs ++ cond b (x ∷ graph_lines ys) (graph_lines ys)) e
