-- What stands beside a label, by its place.
use Rattle.std.proofs.Common.{◌≡◌, ℕ, zero, suc, ◌+◌, ◌<◌, take, cond, ◌==◌, ◌&&◌, Bool, true, false, if◌then◌else◌, List, [], ◌∷◌, ◌++◌, length, get_or, slice_get, slice_set, slice_index, slice_index_or, replicate, map, find, filter, bytes_eq, Contains, Option, Some, None, is_some, option_map, inl, inr, refl, sym, ap, subst, ◌∙◌, arith, append-nil, eq-eqb, eqb-true, ne_eqb}
use Rattle.std.proofs.lemmas.Bool.Decides.{same_from_decides, Decides-like}
use Rattle.std.proofs.lemmas.List.Elements.{Contains-get_or}
use Rattle.std.proofs.lemmas.List.{take_more}
use Rattle.std.proofs.lemmas.Slice.Eq.{bytes_eq-Decides}
use Rattle.std.specs.Map.{lookup}
use Rattle.std.specs.List.Sorted.{IsStrictlyIncreasing}
use Rattle.if1_graph.specs.declared.graph.Edge.{Edge}
use Rattle.if1_graph.specs.declared.graph.TypeEntry.{TypeEntry}
use Rattle.if1_graph.specs.Types.{Sort}
use Rattle.if1_graph.specs.declared.graph.Origin.TheVariants.{Port}
use Rattle.if1_graph.specs.declared.graph.Graph.{Graph}
use Rattle.if1_graph.specs.declared.graph.Graph.TheViews.{out-Graph}
use Rattle.if1_graph.specs.Formed.{function_named}
use Rattle.if1_graph.specs.Ports.{leaves}
use Rattle.if1_graph.specs.Tables.{or_else}
use Rattle.if1_ports.specs.declared.outline.Outline.{Outline}
use Rattle.if1_ports.specs.declared.outline.Outline.TheVariants.{Nothing}
use Rattle.if1_ports.specs.Outlines.{outline_at, outline_of}
use Rattle.if1_ports.specs.Names.{or_nothing, type_of}
use Rattle.if1_ports.specs.Ends.{count_at, leaving, IsNoted}

pub rising_rest : (n : ℕ) (ns : List ℕ) → IsStrictlyIncreasing (n ∷ ns) → IsStrictlyIncreasing ns
rising_rest n ns up k h = grind (arith, up (suc k))

pub above : (n : ℕ) (ns : List ℕ) (k : ℕ) → IsStrictlyIncreasing (n ∷ ns) → k < length ns → n < slice_index ns k
above n ns zero up h = grind (arith, up 0)
above n ns (suc k) up h = grind (arith, above n ns k up, up (suc k))

pub count_found : (xs : List ℕ) (cs : List (Option ℕ)) (k l : ℕ) → IsStrictlyIncreasing xs → k < length xs → slice_index xs k ≡ l → count_at xs cs l ≡ slice_get cs k
count_found [] cs k l up h is = absurd (omega (arith, h))
count_found (x ∷ xs) [] k l up h is = refl
count_found (x ∷ xs) (c ∷ cs) zero l up h is = grind (arith, is)
count_found (x ∷ xs) (c ∷ cs) (suc k) l up h is = grind (arith, above x xs k up, count_found xs cs k l (rising_rest x xs up))

pub count_none : (xs : List ℕ) (cs : List (Option ℕ)) (l : ℕ) → ((k : ℕ) → k < length xs → slice_index xs k ≡ l → ⊥) → count_at xs cs l ≡ None
count_none [] cs l none = refl
count_none (x ∷ xs) [] l none = refl
count_none (x ∷ xs) (c ∷ cs) l none = grind (arith, none 0, count_none xs cs l (λ k h is. none (suc k) (omega (arith, h)) is))

pub outline_found : (xs : List ℕ) (os : List Outline) (k l : ℕ) → IsStrictlyIncreasing xs → k < length xs → slice_index xs k ≡ l → outline_at xs os l ≡ get_or os k Nothing
outline_found [] os k l up h is = absurd (omega (arith, h))
outline_found (x ∷ xs) [] k l up h is = refl
outline_found (x ∷ xs) (o ∷ os) zero l up h is = grind (arith, is)
outline_found (x ∷ xs) (o ∷ os) (suc k) l up h is = grind (arith, above x xs k up, outline_found xs os k l (rising_rest x xs up))

pub outline_none : (xs : List ℕ) (os : List Outline) (l : ℕ) → ((k : ℕ) → k < length xs → slice_index xs k ≡ l → ⊥) → outline_at xs os l ≡ Nothing
outline_none [] os l none = refl
outline_none (x ∷ xs) [] l none = refl
outline_none (x ∷ xs) (o ∷ os) l none = grind (arith, none 0, outline_none xs os l (λ k h is. none (suc k) (omega (arith, h)) is))

-- ---- lists of what leaves each node

module _ (f g : ℕ → List ℕ) (l : ℕ) (others : (m : ℕ) → (m ≡ l → ⊥) → g m ≡ f m) where
  pub noted_none : (xs : List ℕ) → ((k : ℕ) → k < length xs → slice_index xs k ≡ l → ⊥) → map f xs ≡ map g xs
  noted_none [] none = refl
  noted_none (x ∷ xs) none =
      ap (λ y. y ∷ map f xs) (sym (others x (none 0 (omega arith))))
      ∙ ap (λ ys. g x ∷ ys) (noted_none xs (λ k h is. none (suc k) (omega (arith, h)) is))

  pub noted_at : (t : List ℕ) → g l ≡ f l ++ t → (xs : List ℕ) (k : ℕ) → IsStrictlyIncreasing xs → k < length xs → slice_index xs k ≡ l →
      slice_set (map f xs) k (slice_index_or (map f xs) k [] ++ t) ≡ map g xs
  noted_at t hit [] k up h is = absurd (omega (arith, h))
  noted_at t hit (x ∷ xs) zero up h is =
      ap (λ y. y ∷ map f xs) (sym (subst (λ m. g m ≡ f m ++ t) (sym is) hit))
      ∙ ap (λ ys. g x ∷ ys) (noted_none xs (λ k h e. omega (arith, is, e, above x xs k up h)))
  noted_at t hit (x ∷ xs) (suc k) up h is =
      ap (λ y. y ∷ slice_set (map f xs) k (slice_index_or (map f xs) k [] ++ t))
      (sym (others x (λ e. omega (arith, is, e, above x xs k up (omega (arith, h))))))
      ∙ ap (λ ys. g x ∷ ys) (noted_at t hit xs k (rising_rest x xs up) (omega (arith, h)) is)

more_one : (es : List Edge) (e : Edge) (l : ℕ) → leaving (es ++ e ∷ []) l ≡ leaving es l ++ cond (leaves l 1 e.from) (e.ty ∷ []) []
more_one [] e l = one (leaves l 1 e.from)
  where
    one : (b : Bool) → map (λ (e : Edge). e.ty) (cond b (e ∷ []) []) ≡ cond b (e.ty ∷ []) []
    one true = refl
    one false = refl
more_one (f ∷ es) e l = step (leaves l 1 f.from) (more_one es e l)
  where
    step : (b : Bool) → leaving (es ++ e ∷ []) l ≡ leaving es l ++ cond (leaves l 1 e.from) (e.ty ∷ []) [] →
        map (λ (e : Edge). e.ty) (cond b (f ∷ filter (λ e. leaves l 1 e.from) (es ++ e ∷ [])) (filter (λ e. leaves l 1 e.from) (es ++ e ∷ [])))
        ≡ map (λ (e : Edge). e.ty) (cond b (f ∷ filter (λ e. leaves l 1 e.from) es) (filter (λ e. leaves l 1 e.from) es)) ++ cond (leaves l 1 e.from) (e.ty ∷ []) []
    step true h = ap (λ ts. f.ty ∷ ts) h
    step false h = h

-- an edge that leaves port 1 of a node
pub edge_noted : (labels : List ℕ) (es : List Edge) (e : Edge) (l : ℕ) (old new : List (List ℕ)) → IsStrictlyIncreasing labels → e.from ≡ Port l 1 →
    IsNoted labels l e.ty old new → old ≡ map (leaving es) labels → new ≡ map (leaving (es ++ e ∷ [])) labels
edge_noted labels es e l old new up from noted was =
    elim noted [
      | inl h ↦
          h.3
          ∙ ap (λ z. slice_set z h.0 (slice_index_or z h.0 [] ++ e.ty ∷ [])) was
          ∙ noted_at (leaving es) (leaving (es ++ e ∷ [])) l other (e.ty ∷ []) hit labels h.0 up h.1 h.2
      | inr h ↦
          h.0 ∙ was
          ∙ noted_none (leaving es) (leaving (es ++ e ∷ [])) l other labels
          (λ k b is. h.1 (subst (λ m. Contains labels m) is (Contains-get_or labels k 0 b)))
    ]
  where
    seen : (m : ℕ) → leaving (es ++ e ∷ []) m ≡ leaving es m ++ cond ((l == m) && true) (e.ty ∷ []) []
    seen m = more_one es e m ∙ ap (λ o. leaving es m ++ cond (leaves m 1 o) (e.ty ∷ []) []) from

    hit : leaving (es ++ e ∷ []) l ≡ leaving es l ++ e.ty ∷ []
    hit = seen l ∙ ap (λ b. leaving es l ++ cond (b && true) (e.ty ∷ []) []) (eq-eqb l l refl)

    other : (m : ℕ) → (m ≡ l → ⊥) → leaving (es ++ e ∷ []) m ≡ leaving es m
    other m h = seen m ∙ ap (λ b. leaving es m ++ cond (b && true) (e.ty ∷ []) []) (ne_eqb l m (λ i. h (sym i))) ∙ append-nil (leaving es m)

-- another edge
pub edge_passed : (labels : List ℕ) (es : List Edge) (e : Edge) (old : List (List ℕ)) → ((m : ℕ) → leaves m 1 e.from ≡ false) →
    old ≡ map (leaving es) labels → old ≡ map (leaving (es ++ e ∷ [])) labels
edge_passed labels es e old none was = was ∙ all labels
  where
    all : (xs : List ℕ) → map (leaving es) xs ≡ map (leaving (es ++ e ∷ [])) xs
    all [] = refl
    all (x ∷ xs) =
        ap (λ y. y ∷ map (leaving es) xs)
        (sym (more_one es e x ∙ ap (λ b. leaving es x ++ cond b (e.ty ∷ []) []) (none x) ∙ append-nil (leaving es x)))
        ∙ ap (λ ys. leaving (es ++ e ∷ []) x ∷ ys) (all xs)

pub none_leaving : (labels : List ℕ) → replicate (length labels) [] ≡ map (leaving []) labels
none_leaving [] = refl
none_leaving (x ∷ xs) = ap (λ ys. [] ∷ ys) (none_leaving xs)

-- ---- names

pub lookup_push : {K X : Type 0} (test : K → Bool) (es : List (K × X)) (k : K) (v : X) →
    lookup test (es ++ (k, v) ∷ []) ≡ or_else (lookup test es) (if test k then Some v else None)
lookup_push test [] k v = refl
lookup_push test (e ∷ es) k v = step (test e.0) (lookup_push test es k v)
  where
    step : (b : Bool) → lookup test (es ++ (k, v) ∷ []) ≡ or_else (lookup test es) (if test k then Some v else None) →
        cond b (Some e.1) (lookup test (es ++ (k, v) ∷ [])) ≡ or_else (cond b (Some e.1) (lookup test es)) (if test k then Some v else None)
    step true h = refl
    step false h = h

pub find_push : {X : Type 0} (p : X → Bool) (xs : List X) (x : X) → find p (xs ++ x ∷ []) ≡ or_else (find p xs) (if p x then Some x else None)
find_push p [] x = refl
find_push p (y ∷ xs) x = step (p y) (find_push p xs x)
  where
    step : (b : Bool) → find p (xs ++ x ∷ []) ≡ or_else (find p xs) (if p x then Some x else None) →
        cond b (Some y) (find p (xs ++ x ∷ [])) ≡ or_else (cond b (Some y) (find p xs)) (if p x then Some x else None)
    step true h = refl
    step false h = h

pub or_else_map : {A B : Type 0} (f : A → B) (m n : Option A) → or_else (option_map f m) (option_map f n) ≡ option_map f (or_else m n)
or_else_map f None n = refl
or_else_map f (Some a) n = refl

pub if_map : {A B : Type 0} (f : A → B) (b : Bool) (a : A) → (if b then Some (f a) else None) ≡ option_map f (if b then Some a else None)
if_map f true a = refl
if_map f false a = refl

pub same_bytes : (a b : List ℕ) → bytes_eq a b ≡ bytes_eq b a
same_bytes a b =
    same_from_decides {P = a ≡ b} (bytes_eq a b) (bytes_eq b a) (bytes_eq-Decides a b)
    (Decides-like (bytes_eq b a) (λ e. sym e) (λ e. sym e) (bytes_eq-Decides b a))

pub or_there : {X : Type 0} (m n : Option X) → is_some m ≡ true → m ≡ or_else m n
or_there None n h = absurd cc
or_there (Some x) n h = refl

pub not_there : {X : Type 0} (m : Option X) → is_some m ≡ false → m ≡ None
not_there None h = refl
not_there (Some x) h = absurd cc

-- the names of graphs, with one graph more
pub names_more : (o : ℕ → Outline) (gs : List Graph) (i : ℕ) (g : Graph) → i < length gs → g ≡ get_or gs i g → (text : List ℕ) (old new : Option Outline) →
    old ≡ option_map (λ g. o (out-Graph g).fun) (function_named (take i gs) text) →
    new ≡ or_else old (if bytes_eq (out-Graph g).name text then Some (o (out-Graph g).fun) else None) →
    new ≡ option_map (λ g. o (out-Graph g).fun) (function_named (take (i + 1) gs) text)
names_more o gs i g h is text old new was e =
    let more : take (i + 1) gs ≡ take i gs ++ g ∷ [] = take_more gs i g h ∙ ap (λ x. take i gs ++ x ∷ []) (sym is) in
    e
    ∙ ap (λ m. or_else m (if bytes_eq (out-Graph g).name text then Some (o (out-Graph g).fun) else None)) was
    ∙ ap (or_else (option_map (λ g. o (out-Graph g).fun) (function_named (take i gs) text)))
    (if_map (λ (g : Graph). o (out-Graph g).fun) (bytes_eq (out-Graph g).name text) g)
    ∙ or_else_map (λ (g : Graph). o (out-Graph g).fun) (function_named (take i gs) text) (if bytes_eq (out-Graph g).name text then Some g else None)
    ∙ ap (option_map (λ g. o (out-Graph g).fun)) (sym (find_push (λ g. bytes_eq (out-Graph g).name text) (take i gs) g))
    ∙ ap (λ gs. option_map (λ g. o (out-Graph g).fun) (function_named gs text)) (sym more)

pub names_all : (o : ℕ → Outline) (m : Option Graph) → or_nothing (option_map (λ g. o (out-Graph g).fun) m) ≡ type_of o m
names_all o None = refl
names_all o (Some g) = refl

-- ---- types

pub told : (m : Option Sort) (r : Outline) → (m ≡ None → ⊥) → ((s : Sort) → m ≡ Some s → r ≡ outline_of (Some s)) → r ≡ outline_of m
told None r none some = absurd (none refl)
told (Some s) r none some = some s refl

-- rows beside the labels of a table
pub outline_rows : (f : ℕ → Outline) (l : ℕ) (es : List TypeEntry) → (find (λ e. e.label == l) es ≡ None → f l ≡ Nothing) →
    outline_at (map (λ e. e.label) es) (map (λ e. f e.label) es) l ≡ f l
outline_rows f l [] none = sym (none refl)
outline_rows f l (e ∷ es) none = step (e.label == l) refl (outline_rows f l es) none
  where
    step : (b : Bool) → (e.label == l) ≡ b →
        ((find (λ e. e.label == l) es ≡ None → f l ≡ Nothing) → outline_at (map (λ e. e.label) es) (map (λ e. f e.label) es) l ≡ f l) →
        (cond b (Some e) (find (λ e. e.label == l) es) ≡ None → f l ≡ Nothing) →
        cond b (f e.label) (outline_at (map (λ e. e.label) es) (map (λ e. f e.label) es) l) ≡ f l
    step true is rest none = ap f (eqb-true e.label l is)
    step false is rest none = rest none
