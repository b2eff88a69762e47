-- Generators go through the places of the source.
use Rattle.std.proofs.Common.{◌≡◌, inl, inr, ℕ, zero, suc, ◌+◌, ◌<◌, ℤ, pos, negsuc, Bool, true, false, ◌&&◌, List, [], ◌∷◌, ◌++◌, map, length, take, drop, Option, Some, None, refl, sym, ap, ◌∙◌, subst, arith, if◌then◌else◌}
use Rattle.std.specs.Prelude.{◌+ℤ◌, ◌-ℤ◌, nat_eq, nat_lt}
use Rattle.std.specs.List.{list_all}
use Rattle.flow_value.specs.Bounds.{is_few}
use Rattle.flow_value.specs.Scalar.{fits_64}
use Rattle.flow_value.specs.declared.cause.Cause.{Cause}
use Rattle.flow_value.specs.declared.cause.Cause.TheVariants as cause
use Rattle.flow_value.specs.declared.value.Val.{Val}
use Rattle.flow_value.specs.declared.value.Val.TheVariants as val
use Rattle.flow_value.specs.declared.value.Val.TheOpen.{Val-F}
use Rattle.flow_value.specs.declared.value.Val.TheViews.{out-Val}
use Rattle.flow_value.specs.declared.ty.Ty.{Ty}
use Rattle.flow_value.specs.Well.{is_well}
use Rattle.loop_folds.specs.Folds.{elements_in}
use Rattle.typed_tree.specs.declared.expr.Source.{Source}
use Rattle.typed_tree.specs.declared.expr.Source.TheVariants as source
use Rattle.meaning.specs.declared.sources.Places.{Places}
use Rattle.meaning.specs.declared.sources.Places.TheVariants as places
use Rattle.meaning.specs.Words.{value_at}
use Rattle.meaning.specs.Sources.{width, up_to, range_size, list_size, size_of, sizes_of, first_failure, is_size, are_size, common, unless_failed, places_of, names_of, names_at, number_in, index_in}
use Rattle.graph_meaning.specs.Carried.{Carried, Value, Many, Spoiled}
use Rattle.graph_meaning.specs.NodeValues.{rising, scatter_in}
use Rattle.graph_meaning.specs.Forms.{first_spoiled, are_as_long, items}
use Rattle.graph_meaning.specs.Forms as forms
use Rattle.fitting_trees.specs.Fitting.{Goes, no_source, over_range, over_array, over_stream, over_array_at, over_stream_at}
use Rattle.typed_rows.specs.Rows.{AreOf}
use Rattle.typed_rows.proofs.ValueKinds.{IntKind, an_int, no_int, ArrKind, an_arr, no_arr, StreamKind, a_stream, no_stream, as_int, as_arr, as_stream, out_err, out_int, out_arr, out_stream}
use Rattle.typed_rows.proofs.Rows.{and_two, parts_of}
use Rattle.loop_columns.specs.Generators.{generated_by, generated, names_from, GoThrough, DoGoThrough}
use Rattle.loop_columns.proofs.Numbers.{Fit, places-fit, few-fit, range-fits, some-places, no-places, few-same, rising-long, rising-at, fitted-is}
use Rattle.loop_columns.proofs.Columns.{AreLong, AreColumns, from, rows-are, columns-both, many-both, items-many, sound-many, is_long, all-both, many-long}

-- ---- one generator

-- what its node makes, by its size in the source
pub data Made (s : Source) (vs : List Val) : Places → Type 0 where
  counted : (n : ℕ) (l : List Val) (ls : List (List Val)) → generated_by s vs ≡ map Many (l ∷ ls) → AreColumns n (names_of s (value_at vs 0)) (l ∷ ls) → Made s vs (places.Count n)
  failed : (c : Cause) (ms : List Carried) → generated_by s vs ≡ Spoiled c ∷ ms → Made s vs (places.Failed c)

-- the numbers of a range
number-is : (lo : ℤ) (n i : ℕ) → Fit lo n → i < n → value_at (rising lo n) i ∷ [] ≡ names_of source.Range (val.Int lo) i
number-is lo n i f h = ap (λ v. v ∷ []) (rising-at n lo i h ∙ sym (ap (λ y. number_in y i) (out_int lo) ∙ fitted-is (lo +ℤ pos i) (f i h)))

between : (lo hi : ℤ) (vs : List Val) → fits_64 lo ≡ true → fits_64 hi ≡ true → (z : ℤ) → hi -ℤ lo ≡ z → Made source.Range (val.Int lo ∷ val.Int hi ∷ vs) (up_to z)
between lo hi vs f h (negsuc k) e =
    counted 0 [] [] (ap (λ n. (if is_few n then Many (rising lo n) else Spoiled cause.Size) ∷ []) (no-places lo hi k e))
    (record { long = (refl, tt); rows = λ i lt. absurd (omega (arith, lt)) })
between lo hi vs f h (pos k) e = go (nat_lt k 4194304) refl
  where
    is : (b : Bool) → nat_lt k 4194304 ≡ b → generated_by source.Range (val.Int lo ∷ val.Int hi ∷ vs) ≡ (if b then Many (rising lo (suc k)) else Spoiled cause.Size) ∷ []
    is b g =
        ap (λ n. (if is_few n then Many (rising lo n) else Spoiled cause.Size) ∷ []) (some-places lo hi k e)
        ∙ ap (λ t. (if t then Many (rising lo (suc k)) else Spoiled cause.Size) ∷ []) (few-same k ∙ g)

    go : (b : Bool) → nat_lt k 4194304 ≡ b → Made source.Range (val.Int lo ∷ val.Int hi ∷ vs) (if b then places.Count (k + 1) else places.Failed cause.Size)
    go true g =
        let n : k + 1 ≡ suc k = omega arith in
        subst (λ n. Made source.Range (val.Int lo ∷ val.Int hi ∷ vs) (places.Count n)) (sym n)
        (counted (suc k) (rising lo (suc k)) [] (is true g)
        (record { long = (rising-long (suc k) lo, tt); rows = λ i lt. number-is lo (suc k) i (range-fits lo hi k f h e) lt }))
    go false g = failed cause.Size [] (is false g)

over-range : (a b : Val) (vs : List Val) → IntKind a → IntKind b → Made source.Range (a ∷ b ∷ vs) (range_size (out-Val a) (out-Val b))
over-range _ _ vs (an_int lo f) (an_int hi h) =
    subst (λ q. Made source.Range (val.Int lo ∷ val.Int hi ∷ vs) q) (sym (ap (λ x. range_size x (out-Val (val.Int hi))) (out_int lo) ∙ ap (λ y. range_size (Val-F.Int lo) y) (out_int hi))) (between lo hi vs f h (hi -ℤ lo) refl)
over-range _ _ vs (an_int lo f) (no_int c) =
    subst (λ q. Made source.Range (val.Int lo ∷ val.Err c ∷ vs) q) (sym (ap (λ x. range_size x (out-Val (val.Err c))) (out_int lo) ∙ ap (λ y. range_size (Val-F.Int lo) y) (out_err c))) (failed c [] refl)
over-range _ b vs (no_int c) k =
    subst (λ q. Made source.Range (val.Err c ∷ b ∷ vs) q) (sym (ap (λ x. range_size x (out-Val b)) (out_err c))) (failed c [] refl)

-- elements, with their indices or without
abbrev element_columns : List Val → ℤ → Source → List (List Val)
element_columns xs lo source.Indexed = rising lo (length xs) ∷ []
element_columns xs lo _ = []

pub data IsOverElements : Source → Type 0 where
  elements : IsOverElements source.Elements
  indexed : IsOverElements source.Indexed

over-list : (s : Source) (v : Val) (vs xs : List Val) (lo : ℤ) → IsOverElements s → scatter_in (out-Val v) ≡ Many xs ∷ Many (rising lo (length xs)) ∷ [] → elements_in (out-Val v) ≡ xs
    → ((i : ℕ) → i < length xs → index_in (out-Val v) i ≡ val.Int (lo +ℤ pos i)) → Made s (v ∷ vs) (places.Count (length xs))
over-list _ v vs xs lo elements e f g =
    counted (length xs) xs [] (ap (take 1) e) (record { long = (refl, tt); rows = λ i lt. ap (λ ys. value_at ys i ∷ []) (sym f) })
over-list _ v vs xs lo indexed e f g =
    counted (length xs) xs (rising lo (length xs) ∷ []) e
    (record {
      long = (refl, (rising-long (length xs) lo, tt));
      rows = λ i lt. ap (λ ys. value_at ys i ∷ value_at (rising lo (length xs)) i ∷ []) (sym f) ∙ ap (λ w. value_at (elements_in (out-Val v)) i ∷ w ∷ []) (rising-at (length xs) lo i lt ∙ sym (g i lt));
    })

over-error : (s : Source) (c : Cause) (vs : List Val) → IsOverElements s → Made s (val.Err c ∷ vs) (places.Failed c)
over-error _ c vs elements = failed c [] (ap (λ y. take 1 (scatter_in y)) (out_err c))
over-error _ c vs indexed = failed c (Spoiled c ∷ []) (ap scatter_in (out_err c))

list-size : (s : Source) (v w : Val) → IsOverElements s → size_of s v w ≡ list_size (out-Val v)
list-size _ v w elements = refl
list-size _ v w indexed = refl

abbrev sized : Source → Val → List Val → Type 0
sized s v vs = Made s (v ∷ vs) (size_of s v (value_at (v ∷ vs) 1))

as-sized : (s : Source) (v : Val) (vs : List Val) (q : Places) → IsOverElements s → list_size (out-Val v) ≡ q → Made s (v ∷ vs) q → sized s v vs
as-sized s v vs q i e m = subst (Made s (v ∷ vs)) (sym (list-size s v (value_at (v ∷ vs) 1) i ∙ e)) m

over-array-of : (s : Source) (a : Ty) (v : Val) (vs : List Val) → IsOverElements s → ArrKind a v → sized s v vs
over-array-of s a _ vs i (an_arr x h) =
    let p = parts_of a x h in
    as-sized s (val.Arr x) vs (places.Count (length x.items)) i (ap list_size (out_arr x))
    (over-list s (val.Arr x) vs x.items x.lo i (ap scatter_in (out_arr x)) (ap elements_in (out_arr x))
    (λ j lt. ap (λ y. index_in y j) (out_arr x) ∙ fitted-is (x.lo +ℤ pos j) (places-fit x.lo (length x.items) p.low p.range j lt)))
over-array-of s a _ vs i (no_arr c) = as-sized s (val.Err c) vs (places.Failed c) i (ap list_size (out_err c)) (over-error s c vs i)

over-stream-of : (s : Source) (a : Ty) (v : Val) (vs : List Val) → IsOverElements s → StreamKind a v → sized s v vs
over-stream-of s a _ vs i (a_stream xs h) =
    let p = and_two (is_few (length xs)) (list_all (is_well a) xs) h in
    as-sized s (val.Stream xs) vs (places.Count (length xs)) i (ap list_size (out_stream xs))
    (over-list s (val.Stream xs) vs xs (pos 1) i (ap scatter_in (out_stream xs)) (ap elements_in (out_stream xs))
    (λ j lt. ap (λ y. index_in y j) (out_stream xs) ∙ fitted-is (pos 1 +ℤ pos j) (few-fit (length xs) p.0 j lt)))
over-stream-of s a _ vs i (no_stream c) = as-sized s (val.Err c) vs (places.Failed c) i (ap list_size (out_err c)) (over-error s c vs i)

-- ---- all generators

abbrev pub AllMade : List Source → List Val → Type 0
AllMade [] vs = Unit {0}
AllMade (s ∷ ss) vs = Made s vs (size_of s (value_at vs 0) (value_at vs 1)) × AllMade ss (drop (width s) vs)

pub all-made : (ss : List Source) (tys names : List Ty) → Goes ss tys names → (vs : List Val) → AreOf tys vs → AllMade ss vs
all-made _ _ _ no_source vs h = tt
all-made _ _ _ (over_range r) [] h = absurd h
all-made _ _ _ (over_range r) (v ∷ []) h = absurd h.1
all-made _ _ _ (over_range {ss = ss} {bounds = tys} {names = names} r) (v ∷ w ∷ vs) h = (over-range v w vs (as_int v h.0) (as_int w h.1.0), all-made ss tys names r vs h.1.1)
all-made _ _ _ (over_array a r) [] h = absurd h
all-made _ _ _ (over_array {ss = ss} {bounds = tys} {names = names} a r) (v ∷ vs) h = (over-array-of source.Elements a v vs elements (as_arr a v h.0), all-made ss tys names r vs h.1)
all-made _ _ _ (over_stream a r) [] h = absurd h
all-made _ _ _ (over_stream {ss = ss} {bounds = tys} {names = names} a r) (v ∷ vs) h = (over-stream-of source.Elements a v vs elements (as_stream a v h.0), all-made ss tys names r vs h.1)
all-made _ _ _ (over_array_at a r) [] h = absurd h
all-made _ _ _ (over_array_at {ss = ss} {bounds = tys} {names = names} a r) (v ∷ vs) h = (over-array-of source.Indexed a v vs indexed (as_arr a v h.0), all-made ss tys names r vs h.1)
all-made _ _ _ (over_stream_at a r) [] h = absurd h
all-made _ _ _ (over_stream_at {ss = ss} {bounds = tys} {names = names} a r) (v ∷ vs) h = (over-stream-of source.Indexed a v vs indexed (as_stream a v h.0), all-made ss tys names r vs h.1)

-- ---- errors

some-cause : (c d : Cause) → Some c ≡ Some d → c ≡ d
some-cause c d e = ap (λ o. or c o) e
  where
    or : Cause → Option Cause → Cause
    or x None = x
    or x (Some y) = y

fails-by : (s : Source) (vs : List Val) (q : Places) (ps : List Places) (ms : List Carried) (c : Cause) → Made s vs q → (first_failure ps ≡ Some c → first_spoiled ms ≡ Some c)
    → first_failure (q ∷ ps) ≡ Some c → first_spoiled (generated_by s vs ++ ms) ≡ Some c
fails-by s vs _ ps ms c (counted n l ls e k) h f = ap (λ os. first_spoiled (os ++ ms)) e ∙ sound-many (l ∷ ls) ms ∙ h f
fails-by s vs _ ps ms c (failed d os e) h f = ap (λ os. first_spoiled (os ++ ms)) e ∙ f

fails : (ss : List Source) (vs : List Val) (c : Cause) → AllMade ss vs → first_failure (sizes_of ss vs) ≡ Some c → first_spoiled (generated ss vs) ≡ Some c
fails [] vs c m f = absurd cc
fails (s ∷ ss) vs c m f =
    fails-by s vs (size_of s (value_at vs 0) (value_at vs 1)) (sizes_of ss (drop (width s) vs)) (generated ss (drop (width s) vs)) c m.0 (fails ss (drop (width s) vs) c m.1) f

clean-by : (s : Source) (vs : List Val) (q : Places) (ps : List Places) (ms : List Carried) → Made s vs q → (first_failure ps ≡ None → first_spoiled ms ≡ None)
    → first_failure (q ∷ ps) ≡ None → first_spoiled (generated_by s vs ++ ms) ≡ None
clean-by s vs _ ps ms (counted n l ls e k) h f = ap (λ os. first_spoiled (os ++ ms)) e ∙ sound-many (l ∷ ls) ms ∙ h f
clean-by s vs _ ps ms (failed d os e) h f = absurd cc

clean : (ss : List Source) (vs : List Val) → AllMade ss vs → first_failure (sizes_of ss vs) ≡ None → first_spoiled (generated ss vs) ≡ None
clean [] vs m f = refl
clean (s ∷ ss) vs m f =
    clean-by s vs (size_of s (value_at vs 0) (value_at vs 1)) (sizes_of ss (drop (width s) vs)) (generated ss (drop (width s) vs)) m.0 (clean ss (drop (width s) vs) m.1) f

-- ---- lengths

long-by : (n : ℕ) (s : Source) (vs : List Val) (q : Places) (ps : List Places) (ms : List Carried) → Made s vs q → (first_failure ps ≡ None → list_all (is_long n) ms ≡ are_size n ps)
    → first_failure (q ∷ ps) ≡ None → list_all (is_long n) (generated_by s vs ++ ms) ≡ are_size n (q ∷ ps)
long-by n s vs _ ps ms (counted k l ls e m) h f =
    ap (λ os. list_all (is_long n) (os ++ ms)) e ∙ all-both (is_long n) (map Many (l ∷ ls)) ms
    ∙ ap (λ b. b && list_all (is_long n) ms) (many-long n k l ls m.long) ∙ ap (λ b. nat_eq k n && b) (h f) ∙ go (nat_eq k n)
  where
    go : (b : Bool) → (b && are_size n ps) ≡ (if b then are_size n ps else false)
    go true = refl
    go false = refl
long-by n s vs _ ps ms (failed d os e) h f = absurd cc

all-sized : (n : ℕ) (ss : List Source) (vs : List Val) → AllMade ss vs → first_failure (sizes_of ss vs) ≡ None → list_all (is_long n) (generated ss vs) ≡ are_size n (sizes_of ss vs)
all-sized n [] vs m f = refl
all-sized n (s ∷ ss) vs m f =
    long-by n s vs (size_of s (value_at vs 0) (value_at vs 1)) (sizes_of ss (drop (width s) vs)) (generated ss (drop (width s) vs)) m.0 (all-sized n ss (drop (width s) vs) m.1) f

-- ---- columns

pub record HasColumns (n : ℕ) (at : ℕ → List Val) (ms : List Carried) : Type 0 where
  pub lists : List (List Val)
  pub are : ms ≡ map Many lists
  pub columns : AreColumns n at lists

columns-by : (n : ℕ) (s : Source) (vs : List Val) (q : Places) (ps : List Places) (at : ℕ → List Val) (ms : List Carried) → Made s vs q
    → (first_failure ps ≡ None → are_size n ps ≡ true → HasColumns n at ms)
    → first_failure (q ∷ ps) ≡ None → are_size n (q ∷ ps) ≡ true → HasColumns n (λ i. names_of s (value_at vs 0) i ++ at i) (generated_by s vs ++ ms)
columns-by n s vs _ ps at ms (counted k l ls e m) h f g = go (nat_eq k n) refl g
  where
    go : (b : Bool) → nat_eq k n ≡ b → (if b then are_size n ps else false) ≡ true → HasColumns n (λ i. names_of s (value_at vs 0) i ++ at i) (generated_by s vs ++ ms)
    go true e1 g =
        let r = h f g in
        let same : k ≡ n = grind (arith, e1) in
        record {
          lists = (l ∷ ls) ++ r.lists;
          are = ap (λ os. os ++ ms) e ∙ ap (λ os. map Many (l ∷ ls) ++ os) r.are ∙ many-both (l ∷ ls) r.lists;
          columns = columns-both n (names_of s (value_at vs 0)) at (l ∷ ls) r.lists (subst (λ n. AreColumns n (names_of s (value_at vs 0)) (l ∷ ls)) same m) r.columns;
        }
    go false e1 g = absurd cc
columns-by n s vs _ ps at ms (failed d os e) h f g = absurd cc

have-columns : (n : ℕ) (ss : List Source) (vs : List Val) → AllMade ss vs → first_failure (sizes_of ss vs) ≡ None → are_size n (sizes_of ss vs) ≡ true → HasColumns n (names_at ss vs) (generated ss vs)
have-columns n [] vs m f g = record { lists = []; are = refl; columns = record { long = tt; rows = λ i lt. refl } }
have-columns n (s ∷ ss) vs m f g =
    columns-by n s vs (size_of s (value_at vs 0) (value_at vs 1)) (sizes_of ss (drop (width s) vs)) (names_at ss (drop (width s) vs)) (generated ss (drop (width s) vs)) m.0 (have-columns n ss (drop (width s) vs) m.1) f g

names-are : (ss : List Source) (vs : List Val) (i n : ℕ) → from (names_at ss vs) i n ≡ names_from ss vs i n
names-are ss vs i zero = refl
names-are ss vs i (suc n) = ap (λ rs. names_at ss vs i ∷ rs) (names-are ss vs (suc i) n)

-- ---- the law

-- multiples that begin with one of so many elements
first-long : (n : ℕ) (ss : List Source) (vs : List Val) (ls : List (List Val)) (l : List Val) (ms : List Carried)
    → generated ss vs ≡ map Many (l ∷ ls) ++ ms → AreLong n (l ∷ ls) → are_as_long (generated ss vs) ≡ list_all (is_long n) (generated ss vs)
first-long n ss vs ls l ms e h =
    ap are_as_long e ∙ ap (λ k. list_all (is_long k) (map Many ls ++ ms)) h.0 ∙ own (nat_eq n n) refl ∙ ap (λ k. nat_eq k n && list_all (is_long n) (map Many ls ++ ms)) (sym h.0) ∙ ap (list_all (is_long n)) (sym e)
  where
    own : (b : Bool) → nat_eq n n ≡ b → list_all (is_long n) (map Many ls ++ ms) ≡ (b && list_all (is_long n) (map Many ls ++ ms))
    own true e = refl
    own false e = let same : nat_eq n n ≡ true = grind (arith) in absurd (grind (arith, e, same))

first-places : (n : ℕ) (ms : List Carried) (l : List Val) (ls : List (List Val)) (os : List Carried) → ms ≡ map Many (l ∷ ls) ++ os → length l ≡ n → forms.places_of ms ≡ n
first-places n ms l ls os e h = ap forms.places_of e ∙ h

through : (s : Source) (ss : List Source) (vs : List Val) (q : Places) → AllMade ss (drop (width s) vs) → Made s vs q → q ≡ size_of s (value_at vs 0) (value_at vs 1)
    → first_failure (q ∷ sizes_of ss (drop (width s) vs)) ≡ None → first_spoiled (generated (s ∷ ss) vs) ≡ None
    → AllMade (s ∷ ss) vs → GoThrough (s ∷ ss) vs (common (q ∷ sizes_of ss (drop (width s) vs)))
through s ss vs _ ms (failed c os e) is f z all = absurd cc
through s ss vs _ ms (counted n l ls e k) is f z all = go (are_size n (sizes_of ss (drop (width s) vs))) refl
  where
    others : List Carried
    others = generated ss (drop (width s) vs)

    begins : generated (s ∷ ss) vs ≡ map Many (l ∷ ls) ++ others
    begins = ap (λ os. os ++ others) e

    sizes : are_size n (sizes_of (s ∷ ss) vs) ≡ are_size n (sizes_of ss (drop (width s) vs))
    sizes = ap (λ q. if is_size n q then are_size n (sizes_of ss (drop (width s) vs)) else false) (sym is) ∙ own (nat_eq n n) refl
      where
        own : (b : Bool) → nat_eq n n ≡ b → (if b then are_size n (sizes_of ss (drop (width s) vs)) else false) ≡ are_size n (sizes_of ss (drop (width s) vs))
        own true e = refl
        own false e = let same : nat_eq n n ≡ true = grind (arith) in absurd (grind (arith, e, same))

    failure : first_failure (sizes_of (s ∷ ss) vs) ≡ None
    failure = ap (λ q. first_failure (q ∷ sizes_of ss (drop (width s) vs))) (sym is) ∙ f

    lengths : are_as_long (generated (s ∷ ss) vs) ≡ are_size n (sizes_of ss (drop (width s) vs))
    lengths = first-long n (s ∷ ss) vs ls l others begins k.long ∙ all-sized n (s ∷ ss) vs all failure ∙ sizes

    go : (b : Bool) → are_size n (sizes_of ss (drop (width s) vs)) ≡ b → GoThrough (s ∷ ss) vs (if b then places.Count n else places.Failed cause.Size)
    go true g =
        let r = have-columns n (s ∷ ss) vs all failure (sizes ∙ g) in
        record {
          none = z;
          long = lengths ∙ g;
          are = ap (λ m. forms.rows_of m (map items (generated (s ∷ ss) vs))) (first-places n (generated (s ∷ ss) vs) l ls others begins k.long.0)
              ∙ ap (forms.rows_of n) (ap (map items) r.are ∙ items-many r.lists)
              ∙ rows-are n 0 (names_at (s ∷ ss) vs) r.lists r.columns.long (λ i lt. let x : i ≡ 0 + i = omega arith in r.columns.rows i lt ∙ ap (names_at (s ∷ ss) vs) x)
              ∙ ap (map (map Value)) (names-are (s ∷ ss) vs 0 n);
        }
    go false g = inr (z, lengths ∙ g, refl)

pub goes-through : (ss : List Source) (vs : List Val) → AllMade ss vs → GoThrough ss vs (places_of ss vs)
goes-through ss vs m = go (first_failure (sizes_of ss vs)) refl
  where
    go : (f : Option Cause) → first_failure (sizes_of ss vs) ≡ f → GoThrough ss vs (unless_failed f (common (sizes_of ss vs)))
    go (Some c) e = inl (fails ss vs c m e)
    go None e = whole ss vs m e
      where
        whole : (ss : List Source) (vs : List Val) → AllMade ss vs → first_failure (sizes_of ss vs) ≡ None → GoThrough ss vs (common (sizes_of ss vs))
        whole [] vs m e = record { none = refl; long = refl; are = refl }
        whole (s ∷ ss) vs m e = through s ss vs (size_of s (value_at vs 0) (value_at vs 1)) m.1 m.0 refl e (clean (s ∷ ss) vs m e) m

pub do-go-through : DoGoThrough
do-go-through ss tys names vs g h = goes-through ss vs (all-made ss tys names g vs h)
