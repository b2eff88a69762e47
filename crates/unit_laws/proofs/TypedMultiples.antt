-- Multiples that generators make and folds take are of the types that their rows want.
use Rattle.std.proofs.Common.{◌≡◌, ℕ, zero, suc, ◌+◌, ◌<◌, ◌≤◌, ℤ, pos, negsuc, Bool, true, false, List, [], ◌∷◌, map, length, refl, ap, subst, arith, if◌then◌else◌}
use Rattle.std.specs.Prelude.{◌+ℤ◌, ◌-ℤ◌, int_le}
use Rattle.std.specs.List.{list_all}
use Rattle.std.proofs.lemmas.Int.{ints}
use Rattle.std.proofs.lemmas.Bool.{lt-ltb, ltb-true, leb-true}
use Rattle.flow_value.specs.Bounds.{is_few, is_in_range}
use Rattle.flow_value.specs.Scalar.{fits_64}
use Rattle.flow_value.specs.declared.ty.Ty.{Ty}
use Rattle.flow_value.specs.declared.ty.Ty.TheVariants as ty
use Rattle.flow_value.specs.declared.cause.Cause.TheVariants as cause
use Rattle.flow_value.specs.declared.value.Val.{Val}
use Rattle.flow_value.specs.Well.{is_well}
use Rattle.value_ops.specs.Aggregates.{places, natural}
use Rattle.loop_folds.specs.declared.folding.Folding.{Folding}
use Rattle.loop_folds.specs.declared.masking.Keep.TheVariants.{Kept}
use Rattle.if1_graph.specs.Types.{Many}
use Rattle.graph_meaning.specs.Carried.{Carried, Value, Spoiled, Name, Unfilled, vals, val_of}
use Rattle.graph_meaning.specs.Carried as carried
use Rattle.graph_meaning.specs.NodeValues.{rising, range, range_of, scatter_in, scatter_of, masked, cells_of, folded, fold_of, gather_from}
use Rattle.typed_rows.specs.Rows.{Of, Makes, CellsOf}
use Rattle.typed_rows.proofs.ValueKinds.{IntKind, an_int, no_int, ArrKind, an_arr, no_arr, StreamKind, a_stream, no_stream, of_int, of_error, out_err, out_arr, out_stream}
use Rattle.typed_rows.proofs.Rows.{and_two, parts_of}
use Rattle.typed_rows.proofs.Folds.{folds_well}
use Rattle.unit_laws.specs.Typed.{Belongs}

-- ---- whole numbers in a row

abbrev Fit : ℤ → ℕ → Type 0
Fit lo n = (i : ℕ) → i < n → fits_64 (lo +ℤ pos i) ≡ true

rising-well : (n : ℕ) (lo : ℤ) → Fit lo n → list_all (is_well ty.Int) (rising lo n) ≡ true
rising-well zero lo h = refl
rising-well (suc n) lo h =
    let here : lo +ℤ pos 0 ≡ lo = omega (arith, ints) in
    rw (of_int lo (subst (λ z. fits_64 z ≡ true) here (h 0 (omega arith))), rising-well n (lo +ℤ pos 1) (λ i lt. subst (λ z. fits_64 z ≡ true) (next i) (h (suc i) (omega (arith, lt))))) refl
  where
    next : (i : ℕ) → lo +ℤ pos (suc i) ≡ (lo +ℤ pos 1) +ℤ pos i
    next i = omega (arith, ints)

-- below a number that fits nothing comes that doesn't, but under the lowest
low-fits : (lo : ℤ) (i m : ℕ) → fits_64 lo ≡ true → lo +ℤ pos i ≡ negsuc m → m < 9223372036854775808
low-fits (pos a) i m f e = absurd (omega (arith, ints, e))
low-fits (negsuc a) i m f e = let l : a < 9223372036854775808 = ltb-true a 9223372036854775808 f in omega (arith, ints, e, l)

high-fits : (lo y : ℤ) (i n m : ℕ) → i < n → lo +ℤ pos n ≡ y → int_le y (pos 9223372036854775808) ≡ true → lo +ℤ pos i ≡ pos m → m < 9223372036854775808
high-fits lo (pos k) i n m lt e le f = let l : k ≤ 9223372036854775808 = leb-true k 9223372036854775808 le in omega (arith, ints, lt, e, l, f)
high-fits lo (negsuc k) i n m lt e le f = absurd (omega (arith, ints, lt, e, f))

places-fit : (lo : ℤ) (n : ℕ) → fits_64 lo ≡ true → is_in_range lo n ≡ true → Fit lo n
places-fit lo n f r i lt = go (lo +ℤ pos i) refl
  where
    le : int_le (lo +ℤ pos n) (pos 9223372036854775808) ≡ true
    le = (and_two (int_le (negsuc 9223372036854775806) (lo +ℤ pos n)) (int_le (lo +ℤ pos n) (pos 9223372036854775808)) r).1

    go : (z : ℤ) → lo +ℤ pos i ≡ z → fits_64 z ≡ true
    go (pos m) e = lt-ltb m 9223372036854775808 (high-fits lo (lo +ℤ pos n) i n m lt refl le e)
    go (negsuc m) e = lt-ltb m 9223372036854775808 (low-fits lo i m f e)

below-fits : (lo hi w : ℤ) (i m : ℕ) → fits_64 hi ≡ true → (hi +ℤ pos 1) -ℤ lo ≡ w → i < natural w → lo +ℤ pos i ≡ pos m → m < 9223372036854775808
below-fits lo (pos h) (pos k) i m f e lt g = let l : h < 9223372036854775808 = ltb-true h 9223372036854775808 f in omega (arith, ints, l, e, lt, g)
below-fits lo (negsuc h) (pos k) i m f e lt g = absurd (omega (arith, ints, e, lt, g))
below-fits lo hi (negsuc k) i m f e lt g = absurd (omega (arith, lt))

range-fits : (lo hi : ℤ) → fits_64 lo ≡ true → fits_64 hi ≡ true → Fit lo (places lo hi)
range-fits lo hi f h i lt = go (lo +ℤ pos i) refl
  where
    go : (z : ℤ) → lo +ℤ pos i ≡ z → fits_64 z ≡ true
    go (pos m) e = lt-ltb m 9223372036854775808 (below-fits lo hi ((hi +ℤ pos 1) -ℤ lo) i m h refl lt e)
    go (negsuc m) e = lt-ltb m 9223372036854775808 (low-fits lo i m f e)

range-well : (lo hi : ℤ) → fits_64 lo ≡ true → fits_64 hi ≡ true → Belongs (Many ty.Int) (range lo hi)
range-well lo hi f h = go (is_few (places lo hi))
  where
    go : (b : Bool) → Belongs (Many ty.Int) (if b then carried.Many (rising lo (places lo hi)) else Spoiled cause.Size)
    go true = rising-well (places lo hi) lo (range-fits lo hi f h)
    go false = tt

pub range-of-well : (v w : Val) → IntKind v → IntKind w → Belongs (Many ty.Int) (range_of (v ∷ w ∷ []))
range-of-well _ _ (an_int m f) (an_int n h) = range-well m n f h
range-of-well _ _ (an_int m f) (no_int c) = tt
range-of-well _ w (no_int c) k = tt

-- ---- elements of arrays and streams

few-fit : (n : ℕ) → is_few n ≡ true → Fit (pos 1) n
few-fit n few i lt = let l : n ≤ 4194304 = leb-true n 4194304 few in lt-ltb (1 + i) 9223372036854775808 (omega (arith, l, lt))

pub record AreScattered (t : Ty) (cs : List Carried) : Type 0 where
  pub elements : Carried
  pub indices : Carried
  pub are : cs ≡ elements ∷ indices ∷ []
  pub of_type : Belongs (Many t) elements
  pub whole : Belongs (Many ty.Int) indices

pub array-scattered : (t : Ty) (v : Val) → ArrKind t v → AreScattered t (scatter_of (v ∷ []))
array-scattered t _ (an_arr a h) =
    let p = parts_of t a h in
    record {
      elements = carried.Many a.items;
      indices = carried.Many (rising a.lo (length a.items));
      are = ap scatter_in (out_arr a);
      of_type = p.all;
      whole = rising-well (length a.items) a.lo (places-fit a.lo (length a.items) p.low p.range);
    }
array-scattered t _ (no_arr c) = record { elements = Spoiled c; indices = Spoiled c; are = ap scatter_in (out_err c); of_type = tt; whole = tt }

pub stream-scattered : (t : Ty) (v : Val) → StreamKind t v → AreScattered t (scatter_of (v ∷ []))
stream-scattered t _ (a_stream vs h) =
    let p = and_two (is_few (length vs)) (list_all (is_well t) vs) h in
    record {
      elements = carried.Many vs;
      indices = carried.Many (rising (pos 1) (length vs));
      are = ap scatter_in (out_stream vs);
      of_type = p.1;
      whole = rising-well (length vs) (pos 1) (few-fit (length vs) p.0);
    }
stream-scattered t _ (no_stream c) = record { elements = Spoiled c; indices = Spoiled c; are = ap scatter_in (out_err c); of_type = tt; whole = tt }

-- ---- folds

masked-well : (t : Ty) (vs masks : List Val) → list_all (is_well t) vs ≡ true → CellsOf t (masked vs masks)
masked-well t [] masks h = tt
masked-well t (v ∷ vs) [] h = tt
masked-well t (v ∷ vs) (m ∷ masks) h = let z = and_two (is_well t v) (list_all (is_well t) vs) h in (z.0, masked-well t vs masks z.1)

kept-well : (t : Ty) (vs : List Val) → list_all (is_well t) vs ≡ true → CellsOf t (map (λ v. (v, Kept)) vs)
kept-well t [] h = tt
kept-well t (v ∷ vs) h = let z = and_two (is_well t v) (list_all (is_well t) vs) h in (z.0, kept-well t vs z.1)

cells-well : (t : Ty) (vs : List Val) (m : Carried) → list_all (is_well t) vs ≡ true → CellsOf t (cells_of vs m)
cells-well t vs (carried.Many masks) h = masked-well t vs masks h
cells-well t vs (Value v) h = kept-well t vs h
cells-well t vs (Spoiled c) h = kept-well t vs h
cells-well t vs (Name text) h = kept-well t vs h
cells-well t vs Unfilled h = kept-well t vs h

pub folded-well : (f : Folding) (t r : Ty) → Makes f t r → (lo : ℤ) (c m : Carried) → Belongs (Many t) c → Of r (folded f lo c m)
folded-well f t r k lo (Spoiled c) m h = of_error r c
folded-well f t r k lo (carried.Many vs) (Spoiled c) h = of_error r c
folded-well f t r k lo (carried.Many vs) (carried.Many masks) h = folds_well f t r k lo (masked vs masks) (masked-well t vs masks h)
folded-well f t r k lo (carried.Many vs) (Value v) h = folds_well f t r k lo (cells_of vs (Value v)) (kept-well t vs h)
folded-well f t r k lo (carried.Many vs) (Name text) h = folds_well f t r k lo (cells_of vs (Name text)) (kept-well t vs h)
folded-well f t r k lo (carried.Many vs) Unfilled h = folds_well f t r k lo (cells_of vs Unfilled) (kept-well t vs h)
folded-well f t r k lo (Value v) m h = absurd h
folded-well f t r k lo (Name text) m h = absurd h
folded-well f t r k lo Unfilled m h = absurd h

-- with or without a mask behind it
pub fold-well : (f : Folding) (t r : Ty) → Makes f t r → (lo : ℤ) (c : Carried) (ms : List Carried) → Belongs (Many t) c → Of r (fold_of f lo (c ∷ ms))
fold-well f t r k lo c [] h = folded-well f t r k lo c Unfilled h
fold-well f t r k lo c (m ∷ []) h = folded-well f t r k lo c m h
fold-well f t r k lo c (m ∷ n ∷ ms) h = of_error r cause.Explicit

pub gather-well : (f : Folding) (t r : Ty) → Makes f t r → (v : Val) (c : Carried) (ms : List Carried) → IntKind v → Belongs (Many t) c → Of r (gather_from f v (c ∷ ms))
gather-well f t r k _ c ms (an_int n e) h = fold-well f t r k n c ms h
gather-well f t r k _ c ms (no_int x) h = of_error r x
