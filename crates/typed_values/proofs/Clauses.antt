-- Clauses over values of their types give values of what they make, and the names of generators belong to their types.
use Rattle.std.proofs.Common.{◌≡◌, ◌⊎◌, inl, inr, ℕ, zero, suc, ℤ, pos, List, [], ◌∷◌, ◌++◌, drop, ap, sym, subst, refl}
use Rattle.std.specs.Prelude.{◌+ℤ◌}
use Rattle.std.specs.List.{list_all}
use Rattle.flow_value.specs.declared.value.Val.{Val}
use Rattle.flow_value.specs.declared.value.Val.TheOpen.{Val-F}
use Rattle.flow_value.specs.declared.value.Val.TheViews.{out-Val}
use Rattle.flow_value.specs.declared.cause.Cause.TheVariants as cause
use Rattle.flow_value.specs.declared.ty.Ty.{Ty}
use Rattle.flow_value.specs.declared.ty.Ty.TheVariants as ty
use Rattle.flow_value.specs.Well.{is_well}
use Rattle.loop_folds.specs.Folds.{elements_of}
use Rattle.loop_folds.specs.declared.folding.Folding.{Folding}
use Rattle.loop_folds.specs.declared.masking.Masking.{Masking}
use Rattle.loop_folds.specs.declared.masking.Masking.TheVariants as masking
use Rattle.loop_folds.specs.Clauses.{Cell, ClauseCells, fold_value}
use Rattle.loop_folds.specs.Masks.{keep_of}
use Rattle.typed_tree.specs.declared.expr.ClauseForm.{ClauseForm}
use Rattle.typed_tree.specs.declared.expr.Source.{Source}
use Rattle.meaning.specs.Words.{value_at}
use Rattle.meaning.specs.Sources.{number_in, index_in, names_at}
use Rattle.meaning.specs.Rows.{span, cells_in, with_cells, no_rows, with_row, with_rows, made}
use Rattle.fitting_units.specs.Fitting.{Goes, Makes, AreMade}
use Rattle.fitting_units.specs.Fitting as is
use Rattle.typed_rows.specs.Rows.{Of, AreOf, CellsOf}
use Rattle.typed_rows.proofs.ValueKinds.{as_arr, as_stream, of_error}
use Rattle.typed_rows.proofs.Scalars.{of_fitted}
use Rattle.typed_rows.proofs.Rows.{and_two}
use Rattle.typed_rows.proofs.Folds.{AllOf, array_elements, stream_elements, folds_well}
use Rattle.typed_values.proofs.AsRows.{makes_as}

one_more : (a : Ty) (cells : List Cell) (x : Cell) → CellsOf a cells → Of a x.0 → CellsOf a (cells ++ x ∷ [])
one_more a [] x h k = (k, tt)
one_more a (y ∷ cells) x h k = (h.0, one_more a cells x h.1 k)

-- clauses with their cells so far
pub data Filled : List ClauseForm → List Ty → List Ty → List ClauseCells → Type 0 where
  no_filled : Filled [] [] [] []
  a_filled : {c : ClauseForm} {cs : List ClauseForm} {a b : Ty} {tys made : List Ty} {f : ClauseCells} {fs : List ClauseCells}
      → c.masking ≡ masking.All → Makes c.folding a b → f.folding ≡ c.folding → CellsOf a f.cells → Filled cs tys made fs → Filled (c ∷ cs) (a ∷ tys) (b ∷ made) (f ∷ fs)
  a_masked : {c : ClauseForm} {cs : List ClauseForm} {a b : Ty} {tys made : List Ty} {f : ClauseCells} {fs : List ClauseCells}
      → (c.masking ≡ masking.When) ⊎ (c.masking ≡ masking.Unless) → Makes c.folding a b → f.folding ≡ c.folding → CellsOf a f.cells → Filled cs tys made fs → Filled (c ∷ cs) (a ∷ ty.Bool ∷ tys) (b ∷ made) (f ∷ fs)

pub no_rows_filled : (cs : List ClauseForm) (row made : List Ty) → AreMade cs row made → Filled cs row made (no_rows cs)
no_rows_filled _ _ _ is.no_clause = no_filled
no_rows_filled _ _ _ (is.unmasked {cs = cs} {tys = tys} {made = made} m k h) = a_filled m k refl tt (no_rows_filled cs tys made h)
no_rows_filled _ _ _ (is.masked {cs = cs} {tys = tys} {made = made} m k h) = a_masked m k refl tt (no_rows_filled cs tys made h)

span_two : (m : Masking) → (m ≡ masking.When) ⊎ (m ≡ masking.Unless) → span m ≡ 2
span_two m (inl e) = ap span e
span_two m (inr e) = ap span e

pub row_filled : (cs : List ClauseForm) (row made : List Ty) (fs : List ClauseCells) → Filled cs row made fs → (vs : List Val) → AreOf row vs → Filled cs row made (with_row cs fs vs)
row_filled _ _ _ _ no_filled vs h = no_filled
row_filled _ _ _ _ (a_filled m k e w r) [] h = absurd h
row_filled _ _ _ _ (a_filled {c = c} {cs = cs} {a = a} {tys = tys} {made = made} {f = f} {fs = fs} m k e w r) (v ∷ vs) h =
    a_filled m k e (one_more a f.cells (v, keep_of c.masking (value_at (v ∷ vs) 1)) w h.0)
    (subst (λ n. Filled cs tys made (with_cells fs (cells_in cs (drop n (v ∷ vs))))) (sym (ap span m)) (row_filled cs tys made fs r vs h.1))
row_filled _ _ _ _ (a_masked m k e w r) [] h = absurd h
row_filled _ _ _ _ (a_masked m k e w r) (v ∷ []) h = absurd h.1
row_filled _ _ _ _ (a_masked {c = c} {cs = cs} {a = a} {tys = tys} {made = made} {f = f} {fs = fs} m k e w r) (v ∷ x ∷ vs) h =
    a_masked m k e (one_more a f.cells (v, keep_of c.masking (value_at (v ∷ x ∷ vs) 1)) w h.0)
    (subst (λ n. Filled cs tys made (with_cells fs (cells_in cs (drop n (v ∷ x ∷ vs))))) (sym (span_two c.masking m)) (row_filled cs tys made fs r vs h.1.1))

abbrev pub RowsOf : List Ty → List (List Val) → Type 0
RowsOf row [] = Unit {0}
RowsOf row (r ∷ rs) = AreOf row r × RowsOf row rs

rows_filled : (cs : List ClauseForm) (row made : List Ty) (fs : List ClauseCells) (rows : List (List Val)) → Filled cs row made fs → RowsOf row rows → Filled cs row made (with_rows cs fs rows)
rows_filled cs row made fs [] h k = h
rows_filled cs row made fs (r ∷ rows) h k = rows_filled cs row made (with_row cs fs r) rows (row_filled cs row made fs h r k.0) k.1

cell_well : (g f : Folding) (a b : Ty) (lower : ℤ) (cells : List Cell) → g ≡ f → Makes f a b → CellsOf a cells → Of b (fold_value g lower cells)
cell_well g f a b lower cells e k h = subst (λ g. Of b (fold_value g lower cells)) (sym e) (folds_well f a b (makes_as f a b k) lower cells h)

filled_well : (cs : List ClauseForm) (row ts : List Ty) (fs : List ClauseCells) → Filled cs row ts fs → (lower : ℤ) → AreOf ts (made lower fs)
filled_well _ _ _ _ no_filled lower = tt
filled_well _ _ _ _ (a_filled {c = c} {cs = cs} {a = a} {b = b} {tys = tys} {made = ts} {f = f} {fs = fs} m k e w r) lower = (cell_well f.folding c.folding a b lower f.cells e k w, filled_well cs tys ts fs r lower)
filled_well _ _ _ _ (a_masked {c = c} {cs = cs} {a = a} {b = b} {tys = tys} {made = ts} {f = f} {fs = fs} m k e w r) lower = (cell_well f.folding c.folding a b lower f.cells e k w, filled_well cs tys ts fs r lower)

-- *folds and masks*
pub made_well : (cs : List ClauseForm) (row ts : List Ty) → AreMade cs row ts → (lower : ℤ) (rows : List (List Val)) → RowsOf row rows → AreOf ts (made lower (with_rows cs (no_rows cs) rows))
made_well cs row ts m lower rows h = filled_well cs row ts (with_rows cs (no_rows cs) rows) (rows_filled cs row ts (no_rows cs) rows (no_rows_filled cs row ts m) h) lower

-- ---- generators

number_well : (y : Val-F Val) (i : ℕ) → Of ty.Int (number_in y i)
number_well (Val-F.Int lo) i = of_fitted (lo +ℤ pos i)
number_well _ i = of_error ty.Int cause.Explicit

index_well : (y : Val-F Val) (i : ℕ) → Of ty.Int (index_in y i)
index_well (Val-F.Arr a) i = of_fitted (a.lo +ℤ pos i)
index_well (Val-F.Stream vs) i = of_fitted (pos 1 +ℤ pos i)
index_well _ i = of_error ty.Int cause.Explicit

at_well : (a : Ty) (vs : List Val) (i : ℕ) → AllOf a vs → Of a (value_at vs i)
at_well a [] i h = of_error a cause.Explicit
at_well a (v ∷ vs) zero h = (and_two (is_well a v) (list_all (is_well a) vs) h).0
at_well a (v ∷ vs) (suc i) h = at_well a vs i (and_two (is_well a v) (list_all (is_well a) vs) h).1

pub names_well : (ss : List Source) (tys names : List Ty) → Goes ss tys names → (vs : List Val) → AreOf tys vs → (i : ℕ) → AreOf names (names_at ss vs i)
names_well _ _ _ is.no_source vs h i = tt
names_well _ _ _ (is.over_range r) [] h i = absurd h
names_well _ _ _ (is.over_range r) (v ∷ []) h i = absurd h.1
names_well _ _ _ (is.over_range {ss = ss} {bounds = bounds} {names = names} r) (v ∷ w ∷ vs) h i = (number_well (out-Val v) i, names_well ss bounds names r vs h.1.1 i)
names_well _ _ _ (is.over_array a r) [] h i = absurd h
names_well _ _ _ (is.over_array {ss = ss} {bounds = bounds} {names = names} a r) (v ∷ vs) h i = (at_well a (elements_of v) i (array_elements a v (as_arr a v h.0)), names_well ss bounds names r vs h.1 i)
names_well _ _ _ (is.over_stream a r) [] h i = absurd h
names_well _ _ _ (is.over_stream {ss = ss} {bounds = bounds} {names = names} a r) (v ∷ vs) h i = (at_well a (elements_of v) i (stream_elements a v (as_stream a v h.0)), names_well ss bounds names r vs h.1 i)
names_well _ _ _ (is.over_array_at a r) [] h i = absurd h
names_well _ _ _ (is.over_array_at {ss = ss} {bounds = bounds} {names = names} a r) (v ∷ vs) h i = (at_well a (elements_of v) i (array_elements a v (as_arr a v h.0)), (index_well (out-Val v) i, names_well ss bounds names r vs h.1 i))
names_well _ _ _ (is.over_stream_at a r) [] h i = absurd h
names_well _ _ _ (is.over_stream_at {ss = ss} {bounds = bounds} {names = names} a r) (v ∷ vs) h i = (at_well a (elements_of v) i (stream_elements a v (as_stream a v h.0)), (index_well (out-Val v) i, names_well ss bounds names r vs h.1 i))
