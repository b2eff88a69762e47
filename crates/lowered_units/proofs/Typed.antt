-- The table of types of a translated unit is formed.
use Rattle.std.proofs.Common.{◌≡◌, ℕ, zero, suc, ◌+◌, ◌<◌, ◌≤◌, ◌⊎◌, inl, inr, true, List, [], ◌∷◌, ◌++◌, map, length, slice_get, Some, None, refl, sym, ap, subst, ◌∙◌, arith, option_map}
use Rattle.std.specs.Prelude.{All, is_some}
use Rattle.std.specs.List.Sorted.{IsStrictlyIncreasing}
use Rattle.std.proofs.lemmas.List.Elements.{All-nil, All-cons}
use Rattle.std.proofs.lemmas.Option.{slice_get_within}
use Rattle.if1_graph.specs.Spelling.{IsName}
use Rattle.if1_graph.specs.declared.graph.TypeEntry.{TypeEntry}
use Rattle.if1_graph.specs.Formed.{IsType, IsTypeOrEnd, AreNumbers as AreEntryNumbers, IsEntry, IsTable as IsTypeTable}
use Rattle.if1_graph.specs.Kinds.{kind_at, basic_at}
use Rattle.if1_graph.specs.Ports.{count_from}
use Rattle.type_table.specs.declared.form.Form.TheVariants.{Integer}
use Rattle.typed_tree.specs.declared.program.Function.{Function}
use Rattle.typed_tree.specs.declared.program.Program.{Program}
use Rattle.typed_tree.specs.Types.{AreNumbers}
use Rattle.fitting_trees.specs.Fitting.{Header, FunctionFits, FunctionsFit}
use Rattle.lowering.specs.declared.feed.Carried.TheVariants.{One}
use Rattle.lowering.specs.declared.graph.Lowered.{Lowered}
use Rattle.lowering.specs.Graphs.{size, graph_lines}
use Rattle.lowering.specs.Programs.{functions_lowered}
use Rattle.lowering.specs.Types.{Entry, Table, basics, with_types, function_label, Need, header_need, body_needs, with_needs, table}
use Rattle.lowering.specs.TooMany.{most_types, too_many}
use Rattle.lowered_units.specs.Fitting.{HaveMembers, IsFitting}
use Rattle.lowered_units.specs.Units.{entries_from}
use Rattle.lowered_units.proofs.Built.{AreTypes, AllBuilt, no_graph, a_graph}
use Rattle.lowered_units.proofs.BuiltTrees.{numbers-types}
use Rattle.lowered_units.proofs.Canonical.{as_type, entry-is}
use Rattle.lowered_units.proofs.Lines.{all-lines}
use Rattle.lowered_units.proofs.Members.{few-entries}
use Rattle.lowered_units.proofs.Ordered.{rising}
use Rattle.lowered_units.proofs.Programs.{functions, basics as basic_types, program-built, function-count}
use Rattle.lowered_units.proofs.Tabled.{IsSound, AreSound, IsWellTable, IsHeaded, AreIn, function-well, lines-well, basics-well}

-- ---- the table is well

function-at : {A : Type 0} (P : A → Type 0) (fs : List A) → All P fs → (k : ℕ) (f : A) → slice_get fs k ≡ Some f → P f
function-at P [] h k f e = absurd cc
function-at P (x ∷ fs) h zero f e = subst P (same e) (h 0 x (omega arith))
  where
    same : Some x ≡ Some f → x ≡ f
    same e = cc
function-at P (x ∷ fs) h (suc k) f e = function-at P fs (λ i d l. h (suc i) d (omega (arith, l))) k f e

module _ (p : Program) (fit : IsFitting p) (members : HaveMembers p.types) where
  in-types : (ns : List ℕ) → AreTypes p.types (functions p fit) (map One ns) → AreIn p.types p.names fit.visible fit.types members ns
  in-types [] h = tt
  in-types (n ∷ ns) h = (h.0, in-types ns h.1)

  pub integers-in : 2 < length p.types
  integers-in = slice_get_within p.types 2 Integer (basic_types p fit).integers

  fits-at : (gs : List Header) (fs : List Function) → FunctionsFit (AreNumbers p.types p.names) fit.headers gs fs → (k : ℕ) (f : Function) → slice_get fs k ≡ Some f → (h : Header) × FunctionFits (AreNumbers p.types p.names) fit.headers h f
  fits-at [] [] h k f e = absurd cc
  fits-at [] (x ∷ fs) h k f e = absurd h
  fits-at (g ∷ gs) [] h k f e = absurd h
  fits-at (g ∷ gs) (x ∷ fs) h zero f e = (g, subst (FunctionFits (AreNumbers p.types p.names) fit.headers g) (same e) h.0)
    where
      same : Some x ≡ Some f → x ≡ f
      same e = cc
  fits-at (g ∷ gs) (x ∷ fs) h (suc k) f e = fits-at gs fs h.1 k f e

  pub headed : (k : ℕ) (f : Function) → slice_get p.functions k ≡ Some f → IsHeaded p.types p.names fit.visible fit.types members f
  headed k f e =
      let r = fits-at fit.headers p.functions fit.tree.fits k f e in
      record {
        params = in-types f.params (numbers-types p.types p.names (functions p fit) f.params r.0.params r.1.params);
        results = in-types f.results (numbers-types p.types p.names (functions p fit) f.results r.0.results r.1.results);
        some = function-at (λ f. 1 ≤ length f.results) p.functions fit.results k f e;
      }

  pub headers-well : (fs : List Function) → ((k : ℕ) (f : Function) → slice_get fs k ≡ Some f → IsHeaded p.types p.names fit.visible fit.types members f) → (ns : List Need) → ((ts : Table) → IsWellTable ts → IsWellTable (with_needs ns ts)) → (ts : Table) → IsWellTable ts
      → IsWellTable (with_needs (map (header_need p) fs ++ ns) ts)
  headers-well [] h ns g ts w = g ts w
  headers-well (f ∷ fs) h ns g ts w =
      headers-well fs (λ k x e. h (suc k) x e) ns g (function_label p.types p.names f ts).table (function-well p.types p.names fit.visible fit.types members f (h 0 f refl) ts w).0.well

  pub bodies-well : (fs : List Function) (q : ℕ) (ms : List Lowered) → AllBuilt p.types (functions p fit) q ms → (ts : Table) → IsWellTable ts → IsWellTable (with_needs (body_needs p fs ms) ts)
  bodies-well [] q ms b ts w = w
  bodies-well (f ∷ fs) _ _ (no_graph q) ts w = w
  bodies-well (f ∷ fs) _ _ (a_graph q m ms h r) ts w =
      let lines = all-lines p.types (functions p fit) integers-in q (m ∷ []) (a_graph q m [] h (no_graph (q + size m))) in
      bodies-well fs (q + size m) ms r (with_types p.types p.names p.functions (graph_lines (m ∷ [])) ts)
      (lines-well p.types p.names fit.visible fit.types members p.functions headed (functions p fit) (function-count p fit) integers-in (graph_lines (m ∷ [])) lines ts w)

  pub table-well : IsWellTable (table p)
  table-well = headers-well p.functions headed (body_needs p p.functions (functions_lowered p)) (λ ts w. bodies-well p.functions 1 (functions_lowered p) (program-built p fit) ts w) basics basics-well

  -- ---- at most so many types

  pub few-types : too_many p ≡ None → length (table p) ≤ most_types
  few-types e = few-entries p e

  -- ---- the types of the unit

  labels-from : (label : ℕ) (ts : Table) → map (λ (e : TypeEntry). e.label) (entries_from p label ts) ≡ count_from label (length ts)
  labels-from label [] = refl
  labels-from label (t ∷ ts) = ap (λ l. label ∷ l) (labels-from (suc label) ts)

  length-entries : (label : ℕ) (ts : Table) → length (entries_from p label ts) ≡ length ts
  length-entries label [] = refl
  length-entries label (t ∷ ts) = ap suc (length-entries (suc label) ts)

  pub is-type : (ts : Table) (l : ℕ) → 1 ≤ l → l ≤ length ts → IsType (entries_from p 1 ts) l
  is-type ts zero h k = absurd (omega (arith, h))
  is-type ts (suc l) h k = ap is_some (entry-is p ts l) ∙ any (as_type p (suc l)) ts l (omega (arith, k))
    where
      any : (f : Entry → TypeEntry) (ts : Table) (l : ℕ) → l < length ts → is_some (option_map f (slice_get ts l)) ≡ true
      any f [] l k = absurd (omega (arith, k))
      any f (t ∷ ts) zero k = refl
      any f (t ∷ ts) (suc l) k = any f ts l (omega (arith, k))

  or-end : (ts : Table) (l : ℕ) → l ≤ length ts → IsTypeOrEnd (entries_from p 1 ts) l
  or-end ts zero k = inl refl
  or-end ts (suc l) k = inr (is-type ts (suc l) (omega arith) k)

  sound-numbers : (ts : Table) (e : Entry) → IsSound (length ts) e → AreEntryNumbers (entries_from p 1 ts) (kind_at e.code) e.first e.second
  sound-numbers ts e (inl h) =
      let Goal = λ (c f s : ℕ). AreEntryNumbers (entries_from p 1 ts) (kind_at c) f s in
      elim h.first [
        | inl f ↦ (subst (λ c. Goal c e.first e.second) (sym h.code) (ap (λ k. is_some (basic_at k)) f, h.second))
        | inr r ↦ elim r [
          | inl f ↦ (subst (λ c. Goal c e.first e.second) (sym h.code) (ap (λ k. is_some (basic_at k)) f, h.second))
          | inr r ↦ elim r [
            | inl f ↦ (subst (λ c. Goal c e.first e.second) (sym h.code) (ap (λ k. is_some (basic_at k)) f, h.second))
            | inr f ↦ (subst (λ c. Goal c e.first e.second) (sym h.code) (ap (λ k. is_some (basic_at k)) f, h.second))
          ]
        ]
      ]
  sound-numbers ts e (inr (inl h)) = over h.code
    where
      here : IsType (entries_from p 1 ts) e.first × (e.second ≡ 0)
      here = (is-type ts e.first h.least h.most, h.second)

      over : (e.code ≡ 0) ⊎ ((e.code ≡ 4) ⊎ ((e.code ≡ 5) ⊎ ((e.code ≡ 6) ⊎ (e.code ≡ 9)))) → AreEntryNumbers (entries_from p 1 ts) (kind_at e.code) e.first e.second
      over (inl c) = subst (λ c. AreEntryNumbers (entries_from p 1 ts) (kind_at c) e.first e.second) (sym c) here
      over (inr (inl c)) = subst (λ c. AreEntryNumbers (entries_from p 1 ts) (kind_at c) e.first e.second) (sym c) here
      over (inr (inr (inl c))) = subst (λ c. AreEntryNumbers (entries_from p 1 ts) (kind_at c) e.first e.second) (sym c) here
      over (inr (inr (inr (inl c)))) = subst (λ c. AreEntryNumbers (entries_from p 1 ts) (kind_at c) e.first e.second) (sym c) here
      over (inr (inr (inr (inr c)))) = subst (λ c. AreEntryNumbers (entries_from p 1 ts) (kind_at c) e.first e.second) (sym c) here
  sound-numbers ts e (inr (inr (inl h))) = member h.code
    where
      here : IsType (entries_from p 1 ts) e.first × IsTypeOrEnd (entries_from p 1 ts) e.second
      here = (is-type ts e.first h.least h.most, or-end ts e.second h.second)

      member : (e.code ≡ 2) ⊎ ((e.code ≡ 7) ⊎ (e.code ≡ 8)) → AreEntryNumbers (entries_from p 1 ts) (kind_at e.code) e.first e.second
      member (inl c) = subst (λ c. AreEntryNumbers (entries_from p 1 ts) (kind_at c) e.first e.second) (sym c) here
      member (inr (inl c)) = subst (λ c. AreEntryNumbers (entries_from p 1 ts) (kind_at c) e.first e.second) (sym c) here
      member (inr (inr c)) = subst (λ c. AreEntryNumbers (entries_from p 1 ts) (kind_at c) e.first e.second) (sym c) here
  sound-numbers ts e (inr (inr (inr h))) =
      subst (λ c. AreEntryNumbers (entries_from p 1 ts) (kind_at c) e.first e.second) (sym h.code) (or-end ts e.first h.first, is-type ts e.second h.least h.most)

  sound-name : (n : ℕ) (e : Entry) → IsSound n e → IsName e.name
  sound-name n e (inl h) = h.name
  sound-name n e (inr (inl h)) = subst IsName (sym h.name) refl
  sound-name n e (inr (inr (inl h))) = h.name
  sound-name n e (inr (inr (inr h))) = subst IsName (sym h.name) refl

  each-entry : (whole : Table) → length whole ≤ most_types → (label : ℕ) (ts : Table) → 1 ≤ label → label + length ts ≤ suc (length whole) → AreSound (length whole) ts → All (IsEntry (entries_from p 1 whole)) (entries_from p label ts)
  each-entry whole few label [] one l h = All-nil (IsEntry (entries_from p 1 whole))
  each-entry whole few label (t ∷ ts) one l h =
      All-cons (IsEntry (entries_from p 1 whole)) (as_type p label t) (entries_from p (suc label) ts)
      (record { label = (one, omega (arith, l, few)); numbers = sound-numbers whole t h.0; name = sound-name (length whole) t h.0 })
      (each-entry whole few (suc label) ts (omega arith) (omega (arith, l)) h.1)

  pub types-formed : too_many p ≡ None → IsTypeTable (entries_from p 1 (table p))
  types-formed e =
      let few = few-types e in
      record {
        rising = subst IsStrictlyIncreasing (sym (labels-from 1 (table p))) (rising 1 (length (table p)));
        entries = each-entry (table p) few 1 (table p) (omega arith) (omega arith) table-well.sound;
        few = omega (arith, few, length-entries 1 (table p));
      }
