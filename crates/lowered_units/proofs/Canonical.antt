-- Literals of a translated unit are spelled canonically.
use Rattle.std.proofs.Common.{◌≡◌, ℕ, zero, suc, ◌+◌, ◌≤◌, ℤ, inl, inr, Bool, true, false, cond, ◌&&◌, List, [], ◌∷◌, ◌++◌, length, slice_get, Option, Some, None, refl, sym, ap, subst, ◌∙◌, arith, rules, option_map}
use Rattle.std.specs.Prelude.{nat_eq, bytes_eq, if◌then◌else◌}
use Rattle.std.proofs.lemmas.Bool.{eqb-true}
use Rattle.std.proofs.lemmas.Bool.Decides.{eqb_tells}
use Rattle.flow_value.specs.declared.value.Val.TheVariants as val
use Rattle.flow_value.specs.declared.value.Val.TheOpen.{Val-F}
use Rattle.flow_value.specs.declared.value.Val.TheViews.{out-Val}
use Rattle.flow_value.specs.declared.value.Val.TheViews as values
use Rattle.sisal_tree.specs.declared.expr.Constant.{Constant}
use Rattle.sisal_tree.specs.declared.expr.Constant.TheVariants as constant
use Rattle.type_table.specs.declared.form.Form.{Form}
use Rattle.type_table.specs.declared.form.Form.TheVariants as form
use Rattle.typed_tree.specs.declared.program.Function.{Function}
use Rattle.typed_tree.specs.declared.program.Program.{Program}
use Rattle.if1_graph.specs.declared.graph.TypeEntry.{TypeEntry}
use Rattle.if1_graph.specs.declared.graph.Unit1.{Unit1}
use Rattle.if1_graph.specs.declared.kind.Basic.{Basic}
use Rattle.if1_graph.specs.declared.kind.Basic.TheVariants as basic
use Rattle.if1_graph.specs.declared.kind.TypeKind.TheVariants as kind
use Rattle.if1_graph.specs.declared.row.Want.{Want}
use Rattle.if1_graph.specs.declared.row.Want.TheVariants as want
use Rattle.if1_graph.specs.Kinds.{kind_at, basic_at}
use Rattle.if1_graph.specs.Literals.{literal, scalar_text}
use Rattle.if1_graph.specs.Normal.{text_for, canonical, canonical_as}
use Rattle.if1_graph.specs.Types.{entry_at}
use Rattle.lowering.specs.declared.feed.Carried.TheVariants.{One, Callee}
use Rattle.lowering.specs.Operations.{integer}
use Rattle.lowering.specs.Types.{Entry, entry, is_entry, Table, label_from, or_new, enter, basics, tuple_label, callee_label, table, label_of}
use Rattle.lowered_units.specs.Units.{constant_text, entries_from}
use Rattle.lowered_units.proofs.Built.{IsConstantOf}
use Rattle.lowered_units.proofs.Literals.{IsValueWant, integer_read, character_read, types-begin, label-is}
use Rattle.lowering.proofs.Tables.{grows-then, table-begins, enter-grows, tuple-grows}

-- ---- values as they are spelled

out-int : (n : ℤ) → out-Val (val.Int n) ≡ Val-F.Int n
out-int n = search (rules, values.the_lemmas)

out-char : (c : ℕ) → out-Val (val.Char c) ≡ Val-F.Char c
out-char c = search (rules, values.the_lemmas)

out-bool : (b : Bool) → out-Val (val.Bool b) ≡ Val-F.Bool b
out-bool b = search (rules, values.the_lemmas)

out-null : out-Val val.Null ≡ Val-F.Null
out-null = search (rules, values.the_lemmas)

-- ---- at a port that wants a value

value-canonical : (w : Option Want) (b : Basic) (text : List ℕ) → IsValueWant w → canonical w (Some kind.Basic) (Some b) text ≡ text_for text (literal b text)
value-canonical None b text h = refl
value-canonical (Some want.Function) b text h = absurd h
value-canonical (Some want.Reduction) b text h = absurd h
value-canonical (Some w) b text h = refl

module _ (p : Program) (u : Unit1) (is : u.types ≡ entries_from p 1 (table p)) where
  as-entry : (w : Option Want) (l : ℕ) (text : List ℕ) → canonical_as w (entry_at u.types l) text ≡ canonical_as w (entry_at (entries_from p 1 (basics ++ (table-begins p).rest)) l) text
  as-entry w l text = ap (λ ts. canonical_as w (entry_at ts l) text) (types-begin p u is)

  by-form : (w : Option Want) (c : Constant) (t : ℕ) (o : Option Form) → slice_get p.types t ≡ o → IsValueWant w → IsConstantOf c o → canonical_as w (entry_at u.types (label_of p (One t))) (constant_text c) ≡ constant_text c
  by-form w (constant.Integer n) t (Some form.Integer) e h k =
      ap (λ l. canonical_as w (entry_at u.types l) (constant_text (constant.Integer n))) (label-is p u is t form.Integer 3 e refl)
      ∙ (as-entry w 3 (constant_text (constant.Integer n)) ∙ (value-canonical w basic.Integer (constant_text (constant.Integer n)) h
      ∙ (ap (λ o. text_for (constant_text (constant.Integer n)) (option_map val.Int o)) (integer_read n k) ∙ ap scalar_text (out-int n))))
  by-form w (constant.Letter c) t (Some form.Character) e h k =
      ap (λ l. canonical_as w (entry_at u.types l) (constant_text (constant.Letter c))) (label-is p u is t form.Character 2 e refl)
      ∙ (as-entry w 2 (constant_text (constant.Letter c)) ∙ (value-canonical w basic.Character (constant_text (constant.Letter c)) h
      ∙ (ap (λ o. text_for (constant_text (constant.Letter c)) (option_map val.Char o)) (character_read c k) ∙ ap scalar_text (out-char c))))
  by-form w constant.True t (Some form.Boolean) e h k =
      ap (λ l. canonical_as w (entry_at u.types l) (constant_text constant.True)) (label-is p u is t form.Boolean 1 e refl)
      ∙ (as-entry w 1 (constant_text constant.True) ∙ (value-canonical w basic.Boolean (constant_text constant.True) h ∙ ap scalar_text (out-bool true)))
  by-form w constant.False t (Some form.Boolean) e h k =
      ap (λ l. canonical_as w (entry_at u.types l) (constant_text constant.False)) (label-is p u is t form.Boolean 1 e refl)
      ∙ (as-entry w 1 (constant_text constant.False) ∙ (value-canonical w basic.Boolean (constant_text constant.False) h ∙ ap scalar_text (out-bool false)))
  by-form w constant.Nil t (Some form.Null) e h k =
      ap (λ l. canonical_as w (entry_at u.types l) (constant_text constant.Nil)) (label-is p u is t form.Null 4 e refl)
      ∙ (as-entry w 4 (constant_text constant.Nil) ∙ (value-canonical w basic.Null (constant_text constant.Nil) h ∙ ap scalar_text out-null))
  by-form w c t o e h k = absurd k

  pub constant-stays : (w : Option Want) (c : Constant) (t : ℕ) → IsValueWant w → IsConstantOf c (slice_get p.types t) → canonical_as w (entry_at u.types (label_of p (One t))) (constant_text c) ≡ constant_text c
  constant-stays w c t h k = by-form w c t (slice_get p.types t) refl h k

  -- the name of a reduction, of type integer
  pub reduction-stays : slice_get p.types integer ≡ Some form.Integer → (name : List ℕ) → canonical_as (Some want.Reduction) (entry_at u.types (label_of p (One integer))) name ≡ name
  reduction-stays e name =
      ap (λ l. canonical_as (Some want.Reduction) (entry_at u.types l) name) (label-is p u is integer form.Integer 3 e refl) ∙ as-entry (Some want.Reduction) 3 name

-- ---- entries by their labels

codes-same : (a b : Entry) → is_entry a b ≡ true → a.code ≡ b.code
codes-same a b e = eqb-true a.code b.code (first (nat_eq a.code b.code) e)
  where
    first : (x : Bool) → (x && (nat_eq a.first b.first && (nat_eq a.second b.second && bytes_eq a.name b.name))) ≡ true → x ≡ true
    first true e = refl
    first false e = e

-- the entry at a label, from 1, of a table
abbrev pub at_label : Table → ℕ → Option Entry
at_label ts zero = None
at_label ts (suc l) = slice_get ts l

abbrev pub HasCode : ℕ → Option Entry → Type 0
HasCode code None = ⊥
HasCode code (Some e) = e.code ≡ code

pub found-code : (n : ℕ) (e : Entry) (ts : Table) (l : ℕ) → label_from n e ts ≡ Some l → (i : ℕ) × (l ≡ suc (n + i)) × HasCode e.code (slice_get ts i)
found-code n e [] l h = absurd cc
found-code n e (f ∷ fs) l h = by (is_entry f e) refl h (λ k. found-code (suc n) e fs l k)
  where
    by : (b : Bool) → is_entry f e ≡ b → (if b then Some (suc n) else label_from (suc n) e fs) ≡ Some l
        → (label_from (suc n) e fs ≡ Some l → (i : ℕ) × (l ≡ suc (suc n + i)) × HasCode e.code (slice_get fs i)) → (i : ℕ) × (l ≡ suc (n + i)) × HasCode e.code (slice_get (f ∷ fs) i)
    by true s h later = (0, same h ∙ omega arith, codes-same f e s)
      where
        same : Some (suc n) ≡ Some l → l ≡ suc n
        same h = cc
    by false s h later = let r = later h in (suc r.0, r.1 ∙ omega arith, r.2)

slice-last : (ts : Table) (e : Entry) → slice_get (ts ++ e ∷ []) (length ts) ≡ Some e
slice-last [] e = refl
slice-last (t ∷ ts) e = slice-last ts e

entered-code : (e : Entry) (ts : Table) → HasCode e.code (at_label (enter e ts).table (enter e ts).label)
entered-code e ts = by (label_from 0 e ts) refl
  where
    by : (o : Option ℕ) → label_from 0 e ts ≡ o → HasCode e.code (at_label (or_new o e ts).table (or_new o e ts).label)
    by (Some l) h = let r = found-code 0 e ts l h in subst (λ k. HasCode e.code (at_label ts k)) (sym (r.1 ∙ ap suc (omega arith))) r.2
    by None h = subst (HasCode e.code) (sym (slice-last ts e)) refl

-- an entry of a table stays where the table grows
stays : (ts rest : Table) (i : ℕ) (f : Entry) → slice_get ts i ≡ Some f → slice_get (ts ++ rest) i ≡ Some f
stays [] rest i f h = absurd cc
stays (t ∷ ts) rest zero f h = h
stays (t ∷ ts) rest (suc i) f h = stays ts rest i f h

module _ (p : Program) where
  abbrev pub as_type : ℕ → Entry → TypeEntry
  as_type l e = record { label = l; code = e.code; first = e.first; second = e.second; name = e.name }

  entry-from : (label : ℕ) (ts : Table) (i : ℕ) (o : Option Entry) → slice_get ts i ≡ o → entry_at (entries_from p label ts) (label + i) ≡ option_map (as_type (label + i)) o
  entry-from label [] i o h = ap (option_map (as_type (label + i))) h
  entry-from label (t ∷ ts) zero o h =
      elim (eqb_tells label (label + 0)) [
        | inl s ↦ ap (λ b. cond b (Some (as_type label t)) (entry_at (entries_from p (suc label) ts) (label + 0))) s.0 ∙ (ap (λ l. Some (as_type l t)) s.1 ∙ ap (option_map (as_type (label + 0))) h)
        | inr f ↦ absurd (f.1 (omega arith))
      ]
  entry-from label (t ∷ ts) (suc i) o h =
      elim (eqb_tells label (label + suc i)) [
        | inl s ↦ absurd (omega (arith, s.1))
        | inr f ↦ ap (λ b. cond b (Some (as_type label t)) (entry_at (entries_from p (suc label) ts) (label + suc i))) f.0 ∙ (ap (entry_at (entries_from p (suc label) ts)) (omega arith) ∙ (entry-from (suc label) ts i o h ∙ ap (λ l. option_map (as_type l) o) (omega arith)))
      ]

  pub entry-is : (ts : Table) (l : ℕ) → entry_at (entries_from p 1 ts) (suc l) ≡ option_map (as_type (suc l)) (slice_get ts l)
  entry-is ts l = ap (entry_at (entries_from p 1 ts)) (omega arith) ∙ (entry-from 1 ts l (slice_get ts l) refl ∙ ap (λ k. option_map (as_type k) (slice_get ts l)) (omega arith))

  pub no-zero : (label : ℕ) (ts : Table) → 1 ≤ label → entry_at (entries_from p label ts) 0 ≡ None
  no-zero label [] h = refl
  no-zero label (t ∷ ts) h =
      elim (eqb_tells label 0) [
        | inl s ↦ absurd (omega (arith, s.1, h))
        | inr f ↦ ap (λ b. cond b (Some (as_type label t)) (entry_at (entries_from p (suc label) ts) 0)) f.0 ∙ no-zero (suc label) ts (omega arith)
      ]

  -- a label whose entry, where it has one, is of a code
  abbrev pub IsCode : ℕ → Option TypeEntry → Type 0
  IsCode code None = Unit {0}
  IsCode code (Some e) = e.code ≡ code

  code-within : (ts more : Table) (rest : Table) (l code : ℕ) → more ≡ ts ++ rest → HasCode code (at_label more l) → IsCode code (entry_at (entries_from p 1 ts) l)
  code-within ts more rest zero code e h = absurd h
  code-within ts more rest (suc l) code e h = subst (IsCode code) (sym (entry-is ts l)) (by (slice_get ts l) refl)
    where
      by : (o : Option Entry) → slice_get ts l ≡ o → IsCode code (option_map (as_type (suc l)) o)
      by None s = tt
      by (Some f) s = subst (HasCode code) (ap (λ x. slice_get x l) e ∙ stays ts rest l f s) h

  no-text-change : (o : Option TypeEntry) (text : List ℕ) → IsCode 3 o → canonical_as (Some want.Function) o text ≡ text
  no-text-change None text h = refl
  no-text-change (Some e) text h = ap (λ c. canonical (Some want.Function) (kind_at c) (basic_at e.first) text) h ∙ by (basic_at e.first)
    where
      by : (b : Option Basic) → canonical (Some want.Function) (Some kind.Function) b text ≡ text
      by None = refl
      by (Some b) = refl

  pub callee-code : (o : Option Function) (ts : Table) → IsCode 3 (entry_at (entries_from p 1 ts) (callee_label p.types p.names o ts).label)
  callee-code None ts = subst (IsCode 3) (sym (no-zero 1 ts (omega arith))) tt
  callee-code (Some f) ts =
      let a = tuple_label p.types p.names f.params ts in
      let r = tuple_label p.types p.names f.results a.table in
      let e = entry 3 a.label r.label [] in
      let grown = grows-then ts r.table (enter e r.table).table (grows-then ts a.table r.table (tuple-grows p.types p.names f.params ts) (tuple-grows p.types p.names f.results a.table)) (enter-grows e r.table) in
      code-within ts (enter e r.table).table grown.rest (enter e r.table).label 3 grown.is (entered-code e r.table)

  pub callee-stays : (u : Unit1) → u.types ≡ entries_from p 1 (table p) → (f : ℕ) (name : List ℕ) → canonical_as (Some want.Function) (entry_at u.types (label_of p (Callee f))) name ≡ name
  callee-stays u is f name =
      ap (λ ts. canonical_as (Some want.Function) (entry_at ts (label_of p (Callee f))) name) is
      ∙ no-text-change (entry_at (entries_from p 1 (table p)) (label_of p (Callee f))) name (callee-code (slice_get p.functions f) (table p))
