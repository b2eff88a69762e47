-- The edges of a translated unit are formed.
use Rattle.std.proofs.Common.{◌≡◌, ℕ, zero, suc, Bool, true, false, List, [], ◌∷◌, ◌++◌, get_or, slice_get, Option, Some, None, refl, sym, ap, subst, ◌∙◌, option_map}
use Rattle.std.specs.Prelude.{All, IsSome, is_some, bytes_eq, codes, if◌then◌else◌}
use Rattle.std.proofs.lemmas.Slice.Eq.{bytes_eq-Decides}
use Rattle.std.proofs.lemmas.List.Elements.{All-head, All-tail, All-from_recursion}
use Rattle.flow_value.specs.declared.value.Val.TheVariants as val
use Rattle.if1_graph.specs.Spelling.{IsQuotable}
use Rattle.if1_graph.specs.declared.graph.Graph.{Graph}
use Rattle.if1_graph.specs.declared.graph.TypeEntry.{TypeEntry}
use Rattle.if1_graph.specs.declared.graph.Unit1.{Unit1}
use Rattle.if1_graph.specs.declared.kind.Basic.{Basic}
use Rattle.if1_graph.specs.declared.kind.Basic.TheVariants as basic
use Rattle.if1_graph.specs.declared.kind.TypeKind.TheVariants as kind
use Rattle.if1_graph.specs.declared.op.Reducer.{Reducer}
use Rattle.if1_graph.specs.declared.row.Want.{Want}
use Rattle.if1_graph.specs.declared.row.Want.TheVariants as want
use Rattle.if1_graph.specs.Formed.{function_named, IsLiteralFor}
use Rattle.if1_graph.specs.Kinds.{kind_at, basic_at}
use Rattle.if1_graph.specs.Literals.{literal}
use Rattle.if1_graph.specs.Ops.{reducers, reducer_at}
use Rattle.if1_graph.specs.Tables.{named}
use Rattle.if1_graph.specs.Types.{entry_at}
use Rattle.sisal_tree.specs.declared.expr.Constant.{Constant}
use Rattle.sisal_tree.specs.declared.expr.Constant.TheVariants as constant
use Rattle.type_table.specs.declared.form.Form.{Form}
use Rattle.type_table.specs.declared.form.Form.TheVariants as form
use Rattle.typed_tree.specs.declared.program.Function.{Function}
use Rattle.typed_tree.specs.declared.program.Program.{Program}
use Rattle.lowering.specs.declared.feed.Carried.TheVariants.{One, Callee}
use Rattle.lowering.specs.Operations.{integer}
use Rattle.lowering.specs.Types.{basics, table, label_of}
use Rattle.lowered_units.specs.Units.{constant_text, entries_from, called_name}
use Rattle.lowered_units.proofs.Built.{IsConstantOf}
use Rattle.lowered_units.proofs.Canonical.{IsCode, callee-code}
use Rattle.lowered_units.proofs.Literals.{IsValueWant, integer_read, character_read, integer_quotable, character_quotable, types-begin, label-is}
use Rattle.lowering.proofs.Tables.{table-begins}

-- ---- texts in quotes

constant-quotable : (c : Constant) (o : Option Form) → IsConstantOf c o → IsQuotable (constant_text c)
constant-quotable (constant.Integer n) (Some form.Integer) h = integer_quotable n h
constant-quotable (constant.Letter c) (Some form.Character) h = character_quotable c h
constant-quotable constant.True (Some form.Boolean) h = refl
constant-quotable constant.False (Some form.Boolean) h = refl
constant-quotable constant.Nil (Some form.Null) h = refl
constant-quotable c o h = absurd h

row-quotable : (rows : List (List ℕ × Reducer)) → All (λ r. IsQuotable r.0) rows → (name : List ℕ) → IsSome (named name rows) → IsQuotable name
row-quotable [] a name h = absurd cc
row-quotable (r ∷ rows) a name h = by (bytes_eq r.0 name) refl h (λ k. row-quotable rows (All-tail (λ r. IsQuotable r.0) r rows a) name k)
  where
    by : (b : Bool) → bytes_eq r.0 name ≡ b → is_some (if b then Some r.1 else named name rows) ≡ true → (IsSome (named name rows) → IsQuotable name) → IsQuotable name
    by true e h k = subst IsQuotable ((bytes_eq-Decides r.0 name).0 e) (All-head (λ r. IsQuotable r.0) r rows a)
    by false e h k = k h

name-quotable : (names : List (List ℕ)) → All IsQuotable names → (k : ℕ) → IsQuotable (get_or names k [])
name-quotable [] h zero = refl
name-quotable [] h (suc k) = refl
name-quotable (n ∷ ns) h zero = All-head IsQuotable n ns h
name-quotable (n ∷ ns) h (suc k) = name-quotable ns (All-tail IsQuotable n ns h) k

pub called-quotable : (p : Program) → All IsQuotable p.names → (o : Option Function) → IsQuotable (called_name p o)
called-quotable p h None = refl
called-quotable p h (Some f) = name-quotable p.names h f.name

-- ---- literals of their types

value-literal : (gs : List Graph) (w : Option Want) (b : Basic) (text : List ℕ) → IsValueWant w → IsSome (literal b text) → IsLiteralFor gs w text (Some kind.Basic) (Some b)
value-literal gs None b text v h = h
value-literal gs (Some want.Function) b text v h = absurd v
value-literal gs (Some want.Reduction) b text v h = absurd v
value-literal gs (Some w) b text v h = h

some-same : (a b : TypeEntry) → Some a ≡ Some b → a ≡ b
some-same a b e = cc

module _ (p : Program) (u : Unit1) (is : u.types ≡ entries_from p 1 (table p)) where
  abbrev pub FitsAt : Option Want → List ℕ → ℕ → Type 0
  FitsAt w text l = (entry : TypeEntry) → entry_at u.types l ≡ Some entry → IsLiteralFor u.graphs w text (kind_at entry.code) (basic_at entry.first)

  -- at a label whose entry is among the first
  at-label : (w : Option Want) (text : List ℕ) (l : ℕ) (x : TypeEntry) → entry_at (entries_from p 1 (basics ++ (table-begins p).rest)) l ≡ Some x → IsLiteralFor u.graphs w text (kind_at x.code) (basic_at x.first) → FitsAt w text l
  at-label w text l x e h entry k =
      subst (λ (y : TypeEntry). IsLiteralFor u.graphs w text (kind_at y.code) (basic_at y.first)) (some-same x entry (sym e ∙ (sym (ap (λ ts. entry_at ts l) (types-begin p u is)) ∙ k))) h

  abbrev basic_line : ℕ → ℕ → List ℕ → TypeEntry
  basic_line l first name = record { label = l; code = 1; first = first; second = 0; name = name }

  by-form : (w : Option Want) (c : Constant) (t : ℕ) (o : Option Form) → slice_get p.types t ≡ o → IsValueWant w → IsConstantOf c o → FitsAt w (constant_text c) (label_of p (One t))
  by-form w (constant.Integer n) t (Some form.Integer) e v h =
      subst (FitsAt w (constant_text (constant.Integer n))) (sym (label-is p u is t form.Integer 3 e refl)) (at-label w (constant_text (constant.Integer n)) 3 (basic_line 3 3 (codes "integer")) refl (value-literal u.graphs w basic.Integer (constant_text (constant.Integer n)) v (ap (λ o. is_some (option_map val.Int o)) (integer_read n h))))
  by-form w (constant.Letter c) t (Some form.Character) e v h =
      subst (FitsAt w (constant_text (constant.Letter c))) (sym (label-is p u is t form.Character 2 e refl)) (at-label w (constant_text (constant.Letter c)) 2 (basic_line 2 1 (codes "character")) refl (value-literal u.graphs w basic.Character (constant_text (constant.Letter c)) v (ap (λ o. is_some (option_map val.Char o)) (character_read c h))))
  by-form w constant.True t (Some form.Boolean) e v h =
      subst (FitsAt w (constant_text constant.True)) (sym (label-is p u is t form.Boolean 1 e refl)) (at-label w (constant_text constant.True) 1 (basic_line 1 0 (codes "boolean")) refl (value-literal u.graphs w basic.Boolean (constant_text constant.True) v refl))
  by-form w constant.False t (Some form.Boolean) e v h =
      subst (FitsAt w (constant_text constant.False)) (sym (label-is p u is t form.Boolean 1 e refl)) (at-label w (constant_text constant.False) 1 (basic_line 1 0 (codes "boolean")) refl (value-literal u.graphs w basic.Boolean (constant_text constant.False) v refl))
  by-form w constant.Nil t (Some form.Null) e v h =
      subst (FitsAt w (constant_text constant.Nil)) (sym (label-is p u is t form.Null 4 e refl)) (at-label w (constant_text constant.Nil) 4 (basic_line 4 4 (codes "null")) refl (value-literal u.graphs w basic.Null (constant_text constant.Nil) v refl))
  by-form w c t o e v h = absurd h

  pub constant-origin : (w : Option Want) (c : Constant) (t : ℕ) → IsValueWant w → IsConstantOf c (slice_get p.types t) → IsQuotable (constant_text c) × FitsAt w (constant_text c) (label_of p (One t))
  constant-origin w c t v h = (constant-quotable c (slice_get p.types t) h, by-form w c t (slice_get p.types t) refl v h)

  pub reduction-origin : slice_get p.types integer ≡ Some form.Integer → (name : List ℕ) → IsSome (reducer_at name) → IsQuotable name × FitsAt (Some want.Reduction) name (label_of p (One integer))
  reduction-origin e name h = (
    row-quotable reducers quotable-rows name h,
    subst (FitsAt (Some want.Reduction) name) (sym (label-is p u is integer form.Integer 3 e refl)) (at-label (Some want.Reduction) name 3 (basic_line 3 3 (codes "integer")) refl h),
  )
    where
      quotable-rows : All (λ (r : List ℕ × Reducer). IsQuotable r.0) reducers
      quotable-rows = All-from_recursion (λ (r : List ℕ × Reducer). IsQuotable r.0) reducers (refl, (refl, (refl, (refl, (refl, tt)))))

  pub callee-origin : (f : ℕ) → IsSome (function_named u.graphs (called_name p (slice_get p.functions f))) → FitsAt (Some want.Function) (called_name p (slice_get p.functions f)) (label_of p (Callee f))
  callee-origin f h entry k =
      let code : entry.code ≡ 3 = here (entry_at u.types (label_of p (Callee f))) (subst (λ ts. IsCode p 3 (entry_at ts (label_of p (Callee f)))) (sym is) (callee-code p (slice_get p.functions f) (table p))) k in
      subst (λ c. IsLiteralFor u.graphs (Some want.Function) (called_name p (slice_get p.functions f)) (kind_at c) (basic_at entry.first)) (sym code) h
    where
      here : (o : Option TypeEntry) → IsCode p 3 o → o ≡ Some entry → entry.code ≡ 3
      here None c e = absurd cc
      here (Some x) c e = sym (ap (λ (y : TypeEntry). y.code) (some-same x entry e)) ∙ c
