-- What the labels of a translated unit show: a stream, a union or another type, as the type of the program is.
use Rattle.std.proofs.Common.{◌≡◌, ℕ, suc, List, [], ◌∷◌, Option, Some, None, slice_get, refl, sym, ap, subst, ◌∙◌, arith, inl, inr}
use Rattle.std.specs.Prelude.{cond}
use Rattle.std.proofs.lemmas.Bool.Decides.{eqb_tells}
use Rattle.flow_value.specs.declared.ty.Ty.{Ty}
use Rattle.flow_value.specs.declared.ty.Ty.TheVariants as ty
use Rattle.flow_value.specs.declared.ty.Ty.TheOpen.{Ty-F}
use Rattle.flow_value.specs.declared.ty.Ty.TheViews.{out-Ty}
use Rattle.if1_graph.specs.declared.graph.TypeEntry.{TypeEntry}
use Rattle.if1_graph.specs.declared.graph.Unit1.{Unit1}
use Rattle.if1_graph.specs.declared.kind.TypeKind.{TypeKind}
use Rattle.if1_graph.specs.declared.kind.TypeKind.TheVariants as kind
use Rattle.if1_graph.specs.Kinds.{kind_at}
use Rattle.if1_graph.specs.declared.row.Want.{Want}
use Rattle.if1_graph.specs.declared.row.Want.TheVariants as want
use Rattle.if1_graph.specs.Ports.{tags_of}
use Rattle.if1_graph.specs.Tables.{◌>>=◌}
use Rattle.if1_graph.specs.Types.{entry_at, sort_of, sort_at, Sort, Plain}
use Rattle.if1_graph.specs.Types as sorts
use Rattle.if1_graph.specs.Typing as typing
use Rattle.type_table.specs.declared.form.Form.{Form}
use Rattle.type_table.specs.declared.form.Form.TheVariants as form
use Rattle.typed_tree.specs.declared.program.Program.{Program}
use Rattle.graph_meaning.specs.NodeValues.{Shape}
use Rattle.graph_meaning.specs.NodeValues as shapes
use Rattle.graph_meaning.specs.Networks.{stream_shape, union_shape}
use Rattle.lowering.specs.declared.feed.Carried.{Carried}
use Rattle.lowering.specs.declared.feed.Carried.TheVariants.{One, Many, Callee}
use Rattle.lowering.specs.Graphs.{graph_lines}
use Rattle.lowering.specs.Programs.{functions_lowered}
use Rattle.lowering.specs.Types.{Entry, entry, Table, enter, basics, members, named, form_label, type_label, carried_label, table, label_of}
use Rattle.lowering.proofs.Tables.{Grows, grows-none, table-begins}
use Rattle.lowered_units.specs.Units.{IsTranslated, entries_from}
use Rattle.lowered_units.proofs.Built.{IsValueType}
use Rattle.lowered_units.proofs.BuiltTrees.{out-bool, out-char, out-int, out-null, out-array, out-stream, out-record, out-union}
use Rattle.lowered_units.proofs.Canonical.{as_type}
use Rattle.lowered_units.proofs.Heads.{In}
use Rattle.lowering_meaning.proofs.Told.{Showing, AStream, AUnion, Another}
use Rattle.lowering_meaning.proofs.Sorts.{HasEntry, entered, E, within, at-entry, kind-there, program-stays}

-- ---- what is shown

abbrev pub form_shows : Option Form → Showing
form_shows (Some (form.Stream t)) = AStream
form_shows (Some (form.Union ms)) = AUnion
form_shows _ = Another

abbrev pub carried_shows : List Form → Carried → Showing
carried_shows forms (One t) = form_shows (slice_get forms t)
carried_shows forms _ = Another

abbrev pub type_shows : Ty-F Ty → Showing
type_shows (Ty-F.Stream t) = AStream
type_shows (Ty-F.Uni fs) = AUnion
type_shows _ = Another

abbrev pub sort_shows : Sort → Showing
sort_shows (Plain t) = type_shows (out-Ty t)
sort_shows _ = Another

plainly : (t : Ty) (x : Ty-F Ty) (s : Sort) → out-Ty t ≡ x → Some (Plain t) ≡ Some s → type_shows x ≡ sort_shows s
plainly t x s o e = sym (ap type_shows o) ∙ ap sort_shows (same e)
  where
    same : Some (Plain t) ≡ Some s → Plain t ≡ s
    same e = cc

wrapped : {A : Type 0} (o : Option A) (g : A → Ty) (k : Showing) → ((a : A) → type_shows (out-Ty (g a)) ≡ k) → (s : Sort) → ((o >>= λ a. Some (g a)) >>= λ t. Some (Plain t)) ≡ Some s → k ≡ sort_shows s
wrapped None g k h s e = absurd cc
wrapped (Some a) g k h s e = sym (h a) ∙ ap sort_shows (same e)
  where
    same : Some (Plain (g a)) ≡ Some s → Plain (g a) ≡ s
    same e = cc

multiple : (o : Option Ty) (s : Sort) → (o >>= λ t. Some (sorts.Many t)) ≡ Some s → Another ≡ sort_shows s
multiple None s e = absurd cc
multiple (Some t) s e = ap sort_shows (same e)
  where
    same : Some (sorts.Many t) ≡ Some s → sorts.Many t ≡ s
    same e = cc

-- ---- labels

abbrev pub kind-in : (es : List TypeEntry) (l : ℕ) → Option TypeKind
kind-in es l = entry_at es l >>= λ (e : TypeEntry). kind_at e.code

module _ (p : Program) where
  -- label 0 is none
  no-label : (l : ℕ) (ts : Table) → entry_at (entries_from p (suc l) ts) 0 ≡ None
  no-label l [] = refl
  no-label l (t ∷ ts) =
      elim (eqb_tells (suc l) 0) [
        | inl y ↦ absurd (omega (arith, y.1))
        | inr n ↦ ap (λ b. cond b (Some (as_type p (suc l) t)) (entry_at (entries_from p (suc (suc l)) ts) 0)) n.0 ∙ no-label (suc l) ts
      ]

  sort-there : (later : Table) (l : ℕ) (e : Entry) → (h : HasEntry later l e) → sort_at (E p later) l ≡ sort_of (E p later) l (as_type p (suc h.place) h.entry) (kind_at e.code)
  sort-there later l e h =
      ap (λ o. o >>= λ (y : TypeEntry). sort_of (E p later) l y (kind_at y.code)) (at-entry p later l e h)
      ∙ ap (λ c. sort_of (E p later) l (as_type p (suc h.place) h.entry) (kind_at c)) h.code

  kind-here : (later : Table) (l : ℕ) (e : Entry) → HasEntry later l e → kind-in (E p later) l ≡ kind_at e.code
  kind-here later l e h = ap (λ o. o >>= λ (y : TypeEntry). kind_at y.code) (at-entry p later l e h) ∙ ap kind_at h.code

  -- what the label of a form shows, and that it is no function
  pub record IsShown (later : Table) (l : ℕ) (k : Showing) : Type 0 where
    pub shows : (s : Sort) → sort_at (E p later) l ≡ Some s → k ≡ sort_shows s
    pub no_function : kind-in (E p later) l ≡ Some kind.Function → ⊥

  basic : (later : Table) (l : ℕ) (t : Ty) (x : Ty-F Ty) → type_shows x ≡ Another → out-Ty t ≡ x → sort_at (E p later) l ≡ Some (Plain t) → kind-in (E p later) l ≡ Some kind.Basic → IsShown later l Another
  basic later l t x k o e f = record {
    shows = λ s h. sym k ∙ plainly t x s o (sym e ∙ h);
    no_function = λ h. no (sym f ∙ h);
  }
    where
      no : Some kind.Basic ≡ Some kind.Function → ⊥
      no h = absurd cc

  form-shown : (o : Option Form) (ts later : Table) → Grows basics later → Grows (form_label p.types p.names (within p 63) o ts).table later → IsShown later (form_label p.types p.names (within p 63) o ts).label (form_shows o)
  form-shown (Some form.Boolean) ts later b g = basic later 1 ty.Bool Ty-F.Bool refl out-bool (ap (λ es. sort_at (E p es) 1) b.is) (ap (λ es. kind-in (E p es) 1) b.is)
  form-shown (Some form.Character) ts later b g = basic later 2 ty.Char Ty-F.Char refl out-char (ap (λ es. sort_at (E p es) 2) b.is) (ap (λ es. kind-in (E p es) 2) b.is)
  form-shown (Some form.Integer) ts later b g = basic later 3 ty.Int Ty-F.Int refl out-int (ap (λ es. sort_at (E p es) 3) b.is) (ap (λ es. kind-in (E p es) 3) b.is)
  form-shown (Some form.Null) ts later b g = basic later 4 ty.Null Ty-F.Null refl out-null (ap (λ es. sort_at (E p es) 4) b.is) (ap (λ es. kind-in (E p es) 4) b.is)
  form-shown (Some (form.Array m)) ts later b g =
      let r = within p 63 m ts in
      let x = entry 0 r.label 0 [] in
      let l = (enter x r.table).label in
      let h = entered x r.table later g in
      record {
        shows = λ s e. wrapped _ ty.Arr Another (λ t. ap type_shows (out-array t)) s (sym (sort-there later l x h ∙ ap (λ o. o >>= λ t. Some (Plain t)) (kind-there p 63 later l x h)) ∙ e);
        no_function = λ e. none kind.Array refl (sym (kind-here later l x h) ∙ e);
      }
    where
      none : (k : TypeKind) → k ≡ kind.Array → Some k ≡ Some kind.Function → ⊥
      none k i e = absurd cc
  form-shown (Some (form.Stream m)) ts later b g =
      let r = within p 63 m ts in
      let x = entry 6 r.label 0 [] in
      let l = (enter x r.table).label in
      let h = entered x r.table later g in
      record {
        shows = λ s e. wrapped _ ty.Stream AStream (λ t. ap type_shows (out-stream t)) s (sym (sort-there later l x h ∙ ap (λ o. o >>= λ t. Some (Plain t)) (kind-there p 63 later l x h)) ∙ e);
        no_function = λ e. none kind.Stream refl (sym (kind-here later l x h) ∙ e);
      }
    where
      none : (k : TypeKind) → k ≡ kind.Stream → Some k ≡ Some kind.Function → ⊥
      none k i e = absurd cc
  form-shown (Some (form.Record ms)) ts later b g =
      let r = members (within p 63) 2 (named p.types p.names ms) ts in
      let x = entry 5 r.label 0 [] in
      let l = (enter x r.table).label in
      let h = entered x r.table later g in
      record {
        shows = λ s e. wrapped _ ty.Rec Another (λ t. ap type_shows (out-record t)) s (sym (sort-there later l x h ∙ ap (λ o. o >>= λ t. Some (Plain t)) (kind-there p 63 later l x h)) ∙ e);
        no_function = λ e. none kind.Record refl (sym (kind-here later l x h) ∙ e);
      }
    where
      none : (k : TypeKind) → k ≡ kind.Record → Some k ≡ Some kind.Function → ⊥
      none k i e = absurd cc
  form-shown (Some (form.Union ms)) ts later b g =
      let r = members (within p 63) 7 (named p.types p.names ms) ts in
      let x = entry 9 r.label 0 [] in
      let l = (enter x r.table).label in
      let h = entered x r.table later g in
      record {
        shows = λ s e. wrapped _ ty.Uni AUnion (λ t. ap type_shows (out-union t)) s (sym (sort-there later l x h ∙ ap (λ o. o >>= λ t. Some (Plain t)) (kind-there p 63 later l x h)) ∙ e);
        no_function = λ e. none kind.Union refl (sym (kind-here later l x h) ∙ e);
      }
    where
      none : (k : TypeKind) → k ≡ kind.Union → Some k ≡ Some kind.Function → ⊥
      none k i e = absurd cc
  form-shown None ts later b g = record {
    shows = λ s e. lost s (sym (ap (λ o. o >>= λ (y : TypeEntry). sort_of (E p later) 0 y (kind_at y.code)) (no-label 0 later)) ∙ e);
    no_function = λ e. gone (sym (ap (λ o. o >>= λ (y : TypeEntry). kind_at y.code) (no-label 0 later)) ∙ e);
  }
    where
      lost : (s : Sort) → None ≡ Some s → Another ≡ sort_shows s
      lost s e = absurd cc

      gone : None ≡ Some kind.Function → ⊥
      gone e = absurd cc

  grown : (c : Carried) → In c (graph_lines (functions_lowered p)) → Grows (carried_label p.types p.names p.functions c (table p)).table (table p)
  grown c i = subst (λ es. Grows es (table p)) (sym (program-stays p c i)) (grows-none (table p))

  -- what a line of the text carries shows what it is
  carried-shown : (functions : ℕ) (c : Carried) → IsValueType p.types functions c → In c (graph_lines (functions_lowered p)) → IsShown (table p) (label_of p c) (carried_shows p.types c)
  carried-shown functions (One t) v i = form-shown (slice_get p.types t) (table p) (table p) (table-begins p) (grown (One t) i)
  carried-shown functions (Many t) v i =
      let r = type_label p.types p.names t (table p) in
      let x = entry 4 r.label 0 [] in
      let l = (enter x r.table).label in
      let h = entered x r.table (table p) (grown (Many t) i) in
      record {
        shows = λ s e. multiple _ s (sym (sort-there (table p) l x h) ∙ e);
        no_function = λ e. none kind.Multiple refl (sym (kind-here (table p) l x h) ∙ e);
      }
    where
      none : (k : TypeKind) → k ≡ kind.Multiple → Some k ≡ Some kind.Function → ⊥
      none k i e = absurd cc
  carried-shown functions (Callee f) v i = absurd v

  module _ (u : Unit1) (t : IsTranslated p u) (functions : ℕ) (c : Carried) (v : IsValueType p.types functions c) (i : In c (graph_lines (functions_lowered p))) where
    pub shown-in : (s : Sort) → sort_at u.types (label_of p c) ≡ Some s → carried_shows p.types c ≡ sort_shows s
    shown-in s e = (carried-shown functions c v i).shows s (ap (λ es. sort_at es (label_of p c)) (sym t.types) ∙ e)

    pub no-name : (w : Option Want) → typing.IsFunctionName w (typing.kind_of u (label_of p c)) → ⊥
    no-name w h = (carried-shown functions c v i).no_function (ap (λ es. kind-in es (label_of p c)) (sym t.types) ∙ is w (typing.kind_of u (label_of p c)) h)
      where
        is : (w : Option Want) (k : Option TypeKind) → typing.IsFunctionName w k → k ≡ Some kind.Function
        is (Some want.Reduction) (Some kind.Function) h = refl
        is w k h = absurd h

-- ---- shapes

abbrev pub stream_by : Showing → Shape
stream_by AStream = shapes.Stream
stream_by _ = shapes.Plain

abbrev pub union_by : Showing → Shape
union_by AUnion = shapes.Union
union_by _ = shapes.Plain

pub stream-shown : (s : Sort) → stream_shape (Some s) ≡ stream_by (sort_shows s)
stream-shown (Plain t) = by (out-Ty t) refl
  where
    by : (x : Ty-F Ty) → out-Ty t ≡ x → stream_shape (Some (Plain t)) ≡ stream_by (type_shows (out-Ty t))
    by Ty-F.Bool e = rw e refl
    by Ty-F.Char e = rw e refl
    by Ty-F.Int e = rw e refl
    by Ty-F.Null e = rw e refl
    by (Ty-F.Arr a) e = rw e refl
    by (Ty-F.Stream a) e = rw e refl
    by (Ty-F.Rec fs) e = rw e refl
    by (Ty-F.Uni fs) e = rw e refl
stream-shown (sorts.Many t) = refl
stream-shown (sorts.Function args rs) = refl

pub union-shown : (s : Sort) → union_shape (tags_of (Some s)) ≡ union_by (sort_shows s)
union-shown (Plain t) = by (out-Ty t) refl
  where
    by : (x : Ty-F Ty) → out-Ty t ≡ x → union_shape (tags_of (Some (Plain t))) ≡ union_by (type_shows (out-Ty t))
    by Ty-F.Bool e = rw e refl
    by Ty-F.Char e = rw e refl
    by Ty-F.Int e = rw e refl
    by Ty-F.Null e = rw e refl
    by (Ty-F.Arr a) e = rw e refl
    by (Ty-F.Stream a) e = rw e refl
    by (Ty-F.Rec fs) e = rw e refl
    by (Ty-F.Uni fs) e = rw e refl
union-shown (sorts.Many t) = refl
union-shown (sorts.Function args rs) = refl
