-- A label stands for a type with names of fields and tags exactly where it stands for one without them.
use Rattle.std.proofs.Common.{◌≡◌, ℕ, zero, suc, Bool, true, false, List, length, Option, Some, None, is_some, refl, sym, ◌∙◌, if◌then◌else◌}
use Rattle.flow_value.specs.declared.ty.Ty.{Ty}
use Rattle.if1_graph.specs.declared.graph.TypeEntry.{TypeEntry}
use Rattle.if1_graph.specs.declared.kind.TypeKind.{TypeKind}
use Rattle.if1_graph.specs.declared.kind.TypeKind.TheVariants as kind
use Rattle.if1_graph.specs.Kinds.{kind_at}
use Rattle.if1_graph.specs.Tables.{◌>>=◌}
use Rattle.if1_graph.specs.Types.{Naming, Plain, Many, Function, entry_at, is_field, is_tag, is_tuple, with_names, without_names, members, most_deep, ty_of, ty_within, ty_at, bare_at, tuple_at, sort_of, sort_at, params_of, params_at}

-- ---- steps that may have no value

module _ {A B C D : Type 0} (f : A → Option C) (g : B → Option D) where
  both : (x : Option A) (y : Option B) → is_some x ≡ is_some y → ((a : A) (b : B) → is_some (f a) ≡ is_some (g b)) → is_some (x >>= f) ≡ is_some (y >>= g)
  both None None e h = refl
  both None (Some b) e h = cc
  both (Some a) None e h = cc
  both (Some a) (Some b) e h = h a b

each : {A C D : Type 0} (f : A → Option C) (g : A → Option D) (x : Option A) → ((a : A) → is_some (f a) ≡ is_some (g a)) → is_some (x >>= f) ≡ is_some (x >>= g)
each f g None h = refl
each f g (Some a) h = h a

guarded : {A B : Type 0} (b : Bool) (x : Option A) (y : Option B) → is_some x ≡ is_some y → is_some (if b then x else None) ≡ is_some (if b then y else None)
guarded true x y e = e
guarded false x y e = refl

-- ---- types

module _ (n m : Naming) (p q : ℕ → Option Ty) (same : (l : ℕ) → is_some (p l) ≡ is_some (q l)) (ts : List TypeEntry) where
  members_alike : (is : Option TypeKind → Bool) (far l : ℕ) → is_some (members n p is ts far l) ≡ is_some (members m q is ts far l)
  members_alike is far zero = refl
  members_alike is zero (suc l) = refl
  members_alike is (suc far) (suc l) =
      each _ _ (entry_at ts (suc l)) (λ e.
      both _ _ (if is (kind_at e.code) then p e.first else None) (if is (kind_at e.code) then q e.first else None)
      (guarded (is (kind_at e.code)) (p e.first) (q e.first) (same e.first)) (λ s t.
      both _ _ (members n p is ts far e.second) (members m q is ts far e.second) (members_alike is far e.second) (λ a b. refl)))

  of_kind : (e : TypeEntry) (k : Option TypeKind) → is_some (ty_of n p ts e k) ≡ is_some (ty_of m q ts e k)
  of_kind e (Some kind.Basic) = refl
  of_kind e (Some kind.Array) = both _ _ (p e.first) (q e.first) (same e.first) (λ a b. refl)
  of_kind e (Some kind.Stream) = both _ _ (p e.first) (q e.first) (same e.first) (λ a b. refl)
  of_kind e (Some kind.Record) =
      both _ _ (members n p is_field ts (length ts) e.first) (members m q is_field ts (length ts) e.first) (members_alike is_field (length ts) e.first) (λ a b. refl)
  of_kind e (Some kind.Union) =
      both _ _ (members n p is_tag ts (length ts) e.first) (members m q is_tag ts (length ts) e.first) (members_alike is_tag (length ts) e.first) (λ a b. refl)
  of_kind e _ = refl

within_alike : (n m : Naming) (depth : ℕ) (ts : List TypeEntry) (l : ℕ) → is_some (ty_within n depth ts l) ≡ is_some (ty_within m depth ts l)
within_alike n m zero ts l = refl
within_alike n m (suc depth) ts l =
    each _ _ (entry_at ts l) (λ e. of_kind n m (ty_within n depth ts) (ty_within m depth ts) (within_alike n m depth ts) ts e (kind_at e.code))

-- ---- functions

tuples_alike : (ts : List TypeEntry) (l : ℕ) → is_some (tuple_at (bare_at ts) ts l) ≡ is_some (tuple_at (ty_at ts) ts l)
tuples_alike ts l =
    both _ _ (members without_names (bare_at ts) is_tuple ts (length ts) l) (members without_names (ty_at ts) is_tuple ts (length ts) l)
    (members_alike without_names without_names (bare_at ts) (ty_at ts) (within_alike without_names with_names most_deep ts) ts is_tuple (length ts) l) (λ a b. refl)

module _ (args rs : List Ty) where
  no_value : (o : Option Ty) → (o >>= λ t. Some (Plain t)) ≡ Some (Function args rs) → ⊥
  no_value None h = cc
  no_value (Some t) h = cc

  no_multiple : (o : Option Ty) → (o >>= λ t. Some (Many t)) ≡ Some (Function args rs) → ⊥
  no_multiple None h = cc
  no_multiple (Some t) h = cc

  has_arguments : (x y : Option (List Ty)) → (x >>= λ args. y >>= λ results. Some (Function args results)) ≡ Some (Function args rs) → is_some x ≡ true
  has_arguments None y h = cc
  has_arguments (Some args) y h = refl

  params_of_kind : (ts : List TypeEntry) (l : ℕ) (e : TypeEntry) (k : Option TypeKind) → sort_of ts l e k ≡ Some (Function args rs) → is_some (params_of ts e k) ≡ true
  params_of_kind ts l e (Some kind.Multiple) h = absurd (no_multiple (bare_at ts e.first) h)
  params_of_kind ts l e (Some kind.Function) h =
      sym (tuples_alike ts e.first) ∙ has_arguments (tuple_at (bare_at ts) ts e.first) (tuple_at (bare_at ts) ts e.second) h
  params_of_kind ts l e _ h = absurd (no_value (bare_at ts l) h)

  -- the label of a function's type has arguments with names too
  pub params_there : (ts : List TypeEntry) (l : ℕ) → sort_at ts l ≡ Some (Function args rs) → is_some (params_at ts l) ≡ true
  params_there ts l h = by (entry_at ts l) h
    where
      by : (o : Option TypeEntry) → (o >>= λ e. sort_of ts l e (kind_at e.code)) ≡ Some (Function args rs) → is_some (o >>= λ e. params_of ts e (kind_at e.code)) ≡ true
      by None h = cc
      by (Some e) h = params_of_kind ts l e (kind_at e.code) h
