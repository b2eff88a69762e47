-- The tree of a type doesn't depend on the names of fields and tags.
use Rattle.std.proofs.Common.{◌≡◌, ℕ, zero, suc, Bool, true, false, List, [], ◌∷◌, map, length, Option, Some, None, option_map, refl, sym, ap, ◌∙◌, if◌then◌else◌}
use Rattle.flow_value.specs.declared.ty.Ty.{Ty}
use Rattle.flow_value.specs.declared.ty.Ty.TheVariants as ty
use Rattle.if1_graph.specs.declared.graph.TypeEntry.{TypeEntry}
use Rattle.if1_graph.specs.declared.kind.TypeKind.{TypeKind}
use Rattle.if1_graph.specs.declared.kind.TypeKind.TheVariants as kind
use Rattle.if1_graph.specs.Kinds.{kind_at}
use Rattle.if1_graph.specs.Tables.{◌>>=◌}
use Rattle.if1_graph.specs.Types.{Member, Naming, entry_at, is_field, is_tag, members, scalar, ty_of, ty_within}
use Rattle.if1_types.specs.Trees.{Tree, leaf, node}
use Rattle.if1_types.specs.Telling.{ty_tree, list_tree}
use Rattle.if1_types.proofs.Same.{array_tree, stream_tree, record_tree, union_tree}

-- a thing over one part
module _ {A B : Type 0} (f : A → Tree) (g : B → Tree) (make : A → B) (k : ℕ) (there : (x : A) → g (make x) ≡ node k (f x) leaf) where
  over_tree : (o : Option A) → option_map g (o >>= λ x. Some (make x)) ≡ option_map (λ t. node k t leaf) (option_map f o)
  over_tree None = refl
  over_tree (Some x) = ap Some (there x)

  same_over : (o p : Option A) → option_map f o ≡ option_map f p → option_map g (o >>= λ x. Some (make x)) ≡ option_map g (p >>= λ x. Some (make x))
  same_over o p e = over_tree o ∙ (ap (option_map (λ t. node k t leaf)) e ∙ sym (over_tree p))

-- a member and the others
more_tree : (n : List ℕ) (o : Option Ty) (p : Option (List Member)) → option_map list_tree (o >>= λ t. p >>= λ ms. Some ((n, t) ∷ ms)) ≡ (option_map ty_tree o >>= λ a. option_map list_tree p >>= λ b. Some (node 9 a b))
more_tree n None p = refl
more_tree n (Some t) None = refl
more_tree n (Some t) (Some ms) = refl

same_more : (n m : List ℕ) (o o' : Option Ty) (p p' : Option (List Member)) → option_map ty_tree o ≡ option_map ty_tree o' → option_map list_tree p ≡ option_map list_tree p'
    → option_map list_tree (o >>= λ t. p >>= λ ms. Some ((n, t) ∷ ms)) ≡ option_map list_tree (o' >>= λ t. p' >>= λ ms. Some ((m, t) ∷ ms))
same_more n m o o' p p' a b =
    more_tree n o p ∙ ((λ j. a j >>= λ s. b j >>= λ t. Some (node 9 s t)) ∙ sym (more_tree m o' p'))

guarded : (b : Bool) (x y : Option Ty) → option_map ty_tree x ≡ option_map ty_tree y → option_map ty_tree (if b then x else None) ≡ option_map ty_tree (if b then y else None)
guarded true x y e = e
guarded false x y e = refl

module _ (n m : Naming) (p q : ℕ → Option Ty) (same : (l : ℕ) → option_map ty_tree (p l) ≡ option_map ty_tree (q l)) (ts : List TypeEntry) where
  members_same : (is : Option TypeKind → Bool) (far l : ℕ) → option_map list_tree (members n p is ts far l) ≡ option_map list_tree (members m q is ts far l)
  members_same is far zero = refl
  members_same is zero (suc l) = refl
  members_same is (suc far) (suc l) = by (entry_at ts (suc l)) (members_same is far)
    where
      by : (o : Option TypeEntry) → ((l : ℕ) → option_map list_tree (members n p is ts far l) ≡ option_map list_tree (members m q is ts far l)) →
          option_map list_tree (o >>= λ e. (if is (kind_at e.code) then p e.first else None) >>= λ t. members n p is ts far e.second >>= λ others. Some ((n e, t) ∷ others))
          ≡ option_map list_tree (o >>= λ e. (if is (kind_at e.code) then q e.first else None) >>= λ t. members m q is ts far e.second >>= λ others. Some ((m e, t) ∷ others))
      by None rest = refl
      by (Some e) rest =
          same_more (n e) (m e) (if is (kind_at e.code) then p e.first else None) (if is (kind_at e.code) then q e.first else None)
          (members n p is ts far e.second) (members m q is ts far e.second) (guarded (is (kind_at e.code)) (p e.first) (q e.first) (same e.first)) (rest e.second)

  of_kind : (e : TypeEntry) (k : Option TypeKind) → option_map ty_tree (ty_of n p ts e k) ≡ option_map ty_tree (ty_of m q ts e k)
  of_kind e (Some kind.Basic) = refl
  of_kind e (Some kind.Array) = same_over ty_tree ty_tree (λ t. ty.Arr t) 4 array_tree (p e.first) (q e.first) (same e.first)
  of_kind e (Some kind.Stream) = same_over ty_tree ty_tree (λ t. ty.Stream t) 5 stream_tree (p e.first) (q e.first) (same e.first)
  of_kind e (Some kind.Record) =
      same_over list_tree ty_tree (λ ms. ty.Rec ms) 6 record_tree (members n p is_field ts (length ts) e.first) (members m q is_field ts (length ts) e.first) (members_same is_field (length ts) e.first)
  of_kind e (Some kind.Union) =
      same_over list_tree ty_tree (λ ms. ty.Uni ms) 7 union_tree (members n p is_tag ts (length ts) e.first) (members m q is_tag ts (length ts) e.first) (members_same is_tag (length ts) e.first)
  of_kind e _ = refl

-- the type of a label has one tree, whatever names there are
pub one_tree : (n m : Naming) (depth : ℕ) (ts : List TypeEntry) (l : ℕ) → option_map ty_tree (ty_within n depth ts l) ≡ option_map ty_tree (ty_within m depth ts l)
one_tree n m zero ts l = refl
one_tree n m (suc depth) ts l = by (one_tree n m depth ts) (entry_at ts l)
  where
    by : ((l : ℕ) → option_map ty_tree (ty_within n depth ts l) ≡ option_map ty_tree (ty_within m depth ts l)) → (o : Option TypeEntry) → option_map ty_tree (o >>= λ e. ty_of n (ty_within n depth ts) ts e (kind_at e.code)) ≡ option_map ty_tree (o >>= λ e. ty_of m (ty_within m depth ts) ts e (kind_at e.code))
    by below None = refl
    by below (Some e) = of_kind n m (ty_within n depth ts) (ty_within m depth ts) below ts e (kind_at e.code)
