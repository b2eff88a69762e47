-- A number whose tree is that of a type stands for the type.
use Rattle.std.proofs.Common.{◌≡◌, ◌<◌, ◌≤◌, ℕ, zero, suc, Bool, true, false, if◌then◌else◌, List, [], ◌∷◌, map, length, Option, Some, None, option_map, slice_get, refl, sym, ap, ◌∙◌, subst, arith}
use Rattle.std.proofs.lemmas.Option.{same_Some}
use Rattle.flow_value.specs.declared.ty.Ty.{Ty}
use Rattle.flow_value.specs.declared.ty.Ty.TheOpen.{Ty-F}
use Rattle.flow_value.specs.declared.ty.Ty.TheViews.{out-Ty}
use Rattle.value_text.specs.Numbered.{AreLike, HasForm, IsLike, StandsFor, StandForAll}
use Rattle.if1_graph.specs.declared.graph.TypeEntry.{TypeEntry}
use Rattle.if1_graph.specs.declared.kind.TypeKind.{TypeKind}
use Rattle.if1_graph.specs.declared.kind.TypeKind.TheVariants as kind
use Rattle.if1_graph.specs.Kinds.{kind_at}
use Rattle.if1_graph.specs.Tables.{◌>>=◌}
use Rattle.if1_graph.specs.Types.{Member, Sort, Plain, Many, Function, entry_at, is_tuple, members, with_names, without_names, most_deep, ty_of, ty_within, ty_at, bare_at, tuple_at, sort_of, sort_at, params_of, params_at}
use Rattle.if1_types.specs.declared.forms.ListForm.{ListForm}
use Rattle.if1_types.specs.declared.forms.ListForm.TheVariants as list
use Rattle.if1_types.specs.declared.forms.SortForm.{SortForm}
use Rattle.if1_types.specs.declared.forms.SortForm.TheVariants as sort
use Rattle.if1_types.specs.declared.forms.TyForm.TheVariants as form
use Rattle.if1_types.specs.declared.numbered.Sorts.{Sorts}
use Rattle.if1_types.specs.Trees.{Tree, leaf, node}
use Rattle.if1_types.specs.Telling.{ty_tree, list_tree}
use Rattle.if1_types.specs.Shapes.{Key, trees_in, tree_at, members_in, key_at, HasKeys, IsKeyOf, Stands}
use Rattle.if1_types.specs.Tables.{entry_on}
use Rattle.if1_types.specs.Forms.{IsTy, IsSortForm, ty_form, list_form, ty_form_at, list_form_at, sort_form_at}
use Rattle.if1_types.specs.Skips.{first_in, rest_in, members_at, members_by, member_at, AreCountedBy}
use Rattle.if1_types.specs.Numbering.{IsNumbering}
use Rattle.if1_arguments.specs.Numbered.{form_of, list_of, first_types, types_in, numbered}
use Rattle.if1_arguments.specs.Arguments.{AreArgumentsOf}
use Rattle.if1_types.specs.Parameters.{member_labels, labels_by, param_labels, value_by, type_at, parameter, params_at as numbered_params}
use Rattle.if1_types.specs.declared.parameters.Parameter.{Parameter}
use Rattle.if1_types.proofs.Skipping.{no_member}
use Rattle.if1_types.proofs.Views.{Parts, parts_of, tree_is}
use Rattle.if1_arguments.proofs.Bare.{one_tree}

-- ---- lists

module _ (ks : List Key) (told : AreCountedBy ks) where
  abbrev by_first : ℕ → ListForm → List ℕ
  by_first c list.End = []
  by_first c (list.Member k r) = k ∷ first_types ks c r

  is_first : (c l : ℕ) → first_types ks (suc c) l ≡ by_first c (list_form_at ks l)
  is_first c l = by (list_form_at ks l)
    where
      by : (f : ListForm) → (elim f [ list.End ↦ [] | list.Member k r ↦ k ∷ first_types ks c r ]) ≡ by_first c f
      by list.End = refl
      by (list.Member k r) = refl

  counted : (c l : ℕ) → members_at ks l ≡ c → length (first_types ks c l) ≡ c
  counted zero l e = refl
  counted (suc c) l e = ap length (is_first c l) ∙ by (list_form_at ks l) (told l) (counted c)
    where
      by : (f : ListForm) → members_at ks l ≡ members_by ks f → ((r : ℕ) → members_at ks r ≡ c → length (first_types ks c r) ≡ c) → length (by_first c f) ≡ suc c
      by (list.Member k r) is more = ap suc (more r (omega (arith, is, e)))
      by list.End is more = absurd (omega (arith, is, e))

  pub types_counted : (l : ℕ) → length (types_in ks l) ≡ members_at ks l
  types_counted l = counted (members_at ks l) l refl

  abbrev member_of : ListForm → ℕ → Option ℕ
  member_of f zero = first_in f
  member_of f (suc i) = rest_in f >>= λ rest. member_at ks rest i

  member_is : (l i : ℕ) → member_of (list_form_at ks l) i ≡ member_at ks l i
  member_is l zero = refl
  member_is l (suc i) = refl

  found : (c l i : ℕ) → members_at ks l ≡ c → slice_get (first_types ks c l) i ≡ member_at ks l i
  found zero l i e = sym (no_member ks told l i (omega (arith, e)))
  found (suc c) l i e = ap (λ ns. slice_get ns i) (is_first c l) ∙ (by (list_form_at ks l) (told l) i (found c) ∙ member_is l i)
    where
      by : (f : ListForm) → members_at ks l ≡ members_by ks f → (i : ℕ) → ((r i : ℕ) → members_at ks r ≡ c → slice_get (first_types ks c r) i ≡ member_at ks r i)
          → slice_get (by_first c f) i ≡ member_of f i
      by (list.Member k r) is zero more = refl
      by (list.Member k r) is (suc i) more = more r i (omega (arith, is, e))
      by list.End is i more = absurd (omega (arith, is, e))

  pub type_found : (l i : ℕ) → slice_get (types_in ks l) i ≡ member_at ks l i
  type_found l i = found (members_at ks l) l i refl

-- ---- types

no_node : {k : ℕ} {a b : Tree} → leaf ≡ node k a b → ⊥
no_node e = cc

module _ (ks : List Key) (keys : HasKeys ks) where
  -- the key of a number whose tree is a node, and its parts
  record HasKey (n kind : ℕ) (a b : Tree) : Type 0 where
    key : Key
    is : key_at ks n ≡ Some key
    parts : Parts ks key kind a b

  key_of : (n kind : ℕ) (a b t : Tree) → Stands (trees_in ks) n t → t ≡ node kind a b → HasKey n kind a b
  key_of n kind a b t s e = by (key_at ks n) refl (keys n)
    where
      by : (o : Option Key) → key_at ks n ≡ o → IsKeyOf ks n o → HasKey n kind a b
      by None h k = absurd (no_node (sym k ∙ (s.is ∙ e)))
      by (Some key) h k = record { key = key; is = h; parts = parts_of ks n key kind a b t k s e }

  form_is : (n kind : ℕ) (a b : Tree) (h : HasKey n kind a b) → ty_form_at ks n ≡ ty_form kind h.key.1
  form_is n kind a b h =
      ap (λ o. elim o [ None ↦ form.Nothing | Some k ↦ ty_form k.0 k.1 ]) h.is ∙ ap (λ k. ty_form k h.key.1) h.parts.kind_is

  list_is : (l : ℕ) (a b : Tree) (h : HasKey l 9 a b) → list_form_at ks l ≡ list.Member h.key.1 h.key.2
  list_is l a b h =
      ap (λ o. elim o [ None ↦ list.End | Some k ↦ list_form k.0 k.1 k.2 ]) h.is ∙ ap (λ k. list_form k h.key.1 h.key.2) h.parts.kind_is

  module _ (levels : ℕ) (like : (n : ℕ) (t : Ty) → Stands (trees_in ks) n (ty_tree t) → IsLike (numbered ks) levels n t) where
    first_like : (c l : ℕ) (fs : List Member) → members_at ks l ≡ c → Stands (trees_in ks) l (list_tree fs) → AreLike (IsLike (numbered ks) levels) (first_types ks c l) fs
    first_like zero l [] e s = tt
    first_like zero l (f ∷ fs) e s = let m : members_at ks l ≡ suc (members_in (list_tree fs)) = ap members_in s.is in absurd (omega (arith, m, e))
    first_like (suc c) l [] e s = let m : members_at ks l ≡ 0 = ap members_in s.is in absurd (omega (arith, m, e))
    first_like (suc c) l (f ∷ fs) e s =
        let h = key_of l 9 (ty_tree f.1) (list_tree fs) (list_tree (f ∷ fs)) s refl in
        let m : members_at ks l ≡ suc (members_in (list_tree fs)) = ap members_in s.is in
        let less : members_at ks h.key.2 ≡ c = ap members_in h.parts.second.is ∙ (omega (arith, m, e)) in
        let is : first_types ks (suc c) l ≡ h.key.1 ∷ first_types ks c h.key.2 =
        ap (λ o. elim o [ list.End ↦ [] | list.Member k r ↦ k ∷ first_types ks c r ]) (list_is l (ty_tree f.1) (list_tree fs) h) in
        subst (λ ns. AreLike (IsLike (numbered ks) levels) ns (f ∷ fs)) (sym is) (like h.key.1 f.1 h.parts.first, first_like c h.key.2 fs less h.parts.second)

    by_form : (n : ℕ) (t : Ty) (o : Ty-F Ty) → out-Ty t ≡ o → Stands (trees_in ks) n (ty_tree t) → HasForm (numbered ks) (IsLike (numbered ks) levels) n o
    by_form n t Ty-F.Int e s = let h = key_of n 2 leaf leaf (ty_tree t) s (tree_is t Ty-F.Int e) in ap form_of (form_is n 2 leaf leaf h)
    by_form n t Ty-F.Bool e s = let h = key_of n 0 leaf leaf (ty_tree t) s (tree_is t Ty-F.Bool e) in ap form_of (form_is n 0 leaf leaf h)
    by_form n t Ty-F.Char e s = let h = key_of n 1 leaf leaf (ty_tree t) s (tree_is t Ty-F.Char e) in ap form_of (form_is n 1 leaf leaf h)
    by_form n t Ty-F.Null e s = let h = key_of n 3 leaf leaf (ty_tree t) s (tree_is t Ty-F.Null e) in ap form_of (form_is n 3 leaf leaf h)
    by_form n t (Ty-F.Arr u) e s =
        let h = key_of n 4 (ty_tree u) leaf (ty_tree t) s (tree_is t (Ty-F.Arr u) e) in
        (h.key.1, ap form_of (form_is n 4 (ty_tree u) leaf h), like h.key.1 u h.parts.first)
    by_form n t (Ty-F.Stream u) e s =
        let h = key_of n 5 (ty_tree u) leaf (ty_tree t) s (tree_is t (Ty-F.Stream u) e) in
        (h.key.1, ap form_of (form_is n 5 (ty_tree u) leaf h), like h.key.1 u h.parts.first)
    by_form n t (Ty-F.Rec fs) e s =
        let h = key_of n 6 (list_tree fs) leaf (ty_tree t) s (tree_is t (Ty-F.Rec fs) e) in
        let is = form_is n 6 (list_tree fs) leaf h in
        (ap form_of is, subst (λ l. AreLike (IsLike (numbered ks) levels) (types_in ks l) fs) (sym (ap list_of is)) (first_like (members_at ks h.key.1) h.key.1 fs refl h.parts.first))
    by_form n t (Ty-F.Uni fs) e s =
        let h = key_of n 7 (list_tree fs) leaf (ty_tree t) s (tree_is t (Ty-F.Uni fs) e) in
        let is = form_is n 7 (list_tree fs) leaf h in
        (ap form_of is, subst (λ l. AreLike (IsLike (numbered ks) levels) (types_in ks l) fs) (sym (ap list_of is)) (first_like (members_at ks h.key.1) h.key.1 fs refl h.parts.first))

  like : (levels n : ℕ) (t : Ty) → Stands (trees_in ks) n (ty_tree t) → IsLike (numbered ks) levels n t
  like zero n t s = tt
  like (suc levels) n t s = by_form levels (like levels) n t (out-Ty t) refl s

-- ---- arguments of functions

module _ (ts : List TypeEntry) (s : Sorts) (n : IsNumbering ts s) where
  -- a label with a type is one of no multiple and no function
  plain : (l : ℕ) (t : Ty) (e : TypeEntry) (k : Option TypeKind) (u : Ty) → ty_of with_names (ty_within with_names 63 ts) ts e k ≡ Some t → bare_at ts l ≡ Some u → sort_of ts l e k ≡ Some (Plain u)
  plain l t e (Some kind.Multiple) u h b = cc
  plain l t e (Some kind.Function) u h b = cc
  plain l t e _ u h b = ap (λ o. o >>= λ t. Some (Plain t)) b

  sort_is : (l : ℕ) (t u : Ty) → ty_at ts l ≡ Some t → bare_at ts l ≡ Some u → sort_at ts l ≡ Some (Plain u)
  sort_is l t u h b = by (entry_at ts l) h
    where
      by : (o : Option TypeEntry) → (o >>= λ e. ty_of with_names (ty_within with_names 63 ts) ts e (kind_at e.code)) ≡ Some t → (o >>= λ e. sort_of ts l e (kind_at e.code)) ≡ Some (Plain u)
      by None h = cc
      by (Some e) h = plain l t e (kind_at e.code) u h b

  one_type : (t u : Ty) → Plain t ≡ Plain u → t ≡ u
  one_type t u e = cc

  no_multiple : (t u : Ty) → Plain t ≡ Many u → ⊥
  no_multiple t u e = cc

  no_function : (t : Ty) (args rs : List Ty) → Plain t ≡ Function args rs → ⊥
  no_function t args rs e = cc

  value_is : (f : SortForm) (u : Ty) → IsSortForm s.shapes (Plain u) f → IsTy s.shapes (value_by f) u
  value_is sort.Nothing u h = absurd h
  value_is (sort.Value k) u h = subst (IsTy s.shapes k) (sym (one_type u h.0 h.1)) h.2
  value_is (sort.Multiple k) u h = absurd (no_multiple u h.0 h.1)
  value_is (sort.Function a r) u h = absurd (no_function u h.0 h.1 h.2)

  label_stands : (l : ℕ) (t : Ty) → ty_at ts l ≡ Some t → StandsFor (numbered s.shapes) (type_at s l) t
  label_stands l t h = by (bare_at ts l) refl (sym (ap (option_map ty_tree) h) ∙ one_tree with_names without_names most_deep ts l)
    where
      by : (o : Option Ty) → bare_at ts l ≡ o → Some (ty_tree t) ≡ option_map ty_tree (bare_at ts l) → StandsFor (numbered s.shapes) (type_at s l) t
      by None b e = let x : Some (ty_tree t) ≡ None = e ∙ ap (option_map ty_tree) b in cc
      by (Some u) b e =
          let same : ty_tree t ≡ ty_tree u = same_Some (ty_tree t) (ty_tree u) (e ∙ ap (option_map ty_tree) b) in
          let stands = n.stand l (Plain u) (sort_is l t u h b) in
          let is : IsTy s.shapes (type_at s l) u = value_is _ u (n.read.sorts _ (Plain u) stands) in
          λ levels. like s.shapes n.keys levels (type_at s l) t (record { within = is.stands.within; is = is.stands.is ∙ sym same })

  -- ---- lists of arguments

  -- the labels of a list of members, and their types
  record AreLabels (ms : List Member) (far l : ℕ) : Type 0 where
    labels : List ℕ
    is : member_labels is_tuple ts far l ≡ Some labels
    stand : StandForAll (numbered s.shapes) (map (type_at s) labels) (map (λ m. m.1) ms)

  labelled : (far l : ℕ) (ms : List Member) → members without_names (ty_at ts) is_tuple ts far l ≡ Some ms → AreLabels ms far l
  labelled far zero ms h = let e : [] ≡ ms = same_Some [] ms h in record { labels = []; is = refl; stand = subst (λ ms. StandForAll (numbered s.shapes) [] (map (λ m. m.1) ms)) e tt }
  labelled zero (suc l) ms h = cc
  labelled (suc far) (suc l) ms h = by (entry_at ts (suc l)) refl h (labelled far)
    where
      one : (e : TypeEntry) (t : Ty) → entry_at ts (suc l) ≡ Some e → is_tuple (kind_at e.code) ≡ true → ty_at ts e.first ≡ Some t → (o : Option (List Member)) → members without_names (ty_at ts) is_tuple ts far e.second ≡ o
          → (o >>= λ others. Some (([], t) ∷ others)) ≡ Some ms → ((l : ℕ) (ms : List Member) → members without_names (ty_at ts) is_tuple ts far l ≡ Some ms → AreLabels ms far l) → AreLabels ms (suc far) (suc l)
      one e t at is ty None rest h more = cc
      one e t at is ty (Some others) rest h more =
          let r = more e.second others rest in
          let same : (([], t) ∷ others) ≡ ms = same_Some (([], t) ∷ others) ms h in
          record {
            labels = e.first ∷ r.labels;
            is = ap (λ o. (o >>= λ e. if is_tuple (kind_at e.code) then Some e else None) >>= λ e. member_labels is_tuple ts far e.second >>= λ others. Some (e.first ∷ others)) at
                ∙ (ap (λ b. (if b then Some e else None) >>= λ e. member_labels is_tuple ts far e.second >>= λ others. Some (e.first ∷ others)) is
                ∙ ap (λ o. o >>= λ others. Some (e.first ∷ others)) r.is);
            stand = subst (λ ms. StandForAll (numbered s.shapes) (map (type_at s) (e.first ∷ r.labels)) (map (λ m. m.1) ms)) same (label_stands e.first t ty, r.stand);
          }

      typed : (e : TypeEntry) → entry_at ts (suc l) ≡ Some e → (b : Bool) → is_tuple (kind_at e.code) ≡ b → (o : Option Ty) → ty_at ts e.first ≡ o
          → ((if b then o else None) >>= λ t. members without_names (ty_at ts) is_tuple ts far e.second >>= λ others. Some (([], t) ∷ others)) ≡ Some ms
          → ((l : ℕ) (ms : List Member) → members without_names (ty_at ts) is_tuple ts far l ≡ Some ms → AreLabels ms far l) → AreLabels ms (suc far) (suc l)
      typed e at false is o ty h more = cc
      typed e at true is None ty h more = cc
      typed e at true is (Some t) ty h more = one e t at is ty (members without_names (ty_at ts) is_tuple ts far e.second) refl h more

      by : (o : Option TypeEntry) → entry_at ts (suc l) ≡ o
          → (o >>= λ e. (if is_tuple (kind_at e.code) then ty_at ts e.first else None) >>= λ t. members without_names (ty_at ts) is_tuple ts far e.second >>= λ others. Some (([], t) ∷ others)) ≡ Some ms
          → ((l : ℕ) (ms : List Member) → members without_names (ty_at ts) is_tuple ts far l ≡ Some ms → AreLabels ms far l) → AreLabels ms (suc far) (suc l)
      by None at h more = cc
      by (Some e) at h more = typed e at (is_tuple (kind_at e.code)) refl (ty_at ts e.first) refl h more

  -- the numbers of the arguments, by the labels
  record HasLabels (tys : List Ty) (l : ℕ) : Type 0 where
    labels : List ℕ
    is : param_labels ts l ≡ Some labels
    stand : StandForAll (numbered s.shapes) (map (type_at s) labels) tys

  tupled : (tys : List Ty) (l : ℕ) (o : Option (List Member)) → members without_names (ty_at ts) is_tuple ts (length ts) l ≡ o → (o >>= λ ms. Some (map (λ m. m.1) ms)) ≡ Some tys
      → (labels : List ℕ) × (member_labels is_tuple ts (length ts) l ≡ Some labels) × StandForAll (numbered s.shapes) (map (type_at s) labels) tys
  tupled tys l None e h = cc
  tupled tys l (Some ms) e h =
      let r = labelled (length ts) l ms e in
      (r.labels, r.is, subst (StandForAll (numbered s.shapes) (map (type_at s) r.labels)) (same_Some (map (λ m. m.1) ms) tys h) r.stand)

  of_kind : (tys : List Ty) (e : TypeEntry) (k : Option TypeKind) → params_of ts e k ≡ Some tys → (labels : List ℕ) × (labels_by ts e k ≡ Some labels) × StandForAll (numbered s.shapes) (map (type_at s) labels) tys
  of_kind tys e (Some kind.Function) h = tupled tys e.first (members without_names (ty_at ts) is_tuple ts (length ts) e.first) refl h
  of_kind tys e _ h = cc

  has_labels : (tys : List Ty) (l : ℕ) → params_at ts l ≡ Some tys → HasLabels tys l
  has_labels tys l h = by (entry_at ts l) refl h
    where
      by : (o : Option TypeEntry) → entry_at ts l ≡ o → (o >>= λ e. params_of ts e (kind_at e.code)) ≡ Some tys → HasLabels tys l
      by None at h = cc
      by (Some e) at h =
          let r = of_kind tys e (kind_at e.code) h in
          record { labels = r.0; is = ap (λ o. o >>= λ e. labels_by ts e (kind_at e.code)) at ∙ r.1; stand = r.2 }

  numbers_are : (labels : List ℕ) → map (λ p. p.ty) (map (parameter s) labels) ≡ map (type_at s) labels
  numbers_are [] = refl
  numbers_are (l ∷ labels) = ap (λ ns. type_at s l ∷ ns) (numbers_are labels)

  pub parameters_stand : (tys : List Ty) (l : ℕ) (ps : List Parameter) → params_at ts l ≡ Some tys → Some ps ≡ numbered_params ts s l → StandForAll (numbered s.shapes) (map (λ p. p.ty) ps) tys
  parameters_stand tys l ps h e =
      let r = has_labels tys l h in
      let same : ps ≡ map (parameter s) r.labels = same_Some ps (map (parameter s) r.labels) (e ∙ ap (option_map (λ ls. map (parameter s) ls)) r.is) in
      subst (λ ns. StandForAll (numbered s.shapes) ns tys) (sym (ap (map (λ p. p.ty)) same ∙ numbers_are r.labels)) r.stand

  pub parameters_there : (tys : List Ty) (l : ℕ) → params_at ts l ≡ Some tys → None ≡ numbered_params ts s l → ⊥
  parameters_there tys l h e =
      let r = has_labels tys l h in
      let x : None ≡ Some (map (parameter s) r.labels) = e ∙ ap (option_map (λ ls. map (parameter s) ls)) r.is in
      cc
