-- The depths of a table are those of its types.
use Rattle.std.proofs.Common.{◌≡◌, ℕ, suc, zero, ◌+◌, ◌<◌, ◌≤◌, max, List, [], ◌∷◌, ◌++◌, length, map, All, Some, slice_get, get_or, refl, sym, ap, subst, ◌∙◌, arith}
use Rattle.std.proofs.lemmas.Option.{same_Some, slice_get_within, get_or_from_slice_get, slice_get-get_or}
use Rattle.std.proofs.lemmas.List.{length-append}
use Rattle.std.proofs.lemmas.List.Elements.{All-head, All-tail}
use Rattle.flow_value.specs.declared.ty.Ty.{Ty}
use Rattle.type_table.specs.declared.form.Form.{Form}
use Rattle.type_table.specs.declared.form.Form.TheVariants as form
use Rattle.type_table.specs.declared.form.Member.{Member as NumberedMember}
use Rattle.type_table.specs.Forms.{parts, deepest, form_depth}
use Rattle.type_table.specs.Tables.{depths_onto, depths, IsOver, IsTable}
use Rattle.type_table.proofs.Lists.{left, seam}
use Rattle.typed_tree.specs.Types as types
use Rattle.typed_tree.specs.Types.{Member, IsNumber, boolean, character, integer, null, array, stream, a_record, a_union, AreMembers, no_member, a_member, depth_of, IsShallow}
use Rattle.typed_tree.proofs.Depths.{depth_array, depth_stream, depth_record, depth_union, depth_basic}
use Rattle.type_rules.specs.declared.head.Sort.{Sort}
use Rattle.type_rules.specs.declared.head.Sort.TheVariants as sort
use Rattle.type_rules.specs.Typed.{IsAsDeep}
use Rattle.type_rules.proofs.Sorted.{StandsFor}

-- what is there stays
keeps : (fs : List Form) (ds : List ℕ) (k d : ℕ) → slice_get ds k ≡ Some d → slice_get (depths_onto ds fs) k ≡ Some d
keeps [] ds k d e = e
keeps (f ∷ fs) ds k d e = keeps fs (ds ++ form_depth ds f ∷ []) k d (left ds (form_depth ds f ∷ []) k d e)

-- so do forms over it
same_deepest : (ds whole ts : List ℕ) → ((t : ℕ) → t < length ds → get_or whole t 0 ≡ get_or ds t 0) → All (λ t. t < length ds) ts → deepest ds ts ≡ deepest whole ts
same_deepest ds whole [] same over = refl
same_deepest ds whole (t ∷ ts) same over =
    ap (λ d. max d (deepest ds ts)) (sym (same t (All-head (λ t. t < length ds) t ts over)))
    ∙ ap (max (get_or whole t 0)) (same_deepest ds whole ts same (All-tail (λ t. t < length ds) t ts over))

same_depth : (fs : List Form) (ds : List ℕ) (t : ℕ) → t < length ds → get_or (depths_onto ds fs) t 0 ≡ get_or ds t 0
same_depth fs ds t within = get_or_from_slice_get (depths_onto ds fs) t (get_or ds t 0) 0 (keeps fs ds t (get_or ds t 0) (slice_get-get_or ds t 0 within))

depth_onto : (fs : List Form) (ds : List ℕ) (k : ℕ) (f : Form) → slice_get fs k ≡ Some f → ((j : ℕ) (g : Form) → slice_get fs j ≡ Some g → IsOver (length ds + j) g)
    → slice_get (depths_onto ds fs) (length ds + k) ≡ Some (form_depth (depths_onto ds fs) f)
depth_onto [] ds zero f e over = absurd cc
depth_onto [] ds (suc k) f e over = absurd cc
depth_onto (g ∷ fs) ds zero f e over =
    let more = ds ++ form_depth ds g ∷ [] in
    let same : g ≡ f = same_Some g f e in
    let at : length ds + 0 ≡ length ds = omega arith in
    let here : slice_get (depths_onto more fs) (length ds) ≡ Some (form_depth ds g) = keeps fs more (length ds) (form_depth ds g) (seam ds (form_depth ds g)) in
    let over_g : IsOver (length ds) g = subst (λ n. IsOver n g) at (over zero g refl) in
    let wide : (t : ℕ) → t < length ds → get_or (depths_onto more fs) t 0 ≡ get_or ds t 0 = same_depth (g ∷ fs) ds in
    ap (slice_get (depths_onto more fs)) at ∙ here
    ∙ ap (λ d. Some (1 + d)) (same_deepest ds (depths_onto more fs) (parts g) wide over_g)
    ∙ ap (λ f. Some (form_depth (depths_onto more fs) f)) same
depth_onto (g ∷ fs) ds (suc k) f e over =
    let more = ds ++ form_depth ds g ∷ [] in
    let long : length more ≡ length ds + 1 = length-append ds (form_depth ds g ∷ []) in
    let at : length ds + suc k ≡ length more + k = omega (arith, long) in
    ap (slice_get (depths_onto more fs)) at
    ∙ depth_onto fs more k f e (λ j g h. let there : length ds + suc j ≡ length more + j = omega (arith, long) in subst (λ n. IsOver n g) there (over (suc j) g h))

one_more : (d e : ℕ) → d ≡ e → 1 + d ≡ suc e
one_more d e h = omega (arith, h)

module _ (forms : List Form) (names : List (List ℕ)) (table : IsTable forms) where
  depth_there : (n : ℕ) (f : Form) → slice_get forms n ≡ Some f → slice_get (depths forms) n ≡ Some (form_depth (depths forms) f)
  depth_there n f e =
      let at : n ≡ length {A = ℕ} [] + n = omega arith in
      ap (slice_get (depths forms)) at
      ∙ depth_onto forms [] n f e (λ j g h. let there : j ≡ length {A = ℕ} [] + j = omega arith in subst (λ k. IsOver k g) there (table.well.after_parts j g h))

  depth_at : (n : ℕ) (f : Form) → slice_get forms n ≡ Some f → get_or (depths forms) n 0 ≡ form_depth (depths forms) f
  depth_at n f e = get_or_from_slice_get (depths forms) n (form_depth (depths forms) f) 0 (depth_there n f e)

  one_deeper : (m : ℕ) (t : Ty) → get_or (depths forms) m 0 ≡ depth_of t → 1 + max (get_or (depths forms) m 0) 0 ≡ suc (depth_of t)
  one_deeper m t e = omega (arith, e)

  mutual
    depth_is : (n : ℕ) (t : Ty) → IsNumber forms names n t → get_or (depths forms) n 0 ≡ depth_of t
    depth_is n _ (boolean e) = depth_at n form.Boolean e ∙ sym depth_basic.1
    depth_is n _ (character e) = depth_at n form.Character e ∙ sym depth_basic.2
    depth_is n _ (integer e) = depth_at n form.Integer e ∙ sym depth_basic.0
    depth_is n _ (null e) = depth_at n form.Null e ∙ sym depth_basic.3
    depth_is n _ (array {m = m} {t = t} e p) = depth_at n (form.Array m) e ∙ one_deeper m t (depth_is m t p) ∙ sym (depth_array t)
    depth_is n _ (stream {m = m} {t = t} e p) = depth_at n (form.Stream m) e ∙ one_deeper m t (depth_is m t p) ∙ sym (depth_stream t)
    depth_is n _ (a_record {ms = ms} {fs = fs} e p) = depth_at n (form.Record ms) e ∙ one_more _ _ (deepest_is ms fs p) ∙ sym (depth_record fs)
    depth_is n _ (a_union {ms = ms} {fs = fs} e p) = depth_at n (form.Union ms) e ∙ one_more _ _ (deepest_is ms fs p) ∙ sym (depth_union fs)

    deepest_is : (ms : List NumberedMember) (fs : List Member) → AreMembers forms names ms fs → deepest (depths forms) (map (λ m. m.ty) ms) ≡ types.deepest (map (λ m. (m.0, depth_of m.1)) fs)
    deepest_is _ _ no_member = refl
    deepest_is _ _ (a_member {n = n} {t = t} {ms = ms} {fs = fs} s p r) =
        ap (λ d. max d (deepest (depths forms) (map (λ m. m.ty) ms))) (depth_is n t p) ∙ ap (max (depth_of t)) (deepest_is ms fs r)

  number_there : (n : ℕ) (t : Ty) → IsNumber forms names n t → (f : Form) × (slice_get forms n ≡ Some f)
  number_there n _ (boolean e) = (form.Boolean, e)
  number_there n _ (character e) = (form.Character, e)
  number_there n _ (integer e) = (form.Integer, e)
  number_there n _ (null e) = (form.Null, e)
  number_there n _ (array {m = m} e p) = (form.Array m, e)
  number_there n _ (stream {m = m} e p) = (form.Stream m, e)
  number_there n _ (a_record {ms = ms} e p) = (form.Record ms, e)
  number_there n _ (a_union {ms = ms} e p) = (form.Union ms, e)

  is_there : (n : ℕ) (t : Ty) → IsNumber forms names n t → n < length forms
  is_there n t p = let f = number_there n t p in slice_get_within forms n f.0 f.1

  -- parts that stand for types are in the table
  none_there : All (λ k. k < length forms) []
  none_there k d within = absurd (omega arith)

  first_there : (n : ℕ) (ns : List ℕ) → n < length forms → All (λ k. k < length forms) ns → All (λ k. k < length forms) (n ∷ ns)
  first_there n ns h hs zero d within = h
  first_there n ns h hs (suc k) d within = hs k d (omega arith)

  one_there : (m : ℕ) (t : Ty) → IsNumber forms names m t → All (λ k. k < length forms) (m ∷ [])
  one_there m t p = first_there m [] (is_there m t p) none_there

  all_there : (ms : List NumberedMember) (fs : List Member) → AreMembers forms names ms fs → All (λ k. k < length forms) (map (λ m. m.ty) ms)
  all_there _ _ no_member = none_there
  all_there _ _ (a_member {n = n} {t = t} {ms = ms} {fs = fs} s p r) = first_there n (map (λ m. m.ty) ms) (is_there n t p) (all_there ms fs r)

  shallow : (n : ℕ) (t : Ty) → IsNumber forms names n t → IsShallow t
  shallow n t p =
      let f = number_there n t p in
      let within : n < length (depths forms) = slice_get_within (depths forms) n (form_depth (depths forms) f.0) (depth_there n f.0 f.1) in
      subst (λ d. d ≤ 64) (depth_is n t p) (table.well.shallow n 0 within)

  -- a type is as deep as what is made
  pub as_deep : (s : Sort) (t : Ty) → StandsFor forms names s t → IsAsDeep forms s t
  as_deep (sort.There n) t p = shallow n t p
  as_deep (sort.Made form.Boolean) t p = record { over = none_there; deep = sym depth_basic.1 ∙ ap depth_of (sym p) }
  as_deep (sort.Made form.Character) t p = record { over = none_there; deep = sym depth_basic.2 ∙ ap depth_of (sym p) }
  as_deep (sort.Made form.Integer) t p = record { over = none_there; deep = sym depth_basic.0 ∙ ap depth_of (sym p) }
  as_deep (sort.Made form.Null) t p = record { over = none_there; deep = sym depth_basic.3 ∙ ap depth_of (sym p) }
  as_deep (sort.Made (form.Array m)) t p =
      record { over = one_there m p.part p.stands; deep = one_deeper m p.part (depth_is m p.part p.stands) ∙ sym (depth_array p.part) ∙ ap depth_of (sym p.is) }
  as_deep (sort.Made (form.Stream m)) t p =
      record { over = one_there m p.part p.stands; deep = one_deeper m p.part (depth_is m p.part p.stands) ∙ sym (depth_stream p.part) ∙ ap depth_of (sym p.is) }
  as_deep (sort.Made (form.Record ms)) t p =
      record { over = all_there ms p.fields p.stand; deep = one_more _ _ (deepest_is ms p.fields p.stand) ∙ sym (depth_record p.fields) ∙ ap depth_of (sym p.is) }
  as_deep (sort.Made (form.Union ms)) t p =
      record { over = all_there ms p.fields p.stand; deep = one_more _ _ (deepest_is ms p.fields p.stand) ∙ sym (depth_union p.fields) ∙ ap depth_of (sym p.is) }
