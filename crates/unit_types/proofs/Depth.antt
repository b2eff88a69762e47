-- The depth of a type is that of its number.
use Rattle.std.proofs.Common.{◌≡◌, ◌≤◌, ◌<◌, ℕ, ◌+◌, zero, suc, List, [], ◌∷◌, ◌++◌, All, map, max, length, get_or, Some, slice_get, refl, sym, ap, subst, ◌∙◌, arith}
use Rattle.std.proofs.lemmas.List.{length-append}
use Rattle.flow_value.specs.declared.ty.Ty.{Ty}
use Rattle.type_table.specs.declared.form.Form.{Form}
use Rattle.type_table.specs.declared.form.Form.TheVariants as form
use Rattle.type_table.specs.declared.form.Member.{Member as NumberedMember}
use Rattle.type_table.specs.Forms.{parts, form_depth, deepest as deepest_number}
use Rattle.type_table.specs.Tables.{depths_onto, depths, IsOver, IsWell, IsTable}
use Rattle.typed_tree.specs.Types.{Member, deepest, depth_of, IsShallow, IsNumber, boolean, character, integer, null, array, stream, a_record, a_union, AreMembers, no_member, a_member}
use Rattle.typed_tree.proofs.Depths.{depth_array, depth_stream, depth_record, depth_union, depth_basic}

-- ---- depths by number

-- depths are kept where a table grows
onto_keeps : (ds : List ℕ) (fs : List Form) (k : ℕ) → k < length ds → get_or (depths_onto ds fs) k 0 ≡ get_or ds k 0
onto_keeps ds [] k h = refl
onto_keeps ds (f ∷ fs) k h =
    onto_keeps (ds ++ form_depth ds f ∷ []) fs k (omega (arith, h, length-append ds (form_depth ds f ∷ []))) ∙ early ds (form_depth ds f) k h
  where
    early : (ds : List ℕ) (d k : ℕ) → k < length ds → get_or (ds ++ d ∷ []) k 0 ≡ get_or ds k 0
    early [] d k h = absurd (omega arith)
    early (x ∷ ds) d zero h = refl
    early (x ∷ ds) d (suc k) h = early ds d k (omega arith)

-- the greatest depth of parts depends on their depths alone
same_deepest : (ds es : List ℕ) (n : ℕ) → ((k : ℕ) → k < n → get_or ds k 0 ≡ get_or es k 0) → (ts : List ℕ) → All (λ t. t < n) ts → deepest_number ds ts ≡ deepest_number es ts
same_deepest ds es n same [] below = refl
same_deepest ds es n same (t ∷ ts) below =
    (λ i. max (same t (below 0 0 (omega arith)) i) (same_deepest ds es n same ts (λ k d h. below (suc k) d (omega arith)) i))

last_onto : (ds : List ℕ) (d : ℕ) → get_or (ds ++ d ∷ []) (length ds) 0 ≡ d
last_onto [] d = refl
last_onto (x ∷ ds) d = last_onto ds d

-- the depth at a place is that of the form there
depth_onto : (ds : List ℕ) (fs : List Form) (k : ℕ) (f : Form) → slice_get fs k ≡ Some f → IsOver (length ds + k) f
    → get_or (depths_onto ds fs) (length ds + k) 0 ≡ form_depth (depths_onto ds fs) f
depth_onto ds [] k f h over = cc
depth_onto ds (g ∷ fs) zero f h over =
    let e : g ≡ f = cc in
    let at : length ds + 0 ≡ length ds = omega arith in
    let more : length ds < length (ds ++ form_depth ds g ∷ []) = omega (arith, length-append ds (form_depth ds g ∷ [])) in
    let below : IsOver (length ds) f = subst (λ n. IsOver n f) at over in
    ap (λ n. get_or (depths_onto (ds ++ form_depth ds g ∷ []) fs) n 0) at
    ∙ onto_keeps (ds ++ form_depth ds g ∷ []) fs (length ds) more
    ∙ last_onto ds (form_depth ds g)
    ∙ ap (form_depth ds) e
    ∙ ap (λ d. 1 + d) (same_deepest ds (depths_onto ds (g ∷ fs)) (length ds) (λ k h. sym (onto_keeps ds (g ∷ fs) k h)) (parts f) below)
depth_onto ds (g ∷ fs) (suc k) f h over =
    let e : length ds + suc k ≡ length (ds ++ form_depth ds g ∷ []) + k = omega (arith, length-append ds (form_depth ds g ∷ [])) in
    ap (λ n. get_or (depths_onto (ds ++ form_depth ds g ∷ []) fs) n 0) e ∙ depth_onto (ds ++ form_depth ds g ∷ []) fs k f h (subst (λ n. IsOver n f) e over)

pub depth_at : (fs : List Form) (k : ℕ) (f : Form) → slice_get fs k ≡ Some f → IsOver k f → get_or (depths fs) k 0 ≡ form_depth (depths fs) f
depth_at fs k f h over =
    let e : 0 + k ≡ k = omega arith in
    subst (λ n. get_or (depths fs) n 0 ≡ form_depth (depths fs) f) e (depth_onto [] fs k f h (subst (λ n. IsOver n f) (sym e) over))

-- ---- depths of types

module _ (forms : List Form) (names : List (List ℕ)) (well : IsWell forms) where
  at : (k : ℕ) (f : Form) → slice_get forms k ≡ Some f → get_or (depths forms) k 0 ≡ form_depth (depths forms) f
  at k f h = depth_at forms k f h (well.after_parts k f h)

  mutual
    pub depth_number : {n : ℕ} {a : Ty} → IsNumber forms names n a → get_or (depths forms) n 0 ≡ depth_of a
    depth_number {n} (boolean e) = at n form.Boolean e ∙ sym depth_basic.1
    depth_number {n} (character e) = at n form.Character e ∙ sym depth_basic.2
    depth_number {n} (integer e) = at n form.Integer e ∙ sym depth_basic.0
    depth_number {n} (null e) = at n form.Null e ∙ sym depth_basic.3
    depth_number {n} (array {m = m} {t = t} e p) = at n (form.Array m) e ∙ (let d : get_or (depths forms) m 0 ≡ depth_of t = depth_number p in omega (arith, d, depth_array t))
    depth_number {n} (stream {m = m} {t = t} e p) = at n (form.Stream m) e ∙ (let d : get_or (depths forms) m 0 ≡ depth_of t = depth_number p in omega (arith, d, depth_stream t))
    depth_number {n} (a_record {ms = ms} {fs = fs} e p) = at n (form.Record ms) e ∙ (let d : deepest_number (depths forms) (map (λ m. m.ty) ms) ≡ deepest (map (λ m. (m.0, depth_of m.1)) fs) = depth_members p in omega (arith, d, depth_record fs))
    depth_number {n} (a_union {ms = ms} {fs = fs} e p) = at n (form.Union ms) e ∙ (let d : deepest_number (depths forms) (map (λ m. m.ty) ms) ≡ deepest (map (λ m. (m.0, depth_of m.1)) fs) = depth_members p in omega (arith, d, depth_union fs))

    pub depth_members : {ms : List NumberedMember} {fs : List Member} → AreMembers forms names ms fs
        → deepest_number (depths forms) (map (λ m. m.ty) ms) ≡ deepest (map (λ m. (m.0, depth_of m.1)) fs)
    depth_members no_member = refl
    depth_members (a_member s p q) = (λ i. max (depth_number p i) (depth_members q i))

-- what has a number is not deeper than 64
pub shallow_number : (forms : List Form) (names : List (List ℕ)) (n : ℕ) (f : Form) (a : Ty) → IsTable forms → slice_get forms n ≡ Some f → IsNumber forms names n a → IsShallow a
shallow_number forms names n f a table h p =
    subst (λ d. d ≤ 64) (depth_number forms names table.well p) (at_most (depths forms) n table.well.shallow)
  where
    at_most : (ds : List ℕ) (n : ℕ) → All (λ d. d ≤ 64) ds → get_or ds n 0 ≤ 64
    at_most [] n h = omega arith
    at_most (d ∷ ds) zero h = h 0 0 (omega arith)
    at_most (d ∷ ds) (suc n) h = at_most ds n (λ k x h'. h (suc k) x (omega arith))
