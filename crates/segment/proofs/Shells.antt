-- The memory of an empty `Vec` is its first places and the way back. Assumes `Logic`.
use Rattle.std.proofs.Common.{◌≡◌, ℕ, ◌+◌, ◌<◌, ◌*◌, ◌-◌, ◌^◌, ◌≤◌, Bool, true, false, true≢false, List, [], ◌∷◌, ◌++◌, length, map, replicate, refl, sym, ap, ◌∙◌, subst, arith}
use Rattle.std.proofs.lemmas.Bool.{ne_eqb, not_from_false}
use native.Mathlib.Decide.{ℕ_discrete}
use native.Mathlib.Nat.{zero-mul}
use mathlib.Core.Logic.{dite}
use lib.ListN.{length-map, length-replicate}
use seplogic.Ra.Ura.{Ura}
use mir.Syntax.{ty_array}
use mir.Raw.{raw as bare}
use mir.Val.{Val, vstruct, of_list}
use base.Fraction.{full_share}
use base.Logic.{ent, sep, wand}
use base.Fml.{Fml, ftrue, fsep, fex, feq, fall, fwand, froom}
use types.Logic.{Logic, sem}
use types.Kit.{‵, ◌⊛◌, ◌$◌, ◌∵◌, !, qed, move, drop, frame, each, assume, show, split, fsplit, fjoin, fpack, feq_i, flt_l, flt_i, use1, use2, rewrite, done}
use denote.RattleType.{RattleType}
use denote.Array.{Array}
use denote.Index.{row}
use denote.Memory.{part_at}
use denote.RawPtr.{Ptr, block_ptr, in_block}
use denote.Steps.{nothing}
use Rattle.std.specs.Allocator.{block_with_items}
use Rattle.std.specs.declared.alloc.Allocator.{Ghosts}
use Rattle.std.specs.contracts.vec.Vec as Vec
use Rattle.std.specs.Vec.Ownership.{owns_if, has_block}
use Rattle.std.proofs.alloc.Calls.{token}
use Rattle.std.proofs.mem.Param.{El}
use Rattle.std.proofs.ptr.Rows as arrays
use Rattle.std.proofs.RawLayout.{as_raw, as_written}
use Rattle.std.proofs.VecSteps.El as V
use Rattle.std.proofs.VecSteps.Opens.{vec_had, vec_made}
use Rattle.segment.specs.Places.{Place, unwritten, written}
use Rattle.segment.specs.Runs.{Extent, bytes_of, places_own, run_owns, begun, words}
use Rattle.segment.specs.contracts.run.Shell as Shell
use Rattle.segment.specs.declared.run.Shell.TheInside.{Inside}
use Rattle.segment.proofs.Lists.{begun_long, begun_more, blank_more}
use Rattle.segment.proofs.Rows.{cut, glue, of_room, to_room, to_values}
use Rattle.segment.proofs.Fields.{in_arrays, Single, wrapped, single_made}

-- the `Vec` of xs, as the way back gives it
abbrev pub Whole : (T P : RattleType) → Ghosts P.Denot → Extent → ℕ → Val → List T.Denot → Fml
Whole T P g e cap h xs = fex (Inside T.Denot P.Denot) (λ i. fsep (feq (List T.Denot) i.vec.items xs) ((Single (Vec.the_row T P g)).own_val (i.vec, tt) (words e.at (length xs) cap h)))

module _ (E : V.El) {M : Type 1} {𝓤 : Ura M} (𝓛 : Logic 𝓤) where
  abbrev X : El
  X = record { row = E.row; laws = E.laws }

  abbrev T : RattleType
  T = V.R E

  abbrev s : ℕ
  s = bytes_of T

  abbrev blank : ℕ → List (Place E.row.Denot)
  blank n = replicate n unwritten

  -- the first places hold xs, of the n that were taken out
  abbrev filled : ℕ → List E.row.Denot → List (Place E.row.Denot)
  filled n xs = map written xs ++ blank (n - length xs)

  module _ (a : V.Hd E) (b o n c : ℕ) (fits : n ≤ c) where
    -- the block with the elements xs, where there is one, and what stays of it without its first n places
    abbrev Block : Bool → ℕ → List E.row.Denot → Fml
    Block y l xs = owns_if y (block_with_items (token E.al a) T (block_ptr b o) l c xs)

    abbrev Rest : Bool → Fml
    Rest y = owns_if y (fsep (places_own T (block_ptr b (o + n * s)) (blank (c - n))) (token E.al a (bare (ty_array (V.elτ E) c)) (block_ptr b o)))

    places_out : (y : Bool) (xs : List E.row.Denot) → (y ≡ false → n ≡ 0)
        → ent 𝓤 (sem 𝓛 (Block y 0 xs)) (sep 𝓤 (sem 𝓛 (places_own T (block_ptr b o) (blank n))) (sem 𝓛 (Rest y)))
    places_out true xs none =
        let all : c - 0 ≡ c = omega arith in
        let first : o + 0 * s ≡ o = omega (arith, zero-mul s) in
        qed 𝓛 (‵ (Block true 0 xs) ∷ []) ∵ fsplit ! $ drop ! $ fsplit ! $
        rewrite ! 0 (λ (k : ℕ). ‵ (froom (bare (ty_array (V.elτ E) k)) b (o + 0 * s))) all refl $
        rewrite ! 0 (λ (k : ℕ). ‵ (froom (bare (ty_array (V.elτ E) c)) b k)) first refl $
        as_written ! (ty_array (V.elτ E) c) b o $ use1 𝓛 (‵ (places_own T (block_ptr b o) (blank c))) (of_room X 𝓛 b c o) $
        rewrite ! 0 (λ (ps : List (Place E.row.Denot)). ‵ (places_own T (block_ptr b o) ps)) (sym (blank_more n c fits)) refl $
        use1 𝓛 (‵ (places_own T (block_ptr b o) (blank n)) ⊛ ‵ (places_own T (block_ptr b (o + n * s)) (blank (c - n)))) (cut X 𝓛 b (blank n) (blank (c - n)) o n (length-replicate n unwritten)) $
        split ! $ frame ! $ fjoin ! $ done !
    places_out false xs none = qed 𝓛 (‵ ftrue ∷ []) ∵ nothing ! $ rewrite ! 0 (λ (k : ℕ). ‵ (places_own T (block_ptr b o) (blank k))) (sym (none refl)) refl $ done !

    places_in : (y : Bool) (xs : List E.row.Denot) → length xs ≤ n
        → ent 𝓤 (sep 𝓤 (sem 𝓛 (places_own T (block_ptr b o) (filled n xs))) (sem 𝓛 (Rest y))) (sem 𝓛 (Block y (length xs) xs))
    places_in true xs fewer =
        let l = length xs in qed 𝓛 (‵ (places_own T (block_ptr b o) (filled n xs)) ∷ ‵ (Rest true) ∷ []) ∵ move ! (1 ∷ []) $ fsplit ! $ move ! (2 ∷ 0 ∷ []) $
        use2 𝓛 (‵ (places_own T (block_ptr b o) (filled n xs ++ blank (c - n)))) (glue X 𝓛 b (filled n xs) (blank (c - n)) o n (begun_long xs n fewer)) $
        rewrite ! 0 (λ (ps : List (Place E.row.Denot)). ‵ (places_own T (block_ptr b o) ps)) (begun_more xs n c fewer fits) refl $
        use1 𝓛 (‵ (places_own T (block_ptr b o) (map written xs)) ⊛ ‵ (places_own T (block_ptr b (o + l * s)) (blank (c - l)))) (cut X 𝓛 b (map written xs) (blank (c - l)) o l (length-map xs written)) $
        split ! $ use1 𝓛 (‵ (row T full_share xs b o)) (to_values X 𝓛 b xs o) $ use1 𝓛 (‵ (part_at (Array T l) full_share xs b o)) (arrays.whole (in_arrays X) 𝓛 full_share l xs b o refl) $
        move ! (1 ∷ []) $ use1 𝓛 (‵ (froom (ty_array (V.elτ E) (c - l)) b (o + l * s))) (to_room X 𝓛 b (c - l) (o + l * s)) $ as_raw ! (ty_array (V.elτ E) (c - l)) b (o + l * s) $
        move ! (0 ∷ 2 ∷ []) $ fjoin ! $ move ! (1 ∷ []) $ frame ! $ done !
    places_in false xs fewer = qed 𝓛 (‵ (places_own T (block_ptr b o) (filled n xs)) ∷ ‵ ftrue ∷ []) ∵ drop ! $ done !

  stored_empty : (v : V.el_d E) (u hv : Val) (b o : ℕ) → v.len ≡ 0 → v.ptr ≡ block_ptr b o → u ∷ [] ≡ V.vec_val E hv b o v.len v.cap ∷ [] → wrapped u ∷ [] ≡ words v.ptr 0 v.cap hv
  stored_empty v u hv b o empty at is = ap (λ (us : List Val). vstruct (of_list us) ∷ []) is ∙ (λ i. words (sym at i) (empty i) v.cap hv)

  module _ (v : V.el_d E) (u : Val) (n : ℕ) (empty : v.len ≡ 0) (fits : n ≤ v.cap) where
    abbrev e : Extent
    e = record { at = v.ptr; len = n }

    abbrev Back : Type 0
    Back = Inside T.Denot (V.P E).Denot

    abbrev pub Apart : Type 1
    Apart = ent 𝓤 (sem 𝓛 ((V.Vr E).own_val v (u ∷ []))) (sep 𝓤 (sem 𝓛 (run_owns T v.ptr (blank n))) (sem 𝓛 (Shell.the_own T (V.P E) E.al.g e (wrapped u ∷ []))))

    carve_at : (has_block v.cap ≡ false → n ≡ 0) → Apart
    carve_at none = qed 𝓛 (‵ ((V.Vr E).own_val v (u ∷ [])) ∷ []) ∵ vec_had E ! v (u ∷ []) (λ b o hv at is fn fc fit fa.
        let y = has_block v.cap in
        let Given : List E.row.Denot → Fml = λ xs. begun T e xs in
        let Told : ℕ → Val → Fml = λ c h. fsep (feq (List Val) (wrapped u ∷ []) (words v.ptr 0 c h)) (fall (List E.row.Denot) (λ xs. fwand (Given xs) (Whole T (V.P E) E.al.g e c h xs))) in
        rewrite ! 0 (λ (k : ℕ). ‵ (Block v.alloc b o n v.cap fits y k v.items)) empty refl $
        use1 𝓛 (‵ (places_own T (block_ptr b o) (blank n)) ⊛ ‵ (Rest v.alloc b o n v.cap fits y)) (places_out v.alloc b o n v.cap fits y v.items none) $ split ! $
        -- [the places; the rest of the block; the handle]
        rewrite ! 0 (λ (p : Ptr). ‵ (in_block p (places_own T p (blank n)))) (sym at) refl $
        flt_i ! (length (blank n) * s) (2 ^ 63) (subst (λ (k : ℕ). k * s < 2 ^ 63) (sym (length-replicate n unwritten)) (arrays.times_below n v.cap s (2 ^ 63) fits fit)) $ fjoin ! $ frame ! $
        show ! (λ (c : ℕ). sem 𝓛 (fex Val (Told c))) v.cap $ show ! (λ (h : Val). sem 𝓛 (Told v.cap h)) hv $ feq_i ! (List Val) (wrapped u ∷ []) (words v.ptr 0 v.cap hv) (stored_empty v u hv b o empty at is) $ frame ! $
        each ! (λ xs. wand 𝓤 (sem 𝓛 (Given xs)) (sem 𝓛 (Whole T (V.P E) E.al.g e v.cap hv xs))) (λ xs. assume ! (‵ (Given xs)) $ fsplit ! $ flt_l ! (λ fewer. fsplit ! $ flt_l ! (λ small.
        -- [the places; the rest of the block; the handle]
        let l = length xs in
        let few : l ≤ n = omega arith in
        let within : l ≤ v.cap = omega arith in
        let back = V.el_make E v.alloc v.ptr l v.cap xs (refl, within) v.small in
        rewrite ! 0 (λ (p : Ptr). ‵ (in_block p (places_own T p (filled n xs)))) at refl $
        use2 𝓛 (‵ (Block v.alloc b o n v.cap fits y l xs)) (places_in v.alloc b o n v.cap fits y xs few) $
        vec_made E ! back.0 b o l v.cap xs (at, refl, refl, refl) (omega arith) fc fit $ single_made ! (V.Vr E) back.0 (V.vec_val E hv b o l v.cap) $
        rewrite ! 0 (λ (p : Ptr). ‵ ((Single (V.Vr E)).own_val (back.0, tt) (words p l v.cap hv))) (sym at) refl $
        feq_i ! (List E.row.Denot) xs xs refl $ fjoin ! $
        fpack ! Back (λ i. fsep (feq (List E.row.Denot) i.vec.items xs) ((Single (V.Vr E)).own_val (i.vec, tt) (words v.ptr l v.cap hv))) (record { vec = back.0 }) $ done !))))

    pub carve : Apart
    carve = dite (ℕ_discrete v.cap 0) (λ none. carve_at (λ _. omega (arith, fits))) (λ some. carve_at (λ e. absurd (true≢false (sym (not_from_false _ (ne_eqb v.cap 0 some)) ∙ e))))
