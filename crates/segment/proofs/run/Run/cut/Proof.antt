-- `cut` hands places over, and leaves none of theirs behind.
use Rattle.segment.proofs.Words.{◌≡◌, ℕ, ◌+◌, ◌*◌, ◌^◌, ◌<◌, ◌≤◌, List, [], ◌∷◌, length, replicate, sym, refl, ap, ◌∙◌, subst, arith, add_comm, length-replicate, a_type, named, w64, Val, vint, vptr, inst_fn, full_share, SProp, emp, id⊢, never, Lft, Fml, ftrue, fsep, flft, Item, ‵, raw, ◌⊛◌, at_ret, ◌$◌, ◌∵◌, !, qed, by, move, keep, drop, split, join, fsplit, fsplit3, fjoin, fjoin3, fpick, fpack, use0, use1, use2, rewrite, feq_i, flt_i, flt_l, stop, fld, load, size_word, of_opd, bin, no_more, and_then, first, blocks, exec, returns, enter, alloc_all, pass_all, free_all, look_at, get, through, sets, sets_last, is, env, agg, sub, whole, look_in, tables, fact, fact_i, yes, RattleType, owns, types_at, plain, Ptr, block_ptr, in_block, in_a_block, ◌+ₚ◌, nothing, peeks, heard, opens, closes, Is, shows, cell_at, layouts, usize, uint_vals, uint_Tells, mut_vals, mut_Tells, Stays, stay_dropped, stay_ref, walk_of, Goes-dropped, Goes-ref, proved, leaves, after, El, R}
use Rattle.std.proofs.ptr.Rows.{times_below}
use Rattle.segment.specs.Places.{Place, away}
use Rattle.segment.specs.Runs.{bytes_of, place_at, part, spliced, places_own}
use Rattle.segment.proofs.Lists.{part_long, spliced_long}
use Rattle.segment.proofs.Rows.{uncapped, Around, comes_out, goes_back, none_here}
use Rattle.segment.proofs.Fields.{stored, stored_as, Pointer, pointer_made}
use Rattle.segment.specs.contracts.run.Run as run
use Rattle.segment.specs.contracts.run.Run.cut.{ended, clauses}
use Rattle.segment.specs.contracts.run.Run.cut.Key.{name as #self}
use Rattle.segment.proofs.run.Run.cut.Statement.{statement}
use Rattle.segment.proofs.run.Run.cut.Code as code

pub cut_spec : {M : Type 1} → statement M
cut_spec 𝓤 𝓛 𝓜 𝓡 wired X L =
    let 𝓣 = tables 𝓤 𝓛.H 𝓜 𝓡 𝓡.env in
    let E : El = record { row = X; laws = L } in
    let Row : RattleType = run.the_row (R E) in
    let D : RattleType = Pointer (R E) in
    let s : ℕ = bytes_of (R E) in
    let En = ended X in
    let inst = layouts (a_type ∷ []) (X, tt) in
    let fn = inst_fn inst code.function in
    let c = clauses X 𝓛 𝓜.mem 𝓡.returns in
    let self = plain (λ _. Row) in
    let word = plain (λ _. usize) in
    let hs : Stays En.signature.params En.kept = (stay_ref (0 ∷ []) tt self, (stay_dropped word yes, (stay_dropped word yes, tt))) in
    let word_goes = Goes-dropped 𝓛 2 word yes (λ κs x f. refl) in
    proved 𝓛 En hs c 𝓜 𝓡 (Goes-ref 𝓛 2 0 tt self, (word_goes, (word_goes, tt))) (#self inst) fn (code.unfolded 𝓤 𝓛.H 𝓜 𝓡 wired (X, tt))
    (λ κs. (mut_vals, (uint_vals w64, (uint_vals w64, tt)))) (λ κs. (mut_Tells (named 0) κs.0 Row, (uint_Tells w64, (uint_Tells w64, tt)))) (λ κs qs bounds a gh are.
    let b : ℕ = a.0.ref_ptr.0 in
    let o : ℕ = a.0.ref_ptr.1 in
    let κ : Lft = κs.0 in
    let r : Row.Denot = a.0.now in
    let p : Ptr = r.at in
    let from : ℕ = a.1.0 in
    let count : ℕ = a.1.1.0 in
    let q : Ptr = place_at (R E) p from in
    let aways : List (Place X.Denot) = replicate count away in
    let gone = length-replicate count (let z : Place X.Denot = away in z) in
    let cut : Row.Denot = record { at = q; places = part r.places from count; start = p; offset = from } in
    let left : Row.Denot = record r { places = spliced r.places from aways } in
    let Asked : Type 0 = from + count ≤ length r.places in
    let Told : Type 0 = (cut ≡ cut) × (left ≡ left) in
    let others : Fml = fsep (flft κs.1.0 qs.1.0) ftrue in
    let y : (walk_of 𝓛 En hs c).Ghost = ((κs, qs, bounds, a, (vptr b o ∷ [], (vint w64 from ∷ [], (vint w64 count ∷ [], tt)))), gh) in
    let Post : Val → SProp 𝓤 = (walk_of 𝓛 En hs c).post y in
    let Cell : List Val → Item 𝓤 = λ ws. ‵ (cell_at full_share Row.mir ws b o) in
    qed 𝓛 (((‵ (flft κ qs.0) ⊛ ‵ others) ⊛ ‵ (owns (types_at En.signature.params κs) a y.0.4)) ∷ raw (fact 𝓤 _) ∷ raw (fact 𝓤 Asked) ∷ []) ∵
    keep ! (2 ∷ 0 ∷ []) $ heard ! Asked (λ fits. split ! $ split ! $ move ! (2 ∷ []) $ fsplit ! $ fsplit3 ! $ keep ! (1 ∷ 2 ∷ 4 ∷ 5 ∷ []) $
    enter ! 𝓣.C 𝓣.Λ fn (vptr b o ∷ vint w64 from ∷ vint w64 count ∷ []) Post $
    alloc_all ! (λ l. pass_all ! refl ((tt, tt), ((tt, record { fits = are.1.0.1 }), ((tt, record { fits = are.1.1.0.1 }), tt))) $
    opens ! tt Row b o (λ vs. move ! (1 ∷ []) $ fsplit ! $ peeks ! D (Is D) (shows 𝓛 D) (p, tt) vs (λ so. move ! (1 ∷ []) $ fsplit ! $ fpick ! (λ lies. drop ! $ fsplit ! $ flt_l ! (λ small.
    in_a_block ! p (λ z. in_block z (places_own (R E) z r.places)) (id⊢ 𝓤 (never 𝓤)) (λ b' o' at.
    let off : ℕ = o' + from * s in
    let there : q ≡ block_ptr b' off = ap (λ (z : Ptr). z +ₚ from * s) at in
    let cell_is : vs ≡ stored (block_ptr b' o') ∷ [] = stored_as (R E) p vs so ∙ ap (λ (z : Ptr). stored z ∷ []) at in
    let far : from * s < 2 ^ 63 = times_below from (length r.places) s (2 ^ 63) (omega arith) small in
    let fits_word : from * s < 2 ^ 64 = omega arith in
    let size_is = uncapped from s fits_word in
    use1 𝓛 (‵ (places_own (R E) (block_ptr b' off) cut.places) ⊛ ‵ (Around E 𝓛 b' r.places from count fits o')) (comes_out E 𝓛 b' r.places from count fits o') $ split ! $
    -- [the places that are cut out; those around them; the pointer; the cell; the open borrow, in three entries; the other tokens]
    rewrite ! 3 Cell cell_is refl $ first ! $ blocks ! $
    sets ! (of_opd ! (load ! (through ! refl (fld ! refl (stop !))) (look_in ! 3 (sub ! 0 refl (whole !))))) refl (tt, tt) $
    sets ! (of_opd ! (get ! refl)) refl (tt, record { fits = are.1.0.1 }) $
    sets ! (is ! (bin ! (get ! refl) (size_word !) (record { fits = subst (λ (k : ℕ). k < 2 ^ 64) (sym size_is) fits_word })) (ap (vint w64) size_is)) refl (tt, record { fits = fits_word }) $
    sets_last ! (is ! (bin ! (get ! refl) (get ! refl) tt) (ap (vptr b') (add_comm (from * s) o'))) refl (tt, tt) $
    exec ! 𝓣.C 𝓣.Λ (env fn.locals l) (after 1 fn.body) (at_ret (env fn.locals l) Post) $ sets ! (of_opd ! (get ! refl)) refl (tt, tt) $
    sets ! (agg ! (and_then ! (get ! refl) (no_more !))) refl (tt, (tt, tt)) $ rewrite ! 3 Cell (sym cell_is) refl $
    rewrite ! 0 (λ (z : Ptr). ‵ (in_block z (places_own (R E) z cut.places))) (sym there) refl $
    flt_i ! (length cut.places * s) (2 ^ 63) (subst (λ (k : ℕ). k * s < 2 ^ 63) (sym (part_long r.places from count fits)) (times_below count (length r.places) s (2 ^ 63) (omega arith) small)) $ fjoin ! $
    nothing ! $ fpack ! (q ≡ place_at (R E) p from) (λ _. ftrue) refl $ fjoin ! $
    use0 𝓛 (‵ (D.own_val (q, tt) (stored q ∷ []))) (pointer_made (R E) 𝓛 q) $ fjoin ! $ rewrite ! 0 (λ (w : Val). ‵ (Row.own_val cut (w ∷ []))) (ap stored there) refl $
    -- [what is cut out; the places around it; the pointer; the cell; ..]
    move ! (1 ∷ []) $ use0 𝓛 (‵ (places_own (R E) (block_ptr b' off) aways)) (none_here E 𝓛 b' count off) $
    use2 𝓛 (‵ (places_own (R E) (block_ptr b' o') left.places)) (goes_back E 𝓛 b' r.places from count fits o' aways gone) $
    rewrite ! 0 (λ (z : Ptr). ‵ (in_block z (places_own (R E) z left.places))) (sym at) refl $
    flt_i ! (length left.places * s) (2 ^ 63)
    (subst (λ (k : ℕ). k * s < 2 ^ 63) (sym (spliced_long r.places from aways (subst (λ (k : ℕ). from + k ≤ length r.places) (sym gone) fits))) small) $ fjoin ! $
    nothing ! $ fpack ! (p ≡ place_at (R E) r.start r.offset) (λ _. ftrue) lies $ fjoin ! $
    move ! (2 ∷ 0 ∷ []) $ fjoin ! $ move ! (2 ∷ 0 ∷ 3 ∷ 4 ∷ 5 ∷ []) $ closes ! tt Row left vs b o $
    feq_i ! (List Val) (vptr b o ∷ []) (vptr b o ∷ []) refl $ fjoin3 ! $ nothing ! $ nothing ! $ fjoin ! $ nothing ! $ fjoin ! $ move ! (1 ∷ 0 ∷ []) $ fjoin ! $
    move ! (1 ∷ 3 ∷ []) $ join ! $ use0 𝓛 (raw (fact 𝓤 Told)) (fact_i 𝓤 Told (emp 𝓤) (refl, refl)) $
    returns ! (look_at ! 0 refl) $ free_all ! refl $ keep ! (1 ∷ 2 ∷ 3 ∷ 0 ∷ []) $
    by ! (leaves 𝓛 En hs c y (stored (block_ptr b' off)) cut (left, (tt, (tt, tt))) (tt, (tt, (tt, tt))))))))))))
