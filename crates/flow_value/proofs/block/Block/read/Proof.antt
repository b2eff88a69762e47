-- `read` takes the value out of a place, which is room again.
use Rattle.segment.proofs.Words.{◌≡◌, ℕ, ◌+◌, ◌*◌, ◌^◌, ◌<◌, ◌≤◌, List, [], ◌∷◌, ◌++◌, length, take, drop_list, sym, refl, ap, ◌∙◌, subst, arith, slice_set, Some, add_comm, a_type, w64, Val, vint, vptr, inst_fn, full_share, SProp, ent, emp, id⊢, never, Lft, Fml, ftrue, fsep, flft, Item, ‵, raw, ◌⊛◌, at_ret, ◌$◌, ◌∵◌, !, qed, by, move, keep, split, join, fsplit, fsplit3, fjoin, fjoin3, use0, use1, use2, rewrite, feq_i, flt_i, flt_l, suffices, stop, fld, load, size_word, of_opd, bin, first, blocks, exec, returns, enter, alloc_all, pass_all, free_all, look_at, get, through, sets, is, env, sub, whole, look_in, tables, fact, fact_i, yes, RattleType, owns, types_at, plain, Ptr, block_ptr, in_block, in_a_block, nothing, peeks, heard, opens, closes, Is, shows, cell_at, layout, layouts, usize, Stays, stay_dropped, stay_ref, walk_of, Goes-dropped, Goes-ref, proved_at, leaves, after, El, R, some, given, pick, learn, look, sets_last, fat}
use Rattle.std.proofs.Common.{length-set, map, get_or, None}
use Rattle.std.proofs.lemmas.List.{length-map}
use Rattle.std.proofs.ptr.Rows.{times_below, el_out}
use Rattle.std.proofs.RawLayout.{as_raw}
use Rattle.segment.specs.Places.{Place, unwritten}
use Rattle.segment.specs.Runs.{bytes_of, part, places_own}
use Rattle.segment.proofs.Rows.{uncapped, Around, comes_out, goes_back}
use Rattle.segment.proofs.Fields.{Good, in_arrays, stored}
use base.Fml.{froom}
use Rattle.flow_value.specs.Places.{IsFilled}
use Rattle.flow_value.specs.Ownership.{here}
use Rattle.flow_value.proofs.AtPlaces.{place_at, place_set, is_within}
use Rattle.flow_value.proofs.FrontFields.{Pointer, stored_as}
use Rattle.flow_value.specs.contracts.block.Block as block
use Rattle.flow_value.specs.contracts.block.Block.read.{ended, clauses}
use Rattle.flow_value.specs.contracts.block.Block.read.Key.{name as #self}
use Rattle.flow_value.proofs.block.Block.read.Statement.{statement}
use Rattle.flow_value.proofs.block.Block.read.Code as code

pub read_spec : {M : Type 1} → statement M
read_spec 𝓤 𝓛 𝓜 𝓡 wired X L =
    let 𝓣 = tables 𝓤 𝓛.H 𝓜 𝓡 𝓡.env in
    let E : El = record { row = X; laws = L } in
    let Row : RattleType = block.the_row (R E) in
    let D : RattleType = Pointer (R E) in
    let s : ℕ = bytes_of (R E) in
    let En = ended X in
    let inst = layouts (a_type ∷ []) (X, tt) in
    let fn = inst_fn inst code.function in
    let c = clauses X 𝓛 𝓜.mem 𝓡.returns in
    let self = plain (λ _. Row) in
    let word = plain (λ _. usize) in
    let hs : Stays En.signature.params En.kept = (stay_ref (0 ∷ []) tt self, (stay_dropped word yes, tt)) in
    proved_at 𝓛 En hs c 𝓜 𝓡 (Goes-ref 𝓛 2 0 tt self, (Goes-dropped 𝓛 2 word yes (λ κs x f. refl), tt)) (#self inst) fn
    (code.unfolded 𝓤 𝓛.H 𝓜 𝓡 wired (X, tt)) (λ z are.
    let κs = z.0.0 in
    let qs = z.0.1 in
    let a = z.0.3 in
    let b : ℕ = a.0.ref_ptr.0 in
    let o : ℕ = a.0.ref_ptr.1 in
    let κ : Lft = κs.0 in
    let r : Row.Denot = a.0.now in
    let p : Ptr = r.at in
    let i : ℕ = a.1.0 in
    let ps : List (Place X.Denot) = map here r.places in
    let new : Row.Denot = record r { places = slice_set r.places i None } in
    let Asked : Type 0 = IsFilled r.places i in
    let others : Fml = fsep (flft κs.1.0 qs.1.0) ftrue in
    let Post : Val → SProp 𝓤 = (walk_of 𝓛 En hs c).post z in
    let Run : List Val → SProp 𝓤 = λ ws. prog.Wp.WpFn 𝓤 𝓛.H 𝓣.C 𝓣.Λ fn ws Post in
    let Cell : List Val → Item 𝓤 = λ ws. ‵ (cell_at full_share Row.mir ws b o) in
    qed 𝓛 (((‵ (flft κ qs.0) ⊛ ‵ others) ⊛ ‵ (owns (types_at En.signature.params κs) a z.0.4)) ∷ raw (fact 𝓤 _) ∷ raw (fact 𝓤 Asked) ∷ []) ∵
    keep ! (2 ∷ 0 ∷ []) $ heard ! Asked (λ asked.
    let x : X.Denot = asked.0 in
    let Told : Type 0 = (get_or r.places i None ≡ Some x) × (new ≡ new) in
    let within = is_within r.places i x asked.1 in
    let long = length-map r.places here in
    let fits : i + 1 ≤ length ps = omega (arith, within, long) in
    split ! $ split ! $ move ! (2 ∷ []) $ fsplit3 ! $ fsplit3 ! $ keep ! (1 ∷ 2 ∷ 5 ∷ 6 ∷ []) $
    let us : List Val = vptr b o ∷ vint w64 i ∷ [] in
    suffices ! (Run us) (subst (λ (ws : List Val). ent 𝓤 (Run us) (Run ws)) (sym (λ j. are.0.0 j ++ (are.1.0.0 j ++ []))) (id⊢ 𝓤 (Run us))) $
    enter ! 𝓣.C 𝓣.Λ fn us Post $ alloc_all ! (λ l. pass_all ! refl ((tt, tt), ((tt, record { fits = are.1.0.1 }), tt)) $
    opens ! tt Row b o (λ vs. move ! (1 ∷ []) $ fsplit ! $ peeks ! D (Is D) (shows 𝓛 D) (p, tt) vs (λ so. move ! (1 ∷ []) $ fsplit ! $ fsplit ! $ flt_l ! (λ small.
    in_a_block ! p (λ q. in_block q (places_own (R E) q ps)) (id⊢ 𝓤 (never 𝓤)) (λ b' o' at.
    let off : ℕ = o' + i * s in
    let cell_is : vs ≡ stored (block_ptr b' o') ∷ [] = stored_as (R E) p vs so ∙ ap (λ (q : Ptr). stored q ∷ []) at in
    let far : i * s < 2 ^ 63 = times_below i (length ps) s (2 ^ 63) (omega arith) small in
    let fits_word : i * s < 2 ^ 64 = omega arith in
    let size_is = uncapped i s fits_word in
    use1 𝓛 (‵ (places_own (R E) (block_ptr b' off) (part ps i 1)) ⊛ ‵ (Around E 𝓛 b' ps i 1 fits o')) (comes_out E 𝓛 b' ps i 1 fits o') $ split ! $
    rewrite ! 0 (λ (qs : List (Place X.Denot)). ‵ (places_own (R E) (block_ptr b' off) qs)) (place_at r.places i (Some x) within asked.1) refl $ fsplit ! $
    use1 𝓛 (some (λ (v : Val). given (Good X v) (‵ (fat full_share (layout X) b' off v) ⊛ ‵ (X.own_val x (v ∷ []))))) (el_out (in_arrays E) 𝓛 full_share x b' off) $ pick ! (λ v. learn ! (λ good. split ! $
    -- [the place; the value; nothing; the places around it; the rest of the block; its words; the cell; the open borrow, in three entries; the other tokens]
    rewrite ! 6 Cell cell_is refl $ first ! $ blocks ! $
    sets ! (of_opd ! (load ! (through ! refl (fld ! refl (stop !))) (look_in ! 6 (sub ! 0 refl (whole !))))) refl (tt, tt) $
    sets ! (is ! (bin ! (get ! refl) (size_word !) (record { fits = subst (λ (k : ℕ). k < 2 ^ 64) (sym size_is) fits_word })) (ap (vint w64) size_is)) refl (tt, record { fits = fits_word }) $
    sets ! (is ! (bin ! (get ! refl) (get ! refl) tt) (ap (vptr b') (add_comm (i * s) o'))) refl (tt, tt) $
    sets_last ! (of_opd ! (load ! (through ! refl (stop !)) (look ! 0 refl))) refl good $
    exec ! 𝓣.C 𝓣.Λ (env fn.locals l) (after 1 fn.body) (at_ret (env fn.locals l) Post) $ sets ! (of_opd ! (get ! refl)) refl good $
    rewrite ! 6 Cell (sym cell_is) refl $ use1 𝓛 (‵ (froom (layout X) b' off)) (𝓛.laws.at_room (layout X) b' off v) $ as_raw ! (layout X) b' off $
    move ! (0 ∷ 2 ∷ []) $ fjoin ! $ move ! (0 ∷ 2 ∷ []) $
    use2 𝓛 (‵ (places_own (R E) (block_ptr b' o') (take i ps ++ (unwritten ∷ drop_list (i + 1) ps)))) (goes_back E 𝓛 b' ps i 1 fits o' (unwritten ∷ []) refl) $
    rewrite ! 0 (λ (qs : List (Place X.Denot)). ‵ (places_own (R E) (block_ptr b' o') qs)) (place_set r.places i None within) refl $
    rewrite ! 0 (λ (q : Ptr). ‵ (in_block q (places_own (R E) q (map here new.places)))) (sym at) refl $
    flt_i ! (length (map here new.places) * s) (2 ^ 63) (subst (λ (k : ℕ). k * s < 2 ^ 63) (long ∙ sym (length-set r.places i None) ∙ sym (length-map new.places here)) small) $ fjoin ! $
    -- [the places; the value; the rest of the block; its words; the cell; the open borrow, in three entries; the other tokens]
    move ! (0 ∷ 2 ∷ []) $ fjoin ! $ move ! (2 ∷ 0 ∷ []) $ fjoin ! $ move ! (2 ∷ 0 ∷ 3 ∷ 4 ∷ 5 ∷ []) $ closes ! tt Row new vs b o $
    feq_i ! (List Val) z.0.4.0 (vptr b o ∷ []) are.0.0 $ fjoin3 ! $ nothing ! $ nothing ! $ fjoin ! $ move ! (1 ∷ 0 ∷ []) $ fjoin ! $
    move ! (1 ∷ 3 ∷ 0 ∷ 2 ∷ []) $ join ! $ use0 𝓛 (raw (fact 𝓤 Told)) (fact_i 𝓤 Told (emp 𝓤) (asked.1, refl)) $
    returns ! (look_at ! 0 refl) $ free_all ! refl $ keep ! (1 ∷ 2 ∷ 3 ∷ 0 ∷ []) $
    by ! (leaves 𝓛 En hs c z v x (new, (tt, tt)) (tt, (tt, tt))))))))))))
