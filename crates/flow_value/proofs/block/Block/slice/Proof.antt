-- `slice` goes through the pointer: a `&` to the block shows each value for as long as it lasts.
use Rattle.segment.proofs.Words.{◌≡◌, ℕ, ◌+◌, ◌*◌, ◌^◌, ◌<◌, List, [], ◌∷◌, length, map, take, drop_list, sym, refl, ap, ◌∙◌, subst, arith, Some, add_comm, a_type, w64, Val, vint, vptr, inst_fn, SProp, emp, id⊢, never, Lft, Fml, ftrue, fsep, flft, Item, ‵, raw, ◌⊛◌, at_ret, ◌$◌, ◌∵◌, !, qed, by, move, keep, split, join, fsplit, fjoin, use0, use1, rewrite, feq_i, flt_i, flt_l, stop, fld, size_word, of_opd, bin, load, no_more, and_then, first, blocks, exec, returns, enter, alloc_all, pass_all, free_all, look_at, get, through, sets, is, env, agg, sub, whole, look_in, tables, fact, fact_i, yes, RattleType, owns, types_at, plain, Ptr, block_ptr, in_block, in_a_block, nothing, peeks, heard, Is, shows, cell_at, layouts, usize, uint_vals, uint_Tells, Stays, stay_dropped, walk_of, Goes-dropped, proved, leaves, after, El, R}
use Rattle.std.proofs.Common.{length-drop, length-take-le}
use Rattle.std.proofs.lemmas.List.{length-map}
use Rattle.std.proofs.ptr.Rows.{times_below}
use mir.Syntax.{named}
use base.Fml.{Share, fhide}
use types.ByLocal.{sets_last}
use denote.Memory.{hidden_shr}
use denote.Opens.{unhide, hide}
use denote.Ref.{shr_vals, shr_Tells}
use denote.Slice.{slice_val, elements_shared}
use denote.Steps.{looks, shuts}
use denote.Struct.Lending.{lent_out}
use denote.Builtin.{RefOf}
use Rattle.segment.specs.Places.{Place}
use Rattle.segment.specs.Runs.{bytes_of}
use Rattle.segment.proofs.Rows.{uncapped}
use Rattle.segment.proofs.Fields.{stored}
use Rattle.flow_value.specs.Places.{IsRun}
use Rattle.flow_value.specs.Ownership.{here, places_lent, block_lent}
use Rattle.flow_value.proofs.FrontFields.{Pointer, stored_as, pointer_opens}
use Rattle.flow_value.proofs.Lending.{shows as shows_run}
use Rattle.flow_value.specs.contracts.block.Block as block
use Rattle.flow_value.specs.contracts.block.Block.slice.{ended, clauses}
use Rattle.flow_value.specs.contracts.block.Block.slice.Key.{name as #self}
use Rattle.flow_value.proofs.block.Block.slice.Statement.{statement}
use Rattle.flow_value.proofs.block.Block.slice.Code as code

pub slice_spec : {M : Type 1} → statement M
slice_spec 𝓤 𝓛 𝓜 𝓡 wired X L =
    let 𝓣 = tables 𝓤 𝓛.H 𝓜 𝓡 𝓡.env in
    let E : El = record { row = X; laws = L } in
    let Row : RattleType = block.the_row (R E) in
    let D : RattleType = Pointer (R E) in
    let s : ℕ = bytes_of (R E) in
    let En = ended X in
    let inst = layouts (a_type ∷ []) (X, tt) in
    let fn = inst_fn inst code.function in
    let c = clauses X 𝓛 𝓜.mem 𝓡.returns in
    let self = RefOf (0 ∷ []) tt (plain (λ _. Row)) (λ _. tt) in
    let word = plain (λ _. usize) in
    let hs : Stays En.signature.params En.kept = (stay_dropped self yes, (stay_dropped word yes, (stay_dropped word yes, tt))) in
    proved 𝓛 En hs c 𝓜 𝓡 (Goes-dropped 𝓛 2 self yes (λ κs x f. refl), (Goes-dropped 𝓛 2 word yes (λ κs x f. refl), (Goes-dropped 𝓛 2 word yes (λ κs x f. refl), tt))) (#self inst) fn
    (code.unfolded 𝓤 𝓛.H 𝓜 𝓡 wired (X, tt))
    (λ κs. (shr_vals, (uint_vals w64, (uint_vals w64, tt)))) (λ κs. (shr_Tells (named 0) κs.0 Row, (uint_Tells w64, (uint_Tells w64, tt)))) (λ κs qs bounds a gh are.
    let b : ℕ = a.0.ref_ptr.0 in
    let o : ℕ = a.0.ref_ptr.1 in
    let κ : Lft = κs.0 in
    let r : Row.Denot = a.0.now in
    let p : Ptr = r.at in
    let f : ℕ = a.1.0 in
    let n : ℕ = a.1.1.0 in
    let ps : List (Place X.Denot) = map here r.places in
    let Asked : Type 0 = IsRun r.places f n in
    let others : Fml = fsep (flft κs.1.0 qs.1.0) ftrue in
    let y : (walk_of 𝓛 En hs c).Ghost = ((κs, qs, bounds, a, (vptr b o ∷ [], (vint w64 f ∷ [], (vint w64 n ∷ [], tt)))), gh) in
    let Post : Val → SProp 𝓤 = (walk_of 𝓛 En hs c).post y in
    let Cell : Share → List Val → Item 𝓤 = λ q ws. ‵ (cell_at q D.mir ws b o) in
    let us : List Val = vptr b o ∷ vint w64 f ∷ vint w64 n ∷ [] in
    qed 𝓛 (((‵ (flft κ qs.0) ⊛ ‵ others) ⊛ ‵ (owns (types_at En.signature.params κs) a y.0.4)) ∷ raw (fact 𝓤 _) ∷ raw (fact 𝓤 Asked) ∷ []) ∵
    move ! (2 ∷ []) $ heard ! Asked (λ asked.
    let xs : List X.Denot = asked.1.0 in
    let count : n ≡ length xs =
    let rest = length-drop f r.places in
    let fits = asked.0 in
    sym (length-take-le n (drop_list f r.places) (omega arith)) ∙ ap length asked.1.1 ∙ length-map xs Some in
    split ! $ split ! $ move ! (2 ∷ []) $ fsplit ! $ fsplit ! $ keep ! (1 ∷ 3 ∷ 4 ∷ []) $
    enter ! 𝓣.C 𝓣.Λ fn us Post $ alloc_all ! (λ l. pass_all ! refl ((tt, tt), ((tt, record { fits = are.1.0.1 }), ((tt, record { fits = are.1.1.0.1 }), tt))) $
    -- [the reference to the block; the token; the other tokens]
    use1 𝓛 (‵ (hidden_shr D κ (p, tt) b o) ⊛ ‵ (fhide (block_lent (R E) p r.places κ))) (lent_out 𝓛 (block.struct (R E)) (block.the_codes X.Denot (R E).coded) (block.the_heap (R E)) (block.the_lent (R E)) κ r b o) $
    split ! $ move ! (1 ∷ []) $ unhide ! $ fsplit ! $ flt_l ! (λ small.
    in_a_block ! p (λ q. in_block q (places_lent (R E) q r.places κ)) (id⊢ 𝓤 (never 𝓤)) (λ b' o' at.
    let long = length-map r.places here in
    let off : ℕ = o' + f * s in
    let far : f * s < 2 ^ 63 = times_below f (length ps) s (2 ^ 63) (omega (arith, asked.0, long)) small in
    let wide : n * s < 2 ^ 63 = times_below n (length ps) s (2 ^ 63) (omega (arith, asked.0, long)) small in
    let fits_word : f * s < 2 ^ 64 = omega arith in
    let size_is = uncapped f s fits_word in
    let there : Val = slice_val (b', off) n in
    use1 𝓛 (‵ (elements_shared (R E) xs b' off κ)) (shows_run (R E) 𝓛 κ b' f r.places n xs o' asked.1.1) $ hide ! $ move ! (1 ∷ 2 ∷ []) $
    looks ! tt D (pointer_opens (R E) 𝓛) (p, tt) b o (λ q vs. move ! (1 ∷ []) $ peeks ! D (Is D) (shows 𝓛 D) (p, tt) vs (λ so.
    let cell_is : vs ≡ stored (block_ptr b' o') ∷ [] = stored_as (R E) p vs so ∙ ap (λ (q : Ptr). stored q ∷ []) at in
    rewrite ! 1 (Cell q) cell_is refl $ first ! $ blocks ! $
    sets ! (of_opd ! (load ! (through ! refl (fld ! refl (stop !))) (look_in ! 1 (sub ! 0 refl (whole !))))) refl (tt, tt) $
    sets ! (is ! (bin ! (get ! refl) (size_word !) (record { fits = subst (λ (k : ℕ). k < 2 ^ 64) (sym size_is) fits_word })) (ap (vint w64) size_is)) refl (tt, record { fits = fits_word }) $
    sets ! (is ! (bin ! (get ! refl) (get ! refl) tt) (ap (vptr b') (add_comm (f * s) o'))) refl (tt, tt) $
    sets_last ! (agg ! (and_then ! (get ! refl) (and_then ! (get ! refl) (no_more !)))) refl (tt, (tt, (record { fits = are.1.1.0.1 }, tt))) $
    exec ! 𝓣.C 𝓣.Λ (env fn.locals l) (after 1 fn.body) (at_ret (env fn.locals l) Post) $ sets ! (of_opd ! (get ! refl)) refl (tt, (tt, (record { fits = are.1.1.0.1 }, tt))) $
    rewrite ! 1 (Cell q) (sym cell_is) refl $ move ! (1 ∷ 0 ∷ 2 ∷ []) $ shuts ! tt D q (p, tt) vs b o $ move ! (0 ∷ 3 ∷ []) $ join ! $
    -- [the tokens; the reference to the block; the values]
    move ! (2 ∷ []) $ flt_i ! (length xs * s) (2 ^ 63) (subst (λ (k : ℕ). k * s < 2 ^ 63) count wide) $ flt_i ! (length xs) (2 ^ 64) (subst (λ (k : ℕ). k < 2 ^ 64) count are.1.1.0.1) $ fjoin ! $
    feq_i ! (List Val) (there ∷ []) (slice_val (b', off) (length xs) ∷ []) (ap (λ (k : ℕ). slice_val (b', off) k ∷ []) count) $ fjoin ! $ fjoin ! $
    use0 𝓛 (raw (fact 𝓤 (take n (drop_list f r.places) ≡ map Some xs))) (fact_i 𝓤 (take n (drop_list f r.places) ≡ map Some xs) (emp 𝓤) asked.1.1) $ nothing ! $ nothing ! $ fjoin ! $ nothing ! $ fjoin ! $ nothing ! $ fjoin ! $
    returns ! (look_at ! 0 refl) $ free_all ! refl $ keep ! (3 ∷ 0 ∷ 2 ∷ 1 ∷ []) $
    by ! (leaves 𝓛 En hs c y there (record { ref_ptr = (b', off); now = xs }) (tt, (tt, (tt, tt))) (tt, (tt, (tt, tt)))))))))))
