-- `attach` makes a block the memory of a `Vec`, by setting each of its three words.
use Rattle.segment.proofs.Words.{◌≡◌, ℕ, ◌-◌, ◌*◌, ◌^◌, ◌<◌, ◌≤◌, List, [], ◌∷◌, ◌++◌, length, map, replicate, sym, refl, ap, ◌∙◌, subst, arith, a_type, w64, Val, vint, inst_fn, SProp, ent, emp, id⊢, never, ftrue, fsep, flft, Item, ‵, raw, ◌⊛◌, at_ret, ◌$◌, ◌∵◌, !, qed, by, move, keep, drop, split, fsplit, fsplit3, fjoin, fpick, use0, use2, rewrite, flt_l, suffices, stop, fld, lit, of_opd, addr, from, bin, assigns_last, first, blocks, exec, returns, enter, alloc_all, pass_all, free_all, look_at, take_at, give_at, get, get_in, through, sets, env, sub, whole, store_in, tables, fact, fact_i, yes, no, RattleType, plain, Ptr, block_ptr, in_block, in_a_block, nothing, heard, layout, layouts, param_laws, usize, Stays, stay_dropped, walk_of, Goes-dropped, proved_at, leaves, strip_good, Goes-blank, after, El, R}
use Rattle.std.proofs.lemmas.List.{length-map}
use Rattle.std.specs.Vec.Ownership.{owns_if, has_block}
use Rattle.std.specs.contracts.impls.GlobalAllocator.TheImpl.{ghosts}
use Rattle.std.specs.contracts.vec.Vec as Vec
use Rattle.std.specs.contracts.alloc.Global as heap
use Rattle.std.proofs.alloc.Global.TheLaws as heap_laws
use Rattle.std.proofs.vec.Vec.TheLaws as vec_laws
use Rattle.std.proofs.VecSteps.El as V
use Rattle.std.proofs.VecSteps.Opens.{vec_had, vec_made, Blk}
use mir.Syntax.{ty_array}
use types.Run.{assigns}
use mir.Raw.{raw as bare}
use Rattle.segment.specs.Places.{Place, unwritten, written}
use Rattle.segment.specs.Runs.{bytes_of, places_own}
use Rattle.segment.proofs.Fields.{stored, tells}
use Rattle.flow_value.specs.Places.{somes, packed}
use Rattle.flow_value.specs.Ownership.{here}
use Rattle.flow_value.proofs.AtPlaces.{vec_places, packed_long}
use Rattle.flow_value.proofs.FrontFields.{stored_as}
use Rattle.flow_value.proofs.Vecs.{on_heap, closed}
use Rattle.flow_value.specs.contracts.block.Block as block
use Rattle.flow_value.specs.contracts.block.attach.{ended, clauses}
use Rattle.flow_value.specs.contracts.block.attach.Key.{name as #self}
use Rattle.flow_value.proofs.block.attach.Statement.{statement}
use Rattle.flow_value.proofs.block.attach.Code as code

pub attach_spec : {M : Type 1} → statement M
attach_spec 𝓤 𝓛 𝓜 𝓡 wired X L =
    let 𝓣 = tables 𝓤 𝓛.H 𝓜 𝓡 𝓡.env in
    let E : El = record { row = X; laws = L } in
    let V-at : V.El = on_heap E in
    let Vs : RattleType = Vec.the_row (R E) heap.the_row ghosts in
    let Row : RattleType = block.the_row (R E) in
    let s : ℕ = bytes_of (R E) in
    let En = ended X in
    let inst = layouts (a_type ∷ []) (X, tt) in
    let fn = inst_fn inst code.function in
    let c = clauses X 𝓛 𝓜.mem 𝓡.returns in
    let word = plain (λ _. usize) in
    let hs : Stays En.signature.params En.kept = (stay_dropped (plain (λ _. Row)) no, (stay_dropped (plain (λ _. Vs)) no, (stay_dropped word yes, (stay_dropped word yes, tt)))) in
    proved_at 𝓛 En hs c 𝓜 𝓡 (Goes-dropped 𝓛 1 (plain (λ _. Row)) no (λ κs x f. refl), (Goes-blank 𝓛 1 (plain (λ _. Vs)) no (λ κs x f. tt), (Goes-dropped 𝓛 1 word yes (λ κs x f. refl), (Goes-dropped 𝓛 1 word yes (λ κs x f. refl), tt)))) (#self inst) fn
    (code.unfolded 𝓤 𝓛.H 𝓜 𝓡 wired (X, tt)) (λ z are.
    let κs = z.0.0 in
    let qs = z.0.1 in
    let Tokens : Item 𝓤 = ‵ (flft κs.0 qs.0) ⊛ ‵ ftrue in
    let Post : Val → SProp 𝓤 = (walk_of 𝓛 En hs c).post z in
    let Run : List Val → SProp 𝓤 = λ ws. prog.Wp.WpFn 𝓤 𝓛.H 𝓣.C 𝓣.Λ fn ws Post in
    let r : Row.Denot = z.0.3.0 in
    let v : Vs.Denot = z.0.3.1.0 in
    let n : ℕ = z.0.3.1.1.0 in
    let room : ℕ = z.0.3.1.1.1.0 in
    let p : Ptr = r.at in
    let xs : List X.Denot = somes r.places in
    let ps : List (Place X.Denot) = map here r.places in
    let Asked : Type 0 = (v.cap ≡ 0) × (room ≡ r.room) × (r.places ≡ packed xs room) × (length xs ≡ n) × (n ≤ room) in
    qed 𝓛 ((Tokens ⊛ ‵ (fsep (Row.own_val r z.0.4.0) (fsep (Vs.own_val v z.0.4.1.0) (fsep (usize.own_val n z.0.4.1.1.0) (fsep (usize.own_val room z.0.4.1.1.1.0) ftrue))))) ∷ raw (fact 𝓤 _) ∷ raw (fact 𝓤 Asked) ∷ []) ∵
    keep ! (2 ∷ 0 ∷ []) $ heard ! Asked (λ asked. split ! $ move ! (1 ∷ []) $ fsplit3 ! $ fsplit ! $ drop ! $ fsplit ! $ fsplit ! $ flt_l ! (λ small.
    in_a_block ! p (λ q. in_block q (places_own (R E) q ps)) (id⊢ 𝓤 (never 𝓤)) (λ b o at.
    -- [the places; the right to free them; the `Vec`; the numbers; the tokens]
    move ! (1 ∷ []) $ fsplit ! $ flt_l ! (λ low. fpick ! (λ h.
    let y = has_block room in
    let τ = bare (ty_array (layout X) room) in
    rewrite ! 0 (λ (k : ℕ). ‵ (owns_if (has_block k) (ghosts.dealloc_token h (bare (ty_array (layout X) k)) p))) (sym asked.1) refl $
    rewrite ! 0 (λ (q : Ptr). ‵ (owns_if y (ghosts.dealloc_token h τ q))) at refl $
    move ! (2 ∷ []) $ tells ! Vs (vec_laws.the_row_laws (R E) heap.the_row ghosts (param_laws 0 X L) heap_laws.the_row_laws) v z.0.4.1.0 (λ u second_is good.
    vec_had V-at ! v (u ∷ []) (λ b' o' hv at' is fl fc fit fa. drop ! $
    -- [the handle; the right to free them; the places; the numbers; the tokens]
    let count : n ≡ length xs = sym asked.3 in
    let laid : ps ≡ map written xs ++ replicate (room - n) unwritten = ap (map here) asked.2 ∙ vec_places xs room ∙ ap (λ k. map written xs ++ replicate (room - k) unwritten) (sym count) in
    let all : length ps ≡ room = length-map r.places here ∙ ap length asked.2 ∙ packed_long xs room (omega (arith, asked.3, asked.4)) in
    let small_room : room * s < 2 ^ 63 = subst (λ (k : ℕ). k * s < 2 ^ 63) all small in
    let low_room : room < 2 ^ 63 = subst (λ (k : ℕ). k < 2 ^ 63) (sym asked.1) low in
    let few : n < 2 ^ 64 = are.1.1.0.1 in
    let wide : room < 2 ^ 64 = are.1.1.1.0.1 in
    let back : Vs.Denot = (V.el_make V-at v.alloc (block_ptr b o) n room xs (count, asked.4) low_room).0 in
    let old : Val = V.vec_val V-at hv b' o' v.len v.cap in
    let new : Val = V.vec_val V-at hv b o n room in
    let good_old = V.vec_typed V-at hv b' o' v.len v.cap fa fl fc in
    let good_new = V.vec_typed V-at hv b o n room fa few wide in
    let Told : Type 0 = back.items ≡ xs in
    move ! (2 ∷ 1 ∷ []) $ rewrite ! 0 (λ (qs : List (Place X.Denot)). ‵ (places_own (R E) (block_ptr b o) qs)) laid refl $
    use2 𝓛 (‵ (Blk V-at v.alloc b o n room xs)) (closed V-at 𝓛 v.alloc b o n room xs count asked.4 y) $ vec_made V-at ! back b o n room xs (refl, refl, refl, refl) few wide small_room $
    keep ! (0 ∷ 2 ∷ []) $
    -- [the `Vec`; the tokens]
    let first_is : z.0.4.0 ≡ stored (block_ptr b o) ∷ [] = stored_as (R E) p z.0.4.0 are.0.0 ∙ ap (λ (q : Ptr). stored q ∷ []) at in
    let us : List Val = stored (block_ptr b o) ∷ old ∷ vint w64 n ∷ vint w64 room ∷ [] in
    suffices ! (Run us) (subst (λ (ws : List Val). ent 𝓤 (Run us) (Run ws)) (sym (λ j. first_is j ++ ((second_is ∙ is) j ++ (are.1.1.0.0 j ++ (are.1.1.1.0.0 j ++ []))))) (id⊢ 𝓤 (Run us))) $
    enter ! 𝓣.C 𝓣.Λ fn us Post $ alloc_all ! (λ l. pass_all ! refl (strip_good (block_ptr b o) tt, (good_old, ((tt, record { fits = few }), ((tt, record { fits = wide }), tt)))) $
    sets ! (of_opd ! (get ! refl)) refl good_old $ sets ! (of_opd ! (get_in ! (fld ! refl (stop !)) (sub ! 0 refl (whole !)))) refl (tt, tt) $ sets ! (addr ! (from ! (stop !))) refl (tt, tt) $
    first ! $ blocks ! $ sets ! (of_opd ! (get ! refl)) refl (tt, tt) $
    take_at ! 5 $ assigns ! (of_opd ! (get ! refl)) (through ! refl (stop !)) (store_in ! 0 (sub ! 0 refl (whole !)) (tt, tt)) $ give_at ! 5 $
    sets ! (bin ! (get ! refl) (lit ! tt) tt) refl (tt, tt) $
    take_at ! 5 $ assigns ! (of_opd ! (get ! refl)) (through ! refl (stop !)) (store_in ! 0 (sub ! 1 refl (whole !)) (tt, record { fits = few })) $ give_at ! 5 $
    sets ! (bin ! (get ! refl) (lit ! tt) tt) refl (tt, tt) $
    take_at ! 5 $ assigns_last ! (of_opd ! (get ! refl)) (through ! refl (stop !)) (store_in ! 0 (sub ! 2 refl (whole !)) (tt, record { fits = wide })) $ give_at ! 5 $
    exec ! 𝓣.C 𝓣.Λ (env fn.locals l) (after 4 fn.body) (at_ret (env fn.locals l) Post) $ sets ! (of_opd ! (get ! refl)) refl good_new $
    use0 𝓛 (raw (fact 𝓤 Told)) (fact_i 𝓤 Told (emp 𝓤) refl) $
    nothing ! $ nothing ! $ fjoin ! $ nothing ! $ fjoin ! $ nothing ! $ fjoin ! $ nothing ! $ fjoin ! $
    returns ! (look_at ! 0 refl) $ free_all ! refl $ keep ! (3 ∷ 0 ∷ 2 ∷ 1 ∷ []) $
    by ! (leaves 𝓛 En hs c z new back (tt, (tt, (tt, (tt, tt)))) (tt, (tt, (tt, (tt, tt))))))))))))))
