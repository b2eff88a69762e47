-- `detach` takes the memory as places: the `Vec`'s words for its length and its capacity are set to 0.
use Rattle.segment.proofs.Words.{◌≡◌, ℕ, ◌-◌, ◌*◌, ◌^◌, ◌<◌, ◌≤◌, List, [], ◌∷◌, ◌++◌, length, map, replicate, sym, refl, ap, ◌∙◌, subst, arith, a_type, w64, Val, vint, vstruct, vcons, vnil, of_list, inst_fn, SProp, ent, emp, id⊢, ftrue, fsep, feq, flft, Item, ‵, raw, ◌⊛◌, at_ret, ◌$◌, ◌∵◌, !, qed, by, move, keep, split, fsplit3, fjoin, fjoin3, fpack, use0, use1, rewrite, feq_i, feq_l, flt_i, suffices, stop, lit, of_opd, addr, from, bin, no_more, and_then, assigns_last, first, blocks, exec, returns, enter, alloc_all, pass_all, free_all, look_at, take_at, give_at, get, through, sets, env, agg, sub, whole, store_in, tables, fact, fact_i, yes, no, RattleType, Valss, owns, plain, Ptr, InBlock, block_ptr, ptr_val, in_block, nothing, heard, layout, layouts, param_laws, RawPtr, usize, as_fields, Stays, stay_dropped, walk_of, Goes-dropped, proved_at, leaves, Ptr-Good, strip_good, Goes-blank, after, El, R}
use Rattle.std.proofs.Common.{lit<, Bool, false}
use Rattle.std.proofs.lemmas.List.{length-map, length-append, length-replicate}
use Rattle.std.specs.Vec.Ownership.{owns_if, has_block}
use Rattle.std.specs.declared.alloc.Global.{Global}
use Rattle.std.specs.contracts.impls.GlobalAllocator.TheImpl.{ghosts}
use Rattle.std.specs.contracts.vec.Vec as Vec
use Rattle.std.specs.contracts.alloc.Global as heap
use Rattle.std.proofs.alloc.Global.TheLaws as heap_laws
use Rattle.std.proofs.vec.Vec.TheLaws as vec_laws
use Rattle.std.proofs.VecSteps.El as V
use Rattle.std.proofs.VecSteps.Opens.{vec_had, vec_made, not_live}
use native.Mathlib.Nat.{zero-mul}
use mir.Syntax.{ty_array}
use types.Run.{assigns}
use mir.Raw.{raw as bare}
use mathlib.Core.Bool.{not}
use lib.Dec.{T}
use Rattle.segment.specs.Places.{Place, unwritten, written}
use Rattle.segment.specs.Runs.{bytes_of, places_own}
use Rattle.segment.proofs.Fields.{stored, tells}
use Rattle.flow_value.specs.Places.{packed}
use Rattle.flow_value.specs.Ownership.{here}
use Rattle.flow_value.proofs.AtPlaces.{vec_places}
use Rattle.flow_value.proofs.FrontFields.{Pointer, pointer_made}
use Rattle.flow_value.proofs.Vecs.{on_heap, opened, Freed, Places}
use Rattle.flow_value.specs.contracts.block.Block as block
use Rattle.flow_value.specs.contracts.block.detach.{ended, clauses}
use Rattle.flow_value.specs.contracts.block.detach.Key.{name as #self}
use Rattle.flow_value.proofs.block.detach.Statement.{statement}
use Rattle.flow_value.proofs.block.detach.Code as code

none_there : (c : ℕ) → has_block c ≡ false → c ≡ 0
none_there c is = not_live c (subst (λ (y : Bool). T (not y)) (sym is) tt)

pub detach_spec : {M : Type 1} → statement M
detach_spec 𝓤 𝓛 𝓜 𝓡 wired X L =
    let 𝓣 = tables 𝓤 𝓛.H 𝓜 𝓡 𝓡.env in
    let E : El = record { row = X; laws = L } in
    let V-at : V.El = on_heap E in
    let Vs : RattleType = Vec.the_row (R E) heap.the_row ghosts in
    let Row : RattleType = block.the_row (R E) in
    let s : ℕ = bytes_of (R E) in
    let En = ended X in
    let inst = layouts (a_type ∷ []) (X, tt) in
    let fn = inst_fn inst code.function in
    let c = clauses X 𝓛 𝓜.mem 𝓡.returns in
    let hs : Stays En.signature.params En.kept = (stay_dropped (plain (λ _. Vs)) no, (stay_dropped (plain (λ _. RawPtr)) yes, (stay_dropped (plain (λ _. usize)) yes, tt))) in
    proved_at 𝓛 En hs c 𝓜 𝓡 (Goes-blank 𝓛 1 (plain (λ _. Vs)) no (λ κs x f. tt), (Goes-dropped 𝓛 1 (plain (λ _. RawPtr)) yes (λ κs x f. refl), (Goes-dropped 𝓛 1 (plain (λ _. usize)) yes (λ κs x f. refl), tt))) (#self inst) fn
    (code.unfolded 𝓤 𝓛.H 𝓜 𝓡 wired (X, tt)) (λ z are.
    let κs = z.0.0 in
    let qs = z.0.1 in
    let Tokens : Item 𝓤 = ‵ (flft κs.0 qs.0) ⊛ ‵ ftrue in
    let Post : Val → SProp 𝓤 = (walk_of 𝓛 En hs c).post z in
    let Run : List Val → SProp 𝓤 = λ ws. prog.Wp.WpFn 𝓤 𝓛.H 𝓣.C 𝓣.Λ fn ws Post in
    let v : Vs.Denot = z.0.3.0 in
    let p : Ptr = z.0.3.1.0 in
    let n : ℕ = z.0.3.1.1.0 in
    let xs : List X.Denot = v.items in
    let places : Row.Denot = record { at = p; room = n; places = packed xs n } in
    let left : Vs.Denot = (V.el_make V-at v.alloc v.ptr 0 0 [] (refl, omega arith) (omega arith)).0 in
    let Asked : Type 0 = (p ≡ v.ptr) × (n ≡ v.cap) in
    let Told : Type 0 = (n ≡ n) × (packed xs n ≡ packed xs n) × (length xs ≤ n) × (0 ≡ 0) in
    qed 𝓛 ((Tokens ⊛ ‵ (fsep (Vs.own_val v z.0.4.0) (fsep (RawPtr.own_val p z.0.4.1.0) (fsep (usize.own_val n z.0.4.1.1.0) ftrue)))) ∷ raw (fact 𝓤 _) ∷ raw (fact 𝓤 Asked) ∷ []) ∵
    keep ! (2 ∷ 0 ∷ []) $ heard ! Asked (λ asked. split ! $ move ! (1 ∷ []) $ fsplit3 ! $
    tells ! Vs (vec_laws.the_row_laws (R E) heap.the_row ghosts (param_laws 0 X L) heap_laws.the_row_laws) v z.0.4.0 (λ u first_is good.
    vec_had V-at ! v (u ∷ []) (λ b o hv at is fl fc fit fa.
    let y = has_block v.cap in
    let ps : List (Place X.Denot) = map here (packed xs n) in
    let there : p ≡ block_ptr b o = asked.0 ∙ at in
    let inside : InBlock p = subst InBlock (sym there) tt in
    let laid : map written xs ++ replicate (v.cap - v.len) unwritten ≡ ps = (λ i. map written xs ++ replicate (sym asked.1 i - v.ok.0 i) unwritten) ∙ sym (vec_places xs n) in
    let within : length xs ≤ n = omega (arith, v.ok.0, v.ok.1, asked.1) in
    let count : length ps ≡ v.cap = omega (arith, ap length (vec_places xs n), length-append (map written xs) (replicate (n - length xs) unwritten), length-map xs written, length-replicate (n - length xs) (let blank : Place X.Denot = unwritten in blank), within, asked.1) in
    let τ = bare (ty_array (layout X) v.cap) in
    use1 𝓛 (‵ (Places V-at 𝓛 v.alloc b o v.len v.cap xs v.ok.0 v.ok.1) ⊛ ‵ (Freed V-at 𝓛 v.alloc b o v.len v.cap xs v.ok.0 v.ok.1 y)) (opened V-at 𝓛 v.alloc b o v.len v.cap xs v.ok.0 v.ok.1 y (none_there v.cap)) $ split ! $
    rewrite ! 0 (λ (qs : List (Place X.Denot)). ‵ (places_own (R E) (block_ptr b o) qs)) laid refl $ rewrite ! 0 (λ (q : Ptr). ‵ (in_block q (places_own (R E) q ps))) (sym there) refl $
    flt_i ! (length ps * s) (2 ^ 63) (subst (λ (k : ℕ). k * s < 2 ^ 63) (sym count) fit) $ fjoin ! $
    -- [the places; the right to free them; the handle; the pointer; the number; the tokens]
    move ! (1 ∷ []) $ rewrite ! 0 (λ (q : Ptr). ‵ (owns_if y (ghosts.dealloc_token v.alloc τ q))) (sym there) refl $
    rewrite ! 0 (λ (k : ℕ). ‵ (owns_if (has_block k) (ghosts.dealloc_token v.alloc (bare (ty_array (layout X) k)) p))) (sym asked.1) refl $
    fpack ! Global (λ h. owns_if (has_block n) (ghosts.dealloc_token h (bare (ty_array (layout X) n)) p)) v.alloc $ flt_i ! n (2 ^ 63) (subst (λ (k : ℕ). k < 2 ^ 63) (sym asked.1) v.small) $ fjoin ! $
    move ! (1 ∷ 0 ∷ []) $ fjoin ! $ move ! (2 ∷ []) $ feq_l ! (λ second_is. keep ! (0 ∷ 1 ∷ 3 ∷ []) $
    -- [what the block owns; the handle; the tokens]
    use0 𝓛 (‵ ((Pointer (R E)).own_val (p, tt) (stored p ∷ []))) (pointer_made (R E) 𝓛 p) $ fjoin ! $ move ! (1 ∷ []) $ nothing ! $
    vec_made V-at ! left b o 0 0 [] (at, refl, refl, refl) (lit< tt) (lit< tt) (let none = zero-mul s in omega arith) $
    let full : Val = V.vec_val V-at hv b o v.len v.cap in
    let empty : Val = V.vec_val V-at hv b o 0 0 in
    let half : Val = V.vec_val V-at hv b o 0 v.cap in
    let good_full = V.vec_typed V-at hv b o v.len v.cap fa fl fc in
    let good_empty = V.vec_typed V-at hv b o 0 0 fa (lit< tt) (lit< tt) in
    let outer = as_fields (layout Row ∷ layout Vs ∷ []) (stored p ∷ empty ∷ []) (strip_good p inside, (good_empty, tt)) in
    let out : Val = vstruct (vcons (stored p) (vcons empty vnil)) in
    let us : List Val = full ∷ ptr_val p ∷ vint w64 n ∷ [] in
    nothing ! $ move ! (2 ∷ 1 ∷ 0 ∷ []) $ fjoin3 ! $ feq_i ! (List Val) (out ∷ []) (out ∷ []) refl $ fjoin ! $
    fpack ! (Valss (Row ∷ Vs ∷ [])) (λ uss. fsep (feq (List Val) (out ∷ []) (vstruct (of_list (uss.0 ++ (uss.1.0 ++ []))) ∷ [])) (owns (Row ∷ Vs ∷ []) (places, (left, tt)) uss)) (stored p ∷ [], (empty ∷ [], tt)) $
    -- [the pair; the tokens]
    suffices ! (Run us) (subst (λ (ws : List Val). ent 𝓤 (Run us) (Run ws)) (sym (λ i. (first_is ∙ is) i ++ (second_is i ++ (are.1.1.0.0 i ++ [])))) (id⊢ 𝓤 (Run us))) $
    enter ! 𝓣.C 𝓣.Λ fn us Post $ alloc_all ! (λ l. pass_all ! refl (good_full, (Ptr-Good p inside, ((tt, record { fits = are.1.1.0.1 }), tt))) $
    sets ! (of_opd ! (get ! refl)) refl good_full $ sets ! (addr ! (from ! (stop !))) refl (tt, tt) $
    first ! $ blocks ! $ sets ! (bin ! (get ! refl) (lit ! tt) tt) refl (tt, tt) $
    take_at ! 4 $ assigns ! (of_opd ! (lit ! tt)) (through ! refl (stop !)) (store_in ! 0 (sub ! 1 refl (whole !)) (tt, record { fits = lit< tt })) $ give_at ! 4 $
    sets ! (bin ! (get ! refl) (lit ! tt) tt) refl (tt, tt) $
    take_at ! 4 $ assigns_last ! (of_opd ! (lit ! tt)) (through ! refl (stop !)) (store_in ! 0 (sub ! 2 refl (whole !)) (tt, record { fits = lit< tt })) $ give_at ! 4 $
    exec ! 𝓣.C 𝓣.Λ (env fn.locals l) (after 3 fn.body) (at_ret (env fn.locals l) Post) $
    sets ! (agg ! (and_then ! (get ! refl) (no_more !))) refl (strip_good p inside) $ sets ! (of_opd ! (get ! refl)) refl good_empty $
    sets ! (agg ! (and_then ! (get ! refl) (and_then ! (get ! refl) (no_more !)))) refl outer $
    use0 𝓛 (raw (fact 𝓤 Told)) (fact_i 𝓤 Told (emp 𝓤) (refl, refl, within, refl)) $ nothing ! $ nothing ! $ fjoin ! $ nothing ! $ fjoin ! $ nothing ! $ fjoin ! $
    returns ! (look_at ! 0 refl) $ free_all ! refl $ keep ! (3 ∷ 0 ∷ 2 ∷ 1 ∷ []) $
    by ! (leaves 𝓛 En hs c z out (places, left) (tt, (tt, (tt, tt))) (tt, (tt, (tt, tt))))))))))
