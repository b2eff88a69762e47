-- `detach` takes the elements out as unwritten places, and leaves the way back.
use Rattle.segment.proofs.Words.{◌≡◌, ℕ, ◌≤◌, List, [], ◌∷◌, ◌++◌, replicate, sym, refl, subst, a_type, w64, dcons, dnil, Val, vint, vstruct, vcons, vnil, of_list, inst_fn, SProp, ent, emp, id⊢, guard_i, Fml, ftrue, fsep, feq, flft, sem, Item, ‵, raw, ◌⊛◌, given, ◌$◌, ◌∵◌, !, qed, by, move, keep, split, fsplit3, fjoin, fjoin3, fpack, learn, use0, use1, rewrite, feq_i, feq_l, suffices, of_opd, no_more, and_then, returns, enter, alloc_all, pass_all, free_all, look_at, get, sets, agg, tables, fact, fact_i, fact_use, yes, no, RattleType, Valss, owns, plain, Ptr, InBlock, ptr_val, nothing, heard, Typed, param, layout, bounded, param_laws, RawPtr, usize, as_fields, Stays, stay_dropped, walk_of, Goes-dropped, proved_at, leaves, Ptr-Good, strip_good, Goes-blank, El, R}
use Rattle.std.proofs.VecSteps.El as V
use Rattle.std.specs.contracts.vec.Vec as Vec
use Rattle.std.proofs.vec.Vec.TheLaws as vec_laws
use Rattle.segment.specs.Places.{Place, unwritten}
use Rattle.segment.specs.Runs.{run_owns, place_at}
use Rattle.segment.proofs.Fields.{stored, wrapped, Pointer, pointer_made, tells}
use Rattle.segment.proofs.Rows.{points, place_zero}
use Rattle.segment.proofs.Shells.{carve}
use Rattle.segment.specs.contracts.run.Run as run
use Rattle.segment.specs.contracts.run.Shell as shell
use Rattle.segment.specs.contracts.run.detach.{ended, clauses}
use Rattle.segment.specs.contracts.run.detach.Key.{name as #self}
use Rattle.segment.proofs.run.detach.Statement.{statement}
use Rattle.segment.proofs.run.detach.Code as code

pub detach_spec : {M : Type 1} → statement M
detach_spec 𝓤 𝓛 𝓜 𝓡 wired X Z L LZ g d dd met md =
    let 𝓣 = tables 𝓤 𝓛.H 𝓜 𝓡 𝓡.env in
    let E : El = record { row = X; laws = L } in
    let V-at : V.El = record { row = X; laws = L; al = record { row = Z; laws = LZ; g = g; d = d; drops = dd } } in
    let P : RattleType = param 1 Z in
    let Vs : RattleType = Vec.the_row (R E) P g in
    let Row : RattleType = run.the_row (R E) in
    let Sh : RattleType = shell.the_row (R E) P g in
    let En = ended X Z g d dd in
    let inst = bounded (a_type ∷ a_type ∷ []) (X, (Z, tt)) (dcons d (dcons dd dnil)) in
    let fn = inst_fn inst code.function in
    let c = clauses X Z g d dd 𝓛 𝓜.mem 𝓡.returns in
    let hs : Stays En.signature.params En.kept = (stay_dropped (plain (λ _. Vs)) no, (stay_dropped (plain (λ _. RawPtr)) yes, (stay_dropped (plain (λ _. usize)) yes, tt))) in
    proved_at 𝓛 En hs c 𝓜 𝓡 (Goes-blank 𝓛 2 (plain (λ _. Vs)) no (λ κs x f. tt), (Goes-dropped 𝓛 2 (plain (λ _. RawPtr)) yes (λ κs x f. refl), (Goes-dropped 𝓛 2 (plain (λ _. usize)) yes (λ κs x f. refl), tt))) (#self inst) fn
    (code.unfolded 𝓤 𝓛.H 𝓜 𝓡 wired (X, (Z, tt)) d dd) (λ z are.
    let κs = z.0.0 in
    let qs = z.0.1 in
    let Tokens : Item 𝓤 = ‵ (flft κs.0 qs.0) ⊛ ‵ (flft κs.1.0 qs.1.0) ⊛ ‵ ftrue in
    let Post : Val → SProp 𝓤 = (walk_of 𝓛 En hs c).post z in
    let Run : List Val → SProp 𝓤 = λ ws. prog.Wp.WpFn 𝓤 𝓛.H 𝓣.C 𝓣.Λ fn ws Post in
    let v : Vs.Denot = z.0.3.0 in
    let p : Ptr = z.0.3.1.0 in
    let n : ℕ = z.0.3.1.1.0 in
    let blanks : List (Place X.Denot) = replicate n unwritten in
    let places : Row.Denot = record { at = p; places = blanks; start = p; offset = 0 } in
    let back : Sh.Denot = record { at = p; len = n } in
    let Asked : Type 0 = (p ≡ v.ptr) × (v.len ≡ 0) × (n ≤ v.cap) in
    let Told : Type 0 = (p ≡ p) × (blanks ≡ blanks) × (back ≡ back) in
    let Places : Fml = run_owns (R E) p blanks in
    let Back : Ptr → Val → Fml = λ q u. shell.the_own (R E) P g (record { at = q; len = n }) (wrapped u ∷ []) in
    qed 𝓛 ((Tokens ⊛ ‵ (fsep (Vs.own_val v z.0.4.0) (fsep (RawPtr.own_val p z.0.4.1.0) (fsep (usize.own_val n z.0.4.1.1.0) ftrue)))) ∷ raw (fact 𝓤 _) ∷ raw (fact 𝓤 _) ∷ raw (fact 𝓤 Asked) ∷ []) ∵
    keep ! (3 ∷ 0 ∷ []) $ heard ! Asked (λ asked. split ! $ move ! (1 ∷ []) $ fsplit3 ! $
    tells ! Vs (vec_laws.the_row_laws (R E) P g (param_laws 0 X L) (param_laws 1 Z LZ)) v z.0.4.0 (λ u first_is good.
    use1 𝓛 (‵ (run_owns (R E) v.ptr blanks) ⊛ ‵ (Back v.ptr u)) (carve V-at 𝓛 v u n asked.1 asked.2) $ split ! $
    rewrite ! 0 (λ (q : Ptr). ‵ (run_owns (R E) q blanks)) (sym asked.0) refl $ rewrite ! 1 (λ (q : Ptr). ‵ (Back q u)) (sym asked.0) refl $
    -- [the places; the way back; the pointer; nothing; the tokens]
    move ! (2 ∷ []) $ feq_l ! (λ second_is. keep ! (0 ∷ 1 ∷ 3 ∷ []) $
    use1 𝓛 (given (InBlock p) (‵ Places)) (fact_use 𝓤 _ (points (R E) 𝓛 p blanks) (guard_i 𝓤 (InBlock p) (sem 𝓛 Places))) $ learn ! (λ inside.
    let inner = as_fields (layout Vs ∷ []) (u ∷ []) (good, tt) in
    let outer = as_fields (layout Row ∷ layout Sh ∷ []) (stored p ∷ wrapped u ∷ []) (strip_good p inside, (inner, tt)) in
    let out : Val = vstruct (vcons (stored p) (vcons (wrapped u) vnil)) in
    let us : List Val = u ∷ ptr_val p ∷ vint w64 n ∷ [] in
    nothing ! $ fpack ! (p ≡ place_at (R E) p 0) (λ _. ftrue) (place_zero (R E) p) $ fjoin ! $
    use0 𝓛 (‵ ((Pointer (R E)).own_val (p, tt) (stored p ∷ []))) (pointer_made (R E) 𝓛 p) $ fjoin ! $
    move ! (1 ∷ []) $ nothing ! $ fpack ! (Typed Sh.mir (wrapped u ∷ [])) (λ _. ftrue) (inner, tt) $ fjoin ! $
    nothing ! $ move ! (2 ∷ 1 ∷ 0 ∷ []) $ fjoin3 ! $ feq_i ! (List Val) (out ∷ []) (out ∷ []) refl $ fjoin ! $
    fpack ! (Valss (Row ∷ Sh ∷ [])) (λ uss. fsep (feq (List Val) (out ∷ []) (vstruct (of_list (uss.0 ++ (uss.1.0 ++ []))) ∷ [])) (owns (Row ∷ Sh ∷ []) (places, (back, tt)) uss)) (stored p ∷ [], (wrapped u ∷ [], tt)) $
    -- [the pair; the tokens]
    suffices ! (Run us) (subst (λ (ws : List Val). ent 𝓤 (Run us) (Run ws)) (sym (λ i. first_is i ++ (second_is i ++ (are.1.1.0.0 i ++ [])))) (id⊢ 𝓤 (Run us))) $
    enter ! 𝓣.C 𝓣.Λ fn us Post $ alloc_all ! (λ l. pass_all ! refl (good, (Ptr-Good p inside, ((tt, record { fits = are.1.1.0.1 }), tt))) $
    sets ! (agg ! (and_then ! (get ! refl) (no_more !))) refl (strip_good p inside) $ sets ! (of_opd ! (get ! refl)) refl good $
    sets ! (agg ! (and_then ! (get ! refl) (no_more !))) refl inner $ sets ! (agg ! (and_then ! (get ! refl) (and_then ! (get ! refl) (no_more !)))) refl outer $
    use0 𝓛 (raw (fact 𝓤 Told)) (fact_i 𝓤 Told (emp 𝓤) (refl, refl, refl)) $ nothing ! $ nothing ! $ fjoin ! $ nothing ! $ fjoin ! $ nothing ! $ fjoin ! $
    returns ! (look_at ! 0 refl) $ free_all ! refl $ keep ! (3 ∷ 0 ∷ 2 ∷ 1 ∷ []) $
    by ! (leaves 𝓛 En hs c z out (places, back) ((tt, (tt, (tt, (tt, tt)))), (tt, (tt, tt))) (tt, (tt, (tt, tt))))))))))
