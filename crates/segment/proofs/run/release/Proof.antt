-- `release` forgets what was written, and gives the empty `Vec` back.
use Rattle.segment.proofs.Words.{◌≡◌, ℕ, ◌-◌, ◌*◌, ◌^◌, ◌<◌, suc, List, [], ◌∷◌, ◌++◌, length, map, replicate, sym, refl, ap, ◌∙◌, subst, arith, length-replicate, a_type, dcons, dnil, Val, inst_fn, SProp, ent, emp, id⊢, never, all_e, apply∗, guard_i, Fml, ftrue, fsep, fwand, flft, sem, Item, ‵, raw, ◌⊛◌, given, ◌$◌, ◌∵◌, !, qed, by, move, keep, drop, split, fsplit, fsplit3, fjoin, fpick, learn, use0, use1, use2, rewrite, feq_l, flt_i, flt_l, suffices, stop, fld, of_opd, returns, enter, alloc_all, pass_all, free_all, look_at, get, get_in, sets, sub, whole, tables, fact, fact_i, fact_use, no, RattleType, plain, Ptr, InBlock, block_ptr, in_block, in_a_block, nothing, heard, Typed, param, bounded, param_laws, Stays, stay_dropped, walk_of, Goes-dropped, proved_at, leaves, strip_good, Goes-blank, El, R}
use Rattle.std.specs.Prelude.{IsTrue}
use Rattle.std.specs.List.{list_all}
use Rattle.std.specs.contracts.vec.Vec as Vec
use Rattle.std.proofs.vec.Vec.TheLaws as vec_laws
use Rattle.segment.specs.Places.{Place, unwritten, written, is_here}
use Rattle.segment.specs.Runs.{bytes_of, places_own, run_owns, begun, words}
use Rattle.segment.proofs.Fields.{stored, stored_as, wrapped, single_had}
use Rattle.segment.proofs.Rows.{points, all_forgotten}
use Rattle.segment.proofs.Shells.{Whole}
use Rattle.segment.specs.contracts.run.Run as run
use Rattle.segment.specs.contracts.run.Shell as shell
use Rattle.segment.specs.contracts.run.release.{ended, clauses}
use Rattle.segment.specs.contracts.run.release.Key.{name as #self}
use Rattle.segment.proofs.run.release.Statement.{statement}
use Rattle.segment.proofs.run.release.Code as code

pub release_spec : {M : Type 1} → statement M
release_spec 𝓤 𝓛 𝓜 𝓡 wired X Z L LZ g d dd met md =
    let 𝓣 = tables 𝓤 𝓛.H 𝓜 𝓡 𝓡.env in
    let E : El = record { row = X; laws = L } in
    let P : RattleType = param 1 Z in
    let V : RattleType = Vec.the_row (R E) P g in
    let Row : RattleType = run.the_row (R E) in
    let Sh : RattleType = shell.the_row (R E) P g in
    let En = ended X Z g d dd in
    let inst = bounded (a_type ∷ a_type ∷ []) (X, (Z, tt)) (dcons d (dcons dd dnil)) in
    let fn = inst_fn inst code.function in
    let c = clauses X Z g d dd 𝓛 𝓜.mem 𝓡.returns in
    let hs : Stays En.signature.params En.kept = (stay_dropped (plain (λ _. Row)) no, (stay_dropped (plain (λ _. Sh)) no, tt)) in
    proved_at 𝓛 En hs c 𝓜 𝓡 (Goes-dropped 𝓛 2 (plain (λ _. Row)) no (λ κs x f. refl), (Goes-blank 𝓛 2 (plain (λ _. Sh)) no (λ κs x f. tt), tt)) (#self inst) fn
    (code.unfolded 𝓤 𝓛.H 𝓜 𝓡 wired (X, (Z, tt)) d dd) (λ z are.
    let κs = z.0.0 in
    let qs = z.0.1 in
    let Tokens : Item 𝓤 = ‵ (flft κs.0 qs.0) ⊛ ‵ (flft κs.1.0 qs.1.0) ⊛ ‵ ftrue in
    let Post : Val → SProp 𝓤 = (walk_of 𝓛 En hs c).post z in
    let Run : List Val → SProp 𝓤 = λ ws. prog.Wp.WpFn 𝓤 𝓛.H 𝓣.C 𝓣.Λ fn ws Post in
    let r : Row.Denot = z.0.3.0 in
    let e : Sh.Denot = z.0.3.1.0 in
    let Asked : Type 0 = (r.at ≡ e.at) × (length r.places ≡ e.len) × IsTrue (list_all is_here r.places) in
    let Places : Fml = run_owns (R E) r.at r.places in
    let blanks : List (Place X.Denot) = map written [] ++ replicate (e.len - 0) unwritten in
    let all : e.len - 0 ≡ e.len = omega arith in
    qed 𝓛 ((Tokens ⊛ ‵ (fsep (Row.own_val r z.0.4.0) (fsep (Sh.own_val e z.0.4.1.0) ftrue))) ∷ raw (fact 𝓤 _) ∷ raw (fact 𝓤 _) ∷ raw (fact 𝓤 Asked) ∷ []) ∵
    keep ! (3 ∷ 0 ∷ []) $ heard ! Asked (λ asked. split ! $ move ! (1 ∷ []) $ fsplit3 ! $ fsplit ! $ drop ! $ fsplit ! $ drop ! $
    use1 𝓛 (given (InBlock r.at) (‵ Places)) (fact_use 𝓤 _ (points (R E) 𝓛 r.at r.places) (guard_i 𝓤 (InBlock r.at) (sem 𝓛 Places))) $ learn ! (λ inside.
    fsplit ! $ flt_l ! (λ small. in_a_block ! r.at (λ q. in_block q (places_own (R E) q r.places)) (id⊢ 𝓤 (never 𝓤)) (λ b o at.
    let long : length r.places ≡ e.len - 0 = asked.1 ∙ sym all in
    use1 𝓛 (‵ (places_own (R E) (block_ptr b o) (replicate (length r.places) unwritten))) (all_forgotten E 𝓛 b r.places o asked.2) $
    rewrite ! 0 (λ (n : ℕ). ‵ (places_own (R E) (block_ptr b o) (replicate n unwritten))) long refl $ rewrite ! 0 (λ (q : Ptr). ‵ (in_block q (places_own (R E) q blanks))) (sym at ∙ asked.0) refl $
    flt_i ! (length blanks * bytes_of (R E)) (2 ^ 63) (subst (λ (n : ℕ). n * bytes_of (R E) < 2 ^ 63) (long ∙ sym (length-replicate (e.len - 0) unwritten)) small) $ fjoin ! $
    flt_i ! 0 (suc e.len) (omega arith) $ fjoin ! $
    -- [the places; the way back; the tokens]
    move ! (1 ∷ []) $ fsplit ! $ fpick ! (λ typed. drop ! $ fpick ! (λ cap. fpick ! (λ h. fsplit ! $ feq_l ! (λ second_is.
    use1 𝓛 (‵ (fwand (begun (R E) e []) (Whole (R E) P g e cap h []))) (all_e 𝓤 (λ ys. sem 𝓛 (fwand (begun (R E) e ys) (Whole (R E) P g e cap h ys))) []) $ move ! (1 ∷ 0 ∷ []) $
    use2 𝓛 (‵ (Whole (R E) P g e cap h [])) (apply∗ 𝓤 (sem 𝓛 (begun (R E) e [])) (sem 𝓛 (Whole (R E) P g e cap h []))) $ fpick ! (λ i. fsplit ! $ feq_l ! (λ none.
    let back : V.Denot = i.vec in
    let Told : Type 0 = back.len ≡ 0 in
    single_had ! V (vec_laws.the_row_laws (R E) P g (param_laws 0 X L) (param_laws 1 Z LZ)) back (words e.at 0 cap h) (λ u one good.
    let first_is : z.0.4.0 ≡ stored r.at ∷ [] = stored_as (R E) r.at z.0.4.0 are.0.0 in
    let second : z.0.4.1.0 ≡ wrapped u ∷ [] = second_is ∙ one in
    let us : List Val = stored r.at ∷ wrapped u ∷ [] in
    keep ! (0 ∷ 2 ∷ []) $
    suffices ! (Run us) (subst (λ (ws : List Val). ent 𝓤 (Run us) (Run ws)) (sym (λ j. first_is j ++ (second j ++ []))) (id⊢ 𝓤 (Run us))) $
    enter ! 𝓣.C 𝓣.Λ fn us Post $ alloc_all ! (λ l. pass_all ! refl (strip_good r.at inside, ((subst (Typed Sh.mir) second typed).0, tt)) $
    sets ! (of_opd ! (get_in ! (fld ! refl (stop !)) (sub ! 0 refl (whole !)))) refl good $ sets ! (of_opd ! (get ! refl)) refl good $
    use0 𝓛 (raw (fact 𝓤 Told)) (fact_i 𝓤 Told (emp 𝓤) (back.ok.0 ∙ ap length none)) $
    nothing ! $ nothing ! $ fjoin ! $ nothing ! $ fjoin ! $
    returns ! (look_at ! 0 refl) $ free_all ! refl $ keep ! (3 ∷ 0 ∷ 2 ∷ 1 ∷ []) $
    by ! (leaves 𝓛 En hs c z u back (tt, (tt, tt)) (tt, (tt, tt))))))))))))))))
