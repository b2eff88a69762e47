-- `attach` gives the `Vec` of what was written: its word for the length is set, the second of its words.
use Rattle.segment.proofs.Words.{◌≡◌, ℕ, ◌-◌, suc, List, [], ◌∷◌, ◌++◌, length, map, replicate, sym, refl, ap, ◌∙◌, subst, arith, a_type, w64, dcons, dnil, Val, vint, inst_fn, SProp, ent, emp, id⊢, all_e, apply∗, guard_i, Fml, ftrue, fsep, fwand, flft, sem, Item, ‵, raw, ◌⊛◌, given, at_ret, ◌$◌, ◌∵◌, !, qed, by, move, keep, drop, split, fsplit, fsplit3, fjoin, fpick, learn, use0, use1, use2, rewrite, feq_l, flt_i, suffices, stop, fld, lit, of_opd, addr, from, bin, assigns_last, first, blocks, exec, returns, enter, alloc_all, pass_all, free_all, look_at, take_at, give_at, get, get_in, through, sets, env, sub, whole, store_in, tables, fact, fact_i, fact_use, yes, no, RattleType, plain, Ptr, InBlock, nothing, heard, Typed, usize, param, bounded, param_laws, Stays, stay_dropped, walk_of, Goes-dropped, proved_at, leaves, strip_good, Goes-blank, after, El, R}
use Rattle.std.proofs.Common.{lit<}
use Rattle.std.proofs.lemmas.List.{append-nil, length-map}
use Rattle.std.specs.Prelude.{IsTrue}
use Rattle.std.specs.List.{list_all}
use Rattle.std.specs.contracts.vec.Vec as Vec
use Rattle.std.proofs.vec.Vec.TheLaws as vec_laws
use Rattle.segment.specs.Places.{Place, unwritten, written, is_written}
use Rattle.segment.specs.Runs.{run_owns, begun, words}
use Rattle.segment.proofs.Fields.{Good, stored, stored_as, wrapped, stored_words, inner, single_had}
use Rattle.segment.proofs.Lists.{values}
use Rattle.segment.proofs.Rows.{points}
use Rattle.segment.proofs.Shells.{Whole}
use Rattle.segment.specs.contracts.run.Run as run
use Rattle.segment.specs.contracts.run.Shell as shell
use Rattle.segment.specs.contracts.run.attach.{ended, clauses}
use Rattle.segment.specs.contracts.run.attach.Key.{name as #self}
use Rattle.segment.proofs.run.attach.Statement.{statement}
use Rattle.segment.proofs.run.attach.Code as code

pub attach_spec : {M : Type 1} → statement M
attach_spec 𝓤 𝓛 𝓜 𝓡 wired X Z L LZ g d dd met md =
    let 𝓣 = tables 𝓤 𝓛.H 𝓜 𝓡 𝓡.env in
    let E : El = record { row = X; laws = L } in
    let P : RattleType = param 1 Z in
    let V : RattleType = Vec.the_row (R E) P g in
    let Row : RattleType = run.the_row (R E) in
    let Sh : RattleType = shell.the_row (R E) P g in
    let En = ended X Z g d dd in
    let inst = bounded (a_type ∷ a_type ∷ []) (X, (Z, tt)) (dcons d (dcons dd dnil)) in
    let fn = inst_fn inst code.function in
    let c = clauses X Z g d dd 𝓛 𝓜.mem 𝓡.returns in
    let word = plain (λ _. usize) in
    let hs : Stays En.signature.params En.kept = (stay_dropped (plain (λ _. Row)) no, (stay_dropped (plain (λ _. Sh)) no, (stay_dropped word yes, tt))) in
    proved_at 𝓛 En hs c 𝓜 𝓡 (Goes-dropped 𝓛 2 (plain (λ _. Row)) no (λ κs x f. refl), (Goes-blank 𝓛 2 (plain (λ _. Sh)) no (λ κs x f. tt), (Goes-dropped 𝓛 2 word yes (λ κs x f. refl), tt))) (#self inst) fn
    (code.unfolded 𝓤 𝓛.H 𝓜 𝓡 wired (X, (Z, tt)) d dd) (λ z are.
    let κs = z.0.0 in
    let qs = z.0.1 in
    let Tokens : Item 𝓤 = ‵ (flft κs.0 qs.0) ⊛ ‵ (flft κs.1.0 qs.1.0) ⊛ ‵ ftrue in
    let Post : Val → SProp 𝓤 = (walk_of 𝓛 En hs c).post z in
    let Run : List Val → SProp 𝓤 = λ ws. prog.Wp.WpFn 𝓤 𝓛.H 𝓣.C 𝓣.Λ fn ws Post in
    let r : Row.Denot = z.0.3.0 in
    let e : Sh.Denot = z.0.3.1.0 in
    let count : ℕ = z.0.3.1.1.0 in
    let Asked : Type 0 = (r.at ≡ e.at) × (length r.places ≡ e.len) × (count ≡ e.len) × IsTrue (list_all is_written r.places) in
    let Places : Fml = run_owns (R E) r.at r.places in
    qed 𝓛 ((Tokens ⊛ ‵ (fsep (Row.own_val r z.0.4.0) (fsep (Sh.own_val e z.0.4.1.0) (fsep (usize.own_val count z.0.4.1.1.0) ftrue)))) ∷ raw (fact 𝓤 _) ∷ raw (fact 𝓤 _) ∷ raw (fact 𝓤 Asked) ∷ []) ∵
    keep ! (3 ∷ 0 ∷ []) $ heard ! Asked (λ asked. split ! $ move ! (1 ∷ []) $ fsplit3 ! $ fsplit ! $ drop ! $ fsplit ! $ drop ! $
    use1 𝓛 (given (InBlock r.at) (‵ Places)) (fact_use 𝓤 _ (points (R E) 𝓛 r.at r.places) (guard_i 𝓤 (InBlock r.at) (sem 𝓛 Places))) $ learn ! (λ inside.
    let found = values r.places asked.3 in
    let xs : List X.Denot = found.0 in
    let l : ℕ = length xs in
    let long : l ≡ e.len = sym (length-map xs written) ∙ ap length found.1 ∙ asked.1 in
    let none : e.len - l ≡ 0 = omega arith in
    let behind : List (Place X.Denot) = replicate (e.len - l) unwritten in
    let all : r.places ≡ map written xs ++ behind = sym found.1 ∙ sym (append-nil (map written xs)) ∙ ap (λ (n : ℕ). map written xs ++ replicate n unwritten) (sym none) in
    rewrite ! 0 (λ (q : Ptr). ‵ (run_owns (R E) q r.places)) asked.0 refl $ rewrite ! 0 (λ (ps : List (Place X.Denot)). ‵ (run_owns (R E) e.at ps)) all refl $ flt_i ! l (suc e.len) (omega arith) $ fjoin ! $
    -- [the places; the way back; the count and nothing; the tokens]
    move ! (1 ∷ []) $ fsplit ! $ fpick ! (λ typed. drop ! $ fpick ! (λ cap. fpick ! (λ h. fsplit ! $ feq_l ! (λ second_is.
    use1 𝓛 (‵ (fwand (begun (R E) e xs) (Whole (R E) P g e cap h xs))) (all_e 𝓤 (λ ys. sem 𝓛 (fwand (begun (R E) e ys) (Whole (R E) P g e cap h ys))) xs) $ move ! (1 ∷ 0 ∷ []) $
    use2 𝓛 (‵ (Whole (R E) P g e cap h xs)) (apply∗ 𝓤 (sem 𝓛 (begun (R E) e xs)) (sem 𝓛 (Whole (R E) P g e cap h xs))) $ fpick ! (λ i. fsplit ! $ feq_l ! (λ are_xs.
    let back : V.Denot = i.vec in
    let Told : Type 0 = map written back.items ≡ r.places in
    let empty : Val = stored_words e.at 0 cap h in
    let whole_vec : Val = stored_words e.at count cap h in
    single_had ! V (vec_laws.the_row_laws (R E) P g (param_laws 0 X L) (param_laws 1 Z LZ)) back (words e.at l cap h) (λ u one good.
    let u_is : u ≡ whole_vec = ap inner (sym one) ∙ ap (λ (n : ℕ). stored_words e.at n cap h) (long ∙ sym asked.2) in
    rewrite ! 0 (λ (w : Val). ‵ (V.own_val back (w ∷ []))) u_is refl $
    let good_whole : Good V whole_vec = subst (Good V) u_is good in
    let good_empty : Good V empty = (good_whole.0, (good_whole.1.0, (record { fits = lit< tt }, good_whole.1.1.1))) in
    let first_is : z.0.4.0 ≡ stored r.at ∷ [] = stored_as (R E) r.at z.0.4.0 are.0.0 in
    let us : List Val = stored r.at ∷ wrapped empty ∷ vint w64 count ∷ [] in
    keep ! (0 ∷ 2 ∷ []) $
    suffices ! (Run us) (subst (λ (ws : List Val). ent 𝓤 (Run us) (Run ws)) (sym (λ j. first_is j ++ (second_is j ++ (are.1.1.0.0 j ++ [])))) (id⊢ 𝓤 (Run us))) $
    enter ! 𝓣.C 𝓣.Λ fn us Post $ alloc_all ! (λ l. pass_all ! refl (strip_good r.at inside, ((subst (Typed Sh.mir) second_is typed).0, ((tt, record { fits = are.1.1.0.1 }), tt))) $
    sets ! (of_opd ! (get_in ! (fld ! refl (stop !)) (sub ! 0 refl (whole !)))) refl good_empty $ sets ! (addr ! (from ! (stop !))) refl (tt, tt) $
    first ! $ blocks ! $ sets ! (bin ! (get ! refl) (lit ! tt) tt) refl (tt, tt) $
    take_at ! 4 $ assigns_last ! (of_opd ! (get ! refl)) (through ! refl (stop !)) (store_in ! 0 (sub ! 1 refl (whole !)) (tt, record { fits = are.1.1.0.1 })) $ give_at ! 4 $
    exec ! 𝓣.C 𝓣.Λ (env fn.locals l) (after 3 fn.body) (at_ret (env fn.locals l) Post) $ sets ! (of_opd ! (get ! refl)) refl good_whole $
    use0 𝓛 (raw (fact 𝓤 Told)) (fact_i 𝓤 Told (emp 𝓤) (ap (λ (ys : List X.Denot). map written ys) are_xs ∙ found.1)) $
    nothing ! $ nothing ! $ fjoin ! $ nothing ! $ fjoin ! $ nothing ! $ fjoin ! $
    returns ! (look_at ! 0 refl) $ free_all ! refl $ keep ! (3 ∷ 0 ∷ 2 ∷ 1 ∷ []) $
    by ! (leaves 𝓛 En hs c z whole_vec back (tt, (tt, (tt, tt))) (tt, (tt, (tt, tt)))))))))))))))
