-- Places side by side: a part comes out of them and another goes back, and a Vec's elements are such a row. Assumes `Logic`.
use Rattle.std.proofs.Common.{◌≡◌, ℕ, zero, suc, ◌+◌, ◌*◌, ◌≤◌, ◌<◌, ◌^◌, List, [], ◌∷◌, ◌++◌, length, take, drop, replicate, map, true≢false, refl, sym, ap, subst, ◌∙◌, arith, length-take-le}
use Rattle.std.specs.Prelude.{IsTrue}
use Rattle.std.specs.List.{list_all}
use native.Mathlib.Nat.{add_comm, zero-mul, suc-mul}
use prog.Memory.{capped}
use prog.Capped.{capped_is}
use seplogic.Ra.Ura.{Ura}
use base.Fraction.{full_share}
use base.Logic.{SProp, ent, sep, emp, id⊢, mono_r, emp∗, snd∗, via, never, never_e}
use mir.Syntax.{ty_array}
use mir.Val.{Val}
use base.Fml.{Fml, fsep, flt, fat, froom}
use contract.Monad.{fact, fact_i}
use denote.RattleType.{RattleType}
use types.Logic.{Logic, sem}
use types.Kit.{‵, ◌⊛◌, ◌$◌, ◌∵◌, !, qed, by, move, keep, split, fsplit, fjoin, pick, learn, some, given, frame, rewrite, use0, use1, use2, done}
use denote.Index.{place, place_is, row}
use denote.Memory.{part_at}
use denote.RawPtr.{Ptr, InBlock, block_ptr, null_ptr}
use denote.Steps.{nothing}
use Rattle.std.proofs.mem.Param.{El, R, el_x, elτ}
use Rattle.std.proofs.ptr.Rows.{el_out}
use Rattle.segment.specs.Places.{Place, away, unwritten, written, is_here}
use Rattle.segment.specs.Runs.{bytes_of, part, spliced, place_owns, places_own, run_owns, place_at}
use Rattle.segment.proofs.Lists.{part_long, spliced-part}
use Rattle.segment.proofs.Fields.{Good, in_arrays}

-- a run's pointer points into a block
pub points : (R : RattleType) {M : Type 1} {𝓤 : Ura M} (𝓛 : Logic 𝓤) (p : Ptr) (ps : List (Place R.Denot)) → ent 𝓤 (sem 𝓛 (run_owns R p ps)) (fact 𝓤 (InBlock p))
points R {𝓤 = 𝓤} 𝓛 (block_ptr b o) ps = fact_i 𝓤 (Unit {0}) _ tt
points R {𝓤 = 𝓤} 𝓛 null_ptr ps = via 𝓤 (never 𝓤) (snd∗ 𝓤 (sem 𝓛 (flt (length ps * bytes_of R) (2 ^ 63))) (never 𝓤)) (never_e 𝓤 _)

pub place_zero : (R : RattleType) (p : Ptr) → p ≡ place_at R p 0
place_zero R (block_ptr b o) = let none : o ≡ o + 0 * bytes_of R = omega (arith, zero-mul (bytes_of R)) in ap (block_ptr b) none
place_zero R null_ptr = refl

-- where the product fits a word, the size may be read from one
pub uncapped : (i n : ℕ) → i * n < 2 ^ 64 → i * capped n ≡ i * n
uncapped zero n fits = zero-mul (capped n) ∙ sym (zero-mul n)
uncapped (suc i) n fits = let more = suc-mul i n in ap (λ (k : ℕ). suc i * k) (capped_is n (omega arith))

module _ (E : El) {M : Type 1} {𝓤 : Ura M} (𝓛 : Logic 𝓤) (b : ℕ) where
  abbrev ◌⊢◌ : SProp 𝓤 → SProp 𝓤 → Type 1
  P ⊢ Q = ent 𝓤 P Q

  abbrev ◌∗◌ : SProp 𝓤 → SProp 𝓤 → SProp 𝓤
  P ∗ Q = sep 𝓤 P Q

  abbrev ⟦◌⟧ : Fml → SProp 𝓤
  ⟦ P ⟧ = sem 𝓛 P

  infix 26 ◌⊢◌
  infixr 35 ◌∗◌
  abbrev s : ℕ
  s = bytes_of (R E)

  abbrev pub one : ℕ → Place (el_x E) → Fml
  one o p = place_owns (R E) (block_ptr b o) p

  abbrev pub all : ℕ → List (Place (el_x E)) → Fml
  all o ps = places_own (R E) (block_ptr b o) ps

  pub cut_at : (ps rs : List (Place (el_x E))) (o : ℕ) → ⟦ all o (ps ++ rs) ⟧ ⊢ ⟦ all o ps ⟧ ∗ ⟦ all (place s o (length ps)) rs ⟧
  cut_at [] rs o = emp∗ 𝓤 ⟦ all o rs ⟧
  cut_at (p ∷ ps) rs o = qed 𝓛 (‵ (one o p) ∷ ‵ (all (o + s) (ps ++ rs)) ∷ []) ∵ move ! (1 ∷ []) $
      use1 𝓛 (‵ (all (o + s) ps) ⊛ ‵ (all (place s (o + s) (length ps)) rs)) (cut_at ps rs (o + s)) $ split ! $ move ! (2 ∷ 0 ∷ []) $ fjoin ! $ done !

  pub glue_at : (ps rs : List (Place (el_x E))) (o : ℕ) → ⟦ all o ps ⟧ ∗ ⟦ all (place s o (length ps)) rs ⟧ ⊢ ⟦ all o (ps ++ rs) ⟧
  glue_at [] rs o = snd∗ 𝓤 (emp 𝓤) ⟦ all o rs ⟧
  glue_at (p ∷ ps) rs o = qed 𝓛 (‵ (all o (p ∷ ps)) ∷ ‵ (all (place s (o + s) (length ps)) rs) ∷ []) ∵ fsplit ! $ frame ! $ by ! (glue_at ps rs (o + s))

  place_after : (o n : ℕ) → place s o n ≡ o + n * s
  place_after o n = place_is s o n ∙ add_comm (n * s) o

  -- the offset of the n-th place is written as a pointer's is
  module _ (ps rs : List (Place (el_x E))) (o n : ℕ) (long : length ps ≡ n) where
    there : place s o (length ps) ≡ o + n * s
    there = ap (place s o) long ∙ place_after o n

    pub cut : ⟦ all o (ps ++ rs) ⟧ ⊢ ⟦ all o ps ⟧ ∗ ⟦ all (o + n * s) rs ⟧
    cut = subst (λ (k : ℕ). ⟦ all o (ps ++ rs) ⟧ ⊢ ⟦ all o ps ⟧ ∗ ⟦ all k rs ⟧) there (cut_at ps rs o)

    pub glue : ⟦ all o ps ⟧ ∗ ⟦ all (o + n * s) rs ⟧ ⊢ ⟦ all o (ps ++ rs) ⟧
    glue = subst (λ (k : ℕ). ⟦ all o ps ⟧ ∗ ⟦ all k rs ⟧ ⊢ ⟦ all o (ps ++ rs) ⟧) there (glue_at ps rs o)

  module _ (ps : List (Place (el_x E))) (a n : ℕ) (fits : a + n ≤ length ps) (o : ℕ) where
    -- the places before a part and after it
    abbrev pub Around : Fml
    Around = fsep (all o (take a ps)) (all (o + a * s + n * s) (drop (a + n) ps))

    front_long : length (take a ps) ≡ a
    front_long = length-take-le a ps (omega arith)

    pub comes_out : ⟦ all o ps ⟧ ⊢ ⟦ all (o + a * s) (part ps a n) ⟧ ∗ ⟦ Around ⟧
    comes_out = qed 𝓛 (‵ (all o ps) ∷ []) ∵ rewrite ! 0 (λ (l : List (Place (el_x E))). ‵ (all o l)) (sym (spliced-part ps a n)) refl $
        use1 𝓛 (‵ (all o (take a ps)) ⊛ ‵ (all (o + a * s) (part ps a n ++ drop (a + n) ps))) (cut (take a ps) (part ps a n ++ drop (a + n) ps) o a front_long) $
        split ! $ move ! (1 ∷ []) $
        use1 𝓛 (‵ (all (o + a * s) (part ps a n)) ⊛ ‵ (all (o + a * s + n * s) (drop (a + n) ps))) (cut (part ps a n) (drop (a + n) ps) (o + a * s) n (part_long ps a n fits)) $
        split ! $ move ! (0 ∷ 2 ∷ []) $ done !

    pub goes_back : (ws : List (Place (el_x E))) → length ws ≡ n → ⟦ all (o + a * s) ws ⟧ ∗ ⟦ Around ⟧ ⊢ ⟦ all o (spliced ps a ws) ⟧
    goes_back ws long = qed 𝓛 (‵ (all (o + a * s) ws) ∷ ‵ Around ∷ []) ∵ move ! (1 ∷ []) $ fsplit ! $ move ! (2 ∷ 1 ∷ []) $
        use2 𝓛 (‵ (all (o + a * s) (ws ++ drop (a + n) ps))) (glue ws (drop (a + n) ps) (o + a * s) n long) $
        move ! (1 ∷ 0 ∷ []) $ use2 𝓛 (‵ (all o (take a ps ++ (ws ++ drop (a + n) ps)))) (glue (take a ps) (ws ++ drop (a + n) ps) o a front_long) $
        rewrite ! 0 (λ (k : ℕ). ‵ (all o (take a ps ++ (ws ++ drop (a + k) ps)))) (sym long) refl $ done !

  -- places that are away own nothing
  pub none_here : (n o : ℕ) → emp 𝓤 ⊢ ⟦ all o (replicate n away) ⟧
  none_here zero o = id⊢ 𝓤 (emp 𝓤)
  none_here (suc n) o = qed 𝓛 [] ∵ use0 𝓛 (‵ (all (o + s) (replicate n away))) (none_here n (o + s)) $ nothing ! $ fjoin ! $ done !

  -- values are written places
  pub of_values : (xs : List (el_x E)) (o : ℕ) → ⟦ row (R E) full_share xs b o ⟧ ⊢ ⟦ all o (map written xs) ⟧
  of_values [] o = id⊢ 𝓤 (emp 𝓤)
  of_values (x ∷ xs) o = mono_r 𝓤 ⟦ part_at (R E) full_share x b o ⟧ (of_values xs (o + s))

  pub to_values : (xs : List (el_x E)) (o : ℕ) → ⟦ all o (map written xs) ⟧ ⊢ ⟦ row (R E) full_share xs b o ⟧
  to_values [] o = id⊢ 𝓤 (emp 𝓤)
  to_values (x ∷ xs) o = mono_r 𝓤 ⟦ part_at (R E) full_share x b o ⟧ (to_values xs (o + s))

  -- room is unwritten places
  pub of_room : (n o : ℕ) → 𝓛.H.room (ty_array (elτ E) n) b o ⊢ ⟦ all o (replicate n unwritten) ⟧
  of_room zero o = qed 𝓛 (‵ (froom (ty_array (elτ E) 0) b o) ∷ []) ∵ keep ! [] $ done !
  of_room (suc n) o = qed 𝓛 (‵ (froom (ty_array (elτ E) (suc n)) b o) ∷ []) ∵
      use1 𝓛 (‵ (froom (elτ E) b o) ⊛ ‵ (froom (ty_array (elτ E) n) b (o + s))) (𝓛.laws.room_uncons (elτ E) n b o) $ split ! $
      use1 𝓛 (‵ (one o unwritten)) (𝓛.laws.room-raw (elτ E) b o) $ frame ! $ by ! (of_room n (o + s))

  pub to_room : (n o : ℕ) → ⟦ all o (replicate n unwritten) ⟧ ⊢ 𝓛.H.room (ty_array (elτ E) n) b o
  to_room zero o = 𝓛.laws.room_nil (elτ E) b o
  to_room (suc n) o = qed 𝓛 (‵ (all o (replicate (suc n) unwritten)) ∷ []) ∵ fsplit ! $
      use1 𝓛 (‵ (froom (elτ E) b o)) (𝓛.laws.raw-room (elτ E) b o) $ move ! (1 ∷ []) $
      use1 𝓛 (‵ (froom (ty_array (elτ E) n) b (o + s))) (to_room n (o + s)) $ move ! (1 ∷ []) $ by ! (𝓛.laws.room_cons (elτ E) n b o)

  -- a value is forgotten, and its place is room
  forgotten : (x : el_x E) (o : ℕ) → ⟦ one o (written x) ⟧ ⊢ ⟦ one o unwritten ⟧
  forgotten x o = qed 𝓛 (‵ (part_at (R E) full_share x b o) ∷ []) ∵
      use1 𝓛 (some (λ (v : Val). given (Good (E.row) v) (‵ (fat full_share (elτ E) b o v) ⊛ ‵ (E.row.own_val x (v ∷ []))))) (el_out (in_arrays E) 𝓛 full_share x b o) $
      pick ! (λ v. learn ! (λ good. split ! $ keep ! (0 ∷ []) $ use1 𝓛 (‵ (froom (elτ E) b o)) (𝓛.laws.at_room (elτ E) b o v) $ by ! (𝓛.laws.room-raw (elτ E) b o)))

  pub all_forgotten : (ps : List (Place (el_x E))) (o : ℕ) → IsTrue (list_all is_here ps) → ⟦ all o ps ⟧ ⊢ ⟦ all o (replicate (length ps) unwritten) ⟧
  all_forgotten [] o here = id⊢ 𝓤 (emp 𝓤)
  all_forgotten (away ∷ ps) o here = absurd (true≢false (sym here))
  all_forgotten (unwritten ∷ ps) o here = mono_r 𝓤 ⟦ one o unwritten ⟧ (all_forgotten ps (o + s) here)
  all_forgotten (written x ∷ ps) o here = qed 𝓛 (‵ (all o (written x ∷ ps)) ∷ []) ∵ fsplit ! $ use1 𝓛 (‵ (one o unwritten)) (forgotten x o) $ frame ! $ by ! (all_forgotten ps (o + s) here)
