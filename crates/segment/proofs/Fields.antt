-- The one data field of a run, and structs of one field. Assumes `Logic`.
use Rattle.std.proofs.Common.{◌≡◌, ℕ, List, [], ◌∷◌, ◌++◌, refl, ap, ◌∙◌}
use lib.Dec.{T}
use seplogic.Ra.Ura.{Ura}
use mir.Syntax.{w64, given as dict_at}
use mir.Val.{Val, vunit, vint, vstruct, vcons, vnil, of_list, has_ty, WT}
use base.Logic.{ent, emp}
use base.Fml.{ftrue}
use types.Logic.{Logic, sem}
use types.Kit.{Goal, Seq, Step, step, Item, ‵, ◌$◌, move, drop, fsplit, fjoin, fpick, fpack, feq_l, feq_i}
use denote.RattleType.{RattleType, Valss}
use denote.Laws.{Is}
use denote.Param.{layout}
use denote.Param.Laws.{Laws}
use denote.RawPtr.{Ptr, ptr_val}
use denote.Shadow.{makes_shadow}
use denote.Steps.{nothing}
use denote.Struct.Struct.{Struct, within}
use denote.Struct.Owning.{shape}
use Rattle.std.proofs.alloc.Calls.{handle_tells}
use Rattle.std.proofs.mem.Param.{El}
use Rattle.std.proofs.ptr.Rows as arrays
use Rattle.segment.specs.contracts.run.Run as run

-- the machine's value of a struct of one field, and of a run at p
abbrev pub wrapped : Val → Val
wrapped u = vstruct (vcons u vnil)

abbrev pub stored : Ptr → Val
stored p = wrapped (ptr_val p)

-- that of a `Vec`, and of the one field of a struct
abbrev pub stored_words : Ptr → ℕ → ℕ → Val → Val
stored_words p len cap h = vstruct (vcons (ptr_val p) (vcons (vint w64 len) (vcons (vint w64 cap) (vcons h vnil))))

abbrev pub inner : List Val → Val
inner (vstruct (vcons u us) ∷ vs) = u
inner vs = vunit

abbrev pub Good : RattleType → Val → Type 0
Good R v = T (has_ty (layout R) v) × WT v

abbrev pub in_arrays : El → arrays.El
in_arrays E = record { row = E.row; laws = E.laws }

module _ (R : RattleType) where
  abbrev pub Pointer : RattleType
  Pointer = Struct (shape (run.the_type R))

  pub stored_as : (p : Ptr) (vs : List Val) → Is Pointer (p, tt) vs → vs ≡ stored p ∷ []
  stored_as p vs is = is.1.0 ∙ ap (λ (ws : List Val). vstruct (of_list (ws ++ [])) ∷ []) is.1.1.0

  pub pointer_made : {M : Type 1} {𝓤 : Ura M} (𝓛 : Logic 𝓤) (p : Ptr) → ent 𝓤 (emp 𝓤) (sem 𝓛 (Pointer.own_val (p, tt) (stored p ∷ [])))
  pointer_made 𝓛 p = makes_shadow 𝓛 (Pointer.own_val (p, tt) (stored p ∷ [])) (λ vss. (tt, (tt, tt))) ((ptr_val p ∷ [], tt), (refl, (refl, tt)))

-- a struct of one field, whatever its name
abbrev pub Single : RattleType → RattleType
Single R = Struct (record { name = []; args = []; types = []; fields = R ∷ [] })

module _ {M : Type 1} {𝓤 : Ura M} {𝓛 : Logic 𝓤} {K : Type 0} {Γ : List (Item 𝓤)} {G : Goal 𝓤 𝓛.H} where
  -- what is owned is one machine value, of its type
  pub tells : K → (R : RattleType) → Laws R → (x : R.Denot) (vs : List Val) → ((v : Val) → vs ≡ v ∷ [] → Good R v → Seq K 𝓛 (‵ (R.own_val x (v ∷ [])) ∷ Γ) G) → Seq K 𝓛 (‵ (R.own_val x vs) ∷ Γ) G
  tells t R L = handle_tells (record { row = R; laws = L; g = record { dealloc_token = λ a τ p. ftrue }; d = dict_at 0; drops = dict_at 0 }) t

  pub single_made : K → (R : RattleType) (x : R.Denot) (u : Val) → Step K 𝓛 (‵ ((Single R).own_val (x, tt) (wrapped u ∷ [])) ∷ Γ) G (‵ (R.own_val x (u ∷ [])) ∷ Γ) G
  single_made t R x u = step (λ rest.
      nothing t $ move t (1 ∷ 0 ∷ []) $ fjoin t $ feq_i t (List Val) (wrapped u ∷ []) (wrapped u ∷ []) refl $ fjoin t $
      fpack t (Valss (R ∷ [])) (within (record { name = []; args = []; types = []; fields = R ∷ [] }) (x, tt) (wrapped u ∷ [])) (u ∷ [], tt) $ rest)

  pub single_had : K → (R : RattleType) → Laws R → (x : R.Denot) (vs : List Val) → ((u : Val) → vs ≡ wrapped u ∷ [] → Good R u → Seq K 𝓛 (‵ (R.own_val x (u ∷ [])) ∷ Γ) G)
      → Seq K 𝓛 (‵ ((Single R).own_val (x, tt) vs) ∷ Γ) G
  single_had t R L x vs k =
      fpick t (λ vss. fsplit t $ feq_l t (λ whole. fsplit t $ move t (1 ∷ []) $ drop t $ tells t R L x vss.0 (λ u is good.
      k u (whole ∙ ap (λ (ws : List Val). vstruct (of_list (ws ++ [])) ∷ []) is) good)))
