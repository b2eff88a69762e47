-- How the nodes of plans handle what fills their ports.
use Rattle.std.proofs.Common.{◌≡◌, ℕ, suc, ◌||◌, if◌then◌else◌, Bool, true, false, List, [], ◌∷◌, map, get_or, refl, sym, ap, ◌∙◌}
use Rattle.graph_meaning.specs.Demand.{Source, Vertex}
use Rattle.run_code.specs.Made.{Plan}
use Rattle.step_code.specs.Ports as ports
use Rattle.step_code.specs.Stored.{Looks, Takes}
use Rattle.plan_data.specs.Settings.{Shares, gives}
use Rattle.plan_data.specs.declared.plan.Port.{Port}
use Rattle.plan_data.specs.declared.plan.Work.{Work}
use Rattle.plan_data.specs.declared.plan.Work.TheVariants as work
use Rattle.plan_data.specs.declared.plan.PlanData.{PlanData}
use Rattle.plan_data.specs.Parts.{IsWhole, first_given, gives_by, mode_by, mode_of, picks_by, picks_of}
use Rattle.plan_data.specs.Stands.{AreFed, IsHandled}
use Rattle.plan_builder.specs.Nodes.{AreHandled, given_by, handled_by}

mode-is : (takes copies : Bool) → ports.mode_of takes copies ≡ mode_by (handled_by takes copies)
mode-is true copies = refl
mode-is false true = refl
mode-is false false = refl

pick-is : (takes copies : Bool) → copies ≡ picks_by (given_by takes copies)
pick-is true true = refl
pick-is true false = refl
pick-is false true = refl
pick-is false false = refl

give-is : (takes copies : Bool) → (if copies || takes then Takes else Looks) ≡ gives_by (given_by takes copies)
give-is true true = refl
give-is true false = refl
give-is false true = refl
give-is false false = refl

module _ (D : PlanData) (P : Plan) (S : Shares) (g : ℕ) (takes copies : (port : ℕ) → Bool) where
  pub modes-are : (i : ℕ) (xs : List Port) (os : List Source) → AreFed D P S g xs os → AreHandled handled_by takes copies i xs → ports.modes_of takes copies i os ≡ map mode_of xs
  modes-are i [] [] fed h = refl
  modes-are i [] (o ∷ os) fed h = absurd fed
  modes-are i (x ∷ xs) [] fed h = absurd fed
  modes-are i (x ∷ xs) (o ∷ os) fed h =
      ap (λ m. m ∷ ports.modes_of takes copies (suc i) os) (mode-is (takes i) (copies i) ∙ ap mode_by (sym h.0)) ∙ ap (λ ms. mode_of x ∷ ms) (modes-are (suc i) xs os fed.1 h.1)

  picks-are : (i : ℕ) (xs : List Port) (os : List Source) → AreFed D P S g xs os → AreHandled given_by takes copies i xs → ports.picks_of copies i os ≡ map picks_of xs
  picks-are i [] [] fed h = refl
  picks-are i [] (o ∷ os) fed h = absurd fed
  picks-are i (x ∷ xs) [] fed h = absurd fed
  picks-are i (x ∷ xs) (o ∷ os) fed h =
      ap (λ b. b ∷ ports.picks_of copies (suc i) os) (pick-is (takes i) (copies i) ∙ ap picks_by (sym h.0)) ∙ ap (λ bs. picks_of x ∷ bs) (picks-are (suc i) xs os fed.1 h.1)

  first-is : (xs : List Port) (os : List Source) → AreFed D P S g xs os → AreHandled given_by takes copies 1 xs → (os ≡ [] → takes 1 ≡ false)
      → (if get_or (ports.picks_of copies 1 os) 0 false || takes 1 then Takes else Looks) ≡ first_given xs
  first-is [] [] fed h none = ap (λ b. if b then Takes else Looks) (none refl)
  first-is [] (o ∷ os) fed h none = absurd fed
  first-is (x ∷ xs) [] fed h none = absurd fed
  first-is (x ∷ xs) (o ∷ os) fed h none = give-is (takes 1) (copies 1) ∙ ap gives_by (sym h.0)

-- a compound node
module _ (D : PlanData) (P : Plan) (S : Shares) (g : ℕ) (v : Vertex) (copies : (port : ℕ) → Bool) (picked : P.picks g v ≡ ports.picks_of copies 1 v.ins) (none : v.ins ≡ [] → S.takes g v.label 1 ≡ false) where
  pub given-so : (w : Work) → IsWhole w → (xs : List Port) → AreFed D P S g xs v.ins → AreHandled given_by (S.takes g v.label) copies 1 xs → IsHandled D P S g xs v w
  given-so w whole xs fed h = by-form w whole
    where
      both : (P.picks g v ≡ map picks_of xs) × ((if gives P S g v 1 then Takes else Looks) ≡ first_given xs)
      both = (
        picked ∙ picks-are D P S g (S.takes g v.label) copies 1 xs v.ins fed h,
        ap (λ bs. if get_or bs 0 false || S.takes g v.label 1 then Takes else Looks) picked ∙ first-is D P S g (S.takes g v.label) copies xs v.ins fed h none,
      )

      by-form : (w : Work) → IsWhole w → IsHandled D P S g xs v w
      by-form (work.Plain row shape writes counts) k = absurd k
      by-form (work.Call f) k = absurd k
      by-form (work.Select s gs) k = both
      by-form (work.TagCase gs) k = both
      by-form (work.LoopA p) k = both
      by-form (work.LoopB p) k = both
      by-form (work.ForAll e b r m) k = both
