-- Open compound nodes, each inside the one before.
use Rattle.std.proofs.Common.{◌≡◌, ℕ, zero, suc, ◌<◌, List, [], ◌∷◌, ◌++◌, length, Option, None, IsSome, sym, subst, append_assoc, arith}
use Rattle.if1_graph.specs.declared.line.Line.{Line}
use Rattle.if1_graph.specs.declared.line.Line.TheVariants as line
use Rattle.if1_graph.specs.declared.graph.Graph.{Graph}
use Rattle.if1_read.specs.declared.judge.Known.{Known}
use Rattle.if1_read.specs.declared.part.Part.{Part}
use Rattle.if1_read.specs.declared.level.Level.{Level}
use Rattle.if1_read.specs.Stands.{UnitStands, InnerStands, StandsInside, Stands, innermost, around, unit, inside}
use Rattle.if1_read.proofs.Bodies.{parts_none}

pub unit_alone : (k : Known) (is : List (ℕ × List ℕ)) (level : Level) (done : List Line) → Stands k is [] level done → UnitStands k is level.graphs level.part done
unit_alone k is level done (unit l d s) = s

inner_alone : (k : Known) (m : ℕ) (level : Level) (done : List Line) → StandsInside k m [] level done → InnerStands k m level.graphs level.part done
inner_alone k m level done (innermost m0 l d s) = s

-- ---- the innermost level changes

module _ (k : Known) (level next : Level) (js : List Line) where
  abbrev pub InnerLeads : Type 0
  InnerLeads = (m : ℕ) (done : List Line) → InnerStands k m level.graphs level.part done → InnerStands k m next.graphs next.part (done ++ js)

  abbrev pub UnitLeads : List (ℕ × List ℕ) → Type 0
  UnitLeads is = (done : List Line) → UnitStands k is level.graphs level.part done → UnitStands k is next.graphs next.part (done ++ js)

  inside_leads : InnerLeads → (m : ℕ) (ls : List Level) (done : List Line) → StandsInside k m ls level done → StandsInside k m ls next (done ++ js)
  inside_leads f m ls done (innermost m0 l d s) = innermost m next (done ++ js) (f m done s)
  inside_leads f m ls done (around m0 l ls0 l0 before rest d some s i) =
      subst (StandsInside k (suc m0) (l ∷ ls0) next) (sym (append_assoc before (line.Open rest ∷ d) js))
      (around m0 l ls0 next before rest (d ++ js) some s (inside_leads f m0 ls0 d i))

  pub inner_leads : (is : List (ℕ × List ℕ)) (l : Level) (ls : List Level) (done : List Line) → InnerLeads → Stands k is (l ∷ ls) level done → Stands k is (l ∷ ls) next (done ++ js)
  inner_leads is l ls done f (inside l0 ls0 l1 before rest d some s i) =
      subst (Stands k is (l ∷ ls) next) (sym (append_assoc before (line.Open rest ∷ d) js))
      (inside l ls next before rest (d ++ js) some s (inside_leads f 199 ls d i))

  pub leads : (is : List (ℕ × List ℕ)) (ls : List Level) (done : List Line) → UnitLeads is → InnerLeads → Stands k is ls level done → Stands k is ls next (done ++ js)
  leads is [] done f g (unit l d s) = unit next (done ++ js) (f done s)
  leads is (l ∷ ls) done f g s = inner_leads is l ls done g s

-- ---- a node opens

module _ (k : Known) (level next : Level) (rest : List ℕ) (some : IsSome level.part) (graphs : next.graphs ≡ []) (part : next.part ≡ None) where
  starts : (m : ℕ) → InnerStands k m next.graphs next.part []
  starts m =
      subst (λ (gs : List Graph). InnerStands k m gs next.part []) (sym graphs)
      (subst (λ (o : Option Part). InnerStands k m [] o []) (sym part) (parts_none k (suc m)))

  inside_opens : (m : ℕ) (ls : List Level) (done : List Line) → StandsInside k m ls level done → length ls < m →
      StandsInside k m (ls ++ level ∷ []) next (done ++ line.Open rest ∷ [])
  inside_opens m ls done (innermost m0 l d s) room = opens_in m s room
    where
      opens_in : (n : ℕ) → InnerStands k n level.graphs level.part done → 0 < n → StandsInside k n (level ∷ []) next (done ++ line.Open rest ∷ [])
      opens_in zero s room = absurd (omega (arith, room))
      opens_in (suc n) s room = around n level [] next done rest [] some s (innermost n next [] (starts n))
  inside_opens m ls done (around m0 l ls0 l0 before words d there s i) room =
      subst (StandsInside k (suc m0) (l ∷ ls0 ++ level ∷ []) next) (sym (append_assoc before (line.Open words ∷ d) (line.Open rest ∷ [])))
      (around m0 l (ls0 ++ level ∷ []) next before words (d ++ line.Open rest ∷ []) there s (inside_opens m0 ls0 d i (omega (arith, room))))

  pub opens : (is : List (ℕ × List ℕ)) (ls : List Level) (done : List Line) → Stands k is ls level done → length ls < 200 →
      Stands k is (ls ++ level ∷ []) next (done ++ line.Open rest ∷ [])
  opens is ls done (unit l d s) room = inside level [] next done rest [] some s (innermost 199 next [] (starts 199))
  opens is ls done (inside l ls0 l0 before words d there s i) room =
      subst (Stands k is (l ∷ ls0 ++ level ∷ []) next) (sym (append_assoc before (line.Open words ∷ d) (line.Open rest ∷ [])))
      (inside l (ls0 ++ level ∷ []) next before words (d ++ line.Open rest ∷ []) there s (inside_opens 199 ls0 d i (omega (arith, room))))

-- ---- one closes

module _ (k : Known) (a level next : Level) (js : List Line) where
  abbrev pub InnerCloses : Type 0
  InnerCloses =
      (m : ℕ) (before : List Line) (rest : List ℕ) (done : List Line) → InnerStands k (suc m) a.graphs a.part before → InnerStands k m level.graphs level.part done →
      InnerStands k (suc m) next.graphs next.part ((before ++ line.Open rest ∷ done) ++ js)

  abbrev pub UnitCloses : List (ℕ × List ℕ) → Type 0
  UnitCloses is =
      (before : List Line) (rest : List ℕ) (done : List Line) → UnitStands k is a.graphs a.part before → InnerStands k 199 level.graphs level.part done →
      UnitStands k is next.graphs next.part ((before ++ line.Open rest ∷ done) ++ js)

  inside_closes : InnerCloses → (m : ℕ) (ls : List Level) (done : List Line) → StandsInside k m (ls ++ a ∷ []) level done → StandsInside k m ls next (done ++ js)
  inside_closes f m [] done (around m0 l ls0 l0 before rest d some s i) =
      innermost (suc m0) next ((before ++ line.Open rest ∷ d) ++ js) (f m0 before rest d s (inner_alone k m0 level d i))
  inside_closes f m (l ∷ ls) done (around m0 l1 ls0 l0 before rest d some s i) =
      subst (StandsInside k (suc m0) (l ∷ ls) next) (sym (append_assoc before (line.Open rest ∷ d) js))
      (around m0 l ls next before rest (d ++ js) some s (inside_closes f m0 ls d i))

  pub closes : (is : List (ℕ × List ℕ)) (ls : List Level) (done : List Line) → UnitCloses is → InnerCloses → Stands k is (ls ++ a ∷ []) level done → Stands k is ls next (done ++ js)
  closes is [] done f g (inside l ls0 l0 before rest d some s i) = unit next ((before ++ line.Open rest ∷ d) ++ js) (f before rest d s (inner_alone k 199 level d i))
  closes is (l ∷ ls) done f g (inside l1 ls0 l0 before rest d some s i) =
      subst (Stands k is (l ∷ ls) next) (sym (append_assoc before (line.Open rest ∷ d) js))
      (inside l ls next before rest (d ++ js) some s (inside_closes g 199 ls d i))
