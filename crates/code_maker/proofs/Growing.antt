-- Drafts that grow, one part behind another.
use Rattle.std.proofs.Common.{◌≡◌, ℕ, ◌+◌, ◌≤◌, List, [], ◌∷◌, ◌++◌, length, sym, ap, ◌∙◌, arith, append_assoc}
use Rattle.std.proofs.lemmas.List.{append-nil, length-append}
use Rattle.run_code.specs.Made.{Line, Plan}
use Rattle.plan_data.specs.Settled.{Setting}
use Rattle.step_code.specs.declared.code.Code.{Code}
use Rattle.step_code.specs.declared.code.Operand.{Operand}
use Rattle.step_code.specs.declared.step.Collect.{Collect}
use Rattle.step_code.specs.declared.step.Step.{Step}
use Rattle.step_code.specs.Reading.{so_many}
use Rattle.plan_data.specs.declared.plan.PlanData.{PlanData}
use Rattle.code_maker.specs.declared.draft.Draft.{Draft}
use Rattle.code_maker.specs.Grows.{AreLaid, Begins, Grows, IsLaid}
use Rattle.code_maker.proofs.Reading.{so-many-here}

laid-then : (D : PlanData) (P : Plan) (code : Code) (xs ys : List Step) (ls ms : List Line) (ss ts : List Setting) → AreLaid D P code xs ls ss → AreLaid D P code ys ms ts → AreLaid D P code (xs ++ ys) (ls ++ ms) (ss ++ ts)
laid-then D P code [] ys [] ms [] ts a b = b
laid-then D P code (x ∷ xs) ys (l ∷ ls) ms (s ∷ ss) ts a b = (a.0, laid-then D P code xs ys ls ms ss ts a.1 b)
laid-then D P code [] ys (l ∷ ls) ms ss ts a b = absurd a
laid-then D P code [] ys [] ms (s ∷ ss) ts a b = absurd a
laid-then D P code (x ∷ xs) ys [] ms ss ts a b = absurd a
laid-then D P code (x ∷ xs) ys (l ∷ ls) ms [] ts a b = absurd a

-- what was added, and what stands behind it
behind : {A : Type 0} (a b : List A) (c m n : List A) → b ≡ a ++ m → c ≡ b ++ n → c ≡ a ++ (m ++ n)
behind a b c m n e f = f ∙ (ap (λ x. x ++ n) e ∙ append_assoc a m n)

begins-less : (D : PlanData) (old new : Draft) (code : Code) → (os : List Operand) → new.operands ≡ old.operands ++ os → (ts : List ℕ) → new.targets ≡ old.targets ++ ts → (cs : List Collect) → new.collects ≡ old.collects ++ cs
    → Begins D new code → Begins D old code
begins-less D old new code os a ts b cs c h =
    record {
      operands = (os ++ h.operands.0, behind old.operands new.operands code.operands os h.operands.0 a h.operands.1);
      targets = (ts ++ h.targets.0, behind old.targets new.targets code.targets ts h.targets.0 b h.targets.1);
      collects = (cs ++ h.collects.0, behind old.collects new.collects code.collects cs h.collects.0 c h.collects.1);
      marks = h.marks;
      literals = h.literals;
    }

pub grows-none : (D : PlanData) (P : Plan) (d : Draft) → Grows D P d d [] []
grows-none D P d =
    record {
      steps = ([], sym (append-nil d.steps), λ code b. tt);
      operands = ([], sym (append-nil d.operands));
      targets = ([], sym (append-nil d.targets));
      collects = ([], sym (append-nil d.collects));
    }

pub grows-then : (D : PlanData) (P : Plan) (a b c : Draft) (ls ms : List Line) (ss ts : List Setting) → Grows D P a b ls ss → Grows D P b c ms ts → Grows D P a c (ls ++ ms) (ss ++ ts)
grows-then D P a b c ls ms ss ts f g =
    record {
      steps = (
        f.steps.0 ++ g.steps.0,
        behind a.steps b.steps c.steps f.steps.0 g.steps.0 f.steps.1 g.steps.1,
        λ code h. laid-then D P code f.steps.0 g.steps.0 ls ms ss ts
            (f.steps.2 code (begins-less D b c code g.operands.0 g.operands.1 g.targets.0 g.targets.1 g.collects.0 g.collects.1 h)) (g.steps.2 code h),
      );
      operands = (f.operands.0 ++ g.operands.0, behind a.operands b.operands c.operands f.operands.0 g.operands.0 f.operands.1 g.operands.1);
      targets = (f.targets.0 ++ g.targets.0, behind a.targets b.targets c.targets f.targets.0 g.targets.0 f.targets.1 g.targets.1);
      collects = (f.collects.0 ++ g.collects.0, behind a.collects b.collects c.collects f.collects.0 g.collects.0 f.collects.1 g.collects.1);
    }

-- one step more
pub grows-one : (D : PlanData) (P : Plan) (old new : Draft) (x : Step) (l : Line) (s : Setting) (os : List Operand) (ts : List ℕ) (cs : List Collect)
    → new.steps ≡ old.steps ++ x ∷ [] → new.operands ≡ old.operands ++ os → new.targets ≡ old.targets ++ ts → new.collects ≡ old.collects ++ cs
    → ((code : Code) → Begins D new code → IsLaid D P code x l s) → Grows D P old new (l ∷ []) (s ∷ [])
grows-one D P old new x l s os ts cs a b c d h =
    record {
      steps = (x ∷ [], a, λ code begins. (h code begins, tt));
      operands = (os, b);
      targets = (ts, c);
      collects = (cs, d);
    }

-- what a step names stands in code where it was added
named : {A : Type 0} (old new all more xs : List A) (i n : ℕ) → all ≡ new ++ more → new ≡ old ++ xs → i ≡ length old → n ≡ length xs → so_many i n all ≡ xs
named old new all more xs i n a e f g =
    ap (λ l. so_many i n l) (a ∙ ap (λ l. l ++ more) e) ∙ (ap (λ k. so_many k n ((old ++ xs) ++ more)) f ∙ (ap (λ k. so_many (length old) k ((old ++ xs) ++ more)) g ∙ so-many-here old xs more))

pub operands-named : (D : PlanData) (old new : Draft) (code : Code) (os : List Operand) (i n : ℕ) → Begins D new code → new.operands ≡ old.operands ++ os → i ≡ length old.operands → n ≡ length os → so_many i n code.operands ≡ os
operands-named D old new code os i n h e f g = named old.operands new.operands code.operands h.operands.0 os i n h.operands.1 e f g

pub targets-named : (D : PlanData) (old new : Draft) (code : Code) (ts : List ℕ) (i n : ℕ) → Begins D new code → new.targets ≡ old.targets ++ ts → i ≡ length old.targets → n ≡ length ts → so_many i n code.targets ≡ ts
targets-named D old new code ts i n h e f g = named old.targets new.targets code.targets h.targets.0 ts i n h.targets.1 e f g

pub collects-named : (D : PlanData) (old new : Draft) (code : Code) (cs : List Collect) (i n : ℕ) → Begins D new code → new.collects ≡ old.collects ++ cs → i ≡ length old.collects → n ≡ length cs → so_many i n code.collects ≡ cs
collects-named D old new code cs i n h e f g = named old.collects new.collects code.collects h.collects.0 cs i n h.collects.1 e f g

-- and there is as much
there : {A : Type 0} (old new all more xs : List A) (i n : ℕ) → all ≡ new ++ more → new ≡ old ++ xs → i ≡ length old → n ≡ length xs → i + n ≤ length all
there old new all more xs i n a e f g =
    let x = ap length a in
    let y = length-append new more in
    let z = ap length e in
    let w = length-append old xs in
    omega (arith, x, y, z, w, f, g)

pub operands-there : (D : PlanData) (old new : Draft) (code : Code) (os : List Operand) (i n : ℕ) → Begins D new code → new.operands ≡ old.operands ++ os → i ≡ length old.operands → n ≡ length os → i + n ≤ length code.operands
operands-there D old new code os i n h e f g = there old.operands new.operands code.operands h.operands.0 os i n h.operands.1 e f g

pub targets-there : (D : PlanData) (old new : Draft) (code : Code) (ts : List ℕ) (i n : ℕ) → Begins D new code → new.targets ≡ old.targets ++ ts → i ≡ length old.targets → n ≡ length ts → i + n ≤ length code.targets
targets-there D old new code ts i n h e f g = there old.targets new.targets code.targets h.targets.0 ts i n h.targets.1 e f g

pub collects-there : (D : PlanData) (old new : Draft) (code : Code) (cs : List Collect) (i n : ℕ) → Begins D new code → new.collects ≡ old.collects ++ cs → i ≡ length old.collects → n ≡ length cs → i + n ≤ length code.collects
collects-there D old new code cs i n h e f g = there old.collects new.collects code.collects h.collects.0 cs i n h.collects.1 e f g
