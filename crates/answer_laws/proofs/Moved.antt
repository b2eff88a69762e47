-- What one typed program of a text gives, each gives in as many steps.
use Rattle.std.proofs.Common.{◌≡◌, ◌≤◌, ℕ, List, subst, arith}
use Rattle.flow_value.specs.declared.value.Val.{Val}
use Rattle.sisal_tree.specs.declared.unit.Unit as tree
use Rattle.typed_tree.specs.declared.program.Program.{Program}
use Rattle.typed_tree.specs.Units.{IsTyped}
use Rattle.fitting_texts.proofs.Names.{names_once}
use Rattle.meaning_laws.specs.Laws.{IsCallOne}
use Rattle.mean_call.specs.Calls.{Gives as HasValues}
use Rattle.one_meaning.specs.Laws.{AreAnswersMoved}
use Rattle.run_words.specs.declared.command.RunSet.{RunSet}
use Rattle.run_meaning.specs.Laws.{meant, IsOfSource}
use Rattle.run_meaning.proofs.Within.{given-once}
use Rattle.sisal_top.specs.Outputs.{HasProgram}
use Rattle.sisal_top.specs.Program.{IsUnitOf}

as-many : (n : ℕ) → n ≤ n
as-many n = omega arith

-- within no more steps than it takes
tight : (p : Program) (set : RunSet) (limit : ℕ) (vs : List Val) (g : HasValues p (meant set limit) vs) → HasValues p (meant set g.steps) vs
tight p set limit vs g = record { linked = g.linked; function = g.function; types = g.types; entry = g.entry; args = g.args; read = g.read; depth = g.depth; steps = g.steps; given = g.given; within = as-many g.steps }

module _ (one : (bytes : List ℕ) (u v : tree.Unit) → IsUnitOf bytes u → IsUnitOf bytes v → u ≡ v) (moved : AreAnswersMoved) (bytes : List ℕ) (set : RunSet) where
  over : (p q : Program) → HasProgram bytes p → HasProgram bytes q → (limit : ℕ) (vs : List Val) → HasValues p (meant set limit) vs → HasValues q (meant set limit) vs
  over p q a b limit vs g =
      moved.values b.unit p q (names_once bytes b.unit.tokens b.is.lexed) (subst (λ u. IsTyped u p) (one bytes a.unit b.unit a.is b.is) a.typed) b.typed (meant set limit) vs g

  -- the values of the other program, within as many steps
  pub moved-within : (p q : Program) → HasProgram bytes p → HasProgram bytes q → (limit : ℕ) (vs : List Val) (g : HasValues p (meant set limit) vs) → HasValues q (meant set g.steps) vs
  moved-within p q a b limit vs g = over p q a b g.steps vs (tight p set limit vs g)

  -- and in no fewer
  pub moved-source : IsCallOne → (p q : Program) → HasProgram bytes p → HasProgram bytes q → (vs : List Val) (fires : ℕ) → IsOfSource p set vs fires → IsOfSource q set vs fires
  moved-source calls p q a b vs fires s =
      let there = moved-within p q a b s.limit vs s.given in
      let back = moved-within q p b a s.given.steps vs there in
      let same = given-once calls p set there.steps s.limit vs vs back s.given in
      let less : back.steps ≤ there.steps = back.within in
      record { limit = s.given.steps; given = there; bound = omega (arith, s.bound, same.1, less) }
