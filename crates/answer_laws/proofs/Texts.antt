-- What a plain run and `compile` answer to the bytes of a SISAL text is one.
use Rattle.std.proofs.Common.{◌≡◌, ◌≢◌, ◌<◌, ◌∙◌, ℕ, List, ◌++◌, None, Result, Ok, Err, length, sym, ap, subst}
use Rattle.sisal_top.specs.Compiled.{HasUnit, IsCompiled}
use Rattle.if1_graph.specs.Lines.{if1_text}
use Rattle.if1_graph.specs.declared.graph.Unit1.{Unit1}
use Rattle.lowering.specs.TooMany.{too_many}
use Rattle.marks_made.specs.Units.{marks_of}
use Rattle.mean_call.specs.declared.fault.Refusal.{Refusal}
use Rattle.mean_call.specs.declared.fault.Refusal.TheVariants as refusal
use Rattle.one_lowering.specs.Laws.{AreLoweredAlike, IsOneLowering}
use Rattle.sisal_top.specs.Calls.{Gives as GivesRun, IsRefused as HasNoTotals}
use Rattle.run_words.specs.declared.command.RunSet.{RunSet}
use Rattle.sisal_tree.specs.declared.unit.Unit as tree
use Rattle.typed_tree.specs.declared.program.Program.{Program}
use Rattle.typed_tree.specs.Units.{IsTyped}
use Rattle.typing_unique.specs.UnitLaws.{AreSpelledOnce, NoProgramLaw}
use Rattle.sisal_top.specs.Totals.{Totals}
use Rattle.sisal_top.specs.Outputs.{lines, totals_if, HasProgram, HasTypeFault, HasTooMany, HasGraphs}
use Rattle.sisal_top.specs.Program.{most_bytes, IsUnitOf, IsRefused}
use Rattle.sisal_top.specs.Status.{of_refusal}
use Rattle.sisal_top.specs.declared.status.Status.{Status}
use Rattle.sisal_top.specs.declared.status.Status.TheVariants as status
use Rattle.sisal_top.specs.declared.status.SyntaxFault.{SyntaxFault}
use Rattle.sisal_check.proofs.Lexed.{tokens_once}
use Rattle.answer_laws.specs.Alike.{same, rules, AreOne}
use Rattle.answer_laws.specs.Laws.{AreGraphsOnce, IsRunOnce}
use Rattle.answer_laws.proofs.Graphs.{within_either}
use Rattle.answer_laws.proofs.Syntaxes.{alike_if, refused_one, long_refused, long_unit}

-- a reply to a text of which graphs are made, by what comes of the graphs
pub data TextReply (bytes : List ℕ) (Rest : Result (List ℕ) Status → Type 0) : Result (List ℕ) Status → Type 0 where
  long : most_bytes < length bytes → TextReply bytes Rest (Err status.TooLong)
  bad : (f : SyntaxFault) → IsRefused bytes f → TextReply bytes Rest (Err (status.Syntax f))
  broken : (rule line : ℕ) → HasTypeFault bytes rule line → TextReply bytes Rest (Err (status.Typing rule line))
  over : (rule line : ℕ) → HasTooMany bytes line → TextReply bytes Rest (Err (status.Typing rule line))
  made : (r : Result (List ℕ) Status) → Rest r → TextReply bytes Rest r

-- what comes of a run of the graphs
pub data RunRest (set : RunSet) (bytes : List ℕ) : Result (List ℕ) Status → Type 0 where
  ran : (out : List ℕ) (u : Unit1) (t : Totals) → HasGraphs bytes u → GivesRun u set t → out ≡ lines t.results ++ totals_if set.stats t → RunRest set bytes (Ok out)
  stopped : (r : Refusal) (s : Status) (u : Unit1) → r ≢ refusal.NoMemory → HasGraphs bytes u → HasNoTotals u set r → of_refusal r ≡ s → RunRest set bytes (Err s)

-- what is compiled
pub data CompileRest (bytes : List ℕ) : Result (List ℕ) Status → Type 0 where
  printed : (out : List ℕ) (p : Program) → HasProgram bytes p → IsCompiled p out → CompileRest bytes (Ok out)

-- a program within the limits
pub record HasMade (bytes : List ℕ) : Type 0 where
  pub program : Program
  pub typed : HasProgram bytes program
  pub within : too_many program ≡ None

module _ (one : (bytes : List ℕ) (u v : tree.Unit) → IsUnitOf bytes u → IsUnitOf bytes v → u ≡ v)
    (refused : (bytes : List ℕ) (u : tree.Unit) (f : SyntaxFault) → IsUnitOf bytes u → IsRefused bytes f → ⊥)
    (no_program : NoProgramLaw) (lowered : IsOneLowering) (graphs : AreGraphsOnce) (bytes : List ℕ) where
  spelled : (u : tree.Unit) → IsUnitOf bytes u → AreSpelledOnce u.tokens.names
  spelled u is = tokens_once bytes u.tokens is.lexed

  broken_program : (rule line : ℕ) (p : Program) → HasTypeFault bytes rule line → HasProgram bytes p → ⊥
  broken_program rule line p b h =
      no_program b.unit rule line p (spelled b.unit b.is) b.breaks (subst (λ u. IsTyped u p) (one bytes h.unit b.unit h.is b.is) h.typed)

  alike : (p q : Program) → HasProgram bytes p → HasProgram bytes q → AreLoweredAlike p q
  alike p q a b =
      lowered b.unit p q (spelled b.unit b.is) (subst (λ u. IsTyped u p) (one bytes a.unit b.unit a.is b.is) a.typed) b.typed a.types b.types

  over_made : (line : ℕ) → HasTooMany bytes line → HasMade bytes → ⊥
  over_made line a b = within_either (too_many a.program) line ((alike a.program b.program a.typed b.typed).limits ∙ b.within) a.over

  unit_moved : (p q : Program) (u : Unit1) → HasProgram bytes p → HasProgram bytes q → HasUnit p u → HasUnit q u
  unit_moved p q u a b h =
      let l = alike p q a b in
      record { within = sym l.limits ∙ h.within; translated = l.units u h.translated; ready = h.ready; normal = h.normal; sound = h.sound }

  -- ---- by what comes of the graphs

  module _ (Rest : Result (List ℕ) Status → Type 0) (rest : (r s : Result (List ℕ) Status) → Rest r → Rest s → AreOne r s) (has : (r : Result (List ℕ) Status) → Rest r → HasMade bytes) where
    pub text_one : (r s : Result (List ℕ) Status) → TextReply bytes Rest r → TextReply bytes Rest s → AreOne r s
    text_one _ _ (long h) (long k) = same
    text_one _ _ (long h) (bad f p) = absurd (long_refused bytes f h p)
    text_one _ _ (long h) (broken rule line b) = absurd (long_unit bytes b.unit h b.is)
    text_one _ _ (long h) (over rule line o) = absurd (long_unit bytes o.typed.unit h o.typed.is)
    text_one _ _ (long h) (made r m) = let x = has r m in absurd (long_unit bytes x.typed.unit h x.typed.is)
    text_one _ _ (bad f p) (long h) = absurd (long_refused bytes f h p)
    text_one _ _ (bad f p) (bad g q) = refused_one bytes f g p q
    text_one _ _ (bad f p) (broken rule line b) = absurd (refused bytes b.unit f b.is p)
    text_one _ _ (bad f p) (over rule line o) = absurd (refused bytes o.typed.unit f o.typed.is p)
    text_one _ _ (bad f p) (made r m) = let x = has r m in absurd (refused bytes x.typed.unit f x.typed.is p)
    text_one _ _ (broken rule line b) (long h) = absurd (long_unit bytes b.unit h b.is)
    text_one _ _ (broken rule line b) (bad f p) = absurd (refused bytes b.unit f b.is p)
    text_one _ _ (broken rule line b) (broken other place c) = rules
    text_one _ _ (broken rule line b) (over other place o) = rules
    text_one _ _ (broken rule line b) (made r m) = let x = has r m in absurd (broken_program rule line x.program b x.typed)
    text_one _ _ (over rule line o) (long h) = absurd (long_unit bytes o.typed.unit h o.typed.is)
    text_one _ _ (over rule line o) (bad f p) = absurd (refused bytes o.typed.unit f o.typed.is p)
    text_one _ _ (over rule line o) (broken other place c) = rules
    text_one _ _ (over rule line o) (over other place c) = rules
    text_one _ _ (over rule line o) (made r m) = absurd (over_made line o (has r m))
    text_one _ _ (made r m) (long h) = let x = has r m in absurd (long_unit bytes x.typed.unit h x.typed.is)
    text_one _ _ (made r m) (bad f p) = let x = has r m in absurd (refused bytes x.typed.unit f x.typed.is p)
    text_one _ _ (made r m) (broken rule line b) = let x = has r m in absurd (broken_program rule line x.program b x.typed)
    text_one _ _ (made r m) (over rule line o) = absurd (over_made line o (has r m))
    text_one _ _ (made r m) (made s n) = rest r s m n

  -- ---- runs

  graphs_one : (u v : Unit1) → HasGraphs bytes u → HasGraphs bytes v → u ≡ v
  graphs_one u v a b =
      a.is ∙ ap marks_of (graphs.units b.program a.unit b.unit (unit_moved a.program b.program a.unit a.typed b.typed a.has) b.has) ∙ sym b.is

  of_graphs : (u : Unit1) → HasGraphs bytes u → HasMade bytes
  of_graphs u a = record { program = a.program; typed = a.typed; within = a.has.within }

  module _ (once : IsRunOnce) (set : RunSet) where
    run_has : (r : Result (List ℕ) Status) → RunRest set bytes r → HasMade bytes
    run_has _ (ran out u t a p e) = of_graphs u a
    run_has _ (stopped r s u n a p e) = of_graphs u a

    run_rest : (r s : Result (List ℕ) Status) → RunRest set bytes r → RunRest set bytes s → AreOne r s
    run_rest _ _ (ran out u s a p d) (ran other v t b q e) =
        d ∙ ap (λ (x : Totals). lines x.results ++ totals_if set.stats x) (once.totals v set s t (subst (λ x. GivesRun x set s) (graphs_one u v a b) p) q) ∙ sym e
    run_rest _ _ (ran out u t a p e) (stopped r s v n b q d) = absurd (n (once.either v set t r (subst (λ x. GivesRun x set t) (graphs_one u v a b) p) q))
    run_rest _ _ (stopped r s u n a p e) (ran out v t b q d) = absurd (n (once.either u set t r (subst (λ x. GivesRun x set t) (graphs_one v u b a) q) p))
    run_rest _ _ (stopped r s u n a p e) (stopped o t v m b q d) =
        alike_if s t (sym e ∙ ap of_refusal (once.refusals v set r o n m (subst (λ x. HasNoTotals x set r) (graphs_one u v a b) p) q) ∙ d)

    pub text_run_one : (r s : Result (List ℕ) Status) → TextReply bytes (RunRest set bytes) r → TextReply bytes (RunRest set bytes) s → AreOne r s
    text_run_one r s p q = text_one (RunRest set bytes) run_rest run_has r s p q

  -- ---- compiled texts

  compile_has : (r : Result (List ℕ) Status) → CompileRest bytes r → HasMade bytes
  compile_has _ (printed out p t c) = record { program = p; typed = t; within = c.has.within }

  compile_rest : (r s : Result (List ℕ) Status) → CompileRest bytes r → CompileRest bytes s → AreOne r s
  compile_rest _ _ (printed out p a c) (printed other q b d) =
      c.is ∙ ap (λ u. if1_text (marks_of u)) (graphs.units q c.unit d.unit (unit_moved p q c.unit a b c.has) d.has) ∙ sym d.is

  pub compile_one : (r s : Result (List ℕ) Status) → TextReply bytes (CompileRest bytes) r → TextReply bytes (CompileRest bytes) s → AreOne r s
  compile_one r s p q = text_one (CompileRest bytes) compile_rest compile_has r s p q
