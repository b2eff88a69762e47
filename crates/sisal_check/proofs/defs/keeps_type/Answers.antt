use Rattle.std.proofs.Common.{sym, ◌∙◌}
use Rattle.std.proofs.lemmas.Result.{on_ok_weaker}
use Rattle.sisal_check.proofs.Defined.{kept_found, kept_none, retyped_by}
use Rattle.sisal_check.proofs.Forms.{faults_weaker}
use Rattle.sisal_check.proofs.defs.keeps_type.Goals as goal

pub returns-in-Some-loop_value-clause-kept : goal.returns-in-Some-loop_value-clause-kept
returns-in-Some-loop_value-clause-kept c =
    on_ok_weaker c.is_kept.result (kept_found c.args.turn c.in-Some.first c.args.walk.now.names c.args.target.name.name c.args.ty c.in-Some-loop_value.before c.in-Some.is (sym c.loop_value.ensures ∙ c.in-Some-loop_value.is))
    c.is_kept.ensures.kept

pub returns-in-Some-loop_value-clause-breaks : goal.returns-in-Some-loop_value-clause-breaks
returns-in-Some-loop_value-clause-breaks c =
    faults_weaker c.is_kept.result _ _
    (λ rule line q. λ g. retyped_by g c.args.walk.now.types c.args.walk.now.names c.args.turn c.in-Some.first c.args.line c.args.target c.args.ty c.in-Some-loop_value.before rule line c.holds.ensures c.in-Some.is
    (sym c.loop_value.ensures ∙ c.in-Some-loop_value.is) q)
    c.is_kept.ensures.breaks

pub returns-in-None-clause-kept : goal.returns-in-None-clause-kept
returns-in-None-clause-kept c = kept_none c.args.turn c.in-Some.first c.args.walk.now.names c.args.target.name.name c.args.ty c.in-Some.is (sym c.loop_value.ensures ∙ c.in-None.is)
