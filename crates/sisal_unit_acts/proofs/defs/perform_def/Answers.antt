-- Each arm is one action.
use Rattle.sisal_unit_acts.proofs.defs.perform_def.Goals as goal

pub returns-in-NoDefs : goal.returns-in-NoDefs
returns-in-NoDefs c = rw c.in-NoDefs.is c.no_defs.ensures

pub returns-in-SameDefs : goal.returns-in-SameDefs
returns-in-SameDefs c = rw c.in-SameDefs.is c.same_defs.ensures

pub returns-in-Defs : goal.returns-in-Defs
returns-in-Defs c = rw c.in-Defs.is c.definitions.ensures

pub returns-in-SemiDefs : goal.returns-in-SemiDefs
returns-in-SemiDefs c = rw c.in-SemiDefs.is c.semi_defs.ensures

pub returns-in-OneDef : goal.returns-in-OneDef
returns-in-OneDef c = rw c.in-OneDef.is c.definition.ensures

pub returns-in-NoTargets : goal.returns-in-NoTargets
returns-in-NoTargets c = rw c.in-NoTargets.is c.no_targets.ensures

pub returns-in-MoreTargets : goal.returns-in-MoreTargets
returns-in-MoreTargets c = rw c.in-MoreTargets.is c.more_targets.ensures

pub returns-in-OneTarget : goal.returns-in-OneTarget
returns-in-OneTarget c = rw c.in-OneTarget.is c.one_target.ensures
