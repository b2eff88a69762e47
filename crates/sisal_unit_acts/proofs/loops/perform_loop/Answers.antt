-- Each arm is one action.
use Rattle.sisal_unit_acts.proofs.loops.perform_loop.Goals as goal

pub returns-in-Product : goal.returns-in-Product
returns-in-Product c = rw c.in-Product.is c.product_loop.ensures

pub returns-in-Initial : goal.returns-in-Initial
returns-in-Initial c = rw c.in-Initial.is c.initial_loop.ensures

pub returns-in-NoGroups : goal.returns-in-NoGroups
returns-in-NoGroups c = rw c.in-NoGroups.is c.no_groups.ensures

pub returns-in-MoreGroups : goal.returns-in-MoreGroups
returns-in-MoreGroups c = rw c.in-MoreGroups.is c.more_groups.ensures

pub returns-in-Gens : goal.returns-in-Gens
returns-in-Gens c = rw c.in-Gens.is c.generators.ensures

pub returns-in-NoGens : goal.returns-in-NoGens
returns-in-NoGens c = rw c.in-NoGens.is c.no_generators.ensures

pub returns-in-MoreGens : goal.returns-in-MoreGens
returns-in-MoreGens c = rw c.in-MoreGens.is c.more_generators.ensures

pub returns-in-OneGen : goal.returns-in-OneGen
returns-in-OneGen c = rw c.in-OneGen.is c.generator.ensures

pub returns-in-AtName : goal.returns-in-AtName
returns-in-AtName c = rw c.in-AtName.is c.at_name.ensures

pub returns-in-TestFirst : goal.returns-in-TestFirst
returns-in-TestFirst c = rw c.in-TestFirst.is c.test_first.ensures

pub returns-in-TestLast : goal.returns-in-TestLast
returns-in-TestLast c = rw c.in-TestLast.is c.test_last.ensures

pub returns-in-OneTest : goal.returns-in-OneTest
returns-in-OneTest c = rw c.in-OneTest.is c.one_test.ensures
