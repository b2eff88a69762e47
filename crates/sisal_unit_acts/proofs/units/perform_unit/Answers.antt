-- Each arm is one action.
use Rattle.sisal_unit_acts.proofs.units.perform_unit.Goals as goal

pub returns-in-Whole : goal.returns-in-Whole
returns-in-Whole c = rw c.in-Whole.is c.whole.ensures

pub returns-in-NoNames : goal.returns-in-NoNames
returns-in-NoNames c = rw c.in-NoNames.is c.no_names.ensures

pub returns-in-MoreNames : goal.returns-in-MoreNames
returns-in-MoreNames c = rw c.in-MoreNames.is c.more_names.ensures

pub returns-in-Absent : goal.returns-in-Absent
returns-in-Absent c = rw c.in-Absent.is c.absent.ensures

pub returns-in-Sign : goal.returns-in-Sign
returns-in-Sign c = rw c.in-Sign.is c.sign.ensures

pub returns-in-NoItems : goal.returns-in-NoItems
returns-in-NoItems c = rw c.in-NoItems.is c.no_items.ensures

pub returns-in-MoreItems : goal.returns-in-MoreItems
returns-in-MoreItems c = rw c.in-MoreItems.is c.more_items.ensures

pub returns-in-Alias : goal.returns-in-Alias
returns-in-Alias c = rw c.in-Alias.is c.alias.ensures

pub returns-in-Forward : goal.returns-in-Forward
returns-in-Forward c = rw c.in-Forward.is c.forward_function.ensures

pub returns-in-Global : goal.returns-in-Global
returns-in-Global c = rw c.in-Global.is c.global_function.ensures

pub returns-in-Defined : goal.returns-in-Defined
returns-in-Defined c = rw c.in-Defined.is c.defined_function.ensures

pub returns-in-OneHeader : goal.returns-in-OneHeader
returns-in-OneHeader c = rw c.in-OneHeader.is c.one_header.ensures
