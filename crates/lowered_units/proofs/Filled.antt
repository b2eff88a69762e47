-- Each record of a table of types has a field, and each union a tag.
use Rattle.std.proofs.Common.{inl, inr, List}
use Rattle.type_table.specs.declared.form.Form.{Form}
use Rattle.type_table.specs.declared.form.Form.TheVariants.{Record, Union}
use Rattle.type_table.specs.Tables.{IsTable}
use Rattle.lowered_units.specs.Fitting.{HaveMembers}

pub have-members : (forms : List Form) → IsTable forms → HaveMembers forms
have-members forms table t ms (inl e) = table.well.members t (Record ms) e
have-members forms table t ms (inr e) = table.well.members t (Union ms) e
