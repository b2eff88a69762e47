-- Words that are read or refused at the types of the entry.
use Rattle.std.proofs.Common.{◌≡◌, ℕ, List, None}
use Rattle.flow_value.specs.declared.ty.Ty.{Ty}
use Rattle.run_words.specs.declared.command.MeanSet.{MeanSet}
use Rattle.typed_tree.specs.declared.program.Program.{Program}
use Rattle.mean_call.specs.Words.{AreRefused}
use Rattle.mean_call.specs.Calls.{IsEntry, IsRefused, unlinked}
use Rattle.mean_call.specs.declared.fault.ArgumentFault.TheVariants as argument
use Rattle.mean_call.specs.declared.fault.Refusal.{Refusal}
use Rattle.mean_call.specs.declared.fault.Refusal.TheVariants as refusal

pub refused_words : (p : Program) (set : MeanSet) (function : ℕ) (types : List Ty) (e : Refusal) → unlinked p ≡ None → IsEntry p set.entry function types → AreRefused set.values types e → IsRefused p set e
refused_words p set function types (refusal.Unlinked name) linked entry r = absurd r
refused_words p set function types (refusal.Argument argument.Entry) linked entry r = absurd r
refused_words p set function types (refusal.Argument (argument.Count wanted given)) linked entry r = record { linked = linked; function = function; types = types; entry = entry; refused = r }
refused_words p set function types (refusal.Argument (argument.Value k fault)) linked entry r = record { linked = linked; function = function; types = types; entry = entry; refused = r }
refused_words p set function types refusal.TurnLimit linked entry r = absurd r
refused_words p set function types refusal.NoMemory linked entry r = tt
