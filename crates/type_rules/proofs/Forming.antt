-- The numbers of types give what the typing rules say of each form.
use Rattle.std.proofs.Common.{ℕ, List, Option, Some, None}
use Rattle.flow_value.specs.declared.ty.Ty.{Ty}
use Rattle.type_table.specs.declared.form.Form.{Form}
use Rattle.typed_tree.specs.Types.{AreNumbers}
use Rattle.type_rules.specs.declared.head.Head.{Head}
use Rattle.type_rules.specs.declared.head.Head.TheVariants as head
use Rattle.type_rules.specs.declared.head.Outcome.{Outcome}
use Rattle.type_rules.specs.Applies.{applies}
use Rattle.type_rules.specs.Typed.{IsKnown, IsKnownHead, FitsTypes, FormsByType}
use Rattle.type_table.specs.Tables.{IsTable}
use Rattle.type_rules.proofs.Sorted.{sorted_number}
use Rattle.type_rules.proofs.Deep.{as_deep}
use Rattle.type_rules.proofs.Verdicts.{Verdict, v_error, v_errs, v_convert, v_prefix, v_binary, v_select, v_update, v_array, v_empty, v_stream, v_call}
use Rattle.type_rules.proofs.Fielded.{v_tag, v_field, v_union, v_record, v_replace}

fits : (forms : List Form) (names : List (List ℕ)) (table : IsTable forms) (h : Head) (ts : List Ty) (o : Option Outcome) → Verdict forms names h ts o → FitsTypes forms names h ts o
fits forms names table h ts None v = v
fits forms names table h ts (Some o) v = (v.0, v.1, λ after n grows is. sorted_number forms after names grows o.sort n v.0 is v.2, as_deep forms names table o.sort v.0 v.2)

verdict : (forms : List Form) (names : List (List ℕ)) (known : IsKnown forms names) (h : Head) → IsKnownHead forms names h
    → (ns : List ℕ) (ts : List Ty) → AreNumbers forms names ns ts → Verdict forms names h ts (applies forms h ns)
verdict forms names known (head.ErrorOf n) k ns ts p = v_error forms names known n k ns ts p
verdict forms names known (head.Convert c) k ns ts p = v_convert forms names known c ns ts p
verdict forms names known head.IsError k ns ts p = v_errs forms names known ns ts p
verdict forms names known (head.IsTag x) k ns ts p = v_tag forms names known x ns ts p
verdict forms names known (head.Prefix o) k ns ts p = v_prefix forms names known o ns ts p
verdict forms names known (head.Binary o) k ns ts p = v_binary forms names known o ns ts p
verdict forms names known head.Select k ns ts p = v_select forms names known ns ts p
verdict forms names known head.Update k ns ts p = v_update forms names known ns ts p
verdict forms names known (head.Field x) k ns ts p = v_field forms names known x ns ts p
verdict forms names known (head.Replace xs) k ns ts p = v_replace forms names known xs ns ts p
verdict forms names known (head.Array x) k ns ts p = v_array forms names known x ns ts p
verdict forms names known (head.EmptyArray x) k ns ts p = v_empty forms names known x ns ts p
verdict forms names known (head.Stream x) k ns ts p = v_stream forms names known x ns ts p
verdict forms names known (head.Record x xs) k ns ts p = v_record forms names known x xs k ns ts p
verdict forms names known (head.Union n x) k ns ts p = v_union forms names known n x ns ts p
verdict forms names known (head.BuiltIn b) k ns ts p = v_call forms names known b ns ts p

pub forms_by_type : FormsByType
forms_by_type forms names known h k ns ts p = fits forms names known.table h ts (applies forms h ns) (verdict forms names known h k ns ts p)
