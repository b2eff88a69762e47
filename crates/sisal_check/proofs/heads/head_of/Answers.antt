use Rattle.std.proofs.Common.{Some, sym, ap, subst, ◌∙◌}
use Rattle.std.proofs.lemmas.Result.{IfOk-weaker}
use Rattle.sisal_tree.specs.declared.expr.ExprKind.TheVariants as tree
use Rattle.typed_tree.specs.Typing.{at}
use Rattle.typing_laws.specs.Forming.{IsHead, IsRecordHead, fields_of}
use Rattle.typing_laws.proofs.Headed.{error_head, stream_head, record_head, union_head}
use Rattle.breaking_laws.specs.Broken.{Broken, Misnamed}
use Rattle.breaking_laws.specs.Refusals.{IsUnnamed}
use Rattle.breaking_laws.proofs.FParts.{error_of_breaks}
use Rattle.sisal_check.specs.Walked.{given_of, IsArrayHead, IsErrorHead}
use Rattle.sisal_check.proofs.Forms.{faults_weaker, passed_on, same_kind, replace_head, arrays_head, unnamed, unnamed_form, unnamed_spelled, array_named, stream_named, record_named, union_named}
use Rattle.type_rules.specs.Applies.{HasField}
use Rattle.sisal_check.proofs.Items.{unnamed_field}
use Rattle.sisal_check.proofs.heads.head_of.Goals as goal

pub returns-in_err-type_of-in-Stream-clause-breaks : goal.returns-in_err-type_of-in-Stream-clause-breaks
returns-in_err-type_of-in-Stream-clause-breaks c =
    passed_on c.from_residual-in_err-type_of-in-Stream.result c.in_err-type_of-in-Stream.field-0.0 c.from_residual-in_err-type_of-in-Stream.ensures.1 _ _
    (λ rule line q. unnamed (given_of c.args.given.now) c.args.walk.now.types c.args.walk.now.names c.args.line c.args.kind.now _ c.in-Stream.name c.holds.ensures c.in-Stream.is (stream_named c.in-Stream.name c.in-Stream.field-1) rule line q)
    c.in_err-type_of-in-Stream.ensures.breaks

pub returns-in_err-type_named-in-Union-clause-breaks : goal.returns-in_err-type_named-in-Union-clause-breaks
returns-in_err-type_named-in-Union-clause-breaks c =
    passed_on c.from_residual-in_err-type_named-in-Union.result c.in_err-type_named-in-Union.field-0.0 c.from_residual-in_err-type_named-in-Union.ensures.1 _ _
    (λ rule line q. unnamed (given_of c.args.given.now) c.args.walk.now.types c.args.walk.now.names c.args.line c.args.kind.now _ (Some c.in-Union.name) c.holds.ensures c.in-Union.is (union_named c.in-Union.name c.in-Union.tag c.in-Union.field-2) rule line q)
    c.in_err-type_named-in-Union.ensures.breaks

pub returns-in-ErrorOf-clause-head : goal.returns-in-ErrorOf-clause-head
returns-in-ErrorOf-clause-head c =
    let g = given_of c.args.given.now in
    let f = c.error_of.new.walk.types in
    IfOk-weaker c.error_of.result (λ h. IsErrorHead g f c.in-ErrorOf.written h) (λ h. IsHead g f c.args.kind.now h)
    (λ h q. same_kind g f c.args.kind.now (tree.ErrorOf c.in-ErrorOf.written) h c.in-ErrorOf.is
    (subst (λ r. IsHead g f (tree.ErrorOf c.in-ErrorOf.written) r) (sym q.is) (error_head g f c.in-ErrorOf.written q.type q.denoted))) c.error_of.ensures.head

pub returns-in-ErrorOf-clause-breaks : goal.returns-in-ErrorOf-clause-breaks
returns-in-ErrorOf-clause-breaks c =
    let g = given_of c.args.given.now in
    let f = c.args.walk.now.types in
    faults_weaker c.error_of.result (λ rule line. Misnamed g f c.in-ErrorOf.written rule line) (λ rule line. Broken g f c.args.walk.now.names (at c.args.line c.args.kind.now) rule line)
    (λ rule line q. subst (λ r. Broken g f c.args.walk.now.names (at c.args.line r) rule line) (sym c.in-ErrorOf.is)
    (error_of_breaks g f c.args.walk.now.names c.args.line c.in-ErrorOf.written rule line q)) c.error_of.ensures.breaks

pub returns-in_ok-names_of-in-Replace-clause-head : goal.returns-in_ok-names_of-in-Replace-clause-head
returns-in_ok-names_of-in-Replace-clause-head c =
    let g = given_of c.args.given.now in
    let f = c.args.walk.now.types in
    same_kind g f c.args.kind.now _ _ c.in-Replace.is (replace_head g f _ c.in-Replace.vs c.in_ok-names_of-in-Replace.field-0 (c.in_ok-names_of-in-Replace.ensures.names ∙ ap fields_of c.as_slice.ensures))

pub returns-in_ok-type_of-in-Stream-clause-head : goal.returns-in_ok-type_of-in-Stream-clause-head
returns-in_ok-type_of-in-Stream-clause-head c =
    let g = given_of c.args.given.now in
    let f = c.args.walk.now.types in
    same_kind g f c.args.kind.now _ _ c.in-Stream.is (stream_head g f c.in-Stream.name c.in_ok-type_of-in-Stream.field-0 c.in-Stream.field-1 c.in_ok-type_of-in-Stream.ensures.found)

pub returns-in-Record-clause-head : goal.returns-in-Record-clause-head
returns-in-Record-clause-head c =
    let g = given_of c.args.given.now in
    let f = c.args.walk.now.types in
    IfOk-weaker c.record_of.result (λ h. IsRecordHead g c.in-Record.name c.as_slice-in-Record.result.now h) (λ h. IsHead g f c.args.kind.now h)
    (λ h q. same_kind g f c.args.kind.now (tree.Record c.in-Record.name c.in-Record.vs) h c.in-Record.is
    (record_head g f c.in-Record.name c.in-Record.vs h (subst (λ l. IsRecordHead g c.in-Record.name l h) c.as_slice-in-Record.ensures q))) c.record_of.ensures.head

pub returns-in-Record-clause-breaks : goal.returns-in-Record-clause-breaks
returns-in-Record-clause-breaks c =
    let g = given_of c.args.given.now in
    let f = c.args.walk.now.types in
    faults_weaker c.record_of.result (λ rule line. IsUnnamed g.named c.in-Record.name c.args.line rule line) (λ rule line. Broken g f c.args.walk.now.names (at c.args.line c.args.kind.now) rule line)
    (λ rule line q. unnamed g f c.args.walk.now.names c.args.line c.args.kind.now _ c.in-Record.name c.holds.ensures c.in-Record.is (record_named c.in-Record.name c.in-Record.vs) rule line q)
    c.record_of.ensures.breaks

pub returns-in_ok-type_named-in-Union-clause-head : goal.returns-in_ok-type_named-in-Union-clause-head
returns-in_ok-type_named-in-Union-clause-head c =
    let g = given_of c.args.given.now in
    let f = c.args.walk.now.types in
    same_kind g f c.args.kind.now _ _ c.in-Union.is (union_head g f c.in-Union.name c.in_ok-type_named-in-Union.field-0 c.in-Union.tag c.in-Union.field-2 c.in_ok-type_named-in-Union.ensures.found)

pub returns-in-Array-clause-head : goal.returns-in-Array-clause-head
returns-in-Array-clause-head c =
    let g = given_of c.args.given.now in
    let f = c.args.walk.now.types in
    let x = c.in-Array.name in
    IfOk-weaker c.array_of.result (λ h. IsArrayHead g x c.is_some.result h) (λ h. IsHead g f c.args.kind.now h)
    (λ h q. same_kind g f c.args.kind.now (tree.Array x c.in-Array.elements) h c.in-Array.is
    (arrays_head g f x c.in-Array.elements h (subst (λ b. IsArrayHead g x b h) c.is_some.ensures q))) c.array_of.ensures.head

pub returns-in-Array-clause-breaks : goal.returns-in-Array-clause-breaks
returns-in-Array-clause-breaks c =
    let g = given_of c.args.given.now in
    let f = c.args.walk.now.types in
    faults_weaker c.array_of.result (λ rule line. IsUnnamed g.named c.in-Array.name c.args.line rule line) (λ rule line. Broken g f c.args.walk.now.names (at c.args.line c.args.kind.now) rule line)
    (λ rule line q. unnamed g f c.args.walk.now.names c.args.line c.args.kind.now _ c.in-Array.name c.holds.ensures c.in-Array.is (array_named c.in-Array.name c.in-Array.elements) rule line q)
    c.array_of.ensures.breaks

pub returns-in_default-clause-head : goal.returns-in_default-clause-head
returns-in_default-clause-head c = unnamed_form (given_of c.args.given.now) c.args.walk.now.types c.args.kind.now c.unnamed_head.result c.unnamed_head.ensures

pub returns-in_default-clause-spelled : goal.returns-in_default-clause-spelled
returns-in_default-clause-spelled c = unnamed_spelled c.args.given.now.spellings.now c.args.kind.now c.unnamed_head.result c.unnamed_head.ensures

pub returns-in-ErrorOf-clause-field : goal.returns-in-ErrorOf-clause-field
returns-in-ErrorOf-clause-field c =
    IfOk-weaker c.error_of.result (λ h. IsErrorHead (given_of c.args.given.now) c.error_of.new.walk.types c.in-ErrorOf.written h) HasField (λ h q. subst HasField (sym q.is) tt) c.error_of.ensures.head

pub returns-in_default-clause-field : goal.returns-in_default-clause-field
returns-in_default-clause-field c = unnamed_field c.args.kind.now c.unnamed_head.result c.unnamed_head.ensures
