use Rattle.std.proofs.Common.{◌≡◌, map, sym, subst, ap, ◌∙◌, Some, true, All, slice_get}
use Rattle.unit_types.specs.Headings.{heading_of, has_body, given_functions, AreOwn, IsUndefined}
use Rattle.unit_types.specs.Headers.{AreItems}
use Rattle.unit_types.specs.Rests.{AreTokensSpelled}
use Rattle.typed_tree.specs.Faults.{BreaksUnit}
use Rattle.unit_types.proofs.Naming.{names_moved}
use Rattle.unit_types.proofs.Faults.{passed_on}
use Rattle.unit_types.proofs.Whole.{items_moved, declared, declared_as, undefined_name, broken_header}
use Rattle.unit_types.proofs.declaring.declare_unit.Goals as goal

pub returns-clause-names : goal.returns-clause-names
returns-clause-names c = names_moved _ _ _ _ _ _ _ _ c.as_slice-tokens.ensures c.as_slice.ensures c.finish.ensures.types c.finish.ensures.named c.in_ok-declaring.ensures.names

pub returns-clause-declares : goal.returns-clause-declares
returns-clause-declares c = λ s.
    let unit = c.args.unit.now in
    let d = c.in_ok-declaring.declaring in
    let e = c.in_ok-declaring.ensures in
    let r : AreItems unit unit.items d.types d.named d.functions d.announced
    = items_moved unit c.as_slice-tokens.result.now c.as_slice.result.now d.types d.named d.functions d.announced c.as_slice-tokens.ensures c.as_slice.ensures e.declares s in
    let own : AreOwn unit.tokens.names (map (λ s. s.name) d.functions) = subst (λ l. AreOwn l (map (λ s. s.name) d.functions)) c.as_slice-spellings.ensures e.own in
    let named : map (λ k. slice_get (map (λ s. s.name) d.functions) k) c.in_ok-defines.defines ≡ map (λ n. Some n.name) unit.defines
    = c.in_ok-defines.ensures.named e.numbers ∙ ap (map (λ n. Some n.name)) c.as_slice-2.ensures in
    let bodies : All (λ k. slice_get (map (λ f. has_body f.kind) (given_functions unit.items)) k ≡ Some true) c.in_ok-defines.defines
    = subst (λ l. All (λ k. slice_get l k ≡ Some true) c.in_ok-defines.defines) (e.bodies ∙ ap (λ l. map (λ f. has_body f.kind) (given_functions l)) c.as_slice.ensures) c.in_ok-defines.ensures.bodies in
    declared_as c.finish.ensures.types c.finish.ensures.named c.finish.ensures.functions c.finish.ensures.defines
    (declared unit d.types d.named d.functions d.announced d.numbers c.in_ok-defines.defines e.numbers r own c.in_ok-are_given.ensures.kept named bodies)

pub returns-in_err-declaring-clause-breaks : goal.returns-in_err-declaring-clause-breaks
returns-in_err-declaring-clause-breaks c =
    let unit = c.args.unit.now in
    passed_on c.from_residual.result c.in_err-declaring.field-0.0 c.from_residual.ensures.1
    (λ rule line b s once. b unit
    (record { list = sym c.as_slice-tokens.ensures; names = sym c.as_slice-spellings.ensures; spelled = subst (AreTokensSpelled unit.tokens.names) (sym c.as_slice-tokens.ensures) s })
    (sym c.as_slice.ensures))
    c.in_err-declaring.ensures.breaks

pub returns-in_err-defines-clause-breaks : goal.returns-in_err-defines-clause-breaks
returns-in_err-defines-clause-breaks c =
    let unit = c.args.unit.now in
    let d = c.in_ok-declaring.declaring in
    let e = c.in_ok-declaring.ensures in
    passed_on c.from_residual-in_err-defines.result c.in_err-defines.field-0.0 c.from_residual-in_err-defines.ensures.1
    (λ rule line n s once. subst (λ r. BreaksUnit unit r line) (sym n.0)
    (undefined_name unit d.functions d.numbers d.bodies e.numbers e.own.distinct (e.functions ∙ ap (λ l. map heading_of (given_functions l)) c.as_slice.ensures)
    (e.bodies ∙ ap (λ l. map (λ f. has_body f.kind) (given_functions l)) c.as_slice.ensures) line (subst (λ l. IsUndefined d.numbers d.bodies l line) c.as_slice-2.ensures n.1)))
    c.in_err-defines.ensures.none

pub returns-in_err-are_given-clause-breaks : goal.returns-in_err-are_given-clause-breaks
returns-in_err-are_given-clause-breaks c =
    let unit = c.args.unit.now in
    let d = c.in_ok-declaring.declaring in
    let e = c.in_ok-declaring.ensures in
    passed_on c.from_residual-in_err-are_given.result c.in_err-are_given.field-0.0 c.from_residual-in_err-are_given.ensures.1
    (λ rule line b s once. broken_header unit d.types d.named d.functions d.announced d.numbers e.numbers
    (items_moved unit c.as_slice-tokens.result.now c.as_slice.result.now d.types d.named d.functions d.announced c.as_slice-tokens.ensures c.as_slice.ensures e.declares s)
    e.own.distinct (e.functions ∙ ap (λ l. map heading_of (given_functions l)) c.as_slice.ensures) e.table once rule line b)
    c.in_err-are_given.ensures.broken
