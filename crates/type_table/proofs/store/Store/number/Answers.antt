use Rattle.std.proofs.Common.{◌≡◌, ◌≤◌, sym, ap, ◌∙◌, subst, arith, position, slice_get, Some, None, length, [], ◌∷◌, ◌++◌}
use Rattle.type_table.specs.Forms.{form_depth}
use Rattle.type_table.specs.Tables.{depths, IsWell}
use Rattle.type_table.specs.Keys.{key_of, has_key}
use Rattle.type_table.proofs.Lists.{seam}
use Rattle.type_table.proofs.Codes.{form_found, with_form-found, with_form-absent}
use Rattle.type_table.proofs.Growth.{well_more}
use Rattle.type_table.proofs.store.Store.number.Goals as goal

pub returns-in-Some-clause-number : goal.returns-in-Some-clause-number
returns-in-Some-clause-number c =
    form_found c.args.form c.args.self.now c.in-Some.number (c.in-Some.ensures ∙ ap (λ key. position (has_key key) c.args.self.now) c.in_ok-key.ensures)

pub returns-in-Some-clause-table : goal.returns-in-Some-clause-table
returns-in-Some-clause-table c =
    sym (with_form-found c.args.form c.args.self.now c.in-Some.number (c.in-Some.ensures ∙ ap (λ key. position (has_key key) c.args.self.now) c.in_ok-key.ensures))

pub returns-clause-number : goal.returns-clause-number
returns-clause-number c =
    ap (λ fs. slice_get fs c.in_ok-number.number) c.in_ok-number.ensures.ok
    ∙ ap (slice_get (c.args.self.now ++ c.args.form ∷ [])) c.in_ok-number.ensures.number
    ∙ seam c.args.self.now c.args.form

pub returns-clause-table : goal.returns-clause-table
returns-clause-table c =
    let none : position (has_key (key_of c.args.form)) c.args.self.now ≡ None =
    sym (ap (λ key. position (has_key key) c.args.self.now) c.in_ok-key.ensures) ∙ sym c.place.ensures ∙ c.in_default.is in
    c.in_ok-number.ensures.ok ∙ sym (with_form-absent c.args.form c.args.self.now none)

pub returns-clause-well : goal.returns-clause-well
returns-clause-well c =
    let none : position (has_key (key_of c.args.form)) c.args.self.now ≡ None =
    sym (ap (λ key. position (has_key key) c.args.self.now) c.in_ok-key.ensures) ∙ sym c.place.ensures ∙ c.in_default.is in
    let shallow : form_depth (depths c.args.self.now) c.args.form ≤ 64 = omega (arith, c.depth_over-depth.ensures.value) in
    let well : IsWell c.args.self.now = subst IsWell c.self.view_is c.self.invariant.well in
    subst IsWell (sym c.in_ok-number.ensures.ok) (well_more c.args.self.now c.args.form well c.requires.parts c.requires.members none shallow)
