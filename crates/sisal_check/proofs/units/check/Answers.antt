use Rattle.std.proofs.Common.{◌≡◌, ◌≤◌, All, length, map, refl, sym, subst, ap, ◌∙◌}
use Rattle.std.proofs.lemmas.List.{length-map}
use Rattle.text_trees.specs.Spelled.{IsItem}
use Rattle.unit_types.specs.Headings.{has_body, given_functions, heading_of, heading_in}
use Rattle.sisal_check.proofs.Functions.{all_numbered}
use Rattle.sisal_check.proofs.Items.{few_parameters}
use Rattle.sisal_check.specs.Numbered.{AreNumbered}
use Rattle.sisal_check.specs.Headed.{HaveFirst, head_at, head_in}
use Rattle.sisal_check.proofs.Forms.{passed_on}
use Rattle.sisal_check.proofs.Tops.{program_of, stands_of, unit_breaks}
use Rattle.sisal_check.proofs.Whole.{have_all}
use Rattle.sisal_check.proofs.units.check.Goals as goal

pub returns-in_err-functions-clause-breaks : goal.returns-in_err-functions-clause-breaks
returns-in_err-functions-clause-breaks c =
    let u = c.args.unit in
    let d = c.in_ok-types.field-0 in
    passed_on c.from_residual-in_err-functions.result c.in_err-functions.field-0.0 c.from_residual-in_err-functions.ensures.1 _ _
    (λ rule line q text. unit_breaks rule line c.as_slice-4.result.now d.types q u d.named d.numbers d.functions d.defines
    (record { tokens = c.as_slice.ensures; spellings = c.as_slice-2.ensures; named_by = refl; functions = c.as_slice-3.ensures; numbers_by = refl })
    (c.in_ok-types.ensures.declares text.spelled) text c.in_ok-types.ensures.numbers c.in_ok-types.ensures.own.distinct c.as_slice-4.ensures) (c.in_err-functions.ensures.breaks c.new.ensures)

pub returns-clause-typed : goal.returns-clause-typed
returns-clause-typed c = λ text.
    let u = c.args.unit in
    let d = c.in_ok-types.field-0 in
    let fs = c.in_ok-functions.functions in
    let heads : map head_at fs ≡ map head_in d.functions = have_all u.items d.functions fs (subst (λ l. HaveFirst l fs) c.as_slice-3.ensures c.in_ok-functions.ensures.heads)
    (c.in_ok-functions.ensures.bodies ∙ ap (λ l. map (λ f. has_body f.kind) (given_functions l)) c.as_slice-4.ensures) c.in_ok-types.ensures.functions in
    program_of c.functions.new.walk.types c.as_slice-4.result.now fs (c.in_ok-functions.ensures.typed c.new.ensures) u d.types d.named d.numbers d.functions d.defines
    (record { tokens = c.as_slice.ensures; spellings = c.as_slice-2.ensures; named_by = refl; functions = c.as_slice-3.ensures; numbers_by = refl })
    (c.in_ok-types.ensures.declares text.spelled) text c.in_ok-types.ensures.numbers c.in_ok-types.ensures.own.distinct c.as_slice-4.ensures c.in_ok-functions.ensures.used c.holds.ensures heads

pub returns-clause-standing : goal.returns-clause-standing
returns-clause-standing c = λ text.
    let u = c.args.unit in
    let d = c.in_ok-types.field-0 in
    stands_of c.functions.new.walk.types c.as_slice-4.result.now c.in_ok-functions.functions (c.in_ok-functions.ensures.typed c.new.ensures) u d.types d.named d.numbers d.functions d.defines
    (record { tokens = c.as_slice.ensures; spellings = c.as_slice-2.ensures; named_by = refl; functions = c.as_slice-3.ensures; numbers_by = refl })
    (c.in_ok-types.ensures.declares text.spelled) text c.in_ok-types.ensures.numbers c.in_ok-types.ensures.own.distinct c.in_ok-functions.ensures.used

pub invariant_of-given : goal.invariant_of-given
invariant_of-given c =
    let d = c.in_ok-types.field-0 in
    record {
      numbered = subst (λ hs. AreNumbered d.numbers (length hs)) (sym c.as_slice-3.ensures) (all_numbered d.functions d.numbers c.in_ok-types.ensures.numbers);
      results = subst (λ hs. All (λ s. 1 ≤ length s.results) hs) (sym c.as_slice-3.ensures) c.in_ok-types.ensures.results;
      parameters = subst (λ hs. All (λ s. length s.parameters ≤ 4194304) hs) (sym c.as_slice-3.ensures)
          (few_parameters c.args.unit.tokens.list (length c.args.unit.tokens.names) c.args.unit.items d.functions c.requires.text.items c.in_ok-types.ensures.functions);
    }

pub functions-requires-clause-none : goal.functions-requires-clause-none
functions-requires-clause-none c = c.new.ensures

pub functions-requires-clause-room : goal.functions-requires-clause-room
functions-requires-clause-room c =
    let d = c.in_ok-types.field-0 in
    let given = given_functions c.args.unit.items in
    ap (λ l. length (given_functions l)) c.as_slice-4.ensures ∙ sym (length-map given heading_of) ∙ sym (ap length c.in_ok-types.ensures.functions) ∙ length-map d.functions heading_in ∙ sym (ap length c.as_slice-3.ensures)

pub functions-requires-clause-spelled : goal.functions-requires-clause-spelled
functions-requires-clause-spelled c =
    subst (λ l. All (IsItem c.as_slice.result.now (length c.as_slice-2.result.now)) l) (sym c.as_slice-4.ensures)
    (subst (λ l. All (IsItem l (length c.as_slice-2.result.now)) c.args.unit.items) (sym c.as_slice.ensures)
    (subst (λ l. All (IsItem c.args.unit.tokens.list (length l)) c.args.unit.items) (sym c.as_slice-2.ensures) c.requires.text.items))

pub declare-requires : goal.declare-requires
declare-requires c = c.requires.text.items
