use Rattle.std.proofs.Common.{All, ◌≡◌, ◌≤◌, ◌+◌, arith, [], ◌∷◌, ◌++◌, Some, length, slice_get, ap, sym, subst, ◌∙◌}
use Rattle.std.proofs.lemmas.Result.{on_ok_weaker}
use Rattle.sisal_tree.specs.declared.unit.FunKind.TheVariants as fun
use Rattle.text_trees.proofs.Parts.{spelled_parts}
use Rattle.text_trees.specs.Spelled as text
use Rattle.unit_types.specs.Headings.{given_as}
use Rattle.sisal_check.specs.Walked.{AreBodies, IsBody, IsBodyOf, global, defined, given_behind, header_of}
use Rattle.sisal_check.proofs.Items.{header_few}
use Rattle.sisal_check.proofs.Functions.{bodies_later, one_body_more}
use Rattle.sisal_check.proofs.bodies.add_function.Goals as goal

pub returns-in-Global-clause-typed : goal.returns-in-Global-clause-typed
returns-in-Global-clause-typed c = λ none kinds are.
    let g = c.args.given.now in
    let f = c.args.walk.now.types in
    let s = c.header_at-header.result.now in
    let headers = g.functions.now in
    let old = c.args.all.now in
    let there : slice_get headers (length old) ≡ Some s = ap (λ n. slice_get headers n) (sym c.len.ensures) ∙ c.header_at-header.ensures in
    on_ok_weaker c.add.result (λ p. subst (λ fs. AreBodies g f (kinds ++ given_as c.args.kind.now c.args.kind.now) headers fs) (sym p.2)
    (subst (λ k. AreBodies g f (kinds ++ given_as k k) headers (old ++ p.0 ∷ [])) (sym c.in-Global.is)
    (one_body_more g f fun.Global s p.0 kinds headers old are there (subst (λ b. IsBodyOf (given_behind s.known g) f (header_of s) fun.Global b) (sym p.1) global)))) c.add.ensures.adds

pub returns-in_ok-body-in-Defined-clause-typed : goal.returns-in_ok-body-in-Defined-clause-typed
returns-in_ok-body-in-Defined-clause-typed c = λ none kinds are.
    let g = c.args.given.now in
    let f0 = c.args.walk.now.types in
    let f = c.body.new.walk.types in
    let s = c.header_at-header-in-Defined.result.now in
    let es = c.in-Defined.es in
    let headers = g.functions.now in
    let old = c.args.all.now in
    let there : slice_get headers (length old) ≡ Some s = ap (λ n. slice_get headers n) (sym c.len-in-Defined.ensures) ∙ c.header_at-header-in-Defined.ensures in
    let body = c.in_ok-body-in-Defined.body in
    let here = given_behind s.known g in
    on_ok_weaker c.add-in-Defined.result (λ p. subst (λ fs. AreBodies g f (kinds ++ given_as c.args.kind.now c.args.kind.now) headers fs) (sym p.2)
    (subst (λ k. AreBodies g f (kinds ++ given_as k k) headers (old ++ p.0 ∷ [])) (sym c.in-Defined.is)
    (one_body_more g f (fun.Defined es) s p.0 kinds headers old (bodies_later g f0 f kinds headers old c.in_ok-body-in-Defined.ensures.used.grows are) there
    (subst (λ b. IsBodyOf here f (header_of s) (fun.Defined es) b) (sym p.1)
    (defined (subst (λ l. IsBody here f (header_of s) l body) c.as_slice.ensures (c.in_ok-body-in-Defined.ensures.typed none))))))) c.add-in-Defined.ensures.adds

pub header_at-header-requires : goal.header_at-header-requires
header_at-header-requires c =
    let more : length c.args.all.now + 1 ≤ length c.args.given.now.functions.now =
    subst (λ k. length c.args.all.now + length (given_as k k) ≤ length c.args.given.now.functions.now) c.in-Global.is c.requires.room in
    omega (arith, more, c.len.ensures)

pub header_at-header-requires-in-Defined : goal.header_at-header-requires-in-Defined
header_at-header-requires-in-Defined c =
    let more : length c.args.all.now + 1 ≤ length c.args.given.now.functions.now =
    subst (λ k. length c.args.all.now + length (given_as k k) ≤ length c.args.given.now.functions.now) c.in-Defined.is c.requires.room in
    omega (arith, more, c.len-in-Defined.ensures)

pub body-requires : goal.body-requires
body-requires c =
    let tokens = c.args.given.now.tokens.now in
    let names = length c.args.given.now.spellings.now in
    let es = c.in-Defined.es in
    let p : text.IsBody tokens names (fun.Defined es) = subst (λ k. text.IsBody tokens names k) c.in-Defined.is c.requires.spelled in
    record {
      spelled = λ h le. subst (λ l. All (text.IsSpelled tokens names h) l) (sym c.as_slice.ensures) (spelled_parts.exprs tokens names h es (p.0 h le));
      few = header_few c.args.given.now.functions.now c.len-in-Defined.result c.header_at-header-in-Defined.result.now c.args.given.now.parameters c.header_at-header-in-Defined.ensures;
      none = c.requires.none;
    }
