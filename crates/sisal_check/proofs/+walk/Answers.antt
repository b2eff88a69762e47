use Rattle.breaking_laws.proofs.FCalls.{refused_call_breaks, uneven_breaks}
use Rattle.breaking_laws.proofs.FFinish.{refused_breaks}
use Rattle.breaking_laws.proofs.FParts.{not_one_breaks, one_breaks, list_breaks, field_breaks, group_breaks, arguments_break, definitions_break, results_break, test_breaks, then_breaks, else_breaks}
use Rattle.breaking_laws.proofs.FPassing.{reach_later}
use Rattle.breaking_laws.proofs.PArms.{arm_results_refused, after_arms, arm_result_added, more_results}
use Rattle.breaking_laws.proofs.PCases.{case_subject_refused, case_no_union_refused, case_arms_refused, case_otherwise_refused, case_no_arm, case_arms_differ, case_otherwise_differs}
use Rattle.breaking_laws.proofs.PClauses.{clause_value_refused, clause_mask_refused, mask_refused, one_clause_refused}
use Rattle.breaking_laws.proofs.PDefs.{targets_twice, after_defs, values_refused, targets_refused}
use Rattle.breaking_laws.proofs.PGenerators.{from_refused, to_refused, source_refused, group_twice, after_groups, product_groups_refused, product_defs_refused, product_clauses_refused}
use Rattle.breaking_laws.proofs.PMade.{made_refused}
use Rattle.breaking_laws.proofs.PTags.{arm_tags_refused}
use Rattle.breaking_laws.proofs.PTurns.{renewing_refused, turn_defs_refused, turn_test_refused, truth_refused, initial_defs_refused, initial_turn_refused, initial_clauses_refused}
use Rattle.breaking_laws.specs.Broken.{Broken, BrokenOne, BrokenIn, BrokenField, BrokenForm, BreaksAt}
use Rattle.breaking_laws.specs.FormLaws as part
use Rattle.breaking_laws.specs.Parts.{BrokenDefs, StandsTwice, IsNoArm, EndsFalse, BrokenTargets, BrokenTurn, BrokenRenewing, BrokenMade, BrokenClauses, BrokenGroups, BrokenValues, BrokenArms, AddsResults}
use Rattle.breaking_laws.specs.Refusals.{NotOne, Refuses, RefusesCall, Uneven}
use Rattle.sisal_check.proofs.+walk.Goals as goal
use Rattle.sisal_check.proofs.+walk.Goals.{cases::tag_case-in-Some+in_ok-last-in-Some, cases::tag_case-in-None+in_ok-name_all-in-None}
use Rattle.sisal_check.proofs.Depths.{of_group, among_groups}
use Rattle.sisal_check.proofs.Items.{item_at, if_some, first_some, first_stays, some_on, none_of, no_levels, levels, levels_more, one_value_more, two_values, finished_some, call_some, product_parts, initial_parts, in_use, defs_next, def_at, targets_levels, group_at, groups_next, generators_levels, keeps_even, content_height}
use Rattle.sisal_check.proofs.Forms.{faults_weaker, passed_on, operand_fault, elements_fault, fields_fault, no_elements, no_error_operands}
use Rattle.sisal_check.proofs.Parts.{whole_at, first_names, group_fails, groups_many, single_of}
use Rattle.sisal_check.specs.Walked.{given_of, parts_of, arms_of, group_of, defined_of, DiffersIn, turned_of}
use Rattle.sisal_tree.proofs.expr.Generator.TheLaws.{the_size}
use Rattle.sisal_tree.specs.declared.expr.ExprKind.TheViews as kinds
use Rattle.sisal_tree.specs.declared.expr.Arm.{out-Arm}
use Rattle.sisal_tree.specs.declared.expr.Clause.{out-Clause}
use Rattle.sisal_tree.specs.declared.expr.Def.{out-Def}
use Rattle.sisal_tree.specs.declared.expr.Elements.{out-Elements}
use Rattle.sisal_tree.specs.declared.expr.ExprKind.TheVariants as tree
use Rattle.sisal_tree.specs.declared.expr.Generator.{out-Generator}
use Rattle.sisal_tree.specs.declared.expr.TagCase.{out-TagCase}
use Rattle.sisal_tree.specs.declared.expr.Turn.{out-Turn}
use Rattle.std.proofs.Common.{All, ◌≤◌, arith, rules, ◌≡◌, [], ◌∷◌, None, refl, sym, ap, subst, ◌∙◌, ◌+◌, ◌++◌, map, take, drop, length, false, Some, true, ◌<◌, get_or}
use Rattle.std.proofs.lemmas.List.{map-append, take_all, drop_all, length-append}
use Rattle.std.specs.Prelude.{IfSome, IsSomeAnd, min}
use Rattle.text_trees.proofs.Parts.{spelled_parts}
use Rattle.text_trees.specs.Parts.{AreLast}
use Rattle.text_trees.specs.Spelled.{IsSpelled, IsArm, AreDefs, IsClause, AreGroups, IsTurn, IsTarget, defs_levels, group_levels, groups_levels, content_levels}
use Rattle.std.proofs.lemmas.Result.{on_ok_weaker}
use Rattle.type_rules.specs.Applies.{Grows}
use Rattle.type_rules.specs.Arms.{are_all_named}
use Rattle.typed_tree.specs.Breaks.{generators_in, line_of}
use Rattle.typed_tree.specs.Scopes.{AreDistinct, targets}
use Rattle.typed_tree.specs.Typing.{at, names_of}
use Rattle.typing_laws.proofs.Called.{call_typed, group_typed, if_typed}
use Rattle.typing_laws.proofs.Cased.{adds_arms_on, an_arm_added, arms_begin, case_typed}
use Rattle.typing_laws.proofs.Crossed.{product_typed, no_values}
use Rattle.typing_laws.proofs.Entering.{one_more_defined, above_on, none_defined}
use Rattle.typing_laws.proofs.Formed.{form_typed}
use Rattle.typing_laws.proofs.Generated.{groups_later, none_generated, one_more_group}
use Rattle.typing_laws.proofs.Headed.{once_distinct}
use Rattle.typing_laws.proofs.Later.{used_same, used_on, grows_on, all_later}
use Rattle.typing_laws.proofs.Leaf.{constant_typed}
use Rattle.typing_laws.proofs.Leaving.{let_typed}
use Rattle.typing_laws.proofs.Listing.{adds_to_none, adds_one, adds_no_more, adds_no_ones}
use Rattle.typing_laws.proofs.Turning.{renewed_typed, initial_typed, renewed_later, test_later, test_typed, turn_later, names_in_order}
use Rattle.typing_laws.proofs.Walking.{ok_two, two_ones, defined_on, array_operands, operands_of, stream_operands, kind_typed, let_left, ok_both, ok_three, single_added, binary_operands, clause_alone, clause_masked, many_more, ones_more, select_operands, taken, turn_left, values_more, generator_added, groups_above, more_ones, replace_operands, generators_more, ok_now, used_as, update_operands}
use Rattle.typing_laws.specs.Casing.{AddsArms, EntersArm, AddsLast, Ends}
use Rattle.typing_laws.specs.Defining.{AllDefined, targets_in, Enters}
use Rattle.typing_laws.specs.Forming.{Operands}
use Rattle.typing_laws.specs.Judged.{AllOnes, AllTyped, IsUsedIn, Adds, Typed}
use Rattle.typing_laws.specs.Looping.{GroupsTyped, AllValues, up_to, AllMade, AllRenewed, IsCrossed, IsTest, TurnTyped, AddsGenerator, AllGenerated, GroupTyped, no_group, index_names}
use Rattle.unit_types.proofs.Lists.{on_ok_from, if_ok_weaker}
use denote.Param.Weighed.{most}

pub generators::groups-one_group-requires : goal.generators::groups-one_group-requires
generators::groups-one_group-requires t c =
    let below : most the_size c.g-item.result ≤ most (of_group the_size) c.args.gs.now =
    among_groups the_size c.args.gs.now c.loop-g.g-index c.g-item.result c.loop-g-test.true c.g-item.is in
    let group = group_at c.args.given.now.tokens.now (length c.args.given.now.spellings.now) c.loop-g.walk.names.height c.args.gs.now c.loop-g.g-index c.g-item.result c.loop-g-test.true c.g-item.is c.loop-g.invariant.spelled in
    (omega (arith, below, c.decreases), (group.0, group.2))

pub cases::each_arm-returns-in_err-one_arm-clause-breaks : goal.cases::each_arm-returns-in_err-one_arm-clause-breaks
cases::each_arm-returns-in_err-one_arm-clause-breaks t c =
    let g = given_of c.args.given.now in
    passed_on c.from_residual.result c.in_err-one_arm.field-0.0 c.from_residual.ensures.1 _ _
    (λ rule line q. subst (λ l. BrokenArms g c.args.walk.now.types c.args.walk.now.names l (arms_of c.args.done.now) rule line) (whole_at c.args.arms.now c.loop-arm.arm-index c.arm-item.result c.loop-arm-test.true c.arm-item.is)
    (after_arms g c.args.walk.now.types c.loop-arm.walk.types c.args.walk.now.names (take c.loop-arm.arm-index c.args.arms.now) c.arm-item.result (drop (c.loop-arm.arm-index + 1) c.args.arms.now)
    (arms_of c.args.done.now) (arms_of c.loop-arm.done) rule line c.loop-arm.invariant.used c.loop-arm.invariant.adds
    (subst (λ n. BrokenArms g c.loop-arm.walk.types n (c.arm-item.result ∷ []) (arms_of c.loop-arm.done) rule line) c.loop-arm.invariant.names q))) c.in_err-one_arm.ensures.breaks

pub cases::one_arm-returns-in_err-enter-clause-breaks : goal.cases::one_arm-returns-in_err-enter-clause-breaks
cases::one_arm-returns-in_err-enter-clause-breaks t c =
    passed_on c.from_residual.result c.in_err-enter.field-0.0 c.from_residual.ensures.1 _ _
    (λ rule line q. arm_tags_refused (given_of c.args.given.now) c.args.walk.now.types c.args.walk.now.names c.args.arm.now (arms_of c.args.done.now) rule line c.holds.ensures
    (subst (λ ts. IsNoArm c.args.walk.now.types (out-Arm c.args.arm.now).line ts (arms_of c.args.done.now) rule line) c.as_slice.ensures q)) c.in_err-enter.ensures.breaks

pub cases::one_arm-returns-in_err-results-clause-breaks : goal.cases::one_arm-returns-in_err-results-clause-breaks
cases::one_arm-returns-in_err-results-clause-breaks t c =
    let g = given_of c.args.given.now in
    passed_on c.from_residual-in_err-results.result c.in_err-results.field-0.0 c.from_residual-in_err-results.ensures.1 _ _
    (λ rule line q. arm_results_refused g c.args.walk.now.types c.args.walk.now.names c.enter.new.walk.names c.args.arm.now (arms_of c.args.done.now) (arms_of c.enter.new.done) rule line
    (subst (λ l. EntersArm c.args.walk.now.types (out-Arm c.args.arm.now).line l (arms_of c.args.done.now) (arms_of c.enter.new.done) c.args.walk.now.names c.enter.new.walk.names) c.as_slice.ensures c.in_ok-enter.ensures.enters) (subst (λ f. BrokenIn g f c.enter.new.walk.names (out-Arm c.args.arm.now).results rule line) c.enter.ensures.types
    (subst (λ es. BrokenIn g c.enter.new.walk.types c.enter.new.walk.names es rule line) c.as_slice-2.ensures q))) c.in_err-results.ensures.breaks

pub cases::one_arm-returns-clause-adds : goal.cases::one_arm-returns-clause-adds
cases::one_arm-returns-clause-adds t c =
    let g = given_of c.args.given.now in
    let n = c.args.walk.now.names in
    let f = c.args.walk.now.types in
    let a = c.args.arm.now in
    let r = c.in_ok-results.results in
    let h = c.all.new.walk.types in
    let inner = c.enter.new.walk.names in
    let old = arms_of c.args.done.now in
    let mid = arms_of c.enter.new.done in
    on_ok_weaker c.keep.result (λ k. an_arm_added g f h n inner a r.exprs r.types old mid (arms_of c.keep.new.done) (subst (λ x. Grows x h) c.in_ok-enter.ensures.types c.in_ok-results.ensures.used.grows)
    (subst (λ l. EntersArm f (out-Arm a).line l old mid n inner) c.as_slice.ensures c.in_ok-enter.ensures.enters) (subst (λ l. AllTyped g h inner l r.exprs r.types) c.as_slice-2.ensures c.in_ok-results.ensures.typed) k) c.keep.ensures.keeps

pub cases::one_arm-returns-clause-results : goal.cases::one_arm-returns-clause-results
cases::one_arm-returns-clause-results t c =
    let g = given_of c.args.given.now in
    let n = c.args.walk.now.names in
    let f = c.args.walk.now.types in
    let a = c.args.arm.now in
    let r = c.in_ok-results.results in
    let h = c.all.new.walk.types in
    let inner = c.enter.new.walk.names in
    let old = arms_of c.args.done.now in
    let mid = arms_of c.enter.new.done in
    ok_two c.keep.result (λ k d. arm_result_added g f h n inner a r.exprs r.types old mid (arms_of c.keep.new.done) (subst (λ x. Grows x h) c.in_ok-enter.ensures.types c.in_ok-results.ensures.used.grows)
    (subst (λ l. EntersArm f (out-Arm a).line l old mid n inner) c.as_slice.ensures c.in_ok-enter.ensures.enters) (subst (λ l. AllTyped g h inner l r.exprs r.types) c.as_slice-2.ensures c.in_ok-results.ensures.typed) k d)
    c.keep.ensures.keeps c.keep.ensures.uneven

pub cases::tag_case-returns-in_err-subject-clause-breaks : goal.cases::tag_case-returns-in_err-subject-clause-breaks
cases::tag_case-returns-in_err-subject-clause-breaks t c =
    let g = given_of c.args.given.now in
    let f = c.args.walk.now.types in
    let n = c.args.walk.now.names in
    passed_on c.from_residual.result c.in_err-subject.field-0.0 c.from_residual.ensures.1 _ _
    (λ rule line q. case_subject_refused g f n c.args.line c.args.cases.now rule line (subst (λ e. BrokenOne g f n e rule line) c.get.ensures q)) c.in_err-subject.ensures.breaks

pub cases::tag_case-returns-in_err-done-clause-breaks : goal.cases::tag_case-returns-in_err-done-clause-breaks
cases::tag_case-returns-in_err-done-clause-breaks t c =
    let g = given_of c.args.given.now in
    let n = c.args.walk.now.names in
    let f = c.args.walk.now.types in
    let h0 = c.only.new.walk.types in
    let cases = c.args.cases.now in
    let s = c.in_ok-subject.subject in
    let subject : AllOnes g h0 n ((out-TagCase cases).subject ∷ []) s.exprs s.types = subst (λ e. AllOnes g h0 n (e ∷ []) s.exprs s.types) c.get.ensures c.in_ok-subject.ensures.typed in
    passed_on c.from_residual-in_err-done.result c.in_err-done.field-0.0 c.from_residual-in_err-done.ensures.1 _ _
    (λ rule line q. case_no_union_refused g f h0 n c.args.line cases (parts_of s) rule line c.in_ok-subject.ensures.used c.holds.ensures subject q) c.in_err-done.ensures.breaks

pub cases::tag_case-returns-in_err-each_arm-clause-breaks : goal.cases::tag_case-returns-in_err-each_arm-clause-breaks
cases::tag_case-returns-in_err-each_arm-clause-breaks t c =
    let g = given_of c.args.given.now in
    let n = c.args.walk.now.names in
    let f = c.args.walk.now.types in
    let h0 = c.only.new.walk.types in
    let cases = c.args.cases.now in
    let s = c.in_ok-subject.subject in
    let subject : AllOnes g h0 n ((out-TagCase cases).subject ∷ []) s.exprs s.types = subst (λ e. AllOnes g h0 n (e ∷ []) s.exprs s.types) c.get.ensures c.in_ok-subject.ensures.typed in
    let same = c.in_ok-subject.ensures.names in
    let arms = (out-TagCase cases).arms in
    let begun = arms_of c.in_ok-done.done in
    let begins = c.in_ok-done.ensures.begins in
    passed_on c.from_residual-in_err-each_arm.result c.in_err-each_arm.field-0.0 c.from_residual-in_err-each_arm.ensures.1 _ _
    (λ rule line q. case_arms_refused g f h0 n c.args.line cases (parts_of s) begun rule line c.in_ok-subject.ensures.used subject begins
    (subst (λ m. BrokenArms g h0 m arms begun rule line) same (subst (λ l. BrokenArms g h0 c.only.new.walk.names l begun rule line) c.as_slice.ensures q))) c.in_err-each_arm.ensures.breaks

pub cases::tag_case-returns-in_err-last-in-Some-clause-breaks : goal.cases::tag_case-returns-in_err-last-in-Some-clause-breaks
cases::tag_case-returns-in_err-last-in-Some-clause-breaks t c =
    let g = given_of c.args.given.now in
    let n = c.args.walk.now.names in
    let f = c.args.walk.now.types in
    let h0 = c.only.new.walk.types in
    let h1 = c.each_arm.new.walk.types in
    let es = c.in-Some.es in
    passed_on c.from_residual-in_err-last-in-Some.result c.in_err-last-in-Some.field-0.0 c.from_residual-in_err-last-in-Some.ensures.1 _ _
    (λ rule line q. case_otherwise_refused g f h1 n c.args.line c.args.cases.now es rule line (used_on g f h0 h1 c.in_ok-subject.ensures.used c.in_ok-each_arm.ensures.used) c.in-Some.is
    (subst (λ m. BrokenIn g h1 m es rule line) (c.in_ok-each_arm.ensures.names ∙ c.in_ok-subject.ensures.names) (subst (λ l. BrokenIn g h1 c.each_arm.new.walk.names l rule line) c.as_slice-in-Some.ensures q)))
    c.in_err-last-in-Some.ensures.breaks

pub cases::tag_case-returns-in_err-name_all-in-None-clause-breaks : goal.cases::tag_case-returns-in_err-name_all-in-None-clause-breaks
cases::tag_case-returns-in_err-name_all-in-None-clause-breaks t c =
    let g = given_of c.args.given.now in
    let n = c.args.walk.now.names in
    let f = c.args.walk.now.types in
    let h0 = c.only.new.walk.types in
    let cases = c.args.cases.now in
    let s = c.in_ok-subject.subject in
    let subject : AllOnes g h0 n ((out-TagCase cases).subject ∷ []) s.exprs s.types = subst (λ e. AllOnes g h0 n (e ∷ []) s.exprs s.types) c.get.ensures c.in_ok-subject.ensures.typed in
    let same = c.in_ok-subject.ensures.names in
    let arms = (out-TagCase cases).arms in
    let begun = arms_of c.in_ok-done.done in
    let begins = c.in_ok-done.ensures.begins in
    let h1 = c.each_arm.new.walk.types in
    let done = arms_of c.each_arm.new.done in
    let now : c.each_arm.new.walk.names ≡ n = c.in_ok-each_arm.ensures.names ∙ same in
    let adds : AddsArms g h0 h1 n arms begun done = subst (λ m. AddsArms g h0 h1 m arms begun done) same (subst (λ l. AddsArms g h0 h1 c.only.new.walk.names l begun done) c.as_slice.ensures c.in_ok-each_arm.ensures.adds) in
    passed_on c.from_residual-in_err-name_all-in-None.result c.in_err-name_all-in-None.field-0.0 c.from_residual-in_err-name_all-in-None.ensures.1 _ _
    (λ rule line q. subst (λ r. Broken g f n (at c.args.line (tree.TagCase cases)) r line) (sym q.0) (subst (λ l. Broken g f n (at c.args.line (tree.TagCase cases)) 18 l) (sym q.1)
    (case_no_arm g f h0 h1 n c.args.line cases (parts_of s) begun done c.in_ok-subject.ensures.used c.in_ok-each_arm.ensures.used c.holds-2.ensures subject begins adds c.in-None.is q.2)))
    c.in_err-name_all-in-None.ensures.breaks

pub cases::tag_case-returns-clause-used : goal.cases::tag_case-returns-clause-used
cases::tag_case-returns-clause-used t c =
    let g = given_of c.args.given.now in
    let n = c.args.walk.now.names in
    let f = c.args.walk.now.types in
    let h0 = c.only.new.walk.types in
    let h1 = c.each_arm.new.walk.types in
    let h2 = c.match-otherwise.walk.types in
    let done = arms_of c.each_arm.new.done in
    let final = arms_of c.match-otherwise.done in
    let cases = c.args.cases.now in
    let used : IsUsedIn g h1 h2 = elim c.match-otherwise.branch [
      | cases::tag_case-in-Some+in_ok-last-in-Some w ↦ subst (λ x. IsUsedIn g h1 x.types) (sym w.walk-is) w.in_ok-last-in-Some.ensures.used
      | cases::tag_case-in-None+in_ok-name_all-in-None w ↦ used_as g h1 h2 (ap (λ x. x.types) w.walk-is)
    ] in
    on_ok_from c.case.result (used_on g f h1 h2 (used_on g f h0 h1 c.in_ok-subject.ensures.used c.in_ok-each_arm.ensures.used) used)

pub cases::tag_case-returns-clause-typed : goal.cases::tag_case-returns-clause-typed
cases::tag_case-returns-clause-typed t c =
    let g = given_of c.args.given.now in
    let n = c.args.walk.now.names in
    let f = c.args.walk.now.types in
    let h0 = c.only.new.walk.types in
    let h1 = c.each_arm.new.walk.types in
    let h2 = c.match-otherwise.walk.types in
    let done = arms_of c.each_arm.new.done in
    let final = arms_of c.match-otherwise.done in
    let cases = c.args.cases.now in
    let used : IsUsedIn g h1 h2 = elim c.match-otherwise.branch [
      | cases::tag_case-in-Some+in_ok-last-in-Some w ↦ subst (λ x. IsUsedIn g h1 x.types) (sym w.walk-is) w.in_ok-last-in-Some.ensures.used
      | cases::tag_case-in-None+in_ok-name_all-in-None w ↦ used_as g h1 h2 (ap (λ x. x.types) w.walk-is)
    ] in
    let s = c.in_ok-subject.subject in
    let begun = arms_of c.in_ok-done.done in
    let arms = (out-TagCase cases).arms in
    let same = c.in_ok-subject.ensures.names in
    let subject : AllOnes g h0 n ((out-TagCase cases).subject ∷ []) s.exprs s.types = subst (λ e. AllOnes g h0 n (e ∷ []) s.exprs s.types) c.get.ensures c.in_ok-subject.ensures.typed in
    let adds : AddsArms g h0 h1 n arms begun done = subst (λ m. AddsArms g h0 h1 m arms begun done) same (subst (λ l. AddsArms g h0 h1 c.only.new.walk.names l begun done) c.as_slice.ensures c.in_ok-each_arm.ensures.adds) in
    let begins = c.in_ok-done.ensures.begins in
    let many : length done.results ≡ length arms = (adds.holds begins.union [] (arms_begin g h0 n (out-TagCase cases).name (parts_of s) begun begins)).count in
    let count : c.len-count.result ≡ length arms = c.len-count.ensures ∙ many in
    let now : c.each_arm.new.walk.names ≡ n = c.in_ok-each_arm.ensures.names ∙ same in
    let ends : Ends g h2 n (out-TagCase cases).otherwise done final = elim c.match-otherwise.branch [
      | cases::tag_case-in-Some+in_ok-last-in-Some w ↦
          let es = w.in-Some.es in
          subst (λ o. Ends g h2 n o done final) (sym w.in-Some.is) (subst (λ m. AddsLast g h2 m es done final) now (subst (λ l. AddsLast g h2 c.each_arm.new.walk.names l done final) w.as_slice-in-Some.ensures
          (subst (λ x. AddsLast g x.types c.each_arm.new.walk.names w.as_slice-in-Some.result.now done final) (sym w.walk-is) (subst (λ x. AddsLast g w.last.new.walk.types c.each_arm.new.walk.names w.as_slice-in-Some.result.now done (arms_of x)) (sym w.done-is) w.in_ok-last-in-Some.ensures.adds))))
      | cases::tag_case-in-None+in_ok-name_all-in-None w ↦ subst (λ o. Ends g h2 n o done final) (sym w.in-None.is)
          (subst (λ x. are_all_named x.types done.union done.chosen ≡ true) (sym w.walk-is) w.in_ok-name_all-in-None.ensures.named, ap arms_of w.done-is)
    ] in
    if_ok_weaker c.case.result (λ t is. case_typed g h0 h1 h2 n c.args.line c.len-count.result cases (parts_of s) begun done final t c.in_ok-each_arm.ensures.used.grows used.grows subject begins adds count ends is) c.case.ensures.is

pub cases::tag_case-returns-clause-breaks : goal.cases::tag_case-returns-clause-breaks
cases::tag_case-returns-clause-breaks t c =
    let g = given_of c.args.given.now in
    let n = c.args.walk.now.names in
    let f = c.args.walk.now.types in
    let h0 = c.only.new.walk.types in
    let cases = c.args.cases.now in
    let s = c.in_ok-subject.subject in
    let subject : AllOnes g h0 n ((out-TagCase cases).subject ∷ []) s.exprs s.types = subst (λ e. AllOnes g h0 n (e ∷ []) s.exprs s.types) c.get.ensures c.in_ok-subject.ensures.typed in
    let same = c.in_ok-subject.ensures.names in
    let arms = (out-TagCase cases).arms in
    let begun = arms_of c.in_ok-done.done in
    let begins = c.in_ok-done.ensures.begins in
    let h1 = c.each_arm.new.walk.types in
    let done = arms_of c.each_arm.new.done in
    let now : c.each_arm.new.walk.names ≡ n = c.in_ok-each_arm.ensures.names ∙ same in
    let adds : AddsArms g h0 h1 n arms begun done = subst (λ m. AddsArms g h0 h1 m arms begun done) same (subst (λ l. AddsArms g h0 h1 c.only.new.walk.names l begun done) c.as_slice.ensures c.in_ok-each_arm.ensures.adds) in
    let h2 = c.match-otherwise.walk.types in
    let final = arms_of c.match-otherwise.done in
    let results : AddsResults g h0 h1 n arms begun done = subst (λ m. AddsResults g h0 h1 m arms begun done) same (subst (λ l. AddsResults g h0 h1 c.only.new.walk.names l begun done) c.as_slice.ensures c.in_ok-each_arm.ensures.results) in
    let refused : final.is_even ≡ false → Broken g f n (at c.args.line (tree.TagCase cases)) 18 c.args.line = elim c.match-otherwise.branch [
      | cases::tag_case-in-Some+in_ok-last-in-Some w ↦
          let es = w.in-Some.es in
          let d : DiffersIn g h2 n es done final = subst (λ m. DiffersIn g h2 m es done final) now (subst (λ l. DiffersIn g h2 c.each_arm.new.walk.names l done final) w.as_slice-in-Some.ensures
          (subst (λ x. DiffersIn g x.types c.each_arm.new.walk.names w.as_slice-in-Some.result.now done final) (sym w.walk-is)
          (subst (λ x. DiffersIn g w.last.new.walk.types c.each_arm.new.walk.names w.as_slice-in-Some.result.now done (arms_of x)) (sym w.done-is) w.in_ok-last-in-Some.ensures.uneven))) in
          case_otherwise_differs g f h0 h1 h2 n c.args.line cases (parts_of s) es d.exprs d.types begun done final c.in_ok-subject.ensures.used c.in_ok-each_arm.ensures.used
          (subst (λ x. IsUsedIn g h1 x.types) (sym w.walk-is) w.in_ok-last-in-Some.ensures.used) c.holds-3.ensures subject begins adds results w.in-Some.is d.typed d.differs
      | cases::tag_case-in-None+in_ok-name_all-in-None w ↦
          (λ uneven. case_arms_differ g f h0 h1 n c.args.line cases (parts_of s) begun done c.in_ok-subject.ensures.used c.in_ok-each_arm.ensures.used c.holds-2.ensures subject begins adds results
          (sym (ap (λ x. x.is_even) w.done-is) ∙ uneven))
    ] in
    faults_weaker c.case.result _ _
    (λ rule line q. subst (λ r. Broken g f n (at c.args.line (tree.TagCase cases)) r line) (sym q.0) (subst (λ l. Broken g f n (at c.args.line (tree.TagCase cases)) 18 l) (sym q.1) (refused q.2)))
    c.case.ensures.breaks

pub clauses::clause_value-returns-in_err-one-clause-breaks : goal.clauses::clause_value-returns-in_err-one-clause-breaks
clauses::clause_value-returns-in_err-one-clause-breaks t c =
    passed_on c.from_residual.result c.in_err-one.field-0.0 c.from_residual.ensures.1 _ _
    (λ rule line q. clause_value_refused (given_of c.args.given.now) c.args.walk.now.types c.args.walk.now.names c.args.c.now rule line q) c.in_err-one.ensures.breaks

pub clauses::clause_value-returns-in_err-one-in-Some-clause-breaks : goal.clauses::clause_value-returns-in_err-one-in-Some-clause-breaks
clauses::clause_value-returns-in_err-one-in-Some-clause-breaks t c =
    let g = given_of c.args.given.now in
    passed_on c.from_residual-in_err-one-in-Some.result c.in_err-one-in-Some.field-0.0 c.from_residual-in_err-one-in-Some.ensures.1 _ _
    (λ rule line q. clause_mask_refused g c.args.walk.now.types c.one.new.walk.types c.args.walk.now.names c.args.c.now c.in-Some.mask rule line c.in_ok-one.ensures.used c.in-Some.is
    (subst (λ n. BrokenOne g c.one.new.walk.types n c.in-Some.mask.test rule line) c.in_ok-one.ensures.names q)) c.in_err-one-in-Some.ensures.breaks

pub clauses::clause_value-returns-in_ok-one-in-Some-clause-used : goal.clauses::clause_value-returns-in_ok-one-in-Some-clause-used
clauses::clause_value-returns-in_ok-one-in-Some-clause-used t c =
    let g = given_of c.args.given.now in
    let n = c.args.walk.now.names in
    let f = c.args.walk.now.types in
    on_ok_from c.end_mask.result (used_on g f c.one.new.walk.types c.one-in-Some.new.walk.types c.in_ok-one.ensures.used c.in_ok-one-in-Some.ensures.used)

pub clauses::clause_value-returns-in_ok-one-in-Some-clause-adds : goal.clauses::clause_value-returns-in_ok-one-in-Some-clause-adds
clauses::clause_value-returns-in_ok-one-in-Some-clause-adds t c =
    let g = given_of c.args.given.now in
    let n = c.args.walk.now.names in
    let f = c.args.walk.now.types in
    ok_two c.end_mask.result (λ types exprs. clause_masked g n c.one.new.walk.types c.one-in-Some.new.walk.types c.one.new.walk.names c.args.c.now c.in-Some.mask
    (parts_of c.args.values.now) (parts_of c.one.new.parts) (parts_of c.one-in-Some.new.parts) (parts_of c.end_mask.new.values) c.in-Some.is c.in_ok-one-in-Some.ensures.used c.in_ok-one.ensures.names
    c.in_ok-one.ensures.adds c.in_ok-one-in-Some.ensures.adds c.in_ok-one-in-Some.ensures.single types exprs) c.end_mask.ensures.types c.end_mask.ensures.exprs

pub clauses::clause_value-returns-in_ok-one-in-Some-clause-breaks : goal.clauses::clause_value-returns-in_ok-one-in-Some-clause-breaks
clauses::clause_value-returns-in_ok-one-in-Some-clause-breaks t c =
    let g = given_of c.args.given.now in
    let f1 = c.one.new.walk.types in
    let f2 = c.one-in-Some.new.walk.types in
    let a = c.in_ok-one-in-Some.ensures.adds in
    faults_weaker c.end_mask.result _ _
    (λ rule line q. mask_refused g c.args.walk.now.types f2 c.args.walk.now.names c.args.c.now c.in-Some.mask a.exprs c.one.new.parts.types a.types rule line
    (used_on g c.args.walk.now.types f1 f2 c.in_ok-one.ensures.used c.in_ok-one-in-Some.ensures.used) c.holds.ensures c.in-Some.is
    (subst (λ n. AllOnes g f2 n (c.in-Some.mask.test ∷ []) a.exprs a.types) c.in_ok-one.ensures.names a.holds) (subst (λ l. EndsFalse l (out-Clause c.args.c.now).line rule line) a.is_types q)) c.end_mask.ensures.breaks

pub clauses::clause_value-returns-in-None-clause-adds : goal.clauses::clause_value-returns-in-None-clause-adds
clauses::clause_value-returns-in-None-clause-adds t c =
    let g = given_of c.args.given.now in
    let n = c.args.walk.now.names in
    let f = c.args.walk.now.types in
    clause_alone g n c.one.new.walk.types c.args.c.now (parts_of c.args.values.now) (parts_of c.one.new.parts) c.in-None.is c.in_ok-one.ensures.adds

pub clauses::clause_values-returns-in_err-clause_value-clause-breaks : goal.clauses::clause_values-returns-in_err-clause_value-clause-breaks
clauses::clause_values-returns-in_err-clause_value-clause-breaks t c =
    let g = given_of c.args.given.now in
    passed_on c.from_residual.result c.in_err-clause_value.field-0.0 c.from_residual.ensures.1 _ _
    (λ rule line q. one_clause_refused g c.args.walk.now.types c.loop-c.walk.types c.args.walk.now.names c.args.cs.now c.c-item.result rule line c.loop-c.invariant.used
    (c.loop-c.c-index, c.loop-c-test.true, sym c.c-item.is) (subst (λ n. BrokenValues g c.loop-c.walk.types n (c.c-item.result ∷ []) rule line) c.loop-c.invariant.names q)) c.in_err-clause_value.ensures.breaks

pub defs::def-returns-in_err-values-clause-breaks : goal.defs::def-returns-in_err-values-clause-breaks
defs::def-returns-in_err-values-clause-breaks t c =
    passed_on c.from_residual.result c.in_err-values.field-0.0 c.from_residual.ensures.1 _ _
    (λ rule line q. values_refused (given_of c.args.given.now) c.args.walk.now.types c.args.walk.now.names c.args.turn c.args.d.now rule line
    (subst (λ es. BrokenIn (given_of c.args.given.now) c.args.walk.now.types c.args.walk.now.names es rule line) c.as_slice.ensures q)) c.in_err-values.ensures.breaks

pub defs::def-returns-clause-adds : goal.defs::def-returns-clause-adds
defs::def-returns-clause-adds t c =
    let g = given_of c.args.given.now in
    let n = c.args.walk.now.names in
    let f = c.args.walk.now.types in
    let v = c.in_ok-values.values in
    let d = c.args.d.now in
    ok_two c.enter.result (λ used enters. record {
      exprs = v.exprs;
      types = v.types;
      typed = all_later g c.all.new.walk.types c.enter.new.walk.types n (out-Def d).values v.exprs v.types used.grows (subst (λ l. AllTyped g c.all.new.walk.types n l v.exprs v.types) c.as_slice.ensures c.in_ok-values.ensures.typed);
      enters = subst (λ m. Enters g c.enter.new.walk.types m c.enter.new.walk.names c.args.turn (out-Def d).targets v.exprs v.types (defined_of c.args.defined.now) (defined_of c.enter.new.defined)) c.in_ok-values.ensures.names
          (subst (λ l. Enters g c.enter.new.walk.types c.all.new.walk.names c.enter.new.walk.names c.args.turn l v.exprs v.types (defined_of c.args.defined.now) (defined_of c.enter.new.defined)) c.as_slice-2.ensures enters);
    }) c.enter.ensures.used c.enter.ensures.enters

pub defs::def-returns-clause-breaks : goal.defs::def-returns-clause-breaks
defs::def-returns-clause-breaks t c =
    let g = given_of c.args.given.now in
    faults_weaker c.enter.result _ _
    (λ rule line q. targets_refused g c.args.walk.now.types c.all.new.walk.types c.args.walk.now.names c.args.turn c.args.d.now c.in_ok-values.values.exprs c.in_ok-values.values.types rule line
    c.in_ok-values.ensures.used (subst (λ es. AllTyped g c.all.new.walk.types c.args.walk.now.names es c.in_ok-values.values.exprs c.in_ok-values.values.types) c.as_slice.ensures c.in_ok-values.ensures.typed)
    (subst (λ n. BrokenTargets g c.all.new.walk.types n c.args.turn (line_of (out-Def c.args.d.now).targets) (out-Def c.args.d.now).targets c.in_ok-values.values.types rule line) c.in_ok-values.ensures.names
    (subst (λ xs. BrokenTargets g c.all.new.walk.types c.all.new.walk.names c.args.turn (line_of xs) xs c.in_ok-values.values.types rule line) c.as_slice-2.ensures q)))
    c.enter.ensures.breaks

pub defs::defs-returns-in_err-distinct-clause-breaks : goal.defs::defs-returns-in_err-distinct-clause-breaks
defs::defs-returns-in_err-distinct-clause-breaks t c =
    passed_on c.from_residual-in_err-distinct.result c.in_err-distinct.field-0.0 c.from_residual-in_err-distinct.ensures.1 _ _
    (λ rule line q. targets_twice (given_of c.args.given.now) c.args.walk.now.types c.args.walk.now.names c.args.turn c.args.ds.now rule line c.holds.ensures
    (subst (λ l. StandsTwice l rule line) (c.as_slice.ensures ∙ c.in_ok-targets.ensures) q)) c.in_err-distinct.ensures.breaks

pub defs::defs-returns-in_err-def-clause-breaks : goal.defs::defs-returns-in_err-def-clause-breaks
defs::defs-returns-in_err-def-clause-breaks t c =
    let g = given_of c.args.given.now in
    let d = c.d-item.result in
    let rest = drop (c.loop-d.d-index + 1) c.args.ds.now in
    passed_on c.from_residual-in_err-def.result c.in_err-def.field-0.0 c.from_residual-in_err-def.ensures.1 _ _
    (λ rule line q. subst (λ l. BrokenDefs g c.args.walk.now.types c.args.walk.now.names c.args.turn l rule line) (whole_at c.args.ds.now c.loop-d.d-index d c.loop-d-test.true c.d-item.is)
    (after_defs g c.args.walk.now.types c.loop-d.walk.types c.args.walk.now.names c.loop-d.walk.names c.args.turn (take c.loop-d.d-index c.args.ds.now) d rest c.loop-d.defined.exprs c.loop-d.defined.types rule line
    c.loop-d.invariant.used c.loop-d.invariant.typed q)) c.in_err-def.ensures.breaks

pub generators::generator-returns-in_err-one-clause-breaks : goal.generators::generator-returns-in_err-one-clause-breaks
generators::generator-returns-in_err-one-clause-breaks t c =
    passed_on c.from_residual.result c.in_err-one.field-0.0 c.from_residual.ensures.1 _ _
    (λ rule line q. from_refused (given_of c.args.given.now) c.args.walk.now.types c.args.walk.now.names c.args.g.now rule line q) c.in_err-one.ensures.breaks

pub generators::generator-returns-in_err-one-clause-front : goal.generators::generator-returns-in_err-one-clause-front
generators::generator-returns-in_err-one-clause-front t c = (_, refl)

pub generators::generator-returns-in_err-one-in-Some-clause-breaks : goal.generators::generator-returns-in_err-one-in-Some-clause-breaks
generators::generator-returns-in_err-one-in-Some-clause-breaks t c =
    let g = given_of c.args.given.now in
    passed_on c.from_residual-in_err-one-in-Some.result c.in_err-one-in-Some.field-0.0 c.from_residual-in_err-one-in-Some.ensures.1 _ _
    (λ rule line q. to_refused g c.args.walk.now.types c.one.new.walk.types c.args.walk.now.names c.args.g.now c.in-Some.to rule line c.in_ok-one.ensures.used c.in-Some.is
    (subst (λ n. BrokenOne g c.one.new.walk.types n c.in-Some.to rule line) c.in_ok-one.ensures.names q)) c.in_err-one-in-Some.ensures.breaks

pub generators::generator-returns-in_err-one-in-Some-clause-front : goal.generators::generator-returns-in_err-one-in-Some-clause-front
generators::generator-returns-in_err-one-in-Some-clause-front t c = (_, refl)

pub generators::generator-returns-in_ok-one-in-Some-clause-used : goal.generators::generator-returns-in_ok-one-in-Some-clause-used
generators::generator-returns-in_ok-one-in-Some-clause-used t c =
    let g = given_of c.args.given.now in
    let n = c.args.walk.now.names in
    let f = c.args.walk.now.types in
    on_ok_from c.keep.result (used_on g f c.one.new.walk.types c.one-in-Some.new.walk.types c.in_ok-one.ensures.used c.in_ok-one-in-Some.ensures.used)

pub generators::generator-returns-in_ok-one-in-Some-clause-adds : goal.generators::generator-returns-in_ok-one-in-Some-clause-adds
generators::generator-returns-in_ok-one-in-Some-clause-adds t c =
    let g = given_of c.args.given.now in
    let n = c.args.walk.now.names in
    let f = c.args.walk.now.types in
    let one = c.args.g.now in
    let h0 = c.one.new.walk.types in
    let first = parts_of c.new-bounds.result in
    let mid = parts_of c.one.new.parts in
    let h = c.one-in-Some.new.walk.types in
    let last = parts_of c.one-in-Some.new.parts in
    let bound : AllOnes g h n ((out-Generator one).from ∷ up_to (out-Generator one).to) last.exprs last.types =
    subst (λ o. AllOnes g h n ((out-Generator one).from ∷ up_to o) last.exprs last.types) (sym c.in-Some.is)
    (adds_to_none first last (AllOnes g h n ((out-Generator one).from ∷ c.in-Some.to ∷ [])) c.new-bounds.ensures.exprs c.new-bounds.ensures.types
    (two_ones g n h0 h c.one.new.walk.names (out-Generator one).from c.in-Some.to first mid last c.in_ok-one-in-Some.ensures.used c.in_ok-one.ensures.names c.in_ok-one.ensures.adds c.in_ok-one-in-Some.ensures.adds)) in
    on_ok_weaker c.keep.result (λ k. generator_added g f h n one last (group_of c.args.made.now) (group_of c.keep.new.made) (used_on g f h0 h c.in_ok-one.ensures.used c.in_ok-one-in-Some.ensures.used) bound k) c.keep.ensures.keeps

pub generators::generator-returns-in_ok-one-in-Some-clause-breaks : goal.generators::generator-returns-in_ok-one-in-Some-clause-breaks
generators::generator-returns-in_ok-one-in-Some-clause-breaks t c =
    let g = given_of c.args.given.now in
    let n = c.args.walk.now.names in
    let f = c.args.walk.now.types in
    let one = c.args.g.now in
    let h0 = c.one.new.walk.types in
    let first = parts_of c.new-bounds.result in
    let mid = parts_of c.one.new.parts in
    let h = c.one-in-Some.new.walk.types in
    let last = parts_of c.one-in-Some.new.parts in
    let bound : AllOnes g h n ((out-Generator one).from ∷ up_to (out-Generator one).to) last.exprs last.types =
    subst (λ o. AllOnes g h n ((out-Generator one).from ∷ up_to o) last.exprs last.types) (sym c.in-Some.is)
    (adds_to_none first last (AllOnes g h n ((out-Generator one).from ∷ c.in-Some.to ∷ [])) c.new-bounds.ensures.exprs c.new-bounds.ensures.types
    (two_ones g n h0 h c.one.new.walk.names (out-Generator one).from c.in-Some.to first mid last c.in_ok-one-in-Some.ensures.used c.in_ok-one.ensures.names c.in_ok-one.ensures.adds c.in_ok-one-in-Some.ensures.adds)) in
    faults_weaker c.keep.result _ _ (λ rule line q. source_refused g f h n one last.exprs last.types rule line (used_on g f h0 h c.in_ok-one.ensures.used c.in_ok-one-in-Some.ensures.used) c.holds.ensures bound q) c.keep.ensures.breaks

pub generators::generator-returns-in-None-clause-adds : goal.generators::generator-returns-in-None-clause-adds
generators::generator-returns-in-None-clause-adds t c =
    let g = given_of c.args.given.now in
    let n = c.args.walk.now.names in
    let f = c.args.walk.now.types in
    let one = c.args.g.now in
    let h0 = c.one.new.walk.types in
    let first = parts_of c.new-bounds.result in
    let mid = parts_of c.one.new.parts in
    let bound : AllOnes g h0 n ((out-Generator one).from ∷ up_to (out-Generator one).to) mid.exprs mid.types =
    subst (λ o. AllOnes g h0 n ((out-Generator one).from ∷ up_to o) mid.exprs mid.types) (sym c.in-None.is)
    (adds_to_none first mid (AllOnes g h0 n ((out-Generator one).from ∷ [])) c.new-bounds.ensures.exprs c.new-bounds.ensures.types c.in_ok-one.ensures.adds) in
    on_ok_weaker c.keep-in-None.result (λ k. generator_added g f h0 n one mid (group_of c.args.made.now) (group_of c.keep-in-None.new.made) c.in_ok-one.ensures.used bound k) c.keep-in-None.ensures.keeps

pub generators::generator-returns-in-None-clause-breaks : goal.generators::generator-returns-in-None-clause-breaks
generators::generator-returns-in-None-clause-breaks t c =
    let g = given_of c.args.given.now in
    let n = c.args.walk.now.names in
    let f = c.args.walk.now.types in
    let one = c.args.g.now in
    let h0 = c.one.new.walk.types in
    let first = parts_of c.new-bounds.result in
    let mid = parts_of c.one.new.parts in
    let bound : AllOnes g h0 n ((out-Generator one).from ∷ up_to (out-Generator one).to) mid.exprs mid.types =
    subst (λ o. AllOnes g h0 n ((out-Generator one).from ∷ up_to o) mid.exprs mid.types) (sym c.in-None.is)
    (adds_to_none first mid (AllOnes g h0 n ((out-Generator one).from ∷ [])) c.new-bounds.ensures.exprs c.new-bounds.ensures.types c.in_ok-one.ensures.adds) in
    faults_weaker c.keep-in-None.result _ _ (λ rule line q. source_refused g f h0 n one mid.exprs mid.types rule line c.in_ok-one.ensures.used c.holds-in-None.ensures bound q) c.keep-in-None.ensures.breaks

pub generators::groups-returns-in_err-made-clause-breaks : goal.generators::groups-returns-in_err-made-clause-breaks
generators::groups-returns-in_err-made-clause-breaks t c =
    let g = given_of c.args.given.now in
    passed_on c.from_residual.result c.in_err-made.field-0.0 c.from_residual.ensures.1 _ _
    (λ rule line q. subst (λ l. BrokenGroups g c.args.walk.now.types c.args.walk.now.names l rule line) (whole_at c.args.gs.now c.loop-g.g-index c.g-item.result c.loop-g-test.true c.g-item.is)
    (after_groups g c.args.walk.now.types c.loop-g.walk.types c.args.walk.now.names c.loop-g.walk.names (take c.loop-g.g-index c.args.gs.now) (map group_of c.loop-g.goes) c.g-item.result
    (drop (c.loop-g.g-index + 1) c.args.gs.now) rule line c.loop-g.invariant.used c.loop-g.invariant.typed q)) c.in_err-made.ensures.breaks

pub generators::one_group-returns-in_err-look_back-clause-breaks : goal.generators::one_group-returns-in_err-look_back-clause-breaks
generators::one_group-returns-in_err-look_back-clause-breaks t c =
    let g = given_of c.args.given.now in
    let n = c.args.walk.now.names in
    let f = c.args.walk.now.types in
    let x = c.g-item.result in
    let made = c.generator-gone.new.made.names in
    let front = c.generator-gone.ensures.front in
    passed_on c.from_residual.result c.in_err-look_back.field-0.0 c.from_residual.ensures.1 _ _
    (λ rule line q. group_fails g f c.loop-g.walk.types n c.loop-g.walk.names c.args.gs.now c.loop-g.g-index x c.loop-g.made.names made front.0 c.generator-gone.result rule line c.loop-g.invariant.used c.holds.ensures
    c.loop-g.invariant.names (subst (λ l. c.loop-g.g-index < length l) c.as_slice-g-items.ensures c.loop-g-test.true) (subst (λ l. x ≡ get_or l c.loop-g.g-index x) c.as_slice-g-items.ensures c.g-item.is) c.loop-g.invariant.front front.1 c.generator-gone.ensures.breaks q) c.in_err-look_back.ensures.breaks

pub lists::fields-returns-in_err-one-clause-breaks : goal.lists::fields-returns-in_err-one-clause-breaks
lists::fields-returns-in_err-one-clause-breaks t c =
    let g = given_of c.args.given.now in
    passed_on c.from_residual.result c.in_err-one.field-0.0 c.from_residual.ensures.1 _ _
    (λ rule line q. field_breaks g c.args.walk.now.types c.loop-v.walk.types c.args.walk.now.names c.args.vs.now c.v-item.result rule line c.loop-v.invariant.used
    (c.loop-v.v-index, c.loop-v-test.true, sym c.v-item.is) (subst (λ n. BrokenOne g c.loop-v.walk.types n c.v-item.result.value rule line) c.loop-v.invariant.names q))
    c.in_err-one.ensures.breaks

pub lists::many-returns-in_err-made-clause-breaks : goal.lists::many-returns-in_err-made-clause-breaks
lists::many-returns-in_err-made-clause-breaks t c =
    let g = given_of c.args.given.now in
    passed_on c.from_residual.result c.in_err-made.field-0.0 c.from_residual.ensures.1 _ _
    (λ rule line q. list_breaks g c.args.walk.now.types c.loop-e.walk.types c.args.walk.now.names c.args.es.now c.e-item.result rule line c.loop-e.invariant.used
    (c.loop-e.e-index, c.loop-e-test.true, sym c.e-item.is) (subst (λ n. Broken g c.loop-e.walk.types n c.e-item.result rule line) c.loop-e.invariant.names q))
    c.in_err-made.ensures.breaks

pub lists::one-returns-in_err-made-clause-breaks : goal.lists::one-returns-in_err-made-clause-breaks
lists::one-returns-in_err-made-clause-breaks t c =
    passed_on c.from_residual.result c.in_err-made.field-0.0 c.from_residual.ensures.1 _ _
    (λ rule line q. one_breaks (given_of c.args.given.now) c.args.walk.now.types c.args.walk.now.names c.args.e.now rule line q) c.in_err-made.ensures.breaks

pub lists::one-returns-clause-adds : goal.lists::one-returns-clause-adds
lists::one-returns-clause-adds t c =
    ok_three c.keep_one.result (λ exprs types one. adds_one (given_of c.args.given.now) c.typed.new.walk.types c.args.walk.now.names c.args.e.now c.in_ok-made.made (parts_of c.args.parts.now) (parts_of c.keep_one.new.parts)
    c.in_ok-made.ensures.typed one exprs types) c.keep_one.ensures.exprs c.keep_one.ensures.types c.keep_one.ensures.one

pub lists::one-returns-clause-breaks : goal.lists::one-returns-clause-breaks
lists::one-returns-clause-breaks t c =
    let g = given_of c.args.given.now in
    faults_weaker c.keep_one.result (λ rule line. NotOne c.in_ok-made.made rule line) (λ rule line. BrokenOne g c.args.walk.now.types c.args.walk.now.names c.args.e.now rule line)
    (λ rule line q. not_one_breaks g c.args.walk.now.types c.typed.new.walk.types c.args.walk.now.names c.args.e.now c.in_ok-made.made rule line c.in_ok-made.ensures.used c.holds.ensures
    c.in_ok-made.ensures.typed c.in_ok-made.ensures.line q) c.keep_one.ensures.breaks

pub loops::looped-returns-in_err-goes-in-Product-clause-breaks : goal.loops::looped-returns-in_err-goes-in-Product-clause-breaks
loops::looped-returns-in_err-goes-in-Product-clause-breaks t c =
    let g = given_of c.args.given.now in
    let f = c.args.walk.now.types in
    let n = c.args.walk.now.names in
    passed_on c.from_residual.result c.in_err-goes-in-Product.field-0.0 c.from_residual.ensures.1 _ _
    (λ rule line q. subst (λ l. Broken g f n (at c.args.line (tree.For l)) rule line) (sym c.in-Product.is)
    (product_groups_refused g f n c.args.line c.in-Product.gs c.in-Product.ds c.in-Product.cs rule line (subst (λ gs. BrokenGroups g f n gs rule line) c.as_slice.ensures q))) c.in_err-goes-in-Product.ensures.breaks

pub loops::looped-returns-in_err-defined-in-Product-clause-breaks : goal.loops::looped-returns-in_err-defined-in-Product-clause-breaks
loops::looped-returns-in_err-defined-in-Product-clause-breaks t c =
    let g = given_of c.args.given.now in
    let f = c.args.walk.now.types in
    let n = c.args.walk.now.names in
    let f1 = c.groups.new.walk.types in
    let now = c.groups.new.walk.names in
    passed_on c.from_residual-in_err-defined-in-Product.result c.in_err-defined-in-Product.field-0.0 c.from_residual-in_err-defined-in-Product.ensures.1 _ _
    (λ rule line q. subst (λ l. Broken g f n (at c.args.line (tree.For l)) rule line) (sym c.in-Product.is)
    (product_defs_refused g f f1 n now c.args.line c.in-Product.gs (map group_of c.in_ok-goes-in-Product.goes) c.in-Product.ds c.in-Product.cs rule line c.in_ok-goes-in-Product.ensures.used
    (subst (λ gs. GroupsTyped g f1 n gs (map group_of c.in_ok-goes-in-Product.goes) now) c.as_slice.ensures c.in_ok-goes-in-Product.ensures.typed)
    (subst (λ ds. BrokenDefs g f1 now None ds rule line) c.as_slice-in-Product.ensures q))) c.in_err-defined-in-Product.ensures.breaks

pub loops::looped-returns-in_err-values-in-Product-clause-breaks : goal.loops::looped-returns-in_err-values-in-Product-clause-breaks
loops::looped-returns-in_err-values-in-Product-clause-breaks t c =
    let g = given_of c.args.given.now in
    let n = c.args.walk.now.names in
    let f = c.args.walk.now.types in
    let h0 = c.groups.new.walk.types in
    let h1 = c.defs.new.walk.types in
    let h2 = c.clause_values.new.walk.types in
    let goes = map group_of c.in_ok-goes-in-Product.goes in
    let d = c.in_ok-defined-in-Product.defined in
    let gs = c.in-Product.gs in
    let ds = c.in-Product.ds in
    let cs = c.in-Product.cs in
    let inside = c.groups.new.walk.names in
    let within = c.defs.new.walk.names in
    let grouped : GroupsTyped g h0 n gs goes inside = subst (λ l. GroupsTyped g h0 n l goes inside) c.as_slice.ensures c.in_ok-goes-in-Product.ensures.typed in
    let defined : AllDefined g h1 inside within None ds d.exprs d.types = subst (λ l. AllDefined g h1 inside within None l d.exprs d.types) c.as_slice-in-Product.ensures c.in_ok-defined-in-Product.ensures.typed in
    passed_on c.from_residual-in_err-values-in-Product.result c.in_err-values-in-Product.field-0.0 c.from_residual-in_err-values-in-Product.ensures.1 _ _
    (λ rule line q. subst (λ l. Broken g f n (at c.args.line (tree.For l)) rule line) (sym c.in-Product.is)
    (product_clauses_refused g f h0 h1 n inside within c.args.line gs goes ds d.exprs d.types cs rule line c.in_ok-goes-in-Product.ensures.used c.in_ok-defined-in-Product.ensures.used grouped defined
    (subst (λ l. BrokenClauses g h1 within (length gs) c.args.line l rule line) c.as_slice-in-Product-2.ensures (q (length gs) c.args.line)))) c.in_err-values-in-Product.ensures.breaks

pub loops::looped-returns-in_err-started-in-Initial-clause-breaks : goal.loops::looped-returns-in_err-started-in-Initial-clause-breaks
loops::looped-returns-in_err-started-in-Initial-clause-breaks t c =
    let g = given_of c.args.given.now in
    let f = c.args.walk.now.types in
    let n = c.args.walk.now.names in
    passed_on c.from_residual-in_err-started-in-Initial.result c.in_err-started-in-Initial.field-0.0 c.from_residual-in_err-started-in-Initial.ensures.1 _ _
    (λ rule line q. subst (λ l. Broken g f n (at c.args.line (tree.For l)) rule line) (sym c.in-Initial.is)
    (initial_defs_refused g f n c.args.line c.in-Initial.ds c.in-Initial.turn c.in-Initial.cs rule line (subst (λ ds. BrokenDefs g f n None ds rule line) c.as_slice-in-Initial.ensures q))) c.in_err-started-in-Initial.ensures.breaks

pub loops::looped-returns-in_err-turned-in-Initial-clause-breaks : goal.loops::looped-returns-in_err-turned-in-Initial-clause-breaks
loops::looped-returns-in_err-turned-in-Initial-clause-breaks t c =
    let g = given_of c.args.given.now in
    let f = c.args.walk.now.types in
    let n = c.args.walk.now.names in
    let f1 = c.defs-in-Initial.new.walk.types in
    let after = c.defs-in-Initial.new.walk.names in
    let started = c.in_ok-started-in-Initial.started in
    passed_on c.from_residual-in_err-turned-in-Initial.result c.in_err-turned-in-Initial.field-0.0 c.from_residual-in_err-turned-in-Initial.ensures.1 _ _
    (λ rule line q. subst (λ l. Broken g f n (at c.args.line (tree.For l)) rule line) (sym c.in-Initial.is)
    (initial_turn_refused g f f1 n after c.args.line c.in-Initial.ds (defined_of started) c.in-Initial.turn c.in-Initial.cs rule line c.in_ok-started-in-Initial.ensures.used
    (subst (λ ds. AllDefined g f1 n after None ds started.exprs started.types) c.as_slice-in-Initial.ensures c.in_ok-started-in-Initial.ensures.typed)
    (c.in_ok-started-in-Initial.ensures.targets ∙ ap targets_in c.as_slice-in-Initial.ensures)
    (subst (λ l. BrokenTurn g f1 after l (defined_of started) c.args.line c.in-Initial.turn rule line) c.height-first.ensures q))) c.in_err-turned-in-Initial.ensures.breaks

pub loops::looped-returns-in_err-values-in-Initial-clause-breaks : goal.loops::looped-returns-in_err-values-in-Initial-clause-breaks
loops::looped-returns-in_err-values-in-Initial-clause-breaks t c =
    let g = given_of c.args.given.now in
    let n = c.args.walk.now.names in
    let f = c.args.walk.now.types in
    let h1 = c.defs-in-Initial.new.walk.types in
    let h2 = c.turn_of.new.walk.types in
    let h3 = c.clause_values-in-Initial.new.walk.types in
    let d = c.in_ok-started-in-Initial.started in
    let ds = c.in-Initial.ds in
    let cs = c.in-Initial.cs in
    let inside = c.defs-in-Initial.new.walk.names in
    let u12 = c.in_ok-turned-in-Initial.ensures.used in
    let defined : AllDefined g h1 n inside None ds d.exprs d.types = subst (λ l. AllDefined g h1 n inside None l d.exprs d.types) c.as_slice-in-Initial.ensures c.in_ok-started-in-Initial.ensures.typed in
    let later : AllDefined g h2 n inside None ds d.exprs d.types = defined_on g h1 h2 n inside None ds d.exprs d.types u12 defined in
    let u02 = used_on g f h1 h2 c.in_ok-started-in-Initial.ensures.used u12 in
    passed_on c.from_residual-in_err-values-in-Initial.result c.in_err-values-in-Initial.field-0.0 c.from_residual-in_err-values-in-Initial.ensures.1 _ _
    (λ rule line q. subst (λ l. Broken g f n (at c.args.line (tree.For l)) rule line) (sym c.in-Initial.is)
    (initial_clauses_refused g f h2 n inside c.args.line ds d.exprs d.types c.in-Initial.turn cs rule line u02 later
    (subst (λ m. BrokenClauses g h2 m 1 c.args.line cs rule line) c.in_ok-turned-in-Initial.ensures.names
    (subst (λ l. BrokenClauses g h2 c.turn_of.new.walk.names 1 c.args.line l rule line) c.as_slice-in-Initial-2.ensures (q 1 c.args.line))))) c.in_err-values-in-Initial.ensures.breaks

pub loops::looped-returns-in_ok-values-in-Product-clause-used : goal.loops::looped-returns-in_ok-values-in-Product-clause-used
loops::looped-returns-in_ok-values-in-Product-clause-used t c =
    let g = given_of c.args.given.now in
    let n = c.args.walk.now.names in
    let f = c.args.walk.now.types in
    let h0 = c.groups.new.walk.types in
    let h1 = c.defs.new.walk.types in
    let h2 = c.clause_values.new.walk.types in
    let h3 = c.product.new.walk.types in
    let goes = map group_of c.in_ok-goes-in-Product.goes in
    let d = c.in_ok-defined-in-Product.defined in
    let v = c.in_ok-values-in-Product.values in
    let gs = c.in-Product.gs in
    let ds = c.in-Product.ds in
    let cs = c.in-Product.cs in
    let inside = c.groups.new.walk.names in
    let within = c.defs.new.walk.names in
    let grouped : GroupsTyped g h0 n gs goes inside = subst (λ l. GroupsTyped g h0 n l goes inside) c.as_slice.ensures c.in_ok-goes-in-Product.ensures.typed in
    on_ok_weaker c.product.result (λ used. used_on g f h2 h3 (used_on g f h1 h2 (used_on g f h0 h1 c.in_ok-goes-in-Product.ensures.used c.in_ok-defined-in-Product.ensures.used) c.in_ok-values-in-Product.ensures.used) used) c.product.ensures.used

pub loops::looped-returns-in_ok-values-in-Product-clause-names : goal.loops::looped-returns-in_ok-values-in-Product-clause-names
loops::looped-returns-in_ok-values-in-Product-clause-names t c =
    let g = given_of c.args.given.now in
    let n = c.args.walk.now.names in
    let f = c.args.walk.now.types in
    let h0 = c.groups.new.walk.types in
    let h1 = c.defs.new.walk.types in
    let h2 = c.clause_values.new.walk.types in
    let h3 = c.product.new.walk.types in
    let goes = map group_of c.in_ok-goes-in-Product.goes in
    let d = c.in_ok-defined-in-Product.defined in
    let v = c.in_ok-values-in-Product.values in
    let gs = c.in-Product.gs in
    let ds = c.in-Product.ds in
    let cs = c.in-Product.cs in
    let inside = c.groups.new.walk.names in
    let within = c.defs.new.walk.names in
    let grouped : GroupsTyped g h0 n gs goes inside = subst (λ l. GroupsTyped g h0 n l goes inside) c.as_slice.ensures c.in_ok-goes-in-Product.ensures.typed in
    let above = above_on n inside within (groups_above g h0 n inside gs goes grouped) c.in_ok-defined-in-Product.ensures.typed.above in
    let back = let_left n within c.clause_values.new.walk.names c.leave.new.self c.mark-outer.result c.leave.ensures c.mark-outer.ensures c.in_ok-values-in-Product.ensures.names above in
    on_ok_weaker c.product.result (λ same. same ∙ back) c.product.ensures.names

pub loops::looped-returns-in_ok-values-in-Product-clause-typed : goal.loops::looped-returns-in_ok-values-in-Product-clause-typed
loops::looped-returns-in_ok-values-in-Product-clause-typed t c =
    let g = given_of c.args.given.now in
    let n = c.args.walk.now.names in
    let f = c.args.walk.now.types in
    let h0 = c.groups.new.walk.types in
    let h1 = c.defs.new.walk.types in
    let h2 = c.clause_values.new.walk.types in
    let h3 = c.product.new.walk.types in
    let goes = map group_of c.in_ok-goes-in-Product.goes in
    let d = c.in_ok-defined-in-Product.defined in
    let v = c.in_ok-values-in-Product.values in
    let gs = c.in-Product.gs in
    let ds = c.in-Product.ds in
    let cs = c.in-Product.cs in
    let inside = c.groups.new.walk.names in
    let within = c.defs.new.walk.names in
    let grouped : GroupsTyped g h0 n gs goes inside = subst (λ l. GroupsTyped g h0 n l goes inside) c.as_slice.ensures c.in_ok-goes-in-Product.ensures.typed in
    let u12 = c.in_ok-values-in-Product.ensures.used in
    let u02 = used_on g h0 h1 h2 c.in_ok-defined-in-Product.ensures.used u12 in
    let defined : AllDefined g h1 inside within None ds d.exprs d.types = subst (λ l. AllDefined g h1 inside within None l d.exprs d.types) c.as_slice-in-Product.ensures c.in_ok-defined-in-Product.ensures.typed in
    let once : AreDistinct (targets ds) = subst (λ l. AreDistinct (targets l)) c.as_slice-in-Product.ensures c.in_ok-defined-in-Product.ensures.distinct in
    let valued : AllValues g h2 within cs v.exprs v.types = subst (λ l. AllValues g h2 within l v.exprs v.types) c.as_slice-in-Product-2.ensures c.in_ok-values-in-Product.ensures.typed in
    if_ok_weaker c.product.result (λ t p. subst (λ l. Typed g h3 n (at c.args.line (tree.For l)) t) (sym c.in-Product.is)
    (product_typed g h3 n c.args.line gs ds cs t (subst (λ l. IsCrossed g h3 n c.args.line gs ds l t) c.as_slice-in-Product-3.ensures
    (p.holds n inside within gs ds (groups_later g h0 h2 n inside gs goes u02.grows grouped) (defined_on g h1 h2 inside within None ds d.exprs d.types u12 defined) once
    (subst (λ l. AllValues g h2 within l v.exprs v.types) (sym c.as_slice-in-Product-3.ensures) valued))))) c.product.ensures.crossed

pub loops::looped-returns-in_ok-values-in-Product-clause-breaks : goal.loops::looped-returns-in_ok-values-in-Product-clause-breaks
loops::looped-returns-in_ok-values-in-Product-clause-breaks t c =
    let g = given_of c.args.given.now in
    let n = c.args.walk.now.names in
    let f = c.args.walk.now.types in
    let h0 = c.groups.new.walk.types in
    let h1 = c.defs.new.walk.types in
    let h2 = c.clause_values.new.walk.types in
    let goes = map group_of c.in_ok-goes-in-Product.goes in
    let d = c.in_ok-defined-in-Product.defined in
    let gs = c.in-Product.gs in
    let ds = c.in-Product.ds in
    let cs = c.in-Product.cs in
    let inside = c.groups.new.walk.names in
    let within = c.defs.new.walk.names in
    let grouped : GroupsTyped g h0 n gs goes inside = subst (λ l. GroupsTyped g h0 n l goes inside) c.as_slice.ensures c.in_ok-goes-in-Product.ensures.typed in
    let defined : AllDefined g h1 inside within None ds d.exprs d.types = subst (λ l. AllDefined g h1 inside within None l d.exprs d.types) c.as_slice-in-Product.ensures c.in_ok-defined-in-Product.ensures.typed in
    let v = c.in_ok-values-in-Product.values in
    let valued : AllValues g h2 within cs v.exprs v.types = subst (λ l. AllValues g h2 within l v.exprs v.types) c.as_slice-in-Product-2.ensures c.in_ok-values-in-Product.ensures.typed in
    faults_weaker c.product.result _ _
    (λ rule line q. subst (λ l. Broken g f n (at c.args.line (tree.For l)) rule line) (sym c.in-Product.is)
    (product_clauses_refused g f h0 h1 n inside within c.args.line gs goes ds d.exprs d.types cs rule line c.in_ok-goes-in-Product.ensures.used c.in_ok-defined-in-Product.ensures.used grouped defined
    (made_refused g h1 h2 within (length gs) c.args.line cs v.exprs v.types rule line c.in_ok-values-in-Product.ensures.used valued
    (subst (λ k. BrokenMade g h2 k c.args.line cs v.types rule line) (groups_many g h0 n gs c.in_ok-goes-in-Product.goes inside grouped)
    (subst (λ l. BrokenMade g h2 (length c.in_ok-goes-in-Product.goes) c.args.line l v.types rule line) c.as_slice-in-Product-3.ensures q))))) c.product.ensures.breaks

pub loops::looped-returns-in_ok-values-in-Initial-clause-used : goal.loops::looped-returns-in_ok-values-in-Initial-clause-used
loops::looped-returns-in_ok-values-in-Initial-clause-used t c =
    let g = given_of c.args.given.now in
    let n = c.args.walk.now.names in
    let f = c.args.walk.now.types in
    let h1 = c.defs-in-Initial.new.walk.types in
    let h2 = c.turn_of.new.walk.types in
    let h3 = c.clause_values-in-Initial.new.walk.types in
    let h4 = c.initial.new.walk.types in
    let d = c.in_ok-started-in-Initial.started in
    let t0 = turned_of c.in_ok-turned-in-Initial.turned in
    let v = c.in_ok-values-in-Initial.values in
    let ds = c.in-Initial.ds in
    let cs = c.in-Initial.cs in
    let inside = c.defs-in-Initial.new.walk.names in
    on_ok_weaker c.initial.result (λ used. used_on g f h3 h4 (used_on g f h2 h3 (used_on g f h1 h2 c.in_ok-started-in-Initial.ensures.used c.in_ok-turned-in-Initial.ensures.used) c.in_ok-values-in-Initial.ensures.used) used) c.initial.ensures.used

pub loops::looped-returns-in_ok-values-in-Initial-clause-names : goal.loops::looped-returns-in_ok-values-in-Initial-clause-names
loops::looped-returns-in_ok-values-in-Initial-clause-names t c =
    let g = given_of c.args.given.now in
    let n = c.args.walk.now.names in
    let f = c.args.walk.now.types in
    let h1 = c.defs-in-Initial.new.walk.types in
    let h2 = c.turn_of.new.walk.types in
    let h3 = c.clause_values-in-Initial.new.walk.types in
    let h4 = c.initial.new.walk.types in
    let d = c.in_ok-started-in-Initial.started in
    let t0 = turned_of c.in_ok-turned-in-Initial.turned in
    let v = c.in_ok-values-in-Initial.values in
    let ds = c.in-Initial.ds in
    let cs = c.in-Initial.cs in
    let inside = c.defs-in-Initial.new.walk.names in
    let back = let_left n inside c.clause_values-in-Initial.new.walk.names c.leave-in-Initial.new.self c.mark-outer.result c.leave-in-Initial.ensures c.mark-outer.ensures
    (c.in_ok-values-in-Initial.ensures.names ∙ c.in_ok-turned-in-Initial.ensures.names) c.in_ok-started-in-Initial.ensures.typed.above in
    on_ok_weaker c.initial.result (λ same. same ∙ back) c.initial.ensures.names

pub loops::looped-returns-in_ok-values-in-Initial-clause-typed : goal.loops::looped-returns-in_ok-values-in-Initial-clause-typed
loops::looped-returns-in_ok-values-in-Initial-clause-typed t c =
    let g = given_of c.args.given.now in
    let n = c.args.walk.now.names in
    let f = c.args.walk.now.types in
    let h1 = c.defs-in-Initial.new.walk.types in
    let h2 = c.turn_of.new.walk.types in
    let h3 = c.clause_values-in-Initial.new.walk.types in
    let h4 = c.initial.new.walk.types in
    let d = c.in_ok-started-in-Initial.started in
    let t0 = turned_of c.in_ok-turned-in-Initial.turned in
    let v = c.in_ok-values-in-Initial.values in
    let ds = c.in-Initial.ds in
    let cs = c.in-Initial.cs in
    let inside = c.defs-in-Initial.new.walk.names in
    let u23 = c.in_ok-values-in-Initial.ensures.used in
    let u13 = used_on g h1 h2 h3 c.in_ok-turned-in-Initial.ensures.used u23 in
    let defined : AllDefined g h1 n inside None ds d.exprs d.types = subst (λ l. AllDefined g h1 n inside None l d.exprs d.types) c.as_slice-in-Initial.ensures c.in_ok-started-in-Initial.ensures.typed in
    let once : AreDistinct (targets ds) = subst (λ l. AreDistinct (targets l)) c.as_slice-in-Initial.ensures c.in_ok-started-in-Initial.ensures.distinct in
    let aims : d.targets ≡ targets_in ds = c.in_ok-started-in-Initial.ensures.targets ∙ ap targets_in c.as_slice-in-Initial.ensures in
    let turned : TurnTyped g h2 inside n.height (defined_of d) c.in-Initial.turn t0 = subst (λ k. TurnTyped g h2 inside k (defined_of d) c.in-Initial.turn t0) c.height-first.ensures c.in_ok-turned-in-Initial.ensures.typed in
    let valued : AllValues g h3 inside cs v.exprs v.types = subst (λ m. AllValues g h3 m cs v.exprs v.types) c.in_ok-turned-in-Initial.ensures.names
    (subst (λ l. AllValues g h3 c.turn_of.new.walk.names l v.exprs v.types) c.as_slice-in-Initial-2.ensures c.in_ok-values-in-Initial.ensures.typed) in
    ok_both c.initial.result (λ t p used. subst (λ l. Typed g h4 n (at c.args.line (tree.For l)) t) (sym c.in-Initial.is)
    (initial_typed g h3 h4 n inside c.args.line ds (defined_of d) c.in-Initial.turn t0 cs v.exprs v.types p.folds t used.grows (defined_on g h1 h3 n inside None ds d.exprs d.types u13 defined) once aims
    (turn_later g h2 h3 inside n.height (defined_of d) c.in-Initial.turn t0 u23.grows turned) valued (subst (λ l. AllMade h4 l true v.types p.folds) c.as_slice-in-Initial-3.ensures p.made) p.is))
    c.initial.ensures.is c.initial.ensures.used

pub loops::looped-returns-in_ok-values-in-Initial-clause-breaks : goal.loops::looped-returns-in_ok-values-in-Initial-clause-breaks
loops::looped-returns-in_ok-values-in-Initial-clause-breaks t c =
    let g = given_of c.args.given.now in
    let n = c.args.walk.now.names in
    let f = c.args.walk.now.types in
    let h1 = c.defs-in-Initial.new.walk.types in
    let h2 = c.turn_of.new.walk.types in
    let h3 = c.clause_values-in-Initial.new.walk.types in
    let d = c.in_ok-started-in-Initial.started in
    let ds = c.in-Initial.ds in
    let cs = c.in-Initial.cs in
    let inside = c.defs-in-Initial.new.walk.names in
    let u12 = c.in_ok-turned-in-Initial.ensures.used in
    let defined : AllDefined g h1 n inside None ds d.exprs d.types = subst (λ l. AllDefined g h1 n inside None l d.exprs d.types) c.as_slice-in-Initial.ensures c.in_ok-started-in-Initial.ensures.typed in
    let later : AllDefined g h2 n inside None ds d.exprs d.types = defined_on g h1 h2 n inside None ds d.exprs d.types u12 defined in
    let u02 = used_on g f h1 h2 c.in_ok-started-in-Initial.ensures.used u12 in
    let v = c.in_ok-values-in-Initial.values in
    let valued : AllValues g h3 inside cs v.exprs v.types = subst (λ m. AllValues g h3 m cs v.exprs v.types) c.in_ok-turned-in-Initial.ensures.names
    (subst (λ l. AllValues g h3 c.turn_of.new.walk.names l v.exprs v.types) c.as_slice-in-Initial-2.ensures c.in_ok-values-in-Initial.ensures.typed) in
    faults_weaker c.initial.result _ _
    (λ rule line q. subst (λ l. Broken g f n (at c.args.line (tree.For l)) rule line) (sym c.in-Initial.is)
    (initial_clauses_refused g f h2 n inside c.args.line ds d.exprs d.types c.in-Initial.turn cs rule line u02 later
    (made_refused g h2 h3 inside 1 c.args.line cs v.exprs v.types rule line c.in_ok-values-in-Initial.ensures.used valued
    (subst (λ l. BrokenMade g h3 1 c.args.line l v.types rule line) c.as_slice-in-Initial-3.ensures q)))) c.initial.ensures.breaks

pub turns::turn_defs-returns-in_err-defined-clause-breaks : goal.turns::turn_defs-returns-in_err-defined-clause-breaks
turns::turn_defs-returns-in_err-defined-clause-breaks t c =
    let g = given_of c.args.given.now in
    let f = c.args.walk.now.types in
    passed_on c.from_residual-in_err-defined.result c.in_err-defined.field-0.0 c.from_residual-in_err-defined.ensures.1 _ _
    (λ rule line q. renewing_refused g f c.args.walk.now.names c.begin.new.walk.names c.args.first (defined_of c.args.started.now) c.args.ds.now rule line c.in_ok-renewed.ensures.names
    (subst (λ h. BrokenDefs g h c.begin.new.walk.names (Some c.args.first) c.args.ds.now rule line) c.begin.ensures.types q)) c.in_err-defined.ensures.breaks

pub turns::turn_defs-returns-clause-names : goal.turns::turn_defs-returns-clause-names
turns::turn_defs-returns-clause-names t c =
    turn_left c.args.walk.now.names c.begin.new.walk.names c.defs.new.walk.names c.leave.new.self c.mark-outer.result c.leave.ensures c.mark-outer.ensures c.in_ok-renewed.ensures.around c.in_ok-defined.ensures.typed.above

pub turns::turn_defs-returns-clause-renewed : goal.turns::turn_defs-returns-clause-renewed
turns::turn_defs-returns-clause-renewed t c =
    let g = given_of c.args.given.now in
    let n = c.args.walk.now.names in
    let f = c.args.walk.now.types in
    let d = c.in_ok-defined.defined in
    renewed_typed g c.defs.new.walk.types n c.begin.new.walk.names c.defs.new.walk.names c.args.first (defined_of c.args.started.now) c.args.ds.now d.exprs d.types c.in_ok-renewed.renewed
    c.in_ok-renewed.ensures.names c.in_ok-renewed.ensures.renewed c.in_ok-defined.ensures.typed c.in_ok-defined.ensures.distinct

pub turns::turn_of-returns-in_err-tests-clause-breaks : goal.turns::turn_of-returns-in_err-tests-clause-breaks
turns::turn_of-returns-in_err-tests-clause-breaks t c =
    let g = given_of c.args.given.now in
    let f = c.args.walk.now.types in
    let n = c.args.walk.now.names in
    passed_on c.from_residual.result c.in_err-tests.field-0.0 c.from_residual.ensures.1 _ _
    (λ rule line q. turn_test_refused g f f n c.args.first (defined_of c.args.started.now) c.args.line c.args.turn.now rule line (used_same g f) (subst (λ e. BrokenOne g f n e rule line) c.get.ensures q)) c.in_err-tests.ensures.breaks

pub turns::turn_of-returns-in_err-test-clause-breaks : goal.turns::turn_of-returns-in_err-test-clause-breaks
turns::turn_of-returns-in_err-test-clause-breaks t c =
    let g = given_of c.args.given.now in
    let f1 = c.only.new.walk.types in
    passed_on c.from_residual-in_err-test.result c.in_err-test.field-0.0 c.from_residual-in_err-test.ensures.1 _ _
    (λ rule line q. truth_refused g c.args.walk.now.types f1 c.args.walk.now.names c.args.first (defined_of c.args.started.now) c.args.line c.args.turn.now c.in_ok-tests.tests.exprs c.in_ok-tests.tests.types rule line
    c.in_ok-tests.ensures.used c.holds.ensures (subst (λ e. AllOnes g f1 c.args.walk.now.names (e ∷ []) c.in_ok-tests.tests.exprs c.in_ok-tests.tests.types) c.get.ensures c.in_ok-tests.ensures.typed) q) c.in_err-test.ensures.breaks

pub turns::turn_of-returns-in_err-renewing-clause-breaks : goal.turns::turn_of-returns-in_err-renewing-clause-breaks
turns::turn_of-returns-in_err-renewing-clause-breaks t c =
    let g = given_of c.args.given.now in
    let f1 = c.only.new.walk.types in
    let n = c.args.walk.now.names in
    let started = defined_of c.args.started.now in
    passed_on c.from_residual-in_err-renewing.result c.in_err-renewing.field-0.0 c.from_residual-in_err-renewing.ensures.1 _ _
    (λ rule line q. turn_defs_refused g c.args.walk.now.types f1 n c.args.first started c.args.line c.args.turn.now rule line c.in_ok-tests.ensures.used
    (subst (λ m. BrokenRenewing g f1 m c.args.first started (out-Turn c.args.turn.now).defs rule line) c.in_ok-tests.ensures.names
    (subst (λ ds. BrokenRenewing g f1 c.only.new.walk.names c.args.first started ds rule line) c.as_slice.ensures q))) c.in_err-renewing.ensures.breaks

pub turns::turn_of-returns-in_err-renewing-2-clause-breaks : goal.turns::turn_of-returns-in_err-renewing-2-clause-breaks
turns::turn_of-returns-in_err-renewing-2-clause-breaks t c =
    let g = given_of c.args.given.now in
    let f = c.args.walk.now.types in
    let n = c.args.walk.now.names in
    let started = defined_of c.args.started.now in
    passed_on c.from_residual-in_err-renewing-2.result c.in_err-renewing-2.field-0.0 c.from_residual-in_err-renewing-2.ensures.1 _ _
    (λ rule line q. turn_defs_refused g f f n c.args.first started c.args.line c.args.turn.now rule line (used_same g f)
    (subst (λ ds. BrokenRenewing g f n c.args.first started ds rule line) c.as_slice-else-is_first.ensures q)) c.in_err-renewing-2.ensures.breaks

pub turns::turn_of-returns-in_err-tests-2-clause-breaks : goal.turns::turn_of-returns-in_err-tests-2-clause-breaks
turns::turn_of-returns-in_err-tests-2-clause-breaks t c =
    let g = given_of c.args.given.now in
    let f1 = c.turn_defs-else-is_first.new.walk.types in
    passed_on c.from_residual-in_err-tests-2.result c.in_err-tests-2.field-0.0 c.from_residual-in_err-tests-2.ensures.1 _ _
    (λ rule line q. turn_test_refused g c.args.walk.now.types f1 c.args.walk.now.names c.args.first (defined_of c.args.started.now) c.args.line c.args.turn.now rule line c.in_ok-renewing-2.ensures.used
    (subst (λ m. BrokenOne g f1 m (out-Turn c.args.turn.now).test rule line) c.in_ok-renewing-2.ensures.names (subst (λ e. BrokenOne g f1 c.turn_defs-else-is_first.new.walk.names e rule line) c.get-else-is_first.ensures q))) c.in_err-tests-2.ensures.breaks

pub turns::turn_of-returns-in_err-test-2-clause-breaks : goal.turns::turn_of-returns-in_err-test-2-clause-breaks
turns::turn_of-returns-in_err-test-2-clause-breaks t c =
    let g = given_of c.args.given.now in
    let f1 = c.turn_defs-else-is_first.new.walk.types in
    let f2 = c.only-else-is_first.new.walk.types in
    passed_on c.from_residual-in_err-test-2.result c.in_err-test-2.field-0.0 c.from_residual-in_err-test-2.ensures.1 _ _
    (λ rule line q. truth_refused g c.args.walk.now.types f2 c.args.walk.now.names c.args.first (defined_of c.args.started.now) c.args.line c.args.turn.now c.in_ok-tests-2.tests.exprs c.in_ok-tests-2.tests.types rule line
    (used_on g c.args.walk.now.types f1 f2 c.in_ok-renewing-2.ensures.used c.in_ok-tests-2.ensures.used) c.holds-else-is_first.ensures
    (subst (λ n. AllOnes g f2 n ((out-Turn c.args.turn.now).test ∷ []) c.in_ok-tests-2.tests.exprs c.in_ok-tests-2.tests.types) c.in_ok-renewing-2.ensures.names
    (subst (λ e. AllOnes g f2 c.turn_defs-else-is_first.new.walk.names (e ∷ []) c.in_ok-tests-2.tests.exprs c.in_ok-tests-2.tests.types) c.get-else-is_first.ensures c.in_ok-tests-2.ensures.typed)) q) c.in_err-test-2.ensures.breaks

pub turns::turn_of-returns-in_ok-renewing-clause-typed : goal.turns::turn_of-returns-in_ok-renewing-clause-typed
turns::turn_of-returns-in_ok-renewing-clause-typed t c =
    let g = given_of c.args.given.now in
    let n = c.args.walk.now.names in
    let f = c.args.walk.now.types in
    let turn = c.args.turn.now in
    let started = defined_of c.args.started.now in
    let h = c.turn_defs.new.walk.types in
    let h0 = c.only.new.walk.types in
    let r = c.in_ok-renewing.renewing in
    let ts = c.in_ok-tests.tests in
    subst (λ x. TurnTyped g h n c.args.first started turn x) (sym c.whole.ensures) (record {
      is_first = sym c.if-is_first.true;
      is_until = refl;
      test = test_later g h0 h n (out-Turn turn).test c.in_ok-test.test c.in_ok-renewing.ensures.used.grows
          (subst (λ l. IsTest g h0 n (out-Turn turn).test l) (sym c.in_ok-test.ensures.exprs)
          (test_typed g h0 n (out-Turn turn).test ts.exprs ts.types (subst (λ e. AllOnes g h0 n (e ∷ []) ts.exprs ts.types) c.get.ensures c.in_ok-tests.ensures.typed) c.in_ok-test.ensures.truth));
      renewed = subst (λ m. AllRenewed g h m c.args.first started (out-Turn turn).defs r.renewed r.exprs) c.in_ok-tests.ensures.names
          (subst (λ l. AllRenewed g h c.only.new.walk.names c.args.first started l r.renewed r.exprs) c.as_slice.ensures c.in_ok-renewing.ensures.renewed);
    })

pub turns::turn_of-returns-in_ok-test-2-clause-typed : goal.turns::turn_of-returns-in_ok-test-2-clause-typed
turns::turn_of-returns-in_ok-test-2-clause-typed t c =
    let g = given_of c.args.given.now in
    let n = c.args.walk.now.names in
    let f = c.args.walk.now.types in
    let turn = c.args.turn.now in
    let started = defined_of c.args.started.now in
    let h0 = c.turn_defs-else-is_first.new.walk.types in
    let h = c.only-else-is_first.new.walk.types in
    let r = c.in_ok-renewing-2.renewing in
    let ts = c.in_ok-tests-2.tests in
    subst (λ x. TurnTyped g h n c.args.first started turn x) (sym c.whole-else-is_first.ensures) (record {
      is_first = sym c.if-is_first.false;
      is_until = refl;
      test = subst (λ l. IsTest g h n (out-Turn turn).test l) (sym c.in_ok-test-2.ensures.exprs)
          (test_typed g h n (out-Turn turn).test ts.exprs ts.types (subst (λ m. AllOnes g h m ((out-Turn turn).test ∷ []) ts.exprs ts.types) c.in_ok-renewing-2.ensures.names
          (subst (λ e. AllOnes g h c.turn_defs-else-is_first.new.walk.names (e ∷ []) ts.exprs ts.types) c.get-else-is_first.ensures c.in_ok-tests-2.ensures.typed)) c.in_ok-test-2.ensures.truth);
      renewed = renewed_later g h0 h n c.args.first started (out-Turn turn).defs r.renewed r.exprs c.in_ok-tests-2.ensures.used.grows
          (subst (λ l. AllRenewed g h0 n c.args.first started l r.renewed r.exprs) c.as_slice-else-is_first.ensures c.in_ok-renewing-2.ensures.renewed);
    })

pub typed::applied-returns-in_err-operands-clause-breaks : goal.typed::applied-returns-in_err-operands-clause-breaks
typed::applied-returns-in_err-operands-clause-breaks t c =
    let g = given_of c.args.given.now in
    passed_on c.from_residual-in_err-operands.result c.in_err-operands.field-0.0 c.from_residual-in_err-operands.ensures.1 _ _
    (λ rule line q. reach_later g c.args.walk.now.types c.head_of.new.walk.types (BreaksAt g c.args.walk.now.names (at c.args.line c.args.kind.now) rule line) c.in_ok-head.ensures.used
    (subst (λ n. Broken g c.head_of.new.walk.types n (at c.args.line c.args.kind.now) rule line) c.in_ok-head.ensures.names (q c.args.line)))
    c.in_err-operands.ensures.breaks

pub typed::applied-returns-clause-used : goal.typed::applied-returns-clause-used
typed::applied-returns-clause-used t c =
    let g = given_of c.args.given.now in
    let n = c.args.walk.now.names in
    let f0 = c.head_of.new.walk.types in
    let f1 = c.operands.new.walk.types in
    let f2 = c.finish.new.walk.types in
    on_ok_weaker c.finish.result (λ u. used_on g c.args.walk.now.types f1 f2 (used_on g c.args.walk.now.types f0 f1 c.in_ok-head.ensures.used c.in_ok-operands.ensures.used) u)
    (c.finish.ensures.used c.in_ok-head.ensures.spelled)

pub typed::applied-returns-clause-typed : goal.typed::applied-returns-clause-typed
typed::applied-returns-clause-typed t c =
    let g = given_of c.args.given.now in
    let n = c.args.walk.now.names in
    let f0 = c.head_of.new.walk.types in
    let f1 = c.operands.new.walk.types in
    let f2 = c.finish.new.walk.types in
    let p = c.operands.new.parts in
    let made : Operands g f1 n c.args.kind.now p.exprs p.types =
    subst (λ m. Operands g f1 m c.args.kind.now p.exprs p.types) c.in_ok-head.ensures.names
    (adds_to_none (parts_of c.new-parts.result) (parts_of p) (Operands g f1 c.head_of.new.walk.names c.args.kind.now) c.new-parts.ensures.exprs c.new-parts.ensures.types c.in_ok-operands.ensures.adds) in
    ok_both c.finish.result (λ u is used. form_typed g f0 f1 f2 n c.args.kind.now c.in_ok-head.head (parts_of p) c.args.line u c.in_ok-head.ensures.head c.in_ok-operands.ensures.used.grows made used.grows is)
    c.finish.ensures.finishes (c.finish.ensures.used c.in_ok-head.ensures.spelled)

pub typed::applied-returns-clause-breaks : goal.typed::applied-returns-clause-breaks
typed::applied-returns-clause-breaks t c =
    let g = given_of c.args.given.now in
    let f0 = c.args.walk.now.types in
    let f1 = c.head_of.new.walk.types in
    let f2 = c.operands.new.walk.types in
    let names = c.args.walk.now.names in
    let made = parts_of c.operands.new.parts in
    let adds = adds_to_none (parts_of c.new-parts.result) made (λ ts ns. Operands g f2 c.head_of.new.walk.names c.args.kind.now ts ns) c.new-parts.ensures.exprs c.new-parts.ensures.types c.in_ok-operands.ensures.adds in
    let operands = subst (λ n. Operands g f2 n c.args.kind.now made.exprs made.types) c.in_ok-head.ensures.names adds in
    faults_weaker c.finish.result (λ rule line. Refuses f2 c.args.line c.in_ok-head.head made.types rule line) (λ rule line. Broken g f0 names (at c.args.line c.args.kind.now) rule line)
    (λ rule line q. refused_breaks g f0 f1 f2 names c.args.kind.now c.in_ok-head.head made c.args.line rule line (used_on g f0 f1 f2 c.in_ok-head.ensures.used c.in_ok-operands.ensures.used) c.holds.ensures
    c.in_ok-head.ensures.head c.in_ok-operands.ensures.used.grows operands c.in_ok-operands.ensures.elements q) c.finish.ensures.breaks

pub typed::plain-returns-in_err-inner-in-Group-clause-breaks : goal.typed::plain-returns-in_err-inner-in-Group-clause-breaks
typed::plain-returns-in_err-inner-in-Group-clause-breaks t c =
    let g = given_of c.args.given.now in
    let f = c.args.walk.now.types in
    let n = c.args.walk.now.names in
    let l = c.args.e.now.line in
    passed_on c.from_residual.result c.in_err-inner-in-Group.field-0.0 c.from_residual.ensures.1 _ _
    (λ rule line q. subst (λ k. Broken g f n (at l k) rule line) (sym c.in-Group.is) (group_breaks g f n l c.in-Group.inner rule line (subst (λ e. Broken g f n e rule line) c.get.ensures q)))
    c.in_err-inner-in-Group.ensures.breaks

pub typed::plain-returns-in_err-operands-in-Call-clause-breaks : goal.typed::plain-returns-in_err-operands-in-Call-clause-breaks
typed::plain-returns-in_err-operands-in-Call-clause-breaks t c =
    let g = given_of c.args.given.now in
    let f = c.args.walk.now.types in
    let n = c.args.walk.now.names in
    let l = c.args.e.now.line in
    passed_on c.from_residual-in_err-operands-in-Call.result c.in_err-operands-in-Call.field-0.0 c.from_residual-in_err-operands-in-Call.ensures.1 _ _
    (λ rule line q. subst (λ k. Broken g f n (at l k) rule line) (sym c.in-Call.is) (arguments_break g f n l c.in-Call.x c.in-Call.es rule line (subst (λ es. BrokenIn g f n es rule line) c.as_slice.ensures q)))
    c.in_err-operands-in-Call.ensures.breaks

pub typed::plain-returns-in_err-defined-in-Let-clause-breaks : goal.typed::plain-returns-in_err-defined-in-Let-clause-breaks
typed::plain-returns-in_err-defined-in-Let-clause-breaks t c =
    let g = given_of c.args.given.now in
    let f = c.args.walk.now.types in
    let n = c.args.walk.now.names in
    let l = c.args.e.now.line in
    passed_on c.from_residual-in_err-defined-in-Let.result c.in_err-defined-in-Let.field-0.0 c.from_residual-in_err-defined-in-Let.ensures.1 _ _
    (λ rule line q. subst (λ k. Broken g f n (at l k) rule line) (sym c.in-Let.is)
    (definitions_break g f n l c.in-Let.ds c.in-Let.es rule line (subst (λ ds. BrokenDefs g f n None ds rule line) c.as_slice-in-Let.ensures q)))
    c.in_err-defined-in-Let.ensures.breaks

pub typed::plain-returns-in_err-results-in-Let-clause-breaks : goal.typed::plain-returns-in_err-results-in-Let-clause-breaks
typed::plain-returns-in_err-results-in-Let-clause-breaks t c =
    let g = given_of c.args.given.now in
    let f = c.args.walk.now.types in
    let n = c.args.walk.now.names in
    let f1 = c.defs.new.walk.types in
    let inside = c.defs.new.walk.names in
    let l = c.args.e.now.line in
    let d = c.in_ok-defined-in-Let.defined in
    passed_on c.from_residual-in_err-results-in-Let.result c.in_err-results-in-Let.field-0.0 c.from_residual-in_err-results-in-Let.ensures.1 _ _
    (λ rule line q. subst (λ k. Broken g f n (at l k) rule line) (sym c.in-Let.is)
    (results_break g f f1 n inside l c.in-Let.ds c.in-Let.es d.exprs d.types rule line c.in_ok-defined-in-Let.ensures.used
    (subst (λ ds. AllDefined g f1 n inside None ds d.exprs d.types) c.as_slice-in-Let.ensures c.in_ok-defined-in-Let.ensures.typed)
    (subst (λ es. BrokenIn g f1 inside es rule line) c.as_slice-in-Let-2.ensures q)))
    c.in_err-results-in-Let.ensures.breaks

pub typed::plain-returns-in_err-test-in-If-clause-breaks : goal.typed::plain-returns-in_err-test-in-If-clause-breaks
typed::plain-returns-in_err-test-in-If-clause-breaks t c =
    let g = given_of c.args.given.now in
    let f = c.args.walk.now.types in
    let n = c.args.walk.now.names in
    let l = c.args.e.now.line in
    passed_on c.from_residual-in_err-test-in-If.result c.in_err-test-in-If.field-0.0 c.from_residual-in_err-test-in-If.ensures.1 _ _
    (λ rule line q. subst (λ k. Broken g f n (at l k) rule line) (sym c.in-If.is)
    (test_breaks g f n l c.in-If.test c.in-If.then c.in-If.otherwise rule line (subst (λ e. BrokenOne g f n e rule line) c.get-in-If.ensures q)))
    c.in_err-test-in-If.ensures.breaks

pub typed::plain-returns-in_err-then-in-If-clause-breaks : goal.typed::plain-returns-in_err-then-in-If-clause-breaks
typed::plain-returns-in_err-then-in-If-clause-breaks t c =
    let g = given_of c.args.given.now in
    let f = c.args.walk.now.types in
    let f1 = c.only.new.walk.types in
    let n = c.args.walk.now.names in
    let l = c.args.e.now.line in
    passed_on c.from_residual-in_err-then-in-If.result c.in_err-then-in-If.field-0.0 c.from_residual-in_err-then-in-If.ensures.1 _ _
    (λ rule line q. subst (λ k. Broken g f n (at l k) rule line) (sym c.in-If.is)
    (then_breaks g f f1 n l c.in-If.test c.in-If.then c.in-If.otherwise rule line c.in_ok-test-in-If.ensures.used
    (subst (λ m. BrokenIn g f1 m c.in-If.then rule line) c.in_ok-test-in-If.ensures.names (subst (λ es. BrokenIn g f1 c.only.new.walk.names es rule line) c.as_slice-in-If.ensures q))))
    c.in_err-then-in-If.ensures.breaks

pub typed::plain-returns-in_err-otherwise-in-If-clause-breaks : goal.typed::plain-returns-in_err-otherwise-in-If-clause-breaks
typed::plain-returns-in_err-otherwise-in-If-clause-breaks t c =
    let g = given_of c.args.given.now in
    let f = c.args.walk.now.types in
    let f1 = c.only.new.walk.types in
    let f2 = c.all-in-If.new.walk.types in
    let n = c.args.walk.now.names in
    let l = c.args.e.now.line in
    passed_on c.from_residual-in_err-otherwise-in-If.result c.in_err-otherwise-in-If.field-0.0 c.from_residual-in_err-otherwise-in-If.ensures.1 _ _
    (λ rule line q. subst (λ k. Broken g f n (at l k) rule line) (sym c.in-If.is)
    (else_breaks g f f2 n l c.in-If.test c.in-If.then c.in-If.otherwise rule line (used_on g f f1 f2 c.in_ok-test-in-If.ensures.used c.in_ok-then-in-If.ensures.used)
    (subst (λ m. BrokenIn g f2 m c.in-If.otherwise rule line) (c.in_ok-then-in-If.ensures.names ∙ c.in_ok-test-in-If.ensures.names)
    (subst (λ es. BrokenIn g f2 c.all-in-If.new.walk.names es rule line) c.as_slice-in-If-2.ensures q))))
    c.in_err-otherwise-in-If.ensures.breaks

pub typed::plain-returns-in-Constant-clause-typed : goal.typed::plain-returns-in-Constant-clause-typed
typed::plain-returns-in-Constant-clause-typed t c =
    let g = given_of c.args.given.now in
    let n = c.args.walk.now.names in
    let e = c.args.e.now in
    let f = c.args.walk.now.types in
    if_ok_weaker c.constant.result (λ u is. kind_typed g f n e (tree.Constant c.in-Constant.c) u c.in-Constant.is (constant_typed g f n e.line c.in-Constant.c u is)) c.constant.ensures.is

pub typed::plain-returns-in_ok-inner-in-Group-clause-typed : goal.typed::plain-returns-in_ok-inner-in-Group-clause-typed
typed::plain-returns-in_ok-inner-in-Group-clause-typed t c =
    let g = given_of c.args.given.now in
    let n = c.args.walk.now.names in
    let e = c.args.e.now in
    let f = c.typed.new.walk.types in
    let t = c.in_ok-inner-in-Group.inner in
    if_ok_weaker c.group.result (λ u is. kind_typed g f n e (tree.Group c.in-Group.inner) u c.in-Group.is
    (group_typed g f n e.line c.in-Group.inner t u (subst (λ x. Typed g f n x t) c.get.ensures c.in_ok-inner-in-Group.ensures.typed) is)) c.group.ensures.is

pub typed::plain-returns-in_ok-operands-in-Call-clause-typed : goal.typed::plain-returns-in_ok-operands-in-Call-clause-typed
typed::plain-returns-in_ok-operands-in-Call-clause-typed t c =
    let g = given_of c.args.given.now in
    let n = c.args.walk.now.names in
    let e = c.args.e.now in
    let f = c.all.new.walk.types in
    let ops = c.in_ok-operands-in-Call.operands in
    ok_both c.call.result (λ u is used. kind_typed g c.call.new.walk.types n e (tree.Call c.in-Call.x c.in-Call.es) u c.in-Call.is
    (call_typed g f c.call.new.walk.types n e.line c.in-Call.x c.in-Call.es (parts_of ops) u
    (subst (λ l. AllTyped g f n l ops.exprs ops.types) c.as_slice.ensures c.in_ok-operands-in-Call.ensures.typed) used.grows is)) c.call.ensures.calls c.call.ensures.used

pub typed::plain-returns-in_ok-operands-in-Call-clause-breaks : goal.typed::plain-returns-in_ok-operands-in-Call-clause-breaks
typed::plain-returns-in_ok-operands-in-Call-clause-breaks t c =
    let g = given_of c.args.given.now in
    let f = c.args.walk.now.types in
    let f1 = c.all.new.walk.types in
    let n = c.args.walk.now.names in
    let l = c.args.e.now.line in
    let p = parts_of c.in_ok-operands-in-Call.operands in
    faults_weaker c.call.result (λ rule line. RefusesCall g f1 l c.in-Call.x p.types rule line) (λ rule line. Broken g f n c.args.e.now rule line)
    (λ rule line q. subst (λ k. Broken g f n (at l k) rule line) (sym c.in-Call.is)
    (refused_call_breaks g f f1 n l c.in-Call.x c.in-Call.es p rule line c.in_ok-operands-in-Call.ensures.used c.holds.ensures
    (subst (λ es. AllTyped g f1 n es p.exprs p.types) c.as_slice.ensures c.in_ok-operands-in-Call.ensures.typed) q)) c.call.ensures.breaks

pub typed::plain-returns-in_ok-results-in-Let-clause-names : goal.typed::plain-returns-in_ok-results-in-Let-clause-names
typed::plain-returns-in_ok-results-in-Let-clause-names t c =
    let_left c.args.walk.now.names c.defs.new.walk.names c.all-in-Let.new.walk.names c.leave.new.self c.mark-outer.result c.leave.ensures c.mark-outer.ensures c.in_ok-results-in-Let.ensures.names
    c.in_ok-defined-in-Let.ensures.typed.above

pub typed::plain-returns-in_ok-results-in-Let-clause-typed : goal.typed::plain-returns-in_ok-results-in-Let-clause-typed
typed::plain-returns-in_ok-results-in-Let-clause-typed t c =
    let g = given_of c.args.given.now in
    let n = c.args.walk.now.names in
    let e = c.args.e.now in
    let ds = c.in-Let.ds in
    let es = c.in-Let.es in
    let d = c.in_ok-defined-in-Let.defined in
    let r = c.in_ok-results-in-Let.results in
    let f1 = c.defs.new.walk.types in
    let f2 = c.all-in-Let.new.walk.types in
    let inside = c.defs.new.walk.names in
    kind_typed g f2 n e (tree.Let ds es) c.let_in.result c.in-Let.is
    (let_typed g f1 f2 n inside e.line ds es d.exprs d.types r.exprs r.types c.let_in.result c.in_ok-results-in-Let.ensures.used.grows
    (subst (λ l. AllDefined g f1 n inside None l d.exprs d.types) c.as_slice-in-Let.ensures c.in_ok-defined-in-Let.ensures.typed)
    (subst (λ l. AreDistinct (targets l)) c.as_slice-in-Let.ensures c.in_ok-defined-in-Let.ensures.distinct)
    (subst (λ l. AllTyped g f2 inside l r.exprs r.types) c.as_slice-in-Let-2.ensures c.in_ok-results-in-Let.ensures.typed) c.let_in.ensures.is)

pub typed::plain-returns-in_ok-otherwise-in-If-clause-typed : goal.typed::plain-returns-in_ok-otherwise-in-If-clause-typed
typed::plain-returns-in_ok-otherwise-in-If-clause-typed t c =
    let g = given_of c.args.given.now in
    let n = c.args.walk.now.names in
    let e = c.args.e.now in
    let t = c.in_ok-test-in-If.test in
    let y = c.in_ok-then-in-If.then in
    let o = c.in_ok-otherwise-in-If.otherwise in
    let f0 = c.only.new.walk.types in
    let f1 = c.all-in-If.new.walk.types in
    let f2 = c.all-in-If-2.new.walk.types in
    let same : c.only.new.walk.names ≡ n = c.in_ok-test-in-If.ensures.names in
    let again : c.all-in-If.new.walk.names ≡ n = c.in_ok-then-in-If.ensures.names ∙ same in
    if_ok_weaker c.if_else.result (λ u is. kind_typed g f2 n e (tree.If c.in-If.test c.in-If.then c.in-If.otherwise) u c.in-If.is
    (if_typed g f0 f1 f2 n e.line c.in-If.test c.in-If.then c.in-If.otherwise (parts_of t) (parts_of y) (parts_of o) u c.in_ok-then-in-If.ensures.used.grows c.in_ok-otherwise-in-If.ensures.used.grows
    (subst (λ x. AllOnes g f0 n (x ∷ []) t.exprs t.types) c.get-in-If.ensures c.in_ok-test-in-If.ensures.typed)
    (subst (λ m. AllTyped g f1 m c.in-If.then y.exprs y.types) same (subst (λ l. AllTyped g f1 c.only.new.walk.names l y.exprs y.types) c.as_slice-in-If.ensures c.in_ok-then-in-If.ensures.typed))
    (subst (λ m. AllTyped g f2 m c.in-If.otherwise o.exprs o.types) again (subst (λ l. AllTyped g f2 c.all-in-If.new.walk.names l o.exprs o.types) c.as_slice-in-If-2.ensures c.in_ok-otherwise-in-If.ensures.typed))
    is)) c.if_else.ensures.is

pub typed::plain-returns-in_ok-otherwise-in-If-clause-breaks : goal.typed::plain-returns-in_ok-otherwise-in-If-clause-breaks
typed::plain-returns-in_ok-otherwise-in-If-clause-breaks t c =
    let g = given_of c.args.given.now in
    let f = c.args.walk.now.types in
    let f1 = c.only.new.walk.types in
    let f2 = c.all-in-If.new.walk.types in
    let f3 = c.all-in-If-2.new.walk.types in
    let n = c.args.walk.now.names in
    let l = c.args.e.now.line in
    let a = parts_of c.in_ok-test-in-If.test in
    let b = parts_of c.in_ok-then-in-If.then in
    let d = parts_of c.in_ok-otherwise-in-If.otherwise in
    let used = c.in_ok-test-in-If.ensures.used in
    let second = c.in_ok-then-in-If.ensures.used in
    let third = c.in_ok-otherwise-in-If.ensures.used in
    faults_weaker c.if_else.result (λ rule line. Uneven l a.types b.types d.types rule line) (λ rule line. Broken g f n c.args.e.now rule line)
    (λ rule line q. subst (λ k. Broken g f n (at l k) rule line) (sym c.in-If.is)
    (uneven_breaks g f f1 f2 f3 n l c.in-If.test c.in-If.then c.in-If.otherwise a b d rule line (used_on g f f1 f3 used (used_on g f1 f2 f3 second third)) c.holds-in-If.ensures
    (grows_on f1 f2 f3 second.grows third.grows) third.grows
    (subst (λ e. AllOnes g f1 n (e ∷ []) a.exprs a.types) c.get-in-If.ensures c.in_ok-test-in-If.ensures.typed)
    (subst (λ m. AllTyped g f2 m c.in-If.then b.exprs b.types) c.in_ok-test-in-If.ensures.names (subst (λ es. AllTyped g f2 c.only.new.walk.names es b.exprs b.types) c.as_slice-in-If.ensures c.in_ok-then-in-If.ensures.typed))
    (subst (λ m. AllTyped g f3 m c.in-If.otherwise d.exprs d.types) (c.in_ok-then-in-If.ensures.names ∙ c.in_ok-test-in-If.ensures.names)
    (subst (λ es. AllTyped g f3 c.all-in-If.new.walk.names es d.exprs d.types) c.as_slice-in-If-2.ensures c.in_ok-otherwise-in-If.ensures.typed)) q)) c.if_else.ensures.breaks

pub cases::each_arm-loop-arm-preserved : goal.cases::each_arm-loop-arm-preserved
cases::each_arm-loop-arm-preserved t c =
    let g = given_of c.args.given.now in
    let n = c.args.walk.now.names in
    let f = c.args.walk.now.types in
    let i = c.loop-arm.invariant in
    let x = c.arm-item.result in
    let h = c.one_arm.new.walk.types in
    let first = arms_of c.args.done.now in
    let mid = arms_of c.loop-arm.done in
    let last = arms_of c.one_arm.new.done in
    let more = taken c.args.arms.now c.loop-arm.arm-index x c.loop-arm-test.true c.arm-item.is in
    record {
      used = used_on g f c.loop-arm.walk.types h i.used c.in_ok-one_arm.ensures.used;
      names = c.in_ok-one_arm.ensures.names ∙ i.names;
      adds = subst (λ l. AddsArms g f h n l first last) more
          (adds_arms_on g f c.loop-arm.walk.types h n (take c.loop-arm.arm-index c.args.arms.now) (x ∷ []) first mid last i.adds (subst (λ m. AddsArms g c.loop-arm.walk.types h m (x ∷ []) mid last) i.names c.in_ok-one_arm.ensures.adds));
      some = λ known. let now = c.in_ok-one_arm.ensures.some (i.some known).0 in (if_some c.one_arm.new.done.types now, λ le. now);
      count = let one = c.in_ok-one_arm.ensures.count in let so = i.count in omega (arith, one, so);
      results = subst (λ l. AddsResults g f h n l first last) more
          (more_results g f c.loop-arm.walk.types h n (take c.loop-arm.arm-index c.args.arms.now) (x ∷ []) first mid last i.adds i.results (subst (λ m. AddsResults g c.loop-arm.walk.types h m (x ∷ []) mid last) i.names c.in_ok-one_arm.ensures.results));
    }

pub clauses::clause_values-loop-c-init : goal.clauses::clause_values-loop-c-init
clauses::clause_values-loop-c-init t c =
    let g = given_of c.args.given.now in
    let n = c.args.walk.now.names in
    let f = c.args.walk.now.types in
    record {
      used = used_same g f;
      names = refl;
      typed = subst (λ l. AllValues g f n [] l c.new-values.result.types) (sym c.new-values.ensures.exprs) (subst (λ l. AllValues g f n [] [] l) (sym c.new-values.ensures.types) (no_values g f n));
      count = ap length c.new-values.ensures.types;
    }

pub clauses::clause_values-loop-c-preserved : goal.clauses::clause_values-loop-c-preserved
clauses::clause_values-loop-c-preserved t c =
    let g = given_of c.args.given.now in
    let n = c.args.walk.now.names in
    let f = c.args.walk.now.types in
    let i = c.loop-c.invariant in
    record {
      used = used_on g f c.loop-c.walk.types c.clause_value.new.walk.types i.used c.in_ok-clause_value.ensures.used;
      names = c.in_ok-clause_value.ensures.names ∙ i.names;
      typed = values_more g n c.loop-c.walk.types c.clause_value.new.walk.types c.loop-c.walk.names c.args.cs.now c.loop-c.c-index c.c-item.result (parts_of c.loop-c.values) (parts_of c.clause_value.new.values)
          c.loop-c-test.true c.c-item.is c.in_ok-clause_value.ensures.used i.names i.typed c.in_ok-clause_value.ensures.adds;
      count = c.in_ok-clause_value.ensures.count ∙ ap (λ k. k + 1) i.count;
    }

pub defs::defs-loop-d-init : goal.defs::defs-loop-d-init
defs::defs-loop-d-init t c =
    let g = given_of c.args.given.now in
    let n = c.args.walk.now.names in
    let f = c.args.walk.now.types in
    let h = c.distinct.new.walk.types in
    let m = c.distinct.new.walk.names in
    record {
      used = used_as g f h c.in_ok-distinct.ensures.types;
      typed = subst (λ l. AllDefined g h n m c.args.turn [] l c.new-2.result) (sym c.new.ensures) (subst (λ l. AllDefined g h n m c.args.turn [] [] l) (sym c.new-2.ensures)
          (subst (λ k. AllDefined g h n k c.args.turn [] [] []) (sym c.in_ok-distinct.ensures.names) (none_defined g h n c.args.turn)));
      targets = c.in_ok-targets.ensures;
      spelled = subst (λ s. AreDefs c.args.given.now.tokens.now (length c.args.given.now.spellings.now) s.height c.args.ds.now) (sym c.in_ok-distinct.ensures.names) c.requires.spelled;
      height = ap (λ k. k.height) c.in_ok-distinct.ensures.names ∙ no_levels n.height c.new-2.result c.new-2.ensures;
    }

pub defs::defs-loop-d-preserved : goal.defs::defs-loop-d-preserved
defs::defs-loop-d-preserved t c =
    let g = given_of c.args.given.now in
    let n = c.args.walk.now.names in
    let f = c.args.walk.now.types in
    let i = c.loop-d.invariant in
    record {
      used = used_on g f c.loop-d.walk.types c.def.new.walk.types i.used c.in_ok-def.ensures.used;
      typed = subst (λ l. AllDefined g c.def.new.walk.types n c.def.new.walk.names c.args.turn l c.def.new.defined.exprs c.def.new.defined.types) (taken c.args.ds.now c.loop-d.d-index c.d-item.result c.loop-d-test.true c.d-item.is)
          (one_more_defined g c.loop-d.walk.types c.def.new.walk.types n c.loop-d.walk.names c.def.new.walk.names c.args.turn (take c.loop-d.d-index c.args.ds.now) c.d-item.result (defined_of c.loop-d.defined) (defined_of c.def.new.defined)
          c.in_ok-def.ensures.used.grows i.typed c.in_ok-def.ensures.adds);
      targets = c.in_ok-def.ensures.adds.enters.targets ∙ i.targets;
      spelled = defs_next c.args.given.now.tokens.now (length c.args.given.now.spellings.now) c.args.ds.now c.loop-d.d-index c.d-item.result c.loop-d-test.true c.d-item.is c.in_ok-def.ensures.adds.types
          c.loop-d.walk.names c.def.new.walk.names c.in_ok-def.ensures.adds.enters.count c.in_ok-def.ensures.adds.enters.names i.spelled;
      height = levels_more (out-Def c.d-item.result).targets c.in_ok-def.ensures.adds.types c.loop-d.defined.types c.def.new.defined.types c.loop-d.walk.names c.def.new.walk.names n.height
          c.in_ok-def.ensures.adds.enters.count c.in_ok-def.ensures.adds.enters.types c.in_ok-def.ensures.adds.enters.names i.height;
    }

pub defs::defs-returns-clause-distinct : goal.defs::defs-returns-clause-distinct
defs::defs-returns-clause-distinct t c =
    subst AreDistinct (ap names_of (c.as_slice.ensures ∙ c.in_ok-targets.ensures) ∙ names_in_order c.args.ds.now) (once_distinct c.as_slice.result.now c.in_ok-distinct.ensures.once)

pub generators::groups-loop-g-init : goal.generators::groups-loop-g-init
generators::groups-loop-g-init t c =
    let g = given_of c.args.given.now in
    let n = c.args.walk.now.names in
    let f = c.args.walk.now.types in
    record { used = used_same g f; typed = subst (λ l. GroupsTyped g f n [] (map group_of l) n) (sym c.new-goes.ensures) no_group; spelled = c.requires.spelled; height = refl }

pub generators::groups-loop-g-preserved : goal.generators::groups-loop-g-preserved
generators::groups-loop-g-preserved t c =
    let g = given_of c.args.given.now in
    let n = c.args.walk.now.names in
    let f = c.args.walk.now.types in
    let i = c.loop-g.invariant in
    let x = c.g-item.result in
    let made = c.in_ok-made.made in
    let h = c.one_group.new.walk.types in
    let after = c.one_group.new.walk.names in
    let between = c.loop-g.walk.names in
    let front = take c.loop-g.g-index c.args.gs.now in
    let goes = map group_of c.loop-g.goes in
    let group = group_at c.args.given.now.tokens.now (length c.args.given.now.spellings.now) between.height c.args.gs.now c.loop-g.g-index x c.loop-g-test.true c.g-item.is i.spelled in
    let next : groups_levels (drop c.loop-g.g-index c.args.gs.now) ≡ group_levels x + groups_levels (drop (c.loop-g.g-index + 1) c.args.gs.now) = groups_next c.args.gs.now c.loop-g.g-index x c.loop-g-test.true c.g-item.is in
    let up : after.height ≡ between.height + group_levels x = c.in_ok-made.ensures.height in
    let so : between.height + groups_levels (drop c.loop-g.g-index c.args.gs.now) ≡ n.height + groups_levels c.args.gs.now = i.height in
    record {
      spelled = subst (λ k. AreGroups c.args.given.now.tokens.now (length c.args.given.now.spellings.now) k (drop (c.loop-g.g-index + 1) c.args.gs.now)) (sym up) group.3;
      height = omega (arith, next, up, so);
      used = used_on g f c.loop-g.walk.types h i.used c.in_ok-made.ensures.used;
      typed = subst (λ l. GroupsTyped g h n l (map group_of c.add.new.self) after) (taken c.args.gs.now c.loop-g.g-index x c.loop-g-test.true c.g-item.is)
          (subst (λ l. GroupsTyped g h n (front ++ x ∷ []) l after) (sym (ap (map group_of) c.in_ok-add.ensures.ok ∙ map-append group_of c.loop-g.goes (made ∷ [])))
          (subst (λ s. GroupsTyped g h n (front ++ x ∷ []) (goes ++ group_of made ∷ []) s) (sym c.in_ok-made.ensures.names)
          (one_more_group g h n between front goes x (group_of made) (groups_later g c.loop-g.walk.types h n between front goes c.in_ok-made.ensures.used.grows i.typed) c.in_ok-made.ensures.typed)));
    }

pub generators::one_group-loop-g-init : goal.generators::one_group-loop-g-init
generators::one_group-loop-g-init t c =
    let g = given_of c.args.given.now in
    let n = c.args.walk.now.names in
    let f = c.args.walk.now.types in
    let r = c.no_generators-made.result in
    record { used = used_same g f; names = refl; typed = none_generated g f n (group_of r) c.no_generators-made.ensures; front = ap (λ x. x.names) c.no_generators-made.ensures; even = ap (λ x. length x.types) c.no_generators-made.ensures ∙ sym (ap (λ x. length x.names) c.no_generators-made.ensures) }

pub generators::one_group-loop-g-preserved : goal.generators::one_group-loop-g-preserved
generators::one_group-loop-g-preserved t c =
    let g = given_of c.args.given.now in
    let n = c.args.walk.now.names in
    let f = c.args.walk.now.types in
    let i = c.loop-g.invariant in
    let x = c.g-item.result in
    let now = c.loop-g.walk.types in
    let h = c.generator-gone.new.walk.types in
    let front = take c.loop-g.g-index c.args.gs.now in
    let gone = c.in_ok-look_back.ensures.gone in
    let new = group_of c.generator-gone.new.made in
    let items = c.as_slice-g-items.ensures in
    let more = taken c.args.gs.now c.loop-g.g-index x (subst (λ l. c.loop-g.g-index < length l) items c.loop-g-test.true) (subst (λ l. x ≡ get_or l c.loop-g.g-index x) items c.g-item.is) in
    let used : IsUsedIn g now h = ok_now c.generator-gone.result tt gone c.generator-gone.ensures.used in
    let names : c.generator-gone.new.walk.names ≡ c.loop-g.walk.names = ok_now c.generator-gone.result tt gone c.generator-gone.ensures.names in
    let adds : AddsGenerator g now h n x (group_of c.loop-g.made) new = subst (λ m. AddsGenerator g now h m x (group_of c.loop-g.made) new) i.names (ok_now c.generator-gone.result tt gone c.generator-gone.ensures.adds) in
    let gained : c.generator-gone.new.made.names ≡ c.loop-g.made.names ++ ((out-Generator x).name ∷ index_names (out-Generator x).at (out-Generator x).name.line) = ok_now c.generator-gone.result tt gone c.generator-gone.ensures.gained in
    record {
      used = subst (λ y. IsUsedIn g f y) (sym c.in_ok-look_back.ensures.types) (used_on g f now h i.used used);
      names = c.in_ok-look_back.ensures.names ∙ names ∙ i.names;
      typed = subst (λ y. AllGenerated g y n (take (c.loop-g.g-index + 1) c.args.gs.now) new) (sym c.in_ok-look_back.ensures.types) (subst (λ l. AllGenerated g h n l new) more (adds.holds front i.typed));
      even = ok_now c.generator-gone.result tt gone c.generator-gone.ensures.even i.even;
      front = gained ∙ ap (λ l. l ++ ((out-Generator x).name ∷ index_names (out-Generator x).at (out-Generator x).name.line)) i.front ∙ sym (generators_more front x) ∙ ap generators_in more;
    }

pub generators::one_group-returns-clause-typed : goal.generators::one_group-returns-clause-typed
generators::one_group-returns-clause-typed t c =
    let g = given_of c.args.given.now in
    let n = c.args.walk.now.names in
    let f = c.args.walk.now.types in
    let i = c.loop-g.invariant in
    let gs = c.args.gs.now in
    let made = c.loop-g.made in
    let h = c.enter.new.walk.types in
    ok_both c.enter.result (λ m same once. subst (λ y. GroupTyped g h n gs (group_of y)) (sym same) (record {
      generated = subst (λ y. AllGenerated g y n gs (group_of made)) (sym c.enter.ensures.types) (subst (λ l. AllGenerated g c.loop-g.walk.types n l (group_of made)) (take_all c.loop-g.g-index gs (subst (λ l. length l ≤ c.loop-g.g-index) c.as_slice-g-items.ensures c.loop-g-test.false)) i.typed);
      distinct = once_distinct made.names once;
    })) c.enter.ensures.same c.enter.ensures.once

pub generators::one_group-returns-clause-breaks : goal.generators::one_group-returns-clause-breaks
generators::one_group-returns-clause-breaks t c =
    let g = given_of c.args.given.now in
    faults_weaker c.enter.result _ _
    (λ rule line q. group_twice g c.args.walk.now.types c.loop-g.walk.types c.args.walk.now.names c.args.gs.now (generators_in (take c.loop-g.g-index c.args.gs.now)) _ rule line c.loop-g.invariant.used c.holds-2.ensures
    (first_names c.args.gs.now c.loop-g.g-index).1 (subst (λ l. StandsTwice l rule line) c.loop-g.invariant.front q)) c.enter.ensures.breaks

pub lists::fields-loop-v-init : goal.lists::fields-loop-v-init
lists::fields-loop-v-init t c =
    record { used = used_same (given_of c.args.given.now) c.args.walk.now.types; names = refl; adds = adds_no_ones (given_of c.args.given.now) c.args.walk.now.types c.args.walk.now.names (parts_of c.args.parts.now) }

pub lists::fields-loop-v-preserved : goal.lists::fields-loop-v-preserved
lists::fields-loop-v-preserved t c =
    let g = given_of c.args.given.now in
    let n = c.args.walk.now.names in
    let f = c.args.walk.now.types in
    let i = c.loop-v.invariant in
    record {
      used = used_on g f c.loop-v.walk.types c.one.new.walk.types i.used c.in_ok-one.ensures.used;
      names = c.in_ok-one.ensures.names ∙ i.names;
      adds = ones_more g n c.loop-v.walk.types c.one.new.walk.types c.loop-v.walk.names (λ v. v.value) c.args.vs.now c.loop-v.v-index c.v-item.result (parts_of c.args.parts.now) (parts_of c.loop-v.parts) (parts_of c.one.new.parts)
          c.loop-v-test.true c.v-item.is c.in_ok-one.ensures.used i.names i.adds c.in_ok-one.ensures.adds;
    }

pub lists::many-loop-e-init : goal.lists::many-loop-e-init
lists::many-loop-e-init t c =
    record { used = used_same (given_of c.args.given.now) c.args.walk.now.types; names = refl; adds = adds_no_more (given_of c.args.given.now) c.args.walk.now.types c.args.walk.now.names (parts_of c.args.parts.now); some = omega arith }

pub lists::many-loop-e-preserved : goal.lists::many-loop-e-preserved
lists::many-loop-e-preserved t c =
    let g = given_of c.args.given.now in
    let n = c.args.walk.now.names in
    let f = c.args.walk.now.types in
    let i = c.loop-e.invariant in
    record {
      used = used_on g f c.loop-e.walk.types c.typed.new.walk.types i.used c.in_ok-made.ensures.used;
      names = c.in_ok-made.ensures.names ∙ i.names;
      adds = many_more g n c.loop-e.walk.types c.typed.new.walk.types c.loop-e.walk.names c.args.es.now c.loop-e.e-index c.e-item.result c.in_ok-made.made (parts_of c.args.parts.now) (parts_of c.loop-e.parts) (parts_of c.add.new.self)
          c.loop-e-test.true c.e-item.is c.in_ok-made.ensures.used i.names i.adds c.in_ok-made.ensures.typed c.in_ok-add.ensures.exprs c.in_ok-add.ensures.types;
      some = one_value_more c.loop-e.parts.types c.add.new.self.types c.in_ok-made.made.types (length c.args.parts.now.types) c.loop-e.e-index i.some c.in_ok-add.ensures.types c.in_ok-made.ensures.some;
    }

pub typed::operands-returns-in-Convert-clause-breaks : goal.typed::operands-returns-in-Convert-clause-breaks
typed::operands-returns-in-Convert-clause-breaks t c =
    let g = given_of c.args.given.now in
    let f = c.args.walk.now.types in
    let n = c.args.walk.now.names in
    faults_weaker c.one.result (λ rule line. BrokenOne g f n c.get.result.now rule line) (λ rule line. BrokenForm g f n c.args.kind.now rule line)
    (λ rule line q. operand_fault g f f n n c.args.kind.now _ rule line (used_same g f) refl c.in-Convert.is c.in-Convert.e c.get.result.now (part.convert _ _) c.get.ensures q) c.one.ensures.breaks

pub typed::operands-returns-in-IsError-clause-breaks : goal.typed::operands-returns-in-IsError-clause-breaks
typed::operands-returns-in-IsError-clause-breaks t c =
    let g = given_of c.args.given.now in
    let f = c.args.walk.now.types in
    let n = c.args.walk.now.names in
    faults_weaker c.one-in-IsError.result (λ rule line. BrokenOne g f n c.get-in-IsError.result.now rule line) (λ rule line. BrokenForm g f n c.args.kind.now rule line)
    (λ rule line q. operand_fault g f f n n c.args.kind.now _ rule line (used_same g f) refl c.in-IsError.is c.in-IsError.e c.get-in-IsError.result.now (part.is_error _) c.get-in-IsError.ensures q) c.one-in-IsError.ensures.breaks

pub typed::operands-returns-in-IsTag-clause-breaks : goal.typed::operands-returns-in-IsTag-clause-breaks
typed::operands-returns-in-IsTag-clause-breaks t c =
    let g = given_of c.args.given.now in
    let f = c.args.walk.now.types in
    let n = c.args.walk.now.names in
    faults_weaker c.one-in-IsTag.result (λ rule line. BrokenOne g f n c.get-in-IsTag.result.now rule line) (λ rule line. BrokenForm g f n c.args.kind.now rule line)
    (λ rule line q. operand_fault g f f n n c.args.kind.now _ rule line (used_same g f) refl c.in-IsTag.is c.in-IsTag.e c.get-in-IsTag.result.now (part.is_tag _ _) c.get-in-IsTag.ensures q) c.one-in-IsTag.ensures.breaks

pub typed::operands-returns-in-Prefix-clause-breaks : goal.typed::operands-returns-in-Prefix-clause-breaks
typed::operands-returns-in-Prefix-clause-breaks t c =
    let g = given_of c.args.given.now in
    let f = c.args.walk.now.types in
    let n = c.args.walk.now.names in
    faults_weaker c.one-in-Prefix.result (λ rule line. BrokenOne g f n c.get-in-Prefix.result.now rule line) (λ rule line. BrokenForm g f n c.args.kind.now rule line)
    (λ rule line q. operand_fault g f f n n c.args.kind.now _ rule line (used_same g f) refl c.in-Prefix.is c.in-Prefix.e c.get-in-Prefix.result.now (part.prefix _ _) c.get-in-Prefix.ensures q) c.one-in-Prefix.ensures.breaks

pub typed::operands-returns-in-Field-clause-breaks : goal.typed::operands-returns-in-Field-clause-breaks
typed::operands-returns-in-Field-clause-breaks t c =
    let g = given_of c.args.given.now in
    let f = c.args.walk.now.types in
    let n = c.args.walk.now.names in
    faults_weaker c.one-in-Field.result (λ rule line. BrokenOne g f n c.get-in-Field.result.now rule line) (λ rule line. BrokenForm g f n c.args.kind.now rule line)
    (λ rule line q. operand_fault g f f n n c.args.kind.now _ rule line (used_same g f) refl c.in-Field.is c.in-Field.e c.get-in-Field.result.now (part.field _ _) c.get-in-Field.ensures q) c.one-in-Field.ensures.breaks

pub typed::operands-returns-in-Union-clause-breaks : goal.typed::operands-returns-in-Union-clause-breaks
typed::operands-returns-in-Union-clause-breaks t c =
    let g = given_of c.args.given.now in
    let f = c.args.walk.now.types in
    let n = c.args.walk.now.names in
    faults_weaker c.one-in-Union.result (λ rule line. BrokenOne g f n c.get-in-Union.result.now rule line) (λ rule line. BrokenForm g f n c.args.kind.now rule line)
    (λ rule line q. operand_fault g f f n n c.args.kind.now _ rule line (used_same g f) refl c.in-Union.is c.in-Union.e c.get-in-Union.result.now (part.union _ _ _) c.get-in-Union.ensures q) c.one-in-Union.ensures.breaks

pub typed::operands-returns-in-Record-clause-breaks : goal.typed::operands-returns-in-Record-clause-breaks
typed::operands-returns-in-Record-clause-breaks t c =
    let g = given_of c.args.given.now in
    let f = c.args.walk.now.types in
    let n = c.args.walk.now.names in
    faults_weaker c.fields-in-Record.result (λ rule line. BrokenField g f n c.as_slice-in-Record.result.now rule line) (λ rule line. BrokenForm g f n c.args.kind.now rule line)
    (λ rule line q. fields_fault g f f n n c.args.kind.now _ rule line (used_same g f) refl c.in-Record.is c.in-Record.vs c.as_slice-in-Record.result.now (part.a_record _ _) c.as_slice-in-Record.ensures q) c.fields-in-Record.ensures.breaks

pub typed::operands-returns-in_err-one-in-Binary-clause-breaks : goal.typed::operands-returns-in_err-one-in-Binary-clause-breaks
typed::operands-returns-in_err-one-in-Binary-clause-breaks t c =
    let g = given_of c.args.given.now in
    let f = c.args.walk.now.types in
    let n = c.args.walk.now.names in
    passed_on c.from_residual.result c.in_err-one-in-Binary.field-0.0 c.from_residual.ensures.1 _ _
    (λ rule line q. operand_fault g f f n n c.args.kind.now _ rule line (used_same g f) refl c.in-Binary.is c.in-Binary.e c.get-in-Binary.result.now (part.left _ _ _) c.get-in-Binary.ensures q)
    c.in_err-one-in-Binary.ensures.breaks

pub typed::operands-returns-in_ok-one-in-Binary-clause-adds : goal.typed::operands-returns-in_ok-one-in-Binary-clause-adds
typed::operands-returns-in_ok-one-in-Binary-clause-adds t c =
    let g = given_of c.args.given.now in
    let n = c.args.walk.now.names in
    let f = c.args.walk.now.types in
    let h0 = c.one-in-Binary.new.walk.types in
    let h = c.one-in-Binary-2.new.walk.types in
    let first = parts_of c.args.parts.now in
    let mid = parts_of c.one-in-Binary.new.parts in
    let last = parts_of c.one-in-Binary-2.new.parts in
    let a = c.in-Binary.e in
    let b = c.in-Binary.f in
    ok_two c.one-in-Binary-2.result (λ used q. operands_of g n h c.args.kind.now (tree.Binary c.in-Binary.field-0 a b) first last c.in-Binary.is
    (binary_operands g n h c.in-Binary.field-0 a b first last (two_ones g n h0 h c.one-in-Binary.new.walk.names a b first mid last used c.in_ok-one-in-Binary.ensures.names
    (subst (λ x. Adds first mid (AllOnes g h0 n (x ∷ []))) c.get-in-Binary.ensures c.in_ok-one-in-Binary.ensures.adds)
    (subst (λ x. Adds mid last (AllOnes g h c.one-in-Binary.new.walk.names (x ∷ []))) c.get-in-Binary-2.ensures q)))) c.one-in-Binary-2.ensures.used c.one-in-Binary-2.ensures.adds

pub typed::operands-returns-in_ok-one-in-Binary-clause-breaks : goal.typed::operands-returns-in_ok-one-in-Binary-clause-breaks
typed::operands-returns-in_ok-one-in-Binary-clause-breaks t c =
    let g = given_of c.args.given.now in
    let f = c.args.walk.now.types in
    let n = c.args.walk.now.names in
    faults_weaker c.one-in-Binary-2.result (λ rule line. BrokenOne g c.one-in-Binary.new.walk.types c.one-in-Binary.new.walk.names c.get-in-Binary-2.result.now rule line) (λ rule line. BrokenForm g f n c.args.kind.now rule line)
    (λ rule line q. operand_fault g f c.one-in-Binary.new.walk.types n c.one-in-Binary.new.walk.names c.args.kind.now _ rule line c.in_ok-one-in-Binary.ensures.used c.in_ok-one-in-Binary.ensures.names c.in-Binary.is c.in-Binary.f c.get-in-Binary-2.result.now (part.right _ _ _) c.get-in-Binary-2.ensures q) c.one-in-Binary-2.ensures.breaks

pub typed::operands-returns-in_err-one-in-Select-clause-breaks : goal.typed::operands-returns-in_err-one-in-Select-clause-breaks
typed::operands-returns-in_err-one-in-Select-clause-breaks t c =
    let g = given_of c.args.given.now in
    let f = c.args.walk.now.types in
    let n = c.args.walk.now.names in
    passed_on c.from_residual-in_err-one-in-Select.result c.in_err-one-in-Select.field-0.0 c.from_residual-in_err-one-in-Select.ensures.1 _ _
    (λ rule line q. operand_fault g f f n n c.args.kind.now _ rule line (used_same g f) refl c.in-Select.is c.in-Select.e c.get-in-Select.result.now (part.selected _ _) c.get-in-Select.ensures q)
    c.in_err-one-in-Select.ensures.breaks

pub typed::operands-returns-in_ok-one-in-Select-clause-adds : goal.typed::operands-returns-in_ok-one-in-Select-clause-adds
typed::operands-returns-in_ok-one-in-Select-clause-adds t c =
    let g = given_of c.args.given.now in
    let n = c.args.walk.now.names in
    let f = c.args.walk.now.types in
    let h0 = c.one-in-Select.new.walk.types in
    let h = c.one-in-Select-2.new.walk.types in
    let first = parts_of c.args.parts.now in
    let mid = parts_of c.one-in-Select.new.parts in
    let last = parts_of c.one-in-Select-2.new.parts in
    let a = c.in-Select.e in
    let b = c.in-Select.f in
    ok_two c.one-in-Select-2.result (λ used q. operands_of g n h c.args.kind.now (tree.Select a b) first last c.in-Select.is
    (select_operands g n h a b first last (two_ones g n h0 h c.one-in-Select.new.walk.names a b first mid last used c.in_ok-one-in-Select.ensures.names
    (subst (λ x. Adds first mid (AllOnes g h0 n (x ∷ []))) c.get-in-Select.ensures c.in_ok-one-in-Select.ensures.adds)
    (subst (λ x. Adds mid last (AllOnes g h c.one-in-Select.new.walk.names (x ∷ []))) c.get-in-Select-2.ensures q)))) c.one-in-Select-2.ensures.used c.one-in-Select-2.ensures.adds

pub typed::operands-returns-in_ok-one-in-Select-clause-breaks : goal.typed::operands-returns-in_ok-one-in-Select-clause-breaks
typed::operands-returns-in_ok-one-in-Select-clause-breaks t c =
    let g = given_of c.args.given.now in
    let f = c.args.walk.now.types in
    let n = c.args.walk.now.names in
    faults_weaker c.one-in-Select-2.result (λ rule line. BrokenOne g c.one-in-Select.new.walk.types c.one-in-Select.new.walk.names c.get-in-Select-2.result.now rule line) (λ rule line. BrokenForm g f n c.args.kind.now rule line)
    (λ rule line q. operand_fault g f c.one-in-Select.new.walk.types n c.one-in-Select.new.walk.names c.args.kind.now _ rule line c.in_ok-one-in-Select.ensures.used c.in_ok-one-in-Select.ensures.names c.in-Select.is c.in-Select.f c.get-in-Select-2.result.now (part.index _ _) c.get-in-Select-2.ensures q) c.one-in-Select-2.ensures.breaks

pub typed::operands-returns-in_err-one-in-Update-clause-breaks : goal.typed::operands-returns-in_err-one-in-Update-clause-breaks
typed::operands-returns-in_err-one-in-Update-clause-breaks t c =
    let g = given_of c.args.given.now in
    let f = c.args.walk.now.types in
    let n = c.args.walk.now.names in
    passed_on c.from_residual-in_err-one-in-Update.result c.in_err-one-in-Update.field-0.0 c.from_residual-in_err-one-in-Update.ensures.1 _ _
    (λ rule line q. operand_fault g f f n n c.args.kind.now _ rule line (used_same g f) refl c.in-Update.is c.in-Update.e c.get-in-Update.result.now (part.updated _ _ _) c.get-in-Update.ensures q)
    c.in_err-one-in-Update.ensures.breaks

pub typed::operands-returns-in_err-one-in-Update-2-clause-breaks : goal.typed::operands-returns-in_err-one-in-Update-2-clause-breaks
typed::operands-returns-in_err-one-in-Update-2-clause-breaks t c =
    let g = given_of c.args.given.now in
    let f = c.args.walk.now.types in
    let n = c.args.walk.now.names in
    passed_on c.from_residual-in_err-one-in-Update-2.result c.in_err-one-in-Update-2.field-0.0 c.from_residual-in_err-one-in-Update-2.ensures.1 _ _
    (λ rule line q. operand_fault g f c.one-in-Update.new.walk.types n c.one-in-Update.new.walk.names c.args.kind.now _ rule line c.in_ok-one-in-Update.ensures.used c.in_ok-one-in-Update.ensures.names c.in-Update.is c.in-Update.i c.get-in-Update-2.result.now (part.place _ _ _) c.get-in-Update-2.ensures q)
    c.in_err-one-in-Update-2.ensures.breaks

pub typed::operands-returns-in_ok-one-in-Update-2-clause-used : goal.typed::operands-returns-in_ok-one-in-Update-2-clause-used
typed::operands-returns-in_ok-one-in-Update-2-clause-used t c =
    let g = given_of c.args.given.now in
    let n = c.args.walk.now.names in
    let f = c.args.walk.now.types in
    let h0 = c.one-in-Update.new.walk.types in
    let h1 = c.one-in-Update-2.new.walk.types in
    let h = c.one-in-Update-3.new.walk.types in
    let u01 = c.in_ok-one-in-Update-2.ensures.used in
    on_ok_weaker c.one-in-Update-3.result (λ used. used_on g f h1 h (used_on g f h0 h1 c.in_ok-one-in-Update.ensures.used u01) used) c.one-in-Update-3.ensures.used

pub typed::operands-returns-in_ok-one-in-Update-2-clause-adds : goal.typed::operands-returns-in_ok-one-in-Update-2-clause-adds
typed::operands-returns-in_ok-one-in-Update-2-clause-adds t c =
    let g = given_of c.args.given.now in
    let n = c.args.walk.now.names in
    let f = c.args.walk.now.types in
    let h0 = c.one-in-Update.new.walk.types in
    let h1 = c.one-in-Update-2.new.walk.types in
    let h = c.one-in-Update-3.new.walk.types in
    let u01 = c.in_ok-one-in-Update-2.ensures.used in
    let first = parts_of c.args.parts.now in
    let mid = parts_of c.one-in-Update.new.parts in
    let late = parts_of c.one-in-Update-2.new.parts in
    let last = parts_of c.one-in-Update-3.new.parts in
    let a = c.in-Update.e in
    let b = c.in-Update.i in
    let d = c.in-Update.f in
    let m0 = c.one-in-Update.new.walk.names in
    let m1 = c.one-in-Update-2.new.walk.names in
    let s0 : m0 ≡ n = c.in_ok-one-in-Update.ensures.names in
    let s1 : m1 ≡ n = c.in_ok-one-in-Update-2.ensures.names ∙ s0 in
    let two : Adds first late (AllOnes g h1 n (a ∷ b ∷ [])) = two_ones g n h0 h1 m0 a b first mid late u01 s0
    (subst (λ x. Adds first mid (AllOnes g h0 n (x ∷ []))) c.get-in-Update.ensures c.in_ok-one-in-Update.ensures.adds)
    (subst (λ x. Adds mid late (AllOnes g h1 m0 (x ∷ []))) c.get-in-Update-2.ensures c.in_ok-one-in-Update-2.ensures.adds) in
    ok_two c.one-in-Update-3.result (λ used q. operands_of g n h c.args.kind.now (tree.Update a b d) first last c.in-Update.is
    (update_operands g n h a b d first last (more_ones g n h1 h m1 (a ∷ b ∷ []) (d ∷ []) first late last used s1 two
    (subst (λ x. Adds late last (AllOnes g h m1 (x ∷ []))) c.get-in-Update-3.ensures q)))) c.one-in-Update-3.ensures.used c.one-in-Update-3.ensures.adds

pub typed::operands-returns-in_ok-one-in-Update-2-clause-breaks : goal.typed::operands-returns-in_ok-one-in-Update-2-clause-breaks
typed::operands-returns-in_ok-one-in-Update-2-clause-breaks t c =
    let g = given_of c.args.given.now in
    let f = c.args.walk.now.types in
    let n = c.args.walk.now.names in
    faults_weaker c.one-in-Update-3.result (λ rule line. BrokenOne g c.one-in-Update-2.new.walk.types c.one-in-Update-2.new.walk.names c.get-in-Update-3.result.now rule line) (λ rule line. BrokenForm g f n c.args.kind.now rule line)
    (λ rule line q. operand_fault g f c.one-in-Update-2.new.walk.types n c.one-in-Update-2.new.walk.names c.args.kind.now _ rule line (used_on g f c.one-in-Update.new.walk.types c.one-in-Update-2.new.walk.types c.in_ok-one-in-Update.ensures.used c.in_ok-one-in-Update-2.ensures.used) (c.in_ok-one-in-Update-2.ensures.names ∙ c.in_ok-one-in-Update.ensures.names) c.in-Update.is c.in-Update.f c.get-in-Update-3.result.now (part.value _ _ _) c.get-in-Update-3.ensures q) c.one-in-Update-3.ensures.breaks

pub typed::operands-returns-in_err-one-in-Replace-clause-breaks : goal.typed::operands-returns-in_err-one-in-Replace-clause-breaks
typed::operands-returns-in_err-one-in-Replace-clause-breaks t c =
    let g = given_of c.args.given.now in
    let f = c.args.walk.now.types in
    let n = c.args.walk.now.names in
    passed_on c.from_residual-in_err-one-in-Replace.result c.in_err-one-in-Replace.field-0.0 c.from_residual-in_err-one-in-Replace.ensures.1 _ _
    (λ rule line q. operand_fault g f f n n c.args.kind.now _ rule line (used_same g f) refl c.in-Replace.is c.in-Replace.e c.get-in-Replace.result.now (part.replaced _ _) c.get-in-Replace.ensures q)
    c.in_err-one-in-Replace.ensures.breaks

pub typed::operands-returns-in_ok-one-in-Replace-clause-adds : goal.typed::operands-returns-in_ok-one-in-Replace-clause-adds
typed::operands-returns-in_ok-one-in-Replace-clause-adds t c =
    let g = given_of c.args.given.now in
    let n = c.args.walk.now.names in
    let f = c.args.walk.now.types in
    let h0 = c.one-in-Replace.new.walk.types in
    let h = c.fields.new.walk.types in
    let first = parts_of c.args.parts.now in
    let mid = parts_of c.one-in-Replace.new.parts in
    let last = parts_of c.fields.new.parts in
    let a = c.in-Replace.e in
    let vs = c.in-Replace.vs in
    ok_two c.fields.result (λ used q. operands_of g n h c.args.kind.now (tree.Replace a vs) first last c.in-Replace.is
    (replace_operands g n h a vs first last (more_ones g n h0 h c.one-in-Replace.new.walk.names (a ∷ []) (map (λ v. v.value) vs) first mid last used c.in_ok-one-in-Replace.ensures.names
    (subst (λ x. Adds first mid (AllOnes g h0 n (x ∷ []))) c.get-in-Replace.ensures c.in_ok-one-in-Replace.ensures.adds)
    (subst (λ l. Adds mid last (AllOnes g h c.one-in-Replace.new.walk.names (map (λ v. v.value) l))) c.as_slice.ensures q)))) c.fields.ensures.used c.fields.ensures.adds

pub typed::operands-returns-in_ok-one-in-Replace-clause-breaks : goal.typed::operands-returns-in_ok-one-in-Replace-clause-breaks
typed::operands-returns-in_ok-one-in-Replace-clause-breaks t c =
    let g = given_of c.args.given.now in
    let f = c.args.walk.now.types in
    let n = c.args.walk.now.names in
    faults_weaker c.fields.result (λ rule line. BrokenField g c.one-in-Replace.new.walk.types c.one-in-Replace.new.walk.names c.as_slice.result.now rule line) (λ rule line. BrokenForm g f n c.args.kind.now rule line)
    (λ rule line q. fields_fault g f c.one-in-Replace.new.walk.types n c.one-in-Replace.new.walk.names c.args.kind.now _ rule line c.in_ok-one-in-Replace.ensures.used c.in_ok-one-in-Replace.ensures.names c.in-Replace.is c.in-Replace.vs c.as_slice.result.now (part.replace _ _) c.as_slice.ensures q) c.fields.ensures.breaks

pub lists::one-returns-clause-single : goal.lists::one-returns-clause-single
lists::one-returns-clause-single t c =
    ok_three c.keep_one.result (λ exprs types one. single_added c.in_ok-made.made (parts_of c.args.parts.now) (parts_of c.keep_one.new.parts) one exprs types)
    c.keep_one.ensures.exprs c.keep_one.ensures.types c.keep_one.ensures.one

pub cases::last-returns-clause-uneven : goal.cases::last-returns-clause-uneven
cases::last-returns-clause-uneven t c =
    let r = c.in_ok-results.results in
    on_ok_weaker c.keep.result (λ d. record { exprs = r.exprs; types = r.types; typed = c.in_ok-results.ensures.typed; differs = d }) c.keep.ensures.uneven

pub typed::elements_of-returns-in_err-one-clause-breaks : goal.typed::elements_of-returns-in_err-one-clause-breaks
typed::elements_of-returns-in_err-one-clause-breaks t c =
    let g = given_of c.args.given.now in
    let f = c.args.walk.now.types in
    let n = c.args.walk.now.names in
    let els = c.args.elements.now in
    passed_on c.from_residual.result c.in_err-one.field-0.0 c.from_residual.ensures.1 _ _
    (λ rule line q x. operand_fault g f f n n (tree.Array x (Some els)) (tree.Array x (Some els)) rule line (used_same g f) refl refl (out-Elements els).lower c.get.result.now (part.lower x els) c.get.ensures q)
    c.in_err-one.ensures.breaks

pub typed::operands-returns-in-None-clause-adds : goal.typed::operands-returns-in-None-clause-adds
typed::operands-returns-in-None-clause-adds t c =
    let g = given_of c.args.given.now in
    let f = c.args.walk.now.types in
    let n = c.args.walk.now.names in
    let p = parts_of c.args.parts.now in
    operands_of g n f c.args.kind.now (tree.Array c.in-Array.field-0 c.in-Array.elements) p p c.in-Array.is
    (subst (λ o. Adds p p (Operands g f n (tree.Array c.in-Array.field-0 o))) (sym c.in-None.is) (no_elements g f n c.in-Array.field-0 p))

pub typed::operands-returns-in-ErrorOf-clause-adds : goal.typed::operands-returns-in-ErrorOf-clause-adds
typed::operands-returns-in-ErrorOf-clause-adds t c =
    let g = given_of c.args.given.now in
    let f = c.args.walk.now.types in
    let n = c.args.walk.now.names in
    let p = parts_of c.args.parts.now in
    operands_of g n f c.args.kind.now (tree.ErrorOf c.in-ErrorOf.field-0) p p c.in-ErrorOf.is (no_error_operands g f n c.in-ErrorOf.field-0 p)

pub lists::only-returns-clause-single : goal.lists::only-returns-clause-single
lists::only-returns-clause-single t c = single_of (parts_of c.new-parts.result) (parts_of c.one.new.parts) c.new-parts.ensures.types c.in_ok-one.ensures.single

pub typed::operands-returns-in-Stream-clause-adds : goal.typed::operands-returns-in-Stream-clause-adds
typed::operands-returns-in-Stream-clause-adds t c =
    let g = given_of c.args.given.now in
    let n = c.args.walk.now.names in
    let h = c.many.new.walk.types in
    let first = parts_of c.args.parts.now in
    let last = parts_of c.many.new.parts in
    let x = c.in-Stream.field-0 in
    let es = c.in-Stream.es in
    ok_two c.many.result (λ q some. operands_of g n h c.args.kind.now (tree.Stream x es) first last c.in-Stream.is
    (stream_operands g n h x es first last (subst (λ l. Adds first last (AllTyped g h n l)) c.as_slice-in-Stream.ensures q)
    (λ same. sym c.as_slice-in-Stream.ensures ∙ none_of c.as_slice-in-Stream.result.now (omega (arith, some, same))))) c.many.ensures.adds c.many.ensures.some

pub typed::operands-returns-in-Stream-clause-breaks : goal.typed::operands-returns-in-Stream-clause-breaks
typed::operands-returns-in-Stream-clause-breaks t c =
    let g = given_of c.args.given.now in
    let f = c.args.walk.now.types in
    let n = c.args.walk.now.names in
    faults_weaker c.many.result _ _
    (λ rule line q. elements_fault g f f n n c.args.kind.now (tree.Stream c.in-Stream.field-0 c.in-Stream.es) rule line (used_same g f) refl c.in-Stream.is c.in-Stream.es c.as_slice-in-Stream.result.now
    (part.stream c.in-Stream.field-0 c.in-Stream.es) c.as_slice-in-Stream.ensures q)
    c.many.ensures.breaks

pub typed::elements_of-returns-clause-breaks : goal.typed::elements_of-returns-clause-breaks
typed::elements_of-returns-clause-breaks t c =
    let g = given_of c.args.given.now in
    let f = c.args.walk.now.types in
    let n = c.args.walk.now.names in
    let els = c.args.elements.now in
    faults_weaker c.many.result _ _
    (λ rule line q x. elements_fault g f c.one.new.walk.types n c.one.new.walk.names (tree.Array x (Some els)) (tree.Array x (Some els)) rule line c.in_ok-one.ensures.used c.in_ok-one.ensures.names refl
    (out-Elements els).values c.as_slice.result.now (part.array x els) c.as_slice.ensures q)
    c.many.ensures.breaks

pub typed::elements_of-returns-clause-adds : goal.typed::elements_of-returns-clause-adds
typed::elements_of-returns-clause-adds t c =
    let g = given_of c.args.given.now in
    let n = c.args.walk.now.names in
    let els = c.args.elements.now in
    let h0 = c.one.new.walk.types in
    let h = c.many.new.walk.types in
    let now = c.one.new.walk.names in
    let first = parts_of c.args.parts.now in
    let mid = parts_of c.one.new.parts in
    let last = parts_of c.many.new.parts in
    ok_two c.many.result (λ used q x. array_operands g n h0 h now x els first mid last used c.in_ok-one.ensures.names
    (subst (λ e. Adds first mid (AllOnes g h0 n (e ∷ []))) c.get.ensures c.in_ok-one.ensures.adds) c.in_ok-one.ensures.single
    (subst (λ es. Adds mid last (AllTyped g h now es)) c.as_slice.ensures q)) c.many.ensures.used c.many.ensures.adds

pub typed::elements_of-returns-clause-elements : goal.typed::elements_of-returns-clause-elements
typed::elements_of-returns-clause-elements t c =
    let p = spelled_parts.elements c.args.given.now.tokens.now (length c.args.given.now.spellings.now) c.args.walk.now.names.height c.args.elements.now c.requires.spelled in
    on_ok_weaker c.many.result (λ some. two_values c.args.parts.now.types c.one.new.parts.types c.many.new.parts.types c.in_ok-one.ensures.single.type c.as_slice.result.now (out-Elements c.args.elements.now).values
    c.in_ok-one.ensures.single.types c.as_slice.ensures p.2 some) c.many.ensures.some

pub cases::one_arm-returns-clause-some : goal.cases::one_arm-returns-clause-some
cases::one_arm-returns-clause-some t c =
    let r = c.in_ok-results.results in
    let p = spelled_parts.arm c.args.given.now.tokens.now (length c.args.given.now.spellings.now) (c.args.walk.now.names.height + content_levels c.args.done.now.name) c.args.arm.now c.requires.spelled in
    let some : 1 ≤ length r.types = some_on (out-Arm c.args.arm.now).results c.as_slice-2.result.now r.types c.as_slice-2.ensures p.2 c.in_ok-results.ensures.some in
    on_ok_weaker c.keep.result (λ k known. subst (λ o. IsSomeAnd o (λ ns. 1 ≤ length ns)) (sym k.types)
    (first_some c.enter.new.done.types r.types (subst (λ o. IfSome o (λ ns. 1 ≤ length ns)) (sym c.in_ok-enter.ensures.enters.types) known) some)) c.keep.ensures.keeps

pub cases::each_arm-returns-clause-some : goal.cases::each_arm-returns-clause-some
cases::each_arm-returns-clause-some t c = λ known le. (c.loop-arm.invariant.some known).1 (let end = c.loop-arm-test.false in omega (arith, end, le))

pub typed::applied-returns-clause-some : goal.typed::applied-returns-clause-some
typed::applied-returns-clause-some t c =
    if_ok_weaker c.finish.result (λ u is. finished_some c.operands.new.walk.types c.finish.new.walk.types c.args.line c.in_ok-head.head (parts_of c.operands.new.parts) u is) c.finish.ensures.finishes

pub typed::plain-returns-in-Constant-clause-some : goal.typed::plain-returns-in-Constant-clause-some
typed::plain-returns-in-Constant-clause-some t c = if_ok_weaker c.constant.result (λ u is. subst (λ x. 1 ≤ length x.types) (sym is) (omega arith)) c.constant.ensures.is

pub typed::plain-returns-in_ok-inner-in-Group-clause-some : goal.typed::plain-returns-in_ok-inner-in-Group-clause-some
typed::plain-returns-in_ok-inner-in-Group-clause-some t c = if_ok_weaker c.group.result (λ u is. subst (λ x. 1 ≤ length x.types) (sym is) c.in_ok-inner-in-Group.ensures.some) c.group.ensures.is

pub typed::plain-returns-in_ok-operands-in-Call-clause-some : goal.typed::plain-returns-in_ok-operands-in-Call-clause-some
typed::plain-returns-in_ok-operands-in-Call-clause-some t c =
    if_ok_weaker c.call.result (λ u is. call_some c.args.given.now c.all.new.walk.types c.call.new.walk.types c.args.e.now.line c.in-Call.x (parts_of c.in_ok-operands-in-Call.operands) u c.args.given.now.results is) c.call.ensures.calls

pub loops::looped-returns-in_ok-values-in-Product-clause-some : goal.loops::looped-returns-in_ok-values-in-Product-clause-some
loops::looped-returns-in_ok-values-in-Product-clause-some t c =
    let cs = c.in-Product.cs in
    let p = product_parts c.args.given.now.tokens.now (length c.args.given.now.spellings.now) c.args.walk.now.names.height c.args.l.now c.in-Product.gs c.in-Product.ds cs c.in-Product.is c.requires.spelled in
    let some : 1 ≤ length c.as_slice-in-Product-3.result.now = subst (λ l. 1 ≤ length l) (sym c.as_slice-in-Product-3.ensures) p.4 in
    let count : length c.in_ok-values-in-Product.values.types ≡ length cs = c.in_ok-values-in-Product.ensures.count ∙ ap length c.as_slice-in-Product-2.ensures in
    if_ok_weaker c.product.result (λ t has. has some (subst (λ k. 1 ≤ k) (sym count) p.4)) c.product.ensures.some

pub loops::looped-returns-in_ok-values-in-Initial-clause-some : goal.loops::looped-returns-in_ok-values-in-Initial-clause-some
loops::looped-returns-in_ok-values-in-Initial-clause-some t c =
    let cs = c.in-Initial.cs in
    let p = initial_parts c.args.given.now.tokens.now (length c.args.given.now.spellings.now) c.args.walk.now.names.height c.args.l.now c.in-Initial.ds c.in-Initial.turn cs c.in-Initial.is c.requires.spelled in
    let some : 1 ≤ length c.as_slice-in-Initial-3.result.now = subst (λ l. 1 ≤ length l) (sym c.as_slice-in-Initial-3.ensures) p.4 in
    let count : length c.in_ok-values-in-Initial.values.types ≡ length cs = c.in_ok-values-in-Initial.ensures.count ∙ ap length c.as_slice-in-Initial-2.ensures in
    if_ok_weaker c.initial.result (λ t has. has some (subst (λ k. 1 ≤ k) (sym count) p.4)) c.initial.ensures.some

pub cases::one_arm-all-requires : goal.cases::one_arm-all-requires
cases::one_arm-all-requires t c =
    let tokens = c.args.given.now.tokens.now in
    let names = length c.args.given.now.spellings.now in
    let h = c.args.walk.now.names.height in
    let x = c.args.done.now.name in
    let p = spelled_parts.arm tokens names (h + content_levels x) c.args.arm.now c.requires.spelled in
    let entered = c.in_ok-enter.ensures.enters in
    let up : c.enter.new.walk.names.height ≡ h + content_levels x = ap (λ s. s.height) entered.names ∙ content_height x entered.content c.args.walk.now.names in
    (search (rules, kinds.the_lemmas), subst (λ k. All (IsSpelled tokens names k) c.as_slice-2.result.now) (sym up) (subst (λ l. All (IsSpelled tokens names (h + content_levels x)) l) (sym c.as_slice-2.ensures) p.1))

pub cases::tag_case-each_arm-requires : goal.cases::tag_case-each_arm-requires
cases::tag_case-each_arm-requires t c =
    let tokens = c.args.given.now.tokens.now in
    let names = length c.args.given.now.spellings.now in
    let h = c.args.walk.now.names.height in
    let p = spelled_parts.tag_case tokens names h c.args.cases.now c.requires.spelled in
    let x = (out-TagCase c.args.cases.now).name in
    let done = c.in_ok-done.done in
    let begins = c.in_ok-done.ensures.begins in
    let same : c.only.new.walk.names.height + content_levels done.name ≡ h + content_levels x = ap (λ s. s.height + content_levels done.name) c.in_ok-subject.ensures.names ∙ ap (λ o. h + content_levels o) begins.name in
    let none : length done.results ≡ 0 = ap length begins.results in
    let count : length c.as_slice.result.now ≡ length (out-TagCase c.args.cases.now).arms = ap length c.as_slice.ensures in
    let few = p.1.few in (
      search (rules, kinds.the_lemmas),
      (
        subst (λ k. All (IsArm tokens names k) c.as_slice.result.now) (sym same) (subst (λ l. All (IsArm tokens names (h + content_levels x)) l) (sym c.as_slice.ensures) p.1.each),
        (subst (λ k. k ≤ 4294967295) (sym same) p.1.room, omega (arith, none, count, few)),
      ),
    )

pub cases::tag_case-last-requires : goal.cases::tag_case-last-requires
cases::tag_case-last-requires t c =
    let tokens = c.args.given.now.tokens.now in
    let names = length c.args.given.now.spellings.now in
    let h = c.args.walk.now.names.height in
    let p = spelled_parts.tag_case tokens names h c.args.cases.now c.requires.spelled in
    let last : All (IsSpelled tokens names h) c.in-Some.es × (1 ≤ length c.in-Some.es) = subst (λ o. AreLast tokens names h o) c.in-Some.is p.2 in
    let same : c.each_arm.new.walk.names ≡ c.args.walk.now.names = c.in_ok-each_arm.ensures.names ∙ c.in_ok-subject.ensures.names in
    (search (rules, kinds.the_lemmas), subst (λ n. All (IsSpelled tokens names n.height) c.as_slice-in-Some.result.now) (sym same) (subst (λ l. All (IsSpelled tokens names h) l) (sym c.as_slice-in-Some.ensures) last.0))

pub cases::tag_case-case-requires : goal.cases::tag_case-case-requires
cases::tag_case-case-requires t c =
    let tokens = c.args.given.now.tokens.now in
    let names = length c.args.given.now.spellings.now in
    let p = spelled_parts.tag_case tokens names c.args.walk.now.names.height c.args.cases.now c.requires.spelled in
    let done = c.each_arm.new.done in
    let few : 1 ≤ length c.as_slice.result.now = let same : length c.as_slice.result.now ≡ length (out-TagCase c.args.cases.now).arms = ap length c.as_slice.ensures in let some = p.1.some in omega (arith, same, some) in
    let first : IsSomeAnd done.types (λ ns. 1 ≤ length ns) = c.in_ok-each_arm.ensures.some (subst (λ o. IfSome o (λ ns. 1 ≤ length ns)) (sym c.in_ok-done.ensures.begins.types) tt) few in
    elim c.match-otherwise.branch [
      | cases::tag_case-in-Some+in_ok-last-in-Some w ↦ subst (λ x. IsSomeAnd x.types (λ ns. 1 ≤ length ns)) (sym w.done-is)
          (subst (λ o. IsSomeAnd o (λ ns. 1 ≤ length ns)) (sym w.in_ok-last-in-Some.ensures.adds.keeps.types) (first_stays done.types w.in_ok-last-in-Some.ensures.adds.types first))
      | cases::tag_case-in-None+in_ok-name_all-in-None w ↦ subst (λ x. IsSomeAnd x.types (λ ns. 1 ≤ length ns)) (sym w.done-is) first
    ]

pub defs::def-all-requires : goal.defs::def-all-requires
defs::def-all-requires t c =
    let tokens = c.args.given.now.tokens.now in
    let names = length c.args.given.now.spellings.now in
    let h = c.args.walk.now.names.height in
    let p = spelled_parts.def tokens names h c.args.d.now c.requires.spelled in
    (search (rules, kinds.the_lemmas), subst (λ l. All (IsSpelled tokens names h) l) (sym c.as_slice.ensures) p.3)

pub loops::looped-groups-requires : goal.loops::looped-groups-requires
loops::looped-groups-requires t c =
    let tokens = c.args.given.now.tokens.now in
    let names = length c.args.given.now.spellings.now in
    let h = c.args.walk.now.names.height in
    let p = product_parts tokens names h c.args.l.now c.in-Product.gs c.in-Product.ds c.in-Product.cs c.in-Product.is c.requires.spelled in
    (search (rules, kinds.the_lemmas), subst (λ l. AreGroups tokens names h l) (sym c.as_slice.ensures) p.0)

pub loops::looped-defs-requires : goal.loops::looped-defs-requires
loops::looped-defs-requires t c =
    let tokens = c.args.given.now.tokens.now in
    let names = length c.args.given.now.spellings.now in
    let h = c.args.walk.now.names.height in
    let p = product_parts tokens names h c.args.l.now c.in-Product.gs c.in-Product.ds c.in-Product.cs c.in-Product.is c.requires.spelled in
    let up : c.groups.new.walk.names.height ≡ h + groups_levels c.in-Product.gs = c.in_ok-goes-in-Product.ensures.height ∙ ap (λ l. h + groups_levels l) c.as_slice.ensures in
    (search (rules, kinds.the_lemmas), subst (λ k. AreDefs tokens names k c.as_slice-in-Product.result.now) (sym up) (subst (λ l. AreDefs tokens names (h + groups_levels c.in-Product.gs) l) (sym c.as_slice-in-Product.ensures) p.2))

pub loops::looped-clause_values-requires : goal.loops::looped-clause_values-requires
loops::looped-clause_values-requires t c =
    let tokens = c.args.given.now.tokens.now in
    let names = length c.args.given.now.spellings.now in
    let h = c.args.walk.now.names.height in
    let p = product_parts tokens names h c.args.l.now c.in-Product.gs c.in-Product.ds c.in-Product.cs c.in-Product.is c.requires.spelled in
    let up : c.groups.new.walk.names.height ≡ h + groups_levels c.in-Product.gs = c.in_ok-goes-in-Product.ensures.height ∙ ap (λ l. h + groups_levels l) c.as_slice.ensures in
    let d = c.in_ok-defined-in-Product.defined in
    let defined = c.in_ok-defined-in-Product.ensures in
    let high : c.defs.new.walk.names.height ≡ h + groups_levels c.in-Product.gs + defs_levels c.in-Product.ds =
    defined.height ∙ ap (λ k. k + length d.types) up ∙ ap (λ k. h + groups_levels c.in-Product.gs + k) (defined.levels ∙ ap defs_levels c.as_slice-in-Product.ensures) in (
      search (rules, kinds.the_lemmas),
      subst (λ k. All (IsClause tokens names k) c.as_slice-in-Product-2.result.now) (sym high)
          (subst (λ l. All (IsClause tokens names (h + groups_levels c.in-Product.gs + defs_levels c.in-Product.ds)) l) (sym c.as_slice-in-Product-2.ensures) p.3),
    )

pub loops::looped-product-requires : goal.loops::looped-product-requires
loops::looped-product-requires t c =
    let tokens = c.args.given.now.tokens.now in
    let names = length c.args.given.now.spellings.now in
    let p = product_parts tokens names c.args.walk.now.names.height c.args.l.now c.in-Product.gs c.in-Product.ds c.in-Product.cs c.in-Product.is c.requires.spelled in
    let g = given_of c.args.given.now in
    let h0 = c.groups.new.walk.types in
    let n = c.args.walk.now.names in
    let goes = c.in_ok-goes-in-Product.goes in
    let inside = c.groups.new.walk.names in
    let grouped : GroupsTyped g h0 n c.in-Product.gs (map group_of goes) inside = subst (λ l. GroupsTyped g h0 n l (map group_of goes) inside) c.as_slice.ensures c.in_ok-goes-in-Product.ensures.typed in
    subst (λ k. 1 ≤ k) (sym (groups_many g h0 n c.in-Product.gs goes inside grouped)) p.1

pub loops::looped-defs-requires-in-Initial : goal.loops::looped-defs-requires-in-Initial
loops::looped-defs-requires-in-Initial t c =
    let tokens = c.args.given.now.tokens.now in
    let names = length c.args.given.now.spellings.now in
    let h = c.args.walk.now.names.height in
    let p = initial_parts tokens names h c.args.l.now c.in-Initial.ds c.in-Initial.turn c.in-Initial.cs c.in-Initial.is c.requires.spelled in
    (search (rules, kinds.the_lemmas), subst (λ l. AreDefs tokens names h l) (sym c.as_slice-in-Initial.ensures) p.0)

pub loops::looped-turn_of-requires : goal.loops::looped-turn_of-requires
loops::looped-turn_of-requires t c =
    let tokens = c.args.given.now.tokens.now in
    let names = length c.args.given.now.spellings.now in
    let h = c.args.walk.now.names.height in
    let p = initial_parts tokens names h c.args.l.now c.in-Initial.ds c.in-Initial.turn c.in-Initial.cs c.in-Initial.is c.requires.spelled in
    let started = c.in_ok-started-in-Initial.ensures in
    let high : c.defs-in-Initial.new.walk.names.height ≡ h + defs_levels c.in-Initial.ds = started.height ∙ ap (λ k. h + k) (started.levels ∙ ap defs_levels c.as_slice-in-Initial.ensures) in
    let d = c.in_ok-started-in-Initial.started in
    let fits = in_use c.height-first.result h c.defs-in-Initial.new.walk.names.height (length d.targets) (length d.types) c.height-first.ensures started.height in
    (search (rules, kinds.the_lemmas), (fits, subst (λ k. IsTurn tokens names k c.in-Initial.turn) (sym high) p.2))

pub loops::looped-clause_values-requires-in-Initial : goal.loops::looped-clause_values-requires-in-Initial
loops::looped-clause_values-requires-in-Initial t c =
    let tokens = c.args.given.now.tokens.now in
    let names = length c.args.given.now.spellings.now in
    let h = c.args.walk.now.names.height in
    let p = initial_parts tokens names h c.args.l.now c.in-Initial.ds c.in-Initial.turn c.in-Initial.cs c.in-Initial.is c.requires.spelled in
    let started = c.in_ok-started-in-Initial.ensures in
    let high : c.defs-in-Initial.new.walk.names.height ≡ h + defs_levels c.in-Initial.ds = started.height ∙ ap (λ k. h + k) (started.levels ∙ ap defs_levels c.as_slice-in-Initial.ensures) in
    let after : c.turn_of.new.walk.names.height ≡ h + defs_levels c.in-Initial.ds = ap (λ s. s.height) c.in_ok-turned-in-Initial.ensures.names ∙ high in
    (search (rules, kinds.the_lemmas), subst (λ k. All (IsClause tokens names k) c.as_slice-in-Initial-2.result.now) (sym after) (subst (λ l. All (IsClause tokens names (h + defs_levels c.in-Initial.ds)) l) (sym c.as_slice-in-Initial-2.ensures) p.3))

pub turns::turn_of-turn_defs-requires : goal.turns::turn_of-turn_defs-requires
turns::turn_of-turn_defs-requires t c =
    let tokens = c.args.given.now.tokens.now in
    let names = length c.args.given.now.spellings.now in
    let h = c.args.walk.now.names.height in
    let p = spelled_parts.turn tokens names h c.args.turn.now c.requires.spelled in
    let d = c.args.started.now in
    let same = c.in_ok-tests.ensures.names in
    let fits = subst (λ s. c.args.first + min (length d.targets) (length d.types) ≤ s.height) (sym same) c.requires.fits in
    (search (rules, kinds.the_lemmas), (fits, subst (λ s. AreDefs tokens names s.height c.as_slice.result.now) (sym same) (subst (λ l. AreDefs tokens names h l) (sym c.as_slice.ensures) p.1)))

pub turns::turn_of-turn_defs-requires-else-is_first : goal.turns::turn_of-turn_defs-requires-else-is_first
turns::turn_of-turn_defs-requires-else-is_first t c =
    let tokens = c.args.given.now.tokens.now in
    let names = length c.args.given.now.spellings.now in
    let h = c.args.walk.now.names.height in
    let p = spelled_parts.turn tokens names h c.args.turn.now c.requires.spelled in
    (search (rules, kinds.the_lemmas), (c.requires.fits, subst (λ l. AreDefs tokens names h l) (sym c.as_slice-else-is_first.ensures) p.1))

pub typed::elements_of-many-requires : goal.typed::elements_of-many-requires
typed::elements_of-many-requires t c =
    let tokens = c.args.given.now.tokens.now in
    let names = length c.args.given.now.spellings.now in
    let h = c.args.walk.now.names.height in
    let p = spelled_parts.elements tokens names h c.args.elements.now c.requires.spelled in
    (search (rules, kinds.the_lemmas), subst (λ s. All (IsSpelled tokens names s.height) c.as_slice.result.now) (sym c.in_ok-one.ensures.names) (subst (λ l. All (IsSpelled tokens names h) l) (sym c.as_slice.ensures) p.1))

pub typed::typed-plain-requires : goal.typed::typed-plain-requires
typed::typed-plain-requires t c =
    let tokens = c.args.given.now.tokens.now in
    let names = length c.args.given.now.spellings.now in
    (omega (arith, c.decreases), (spelled_parts.expr tokens names c.args.walk.now.names.height c.args.e.now c.requires.spelled, search rules))

pub generators::generator-returns-in_ok-one-in-Some-clause-even : goal.generators::generator-returns-in_ok-one-in-Some-clause-even
generators::generator-returns-in_ok-one-in-Some-clause-even t c = on_ok_weaker c.keep.result (λ k. keeps_even _ _ _ _ (group_of c.args.made.now) (group_of c.keep.new.made) k) c.keep.ensures.keeps

pub generators::generator-returns-in-None-clause-even : goal.generators::generator-returns-in-None-clause-even
generators::generator-returns-in-None-clause-even t c = on_ok_weaker c.keep-in-None.result (λ k. keeps_even _ _ _ _ (group_of c.args.made.now) (group_of c.keep-in-None.new.made) k) c.keep-in-None.ensures.keeps

pub defs::defs-returns-clause-levels : goal.defs::defs-returns-clause-levels
defs::defs-returns-clause-levels t c =
    c.loop-d.invariant.typed.count ∙ ap (λ l. length (targets l)) (take_all c.loop-d.d-index c.args.ds.now c.loop-d-test.false) ∙ targets_levels c.args.ds.now

pub generators::groups-returns-clause-height : goal.generators::groups-returns-clause-height
generators::groups-returns-clause-height t c =
    let none : groups_levels (drop c.loop-g.g-index c.args.gs.now) ≡ 0 = ap groups_levels (drop_all c.loop-g.g-index c.args.gs.now c.loop-g-test.false) in
    let so = c.loop-g.invariant.height in
    omega (arith, none, so)

pub generators::one_group-enter-requires : goal.generators::one_group-enter-requires
generators::one_group-enter-requires t c =
    let gs = c.args.gs.now in
    let made = c.loop-g.made in
    let all : take c.loop-g.g-index gs ≡ gs = take_all c.loop-g.g-index gs (subst (λ l. length l ≤ c.loop-g.g-index) c.as_slice-g-items.ensures c.loop-g-test.false) in
    let many : length made.names ≡ group_levels gs = ap length (c.loop-g.invariant.front ∙ ap generators_in all) ∙ generators_levels gs in
    let same : c.loop-g.walk.names.height ≡ c.args.walk.now.names.height = ap (λ s. s.height) c.loop-g.invariant.names in
    let room = c.requires.room in
    omega (arith, many, same, room)

pub generators::one_group-returns-clause-height : goal.generators::one_group-returns-clause-height
generators::one_group-returns-clause-height t c =
    let gs = c.args.gs.now in
    let made = c.loop-g.made in
    let all : take c.loop-g.g-index gs ≡ gs = take_all c.loop-g.g-index gs (subst (λ l. length l ≤ c.loop-g.g-index) c.as_slice-g-items.ensures c.loop-g-test.false) in
    let many : length made.names ≡ group_levels gs = ap length (c.loop-g.invariant.front ∙ ap generators_in all) ∙ generators_levels gs in
    let same : c.loop-g.walk.names.height ≡ c.args.walk.now.names.height = ap (λ s. s.height) c.loop-g.invariant.names in
    let even : length made.types ≡ length made.names = c.loop-g.invariant.even in
    ok_both c.enter.result (λ m is names. let up = ap (λ s. s.height) names ∙ levels made.names made.types c.loop-g.walk.names even in omega (arith, up, even, many, same)) c.enter.ensures.same c.enter.ensures.names

pub cases::one_arm-enter-requires : goal.cases::one_arm-enter-requires
cases::one_arm-enter-requires t c =
    let p = spelled_parts.arm c.args.given.now.tokens.now (length c.args.given.now.spellings.now) (c.args.walk.now.names.height + content_levels c.args.done.now.name) c.args.arm.now c.requires.spelled in
    record { some = subst (λ l. 1 ≤ length l) (sym c.as_slice.ensures) p.0; room = c.requires.room; few = c.requires.few }

pub cases::each_arm-one_arm-requires : goal.cases::each_arm-one_arm-requires
cases::each_arm-one_arm-requires t c =
    let tokens = c.args.given.now.tokens.now in
    let names = length c.args.given.now.spellings.now in
    let h = c.args.walk.now.names.height in
    let x = c.args.done.now.name in
    let i = c.loop-arm.invariant in
    let same : c.loop-arm.walk.names.height + content_levels c.loop-arm.done.name ≡ h + content_levels x = ap (λ s. s.height + content_levels c.loop-arm.done.name) i.names ∙ ap (λ o. h + content_levels o) i.adds.name in
    let here : IsArm tokens names (h + content_levels x) c.arm-item.result = item_at (IsArm tokens names (h + content_levels x)) c.args.arms.now c.loop-arm.arm-index c.arm-item.result c.loop-arm-test.true c.arm-item.is c.requires.spelled in
    let few = c.requires.few in
    let count = i.count in
    let below = c.loop-arm-test.true in
    (search (rules, kinds.the_lemmas), (subst (λ k. IsArm tokens names k c.arm-item.result) (sym same) here, (subst (λ k. k ≤ 4294967295) (sym same) c.requires.room, omega (arith, few, count, below))))

pub cases::one_arm-returns-clause-name : goal.cases::one_arm-returns-clause-name
cases::one_arm-returns-clause-name t c = on_ok_weaker c.keep.result (λ k. k.name ∙ c.in_ok-enter.ensures.enters.name) c.keep.ensures.keeps

pub cases::one_arm-returns-clause-count : goal.cases::one_arm-returns-clause-count
cases::one_arm-returns-clause-count t c =
    on_ok_weaker c.keep.result (λ k. ap length k.results ∙ length-append c.enter.new.done.results _ ∙ ap (λ l. length l + 1) c.in_ok-enter.ensures.enters.results) c.keep.ensures.keeps

pub defs::def-enter-requires : goal.defs::def-enter-requires
defs::def-enter-requires t c =
    let tokens = c.args.given.now.tokens.now in
    let names = length c.args.given.now.spellings.now in
    let h = c.args.walk.now.names.height in
    let p = spelled_parts.def tokens names h c.args.d.now c.requires.spelled in
    let xs = c.as_slice-2.result.now in
    let is : xs ≡ (out-Def c.args.d.now).targets = c.as_slice-2.ensures in
    record {
      some = subst (λ l. 1 ≤ length l) (sym is) p.1;
      spelled = subst (λ l. All (IsTarget tokens names) l) (sym is) p.0;
      room = subst (λ s. s.height + length xs ≤ 4294967295) (sym c.in_ok-values.ensures.names) (subst (λ l. h + length l ≤ 4294967295) (sym is) p.2);
    }

pub defs::defs-def-requires : goal.defs::defs-def-requires
defs::defs-def-requires t c =
    (search (rules, kinds.the_lemmas), def_at c.args.given.now.tokens.now (length c.args.given.now.spellings.now) c.loop-d.walk.names.height c.args.ds.now c.loop-d.d-index c.d-item.result c.loop-d-test.true c.d-item.is c.loop-d.invariant.spelled)

pub cases::tag_case-overflow_cast-count : goal.cases::tag_case-overflow_cast-count
cases::tag_case-overflow_cast-count t c =
    let p = spelled_parts.tag_case c.args.given.now.tokens.now (length c.args.given.now.spellings.now) c.args.walk.now.names.height c.args.cases.now c.requires.spelled in
    let none : length c.in_ok-done.done.results ≡ 0 = ap length c.in_ok-done.ensures.begins.results in
    let same : length c.as_slice.result.now ≡ length (out-TagCase c.args.cases.now).arms = ap length c.as_slice.ensures in
    let few = p.1.few in
    let count = c.in_ok-each_arm.ensures.count in
    let is = c.len-count.ensures in
    omega (arith, none, same, few, count, is)

pub turns::turn_defs-defs-requires : goal.turns::turn_defs-defs-requires
turns::turn_defs-defs-requires t c =
    let tokens = c.args.given.now.tokens.now in
    let names = length c.args.given.now.spellings.now in
    (search (rules, kinds.the_lemmas), subst (λ k. AreDefs tokens names k c.args.ds.now) (sym c.in_ok-renewed.ensures.height) c.requires.spelled)
