use Rattle.std.proofs.Common.{◌≡◌, ◌∙◌, bytes_eq, if◌then◌else◌, length, map, Some, None, sym, ap}
use Rattle.std.proofs.lemmas.List.{length-map}
use Rattle.if1_graph.specs.Tables.{or_else}
use Rattle.if1_marks.specs.Given.{inside}
use Rattle.may_take.specs.Ports.{inside_by}
use Rattle.may_take.specs.Uses.{place_named}
use Rattle.may_take.proofs.Labels.{named-more}
use Rattle.may_take.proofs.Seen.{mapped-more}
use Rattle.may_take.proofs.functions.Functions.add.Goals as goal

pub returns-clause-known : goal.returns-clause-known
returns-clause-known c = λ u gs g name is known.
    let place = length c.as_slice-place.result.now in
    let count : place ≡ length gs =
    ap length c.as_slice-place.ensures.value ∙ (sym (length-map c.args.self.now.inputs.items inside_by) ∙ (ap length known.inputs ∙ length-map gs (inside u.types))) in
    record {
      names = λ text.
          c.in_ok-put.ensures text
          ∙ (ap (λ o. or_else o (if bytes_eq c.args.name.now text then Some place else None)) (known.names text)
          ∙ (ap (λ n. or_else (place_named gs text) (if bytes_eq n text then Some place else None)) (sym name)
          ∙ named-more gs g text place count));
      inputs = ap (map inside_by) c.in_ok-push.ensures.items ∙ mapped-more inside_by (inside u.types) c.args.self.now.inputs.items gs c.args.inputs g known.inputs is;
    }
