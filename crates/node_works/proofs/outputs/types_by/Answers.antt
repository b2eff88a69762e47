use Rattle.std.proofs.Common.{◌∙◌, length, map, sym, ap, arith}
use Rattle.std.proofs.lemmas.List.{drop_all}
use Rattle.node_works.specs.Tables.{first_leaving}
use Rattle.node_works.proofs.Noted.{none-leaving}
use Rattle.node_works.proofs.outputs.types_by.Goals as goal

pub loop-index-init : goal.loop-index-init
loop-index-init c =
    let es = c.args.edges.now in
    record {
      inside = omega arith;
      types = c.in_ok-types.ensures ∙ none-leaving c.args.labels.now ∙ ap (λ es. map (first_leaving es) c.args.labels.now) (sym (drop_all (length es) es (omega arith)));
    }
