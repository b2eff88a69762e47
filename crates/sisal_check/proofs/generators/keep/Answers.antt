use Rattle.std.proofs.Common.{[], ◌∷◌, ◌++◌, refl, sym, ap, subst, ◌∙◌}
use Rattle.std.proofs.lemmas.List.{append_assoc}
use Rattle.typing_laws.specs.Looping.{GoesOver, index_names, index_types}
use Rattle.sisal_check.proofs.generators.keep.Goals as goal

pub returns-in_err-source-clause-front : goal.returns-in_err-source-clause-front
returns-in_err-source-clause-front c = (c.args.name ∷ index_names c.args.at c.args.name.line, refl)

pub returns-in_err-add-clause-front : goal.returns-in_err-add-clause-front
returns-in_err-add-clause-front c = (c.args.name ∷ index_names c.args.at c.args.name.line, refl)

pub returns-in_err-append-clause-front : goal.returns-in_err-append-clause-front
returns-in_err-append-clause-front c = (c.args.name ∷ index_names c.args.at c.args.name.line, refl)

pub returns-in_err-add-2-clause-front : goal.returns-in_err-add-2-clause-front
returns-in_err-add-2-clause-front c =
    (c.args.name ∷ index_names c.args.at c.args.name.line, ap (λ l. l ++ (c.args.name ∷ index_names c.args.at c.args.name.line)) (sym c.in_err-add-2.ensures.err))

pub returns-in_err-add-3-clause-front : goal.returns-in_err-add-3-clause-front
returns-in_err-add-3-clause-front c = (
  index_names c.args.at c.args.name.line,
  sym (append_assoc c.args.made.now.names (c.args.name ∷ []) (index_names c.args.at c.args.name.line)) ∙ ap (λ l. l ++ index_names c.args.at c.args.name.line) (sym c.in_ok-add-2.ensures.ok),
)

pub returns-clause-keeps : goal.returns-clause-keeps
returns-clause-keeps c = record {
  from = c.in_ok-source.source;
  type = c.in_ok-source.ty;
  over = subst (λ b. GoesOver c.args.walk.now.types c.args.bounds.types b c.in_ok-source.source c.in_ok-source.ty) c.is_some.ensures
      (subst (λ l. GoesOver c.args.walk.now.types l c.is_some.result c.in_ok-source.source c.in_ok-source.ty) c.as_slice.ensures c.in_ok-source.ensures.over);
  sources = c.in_ok-keep_index.ensures.sources ∙ c.in_ok-add.ensures.ok;
  bounds = c.in_ok-keep_index.ensures.bounds ∙ c.in_ok-append.ensures;
  names = c.in_ok-keep_index.ensures.names ∙ ap (λ l. l ++ index_names c.args.at c.args.name.line) c.in_ok-add-2.ensures.ok ∙ append_assoc c.args.made.now.names (c.args.name ∷ []) (index_names c.args.at c.args.name.line);
  types = c.in_ok-keep_index.ensures.types ∙ ap (λ l. l ++ index_types c.args.at) c.in_ok-add-3.ensures.ok ∙ append_assoc c.args.made.now.types (c.in_ok-source.ty ∷ []) (index_types c.args.at);
}
