use Rattle.std.proofs.Common.{◌≡◌, ◌∙◌, ap, sym, map, vec_items, bytes_eq, List, ℕ, not, arith}
use Rattle.std.proofs.lemmas.List.Sums.{prefix_len-le-length}
use Rattle.std.specs.List.{position_or_len}
use Rattle.sisal_lex.specs.Names.{used}
use Rattle.sisal_lex.proofs.Keys.{keys-map, place-map}
use Rattle.sisal_lex.proofs.names.Names.number_of.Goals as goal

pub returns-clause-names : goal.returns-clause-names
returns-clause-names c =
    ap (map vec_items) c.in_ok-number.ensures.keys
    ∙ keys-map vec_items c.into_vec.result c.self.inside.set.keys
    ∙ ap (λ names. used names (vec_items c.into_vec.result)) c.self.view_is
    ∙ ap (used c.args.self.now) c.into_vec.ensures

pub returns-clause-number : goal.returns-clause-number
returns-clause-number c =
    c.in_ok-number.ensures.index
    ∙ place-map vec_items c.into_vec.result c.self.inside.set.keys
    ∙ ap (position_or_len (bytes_eq (vec_items c.into_vec.result))) c.self.view_is
    ∙ ap (λ name. position_or_len (bytes_eq name) c.args.self.now) c.into_vec.ensures

pub returns-clause-bound : goal.returns-clause-bound
returns-clause-bound c =
    let e = returns-clause-number c in
    let p = bytes_eq c.args.name in
    let h = prefix_len-le-length (λ n. not (p n)) c.args.self.now in
    omega (arith, e, h)
