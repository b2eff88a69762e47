-- The stack of values.
use Rattle.std.specs.Prelude.{◌<◌, List, [], ◌∷◌}
use Rattle.sisal_grammar.specs.declared.value.Value.{Value}
use Rattle.sisal_grammar.specs.declared.value.Value.TheVariants as value
use Rattle.sisal_grammar.specs.Sorts.{Sort, a_token, nothing, an_outline, names, an_item, items, a_type, types, a_field, fields, a_header, an_expr, exprs, maybe_expr, maybe_exprs, tail, a_post, posts, a_bracket, a_value, values, maybe_name, maybe_elements, a_subject, a_rest, an_arm, arms, a_loop, a_gen, gens, groups, a_def, defs, a_target, targets, maybe_type, a_turn, a_test, a_clause, clauses, a_kind, a_reduction, maybe_mask}
use Rattle.sisal_grammar.specs.declared.value.Placed.{Placed}
use Rattle.sisal_lex.specs.declared.token.Kind.TheVariants.{Letter}

-- The value is of this kind. The place behind a token is a number of 32 bits, as it is in every text.
abbrev pub IsSort : Sort → Value → Type 0
IsSort a_token (value.AToken v) = v.place < 4294967295
IsSort a_token _ = ⊥
IsSort nothing value.Nothing = Unit {0}
IsSort nothing _ = ⊥
IsSort an_outline (value.AnOutline v) = Unit {0}
IsSort an_outline _ = ⊥
IsSort names (value.Names v) = Unit {0}
IsSort names _ = ⊥
IsSort an_item (value.AnItem v) = Unit {0}
IsSort an_item _ = ⊥
IsSort items (value.Items v) = Unit {0}
IsSort items _ = ⊥
IsSort a_type (value.AType v) = Unit {0}
IsSort a_type _ = ⊥
IsSort types (value.Types v) = Unit {0}
IsSort types _ = ⊥
IsSort a_field (value.AField v) = Unit {0}
IsSort a_field _ = ⊥
IsSort fields (value.Fields v) = Unit {0}
IsSort fields _ = ⊥
IsSort a_header (value.AHeader v) = Unit {0}
IsSort a_header _ = ⊥
IsSort an_expr (value.AnExpr v) = Unit {0}
IsSort an_expr _ = ⊥
IsSort exprs (value.Exprs v) = Unit {0}
IsSort exprs _ = ⊥
IsSort maybe_expr (value.MaybeExpr v) = Unit {0}
IsSort maybe_expr _ = ⊥
IsSort maybe_exprs (value.MaybeExprs v) = Unit {0}
IsSort maybe_exprs _ = ⊥
IsSort tail (value.Tail v) = Unit {0}
IsSort tail _ = ⊥
IsSort a_post (value.APost v) = Unit {0}
IsSort a_post _ = ⊥
IsSort posts (value.Posts v) = Unit {0}
IsSort posts _ = ⊥
IsSort a_bracket (value.ABracket v) = Unit {0}
IsSort a_bracket _ = ⊥
IsSort a_value (value.AValue v) = Unit {0}
IsSort a_value _ = ⊥
IsSort values (value.Values v) = Unit {0}
IsSort values _ = ⊥
IsSort maybe_name (value.MaybeName v) = Unit {0}
IsSort maybe_name _ = ⊥
IsSort maybe_elements (value.MaybeElements v) = Unit {0}
IsSort maybe_elements _ = ⊥
IsSort a_subject (value.ASubject v) = Unit {0}
IsSort a_subject _ = ⊥
IsSort a_rest (value.ARest v) = Unit {0}
IsSort a_rest _ = ⊥
IsSort an_arm (value.AnArm v) = Unit {0}
IsSort an_arm _ = ⊥
IsSort arms (value.Arms v) = Unit {0}
IsSort arms _ = ⊥
IsSort a_loop (value.ALoop v) = Unit {0}
IsSort a_loop _ = ⊥
IsSort a_gen (value.AGen v) = Unit {0}
IsSort a_gen _ = ⊥
IsSort gens (value.Gens v) = Unit {0}
IsSort gens _ = ⊥
IsSort groups (value.Groups v) = Unit {0}
IsSort groups _ = ⊥
IsSort a_def (value.ADef v) = Unit {0}
IsSort a_def _ = ⊥
IsSort defs (value.Defs v) = Unit {0}
IsSort defs _ = ⊥
IsSort a_target (value.ATarget v) = Unit {0}
IsSort a_target _ = ⊥
IsSort targets (value.Targets v) = Unit {0}
IsSort targets _ = ⊥
IsSort maybe_type (value.MaybeType v) = Unit {0}
IsSort maybe_type _ = ⊥
IsSort a_turn (value.ATurn v) = Unit {0}
IsSort a_turn _ = ⊥
IsSort a_test (value.ATest v) = Unit {0}
IsSort a_test _ = ⊥
IsSort a_clause (value.AClause v) = Unit {0}
IsSort a_clause _ = ⊥
IsSort clauses (value.Clauses v) = Unit {0}
IsSort clauses _ = ⊥
IsSort a_kind (value.AKind v) = Unit {0}
IsSort a_kind _ = ⊥
IsSort a_reduction (value.AReduction v) = Unit {0}
IsSort a_reduction _ = ⊥
IsSort maybe_mask (value.MaybeMask v) = Unit {0}
IsSort maybe_mask _ = ⊥

-- Values of these kinds are on top.
abbrev pub Tops : List Sort → List Value → Type 0
Tops [] s = Unit {0}
Tops (k ∷ ks) [] = ⊥
Tops (k ∷ ks) (x ∷ s) = IsSort k x × Tops ks s
