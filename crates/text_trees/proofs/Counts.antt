-- Tokens bring no more names into force than they are.
use Rattle.std.proofs.Common.{◌≤◌, ◌+◌, ℕ, List, ◌∷◌, ◌++◌, Option, length, sym, subst, arith, length-append}
use Rattle.sisal_tree.specs.declared.unit.Field.{Field}
use Rattle.sisal_tree.specs.declared.expr.Arm.{Arm}
use Rattle.sisal_tree.specs.declared.expr.Def.{Def, out-Def}
use Rattle.sisal_tree.specs.declared.expr.Target.{Target}
use Rattle.sisal_tree.specs.declared.expr.Generator.{Generator, out-Generator}
use Rattle.sisal_tree.specs.declared.unit.Named.{Named}
use Rattle.sisal_grammar.specs.declared.value.Placed.{Placed}
use Rattle.sisal_grammar.specs.Acts.{named}
use Rattle.sisal_grammar.specs.Phrases.{Phrase, Meant, many, maybe, arm, at_name, binding, comma_name, comma_target, cross_group, def, defs, dot_gen, field, fields, gen, group, semi_def, semi_field, target}
use Rattle.sisal_grammar.specs.Spells as grammar
use Rattle.sisal_grammar.specs.Spells.{Spells, listed}
use Rattle.text_trees.specs.Spelled.{defs_levels, index_levels, group_levels, groups_levels, content_levels, params_levels}
use Rattle.text_trees.proofs.Views.{out_def, out_generator}

-- ---- lists of what takes a token at least

many_counted : (p : Phrase) → ((ts : List Placed) (a : Meant p) → Spells p ts a → 1 ≤ length ts) → (ts : List Placed) (l : List (Meant p)) → Spells (many p) ts l → length l ≤ length ts
many_counted p some _ _ grammar.nothing = omega arith
many_counted p some _ _ (grammar.more {ts = ts} {us = us} {a = a} {l = l} p0 p1) =
    let first = some ts a p0 in let rest = many_counted p some us l p1 in omega (arith, first, rest, length-append ts us)

name_some : (ts : List Placed) (n : Named) → Spells comma_name ts n → 1 ≤ length ts
name_some _ _ (grammar.comma_name_is i0 i1) = omega arith

pub target_some : (ts : List Placed) (x : Target) → Spells target ts x → 1 ≤ length ts
target_some _ _ (grammar.target_is i0 p0) = omega arith

comma_target_some : (ts : List Placed) (x : Target) → Spells comma_target ts x → 1 ≤ length ts
comma_target_some _ _ (grammar.comma_target_is i0 p0) = omega arith

pub arm_some : (ts : List Placed) (a : Arm) → Spells arm ts a → 1 ≤ length ts
arm_some _ _ (grammar.arm_is i0 i1 p0 i2 p1) = omega arith

names_counted : (ts : List Placed) (ns : List Named) → Spells (many comma_name) ts ns → length ns ≤ length ts
names_counted ts ns p = many_counted comma_name name_some ts ns p

pub targets_counted : (ts : List Placed) (xs : List Target) → Spells (many comma_target) ts xs → length xs ≤ length ts
targets_counted ts xs p = many_counted comma_target comma_target_some ts xs p

pub arms_counted : (ts : List Placed) (bs : List Arm) → Spells (many arm) ts bs → length bs ≤ length ts
arms_counted ts bs p = many_counted arm arm_some ts bs p

-- ---- definitions

pub def_counted : (ts : List Placed) (d : Def) → Spells def ts d → length (out-Def d).targets ≤ length ts
def_counted _ _ (grammar.def_is {t = t} {ts = ts} {us = us} {vs = vs} {x = x} {l = l} {es = es} p0 p1 i0 p2) =
    let one = target_some ts x p0 in
    let more = targets_counted us l p1 in
    let counted : length (x ∷ l) ≤ length (ts ++ (us ++ (t ∷ vs))) = omega (arith, one, more, length-append ts (us ++ (t ∷ vs)), length-append us (t ∷ vs)) in
    subst (λ z. length z.targets ≤ length (ts ++ (us ++ (t ∷ vs)))) (sym (out_def (x ∷ l) es)) counted

pub semi_def_counted : (ts : List Placed) (d : Def) → Spells semi_def ts d → length (out-Def d).targets ≤ length ts
semi_def_counted _ _ (grammar.semi_def_is {ts = ts} {d = d} i0 p0) = let rest = def_counted ts d p0 in omega (arith, rest)

semi_defs_counted : (ts : List Placed) (ds : List Def) → Spells (many semi_def) ts ds → defs_levels ds ≤ length ts
semi_defs_counted _ _ grammar.nothing = omega arith
semi_defs_counted _ _ (grammar.more {ts = ts} {us = us} {a = d} {l = ds} p0 p1) =
    let first = semi_def_counted ts d p0 in let rest = semi_defs_counted us ds p1 in omega (arith, first, rest, length-append ts us)

pub defs_counted : (ts : List Placed) (ds : List Def) → Spells defs ts ds → defs_levels ds ≤ length ts
defs_counted _ _ (grammar.defs_are {ts = ts} {us = us} {vs = vs} {d = d} {l = ds} p0 p1 p2) =
    let first = def_counted ts d p0 in let rest = semi_defs_counted us ds p1 in omega (arith, first, rest, length-append ts (us ++ vs), length-append us vs)

pub maybe_defs_counted : (ts : List Placed) (ds : Option (List Def)) → Spells (maybe defs) ts ds → defs_levels (listed ds) ≤ length ts
maybe_defs_counted _ _ grammar.absent = omega arith
maybe_defs_counted _ _ (grammar.present {ts = ts} {a = ds} p0) = defs_counted ts ds p0

-- ---- generators

index_counted : (ts : List Placed) (n : Option ℕ) → Spells (maybe at_name) ts n → index_levels n ≤ length ts
index_counted _ _ grammar.absent = omega arith
index_counted _ _ (grammar.present (grammar.at_name_is i0 i1)) = omega arith

gen_counted : (ts : List Placed) (g : Generator) → Spells gen ts g → 1 + index_levels (out-Generator g).at ≤ length ts
gen_counted _ _ (grammar.gen_is {t = t} {u = u} {ts = ts} {us = us} {vs = vs} {e = e} {o = o} {n = n} i0 i1 p0 p1 p2) =
    let index = index_counted vs n p2 in
    let counted : 1 + index_levels n ≤ length (t ∷ u ∷ (ts ++ (us ++ vs))) = omega (arith, index, length-append ts (us ++ vs), length-append us vs) in
    subst (λ z. 1 + index_levels z.at ≤ length (t ∷ u ∷ (ts ++ (us ++ vs)))) (sym (out_generator (named t) e o n)) counted

dot_gen_counted : (ts : List Placed) (g : Generator) → Spells dot_gen ts g → 1 + index_levels (out-Generator g).at ≤ length ts
dot_gen_counted _ _ (grammar.dot_gen_is {ts = ts} {g = g} i0 p0) = let rest = gen_counted ts g p0 in omega (arith, rest)

dot_gens_counted : (ts : List Placed) (gs : List Generator) → Spells (many dot_gen) ts gs → group_levels gs ≤ length ts
dot_gens_counted _ _ grammar.nothing = omega arith
dot_gens_counted _ _ (grammar.more {ts = ts} {us = us} {a = g} {l = gs} p0 p1) =
    let first = dot_gen_counted ts g p0 in let rest = dot_gens_counted us gs p1 in omega (arith, first, rest, length-append ts us)

pub group_counted : (ts : List Placed) (gs : List Generator) → Spells group ts gs → group_levels gs ≤ length ts
group_counted _ _ (grammar.group_is {ts = ts} {us = us} {g = g} {gs = gs} p0 p1) =
    let first = gen_counted ts g p0 in let rest = dot_gens_counted us gs p1 in omega (arith, first, rest, length-append ts us)

pub cross_group_counted : (ts : List Placed) (gs : List Generator) → Spells cross_group ts gs → group_levels gs ≤ length ts
cross_group_counted _ _ (grammar.cross_group_is {ts = ts} {g = gs} i0 p0) = let rest = group_counted ts gs p0 in omega (arith, rest)

pub cross_groups_counted : (ts : List Placed) (gs : List (List Generator)) → Spells (many cross_group) ts gs → groups_levels gs ≤ length ts
cross_groups_counted _ _ grammar.nothing = omega arith
cross_groups_counted _ _ (grammar.more {ts = ts} {us = us} {a = g} {l = gs} p0 p1) =
    let first = cross_group_counted ts g p0 in let rest = cross_groups_counted us gs p1 in omega (arith, first, rest, length-append ts us)

-- ---- the content of a `tagcase`

pub content_counted : (ts : List Placed) (n : Option ℕ) → Spells (maybe binding) ts n → content_levels n ≤ length ts
content_counted _ _ grammar.absent = omega arith
content_counted _ _ (grammar.present (grammar.binding_is i0 i1)) = omega arith

-- ---- parameters

field_counted : (ts : List Placed) (f : Field) → Spells field ts f → length f.names ≤ length ts
field_counted _ _ (grammar.field_is {u = u} {ts = ts} {us = us} {ns = ns} i0 p0 i1 p1) =
    let rest = names_counted ts ns p0 in omega (arith, rest, length-append ts (u ∷ us))

semi_field_counted : (ts : List Placed) (f : Field) → Spells semi_field ts f → length f.names ≤ length ts
semi_field_counted _ _ (grammar.semi_field_is {ts = ts} {f = f} i0 p0) = let rest = field_counted ts f p0 in omega (arith, rest)

semi_fields_counted : (ts : List Placed) (fs : List Field) → Spells (many semi_field) ts fs → params_levels fs ≤ length ts
semi_fields_counted _ _ grammar.nothing = omega arith
semi_fields_counted _ _ (grammar.more {ts = ts} {us = us} {a = f} {l = fs} p0 p1) =
    let first = semi_field_counted ts f p0 in let rest = semi_fields_counted us fs p1 in omega (arith, first, rest, length-append ts us)

pub params_counted : (ts : List Placed) (fs : Option (List Field)) → Spells (maybe fields) ts fs → params_levels (listed fs) ≤ length ts
params_counted _ _ grammar.absent = omega arith
params_counted _ _ (grammar.present (grammar.fields_are {ts = ts} {us = us} {vs = vs} {f = f} {l = fs} p0 p1 p2)) =
    let first = field_counted ts f p0 in let rest = semi_fields_counted us fs p1 in omega (arith, first, rest, length-append ts (us ++ vs), length-append us vs)
