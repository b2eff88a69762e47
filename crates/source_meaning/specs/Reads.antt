-- Whether an expression reads the value at a level. Names that come into force inside of it stand at the levels behind those that
-- are in force around it, so a level stands for the same name in every part.
use Rattle.std.specs.Prelude.{ℕ, Bool, false, ◌||◌, List, [], ◌∷◌, map, nat_eq}
use Rattle.typed_tree.specs.declared.expr.TypedExpr.{TypedExpr}
use Rattle.typed_tree.specs.declared.expr.TypedKind.{TypedKind}
use Rattle.typed_tree.specs.declared.expr.TypedKind.TheOpen.{TypedKind-F, TypedExpr-F}
use Rattle.typed_tree.specs.declared.expr.TypedKind.TheFolds.{fold-TypedExpr, fold-TypedKind}

abbrev pub some : List Bool → Bool
some [] = false
some (b ∷ bs) = b || some bs

abbrev pub some_in : List (List Bool) → Bool
some_in [] = false
some_in (bs ∷ more) = some bs || some_in more

-- whether a form reads the value at a level, by whether its parts do
abbrev pub form_reads : ℕ → TypedKind-F Bool Bool → Bool
form_reads l (TypedKind-F.Constant c) = false
form_reads l (TypedKind-F.Value x) = nat_eq x l
form_reads l (TypedKind-F.Group es) = some es
form_reads l (TypedKind-F.Call f es) = some es
form_reads l (TypedKind-F.Apply op es) = some es
form_reads l (TypedKind-F.Let ds es) = some_in ds || some es
form_reads l (TypedKind-F.If ts ys ns) = some ts || (some ys || some ns)
form_reads l (TypedKind-F.Case c us arms) = some us || some_in arms
form_reads l (TypedKind-F.Product p bs ds es) = some bs || (some_in ds || some es)
form_reads l (TypedKind-F.Initial t fs ts ds es) = some_in fs || (some ts || (some_in ds || some es))

abbrev pub expr_reads : TypedExpr-F Bool Bool → Bool
expr_reads e = e.kind

-- whether an expression reads the value at a level
abbrev pub reads : ℕ → TypedExpr → Bool
reads l = fold-TypedExpr Bool Bool (form_reads l) expr_reads

abbrev pub kind_reads : ℕ → TypedKind → Bool
kind_reads l = fold-TypedKind Bool Bool (form_reads l) expr_reads

-- whether one of some expressions, or of some definitions, does
abbrev pub list_reads : ℕ → List TypedExpr → Bool
list_reads l es = some (map (reads l) es)

abbrev pub defs_read : ℕ → List (List TypedExpr) → Bool
defs_read l ds = some_in (map (map (reads l)) ds)
