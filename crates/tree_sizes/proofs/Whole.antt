-- Sizes of functions, one after another.
use Rattle.std.proofs.Common.{◌≡◌, ◌∙◌, ℕ, suc, ◌+◌, ◌<◌, Bool, List, [], ◌∷◌, map, length, drop, get_or, Option, Some, sym, ap, refl, arith, max}
use Rattle.std.specs.Prelude.{◌||◌, nat_lt, if◌then◌else◌}
use Rattle.std.proofs.Math.Seq.{drop-cons}
use Rattle.type_table.specs.declared.form.Form.{Form}
use Rattle.typed_tree.specs.declared.expr.TypedExpr.{TypedExpr}
use Rattle.typed_tree.specs.declared.program.Function.{Function}
use Rattle.lowering.specs.TooMany.{most_nodes, most_graphs, most_ports}
use Rattle.lowered_sizes.specs.declared.sizes.Sizes.{Sizes}
use Rattle.lowered_sizes.specs.Counting.{beside, a_node, capped, capped_sizes}
use Rattle.lowered_sizes.specs.Forms.{all_sized, sizes}
use Rattle.lowered_sizes.specs.Programs.{stub_sized, function_sized, sizes_over}
use Rattle.tree_sizes.specs.Phrases.{phrases}
use Rattle.tree_sizes.proofs.Kept.{sizes_of, same-sizes}

one-more : (k : ℕ) → beside (a_node 0 1) (sizes_of k 0 0 k k) ≡ sizes_of (suc k) 0 0 (suc k) (suc k)
one-more k = same-sizes (1 + k) (0 + 0) (max 0 0) (1 + k) (1 + k) (suc k) 0 0 (suc k) (suc k) (omega arith) (omega arith) (omega arith) (omega arith) (omega arith)

pub stubs-are : (ts : List ℕ) (n : ℕ) → all_sized (map stub_sized ts) n ≡ sizes_of (length ts) 0 0 (length ts) (length ts)
stubs-are [] n = refl
stubs-are (t ∷ ts) n = ap (beside (a_node 0 1)) (stubs-are ts n) ∙ one-more (length ts)

pub stubs-kept : (a k : ℕ) → a ≡ capped k → sizes_of a 0 0 a a ≡ capped_sizes (sizes_of k 0 0 k k)
stubs-kept a k e = ap (λ i. sizes_of i 0 0 i i) e

pub phrases-are : (forms : List Form) (es : List TypedExpr) → phrases forms es ≡ map (sizes forms) es
phrases-are forms [] = refl
phrases-are forms (e ∷ es) = ap (λ l. sizes forms e ∷ l) (phrases-are forms es)

-- too much with one function more
abbrev pub exceeds : Sizes → (graphs ports : ℕ) → Bool
exceeds s graphs ports = nat_lt most_nodes s.largest || (nat_lt most_graphs (graphs + s.graphs) || nat_lt most_ports (ports + s.ports))

abbrev pub line_if : Bool → ℕ → Option ℕ → Option ℕ
line_if b line others = if b then Some line else others

pub over-step : (forms : List Form) (fs : List Function) (i : ℕ) (f : Function) (g p : ℕ) → i < length fs → f ≡ get_or fs i f
    → sizes_over forms (drop i fs) g p
    ≡ line_if (exceeds (function_sized forms f) g p) f.line (sizes_over forms (drop (i + 1) fs) (g + (function_sized forms f).graphs) (p + (function_sized forms f).ports))
over-step forms fs i f g p lt here =
    let cons : drop i fs ≡ f ∷ drop (suc i) fs = drop-cons fs i f lt ∙ ap (λ x. x ∷ drop (suc i) fs) (sym here) in
    let s = function_sized forms f in
    let further : suc i ≡ i + 1 = omega arith in
    ap (λ l. sizes_over forms l g p) cons ∙ ap (λ j. line_if (exceeds s g p) f.line (sizes_over forms (drop j fs) (g + s.graphs) (p + s.ports))) further
