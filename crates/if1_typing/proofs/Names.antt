-- What stands beside names and labels.
use Rattle.std.proofs.Common.{◌≡◌, ℕ, ◌+◌, ◌<◌, take, cond, ◌==◌, Bool, true, false, if◌then◌else◌, List, [], ◌∷◌, ◌++◌, length, get_or, map, bytes_eq, Option, Some, None, option_map, inl, inr, refl, sym, ap, subst, ◌∙◌, ne_eqb}
use Rattle.std.proofs.lemmas.Bool.Decides.{eqb_tells}
use Rattle.std.proofs.lemmas.List.{take_more}
use Rattle.if1_graph.specs.declared.graph.Graph.{Graph}
use Rattle.if1_graph.specs.declared.graph.Graph.TheViews.{out-Graph}
use Rattle.if1_graph.specs.declared.graph.TypeEntry.{TypeEntry}
use Rattle.if1_graph.specs.declared.kind.TypeKind.{TypeKind}
use Rattle.if1_graph.specs.declared.kind.TypeKind.TheVariants as kind
use Rattle.if1_graph.specs.Tables.{◌>>=◌, or_else}
use Rattle.if1_graph.specs.Kinds.{kind_at}
use Rattle.if1_graph.specs.Types.{entry_at}
use Rattle.if1_graph.specs.Formed.{function_named}
use Rattle.if1_types.specs.Tables.{number_at, labels_in}
use Rattle.if1_ports.proofs.Tables.{find_push, or_else_map, if_map}
use Rattle.if1_typing.specs.Tables.{or_zero, type_number, is_function_kind, kind_in}

-- ---- names

-- the names of graphs, with one graph more
pub names_more : (n : ℕ → ℕ) (gs : List Graph) (i : ℕ) (g : Graph) → i < length gs → g ≡ get_or gs i g → (text : List ℕ) (old new : Option ℕ) →
    old ≡ option_map (λ g. n (out-Graph g).fun) (function_named (take i gs) text) →
    new ≡ or_else old (if bytes_eq (out-Graph g).name text then Some (n (out-Graph g).fun) else None) →
    new ≡ option_map (λ g. n (out-Graph g).fun) (function_named (take (i + 1) gs) text)
names_more n gs i g h is text old new was e =
    let f = λ (g : Graph). n (out-Graph g).fun in
    let more : take (i + 1) gs ≡ take i gs ++ g ∷ [] = take_more gs i g h ∙ ap (λ x. take i gs ++ x ∷ []) (sym is) in
    e
    ∙ ap (λ m. or_else m (if bytes_eq (out-Graph g).name text then Some (f g) else None)) was
    ∙ ap (or_else (option_map f (function_named (take i gs) text))) (if_map f (bytes_eq (out-Graph g).name text) g)
    ∙ or_else_map f (function_named (take i gs) text) (if bytes_eq (out-Graph g).name text then Some g else None)
    ∙ ap (option_map f) (sym (find_push (λ g. bytes_eq (out-Graph g).name text) (take i gs) g))
    ∙ ap (λ gs. option_map f (function_named gs text)) (sym more)

pub names_all : (n : ℕ → ℕ) (m : Option Graph) → or_zero (option_map (λ g. n (out-Graph g).fun) m) ≡ type_number n m
names_all n None = refl
names_all n (Some g) = refl

-- ---- kinds of types

abbrev code_or : Option TypeEntry → ℕ
code_or None = 0
code_or (Some e) = e.code

codes_are : (ts : List TypeEntry) (l : ℕ) → number_at (labels_in ts) (map (λ e. e.code) ts) l ≡ code_or (entry_at ts l)
codes_are [] l = refl
codes_are (e ∷ ts) l = step (e.label == l) (codes_are ts l)
  where
    step : (b : Bool) → number_at (labels_in ts) (map (λ e. e.code) ts) l ≡ code_or (entry_at ts l) →
        (if b then e.code else number_at (labels_in ts) (map (λ e. e.code) ts) l) ≡ code_or (cond b (Some e) (entry_at ts l))
    step true more = refl
    step false more = more

skipped : (b : Bool) (k : TypeKind) (rest : Option TypeKind) → is_function_kind (Some k) ≡ false → is_function_kind rest ≡ false →
    is_function_kind (if b then Some k else rest) ≡ false
skipped true k rest here there = here
skipped false k rest here there = there

missed : (b : Bool) (k : TypeKind) (rest : Option TypeKind) → b ≡ false → is_function_kind rest ≡ false → is_function_kind (if b then Some k else rest) ≡ false
missed b k rest miss there = subst (λ b. is_function_kind (if b then Some k else rest) ≡ false) (sym miss) there

other_kind : (code : ℕ) → (3 ≡ code → ⊥) → is_function_kind (kind_at code) ≡ false
other_kind code ne =
    skipped (0 == code) kind.Array _ refl
    (skipped (1 == code) kind.Basic _ refl
    (skipped (2 == code) kind.Field _ refl
    (missed (3 == code) kind.Function _ (ne_eqb 3 code ne)
    (skipped (4 == code) kind.Multiple _ refl
    (skipped (5 == code) kind.Record _ refl
    (skipped (6 == code) kind.Stream _ refl
    (skipped (7 == code) kind.Tag _ refl (skipped (8 == code) kind.Tuple _ refl (skipped (9 == code) kind.Union None refl refl)))))))))

code_kind : (code : ℕ) → (code == 3) ≡ is_function_kind (kind_at code)
code_kind code =
    elim (eqb_tells code 3) [
      | inl e ↦ e.0 ∙ sym (ap (λ c. is_function_kind (kind_at c)) e.1)
      | inr e ↦ e.0 ∙ sym (other_kind code (λ i. e.1 (sym i)))
    ]

pub function_code : (ts : List TypeEntry) (l : ℕ) → (number_at (labels_in ts) (map (λ e. e.code) ts) l == 3) ≡ is_function_kind (kind_in ts l)
function_code ts l = ap (λ c. c == 3) (codes_are ts l) ∙ by (entry_at ts l)
  where
    by : (m : Option TypeEntry) → (code_or m == 3) ≡ is_function_kind (m >>= λ e. kind_at e.code)
    by None = refl
    by (Some e) = code_kind e.code
