-- Each fault of a line of graphs is found, or one of the same line and of no greater number.
use Rattle.std.proofs.Common.{◌≡◌, ℕ, suc, ◌<◌, ◌≤◌, Bool, true, false, ◌||◌, List, [], ◌∷◌, ◌++◌, map, length, Option, Some, None, IsSome, ◌⊎◌, inl, inr, if◌then◌else◌, refl, sym, ap, subst, ◌∙◌, arith, append_assoc, true≢false}
use Rattle.std.specs.Prelude.{Contains, is_some, nat_le, nat_lt, ◌==◌}
use Rattle.std.proofs.lemmas.Bool.{le-leb, lt-ltb}
use Rattle.std.proofs.lemmas.Bool.Decides.{eqb_tells}
use Rattle.std.proofs.lemmas.List.{length-map}
use Rattle.std.proofs.lemmas.List.Elements.{Contains-append_left, Contains-append_right}
use Rattle.if1_graph.specs.declared.line.Line.{Line}
use Rattle.if1_graph.specs.declared.line.Line.TheVariants as line
use Rattle.if1_graph.specs.declared.graph.TypeEntry.{TypeEntry}
use Rattle.if1_graph.specs.Ops.{simple_at, compound_at}
use Rattle.if1_graph.specs.Types.{entry_at}
use Rattle.if1_graph.specs.Units.{most_levels}
use Rattle.if1_graph.specs.Formed.{IsType, HasReal, IsOpcode, most, itself, within}
use Rattle.if1_graph.specs.Reads.{is_of_graph}
use Rattle.if1_read.specs.declared.fault.Kind.{Kind}
use Rattle.if1_read.specs.declared.fault.Kind.TheVariants.{Bad, Unknown, Real, TooMany}
use Rattle.if1_read.specs.declared.fault.Fault.{Fault}
use Rattle.if1_read.specs.Faults.{Layer, next, layers, layers_from, unit_alone, is_placed, graphs_in, home, own, node_on, type_on, nodes_of, types, rank, IsFault, misplaced, miscounted, type_again, node_again, wrong_literal, no_opcode, no_type, no_import_type, no_part, real_type, too_many_types, too_many_nodes, too_deep as deep_fault}
use Rattle.if1_read.specs.Least.{noted}
use Rattle.if1_read.specs.Pages.{Lit, lit_on, Page, Sheet, Rules, again, wrong_lits, page_faults, sheet_faults, wrong_node, wrong_count, too_deep, line_faults, sheets_next, run_faults}
use Rattle.if1_read.specs.Ruled.{TypeSays, ImportSays}
use Rattle.if1_read.proofs.Walking.{Lined}
use Rattle.if1_read.proofs.Same.{contains_here, contains_later, contains_none}
use Rattle.if1_read.proofs.Keeping.{Mark, layer_of, sheet_of, layers_of, sheets_of, Falls, around_tail, IsPage}
use Rattle.if1_read.proofs.Kept.{Keeps}
use Rattle.if1_read.proofs.Repeats.{noted_has}

abbrev pub at_line : ℕ → Kind → Fault
at_line n k = record { line = n; kind = k }

-- the faults of a line, where it may stand and where it may not
pub misplaced_noted : (r : Rules) (m n : ℕ) (l : Line) (ms : List Mark) → Falls m ms → is_placed l (layers_of ms) ≡ false → Contains (line_faults r n l (sheets_of ms)) (at_line n Bad)
misplaced_noted r m n line.Blank ms low e = absurd (true≢false e)
misplaced_noted r m n (line.Entry label code first second name) ms low e = absurd (true≢false e)
misplaced_noted r m n (line.Function exported fun name) (u ∷ []) low e = absurd (true≢false e)
misplaced_noted r m n (line.Import ty name) (u ∷ []) low e = absurd (true≢false e)
misplaced_noted r m n (line.Subgraph name) (a ∷ b ∷ ms) low e = absurd (true≢false e)
misplaced_noted r m n (line.Close label op count assoc before name) (a ∷ (Some x, c) ∷ ms) low e = absurd (true≢false e)
misplaced_noted r m n (line.Close label op count assoc before name) (a ∷ (None, c) ∷ ms) low e = absurd (true≢false e)
misplaced_noted r m n (line.Open rest) ((Some x, c) ∷ ms) low e = absurd (true≢false e)
misplaced_noted r m n (line.Node label op before name) ((Some x, c) ∷ ms) low e = absurd (true≢false e)
misplaced_noted r m n (line.Edge from out node port ty takes name) ((Some x, c) ∷ ms) low e = absurd (true≢false e)
misplaced_noted r m n (line.Literal node port ty text name) ((Some x, c) ∷ ms) low e = absurd (true≢false e)
misplaced_noted r m n l ms low e = noted_has n (Some Bad) Bad refl

pub record NodeLine (r : Rules) (n : ℕ) (l : Line) (ms : List Mark) (op : ℕ) : Type 0 where
  pub page : ℕ × Page
  pub count : ℕ
  pub among : Contains ms (Some page, count)
  pub place : home l (layers_of ms) ≡ Some page.0
  pub finds : (f : Fault) → Contains (noted n (wrong_node op (length page.1.nodes))) f → Contains (line_faults r n l (sheets_of ms)) f

abbrev pair : ℕ → ℕ → ℕ × ℕ
pair label op = (label, op)

pair_of : (label op : ℕ) (x : ℕ × ℕ) → Some (pair label op) ≡ Some x → pair label op ≡ x
pair_of label op x e = cc

pub node_line : (r : Rules) (m n : ℕ) (l : Line) (ms : List Mark) → Falls m ms → (x : ℕ × ℕ) → node_on l ≡ Some x → (is_placed l (layers_of ms) ≡ false) ⊎ NodeLine r n l ms x.1
node_line r m n (line.Node label op before name) ((Some y, c) ∷ ms) low x e =
    let same : op ≡ x.1 = ap (λ (o : ℕ × ℕ). o.1) (pair_of label op x e) in
    inr (record {
      page = y;
      count = c;
      among = contains_here (Some y, c) ms;
      place = refl;
      finds = λ f d. subst (λ (o : ℕ). Contains (noted n (wrong_node o (length y.1.nodes))) f) (sym same) d;
    })
node_line r m n (line.Node label op before name) ((None, c) ∷ ms) low x e = inl refl
node_line r m n (line.Node label op before name) [] low x e = absurd low
node_line r m n (line.Close label op count assoc before name) (a ∷ (Some y, c) ∷ ms) low x e =
    let same : op ≡ x.1 = ap (λ (o : ℕ × ℕ). o.1) (pair_of label op x e) in
    inr (record {
      page = y;
      count = c;
      among = contains_later a ((Some y, c) ∷ ms) (Some y, c) (contains_here (Some y, c) ms);
      place = refl;
      finds = λ f d.
          Contains-append_right (sheet_faults r (sheet_of a)) (noted n (wrong_count count a.1) ++ noted n (wrong_node op (length y.1.nodes))) f
          (Contains-append_right (noted n (wrong_count count a.1)) (noted n (wrong_node op (length y.1.nodes))) f
          (subst (λ (o : ℕ). Contains (noted n (wrong_node o (length y.1.nodes))) f) (sym same) d));
    })
node_line r m n (line.Close label op count assoc before name) (a ∷ (None, c) ∷ ms) low x e = absurd (around_tail m a.0 a.1 ((None, c) ∷ ms) low)
node_line r m n (line.Close label op count assoc before name) (u ∷ []) low x e = inl refl
node_line r m n (line.Close label op count assoc before name) [] low x e = absurd low
node_line r m n l ms low x e = absurd cc

abbrev pub TypeLine : Rules → ℕ → Line → List Mark → ℕ → Type 0
TypeLine r n l ms ty = (f : Fault) → Contains (noted n (r.type_wrong ty)) f → Contains (line_faults r n l (sheets_of ms)) f

same_type : (n : ℕ) (r : Rules) (t ty : ℕ) (f : Fault) → Some t ≡ Some ty → Contains (noted n (r.type_wrong ty)) f → Contains (noted n (r.type_wrong t)) f
same_type n r t ty f e d = let same : ty ≡ t = cc in subst (λ (x : ℕ). Contains (noted n (r.type_wrong x)) f) same d

pub type_line : (r : Rules) (m n : ℕ) (l : Line) (ms : List Mark) → Falls m ms → (ty : ℕ) → type_on l ≡ Some ty → (is_placed l (layers_of ms) ≡ false) ⊎ TypeLine r n l ms ty
type_line r m n (line.Edge from out node port t takes name) ((Some y, c) ∷ ms) low ty e = inr (λ f d. same_type n r t ty f e d)
type_line r m n (line.Edge from out node port t takes name) ((None, c) ∷ ms) low ty e = inl refl
type_line r m n (line.Edge from out node port t takes name) [] low ty e = absurd low
type_line r m n (line.Literal node port t text name) ((Some y, c) ∷ ms) low ty e = inr (λ f d. same_type n r t ty f e d)
type_line r m n (line.Literal node port t text name) ((None, c) ∷ ms) low ty e = inl refl
type_line r m n (line.Literal node port t text name) [] low ty e = absurd low
type_line r m n (line.Function exported t name) (u ∷ []) low ty e =
    inr (λ f d. Contains-append_right (sheet_faults r (sheet_of u)) (noted n (r.type_wrong t)) f (same_type n r t ty f e d))
type_line r m n (line.Function exported t name) (a ∷ b ∷ ms) low ty e = inl refl
type_line r m n (line.Function exported t name) [] low ty e = absurd low
type_line r m n l ms low ty e = absurd cc

pub record LitLine (l : Line) (ms : List Mark) : Type 0 where
  pub page : ℕ × Page
  pub count : ℕ
  pub among : Contains ms (Some page, count)
  pub place : home l (layers_of ms) ≡ Some page.0

pub lit_line : (m : ℕ) (ms : List Mark) → Falls m ms → (node port ty : ℕ) (text name : List ℕ) →
    (is_placed (line.Literal node port ty text name) (layers_of ms) ≡ false) ⊎ LitLine (line.Literal node port ty text name) ms
lit_line m [] low node port ty text name = absurd low
lit_line m ((None, c) ∷ ms) low node port ty text name = inl refl
lit_line m ((Some x, c) ∷ ms) low node port ty text name = inr (record { page = x; count = c; among = contains_here _ ms; place = refl })

-- ---- what is wrong

opcode_if : (b : Bool) (op before : ℕ) → (is_some (simple_at op) || is_some (compound_at op)) ≡ b → ¬ IsOpcode op →
    (if b then (if nat_le most before then Some TooMany else None) else Some Unknown) ≡ Some Unknown
opcode_if true op before e no2 = absurd (no2 (either (is_some (simple_at op)) (is_some (compound_at op)) e))
  where
    either : (a b : Bool) → (a || b) ≡ true → (a ≡ true) ⊎ (b ≡ true)
    either true b e = inl refl
    either false b e = inr e
opcode_if false op before e no2 = refl

pub unknown_node : (op before : ℕ) → ¬ IsOpcode op → wrong_node op before ≡ Some Unknown
unknown_node op before no2 = opcode_if (is_some (simple_at op) || is_some (compound_at op)) op before refl no2

-- a node past the limit has this fault or one of a lower number
pub record Lower (o : Option Kind) (k : Kind) : Type 0 where
  pub kind : Kind
  pub is : o ≡ Some kind
  pub low : rank kind ≤ rank k

many_if : (b : Bool) (before : ℕ) → most ≤ before → Lower (if b then (if nat_le most before then Some TooMany else None) else Some Unknown) TooMany
many_if true before h = record { kind = TooMany; is = ap (λ (b : Bool). if b then Some TooMany else None) (le-leb most before h); low = omega arith }
many_if false before h = record { kind = Unknown; is = refl; low = omega arith }

pub many_nodes : (op before : ℕ) → most ≤ before → Lower (wrong_node op before) TooMany
many_nodes op before h = many_if (is_some (simple_at op) || is_some (compound_at op)) before h

pub other_count : (count graphs : ℕ) → (count ≡ graphs → ⊥) → wrong_count count graphs ≡ Some Bad
other_count count graphs ne = elim (eqb_tells count graphs) [
  | inl t ↦ absurd (ne t.1)
  | inr t ↦ ap (λ (b : Bool). if b then None else Some Bad) t.0
]

pub deep_level : (levels : ℕ) → most_levels < levels → too_deep levels ≡ Some TooMany
deep_level levels h = ap (λ (b : Bool). if b then Some TooMany else None) (lt-ltb most_levels levels h)

real_there : (ts : List TypeEntry) (ty : ℕ) → HasReal ts ty → IsType ts ty
real_there ts ty (itself r) = subst (λ (o : Option TypeEntry). IsSome o) (sym r.found) refl
real_there ts ty (within h r) = subst (λ (o : Option TypeEntry). IsSome o) (sym h.found) refl

pub missing_type : (ts : List TypeEntry) (ty : ℕ) (o : Option Kind) → TypeSays ts ty o → ¬ IsType ts ty → o ≡ Some Unknown
missing_type ts ty None says none = absurd (none says.0)
missing_type ts ty (Some Unknown) says none = refl
missing_type ts ty (Some Real) says none = absurd (none (real_there ts ty says))
missing_type ts ty (Some _) says none = absurd says

pub real_type_is : (ts : List TypeEntry) (ty : ℕ) (o : Option Kind) → TypeSays ts ty o → HasReal ts ty → o ≡ Some Real
real_type_is ts ty None says real = absurd (says.1 real)
real_type_is ts ty (Some Unknown) says real = absurd (says (real_there ts ty real))
real_type_is ts ty (Some Real) says real = refl
real_type_is ts ty (Some _) says real = absurd says

pub missing_import : (ts : List TypeEntry) (ty : ℕ) (o : Option Kind) → ImportSays ts ty o → ¬ IsType ts ty → o ≡ Some Unknown
missing_import ts ty None says none = absurd (none says)
missing_import ts ty (Some Unknown) says none = refl
missing_import ts ty (Some _) says none = absurd says

-- ---- a fault of a line

-- found with its line
pub record IsNoted (r : Rules) (n : ℕ) (l : Line) (ms : List Mark) (k : Kind) : Type 0 where
  pub kind : Kind
  pub low : rank kind ≤ rank k
  pub noted : Contains (line_faults r n l (sheets_of ms)) (at_line n kind)
