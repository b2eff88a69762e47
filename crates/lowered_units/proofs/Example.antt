-- A program that fits, and its unit: `global f(x: integer returns integer)`.
--
--     T 1 1 0 %na=boolean
--     T 2 1 1 %na=character
--     T 3 1 3 %na=integer
--     T 4 1 4 %na=null
--     T 5 8 3 0
--     T 6 3 5 5
--     I 6 "f"
--     G 6 "f"
--     N 1 155
--     E 1 1 0 1 3
use Rattle.std.proofs.Common.{◌≡◌, ℕ, zero, suc, ◌<◌, ◌≤◌, false, List, [], ◌∷◌, length, slice_get, Some, None, refl, sym, ap, subst, ◌∙◌, arith}
use Rattle.std.specs.Prelude.{codes}
use Rattle.std.proofs.lemmas.List.Elements.{All-nil, All-cons, All-from_recursion}
use Rattle.flow_value.specs.declared.ty.Ty.TheVariants as ty
use Rattle.if1_graph.specs.Spelling.{IsName, IsQuotable}
use Rattle.if1_graph.specs.declared.graph.Graph.{Graph}
use Rattle.if1_graph.specs.declared.graph.Graph.TheFolds.{fold-roll-Graph, fold-roll-Node}
use Rattle.if1_graph.specs.declared.graph.Graph.TheOpen.{Graph-F, Node-F}
use Rattle.if1_graph.specs.declared.graph.Graph.TheViews.{roll-Graph}
use Rattle.if1_graph.specs.declared.graph.Node.{Node, roll-Node}
use Rattle.if1_graph.specs.declared.graph.Origin.TheVariants as origin
use Rattle.if1_graph.specs.declared.graph.TypeEntry.{TypeEntry}
use Rattle.if1_graph.specs.declared.graph.Unit1.{Unit1}
use Rattle.type_table.specs.declared.form.Form.{Form}
use Rattle.type_table.specs.declared.form.Form.TheVariants as form
use Rattle.type_table.specs.Tables.{depths, HasMember, IsOver, IsTable, basic_forms}
use Rattle.typed_tree.specs.declared.program.Function.{Function}
use Rattle.typed_tree.specs.declared.program.Program.{Program}
use Rattle.typed_tree.specs.Types as number
use Rattle.lowering.specs.TooMany.{too_many}
use Rattle.bound_trees.specs.Depths.{AreWithin}
use Rattle.lowered_units.specs.Fitting.{HasName, IsFitting}
use Rattle.lowered_units.specs.Listed.{Listing, NodeListing, list_graph, list_node, listing}
use Rattle.lowered_units.specs.Units.{IsTranslated}

abbrev function : Function
function = record { line = 1; name = 0; parameters = 0 ∷ []; params = 2 ∷ []; results = 2 ∷ []; body = None }

abbrev program : Program
program = record { names = codes "f" ∷ []; types = basic_forms; functions = function ∷ []; defines = [] }

abbrev line : ℕ → ℕ → ℕ → ℕ → List ℕ → TypeEntry
line label code first second name = record { label = label; code = code; first = first; second = second; name = name }

abbrev node : Node-F Graph Node
node = record { label = 1; op = 155; subs = []; assoc = []; before = []; name = [] }

abbrev graph : Graph-F Graph Node
graph = record {
  number = 1;
  exported = false;
  name = codes "f";
  fun = 6;
  nodes = roll-Node node ∷ [];
  edges = record { from = origin.Port 1 1; node = 0; port = 1; ty = 3; takes = false; name = [] } ∷ [];
}

abbrev the_unit : Unit1
the_unit = record {
  types = line 1 1 0 0 (codes "boolean") ∷ line 2 1 1 0 (codes "character") ∷ line 3 1 3 0 (codes "integer") ∷ line 4 1 4 0 (codes "null") ∷ line 5 8 3 0 [] ∷ line 6 3 5 5 [] ∷ [];
  imports = (6, codes "f") ∷ [];
  graphs = roll-Graph graph ∷ [];
}

-- ---- the unit is that of the program

listed : listing (roll-Graph graph) ≡ list_graph (record { number = 1; exported = false; name = codes "f"; fun = 6; nodes = list_node (record { label = 1; op = 155; subs = []; assoc = []; before = []; name = [] }) ∷ []; edges = graph.edges })
listed =
    fold-roll-Graph Listing NodeListing list_graph list_node graph
    ∙ ap (λ (n : NodeListing). list_graph (record { number = 1; exported = false; name = codes "f"; fun = 6; nodes = n ∷ []; edges = graph.edges })) (fold-roll-Node Listing NodeListing list_graph list_node node)

pub example-translated : IsTranslated program the_unit
example-translated = record { types = refl; imports = refl; graphs = ap (λ l. l ∷ []) listed }

pub example-within : too_many program ≡ None
example-within = refl

-- ---- the program fits

place : Form → ℕ
place form.Boolean = 0
place form.Character = 1
place form.Integer = 2
place form.Null = 3
place f = 4

same : {A : Type 0} (a b : A) → Some a ≡ Some b → a ≡ b
same a b e = cc

placed : (k : ℕ) (f : Form) → slice_get basic_forms k ≡ Some f → k ≡ place f
unfolding place
placed zero f e = ap place (same form.Boolean f e)
placed (suc zero) f e = ap place (same form.Character f e)
placed (suc (suc zero)) f e = ap place (same form.Integer f e)
placed (suc (suc (suc zero))) f e = ap place (same form.Null f e)
placed (suc (suc (suc (suc zero)))) f e = ap place (same (form.Array 1) f e)
placed (suc (suc (suc (suc (suc k))))) f e = absurd cc

over : (k : ℕ) (f : Form) → slice_get basic_forms k ≡ Some f → IsOver k f
over zero f e = subst (IsOver 0) (same form.Boolean f e) (All-nil (λ t. t < 0))
over (suc zero) f e = subst (IsOver 1) (same form.Character f e) (All-nil (λ t. t < 1))
over (suc (suc zero)) f e = subst (IsOver 2) (same form.Integer f e) (All-nil (λ t. t < 2))
over (suc (suc (suc zero))) f e = subst (IsOver 3) (same form.Null f e) (All-nil (λ t. t < 3))
over (suc (suc (suc (suc zero)))) f e = subst (IsOver 4) (same (form.Array 1) f e) (All-cons (λ t. t < 4) 1 [] (omega arith) (All-nil (λ t. t < 4)))
over (suc (suc (suc (suc (suc k))))) f e = absurd cc

filled : (k : ℕ) (f : Form) → slice_get basic_forms k ≡ Some f → HasMember f
filled zero f e = subst HasMember (same form.Boolean f e) tt
filled (suc zero) f e = subst HasMember (same form.Character f e) tt
filled (suc (suc zero)) f e = subst HasMember (same form.Integer f e) tt
filled (suc (suc (suc zero))) f e = subst HasMember (same form.Null f e) tt
filled (suc (suc (suc (suc zero)))) f e = subst HasMember (same (form.Array 1) f e) tt
filled (suc (suc (suc (suc (suc k))))) f e = absurd cc

basics : IsTable basic_forms
basics = record {
  rest = [];
  basics = refl;
  well = record {
    once = λ k m f e h. placed k f e ∙ sym (placed m f h);
    after_parts = over;
    members = filled;
    shallow = All-from_recursion (λ d. d ≤ 64) (depths basic_forms) (omega arith, (omega arith, (omega arith, (omega arith, (omega arith, tt)))));
  };
}

only : (i : ℕ) (name : List ℕ) → HasName program i name → i ≡ 0
only zero name h = refl
only (suc i) name h = absurd (none h.function h.there)
  where
    none : (f : Function) → slice_get (function ∷ []) (suc i) ≡ Some f → ⊥
    none f e = absurd cc

pub example-fits : IsFitting program
example-fits = record {
  headers = record { params = ty.Int ∷ []; results = ty.Int ∷ [] } ∷ [];
  tree = record { fits = (record { params = (number.integer refl, tt); results = (number.integer refl, tt); body = tt }, tt) };
  types = basics;
  results = All-cons (λ (f : Function). 1 ≤ length f.results) function [] (omega arith) (All-nil (λ (f : Function). 1 ≤ length f.results));
  shallow = All-cons (λ (f : Function). AreWithin 200 f.body) function [] tt (All-nil (λ (f : Function). AreWithin 200 f.body));
  visible = All-cons IsName (codes "f") [] refl (All-nil IsName);
  quotable = All-cons IsQuotable (codes "f") [] refl (All-nil IsQuotable);
  named = All-cons (λ (f : Function). (name : List ℕ) × (slice_get program.names f.name ≡ Some name)) function [] (codes "f", refl) (All-nil (λ (f : Function). (name : List ℕ) × (slice_get program.names f.name ≡ Some name)));
  once = λ i j name h k. only i name h ∙ sym (only j name k);
}
