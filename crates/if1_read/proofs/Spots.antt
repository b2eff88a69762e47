-- Where lines stand: the layers of lines, and how many compound nodes are open.
use Rattle.std.proofs.Common.{◌≡◌, ℕ, zero, suc, ◌-◌, Bool, true, false, ◌||◌, List, [], ◌∷◌, ◌++◌, map, Option, Some, None, bytes_eq, is_some, if◌then◌else◌, refl, sym, ap, ◌∙◌, arith}
use Rattle.std.specs.Prelude.{◌==◌}
use Rattle.std.specs.List.{list_any}
use Rattle.std.proofs.lemmas.Bool.{eqb-true}
use Rattle.if1_graph.specs.declared.line.Line.{Line}
use Rattle.if1_graph.specs.declared.line.Line.TheVariants as line
use Rattle.if1_graph.specs.Reads.{is_of_graph}
use Rattle.if1_read.specs.declared.read.Spot.{Spot}
use Rattle.if1_read.specs.Faults.{Layer, next, unit_alone, told, name_on, functions}
use Rattle.if1_read.specs.Sorting.{with_name, spot_next, named_in, has_name}
use Rattle.if1_read.specs.Stands.{lines_of}
use Rattle.if1_read.proofs.Walking.{Lined, graph_lines, told_kept}

abbrev pub at : ℕ → Bool → Spot
at d r = record { depth = d; reading = r }

over_if : (b : Bool) (d : ℕ) → (suc d == 0) ≡ b → b ≡ false
over_if true d e = absurd (omega (arith, eqb-true (suc d) 0 e))
over_if false d e = refl

over : (d : ℕ) → (suc d == 0) ≡ false
over d = over_if (suc d == 0) d refl

pub of_part : (d : ℕ) (r : Bool) (name : List ℕ) → spot_next (line.Subgraph name) (at (suc d) r) ≡ at (suc d) true
of_part d r name = ap (λ (b : Bool). if b then at (suc d) r else at (suc d) true) (over d)

pub of_close : (d : ℕ) (r : Bool) (label op count : ℕ) (assoc before name : List ℕ) → spot_next (line.Close label op count assoc before name) (at (suc d) r) ≡ at d true
of_close d r label op count assoc before name =
    let less : suc d - 1 ≡ d = omega arith in
    ap (λ (b : Bool). if b then at (suc d) r else at (suc d - 1) true) (over d) ∙ ap (λ (e : ℕ). at e true) less

of_function : (d : ℕ) (r exported : Bool) (fun : ℕ) (name : List ℕ) → spot_next (line.Function exported fun name) (at (suc d) r) ≡ at (suc d) r
of_function d r exported fun name = ap (λ (b : Bool). if b then at (suc d) true else at (suc d) r) (over d)

of_import : (d : ℕ) (r : Bool) (ty : ℕ) (name : List ℕ) → spot_next (line.Import ty name) (at (suc d) r) ≡ at (suc d) r
of_import d r ty name = ap (λ (b : Bool). if b then at (suc d) false else at (suc d) r) (over d)

no_name : (t : List ℕ) (d : ℕ) (r known exported : Bool) (fun : ℕ) (name : List ℕ) → with_name t (at (suc d) r) known (line.Function exported fun name) ≡ known
no_name t d r known exported fun name = ap (λ (b : Bool). if b then known || bytes_eq name t else known) (over d)

-- so many layers around the innermost one, all of whose lines are read
abbrev pub Shape : ℕ → Bool → List Layer → Type 0
Shape d r [] = ⊥
Shape zero r (o ∷ []) = is_some o.0 ≡ r
Shape zero r (o ∷ p ∷ os) = ⊥
Shape (suc d) r (o ∷ os) = (is_some o.0 ≡ r) × Shape d true os

or_false : (a : Bool) → (a || false) ≡ a
or_false true = refl
or_false false = refl

or_assoc : (a b c : Bool) → ((a || b) || c) ≡ (a || (b || c))
or_assoc true b c = refl
or_assoc false b c = refl

module _ (t : List ℕ) where
  abbrev In : List Layer → List Lined → Bool
  In os ls = list_any (λ n. bytes_eq n t) (told name_on os ls)

  -- the names from here on
  abbrev Names : List Lined → Type 0
  Names ls = (d : ℕ) (r known : Bool) (os : List Layer) → Shape d r os → named_in t (at d r) known (lines_of ls) ≡ (known || In os ls)

  -- a line that names no function and leaves the spot where the layers are
  moved : (ls : List Lined) (known : Bool) (s : Spot) (e : ℕ) (q : Bool) (os : List Layer) → Names ls → s ≡ at e q → Shape e q os → named_in t s known (lines_of ls) ≡ (known || In os ls)
  moved ls known s e q os rest same shape = ap (λ (x : Spot). named_in t x known (lines_of ls)) same ∙ rest e q known os shape

  function_names : (n : ℕ) (ls : List Lined) (exported : Bool) (fun : ℕ) (name : List ℕ) → Names ls → Names ((n, line.Function exported fun name) ∷ ls)
  function_names n ls exported fun name rest d r known [] shape = absurd shape
  function_names n ls exported fun name rest zero r known (o ∷ []) shape =
      rest 0 true (known || bytes_eq name t) ((Some n, suc o.1) ∷ []) refl
      ∙ or_assoc known (bytes_eq name t) (In ((Some n, suc o.1) ∷ []) ls)
  function_names n ls exported fun name rest zero r known (o ∷ p ∷ os) shape = absurd shape
  function_names n ls exported fun name rest (suc d) r known (o ∷ []) shape = absurd shape.1
  function_names n ls exported fun name rest (suc d) r known (o ∷ p ∷ os) shape =
      ap (λ (b : Bool). named_in t (spot_next (line.Function exported fun name) (at (suc d) r)) b (lines_of ls)) (no_name t d r known exported fun name)
      ∙ moved ls known (spot_next (line.Function exported fun name) (at (suc d) r)) (suc d) r (o ∷ p ∷ os) rest (of_function d r exported fun name) shape

  import_names : (n : ℕ) (ls : List Lined) (ty : ℕ) (name : List ℕ) → Names ls → Names ((n, line.Import ty name) ∷ ls)
  import_names n ls ty name rest d r known [] shape = absurd shape
  import_names n ls ty name rest zero r known (o ∷ []) shape = rest 0 false known ((None, o.1) ∷ []) refl
  import_names n ls ty name rest zero r known (o ∷ p ∷ os) shape = absurd shape
  import_names n ls ty name rest (suc d) r known (o ∷ []) shape = absurd shape.1
  import_names n ls ty name rest (suc d) r known (o ∷ p ∷ os) shape =
      moved ls known (spot_next (line.Import ty name) (at (suc d) r)) (suc d) r (o ∷ p ∷ os) rest (of_import d r ty name) shape

  part_names : (n : ℕ) (ls : List Lined) (name : List ℕ) → Names ls → Names ((n, line.Subgraph name) ∷ ls)
  part_names n ls name rest d r known [] shape = absurd shape
  part_names n ls name rest zero r known (o ∷ []) shape = rest zero r known (o ∷ []) shape
  part_names n ls name rest zero r known (o ∷ p ∷ os) shape = absurd shape
  part_names n ls name rest (suc d) r known (o ∷ []) shape = absurd shape.1
  part_names n ls name rest (suc d) r known (o ∷ p ∷ os) shape =
      moved ls known (spot_next (line.Subgraph name) (at (suc d) r)) (suc d) true ((Some n, suc o.1) ∷ p ∷ os) rest (of_part d r name) (refl, shape.1)

  shape_open : (d g c : ℕ) (r : Bool) (os : List Layer) → Shape d r ((Some g, c) ∷ os) → (r ≡ true) × Shape d true ((Some g, c) ∷ os)
  shape_open zero g c r [] shape = (sym shape, refl)
  shape_open zero g c r (o ∷ os) shape = absurd shape
  shape_open (suc d) g c r os shape = (sym shape.0, (refl, shape.1))

  shape_none : (d c : ℕ) (r : Bool) (os : List Layer) → Shape d r ((None, c) ∷ os) → r ≡ false
  shape_none zero c r [] shape = sym shape
  shape_none zero c r (o ∷ os) shape = absurd shape
  shape_none (suc d) c r os shape = sym shape.0

  open_names : (n : ℕ) (ls : List Lined) (more : List ℕ) → Names ls → Names ((n, line.Open more) ∷ ls)
  open_names n ls more rest d r known [] shape = absurd shape
  open_names n ls more rest d r known ((Some g, c) ∷ os) shape =
      let s = shape_open d g c r os shape in
      moved ls known (spot_next (line.Open more) (at d r)) (suc d) false ((None, 0) ∷ (Some g, c) ∷ os) rest
      (ap (λ (b : Bool). if b then at (suc d) false else at d r) s.0) (refl, s.1)
  open_names n ls more rest d r known ((None, c) ∷ os) shape =
      let s = shape_none d c r os shape in
      moved ls known (spot_next (line.Open more) (at d r)) d r ((None, c) ∷ os) rest
      (ap (λ (b : Bool). if b then at (suc d) false else at d r) s) shape

  close_names : (n : ℕ) (ls : List Lined) (label op count : ℕ) (assoc before name : List ℕ) → Names ls → Names ((n, line.Close label op count assoc before name) ∷ ls)
  close_names n ls label op count assoc before name rest d r known [] shape = absurd shape
  close_names n ls label op count assoc before name rest zero r known (o ∷ []) shape = rest zero r known (o ∷ []) shape
  close_names n ls label op count assoc before name rest zero r known (o ∷ p ∷ os) shape = absurd shape
  close_names n ls label op count assoc before name rest (suc d) r known (o ∷ []) shape = absurd shape.1
  close_names n ls label op count assoc before name rest (suc d) r known (o ∷ p ∷ os) shape =
      moved ls known (spot_next (line.Close label op count assoc before name) (at (suc d) r)) d true (p ∷ os) rest (of_close d r label op count assoc before name) shape.1

  names_told : (ls : List Lined) → Names ls
  names_told [] d r known os shape = sym (or_false known)
  names_told ((n, line.Function exported fun name) ∷ ls) d r known os shape = function_names n ls exported fun name (names_told ls) d r known os shape
  names_told ((n, line.Import ty name) ∷ ls) d r known os shape = import_names n ls ty name (names_told ls) d r known os shape
  names_told ((n, line.Subgraph name) ∷ ls) d r known os shape = part_names n ls name (names_told ls) d r known os shape
  names_told ((n, line.Open more) ∷ ls) d r known os shape = open_names n ls more (names_told ls) d r known os shape
  names_told ((n, line.Close label op count assoc before name) ∷ ls) d r known os shape = close_names n ls label op count assoc before name (names_told ls) d r known os shape
  names_told ((n, line.Blank) ∷ ls) d r known os shape = names_told ls d r known os shape
  names_told ((n, line.Entry label code first second name) ∷ ls) d r known os shape = names_told ls d r known os shape
  names_told ((n, line.Node label op before name) ∷ ls) d r known os shape = names_told ls d r known os shape
  names_told ((n, line.Edge source out node port ty takes name) ∷ ls) d r known os shape = names_told ls d r known os shape
  names_told ((n, line.Literal node port ty text name) ∷ ls) d r known os shape = names_told ls d r known os shape

name_of_graph : (l : Line) (os : List Layer) → is_of_graph l ≡ false → name_on l os ≡ None
name_of_graph line.Blank os e = refl
name_of_graph (line.Entry label code first second name) os e = refl
name_of_graph l os e = absurd cc

-- the names of the functions of the unit, by its lines of graphs
pub names_right : (t : List ℕ) (ls : List Lined) → has_name t (lines_of (graph_lines ls)) ≡ list_any (λ n. bytes_eq n t) (functions ls)
names_right t ls = names_told t (graph_lines ls) 0 false false unit_alone refl ∙ ap (list_any (λ n. bytes_eq n t)) (told_kept name_on name_of_graph unit_alone ls)
