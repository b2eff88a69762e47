-- Lines of graphs without a fault, from here to the end.
use Rattle.std.proofs.Common.{◌≡◌, ℕ, suc, ◌-◌, ◌≤◌, Bool, true, false, List, [], ◌∷◌, ◌++◌, length, append-nil, Some, None, refl, sym, ap, subst, ◌∙◌, arith, true≢false}
use Rattle.std.specs.Prelude.{All, nat_lt, if◌then◌else◌}
use Rattle.std.specs.List.{flat_map}
use Rattle.std.proofs.lemmas.Bool.{ltb-false}
use Rattle.std.proofs.lemmas.List.Elements.{All-head, All-tail}
use Rattle.if1_graph.specs.declared.line.Line.{Line}
use Rattle.if1_graph.specs.declared.line.Line.TheVariants as line
use Rattle.if1_graph.specs.Units.{most_levels}
use Rattle.if1_graph.specs.Reads.{deepest}
use Rattle.if1_read.specs.declared.fault.Kind.{Kind}
use Rattle.if1_read.specs.declared.fault.Kind.TheVariants.{Bad, TooMany}
use Rattle.if1_read.specs.declared.fault.Fault.{Fault}
use Rattle.if1_read.specs.Least.{noted}
use Rattle.if1_read.specs.Pages.{Page, Sheet, Rules, page_faults, sheet_faults, wrong_node, wrong_count, too_deep, line_faults, sheets_next, run_faults, sheets_after}
use Rattle.if1_read.specs.Stands.{IsRead}
use Rattle.if1_read.proofs.Walking.{Lined}
use Rattle.if1_read.proofs.Accepted.{said_by}
use Rattle.if1_given.proofs.Clean.{no_first, no_second, nothing, not_noted}

-- behind these sheets they have no fault and end in no compound node
pub record Runs (r : Rules) (ss : List Sheet) (ls : List Lined) : Type 0 where
  pub clean : run_faults r ss ls ≡ []
  pub closed : length (sheets_after ss ls) ≤ 1
  pub read : All IsRead (said_by ls)

module _ (r : Rules) (ss : List Sheet) (x : Lined) (ls : List Lined) (runs : Runs r ss (x ∷ ls)) where
  pub here : line_faults r x.0 x.1 ss ≡ []
  here = no_first (line_faults r x.0 x.1 ss) (run_faults r (sheets_next x.0 x.1 ss) ls) runs.clean

  pub line_read : IsRead x.1
  line_read = All-head IsRead x.1 (said_by ls) runs.read

  pub behind : Runs r (sheets_next x.0 x.1 ss) ls
  behind = record {
    clean = no_second (line_faults r x.0 x.1 ss) (run_faults r (sheets_next x.0 x.1 ss) ls) runs.clean;
    closed = runs.closed;
    read = All-tail IsRead x.1 (said_by ls) runs.read;
  }

pub none_noted : (n : ℕ) (k : Kind) → noted n (Some k) ≡ [] → ⊥
none_noted n k e = absurd cc

-- ---- the end of a graph

-- whether a graph ends at a line
abbrev pub ends_graph : Line → Bool
ends_graph (line.Function exported fun name) = true
ends_graph (line.Import ty name) = true
ends_graph (line.Subgraph name) = true
ends_graph (line.Close label op count assoc before name) = true
ends_graph _ = false

abbrev pub Stops : List Lined → Type 0
Stops [] = Unit {0}
Stops (x ∷ ls) = ends_graph x.1 ≡ true

pub record Ended (r : Rules) (p : Page) (count : ℕ) (ss : List Sheet) (ls : List Lined) : Type 0 where
  pub page : page_faults r p ≡ []
  pub runs : Runs r ((None, count) ∷ ss) ls

module _ (r : Rules) (p : Page) (count : ℕ) where
  -- the faults of its page are among those of the line at which it ends, beside those that the line has without it
  ended_by : (ss : List Sheet) (x : Lined) (ls : List Lined) (others : List Fault) → line_faults r x.0 x.1 ((Some p, count) ∷ ss) ≡ page_faults r p ++ others →
      line_faults r x.0 x.1 ((None, count) ∷ ss) ≡ others → sheets_next x.0 x.1 ((Some p, count) ∷ ss) ≡ sheets_next x.0 x.1 ((None, count) ∷ ss) →
      Runs r ((Some p, count) ∷ ss) (x ∷ ls) → Ended r p count ss (x ∷ ls)
  ended_by ss x ls others are alone same runs =
      let faults : page_faults r p ++ others ≡ [] = sym are ∙ here r ((Some p, count) ∷ ss) x ls runs in
      let rest : Runs r (sheets_next x.0 x.1 ((None, count) ∷ ss)) ls = subst (λ (ts : List Sheet). Runs r ts ls) same (behind r ((Some p, count) ∷ ss) x ls runs) in
      record {
        page = no_first (page_faults r p) others faults;
        runs = record {
          clean =
              nothing (line_faults r x.0 x.1 ((None, count) ∷ ss)) (run_faults r (sheets_next x.0 x.1 ((None, count) ∷ ss)) ls)
              (alone ∙ no_second (page_faults r p) others faults) rest.clean;
          closed = rest.closed;
          read = runs.read;
        };
      }

  pub ended_at : (ss : List Sheet) (ls : List Lined) → Stops ls → Runs r ((Some p, count) ∷ ss) ls → Ended r p count ss ls
  ended_at ss [] stops runs = record {
    page = no_first (page_faults r p) (flat_map (sheet_faults r) ss) runs.clean;
    runs = record { clean = no_second (page_faults r p) (flat_map (sheet_faults r) ss) runs.clean; closed = runs.closed; read = runs.read };
  }
  ended_at [] ((n, line.Function exported fun name) ∷ ls) stops runs =
      ended_by [] (n, line.Function exported fun name) ls (noted n (r.type_wrong fun)) refl refl refl runs
  ended_at [] ((n, line.Import ty name) ∷ ls) stops runs = ended_by [] (n, line.Import ty name) ls (noted n (r.import_wrong ty)) refl refl refl runs
  ended_at [] ((n, line.Subgraph name) ∷ ls) stops runs = absurd (none_noted n Bad (here r ((Some p, count) ∷ []) (n, line.Subgraph name) ls runs))
  ended_at [] ((n, line.Close label op graphs assoc before name) ∷ ls) stops runs =
      absurd (none_noted n Bad (here r ((Some p, count) ∷ []) (n, line.Close label op graphs assoc before name) ls runs))
  ended_at (s ∷ ss) ((n, line.Function exported fun name) ∷ ls) stops runs =
      absurd (none_noted n Bad (here r ((Some p, count) ∷ s ∷ ss) (n, line.Function exported fun name) ls runs))
  ended_at (s ∷ ss) ((n, line.Import ty name) ∷ ls) stops runs = absurd (none_noted n Bad (here r ((Some p, count) ∷ s ∷ ss) (n, line.Import ty name) ls runs))
  ended_at (s ∷ ss) ((n, line.Subgraph name) ∷ ls) stops runs =
      ended_by (s ∷ ss) (n, line.Subgraph name) ls [] (sym (append-nil (page_faults r p))) refl refl runs
  ended_at ((Some q, graphs) ∷ ss) ((n, line.Close label op much assoc before name) ∷ ls) stops runs =
      ended_by ((Some q, graphs) ∷ ss) (n, line.Close label op much assoc before name) ls (noted n (wrong_count much count) ++ noted n (wrong_node op (length q.nodes))) refl refl refl runs
  ended_at ((None, graphs) ∷ ss) ((n, line.Close label op much assoc before name) ∷ ls) stops runs =
      ended_by ((None, graphs) ∷ ss) (n, line.Close label op much assoc before name) ls (noted n (wrong_count much count) ++ noted n (Some Bad)) refl refl refl runs
  ended_at ss (x ∷ ls) stops runs = absurd (true≢false (sym stops))

-- ---- how deep nodes are open

not_deep : (b : Bool) → (if b then Some TooMany else None) ≡ None → b ≡ false
not_deep true e = absurd cc
not_deep false e = refl

pub room : (n levels : ℕ) → noted n (too_deep levels) ≡ [] → levels ≤ most_levels
room n levels e = ltb-false most_levels levels (not_deep (nat_lt most_levels levels) (not_noted n (too_deep levels) e))

-- so many are open, the sheets say
module _ (r : Rules) where
  pub not_deeper : (d : ℕ) (ss : List Sheet) (ls : List Lined) → length ss ≡ suc d → d ≤ most_levels → Runs r ss ls → deepest d (said_by ls) ≤ most_levels
  not_deeper d ss [] fits le runs = le
  not_deeper d ss ((n, line.Blank) ∷ ls) fits le runs = not_deeper d ss ls fits le (behind r ss (n, line.Blank) ls runs)
  not_deeper d ss ((n, line.Entry label code first second name) ∷ ls) fits le runs =
      not_deeper d ss ls fits le (behind r ss (n, line.Entry label code first second name) ls runs)
  not_deeper d ((Some p, count) ∷ ss) ((n, line.Node label op before name) ∷ ls) fits le runs =
      let x : Lined = (n, line.Node label op before name) in
      not_deeper d (sheets_next n x.1 ((Some p, count) ∷ ss)) ls fits le (behind r ((Some p, count) ∷ ss) x ls runs)
  not_deeper d ((Some p, count) ∷ ss) ((n, line.Edge source out node port ty takes name) ∷ ls) fits le runs =
      not_deeper d ((Some p, count) ∷ ss) ls fits le (behind r ((Some p, count) ∷ ss) (n, line.Edge source out node port ty takes name) ls runs)
  not_deeper d ((Some p, count) ∷ ss) ((n, line.Literal node port ty text name) ∷ ls) fits le runs =
      let x : Lined = (n, line.Literal node port ty text name) in
      not_deeper d (sheets_next n x.1 ((Some p, count) ∷ ss)) ls fits le (behind r ((Some p, count) ∷ ss) x ls runs)
  not_deeper d (s ∷ []) ((n, line.Function exported fun name) ∷ ls) fits le runs =
      let x : Lined = (n, line.Function exported fun name) in
      not_deeper d (sheets_next n x.1 (s ∷ [])) ls fits le (behind r (s ∷ []) x ls runs)
  not_deeper d (s ∷ []) ((n, line.Import ty name) ∷ ls) fits le runs =
      let x : Lined = (n, line.Import ty name) in
      not_deeper d (sheets_next n x.1 (s ∷ [])) ls fits le (behind r (s ∷ []) x ls runs)
  not_deeper d (s ∷ t ∷ ss) ((n, line.Subgraph name) ∷ ls) fits le runs =
      let x : Lined = (n, line.Subgraph name) in
      not_deeper d (sheets_next n x.1 (s ∷ t ∷ ss)) ls fits le (behind r (s ∷ t ∷ ss) x ls runs)
  not_deeper d ((Some p, count) ∷ ss) ((n, line.Open rest) ∷ ls) fits le runs =
      let x : Lined = (n, line.Open rest) in
      let few = room n (suc (length ss)) (here r ((Some p, count) ∷ ss) x ls runs) in
      let inner = not_deeper (suc d) ((None, 0) ∷ (Some p, count) ∷ ss) ls (ap suc fits) (omega (arith, few, fits)) (behind r ((Some p, count) ∷ ss) x ls runs) in
      omega (arith, le, inner)
  not_deeper d (s ∷ (Some p, count) ∷ ss) ((n, line.Close label op graphs assoc before name) ∷ ls) fits le runs =
      let x : Lined = (n, line.Close label op graphs assoc before name) in
      let outer = not_deeper (d - 1) (sheets_next n x.1 (s ∷ (Some p, count) ∷ ss)) ls (omega (arith, fits)) (omega (arith, le)) (behind r (s ∷ (Some p, count) ∷ ss) x ls runs) in
      omega (arith, le, outer)
  not_deeper d (s ∷ (None, count) ∷ ss) ((n, line.Close label op graphs assoc before name) ∷ ls) fits le runs =
      absurd
      (none_noted n Bad
      (no_second (noted n (wrong_count graphs s.1)) (noted n (Some Bad))
      (no_second (sheet_faults r s) (noted n (wrong_count graphs s.1) ++ noted n (Some Bad)) (here r (s ∷ (None, count) ∷ ss) (n, line.Close label op graphs assoc before name) ls runs))))
  not_deeper d ss ((n, l) ∷ ls) fits le runs = absurd (none_noted n Bad (here r ss (n, l) ls runs))
