-- One line among the lines of a text.
use Rattle.std.proofs.Common.{◌≡◌, ℕ, suc, ◌-◌, ◌<◌, ◌≤◌, max, Bool, true, false, cond, List, [], ◌∷◌, ◌++◌, map, length, Option, Some, None, IsSome, inl, inr, refl, sym, ap, subst, ◌∙◌, arith, true≢false, ne_eqb}
use Rattle.std.specs.Prelude.{filter, Contains, All}
use Rattle.std.proofs.lemmas.List.Elements.{All-head, All-tail}
use Rattle.std.proofs.lemmas.List.{map-append, length-append}
use Rattle.if1_graph.specs.declared.line.Line.{Line}
use Rattle.if1_graph.specs.declared.line.Line.TheVariants as line
use Rattle.if1_graph.specs.Spelling.{IsSpelled}
use Rattle.if1_graph.specs.declared.graph.TypeEntry.{TypeEntry}
use Rattle.if1_graph.specs.declared.kind.TypeKind.{TypeKind}
use Rattle.if1_graph.specs.declared.kind.TypeKind.TheVariants as kind
use Rattle.if1_graph.specs.Types.{entry_at}
use Rattle.if1_graph.specs.Formed.{IsType, IsTypeOrEnd, AreNumbers, IsOnce, HasReal, itself, within}
use Rattle.if1_graph.specs.Reads.{entries_in, is_of_graph, deepest}
use Rattle.if1_read.specs.Entries.{HasTypes}
use Rattle.if1_read.specs.Faults.{Layer, numbered, is_unlabelled, is_placed, node_on, type_on, types}
use Rattle.if1_read.proofs.Walking.{Lined, graph_lines}
use Rattle.if1_read.proofs.Same.{contains_here, contains_later, contains_cases, contains_none}
use Rattle.if1_read.proofs.Accepted.{said_by, Rises, flat, rise}

-- ---- numbers

abbrev pub all_read : List Line → List (Option Line)
all_read ls = map (λ l. Some l) ls

pub said_numbered : (n : ℕ) (ls : List Line) → said_by (numbered n (all_read ls)) ≡ ls
said_numbered n [] = refl
said_numbered n (l ∷ ls) = ap (λ ms. l ∷ ms) (said_numbered (suc n) ls)

pub no_unread : (ls : List Line) (before after : List (Option Line)) → all_read ls ≡ before ++ None ∷ after → ⊥
no_unread [] [] after e = cc
no_unread [] (b ∷ before) after e = cc
no_unread (l ∷ ls) [] after e = cc
no_unread (l ∷ ls) (b ∷ before) after e = let rest : all_read ls ≡ before ++ None ∷ after = cc in no_unread ls before after rest

-- lines that are spelled have labels
spelled_label : (l : Line) → IsSpelled l → is_unlabelled l ≡ false
spelled_label (line.Close label op count assoc before name) s = ne_eqb label 0 (λ i. omega (arith, s.0.0, i))
spelled_label _ s = refl

pub no_unclosing : (ls : List Line) → All IsSpelled ls → (before after : List (Option Line)) (l : Line) → is_unlabelled l ≡ true → all_read ls ≡ before ++ Some l ∷ after → ⊥
no_unclosing [] s [] after l u e = cc
no_unclosing [] s (b ∷ before) after l u e = cc
no_unclosing (x ∷ ls) s [] after l u e =
    let same : Some x ≡ Some l = cc in
    true≢false (sym u ∙ sym (ap (λ (o : Option Line). elim o [ None ↦ false | Some l ↦ is_unlabelled l ]) same) ∙ spelled_label x (All-head IsSpelled x ls s))
no_unclosing (x ∷ ls) s (b ∷ before) after l u e =
    let rest : all_read ls ≡ before ++ Some l ∷ after = cc in
    no_unclosing ls (All-tail IsSpelled x ls s) before after l u rest

abbrev Rising : ℕ → List Lined → Type 0
Rising lo ls = (hi : ℕ) × Rises lo ls hi

numbered_rise : (n : ℕ) (ls : List Line) → Rising n (numbered (suc n) (all_read ls))
numbered_rise n [] = (n, flat n)
numbered_rise n (l ∷ ls) = let r = numbered_rise (suc n) ls in (r.0, rise n (suc n) l (omega arith) r.1)

kept_if : (b : Bool) (m k : ℕ) (l : Line) (ls : List Lined) → m < k → Rising k ls → Rising m ls → Rising m (cond b ((k, l) ∷ ls) ls)
kept_if true m k l ls lt r s = (r.0, rise m k l lt r.1)
kept_if false m k l ls lt r s = s

rises_kept : (lo : ℕ) (ls : List Lined) (hi : ℕ) → Rises lo ls hi → (m : ℕ) → m ≤ lo → Rising m (graph_lines ls)
rises_kept lo ls hi (flat n) m le = (m, flat m)
rises_kept lo ls hi (rise {hi = h2} {ls = rest} n k l lt r) m le =
    kept_if (is_of_graph l) m k l (graph_lines rest) (omega (arith, lt, le)) (rises_kept k rest h2 r k (omega arith)) (rises_kept k rest h2 r m (omega (arith, lt, le)))

pub graphs_rise : (ls : List Line) → Rising 0 (graph_lines (numbered 1 (all_read ls)))
graphs_rise ls = let r = numbered_rise 0 ls in rises_kept 0 (numbered 1 (all_read ls)) r.0 r.1 0 (omega arith)

-- ---- levels

deepest_if : (k : ℕ) (b : Bool) (l : Line) (ls : List Line) → is_of_graph l ≡ b → deepest k (cond b (l ∷ ls) ls) ≡ deepest k (l ∷ ls)
deepest_if k true l ls e = refl
deepest_if k false line.Blank ls e = refl
deepest_if k false (line.Entry label code first second name) ls e = refl
deepest_if k false _ ls e = absurd (true≢false e)

pub deepest_kept : (k : ℕ) (ls : List Line) → deepest k (filter is_of_graph ls) ≡ deepest k ls
deepest_kept k [] = refl
deepest_kept k (line.Open rest ∷ ls) = ap (max k) (deepest_kept (suc k) ls)
deepest_kept k (line.Close label op count assoc before name ∷ ls) = ap (max k) (deepest_kept (k - 1) ls)
deepest_kept k (line.Blank ∷ ls) = deepest_kept k ls
deepest_kept k (line.Entry label code first second name ∷ ls) = deepest_kept k ls
deepest_kept k (line.Node label op before name ∷ ls) = deepest_kept k ls
deepest_kept k (line.Edge from out node port ty takes name ∷ ls) = deepest_kept k ls
deepest_kept k (line.Literal node port ty text name ∷ ls) = deepest_kept k ls
deepest_kept k (line.Function exported fun name ∷ ls) = deepest_kept k ls
deepest_kept k (line.Subgraph name ∷ ls) = deepest_kept k ls
deepest_kept k (line.Import ty name ∷ ls) = deepest_kept k ls

-- ---- kinds of lines

pub node_of_graph : (l : Line) (n : ℕ × ℕ) → node_on l ≡ Some n → is_of_graph l ≡ true
node_of_graph line.Blank n e = absurd cc
node_of_graph (line.Entry label code first second name) n e = absurd cc
node_of_graph _ n e = refl

pub type_of_graph : (l : Line) (ty : ℕ) → type_on l ≡ Some ty → is_of_graph l ≡ true
type_of_graph line.Blank ty e = absurd cc
type_of_graph (line.Entry label code first second name) ty e = absurd cc
type_of_graph _ ty e = refl

pub others_placed : (l : Line) (os : List Layer) → is_of_graph l ≡ false → is_placed l os ≡ true
others_placed line.Blank os e = refl
others_placed (line.Entry label code first second name) os e = refl
others_placed _ os e = absurd (true≢false e)

-- ---- what stands once

pub once_middle : (xs : List ℕ) (x : ℕ) (ys : List ℕ) → IsOnce (xs ++ x ∷ ys) → Contains xs x → ⊥
once_middle [] x ys h c = contains_none x c
once_middle (y ∷ xs) x ys h c = elim (contains_cases y xs x c) [
  | inl e ↦ h.0 (subst (λ (z : ℕ). Contains (xs ++ x ∷ ys) z) (sym e) (later xs))
  | inr d ↦ once_middle xs x ys h.1 d
]
  where
    later : (zs : List ℕ) → Contains (zs ++ x ∷ ys) x
    later [] = contains_here x ys
    later (z ∷ zs) = contains_later z (zs ++ x ∷ ys) x (later zs)

pub contains_middle : {A : Type 0} (xs : List A) (x : A) (ys : List A) → Contains (xs ++ x ∷ ys) x
contains_middle [] x ys = contains_here x ys
contains_middle (z ∷ xs) x ys = contains_later z (xs ++ x ∷ ys) x (contains_middle xs x ys)

pub less_middle : {A : Type 0} (xs : List A) (x : A) (ys : List A) → length xs < length (xs ++ x ∷ ys)
less_middle xs x ys = omega (arith, length-append xs (x ∷ ys))

-- ---- types

entries_append : (xs ys : List Line) → entries_in (xs ++ ys) ≡ entries_in xs ++ entries_in ys
entries_append [] ys = refl
entries_append (line.Entry label code first second name ∷ xs) ys =
    ap (λ es. record { label = label; code = code; first = first; second = second; name = name } ∷ es) (entries_append xs ys)
entries_append (line.Blank ∷ xs) ys = entries_append xs ys
entries_append (line.Node label op before name ∷ xs) ys = entries_append xs ys
entries_append (line.Edge from out node port ty takes name ∷ xs) ys = entries_append xs ys
entries_append (line.Literal node port ty text name ∷ xs) ys = entries_append xs ys
entries_append (line.Function exported fun name ∷ xs) ys = entries_append xs ys
entries_append (line.Subgraph name ∷ xs) ys = entries_append xs ys
entries_append (line.Import ty name ∷ xs) ys = entries_append xs ys
entries_append (line.Open rest ∷ xs) ys = entries_append xs ys
entries_append (line.Close label op count assoc before name ∷ xs) ys = entries_append xs ys

pub types_append : (xs ys : List Lined) → types (xs ++ ys) ≡ types xs ++ types ys
types_append xs ys = ap entries_in (map-append (λ (l : Lined). l.1) xs ys) ∙ entries_append (said_by xs) (said_by ys)

-- tables with the same entry for each label
module _ (ts us : List TypeEntry) (same : (l : ℕ) → entry_at ts l ≡ entry_at us l) where
  pub type_moved : (l : ℕ) → IsType ts l → IsType us l
  type_moved l h = subst (λ (o : Option TypeEntry). IsSome o) (same l) h

  or_moved : (l : ℕ) → IsTypeOrEnd ts l → IsTypeOrEnd us l
  or_moved l (inl e) = inl e
  or_moved l (inr h) = inr (type_moved l h)

  pub numbers_moved : (k : Option TypeKind) (first second : ℕ) → AreNumbers ts k first second → HasTypes us k first second
  numbers_moved (Some kind.Basic) first second h = tt
  numbers_moved (Some kind.Field) first second h = (type_moved first h.0, or_moved second h.1)
  numbers_moved (Some kind.Tag) first second h = (type_moved first h.0, or_moved second h.1)
  numbers_moved (Some kind.Tuple) first second h = (type_moved first h.0, or_moved second h.1)
  numbers_moved (Some kind.Function) first second h = (or_moved first h.0, type_moved second h.1)
  numbers_moved (Some _) first second h = type_moved first h.0
  numbers_moved None first second h = absurd h

  pub real_moved : (l : ℕ) → HasReal ts l → HasReal us l
  real_moved l (itself r) = itself (record { entry = r.entry; found = sym (same l) ∙ r.found; basic_kind = r.basic_kind; real_code = r.real_code })
  real_moved l (within {m = m} h r) =
      within (record { entry = h.entry; found = sym (same l) ∙ h.found; no_basic = h.no_basic; part = h.part }) (real_moved m r)
