-- Rules that say what is at fault, and the faults of a graph that has ended.
use Rattle.std.proofs.Common.{◌≡◌, ℕ, suc, ◌<◌, ◌≤◌, Bool, true, false, ◌||◌, List, [], ◌∷◌, ◌++◌, map, length, Option, Some, None, IsSome, ◌⊎◌, inl, inr, if◌then◌else◌, refl, sym, ap, subst, ◌∙◌, arith, append_assoc, append-nil}
use Rattle.std.specs.Prelude.{Contains, is_some, nat_le, nat_lt, ◌==◌}
use Rattle.std.proofs.lemmas.List.Elements.{Contains-append_cases}
use Rattle.if1_graph.specs.declared.line.Line.{Line}
use Rattle.if1_graph.specs.declared.line.Line.TheVariants as line
use Rattle.if1_graph.specs.declared.graph.TypeEntry.{TypeEntry}
use Rattle.if1_graph.specs.Kinds.{kind_at, basic_at}
use Rattle.if1_graph.specs.Types.{entry_at}
use Rattle.if1_graph.specs.Formed.{IsType, HasReal}
use Rattle.if1_read.specs.declared.fault.Kind.{Kind}
use Rattle.if1_read.specs.declared.fault.Kind.TheVariants.{Bad, Unknown, Real, TooMany}
use Rattle.if1_read.specs.declared.fault.Fault.{Fault}
use Rattle.if1_read.specs.Faults.{Layer, next, layers, unit_alone, home, told, own, with_some, node_on, nodes_of, functions, types, want_of, literal_fault, IsFault, node_again, wrong_literal}
use Rattle.if1_read.specs.Pages.{Lit, lit_on, Page, Rules, again, wrong_lits, page_faults}
use Rattle.if1_read.specs.Ruled.{AreRules}
use Rattle.if1_read.proofs.Walking.{Lined, told_append}
use Rattle.if1_read.proofs.Same.{contains_none}
use Rattle.if1_read.proofs.Lining.{lined, lined_told, contains_parts, says_at, own_some, own_other, Free, NoNumber, free_lined}
use Rattle.if1_read.proofs.Keeping.{IsPage}
use Rattle.if1_read.proofs.Repeats.{bad_at, labels, repeats, wrong_lit}

-- ---- a fault of a line

pub record IsFound (all : List Lined) (f : Fault) : Type 0 where
  pub before : List Lined
  pub line : Line
  pub after : List Lined
  pub is : all ≡ before ++ (f.line, line) ∷ after
  pub fault : IsFault all before line f.kind

pub map_twice : {A B C : Type 0} (g : B → C) (f : A → B) (xs : List A) → map (λ x. g (f x)) xs ≡ map g (map f xs)
map_twice g f [] = refl
map_twice g f (x ∷ xs) = ap (λ ys. g (f x) ∷ ys) (map_twice g f xs)

-- the nodes of a graph so far
pub nodes_so_far : (done : List Lined) (x : ℕ × Page) → IsPage done x → map (λ n. n.1) x.1.nodes ≡ nodes_of (Some x.0) done
nodes_so_far done x p = ap (map (λ (n : ℕ × (ℕ × ℕ)). n.1)) p.nodes ∙ lined_told (own node_on x.0) unit_alone done

record LitForm (l : Line) (a : Lit) : Type 0 where
  name : List ℕ
  is : line.Literal a.node a.port a.ty a.text name ≡ l

lit_form : (l : Line) (a : Lit) → lit_on l ≡ Some a → LitForm l a
lit_form (line.Literal node port ty text name) a e =
    let same : record { node = node; port = port; ty = ty; text = text } ≡ a = cc in
    record { name = name; is = ap (λ (b : Lit). line.Literal b.node b.port b.ty b.text name) (sym same) }
lit_form _ a e = absurd cc

module _ (all : List Lined) (r : Rules) (rules : AreRules (types all) (functions all) r) (done rest : List Lined) (split : all ≡ done ++ rest) where
  whole : (before : List Lined) (y : Lined) (after : List Lined) → done ≡ before ++ y ∷ after → all ≡ before ++ y ∷ (after ++ rest)
  whole before y after e = split ∙ (ap (λ xs. xs ++ rest) e ∙ append_assoc before (y ∷ after) rest)

  module _ (x : ℕ × Page) (page : IsPage done x) where
    again_found : (f : Fault) → Contains (again (λ n. n.0) [] x.1.nodes) f → IsFound all f
    again_found f c =
        let a = repeats (λ (n : ℕ × ℕ). n.0) [] x.1.nodes f c in
        let s = says_at (own node_on x.0) done unit_alone a.front a.item a.back (sym page.nodes ∙ a.is) in
        let o = own_some node_on x.0 s.line (layers s.before) a.item.1 s.says in
        let here : nodes_of (home s.line (layers s.before)) s.before ≡ map (λ n. n.1) a.front =
        ap (λ h. nodes_of h s.before) o.0 ∙ (sym (lined_told (own node_on x.0) unit_alone s.before) ∙ ap (map (λ (n : ℕ × (ℕ × ℕ)). n.1)) s.earlier) in
        let earlier : labels (λ (n : ℕ × ℕ). n.0) a.front ≡ map (λ m. m.0) (nodes_of (home s.line (layers s.before)) s.before) =
        map_twice (λ (n : ℕ × ℕ). n.0) (λ (n : ℕ × (ℕ × ℕ)). n.1) a.front ∙ ap (map (λ (n : ℕ × ℕ). n.0)) (sym here) in
        let label : Contains (labels (λ (n : ℕ × ℕ). n.0) a.front) a.item.1.0 = elim a.label [ inl d ↦ absurd (contains_none a.item.1.0 d) | inr d ↦ d ] in
        let at : IsFound all (bad_at a.item.0) = record {
          before = s.before;
          line = s.line;
          after = s.after ++ rest;
          is = whole s.before (a.item.0, s.line) s.after s.is;
          fault = node_again o.1 (subst (λ (ls : List ℕ). Contains ls a.item.1.0) earlier label);
        } in
        subst (IsFound all) (sym a.fault) at

    lit_found : told (own node_on x.0) (layers done) rest ≡ [] → (f : Fault) → Contains (wrong_lits r (map (λ n. n.1) x.1.nodes) x.1.lits) f → IsFound all f
    lit_found closed f c =
        let w = wrong_lit r (map (λ n. n.1) x.1.nodes) x.1.lits f c in
        let ps = contains_parts x.1.lits w.item w.among in
        let s = says_at (own lit_on x.0) done unit_alone ps.front w.item ps.back (sym page.lits ∙ ps.is) in
        let o = own_some lit_on x.0 s.line (layers s.before) w.item.1 s.says in
        let form = lit_form s.line w.item.1 o.1 in
        let t = rules.lits (map (λ n. n.1) x.1.nodes) w.item.1 f.kind w.wrong in
        let lit = w.item.1 in
        let text_line = line.Literal lit.node lit.port lit.ty lit.text form.name in
        let nodes : map (λ n. n.1) x.1.nodes ≡ nodes_of (home text_line (layers s.before)) all =
        nodes_so_far done x page
        ∙ (sym (append-nil (nodes_of (Some x.0) done))
        ∙ (ap (λ ns. nodes_of (Some x.0) done ++ ns) (sym closed)
        ∙ (sym (told_append (own node_on x.0) unit_alone done rest)
        ∙ (ap (told (own node_on x.0) unit_alone) (sym split)
        ∙ (ap (λ h. nodes_of h all) (sym o.0) ∙ ap (λ (l : Line). nodes_of (home l (layers s.before)) all) (sym form.is)))))) in
        let wrong : IsFault all s.before text_line f.kind =
        wrong_literal t.found t.free
        (subst (λ (ns : List (ℕ × ℕ)). literal_fault (functions all) (want_of ns lit.node lit.port) lit.text (kind_at t.entry.code) (basic_at t.entry.first) ≡ Some f.kind) nodes t.wrong) in
        record {
          before = s.before;
          line = s.line;
          after = s.after ++ rest;
          is = whole s.before (w.item.0, s.line) s.after s.is ∙ ap (λ (n : ℕ). s.before ++ (n, s.line) ∷ (s.after ++ rest)) (sym w.at);
          fault = subst (λ (l : Line). IsFault all s.before l f.kind) form.is wrong;
        }

    -- a graph to which no further line belongs
    pub page_found : told (own node_on x.0) (layers done) rest ≡ [] → (f : Fault) → Contains (page_faults r x.1) f → IsFound all f
    page_found closed f c =
        elim (Contains-append_cases (again (λ n. n.0) [] x.1.nodes) (wrong_lits r (map (λ n. n.1) x.1.nodes) x.1.lits) f c) [
          | inl d ↦ again_found f d
          | inr d ↦ lit_found closed f d
        ]

-- a line that ends it
pub ended_by : (g n : ℕ) (l : Line) (os : List Layer) (rest : List Lined) → (home l os ≡ Some g → ⊥) → Free g (next n l os) → NoNumber g rest →
    told (own node_on g) os ((n, l) ∷ rest) ≡ []
ended_by g n l os rest ne free not =
    ap (λ o. with_some o (told (own node_on g) (next n l os) rest)) (own_other node_on g l os ne)
    ∙ (sym (lined_told (own node_on g) (next n l os) rest) ∙ ap (map (λ (x : ℕ × (ℕ × ℕ)). x.1)) (free_lined node_on g (next n l os) rest free not))
