-- Where all slices of a step were made, its iterations have results.
use Rattle.std.proofs.Common.{◌≡◌, ℕ, suc, ◌+◌, ◌≤◌, List, [], ◌∷◌, ◌++◌, map, slice_get, Some, refl, ap, ◌∙◌, subst, arith}
use Rattle.graph_meaning.specs.Carried.{Carried}
use Rattle.graph_meaning.specs.Entered.{Slice}
use Rattle.graph_meaning.specs.Forms.{Form, Iterate}
use Rattle.graph_meaning.specs.Demand.{Network, Cut, IsCut, AreOrderly, flatten, and_then, all, dem, tree}
use Rattle.graph_meaning.specs.Histories.{OwnFirings}
use Rattle.graph_meaning.proofs.Ranks.{ranked}
use Rattle.graph_meaning.proofs.Theorems.{values-stable, meant-where-costed}
use Rattle.run_states.specs.Phases.{Comes}
use Rattle.run_states.specs.Paths.{IsWhole}
use Rattle.run_states.proofs.Slices.{RowsCost, no_row, a_row, firings-cost}

module _ (cut : Cut) (u : Network) (is-cut : IsCut cut) (orderly : AreOrderly u) (j : ℕ) where
  abbrev Given : List Carried → Type 0
  Given row = (rs : List Carried) × (n : ℕ) × (dem n u j row ≡ Some rs)

  abbrev AllGiven : List (List Carried) → Type 0
  AllGiven [] = Unit {0}
  AllGiven (row ∷ rows) = Given row × AllGiven rows

  rows-given : (rows : List (List Carried)) (q : ℕ) → RowsCost cut u j rows q → AllGiven rows
  rows-given _ _ no_row = tt
  rows-given _ _ (a_row {row = row} {rows = rows} {c = c} {d = d} a r) =
      let m = meant-where-costed cut u j row c a.0 is-cut orderly a.1 in
      ((m.0, a.0, m.1), rows-given rows d r)

  appended : (xs ys : List (List Carried)) → AllGiven xs → AllGiven ys → AllGiven (xs ++ ys)
  appended [] ys a b = b
  appended (x ∷ xs) ys a b = (a.0, appended xs ys a.1 b)

  parts-given : (parts : List (List (List Carried))) → ((r : ℕ) (part : List (List Carried)) → slice_get parts r ≡ Some part → (q : ℕ) × RowsCost cut u j part q) → AllGiven (flatten parts)
  parts-given [] h = tt
  parts-given (part ∷ parts) h =
      let first = h 0 part refl in
      appended part (flatten parts) (rows-given part first.0 first.1) (parts-given parts (λ r p e. h (suc r) p e))

  -- from some depth on each one gives all
  gathered : (rows : List (List Carried)) → AllGiven rows → (lists : List (List Carried)) × (n : ℕ) × ((k : ℕ) → n ≤ k → all (map (λ ins. dem k u j ins) rows) ≡ Some lists)
  gathered [] a = ([], 0, λ k le. refl)
  gathered (row ∷ rows) a =
      let rest = gathered rows a.1 in (
        a.0.0 ∷ rest.0,
        a.0.1 + rest.1,
        λ k le.
            ap (λ o. and_then o (λ r. and_then (all (map (λ ins. dem k u j ins) rows)) (λ more. Some (r ∷ more)))) (values-stable u j row a.0.0 a.0.1 k (omega (arith, le)) a.0.2)
            ∙ ap (λ o. and_then o (λ more. Some (a.0.0 ∷ more))) (rest.2 k (omega (arith, le))),
      )

pub all-gathered : (cut : Cut) (u : Network) → IsCut cut → AreOrderly u → (h : ℕ) (is : List Carried) (l : ℕ) (form : Form) (ks : List Carried) → IsWhole u h is l form ks
    → (n j : ℕ) (row : List Carried) (rows : List (List Carried)) (ms : List Carried) → Comes u form ks n (Iterate j row rows ms)
    → ((r : ℕ) (part : List (List Carried)) → slice_get (cut (row ∷ rows)) r ≡ Some part → (q : ℕ) × OwnFirings (λ d. tree cut d u h is) (Slice l (suc n) r) q)
    → (lists : List (List Carried)) × ((d : ℕ) × (all (map (λ ins. dem d u j ins) (row ∷ rows)) ≡ Some lists))
all-gathered cut u is-cut orderly h is l form ks w n j row rows ms c made =
    let parts = parts-given cut u is-cut orderly j (cut (row ∷ rows))
    (λ r part e. let f = made r part e in (f.0, firings-cost cut u is-cut (ranked u orderly) h is w.node l w.found form ks w.kind w.given n j row rows ms c r part e f.0 f.1)) in
    let x = gathered cut u is-cut orderly j (row ∷ rows) (subst (AllGiven cut u is-cut orderly j) (is-cut.joins (row ∷ rows)) parts) in
    (x.0, (x.1, x.2 x.1 (omega arith)))
