-- Weights by modes are those of record where modes go by marks.
use Rattle.std.proofs.Common.{◌≡◌, ◌⊎◌, inl, inr, ℕ, suc, ◌+◌, ◌≤◌, ◌&&◌, not, if◌then◌else◌, Bool, true, false, List, [], ◌∷◌, length, refl, sym, ap, ◌∙◌, arith}
use Rattle.graph_meaning.specs.Carried.{Carried}
use Rattle.graph_meaning.specs.Forms as form
use Rattle.graph_meaning.specs.Demand.{EachNode, Kind, Plain, Source, Vertex, Whole}
use Rattle.graph_meaning.specs.Storage.{Storage, copying, given_copied, is_left, leaves_at, leaves_of, node_copied}
use Rattle.run_code.specs.Cells.{picked}
use Rattle.run_code.specs.Made.{Plan}
use Rattle.run_store.proofs.Ports.{modes-copied}
use Rattle.run_store.specs.Ports.{copies_of, mode_of, modes_of, picks_of}
use Rattle.run_store.specs.Stored.{copied, copied_as}
use Rattle.made_store.proofs.Flows.{none-copied}
use Rattle.made_store.specs.Settings.{Shares, result_modes}
use Rattle.made_store.specs.Weights.{AreModesWeights, IsNodeMarked, by_modes, is_copied, node_weight}

none-left : (test : ℕ → Bool) (first : ℕ) (ks : List Carried) → ((p : ℕ) → first ≤ p → test p ≡ false) → leaves_at test first ks ≡ 0
none-left test first [] none = refl
none-left test first (k ∷ ks) none =
    let e = none-left test (suc first) ks (λ p le. none p (omega (arith, le))) in
    ap (λ b. (if b then leaves_of k else 0) + leaves_at test (suc first) ks) (none first (omega arith)) ∙ omega (arith, e)

mode-copied : (t c : Bool) (k : Carried) → copied_as (mode_of t c) k ≡ (if c && not t then leaves_of k else 0)
mode-copied true true k = refl
mode-copied true false k = refl
mode-copied false true k = refl
mode-copied false false k = refl

-- of however many values
modes-all : (takes copies test : ℕ → Bool) (first : ℕ) (os : List Source) (ks : List Carried) → ((p : ℕ) → test p ≡ copies p && not (takes p)) → ((p : ℕ) → first + length os ≤ p → test p ≡ false) → copied (modes_of takes copies first os) ks ≡ leaves_at test first ks
modes-all takes copies test first [] ks is none = none-copied ks ∙ sym (none-left test first ks (λ p le. none p (omega (arith, le))))
modes-all takes copies test first (o ∷ os) [] is none = refl
modes-all takes copies test first (o ∷ os) (k ∷ ks) is none =
    ap (λ n. n + copied (modes_of takes copies (suc first) os) ks) (mode-copied (takes first) (copies first) k ∙ ap (λ b. if b then leaves_of k else 0) (sym (is first)))
    ∙ ap (λ n. (if test first then leaves_of k else 0) + n) (modes-all takes copies test (suc first) os ks is (λ p le. none p (omega (arith, le))))

picks-all : (test : ℕ → Bool) (first : ℕ) (os : List Source) (ks : List Carried) → ((p : ℕ) → first + length os ≤ p → test p ≡ false) → copied (copies_of (picks_of test first os)) (picked (picks_of test first os) ks) ≡ leaves_at test first ks
picks-all test first [] ks none = sym (none-left test first ks (λ p le. none p (omega (arith, le))))
picks-all test first (o ∷ os) [] none = refl
picks-all test first (o ∷ os) (k ∷ ks) none = go (test first) (picks-all test (suc first) os ks (λ p le. none p (omega (arith, le))))
  where
    go : (b : Bool) → copied (copies_of (picks_of test (suc first) os)) (picked (picks_of test (suc first) os) ks) ≡ leaves_at test (suc first) ks
        → copied (copies_of (b ∷ picks_of test (suc first) os)) (picked (b ∷ picks_of test (suc first) os) (k ∷ ks)) ≡ (if b then leaves_of k else 0) + leaves_at test (suc first) ks
    go true rest = ap (λ n. leaves_of k + n) rest
    go false rest = rest ∙ omega arith

module _ (P : Plan) (S : Shares) (s : Storage) where
  given-all : (g : ℕ) (v : Vertex) (ks : List Carried) → (P.picks g v ≡ picks_of (is_copied P S s g v.label) 1 v.ins) × ((p : ℕ) → 1 + length v.ins ≤ p → is_copied P S s g v.label p ≡ false)
      → copied (copies_of (P.picks g v)) (picked (P.picks g v) ks) ≡ given_copied s g v.label 1 ks
  given-all g v ks h = ap (λ bs. copied (copies_of bs) (picked bs ks)) h.0 ∙ picks-all (is_copied P S s g v.label) 1 v.ins ks h.1

  kind-same : (g : ℕ) (v : Vertex) (k : Kind) (ks rs : List Carried) → IsNodeMarked P S s g v k → node_weight P S s g v k ks rs ≡ node_copied s g v.label k ks rs
  kind-same g v (Plain row shape) ks rs h = refl
  kind-same g v (Whole (form.Call f)) ks rs h =
      ap (λ m. copied (modes_of (S.takes g v.label) (S.copies g v.label) m v.ins) ks) h.2 ∙ modes-all (S.takes g v.label) (S.copies g v.label) (is_copied P S s g v.label) 2 v.ins ks h.0 h.1
  kind-same g v (Whole (form.Select x gs w)) ks rs h = given-all g v ks h
  kind-same g v (Whole (form.TagCase gs w)) ks rs h = given-all g v ks h
  kind-same g v (Whole (form.LoopA i t b r w)) ks rs h = given-all g v ks h
  kind-same g v (Whole (form.LoopB i t b r w)) ks rs h = given-all g v ks h
  kind-same g v (Whole (form.ForAll e b r m w)) ks rs h = given-all g v ks h

  nodes-same : (g : ℕ) (vs : List Vertex) → EachNode (λ v. IsNodeMarked P S s g v v.kind) vs → EachNode (λ v. (ks rs : List Carried) → (by_modes P S s).weights.of_node g v ks rs ≡ (copying s).of_node g v ks rs) vs
  nodes-same g [] h = tt
  nodes-same g (v ∷ vs) h = ((λ ks rs. kind-same g v v.kind ks rs h.0), nodes-same g vs h.1)

pub modes-weights : AreModesWeights
modes-weights P S s u h g = (nodes-same P S s g (u g).nodes (h.nodes g), λ rs many. go rs many (h.as_many g))
  where
    go : (rs : List Carried) → length rs ≡ length (u g).results → (length (P.results g) ≡ length (u g).results) ⊎ ((u g).results ≡ []) → copied (result_modes P S g) rs ≡ leaves_at (is_left s g 0) 1 rs
    go rs many (inl e) = modes-copied (S.takes g 0) (S.copies g 0) (is_left s g 0) (h.results g) 1 (P.results g) rs (e ∙ sym many)
    go [] many (inr e) = refl
    go (r ∷ rs) many (inr e) = let z = ap length e in absurd (omega (arith, many, z))
