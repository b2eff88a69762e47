-- Ranges one behind the other.
use Rattle.std.proofs.Common.{◌≡◌, ℕ, zero, suc, ◌+◌, List, [], ◌∷◌, ◌++◌, map, drop, get_or, Option, None, Some, refl, sym, ap, ◌∙◌, subst, arith}
use Rattle.std.proofs.lemmas.List.{append_assoc}
use Rattle.flow_value.specs.declared.cause.Cause.{Cause}
use Rattle.flow_value.specs.declared.value.Val.{Val}
use Rattle.graph_meaning.specs.Carried.{Carried, Many, Spoiled, Unfilled, val_of}
use Rattle.graph_meaning.specs.Demand.{Network}
use Rattle.graph_meaning.specs.Forms.{heads, items, rows_of}
use Rattle.graph_meaning.specs.Plain.{CarryAll, MeanAll, NodesFire, RowsFire, a_row, no_row, of_no_row, of_row}
use Rattle.ordered_meaning.specs.Keep.{Keep}
use Rattle.ordered_meaning.specs.Keep.TheVariants.{Dropped, Failed, Kept}
use Rattle.ordered_meaning.specs.Masking.TheVariants as masking
use Rattle.ordered_meaning.specs.Masks.{keep_of}
use Rattle.run_code.proofs.Folding.{all-made}
use Rattle.run_code.specs.Collections.{Collect, Final, Sifts, behind_where, collected, made, none_in, nothing_in, put_in, puts}
use Rattle.run_laws.proofs.Rows.{all-next}
use Rattle.run_ranges.specs.Joined.{AreRangesCut, DoCollectionsJoin, joined, joined_all}
use Rattle.run_ranges.specs.Ranges.{put_rows, rows_from}
use Rattle.run_ranges.proofs.Going.{puts-same}

-- ---- rows

module _ (u : Network) where
  -- what the results of several rows consist of
  abbrev MeanIn : (depth graph : ℕ) → List (List Carried) → List (List Carried) → Type 0
  MeanIn d g [] lists = lists ≡ []
  MeanIn d g (row ∷ rows) lists = (rs : List Carried) × (more : List (List Carried)) × CarryAll u d g row (u g).results rs × MeanAll u d g rows more × (lists ≡ rs ∷ more)

  mean-in : (d g : ℕ) (rows lists : List (List Carried)) → MeanAll u d g rows lists → MeanIn d g rows lists
  mean-in _ _ _ _ (no_row d g) = refl
  mean-in _ _ _ _ (a_row d g ins rs rows lists a b) = (rs, lists, a, b, refl)

  -- and their firings
  abbrev FireIn : (depth graph : ℕ) → List (List Carried) → ℕ → Type 0
  FireIn e g [] c = c ≡ 0
  FireIn e g (row ∷ rows) c = (one : ℕ) × (later : ℕ) × NodesFire u e g row (u g).nodes one × RowsFire u e g rows later × (c ≡ 1 + (one + later))

  fire-in : (e g : ℕ) (rows : List (List Carried)) (c : ℕ) → RowsFire u e g rows c → FireIn e g rows c
  fire-in _ _ _ _ (of_no_row e g) = refl
  fire-in _ _ _ _ (of_row e g ins rows c d a b) = (c, d, a, b, refl)

  mean-cut : (d g : ℕ) (xs ys lists : List (List Carried)) → MeanAll u d g (xs ++ ys) lists → (as₁ : List (List Carried)) × (bs : List (List Carried)) × MeanAll u d g xs as₁ × MeanAll u d g ys bs × (lists ≡ as₁ ++ bs)
  mean-cut d g [] ys lists h = ([], lists, no_row d g, h, refl)
  mean-cut d g (x ∷ xs) ys lists h =
      let y = mean-in d g (x ∷ (xs ++ ys)) lists h in
      let z = mean-cut d g xs ys y.1 y.3 in
      (y.0 ∷ z.0, z.1, a_row d g x y.0 xs z.0 y.2 z.2, z.3, y.4 ∙ ap (λ l. y.0 ∷ l) z.4)

  fire-cut : (e g : ℕ) (xs ys : List (List Carried)) (cost : ℕ) → RowsFire u e g (xs ++ ys) cost → (c : ℕ) × (d : ℕ) × RowsFire u e g xs c × RowsFire u e g ys d × (cost ≡ c + d)
  fire-cut e g [] ys cost h = (0, cost, of_no_row e g, h, omega arith)
  fire-cut e g (x ∷ xs) ys cost h =
      let y = fire-in e g (x ∷ (xs ++ ys)) cost h in
      let z = fire-cut e g xs ys y.1 y.3 in
      let p = y.4 in
      let q = z.4 in
      (1 + (y.0 + z.0), z.1, of_row e g x xs y.0 z.0 y.2 z.2, z.3, omega (arith, p, q))

rows-behind : (i k l : ℕ) (ls : List (List Val)) → rows_of (k + l) (map (drop i) ls) ≡ rows_of k (map (drop i) ls) ++ rows_of l (map (drop (i + k)) ls)
rows-behind i zero l ls =
    let a : 0 + l ≡ l = omega arith in
    let b : i ≡ i + 0 = omega arith in
    ap (λ z. rows_of z (map (drop i) ls)) a ∙ ap (λ z. rows_of l (map (drop z) ls)) b
rows-behind i (suc k) l ls =
    let a : suc k + l ≡ suc (k + l) = omega arith in
    let b : suc i + k ≡ i + suc k = omega arith in
    ap (λ z. rows_of z (map (drop i) ls)) a
    ∙ ap (λ z. heads (map (drop i) ls) ∷ z)
    (ap (rows_of (k + l)) (all-next i ls) ∙ (rows-behind (suc i) k l ls
    ∙ (ap (λ z. rows_of k z ++ rows_of l (map (drop (suc i + k)) ls)) (sym (all-next i ls)) ∙ ap (λ z. rows_of k (map (drop 1) (map (drop i) ls)) ++ rows_of l (map (drop z) ls)) b)))

map-both : (f : List Carried → List Carried) (xs ys : List (List Carried)) → map f (xs ++ ys) ≡ map f xs ++ map f ys
map-both f [] ys = refl
map-both f (x ∷ xs) ys = ap (λ zs. f x ∷ zs) (map-both f xs ys)

from-behind : (i k l : ℕ) (ks ms : List Carried) → rows_from i (k + l) ks ms ≡ rows_from i k ks ms ++ rows_from (i + k) l ks ms
from-behind i k l ks ms =
    ap (map (λ row. ks ++ row)) (rows-behind i k l (map items ms)) ∙ map-both (λ row. ks ++ row) (rows_of k (map (drop i) (map items ms))) (rows_of l (map (drop (i + k)) (map items ms)))

pub ranges-cut : AreRangesCut
ranges-cut u g i k l ks ms results cost h =
    let e = from-behind i k l ks ms in
    let m = mean-cut u h.0 g (rows_from i k ks ms) (rows_from (i + k) l ks ms) results (subst (λ z. MeanAll u h.0 g z results) e h.2) in
    let f = fire-cut u h.1 g (rows_from i k ks ms) (rows_from (i + k) l ks ms) cost (subst (λ z. RowsFire u h.1 g z cost) e h.3) in
    (m.0, m.1, f.0, f.1, (h.0, h.1, m.2, f.2), (h.0, h.1, m.3, f.3), m.4, f.4)

-- ---- collections

puts-both : (c : Collect) (xs ys : List (List Carried)) (k : Carried) → puts c (xs ++ ys) k ≡ puts c ys (puts c xs k)
puts-both c [] ys k = refl
puts-both c (x ∷ xs) ys k = puts-both c xs ys (put_in c x k)

-- a multiple, or the error of a mask
data Sifted : Carried → Type 0 where
  whole : (vs : List Val) → Sifted (Many vs)
  failed : (e : Cause) → Sifted (Spoiled e)

where-spoiled : (k : Keep) (e : Cause) (c : Carried) → behind_where k (Spoiled e) c ≡ Spoiled e
where-spoiled Kept e c = refl
where-spoiled Dropped e c = refl
where-spoiled (Failed d) e c = refl

puts-spoiled : (j : ℕ) (mask : Option ℕ) (rows : List (List Carried)) (e : Cause) → puts (Sifts j mask) rows (Spoiled e) ≡ Spoiled e
puts-spoiled j mask [] e = refl
puts-spoiled j None (r ∷ rs) e = puts-spoiled j None rs e
puts-spoiled j (Some q) (r ∷ rs) e =
    ap (puts (Sifts j (Some q)) rs) (where-spoiled (keep_of masking.When (val_of (get_or r q Unfilled))) e (get_or r j Unfilled)) ∙ puts-spoiled j (Some q) rs e

puts-sifted : (j : ℕ) (mask : Option ℕ) (rows : List (List Carried)) (vs : List Val) → Sifted (puts (Sifts j mask) rows (Many vs))
puts-sifted j mask [] vs = whole vs
puts-sifted j None (r ∷ rs) vs = puts-sifted j None rs (vs ++ val_of (get_or r j Unfilled) ∷ [])
puts-sifted j (Some q) (r ∷ rs) vs = go (keep_of masking.When (val_of (get_or r q Unfilled))) (λ ws. puts-sifted j (Some q) rs ws)
  where
    go : (k : Keep) → ((ws : List Val) → Sifted (puts (Sifts j (Some q)) rs (Many ws))) → Sifted (puts (Sifts j (Some q)) rs (behind_where k (Many vs) (get_or r j Unfilled)))
    go Kept more = more (vs ++ val_of (get_or r j Unfilled) ∷ [])
    go Dropped more = more vs
    go (Failed e) more = subst Sifted (sym (puts-spoiled j (Some q) rs e)) (failed e)

-- what is put behind values
puts-behind : (j : ℕ) (mask : Option ℕ) (rows : List (List Carried)) (vs ws : List Val) → puts (Sifts j mask) rows (Many (vs ++ ws)) ≡ joined (Sifts j mask) (Many vs) (puts (Sifts j mask) rows (Many ws))
puts-behind j mask [] vs ws = refl
puts-behind j None (r ∷ rs) vs ws =
    let v = val_of (get_or r j Unfilled) in
    ap (λ z. puts (Sifts j None) rs (Many z)) (append_assoc vs ws (v ∷ [])) ∙ puts-behind j None rs vs (ws ++ v ∷ [])
puts-behind j (Some q) (r ∷ rs) vs ws = go (keep_of masking.When (val_of (get_or r q Unfilled))) (λ zs. puts-behind j (Some q) rs vs zs)
  where
    go : (k : Keep) → ((zs : List Val) → puts (Sifts j (Some q)) rs (Many (vs ++ zs)) ≡ joined (Sifts j (Some q)) (Many vs) (puts (Sifts j (Some q)) rs (Many zs)))
        → puts (Sifts j (Some q)) rs (behind_where k (Many (vs ++ ws)) (get_or r j Unfilled))
        ≡ joined (Sifts j (Some q)) (Many vs) (puts (Sifts j (Some q)) rs (behind_where k (Many ws) (get_or r j Unfilled)))
    go Kept more =
        let v = val_of (get_or r j Unfilled) in
        ap (λ z. puts (Sifts j (Some q)) rs (Many z)) (append_assoc vs ws (v ∷ [])) ∙ more (ws ++ v ∷ [])
    go Dropped more = more ws
    go (Failed e) more = puts-spoiled j (Some q) rs e ∙ sym (ap (joined (Sifts j (Some q)) (Many vs)) (puts-spoiled j (Some q) rs e))

no-more : (vs : List Val) → vs ++ [] ≡ vs
no-more [] = refl
no-more (v ∷ vs) = ap (λ z. v ∷ z) (no-more vs)

sifts-join : (j : ℕ) (mask : Option ℕ) (rows : List (List Carried)) (m : Carried) → Sifted m → puts (Sifts j mask) rows m ≡ joined (Sifts j mask) m (puts (Sifts j mask) rows (Many []))
sifts-join j mask rows _ (whole vs) = ap (λ z. puts (Sifts j mask) rows (Many z)) (sym (no-more vs)) ∙ puts-behind j mask rows vs []
sifts-join j mask rows _ (failed e) = puts-spoiled j mask rows e

one-join : (c : Collect) (first : List (List Carried)) (row : List Carried) (others : List (List Carried)) → made c (first ++ row ∷ others) ≡ joined c (made c first) (made c (row ∷ others))
one-join (Sifts j mask) first row others = puts-both (Sifts j mask) first (row ∷ others) (Many []) ∙ sifts-join j mask (row ∷ others) (made (Sifts j mask) first) (puts-sifted j mask first [])
one-join (Final j) first row others = puts-both (Final j) first (row ∷ others) (none_in (Final j))

all-join : (cs : List Collect) (first : List (List Carried)) (row : List Carried) (others : List (List Carried)) → collected cs (first ++ row ∷ others) ≡ joined_all cs (collected cs first) (collected cs (row ∷ others))
all-join [] first row others = refl
all-join (c ∷ cs) first row others =
    ap (λ k. k ∷ collected cs (first ++ row ∷ others)) (one-join c first row others) ∙ ap (λ ks. joined c (made c first) (made c (row ∷ others)) ∷ ks) (all-join cs first row others)

as-collected : (cs : List Collect) (rows : List (List Carried)) → put_rows cs rows (nothing_in cs) ≡ collected cs rows
as-collected cs rows = sym (puts-same cs rows (nothing_in cs)) ∙ all-made cs rows

pub collections-join : DoCollectionsJoin
collections-join cs first row others =
    as-collected cs (first ++ row ∷ others)
    ∙ (all-join cs first row others
    ∙ (ap (λ z. joined_all cs z (collected cs (row ∷ others))) (sym (as-collected cs first)) ∙ ap (joined_all cs (put_rows cs first (nothing_in cs))) (sym (as-collected cs (row ∷ others)))))
