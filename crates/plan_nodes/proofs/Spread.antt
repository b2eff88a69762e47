-- Ports with others before them that nothing fills.
use Rattle.std.proofs.Common.{◌≡◌, ℕ, zero, suc, Bool, false, List, [], ◌∷◌, ◌++◌, map, replicate, Some, None, refl, sym, ap, ◌∙◌, subst}
use Rattle.std.proofs.lemmas.List.{map-append}
use Rattle.flow_value.specs.declared.operands.Shape.{Shape}
use Rattle.if1_graph.specs.declared.op.Simple.{Simple}
use Rattle.if1_graph.specs.declared.op.Simple.TheVariants as simple
use Rattle.gapped.specs.Spread.{spread}
use Rattle.gapped.proofs.Spreading.{map-spread}
use Rattle.plan_data.specs.declared.plan.Port.{Port}
use Rattle.plan_builder.specs.declared.ways.Reading.{Reading}
use Rattle.plan_builder.specs.declared.ways.Reading.TheVariants as reading
use Rattle.plan_builder.specs.Collects.{collects_of, whole_of, wholes_of}
use Rattle.plan_builder.specs.Ways.{multiple_by, reading_by}
use Rattle.port_feeds.specs.declared.filled.Filled.{Filled}
use Rattle.plan_nodes.specs.Nodes.{IsSparse, plain_collects, plain_node, reading_in, simple_by}
use Rattle.plan_nodes.specs.Ports.{if_multiple, collected_by, number_after, port_by, read_ports, row_read, told_in, whole_by, whole_ports}

pub ports_spread : (f : Filled) (ks : List ℕ) (fs : List Filled) → spread (port_by f) ks (map port_by fs) ≡ map port_by (spread f ks fs)
ports_spread f ks fs = sym (map-spread port_by f ks fs)

-- ---- nodes of whose ports few may be filled

pub sparse-told : (row : Simple) → IsSparse row → (fs : List Filled) → false ≡ told_in fs row
sparse-told simple.RBuild h fs = refl
sparse-told simple.RReplace h fs = refl
sparse-told (simple.One f) h fs = absurd h
sparse-told (simple.Two f) h fs = absurd h
sparse-told simple.NoOp h fs = absurd h
sparse-told simple.Error h fs = absurd h
sparse-told simple.Call h fs = absurd h
sparse-told simple.ABuild h fs = absurd h
sparse-told simple.AFill h fs = absurd h
sparse-told simple.AElement h fs = absurd h
sparse-told simple.AReplace h fs = absurd h
sparse-told simple.AAddH h fs = absurd h
sparse-told simple.AAddL h fs = absurd h
sparse-told simple.ARemH h fs = absurd h
sparse-told simple.ARemL h fs = absurd h
sparse-told simple.ASetL h fs = absurd h
sparse-told simple.AAdjust h fs = absurd h
sparse-told simple.ALimL h fs = absurd h
sparse-told simple.ALimH h fs = absurd h
sparse-told simple.ASize h fs = absurd h
sparse-told simple.AIsEmpty h fs = absurd h
sparse-told simple.ACatenate h fs = absurd h
sparse-told simple.FirstValue h fs = absurd h
sparse-told simple.RestValues h fs = absurd h
sparse-told simple.RElements h fs = absurd h
sparse-told simple.RangeGenerate h fs = absurd h
sparse-told simple.AScatter h fs = absurd h
sparse-told simple.AGather h fs = absurd h
sparse-told simple.FinalValue h fs = absurd h
sparse-told (simple.Reduce g) h fs = absurd h

sparse-read : (row : Simple) → IsSparse row → (plain : ℕ) (copies : Bool) (xs : List Port) → reading_by plain copies row xs ≡ reading.Whole
sparse-read simple.RBuild h plain copies xs = refl
sparse-read simple.RReplace h plain copies xs = refl
sparse-read (simple.One f) h plain copies xs = absurd h
sparse-read (simple.Two f) h plain copies xs = absurd h
sparse-read simple.NoOp h plain copies xs = absurd h
sparse-read simple.Error h plain copies xs = absurd h
sparse-read simple.Call h plain copies xs = absurd h
sparse-read simple.ABuild h plain copies xs = absurd h
sparse-read simple.AFill h plain copies xs = absurd h
sparse-read simple.AElement h plain copies xs = absurd h
sparse-read simple.AReplace h plain copies xs = absurd h
sparse-read simple.AAddH h plain copies xs = absurd h
sparse-read simple.AAddL h plain copies xs = absurd h
sparse-read simple.ARemH h plain copies xs = absurd h
sparse-read simple.ARemL h plain copies xs = absurd h
sparse-read simple.ASetL h plain copies xs = absurd h
sparse-read simple.AAdjust h plain copies xs = absurd h
sparse-read simple.ALimL h plain copies xs = absurd h
sparse-read simple.ALimH h plain copies xs = absurd h
sparse-read simple.ASize h plain copies xs = absurd h
sparse-read simple.AIsEmpty h plain copies xs = absurd h
sparse-read simple.ACatenate h plain copies xs = absurd h
sparse-read simple.FirstValue h plain copies xs = absurd h
sparse-read simple.RestValues h plain copies xs = absurd h
sparse-read simple.RElements h plain copies xs = absurd h
sparse-read simple.RangeGenerate h plain copies xs = absurd h
sparse-read simple.AScatter h plain copies xs = absurd h
sparse-read simple.AGather h plain copies xs = absurd h
sparse-read simple.FinalValue h plain copies xs = absurd h
sparse-read (simple.Reduce g) h plain copies xs = absurd h

-- ports that no multiple fills stay, and nothing is collected for them
module _ (plain : ℕ) (f : Filled) (none : multiple_by plain f.feed ≡ None) where
  stays : (k n : ℕ) (ys : List Filled) → whole_ports plain k (replicate n f ++ ys) ≡ replicate n (port_by f) ++ whole_ports plain k ys
  stays k zero ys = refl
  stays k (suc n) ys =
      ap (λ o. if_multiple o (collected_by plain k f) (port_by f) ∷ whole_ports plain (if_multiple o (suc k) k) (replicate n f ++ ys)) none ∙ ap (λ z. port_by f ∷ z) (stays k n ys)

  ports-read : (k : ℕ) (ks : List ℕ) (fs : List Filled) → spread (port_by f) ks (whole_ports plain k fs) ≡ whole_ports plain k (spread f ks fs)
  ports-read k [] fs = refl
  ports-read k (n ∷ ks) [] = refl
  ports-read k (n ∷ ks) (y ∷ ys) =
      ap (λ z. replicate n (port_by f) ++ (whole_by plain k y ∷ z)) (ports-read (number_after plain k y) ks ys) ∙ sym (stays k n (y ∷ spread f ks ys))

  passes : (n : ℕ) (ys : List Port) → wholes_of plain (replicate n (port_by f) ++ ys) ≡ wholes_of plain ys
  passes zero ys = refl
  passes (suc n) ys = ap (λ o. whole_of o ++ wholes_of plain (replicate n (port_by f) ++ ys)) none ∙ passes n ys

  collected-same : (ks : List ℕ) (xs : List Port) → wholes_of plain (spread (port_by f) ks xs) ≡ wholes_of plain xs
  collected-same [] xs = refl
  collected-same (n ∷ ks) [] = refl
  collected-same (n ∷ ks) (x ∷ xs) = passes n (x ∷ spread (port_by f) ks xs) ∙ ap (λ z. whole_of (multiple_by plain x.feed) ++ z) (collected-same ks xs)

  module _ (row : Simple) (sparse : IsSparse row) (ks : List ℕ) (fs : List Filled) where
    pub sparse-node : (joined : Bool) (marks k : ℕ) (shape : Shape) → simple_by (spread f ks fs) joined marks row row shape (spread (port_by f) ks (whole_ports plain k fs)) ≡ plain_node (spread f ks fs) joined marks (Some plain) k row shape
    sparse-node joined marks k shape =
        ap (simple_by (spread f ks fs) joined marks row row shape) (ports-read k ks fs)
        ∙ sym (ap (λ r. simple_by (spread f ks fs) joined marks (row_read r row) row shape (read_ports r plain k (spread f ks fs))) (sparse-read row sparse plain _ (map port_by (spread f ks fs))))

    pub sparse-collects : collects_of reading.Whole plain (map port_by fs) ≡ plain_collects (Some plain) row (spread f ks fs)
    sparse-collects =
        sym (collected-same ks (map port_by fs))
        ∙ (ap (wholes_of plain) (ports_spread f ks fs) ∙ sym (ap (λ r. collects_of r plain (map port_by (spread f ks fs))) (sparse-read row sparse plain _ (map port_by (spread f ks fs)))))
