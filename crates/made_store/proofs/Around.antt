-- What forms of nodes need to know of the cells around a node.
use Rattle.std.proofs.Common.{◌≡◌, ℕ, zero, suc, ◌+◌, ◌<◌, ◌⊎◌, inl, inr, if◌then◌else◌, Bool, true, false, List, [], ◌∷◌, length, map, get_or, refl, sym, ap, ◌∙◌, subst, arith}
use Rattle.graph_meaning.specs.Carried.{Unfilled}
use Rattle.graph_meaning.specs.Demand.{Source, Port, Fixed, Vertex}
use Rattle.run_code.specs.Taking.{Fills, NoneIsTaken, Taken, TakesAlone, IsTaken as WasTaken, first_port, taken_by}
use Rattle.run_code.specs.Cells.{Operand, At, Lit}
use Rattle.run_code.specs.Coded.{Places, operand}
use Rattle.run_code.specs.Known.{Known, KnowsAll}
use Rattle.run_code.specs.Made.{Plan, placed}
use Rattle.run_made.specs.Plans.{Weighing}
use Rattle.run_store.proofs.Ports.{IsOwnCell, StandsBelow, gone-after, known-at}
use Rattle.run_store.specs.Ports.{IsAlive, KnowsPort, mode_of, modes_of}
use Rattle.run_store.specs.Refines.{IsTaken}
use Rattle.run_store.specs.Stored.{Copies, Looks, Takes}
use Rattle.made_store.proofs.Alive.{alive-so, alive-sound, reads-there, seat-inputs, seat-is, seat-so}
use Rattle.made_store.proofs.Scenes.{IsReached, all-in, filled, kept-alive, owned, there}
use Rattle.made_store.specs.Settings.{Cells_of, Shares, alive}
use Rattle.made_store.specs.Shared.{AreThere}

-- The cells that are live before a node, and those that own; and of these what is kept behind it, without its outputs. What it does not
-- take is kept, and what it takes has a cell of its own.
pub record IsAround (lives owns keep hold : Cells_of) (args : List Operand) (takes : ℕ → Bool) (first lo : ℕ) : Type 0 where
  pub kept : (i : ℕ) → keep i ≡ true → (lives i ≡ true) × (i < lo)
  pub held : (i : ℕ) → hold i ≡ true → (owns i ≡ true) × (i < lo)
  pub reads : (j i : ℕ) → get_or args j (Lit Unfilled) ≡ At i → (lives i ≡ true) × (i < lo)
  pub left : (j i : ℕ) → takes (first + j) ≡ false → get_or args j (Lit Unfilled) ≡ At i → keep i ≡ true
  pub gone : (j i : ℕ) → takes (first + j) ≡ true → get_or args j (Lit Unfilled) ≡ At i
      → (owns i ≡ true) × (keep i ≡ true → ⊥) × (hold i ≡ true → ⊥) × ((q : ℕ) → get_or args q (Lit Unfilled) ≡ At i → q ≡ j)

-- ---- what is taken

pub none-filled : (taken : Taken) (os : List Source) (first j l p : ℕ) → NoneIsTaken taken os → Fills j os first l p → WasTaken taken l p → ⊥
none-filled taken [] first j l p n h w = h
none-filled taken (Fixed c ∷ os) first j l p n (inl h) w = clash h.1
  where
    clash : Fixed c ≡ Port l p → ⊥
    clash e = cc
none-filled taken (Fixed c ∷ os) first j l p n (inr h) w = none-filled taken os (suc first) j l p n h w
none-filled taken (Port a b ∷ os) first j l p n (inl h) w = n.0 (subst (λ x. WasTaken taken x b) (left h.1) (subst (λ x. WasTaken taken l x) (right h.1) w))
  where
    left : Port a b ≡ Port l p → l ≡ a
    left e = cc

    right : Port a b ≡ Port l p → p ≡ b
    right e = cc
none-filled taken (Port a b ∷ os) first j l p n (inr h) w = none-filled taken os (suc first) j l p n.1 h w

-- what is taken behind a node was taken before, or it is taken there
taken-there : (takes : ℕ → Bool) (taken : Taken) (os : List Source) (first l p : ℕ) → WasTaken (taken_by takes first os taken) l p → WasTaken taken l p ⊎ ((j : ℕ) × Fills j os first l p × (takes j ≡ true))
taken-there takes taken [] first l p w = inl w
taken-there takes taken (Fixed c ∷ os) first l p w = later (taken-there takes taken os (suc first) l p w)
  where
    later : WasTaken taken l p ⊎ ((j : ℕ) × Fills j os (suc first) l p × (takes j ≡ true)) → WasTaken taken l p ⊎ ((j : ℕ) × Fills j (Fixed c ∷ os) first l p × (takes j ≡ true))
    later (inl h) = inl h
    later (inr h) = inr (h.0, inr h.1, h.2)
taken-there takes taken (Port a b ∷ os) first l p w = go (takes first) refl w (λ x. taken-there takes taken os (suc first) l p x)
  where
    later : WasTaken taken l p ⊎ ((j : ℕ) × Fills j os (suc first) l p × (takes j ≡ true)) → WasTaken taken l p ⊎ ((j : ℕ) × Fills j (Port a b ∷ os) first l p × (takes j ≡ true))
    later (inl h) = inl h
    later (inr h) = inr (h.0, inr h.1, h.2)

    at : (l ≡ a) × (p ≡ b) → Port a b ≡ Port l p
    at h = ap (λ x. Port x b) (sym h.0) ∙ ap (λ x. Port l x) (sym h.1)

    go : (c : Bool) → takes first ≡ c → WasTaken (if c then (a, b) ∷ taken_by takes (suc first) os taken else taken_by takes (suc first) os taken) l p
        → (WasTaken (taken_by takes (suc first) os taken) l p → WasTaken taken l p ⊎ ((j : ℕ) × Fills j os (suc first) l p × (takes j ≡ true)))
        → WasTaken taken l p ⊎ ((j : ℕ) × Fills j (Port a b ∷ os) first l p × (takes j ≡ true))
    go true t (inl h) rest = inr (first, inl (refl, at h), t)
    go true t (inr h) rest = later (rest h)
    go false t h rest = later (rest h)

-- an operand that is taken, by its number
pub taken-index : (takes copies : ℕ → Bool) (os : List Source) (args : List Operand) (first i : ℕ) → length args ≡ length os → IsTaken (modes_of takes copies first os) args i → (j : ℕ) × (takes (first + j) ≡ true) × (get_or args j (Lit Unfilled) ≡ At i)
taken-index takes copies [] [] first i many h = absurd h
taken-index takes copies [] (a ∷ args) first i many h = absurd (omega (arith, many))
taken-index takes copies (o ∷ os) [] first i many h = absurd h
taken-index takes copies (o ∷ os) (a ∷ args) first i many (inl h) = (0, ap takes (omega arith) ∙ mode-takes (takes first) (copies first) h.0, h.1)
  where
    mode-takes : (t c : Bool) → mode_of t c ≡ Takes → t ≡ true
    mode-takes true c e = refl
    mode-takes false true e = absurd (clash e)
      where
        clash : Copies ≡ Takes → ⊥
        clash e = cc
    mode-takes false false e = absurd (clash e)
      where
        clash : Looks ≡ Takes → ⊥
        clash e = cc
taken-index takes copies (o ∷ os) (a ∷ args) first i many (inr h) =
    let x = taken-index takes copies os args (suc first) i (omega (arith, many)) h in (suc x.0, ap takes (omega arith) ∙ x.1, x.2)

module _ (P : Plan) (S : Shares) (W : Weighing) (args : List Operand) (g : ℕ) (vs : List Vertex) (bottom : ℕ) (keep hold : Cells_of) (known : Known) (taken : Taken) (takes copies : ℕ → Bool) (v : Vertex) (lo w : ℕ) where
  abbrev at_there : Places
  at_there = there P S args g vs bottom

  abbrev at_owned : Places
  at_owned = owned P S args g vs bottom

  abbrev after : Taken
  after = taken_by takes (first_port v.kind) v.ins taken

  abbrev ins : List Operand
  ins = map (operand (placed P args vs bottom)) v.ins

  module _ (h : IsReached keep at_there known taken takes copies v lo w) (o : IsReached hold at_owned known taken takes copies v lo w) (knows : KnowsAll known v.ins) (none : NoneIsTaken taken v.ins)
      (alone : TakesAlone takes (first_port v.kind) v.ins) (reads : AreThere P S W g v.ins)
      (owns : (j p : ℕ) → Fills j v.ins (first_port v.kind) 0 p → takes j ≡ true → S.owns g p ≡ true) where
    -- what fills a port
    fills : (j i : ℕ) → get_or ins j (Lit Unfilled) ≡ At i → (l : ℕ) × (p : ℕ) × Fills (first_port v.kind + j) v.ins (first_port v.kind) l p × (at_there l p ≡ At i)
    fills j i e = filled at_there v.ins (first_port v.kind) j i (subst (λ x. get_or x j (Lit Unfilled) ≡ At i) (sym (reads-there P S W g args vs bottom v.ins reads)) e)

    knows-port : (j l p : ℕ) → Fills j v.ins (first_port v.kind) l p → KnowsPort known l p
    knows-port j zero p f = inl refl
    knows-port j (suc l) p f = inr (known-at known (first_port v.kind) v.ins j l p knows f)

    -- a port that may be taken stands at the same place
    same-seat : (j l p i : ℕ) → Fills j v.ins (first_port v.kind) l p → takes j ≡ true → at_there l p ≡ At i → at_owned l p ≡ At i
    same-seat j zero p i f t e =
        let x = seat-is P (S.has g) args vs bottom p i e in
        ap (λ z. at_owned 0 z) x.1 ∙ (seat-so P (S.owns g) args vs bottom x.0 (ap (S.owns g) (sym x.1) ∙ owns j p f t) ∙ x.3)
    same-seat j (suc l) p i f t e = e

    before : (places : Places) (some : Cells_of) → StandsBelow some places known lo → (i : ℕ) → IsAlive some places known taken i → i < lo
    before places some low i (inl k) = low.0 i k
    before places some low i (inr (l, p, k, free, e)) = low.1 l p i k e

    -- no cell that a taken port had is left
    not-left : (some : Cells_of) (places : Places) (j l p i : ℕ) → IsOwnCell some places known l p → Fills j v.ins (first_port v.kind) l p → takes j ≡ true → places l p ≡ At i → IsAlive some places known after i → ⊥
    not-left some places j l p i own f t e (inl k) = own.kept i e k
    not-left some places j l p i own f t e (inr (m, q, k, free, e')) =
        let s = own.alone i m q e k e' in
        free (subst (λ x. WasTaken after x q) (sym s.0) (subst (λ x. WasTaken after l x) (sym s.1) (gone-after takes (first_port v.kind) v.ins taken j l p f t)))

    port-left : (j i l p : ℕ) → takes (first_port v.kind + j) ≡ false → Fills (first_port v.kind + j) v.ins (first_port v.kind) l p → WasTaken after l p → ⊥
    port-left j i l p t f w = go (taken-there takes taken v.ins (first_port v.kind) l p w)
      where
        go : WasTaken taken l p ⊎ ((j : ℕ) × Fills j v.ins (first_port v.kind) l p × (takes j ≡ true)) → ⊥
        go (inl x) = none-filled taken v.ins (first_port v.kind) (first_port v.kind + j) l p none f x
        go (inr x) =
            let s = alone x.0 (first_port v.kind + j) l p x.1 x.2 f in
            let z : true ≡ false = sym x.2 ∙ (ap takes s ∙ t) in cc

    pub around : IsAround (alive P keep at_there (length args) known taken) (alive P hold at_owned (length args) known taken) (alive P keep at_there (length args) known after) (alive P hold at_owned (length args) known after) ins takes
        (first_port v.kind) lo
    around =
        record {
          kept = λ i e.
              let x = kept-alive keep at_there known taken takes copies v lo w h i (alive-sound P at_there after keep (length args) known i e) in
              (alive-so P at_there taken keep (length args) known i (λ p q. seat-inputs P (S.has g) args vs bottom i p q) x.0, x.2);
          held = λ i e.
              let x = kept-alive hold at_owned known taken takes copies v lo w o i (alive-sound P at_owned after hold (length args) known i e) in
              (alive-so P at_owned taken hold (length args) known i (λ p q. seat-inputs P (S.owns g) args vs bottom i p q) x.0, x.2);
          reads = λ j i e.
              let x = all-in (IsAlive keep at_there known taken) (map (operand at_there) v.ins) j i h.reads (subst (λ z. get_or z j (Lit Unfilled) ≡ At i) (sym (reads-there P S W g args vs bottom v.ins reads)) e) in
              (alive-so P at_there taken keep (length args) known i (λ p q. seat-inputs P (S.has g) args vs bottom i p q) x, before at_there keep h.low i x);
          left = λ j i t e.
              let x = fills j i e in
              alive-so P at_there after keep (length args) known i (λ p q. seat-inputs P (S.has g) args vs bottom i p q)
              (inr (x.0, x.1, knows-port (first_port v.kind + j) x.0 x.1 x.2, (λ z. port-left j i x.0 x.1 t x.2 z), x.3));
          gone = λ j i t e.
              let x = fills j i e in
              let mine = same-seat (first_port v.kind + j) x.0 x.1 i x.2 t x.3 in (
                alive-so P at_owned taken hold (length args) known i (λ p q. seat-inputs P (S.owns g) args vs bottom i p q)
                    (inr (x.0, x.1, knows-port (first_port v.kind + j) x.0 x.1 x.2, (λ z. none-filled taken v.ins (first_port v.kind) (first_port v.kind + j) x.0 x.1 none x.2 z), mine)),
                (λ z. not-left keep at_there (first_port v.kind + j) x.0 x.1 i (h.own (first_port v.kind + j) x.0 x.1 x.2 t) x.2 t x.3 (alive-sound P at_there after keep (length args) known i z)),
                (λ z. not-left hold at_owned (first_port v.kind + j) x.0 x.1 i (o.own (first_port v.kind + j) x.0 x.1 x.2 t) x.2 t mine (alive-sound P at_owned after hold (length args) known i z)),
                (λ q e'.
                    let y = fills q i e' in
                    let s = (h.own (first_port v.kind + j) x.0 x.1 x.2 t).alone i y.0 y.1 x.3 (knows-port (first_port v.kind + q) y.0 y.1 y.2) y.3 in
                    let f = subst (λ z. Fills (first_port v.kind + q) v.ins (first_port v.kind) z x.1) s.0 (subst (λ z. Fills (first_port v.kind + q) v.ins (first_port v.kind) y.0 z) s.1 y.2) in
                    let n = alone (first_port v.kind + j) (first_port v.kind + q) x.0 x.1 x.2 t f in
                    omega (arith, n)),
              );
        }
