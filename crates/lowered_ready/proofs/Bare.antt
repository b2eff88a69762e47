-- Types without the names of fields and tags, by number.
use Rattle.std.proofs.Common.{◌≡◌, ℕ, zero, suc, ◌≤◌, List, [], ◌∷◌, map, get_or, refl, sym, ap, ◌∙◌, arith}
use Rattle.flow_value.specs.declared.ty.Ty.{Ty}
use Rattle.flow_value.specs.declared.ty.Ty.TheVariants as ty
use Rattle.flow_value.specs.declared.ty.Ty.TheOpen.{Ty-F}
use Rattle.flow_value.specs.declared.ty.Ty.TheFolds.{fold-roll-Ty}
use Rattle.if1_graph.specs.Types.{Member}
use Rattle.type_table.specs.declared.form.Form.TheVariants as form
use Rattle.type_table.specs.declared.form.Member.{Member as NumberedMember}
use Rattle.type_table.specs.Forms.{deepest}
use Rattle.type_table.specs.Tables.{depths, IsTable}
use Rattle.typed_tree.specs.declared.program.Program.{Program}
use Rattle.typed_tree.specs.Types.{IsNumber, AreMembers, AreNumbers, no_member, a_member}
use Rattle.typed_tree.specs.Types as number
use Rattle.lowering_meaning.proofs.Depths.{depth_at}
use Rattle.lowering_meaning.proofs.Sorts.{shallow, form-at}
use Rattle.lowered_ready.specs.Sorts.{unnamed, bare_step, bare, members_of, type_of, type_within, type_at, types_at}

-- ---- types

pub bare-bool : bare ty.Bool ≡ ty.Bool
bare-bool = ap bare (sym ty.rolls-Bool) ∙ fold-roll-Ty Ty bare_step Ty-F.Bool

pub bare-char : bare ty.Char ≡ ty.Char
bare-char = ap bare (sym ty.rolls-Char) ∙ fold-roll-Ty Ty bare_step Ty-F.Char

pub bare-int : bare ty.Int ≡ ty.Int
bare-int = ap bare (sym ty.rolls-Int) ∙ fold-roll-Ty Ty bare_step Ty-F.Int

pub bare-null : bare ty.Null ≡ ty.Null
bare-null = ap bare (sym ty.rolls-Null) ∙ fold-roll-Ty Ty bare_step Ty-F.Null

pub bare-array : (t : Ty) → bare (ty.Arr t) ≡ ty.Arr (bare t)
bare-array t = ap bare (sym (ty.rolls-Arr t)) ∙ fold-roll-Ty Ty bare_step (Ty-F.Arr t)

pub bare-stream : (t : Ty) → bare (ty.Stream t) ≡ ty.Stream (bare t)
bare-stream t = ap bare (sym (ty.rolls-Stream t)) ∙ fold-roll-Ty Ty bare_step (Ty-F.Stream t)

-- members with types without names, and without their own
abbrev pub bares : List Member → List Member
bares ms = map (λ m. ([], bare m.1)) ms

-- what a fold makes of members
abbrev parts : List Member → List Member
parts ms = map (λ m. (m.0, bare m.1)) ms

unnamed-parts : (ms : List Member) → unnamed (parts ms) ≡ bares ms
unnamed-parts [] = refl
unnamed-parts (m ∷ ms) = ap (λ l. ([], bare m.1) ∷ l) (unnamed-parts ms)

pub bare-record : (ms : List Member) → bare (ty.Rec ms) ≡ ty.Rec (bares ms)
bare-record ms = ap bare (sym (ty.rolls-Rec ms)) ∙ (fold-roll-Ty Ty bare_step (Ty-F.Rec ms) ∙ ap ty.Rec (unnamed-parts ms))

pub bare-union : (ms : List Member) → bare (ty.Uni ms) ≡ ty.Uni (bares ms)
bare-union ms = ap bare (sym (ty.rolls-Uni ms)) ∙ (fold-roll-Ty Ty bare_step (Ty-F.Uni ms) ∙ ap ty.Uni (unnamed-parts ms))

-- ---- numbers

module _ (p : Program) (well : IsTable p.types) where
  abbrev depth : ℕ → ℕ
  depth n = get_or (depths p.types) n 0

  abbrev within : ℕ → ℕ → Ty
  within d n = type_within p.types d n

  abbrev Told : ℕ → Type 0
  Told d = (n : ℕ) (t : Ty) → depth n ≤ d → IsNumber p.types p.names n t → within d n ≡ bare t

  each-told : (d : ℕ) → Told d → (ms : List NumberedMember) (fs : List Member) → AreMembers p.types p.names ms fs → deepest (depths p.types) (map (λ m. m.ty) ms) ≤ d → members_of (within d) ms ≡ bares fs
  each-told d rec _ _ no_member h = refl
  each-told d rec _ _ (a_member {n = n} {t = t} {ms = ms} {fs = fs} s k r) h =
      ap (λ x. ([], x) ∷ members_of (within d) ms) (rec n t (omega (arith, h)) k) ∙ ap (λ l. ([], bare t) ∷ l) (each-told d rec ms fs r (omega (arith, h)))

  told : (d : ℕ) → Told d
  told zero n t h k = let f = form-at p well n t k in absurd (omega (arith, h, depth_at p.types well n f.0 f.1))
  told (suc d) n _ h (number.boolean e) = ap (type_of (within d)) e ∙ sym bare-bool
  told (suc d) n _ h (number.character e) = ap (type_of (within d)) e ∙ sym bare-char
  told (suc d) n _ h (number.integer e) = ap (type_of (within d)) e ∙ sym bare-int
  told (suc d) n _ h (number.null e) = ap (type_of (within d)) e ∙ sym bare-null
  told (suc d) n _ h (number.array {m = m} {t = t} e k) =
      ap (type_of (within d)) e ∙ (ap ty.Arr (told d m t (omega (arith, h, depth_at p.types well n (form.Array m) e)) k) ∙ sym (bare-array t))
  told (suc d) n _ h (number.stream {m = m} {t = t} e k) =
      ap (type_of (within d)) e ∙ (ap ty.Stream (told d m t (omega (arith, h, depth_at p.types well n (form.Stream m) e)) k) ∙ sym (bare-stream t))
  told (suc d) n _ h (number.a_record {ms = ms} {fs = fs} e k) =
      ap (type_of (within d)) e ∙ (ap ty.Rec (each-told d (told d) ms fs k (omega (arith, h, depth_at p.types well n (form.Record ms) e))) ∙ sym (bare-record fs))
  told (suc d) n _ h (number.a_union {ms = ms} {fs = fs} e k) =
      ap (type_of (within d)) e ∙ (ap ty.Uni (each-told d (told d) ms fs k (omega (arith, h, depth_at p.types well n (form.Union ms) e))) ∙ sym (bare-union fs))

  pub number-told : (n : ℕ) (t : Ty) → IsNumber p.types p.names n t → type_at p.types n ≡ bare t
  number-told n t k = told 64 n t (shallow p well (depths p.types) well.well.shallow n) k

  pub numbers-told : (ns : List ℕ) (ts : List Ty) → AreNumbers p.types p.names ns ts → types_at p.types ns ≡ map bare ts
  numbers-told [] [] h = refl
  numbers-told [] (t ∷ ts) h = absurd h
  numbers-told (n ∷ ns) [] h = absurd h
  numbers-told (n ∷ ns) (t ∷ ts) h = ap (λ x. x ∷ types_at p.types ns) (number-told n t h.0) ∙ ap (λ l. bare t ∷ l) (numbers-told ns ts h.1)
