-- Records and unions are built, read and changed by the rules.
use Rattle.std.proofs.Common.{◌≡◌, ℕ, zero, suc, ◌+◌, ◌-◌, ◌<◌, ◌≤◌, ◌⊎◌, inl, inr, Bool, true, false, List, [], ◌∷◌, ◌++◌, map, drop, length, slice_get, Some, None, refl, sym, ap, subst, ◌∙◌, arith, nat_eq}
use Rattle.std.specs.Prelude.{All, Contains, option_map, if◌then◌else◌}
use Rattle.std.proofs.lemmas.Bool.{eqb-true}
use Rattle.std.proofs.lemmas.List.{length-map}
use Rattle.std.proofs.lemmas.List.Elements.{All-nil, All-cons}
use Rattle.std.proofs.lemmas.Option.{slice_get_within, slice_get-map}
use Rattle.flow_value.specs.declared.ty.Ty.{Ty}
use Rattle.flow_value.specs.declared.ty.Ty.TheVariants as ty
use Rattle.flow_value.specs.declared.ty.Ty.TheOpen.{Ty-F}
use Rattle.flow_value.specs.declared.ty.Ty.TheViews.{out-Ty}
use Rattle.if1_graph.specs.declared.op.Simple.TheVariants as simple
use Rattle.if1_graph.specs.Tables.{at_port}
use Rattle.if1_graph.specs.Types.{Sort, Plain}
use Rattle.if1_graph.specs.Units.{greatest}
use Rattle.if1_graph.specs.Formed.{IsOnce}
use Rattle.if1_graph.specs.Ports.{AreFirst, IsOnePort, AreParts, AreChanges, IsUpTo, record_fields, union_tags, fields_of, tags_of}
use Rattle.if1_graph.specs.Typing.{Known, IsCarried, IsMember}
use Rattle.type_table.specs.declared.form.Member.{Member as NumberedMember}
use Rattle.typed_tree.specs.Types.{Member, IsNumber, AreMembers, AreNumbers}
use Rattle.typed_tree.specs.Types as number
use Rattle.lowering_meaning.specs.FittingTreesFitting.{AreFields}
use Rattle.lowering.specs.declared.feed.Feed.{Feed}
use Rattle.lowering.specs.declared.feed.Feed.TheVariants.{Literal, Named, Absent, Port}
use Rattle.lowering.specs.declared.feed.Carried.{Carried}
use Rattle.lowering.specs.declared.feed.Carried.TheVariants.{One}
use Rattle.lowering.specs.declared.feed.Wire.{Wire}
use Rattle.lowering.specs.declared.graph.Action.TheVariants.{Row}
use Rattle.lowering.specs.Graphs.{node, closed_wire, closed_wires}
use Rattle.lowering.specs.Operations.{wire_at, absent, absents, at_place, changed, field_lowered}
use Rattle.lowering_meaning.proofs.BuiltTrees.{out-bool, out-char, out-int, out-null, out-array, out-stream, out-record, out-union}
use Rattle.lowering_meaning.proofs.Wired.{typed-ports}
use Rattle.lowered_ready.specs.Ports.{Outs, filled_if, filled_from, sort_in, AreWanted, IsWanted}
use Rattle.lowered_ready.specs.Parts.{IsShown}
use Rattle.lowered_ready.specs.RuleSorts.{unnamed}
use Rattle.lowered_ready.proofs.Scopes.{Level, level, IsIn}
use Rattle.lowered_ready.proofs.Made as made
use Rattle.lowered_ready.proofs.RuleSorting.{plain, AreFit, AreSorted, closed-sorted, filled-sorted, sort-at, sort-shown, fit-wanted, first-ports}
use Rattle.lowered_ready.proofs.World.{World, Which, Of, Does}
use Rattle.lowered_ready.proofs.Wholes.{sorts_of}
use Rattle.lowered_ready.proofs.Operations.{Gives, Scope, sorts-of, plain-are}

-- ---- filled ports, in rising order

filled-least : (port : ℕ) (ws : List Wire) (q : ℕ) → Contains (filled_from port ws) q → port ≤ q
filled-least port [] q (k, lt, e) = absurd (omega (arith, lt))
filled-least port (w ∷ ws) q c = by w.feed (filled-least (suc port) ws q) c
  where
    by : (f : Feed) → (Contains (filled_from (suc port) ws) q → suc port ≤ q) → Contains (filled_if port f ++ filled_from (suc port) ws) q → port ≤ q
    by Absent r c = let l = r c in omega (arith, l)
    by (Literal x) r (zero, lt, e) = omega (arith, e)
    by (Literal x) r (suc k, lt, e) = let l = r (k, omega (arith, lt), e) in omega (arith, l)
    by (Named x) r (zero, lt, e) = omega (arith, e)
    by (Named x) r (suc k, lt, e) = let l = r (k, omega (arith, lt), e) in omega (arith, l)
    by (Port up n p) r (zero, lt, e) = omega (arith, e)
    by (Port up n p) r (suc k, lt, e) = let l = r (k, omega (arith, lt), e) in omega (arith, l)

filled-once : (port : ℕ) (ws : List Wire) → IsOnce (filled_from port ws)
filled-once port [] = tt
filled-once port (w ∷ ws) = by w.feed (filled-once (suc port) ws)
  where
    less : Contains (filled_from (suc port) ws) port → ⊥
    less c = let l = filled-least (suc port) ws port c in omega (arith, l)

    by : (f : Feed) → IsOnce (filled_from (suc port) ws) → IsOnce (filled_if port f ++ filled_from (suc port) ws)
    by Absent r = r
    by (Literal x) r = (less, r)
    by (Named x) r = (less, r)
    by (Port up n p) r = (less, r)

module _ (x : World) where
  -- ---- fields and tags by number

  abbrev bare_members : List Member → List Member
  bare_members ms = map (unnamed x.bare) ms

  abbrev HasSome : Ty-F Ty → Type 0
  HasSome (Ty-F.Rec ms) = 1 ≤ length ms
  HasSome _ = Unit {0}

  has-some : (n : ℕ) (t : Ty) → IsNumber x.forms x.names n t → HasSome (out-Ty t)
  has-some n _ (number.boolean e) = subst HasSome (sym out-bool) tt
  has-some n _ (number.character e) = subst HasSome (sym out-char) tt
  has-some n _ (number.integer e) = subst HasSome (sym out-int) tt
  has-some n _ (number.null e) = subst HasSome (sym out-null) tt
  has-some n _ (number.array {t = t} e h) = subst HasSome (sym (out-array t)) tt
  has-some n _ (number.stream {t = t} e h) = subst HasSome (sym (out-stream t)) tt
  has-some n _ (number.a_record {ms = ms} {fs = fs} e h) = subst HasSome (sym (out-record fs)) (let a = x.members n ms (inl e) in let b = many ms fs h in omega (arith, a, b))
    where
      many : (ms : List NumberedMember) (fs : List Member) → AreMembers x.forms x.names ms fs → length fs ≡ length ms
      many _ _ number.no_member = refl
      many _ _ (number.a_member {ms = ms} {fs = fs} e h r) = ap suc (many ms fs r)
  has-some n _ (number.a_union {fs = fs} e h) = subst HasSome (sym (out-union fs)) tt

  some-field : (n : ℕ) (ms : List Member) → IsNumber x.forms x.names n (ty.Rec ms) → 1 ≤ length ms
  some-field n ms h = subst HasSome (out-record ms) (has-some n (ty.Rec ms) h)

  record-sort : (n : ℕ) (ms : List Member) → IsNumber x.forms x.names n (ty.Rec ms) → x.sort (One n) ≡ Plain (ty.Rec (bare_members ms))
  record-sort n ms h = x.sorting.values n (ty.Rec ms) h ∙ ap Plain (x.sorting.record_of ms)

  union-sort : (n : ℕ) (ms : List Member) → IsNumber x.forms x.names n (ty.Uni ms) → x.sort (One n) ≡ Plain (ty.Uni (bare_members ms))
  union-sort n ms h = x.sorting.values n (ty.Uni ms) h ∙ ap Plain (x.sorting.union_of ms)

  pub fields-of-record : (fs : List Member) → fields_of (Some (Plain (ty.Rec fs))) ≡ Some fs
  fields-of-record fs = ap record_fields (out-record fs)

  pub fields-of-union : (ts : List Member) → fields_of (Some (Plain (ty.Uni ts))) ≡ None
  fields-of-union ts = ap record_fields (out-union ts)

  pub tags-of-union : (ts : List Member) → tags_of (Some (Plain (ty.Uni ts))) ≡ Some ts
  tags-of-union ts = ap union_tags (out-union ts)

  pub member-at : (ms : List Member) (i : ℕ) (m : Member) → slice_get ms i ≡ Some m → slice_get (bare_members ms) i ≡ Some (unnamed x.bare m)
  member-at ms i m e = slice_get-map (unnamed x.bare) ms i ∙ ap (option_map (unnamed x.bare)) e

  -- ---- a record is built

  fit-any : (k : Known) (i : ℕ) (tys : List Ty) → AreFit k simple.RBuild (suc i) (sorts_of x tys)
  fit-any k i [] = tt
  fit-any k i (t ∷ tys) = ((x.bare t, refl), fit-any k (suc i) tys)

  field-carried : (ms : List Member) (i : ℕ) → i < length ms → IsCarried (slice_get (sorts_of x (map (λ m. m.1) ms)) i) (λ s. (m : Member) × (slice_get (bare_members ms) i ≡ Some m) × (s ≡ Plain m.1))
  field-carried [] i l = absurd (omega (arith, l))
  field-carried (m ∷ ms) zero l = (unnamed x.bare m, refl, refl)
  field-carried (m ∷ ms) (suc i) l = field-carried ms i (omega (arith, l))

  record-right : (p : Which) (ms : List Member) (ws : List Wire) (n : ℕ) → Of x (map (λ m. m.1) ms) ws → IsNumber x.forms x.names n (ty.Rec ms)
      → made.IsRight x.forms x.names x.sort x.at p (node (Row simple.RBuild) ws) (record { port = 1; types = One n ∷ [] })
  record-right p ms ws n t num ks first own =
      let vs = closed_wires ks first own ws in
      let ss = sorts_of x (map (λ m. m.1) ms) in
      let fs = bare_members ms in
      let g = closed-sorted x.sort ks first own ws ss (sorts-of x ws (map (λ m. m.1) ms) ss t (plain-are x (map (λ m. m.1) ms))) in
      let e = record-sort n ms num in
      let some = some-field n ms num in
      let same : length ss ≡ length fs = length-map (map (λ (m : Member). m.1) ms) (plain x.forms x.names x.hs x.bare x.sort x.sorting) ∙ length-map ms (λ (m : Member). m.1) ∙ sym (length-map ms (unnamed x.bare)) in
      let many : length fs ≡ length ms = length-map ms (unnamed x.bare) in
      let l : List ℕ = filled_from 1 vs in
      let first_ones : AreFirst (length fs) l = subst (λ n. AreFirst n l) same (subst (AreFirst (length ss)) (sym (filled-sorted x.sort 1 vs ss g)) (first-ports (length ss))) in
      record {
        wanted = λ k i. fit-wanted x.sort k simple.RBuild 1 vs ss g (fit-any k 0 (map (λ m. m.1) ms));
        gives = λ k i. (
          (
            omega arith,
            inl (fs, e, λ port a b. carried_at k port a b many (i.at port ∙ sort-at x.sort vs ss g port)),
          ),
          tt,
        );
        ports = λ k i. (
          inl (length fs, omega (arith, some, many), first_ones),
          All-cons (λ c. AreParts (fields_of (Some (x.sort c))) (tags_of (Some (x.sort c))) l) (One n) []
              (subst (λ o. AreParts o (tags_of (Some (x.sort (One n)))) l) (sym (ap (λ s. fields_of (Some s)) e ∙ fields-of-record fs)) first_ones) (All-nil (λ c. AreParts (fields_of (Some (x.sort c))) (tags_of (Some (x.sort c))) l)),
        );
        bound = tt;
        name = tt;
        place = tt;
      }
    where
      carried_at : (k : Known) (port : ℕ) → 1 ≤ port → port ≤ length (bare_members ms) → length (bare_members ms) ≡ length ms → k.at port ≡ at_port port (sorts_of x (map (λ m. m.1) ms)) → IsCarried (k.at port) (IsMember (Some (bare_members ms)) port)
      carried_at k zero a b many e = absurd (omega (arith, a))
      carried_at k (suc i) a b many e = subst (λ o. IsCarried o (IsMember (Some (bare_members ms)) (suc i))) (sym e) (field-carried ms i (omega (arith, b, many)))

  -- ---- a union is built

  gaps-closed : (ks : List Wire) (first own n : ℕ) (w : Wire) → closed_wires ks first own (absents n ++ w ∷ []) ≡ absents n ++ closed_wire ks first own w ∷ []
  gaps-closed ks first own zero w = refl
  gaps-closed ks first own (suc n) w = ap (λ l. absent ∷ l) (gaps-closed ks first own n w)

  gaps-filled : (port n : ℕ) (w : Wire) → IsShown w.feed → filled_from port (absents n ++ w ∷ []) ≡ (port + n) ∷ []
  gaps-filled port zero w h = by w.feed h ∙ (let z : port ≡ port + 0 = omega arith in ap (λ i. i ∷ []) z)
    where
      by : (f : Feed) → IsShown f → filled_if port f ++ [] ≡ port ∷ []
      by (Literal c) h = refl
      by (Named s) h = absurd h
      by Absent h = absurd h
      by (Port up n q) h = refl
  gaps-filled port (suc n) w h = gaps-filled (suc port) n w h ∙ (let z : suc port + n ≡ port + suc n = omega arith in ap (λ i. i ∷ []) z)

  gaps-sort : (n : ℕ) (w : Wire) → IsShown w.feed → sort_in x.sort (absents n ++ w ∷ []) (suc n) ≡ Some (x.sort w.ty)
  gaps-sort zero w h = sort-shown x.sort w.feed w.ty h
  gaps-sort (suc n) w h = gaps-sort n w h

  gaps-wanted : (k : Known) (i n : ℕ) (w : Wire) (t : Ty) → x.sort w.ty ≡ Plain t → AreWanted x.sort k simple.RBuild (suc i) (absents n ++ w ∷ [])
  gaps-wanted k i zero w t e = (by w.feed, tt)
    where
      by : (f : Feed) → IsWanted x.sort k simple.RBuild (suc i) f w.ty
      by (Literal c) = (t, e)
      by (Named s) = (t, e)
      by Absent = tt
      by (Port up n q) = (t, e)
  gaps-wanted k i (suc n) w t e = (tt, gaps-wanted k (suc i) n w t e)

  union-right : (p : Which) (ms : List Member) (tag : ℕ) (m : Member) (w : Wire) (n : ℕ) → slice_get ms tag ≡ Some m → Of x (m.1 ∷ []) (w ∷ []) → IsNumber x.forms x.names n (ty.Uni ms)
      → made.IsRight x.forms x.names x.sort x.at p (node (Row simple.RBuild) (absents tag ++ w ∷ [])) (record { port = 1; types = One n ∷ [] })
  union-right p ms tag m w n there t num ks first own =
      let c = gaps-closed ks first own tag w in
      let v = closed_wire ks first own w in
      let fs = bare_members ms in
      let e = union-sort n ms num in
      let g = closed-sorted x.sort ks first own (w ∷ []) (sorts_of x (m.1 ∷ [])) (sorts-of x (w ∷ []) (m.1 ∷ []) (sorts_of x (m.1 ∷ [])) t (plain-are x (m.1 ∷ []))) in
      let within = slice_get_within ms tag m there in
      let many : length fs ≡ length ms = length-map ms (unnamed x.bare) in
      let l : List ℕ = filled_from 1 (closed_wires ks first own (absents tag ++ w ∷ [])) in
      let one : l ≡ (1 + tag) ∷ [] = ap (filled_from 1) c ∙ gaps-filled 1 tag v g.0.0 in
      let single : IsOnePort l = (1 + tag, one) in
      record {
        wanted = λ k i. subst (AreWanted x.sort k simple.RBuild 1) (sym c) (gaps-wanted k 0 tag v (x.bare m.1) g.0.1);
        gives = λ k i. (
          (
            omega arith,
            inr (
              fs,
              suc tag,
              e,
              subst (λ o. IsCarried o (IsMember (Some fs) (suc tag))) (sym (i.at (suc tag) ∙ ap (λ ws. sort_in x.sort ws (suc tag)) c ∙ gaps-sort tag v g.0.0))
                  (unnamed x.bare m, member-at ms tag m there, g.0.1),
            ),
          ),
          tt,
        );
        ports = λ k i. (
          inr single,
          All-cons (λ c. AreParts (fields_of (Some (x.sort c))) (tags_of (Some (x.sort c))) l) (One n) []
              (subst (λ o. AreParts o (tags_of (Some (x.sort (One n)))) l) (sym (ap (λ s. fields_of (Some s)) e ∙ fields-of-union fs))
              (subst (λ o. AreParts None o l) (sym (ap (λ s. tags_of (Some s)) e ∙ tags-of-union fs))
              (single, subst (All (λ port. port ≤ length fs)) (sym one) (All-cons (λ port. port ≤ length fs) (1 + tag) [] (omega (arith, within, many)) (All-nil (λ port. port ≤ length fs)))))) (All-nil (λ c. AreParts (fields_of (Some (x.sort c))) (tags_of (Some (x.sort c))) l)),
        );
        bound = tt;
        name = tt;
        place = tt;
      }

  -- ---- a field is read

  field-right : (p : Which) (ms : List Member) (f : ℕ) (m : Member) (ws : List Wire) (n : ℕ) → slice_get ms f ≡ Some m → Of x (ty.Rec ms ∷ []) ws → IsNumber x.forms x.names n m.1
      → made.IsRight x.forms x.names x.sort x.at p (node (Row simple.RElements) ws) (record { port = suc f; types = One n ∷ [] })
  field-right p ms f m ws n there t num ks first own =
      let vs = closed_wires ks first own ws in
      let fs = bare_members ms in
      let ss : List Sort = Plain (ty.Rec fs) ∷ [] in
      let g = closed-sorted x.sort ks first own ws ss (sorts-of x ws (ty.Rec ms ∷ []) ss t (ap Plain (x.sorting.record_of ms), tt)) in
      let within = slice_get_within ms f m there in
      let many : length fs ≡ length ms = length-map ms (unnamed x.bare) in
      record {
        wanted = λ k i. fit-wanted x.sort k simple.RElements 1 vs ss g ((fs, refl), tt);
        gives = λ k i.
            let e : fields_of (k.at 1) ≡ Some fs = ap fields_of (i.at 1 ∙ sort-at x.sort vs ss g 1) ∙ fields-of-record fs in (
              (
                subst (λ o. IsUpTo (option_map length o) (suc f)) (sym e) (omega (arith, within, many)),
                subst (λ o. IsMember o (suc f) (x.sort (One n))) (sym e) (unnamed x.bare m, member-at ms f m there, x.sorting.values n m.1 num),
              ),
              tt,
            );
        ports = λ k i. subst (AreFirst 1) (sym (filled-sorted x.sort 1 vs ss g)) (first-ports 1);
        bound = tt;
        name = tt;
        place = tt;
      }

  -- ---- fields are changed

  changed-closed : (ks : List Wire) (first own p count : ℕ) (xs : List ℕ) (ws : List Wire) → closed_wires ks first own (changed p count xs ws) ≡ changed p count xs (closed_wires ks first own ws)
  changed-closed ks first own p zero xs ws = refl
  changed-closed ks first own p (suc count) xs ws = ap (λ w. w ∷ closed_wires ks first own (changed (suc p) count xs ws)) (one p xs ws) ∙ ap (λ l. at_place p xs (closed_wires ks first own ws) ∷ l) (changed-closed ks first own (suc p) count xs ws)
    where
      one : (p : ℕ) (xs : List ℕ) (ws : List Wire) → closed_wire ks first own (at_place p xs ws) ≡ at_place p xs (closed_wires ks first own ws)
      one p [] ws = refl
      one p (y ∷ xs) [] = refl
      one p (y ∷ xs) (w ∷ ws) = by (nat_eq y p) (one p xs ws)
        where
          by : (b : Bool) → closed_wire ks first own (at_place p xs ws) ≡ at_place p xs (closed_wires ks first own ws)
              → closed_wire ks first own (if b then w else at_place p xs ws) ≡ (if b then closed_wire ks first own w else at_place p xs (closed_wires ks first own ws))
          by true r = refl
          by false r = r

  -- nothing, or the field of a place
  abbrev IsFieldOf : List Member → ℕ → Wire → Type 0
  IsFieldOf ms p w = (w.feed ≡ Absent) ⊎ (IsShown w.feed × ((m : Member) × (slice_get ms p ≡ Some m) × (x.sort w.ty ≡ Plain (x.bare m.1))))

  place-fits : (ms : List Member) (p : ℕ) (xs : List ℕ) (ws : List Wire) (tys : List Ty) → AreFields ms xs tys → AreSorted x.sort ws (sorts_of x tys) → IsFieldOf ms p (at_place p xs ws)
  place-fits ms p [] ws tys h g = inl refl
  place-fits ms p (y ∷ xs) [] tys h g = inl refl
  place-fits ms p (y ∷ xs) (w ∷ ws) [] h g = absurd h
  place-fits ms p (y ∷ xs) (w ∷ ws) (t ∷ tys) h g = by (nat_eq y p) refl (place-fits ms p xs ws tys h.1 g.1)
    where
      by : (b : Bool) → nat_eq y p ≡ b → IsFieldOf ms p (at_place p xs ws) → IsFieldOf ms p (if b then w else at_place p xs ws)
      by true e r = inr (g.0.0, ((h.0.0, t), subst (λ i. slice_get ms i ≡ Some (h.0.0, t)) (eqb-true y p e) h.0.1, g.0.1))
      by false e r = r

  changed-wanted : (k : Known) (ms : List Member) (p count : ℕ) (xs : List ℕ) (ws : List Wire) (tys : List Ty) → AreFields ms xs tys → AreSorted x.sort ws (sorts_of x tys) → fields_of (k.at 1) ≡ Some (bare_members ms)
      → AreWanted x.sort k simple.RReplace (suc (suc p)) (changed p count xs ws)
  changed-wanted k ms p zero xs ws tys h g e = tt
  changed-wanted k ms p (suc count) xs ws tys h g e = (by (at_place p xs ws) (place-fits ms p xs ws tys h g), changed-wanted k ms (suc p) count xs ws tys h g e)
    where
      member : (w : Wire) (m : Member) → slice_get ms p ≡ Some m → x.sort w.ty ≡ Plain (x.bare m.1) → IsMember (fields_of (k.at 1)) (suc (suc p) - 1) (x.sort w.ty)
      member w m there f =
          let z : suc p ≡ suc (suc p) - 1 = omega arith in
          subst (λ n. IsMember (fields_of (k.at 1)) n (x.sort w.ty)) z (subst (λ o. IsMember o (suc p) (x.sort w.ty)) (sym e) (unnamed x.bare m, member-at ms p m there, f))

      fed : (f : Feed) (w : Wire) → IsMember (fields_of (k.at 1)) (suc (suc p) - 1) (x.sort w.ty) → IsWanted x.sort k simple.RReplace (suc (suc p)) f w.ty
      fed (Literal c) w h = h
      fed (Named s) w h = h
      fed Absent w h = tt
      fed (Port up n q) w h = h

      by : (w : Wire) → IsFieldOf ms p w → IsWanted x.sort k simple.RReplace (suc (suc p)) w.feed w.ty
      by w (inl a) = subst (λ f. IsWanted x.sort k simple.RReplace (suc (suc p)) f w.ty) (sym a) tt
      by w (inr a) = fed w.feed w (member w a.1.0 a.1.1 a.1.2)

  changed-up : (ms : List Member) (p count : ℕ) (xs : List ℕ) (ws : List Wire) (tys : List Ty) → AreFields ms xs tys → AreSorted x.sort ws (sorts_of x tys)
      → All (λ port. port ≤ suc (length ms)) (filled_from (suc (suc p)) (changed p count xs ws))
  changed-up ms p zero xs ws tys h g = All-nil (λ port. port ≤ suc (length ms))
  changed-up ms p (suc count) xs ws tys h g = by (at_place p xs ws).feed (fed (at_place p xs ws) (place-fits ms p xs ws tys h g)) (changed-up ms (suc p) count xs ws tys h g)
    where
      fed : (w : Wire) → IsFieldOf ms p w → (w.feed ≡ Absent) ⊎ (IsShown w.feed × (p < length ms))
      fed w (inl a) = inl a
      fed w (inr a) = inr (a.0, slice_get_within ms p a.1.0 a.1.1)

      by : (f : Feed) → (f ≡ Absent) ⊎ (IsShown f × (p < length ms)) → All (λ port. port ≤ suc (length ms)) (filled_from (suc (suc (suc p))) (changed (suc p) count xs ws))
          → All (λ port. port ≤ suc (length ms)) (filled_if (suc (suc p)) f ++ filled_from (suc (suc (suc p))) (changed (suc p) count xs ws))
      by Absent a r = r
      by (Literal c) (inl a) r = absurd cc
      by (Literal c) (inr a) r = let l = a.1 in All-cons (λ port. port ≤ suc (length ms)) (suc (suc p)) (filled_from (suc (suc (suc p))) (changed (suc p) count xs ws)) (omega (arith, l)) r
      by (Named s) (inl a) r = absurd cc
      by (Named s) (inr a) r = absurd a.0
      by (Port up n q) (inl a) r = absurd cc
      by (Port up n q) (inr a) r = let l = a.1 in All-cons (λ port. port ≤ suc (length ms)) (suc (suc p)) (filled_from (suc (suc (suc p))) (changed (suc p) count xs ws)) (omega (arith, l)) r

  change-right : (p : Which) (ms : List Member) (xs : List ℕ) (count : ℕ) (tys : List Ty) (w : Wire) (ws : List Wire) (n : ℕ) → AreFields ms xs tys → Of x (ty.Rec ms ∷ tys) (w ∷ ws) → IsNumber x.forms x.names n (ty.Rec ms)
      → made.IsRight x.forms x.names x.sort x.at p (node (Row simple.RReplace) (w ∷ changed 0 count xs ws)) (record { port = 1; types = One n ∷ [] })
  change-right p ms xs count tys w ws n fields t num ks first own =
      let fs = bare_members ms in
      let c = changed-closed ks first own 0 count xs ws in
      let v = closed_wire ks first own w in
      let vs = closed_wires ks first own ws in
      let all = closed_wires ks first own (w ∷ changed 0 count xs ws) in
      let same : all ≡ v ∷ changed 0 count xs vs = ap (λ l. v ∷ l) c in
      let g = closed-sorted x.sort ks first own (w ∷ ws) (Plain (ty.Rec fs) ∷ sorts_of x tys) (sorts-of x (w ∷ ws) (ty.Rec ms ∷ tys) (Plain (ty.Rec fs) ∷ sorts_of x tys) t (ap Plain (x.sorting.record_of ms), plain-are x tys)) in
      let many : length fs ≡ length ms = length-map ms (unnamed x.bare) in
      let here : sort_in x.sort all 1 ≡ Some (Plain (ty.Rec fs)) = ap (λ ws. sort_in x.sort ws 1) same ∙ sort-shown x.sort v.feed v.ty g.0.0 ∙ ap Some g.0.1 in
      let ports_are : filled_from 1 all ≡ 1 ∷ filled_from 2 (changed 0 count xs vs) = ap (filled_from 1) same ∙ shown_first v.feed (filled_from 2 (changed 0 count xs vs)) g.0.0 in
      record {
        wanted = λ k i.
            let e : fields_of (k.at 1) ≡ Some fs = ap fields_of (i.at 1 ∙ here) ∙ fields-of-record fs in
            subst (AreWanted x.sort k simple.RReplace 1) (sym same) (first_wanted k v g.0.0 (fs, g.0.1), changed-wanted k ms 0 count xs vs tys fields g.1 e);
        gives = λ k i. ((omega arith, ((ty.Rec fs, record-sort n ms num), i.at 1 ∙ here ∙ ap Some (sym (record-sort n ms num)))), tt);
        ports = λ k i.
            let e : fields_of (k.at 1) ≡ Some fs = ap fields_of (i.at 1 ∙ here) ∙ fields-of-record fs in
            subst (λ o. AreChanges o (filled_from 1 all)) (sym e)
            (subst (AreChanges (Some fs)) (sym ports_are) (
              (0, omega arith, refl),
              (λ c. let l = filled-least 2 (changed 0 count xs vs) 1 c in absurd (omega (arith, l)), filled-once 2 (changed 0 count xs vs)),
              All-cons (λ port. port ≤ suc (length fs)) 1 (filled_from 2 (changed 0 count xs vs)) (omega arith)
                  (subst (λ n. All (λ port. port ≤ suc n) (filled_from 2 (changed 0 count xs vs))) (sym many) (changed-up ms 0 count xs vs tys fields g.1)),
            ));
        bound = tt;
        name = tt;
        place = tt;
      }
    where
      shown_first : (f : Feed) (l : List ℕ) → IsShown f → filled_if 1 f ++ l ≡ 1 ∷ l
      shown_first (Literal c) l h = refl
      shown_first (Named s) l h = absurd h
      shown_first Absent l h = absurd h
      shown_first (Port up n q) l h = refl

      first_wanted : (k : Known) (v : Wire) → IsShown v.feed → (fs : List Member) × (x.sort v.ty ≡ Plain (ty.Rec fs)) → IsWanted x.sort k simple.RReplace 1 v.feed v.ty
      first_wanted k v s h = by v.feed s
        where
          by : (f : Feed) → IsShown f → IsWanted x.sort k simple.RReplace 1 f v.ty
          by (Literal c) s = h
          by (Named s) a = absurd a
          by Absent s = absurd s
          by (Port up n q) s = h

  -- ---- behind nodes of a graph

  module _ (p : Which) (own : List Carried) (before : List Outs) (ls : List Level) where
    pub record-does : (ms : List Member) (ws : List Wire) (n : ℕ) → IsNumber x.forms x.names n (ty.Rec ms) → Of x (map (λ m. m.1) ms) ws → Scope x p own before ls ws → Gives x p own before ls (ty.Rec ms) simple.RBuild ws n
    record-does ms ws n num t i =
        made.node-does x.forms x.names x.sort x.at p own before ls (Of x (ty.Rec ms ∷ [])) (Row simple.RBuild) ws 1 (One n ∷ []) (record-right p ms ws n t num) (λ ks first shift. tt) i
        (typed-ports x.forms x.names (n ∷ []) (ty.Rec ms ∷ []) (num, tt) (suc (length before)) 1)

    gaps-in : (tag : ℕ) (ws : List Wire) → Scope x p own before ls ws → Scope x p own before ls (absents tag ++ ws)
    gaps-in zero ws i = i
    gaps-in (suc tag) ws i = (tt, gaps-in tag ws i)

    pub union-does : (ms : List Member) (tag : ℕ) (m : Member) (ws : List Wire) (n : ℕ) → slice_get ms tag ≡ Some m → IsNumber x.forms x.names n (ty.Uni ms) → Of x (m.1 ∷ []) ws → Scope x p own before ls ws
        → Gives x p own before ls (ty.Uni ms) simple.RBuild (absents tag ++ ws) n
    union-does ms tag m [] n there num t i = absurd t
    union-does ms tag m (w ∷ v ∷ ws) n there num t i = absurd t.1
    union-does ms tag m (w ∷ []) n there num t i =
        made.node-does x.forms x.names x.sort x.at p own before ls (Of x (ty.Uni ms ∷ [])) (Row simple.RBuild) (absents tag ++ w ∷ []) 1 (One n ∷ []) (union-right p ms tag m w n there t num) (λ ks first shift. tt) (gaps-in tag (w ∷ []) i)
        (typed-ports x.forms x.names (n ∷ []) (ty.Uni ms ∷ []) (num, tt) (suc (length before)) 1)

    pub field-does : (ms : List Member) (f : ℕ) (m : Member) (ws : List Wire) (n : ℕ) → slice_get ms f ≡ Some m → IsNumber x.forms x.names n m.1 → Of x (ty.Rec ms ∷ []) ws → Scope x p own before ls ws
        → Does x p own before ls (Of x (m.1 ∷ [])) (field_lowered f ws (n ∷ []))
    field-does ms f m ws n there num t i =
        made.node-does x.forms x.names x.sort x.at p own before ls (Of x (m.1 ∷ [])) (Row simple.RElements) ws (suc f) (One n ∷ []) (field-right p ms f m ws n there t num) (λ ks first shift. tt) i
        (typed-ports x.forms x.names (n ∷ []) (m.1 ∷ []) (num, tt) (suc (length before)) (suc f))

    changed-in : (q count : ℕ) (xs : List ℕ) (ws : List Wire) → Scope x p own before ls ws → Scope x p own before ls (changed q count xs ws)
    changed-in q zero xs ws i = tt
    changed-in q (suc count) xs ws i = (one q xs ws i, changed-in (suc q) count xs ws i)
      where
        Inside : Wire → Type 0
        Inside w = IsIn x.forms x.names (level own before ∷ ls) w.feed w.ty

        one : (q : ℕ) (xs : List ℕ) (ws : List Wire) → Scope x p own before ls ws → Inside (at_place q xs ws)
        one q [] ws i = tt
        one q (y ∷ xs) [] i = tt
        one q (y ∷ xs) (w ∷ ws) i = by (nat_eq y q) (one q xs ws i.1)
          where
            by : (b : Bool) → Inside (at_place q xs ws) → Inside (if b then w else at_place q xs ws)
            by true r = i.0
            by false r = r

    pub change-does : (ms : List Member) (xs : List ℕ) (tys : List Ty) (ws : List Wire) (n : ℕ) → AreFields ms xs tys → IsNumber x.forms x.names n (ty.Rec ms) → Of x (ty.Rec ms ∷ tys) ws → Scope x p own before ls ws
        → Gives x p own before ls (ty.Rec ms) simple.RReplace (wire_at ws 0 ∷ changed 0 (suc (greatest xs)) xs (drop 1 ws)) n
    change-does ms xs tys [] n fields num t i = absurd t
    change-does ms xs tys (w ∷ ws) n fields num t i =
        made.node-does x.forms x.names x.sort x.at p own before ls (Of x (ty.Rec ms ∷ [])) (Row simple.RReplace) (w ∷ changed 0 (suc (greatest xs)) xs ws) 1 (One n ∷ [])
        (change-right p ms xs (suc (greatest xs)) tys w ws n fields t num) (λ ks first shift. tt) (i.0, changed-in 0 (suc (greatest xs)) xs ws i.1)
        (typed-ports x.forms x.names (n ∷ []) (ty.Rec ms ∷ []) (num, tt) (suc (length before)) 1)
