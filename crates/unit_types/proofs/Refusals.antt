-- What the reader of written types refuses at a token breaks a rule, whatever comes behind.
use Rattle.std.proofs.Common.{◌≡◌, ◌≤◌, ◌<◌, ℕ, Bool, true, false, List, ◌∷◌, ◌++◌, map, length, Option, Some, None, refl, sym, ap, subst, ◌∙◌, arith}
use Rattle.name_scope.specs.Newest.{newest}
use Rattle.flow_value.specs.declared.ty.Ty.{Ty}
use Rattle.type_table.specs.declared.form.Form.{Form}
use Rattle.type_table.specs.declared.form.Form.TheVariants as form
use Rattle.type_table.specs.declared.form.Member.{Member as NumberedMember}
use Rattle.type_table.specs.Forms.{form_depth, deepest as deepest_number}
use Rattle.type_table.specs.Tables.{depths, HasMember, IsWell}
use Rattle.sisal_lex.specs.declared.token.Kind.TheVariants as kind
use Rattle.sisal_lex.specs.declared.token.Sign.TheVariants as sign
use Rattle.sisal_lex.specs.declared.token.Token.{Token}
use Rattle.sisal_grammar.specs.declared.value.Placed.{Placed}
use Rattle.sisal_grammar.specs.Acts.{name_of}
use Rattle.sisal_grammar.specs.Spells.{IsSign}
use Rattle.typed_tree.specs.Types.{Member, deepest, depth_of, IsNumber, null, AreMembers}
use Rattle.typed_tree.specs.Breaks.{IsTwice}
use Rattle.typed_tree.specs.Written.{Misnames}
use Rattle.typed_tree.specs.Written as written
use Rattle.typed_tree.proofs.Depths.{depth_array, depth_stream, depth_record, depth_union}
use Rattle.unit_types.specs.declared.open.First.{First}
use Rattle.unit_types.specs.declared.open.First.TheVariants as first
use Rattle.unit_types.specs.declared.open.Sequence.{Sequence}
use Rattle.unit_types.specs.declared.open.Members.{Members}
use Rattle.unit_types.specs.declared.open.Open.{Open}
use Rattle.unit_types.specs.declared.open.Open.TheVariants as entry
use Rattle.unit_types.specs.declared.open.Next.{Next}
use Rattle.unit_types.specs.declared.open.Next.TheVariants as next
use Rattle.unit_types.specs.Faults.{IsReal, IsUnknown, IsDeep, IsTooDeep, IsMemberTwice}
use Rattle.unit_types.specs.Rests.{at_place, sequence_of, members_of, word_of, begun, with_group, sequence_form, members_form, AreKnown}
use Rattle.unit_types.specs.Reached.{AtType, Gathers, Refuses}
use Rattle.unit_types.proofs.Known.{known_newest, none_known}
use Rattle.unit_types.proofs.Depth.{depth_number, depth_members}
use Rattle.unit_types.proofs.Tables.{basic}
use Rattle.unit_types.proofs.Over.{number_there, sequence_over, members_over, members_some}
use Rattle.unit_types.proofs.Reached.{breaks, sequence_deep, members_deep, members_twice, gathered, gathered_group}
use Rattle.unit_types.proofs.Steps.{behind_tags}

-- a rule and a line that are the same
refuses_as : {known : List (ℕ × ℕ)} {forms : List Form} {now : Next} {os : List Open} {t : Token} {rule line r l : ℕ} → r ≡ rule → l ≡ line → Refuses known forms now os t rule line → Refuses known forms now os t r l
refuses_as {known} {forms} {now} {os} {t} {rule} {line} {r} {l} a b h = subst (λ x. Refuses known forms now os t x l) (sym a) (subst (Refuses known forms now os t rule) (sym b) h)

-- places that are the same
pub refuses_at : {known : List (ℕ × ℕ)} {forms : List Form} {now now' : Next} {os os' : List Open} {t : Token} {rule line : ℕ} → now' ≡ now → os' ≡ os
    → Refuses known forms now os t rule line → Refuses known forms now' os' t rule line
refuses_at {known} {forms} {now} {now'} {os} {os'} {t} {rule} {line} a b h = subst (λ x. Refuses known forms x os' t rule line) (sym a) (subst (λ x. Refuses known forms now x t rule line) (sym b) h)

-- ---- the first token of a type

module _ (known : List (ℕ × ℕ)) (forms : List Form) (os : List Open) (t : Token) where
  real_word : (f : First) → t.kind ≡ kind.Word (word_of f) → begun f t.line ≡ None → Refuses known forms next.Type os t 3 t.line
  real_word first.Boolean w e = cc
  real_word first.Character w e = cc
  real_word first.Integer w e = cc
  real_word first.Null w e = cc
  real_word first.Real w e = record { misnames = λ sp tys table o k n ts behind c. breaks sp tys forms os ts (at_place n t ∷ behind) 3 t.line c (written.real behind (record { is = w })) }
  real_word first.DoubleReal w e = record { misnames = λ sp tys table o k n ts behind c. breaks sp tys forms os ts (at_place n t ∷ behind) 3 t.line c (written.double_real behind (record { is = w })) }
  real_word (first.Opens o) w e = cc

  pub refuses_real : (f : First) (line rule l : ℕ) → t.kind ≡ kind.Word (word_of f) → t.line ≡ line → IsReal f line rule l → Refuses known forms next.Type os t rule l
  refuses_real f line rule l w at h = refuses_as h.rule_is (h.line_is ∙ sym at) (real_word f w (ap (begun f) at ∙ h.no_type))

  -- a name that is known has a number in the table
  unnamed : (sp : List (List ℕ)) (tys : List (ℕ × Ty)) (x : ℕ) → AreKnown forms sp known tys → ((n : ℕ) → newest x known ≡ Some n → length forms ≤ n) → newest x tys ≡ None
  unnamed sp tys x k h = by (newest x known) refl
    where
      by : (o : Option ℕ) → newest x known ≡ o → newest x tys ≡ None
      by None e = none_known forms sp x known tys k e
      by (Some n) e =
          let a : (a : Ty) × (newest x tys ≡ Some a) × IsNumber forms sp n a = known_newest forms sp x n known tys k e in
          let out : length forms ≤ n = h n e in
          absurd (omega (arith, out, number_there forms sp n a.0 a.2))

  pub refuses_name : (x line rule l : ℕ) → t.kind ≡ kind.Id x → t.line ≡ line → IsUnknown forms known x line rule l → Refuses known forms next.Type os t rule l
  refuses_name x line rule l w at h = refuses_as h.rule_is (h.line_is ∙ sym at) (record {
    misnames = λ sp tys table o k n ts behind c.
        breaks sp tys forms os ts (at_place n t ∷ behind) 2 t.line c
        (written.unknown {t = at_place n t} behind (record { number = x; is = w }) (ap (λ q. newest (name_of q) tys) w ∙ unnamed sp tys x k h.no_type));
  })

-- ---- types that are too deep

too_deep : (d e : ℕ) → 64 < d → d ≡ e → e ≤ 64 → ⊥
too_deep d e h same less = absurd (omega (arith, h, same, less))

sequence_depth : (forms : List Form) (sp : List (List ℕ)) (b : Bool) (m : ℕ) (t : Ty) → IsWell forms → IsNumber forms sp m t → form_depth (depths forms) (sequence_form b m) ≡ depth_of (sequence_of b t)
sequence_depth forms sp true m t well p = let d = depth_number forms sp well p in omega (arith, d, depth_stream t)
sequence_depth forms sp false m t well p = let d = depth_number forms sp well p in omega (arith, d, depth_array t)

members_depth : (forms : List Form) (sp : List (List ℕ)) (b : Bool) (ms : List NumberedMember) (fs : List Member) → IsWell forms → AreMembers forms sp ms fs → form_depth (depths forms) (members_form b ms) ≡ depth_of (members_of b fs)
members_depth forms sp true ms fs well p =
    let d : deepest_number (depths forms) (map (λ m. m.ty) ms) ≡ deepest (map (λ m. (m.0, depth_of m.1)) fs) = depth_members forms sp well p in omega (arith, d, depth_union fs)
members_depth forms sp false ms fs well p =
    let d : deepest_number (depths forms) (map (λ m. m.ty) ms) ≡ deepest (map (λ m. (m.0, depth_of m.1)) fs) = depth_members forms sp well p in omega (arith, d, depth_record fs)

no_members : (b : Bool) (n : ℕ) → HasMember (sequence_form b n)
no_members true n = tt
no_members false n = tt

pub refuses_sequence : (known : List (ℕ × ℕ)) (old : List Form) (s : Sequence) (os : List Open) (t : Token) (number rule line : ℕ) → t.kind ≡ kind.Sign sign.SCloseBracket
    → IsDeep old (sequence_form s.is_stream number) s.line rule line → Refuses known old (next.After number) (entry.Sequence s ∷ os) t rule line
refuses_sequence known old s os t number rule line is h = refuses_as h.rule_is h.line_is (record {
  misnames = λ sp tys table o k n ts behind c.
      sequence_deep sp tys old os s ts c.type (at_place n t) (record { is = is }) c.is behind
      (too_deep (form_depth (depths old) (sequence_form s.is_stream number)) (depth_of (sequence_of s.is_stream c.type)) (h.deep (sequence_over old sp s.is_stream number c.type c.stands) (no_members s.is_stream number)) (sequence_depth old sp s.is_stream number c.type table.well c.stands));
})

deep : (sp : List (List ℕ)) (tys : List (ℕ × Ty)) (old : List Form) (os : List Open) (b : Bool) (line : ℕ) (numbers : List NumberedMember) (names : List ℕ) (p : Placed) (ts behind : List Placed) → IsWell old
    → IsSign sign.SCloseBracket p → IsTooDeep old (members_form b numbers) → Gathers sp tys old b line numbers names (AtType sp tys old os) ts
    → Misnames sp tys (ts ++ p ∷ behind) 4 line
deep sp tys old os b line numbers names p ts behind well is h g =
    members_deep sp tys old os b line numbers names ts g p behind is
    (too_deep (form_depth (depths old) (members_form b numbers)) (depth_of (members_of b g.members))
    (h (members_over old sp b numbers g.members g.numbered) (members_some old sp tys b b g.inner g.names numbers g.members g.numbered g.are)) (members_depth old sp b numbers g.members well g.numbered))

pub refuses_members : (known : List (ℕ × ℕ)) (old : List Form) (m : Members) (os : List Open) (t : Token) (rule line : ℕ) → t.kind ≡ kind.Sign sign.SCloseBracket
    → IsDeep old (members_form m.is_union m.members) m.line rule line → Refuses known old next.AfterSemicolon (entry.Members m ∷ os) t rule line
refuses_members known old m os t rule line is h = refuses_as h.rule_is h.line_is (record {
  misnames = λ sp tys table o k n ts behind c.
      deep sp tys old os m.is_union m.line m.members m.names (at_place n t) ts behind table.well (record { is = is }) h.deep (gathered sp tys old os m ts c);
})

pub refuses_group : (known : List (ℕ × ℕ)) (old : List Form) (m : Members) (os : List Open) (t : Token) (number rule line : ℕ) → t.kind ≡ kind.Sign sign.SCloseBracket
    → IsDeep old (members_form m.is_union (with_group m number).members) m.line rule line → Refuses known old (next.After number) (entry.Members m ∷ os) t rule line
refuses_group known old m os t number rule line is h = refuses_as h.rule_is h.line_is (record {
  misnames = λ sp tys table o k n ts behind c.
      deep sp tys old os m.is_union m.line (with_group m number).members (with_group m number).names (at_place n t) ts behind table.well (record { is = is }) h.deep
      (gathered_group sp tys old os m c.type number ts o.1 c.stands c.is).0;
})

-- ---- members that stand twice

pub refuses_twice : (known : List (ℕ × ℕ)) (old : List Form) (m : Members) (os : List Open) (t : Token) (number rule line : ℕ) → IsMemberTwice m rule line
    → Refuses known old (next.After number) (entry.Members m ∷ os) t rule line
refuses_twice known old m os t number rule line h = refuses_as h.rule_is refl (record {
  misnames = λ sp tys table o k n ts behind c.
      let g = gathered_group sp tys old os m c.type number ts o.1 c.stands c.is in
      members_twice sp tys old os m.is_union m.line (with_group m number).members (with_group m number).names ts g.0 (at_place n t ∷ behind) line
      (subst (λ l. IsTwice l line) (sym g.1) (h.twice c.is.names c.is.all_names));
})

-- tags without a type
pub refuses_tags : (known : List (ℕ × ℕ)) (old : List Form) (m : Members) (os : List Open) (t : Token) (rule line : ℕ) → m.is_union ≡ true
    → Refuses known old (next.After 3) (entry.Members m ∷ os) t rule line → Refuses known old next.AfterName (entry.Members m ∷ os) t rule line
refuses_tags known old m os t rule line w h = record {
  misnames = λ sp tys table o k n ts behind c.
      h.misnames sp tys table o k n ts behind (behind_tags sp tys old m os ts w (null (basic old 3 form.Null table (λ r. refl))) c);
}
