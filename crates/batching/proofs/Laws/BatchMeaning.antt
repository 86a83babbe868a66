-- Demand 3 for the members of a batch: the scopes around a member's references include the prelude's root.
use Rattle.std.specs.Prelude.{◌≡◌, Bool, true, false, length}
use Rattle.std.proofs.Math.Path.{refl, ap, sym, subst}
use Rattle.std.proofs.Common.{◌∙◌, arith}
use Rattle.std.proofs.Math.Option
use Rattle.std.proofs.Math.Option.{Option, none, some}
use mathlib.Core.List.{List, [], ◌∷◌, map}
use Prim.Native.Nat.{ℕ, zero, suc, ◌+◌, ◌≤◌, ◌<◌, ◌-◌}
use Rattle.std.proofs.Math.ListN.{get_elem?}
use Rattle.rules.specs.Tools.{when◌then◌else◌, between, ◌then◌, only, ◌or_else◌}
use Rattle.rules.specs.Versions.{RuleSet, Setting}
use Rattle.rules.specs.Rows.{Row}
use Rattle.rules.specs.Tree.{Scope, flatten, Item, head_of, form}
use Rattle.rules.specs.Reader.{read}
use Rattle.rules.specs.Rules.{ok, resolve_inside}
use Rattle.rules.specs.Answer
use Rattle.rules.specs.Answer.{AnswerOf, accepted, map_answer, Answer, setting_of, answer, answer_inside, rows_in, output, output_inside}
use Rattle.batching.specs.Batch.{Prelude, root_of, prelude_in, member_writes, share_of, after_prelude, batch_answer, batch_outputs}
use Rattle.rules.specs.Readings
use Rattle.rules.specs.Readings.{is_inserted, Place, walked, walked_at, place_from, is_earlier}
use Rattle.rules.specs.Explainer.{Standing, explained}
use Rattle.batching.specs.BatchReadings.{Meant, seat, placed, meant_by, member_outward, meant_earlier, member_counting, decl_in, decl_at, meant_decl, member_standing, among_both, member_denotes}
use Rattle.rules.specs.Laws.ToolLaws.{false_not, leb-true, All, done, ◌&◌}
use Rattle.rules.specs.Laws.RowLaws.{Bytes}
use Rattle.rules.specs.Laws.Results.{some_same, no_option}
use Rattle.rules.specs.Laws.Meaning.Names.{LowScope}
use Rattle.batching.proofs.Laws.InPrelude.{same_seat, few_declared, inside_prelude, walked_inside_lem}
use Rattle.batching.proofs.Laws.MeantRow.{Named, row_named}
use Rattle.rules.proofs.Laws.Meaning.Agree
use Rattle.rules.proofs.Laws.Meaning.Agree.{readings_agree}
use Rattle.rules.proofs.Laws.Meaning.Explained.{Explained}
use Rattle.rules.proofs.Laws.InputLaws.{Usual, AllUsual, Small, Accepted, AcceptedInside, readings, readings_inside, UnknownInside, unknown_inside, LateInside, late_inside}
use Rattle.batching.proofs.Laws.BatchLaws.{in_batch, prelude_answer, members_answers, share_at, prelude_answers, member_answer_lem, share_whole, shares_fit, shares}

-- ---- of trees

-- the prelude `s`, resolved to `q`
module _ (rules : RuleSet) (s : Scope) (q : Scope × ℕ) (low : LowScope s) (e : resolve_inside rules [] s ≡ ok q) where
  outward_member : (m : Scope) (p d : Place) → Readings.outward_inside (seat s) (Readings.root s ∷ []) m p ≡ some d → member_outward s m p ≡ some (meant_by d)
  unfolding member_outward
  outward_member m p d r = ap (Option.map meant_by) r

  counting_member : (m : Scope) (p d : Place) → Readings.counting_inside (seat s) (Readings.root q.0 ∷ []) m p ≡ some d → member_counting q.0 m p ≡ some (meant_by d)
  unfolding member_counting
  counting_member m p d r =
      ap (λ (w : List ℕ). Option.map meant_by (Readings.counting_inside w (Readings.root q.0 ∷ []) m p)) (same_seat rules s q low e) ∙ ap (Option.map meant_by) r

  denotes_member : (m : Scope) (u : Standing) (d : Place) → (explained u then λ x. among_both (seat s) q.0 m x.way x.field x.at) ≡ some d → member_denotes q.0 m u ≡ some (meant_by d)
  unfolding member_denotes
  denotes_member m u d r =
      ap (λ (w : List ℕ). Option.map meant_by (explained u then λ x. among_both w q.0 m x.way x.field x.at)) (same_seat rules s q low e) ∙ ap (Option.map meant_by) r

  -- In an accepted member of an accepted prelude both readings of every walked name give one declaration, of the member or of the prelude,
  -- whose row has that space and name.
  pub member_agrees : (own : RuleSet) (m : Scope) (r : Scope × ℕ) (p : Place) (x : ℕ × ℕ) → LowScope m → resolve_inside own (root_of q.0 ∷ []) m ≡ ok r → walked_at m p ≡ some x
      → (d : Meant) × (member_outward s m p ≡ some d) × (member_counting q.0 r.0 p ≡ some d) × Named x.0 x.1 (meant_decl s m d)
  member_agrees own m r p x lm eq w =
      let A = readings_agree own (seat s) (inside_prelude rules s q low e).frames m r p x lm eq (walked_inside_lem (seat s) (Readings.root s ∷ []) m p ∙ w) in
      let out = outward_member m p A.0 A.1 in
      (meant_by A.0, out, counting_member r.0 p A.0 A.2, row_named s m p x (meant_by A.0) low lm w out)

-- ---- which declarations are earlier ones

outward_back : (s m : Scope) (p : Place) (d : Meant) → member_outward s m p ≡ some d → (c : Place) × (Readings.outward_inside (seat s) (Readings.root s ∷ []) m p ≡ some c) × (meant_by c ≡ d)
unfolding member_outward
outward_back s m p d e = go (Readings.outward_inside (seat s) (Readings.root s ∷ []) m p) e
  where
    go : (o : Option Place) → Option.map meant_by o ≡ some d → (c : Place) × (o ≡ some c) × (meant_by c ≡ d)
    go none e = no_option d e
    go (some c) e = (c, refl, some_same (meant_by c) d e)

early_meant : (s : Scope) (p c : Place) → is_earlier c (place_from (seat s) p) ≡ true → meant_earlier (meant_by c) p ≡ true
unfolding seat meant_by placed meant_earlier is_earlier
early_meant s p c e = go c.way e
  where
    go : (way : List ℕ) → is_earlier (record { way = way; field = c.field; at = c.at }) (place_from (seat s) p) ≡ true → meant_earlier (placed way c.field c.at) p ≡ true
    go [] e = refl
    go (n ∷ way) e = e

below : {A : Type 0} (xs : List A) (n : ℕ) (a : A) → get_elem? xs n ≡ some a → n < length xs
below [] n a e = no_option a e
below (x ∷ xs) zero a e = omega arith
below (x ∷ xs) (suc n) a e = omega (arith, below xs n a e)

-- a declaration that is found stands in a field
in_field_lem : (s : Scope) (space name field at : ℕ) → Named space name (decl_at s (record { way = []; field = field; at = at })) → field < length (Readings.originals (Readings.fields_of s))
unfolding decl_at decl_in Readings.around Readings.root ◌then◌
in_field_lem s space name field at n = go (get_elem? (Readings.originals (Readings.fields_of s)) field) refl n
  where
    go : (o : Option Item) → get_elem? (Readings.originals (Readings.fields_of s)) field ≡ o → Named space name (o then λ i. get_elem? (head_of i).decls at) → field < length (Readings.originals (Readings.fields_of s))
    go none q n = absurd n
    go (some i) q n = below (Readings.originals (Readings.fields_of s)) field i q

-- and so one that is not earlier is the member's
late_meant : (s m : Scope) (p c : Place) (x : ℕ × ℕ) → LowScope s → LowScope m → walked_at m p ≡ some x → Readings.outward_inside (seat s) (Readings.root s ∷ []) m p ≡ some c
    → is_earlier c (place_from (seat s) p) ≡ false → meant_earlier (meant_by c) p ≡ false
unfolding seat meant_by placed meant_earlier is_earlier member_outward meant_decl
late_meant s m p c x ls lm w r e = go c.way (row_named s m p x (meant_by c) ls lm w (ap (Option.map meant_by) r)) e
  where
    go : (way : List ℕ) → Named x.0 x.1 (meant_decl s m (placed way c.field c.at)) → is_earlier (record { way = way; field = c.field; at = c.at }) (place_from (seat s) p) ≡ false
        → meant_earlier (placed way c.field c.at) p ≡ false
    go [] n e = let l = in_field_lem s x.0 x.1 c.field c.at n in false_not (sym e ∙ leb-true l)
    go (k ∷ way) n e = e

-- ---- of inputs

-- the setting of the only one
only_one : (s v : Setting) (input : List ℕ) → setting_of (s ∷ []) input ≡ some v → s ≡ v
unfolding setting_of only ◌or_else◌
only_one s v input e = go (Answer.has_header s input) e
  where
    go : (b : Bool) → (only b s or_else none) ≡ some v → s ≡ v
    go true q = some_same s v q
    go false q = no_option v q

-- Of a member that is accepted in the batch of an accepted prelude: its share held `old` and holds `new`.
module _ (settings : List Setting) (prelude old_prelude m old new : List ℕ) (prelude_out out : List Row) where
  pub record Member : Type 0 where
    -- the prelude, as if it were alone, and the member inside its root
    pub around : Accepted settings prelude old_prelude prelude_out
    pub inside : AcceptedInside (inside_prelude around.setting.rules around.before (around.after, around.next) around.low around.resolves) (around.setting ∷ []) m old out
    pub same_setting : around.setting ≡ inside.setting
    pub holds_it : new ≡ output_inside (root_of around.after ∷ []) (around.setting ∷ []) m old
    -- for every walked name the outward reading of both inputs is a declaration, counting in both outputs gives the same one, and its row,
    -- out of one of the inputs, has that space and name
    pub agree : (p : Place) (x : ℕ × ℕ) → walked_at inside.before p ≡ some x
        → (d : Meant) × (member_outward around.before inside.before p ≡ some d) × (member_counting around.after inside.after p ≡ some d)
        × Named x.0 x.1 (meant_decl around.before inside.before d)
    -- and where the rules ask for it, one that stands earlier
    pub in_time_lem : inside.setting.rules.early ≡ true → (p : Place) (x : ℕ × ℕ) (d : Meant) → walked_at inside.before p ≡ some x → member_outward around.before inside.before p ≡ some d
        → meant_earlier d p ≡ true
    -- every inserted outer alias denotes by the explainer what its reference meant
    pub explains : (way : List ℕ) (n : ℕ) (u : Standing) → member_standing around.after inside.after way n ≡ some u → is_inserted u.head ≡ true → u.head.code ≡ 11
        → (E : Explained (inside_prelude around.setting.rules around.before (around.after, around.next) around.low around.resolves) inside.before inside.after u)
        × (member_outward around.before inside.before E.serves ≡ some (meant_by E.meant))
        × (member_denotes around.after inside.after u ≡ some (meant_by E.meant))

  member_of : (A : Accepted settings prelude old_prelude prelude_out)
      → AcceptedInside (inside_prelude A.setting.rules A.before (A.after, A.next) A.low A.resolves) (A.setting ∷ []) m old out
      → new ≡ output_inside (root_of A.after ∷ []) (A.setting ∷ []) m old → Member
  unfolding member_standing
  member_of A I h =
      record {
        around = A;
        inside = I;
        same_setting = only_one A.setting I.setting m I.asked_for;
        holds_it = h;
        agree = λ p x w. member_agrees A.setting.rules A.before (A.after, A.next) A.low A.resolves I.setting.rules I.before (I.after, I.next) p x I.low I.resolves w;
        in_time_lem = λ early p x d w e.
            let C = outward_back A.before I.before p d e in
            subst (λ (y : Meant). meant_earlier y p ≡ true) C.2
            (early_meant A.before p C.0 (I.in_time_lem early p x C.0 (walked_inside_lem (seat A.before) (Readings.root A.before ∷ []) I.before p ∙ w) C.1));
        explains = λ way n u e new code.
            let E = I.explains way n u e new code in (
              E,
              outward_member A.setting.rules A.before (A.after, A.next) A.low A.resolves I.before E.serves E.meant E.reads,
              denotes_member A.setting.rules A.before (A.after, A.next) A.low A.resolves I.after u E.meant E.denoted,
            );
      }

-- Of a member that is refused with 9 at the place `z`. If a walked name stands there, it is of the space that the refusal carries.
pub record MemberUnknown (settings : List Setting) (prelude old_prelude m : List ℕ) (prelude_out : List Row) (z : ℕ) (carried : List ℕ) : Type 0 where
  pub around : Accepted settings prelude old_prelude prelude_out
  pub inside : UnknownInside (inside_prelude around.setting.rules around.before (around.after, around.next) around.low around.resolves) (around.setting ∷ []) m z carried
  pub undeclared : (x : ℕ × ℕ) → walked inside.use_there.head inside.use_there.operand ≡ some x
      → (inside.space ≡ x.0) × (member_outward around.before inside.tree inside.where_it_is ≡ none)

-- Of a member that is refused with 13 at the place `z`. If a walked name stands there, what it means is a declaration of the member itself.
pub record MemberLate (settings : List Setting) (prelude old_prelude m : List ℕ) (prelude_out : List Row) (z : ℕ) : Type 0 where
  pub around : Accepted settings prelude old_prelude prelude_out
  pub inside : LateInside (inside_prelude around.setting.rules around.before (around.after, around.next) around.low around.resolves) (around.setting ∷ []) m z
  pub later : (x : ℕ × ℕ) → walked inside.use_there.head inside.use_there.operand ≡ some x
      → (inside.setting.rules.early ≡ true) × (d : Meant) × (member_outward around.before inside.tree inside.where_it_is ≡ some d) × (meant_earlier d inside.where_it_is ≡ false)

-- the prelude's root is small enough
root_small : (settings : List Setting) (prelude old_prelude : List ℕ) (out : List Row) (A : Accepted settings prelude old_prelude out) → Small (root_of A.after ∷ []) A.setting
root_small settings prelude old_prelude out A =
    let few = few_declared A.setting.rules A.before (A.after, A.next) A.low A.resolves in
    let low : length (root_of A.after).entries ≤ suc A.setting.version.rows = omega (arith, few, A.few) in
    record { most = suc A.setting.version.rows; below = A.usual.few; wide = omega arith; tables = low & done }

-- a prelude that is accepted by itself is the batch's
prelude_is : (settings : List Setting) (prelude old_prelude : List ℕ) (out : List Row) (A : Accepted settings prelude old_prelude out)
    → prelude_in (setting_of settings prelude) prelude (length old_prelude) ≡ accepted (record { setting = A.setting; resolved = A.after })
unfolding prelude_in map_answer
prelude_is settings prelude old_prelude out A = rw (A.asked_for, A.forms)

module _ (settings : List Setting) (usual : AllUsual settings) (prelude : List ℕ) (members : List (List ℕ)) (count : between 1 8 (length members) ≡ true) (old_prelude old : List ℕ) (bytes : Bytes prelude)
    (i : ℕ) (m : List ℕ) (there : get_elem? members i ≡ some m) (bytes-m : Bytes m) where
  -- what the member's share held
  abbrev pub before_it : List ℕ
  before_it = share_at i (share_of members (length old)) old

  whole : length before_it ≡ share_of members (length old)
  whole = share_whole (share_of members (length old)) members i m old there (shares_fit members (length old))

  abbrev pub after_it : List ℕ
  after_it = share_at i (share_of members (length old)) (batch_outputs settings prelude members old_prelude old).1

  -- A member that is answered `x`: the prelude is accepted, and inside its root the member's form is answered so.
  record Answered (x : Answer) : Type 0 where
    rows : List Row
    outer : Accepted settings prelude old_prelude rows
    answers : answer_inside (root_of outer.after ∷ []) (outer.setting ∷ []) m (length before_it) ≡ x
    holds_it : after_it ≡ output_inside (root_of outer.after ∷ []) (outer.setting ∷ []) m before_it

  answered : (x : Answer) → get_elem? (members_answers (batch_answer settings prelude members (length old_prelude) (length old))) i ≡ some x → Answered x
  unfolding after_prelude answer answer_inside
  answered x e = go (prelude_in (setting_of settings prelude) prelude (length old_prelude)) refl (sym (member_answer_lem settings prelude members count i m there (length old_prelude) (length old)) ∙ e)
    where
      go : (r : AnswerOf Prelude) → prelude_in (setting_of settings prelude) prelude (length old_prelude) ≡ r → in_batch r m (share_of members (length old)) ≡ some x → Answered x
      go (AnswerOf.refused n p c) q y = no_option x y
      go (accepted P) q y =
          let a : answer settings prelude (length old_prelude) ≡ accepted (flatten P.resolved) =
          sym (prelude_answers (setting_of settings prelude) prelude members (length old_prelude) 0) ∙ ap (λ (r : AnswerOf Prelude). prelude_answer (after_prelude r members 0)) q in
          let A = readings settings usual prelude old_prelude bytes (flatten P.resolved) a in
          let is = prelude_is settings prelude old_prelude (flatten P.resolved) A in
          record {
            rows = flatten P.resolved;
            outer = A;
            answers = ap (answer_inside (root_of A.after ∷ []) (A.setting ∷ []) m) whole
                ∙ some_same _ x (ap (λ (r : AnswerOf Prelude). in_batch r m (share_of members (length old))) (sym is ∙ q) ∙ y);
            holds_it = (shares settings usual prelude members count old_prelude old).own i m there ∙ ap (λ (r : AnswerOf Prelude). member_writes r m before_it) is;
          }

  -- Of every member that a batch accepts what is said above holds.
  pub members_mean : (out : List Row) → get_elem? (members_answers (batch_answer settings prelude members (length old_prelude) (length old))) i ≡ some (accepted out)
      → (prelude_out : List Row) × Member settings prelude old_prelude m before_it after_it prelude_out out
  members_mean out e =
      let B = answered (accepted out) e in
      let A = B.outer in
      let I = readings_inside (inside_prelude A.setting.rules A.before (A.after, A.next) A.low A.resolves) (A.setting ∷ []) (A.usual, tt) m before_it
      (λ v u s. subst (Small (root_of A.after ∷ [])) (only_one A.setting v m s) (root_small settings prelude old_prelude B.rows A)) bytes-m out B.answers in
      (B.rows, member_of settings prelude old_prelude m before_it after_it B.rows out A I B.holds_it)

  -- And of every member that it refuses with 9: if a walked name stands there, neither a scope of the member around it nor the prelude's
  -- root declares it.
  pub members_unknown : (z : ℕ) (carried : List ℕ) → get_elem? (members_answers (batch_answer settings prelude members (length old_prelude) (length old))) i ≡ some (AnswerOf.refused 9 z carried)
      → (prelude_out : List Row) × MemberUnknown settings prelude old_prelude m prelude_out z carried
  unfolding member_outward
  members_unknown z carried e =
      let B = answered (AnswerOf.refused 9 z carried) e in
      let A = B.outer in
      let I = unknown_inside (inside_prelude A.setting.rules A.before (A.after, A.next) A.low A.resolves) (A.setting ∷ []) (A.usual, tt) m (length before_it) z carried B.answers in
      (B.rows, record { around = A; inside = I; undeclared = λ x w. ((I.undeclared x w).0, ap (Option.map meant_by) (I.undeclared x w).1) })

  -- And of every member that it refuses with 13.
  pub members_late : (z : ℕ) (carried : List ℕ) → get_elem? (members_answers (batch_answer settings prelude members (length old_prelude) (length old))) i ≡ some (AnswerOf.refused 13 z carried)
      → (prelude_out : List Row) × MemberLate settings prelude old_prelude m prelude_out z
  unfolding member_outward
  members_late z carried e =
      let B = answered (AnswerOf.refused 13 z carried) e in
      let A = B.outer in
      let I = late_inside (inside_prelude A.setting.rules A.before (A.after, A.next) A.low A.resolves) (A.setting ∷ []) (A.usual, tt) m (length before_it) z carried B.answers in
      let w : (x : ℕ × ℕ) → walked I.use_there.head I.use_there.operand ≡ some x → walked_at I.tree I.where_it_is ≡ some x =
      λ x e. sym (walked_inside_lem (seat A.before) (Readings.root A.before ∷ []) I.tree I.where_it_is)
      ∙ Agree.walked_at_lem (seat A.before) (Readings.root A.before ∷ []) I.tree I.where_it_is I.use_there x I.stands e in (
        B.rows,
        record {
          around = A;
          inside = I;
          later = λ x e.
              let L = I.later x e in
              (L.0, meant_by L.1, ap (Option.map meant_by) L.2, late_meant A.before I.tree I.where_it_is L.1 x A.low I.low (w x e) L.2 L.3);
        },
      )
