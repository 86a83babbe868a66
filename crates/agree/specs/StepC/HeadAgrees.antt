-- A field up to the scope that it may open: what is inserted before it, and its own rows.
use Rattle.std.specs.Prelude.{◌≡◌, Bool, ℕ, zero, suc, ◌+◌, ◌-◌, ◌/◌, ◌≤◌, ◌<◌, Ok, Err}
use Rattle.std.proofs.Math.Path.{refl}
use Rattle.std.proofs.Common.{sym, ap, ◌∙◌, add-zero, length-append, ne_eqb, ltb-true}
use Rattle.std.proofs.Math.Bool.{true, false}
use mathlib.Core.List.{List, [], ◌∷◌, ◌++◌, append-nil}
use native.Mathlib.Omega.{arith}
use Rattle.std.proofs.Math.Dec.{ltb}
use Rattle.std.proofs.Math.ListN.{length}
use Rattle.kit.specs.Pick.{pick}
use Rattle.kit.specs.Out.{◌&◌}
use Rattle.rules.specs.Tools.{when◌then◌else◌}
use Rattle.rules.specs.Rows.{Row, Field}
use Rattle.rules.specs.Tree.{Declaration, Operand, Head, with_operands, decl_rows, operand_row, operand_rows, export_rows, head_rows}
use Rattle.rules.specs.Shapes.{here_only}
use Rattle.rules.specs.Rules.{table_of, Outside, opened, Result, refused, ok, ◌>>=◌, Env, fresh, Expanded, as_it_is, expand_operands, expand_head, heads_decls, resolve_inserted, resolve_head}
use Rattle.rules.specs.Laws.Meaning.Names.{LowHead}
use Rattle.rules.specs.Laws.Results.{ok_same, bind_inv}
use Rattle.rows.specs.RowAt.{taken}
use Rattle.names.specs.Table.{Slot, name_of, past_of, scope_at, innermost_t}
use Rattle.names.specs.Stands.{Opens, Envs}
use Rattle.plan.specs.Views.{field_code}
use Rattle.plan.specs.Insertions.{field_code_t}
use Rattle.write.specs.declared.alias.WriteState.{WriteState}
use Rattle.write.specs.WriteState.{unseen_t, Wrote, wrote_then}
use Rattle.write.specs.Alias.{slot_at}
use Rattle.write.specs.Own.{Wrote₂}
use Rattle.walk.specs.Scopes.{write_inserted_t, write_fresh_t, write_head_t}
use Rattle.agree.specs.Rows.At.{Is, At, put_all}
use Rattle.agree.specs.Rows.AtLaws.{at_head, at_right, at_tail}
use Rattle.agree.specs.Tables.Slots.{inserted_slots, decl_slots, if_ok, operands_slots, head_slots}
use Rattle.agree.specs.Tables.SlotLaws.{inserted_length, decl_rows_length, operands_fresh, first_fresh}
use Rattle.agree.specs.StepC.WriteAgrees.{heads_rows}
use Rattle.agree.specs.Tables.Cursor.{Left, left_past, Under, Apart, apart_append, decls_apart}
use Rattle.agree.specs.Tables.Earlier.{Earlier, Timed, InTime}
use Rattle.agree.specs.Refusals.Answers.{Says, says_map}
use Rattle.agree.specs.StepC.ChainAgrees.{moved_on}
use Rattle.agree.specs.StepC.RefAgrees.{Inserted}
use Rattle.agree.specs.StepC.AliasAgrees.{FitOperands, AllSkip, Stops, operands_made, aliases_skip, aliases_agree}
use Rattle.agree.specs.StepC.NumberAgrees.{NoPaths, here_go, expand_go}
use Rattle.agree.specs.StepC.OwnAgrees.{Owned, owned_more, head_tail, head_size, own_agrees}

-- what the shapes give of a field: the operands are fit, and those that are looked up in their own scope only have no PATHs
pub record FitHead (h : Head) : Type 0 where
  pub fit : FitOperands h.operands
  pub no_paths : here_only h.code ≡ true → NoPaths h.operands

-- a step, and then one that has the table of entered names too
says_into : {A B : Type 0} (r : Result A) (f : A → Result B) (P : A → Wrote → Type 0) (Q : B → Wrote₂ → Type 0) (w : Wrote) (g : WriteState → List ℕ → Wrote₂) (entered : List Slot)
    → Says r P w → ((a : A) → r ≡ ok a → P a w → Says (f a) Q (wrote_then w g λ why out. Err why & entered & out)) → Says (r >>= f) Q (wrote_then w g λ why out. Err why & entered & out)
unfolding ◌>>=◌ wrote_then
says_into (refused n z) f P Q w g entered h k = (entered & h.0, rw h.1)
says_into (ok a) f P Q w g entered h k = k a refl h

decls_skip : (ds : List Declaration) → AllSkip (decl_rows ds)
unfolding decl_rows
decls_skip [] = tt
decls_skip (d ∷ ds) = (tt, decls_skip ds)

-- there are as many slots as inserted fields
pub slots_inserted : (here : List Declaration) (outside : Outside) (os : List Operand) (before : List Declaration) (k row : ℕ) (E : Expanded (List Operand)) → expand_operands here outside k os ≡ ok E → length (operands_slots here outside before k row os) ≡ length E.inserted
unfolding expand_operands operands_slots as_it_is if_ok
slots_inserted here outside [] before k row E q = rw (← ok_same _ E q)
slots_inserted here outside (o ∷ os) before k row E q =
    let c = operands_made here outside k o os E q in
    let ih = slots_inserted here outside os (before ++ heads_decls c.0.inserted) c.0.k (row + length (operand_row o)) c.1 c.3 in
    rw (← c.4, c.2)
    (length-append (inserted_slots before row c.0.inserted) _ ∙ rw (ih, inserted_length before row c.0.inserted) (sym (length-append c.0.inserted c.1.inserted)))

-- no slot, no field
none_inserted : (hs : List Head) → length hs ≡ 0 → hs ≡ []
none_inserted [] e = refl
none_inserted (h ∷ hs) e = absurd (omega arith)

-- nothing written, and no slot passed
nothing_done : (s : WriteState) (out : List ℕ) (w : Wrote) → Inserted s out 0 [] w → w ≡ (Ok s & out)
unfolding heads_rows put_all
nothing_done s out w I =
    let e = I.wrote in
    let t : I.to ≡ s.to = cc in
    let a : I.after ≡ out = cc in
    I.is ∙ rw (t, a, add-zero s.next)

-- where no case is seen, none is to be forgotten
unseen_same : (s : WriteState) → s.seen ≡ 0 → unseen_t s ≡ s
unseen_same s h =
    ap (λ (n : ℕ). record { at = s.at; to = s.to; used = s.used; fresh = s.fresh; depth = s.depth; next = s.next; alias = s.alias; seen = n; before = s.before; early = s.early }) (sym h)

pick_same : {A : Type 0} (b : Bool) (x y : A) → (b ≡ true → y ≡ x) → pick b x y ≡ y
unfolding pick
pick_same true x y h = sym (h refl)
pick_same false x y h = refl

-- the innermost of the open scopes
pub innermost_is : (scopes : List (List ℕ)) (depth : ℕ) → innermost_t scopes (suc depth) ≡ scope_at scopes depth
unfolding innermost_t pick
innermost_is scopes depth =
    let e : suc depth - 1 ≡ depth = omega arith in
    rw (ne_eqb (suc depth) 0 (omega arith), e)

pub innermost : (names : List Slot) (scopes : List (List ℕ)) (depth : ℕ) (env : Env) (outside : Outside) → Envs names scopes depth (opened env outside) → Opens names (innermost_t scopes depth) env
unfolding Envs
innermost names scopes zero env outside en = absurd en
innermost names scopes (suc depth) env outside en =
    rw (innermost_is scopes depth) (record { name = en.0.name; order = en.0.order; room = en.0.room; stands = en.0.stands; rows = en.0.rows })

-- and how far it has come
innermost_come : (names : List Slot) (scopes : List (List ℕ)) (depth far : ℕ) (early : Bool) (env : Env) (outside : Outside) → Envs names scopes depth (opened env outside)
    → Timed outside.early early names scopes far depth (opened env outside) → InTime outside early names (innermost_t scopes depth) far
unfolding Envs Earlier
innermost_come names scopes zero far early env outside en timed = absurd en
innermost_come names scopes (suc depth) far early env outside en timed = rw (innermost_is scopes depth) (record { same = timed.same; come = λ t. (timed.around t).0 })

-- what step B makes of a field
pub head_made : (here : List Declaration) (outside : Outside) (k : ℕ) (h : Head) (e : Expanded Head) → expand_head here outside k h ≡ ok e → here_only h.code ≡ false
    → (E : Expanded (List Operand)) × (expand_operands here outside k h.operands ≡ ok E) × (record { inserted = E.inserted; rows = E.rows; now = with_operands h E.now; k = E.k } ≡ e)
unfolding expand_head when◌then◌else◌
head_made here outside k h e q f =
    let b = bind_inv (expand_operands here outside k h.operands) _ e (rw f at q) in
    (b.0, b.1, ok_same _ e b.2)

pub here_made : (here : List Declaration) (outside : Outside) (k : ℕ) (h : Head) (e : Expanded Head) → expand_head here outside k h ≡ ok e → here_only h.code ≡ true → as_it_is h k ≡ e
unfolding expand_head when◌then◌else◌
here_made here outside k h e q f = ok_same _ e (rw f at q)

-- what step C makes of a field and of what was inserted before it
unfoldable pub head_says : Env → Outside → Expanded Head → Result (List Head × Head)
head_says env outside e = resolve_inserted env outside e.inserted >>= λ new. resolve_head env outside e.now >>= λ h'. ok (new, h')

-- its rows are written, behind those of what was inserted, and the slots are passed
abbrev pub Asked : (h : Head) (s : WriteState) (entered : List Slot) (out : List ℕ) (n : ℕ) → List Head × Head → Wrote₂ → Type 0
Asked h s entered out n p w = Owned s entered out (s.at + length (head_rows h)) (s.next + n + length h.decls) (heads_rows p.0 ++ head_rows p.1) w

module _ (env : Env) (outside : Outside) (here₀ : List Declaration) (h : Head) (field : List ℕ) (names : List Slot) (scopes : List (List ℕ)) (tail : List Row) (stops : Stops tail)
    (all : At field 0 (head_rows h ++ tail)) (whole : length field / 16 ≡ length (head_rows h ++ tail)) (fits : FitHead h) where
  code_of_lem : field_code_t field ≡ h.code
  unfolding field_code_t field_code taken
  code_of_lem =
      let r : Is field 0 (Field h.code h.builtin h.z) = at_head field 0 _ _ (rw (head_tail h tail) at all) in
      rw r.reads

  -- nothing is inserted before a field whose operands are here-only
  here_none : (s : WriteState) (out : List ℕ) → here_only h.code ≡ true → write_fresh_t field names (innermost_t scopes s.depth) out s ≡ (Ok s & out)
  unfolding write_fresh_t write_inserted_t pick
  here_none s out q = rw (code_of_lem, q) (pick_same (ltb (name_of (slot_at names s.next)) 2147483648) (Ok s & out) (Ok s & out) (λ e. refl))

  here_agrees : (s : WriteState) (entered : List Slot) (out : List ℕ) (k : ℕ) (before : List Declaration) (dr : ℕ) (rest : List Slot)
      → here_only h.code ≡ true → Left names (past_of (innermost_t scopes s.depth)) s.next (decl_slots before (s.at + 1) h.decls ++ rest)
      → ((r : ℕ) → s.at ≤ r → r < s.at + length (head_rows h) → Apart r rest)
      → Timed outside.early s.early names scopes s.before s.depth (opened env outside) → (s.early ≡ true → LowHead h) → Envs names scopes s.depth (opened env outside) → s.depth < 4294967296 → s.alias ≡ s.next → s.seen ≡ 0 → length (head_rows h) ≤ length entered → s.at + length (head_rows h) < 4294967296
      → Says (head_says env outside (as_it_is h k)) (Asked h s entered out 0) (write_head_t field entered names scopes out s)
  unfolding head_says as_it_is resolve_inserted ◌>>=◌ write_head_t wrote_then heads_rows with_operands
  here_agrees s entered out k before dr rest q l a timed low en d al sn few bound =
      let z = head_size h in
      let dl = decl_rows_length h.decls in
      rw (here_none s out q, unseen_same s sn, whole)
      (says_map (resolve_head env outside h) (λ h'. ([], h')) _ _ _
      (own_agrees env outside h h.operands field names scopes tail stops all s entered out (past_of (innermost_t scopes s.depth)) (decl_slots before (s.at + 1) h.decls ++ rest) rest before (s.at + 1)
      (here_go env names (innermost_t scopes s.depth) (innermost names scopes s.depth env outside en) h.operands (s.at + 1 + length h.decls) (decl_slots before (s.at + 1) h.decls ++ rest) (fits.no_paths q)
      (λ r g g'. apart_append r (decl_slots before (s.at + 1) h.decls) rest (decls_apart r before (s.at + 1) h.decls (omega arith)) (a r (omega arith) (omega arith))))
      (rw al l) l fits.fit timed (λ t. (low t).operands) en d sn few bound)
      (λ h' o. rw (add-zero s.next) o))

  -- the rows after the FIELD
  abbrev behind : List Row
  behind = operand_rows h.operands ++ (export_rows h.export ++ tail)

  -- what step B inserted before a field whose operands are looked up outward too
  inserted_says : (s : WriteState) (out : List ℕ) (k : ℕ) (before after : List Declaration) (rest : List Slot) (E : Expanded (List Operand))
      → here_only h.code ≡ false → expand_operands here₀ outside k h.operands ≡ ok E
      → Left names (past_of (innermost_t scopes s.depth)) s.next (operands_slots here₀ outside before k (s.at + 1 + length h.decls) h.operands ++ rest)
      → ((r : ℕ) → s.at + 1 + length h.decls ≤ r → r < s.at + 1 + length h.decls + length (operand_rows h.operands) → Apart r rest)
      → table_of env ≡ before ++ (heads_decls E.inserted ++ after) → Under (fresh k) before
      → Timed outside.early s.early names scopes s.before s.depth (opened env outside) → (s.early ≡ true → LowHead h) → Envs names scopes s.depth (opened env outside) → s.at + length (head_rows h) < 4294967296
      → Says (resolve_inserted env outside E.inserted) (λ hs w. Inserted s out (length E.inserted) hs w) (write_inserted_t field names (innermost_t scopes s.depth) out s)
  unfolding write_inserted_t pick
  inserted_says s out k before after rest E q x l apart ds u timed low en bound =
      let here = innermost_t scopes s.depth in
      let opens = innermost names scopes s.depth env outside en in
      let z = head_size h in
      let dl = decl_rows_length h.decls in
      let all' : At field 1 (decl_rows h.decls ++ behind) = at_tail field 0 _ _ (rw (head_tail h tail) at all) in
      let after' : length (head_rows h ++ tail) - 1 ≡ length (decl_rows h.decls ++ behind) = rw (head_tail h tail) (omega arith) in
      let b : At field (1 + length h.decls) behind = rw dl at (at_right field 1 (decl_rows h.decls) behind all') in
      let i : s.at + (1 + length h.decls) ≡ s.at + 1 + length h.decls = omega arith in
      rw (code_of_lem, q, whole, after', aliases_skip env outside here₀ field names here opens (decl_rows h.decls) behind 1 s.at out s (decls_skip h.decls) all', dl)
      (aliases_agree env outside here₀ field names here opens h.operands h.export tail k (1 + length h.decls) s.at (s.at + 1 + length h.decls) out s before after rest E (innermost_come names scopes s.depth s.before s.early env outside en timed) (λ t. (low t).operands) fits.fit stops b x i (omega arith) l apart ds u)

  -- where the next slot has no fresh name, that is nothing
  fresh_says : (s : WriteState) (out : List ℕ) (k : ℕ) (before after : List Declaration) (rest : List Slot) (E : Expanded (List Operand))
      → here_only h.code ≡ false → expand_operands here₀ outside k h.operands ≡ ok E
      → Left names (past_of (innermost_t scopes s.depth)) s.next (operands_slots here₀ outside before k (s.at + 1 + length h.decls) h.operands ++ rest)
      → ((r : ℕ) → s.at + 1 + length h.decls ≤ r → r < s.at + 1 + length h.decls + length (operand_rows h.operands) → Apart r rest)
      → table_of env ≡ before ++ (heads_decls E.inserted ++ after) → Under (fresh k) before
      → Timed outside.early s.early names scopes s.before s.depth (opened env outside) → (s.early ≡ true → LowHead h) → Envs names scopes s.depth (opened env outside) → s.at + length (head_rows h) < 4294967296
      → Says (resolve_inserted env outside E.inserted) (λ hs w. Inserted s out (length E.inserted) hs w) (write_fresh_t field names (innermost_t scopes s.depth) out s)
  unfolding write_fresh_t resolve_inserted
  fresh_says s out k before after rest E q x l apart ds u timed low en bound =
      let here = innermost_t scopes s.depth in
      let I = inserted_says s out k before after rest E q x l apart ds u timed low en bound in
      let row = s.at + 1 + length h.decls in
      let none : name_of (slot_at names s.next) < 2147483648 → E.inserted ≡ [] =
      λ g. none_inserted E.inserted (sym (slots_inserted here₀ outside h.operands before k row E x) ∙ first_fresh names (past_of here) s.next (operands_slots here₀ outside before k row h.operands) rest l (operands_fresh here₀ outside before k row h.operands) g) in
      let short : ltb (name_of (slot_at names s.next)) 2147483648 ≡ true → write_inserted_t field names here out s ≡ (Ok s & out) =
      λ t. nothing_done s out (write_inserted_t field names here out s) (rw (none (ltb-true _ _ t)) at I) in
      rw (pick_same (ltb (name_of (slot_at names s.next)) 2147483648) (Ok s & out) (write_inserted_t field names here out s) short) I

  expand_agrees : (s : WriteState) (entered : List Slot) (out : List ℕ) (k : ℕ) (before after : List Declaration) (rest : List Slot) (E : Expanded (List Operand))
      → here_only h.code ≡ false → expand_operands here₀ outside k h.operands ≡ ok E
      → Left names (past_of (innermost_t scopes s.depth)) s.next (operands_slots here₀ outside before k (s.at + 1 + length h.decls) h.operands ++ (decl_slots (before ++ heads_decls E.inserted) (s.at + 1) h.decls ++ rest))
      → ((r : ℕ) → s.at ≤ r → r < s.at + length (head_rows h) → Apart r rest)
      → table_of env ≡ before ++ (heads_decls E.inserted ++ (h.decls ++ after)) → Under (fresh k) before
      → Timed outside.early s.early names scopes s.before s.depth (opened env outside) → (s.early ≡ true → LowHead h) → Envs names scopes s.depth (opened env outside) → s.depth < 4294967296 → s.alias ≡ s.next → s.seen ≡ 0 → length (head_rows h) ≤ length entered → s.at + length (head_rows h) < 4294967296
      → Says (head_says env outside (record { inserted = E.inserted; rows = E.rows; now = with_operands h E.now; k = E.k })) (Asked h s entered out (length E.inserted)) (write_head_t field entered names scopes out s)
  unfolding head_says write_head_t wrote_then
  expand_agrees s entered out k before after rest E q x l a ds u timed low en d al sn few bound =
      let here = innermost_t scopes s.depth in
      let opens = innermost names scopes s.depth env outside en in
      let z = head_size h in
      let dl = decl_rows_length h.decls in
      let mine = decl_slots (before ++ heads_decls E.inserted) (s.at + 1) h.decls in
      let apart : (r : ℕ) → s.at + 1 + length h.decls ≤ r → r < s.at + 1 + length h.decls + length (operand_rows h.operands) → Apart r (mine ++ rest) =
      λ r g g'. apart_append r mine rest (decls_apart r (before ++ heads_decls E.inserted) (s.at + 1) h.decls (omega arith)) (a r (omega arith) (omega arith)) in
      let past : Left names (past_of here) (s.next + length E.inserted) (mine ++ rest) = rw (slots_inserted here₀ outside h.operands before k (s.at + 1 + length h.decls) E x) at (left_past names (past_of here) s.next (operands_slots here₀ outside before k (s.at + 1 + length h.decls) h.operands) (mine ++ rest) l) in
      rw whole
      (says_into (resolve_inserted env outside E.inserted) (λ new. resolve_head env outside (with_operands h E.now) >>= λ h'. ok (new, h')) _ _ _ _ entered
      (fresh_says s out k before (h.decls ++ after) (mine ++ rest) E q x l apart ds u timed low en bound)
      (λ new ok-new I. rw (I.is, unseen_same (moved_on s I.to (s.next + length E.inserted)) sn)
      (says_map (resolve_head env outside (with_operands h E.now)) (λ h'. (new, h')) _ _ _
      (own_agrees env outside h E.now field names scopes tail stops all (moved_on s I.to (s.next + length E.inserted)) entered I.after (past_of here)
      (operands_slots here₀ outside before k (s.at + 1 + length h.decls) h.operands ++ (mine ++ rest)) rest (before ++ heads_decls E.inserted) (s.at + 1)
      (expand_go env names here opens here₀ outside h.operands k (s.at + 1 + length h.decls) before (h.decls ++ after) (mine ++ rest) E fits.fit x apart ds u)
      (rw al l) past fits.fit timed (λ t. (low t).operands) en d sn few bound)
      (λ h' O. owned_more s entered entered out I.after _ _ I.to (s.next + length E.inserted) s.alias s.seen (heads_rows new) (head_rows h') _ I.wrote refl O))))

  -- what is inserted before the field, and its own rows: as the rules say, or the same refusal
  pub head_agrees : (s : WriteState) (entered : List Slot) (out : List ℕ) (k : ℕ) (before after : List Declaration) (rest : List Slot) (e : Expanded Head) → expand_head here₀ outside k h ≡ ok e
      → Left names (past_of (innermost_t scopes s.depth)) s.next (head_slots here₀ outside before k s.at h ++ (decl_slots (before ++ heads_decls e.inserted) (s.at + 1) h.decls ++ rest))
      → ((r : ℕ) → s.at ≤ r → r < s.at + length (head_rows h) → Apart r rest)
      → table_of env ≡ before ++ (heads_decls e.inserted ++ (h.decls ++ after)) → Under (fresh k) before
      → Timed outside.early s.early names scopes s.before s.depth (opened env outside) → (s.early ≡ true → LowHead h) → Envs names scopes s.depth (opened env outside) → s.depth < 4294967296 → s.alias ≡ s.next → s.seen ≡ 0 → length (head_rows h) ≤ length entered → s.at + length (head_rows h) < 4294967296
      → Says (head_says env outside e) (Asked h s entered out (length e.inserted)) (write_head_t field entered names scopes out s)
  head_agrees s entered out k before after rest e x l a ds u timed low en d al sn few bound = go (here_only h.code) refl
    where
      go : (t : Bool) → here_only h.code ≡ t → Says (head_says env outside e) (Asked h s entered out (length e.inserted)) (write_head_t field entered names scopes out s)
      go true q =
          let m = here_made here₀ outside k h e x q in
          unfold as_it_is heads_decls head_slots when◌then◌else◌ in rw (← m) (here_agrees s entered out k before (s.at + 1) rest q (rw (append-nil before) at (rw (← m, q) at l)) a timed low en d al sn few bound)
      go false q =
          let m = head_made here₀ outside k h e x q in
          unfold head_slots when◌then◌else◌ in rw (← m.2) (expand_agrees s entered out k before after rest m.0 q m.1 (rw (← m.2, q) at l) a (rw (← m.2) at ds) u timed low en d al sn few bound)
