-- What is inserted before a field for all its operands: the code writes what the rules make of them.
use Rattle.std.specs.Prelude.{◌≡◌, true, Ok, Err}
use Rattle.std.proofs.Math.Path.{refl, sym}
use Rattle.std.proofs.Common.{ap, ◌∙◌}
use Rattle.std.proofs.Math.Option.{Option, none, some}
use mathlib.Core.List.{List, [], ◌∷◌, ◌++◌, append_assoc, map}
use native.Mathlib.Omega.{arith}
use Rattle.std.proofs.Math.Nat.{add-zero}
use Prim.Native.Nat.{ℕ, suc, ◌+◌, ◌≤◌, ◌<◌}
use Rattle.std.proofs.Math.ListN.{length, length-append}
use Rattle.kit.specs.Out.{◌&◌}
use Rattle.rules.specs.Rows.{Row, Field, Decl, Ref, Path, Outer, Case, Open, Close, Export}
use Rattle.rules.specs.Tree.{Declaration, Operand, ref, outer, case, Head, path_rows, operand_row, operand_rows, export_rows}
use Rattle.rules.specs.Rules.{table_of, Outside, in_time, late_instance, Result, refused, ok, ◌>>=◌, Env, fresh, Expanded, as_it_is, expand_operand, expand_operands, heads_decls, resolve_inserted, resolve_head}
use Rattle.rules.specs.Laws.Results.{ok_same, bind_inv, holds_of}
use Rattle.rules.specs.Laws.Meaning.Names.{LowOperand, LowOperands}
use Rattle.rules.proofs.Laws.Meaning.Runs.{AllNew, operand_grown}
use Rattle.rows.specs.RowAt.{taken}
use Rattle.names.specs.Table.{Slot, past_of}
use Rattle.names.specs.Stands.{Opens}
use Rattle.plan.specs.Views.{if_ref}
use Rattle.plan.specs.Enter.{row_number}
use Rattle.write.specs.declared.alias.WriteState.{WriteState}
use Rattle.write.specs.WriteState.{Wrote, wrote_then, stops}
use Rattle.write.specs.Alias.{write_alias_t, write_aliases_t}
use Rattle.agree.specs.Rows.At.{At, put_all}
use Rattle.agree.specs.Rows.AtLaws.{at_left, at_right, row_number_lem}
use Rattle.agree.specs.Tables.Slots.{inserted_slots, if_ok, operands_slots}
use Rattle.agree.specs.Tables.SlotLaws.{inserted_length}
use Rattle.agree.specs.StepC.WriteAgrees.{heads_rows, put_then_lem}
use Rattle.agree.specs.Tables.Cursor.{Left, left_past, Under, under_more, under_append, Apart, apart_append, operands_apart}
use Rattle.agree.specs.Tables.Earlier.{InTime}
use Rattle.agree.specs.Refusals.Answers.{Says, says_then, says_map}
use Rattle.agree.specs.StepC.ChainAgrees.{moved_on}
use Rattle.agree.specs.StepC.RefAgrees.{Inserted, inserted_none, refer_to, ref_agrees}

-- what the shapes give of an operand: a space of one byte, and at most one PATH to a core space
abbrev pub FitOperand : Operand → Type 0
FitOperand (ref space at paths z) = (space < 256) × (1 < length paths → 7 ≤ space)
FitOperand (outer space up at z) = Unit {0}
FitOperand (case name z) = Unit {0}

abbrev pub FitOperands : List Operand → Type 0
FitOperands [] = Unit {0}
FitOperands (o ∷ os) = FitOperand o × FitOperands os

-- ---- rows that are passed over

abbrev pub Skips : Row → Type 0
Skips (Field code builtin z) = Unit {0}
Skips (Decl space name z) = Unit {0}
Skips (Ref space at paths z) = ⊥
Skips (Path name) = Unit {0}
Skips (Outer space up at z) = Unit {0}
Skips (Case name z) = Unit {0}
Skips (Open kind name) = ⊥
Skips Close = Unit {0}
Skips (Export name) = Unit {0}

abbrev pub AllSkip : List Row → Type 0
AllSkip [] = Unit {0}
AllSkip (r ∷ rs) = Skips r × AllSkip rs

-- the field ends, or its scope begins
abbrev pub Stops : List Row → Type 0
Stops [] = Unit {0}
Stops (r ∷ rs) = (kind : ℕ) × (name : ℕ) × (r ≡ Open kind name)

skip_one : {A : Type 0} (r : Row) (f : ℕ → Rattle.rows.specs.declared.row.Index.Index → ℕ → ℕ → A) (o a : A) → Skips r → if_ref (taken (some r)) f o a ≡ a
unfolding if_ref taken
skip_one (Field code builtin z) f o a s = refl
skip_one (Decl space name z) f o a s = refl
skip_one (Ref space at paths z) f o a s = absurd s
skip_one (Path name) f o a s = refl
skip_one (Outer space up at z) f o a s = refl
skip_one (Case name z) f o a s = refl
skip_one (Open kind name) f o a s = absurd s
skip_one Close f o a s = refl
skip_one (Export name) f o a s = refl

paths_skip : (ps : List ℕ) → AllSkip (path_rows ps)
unfolding path_rows
paths_skip [] = tt
paths_skip (p ∷ ps) = (tt, paths_skip ps)

export_skips : (x : Option ℕ) → AllSkip (export_rows x)
unfolding export_rows
export_skips none = tt
export_skips (some n) = (tt, tt)

-- on with the same
wrote_same : (w : Wrote) (f g : WriteState → List ℕ → Wrote) → ((t : WriteState) (out : List ℕ) → f t out ≡ g t out) → wrote_then w f stops ≡ wrote_then w g stops
unfolding wrote_then
wrote_same (Ok t & out) f g h = h t out
wrote_same (Err why & out) f g h = refl

-- what is inserted for two lists of fields
pub inserted_append : (env : Env) (outside : Outside) (xs ys : List Head) → resolve_inserted env outside (xs ++ ys) ≡ (resolve_inserted env outside xs >>= λ xs'. resolve_inserted env outside ys >>= λ ys'. ok (xs' ++ ys'))
unfolding resolve_inserted ◌>>=◌
inserted_append env outside [] ys = go (resolve_inserted env outside ys)
  where
    go : (r : Result (List Head)) → r ≡ (r >>= λ ys'. ok ys')
    go (refused n z) = unfold ◌>>=◌ in refl
    go (ok hs) = unfold ◌>>=◌ in refl
inserted_append env outside (x ∷ xs) ys = rw (inserted_append env outside xs ys) (go (in_time (late_instance env outside x.operands) x.z) (resolve_head env outside x) (resolve_inserted env outside xs) (resolve_inserted env outside ys))
  where
    go : (u : Result (Unit {0})) (a : Result Head) (b c : Result (List Head))
        → (u >>= λ t. a >>= λ h. (b >>= λ xs'. c >>= λ ys'. ok (xs' ++ ys')) >>= λ hs. ok (h ∷ hs)) ≡ ((u >>= λ t. a >>= λ h. b >>= λ hs. ok (h ∷ hs)) >>= λ xs'. c >>= λ ys'. ok (xs' ++ ys'))
    go (refused n z) a b c = unfold ◌>>=◌ in refl
    go (ok t) (refused n z) b c = unfold ◌>>=◌ in refl
    go (ok t) (ok h) (refused n z) c = unfold ◌>>=◌ in refl
    go (ok t) (ok h) (ok xs') (refused n z) = unfold ◌>>=◌ in refl
    go (ok t) (ok h) (ok xs') (ok ys') = unfold ◌>>=◌ in refl

pub heads_append : (xs ys : List Head) → heads_decls (xs ++ ys) ≡ heads_decls xs ++ heads_decls ys
unfolding heads_decls
heads_append [] ys = refl
heads_append (x ∷ xs) ys = rw (heads_append xs ys, append_assoc)

pub rows_append : (xs ys : List Head) → heads_rows (xs ++ ys) ≡ heads_rows xs ++ heads_rows ys
unfolding heads_rows
rows_append [] ys = refl
rows_append (x ∷ xs) ys = rw (rows_append xs ys, append_assoc)

-- what is inserted first, and then
inserted_both : (s : WriteState) (out : List ℕ) (n m : ℕ) (xs ys : List Head) (v w : Wrote) (I : Inserted s out n xs v) → Inserted (moved_on s I.to (s.next + n)) I.after m ys w → Inserted s out (n + m) (xs ++ ys) w
inserted_both s out n m xs ys v w I J =
    let e : s.next + n + m ≡ s.next + (n + m) = omega arith in
    record { to = J.to; after = J.after; is = J.is ∙ rw e; wrote = J.wrote ∙ sym (ap (put_all out s.to) (rows_append xs ys) ∙ put_then_lem out s.to (heads_rows xs) (heads_rows ys) I.to I.after I.wrote) }

-- what step B makes of an operand and of those after it
pub operands_made : (here : List Declaration) (outside : Outside) (k : ℕ) (o : Operand) (os : List Operand) (E : Expanded (List Operand)) → expand_operands here outside k (o ∷ os) ≡ ok E
    → (e : Expanded Operand) × (es : Expanded (List Operand)) × (expand_operand here outside k o ≡ ok e) × (expand_operands here outside e.k os ≡ ok es) × (record { inserted = e.inserted ++ es.inserted; rows = e.rows ++ map (λ (n : ℕ). length (operand_row o) + n) es.rows; now = e.now ∷ es.now; k = es.k } ≡ E)
unfolding expand_operands
operands_made here outside k o os E q =
    let b₁ = bind_inv (expand_operand here outside k o) _ E q in
    let b₂ = bind_inv (expand_operands here outside b₁.0.k os) _ E b₁.2 in
    (b₁.0, b₂.0, b₁.1, b₂.1, ok_same _ E b₂.2)

new_under : (lo hi : ℕ) (hs : List Head) → AllNew lo hi hs → Under (fresh hi) (heads_decls hs)
unfolding heads_decls fresh
new_under lo hi [] n = tt
new_under lo hi (h ∷ hs) n = rw n.0.alone (rw n.0.named (omega arith), new_under lo hi hs n.1)

-- the names of what was inserted lie below the next
pub grown_under : (k k' : ℕ) (before : List Declaration) (hs : List Head) → k ≤ k' → AllNew k k' hs → Under (fresh k) before → Under (fresh k') (before ++ heads_decls hs)
grown_under k k' before hs l n u = under_append (fresh k') before (heads_decls hs) (under_more (fresh k) (fresh k') before (unfold fresh in omega arith) u) (new_under k k' hs n)

pub operand_some : (o : Operand) → 0 < length (operand_row o)
unfolding operand_row
operand_some (ref space at paths z) = omega arith
operand_some (outer space up at z) = omega arith
operand_some (case name z) = omega arith

module _ (env : Env) (outside : Outside) (here₀ : List Declaration) (field : List ℕ) (names : List Slot) (here : List ℕ) (opens : Opens names here env) where
  pub aliases_skip : (xs ys : List Row) (i row : ℕ) (out : List ℕ) (s : WriteState) → AllSkip xs → At field i (xs ++ ys)
      → write_aliases_t field names here out s row i (length (xs ++ ys)) ≡ write_aliases_t field names here out s row (i + length xs) (length ys)
  unfolding write_aliases_t At
  aliases_skip [] ys i row out s a at = rw add-zero
  aliases_skip (x ∷ xs) ys i row out s a at =
      let e : i + 1 + length xs ≡ i + suc (length xs) = omega arith in
      rw (at.0.reads, ← e) (skip_one x _ _ _ a.0 ∙ aliases_skip xs ys (i + 1) row out s a.1 at.1)

  aliases_end : (tail : List Row) (i row : ℕ) (out : List ℕ) (s : WriteState) → Stops tail → At field i tail → write_aliases_t field names here out s row i (length tail) ≡ (Ok s & out)
  unfolding write_aliases_t At if_ref taken
  aliases_end [] i row out s st at = refl
  aliases_end (r ∷ tail) i row out s st at = rw (at.0.reads, st.2)

  -- what the code does at an operand
  abbrev alias_of : (i row : ℕ) (out : List ℕ) → WriteState → Operand → Wrote
  alias_of i row out s (ref space at paths z) = write_alias_t field (i + 1) names here out s (refer_to space at paths z row)
  alias_of i row out s (outer space up at z) = Ok s & out
  alias_of i row out s (case name z) = Ok s & out

  aliases_turn : (o : Operand) (more : List Row) (i row row' : ℕ) (out : List ℕ) (s : WriteState) → row_number row i ≡ row' → At field i (operand_row o ++ more)
      → write_aliases_t field names here out s row i (length (operand_row o ++ more))
      ≡ wrote_then (alias_of i row' out s o) (λ t out'. write_aliases_t field names here out' t row (i + length (operand_row o)) (length more)) stops
  unfolding write_aliases_t At if_ref taken operand_row wrote_then
  aliases_turn (ref space at paths z) more i row row' out s e rows =
      let q : i + 1 + length (path_rows paths) ≡ i + suc (length (path_rows paths)) = omega arith in
      rw (rows.0.reads, e, ← q) (wrote_same (write_alias_t field (i + 1) names here out s (refer_to space at paths z row')) _ _ (λ t out'. aliases_skip (path_rows paths) more (i + 1) row out' t (paths_skip paths) rows.1))
  aliases_turn (outer space up at z) more i row row' out s e rows = rw rows.0.reads
  aliases_turn (case name z) more i row row' out s e rows = rw rows.0.reads

  aliases_more : (o : Operand) (more : List Row) (i row row' : ℕ) (out : List ℕ) (s : WriteState) (e : Expanded Operand) (es : Expanded (List Operand)) → row_number row i ≡ row' → At field i (operand_row o ++ more)
      → Says (resolve_inserted env outside e.inserted) (λ hs w. Inserted s out (length e.inserted) hs w) (alias_of i row' out s o)
      → ((to : ℕ) (out' : List ℕ) → Says (resolve_inserted env outside es.inserted) (λ hs w. Inserted (moved_on s to (s.next + length e.inserted)) out' (length es.inserted) hs w) (write_aliases_t field names here out' (moved_on s to (s.next + length e.inserted)) row (i + length (operand_row o)) (length more)))
      → Says (resolve_inserted env outside (e.inserted ++ es.inserted)) (λ hs w. Inserted s out (length (e.inserted ++ es.inserted)) hs w) (write_aliases_t field names here out s row i (length (operand_row o ++ more)))
  unfolding wrote_then
  aliases_more o more i row row' out s e es er rows first then =
      rw (inserted_append env outside e.inserted es.inserted, aliases_turn o more i row row' out s er rows, length-append e.inserted es.inserted)
      (says_then (resolve_inserted env outside e.inserted) (λ xs. resolve_inserted env outside es.inserted >>= λ ys. ok (xs ++ ys)) _ _ (alias_of i row' out s o) _ first (λ xs ok-xs I.
      rw I.is (says_map (resolve_inserted env outside es.inserted) (λ ys. xs ++ ys) _ _ _ (then I.to I.after) (λ ys J. inserted_both s out _ _ xs ys _ _ I J))))

  operand_agrees : (o : Operand) (more : List Row) (k i row : ℕ) (out : List ℕ) (s : WriteState) (before after : List Declaration) (rest : List Slot) (e : Expanded Operand)
      → InTime outside s.early names here s.before → (s.early ≡ true → LowOperand o) → FitOperand o → At field i (operand_row o ++ more) → expand_operand here₀ outside k o ≡ ok e
      → Left names (past_of here) s.next (inserted_slots before row e.inserted ++ rest) → Apart row rest
      → table_of env ≡ before ++ (heads_decls e.inserted ++ after) → Under (fresh k) before
      → Says (resolve_inserted env outside e.inserted) (λ hs w. Inserted s out (length e.inserted) hs w) (alias_of i row out s o)
  unfolding At operand_row expand_operand as_it_is resolve_inserted
  operand_agrees (ref space at paths z) more k i row out s before after rest e timed low f rows q st a ds u =
      ref_agrees env outside field names here opens here₀ space at paths z k (i + 1) row out s before after rest e timed low f.0 f.1 (at_left field (i + 1) (path_rows paths) more rows.1) q st a ds u
  operand_agrees (outer space up at z) more k i row out s before after rest e timed low f rows q st a ds u = rw (← ok_same _ e q) (inserted_none s out)
  operand_agrees (case name z) more k i row out s before after rest e timed low f rows q st a ds u = rw (← ok_same _ e q) (inserted_none s out)

  -- the code inserts for the operands what the rules do, or refuses with the same
  pub aliases_agree : (os : List Operand) (x : Option ℕ) (tail : List Row) (k i row row' : ℕ) (out : List ℕ) (s : WriteState) (before after : List Declaration) (rest : List Slot) (E : Expanded (List Operand))
      → InTime outside s.early names here s.before → (s.early ≡ true → LowOperands os) → FitOperands os → Stops tail → At field i (operand_rows os ++ (export_rows x ++ tail)) → expand_operands here₀ outside k os ≡ ok E
      → row + i ≡ row' → row' + length (operand_rows os) < 4294967296
      → Left names (past_of here) s.next (operands_slots here₀ outside before k row' os ++ rest)
      → ((r : ℕ) → row' ≤ r → r < row' + length (operand_rows os) → Apart r rest)
      → table_of env ≡ before ++ (heads_decls E.inserted ++ after) → Under (fresh k) before
      → Says (resolve_inserted env outside E.inserted) (λ hs w. Inserted s out (length E.inserted) hs w) (write_aliases_t field names here out s row i (length (operand_rows os ++ (export_rows x ++ tail))))
  unfolding expand_operands operand_rows operands_slots as_it_is resolve_inserted if_ok
  aliases_agree [] x tail k i row row' out s before after rest E timed low f st rows q er lr sl a ds u =
      rw (← ok_same _ E q, aliases_skip (export_rows x) tail i row out s (export_skips x) rows, aliases_end tail (i + length (export_rows x)) row out s st (at_right field i (export_rows x) tail rows)) (inserted_none s out)
  aliases_agree (o ∷ os) x tail k i row row' out s before after rest E timed low f st rows q er lr sl a ds u =
      let more = operand_rows os ++ (export_rows x ++ tail) in
      let c = operands_made here₀ outside k o os E q in
      let e = c.0 in
      let es = c.1 in
      let rows' : At field i (operand_row o ++ more) = rw (append_assoc (operand_row o) (operand_rows os) (export_rows x ++ tail)) at rows in
      let some-row = operand_some o in
      let ln = length-append (operand_row o) (operand_rows os) in
      let g = holds_of _ _ e (operand_grown here₀ outside k o) c.2 in
      let sl' : Left names (past_of here) s.next (inserted_slots before row' e.inserted ++ (operands_slots here₀ outside (before ++ heads_decls e.inserted) e.k (row' + length (operand_row o)) os ++ rest)) = rw (c.2, append_assoc) at sl in
      let ds' : table_of env ≡ before ++ (heads_decls e.inserted ++ (heads_decls es.inserted ++ after)) = rw (← c.4, heads_append e.inserted es.inserted, append_assoc) at ds in
      let n = s.next + length e.inserted in
      let past : Left names (past_of here) n (operands_slots here₀ outside (before ++ heads_decls e.inserted) e.k (row' + length (operand_row o)) os ++ rest) =
      rw (inserted_length before row' e.inserted) at (left_past names (past_of here) s.next (inserted_slots before row' e.inserted) _ sl') in
      rw (← c.4, append_assoc (operand_row o) (operand_rows os) (export_rows x ++ tail))
      (aliases_more o more i row row' out s e es (row_number_lem row i (omega arith) ∙ er) rows'
      (operand_agrees o more k i row' out s before (heads_decls es.inserted ++ after) _ e timed (λ t. (low t).0) f.0 rows' c.2 sl'
      (apart_append row' (operands_slots here₀ outside (before ++ heads_decls e.inserted) e.k (row' + length (operand_row o)) os) rest (operands_apart here₀ outside row' (before ++ heads_decls e.inserted) e.k (row' + length (operand_row o)) os (omega arith)) (a row' (omega arith) (omega arith))) ds' u)
      (λ to out'. aliases_agree os x tail e.k (i + length (operand_row o)) row (row' + length (operand_row o)) out' (moved_on s to n) (before ++ heads_decls e.inserted) after rest es timed (λ t. (low t).1) f.1 st (at_right field i (operand_row o) more rows') c.3 (omega arith) (omega arith) past
      (λ r h h'. a r (omega arith) (omega arith)) (ds' ∙ sym (append_assoc before (heads_decls e.inserted) _)) (grown_under k e.k before e.inserted g.0 g.1 u)))
