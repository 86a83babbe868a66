-- A field's own rows: the code writes what the rules make of the field.
use Rattle.std.specs.Prelude.{◌≡◌, Bool, ◌&&◌, not, eqb, Ok, Err}
use Rattle.std.proofs.Math.Path.{refl, sym}
use Rattle.std.proofs.Common.{◌∙◌, length-set}
use Rattle.std.proofs.Math.Bool.{true, false}
use Rattle.std.proofs.Math.Option.{Option, none, some}
use mathlib.Core.List.{List, [], ◌∷◌, ◌++◌, append_assoc}
use native.Mathlib.Omega.{arith}
use Rattle.std.proofs.Math.Nat.{add-zero}
use Prim.Native.Nat.{ℕ, suc, ◌+◌, ◌%◌, ◌≤◌, ◌<◌}
use Rattle.std.proofs.Math.ListN.{length, set, length-append}
use Rattle.kit.specs.Pick.{pick}
use Rattle.kit.specs.Out.{Out, ◌&◌}
use Rattle.rules.specs.Tools.{when◌then◌else◌, is_in}
use Rattle.rules.specs.Rows.{Index, Num, Row, Field, Decl, Ref, Path, Outer, Case, Export}
use Rattle.rules.specs.Tree.{Declaration, Operand, ref, outer, case, Head, with_operands, decl_rows, path_rows, operand_row, operand_rows, export_rows, head_rows}
use Rattle.rules.specs.Rules.{number_of, carried_by, unknown, case_twice, table_of, Outside, opened, Result, refused, ok, ◌>>=◌, Env, or_refused, number_in, resolve_outer, resolve_operands, resolve_head}
use Rattle.rules.specs.Laws.Meaning.Names.{LowOperand, LowOperands}
use Rattle.rows.specs.RowAt.{taken, as_index, row_at}
use Rattle.put.specs.Put.{put_row}
use Rattle.names.specs.Table.{Slot, decl_slot, past_of, innermost_t}
use Rattle.names.specs.Stands.{Envs}
use Rattle.plan.specs.Enter.{row_number}
use Rattle.write.specs.declared.alias.WriteState.{WriteState}
use Rattle.write.specs.WriteState.{written_t, arrived_t, put_then}
use Rattle.write.specs.Own.{Wrote₂, wrote_then₂, stops₂, write_numbered_t, write_ref_t, write_outer_t, write_case_t, write_decl_t, copy_t, place_of, with_t, done_with_t, write_row_t, own_t}
use Rattle.agree.specs.Rows.At.{Is, At, put_all}
use Rattle.agree.specs.Rows.AtLaws.{at_right, at_tail, row_code, code_is, row_number_lem}
use Rattle.agree.specs.Tables.Slots.{decl_slots}
use Rattle.agree.specs.Tables.SlotLaws.{decl_rows_length}
use Rattle.agree.specs.StepC.WriteAgrees.{then_same, put_then_lem, put_one_lem, put_on, row_copied}
use Rattle.agree.specs.Tables.Cursor.{Left, left_next}
use Rattle.agree.specs.Tables.Earlier.{Timed}
use Rattle.agree.specs.Refusals.Answers.{Says, says_then₂, says_map, index_in, number_is}
use Rattle.agree.specs.StepC.RefAgrees.{refer_to}
use Rattle.agree.specs.StepC.AliasAgrees.{FitOperand, FitOperands, Stops, operand_some}
use Rattle.agree.specs.StepC.NumberAgrees.{answered, Goes, AllGo, done, goes}
use Rattle.agree.specs.StepC.OuterAgrees.{outer_row, outer_agrees}
use Rattle.agree.specs.StepC.CaseAgrees.{Cases, no_cases, case_agrees}

-- ---- one operand of the rules

module _ (env : Env) (outside : Outside) (fz : ℕ) where
  abbrev resolve_one : (seen : List ℕ) → Operand → Result Operand
  resolve_one seen (ref space at paths z) = number_in env.entries space at z >>= λ n. ok (ref space (Num n) paths z)
  resolve_one seen (outer space up at z) = resolve_outer outside.early (opened env outside) fz space up at z
  resolve_one seen (case name z) = when not (eqb name 0) && is_in name seen then refused case_twice z else ok (case name z)

  abbrev seen_after : (seen : List ℕ) → Operand → List ℕ
  seen_after seen (ref space at paths z) = seen
  seen_after seen (outer space up at z) = seen
  seen_after seen (case name z) = name ∷ seen

  one_more_lem : (seen : List ℕ) (o : Operand) (os : List Operand) → resolve_operands env outside fz seen (o ∷ os) ≡ (resolve_one seen o >>= λ x. resolve_operands env outside fz (seen_after seen o) os >>= λ xs. ok (x ∷ xs))
  unfolding resolve_operands
  one_more_lem seen (ref space at paths z) os = go (number_in env.entries space at z)
    where
      go : (r : Result ℕ) → (r >>= λ n. resolve_operands env outside fz seen os >>= λ xs. ok (ref space (Num n) paths z ∷ xs)) ≡ ((r >>= λ n. ok (ref space (Num n) paths z)) >>= λ x. resolve_operands env outside fz seen os >>= λ xs. ok (x ∷ xs))
      go (refused n p) = unfold ◌>>=◌ in refl
      go (ok n) = unfold ◌>>=◌ in refl
  one_more_lem seen (outer space up at z) os = refl
  one_more_lem seen (case name z) os = go (not (eqb name 0) && is_in name seen)
    where
      go : (t : Bool) → (when t then refused case_twice z else (resolve_operands env outside fz (name ∷ seen) os >>= λ xs. ok (case name z ∷ xs))) ≡ ((when t then refused case_twice z else ok (case name z)) >>= λ x. resolve_operands env outside fz (name ∷ seen) os >>= λ xs. ok (x ∷ xs))
      go true = unfold ◌>>=◌ when◌then◌else◌ in refl
      go false = unfold ◌>>=◌ when◌then◌else◌ in refl

-- ---- what the code has done

-- the state with some of it changed
abbrev pub own_on : WriteState → (to next alias seen : ℕ) → WriteState
own_on s to next alias seen =
    record { at = s.at; to = to; used = s.used; fresh = s.fresh; depth = s.depth; next = next; alias = alias; seen = seen; before = s.before; early = s.early }

-- the rows are written, and the code has arrived at the row `at`
pub record Owned (s : WriteState) (entered : List Slot) (out : List ℕ) (at next : ℕ) (rows : List Row) (w : Wrote₂) : Type 0 where
  pub to : ℕ
  pub alias : ℕ
  pub seen : ℕ
  pub table : List Slot
  pub after : List ℕ
  pub is : w ≡ (Ok (arrived_t (own_on s to next alias seen) at) & table & after)
  pub wrote : (to & after) ≡ put_all out s.to rows
  pub size : length table ≡ length entered

-- from what was written before
pub owned_more : (s : WriteState) (entered entered' : List Slot) (out out' : List ℕ) (at next : ℕ) (to next' alias seen : ℕ) (xs ys : List Row) (w : Wrote₂) → (to & out') ≡ put_all out s.to xs → length entered' ≡ length entered
    → Owned (own_on s to next' alias seen) entered' out' at next ys w → Owned s entered out at next (xs ++ ys) w
owned_more s entered entered' out out' at next to next' alias seen xs ys w e l o =
    record { to = o.to; alias = o.alias; seen = o.seen; table = o.table; after = o.after; is = o.is; wrote = o.wrote ∙ sym (put_then_lem out s.to xs ys to out' e); size = o.size ∙ l }

module _ (field : List ℕ) (names : List Slot) (scopes : List (List ℕ)) (row : ℕ) where
  -- a row that is no OPEN
  own_turn : (r : Row) (i left : ℕ) (entered : List Slot) (out : List ℕ) (s : WriteState) → Is field i r → eqb (row_code r) 7 ≡ false
      → own_t field entered names scopes out s row i (suc left) ≡ wrote_then₂ (write_row_t (taken (some r)) field i entered names scopes out s) (λ t entered' out'. own_t field entered' names scopes out' t row (i + 1) left) stops₂
  unfolding own_t pick
  own_turn r i left entered out s is h = rw (code_is field i r is, h, is.reads)

  -- the rows of the field have ended
  own_end : (tail : List Row) (i : ℕ) (entered : List Slot) (out : List ℕ) (s : WriteState) → Stops tail → At field i tail → own_t field entered names scopes out s row i (length tail) ≡ (Ok (arrived_t s (row_number row i)) & entered & out)
  unfolding own_t At pick
  own_end [] i entered out s st at = refl
  own_end (r ∷ tail) i entered out s st at = rw (code_is field i r at.0, st.2)

  -- PATHs are passed over
  own_paths : (ps : List ℕ) (more : List Row) (i : ℕ) (entered : List Slot) (out : List ℕ) (s : WriteState) → At field i (path_rows ps ++ more)
      → own_t field entered names scopes out s row i (length (path_rows ps ++ more)) ≡ own_t field entered names scopes out s row (i + length (path_rows ps)) (length more)
  unfolding path_rows At taken write_row_t wrote_then₂
  own_paths [] more i entered out s at = rw add-zero
  own_paths (p ∷ ps) more i entered out s at =
      let e : i + 1 + length (path_rows ps) ≡ i + suc (length (path_rows ps)) = omega arith in
      own_turn (Path p) i (length (path_rows ps ++ more)) entered out s at.0 refl ∙ (rw (← e) (own_paths ps more (i + 1) entered out s at.1))

  -- a row that is copied
  own_copy : (r : Row) (i left : ℕ) (entered : List Slot) (out : List ℕ) (s : WriteState) → Is field i r → eqb (row_code r) 7 ≡ false
      → write_row_t (taken (some r)) field i entered names scopes out s ≡ with_t entered (copy_t field i out s)
      → own_t field entered names scopes out s row i (suc left) ≡ put_then (put_all out s.to (r ∷ [])) λ to out'. own_t field entered names scopes out' (written_t s to) row (i + 1) left
  unfolding copy_t
  own_copy r i left entered out s is h e =
      own_turn r i left entered out s is h ∙ rw (e, row_copied field i r out s.to is, put_one_lem out s.to r) (go (put_row out s.to (taken (some r))))
    where
      go : (w : Out ℕ (List ℕ)) → wrote_then₂ (with_t entered (put_then w λ to out'. Ok (written_t s to) & out')) (λ t entered' out'. own_t field entered' names scopes out' t row (i + 1) left) stops₂
          ≡ put_then w λ to out'. own_t field entered names scopes out' (written_t s to) row (i + 1) left
      go (to & out') = unfold put_then with_t wrote_then₂ in refl

  own_decl : (d : Declaration) (i left to : ℕ) (entered : List Slot) (out : List ℕ) (s : WriteState) (slot : Slot) (rest : List Slot) → Is field i (Decl d.space d.name d.z) → Left names to s.next (slot ∷ rest)
      → own_t field entered names scopes out s row i (suc left) ≡ put_then (put_all out s.to (Decl d.space d.name d.z ∷ [])) λ to' out'. own_t field entered names scopes out' (own_on s to' (s.next + 1) s.alias s.seen) row (i + 1) left
  unfolding write_decl_t write_row_t taken
  own_decl d i left to entered out s slot rest is l =
      let r = Decl d.space d.name d.z in
      own_turn r i left entered out s is refl ∙ rw (row_copied field i r out s.to is, put_one_lem out s.to r, (left_next names to s.next slot rest l).follows) (go (put_row out s.to (taken (some r))))
    where
      go : (w : Out ℕ (List ℕ)) → wrote_then₂ (done_with_t entered (put_then w λ to' out'. own_on s to' (s.next + 1) s.alias s.seen & out')) (λ t entered' out'. own_t field entered' names scopes out' t row (i + 1) left) stops₂
          ≡ put_then w λ to' out'. own_t field entered names scopes out' (own_on s to' (s.next + 1) s.alias s.seen) row (i + 1) left
      go (to' & out') = unfold put_then done_with_t wrote_then₂ in refl

  -- DECLs: each is copied, and its slot is passed
  own_decls : (ds : List Declaration) (more : List Row) (i to dr : ℕ) (entered : List Slot) (out : List ℕ) (s : WriteState) (before : List Declaration) (rest : List Slot)
      → At field i (decl_rows ds ++ more) → Left names to s.next (decl_slots before dr ds ++ rest)
      → own_t field entered names scopes out s row i (length (decl_rows ds ++ more))
      ≡ put_then (put_all out s.to (decl_rows ds)) λ to' out'. own_t field entered names scopes out' (own_on s to' (s.next + length ds) s.alias s.seen) row (i + length ds) (length more)
  unfolding decl_rows decl_slots At
  own_decls [] more i to dr entered out s before rest at l = unfold put_all put_then in rw (add-zero s.next, add-zero i)
  own_decls (d ∷ ds) more i to dr entered out s before rest at l =
      let a : s.next + 1 + length ds ≡ s.next + suc (length ds) = omega arith in
      let b : i + 1 + length ds ≡ i + suc (length ds) = omega arith in
      let r = Decl d.space d.name d.z in
      let f : ℕ → List ℕ → Wrote₂ = λ to' out'. own_t field entered names scopes out' (own_on s to' (s.next + suc (length ds)) s.alias s.seen) row (i + suc (length ds)) (length more) in
      own_decl d i (length (decl_rows ds ++ more)) to entered out s _ (decl_slots (before ++ (d ∷ [])) (dr + 1) ds ++ rest) at.0 l
      ∙ (then_same (put_all out s.to (r ∷ [])) _ _ (λ to' out'. rw (← a, ← b) (own_decls ds more (i + 1) to (dr + 1) entered out' (own_on s to' (s.next + 1) s.alias s.seen) (before ++ (d ∷ [])) rest at.1 (left_next names to s.next _ _ l).rest))
      ∙ sym (put_on out s.to (r ∷ []) (decl_rows ds) f))

module _ (env : Env) (outside : Outside) (fz : ℕ) (field : List ℕ) (names : List Slot) (scopes : List (List ℕ)) where
  -- what the code does at an operand
  abbrev row_of : (i row : ℕ) (entered : List Slot) (out : List ℕ) → WriteState → Operand → Wrote₂
  row_of i row entered out s (ref space at paths z) = with_t entered (write_ref_t names (innermost_t scopes s.depth) out s (refer_to space at paths z row))
  row_of i row entered out s (outer space up at z) = with_t entered (write_outer_t names scopes out s (outer_row space up at z fz))
  row_of i row entered out s (case name z) = write_case_t field i entered out s name z

  own_same : (w : Wrote₂) (f g : WriteState → List Slot → List ℕ → Wrote₂) → ((t : WriteState) (e : List Slot) (o : List ℕ) → f t e o ≡ g t e o) → wrote_then₂ w f stops₂ ≡ wrote_then₂ w g stops₂
  unfolding wrote_then₂
  own_same (Ok t & e & o) f g h = h t e o
  own_same (Err why & e & o) f g h = refl

  operand_turn : (o : Operand) (more : List Row) (row i row' : ℕ) (entered : List Slot) (out : List ℕ) (s : WriteState) → place_of (row_at field 0) ≡ fz → row_number s.at i ≡ row' → At field i (operand_row o ++ more)
      → own_t field entered names scopes out s row i (length (operand_row o ++ more))
      ≡ wrote_then₂ (row_of i row' entered out s o) (λ t entered' out'. own_t field entered' names scopes out' t row (i + length (operand_row o)) (length more)) stops₂
  unfolding operand_row At taken write_row_t
  operand_turn (ref space at paths z) more row i row' entered out s pl e rows =
      let q : i + 1 + length (path_rows paths) ≡ i + suc (length (path_rows paths)) = omega arith in
      own_turn field names scopes row (Ref space at (length paths) z) i (length (path_rows paths ++ more)) entered out s rows.0 refl
      ∙ rw (e, ← q) (own_same (row_of i row' entered out s (ref space at paths z)) _ _ (λ t e' o'. own_paths field names scopes row paths more (i + 1) e' o' t rows.1))
  operand_turn (outer space up at z) more row i row' entered out s pl e rows = own_turn field names scopes row (Outer space up at z) i (length more) entered out s rows.0 refl ∙ rw pl
  operand_turn (case name z) more row i row' entered out s pl e rows = own_turn field names scopes row (Case name z) i (length more) entered out s rows.0 refl

  -- the same refusal, or the operand's row written
  abbrev OneSays : (s : WriteState) (entered : List Slot) (out : List ℕ) (alias seen : ℕ) → Result Operand → Wrote₂ → Type 0
  OneSays s entered out alias seen r w = Says r (λ x w. w ≡ put_then (put_all out s.to (operand_row x)) λ to out'. Ok (own_on s to s.next alias seen) & entered & out') w

  with_says : (s : WriteState) (entered : List Slot) (out : List ℕ) (alias seen : ℕ) (r : Result Operand) (w : Rattle.write.specs.WriteState.Wrote) → Says r (λ x w. w ≡ put_then (put_all out s.to (operand_row x)) λ to out'. Ok (own_on s to s.next alias seen) & out') w → OneSays s entered out alias seen r (with_t entered w)
  unfolding with_t
  with_says s entered out alias seen (refused n z) w h = (entered & h.0, rw h.1)
  with_says s entered out alias seen (ok x) w h = rw h (go (put_all out s.to (operand_row x)))
    where
      go : (v : Out ℕ (List ℕ)) → with_t entered (put_then v λ to out'. Ok (own_on s to s.next alias seen) & out') ≡ put_then v λ to out'. Ok (own_on s to s.next alias seen) & entered & out'
      go (to & out') = unfold put_then with_t in refl

  ref_turn : (space z row : ℕ) (at : Index) (paths : List ℕ) (out : List ℕ) (s : WriteState) (alias : ℕ) (o : Option ℕ) → space < 256
      → Says (or_refused o (unknown space) z >>= λ n. ok (ref space (Num n) [] z)) (λ x w. w ≡ put_then (put_all out s.to (operand_row x)) λ to out'. Ok (own_on s to s.next alias s.seen) & out') (write_numbered_t (answered space o alias) out s (refer_to space at paths z row))
  unfolding or_refused ◌>>=◌ number_of carried_by write_numbered_t operand_row path_rows taken as_index
  ref_turn space z row at paths out s alias none l = (out, refl)
  ref_turn space z row at paths out s alias (some n) l =
      let e : space % 256 ≡ space = omega arith in
      rw (e, put_one_lem out s.to (Ref space (Num n) 0 z))

  -- what one operand leaves
  pub record One (s : WriteState) (entered : List Slot) (out : List ℕ) (i row : ℕ) (seen : List ℕ) (o now : Operand) (rest : List Slot) : Type 0 where
    pub alias : ℕ
    pub count : ℕ
    pub table : List Slot
    pub says : OneSays s table out alias count (resolve_one env outside fz seen now) (row_of i row entered out s o)
    pub left : Left names (past_of (innermost_t scopes s.depth)) alias rest
    pub cases : Cases table count (seen_after env outside fz seen now)
    pub size : length table ≡ length entered
    pub few : count ≤ s.seen + 1

  one_agrees : (o now : Operand) (more : List Row) (i row : ℕ) (seen : List ℕ) (entered : List Slot) (out : List ℕ) (s : WriteState) (slots rest : List Slot)
      → Goes (table_of env) names (innermost_t scopes s.depth) row o now slots rest → FitOperand o → At field i (operand_row o ++ more)
      → Timed outside.early s.early names scopes s.before s.depth (opened env outside) → (s.early ≡ true → LowOperand o) → Envs names scopes s.depth (opened env outside) → s.depth < 4294967296 → Left names (past_of (innermost_t scopes s.depth)) s.alias slots
      → Cases entered s.seen seen → s.seen < length entered → One s entered out i row seen o now rest
  unfolding write_ref_t At operand_row
  one_agrees (ref space at paths z) now more i row seen entered out s slots rest g f rows timed low en d l c h =
      let n = g.numbers s.alias l in
      rw (← g.is)
      (record {
        alias = s.alias + g.after;
        count = s.seen;
        table = entered;
        says = with_says s entered out (s.alias + g.after) s.seen (number_in env.entries space g.index z >>= λ n. ok (ref space (Num n) [] z)) (write_ref_t names (innermost_t scopes s.depth) out s (refer_to space at paths z row)) (rw (n.1, number_is env.entries space g.index z) (ref_turn space z row at paths out s (s.alias + g.after) (index_in (table_of env) space g.index) f.0));
        left = n.0;
        cases = c;
        size = refl;
        few = omega arith;
      })
  one_agrees (outer space up at z) now more i row seen entered out s slots rest g f rows timed low en d l c h =
      rw g.0
      (record {
        alias = s.alias;
        count = s.seen;
        table = entered;
        says = with_says s entered out s.alias s.seen (resolve_outer outside.early (opened env outside) fz space up at z) (write_outer_t names scopes out s (outer_row space up at z fz)) (outer_agrees names scopes outside.early (opened env outside) fz space up at z out s timed (λ t. (low t).1) en d);
        left = rw g.1 at l;
        cases = c;
        size = refl;
        few = omega arith;
      })
  one_agrees (case name z) now more i row seen entered out s slots rest g f rows timed low en d l c h =
      let k = case_agrees field i entered out s seen name z rows.0 h c in
      rw g.0
      (record {
        alias = s.alias;
        count = s.seen + 1;
        table = set entered s.seen (decl_slot 13 name 0);
        says = k.0;
        left = rw g.1 at l;
        cases = k.1;
        size = simp length-set;
        few = omega arith;
      })

  -- the EXPORT, if there is one, and the end
  own_export : (x : Option ℕ) (tail : List Row) (i at : ℕ) (entered : List Slot) (out : List ℕ) (s : WriteState) → Stops tail → At field i (export_rows x ++ tail) → row_number s.at (i + length (export_rows x)) ≡ at
      → Owned s entered out at s.next (export_rows x) (own_t field entered names scopes out s s.at i (length (export_rows x ++ tail)))
  unfolding export_rows At put_all taken write_row_t
  own_export none tail i at entered out s st rows e =
      record { to = s.to; alias = s.alias; seen = s.seen; table = entered; after = out; is = own_end field names scopes s.at tail i entered out s st rows ∙ rw (← e, add-zero); wrote = refl; size = refl }
  own_export (some n) tail i at entered out s st rows e =
      rw (own_copy field names scopes s.at (Export n) i (length tail) entered out s rows.0 refl refl) (go (put_all out s.to (Export n ∷ [])) refl)
    where
      go : (w : Out ℕ (List ℕ)) → put_all out s.to (Export n ∷ []) ≡ w → Owned s entered out at s.next (Export n ∷ []) (put_then w λ to out'. own_t field entered names scopes out' (written_t s to) s.at (i + 1) (length tail))
      go (to & out') q =
          unfold put_then in record {
            to = to;
            alias = s.alias;
            seen = s.seen;
            table = entered;
            after = out';
            is = own_end field names scopes s.at tail (i + 1) entered out' (written_t s to) st rows.1 ∙ rw e;
            wrote = sym q;
            size = refl;
          }

  own_more : (o now : Operand) (nows : List Operand) (x : Option ℕ) (more : List Row) (i row at : ℕ) (seen : List ℕ) (entered : List Slot) (out : List ℕ) (s : WriteState) (rest : List Slot) (one : One s entered out i row seen o now rest)
      → place_of (row_at field 0) ≡ fz → row_number s.at i ≡ row → At field i (operand_row o ++ more)
      → ((to : ℕ) (out' : List ℕ) → Says (resolve_operands env outside fz (seen_after env outside fz seen now) nows) (λ xs w. Owned (own_on s to s.next one.alias one.count) one.table out' at s.next (operand_rows xs ++ export_rows x) w)
      (own_t field one.table names scopes out' (own_on s to s.next one.alias one.count) s.at (i + length (operand_row o)) (length more)))
      → Says (resolve_operands env outside fz seen (now ∷ nows)) (λ xs w. Owned s entered out at s.next (operand_rows xs ++ export_rows x) w) (own_t field entered names scopes out s s.at i (length (operand_row o ++ more)))
  own_more o now nows x more i row at seen entered out s rest one pl e rows ih =
      rw (one_more_lem env outside fz seen now nows, operand_turn o more s.at i row entered out s pl e rows)
      (says_then₂ (resolve_one env outside fz seen now) (λ y. resolve_operands env outside fz (seen_after env outside fz seen now) nows >>= λ xs. ok (y ∷ xs)) _ _ (row_of i row entered out s o) _ one.says (λ y q w.
      rw w (go y (put_all out s.to (operand_row y)) refl)))
    where
      go : (y : Operand) (w : Out ℕ (List ℕ)) → put_all out s.to (operand_row y) ≡ w
          → Says (resolve_operands env outside fz (seen_after env outside fz seen now) nows >>= λ xs. ok (y ∷ xs)) (λ xs w. Owned s entered out at s.next (operand_rows xs ++ export_rows x) w)
          (wrote_then₂ (put_then w λ to out'. Ok (own_on s to s.next one.alias one.count) & one.table & out') (λ t entered' out'. own_t field entered' names scopes out' t s.at (i + length (operand_row o)) (length more)) stops₂)
      go y (to & out') q =
          unfold put_then wrote_then₂ operand_rows in says_map (resolve_operands env outside fz (seen_after env outside fz seen now) nows) (λ xs. y ∷ xs) _ _ _ (ih to out') (λ xs O. rw (append_assoc (operand_row y) (operand_rows xs) (export_rows x))
          (owned_more s entered one.table out out' at s.next to s.next one.alias one.count (operand_row y) (operand_rows xs ++ export_rows x) _ (sym q) one.size O))

  -- the operands, from row i of the field on, and what comes after them
  pub operands_agree : (here : List ℕ) (row : ℕ) (os nows : List Operand) (slots : List Slot) → AllGo (table_of env) names here row os nows slots
      → (x : Option ℕ) (tail : List Row) (i at : ℕ) (seen : List ℕ) (entered : List Slot) (out : List ℕ) (s : WriteState)
      → here ≡ innermost_t scopes s.depth → FitOperands os → place_of (row_at field 0) ≡ fz → Timed outside.early s.early names scopes s.before s.depth (opened env outside) → (s.early ≡ true → LowOperands os) → Envs names scopes s.depth (opened env outside) → s.depth < 4294967296
      → Left names (past_of here) s.alias slots → Cases entered s.seen seen → s.seen + length (operand_rows os) ≤ length entered
      → Stops tail → At field i (operand_rows os ++ (export_rows x ++ tail)) → s.at + i ≡ row → row + length (operand_rows os) < 4294967296
      → row_number s.at (i + length (operand_rows os) + length (export_rows x)) ≡ at
      → Says (resolve_operands env outside fz seen nows) (λ xs w. Owned s entered out at s.next (operand_rows xs ++ export_rows x) w) (own_t field entered names scopes out s s.at i (length (operand_rows os ++ (export_rows x ++ tail))))
  unfolding operand_rows resolve_operands
  operands_agree here row _ _ _ done x tail i at seen entered out s eh f pl timed low en d l c h st rows er lr ea = own_export x tail i at entered out s st rows (rw (add-zero i) at ea)
  operands_agree here row _ _ _ (goes {o = o} {now = now} {os = os} {nows = nows} {slots = slots} {rest = rest} g gs) x tail i at seen entered out s eh f pl timed low en d l c h st rows er lr ea =
      let more = operand_rows os ++ (export_rows x ++ tail) in
      let rows' : At field i (operand_row o ++ more) = rw (append_assoc (operand_row o) (operand_rows os) (export_rows x ++ tail)) at rows in
      let ln = length-append (operand_row o) (operand_rows os) in
      let some-row = operand_some o in
      let one : One s entered out i row seen o now rest = one_agrees o now more i row seen entered out s slots rest (rw eh at g) f.0 rows' timed (λ t. (low t).0) en d (rw eh at l) c (omega arith) in
      let few = one.few in
      let size = one.size in
      let i' : i + length (operand_row o) + length (operand_rows os) + length (export_rows x) ≡ i + length (operand_row o ++ operand_rows os) + length (export_rows x) = omega arith in
      rw (append_assoc (operand_row o) (operand_rows os) (export_rows x ++ tail))
      (own_more o now nows x more i row at seen entered out s rest one pl (row_number_lem s.at i (omega arith) ∙ er) rows' (λ to out'.
      operands_agree here (row + length (operand_row o)) os nows rest gs x tail (i + length (operand_row o)) at (seen_after env outside fz seen now) one.table out' (own_on s to s.next one.alias one.count) eh f.1 pl timed (λ t. (low t).1) en d
      (rw (← eh) at one.left) one.cases (omega arith) st (at_right field i (operand_row o) more rows') (omega arith) (omega arith) (rw i' ea)))

-- the rows of a field, and what comes after them
pub head_tail : (h : Head) (tail : List Row) → head_rows h ++ tail ≡ Field h.code h.builtin h.z ∷ (decl_rows h.decls ++ (operand_rows h.operands ++ (export_rows h.export ++ tail)))
unfolding head_rows
head_tail h tail = simp append_assoc

pub head_size : (h : Head) → length (head_rows h) ≡ 1 + length h.decls + length (operand_rows h.operands) + length (export_rows h.export)
unfolding head_rows
head_size h = simp length-append (omega (arith, decl_rows_length h.decls))

module _ (env : Env) (outside : Outside) (h : Head) (nows : List Operand) (field : List ℕ) (names : List Slot) (scopes : List (List ℕ)) (tail : List Row) (stops : Stops tail) (all : At field 0 (head_rows h ++ tail)) where
  rows : At field 0 (Field h.code h.builtin h.z ∷ (decl_rows h.decls ++ (operand_rows h.operands ++ (export_rows h.export ++ tail))))
  rows = rw (head_tail h tail) at all

  place : place_of (row_at field 0) ≡ h.z
  unfolding At place_of taken
  place = rw rows.0.reads

  abbrev later : List Row
  later = operand_rows h.operands ++ (export_rows h.export ++ tail)

  after_field : At field 1 (decl_rows h.decls ++ later)
  after_field = at_tail field 0 _ _ rows

  -- from the operands on, with what is written before them
  from_operands : (s : WriteState) (entered : List Slot) (out : List ℕ) (to : ℕ) (slots rest : List Slot) (before : List Declaration) (dr : ℕ) (to₁ : ℕ) (out₁ : List ℕ)
      → (to₁ & out₁) ≡ put_all out s.to (Field h.code h.builtin h.z ∷ decl_rows h.decls)
      → AllGo (table_of env) names (innermost_t scopes s.depth) (s.at + 1 + length h.decls) h.operands nows slots → Left names (past_of (innermost_t scopes s.depth)) s.alias slots
      → FitOperands h.operands → Timed outside.early s.early names scopes s.before s.depth (opened env outside) → (s.early ≡ true → LowOperands h.operands) → Envs names scopes s.depth (opened env outside) → s.depth < 4294967296 → s.seen ≡ 0 → length (head_rows h) ≤ length entered → s.at + length (head_rows h) < 4294967296
      → Says (resolve_head env outside (with_operands h nows)) (λ h' w. Owned s entered out (s.at + length (head_rows h)) (s.next + length h.decls) (head_rows h') w)
      (own_t field entered names scopes out₁ (own_on s to₁ (s.next + length h.decls) s.alias s.seen) s.at (1 + length h.decls) (length later))
  unfolding resolve_head with_operands head_rows
  from_operands s entered out to slots rest before dr to₁ out₁ e go l f timed low en d sn few bound =
      let z = head_size h in
      let a : s.at + (1 + length h.decls) ≡ s.at + 1 + length h.decls = omega arith in
      let n : 1 + length h.decls + length (operand_rows h.operands) + length (export_rows h.export) ≡ length (head_rows h) = omega arith in
      let t = own_on s to₁ (s.next + length h.decls) s.alias s.seen in
      let b : At field (1 + length h.decls) later = rw (decl_rows_length h.decls) at (at_right field 1 (decl_rows h.decls) later (at_tail field 0 _ _ rows)) in
      says_map (resolve_operands env outside h.z [] nows) (λ os. with_operands (with_operands h nows) os) _ _ _
      (operands_agree env outside h.z field names scopes (innermost_t scopes s.depth) (s.at + 1 + length h.decls) h.operands nows slots go h.export tail (1 + length h.decls) (s.at + length (head_rows h)) [] entered out₁ t refl f place timed low en d l
      (rw sn (no_cases entered)) (omega arith) stops b a (omega arith) (rw n (row_number_lem s.at (length (head_rows h)) bound)))
      (λ os O. owned_more s entered entered out out₁ _ _ to₁ (s.next + length h.decls) s.alias s.seen (Field h.code h.builtin h.z ∷ decl_rows h.decls) (operand_rows os ++ export_rows h.export) _ e refl O)

  -- the field's own rows, from its FIELD on: what the rules make of the field, or the same refusal
  pub own_agrees : (s : WriteState) (entered : List Slot) (out : List ℕ) (to : ℕ) (slots rest : List Slot) (before : List Declaration) (dr : ℕ)
      → AllGo (table_of env) names (innermost_t scopes s.depth) (s.at + 1 + length h.decls) h.operands nows slots → Left names (past_of (innermost_t scopes s.depth)) s.alias slots
      → Left names to s.next (decl_slots before dr h.decls ++ rest)
      → FitOperands h.operands → Timed outside.early s.early names scopes s.before s.depth (opened env outside) → (s.early ≡ true → LowOperands h.operands) → Envs names scopes s.depth (opened env outside) → s.depth < 4294967296 → s.seen ≡ 0 → length (head_rows h) ≤ length entered → s.at + length (head_rows h) < 4294967296
      → Says (resolve_head env outside (with_operands h nows)) (λ h' w. Owned s entered out (s.at + length (head_rows h)) (s.next + length h.decls) (head_rows h') w)
      (own_t field entered names scopes out s s.at 0 (length (head_rows h ++ tail)))
  unfolding At taken write_row_t
  own_agrees s entered out to slots rest before dr go l ld f timed low en d sn few bound =
      rw (head_tail h tail, own_copy field names scopes s.at field_row 0 (length (decl_rows h.decls ++ later)) entered out s rows.0 refl refl) (first (put_all out s.to (field_row ∷ [])) refl)
    where
      field_row : Row
      field_row = Field h.code h.builtin h.z

      Goal : Wrote₂ → Type 0
      Goal w = Says (resolve_head env outside (with_operands h nows)) (λ h' w. Owned s entered out (s.at + length (head_rows h)) (s.next + length h.decls) (head_rows h') w) w

      second : (to₁ : ℕ) (out₁ : List ℕ) → put_all out s.to (field_row ∷ []) ≡ (to₁ & out₁) → (w : Out ℕ (List ℕ)) → put_all out₁ to₁ (decl_rows h.decls) ≡ w
          → Goal (put_then w λ to₂ out₂. own_t field entered names scopes out₂ (own_on s to₂ (s.next + length h.decls) s.alias s.seen) s.at (1 + length h.decls) (length later))
      second to₁ out₁ e (to₂ & out₂) q =
          unfold put_then in from_operands s entered out to slots rest before dr to₂ out₂ (sym (put_then_lem out s.to (field_row ∷ []) (decl_rows h.decls) to₁ out₁ (sym e) ∙ q)) go l f timed low en d sn few bound

      first : (w : Out ℕ (List ℕ)) → put_all out s.to (field_row ∷ []) ≡ w → Goal (put_then w λ to₁ out₁. own_t field entered names scopes out₁ (written_t s to₁) s.at 1 (length (decl_rows h.decls ++ later)))
      first (to₁ & out₁) e =
          unfold put_then in rw (own_decls field names scopes s.at h.decls later 1 to dr entered out₁ (written_t s to₁) before rest after_field ld) (second to₁ out₁ e (put_all out₁ to₁ (decl_rows h.decls)) refl)
