-- What is inserted before a field for one reference: the code writes what the rules make of it.
use Rattle.std.specs.Prelude.{◌≡◌, Bool, ◌&&◌, ◌⊎◌, leb, Ok}
use Rattle.std.proofs.Math.Path.{refl, sym, ap}
use Rattle.std.proofs.Common.{◌∙◌, arith, add-zero, le-leb, lt-ltb}
use Rattle.std.proofs.Math.Bool.{true, false}
use Rattle.std.proofs.Math.Logic.{inl, inr}
use Rattle.std.proofs.Math.Option.{Option, none, some}
use mathlib.Core.List.{List, [], ◌∷◌, ◌++◌, append-nil}
use Prim.Native.Nat.{ℕ, suc, ◌+◌, ◌≤◌, ◌<◌}
use Rattle.std.proofs.Math.ListN.{length}
use Rattle.kit.specs.Pick.{pick}
use Rattle.kit.specs.Out.{Out, ◌&◌}
use Rattle.rules.specs.Tools.{when◌then◌else◌, is_in, is_just}
use Rattle.rules.specs.Versions.{top_name}
use Rattle.rules.specs.Rows.{Index, Num, Id}
use Rattle.rules.specs.Tree.{Declaration, Operand, ref, Head, path_rows, head_rows}
use Rattle.rules.specs.Shapes.{FOUR, declared, first_name}
use Rattle.rules.specs.Rules.{number_of, carried_by, not_exported, not_outer, unknown, not_earlier, table_of, Outside, in_time, comes_later, late_name, late_instance, refused, ok, ◌>>=◌, Env, find, fresh, walk, Expanded, as_it_is, through, found_at, expand_operand, heads_decls, export_alias, outer_alias, path_aliases, resolve_inserted}
use Rattle.rules.specs.Laws.RowLaws.{LegalIndex}
use Rattle.rules.specs.Laws.Results.{ok_same, no_result, bind_inv}
use Rattle.rules.proofs.Laws.Meaning.StepC.{alias_resolved}
use Rattle.rows.specs.RowAt.{as_index}
use Rattle.names.specs.Table.{Slot, slot_of, past_of}
use Rattle.names.specs.Stands.{count, Opens}
use Rattle.plan.specs.declared.insertions.Reference.{Reference}
use Rattle.write.specs.declared.alias.WriteState.{WriteState}
use Rattle.write.specs.WriteState.{Wrote, put_then}
use Rattle.write.specs.Alias.{instances_of, write_done_t, chain_or_t, name_alias_t, write_alias_t}
use Rattle.agree.specs.Rows.At.{At, put_all}
use Rattle.agree.specs.Tables.Slots.{reach_out, reach_at, inserted_slot, inserted_slots}
use Rattle.agree.specs.Tables.SlotLaws.{aliases_length}
use Rattle.agree.specs.StepC.WriteAgrees.{heads_rows, outer_alias_lem}
use Rattle.agree.specs.Tables.Cursor.{Left, left_next, Under, Apart, not_inserted, is_inserted_lem}
use Rattle.agree.specs.Tables.Earlier.{InTime}
use Rattle.agree.specs.Refusals.Answers.{Says, index_in, sought_as, late_at, number_in_lem}
use Rattle.agree.specs.StepC.ChainAgrees.{moved_on, Chained, chain_goes, inserted_more, inserted_refused, inserted_late, alias_operands, alias_refused, path_last, path_more, code_for}

-- ---- what step B makes of a reference

module _ (here : List Declaration) (outside : Outside) (space z k : ℕ) (e : Expanded Operand) where
  pub number_made : (n : ℕ) → expand_operand here outside k (ref space (Num n) [] z) ≡ ok e → as_it_is (ref space (Num n) [] z) k ≡ e
  unfolding expand_operand
  number_made n q = ok_same _ e q

  -- a name is left as it is, or it is an alias of a scope further out
  pub name_made : (name : ℕ) → expand_operand here outside k (ref space (Id name) [] z) ≡ ok e
      → (as_it_is (ref space (Id name) [] z) k ≡ e) ⊎ ((at : ℕ × ℕ) × (through space z k (outer_alias space (fresh k) at.0 at.1 z ∷ []) ≡ e))
  unfolding expand_operand when◌then◌else◌
  name_made name q = go (is_just (find here space name)) (bind_inv (in_time (late_name here outside space name) z) _ e q).2
    where
      four : (at : ℕ × ℕ) (t : Bool) → (when t then ok (through space z k (outer_alias space (fresh k) at.0 at.1 z ∷ [])) else refused (not_outer space) z) ≡ ok e
          → (as_it_is (ref space (Id name) [] z) k ≡ e) ⊎ ((at : ℕ × ℕ) × (through space z k (outer_alias space (fresh k) at.0 at.1 z ∷ []) ≡ e))
      four at true p = unfold when◌then◌else◌ in inr (at, ok_same _ e p)
      four at false p = unfold when◌then◌else◌ in no_result (not_outer space) z e p

      met : (o : Option (ℕ × ℕ)) → found_at space name z k o ≡ ok e
          → (as_it_is (ref space (Id name) [] z) k ≡ e) ⊎ ((at : ℕ × ℕ) × (through space z k (outer_alias space (fresh k) at.0 at.1 z ∷ []) ≡ e))
      met none p = unfold found_at in inl (ok_same _ e p)
      met (some at) p = unfold found_at in four at (is_in space FOUR) p

      go : (t : Bool) → (when t then ok (as_it_is (ref space (Id name) [] z) k) else found_at space name z k (walk outside.scopes 1 space name)) ≡ ok e
          → (as_it_is (ref space (Id name) [] z) k ≡ e) ⊎ ((at : ℕ × ℕ) × (through space z k (outer_alias space (fresh k) at.0 at.1 z ∷ []) ≡ e))
      go true p = unfold when◌then◌else◌ in inl (ok_same _ e p)
      go false p = unfold when◌then◌else◌ in met (walk outside.scopes 1 space name) p

  pub path_made : (at : Index) (p : ℕ) (ps : List ℕ) → expand_operand here outside k (ref space at (p ∷ ps) z) ≡ ok e → through space z (k + length ps) (path_aliases space at p ps z k) ≡ e
  unfolding expand_operand
  path_made at p ps q = go (is_in space (4 ∷ 6 ∷ [])) q
    where
      go : (t : Bool) → (when t then refused not_exported z else ok (through space z (k + length ps) (path_aliases space at p ps z k))) ≡ ok e → through space z (k + length ps) (path_aliases space at p ps z k) ≡ e
      go true r = unfold when◌then◌else◌ in no_result not_exported z e r
      go false r = unfold when◌then◌else◌ in ok_same _ e r

-- ---- what the code writes for it

-- the rows of the fields are written, and as many slots are passed
pub record Inserted (s : WriteState) (out : List ℕ) (n : ℕ) (hs : List Head) (w : Wrote) : Type 0 where
  pub to : ℕ
  pub after : List ℕ
  pub is : w ≡ (Ok (moved_on s to (s.next + n)) & after)
  pub wrote : (to & after) ≡ put_all out s.to (heads_rows hs)

pub inserted_none : (s : WriteState) (out : List ℕ) → Inserted s out 0 [] (Ok s & out)
unfolding heads_rows put_all
inserted_none s out = record { to = s.to; after = out; is = rw add-zero; wrote = refl }

chained_done : (s : WriteState) (out : List ℕ) (n : ℕ) (hs : List Head) (w : Out WriteState (List ℕ)) → Chained s out n hs w → Inserted s out n hs (write_done_t w)
unfolding write_done_t
chained_done s out n hs w c = record { to = c.to; after = c.after; is = rw c.is; wrote = c.wrote }

chain_refused : (env : Env) (outside : Outside) (space z : ℕ) (ps : List ℕ) (p : ℕ) (at : Index) (k : ℕ) → late_instance env outside (ref (instances_of space) at [] z ∷ []) ≡ false → (0 < length ps → 7 ≤ space) → index_in (table_of env) (instances_of space) at ≡ none
    → resolve_inserted env outside (path_aliases space at p ps z k) ≡ refused (unknown (instances_of space)) z
chain_refused env outside space z [] p at k soon far e = rw (path_last space at p z k) (inserted_refused env outside _ [] _ z (rw (alias_operands (code_for space) space (fresh k) (instances_of space) at p z) soon) (alias_refused env outside (code_for space) space (fresh k) (instances_of space) at p z e))
chain_refused env outside space z (q ∷ ps) p at k soon far e = rw (path_more space at p q ps z k (far (omega arith))) (inserted_refused env outside _ (path_aliases space (Id (fresh k)) q ps z (suc k)) _ z (rw (alias_operands (code_for space) 10 (fresh k) (instances_of space) at p z) soon) (alias_refused env outside (code_for space) 10 (fresh k) (instances_of space) at p z e))

chain_late : (env : Env) (outside : Outside) (space z : ℕ) (ps : List ℕ) (p : ℕ) (at : Index) (k : ℕ) → late_instance env outside (ref (instances_of space) at [] z ∷ []) ≡ true → (0 < length ps → 7 ≤ space)
    → resolve_inserted env outside (path_aliases space at p ps z k) ≡ refused not_earlier z
unfolding export_alias
chain_late env outside space z [] p at k late far = rw (path_last space at p z k) (inserted_late env outside _ [] late)
chain_late env outside space z (q ∷ ps) p at k late far = rw (path_more space at p q ps z k (far (omega arith))) (inserted_late env outside _ (path_aliases space (Id (fresh k)) q ps z (suc k)) late)

-- whether the instance of a path comes too late, as the code asks it
late_instance_lem : (env : Env) (outside : Outside) (early : Bool) (space z : ℕ) (at : Index) → outside.early ≡ early → (early ≡ true → LegalIndex top_name at)
    → late_instance env outside (ref space at [] z ∷ []) ≡ late_at early (table_of env) outside.before.decls space at
unfolding late_instance
late_instance_lem env outside early space z (Num n) same low = refl
late_instance_lem env outside early space z (Id name) same low = rw same (go early low)
  where
    go : (b : Bool) → (b ≡ true → LegalIndex top_name (Id name)) → (b && (leb name top_name && comes_later (table_of env) outside.before.decls space name)) ≡ (b && comes_later (table_of env) outside.before.decls space name)
    go false l = refl
    go true l = rw (le-leb name top_name (l refl).1)

abbrev pub refer_to : (space : ℕ) (at : Index) (paths : List ℕ) (z row : ℕ) → Reference
refer_to space at paths z row = record { space = space; at = as_index at; paths = length paths; z = z; row = row }

module _ (env : Env) (outside : Outside) (field : List ℕ) (names : List Slot) (here : List ℕ) (opens : Opens names here env) where
  number_alias : (space n z i row : ℕ) (out : List ℕ) (s : WriteState) → write_alias_t field i names here out s (refer_to space (Num n) [] z row) ≡ (Ok s & out)
  unfolding write_alias_t pick name_alias_t as_index
  number_alias space n z i row out s = refl

  kept_alias : (space name z i row : ℕ) (out : List ℕ) (s : WriteState) (rest : List Slot) → Left names (past_of here) s.next rest → Apart row rest
      → write_alias_t field i names here out s (refer_to space (Id name) [] z row) ≡ (Ok s & out)
  unfolding write_alias_t pick name_alias_t as_index
  kept_alias space name z i row out s rest l a = rw (not_inserted names here s.next row rest l a)

  outer_inserted : (space name z k d n i row : ℕ) (out : List ℕ) (s : WriteState) (before : List Declaration) (rest : List Slot) → space < 256
      → Left names (past_of here) s.next (inserted_slot before row (outer_alias space (fresh k) d n z) ∷ rest)
      → Inserted s out 1 (outer_alias space (fresh k) d n z ∷ []) (write_alias_t field i names here out s (refer_to space (Id name) [] z row))
  unfolding write_alias_t pick name_alias_t as_index inserted_slot outer_alias declared first_name reach_out reach_at put_then heads_rows
  outer_inserted space name z k d n i row out s before rest l st =
      let q = left_next names (past_of here) s.next _ rest st in
      rw (is_inserted_lem names here s.next row _ rest st refl, q.is, q.follows, outer_alias_lem out s.to (slot_of space (fresh k) (count space before) row d n) space (fresh k) d n z l refl refl refl refl)
      (go (put_all out s.to (head_rows (outer_alias space (fresh k) d n z))) refl)
    where
      go : (w : Out ℕ (List ℕ)) → put_all out s.to (head_rows (outer_alias space (fresh k) d n z)) ≡ w
          → Inserted s out 1 (outer_alias space (fresh k) d n z ∷ []) (put_then w λ to out'. Ok (moved_on s to (s.next + 1)) & out')
      go (to & out') e = unfold put_then heads_rows in record { to = to; after = out'; is = refl; wrote = sym e ∙ rw append-nil }

  outer_resolves : (space k d n z : ℕ) → resolve_inserted env outside (outer_alias space (fresh k) d n z ∷ []) ≡ ok (outer_alias space (fresh k) d n z ∷ [])
  unfolding resolve_inserted
  outer_resolves space k d n z = inserted_more env outside _ _ [] [] (unfold late_instance outer_alias in refl) (alias_resolved env outside space (fresh k) d n z) refl

  path_turn : (space : ℕ) (at : Index) (p : ℕ) (ps : List ℕ) (z k i row : ℕ) (out : List ℕ) (s : WriteState) (before after : List Declaration) (rest : List Slot)
      → space < 256 → (0 < length ps → 7 ≤ space) → At field i (path_rows (p ∷ ps))
      → Left names (past_of here) s.next (inserted_slots before row (path_aliases space at p ps z k) ++ rest)
      → table_of env ≡ before ++ (heads_decls (path_aliases space at p ps z k) ++ after) → Under (fresh k) before
      → (b : Bool) → late_instance env outside (ref (instances_of space) at [] z ∷ []) ≡ b → (o : Option ℕ) → index_in (table_of env) (instances_of space) at ≡ o
      → Says (resolve_inserted env outside (path_aliases space at p ps z k)) (λ hs w. Inserted s out (suc (length ps)) hs w) (chain_or_t (sought_as (instances_of space) b o) field i names out s (refer_to space at (p ∷ ps) z row))
  unfolding chain_or_t number_of carried_by
  path_turn space at p ps z k i row out s before after rest l far rows st ds u true t o e = rw (chain_late env outside space z ps p at k t far) (out, refl)
  path_turn space at p ps z k i row out s before after rest l far rows st ds u false t none e = rw (chain_refused env outside space z ps p at k t far e) (out, refl)
  path_turn space at p ps z k i row out s before after rest l far rows st ds u false t (some n) e =
      let c = chain_goes env outside field names (past_of here) row space z l ps p at k i n (suc (length ps)) out s before after rest t far e rows st ds u in
      rw c.0 (chained_done s out (suc (length ps)) _ _ c.1)

  path_agrees : (space : ℕ) (at : Index) (p : ℕ) (ps : List ℕ) (z k i row : ℕ) (out : List ℕ) (s : WriteState) (before after : List Declaration) (rest : List Slot)
      → InTime outside s.early names here s.before → (s.early ≡ true → LegalIndex top_name at) → space < 256 → (0 < length ps → 7 ≤ space) → At field i (path_rows (p ∷ ps))
      → Left names (past_of here) s.next (inserted_slots before row (path_aliases space at p ps z k) ++ rest)
      → table_of env ≡ before ++ (heads_decls (path_aliases space at p ps z k) ++ after) → Under (fresh k) before
      → Says (resolve_inserted env outside (path_aliases space at p ps z k)) (λ hs w. Inserted s out (length (path_aliases space at p ps z k)) hs w) (write_alias_t field i names here out s (refer_to space at (p ∷ ps) z row))
  unfolding write_alias_t pick
  path_agrees space at p ps z k i row out s before after rest timed low l far rows st ds u =
      rw (lt-ltb 0 (suc (length ps)) (omega arith), number_in_lem names here s.before s.early env outside.before.decls timed.come (instances_of space) at low opens, aliases_length space at p ps z k) (path_turn space at p ps z k i row out s before after rest l far rows st ds u (late_at s.early (table_of env) outside.before.decls (instances_of space) at) (late_instance_lem env outside s.early (instances_of space) z at timed.same low) (index_in (table_of env) (instances_of space) at) refl)

  -- the code inserts for a reference what the rules do, or refuses with the same
  pub ref_agrees : (here₀ : List Declaration) (space : ℕ) (at : Index) (paths : List ℕ) (z k i row : ℕ) (out : List ℕ) (s : WriteState) (before after : List Declaration) (rest : List Slot) (e : Expanded Operand)
      → InTime outside s.early names here s.before → (s.early ≡ true → LegalIndex top_name at) → space < 256 → (1 < length paths → 7 ≤ space) → At field i (path_rows paths) → expand_operand here₀ outside k (ref space at paths z) ≡ ok e
      → Left names (past_of here) s.next (inserted_slots before row e.inserted ++ rest) → Apart row rest
      → table_of env ≡ before ++ (heads_decls e.inserted ++ after) → Under (fresh k) before
      → Says (resolve_inserted env outside e.inserted) (λ hs w. Inserted s out (length e.inserted) hs w) (write_alias_t field i names here out s (refer_to space at paths z row))
  unfolding resolve_inserted ◌>>=◌ inserted_slots as_it_is through
  ref_agrees here₀ space (Num n) [] z k i row out s before after rest e timed low l far rows q st ap ds u =
      rw (← number_made here₀ outside space z k e n q, number_alias space n z i row out s) (inserted_none s out)
  ref_agrees here₀ space (Id name) [] z k i row out s before after rest e timed low l far rows q st ap ds u = go (name_made here₀ outside space z k e name q)
    where
      go : ((as_it_is (ref space (Id name) [] z) k ≡ e) ⊎ ((at : ℕ × ℕ) × (through space z k (outer_alias space (fresh k) at.0 at.1 z ∷ []) ≡ e)))
          → Says (resolve_inserted env outside e.inserted) (λ hs w. Inserted s out (length e.inserted) hs w) (write_alias_t field i names here out s (refer_to space (Id name) [] z row))
      go (inl m) = unfold resolve_inserted as_it_is inserted_slots in rw (← m, kept_alias space name z i row out s rest (rw (← m) at st) ap) (inserted_none s out)
      go (inr m) =
          unfold resolve_inserted through inserted_slots in rw (← m.1, outer_resolves space k m.0.0 m.0.1 z)
          (outer_inserted space name z k m.0.0 m.0.1 i row out s before rest l (rw (← m.1) at st))
  ref_agrees here₀ space at (p ∷ ps) z k i row out s before after rest e timed low l far rows q st ap ds u =
      let m = path_made here₀ outside space z k e at p ps q in
      rw (← m) (path_agrees space at p ps z k i row out s before after rest timed low l (λ h. far (omega arith)) rows (rw (← m) at st) (rw (← m) at ds) u)
