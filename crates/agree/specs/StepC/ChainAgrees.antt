-- The aliases of a reference: one for each PATH, each on the one before it, or one of a name that a scope further out declares.
use Rattle.std.specs.Prelude.{◌≡◌, Bool, true, ◌&&◌, eqb, leb, length}
use Rattle.std.proofs.Math.Path.{refl, sym}
use Rattle.std.proofs.Common.{ap, ◌∙◌, arith, add-zero}
use Rattle.std.proofs.Math.Bool.{false}
use Rattle.std.proofs.Math.Option.{none, some}
use mathlib.Core.List.{List, [], ◌∷◌, ◌++◌, append_assoc}
use Prim.Native.Nat.{ℕ, suc, ◌+◌, ◌-◌, ◌≤◌, ◌<◌}
use Rattle.std.proofs.lemmas.Bool.{lt-leb}
use Rattle.kit.specs.Pick.{pick}
use Rattle.kit.specs.Out.{Out, ◌&◌}
use Rattle.kit.proofs.Laws.{no!, tests}
use Rattle.rules.specs.Tools.{when◌then◌else◌}
use Rattle.rules.specs.Versions.{top_name}
use Rattle.rules.specs.Rows.{Index, Num, Id, Path}
use Rattle.rules.specs.Tree.{Declaration, ref, Head, with_operands, path_rows, head_rows}
use Rattle.rules.specs.Shapes.{declared, first_name}
use Rattle.rules.specs.Rules.{Refusal, unknown, not_earlier, table_of, Outside, in_time, late_instance, refused, ok, ◌>>=◌, Env, fresh, or_refused, heads_decls, export_alias, path_aliases, resolve_operands, resolve_head, resolve_inserted}
use Rattle.rows.specs.RowAt.{taken}
use Rattle.names.specs.Table.{Slot, slot_of}
use Rattle.names.specs.Stands.{count}
use Rattle.write.specs.declared.alias.WriteState.{WriteState}
use Rattle.write.specs.declared.alias.Chain.{Chain}
use Rattle.write.specs.WriteState.{put_then}
use Rattle.write.specs.Alias.{if_path, write_chain_t, instances_of}
use Rattle.agree.specs.Rows.At.{Is, At, put_all}
use Rattle.agree.specs.Tables.Slots.{reach_out, reach_at, inserted_slot, inserted_slots}
use Rattle.agree.specs.StepC.WriteAgrees.{heads_rows, put_then_lem, export_alias_lem}
use Rattle.agree.specs.Tables.Cursor.{Left, left_next, Under, under_append, under_more, find_new}
use Rattle.agree.specs.Refusals.Answers.{index_in, number_is}

-- the state with `to` rows written, and with the scope's next slot at `next`
abbrev pub moved_on : WriteState → (to next : ℕ) → WriteState
moved_on s to next =
    record { at = s.at; to = to; used = s.used; fresh = s.fresh; depth = s.depth; next = next; alias = s.alias; seen = s.seen; before = s.before; early = s.early }

-- ---- what the rules make of an alias of an export

module _ (env : Env) (outside : Outside) (code space new from : ℕ) (at : Index) (p z : ℕ) where
  pub alias_ok : (n : ℕ) → index_in (table_of env) from at ≡ some n → resolve_head env outside (export_alias code space new from at p z) ≡ ok (export_alias code space new from (Num n) p z)
  unfolding resolve_head resolve_operands export_alias with_operands ◌>>=◌ or_refused
  alias_ok n e = rw (number_is env.entries from at z, e)

  pub alias_refused : index_in (table_of env) from at ≡ none → resolve_head env outside (export_alias code space new from at p z) ≡ refused (unknown from) z
  unfolding resolve_head resolve_operands export_alias ◌>>=◌ or_refused
  alias_refused e = rw (number_is env.entries from at z, e)

-- the code of an alias in a chain
abbrev pub code_for : ℕ → ℕ
code_for space = pick (eqb (instances_of space) 6) 10 9

pub path_last : (space : ℕ) (at : Index) (p z k : ℕ) → path_aliases space at p [] z k ≡ export_alias (code_for space) space (fresh k) (instances_of space) at p z ∷ []
unfolding path_aliases
path_last space at p z k = go (leb space 6)
  where
    go : (t : Bool) → (when t then export_alias 10 space (fresh k) 6 at p z else export_alias 9 space (fresh k) 10 at p z) ∷ []
        ≡ export_alias (pick (eqb (pick t 6 10) 6) 10 9) space (fresh k) (pick t 6 10) at p z ∷ []
    go true = unfold when◌then◌else◌ pick in refl
    go false = unfold when◌then◌else◌ pick in refl

pub path_more : (space : ℕ) (at : Index) (p q : ℕ) (ps : List ℕ) (z k : ℕ) → 7 ≤ space → path_aliases space at p (q ∷ ps) z k ≡ export_alias (code_for space) 10 (fresh k) (instances_of space) at p z ∷ path_aliases space (Id (fresh k)) q ps z (suc k)
unfolding path_aliases pick
path_more space at p q ps z k h = rw (lt-leb space 6 (omega arith))

-- ---- one alias

abbrev pub chain_of : (of instance left z : ℕ) → Chain
chain_of of instance left z = record { of = of; instance = instance; left = left; z = z }

module _ (field : List ℕ) (names : List Slot) (to : ℕ) (row : ℕ) where
  chain_step : (i : ℕ) (out : List ℕ) (s : WriteState) (count_left left : ℕ) (before : List Declaration) (rest : List Slot) (space new from n : ℕ) (at : Index) (p z : ℕ)
      → space < 256 → Is field i (Path p) → Left names to s.next (inserted_slot before row (export_alias (pick (eqb from 6) 10 9) space new from at p z) ∷ rest)
      → write_chain_t field i names out s (chain_of from n count_left z) (suc left)
      ≡ put_then (put_all out s.to (head_rows (export_alias (pick (eqb from 6) 10 9) space new from (Num n) p z))) λ to' out'.
      write_chain_t field (i + 1) names out' (moved_on s to' (s.next + 1)) (chain_of from (count space before) (count_left - 1) z) left
  unfolding write_chain_t if_path taken inserted_slot export_alias declared first_name reach_out reach_at
  chain_step i out s count_left left before rest space new from n at p z l is st =
      let q = left_next names to s.next _ rest st in
      rw (is.reads, q.is, q.follows)
      (ap (λ (w : Out ℕ (List ℕ)). put_then w λ to' out'. write_chain_t field (i + 1) names out' (moved_on s to' (s.next + 1)) (chain_of from (count space before) (count_left - 1) z) left)
      (export_alias_lem out s.to (slot_of space new (count space before) row 0 0) (pick (eqb from 6) 10 9) space new n p (chain_of from n count_left z) l refl refl refl refl))

-- ---- a chain of them

-- the rows of the fields are written, and as many slots are passed
pub record Chained (s : WriteState) (out : List ℕ) (n : ℕ) (hs : List Head) (w : Out WriteState (List ℕ)) : Type 0 where
  pub to : ℕ
  pub after : List ℕ
  pub is : w ≡ (moved_on s to (s.next + n) & after)
  pub wrote : (to & after) ≡ put_all out s.to (heads_rows hs)

-- one alias and those after it
chained_more : (s : WriteState) (out : List ℕ) (n : ℕ) (h : Head) (hs : List Head) (f : ℕ → List ℕ → Out WriteState (List ℕ))
    → ((to : ℕ) (out' : List ℕ) → Chained (moved_on s to (s.next + 1)) out' n hs (f to out')) → Chained s out (suc n) (h ∷ hs) (put_then (put_all out s.to (head_rows h)) f)
unfolding heads_rows put_then
chained_more s out n h hs f g = go (put_all out s.to (head_rows h)) refl
  where
    go : (w : Out ℕ (List ℕ)) → put_all out s.to (head_rows h) ≡ w → Chained s out (suc n) (h ∷ hs) (put_then w f)
    go (to' & out') e =
        let c = g to' out' in
        let q : s.next + 1 + n ≡ s.next + suc n = omega arith in
        record { to = c.to; after = c.after; is = c.is ∙ rw q; wrote = c.wrote ∙ sym (put_then_lem out s.to (head_rows h) (heads_rows hs) to' out' (sym e)) }

chained_none : (s : WriteState) (out : List ℕ) → Chained s out 0 [] (s & out)
unfolding heads_rows put_all
chained_none s out = record { to = s.to; after = out; is = rw add-zero; wrote = refl }

abbrev pub new_decl : (space k z : ℕ) → Declaration
new_decl space k z = record { space = space; name = fresh k; z = z }

pub under_new : (space k z : ℕ) (before : List Declaration) → Under (fresh k) before → Under (fresh (suc k)) (before ++ (new_decl space k z ∷ []))
unfolding fresh
under_new space k z before u = under_append (2147483648 + suc k) before (new_decl space k z ∷ []) (under_more (2147483648 + k) (2147483648 + suc k) before (omega arith) u) (omega arith, tt)

-- the resolved aliases of PATHs, the first on instance n, behind the declarations `before`
unfoldable pub chain_heads : (space z : ℕ) (ps : List ℕ) (p n k : ℕ) (before : List Declaration) → List Head
chain_heads space z [] p n k before = export_alias (code_for space) space (fresh k) (instances_of space) (Num n) p z ∷ []
chain_heads space z (q ∷ ps) p n k before =
    export_alias (code_for space) 10 (fresh k) (instances_of space) (Num n) p z ∷ chain_heads space z ps q (count 10 before) (suc k) (before ++ (new_decl 10 k z ∷ []))

-- an alias that is resolved, and those after it
pub inserted_more : (env : Env) (outside : Outside) (h h' : Head) (hs hs' : List Head) → late_instance env outside h.operands ≡ false → resolve_head env outside h ≡ ok h' → resolve_inserted env outside hs ≡ ok hs' → resolve_inserted env outside (h ∷ hs) ≡ ok (h' ∷ hs')
unfolding resolve_inserted ◌>>=◌ in_time when◌then◌else◌
inserted_more env outside h h' hs hs' t e f = rw (t, e, f)

-- an alias that is refused
pub inserted_refused : (env : Env) (outside : Outside) (h : Head) (hs : List Head) (why : Refusal) (z : ℕ) → late_instance env outside h.operands ≡ false → resolve_head env outside h ≡ refused why z → resolve_inserted env outside (h ∷ hs) ≡ refused why z
unfolding resolve_inserted ◌>>=◌ in_time when◌then◌else◌
inserted_refused env outside h hs why z t e = rw (t, e)

-- an alias of an instance that comes too late
pub inserted_late : (env : Env) (outside : Outside) (h : Head) (hs : List Head) → late_instance env outside h.operands ≡ true → resolve_inserted env outside (h ∷ hs) ≡ refused not_earlier h.z
unfolding resolve_inserted ◌>>=◌ in_time when◌then◌else◌
inserted_late env outside h hs t = rw t

-- an alias stands before what is made of it
fresh_in_time : (env : Env) (outside : Outside) (space k z : ℕ) → late_instance env outside (ref space (Id (fresh k)) [] z ∷ []) ≡ false
unfolding late_instance fresh
fresh_in_time env outside space k z = rw (lt-leb (2147483648 + k) top_name (omega arith)) (go outside.early)
  where
    go : (b : Bool) → (b && false) ≡ false
    go true = refl
    go false = refl

-- the operands of an alias of an export
pub alias_operands : (code space new from : ℕ) (at : Index) (p z : ℕ) → (export_alias code space new from at p z).operands ≡ ref from at [] z ∷ []
unfolding export_alias
alias_operands code space new from at p z = refl

module _ (env : Env) (outside : Outside) (field : List ℕ) (names : List Slot) (to row space z : ℕ) (small : space < 256) where
  -- the aliases of the PATHs from row i on, the first on an instance that was found
  pub chain_goes : (ps : List ℕ) (p : ℕ) (at : Index) (k i n l : ℕ) (out : List ℕ) (s : WriteState) (before after : List Declaration) (rest : List Slot)
      → late_instance env outside (ref (instances_of space) at [] z ∷ []) ≡ false → (0 < length ps → 7 ≤ space) → index_in (table_of env) (instances_of space) at ≡ some n → At field i (path_rows (p ∷ ps))
      → Left names to s.next (inserted_slots before row (path_aliases space at p ps z k) ++ rest)
      → table_of env ≡ before ++ (heads_decls (path_aliases space at p ps z k) ++ after) → Under (fresh k) before
      → (resolve_inserted env outside (path_aliases space at p ps z k) ≡ ok (chain_heads space z ps p n k before))
      × Chained s out (suc (length ps)) (chain_heads space z ps p n k before) (write_chain_t field i names out s (chain_of (instances_of space) n l z) (suc (length ps)))
  unfolding inserted_slots path_rows At chain_heads
  chain_goes [] p at k i n l out s before after rest soon far ei rows st ds u =
      let h = export_alias (code_for space) space (fresh k) (instances_of space) (Num n) p z in (
        rw (path_last space at p z k) (inserted_more env outside _ h [] [] (rw (alias_operands (code_for space) space (fresh k) (instances_of space) at p z) soon) (alias_ok env outside (code_for space) space (fresh k) (instances_of space) at p z n ei) (unfold resolve_inserted in refl)),
        rw (chain_step field names to row i out s l 0 before rest space (fresh k) (instances_of space) n at p z small rows.0 (rw (path_last space at p z k) at st))
            (chained_more s out 0 h [] _ (λ to' out'. unfold write_chain_t in chained_none (moved_on s to' (s.next + 1)) out')),
      )
  chain_goes (q ∷ ps) p at k i n l out s before after rest soon far ei rows st ds u =
      let h = export_alias (code_for space) 10 (fresh k) (instances_of space) (Num n) p z in
      let d = new_decl 10 k z in
      let seven = far (omega arith) in
      let more = path_more space at p q ps z k seven in
      let st' : Left names to s.next (inserted_slot before row (export_alias (code_for space) 10 (fresh k) (instances_of space) at p z) ∷ (inserted_slots (before ++ (d ∷ [])) row (path_aliases space (Id (fresh k)) q ps z (suc k)) ++ rest)) =
      unfold export_alias in (rw more at st) in
      let ds' : table_of env ≡ before ++ (d ∷ (heads_decls (path_aliases space (Id (fresh k)) q ps z (suc k)) ++ after)) = unfold heads_decls export_alias in (rw more at ds) in
      let ten : instances_of space ≡ 10 = sym (no! _ (omega tests) refl) in
      let found : index_in (table_of env) (instances_of space) (Id (fresh k)) ≡ some (count 10 before) = rw (ten, ds') (find_new before d _ u) in (
        rw more (inserted_more env outside _ h _ _ (rw (alias_operands (code_for space) 10 (fresh k) (instances_of space) at p z) soon) (alias_ok env outside (code_for space) 10 (fresh k) (instances_of space) at p z n ei) (chain_goes ps q (Id (fresh k)) (suc k) (i + 1) (count 10 before) (l - 1) out (moved_on s 0 (s.next + 1)) (before ++ (d ∷ [])) after rest (fresh_in_time env outside (instances_of space) k z) (λ g. seven) found rows.1 (left_next names to s.next _ _ st').rest (ds' ∙ sym (append_assoc before (d ∷ []) _)) (under_new 10 k z before u)).0),
        rw (chain_step field names to row i out s l (suc (length ps)) before _ 10 (fresh k) (instances_of space) n at p z (omega arith) rows.0 st')
            (chained_more s out (suc (length ps)) h _ _ (λ to' out'. (chain_goes ps q (Id (fresh k)) (suc k) (i + 1) (count 10 before) (l - 1) out' (moved_on s to' (s.next + 1)) (before ++ (d ∷ [])) after rest (fresh_in_time env outside (instances_of space) k z) (λ g. seven) found rows.1 (left_next names to s.next _ _ st').rest (ds' ∙ sym (append_assoc before (d ∷ []) _)) (under_new 10 k z before u)).1)),
      )
