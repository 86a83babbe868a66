-- How much a run inserts: every insertion uses up a row of the input.
use Rattle.std.specs.Prelude.{◌≡◌, length}
use Rattle.std.proofs.Math.Path.{refl, ap}
use Rattle.std.proofs.Math.Option.{Option, none, some}
use mathlib.Core.List.{List, [], ◌∷◌, ◌++◌}
use Prim.Native.Nat.{ℕ, suc, ◌+◌, ◌≤◌}
use Rattle.std.proofs.Common.{arith}
use Rattle.std.proofs.Math.ListN.{length-append}
use Rattle.rules.specs.Rows.{Index, Num, Id}
use Rattle.rules.specs.Tree.{Declaration, Operand, ref, outer, case, Head, scope, Fields, end, ◌▸◌, head_of, decl_rows, operand_row, operand_rows, head_rows, flatten, fields_rows}
use Rattle.rules.specs.Rules
use Rattle.rules.specs.Rules.{Outside, onward, Expanded, heads_decls, expand_operand, expand_operands, expand_head, expand_fields, path_aliases, prepare}
use Rattle.rules.specs.Laws.Entries.{field_length}
use Rattle.rules.specs.Laws.Results.{OkR, bind_ok, bind_any, if_both}
use Rattle.rules.proofs.Laws.Output.FourTimes.{inner, item_size, fields_size, head_length, paths_length}

-- the rows of a scope's fields without the scopes that they hold, and the rows of those scopes
unfoldable pub own : Fields → ℕ
own end = 0
own (i ▸ fs) = length (head_rows (head_of i)) + own fs

unfoldable pub deep : Fields → ℕ
deep end = 0
deep (i ▸ fs) = inner i + deep fs

pub rows_split : (fs : Fields) → length (fields_rows fs) ≡ own fs + deep fs
unfolding own deep
rows_split end = unfold flatten in refl
rows_split (i ▸ fs) = omega (arith, fields_size i fs, item_size i, rows_split fs)

pub scope_split : (kind name : ℕ) (fs : Fields) → length (flatten (scope kind name fs)) ≡ 2 + (own fs + deep fs)
unfolding flatten
scope_split kind name fs = simp length-append (omega (arith, rows_split fs))

-- ---- step B

-- this many declarations are inserted, each with a number of its own
abbrev pub Counts : {A : Type 0} → (k rows : ℕ) → Expanded A → Type 0
Counts k rows e = (e.k ≤ k + rows) × (length (heads_decls e.inserted) ≤ rows)

decls_append : (xs ys : List Head) → length (heads_decls (xs ++ ys)) ≡ length (heads_decls xs) + length (heads_decls ys)
unfolding heads_decls
decls_append [] ys = omega arith
decls_append (x ∷ xs) ys = simp length-append (omega (arith, decls_append xs ys, length-append x.decls (heads_decls (xs ++ ys)), length-append x.decls (heads_decls xs)))

aliases_count : (space : ℕ) (at : Index) (p : ℕ) (ps : List ℕ) (z k : ℕ) → length (heads_decls (path_aliases space at p ps z k)) ≡ suc (length ps)
unfolding heads_decls path_aliases Rules.export_alias
aliases_count space at p [] z k = if_both (λ (h : Head). length (heads_decls (h ∷ [])) ≡ 1) _ _ _ refl refl
aliases_count space at p (q ∷ ps) z k = ap suc (aliases_count space (Id (Rules.fresh k)) q ps z (suc k))

same_counts : {A : Type 0} (a : A) (k rows : ℕ) → Counts k rows (Rules.as_it_is a k)
unfolding Rules.as_it_is heads_decls
same_counts a k rows = (omega arith, omega arith)

found_counts : (space name z k rows : ℕ) (o : Option (ℕ × ℕ)) → 1 ≤ rows → OkR (Counts k rows) (Rules.found_at space name z k o)
unfolding Rules.found_at Rules.through Rules.outer_alias heads_decls
found_counts space name z k rows none h = same_counts _ k rows
found_counts space name z k rows (some at) h = if_both (OkR _) _ _ _ (omega arith, h) tt

module _ (here : List Declaration) (outside : Outside) where
  pub operand_counts : (k : ℕ) (o : Operand) → OkR (Counts k (length (operand_row o))) (expand_operand here outside k o)
  unfolding expand_operand Rules.through operand_row
  operand_counts k (ref space (Num n) [] z) = same_counts _ k _
  operand_counts k (ref space (Id name) [] z) = bind_any _ _ _ (λ u. if_both (OkR _) _ _ _ (same_counts _ k _) (found_counts space name z k _ _ (omega arith)))
  operand_counts k (ref space at (p ∷ ps) z) =
      if_both (OkR _) _ _ _ tt (omega (arith, paths_length (p ∷ ps)), omega (arith, paths_length (p ∷ ps), aliases_count space at p ps z k))
  operand_counts k (outer space up at z) = same_counts _ k _
  operand_counts k (case name z) = same_counts _ k _

  operands_count : (k : ℕ) (os : List Operand) → OkR (Counts k (length (operand_rows os))) (expand_operands here outside k os)
  unfolding expand_operands operand_rows
  operands_count k [] = same_counts _ k _
  operands_count k (o ∷ os) = bind_ok _ _ _ _ (operand_counts k o) (λ e f. bind_ok _ _ _ _ (operands_count e.k os) (λ es g.
      (omega (arith, length-append (operand_row o) (operand_rows os)), omega (arith, length-append (operand_row o) (operand_rows os), decls_append e.inserted es.inserted))))

  pub record HeadCounts (k : ℕ) (h : Head) (e : Expanded Head) : Type 0 where
    pub numbers : e.k ≤ k + length (head_rows h)
    pub decls : length (heads_decls e.inserted) + length h.decls ≤ length (head_rows h)

  decls_length : (ds : List Declaration) → length (decl_rows ds) ≡ length ds
  unfolding decl_rows
  decls_length [] = refl
  decls_length (d ∷ ds) = ap suc (decls_length ds)

  pub head_counts : (k : ℕ) (h : Head) → OkR (HeadCounts k h) (expand_head here outside k h)
  unfolding expand_head
  head_counts k h =
      let s : Counts k 0 (Rules.as_it_is h k) = same_counts h k 0 in
      if_both (OkR _) _ _ _ (record { numbers = omega arith; decls = omega (arith, s.1, head_length h, decls_length h.decls) })
      (bind_ok _ _ _ _ (operands_count k h.operands) (λ e f.
      record { numbers = omega (arith, head_length h); decls = omega (arith, head_length h, decls_length h.decls) }))

pub fields_count : (here : List Declaration) (outside : Outside) (k : ℕ) (fs : Fields) → OkR (λ r. (r.1 ≤ k + own fs) × (length r.0 ≤ own fs)) (expand_fields here outside k fs)
unfolding expand_fields own
fields_count here outside k end = (omega arith, omega arith)
fields_count here outside k (i ▸ fs) = bind_ok _ _ _ _ (head_counts here outside k (head_of i)) (λ e f. bind_ok _ _ _ _ (fields_count here (onward i outside) e.k fs) (λ r g.
    (omega arith, omega (arith, f.decls, field_length (outside.before.row + suc (length (head_of i).decls)) (suc outside.before.row) e.inserted e.rows (head_of i).decls r.0))))

pub prepare_counts : (name : ℕ) (fs : Fields) (outside : Outside) (k : ℕ) → OkR (λ e. (length e.0.entries ≤ own fs) × (e.1 ≤ k + own fs)) (prepare name fs outside k)
unfolding prepare
prepare_counts name fs outside k = bind_any _ _ _ (λ here. bind_ok _ _ _ _ (fields_count here outside k fs) (λ r g. (g.1, g.0)))
