-- The search for a declaration goes through the rows of a scope's fields as through the scope's declarations.
use Rattle.std.specs.Prelude.{◌≡◌, ◌&&◌, Option as CodeOption, Some, None}
use Rattle.std.proofs.Math.Path.{refl, ap, subst}
use Rattle.std.proofs.Common.{sym, ◌∙◌, arith}
use Rattle.std.proofs.Math.Bool.{false}
use Rattle.std.proofs.Math.Option.{Option, none, some}
use mathlib.Core.List.{List, [], ◌∷◌, ◌++◌, append_assoc}
use Rattle.std.proofs.Math.Numerals.{add-one}
use Prim.Native.Nat.{ℕ, suc, ◌+◌, ◌-◌, ◌≤◌}
use Rattle.std.proofs.Math.Dec.{eqb}
use Rattle.std.proofs.Math.ListN.{length, length-append}
use Rattle.kit.specs.Pick.{pick}
use Rattle.kit.proofs.Laws.{tests}
use Rattle.rules.specs.Tools.{when◌then◌else◌}
use Rattle.rules.specs.Rows.{Row, Decl, Close, encode}
use Rattle.rules.specs.Tree.{Declaration, Operand, ref, outer, case, Head, Scope, scope, Fields, end, ◌▸◌, Item, plain, holds, head_of, flatten, fields_rows, item_rows, head_rows, decl_rows, path_rows, operand_row, operand_rows, export_rows}
use Rattle.rules.specs.Readings.{is_inserted, Standing, in_original, in_inserted}
use Rattle.rules.specs.Laws.ToolLaws.{All, done, ◌&◌, all_append}
use Rattle.places.specs.PlaceRows.{Located, in_rows, located}
use Rattle.places.proofs.RowAt.{decls_of, own_decls}
use Rattle.row_parts.specs.Parts.{code_at, b_at, x_at, rows_in}
use Rattle.scopes.specs.Scopes.{level_behind, declares, is_meant, find_from, find_in}
use Rattle.scopes.specs.declared.Key.{Key}
use Rattle.reading_laws.specs.Stand.{Is, At, code_part, b_part, x_part, behind, behind_length, behind_append, at_left, at_right}
use Rattle.reading_laws.specs.Even.{code_of, Even, nothing, flat, nest, fields_even}
use Rattle.scopes.specs.declared.Found.{Found}

-- ---- turns of the search: one for each row

abbrev pub turns : List Row → (left : ℕ) → ℕ
turns [] left = left
turns (r ∷ rs) left = suc (turns rs left)

turns_append : (xs ys : List Row) (left : ℕ) → turns (xs ++ ys) left ≡ turns xs (turns ys left)
turns_append [] ys left = refl
turns_append (x ∷ xs) ys left = ap suc (turns_append xs ys left)

pub turns_length : (rs : List Row) (left : ℕ) → turns rs left ≡ length rs + left
turns_length [] left = omega arith
turns_length (r ∷ rs) left = let e = turns_length rs left in omega (arith, e)

-- ---- rows that declare nothing

pub record Plain (r : Row) : Type 0 where
  pub not_decl_lem : eqb (code_of r) 2 ≡ false
  pub not_open_lem : eqb (code_of r) 7 ≡ false
  pub not_close : eqb (code_of r) 8 ≡ false

paths_plain : (ps : List ℕ) → All Plain (path_rows ps)
unfolding path_rows encode
paths_plain [] = done
paths_plain (p ∷ ps) = record { not_decl_lem = refl; not_open_lem = refl; not_close = refl } & paths_plain ps

operand_plain : (o : Operand) → All Plain (operand_row o)
unfolding operand_row encode
operand_plain (ref space at paths z) = record { not_decl_lem = refl; not_open_lem = refl; not_close = refl } & paths_plain paths
operand_plain (outer space up at z) = record { not_decl_lem = refl; not_open_lem = refl; not_close = refl } & done
operand_plain (case name z) = record { not_decl_lem = refl; not_open_lem = refl; not_close = refl } & done

operands_plain : (os : List Operand) → All Plain (operand_rows os)
unfolding operand_rows
operands_plain [] = done
operands_plain (o ∷ os) = all_append _ _ (operand_plain o) (operands_plain os)

export_plain : (o : Option ℕ) → All Plain (export_rows o)
unfolding export_rows encode
export_plain none = done
export_plain (some n) = record { not_decl_lem = refl; not_open_lem = refl; not_close = refl } & done

flat_level : (level c : ℕ) → eqb c 7 ≡ false → eqb c 8 ≡ false → level_behind level c ≡ level
unfolding level_behind pick
flat_level level c o e = rw (o, e)

in_one : (level : ℕ) → level_behind level 7 ≡ level + 1
unfolding level_behind pick
in_one level = refl

out_one : (level : ℕ) → level_behind (level + 1) 8 ≡ level
unfolding level_behind pick
out_one level = omega arith

-- ---- the declarations of a scope, gone through

-- the first of a space by a name or a number, with `number` of that space before
unfoldable pub search : (space : ℕ) → Key → (number : ℕ) → List Located → CodeOption Found
search space key number [] = None
search space key number (x ∷ xs) =
    let here = eqb x.standing.decl.space space in
    pick (here && is_meant key x.standing.decl.name number) (Some (record { row = x.row; number = number }))
    (search space key (pick here (number + 1) number) xs)

module _ (form : List ℕ) (space : ℕ) (key : Key) where
  abbrev from : (row left level number : ℕ) → CodeOption Found
  from row left level number = find_from form space key row left level number

  -- inside another scope
  deep_step : (row left level number c : ℕ) → code_at form row ≡ c → from row (suc left) (level + 1) number ≡ from (row + 1) left (level_behind (level + 1) c) number
  unfolding find_from declares pick
  deep_step row left level number c e = let deep : eqb (level + 1) 0 ≡ false = omega tests in rw (e, deep)

  -- in the scope itself
  plain_step : (row left number c : ℕ) → code_at form row ≡ c → eqb c 2 ≡ false → eqb c 7 ≡ false → eqb c 8 ≡ false → from row (suc left) 0 number ≡ from (row + 1) left 0 number
  unfolding find_from declares level_behind pick
  plain_step row left number c e d o z = rw (e, d, o, z)

  open_step : (row left number : ℕ) → code_at form row ≡ 7 → from row (suc left) 0 number ≡ from (row + 1) left (0 + 1) number
  unfolding find_from declares level_behind pick
  open_step row left number e = rw e

  close_step : (row left number : ℕ) → code_at form row ≡ 8 → from row (suc left) 0 number ≡ None
  unfolding find_from pick
  close_step row left number e = rw e

  decl_step : (row left number : ℕ) (d : Declaration) → Is form row (Decl d.space d.name d.z)
      → from row (suc left) 0 number
      ≡ pick (eqb d.space space && is_meant key d.name number) (Some (record { row = row; number = number })) (from (row + 1) left 0 (pick (eqb d.space space) (number + 1) number))
  unfolding find_from declares level_behind encode pick
  decl_step row left number d e =
      let c : code_at form row ≡ 2 = ap code_part e in
      let b : b_at form row ≡ d.space = ap b_part e in
      let x : x_at form row ≡ d.name = ap x_part e in
      rw (c, b, x)

  pass_deep : {rs : List Row} → Even rs → (row left level number : ℕ) → At form row rs → from row (turns rs left) (level + 1) number ≡ from (behind row rs) left (level + 1) number
  unfolding encode
  pass_deep nothing row left level number a = refl
  pass_deep (flat {r = r} {rs = rs} f e) row left level number a =
      deep_step row (turns rs left) level number (code_of r) (ap code_part a.0)
      ∙ ap (λ (l : ℕ). from (row + 1) (turns rs left) l number) (flat_level (level + 1) (code_of r) f.not_open_lem f.not_close)
      ∙ pass_deep e (row + 1) left level number a.1
  pass_deep (nest {kind = kind} {name = name} {rs = rs} {more = more} e m) row left level number a =
      let inner = at_left form (row + 1) rs (Close ∷ more) a.1 in
      let rest = at_right form (row + 1) rs (Close ∷ more) a.1 in
      let last = behind (row + 1) rs in
      deep_step row (turns (rs ++ (Close ∷ more)) left) level number 7 (ap code_part a.0)
      ∙ ap (λ (l : ℕ). from (row + 1) (turns (rs ++ (Close ∷ more)) left) l number) (in_one (level + 1))
      ∙ ap (λ (n : ℕ). from (row + 1) n (level + 1 + 1) number) (turns_append rs (Close ∷ more) left)
      ∙ pass_deep e (row + 1) (suc (turns more left)) (level + 1) number inner
      ∙ deep_step last (turns more left) (level + 1) number 8 (ap code_part rest.0)
      ∙ ap (λ (l : ℕ). from (last + 1) (turns more left) l number) (out_one (level + 1))
      ∙ pass_deep m (last + 1) left level number rest.1
      ∙ ap (λ (n : ℕ). from n left (level + 1) number) (sym (behind_append (row + 1) rs (Close ∷ more)))

  pass_plain : (rs : List Row) → All Plain rs → (row left number : ℕ) → At form row rs → from row (turns rs left) 0 number ≡ from (behind row rs) left 0 number
  pass_plain [] p row left number a = refl
  pass_plain (r ∷ rs) (p & ps) row left number a =
      plain_step row (turns rs left) number (code_of r) (ap code_part a.0) p.not_decl_lem p.not_open_lem p.not_close ∙ pass_plain rs ps (row + 1) left number a.1

  pass_scope : (s : Scope) (row left number : ℕ) → At form row (flatten s) → from row (turns (flatten s) left) 0 number ≡ from (behind row (flatten s)) left 0 number
  unfolding flatten encode
  pass_scope (scope kind name fs) row left number a =
      let rs = fields_rows fs in
      let inner = at_left form (row + 1) rs (Close ∷ []) a.1 in
      let rest = at_right form (row + 1) rs (Close ∷ []) a.1 in
      let last = behind (row + 1) rs in
      open_step row (turns (rs ++ (Close ∷ [])) left) number (ap code_part a.0)
      ∙ ap (λ (n : ℕ). from (row + 1) n (0 + 1) number) (turns_append rs (Close ∷ []) left)
      ∙ pass_deep (fields_even fs) (row + 1) (suc left) 0 number inner
      ∙ deep_step last left 0 number 8 (ap code_part rest.0)
      ∙ ap (λ (l : ℕ). from (last + 1) left l number) (out_one 0)
      ∙ ap (λ (n : ℕ). from n left 0 number) (sym (behind_append (row + 1) rs (Close ∷ [])))

  -- the DECLs of a field, whatever follows them
  scan_decls : (ss : List Standing) (row left number : ℕ) (rest : List Located) → At form row (decl_rows (decls_of ss))
      → ((n : ℕ) → from (behind row (decl_rows (decls_of ss))) left 0 n ≡ search space key n rest)
      → from row (turns (decl_rows (decls_of ss)) left) 0 number ≡ search space key number (in_rows row ss ++ rest)
  unfolding in_rows decl_rows search
  scan_decls [] row left number rest a K = K number
  scan_decls (s ∷ ss) row left number rest a K =
      let t = eqb s.decl.space space in
      let next : row + 1 ≡ suc row = add-one row in
      decl_step row (turns (decl_rows (decls_of ss)) left) number s.decl a.0
      ∙ ap (λ (x : CodeOption Found). pick (t && is_meant key s.decl.name number) (Some (record { row = row; number = number })) x)
      (scan_decls ss (row + 1) left (pick t (number + 1) number) rest a.1 K ∙ ap (λ (n : ℕ). search space key (pick t (number + 1) number) (in_rows n ss ++ rest)) next)

  -- a field without the scope that it may hold
  scan_head : (h : Head) (own : List Standing) → decls_of own ≡ h.decls → (row left number : ℕ) (rest : List Located) → At form row (head_rows h)
      → ((n : ℕ) → from (behind row (head_rows h)) left 0 n ≡ search space key n rest)
      → from row (turns (head_rows h) left) 0 number ≡ search space key number (in_rows (row + 1) own ++ rest)
  unfolding head_rows encode
  scan_head h own e row left number rest a K =
      let ds = decl_rows h.decls in
      let os = operand_rows h.operands ++ export_rows h.export in
      let plain_rows = all_append _ _ (operands_plain h.operands) (export_plain h.export) in
      let first = at_left form (row + 1) ds os a.1 in
      let others = at_right form (row + 1) ds os a.1 in
      let last = behind (row + 1) ds in
      let K' : (n : ℕ) → from last (turns os left) 0 n ≡ search space key n rest =
      λ n. pass_plain os plain_rows last left n others ∙ (ap (λ (m : ℕ). from m left 0 n) (sym (behind_append (row + 1) ds os)) ∙ K n) in
      plain_step row (turns (ds ++ os) left) number 1 (ap code_part a.0) refl refl refl
      ∙ ap (λ (m : ℕ). from (row + 1) m 0 number) (turns_append ds os left)
      ∙ subst (λ (l : List Declaration). At form (row + 1) (decl_rows l) → ((n : ℕ) → from (behind (row + 1) (decl_rows l)) (turns os left) 0 n ≡ search space key n rest)
      → from (row + 1) (turns (decl_rows l) (turns os left)) 0 number ≡ search space key number (in_rows (row + 1) own ++ rest)) e
      (scan_decls own (row + 1) (turns os left) number rest) first K'

  scan_item : (i : Item) (own : List Standing) → decls_of own ≡ (head_of i).decls → (row left number : ℕ) (rest : List Located) → At form row (item_rows i)
      → ((n : ℕ) → from (behind row (item_rows i)) left 0 n ≡ search space key n rest)
      → from row (turns (item_rows i) left) 0 number ≡ search space key number (in_rows (row + 1) own ++ rest)
  unfolding flatten head_of
  scan_item (plain h) own e row left number rest a K = scan_head h own e row left number rest a K
  scan_item (holds h s) own e row left number rest a K =
      let head = at_left form row (head_rows h) (flatten s) a in
      let inner = at_right form row (head_rows h) (flatten s) a in
      let last = behind row (head_rows h) in
      let K' : (n : ℕ) → from last (turns (flatten s) left) 0 n ≡ search space key n rest =
      λ n. pass_scope s last left n inner ∙ (ap (λ (m : ℕ). from m left 0 n) (sym (behind_append row (head_rows h) (flatten s))) ∙ K n) in
      ap (λ (m : ℕ). from row m 0 number) (turns_append (head_rows h) (flatten s) left) ∙ scan_head h own e row (turns (flatten s) left) number rest head K'

  -- all fields of a scope, and its CLOSE
  scan_fields : (fs : Fields) (n row left number : ℕ) → At form row (fields_rows fs ++ (Close ∷ [])) → from row (turns (fields_rows fs ++ (Close ∷ [])) left) 0 number ≡ search space key number (located row n fs)
  unfolding flatten located search encode
  scan_fields end n row left number a = close_step row left number (ap code_part a.0)
  scan_fields (i ▸ fs) n row left number a =
      let rest = fields_rows fs ++ (Close ∷ []) in
      let own = when is_inserted (head_of i) then in_inserted (head_of i) (head_of i).decls else in_original n 0 (head_of i).decls in
      let next = when is_inserted (head_of i) then n else suc n in
      let split = append_assoc (item_rows i) (fields_rows fs) (Close ∷ []) in
      let all : At form row (item_rows i ++ rest) = subst (At form row) split a in
      let item = at_left form row (item_rows i) rest all in
      let others = at_right form row (item_rows i) rest all in
      let last = behind row (item_rows i) in
      let K : (m : ℕ) → from last (turns rest left) 0 m ≡ search space key m (located (row + length (item_rows i)) next fs) =
      λ m. (scan_fields fs next last left m others ∙ ap (λ (r : ℕ). search space key m (located r next fs)) (behind_length row (item_rows i))) in
      ap (λ (l : List Row). from row (turns l left) 0 number) split
      ∙ ap (λ (m : ℕ). from row m 0 number) (turns_append (item_rows i) rest left)
      ∙ scan_item i own (own_decls (is_inserted (head_of i)) n (head_of i)) row (turns rest left) number (located (row + length (item_rows i)) next fs) item K
      ∙ ap (λ (r : ℕ). search space key number (in_rows r own ++ located (row + length (item_rows i)) next fs)) (add-one row)

  -- The search in a scope whose fields and CLOSE stand from its row on.
  pub find_in_lem : (fs : Fields) (row : ℕ) → At form row (fields_rows fs ++ (Close ∷ [])) → row + length (fields_rows fs) + 1 ≤ rows_in form → find_in form row space key ≡ search space key 0 (located row 0 fs)
  unfolding find_in
  find_in_lem fs row a fits =
      let rs = fields_rows fs ++ (Close ∷ []) in
      let n = length-append (fields_rows fs) (Close ∷ []) in
      let left = rows_in form - (row + length rs) in
      let t = turns_length rs left in
      let e : rows_in form - row ≡ turns rs left = omega (arith, n, t, fits) in
      ap (λ (m : ℕ). from row m 0 0) e ∙ scan_fields fs 0 row left 0 a
