-- The rows of a tree as the code sees them: by their parts.
use Rattle.std.specs.Prelude.{◌≡◌, refl, Bool, true, false, ◌||◌, List, [], ◌∷◌, ◌++◌, map, ℕ, suc, ◌+◌, ◌<◌, ◌≤◌, length, eqb, leb}
use Rattle.std.proofs.Common.{ap, arith, length-append}
use Rattle.std.proofs.Math.Option.{Option, none, some}
use Rattle.rules.specs.Rows.{Raw, raw, Row, Field, Decl, Ref, Path, Outer, Case, Open, Close, Export, encode}
use Rattle.rules.specs.Tree.{Declaration, Operand, ref, outer, case, Head, Scope, scope, Fields, end, ◌▸◌, Item, plain, holds, head_of, decl_rows, path_rows, operand_row, operand_rows, export_rows, head_rows, flatten, fields_rows, item_rows}
use Rattle.rules.specs.Readings
use Rattle.rules.specs.Laws.ToolLaws.{All, done, ◌&◌, all_append}
use Rattle.claim_rows.specs.Added.{any_fresh}
use Rattle.kit.specs.Pick.{pick}
use Rattle.parts.specs.PartsAt.{parts}
use Rattle.parts.specs.declared.Parts.{Parts}

abbrev pub of_raw : Raw → Parts
of_raw (raw code b e x y z) = parts code b e x y z

unfoldable pub as_parts : Row → Parts
as_parts r = of_raw (encode r)

unfoldable pub all_parts : List Row → List Parts
all_parts rs = map as_parts rs

abbrev pub code_in : Row → ℕ
code_in r = (as_parts r).code

-- the first of these is no DECL
abbrev pub NoDecl : List Row → Type 0
NoDecl [] = Unit {0}
NoDecl (r ∷ rs) = eqb (code_in r) 2 ≡ false

pub operands_no_decl : (os : List Operand) (x : Option ℕ) (ys : List Row) → NoDecl ys → NoDecl (operand_rows os ++ (export_rows x ++ ys))
unfolding operand_rows operand_row export_rows as_parts encode
operands_no_decl [] none ys n = n
operands_no_decl [] (some e) ys n = refl
operands_no_decl (ref space at paths z ∷ os) x ys n = refl
operands_no_decl (outer space up at z ∷ os) x ys n = refl
operands_no_decl (case name z ∷ os) x ys n = refl

pick_or : (a b : Bool) → pick a true b ≡ a || b
unfolding pick
pick_or true b = refl
pick_or false b = refl

-- fields and the CLOSE behind them, and a scope, begin with no DECL
pub fields_no_decl : (fs : Fields) (zs : List Row) → NoDecl (fields_rows fs ++ (Close ∷ zs))
unfolding flatten head_rows as_parts encode
fields_no_decl end zs = refl
fields_no_decl (plain h ▸ fs) zs = refl
fields_no_decl (holds h s ▸ fs) zs = refl

pub scope_no_decl : (s : Scope) (ys : List Row) → NoDecl (flatten s ++ ys)
unfolding flatten as_parts encode
scope_no_decl (scope kind name fs) ys = refl

-- a field is known to be added by the DECLs behind its FIELD
pub any_fresh_lem : (ds : List Declaration) (ys : List Row) → NoDecl ys → any_fresh (all_parts (decl_rows ds ++ ys)) ≡ Readings.any_fresh ds
unfolding any_fresh all_parts decl_rows Readings.any_fresh Readings.is_fresh as_parts encode pick
any_fresh_lem [] [] n = refl
any_fresh_lem [] (y ∷ ys) n = rw n
any_fresh_lem (d ∷ ds) ys n = rw (any_fresh_lem ds ys n) (pick_or (leb 2147483648 d.name) (Readings.any_fresh ds))

-- the rows of a field behind its FIELD, without the scope that it may hold
unfoldable pub behind_field : Head → List Row
behind_field h = decl_rows h.decls ++ (operand_rows h.operands ++ export_rows h.export)

-- ---- a row of a field behind its FIELD is no FIELD, OPEN or CLOSE

pub record Inner (r : Row) : Type 0 where
  pub no_field : code_in r ≡ 1 → ⊥
  pub no_open : code_in r ≡ 7 → ⊥
  pub no_close : code_in r ≡ 8 → ⊥

pub inner : (r : Row) → (code_in r ≡ 1 → ⊥) → (code_in r ≡ 7 → ⊥) → (code_in r ≡ 8 → ⊥) → Inner r
inner r f g h = record { no_field = f; no_open = g; no_close = h }

inner_decls : (ds : List Declaration) → All Inner (decl_rows ds)
unfolding decl_rows as_parts encode
inner_decls [] = done
inner_decls (d ∷ ds) = inner (Decl d.space d.name d.z) (omega arith) (omega arith) (omega arith) & inner_decls ds

inner_paths : (ps : List ℕ) → All Inner (path_rows ps)
unfolding path_rows as_parts encode
inner_paths [] = done
inner_paths (p ∷ ps) = inner (Path p) (omega arith) (omega arith) (omega arith) & inner_paths ps

inner_operand : (o : Operand) → All Inner (operand_row o)
unfolding operand_row as_parts encode
inner_operand (ref space at paths z) = inner (Ref space at (length paths) z) (omega arith) (omega arith) (omega arith) & inner_paths paths
inner_operand (outer space up at z) = inner (Outer space up at z) (omega arith) (omega arith) (omega arith) & done
inner_operand (case name z) = inner (Case name z) (omega arith) (omega arith) (omega arith) & done

inner_operands : (os : List Operand) → All Inner (operand_rows os)
unfolding operand_rows
inner_operands [] = done
inner_operands (o ∷ os) = all_append (operand_row o) (operand_rows os) (inner_operand o) (inner_operands os)

inner_export : (x : Option ℕ) → All Inner (export_rows x)
unfolding export_rows as_parts encode
inner_export none = done
inner_export (some n) = inner (Export n) (omega arith) (omega arith) (omega arith) & done

pub inner_behind : (h : Head) → All Inner (behind_field h)
unfolding behind_field
inner_behind h =
    all_append (decl_rows h.decls) (operand_rows h.operands ++ export_rows h.export) (inner_decls h.decls)
    (all_append (operand_rows h.operands) (export_rows h.export) (inner_operands h.operands) (inner_export h.export))

-- ---- how many rows there are

pub scope_size : (kind name : ℕ) (fs : Fields) → length (flatten (scope kind name fs)) ≡ 2 + length (fields_rows fs)
unfolding flatten
scope_size kind name fs = omega (arith, length-append (fields_rows fs) (Close ∷ []))

pub fields_size : (i : Item) (fs : Fields) → length (fields_rows (i ▸ fs)) ≡ length (item_rows i) + length (fields_rows fs)
unfolding flatten
fields_size i fs = length-append (item_rows i) (fields_rows fs)

pub holds_size : (h : Head) (s : Scope) → length (item_rows (holds h s)) ≡ length (head_rows h) + length (flatten s)
unfolding flatten
holds_size h s = length-append (head_rows h) (flatten s)

pub head_size : (h : Head) → length (head_rows h) ≡ suc (length (behind_field h))
unfolding head_rows behind_field
head_size h = refl

pub decls_size : (ds : List Declaration) → length (decl_rows ds) ≡ length ds
unfolding decl_rows
decls_size [] = refl
decls_size (d ∷ ds) = ap suc (decls_size ds)

-- at least one for each DECL
pub head_decls_size : (h : Head) → length h.decls < length (head_rows h)
unfolding head_rows
head_decls_size h = omega (arith, length-append (decl_rows h.decls) (operand_rows h.operands ++ export_rows h.export), decls_size h.decls)

pub item_size : (i : Item) → length (head_rows (head_of i)) ≤ length (item_rows i)
unfolding flatten head_of
item_size (plain h) = omega arith
item_size (holds h s) = let e = holds_size h s in omega arith

-- ---- rows that stand from row n on

abbrev pub Stands : (at : ℕ → Parts) (n : ℕ) → List Row → Type 0
Stands at n [] = Unit {0}
Stands at n (r ∷ rs) = (at n ≡ as_parts r) × Stands at (suc n) rs

pub stands_first : (at : ℕ → Parts) (n : ℕ) (xs ys : List Row) → Stands at n (xs ++ ys) → Stands at n xs
stands_first at n [] ys s = tt
stands_first at n (x ∷ xs) ys s = (s.0, stands_first at (suc n) xs ys s.1)

pub stands_second : (at : ℕ → Parts) (n : ℕ) (xs ys : List Row) → Stands at n (xs ++ ys) → Stands at (n + length xs) ys
stands_second at n [] ys s = let e : n + 0 ≡ n = omega arith in rw e s
stands_second at n (x ∷ xs) ys s = let e : suc n + length xs ≡ n + suc (length xs) = omega arith in rw e at (stands_second at (suc n) xs ys s.1)
