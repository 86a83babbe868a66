-- The first pass: of the rows of a tree it notes the number of each declaration, and of each OUTER where its scope begins.
use Rattle.std.specs.Prelude.{◌≡◌, Bool, true, false, eqb, leb, ltb, get_or, set, replicate}
use Rattle.std.proofs.Math.Path.{refl, ap}
use Rattle.std.proofs.Common.{sym, ap₂, ◌∙◌, arith, add-one, length-set, get_or-set_same, get_or-set_other, lt-ltb, eq-eqb, ne_eqb, eqb-true}
use Rattle.std.proofs.Math.Option.{Option, none, some}
use mathlib.Core.List.{List, [], ◌∷◌, ◌++◌, map, append_assoc, append-nil}
use Prim.Native.Nat.{ℕ, zero, suc, max, ◌+◌, ◌%◌, ◌<◌, ◌≤◌}
use Rattle.std.proofs.Math.Nat.{le-max_left, le-max_right}
use Rattle.std.proofs.Math.ListN.{length, length-append}
use Rattle.std.proofs.lemmas.List.{length-replicate}
use Rattle.std.proofs.lemmas.Bool.{lt-leb, eqb-false}
use Rattle.kit.specs.Pick.{pick}
use Rattle.kit.proofs.Laws.{copies_at}
use Rattle.rules.specs.Tools.{when◌then◌else◌}
use Rattle.rules.specs.Versions.{RuleSet}
use Rattle.rules.specs.Laws.ToolLaws.{All, done, ◌&◌}
use Rattle.rules.specs.Rows.{Index, Row, Field, Decl, Ref, Path, Outer, Case, Open, Close, Export, encode, number}
use Rattle.rules.specs.Tree.{Declaration, Operand, ref, outer, case, Head, Scope, scope, Fields, end, ◌▸◌, Item, plain, holds, head_of, decl_rows, path_rows, operand_row, operand_rows, export_rows, head_rows, flatten, fields_rows, item_rows}
use Rattle.rules.specs.Rules.{declarations}
use Rattle.rules.specs.Good.{GoodHead, GoodScope, GoodFields, GoodItem, height, heights, height_item}
use Rattle.unresolving.specs.Back.{names_in}
use Rattle.parts.specs.declared.Parts.{Parts}
use Rattle.claim_scopes.specs.Open.{open_scope_t, row_in, here_t, open_closed_t, open_one_t}
use Rattle.claim_numbers.specs.Count.{no_counts, more_count_t, number_in, more_in, less_in, number_before_t, counts_t}
use Rattle.claim_laws.specs.RowParts.{as_parts, all_parts, code_in, scope_size, fields_size, holds_size}
use Rattle.agree.specs.Fit.Spaces.{SpacesDecls}
use Rattle.agree.specs.Fit.GoodSpaces.{head_decls}
use Rattle.agree.specs.Tables.SlotLaws.{decl_rows_length}
use Rattle.back_notes.specs.Note.{Note, note, no_note}
use Rattle.back_notes.specs.Number.{out_t, note_t, notes_t}

-- ---- the notes of a tree's rows; k is the row of the scope's OPEN, `ks` are those of the scopes around it, `past` its declarations so far

-- the scope so far out
unfoldable pub row_out : List ℕ → (far : ℕ) → ℕ
row_out [] far = 65535
row_out (k ∷ ks) zero = k
row_out (k ∷ ks) (suc far) = row_out ks far

unfoldable pub decl_notes : (k : ℕ) (past ds : List Declaration) → List Note
decl_notes k past [] = []
decl_notes k past (d ∷ ds) = note (length (names_in past d.space)) k ∷ decl_notes k (past ++ (d ∷ [])) ds

unfoldable pub blank_notes : List Row → List Note
blank_notes [] = []
blank_notes (r ∷ rs) = no_note ∷ blank_notes rs

unfoldable pub operand_notes : (ks : List ℕ) → Operand → List Note
operand_notes ks (ref space at paths z) = blank_notes (operand_row (ref space at paths z))
operand_notes ks (outer space up at z) = note 0 (row_out ks (number up)) ∷ []
operand_notes ks (case name z) = no_note ∷ []

unfoldable pub operands_notes : (ks : List ℕ) → List Operand → List Note
operands_notes ks [] = []
operands_notes ks (o ∷ os) = operand_notes ks o ++ operands_notes ks os

unfoldable pub head_notes : (k : ℕ) (ks : List ℕ) (past : List Declaration) → Head → List Note
head_notes k ks past h = no_note ∷ (decl_notes k past h.decls ++ (operands_notes (k ∷ ks) h.operands ++ blank_notes (export_rows h.export)))

-- row n is the scope's OPEN, the first field, or what follows the item's head
unfoldable mutual
  pub scope_notes : (n : ℕ) (ks : List ℕ) → Scope → List Note
  scope_notes n ks (scope kind name fs) = no_note ∷ (fields_notes (suc n) n ks [] fs ++ (no_note ∷ []))

  pub fields_notes : (n k : ℕ) (ks : List ℕ) (past : List Declaration) → Fields → List Note
  fields_notes n k ks past end = []
  fields_notes n k ks past (i ▸ fs) =
      head_notes k ks past (head_of i)
      ++ (item_notes (n + length (head_rows (head_of i))) (k ∷ ks) i ++ fields_notes (n + length (item_rows i)) k ks (past ++ (head_of i).decls) fs)

  pub item_notes : (n : ℕ) (ks : List ℕ) → Item → List Note
  item_notes n ks (plain h) = []
  item_notes n ks (holds h s) = scope_notes n ks s

-- the scopes that are open have their OPENs in these rows
abbrev pub OpenAt : List (List ℕ) → List ℕ → Type 0
OpenAt [] [] = Unit {0}
OpenAt [] (k ∷ ks) = ⊥
OpenAt (s ∷ st) [] = ⊥
OpenAt (s ∷ st) (k ∷ ks) = (row_in s ≡ k) × (k < 65536) × OpenAt st ks

out_is : (st : List (List ℕ)) (ks : List ℕ) (far : ℕ) → OpenAt st ks → out_t st far ≡ row_out ks far
unfolding out_t row_out
out_is [] [] far o = refl
out_is [] (k ∷ ks) far o = absurd o
out_is (s ∷ st) [] far o = absurd o
out_is (s ∷ st) (k ∷ ks) zero o = let l = o.1 in rw o.0 (omega arith)
out_is (s ∷ st) (k ∷ ks) (suc far) o = out_is st ks far o.2

-- ---- what was counted: this many declarations of each space

pub record Counted (c : List ℕ) (past : List Declaration) : Type 0 where
  pub long : length c ≡ 13
  pub are : (space : ℕ) → space < 13 → get_or c space 0 ≡ length (names_in past space)

none_counted : Counted no_counts []
unfolding names_in
none_counted = record { long = length-replicate {A = ℕ} 13 0; are = λ space h. copies_at {A = ℕ} 13 space 0 }

pub names_append : (xs ys : List Declaration) (space : ℕ) → names_in (xs ++ ys) space ≡ names_in xs space ++ names_in ys space
unfolding names_in when◌then◌else◌
names_append [] ys space = refl
names_append (x ∷ xs) ys space = go (eqb x.space space) (names_append xs ys space)
  where
    go : (t : Bool) → names_in (xs ++ ys) space ≡ names_in xs space ++ names_in ys space
        → (when t then x.name ∷ names_in (xs ++ ys) space else names_in (xs ++ ys) space) ≡ (when t then x.name ∷ names_in xs space else names_in xs space) ++ names_in ys space
    go true e = rw e
    go false e = e

pub fewer_names : (ds : List Declaration) (space : ℕ) → length (names_in ds space) ≤ length ds
unfolding names_in when◌then◌else◌
fewer_names [] space = omega arith
fewer_names (d ∷ ds) space = go (eqb d.space space) (fewer_names ds space)
  where
    go : (t : Bool) → length (names_in ds space) ≤ length ds → length (when t then d.name ∷ names_in ds space else names_in ds space) ≤ suc (length ds)
    go true e = omega arith
    go false e = omega arith

-- one more of its space
pub more_names : (past : List Declaration) (d : Declaration) (space : ℕ) → (d.space ≡ space → length (names_in (past ++ (d ∷ [])) space) ≡ length (names_in past space) + 1) × ((d.space ≡ space → ⊥) → names_in (past ++ (d ∷ [])) space ≡ names_in past space)
unfolding names_in when◌then◌else◌
more_names past d space =
    let e = names_append past (d ∷ []) space in
    (λ q. let n = length-append (names_in past space) (d.name ∷ []) in rw (e, eq-eqb d.space space q) (omega arith), λ q. rw (e, ne_eqb d.space space q) (append-nil (names_in past space)))

more_counted : (c : List ℕ) (past : List Declaration) (d : Declaration) → Counted c past → d.space < 13 → length past < 65535 → Counted (more_count_t c d.space) (past ++ (d ∷ []))
unfolding more_count_t
more_counted c past d C h l =
    record { long = length-set c d.space (get_or c d.space 0 % 65536 + 1) ∙ C.long; are = λ space g. go space g (eqb d.space space) refl }
  where
    go : (space : ℕ) → space < 13 → (t : Bool) → eqb d.space space ≡ t → get_or (set c d.space (get_or c d.space 0 % 65536 + 1)) space 0 ≡ length (names_in (past ++ (d ∷ [])) space)
    go space g true t =
        let q = eqb-true d.space space t in
        let long = C.long in
        let few = fewer_names past space in
        let is = C.are space g in
        let small : get_or c space 0 % 65536 ≡ get_or c space 0 = omega arith in
        let more = (more_names past d space).0 q in
        let found : get_or (set c space (get_or c space 0 % 65536 + 1)) space 0 ≡ get_or c space 0 % 65536 + 1 = get_or-set_same c space (get_or c space 0 % 65536 + 1) 0 (omega arith) in
        let counts : get_or c space 0 % 65536 + 1 ≡ length (names_in (past ++ (d ∷ [])) space) = omega arith in
        ap (λ (x : ℕ). get_or (set c x (get_or c x 0 % 65536 + 1)) space 0) q ∙ found ∙ counts
    go space g false t =
        let q : d.space ≡ space → ⊥ = eqb-false d.space space t in
        rw (get_or-set_other c d.space space (get_or c d.space 0 % 65536 + 1) 0 (λ e. q (sym e)), (more_names past d space).1 q) (C.are space g)

-- ---- one row

run : (n : ℕ) (st cs : List (List ℕ)) → List Row → List Note
run n st cs rs = notes_t n st cs (all_parts rs)

run_row : (n : ℕ) (st cs : List (List ℕ)) (r : Row) (rs : List Row)
    → run n st cs (r ∷ rs) ≡ note_t st (number_before_t cs (as_parts r)) (as_parts r) ∷ run (suc n) (open_one_t 64 st (as_parts r) n) (counts_t 64 cs (as_parts r)) rs
unfolding run notes_t all_parts
run_row n st cs r rs = rw (add-one n)

-- a row that is neither DECL, OUTER, OPEN nor CLOSE
pub record Blank (r : Row) : Type 0 where
  pub no_decl : code_in r ≡ 2 → ⊥
  pub no_outer : code_in r ≡ 5 → ⊥
  pub no_open : code_in r ≡ 7 → ⊥
  pub no_close : code_in r ≡ 8 → ⊥

run_blank : (n : ℕ) (st cs : List (List ℕ)) (r : Row) (rs : List Row) → Blank r → run n st cs (r ∷ rs) ≡ no_note ∷ run (suc n) st cs rs
unfolding note_t open_one_t counts_t pick
run_blank n st cs r rs b =
    run_row n st cs r rs ∙ rw (ne_eqb (code_in r) 2 b.no_decl, ne_eqb (code_in r) 5 b.no_outer, ne_eqb (code_in r) 7 b.no_open, ne_eqb (code_in r) 8 b.no_close)

run_blanks : (n : ℕ) (st cs : List (List ℕ)) (xs rs : List Row) → All Blank xs → run n st cs (xs ++ rs) ≡ blank_notes xs ++ run (n + length xs) st cs rs
unfolding blank_notes
run_blanks n st cs [] rs done = let e : n + 0 ≡ n = omega arith in rw e
run_blanks n st cs (x ∷ xs) rs (b & bs) =
    let e : suc n + length xs ≡ n + suc (length xs) = omega arith in
    run_blank n st cs x (xs ++ rs) b ∙ ap (λ (l : List Note). no_note ∷ l) (run_blanks (suc n) st cs xs rs bs ∙ rw e)

blank : (r : Row) → (code_in r ≡ 2 → ⊥) → (code_in r ≡ 5 → ⊥) → (code_in r ≡ 7 → ⊥) → (code_in r ≡ 8 → ⊥) → Blank r
blank r a b c d = record { no_decl = a; no_outer = b; no_open = c; no_close = d }

pub blank_field : (code builtin z : ℕ) → Blank (Field code builtin z)
unfolding as_parts encode
blank_field code builtin z = blank (Field code builtin z) (omega arith) (omega arith) (omega arith) (omega arith)

blank_paths : (ps : List ℕ) → All Blank (path_rows ps)
unfolding path_rows as_parts encode
blank_paths [] = done
blank_paths (p ∷ ps) = blank (Path p) (omega arith) (omega arith) (omega arith) (omega arith) & blank_paths ps

pub blank_ref : (space : ℕ) (at : Index) (paths : List ℕ) (z : ℕ) → All Blank (operand_row (ref space at paths z))
unfolding operand_row as_parts encode
blank_ref space at paths z = blank (Ref space at (length paths) z) (omega arith) (omega arith) (omega arith) (omega arith) & blank_paths paths

pub blank_export : (x : Option ℕ) → All Blank (export_rows x)
unfolding export_rows as_parts encode
blank_export none = done
blank_export (some n) = blank (Export n) (omega arith) (omega arith) (omega arith) (omega arith) & done

-- ---- a field's rows

run_decl : (n k : ℕ) (s : List ℕ) (st : List (List ℕ)) (c : List ℕ) (cs : List (List ℕ)) (past : List Declaration) (d : Declaration) (rs : List Row) → row_in s ≡ k → k < 65536 → Counted c past → d.space < 13
    → run n (s ∷ st) (c ∷ cs) (Decl d.space d.name d.z ∷ rs) ≡ note (length (names_in past d.space)) k ∷ run (suc n) (s ∷ st) (more_count_t c d.space ∷ cs) rs
unfolding note_t number_before_t number_in open_one_t counts_t more_in here_t as_parts encode pick
run_decl n k s st c cs past d rs e l C h =
    let low : k % 65536 ≡ k = omega arith in
    run_row n (s ∷ st) (c ∷ cs) (Decl d.space d.name d.z) rs ∙ rw (lt-leb 13 d.space h, C.are d.space h, e, low)

-- the counts behind these declarations
unfoldable pub count_all : List ℕ → List Declaration → List ℕ
count_all c [] = c
count_all c (d ∷ ds) = count_all (more_count_t c d.space) ds

all_counted : (c : List ℕ) (past ds : List Declaration) → Counted c past → SpacesDecls ds → length past + length ds < 65536 → Counted (count_all c ds) (past ++ ds)
unfolding count_all
all_counted c past [] C h l = rw (append-nil past) C
all_counted c past (d ∷ ds) C h l =
    let n = length-append past (d ∷ []) in
    rw (← append_assoc past (d ∷ []) ds) (all_counted (more_count_t c d.space) (past ++ (d ∷ [])) ds (more_counted c past d C h.0 (omega arith)) h.1 (omega arith))

run_decls : (n k : ℕ) (s : List ℕ) (st : List (List ℕ)) (c : List ℕ) (cs : List (List ℕ)) (past ds : List Declaration) (rs : List Row) → row_in s ≡ k → k < 65536 → Counted c past → SpacesDecls ds → length past + length ds < 65536
    → run n (s ∷ st) (c ∷ cs) (decl_rows ds ++ rs) ≡ decl_notes k past ds ++ run (n + length (decl_rows ds)) (s ∷ st) (count_all c ds ∷ cs) rs
unfolding decl_rows decl_notes count_all
run_decls n k s st c cs past [] rs e l C h b = let z : n + 0 ≡ n = omega arith in rw z
run_decls n k s st c cs past (d ∷ ds) rs e l C h b =
    let z : suc n + length (decl_rows ds) ≡ n + suc (length (decl_rows ds)) = omega arith in
    let m = length-append past (d ∷ []) in
    run_decl n k s st c cs past d (decl_rows ds ++ rs) e l C h.0
    ∙ ap (λ (x : List Note). note (length (names_in past d.space)) k ∷ x)
    (run_decls (suc n) k s st (more_count_t c d.space) cs (past ++ (d ∷ [])) ds rs e l (more_counted c past d C h.0 (omega arith)) h.1 (omega arith) ∙ rw z)

run_outer : (n : ℕ) (st : List (List ℕ)) (ks : List ℕ) (cs : List (List ℕ)) (space : ℕ) (up at : Index) (z : ℕ) (rs : List Row) → OpenAt st ks
    → run n st cs (Outer space up at z ∷ rs) ≡ note 0 (row_out ks (number up)) ∷ run (suc n) st cs rs
unfolding note_t open_one_t counts_t as_parts encode pick
run_outer n st ks cs space up at z rs o = run_row n st cs (Outer space up at z) rs ∙ rw (out_is st ks (number up) o)

pub blank_case : (name z : ℕ) → Blank (Case name z)
unfolding as_parts encode
blank_case name z = blank (Case name z) (omega arith) (omega arith) (omega arith) (omega arith)

run_case : (n : ℕ) (st cs : List (List ℕ)) (name z : ℕ) (rs : List Row) → run n st cs (Case name z ∷ rs) ≡ no_note ∷ run (suc n) st cs rs
run_case n st cs name z rs = run_blank n st cs (Case name z) rs (blank_case name z)

run_operands : (n : ℕ) (st : List (List ℕ)) (ks : List ℕ) (cs : List (List ℕ)) (os : List Operand) (rs : List Row) → OpenAt st ks
    → run n st cs (operand_rows os ++ rs) ≡ operands_notes ks os ++ run (n + length (operand_rows os)) st cs rs
unfolding operand_row operand_rows operands_notes operand_notes
run_operands n st ks cs [] rs o = let z : n + 0 ≡ n = omega arith in rw z
run_operands n st ks cs (ref space at paths z ∷ os) rs o =
    let xs = operand_row (ref space at paths z) in
    let e : n + length xs + length (operand_rows os) ≡ n + length (xs ++ operand_rows os) = omega (arith, length-append xs (operand_rows os)) in
    rw (append_assoc xs (operand_rows os) rs, append_assoc (blank_notes xs) (operands_notes ks os))
    (run_blanks n st cs xs (operand_rows os ++ rs) (blank_ref space at paths z) ∙ ap (λ (l : List Note). blank_notes xs ++ l) (run_operands (n + length xs) st ks cs os rs o ∙ rw e))
run_operands n st ks cs (outer space up at z ∷ os) rs o =
    let e : suc n + length (operand_rows os) ≡ n + suc (length (operand_rows os)) = omega arith in
    (run_outer n st ks cs space up at z (operand_rows os ++ rs) o ∙ ap (λ (l : List Note). note 0 (row_out ks (number up)) ∷ l) (run_operands (suc n) st ks cs os rs o ∙ rw e))
run_operands n st ks cs (case name z ∷ os) rs o =
    let e : suc n + length (operand_rows os) ≡ n + suc (length (operand_rows os)) = omega arith in
    (run_case n st cs name z (operand_rows os ++ rs) ∙ ap (λ (l : List Note). no_note ∷ l) (run_operands (suc n) st ks cs os rs o ∙ rw e))

module _ (s : List ℕ) (st : List (List ℕ)) (k : ℕ) (ks : List ℕ) (cs : List (List ℕ)) (o : OpenAt (s ∷ st) (k ∷ ks)) where
  run_head : (n : ℕ) (c : List ℕ) (past : List Declaration) (h : Head) (rs : List Row) → Counted c past → SpacesDecls h.decls → length past + length h.decls < 65536
      → run n (s ∷ st) (c ∷ cs) (head_rows h ++ rs) ≡ head_notes k ks past h ++ run (n + length (head_rows h)) (s ∷ st) (count_all c h.decls ∷ cs) rs
  unfolding head_rows head_notes
  run_head n c past h rs C sp b =
      let ds = decl_rows h.decls in
      let os = operand_rows h.operands in
      let xs = export_rows h.export in
      let c' = count_all c h.decls in
      let e : suc n + length ds + length os + length xs ≡ n + suc (length (ds ++ (os ++ xs))) = omega (arith, length-append ds (os ++ xs), length-append os xs) in
      let N = decl_notes k past h.decls in
      let M = operands_notes (k ∷ ks) h.operands in
      let X = blank_notes xs in
      rw (append_assoc ds (os ++ xs) rs, append_assoc os xs rs, append_assoc N (M ++ X), append_assoc M X)
      (run_blank n (s ∷ st) (c ∷ cs) (Field h.code h.builtin h.z) (ds ++ (os ++ (xs ++ rs))) (blank_field h.code h.builtin h.z)
      ∙ ap (λ (l : List Note). no_note ∷ l)
      (run_decls (suc n) k s st c cs past h.decls (os ++ (xs ++ rs)) o.0 o.1 C sp b
      ∙ ap (λ (l : List Note). N ++ l)
      (run_operands (suc n + length ds) (s ∷ st) (k ∷ ks) (c' ∷ cs) h.operands (xs ++ rs) o
      ∙ ap (λ (l : List Note). M ++ l) (run_blanks (suc n + length ds + length os) (s ∷ st) (c' ∷ cs) xs rs (blank_export h.export) ∙ rw e))))

-- ---- a scope

run_open : (n kind name : ℕ) (st cs : List (List ℕ)) (rs : List Row) → length st < 64 → length cs ≡ length st
    → run n st cs (Open kind name ∷ rs) ≡ no_note ∷ run (suc n) (open_scope_t name n ∷ st) (no_counts ∷ cs) rs
unfolding note_t open_one_t counts_t as_parts encode pick
run_open n kind name st cs rs l e = run_row n st cs (Open kind name) rs ∙ rw (e, lt-ltb _ _ l)

run_close : (n : ℕ) (s : List ℕ) (st : List (List ℕ)) (c : List ℕ) (cs : List (List ℕ)) (rs : List Row) → run n (s ∷ st) (c ∷ cs) (Close ∷ rs) ≡ no_note ∷ run (suc n) st cs rs
unfolding note_t open_one_t counts_t open_closed_t less_in as_parts encode pick
run_close n s st c cs rs = run_row n (s ∷ st) (c ∷ cs) Close rs

-- the rows of the scope that an item holds
unfoldable pub inner_rows : Item → List Row
inner_rows (plain h) = []
inner_rows (holds h s) = flatten s

pub item_split : (i : Item) → item_rows i ≡ head_rows (head_of i) ++ inner_rows i
unfolding flatten head_of inner_rows
item_split (plain h) = sym (append-nil (head_rows h))
item_split (holds h s) = refl

pub item_length : (i : Item) → length (item_rows i) ≡ length (head_rows (head_of i)) + length (inner_rows i)
item_length i = ap length (item_split i) ∙ length-append (head_rows (head_of i)) (inner_rows i)

count_append : (c : List ℕ) (xs ys : List Declaration) → count_all c (xs ++ ys) ≡ count_all (count_all c xs) ys
unfolding count_all
count_append c [] ys = refl
count_append c (x ∷ xs) ys = count_append (more_count_t c x.space) xs ys

-- what runs over the rows of a scope, of fields, of what an item holds
abbrev RunsScope : (n : ℕ) (st : List (List ℕ)) (ks : List ℕ) (cs : List (List ℕ)) → Scope → Type 0
RunsScope n st ks cs t = (rs : List Row) → run n st cs (flatten t ++ rs) ≡ scope_notes n ks t ++ run (n + length (flatten t)) st cs rs

abbrev RunsFields : (n : ℕ) (s : List ℕ) (st : List (List ℕ)) (k : ℕ) (ks c : List ℕ) (cs : List (List ℕ)) (past : List Declaration) → Fields → Type 0
RunsFields n s st k ks c cs past fs =
    (rs : List Row) → run n (s ∷ st) (c ∷ cs) (fields_rows fs ++ rs) ≡ fields_notes n k ks past fs ++ run (n + length (fields_rows fs)) (s ∷ st) (count_all c (declarations fs) ∷ cs) rs

abbrev RunsItem : (n : ℕ) (st : List (List ℕ)) (ks : List ℕ) (cs : List (List ℕ)) → Item → Type 0
RunsItem n st ks cs i = (rs : List Row) → run n st cs (inner_rows i ++ rs) ≡ item_notes n ks i ++ run (n + length (inner_rows i)) st cs rs

scope_step : (n kind name : ℕ) (st : List (List ℕ)) (ks : List ℕ) (cs : List (List ℕ)) (fs : Fields) → length st < 64 → length cs ≡ length st
    → RunsFields (suc n) (open_scope_t name n) st n ks no_counts cs [] fs → RunsScope n st ks cs (scope kind name fs)
unfolding flatten scope_notes
scope_step n kind name st ks cs fs l e below rs =
    let xs = fields_rows fs in
    let z : suc (suc n + length xs) ≡ n + suc (length (xs ++ (Close ∷ []))) = omega (arith, length-append xs (Close ∷ [])) in
    rw (append_assoc xs (Close ∷ []) rs, append_assoc (fields_notes (suc n) n ks [] fs) (no_note ∷ []))
    (run_open n kind name st cs (xs ++ (Close ∷ rs)) l e
    ∙ ap (λ (m : List Note). no_note ∷ m) (below (Close ∷ rs) ∙ ap (λ (m : List Note). fields_notes (suc n) n ks [] fs ++ m) (run_close (suc n + length xs) (open_scope_t name n) st (count_all no_counts (declarations fs)) cs rs ∙ rw z)))

end_step : (n : ℕ) (s : List ℕ) (st : List (List ℕ)) (k : ℕ) (ks c : List ℕ) (cs : List (List ℕ)) (past : List Declaration) → RunsFields n s st k ks c cs past end
unfolding flatten scope_notes declarations count_all
end_step n s st k ks c cs past rs = let z : n + 0 ≡ n = omega arith in rw z

fields_step : (n : ℕ) (s : List ℕ) (st : List (List ℕ)) (k : ℕ) (ks c : List ℕ) (cs : List (List ℕ)) (past : List Declaration) (i : Item) (fs : Fields) → OpenAt (s ∷ st) (k ∷ ks) → Counted c past → SpacesDecls (head_of i).decls
    → length past + length (head_of i).decls < 65536 → RunsItem (n + length (head_rows (head_of i))) (s ∷ st) (k ∷ ks) (count_all c (head_of i).decls ∷ cs) i
    → RunsFields (n + length (item_rows i)) s st k ks (count_all c (head_of i).decls) cs (past ++ (head_of i).decls) fs → RunsFields n s st k ks c cs past (i ▸ fs)
unfolding flatten scope_notes declarations
fields_step n s st k ks c cs past i fs o C sp b item later rs =
    let hs = head_rows (head_of i) in
    let xs = inner_rows i in
    let H = head_notes k ks past (head_of i) in
    let I = item_notes (n + length hs) (k ∷ ks) i in
    let F = fields_notes (n + length (item_rows i)) k ks (past ++ (head_of i).decls) fs in
    let c' = count_all c (head_of i).decls in
    let e : n + length hs + length xs ≡ n + length (item_rows i) = omega (arith, item_length i) in
    let z : n + length (item_rows i) + length (fields_rows fs) ≡ n + length (item_rows i ++ fields_rows fs) = omega (arith, length-append (item_rows i) (fields_rows fs)) in
    let split : (item_rows i ++ fields_rows fs) ++ rs ≡ hs ++ (xs ++ (fields_rows fs ++ rs)) =
    append_assoc (item_rows i) (fields_rows fs) rs ∙ ap (λ (l : List Row). l ++ (fields_rows fs ++ rs)) (item_split i) ∙ append_assoc hs xs (fields_rows fs ++ rs) in
    rw (split, append_assoc H (I ++ F), append_assoc I F)
    (run_head s st k ks cs o n c past (head_of i) (xs ++ (fields_rows fs ++ rs)) C sp b
    ∙ ap (λ (m : List Note). H ++ m)
    (item (fields_rows fs ++ rs)
    ∙ ap (λ (m : List Note). I ++ m) (ap (λ (x : ℕ). run x (s ∷ st) (c' ∷ cs) (fields_rows fs ++ rs)) e ∙ later rs ∙ rw (z, count_append c (head_of i).decls (declarations fs)))))

plain_step : (n : ℕ) (st : List (List ℕ)) (ks : List ℕ) (cs : List (List ℕ)) (h : Head) → RunsItem n st ks cs (plain h)
unfolding scope_notes inner_rows
plain_step n st ks cs h rs = let z : n + 0 ≡ n = omega arith in rw z

holds_step : (n : ℕ) (st : List (List ℕ)) (ks : List ℕ) (cs : List (List ℕ)) (h : Head) (t : Scope) → RunsScope n st ks cs t → RunsItem n st ks cs (holds h t)
unfolding scope_notes inner_rows
holds_step n st ks cs h t below rs = below rs

-- how deep and how long what is inside is
pub deep_scope : (kind name : ℕ) (fs : Fields) → height (scope kind name fs) ≡ suc (heights fs)
unfolding height
deep_scope kind name fs = refl

pub deep_item : (i : Item) (fs : Fields) → height_item i ≤ heights (i ▸ fs)
unfolding height
deep_item i fs = le-max_left (height_item i) (heights fs)

pub deep_rest : (i : Item) (fs : Fields) → heights fs ≤ heights (i ▸ fs)
unfolding height
deep_rest i fs = le-max_right (height_item i) (heights fs)

pub deep_holds : (h : Head) (t : Scope) → height_item (holds h t) ≡ height t
unfolding height
deep_holds h t = refl

pub inner_length : (h : Head) (t : Scope) → length (inner_rows (holds h t)) ≡ length (flatten t)
unfolding inner_rows
inner_length h t = refl

pub decls_few : (h : Head) → length h.decls ≤ length (head_rows h)
unfolding head_rows
decls_few h = omega (arith, decl_rows_length h.decls, length-append (decl_rows h.decls) (operand_rows h.operands ++ export_rows h.export))

module _ (rules : RuleSet) where
  pub own_head : (kind : ℕ) (i : Item) → GoodItem rules i kind → GoodHead rules kind (head_of i)
  unfolding head_of
  own_head kind (plain h) g = g.0
  own_head kind (holds h t) g = g.0

  mutual
    scope_runs : (t : Scope) (n : ℕ) (st : List (List ℕ)) (ks : List ℕ) (cs : List (List ℕ)) → GoodScope rules t → OpenAt st ks → length cs ≡ length st → length st + height t ≤ 64 → n + length (flatten t) < 65536 → RunsScope n st ks cs t
    scope_runs (scope kind name fs) n st ks cs g o e d l =
        let h = deep_scope kind name fs in
        let m = scope_size kind name fs in
        scope_step n kind name st ks cs fs (omega arith) e
        (fields_run kind fs (suc n) (open_scope_t name n) st n ks no_counts cs [] g (refl, omega arith, o) e (omega arith) (omega arith) (omega arith) none_counted)

    fields_run : (kind : ℕ) (fs : Fields) (n : ℕ) (s : List ℕ) (st : List (List ℕ)) (k : ℕ) (ks c : List ℕ) (cs : List (List ℕ)) (past : List Declaration) → GoodFields rules fs kind → OpenAt (s ∷ st) (k ∷ ks) → length cs ≡ length st
        → length st + suc (heights fs) ≤ 64 → n + length (fields_rows fs) < 65536 → length past + length (fields_rows fs) < 65536 → Counted c past → RunsFields n s st k ks c cs past fs
    fields_run kind end n s st k ks c cs past g o e d l b C = end_step n s st k ks c cs past
    fields_run kind (i ▸ fs) n s st k ks c cs past g o e d l b C =
        let f = fields_size i fs in
        let m = item_length i in
        let few = decls_few (head_of i) in
        let a = length-append past (head_of i).decls in
        let x = deep_item i fs in
        let y = deep_rest i fs in
        let sp = head_decls rules kind (head_of i) (own_head kind i g.0) in
        fields_step n s st k ks c cs past i fs o C sp (omega arith)
        (item_runs kind i (n + length (head_rows (head_of i))) (s ∷ st) (k ∷ ks) (count_all c (head_of i).decls ∷ cs) g.0 o (ap suc e) (omega arith) (omega arith))
        (fields_run kind fs (n + length (item_rows i)) s st k ks (count_all c (head_of i).decls) cs (past ++ (head_of i).decls) g.1 o e (omega arith) (omega arith) (omega arith) (all_counted c past (head_of i).decls C sp (omega arith)))

    item_runs : (kind : ℕ) (i : Item) (n : ℕ) (st : List (List ℕ)) (ks : List ℕ) (cs : List (List ℕ)) → GoodItem rules i kind → OpenAt st ks → length cs ≡ length st → length st + height_item i ≤ 64 → n + length (inner_rows i) < 65536 → RunsItem n st ks cs i
    item_runs kind (plain h) n st ks cs g o e d l = plain_step n st ks cs h
    item_runs kind (holds h t) n st ks cs g o e d l =
        let a = deep_holds h t in
        let b = inner_length h t in
        holds_step n st ks cs h t (scope_runs t n st ks cs g.3 o e (omega arith) (omega arith))

  -- THE FIRST PASS on the rows of a form
  pub numbered_rows : (t : Scope) → GoodScope rules t → height t ≤ 64 → length (flatten t) < 65536 → notes_t 0 [] [] (all_parts (flatten t)) ≡ scope_notes 0 [] t
  unfolding run notes_t all_parts
  numbered_rows t g d l =
      let r = scope_runs t 0 [] [] [] g tt refl (omega arith) (omega arith) [] in
      rw (append-nil (flatten t), append-nil (scope_notes 0 [] t)) at r
