-- Condition 3: on the rows of a claim the code finds the row that the rules name.
use Rattle.std.specs.Prelude.{◌≡◌, Bool, ◌&&◌, ◌||◌, eqb, leb, ltb, Option as CodeOption, Some, None, Result, Ok, Err, ⊤, ℕ, is_some}
use Rattle.std.proofs.Math.Path.{refl, sym, ap}
use Rattle.std.proofs.Common.{ap₂, ◌∙◌, lt-ltb, le-ltb, eq-eqb, ne_eqb, eqb-true}
use Rattle.std.proofs.Math.Bool.{true, false, not}
use Rattle.std.proofs.Math.Option.{Option, none, some}
use mathlib.Core.List.{List, [], ◌∷◌, ◌++◌, map, append_assoc, append-nil}
use Prim.Native.Nat.{ℕ, zero, suc, ◌+◌, ◌-◌, ◌*◌, ◌<◌, ◌≤◌}
use native.Mathlib.Omega.{arith}
use Rattle.std.proofs.Math.Numerals.{add-one}
use Rattle.std.proofs.Math.Nat.{le-max_left, le-max_right}
use Rattle.std.proofs.Math.ListN.{length, length-append}
use Rattle.kit.specs.Pick.{pick}
use Rattle.kit.specs.Out.{Out, ◌&◌}
use Rattle.parts.specs.declared.Parts.{Parts}
use Rattle.names.specs.Table.{Slot, space_of, name_of, find_in}
use Rattle.rules.specs.Tools.{when◌then◌else◌, is_in, is_just, ◌or_else◌}
use Rattle.rules.specs.Versions.{RuleSet}
use Rattle.rules.specs.Rows.{Index, Num, Id, Row, Field, Decl, Ref, Path, Outer, Case, Open, Close, Export, encode, flag, number}
use Rattle.rules.specs.Tree.{Declaration, Operand, ref, outer, case, Head, Scope, scope, Fields, end, ◌▸◌, Item, plain, holds, head_of, decl_rows, path_rows, operand_row, operand_rows, export_rows, head_rows, flatten, fields_rows, item_rows}
use Rattle.rules.specs.Shapes
use Rattle.rules.specs.Good.{GoodHead, GoodScope, GoodFields, GoodItem, height, heights, height_item}
use Rattle.rules.specs.Rules.{find}
use Rattle.rules.specs.Readings
use Rattle.rules.specs.Readings.{is_fresh, is_inserted}
use Rattle.rules.specs.Laws.ToolLaws.{All, done, ◌&◌ as ◌also◌, all_append, leb_le, leb_lt, and-false, false_not, or_cases, or-false}
use Rattle.rules.specs.Laws.Results.{no_option}
use Rattle.rules.proofs.Laws.Meaning.Lookups.{has}
use Rattle.rules.proofs.Laws.Meaning.Unknown.{find_has, has_append}
use Rattle.checking.specs.Check.{is_number, has_numbers, not_new, not_number, no_alias, scope_added, fields_added, item_added, condition3}
use Rattle.checking.proofs.Laws.AddedFields.{closed}
use Rattle.claim_rows.specs.Added.{any_fresh, is_added_t}
use Rattle.claim_scopes.specs.Open.{open_scope_t, row_in, here_t, open_closed_t, open_one_t}
use Rattle.claim_scopes.specs.Entries.{entry_key_t, slot_t, look_t, enter_t}
use Rattle.claim_aliases.specs.Aliases.{is_alias, alias_new_t, is_known, alias_breaks_t, name_slot, alias_names_t, Names, try_aliases_t}
use Rattle.claim_laws.specs.RowParts.{as_parts, all_parts, code_in, NoDecl, behind_field, operands_no_decl, any_fresh_lem, fields_no_decl, scope_no_decl, Inner, inner, inner_behind, scope_size, fields_size, holds_size, head_size, item_size}
use Rattle.claim_laws.specs.Keys.{or_found, find_append, find_other, other_last, Other, Of, Within, wider, key_is, key_within, outside}
use Rattle.claim_laws.specs.AliasShape.{good_head, alias_size, OneDecl, AliasOf, of_export, of_outer, one_declared, alias_of_lem}
use Rattle.claim_laws.specs.Marks.{inner_added, inner_open, field_added, field_open}
use Rattle.claim_laws.specs.SameRows.{tried}

-- ---- the names that are entered

unfoldable decl_slot : (k : ℕ) → Declaration → Slot
decl_slot k d = slot_t k d.space (alias_new_t d.name) 0

-- those of an added alias in the scope whose OPEN is row k
unfoldable head_names : (k : ℕ) → Head → List Slot
head_names k h = when is_inserted h && is_in h.code (9 ∷ 10 ∷ 11 ∷ []) then map (decl_slot k) h.decls else []

-- of all scopes, in the order of the rows; row n is the scope's OPEN, the first field, or what follows the item's head
unfoldable mutual
  scope_names : (n : ℕ) → Scope → List Slot
  scope_names n (scope kind name fs) = fields_names n (suc n) fs

  fields_names : (k n : ℕ) → Fields → List Slot
  fields_names k n end = []
  fields_names k n (i ▸ fs) = head_names k (head_of i) ++ (item_names (n + length (head_rows (head_of i))) i ++ fields_names k (n + length (item_rows i)) fs)

  item_names : (n : ℕ) → Item → List Slot
  item_names n (plain h) = []
  item_names n (holds h s) = scope_names n s

few : {h : Head} (D : OneDecl h) → D.decl.space < 256
few D = let l = D.space in omega arith

-- ---- what is known of names

found_or : (f g : CodeOption ℕ) → is_some (or_found f g) ≡ is_some f || is_some g
unfolding or_found
found_or (Some v) g = refl
found_or None g = refl

-- of the scope whose OPEN is row k: its DECLs so far are `past`, and the slots that are used are `ss`
record Known (k : ℕ) (past : List Declaration) (ss : List Slot) : Type 0 where
  known : (space name : ℕ) → space < 256 → is_fresh name ≡ true → is_some (find_in ss (entry_key_t k space) (alias_new_t name)) ≡ has past space name

known_none : (k : ℕ) (ss : List Slot) → k < 65536 → Within 0 k ss → Known k [] ss
unfolding has
known_none k ss l w = record { known = λ space name h f. rw (find_other ss (entry_key_t k space) (alias_new_t name) ((outside 0 k k space ss l h w).1 (omega arith))) }

known_inner : (k lo hi : ℕ) (past : List Declaration) (ss new : List Slot) → k < 65536 → k < lo → Within lo hi new → Known k past ss → Known k past (ss ++ new)
known_inner k lo hi past ss new l b w g =
    record { known = λ space name h f. rw (other_last ss new (entry_key_t k space) (alias_new_t name) ((outside lo hi k space new l h w).0 b)) (g.known space name h f) }

or_split : (a b : Bool) → a || b ≡ false → (a ≡ false) × (b ≡ false)
or_split true b e = false_not (sym e)
or_split false b e = (refl, e)

or_no : (b : Bool) → b || false ≡ b
or_no true = refl
or_no false = refl

-- DECLs of the input have no such names
own_has : (ds : List Declaration) (space name : ℕ) → Readings.any_fresh ds ≡ false → is_fresh name ≡ true → has ds space name ≡ false
unfolding has Readings.any_fresh is_fresh
own_has [] space name e f = refl
own_has (d ∷ ds) space name e f =
    let o = or_split (leb 2147483648 d.name) (Readings.any_fresh ds) e in
    let low = leb_lt 2147483648 d.name o.0 in
    let high = leb_le 2147483648 name f in
    rw (ne_eqb d.name name (omega arith), and-false (eqb d.space space)) (own_has ds space name o.1 f)

known_own : (k : ℕ) (past ds : List Declaration) (ss : List Slot) → Readings.any_fresh ds ≡ false → Known k past ss → Known k (past ++ ds) ss
known_own k past ds ss e g =
    record { known = λ space name h f. g.known space name h f ∙ sym (has_append past ds space name ∙ rw (own_has ds space name e f) (or_no (has past space name))) }

same_eqb : (a b c d : ℕ) → (a ≡ b → c ≡ d) → (c ≡ d → a ≡ b) → eqb a b ≡ eqb c d
same_eqb a b c d f g = go (eqb a b) (eqb c d) refl refl
  where
    go : (t u : Bool) → eqb a b ≡ t → eqb c d ≡ u → t ≡ u
    go true true p q = refl
    go true false p q = sym (eq-eqb c d (f (eqb-true a b p))) ∙ q
    go false true p q = sym p ∙ eq-eqb a b (g (eqb-true c d q))
    go false false p q = refl

found_one : (t u : Bool) (v : ℕ) → is_some (pick t (pick u (Some v) None) None) ≡ t && u
unfolding pick
found_one true true v = refl
found_one true false v = refl
found_one false u v = refl

known_new : (k : ℕ) (past : List Declaration) (d : Declaration) (ss : List Slot) → k < 65536 → d.space < 256 → is_fresh d.name ≡ true → Known k past ss → Known k (past ++ (d ∷ [])) (ss ++ (decl_slot k d ∷ []))
unfolding has is_fresh decl_slot slot_t find_in
known_new k past d ss l s e g = record { known = go }
  where
    go : (space name : ℕ) → space < 256 → leb 2147483648 name ≡ true → is_some (find_in (ss ++ (decl_slot k d ∷ [])) (entry_key_t k space) (alias_new_t name)) ≡ has (past ++ (d ∷ [])) space name
    go space name h f =
        let a = leb_le 2147483648 d.name e in
        let b = leb_le 2147483648 name f in
        let u = key_is k space l in
        let v = key_is k d.space l in
        let spaces : eqb (entry_key_t k d.space) (entry_key_t k space) ≡ eqb d.space space = same_eqb (entry_key_t k d.space) (entry_key_t k space) d.space space (λ q. omega arith) (λ q. omega arith) in
        let names : eqb (alias_new_t d.name) (alias_new_t name) ≡ eqb d.name name = same_eqb (alias_new_t d.name) (alias_new_t name) d.name name (λ q. omega arith) (λ q. omega arith) in
        rw (find_append ss (decl_slot k d ∷ []) (entry_key_t k space) (alias_new_t name), found_or (find_in ss (entry_key_t k space) (alias_new_t name)) (find_in (decl_slot k d ∷ []) (entry_key_t k space) (alias_new_t name)), found_one, has_append past (d ∷ []) space name, spaces, names, g.known space name h f, or_no)

-- ---- what the code answers

abbrev pub answer_in : Names → Result ⊤ ℕ
answer_in (a & ss) = a

-- a row that breaks the condition, or what comes after
unfoldable pub or_tried : Option ℕ → Result ⊤ ℕ → Result ⊤ ℕ
or_tried none t = t
or_tried (some row) t = Err row

pub or_tried_lem : (a b : Option ℕ) (t : Result ⊤ ℕ) → or_tried (a or_else b) t ≡ or_tried a (or_tried b t)
unfolding or_tried ◌or_else◌
or_tried_lem none b t = refl
or_tried_lem (some row) b t = refl

module _ (room : ℕ) where
  run : (n : ℕ) (a : Bool) (st : List (List ℕ)) (ss : List Slot) → List Row → Result ⊤ ℕ
  run n a st ss rs = answer_in (try_aliases_t room n a st ss (all_parts rs))

  pick_answer : (t : Bool) (x : Result ⊤ ℕ) (ss : List Slot) (y : Names) → answer_in (pick t (x & ss) y) ≡ pick t x (answer_in y)
  unfolding pick
  pick_answer true x ss y = refl
  pick_answer false x ss y = refl

  -- one row; a: whether its field is added
  run_row : (n : ℕ) (b a : Bool) (st : List (List ℕ)) (ss : List Slot) (r : Row) (rs : List Row) → is_added_t b (code_in r) (all_parts rs) ≡ a
      → run n b st ss (r ∷ rs) ≡ pick (alias_breaks_t a ss (here_t st) (as_parts r)) (Err n) (run (suc n) a (open_one_t 64 st (as_parts r) n) (alias_names_t room a ss (here_t st) (as_parts r)) rs)
  unfolding run try_aliases_t all_parts
  run_row n b a st ss r rs e = rw (e, add-one n) (pick_answer (alias_breaks_t a ss (here_t st) (as_parts r)) (Err n) ss _)

  -- rows of a field behind its FIELD, which is not added
  own_inner : (xs ys : List Row) (n : ℕ) (st : List (List ℕ)) (ss : List Slot) → All Inner xs → run n false st ss (xs ++ ys) ≡ run (n + length xs) false st ss ys
  unfolding alias_breaks_t alias_names_t pick
  own_inner [] ys n st ss done = let e : n + 0 ≡ n = omega arith in rw e
  own_inner (r ∷ xs) ys n st ss (i also p) =
      let e : suc n + length xs ≡ n + suc (length xs) = omega arith in
      run_row n false false st ss r (xs ++ ys) (inner_added false r (all_parts (xs ++ ys)) i) ∙ rw (inner_open st r n i) (own_inner xs ys (suc n) st ss p ∙ rw e)

  -- ---- a field of the input

  own_head : (n : ℕ) (b : Bool) (st : List (List ℕ)) (ss : List Slot) (h : Head) (ys : List Row) → is_inserted h ≡ false → NoDecl ys → run n b st ss (head_rows h ++ ys) ≡ run (n + length (head_rows h)) false st ss ys
  unfolding head_rows behind_field alias_breaks_t alias_names_t pick
  own_head n b st ss h ys e d =
      let q : suc n + length (behind_field h) ≡ n + suc (length (behind_field h)) = omega arith in
      run_row n b false st ss (Field h.code h.builtin h.z) (behind_field h ++ ys) (field_added b h ys d ∙ e)
      ∙ rw (field_open st h.code h.builtin h.z n) (own_inner (behind_field h) ys (suc n) st ss (inner_behind h) ∙ rw q)

  -- ---- an added field

  alias_codes : (code : ℕ) → is_alias code ≡ is_in code (9 ∷ 10 ∷ 11 ∷ [])
  unfolding is_alias
  alias_codes code = rw or_no

  field_breaks : (k : ℕ) (ss : List Slot) (code builtin z : ℕ) → alias_breaks_t true ss k (as_parts (Field code builtin z)) ≡ not (is_in code (9 ∷ 10 ∷ 11 ∷ []))
  unfolding alias_breaks_t as_parts encode pick
  field_breaks k ss code builtin z = ap not (alias_codes code)

  field_names : (k : ℕ) (ss : List Slot) (code builtin z : ℕ) → alias_names_t room true ss k (as_parts (Field code builtin z)) ≡ ss
  unfolding alias_names_t as_parts encode pick
  field_names k ss code builtin z = refl

  -- one that is no alias
  other_head : (n : ℕ) (b : Bool) (st : List (List ℕ)) (ss : List Slot) (h : Head) (ys : List Row) → is_inserted h ≡ true → is_in h.code (9 ∷ 10 ∷ 11 ∷ []) ≡ false → NoDecl ys → run n b st ss (head_rows h ++ ys) ≡ Err n
  unfolding head_rows behind_field
  other_head n b st ss h ys e c d =
      run_row n b true st ss (Field h.code h.builtin h.z) (behind_field h ++ ys) (field_added b h ys d ∙ e)
      ∙ rw (field_breaks (here_t st) ss h.code h.builtin h.z, c) (unfold pick in refl)

  -- its DECL
  decl_breaks : (k : ℕ) (past : List Declaration) (ss : List Slot) (d : Declaration) → d.space < 256 → is_fresh d.name ≡ true → Known k past ss → alias_breaks_t true ss k (as_parts (Decl d.space d.name d.z)) ≡ is_just (find past d.space d.name)
  unfolding alias_breaks_t as_parts encode pick is_known look_t
  decl_breaks k past ss d l f g = g.known d.space d.name l f ∙ sym (find_has past d.space d.name)

  decl_names : (k : ℕ) (ss : List Slot) (d : Declaration) → length ss < room → alias_names_t room true ss k (as_parts (Decl d.space d.name d.z)) ≡ ss ++ (decl_slot k d ∷ [])
  unfolding alias_names_t as_parts encode pick name_slot decl_slot enter_t
  decl_names k ss d l = rw (lt-ltb _ _ l)

  -- its operand
  ref_breaks : (k : ℕ) (ss : List Slot) (from : ℕ) (at : Index) (paths z : ℕ) → alias_breaks_t true ss k (as_parts (Ref from at paths z)) ≡ not (is_number at)
  unfolding alias_breaks_t as_parts encode pick flag is_number
  ref_breaks k ss from (Num m) paths z = refl
  ref_breaks k ss from (Id name) paths z = refl

  outer_breaks : (k : ℕ) (ss : List Slot) (space : ℕ) (up at : Index) (z : ℕ) → alias_breaks_t true ss k (as_parts (Outer space up at z)) ≡ not (is_number up && is_number at)
  unfolding alias_breaks_t as_parts encode pick flag is_number
  outer_breaks k ss space (Num d) (Num m) z = refl
  outer_breaks k ss space (Num d) (Id name) z = refl
  outer_breaks k ss space (Id up) (Num m) z = refl
  outer_breaks k ss space (Id up) (Id name) z = refl

  -- a row of it that is neither FIELD nor DECL enters nothing
  row_names_lem : (k : ℕ) (ss : List Slot) (r : Row) → (code_in r ≡ 2 → ⊥) → alias_names_t room true ss k (as_parts r) ≡ ss
  unfolding alias_names_t pick
  row_names_lem k ss r h = rw (ne_eqb (code_in r) 2 h)

  -- a row of it that breaks nothing or something
  added_row : (n : ℕ) (st : List (List ℕ)) (ss : List Slot) (r : Row) (rs : List Row) (t : Bool) → Inner r → (code_in r ≡ 2 → ⊥) → alias_breaks_t true ss (here_t st) (as_parts r) ≡ t → run n true st ss (r ∷ rs) ≡ pick t (Err n) (run (suc n) true st ss rs)
  added_row n st ss r rs t i h e =
      run_row n true true st ss r rs (inner_added true r (all_parts rs) i) ∙ rw (e, inner_open st r n i, row_names_lem (here_t st) ss r h)

  export_inner : (name : ℕ) → Inner (Export name) × (code_in (Export name) ≡ 2 → ⊥)
  unfolding as_parts encode
  export_inner name = (inner (Export name) (omega arith) (omega arith) (omega arith), omega arith)

  export_breaks : (k : ℕ) (ss : List Slot) (name : ℕ) → alias_breaks_t true ss k (as_parts (Export name)) ≡ false
  unfolding alias_breaks_t as_parts encode pick
  export_breaks k ss name = refl

  export_run : (n : ℕ) (st : List (List ℕ)) (ss : List Slot) (x : Option ℕ) (ys : List Row) → run n true st ss (export_rows x ++ ys) ≡ run (n + length (export_rows x)) true st ss ys
  unfolding export_rows pick
  export_run n st ss none ys = let e : n + 0 ≡ n = omega arith in rw e
  export_run n st ss (some name) ys =
      let e : suc n ≡ n + 1 = omega arith in
      let i = export_inner name in
      added_row n st ss (Export name) ys false i.0 i.1 (export_breaks (here_t st) ss name) ∙ rw e

  number_turn : (b : Bool) (m : ℕ) (t : Result ⊤ ℕ) → pick (not b) (Err m) t ≡ or_tried (when b then none else some m) t
  unfolding pick or_tried when◌then◌else◌
  number_turn true m t = refl
  number_turn false m t = refl

  -- the operand, and the EXPORT that may follow
  operand_run : (n : ℕ) (st : List (List ℕ)) (ss : List Slot) (o : Operand) (r : Row) (x : Option ℕ) (ys : List Row) → Inner r → (code_in r ≡ 2 → ⊥) → alias_breaks_t true ss (here_t st) (as_parts r) ≡ not (has_numbers o)
      → run n true st ss (r ∷ (export_rows x ++ ys)) ≡ or_tried (not_number n (o ∷ [])) (run (suc n + length (export_rows x)) true st ss ys)
  unfolding not_number
  operand_run n st ss o r x ys i h e =
      added_row n st ss r (export_rows x ++ ys) (not (has_numbers o)) i h e ∙ (rw (export_run (suc n) st ss x ys) (number_turn (has_numbers o) n _))

  -- the rows behind the DECL
  ref_run : (n : ℕ) (st : List (List ℕ)) (ss : List Slot) (from : ℕ) (at : Index) (z : ℕ) (x : Option ℕ) (ys : List Row) → run n true st ss (Ref from at 0 z ∷ (export_rows x ++ ys)) ≡ or_tried (not_number n (ref from at [] z ∷ [])) (run (suc n + length (export_rows x)) true st ss ys)
  unfolding as_parts encode has_numbers
  ref_run n st ss from at z x ys =
      operand_run n st ss (ref from at [] z) (Ref from at 0 z) x ys (inner (Ref from at 0 z) (omega arith) (omega arith) (omega arith)) (omega arith) (ref_breaks (here_t st) ss from at 0 z)

  outer_run : (n : ℕ) (st : List (List ℕ)) (ss : List Slot) (space : ℕ) (up at : Index) (z : ℕ) (x : Option ℕ) (ys : List Row) → run n true st ss (Outer space up at z ∷ (export_rows x ++ ys)) ≡ or_tried (not_number n (outer space up at z ∷ [])) (run (suc n + length (export_rows x)) true st ss ys)
  unfolding as_parts encode has_numbers
  outer_run n st ss space up at z x ys =
      operand_run n st ss (outer space up at z) (Outer space up at z) x ys (inner (Outer space up at z) (omega arith) (omega arith) (omega arith)) (omega arith) (outer_breaks (here_t st) ss space up at z)

  -- they are one row, and then the EXPORT
  behind_decl : (n : ℕ) (st : List (List ℕ)) (ss : List Slot) (h : Head) (ys : List Row) → AliasOf h → run n true st ss (operand_rows h.operands ++ (export_rows h.export ++ ys)) ≡ or_tried (not_number n h.operands) (run (n + length (operand_rows h.operands ++ export_rows h.export)) true st ss ys)
  unfolding operand_rows operand_row path_rows
  behind_decl n st ss h ys (of_export from at z name o x c) =
      let e : suc n + length (export_rows h.export) ≡ n + suc (length (export_rows h.export)) = omega arith in
      rw o (ref_run n st ss from at z h.export ys ∙ rw e)
  behind_decl n st ss h ys (of_outer space up at z o x c) =
      let e : suc n + length (export_rows h.export) ≡ n + suc (length (export_rows h.export)) = omega arith in
      rw o (outer_run n st ss space up at z h.export ys ∙ rw e)

  new_turn : (b : Bool) (m : ℕ) (t : Result ⊤ ℕ) → pick b (Err m) t ≡ or_tried (when b then some m else none) t
  unfolding pick or_tried when◌then◌else◌
  new_turn true m t = refl
  new_turn false m t = refl

  decl_run : (n : ℕ) (st : List (List ℕ)) (past : List Declaration) (ss : List Slot) (d : Declaration) (rs : List Row) → d.space < 256 → is_fresh d.name ≡ true → Known (here_t st) past ss → length ss < room
      → run n true st ss (decl_rows (d ∷ []) ++ rs) ≡ or_tried (not_new n past (d ∷ [])) (run (suc n) true st (ss ++ (decl_slot (here_t st) d ∷ [])) rs)
  unfolding decl_rows not_new
  decl_run n st past ss d rs l f g roomy =
      let r = Decl d.space d.name d.z in
      let i : Inner r = unfold as_parts encode in inner r (omega arith) (omega arith) (omega arith) in
      run_row n true true st ss r rs (inner_added true r (all_parts rs) i)
      ∙ rw (decl_breaks (here_t st) past ss d l f g, inner_open st r n i, decl_names (here_t st) ss d roomy) (new_turn (is_just (find past d.space d.name)) n _)

  alias_rest : (n : ℕ) (st : List (List ℕ)) (past : List Declaration) (ss : List Slot) (h : Head) (ys : List Row) (d : Declaration) → h.decls ≡ d ∷ [] → d.space < 256 → is_fresh d.name ≡ true → AliasOf h → Known (here_t st) past ss → length ss < room
      → run n true st ss (behind_field h ++ ys) ≡ or_tried (not_new n past h.decls or_else not_number (n + length h.decls) h.operands) (run (n + length (behind_field h)) true st (ss ++ map (decl_slot (here_t st)) h.decls) ys)
  unfolding behind_field
  alias_rest n st past ss h ys d a l f o g roomy =
      let q : n + 1 ≡ suc n = omega arith in
      let size : suc n + length (operand_rows h.operands ++ export_rows h.export) ≡ n + length (decl_rows (d ∷ []) ++ (operand_rows h.operands ++ export_rows h.export)) = unfold decl_rows in omega arith in
      rw (a, append_assoc (decl_rows (d ∷ [])) (operand_rows h.operands ++ export_rows h.export) ys, append_assoc (operand_rows h.operands) (export_rows h.export) ys)
      (decl_run n st past ss d _ l f g roomy
      ∙ rw (behind_decl (suc n) st (ss ++ (decl_slot (here_t st) d ∷ [])) h ys o, or_tried_lem (not_new n past (d ∷ [])), q, size))

  names_alias : (k : ℕ) (h : Head) → is_inserted h ≡ true → is_in h.code (9 ∷ 10 ∷ 11 ∷ []) ≡ true → head_names k h ≡ map (decl_slot k) h.decls
  unfolding head_names when◌then◌else◌
  names_alias k h e c = rw (e, c)

  any_one : (d : Declaration) (ds : List Declaration) → ds ≡ d ∷ [] → Readings.any_fresh ds ≡ true → is_fresh d.name ≡ true
  unfolding Readings.any_fresh
  any_one d ds a e = or-false (is_fresh d.name) (rw a at e)

  alias_head : (rules : RuleSet) (kind n : ℕ) (b : Bool) (st : List (List ℕ)) (past : List Declaration) (ss : List Slot) (h : Head) (ys : List Row) → GoodHead rules kind h → is_inserted h ≡ true → is_in h.code (9 ∷ 10 ∷ 11 ∷ []) ≡ true → NoDecl ys → Known (here_t st) past ss → length ss < room
      → run n b st ss (head_rows h ++ ys) ≡ or_tried (no_alias n past h) (run (n + length (head_rows h)) true st (ss ++ head_names (here_t st) h) ys)
  unfolding head_rows behind_field no_alias when◌then◌else◌ pick is_inserted
  alias_head rules kind n b st past ss h ys good e c nd g roomy =
      let D = one_declared rules kind h good c in
      let q : suc n + length (behind_field h) ≡ n + suc (length (behind_field h)) = omega arith in
      run_row n b true st ss (Field h.code h.builtin h.z) (behind_field h ++ ys) (field_added b h ys nd ∙ e)
      ∙ rw (field_breaks (here_t st) ss h.code h.builtin h.z, c, field_open st h.code h.builtin h.z n, field_names (here_t st) ss h.code h.builtin h.z, names_alias (here_t st) h e c)
      (alias_rest (suc n) st past ss h ys D.decl D.alone (few D) (any_one D.decl h.decls D.alone e) (alias_of_lem rules kind h good c) g roomy ∙ rw q)

  -- ---- what is known behind a field

  names_own : (k : ℕ) (h : Head) → is_inserted h ≡ false → head_names k h ≡ []
  unfolding head_names when◌then◌else◌
  names_own k h e = rw e

  known_head : (rules : RuleSet) (kind k : ℕ) (past : List Declaration) (ss : List Slot) (h : Head) → GoodHead rules kind h → k < 65536 → (is_inserted h ≡ true → is_in h.code (9 ∷ 10 ∷ 11 ∷ []) ≡ true) → Known k past ss → Known k (past ++ h.decls) (ss ++ head_names k h)
  known_head rules kind k past ss h good l c g = go (is_inserted h) refl
    where
      go : (b : Bool) → is_inserted h ≡ b → Known k (past ++ h.decls) (ss ++ head_names k h)
      go true e =
          let D = one_declared rules kind h good (c e) in
          rw (names_alias k h e (c e), D.alone) (known_new k past D.decl ss l (few D) (any_one D.decl h.decls D.alone (unfold is_inserted in e)) g)
      go false e = rw (names_own k h e, append-nil ss) (known_own k past h.decls ss (unfold is_inserted in e) g)

  names_other : (k : ℕ) (h : Head) → is_in h.code (9 ∷ 10 ∷ 11 ∷ []) ≡ false → head_names k h ≡ []
  unfolding head_names when◌then◌else◌
  names_other k h c = rw (c, and-false (is_inserted h))

  slot_within : (k : ℕ) (d : Declaration) → k < 65536 → d.space < 256 → Of k (k + 1) (decl_slot k d)
  unfolding decl_slot slot_t
  slot_within k d l h = let w = key_within k d.space l h in record { low = w.0; high = w.1 }

  -- the slots of a field are of its scope
  names_within : (rules : RuleSet) (kind k : ℕ) (h : Head) → GoodHead rules kind h → k < 65536 → Within k (k + 1) (head_names k h)
  names_within rules kind k h good l = go (is_inserted h) (is_in h.code (9 ∷ 10 ∷ 11 ∷ [])) refl refl
    where
      go : (b c : Bool) → is_inserted h ≡ b → is_in h.code (9 ∷ 10 ∷ 11 ∷ []) ≡ c → Within k (k + 1) (head_names k h)
      go true true e c =
          let D = one_declared rules kind h good c in
          rw (names_alias k h e c, D.alone) (slot_within k D.decl l (few D) also done)
      go true false e c = rw (names_other k h c) done
      go false c e d = rw (names_own k h e) done

  -- the slots of a scope are of it and of those inside
  fields_within_next : (rules : RuleSet) (i : Item) (fs : Fields) (kind k n : ℕ) → GoodItem rules i kind → k < n → n + length (fields_rows (i ▸ fs)) ≤ 65536 → Within (n + length (head_rows (head_of i))) (n + length (item_rows i)) (item_names (n + length (head_rows (head_of i))) i)
      → Within k (n + length (item_rows i) + length (fields_rows fs)) (fields_names k (n + length (item_rows i)) fs) → Within k (n + length (fields_rows (i ▸ fs))) (fields_names k n (i ▸ fs))
  unfolding scope_names
  fields_within_next rules i fs kind k n g l h p q =
      let e = fields_size i fs in
      let s = head_size (head_of i) in
      let t = item_size i in
      all_append (head_names k (head_of i)) _ (wider k (k + 1) k (n + length (fields_rows (i ▸ fs))) _ (omega arith) (omega arith) (names_within rules kind k (head_of i) (good_head rules i kind g) (omega arith)))
      (all_append (item_names (n + length (head_rows (head_of i))) i) _ (wider _ _ k (n + length (fields_rows (i ▸ fs))) _ (omega arith) (omega arith) p) (wider k _ k (n + length (fields_rows (i ▸ fs))) _ (omega arith) (omega arith) q))

  mutual
    unfolding scope_names head_of

    scope_within : (rules : RuleSet) (s : Scope) (n : ℕ) → GoodScope rules s → n + length (flatten s) ≤ 65536 → Within n (n + length (flatten s)) (scope_names n s)
    scope_within rules (scope kind name fs) n g l =
        let e = scope_size kind name fs in
        wider n (suc n + length (fields_rows fs)) n (n + length (flatten (scope kind name fs))) (fields_names n (suc n) fs) (omega arith) (omega arith) (fields_within rules fs kind n (suc n) g (omega arith) (omega arith))

    fields_within : (rules : RuleSet) (fs : Fields) (kind k n : ℕ) → GoodFields rules fs kind → k < n → n + length (fields_rows fs) ≤ 65536 → Within k (n + length (fields_rows fs)) (fields_names k n fs)
    fields_within rules end kind k n g l h = done
    fields_within rules (i ▸ fs) kind k n g l h =
        let e = fields_size i fs in
        fields_within_next rules i fs kind k n g.0 l h (item_within rules i kind n g.0 (omega arith)) (fields_within rules fs kind k (n + length (item_rows i)) g.1 (omega arith) (omega arith))

    item_within : (rules : RuleSet) (i : Item) (kind n : ℕ) → GoodItem rules i kind → n + length (item_rows i) ≤ 65536 → Within (n + length (head_rows (head_of i))) (n + length (item_rows i)) (item_names (n + length (head_rows (head_of i))) i)
    item_within rules (plain h) kind n g l = done
    item_within rules (holds h s) kind n g l =
        let e = holds_size h s in
        wider (n + length (head_rows h)) (n + length (head_rows h) + length (flatten s)) (n + length (head_rows h)) (n + length (item_rows (holds h s))) (scope_names (n + length (head_rows h)) s) (omega arith) (omega arith) (scope_within rules s (n + length (head_rows h)) g.3 (omega arith))

  -- ---- fields and scopes

  close_run : (n : ℕ) (b : Bool) (st : List (List ℕ)) (ss : List Slot) (zs : List Row) → run n b st ss (Close ∷ zs) ≡ run (suc n) false (open_closed_t st) ss zs
  unfolding is_added_t open_one_t alias_breaks_t alias_names_t as_parts encode pick
  close_run n b st ss zs = run_row n b false st ss Close zs refl

  open_run : (n kind name : ℕ) (st : List (List ℕ)) (ss : List Slot) (rs : List Row) → length st < 64 → run n false st ss (Open kind name ∷ rs) ≡ run (suc n) false (open_scope_t name n ∷ st) ss rs
  unfolding is_added_t open_one_t alias_breaks_t alias_names_t as_parts encode pick
  open_run n kind name st ss rs l = run_row n false false st ss (Open kind name) rs refl ∙ rw (lt-ltb _ _ l)

  -- where the rows are: the scope's OPEN stands before, its DECLs so far are `past`; the slots `new` find room
  record Stands (n : ℕ) (st : List (List ℕ)) (past : List Declaration) (ss new : List Slot) (size deep : ℕ) : Type 0 where
    here : here_t st < n
    known : Known (here_t st) past ss
    within : Within 0 n ss
    rows : n + size ≤ 65536
    depth : length st + deep ≤ 64
    roomy : length ss + length new ≤ room

  -- what follows an item, whatever was added before
  abbrev Follows : (n : ℕ) (st : List (List ℕ)) (ss : List Slot) → List Row → Result ⊤ ℕ → Type 0
  Follows n st ss ys K = (b : Bool) → run n b st ss ys ≡ K

  -- what an item is found to be
  abbrev item_found : (n : ℕ) (past : List Declaration) → Item → Option ℕ
  item_found n past i = (when is_inserted (head_of i) then no_alias n past (head_of i) else none) or_else item_added (n + length (head_rows (head_of i))) i

  no_more : (ss xs : List Slot) → ss ++ (xs ++ []) ≡ ss ++ xs
  no_more ss xs = rw (append-nil xs)

  found_other : (n : ℕ) (past : List Declaration) (i : Item) (K : Result ⊤ ℕ) → is_inserted (head_of i) ≡ true → is_in (head_of i).code (9 ∷ 10 ∷ 11 ∷ []) ≡ false → or_tried (item_found n past i) K ≡ Err n
  unfolding no_alias when◌then◌else◌ ◌or_else◌ or_tried
  found_other n past i K e c = rw (e, c)

  found_alias : (n : ℕ) (past : List Declaration) (h : Head) (K : Result ⊤ ℕ) → is_inserted h ≡ true → or_tried (no_alias n past h) K ≡ or_tried (item_found n past (plain h)) K
  unfolding when◌then◌else◌ scope_added head_of
  found_alias n past h K e = rw (e, or_tried_lem (no_alias n past h) none K) (unfold or_tried in refl)

  found_own : (n : ℕ) (past : List Declaration) (i : Item) → is_inserted (head_of i) ≡ false → item_found n past i ≡ item_added (n + length (head_rows (head_of i))) i
  unfolding when◌then◌else◌ ◌or_else◌
  found_own n past i e = rw e

  plain_run : (rules : RuleSet) (kind n : ℕ) (b : Bool) (st : List (List ℕ)) (past : List Declaration) (ss : List Slot) (h : Head) (ys : List Row) (K : Result ⊤ ℕ) (size deep : ℕ) → GoodHead rules kind h → Stands n st past ss (head_names (here_t st) h) size deep → NoDecl ys
      → Follows (n + length (head_rows h)) st (ss ++ head_names (here_t st) h) ys K → run n b st ss (head_rows h ++ ys) ≡ or_tried (item_found n past (plain h)) K
  unfolding head_of scope_added
  plain_run rules kind n b st past ss h ys K size deep good S nd f = go (is_inserted h) (is_in h.code (9 ∷ 10 ∷ 11 ∷ [])) refl refl
    where
      one : OneDecl h → length (map (decl_slot (here_t st)) h.decls) ≡ 1
      one D = rw D.alone

      go : (t c : Bool) → is_inserted h ≡ t → is_in h.code (9 ∷ 10 ∷ 11 ∷ []) ≡ c → run n b st ss (head_rows h ++ ys) ≡ or_tried (item_found n past (plain h)) K
      go true true e c =
          let r = S.roomy in
          let o = one (one_declared rules kind h good c) in
          let m = ap length (names_alias (here_t st) h e c) in
          alias_head rules kind n b st past ss h ys good e c nd S.known (omega arith) ∙ (rw (f true) (found_alias n past h K e))
      go true false e c = other_head n b st ss h ys e c nd ∙ sym (found_other n past (plain h) K e c)
      go false c e d = own_head n b st ss h ys e nd ∙ (rw (names_own (here_t st) h e, append-nil ss) at (f false)) ∙ rw (found_own n past (plain h) e) (unfold or_tried in refl)

  -- what is found in a scope, and what follows it
  abbrev ScopeRun : (n : ℕ) (st : List (List ℕ)) (ss : List Slot) → Scope → List Row → Type 0
  ScopeRun n st ss s ys = run n false st ss (flatten s ++ ys) ≡ or_tried (scope_added n s) (run (n + length (flatten s)) false st (ss ++ scope_names n s) ys)

  holds_run : (rules : RuleSet) (kind n : ℕ) (b : Bool) (st : List (List ℕ)) (past : List Declaration) (ss : List Slot) (h : Head) (s : Scope) (ys : List Row) (K : Result ⊤ ℕ) → GoodItem rules (holds h s) kind
      → (is_inserted h ≡ false → ScopeRun (n + length (head_rows h)) st ss s ys)
      → Follows (n + length (item_rows (holds h s))) st (ss ++ (head_names (here_t st) h ++ item_names (n + length (head_rows h)) (holds h s))) ys K → run n b st ss (item_rows (holds h s) ++ ys) ≡ or_tried (item_found n past (holds h s)) K
  unfolding head_of scope_added flatten scope_names
  holds_run rules kind n b st past ss h s ys K good inside f = rw (append_assoc (head_rows h) (flatten s) ys) (go (is_inserted h) (is_in h.code (9 ∷ 10 ∷ 11 ∷ [])) refl refl)
    where
      go : (t c : Bool) → is_inserted h ≡ t → is_in h.code (9 ∷ 10 ∷ 11 ∷ []) ≡ c → run n b st ss (head_rows h ++ (flatten s ++ ys)) ≡ or_tried (item_found n past (holds h s)) K
      go true true e c = no_option _ (sym (closed h.code c) ∙ good.1)
      go true false e c = other_head n b st ss h (flatten s ++ ys) e c (scope_no_decl s ys) ∙ sym (found_other n past (holds h s) K e c)
      go false c e d =
          let q : n + length (head_rows h) + length (flatten s) ≡ n + length (head_rows h ++ flatten s) = omega (arith, length-append (head_rows h) (flatten s)) in
          let w : run (n + length (head_rows h) + length (flatten s)) false st (ss ++ scope_names (n + length (head_rows h)) s) ys ≡ K = rw q (rw (names_own (here_t st) h e) at (f false)) in
          own_head n b st ss h (flatten s ++ ys) e (scope_no_decl s ys) ∙ (inside e ∙ rw (w, found_own n past (holds h s) e))

  -- the fields from here on, and what follows their scope
  abbrev FieldsRun : (n : ℕ) (st : List (List ℕ)) (past : List Declaration) (ss : List Slot) → Fields → List Row → Type 0
  FieldsRun n st past ss fs zs =
      Follows n st ss (fields_rows fs ++ (Close ∷ zs)) (or_tried (fields_added n past fs) (run (suc (n + length (fields_rows fs))) false (open_closed_t st) (ss ++ fields_names (here_t st) n fs) zs))

  end_run : (n : ℕ) (st : List (List ℕ)) (past : List Declaration) (ss : List Slot) (zs : List Row) → FieldsRun n st past ss end zs
  unfolding flatten scope_added scope_names or_tried
  end_run n st past ss zs b = let e : suc (n + 0) ≡ suc n = omega arith in rw (e, append-nil ss) (close_run n b st ss zs)

  next_run : (n : ℕ) (st : List (List ℕ)) (past : List Declaration) (ss : List Slot) (i : Item) (fs : Fields) (zs : List Row)
      → ((K : Result ⊤ ℕ) → Follows (n + length (item_rows i)) st (ss ++ (head_names (here_t st) (head_of i) ++ item_names (n + length (head_rows (head_of i))) i)) (fields_rows fs ++ (Close ∷ zs)) K → (b : Bool) → run n b st ss (item_rows i ++ (fields_rows fs ++ (Close ∷ zs))) ≡ or_tried (item_found n past i) K)
      → FieldsRun (n + length (item_rows i)) st (past ++ (head_of i).decls) (ss ++ (head_names (here_t st) (head_of i) ++ item_names (n + length (head_rows (head_of i))) i)) fs zs → FieldsRun n st past ss (i ▸ fs) zs
  unfolding flatten scope_added scope_names
  next_run n st past ss i fs zs f g b =
      let q : suc (n + length (item_rows i ++ fields_rows fs)) ≡ suc (n + length (item_rows i) + length (fields_rows fs)) = omega (arith, length-append (item_rows i) (fields_rows fs)) in
      rw (append_assoc (item_rows i) (fields_rows fs) (Close ∷ zs))
      (f _ g b ∙ simp (or_tried_lem, append_assoc, q))

  -- an item is a field by itself, or holds a scope
  stands_less : (n : ℕ) (st : List (List ℕ)) (past : List Declaration) (ss new less : List Slot) (size deep : ℕ) → length less ≤ length new → Stands n st past ss new size deep → Stands n st past ss less size deep
  stands_less n st past ss new less size deep l S =
      let r = S.roomy in
      record { here = S.here; known = S.known; within = S.within; rows = S.rows; depth = S.depth; roomy = omega arith }

  names_size : (k n : ℕ) (i : Item) (fs : Fields) → length (fields_names k n (i ▸ fs)) ≡ length (head_names k (head_of i)) + length (item_names (n + length (head_rows (head_of i))) i) + length (fields_names k (n + length (item_rows i)) fs)
  unfolding scope_names
  names_size k n i fs =
      omega (arith, length-append (head_names k (head_of i)) (item_names (n + length (head_rows (head_of i))) i ++ fields_names k (n + length (item_rows i)) fs), length-append (item_names (n + length (head_rows (head_of i))) i) (fields_names k (n + length (item_rows i)) fs))

  heights_next : (i : Item) (fs : Fields) → (height_item i ≤ heights (i ▸ fs)) × (heights fs ≤ heights (i ▸ fs))
  unfolding height
  heights_next i fs = (le-max_left (height_item i) (heights fs), le-max_right (height_item i) (heights fs))

  -- behind the first field
  stands_next : (rules : RuleSet) (kind n : ℕ) (st : List (List ℕ)) (past : List Declaration) (ss : List Slot) (i : Item) (fs : Fields) → GoodItem rules i kind → (is_inserted (head_of i) ≡ true → is_in (head_of i).code (9 ∷ 10 ∷ 11 ∷ []) ≡ true)
      → Stands n st past ss (fields_names (here_t st) n (i ▸ fs)) (length (fields_rows (i ▸ fs))) (heights (i ▸ fs))
      → Stands (n + length (item_rows i)) st (past ++ (head_of i).decls) (ss ++ (head_names (here_t st) (head_of i) ++ item_names (n + length (head_rows (head_of i))) i)) (fields_names (here_t st) (n + length (item_rows i)) fs) (length (fields_rows fs)) (heights fs)
  stands_next rules kind n st past ss i fs g c S =
      let e = fields_size i fs in
      let s = head_size (head_of i) in
      let t = item_size i in
      let here = S.here in
      let rows = S.rows in
      let roomy = S.roomy in
      let depth = S.depth in
      let hs = head_names (here_t st) (head_of i) in
      let is = item_names (n + length (head_rows (head_of i))) i in
      let low : here_t st < 65536 = omega arith in
      let inside = item_within rules i kind n g (omega arith) in
      record {
        here = omega arith;
        known = rw (← append_assoc ss hs is) (known_inner (here_t st) _ _ (past ++ (head_of i).decls) (ss ++ hs) is low (omega arith) inside (known_head rules kind (here_t st) past ss (head_of i) (good_head rules i kind g) low c S.known));
        within = all_append ss (hs ++ is) (wider 0 n 0 _ ss (omega arith) (omega arith) S.within) (all_append hs is (wider _ _ 0 _ hs (omega arith) (omega arith) (names_within rules kind (here_t st) (head_of i) (good_head rules i kind g) low)) (wider _ _ 0 _ is (omega arith) (omega arith) inside));
        rows = omega arith;
        depth = let h = (heights_next i fs).1 in omega arith;
        roomy = omega (arith, names_size (here_t st) n i fs, length-append ss (hs ++ is), length-append hs is);
      }

  -- a field that is no alias ends it
  item_other : (n : ℕ) (b : Bool) (st : List (List ℕ)) (ss : List Slot) (i : Item) (ys : List Row) → is_inserted (head_of i) ≡ true → is_in (head_of i).code (9 ∷ 10 ∷ 11 ∷ []) ≡ false → NoDecl ys → run n b st ss (item_rows i ++ ys) ≡ Err n
  unfolding flatten head_of
  item_other n b st ss (plain h) ys e c d = other_head n b st ss h ys e c d
  item_other n b st ss (holds h s) ys e c d = rw (append_assoc (head_rows h) (flatten s) ys) (other_head n b st ss h (flatten s ++ ys) e c (scope_no_decl s ys))

  fields_other : (n : ℕ) (st : List (List ℕ)) (past : List Declaration) (ss : List Slot) (i : Item) (fs : Fields) (zs : List Row) → is_inserted (head_of i) ≡ true → is_in (head_of i).code (9 ∷ 10 ∷ 11 ∷ []) ≡ false → FieldsRun n st past ss (i ▸ fs) zs
  unfolding flatten scope_added no_alias when◌then◌else◌ ◌or_else◌ or_tried
  fields_other n st past ss i fs zs e c b = rw (append_assoc (item_rows i) (fields_rows fs) (Close ∷ zs), e, c) (item_other n b st ss i (fields_rows fs ++ (Close ∷ zs)) e c (fields_no_decl fs zs))

  alias_or_not : (X : Type 0) (i : Item) → (is_inserted (head_of i) ≡ true → is_in (head_of i).code (9 ∷ 10 ∷ 11 ∷ []) ≡ false → X) → ((is_inserted (head_of i) ≡ true → is_in (head_of i).code (9 ∷ 10 ∷ 11 ∷ []) ≡ true) → X) → X
  alias_or_not X i f g = go (is_inserted (head_of i)) (is_in (head_of i).code (9 ∷ 10 ∷ 11 ∷ [])) refl refl
    where
      go : (t c : Bool) → is_inserted (head_of i) ≡ t → is_in (head_of i).code (9 ∷ 10 ∷ 11 ∷ []) ≡ c → X
      go t true e d = g (λ q. d)
      go true false e d = f e d
      go false false e d = g (λ q. false_not (sym e ∙ q))

  -- where a scope begins
  scope_stands : (rules : RuleSet) (kind name n : ℕ) (fs : Fields) (st : List (List ℕ)) (ss : List Slot) → Within 0 n ss → n + length (flatten (scope kind name fs)) ≤ 65536 → length st + height (scope kind name fs) ≤ 64 → length ss + length (scope_names n (scope kind name fs)) ≤ room
      → Stands (suc n) (open_scope_t name n ∷ st) [] ss (fields_names (here_t (open_scope_t name n ∷ st)) (suc n) fs) (length (fields_rows fs)) (heights fs)
  unfolding here_t scope_names height
  scope_stands rules kind name n fs st ss w l d r =
      let e = scope_size kind name fs in
      record { here = omega arith; known = known_none n ss (omega arith) w; within = wider 0 n 0 (suc n) ss (omega arith) (omega arith) w; rows = omega arith; depth = omega arith; roomy = r }

  scope_run_is : (kind name n : ℕ) (fs : Fields) (st : List (List ℕ)) (ss : List Slot) (ys : List Row) → length st < 64 → FieldsRun (suc n) (open_scope_t name n ∷ st) [] ss fs ys → ScopeRun n st ss (scope kind name fs) ys
  unfolding flatten scope_added scope_names open_closed_t here_t
  scope_run_is kind name n fs st ss ys l f =
      let q : suc (suc n + length (fields_rows fs)) ≡ n + suc (length (fields_rows fs ++ (Close ∷ []))) = omega (arith, length-append (fields_rows fs) (Close ∷ [])) in
      rw (append_assoc (fields_rows fs) (Close ∷ []) ys) (open_run n kind name st ss _ l ∙ (f false ∙ rw q))

  scope_depth : (kind name : ℕ) (fs : Fields) (st : List (List ℕ)) → length st + height (scope kind name fs) ≤ 64 → length st < 64
  unfolding height
  scope_depth kind name fs st d = omega arith

  -- a field by itself
  plain_item : (rules : RuleSet) (h : Head) (fs : Fields) (kind n : ℕ) (st : List (List ℕ)) (past : List Declaration) (ss : List Slot) (ys : List Row) → GoodItem rules (plain h) kind → Stands n st past ss (fields_names (here_t st) n (plain h ▸ fs)) (length (fields_rows (plain h ▸ fs))) (heights (plain h ▸ fs)) → NoDecl ys
      → (K : Result ⊤ ℕ) → Follows (n + length (item_rows (plain h))) st (ss ++ (head_names (here_t st) h ++ item_names (n + length (head_rows h)) (plain h))) ys K → (b : Bool) → run n b st ss (item_rows (plain h) ++ ys) ≡ or_tried (item_found n past (plain h)) K
  unfolding flatten scope_names head_of
  plain_item rules h fs kind n st past ss ys g S d K f b =
      let e = names_size (here_t st) n (plain h) fs in
      plain_run rules kind n b st past ss h ys K _ _ g.0 (stands_less n st past ss (fields_names (here_t st) n (plain h ▸ fs)) (head_names (here_t st) h) _ _ (omega arith) S) d (rw (append-nil (head_names (here_t st) h)) at f)

  -- one that holds a scope
  held_stands : (h : Head) (s : Scope) (fs : Fields) (n : ℕ) (st : List (List ℕ)) (past : List Declaration) (ss : List Slot) → is_inserted h ≡ false → Stands n st past ss (fields_names (here_t st) n (holds h s ▸ fs)) (length (fields_rows (holds h s ▸ fs))) (heights (holds h s ▸ fs))
      → (Within 0 (n + length (head_rows h)) ss) × (n + length (head_rows h) + length (flatten s) ≤ 65536) × (length st + height s ≤ 64) × (length ss + length (scope_names (n + length (head_rows h)) s) ≤ room)
  unfolding scope_names head_of height
  held_stands h s fs n st past ss e S =
      let a = names_size (here_t st) n (holds h s) fs in
      let b = fields_size (holds h s) fs in
      let c = holds_size h s in
      let rows = S.rows in
      let roomy = S.roomy in
      let depth = S.depth in
      let d = (heights_next (holds h s) fs).0 in
      (wider 0 n 0 (n + length (head_rows h)) ss (omega arith) (omega arith) S.within, omega arith, omega arith, omega arith)

  mutual
    unfolding head_of

    scope_run : (rules : RuleSet) (s : Scope) (n : ℕ) (st : List (List ℕ)) (ss : List Slot) (ys : List Row) → GoodScope rules s → Within 0 n ss → n + length (flatten s) ≤ 65536 → length st + height s ≤ 64 → length ss + length (scope_names n s) ≤ room → ScopeRun n st ss s ys
    scope_run rules (scope kind name fs) n st ss ys g w l d r =
        scope_run_is kind name n fs st ss ys (scope_depth kind name fs st d) (fields_run rules fs kind (suc n) (open_scope_t name n ∷ st) [] ss ys g (scope_stands rules kind name n fs st ss w l d r))

    fields_run : (rules : RuleSet) (fs : Fields) (kind n : ℕ) (st : List (List ℕ)) (past : List Declaration) (ss : List Slot) (zs : List Row) → GoodFields rules fs kind → Stands n st past ss (fields_names (here_t st) n fs) (length (fields_rows fs)) (heights fs) → FieldsRun n st past ss fs zs
    fields_run rules end kind n st past ss zs g S = end_run n st past ss zs
    fields_run rules (i ▸ fs) kind n st past ss zs g S =
        alias_or_not (FieldsRun n st past ss (i ▸ fs) zs) i (λ e c. fields_other n st past ss i fs zs e c)
        (λ c. next_run n st past ss i fs zs (λ K f b. item_run rules i fs kind n st past ss (fields_rows fs ++ (Close ∷ zs)) g.0 S (fields_no_decl fs zs) K f b)
        (fields_run rules fs kind (n + length (item_rows i)) st (past ++ (head_of i).decls) (ss ++ (head_names (here_t st) (head_of i) ++ item_names (n + length (head_rows (head_of i))) i)) zs g.1 (stands_next rules kind n st past ss i fs g.0 c S)))

    item_run : (rules : RuleSet) (i : Item) (fs : Fields) (kind n : ℕ) (st : List (List ℕ)) (past : List Declaration) (ss : List Slot) (ys : List Row) → GoodItem rules i kind → Stands n st past ss (fields_names (here_t st) n (i ▸ fs)) (length (fields_rows (i ▸ fs))) (heights (i ▸ fs)) → NoDecl ys
        → (K : Result ⊤ ℕ) → Follows (n + length (item_rows i)) st (ss ++ (head_names (here_t st) (head_of i) ++ item_names (n + length (head_rows (head_of i))) i)) ys K → (b : Bool) → run n b st ss (item_rows i ++ ys) ≡ or_tried (item_found n past i) K
    item_run rules (plain h) fs kind n st past ss ys g S d K f b = plain_item rules h fs kind n st past ss ys g S d K f b
    item_run rules (holds h s) fs kind n st past ss ys g S d K f b =
        holds_run rules kind n b st past ss h s ys K g
        (λ e. let H = held_stands h s fs n st past ss e S in scope_run rules s (n + length (head_rows h)) st ss ys g.3 H.0 H.1 H.2 H.3) f

  -- ---- there is room

  head_few : (rules : RuleSet) (kind k : ℕ) (h : Head) → GoodHead rules kind h → 3 * length (head_names k h) ≤ length (head_rows h)
  head_few rules kind k h good = go (is_inserted h) (is_in h.code (9 ∷ 10 ∷ 11 ∷ [])) refl refl
    where
      none_few : head_names k h ≡ [] → 3 * length (head_names k h) ≤ length (head_rows h)
      none_few e = rw e (omega arith)

      one : OneDecl h → length (map (decl_slot k) h.decls) ≡ 1
      one D = rw D.alone

      go : (t c : Bool) → is_inserted h ≡ t → is_in h.code (9 ∷ 10 ∷ 11 ∷ []) ≡ c → 3 * length (head_names k h) ≤ length (head_rows h)
      go true true e c =
          let D = one_declared rules kind h good c in
          let l = alias_size h D.decl D.alone (alias_of_lem rules kind h good c) in
          let o = one D in
          let m = ap length (names_alias k h e c) in
          omega arith
      go true false e c = none_few (names_other k h c)
      go false c e d = none_few (names_own k h e)

  mutual
    unfolding scope_names head_of

    scope_few : (rules : RuleSet) (s : Scope) (n : ℕ) → GoodScope rules s → 3 * length (scope_names n s) ≤ length (flatten s)
    scope_few rules (scope kind name fs) n g = let e = scope_size kind name fs in let l = fields_few rules fs kind n (suc n) g in omega arith

    fields_few : (rules : RuleSet) (fs : Fields) (kind k n : ℕ) → GoodFields rules fs kind → 3 * length (fields_names k n fs) ≤ length (fields_rows fs)
    fields_few rules end kind k n g = omega arith
    fields_few rules (i ▸ fs) kind k n g =
        let e = fields_size i fs in
        let a = names_size k n i fs in
        let l = item_few rules i kind k n g.0 in
        let m = fields_few rules fs kind k (n + length (item_rows i)) g.1 in
        omega arith

    item_few : (rules : RuleSet) (i : Item) (kind k n : ℕ) → GoodItem rules i kind → 3 * length (head_names k (head_of i)) + 3 * length (item_names (n + length (head_rows (head_of i))) i) ≤ length (item_rows i)
    item_few rules (plain h) kind k n g = let l = head_few rules kind k h g.0 in let t = item_size (plain h) in omega arith
    item_few rules (holds h s) kind k n g =
        let l = head_few rules kind k h g.0 in
        let m = scope_few rules s (n + length (head_rows h)) g.3 in
        let e = holds_size h s in
        omega arith

pub last_tried : (o : Option ℕ) → or_tried o (Ok tt) ≡ tried o
unfolding or_tried
last_tried none = refl
last_tried (some n) = refl

no_rows_lem : (room n : ℕ) (b : Bool) (ss : List Slot) → run room n b [] ss [] ≡ Ok tt
unfolding run try_aliases_t all_parts
no_rows_lem room n b ss = refl

-- Condition 3.
pub new_names : (rules : RuleSet) (room : ℕ) (c : Scope) → GoodScope rules c → length (flatten c) ≤ 65536 → length (flatten c) ≤ 3 * room → height c ≤ 64 → answer_in (try_aliases_t room 0 false [] [] (all_parts (flatten c))) ≡ tried (condition3 c)
unfolding condition3 run
new_names rules room c g l r d =
    let few = scope_few room rules c 0 g in
    let whole : run room 0 false [] [] (flatten c) ≡ run room 0 false [] [] (flatten c ++ []) = ap (run room 0 false [] []) (sym (append-nil (flatten c))) in
    whole ∙ (scope_run room rules c 0 [] [] [] g done (omega arith) (omega arith) (omega arith) ∙ (rw (no_rows_lem room (0 + length (flatten c)) false ([] ++ scope_names 0 c)) (last_tried (scope_added 0 c))))
