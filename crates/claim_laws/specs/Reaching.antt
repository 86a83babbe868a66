-- What the code finds for names and numbers in the open scopes of a claim is what the rules say.
use Rattle.std.specs.Prelude.{◌≡◌, Bool, ◌&&◌, ltb, length, get_or, Option as CodeOption, Some, None, ℕ}
use Rattle.std.proofs.Math.Path.{refl, ap, ap₂}
use Rattle.std.proofs.Common.{sym, ◌∙◌, add-one}
use Rattle.std.proofs.Math.Bool.{true, false}
use Rattle.std.proofs.Math.Option.{Option, none, some, map}
use mathlib.Core.List.{List, [], ◌∷◌, ◌++◌}
use Prim.Native.Nat.{ℕ, zero, suc, ◌+◌, ◌-◌, ◌%◌, ◌<◌, ◌≤◌}
use native.Mathlib.Omega.{arith}
use Rattle.std.proofs.Math.Dec.{eqb, leb}
use borrow.Author.Tests.{eq-eqb, ne_eqb, eqb-true}
use Rattle.kit.specs.Pick.{pick}
use Rattle.parts.specs.PartsAt.{parts_at, parts}
use Rattle.parts.specs.declared.Parts.{Parts}
use Rattle.names.specs.Table.{Slot, find_in, no_scope}
use Rattle.rules.specs.Tools.{when◌then◌else◌, only, ◌then◌, ◌or_else◌}
use Rattle.rules.specs.Versions.{top_name}
use Rattle.rules.specs.Rows.{Index, Num, Id, Row, Field, Decl, Ref, Path, Outer, Export, encode, flag, number}
use Rattle.rules.specs.Tree.{Declaration, Operand, ref, outer, case, Head, Fields, decl_rows, path_rows, operand_row, operand_rows, export_rows, head_rows}
use Rattle.rules.specs.Rules.{Env, table_of, find, declarations, walk, nth}
use Rattle.rules.specs.Rules as Rules
use Rattle.rules.specs.Laws.ToolLaws.{then_then}
use Rattle.rules.specs.Laws.Results.{no_option}
use Rattle.checking.specs.Check
use Rattle.checking.specs.Check.{is_number, has_numbers, not_number, ref_number, first, same, same_pair, reached, through_outer, through_export, through_paths, plainly}
use Rattle.checking.proofs.Laws.Plainly.{plain_table}
use Rattle.claim_scopes.specs.Open.{open_scope_t, name_in, row_in}
use Rattle.claim_scopes.specs.Entries.{entry_key_t, look_t}
use Rattle.claim_reach.specs.Alias.{reach_counted_t, reached_t, reach_code_t, export_code, outer_at, export_at, outer_in, export_in, through_outer_t, through_export_t}
use Rattle.claim_reach.specs.Outward.{or_further, reach_out_t}
use Rattle.claim_reach.specs.declared.alias.Sought.{Sought}
use Rattle.claim_operands.specs.Paths.{no_parts, onward, or_stop, through_paths_t}
use Rattle.claim_operands.specs.Reference.{is_met_t, seeking}
use Rattle.claim_operands.specs.Outer.{named_in}
use Rattle.claim_laws.specs.RowParts.{as_parts, all_parts, Stands}
use Rattle.claim_laws.specs.AliasShape.{AliasOf, of_export, of_outer}
use Rattle.claim_laws.specs.Found.{number_from}
use Rattle.claim_laws.specs.Known.{AliasHead, AliasAt, nowhere, there, Known}
use Rattle.names.specs.declared.Met.{Met}

-- ---- as the code says it

unfoldable pub entered : Option ℕ → CodeOption ℕ
entered none = None
entered (some n) = Some n

unfoldable pub met_at : Option (ℕ × ℕ) → CodeOption Met
met_at none = None
met_at (some at) = Some (record { out = at.0; number = at.1 })

entry_number : (o : Option ℕ) → number_from 0 o ≡ entered o
unfolding number_from entered
entry_number none = refl
entry_number (some n) = ap Some (omega arith)

pub met_same : (a b : Option (ℕ × ℕ)) → is_met_t (met_at a) (met_at b) ≡ same_pair a b
unfolding is_met_t met_at same_pair
met_same none b = refl
met_same (some a) none = refl
met_same (some a) (some b) = refl

-- ---- the rows of an alias

module _ (claim : List ℕ) where
  -- its FIELD, and the rows behind its DECL
  alias_rows : (r : ℕ) (h : Head) (d : Declaration) (o : Operand) (x : Option ℕ) (row : Row) → h.decls ≡ d ∷ [] → operand_row o ≡ row ∷ [] → h.operands ≡ o ∷ [] → h.export ≡ x → Stands (parts_at claim) r (head_rows h)
      → (parts_at claim r ≡ as_parts (Field h.code h.builtin h.z)) × Stands (parts_at claim) (suc (suc r)) (row ∷ export_rows x)
  unfolding head_rows decl_rows operand_rows
  alias_rows r h d o x row a p q e s = (s.0, (rw (a, q, p, e) at s.1).1)

  code_at_lem : (r : ℕ) (h : Head) → parts_at claim r ≡ as_parts (Field h.code h.builtin h.z) → reach_code_t claim (suc r) ≡ h.code
  unfolding reach_code_t as_parts encode pick
  code_at_lem r h e = let q : suc r - 1 ≡ r = omega arith in rw (ne_eqb (suc r) 0 (omega arith), q, e)

  -- operands of two numbers and of one
  both_numbers : (row space : ℕ) (up at : Index) (z : ℕ) → not_number row (outer space up at z ∷ []) ≡ none → (d n : ℕ) × (up ≡ Num d) × (at ≡ Num n)
  unfolding not_number has_numbers is_number when◌then◌else◌
  both_numbers row space (Num d) (Num n) z e = (d, n, refl, refl)
  both_numbers row space (Num d) (Id name) z e = no_option row (sym e)
  both_numbers row space (Id name) at z e = no_option row (sym e)

  one_number : (row from : ℕ) (at : Index) (z : ℕ) → not_number row (ref from at [] z ∷ []) ≡ none → (n : ℕ) × (at ≡ Num n)
  unfolding not_number has_numbers is_number when◌then◌else◌
  one_number row from (Num n) z e = (n, refl)
  one_number row from (Id name) z e = no_option row (sym e)

  -- ---- through one outer alias

  abbrev outer_of : Head → Option (ℕ × ℕ)
  outer_of h = only (eqb h.code 11) h then λ h. first h.operands then Check.outer_numbers

  outer_there : (r : ℕ) (h : Head) (space d n z : ℕ) → parts_at claim r ≡ as_parts (Field h.code h.builtin h.z) → parts_at claim (suc (suc r)) ≡ as_parts (Outer space (Num d) (Num n) z) → h.code ≡ 11 → h.operands ≡ outer space (Num d) (Num n) z ∷ []
      → outer_at claim (suc r) ≡ met_at (outer_of h)
  unfolding outer_at met_at only ◌then◌ first Check.outer_numbers as_parts encode number pick
  outer_there r h space d n z f p c o = let q : suc r + 1 ≡ suc (suc r) = omega arith in rw (code_at_lem r h f, eq-eqb _ _ c, q, p, o)

  outer_other : (r : ℕ) (h : Head) → parts_at claim r ≡ as_parts (Field h.code h.builtin h.z) → (h.code ≡ 11 → ⊥) → outer_at claim (suc r) ≡ met_at (outer_of h)
  unfolding outer_at met_at only ◌then◌ pick
  outer_other r h f c = rw (code_at_lem r h f, ne_eqb _ _ c)

  outer_alias_lem : (r : ℕ) (h : Head) → Stands (parts_at claim) r (head_rows h) → AliasHead h → outer_at claim (suc r) ≡ met_at (outer_of h)
  outer_alias_lem r h s A = go A.shape
    where
      go : AliasOf h → outer_at claim (suc r) ≡ met_at (outer_of h)
      go (of_export from at z name o x c) = outer_other r h (alias_rows r h A.decl (ref from at [] z) (some name) (Ref from at 0 z) A.alone (unfold operand_row path_rows in refl) o x s).0 c
      go (of_outer space up at z o x c) =
          let N = both_numbers A.row space up at z (rw o at A.numbers) in
          let d = N.0 in
          let n = N.1 in
          let o' : h.operands ≡ outer space (Num d) (Num n) z ∷ [] = o ∙ ap₂ (λ (u a : Index). outer space u a z ∷ []) N.2 N.3 in
          let S = alias_rows r h A.decl (outer space (Num d) (Num n) z) none (Outer space (Num d) (Num n) z) A.alone (unfold operand_row in refl) o' x s in
          outer_there r h space d n z S.0 S.1.0 c o'

  outer_reached : (f : CodeOption ℕ) (o : Option Head) → AliasAt (parts_at claim) f o → outer_in claim f ≡ met_at (o then outer_of)
  unfolding outer_in ◌then◌
  outer_reached None none nowhere = unfold met_at in refl
  outer_reached (Some n) (some g) (there r h s A) = outer_alias_lem r h s A
  outer_reached (Some n) none x'' = elim x'' [ ]
  outer_reached None (some g) x3 = elim x3 [ ]

  -- ---- through one alias of an export

  abbrev export_of : (space name : ℕ) → Head → Option ℕ
  export_of space name h = only (eqb h.code (when leb space 6 then 10 else 9) && same h.export (some name)) h then λ h. first h.operands then ref_number

  export_code_lem : (space : ℕ) → export_code space ≡ (when leb space 6 then 10 else 9)
  export_code_lem space = go (leb space 6) refl
    where
      go : (b : Bool) → leb space 6 ≡ b → export_code space ≡ (when leb space 6 then 10 else 9)
      go true e = unfold export_code pick when◌then◌else◌ in rw e
      go false e = unfold export_code pick when◌then◌else◌ in rw e

  by_tests : (a b : Bool) (h : Head) (n : ℕ) → (first h.operands then ref_number) ≡ some n → pick a (pick b (Some n) None) None ≡ entered (only (a && b) h then λ h. first h.operands then ref_number)
  unfolding pick entered only ◌then◌
  by_tests true true h n e = rw e
  by_tests true false h n e = refl
  by_tests false b h n e = refl

  export_there : (r : ℕ) (h : Head) (from n z nm space name : ℕ) → parts_at claim r ≡ as_parts (Field h.code h.builtin h.z) → parts_at claim (suc (suc r)) ≡ as_parts (Ref from (Num n) 0 z) → parts_at claim (suc (suc (suc r))) ≡ as_parts (Export nm)
      → h.operands ≡ ref from (Num n) [] z ∷ [] → h.export ≡ some nm → export_at claim (suc r) space name ≡ entered (export_of space name h)
  unfolding export_at as_parts encode number same
  export_there r h from n z nm space name f p w o x =
      let q : suc r + 1 ≡ suc (suc r) = omega arith in
      let t : suc r + 2 ≡ suc (suc (suc r)) = omega arith in
      let y : same h.export (some name) ≡ eqb nm name = ap (λ (e : Option ℕ). same e (some name)) x in
      rw (code_at_lem r h f, q, t, p, w, y, export_code_lem space) (by_tests (eqb h.code (when leb space 6 then 10 else 9)) (eqb nm name) h n (unfold first ref_number ◌then◌ in rw o))

  stands_export : (n nm : ℕ) → Stands (parts_at claim) n (export_rows (some nm)) → parts_at claim n ≡ as_parts (Export nm)
  unfolding export_rows
  stands_export n nm s = s.0

  not_eleven : (b : Bool) → eqb 11 (when b then 10 else 9) ≡ false
  unfolding when◌then◌else◌
  not_eleven true = refl
  not_eleven false = refl

  export_other : (r : ℕ) (h : Head) (space name : ℕ) → parts_at claim r ≡ as_parts (Field h.code h.builtin h.z) → h.code ≡ 11 → export_at claim (suc r) space name ≡ entered (export_of space name h)
  unfolding export_at entered only ◌then◌ pick
  export_other r h space name f c = rw (code_at_lem r h f, c, export_code_lem space, not_eleven (leb space 6))

  export_alias_lem : (r : ℕ) (h : Head) (space name : ℕ) → Stands (parts_at claim) r (head_rows h) → AliasHead h → export_at claim (suc r) space name ≡ entered (export_of space name h)
  export_alias_lem r h space name s A = go A.shape
    where
      go : AliasOf h → export_at claim (suc r) space name ≡ entered (export_of space name h)
      go (of_export from at z nm o x c) =
          let N = one_number A.row from at z (rw o at A.numbers) in
          let o' : h.operands ≡ ref from (Num N.0) [] z ∷ [] = o ∙ ap (λ (a : Index). ref from a [] z ∷ []) N.1 in
          let S = alias_rows r h A.decl (ref from (Num N.0) [] z) (some nm) (Ref from (Num N.0) 0 z) A.alone (unfold operand_row path_rows in refl) o' x s in
          export_there r h from N.0 z nm space name S.0 S.1.0 (stands_export (suc (suc (suc r))) nm S.1.1) o' x
      go (of_outer space' up at z o x c) = export_other r h space name (alias_rows r h A.decl (outer space' up at z) none (Outer space' up at z) A.alone (unfold operand_row in refl) o x s).0 c

  export_reached : (f : CodeOption ℕ) (o : Option Head) (space name : ℕ) → AliasAt (parts_at claim) f o → export_in claim space name f ≡ entered (o then export_of space name)
  unfolding export_in ◌then◌
  export_reached None none space name nowhere = unfold entered in refl
  export_reached (Some n) (some g) space name (there r h s A) = export_alias_lem r h space name s A
  export_reached (Some n) none space name x'' = elim x'' [ ]
  export_reached None (some g) space name x3 = elim x3 [ ]

-- ---- several PATHs

module _ (fs : Fields) where
  -- through the first j of these exports, the last of them first
  unfoldable through : (ps : List ℕ) (j space n : ℕ) → Option ℕ
  through ps zero space n = some n
  through ps (suc j) space n = through_export fs space (get_or ps j 0) n then λ m. through ps j 10 m

  then_same : (o : Option ℕ) → (o then λ m. some m) ≡ o
  unfolding ◌then◌
  then_same none = refl
  then_same (some n) = refl

  through_one : (p : ℕ) (rs : List ℕ) (space n : ℕ) → through (p ∷ rs) 1 space n ≡ through_export fs space p n
  unfolding through
  through_one p rs space n = then_same (through_export fs space p n)

  through_step : (ps : List ℕ) (j space n : ℕ) → through ps (suc j) space n ≡ (through_export fs space (get_or ps j 0) n then λ m. through ps j 10 m)
  unfolding through
  through_step ps j space n = refl

  -- what is known of the aliases before the last one, and of the last
  through_next : (p : ℕ) (rs : List ℕ) (i space n : ℕ) → ((m : ℕ) → through (p ∷ rs) (suc i) 10 m ≡ (through rs i 10 m then λ t. through_export fs 10 p t)) → through (p ∷ rs) (suc (suc i)) space n ≡ (through rs (suc i) space n then λ m. through_export fs 10 p m)
  through_next p rs i space n f =
      through_step (p ∷ rs) (suc i) space n
      ∙ (then_then (through_export fs space (get_or rs i 0) n) (λ m. through rs i 10 m) (λ m. through_export fs 10 p m) (λ m. through (p ∷ rs) (suc i) 10 m) f
      ∙ ap (λ (o : Option ℕ). o then λ m. through_export fs 10 p m) (sym (through_step rs i space n)))

  first_then : (p : ℕ) (rs : List ℕ) (m : ℕ) → through (p ∷ rs) 1 10 m ≡ (through rs 0 10 m then λ t. through_export fs 10 p t)
  unfolding through ◌then◌
  first_then p rs m = through_one p rs 10 m

  through_more : (p : ℕ) (rs : List ℕ) (i space n : ℕ) → through (p ∷ rs) (suc (suc i)) space n ≡ (through rs (suc i) space n then λ m. through_export fs 10 p m)
  through_more p rs zero space n = through_next p rs 0 space n (first_then p rs)
  through_more p rs (suc i) space n = through_next p rs (suc i) space n (λ m. through_more p rs i 10 m)

  through_paths_lem : (p : ℕ) (ps : List ℕ) (space n : ℕ) → through (p ∷ ps) (suc (length ps)) space n ≡ through_paths fs space p ps n
  unfolding through_paths
  through_paths_lem p [] space n = through_one p [] space n
  through_paths_lem p (q ∷ ps) space n = through_more p (q ∷ ps) (length ps) space n ∙ ap (λ (o : Option ℕ). o then λ m. through_export fs 10 p m) (through_paths_lem q ps space n)

path_row : (ps : List ℕ) (rest : List Row) (j : ℕ) → j < length ps → (get_or (all_parts (path_rows ps ++ rest)) j no_parts).x ≡ get_or ps j 0
unfolding all_parts path_rows as_parts encode
path_row [] rest j l = absurd (omega arith)
path_row (p ∷ ps) rest zero l = refl
path_row (p ∷ ps) rest (suc j) l = path_row ps rest j (omega arith)

-- ---- in a scope that is known

module _ (claim : List ℕ) (ss : List Slot) (used : ℕ) where
  abbrev Knows : (k : ℕ) → Fields → Type 0
  Knows k fs = Known (parts_at claim) ss k fs

  pub known_name : (k : ℕ) (fs : Fields) (space name : ℕ) → Knows k fs → space < 256 → name ≤ top_name → look_t ss k space name ≡ entered (find (declarations fs) space name)
  unfolding look_t
  known_name k fs space name K w l = K.names space name w l ∙ entry_number (find (declarations fs) space name)

  row_behind : (k : ℕ) → suc k < 65536 → k % 65536 + 1 ≡ k + 1
  row_behind k l = omega arith

  pub known_outer : (k : ℕ) (fs : Fields) (space n : ℕ) → Knows k fs → suc k < 65536 → space < 256 → through_outer_t ss claim (seeking used k space n) ≡ met_at (through_outer fs space n)
  unfolding through_outer_t reached_t look_t through_outer
  known_outer k fs space n K l w = rw (row_behind k l) (outer_reached claim (find_in ss (entry_key_t (k + 1) space) (reach_counted_t n)) (reached fs space n) (K.aliases space n w))

  known_export : (k : ℕ) (fs : Fields) (space n name : ℕ) → Knows k fs → suc k < 65536 → space < 256 → through_export_t ss claim (seeking used k space n) name ≡ entered (through_export fs space name n)
  unfolding through_export_t reached_t look_t through_export
  known_export k fs space n name K l w = rw (row_behind k l) (export_reached claim (find_in ss (entry_key_t (k + 1) space) (reach_counted_t n)) (reached fs space n) space name (K.aliases space n w))

  stop_then : (o : Option ℕ) (f : ℕ → CodeOption ℕ) (g : ℕ → Option ℕ) → ((m : ℕ) → f m ≡ entered (g m)) → or_stop (entered o) f ≡ entered (o then g)
  unfolding or_stop entered ◌then◌
  stop_then none f g e = refl
  stop_then (some m) f g e = e m

  paths_through : (k : ℕ) (fs : Fields) (ps : List ℕ) (rest : List Row) (j space n : ℕ) → Knows k fs → suc k < 65536 → space < 256 → j ≤ length ps → through_paths_t ss claim (all_parts (path_rows ps ++ rest)) j (seeking used k space n) ≡ entered (through fs ps j space n)
  unfolding through_paths_t through
  paths_through k fs ps rest zero space n K l w h = unfold entered in refl
  paths_through k fs ps rest (suc j) space n K l w h =
      rw (path_row ps rest j (omega arith), known_export k fs space n (get_or ps j 0) K l w)
      (stop_then (through_export fs space (get_or ps j 0) n) _ (λ m. through fs ps j 10 m) (λ m. paths_through k fs ps rest j 10 m K l (omega arith) (omega arith)))

  pub known_paths : (k : ℕ) (fs : Fields) (p : ℕ) (ps : List ℕ) (rest : List Row) (space n : ℕ) → Knows k fs → suc k < 65536 → space < 256 → through_paths_t ss claim (all_parts (path_rows (p ∷ ps) ++ rest)) (suc (length ps)) (seeking used k space n) ≡ entered (through_paths fs space p ps n)
  known_paths k fs p ps rest space n K l w = paths_through k fs (p ∷ ps) rest (suc (length ps)) space n K l w (omega arith) ∙ ap entered (through_paths_lem fs p ps space n)

  -- ---- the scopes that are open

  -- a scope of the code, and of the rules
  pub record OpenedAs (s : List ℕ) (e : Env) : Type 0 where
    pub k : ℕ
    pub name : ℕ
    pub fs : Fields
    pub is_scope_lem : s ≡ open_scope_t name k
    pub is_env : e ≡ plainly name (declarations fs)
    pub known : Knows k fs

  abbrev pub Opened : List (List ℕ) → List Env → Type 0
  Opened [] [] = Unit {0}
  Opened [] (e ∷ es) = ⊥
  Opened (s ∷ st) [] = ⊥
  Opened (s ∷ st) (e ∷ es) = OpenedAs s e × Opened st es

  pub opened_name : (s : List ℕ) (e : Env) (space name : ℕ) → OpenedAs s e → space < 256 → name ≤ top_name → look_t ss (row_in s) space name ≡ entered (find (table_of e) space name)
  opened_name s e space name O w l = rw (O.is_scope_lem, O.is_env, plain_table O.name (declarations O.fs)) (known_name O.k O.fs space name O.known w l)

  further : (o : Option ℕ) (d : ℕ) (m : CodeOption Met) (w : Option (ℕ × ℕ)) → m ≡ met_at w → or_further (entered o) d m ≡ met_at (map (λ n. (d, n)) o or_else w)
  unfolding or_further entered met_at ◌or_else◌
  further none d m w e = e
  further (some n) d m w e = refl

  pub known_outward : (st : List (List ℕ)) (es : List Env) (d space name : ℕ) → Opened st es → space < 256 → name ≤ top_name → reach_out_t ss st d space name ≡ met_at (walk es d space name)
  unfolding reach_out_t walk
  known_outward [] [] d space name O w l = unfold met_at in refl
  known_outward [] (e ∷ es) d space name O w l = absurd O
  known_outward (s ∷ st) [] d space name O w l = absurd O
  known_outward (s ∷ st) (e ∷ es) d space name O w l =
      let i : reach_out_t ss st (d + 1) space name ≡ met_at (walk es (suc d) space name) = rw (add-one d) (known_outward st es (suc d) space name O.1 w l) in
      rw (opened_name s e space name O.0 w l) (further (find (table_of e) space name) d (reach_out_t ss st (d + 1) space name) (walk es (suc d) space name) i)

  -- by their names
  unfoldable pub named_as : (out : ℕ) → Option ℕ → CodeOption ℕ
  named_as out none = None
  named_as out (some d) = Some (out + d)

  named_next : (b : Bool) (out : ℕ) (o : Option ℕ) → pick b (Some out) (named_as (suc out) o) ≡ named_as out (when b then some 0 else map suc o)
  unfolding pick named_as when◌then◌else◌
  named_next true out o = ap Some (omega arith)
  named_next false out none = refl
  named_next false out (some d) = ap Some (omega arith)

  opened_as : (s : List ℕ) (e : Env) → OpenedAs s e → name_in s ≡ e.name
  unfolding plainly
  opened_as s e O = rw (O.is_scope_lem, O.is_env)

  pub known_named : (st : List (List ℕ)) (es : List Env) (out name : ℕ) → Opened st es → named_in st out name ≡ named_as out (Rules.named es name)
  unfolding named_in Rules.named
  known_named [] [] out name O = unfold named_as in refl
  known_named [] (e ∷ es) out name O = absurd O
  known_named (s ∷ st) [] out name O = absurd O
  known_named (s ∷ st) (e ∷ es) out name O =
      let i : named_in st (out + 1) name ≡ named_as (suc out) (Rules.named es name) = rw (add-one out) (known_named st es (suc out) name O.1) in
      rw (opened_as s e O.0, i) (named_next (eqb e.name name) out (Rules.named es name))

  -- by how far out they are
  pub data OutAs (st : List (List ℕ)) (d : ℕ) : Option Env → Type 0 where
    far : length st ≤ d → OutAs st d none
    near : (e : Env) → d < length st → OpenedAs (get_or st d no_scope) e → OutAs st d (some e)

  pub known_nth : (st : List (List ℕ)) (es : List Env) (d : ℕ) → Opened st es → OutAs st d (nth es d)
  unfolding nth
  known_nth [] [] d O = far (omega arith)
  known_nth [] (e ∷ es) d O = absurd O
  known_nth (s ∷ st) [] d O = absurd O
  known_nth (s ∷ st) (e ∷ es) zero O = near e (omega arith) O.0
  known_nth (s ∷ st) (e ∷ es) (suc d) O = go (nth es d) (known_nth st es d O.1)
    where
      go : (o : Option Env) → OutAs st d o → OutAs (s ∷ st) (suc d) o
      go none (far l) = far (omega arith)
      go (some e') (near e₀ l O') = near e₀ (omega arith) O'
