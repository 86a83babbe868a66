-- What is entered of a scope are its declarations: a name is found among them exactly if the rules find it.
use Rattle.std.specs.Prelude.{◌≡◌, Bool, ◌&&◌, ◌||◌, set, Option as CodeOption, Some, None, is_some}
use Rattle.std.proofs.Math.Path.{refl, sym, ap}
use Rattle.std.proofs.Common.{◌∙◌, arith, length-set}
use Rattle.std.proofs.Math.Bool.{true, false}
use Rattle.std.proofs.Math.Option.{Option, none, some, map}
use mathlib.Core.List.{List, [], ◌∷◌, ◌++◌, append_assoc, append-nil}
use Prim.Native.Nat.{ℕ, suc, ◌+◌, ◌≤◌}
use Rattle.std.proofs.Math.Dec.{eqb}
use Rattle.std.proofs.Math.ListN.{length, length-append}
use Rattle.kit.specs.Pick.{pick}
use Rattle.kit.specs.Out.{Out, ◌&◌}
use Rattle.rules.specs.Tools.{when◌then◌else◌, is_just}
use Rattle.rules.specs.Rows.{Row, Field, Decl, Ref, Path, Outer, Case, Open, Close, Export, encode}
use Rattle.rules.specs.Tree.{Declaration, Operand, ref, outer, case, scope, Fields, end, ◌▸◌, Item, plain, holds, head_of, decl_rows, path_rows, operand_row, operand_rows, export_rows, item_rows}
use Rattle.rules.specs.Rules.{find, declarations}
use Rattle.rules.specs.Laws.ToolLaws
use Rattle.rules.specs.Laws.ToolLaws.{All, done, all_append, false_not, length_snoc, snoc_append}
use Rattle.names.specs.Table.{Slot, space_of, name_of, number_of, between, find_in}
use Rattle.names.proofs.Storey.{pushed_room, between_push}
use Rattle.mark.specs.Visits.{Visit}
use Rattle.mark.specs.MarkedRows.{enter_row_t, enter_then, enter_all}
use Rattle.mark_laws.specs.Visited.{parts_of, visit, visit_rows, visit_append, own_rows, walks, open_rows, field_row, fields_visits}

-- ---- rows one behind another

enter_append : (xs ys : List Visit) (table : List Slot) (used : ℕ) → enter_all (xs ++ ys) table used ≡ enter_then (enter_all xs table used) (λ u t. enter_all ys t u)
unfolding enter_all enter_then
enter_append [] ys table used = refl
enter_append (x ∷ xs) ys table used = go (enter_row_t x.parts table used) (λ t u. enter_append xs ys t u)
  where
    go : (o : Out ℕ (List Slot)) → ((t : List Slot) (u : ℕ) → enter_all (xs ++ ys) t u ≡ enter_then (enter_all xs t u) (λ u t. enter_all ys t u)) → enter_then o (λ u t. enter_all (xs ++ ys) t u) ≡ enter_then (enter_then o (λ u t. enter_all xs t u)) (λ u t. enter_all ys t u)
    go (u & t) f = f t u

-- some rows, and what is left to do behind them
enter_behind : (xs ys : List Visit) (table : List Slot) (used u : ℕ) (t : List Slot) → enter_all xs table used ≡ (u & t) → enter_all (xs ++ ys) table used ≡ enter_all ys t u
unfolding enter_then
enter_behind xs ys table used u t e = enter_append xs ys table used ∙ rw e

-- ---- rows that declare nothing

abbrev is_decl : Row → Bool
is_decl (Field code builtin z) = false
is_decl (Decl space name z) = true
is_decl (Ref space at paths z) = false
is_decl (Path name) = false
is_decl (Outer space up at z) = false
is_decl (Case name z) = false
is_decl (Open kind name) = false
is_decl Close = false
is_decl (Export name) = false

abbrev NoDecls : List Row → Type 0
NoDecls rs = All (λ (r : Row). is_decl r ≡ false) rs

no_paths : (ps : List ℕ) → NoDecls (path_rows ps)
unfolding path_rows
no_paths [] = done
no_paths (p ∷ ps) = ToolLaws.◌&◌ refl (no_paths ps)

no_operand : (o : Operand) → NoDecls (operand_row o)
unfolding operand_row
no_operand (ref space at paths z) = ToolLaws.◌&◌ refl (no_paths paths)
no_operand (outer space up at z) = ToolLaws.◌&◌ refl done
no_operand (case name z) = ToolLaws.◌&◌ refl done

no_operands : (os : List Operand) → NoDecls (operand_rows os)
unfolding operand_rows
no_operands [] = done
no_operands (o ∷ os) = all_append (operand_row o) (operand_rows os) (no_operand o) (no_operands os)

no_export : (e : Option ℕ) → NoDecls (export_rows e)
unfolding export_rows
no_export none = done
no_export (some n) = ToolLaws.◌&◌ refl done

no_open : (i : Item) → NoDecls (open_rows i)
unfolding open_rows
no_open (plain h) = done
no_open (holds h (scope kind name fs)) = ToolLaws.◌&◌ refl done

passed : (r : Row) (table : List Slot) (used : ℕ) → is_decl r ≡ false → enter_row_t (parts_of (encode r)) table used ≡ (used & table)
unfolding enter_row_t parts_of encode pick
passed (Field code builtin z) table used e = refl
passed (Decl space name z) table used e = false_not (sym e)
passed (Ref space at paths z) table used e = refl
passed (Path name) table used e = refl
passed (Outer space up at z) table used e = refl
passed (Case name z) table used e = refl
passed (Open kind name) table used e = refl
passed Close table used e = refl
passed (Export name) table used e = refl

enter_none : (rs : List Row) (p : ℕ) (w : Bool) (table : List Slot) (used : ℕ) → NoDecls rs → enter_all (visit_rows p w rs) table used ≡ (used & table)
unfolding visit_rows visit enter_all enter_then
enter_none [] p w table used done = refl
enter_none (r ∷ rs) p w table used (ToolLaws.◌&◌ e es) = rw (passed r table used e) (enter_none rs (p + 1) w table used es)

-- ---- declarations

-- a name is found among the first n slots exactly if the rules find it
abbrev pub Known : (n : ℕ) → List Slot → List Declaration → Type 0
Known n table ds = (space name : ℕ) → is_some (find_in (between 0 n table) space name) ≡ is_just (find ds space name)

just_map : (o : Option ℕ) → is_just (map suc o) ≡ is_just o
just_map none = refl
just_map (some n) = refl

find_snoc : (ds : List Declaration) (d : Declaration) (space name : ℕ) → is_just (find (ds ++ (d ∷ [])) space name) ≡ (is_just (find ds space name) || (eqb d.space space && eqb d.name name))
unfolding find when◌then◌else◌
find_snoc [] d space name = go (eqb d.space space) (eqb d.name name)
  where
    go : (t u : Bool) → is_just (when t then when u then some 0 else map suc none else none) ≡ (false || (t && u))
    go true true = refl
    go true false = refl
    go false u = refl
find_snoc (c ∷ ds) d space name = go (eqb c.space space) (eqb c.name name) (find_snoc ds d space name)
  where
    T : Bool
    T = eqb d.space space && eqb d.name name

    go : (t u : Bool) → is_just (find (ds ++ (d ∷ [])) space name) ≡ (is_just (find ds space name) || T)
        → is_just (when t then when u then some 0 else map suc (find (ds ++ (d ∷ [])) space name) else find (ds ++ (d ∷ [])) space name)
        ≡ (is_just (when t then when u then some 0 else map suc (find ds space name) else find ds space name) || T)
    go true true e = refl
    go true false e = just_map (find (ds ++ (d ∷ [])) space name) ∙ e ∙ ap (λ (b : Bool). b || T) (sym (just_map (find ds space name)))
    go false u e = e

-- what one more slot says
pub found_snoc : (ss : List Slot) (s : Slot) (space name : ℕ) → find_in (ss ++ (s ∷ [])) space name ≡ pick (is_some (find_in ss space name)) (find_in ss space name) (pick (eqb (space_of s) space && eqb (name_of s) name) (Some (number_of s)) None)
unfolding find_in pick
found_snoc [] s space name = go (eqb (space_of s) space) (eqb (name_of s) name)
  where
    go : (t u : Bool) → pick t (pick u (Some (number_of s)) None) None ≡ pick (t && u) (Some (number_of s)) None
    go true true = refl
    go true false = refl
    go false u = refl
found_snoc (c ∷ ss) s space name = go (eqb (space_of c) space) (eqb (name_of c) name) (found_snoc ss s space name)
  where
    F : CodeOption ℕ
    F = find_in ss space name

    L : CodeOption ℕ
    L = pick (eqb (space_of s) space && eqb (name_of s) name) (Some (number_of s)) None

    go : (t u : Bool) → find_in (ss ++ (s ∷ [])) space name ≡ pick (is_some F) F L
        → pick t (pick u (Some (number_of c)) (find_in (ss ++ (s ∷ [])) space name)) (find_in (ss ++ (s ∷ [])) space name)
        ≡ pick (is_some (pick t (pick u (Some (number_of c)) F) F)) (pick t (pick u (Some (number_of c)) F) F) L
    go true true e = refl
    go true false e = e
    go false u e = e

found_is : (ss : List Slot) (s : Slot) (space name : ℕ) → is_some (find_in (ss ++ (s ∷ [])) space name) ≡ (is_some (find_in ss space name) || (eqb (space_of s) space && eqb (name_of s) name))
found_is ss s space name = ap is_some (found_snoc ss s space name) ∙ go (find_in ss space name) (eqb (space_of s) space && eqb (name_of s) name)
  where
    go : (f : CodeOption ℕ) (t : Bool) → is_some (pick (is_some f) f (pick t (Some (number_of s)) None)) ≡ (is_some f || t)
    go (Some n) t = unfold pick in refl
    go None true = unfold pick in refl
    go None false = unfold pick in refl

pub record Entered (room : ℕ) (ds : List Declaration) (o : Out ℕ (List Slot)) : Type 0 where
  pub table : List Slot
  pub answer : o ≡ (length ds & table)
  pub size : length table ≡ room
  pub known : Known (length ds) table ds

module _ (room : ℕ) where
  -- the DECLs of one field
  enter_decls : (ds before : List Declaration) (p : ℕ) (w : Bool) (table : List Slot) → length table ≡ room → length before + length ds ≤ room → Known (length before) table before → Entered room (before ++ ds) (enter_all (visit_rows p w (decl_rows ds)) table (length before))
  unfolding decl_rows visit_rows visit enter_all enter_then enter_row_t parts_of encode pick
  enter_decls [] before p w table s b k = rw append-nil (record { table = table; answer = refl; size = s; known = k })
  enter_decls (d ∷ ds) before p w table s b k =
      let slot : Slot = d.space ∷ d.name ∷ 0 ∷ 0 ∷ 0 ∷ 0 ∷ [] in
      let u : ℕ = length before in
      let len : u + 1 ≡ length (before ++ (d ∷ [])) = omega (arith, length_snoc before d) in
      let k' : Known (length (before ++ (d ∷ []))) (set table u slot) (before ++ (d ∷ [])) =
      λ space name. rw (← len, between_push table u slot 0 (omega arith) (omega arith))
      (found_is (between 0 u table) slot space name ∙ ap (λ (t : Bool). t || (eqb d.space space && eqb d.name name)) (k space name) ∙ sym (find_snoc before d space name)) in
      rw (← snoc_append, pushed_room table u slot (omega arith), len)
      (enter_decls ds (before ++ (d ∷ [])) (p + 1) w (set table u slot) (length-set table u slot ∙ s) (omega (arith, length_snoc before d)) k')

  -- one field: its FIELD and what follows the DECLs declare nothing
  enter_item : (i : Item) (before : List Declaration) (p : ℕ) (w : Bool) (table : List Slot) → length table ≡ room → length before + length (head_of i).decls ≤ room → Known (length before) table before
      → Entered room (before ++ (head_of i).decls) (enter_all (visit p w (field_row (head_of i)) ∷ visit_rows (p + 1) (walks (head_of i)) (own_rows (head_of i) ++ open_rows i)) table (length before))
  unfolding enter_all enter_then visit own_rows
  enter_item i before p w table s b k =
      let h = head_of i in
      let more : List Row = (operand_rows h.operands ++ export_rows h.export) ++ open_rows i in
      let no : NoDecls more = all_append (operand_rows h.operands ++ export_rows h.export) (open_rows i) (all_append (operand_rows h.operands) (export_rows h.export) (no_operands h.operands) (no_export h.export)) (no_open i) in
      let e = enter_decls h.decls before (p + 1) (walks h) table s b k in
      rw (passed (field_row h) table (length before) refl)
      (rw (append_assoc (decl_rows h.decls) (operand_rows h.operands ++ export_rows h.export) (open_rows i), visit_append (p + 1) (walks h) (decl_rows h.decls) more)
      (record {
        table = e.table;
        answer = enter_behind (visit_rows (p + 1) (walks h) (decl_rows h.decls)) (visit_rows (p + 1 + length (decl_rows h.decls)) (walks h) more) table (length before) (length (before ++ h.decls)) e.table e.answer
            ∙ enter_none more (p + 1 + length (decl_rows h.decls)) (walks h) e.table (length (before ++ h.decls)) no;
        size = e.size;
        known = e.known;
      }))

  -- all fields
  enter_fields : (fs : Fields) (before : List Declaration) (p : ℕ) (w : Bool) (table : List Slot) → length table ≡ room → length before + length (declarations fs) ≤ room → Known (length before) table before → Entered room (before ++ declarations fs) (enter_all (fields_visits p w fs) table (length before))
  unfolding fields_visits declarations
  enter_fields end before p w table s b k = rw append-nil (unfold enter_all in record { table = table; answer = refl; size = s; known = k })
  enter_fields (i ▸ fs) before p w table s b k =
      let h = head_of i in
      let l = length-append h.decls (declarations fs) in
      let e = enter_item i before p w table s (omega arith) k in
      let r = enter_fields fs (before ++ h.decls) (p + length (item_rows i)) (walks h) e.table e.size (omega (arith, length-append before h.decls)) e.known in
      rw (← append_assoc)
      (record {
        table = r.table;
        answer = enter_behind (visit p w (field_row h) ∷ visit_rows (p + 1) (walks h) (own_rows h ++ open_rows i)) (fields_visits (p + length (item_rows i)) (walks h) fs) table (length before) (length (before ++ h.decls)) e.table e.answer ∙ r.answer;
        size = r.size;
        known = r.known;
      })

  -- THE DECLARATIONS OF A SCOPE are entered, into a table of which nothing is used.
  pub enter_scope : (fs : Fields) (p : ℕ) (w : Bool) (table : List Slot) → length table ≡ room → length (declarations fs) ≤ room → Entered room (declarations fs) (enter_all (fields_visits p w fs) table 0)
  enter_scope fs p w table s b = enter_fields fs [] p w table s (omega arith) (λ space name. unfold between find_in find in refl)
