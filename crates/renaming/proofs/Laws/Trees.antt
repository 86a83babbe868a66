-- A renaming that keeps different names different changes nothing in the steps but the names: said of trees.
use Rattle.std.specs.Prelude.{◌≡◌, Bool, true, false, not, ◌&&◌, eqb, leb}
use Rattle.std.proofs.Math.Path.{refl, ap, ap₂, sym}
use Rattle.std.proofs.Common.{◌∙◌}
use Rattle.std.proofs.Math.Option
use Rattle.std.proofs.Math.Option.{Option, none, some}
use mathlib.Core.List.{List, [], ◌∷◌, ◌++◌, map}
use Prim.Native.Nat.{ℕ, zero, suc, ◌+◌}
use Rattle.std.proofs.Math.ListN.{length}
use Rattle.std.proofs.lemmas.List.{length-map}
use Rattle.rules.specs.Tools.{when◌then◌else◌, is_in, is_just, ◌or_else◌}
use Rattle.rules.specs.Versions.{RuleSet, top_name}
use Rattle.rules.specs.Rows.{Index, Num, Id, Row, Field, Decl, Ref, Path, Open, Close}
use Rattle.rules.specs.Tree.{Declaration, Operand, ref, outer, case, Head, Scope, scope, Fields, end, ◌▸◌, Item, plain, holds, with_operands, head_of, decl_rows, path_rows, operand_row, operand_rows, head_rows, flatten, fields_rows, item_rows, export_rows}
use Rattle.rules.specs.Rules
use Rattle.rules.specs.Rules.{Refusal, Result, refused, ok, ◌>>=◌, Entry, decls_in, Env, table_of, Before, Outside, at_root, onward, opened, inward, find, distinct, walk, Expanded, expand_operand, expand_operands, expand_head, expand_fields, fresh, path_aliases, resolve_operands, resolve_head, resolve_inserted, prepare, resolve_scope, resolve_fields, resolve_item, declarations, entered, stand_in, inserted_entries, resolve_inside, Lookup, found, absent}
use Rattle.renaming.specs.Renaming.{renamed_index, renamed_row}
use Rattle.rules.specs.Laws.ToolLaws.{eqb-true, eqb_same}

-- ---- a renaming of each thing

module _ (f : ℕ → ℕ) where
  abbrev pub ren_decl : Declaration → Declaration
  ren_decl d = record { space = d.space; name = f d.name; z = d.z }

  abbrev pub ren_operand : Operand → Operand
  ren_operand (ref space at paths z) = ref space (renamed_index f at) paths z
  ren_operand (outer space up at z) = outer space (renamed_index f up) (renamed_index f at) z
  ren_operand (case name z) = case (f name) z

  abbrev pub ren_head : Head → Head
  ren_head h = record { code = h.code; builtin = h.builtin; z = h.z; decls = map ren_decl h.decls; operands = map ren_operand h.operands; export = h.export }

  abbrev mutual
    pub ren_scope : Scope → Scope
    ren_scope (scope kind name fs) = scope kind (f name) (ren_fields fs)

    pub ren_fields : Fields → Fields
    ren_fields end = end
    ren_fields (i ▸ fs) = ren_item i ▸ ren_fields fs

    pub ren_item : Item → Item
    ren_item (plain h) = plain (ren_head h)
    ren_item (holds h s) = holds (ren_head h) (ren_scope s)

  abbrev pub ren_entry : Entry → Entry
  ren_entry e = record { decl = ren_decl e.decl; row = e.row }

  abbrev pub ren_env : Env → Env
  ren_env e = record { name = f e.name; entries = map ren_entry e.entries; before = map ren_decl e.before }

  abbrev ren_outside : Outside → Outside
  ren_outside o = record { early = o.early; before = record { row = o.before.row; decls = map ren_decl o.before.decls }; scopes = map ren_env o.scopes }

-- ---- results

abbrev pub map_r : {A B : Type 0} → (A → B) → Result A → Result B
map_r g (refused why place) = refused why place
map_r g (ok a) = ok (g a)

bind_ren : {A A' B B' : Type 0} (g : A → A') (h : B → B') (m : Result A) (m' : Result A') (k : A → Result B) (k' : A' → Result B')
    → m' ≡ map_r g m → ((a : A) → k' (g a) ≡ map_r h (k a)) → (m' >>= k') ≡ map_r h (m >>= k)
unfolding ◌>>=◌
bind_ren g h (refused why place) m' k k' e p = rw e
bind_ren g h (ok a) m' k k' e p = rw e (p a)

pub if_ren : {A B : Type 0} (g : A → B) (b : Bool) (x y : A) (x' y' : B)
    → x' ≡ g x → y' ≡ g y → (when b then x' else y') ≡ g (when b then x else y)
unfolding when◌then◌else◌
if_ren g true x y x' y' p q = p
if_ren g false x y x' y' p q = q

pub same_bool : (a b : Bool) → (a ≡ true → b ≡ true) → (b ≡ true → a ≡ true) → a ≡ b
same_bool true b p q = sym (p refl)
same_bool false true p q = q refl
same_bool false false p q = refl

pub map-append : {A B : Type 0} (g : A → B) (xs ys : List A) → map g (xs ++ ys) ≡ map g xs ++ map g ys
map-append g [] ys = refl
map-append g (x ∷ xs) ys = ap (λ (l : List _). g x ∷ l) (map-append g xs ys)

-- ---- the rows of a renamed tree are the renamed rows

module _ (f : ℕ → ℕ) where
  abbrev R : List Row → List Row
  R rows = map (renamed_row f) rows

  decls_rows : (ds : List Declaration) → decl_rows (map (ren_decl f) ds) ≡ R (decl_rows ds)
  unfolding decl_rows renamed_row
  decls_rows [] = refl
  decls_rows (d ∷ ds) = ap (λ (l : List Row). Decl d.space (f d.name) d.z ∷ l) (decls_rows ds)

  paths_rows : (ps : List ℕ) → path_rows ps ≡ R (path_rows ps)
  unfolding path_rows renamed_row
  paths_rows [] = refl
  paths_rows (p ∷ ps) = ap (λ (l : List Row). Path p ∷ l) (paths_rows ps)

  operand_rows_lem : (o : Operand) → operand_row (ren_operand f o) ≡ R (operand_row o)
  unfolding operand_row renamed_row
  operand_rows_lem (ref space at paths z) = ap (λ (l : List Row). Ref space (renamed_index f at) (length paths) z ∷ l) (paths_rows paths)
  operand_rows_lem (outer space up at z) = refl
  operand_rows_lem (case name z) = refl

  operands_rows : (os : List Operand) → operand_rows (map (ren_operand f) os) ≡ R (operand_rows os)
  unfolding operand_rows
  operands_rows [] = refl
  operands_rows (o ∷ os) = ap₂ ◌++◌ (operand_rows_lem o) (operands_rows os) ∙ sym (map-append (renamed_row f) (operand_row o) (operand_rows os))

  export_rows_lem : (e : Option ℕ) → export_rows e ≡ R (export_rows e)
  unfolding export_rows renamed_row
  export_rows_lem none = refl
  export_rows_lem (some n) = refl

  head_rows_lem : (h : Head) → head_rows (ren_head f h) ≡ R (head_rows h)
  unfolding head_rows renamed_row
  head_rows_lem h =
      ap (λ (l : List Row). Field h.code h.builtin h.z ∷ l)
      (ap₂ ◌++◌ (decls_rows h.decls)
      (ap₂ ◌++◌ (operands_rows h.operands) (export_rows_lem h.export) ∙ sym (map-append (renamed_row f) (operand_rows h.operands) (export_rows h.export)))
      ∙ sym (map-append (renamed_row f) (decl_rows h.decls) (operand_rows h.operands ++ export_rows h.export)))

  mutual
    unfolding flatten renamed_row

    pub scope_rows : (s : Scope) → flatten (ren_scope f s) ≡ R (flatten s)
    scope_rows (scope kind name fs) =
        ap (λ (l : List Row). Open kind (f name) ∷ l)
        (ap (λ (l : List Row). l ++ (Close ∷ [])) (fields_rows_lem fs) ∙ sym (map-append (renamed_row f) (fields_rows fs) (Close ∷ [])))

    fields_rows_lem : (fs : Fields) → fields_rows (ren_fields f fs) ≡ R (fields_rows fs)
    fields_rows_lem end = refl
    fields_rows_lem (i ▸ fs) = ap₂ ◌++◌ (item_rows_lem i) (fields_rows_lem fs) ∙ sym (map-append (renamed_row f) (item_rows i) (fields_rows fs))

    item_rows_lem : (i : Item) → item_rows (ren_item f i) ≡ R (item_rows i)
    item_rows_lem (plain h) = head_rows_lem h
    item_rows_lem (holds h s) = ap₂ ◌++◌ (head_rows_lem h) (scope_rows s) ∙ sym (map-append (renamed_row f) (head_rows h) (flatten s))

  -- so there are as many
  operand_long_lem : (o : Operand) → length (operand_row (ren_operand f o)) ≡ length (operand_row o)
  operand_long_lem o = ap length (operand_rows_lem o) ∙ length-map (operand_row o) (renamed_row f)

  head_long_lem : (h : Head) → length (head_rows (ren_head f h)) ≡ length (head_rows h)
  head_long_lem h = ap length (head_rows_lem h) ∙ length-map (head_rows h) (renamed_row f)

  pub item_long_lem : (i : Item) → length (item_rows (ren_item f i)) ≡ length (item_rows i)
  item_long_lem i = ap length (item_rows_lem i) ∙ length-map (item_rows i) (renamed_row f)

-- ---- the steps

-- different names stay different; no name, the names of inserted fields and what is a name of an input stay what they are
pub record Faithful (f : ℕ → ℕ) : Type 0 where
  pub apart : (a b : ℕ) → f a ≡ f b → a ≡ b
  pub none_stays : f 0 ≡ 0
  pub fresh_stays : (k : ℕ) → f (fresh k) ≡ fresh k
  pub range_stays : (n : ℕ) → leb (f n) top_name ≡ leb n top_name

module _ (f : ℕ → ℕ) (w : Faithful f) where
  pub eqb_ren : (a b : ℕ) → eqb (f a) (f b) ≡ eqb a b
  eqb_ren a b =
      same_bool (eqb (f a) (f b)) (eqb a b)
      (λ e. rw (w.apart a b (eqb-true (f a) (f b) e)) (eqb_same b))
      (λ e. rw (eqb-true a b e) (eqb_same (f b)))

  eqb_zero : (a : ℕ) → eqb (f a) 0 ≡ eqb a 0
  eqb_zero a = rw w.none_stays at (eqb_ren a 0)

  abbrev pub D : List Declaration → List Declaration
  D ds = map (ren_decl f) ds

  abbrev pub N : List Entry → List Entry
  N es = map (ren_entry f) es

  abbrev E : List Env → List Env
  E es = map (ren_env f) es

  abbrev H : List Head → List Head
  H hs = map (ren_head f) hs

  abbrev U : Outside → Outside
  U o = ren_outside f o

  find_ren : (ds : List Declaration) (space name : ℕ) → find (D ds) space (f name) ≡ find ds space name
  unfolding find
  find_ren [] space name = refl
  find_ren (d ∷ ds) space name = rw (eqb_ren d.name name, find_ren ds space name)

  decls_ren : (es : List Entry) → decls_in (N es) ≡ D (decls_in es)
  decls_ren [] = refl
  decls_ren (e ∷ es) = ap (λ (l : List Declaration). ren_decl f e.decl ∷ l) (decls_ren es)

  table_ren : (es : List Entry) (space name : ℕ) → find (decls_in (N es)) space (f name) ≡ find (decls_in es) space name
  table_ren es space name = ap (λ (ds : List Declaration). find ds space (f name)) (decls_ren es) ∙ find_ren (decls_in es) space name

  look_up_ren : (es : List Entry) (space name : ℕ) → Rules.look_up (N es) space (f name) ≡ Rules.look_up es space name
  unfolding Rules.look_up
  look_up_ren [] space name = refl
  look_up_ren (e ∷ es) space name = rw (eqb_ren e.decl.name name, look_up_ren es space name)

  walk_ren : (es : List Env) (d space name : ℕ) → walk (E es) d space (f name) ≡ walk es d space name
  unfolding walk
  walk_ren [] d space name = refl
  walk_ren (e ∷ es) d space name = rw (table_ren e.entries space name, walk_ren es (suc d) space name)

  is_in_ren : (n : ℕ) (ns : List ℕ) → is_in (f n) (map f ns) ≡ is_in n ns
  is_in_ren n [] = refl
  is_in_ren n (m ∷ ns) = rw (eqb_ren n m, is_in_ren n ns)

  named_ren : (es : List Env) (name : ℕ) → Rules.named (E es) (f name) ≡ Rules.named es name
  unfolding Rules.named
  named_ren [] name = refl
  named_ren (e ∷ es) name = rw (eqb_ren e.name name, named_ren es name)

  nth_ren : (es : List Env) (n : ℕ) → Rules.nth (E es) n ≡ Option.map (ren_env f) (Rules.nth es n)
  unfolding Rules.nth
  nth_ren [] n = refl
  nth_ren (e ∷ es) zero = refl
  nth_ren (e ∷ es) (suc n) = nth_ren es n

  first_ren : (ds : List Declaration) (space name : ℕ) → Rules.first_place (D ds) space (f name) ≡ Rules.first_place ds space name
  unfolding Rules.first_place
  first_ren [] space name = refl
  first_ren (d ∷ ds) space name = rw (eqb_ren d.name name, first_ren ds space name)

  distinct_ren : (before ds : List Declaration) → distinct (D before) (D ds) ≡ map_r D (distinct before ds)
  unfolding distinct
  distinct_ren before [] = refl
  distinct_ren before (d ∷ ds) =
      rw (eqb_zero d.name, find_ren before d.space d.name, first_ren before d.space d.name)
      (if_ren (map_r D) _ _ _ _ _ refl (rw (map-append (ren_decl f) before (d ∷ [])) at (distinct_ren (before ++ (d ∷ [])) ds)))

  -- ---- what comes later

  later_ren : (ds before : List Declaration) (space name : ℕ) → Rules.comes_later (D ds) (D before) space (f name) ≡ Rules.comes_later ds before space name
  unfolding Rules.comes_later
  later_ren ds before space name = rw (find_ren ds space name, find_ren before space name)

  later_table : (es : List Entry) (before : List Declaration) (space name : ℕ) → Rules.comes_later (decls_in (N es)) (D before) space (f name) ≡ Rules.comes_later (decls_in es) before space name
  later_table es before space name = ap (λ (ds : List Declaration). Rules.comes_later ds (D before) space (f name)) (decls_ren es) ∙ later_ren (decls_in es) before space name

  later_out : (es : List Env) (space name : ℕ) → Rules.comes_later_out (E es) space (f name) ≡ Rules.comes_later_out es space name
  unfolding Rules.comes_later_out
  later_out [] space name = refl
  later_out (e ∷ es) space name = rw (table_ren e.entries space name, later_table e.entries e.before space name, later_out es space name)

  late_name_ren : (here : List Declaration) (o : Outside) (space name : ℕ) → Rules.late_name (D here) (U o) space (f name) ≡ Rules.late_name here o space name
  unfolding Rules.late_name
  late_name_ren here o space name = rw (find_ren here space name, later_ren here o.before.decls space name, later_out o.scopes space name)

  late_instance_ren : (here : Env) (o : Outside) (os : List Operand) → Rules.late_instance (ren_env f here) (U o) (map (ren_operand f) os) ≡ Rules.late_instance here o os
  unfolding Rules.late_instance
  late_instance_ren here o [] = refl
  late_instance_ren here o (ref space (Num n) paths z ∷ os) = refl
  late_instance_ren here o (ref space (Id name) paths z ∷ os) = rw (w.range_stays name, later_table here.entries o.before.decls space name)
  late_instance_ren here o (outer space up at z ∷ os) = refl
  late_instance_ren here o (case name z ∷ os) = refl

  late_index_ren : (early : Bool) (e : Env) (space : ℕ) (at : Index) → Rules.late_index early (ren_env f e) space (renamed_index f at) ≡ Rules.late_index early e space at
  unfolding Rules.late_index
  late_index_ren early e space (Num n) = refl
  late_index_ren early e space (Id name) = rw (later_table e.entries e.before space name)

  -- ---- step B

  abbrev ren_x : {A : Type 0} → (A → A) → Expanded A → Expanded A
  ren_x g e = record { inserted = H e.inserted; rows = e.rows; now = g e.now; k = e.k }

  alias_ren : (code space k from : ℕ) (at : Index) (p z : ℕ)
      → Rules.export_alias code space (fresh k) from (renamed_index f at) p z ≡ ren_head f (Rules.export_alias code space (fresh k) from at p z)
  unfolding Rules.export_alias
  alias_ren code space k from at p z = rw (w.fresh_stays k)

  paths_ren : (space : ℕ) (at : Index) (p : ℕ) (ps : List ℕ) (z k : ℕ)
      → path_aliases space (renamed_index f at) p ps z k ≡ H (path_aliases space at p ps z k)
  unfolding path_aliases
  paths_ren space at p [] z k =
      ap (λ (h : Head). h ∷ []) (if_ren (ren_head f) _ _ _ _ _ (alias_ren 10 space k 6 at p z) (alias_ren 9 space k 10 at p z))
  paths_ren space at p (q ∷ ps) z k =
      ap₂ (λ (h : Head) (hs : List Head). h ∷ hs) (alias_ren 9 10 k 10 at p z)
      (rw (w.fresh_stays k) at (paths_ren space (Id (fresh k)) q ps z (suc k)))

  outer_ren : (space k d n z : ℕ) → ren_head f (Rules.outer_alias space (fresh k) d n z) ≡ Rules.outer_alias space (fresh k) d n z
  unfolding Rules.outer_alias
  outer_ren space k d n z = rw (w.fresh_stays k)

  zeros_ren : (hs : List Head) → map {B = ℕ} (λ (h : Head). 0) (H hs) ≡ map (λ (h : Head). 0) hs
  zeros_ren [] = refl
  zeros_ren (h ∷ hs) = ap (λ (l : List ℕ). 0 ∷ l) (zeros_ren hs)

  through_ren : (space z last : ℕ) (hs : List Head) → Rules.through space z last (H hs) ≡ ren_x (ren_operand f) (Rules.through space z last hs)
  unfolding Rules.through
  through_ren space z last hs = rw (w.fresh_stays last, zeros_ren hs)

  found_at_ren : (space name z k : ℕ) (o : Option (ℕ × ℕ))
      → Rules.found_at space (f name) z k o ≡ map_r (ren_x (ren_operand f)) (Rules.found_at space name z k o)
  unfolding Rules.found_at Rules.as_it_is
  found_at_ren space name z k none = refl
  found_at_ren space name z k (some at) = if_ren (map_r (ren_x (ren_operand f))) _ _ _ _ _ (ap ok (rw (outer_ren space k at.0 at.1 z) at (through_ren space z k (Rules.outer_alias space (fresh k) at.0 at.1 z ∷ [])))) refl

  map_r_same : {A : Type 0} (r : Result A) → map_r (λ (a : A). a) r ≡ r
  map_r_same (refused why p) = refl
  map_r_same (ok a) = refl

  in_time_ren : (late late' : Bool) (z : ℕ) → late' ≡ late → Rules.in_time late' z ≡ map_r (λ (u : Unit {0}). u) (Rules.in_time late z)
  in_time_ren late late' z e = ap (λ (b : Bool). Rules.in_time b z) e ∙ sym (map_r_same _)

  expand_operand_ren : (here : List Declaration) (outside : Outside) (k : ℕ) (o : Operand)
      → expand_operand (D here) (U outside) k (ren_operand f o) ≡ map_r (ren_x (ren_operand f)) (expand_operand here outside k o)
  unfolding expand_operand Rules.as_it_is
  expand_operand_ren here outside k (ref space (Num n) [] z) = refl
  expand_operand_ren here outside k (ref space (Id name) [] z) =
      bind_ren (λ (u : Unit {0}). u) (ren_x (ren_operand f)) _ _ _ _ (in_time_ren _ _ z (late_name_ren here outside space name))
      (λ u. rw (find_ren here space name, walk_ren outside.scopes 1 space name)
      (if_ren (map_r (ren_x (ren_operand f))) _ _ _ _ _ refl (found_at_ren space name z k (walk outside.scopes 1 space name))))
  expand_operand_ren here outside k (ref space at (p ∷ ps) z) =
      if_ren (map_r (ren_x (ren_operand f))) _ _ _ _ _ refl (rw (paths_ren space at p ps z k) (ap ok (through_ren space z (k + length ps) (path_aliases space at p ps z k))))
  expand_operand_ren here outside k (outer space up at z) = refl
  expand_operand_ren here outside k (case name z) = refl

  O : List Operand → List Operand
  O os = map (ren_operand f) os

  expand_operands_ren : (here : List Declaration) (outside : Outside) (k : ℕ) (os : List Operand)
      → expand_operands (D here) (U outside) k (O os) ≡ map_r (ren_x O) (expand_operands here outside k os)
  unfolding expand_operands Rules.as_it_is O
  expand_operands_ren here outside k [] = refl
  expand_operands_ren here outside k (o ∷ os) =
      bind_ren (ren_x (ren_operand f)) (ren_x O) _ _ _ _ (expand_operand_ren here outside k o)
      (λ e. bind_ren (ren_x O) (ren_x O) _ _ _ _ (expand_operands_ren here outside e.k os)
      (λ es. rw (map-append (ren_head f) e.inserted es.inserted, operand_long_lem f o)))

  expand_head_ren : (here : List Declaration) (outside : Outside) (k : ℕ) (h : Head)
      → expand_head (D here) (U outside) k (ren_head f h) ≡ map_r (ren_x (ren_head f)) (expand_head here outside k h)
  unfolding expand_head Rules.as_it_is with_operands O
  expand_head_ren here outside k h =
      if_ren (map_r (ren_x (ren_head f))) _ _ _ _ _ refl
      (bind_ren (ren_x O) (ren_x (ren_head f)) _ _ _ _ (expand_operands_ren here outside k h.operands) (λ e. refl))

  pub head_of_ren : (i : Item) → head_of (ren_item f i) ≡ ren_head f (head_of i)
  unfolding head_of
  head_of_ren (plain h) = refl
  head_of_ren (holds h s) = refl

  pub declarations_ren : (fs : Fields) → declarations (ren_fields f fs) ≡ D (declarations fs)
  unfolding declarations
  declarations_ren end = refl
  declarations_ren (i ▸ fs) = rw (head_of_ren i, declarations_ren fs, map-append (ren_decl f) (head_of i).decls (declarations fs))

  onward_ren : (i : Item) (o : Outside)
      → ◌≡◌ {A = Outside} (record { early = o.early; before = record { row = o.before.row + length (item_rows (ren_item f i)); decls = D o.before.decls ++ D (head_of i).decls }; scopes = E o.scopes })
      (U (onward i o))
  onward_ren i o = rw (item_long_lem f i, map-append (ren_decl f) o.before.decls (head_of i).decls)

  inward_ren : (h : Head) (here : Env) (o : Outside) → inward (ren_head f h) (ren_env f here) (U o) ≡ U (inward h here o)
  inward_ren h here o = rw (head_long_lem f h)

  pub entered_ren : (row : ℕ) (ds : List Declaration) → entered row (D ds) ≡ N (entered row ds)
  unfolding entered
  entered_ren row [] = refl
  entered_ren row (d ∷ ds) = ap (λ (l : List Entry). record { decl = ren_decl f d; row = row } ∷ l) (entered_ren (suc row) ds)

  stand_in_ren : (row : ℕ) (ds : List Declaration) → stand_in row (D ds) ≡ N (stand_in row ds)
  unfolding stand_in
  stand_in_ren row [] = refl
  stand_in_ren row (d ∷ ds) = ap (λ (l : List Entry). record { decl = ren_decl f d; row = row } ∷ l) (stand_in_ren row ds)

  inserted_entries_ren : (row : ℕ) (hs : List Head) (rows : List ℕ) → inserted_entries row (H hs) rows ≡ N (inserted_entries row hs rows)
  unfolding inserted_entries
  inserted_entries_ren row [] rows = refl
  inserted_entries_ren row (h ∷ hs) [] =
      ap₂ ◌++◌ (stand_in_ren row h.decls) (inserted_entries_ren row hs []) ∙ sym (map-append (ren_entry f) (stand_in row h.decls) (inserted_entries row hs []))
  inserted_entries_ren row (h ∷ hs) (n ∷ rows) =
      ap₂ ◌++◌ (stand_in_ren (row + n) h.decls) (inserted_entries_ren row hs rows)
      ∙ sym (map-append (ren_entry f) (stand_in (row + n) h.decls) (inserted_entries row hs rows))

  abbrev ren_p : {A : Type 0} → (A → A) → A × ℕ → A × ℕ
  ren_p g p = (g p.0, p.1)

  -- what a field adds to the table
  added_ren : (row row' : ℕ) (hs : List Head) (rows : List ℕ) (ds : List Declaration) (es : List Entry)
      → inserted_entries row (H hs) rows ++ (entered row' (D ds) ++ N es) ≡ N (inserted_entries row hs rows ++ (entered row' ds ++ es))
  added_ren row row' hs rows ds es =
      ap₂ ◌++◌ (inserted_entries_ren row hs rows) (ap (λ (l : List Entry). l ++ N es) (entered_ren row' ds) ∙ sym (map-append (ren_entry f) (entered row' ds) es))
      ∙ sym (map-append (ren_entry f) (inserted_entries row hs rows) (entered row' ds ++ es))

  expand_fields_ren : (here : List Declaration) (outside : Outside) (k : ℕ) (fs : Fields)
      → expand_fields (D here) (U outside) k (ren_fields f fs) ≡ map_r (ren_p N) (expand_fields here outside k fs)
  unfolding expand_fields
  expand_fields_ren here outside k end = refl
  expand_fields_ren here outside k (i ▸ fs) =
      rw (head_of_ren i)
      (bind_ren (ren_x (ren_head f)) (ren_p N) _ _ _ _ (expand_head_ren here outside k (head_of i))
      (λ e. bind_ren (ren_p N) (ren_p N) _ _ _ _ (ap (λ (o : Outside). expand_fields (D here) o e.k (ren_fields f fs)) (onward_ren i outside) ∙ expand_fields_ren here (onward i outside) e.k fs)
      (λ r. rw (length-map (head_of i).decls (ren_decl f), added_ren (outside.before.row + suc (length (head_of i).decls)) (suc outside.before.row) e.inserted e.rows (head_of i).decls r.0))))

  -- ---- step C

  number_in_ren : (es : List Entry) (space : ℕ) (at : Index) (z : ℕ)
      → Rules.number_in (N es) space (renamed_index f at) z ≡ Rules.number_in es space at z
  unfolding Rules.number_in
  number_in_ren es space (Num n) z = refl
  number_in_ren es space (Id name) z = rw (look_up_ren es space name)

  up_number_ren : (es : List Env) (at : Index) (z : ℕ) → Rules.up_number (E es) (renamed_index f at) z ≡ Rules.up_number es at z
  unfolding Rules.up_number
  up_number_ren es (Num n) z = refl
  up_number_ren es (Id name) z = rw (named_ren es name)

  or_refused_ren : {A B : Type 0} (g : A → B) (o : Option A) (why : Refusal) (p : ℕ) → Rules.or_refused (Option.map g o) why p ≡ map_r g (Rules.or_refused o why p)
  unfolding Rules.or_refused
  or_refused_ren g none why p = refl
  or_refused_ren g (some a) why p = refl

  abbrev same : ℕ → ℕ
  same n = n

  outer_numbers_ren : (early : Bool) (es : List Env) (fz space : ℕ) (up at : Index) (z : ℕ)
      → Rules.outer_numbers early (E es) fz space (renamed_index f up) (renamed_index f at) z ≡ map_r (ren_operand f) (Rules.outer_numbers early es fz space up at z)
  unfolding Rules.outer_numbers
  outer_numbers_ren early es fz space up at z =
      bind_ren same (ren_operand f) _ _ _ _ (up_number_ren es up fz ∙ sym (map_r_same _))
      (λ d. bind_ren (ren_env f) (ren_operand f) _ _ _ _ (rw (nth_ren es d) (or_refused_ren (ren_env f) (Rules.nth es d) Rules.too_far fz))
      (λ e. bind_ren (λ (u : Unit {0}). u) (ren_operand f) _ _ _ _ (in_time_ren _ _ z (late_index_ren early e space at))
      (λ u. bind_ren same (ren_operand f) _ _ _ _ (number_in_ren e.entries space at z ∙ sym (map_r_same _)) (λ n. refl))))

  resolve_outer_ren : (early : Bool) (es : List Env) (fz space : ℕ) (up at : Index) (z : ℕ)
      → Rules.resolve_outer early (E es) fz space (renamed_index f up) (renamed_index f at) z ≡ map_r (ren_operand f) (Rules.resolve_outer early es fz space up at z)
  unfolding Rules.resolve_outer
  resolve_outer_ren early es fz space (Num d) (Num n) z = refl
  resolve_outer_ren early es fz space (Num d) (Id name) z = outer_numbers_ren early es fz space (Num d) (Id name) z
  resolve_outer_ren early es fz space (Id name) at z = outer_numbers_ren early es fz space (Id name) at z

  operands_ren : (here : Env) (outside : Outside) (fz : ℕ) (seen : List ℕ) (os : List Operand)
      → resolve_operands (ren_env f here) (U outside) fz (map f seen) (O os) ≡ map_r O (resolve_operands here outside fz seen os)
  unfolding resolve_operands O
  operands_ren here outside fz seen [] = refl
  operands_ren here outside fz seen (ref space at paths z ∷ os) =
      bind_ren same O _ _ _ _ (number_in_ren here.entries space at z ∙ sym (map_r_same _))
      (λ n. bind_ren O O _ _ _ _ (operands_ren here outside fz seen os) (λ os'. refl))
  operands_ren here outside fz seen (outer space up at z ∷ os) =
      bind_ren (ren_operand f) O _ _ _ _ (resolve_outer_ren outside.early (opened here outside) fz space up at z)
      (λ o. bind_ren O O _ _ _ _ (operands_ren here outside fz seen os) (λ os'. refl))
  operands_ren here outside fz seen (case name z ∷ os) =
      rw (eqb_zero name, is_in_ren name seen)
      (if_ren (map_r O) _ _ _ _ _ refl (bind_ren O O _ _ _ _ (operands_ren here outside fz (name ∷ seen) os) (λ os'. refl)))

  head_ren : (here : Env) (outside : Outside) (h : Head)
      → resolve_head (ren_env f here) (U outside) (ren_head f h) ≡ map_r (ren_head f) (resolve_head here outside h)
  unfolding resolve_head with_operands O
  head_ren here outside h = bind_ren O (ren_head f) _ _ _ _ (operands_ren here outside h.z [] h.operands) (λ os. refl)

  inserted_ren : (here : Env) (outside : Outside) (hs : List Head)
      → resolve_inserted (ren_env f here) (U outside) (H hs) ≡ map_r H (resolve_inserted here outside hs)
  unfolding resolve_inserted
  inserted_ren here outside [] = refl
  inserted_ren here outside (h ∷ hs) =
      bind_ren (λ (u : Unit {0}). u) H _ _ _ _ (in_time_ren _ _ h.z (late_instance_ren here outside h.operands))
      (λ u. bind_ren (ren_head f) H _ _ _ _ (head_ren here outside h)
      (λ h'. bind_ren H H _ _ _ _ (inserted_ren here outside hs) (λ hs'. refl)))

  before_ren : (hs : List Head) (fs : Fields) → ren_fields f (Rules.◌before◌ hs fs) ≡ Rules.◌before◌ (H hs) (ren_fields f fs)
  unfolding Rules.◌before◌
  before_ren [] fs = refl
  before_ren (h ∷ hs) fs = ap (λ (r : Fields). plain (ren_head f h) ▸ r) (before_ren hs fs)

  prepare_ren : (name : ℕ) (fs : Fields) (outside : Outside) (k : ℕ)
      → prepare (f name) (ren_fields f fs) (U outside) k ≡ map_r (λ (p : Env × ℕ). (ren_env f p.0, p.1)) (prepare name fs outside k)
  unfolding prepare
  prepare_ren name fs outside k =
      rw (declarations_ren fs)
      (bind_ren D (λ (p : Env × ℕ). (ren_env f p.0, p.1)) _ _ _ _ (distinct_ren [] (declarations fs))
      (λ here. bind_ren (ren_p N) (λ (p : Env × ℕ). (ren_env f p.0, p.1)) _ _ _ _ (expand_fields_ren here outside k fs) (λ r. refl)))

  mutual
    unfolding resolve_scope

    scope_ren : (s : Scope) (outside : Outside) (k : ℕ)
        → resolve_scope (ren_scope f s) (U outside) k ≡ map_r (ren_p (ren_scope f)) (resolve_scope s outside k)
    scope_ren (scope kind name fs) outside k =
        rw (declarations_ren fs)
        (bind_ren (λ (p : Env × ℕ). (ren_env f p.0, p.1)) (ren_p (ren_scope f)) _ _ _ _ (prepare_ren name fs outside k)
        (λ e. bind_ren (ren_p (ren_fields f)) (ren_p (ren_scope f)) _ _ _ _ (fields_ren fs (declarations fs) e.0 outside k e.1) (λ r. refl)))

    fields_ren : (fs : Fields) (ds : List Declaration) (here : Env) (outside : Outside) (b k : ℕ)
        → resolve_fields (ren_fields f fs) (D ds) (ren_env f here) (U outside) b k ≡ map_r (ren_p (ren_fields f)) (resolve_fields fs ds here outside b k)
    fields_ren end ds here outside b k = refl
    fields_ren (i ▸ fs) ds here outside b k =
        rw (head_of_ren i)
        (bind_ren (ren_x (ren_head f)) (ren_p (ren_fields f)) _ _ _ _ (expand_head_ren ds outside b (head_of i))
        (λ e. bind_ren H (ren_p (ren_fields f)) _ _ _ _ (inserted_ren here outside e.inserted)
        (λ new. bind_ren (ren_head f) (ren_p (ren_fields f)) _ _ _ _ (head_ren here outside e.now)
        (λ h. bind_ren (ren_p (ren_item f)) (ren_p (ren_fields f)) _ _ _ _ (item_ren i h here outside k)
        (λ r. bind_ren (ren_p (ren_fields f)) (ren_p (ren_fields f)) _ _ _ _
        (ap (λ (o : Outside). resolve_fields (ren_fields f fs) (D ds) (ren_env f here) o e.k r.1) (onward_ren i outside) ∙ fields_ren fs ds here (onward i outside) e.k r.1)
        (λ rs. rw (before_ren new (r.0 ▸ rs.0))))))))

    item_ren : (i : Item) (h : Head) (here : Env) (outside : Outside) (k : ℕ)
        → resolve_item (ren_item f i) (ren_head f h) (ren_env f here) (U outside) k ≡ map_r (ren_p (ren_item f)) (resolve_item i h here outside k)
    item_ren (plain h₀) h here outside k = refl
    item_ren (holds h₀ s) h here outside k =
        bind_ren (ren_p (ren_scope f)) (ren_p (ren_item f)) _ _ _ _
        (ap (λ (o : Outside). resolve_scope (ren_scope f s) o k) (inward_ren h₀ here outside) ∙ scope_ren s (inward h₀ here outside) k) (λ r. refl)

  -- The refusal and its place are the same, with what it carries, or the tree is but for the names; also inside scopes whose names are mapped.
  pub renaming : (rules : RuleSet) (around : List Env) (s : Scope)
      → resolve_inside rules (map (ren_env f) around) (ren_scope f s) ≡ map_r (λ (p : Scope × ℕ). (ren_scope f p.0, p.1)) (resolve_inside rules around s)
  renaming rules around s = scope_ren s (at_root rules around) 0
