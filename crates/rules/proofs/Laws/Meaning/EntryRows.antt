-- The row that lookup answers: in the input it is the DECL of the declaration, or, of an inserted one, its reference.
use Rattle.std.specs.Prelude.{◌≡◌, ℕ, zero, suc, ◌+◌, length}
use Rattle.std.proofs.Math.Path.{refl}
use Rattle.std.proofs.Common.{ap, sym, ◌∙◌, subst, arith, length-append}
use Rattle.std.proofs.Math.Option.{Option, none, some}
use mathlib.Core.List.{List, [], ◌∷◌, ◌++◌, map, append_assoc}
use Rattle.std.proofs.Math.ListN.{get_elem?}
use Rattle.rules.specs.Versions.{RuleSet}
use Rattle.rules.specs.Rows.{Index, Num, Id, Row, Field, Decl, Ref, Open, Close}
use Rattle.rules.specs.Tree
use Rattle.rules.specs.Tree.{Declaration, Operand, ref, outer, case, Head, Scope, scope, Fields, end, ◌▸◌, Item, plain, holds, head_of, decl_rows, operand_row, operand_rows, export_rows, head_rows, item_rows, fields_rows, flatten}
use Rattle.rules.specs.Rules
use Rattle.rules.specs.Rules.{ok, Entry, Env, Before, Outside, at_root, onward, declarations, prepare, Lookup, found, absent, one_on, look_up, fresh, expand_operand, expand_operands, expand_head, expand_fields, path_aliases, entered, stand_in, inserted_entries}
use Rattle.rules.specs.Laws.ToolLaws.{if_ok_lem, eqb-true, All, done, ◌&◌, all_append, all_map}
use Rattle.rules.specs.Readings
use Rattle.rules.proofs.Laws.Meaning.Runs
use Rattle.rules.proofs.Laws.Meaning.Turns.{Comes, at_once, past, Turn, own, further}
use Rattle.rules.specs.Laws.Results.{OkR, bind_ok, bind_any, if_both, holds_of, no_option}

infixr 67 ◌and◌
-- ---- entries of lists

at_left : {A : Type 0} (xs ys : List A) (n : ℕ) (a : A) → get_elem? xs n ≡ some a → get_elem? (xs ++ ys) n ≡ some a
at_left [] ys n a e = no_option a e
at_left (x ∷ xs) ys zero a e = e
at_left (x ∷ xs) ys (suc n) a e = at_left xs ys n a e

at_right : {A : Type 0} (xs ys : List A) (n : ℕ) → get_elem? (xs ++ ys) (length xs + n) ≡ get_elem? ys n
at_right [] ys n = let same : 0 + n ≡ n = omega arith in rw same
at_right (x ∷ xs) ys n = let same : suc (length xs) + n ≡ suc (length xs + n) = omega arith in rw same (at_right xs ys n)

-- ---- what step B inserts, and the rows of its references

-- one DECL of a fresh name, with the place of the REF in row `n` of these
pub record Serves (rows : List Row) (h : Head) (n : ℕ) : Type 0 where
  space : ℕ
  at : Index
  paths : ℕ
  decl : Declaration
  k : ℕ
  alone : h.decls ≡ decl ∷ []
  named : decl.name ≡ fresh k
  refers : get_elem? rows n ≡ some (Ref space at paths decl.z)

pub data Served (rows : List Row) : List Head → List ℕ → Type 0 where
  nothing : Served rows [] []
  ◌and◌ : {h : Head} {n : ℕ} {hs : List Head} {ns : List ℕ} → Serves rows h n → Served rows hs ns → Served rows (h ∷ hs) (n ∷ ns)

served_append : {rows : List Row} {xs ys : List Head} {ms ns : List ℕ} → Served rows xs ms → Served rows ys ns → Served rows (xs ++ ys) (ms ++ ns)
served_append nothing q = q
served_append (p and ps) q = p and served_append ps q

serves_left : (rows more : List Row) (h : Head) (n : ℕ) → Serves rows h n → Serves (rows ++ more) h n
serves_left rows more h n s =
    record { space = s.space; at = s.at; paths = s.paths; decl = s.decl; k = s.k; alone = s.alone; named = s.named; refers = at_left rows more n _ s.refers }

serves_right : (before rows : List Row) (h : Head) (n : ℕ) → Serves rows h n → Serves (before ++ rows) h (length before + n)
serves_right before rows h n s =
    record { space = s.space; at = s.at; paths = s.paths; decl = s.decl; k = s.k; alone = s.alone; named = s.named; refers = at_right before rows n ∙ s.refers }

served_left : (rows more : List Row) {hs : List Head} {ns : List ℕ} → Served rows hs ns → Served (rows ++ more) hs ns
served_left rows more nothing = nothing
served_left rows more (◌and◌ {h = h} {n = n} p ps) = serves_left rows more h n p and served_left rows more ps

served_right : (before rows : List Row) {hs : List Head} {ns : List ℕ} → Served rows hs ns → Served (before ++ rows) hs (map (λ (n : ℕ). length before + n) ns)
served_right before rows nothing = nothing
served_right before rows (◌and◌ {h = h} {n = n} p ps) = serves_right before rows h n p and served_right before rows ps

aliases_served : (rows : List Row) (space : ℕ) (at : Index) (p : ℕ) (ps : List ℕ) (z k : ℕ) (space' : ℕ) (at' : Index) (paths : ℕ) → get_elem? rows 0 ≡ some (Ref space' at' paths z)
    → Served rows (path_aliases space at p ps z k) (map (λ h. 0) (path_aliases space at p ps z k))
unfolding path_aliases Rules.export_alias
aliases_served rows space at p [] z k space' at' paths e =
    if_both (λ (h : Head). Served rows (h ∷ []) (0 ∷ [])) _ _ _
    (record { space = space'; at = at'; paths = paths; decl = _; k = k; alone = refl; named = refl; refers = e } and nothing)
    (record { space = space'; at = at'; paths = paths; decl = _; k = k; alone = refl; named = refl; refers = e } and nothing)
aliases_served rows space at p (q ∷ ps) z k space' at' paths e =
    record { space = space'; at = at'; paths = paths; decl = _; k = k; alone = refl; named = refl; refers = e }
    and aliases_served rows space (Id (fresh k)) q ps z (suc k) space' at' paths e

found_served : (space name z k : ℕ) (o : Option (ℕ × ℕ)) → OkR (λ e. Served (Ref space (Id name) 0 z ∷ []) e.inserted e.rows) (Rules.found_at space name z k o)
unfolding Rules.found_at Rules.as_it_is Rules.through Rules.outer_alias
found_served space name z k none = nothing
found_served space name z k (some at) =
    if_both (OkR _) _ _ _ (record { space = space; at = Id name; paths = 0; decl = _; k = k; alone = refl; named = refl; refers = refl } and nothing) tt

module _ (ds : List Declaration) (outside : Outside) where
  operand_served : (k : ℕ) (o : Operand) → OkR (λ e. Served (operand_row o) e.inserted e.rows) (expand_operand ds outside k o)
  unfolding expand_operand Rules.as_it_is Rules.through operand_row Tree.path_rows
  operand_served k (ref space (Num n) [] z) = nothing
  operand_served k (ref space (Id name) [] z) = bind_any _ _ _ (λ u. if_both (OkR _) _ _ _ nothing (found_served space name z k _))
  operand_served k (ref space at (p ∷ ps) z) = if_both (OkR _) _ _ _ tt (aliases_served _ space at p ps z k space at _ refl)
  operand_served k (outer space up at z) = nothing
  operand_served k (case name z) = nothing

  operands_served : (k : ℕ) (os : List Operand) → OkR (λ e. Served (operand_rows os) e.inserted e.rows) (expand_operands ds outside k os)
  unfolding expand_operands Rules.as_it_is operand_rows
  operands_served k [] = nothing
  operands_served k (o ∷ os) = bind_ok _ _ _ _ (operand_served k o) (λ e p. bind_ok _ _ _ _ (operands_served e.k os) (λ es q.
      served_append (served_left (operand_row o) (operand_rows os) p) (served_right (operand_row o) (operand_rows os) q)))

  pub head_served : (k : ℕ) (h : Head) → OkR (λ e. Served (operand_rows h.operands) e.inserted e.rows) (expand_head ds outside k h)
  unfolding expand_head Rules.as_it_is
  head_served k h = if_both (OkR _) _ _ _ nothing (bind_ok _ _ _ _ (operands_served k h.operands) (λ e p. p))

-- ---- the entries of a table

-- The row of an entry, where these rows begin with row `r`: its DECL, or the REF that an inserted declaration has its place from.
pub data Stands (r : ℕ) (rows : List Row) (e : Entry) : Type 0 where
  declared : (n : ℕ) → e.row ≡ r + n → get_elem? rows n ≡ some (Decl e.decl.space e.decl.name e.decl.z) → Stands r rows e
  referred : (n k space : ℕ) (at : Index) (paths : ℕ) → e.row ≡ r + n → e.decl.name ≡ fresh k → get_elem? rows n ≡ some (Ref space at paths e.decl.z) → Stands r rows e

stands_left : (r : ℕ) (rows more : List Row) (e : Entry) → Stands r rows e → Stands r (rows ++ more) e
stands_left r rows more e (declared n a b) = declared n a (at_left rows more n _ b)
stands_left r rows more e (referred n k space at paths a f b) = referred n k space at paths a f (at_left rows more n _ b)

stands_right : (r : ℕ) (before rows : List Row) (e : Entry) → Stands (r + length before) rows e → Stands r (before ++ rows) e
stands_right r before rows e (declared n a b) = declared (length before + n) (omega arith) (at_right before rows n ∙ b)
stands_right r before rows e (referred n k space at paths a f b) = referred (length before + n) k space at paths (omega arith) f (at_right before rows n ∙ b)

one_more_lem : (r : ℕ) → r + 1 ≡ suc r
one_more_lem r = omega arith

own_stand : (r : ℕ) (ds : List Declaration) → All (Stands r (decl_rows ds)) (entered r ds)
unfolding entered decl_rows
own_stand r [] = done
own_stand r (d ∷ ds) =
    ◌&◌ {x = record { decl = d; row = r }} (declared 0 (omega arith) refl)
    (all_map (entered (suc r) ds) (λ e s. stands_right r (Decl d.space d.name d.z ∷ []) (decl_rows ds) e (rw (one_more_lem r) s)) (own_stand (suc r) ds))

inserted_stand : (r : ℕ) (rows : List Row) {hs : List Head} {ns : List ℕ} → Served rows hs ns → All (Stands r rows) (inserted_entries r hs ns)
unfolding inserted_entries
inserted_stand r rows nothing = done
inserted_stand r rows (◌and◌ {h = h} {n = n} {hs = hs} {ns = ns} p ps) =
    all_append (stand_in (r + n) h.decls) (inserted_entries r hs ns)
    (subst (λ (ds : List Declaration). All (Stands r rows) (stand_in (r + n) ds)) (sym p.alone) (unfold stand_in in (referred n p.k p.space p.at p.paths refl p.named p.refers & done)))
    (inserted_stand r rows ps)

-- ---- the table of a scope

-- the rows of a field behind those of its DECLs and operands
behind : Item → List Row
behind (plain h) = export_rows h.export
behind (holds h s) = export_rows h.export ++ flatten s

item_is : (i : Item) → item_rows i ≡ (Field (head_of i).code (head_of i).builtin (head_of i).z ∷ decl_rows (head_of i).decls) ++ (operand_rows (head_of i).operands ++ behind i)
unfolding behind head_of flatten head_rows
item_is (plain h) = refl
item_is (holds h s) = simp append_assoc

decls_length : (ds : List Declaration) → length (decl_rows ds) ≡ length ds
unfolding decl_rows
decls_length [] = refl
decls_length (d ∷ ds) = ap suc (decls_length ds)

fields_are : (i : Item) (fs : Fields) → fields_rows (i ▸ fs) ≡ item_rows i ++ fields_rows fs
unfolding flatten
fields_are i fs = refl

pub field_stands : (r : ℕ) (i : Item) (ns : List ℕ) (hs : List Head) → Served (operand_rows (head_of i).operands) hs ns
    → All (Stands r (item_rows i)) (inserted_entries (r + suc (length (head_of i).decls)) hs ns) × All (Stands r (item_rows i)) (entered (suc r) (head_of i).decls)
field_stands r i ns hs p =
    let h = head_of i in
    let first = Field h.code h.builtin h.z in
    let far : r + suc (length h.decls) ≡ r + length (first ∷ decl_rows h.decls) = omega (arith, decls_length h.decls) in (
      rw (item_is i)
          (all_map (inserted_entries (r + suc (length h.decls)) hs ns)
          (λ e s. stands_right r (first ∷ decl_rows h.decls) (operand_rows h.operands ++ behind i) e (stands_left _ (operand_rows h.operands) (behind i) e (rw far at s)))
          (inserted_stand (r + suc (length h.decls)) (operand_rows h.operands) p)),
      rw (item_is i)
          (all_map (entered (suc r) h.decls)
          (λ e s. stands_left r (first ∷ decl_rows h.decls) (operand_rows h.operands ++ behind i) e (stands_right r (first ∷ []) (decl_rows h.decls) e (rw (one_more_lem r) s)))
          (own_stand (suc r) h.decls)),
    )

pub table_stands : (fs : Fields) (ds : List Declaration) (outside : Outside) (k : ℕ) → OkR (λ t. All (Stands outside.before.row (fields_rows fs)) t.0) (expand_fields ds outside k fs)
unfolding expand_fields
table_stands end ds outside k = done
table_stands (i ▸ fs) ds outside k =
    bind_ok _ _ _ _ (head_served ds outside k (head_of i)) (λ e p. bind_ok _ _ _ _ (table_stands fs ds (onward i outside) e.k) (λ t q.
    let F = field_stands outside.before.row i e.rows e.inserted p in
    rw (fields_are i fs)
    (all_append (inserted_entries (outside.before.row + suc (length (head_of i).decls)) e.inserted e.rows) _
    (all_map _ (λ x s. stands_left outside.before.row (item_rows i) (fields_rows fs) x s) F.0)
    (all_append (entered (suc outside.before.row) (head_of i).decls) t.0
    (all_map _ (λ x s. stands_left outside.before.row (item_rows i) (fields_rows fs) x s) F.1)
    (all_map t.0 (λ x s. stands_right outside.before.row (item_rows i) (fields_rows fs) x s) q)))))

-- ---- in the form

-- these rows stand in the form from row `r` on
record Located (form : List Row) (r : ℕ) (rows : List Row) : Type 0 where
  before : List Row
  after : List Row
  is : form ≡ before ++ (rows ++ after)
  long : length before ≡ r

in_form : (form : List Row) (r : ℕ) (rows : List Row) (e : Entry) → Located form r rows → Stands r rows e → Stands 0 form e
in_form form r rows e L s =
    rw L.is (stands_right 0 L.before (rows ++ L.after) e (stands_left (0 + length L.before) rows L.after e (rw (from_start r (length L.before) L.long) s)))
  where
    from_start : (r n : ℕ) → n ≡ r → 0 + n ≡ r
    from_start r n e = omega arith

-- the rows of the field that step C comes to
pub record FieldRows (fs : Fields) (i : Item) (rest : Fields) (r r' : ℕ) : Type 0 where
  before : List Row
  is : fields_rows fs ≡ before ++ (item_rows i ++ fields_rows rest)
  pub far : r' ≡ r + length before

pub comes_rows : {ds : List Declaration} {here : Env} {outside : Outside} {fs : Fields} {b k n : ℕ} {i : Item} {rest : Fields} {b' k' : ℕ} {seen : Before}
    → Comes ds here outside fs b k n i rest b' k' seen → FieldRows fs i rest outside.before.row seen.row
comes_rows (at_once {i = i} {fs = fs}) = record { before = []; is = fields_are i fs; far = omega arith }
comes_rows (past {outside = outside} {i = i} {fs = fs} e new h q e₁ e₂ e₃ e₄ C) =
    let I = comes_rows C in
    record {
      before = item_rows i ++ I.before;
      is = fields_are i fs ∙ (ap (λ (rs : List Row). item_rows i ++ rs) I.is ∙ sym (append_assoc (item_rows i) I.before _));
      far = omega (arith, I.far, length-append (item_rows i) I.before);
    }

held_rows : (h : Head) (kind name : ℕ) (fs : Fields) → item_rows (holds h (scope kind name fs)) ≡ (head_rows h ++ (Open kind name ∷ [])) ++ (fields_rows fs ++ (Close ∷ []))
unfolding flatten
held_rows h kind name fs = simp append_assoc

-- the rows of the scope that it holds
inner_located : (form : List Row) (r r' : ℕ) (fs : Fields) (h : Head) (kind name : ℕ) (gs rest : Fields) → Located form r (fields_rows fs) → FieldRows fs (holds h (scope kind name gs)) rest r r'
    → Located form (r' + suc (length (head_rows h))) (fields_rows gs)
inner_located form r r' fs h kind name gs rest L F =
    record {
      before = (L.before ++ F.before) ++ (head_rows h ++ (Open kind name ∷ []));
      after = (Close ∷ []) ++ (fields_rows rest ++ L.after);
      is = L.is ∙ rw (F.is, held_rows h kind name gs) (simp append_assoc);
      long = omega (
        arith,
        L.long,
        F.far,
        length-append (L.before ++ F.before) (head_rows h ++ (Open kind name ∷ [])),
        length-append L.before F.before,
        length-append (head_rows h) (Open kind name ∷ []),
      );
    }

prepared_stands : (name : ℕ) (fs : Fields) (outside : Outside) (k : ℕ) (p : Env × ℕ) → prepare name fs outside k ≡ ok p → All (Stands outside.before.row (fields_rows fs)) p.0.entries
prepared_stands name fs outside k p e =
    let P = Runs.prepared name fs outside k p e in
    subst (All (Stands outside.before.row (fields_rows fs))) (sym P.2) (holds_of _ _ P.0 (table_stands fs (declarations fs) outside k) P.1)

turn_rows : {s : Scope} {outside : Outside} {k : ℕ} {way : List ℕ} {f o : ℕ} {here : Env} {now : Operand} → Turn s outside k way f o here now
    → (form : List Row) → Located form outside.before.row (fields_rows (Readings.fields_of s)) → All (Stands 0 form) here.entries
turn_rows (own {name = name} {fs = fs} {outside = outside} {k = k} p e new os ep C ee en eo et) form L =
    all_map p.0.entries (λ x s. in_form form outside.before.row (fields_rows fs) x L s) (prepared_stands name fs outside k p ep)
turn_rows (further {fs = fs} {outside = outside} {h₀ = h₀} {s = scope kind name gs} {rest = rest} {seen = seen} p e new h ep C ee en eh t) form L =
    turn_rows t form (inner_located form outside.before.row seen.row fs h₀ kind name gs rest L (comes_rows C))

-- ---- the theorem

-- the entry that lookup finds
record Looked (P : Entry → Type 0) (space name row : ℕ) : Type 0 where
  e : Entry
  holds_of_it : P e
  its_space : e.decl.space ≡ space
  its_name : e.decl.name ≡ name
  its_row : e.row ≡ row

abbrev IfFound : (P : Entry → Type 0) (space name : ℕ) → Lookup → Type 0
IfFound P space name (found number row) = Looked P space name row
IfFound P space name (absent s) = Unit {0}

one_further : (P : Entry → Type 0) (space name : ℕ) (l : Lookup) → IfFound P space name l → IfFound P space name (one_on l)
unfolding one_on
one_further P space name (found number row) h = h
one_further P space name (absent s) h = tt

looked : (P : Entry → Type 0) (space name : ℕ) (es : List Entry) → All P es → IfFound P space name (look_up es space name)
unfolding look_up
looked P space name [] done = tt
looked P space name (e ∷ es) (p & ps) =
    if_ok_lem (IfFound P space name) _ _ _
    (λ a. if_ok_lem (IfFound P space name) _ _ _
    (λ b. record { e = e; holds_of_it = p; its_space = eqb-true e.decl.space space a; its_name = eqb-true e.decl.name name b; its_row = refl })
    (λ b. one_further P space name (look_up es space name) (looked P space name es ps)))
    (λ a. looked P space name es ps)

root_located : (s : Scope) → Located (flatten s) 1 (fields_rows (Readings.fields_of s))
unfolding flatten
root_located (scope kind name fs) = record { before = Open kind name ∷ []; after = Close ∷ []; is = refl; long = refl }

-- When an operand's turn comes in a run, the row that lookup answers for a name of its scope is, in the form, the DECL of that space and
-- name; or, of an inserted declaration, the REF whose place it has.
pub lookup_row : (rules : RuleSet) (around : List Env) (s : Scope) {way : List ℕ} {f o : ℕ} {here : Env} {now : Operand} → Turn s (at_root rules around) 0 way f o here now
    → (space name number row : ℕ) → look_up here.entries space name ≡ found number row
    → (e : Entry) × (e.decl.space ≡ space) × (e.decl.name ≡ name) × (e.row ≡ row) × Stands 0 (flatten s) e
lookup_row rules around s {here = here} t space name number row q =
    let L = subst (IfFound (Stands 0 (flatten s)) space name) q (looked (Stands 0 (flatten s)) space name here.entries (turn_rows t (flatten s) (root_located s))) in
    (L.e, L.its_space, L.its_name, L.its_row, L.holds_of_it)
