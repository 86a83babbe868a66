-- Why a run is refused with 13: at one of its operands a name is late in a table. The recursion is over the tree, as in `Blame` of the rules,
-- which tells of walked names alone.
use Rattle.std.proofs.Math.Path.{◌≡◌, refl}
use Rattle.std.proofs.Common.{ap, sym, ◌∙◌, subst, arith}
use Rattle.std.specs.Prelude.{Bool, ◌&&◌, not, ℕ, zero, suc, ◌+◌, leb}
use Rattle.std.proofs.Math.Bool.{true, false}
use Rattle.std.proofs.Math.Option.{Option, none, some}
use mathlib.Core.List.{List, [], ◌∷◌, ◌++◌, append_assoc, append-nil}
use Rattle.std.proofs.Math.ListN.{get_elem?}
use Rattle.rules.specs.Tools.{when◌then◌else◌}
use Rattle.rules.specs.Versions.{top_name}
use Rattle.rules.specs.Rows.{Index, Num, Id}
use Rattle.rules.specs.Tree.{Declaration, Operand, ref, outer, case, Head, Scope, scope, Fields, end, ◌▸◌, Item, plain, holds, head_of, with_operands}
use Rattle.rules.specs.Shapes.{here_only}
use Rattle.rules.specs.Rules as steps
use Rattle.rules.specs.Rules.{Refusal, not_earlier, Before, Entry, decls_in, table_of, opened, refused, ok, ◌>>=◌, Env, Outside, onward, inward, find, fresh, expand_operand, expand_operands, expand_head, expand_fields, path_aliases, export_alias, outer_alias, declarations, prepare, resolve_operands, resolve_head, resolve_inserted, resolve_scope, resolve_fields, resolve_item}
use Rattle.rules.specs.Readings.{originals}
use Rattle.rules.specs.Laws.ToolLaws.{false_not, and_left, and_right, leb-false}
use Rattle.rules.specs.Laws.Results.{OkR, holds_of, bind_ok, bind_any, if_both, RefR, Is, bind_ref, if_ref_lem, ref_weaker, self_ref, not_refused, some_same}
use Rattle.rules.specs.Laws.Entries.{number_is}
use Rattle.rules.specs.Laws.Meaning.Names.{LowScope, LowFields, LowItem}
use Rattle.rules.proofs.Laws.Meaning.Lookups as lookups
use Rattle.rules.proofs.Laws.Meaning.Runs.{seeing, distinct_same}
use Rattle.rules.proofs.Laws.Meaning.StepC.{alias_resolved}
use Rattle.rules.proofs.Laws.Meaning.Early.{firsts, Enters, this, further}
use Rattle.earlier.specs.Tested.{instance_space}

-- ---- refusal 13 and the others

abbrev is_late : Refusal → Bool
is_late (steps.twice space first) = false
is_late steps.not_exported = false
is_late (steps.not_outer space) = false
is_late (steps.unknown space) = false
is_late steps.no_such_scope = false
is_late steps.too_far = false
is_late steps.case_twice = false
is_late not_earlier = true

other : {X : Type 0} {why : Refusal} → is_late why ≡ false → why ≡ not_earlier → X
other q e = false_not (sym q ∙ ap is_late e)

-- where the step refuses with 13, this holds of its place
abbrev pub Late13 : {A : Type 0} → (ℕ → Type 0) → steps.Result A → Type 0
Late13 Q m = RefR (Is not_earlier Q) m

late_weaker : {A : Type 0} {P Q : ℕ → Type 0} (m : steps.Result A) → ((z : ℕ) → P z → Q z) → Late13 P m → Late13 Q m
late_weaker {P = P} {Q = Q} m g r = ref_weaker (Is not_earlier P) (Is not_earlier Q) m r (λ n z _ f e. g z (f e))

timed : (Q : ℕ → Type 0) (late : Bool) (z : ℕ) → (late ≡ true → Q z) → Late13 Q (steps.in_time late z)
unfolding steps.in_time when◌then◌else◌
timed Q true z f = λ e. f refl
timed Q false z f = tt

-- looking a name up is refused with 9 alone, if at all
looked : (Q : ℕ → Type 0) (es : List Entry) (space : ℕ) (at : Index) (z : ℕ) → Late13 Q (steps.number_in es space at z)
unfolding steps.or_refused
looked Q es space (Num n) z = unfold steps.number_in in tt
looked Q es space (Id name) z = rw (number_is es space name z) (go (find (decls_in es) space name))
  where
    go : (o : Option ℕ) → Late13 Q (steps.or_refused o (steps.unknown space) z)
    go none = λ e. other refl e
    go (some n) = tt

-- ---- the causes, at the operand `op` of the field `h`

-- `Table` says which are the tables of its scope
pub data Cause (ds : List Declaration) (Table : Env → Type 0) (o : Outside) (h : Head) (op : Operand) (z : ℕ) : Type 0 where
  by_walk : (space name : ℕ) → here_only h.code ≡ false → op ≡ ref space (Id name) [] z → steps.late_name ds o space name ≡ true → Cause ds Table o h op z
  by_path : (here : Env) → Table here → (space name p : ℕ) (ps : List ℕ) → here_only h.code ≡ false → op ≡ ref space (Id name) (p ∷ ps) z
      → o.early ≡ true → steps.comes_later (table_of here) o.before.decls (instance_space space ps) name ≡ true → Cause ds Table o h op z
  by_index : (here : Env) → Table here → (space : ℕ) (up : Index) (name fz d : ℕ) (e : Env) → op ≡ outer space up (Id name) z → o.early ≡ true
      → steps.up_number (opened here o) up fz ≡ ok d → steps.nth (opened here o) d ≡ some e → steps.comes_later (table_of e) e.before space name ≡ true → Cause ds Table o h op z

-- one of these operands is the cause
pub record Blamed (ds : List Declaration) (Table : Env → Type 0) (o : Outside) (h : Head) (os : List Operand) (z : ℕ) : Type 0 where
  pub at : ℕ
  pub op : Operand
  pub there : get_elem? os at ≡ some op
  pub cause : Cause ds Table o h op z

table_wider : {ds : List Declaration} {T U : Env → Type 0} {o : Outside} {h : Head} {op : Operand} {z : ℕ} → ((e : Env) → T e → U e) → Cause ds T o h op z → Cause ds U o h op z
table_wider f (by_walk space name c is l) = by_walk space name c is l
table_wider f (by_path here t space name p ps c is q l) = by_path here (f here t) space name p ps c is q l
table_wider f (by_index here t space up name fz d e is q a b l) = by_index here (f here t) space up name fz d e is q a b l

blamed_behind : {ds : List Declaration} {T : Env → Type 0} {o : Outside} {h : Head} {x : Operand} {os : List Operand} {z : ℕ} → Blamed ds T o h os z → Blamed ds T o h (x ∷ os) z
blamed_behind B = record { at = suc B.at; op = B.op; there = B.there; cause = B.cause }

-- ---- step B

module _ (ds : List Declaration) (T : Env → Type 0) (outside : Outside) (h : Head) where
  found_b : (Q : ℕ → Type 0) (space name z k : ℕ) (o : Option (ℕ × ℕ)) → Late13 Q (steps.found_at space name z k o)
  unfolding steps.found_at
  found_b Q space name z k none = tt
  found_b Q space name z k (some at) = if_ref_lem (Is not_earlier Q) _ _ _ tt (λ e. other refl e)

  operand_b : here_only h.code ≡ false → (k : ℕ) (o : Operand) → Late13 (Cause ds T outside h o) (expand_operand ds outside k o)
  unfolding expand_operand
  operand_b c k (ref space (Num n) [] z) = tt
  operand_b c k (ref space (Id name) [] z) =
      bind_ref _ _ _ (timed (Cause ds T outside h (ref space (Id name) [] z)) (steps.late_name ds outside space name) z (λ l. by_walk space name c refl l))
      (λ u _. if_ref_lem (Is not_earlier _) _ _ _ tt (found_b _ space name z k _))
  operand_b c k (ref space at (p ∷ ps) z) = if_ref_lem (Is not_earlier _) _ _ _ (λ e. other refl e) tt
  operand_b c k (outer space up at z) = tt
  operand_b c k (case name z) = tt

  operands_b : here_only h.code ≡ false → (k : ℕ) (os : List Operand) → Late13 (Blamed ds T outside h os) (expand_operands ds outside k os)
  unfolding expand_operands
  operands_b c k [] = tt
  operands_b c k (o ∷ os) =
      bind_ref _ _ _ (late_weaker (expand_operand ds outside k o) (λ z b. record { at = 0; op = o; there = refl; cause = b }) (operand_b c k o))
      (λ x _. bind_ref _ _ _ (late_weaker (expand_operands ds outside x.k os) (λ z b. blamed_behind b) (operands_b c x.k os)) (λ xs _. tt))

head_b : (ds : List Declaration) (T : Env → Type 0) (outside : Outside) (k : ℕ) (h : Head) → Late13 (Blamed ds T outside h h.operands) (expand_head ds outside k h)
unfolding expand_head
head_b ds T outside k h = go (here_only h.code) refl
  where
    go : (b : Bool) → here_only h.code ≡ b → Late13 (Blamed ds T outside h h.operands) (when b then ok (steps.as_it_is h k) else (expand_operands ds outside k h.operands >>= λ e.
        ok (record { inserted = e.inserted; rows = e.rows; now = with_operands h e.now; k = e.k })))
    go true c = unfold when◌then◌else◌ in tt
    go false c = unfold when◌then◌else◌ in bind_ref _ _ _ (operands_b ds T outside h c k h.operands) (λ e _. tt)

-- ---- step C, the fields that were inserted

module _ (here : Env) (outside : Outside) where
  abbrev Heads : (Q : ℕ → Type 0) → List Head → Type 0
  Heads Q [] = Unit {0}
  Heads Q (x ∷ xs) = Late13 Q (steps.in_time (steps.late_instance here outside x.operands) x.z) × Late13 Q (resolve_head here outside x) × Heads Q xs

  heads_append : (Q : ℕ → Type 0) (xs ys : List Head) → Heads Q xs → Heads Q ys → Heads Q (xs ++ ys)
  heads_append Q [] ys p q = q
  heads_append Q (x ∷ xs) ys p q = (p.0, p.1, heads_append Q xs ys p.2 q)

  heads_weaker : {P Q : ℕ → Type 0} (xs : List Head) → ((z : ℕ) → P z → Q z) → Heads P xs → Heads Q xs
  heads_weaker [] g p = tt
  heads_weaker (x ∷ xs) g p = (late_weaker (steps.in_time _ x.z) g p.0, late_weaker (resolve_head here outside x) g p.1, heads_weaker xs g p.2)

  heads_late : (Q : ℕ → Type 0) (xs : List Head) → Heads Q xs → Late13 Q (resolve_inserted here outside xs)
  unfolding resolve_inserted
  heads_late Q [] p = tt
  heads_late Q (x ∷ xs) p = bind_ref _ _ _ p.0 (λ u _. bind_ref _ _ _ p.1 (λ x' _. bind_ref _ _ _ (heads_late Q xs p.2) (λ xs' _. tt)))

  -- an alias of an export on `at`, which is late only as it is written
  alias_c : (Q : ℕ → Type 0) (code space new from : ℕ) (at : Index) (name z : ℕ) → Late13 Q (resolve_head here outside (export_alias code space new from at name z))
  unfolding resolve_head resolve_operands export_alias
  alias_c Q code space new from at name z = bind_ref _ _ _ (bind_ref _ _ _ (looked Q here.entries from at z) (λ n _. bind_ref _ (ok []) _ tt (λ os _. tt))) (λ os _. tt)

  alias_time : (Q : ℕ → Type 0) (code space new from : ℕ) (at : Index) (name z : ℕ) → (steps.late_instance here outside (ref from at [] z ∷ []) ≡ true → Q z)
      → Late13 Q (steps.in_time (steps.late_instance here outside (export_alias code space new from at name z).operands) (export_alias code space new from at name z).z)
  unfolding export_alias
  alias_time Q code space new from at name z f = timed Q _ z f

  -- an alias of the same path is not late
  fresh_instance : {X : Type 0} (from k z : ℕ) → steps.late_instance here outside (ref from (Id (fresh k)) [] z ∷ []) ≡ true → X
  unfolding steps.late_instance fresh
  fresh_instance from k z e =
      false_not (sym (leb-false (2147483648 + k) top_name (omega arith)) ∙ and_left (leb (2147483648 + k) top_name) _ (and_right outside.early _ e))

  paths_c : (Q : ℕ → Type 0) (space : ℕ) (at : Index) (p : ℕ) (ps : List ℕ) (z k : ℕ) → (steps.late_instance here outside (ref (instance_space space ps) at [] z ∷ []) ≡ true → Q z) → Heads Q (path_aliases space at p ps z k)
  unfolding path_aliases instance_space
  paths_c Q space at p [] z k f = go (leb space 6) f
    where
      go : (b : Bool) → (steps.late_instance here outside (ref (when b then 6 else 10) at [] z ∷ []) ≡ true → Q z)
          → Heads Q ((when b then export_alias 10 space (fresh k) 6 at p z else export_alias 9 space (fresh k) 10 at p z) ∷ [])
      go true f = unfold when◌then◌else◌ in (alias_time Q 10 space (fresh k) 6 at p z f, alias_c Q 10 space (fresh k) 6 at p z, tt)
      go false f = unfold when◌then◌else◌ in (alias_time Q 9 space (fresh k) 10 at p z f, alias_c Q 9 space (fresh k) 10 at p z, tt)
  paths_c Q space at p (q ∷ ps) z k f = (alias_time Q 9 10 (fresh k) 10 at p z f, alias_c Q 9 10 (fresh k) 10 at p z, paths_c Q space (Id (fresh k)) q ps z (suc k) (λ e. fresh_instance (instance_space space ps) k z e))

  outer_c : (Q : ℕ → Type 0) (space new d n z : ℕ) → Heads Q (outer_alias space new d n z ∷ [])
  unfolding outer_alias steps.late_instance steps.in_time when◌then◌else◌
  outer_c Q space new d n z = (tt, self_ref _ _ (λ m p e. not_refused _ m p (sym (alias_resolved here outside space new d n z) ∙ e)), tt)

  -- what step B inserts for an operand, late because of it
  module _ (ds : List Declaration) (T : Env → Type 0) (t : T here) (h : Head) where
    path_late : here_only h.code ≡ false → (space : ℕ) (at : Index) (p : ℕ) (ps : List ℕ) (z : ℕ) → steps.late_instance here outside (ref (instance_space space ps) at [] z ∷ []) ≡ true
        → Cause ds T outside h (ref space at (p ∷ ps) z) z
    unfolding steps.late_instance
    path_late c space (Num n) p ps z e = false_not e
    path_late c space (Id name) p ps z e =
        by_path here t space name p ps c refl (and_left outside.early _ e) (and_right (leb name top_name) _ (and_right outside.early _ e))

    found_c : (Q : ℕ → Type 0) (space name z k : ℕ) (o : Option (ℕ × ℕ)) → OkR (λ e. Heads Q e.inserted) (steps.found_at space name z k o)
    unfolding steps.found_at steps.as_it_is steps.through
    found_c Q space name z k none = tt
    found_c Q space name z k (some at) = if_both (OkR _) _ _ _ (outer_c Q space (fresh k) at.0 at.1 z) tt

    operand_c : here_only h.code ≡ false → (k : ℕ) (o : Operand) → OkR (λ e. Heads (Cause ds T outside h o) e.inserted) (expand_operand ds outside k o)
    unfolding expand_operand steps.as_it_is steps.through
    operand_c c k (ref space (Num n) [] z) = tt
    operand_c c k (ref space (Id name) [] z) = bind_any _ _ _ (λ u. if_both (OkR _) _ _ _ tt (found_c _ space name z k _))
    operand_c c k (ref space at (p ∷ ps) z) = if_both (OkR _) _ _ _ tt (paths_c _ space at p ps z k (λ e. path_late c space at p ps z e))
    operand_c c k (outer space up at z) = tt
    operand_c c k (case name z) = tt

    operands_c : here_only h.code ≡ false → (k : ℕ) (os : List Operand) → OkR (λ e. Heads (Blamed ds T outside h os) e.inserted) (expand_operands ds outside k os)
    unfolding expand_operands steps.as_it_is
    operands_c c k [] = tt
    operands_c c k (o ∷ os) = bind_ok _ _ _ _ (operand_c c k o) (λ e a. bind_ok _ _ _ _ (operands_c c e.k os) (λ es b.
        heads_append (Blamed ds T outside h (o ∷ os)) e.inserted es.inserted
        (heads_weaker e.inserted (λ z x. record { at = 0; op = o; there = refl; cause = x }) a)
        (heads_weaker es.inserted (λ z x. blamed_behind x) b)))

    head_c : (k : ℕ) → OkR (λ e. Heads (Blamed ds T outside h h.operands) e.inserted) (expand_head ds outside k h)
    unfolding expand_head steps.as_it_is
    head_c k = go (here_only h.code) refl
      where
        go : (b : Bool) → here_only h.code ≡ b → OkR (λ e. Heads (Blamed ds T outside h h.operands) e.inserted) (when b then ok (steps.as_it_is h k) else (expand_operands ds outside k h.operands >>= λ e.
            ok (record { inserted = e.inserted; rows = e.rows; now = with_operands h e.now; k = e.k })))
        go true c = unfold when◌then◌else◌ in tt
        go false c = unfold when◌then◌else◌ in bind_ok _ _ _ _ (operands_c c k h.operands) (λ e a. a)

  -- ---- step C, the field itself

  -- an OUTER among these operands whose index is late
  record IndexLate (os : List Operand) (z : ℕ) : Type 0 where
    at : ℕ
    space : ℕ
    up : Index
    name : ℕ
    fz : ℕ
    d : ℕ
    e : Env
    there : get_elem? os at ≡ some (outer space up (Id name) z)
    early : outside.early ≡ true
    leads : steps.up_number (opened here outside) up fz ≡ ok d
    table : steps.nth (opened here outside) d ≡ some e
    late : steps.comes_later (table_of e) e.before space name ≡ true

  index_behind : {x : Operand} {os : List Operand} {z : ℕ} → IndexLate os z → IndexLate (x ∷ os) z
  index_behind L = record { at = suc L.at; space = L.space; up = L.up; name = L.name; fz = L.fz; d = L.d; e = L.e; there = L.there; early = L.early; leads = L.leads; table = L.table; late = L.late }

  or_other : {A : Type 0} (Q : ℕ → Type 0) (o : Option A) (why : Refusal) (z : ℕ) → is_late why ≡ false → Late13 Q (steps.or_refused o why z)
  unfolding steps.or_refused
  or_other Q none why z q = λ e. other q e
  or_other Q (some a) why z q = tt

  up_other : (Q : ℕ → Type 0) (es : List Env) (up : Index) (fz : ℕ) → Late13 Q (steps.up_number es up fz)
  unfolding steps.up_number
  up_other Q es (Num n) fz = tt
  up_other Q es (Id name) fz = or_other Q (steps.named es name) steps.no_such_scope fz refl

  outer_numbers_lem : (os : List Operand) (fz space : ℕ) (up at : Index) (z : ℕ) → Late13 (IndexLate (outer space up at z ∷ os)) (steps.outer_numbers outside.early (opened here outside) fz space up at z)
  unfolding steps.outer_numbers
  outer_numbers_lem os fz space up at z =
      bind_ref _ _ _ (up_other _ (opened here outside) up fz)
      (λ d ed. bind_ref _ _ _ (or_other _ (steps.nth (opened here outside) d) steps.too_far fz refl)
      (λ e ee. bind_ref _ _ _ (index at d e ed (opens (steps.nth (opened here outside) d) e ee)) (λ u _. bind_ref _ _ _ (looked _ e.entries space at z) (λ n _. tt))))
    where
      opens : (o : Option Env) (e : Env) → steps.or_refused o steps.too_far fz ≡ ok e → o ≡ some e
      opens none e q = unfold steps.or_refused in (let c : ◌≡◌ {A = ℕ} 0 1 = cc in absurd (omega arith))
      opens (some x) e q = unfold steps.or_refused in cc

      index : (at : Index) (d : ℕ) (e : Env) → steps.up_number (opened here outside) up fz ≡ ok d → steps.nth (opened here outside) d ≡ some e
          → Late13 (IndexLate (outer space up at z ∷ os)) (steps.in_time (steps.late_index outside.early e space at) z)
      index (Num n) d e a b = unfold steps.late_index steps.in_time when◌then◌else◌ in tt
      index (Id name) d e a b = unfold steps.late_index in timed (IndexLate (outer space up (Id name) z ∷ os)) (outside.early && steps.comes_later (table_of e) e.before space name) z
          (λ l. record { at = 0; space = space; up = up; name = name; fz = fz; d = d; e = e; there = refl; early = and_left outside.early _ l; leads = a; table = b; late = and_right outside.early _ l })

  outer_late : (os : List Operand) (fz space : ℕ) (up at : Index) (z : ℕ) → Late13 (IndexLate (outer space up at z ∷ os)) (steps.resolve_outer outside.early (opened here outside) fz space up at z)
  unfolding steps.resolve_outer
  outer_late os fz space (Num d) (Num n) z = tt
  outer_late os fz space (Num d) (Id name) z = outer_numbers_lem os fz space (Num d) (Id name) z
  outer_late os fz space (Id name) at z = outer_numbers_lem os fz space (Id name) at z

  operands_late : (fz : ℕ) (seen : List ℕ) (os : List Operand) → Late13 (IndexLate os) (resolve_operands here outside fz seen os)
  unfolding resolve_operands
  operands_late fz seen [] = tt
  operands_late fz seen (ref space at paths z ∷ os) =
      bind_ref _ _ _ (looked _ here.entries space at z) (λ n _. bind_ref _ _ _ (late_weaker (resolve_operands here outside fz seen os) (λ z L. index_behind L) (operands_late fz seen os)) (λ os' _. tt))
  operands_late fz seen (outer space up at z ∷ os) =
      bind_ref _ _ _ (outer_late os fz space up at z) (λ n _. bind_ref _ _ _ (late_weaker (resolve_operands here outside fz seen os) (λ z L. index_behind L) (operands_late fz seen os)) (λ os' _. tt))
  operands_late fz seen (case name z ∷ os) =
      if_ref_lem (Is not_earlier _) _ _ _ (λ e. other refl e)
      (bind_ref _ _ _ (late_weaker (resolve_operands here outside fz (name ∷ seen) os) (λ z L. index_behind L) (operands_late fz (name ∷ seen) os)) (λ os' _. tt))

  head_late : (h : Head) → Late13 (IndexLate h.operands) (resolve_head here outside h)
  unfolding resolve_head
  head_late h = bind_ref _ _ _ (operands_late h.z [] h.operands) (λ os _. tt)

-- ---- step B leaves an OUTER as it is, and makes no OUTER of anything else

abbrev WasOuter : Operand → Operand → Type 0
WasOuter o now = (space : ℕ) (up at : Index) (z : ℕ) → now ≡ outer space up at z → o ≡ outer space up at z

abbrev WereOuter : List Operand → List Operand → Type 0
WereOuter os now = (n space : ℕ) (up at : Index) (z : ℕ) → get_elem? now n ≡ some (outer space up at z) → get_elem? os n ≡ some (outer space up at z)

were_step : (o x : Operand) (os xs : List Operand) → WasOuter o x → WereOuter os xs → WereOuter (o ∷ os) (x ∷ xs)
were_step o x os xs w ws zero space up at z e = ap {B = Option Operand} some (w space up at z (some_same x _ e))
were_step o x os xs w ws (suc n) space up at z e = ws n space up at z e

through_was : (space z last : ℕ) (hs : List Head) (o : Operand) → WasOuter o (steps.through space z last hs).now
unfolding steps.through
through_was space z last hs o space' up at z' e = let c : ◌≡◌ {A = ℕ} 0 1 = cc in absurd (omega arith)

module _ (ds : List Declaration) (outside : Outside) where
  found_was : (space name z k : ℕ) (o : Option (ℕ × ℕ)) → OkR (λ e. WasOuter (ref space (Id name) [] z) e.now) (steps.found_at space name z k o)
  unfolding steps.found_at steps.as_it_is
  found_was space name z k none = λ space up at z e. e
  found_was space name z k (some at) = if_both (OkR _) _ _ _ (through_was space z k _ (ref space (Id name) [] z)) tt

  operand_was : (k : ℕ) (o : Operand) → OkR (λ e. WasOuter o e.now) (expand_operand ds outside k o)
  unfolding expand_operand steps.as_it_is
  operand_was k (ref space (Num n) [] z) = λ space up at z e. e
  operand_was k (ref space (Id name) [] z) = bind_any _ _ _ (λ u. if_both (OkR _) _ _ _ (λ space up at z e. e) (found_was space name z k _))
  operand_was k (ref space at (p ∷ ps) z) = if_both (OkR _) _ _ _ tt (through_was space z _ _ (ref space at (p ∷ ps) z))
  operand_was k (outer space up at z) = λ space up at z e. e
  operand_was k (case name z) = λ space up at z e. e

  operands_were : (k : ℕ) (os : List Operand) → OkR (λ e. WereOuter os e.now) (expand_operands ds outside k os)
  unfolding expand_operands steps.as_it_is
  operands_were k [] = λ n space up at z e. e
  operands_were k (o ∷ os) = bind_ok _ _ _ _ (operand_was k o) (λ e w. bind_ok _ _ _ _ (operands_were e.k os) (λ es ws. were_step o e.now os es.now w ws))

  head_were : (k : ℕ) (h : Head) → OkR (λ e. WereOuter h.operands e.now.operands) (expand_head ds outside k h)
  unfolding expand_head steps.as_it_is with_operands
  head_were k h = if_both (OkR _) _ _ _ (λ n space up at z e. e) (bind_ok _ _ _ _ (operands_were k h.operands) (λ e w. w))

-- ---- a field, a scope, a run

-- the cause is an operand of the field `f` of these
pub record FieldLate (fs : Fields) (ds : List Declaration) (Table : Env → Type 0) (outside : Outside) (z : ℕ) : Type 0 where
  pub f : ℕ
  pub i : Item
  pub there : get_elem? (originals fs) f ≡ some i
  pub seen : Before
  pub seen_is : seen.decls ≡ outside.before.decls ++ firsts f fs
  pub blamed : Blamed ds Table (seeing outside seen) (head_of i) (head_of i).operands z

-- the tables that steps A and B make of a scope
abbrev pub TableOf : (name : ℕ) (fs : Fields) (outside : Outside) → Env → Type 0
TableOf name fs outside e = (k : ℕ) × (p : Env × ℕ) × (prepare name fs outside k ≡ ok p) × (p.0 ≡ e)

-- the cause is in the scope at the end of a way
pub record ScopeLate (s : Scope) (outside : Outside) (z : ℕ) : Type 0 where
  pub way : List ℕ
  pub kind : ℕ
  pub name : ℕ
  pub fs : Fields
  pub inner : Outside
  pub enters : Enters s outside way (scope kind name fs) inner
  pub field : FieldLate fs (declarations fs) (TableOf name fs inner) inner z

data Stop (fs : Fields) (ds : List Declaration) (here : Env) (outside : Outside) (z : ℕ) : Type 0 where
  at_field : FieldLate fs ds (λ e. here ≡ e) outside z → Stop fs ds here outside z
  in_scope_lem : (f : ℕ) (h : Head) (s : Scope) (seen : Before) → get_elem? (originals fs) f ≡ some (holds h s) → seen.decls ≡ outside.before.decls ++ firsts f fs
      → ScopeLate s (inward h here (seeing outside seen)) z → Stop fs ds here outside z

field_first : {i : Item} {fs : Fields} {ds : List Declaration} {T : Env → Type 0} {outside : Outside} {z : ℕ} → LowFields (i ▸ fs) → Blamed ds T outside (head_of i) (head_of i).operands z → FieldLate (i ▸ fs) ds T outside z
unfolding firsts
field_first {i} {fs} {outside = outside} low B =
    record { f = 0; i = i; there = rw (lookups.originals_original i fs (lookups.low_original (head_of i) low.0.decls)); seen = outside.before; seen_is = sym (append-nil outside.before.decls); blamed = B }

field_later : {i : Item} {fs : Fields} {ds : List Declaration} {T : Env → Type 0} {outside : Outside} {z : ℕ} → LowFields (i ▸ fs) → FieldLate fs ds T (onward i outside) z → FieldLate (i ▸ fs) ds T outside z
unfolding firsts
field_later {i} {fs} {outside = outside} low L =
    record {
      f = suc L.f;
      i = L.i;
      there = rw (lookups.originals_original i fs (lookups.low_original (head_of i) low.0.decls)) L.there;
      seen = L.seen;
      seen_is = L.seen_is ∙ append_assoc outside.before.decls (head_of i).decls (firsts L.f fs);
      blamed = L.blamed;
    }

stop_later : {i : Item} {fs : Fields} {ds : List Declaration} {here : Env} {outside : Outside} {z : ℕ} → LowFields (i ▸ fs) → Stop fs ds here (onward i outside) z → Stop (i ▸ fs) ds here outside z
unfolding firsts
stop_later low (at_field L) = at_field (field_later low L)
stop_later {i} {fs} {outside = outside} low (in_scope_lem f h s seen there is L) =
    in_scope_lem (suc f) h s seen (rw (lookups.originals_original i fs (lookups.low_original (head_of i) low.0.decls)) there) (is ∙ append_assoc outside.before.decls (head_of i).decls (firsts f fs)) L

fields_b : (ds : List Declaration) (T : Env → Type 0) (outside : Outside) (k : ℕ) (fs : Fields) → LowFields fs → Late13 (FieldLate fs ds T outside) (expand_fields ds outside k fs)
unfolding expand_fields
fields_b ds T outside k end low = tt
fields_b ds T outside k (i ▸ fs) low =
    bind_ref _ _ _ (late_weaker (expand_head ds outside k (head_of i)) (λ z B. field_first low B) (head_b ds T outside k (head_of i)))
    (λ e _. bind_ref _ _ _ (late_weaker (expand_fields ds (onward i outside) e.k fs) (λ z L. field_later low L) (fields_b ds T (onward i outside) e.k fs low.2)) (λ r _. tt))

distinct_b : (Q : ℕ → Type 0) (seen ds : List Declaration) → Late13 Q (steps.distinct seen ds)
unfolding steps.distinct
distinct_b Q seen [] = tt
distinct_b Q seen (d ∷ ds) = if_ref_lem (Is not_earlier Q) _ _ _ (λ e. other refl e) (distinct_b Q (seen ++ (d ∷ [])) ds)

prepare_b : (name : ℕ) (fs : Fields) (outside : Outside) (k : ℕ) → LowFields fs → Late13 (FieldLate fs (declarations fs) (TableOf name fs outside) outside) (prepare name fs outside k)
unfolding prepare
prepare_b name fs outside k low =
    bind_ref _ _ _ (distinct_b _ [] (declarations fs)) (λ ds e.
    let same : ds ≡ declarations fs = holds_of _ _ ds (distinct_same [] (declarations fs)) e in
    bind_ref _ _ _ (subst (λ (x : List Declaration). Late13 (FieldLate fs (declarations fs) (TableOf name fs outside) outside) (expand_fields x outside k fs)) (sym same) (fields_b (declarations fs) (TableOf name fs outside) outside k fs low)) (λ r _. tt))

-- an OUTER of the field, as the input has it
index_blamed : {ds : List Declaration} {here : Env} {outside : Outside} {h : Head} {now : List Operand} {z : ℕ} → WereOuter h.operands now → IndexLate here outside now z → Blamed ds (λ e. here ≡ e) outside h h.operands z
index_blamed {here = here} w L =
    record { at = L.at; op = outer L.space L.up (Id L.name) _; there = w L.at L.space L.up (Id L.name) _ L.there; cause = by_index here refl L.space L.up L.name L.fz L.d L.e refl L.early L.leads L.table L.late }

stop_first : {h : Head} {s : Scope} {fs : Fields} {ds : List Declaration} {here : Env} {outside : Outside} {z : ℕ} → LowFields (holds h s ▸ fs) → ScopeLate s (inward h here outside) z → Stop (holds h s ▸ fs) ds here outside z
unfolding firsts head_of
stop_first {h} {s} {fs} {outside = outside} low L =
    in_scope_lem 0 h s outside.before (rw (lookups.originals_original (holds h s) fs (lookups.low_original h low.0.decls))) (sym (append-nil outside.before.decls)) L

scope_stop : {kind name : ℕ} {fs : Fields} {outside : Outside} (k : ℕ) {p : Env × ℕ} {z : ℕ} → prepare name fs outside k ≡ ok p → Stop fs (declarations fs) p.0 outside z → ScopeLate (scope kind name fs) outside z
scope_stop {kind} {name} {fs} {outside} k {p} ep (at_field L) =
    record {
      way = [];
      kind = kind;
      name = name;
      fs = fs;
      inner = outside;
      enters = this;
      field = record {
        f = L.f;
        i = L.i;
        there = L.there;
        seen = L.seen;
        seen_is = L.seen_is;
        blamed = record { at = L.blamed.at; op = L.blamed.op; there = L.blamed.there; cause = table_wider (λ e q. (k, p, ep, q)) L.blamed.cause };
      };
    }
scope_stop {kind} {name} {fs} {outside} k {p} ep (in_scope_lem f h s seen there is L) =
    record { way = f ∷ L.way; kind = L.kind; name = L.name; fs = L.fs; inner = L.inner; enters = further seen k p ep there is L.enters; field = L.field }

abbrev ItemLate : Item → (here : Env) (outside : Outside) (z : ℕ) → Type 0
ItemLate (plain h) here outside z = ⊥
ItemLate (holds h s) here outside z = ScopeLate s (inward h here outside) z

item_stop : (i : Item) {fs : Fields} {ds : List Declaration} {here : Env} {outside : Outside} {z : ℕ} → LowFields (i ▸ fs) → ItemLate i here outside z → Stop (i ▸ fs) ds here outside z
item_stop (plain h) low L = absurd L
item_stop (holds h s) low L = stop_first low L

mutual
  unfolding resolve_scope

  -- a run that is refused with 13 has such a cause, in one of its scopes
  pub scope_late : (s : Scope) (outside : Outside) (k : ℕ) → LowScope s → Late13 (ScopeLate s outside) (resolve_scope s outside k)
  scope_late (scope kind name fs) outside k low =
      bind_ref _ _ _
      (late_weaker (prepare name fs outside k) (λ z L. record { way = []; kind = kind; name = name; fs = fs; inner = outside; enters = this; field = L }) (prepare_b name fs outside k low.1))
      (λ p ep. bind_ref _ _ _ (late_weaker (resolve_fields fs (declarations fs) p.0 outside k p.1) (λ z S. scope_stop k ep S) (fields_late fs (declarations fs) p.0 outside k p.1 low.1)) (λ r _. tt))

  fields_late : (fs : Fields) (ds : List Declaration) (here : Env) (outside : Outside) (b k : ℕ) → LowFields fs → Late13 (Stop fs ds here outside) (resolve_fields fs ds here outside b k)
  fields_late end ds here outside b k low = tt
  fields_late (i ▸ fs) ds here outside b k low =
      bind_ref _ _ _ (late_weaker (expand_head ds outside b (head_of i)) (λ z B. at_field (field_first low B)) (head_b ds (λ e. here ≡ e) outside b (head_of i))) (λ e ee.
      bind_ref _ _ _
      (late_weaker (resolve_inserted here outside e.inserted) (λ z B. at_field (field_first low B))
      (heads_late here outside _ e.inserted (holds_of _ _ e (head_c here outside ds (λ e. here ≡ e) refl (head_of i) b) ee))) (λ new _.
      bind_ref _ _ _
      (late_weaker (resolve_head here outside e.now) (λ z L. at_field (field_first low (index_blamed (holds_of _ _ e (head_were ds outside b (head_of i)) ee) L))) (head_late here outside e.now)) (λ h _.
      bind_ref _ _ _ (late_weaker (resolve_item i h here outside k) (λ z L. item_stop i low L) (item_late i h here outside k low.1)) (λ q _.
      bind_ref _ _ _ (late_weaker (resolve_fields fs ds here (onward i outside) e.k q.1) (λ z S. stop_later low S) (fields_late fs ds here (onward i outside) e.k q.1 low.2)) (λ rs _. tt)))))

  item_late : (i : Item) (h : Head) (here : Env) (outside : Outside) (k : ℕ) → LowItem i → Late13 (ItemLate i here outside) (resolve_item i h here outside k)
  item_late (plain h₀) h here outside k low = tt
  item_late (holds h₀ s) h here outside k low = bind_ref _ _ _ (scope_late s (inward h₀ here outside) k low) (λ r _. tt)
