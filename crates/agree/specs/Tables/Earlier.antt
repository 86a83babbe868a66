-- Which slots stand before a field: an input's name is found among them where the rules find it among the declarations before the field.
use Rattle.std.specs.Prelude.{◌≡◌, refl, Bool, true, false, ◌||◌, not, ◌⊎◌, List, [], ◌∷◌, ◌++◌, ℕ, zero, suc, ◌+◌, ◌-◌, ◌≤◌, ◌<◌, eqb, leb, length, set, take, Option as CodeOption, Some, is_some}
use Rattle.std.proofs.Common.{sym, ap, ◌∙◌, inl, inr, append-nil, append_assoc, add-zero, arith, get_or-set_same, get_or-set_other, ne_eqb}
use Rattle.std.proofs.Math.Option.{Option, none, some, map}
use Rattle.std.proofs.Math.Nat.{sub-zero}
use Rattle.std.proofs.lemmas.List.{set-get_or}
use Rattle.std.proofs.lemmas.Bool.{lt-leb}
use Rattle.kit.specs.Pick.{pick}
use Rattle.kit.proofs.Laws.{lt_or_le}
use Rattle.rules.specs.Tools.{when◌then◌else◌, is_just, ◌or_else◌}
use Rattle.rules.specs.Versions.{top_name}
use Rattle.rules.specs.Tree.{Declaration}
use Rattle.rules.specs.Rules.{Entry, Env, Outside, table_of, find, walk, nth, comes_later, comes_later_out}
use Rattle.rules.specs.Laws.ToolLaws.{All, ◌&◌}
use Rattle.rules.specs.Laws.Results.{some_same, no_option}
use Rattle.names.specs.Table.{Slot, space_of, name_of, number_of, empty_slot, between, find_in, no_scope, scope_of, first_of, past_of, before_of, scope_at}
use Rattle.names.specs.Stands.{count, Below}
use Rattle.names.proofs.Storey.{between_push, between_kept}
use Rattle.late.specs.Late.{late_in, before_around}
use Rattle.write.specs.Alias.{slot_at}
use Rattle.agree.specs.Tables.Slots.{decl_slots}
use Rattle.agree.specs.Tables.Cursor.{Left, left_next}

-- ---- slots and the declarations that they hold

-- an input's name is found among the slots where it is declared
abbrev pub Knows : List Slot → List Declaration → Type 0
Knows slots ds = (space name : ℕ) → name ≤ top_name → is_some (find_in slots space name) ≡ is_just (find ds space name)

-- one slot, t and u the tests on its space and its name
found_turn : (t u : Bool) (n : ℕ) (F G : CodeOption ℕ) (b : Bool) → is_some F ≡ is_some G || b → is_some (pick t (pick u (Some n) F) F) ≡ is_some (pick t (pick u (Some n) G) G) || b
unfolding pick
found_turn true true n F G b h = refl
found_turn true false n F G b h = h
found_turn false u n F G b h = h

found_append : (xs ys : List Slot) (space name : ℕ) → is_some (find_in (xs ++ ys) space name) ≡ is_some (find_in xs space name) || is_some (find_in ys space name)
unfolding find_in
found_append [] ys space name = refl
found_append (x ∷ xs) ys space name = found_turn (eqb (space_of x) space) (eqb (name_of x) name) (number_of x) _ _ _ (found_append xs ys space name)

-- the same of a declaration
just_map : (o : Option ℕ) → is_just (map suc o) ≡ is_just o
just_map none = refl
just_map (some n) = refl

just_turn : (t u : Bool) (o p : Option ℕ) (b : Bool) → is_just o ≡ is_just p || b → is_just (when t then when u then some 0 else map suc o else o) ≡ is_just (when t then when u then some 0 else map suc p else p) || b
unfolding when◌then◌else◌
just_turn true true o p b h = refl
just_turn true false o p b h = rw (just_map o, just_map p) h
just_turn false u o p b h = h

just_append : (ds es : List Declaration) (space name : ℕ) → is_just (find (ds ++ es) space name) ≡ is_just (find ds space name) || is_just (find es space name)
unfolding find
just_append [] es space name = refl
just_append (d ∷ ds) es space name = just_turn (eqb d.space space) (eqb d.name name) (find (ds ++ es) space name) (find ds space name) (is_just (find es space name)) (just_append ds es space name)

-- slots behind slots hold declarations behind declarations
pub knows_append : (xs ys : List Slot) (ds es : List Declaration) → Knows xs ds → Knows ys es → Knows (xs ++ ys) (ds ++ es)
knows_append xs ys ds es f g space name l = found_append xs ys space name ∙ (rw (f space name l, g space name l) (sym (just_append ds es space name)))

-- no slot holds none
pub knows_none : Knows [] []
unfolding find_in find
knows_none space name l = refl

-- slots with fresh names hold none
past_fresh : (t u : Bool) (n : ℕ) (F : CodeOption ℕ) → u ≡ false → pick t (pick u (Some n) F) F ≡ F
unfolding pick
past_fresh true u n F h = rw h
past_fresh false u n F h = refl

pub knows_fresh : (slots : List Slot) → All (λ s. 2147483648 ≤ name_of s) slots → Knows slots []
unfolding find_in find
knows_fresh [] a space name l = refl
knows_fresh (s ∷ slots) (p & a) space name l =
    ap is_some (past_fresh (eqb (space_of s) space) (eqb (name_of s) name) (number_of s) (find_in slots space name) (ne_eqb (name_of s) name (omega arith))) ∙ knows_fresh slots a space name l

-- the slots of DECLs hold the DECLs
decl_turn : (t u : Bool) (n : ℕ) (F : CodeOption ℕ) (o : Option ℕ) → is_some F ≡ is_just o → is_some (pick t (pick u (Some n) F) F) ≡ is_just (when t then when u then some 0 else map suc o else o)
unfolding pick when◌then◌else◌
decl_turn true true n F o h = refl
decl_turn true false n F o h = h ∙ sym (just_map o)
decl_turn false u n F o h = h

pub knows_decls : (before : List Declaration) (row : ℕ) (ds : List Declaration) → Knows (decl_slots before row ds) ds
unfolding decl_slots find_in find
knows_decls before row [] space name l = refl
knows_decls before row (d ∷ ds) space name l =
    decl_turn (eqb d.space space) (eqb d.name name) (count d.space before) (find_in (decl_slots (before ++ (d ∷ [])) (row + 1) ds) space name) (find ds space name) (knows_decls (before ++ (d ∷ [])) (row + 1) ds space name l)

-- ---- the slots of a scope up to a field

module _ (names : List Slot) (from to : ℕ) where
  -- past the next ones
  pub between_past : (k : ℕ) (slots rest : List Slot) → from ≤ k → Left names to k (slots ++ rest) → between from (k + length slots) names ≡ between from k names ++ slots
  between_past k [] rest h l = rw (add-zero k, append-nil)
  between_past k (s ∷ slots) rest h l =
      let n = left_next names to k s (slots ++ rest) l in
      let inside = n.inside in
      let room = l.room in
      let e : k + 1 + length slots ≡ k + suc (length slots) = omega arith in
      let one : between from (k + 1) names ≡ between from k names ++ (s ∷ []) =
      (rw (set-get_or names k empty_slot, n.is) at (between_push names k (slot_at names k) from h (omega arith))) in
      rw (← e) (between_past (k + 1) slots rest (omega arith) n.rest ∙ (rw one (append_assoc (between from k names) (s ∷ []) slots)))

  pub knows_past : (k : ℕ) (slots rest : List Slot) (ds es : List Declaration) → from ≤ k → Left names to k (slots ++ rest) → Knows (between from k names) ds → Knows slots es → Knows (between from (k + length slots) names) (ds ++ es)
  knows_past k slots rest ds es h l f g = rw (between_past k slots rest h l) (knows_append (between from k names) slots ds es f g)

-- ---- the open scopes

-- of a scope's slots those up to `far` stand before a field, before which there are these declarations
pub record Come (table : List Slot) (scope : List ℕ) (far : ℕ) (ds : List Declaration) : Type 0 where
  pub from : first_of scope ≤ far
  pub within : far ≤ past_of scope
  pub knows : Knows (between (first_of scope) far table) ds

-- the first `depth` scopes have come as far as the environments say: the innermost up to `far`, each other up to the field that holds the
-- scope inside it
unfoldable pub Earlier : (table : List Slot) (scopes : List (List ℕ)) (far depth : ℕ) → List Env → Type 0
Earlier table scopes far zero es = Unit {0}
Earlier table scopes far (suc k) [] = Unit {0}
Earlier table scopes far (suc k) (e ∷ es) = Come table (scope_at scopes k) far e.before × Earlier table scopes (before_of (scope_at scopes k)) k es

-- where the slots below n stay what they are
pub earlier_kept : (n : ℕ) (table table' : List Slot) → take n table ≡ take n table' → (scopes : List (List ℕ)) (far depth : ℕ) (es : List Env) → Below n scopes depth → Earlier table scopes far depth es → Earlier table' scopes far depth es
unfolding Earlier Below
earlier_kept n table table' same scopes far zero es b en = tt
earlier_kept n table table' same scopes far (suc k) [] b en = tt
earlier_kept n table table' same scopes far (suc k) (e ∷ es) b en =
    let c = en.0 in
    let w = c.within in
    let low = b.0 in (
      record { from = c.from; within = w; knows = rw (between_kept n table table' same (first_of (scope_at scopes k)) far (omega arith)) at c.knows },
      earlier_kept n table table' same scopes (before_of (scope_at scopes k)) k es b.1 en.1,
    )

-- a scope written past the open ones
earlier_set : (table : List Slot) (scopes : List (List ℕ)) (j : ℕ) (s : List ℕ) (far depth : ℕ) (es : List Env) → depth ≤ j → Earlier table scopes far depth es → Earlier table (set scopes j s) far depth es
unfolding Earlier
earlier_set table scopes j s far zero es h en = tt
earlier_set table scopes j s far (suc k) [] h en = tt
earlier_set table scopes j s far (suc k) (e ∷ es) h en = rw (get_or-set_other scopes j k s no_scope (omega arith)) (en.0, earlier_set table scopes j s (before_of (scope_at scopes k)) k es (omega arith) en.1)

-- a scope opened inside the field at hand: no field of its own stands before its first
pub earlier_push : (table : List Slot) (scopes : List (List ℕ)) (depth name first last far : ℕ) (entries : List Entry) (es : List Env) → depth < length scopes → first ≤ last → Earlier table scopes far depth es
    → (env : ℕ) → Earlier table (set scopes depth (scope_of name first last far)) first (suc depth) (record { name = env; entries = entries; before = [] } ∷ es)
unfolding Earlier between
earlier_push table scopes depth name first last far entries es room order en env =
    let s : List ℕ = scope_of name first last far in
    let z : first - first ≡ 0 = omega arith in
    let none : Knows (between first first table) [] = unfold between in rw z knows_none in
    rw (get_or-set_same scopes depth s no_scope room) (record { from = omega arith; within = order; knows = none }, earlier_set table scopes depth s far depth es (omega arith) en)

-- no more slots are passed than there are
left_within : (names : List Slot) (to k : ℕ) (slots rest : List Slot) → k ≤ to → Left names to k (slots ++ rest) → k + length slots ≤ to
left_within names to k [] rest h l = omega arith
left_within names to k (s ∷ slots) rest h l =
    let n = left_next names to k s (slots ++ rest) l in
    omega (arith, left_within names to (k + 1) slots rest (omega (arith, n.inside)) n.rest)

-- from a field to the next
pub come_onward : (names : List Slot) (scope : List ℕ) (far : ℕ) (ds es : List Declaration) (slots rest : List Slot) → Left names (past_of scope) far (slots ++ rest) → Knows slots es → Come names scope far ds → Come names scope (far + length slots) (ds ++ es)
come_onward names scope far ds es slots rest l k c =
    let f = c.from in
    let w = c.within in
    record { from = omega arith; within = left_within names (past_of scope) far slots rest w l; knows = knows_past names (first_of scope) (past_of scope) far slots rest ds es f l c.knows k }

-- ---- a name that is found further out

-- the scope that has it, and whether it comes later there
pub record LateOut (es : List Env) (d space name : ℕ) (at : ℕ × ℕ) : Type 0 where
  pub out : ℕ
  pub env : Env
  pub far_out : at.0 ≡ d + out
  pub is : nth es out ≡ some env
  pub late : comes_later_out es space name ≡ not (is_just (find env.before space name))

late_turn : (e : Env) (es : List Env) (d space name : ℕ) (at : ℕ × ℕ) (o : Option ℕ) → find (table_of e) space name ≡ o → (walk es (suc d) space name ≡ some at → LateOut es (suc d) space name at) → (map (λ n. (d, n)) o or_else walk es (suc d) space name) ≡ some at → LateOut (e ∷ es) d space name at
unfolding comes_later_out comes_later ◌or_else◌ when◌then◌else◌ nth
late_turn e es d space name at none f more q =
    let r = more q in
    let w = r.far_out in
    record { out = suc r.out; env = r.env; far_out = omega arith; is = r.is; late = rw f r.late }
late_turn e es d space name at (some n) f more q =
    let w : d ≡ at.0 = ap (λ (p : ℕ × ℕ). p.0) (some_same (d, n) at q) in
    record { out = 0; env = e; far_out = omega arith; is = refl; late = rw f refl }

pub late_out : (es : List Env) (d space name : ℕ) (at : ℕ × ℕ) → walk es d space name ≡ some at → LateOut es d space name at
unfolding walk
late_out [] d space name at q = no_option at q
late_out (e ∷ es) d space name at q = late_turn e es d space name at (find (table_of e) space name) refl (λ r. late_out es (suc d) space name at r) q

-- nowhere, and so not later
never_turn : (e : Env) (es : List Env) (d space name : ℕ) (o : Option ℕ) → find (table_of e) space name ≡ o → (walk es (suc d) space name ≡ none → comes_later_out es space name ≡ false) → (map (λ n. (d, n)) o or_else walk es (suc d) space name) ≡ none → comes_later_out (e ∷ es) space name ≡ false
unfolding comes_later_out ◌or_else◌ when◌then◌else◌
never_turn e es d space name none f more q = rw f (more q)
never_turn e es d space name (some n) f more q = no_option (d, n) (sym q)

pub never_out : (es : List Env) (d space name : ℕ) → walk es d space name ≡ none → comes_later_out es space name ≡ false
unfolding walk comes_later_out
never_out [] d space name q = refl
never_out (e ∷ es) d space name q = never_turn e es d space name (find (table_of e) space name) refl (λ r. never_out es (suc d) space name r) q

one_less : (n : ℕ) → n + 1 - 1 ≡ n
one_less n = omega arith

both_less : (k n : ℕ) → suc k - suc n ≡ k - n
both_less k n = omega arith

further : (n : ℕ) → leb (suc n + 1) 1 ≡ false
further n = lt-leb (suc n + 1) 1 (omega arith)

-- how far the scope `out` further out has come
pub earlier_nth : (table : List Slot) (scopes : List (List ℕ)) (far depth out : ℕ) (es : List Env) (e : Env) → Earlier table scopes far depth es → out < depth → nth es out ≡ some e
    → Come table (scope_at scopes (depth - 1 - out)) (before_around scopes depth far (out + 1)) e.before
unfolding Earlier nth before_around pick
earlier_nth table scopes far zero out es e en h q = absurd (omega arith)
earlier_nth table scopes far (suc k) zero [] e en h q = no_option e q
earlier_nth table scopes far (suc k) (suc out) [] e en h q = no_option e q
earlier_nth table scopes far (suc k) zero (x ∷ es) e en h q =
    let p : suc k - 1 - 0 ≡ k = omega arith in
    rw (p, ← some_same x e q) en.0
earlier_nth table scopes far (suc k) (suc zero) (x ∷ es) e en h q =
    let p : suc k - 1 - 1 ≡ k - 1 - 0 = omega arith in
    rw (p, both_less k 0, sub-zero k) (earlier_nth table scopes (before_of (scope_at scopes k)) k 0 es e en.1 (omega arith) q)
earlier_nth table scopes far (suc k) (suc (suc out)) (x ∷ es) e en h q =
    let p : suc k - 1 - suc (suc out) ≡ k - 1 - suc out = omega arith in
    rw (p, further (suc out), one_less (suc (suc out)), both_less k (suc out)) (rw (further out, one_less (suc out)) at (earlier_nth table scopes (before_of (scope_at scopes k)) k (suc out) es e en.1 (omega arith) q))

-- the slots of each open scope lie below n
pub below_nth : (n : ℕ) (scopes : List (List ℕ)) (depth k : ℕ) → Below n scopes depth → k < depth → past_of (scope_at scopes k) ≤ n
unfolding Below
below_nth n scopes zero k b h = absurd (omega arith)
below_nth n scopes (suc d) k b h = go (λ l. below_nth n scopes d k b.1 l) (lt_or_le k d)
  where
    go : (k < d → past_of (scope_at scopes k) ≤ n) → ((k < d) ⊎ (d ≤ k)) → past_of (scope_at scopes k) ≤ n
    go f (inl l) = f l
    go f (inr l) = let e : k ≡ d = omega arith in rw e b.0

-- ---- the code's test

-- none of the slots before the field has the name
pub late_is : (table : List Slot) (from before to : ℕ) (ds : List Declaration) (space name : ℕ) → before ≤ to → Knows (between from before table) ds → name ≤ top_name → late_in table from before to space name ≡ not (is_just (find ds space name))
unfolding late_in
late_is table from before to ds space name h knows l =
    let e : before - (before - to) ≡ before = omega arith in
    rw e (ap not (knows space name l))

-- ---- what the code is asked, and how far the scopes have come

-- the rules and the code ask alike whether a name means only what an earlier field declares, and then the scopes have come as far
pub record Timed (asked early : Bool) (table : List Slot) (scopes : List (List ℕ)) (far depth : ℕ) (es : List Env) : Type 0 where
  pub same : asked ≡ early
  pub around : early ≡ true → Earlier table scopes far depth es

-- the same of the scope at hand
pub record InTime (outside : Outside) (early : Bool) (table : List Slot) (here : List ℕ) (far : ℕ) : Type 0 where
  pub same : outside.early ≡ early
  pub come : early ≡ true → Come table here far outside.before.decls
