-- The steps accept the tree that the planner marks wherever they accept the input: so the planner answers with rows for every input
-- that is accepted.
use Rattle.std.proofs.Math.Path.{◌≡◌, refl, ap, sym, subst}
use Rattle.std.proofs.Common.{ap₂, ◌∙◌}
use Rattle.std.specs.Prelude.{Bool, ◌&&◌, ◌||◌, not, eqb}
use Rattle.std.proofs.Math.Bool.{true, false}
use Rattle.std.proofs.Math.Option
use Rattle.std.proofs.Math.Option.{Option, none, some}
use mathlib.Core.List.{List, [], ◌∷◌, ◌++◌, map, append_assoc}
use Prim.Native.Nat.{ℕ, zero, suc, ◌+◌, ◌≤◌}
use native.Mathlib.Omega.{arith}
use Rattle.std.proofs.Math.Dec.{leb}
use Rattle.std.proofs.Math.ListN.{length}
use Rattle.rules.specs.Tools.{when◌then◌else◌, is_just, is_in, ◌or_else◌}
use Rattle.rules.specs.Versions.{RuleSet, top_name}
use Rattle.rules.specs.Rows.{Index, Num, Id}
use Rattle.rules.specs.Tree.{Declaration, Operand, ref, outer, case, Head, Scope, scope, Fields, end, ◌▸◌, Item, plain, holds, head_of, with_operands, flatten, operand_row}
use Rattle.rules.specs.Shapes.{FOUR, here_only, paths_ok}
use Rattle.rules.specs.Rules
use Rattle.rules.specs.Rules.{Refusal, Result, ok, ◌>>=◌, Entry, decls_in, Env, table_of, Before, Outside, at_root, onward, inward, opened, find, fresh, walk, declarations, heads_decls, Expanded, expand_operand, expand_operands, expand_head, expand_fields, path_aliases, export_alias, outer_alias, number_in, nth, named, resolve_outer, resolve_operands, resolve_head, resolve_inserted, resolve_scope, resolve_fields, resolve_item, resolve}
use Rattle.sharing.specs.Sharing.{Served, served_by, Marked, mark_outer, mark_operand, mark_operands, mark_head, insertions, mark_scope, mark_fields, mark_item, mark, propose}
use Rattle.rules.specs.Laws.ToolLaws.{Ok, ok_at, false_not, eqb_same, leb_le, leb-false, and-false, All, done, ◌&◌, all_append, or-true}
use Rattle.rules.specs.Laws.RowLaws.{LegalIndex}
use Rattle.rules.specs.Laws.Results.{OkR, bind_ok, bind_any, bind_eq, if_both, holds_of, bind_inv, bind_known, no_result, ok_same, no_option, some_same}
use Rattle.rules.specs.Laws.Entries
use Rattle.rules.specs.Laws.Entries.{number_is}
use Rattle.rules.specs.Laws.Meaning.Names.{LowOperand, LowOperands, LowScope, LowFields, LowItem, DeclFields, low_fields}
use Rattle.rules.proofs.Laws.Meaning.Runs
use Rattle.rules.proofs.Laws.Meaning.Runs.{seeing, ran}
use Rattle.rules.proofs.Laws.Meaning.StepC.{named_number, alias_resolved}
use Rattle.checking.proofs.Laws.PathCounts.{PathsOk, operands_paths}
use Rattle.checking.proofs.Laws.OwnOperands
use Rattle.checking.proofs.Laws.OwnOperands.{One, one_ref, ones, Closed, entered}
use Rattle.sharing.proofs.Laws.Planned
use Rattle.sharing.proofs.Laws.Planned.{Under, under_opened, under_next, under_root, Late, late_operand, late_head, late_insertions, served_holds, table_absent, absent_find, now, item, others, marked_next, marked_insertions, marked_head, marked_end, item_grows, inside, marks, scope_marks_lem}
use Rattle.sharing.proofs.Laws.Marks
use Rattle.sharing.proofs.Laws.Marks.{LikeScope, LikeFields, scope_like}
use Rattle.sharing.proofs.Laws.SharedOperands
use Rattle.rules.specs.Good.{GoodScope, GoodFields, GoodItem}
use Rattle.rules.proofs.Laws.Output.Well.{own_good}

-- ---- steps that go well

abbrev pub IsOk : {A : Type 0} → Result A → Type 0
IsOk {A} m = (a : A) × (m ≡ ok a)

ok_bind : {A B : Type 0} (m : Result A) (f : A → Result B) → IsOk m → ((a : A) → m ≡ ok a → IsOk (f a)) → IsOk (m >>= f)
unfolding ◌>>=◌
ok_bind m f h g = let r = g h.0 h.1 in (r.0, rw h.1 r.1)

is_ok : {A : Type 0} (a : A) → IsOk (ok a)
is_ok a = (a, refl)

if_same : {A : Type 0} (b : Bool) (x : A) → (when b then x else x) ≡ x
unfolding when◌then◌else◌
if_same true x = refl
if_same false x = refl

-- ---- tables that know the same names of the input

pub record LikeEnv (e₀ e : Env) : Type 0 where
  pub name : e.name ≡ e₀.name
  pub finds : (space n : ℕ) → n ≤ top_name → is_just (find (table_of e) space n) ≡ is_just (find (table_of e₀) space n)

pub data LikeEnvs : List Env → List Env → Type 0 where
  nowhere : LikeEnvs [] []
  outward : {e₀ e : Env} {es₀ es : List Env} → LikeEnv e₀ e → e.before ≡ e₀.before → LikeEnvs es₀ es → LikeEnvs (e₀ ∷ es₀) (e ∷ es)

-- what lies outside a field
pub record LikeOutside (o₀ o : Outside) : Type 0 where
  pub early : o.early ≡ o₀.early
  pub before : o.before.decls ≡ o₀.before.decls
  pub scopes : LikeEnvs o₀.scopes o.scopes

just_or : (o o₀ : Option ℕ) (d : ℕ) (w w₀ : Option (ℕ × ℕ)) → is_just o ≡ is_just o₀ → is_just w ≡ is_just w₀
    → is_just (Option.map (λ n. (d, n)) o or_else w) ≡ is_just (Option.map (λ n. (d, n)) o₀ or_else w₀)
unfolding ◌or_else◌
just_or none none d w w₀ e f = f
just_or none (some n) d w w₀ e f = false_not e
just_or (some m) none d w w₀ e f = false_not (sym e)
just_or (some m) (some n) d w w₀ e f = refl

walk_like : (es₀ es : List Env) (d space n : ℕ) → LikeEnvs es₀ es → n ≤ top_name → is_just (walk es d space n) ≡ is_just (walk es₀ d space n)
unfolding walk
walk_like [] [] d space n nowhere l = refl
walk_like (e₀ ∷ es₀) (e ∷ es) d space n (outward h b a) l = just_or (find (table_of e) space n) (find (table_of e₀) space n) d _ _ (h.finds space n l) (walk_like es₀ es (suc d) space n a l)
walk_like [] (e ∷ es) d space n x4 l = elim x4 [ ]
walk_like (e₀ ∷ es₀) [] d space n x4 l = elim x4 [ ]

named_like : (es₀ es : List Env) (n : ℕ) → LikeEnvs es₀ es → named es n ≡ named es₀ n
unfolding named
named_like [] [] n nowhere = refl
named_like (e₀ ∷ es₀) (e ∷ es) n (outward h b a) = rw (h.name, named_like es₀ es n a)
named_like [] (e ∷ es) n x'' = elim x'' [ ]
named_like (e₀ ∷ es₀) [] n x3 = elim x3 [ ]

nth_like : (es₀ es : List Env) (n : ℕ) → LikeEnvs es₀ es → Ok (λ e₀. (e : Env) × (nth es n ≡ some e) × LikeEnv e₀ e × (e.before ≡ e₀.before)) (nth es₀ n)
unfolding nth
nth_like [] [] n nowhere = tt
nth_like (e₀ ∷ es₀) (e ∷ es) zero (outward h b a) = (e, refl, h, b)
nth_like (e₀ ∷ es₀) (e ∷ es) (suc n) (outward h b a) = nth_like es₀ es n a
nth_like [] (e ∷ es) n x'' = elim x'' [ ]
nth_like (e₀ ∷ es₀) [] n x3 = elim x3 [ ]

refused_some : (o o₀ : Option ℕ) (why : Refusal) (z : ℕ) → is_just o ≡ is_just o₀ → IsOk (Rules.or_refused o₀ why z) → IsOk (Rules.or_refused o why z)
unfolding Rules.or_refused
refused_some none none why z e h = h
refused_some none (some n) why z e h = false_not e
refused_some (some m) o₀ why z e h = is_ok m

number_like : (e₀ e : Env) (space : ℕ) (at : Index) (z : ℕ) → LikeEnv e₀ e → LegalIndex top_name at → IsOk (number_in e₀.entries space at z) → IsOk (number_in e.entries space at z)
number_like e₀ e space (Num n) z L l h = unfold number_in in is_ok n
number_like e₀ e space (Id n) z L l h =
    subst IsOk (sym (number_is e.entries space n z))
    (refused_some (find (table_of e) space n) (find (table_of e₀) space n) (Rules.unknown space) z (L.finds space n l.1) (subst IsOk (number_is e₀.entries space n z) h))

-- ---- names that come in time

in_time_lem : (late : Bool) (z : ℕ) → late ≡ false → Rules.in_time late z ≡ ok tt
unfolding Rules.in_time when◌then◌else◌
in_time_lem late z e = rw e

was_in_time : (late : Bool) (z : ℕ) (u : Unit {0}) → Rules.in_time late z ≡ ok u → late ≡ false
unfolding Rules.in_time when◌then◌else◌
was_in_time true z u e = no_result Rules.not_earlier z u e
was_in_time false z u e = refl

comes_like : (xs xs₀ ys ys₀ : List Declaration) (space n : ℕ) → is_just (find xs space n) ≡ is_just (find xs₀ space n) → ys ≡ ys₀ → Rules.comes_later xs ys space n ≡ Rules.comes_later xs₀ ys₀ space n
unfolding Rules.comes_later
comes_like xs xs₀ ys ys₀ space n e q = rw (e, q)

out_like : (es₀ es : List Env) (space n : ℕ) → LikeEnvs es₀ es → n ≤ top_name → Rules.comes_later_out es space n ≡ Rules.comes_later_out es₀ space n
unfolding Rules.comes_later_out
out_like [] [] space n nowhere l = refl
out_like (e₀ ∷ es₀) (e ∷ es) space n (outward h b a) l =
    rw (h.finds space n l, comes_like (table_of e) (table_of e₀) e.before e₀.before space n (h.finds space n l) b, out_like es₀ es space n a l)
out_like [] (e ∷ es) space n x4 l = elim x4 [ ]
out_like (e₀ ∷ es₀) [] space n x4 l = elim x4 [ ]

late_like : (ds : List Declaration) (o₀ o : Outside) (space n : ℕ) → LikeOutside o₀ o → n ≤ top_name → Rules.late_name ds o space n ≡ Rules.late_name ds o₀ space n
unfolding Rules.late_name
late_like ds o₀ o space n L l = rw (L.early, L.before, out_like o₀.scopes o.scopes space n L.scopes l)

index_like : (early early₀ : Bool) (e₀ e : Env) (space : ℕ) (at : Index) → early ≡ early₀ → LikeEnv e₀ e → e.before ≡ e₀.before → LegalIndex top_name at
    → Rules.late_index early e space at ≡ Rules.late_index early₀ e₀ space at
unfolding Rules.late_index
index_like early early₀ e₀ e space (Num n) q L b l = refl
index_like early early₀ e₀ e space (Id n) q L b l = rw (q, comes_like (table_of e) (table_of e₀) e.before e₀.before space n (L.finds space n l.1) b)

-- a name that no scope has comes late in none
nowhere_late : (es : List Env) (d space n : ℕ) → walk es d space n ≡ none → Rules.comes_later_out es space n ≡ false
unfolding walk Rules.comes_later_out
nowhere_late [] d space n w = refl
nowhere_late (e ∷ es) d space n w = go (find (table_of e) space n) w (λ q. nowhere_late es (suc d) space n q)
  where
    go : (o : Option ℕ) → (Option.map (λ m. (d, m)) o or_else walk es (suc d) space n) ≡ none → (walk es (suc d) space n ≡ none → Rules.comes_later_out es space n ≡ false)
        → (when is_just o then Rules.comes_later (table_of e) e.before space n else Rules.comes_later_out es space n) ≡ false
    go none q r = unfold when◌then◌else◌ in r (unfold ◌or_else◌ in q)
    go (some m) q r = let no : ◌≡◌ {A = Option (ℕ × ℕ)} none (some (d, m)) = unfold ◌or_else◌ in sym q in no_option (d, m) no

fresh_late : (ds : List Declaration) (o : Outside) (space j : ℕ) → find ds space (fresh j) ≡ none → walk o.scopes 1 space (fresh j) ≡ none → Rules.late_name ds o space (fresh j) ≡ false
unfolding Rules.late_name when◌then◌else◌
fresh_late ds o space j e w = rw (e, nowhere_late o.scopes 1 space (fresh j) w) (and-false o.early)

-- a walked name that comes in time
name_expands : (ds : List Declaration) (o : Outside) (k space n z : ℕ) → Rules.late_name ds o space n ≡ false
    → expand_operand ds o k (ref space (Id n) [] z) ≡ (when is_just (find ds space n) then ok (Rules.as_it_is (ref space (Id n) [] z) k) else Rules.found_at space n z k (walk o.scopes 1 space n))
unfolding expand_operand Rules.in_time ◌>>=◌ when◌then◌else◌
name_expands ds o k space n z e = rw e

outer_like : (early early₀ : Bool) (es₀ es : List Env) (fz space : ℕ) (up at : Index) (z : ℕ) → early ≡ early₀ → LikeEnvs es₀ es → LegalIndex top_name at
    → IsOk (Rules.outer_numbers early₀ es₀ fz space up at z) → IsOk (Rules.outer_numbers early es fz space up at z)
unfolding Rules.outer_numbers
outer_like early early₀ es₀ es fz space up at z same_early L l h =
    let s₁ = bind_inv (Rules.up_number es₀ up fz) _ h.0 h.1 in
    let s₂ = bind_inv (Rules.or_refused (nth es₀ s₁.0) Rules.too_far fz) _ h.0 s₁.2 in
    let s₀ = bind_inv (Rules.in_time (Rules.late_index early₀ s₂.0 space at) z) _ h.0 s₂.2 in
    let s₃ = bind_inv (number_in s₂.0.entries space at z) _ h.0 s₀.2 in
    ok_bind (Rules.up_number es up fz) _ (s₁.0, up_like up s₁.0 s₁.1) (λ d p.
    let same : d ≡ s₁.0 = ok_same d s₁.0 (sym p ∙ up_like up s₁.0 s₁.1) in
    let E = ok_at (λ (x : Env). (e : Env) × (nth es s₁.0 ≡ some e) × LikeEnv x e × (e.before ≡ x.before)) (nth es₀ s₁.0) s₂.0 (nth_like es₀ es s₁.0 L) (there (nth es₀ s₁.0) s₂.0 s₂.1) in
    let at-d : Rules.or_refused (nth es d) Rules.too_far fz ≡ ok E.0 = ap (λ (x : ℕ). Rules.or_refused (nth es x) Rules.too_far fz) same ∙ found (nth es s₁.0) E.0 E.1 in
    ok_bind (Rules.or_refused (nth es d) Rules.too_far fz) _ (E.0, at-d) (λ x q.
    let is : E.0 ≡ x = ok_same E.0 x (sym at-d ∙ q) in
    let like : LikeEnv s₂.0 x = subst (LikeEnv s₂.0) is E.2 in
    let before : x.before ≡ s₂.0.before = subst (λ (y : Env). y.before ≡ s₂.0.before) is E.3 in
    let time : Rules.late_index early x space at ≡ false = index_like early early₀ s₂.0 x space at same_early like before l ∙ was_in_time _ z s₀.0 s₀.1 in
    ok_bind (Rules.in_time (Rules.late_index early x space at) z) _ (tt, in_time_lem _ z time) (λ u r.
    ok_bind (number_in x.entries space at z) _ (number_like s₂.0 x space at z like l (s₃.0, s₃.1)) (λ n r'. is_ok _))))
  where
    up_like : (up : Index) (d : ℕ) → Rules.up_number es₀ up fz ≡ ok d → Rules.up_number es up fz ≡ ok d
    up_like (Num n) d e = unfold Rules.up_number in e
    up_like (Id n) d e = unfold Rules.up_number in rw (named_like es₀ es n L) e

    there : (o : Option Env) (x : Env) → Rules.or_refused o Rules.too_far fz ≡ ok x → o ≡ some x
    there none x e = unfold Rules.or_refused in no_result Rules.too_far fz x e
    there (some y) x e = unfold Rules.or_refused in ap {B = Option Env} some (ok_same y x e)

    found : (o : Option Env) (x : Env) → o ≡ some x → Rules.or_refused o Rules.too_far fz ≡ ok x
    found none x e = no_option x e
    found (some y) x e = unfold Rules.or_refused in ap {B = Result Env} ok (some_same y x e)

resolve_outer_like : (early early₀ : Bool) (es₀ es : List Env) (fz space : ℕ) (up at : Index) (z : ℕ) → early ≡ early₀ → LikeEnvs es₀ es → LegalIndex top_name at
    → IsOk (resolve_outer early₀ es₀ fz space up at z) → IsOk (resolve_outer early es fz space up at z)
unfolding resolve_outer
resolve_outer_like early early₀ es₀ es fz space (Num d) (Num n) z q L l h = is_ok _
resolve_outer_like early early₀ es₀ es fz space (Num d) (Id name) z q L l h = outer_like early early₀ es₀ es fz space (Num d) (Id name) z q L l h
resolve_outer_like early early₀ es₀ es fz space (Id name) at z q L l h = outer_like early early₀ es₀ es fz space (Id name) at z q L l h

-- ---- declarations that are there

just_cases : (s n : Bool) (o : Option ℕ) → is_just o ≡ true → is_just (when s then when n then some 0 else Option.map suc o else o) ≡ true
unfolding when◌then◌else◌
just_cases true true o e = refl
just_cases true false none e = e
just_cases true false (some x) e = refl
just_cases false n o e = e

just_later : (d : Declaration) (ds : List Declaration) (space n : ℕ) → is_just (find ds space n) ≡ true → is_just (find (d ∷ ds) space n) ≡ true
unfolding find
just_later d ds space n e = just_cases (eqb d.space space) (eqb d.name n) (find ds space n) e

just_here : (space n z : ℕ) (ds : List Declaration) → is_just (find (record { space = space; name = n; z = z } ∷ ds) space n) ≡ true
unfolding find when◌then◌else◌
just_here space n z ds = rw (eqb_same space, eqb_same n)

just_append : (xs ys : List Declaration) (space n : ℕ) → is_just (find (xs ++ ys) space n) ≡ is_just (find xs space n) || is_just (find ys space n)
unfolding find
just_append [] ys space n = refl
just_append (d ∷ xs) ys space n = go (eqb d.space space) (eqb d.name n) (find (xs ++ ys) space n) (find xs space n) (just_append xs ys space n)
  where
    go : (s t : Bool) (o p : Option ℕ) → is_just o ≡ is_just p || is_just (find ys space n)
        → is_just (when s then when t then some 0 else Option.map suc o else o) ≡ is_just (when s then when t then some 0 else Option.map suc p else p) || is_just (find ys space n)
    go true true o p e = unfold when◌then◌else◌ in refl
    go true false none none e = unfold when◌then◌else◌ in e
    go true false none (some q) e = unfold when◌then◌else◌ in e
    go true false (some m) none e = unfold when◌then◌else◌ in e
    go true false (some m) (some q) e = unfold when◌then◌else◌ in refl
    go false t o p e = unfold when◌then◌else◌ in e

-- a walked name is declared here or further out
abbrev pub Reaching : List Declaration → List Env → Operand → Type 0
Reaching ds outside (ref space (Num n) paths z) = Unit {0}
Reaching ds outside (ref space (Id n) [] z) = is_just (find ds space n) || is_just (walk outside 1 space n) ≡ true
Reaching ds outside (ref space (Id n) (p ∷ ps) z) = Unit {0}
Reaching ds outside (outer space up at z) = Unit {0}
Reaching ds outside (case n z) = Unit {0}

opened_like : (here₀ here : Env) (o₀ o : Outside) → LikeEnv here₀ here → LikeOutside o₀ o → LikeEnvs (opened here₀ o₀) (opened here o)
opened_like here₀ here o₀ o h L = outward (record { name = h.name; finds = h.finds }) L.before L.scopes

-- ---- the two runs in one scope

module _ (here₀ here : Env) (outside₀ outside : Outside) (likes : LikeOutside outside₀ outside) (like : LikeEnv here₀ here) (start : ℕ) (under : Under start outside.scopes) (ds : List Declaration)
    (unnamed : (space j : ℕ) → find ds space (fresh j) ≡ none) where
  abbrev Has : (space n : ℕ) → Type 0
  Has space n = is_just (find (table_of here) space n) ≡ true

  abbrev SubIn : List Declaration → Type 0
  SubIn xs = (space n : ℕ) → is_just (find xs space n) ≡ true → Has space n

  sub_left : (xs ys : List Declaration) → SubIn (xs ++ ys) → SubIn xs
  sub_left xs ys s space n e = s space n (just_append xs ys space n ∙ rw e)

  sub_right : (xs ys : List Declaration) → SubIn (xs ++ ys) → SubIn ys
  sub_right xs ys s space n e = s space n (just_append xs ys space n ∙ rw e (or-true (is_just (find xs space n))))

  abbrev Held : List Served → Type 0
  Held seen = All (λ m. Has m.space (fresh m.k)) seen

  abbrev Reaches : Operand → Type 0
  Reaches o = Reaching ds outside₀.scopes o

  -- an operand after step B, in the one run and in the other
  data Pair : Operand → Operand → Type 0 where
    input : {o : Operand} → LowOperand o → Pair o o
    new : {space z : ℕ} {at : Index} (j : ℕ) → Has space (fresh j) → Pair (ref space at [] z) (ref space (Id (fresh j)) [] z)

  record Sim (seen : List Served) (m : Marked Operand) (e₀ e : Expanded Operand) : Type 0 where
    next : e.k ≡ m.k
    pair : SubIn (heads_decls e.inserted) → Held seen → Pair e₀.now e.now
    goes : SubIn (heads_decls e.inserted) → IsOk (resolve_inserted here₀ outside₀ e₀.inserted) → IsOk (resolve_inserted here outside e.inserted)
    held : SubIn (heads_decls e.inserted) → Held seen → Held m.seen

  abbrev Goes : List Served → ℕ → Marked Operand → Expanded Operand → Type 0
  Goes seen k m e₀ = (e : Expanded Operand) × (expand_operand ds outside k m.now ≡ ok e) × Sim seen m e₀ e

  none_inserted : IsOk (resolve_inserted here outside [])
  unfolding resolve_inserted
  none_inserted = is_ok []

  has_number : (space j z : ℕ) → Has space (fresh j) → IsOk (number_in here.entries space (Id (fresh j)) z)
  has_number space j z h = subst IsOk (sym (number_is here.entries space (fresh j) z)) (go (find (table_of here) space (fresh j)) h)
    where
      go : (o : Option ℕ) → is_just o ≡ true → IsOk (Rules.or_refused o (Rules.unknown space) z)
      go none e = false_not e
      go (some n) e = unfold Rules.or_refused in is_ok n

  -- the instance of a path, in the one run and in the other
  instance_like : (from : ℕ) (at : Index) (z : ℕ) → LegalIndex top_name at → Rules.late_instance here outside (ref from at [] z ∷ []) ≡ Rules.late_instance here₀ outside₀ (ref from at [] z ∷ [])
  unfolding Rules.late_instance
  instance_like from (Num n) z l = refl
  instance_like from (Id n) z l = rw (likes.early, comes_like (table_of here) (table_of here₀) outside.before.decls outside₀.before.decls from n (like.finds from n l.1) likes.before)

  fresh_instance : (from j z : ℕ) → Rules.late_instance here outside (ref from (Id (fresh j)) [] z ∷ []) ≡ false
  unfolding Rules.late_instance fresh
  fresh_instance from j z = rw (leb-false (fresh j) top_name (omega arith)) (and-false outside.early)

  -- aliases of exports
  alias_goes : (code space n from : ℕ) (at : Index) (p z : ℕ) → IsOk (number_in here.entries from at z) → IsOk (resolve_head here outside (export_alias code space n from at p z))
  unfolding resolve_head resolve_operands export_alias
  alias_goes code space n from at p z h = ok_bind _ _ (ok_bind (number_in here.entries from at z) _ h (λ m q. ok_bind _ _ (is_ok []) (λ os r. is_ok _))) (λ os q. is_ok _)

  from_space : ℕ → List ℕ → ℕ
  from_space space [] = when leb space 6 then 6 else 10
  from_space space (q ∷ ps) = 10

  alias_decl : (code space n from : ℕ) (at : Index) (p z : ℕ) (hs : List Head) → heads_decls (export_alias code space n from at p z ∷ hs) ≡ record { space = space; name = n; z = z } ∷ heads_decls hs
  unfolding heads_decls export_alias
  alias_decl code space n from at p z hs = refl

  -- one alias, and those that follow
  alias_first : (code space n from : ℕ) (at : Index) (p z : ℕ) (hs : List Head) → Rules.late_instance here outside (ref from at [] z ∷ []) ≡ false → IsOk (number_in here.entries from at z)
      → IsOk (resolve_inserted here outside hs) → IsOk (resolve_inserted here outside (export_alias code space n from at p z ∷ hs))
  unfolding resolve_inserted
  alias_first code space n from at p z hs late h g =
      let time : Rules.late_instance here outside (export_alias code space n from at p z).operands ≡ false = unfold export_alias in late in
      ok_bind _ _ (tt, in_time_lem _ _ time) (λ u r'. ok_bind _ _ (alias_goes code space n from at p z h) (λ x q. ok_bind _ _ g (λ y r. is_ok _)))

  -- what the one run says of it
  alias_was : (code space n from : ℕ) (at : Index) (p z : ℕ) (hs : List Head) → IsOk (resolve_inserted here₀ outside₀ (export_alias code space n from at p z ∷ hs))
      → IsOk (number_in here₀.entries from at z) × (Rules.late_instance here₀ outside₀ (ref from at [] z ∷ []) ≡ false)
  unfolding resolve_inserted
  alias_was code space n from at p z hs h =
      let s₀ = bind_inv (Rules.in_time (Rules.late_instance here₀ outside₀ (export_alias code space n from at p z).operands) (export_alias code space n from at p z).z) _ h.0 h.1 in
      let s₁ = bind_inv (resolve_head here₀ outside₀ (export_alias code space n from at p z)) _ h.0 s₀.2 in
      let X = OwnOperands.export_resolved here₀ outside₀ code space n from at p z s₁.0 s₁.1 in
      ((X.0, X.1), unfold export_alias in was_in_time _ _ s₀.0 s₀.1)

  paths_go : (space : ℕ) (at : Index) (p : ℕ) (ps : List ℕ) (z k : ℕ) → paths_ok space (suc (length ps)) ≡ true → IsOk (number_in here.entries (from_space space ps) at z)
      → Rules.late_instance here outside (ref (from_space space ps) at [] z ∷ []) ≡ false → SubIn (heads_decls (path_aliases space at p ps z k)) → IsOk (resolve_inserted here outside (path_aliases space at p ps z k))
  unfolding path_aliases from_space
  paths_go space at p [] z k t h late s = go (leb space 6) h late
    where
      go : (b : Bool) → IsOk (number_in here.entries (when b then 6 else 10) at z) → Rules.late_instance here outside (ref (when b then 6 else 10) at [] z ∷ []) ≡ false
          → IsOk (resolve_inserted here outside ((when b then export_alias 10 space (fresh k) 6 at p z else export_alias 9 space (fresh k) 10 at p z) ∷ []))
      go true h late = unfold when◌then◌else◌ in alias_first 10 space (fresh k) 6 at p z [] late h none_inserted
      go false h late = unfold when◌then◌else◌ in alias_first 9 space (fresh k) 10 at p z [] late h none_inserted
  paths_go space at p (q ∷ ps) z k t h late s =
      let high = OwnOperands.high_space space (length ps) t in
      let sub = subst SubIn (alias_decl 9 10 (fresh k) 10 at p z (path_aliases space (Id (fresh k)) q ps z (suc k))) s in
      let has : Has 10 (fresh k) = sub 10 (fresh k) (just_here 10 (fresh k) z _) in
      alias_first 9 10 (fresh k) 10 at p z (path_aliases space (Id (fresh k)) q ps z (suc k)) late h
      (paths_go space (Id (fresh k)) q ps z (suc k) (OwnOperands.high_any space (suc (length ps)) high)
      (subst (λ (y : ℕ). IsOk (number_in here.entries y (Id (fresh k)) z)) (sym (high_from space ps high)) (has_number 10 k z has)) (fresh_instance (from_space space ps) k z) (λ sp n e. sub sp n (just_later _ _ sp n e)))
    where
      high_from : (space : ℕ) (ps : List ℕ) → leb 7 space ≡ true → from_space space ps ≡ 10
      high_from space [] t = let l = leb_le 7 space t in unfold from_space when◌then◌else◌ in rw (leb-false space 6 (omega arith))
      high_from space (q ∷ ps) t = unfold from_space in refl

  paths_first : (space : ℕ) (at : Index) (p : ℕ) (ps : List ℕ) (z k : ℕ) → IsOk (resolve_inserted here₀ outside₀ (path_aliases space at p ps z k))
      → IsOk (number_in here₀.entries (from_space space ps) at z) × (Rules.late_instance here₀ outside₀ (ref (from_space space ps) at [] z ∷ []) ≡ false)
  unfolding path_aliases from_space
  paths_first space at p [] z k h = go (leb space 6) h
    where
      go : (b : Bool) → IsOk (resolve_inserted here₀ outside₀ ((when b then export_alias 10 space (fresh k) 6 at p z else export_alias 9 space (fresh k) 10 at p z) ∷ []))
          → IsOk (number_in here₀.entries (when b then 6 else 10) at z) × (Rules.late_instance here₀ outside₀ (ref (when b then 6 else 10) at [] z ∷ []) ≡ false)
      go true h = unfold when◌then◌else◌ in alias_was 10 space (fresh k) 6 at p z [] (unfold when◌then◌else◌ in h)
      go false h = unfold when◌then◌else◌ in alias_was 9 space (fresh k) 10 at p z [] (unfold when◌then◌else◌ in h)
  paths_first space at p (q ∷ ps) z k h = alias_was 9 10 (fresh k) 10 at p z _ h

  paths_has : (space : ℕ) (at : Index) (p : ℕ) (ps : List ℕ) (z k j : ℕ) → j ≡ k + length ps → is_just (find (heads_decls (path_aliases space at p ps z k)) space (fresh j)) ≡ true
  unfolding path_aliases
  paths_has space at p [] z k j e =
      let same : j ≡ k = omega arith in
      subst (λ (x : ℕ). is_just (find (heads_decls ((when leb space 6 then export_alias 10 space (fresh k) 6 at p z else export_alias 9 space (fresh k) 10 at p z) ∷ [])) space (fresh x)) ≡ true) (sym same) (go (leb space 6))
    where
      go : (b : Bool) → is_just (find (heads_decls ((when b then export_alias 10 space (fresh k) 6 at p z else export_alias 9 space (fresh k) 10 at p z) ∷ [])) space (fresh k)) ≡ true
      go true = unfold when◌then◌else◌ heads_decls export_alias in just_here space (fresh k) z []
      go false = unfold when◌then◌else◌ heads_decls export_alias in just_here space (fresh k) z []
  paths_has space at p (q ∷ ps) z k j e =
      subst (λ (x : List Declaration). is_just (find x space (fresh j)) ≡ true) (sym (alias_decl 9 10 (fresh k) 10 at p z (path_aliases space (Id (fresh k)) q ps z (suc k))))
      (just_later _ _ space (fresh j) (paths_has space (Id (fresh k)) q ps z (suc k) j (omega arith)))

  -- ---- step B of an operand

  kept : (o : Operand) (seen : List Served) (k₀ k k' : ℕ) → LowOperand o → k ≡ k' → Sim seen (record { now = o; seen = seen; k = k' }) (Rules.as_it_is o k₀) (Rules.as_it_is o k)
  unfolding Rules.as_it_is
  kept o seen k₀ k k' l q = record { next = q; pair = λ s h. input l; goes = λ s h. none_inserted; held = λ s h. h }

  outer_decl : (space n d i z : ℕ) → heads_decls (outer_alias space n d i z ∷ []) ≡ record { space = space; name = n; z = z } ∷ []
  unfolding heads_decls outer_alias
  outer_decl space n d i z = refl

  outer_goes : (space n d i z : ℕ) → IsOk (resolve_inserted here outside (outer_alias space n d i z ∷ []))
  unfolding resolve_inserted
  outer_goes space n d i z =
      let time : Rules.late_instance here outside (outer_alias space n d i z).operands ≡ false = unfold outer_alias Rules.late_instance in refl in
      ok_bind _ _ (tt, in_time_lem _ _ time) (λ u r'. ok_bind _ _ (outer_alias space n d i z, alias_resolved here outside space n d i z) (λ x q. ok_bind _ _ (is_ok []) (λ y r. is_ok _)))

  -- the first reference to an outer declaration: the base run found it at `at₀`
  first_go : (seen : List Served) (k k' space n z : ℕ) (e₀ : Expanded Operand) (at : Index) (w : Option (ℕ × ℕ)) → e₀.now ≡ ref space at [] z → is_in space FOUR ≡ true → is_just w ≡ true → k ≡ k'
      → (e : Expanded Operand) × (Rules.found_at space n z k w ≡ ok e) × Sim seen (mark_outer seen k' space n z none) e₀ e
  unfolding Rules.found_at Rules.through mark_outer when◌then◌else◌
  first_go seen k k' space n z e₀ at none b four f q = false_not f
  first_go seen k k' space n z e₀ at (some w) b four f q =
      let has : SubIn (heads_decls (outer_alias space (fresh k) w.0 w.1 z ∷ [])) → Has space (fresh k) = λ s. s space (fresh k) (subst (λ (x : List Declaration). is_just (find x space (fresh k)) ≡ true) (sym (outer_decl space (fresh k) w.0 w.1 z)) (just_here space (fresh k) z [])) in (
        Rules.through space z k (outer_alias space (fresh k) w.0 w.1 z ∷ []),
        rw four,
        record {
          next = ap suc q;
          pair = λ s h. subst (λ (x : Operand). Pair x (ref space (Id (fresh k)) [] z)) (sym b) (new k (has s));
          goes = λ s h. outer_goes space (fresh k) w.0 w.1 z;
          held = λ s h. subst (λ (x : ℕ). Has space (fresh x)) q (has s) & h;
        },
      )

  later_go : (seen : List Served) (k k' space n z j : ℕ) (e₀ : Expanded Operand) (at : Index) → e₀.now ≡ ref space at [] z → served_by seen space n ≡ some j → Late start seen → k ≡ k'
      → Goes seen k (mark_outer seen k' space n z (some j)) e₀
  unfolding mark_outer
  later_go seen k k' space n z j e₀ at b f late q =
      let unseen : walk outside.scopes 1 space (fresh j) ≡ none = under 1 space j (ok_at (λ (x : ℕ). start ≤ x) _ j (served_holds (λ (m : Served). start ≤ m.k) seen space n late) f) in (
        Rules.as_it_is (ref space (Id (fresh j)) [] z) k,
        name_expands ds outside k space (fresh j) z (fresh_late ds outside space j (unnamed space j) unseen) ∙ stays unseen,
        unfold Rules.as_it_is in
            record {
              next = q;
              pair = λ s h. subst (λ (x : Operand). Pair x (ref space (Id (fresh j)) [] z)) (sym b) (new j (ok_at (λ (x : ℕ). Has space (fresh x)) _ j (served_holds (λ (m : Served). Has m.space (fresh m.k)) seen space n h) f));
              goes = λ s h. none_inserted;
              held = λ s h. h;
            },
      )
    where
      stays : walk outside.scopes 1 space (fresh j) ≡ none
          → (when is_just (find ds space (fresh j)) then ok (Rules.as_it_is (ref space (Id (fresh j)) [] z) k) else Rules.found_at space (fresh j) z k (walk outside.scopes 1 space (fresh j))) ≡ ok (Rules.as_it_is (ref space (Id (fresh j)) [] z) k)
      stays unseen = unfold Rules.found_at when◌then◌else◌ in rw (unnamed space j, unseen)

  outer_go : (seen : List Served) (k k' space n z : ℕ) (o : Option ℕ) (e₀ : Expanded Operand) (at : Index) → e₀.now ≡ ref space at [] z → is_in space FOUR ≡ true → is_just (walk outside.scopes 1 space n) ≡ true → find ds space n ≡ none
      → Rules.late_name ds outside space n ≡ false → served_by seen space n ≡ o → Late start seen → k ≡ k' → Goes seen k (mark_outer seen k' space n z o) e₀
  outer_go seen k k' space n z none e₀ at b four w e time f late q =
      let F = first_go seen k k' space n z e₀ at (walk outside.scopes 1 space n) b four w q in
      (F.0, unfold mark_outer in (name_expands ds outside k space n z time ∙ (unfold when◌then◌else◌ in rw e F.1)), F.2)
  outer_go seen k k' space n z (some j) e₀ at b four w e time f late q = later_go seen k k' space n z j e₀ at b f late q

  found_go : (seen : List Served) (k₀ k k' space n z : ℕ) (o : Option (ℕ × ℕ)) → is_just o ≡ true → is_just (walk outside.scopes 1 space n) ≡ true → find ds space n ≡ none → Rules.late_name ds outside space n ≡ false → Late start seen → k ≡ k'
      → OkR (Goes seen k (mark_outer seen k' space n z (served_by seen space n))) (Rules.found_at space n z k₀ o)
  found_go seen k₀ k k' space n z none f w e time late q = false_not f
  found_go seen k₀ k k' space n z (some at) f w e time late q = unfold Rules.found_at in go (is_in space FOUR) refl
    where
      go : (b : Bool) → is_in space FOUR ≡ b → OkR (Goes seen k (mark_outer seen k' space n z (served_by seen space n))) (when b then ok (Rules.through space z k₀ (outer_alias space (fresh k₀) at.0 at.1 z ∷ [])) else Result.refused (Rules.not_outer space) z)
      go true four = unfold when◌then◌else◌ in outer_go seen k k' space n z (served_by seen space n) (Rules.through space z k₀ (outer_alias space (fresh k₀) at.0 at.1 z ∷ [])) (Id (fresh k₀)) (unfold Rules.through in refl) four w e time refl late q
      go false four = unfold when◌then◌else◌ in tt

  name_go : (seen : List Served) (k₀ k k' space n z : ℕ) (o : Option ℕ) → LowOperand (ref space (Id n) [] z) → is_just (find ds space n) || is_just (walk outside₀.scopes 1 space n) ≡ true → find ds space n ≡ o
      → Rules.late_name ds outside space n ≡ false → Late start seen → k ≡ k'
      → OkR (Goes seen k (when is_just o then record { now = ref space (Id n) [] z; seen = seen; k = k' } else mark_outer seen k' space n z (served_by seen space n)))
      (when is_just o then ok (Rules.as_it_is (ref space (Id n) [] z) k₀) else Rules.found_at space n z k₀ (walk outside₀.scopes 1 space n))
  unfolding when◌then◌else◌
  name_go seen k₀ k k' space n z none l r e time late q =
      let far₀ : is_just (walk outside₀.scopes 1 space n) ≡ true = rw e at r in
      found_go seen k₀ k k' space n z (walk outside₀.scopes 1 space n) far₀ (walk_like outside₀.scopes outside.scopes 1 space n likes.scopes l.1 ∙ far₀) e time late q
  name_go seen k₀ k k' space n z (some m) l r e time late q =
      (Rules.as_it_is (ref space (Id n) [] z) k, name_expands ds outside k space n z time ∙ (unfold when◌then◌else◌ in rw e), kept (ref space (Id n) [] z) seen k₀ k k' l q)

  operand_go : (seen : List Served) (k₀ k k' : ℕ) (o : Operand) → LowOperand o → PathsOk o → Reaches o → Late start seen → k ≡ k' → OkR (Goes seen k (mark_operand ds seen k' o)) (expand_operand ds outside₀ k₀ o)
  unfolding expand_operand mark_operand
  operand_go seen k₀ k k' (ref space (Num n) [] z) l t r late q = (Rules.as_it_is (ref space (Num n) [] z) k, refl, kept (ref space (Num n) [] z) seen k₀ k k' l q)
  operand_go seen k₀ k k' (ref space (Id n) [] z) l t r late q =
      bind_eq _ _ _ (λ u p. name_go seen k₀ k k' space n z (find ds space n) l r refl (late_like ds outside₀ outside space n likes l.1 ∙ was_in_time _ z u p) late q)
  operand_go seen k₀ k k' (ref space at (p ∷ ps) z) l t r late q = go (is_in space (4 ∷ 6 ∷ [])) refl
    where
      go : (b : Bool) → is_in space (4 ∷ 6 ∷ []) ≡ b → OkR (Goes seen k (record { now = ref space at (p ∷ ps) z; seen = seen; k = suc (k' + length ps) })) (when b then Result.refused Rules.not_exported z else ok (Rules.through space z (k₀ + length ps) (path_aliases space at p ps z k₀)))
      go true e = unfold when◌then◌else◌ in tt
      go false e = unfold when◌then◌else◌ expand_operand Rules.through in (
        Rules.through space z (k + length ps) (path_aliases space at p ps z k),
        rw e,
        record {
          next = ap (λ (x : ℕ). suc (x + length ps)) q;
          pair = λ s h. new (k + length ps) (s space (fresh (k + length ps)) (paths_has space at p ps z k (k + length ps) refl));
          goes = λ s h.
              let F = paths_first space at p ps z k₀ h in
              paths_go space at p ps z k t (number_like here₀ here (from_space space ps) at z like l F.0) (instance_like (from_space space ps) at z l ∙ F.1) s;
          held = λ s h. h;
        },
      )
  operand_go seen k₀ k k' (outer space up at z) l t r late q = (Rules.as_it_is (outer space up at z) k, refl, kept (outer space up at z) seen k₀ k k' l q)
  operand_go seen k₀ k k' (case n z) l t r late q = (Rules.as_it_is (case n z) k, refl, kept (case n z) seen k₀ k k' l q)

  -- ---- the operands of a field

  data Pairs : List Operand → List Operand → Type 0 where
    no_pairs : Pairs [] []
    and_pair : {o₀ o : Operand} {os₀ os : List Operand} → Pair o₀ o → Pairs os₀ os → Pairs (o₀ ∷ os₀) (o ∷ os)

  low_pairs : (os : List Operand) → LowOperands os → Pairs os os
  low_pairs [] l = no_pairs
  low_pairs (o ∷ os) l = and_pair (input l.0) (low_pairs os l.1)

  inserted_left : (e₁ : Env) (o : Outside) (xs ys : List Head) → IsOk (resolve_inserted e₁ o (xs ++ ys)) → IsOk (resolve_inserted e₁ o xs) × IsOk (resolve_inserted e₁ o ys)
  unfolding resolve_inserted
  inserted_left e₁ o [] ys h = (is_ok [], h)
  inserted_left e₁ o (x ∷ xs) ys h =
      let s₀ = bind_inv (Rules.in_time (Rules.late_instance e₁ o x.operands) x.z) _ h.0 h.1 in
      let s₁ = bind_inv (resolve_head e₁ o x) _ h.0 s₀.2 in
      let s₂ = bind_inv (resolve_inserted e₁ o (xs ++ ys)) _ h.0 s₁.2 in
      let r = inserted_left e₁ o xs ys (s₂.0, s₂.1) in
      (ok_bind _ _ (s₀.0, s₀.1) (λ u p'. ok_bind (resolve_head e₁ o x) _ (s₁.0, s₁.1) (λ a p. ok_bind (resolve_inserted e₁ o xs) _ r.0 (λ b q. is_ok _))), r.1)

  inserted_both : (xs ys : List Head) → IsOk (resolve_inserted here outside xs) → IsOk (resolve_inserted here outside ys) → IsOk (resolve_inserted here outside (xs ++ ys))
  unfolding resolve_inserted
  inserted_both [] ys h g = g
  inserted_both (x ∷ xs) ys h g =
      let s₀ = bind_inv (Rules.in_time (Rules.late_instance here outside x.operands) x.z) _ h.0 h.1 in
      let s₁ = bind_inv (resolve_head here outside x) _ h.0 s₀.2 in
      let s₂ = bind_inv (resolve_inserted here outside xs) _ h.0 s₁.2 in
      ok_bind _ _ (s₀.0, s₀.1) (λ u p'. ok_bind (resolve_head here outside x) _ (s₁.0, s₁.1) (λ a p. ok_bind (resolve_inserted here outside (xs ++ ys)) _ (inserted_both xs ys (s₂.0, s₂.1) g) (λ b q. is_ok _)))

  decls_append : (xs ys : List Head) → heads_decls (xs ++ ys) ≡ heads_decls xs ++ heads_decls ys
  unfolding heads_decls
  decls_append [] ys = refl
  decls_append (x ∷ xs) ys = ap (λ (l : List Declaration). x.decls ++ l) (decls_append xs ys) ∙ sym (append_assoc x.decls (heads_decls xs) (heads_decls ys))

  record Sims {A : Type 0} (P : A → A → Type 0) (seen : List Served) (m : Marked A) (e₀ e : Expanded A) : Type 0 where
    next : e.k ≡ m.k
    pairs : SubIn (heads_decls e.inserted) → Held seen → P e₀.now e.now
    goes : SubIn (heads_decls e.inserted) → IsOk (resolve_inserted here₀ outside₀ e₀.inserted) → IsOk (resolve_inserted here outside e.inserted)
    held : SubIn (heads_decls e.inserted) → Held seen → Held m.seen

  abbrev AllReach : List Operand → Type 0
  AllReach os = All Reaches os

  operands_go : (seen : List Served) (k₀ k k' : ℕ) (os : List Operand) → LowOperands os → All PathsOk os → AllReach os → Late start seen → start ≤ k' → k ≡ k'
      → OkR (λ e₀. (e : Expanded (List Operand)) × (expand_operands ds outside k (mark_operands ds seen k' os).now ≡ ok e) × Sims Pairs seen (mark_operands ds seen k' os) e₀ e) (expand_operands ds outside₀ k₀ os)
  unfolding expand_operands mark_operands Rules.as_it_is
  operands_go seen k₀ k k' [] l t r late h q = (record { inserted = []; rows = []; now = []; k = k }, refl, record { next = q; pairs = λ s g. no_pairs; goes = λ s g. none_inserted; held = λ s g. g })
  operands_go seen k₀ k k' (o ∷ os) l (t & ts) (r & rs) late h q =
      let m = mark_operand ds seen k' o in
      let L = late_operand start ds seen k' o late h in
      bind_ok _ _ _ _ (operand_go seen k₀ k k' o l.0 t r late q) (λ e₀ G. bind_ok _ _ _ _ (operands_go m.seen e₀.k G.0.k m.k os l.1 ts rs L.0 L.1 G.2.next) (λ es₀ H. (
        record { inserted = G.0.inserted ++ H.0.inserted; rows = G.0.rows ++ map (λ (n : ℕ). length (operand_row m.now) + n) H.0.rows; now = G.0.now ∷ H.0.now; k = H.0.k },
        unfold ◌>>=◌ in rw (G.1, H.1),
        record {
          next = H.2.next;
          pairs = λ s g.
              let s' = subst SubIn (decls_append G.0.inserted H.0.inserted) s in
              and_pair (G.2.pair (sub_left (heads_decls G.0.inserted) (heads_decls H.0.inserted) s') g) (H.2.pairs (sub_right (heads_decls G.0.inserted) (heads_decls H.0.inserted) s') (G.2.held (sub_left (heads_decls G.0.inserted) (heads_decls H.0.inserted) s') g));
          goes = λ s g.
              let s' = subst SubIn (decls_append G.0.inserted H.0.inserted) s in
              let i = inserted_left here₀ outside₀ e₀.inserted es₀.inserted g in
              inserted_both G.0.inserted H.0.inserted (G.2.goes (sub_left (heads_decls G.0.inserted) (heads_decls H.0.inserted) s') i.0) (H.2.goes (sub_right (heads_decls G.0.inserted) (heads_decls H.0.inserted) s') i.1);
          held = λ s g.
              let s' = subst SubIn (decls_append G.0.inserted H.0.inserted) s in H.2.held (sub_right (heads_decls G.0.inserted) (heads_decls H.0.inserted) s') (G.2.held (sub_left (heads_decls G.0.inserted) (heads_decls H.0.inserted) s') g);
        },
      )))

  -- step C of them
  pairs_go : (fz : ℕ) (cases : List ℕ) (os₀ os : List Operand) → Pairs os₀ os → IsOk (resolve_operands here₀ outside₀ fz cases os₀) → IsOk (resolve_operands here outside fz cases os)
  unfolding resolve_operands
  pairs_go fz cases [] [] no_pairs h = is_ok []
  pairs_go fz cases (ref space at paths z ∷ os₀) (o ∷ os) (and_pair (input l) ps) h =
      let s₁ = bind_inv (number_in here₀.entries space at z) _ h.0 h.1 in
      let s₂ = bind_inv (resolve_operands here₀ outside₀ fz cases os₀) _ h.0 s₁.2 in
      ok_bind _ _ (number_like here₀ here space at z like l (s₁.0, s₁.1)) (λ n p. ok_bind _ _ (pairs_go fz cases os₀ os ps (s₂.0, s₂.1)) (λ x q. is_ok _))
  pairs_go fz cases (ref space at paths z ∷ os₀) (o ∷ os) (and_pair (new j has) ps) h =
      let s₁ = bind_inv (number_in here₀.entries space at z) _ h.0 h.1 in
      let s₂ = bind_inv (resolve_operands here₀ outside₀ fz cases os₀) _ h.0 s₁.2 in
      ok_bind _ _ (has_number space j z has) (λ n p. ok_bind _ _ (pairs_go fz cases os₀ os ps (s₂.0, s₂.1)) (λ x q. is_ok _))
  pairs_go fz cases (outer space up at z ∷ os₀) (o ∷ os) (and_pair (input l) ps) h =
      let s₁ = bind_inv (resolve_outer outside₀.early (opened here₀ outside₀) fz space up at z) _ h.0 h.1 in
      let s₂ = bind_inv (resolve_operands here₀ outside₀ fz cases os₀) _ h.0 s₁.2 in
      ok_bind _ _ (resolve_outer_like outside.early outside₀.early (opened here₀ outside₀) (opened here outside) fz space up at z likes.early (opened_like here₀ here outside₀ outside like likes) l.1 (s₁.0, s₁.1)) (λ n p. ok_bind _ _ (pairs_go fz cases os₀ os ps (s₂.0, s₂.1)) (λ x q. is_ok _))
  pairs_go fz cases (case n z ∷ os₀) (o ∷ os) (and_pair (input l) ps) h = case_go (not (eqb n 0) && is_in n cases) (resolve_operands here₀ outside₀ fz (n ∷ cases) os₀) (resolve_operands here outside fz (n ∷ cases) os) h (λ x. pairs_go fz (n ∷ cases) os₀ os ps x)
    where
      case_go : (b : Bool) (m₀ m : Result (List Operand)) → IsOk (when b then Result.refused Rules.case_twice z else (m₀ >>= λ os'. ok (case n z ∷ os'))) → (IsOk m₀ → IsOk m) → IsOk (when b then Result.refused Rules.case_twice z else (m >>= λ os'. ok (case n z ∷ os')))
      case_go true m₀ m h f = unfold when◌then◌else◌ in h
      case_go false m₀ m h f = unfold when◌then◌else◌ in (let s₁ = bind_inv m₀ _ h.0 h.1 in ok_bind m _ (f (s₁.0, s₁.1)) (λ x q. is_ok _))
  pairs_go fz cases [] (o ∷ os) x4 h = elim x4 [ ]
  pairs_go fz cases (ref space at paths z ∷ os₀) [] x6 h = elim x6 [ ]
  pairs_go fz cases (outer space up at z ∷ os₀) [] x7 h = elim x7 [ ]
  pairs_go fz cases (case n z ∷ os₀) [] x8 h = elim x8 [ ]

  -- ---- a field

  abbrev HeadGoes : Head → Head → Type 0
  HeadGoes h₀ h = IsOk (resolve_head here₀ outside₀ h₀) → IsOk (resolve_head here outside h)

  head_pairs : (h₀ h : Head) → h₀.z ≡ h.z → Pairs h₀.operands h.operands → HeadGoes h₀ h
  unfolding resolve_head
  head_pairs h₀ h e ps g =
      let s₁ = bind_inv (resolve_operands here₀ outside₀ h₀.z [] h₀.operands) _ g.0 g.1 in
      ok_bind _ _ (subst (λ (z : ℕ). IsOk (resolve_operands here outside z [] h.operands)) e (pairs_go h₀.z [] h₀.operands h.operands ps (s₁.0, s₁.1))) (λ os q. is_ok _)

  head_go : (seen : List Served) (k₀ k k' : ℕ) (h : Head) → LowOperands h.operands → All PathsOk h.operands → (here_only h.code ≡ false → AllReach h.operands) → Late start seen → start ≤ k' → k ≡ k'
      → OkR (λ e₀. (e : Expanded Head) × (expand_head ds outside k (mark_head ds seen k' h).now ≡ ok e) × Sims HeadGoes seen (mark_head ds seen k' h) e₀ e) (expand_head ds outside₀ k₀ h)
  head_go seen k₀ k k' h l t r late s q =
      subst (λ (m : Marked Head). OkR (λ (e₀ : Expanded Head). (e : Expanded Head) × (expand_head ds outside k m.now ≡ ok e) × Sims HeadGoes seen m e₀ e) (expand_head ds outside₀ k₀ h)) (sym (Planned.head_by_lem ds seen k' h)) (go (here_only h.code) refl)
    where
      go : (b : Bool) → here_only h.code ≡ b
          → OkR (λ e₀. (e : Expanded Head) × (expand_head ds outside k (Planned.head_by b ds seen k' h).now ≡ ok e) × Sims HeadGoes seen (Planned.head_by b ds seen k' h) e₀ e) (expand_head ds outside₀ k₀ h)
      go true e = unfold expand_head when◌then◌else◌ Rules.as_it_is in rw e
          (record { inserted = []; rows = []; now = h; k = k }, refl, record { next = q; pairs = λ s g. head_pairs h h refl (low_pairs h.operands l); goes = λ s g. none_inserted; held = λ s g. g })
      go false e = unfold expand_head when◌then◌else◌ with_operands in rw e (bind_ok _ _ _ _ (operands_go seen k₀ k k' h.operands l t (r e) late s q) (λ e₀ G. (
        record { inserted = G.0.inserted; rows = G.0.rows; now = with_operands (with_operands h (mark_operands ds seen k' h.operands).now) G.0.now; k = G.0.k },
        unfold ◌>>=◌ with_operands in rw G.1,
        record { next = G.2.next; pairs = λ s g. head_pairs (with_operands h e₀.now) (with_operands (with_operands h (mark_operands ds seen k' h.operands).now) G.0.now) (unfold with_operands in refl) (unfold with_operands in G.2.pairs s g); goes = G.2.goes; held = G.2.held },
      )))

-- ---- what an accepted run says of its fields

abbrev FineFields : Fields → List Declaration → List Env → Type 0
FineFields end ds outside = Unit {0}
FineFields (i ▸ gs) ds outside = (here_only (head_of i).code ≡ false → All (Reaching ds outside) (head_of i).operands) × FineFields gs ds outside

module _ {fs : Fields} {outside : Outside} {here : Env} {out' : Fields} (E : Closed fs outside here out') (past : Before) where
  abbrev there : Outside
  there = seeing outside past

  abbrev table : List Declaration
  table = declarations fs

  abbrev Passed : (fz : ℕ) → Operand → Type 0
  Passed fz o = (now : Operand) × One here there fz o now

  found_reach : (fz space n z k : ℕ) (o : Option (ℕ × ℕ)) → n ≤ top_name → find table space n ≡ none → OkR (λ e. Passed fz e.now → is_just o ≡ true) (Rules.found_at space n z k o)
  unfolding Rules.found_at Rules.as_it_is
  found_reach fz space n z k none l e = λ x. go x.0 x.1
    where
      go : (now : Operand) → One here there fz (ref space (Id n) [] z) now → is_just {A = ℕ × ℕ} none ≡ true
      go now (one_ref m f) = no_option m (sym (OwnOperands.not_here E past 0 space n l e) ∙ named_number here.entries space n z m f)
  found_reach fz space n z k (some at) l e = if_both (OkR _) _ _ _ (λ x. refl) tt

  operand_reach : (fz k : ℕ) (o : Operand) → LowOperand o → OkR (λ e. Passed fz e.now → Reaching table outside.scopes o) (expand_operand table there k o)
  unfolding expand_operand
  operand_reach fz k (ref space (Num n) [] z) l = λ x. tt
  operand_reach fz k (ref space (Id n) [] z) l = bind_any _ _ _ (λ u. go (find table space n) refl)
    where
      go : (o : Option ℕ) → find table space n ≡ o
          → OkR (λ e. Passed fz e.now → is_just o || is_just (walk outside.scopes 1 space n) ≡ true) (when is_just o then ok (Rules.as_it_is (ref space (Id n) [] z) k) else Rules.found_at space n z k (walk outside.scopes 1 space n))
      go none e = unfold when◌then◌else◌ in found_reach fz space n z k (walk outside.scopes 1 space n) l.1 e
      go (some m) e = unfold when◌then◌else◌ in λ x. refl
  operand_reach fz k (ref space (Num n) (p ∷ ps) z) l = if_both (OkR _) _ _ _ tt (λ x. tt)
  operand_reach fz k (ref space (Id n) (p ∷ ps) z) l = if_both (OkR _) _ _ _ tt (λ x. tt)
  operand_reach fz k (outer space up at z) l = λ x. tt
  operand_reach fz k (case n z) l = λ x. tt

  operands_reach : (fz k : ℕ) (os : List Operand) → LowOperands os → OkR (λ e. (cases : List ℕ) (os' : List Operand) → resolve_operands here there fz cases e.now ≡ ok os' → All (Reaching table outside.scopes) os) (expand_operands table there k os)
  unfolding expand_operands
  operands_reach fz k [] l = λ cases os' q. done
  operands_reach fz k (o ∷ os) l =
      bind_ok _ _ _ _ (operand_reach fz k o l.0) (λ e f. bind_ok _ _ _ _ (operands_reach fz e.k os l.1) (λ es g. λ cases os' q.
      let X = ones here there fz cases e.now es.now os' q in f (X.now, X.first) & g X.seen X.rest X.others))

  head_reach : (k : ℕ) (h : Head) → LowOperands h.operands → OkR (λ e. (h' : Head) → resolve_head here there e.now ≡ ok h' → here_only h.code ≡ false → All (Reaching table outside.scopes) h.operands) (expand_head table there k h)
  head_reach k h l = go (here_only h.code) refl
    where
      go : (b : Bool) → here_only h.code ≡ b → OkR (λ e. (h' : Head) → resolve_head here there e.now ≡ ok h' → here_only h.code ≡ false → All (Reaching table outside.scopes) h.operands) (expand_head table there k h)
      go true t = unfold expand_head when◌then◌else◌ in rw t (λ h' q f. false_not (sym f))
      go false t = unfold expand_head when◌then◌else◌ with_operands in rw t (bind_ok _ _ _ _ (operands_reach h.z k h.operands l) (λ es f. λ h' q e. f [] h'.operands (OwnOperands.resolved_operands E past 0 _ h' q)))

module _ {fs : Fields} {outside : Outside} {here : Env} {out' : Fields} (E : Closed fs outside here out') where
  level_fine : (past : Before) (gs : Fields) (b k : ℕ) (res : Fields × ℕ) → LowFields gs → resolve_fields gs (declarations fs) here (seeing outside past) b k ≡ ok res → FineFields gs (declarations fs) outside.scopes
  level_fine past end b k res low eq = tt
  level_fine past (i ▸ gs) b k res low eq =
      let R = ran i gs (declarations fs) here (seeing outside past) b k res eq in (
        holds_of _ _ R.e (head_reach E past b (head_of i) low.0.operands) R.expands R.h R.resolves,
        level_fine (onward i (seeing outside past)).before gs R.e.k R.q.1 R.rs low.2 R.goes_on_lem,
      )

-- ---- names of the input in the table of step C

low_new : (lo hi : ℕ) (hs : List Head) (n : ℕ) → n ≤ top_name → Runs.AllNew lo hi hs → Planned.Absent n (heads_decls hs)
unfolding heads_decls fresh
low_new lo hi [] n l a = done
low_new lo hi (h ∷ hs) n l a = let x : ¬ (a.0.decl.name ≡ n) = λ e. omega (arith, a.0.named) in rw a.0.alone (x & low_new lo hi hs n l a.1)

table_low : (gs : Fields) (ds : List Declaration) (outside : Outside) (b space n : ℕ) → n ≤ top_name → OkR (λ t. is_just (find (decls_in t.0) space n) ≡ is_just (find (declarations gs) space n)) (expand_fields ds outside b gs)
unfolding expand_fields declarations
table_low end ds outside b space n l = refl
table_low (i ▸ gs) ds outside b space n l =
    bind_ok _ _ _ _ (Runs.head_grown ds outside b (head_of i)) (λ e g. bind_ok _ _ _ _ (table_low gs ds (onward i outside) e.k space n l) (λ t r.
    ap (λ (xs : List Declaration). is_just (find xs space n)) (Entries.field_decls _ _ e.inserted e.rows (head_of i).decls t.0)
    ∙ (just_append (heads_decls e.inserted) ((head_of i).decls ++ decls_in t.0) space n
    ∙ (ap₂ (λ (x y : Bool). x || y) (ap is_just (Planned.absent_find (heads_decls e.inserted) space n (low_new b e.k e.inserted n l g.1))) (just_append (head_of i).decls (decls_in t.0) space n)
    ∙ (ap (λ (x : Bool). is_just (find (head_of i).decls space n) || x) r ∙ sym (just_append (head_of i).decls (declarations gs) space n))))))

-- ---- the fields of a scope

-- what a field adds to the table
abbrev field_entries : Outside → Item → Expanded Head → List Entry → List Entry
field_entries o i e es =
    Rules.inserted_entries (o.before.row + suc (length (head_of i).decls)) e.inserted e.rows ++ (Rules.entered (suc o.before.row) (head_of i).decls ++ es)

expand_next : (i : Item) (gs : Fields) (ds : List Declaration) (outside : Outside) (b : ℕ) (e : Expanded Head) (t : List Entry × ℕ) → expand_head ds outside b (head_of i) ≡ ok e → expand_fields ds (onward i outside) e.k gs ≡ ok t
    → expand_fields ds outside b (i ▸ gs) ≡ ok (field_entries outside i e t.0, t.1)
unfolding expand_fields ◌>>=◌
expand_next i gs ds outside b e t p q = rw (p, q)

resolve_next : (i : Item) (gs : Fields) (ds : List Declaration) (here : Env) (outside : Outside) (b k : ℕ) (e : Expanded Head) (ins : List Head) (h : Head) (q : Item × ℕ) (rs : Fields × ℕ) → expand_head ds outside b (head_of i) ≡ ok e
    → resolve_inserted here outside e.inserted ≡ ok ins → resolve_head here outside e.now ≡ ok h → resolve_item i h here outside k ≡ ok q → resolve_fields gs ds here (onward i outside) e.k q.1 ≡ ok rs
    → resolve_fields (i ▸ gs) ds here outside b k ≡ ok (Rules.◌before◌ ins (q.0 ▸ rs.0), rs.1)
unfolding resolve_scope ◌>>=◌
resolve_next i gs ds here outside b k e ins h q rs p₁ p₂ p₃ p₄ p₅ = rw (p₁, p₂, p₃, p₄, p₅)

nothing : Env
nothing = record { name = 0; entries = []; before = [] }

self_like : LikeEnv nothing nothing
self_like = record { name = refl; finds = λ space n l. refl }

good_paths : (rules : RuleSet) (kind : ℕ) (i : Item) → GoodItem rules i kind → All PathsOk (head_of i).operands
good_paths rules kind i g = let G = own_good rules kind i g in operands_paths (head_of i).operands _ G.left G.uses

expand_inv : (i : Item) (gs : Fields) (ds : List Declaration) (outside : Outside) (b : ℕ) (e : Expanded Head) (t : List Entry × ℕ) → expand_head ds outside b (head_of i) ≡ ok e → expand_fields ds outside b (i ▸ gs) ≡ ok t
    → (t' : List Entry × ℕ) × (expand_fields ds (onward i outside) e.k gs ≡ ok t') × (decls_in t.0 ≡ heads_decls e.inserted ++ ((head_of i).decls ++ decls_in t'.0))
unfolding expand_fields
expand_inv i gs ds outside b e t p et =
    let s₁ = bind_inv (expand_fields ds (onward i outside) e.k gs) _ t (bind_known (expand_head ds outside b (head_of i)) _ e t p et) in
    (s₁.0, s₁.1, ap (λ (x : List Entry × ℕ). decls_in x.0) (sym (ok_same _ t s₁.2)) ∙ Entries.field_decls _ _ e.inserted e.rows (head_of i).decls s₁.0.0)

end_goes : (ds : List Declaration) (seen : List Served) (here : Env) (outside : Outside) (b b' k k' : ℕ) → (res : Fields × ℕ) × (resolve_fields (mark_fields end ds seen b' k').0 ds here outside b k ≡ ok res)
unfolding mark_scope resolve_scope
end_goes ds seen here outside b b' k k' = ((end, k), refl)

-- the next field, and a scope that a field holds
likes_on : (i i' : Item) (o₀ o : Outside) → (head_of i').decls ≡ (head_of i).decls → LikeOutside o₀ o → LikeOutside (onward i o₀) (onward i' o)
likes_on i i' o₀ o e L = record { early = L.early; before = ap₂ (λ (xs ys : List Declaration). xs ++ ys) L.before e; scopes = L.scopes }

likes_in : (h h' : Head) (here₀ here : Env) (o₀ o : Outside) → LikeEnv here₀ here → LikeOutside o₀ o → LikeOutside (inward h here₀ o₀) (inward h' here o)
likes_in h h' here₀ here o₀ o l L = record { early = L.early; before = refl; scopes = opened_like here₀ here o₀ o l L }

item_decls : (i : Item) (gs : Fields) (ds : List Declaration) (seen : List Served) (b k : ℕ) → (head_of (item i gs ds seen b k).0).decls ≡ (head_of i).decls
item_decls i gs ds seen b k = ap (λ (h : Head). h.decls) (marked_head i (now i gs ds seen b k).now k) ∙ Planned.head_decls ds seen b (head_of i)

abbrev Unnamed : List Declaration → Type 0
Unnamed ds = (space j : ℕ) → find ds space (fresh j) ≡ none

fields_absent : (fs : Fields) (j : ℕ) → LowFields fs → Planned.Absent (fresh j) (declarations fs)
unfolding declarations
fields_absent end j l = done
fields_absent (i ▸ fs) j l = all_append (head_of i).decls (declarations fs) (Planned.low_absent (head_of i).decls j l.0.decls) (fields_absent fs j l.2)

low_unnamed : (fs : Fields) → LowFields fs → Unnamed (declarations fs)
low_unnamed fs l space j = absent_find (declarations fs) space (fresh j) (fields_absent fs j l)

module _ (rules : RuleSet) where
  level_expands : (gs : Fields) (kind : ℕ) (ds : List Declaration) → Unnamed ds → (outside₀ outside : Outside) (likes : LikeOutside outside₀ outside) (start : ℕ) (under : Under start outside.scopes) (seen : List Served) (b₀ b b' k' : ℕ)
      → LowFields gs → GoodFields rules gs kind → FineFields gs ds outside₀.scopes → Late start seen → start ≤ b' → b ≡ b'
      → OkR (λ t₀. (t : List Entry × ℕ) × (expand_fields ds outside b (mark_fields gs ds seen b' k').0 ≡ ok t) × (t.1 ≡ insertions ds seen b' gs)) (expand_fields ds outside₀ b₀ gs)
  unfolding expand_fields
  level_expands end kind ds un outside₀ outside likes start under seen b₀ b b' k' l g f late h q =
      (([], b), subst (λ (x : Fields × ℕ). expand_fields ds outside b x.0 ≡ ok ([], b)) (sym (marked_end ds seen b' k')) (unfold expand_fields in refl), q ∙ sym (unfold insertions in refl))
  level_expands (i ▸ gs) kind ds un outside₀ outside likes start under seen b₀ b b' k' l g f late h q =
      let N = now i gs ds seen b' k' in
      let I = item i gs ds seen b' k' in
      let L = late_head start ds seen b' (head_of i) late h in
      bind_ok _ _ _ _ (head_go nothing nothing outside₀ outside likes self_like start under ds un seen b₀ b b' (head_of i) l.0.operands (good_paths rules kind i g.0) f.0 late h q) (λ e₀ G.
      bind_ok _ _ _ _ (level_expands gs kind ds un (onward i outside₀) (onward I.0 outside) (likes_on i I.0 outside₀ outside (item_decls i gs ds seen b' k') likes) start under N.seen e₀.k G.0.k N.k I.1 l.2 g.1 f.1 L.0 L.1 G.2.next) (λ t₀ T.
      let first : expand_head ds outside b (head_of I.0) ≡ ok G.0 = ap (expand_head ds outside b) (marked_head i N.now k') ∙ G.1 in (
        (field_entries outside I.0 G.0 T.0.0, T.0.1),
        subst (λ (x : Fields × ℕ). expand_fields ds outside b x.0 ≡ ok (field_entries outside I.0 G.0 T.0.0, T.0.1)) (sym (marked_next i gs ds seen b' k')) (expand_next I.0 (others i gs ds seen b' k').0 ds outside b G.0 T.0 first T.1),
        T.2 ∙ sym (marked_insertions i gs ds seen b' k'),
      )))

  plain_goes : (h₀ H h : Head) (here : Env) (outside : Outside) (k k' : ℕ) → k ≡ k' → (resolve_item (mark_item (plain h₀) H k').0 h here outside k ≡ ok (plain h, k)) × (k ≡ (mark_item (plain h₀) H k').1)
  unfolding mark_scope resolve_scope
  plain_goes h₀ H h here outside k k' q = (refl, q)

  holds_goes : (h₀ H h : Head) (s : Scope) (here : Env) (outside : Outside) (k k' : ℕ) (x : Scope × ℕ) → resolve_scope (mark_scope s k').0 (inward H here outside) k ≡ ok x → x.1 ≡ (mark_scope s k').1
      → (resolve_item (mark_item (holds h₀ s) H k').0 h here outside k ≡ ok (holds h x.0, x.1)) × (x.1 ≡ (mark_item (holds h₀ s) H k').1)
  unfolding mark_scope resolve_scope ◌>>=◌
  holds_goes h₀ H h s here outside k k' x e f = (rw e, f)

  holds_base : (h₀ h : Head) (s : Scope) (here : Env) (outside : Outside) (k : ℕ) (q : Item × ℕ) → resolve_item (holds h₀ s) h here outside k ≡ ok q → (x : Scope × ℕ) × (resolve_scope s (inward h₀ here outside) k ≡ ok x)
  unfolding resolve_scope
  holds_base h₀ h s here outside k q e = let s₁ = bind_inv (resolve_scope s (inward h₀ here outside) k) _ q e in (s₁.0, s₁.1)

  -- steps A and B, and then step C
  scope_goes : (kind name : ℕ) (fs : Fields) (outside : Outside) (k : ℕ) (x : List Declaration) (t : List Entry × ℕ) (r : Fields × ℕ) → Rules.distinct [] (declarations fs) ≡ ok x → expand_fields x outside k fs ≡ ok t
      → resolve_fields fs (declarations fs) (record { name = name; entries = t.0; before = [] }) outside k t.1 ≡ ok r → resolve_scope (scope kind name fs) outside k ≡ ok (scope kind name r.0, r.1)
  unfolding resolve_scope Rules.prepare ◌>>=◌
  scope_goes kind name fs outside k x t r p q u = rw (p, q, u)

  base_distinct : (kind name : ℕ) (fs : Fields) (outside : Outside) (k : ℕ) (q : Scope × ℕ) → resolve_scope (scope kind name fs) outside k ≡ ok q → (x : List Declaration) × (Rules.distinct [] (declarations fs) ≡ ok x) × (x ≡ declarations fs)
  unfolding resolve_scope Rules.prepare
  base_distinct kind name fs outside k q e =
      let s₁ = bind_inv (Rules.prepare name fs outside k) _ q e in
      let s₂ = bind_inv (Rules.distinct [] (declarations fs)) _ s₁.0 s₁.1 in
      (s₂.0, s₂.1, holds_of _ _ s₂.0 (Runs.distinct_same [] (declarations fs)) s₂.1)

  mutual
    unfolding head_of

    scope_go : (s : Scope) (outside₀ outside : Outside) (likes : LikeOutside outside₀ outside) (k₀ k : ℕ) (q₀ : Scope × ℕ) → LowScope s → GoodScope rules s → Under k outside.scopes → resolve_scope s outside₀ k₀ ≡ ok q₀
        → (q : Scope × ℕ) × (resolve_scope (mark_scope s k).0 outside k ≡ ok q)
    scope_go (scope kind name fs) outside₀ outside likes k₀ k q₀ l g under eq =
        let X = entered kind name fs outside₀ k₀ q₀ (low_fields fs l.1) eq in
        let D = base_distinct kind name fs outside₀ k₀ q₀ eq in
        let fine = level_fine X.closed outside₀.before fs k₀ X.k' (X.out', X.k'') l.1 X.resolves in
        let T = holds_of _ _ X.t (level_expands fs kind (declarations fs) (low_unnamed fs l.1) outside₀ outside likes k under [] k₀ k k (inside fs k) l.1 g fine done (omega arith) refl) X.expands in
        let here : Env = record { name = name; entries = T.0.0; before = [] } in
        let L : LikeFields (k + length (flatten (scope kind name fs))) fs (marks fs k).0 =
        (subst (λ (x : Scope × ℕ). LikeScope (k + length (flatten (scope kind name fs))) (scope kind name fs) x.0) (scope_marks_lem kind name fs k) (scope_like (scope kind name fs) k)).2 in
        let same : declarations (marks fs k).0 ≡ declarations fs = Marks.like_declarations _ fs (marks fs k).0 L in
        let decl' : DeclFields (marks fs k).0 = Marks.like_declared_fields _ fs (marks fs k).0 L (low_fields fs l.1) in
        let like : LikeEnv X.here here =
        record {
          name = sym X.named;
          finds = λ space n h. (holds_of _ _ T.0 (table_low (marks fs k).0 (declarations fs) outside k space n h) T.1 ∙ ap (λ (ds : List Declaration). is_just (find ds space n)) same)
              ∙ sym (ap (λ (es : List Entry). is_just (find (decls_in es) space n)) X.entries ∙ holds_of _ _ X.t (table_low fs (declarations fs) outside₀ k₀ space n h) X.expands);
        } in
        let around : Under (inside fs k) (here ∷ outside.scopes) =
        under_next (inside fs k) here outside.scopes
        (λ space j h. absent_find (decls_in T.0.0) space (fresh j) ((holds_of _ _ T.0 (table_absent (marks fs k).0 (declarations fs) outside k j decl') T.1).1 (omega (arith, T.2))))
        (λ d space j h. under d space j (omega (arith, late_insertions k (declarations fs) [] k fs done (omega arith)))) in
        let F = fields_go fs kind (declarations fs) (low_unnamed fs l.1) X.here here outside₀ outside likes like k under [] k₀ X.k' k k T.0.1 (inside fs k) (X.out', X.k'') T.0 l.1 g fine done (omega arith) refl T.2 around X.resolves T.1 (λ space n h. h) done in
        let run : resolve_fields (marks fs k).0 (declarations (marks fs k).0) here outside k T.0.1 ≡ ok F.0 = subst (λ (ds : List Declaration). resolve_fields (marks fs k).0 ds here outside k T.0.1 ≡ ok F.0) (sym same) F.1 in
        let expands : expand_fields D.0 outside k (marks fs k).0 ≡ ok T.0 = subst (λ (ds : List Declaration). expand_fields ds outside k (marks fs k).0 ≡ ok T.0) (sym D.2) T.1 in
        let R = scope_goes kind name (marks fs k).0 outside k D.0 T.0 F.0 (subst (λ (ds : List Declaration). Rules.distinct [] ds ≡ ok D.0) (sym same) D.1) expands run in
        ((scope kind name F.0.0, F.0.1), subst (λ (x : Scope × ℕ). resolve_scope x.0 outside k ≡ ok (scope kind name F.0.0, F.0.1)) (sym (scope_marks_lem kind name fs k)) R)

    fields_go : (gs : Fields) (kind : ℕ) (ds : List Declaration) → Unnamed ds → (here₀ here : Env) (outside₀ outside : Outside) (likes : LikeOutside outside₀ outside) (like : LikeEnv here₀ here) (start : ℕ) (under : Under start outside.scopes) (seen : List Served)
        (b₀ k₀ b b' k k' : ℕ) (res₀ : Fields × ℕ) (t : List Entry × ℕ) → LowFields gs → GoodFields rules gs kind → FineFields gs ds outside₀.scopes → Late start seen → start ≤ b' → b ≡ b' → k ≡ k' → Under k' (here ∷ outside.scopes)
        → resolve_fields gs ds here₀ outside₀ b₀ k₀ ≡ ok res₀ → expand_fields ds outside b (mark_fields gs ds seen b' k').0 ≡ ok t
        → ((space n : ℕ) → is_just (find (decls_in t.0) space n) ≡ true → is_just (find (table_of here) space n) ≡ true) → All (λ m. is_just (find (table_of here) m.space (fresh m.k)) ≡ true) seen
        → (res : Fields × ℕ) × (resolve_fields (mark_fields gs ds seen b' k').0 ds here outside b k ≡ ok res)
    fields_go end kind ds un here₀ here outside₀ outside likes like start under seen b₀ k₀ b b' k k' res₀ t l g f late h q u around eq et sub held = end_goes ds seen here outside b b' k k'
    fields_go (i ▸ gs) kind ds un here₀ here outside₀ outside likes like start under seen b₀ k₀ b b' k k' res₀ t l g f late h q u around eq et sub held =
        let N = now i gs ds seen b' k' in
        let I = item i gs ds seen b' k' in
        let R₀ = ran i gs ds here₀ outside₀ b₀ k₀ res₀ eq in
        let L = late_head start ds seen b' (head_of i) late h in
        let G = holds_of _ _ R₀.e (head_go here₀ here outside₀ outside likes like start under ds un seen b₀ b b' (head_of i) l.0.operands (good_paths rules kind i g.0) f.0 late h q) R₀.expands in
        let first : expand_head ds outside b (head_of I.0) ≡ ok G.0 = ap (expand_head ds outside b) (marked_head i N.now k') ∙ G.1 in
        let Y = expand_inv I.0 (others i gs ds seen b' k').0 ds outside b G.0 t first (subst (λ (x : Fields × ℕ). expand_fields ds outside b x.0 ≡ ok t) (marked_next i gs ds seen b' k') et) in
        let sub' : (space n : ℕ) → is_just (find (heads_decls G.0.inserted ++ ((head_of I.0).decls ++ decls_in Y.0.0)) space n) ≡ true → is_just (find (table_of here) space n) ≡ true = λ space n e. sub space n (subst (λ (x : List Declaration). is_just (find x space n) ≡ true) (sym Y.2) e) in
        let left = sub_left here₀ here outside₀ outside likes like start under ds un (heads_decls G.0.inserted) ((head_of I.0).decls ++ decls_in Y.0.0) sub' in
        let right = sub_right here₀ here outside₀ outside likes like start under ds un (heads_decls G.0.inserted) ((head_of I.0).decls ++ decls_in Y.0.0) sub' in
        let rest = sub_right here₀ here outside₀ outside likes like start under ds un (head_of I.0).decls (decls_in Y.0.0) right in
        let A = G.2.goes left (R₀.new, R₀.adds) in
        let H = G.2.pairs left held (R₀.h, R₀.resolves) in
        let Q = item_go i kind N.now R₀.h H.0 here₀ here outside₀ outside likes like k₀ k k' R₀.q l.1 g.0 u around R₀.items in
        let F = fields_go gs kind ds un here₀ here (onward i outside₀) (onward I.0 outside) (likes_on i I.0 outside₀ outside (item_decls i gs ds seen b' k') likes) like start under N.seen R₀.e.k R₀.q.1 G.0.k N.k Q.0.1 I.1 R₀.rs Y.0 l.2 g.1 f.1 L.0 L.1 G.2.next Q.2
        (λ d space j e. around d space j (omega (arith, item_grows i N.now k'))) R₀.goes_on_lem Y.1 rest (G.2.held left held) in (
          (Rules.◌before◌ A.0 (Q.0.0 ▸ F.0.0), F.0.1),
          subst (λ (x : Fields × ℕ). resolve_fields x.0 ds here outside b k ≡ ok (Rules.◌before◌ A.0 (Q.0.0 ▸ F.0.0), F.0.1)) (sym (marked_next i gs ds seen b' k'))
              (resolve_next I.0 (others i gs ds seen b' k').0 ds here outside b k G.0 A.0 H.0 Q.0 F.0 first A.1 H.1 Q.1 F.1),
        )

    item_go : (i : Item) (kind : ℕ) (H h₀ h : Head) (here₀ here : Env) (outside₀ outside : Outside) (likes : LikeOutside outside₀ outside) (like : LikeEnv here₀ here) (k₀ k k' : ℕ) (q₀ : Item × ℕ) → LowItem i → GoodItem rules i kind
        → k ≡ k' → Under k' (here ∷ outside.scopes) → resolve_item i h₀ here₀ outside₀ k₀ ≡ ok q₀ → (q : Item × ℕ) × (resolve_item (mark_item i H k').0 h here outside k ≡ ok q) × (q.1 ≡ (mark_item i H k').1)
    item_go (plain h₁) kind H h₀ h here₀ here outside₀ outside likes like k₀ k k' q₀ l g u around eq = let P = plain_goes h₁ H h here outside k k' u in ((plain h, k), P.0, P.1)
    item_go (holds h₁ s) kind H h₀ h here₀ here outside₀ outside likes like k₀ k k' q₀ l g u around eq =
        let X = holds_base h₁ h₀ s here₀ outside₀ k₀ q₀ eq in
        let S = scope_go s (inward h₁ here₀ outside₀) (inward H here outside) (likes_in h₁ H here₀ here outside₀ outside like likes) k₀ k' X.0 l g.3 (under_opened k' here outside around) X.1 in
        let good = Marks.like_well _ rules s (mark_scope s k').0 (scope_like s k') g.3 in
        let next : S.0.1 ≡ (mark_scope s k').1 = (SharedOperands.scope_right rules s (inward H here outside) k' S.0 l good (under_opened k' here outside around) S.1).0 in
        let P = holds_goes h₁ H h s here outside k k' S.0 (subst (λ (x : ℕ). resolve_scope (mark_scope s k').0 (inward H here outside) x ≡ ok S.0) (sym u) S.1) next in
        ((holds h S.0.0, S.0.1), P.0, P.1)

  -- For every well-formed tree of an input that the steps accept, they accept what the planner makes of it.
  pub propose_goes : (s : Scope) (r : Scope × ℕ) → LowScope s → GoodScope rules s → resolve rules s ≡ ok r → (q : Scope × ℕ) × (propose rules s ≡ ok q)
  unfolding resolve propose mark
  propose_goes s r l g e = scope_go s (at_root rules []) (at_root rules []) (record { early = refl; before = refl; scopes = nowhere }) 0 0 r l g under_root e
