-- Condition 4 of the checker holds of what the resolver writes: step C looked names up in the tables that the output has.
use Rattle.std.specs.Prelude.{◌≡◌, Bool, ◌&&◌, ◌||◌, not, leb}
use Rattle.std.proofs.Math.Path.{refl, ap, subst}
use Rattle.std.proofs.Common.{sym, ◌∙◌}
use Rattle.std.proofs.Math.Bool.{true, false}
use Rattle.std.proofs.Math.Option
use Rattle.std.proofs.Math.Option.{Option, none, some}
use mathlib.Core.List.{List, [], ◌∷◌, map}
use Prim.Native.Nat.{ℕ, suc, ◌+◌, ◌≤◌}
use native.Mathlib.Omega.{arith}
use Rattle.std.proofs.Math.Dec.{eqb}
use Rattle.std.proofs.Math.ListN.{length}
use Rattle.rules.specs.Tools.{when◌then◌else◌, only, ◌then◌, is_just, is_in, ◌or_else◌}
use Rattle.rules.specs.Versions.{RuleSet, top_name}
use Rattle.rules.specs.Rows.{Index, Num, Id}
use Rattle.rules.specs.Tree.{Declaration, Operand, ref, outer, case, Head, Scope, scope, Fields, end, ◌▸◌, Item, plain, holds, head_of, item_rows, with_operands}
use Rattle.rules.specs.Shapes
use Rattle.rules.specs.Shapes.{paths_ok, here_only}
use Rattle.rules.specs.Good.{GoodHead, GoodScope, GoodFields, GoodItem}
use Rattle.rules.specs.Rules
use Rattle.rules.specs.Rules.{Result, ok, ◌>>=◌, Entry, decls_in, Env, table_of, Before, Outside, at_root, onward, inward, opened, find, fresh, walk, declarations, Expanded, expand_operand, expand_operands, expand_head, path_aliases, export_alias, outer_alias, number_in, resolve_outer, resolve_operands, resolve_head, resolve_inserted, resolve_scope, resolve_fields, resolve_item, ◌before◌, resolve}
use Rattle.rules.specs.Readings
use Rattle.rules.specs.Readings.{is_inserted, level, Spot, inserted, standings, first_named, of_space}
use Rattle.checking.specs.Check
use Rattle.checking.specs.Check.{ref_number, outer_numbers, found, same, same_pair, reached, through_outer, through_export, through_paths, instance_space, table, name_right, ref_right, ref_now_right, operand_right, not_right, head_operands, scope_operands, fields_operands, item_operands, condition4}
use Rattle.rules.specs.Laws.ToolLaws.{if_ok_lem, or_cases, eqb_same, eqb-false, leb_le, leb-false, All, done, ◌&◌, all_left, all_right}
use Rattle.rules.specs.Laws.Results.{OkR, bind_any, bind_ok, if_both, holds_of, bind_inv, no_result, ok_same}
use Rattle.rules.specs.Laws.Meaning.Names.{LowDecls, LowOperand, LowOperands, LowScope, LowFields, LowItem, DeclFields, low_fields}
use Rattle.rules.proofs.Laws.Meaning.Runs
use Rattle.rules.proofs.Laws.Meaning.Runs.{seeing, Ran, ran, ran_end}
use Rattle.rules.proofs.Laws.Meaning.Lookups
use Rattle.rules.proofs.Laws.Meaning.Lookups.{in_heads, Found}
use Rattle.rules.proofs.Laws.Meaning.StepC.{named_number, alias_resolved}
use Rattle.rules.proofs.Laws.Meaning.Agree
use Rattle.rules.proofs.Laws.Output.Numbers.{Bare, AllBare, here_only_parts, operands_bare}
use Rattle.rules.proofs.Laws.Output.Well.{own_good}
use Rattle.checking.proofs.Laws.PathCounts.{PathsOk, operands_paths}
use Rattle.checking.proofs.Laws.OwnAliases.{Rising, head_rising}
use Rattle.checking.proofs.Laws.Plainly.{plain_of, plain_number, plain_walk, plain_named, plain_nth, never_late}

-- ---- step C of one operand

pub data One (here : Env) (outside : Outside) (fz : ℕ) : (was now : Operand) → Type 0 where
  one_ref : {space : ℕ} {at : Index} {paths : List ℕ} {z : ℕ} (n : ℕ) → number_in here.entries space at z ≡ ok n → One here outside fz (ref space at paths z) (ref space (Num n) paths z)
  one_outer : {space : ℕ} {up at : Index} {z : ℕ} {o : Operand} → resolve_outer outside.early (opened here outside) fz space up at z ≡ ok o → One here outside fz (outer space up at z) o
  one_case : {name z : ℕ} → One here outside fz (case name z) (case name z)

-- the first of several, and the others
pub record Ones (here : Env) (outside : Outside) (fz : ℕ) (o : Operand) (os os' : List Operand) : Type 0 where
  pub seen : List ℕ
  pub now : Operand
  pub rest : List Operand
  pub first : One here outside fz o now
  pub others : resolve_operands here outside fz seen os ≡ ok rest
  pub are : now ∷ rest ≡ os'

module _ (here : Env) (outside : Outside) where
  pub ones : (fz : ℕ) (seen : List ℕ) (o : Operand) (os os' : List Operand) → resolve_operands here outside fz seen (o ∷ os) ≡ ok os' → Ones here outside fz o os os'
  unfolding resolve_operands when◌then◌else◌
  ones fz seen (ref space at paths z) os os' e =
      let s₁ = bind_inv (number_in here.entries space at z) _ os' e in
      let s₂ = bind_inv (resolve_operands here outside fz seen os) _ os' s₁.2 in
      record { seen = seen; now = _; rest = s₂.0; first = one_ref s₁.0 s₁.1; others = s₂.1; are = ok_same _ os' s₂.2 }
  ones fz seen (outer space up at z) os os' e =
      let s₁ = bind_inv (resolve_outer outside.early (opened here outside) fz space up at z) _ os' e in
      let s₂ = bind_inv (resolve_operands here outside fz seen os) _ os' s₁.2 in
      record { seen = seen; now = _; rest = s₂.0; first = one_outer s₁.1; others = s₂.1; are = ok_same _ os' s₂.2 }
  ones fz seen (case name z) os os' e = go (not (eqb name 0) && is_in name seen) e
    where
      go : (b : Bool) → (when b then Result.refused Rules.case_twice z else (resolve_operands here outside fz (name ∷ seen) os >>= λ os'. ok (case name z ∷ os'))) ≡ ok os' → Ones here outside fz (case name z) os os'
      go true e = no_result Rules.case_twice z os' e
      go false e =
          let s₂ = bind_inv (resolve_operands here outside fz (name ∷ seen) os) _ os' e in
          record { seen = name ∷ seen; now = _; rest = s₂.0; first = one_case; others = s₂.1; are = ok_same _ os' s₂.2 }

-- ---- numbers and pairs that are the same

same_self : (n : ℕ) → same (some n) (some n) ≡ true
unfolding same
same_self n = eqb_same n

pair_self : (x : ℕ × ℕ) → same_pair (some x) (some x) ≡ true
unfolding same_pair
pair_self x = rw (eqb_same x.0, eqb_same x.1)

-- ---- OUTER: the place of its FIELD matters to refusals alone, and so do the order of declarations and their rows

found_any : {A : Type 0} (o : Option A) (n : Rules.Refusal) (z z' : ℕ) (a : A) → Rules.or_refused o n z ≡ ok a → Rules.or_refused o n z' ≡ ok a
unfolding Rules.or_refused
found_any none n z z' a e = no_result n z a e
found_any (some x) n z z' a e = e

up_any : (es : List Env) (up : Index) (z z' d : ℕ) → Rules.up_number es up z ≡ ok d → Rules.up_number (map plain_of es) up z' ≡ ok d
unfolding Rules.up_number
up_any es (Num n) z z' d e = e
up_any es (Id name) z z' d e = rw (plain_named es name) (found_any (Rules.named es name) Rules.no_such_scope z z' d e)

far_any : (es : List Env) (n z z' : ℕ) (x : Env) → Rules.or_refused (Rules.nth es n) Rules.too_far z ≡ ok x → Rules.or_refused (Rules.nth (map plain_of es) n) Rules.too_far z' ≡ ok (plain_of x)
far_any es n z z' x e = rw (plain_nth es n) (go (Rules.nth es n) e)
  where
    go : (o : Option Env) → Rules.or_refused o Rules.too_far z ≡ ok x → Rules.or_refused (Option.map plain_of o) Rules.too_far z' ≡ ok (plain_of x)
    go none e = unfold Rules.or_refused in no_result Rules.too_far z x e
    go (some y) e = unfold Rules.or_refused in ap (λ (v : Env). ok (plain_of v)) (ok_same y x e)

-- what it gives: two numbers, wherever its FIELD stands
abbrev Outered : List Env → (space : ℕ) (up at : Index) (z : ℕ) → Operand → Type 0
Outered es space up at z o = (x : ℕ × ℕ) × (outer_numbers o ≡ some x) × (resolve_outer false (map plain_of es) 0 space up at z ≡ ok o)

outer_named : (early : Bool) (es : List Env) (fz space : ℕ) (up at : Index) (z : ℕ) (o : Operand) → Rules.outer_numbers early es fz space up at z ≡ ok o
    → (x : ℕ × ℕ) × (outer_numbers o ≡ some x) × (Rules.outer_numbers false (map plain_of es) 0 space up at z ≡ ok o)
unfolding Rules.outer_numbers outer_numbers Rules.in_time when◌then◌else◌ ◌>>=◌
outer_named early es fz space up at z o e =
    let s₁ = bind_inv (Rules.up_number es up fz) _ o e in
    let s₂ = bind_inv (Rules.or_refused (Rules.nth es s₁.0) Rules.too_far fz) _ o s₁.2 in
    let s₃ = bind_inv (Rules.in_time (Rules.late_index early s₂.0 space at) z) _ o s₂.2 in
    let s₄ = bind_inv (number_in s₂.0.entries space at z) _ o s₃.2 in (
      (s₁.0, s₄.0),
      ap outer_numbers (sym (ok_same _ o s₄.2)),
      rw (up_any es up fz 0 s₁.0 s₁.1, far_any es s₁.0 fz 0 s₂.0 s₂.1, never_late (plain_of s₂.0) space at, plain_number s₂.0 space at z, s₄.1) s₄.2,
    )

outer_any : (early : Bool) (es : List Env) (fz space : ℕ) (up at : Index) (z : ℕ) (o : Operand) → resolve_outer early es fz space up at z ≡ ok o → Outered es space up at z o
unfolding resolve_outer outer_numbers
outer_any early es fz space (Num d) (Num n) z o e = ((d, n), ap outer_numbers (sym (ok_same _ o e)), e)
outer_any early es fz space (Num d) (Id name) z o e = outer_named early es fz space (Num d) (Id name) z o e
outer_any early es fz space (Id name) at z o e = outer_named early es fz space (Id name) at z o e

-- ---- in a scope of a run

-- what becomes of an alias of an export in step C
pub export_resolved : (here : Env) (outside : Outside) (code space new from : ℕ) (at : Index) (name z : ℕ) (h : Head)
    → resolve_head here outside (export_alias code space new from at name z) ≡ ok h → (m : ℕ) × (number_in here.entries from at z ≡ ok m) × (export_alias code space new from (Num m) name z ≡ h)
unfolding resolve_head resolve_operands export_alias with_operands
export_resolved here outside code space new from at name z h e =
    let s₁ = bind_inv _ _ h e in
    let s₂ = bind_inv (number_in here.entries from at z) _ s₁.0 s₁.1 in
    let s₃ = bind_inv (ok []) _ s₁.0 s₂.2 in
    let nil : [] ≡ s₃.0 = ok_same _ _ s₃.1 in
    let os : ref from (Num s₂.0) [] z ∷ [] ≡ s₁.0 = ap (λ (l : List Operand). ref from (Num s₂.0) [] z ∷ l) nil ∙ ok_same _ _ s₃.2 in
    (s₂.0, s₂.1, ap (with_operands (export_alias code space new from at name z)) os ∙ ok_same _ h s₁.2)

-- more than one PATH is of a space from 7 up, which may have any number
pub high_space : (space count : ℕ) → paths_ok space (suc (suc count)) ≡ true → leb 7 space ≡ true
unfolding paths_ok
high_space space count e = or_cases (leb 7 space) (leb (suc (suc count)) 1) e (λ t. t) (λ t. let l = leb_le (suc (suc count)) 1 t in absurd (omega arith))

pub high_any : (space count : ℕ) → leb 7 space ≡ true → paths_ok space count ≡ true
unfolding paths_ok
high_any space count t = rw t

-- a scope of a run: its fields, what lies outside the first of them, its table of step C, and its output
pub record Closed (fs : Fields) (outside : Outside) (here : Env) (out' : Fields) : Type 0 where
  pub table : declarations out' ≡ table_of here
  pub same_first : (space name : ℕ) → name ≤ top_name → first_named (standings 0 out') space name ≡ first_named (standings 0 fs) space name

module _ {fs : Fields} {outside : Outside} {here : Env} {out' : Fields} (E : Closed fs outside here out') where
  -- this outer alias is what its name means in the output
  abbrev pub Standing : (space j : ℕ) (at : ℕ × ℕ) (z : ℕ) → Type 0
  Standing space j at z = first_named (standings 0 out') space (fresh j) ≡ some (inserted (outer_alias space (fresh j) at.0 at.1 z))

  -- An operand of the input, and the one that was worked on: the same, or the alias of another reference to that declaration.
  pub data As : (was ran : Operand) → Type 0 where
    itself : {o : Operand} → LowOperand o → As o o
    served : {space name z : ℕ} (j z₀ : ℕ) (at : ℕ × ℕ) → name ≤ top_name → find (declarations fs) space name ≡ none → walk outside.scopes 1 space name ≡ some at
        → walk outside.scopes 1 space (fresh j) ≡ none → Standing space j at z₀ → As (ref space (Id name) [] z) (ref space (Id (fresh j)) [] z)

  pub data AllAs : (was ran : List Operand) → Type 0 where
    no_more : AllAs [] []
    also : {w o : Operand} {ws os : List Operand} → As w o → AllAs ws os → AllAs (w ∷ ws) (o ∷ os)

  pub all_same_lem : (os : List Operand) → LowOperands os → AllAs os os
  all_same_lem [] l = no_more
  all_same_lem (o ∷ os) l = also (itself l.0) (all_same_lem os l.1)

-- at a field of it, before which `seen` stands
module _ {fs : Fields} {outside : Outside} {here : Env} {out' : Fields} (E : Closed fs outside here out') (seen : Before) where
  abbrev pub there : Outside
  there = seeing outside seen

  -- the scopes around it, as the checker sees them
  abbrev pub beyond : List Env
  beyond = map plain_of outside.scopes

  -- where a name stands in the output, and as what
  pub record Placed (space name : ℕ) (h : Head) : Type 0 where
    pub h' : Head
    pub resolves : resolve_head here there h ≡ ok h'
    pub first : first_named (standings 0 out') space name ≡ some (inserted h')

  abbrev pub PlacedHead : Head → Type 0
  PlacedHead h = (d : Declaration) → h.decls ≡ d ∷ [] → Placed d.space d.name h

  -- its number reaches it
  first_reached : (space name n : ℕ) (h : Head) → first_named (standings 0 out') space name ≡ some (inserted h) → find (table_of here) space name ≡ some n → reached out' space n ≡ some h
  unfolding reached Check.if_added ◌then◌
  first_reached space name n h e f = rw (Agree.counted_first (level [] out') here space name n (inserted h) E.table f e)

  placed_reached : (space name n : ℕ) (h : Head) (P : Placed space name h) → find (table_of here) space name ≡ some n → reached out' space n ≡ some P.h'
  placed_reached space name n h P f = first_reached space name n P.h' P.first f

  -- an outer alias stays as it is
  pub placed_stands : (space j : ℕ) (at : ℕ × ℕ) (z : ℕ) → PlacedHead (outer_alias space (fresh j) at.0 at.1 z) → Standing E space j at z
  placed_stands space j at z P =
      let Q : Placed space (fresh j) (outer_alias space (fresh j) at.0 at.1 z) = P (record { space = space; name = fresh j; z = z }) (unfold outer_alias in refl) in
      Q.first ∙ ap (λ (h : Head). some (inserted h)) (sym (ok_same _ _ (sym (alias_resolved here there space (fresh j) at.0 at.1 z) ∙ Q.resolves)))

  -- an alias of an export
  record Exported (code space new from : ℕ) (at : Index) (name z n : ℕ) : Type 0 where
    m : ℕ
    number : number_in here.entries from at z ≡ ok m
    reaches : reached out' space n ≡ some (export_alias code space new from (Num m) name z)

  placed_export : (code space new from : ℕ) (at : Index) (name z n : ℕ) → PlacedHead (export_alias code space new from at name z) → find (table_of here) space new ≡ some n
      → Exported code space new from at name z n
  placed_export code space new from at name z n P f =
      let Q : Placed space new (export_alias code space new from at name z) = P (record { space = space; name = new; z = z }) (unfold export_alias in refl) in
      let X = export_resolved here there code space new from at name z Q.h' Q.resolves in
      record { m = X.0; number = X.1; reaches = placed_reached space new n _ Q f ∙ ap {B = Option Head} some (sym X.2) }

  through_export_lem : (code space new from m name z n : ℕ) → eqb code (when leb space 6 then 10 else 9) ≡ true → reached out' space n ≡ some (export_alias code space new from (Num m) name z)
      → through_export out' space name n ≡ some m
  unfolding through_export export_alias Check.first ref_number ◌then◌ only
  through_export_lem code space new from m name z n c e = rw (e, c, same_self name)

  -- the PATHs of a reference
  record Pathed (space : ℕ) (at : Index) (q : ℕ) (ps : List ℕ) (z n : ℕ) : Type 0 where
    m : ℕ
    through : through_paths out' space q ps n ≡ some m
    number : number_in here.entries (instance_space space) at z ≡ ok m

  last_path : (space : ℕ) (at : Index) (q z k n : ℕ) (b : Bool) → leb space 6 ≡ b
      → PlacedHead (when b then export_alias 10 space (fresh k) 6 at q z else export_alias 9 space (fresh k) 10 at q z) → find (table_of here) space (fresh k) ≡ some n → Pathed space at q [] z n
  unfolding when◌then◌else◌ through_paths instance_space
  last_path space at q z k n true e P f =
      let X = placed_export 10 space (fresh k) 6 at q z n P f in
      record { m = X.m; through = through_export_lem 10 space (fresh k) 6 X.m q z n (rw e) X.reaches; number = rw e X.number }
  last_path space at q z k n false e P f =
      let X = placed_export 9 space (fresh k) 10 at q z n P f in
      record { m = X.m; through = through_export_lem 9 space (fresh k) 10 X.m q z n (rw e) X.reaches; number = rw e X.number }

  high_instance : (space : ℕ) → leb 7 space ≡ true → instance_space space ≡ 10
  unfolding instance_space when◌then◌else◌
  high_instance space t = let l = leb_le 7 space t in rw (leb-false space 6 (omega arith))

  paths_through : (space : ℕ) (at : Index) (q : ℕ) (ps : List ℕ) (z k n : ℕ) → paths_ok space (suc (length ps)) ≡ true → All PlacedHead (path_aliases space at q ps z k)
      → find (table_of here) space (fresh (k + length ps)) ≡ some n → Pathed space at q ps z n
  unfolding path_aliases
  paths_through space at q [] z k n t (P & a) f =
      let same-k : k + 0 ≡ k = omega arith in
      last_path space at q z k n (leb space 6) refl P (ap (λ (x : ℕ). find (table_of here) space (fresh x)) (sym same-k) ∙ f)
  paths_through space at q (q' ∷ ps) z k n t (P & a) f =
      let same-k : suc k + length ps ≡ k + suc (length ps) = omega arith in
      let h = high_space space (length ps) t in
      let I = paths_through space (Id (fresh k)) q' ps z (suc k) n (high_any space (suc (length ps)) h) a (ap (λ (x : ℕ). find (table_of here) space (fresh x)) same-k ∙ f) in
      let X = placed_export 9 10 (fresh k) 10 at q z I.m P (named_number here.entries 10 (fresh k) z I.m (ap (λ (x : ℕ). number_in here.entries x (Id (fresh k)) z) (sym (high_instance space h)) ∙ I.number)) in
      record {
        m = X.m;
        through = next_path space q q' ps n I.m X.m I.through (through_export_lem 9 10 (fresh k) 10 X.m q z I.m (unfold when◌then◌else◌ in refl) X.reaches);
        number = ap (λ (x : ℕ). number_in here.entries x at z) (high_instance space h) ∙ X.number;
      }
    where
      next_path : (space q q' : ℕ) (ps : List ℕ) (n m m' : ℕ) → through_paths out' space q' ps n ≡ some m → through_export out' 10 q m ≡ some m' → through_paths out' space q (q' ∷ ps) n ≡ some m'
      next_path space q q' ps n m m' e e' = unfold through_paths ◌then◌ in rw (e, e')

  -- ---- one operand, with the claimed scope `c`

  module _ (kind : ℕ) where
    abbrev pub c : Scope
    c = scope kind here.name out'

    pub table_is : table c ≡ plain_of here
    unfolding table
    table_is = ap (Check.plainly here.name) E.table

    finds : (space name : ℕ) → find (declarations out') space name ≡ find (table_of here) space name
    finds space name = ap (λ (ds : List Declaration). find ds space name) E.table

    -- a number, or a name that is found here
    right_here : (space : ℕ) (at : Index) (z n : ℕ) → number_in here.entries space at z ≡ ok n → ref_right c beyond space at [] z n ≡ true
    unfolding ref_right name_right number_in
    right_here space (Num m) z n e = ap (λ (x : ℕ). eqb x m) (sym (ok_same m n e)) ∙ eqb_same m
    right_here space (Id name) z n e = rw (finds space name, named_number here.entries space name z n (unfold number_in in e)) (eqb_same n)

    -- a name that is not declared here is not in the table of step C
    pub not_here : (space name : ℕ) → name ≤ top_name → find (declarations fs) space name ≡ none → find (table_of here) space name ≡ none
    not_here space name low e =
        go (find (table_of here) space name)
        (rw (Lookups.standings_decls 0 out', E.table, first_none) at (Lookups.found (standings 0 out') space name))
      where
        first_none : first_named (standings 0 out') space name ≡ none
        first_none = E.same_first space name low ∙ spots (first_named (standings 0 fs) space name) (rw (Lookups.standings_decls 0 fs, e) at (Lookups.found (standings 0 fs) space name))
          where
            spots : (o : Option Spot) → Found (of_space (standings 0 fs) space) none o → o ≡ none
            spots none f = refl
            spots (some s) f = absurd f

        go : (o : Option ℕ) → Found (of_space (standings 0 out') space) o none → o ≡ none
        go none f = refl
        go (some n) f = absurd f

    outer_reached : (space new d i z n : ℕ) → reached out' space n ≡ some (outer_alias space new d i z) → through_outer out' space n ≡ some (d, i)
    unfolding through_outer outer_alias Check.first outer_numbers ◌then◌ only
    outer_reached space new d i z n e = rw e

    -- a name that is found further out
    right_outer : (space name z z₀ k n : ℕ) (at : ℕ × ℕ) → name ≤ top_name → find (declarations fs) space name ≡ none → walk outside.scopes 1 space name ≡ some at
        → Standing E space k at z₀ → find (table_of here) space (fresh k) ≡ some n → ref_right c beyond space (Id name) [] z n ≡ true
    unfolding ref_right name_right
    right_outer space name z z₀ k n at low e w P f =
        let reach : reached out' space n ≡ some (outer_alias space (fresh k) at.0 at.1 z₀) = first_reached space (fresh k) n _ P f in
        rw (finds space name, not_here space name low e, outer_reached space (fresh k) at.0 at.1 z₀ n reach, plain_walk outside.scopes 1 space name, w) (pair_self at)

    -- a reference with PATHs
    right_paths : (space : ℕ) (at : Index) (q : ℕ) (ps : List ℕ) (z n : ℕ) → Pathed space at q ps z n → ref_right c beyond space at (q ∷ ps) z n ≡ true
    unfolding ref_right found
    right_paths space at q ps z n P =
        rw (P.through, ap (λ (e : Env). number_in e.entries (instance_space space) at z) table_is ∙ (plain_number here (instance_space space) at z ∙ P.number)) (same_self P.m)

    ref_right_lem : (space : ℕ) (at at' : Index) (paths paths' : List ℕ) (z n z' : ℕ) → ref_right c beyond space at paths z n ≡ true → operand_right c beyond (ref space at paths z) (ref space (Num n) paths' z') ≡ true
    unfolding operand_right ref_number ref_now_right
    ref_right_lem space at at' paths paths' z n z' e = e

    outer_right : (fz space : ℕ) (up at : Index) (z : ℕ) (o : Operand) → resolve_outer outside.early (opened here there) fz space up at z ≡ ok o → operand_right c beyond (outer space up at z) o ≡ true
    unfolding operand_right found ◌then◌
    outer_right fz space up at z o e =
        let X = outer_any outside.early (opened here there) fz space up at z o e in
        rw (ap (λ (x : Env). resolve_outer false (x ∷ beyond) 0 space up at z) table_is ∙ X.2, X.1) (pair_self X.0)

    case_right : (name z : ℕ) (o : Operand) → operand_right c beyond (case name z) o ≡ true
    unfolding operand_right
    case_right name z o = refl

    -- an operand that step B left as it was
    left_right : (fz : ℕ) (o now : Operand) → Bare o → One here there fz o now → operand_right c beyond o now ≡ true
    left_right fz (ref space at [] z) now b (one_ref n e) = ref_right_lem space at at [] [] z n z (right_here space at z n e)
    left_right fz (ref space at (q ∷ ps) z) now b (one_ref n e) = absurd b
    left_right fz (outer space up at z) now b (one_outer e) = outer_right fz space up at z now e
    left_right fz (case name z) now b one_case = case_right name z (case name z)

    abbrev Right : (fz : ℕ) → Operand → Expanded Operand → Type 0
    Right fz o e = All PlacedHead e.inserted → (now : Operand) → One here there fz e.now now → operand_right c beyond o now ≡ true

    found_right : (fz space name z k : ℕ) (o : Option (ℕ × ℕ)) → name ≤ top_name → find (declarations fs) space name ≡ none → walk outside.scopes 1 space name ≡ o
        → OkR (Right fz (ref space (Id name) [] z)) (Rules.found_at space name z k o)
    unfolding Rules.found_at Rules.as_it_is Rules.through
    found_right fz space name z k none low e w = λ a now x. left_right fz (ref space (Id name) [] z) now tt x
    found_right fz space name z k (some at) low e w = if_both (OkR (Right fz (ref space (Id name) [] z))) _ _ _ (λ a now x. go a now x) tt
      where
        go : All PlacedHead (outer_alias space (fresh k) at.0 at.1 z ∷ []) → (now : Operand) → One here there fz (ref space (Id (fresh k)) [] z) now → operand_right c beyond (ref space (Id name) [] z) now ≡ true
        go (P & a) now (one_ref n f) = ref_right_lem space (Id name) (Id name) [] [] z n z (right_outer space name z z k n at low e w (placed_stands space k at z P) (named_number here.entries space (fresh k) z n f))

    same_right : (fz k : ℕ) (o : Operand) → LowOperand o → PathsOk o → OkR (Right fz o) (expand_operand (declarations fs) there k o)
    unfolding expand_operand Rules.as_it_is Rules.through when◌then◌else◌
    same_right fz k (ref space (Num n) [] z) l t = λ a now x. left_right fz (ref space (Num n) [] z) now tt x
    same_right fz k (ref space (Id name) [] z) l t = bind_any _ _ _ (λ u. go (find (declarations fs) space name) refl)
      where
        go : (o : Option ℕ) → find (declarations fs) space name ≡ o
            → OkR (Right fz (ref space (Id name) [] z)) (when is_just o then ok (Rules.as_it_is (ref space (Id name) [] z) k) else Rules.found_at space name z k (walk outside.scopes 1 space name))
        go none e = found_right fz space name z k (walk outside.scopes 1 space name) l.1 e refl
        go (some n) e = λ a now x. left_right fz (ref space (Id name) [] z) now tt x
    same_right fz k (ref space at (q ∷ ps) z) l t = if_both (OkR (Right fz (ref space at (q ∷ ps) z))) (is_in space (4 ∷ 6 ∷ [])) (Result.refused Rules.not_exported z) (ok (Rules.through space z (k + length ps) (path_aliases space at q ps z k))) tt go
      where
        go : All PlacedHead (path_aliases space at q ps z k) → (now : Operand) → One here there fz (ref space (Id (fresh (k + length ps))) [] z) now → operand_right c beyond (ref space at (q ∷ ps) z) now ≡ true
        go a now (one_ref n f) =
            ref_right_lem space at at (q ∷ ps) [] z n z (right_paths space at q ps z n (paths_through space at q ps z k n t a (named_number here.entries space (fresh (k + length ps)) z n f)))
    same_right fz k (outer space up at z) l t = λ a now x. left_right fz (outer space up at z) now tt x
    same_right fz k (case name z) l t = λ a now x. left_right fz (case name z) now tt x

    operand_right_lem : (fz k : ℕ) (w o : Operand) → As E w o → PathsOk o → OkR (Right fz w) (expand_operand (declarations fs) there k o)
    unfolding expand_operand Rules.as_it_is Rules.found_at when◌then◌else◌
    operand_right_lem fz k w o (itself l) t = same_right fz k o l t
    operand_right_lem fz k w o (served {space} {name} {z} j z₀ at low e found-out new P) t = rw new (bind_any _ _ _ (λ u. go (is_just (find (declarations fs) space (fresh j)))))
      where
        right_now : All PlacedHead [] → (now : Operand) → One here there fz (ref space (Id (fresh j)) [] z) now → operand_right c beyond (ref space (Id name) [] z) now ≡ true
        right_now a now (one_ref n f) = ref_right_lem space (Id name) (Id name) [] [] z n z (right_outer space name z z₀ j n at low e found-out P (named_number here.entries space (fresh j) z n f))

        go : (b : Bool) → OkR (Right fz (ref space (Id name) [] z)) (when b then ok (Rules.as_it_is (ref space (Id (fresh j)) [] z) k) else ok (Rules.as_it_is (ref space (Id (fresh j)) [] z) k))
        go true = right_now
        go false = right_now

    -- ---- the operands of a field

    right_next : (n : ℕ) (o w : Operand) (now was : List Operand) → operand_right c beyond w o ≡ true → not_right c beyond (suc n) now was ≡ none → not_right c beyond n (o ∷ now) (w ∷ was) ≡ none
    unfolding not_right when◌then◌else◌
    right_next n o w now was t e = rw t e

    right_end : (n : ℕ) (was : List Operand) → not_right c beyond n [] was ≡ none
    unfolding not_right
    right_end n was = refl

    -- those that step B left as they were
    kept_right : (fz : ℕ) (seen : List ℕ) (os os' : List Operand) (n : ℕ) → AllBare os → resolve_operands here there fz seen os ≡ ok os' → not_right c beyond n os' os ≡ none
    kept_right fz seen [] os' n b e = subst (λ (x : List Operand). not_right c beyond n x [] ≡ none) (none_resolved fz seen os' e) (right_end n [])
      where
        none_resolved : (fz : ℕ) (seen : List ℕ) (os' : List Operand) → resolve_operands here there fz seen [] ≡ ok os' → [] ≡ os'
        none_resolved fz seen os' e = unfold resolve_operands in ok_same [] os' e
    kept_right fz seen (o ∷ os) os' n b e =
        let X = ones here there fz seen o os os' e in
        subst (λ (x : List Operand). not_right c beyond n x (o ∷ os) ≡ none) X.are
        (right_next n X.now o X.rest os (left_right fz o X.now b.0 X.first) (kept_right fz X.seen os X.rest (suc n) b.1 X.others))

    abbrev AllRight : (fz : ℕ) → List Operand → Expanded (List Operand) → Type 0
    AllRight fz os e = All PlacedHead e.inserted → (seen : List ℕ) (os' : List Operand) (n : ℕ) → resolve_operands here there fz seen e.now ≡ ok os' → not_right c beyond n os' os ≡ none

    operands_right : (fz k : ℕ) (ws os : List Operand) → AllAs E ws os → All PathsOk os → OkR (AllRight fz ws) (expand_operands (declarations fs) there k os)
    unfolding expand_operands Rules.as_it_is
    operands_right fz k [] [] no_more t = λ a seen os' n e. kept_right fz seen [] os' n tt e
    operands_right fz k (w ∷ ws) (o ∷ os) (also x xs) (t & ts) =
        bind_ok _ _ _ _ (operand_right_lem fz k w o x t) (λ e f. bind_ok _ _ _ _ (operands_right fz e.k ws os xs ts) (λ es g. λ a seen os' n q.
        let X = ones here there fz seen e.now es.now os' q in
        subst (λ (x : List Operand). not_right c beyond n x (w ∷ ws) ≡ none) X.are
        (right_next n X.now w X.rest ws (f (all_left e.inserted es.inserted a) X.now X.first) (g (all_right e.inserted es.inserted a) X.seen X.rest (suc n) X.others))))
    operands_right fz k [] (o ∷ os) x4 t = elim x4 [ ]
    operands_right fz k (w ∷ ws) [] x4 t = elim x4 [ ]

    head_operands_lem : (fz n : ℕ) (h h₀ : Head) → not_right c beyond (suc n + length h.decls) h.operands h₀.operands ≡ none → head_operands c beyond n h h₀ ≡ none
    unfolding head_operands
    head_operands_lem fz n h h₀ e = e

    -- the operands of a field that is worked on
    pub resolved_operands : (h h' : Head) → resolve_head here there h ≡ ok h' → resolve_operands here there h.z [] h.operands ≡ ok h'.operands
    unfolding resolve_head with_operands
    resolved_operands h h' e =
        let s₁ = bind_inv (resolve_operands here there h.z [] h.operands) _ h' e in
        s₁.1 ∙ ap {B = Result (List Operand)} ok (ap (λ (x : Head). x.operands) (ok_same _ h' s₁.2))

    abbrev HeadRight : Head → Expanded Head → Type 0
    HeadRight h₀ e = All PlacedHead e.inserted → (h : Head) (n : ℕ) → resolve_head here there e.now ≡ ok h → head_operands c beyond n h h₀ ≡ none

    -- here_only_lem operands are those of the input
    head_right : (rules : RuleSet) (of k : ℕ) (w h₀ : Head) → AllAs E w.operands h₀.operands → (here_only h₀.code ≡ true → w.operands ≡ h₀.operands) → GoodHead rules of h₀
        → OkR (HeadRight w) (expand_head (declarations fs) there k h₀)
    unfolding expand_head Rules.as_it_is with_operands
    head_right rules of k w h₀ l s g =
        if_ok_lem (OkR (HeadRight w)) _ _ _
        (λ t a h n e. head_operands_lem 0 n h w (subst (λ (x : List Operand). not_right c beyond (suc n + length h.decls) h.operands x ≡ none) (sym (s t))
        (kept_right h₀.z [] h₀.operands h.operands _ (operands_bare h₀.operands _ g.left (here_only_parts rules h₀.code h₀.builtin h₀.decls t) g.uses) (resolved_operands h₀ h e))))
        (λ f. bind_ok _ _ _ _ (operands_right h₀.z k w.operands h₀.operands l (operands_paths h₀.operands _ g.left g.uses))
        (λ es p a h n e. head_operands_lem 0 n h w (p a [] h.operands _ (resolved_operands _ h e))))

  -- ---- where the fields that a field's operands need stand

  -- a fresh name from `lo` up that is first among these is first in the scope
  abbrev pub Lifts : (lo : ℕ) → List Readings.Standing → Type 0
  Lifts lo ss = (space j : ℕ) (s : Spot) → lo ≤ j → first_named ss space (fresh j) ≡ some s → first_named (standings 0 out') space (fresh j) ≡ some s

  has_own : (d : Declaration) → Lookups.has (d ∷ []) d.space d.name ≡ true
  unfolding Lookups.has
  has_own d = rw (eqb_same d.space, eqb_same d.name)

  has_other : (d : Declaration) (space name : ℕ) → ¬ (d.name ≡ name) → Lookups.has (d ∷ []) space name ≡ false
  unfolding Lookups.has
  has_other d space name h = rw (eqb-false d.name name h) (go (eqb d.space space))
    where
      go : (b : Bool) → (b && false) || false ≡ false
      go true = refl
      go false = refl

  first_own : (h : Head) (hs : List Head) (d : Declaration) → h.decls ≡ d ∷ [] → first_named (in_heads (h ∷ hs)) d.space d.name ≡ some (inserted h)
  unfolding when◌then◌else◌
  first_own h hs d e = rw (Lookups.first_of_heads h hs d.space d.name, e, has_own d)

  first_other : (h : Head) (hs : List Head) (d : Declaration) (space name : ℕ) → h.decls ≡ d ∷ [] → ¬ (d.name ≡ name) → first_named (in_heads (h ∷ hs)) space name ≡ first_named (in_heads hs) space name
  unfolding when◌then◌else◌
  first_other h hs d space name e n = rw (Lookups.first_of_heads h hs space name, e, has_other d space name n)

  placed_all : (lo hi : ℕ) (hs new : List Head) → Rising lo hs hi → resolve_inserted here there hs ≡ ok new → Lifts lo (in_heads new) → All PlacedHead hs
  unfolding resolve_inserted Shapes.first_name
  placed_all lo hi [] new rise e f = done
  placed_all lo hi (h ∷ hs) new rise e f =
      let s₀ = bind_inv (Rules.in_time (Rules.late_instance here there h.operands) h.z) _ new e in
      let s₁ = bind_inv (resolve_head here there h) _ new s₀.2 in
      let s₂ = bind_inv (resolve_inserted here there hs) _ new s₁.2 in
      let are : s₁.0 ∷ s₂.0 ≡ new = ok_same _ new s₂.2 in
      let decls : s₁.0.decls ≡ h.decls = (holds_of (Runs.SameDecls h) _ s₁.0 (Runs.head_same here there h) s₁.1).0 in
      go s₁.0 s₂.0 s₁.1 decls (subst (λ (x : List Head). Lifts lo (in_heads x)) (sym are) f)
      & placed_all (suc lo) hi hs s₂.0 rise.1 s₂.1 (later s₁.0 s₂.0 decls (subst (λ (x : List Head). Lifts lo (in_heads x)) (sym are) f))
    where
      go : (h' : Head) (hs' : List Head) → resolve_head here there h ≡ ok h' → h'.decls ≡ h.decls → Lifts lo (in_heads (h' ∷ hs')) → PlacedHead h
      go h' hs' q same_decls f d alone =
          let is : d.name ≡ fresh lo = ap (λ (x : List Declaration). Shapes.first_name x) (sym alone ∙ rise.0.alone) ∙ rise.0.named in
          let at-d : first_named (in_heads (h' ∷ hs')) d.space d.name ≡ some (inserted h') = first_own h' hs' d (same_decls ∙ alone) in
          record {
            h' = h';
            resolves = q;
            first = ap (λ (x : ℕ). first_named (standings 0 out') d.space x) is ∙ f d.space lo (inserted h') (omega arith) (ap (λ (x : ℕ). first_named (in_heads (h' ∷ hs')) d.space x) (sym is) ∙ at-d);
          }

      later : (h' : Head) (hs' : List Head) → h'.decls ≡ h.decls → Lifts lo (in_heads (h' ∷ hs')) → Lifts (suc lo) (in_heads hs')
      later h' hs' same_decls f space j s l e =
          let n : ¬ (rise.0.decl.name ≡ fresh j) = λ q. above lo j l (sym rise.0.named ∙ q) in
          f space j s (omega arith) (first_other h' hs' rise.0.decl space (fresh j) (same_decls ∙ rise.0.alone) n ∙ e)
        where
          above : (lo j : ℕ) → suc lo ≤ j → ¬ (fresh lo ≡ fresh j)
          above lo j l q = unfold fresh in omega arith

  -- ---- one field of the scope

  module _ (rules : RuleSet) (kind : ℕ) where
    module _ {i : Item} {gs : Fields} {b k : ℕ} {res : Fields × ℕ} (R : Ran i gs (declarations fs) here there b k res) (low : LowDecls (head_of i).decls) (m : ℕ) (f : Lifts b (standings m res.0)) where
      pub placed_new : All PlacedHead R.e.inserted
      placed_new =
          placed_all b R.e.k R.e.inserted R.new (holds_of _ _ R.e (head_rising (declarations fs) there b (head_of i)) R.expands) R.adds
          (λ space j s l q. f space j s l (ap (λ (ss : List Readings.Standing). first_named ss space (fresh j)) (Agree.ran_standings R low m) ∙ Lookups.first_within (in_heads R.new) _ space (fresh j) s q))

      pub lifts_on : Lifts R.e.k (standings (suc m) R.rs.0)
      lifts_on space j s l q = f space j s (omega (arith, Runs.ran_grows R)) (Agree.past_field R low m space j l ∙ q)

      pub ran_right : (n : ℕ) (w : Head) → AllAs E w.operands (head_of i).operands → (here_only (head_of i).code ≡ true → w.operands ≡ (head_of i).operands) → GoodHead rules kind (head_of i)
          → head_operands (c kind) beyond n R.h w ≡ none
      ran_right n w l s g = holds_of (HeadRight kind w) _ R.e (head_right kind rules kind b w (head_of i) l s g) R.expands placed_new R.h n R.resolves

    -- the inserted fields are passed over
    skip : (lo hi : ℕ) (hs : List Head) (gs : Fields) (w : Item) (was : Fields) → Runs.AllNew lo hi hs → ((n : ℕ) → fields_operands n gs (c kind) beyond (w ▸ was) ≡ none)
        → (n : ℕ) → fields_operands n (◌before◌ hs gs) (c kind) beyond (w ▸ was) ≡ none
    unfolding ◌before◌ scope_operands when◌then◌else◌ head_of
    skip lo hi [] gs w was a g n = g n
    skip lo hi (h ∷ hs) gs w was a g n = rw (Lookups.new_inserted lo hi h a.0) (skip lo hi hs gs w was a.1 g (n + length (item_rows (plain h))))

    own_next : (n : ℕ) (i w : Item) (now was : Fields) → is_inserted (head_of i) ≡ false → item_operands n i (c kind) beyond w ≡ none
        → fields_operands (n + length (item_rows i)) now (c kind) beyond was ≡ none → fields_operands n (i ▸ now) (c kind) beyond (w ▸ was) ≡ none
    unfolding scope_operands when◌then◌else◌ ◌or_else◌
    own_next n i w now was e p q = rw (e, p, q)

    -- a field that ran
    pub field_right : {i : Item} {gs : Fields} {b k : ℕ} {res : Fields × ℕ} (R : Ran i gs (declarations fs) here there b k res) → LowDecls (head_of i).decls → (w : Item) (was : Fields)
        → ((n : ℕ) → item_operands n R.q.0 (c kind) beyond w ≡ none) → ((n : ℕ) → fields_operands n R.rs.0 (c kind) beyond was ≡ none)
        → (n : ℕ) → fields_operands n res.0 (c kind) beyond (w ▸ was) ≡ none
    field_right {i} {gs} {b} {k} {res} R low w was p q n =
        subst (λ (x : Fields × ℕ). fields_operands n x.0 (c kind) beyond (w ▸ was) ≡ none) R.result
        (skip b R.e.k R.new (R.q.0 ▸ R.rs.0) w was (Runs.ran_new R)
        (λ m. own_next m R.q.0 w R.rs.0 was (Agree.stays_original R low) (p m) (q _)) n)

    pub plain_item : (n : ℕ) (h h₀ : Head) → head_operands (c kind) beyond n h h₀ ≡ none → item_operands n (plain h) (c kind) beyond (plain h₀) ≡ none
    unfolding scope_operands head_of
    plain_item n h h₀ e = e

    pub holds_item : (n : ℕ) (h h₀ : Head) (s t : Scope) → head_operands (c kind) beyond n h h₀ ≡ none → ((m : ℕ) → scope_operands m s (plain_of here ∷ beyond) t ≡ none)
        → item_operands n (holds h s) (c kind) beyond (holds h₀ t) ≡ none
    unfolding scope_operands ◌or_else◌
    holds_item n h h₀ s t e f = rw (e, table_is kind) (f _)

    pub no_fields : (n : ℕ) (was : Fields) → fields_operands n end (c kind) beyond was ≡ none
    unfolding scope_operands
    no_fields n was = refl

    pub scope_item : (n : ℕ) (was : Fields) (name : ℕ) → fields_operands (suc n) out' (c kind) beyond was ≡ none → scope_operands n (c kind) beyond (scope kind name was) ≡ none
    unfolding scope_operands
    scope_item n was name e = e

-- ---- the whole walk

pub record Entered (kind name : ℕ) (fs : Fields) (outside : Outside) (k : ℕ) (q : Scope × ℕ) : Type 0 where
  pub here : Env
  pub out' : Fields
  pub t : List Entry × ℕ
  pub k'' : ℕ
  pub expands : Rules.expand_fields (declarations fs) outside k fs ≡ ok t
  pub entries : here.entries ≡ t.0
  pub k' : ℕ
  pub next : k' ≡ t.1
  pub resolves : resolve_fields fs (declarations fs) here outside k k' ≡ ok (out', k'')
  pub closed : Closed fs outside here out'
  pub named : here.name ≡ name
  pub is : scope kind here.name out' ≡ q.0
  pub last : q.1 ≡ k''

named_same : (name : ℕ) (fs : Fields) (outside : Outside) (k : ℕ) (x : Env × ℕ) → Rules.prepare name fs outside k ≡ ok x → x.0.name ≡ name
unfolding Rules.prepare
named_same name fs outside k x eq =
    let s₁ = bind_inv (Rules.distinct [] (declarations fs)) _ x eq in
    let s₂ = bind_inv (Rules.expand_fields s₁.0 outside k fs) _ x s₁.2 in
    ap (λ (y : Env × ℕ). y.0.name) (sym (ok_same _ x s₂.2))

pub entered : (kind name : ℕ) (fs : Fields) (outside : Outside) (k : ℕ) (q : Scope × ℕ) → DeclFields fs → resolve_scope (scope kind name fs) outside k ≡ ok q → Entered kind name fs outside k q
unfolding resolve_scope
entered kind name fs outside k q low eq =
    let s₁ = bind_inv (Rules.prepare name fs outside k) _ q eq in
    let s₂ = bind_inv (resolve_fields fs (declarations fs) s₁.0.0 outside k s₁.0.1) _ q s₁.2 in
    let P = Runs.prepared name fs outside k s₁.0 s₁.1 in
    record {
      here = s₁.0.0;
      out' = s₂.0.0;
      t = P.0;
      k'' = s₂.0.1;
      expands = P.1;
      entries = P.2;
      k' = s₁.0.1;
      next = P.3;
      resolves = s₂.1;
      closed =
          record {
            table = Runs.table_is_output fs (declarations fs) s₁.0.0 outside k s₁.0.1 s₂.0 P.0 s₂.1 P.1 ∙ ap decls_in (sym P.2);
            same_first = λ space n l. Agree.first_same fs (declarations fs) s₁.0.0 outside k s₁.0.1 0 s₂.0 space n low l s₂.1;
          };
      named = named_same name fs outside k s₁.0 s₁.1;
      is = ap (λ (n : ℕ). scope kind n s₂.0.0) (named_same name fs outside k s₁.0 s₁.1) ∙ ap (λ (x : Scope × ℕ). x.0) (ok_same _ q s₂.2);
      last = ap (λ (x : Scope × ℕ). x.1) (sym (ok_same _ q s₂.2));
    }

pub plain_resolved : (h₀ h : Head) (here : Env) (outside : Outside) (k : ℕ) (q : Item × ℕ) → resolve_item (plain h₀) h here outside k ≡ ok q → plain h ≡ q.0
unfolding resolve_scope
plain_resolved h₀ h here outside k q e = ap (λ (x : Item × ℕ). x.0) (ok_same _ q e)

pub holds_resolved : (h₀ h : Head) (s : Scope) (here : Env) (outside : Outside) (k : ℕ) (q : Item × ℕ) → resolve_item (holds h₀ s) h here outside k ≡ ok q
    → (x : Scope × ℕ) × (resolve_scope s (inward h₀ here outside) k ≡ ok x) × (holds h x.0 ≡ q.0)
unfolding resolve_scope
holds_resolved h₀ h s here outside k q e =
    let s₁ = bind_inv (resolve_scope s (inward h₀ here outside) k) _ q e in (s₁.0, s₁.1, ap (λ (x : Item × ℕ). x.0) (ok_same _ q s₁.2))

module _ (rules : RuleSet) where
  mutual
    unfolding head_of

    scope_right : (s : Scope) (outside : Outside) (k : ℕ) (q : Scope × ℕ) → LowScope s → GoodScope rules s → resolve_scope s outside k ≡ ok q
        → (n : ℕ) → scope_operands n q.0 (map plain_of outside.scopes) s ≡ none
    scope_right (scope kind name fs) outside k q low g eq n =
        let X = entered kind name fs outside k q (low_fields fs low.1) eq in
        subst (λ (x : Scope). scope_operands n x (map plain_of outside.scopes) (scope kind name fs) ≡ none) X.is
        (scope_item X.closed outside.before rules kind n fs name
        (fields_right fs X.closed outside.before kind k X.k' (X.out', X.k'') 0 low.1 g X.resolves (λ space j s l e. e) (suc n)))

    fields_right : (gs : Fields) {fs : Fields} {outside : Outside} {here : Env} {out' : Fields} (E : Closed fs outside here out') (seen : Before) (kind b k : ℕ) (res : Fields × ℕ) (m : ℕ)
        → LowFields gs → GoodFields rules gs kind → resolve_fields gs (declarations fs) here (seeing outside seen) b k ≡ ok res → Lifts E seen b (standings m res.0)
        → (n : ℕ) → fields_operands n res.0 (c E seen kind) (map plain_of outside.scopes) gs ≡ none
    fields_right end {fs} {outside} {here} E seen kind b k res m low g eq f n =
        subst (λ (x : Fields × ℕ). fields_operands n x.0 (c E seen kind) (map plain_of outside.scopes) end ≡ none) (ran_end (declarations fs) here (seeing outside seen) b k res eq)
        (no_fields E seen rules kind n end)
    fields_right (i ▸ gs) {fs} {outside} {here} E seen kind b k res m low g eq f n =
        let R = ran i gs (declarations fs) here (seeing outside seen) b k res eq in
        field_right E seen rules kind R low.0.decls i gs
        (λ x. item_right i E seen kind R.h k R.q low.1 g.0
        (λ y. ran_right E seen rules kind R low.0.decls m f y (head_of i) (all_same_lem E (head_of i).operands low.0.operands) (λ t. refl) (own_good rules kind i g.0)) R.items x)
        (λ x. fields_right gs E (onward i (seeing outside seen)).before kind R.e.k R.q.1 R.rs (suc m) low.2 g.1 R.goes_on_lem (lifts_on E seen rules kind R low.0.decls m f) x) n

    item_right : (i : Item) {fs : Fields} {outside : Outside} {here : Env} {out' : Fields} (E : Closed fs outside here out') (seen : Before) (kind : ℕ) (h : Head) (k : ℕ) (q : Item × ℕ)
        → LowItem i → GoodItem rules i kind → ((n : ℕ) → head_operands (c E seen kind) (map plain_of outside.scopes) n h (head_of i) ≡ none) → resolve_item i h here (seeing outside seen) k ≡ ok q
        → (n : ℕ) → item_operands n q.0 (c E seen kind) (map plain_of outside.scopes) i ≡ none
    item_right (plain h₀) {outside = outside} {here = here} E seen kind h k q low g e eq n =
        subst (λ (x : Item). item_operands n x (c E seen kind) (map plain_of outside.scopes) (plain h₀) ≡ none) (plain_resolved h₀ h here (seeing outside seen) k q eq)
        (plain_item E seen rules kind n h h₀ (e n))
    item_right (holds h₀ s) {outside = outside} {here = here} E seen kind h k q low g e eq n =
        let X = holds_resolved h₀ h s here (seeing outside seen) k q eq in
        subst (λ (x : Item). item_operands n x (c E seen kind) (map plain_of outside.scopes) (holds h₀ s) ≡ none) X.2
        (holds_item E seen rules kind n h h₀ X.0.0 s (e n) (λ m. scope_right s (inward h₀ here (seeing outside seen)) k X.0 low g.3 X.1 m))

  pub passes_4 : (s : Scope) (q : Scope × ℕ) → LowScope s → GoodScope rules s → resolve rules s ≡ ok q → condition4 s q.0 ≡ none
  unfolding condition4 resolve
  passes_4 s q low g e = scope_right s (at_root rules []) 0 q low g e 0
