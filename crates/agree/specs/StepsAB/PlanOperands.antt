-- Step B at one operand: what `plan_ref_t` comes to is what the rules' `expand_operand` says.
use Rattle.std.specs.Prelude.{◌≡◌, Bool, ◌&&◌, ◌||◌, eqb, leb, Ok, Err, is_some}
use Rattle.std.proofs.Math.Path.{refl, sym}
use Rattle.std.proofs.Common.{ap, ◌∙◌, lt-ltb}
use Rattle.std.proofs.Math.Bool.{true, false, not}
use Rattle.std.proofs.Math.Option.{Option, none, some, map}
use mathlib.Core.List.{List, [], ◌∷◌, ◌++◌, append-nil}
use native.Mathlib.Omega.{arith}
use Prim.Native.Nat.{ℕ, suc, ◌+◌, ◌-◌, ◌%◌, ◌≤◌, ◌<◌}
use Rattle.std.proofs.Math.ListN.{length}
use Rattle.kit.specs.Pick.{pick}
use Rattle.kit.specs.Out.{◌&◌}
use Rattle.rules.specs.Tools.{when◌then◌else◌, is_just, is_in, ◌or_else◌}
use Rattle.rules.specs.Versions.{top_name}
use Rattle.rules.specs.Rows.{Index, Num, Id}
use Rattle.rules.specs.Tree.{Declaration, Operand, ref, Head}
use Rattle.rules.specs.Shapes.{FOUR, declared, first_name}
use Rattle.rules.specs.Rules.{number_of, carried_by, not_exported, not_outer, table_of, Outside, in_time, comes_later, comes_later_out, late_name, Result, refused, ok, ◌>>=◌, Env, find, walk, fresh, heads_decls, export_alias, outer_alias, path_aliases, Expanded, as_it_is, through, found_at, expand_operand}
use Rattle.rules.specs.Laws.ToolLaws.{snoc_append, length_snoc}
use Rattle.rules.specs.Laws.Meaning.Names.{LowOperand}
use Rattle.rules.specs.Laws.Results.{if_both, some_same, no_option}
use Rattle.rows.specs.RowAt.{as_index}
use Rattle.refusal.specs.declared.Refusal.{Refusal as Said}
use Rattle.refusal.specs.declared.Told.{Told}
use Rattle.refusal.specs.Refusals.{refusal_at, untold, of_space}
use Rattle.names.specs.Table.{Slot, slot_of, first_of, scope_at, between, find_in}
use Rattle.names.specs.Stands.{count, met_of, Envs, Below}
use Rattle.names.proofs.Storey.{envs_kept, envs_length, outward_walk}
use Rattle.late.specs.Late.{late_in, before_around}
use Rattle.plan.specs.Insertions.{Step, insert_with, insert_alias_t, insert_then, plan_paths_t, plan_done_t, late_here_t, late_out_t, plan_outer_t, met_t, plan_name_t, plan_index_t, plan_ref_t}
use Rattle.plan.specs.declared.insertions.PlanState.{PlanState}
use Rattle.agree.specs.Tables.Sizes.{most}
use Rattle.agree.specs.Tables.Earlier.{Knows, Come, Earlier, earlier_kept, late_out, never_out, earlier_nth, below_nth, late_is, Timed}
use Rattle.agree.specs.Tables.Slots.{reach_out, reach_at, inserted_slot, inserted_slots}
use Rattle.agree.specs.StepsAB.PlanTables.{Tab, declare_is, plan_of, Inserted, Stopped, StepIs, done_went}

-- a name that is found further out is found no further out than there are scopes
found_turn : (o : Option ℕ) (w : Option (ℕ × ℕ)) (d n : ℕ) (at : ℕ × ℕ) → (w ≡ some at → at.0 < n) → d < n → (map (λ m. (d, m)) o or_else w) ≡ some at → at.0 < n
unfolding ◌or_else◌
found_turn none w d n at f h e = f e
found_turn (some m) w d n at f h e = let q : d ≡ at.0 = ap (λ p. p.0) (some_same (d, m) at e) in omega arith

-- the walk from scope d on
walk_low : (es : List Env) (d space name n : ℕ) (at : ℕ × ℕ) → d + length es ≤ n → walk es d space name ≡ some at → at.0 < n
unfolding walk
walk_low [] d space name n at h e = no_option at e
walk_low (x ∷ es) d space name n at h e = found_turn (find (table_of x) space name) _ d n at (λ q. walk_low es (suc d) space name n at (omega arith) q) (omega arith) e

-- a fresh name as the code has it
fresh_is : (k : ℕ) → fresh k ≡ 2147483648 + k
unfolding fresh
fresh_is k = refl

module _ (room first : ℕ) (names₀ : List Slot) (n depth far : ℕ) (early : Bool) (fits : room ≤ most) where
  -- ---- what is inserted

  module _ (row at : ℕ) where
    -- one declaration inserted
    insert_is : (before : List Declaration) (slots : List Slot) (used : ℕ) (names : List Slot) (counts : List ℕ) → Tab room first names₀ before slots used names counts → (d : Declaration) (k out index : ℕ) → d.name ≡ 2147483648 + k → d.space < 13 → used < room → k < most → Inserted room first names₀ n depth far early (before ++ (d ∷ [])) (slots ++ (slot_of d.space d.name (count d.space before) row out index ∷ [])) (suc k) at (insert_alias_t names counts (plan_of room first names₀ n depth far early at used k) d.space row out index)
    unfolding insert_alias_t insert_with
    insert_is before slots used names counts tab d k out index e l u h =
        let i = declare_is room first names₀ before slots used names counts tab d l row out index u fits in
        let q : (2147483648 + k + 1) % 4294967296 ≡ 2147483648 + suc k = omega arith in
        record { used = i.used; names = i.names; counts = i.counts; answer = rw (← e, i.answer, e, q) refl; tab = i.tab }

    -- what PATHs come to
    abbrev Paths : (space z : ℕ) (ps : List ℕ) (p : ℕ) (ix : Index) (k k' : ℕ) (before : List Declaration) (slots : List Slot) (used : ℕ) (names : List Slot) (counts : List ℕ) → Type 0
    Paths space z ps p ix k k' before slots used names counts = Inserted room first names₀ n depth far early (before ++ heads_decls (path_aliases space ix p ps z k)) (slots ++ inserted_slots before row (path_aliases space ix p ps z k)) k' at (plan_paths_t names counts (plan_of room first names₀ n depth far early at used k) space row (length ps))

    -- the last PATH
    paths_one : (space z : ℕ) → space < 13 → (p : ℕ) (ix : Index) (k k' : ℕ) (before : List Declaration) (slots : List Slot) (used : ℕ) (names : List Slot) (counts : List ℕ) → Tab room first names₀ before slots used names counts → k' ≡ suc k → used < room → k < most → Paths space z [] p ix k k' before slots used names counts
    unfolding path_aliases heads_decls inserted_slots inserted_slot export_alias declared first_name reach_out reach_at plan_paths_t
    paths_one space z l p ix k k' before slots used names counts tab e u h =
        let i = insert_is before slots used names counts tab (record { space = space; name = fresh k; z = z }) k 0 0 (fresh_is k) l u h in
        rw e (if_both (λ (x : Head). Inserted room first names₀ n depth far early (before ++ heads_decls (x ∷ [])) (slots ++ inserted_slots before row (x ∷ [])) (suc k) at (insert_alias_t names counts (plan_of room first names₀ n depth far early at used k) space row 0 0)) (leb space 6) _ _ i i)

    -- a PATH, and then the others as given
    paths_more : (space z : ℕ) (x : ℕ) (ps : List ℕ) (p : ℕ) (ix : Index) (k k' : ℕ) (before : List Declaration) (slots : List Slot) (used : ℕ) (names : List Slot) (counts : List ℕ) → Tab room first names₀ before slots used names counts → used + suc (suc (length ps)) ≤ room → k < most → ((before' : List Declaration) (slots' : List Slot) (used' : ℕ) (names' : List Slot) (counts' : List ℕ) → Tab room first names₀ before' slots' used' names' counts' → used' + suc (length ps) ≤ room → Paths space z ps x (Id (fresh k)) (suc k) k' before' slots' used' names' counts') → Paths space z (x ∷ ps) p ix k k' before slots used names counts
    unfolding path_aliases heads_decls inserted_slots inserted_slot export_alias declared first_name reach_out reach_at plan_paths_t insert_then
    paths_more space z x ps p ix k k' before slots used names counts tab u h f =
        let d : Declaration = record { space = 10; name = fresh k; z = z } in
        let slot : Slot = slot_of 10 (fresh k) (count 10 before) row 0 0 in
        let hs = path_aliases space (Id (fresh k)) x ps z (suc k) in
        let i = insert_is before slots used names counts tab d k 0 0 (fresh_is k) (omega arith) (omega arith) h in
        let v : i.used ≡ used + 1 = omega (arith, i.tab.next, tab.next, length_snoc slots slot) in
        let r = f (before ++ (d ∷ [])) (slots ++ (slot ∷ [])) i.used i.names i.counts i.tab (omega arith) in
        record {
          used = r.used;
          names = r.names;
          counts = r.counts;
          answer = rw i.answer r.answer;
          tab = rw (snoc_append before d (heads_decls hs), snoc_append slots slot (inserted_slots (before ++ (d ∷ [])) row hs)) at r.tab;
        }

    -- one slot for each PATH
    paths_are : (space z : ℕ) → space < 13 → (ps : List ℕ) (p : ℕ) (ix : Index) (k k' : ℕ) (before : List Declaration) (slots : List Slot) (used : ℕ) (names : List Slot) (counts : List ℕ) → Tab room first names₀ before slots used names counts → k' ≡ suc (k + length ps) → used + suc (length ps) ≤ room → k' ≤ most → Paths space z ps p ix k k' before slots used names counts
    paths_are space z l [] p ix k k' before slots used names counts tab e u h = paths_one space z l p ix k k' before slots used names counts tab (omega arith) (omega arith) (omega arith)
    paths_are space z l (x ∷ ps) p ix k k' before slots used names counts tab e u h =
        paths_more space z x ps p ix k k' before slots used names counts tab u (omega arith) (λ b s v ns cs t w. paths_are space z l ps x (Id (fresh k)) (suc k) k' b s v ns cs t (omega arith) w h)

  -- ---- one operand

  module _ (here : List Declaration) (outside : Outside) (entered : List Slot) (scopes : List (List ℕ)) (known : (space name : ℕ) → is_some (find_in (between 0 n entered) space name) ≡ is_just (find here space name)) (timed : Timed outside.early early names₀ scopes far depth outside.scopes) (envs : Envs names₀ scopes depth outside.scopes) (below : Below first scopes depth) (shallow : depth ≤ most) (row at : ℕ) (before : List Declaration) (slots : List Slot) (used : ℕ) (names : List Slot) (counts : List ℕ) (tab : Tab room first names₀ before slots used names counts) (knows : early ≡ true → Knows slots outside.before.decls) where
    -- what an operand comes to, where the rules say this
    abbrev OperandIs : Result (Expanded Operand) → Step → Type 0
    OperandIs m o = StepIs room first names₀ n depth far early (λ e. before ++ heads_decls e.inserted) (λ e. slots ++ inserted_slots before row e.inserted) (λ e. e.k) at m o

    -- what is carried along, at the field's row
    abbrev P : ℕ → PlanState
    P k = plan_of room first names₀ n depth far early at used k

    -- nothing is inserted
    nothing : (o : Operand) (k : ℕ) → OperandIs (ok (as_it_is o k)) (Ok (P k) & names & counts)
    unfolding as_it_is heads_decls inserted_slots
    nothing o k = record { used = used; names = names; counts = counts; answer = refl; tab = rw (append-nil before, append-nil slots) tab }

    -- a refusal leaves the tables as they are
    stopped : (m : Said) (z : Told) → Stopped room first names₀ n depth far early m z (Err (record { refusal = m; told = z }) & names & counts)
    stopped m z = record { names = names; counts = counts; answer = refl; size = tab.size; kept = tab.kept }

    -- a name that comes too late is refused, whatever else would be done
    in_time_lem : (b : Bool) (z : ℕ) (m : Result (Expanded Operand)) (o : Step) → OperandIs m o → OperandIs (in_time b z >>= λ u. m) (pick b (Err (record { refusal = refusal_at 13 z; told = untold }) & names & counts) o)
    unfolding in_time when◌then◌else◌ pick ◌>>=◌ number_of carried_by
    in_time_lem true z m o r = stopped (refusal_at 13 z) untold
    in_time_lem false z m o r = r

    -- an outer alias
    outer_is : (space name z k : ℕ) (a : ℕ × ℕ) → space < 13 → a.0 < 4294967296 → used < room → k < most
        → OperandIs (found_at space name z k (some a)) (plan_outer_t a.0 a.1 names counts (P k) (record { space = space; at = as_index (Id name); paths = 0; z = z; row = row }))
    unfolding found_at plan_outer_t
    outer_is space name z k a l g u h =
        let s : space % 256 ≡ space = omega arith in
        let o : a.0 % 4294967296 ≡ a.0 = omega arith in
        rw (s, o) (go (is_in space FOUR))
      where
        go : (t : Bool) → OperandIs (when t then ok (through space z k (outer_alias space (fresh k) a.0 a.1 z ∷ [])) else refused (not_outer space) z) (pick t (plan_done_t (insert_alias_t names counts (P k) space row a.0 a.1)) (Err (record { refusal = refusal_at 8 z; told = of_space space }) & names & counts))
        go true =
            unfold when◌then◌else◌ pick through outer_alias heads_decls inserted_slots inserted_slot declared first_name reach_out reach_at fresh in
            done_went room first names₀ n depth far early _ _ _ at _ (insert_is row at before slots used names counts tab (record { space = space; name = 2147483648 + k; z = z }) k a.0 a.1 refl l u h)
        go false = unfold when◌then◌else◌ pick number_of carried_by in stopped (refusal_at 8 z) (of_space space)

    -- whether a name that is declared here comes later
    late_here : (space name k : ℕ) → is_just (find here space name) ≡ true → (early ≡ true → name ≤ top_name) → late_name here outside space name ≡ late_here_t names (P k) space name
    unfolding late_name comes_later late_here_t when◌then◌else◌ pick
    late_here space name k t low = rw (timed.same, t) (go early knows low)
      where
        go : (b : Bool) → (b ≡ true → Knows slots outside.before.decls) → (b ≡ true → name ≤ top_name) → (b && not (is_just (find outside.before.decls space name))) ≡ pick b (late_in names first used used space name) false
        go false f l = unfold pick in refl
        go true f l =
            unfold pick in sym (late_is names first used used outside.before.decls space name (omega arith) (rw tab.holds (f refl)) (l refl))

    -- whether one that a scope further out declares comes later there
    late_further : (space name k : ℕ) (a : ℕ × ℕ) → is_just (find here space name) ≡ false → (early ≡ true → name ≤ top_name) → walk outside.scopes 1 space name ≡ some a → a.0 < suc depth
        → late_name here outside space name ≡ late_out_t names scopes (P k) a.0 space name
    unfolding late_name late_out_t when◌then◌else◌ pick
    late_further space name k a t low w out = rw (timed.same, t) (go early timed.around low)
      where
        go : (b : Bool) → (b ≡ true → Earlier names₀ scopes far depth outside.scopes) → (b ≡ true → name ≤ top_name)
            → (b && comes_later_out outside.scopes space name) ≡ pick b (late_in names (first_of (scope_at scopes (depth - a.0))) (before_around scopes depth far a.0) used space name) false
        go false f l = unfold pick in refl
        go true f l =
            let L = late_out outside.scopes 1 space name a w in
            let en : Earlier names scopes far depth outside.scopes = earlier_kept first names₀ names (sym tab.kept) scopes far depth outside.scopes below (f refl) in
            let q = L.far_out in
            let c = earlier_nth names scopes far depth L.out outside.scopes L.env en (omega arith) L.is in
            let place : depth - 1 - L.out ≡ depth - a.0 = omega arith in
            let one : L.out + 1 ≡ a.0 = omega arith in
            let c' : Come names (scope_at scopes (depth - a.0)) (before_around scopes depth far a.0) L.env.before = rw (place, one) at c in
            let near = below_nth first scopes depth (depth - a.0) below (omega arith) in
            let size = tab.next in
            let within = c'.within in
            unfold pick in (L.late ∙ sym (late_is names (first_of (scope_at scopes (depth - a.0))) (before_around scopes depth far a.0) used L.env.before space name (omega arith) c'.knows (l refl)))

    -- a name that is not declared here
    met_is : (space name z k : ℕ) (w : Option (ℕ × ℕ)) → walk outside.scopes 1 space name ≡ w → is_just (find here space name) ≡ false → (early ≡ true → name ≤ top_name) → length outside.scopes ≡ depth → space < 13 → used < room → k < most
        → OperandIs (in_time (late_name here outside space name) z >>= λ u. found_at space name z k w) (met_t (met_of w) names scopes counts (P k) (record { space = space; at = as_index (Id name); paths = 0; z = z; row = row }) name)
    unfolding met_t
    met_is space name z k none q t low len l u h =
        let never : late_name here outside space name ≡ false = unfold late_name when◌then◌else◌ in (rw (t, never_out outside.scopes 1 space name q) (go outside.early)) in
        rw never (unfold in_time when◌then◌else◌ ◌>>=◌ found_at in nothing _ k)
      where
        go : (b : Bool) → (b && false) ≡ false
        go true = refl
        go false = refl
    met_is space name z k (some a) q t low len l u h =
        let b = walk_low outside.scopes 1 space name (suc depth) a (omega arith) q in
        rw (late_further space name k a t low q b) (in_time_lem _ z _ _ (outer_is space name z k a l (omega arith) u h))

    -- a name, which may be declared here
    name_is : (space name z k : ℕ) → (early ≡ true → name ≤ top_name) → space < 13 → used < room → k < most
        → OperandIs (in_time (late_name here outside space name) z >>= λ u. when is_just (find here space name) then ok (as_it_is (ref space (Id name) [] z) k) else found_at space name z k (walk outside.scopes 1 space name)) (plan_name_t entered names scopes counts (P k) (record { space = space; at = as_index (Id name); paths = 0; z = z; row = row }) name)
    unfolding plan_name_t
    name_is space name z k low l u h =
        let en : Envs names scopes depth outside.scopes = envs_kept first names₀ names (sym tab.kept) scopes depth outside.scopes (omega (arith, tab.size, tab.next)) below envs in
        let len = envs_length names scopes depth outside.scopes en in
        rw (known space name, outward_walk names scopes space name depth outside.scopes en) (go (is_just (find here space name)) refl len)
      where
        go : (t : Bool) → is_just (find here space name) ≡ t → length outside.scopes ≡ depth
            → OperandIs (in_time (late_name here outside space name) z >>= λ u. when t then ok (as_it_is (ref space (Id name) [] z) k) else found_at space name z k (walk outside.scopes 1 space name)) (pick t (pick (late_here_t names (P k) space name) (Err (record { refusal = refusal_at 13 z; told = untold }) & names & counts) (Ok (P k) & names & counts)) (met_t (met_of (walk outside.scopes 1 space name)) names scopes counts (P k) (record { space = space; at = as_index (Id name); paths = 0; z = z; row = row }) name))
        go true t len = unfold when◌then◌else◌ pick in rw (late_here space name k t low) (in_time_lem (late_here_t names (P k) space name) z _ _ (nothing _ k))
        go false t len = unfold when◌then◌else◌ pick in met_is space name z k (walk outside.scopes 1 space name) refl t low len l u h

    -- a reference
    pub ref_is : (k space : ℕ) (ix : Index) (ps : List ℕ) (z : ℕ) → (early ≡ true → LowOperand (ref space ix ps z)) → space < 13 → used + suc (length ps) ≤ room → k + suc (length ps) ≤ most → OperandIs (expand_operand here outside k (ref space ix ps z)) (plan_ref_t entered names scopes counts (P k) (record { space = space; at = as_index ix; paths = length ps; z = z; row = row }))
    unfolding expand_operand plan_ref_t pick as_index plan_index_t
    ref_is k space (Num m) [] z low l u h = nothing _ k
    ref_is k space (Id name) [] z low l u h = name_is space name z k (λ e. (low e).1) l (omega arith) (omega arith)
    ref_is k space ix (p ∷ ps) z low l u h =
        let e : suc (length ps) - 1 ≡ length ps = omega arith in
        rw (lt-ltb 0 (suc (length ps)) (omega arith), e) (go (eqb space 4) (eqb space 6))
      where
        go : (t v : Bool) → OperandIs (when t || (v || false) then refused not_exported z else ok (through space z (k + length ps) (path_aliases space ix p ps z k))) (pick t (Err (record { refusal = refusal_at 7 z; told = untold }) & names & counts) (pick v (Err (record { refusal = refusal_at 7 z; told = untold }) & names & counts) (plan_done_t (plan_paths_t names counts (P k) space row (length ps)))))
        go true v = unfold when◌then◌else◌ pick number_of carried_by in stopped (refusal_at 7 z) untold
        go false true = unfold when◌then◌else◌ pick number_of carried_by in stopped (refusal_at 7 z) untold
        go false false =
            unfold when◌then◌else◌ pick through in
            done_went room first names₀ n depth far early _ _ _ at _ (paths_are row at space z l ps p ix k (suc (k + length ps)) before slots used names counts tab refl (omega arith) (omega arith))
