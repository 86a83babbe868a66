-- Step B as the code takes it: the slots of what is inserted before each field, and of its DECLs.
use Rattle.std.specs.Prelude.{ℕ, zero, suc, ◌+◌, ◌-◌, ◌/◌, ◌%◌, Bool, false, List, length, replicate, ◌==◌, nat_le, nat_lt, slice_index, slice_index_or, slice_set, is_some, Option, Some, None, Result, Ok, Err}
use Rattle.kit.specs.Pick.{pick}
use Rattle.kit.specs.Out.{Out, ◌&◌}
use Rattle.rules.specs.Tools.{is_in}
use Rattle.rules.specs.Shapes.{FOUR, here_only}
use Rattle.rows.specs.RowAt.{row_at, code_at}
use Rattle.rows.specs.declared.row.Index.{Index}
use Rattle.rows.specs.declared.row.Index.TheVariants.{Number, Name}
use Rattle.form.specs.Part.{field_rows}
use Rattle.refusal.specs.Refusals.{refusal_at, untold, of_space}
use Rattle.names.specs.Table.{Slot, space_of, decl_slot, alias_slot, numbered_slot, first_of, scope_at, between, find_in, met_from, pushed}
use Rattle.late.specs.Late.{late_in, before_around}
use Rattle.plan.specs.Views.{if_decl, if_ref, field_code}
use Rattle.plan.specs.Enter.{row_number}
use Rattle.plan.specs.declared.insertions.PlanState.{PlanState}
use Rattle.plan.specs.declared.insertions.Reference.{Reference}
use Rattle.names.specs.declared.Met.{Met}
use Rattle.refusal.specs.declared.Refused.{Refused}

-- the table of slots, and the next number of each space
abbrev pub Tables : Type 0
Tables = Out (List Slot) (List ℕ)

-- the next number in 32 bits
abbrev pub after32 : ℕ → ℕ
after32 n = (n + 1) % 4294967296

-- the next number of a space, and the counts with one more of it; 0 for a space that does not exist, which no form names
unfoldable pub bump_t : (counts : List ℕ) (space : ℕ) → Out ℕ (List ℕ)
bump_t counts space =
    pick (nat_le (length counts) space) (0 & counts)
    (slice_index_or counts space 0 & slice_set counts space (after32 (slice_index counts space)))

-- the slots in use and the table, with the counts
unfoldable pub with_counts_t : Out ℕ (List Slot) → List ℕ → Out ℕ Tables
with_counts_t (n & t) counts = n & t & counts

-- a slot is entered with the number that the counts give it
unfoldable pub declare_with : Out ℕ (List ℕ) → List Slot → (used : ℕ) → Slot → Out ℕ Tables
declare_with (n & counts) names used slot = with_counts_t (pushed names used (numbered_slot slot n)) counts

-- a slot gets its number and is entered
unfoldable pub declare_t : (names : List Slot) (counts : List ℕ) (used : ℕ) → Slot → Out ℕ Tables
declare_t names counts used slot = declare_with (bump_t counts (space_of slot)) names used slot

-- the state after an insertion: `used` slots are in use, and the next fresh name is one higher
abbrev pub freshened : PlanState → (used : ℕ) → PlanState
freshened p used =
    record { at = p.at; entered = p.entered; depth = p.depth; used = used; fresh = after32 p.fresh; first = p.first; before = p.before; early = p.early }

-- the state after an insertion, with the tables that it leaves
unfoldable pub insert_with : PlanState → Out ℕ Tables → Out PlanState Tables
insert_with p (used & tables) = freshened p used & tables

-- an inserted alias takes the next fresh name; an outer one reaches `index` in the scope `out` scopes out
unfoldable pub insert_alias_t : List Slot → List ℕ → PlanState → (space row out index : ℕ) → Out PlanState Tables
insert_alias_t names counts p space row out index =
    insert_with p (declare_t names counts p.used (alias_slot space p.fresh row out index))

-- goes on with what an insertion leaves
unfoldable pub insert_then : {A : Type 0} → Out PlanState Tables → (List Slot → List ℕ → PlanState → A) → A
insert_then (p & names & counts) f = f names counts p

-- an alias for each PATH; there are `more` besides the last
unfoldable pub plan_paths_t : List Slot → List ℕ → PlanState → (space row more : ℕ) → Out PlanState Tables
plan_paths_t names counts p space row zero = insert_alias_t names counts p space row 0 0
plan_paths_t names counts p space row (suc more) =
    insert_then (insert_alias_t names counts p 10 row 0 0) λ ns cs q. plan_paths_t ns cs q space row more

-- what a part of step B answers, with the tables that it leaves
abbrev pub Step : Type 0
Step = Out (Result PlanState Refused) Tables

-- nothing was refused
unfoldable pub plan_done_t : Out PlanState Tables → Step
plan_done_t (p & tables) = Ok p & tables

-- a name that the scope has, but no field before this one: those have their slots by now
unfoldable pub late_here_t : List Slot → PlanState → (space name : ℕ) → Bool
late_here_t names p space name = pick p.early (late_in names p.first p.used p.used space name) false

-- a name that the scope `out` scopes out has, but not before the field that holds us
unfoldable pub late_out_t : List Slot → (scopes : List (List ℕ)) → PlanState → (out space name : ℕ) → Bool
late_out_t names scopes p out space name =
    pick p.early (late_in names (first_of (scope_at scopes (p.depth - out))) (before_around scopes p.depth p.before out) p.used space name)
    false

-- an outer alias for what the scope `out` scopes out has as `number`
unfoldable pub plan_outer_t : (out number : ℕ) → List Slot → List ℕ → PlanState → Reference → Step
plan_outer_t out number names counts p r =
    pick (is_in (r.space % 256) FOUR) (plan_done_t (insert_alias_t names counts p r.space r.row (out % 4294967296) number))
    (Err (record { refusal = refusal_at 8 r.z; told = of_space r.space }) & names & counts)

-- a name that the scope does not have, by where the scopes around have it
unfoldable pub met_t : Option Met → List Slot → (scopes : List (List ℕ)) → List ℕ → PlanState → Reference → (name : ℕ) → Step
met_t None names scopes counts p r name = Ok p & names & counts
met_t (Some met) names scopes counts p r name =
    pick (late_out_t names scopes p met.out r.space name) (Err (record { refusal = refusal_at 13 r.z; told = untold }) & names & counts) (plan_outer_t met.out met.number names counts p r)

-- a walked name: one of this scope needs nothing, one of a scope further out an outer alias; too late, it is refusal 13
unfoldable pub plan_name_t : (entered names : List Slot) (scopes : List (List ℕ)) → List ℕ → PlanState → Reference → (name : ℕ) → Step
plan_name_t entered names scopes counts p r name =
    pick (is_some (find_in (between 0 p.entered entered) r.space name))
    (pick (late_here_t names p r.space name) (Err (record { refusal = refusal_at 13 r.z; told = untold }) & names & counts) (Ok p & names & counts))
    (met_t (met_from names scopes p.depth p.depth r.space name) names scopes counts p r name)

-- a REF without PATHs: a number stays, a name is walked
unfoldable pub plan_index_t : Index → (entered names : List Slot) (scopes : List (List ℕ)) → List ℕ → PlanState → Reference → Step
plan_index_t (Number n) entered names scopes counts p r = Ok p & names & counts
plan_index_t (Name name) entered names scopes counts p r = plan_name_t entered names scopes counts p r name

-- a REF: an alias for each of its PATHs, or what its operand needs
unfoldable pub plan_ref_t : (entered names : List Slot) (scopes : List (List ℕ)) → List ℕ → PlanState → Reference → Step
plan_ref_t entered names scopes counts p r =
    pick (nat_lt 0 r.paths)
    (pick (r.space == 4) (Err (record { refusal = refusal_at 7 r.z; told = untold }) & names & counts)
    (pick (r.space == 6) (Err (record { refusal = refusal_at 7 r.z; told = untold }) & names & counts)
    (plan_done_t (plan_paths_t names counts p r.space r.row (r.paths - 1)))))
    (plan_index_t r.at entered names scopes counts p r)

-- goes on after a part of step B, by `f` if it is done and by `g` if it refused
unfoldable pub step_then : {A : Type 0} → Step → (List Slot → List ℕ → PlanState → A) → (Refused → List Slot → List ℕ → A) → A
step_then (Ok p & names & counts) f g = f names counts p
step_then (Err refused & names & counts) f g = g refused names counts

-- a refusal ends the step
abbrev pub stops : Refused → List Slot → List ℕ → Step
stops refused names counts = Err refused & names & counts

-- the rows from i on, of which `left` are left; `row` is the input row of the field
unfoldable pub plan_operands_t : (field : List ℕ) (entered names : List Slot) (scopes : List (List ℕ)) → List ℕ → PlanState → (row i left : ℕ) → Step
plan_operands_t field entered names scopes counts p row i zero = Ok p & names & counts
plan_operands_t field entered names scopes counts p row i (suc left) =
    if_ref (row_at field i)
    (λ space at paths z.
    step_then (plan_ref_t entered names scopes counts p (record { space = space; at = at; paths = paths; z = z; row = row_number row i }))
    (λ ns cs q. plan_operands_t field entered ns scopes cs q row (i + 1) left) stops)
    (Ok p & names & counts)
    (plan_operands_t field entered names scopes counts p row (i + 1) left)

-- goes on with what a declaration leaves
unfoldable pub declare_then : {A : Type 0} → Out ℕ Tables → (List Slot → List ℕ → ℕ → A) → A
declare_then (used & names & counts) f = f names counts used

-- the DECLs of a field, from row i on; each takes a slot
unfoldable pub plan_decls_t : (field : List ℕ) → List Slot → List ℕ → (row used i left : ℕ) → Out ℕ Tables
plan_decls_t field names counts row used i zero = used & names & counts
plan_decls_t field names counts row used i (suc left) =
    if_decl (row_at field i)
    (λ space name z. declare_then (declare_t names counts used (decl_slot space name (row_number row i)))
    λ ns cs u. plan_decls_t field ns cs row u (i + 1) left)
    (used & names & counts)

-- the code of a field; 0, which no field has, where no FIELD row leads it
unfoldable pub field_code_t : List ℕ → ℕ
field_code_t field = field_code (row_at field 0)

-- how many rows of a field stand behind its FIELD
abbrev pub rows_after : List ℕ → ℕ
rows_after field = length field / 16 - 1

-- what a field makes the scope insert: nothing where its operands are here-only
unfoldable pub plan_insertions_t : (field : List ℕ) (entered names : List Slot) (scopes : List (List ℕ)) → List ℕ → PlanState → Step
plan_insertions_t field entered names scopes counts p =
    pick (here_only (field_code_t field)) (Ok p & names & counts)
    (plan_operands_t field entered names scopes counts p p.at 1 (rows_after field))

-- the state with `used` slots in use
abbrev pub with_used : PlanState → ℕ → PlanState
with_used p used =
    record { at = p.at; entered = p.entered; depth = p.depth; used = used; fresh = p.fresh; first = p.first; before = p.before; early = p.early }

-- one field: its insertions, and then its DECLs
unfoldable pub plan_field_t : (field : List ℕ) (entered names : List Slot) (scopes : List (List ℕ)) → List ℕ → PlanState → Step
plan_field_t field entered names scopes counts p =
    step_then (plan_insertions_t field entered names scopes counts p)
    (λ ns cs q. declare_then (plan_decls_t field ns cs q.at q.used 1 (rows_after field)) λ ns' cs' used. Ok (with_used q used) & ns' & cs')
    stops

-- the same state at another row
unfoldable pub moved_t : PlanState → (at : ℕ) → PlanState
moved_t p at =
    record { at = at; entered = p.entered; depth = p.depth; used = p.used; fresh = p.fresh; first = p.first; before = p.before; early = p.early }

-- the field at the plan's row, and on to the next
unfoldable pub plan_next_t : (rows ends : List ℕ) (entered names : List Slot) (scopes : List (List ℕ)) → List ℕ → PlanState → Step
plan_next_t rows ends entered names scopes counts p =
    let field = field_rows rows ends p.at in
    step_then (plan_field_t field entered names scopes counts p)
    (λ ns cs q. Ok (moved_t q (row_number p.at (length field / 16))) & ns & cs) stops

-- the fields of a scope; there are at most `turns`
unfoldable pub plan_fields_t : (rows ends : List ℕ) (entered names : List Slot) (scopes : List (List ℕ)) → List ℕ → PlanState → (turns : ℕ) → Step
plan_fields_t rows ends entered names scopes counts p zero = Ok p & names & counts
plan_fields_t rows ends entered names scopes counts p (suc turns) =
    pick (code_at rows p.at == 1)
    (let field = field_rows rows ends p.at in
    step_then (plan_field_t field entered names scopes counts p)
    (λ ns cs q. plan_fields_t rows ends entered ns scopes cs (moved_t q (row_number p.at (length field / 16))) turns) stops)
    (Ok p & names & counts)

-- the answer and the table, without the counts
unfoldable pub plan_seen_t : Step → Out (Result PlanState Refused) (List Slot)
plan_seen_t (a & names & counts) = a & names

-- step B of a scope: every space is counted from 0
unfoldable pub plan_scope_t : (rows ends : List ℕ) (entered names : List Slot) (scopes : List (List ℕ)) → PlanState → Out (Result PlanState Refused) (List Slot)
plan_scope_t rows ends entered names scopes p =
    plan_seen_t (plan_fields_t rows ends entered names scopes (replicate 13 0) p (length rows / 16))
