-- A scope goes through its fields, and a field may open a scope: as the code walks.
use Rattle.std.specs.Prelude.{Bool, List, ℕ, zero, suc, ◌+◌, ◌/◌, eqb, ltb, length, set, Result, Ok, Err}
use Rattle.kit.specs.Pick.{pick}
use Rattle.kit.specs.Out.{Out, ◌&◌}
use Rattle.rules.specs.Shapes.{here_only}
use Rattle.rows.specs.RowAt.{row_at, code_at}
use Rattle.put.specs.Put.{copy_row}
use Rattle.rows.specs.declared.row.Row.{Row}
use Rattle.rows.specs.declared.row.Row.TheVariants.{Field, Decl, Ref, Path, Outer, Case, Open, Close, Export, Broken}
use Rattle.form.specs.Part.{field_rows}
use Rattle.names.specs.Table.{Slot, name_of, scope_of, innermost_t}
use Rattle.plan.specs.Enter.{row_number, enter_fields_t}
use Rattle.plan.specs.Insertions.{field_code_t, rows_after}
use Rattle.plan.specs.Insertions as plan
use Rattle.plan.specs.declared.insertions.PlanState.{PlanState}
use Rattle.write.specs.declared.alias.WriteState.{WriteState}
use Rattle.write.specs.WriteState.{begun_t, at_depth_t, after_scope_t, unseen_t, Wrote, wrote_then, put_then}
use Rattle.write.specs.Alias.{slot_at, write_aliases_t}
use Rattle.write.specs.Own.{Wrote₂, wrote_then₂, own_t}
use Rattle.refusal.specs.declared.Refused.{Refused}

-- an answer, the table of entered names, the table of declarations, and the output
abbrev pub Wrote₃ : Type 0
Wrote₃ = Out (Result WriteState Refused) (Out (List Slot) (Out (List Slot) (List ℕ)))

-- ---- a field up to the scope that it may open

-- what was inserted before a field: nothing where its operands are here-only
unfoldable pub write_inserted_t : (field : List ℕ) → List Slot → (here out : List ℕ) → WriteState → Wrote
write_inserted_t field names here out s =
    pick (here_only (field_code_t field)) (Ok s & out) (write_aliases_t field names here out s s.at 1 (rows_after field))

-- where the next slot has a name of the input, nothing was inserted before the field
unfoldable pub write_fresh_t : (field : List ℕ) → List Slot → (here out : List ℕ) → WriteState → Wrote
write_fresh_t field names here out s =
    pick (ltb (name_of (slot_at names s.next)) 2147483648) (Ok s & out) (write_inserted_t field names here out s)

-- what was inserted before a field, and then its own rows up to the scope that it may open
unfoldable pub write_head_t : (field : List ℕ) (entered names : List Slot) (scopes : List (List ℕ)) (out : List ℕ) → WriteState → Wrote₂
write_head_t field entered names scopes out s =
    wrote_then (write_fresh_t field names (innermost_t scopes s.depth) out s)
    (λ t out'. own_t field entered names scopes out' (unseen_t t) t.at 0 (length field / 16))
    (λ refused out'. Err refused & entered & out')

-- ---- steps A and B

-- the answer of step B, with both tables
unfoldable pub with_tables_t : List Slot → Out (Result PlanState Refused) (List Slot) → Out (Result PlanState Refused) (Out (List Slot) (List Slot))
with_tables_t entered (p & names) = p & entered & names

-- the state in which step B begins, at the row of the first field and with `entered` names
abbrev pub plan_in : WriteState → (at entered : ℕ) → PlanState
plan_in s at entered =
    record { at = at; entered = entered; depth = s.depth; used = s.used; fresh = s.fresh; first = s.used; before = s.before; early = s.early }

-- step B after step A, unless that refused
unfoldable pub planned_t : Out (Result ℕ Refused) (List Slot) → (rows ends : List ℕ) (names : List Slot) (scopes : List (List ℕ)) → WriteState → Out (Result PlanState Refused) (Out (List Slot) (List Slot))
planned_t (Err refused & entered) rows ends names scopes s = Err refused & entered & names
planned_t (Ok count & entered) rows ends names scopes s =
    with_tables_t entered
    (plan.plan_scope_t rows ends entered names scopes
    (plan_in s (row_number s.at 1) count))

-- steps A and B of the scope whose OPEN is the state's row
unfoldable pub begin_scope_t : (rows ends : List ℕ) (entered names : List Slot) (scopes : List (List ℕ)) → WriteState → Out (Result PlanState Refused) (Out (List Slot) (List Slot))
begin_scope_t rows ends entered names scopes s =
    planned_t (enter_fields_t rows ends entered (row_number s.at 1) 0 (length rows / 16)) rows ends names scopes s

-- the name of an OPEN; no other row has one
unfoldable pub open_name : Row → ℕ
open_name (Field c b z) = 0
open_name (Decl s n z) = 0
open_name (Ref s i p z) = 0
open_name (Path n) = 0
open_name (Outer s u i z) = 0
open_name (Case n z) = 0
open_name (Open k n) = n
open_name Close = 0
open_name (Export n) = 0
open_name Broken = 0

-- the state in which a form is begun, with `used` slots in use, all before it, and `depth` scopes open around it
abbrev pub start_in : (used depth : ℕ) (early : Bool) → WriteState
start_in used depth early =
    record { at = 0; to = 0; used = used; fresh = 2147483648; depth = depth; next = 0; alias = 0; seen = 0; before = used; early = early }

-- ---- step C

-- what the scope that a field opens does
abbrev pub Inner : Type 0
Inner = (entered names : List Slot) (scopes : List (List ℕ)) (out : List ℕ) → WriteState → Wrote₃

-- goes on after a part of the walk, by `f` if it is done and by `g` if it refused
unfoldable pub wrote_then₃ : {A : Type 0} → Wrote₃ → (WriteState → List Slot → List Slot → List ℕ → A) → (Refused → List Slot → List Slot → List ℕ → A) → A
wrote_then₃ (Ok s & entered & names & out) f g = f s entered names out
wrote_then₃ (Err refused & entered & names & out) f g = g refused entered names out

-- a refusal ends the walk
abbrev pub stops₃ : Refused → List Slot → List Slot → List ℕ → Wrote₃
stops₃ refused entered names out = Err refused & entered & names & out

-- the CLOSE of a scope, by the rows alone
abbrev pub close_scope_t : (rows out : List ℕ) → WriteState → Out WriteState (List ℕ)
close_scope_t rows out s =
    put_then (copy_row rows s.at out s.to) λ to out'.
    record { at = row_number s.at 1; to = to; used = s.used; fresh = s.fresh; depth = s.depth; next = s.next; alias = s.alias; seen = s.seen; before = s.before; early = s.early } & out'

module _ (rows ends : List ℕ) where
  -- a field, and the scope that it may open, which `inner` walks
  unfoldable pub field_walk_t : Inner → Inner
  field_walk_t inner entered names scopes out s =
      wrote_then₂ (write_head_t (field_rows rows ends s.at) entered names scopes out s)
      (λ t entered' out'. pick (eqb (code_at rows t.at) 7)
      (wrote_then₃ (inner entered' names scopes out' (at_depth_t t s.depth))
      (λ u e n o. Ok (after_scope_t t u) & e & n & o) stops₃)
      (Ok t & entered' & names & out'))
      (λ refused entered' out'. Err refused & entered' & names & out')

  -- the CLOSE of a scope
  unfoldable pub closed_t : (out : List ℕ) → WriteState → Out WriteState (List ℕ)
  closed_t out s = close_scope_t rows out s

  -- a scope has ended, with both tables as they are
  unfoldable pub ended_t : Out WriteState (List ℕ) → (entered names : List Slot) → Wrote₃
  ended_t (s & out) entered names = Ok s & entered & names & out

  -- the fields of a scope up to its CLOSE; there are at most `turns`
  unfoldable pub fields_walk_t : Inner → (entered names : List Slot) (scopes : List (List ℕ)) (out : List ℕ) → WriteState → (depth turns : ℕ) → Wrote₃
  fields_walk_t inner entered names scopes out s depth zero = Ok s & entered & names & out
  fields_walk_t inner entered names scopes out s depth (suc turns) =
      pick (eqb (code_at rows s.at) 1)
      (wrote_then₃ (field_walk_t inner entered names scopes out (begun_t s depth))
      (λ t e n o. fields_walk_t inner e n scopes o t depth turns) stops₃)
      (ended_t (closed_t out s) entered names)

  -- the state in which the fields of a scope begin
  abbrev pub inside_t : WriteState → PlanState → (to : ℕ) → WriteState
  inside_t s p to =
      record { at = row_number s.at 1; to = to; used = p.used; fresh = p.fresh; depth = s.depth + 1; next = s.used; alias = s.used; seen = 0; before = s.used; early = s.early }

  -- a scope after steps A and B, unless they refused: its OPEN, its fields, its CLOSE
  unfoldable pub scoped_t : Inner → Out (Result PlanState Refused) (Out (List Slot) (List Slot)) → (scopes : List (List ℕ)) (out : List ℕ) → WriteState → Wrote₃
  scoped_t inner (Err refused & entered & names) scopes out s = Err refused & entered & names & out
  scoped_t inner (Ok p & entered & names) scopes out s =
      put_then (copy_row rows s.at out s.to) λ to out'.
      fields_walk_t inner entered names (set scopes s.depth (scope_of (open_name (row_at rows s.at)) s.used p.used s.before)) out' (inside_t s p to) (s.depth + 1) (length rows / 16)

  -- a scope, all of it, where `allowed` more scopes may be opened
  unfoldable pub scope_walk_t : (allowed : ℕ) → Inner
  scope_walk_t zero entered names scopes out s = Ok s & entered & names & out
  scope_walk_t (suc allowed) entered names scopes out s =
      scoped_t (scope_walk_t allowed) (begin_scope_t rows ends entered names scopes s) scopes out s
