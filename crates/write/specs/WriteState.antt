-- The state of the walk, with one thing changed; and a step that may be refused.
use Rattle.std.specs.Prelude.{List, ℕ, ◌+◌, ltb, length, Result, Ok, Err}
use Rattle.kit.specs.Pick.{pick}
use Rattle.kit.specs.Out.{Out, ◌&◌}
use Rattle.names.specs.Table.{Slot}
use Rattle.write.specs.declared.alias.WriteState.{WriteState}
use Rattle.refusal.specs.declared.Refused.{Refused}

-- the slot after this one; the table's end stays
unfoldable pub following_t : List Slot → ℕ → ℕ
following_t names k = pick (ltb k (length names)) (k + 1) k

-- `to` rows are written
abbrev pub written_t : WriteState → (to : ℕ) → WriteState
written_t s to =
    record { at = s.at; to = to; used = s.used; fresh = s.fresh; depth = s.depth; next = s.next; alias = s.alias; seen = s.seen; before = s.before; early = s.early }

-- `to` rows are written, and the scope's next slot is passed
abbrev pub passed_t : List Slot → WriteState → (to : ℕ) → WriteState
passed_t names s to =
    record { at = s.at; to = to; used = s.used; fresh = s.fresh; depth = s.depth; next = following_t names s.next; alias = s.alias; seen = s.seen; before = s.before; early = s.early }

-- `to` rows are written, and the field's next inserted slot is `alias`
abbrev pub aliased_t : WriteState → (to alias : ℕ) → WriteState
aliased_t s to alias =
    record { at = s.at; to = to; used = s.used; fresh = s.fresh; depth = s.depth; next = s.next; alias = alias; seen = s.seen; before = s.before; early = s.early }

-- `to` rows are written, and `seen` cases are seen
abbrev pub case_seen_t : WriteState → (to seen : ℕ) → WriteState
case_seen_t s to seen =
    record { at = s.at; to = to; used = s.used; fresh = s.fresh; depth = s.depth; next = s.next; alias = s.alias; seen = seen; before = s.before; early = s.early }

-- no case is seen
abbrev pub unseen_t : WriteState → WriteState
unseen_t s =
    record { at = s.at; to = s.to; used = s.used; fresh = s.fresh; depth = s.depth; next = s.next; alias = s.alias; seen = 0; before = s.before; early = s.early }

-- the next input row is `at`
abbrev pub arrived_t : WriteState → (at : ℕ) → WriteState
arrived_t s at =
    record { at = at; to = s.to; used = s.used; fresh = s.fresh; depth = s.depth; next = s.next; alias = s.alias; seen = s.seen; before = s.before; early = s.early }

-- a field begins where `depth` scopes are open
abbrev pub begun_t : WriteState → (depth : ℕ) → WriteState
begun_t s depth =
    record { at = s.at; to = s.to; used = s.used; fresh = s.fresh; depth = depth; next = s.next; alias = s.next; seen = 0; before = s.next; early = s.early }

-- `depth` scopes are open
abbrev pub at_depth_t : WriteState → (depth : ℕ) → WriteState
at_depth_t s depth =
    record { at = s.at; to = s.to; used = s.used; fresh = s.fresh; depth = depth; next = s.next; alias = s.alias; seen = s.seen; before = s.before; early = s.early }

-- the scope inside a field has ended
abbrev pub after_scope_t : (before inside : WriteState) → WriteState
after_scope_t b i =
    record { at = i.at; to = i.to; used = b.used; fresh = i.fresh; depth = b.depth; next = b.next; alias = b.alias; seen = b.seen; before = b.before; early = b.early }

-- an answer, and the output
abbrev pub Wrote : Type 0
Wrote = Out (Result WriteState Refused) (List ℕ)

-- goes on after something is written, by `f` if it is and by `g` if it is refused
unfoldable pub wrote_then : {A : Type 0} → Wrote → (WriteState → List ℕ → A) → (Refused → List ℕ → A) → A
wrote_then (Ok s & out) f g = f s out
wrote_then (Err refused & out) f g = g refused out

-- a refusal ends the step
abbrev pub stops : Refused → List ℕ → Wrote
stops refused out = Err refused & out

-- on with what a row's writing leaves: the next output row, and the output
unfoldable pub put_then : {A : Type 0} → Out ℕ (List ℕ) → (ℕ → List ℕ → A) → A
put_then (to & out) f = f to out
