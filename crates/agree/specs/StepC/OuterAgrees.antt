-- An OUTER: the code finds the scope and the number that the rules find, and refuses with the same.
use Rattle.std.specs.Prelude.{◌≡◌, Bool, ◌⊎◌, List, [], ◌∷◌, ℕ, suc, ◌+◌, ◌-◌, ◌%◌, ◌≤◌, ◌<◌, eqb, length, Result as CodeResult, Ok, Err}
use Rattle.std.proofs.Math.Path.{refl}
use Rattle.std.proofs.Math.Bool.{true, false}
use Rattle.std.proofs.Common.{inl, inr}
use Rattle.std.proofs.Math.Option.{Option, none, some, map}
use native.Mathlib.Omega.{arith}
use borrow.Author.Tests.{lt-leb, le-leb}
use Rattle.kit.specs.Pick.{pick}
use Rattle.kit.specs.Out.{◌&◌}
use Rattle.kit.proofs.Laws.{lt_or_le}
use Rattle.rules.specs.Tools.{when◌then◌else◌}
use Rattle.rules.specs.Versions.{top_name}
use Rattle.rules.specs.Rows.{Index, Num, Id, Outer}
use Rattle.rules.specs.Tree.{Operand, outer, operand_row}
use Rattle.rules.specs.Rules.{unknown, no_such_scope, too_far, number_of, carried_by, table_of, in_time, late_index, Result, refused, ok, ◌>>=◌, Env, nth, named, or_refused, number_in, up_number, outer_numbers, resolve_outer}
use Rattle.rules.specs.Laws.RowLaws.{LegalIndex}
use Rattle.rules.specs.Laws.Results.{no_option, some_same}
use Rattle.rows.specs.RowAt.{as_index, taken}
use Rattle.names.specs.Table.{Slot, scope_at}
use Rattle.names.specs.Stands.{named_of, Envs}
use Rattle.names.proofs.Storey.{envs_length, scope_named_lem, scope_nth, scope_past}
use Rattle.late.specs.Late.{before_around}
use Rattle.write.specs.declared.alias.WriteState.{WriteState}
use Rattle.write.specs.declared.own.Outer.{Outer as OuterRow}
use Rattle.write.specs.WriteState.{written_t, put_then}
use Rattle.write.specs.Own.{write_index_t, index_out_t, scope_out_t, outer_numbers_t, outward_t, write_outer_t}
use Rattle.agree.specs.Refusals.Carried.{said_of, told_of}
use Rattle.agree.specs.Rows.At.{put_all}
use Rattle.agree.specs.StepC.WriteAgrees.{put_one_lem}
use Rattle.agree.specs.Tables.Earlier.{earlier_nth, Timed}
use Rattle.agree.specs.Refusals.Answers.{Says, index_in, number_is, sought_as, late_at, number_in_lem}
use Rattle.refusal.specs.declared.Refused.{Refused}
use Rattle.write.specs.declared.own.Outward.{Outward}

-- the same refusal, or the same numbers
abbrev OutSays : (space z : ℕ) → Result Operand → CodeResult Outward Refused → Type 0
OutSays space z (refused n p) w = w ≡ Err (record { refusal = said_of n p; told = told_of n })
OutSays space z (ok o) w = (d : ℕ) × (n : ℕ) × (w ≡ Ok (record { up = d; at = n })) × (o ≡ outer space (Num d) (Num n) z)

below_turn : (t : Bool) (o : Option ℕ) (n d : ℕ) → ((m : ℕ) → o ≡ some m → m < n) → (when t then some 0 else map suc o) ≡ some d → d < suc n
unfolding when◌then◌else◌
below_turn true o n d f p = omega (arith, some_same 0 d p)
below_turn false none n d f p = no_option d p
below_turn false (some m) n d f p = omega (arith, some_same (suc m) d p, f m refl)

-- a scope that is named is one of those that are open
named_below : (es : List Env) (name : ℕ) (d : ℕ) → named es name ≡ some d → d < length es
unfolding named
named_below [] name d e = no_option d e
named_below (x ∷ es) name d e = below_turn (eqb x.name name) (named es name) (length es) d (λ m q. named_below es name m q) e

abbrev pub outer_row : (space : ℕ) (up at : Index) (z place : ℕ) → OuterRow
outer_row space up at z place = record { space = space; up = as_index up; at = as_index at; z = z; place = place }

module _ (names : List Slot) (scopes : List (List ℕ)) (s : WriteState) (early : Bool) (es : List Env) (timed : Timed early s.early names scopes s.before s.depth es) (open-scopes : Envs names scopes s.depth es) (few : s.depth < 4294967296) (fz space z : ℕ) where
  index_turn : (up at : Index) (d : ℕ) (b : Bool) (o : Option ℕ) → OutSays space z (in_time b z >>= λ u. or_refused o (unknown space) z >>= λ n. ok (outer space (Num d) (Num n) z)) (write_index_t (sought_as space b o) d (outer_row space up at z fz))
  unfolding in_time when◌then◌else◌ or_refused ◌>>=◌ write_index_t number_of carried_by
  index_turn up at d true o = refl
  index_turn up at d false none = refl
  index_turn up at d false (some n) = (d, n, refl, refl)

  late_index_lem : (e : Env) (at : Index) → late_index early e space at ≡ late_at s.early (table_of e) e.before space at
  unfolding late_index
  late_index_lem e (Num n) = refl
  late_index_lem e (Id name) = rw timed.same

  abbrev in_scope : (at : Index) (d : ℕ) → Result Operand
  in_scope at d = or_refused (nth es d) too_far fz >>= λ e. in_time (late_index early e space at) z >>= λ u. number_in e.entries space at z >>= λ n. ok (outer space (Num d) (Num n) z)

  index_in_lem : (up at : Index) (d : ℕ) → (s.early ≡ true → LegalIndex top_name at) → d < s.depth → OutSays space z (in_scope at d) (index_out_t names scopes s d (outer_row space up at z fz))
  unfolding index_out_t or_refused ◌>>=◌ pick
  index_in_lem up at d low h =
      let c = scope_nth names scopes s.depth d es open-scopes h in
      rw (c.1, lt-leb s.depth d h, late_index_lem c.0 at, number_is c.0.entries space at z, number_in_lem names (scope_at scopes (s.depth - 1 - d)) (before_around scopes s.depth s.before (d + 1)) s.early c.0 c.0.before (λ t. earlier_nth names scopes s.before s.depth d es c.0 (timed.around t) h c.1) space at low c.2) (index_turn up at d (late_at s.early (table_of c.0) c.0.before space at) (index_in (table_of c.0) space at))

  index_past : (up at : Index) (d : ℕ) → s.depth ≤ d → OutSays space z (in_scope at d) (index_out_t names scopes s d (outer_row space up at z fz))
  unfolding index_out_t or_refused ◌>>=◌ pick number_of carried_by
  index_past up at d h = rw (scope_past names scopes s.depth d es open-scopes h, le-leb s.depth d h)

  index_out : (up at : Index) (d : ℕ) → (s.early ≡ true → LegalIndex top_name at) → OutSays space z (in_scope at d) (index_out_t names scopes s d (outer_row space up at z fz))
  index_out up at d low = go (lt_or_le d s.depth)
    where
      go : ((d < s.depth) ⊎ (s.depth ≤ d)) → OutSays space z (in_scope at d) (index_out_t names scopes s d (outer_row space up at z fz))
      go (inl h) = index_in_lem up at d low h
      go (inr h) = index_past up at d h

  scope_turn : (up at : Index) (o : Option ℕ) → (s.early ≡ true → LegalIndex top_name at) → ((d : ℕ) → o ≡ some d → d < length es) → OutSays space z (or_refused o no_such_scope fz >>= in_scope at) (scope_out_t (named_of o) names scopes s (outer_row space up at z fz))
  unfolding or_refused ◌>>=◌ scope_out_t number_of carried_by
  scope_turn up at none low f = refl
  scope_turn up at (some d) low f =
      let l = f d refl in
      let n = envs_length names scopes s.depth es open-scopes in
      let e : d % 4294967296 ≡ d = omega arith in
      rw e (index_out up at d low)

  out_numbers : (up at : Index) → (s.early ≡ true → LegalIndex top_name at) → OutSays space z (resolve_outer early es fz space up at z) (outer_numbers_t (as_index up) (as_index at) names scopes s (outer_row space up at z fz))
  unfolding resolve_outer outer_numbers up_number outer_numbers_t as_index ◌>>=◌
  out_numbers (Num d) (Num n) low = (d, n, refl, refl)
  out_numbers (Num d) (Id name) low = index_out (Num d) (Id name) d low
  out_numbers (Id name) at low = rw (scope_named_lem names scopes name s.depth es open-scopes) (scope_turn (Id name) at (named es name) low (named_below es name))

  out_turn : (o : OuterRow) → o.space ≡ space → o.z ≡ z → (out : List ℕ) (r : Result Operand) (w : CodeResult Outward Refused) → OutSays space z r w
      → Says r (λ x w. w ≡ put_then (put_all out s.to (operand_row x)) λ to out'. Ok (written_t s to) & out') (outward_t w out s o)
  unfolding outward_t operand_row taken as_index
  out_turn o es ez out (refused n p) w h = rw h (out, refl)
  out_turn o es ez out (ok x) w h = rw (h.2, h.3, put_one_lem out s.to (Outer space (Num h.0) (Num h.1) z), es, ez)

-- the code writes the OUTER that the rules make, or refuses with the same
pub outer_agrees : (names : List Slot) (scopes : List (List ℕ)) (early : Bool) (es : List Env) (fz space : ℕ) (up at : Index) (z : ℕ) (out : List ℕ) (s : WriteState) → Timed early s.early names scopes s.before s.depth es → (s.early ≡ true → LegalIndex top_name at) → Envs names scopes s.depth es → s.depth < 4294967296
    → Says (resolve_outer early es fz space up at z) (λ x w. w ≡ put_then (put_all out s.to (operand_row x)) λ to out'. Ok (written_t s to) & out') (write_outer_t names scopes out s (outer_row space up at z fz))
unfolding write_outer_t
outer_agrees names scopes early es fz space up at z out s timed low en few =
    out_turn names scopes s early es timed en few fz space z (outer_row space up at z fz) refl refl out (resolve_outer early es fz space up at z) _ (out_numbers names scopes s early es timed en few fz space z up at low)
