-- A step of the code says what a step of the rules says: it refuses with the same number and place and carries the same, or it is done as is asked.
use Rattle.std.specs.Prelude.{◌≡◌, Bool, ◌&&◌, not, List, ℕ, ◌≤◌, Result as CodeResult, Ok, Err}
use Rattle.std.proofs.Math.Path.{refl, ap}
use Rattle.std.proofs.Math.Bool.{true, false}
use Rattle.std.proofs.Math.Option.{Option, none, some}
use Rattle.kit.specs.Out.{Out, ◌&◌}
use Rattle.kit.specs.Pick.{pick}
use Rattle.rules.specs.Tools.{is_just}
use Rattle.rules.specs.Versions.{top_name}
use Rattle.rules.specs.Rows.{Index, Num, Id}
use Rattle.rules.specs.Tree.{Declaration}
use Rattle.rules.specs.Rules.{unknown, Entry, decls_in, Env, table_of, Lookup, found, absent, look_up, comes_later, Result, refused, ok, ◌>>=◌, find, or_refused, number_in}
use Rattle.rules.specs.Laws.Entries
use Rattle.rules.specs.Laws.Entries.{numbered, OfSpace, look_number, look_space}
use Rattle.rules.specs.Laws.RowLaws.{LegalIndex}
use Rattle.rows.specs.RowAt.{as_index}
use Rattle.names.specs.Table.{Slot, first_of, past_of, slots_in}
use Rattle.names.specs.Stands.{lookup_of, Opens}
use Rattle.names.proofs.Storey.{look_opens}
use Rattle.write.specs.declared.alias.WriteState.{WriteState}
use Rattle.late.specs.Late.{late_in}
use Rattle.write.specs.WriteState.{Wrote, wrote_then, stops}
use Rattle.write.specs.Alias.{sought_t, name_in_t, number_in_t}
use Rattle.write.specs.Own.{Wrote₂, wrote_then₂, stops₂}
use Rattle.agree.specs.Refusals.Carried.{said_of, told_of}
use Rattle.agree.specs.Tables.Earlier.{Come, late_is}
use Rattle.write.specs.declared.alias.Missing.TheVariants.{Late, Nothing as NotSought}
use Rattle.refusal.specs.declared.Refused.{Refused}
use Rattle.write.specs.declared.alias.Missing.{Missing}

-- the same refusal, or what is asked of a result
abbrev pub Says : {A X : Type 0} → Result A → (A → Out (CodeResult WriteState Refused) X → Type 0) → Out (CodeResult WriteState Refused) X → Type 0
Says {X = X} (refused n z) P w = (x : X) × (w ≡ (Err (record { refusal = said_of n z; told = told_of n }) & x))
Says (ok a) P w = P a w

-- ---- a step, and then another

pub says_then : {A B : Type 0} (r : Result A) (f : A → Result B) (P : A → Wrote → Type 0) (Q : B → Wrote → Type 0) (w : Wrote) (g : WriteState → List ℕ → Wrote)
    → Says r P w → ((a : A) → r ≡ ok a → P a w → Says (f a) Q (wrote_then w g stops)) → Says (r >>= f) Q (wrote_then w g stops)
unfolding ◌>>=◌ wrote_then
says_then (refused n z) f P Q w g h k = (h.0, rw h.1)
says_then (ok a) f P Q w g h k = k a refl h

pub says_then₂ : {A B : Type 0} (r : Result A) (f : A → Result B) (P : A → Wrote₂ → Type 0) (Q : B → Wrote₂ → Type 0) (w : Wrote₂) (g : WriteState → List Slot → List ℕ → Wrote₂)
    → Says r P w → ((a : A) → r ≡ ok a → P a w → Says (f a) Q (wrote_then₂ w g stops₂)) → Says (r >>= f) Q (wrote_then₂ w g stops₂)
unfolding ◌>>=◌ wrote_then₂
says_then₂ (refused n z) f P Q w g h k = go h.0 h.1
  where
    go : (x : Out (List Slot) (List ℕ)) → w ≡ (Err (record { refusal = said_of n z; told = told_of n }) & x) → Says (refused n z) Q (wrote_then₂ w g stops₂)
    go (e & o) q = (e & o, rw q)
says_then₂ (ok a) f P Q w g h k = k a refl h

-- what was done is done so
pub says_map : {A B X : Type 0} (r : Result A) (f : A → B) (P : A → Out (CodeResult WriteState Refused) X → Type 0) (Q : B → Out (CodeResult WriteState Refused) X → Type 0) (w : Out (CodeResult WriteState Refused) X) → Says r P w → ((a : A) → P a w → Q (f a) w) → Says (r >>= λ a. ok (f a)) Q w
unfolding ◌>>=◌
says_map (refused n z) f P Q w h k = h
says_map (ok a) f P Q w h k = k a h

-- ---- an index in a scope

abbrev pub index_in : List Declaration → (space : ℕ) → Index → Option ℕ
index_in ds space (Num n) = some n
index_in ds space (Id name) = find ds space name

pub number_is : (es : List Entry) (space : ℕ) (at : Index) (z : ℕ) → number_in es space at z ≡ or_refused (index_in (decls_in es) space at) (unknown space) z
unfolding number_in or_refused
number_is es space (Num n) z = refl
number_is es space (Id name) z = Entries.number_is es space name z

-- what a search in a space says where an index may have to stand before a field: late, or found, or nothing
abbrev pub sought_as : (space : ℕ) (late : Bool) → Option ℕ → CodeResult ℕ Missing
sought_as space true o = Err Late
sought_as space false none = Err (NotSought space)
sought_as space false (some n) = Ok n

-- whether an index names what is declared, but not before the field
abbrev pub late_at : (early : Bool) (decls before : List Declaration) (space : ℕ) → Index → Bool
late_at early decls before space (Num n) = false
late_at early decls before space (Id name) = early && comes_later decls before space name

module _ (names : List Slot) (scope : List ℕ) (far : ℕ) (early : Bool) (env : Env) (before : List Declaration) (come : early ≡ true → Come names scope far before) (space : ℕ) where
  -- `l` is what the rules' lookup answers
  sought : (name : ℕ) (l : Lookup) → OfSpace space l → (early ≡ true → name ≤ top_name) → sought_t (lookup_of l) names scope far early space name ≡ sought_as space (early && (is_just (numbered l) && not (is_just (find before space name)))) (numbered l)
  unfolding sought_t numbered
  sought name (absent asked) same low = go early
    where
      go : (b : Bool) → Err (NotSought asked) ≡ sought_as space (b && false) none
      go true = ap (λ s. Err (NotSought s)) same
      go false = ap (λ s. Err (NotSought s)) same
  sought name (found n row) same low = go early come low
    where
      last : (b : Bool) → pick b (Err Late) (Ok n) ≡ sought_as space b (some n)
      last true = unfold pick in refl
      last false = unfold pick in refl

      go : (b : Bool) → (b ≡ true → Come names scope far before) → (b ≡ true → name ≤ top_name)
          → pick b (pick (late_in names (first_of scope) far (past_of scope) space name) (Err Late) (Ok n)) (Ok n) ≡ sought_as space (b && (true && not (is_just (find before space name)))) (some n)
      go false c l = unfold pick in refl
      go true c l = unfold pick in (rw (late_is names (first_of scope) far (past_of scope) before space name (c refl).within (c refl).knows (l refl)) (last (not (is_just (find before space name)))))

  pub number_in_lem : (at : Index) → (early ≡ true → LegalIndex top_name at) → Opens names scope env → number_in_t names scope far early space (as_index at) ≡ sought_as space (late_at early (table_of env) before space at) (index_in (table_of env) space at)
  unfolding number_in_t as_index slots_in name_in_t comes_later
  number_in_lem (Num n) low opens = refl
  number_in_lem (Id name) low opens =
      rw (look_opens space name names scope env opens, ← look_number env.entries space name)
      (sought name (look_up env.entries space name) (look_space env.entries space name) (λ t. (low t).1))

-- what is asked of a result, in other words
pub says_also : {A X : Type 0} (r : Result A) (P Q : A → Out (CodeResult WriteState Refused) X → Type 0) (w : Out (CodeResult WriteState Refused) X) → Says r P w → ((a : A) → P a w → Q a w) → Says r Q w
says_also (refused n z) P Q w h k = h
says_also (ok a) P Q w h k = k a h
