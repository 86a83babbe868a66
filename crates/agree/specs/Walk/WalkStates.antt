-- What the walk has ready, and what it has done.
use Rattle.std.specs.Prelude.{◌≡◌, refl, true, false, List, [], ◌∷◌, ◌++◌, ℕ, ◌+◌, ◌≤◌, ◌<◌, eqb, length, get_or, take, Ok, Err}
use Rattle.kit.specs.Out.{Out, ◌&◌}
use Rattle.rules.specs.Versions.{RuleSet}
use Rattle.rules.specs.Rows.{Row, Close}
use Rattle.rules.specs.Tree.{Declaration, Head, Scope, Fields, Item, head_of, head_rows, flatten, fields_rows, item_rows}
use Rattle.rules.specs.Good.{GoodScope, GoodFields, GoodItem, height, heights, height_item}
use Rattle.rules.specs.Rules.{Entry, decls_in, table_of, Outside, opened, Result, refused, ok, ◌>>=◌, Env, fresh, Expanded, expand_head, expand_fields, heads_decls, resolve_scope, resolve_fields, resolve_item}
use Rattle.rules.specs.Laws.Meaning.Names.{LowHead, LowScope, LowFields, LowItem, DeclScope, DeclFields, DeclItem}
use Rattle.rules.proofs.Laws.Output.FourTimes.{inner}
use Rattle.rules.proofs.Laws.Output.Counts.{deep}
use Rattle.rows.specs.RowAt.{code_at}
use Rattle.names.specs.Table.{Slot, past_of, innermost_t}
use Rattle.names.specs.Stands.{Envs, Below}
use Rattle.write.specs.declared.alias.WriteState.{WriteState}
use Rattle.write.specs.WriteState.{begun_t}
use Rattle.write.specs.Own.{Wrote₂, wrote_then₂}
use Rattle.walk.specs.Scopes.{Wrote₃, wrote_then₃, stops₃, field_walk_t, fields_walk_t, scope_walk_t}
use Rattle.agree.specs.Refusals.Carried.{said_of, told_of}
use Rattle.agree.specs.Tables.Sizes.{most, Sizes}
use Rattle.agree.specs.Rows.At.{At, put_all}
use Rattle.form.specs.Ends.{Ends, Inside, EndsIn}
use Rattle.agree.specs.Tables.Slots.{decl_slots, head_slots, fields_slots}
use Rattle.agree.specs.Fit.Spaces.{SpacesHead}
use Rattle.agree.specs.StepC.WriteAgrees.{heads_rows}
use Rattle.agree.specs.Tables.Cursor.{Left, Under, Apart}
use Rattle.agree.specs.Tables.Earlier.{Earlier}
use Rattle.agree.specs.Refusals.Answers.{Says}
use Rattle.agree.specs.StepC.HeadAgrees.{head_says}

-- the tables have their sizes, the scopes are open, and there is room for what is to come
pub record Ready (sizes : Sizes) (entered names : List Slot) (scopes : List (List ℕ)) (s : WriteState) (es : List Env) (height more k : ℕ) : Type 0 where
  pub room : length entered ≡ sizes.entered
  pub size : length names ≡ sizes.names
  pub depths : length scopes ≡ sizes.scopes
  pub envs : Envs names scopes s.depth es
  pub below : Below s.used scopes s.depth
  pub deep : s.depth + height ≤ sizes.scopes
  pub slots : s.used + more ≤ sizes.names
  pub numbers : k + more ≤ most
  pub fresh : s.fresh ≡ 2147483648 + k
  pub earlier : s.early ≡ true → Earlier names scopes s.before s.depth es

-- the rows are written, the walk has arrived at the row `at`, and k is the next fresh number
pub record Gone (sizes : Sizes) (s : WriteState) (names : List Slot) (out : List ℕ) (at k : ℕ) (rows : List Row) (w : Wrote₃) : Type 0 where
  pub state : WriteState
  pub entered' : List Slot
  pub names' : List Slot
  pub after : List ℕ
  pub is : w ≡ (Ok state & entered' & names' & after)
  pub arrived : state.at ≡ at
  pub fresh : state.fresh ≡ 2147483648 + k
  pub wrote : (state.to & after) ≡ put_all out s.to rows
  pub room : length entered' ≡ sizes.entered
  pub size : length names' ≡ sizes.names
  pub kept : take s.used names' ≡ take s.used names

-- a field is done: its slots are passed too
pub record FieldGone (sizes : Sizes) (s : WriteState) (names : List Slot) (out : List ℕ) (at next k : ℕ) (rows : List Row) (w : Wrote₃) : Type 0 where
  pub gone : Gone sizes s names out at k rows w
  pub used : gone.state.used ≡ s.used
  pub passes : gone.state.next ≡ next
  pub asks : gone.state.early ≡ s.early

-- ---- a step, and then another

pub says_then₃ : {A B : Type 0} (r : Result A) (f : A → Result B) (P : A → Wrote₃ → Type 0) (Q : B → Wrote₃ → Type 0) (w : Wrote₃) (g : WriteState → List Slot → List Slot → List ℕ → Wrote₃)
    → Says r P w → ((a : A) → r ≡ ok a → P a w → Says (f a) Q (wrote_then₃ w g stops₃)) → Says (r >>= f) Q (wrote_then₃ w g stops₃)
unfolding ◌>>=◌ wrote_then₃
says_then₃ (refused n z) f P Q w g h k = go h.0 h.1
  where
    go : (x : Out (List Slot) (Out (List Slot) (List ℕ))) → w ≡ (Err (record { refusal = said_of n z; told = told_of n }) & x) → Says (refused n z) Q (wrote_then₃ w g stops₃)
    go (e & m & o) q = (e & m & o, rw q)
says_then₃ (ok a) f P Q w g h k = k a refl h

pub says_field : {A B : Type 0} (r : Result A) (f : A → Result B) (P : A → Wrote₂ → Type 0) (Q : B → Wrote₃ → Type 0) (w : Wrote₂) (g : WriteState → List Slot → List ℕ → Wrote₃) (names : List Slot)
    → Says r P w → ((a : A) → r ≡ ok a → P a w → Says (f a) Q (wrote_then₂ w g λ why e o. Err why & e & names & o)) → Says (r >>= f) Q (wrote_then₂ w g λ why e o. Err why & e & names & o)
unfolding ◌>>=◌ wrote_then₂
says_field (refused n z) f P Q w g names h k = go h.0 h.1
  where
    go : (x : Out (List Slot) (List ℕ)) → w ≡ (Err (record { refusal = said_of n z; told = told_of n }) & x) → Says (refused n z) Q (wrote_then₂ w g λ why e o. Err why & e & names & o)
    go (e & o) q = (e & names & o, rw q)
says_field (ok a) f P Q w g names h k = k a refl h

-- what step C makes of an item, with what was inserted before it
unfoldable pub item_says : (i : Item) (env : Env) (outside : Outside) (k : ℕ) → Expanded Head → Result (List Head × (Item × ℕ))
item_says i env outside k e = head_says env outside e >>= λ p. resolve_item i p.1 env outside k >>= λ r. ok (p.0, r)

-- ---- what is to be shown of a scope, of its fields, of one of them

module _ (rules : RuleSet) (sizes : Sizes) (rows ends : List ℕ) where
  abbrev pub ScopeGoes : Scope → Type 0
  ScopeGoes t =
      (allowed k : ℕ) (outside : Outside) (entered names : List Slot) (scopes : List (List ℕ)) (out : List ℕ) (s : WriteState)
      → outside.early ≡ s.early → outside.before.decls ≡ [] → outside.before.row ≡ s.at + 1 → height t ≤ allowed → At rows s.at (flatten t) → EndsIn t ends s.at → GoodScope rules t → DeclScope t → (s.early ≡ true → LowScope t) → Ready sizes entered names scopes s outside.scopes (height t) (length (flatten t)) k
      → Says (resolve_scope t outside k) (λ r w. Gone sizes s names out (s.at + length (flatten t)) r.1 (flatten r.0) w × (r.1 ≤ k + length (flatten t))) (scope_walk_t rows ends allowed entered names scopes out s)

  abbrev pub FieldsGo : Fields → Type 0
  FieldsGo fs =
      (allowed kind b k : ℕ) (here₀ : List Declaration) (env : Env) (outside : Outside) (before : List Declaration) (X : List Entry × ℕ) (entered names : List Slot) (scopes : List (List ℕ)) (out : List ℕ) (s : WriteState) (depth turns : ℕ)
      → outside.early ≡ s.early → outside.before.row ≡ s.at → heights fs ≤ allowed → At rows s.at (fields_rows fs ++ (Close ∷ [])) → Ends fs ends s.at → GoodFields rules fs kind → DeclFields fs → (s.early ≡ true → LowFields fs)
      → expand_fields here₀ outside b fs ≡ ok X → table_of env ≡ before ++ decls_in X.0 → Under (fresh b) before
      → Left names (past_of (innermost_t scopes depth)) s.next (fields_slots here₀ outside before b s.at fs)
      → Ready sizes entered names scopes (begun_t s depth) (opened env outside) (heights fs) (deep fs) k → length (fields_rows fs) < turns
      → Says (resolve_fields fs here₀ env outside b k) (λ r w. Gone sizes s names out (s.at + length (fields_rows fs) + 1) r.1 (fields_rows r.0 ++ (Close ∷ [])) w × (r.1 ≤ k + deep fs)) (fields_walk_t rows ends (scope_walk_t rows ends allowed) entered names scopes out s depth turns)

  abbrev pub ItemGoes : Item → Type 0
  ItemGoes i =
      (allowed kind b k : ℕ) (here₀ : List Declaration) (env : Env) (outside : Outside) (before after : List Declaration) (e : Expanded Head) (rest : List Slot) (entered names : List Slot) (scopes : List (List ℕ)) (out : List ℕ) (s : WriteState)
      → outside.early ≡ s.early → outside.before.row ≡ s.at → height_item i ≤ allowed → At rows s.at (item_rows i) → eqb (code_at rows (s.at + length (item_rows i))) 7 ≡ false → get_or ends s.at 0 ≡ s.at + length (item_rows i) → Inside i ends s.at
      → GoodItem rules i kind → SpacesHead (head_of i) → DeclItem i → (s.early ≡ true → LowHead (head_of i)) → (s.early ≡ true → LowItem i)
      → expand_head here₀ outside b (head_of i) ≡ ok e
      → Left names (past_of (innermost_t scopes s.depth)) s.next (head_slots here₀ outside before b s.at (head_of i) ++ (decl_slots (before ++ heads_decls e.inserted) (s.at + 1) (head_of i).decls ++ rest))
      → ((r : ℕ) → s.at ≤ r → r < s.at + length (head_rows (head_of i)) → Apart r rest)
      → table_of env ≡ before ++ (heads_decls e.inserted ++ ((head_of i).decls ++ after)) → Under (fresh b) before → s.alias ≡ s.next → s.seen ≡ 0
      → Ready sizes entered names scopes s (opened env outside) (height_item i) (inner i) k
      → Says (item_says i env outside k e) (λ x w. FieldGone sizes s names out (s.at + length (item_rows i)) (s.next + length e.inserted + length (head_of i).decls) x.1.1 (heads_rows x.0 ++ item_rows x.1.0) w × (x.1.1 ≤ k + inner i))
      (field_walk_t rows ends (scope_walk_t rows ends allowed) entered names scopes out s)
