-- What rows have led to: their part of a well-formed tree, and the scopes that are open.
use Rattle.std.specs.Prelude.{◌≡◌, ℕ, ◌+◌, ◌≤◌}
use Rattle.std.proofs.Math.Path.{refl}
use Rattle.std.proofs.Common.{ap, ap₂, sym, ◌∙◌, arith}
use Rattle.std.proofs.Math.Option.{Option, none, some}
use mathlib.Core.List.{List, [], ◌∷◌, ◌++◌, map, append-nil}
use Rattle.rules.specs.Versions.{RuleSet}
use Rattle.rules.specs.Rows.{Row, Field, Decl, Ref, Path, Outer, Case, Open, Close, Export}
use Rattle.rules.specs.Tree.{Scope, Fields, flatten}
use Rattle.rules.specs.Good.{kind_of, GoodScope, height}
use Rattle.rules.specs.Begins.{opening, closing, total}
use Rattle.rules.specs.Reader
use Rattle.rules.specs.Reader.{Around, root, inside, Current, between_fields, within, State, start, state, Next, wrong, on, whole, depth, open_here, step}
use Rattle.rules.specs.Laws.ToolLaws.{if_ok_lem, snoc_append}
use Rattle.rules.specs.Laws.Read.Steps.{after, after_wrong}
use Rattle.rules.proofs.Laws.Read.ReadSound.{state_rows, highest, GoodState, NextOk, step_ok}

-- ---- lists

pub some_append : (xs ys : List Row) → map some (xs ++ ys) ≡ map some xs ++ map some ys
some_append [] ys = refl
some_append (x ∷ xs) ys = ap (λ (l : List (Option Row)). some x ∷ l) (some_append xs ys)

total_append : (f : Option Row → ℕ) (xs ys : List (Option Row)) → total f (xs ++ ys) ≡ total f xs + total f ys
unfolding total
total_append f [] ys = omega arith
total_append f (x ∷ xs) ys = rw (total_append f xs ys) (omega arith)

pub total_snoc : (f : Option Row → ℕ) (xs : List Row) (row : Row) → total f (map some (xs ++ (row ∷ []))) ≡ total f (map some xs) + f (some row)
unfolding total
total_snoc f xs row = rw (some_append xs (row ∷ []), total_append f (map some xs) (some row ∷ [])) (omega arith)

-- rows that were all taken apart
pub unsome : (xs ys : List Row) → map some xs ≡ map some ys → xs ≡ ys
unsome [] [] e = refl
unsome [] (y ∷ ys) e = let no_way : ◌≡◌ {A = ℕ} 0 1 = cc in absurd (omega arith)
unsome (x ∷ xs) [] e = let no_way : ◌≡◌ {A = ℕ} 0 1 = cc in absurd (omega arith)
unsome (x ∷ xs) (y ∷ ys) e =
    let h : x ≡ y = cc in
    let t : map some xs ≡ map some ys = cc in
    ap₂ (λ (a : Row) (l : List Row). a ∷ l) h (unsome xs ys t)

-- `all` begins with `rows` and then the row `row`, which was taken apart
pub record Unmapped (all rows : List Row) (row : Option Row) : Type 0 where
  pub x : Row
  pub rest : List Row
  pub is_x : row ≡ some x
  pub split : all ≡ rows ++ (x ∷ rest)

keep : {a b : Row} {all rows : List Row} {row : Option Row} → a ≡ b → Unmapped all rows row → Unmapped (a ∷ all) (b ∷ rows) row
keep h u = record { x = u.x; rest = u.rest; is_x = u.is_x; split = ap₂ (λ (a : Row) (l : List Row). a ∷ l) h u.split }

pub unmap : (all rows : List Row) (row : Option Row) (more : List (Option Row)) → map some all ≡ map some rows ++ (row ∷ more)
    → Unmapped all rows row
unmap [] [] row more e = let no_way : ◌≡◌ {A = ℕ} 0 1 = cc in absurd (omega arith)
unmap (x ∷ all) [] row more e = record { x = x; rest = all; is_x = cc; split = refl }
unmap [] (y ∷ rows) row more e = let no_way : ◌≡◌ {A = ℕ} 0 1 = cc in absurd (omega arith)
unmap (x ∷ all) (y ∷ rows) row more e =
    let t : map some all ≡ map some rows ++ (row ∷ more) = cc in
    keep (cc) (unmap all rows row more t)

-- `all` begins with `rows`, which were all taken apart
pub record Apart (all : List Row) (rows : List (Option Row)) : Type 0 where
  pub first : List Row
  pub second : List Row
  pub is_first : rows ≡ map some first
  pub split : all ≡ first ++ second

apart_more : {row : Row} {o : Option Row} {all : List Row} {rows : List (Option Row)} → o ≡ some row → Apart all rows → Apart (row ∷ all) (o ∷ rows)
apart_more {row} e a =
    record {
      first = row ∷ a.first;
      second = a.second;
      is_first = ap₂ (λ (x : Option Row) (l : List (Option Row)). x ∷ l) e a.is_first;
      split = ap (λ (l : List Row). row ∷ l) a.split;
    }

pub apart : (all : List Row) (rows more : List (Option Row)) → map some all ≡ rows ++ more → Apart all rows
apart all [] more e = record { first = []; second = all; is_first = refl; split = refl }
apart [] (o ∷ rows) more e = let no_way : ◌≡◌ {A = ℕ} 0 1 = cc in absurd (omega arith)
apart (row ∷ all) (o ∷ rows) more e =
    let h : o ≡ some row = cc in
    let t : map some all ≡ rows ++ more = cc in
    apart_more h (apart all rows more t)

-- ---- two readings of one Next

pub from_wrong : {A : Type 0} {t : Scope} → wrong ≡ whole t → A
from_wrong e = let no_way : ◌≡◌ {A = ℕ} 0 1 = cc in absurd (omega arith)

pub from_on : {A : Type 0} {s : State} {t : Scope} → on s ≡ whole t → A
from_on e = let no_way : ◌≡◌ {A = ℕ} 0 1 = cc in absurd (omega arith)

pub same_whole : {t t' : Scope} → whole t ≡ whole t' → t ≡ t'
same_whole e = cc

-- ---- the open scopes, counted

pub highest_open : (s : State) → open_here s ≤ highest s
unfolding open_here
highest_open start = omega arith
highest_open (state a kind name before c) = omega arith

-- what a row does to the number of open scopes
abbrev Counts : State → Row → Next → Type 0
Counts s row wrong = Unit {0}
Counts s row (on s') = open_here s' + closing (some row) ≡ open_here s + opening (some row)
Counts s row (whole t) = closing (some row) ≡ open_here s + opening (some row)

stays_counts : (a : Around) (kind name : ℕ) (before : Fields) (c : Current) (row : Row) (o : Option Current) → opening (some row) ≡ 0 → closing (some row) ≡ 0
    → Counts (state a kind name before c) row (Reader.stays a kind name before o)
unfolding Reader.stays open_here
stays_counts a kind name before c row none p q = tt
stays_counts a kind name before c row (some c') p q = omega arith

starts_counts : (a : Around) (kind name : ℕ) (before : Fields) (c : Current) (code builtin z : ℕ) (o : Option Fields)
    → Counts (state a kind name before c) (Field code builtin z) (Reader.starts a kind name code builtin z o)
unfolding Reader.starts open_here opening closing
starts_counts a kind name before c code builtin z none = tt
starts_counts a kind name before c code builtin z (some fs) = if_ok_lem (Counts (state a kind name before c) (Field code builtin z)) _ _ _ (λ e. refl) (λ e. tt)

closes_counts : (a : Around) (kind name : ℕ) (before : Fields) (c : Current) (o : Option Fields)
    → Counts (state a kind name before c) Close (Reader.closes a kind name o)
unfolding Reader.closes open_here depth opening closing
closes_counts a kind name before c none = tt
closes_counts root kind name before c (some fs) = refl
closes_counts (inside kind' name' before' holder a) kind name before c (some fs) = omega arith

module _ (rules : RuleSet) where
  opened_counts : (a : Around) (kind name : ℕ) (before : Fields) (kind' name' : ℕ) (c : Current)
      → Counts (state a kind name before c) (Open kind' name') (Reader.opened rules a kind name before kind' name' c)
  unfolding Reader.opened open_here depth opening closing
  opened_counts a kind name before kind' name' between_fields = tt
  opened_counts a kind name before kind' name' (within h stage) = if_ok_lem (Counts (state a kind name before (within h stage)) (Open kind' name')) _ _ _ (λ e. omega arith) (λ e. tt)

  step_counts : (s : State) (row : Row) → Counts s row (step rules s row)
  unfolding step Reader.first_row open_here depth opening closing
  step_counts start (Field code builtin z) = tt
  step_counts start (Decl space n z) = tt
  step_counts start (Ref space at paths z) = tt
  step_counts start (Path n) = tt
  step_counts start (Outer space up at z) = tt
  step_counts start (Case n z) = tt
  step_counts start (Open kind name) = if_ok_lem (Counts start (Open kind name)) _ _ _ (λ e. refl) (λ e. tt)
  step_counts start Close = tt
  step_counts start (Export n) = tt
  step_counts (state a kind name before c) (Field code builtin z) = starts_counts a kind name before c code builtin z _
  step_counts (state a kind name before c) (Decl space n z) = stays_counts a kind name before c (Decl space n z) _ refl refl
  step_counts (state a kind name before c) (Ref space at paths z) = stays_counts a kind name before c (Ref space at paths z) _ refl refl
  step_counts (state a kind name before c) (Path n) = stays_counts a kind name before c (Path n) _ refl refl
  step_counts (state a kind name before c) (Outer space up at z) = stays_counts a kind name before c (Outer space up at z) _ refl refl
  step_counts (state a kind name before c) (Case n z) = stays_counts a kind name before c (Case n z) _ refl refl
  step_counts (state a kind name before c) (Export n) = stays_counts a kind name before c (Export n) _ refl refl
  step_counts (state a kind name before c) (Open kind' name') = opened_counts a kind name before kind' name' c
  step_counts (state a kind name before c) Close = closes_counts a kind name before c _

  -- ---- what rows have led to

  -- these rows have led here, and are the rows that this says
  abbrev pub Reached : List Row → Next → Type 0
  Reached rows wrong = Unit {0}
  Reached rows (on s) =
      GoodState rules s × (state_rows s ≡ rows) × (total opening (map some rows) ≡ total closing (map some rows) + open_here s)
  Reached rows (whole t) =
      (kind_of t ≡ 0) × GoodScope rules t × (flatten t ≡ rows) × (total opening (map some rows) ≡ total closing (map some rows))

  pub reached_step : (rows : List Row) (s : State) (row : Row) → Reached rows (on s) → Reached (rows ++ (row ∷ [])) (step rules s row)
  reached_step rows s row h = go (step rules s row) (step_ok rules s row h.0) (step_counts s row)
    where
      go : (n : Next) → NextOk rules s row n → Counts s row n → Reached (rows ++ (row ∷ [])) n
      go wrong k c = tt
      go (on s') k c = (k.0, k.1 ∙ ap (λ (l : List Row). l ++ (row ∷ [])) h.1, omega (arith, total_snoc opening rows row, total_snoc closing rows row))
      go (whole t) k c =
          (k.0, k.1, k.2 ∙ ap (λ (l : List Row). l ++ (row ∷ [])) h.1, omega (arith, total_snoc opening rows row, total_snoc closing rows row))

  reached_on : (more rows : List Row) (n : Next) → Reached rows n → Reached (rows ++ more) (after rules n more)
  unfolding after
  reached_on [] rows n h = rw append-nil h
  reached_on (row ∷ more) rows wrong h = tt
  reached_on (row ∷ more) rows (on s) h =
      rw snoc_append at (reached_on more (rows ++ (row ∷ [])) (step rules s row) (reached_step rows s row h))
  reached_on (row ∷ more) rows (whole t) h = tt

  pub reached : (rows : List Row) → Reached rows (after rules (on start) rows)
  unfolding open_here total
  reached rows = reached_on rows [] (on start) (tt, refl, refl)

  -- the scopes that have been open are open in the tree
  pub highest_in_tree : (more : List Row) (s : State) (t : Scope) → GoodState rules s → after rules (on s) more ≡ whole t → highest s ≤ height t
  unfolding after
  highest_in_tree [] s t g e = from_on e
  highest_in_tree (row ∷ more) s t g e = go (step rules s row) (step_ok rules s row g) e (λ s' g' e'. highest_in_tree more s' t g' e')
    where
      go : (n : Next) → NextOk rules s row n → after rules n more ≡ whole t
          → ((s' : State) → GoodState rules s' → after rules (on s') more ≡ whole t → highest s' ≤ height t) → highest s ≤ height t
      go wrong k e' rec = from_wrong (sym (after_wrong rules more) ∙ e')
      go (on s') k e' rec = omega (arith, rec s' k.0 e', k.2)
      go (whole t') k e' rec = last more e'
        where
          last : (rest : List Row) → after rules (whole t') rest ≡ whole t → highest s ≤ height t
          last [] e'' = let same : t' ≡ t = same_whole e'' in rw (← same) (omega (arith, k.3))
          last (x ∷ rest) e'' = from_wrong e''
