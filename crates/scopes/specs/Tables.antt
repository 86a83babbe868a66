-- The tables of a form of at most 4,096 rows: the scope of each row, the number of each declaration, and chains on which declarations are
-- found by their name and by their number.
use Rattle.std.specs.Prelude.{◌≡◌, Bool, ◌&&◌, List, ℕ, zero, suc, ◌+◌, ◌*◌, ◌%◌, ◌≤◌, ◌<◌, eqb, ltb, length, get_or, set, Option, Some, None}
use Rattle.kit.specs.Pick.{pick}
use Rattle.row_parts.specs.Parts.{code_at, b_at, x_at, rows_in}
use Rattle.scopes.specs.Scopes.{scope_of, is_meant}
use Rattle.scopes.specs.declared.Key.{Key}
use Rattle.scopes.specs.declared.Key.TheVariants.{Name, Number, Inserted}
use Rattle.scopes.specs.declared.Found.{Found}

-- ---- the number of a declaration

-- a DECL of a space in a scope
unfoldable pub stands : (form : List ℕ) (scope space row : ℕ) → Bool
stands form scope space row = eqb (scope_of form row) scope && eqb (code_at form row) 2 && eqb (b_at form row) space

-- how many of them there are above a row
unfoldable pub count_above : (form : List ℕ) (scope space row : ℕ) → ℕ
count_above form scope space zero = zero
count_above form scope space (suc row) = pick (stands form scope space row) (count_above form scope space row + 1) (count_above form scope space row)

-- how many of the space that a row names its scope has above it
unfoldable pub count_of : (form : List ℕ) (row : ℕ) → ℕ
count_of form row = count_above form (scope_of form row) (b_at form row) row

-- ---- chains

-- the chain of a name or a number in a space of a scope
unfoldable pub chain_of : (scope space value : ℕ) → ℕ
chain_of scope space value = (value % 4096 + scope * 1031 + space * 331) % 4096

-- there are three kinds of chains: by the space alone, by the name, and by the number
unfoldable pub value_of : (form : List ℕ) (kind row : ℕ) → ℕ
value_of form kind row = pick (eqb kind 1) (x_at form row) (pick (eqb kind 2) (count_of form row) 0)

-- the chain of a kind on which a row is
unfoldable pub chain_at : (form : List ℕ) (kind row : ℕ) → ℕ
chain_at form kind row = chain_of (scope_of form row) (b_at form row) (value_of form kind row)

-- is the row a DECL on the chain?
unfoldable pub is_on : (form : List ℕ) (kind chain row : ℕ) → Bool
is_on form kind chain row = eqb (code_at form row) 2 && eqb (chain_at form kind row) chain

-- one more than the last row on the chain above a row; 0 where there is none
unfoldable pub last_above : (form : List ℕ) (kind chain row : ℕ) → ℕ
last_above form kind chain zero = zero
last_above form kind chain (suc row) = pick (is_on form kind chain row) (suc row) (last_above form kind chain row)

-- a row on a chain: linked to the one before it, and if it is a DECL the last one
unfoldable pub linked : (form chains : List ℕ) (chain row : ℕ) → List ℕ
linked form chains chain row =
    let before = set chains (4096 + row) (get_or chains chain 0) in
    pick (eqb (code_at form row) 2) (set before chain (row + 1)) before

-- ---- the first declaration that has a key

-- is the row the first of a scope?
unfoldable pub is_scope : (form : List ℕ) (row : ℕ) → Bool
is_scope form row = ltb 0 row && ltb row (rows_in form) && eqb (scope_of form row) row

-- the kind of chain on which a key is sought; the first inserted declaration is on none
abbrev pub kind_of : Key → ℕ
kind_of (Name wanted) = 1
kind_of (Number wanted) = 2
kind_of Inserted = 0

-- the name or the number that a key wants
abbrev pub sought_by : Key → ℕ
sought_by (Name wanted) = wanted
sought_by (Number wanted) = wanted
sought_by Inserted = 0

-- is the row a declaration of the space in the scope that has the key?
unfoldable pub is_sought : (form : List ℕ) (scope space : ℕ) → Key → (row : ℕ) → Bool
is_sought form scope space key row = stands form scope space row && is_meant key (x_at form row) (count_of form row)

-- one more than the first such row above a row; where there is none, what was found below
unfoldable pub first_above : (form : List ℕ) (scope space : ℕ) → Key → (row found : ℕ) → ℕ
first_above form scope space key zero found = found
first_above form scope space key (suc row) found = first_above form scope space key row (pick (is_sought form scope space key row) (suc row) found)

-- the declaration at the row before
unfoldable pub found_at : (form : List ℕ) (behind : ℕ) → Option Found
found_at form zero = None
found_at form (suc row) = Some (record { row = row; number = count_of form row })

-- ---- the tables

-- of the scopes and the numbers, up to a row
unfoldable pub Scopes : (form known : List ℕ) (to : ℕ) → Type 0
Scopes form known to = (i : ℕ) → i < to → get_or known i 0 ≡ scope_of form i

-- behind the scopes stand the numbers
unfoldable pub Counts : (form known : List ℕ) (to : ℕ) → Type 0
Counts form known to = (i : ℕ) → i < to → get_or known (4096 + i) 0 ≡ count_of form i

-- of a kind of chain: its last rows above a row, and behind them for each of these rows the one before it on its chain
unfoldable pub Heads : (form : List ℕ) (kind : ℕ) (chains : List ℕ) (to : ℕ) → Type 0
Heads form kind chains to = (i : ℕ) → i < 4096 → get_or chains i 0 ≡ last_above form kind i to

-- the link of a row is one more than the row before it on its chain
unfoldable pub Links : (form : List ℕ) (kind : ℕ) (chains : List ℕ) (to : ℕ) → Type 0
Links form kind chains to = (i : ℕ) → i < to → get_or chains (4096 + i) 0 ≡ last_above form kind (chain_at form kind i) i

-- a table of a kind of chain, for the rows above a row
pub record Chains (form : List ℕ) (kind : ℕ) (chains : List ℕ) (to : ℕ) : Type 0 where
  pub heads : Heads form kind chains to
  pub links : Links form kind chains to

-- all tables of a form of at most 4,096 rows
pub record Tabled (form known names numbers : List ℕ) : Type 0 where
  pub few : rows_in form ≤ 4096
  pub scopes : Scopes form known 4096
  pub counts : Counts form known (rows_in form)
  pub by_name : Chains form 1 names (rows_in form)
  pub by_number : Chains form 2 numbers (rows_in form)

-- tables that are lent are the form's; where none are, `known` has no entry
pub record Known (form known names numbers : List ℕ) : Type 0 where
  pub lent : 0 < length known → Tabled form known names numbers
