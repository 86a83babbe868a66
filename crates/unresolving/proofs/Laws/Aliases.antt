-- What step B inserts for one reference, as step C leaves it.
use Rattle.std.specs.Prelude.{◌≡◌, Bool, true, false, ℕ, suc, ◌+◌, leb}
use Rattle.std.proofs.Math.Path.{refl, ap, sym}
use Rattle.std.proofs.Common.{◌∙◌, arith}
use Rattle.std.proofs.Math.Option.{none, some}
use mathlib.Core.List.{List, [], ◌∷◌}
use Rattle.rules.specs.Tools.{when◌then◌else◌, is_in}
use Rattle.rules.specs.Versions.{top_name}
use Rattle.rules.specs.Rows.{Index, Num, Id}
use Rattle.rules.specs.Tree.{Declaration, Operand, ref, Head, with_operands}
use Rattle.rules.specs.Shapes.{FOUR}
use Rattle.rules.specs.Rules
use Rattle.rules.specs.Rules.{Result, refused, ok, ◌>>=◌, Env, table_of, Outside, in_time, late_name, late_instance, find, fresh, walk, export_alias, outer_alias, path_aliases, number_in, resolve_operands, resolve_head, resolve_inserted}
use Rattle.rules.specs.Laws.RowLaws.{LegalIndex}
use Rattle.rules.specs.Laws.ToolLaws.{leb-false, and-false}
use Rattle.rules.specs.Laws.Entries.{number_is}
use Rattle.rules.specs.Laws.Results.{bind_inv, ok_then, ok_same}

-- ---- one alias of a path

unfoldable pub code_of : ℕ → ℕ
code_of space = when leb space 6 then 10 else 9

unfoldable pub from_of : ℕ → ℕ
from_of space = when leb space 6 then 6 else 10

unfoldable pub path_alias : (space new : ℕ) (at : Index) (p z : ℕ) → Head
path_alias space new at p z = export_alias (code_of space) space new (from_of space) at p z

-- the aliases before the last are of space 10
unfoldable pub first_space : (space : ℕ) → List ℕ → ℕ
first_space space [] = space
first_space space (q ∷ ps) = 10

-- those behind the first
unfoldable pub others : (space : ℕ) (ps : List ℕ) (z k : ℕ) → List Head
others space [] z k = []
others space (q ∷ ps) z k = path_aliases space (Id (fresh k)) q ps z (suc k)

pub aliases_split : (space : ℕ) (at : Index) (p : ℕ) (ps : List ℕ) (z k : ℕ) → path_aliases space at p ps z k ≡ path_alias (first_space space ps) (fresh k) at p z ∷ others space ps z k
unfolding path_aliases path_alias code_of from_of first_space others when◌then◌else◌
aliases_split space at p [] z k = go (leb space 6)
  where
    go : (b : Bool) → (when b then export_alias 10 space (fresh k) 6 at p z else export_alias 9 space (fresh k) 10 at p z) ∷ []
        ≡ export_alias (when b then 10 else 9) space (fresh k) (when b then 6 else 10) at p z ∷ []
    go true = refl
    go false = refl
aliases_split space at p (q ∷ ps) z k = refl

-- a path of more than one ends in none of the spaces 0 to 6
abbrev pub Short : (space : ℕ) → List ℕ → Type 0
Short space [] = Unit {0}
Short space (q ∷ ps) = leb space 6 ≡ false

pub nine_high : (space : ℕ) → code_of space ≡ 9 → leb space 6 ≡ false
unfolding code_of when◌then◌else◌
nine_high space e = go (leb space 6) refl e
  where
    go : (b : Bool) → leb space 6 ≡ b → ◌≡◌ {A = ℕ} (when b then 10 else 9) 9 → leb space 6 ≡ false
    go true t e = absurd (omega arith)
    go false t e = t

pub first_nine : (space q : ℕ) (ps : List ℕ) → Short space (q ∷ ps) → code_of (first_space space ps) ≡ 9
unfolding code_of first_space when◌then◌else◌
first_nine space q [] s = rw s
first_nine space q (r ∷ ps) s = refl

-- ---- what step C makes of it

number_then_lem : {A : Type 0} (m : Result ℕ) (f : ℕ → Operand) (g : List Operand → A)
    → ((m >>= λ n. (ok [] >>= λ os. ok (f n ∷ os))) >>= λ os. ok (g os)) ≡ (m >>= λ n. ok (g (f n ∷ [])))
unfolding ◌>>=◌
number_then_lem (refused n z) f g = refl
number_then_lem (ok n) f g = refl

module _ (here : Env) (outside : Outside) where
  pub alias_number : (space new : ℕ) (at : Index) (p z : ℕ)
      → resolve_head here outside (path_alias space new at p z) ≡ (number_in here.entries (from_of space) at z >>= λ n. ok (path_alias space new (Num n) p z))
  unfolding resolve_head resolve_operands path_alias export_alias with_operands
  alias_number space new at p z =
      number_then_lem (number_in here.entries (from_of space) at z) (λ n. ref (from_of space) (Num n) [] z) (λ os. with_operands (path_alias space new at p z) os)

  -- the first alias of a path, and the others
  pub record First (space : ℕ) (at : Index) (p : ℕ) (ps : List ℕ) (z k : ℕ) (hs : List Head) : Type 0 where
    pub n : ℕ
    pub number : number_in here.entries (from_of (first_space space ps)) at z ≡ ok n
    pub more : List Head
    pub resolves : resolve_inserted here outside (others space ps z k) ≡ ok more
    pub is : hs ≡ path_alias (first_space space ps) (fresh k) (Num n) p z ∷ more

  pub first : (space : ℕ) (at : Index) (p : ℕ) (ps : List ℕ) (z k : ℕ) (hs : List Head) → resolve_inserted here outside (path_aliases space at p ps z k) ≡ ok hs → First space at p ps z k hs
  unfolding resolve_inserted
  first space at p ps z k hs e =
      let e' = rw (aliases_split space at p ps z k) at e in
      let s₀ = bind_inv (in_time (late_instance here outside (path_alias (first_space space ps) (fresh k) at p z).operands) (path_alias (first_space space ps) (fresh k) at p z).z) _ hs e' in
      let s₁ = bind_inv (resolve_head here outside (path_alias (first_space space ps) (fresh k) at p z)) _ hs s₀.2 in
      let s₂ = bind_inv (resolve_inserted here outside (others space ps z k)) _ hs s₁.2 in
      let s₃ = bind_inv (number_in here.entries (from_of (first_space space ps)) at z) (λ n. ok (path_alias (first_space space ps) (fresh k) (Num n) p z)) s₁.0
      (sym (alias_number (first_space space ps) (fresh k) at p z) ∙ s₁.1) in
      record {
        n = s₃.0;
        number = s₃.1;
        more = s₂.0;
        resolves = s₂.1;
        is = sym (ok_same _ hs s₂.2) ∙ ap (λ (h : Head). h ∷ s₂.0) (sym (ok_same _ s₁.0 s₃.2));
      }

  -- an instance that is never late: a number, or an inserted alias
  abbrev pub Timely : Index → Type 0
  Timely (Num n) = Unit {0}
  Timely (Id x) = leb x top_name ≡ false

  timely : (space new : ℕ) (at : Index) (p z : ℕ) → Timely at → late_instance here outside (path_alias space new at p z).operands ≡ false
  unfolding late_instance path_alias export_alias
  timely space new (Num n) p z t = refl
  timely space new (Id x) p z t = rw t (and-false outside.early)

  in_time_lem : (late : Bool) (z : ℕ) → late ≡ false → in_time late z ≡ ok tt
  unfolding in_time when◌then◌else◌
  in_time_lem late z e = rw e

  pub first_makes : (space : ℕ) (at : Index) (p : ℕ) (ps : List ℕ) (z k : ℕ) (hs : List Head) → Timely at → First space at p ps z k hs → resolve_inserted here outside (path_aliases space at p ps z k) ≡ ok hs
  unfolding resolve_inserted
  first_makes space at p ps z k hs t F =
      let first_is : resolve_head here outside (path_alias (first_space space ps) (fresh k) at p z) ≡ ok (path_alias (first_space space ps) (fresh k) (Num F.n) p z) =
      alias_number (first_space space ps) (fresh k) at p z ∙ ok_then _ _ F.n _ F.number refl in
      rw (aliases_split space at p ps z k, F.is)
      (ok_then _ _ tt _ (in_time_lem _ _ (timely (first_space space ps) (fresh k) at p z t)) (ok_then _ _ _ _ first_is (ok_then _ _ _ _ F.resolves refl)))

  pub fresh_timely : (k : ℕ) → Timely (Id (fresh k))
  unfolding fresh
  fresh_timely k = leb-false (2147483648 + k) top_name (omega arith)

  -- the number in place of the name
  pub by_number_lem : (space x : ℕ) (p : ℕ) (ps : List ℕ) (z k n : ℕ) (hs : List Head) → Timely (Id x) → find (table_of here) (from_of (first_space space ps)) x ≡ some n
      → resolve_inserted here outside (path_aliases space (Num n) p ps z k) ≡ ok hs → resolve_inserted here outside (path_aliases space (Id x) p ps z k) ≡ ok hs
  unfolding number_in Rules.or_refused
  by_number_lem space x p ps z k n hs t f e =
      let F = first space (Num n) p ps z k hs e in
      let number : number_in here.entries (from_of (first_space space ps)) (Id x) z ≡ ok n = number_is here.entries (from_of (first_space space ps)) x z ∙ rw f in
      first_makes space (Id x) p ps z k hs t
      (record { n = n; number = number; more = F.more; resolves = F.resolves; is = F.is ∙ ap (λ (m : ℕ). path_alias (first_space space ps) (fresh k) (Num m) p z ∷ F.more) (sym (ok_same n F.n F.number)) })

-- ---- each alias

-- as step B makes them, with the name that it was made for, or the number of its instance; `Q` holds of the spaces of paths
pub data Alias (Q : ℕ → Type 0) (ds : List Declaration) (outside : Outside) (k : ℕ) (a : Head) : Type 0 where
  outward : (space name z : ℕ) (at : ℕ × ℕ) → LegalIndex top_name (Id name) → is_in space FOUR ≡ true → late_name ds outside space name ≡ false → find ds space name ≡ none → walk outside.scopes 1 space name ≡ some at
      → a ≡ outer_alias space (fresh k) at.0 at.1 z → Alias Q ds outside k a
  exported : (space n p z : ℕ) → Q space → is_in space (4 ∷ 6 ∷ []) ≡ false → a ≡ path_alias space (fresh k) (Num n) p z → Alias Q ds outside k a

-- their numbers follow one another
abbrev pub Aliases : (Q : ℕ → Type 0) (ds : List Declaration) (outside : Outside) (k : ℕ) → List Head → Type 0
Aliases Q ds outside k [] = Unit {0}
Aliases Q ds outside k (a ∷ hs) = Alias Q ds outside k a × Aliases Q ds outside (suc k) hs
