-- Scopes by their names and declarations alone: names are found in them, and around them, as in the scopes of step C.
use Rattle.std.specs.Prelude.{◌≡◌, false, List, [], ◌∷◌, map, ℕ, zero, suc}
use Rattle.std.proofs.Math.Path.{refl}
use Rattle.std.proofs.Common.{ap, sym, ◌∙◌}
use Rattle.std.proofs.Math.Option
use Rattle.rules.specs.Rows.{Index, Num, Id}
use Rattle.rules.specs.Tree.{Declaration}
use Rattle.rules.specs.Rules
use Rattle.rules.specs.Rules.{Env, table_of, find, walk, number_in, nth, named, late_index}
use Rattle.checking.specs.Check.{plainly}
use Rattle.rules.specs.Laws.Entries.{stand_decls, number_is}

-- a scope of step C
abbrev pub plain_of : Env → Env
plain_of e = plainly e.name (table_of e)

pub plain_table : (name : ℕ) (ds : List Declaration) → table_of (plainly name ds) ≡ ds
unfolding plainly
plain_table name ds = stand_decls 0 ds

pub plain_number : (e : Env) (space : ℕ) (at : Index) (z : ℕ) → number_in (plain_of e).entries space at z ≡ number_in e.entries space at z
plain_number e space (Num n) z = unfold number_in in refl
plain_number e space (Id name) z =
    number_is (plain_of e).entries space name z
    ∙ (ap (λ (ds : List Declaration). Rules.or_refused (find ds space name) (Rules.unknown space) z) (plain_table e.name (table_of e))
    ∙ sym (number_is e.entries space name z))

pub plain_walk : (es : List Env) (d space name : ℕ) → walk (map plain_of es) d space name ≡ walk es d space name
unfolding walk
plain_walk [] d space name = refl
plain_walk (e ∷ es) d space name = rw (plain_table e.name (table_of e), plain_walk es (suc d) space name)

plain_name : (e : Env) → (plain_of e).name ≡ e.name
unfolding plainly
plain_name e = refl

pub plain_named : (es : List Env) (name : ℕ) → named (map plain_of es) name ≡ named es name
unfolding named
plain_named [] name = refl
plain_named (e ∷ es) name = rw (plain_name e, plain_named es name)

pub plain_nth : (es : List Env) (n : ℕ) → nth (map plain_of es) n ≡ Option.map plain_of (nth es n)
unfolding nth
plain_nth [] n = refl
plain_nth (e ∷ es) zero = refl
plain_nth (e ∷ es) (suc n) = plain_nth es n

-- nothing comes late where the order plays no part
pub never_late : (e : Env) (space : ℕ) (at : Index) → late_index false e space at ≡ false
unfolding late_index
never_late e space (Num n) = refl
never_late e space (Id name) = refl
