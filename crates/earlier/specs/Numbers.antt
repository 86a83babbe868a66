-- The number of a name counts to a definition before a field, if the name is declared before that field.
use Rattle.std.specs.Prelude.{◌≡◌, Bool, ◌&&◌, ◌||◌, eqb}
use Rattle.std.proofs.Math.Path.{refl}
use Rattle.std.proofs.Common.{sym, ◌∙◌, arith}
use Rattle.std.proofs.Math.Bool.{true, false}
use Rattle.std.proofs.Math.Option.{Option, none, some, map}
use mathlib.Core.List.{List, [], ◌∷◌, ◌++◌}
use Prim.Native.Nat.{ℕ, zero, suc, ◌+◌, ◌<◌}
use Rattle.std.proofs.Math.ListN.{get_elem?}
use Rattle.rules.specs.Tools.{when◌then◌else◌}
use Rattle.rules.specs.Tree.{Declaration, Fields, end, ◌▸◌, head_of}
use Rattle.rules.specs.Rules.{find, declarations}
use Rattle.rules.specs.Explainer.{Definition, definitions, index_space}
use Rattle.rules.specs.Laws.ToolLaws.{false_not}
use Rattle.rules.specs.Laws.Results.{no_option, some_same}
use Rattle.rules.proofs.Laws.Meaning.Lookups.{has}
use Rattle.rules.proofs.Laws.Meaning.Unknown.{has_append}
use Rattle.rules.proofs.Laws.Meaning.Early.{firsts}

-- the entry `n` is a definition of the component at the end of `way`, in a field below `bound`
abbrev pub EntryBelow : (way : List ℕ) (bound : ℕ) → List Definition → ℕ → Type 0
EntryBelow way bound ds n = (d : Definition) × (get_elem? ds n ≡ some d) × (d.way ≡ way) × (d.field < bound)

mapped : (o : Option ℕ) (n : ℕ) → map suc o ≡ some n → (m : ℕ) × (o ≡ some m) × (suc m ≡ n)
mapped none n e = no_option n e
mapped (some m) n e = (m, refl, some_same (suc m) n e)

module _ (way : List ℕ) (space name bound : ℕ) where
  -- the DECLs `ds` of field `j`, and behind them `rest` with their definitions; if the name is not in `ds`, what is behind decides
  in_field_lem : (j at : ℕ) (ds rest : List Declaration) (behind : List Definition) (later : Bool) (n : ℕ) → j < bound → find (ds ++ rest) space name ≡ some n → has ds space name || later ≡ true
      → (later ≡ true → (m : ℕ) → find rest space name ≡ some m → EntryBelow way bound behind m) → EntryBelow way bound (definitions way space j at ds ++ behind) n
  unfolding has find definitions
  in_field_lem j at [] rest behind later n low e h g = g h n e
  in_field_lem j at (d ∷ ds) rest behind later n low e h g =
      go (eqb d.space space) (eqb d.name name) e h (λ m e h. in_field_lem j (suc at) ds rest behind later m low e h g)
    where
      go : (a b : Bool) → (when a then when b then some 0 else map suc (find (ds ++ rest) space name) else find (ds ++ rest) space name) ≡ some n
          → ((a && b) || has ds space name) || later ≡ true
          → ((m : ℕ) → find (ds ++ rest) space name ≡ some m → has ds space name || later ≡ true → EntryBelow way bound (definitions way space j (suc at) ds ++ behind) m)
          → EntryBelow way bound ((when a then record { way = way; field = j; at = at } ∷ definitions way space j (suc at) ds else definitions way space j (suc at) ds) ++ behind) n
      go true true e h f = unfold when◌then◌else◌ in (let zero_is : 0 ≡ n = some_same 0 n (unfold when◌then◌else◌ in e) in rw (← zero_is) (record { way = way; field = j; at = at }, refl, refl, low))
      go true false e h f = unfold when◌then◌else◌ in (let M = mapped (find (ds ++ rest) space name) n (unfold when◌then◌else◌ in e) in let r = f M.0 M.1 h in rw (← M.2) r)
      go false b e h f = unfold when◌then◌else◌ in f n (unfold when◌then◌else◌ in e) h

-- `j` fields stand before these, and the name is declared in the first `m` of them
pub entry_below : (way : List ℕ) (space name j m : ℕ) (fs : Fields) (n : ℕ) → find (declarations fs) space name ≡ some n → has (firsts m fs) space name ≡ true
    → EntryBelow way (j + m) (index_space way space j fs) n
unfolding firsts has declarations index_space find
entry_below way space name j zero fs n e h = false_not h
entry_below way space name j (suc m) end n e h = no_option n e
entry_below way space name j (suc m) (i ▸ fs) n e h =
    in_field_lem way space name (j + suc m) j 0 (head_of i).decls (declarations fs) (index_space way space (suc j) fs) (has (firsts m fs) space name) n (omega arith) e
    (sym (has_append (head_of i).decls (firsts m fs) space name) ∙ h)
    (λ t k q. let r = entry_below way space name (suc j) m fs k q t in (r.0, r.1, r.2, omega (arith, r.3)))
