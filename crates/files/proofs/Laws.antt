-- The ways through the code: each law is one unfolding of a definition, with the facts in the form in which the code gives them.
use mathlib.Core.Path.{◌≡◌, refl, sym, ◌∙◌}
use mathlib.Core.Bool.{Bool, true, false}
use mathlib.Core.List.{List}
use native.Mathlib.Omega.{arith}
use Prim.Native.Nat.{ℕ, zero, suc, ◌+◌, ◌-◌, ◌≤◌, ◌<◌}
use borrow.Author.Rules.{rules}
use lib.Dec.{eqb}
use lib.ListN.{length, get_or, take, drop, set}
use lib.Seq.{take_all, get_or-set_same}
use Rattle.kit.specs.Pick.{pick}
use Rattle.kit.proofs.Laws.{yes!, no!, tests}
use Rattle.files.specs.Paths.{is_dash, slash_in, folder_of, start_of}

module _ (path : List ℕ) where
  pub dash_one : length path ≡ 1 → eqb (get_or path 0 0) 45 ≡ is_dash path
  unfolding is_dash
  dash_one h = yes! _ (omega tests) refl

  pub dash_other : (length path ≡ 1 → ⊥) → false ≡ is_dash path
  unfolding is_dash
  dash_other h = no! _ (omega tests) refl

pub front_part : (bytes : List ℕ) (count : ℕ) → take (count - 0) (drop 0 bytes) ≡ take count bytes
front_part bytes count = let e : count - 0 ≡ count = omega arith in rw e

pub front_all : (bytes : List ℕ) (count : ℕ) → length bytes < count → bytes ≡ take count bytes
front_all bytes count h = sym (take_all count bytes (omega arith))

-- ---- the folder of a path

pub slash_start : (path : List ℕ) → slash_in path (length path) ≡ folder_of path
unfolding folder_of
slash_start path = refl

slash_step : (path : List ℕ) (end : ℕ) → 0 < end → pick (eqb (get_or path (end - 1) 0) 47) end (slash_in path (end - 1)) ≡ slash_in path end
unfolding slash_in
slash_step path zero h = absurd (omega arith)
slash_step path (suc end) h = let e : suc end - 1 ≡ end = omega arith in rw e

module _ (path : List ℕ) (end T : ℕ) (inv : slash_in path end ≡ T) where
  pub slash_end : end ≤ 0 → 0 ≡ T
  unfolding slash_in
  slash_end h = let e : end ≡ 0 = omega arith in rw e at inv

  module _ (h : 0 < end) where
    pub slash_hit : get_or path (end - 1) 0 ≡ 47 → end ≡ T
    slash_hit e = yes! _ (omega tests) refl ∙ slash_step path end h ∙ inv

    pub slash_on : (get_or path (end - 1) 0 ≡ 47 → ⊥) → slash_in path (end - 1) ≡ T
    slash_on e = no! _ (omega tests) refl ∙ slash_step path end h ∙ inv

-- ---- where a link's text goes

module _ (path text : List ℕ) where
  pub start_root : (length text ≡ 0 → ⊥) → get_or text 0 0 ≡ 47 → 0 ≡ start_of path text
  unfolding start_of
  start_root n h = no! _ (omega tests) (yes! _ (omega tests) refl)

  module _ (folder : ℕ) (is : folder ≡ folder_of path) where
    pub start_none : length text ≡ 0 → folder ≡ start_of path text
    unfolding start_of
    start_none h = yes! _ (omega tests) is

    pub start_folder : (length text ≡ 0 → ⊥) → (get_or text 0 0 ≡ 47 → ⊥) → folder ≡ start_of path text
    unfolding start_of
    start_folder n h = no! _ (omega tests) (no! _ (omega tests) is)

-- ---- a path for C

pub ended_last : (array : List ℕ) → length array ≡ 4096 → get_or (set array 4095 0) 4095 1 ≡ 0
ended_last array h = get_or-set_same array 4095 0 1 (omega arith)

pub ruleset ways = (dash_one, dash_other, front_part, front_all, start_none, start_root, start_folder, ended_last, rules)

-- The laws of a loop end in any `T`, so a search tries them everywhere: it has its own set.
pub ruleset slash_ways = (slash_start, slash_end, slash_hit, slash_on, rules)
