-- The settings in force: which of them the header of an input asks for.
use Rattle.std.specs.Prelude.{◌≡◌, refl, Bool, true, false, ◌&&◌, List, [], ◌∷◌, ◌++◌, ℕ, zero, suc, ◌+◌, ◌*◌, ◌≤◌, ◌<◌, leb, length, take, drop}
use Rattle.std.proofs.Common.{ap, arith}
use Rattle.std.proofs.Math.Option.{some}
use Rattle.rules.specs.Tools.{zeros, only, ◌or_else◌}
use Rattle.rules.specs.Versions.{Setting, top_name, base, all}
use Rattle.rules.specs.Rows.{bytes}
use Rattle.rules.specs.Answer.{mark, same_numbers, has_header, setting_of}
use Rattle.rules.specs.Laws.ToolLaws.{leb_le}
use Rattle.rules.proofs.Laws.InputLaws.{Usual, base_usual, all_usual}
use Rattle.headers.specs.Laws.Written.{numbers_equal}

-- a part of a list is the same, whatever follows it
pub part_same : (j k : ℕ) (xs ys zs : List ℕ) → j + k ≤ length xs → take k (drop j (xs ++ ys)) ≡ take k (drop j (xs ++ zs))
part_same zero zero xs ys zs h = refl
part_same zero (suc k) [] ys zs h = absurd (omega arith)
part_same zero (suc k) (x ∷ xs) ys zs h = ap (λ (l : List ℕ). x ∷ l) (part_same zero k xs ys zs (omega arith))
part_same (suc j) k [] ys zs h = absurd (omega arith)
part_same (suc j) k (x ∷ xs) ys zs h = part_same j k xs ys zs (omega arith)

-- ---- the header

middle : (a c : Bool) → a && false && c ≡ false
middle true c = refl
middle false c = refl

-- another mark is another header
pub other_header : (s : Setting) (input : List ℕ) → same_numbers (take 6 input) (mark s) ≡ false → has_header s input ≡ false
unfolding has_header
other_header s input e =
    rw e (middle (leb s.version.header (length input)) (zeros (drop (6 + s.version.counting) (take s.version.header input))))

-- what a header of this setting says
pub record Headed (s : Setting) (input : List ℕ) : Type 0 where
  pub long : s.version.header ≤ length input
  pub marked : take 6 input ≡ mark s

pub headed : (s : Setting) (input : List ℕ) → has_header s input ≡ true → Headed s input
unfolding has_header
headed s input e =
    let a = leb s.version.header (length input) in
    let m = same_numbers (take 6 input) (mark s) in
    let z = zeros (drop (6 + s.version.counting) (take s.version.header input)) in
    record { long = leb_le s.version.header (length input) (first a m z e); marked = numbers_equal (take 6 input) (mark s) (second a m z e) }
  where
    first : (a m z : Bool) → a && m && z ≡ true → a ≡ true
    first true m z e = refl
    first false m z e = e

    second : (a m z : Bool) → a && m && z ≡ true → m ≡ true
    second true true z e = refl
    second true false z e = e
    second false m z e = absurd (let no_way : ◌≡◌ {A = ℕ} 0 1 = cc in omega arith)

-- ---- the settings in force

-- a usual one with the names of 01, of which there are more than two for each row
pub record Plain (s : Setting) : Type 0 where
  pub usual : Usual s
  pub top : s.version.names ≡ top_name
  pub few : 2 * s.version.rows < top_name

abbrev pub AllApart : Setting → List Setting → Type 0
AllApart s [] = Unit {0}
AllApart s (s' ∷ ss) = (same_numbers (mark s') (mark s) ≡ false) × AllApart s ss

-- each of them so, and their marks different
abbrev pub InForce : List Setting → Type 0
InForce [] = Unit {0}
InForce (s ∷ ss) = Plain s × AllApart s ss × InForce ss

plain_by : (s : Setting) → Usual s → s.version.names ≡ top_name → 2 * s.version.rows < top_name → Plain s
plain_by s u e f = record { usual = u; top = e; few = f }

pub base_in_force : InForce base
base_in_force = (plain_by _ base_usual.0 refl (omega arith), tt, tt)

pub all_in_force : InForce all
unfolding mark same_numbers bytes
all_in_force =
    (plain_by _ all_usual.0 refl (omega arith), (refl, (refl, tt)), (plain_by _ all_usual.1.0 refl (omega arith), (refl, tt), (plain_by _ all_usual.1.1.0 refl (omega arith), tt, tt)))

-- the setting that was asked for
pub record Found (settings : List Setting) (input : List ℕ) (s : Setting) : Type 0 where
  pub plain : Plain s
  pub has : has_header s input ≡ true

pub found_in : (settings : List Setting) (input : List ℕ) (s : Setting) → InForce settings → setting_of settings input ≡ some s → Found settings input s
unfolding setting_of only ◌or_else◌
found_in [] input s l e = let no_way : ◌≡◌ {A = ℕ} 0 1 = cc in absurd (omega arith)
found_in (s' ∷ ss) input s l e = go (has_header s' input) refl e (λ e'. found_in ss input s l.2 e')
  where
    go : (b : Bool) → has_header s' input ≡ b → (only b s' or_else setting_of ss input) ≡ some s → (setting_of ss input ≡ some s → Found ss input s) → Found (s' ∷ ss) input s
    go true q e rec = let same : s' ≡ s = cc in rw (← same) (record { plain = l.0; has = q })
    go false q e rec = let r = rec e in record { plain = r.plain; has = r.has }

apart_from : (s' : Setting) (ss : List Setting) (input : List ℕ) (s : Setting) → AllApart s' ss → setting_of ss input ≡ some s → same_numbers (mark s) (mark s') ≡ false
unfolding setting_of only ◌or_else◌
apart_from s' [] input s l e = let no_way : ◌≡◌ {A = ℕ} 0 1 = cc in absurd (omega arith)
apart_from s' (s'' ∷ ss) input s l e = go (has_header s'' input) e (λ e'. apart_from s' ss input s l.1 e')
  where
    go : (b : Bool) → (only b s'' or_else setting_of ss input) ≡ some s → (setting_of ss input ≡ some s → same_numbers (mark s) (mark s') ≡ false)
        → same_numbers (mark s) (mark s') ≡ false
    go true e rec = let same : s'' ≡ s = cc in rw (← same) l.0
    go false e rec = rec e

-- an input with the same mark, and the header of its own setting
pub setting_stays : (settings : List Setting) (input other : List ℕ) (s : Setting) → InForce settings → setting_of settings input ≡ some s
    → take 6 other ≡ mark s → has_header s other ≡ true → setting_of settings other ≡ some s
unfolding setting_of only ◌or_else◌
setting_stays [] input other s l e m h = e
setting_stays (s' ∷ ss) input other s l e m h = go (has_header s' input) e (λ e'. setting_stays ss input other s l.2 e' m h)
  where
    go : (b : Bool) → (only b s' or_else setting_of ss input) ≡ some s → (setting_of ss input ≡ some s → setting_of ss other ≡ some s)
        → (only (has_header s' other) s' or_else setting_of ss other) ≡ some s
    go true e rec = let same : s' ≡ s = cc in rw (same, h)
    go false e rec =
        let no_header : has_header s' other ≡ false = other_header s' other (rw m (apart_from s' ss input s l.1 e)) in
        rw no_header (rec e)

-- ---- a setting of the list

pub data Among : Setting → List Setting → Type 0 where
  here : {s : Setting} {ss : List Setting} → Among s (s ∷ ss)
  there : {s s' : Setting} {ss : List Setting} → Among s ss → Among s (s' ∷ ss)

pub among_plain : (settings : List Setting) (s : Setting) → InForce settings → Among s settings → Plain s
among_plain settings s l here = l.0
among_plain settings s l (there a) = among_plain _ s l.2 a

pub among_apart : (s' : Setting) (ss : List Setting) (s : Setting) → AllApart s' ss → Among s ss → same_numbers (mark s) (mark s') ≡ false
among_apart s' ss s l here = l.0
among_apart s' ss s l (there a) = among_apart s' _ s l.1 a

pub asked_among : (settings : List Setting) (input : List ℕ) (s : Setting) → setting_of settings input ≡ some s → Among s settings
unfolding setting_of only ◌or_else◌
asked_among [] input s e = let no_way : ◌≡◌ {A = ℕ} 0 1 = cc in absurd (omega arith)
asked_among (s' ∷ ss) input s e = go (has_header s' input) e (λ e'. asked_among ss input s e')
  where
    go : (b : Bool) → (only b s' or_else setting_of ss input) ≡ some s → (setting_of ss input ≡ some s → Among s ss) → Among s (s' ∷ ss)
    go true e rec = let same : s' ≡ s = cc in rw (← same) here
    go false e rec = there (rec e)

-- its header asks for it
pub setting_is : (settings : List Setting) (input : List ℕ) (s : Setting) → InForce settings → Among s settings → take 6 input ≡ mark s → has_header s input ≡ true
    → setting_of settings input ≡ some s
unfolding setting_of only ◌or_else◌
setting_is settings input s l here m h = rw h
setting_is settings input s l (there {s' = s'} {ss = ss} a) m h =
    let no_header : has_header s' input ≡ false = other_header s' input (rw m (among_apart s' ss s l.1 a)) in
    rw no_header (setting_is ss input s l.2 a m h)
