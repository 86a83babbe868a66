-- Settings by the numbers of their version and rule set.
use Rattle.std.specs.Prelude.{◌≡◌, refl, Bool, true, false, ◌&&◌, ℕ, ◌<◌, eqb}
use Rattle.std.proofs.Common.{ap, sym, ◌∙◌, arith}
use Rattle.std.proofs.Math.Option.{some}
use mathlib.Core.List.{List, [], ◌∷◌}
use Rattle.rules.specs.Tools.{only, ◌or_else◌}
use Rattle.rules.specs.Versions.{Setting, all}
use Rattle.rules.specs.Answer.{mark, same_numbers}
use Rattle.rules.specs.Laws.ToolLaws.{false_not, and_left, and_right, eqb-true, eqb_same}
use Rattle.headers.specs.Laws.Written.{numbers_same}
use Rattle.headers.specs.Laws.Settings.{InForce, all_in_force, Among, here, there, among_apart}
use Rattle.converting.specs.Convert.{version_of, setting_with}

both_true : (a b : Bool) → a && b ≡ true → (a ≡ true) × (b ≡ true)
both_true a b e = (and_left a b e, and_right a b e)

pub record Numbered (settings : List Setting) (version rules : ℕ) (t : Setting) : Type 0 where
  pub among : Among t settings
  pub is_version : t.version.number ≡ version
  pub is_rules : t.rules.number ≡ rules

pub with_numbers : (settings : List Setting) (version rules : ℕ) (t : Setting) → setting_with settings version rules ≡ some t → Numbered settings version rules t
unfolding setting_with only ◌or_else◌
with_numbers [] version rules t e = let no_way : ◌≡◌ {A = ℕ} 0 1 = cc in absurd (omega arith)
with_numbers (s ∷ ss) version rules t e = go (eqb s.version.number version && eqb s.rules.number rules) refl e (λ e'. with_numbers ss version rules t e')
  where
    go : (b : Bool) → eqb s.version.number version && eqb s.rules.number rules ≡ b → (only b s or_else setting_with ss version rules) ≡ some t
        → (setting_with ss version rules ≡ some t → Numbered ss version rules t) → Numbered (s ∷ ss) version rules t
    go true q e rec =
        let same : s ≡ t = cc in
        let n = both_true (eqb s.version.number version) (eqb s.rules.number rules) q in
        rw (← same) (record { among = here; is_version = eqb-true s.version.number version n.0; is_rules = eqb-true s.rules.number rules n.1 })
    go false q e rec = let r = rec e in record { among = there r.among; is_version = r.is_version; is_rules = r.is_rules }

-- other marks are other numbers
apart_numbers : (s t : Setting) → same_numbers (mark t) (mark s) ≡ false → eqb s.version.number t.version.number && eqb s.rules.number t.rules.number ≡ false
unfolding mark
apart_numbers s t h = go (eqb s.version.number t.version.number && eqb s.rules.number t.rules.number) refl
  where
    go : (b : Bool) → eqb s.version.number t.version.number && eqb s.rules.number t.rules.number ≡ b → b ≡ false
    go false q = refl
    go true q =
        let n = both_true (eqb s.version.number t.version.number) (eqb s.rules.number t.rules.number) q in
        let same : mark t ≡ mark s =
        unfold mark in rw (eqb-true s.version.number t.version.number n.0, eqb-true s.rules.number t.rules.number n.1) in
        false_not (sym h ∙ (ap (λ (m : List ℕ). same_numbers m (mark s)) same ∙ numbers_same (mark s)))

pub with_is : (settings : List Setting) (t : Setting) → InForce settings → Among t settings → setting_with settings t.version.number t.rules.number ≡ some t
unfolding setting_with only ◌or_else◌
with_is settings t l here = rw (eqb_same t.version.number, eqb_same t.rules.number)
with_is settings t l (there {s' = s} a) = rw (apart_numbers s t (among_apart s _ t l.1 a)) (with_is _ t l.2 a)

-- ---- settings that agree: rules of one number are the same, and versions are

pub record Coherent (settings : List Setting) : Type 0 where
  pub in_force : InForce settings
  pub one_rules : (s t : Setting) → Among s settings → Among t settings → s.rules.number ≡ t.rules.number → s.rules ≡ t.rules
  pub one_version : (s t : Setting) → Among s settings → Among t settings → s.version.number ≡ t.version.number → s.version ≡ t.version

record FirstOf (settings : List Setting) (number : ℕ) : Type 0 where
  setting : Setting
  among : Among setting settings
  is_number_lem : setting.version.number ≡ number
  is_version : version_of settings number ≡ some setting.version

first_of : (settings : List Setting) (s : Setting) → Among s settings → FirstOf settings s.version.number
unfolding version_of only ◌or_else◌
first_of settings s here = record { setting = s; among = here; is_number_lem = refl; is_version = rw (eqb_same s.version.number) }
first_of settings s (there {s' = s'} {ss = ss} a) = go (eqb s'.version.number s.version.number) refl (first_of ss s a)
  where
    go : (b : Bool) → eqb s'.version.number s.version.number ≡ b → FirstOf ss s.version.number → FirstOf (s' ∷ ss) s.version.number
    go true q r = record { setting = s'; among = here; is_number_lem = eqb-true s'.version.number s.version.number q; is_version = rw q }
    go false q r = record { setting = r.setting; among = there r.among; is_number_lem = r.is_number_lem; is_version = rw q r.is_version }

pub version_is : (settings : List Setting) (s : Setting) → Coherent settings → Among s settings → version_of settings s.version.number ≡ some s.version
version_is settings s c a = let r = first_of settings s a in r.is_version ∙ ap some (c.one_version r.setting s r.among a r.is_number_lem)

-- the settings in force agree
pub all_coherent : Coherent all
all_coherent = record { in_force = all_in_force; one_rules = rules_agree; one_version = versions_agree }
  where
    other : {X : Type 0} (a b : ℕ) → a < b → a ≡ b → X
    other a b h e = absurd (omega (arith, h, e))

    rules_agree : (s t : Setting) → Among s all → Among t all → s.rules.number ≡ t.rules.number → s.rules ≡ t.rules
    rules_agree s t here here e = refl
    rules_agree s t here (there here) e = refl
    rules_agree s t here (there (there here)) e = other 0 1 (omega arith) e
    rules_agree s t (there here) here e = refl
    rules_agree s t (there here) (there here) e = refl
    rules_agree s t (there here) (there (there here)) e = other 0 1 (omega arith) e
    rules_agree s t (there (there here)) here e = other 0 1 (omega arith) (sym e)
    rules_agree s t (there (there here)) (there here) e = other 0 1 (omega arith) (sym e)
    rules_agree s t (there (there here)) (there (there here)) e = refl
    rules_agree _ t here (there (there (there x24))) e = elim x24 [ ]
    rules_agree _ t (there here) (there (there (there x29))) e = elim x29 [ ]
    rules_agree _ t (there (there here)) (there (there (there x39))) e = elim x39 [ ]
    rules_agree s t (there (there (there x31))) _ e = elim x31 [ ]

    versions_agree : (s t : Setting) → Among s all → Among t all → s.version.number ≡ t.version.number → s.version ≡ t.version
    versions_agree s t here here e = refl
    versions_agree s t here (there here) e = other 1 2 (omega arith) e
    versions_agree s t here (there (there here)) e = other 1 2 (omega arith) e
    versions_agree s t (there here) here e = other 1 2 (omega arith) (sym e)
    versions_agree s t (there here) (there here) e = refl
    versions_agree s t (there here) (there (there here)) e = refl
    versions_agree s t (there (there here)) here e = other 1 2 (omega arith) (sym e)
    versions_agree s t (there (there here)) (there here) e = refl
    versions_agree s t (there (there here)) (there (there here)) e = refl
    versions_agree _ t here (there (there (there x24))) e = elim x24 [ ]
    versions_agree _ t (there here) (there (there (there x29))) e = elim x29 [ ]
    versions_agree _ t (there (there here)) (there (there (there x39))) e = elim x39 [ ]
    versions_agree s t (there (there (there x31))) _ e = elim x31 [ ]
