-- Chains: what is on none of the rows that a chain passes over.
use mathlib.Core.Path.{◌≡◌, refl, sym, ◌∙◌}
use mathlib.Core.Bool.{Bool, true, false, ◌&&◌, not}
use mathlib.Core.Logic.{◌⊎◌, inl, inr}
use mathlib.Core.List.{List}
use native.Mathlib.Omega.{arith}
use native.Mathlib.Numerals.{add-one}
use Prim.Native.Nat.{ℕ, zero, suc, ◌+◌, ◌-◌, ◌*◌, ◌%◌, ◌≤◌, ◌<◌}
use borrow.Author.Tests.{eqb-true}
use borrow.Author.Rules.{rules}
use lib.Dec.{eqb}
use lib.ListN.{length, get_or, set, replicate, length-set}
use lib.Seq.{get_or-set_same, get_or-set_other}
use Rattle.kit.specs.Pick.{pick}
use Rattle.kit.proofs.Laws.{yes!, no!, tests, down, lt_or_le, pick_has, copies_at}
use Rattle.row_parts.specs.Parts.{code_at, b_at, x_at}
use Rattle.scopes.specs.Scopes.{scope_of, is_meant}
use Rattle.scopes.specs.declared.Key.{Key}
use Rattle.scopes.specs.declared.Key.TheVariants.{Name, Number, Inserted}
use Rattle.scopes.specs.Tables.{stands, count_above, count_of, chain_of, value_of, chain_at, is_on, last_above, kind_of, sought_by, is_sought, first_above, linked, Heads, Links, Chains}
use Rattle.scopes.proofs.ScopedLaws.{both_true, stands_count}

module _ (form : List ℕ) (kind chain : ℕ) where
  last_on_lem : (row : ℕ) → is_on form kind chain row ≡ true → last_above form kind chain (suc row) ≡ suc row
  unfolding last_above
  last_on_lem row h = sym (yes! _ h refl)

  last_off : (row : ℕ) → is_on form kind chain row ≡ false → last_above form kind chain (suc row) ≡ last_above form kind chain row
  unfolding last_above
  last_off row h = sym (no! _ h refl)

  pub last_most : (row : ℕ) → last_above form kind chain row ≤ row
  unfolding last_above
  last_most zero = omega arith
  last_most (suc row) = by (last_most row) (is_on form kind chain row) refl
    where
      by : last_above form kind chain row ≤ row → (b : Bool) → is_on form kind chain row ≡ b → last_above form kind chain (suc row) ≤ suc row
      by i true h = let e = last_on_lem row h in omega arith
      by i false h = let e = last_off row h in omega arith

  -- the last row on a chain is on it
  pub last_again : (row : ℕ) → last_above form kind chain (last_above form kind chain row) ≡ last_above form kind chain row
  unfolding last_above
  last_again zero = refl
  last_again (suc row) = by (last_again row) (is_on form kind chain row) refl
    where
      by : last_above form kind chain (last_above form kind chain row) ≡ last_above form kind chain row → (b : Bool) → is_on form kind chain row ≡ b → last_above form kind chain (last_above form kind chain (suc row)) ≡ last_above form kind chain (suc row)
      by i true h = rw (last_on_lem row h) (last_on_lem row h)
      by i false h = rw (last_off row h) i

  pub last_is_on : (row : ℕ) → last_above form kind chain (suc row) ≡ suc row → is_on form kind chain row ≡ true
  last_is_on row e = by (is_on form kind chain row) refl
    where
      by : (b : Bool) → is_on form kind chain row ≡ b → is_on form kind chain row ≡ true
      by true h = h
      by false h = let f = last_off row h in let m = last_most row in absurd (omega arith)

  -- what no row off the chain changes is that of the last row on it
  skip : {A : Type 0} (F : ℕ → A) → ((row : ℕ) → is_on form kind chain row ≡ false → F (suc row) ≡ F row) → (row : ℕ) → F row ≡ F (last_above form kind chain row)
  unfolding last_above
  skip F off zero = refl
  skip F off (suc row) = by (skip F off row) (is_on form kind chain row) refl
    where
      by : F row ≡ F (last_above form kind chain row) → (b : Bool) → is_on form kind chain row ≡ b → F (suc row) ≡ F (last_above form kind chain (suc row))
      by i true h = rw (last_on_lem row h)
      by i false h = rw (last_off row h) (off row h ∙ i)

-- ---- what is sought is on the chain

valueless : (form : List ℕ) (row : ℕ) → value_of form 0 row ≡ 0
unfolding value_of pick
valueless form row = refl

module _ (form : List ℕ) (s space row : ℕ) (h : stands form s space row ≡ true) where
  stands_on_lem : (kind value : ℕ) → value_of form kind row ≡ value → is_on form kind (chain_of s space value) row ≡ true
  unfolding stands is_on chain_at
  stands_on_lem kind value v =
      let b = both_true (eqb (scope_of form row) s && eqb (code_at form row) 2) (eqb (b_at form row) space) h in
      let a = both_true (eqb (scope_of form row) s) (eqb (code_at form row) 2) b.0 in
      rw (a.1, v, eqb-true (scope_of form row) s a.0, eqb-true (b_at form row) space b.1) (same (chain_of s space value))
    where
      same : (n : ℕ) → eqb n n ≡ true
      same n = omega tests

  key_value : (key : Key) → 0 < kind_of key → is_meant key (x_at form row) (count_of form row) ≡ true → value_of form (kind_of key) row ≡ sought_by key
  unfolding value_of pick
  key_value (Name wanted) k m = sym (eqb-true wanted (x_at form row) (both_true (not (eqb wanted 0)) (eqb wanted (x_at form row)) m).1)
  key_value (Number wanted) k m = sym (eqb-true wanted (count_of form row) m)
  key_value Inserted k m = absurd (omega arith)

module _ (form : List ℕ) (s space : ℕ) where
  -- rows that are on no chain of a space do not count there
  count_skips : (row : ℕ) → count_above form s space row ≡ count_above form s space (last_above form 0 (chain_of s space 0) row)
  unfolding count_above
  count_skips row = skip form 0 (chain_of s space 0) (count_above form s space) off row
    where
      off : (row : ℕ) → is_on form 0 (chain_of s space 0) row ≡ false → count_above form s space (suc row) ≡ count_above form s space row
      off row h = by (stands form s space row) refl
        where
          by : (b : Bool) → stands form s space row ≡ b → count_above form s space (suc row) ≡ count_above form s space row
          by true e = let t = stands_on_lem form s space row e 0 0 (valueless form row) in absurd (let z : ◌≡◌ {A = ℕ} 0 1 = cc in omega arith)
          by false e = sym (no! _ e refl)

  module _ (key : Key) (k : 0 < kind_of key) where
    first_skips : (row found : ℕ) → first_above form s space key row found ≡ first_above form s space key (last_above form (kind_of key) (chain_of s space (sought_by key)) row) found
    unfolding first_above is_sought pick
    first_skips row found = skip form (kind_of key) (chain_of s space (sought_by key)) (λ row. first_above form s space key row found) off row
      where
        off : (row : ℕ) → is_on form (kind_of key) (chain_of s space (sought_by key)) row ≡ false → first_above form s space key (suc row) found ≡ first_above form s space key row found
        off row h = by (is_sought form s space key row) refl
          where
            by : (b : Bool) → is_sought form s space key row ≡ b → first_above form s space key (suc row) found ≡ first_above form s space key row found
            by true e =
                let a = both_true (stands form s space row) (is_meant key (x_at form row) (count_of form row)) e in
                let t = stands_on_lem form s space row a.0 (kind_of key) (sought_by key) (key_value form s space row a.0 key k a.1) in
                absurd (let z : ◌≡◌ {A = ℕ} 0 1 = cc in omega arith)
            by false e = rw e

-- ---- the chain of a row

pub chain_of_is : (scope space value : ℕ) → (value % 4096 + scope * 1031 + space * 331) % 4096 ≡ chain_of scope space value
unfolding chain_of
chain_of_is scope space value = refl

module _ (form : List ℕ) (kind row n : ℕ) where
  pub value_name : kind ≡ 1 → n ≡ x_at form row → n ≡ value_of form kind row
  unfolding value_of
  value_name k e = yes! _ (omega tests) e

  pub value_number : (kind ≡ 1 → ⊥) → kind ≡ 2 → n ≡ count_of form row → n ≡ value_of form kind row
  unfolding value_of
  value_number o k e = no! _ (omega tests) (yes! _ (omega tests) e)

pub value_none : (form : List ℕ) (kind row : ℕ) → (kind ≡ 1 → ⊥) → (kind ≡ 2 → ⊥) → 0 ≡ value_of form kind row
unfolding value_of
value_none form kind row o k = no! _ (omega tests) (no! _ (omega tests) refl)

module _ (form : List ℕ) (row s b r : ℕ) (around : s ≡ scope_of form row) (space : b ≡ b_at form row) where
  pub chain_at_is : (kind v : ℕ) → v ≡ value_of form kind row → r ≡ chain_of s b v → r ≡ chain_at form kind row
  unfolding chain_at
  chain_at_is kind v value e = e ∙ rw (around, space, value)

  pub chain_space : r ≡ chain_of s b 0 → r ≡ chain_at form 0 row
  chain_space e = chain_at_is 0 0 (sym (valueless form row)) e

pub ruleset chain_ways = (chain_of_is, value_name, value_number, value_none, chain_at_is, chain_space, rules)

-- ---- a row is linked

module _ (form chains : List ℕ) (chain row c before : ℕ) (mid : List ℕ) (code : c ≡ code_at form row) (last : before ≡ get_or chains chain 0) (m : mid ≡ set chains (4096 + row) before) where
  pub linked_decl : c ≡ 2 → (after : List ℕ) → after ≡ set mid chain (row + 1) → after ≡ linked form chains chain row
  unfolding linked
  linked_decl h after e = yes! _ (omega tests) (e ∙ rw (m, last))

  pub linked_other : (c ≡ 2 → ⊥) → mid ≡ linked form chains chain row
  unfolding linked
  linked_other h = no! _ (omega tests) (m ∙ rw last)

pub ruleset link_ways = (linked_decl, linked_other, rules)

module _ (form : List ℕ) (kind : ℕ) (chains : List ℕ) where
  module _ (row : ℕ) (t : Chains form kind chains row) (l : row < 4096) (n : 8192 ≤ length chains) (chain : ℕ) (is : chain ≡ chain_at form kind row) (b : chain < 4096) where
    mid : List ℕ
    mid = set chains (4096 + row) (get_or chains chain 0)

    mid_heads : (i : ℕ) → i < 4096 → get_or mid i 0 ≡ last_above form kind i row
    unfolding mid Heads
    mid_heads i h = get_or-set_other chains (4096 + row) i _ 0 (omega arith) ∙ t.heads i h

    mid_links : (i : ℕ) → i < row + 1 → get_or mid (4096 + i) 0 ≡ last_above form kind (chain_at form kind i) i
    unfolding mid Heads Links
    mid_links i h = by (lt_or_le i row)
      where
        by : (i < row) ⊎ (row ≤ i) → get_or mid (4096 + i) 0 ≡ last_above form kind (chain_at form kind i) i
        by (inl k) = get_or-set_other chains (4096 + row) (4096 + i) _ 0 (omega arith) ∙ t.links i k
        by (inr k) =
            let e : i ≡ row = omega arith in
            rw e (get_or-set_same chains (4096 + row) _ 0 (omega arith) ∙ t.heads chain b ∙ rw is)

    off_other : (i : ℕ) → eqb (code_at form row) 2 ≡ false → last_above form kind i row ≡ last_above form kind i (row + 1)
    unfolding is_on
    off_other i d = rw (add-one row) (sym (last_off form kind i row (rw d)))

    off_chain : (i : ℕ) → (i ≡ chain → ⊥) → last_above form kind i row ≡ last_above form kind i (row + 1)
    unfolding is_on
    off_chain i d =
        let e : eqb (chain_at form kind row) i ≡ false = omega tests in
        rw (add-one row) (sym (last_off form kind i row (rw e (none (eqb (code_at form row) 2)))))
      where
        none : (b : Bool) → (b && false) ≡ false
        none true = refl
        none false = refl

    on_chain : eqb (code_at form row) 2 ≡ true → row + 1 ≡ last_above form kind chain (row + 1)
    unfolding is_on
    on_chain d =
        let e : eqb (chain_at form kind row) chain ≡ true = omega tests in
        rw (add-one row) (sym (last_on_lem form kind chain row (rw (d, e))))

    pub chains_on : (after : List ℕ) → after ≡ linked form chains chain row → Chains form kind after (row + 1)
    unfolding linked Heads Links mid
    chains_on after e = by (eqb (code_at form row) 2) refl
      where
        by : (b : Bool) → eqb (code_at form row) 2 ≡ b → Chains form kind after (row + 1)
        by true d =
            let f : after ≡ set mid chain (row + 1) = e ∙ sym (yes! _ d refl) in
            record { heads = λ i h. rw f (at i h (lt_or_le i chain) (lt_or_le chain i)); links = λ i h. rw f (get_or-set_other mid chain (4096 + i) _ 0 (omega arith) ∙ mid_links i h) }
          where
            at : (i : ℕ) → i < 4096 → (i < chain) ⊎ (chain ≤ i) → (chain < i) ⊎ (i ≤ chain) → get_or (set mid chain (row + 1)) i 0 ≡ last_above form kind i (row + 1)
            at i h (inl k) q = get_or-set_other mid chain i _ 0 (omega arith) ∙ mid_heads i h ∙ off_chain i (omega arith)
            at i h (inr k) (inl q) = get_or-set_other mid chain i _ 0 (omega arith) ∙ mid_heads i h ∙ off_chain i (omega arith)
            at i h (inr k) (inr q) =
                let g : i ≡ chain = omega arith in
                rw g (get_or-set_same mid chain (row + 1) 0 (simp length-set (omega arith)) ∙ on_chain d)
        by false d =
            let f : after ≡ mid = e ∙ sym (no! _ d refl) in
            record { heads = λ i h. rw f (mid_heads i h ∙ off_other i d); links = λ i h. rw f (mid_links i h) }

  module _ (to : ℕ) (t : Chains form kind chains to) where
    pub head_is : (chain p : ℕ) → chain < 4096 → p ≡ get_or chains chain 0 → p ≡ last_above form kind chain to
    unfolding Heads
    head_is chain p b e = e ∙ t.heads chain b

    -- the row before a row on its chain
    pub link_is : (chain next p : ℕ) → 0 < next → next ≤ to → next ≡ last_above form kind chain next → p ≡ get_or chains (4096 + (next - 1)) 0 → p ≡ last_above form kind chain (next - 1)
    unfolding Links is_on
    link_is chain next p h b e q =
        let d = down next h in
        let f : last_above form kind chain (suc (next - 1)) ≡ suc (next - 1) = sym (rw d at e) in
        let o = last_is_on form kind chain (next - 1) f in
        let c = eqb-true (chain_at form kind (next - 1)) chain (both_true (eqb (code_at form (next - 1)) 2) (eqb (chain_at form kind (next - 1)) chain) o).1 in
        q ∙ t.links (next - 1) (omega arith) ∙ rw c

    pub link_less : (chain next p : ℕ) → 0 < next → next ≤ to → next ≡ last_above form kind chain next → p ≡ get_or chains (4096 + (next - 1)) 0 → p < next
    link_less chain next p h b e q =
        let k = link_is chain next p h b e q in
        let m = last_most form kind chain (next - 1) in
        omega arith

-- ---- the ways along a chain

module _ (form : List ℕ) (kind chain to next : ℕ) (e : next ≡ last_above form kind chain to) where
  chain_again : next ≡ last_above form kind chain next
  chain_again = e ∙ sym (last_again form kind chain to) ∙ rw (← e)

  chain_most : next ≤ to
  chain_most = let m = last_most form kind chain to in omega arith

-- before any row is linked
pub chains_none : (form : List ℕ) (kind n : ℕ) → Chains form kind (replicate n 0) 0
unfolding Heads Links last_above
chains_none form kind n = record { heads = λ i h. copies_at n i 0; links = λ i h. absurd (omega arith) }

pub chains_all : (form : List ℕ) (kind : ℕ) (chains : List ℕ) (row to : ℕ) → Chains form kind chains row → row ≤ to → to ≤ row → Chains form kind chains to
chains_all form kind chains row to t a b = let e : row ≡ to = omega arith in rw e at t

-- the declarations of a space before a row
module _ (form spaces : List ℕ) (row s space chain : ℕ) (t : Chains form 0 spaces row) (is : chain ≡ chain_at form 0 row) (around : s ≡ scope_of form row) (b : space ≡ b_at form row) where
  abbrev Counting : (next : ℕ) → Type 0
  Counting next = (count_above form s space next ≡ count_of form row) × (next ≡ last_above form 0 chain next) × (next ≤ row)

  space_chain : chain ≡ chain_of s space 0
  unfolding chain_at
  space_chain = is ∙ rw (valueless form row, around, b)

  pub count_start : (next : ℕ) → chain < 4096 → next ≡ get_or spaces chain 0 → Counting next
  unfolding count_of
  count_start next l q =
      let e = head_is form 0 spaces row t chain next l q in
      (rw (e, space_chain) (sym (count_skips form s space row) ∙ rw (around, b)), chain_again form 0 chain row next e, chain_most form 0 chain row next e)

  module _ (next : ℕ) (h : 0 < next) (inv : Counting next) (d : Bool) (stood : d ≡ stands form s space (next - 1)) where
    pub count_hit : d ≡ true → (n : ℕ) → n ≡ count_of form (next - 1) → n + 1 ≡ count_of form row
    unfolding count_above
    count_hit e n q =
        let o : stands form s space (next - 1) ≡ true = sym stood ∙ e in
        let k : n ≡ count_above form s space (next - 1) = q ∙ stands_count form s space (next - 1) o in
        yes! _ o (rw k) ∙ (rw (down next h) at inv.0)

    pub count_next : d ≡ false → (p : ℕ) → p ≡ get_or spaces (4096 + (next - 1)) 0 → Counting p
    unfolding count_above
    count_next e p q =
        let k = link_is form 0 spaces row t chain next p h inv.2 inv.1 q in
        let m = chain_most form 0 chain (next - 1) p k in
        (rw (k, space_chain) (sym (count_skips form s space (next - 1))) ∙ no! _ (sym stood ∙ e) refl ∙ (rw (down next h) at inv.0), chain_again form 0 chain (next - 1) p k, omega arith)

pub count_end : (form : List ℕ) (s space next T : ℕ) → count_above form s space next ≡ T → next ≤ 0 → 0 ≡ T
unfolding count_above
count_end form s space next T inv h = let e : next ≡ 0 = omega arith in rw e at inv

-- the first declaration that has a key
module _ (form chains : List ℕ) (s space to : ℕ) (key : Key) (k : 0 < kind_of key) (t : Chains form (kind_of key) chains to) where
  abbrev Seeking : (next first : ℕ) → Type 0
  Seeking next first = (first_above form s space key next first ≡ first_above form s space key to 0) × (next ≡ last_above form (kind_of key) (chain_of s space (sought_by key)) next) × (next ≤ to) × (first ≤ to)

  pub first_start : (v chain next : ℕ) → v ≡ sought_by key → chain ≡ chain_of s space v → chain < 4096 → next ≡ get_or chains chain 0 → Seeking next 0
  first_start v chain next hv is l q =
      let c : chain ≡ chain_of s space (sought_by key) = is ∙ rw hv in
      let e : next ≡ last_above form (kind_of key) (chain_of s space (sought_by key)) to = rw c at (head_is form (kind_of key) chains to t chain next l q) in
      (rw e (sym (first_skips form s space key k to 0)), chain_again form (kind_of key) _ to next e, chain_most form (kind_of key) _ to next e, omega arith)

  pub first_next : (next first : ℕ) → 0 < next → Seeking next first → (m : Bool) → m ≡ is_sought form s space key (next - 1) → (f : ℕ) → f ≡ pick m next first → (p : ℕ) → p ≡ get_or chains (4096 + (next - 1)) 0 → Seeking p f
  unfolding first_above
  first_next next first h inv m is f q p g =
      let d = down next h in
      let y : suc (next - 1) ≡ next = sym d in
      let e = link_is form (kind_of key) chains to t (chain_of s space (sought_by key)) next p h inv.2 inv.1 g in
      let u : first_above form s space key (next - 1) (pick (is_sought form s space key (next - 1)) (suc (next - 1)) first) ≡ first_above form s space key to 0 = rw d at inv.0 in
      let step : first_above form s space key (next - 1) f ≡ first_above form s space key to 0 = rw (q, is) (rw y at u) in
      let l = chain_most form (kind_of key) _ (next - 1) p e in
      (rw e (sym (first_skips form s space key k (next - 1) f)) ∙ step, chain_again form (kind_of key) _ (next - 1) p e, omega arith, rw q (pick_has (λ n. n ≤ to) m inv.2 inv.3))

pub first_end : (form : List ℕ) (s space : ℕ) (key : Key) (next first T : ℕ) → first_above form s space key next first ≡ T → next ≤ 0 → first ≡ T
unfolding first_above
first_end form s space key next first T inv h = let e : next ≡ 0 = omega arith in rw e at inv
