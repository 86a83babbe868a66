-- What is found among the slots of one scope: the number of a name, and the alias of a number.
use Rattle.std.specs.Prelude.{◌≡◌, Bool, ◌&&◌, leb, length, set, Option as CodeOption, Some, None, ℕ}
use Rattle.std.proofs.Math.Path.{refl}
use Rattle.std.proofs.Common.{sym, ap, ◌∙◌, length-set, get_or-set_same, get_or-set_other}
use Rattle.std.proofs.Math.Bool.{true, false}
use Rattle.std.proofs.Math.Option
use Rattle.std.proofs.Math.Option.{Option, none, some}
use mathlib.Core.List.{List, [], ◌∷◌, ◌++◌, map}
use Prim.Native.Nat.{ℕ, zero, suc, ◌+◌, ◌*◌, ◌%◌, ◌<◌, ◌≤◌}
use native.Mathlib.Omega.{arith}
use Rattle.std.proofs.Math.Dec.{eqb}
use Rattle.std.proofs.Math.ListN.{get_or, get_elem?}
use borrow.Author.Tests.{eq-eqb, ne_eqb, eqb-true}
use Rattle.kit.specs.Pick.{pick}
use Rattle.names.specs.Table.{Slot, space_of, name_of, number_of, find_in}
use Rattle.rules.specs.Tools.{when◌then◌else◌, only, ◌then◌}
use Rattle.rules.specs.Versions.{top_name}
use Rattle.rules.specs.Rows.{Decl, encode}
use Rattle.rules.specs.Tree.{Declaration, Head}
use Rattle.rules.specs.Rules.{find}
use Rattle.rules.specs.Readings.{is_fresh, is_inserted}
use Rattle.rules.specs.Laws.ToolLaws.{All, done, ◌&◌, leb_le, false_not}
use Rattle.rules.specs.Laws.Results.{if_both}
use Rattle.claim_scopes.specs.Entries.{entry_key_t, slot_t}
use Rattle.claim_numbers.specs.Count.{more_count_t}
use Rattle.claim_numbers.specs.Enter.{decl_slot}
use Rattle.claim_laws.specs.RowParts.{as_parts}
use Rattle.claim_laws.specs.Keys.{key_is}
use Rattle.claim_laws.specs.Slots.{Declared, slot_of, slots_of}

-- ---- how many of each space stand before

-- none of them is more than m
pub record Counts (c : List ℕ) (m : ℕ) : Type 0 where
  pub long : length c ≡ 13
  pub few : (s : ℕ) → get_or c s 0 ≤ m

more_same : (c : List ℕ) (m s : ℕ) → Counts c m → m < 65536 → s < 13 → get_or (more_count_t c s) s 0 ≡ suc (get_or c s 0)
unfolding more_count_t
more_same c m s C l h =
    let f = C.few s in
    let long = C.long in
    let e : get_or c s 0 % 65536 + 1 ≡ suc (get_or c s 0) = omega arith in
    get_or-set_same c s _ 0 (omega arith) ∙ e

more_other : (c : List ℕ) (s t : ℕ) → (s ≡ t → ⊥) → get_or (more_count_t c s) t 0 ≡ get_or c t 0
unfolding more_count_t
more_other c s t n = get_or-set_other c s t _ 0 (λ e. n (sym e))

more_counts : (c : List ℕ) (m s : ℕ) → Counts c m → m < 65536 → s < 13 → Counts (more_count_t c s) (suc m)
more_counts c m s C l h = record { long = unfold more_count_t in (length-set c s _ ∙ C.long); few = few }
  where
    few : (t : ℕ) → get_or (more_count_t c s) t 0 ≤ suc m
    few t = go (eqb s t) refl
      where
        go : (b : Bool) → eqb s t ≡ b → get_or (more_count_t c s) t 0 ≤ suc m
        go true e = let q : s ≡ t = eqb-true s t e in let f = C.few s in rw (← q, more_same c m s C l h) (omega arith)
        go false e = let f = C.few t in rw (more_other c s t (λ q. false_not (sym e ∙ eq-eqb s t q))) (omega arith)

-- ---- the declarations of a claim

-- those of added fields have fresh names
pub record Apt (x : Declared) : Type 0 where
  pub space : x.decl.space < 13
  pub fresh : is_inserted x.head ≡ true → is_fresh x.decl.name ≡ true

-- ---- by name

-- the number of the first of these, where this many stand before them
unfoldable pub number_from : (b : ℕ) → Option ℕ → CodeOption ℕ
number_from b none = None
number_from b (some e) = Some (b + e)

from_next : (b : ℕ) (o : Option ℕ) → number_from (suc b) o ≡ number_from b (Option.map suc o)
unfolding number_from
from_next b none = refl
from_next b (some e) = let q : suc b + e ≡ b + suc e = omega arith in rw q

abbrev decls_of : List Declared → List Declaration
decls_of xs = map (λ (x : Declared). x.decl) xs

module _ (k : ℕ) (low : suc k < 65536) (space : ℕ) (narrow : space < 256) where
  -- a slot under another key
  pass_slot : (s : Slot) (ss : List Slot) (key name : ℕ) → (space_of s ≡ key → ⊥) → find_in (s ∷ ss) key name ≡ find_in ss key name
  unfolding find_in pick
  pass_slot s ss key name h = rw (ne_eqb _ _ h)

  -- under this key
  meet_slot : (s : Slot) (ss : List Slot) (key name : ℕ) (b : Bool) → space_of s ≡ key → eqb (name_of s) name ≡ b → find_in (s ∷ ss) key name ≡ pick b (Some (number_of s)) (find_in ss key name)
  unfolding find_in pick
  meet_slot s ss key name b h e = rw (eq-eqb _ _ h, e)

  own_slot : (c : List ℕ) (x : Declared) → is_inserted x.head ≡ false → slot_of k c x ≡ slot_t k x.decl.space x.decl.name (get_or c x.decl.space 0)
  unfolding slot_of decl_slot as_parts encode pick
  own_slot c x e = rw e

  alias_slot_lem : (c : List ℕ) (x : Declared) → is_inserted x.head ≡ true → slot_of k c x ≡ slot_t (k % 65536 + 1) x.decl.space (get_or c x.decl.space 0 % 65536 + 1) (x.row % 65536)
  unfolding slot_of decl_slot as_parts encode pick
  alias_slot_lem c x e = rw e

  -- an alias is entered under another key than a name of any space
  alias_apart : (s number row : ℕ) → s < 256 → space_of (slot_t (k % 65536 + 1) s number row) ≡ entry_key_t k space → ⊥
  unfolding slot_t
  alias_apart s number row h e =
      let m : k % 65536 ≡ k = omega arith in
      let a = key_is k space (omega arith) in
      let b : entry_key_t (k % 65536 + 1) s ≡ 257 * (k + 1) + s = rw m (key_is (k + 1) s (omega arith)) in
      omega arith

  own_key : (s name number : ℕ) → (s ≡ space → ⊥) → space_of (slot_t k s name number) ≡ entry_key_t k space → ⊥
  unfolding slot_t
  own_key s name number n e = let a = key_is k space (omega arith) in let b = key_is k s (omega arith) in n (omega arith)

  -- one declaration further
  skip : (c : List ℕ) (m s : ℕ) (o : Option ℕ) (b : Bool) → Counts c m → m < 65536 → s < 13 → eqb s space ≡ b → number_from (get_or (more_count_t c s) space 0) o ≡ number_from (get_or c space 0) (when b then Option.map suc o else o)
  unfolding when◌then◌else◌
  skip c m s o true C l h e = let q : s ≡ space = eqb-true s space e in rw (← q, more_same c m s C l h) (from_next (get_or c s 0) o)
  skip c m s o false C l h e = rw (more_other c s space (λ q. false_not (sym e ∙ eq-eqb s space q)))

  -- a declaration of another name
  find_next : (d : Declaration) (ds : List Declaration) (name : ℕ) → (d.name ≡ name → ⊥) → find (d ∷ ds) space name ≡ (when eqb d.space space then Option.map suc (find ds space name) else find ds space name)
  unfolding find when◌then◌else◌
  find_next d ds name n = rw (ne_eqb _ _ n)

  find_else : (d : Declaration) (ds : List Declaration) (name : ℕ) → eqb d.space space ≡ false → find (d ∷ ds) space name ≡ (when eqb d.space space then Option.map suc (find ds space name) else find ds space name)
  unfolding find when◌then◌else◌
  find_else d ds name e = rw e

  find_this : (d : Declaration) (ds : List Declaration) (name : ℕ) → d.space ≡ space → d.name ≡ name → find (d ∷ ds) space name ≡ some 0
  unfolding find when◌then◌else◌
  find_this d ds name e f = rw (eq-eqb _ _ e, eq-eqb _ _ f)

  low_fresh : (a name : ℕ) → is_fresh a ≡ true → name ≤ top_name → a ≡ name → ⊥
  unfolding is_fresh
  low_fresh a name f l e = let h = leb_le 2147483648 a f in omega arith

  meet_own : (c : List ℕ) (x : Declared) (rest : List Slot) (name : ℕ) (b : Bool) → is_inserted x.head ≡ false → x.decl.space ≡ space → eqb x.decl.name name ≡ b
      → find_in (slot_of k c x ∷ rest) (entry_key_t k space) name ≡ pick b (Some (get_or c space 0)) (find_in rest (entry_key_t k space) name)
  unfolding slot_t
  meet_own c x rest name b p e u =
      rw (own_slot c x p) (meet_slot (slot_t k x.decl.space x.decl.name (get_or c x.decl.space 0)) rest (entry_key_t k space) name b (rw e) u ∙ rw e)

  abbrev NamesFound : (c : List ℕ) (name : ℕ) → List Declared → Type 0
  NamesFound c name xs = find_in (slots_of k c xs) (entry_key_t k space) name ≡ number_from (get_or c space 0) (find (decls_of xs) space name)

  -- a declaration that is passed over
  names_past : (c : List ℕ) (m name : ℕ) (x : Declared) (xs : List Declared) → Counts c m → m < 65536 → Apt x → NamesFound (more_count_t c x.decl.space) name xs
      → find_in (slots_of k c (x ∷ xs)) (entry_key_t k space) name ≡ find_in (slots_of k (more_count_t c x.decl.space) xs) (entry_key_t k space) name
      → find (decls_of (x ∷ xs)) space name ≡ (when eqb x.decl.space space then Option.map suc (find (decls_of xs) space name) else find (decls_of xs) space name) → NamesFound c name (x ∷ xs)
  names_past c m name x xs C l A f e g = e ∙ (f ∙ (skip c m x.decl.space (find (decls_of xs) space name) (eqb x.decl.space space) C l A.space refl ∙ rw g))

  names_next : (c : List ℕ) (m name : ℕ) (x : Declared) (xs : List Declared) (a b t : Bool) → is_inserted x.head ≡ a → eqb x.decl.space space ≡ b → eqb x.decl.name name ≡ t → name ≤ top_name → Counts c m → m < 65536 → Apt x
      → NamesFound (more_count_t c x.decl.space) name xs → NamesFound c name (x ∷ xs)
  unfolding slots_of pick number_from
  names_next c m name x xs true b t p q u n C l A f =
      let h = A.space in
      names_past c m name x xs C l A f (pass_slot (slot_of k c x) _ _ _ (rw (alias_slot_lem c x p) (alias_apart x.decl.space _ _ (omega arith)))) (find_next x.decl (decls_of xs) name (low_fresh x.decl.name name (A.fresh p) n))
  names_next c m name x xs false false t p q u n C l A f =
      names_past c m name x xs C l A f (pass_slot (slot_of k c x) _ _ _ (rw (own_slot c x p) (own_key x.decl.space _ _ (λ e. false_not (sym q ∙ eq-eqb x.decl.space space e))))) (find_else x.decl (decls_of xs) name q)
  names_next c m name x xs false true false p q u n C l A f =
      let e : x.decl.space ≡ space = eqb-true x.decl.space space q in
      names_past c m name x xs C l A f (meet_own c x _ name false p e u) (find_next x.decl (decls_of xs) name (λ g. false_not (sym u ∙ eq-eqb x.decl.name name g)))
  names_next c m name x xs false true true p q u n C l A f =
      let e : x.decl.space ≡ space = eqb-true x.decl.space space q in
      let g : x.decl.name ≡ name = eqb-true x.decl.name name u in
      let z : get_or c space 0 + 0 ≡ get_or c space 0 = omega arith in
      rw (find_this x.decl (decls_of xs) name e g) (meet_own c x _ name true p e u ∙ rw z)

  pub names_found : (xs : List Declared) (c : List ℕ) (m name : ℕ) → name ≤ top_name → Counts c m → m + length xs ≤ 65536 → All Apt xs → NamesFound c name xs
  unfolding slots_of find find_in number_from
  names_found [] c m name n C l done = refl
  names_found (x ∷ xs) c m name n C l (A & As) =
      names_next c m name x xs (is_inserted x.head) (eqb x.decl.space space) (eqb x.decl.name name) refl refl refl n C (omega arith) A
      (names_found xs (more_count_t c x.decl.space) (suc m) name n (more_counts c m x.decl.space C (omega arith) A.space) (omega arith) As)

-- ---- by number

-- the e-th of a space
unfoldable pub nth_of : List Declared → (space e : ℕ) → Option Declared
nth_of [] space e = none
nth_of (x ∷ xs) space zero = when eqb x.decl.space space then some x else nth_of xs space zero
nth_of (x ∷ xs) space (suc e) = when eqb x.decl.space space then nth_of xs space e else nth_of xs space (suc e)

-- its row, if its field is added
unfoldable pub alias_from : Option Declared → CodeOption ℕ
alias_from none = None
alias_from (some x) = when is_inserted x.head then Some (x.row % 65536) else None

module _ (k : ℕ) (low : suc k < 65536) (space : ℕ) (narrow : space < 256) where
  abbrev key : ℕ
  key = entry_key_t (k + 1) space

  own_apart : (s name number : ℕ) → s < 256 → space_of (slot_t k s name number) ≡ key → ⊥
  unfolding slot_t
  own_apart s name number h e = let a = key_is k s (omega arith) in let b = key_is (k + 1) space (omega arith) in omega arith

  other_alias : (s number row : ℕ) → (s ≡ space → ⊥) → space_of (slot_t (k % 65536 + 1) s number row) ≡ key → ⊥
  unfolding slot_t
  other_alias s number row n e =
      let m : k % 65536 ≡ k = omega arith in
      let a = key_is (k + 1) space (omega arith) in
      let b : entry_key_t (k % 65536 + 1) s ≡ 257 * (k + 1) + s = rw m (key_is (k + 1) s (omega arith)) in
      n (omega arith)

  -- a slot that is passed over
  record Passed (c : List ℕ) (x : Declared) : Type 0 where
    passed : space_of (slot_of k c x) ≡ key → ⊥

  own_passed : (c : List ℕ) (x : Declared) → Apt x → is_inserted x.head ≡ false → Passed c x
  own_passed c x A p = let h = A.space in record { passed = rw (own_slot k low space narrow c x p) (own_apart x.decl.space x.decl.name (get_or c x.decl.space 0) (omega arith)) }

  other_passed : (c : List ℕ) (x : Declared) → Apt x → eqb x.decl.space space ≡ false → Passed c x
  other_passed c x A q = go (is_inserted x.head) refl
    where
      go : (a : Bool) → is_inserted x.head ≡ a → Passed c x
      go true p = record { passed = rw (alias_slot_lem k low space narrow c x p) (other_alias x.decl.space (get_or c x.decl.space 0 % 65536 + 1) (x.row % 65536) (λ e. false_not (sym q ∙ eq-eqb x.decl.space space e))) }
      go false p = own_passed c x A p

  past_slot : (c : List ℕ) (x : Declared) (xs : List Declared) (name : ℕ) → Passed c x → find_in (slots_of k c (x ∷ xs)) key name ≡ find_in (slots_of k (more_count_t c x.decl.space) xs) key name
  unfolding slots_of
  past_slot c x xs name P = pass_slot k low space narrow (slot_of k c x) _ key name P.passed

  -- an added alias of the space
  meet_alias : (c : List ℕ) (m : ℕ) (x : Declared) (xs : List Declared) (n : ℕ) (b : Bool) → Counts c m → m < 65536 → is_inserted x.head ≡ true → x.decl.space ≡ space → eqb (suc (get_or c space 0)) n ≡ b
      → find_in (slots_of k c (x ∷ xs)) key n ≡ pick b (Some (x.row % 65536)) (find_in (slots_of k (more_count_t c x.decl.space) xs) key n)
  unfolding slots_of slot_t
  meet_alias c m x xs n b C l p e u =
      let f = C.few space in
      let v : get_or c space 0 % 65536 + 1 ≡ suc (get_or c space 0) = omega arith in
      let w : k % 65536 + 1 ≡ k + 1 = omega arith in
      rw (alias_slot_lem k low space narrow c x p) (meet_slot k low space narrow (slot_t (k % 65536 + 1) x.decl.space (get_or c x.decl.space 0 % 65536 + 1) (x.row % 65536)) _ key n b (rw (e, w)) (rw (e, v) u))

  -- one of the space, and those behind it
  record Onward (c : List ℕ) (x : Declared) : Type 0 where
    same : x.decl.space ≡ space
    more : get_or (more_count_t c x.decl.space) space 0 ≡ suc (get_or c space 0)

  onward : (c : List ℕ) (m : ℕ) (x : Declared) → Counts c m → m < 65536 → Apt x → eqb x.decl.space space ≡ true → Onward c x
  onward c m x C l A q =
      let e : x.decl.space ≡ space = eqb-true x.decl.space space q in
      let t = more_same c m x.decl.space C l A.space in
      record { same = e; more = rw e (rw e at t) }

  -- numbers below those that are left
  abbrev Below : (c : List ℕ) → List Declared → Type 0
  Below c xs = (n : ℕ) → n < get_or c space 0 → find_in (slots_of k c xs) key (suc n) ≡ None

  below_next : (c : List ℕ) (m : ℕ) (x : Declared) (xs : List Declared) (a b : Bool) → is_inserted x.head ≡ a → eqb x.decl.space space ≡ b → Counts c m → m < 65536 → Apt x → Below (more_count_t c x.decl.space) xs → Below c (x ∷ xs)
  unfolding pick
  below_next c m x xs a false p q C l A f n h = past_slot c x xs (suc n) (other_passed c x A q) ∙ f n (rw (more_other c x.decl.space space (λ e. false_not (sym q ∙ eq-eqb x.decl.space space e))) h)
  below_next c m x xs false true p q C l A f n h =
      let u = (onward c m x C l A q).more in
      past_slot c x xs (suc n) (own_passed c x A p) ∙ f n (omega arith)
  below_next c m x xs true true p q C l A f n h =
      let O = onward c m x C l A q in
      let u = O.more in
      meet_alias c m x xs (suc n) false C l p O.same (ne_eqb (suc (get_or c space 0)) (suc n) (omega arith)) ∙ f n (omega arith)

  below : (xs : List Declared) (c : List ℕ) (m : ℕ) → Counts c m → m + length xs ≤ 65536 → All Apt xs → Below c xs
  unfolding slots_of find_in
  below [] c m C l done n h = refl
  below (x ∷ xs) c m C l (A & As) n h =
      below_next c m x xs (is_inserted x.head) (eqb x.decl.space space) refl refl C (omega arith) A
      (below xs (more_count_t c x.decl.space) (suc m) (more_counts c m x.decl.space C (omega arith) A.space) (omega arith) As) n h

  abbrev AliasesFound : (c : List ℕ) → List Declared → Type 0
  AliasesFound c xs = (e : ℕ) → find_in (slots_of k c xs) key (suc (get_or c space 0 + e)) ≡ alias_from (nth_of xs space e)

  nth_other : (x : Declared) (xs : List Declared) (e : ℕ) → eqb x.decl.space space ≡ false → nth_of (x ∷ xs) space e ≡ nth_of xs space e
  unfolding nth_of when◌then◌else◌
  nth_other x xs zero q = rw q
  nth_other x xs (suc e) q = rw q

  nth_first : (x : Declared) (xs : List Declared) → eqb x.decl.space space ≡ true → nth_of (x ∷ xs) space 0 ≡ some x
  unfolding nth_of when◌then◌else◌
  nth_first x xs q = rw q

  nth_later : (x : Declared) (xs : List Declared) (e : ℕ) → eqb x.decl.space space ≡ true → nth_of (x ∷ xs) space (suc e) ≡ nth_of xs space e
  unfolding nth_of when◌then◌else◌
  nth_later x xs e q = rw q

  later : (c : List ℕ) (x : Declared) (xs : List Declared) (e : ℕ) → Onward c x → AliasesFound (more_count_t c x.decl.space) xs → find_in (slots_of k (more_count_t c x.decl.space) xs) key (suc (get_or c space 0 + suc e)) ≡ alias_from (nth_of xs space e)
  later c x xs e O f = let n : suc (get_or c space 0) + e ≡ get_or c space 0 + suc e = omega arith in rw (← n) (rw O.more at (f e))

  aliases_next : (c : List ℕ) (m : ℕ) (x : Declared) (xs : List Declared) (a b : Bool) → is_inserted x.head ≡ a → eqb x.decl.space space ≡ b → Counts c m → m < 65536 → Apt x → Below (more_count_t c x.decl.space) xs
      → AliasesFound (more_count_t c x.decl.space) xs → AliasesFound c (x ∷ xs)
  unfolding pick alias_from when◌then◌else◌
  aliases_next c m x xs a false p q C l A low₁ f e =
      let t = more_other c x.decl.space space (λ g. false_not (sym q ∙ eq-eqb x.decl.space space g)) in
      past_slot c x xs _ (other_passed c x A q) ∙ rw (nth_other x xs e q) (rw t at (f e))
  aliases_next c m x xs false true p q C l A low₁ f zero =
      let O = onward c m x C l A q in
      let u = O.more in
      past_slot c x xs _ (own_passed c x A p) ∙ rw (nth_first x xs q, p) (low₁ (get_or c space 0 + 0) (omega arith))
  aliases_next c m x xs false true p q C l A low₁ f (suc e) =
      past_slot c x xs _ (own_passed c x A p) ∙ rw (nth_later x xs e q) (later c x xs e (onward c m x C l A q) f)
  aliases_next c m x xs true true p q C l A low₁ f zero =
      let O = onward c m x C l A q in
      rw (nth_first x xs q, p) (meet_alias c m x xs (suc (get_or c space 0 + 0)) true C l p O.same (eq-eqb (suc (get_or c space 0)) (suc (get_or c space 0 + 0)) (omega arith)))
  aliases_next c m x xs true true p q C l A low₁ f (suc e) =
      let O = onward c m x C l A q in
      rw (nth_later x xs e q) (meet_alias c m x xs (suc (get_or c space 0 + suc e)) false C l p O.same (ne_eqb (suc (get_or c space 0)) (suc (get_or c space 0 + suc e)) (omega arith)) ∙ later c x xs e O f)

  pub aliases_found : (xs : List Declared) (c : List ℕ) (m : ℕ) → Counts c m → m + length xs ≤ 65536 → All Apt xs → AliasesFound c xs
  unfolding slots_of find_in nth_of alias_from
  aliases_found [] c m C l done e = refl
  aliases_found (x ∷ xs) c m C l (A & As) e =
      let D = more_counts c m x.decl.space C (omega arith) A.space in
      aliases_next c m x xs (is_inserted x.head) (eqb x.decl.space space) refl refl C (omega arith) A (below xs (more_count_t c x.decl.space) (suc m) D (omega arith) As)
      (aliases_found xs (more_count_t c x.decl.space) (suc m) D (omega arith) As) e

  -- no alias has the number 0, counted from 1
  zero_next : (c : List ℕ) (m : ℕ) (x : Declared) (xs : List Declared) (a b : Bool) → is_inserted x.head ≡ a → eqb x.decl.space space ≡ b → Counts c m → m < 65536 → Apt x
      → find_in (slots_of k c (x ∷ xs)) key 0 ≡ find_in (slots_of k (more_count_t c x.decl.space) xs) key 0
  unfolding pick
  zero_next c m x xs a false p q C l A = past_slot c x xs 0 (other_passed c x A q)
  zero_next c m x xs false true p q C l A = past_slot c x xs 0 (own_passed c x A p)
  zero_next c m x xs true true p q C l A = meet_alias c m x xs 0 false C l p (eqb-true x.decl.space space q) (ne_eqb (suc (get_or c space 0)) 0 (omega arith))

  pub zero_nothing : (xs : List Declared) (c : List ℕ) (m : ℕ) → Counts c m → m + length xs ≤ 65536 → All Apt xs → find_in (slots_of k c xs) key 0 ≡ None
  unfolding slots_of find_in
  zero_nothing [] c m C l done = refl
  zero_nothing (x ∷ xs) c m C l (A & As) =
      zero_next c m x xs (is_inserted x.head) (eqb x.decl.space space) refl refl C (omega arith) A
      ∙ zero_nothing xs (more_count_t c x.decl.space) (suc m) (more_counts c m x.decl.space C (omega arith) A.space) (omega arith) As

-- there are no more of a space than declarations
pub nth_past : (xs : List Declared) (space e : ℕ) → length xs ≤ e → nth_of xs space e ≡ none
unfolding nth_of
nth_past [] space e l = refl
nth_past (x ∷ xs) space zero l = absurd (omega arith)
nth_past (x ∷ xs) space (suc e) l = if_both (λ (o : Option Declared). o ≡ none) (eqb x.decl.space space) _ _ (nth_past xs space e (omega arith)) (nth_past xs space (suc e) (omega arith))
