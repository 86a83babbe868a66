-- What is found among all that was entered for a claim is, for each of its scopes, what the rules say of that scope's declarations.
use Rattle.std.specs.Prelude.{◌≡◌, refl, Bool, true, List, [], ◌∷◌, ◌++◌, map, ℕ, zero, suc, ◌+◌, ◌*◌, ◌%◌, ◌<◌, ◌≤◌, eqb, get_or, replicate, Option as CodeOption, Some, None}
use Rattle.std.proofs.Common.{sym, ap, ap₂, ◌∙◌, ⊎_elim, append_assoc, append-nil, arith, lt-ltb, le-ltb}
use Rattle.std.proofs.Math.Bool.{false}
use Rattle.std.proofs.Math.Option.{Option, none, some}
use Rattle.std.proofs.lemmas.List.{map-append}
use Rattle.std.proofs.Math.ListN.{length, get_elem?, length-append}
use Rattle.kit.specs.Pick.{pick}
use Rattle.kit.proofs.Laws.{copies_at, lt_or_le}
use Rattle.parts.specs.declared.Parts.{Parts}
use Rattle.names.specs.Table.{Slot, space_of, find_in}
use Rattle.rules.specs.Tools.{when◌then◌else◌, only, ◌then◌, is_in}
use Rattle.rules.specs.Versions.{RuleSet, top_name}
use Rattle.rules.specs.Rows.{Row, Close}
use Rattle.rules.specs.Tree.{Declaration, Head, Scope, scope, Fields, end, ◌▸◌, Item, plain, holds, head_of, head_rows, flatten, fields_rows, item_rows}
use Rattle.rules.specs.Good.{GoodHead, GoodScope, GoodFields, GoodItem}
use Rattle.rules.specs.Rules.{find, declarations}
use Rattle.rules.specs.Readings.{is_fresh, is_inserted, level, Spot, original, inserted, Standing, in_original, in_inserted, standings, of_space, counted}
use Rattle.rules.specs.Laws.ToolLaws.{All, done, ◌&◌, all_append, all_map, Ok, if_ok_lem, false_not}
use Rattle.agree.specs.Fit.Spaces.{SpacesDecls}
use Rattle.agree.specs.Fit.GoodSpaces.{head_decls}
use Rattle.checking.specs.Check.{if_added, reached, not_number}
use Rattle.checking.proofs.Laws.AddedFields.{Added, IsAdded, added_head, AddedScope, AddedFields, AddedItem}
use Rattle.claim_scopes.specs.Entries.{entry_key_t, slot_t}
use Rattle.claim_numbers.specs.Count.{no_counts, more_count_t}
use Rattle.claim_numbers.specs.Enter.{decl_slot}
use Rattle.claim_reach.specs.Alias.{reach_counted_t}
use Rattle.claim_laws.specs.RowParts.{as_parts, scope_size, fields_size, holds_size, head_size, head_decls_size, item_size, Stands, stands_first, stands_second}
use Rattle.claim_laws.specs.Keys.{find_append, find_other, other_first, other_last, or_found, Other, Of, Within, wider, key_is, key_within}
use Rattle.claim_laws.specs.AliasShape.{good_head, AliasOf, alias_of_lem}
use Rattle.claim_laws.specs.Slots.{Declared, from_head, head_declared, declared_in, counts_by, slot_of, slots_of, slots_append, scope_slots, fields_slots, item_slots}
use Rattle.claim_laws.specs.Found.{Counts, Apt, number_from, names_found, nth_of, nth_past, alias_from, aliases_found, zero_nothing}

-- ---- the declarations of a scope are those of the rules

abbrev decls_of : List Declared → List Declaration
decls_of xs = map (λ (x : Declared). x.decl) xs

from_decls : (h : Head) (n : ℕ) (ds : List Declaration) → decls_of (from_head h n ds) ≡ ds
from_decls h n [] = refl
from_decls h n (d ∷ ds) = ap (λ (l : List Declaration). d ∷ l) (from_decls h (suc n) ds)

decls_declared : (n : ℕ) (fs : Fields) → decls_of (declared_in n fs) ≡ declarations fs
unfolding declared_in declarations
decls_declared n end = refl
decls_declared n (i ▸ fs) =
    map-append (λ (x : Declared). x.decl) (head_declared n (head_of i)) (declared_in (n + length (item_rows i)) fs)
    ∙ ap₂ (λ (a b : List Declaration). a ++ b) (from_decls (head_of i) (suc n) (head_of i).decls) (decls_declared (n + length (item_rows i)) fs)

-- ---- the added field that a number reaches

abbrev added_at : Declared → Option Head
added_at x = only (is_inserted x.head) x.head

data Same : List Standing → List Declared → Type 0 where
  none_same : Same [] []
  more_same : {s : Standing} {x : Declared} {ss : List Standing} {xs : List Declared} → s.decl ≡ x.decl → if_added s.spot ≡ added_at x → Same ss xs → Same (s ∷ ss) (x ∷ xs)

same_append : (ss ts : List Standing) (xs ys : List Declared) → Same ss xs → Same ts ys → Same (ss ++ ts) (xs ++ ys)
same_append [] ts [] ys none_same q = q
same_append (s ∷ ss) ts (x ∷ xs) ys (more_same e f p) q = more_same e f (same_append ss ts xs ys p q)
same_append [] ts (x ∷ xs) ys x5 q = elim x5 [ ]
same_append (s ∷ ss) ts [] ys x4 q = elim x4 [ ]

same_inserted : (h : Head) (n : ℕ) (ds : List Declaration) → is_inserted h ≡ true → Same (in_inserted h ds) (from_head h n ds)
unfolding in_inserted if_added only
same_inserted h n [] e = none_same
same_inserted h n (d ∷ ds) e = more_same {s = record { decl = d; spot = inserted h }} {x = record { head = h; row = n; decl = d }} refl (rw e) (same_inserted h (suc n) ds e)

same_original : (h : Head) (n field at : ℕ) (ds : List Declaration) → is_inserted h ≡ false → Same (in_original field at ds) (from_head h n ds)
unfolding in_original if_added only
same_original h n field at [] e = none_same
same_original h n field at (d ∷ ds) e = more_same {s = record { decl = d; spot = original field at }} {x = record { head = h; row = n; decl = d }} refl (rw e) (same_original h (suc n) field (suc at) ds e)

same_head : (h : Head) (n field : ℕ) (b : Bool) → is_inserted h ≡ b → Same (when b then in_inserted h h.decls else in_original field 0 h.decls) (head_declared n h)
unfolding when◌then◌else◌
same_head h n field true e = same_inserted h (suc n) h.decls e
same_head h n field false e = same_original h (suc n) field 0 h.decls e

same_fields : (j n : ℕ) (fs : Fields) → Same (standings j fs) (declared_in n fs)
unfolding standings declared_in
same_fields j n end = none_same
same_fields j n (i ▸ fs) = same_append _ _ (head_declared n (head_of i)) (declared_in (n + length (item_rows i)) fs) (same_head (head_of i) n j (is_inserted (head_of i)) refl) (same_fields (when is_inserted (head_of i) then j else suc j) (n + length (item_rows i)) fs)

same_space : (s : Standing) (x : Declared) → s.decl ≡ x.decl → (space : ℕ) → eqb s.decl.space space ≡ eqb x.decl.space space
same_space s x e space = ap (λ (d : Declaration). eqb d.space space) e

nth_same : (ss : List Standing) (xs : List Declared) (space e : ℕ) → Same ss xs → (get_elem? (of_space ss space) e then if_added) ≡ (nth_of xs space e then added_at)
unfolding of_space nth_of ◌then◌ when◌then◌else◌
nth_same [] [] space e none_same = refl
nth_same (s ∷ ss) (x ∷ xs) space e (more_same q f p) = go (eqb x.decl.space space) e (same_space s x q space) refl (λ m. nth_same ss xs space m p)
  where
    go : (b : Bool) (e : ℕ) → eqb s.decl.space space ≡ eqb x.decl.space space → eqb x.decl.space space ≡ b → ((m : ℕ) → (get_elem? (of_space ss space) m then if_added) ≡ (nth_of xs space m then added_at))
        → (get_elem? (of_space (s ∷ ss) space) e then if_added) ≡ (nth_of (x ∷ xs) space e then added_at)
    go true zero t u r = rw (t, u) f
    go true (suc e) t u r = rw (t, u) (r e)
    go false zero t u r = rw (t, u) (r zero)
    go false (suc e) t u r = rw (t, u) (r (suc e))
nth_same [] (x ∷ xs) space e x3 = elim x3 [ ]
nth_same (s ∷ ss) [] space e x3 = elim x3 [ ]

reached_nth : (n : ℕ) (fs : Fields) (space e : ℕ) → reached fs space e ≡ (nth_of (declared_in n fs) space e then added_at)
unfolding reached counted
reached_nth n fs space e = nth_same (standings 0 fs) (declared_in n fs) space e (same_fields 0 n fs)

-- ---- aliases by their rows

-- an added field that passed condition 3
pub record AliasHead (h : Head) : Type 0 where
  pub decl : Declaration
  pub alone : h.decls ≡ decl ∷ []
  pub shape : AliasOf h
  pub row : ℕ
  pub numbers : not_number row h.operands ≡ none

-- what is found of an alias: the row of its DECL
pub data AliasAt (at : ℕ → Parts) : CodeOption ℕ → Option Head → Type 0 where
  nowhere : AliasAt at None none
  there : (r : ℕ) (h : Head) → Stands at r (head_rows h) → AliasHead h → AliasAt at (Some (suc r)) (some h)

-- a declaration whose field stands there, if it is added
pub record Placed (at : ℕ → Parts) (x : Declared) : Type 0 where
  pub r : ℕ
  pub row : x.row ≡ suc r
  pub low : suc r < 65536
  pub stands : Stands at r (head_rows x.head)
  pub alias : AliasHead x.head

abbrev pub PlacedIf : (at : ℕ → Parts) → Declared → Type 0
PlacedIf at x = is_inserted x.head ≡ true → Placed at x

nth_all : (P : Declared → Type 0) (xs : List Declared) (space e : ℕ) → All P xs → Ok P (nth_of xs space e)
unfolding nth_of
nth_all P [] space e done = tt
nth_all P (x ∷ xs) space zero (h & hs) = if_ok_lem (Ok P) (eqb x.decl.space space) (some x) (nth_of xs space zero) (λ t. h) (λ t. nth_all P xs space zero hs)
nth_all P (x ∷ xs) space (suc e) (h & hs) = if_ok_lem (Ok P) (eqb x.decl.space space) (nth_of xs space e) (nth_of xs space (suc e)) (λ t. nth_all P xs space e hs) (λ t. nth_all P xs space (suc e) hs)

alias_at : (at : ℕ → Parts) (o : Option Declared) → Ok (PlacedIf at) o → AliasAt at (alias_from o) (o then added_at)
unfolding alias_from ◌then◌
alias_at at none p = nowhere
alias_at at (some x) p = go (is_inserted x.head) refl
  where
    go : (b : Bool) → is_inserted x.head ≡ b → AliasAt at (when is_inserted x.head then Some (x.row % 65536) else None) (only (is_inserted x.head) x.head)
    go true e =
        let P = p e in
        let low = P.low in
        let q : suc P.r % 65536 ≡ suc P.r = omega arith in
        rw (e, P.row, q) (unfold when◌then◌else◌ only in there P.r x.head P.stands P.alias)
    go false e = rw e (unfold when◌then◌else◌ only in nowhere)

-- ---- the slots of one scope

-- of the scope whose OPEN is row k, among these slots
pub record Known (at : ℕ → Parts) (ss : List Slot) (k : ℕ) (fs : Fields) : Type 0 where
  pub names : (space name : ℕ) → space < 256 → name ≤ top_name → find_in ss (entry_key_t k space) name ≡ number_from 0 (find (declarations fs) space name)
  pub aliases : (space m : ℕ) → space < 256 → AliasAt at (find_in ss (entry_key_t (k + 1) space) (reach_counted_t m)) (reached fs space m)

no_counts_lem : (s : ℕ) → get_or no_counts s 0 ≡ 0
no_counts_lem s = copies_at 13 s 0

start_counts : Counts no_counts 0
start_counts = record { long = refl; few = λ s. let e = no_counts_lem s in omega arith }

counted_low : (m : ℕ) → m < 65536 → reach_counted_t m ≡ suc m
unfolding reach_counted_t pick
counted_low m l = rw (lt-ltb _ _ l) (omega arith)

counted_high : (m : ℕ) → 65536 ≤ m → reach_counted_t m ≡ 0
unfolding reach_counted_t pick
counted_high m l = rw (le-ltb _ _ l)

pub own_known : (at : ℕ → Parts) (k : ℕ) (fs : Fields) → suc k < 65536 → length (declared_in (suc k) fs) ≤ 65536 → All Apt (declared_in (suc k) fs) → All (PlacedIf at) (declared_in (suc k) fs) → Known at (slots_of k no_counts (declared_in (suc k) fs)) k fs
own_known at k fs low few A P = record { names = names; aliases = λ space m narrow. ⊎_elim (λ l. low_number space m narrow l) (λ l. high_number space m narrow l) (lt_or_le m 65536) }
  where
    xs : List Declared
    xs = declared_in (suc k) fs

    names : (space name : ℕ) → space < 256 → name ≤ top_name → find_in (slots_of k no_counts xs) (entry_key_t k space) name ≡ number_from 0 (find (declarations fs) space name)
    names space name narrow l =
        let e = no_counts_lem space in
        names_found k low space narrow xs no_counts 0 name l start_counts (omega arith) A ∙ rw (e, decls_declared (suc k) fs)

    low_number : (space m : ℕ) → space < 256 → m < 65536 → AliasAt at (find_in (slots_of k no_counts xs) (entry_key_t (k + 1) space) (reach_counted_t m)) (reached fs space m)
    low_number space m narrow l =
        let e = no_counts_lem space in
        let f : find_in (slots_of k no_counts xs) (entry_key_t (k + 1) space) (suc m) ≡ alias_from (nth_of xs space m) =
        let q : suc (get_or no_counts space 0 + m) ≡ suc m = omega arith in rw q at (aliases_found k low space narrow xs no_counts 0 start_counts (omega arith) A m) in
        rw (counted_low m l, f, reached_nth (suc k) fs space m) (alias_at at (nth_of xs space m) (nth_all (PlacedIf at) xs space m P))

    high_number : (space m : ℕ) → space < 256 → 65536 ≤ m → AliasAt at (find_in (slots_of k no_counts xs) (entry_key_t (k + 1) space) (reach_counted_t m)) (reached fs space m)
    high_number space m narrow l =
        rw (counted_high m l, zero_nothing k low space narrow xs no_counts 0 start_counts (omega arith) A, reached_nth (suc k) fs space m, nth_past xs space m (omega arith)) (unfold ◌then◌ in nowhere)

-- ---- what holds of the declarations of a claim

abbrev AllFresh : List Declaration → Type 0
AllFresh [] = Unit {0}
AllFresh (d ∷ ds) = (is_fresh d.name ≡ true) × AllFresh ds

added_fresh : (h : Head) → Added h → AllFresh h.decls
added_fresh h A = rw A.alone (A.new, tt)

from_apt : (h : Head) (n : ℕ) (ds : List Declaration) → SpacesDecls ds → (is_inserted h ≡ true → AllFresh ds) → All Apt (from_head h n ds)
from_apt h n [] s f = done
from_apt h n (d ∷ ds) s f = record { space = s.0; fresh = λ t. (f t).0 } & from_apt h (suc n) ds s.1 (λ t. (f t).1)

own_placed : (at : ℕ → Parts) (h : Head) (n : ℕ) (ds : List Declaration) → is_inserted h ≡ false → All (PlacedIf at) (from_head h n ds)
own_placed at h n [] e = done
own_placed at h n (d ∷ ds) e = (λ t. false_not (sym e ∙ t)) & own_placed at h (suc n) ds e

pub declared_few : (n : ℕ) (fs : Fields) → length (declared_in n fs) ≤ length (fields_rows fs)
unfolding declared_in
declared_few n end = omega arith
declared_few n (i ▸ fs) =
    let a = length-append (head_declared n (head_of i)) (declared_in (n + length (item_rows i)) fs) in
    let b = from_few (head_of i) (suc n) (head_of i).decls in
    let c = head_decls_size (head_of i) in
    let d = item_size i in
    let e = fields_size i fs in
    let f = declared_few (n + length (item_rows i)) fs in
    omega arith
  where
    from_few : (h : Head) (n : ℕ) (ds : List Declaration) → length (from_head h n ds) ≡ length ds
    from_few h n [] = refl
    from_few h n (d ∷ ds) = ap suc (from_few h (suc n) ds)

one_placed : (at : ℕ → Parts) (h : Head) (n : ℕ) (d : Declaration) (ds : List Declaration) → ds ≡ d ∷ [] → Placed at (record { head = h; row = n; decl = d }) → All (PlacedIf at) (from_head h n ds)
one_placed at h n d ds e P = rw e ((λ t. P) & done)

module _ (at : ℕ → Parts) (rules : RuleSet) where
  alias_head : (kind : ℕ) (h : Head) → GoodHead rules kind h → Added h → AliasHead h
  alias_head kind h g A = record { decl = A.decl; alone = A.alone; shape = alias_of_lem rules kind h g A.coded; row = A.row; numbers = A.numbers }

  pub head_apt : (kind n : ℕ) (h : Head) → GoodHead rules kind h → (is_inserted h ≡ true → Added h) → All Apt (head_declared n h)
  head_apt kind n h g f = from_apt h (suc n) h.decls (head_decls rules kind h g) (λ t. added_fresh h (f t))

  head_placed : (kind n : ℕ) (h : Head) → GoodHead rules kind h → (is_inserted h ≡ true → Added h) → Stands at n (head_rows h) → suc n < 65536 → All (PlacedIf at) (head_declared n h)
  head_placed kind n h g f s l = go (is_inserted h) refl
    where
      go : (b : Bool) → is_inserted h ≡ b → All (PlacedIf at) (head_declared n h)
      go true e = let A = f e in one_placed at h (suc n) A.decl h.decls A.alone (record { r = n; row = refl; low = l; stands = s; alias = alias_head kind h g A })
      go false e = own_placed at h (suc n) h.decls e

  pub is_added : (i : Item) → (is_inserted (head_of i) ≡ true → IsAdded i) → is_inserted (head_of i) ≡ true → Added (head_of i)
  is_added i f t = added_head i (f t)

  stands_head : (i : Item) (n : ℕ) → Stands at n (item_rows i) → Stands at n (head_rows (head_of i))
  unfolding head_of flatten
  stands_head (plain h) n s = s
  stands_head (holds h t) n s = stands_first at n (head_rows h) (flatten t) s

  pub fields_apt : (fs : Fields) (kind n : ℕ) → GoodFields rules fs kind → AddedFields fs → All Apt (declared_in n fs)
  unfolding declared_in
  fields_apt end kind n g a = done
  fields_apt (i ▸ fs) kind n g a = all_append (head_declared n (head_of i)) (declared_in (n + length (item_rows i)) fs) (head_apt kind n (head_of i) (good_head rules i kind g.0) (is_added i a.0)) (fields_apt fs kind (n + length (item_rows i)) g.1 a.2)

  pub fields_placed : (fs : Fields) (kind n : ℕ) → GoodFields rules fs kind → AddedFields fs → Stands at n (fields_rows fs) → n + length (fields_rows fs) < 65536 → All (PlacedIf at) (declared_in n fs)
  unfolding declared_in flatten
  fields_placed end kind n g a s l = done
  fields_placed (i ▸ fs) kind n g a s l =
      let e = length-append (item_rows i) (fields_rows fs) in
      let c = head_size (head_of i) in
      let d = item_size i in
      all_append (head_declared n (head_of i)) (declared_in (n + length (item_rows i)) fs)
      (head_placed kind n (head_of i) (good_head rules i kind g.0) (is_added i a.0) (stands_head i n (stands_first at n (item_rows i) (fields_rows fs) s)) (omega arith))
      (fields_placed fs kind (n + length (item_rows i)) g.1 a.2 (stands_second at n (item_rows i) (fields_rows fs) s) (omega arith))
