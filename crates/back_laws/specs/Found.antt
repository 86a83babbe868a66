-- In the table of all declarations each scope's are found by their numbers.
use Rattle.std.specs.Prelude.{◌≡◌, Bool, true, false, ◌⊎◌, ℕ, zero, suc, ◌+◌, ◌*◌, ◌%◌, ◌<◌, ◌≤◌, eqb, ltb, Option as CodeOption, Some, None, unwrap_or}
use Rattle.std.proofs.Math.Path.{refl}
use Rattle.std.proofs.Common.{sym, ap, ◌∙◌, subst, inl, inr, ⊎_elim, eq-eqb, ne_eqb, eqb-true, ltb-false}
use Rattle.std.proofs.Math.Option.{Option, none, some}
use mathlib.Core.List.{List, [], ◌∷◌, ◌++◌, append_assoc, append-nil}
use native.Mathlib.Omega.{arith}
use Rattle.std.proofs.Math.ListN.{length, get_elem?, length-append}
use Rattle.std.proofs.lemmas.Bool.{eqb-false}
use Rattle.kit.specs.Pick.{pick}
use Rattle.rules.specs.Tools.{when◌then◌else◌, ◌then◌}
use Rattle.rules.specs.Versions.{RuleSet}
use Rattle.rules.specs.Tree.{Declaration, Head, Scope, scope, Fields, end, ◌▸◌, Item, plain, holds, head_of, head_rows, flatten, fields_rows, item_rows}
use Rattle.rules.specs.Rules.{declarations}
use Rattle.rules.specs.Good.{GoodHead, GoodScope, GoodFields, GoodItem}
use Rattle.rules.specs.Laws.ToolLaws.{All, done, ◌&◌, all_append, all_map}
use Rattle.unresolving.specs.Back.{or_zero, names_in, name_out}
use Rattle.agree.specs.Fit.Spaces.{SpacesDecls}
use Rattle.agree.specs.Fit.GoodSpaces.{head_decls}
use Rattle.names.specs.Table.{Slot, space_of, name_of, number_of, find_in}
use Rattle.parts.specs.declared.Parts.{Parts}
use Rattle.claim_scopes.specs.Entries.{entry_key_t, slot_t, look_t}
use Rattle.claim_laws.specs.RowParts.{scope_size, fields_size}
use Rattle.claim_laws.specs.Keys.{or_found, find_append, find_other, Other, other_first, other_last, Of, Within, wider, key_is, key_within, outside}
use Rattle.back_notes.specs.Note.{note}
use Rattle.back_notes.specs.Names
use Rattle.back_notes.specs.Names.{name_of_t}
use Rattle.back_laws.specs.Notes.{row_out, inner_rows, item_length, inner_length, more_names, fewer_names, decls_few, own_head}
use Rattle.back_laws.specs.Entered.{decl_slots, scope_slots, fields_slots, item_slots}

unfoldable pub found_of : Option ℕ → CodeOption ℕ
found_of none = None
found_of (some n) = Some n

-- ---- the declarations of one scope

same_key_lem : (k space space' : ℕ) → k < 65536 → eqb (entry_key_t k space) (entry_key_t k space') ≡ eqb space space'
same_key_lem k space space' l = go (eqb space space') refl
  where
    go : (t : Bool) → eqb space space' ≡ t → eqb (entry_key_t k space) (entry_key_t k space') ≡ t
    go true e = rw (eqb-true space space' e) (eq-eqb (entry_key_t k space') (entry_key_t k space') refl)
    go false e =
        let n = eqb-false space space' e in
        let a = key_is k space l in
        let b = key_is k space' l in
        ne_eqb (entry_key_t k space) (entry_key_t k space') (λ q. n (omega arith))

-- the j-th of a space behind those before
decl_found : (k : ℕ) (past ds : List Declaration) (space j x : ℕ) → k < 65536 → length past + length ds < 65536 → x ≡ length (names_in past space) + j + 1
    → find_in (decl_slots k past ds) (entry_key_t k space) x ≡ found_of (get_elem? (names_in ds space) j)
unfolding find_in decl_slots slot_t names_in found_of when◌then◌else◌ pick
decl_found k past [] space j x l b e = refl
decl_found k past (d ∷ ds) space j x l b e =
    go (eqb d.space space) refl j e (λ j' e'. decl_found k (past ++ (d ∷ [])) ds space j' x l (let m = length-append past (d ∷ []) in omega arith) e')
  where
    later : CodeOption ℕ
    later = find_in (decl_slots k (past ++ (d ∷ [])) ds) (entry_key_t k space) x

    go : (t : Bool) → eqb d.space space ≡ t → (j : ℕ) → x ≡ length (names_in past space) + j + 1 → ((j' : ℕ) → x ≡ length (names_in (past ++ (d ∷ [])) space) + j' + 1 → later ≡ found_of (get_elem? (names_in ds space) j'))
        → pick (eqb (entry_key_t k d.space) (entry_key_t k space)) (pick (eqb (length (names_in past d.space) % 65536 + 1) x) (Some d.name) later) later ≡ found_of (get_elem? (when t then d.name ∷ names_in ds space else names_in ds space) j)
    go true t zero e below =
        let q = eqb-true d.space space t in
        let few = fewer_names past space in
        let is : length (names_in past d.space) % 65536 + 1 ≡ x = rw q (omega arith) in
        rw (same_key_lem k d.space space l, t, eq-eqb _ _ is)
    go true t (suc j) e below =
        let q = eqb-true d.space space t in
        let few = fewer_names past space in
        let more = (more_names past d space).0 q in
        let n : length (names_in past d.space) % 65536 + 1 ≡ x → ⊥ = rw q (λ z. omega arith) in
        rw (same_key_lem k d.space space l, t, ne_eqb _ _ n) (below j (omega arith))
    go false t j e below =
        let n = eqb-false d.space space t in
        rw (same_key_lem k d.space space l, t) (below j (rw ((more_names past d space).1 n) e))

-- ---- which scopes slots are of

decls_within : (k : ℕ) (past ds : List Declaration) → k < 65536 → SpacesDecls ds → Within k (k + 1) (decl_slots k past ds)
unfolding decl_slots slot_t
decls_within k past [] l sp = done
decls_within k past (d ∷ ds) l sp =
    let h = sp.0 in
    let w = key_within k d.space l (omega arith) in
    record { low = w.0; high = w.1 } & decls_within k (past ++ (d ∷ [])) ds l sp.1

-- slots of scopes outside of these rows
pub record Out (lo hi : ℕ) (s : Slot) : Type 0 where
  pub side : (space_of s < 257 * lo) ⊎ (257 * hi ≤ space_of s)

abbrev pub Beyond : (lo hi : ℕ) → List Slot → Type 0
Beyond lo hi ss = All (Out lo hi) ss

narrower : (lo hi lo' hi' : ℕ) (ss : List Slot) → lo ≤ lo' → hi' ≤ hi → Beyond lo hi ss → Beyond lo' hi' ss
narrower lo hi lo' hi' ss a b p = all_map ss (λ s o. record { side = ⊎_elim (λ q. inl (omega arith)) (λ q. inr (omega arith)) o.side }) p

before_these : (lo hi lo' hi' : ℕ) (ss : List Slot) → hi ≤ lo' → Within lo hi ss → Beyond lo' hi' ss
before_these lo hi lo' hi' ss a p = all_map ss (λ s o. let u = o.high in record { side = inl (omega arith) }) p

behind_these : (lo hi lo' hi' : ℕ) (ss : List Slot) → hi' ≤ lo → Within lo hi ss → Beyond lo' hi' ss
behind_these lo hi lo' hi' ss a p = all_map ss (λ s o. let u = o.low in record { side = inr (omega arith) }) p

beyond_other : (lo hi k space : ℕ) (ss : List Slot) → k < 65536 → space < 13 → lo ≤ k → k < hi → Beyond lo hi ss → All (Other (entry_key_t k space)) ss
beyond_other lo hi k space ss l h a b p =
    let w = key_within k space l (omega arith) in
    let u = w.0 in
    let v = w.1 in
    all_map ss (λ s o. λ e. ⊎_elim (λ q. omega arith) (λ q. omega arith) o.side) p

module _ (rules : RuleSet) where
  scope_in : (kind n name : ℕ) (fs : Fields) → Within n (suc n + length (fields_rows fs)) (fields_slots (suc n) n [] fs) → Within n (n + length (flatten (scope kind name fs))) (scope_slots n (scope kind name fs))
  unfolding scope_slots
  scope_in kind n name fs w = let m = scope_size kind name fs in wider n (suc n + length (fields_rows fs)) n (n + length (flatten (scope kind name fs))) _ (omega arith) (omega arith) w

  end_in : (n k : ℕ) (past : List Declaration) → Within k (n + length (fields_rows end)) (fields_slots n k past end)
  unfolding scope_slots
  end_in n k past = done

  fields_in : (n k : ℕ) (past : List Declaration) (i : Item) (fs : Fields) → k < 65536 → k < n → SpacesDecls (head_of i).decls
      → Within (n + length (head_rows (head_of i))) (n + length (head_rows (head_of i)) + length (inner_rows i)) (item_slots (n + length (head_rows (head_of i))) i)
      → Within k (n + length (item_rows i) + length (fields_rows fs)) (fields_slots (n + length (item_rows i)) k (past ++ (head_of i).decls) fs) → Within k (n + length (fields_rows (i ▸ fs))) (fields_slots n k past (i ▸ fs))
  unfolding scope_slots
  fields_in n k past i fs l b sp p q =
      let f = fields_size i fs in
      let m = item_length i in
      let hs = head_rows (head_of i) in
      let whole = n + length (fields_rows (i ▸ fs)) in
      all_append (decl_slots k past (head_of i).decls) _ (wider k (k + 1) k whole _ (omega arith) (omega arith) (decls_within k past (head_of i).decls l sp))
      (all_append (item_slots (n + length hs) i) _ (wider (n + length hs) (n + length hs + length (inner_rows i)) k whole _ (omega arith) (omega arith) p)
      (wider k (n + length (item_rows i) + length (fields_rows fs)) k whole _ (omega arith) (omega arith) q))

  plain_in : (n : ℕ) (h : Head) → Within n (n + length (inner_rows (plain h))) (item_slots n (plain h))
  unfolding scope_slots
  plain_in n h = done

  holds_in : (n : ℕ) (h : Head) (t : Scope) → Within n (n + length (flatten t)) (scope_slots n t) → Within n (n + length (inner_rows (holds h t))) (item_slots n (holds h t))
  unfolding scope_slots inner_rows
  holds_in n h t w = w

  mutual
    pub scope_within : (t : Scope) (n : ℕ) → GoodScope rules t → n + length (flatten t) < 65536 → Within n (n + length (flatten t)) (scope_slots n t)
    scope_within (scope kind name fs) n g l = let m = scope_size kind name fs in scope_in kind n name fs (fields_within kind fs (suc n) n [] g (omega arith) (omega arith) (omega arith))

    fields_within : (kind : ℕ) (fs : Fields) (n k : ℕ) (past : List Declaration) → GoodFields rules fs kind → k < 65536 → k < n → n + length (fields_rows fs) < 65536 → Within k (n + length (fields_rows fs)) (fields_slots n k past fs)
    fields_within kind end n k past g l b w = end_in n k past
    fields_within kind (i ▸ fs) n k past g l b w =
        let f = fields_size i fs in
        let m = item_length i in
        fields_in n k past i fs l b (head_decls rules kind (head_of i) (own_head rules kind i g.0)) (item_within kind i (n + length (head_rows (head_of i))) g.0 (omega arith))
        (fields_within kind fs (n + length (item_rows i)) k (past ++ (head_of i).decls) g.1 l (omega arith) (omega arith))

    item_within : (kind : ℕ) (i : Item) (n : ℕ) → GoodItem rules i kind → n + length (inner_rows i) < 65536 → Within n (n + length (inner_rows i)) (item_slots n i)
    item_within kind (plain h) n g l = plain_in n h
    item_within kind (holds h t) n g l = let e = inner_length h t in holds_in n h t (scope_within t n g.3 (omega arith))

  -- slots of fields are of their own scope, or of scopes inside their rows
  end_beyond : (n k : ℕ) (past : List Declaration) (lo hi : ℕ) → Beyond lo hi (fields_slots n k past end)
  unfolding scope_slots
  end_beyond n k past lo hi = done

  next_beyond : (n k : ℕ) (past : List Declaration) (i : Item) (fs : Fields) (lo hi : ℕ) → k < 65536 → k < lo → hi ≤ n → SpacesDecls (head_of i).decls
      → Within (n + length (head_rows (head_of i))) (n + length (head_rows (head_of i)) + length (inner_rows i)) (item_slots (n + length (head_rows (head_of i))) i)
      → Beyond lo hi (fields_slots (n + length (item_rows i)) k (past ++ (head_of i).decls) fs) → Beyond lo hi (fields_slots n k past (i ▸ fs))
  unfolding scope_slots
  next_beyond n k past i fs lo hi l b c sp p q =
      let lo₁ = n + length (head_rows (head_of i)) in
      let hi₁ = n + length (head_rows (head_of i)) + length (inner_rows i) in
      all_append (decl_slots k past (head_of i).decls) _ (before_these k (k + 1) lo hi (decl_slots k past (head_of i).decls) (omega arith) (decls_within k past (head_of i).decls l sp))
      (all_append (item_slots lo₁ i) _ (behind_these lo₁ hi₁ lo hi (item_slots lo₁ i) (omega arith) p) q)

  pub fields_beyond : (kind : ℕ) (fs : Fields) (n k : ℕ) (past : List Declaration) (lo hi : ℕ) → GoodFields rules fs kind → k < 65536 → k < lo → hi ≤ n → k < n → n + length (fields_rows fs) < 65536
      → Beyond lo hi (fields_slots n k past fs)
  fields_beyond kind end n k past lo hi g l b c d w = end_beyond n k past lo hi
  fields_beyond kind (i ▸ fs) n k past lo hi g l b c d w =
      let f = fields_size i fs in
      let m = item_length i in
      next_beyond n k past i fs lo hi l b c (head_decls rules kind (head_of i) (own_head rules kind i g.0)) (item_within kind i (n + length (head_rows (head_of i))) g.0 (omega arith))
      (fields_beyond kind fs (n + length (item_rows i)) k (past ++ (head_of i).decls) lo hi g.1 l b (omega arith) (omega arith) (omega arith))

  -- ---- of the slots of fields those of their own scope are the declarations'

  decls_append : (k : ℕ) (past xs ys : List Declaration) → decl_slots k past (xs ++ ys) ≡ decl_slots k past xs ++ decl_slots k (past ++ xs) ys
  unfolding decl_slots
  decls_append k past [] ys = rw (append-nil past)
  decls_append k past (x ∷ xs) ys = rw (decls_append k (past ++ (x ∷ [])) xs ys, append_assoc past (x ∷ []) xs)

  own_found : (kind : ℕ) (fs : Fields) (n k : ℕ) (past : List Declaration) (space x : ℕ) → GoodFields rules fs kind → space < 13 → k < 65536 → k < n → n + length (fields_rows fs) < 65536
      → find_in (fields_slots n k past fs) (entry_key_t k space) x ≡ find_in (decl_slots k past (declarations fs)) (entry_key_t k space) x
  unfolding scope_slots declarations decl_slots
  own_found kind end n k past space x g h l b w = refl
  own_found kind (i ▸ fs) n k past space x g h l b w =
      let f = fields_size i fs in
      let m = item_length i in
      let hs = head_rows (head_of i) in
      let D = decl_slots k past (head_of i).decls in
      let I = item_slots (n + length hs) i in
      let F = fields_slots (n + length (item_rows i)) k (past ++ (head_of i).decls) fs in
      let G = decl_slots k (past ++ (head_of i).decls) (declarations fs) in
      let inner : All (Other (entry_key_t k space)) I = (outside (n + length hs) (n + length hs + length (inner_rows i)) k space I l (omega arith) (item_within kind i (n + length hs) g.0 (omega arith))).0 (omega arith) in
      let later : find_in F (entry_key_t k space) x ≡ find_in G (entry_key_t k space) x = own_found kind fs (n + length (item_rows i)) k (past ++ (head_of i).decls) space x g.1 h l (omega arith) (omega arith) in
      rw (find_append D (I ++ F) (entry_key_t k space) x, other_first I F (entry_key_t k space) x inner, decls_append k past (head_of i).decls (declarations fs), find_append D G (entry_key_t k space) x, later)

-- ---- in a table of more slots

-- the declarations of the scope whose OPEN is row k are found by their numbers
pub record Stand (all : List Slot) (k : ℕ) (ds : List Declaration) : Type 0 where
  pub few : length ds < 65535
  pub row : k < 65535
  pub found : (space m : ℕ) → space < 13 → find_in all (entry_key_t k space) (m + 1) ≡ found_of (get_elem? (names_in ds space) m)

-- those of all scopes of a tree
abbrev mutual
  pub StandScope : List Slot → ℕ → Scope → Type 0
  StandScope all n (scope kind name fs) = Stand all n (declarations fs) × StandFields all (suc n) fs

  pub StandFields : List Slot → ℕ → Fields → Type 0
  StandFields all n end = Unit {0}
  StandFields all n (i ▸ fs) = StandItem all (n + length (head_rows (head_of i))) i × StandFields all (n + length (item_rows i)) fs

  pub StandItem : List Slot → ℕ → Item → Type 0
  StandItem all n (plain h) = Unit {0}
  StandItem all n (holds h s) = StandScope all n s

decls_fit : (fs : Fields) → length (declarations fs) ≤ length (fields_rows fs)
decls_fit end = unfold declarations in omega arith
decls_fit (i ▸ fs) = go (decls_fit fs)
  where
    go : length (declarations fs) ≤ length (fields_rows fs) → length (declarations (i ▸ fs)) ≤ length (fields_rows (i ▸ fs))
    go e = unfold declarations in omega (arith, length-append (head_of i).decls (declarations fs), decls_few (head_of i), fields_size i fs, item_length i)

module _ (rules : RuleSet) where
  scope_stands : (kind name : ℕ) (fs : Fields) (n : ℕ) (pre post : List Slot) → GoodFields rules fs kind → n + length (flatten (scope kind name fs)) < 65535
      → Beyond n (n + length (flatten (scope kind name fs))) pre → Beyond n (n + length (flatten (scope kind name fs))) post → Stand (pre ++ (scope_slots n (scope kind name fs) ++ post)) n (declarations fs)
  unfolding scope_slots
  scope_stands kind name fs n pre post g l p q =
      let m = scope_size kind name fs in
      let fit = decls_fit fs in
      let F = fields_slots (suc n) n [] fs in
      record {
        few = omega arith;
        row = omega arith;
        found = λ space j h.
            let key = entry_key_t n space in
            let hi = n + length (flatten (scope kind name fs)) in
            let low : n < hi = omega arith in
            let a = beyond_other n hi n space pre (omega arith) h (omega arith) low p in
            let b = beyond_other n hi n space post (omega arith) h (omega arith) low q in
            let none-past : j + 1 ≡ length (names_in [] space) + j + 1 = unfold names_in in omega arith in
            other_first pre (F ++ post) key (j + 1) a ∙ other_last F post key (j + 1) b ∙ own_found rules kind fs (suc n) n [] space (j + 1) g h (omega arith) (omega arith) (omega arith)
            ∙ decl_found n [] (declarations fs) space j (j + 1) (omega arith) (omega arith) none-past;
      }

  fields_split : (n k : ℕ) (past : List Declaration) (i : Item) (fs : Fields) (pre post : List Slot)
      → pre ++ (fields_slots n k past (i ▸ fs) ++ post)
      ≡ (pre ++ decl_slots k past (head_of i).decls) ++ (item_slots (n + length (head_rows (head_of i))) i ++ (fields_slots (n + length (item_rows i)) k (past ++ (head_of i).decls) fs ++ post))
  unfolding scope_slots
  fields_split n k past i fs pre post =
      let D = decl_slots k past (head_of i).decls in
      let I = item_slots (n + length (head_rows (head_of i))) i in
      let F = fields_slots (n + length (item_rows i)) k (past ++ (head_of i).decls) fs in
      rw (append_assoc D (I ++ F) post, append_assoc I F post, append_assoc pre D (I ++ (F ++ post)))

  holds_slots : (all : List Slot) (n : ℕ) (h : Head) (t : Scope) (pre post : List Slot) → all ≡ pre ++ (item_slots n (holds h t) ++ post) → all ≡ pre ++ (scope_slots n t ++ post)
  unfolding scope_slots
  holds_slots all n h t pre post e = e

  inside : (all : List Slot) (n kind name : ℕ) (fs : Fields) (pre post : List Slot) → all ≡ pre ++ (scope_slots n (scope kind name fs) ++ post) → all ≡ pre ++ (fields_slots (suc n) n [] fs ++ post)
  unfolding scope_slots
  inside all n kind name fs pre post e = e

  mutual
    pub stands_scope : (t : Scope) (all : List Slot) (n : ℕ) (pre post : List Slot) → GoodScope rules t → n + length (flatten t) < 65535 → all ≡ pre ++ (scope_slots n t ++ post)
        → Beyond n (n + length (flatten t)) pre → Beyond n (n + length (flatten t)) post → StandScope all n t
    stands_scope (scope kind name fs) all n pre post g l e p q =
        let m = scope_size kind name fs in
        let hi = n + length (flatten (scope kind name fs)) in (
          subst (λ (x : List Slot). Stand x n (declarations fs)) (sym e) (scope_stands kind name fs n pre post g l p q),
          stands_fields kind fs all (suc n) n [] pre post g (omega arith) (omega arith) (omega arith) (inside all n kind name fs pre post e) (narrower n hi (suc n) (suc n + length (fields_rows fs)) pre (omega arith) (omega arith) p)
              (narrower n hi (suc n) (suc n + length (fields_rows fs)) post (omega arith) (omega arith) q),
        )

    stands_fields : (kind : ℕ) (fs : Fields) (all : List Slot) (n k : ℕ) (past : List Declaration) (pre post : List Slot) → GoodFields rules fs kind → k < 65536 → k < n → n + length (fields_rows fs) < 65535
        → all ≡ pre ++ (fields_slots n k past fs ++ post) → Beyond n (n + length (fields_rows fs)) pre → Beyond n (n + length (fields_rows fs)) post → StandFields all n fs
    stands_fields kind end all n k past pre post g l b w e p q = tt
    stands_fields kind (i ▸ fs) all n k past pre post g l b w e p q =
        let f = fields_size i fs in
        let m = item_length i in
        let hs = head_rows (head_of i) in
        let D = decl_slots k past (head_of i).decls in
        let I = item_slots (n + length hs) i in
        let F = fields_slots (n + length (item_rows i)) k (past ++ (head_of i).decls) fs in
        let hi = n + length (fields_rows (i ▸ fs)) in
        let lo₁ = n + length hs in
        let hi₁ = n + length hs + length (inner_rows i) in
        let lo₂ = n + length (item_rows i) in
        let hi₂ = n + length (item_rows i) + length (fields_rows fs) in
        let sp = head_decls rules kind (head_of i) (own_head rules kind i g.0) in
        let dw = decls_within k past (head_of i).decls l sp in
        let iw = item_within rules kind i lo₁ g.0 (omega arith) in
        let is : all ≡ (pre ++ D) ++ (I ++ (F ++ post)) = e ∙ fields_split n k past i fs pre post in
        let is₂ : all ≡ ((pre ++ D) ++ I) ++ (F ++ post) = is ∙ sym (append_assoc (pre ++ D) I (F ++ post)) in
        let own : Beyond lo₁ hi₁ D = before_these k (k + 1) lo₁ hi₁ D (omega arith) dw in
        let own₂ : Beyond lo₂ hi₂ D = before_these k (k + 1) lo₂ hi₂ D (omega arith) dw in
        let inner₂ : Beyond lo₂ hi₂ I = before_these lo₁ hi₁ lo₂ hi₂ I (omega arith) iw in (
          stands_item kind i all lo₁ (pre ++ D) (F ++ post) g.0 (omega arith) is (all_append pre D (narrower n hi lo₁ hi₁ pre (omega arith) (omega arith) p) own)
              (all_append F post (fields_beyond rules kind fs lo₂ k (past ++ (head_of i).decls) lo₁ hi₁ g.1 l (omega arith) (omega arith) (omega arith) (omega arith)) (narrower n hi lo₁ hi₁ post (omega arith) (omega arith) q)),
          stands_fields kind fs all lo₂ k (past ++ (head_of i).decls) ((pre ++ D) ++ I) post g.1 l (omega arith) (omega arith) is₂
              (all_append (pre ++ D) I (all_append pre D (narrower n hi lo₂ hi₂ pre (omega arith) (omega arith) p) own₂) inner₂) (narrower n hi lo₂ hi₂ post (omega arith) (omega arith) q),
        )

    stands_item : (kind : ℕ) (i : Item) (all : List Slot) (n : ℕ) (pre post : List Slot) → GoodItem rules i kind → n + length (inner_rows i) < 65535 → all ≡ pre ++ (item_slots n i ++ post)
        → Beyond n (n + length (inner_rows i)) pre → Beyond n (n + length (inner_rows i)) post → StandItem all n i
    stands_item kind (plain h) all n pre post g l e p q = tt
    stands_item kind (holds h t) all n pre post g l e p q =
        let z = inner_length h t in
        stands_scope t all n pre post g.3 (omega arith) (holds_slots all n h t pre post e) (rw z at p) (rw z at q)

-- ---- what an OUTER of two numbers counts to

-- the scopes that are open are found so
abbrev pub Open : List Slot → (ks : List ℕ) (tables : List (List Declaration)) → Type 0
Open all [] [] = Unit {0}
Open all [] (t ∷ ts) = ⊥
Open all (k ∷ ks) [] = ⊥
Open all (k ∷ ks) (t ∷ ts) = Stand all k t × Open all ks ts

-- no slot stands under the name 0, and none is of a scope in row 65535
pub record Sound (all : List Slot) : Type 0 where
  pub named : (key : ℕ) → find_in all key 0 ≡ None
  pub low : (space x : ℕ) → space < 13 → find_in all (entry_key_t 65535 space) x ≡ None

past_names : (xs : List ℕ) (m : ℕ) → length xs ≤ m → get_elem? xs m ≡ none
past_names [] m h = refl
past_names (x ∷ xs) zero h = absurd (omega arith)
past_names (x ∷ xs) (suc m) h = past_names xs m (omega arith)

value_found : (o : Option ℕ) → unwrap_or (found_of o) 0 ≡ or_zero o
unfolding found_of or_zero
value_found none = refl
value_found (some n) = refl

by_number_lem : (all : List Slot) (k : ℕ) (ds : List Declaration) (space m : ℕ) → Sound all → Stand all k ds → space < 13 → find_in all (entry_key_t k space) (Names.key_t m) ≡ found_of (get_elem? (names_in ds space) m)
unfolding Names.key_t found_of pick
by_number_lem all k ds space m S T h = go (ltb m 65535) refl
  where
    go : (t : Bool) → ltb m 65535 ≡ t → find_in all (entry_key_t k space) (pick t (m + 1) 0) ≡ found_of (get_elem? (names_in ds space) m)
    go true e = T.found space m h
    go false e =
        let low = ltb-false m 65535 e in
        let few = T.few in
        let fewer = fewer_names ds space in
        rw (past_names (names_in ds space) m (omega arith)) (S.named (entry_key_t k space))

outward : (all : List Slot) (ks : List ℕ) (tables : List (List Declaration)) (space d m : ℕ) → Sound all → Open all ks tables → space < 13
    → unwrap_or (find_in all (entry_key_t (row_out ks d) space) (Names.key_t m)) 0 ≡ name_out tables space d m
unfolding row_out name_out ◌then◌
outward all [] [] space d m S o h = rw (S.low space (Names.key_t m) h) (unfold or_zero in refl)
outward all [] (t ∷ ts) space d m S o h = absurd o
outward all (k ∷ ks) [] space d m S o h = absurd o
outward all (k ∷ ks) (t ∷ ts) space zero m S o h = rw (by_number_lem all k t space m S o.0 h) (value_found (get_elem? (names_in t space) m))
outward all (k ∷ ks) (t ∷ ts) space (suc d) m S o h = outward all ks ts space d m S o.1 h

-- THE NAME that is noted of an OUTER is that of the item that it counts to.
pub outer_named : (all : List Slot) (ks : List ℕ) (tables : List (List Declaration)) (p : Parts) → Sound all → Open all ks tables → p.b < 13 → name_of_t all p (note 0 (row_out ks p.x)) ≡ name_out tables p.b p.x p.y
unfolding name_of_t look_t
outer_named all ks tables p S o h = outward all ks tables p.b p.x p.y S o h
