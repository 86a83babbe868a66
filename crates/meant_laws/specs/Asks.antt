-- A named index of OUTER: the scope that is asked for, by a count or by its name, is the same on rows as in the trees, the prelude's root included.
use Rattle.std.specs.Prelude.{◌≡◌, Bool, true, false, List, [], ◌∷◌, ◌++◌, eqb, length, Option as CodeOption, Some, None, is_some}
use Rattle.std.proofs.Math.Path.{refl, ap, subst}
use Rattle.std.proofs.Common.{sym, ◌∙◌}
use Rattle.std.proofs.Math.Option.{Option, none, some, map}
use native.Mathlib.Omega.{arith}
use Prim.Native.Nat.{ℕ, zero, suc, ◌+◌, ◌-◌, ◌≤◌, ◌<◌}
use Rattle.std.proofs.Math.ListN.{get_elem?}
use Rattle.std.proofs.lemmas.List.{length-map}
use Rattle.kit.specs.Pick.{pick}
use Rattle.kit.proofs.Laws.{yes!, no!, tests}
use Rattle.rules.specs.Tools.{when◌then◌else◌, ◌then◌}
use Rattle.rules.specs.Rows.{Index, Num, Id, Outer, encode, flag, number}
use Rattle.rules.specs.Tree.{Scope, scope, flatten}
use Rattle.rules.specs.Good.{name_of}
use Rattle.rules.specs.Readings
use Rattle.rules.specs.Readings.{Level}
use Rattle.rules.specs.Laws.ToolLaws.{All}
use Rattle.rules.specs.Laws.Results.{some_same, no_option}
use Rattle.rules.specs.Laws.Meaning.Names.{LowScope}
use Rattle.places.specs.PlaceRows.{Floor}
use Rattle.places.specs.Counting.{levels, elem_map}
use Rattle.places.proofs.RowAt.{all_at}
use Rattle.places.proofs.LocatedAt.{AtItsWay}
use Rattle.moving.specs.Moved.{nearest_named}
use Rattle.batching.specs.BatchReadings.{Meant, seat, meant_by, out_to, declared_out}
use Rattle.batching.proofs.Laws.Seated.{behind_all, scope_meant_lem, behind_meant, past_meant}
use Rattle.row_parts.specs.Parts.{b_at, e_at, x_at, y_at}
use Rattle.scopes.specs.Scopes.{scope_of, scope_outward}
use Rattle.scopes.specs.declared.Wanted.{Wanted}
use Rattle.scopes.specs.declared.Wanted.TheVariants.{Out, Named}
use Rattle.reading_laws.specs.Stand.{Is, e_part, x_part}
use Rattle.reading_laws.specs.Floors.{Chain}
use Rattle.reading_laws.specs.Number.{stands_at}
use Rattle.reading_laws.specs.Outward.{NoneInserted, first_wanted, scope_outward_lem, count_out, count_past}
use Rattle.reading_laws.specs.Meant.{Rows}
use Rattle.moved_laws.specs.Named.{NamesAre, named_found, named_nowhere}
use Rattle.meant.specs.Names.{in_root, scope_meant, outer_wanted_t, has_scope, is_root_t, meant_behind_t, in_outer_t, index_meant_t}
use Rattle.meant_laws.specs.Told.{Told, nothing, found_in_member}
use Rattle.meant_laws.specs.Declares.{declares, root_declares}
use Rattle.meant.specs.declared.Declared.{Declared}

-- ---- lists

past_all : {A : Type 0} (xs : List A) (n : ℕ) → get_elem? xs n ≡ none → length xs ≤ n
past_all [] n e = omega arith
past_all (x ∷ xs) zero e = no_option x (sym e)
past_all (x ∷ xs) (suc n) e = omega (arith, past_all xs n e)

within : {A : Type 0} (xs : List A) (n : ℕ) (x : A) → get_elem? xs n ≡ some x → n < length xs
within [] n x e = no_option x e
within (y ∷ xs) zero x e = omega arith
within (y ∷ xs) (suc n) x e = omega (arith, within xs n x e)

-- the innermost scope of a name, with one more scope behind all
nearest_left : (ns ms : List ℕ) (name d : ℕ) → nearest_named ns name ≡ some d → nearest_named (ns ++ ms) name ≡ some d
unfolding nearest_named when◌then◌else◌
nearest_left [] ms name d e = no_option d e
nearest_left (n ∷ ns) ms name d e = go (eqb n name) d e (λ k q. nearest_left ns ms name k q)
  where
    one_less : (o : Option ℕ) (d : ℕ) → map suc o ≡ some d → (k : ℕ) × (o ≡ some k) × (suc k ≡ d)
    one_less none d e = no_option d e
    one_less (some k) d e = (k, refl, some_same (suc k) d e)

    go : (b : Bool) (d : ℕ) → (when b then some 0 else map suc (nearest_named ns name)) ≡ some d → ((k : ℕ) → nearest_named ns name ≡ some k → nearest_named (ns ++ ms) name ≡ some k)
        → (when b then some 0 else map suc (nearest_named (ns ++ ms) name)) ≡ some d
    go true d e below = e
    go false d e below = let L = one_less (nearest_named ns name) d e in ap (map suc) (below L.0 L.1) ∙ ap {B = Option ℕ} some L.2

nearest_last : (ns : List ℕ) (m name : ℕ) → nearest_named ns name ≡ none → nearest_named (ns ++ (m ∷ [])) name ≡ (when eqb m name then some (length ns) else none)
unfolding nearest_named when◌then◌else◌
nearest_last [] m name e = refl
nearest_last (n ∷ ns) m name e = go (eqb n name) e (λ q. nearest_last ns m name q)
  where
    none_back : (o : Option ℕ) → map suc o ≡ none → o ≡ none
    none_back none e = refl
    none_back (some k) e = no_option (suc k) (sym e)

    last : (b : Bool) → map suc (when b then some (length ns) else none) ≡ (when b then some (suc (length ns)) else none)
    last true = refl
    last false = refl

    go : (b : Bool) → (when b then some 0 else map suc (nearest_named ns name)) ≡ none → (nearest_named ns name ≡ none → nearest_named (ns ++ (m ∷ [])) name ≡ (when eqb m name then some (length ns) else none))
        → (when b then some 0 else map suc (nearest_named (ns ++ (m ∷ [])) name)) ≡ (when eqb m name then some (suc (length ns)) else none)
    go true e below = no_option 0 (sym e)
    go false e below = ap (map suc) (below (none_back _ e)) ∙ last (eqb m name)

names_length : (form : List ℕ) (fs : List Floor) (ns : List ℕ) → NamesAre form fs ns → length ns ≡ length fs
names_length form [] [] N = refl
names_length form [] (n ∷ ns) N = absurd N
names_length form (f ∷ fs) [] N = absurd N
names_length form (f ∷ fs) (n ∷ ns) N = ap suc (names_length form fs ns N.1)

-- the prelude's OPEN has its root's name
root_name : (form : List ℕ) (s : Scope) → Rows form s → x_at form 0 ≡ name_of s
unfolding flatten encode
root_name form (scope kind name fs) R = ap x_part R.stand.0

-- ---- the scope that is asked for

module _ (P M : List ℕ) (s m : Scope) (RP : Rows P s) (low : LowScope s)
    (f : Floor) (rest : List Floor) (C : Chain M (f ∷ rest)) (own : All (AtItsWay m) (f ∷ rest)) (orig : All NoneInserted (f ∷ rest)) (names : List ℕ) (N : NamesAre M (f ∷ rest) names)
    (r space name : ℕ) (is_name : eqb name 0 ≡ false) (around : scope_of M r ≡ f.row) (b : b_at M r ≡ space) (y : y_at M r ≡ name) where
  abbrev fs : List Floor
  fs = f ∷ rest

  abbrev all : List Level
  all = behind_all (seat s) (Readings.root s ∷ []) (levels fs)

  -- what the scope declares that is so far out
  abbrev out : ℕ → Option Meant
  out d = map meant_by (declared_out all d space name)

  levels_length : length (levels fs) ≡ length fs
  levels_length = length-map fs (λ (g : Floor). g.level)

  -- one of the member
  in_member_lem : (d : ℕ) (g : Floor) → get_elem? fs d ≡ some g → Told s m (out d) (scope_meant M g.row space name)
  unfolding scope_meant
  in_member_lem d g e =
      let S = stands_at M fs d g C e in
      subst (λ (o : Option Meant). Told s m o (scope_meant M g.row space name)) (sym (scope_meant_lem s (levels fs) space name d g.level (elem_map (λ (h : Floor). h.level) fs d ∙ ap (map (λ (h : Floor). h.level)) e)))
      (found_in_member s m _ _ (declares M m g S.0 S.1 (all_at fs d g own e) (all_at fs d g orig e) space name is_name))

  -- the prelude's root
  in_prelude_lem : (d : ℕ) → d ≡ length fs → Told s m (out d) (in_root P space name)
  in_prelude_lem d e = subst (λ (o : Option Meant). Told s m o (in_root P space name)) (sym (behind_meant s (levels fs) space name d (e ∙ sym levels_length))) (root_declares P s RP low m space name is_name)

  -- none
  past_both : (d : ℕ) → length fs < d → Told s m (out d) None
  past_both d h = subst (λ (o : Option Meant). Told s m o None) (sym (past_meant s (levels fs) space name d (omega (arith, levels_length)))) nothing

  goes : (wanted : Wanted) → scope_outward M (scope_of M r) wanted ≡ first_wanted M wanted 0 fs
  goes wanted = ap (λ (k : ℕ). scope_outward M k wanted) around ∙ scope_outward_lem M wanted fs C

  -- ---- by a count

  same : (d : ℕ) → d ≡ 0 + d
  same d = omega arith

  counted : (d : ℕ) (g : Floor) → get_elem? fs d ≡ some g → scope_outward M (scope_of M r) (Out d) ≡ Some (record { scope = g.row; out = 0 + d })
  counted d g e = goes (Out d) ∙ (ap (λ (k : ℕ). first_wanted M (Out k) 0 fs) (same d) ∙ count_out M fs d 0 g e)

  past_count : (d : ℕ) → get_elem? fs d ≡ none → scope_outward M (scope_of M r) (Out d) ≡ None
  past_count d e = goes (Out d) ∙ (ap (λ (k : ℕ). first_wanted M (Out k) 0 fs) (same d) ∙ count_past M fs d 0 e)

  -- the prelude's root is the scope one behind the member's
  is_root_lem : (d : ℕ) → get_elem? fs d ≡ none → Told s m (out d) (pick (is_root_t P M r (Out d)) (in_root P space name) None)
  unfolding is_root_t has_scope
  is_root_lem zero e = no_option f (sym e)
  is_root_lem (suc k) e = go (get_elem? fs k) refl
    where
      there : suc k - 1 ≡ k
      there = omega arith

      not_first : eqb (suc k) 0 ≡ false
      not_first = omega tests

      asked : (b : Bool) → is_some (scope_outward M (scope_of M r) (Out k)) ≡ b → is_root_t P M r (Out (suc k)) ≡ b
      asked b q = sym (no! false not_first (sym (ap (λ (j : ℕ). is_some (scope_outward M (scope_of M r) (Out j))) there ∙ q)))

      go : (o : Option Floor) → get_elem? fs k ≡ o → Told s m (out (suc k)) (pick (is_root_t P M r (Out (suc k))) (in_root P space name) None)
      go none q =
          let few = past_all fs k q in
          subst (Told s m (out (suc k))) (no! _ (asked false (ap is_some (past_count k q))) refl) (past_both (suc k) (omega (arith, few)))
      go (some g) q =
          let low = within fs k g q in
          let few = past_all fs (suc k) e in
          subst (Told s m (out (suc k))) (yes! _ (asked true (ap is_some (counted k g q))) refl) (in_prelude_lem (suc k) (omega (arith, low, few)))

  -- what the rows give for a scope that is asked for
  abbrev asked_for : Wanted → CodeOption Declared
  asked_for wanted = in_outer_t (scope_outward M (scope_of M r) wanted) P M r wanted

  found_scope : (wanted : Wanted) (g : Floor) (d k : ℕ) → get_elem? fs d ≡ some g → scope_outward M (scope_of M r) wanted ≡ Some (record { scope = g.row; out = k }) → Told s m (out d) (asked_for wanted)
  unfolding in_outer_t
  found_scope wanted g d k e q = subst (Told s m (out d)) (rw (q, b, y)) (in_member_lem d g e)

  no_such_scope : (wanted : Wanted) (o : Option Meant) → scope_outward M (scope_of M r) wanted ≡ None → Told s m o (pick (is_root_t P M r wanted) (in_root P space name) None) → Told s m o (asked_for wanted)
  unfolding in_outer_t meant_behind_t
  no_such_scope wanted o q t = subst (Told s m o) (rw (q, b, y)) t

  by_count : (d : ℕ) → Told s m (out d) (asked_for (Out d))
  by_count d = go (get_elem? fs d) refl
    where
      go : (o : Option Floor) → get_elem? fs d ≡ o → Told s m (out d) (asked_for (Out d))
      go none e = no_such_scope (Out d) (out d) (past_count d e) (is_root_lem d e)
      go (some g) e = found_scope (Out d) g d (0 + d) e (counted d g e)

  -- ---- by a name

  by_name_lem : (x : ℕ) → Told s m (map meant_by (nearest_named (names ++ (name_of s ∷ [])) x then λ d. declared_out all d space name)) (asked_for (Named x))
  unfolding ◌then◌ when◌then◌else◌ pick is_root_t
  by_name_lem x = go (nearest_named names x) refl
    where
      named : Option ℕ → Option Meant
      named o = map meant_by (o then λ d. declared_out all d space name)

      behind : (b : Bool) → Told s m (named (when b then some (length names) else none)) (pick b (in_root P space name) None)
      behind true = in_prelude_lem (length names) (names_length M fs names N)
      behind false = nothing

      asks : eqb (name_of s) x ≡ is_root_t P M r (Named x)
      asks = ap (λ (n : ℕ). eqb n x) (sym (root_name P s RP))

      go : (o : Option ℕ) → nearest_named names x ≡ o → Told s m (named (nearest_named (names ++ (name_of s ∷ [])) x)) (asked_for (Named x))
      go none e =
          no_such_scope (Named x) _ (goes (Named x) ∙ named_nowhere M fs names N x 0 e)
          (subst (λ (o : Option ℕ). Told s m (named o) (pick (is_root_t P M r (Named x)) (in_root P space name) None)) (sym (nearest_last names (name_of s) x e))
          (subst (λ (c : Bool). Told s m (named (when eqb (name_of s) x then some (length names) else none)) (pick c (in_root P space name) None)) asks (behind (eqb (name_of s) x))))
      go (some d) e =
          let F = named_found M fs names N x 0 d e in
          subst (λ (o : Option ℕ). Told s m (named o) (asked_for (Named x))) (sym (nearest_left names (name_of s ∷ []) x d e))
          (found_scope (Named x) F.0 d (0 + d) F.1 (goes (Named x) ∙ F.2))

  -- ---- the row of an OUTER

  pub index_told : (up : Index) (z : ℕ) → Is M r (Outer space up (Id name) z) → Told s m (map meant_by (out_to (names ++ (name_of s ∷ [])) up then λ d. declared_out all d space name)) (index_meant_t P M r)
  unfolding index_meant_t outer_wanted_t out_to ◌then◌ encode flag number pick
  index_told (Num d) z is =
      let e : e_at M r ≡ 2 = ap e_part is in
      let x : x_at M r ≡ d = ap x_part is in
      subst (Told s m (out d)) (rw (e, x)) (by_count d)
  index_told (Id n) z is =
      let e : e_at M r ≡ 3 = ap e_part is in
      let x : x_at M r ≡ n = ap x_part is in
      subst (Told s m _) (rw (e, x)) (by_name_lem n)
