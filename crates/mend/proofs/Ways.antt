-- The ways through the run.
use Rattle.std.specs.Prelude.{Result, Ok, Err, ⊤, ℕ}
use mathlib.Core.Path.{◌≡◌, refl, sym, ap, ◌∙◌}
use mathlib.Core.Bool.{Bool, true, false, not, ◌&&◌, ◌||◌}
use mathlib.Core.List.{List}
use native.Mathlib.Omega.{arith}
use native.Mathlib.Nat.{zero-add}
use Prim.Native.Nat.{ℕ, ◌+◌, ◌-◌, ◌*◌, ◌%◌, ◌≤◌, ◌<◌}
use lib.Dec.{eqb, leb, ltb}
use lib.ListN.{length, get_or, take, drop, length-drop}
use lib.Seq.{sets, length-take-le, take_all}
use borrow.Author.Rules.{rules}
use borrow.Author.Tests.{not-true, not-false, ltb-false}
use Rattle.kit.specs.Out.{◌&◌}
use Rattle.kit.specs.Pick.{pick}
use Rattle.kit.proofs.Laws.{yes!, no!, tests}
use Rattle.limits.specs.declared.Limits.{Limits}
use Rattle.limits.specs.Held.{limits_of, setting}
use Rattle.mending.specs.Mend.{list_bytes}
use Rattle.mend_form.specs.Kept.{kept_in}
use Rattle.mend_form.specs.Filled.{mended_body_t}
use Rattle.mend_form.specs.declared.Kept.{Kept}
use Rattle.mend_form.proofs.Right.{rows_split}
use Rattle.mend_list.specs.Listed.{listed, none, noted, changes_in}
use Rattle.mend_list.specs.declared.Listed.{Listed}
use Rattle.form_bytes.specs.Begins.{begins_as}
use Rattle.reader.specs.ReadTo.{read_to}
use Rattle.mend.specs.Run.{Ran, refused_t, letters_t, asks_t, place_t, new_t, in_place, write_t, read_then, room_t, to_t, made_t}
use Rattle.reader.specs.declared.BadRows.TheVariants as rows_read
use Rattle.reader.specs.declared.BadRows.{BadRows}
use Rattle.refusal.specs.declared.Refusal.{Refusal}

-- ---- the setting

pub letters_is : (form : List ℕ) (version : ℕ) (w : Bool) (z : ℕ) → w ≡ begins_as form version → z ≡ get_or form 4 0 → (w && eqb z 0) ≡ letters_t form version
unfolding letters_t
letters_is form version w z hw hz = rw (hw, hz)

module _ (l : Limits) (form : List ℕ) where
  pub asks_few : length form < 8 → false ≡ asks_t l form
  unfolding asks_t
  asks_few h = yes! _ (omega tests) refl

  module _ (enough : 8 ≤ length form) (header : ℕ) (is : header ≡ l.header) where
    pub asks_short : length form < header → false ≡ asks_t l form
    unfolding asks_t
    asks_short h = no! _ (omega tests) (yes! _ (omega tests) refl)

    pub asks_letters : {t : Bool} → header ≤ length form → t ≡ letters_t form l.version → (t && (eqb l.version 1 || eqb (get_or form 5 0) l.rules)) ≡ asks_t l form
    unfolding asks_t
    asks_letters h e = no! _ (omega tests) (no! _ (omega tests) (rw e))

pub ruleset asks_ways = (asks_few, asks_short, asks_letters, rules)

module _ (form : List ℕ) (l₀ l₁ l₂ : Limits) (is₀ : l₀ ≡ limits_of (setting 0)) {a : Bool} (e₀ : a ≡ asks_t l₀ form) where
  asked₀ : asks_t (limits_of (setting 0)) form ≡ a
  asked₀ = sym (e₀ ∙ ap (λ (l : Limits). asks_t l form) is₀)

  pub place_0 : a ≡ true → 0 ≡ place_t form
  unfolding place_t
  place_0 h = yes! _ (asked₀ ∙ h) refl

  module _ (no₀ : a ≡ false) (is₁ : l₁ ≡ limits_of (setting 1)) {b : Bool} (e₁ : b ≡ asks_t l₁ form) where
    asked₁ : asks_t (limits_of (setting 1)) form ≡ b
    asked₁ = sym (e₁ ∙ ap (λ (l : Limits). asks_t l form) is₁)

    pub place_1 : b ≡ true → 1 ≡ place_t form
    unfolding place_t
    place_1 h = no! _ (asked₀ ∙ no₀) (yes! _ (asked₁ ∙ h) refl)

    module _ (no₁ : b ≡ false) (is₂ : l₂ ≡ limits_of (setting 2)) {c : Bool} (e₂ : c ≡ asks_t l₂ form) where
      asked₂ : asks_t (limits_of (setting 2)) form ≡ c
      asked₂ = sym (e₂ ∙ ap (λ (l : Limits). asks_t l form) is₂)

      pub place_2 : c ≡ true → 2 ≡ place_t form
      unfolding place_t
      place_2 h = no! _ (asked₀ ∙ no₀) (no! _ (asked₁ ∙ no₁) (yes! _ (asked₂ ∙ h) refl))

      pub place_3 : c ≡ false → 3 ≡ place_t form
      unfolding place_t
      place_3 h = no! _ (asked₀ ∙ no₀) (no! _ (asked₁ ∙ no₁) (no! _ (asked₂ ∙ h) refl))

pub ruleset place_ways = (place_0, place_1, place_2, place_3, rules)

-- ---- the old form

module _ (l : Limits) (old : List ℕ) (header : ℕ) (is : header ≡ l.header) where
  behind : take (length old - header) (drop header old) ≡ drop l.header old
  behind = take_all (length old - header) (drop header old) (simp length-drop (omega arith)) ∙ ap (λ (n : ℕ). drop n old) is

  pub kept_is : (k : Kept) → k ≡ kept_in (take (length old - header) (drop header old)) → k ≡ kept_in (drop l.header old)
  kept_is k e = e ∙ ap kept_in behind

  pub read_is : (r : Result ⊤ BadRows) → r ≡ read_to l (mended_body_t (take (length old - header) (drop header old)) (kept_in (take (length old - header) (drop header old)))) → r ≡ read_to l (mended_body_t (drop l.header old) (kept_in (drop l.header old)))
  read_is r e = e ∙ ap (λ (b : List ℕ). read_to l (mended_body_t b (kept_in b))) behind

pub fits_first : (b : List ℕ) (n m : ℕ) → n ≤ length b → m ≤ n → m ≤ length (take n b)
fits_first b n m h g = omega (arith, length-take-le n b h)

pub fits_head : (b : List ℕ) (n header rows : ℕ) → n ≤ length b → header + 16 * rows ≤ n → header ≤ length (take n b)
fits_head b n header rows h g = omega (arith, length-take-le n b h)

-- ---- the list

pub size_is : (l : Limits) (old list l₁ : List ℕ) (r : Listed) → r & l₁ ≡ noted none list (changes_in l old) → r.size ≡ length (list_bytes (changes_in l old))
unfolding noted
size_is l old list l₁ r e =
    let cs = changes_in l old in
    let p : r ≡ listed (0 + length (list_bytes cs)) (0 + length cs) = cc in
    rw (p, zero-add)

module _ (l : Limits) (old : List ℕ) (size room space : ℕ) where
  pub room_short : room < size → false ≡ room_t l old size room space
  unfolding room_t
  room_short h = yes! _ (omega tests) refl

  pub room_right : {n : ℕ} → n ≡ length (list_bytes (changes_in l old)) → size ≤ room → leb n space ≡ room_t l old size room space
  unfolding room_t
  room_right w h = no! _ (omega tests) (rw w)

  room_fits : {t : Bool} → t ≡ room_t l old size room space → not t ≡ false → size ≤ room
  unfolding room_t pick
  room_fits {t} w e = go (ltb room size) refl (sym w ∙ not-false t e)
    where
      go : (b : Bool) → ltb room size ≡ b → pick b false (leb (length (list_bytes (changes_in l old))) space) ≡ true → size ≤ room
      go true q p = absurd (let z : ◌≡◌ {A = ℕ} 0 1 = cc in omega arith)
      go false q p = ltb-false room size q

-- ---- the run

pub writes : (l : Limits) (buffer l₁ list l₂ : List ℕ) (long : ℕ) (k : Kept) (r : Listed) → r & l₂ ≡ noted none list (changes_in l (take long buffer)) → l₁ ≡ in_place buffer long (new_t l (take long buffer) k)
    → Ok r.count & l₁ & l₂ ≡ write_t l buffer long list k
unfolding write_t noted
writes l buffer l₁ list l₂ long k r e f =
    let cs = changes_in l (take long buffer) in
    let p : r ≡ listed (0 + length (list_bytes cs)) (0 + length cs) = cc in
    let q : l₂ ≡ sets list 0 (list_bytes cs) = cc in
    rw (p, q, f, zero-add)

module _ (l : Limits) (buffer list : List ℕ) (long : ℕ) (k : Kept) where
  abbrev body : List ℕ
  body = drop l.header (take long buffer)

  module _ (is : k ≡ kept_in body) (r : Result ⊤ BadRows) (v : r ≡ read_to l (mended_body_t body (kept_in body))) where
    is_read : r ≡ read_to l (mended_body_t body k)
    is_read = v ∙ ap (λ (x : Kept). read_to l (mended_body_t body x)) (sym is)

    pub read_broken : {a : Result ℕ Refusal} (row : ℕ) → r ≡ Err (rows_read.Broken row) → a ≡ refused_t 4 (row % 4294967296) → a & buffer & list ≡ read_then (read_to l (mended_body_t body k)) l buffer long list k
    unfolding read_then
    read_broken row e f = rw (← is_read, e, f)

    pub read_deep : {a : Result ℕ Refusal} (row : ℕ) → r ≡ Err (rows_read.Deep row) → a ≡ refused_t 5 (row % 4294967296) → a & buffer & list ≡ read_then (read_to l (mended_body_t body k)) l buffer long list k
    unfolding read_then
    read_deep row e f = rw (← is_read, e, f)

    pub read_whole : {a : Result ℕ Refusal} {l₁ l₂ : List ℕ} → r ≡ Ok tt → a & l₁ & l₂ ≡ write_t l buffer long list k → a & l₁ & l₂ ≡ read_then (read_to l (mended_body_t body k)) l buffer long list k
    unfolding read_then
    read_whole e f = rw (← is_read, e) f

  module _ (header : ℕ) (is : header ≡ l.header) {t : Bool} (w : t ≡ room_t l (take long buffer) (header + 16 * (k.rows + k.scopes)) (length buffer) (length list)) where
    asked : room_t l (take long buffer) (l.header + 16 * (k.rows + k.scopes)) (length buffer) (length list) ≡ t
    asked = sym (w ∙ ap (λ (n : ℕ). room_t l (take long buffer) (n + 16 * (k.rows + k.scopes)) (length buffer) (length list)) is)

    pub to_fits : not t ≡ false → l.header + 16 * (k.rows + k.scopes) ≤ length buffer
    to_fits h = room_fits l (take long buffer) (l.header + 16 * (k.rows + k.scopes)) (length buffer) (length list) (sym asked) h

    pub to_short : {a : Result ℕ Refusal} → a ≡ refused_t 3 0 → not t ≡ true → a & buffer & list ≡ to_t l buffer long list k
    unfolding to_t
    to_short e h = no! _ (asked ∙ not-true t h) (rw e)

    pub to_whole : {x : Ran} → x ≡ read_then (read_to l (mended_body_t body k)) l buffer long list k → not t ≡ false → x ≡ to_t l buffer long list k
    unfolding to_t
    to_whole f h = yes! _ (asked ∙ not-false t h) f

  module _ (is : k ≡ kept_in body) where
    pub kept_fits : l.header ≤ long → long ≤ length buffer → l.header + 16 * k.rows ≤ long
    kept_fits h g = rw is (omega (arith, (rows_split body).1, length-drop l.header (take long buffer), length-take-le long buffer g))

    pub made_none : {a : Result ℕ Refusal} → a ≡ refused_t 2 0 → k.rows + k.scopes ≡ 0 → a & buffer & list ≡ made_t l buffer long list
    unfolding made_t
    made_none e h = rw (← is) (yes! _ (omega tests) (rw e))

    module _ (some : k.rows + k.scopes ≡ 0 → ⊥) where
      pub made_many : {a : Result ℕ Refusal} → a ≡ refused_t 2 0 → l.rows < k.rows + k.scopes → a & buffer & list ≡ made_t l buffer long list
      unfolding made_t
      made_many e h = rw (← is) (no! _ (omega tests) (yes! _ (omega tests) (rw e)))

      pub made_whole : {x : Ran} → x ≡ to_t l buffer long list k → k.rows + k.scopes ≤ l.rows → x ≡ made_t l buffer long list
      unfolding made_t
      made_whole f h = rw (← is) (no! _ (omega tests) (no! _ (omega tests) f))
