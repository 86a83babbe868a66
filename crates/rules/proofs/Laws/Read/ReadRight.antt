-- Rows are read as what is right, and nothing else is right.
use Rattle.std.proofs.Math.Path.{◌≡◌, refl, ap, sym}
use Rattle.std.proofs.Common.{◌∙◌, subst, length-append, take_at, take_all}
use Rattle.std.proofs.Math.Option.{Option, none, some}
use mathlib.Core.List.{List, [], ◌∷◌, ◌++◌, map, append-nil}
use Rattle.std.specs.Prelude.{◌↔◌}
use Prim.Native.Nat.{ℕ, suc, ◌+◌, ◌-◌, ◌≤◌, ◌<◌}
use native.Mathlib.Omega.{arith}
use Rattle.std.proofs.Math.ListN.{length, take, drop, get_or, length-map, get_or-append, get_or-eq_default}
use Rattle.std.proofs.lemmas.List.{take-append-le, get_or_at}
use Rattle.std.proofs.Math.Seq.{split_at, length-take-le}
use Rattle.rules.specs.Versions.{RuleSet}
use Rattle.rules.specs.Rows.{Row, Field, Decl, Ref, Path, Outer, Case, Open, Close, Export}
use Rattle.rules.specs.Tree.{Scope, flatten, RowsRead, bad, deep, form}
use Rattle.rules.specs.Good.{kind_of, GoodScope, height}
use Rattle.rules.specs.Begins.{IsForm, Begins, opening, closing, total, open_scopes, TooDeep, Bad, Deep, Right}
use Rattle.rules.specs.Reader
use Rattle.rules.specs.Reader.{State, start, Next, wrong, on, whole, open_here, step, run, read}
use Rattle.rules.specs.Laws.ToolLaws.{if_ok_lem, leb_le, leb_lt, length_snoc, snoc_append}
use Rattle.rules.specs.Laws.Read.Steps.{after, after_wrong, after_append}
use Rattle.rules.proofs.Laws.Read.ReadBack.{read_back}
use Rattle.rules.proofs.Laws.Read.ReadSound.{highest, NextOk, step_ok}
use Rattle.rules.proofs.Laws.Read.Reached.{some_append, unsome, total_snoc, from_wrong, same_whole, highest_open, Reached, reached_step, reached, highest_in_tree}
use Rattle.rules.proofs.Laws.Read.BeginsLaws.{begins_form, begins_whole, begins_none, no_form, begins_less, form_begins}

-- ---- no row is too deep

abbrev Shallow : (scopes : ℕ) → List (Option Row) → ℕ → Type 0
Shallow scopes rows p = (q : ℕ) → q < p → ¬ TooDeep scopes rows q

-- whether a row is too deep is seen from the rows up to it
deep_earlier : (scopes : ℕ) (xs ys : List (Option Row)) (q : ℕ) → q < length xs → TooDeep scopes (xs ++ ys) q → TooDeep scopes xs q
deep_earlier scopes xs ys q h d =
    let below : q ≤ length xs = omega arith in
    record {
      kind = d.kind;
      name = d.name;
      is_open_lem = sym (get_or-append xs ys none q h) ∙ d.is_open_lem;
      all_open = ap open_scopes (sym (take-append-le q xs ys below)) ∙ d.all_open;
    }

deep_here : (scopes : ℕ) (rows : List Row) (row : Row) (more : List (Option Row)) (kind name : ℕ) → some row ≡ some (Open kind name)
    → open_scopes (map some rows) ≡ scopes → TooDeep scopes (map some rows ++ (some row ∷ more)) (length rows)
deep_here scopes rows row more kind name o full =
    let size : length (map some rows) ≡ length rows = length-map rows some in
    record {
      kind = kind;
      name = name;
      is_open_lem = get_or_at (map some rows) (some row) more none (length rows) size ∙ o;
      all_open = ap open_scopes (take_at (map some rows) (some row ∷ more) (length rows) size) ∙ full;
    }

is_opening : (row : Row) (kind name : ℕ) → some row ≡ some (Open kind name) → (opening (some row) ≡ 1) × (closing (some row) ≡ 0)
unfolding opening closing
is_opening row kind name e = (ap opening e, ap closing e)

opening_once : (row : Row) → opening (some row) ≤ 1
unfolding opening
opening_once (Field code builtin z) = omega arith
opening_once (Decl space n z) = omega arith
opening_once (Ref space at paths z) = omega arith
opening_once (Path n) = omega arith
opening_once (Outer space up at z) = omega arith
opening_once (Case n z) = omega arith
opening_once (Open kind name) = omega arith
opening_once Close = omega arith
opening_once (Export n) = omega arith

opening_row : (row : Row) → opening (some row) ≡ 1 → (kind name : ℕ) × (some row ≡ some (Open kind name))
unfolding opening
opening_row (Field code builtin z) e = absurd (omega arith)
opening_row (Decl space n z) e = absurd (omega arith)
opening_row (Ref space at paths z) e = absurd (omega arith)
opening_row (Path n) e = absurd (omega arith)
opening_row (Outer space up at z) e = absurd (omega arith)
opening_row (Case n z) e = absurd (omega arith)
opening_row (Open kind name) e = (kind, name, refl)
opening_row Close e = absurd (omega arith)
opening_row (Export n) e = absurd (omega arith)

-- one row more, after which this many scopes are open
shallow_snoc : (scopes : ℕ) (rows : List Row) (row : Row) (d d' : ℕ) → Shallow scopes (map some rows) (length rows)
    → total opening (map some rows) ≡ total closing (map some rows) + d
    → total opening (map some (rows ++ (row ∷ []))) ≡ total closing (map some (rows ++ (row ∷ []))) + d' → d' ≤ scopes
    → Shallow scopes (map some (rows ++ (row ∷ []))) (length (rows ++ (row ∷ [])))
unfolding open_scopes
shallow_snoc scopes rows row d d' s o o' low q h t =
    let earlier : ¬ (q < length rows) = λ before.
    let there : q < length (map some rows) = rw length-map before in
    s q before (deep_earlier scopes (map some rows) (some row ∷ []) q there (rw some_append at t)) in
    let here : q ≡ length rows = omega (arith, length_snoc rows row) in
    let cut : map some (rows ++ (row ∷ [])) ≡ map some rows ++ (some row ∷ []) = some_append rows (row ∷ []) in
    let size : length (map some rows) ≡ q = length-map rows some ∙ sym here in
    let open_row : some row ≡ some (Open t.kind t.name) =
    sym (get_or_at (map some rows) (some row) [] none q size) ∙ ap (λ (l : List (Option Row)). get_or l q none) (sym cut) ∙ t.is_open_lem in
    let full : open_scopes (map some rows) ≡ scopes =
    ap open_scopes (sym (take_at (map some rows) (some row ∷ []) q size) ∙ ap (take q) (sym cut)) ∙ t.all_open in
    let w = is_opening row t.kind t.name open_row in
    omega (arith, total_snoc opening rows row, total_snoc closing rows row, w.0, w.1)

-- ---- how rows are read

module _ (rules : RuleSet) (scopes : ℕ) where
  -- so far the rows are read: these rows have led to this state, and none of them is too deep
  record At (rows : List Row) (s : State) : Type 0 where
    came : after rules (on start) rows ≡ on s
    sound : Reached rules rows (on s)
    low : highest s ≤ scopes
    shallow : Shallow scopes (map some rows) (length rows)

  -- the right answer, where a place is how many rows are left
  abbrev Told : List (Option Row) → RowsRead → Type 0
  Told rows r = Right rules scopes rows (Reader.counted (length rows) r)

  all_length : (rows : List Row) (more : List (Option Row)) → length (map some rows ++ more) ≡ length rows + length more
  all_length rows more = rw (length-append, length-map)

  -- the row after rows that begin a form
  bad_at : (rows : List Row) (row : Option Row) (more : List (Option Row)) → Begins rules (map some rows) → ¬ Begins rules (map some rows ++ (row ∷ []))
      → Shallow scopes (map some rows) (length rows) → Bad rules scopes (map some rows ++ (row ∷ more)) (length rows)
  bad_at rows row more b breaks shallow =
      let size : length (map some rows) ≡ length rows = length-map rows some in
      let next : take (suc (length rows)) (map some rows ++ (row ∷ more)) ≡ map some rows ++ (row ∷ []) =
      rw (← snoc_append (map some rows) row more) (take_at (map some rows ++ (row ∷ [])) more (suc (length rows)) (length_snoc (map some rows) row ∙ ap suc size)) in
      record {
        in_range = omega (arith, all_length rows (row ∷ more));
        begins = rw (take_at (map some rows) (row ∷ more) (length rows) size) b;
        breaks = λ h b'. breaks (rw next at b');
        ends_early = λ e t f. omega (arith, all_length rows (row ∷ more));
        not_deep = λ q h d. shallow q h (deep_earlier scopes (map some rows) (row ∷ more) q (rw size h) d);
      }

  -- no row after rows that begin a form
  bad_end : (rows : List Row) (s : State) → At rows s → Bad rules scopes (map some rows) (length rows)
  bad_end rows s a =
      let size : length (map some rows) ≡ length rows = length-map rows some in
      record {
        in_range = omega arith;
        begins = rw (take_all (length rows) (map some rows) (omega arith)) (begins_form rules rows s a.sound);
        breaks = λ h b. omega arith;
        ends_early = λ e t f. no_form rules rows s a.came t f;
        not_deep = a.shallow;
      }

  -- an OPEN after rows that begin a form, after which more scopes are open than may be
  deep_at : (rows : List Row) (row : Row) (more : List (Option Row)) (s s' : State) → At rows s → Reached rules (rows ++ (row ∷ [])) (on s')
      → scopes < open_here s' → Deep rules scopes (map some rows ++ (some row ∷ more)) (length rows)
  unfolding open_scopes
  deep_at rows row more s s' a h low =
      let size : length (map some rows) ≡ length rows = length-map rows some in
      let next : take (suc (length rows)) (map some rows ++ (some row ∷ more)) ≡ map some (rows ++ (row ∷ [])) =
      rw (← snoc_append (map some rows) (some row) more, some_append rows (row ∷ []))
      (take_at (map some rows ++ (some row ∷ [])) more (suc (length rows)) (length_snoc (map some rows) (some row) ∙ ap suc size)) in
      let rises : (opening (some row) ≡ 1) × (open_here s ≡ scopes) =
      omega (arith, total_snoc opening rows row, total_snoc closing rows row, opening_once row, highest_open s, a.low, a.sound.2, h.2) in
      let o = opening_row row rises.0 in
      record {
        in_range = omega (arith, all_length rows (some row ∷ more));
        begins = rw next (begins_form rules (rows ++ (row ∷ [])) s' h);
        too_deep = deep_here scopes rows row more o.0 o.1 o.2 (omega (arith, a.sound.2, rises.1));
        not_deep = λ q b d. a.shallow q b (deep_earlier scopes (map some rows) (some row ∷ more) q (rw size b) d);
      }

  led : (rows : List Row) (row : Row) (s : State) (n : Next) → after rules (on start) rows ≡ on s → step rules s row ≡ n
      → after rules (on start) (rows ++ (row ∷ [])) ≡ n
  unfolding after
  led rows row s n came e = after_append rules (on start) rows (row ∷ []) ∙ ap (λ (m : Next). after rules m (row ∷ [])) came ∙ e

  one_more_lem : (rows : List Row) (row : Row) (more : List (Option Row)) → map some (rows ++ (row ∷ [])) ++ more ≡ map some rows ++ (some row ∷ more)
  one_more_lem rows row more = ap (λ (l : List (Option Row)). l ++ more) (some_append rows (row ∷ [])) ∙ snoc_append (map some rows) (some row) more

  -- what one row leads to, if the rows behind it are read right
  row_right : (row : Row) (more : List (Option Row)) (rows : List Row) (s : State) → At rows s → (n : Next) → step rules s row ≡ n
      → NextOk rules s row n → Reached rules (rows ++ (row ∷ [])) n
      → ((s' : State) → At (rows ++ (row ∷ [])) s' → Told (map some (rows ++ (row ∷ [])) ++ more) (run rules scopes more s'))
      → Told (map some rows ++ (some row ∷ more)) (Reader.proceed scopes n more (λ s'. run rules scopes more s'))
  unfolding Reader.proceed Reader.counted Reader.ended after
  row_right row more rows s a wrong e k h rec =
      let place : length (map some rows ++ (some row ∷ more)) - suc (length more) ≡ length rows = omega (arith, all_length rows (some row ∷ more)) in
      rw place (bad_at rows (some row) more (begins_form rules rows s a.sound)
      (begins_none rules rows (some row) (λ x same. let y : row ≡ x = cc in rw (← y) (led rows row s wrong a.came e))) a.shallow)
  row_right row more rows s a (on s') e k h rec =
      let all = one_more_lem rows row more in
      let place : length (map some rows ++ (some row ∷ more)) - suc (length more) ≡ length rows = omega (arith, all_length rows (some row ∷ more)) in
      if_ok_lem (Told (map some rows ++ (some row ∷ more))) _ _ _
      (λ low.
      let fits : open_here s' ≤ scopes = leb_le (open_here s') scopes low in
      rw all at (rec s' (record {
        came = led rows row s (on s') a.came e;
        sound = h;
        low = omega (arith, a.low, k.2);
        shallow = shallow_snoc scopes rows row (open_here s) (open_here s') a.shallow a.sound.2 h.2 fits;
      })))
      (λ high. rw place (deep_at rows row more s s' a h (leb_lt (open_here s') scopes high)))
  row_right row [] rows s a (whole t) e k h rec =
      (record { component = h.0; good = h.1; of_tree = ap (map some) h.2 ∙ some_append rows (row ∷ []) }, omega (arith, a.low, k.3))
  row_right row (x ∷ more) rows s a (whole t) e k h rec =
      let all = one_more_lem rows row (x ∷ more) in
      let place : length (map some rows ++ (some row ∷ x ∷ more)) - suc (length more) ≡ length (rows ++ (row ∷ [])) =
      omega (arith, all_length rows (some row ∷ x ∷ more), length_snoc rows row) in
      let closed = led rows row s (whole t) a.came e in
      let none_after : total opening (map some (rows ++ (row ∷ []))) ≡ total closing (map some (rows ++ (row ∷ []))) + 0 = omega (arith, h.3) in
      rw (place, ← all) (bad_at (rows ++ (row ∷ [])) x more (begins_whole rules (rows ++ (row ∷ [])) t h)
      (begins_none rules (rows ++ (row ∷ [])) x (λ y same.
      after_append rules (on start) (rows ++ (row ∷ [])) (y ∷ []) ∙ ap (λ (n : Next). after rules n (y ∷ [])) closed))
      (shallow_snoc scopes rows row (open_here s) 0 a.shallow a.sound.2 none_after (omega arith)))

  run_right : (more : List (Option Row)) (rows : List Row) (s : State) → At rows s → Told (map some rows ++ more) (run rules scopes more s)
  unfolding run Reader.counted
  run_right [] rows s a =
      let place : length (map some rows) - 0 ≡ length rows = omega (arith, length-map rows some) in
      rw (append-nil, place) (bad_end rows s a)
  run_right (none ∷ more) rows s a =
      let place : length (map some rows ++ (none ∷ more)) - suc (length more) ≡ length rows = omega (arith, all_length rows (none ∷ more)) in
      rw place (bad_at rows none more (begins_form rules rows s a.sound) (begins_none rules rows none (λ x e. cc)) a.shallow)
  run_right (some row ∷ more) rows s a =
      row_right row more rows s a (step rules s row) refl (step_ok rules s row a.sound.0) (reached_step rules rows s row a.sound) (λ s' a'. run_right more (rows ++ (row ∷ [])) s' a')

  read_is_right : (rows : List (Option Row)) → Right rules scopes rows (read rules scopes rows)
  unfolding read open_here total after
  read_is_right rows =
      run_right rows [] start (record { came = refl; sound = (tt, refl, refl); low = omega arith; shallow = λ q h d. omega arith })

  -- ---- nothing else is right

  -- no more scopes are open in a form than stand one in another
  form_open : (t : Scope) (rows more : List Row) → kind_of t ≡ 0 → GoodScope rules t → flatten t ≡ rows ++ more
      → (total closing (map some rows) ≤ total opening (map some rows)) × (total opening (map some rows) ≤ total closing (map some rows) + height t)
  form_open t rows more k g e =
      go (after rules (on start) rows) (reached rules rows)
      (sym (after_append rules (on start) rows more) ∙ ap (after rules (on start)) (sym e) ∙ read_back rules t k g)
    where
      go : (n : Next) → Reached rules rows n → after rules n more ≡ whole t
          → (total closing (map some rows) ≤ total opening (map some rows)) × (total opening (map some rows) ≤ total closing (map some rows) + height t)
      go wrong h e' = from_wrong (sym (after_wrong rules more) ∙ e')
      go (on s) h e' = omega (arith, h.2, highest_open s, highest_in_tree rules more s t h.0 e')
      go (whole t') h e' = omega (arith, h.3)

  form_shallow : (rows : List (Option Row)) (t : Scope) (q : ℕ) → IsForm rules rows t → height t ≤ scopes → ¬ TooDeep scopes rows q
  unfolding open_scopes
  form_shallow rows t q f low d =
      let xs = flatten t in
      let there : ¬ (length rows ≤ q) = λ out. let no_way : ◌≡◌ {A = ℕ} 0 1 = cc (get_or-eq_default rows none out) in omega arith in
      let inside-it : q < length xs = omega (arith, ap length f.of_tree, length-map xs some) in
      let before = take q xs in
      let x = get_or xs q Close in
      let behind = drop (suc q) xs in
      let split : xs ≡ before ++ (x ∷ behind) = split_at xs q Close inside-it in
      let again : xs ≡ (before ++ (x ∷ [])) ++ behind = split ∙ sym (snoc_append before x behind) in
      let all : rows ≡ map some before ++ (some x ∷ map some behind) = sym f.of_tree ∙ ap (map some) split ∙ some_append before (x ∷ behind) in
      let size : length (map some before) ≡ q = length-map before some ∙ length-take-le q xs (omega arith) in
      let is_x : some x ≡ some (Open d.kind d.name) =
      sym (get_or_at (map some before) (some x) (map some behind) none q size) ∙ ap (λ (l : List (Option Row)). get_or l q none) (sym all) ∙ d.is_open_lem in
      let full : open_scopes (map some before) ≡ scopes =
      ap open_scopes (sym (take_at (map some before) (some x ∷ map some behind) q size) ∙ ap (take q) (sym all)) ∙ d.all_open in
      let w = is_opening x d.kind d.name is_x in
      omega (
        arith,
        total_snoc opening before x,
        total_snoc closing before x,
        w.0,
        w.1,
        (form_open t before (x ∷ behind) f.component f.good split).0,
        (form_open t (before ++ (x ∷ [])) behind f.component f.good again).1,
      )

  unique : (rows : List (Option Row)) (a b : RowsRead) → Right rules scopes rows a → Right rules scopes rows b → a ≡ b
  unique rows (bad p) (bad p') h k = ap bad (
      let f : ¬ (p < p') = λ l. h.breaks (omega (arith, k.in_range)) (begins_less rules rows (suc p) p' l k.begins) in
      let g : ¬ (p' < p) = λ l. k.breaks (omega (arith, h.in_range)) (begins_less rules rows (suc p') p l h.begins) in
      omega arith)
  unique rows (bad p) (deep p') h k =
      let f : ¬ (p ≤ p') = λ l. h.breaks (omega (arith, k.in_range)) (begins_less rules rows (suc p) (suc p') (omega arith) k.begins) in
      let g : ¬ (p' < p) = λ l. h.not_deep p' l k.too_deep in
      absurd (omega arith)
  unique rows (bad p) (form t) h k =
      let f : ¬ (p < length rows) = λ l. h.breaks l (form_begins rules rows t (suc p) k.0) in
      let g : ¬ (p ≡ length rows) = λ e. h.ends_early e t k.0 in
      absurd (omega (arith, h.in_range))
  unique rows (deep p) (bad p') h k =
      let f : ¬ (p' ≤ p) = λ l. k.breaks (omega (arith, h.in_range)) (begins_less rules rows (suc p') (suc p) (omega arith) h.begins) in
      let g : ¬ (p < p') = λ l. k.not_deep p l h.too_deep in
      absurd (omega arith)
  unique rows (deep p) (deep p') h k = ap deep (
      let f : ¬ (p < p') = λ l. k.not_deep p l h.too_deep in
      let g : ¬ (p' < p) = λ l. h.not_deep p' l k.too_deep in
      omega arith)
  unique rows (deep p) (form t) h k = absurd (form_shallow rows t p k.0 k.1 h.too_deep)
  unique rows (form t) (bad p) h k =
      let f : ¬ (p < length rows) = λ l. k.breaks l (form_begins rules rows t (suc p) h.0) in
      let g : ¬ (p ≡ length rows) = λ e. k.ends_early e t h.0 in
      absurd (omega (arith, k.in_range))
  unique rows (form t) (deep p) h k = absurd (form_shallow rows t p h.0 h.1 k.too_deep)
  unique rows (form t) (form t') h k = ap form (same_whole (
      sym (read_back rules t h.0.component h.0.good)
      ∙ ap (after rules (on start)) (unsome (flatten t) (flatten t') (h.0.of_tree ∙ sym k.0.of_tree))
      ∙ read_back rules t' k.0.component k.0.good))

  -- Rows are read as exactly what is right.
  pub read_right : (rows : List (Option Row)) (answer : RowsRead) → (read rules scopes rows ≡ answer) ↔ Right rules scopes rows answer
  read_right rows answer = (
    λ e. subst (Right rules scopes rows) e (read_is_right rows),
    λ h. unique rows (read rules scopes rows) answer (read_is_right rows) h,
  )

  -- a form of at most this many scopes is read as its tree
  pub reads_form : (rows : List (Option Row)) (t : Scope) → IsForm rules rows t → height t ≤ scopes → read rules scopes rows ≡ form t
  reads_form rows t f low = (read_right rows (form t)).1 (f, low)
