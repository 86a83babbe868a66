-- A mapping that keeps different names different, on the bytes of an input: the same refusal, or the same output but for the names.
use Rattle.std.specs.Prelude.{◌≡◌, Bool, true, false, ◌&&◌, ◌||◌, not, ◌⊎◌, eqb, ltb}
use Rattle.std.proofs.Math.Path.{refl, ap, ap₂, sym}
use Rattle.std.proofs.Common.{◌∙◌, subst, inl, inr, arith, take-append-drop, length-append}
use Rattle.std.proofs.Math.Option
use Rattle.std.proofs.Math.Option.{Option, none, some}
use mathlib.Core.List.{List, [], ◌∷◌, ◌++◌, map}
use Prim.Native.Nat.{ℕ, zero, suc, ◌+◌, ◌*◌, ◌-◌, ◌^◌, ◌≤◌, ◌<◌}
use Rattle.std.proofs.Math.Dec.{leb}
use Rattle.std.proofs.Math.ListN.{length, take, drop, length-drop}
use Rattle.std.proofs.Math.Seq.{length-take-le, drop-append_seam}
use Rattle.std.proofs.lemmas.List.{take-append-le}
use Rattle.rules.specs.Tools.{when◌then◌else◌, between, zeros, only, ◌or_else◌}
use Rattle.rules.specs.Versions.{RuleSet, Setting, top_name, base, all}
use Rattle.rules.specs.Rows.{value, bytes, Raw, raw, raw_at, raw_bytes, Index, Num, Id, Row, Field, Decl, Ref, Path, Outer, Case, Open, Close, Export, decode, encode, flag, number, decode_row, encode_row}
use Rattle.rules.specs.Tree.{Scope, flatten, RowsRead, bad, deep, form}
use Rattle.rules.specs.Reader.{read}
use Rattle.rules.specs.Rules.{fresh, Result, ok, Env, resolve_inside}
use Rattle.rules.specs.Answer
use Rattle.rules.specs.Answer.{AnswerOf, refused, accepted, map_answer, Answer, mark, same_numbers, has_header, setting_of, row_count, rows_of, rows_in, resolved, scopes_left, after_reading, form_in, answer_in, answer_for, answer_inside, answer, form_bytes, written, output_after, output_for, output_inside, output}
use Rattle.renaming.specs.Renaming.{Keeps, renamed_index, renamed_row, renamed_part, renamed_rows, renamed, renamed_in, renamed_for, renamed_bytes}
use Rattle.rules.specs.Laws.ToolLaws.{Ok, All, done, ◌&◌, if_ok_lem, and_left, and_right, or-true, eqb-true, eqb_same, leb-true, leb_le, leb_lt}
use Rattle.rules.specs.Laws.RowLaws.{RawFits, FitsRaw, LegalIndex, Legal, Written, Bytes, bytes_drop, decode_written, row_again, drop_row}
use Rattle.headers.specs.Laws.Settings.{part_same, headed, Plain, InForce, found_in, setting_stays}
use Rattle.renaming.proofs.Laws.Trees.{ren_scope, ren_env, map_r, if_ren, scope_rows, Faithful, renaming}
use Rattle.renaming.proofs.Laws.Reads.{ren_reading, read_ren}

-- ---- mappings

out_of : (n : ℕ) → between 1 top_name n ≡ false → (n ≡ 0) ⊎ (top_name < n)
out_of n e = go (leb 1 n) refl e
  where
    go : (b : Bool) → leb 1 n ≡ b → b && leb n top_name ≡ false → (n ≡ 0) ⊎ (top_name < n)
    go false q e = let l = leb_lt 1 n q in inl (omega (arith, l))
    go true q e = inr (leb_lt n top_name e)

module _ (f : ℕ → ℕ) where
  -- a name of an input, or none
  pub by_range : (P : ℕ → Type 0) (n : ℕ) → (1 ≤ n → n ≤ top_name → P (f n)) → ((n ≡ 0) ⊎ (top_name < n) → P n) → P (renamed f n)
  unfolding renamed
  by_range P n yes-in not_in =
      if_ok_lem P (between 1 top_name n) (f n) n
      (λ e. yes-in (leb_le 1 n (and_left (leb 1 n) (leb n top_name) e)) (leb_le n top_name (and_right (leb 1 n) (leb n top_name) e)))
      (λ e. not_in (out_of n e))

  outside_it : (n m : ℕ) → 1 ≤ n → n ≤ top_name → n ≡ m → ¬ ((m ≡ 0) ⊎ (top_name < m))
  outside_it n m l h e (inl z) = omega (arith, l, e, z)
  outside_it n m l h e (inr z) = omega (arith, h, e, z)

  module _ (w : Keeps f) where
    renamed_apart : (a b : ℕ) → renamed f a ≡ renamed f b → a ≡ b
    renamed_apart a b =
        by_range (λ x. x ≡ renamed f b → a ≡ b) a
        (λ l h. by_range (λ y. f a ≡ y → a ≡ b) b
        (λ l' h' e. w.apart a b l h l' h' e)
        (λ out e. absurd (outside_it (f a) b (w.within a l h).0 (w.within a l h).1 e out)))
        (λ out. by_range (λ y. a ≡ y → a ≡ b) b
        (λ l h e. absurd (outside_it (f b) a (w.within b l h).0 (w.within b l h).1 (sym e) out))
        (λ out' e. e))

    pub renamed_low : (n : ℕ) → n ≤ top_name → renamed f n ≤ top_name
    renamed_low n low = by_range (λ x. x ≤ top_name) n (λ l h. (w.within n l h).1) (λ out. low)

    pub renamed_positive : (n : ℕ) → 1 ≤ n → 1 ≤ renamed f n
    renamed_positive n pos = by_range (λ x. 1 ≤ x) n (λ l h. (w.within n l h).0) (λ out. pos)

    pub faithful : Faithful (renamed f)
    unfolding fresh
    faithful =
        record {
          apart = renamed_apart;
          none_stays = by_range (λ x. x ≡ 0) 0 (λ l h. absurd (omega (arith, l))) (λ out. refl);
          fresh_stays = λ k. by_range (λ x. x ≡ fresh k) (fresh k) (λ l h. absurd (omega (arith, h))) (λ out. refl);
          range_stays = λ n. by_range (λ x. leb x top_name ≡ leb n top_name) n (λ l h. leb-true (w.within n l h).1 ∙ sym (leb-true h)) (λ out. refl);
        }

-- ---- one row

row_length : (r : Row) → length (encode_row r) ≡ 16
unfolding encode_row
row_length r = go (encode r)
  where
    go : (parts : Raw) → length (raw_bytes parts) ≡ 16
    go (raw code b e x y z) = unfold raw_bytes bytes in refl

-- a part is as long as it was, whatever the mapping
part_long : (g : ℕ → ℕ) (o : Option Row) (bs : List ℕ) → 16 ≤ length bs → length (renamed_part g o bs) ≡ 16
unfolding renamed_part
part_long g none bs h = length-take-le 16 bs h
part_long g (some row) bs h = row_length (renamed_row g row)

pub rows_long : (g : ℕ → ℕ) (count : ℕ) (bs : List ℕ) → 16 * count ≤ length bs → length (renamed_rows g count bs) ≡ length bs
unfolding renamed_rows
rows_long g zero bs h = refl
rows_long g (suc count) bs h =
    omega (
      arith,
      length-append (renamed_part g (decode_row top_name bs) bs) (renamed_rows g count (drop 16 bs)),
      part_long g (decode_row top_name bs) bs (omega arith),
      rows_long g count (drop 16 bs) (omega (arith, length-drop 16 bs)),
      length-drop 16 bs,
    )

raw_same : (xs ys zs : List ℕ) → 16 ≤ length xs → raw_at (xs ++ ys) ≡ raw_at (xs ++ zs)
unfolding raw_at
raw_same xs ys zs h =
    rw (
      part_same 0 1 xs ys zs (omega arith),
      part_same 1 1 xs ys zs (omega arith),
      part_same 2 2 xs ys zs (omega arith),
      part_same 4 4 xs ys zs (omega arith),
      part_same 8 4 xs ys zs (omega arith),
      part_same 12 4 xs ys zs (omega arith),
    )

module _ (g : ℕ → ℕ) (low : (n : ℕ) → n ≤ top_name → g n ≤ top_name) (positive : (n : ℕ) → 1 ≤ n → 1 ≤ g n) where
  flag_ren : (i : Index) → flag (renamed_index g i) ≡ flag i
  unfolding flag
  flag_ren (Num n) = refl
  flag_ren (Id n) = refl

  index_legal : (i : Index) → LegalIndex top_name i → LegalIndex top_name (renamed_index g i)
  index_legal (Num n) h = tt
  index_legal (Id n) h = (positive n h.0, low n h.1)

  index_fits : (i : Index) → LegalIndex top_name i → number i < 2 ^ 32 → number (renamed_index g i) < 2 ^ 32
  unfolding number
  index_fits (Num n) h l = l
  index_fits (Id n) h l = omega (arith, low n h.1)

  -- a row that can be written can be written with its new names
  written_ren : (row : Row) → Written top_name row → Written top_name (renamed_row g row)
  unfolding renamed_row encode
  written_ren (Field code builtin z) h = h
  written_ren (Decl space name z) h =
      record {
        fits = record { code_fits = h.fits.code_fits; b_fits = h.fits.b_fits; e_fits = h.fits.e_fits; x_fits = omega (arith, low name h.legal); y_fits = h.fits.y_fits; z_fits = h.fits.z_fits };
        legal = low name h.legal;
      }
  written_ren (Ref space at paths z) h =
      record {
        fits = record {
          code_fits = h.fits.code_fits;
          b_fits = h.fits.b_fits;
          e_fits = rw (flag_ren at) h.fits.e_fits;
          x_fits = index_fits at h.legal h.fits.x_fits;
          y_fits = h.fits.y_fits;
          z_fits = h.fits.z_fits;
        };
        legal = index_legal at h.legal;
      }
  written_ren (Path name) h = h
  written_ren (Outer space up at z) h =
      record {
        fits = record {
          code_fits = h.fits.code_fits;
          b_fits = h.fits.b_fits;
          e_fits = rw (flag_ren up, flag_ren at) h.fits.e_fits;
          x_fits = index_fits up h.legal.0 h.fits.x_fits;
          y_fits = index_fits at h.legal.1 h.fits.y_fits;
          z_fits = h.fits.z_fits;
        };
        legal = (index_legal up h.legal.0, index_legal at h.legal.1);
      }
  written_ren (Case name z) h =
      record {
        fits = record { code_fits = h.fits.code_fits; b_fits = h.fits.b_fits; e_fits = h.fits.e_fits; x_fits = omega (arith, low name h.legal); y_fits = h.fits.y_fits; z_fits = h.fits.z_fits };
        legal = low name h.legal;
      }
  written_ren (Open kind name) h =
      record {
        fits = record { code_fits = h.fits.code_fits; b_fits = h.fits.b_fits; e_fits = h.fits.e_fits; x_fits = omega (arith, low name h.legal); y_fits = h.fits.y_fits; z_fits = h.fits.z_fits };
        legal = low name h.legal;
      }
  written_ren Close h = h
  written_ren (Export name) h = h

  -- its bytes, whatever follows them
  record Part (rest : List ℕ) (o : Option Row) (new : List ℕ) : Type 0 where
    reads : decode_row top_name (new ++ rest) ≡ Option.map (renamed_row g) o
    rests : drop 16 (new ++ rest) ≡ rest

  part_ren : (bs rest : List ℕ) → Bytes bs → 16 ≤ length bs → Part rest (decode_row top_name bs) (renamed_part g (decode_row top_name bs) bs)
  unfolding renamed_part
  part_ren bs rest b h = go (decode_row top_name bs) refl (decode_written top_name bs b)
    where
      sixteen : length (take 16 bs) ≡ 16
      sixteen = length-take-le 16 bs h

      go : (o : Option Row) → decode_row top_name bs ≡ o → Ok (Written top_name) o → Part rest o (renamed_part g o bs)
      go none e u =
          record {
            reads = unfold decode_row in
                ap (decode top_name) (raw_same (take 16 bs) rest (drop 16 bs) (omega (arith, sixteen)) ∙ ap raw_at (take-append-drop 16 bs)) ∙ e;
            rests = ap (λ (n : ℕ). drop n (take 16 bs ++ rest)) (sym sixteen) ∙ drop-append_seam (take 16 bs) rest;
          }
      go (some row) e u =
          let v = written_ren row u in
          record { reads = row_again top_name (renamed_row g row) rest v.fits v.legal; rests = drop_row (renamed_row g row) rest }

  rows_ren : (count : ℕ) (bs : List ℕ) → Bytes bs → 16 * count ≤ length bs
      → rows_of top_name count (renamed_rows g count bs) ≡ map (Option.map (renamed_row g)) (rows_of top_name count bs)
  unfolding rows_of renamed_rows
  rows_ren zero bs b h = refl
  rows_ren (suc count) bs b h =
      let p = part_ren bs (renamed_rows g count (drop 16 bs)) b (omega arith) in
      ap₂ (λ (o : Option Row) (l : List (Option Row)). o ∷ l) p.reads
      (ap (rows_of top_name count) p.rests ∙ rows_ren count (drop 16 bs) (bytes_drop 16 bs b) (omega (arith, length-drop 16 bs)))

-- ---- the answer

module _ (f : ℕ → ℕ) (w : Keeps f) where
  abbrev g : ℕ → ℕ
  g = renamed f

  scopes_ren : (scopes : ℕ) (around : List Env) → scopes_left scopes (map (ren_env g) around) ≡ scopes_left scopes around
  scopes_ren scopes [] = refl
  scopes_ren scopes (e ∷ es) = scopes_ren (scopes - 1) es

  resolved_ren : (m : Result (Scope × ℕ)) → resolved (map_r (λ (p : Scope × ℕ). (ren_scope g p.0, p.1)) m) ≡ map_answer (ren_scope g) (resolved m)
  unfolding resolved map_answer
  resolved_ren (Result.refused why place) = refl
  resolved_ren (ok r) = refl

  reading_ren : (around : List Env) (rules : RuleSet) (r : RowsRead)
      → after_reading (map (ren_env g) around) rules (ren_reading g r) ≡ map_answer (ren_scope g) (after_reading around rules r)
  unfolding after_reading map_answer
  reading_ren around rules (bad p) = refl
  reading_ren around rules (deep p) = refl
  reading_ren around rules (form s) = ap resolved (renaming g (faithful f w) rules around s) ∙ resolved_ren (resolve_inside rules around s)

  flatten_ren : (a : AnswerOf Scope) → map_answer flatten (map_answer (ren_scope g) a) ≡ map_answer (map (renamed_row g)) (map_answer flatten a)
  unfolding map_answer
  flatten_ren (refused n p c) = refl
  flatten_ren (accepted t) = ap accepted (scope_rows g t)

  -- an input of this setting, as long as it says
  module _ (s : Setting) (input : List ℕ) (bs : Bytes input) (p : Plain s) (has : has_header s input ≡ true)
      (as_long : eqb (length input) (s.version.header + 16 * row_count s.version input) ≡ true) where
    abbrev h : ℕ
    h = s.version.header

    abbrev count : ℕ
    count = row_count s.version input

    abbrev new : List ℕ
    new = renamed_rows g count (drop h input)

    renamed_is : renamed_in f s input ≡ take h input ++ new
    unfolding renamed_in when◌then◌else◌
    renamed_is = rw as_long

    front_long : length (take h input) ≡ h
    front_long = length-take-le h input (headed s input has).long

    -- a part of the header
    front : (j k : ℕ) → j + k ≤ h → take k (drop j (renamed_in f s input)) ≡ take k (drop j input)
    front j k l =
        ap (λ (x : List ℕ). take k (drop j x)) renamed_is
        ∙ (part_same j k (take h input) new (drop h input) (omega (arith, front_long)) ∙ ap (λ (x : List ℕ). take k (drop j x)) (take-append-drop h input))

    rest_long : 16 * count ≤ length (drop h input)
    rest_long = omega (arith, length-drop h input, eqb-true (length input) (h + 16 * count) as_long)

    same_length : length (renamed_in f s input) ≡ length input
    same_length =
        ap length renamed_is
        ∙ omega (
          arith,
          length-append (take h input) new,
          rows_long g count (drop h input) rest_long,
          ap length (take-append-drop h input),
          length-append (take h input) (drop h input),
        )

    six : 6 + s.version.counting ≤ h
    six = p.usual.header

    same_mark : take 6 (renamed_in f s input) ≡ take 6 input
    same_mark = front 0 6 (omega (arith, six))

    same_count : row_count s.version (renamed_in f s input) ≡ count
    unfolding row_count
    same_count = ap value (front 6 s.version.counting six)

    same_header : has_header s (renamed_in f s input) ≡ true
    unfolding has_header
    same_header =
        let all_of : take h (renamed_in f s input) ≡ take h input = front 0 h (omega arith) in
        rw (same_length, same_mark, all_of) has

    rows_in_ren : rows_of s.version.names count (drop h (renamed_in f s input)) ≡ map (Option.map (renamed_row g)) (rows_in s input)
    unfolding row_count
    rows_in_ren =
        let body : drop h (renamed_in f s input) ≡ new =
        ap (drop h) renamed_is ∙ (ap (λ (n : ℕ). drop n (take h input ++ new)) (sym front_long) ∙ drop-append_seam (take h input) new) in
        rw (body, p.top) (rows_ren g (renamed_low f w) (renamed_positive f w) count (drop h input) (bytes_drop h input bs) rest_long)

    form_ren : (around : List Env) (room : ℕ) → form_in (map (ren_env g) around) s (renamed_in f s input) room ≡ map_answer (ren_scope g) (form_in around s input room)
    unfolding form_in
    form_ren around room =
        rw (same_count, same_length, scopes_ren s.version.scopes around)
        (if_ren (map_answer (ren_scope g)) _ _ _ _ _ (unfold map_answer in refl)
        (if_ren (map_answer (ren_scope g)) _ _ _ _ _ (unfold map_answer in refl)
        (ap (after_reading (map (ren_env g) around) s.rules)
        (ap (read s.rules (scopes_left s.version.scopes around)) rows_in_ren ∙ read_ren g (faithful f w) s.rules (scopes_left s.version.scopes around) (rows_in s input))
        ∙ reading_ren around s.rules (read s.rules (scopes_left s.version.scopes around) (rows_in s input)))))

  -- an input that is not as long as its header says
  short_ren : (around around' : List Env) (s : Setting) (input : List ℕ) (room : ℕ) → eqb (length input) (s.version.header + 16 * row_count s.version input) ≡ false
      → form_in around' s input room ≡ map_answer (ren_scope g) (form_in around s input room)
  unfolding form_in map_answer when◌then◌else◌
  short_ren around around' s input room e = rw (e, or-true (not (between 1 s.version.rows (row_count s.version input))))

  -- the resolved form, under one setting
  pub form_renamed : (around : List Env) (s : Setting) (input : List ℕ) (room : ℕ) → Bytes input → Plain s → has_header s input ≡ true
      → form_in (map (ren_env g) around) s (renamed_in f s input) room ≡ map_answer (ren_scope g) (form_in around s input room)
  form_renamed around s input room bs p has = go (eqb (length input) (s.version.header + 16 * row_count s.version input)) refl
    where
      stays_so : eqb (length input) (s.version.header + 16 * row_count s.version input) ≡ false → renamed_in f s input ≡ input
      stays_so e = unfold renamed_in when◌then◌else◌ in rw e

      go : (b : Bool) → eqb (length input) (s.version.header + 16 * row_count s.version input) ≡ b
          → form_in (map (ren_env g) around) s (renamed_in f s input) room ≡ map_answer (ren_scope g) (form_in around s input room)
      go true e = form_ren s input bs p has e around room
      go false e =
          ap (λ (x : List ℕ). form_in (map (ren_env g) around) s x room) (stays_so e) ∙ short_ren around (map (ren_env g) around) s input room e

  setting_ren : (around : List Env) (s : Setting) (input : List ℕ) (room : ℕ) → Bytes input → Plain s → has_header s input ≡ true
      → answer_in (map (ren_env g) around) s (renamed_in f s input) room ≡ map_answer (map (renamed_row g)) (answer_in around s input room)
  unfolding answer_in
  setting_ren around s input room bs p has = ap (map_answer flatten) (form_renamed around s input room bs p has) ∙ flatten_ren (form_in around s input room)

  -- the same setting, and as many rows
  pub record Likewise (s : Setting) (settings : List Setting) (input : List ℕ) : Type 0 where
    pub asks : setting_of settings (renamed_in f s input) ≡ some s
    pub counts : row_count s.version (renamed_in f s input) ≡ row_count s.version input

  pub likewise : (settings : List Setting) (s : Setting) (input : List ℕ) → InForce settings → Bytes input → setting_of settings input ≡ some s → Likewise s settings input
  likewise settings s input l bs e =
      let r = found_in settings input s l e in
      go (eqb (length input) (s.version.header + 16 * row_count s.version input)) refl r.plain r.has
    where
      stays_so : eqb (length input) (s.version.header + 16 * row_count s.version input) ≡ false → renamed_in f s input ≡ input
      stays_so q = unfold renamed_in when◌then◌else◌ in rw q

      go : (b : Bool) → eqb (length input) (s.version.header + 16 * row_count s.version input) ≡ b → Plain s → has_header s input ≡ true → Likewise s settings input
      go true q p has =
          record {
            asks = setting_stays settings input (renamed_in f s input) s l e (same_mark s input bs p has q ∙ (headed s input has).marked) (same_header s input bs p has q);
            counts = same_count s input bs p has q;
          }
      go false q p has = record { asks = ap (setting_of settings) (stays_so q) ∙ e; counts = ap (row_count s.version) (stays_so q) }

  -- Whatever the input is: the refusal, its place and what it carries are the same, or the rows are but for the names; also inside scopes whose names are mapped.
  pub renaming_inside : (around : List Env) (settings : List Setting) → InForce settings → (input : List ℕ) → Bytes input → (room : ℕ)
      → answer_inside (map (ren_env g) around) settings (renamed_bytes f settings input) room ≡ map_answer (map (renamed_row g)) (answer_inside around settings input room)
  unfolding answer_inside renamed_bytes
  renaming_inside around settings l input bs room = go (setting_of settings input) refl
    where
      go : (o : Option Setting) → setting_of settings input ≡ o
          → answer_for (map (ren_env g) around) (setting_of settings (renamed_for f o input)) (renamed_for f o input) room ≡ map_answer (map (renamed_row g)) (answer_for around o input room)
      go none e = unfold renamed_for answer_for map_answer in rw e
      go (some s) e = unfold renamed_for answer_for in
          let r = found_in settings input s l e in
          rw (likewise settings s input l bs e).asks (setting_ren around s input room bs r.plain r.has)

  pub renaming_answer : (settings : List Setting) → InForce settings → (input : List ℕ) → Bytes input → (room : ℕ)
      → answer settings (renamed_bytes f settings input) room ≡ map_answer (map (renamed_row g)) (answer settings input room)
  unfolding answer
  renaming_answer settings l input bs room = renaming_inside [] settings l input bs room

  -- ---- the buffer

  -- What it holds then: what it would hold after the same refusal, or after the same rows with their new names.
  abbrev pub buffer_for : (around : List Env) → Option Setting → (input old : List ℕ) → List ℕ
  buffer_for around none input old = old
  buffer_for around (some s) input old =
      output_after s (map_answer (map (renamed_row g)) (answer_in around s input (length old))) (s.version.header + 64 * row_count s.version input) old

  pub renaming_buffer : (around : List Env) (settings : List Setting) → InForce settings → (input old : List ℕ) → Bytes input
      → output_inside (map (ren_env g) around) settings (renamed_bytes f settings input) old ≡ buffer_for around (setting_of settings input) input old
  unfolding output_inside renamed_bytes
  renaming_buffer around settings l input old bs = go (setting_of settings input) refl
    where
      go : (o : Option Setting) → setting_of settings input ≡ o
          → output_for (map (ren_env g) around) (setting_of settings (renamed_for f o input)) (renamed_for f o input) old ≡ buffer_for around o input old
      go none e = unfold renamed_for output_for in rw e
      go (some s) e = unfold renamed_for output_for in
          let r = found_in settings input s l e in
          let k = likewise settings s input l bs e in
          rw (k.asks, k.counts, setting_ren around s input (length old) bs r.plain r.has)

  -- after a refusal the buffer is the same
  pub renaming_refused : (settings : List Setting) → InForce settings → (input old : List ℕ) → Bytes input → (n p : ℕ) (c : List ℕ)
      → answer settings input (length old) ≡ refused n p c → output settings (renamed_bytes f settings input) old ≡ output settings input old
  unfolding output answer
  renaming_refused settings l input old bs n p c e = renaming_buffer [] settings l input old bs ∙ unfold output_inside answer_inside in go (setting_of settings input) e
    where
      go : (o : Option Setting) → answer_for [] o input (length old) ≡ refused n p c → buffer_for [] o input old ≡ output_for [] o input old
      go none e = unfold output_for in refl
      go (some s) e = unfold output_for answer_for map_answer output_after in rw e

  -- after an acceptance it holds the same rows with their new names, and the rest is the same
  pub renaming_accepted : (settings : List Setting) → InForce settings → (input old : List ℕ) → Bytes input → (s : Setting) → setting_of settings input ≡ some s → (rs : List Row)
      → answer settings input (length old) ≡ accepted rs
      → output settings (renamed_bytes f settings input) old ≡ written (s.version.header + 64 * row_count s.version input) (form_bytes s (map (renamed_row g) rs)) old
  unfolding output answer answer_inside
  renaming_accepted settings l input old bs s q rs e =
      renaming_buffer [] settings l input old bs ∙ unfold output_inside answer_for map_answer output_after in rw (q, rw q at e)
