-- A reference that inserted fields served is written as it was.
use Rattle.std.specs.Prelude.{◌≡◌, Bool, ◌&&◌, not, length, drop}
use Rattle.std.proofs.Math.Path.{refl, sym, ap}
use Rattle.std.proofs.Common.{◌∙◌, subst, length-append, drop_at}
use Rattle.std.proofs.Math.Bool.{true, false}
use Rattle.std.proofs.Math.Option.{Option, none, some}
use mathlib.Core.List.{List, [], ◌∷◌, ◌++◌, reverse}
use Prim.Native.Nat.{ℕ, zero, suc, ◌+◌, ◌-◌, ◌%◌, ◌<◌, ◌≤◌}
use native.Mathlib.Omega.{arith}
use Rattle.std.proofs.Math.Dec.{eqb}
use borrow.Author.Tests.{eqb-true, ne_eqb}
use Rattle.kit.specs.Pick.{pick}
use Rattle.kit.specs.Out.{Out, ◌&◌}
use Rattle.rules.specs.Rows.{Index, Num, Id, Row, Field, Decl, Ref, Path, Outer, encode, encode_row, flag, number}
use Rattle.rules.specs.Tree.{Declaration, Operand, ref, outer, case, Head, path_rows, operand_row}
use Rattle.rules.specs.Rules.{find}
use Rattle.rules.specs.Laws.ToolLaws.{and_left, and-false}
use Rattle.unresolving.specs.Back.{or_zero, first_decl, first_operand, digits, index_of, is_number, name_out, Group, served, lengthened, stands_on, links, alone, groups, is_for}
use Rattle.parts.specs.declared.Parts.{Parts}
use Rattle.rows.specs.declared.row.Index as code
use Rattle.rows.specs.declared.row.Row as code_row
use Rattle.put.specs.Put.{rule_index, rule_row, bytes_of, row_bytes}
use Rattle.claim_laws.specs.RowParts.{as_parts}
use Rattle.back_notes.specs.Note.{Noted}
use Rattle.back_rows.specs.Alias.{alias_before_t, for_t, is_linked_t}
use Rattle.back_rows.specs.Restore.{Wrote, put_bytes, wrote_then, Rest, rest, leaves, begin_t, path_t, restore_ref_t}
use Rattle.back_rows.specs.declared.alias.Alias.{Alias}
use Rattle.back_laws.specs.Groups.{parted, lone, joined, shifted, no_groups}

-- ---- rows written from the last to the first

unfoldable pub put_one : Row → Wrote → Wrote
put_one r (to & out) = put_bytes (encode_row r) to out

unfoldable pub put_rows : List Row → Wrote → Wrote
put_rows [] w = w
put_rows (r ∷ rs) w = put_one r (put_rows rs w)

pub put_append : (xs ys : List Row) (w : Wrote) → put_rows (xs ++ ys) w ≡ put_rows xs (put_rows ys w)
unfolding put_rows
put_append [] ys w = refl
put_append (x ∷ xs) ys w = ap (put_one x) (put_append xs ys w)

pub then_is : {A : Type 0} (w : Wrote) (h : Wrote → A) → wrote_then w (λ to out. h (to & out)) ≡ h w
unfolding wrote_then
then_is (to & out) h = refl

pub then_same : {A : Type 0} (w : Wrote) (f g : ℕ → List ℕ → A) → ((to : ℕ) (out : List ℕ) → f to out ≡ g to out) → wrote_then w f ≡ wrote_then w g
unfolding wrote_then
then_same (to & out) f g e = e to out

put_ref : (space n count z to : ℕ) (out : List ℕ) → put_bytes (row_bytes (code_row.TheVariants.Ref space (code.TheVariants.Number n) count z)) to out ≡ put_one (Ref space (Num n) count z) (to & out)
unfolding row_bytes rule_row rule_index bytes_of put_one
put_ref space n count z to out = refl

put_name : (space name z to : ℕ) (out : List ℕ) → put_bytes (row_bytes (code_row.TheVariants.Ref space (code.TheVariants.Name name) 0 z)) to out ≡ put_one (Ref space (Id name) 0 z) (to & out)
unfolding row_bytes rule_row rule_index bytes_of put_one
put_name space name z to out = refl

put_path : (name to : ℕ) (out : List ℕ) → put_bytes (row_bytes (code_row.TheVariants.Path name)) to out ≡ put_one (Path name) (to & out)
unfolding row_bytes rule_row bytes_of put_one
put_path name to out = refl

-- ---- what an inserted field shows

module _ (here : List Declaration) (outside : List (List Declaration)) where
  -- its operand, and the number of its export or the name of its outer item
  pub data Kind (h : Head) (operand : Parts) (value : ℕ) : Type 0 where
    exports : (from n z : ℕ) → h.operands ≡ ref from (Num n) [] z ∷ [] → h.export ≡ some value → operand ≡ as_parts (Ref from (Num n) 0 z) → (h.code ≡ 9 → from ≡ 10) → Kind h operand value
    leads : (space d n z : ℕ) → h.operands ≡ outer space (Num d) (Num n) z ∷ [] → operand ≡ as_parts (Outer space (Num d) (Num n) z) → value ≡ name_out (here ∷ outside) space d n → h.code ≡ 11 → Kind h operand value

  abbrev pub seen : (size start : ℕ) → Head → Declaration → (number : ℕ) → Parts → (value : ℕ) → Alias
  seen size start h d number operand value =
      record {
        size = size;
        start = start;
        field = as_parts (Field h.code h.builtin h.z);
        decl = as_parts (Decl d.space d.name d.z);
        number = number;
        operand = operand;
        value = value;
      }

  -- `xs` are its rows, the last first
  pub record Shown (h : Head) (xs : List Noted) : Type 0 where
    pub decl : Declaration
    pub alone_is : h.decls ≡ decl ∷ []
    pub number : ℕ
    pub numbered : (m : ℕ) → is_number (find here decl.space decl.name) m ≡ eqb number m
    pub operand : Parts
    pub value : ℕ
    pub kind : Kind h operand value
    pub size : ℕ
    pub long : length xs ≡ suc size
    pub sees : (l : List Noted) → 0 < length l → alias_before_t (xs ++ l) ≡ seen (suc size) (length l) h decl number operand value

  abbrev pub seen_at : {h : Head} {xs : List Noted} → Shown h xs → (start : ℕ) → Alias
  seen_at {h} s start = seen (suc s.size) start h s.decl s.number s.operand s.value

  pub shown_rest : {h : Head} {xs : List Noted} (s : Shown h xs) (l : List Noted) → drop (suc s.size) (xs ++ l) ≡ l
  shown_rest {h} {xs} s l = drop_at xs l (suc s.size) s.long

  -- ---- the tests

  is_linked : {a b : Head} {xs ys : List Noted} (A : Shown a xs) (B : Shown b ys) (m n : ℕ) → is_linked_t (seen_at A m) (seen_at B n) ≡ links here outside a b
  unfolding links first_decl first_operand stands_on digits as_parts encode flag number
  is_linked {a} {b} A B m n = rw (ne_eqb (suc A.size) 0 (omega arith), A.alone_is) (go B.kind)
    where
      go : Kind b B.operand B.value
          → eqb a.code 9 && (eqb b.code 9 && (eqb A.decl.space 10 && (eqb a.z b.z && eqb A.number B.operand.x)))
          ≡ eqb a.code 9 && (eqb b.code 9 && (eqb A.decl.space 10 && (eqb a.z b.z && stands_on here outside A.decl.name (first_operand b.operands))))
      go (leads space d n z o p v c) = rw c
      go (exports from n z o e p t) = rw (o, p) (by (eqb b.code 9) (eqb A.decl.space 10) refl refl)
        where
          by : (u v : Bool) → eqb b.code 9 ≡ u → eqb A.decl.space 10 ≡ v
              → eqb a.code 9 && (u && (v && (eqb a.z b.z && eqb A.number n))) ≡ eqb a.code 9 && (u && (v && (eqb a.z b.z && is_number (find here from A.decl.name) n)))
          by false v eu ev = refl
          by true false eu ev = refl
          by true true eu ev =
              let f : from ≡ A.decl.space = t (eqb-true b.code 9 eu) ∙ sym (eqb-true A.decl.space 10 ev) in
              let same : is_number (find here from A.decl.name) n ≡ eqb A.number n = ap (λ (x : ℕ). is_number (find here x A.decl.name) n) f ∙ A.numbered n in
              rw same

  pub is_for_lem : {h : Head} {xs : List Noted} (s : Shown h xs) (m space n z : ℕ) → for_t (seen_at s m) (as_parts (Ref space (Num n) 0 z)) ≡ is_for here outside s.decl (ref space (Num n) [] z)
  unfolding is_for digits as_parts encode flag number
  is_for_lem s m space n z = rw (ne_eqb (suc s.size) 0 (omega arith)) (go (eqb s.decl.space space) refl)
    where
      go : (t : Bool) → eqb s.decl.space space ≡ t → t && (eqb s.decl.z z && eqb s.number n) ≡ t && (eqb s.decl.z z && is_number (find here space s.decl.name) n)
      go false t = refl
      go true t =
          let same : is_number (find here space s.decl.name) n ≡ eqb s.number n = ap (λ (x : ℕ). is_number (find here x s.decl.name) n) (sym (eqb-true s.decl.space space t)) ∙ s.numbered n in
          rw same

  -- ---- inserted fields that stand one behind the other, the last first, behind rows that are not inserted fields

  pub data Waits (before : List Noted) : List Head → List Noted → Type 0 where
    all : Waits before [] before
    more : {h : Head} {xs : List Noted} {hs : List Head} {l : List Noted} → Shown h xs → Waits before hs l → Waits before (h ∷ hs) (xs ++ l)

  -- no more of them than rows
  pub fewer : {before : List Noted} {hs : List Head} {l : List Noted} → Waits before hs l → length hs ≤ length l
  fewer all = omega arith
  fewer (more {xs = xs} {l = l} s w) = let e = s.long in let f = fewer w in omega (arith, length-append xs l)

  -- and the rows before them are among these
  pub fuller : {before : List Noted} {hs : List Head} {l : List Noted} → Waits before hs l → length before ≤ length l
  fuller all = omega arith
  fuller (more {xs = xs} {l = l} s w) = let f = fuller w in omega (arith, length-append xs l)

  -- The last of these fields, and those before it that it goes on with, are one group: what is written for it, and which fields are left.
  pub record Restores (before : List Noted) (hs tail : List Head) (d : Declaration) (f : Wrote → Out Rest (List ℕ)) : Type 0 where
    pub hs' : List Head
    pub l' : List Noted
    pub waits : Waits before hs' l'
    pub less : length hs' ≤ length hs
    pub group : Group
    pub is : groups here outside (reverse hs ++ tail) ≡ groups here outside (reverse hs') ++ (group ∷ [])
    pub decl_is : group.decl ≡ d
    pub writes : (w : Wrote) → f w ≡ leaves (put_rows (operand_row group.was) w) l'

  -- a path so far: `ps` are its exports, `n` is the number of the instance where it starts
  ending : (last first : Alias) (l : List Noted) (n : ℕ) (ps : List ℕ) → first.operand.x ≡ n → (w : Wrote)
      → wrote_then (put_rows (path_rows ps) w) (λ to out. leaves (begin_t last first (length ps) to out) l) ≡ leaves (put_rows (operand_row (ref last.decl.b (Num n) ps last.operand.z)) w) l
  unfolding operand_row put_rows
  ending last first l n ps e w =
      let row = Ref last.decl.b (Num n) (length ps) last.operand.z in
      then_same (put_rows (path_rows ps) w) _ (λ to out. leaves (put_one row (to & out)) l) (λ to out. rw e (ap (λ (v : Wrote). leaves v l) (put_ref last.decl.b n (length ps) last.operand.z to out)))
      ∙ then_is (put_rows (path_rows ps) w) (λ (v : Wrote). leaves (put_one row v) l)

  not_linked_none : (a b : Alias) → a.size ≡ 0 → is_linked_t a b ≡ false
  not_linked_none a b e = rw e

  path_stops : (turns : ℕ) (last first : Alias) (l : List Noted) (count to : ℕ) (out : List ℕ) → is_linked_t (alias_before_t l) first ≡ false → path_t turns last first l count to out ≡ leaves (begin_t last first count to out) l
  unfolding path_t pick
  path_stops zero last first l count to out e = refl
  path_stops (suc turns) last first l count to out e = rw e

  stops : {before : List Noted} {hs tail : List Head} {l : List Noted} (turns : ℕ) (last first : Alias) (n : ℕ) (ps : List ℕ) (g : Group) → Waits before hs l → first.operand.x ≡ n
      → g.was ≡ ref last.decl.b (Num n) ps last.operand.z → is_linked_t (alias_before_t l) first ≡ false → groups here outside (reverse hs ++ tail) ≡ groups here outside (reverse hs) ++ (g ∷ [])
      → Restores before hs tail g.decl (λ w. wrote_then (put_rows (path_rows ps) w) (λ to out. path_t turns last first l (length ps) to out))
  stops {before} {hs} {tail} {l} turns last first n ps g W e was apart is =
      record {
        hs' = hs;
        l' = l;
        waits = W;
        less = omega arith;
        group = g;
        is = is;
        decl_is = refl;
        writes = λ w.
            then_same (put_rows (path_rows ps) w) _ _ (λ to out. path_stops turns last first l (length ps) to out apart)
            ∙ ending last first l n ps e w ∙ rw was;
      }

  -- one export more before it
  goes_on_lem : (turns : ℕ) (last first a : Alias) (l l₀ : List Noted) (ps : List ℕ) → alias_before_t l ≡ a → drop a.size l ≡ l₀ → is_linked_t a first ≡ true → length ps + 1 < 4294967296 → (w : Wrote)
      → wrote_then (put_rows (path_rows ps) w) (λ to out. path_t (suc turns) last first l (length ps) to out) ≡ wrote_then (put_rows (path_rows (a.value ∷ ps)) w) (λ to out. path_t turns last a l₀ (length (a.value ∷ ps)) to out)
  unfolding path_t path_rows put_rows pick
  goes_on_lem turns last first a l l₀ ps s d t b w =
      let n : (length ps + 1) % 4294967296 ≡ suc (length ps) = omega arith in
      let f : ℕ → List ℕ → Out Rest (List ℕ) = λ to out. path_t turns last a l₀ (suc (length ps)) to out in
      then_same (put_rows (path_rows ps) w) _ (λ to out. wrote_then (put_one (Path a.value) (to & out)) f)
      (λ to out. rw (s, t, d, n) (ap (λ (v : Wrote). wrote_then v f) (put_path a.value to out)))
      ∙ then_is (put_rows (path_rows ps) w) (λ (v : Wrote). wrote_then (put_one (Path a.value) v) f)

  on_with : {before : List Noted} {hs tail : List Head} {a : Head} {d : Declaration} (f f' : Wrote → Out Rest (List ℕ)) → ((w : Wrote) → f w ≡ f' w) → Restores before hs (a ∷ tail) d f' → Restores before (a ∷ hs) tail d f
  on_with {before} {hs} {tail} {a} {d} f f' e R =
      record {
        hs' = R.hs';
        l' = R.l';
        waits = R.waits;
        less = let n = R.less in omega arith;
        group = R.group;
        is = ap (groups here outside) (shifted here outside hs a tail) ∙ R.is;
        decl_is = R.decl_is;
        writes = λ w. e w ∙ R.writes w;
      }

  -- an export's alias that another goes on with
  exported : {a : Head} {operand : Parts} {value : ℕ} → Kind a operand value → a.code ≡ 9 → (sp : ℕ) (at : Index) (ps : List ℕ) (z : ℕ) → lengthened a (ref sp at ps z) ≡ ref sp (Num operand.x) (value ∷ ps) z
  unfolding lengthened first_operand index_of or_zero as_parts encode flag number
  exported (exports from n z₀ o x p t) c sp at ps z = rw (o, x, p)
  exported (leads space d n z₀ o p v e) c sp at ps z = absurd (omega arith)

  linked_nine : (a b : Head) → links here outside a b ≡ true → a.code ≡ 9
  unfolding links
  linked_nine a b e = eqb-true a.code 9 (and_left (eqb a.code 9) _ e)

  module _ (before : List Noted) (nothing : (alias_before_t before).size ≡ 0) (some_before : 0 < length before) where
    pub behind : {hs : List Head} {l : List Noted} → Waits before hs l → 0 < length l
    behind W = let f = fuller W in omega arith

    path : {hs tail : List Head} {l : List Noted} (W : Waits before hs l) (turns : ℕ) (last : Alias) {b : Head} {ys : List Noted} (B : Shown b ys) (m : ℕ) (ps : List ℕ) (g : Group) → length hs ≤ turns
        → length ps + length hs < 4294967296 → groups here outside (b ∷ tail) ≡ g ∷ [] → g.was ≡ ref last.decl.b (Num B.operand.x) ps last.operand.z
        → Restores before hs (b ∷ tail) g.decl (λ w. wrote_then (put_rows (path_rows ps) w) (λ to out. path_t turns last (seen_at B m) l (length ps) to out))
    path all turns last {b} B m ps g f c one was =
        stops turns last (seen_at B m) B.operand.x ps g all refl was (not_linked_none (alias_before_t before) (seen_at B m) nothing) (one ∙ rw (no_groups here outside))
    path (more {h = a} {xs = xs} {hs = hs} {l = l} A W) zero last B m ps g f c one was = absurd (omega arith)
    path {tail = tail} (more {h = a} {xs = xs} {hs = hs} {l = l} A W) (suc turns) last {b} B m ps g f c one was =
        go (links here outside a b) refl
        (λ e. path W turns last A (length l) (A.value ∷ ps) (record { decl = g.decl; was = lengthened a g.was }) (omega arith) (omega arith) (joined here outside a b tail g e one)
        (ap (lengthened a) was ∙ exported A.kind (linked_nine a b e) last.decl.b (Num B.operand.x) ps last.operand.z))
      where
        onward : Wrote → Out Rest (List ℕ)
        onward w = wrote_then (put_rows (path_rows (A.value ∷ ps)) w) (λ to out. path_t turns last (seen_at A (length l)) l (suc (length ps)) to out)

        go : (t : Bool) → links here outside a b ≡ t → (links here outside a b ≡ true → Restores before hs (a ∷ (b ∷ tail)) g.decl onward)
            → Restores before (a ∷ hs) (b ∷ tail) g.decl (λ w. wrote_then (put_rows (path_rows ps) w) (λ to out. path_t (suc turns) last (seen_at B m) (xs ++ l) (length ps) to out))
        go false e below =
            stops (suc turns) last (seen_at B m) B.operand.x ps g (more A W) refl was (rw (A.sees l (behind W)) (is_linked A B (length l) m ∙ e)) (parted here outside hs a b tail g e one)
        go true e below =
            on_with _ onward (goes_on_lem turns last (seen_at B m) (seen_at A (length l)) (xs ++ l) l ps (A.sees l (behind W)) (shown_rest A l) (is_linked A B (length l) m ∙ e) (omega arith)) (below e)

    -- ---- the last of the fields

    no_link : (a b : Head) → b.code ≡ 11 → links here outside a b ≡ false
    unfolding links
    no_link a b c = rw (c, and-false (eqb a.code 9))

    apart : {hs : List Head} {l : List Noted} (b : Head) → Waits before hs l → b.code ≡ 11 → groups here outside (reverse hs ++ (b ∷ [])) ≡ groups here outside (reverse hs) ++ (alone here outside b ∷ [])
    apart b all c = lone here outside b ∙ rw (no_groups here outside)
    apart b (more {h = a} {hs = hs} A W) c = parted here outside hs a b [] (alone here outside b) (no_link a b c) (lone here outside b)

    decl_of_lem : {h : Head} {xs : List Noted} (A : Shown h xs) → (alone here outside h).decl ≡ A.decl
    unfolding alone first_decl
    decl_of_lem A = rw A.alone_is

    named_was : (h : Head) (space d n z value : ℕ) → h.operands ≡ outer space (Num d) (Num n) z ∷ [] → value ≡ name_out (here ∷ outside) space d n → operand_row (alone here outside h).was ≡ Ref space (Id value) 0 z ∷ []
    unfolding alone served first_operand digits operand_row path_rows
    named_was h space d n z value o v = rw (o, v)

    path_was : (h : Head) (d : Declaration) (from n z value : ℕ) → h.decls ≡ d ∷ [] → h.operands ≡ ref from (Num n) [] z ∷ [] → h.export ≡ some value → (alone here outside h).was ≡ ref d.space (Num n) (value ∷ []) z
    unfolding alone served first_operand first_decl or_zero
    path_was h d from n z value a o x = rw (a, o, x)

    restores_name : (a : Alias) (space d n z : ℕ) → a.operand ≡ as_parts (Outer space (Num d) (Num n) z) → (l : List Noted) (to : ℕ) (out : List ℕ) → restore_ref_t a l to out ≡ leaves (put_one (Ref space (Id a.value) 0 z) (to & out)) l
    unfolding restore_ref_t as_parts encode flag number pick
    restores_name a space d n z e l to out = rw e (ap (λ (v : Wrote). leaves v l) (put_name space a.value z to out))

    restores_path : (a : Alias) (from n z : ℕ) → a.operand ≡ as_parts (Ref from (Num n) 0 z) → (l : List Noted) (to : ℕ) (out : List ℕ)
        → restore_ref_t a l to out ≡ wrote_then (put_one (Path a.value) (to & out)) (λ to' out'. path_t a.start a a l 1 to' out')
    unfolding restore_ref_t pick
    restores_path a from n z e l to out =
        let other : eqb a.operand.code 5 ≡ false = unfold as_parts encode in rw e in
        rw other (ap (λ (v : Wrote). wrote_then v (λ to' out'. path_t a.start a a l 1 to' out')) (put_path a.value to out))

    same_restored : {hs tail : List Head} {d d' : Declaration} (f f' : Wrote → Out Rest (List ℕ)) → ((w : Wrote) → f w ≡ f' w) → d' ≡ d → Restores before hs tail d' f' → Restores before hs tail d f
    same_restored f f' e q R =
        record { hs' = R.hs'; l' = R.l'; waits = R.waits; less = R.less; group = R.group; is = R.is; decl_is = R.decl_is ∙ q; writes = λ w. e w ∙ R.writes w }

    first_path : (value : ℕ) (w : Wrote) (f : ℕ → List ℕ → Out Rest (List ℕ)) → wrote_then w (λ to out. wrote_then (put_one (Path value) (to & out)) f) ≡ wrote_then (put_rows (path_rows (value ∷ [])) w) f
    unfolding put_rows path_rows
    first_path value w f = then_is w (λ (v : Wrote). wrote_then (put_one (Path value) v) f)

    one_row : (r : Row) (w : Wrote) (l : List Noted) → wrote_then w (λ to out. leaves (put_one r (to & out)) l) ≡ leaves (put_rows (r ∷ []) w) l
    unfolding put_rows
    one_row r w l = then_is w (λ (v : Wrote). leaves (put_one r v) l)

    last_was : (h : Head) (size start : ℕ) (d : Declaration) (number value from n z : ℕ) (operand : Parts) → h.decls ≡ d ∷ [] → h.operands ≡ ref from (Num n) [] z ∷ [] → h.export ≡ some value → operand ≡ as_parts (Ref from (Num n) 0 z)
        → let a = seen size start h d number operand value in (alone here outside h).was ≡ ref a.decl.b (Num operand.x) (value ∷ []) operand.z
    unfolding as_parts encode flag number
    last_was h size start d number value from n z operand a o x p = path_was h d from n z value a o x ∙ rw p

    -- THE REFERENCE that the last field served: what is written for it is the group's, and the fields before its group are left.
    pub restored : {h : Head} {xs : List Noted} {hs : List Head} {l : List Noted} (A : Shown h xs) → Waits before hs l → length hs < 4294967295
        → Restores before hs (h ∷ []) A.decl (λ w. wrote_then w (λ to out. restore_ref_t (seen_at A (length l)) l to out))
    restored {h} {xs} {hs} {l} A W small = go A.kind
      where
        go : Kind h A.operand A.value → Restores before hs (h ∷ []) A.decl (λ w. wrote_then w (λ to out. restore_ref_t (seen_at A (length l)) l to out))
        go (leads space d n z o p v c) =
            record {
              hs' = hs;
              l' = l;
              waits = W;
              less = omega arith;
              group = alone here outside h;
              is = apart h W c;
              decl_is = decl_of_lem A;
              writes = λ w. then_same w _ (λ to out. leaves (put_one (Ref space (Id A.value) 0 z) (to & out)) l) (λ to out. restores_name (seen_at A (length l)) space d n z p l to out) ∙ one_row (Ref space (Id A.value) 0 z) w l
                  ∙ rw (named_was h space d n z A.value o v);
            }
        go (exports from n z o x p t) =
            let few = fewer W in
            same_restored _ (λ w. wrote_then (put_rows (path_rows (A.value ∷ [])) w) (λ to out. path_t (length l) (seen_at A (length l)) (seen_at A (length l)) l 1 to out))
            (λ w. then_same w _ (λ to out. wrote_then (put_one (Path A.value) (to & out)) (λ to' out'. path_t (length l) (seen_at A (length l)) (seen_at A (length l)) l 1 to' out'))
            (λ to out. restores_path (seen_at A (length l)) from n z p l to out) ∙ first_path A.value w (λ to out. path_t (length l) (seen_at A (length l)) (seen_at A (length l)) l 1 to out))
            (decl_of_lem A)
            (path W (length l) (seen_at A (length l)) A (length l) (A.value ∷ []) (alone here outside h) few (omega arith) (lone here outside h)
            (last_was h (suc A.size) (length l) A.decl A.number A.value from n z A.operand A.alone_is o x p))
