-- The rows of an accepted run's output can be written: their numbers and names fit a row.
use Rattle.std.specs.Prelude.{◌≡◌, Bool}
use Rattle.std.proofs.Math.Path.{refl}
use Rattle.std.proofs.Math.Option.{Option, none, some, map}
use mathlib.Core.List.{List, [], ◌∷◌, ◌++◌}
use Prim.Native.Nat.{ℕ, zero, suc, ◌+◌, ◌^◌, ◌≤◌, ◌<◌}
use native.Mathlib.Omega.{arith}
use Rattle.std.proofs.Math.ListN.{length-map, length, length-append}
use Rattle.rules.specs.Tools.{◌or_else◌}
use Rattle.rules.specs.Versions.{RuleSet}
use Rattle.rules.specs.Rows.{Index, Num, Id, Row, Field, Decl, Ref, Path, Outer, Export, Close, encode, flag, number}
use Rattle.rules.specs.Tree.{Declaration, Operand, ref, outer, case, Head, Scope, scope, Fields, end, ◌▸◌, Item, plain, holds, head_of, with_operands, decl_rows, path_rows, operand_row, operand_rows, export_rows, head_rows, flatten, fields_rows, item_rows}
use Rattle.rules.specs.Rules
use Rattle.rules.specs.Rules.{opened, table_of, decls_in, Entry, Result, ok, ◌>>=◌, Env, Outside, onward, at_root, inward, fresh, find, walk, named, nth, number_in, Expanded, expand_operand, expand_operands, expand_head, path_aliases, export_alias, outer_alias, resolve_operands, resolve_head, resolve_inserted, resolve_scope, resolve_fields, resolve_item, ◌before◌, resolve_inside}
use Rattle.rules.specs.Laws.ToolLaws.{Ok, ok_map, All, done, ◌&◌, all_append, all_left, all_right}
use Rattle.rules.specs.Laws.RowLaws.{Written, LegalIndex}
use Rattle.rules.specs.Laws.Entries.{number_is}
use Rattle.rules.specs.Laws.Results.{bind_any, OkR, bind_ok, if_both, holds_of}
use Rattle.rules.proofs.Laws.Output.FourTimes.{inner, head_length, paths_length}
use Rattle.rules.proofs.Laws.Output.Counts.{own, deep, scope_split, operand_counts, head_counts, prepare_counts}

-- the highest name of an output
abbrev pub out_name : ℕ
out_name = 4294967295

abbrev Fit : Row → Type 0
Fit row = Written out_name row

pub record IndexFits (i : Index) : Type 0 where
  pub low : number i < 2 ^ 32
  pub legal : LegalIndex out_name i

flag_low : (i : Index) → flag i ≤ 1
unfolding flag
flag_low (Num n) = omega arith
flag_low (Id n) = omega arith

number_fits : (n : ℕ) → n < 2 ^ 32 → IndexFits (Num n)
unfolding number
number_fits n h = record { low = h; legal = tt }

pub fresh_fits : (k : ℕ) → k < 2147483648 → IndexFits (Id (fresh k))
unfolding number fresh
fresh_fits k h = record { low = omega arith; legal = (omega arith, omega arith) }

field_fit : (code z : ℕ) → code < 256 → z < 2 ^ 32 → Fit (Field code 0 z)
unfolding encode
field_fit code z c h = record { fits = omega arith; legal = tt }

decl_fit : (space k z : ℕ) → space < 256 → k < 2147483648 → z < 2 ^ 32 → Fit (Decl space (fresh k) z)
unfolding encode fresh
decl_fit space k z s h t = record { fits = omega arith; legal = omega arith }

pub ref_fit : (space : ℕ) (at : Index) (paths z : ℕ) → space < 256 → IndexFits at → paths < 2 ^ 32 → z < 2 ^ 32 → Fit (Ref space at paths z)
unfolding encode
ref_fit space at paths z s i q t = record { fits = omega (arith, flag_low at, i.low); legal = i.legal }

outer_fit : (space d n z : ℕ) → space < 256 → d < 2 ^ 32 → n < 2 ^ 32 → z < 2 ^ 32 → Fit (Outer space (Num d) (Num n) z)
unfolding encode flag number
outer_fit space d n z s h i t = record { fits = omega arith; legal = (tt, tt) }

export_fit : (name : ℕ) → name < 2 ^ 32 → Fit (Export name)
unfolding encode
export_fit name h = record { fits = omega arith; legal = tt }

-- the parts of a row that fits
pub record RefParts (space : ℕ) (at : Index) (paths z : ℕ) : Type 0 where
  pub space_low : space < 256
  pub at_fits : IndexFits at
  pub paths_low : paths < 2 ^ 32
  pub z_low : z < 2 ^ 32

pub ref_parts : (space : ℕ) (at : Index) (paths z : ℕ) → Fit (Ref space at paths z) → RefParts space at paths z
unfolding encode
ref_parts space at paths z h =
    record { space_low = h.fits.b_fits; at_fits = record { low = h.fits.x_fits; legal = h.legal }; paths_low = h.fits.y_fits; z_low = h.fits.z_fits }

record OuterParts (space : ℕ) (up at : Index) (z : ℕ) : Type 0 where
  space_low : space < 256
  up_low : number up < 2 ^ 32
  at_low : number at < 2 ^ 32
  z_low : z < 2 ^ 32

outer_parts : (space : ℕ) (up at : Index) (z : ℕ) → Fit (Outer space up at z) → OuterParts space up at z
unfolding encode
outer_parts space up at z h = record { space_low = h.fits.b_fits; up_low = h.fits.x_fits; at_low = h.fits.y_fits; z_low = h.fits.z_fits }

path_low : (p : ℕ) → Fit (Path p) → p < 2 ^ 32
unfolding encode
path_low p h = h.fits.x_fits

-- ---- inserted fields

abbrev HeadsFit : List Head → Type 0
HeadsFit [] = Unit {0}
HeadsFit (h ∷ hs) = All Fit (head_rows h) × HeadsFit hs

heads_append : (xs ys : List Head) → HeadsFit xs → HeadsFit ys → HeadsFit (xs ++ ys)
heads_append [] ys p q = q
heads_append (x ∷ xs) ys p q = (p.0, heads_append xs ys p.1 q)

export_alias_lem : (code space k from : ℕ) (at : Index) (name z : ℕ) → code < 256 → space < 256 → k < 2147483648 → from < 256 → IndexFits at → name < 2 ^ 32 → z < 2 ^ 32
    → All Fit (head_rows (export_alias code space (fresh k) from at name z))
unfolding export_alias head_rows decl_rows operand_rows operand_row path_rows export_rows
export_alias_lem code space k from at name z c s h f i n t =
    field_fit code z c t & decl_fit space k z s h t & ref_fit from at 0 z f i (omega arith) t & export_fit name n & done

outer_alias_lem : (space k d n z : ℕ) → space < 256 → k < 2147483648 → d < 2 ^ 32 → n < 2 ^ 32 → z < 2 ^ 32 → All Fit (head_rows (outer_alias space (fresh k) d n z))
unfolding outer_alias head_rows decl_rows operand_rows operand_row export_rows
outer_alias_lem space k d n z s h i j t = field_fit 11 z (omega arith) t & decl_fit space k z s h t & outer_fit space d n z s i j t & done

aliases_fit : (space : ℕ) (at : Index) (p : ℕ) (ps : List ℕ) (z k : ℕ) → space < 256 → IndexFits at → z < 2 ^ 32 → All Fit (path_rows (p ∷ ps))
    → k + length ps < 2147483648 → HeadsFit (path_aliases space at p ps z k)
unfolding path_aliases path_rows
aliases_fit space at p [] z k s i t (h & a) low = (
  if_both (λ (x : Head). All Fit (head_rows x)) _ _ _
      (export_alias_lem 10 space k 6 at p z (omega arith) s (omega arith) (omega arith) i (path_low p h) t)
      (export_alias_lem 9 space k 10 at p z (omega arith) s (omega arith) (omega arith) i (path_low p h) t),
  tt,
)
aliases_fit space at p (q ∷ ps) z k s i t (h & a) low = (
  export_alias_lem 9 10 k 10 at p z (omega arith) (omega arith) (omega arith) (omega arith) i (path_low p h) t,
  aliases_fit space (Id (fresh k)) q ps z (suc k) s (fresh_fits k (omega arith)) t a (omega arith),
)

-- ---- lookups

find_low : (ds : List Declaration) (space name : ℕ) → Ok (λ n. n < length ds) (find ds space name)
unfolding find
find_low [] space name = tt
find_low (d ∷ ds) space name =
    if_both (Ok _) _ _ _ (if_both (Ok _) _ _ _ (omega arith) (one_on_lem (find ds space name) (find_low ds space name)))
    (ok_map _ _ (find ds space name) (λ n h. omega arith) (find_low ds space name))
  where
    one_on_lem : (o : Option ℕ) → Ok (λ n. n < length ds) o → Ok (λ n. n < suc (length ds)) (map suc o)
    one_on_lem none h = tt
    one_on_lem (some n) h = omega arith

named_low : (es : List Env) (name : ℕ) → Ok (λ n. n < length es) (named es name)
unfolding named
named_low [] name = tt
named_low (e ∷ es) name = if_both (Ok _) _ _ _ (omega arith) (one_on_lem (named es name) (named_low es name))
  where
    one_on_lem : (o : Option ℕ) → Ok (λ n. n < length es) o → Ok (λ n. n < suc (length es)) (map suc o)
    one_on_lem none h = tt
    one_on_lem (some n) h = omega arith

refused_or : {A : Type 0} (P : A → Type 0) (o : Option A) (n : Rules.Refusal) (z : ℕ) → Ok P o → OkR P (Rules.or_refused o n z)
unfolding Rules.or_refused
refused_or P none n z h = tt
refused_or P (some a) n z h = h

or_else_lem : {A : Type 0} (P : A → Type 0) (a b : Option A) → Ok P a → Ok P b → Ok P (a or_else b)
unfolding ◌or_else◌
or_else_lem P none b h g = g
or_else_lem P (some a) b h g = h

bind_both : {A B : Type 0} (P Q : A → Type 0) (R : B → Type 0) (m : Result A) (f : A → Result B) → OkR P m → OkR Q m → ((a : A) → P a → Q a → OkR R (f a)) → OkR R (m >>= f)
unfolding ◌>>=◌
bind_both P Q R (Result.refused n z) f p q g = tt
bind_both P Q R (ok a) f p q g = g a p q

-- ---- a run whose numbers stay below a bound

module _ (N : ℕ) (small : N < 2147483648) where
  abbrev Tables : List Env → Type 0
  Tables es = All (λ e. length e.entries ≤ N) es

  walk_low : (es : List Env) (d space name : ℕ) → Tables es → Ok (λ (x : ℕ × ℕ). (x.0 < d + length es) × (x.1 < N)) (walk es d space name)
  unfolding walk
  walk_low [] d space name t = tt
  walk_low (e ∷ es) d space name (h & t) =
      or_else_lem _ _ _ (this (find (table_of e) space name) (rw (length-map e.entries (λ (x : Entry). x.decl)) at (find_low (table_of e) space name)))
      (ok_map _ _ (walk es (suc d) space name) (λ (x : ℕ × ℕ) g. (omega (arith, g.0), g.1)) (walk_low es (suc d) space name t))
    where
      this : (o : Option ℕ) → Ok (λ n. n < length e.entries) o → Ok (λ (x : ℕ × ℕ). (x.0 < d + length (e ∷ es)) × (x.1 < N)) (map {B = ℕ × ℕ} (λ n. (d, n)) o)
      this none g = tt
      this (some n) g = (omega arith, omega arith)

  nth_low : (es : List Env) (d : ℕ) → Tables es → Ok (λ e. length e.entries ≤ N) (nth es d)
  unfolding nth
  nth_low [] d t = tt
  nth_low (e ∷ es) zero (h & t) = h
  nth_low (e ∷ es) (suc d) (h & t) = nth_low es d t

  number_low : (es : List Entry) (space : ℕ) (at : Index) (z : ℕ) → length es ≤ N → number at < 2 ^ 32 → OkR (λ n. n < 2 ^ 32) (number_in es space at z)
  unfolding number
  number_low es space (Num n) z l h = unfold number_in in h
  number_low es space (Id name) z l h = rw (number_is es space name z) (refused_or _ _ (Rules.unknown space) z (ok_map _ _ (find (decls_in es) space name) (λ n g. omega (arith, length-map es (λ (x : Entry). x.decl))) (find_low (decls_in es) space name)))

  -- ---- step B

  abbrev Made : {A : Type 0} → (A → List Row) → Expanded A → Type 0
  Made rows e = All Fit (rows e.now) × HeadsFit e.inserted

  found_made : (space name z k : ℕ) (o : Option (ℕ × ℕ)) → RefParts space (Id name) 0 z → k < N → Ok (λ (x : ℕ × ℕ). (x.0 < 2 ^ 32) × (x.1 < 2 ^ 32)) o
      → OkR (Made operand_row) (Rules.found_at space name z k o)
  unfolding Rules.found_at Rules.through Rules.as_it_is operand_row path_rows
  found_made space name z k none h low g = (ref_fit space (Id name) 0 z h.space_low h.at_fits (omega arith) h.z_low & done, tt)
  found_made space name z k (some at) h low g =
      if_both (OkR _) _ _ _ (
        ref_fit space (Id (fresh k)) 0 z h.space_low (fresh_fits k (omega arith)) (omega arith) h.z_low & done,
        (outer_alias_lem space k at.0 at.1 z h.space_low (omega arith) g.0 g.1 h.z_low, tt),
      ) tt

  module _ (here : List Declaration) (outside : Outside) (t : Tables outside.scopes) (few : length outside.scopes ≤ N) where
    operand_made : (k : ℕ) (o : Operand) → All Fit (operand_row o) → k + length (operand_row o) ≤ N → OkR (Made operand_row) (expand_operand here outside k o)
    unfolding expand_operand Rules.through Rules.as_it_is operand_row path_rows
    operand_made k (ref space (Num n) [] z) a low = (a, tt)
    operand_made k (ref space (Id name) [] z) (h & a) low =
        bind_any _ _ _ (λ u. if_both (OkR _) _ _ _ (h & a, tt)
        (found_made space name z k _ (ref_parts space (Id name) 0 z h) (omega arith)
        (ok_map _ _ (walk outside.scopes 1 space name) (λ (x : ℕ × ℕ) g. (omega (arith, g.0), omega (arith, g.1))) (walk_low outside.scopes 1 space name t))))
    operand_made k (ref space at (p ∷ ps) z) (h & a) low =
        let r = ref_parts space at (length (p ∷ ps)) z h in
        if_both (OkR _) _ _ _ tt (
          ref_fit space (Id (fresh (k + length ps))) 0 z r.space_low (fresh_fits (k + length ps) (omega (arith, paths_length (p ∷ ps)))) (omega arith) r.z_low & done,
          aliases_fit space at p ps z k r.space_low r.at_fits r.z_low a (omega (arith, paths_length (p ∷ ps))),
        )
    operand_made k (outer space up at z) a low = (a, tt)
    operand_made k (case name z) a low = (a, tt)

    operands_made : (k : ℕ) (os : List Operand) → All Fit (operand_rows os) → k + length (operand_rows os) ≤ N → OkR (Made operand_rows) (expand_operands here outside k os)
    unfolding expand_operands operand_rows Rules.as_it_is
    operands_made k [] a low = (done, tt)
    operands_made k (o ∷ os) a low =
        let n = length-append (operand_row o) (operand_rows os) in
        bind_both _ _ _ _ _ (operand_made k o (all_left (operand_row o) (operand_rows os) a) (omega (arith, n))) (operand_counts here outside k o) (λ e f c.
        bind_ok _ _ _ _ (operands_made e.k os (all_right (operand_row o) (operand_rows os) a) (omega (arith, n, c.0))) (λ es g.
        (all_append (operand_row e.now) (operand_rows es.now) f.0 g.0, heads_append e.inserted es.inserted f.1 g.1)))

  own_operands : (h : Head) → All Fit (head_rows h) → All Fit (operand_rows h.operands)
  unfolding head_rows
  own_operands h (f & a) = all_left (operand_rows h.operands) _ (all_right (decl_rows h.decls) _ a)

  swap_operands : (h : Head) (os : List Operand) → All Fit (head_rows h) → All Fit (operand_rows os) → All Fit (head_rows (with_operands h os))
  unfolding head_rows with_operands
  swap_operands h os (f & a) b =
      f & all_append (decl_rows h.decls) _ (all_left (decl_rows h.decls) _ a)
      (all_append (operand_rows os) _ b (all_right (operand_rows h.operands) _ (all_right (decl_rows h.decls) _ a)))

  head_made : (here : List Declaration) (outside : Outside) → Tables outside.scopes → length outside.scopes ≤ N → (k : ℕ) (h : Head) → All Fit (head_rows h) → k + length (head_rows h) ≤ N
      → OkR (Made head_rows) (expand_head here outside k h)
  unfolding expand_head Rules.as_it_is
  head_made here outside t few k h a low =
      if_both (OkR _) _ _ _ (a, tt)
      (bind_ok _ _ _ _ (operands_made here outside t few k h.operands (own_operands h a) (omega (arith, head_length h)))
      (λ e f. (swap_operands h e.now a f.0, f.1)))

  -- ---- step C

  outer_made : (early : Bool) (es : List Env) (fz space : ℕ) (up at : Index) (z : ℕ) → Tables (es) → length (es) ≤ N → OuterParts space up at z
      → OkR (λ o. All Fit (operand_row o)) (Rules.outer_numbers early es fz space up at z)
  unfolding Rules.outer_numbers operand_row
  outer_made early es fz space up at z t few h =
      bind_ok _ _ _ _ (ups up h.up_low) (λ d l.
      bind_ok _ _ _ _ (refused_or _ _ Rules.too_far fz (nth_low (es) d t)) (λ e m. bind_any _ _ _ (λ u.
      bind_ok _ _ _ _ (number_low e.entries space at z m h.at_low) (λ n i. outer_fit space d n z h.space_low l i h.z_low & done))))
    where
      ups : (u : Index) → number u < 2 ^ 32 → OkR (λ n. n < 2 ^ 32) (Rules.up_number (es) u fz)
      ups (Num n) l = unfold Rules.up_number number in l
      ups (Id name) l = unfold Rules.up_number in refused_or _ _ Rules.no_such_scope fz (ok_map _ _ (named (es) name) (λ n g. omega arith) (named_low (es) name))

  outer_same : (early : Bool) (es : List Env) (fz space : ℕ) (up at : Index) (z : ℕ) → Tables (es) → length (es) ≤ N → Fit (Outer space up at z)
      → OkR (λ o. All Fit (operand_row o)) (Rules.resolve_outer early es fz space up at z)
  unfolding Rules.resolve_outer
  outer_same early es fz space (Num d) (Num n) z t few h = unfold operand_row in (h & done)
  outer_same early es fz space (Num d) (Id name) z t few h = outer_made early es fz space (Num d) (Id name) z t few (outer_parts _ _ _ _ h)
  outer_same early es fz space (Id name) at z t few h = outer_made early es fz space (Id name) at z t few (outer_parts _ _ _ _ h)

  module _ (here : Env) (outside : Outside) (t : Tables (opened here outside)) (own-table : length here.entries ≤ N) (few : length (opened here outside) ≤ N) where
    operands_same : (fz : ℕ) (seen : List ℕ) (os : List Operand) → All Fit (operand_rows os) → OkR (λ os'. All Fit (operand_rows os')) (resolve_operands here outside fz seen os)
    unfolding resolve_operands operand_rows operand_row
    operands_same fz seen [] a = done
    operands_same fz seen (ref space at paths z ∷ os) (h & a) =
        let r = ref_parts space at (length paths) z h in
        bind_ok _ _ _ _ (number_low here.entries space at z own-table r.at_fits.low) (λ n l.
        bind_ok _ _ _ _ (operands_same fz seen os (all_right (path_rows paths) (operand_rows os) a)) (λ os' b.
        ref_fit space (Num n) (length paths) z r.space_low (number_fits n l) r.paths_low r.z_low & all_append (path_rows paths) (operand_rows os') (all_left (path_rows paths) (operand_rows os) a) b))
    operands_same fz seen (outer space up at z ∷ os) (h & a) =
        bind_ok _ _ _ _ (outer_same outside.early (opened here outside) fz space up at z t few h) (λ o b.
        bind_ok _ _ _ _ (operands_same fz seen os a) (λ os' c. all_append (operand_row o) (operand_rows os') b c))
    operands_same fz seen (case name z ∷ os) (h & a) =
        if_both (OkR _) _ _ _ tt (bind_ok _ _ _ _ (operands_same fz (name ∷ seen) os a) (λ os' b. h & b))

    head_same : (h : Head) → All Fit (head_rows h) → OkR (λ h'. All Fit (head_rows h')) (resolve_head here outside h)
    unfolding resolve_head
    head_same h a = bind_ok _ _ _ _ (operands_same h.z [] h.operands (own_operands h a)) (λ os b. swap_operands h os a b)

    inserted_same : (hs : List Head) → HeadsFit hs → OkR HeadsFit (resolve_inserted here outside hs)
    unfolding resolve_inserted
    inserted_same [] a = tt
    inserted_same (h ∷ hs) a = bind_any _ _ _ (λ u. bind_ok _ _ _ _ (head_same h a.0) (λ h' b. bind_ok _ _ _ _ (inserted_same hs a.1) (λ hs' c. (b, c))))

  before_fit : (hs : List Head) (fs : Fields) → HeadsFit hs → All Fit (fields_rows fs) → All Fit (fields_rows (◌before◌ hs fs))
  unfolding ◌before◌ flatten
  before_fit [] fs a b = b
  before_fit (h ∷ hs) fs a b = all_append (head_rows h) (fields_rows (◌before◌ hs fs)) a.0 (before_fit hs fs a.1 b)

  -- ---- the whole walk

  item_own : (i : Item) → All Fit (item_rows i) → All Fit (head_rows (head_of i))
  unfolding flatten head_of
  item_own (plain h) a = a
  item_own (holds h s) a = all_left (head_rows h) (flatten s) a

  item_inner : (h : Head) (s : Scope) → All Fit (item_rows (holds h s)) → All Fit (flatten s)
  unfolding flatten
  item_inner h s a = all_right (head_rows h) (flatten s) a

  split_fields : (i : Item) (fs : Fields) → All Fit (fields_rows (i ▸ fs)) → All Fit (item_rows i) × All Fit (fields_rows fs)
  unfolding flatten
  split_fields i fs a = (all_left (item_rows i) (fields_rows fs) a, all_right (item_rows i) (fields_rows fs) a)

  join_fields : (i : Item) (fs : Fields) → All Fit (item_rows i) → All Fit (fields_rows fs) → All Fit (fields_rows (i ▸ fs))
  unfolding flatten
  join_fields i fs a b = all_append (item_rows i) (fields_rows fs) a b

  scope_fields : (kind name : ℕ) (fs : Fields) → All Fit (flatten (scope kind name fs)) → All Fit (fields_rows fs)
  unfolding flatten
  scope_fields kind name fs (h & a) = all_left (fields_rows fs) (Close ∷ []) a

  scope_again : (kind name : ℕ) (fs gs : Fields) → All Fit (flatten (scope kind name fs)) → All Fit (fields_rows gs) → All Fit (flatten (scope kind name gs))
  unfolding flatten
  scope_again kind name fs gs (h & a) b = h & all_append (fields_rows gs) (Close ∷ []) b (all_right (fields_rows fs) (Close ∷ []) a)

  no_fields : All Fit (fields_rows end)
  unfolding flatten
  no_fields = done

  plain_rows : (h : Head) → All Fit (head_rows h) → All Fit (item_rows (plain h))
  unfolding flatten
  plain_rows h a = a

  holds_rows : (h : Head) (s : Scope) → All Fit (head_rows h) → All Fit (flatten s) → All Fit (item_rows (holds h s))
  unfolding flatten
  holds_rows h s a b = all_append (head_rows h) (flatten s) a b

  no_deep : deep end ≡ 0
  unfolding deep
  no_deep = refl

  own_more : (i : Item) (fs : Fields) → own (i ▸ fs) ≡ length (head_rows (head_of i)) + own fs
  unfolding own
  own_more i fs = refl

  deep_more : (i : Item) (fs : Fields) → deep (i ▸ fs) ≡ inner i + deep fs
  unfolding deep
  deep_more i fs = refl

  inner_holds : (h : Head) (s : Scope) → inner (holds h s) ≡ length (flatten s)
  unfolding inner
  inner_holds h s = refl

  -- room for the numbers of a scope, of its fields: `b` and `k` as the steps have them
  record ScopeRoom (s : Scope) (outside : Outside) (k : ℕ) : Type 0 where
    numbers : k + length (flatten s) ≤ N
    levels : length outside.scopes + length (flatten s) ≤ N
    tables : Tables outside.scopes

  record FieldsRoom (fs : Fields) (here : Env) (outside : Outside) (b k : ℕ) : Type 0 where
    own_numbers : b + own fs ≤ N
    numbers : k + deep fs ≤ N
    levels : length (opened here outside) + deep fs ≤ N
    tables : Tables (opened here outside)
    table : length here.entries ≤ N

  first_of : (e : Env) (es : List Env) → Tables (e ∷ es) → Tables es
  first_of e es (h & t) = t

  mutual
    unfolding resolve_scope

    scope_fit : (s : Scope) (outside : Outside) (k : ℕ) → All Fit (flatten s) → ScopeRoom s outside k
        → OkR (λ r. All Fit (flatten r.0) × (r.1 ≤ k + length (flatten s))) (resolve_scope s outside k)
    scope_fit (scope kind name fs) outside k a room =
        let n = scope_split kind name fs in
        let low = room.numbers in
        let wide = room.levels in
        bind_ok _ _ _ _ (prepare_counts name fs outside k) (λ e c.
        let c₀ = c.0 in
        let c₁ = c.1 in
        let here-low : length e.0.entries ≤ N = omega arith in
        bind_ok _ _ _ _ (fields_fit fs _ e.0 outside k e.1 (scope_fields kind name fs a)
        (record { own_numbers = omega arith; numbers = omega arith; levels = omega arith; tables = here-low & room.tables; table = here-low }))
        (λ r f. (scope_again kind name fs r.0 a f.0, omega (arith, f.1))))

    fields_fit : (fs : Fields) (ds : List Declaration) (here : Env) (outside : Outside) (b k : ℕ) → All Fit (fields_rows fs) → FieldsRoom fs here outside b k
        → OkR (λ r. All Fit (fields_rows r.0) × (r.1 ≤ k + deep fs)) (resolve_fields fs ds here outside b k)
    fields_fit end ds here outside b k a room = (no_fields, omega (arith, no_deep))
    fields_fit (i ▸ fs) ds here outside b k a room =
        let s = split_fields i fs a in
        let o = own_more i fs in
        let d = deep_more i fs in
        let w = room.levels in
        let u = room.own_numbers in
        let v = room.numbers in
        bind_both _ _ _ _ _ (head_made ds outside (first_of _ outside.scopes room.tables) (omega arith) b (head_of i) (item_own i s.0) (omega arith)) (head_counts ds outside b (head_of i)) (λ e f c.
        let m = c.numbers in
        bind_ok _ _ _ _ (inserted_same here outside room.tables room.table (omega arith) e.inserted f.1) (λ new gn.
        bind_ok _ _ _ _ (head_same here outside room.tables room.table (omega arith) e.now f.0) (λ h gh.
        bind_ok _ _ _ _ (item_fit i h here outside k gh s.0 (omega arith) (omega arith) room.tables) (λ r g.
        let g₁ = g.1 in
        bind_ok _ _ _ _ (fields_fit fs ds here (onward i outside) e.k r.1 s.1
        (record { own_numbers = omega arith; numbers = omega arith; levels = omega arith; tables = room.table & first_of _ outside.scopes room.tables; table = room.table })) (λ rs q.
        (before_fit new (r.0 ▸ rs.0) gn (join_fields r.0 rs.0 g.0 q.0), omega (arith, q.1)))))))

    item_fit : (i : Item) (h : Head) (here : Env) (outside : Outside) (k : ℕ) → All Fit (head_rows h) → All Fit (item_rows i)
        → k + inner i ≤ N → length (opened here outside) + inner i ≤ N → Tables (opened here outside)
        → OkR (λ r. All Fit (item_rows r.0) × (r.1 ≤ k + inner i)) (resolve_item i h here outside k)
    item_fit (plain h₀) h here outside k a b low wide t = (plain_rows h a, omega arith)
    item_fit (holds h₀ s) h here outside k a b low wide t =
        let n = inner_holds h₀ s in
        bind_ok _ _ _ _ (scope_fit s (inward h₀ here outside) k (item_inner h₀ s b) (record { numbers = omega arith; levels = omega arith; tables = t })) (λ r f.
        (holds_rows h r.0 a f.0, omega (arith, f.1)))

-- The rows of an accepted tree that can be written give rows that can be written. `n` is a number of rows below 2147483648, which holds
-- those of the tree with the scopes around it, and the declarations of each of these.
pub out_fits : (n : ℕ) (rules : RuleSet) (around : List Env) (s : Scope) (r : Scope × ℕ) → n < 2147483648 → length around + length (flatten s) ≤ n
    → All (λ (e : Env). length e.entries ≤ n) around → All (Written out_name) (flatten s) → resolve_inside rules around s ≡ ok r → All (Written out_name) (flatten r.0)
out_fits n rules around s r small wide few a e =
    (holds_of (λ (x : Scope × ℕ). All (Written out_name) (flatten x.0) × (x.1 ≤ 0 + length (flatten s))) _ r
    (scope_fit n small s (at_root rules around) 0 a (record { numbers = omega arith; levels = omega arith; tables = few })) e).0
