-- What the rows of a declaration's field hold: whether its DECL is inserted, and the rows of an inserted field.
use Rattle.std.specs.Prelude.{◌≡◌, Bool, ◌||◌}
use Rattle.std.proofs.Math.Path.{refl, ap, subst}
use Rattle.std.proofs.Common.{sym, ◌∙◌}
use Rattle.std.proofs.Math.Bool.{true, false}
use Rattle.std.proofs.Math.Option.{Option, none, some}
use mathlib.Core.List.{List, [], ◌∷◌, ◌++◌, append_assoc}
use native.Mathlib.Omega.{arith}
use Prim.Native.Nat.{ℕ, zero, suc, ◌+◌, ◌<◌}
use Rattle.std.proofs.Math.Dec.{eqb}
use Rattle.std.proofs.Math.ListN.{length, length-append, get_elem?}
use Rattle.rules.specs.Tools.{when◌then◌else◌, ◌then◌}
use Rattle.rules.specs.Versions.{RuleSet}
use Rattle.rules.specs.Rows.{Row, Field, Open, Close, encode}
use Rattle.rules.specs.Tree.{Declaration, Operand, ref, outer, case, Head, Scope, scope, Fields, end, ◌▸◌, Item, plain, holds, head_of, flatten, fields_rows, item_rows, head_rows, decl_rows, path_rows, operand_row, operand_rows, export_rows}
use Rattle.rules.specs.Shapes.{declares, enough}
use Rattle.rules.specs.Good.{GoodHead, GoodScope, GoodFields, GoodItem}
use Rattle.rules.specs.Readings.{is_fresh, any_fresh, is_inserted, held, Spot, original, inserted, in_original, in_inserted}
use Rattle.rules.specs.Laws.ToolLaws.{All, done, ◌&◌, all_append, eqb-true}
use Rattle.rules.specs.Laws.Results.{some_same, no_option}
use Rattle.places.specs.PlaceRows.{Floor, floors_at, Located, in_rows, located}
use Rattle.places.proofs.RowAt.{decls_length}
use Rattle.places.proofs.RowsApart.{elem_lt}
use Rattle.row_parts.specs.Parts.{code_at}
use Rattle.scopes.specs.Scopes.{scope_above, scope_of}
use Rattle.reading_laws.specs.Stand.{At, code_part, behind_length, at_left, at_right}
use Rattle.reading_laws.specs.Even.{code_of, item_even, up_even}
use Rattle.reading_laws.specs.Everywhere.{of_floors}
use Rattle.reading_laws.specs.Outers.{NoOuter, JustOuter, alias_outer, others_none}

-- ---- good fields

module _ (rules : RuleSet) where
  pub good_head : (i : Item) (kind : ℕ) → GoodItem rules i kind → GoodHead rules kind (head_of i)
  unfolding head_of
  good_head (plain h) kind g = g.0
  good_head (holds h s) kind g = g.0

  -- an outer alias has one DECL
  pub one_decl : (h : Head) (kind : ℕ) → GoodHead rules kind h → h.code ≡ 11 → length h.decls ≡ 1
  unfolding declares enough
  one_decl h kind g e = eqb-true (length h.decls) 1 (subst (λ (c : ℕ). enough (declares c) (length h.decls) ≡ true) e g.enough_declared)

  -- the fields of a floor are good
  abbrev pub GoodOf : Fields → Type 0
  GoodOf fs = (kind : ℕ) × GoodFields rules fs kind

  good_held : (i : Item) (gs : Fields) → ((kind : ℕ) × GoodItem rules i kind) → held i ≡ some gs → GoodOf gs
  unfolding held
  good_held (plain h) gs g e = no_option gs e
  good_held (holds h (scope inner name fs)) gs g e = (inner, subst (λ (l : Fields). GoodFields rules l inner) (some_same fs gs e) g.1.3)

  pub floors_good : (s : Scope) (way : List ℕ) (fs : List Floor) → GoodScope rules s → floors_at s way ≡ some fs → All (λ (f : Floor). GoodOf f.level.fields) fs
  floors_good (scope kind name gs) way fs g e =
      of_floors GoodOf (λ (i : Item). (kind : ℕ) × GoodItem rules i kind) (λ i fs p. (p.0, p.1.0)) (λ i fs p. (p.0, p.1.1)) good_held (scope kind name gs) way fs (kind, g) e

-- ---- spots

-- `d` at row `r` is a declaration of the inserted field `h`, which stands in the scope that begins at `base`
pub record Inserted (form : List ℕ) (base : ℕ) (h : Head) (d : Declaration) (r : ℕ) : Type 0 where
  pub row : ℕ
  pub m : ℕ
  pub is_at : r ≡ suc (row + m)
  pub decl : get_elem? h.decls m ≡ some d
  pub new : is_inserted h ≡ true
  pub single : h.code ≡ 11 → length h.decls ≡ 1
  pub just : h.code ≡ 11 → JustOuter h.operands
  pub before_other : eqb h.code 11 ≡ false → eqb (code_at form (suc r)) 5 ≡ false
  pub own : At form row (head_rows h)
  pub around : scope_of form row ≡ base

abbrev pub SpotIs : (form : List ℕ) (base : ℕ) → Spot → Declaration → (r : ℕ) → Type 0
SpotIs form base (original field at) d r = is_fresh d.name ≡ false
SpotIs form base (inserted h) d r = Inserted form base h d r

pub or_none : (a b : Bool) → a || b ≡ false → (a ≡ false) × (b ≡ false)
or_none true b e = (e, go b e)
  where
    go : (b : Bool) → true ≡ false → b ≡ false
    go true e = e
    go false e = refl
or_none false b e = (refl, e)

-- the rows of a field without the scope that it may hold
pub own_rows_lem : (form : List ℕ) (row : ℕ) (i : Item) → At form row (item_rows i) → At form row (head_rows (head_of i))
unfolding flatten head_of
own_rows_lem form row (plain h) a = a
own_rows_lem form row (holds h s) a = at_left form row (head_rows h) (flatten s) a

fresh_none : (h : Head) → is_inserted h ≡ false → any_fresh h.decls ≡ false
unfolding is_inserted
fresh_none h e = e

-- ---- no OUTER behind the DECLs of another field

abbrev NotOuter : Row → Type 0
NotOuter r = eqb (code_of r) 5 ≡ false

decls_not : (ds : List Declaration) → All NotOuter (decl_rows ds)
unfolding decl_rows encode
decls_not [] = done
decls_not (d ∷ ds) = refl & decls_not ds

paths_not : (ps : List ℕ) → All NotOuter (path_rows ps)
unfolding path_rows encode
paths_not [] = done
paths_not (p ∷ ps) = refl & paths_not ps

operand_not : (o : Operand) → NoOuter o → All NotOuter (operand_row o)
unfolding operand_row encode
operand_not (ref space at paths z) n = refl & paths_not paths
operand_not (outer space up at z) n = absurd n
operand_not (case name z) n = refl & done

operands_not : (os : List Operand) → All NoOuter os → All NotOuter (operand_rows os)
unfolding operand_rows
operands_not [] n = done
operands_not (o ∷ os) (n & ns) = all_append _ _ (operand_not o n) (operands_not os ns)

export_not : (o : Option ℕ) → All NotOuter (export_rows o)
unfolding export_rows encode
export_not none = done
export_not (some n) = refl & done

head_not : (h : Head) → All NoOuter h.operands → All NotOuter (head_rows h)
unfolding head_rows encode
head_not h n = refl & all_append _ _ (decls_not h.decls) (all_append _ _ (operands_not h.operands n) (export_not h.export))

-- neither an OUTER nor a DECL
pub record Edge (r : Row) : Type 0 where
  pub not_outer : eqb (code_of r) 5 ≡ false
  pub not_decl_lem : eqb (code_of r) 2 ≡ false

-- the first row of what follows the fields before
first_row_lem : (fs : Fields) → (r : Row) × (more : List Row) × (fields_rows fs ++ (Close ∷ []) ≡ r ∷ more) × Edge r
unfolding flatten head_rows encode
first_row_lem end = (Close, [], refl, record { not_outer = refl; not_decl_lem = refl })
first_row_lem (plain h ▸ fs) = (Field h.code h.builtin h.z, _, refl, record { not_outer = refl; not_decl_lem = refl })
first_row_lem (holds h s ▸ fs) = (Field h.code h.builtin h.z, _, refl, record { not_outer = refl; not_decl_lem = refl })

-- and the row behind a field's own
pub followed : (i : Item) (fs : Fields) → (r : Row) × (more : List Row) × (item_rows i ++ (fields_rows fs ++ (Close ∷ [])) ≡ head_rows (head_of i) ++ (r ∷ more)) × Edge r
unfolding flatten head_of encode
followed (plain h) fs = let F = first_row_lem fs in (F.0, F.1, ap (λ (l : List Row). head_rows h ++ l) F.2, F.3)
followed (holds h (scope kind name gs)) fs = (
  Open kind name,
  _,
  append_assoc (head_rows h) (Open kind name ∷ (fields_rows gs ++ (Close ∷ []))) (fields_rows fs ++ (Close ∷ [])),
  record { not_outer = refl; not_decl_lem = refl },
)

not_outer_at : (form : List ℕ) (rs : List Row) → All NotOuter rs → (row k : ℕ) → At form row rs → k < length rs → eqb (code_at form (row + k)) 5 ≡ false
not_outer_at form [] n row k a low = absurd (omega (arith, low))
not_outer_at form (r ∷ rs) (n & ns) row zero a low =
    let same : row ≡ row + 0 = omega arith in
    subst (λ (k : ℕ). eqb (code_at form k) 5 ≡ false) same (ap (λ (c : ℕ). eqb c 5) (ap code_part a.0) ∙ n)
not_outer_at form (r ∷ rs) (n & ns) row (suc k) a low =
    let next : (row + 1) + k ≡ row + suc k = omega arith in
    subst (λ (k : ℕ). eqb (code_at form k) 5 ≡ false) next (not_outer_at form rs ns (row + 1) k a.1 (omega (arith, low)))

-- ---- the spots of a scope's declarations

module _ (form : List ℕ) (base : ℕ) (rules : RuleSet) where
  abbrev pub IsSpot : Located → Type 0
  IsSpot x = SpotIs form base x.standing.spot x.standing.decl x.row

  old_spots : (row n at : ℕ) (ds : List Declaration) → any_fresh ds ≡ false → All IsSpot (in_rows row (in_original n at ds))
  unfolding in_rows in_original any_fresh
  old_spots row n at [] e = done
  old_spots row n at (d ∷ ds) e = let b = or_none (is_fresh d.name) (any_fresh ds) e in b.0 & old_spots (suc row) n (suc at) ds b.1

  -- what is known of the rows of an inserted field
  record FieldRows (h : Head) (row : ℕ) : Type 0 where
    new : is_inserted h ≡ true
    single : h.code ≡ 11 → length h.decls ≡ 1
    just : h.code ≡ 11 → JustOuter h.operands
    before_other : eqb h.code 11 ≡ false → (k : ℕ) → k < length h.decls → eqb (code_at form (suc (suc (row + k)))) 5 ≡ false
    own : At form row (head_rows h)
    around : scope_of form row ≡ base

  new_spots : (h : Head) (row m : ℕ) (ds : List Declaration) → ((k : ℕ) → get_elem? h.decls (m + k) ≡ get_elem? ds k) → FieldRows h row → All IsSpot (in_rows (suc (row + m)) (in_inserted h ds))
  unfolding in_rows in_inserted
  new_spots h row m [] e F = done
  new_spots h row m (d ∷ ds) e F =
      let same : m ≡ m + 0 = omega arith in
      let next : suc (row + suc m) ≡ suc (suc (row + m)) = omega arith in
      let on : (k : ℕ) → get_elem? h.decls (suc m + k) ≡ get_elem? ds k = λ k. (let step : suc m + k ≡ m + suc k = omega arith in ap (get_elem? h.decls) step ∙ e (suc k)) in
      let here : get_elem? h.decls m ≡ some d = ap (get_elem? h.decls) same ∙ e 0 in
      let this : Inserted form base h d (suc (row + m)) =
      record {
        row = row;
        m = m;
        is_at = refl;
        decl = here;
        new = F.new;
        single = F.single;
        just = F.just;
        before_other = λ o. F.before_other o m (elem_lt h.decls m d here);
        own = F.own;
        around = F.around;
      } in
      this & subst (λ (r : ℕ). All IsSpot (in_rows r (in_inserted h ds))) next (new_spots h row (suc m) ds on F)

  field_rows_lem : (i : Item) (fs : Fields) (kind row : ℕ) → GoodItem rules i kind → At form row (item_rows i ++ (fields_rows fs ++ (Close ∷ []))) → scope_of form row ≡ base → is_inserted (head_of i) ≡ true
      → FieldRows (head_of i) row
  unfolding head_rows
  field_rows_lem i fs kind row g a around new =
      let h = head_of i in
      let good = good_head rules i kind g in
      let A = followed i fs in
      let rows : At form row (head_rows h ++ (A.0 ∷ A.1)) = subst (At form row) A.2 a in
      let n₁ = length-append (decl_rows h.decls) (operand_rows h.operands ++ export_rows h.export) in
      let n₂ = decls_length h.decls in
      let n₃ = length-append (head_rows h) (A.0 ∷ []) in
      let some_rows : At form row (head_rows h ++ (A.0 ∷ [])) = at_left form row (head_rows h ++ (A.0 ∷ [])) A.1 (subst (At form row) (sym (append_assoc (head_rows h) (A.0 ∷ []) A.1)) rows) in
      record {
        new = new;
        single = one_decl rules h kind good;
        just = alias_outer rules h kind good;
        before_other = λ o k low.
            (let step : row + suc (suc k) ≡ suc (suc (row + k)) = omega arith in
            subst (λ (r : ℕ). eqb (code_at form r) 5 ≡ false) step
            (not_outer_at form (head_rows h ++ (A.0 ∷ [])) (all_append (head_rows h) (A.0 ∷ []) (head_not h (others_none rules h kind good o)) (A.3.not_outer & done)) row (suc (suc k)) some_rows (omega (arith, low, n₁, n₂, n₃))));
        own = at_left form row (head_rows h) (A.0 ∷ A.1) rows;
        around = around;
      }

  pub spots : (fs : Fields) (kind n row : ℕ) → GoodFields rules fs kind → At form row (fields_rows fs ++ (Close ∷ [])) → scope_of form row ≡ base → All IsSpot (located row n fs)
  unfolding located flatten when◌then◌else◌ scope_of
  spots end kind n row g a around = done
  spots (i ▸ fs) kind n row g a around =
      let behind-it = fields_rows fs ++ (Close ∷ []) in
      let all : At form row (item_rows i ++ behind-it) = subst (At form row) (append_assoc (item_rows i) (fields_rows fs) (Close ∷ [])) a in
      let item = at_left form row (item_rows i) behind-it all in
      let last = behind_length row (item_rows i) in
      let rest : At form (row + length (item_rows i)) behind-it = subst (λ (r : ℕ). At form r behind-it) last (at_right form row (item_rows i) behind-it all) in
      let next : scope_above form (row + length (item_rows i)) 0 ≡ base = ap (λ (r : ℕ). scope_above form r 0) (sym last) ∙ (up_even form (item_even i) row 0 item ∙ around) in
      go (is_inserted (head_of i)) refl (λ new. field_rows_lem i fs kind row g.0 all around new) (λ k. spots fs kind k (row + length (item_rows i)) g.1 rest next)
    where
      go : (b : Bool) → is_inserted (head_of i) ≡ b → (is_inserted (head_of i) ≡ true → FieldRows (head_of i) row) → ((k : ℕ) → All IsSpot (located (row + length (item_rows i)) k fs))
          → All IsSpot (in_rows (suc row) (when b then in_inserted (head_of i) (head_of i).decls else in_original n 0 (head_of i).decls) ++ located (row + length (item_rows i)) (when b then n else suc n) fs)
      go true b F below =
          let zeroth : suc (row + 0) ≡ suc row = omega arith in
          let first : (k : ℕ) → get_elem? (head_of i).decls (0 + k) ≡ get_elem? (head_of i).decls k = λ k. (let same : 0 + k ≡ k = omega arith in ap (get_elem? (head_of i).decls) same) in
          all_append _ _
          (subst (λ (r : ℕ). All IsSpot (in_rows r (in_inserted (head_of i) (head_of i).decls))) zeroth (new_spots (head_of i) row 0 (head_of i).decls first (F b))) (below n)
      go false b F below = all_append _ _ (old_spots (suc row) n 0 (head_of i).decls (fresh_none (head_of i) b)) (below (suc n))
