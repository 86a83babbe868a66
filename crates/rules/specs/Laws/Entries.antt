-- The tables of step C: their entries are the declarations with their rows, and what is looked up in them is what `find` finds.
use Rattle.std.specs.Prelude.{◌≡◌, refl, Bool, true, false, List, [], ◌∷◌, ◌++◌, ℕ, suc, ◌+◌, eqb, length}
use Rattle.std.proofs.Math.Path.{ap}
use Rattle.std.proofs.Common.{sym, ◌∙◌, length-append}
use Rattle.std.proofs.Math.Option.{Option, none, some, map}
use Rattle.std.proofs.lemmas.List.{length-map}
use Rattle.rules.specs.Tools.{when◌then◌else◌}
use Rattle.rules.specs.Rows.{Id}
use Rattle.rules.specs.Tree.{Declaration, Head}
use Rattle.rules.specs.Rules.{Entry, decls_in, unknown, Result, find, heads_decls, entered, stand_in, inserted_entries, or_refused, Lookup, found, absent, one_on, look_up, or_unknown, number_in}

-- ---- the declarations of entries

pub decls_append : (xs ys : List Entry) → decls_in (xs ++ ys) ≡ decls_in xs ++ decls_in ys
decls_append [] ys = refl
decls_append (x ∷ xs) ys = ap (λ (ds : List Declaration). x.decl ∷ ds) (decls_append xs ys)

pub entered_decls : (row : ℕ) (ds : List Declaration) → decls_in (entered row ds) ≡ ds
unfolding entered
entered_decls row [] = refl
entered_decls row (d ∷ ds) = ap (λ (es : List Declaration). d ∷ es) (entered_decls (suc row) ds)

pub stand_decls : (row : ℕ) (ds : List Declaration) → decls_in (stand_in row ds) ≡ ds
unfolding stand_in
stand_decls row [] = refl
stand_decls row (d ∷ ds) = ap (λ (es : List Declaration). d ∷ es) (stand_decls row ds)

inserted_decls : (row : ℕ) (hs : List Head) (rows : List ℕ) → decls_in (inserted_entries row hs rows) ≡ heads_decls hs
unfolding inserted_entries heads_decls
inserted_decls row [] rows = refl
inserted_decls row (h ∷ hs) [] = rw (decls_append (stand_in row h.decls) (inserted_entries row hs []), stand_decls row h.decls, inserted_decls row hs [])
inserted_decls row (h ∷ hs) (n ∷ rows) =
    rw (decls_append (stand_in (row + n) h.decls) (inserted_entries row hs rows), stand_decls (row + n) h.decls, inserted_decls row hs rows)

-- what a field adds to the table
pub field_decls : (row row' : ℕ) (hs : List Head) (rows : List ℕ) (ds : List Declaration) (es : List Entry)
    → decls_in (inserted_entries row hs rows ++ (entered row' ds ++ es)) ≡ heads_decls hs ++ (ds ++ decls_in es)
field_decls row row' hs rows ds es =
    rw (
      decls_append (inserted_entries row hs rows) (entered row' ds ++ es),
      inserted_decls row hs rows,
      decls_append (entered row' ds) es,
      entered_decls row' ds,
    )

pub field_length : (row row' : ℕ) (hs : List Head) (rows : List ℕ) (ds : List Declaration) (es : List Entry)
    → length (inserted_entries row hs rows ++ (entered row' ds ++ es)) ≡ length (heads_decls hs) + (length ds + length es)
field_length row row' hs rows ds es =
    sym (length-map (inserted_entries row hs rows ++ (entered row' ds ++ es)) (λ (e : Entry). e.decl))
    ∙ (ap length (field_decls row row' hs rows ds es)
    ∙ (length-append (heads_decls hs) (ds ++ decls_in es)
    ∙ ap (λ (n : ℕ). length (heads_decls hs) + n) (length-append ds (decls_in es) ∙ ap (λ (n : ℕ). length ds + n) (length-map es (λ (e : Entry). e.decl)))))

-- ---- lookup

-- its number, if there is one
unfoldable pub numbered : Lookup → Option ℕ
numbered (found number row) = some number
numbered (absent space) = none

one_on_lem : (l : Lookup) → numbered (one_on l) ≡ map suc (numbered l)
unfolding numbered one_on
one_on_lem (found number row) = refl
one_on_lem (absent space) = refl

look_step : (a b : Bool) (row : ℕ) (l : Lookup) (o : Option ℕ) → numbered l ≡ o
    → numbered (when a then when b then found 0 row else one_on l else l) ≡ (when a then when b then some 0 else map suc o else o)
unfolding when◌then◌else◌ numbered
look_step true true row l o e = refl
look_step true false row l o e = one_on_lem l ∙ ap (map suc) e
look_step false b row l o e = e

-- Lookup finds the number that `find` finds.
pub look_number : (es : List Entry) (space name : ℕ) → numbered (look_up es space name) ≡ find (decls_in es) space name
unfolding look_up find numbered
look_number [] space name = refl
look_number (e ∷ es) space name = look_step (eqb e.decl.space space) (eqb e.decl.name name) e.row (look_up es space name) (find (decls_in es) space name) (look_number es space name)

-- or the space asked for
abbrev pub OfSpace : ℕ → Lookup → Type 0
OfSpace space (found number row) = Unit {0}
OfSpace space (absent s) = s ≡ space

one_space : (space : ℕ) (l : Lookup) → OfSpace space l → OfSpace space (one_on l)
unfolding one_on
one_space space (found number row) h = tt
one_space space (absent s) h = h

space_step : (a b : Bool) (row space : ℕ) (l : Lookup) → OfSpace space l → OfSpace space (when a then when b then found 0 row else one_on l else l)
unfolding when◌then◌else◌
space_step true true row space l h = tt
space_step true false row space l h = one_space space l h
space_step false b row space l h = h

pub look_space : (es : List Entry) (space name : ℕ) → OfSpace space (look_up es space name)
unfolding look_up
look_space [] space name = refl
look_space (e ∷ es) space name = space_step (eqb e.decl.space space) (eqb e.decl.name name) e.row space (look_up es space name) (look_space es space name)

pub number_is : (es : List Entry) (space name z : ℕ) → number_in es space (Id name) z ≡ or_refused (find (decls_in es) space name) (unknown space) z
unfolding number_in
number_is es space name z = go (look_up es space name) (find (decls_in es) space name) (look_number es space name) (look_space es space name)
  where
    go : (l : Lookup) (o : Option ℕ) → numbered l ≡ o → OfSpace space l → or_unknown l z ≡ or_refused o (unknown space) z
    go (found number row) o e h = unfold numbered or_unknown or_refused in (ap (λ (x : Option ℕ). or_refused x (unknown space) z) e)
    go (absent s) o e h = unfold numbered or_unknown or_refused in (ap (λ (x : ℕ). Result.refused (unknown x) z) h ∙ ap (λ (x : Option ℕ). or_refused x (unknown space) z) e)
