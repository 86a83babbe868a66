-- The steps look at declarations and not at their rows: a run in other rows goes the same way.
use Rattle.std.specs.Prelude.{◌≡◌, Bool, ℕ, zero, suc}
use Rattle.std.proofs.Math.Path.{refl}
use Rattle.std.proofs.Common.{ap, sym, ◌∙◌}
use Rattle.std.proofs.Math.Option
use Rattle.std.proofs.Math.Option.{Option, none, some}
use mathlib.Core.List.{List, [], ◌∷◌, ◌++◌, map}
use Rattle.rules.specs.Rows.{Index, Num, Id}
use Rattle.rules.specs.Tree.{Declaration, Operand, ref, outer, case, Head, Item, head_of}
use Rattle.rules.specs.Rules
use Rattle.rules.specs.Rules.{Refusal, Result, refused, ok, ◌>>=◌, Entry, decls_in, Env, Outside, onward, opened, inward, find, comes_later_out, late_name, late_instance, late_index, walk, expand_operand, expand_operands, expand_head, or_refused, number_in, nth, named, up_number, outer_numbers, resolve_outer, resolve_operands, resolve_head, resolve_inserted}
use Rattle.rules.specs.Laws.Entries.{number_is}

-- ---- without rows

abbrev pub forget_rows : List Entry → List Entry
forget_rows [] = []
forget_rows (e ∷ es) = record { decl = e.decl; row = 0 } ∷ forget_rows es

abbrev pub forget_env : Env → Env
forget_env e = record { name = e.name; entries = forget_rows e.entries; before = e.before }

abbrev forget_all : List Env → List Env
forget_all [] = []
forget_all (e ∷ es) = forget_env e ∷ forget_all es

abbrev pub forget : Outside → Outside
forget o = record { early = o.early; before = record { row = 0; decls = o.before.decls }; scopes = forget_all o.scopes }

decls_same : (es : List Entry) → decls_in (forget_rows es) ≡ decls_in es
decls_same [] = refl
decls_same (e ∷ es) = ap (λ (ds : List Declaration). e.decl ∷ ds) (decls_same es)

-- the declarations tell all that is left
rows_gone : (es : List Entry) → forget_rows es ≡ map (λ (d : Declaration). record { decl = d; row = 0 }) (decls_in es)
rows_gone [] = refl
rows_gone (e ∷ es) = ap (λ (l : List Entry). record { decl = e.decl; row = 0 } ∷ l) (rows_gone es)

pub same_entries : (xs ys : List Entry) → decls_in xs ≡ decls_in ys → forget_rows xs ≡ forget_rows ys
same_entries xs ys e = rows_gone xs ∙ (ap (map (λ (d : Declaration). record { decl = d; row = 0 })) e ∙ sym (rows_gone ys))

bind_same : {A B : Type 0} (m : Result A) (f g : A → Result B) → ((a : A) → f a ≡ g a) → (m >>= f) ≡ (m >>= g)
unfolding ◌>>=◌
bind_same (refused why z) f g e = refl
bind_same (ok a) f g e = e a

-- ---- step B

walk_same : (es : List Env) (d space name : ℕ) → walk (forget_all es) d space name ≡ walk es d space name
unfolding walk
walk_same [] d space name = refl
walk_same (e ∷ es) d space name = rw (decls_same e.entries, walk_same es (suc d) space name)

later_same : (es : List Env) (space name : ℕ) → comes_later_out (forget_all es) space name ≡ comes_later_out es space name
unfolding comes_later_out
later_same [] space name = refl
later_same (e ∷ es) space name = rw (decls_same e.entries, later_same es space name)

module _ (ds : List Declaration) (o : Outside) where
  late_same : (space name : ℕ) → late_name ds (forget o) space name ≡ late_name ds o space name
  unfolding late_name
  late_same space name = rw (later_same o.scopes space name)

  operand_same : (k : ℕ) (x : Operand) → expand_operand ds (forget o) k x ≡ expand_operand ds o k x
  unfolding expand_operand
  operand_same k (ref space (Num n) [] z) = refl
  operand_same k (ref space (Id name) [] z) = rw (late_same space name, walk_same o.scopes 1 space name)
  operand_same k (ref space (Num n) (p ∷ ps) z) = refl
  operand_same k (ref space (Id name) (p ∷ ps) z) = refl
  operand_same k (outer space up at z) = refl
  operand_same k (case name z) = refl

  operands_same : (k : ℕ) (xs : List Operand) → expand_operands ds (forget o) k xs ≡ expand_operands ds o k xs
  unfolding expand_operands
  operands_same k [] = refl
  operands_same k (x ∷ xs) = rw (operand_same k x) (bind_same (expand_operand ds o k x) _ _ (λ e. rw (operands_same e.k xs)))

  expands_same : (k : ℕ) (h : Head) → expand_head ds (forget o) k h ≡ expand_head ds o k h
  unfolding expand_head
  expands_same k h = rw (operands_same k h.operands)

-- ---- step C

number_same : (es : List Entry) (space : ℕ) (at : Index) (z : ℕ) → number_in (forget_rows es) space at z ≡ number_in es space at z
number_same es space (Num n) z = unfold number_in in refl
number_same es space (Id name) z =
    number_is (forget_rows es) space name z
    ∙ (ap (λ (ds : List Declaration). or_refused (find ds space name) (Rules.unknown space) z) (decls_same es) ∙ sym (number_is es space name z))

nth_same : (es : List Env) (n : ℕ) → nth (forget_all es) n ≡ Option.map forget_env (nth es n)
unfolding nth
nth_same [] n = refl
nth_same (e ∷ es) zero = refl
nth_same (e ∷ es) (suc n) = nth_same es n

named_same : (es : List Env) (name : ℕ) → named (forget_all es) name ≡ named es name
unfolding named
named_same [] name = refl
named_same (e ∷ es) name = rw (named_same es name)

up_same : (es : List Env) (up : Index) (z : ℕ) → up_number (forget_all es) up z ≡ up_number es up z
unfolding up_number
up_same es (Num n) z = refl
up_same es (Id name) z = rw (named_same es name)

index_same : (early : Bool) (e : Env) (space : ℕ) (at : Index) → late_index early (forget_env e) space at ≡ late_index early e space at
unfolding late_index
index_same early e space (Num n) = refl
index_same early e space (Id name) = rw (decls_same e.entries)

mapped : {A : Type 0} (o : Option Env) (why : Refusal) (z : ℕ) (f : Env → Result A) → (or_refused (Option.map forget_env o) why z >>= f) ≡ (or_refused o why z >>= λ e. f (forget_env e))
unfolding or_refused ◌>>=◌
mapped none why z f = refl
mapped (some e) why z f = refl

numbers_same : (early : Bool) (es : List Env) (fz space : ℕ) (up at : Index) (z : ℕ) → outer_numbers early (forget_all es) fz space up at z ≡ outer_numbers early es fz space up at z
unfolding outer_numbers
numbers_same early es fz space up at z =
    rw (up_same es up fz)
    (bind_same (up_number es up fz) _ _ (λ d.
    rw (nth_same es d) (mapped (nth es d) Rules.too_far fz _
    ∙ bind_same (or_refused (nth es d) Rules.too_far fz) _ _ (λ e. rw (index_same early e space at, number_same e.entries space at z)))))

outer_same : (early : Bool) (es : List Env) (fz space : ℕ) (up at : Index) (z : ℕ) → resolve_outer early (forget_all es) fz space up at z ≡ resolve_outer early es fz space up at z
unfolding resolve_outer
outer_same early es fz space (Num d) (Num n) z = refl
outer_same early es fz space (Num d) (Id name) z = numbers_same early es fz space (Num d) (Id name) z
outer_same early es fz space (Id name) at z = numbers_same early es fz space (Id name) at z

module _ (here : Env) (o : Outside) where
  resolved_same : (fz : ℕ) (seen : List ℕ) (xs : List Operand) → resolve_operands (forget_env here) (forget o) fz seen xs ≡ resolve_operands here o fz seen xs
  unfolding resolve_operands
  resolved_same fz seen [] = refl
  resolved_same fz seen (ref space at paths z ∷ xs) = rw (number_same here.entries space at z, resolved_same fz seen xs)
  resolved_same fz seen (outer space up at z ∷ xs) = rw (outer_same o.early (opened here o) fz space up at z, resolved_same fz seen xs)
  resolved_same fz seen (case name z ∷ xs) = rw (resolved_same fz (name ∷ seen) xs)

  head_same : (h : Head) → resolve_head (forget_env here) (forget o) h ≡ resolve_head here o h
  unfolding resolve_head
  head_same h = rw (resolved_same h.z [] h.operands)

  instance_same : (xs : List Operand) → late_instance (forget_env here) (forget o) xs ≡ late_instance here o xs
  unfolding late_instance
  instance_same [] = refl
  instance_same (ref space (Num n) paths z ∷ xs) = refl
  instance_same (ref space (Id name) paths z ∷ xs) = rw (decls_same here.entries)
  instance_same (outer space up at z ∷ xs) = refl
  instance_same (case name z ∷ xs) = refl

  inserted_same : (hs : List Head) → resolve_inserted (forget_env here) (forget o) hs ≡ resolve_inserted here o hs
  unfolding resolve_inserted
  inserted_same [] = refl
  inserted_same (h ∷ hs) = rw (instance_same h.operands, head_same h, inserted_same hs)

-- ---- two runs that differ in rows alone

pub expands_alike : (ds : List Declaration) (o o₂ : Outside) (k : ℕ) (h : Head) → forget o₂ ≡ forget o → expand_head ds o₂ k h ≡ expand_head ds o k h
expands_alike ds o o₂ k h e = sym (expands_same ds o₂ k h) ∙ (ap (λ (x : Outside). expand_head ds x k h) e ∙ expands_same ds o k h)

pub head_alike : (here here₂ : Env) (o o₂ : Outside) (h : Head) → forget_env here₂ ≡ forget_env here → forget o₂ ≡ forget o → resolve_head here₂ o₂ h ≡ resolve_head here o h
head_alike here here₂ o o₂ h a e =
    sym (head_same here₂ o₂ h) ∙ (ap (λ (x : Env). resolve_head x (forget o₂) h) a ∙ (ap (λ (x : Outside). resolve_head (forget_env here) x h) e ∙ head_same here o h))

pub inserted_alike : (here here₂ : Env) (o o₂ : Outside) (hs : List Head) → forget_env here₂ ≡ forget_env here → forget o₂ ≡ forget o
    → resolve_inserted here₂ o₂ hs ≡ resolve_inserted here o hs
inserted_alike here here₂ o o₂ hs a e =
    sym (inserted_same here₂ o₂ hs) ∙ (ap (λ (x : Env). resolve_inserted x (forget o₂) hs) a ∙ (ap (λ (x : Outside). resolve_inserted (forget_env here) x hs) e ∙ inserted_same here o hs))

-- behind a field, and in the scope that it holds
abbrev after : List Declaration → Outside → Outside
after ds x = record { early = x.early; before = record { row = 0; decls = x.before.decls ++ ds }; scopes = x.scopes }

abbrev within : Env → Outside → Outside
within a x =
    record {
      early = x.early;
      before = record { row = 0; decls = [] };
      scopes = record { name = a.name; entries = a.entries; before = x.before.decls } ∷ x.scopes;
    }

pub onward_alike : (i j : Item) (o o₂ : Outside) → (head_of j).decls ≡ (head_of i).decls → forget o₂ ≡ forget o → forget (onward j o₂) ≡ forget (onward i o)
onward_alike i j o o₂ d e = ap (after (head_of j).decls) e ∙ ap (λ (ds : List Declaration). after ds (forget o)) d

pub inward_alike : (h h₂ : Head) (here here₂ : Env) (o o₂ : Outside) → forget_env here₂ ≡ forget_env here → forget o₂ ≡ forget o → forget (inward h₂ here₂ o₂) ≡ forget (inward h here o)
inward_alike h h₂ here here₂ o o₂ a e = ap (λ (x : Env). within x (forget o₂)) a ∙ ap (within (forget_env here)) e
