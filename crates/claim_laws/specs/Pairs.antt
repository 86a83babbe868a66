-- A field of a claim beside the input's: both hold a scope or neither, and their scopes go together as they do.
use Rattle.std.specs.Prelude.{◌≡◌, ℕ}
use Rattle.std.proofs.Common.{sym}
use Rattle.rules.specs.Tree.{Head, Scope, scope, Fields, plain, holds}
use Rattle.rules.proofs.Laws.Output.Kept.{blank, blank_item, without, without_item}
use Rattle.checking.proofs.Laws.Beside.{Beside, beside, same_scope, no_holds, same_inside}

pub other_kinds : {X : Type 0} (h w : Head) (s : Scope) → blank_item (without_item (holds h s)) ≡ blank_item (plain w) → X
unfolding blank without
other_kinds h w s e = no_holds _ _ _ (sym e)

pub kinds_other : {X : Type 0} (h w : Head) (s : Scope) → blank_item (without_item (plain h)) ≡ blank_item (holds w s) → X
unfolding blank without
kinds_other h w s e = no_holds _ _ _ e

pub same_inner : (h w : Head) (s t : Scope) → blank_item (without_item (holds h s)) ≡ blank_item (holds w t) → blank (without s) ≡ blank t
unfolding blank without
same_inner h w s t e = same_scope _ _ _ _ e

pub beside_scope : (kind name : ℕ) (cs : Fields) (kind' name' : ℕ) (fs : Fields) → blank (without (scope kind name cs)) ≡ blank (scope kind' name' fs) → Beside cs fs
unfolding blank without
beside_scope kind name cs kind' name' fs e = beside cs fs (same_inside _ _ _ _ _ _ e)
