-- When an area is cleared.
use Rattle.std.specs.Prelude.{◌≡◌, List, ◌++◌, ℕ, ◌<◌, take, drop, replicate}
use Rattle.std.proofs.Common.{sym, ◌∙◌, append-nil, arith, take_all}
use Rattle.std.proofs.Math.ListN.{length, length-take, drop_of_length-le}
use Rattle.clearing.specs.Cleared.{cleared}

module _ {A : Type 0} (z : A) (size : ℕ) where
  -- the whole of a short one is zero, or the front of a long one
  pub cleared_all : (l l' : List A) → length l < size → l' ≡ replicate (length l) z → l' ≡ cleared z size l
  unfolding cleared
  cleared_all l l' h e = e ∙ rw (take_all size l (omega arith), drop_of_length-le l {i = size} (omega arith), append-nil)

  pub cleared_front : (l l' : List A) → l' ≡ replicate (length (take size l)) z → l' ++ drop size l ≡ cleared z size l
  unfolding cleared
  cleared_front l l' e = rw e

  -- what was written within the size does not matter
  pub cleared_kept : (old mid : List A) → length mid ≡ length old → drop size mid ≡ drop size old → cleared z size mid ≡ cleared z size old
  unfolding cleared
  cleared_kept old mid long rest =
      let n : length (take size mid) ≡ length (take size old) = length-take size mid ∙ rw long (sym (length-take size old)) in
      rw (n, rest)
