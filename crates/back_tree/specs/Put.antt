-- Rows written from the last to the first, in bytes.
use Rattle.std.specs.Prelude.{◌≡◌, refl, List, [], ◌∷◌, ◌++◌, ℕ, suc, ◌+◌, ◌-◌, ◌*◌, ◌/◌, ◌<◌, ◌≤◌, eqb, ltb, length, take, drop}
use Rattle.std.proofs.Common.{sym, ap, ◌∙◌, append_assoc, arith, length-append, length-take, length-drop, take-append-drop, take_at, drop_at, ne_eqb, lt-ltb}
use Rattle.std.proofs.lemmas.List.Edits.{sets, sets-eq}
use Rattle.kit.specs.Pick.{pick}
use Rattle.kit.specs.Out.{◌&◌}
use Rattle.rules.specs.Rows.{Row, encode_row}
use Rattle.rules.specs.Answer.{rows_bytes}
use Rattle.back_rows.specs.Restore.{Wrote, put_bytes}
use Rattle.back_laws.specs.Stand.{row_size}
use Rattle.back_laws.specs.Restored.{put_one, put_rows}

-- bytes in place of as many others
pub set_middle : (xs ys zs vs : List ℕ) (n : ℕ) → length xs ≡ n → length ys ≡ length vs → sets (xs ++ (ys ++ zs)) n vs ≡ xs ++ (vs ++ zs)
set_middle xs ys zs vs n e f =
    let fits : n + length vs ≤ length (xs ++ (ys ++ zs)) = omega (arith, length-append xs (ys ++ zs), length-append ys zs) in
    let behind : drop (n + length vs) (xs ++ (ys ++ zs)) ≡ zs =
    ap (drop (n + length vs)) (sym (append_assoc xs ys zs)) ∙ drop_at (xs ++ ys) zs (n + length vs) (omega (arith, length-append xs ys)) in
    sets-eq vs (xs ++ (ys ++ zs)) n fits ∙ rw (take_at xs (ys ++ zs) n e, behind) (append_assoc xs vs zs)

put_one_lem : (r : Row) (to : ℕ) (xs ys zs : List ℕ) → 0 < to → length xs ≡ 16 * (to - 1) → length ys ≡ 16 → put_one r (to & xs ++ (ys ++ zs)) ≡ (to - 1 & xs ++ (encode_row r ++ zs))
unfolding put_one put_bytes pick
put_one_lem r to xs ys zs h e f =
    let room : to - 1 < length (xs ++ (ys ++ zs)) / 16 = omega (arith, length-append xs (ys ++ zs), length-append ys zs) in
    rw (ne_eqb to 0 (omega arith), lt-ltb (to - 1) (length (xs ++ (ys ++ zs)) / 16) room, set_middle xs ys zs (encode_row r) (16 * (to - 1)) e (f ∙ sym (row_size r)))

first : (r : Row) (rs : List Row) (w : Wrote) → put_rows (r ∷ rs) w ≡ put_one r (put_rows rs w)
unfolding put_rows
first r rs w = refl

put_none : (to : ℕ) (xs zs : List ℕ) → put_rows [] (to & xs ++ zs) ≡ (to - 0 & xs ++ (rows_bytes [] ++ zs))
unfolding put_rows rows_bytes
put_none to xs zs = let z : to - 0 ≡ to = omega arith in rw z

rest : (r : Row) (rs : List Row) (zs : List ℕ) → encode_row r ++ (rows_bytes rs ++ zs) ≡ rows_bytes (r ∷ rs) ++ zs
unfolding rows_bytes
rest r rs zs = sym (append_assoc (encode_row r) (rows_bytes rs) zs)

-- They stand before what was there, and in place of as many bytes.
pub put_all : (rs : List Row) (to : ℕ) (xs ys zs : List ℕ) → length rs ≤ to → length xs ≡ 16 * (to - length rs) → length ys ≡ 16 * length rs
    → put_rows rs (to & xs ++ (ys ++ zs)) ≡ (to - length rs & xs ++ (rows_bytes rs ++ zs))
put_all [] to xs [] zs l e f = put_none to xs zs
put_all [] to xs (y ∷ ys) zs l e f = absurd (omega arith)
put_all (r ∷ rs) to xs ys zs l e f =
    let m₁ = take 16 ys in
    let m₂ = drop 16 ys in
    let n₁ : length m₁ ≡ 16 = omega (arith, length-take 16 ys) in
    let n₂ : length m₂ ≡ 16 * length rs = omega (arith, length-drop 16 ys) in
    let split : xs ++ (ys ++ zs) ≡ (xs ++ m₁) ++ (m₂ ++ zs) =
    ap (λ (y : List ℕ). xs ++ (y ++ zs)) (sym (take-append-drop 16 ys)) ∙ ap (λ (y : List ℕ). xs ++ y) (append_assoc m₁ m₂ zs) ∙ sym (append_assoc xs m₁ (m₂ ++ zs)) in
    let below = put_all rs to (xs ++ m₁) m₂ zs (omega arith) (omega (arith, length-append xs m₁)) n₂ in
    let one = put_one_lem r (to - length rs) xs m₁ (rows_bytes rs ++ zs) (omega arith) (omega arith) n₁ in
    let left : to - length rs - 1 ≡ to - suc (length rs) = omega arith in
    first r rs (to & xs ++ (ys ++ zs))
    ∙ ap (put_one r) (ap (λ (y : List ℕ). put_rows rs (to & y)) split ∙ below ∙ ap (λ (y : List ℕ). (to - length rs & y)) (append_assoc xs m₁ (rows_bytes rs ++ zs)))
    ∙ one ∙ rw left (ap (λ (y : List ℕ). (to - suc (length rs) & xs ++ y)) (rest r rs zs))
