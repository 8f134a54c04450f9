-- Laws of whole bytes. Assumes nothing.
use Rattle.std.proofs.Common.{◌≡◌, ℕ, zero, suc, ◌+◌, ◌-◌, ◌<◌, List, length, drop, eqb, ap, arith, drop-cons, add-one}
use Rattle.std.specs.List.{prefix_len}
use Rattle.std.proofs.lemmas.List.{drop_all}
use Rattle.bits.specs.Bits.{equal_bytes}

-- the run of equal bytes is the longest front of the bytes from b on that equal v
pub equal-prefix : (s : List ℕ) (v b n : ℕ) → n ≡ length s - b → equal_bytes s v b n ≡ prefix_len (λ x. eqb x v) (drop b s)
unfolding equal_bytes
equal-prefix s v b zero e = rw (drop_all b s (omega arith))
equal-prefix s v b (suc n) e =
    let inside : b < length s = omega arith in
    let rest : suc (equal_bytes s v (b + 1) n) ≡ 1 + prefix_len (λ x. eqb x v) (drop (suc b) s) =
    omega (arith, equal-prefix s v (b + 1) n (omega arith), ap (λ (k : ℕ). prefix_len (λ x. eqb x v) (drop k s)) (add-one b)) in
    rw (drop-cons s b 0, rest)
