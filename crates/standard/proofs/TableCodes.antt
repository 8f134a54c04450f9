-- By computation: the bits that specs/Standard asks for before a motion code and before a DC size are those with which a code of the table begins. Assumes
-- nothing.
use mathlib.Core.Path.{◌≡◌, refl}
use mathlib.Core.Bool.{Bool, true, false, cond, not, ◌||◌}
use mathlib.Core.List.{List, [], ◌∷◌}
use Prim.Native.Nat.{ℕ, ◌-◌, ◌/◌, ◌^◌}
use lib.Dec.{eqb}
use Rattle.laws.specs.Each.{all_below}
use Rattle.codes.specs.Standard.{Code, motion_codes, dct_size_luminance_codes, dct_size_chrominance_codes}
use Rattle.standard.specs.Standard as S

-- one of the codes, none of which is longer than n bits, is the beginning of the n bits that make w
abbrev begins_in : {A : Type 0} → List (Code A) → ℕ → ℕ → Bool
begins_in [] n w = false
begins_in (c ∷ cs) n w = eqb (w / 2 ^ (n - c.bits)) c.word || begins_in cs n w

abbrev same : Bool → Bool → Bool
same t u = cond t u (not u)

-- the longest motion code has 11 bits, and the first 8 of them are looked at
pub motion-codes : all_below 2048 (λ w. same (begins_in motion_codes 11 w) (S.is_motion_code (w / 8))) ≡ true
unfolding all_below motion_codes
motion-codes = refl

pub luminance-sizes : all_below 128 (λ w. same (begins_in dct_size_luminance_codes 7 w) (S.is_size_code true w)) ≡ true
unfolding all_below dct_size_luminance_codes
luminance-sizes = refl

pub chrominance-sizes : all_below 256 (λ w. same (begins_in dct_size_chrominance_codes 8 w) (S.is_size_code false w)) ≡ true
unfolding all_below dct_size_chrominance_codes
chrominance-sizes = refl
