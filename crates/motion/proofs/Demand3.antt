-- Demand 3: the theorem on lists of vector steps. Assumes nothing.
use mathlib.Core.Path.{◌≡◌, sym}
use mathlib.Core.List.{List, Perm}
use mathlib.Core.Logic.{◌⊎◌, ◌↔◌}
use Prim.Native.Nat.{ℕ, ◌*◌, ◌^◌, ◌≤◌}
use lib.IntN.{ℤ, pos, neg_ℤ, nat_abs, ◌+ℤ◌, ◌-ℤ◌}
use lib.Pow.{pow_pos}
use Rattle.motion.specs.Congruence.{Congruent, remainder}
use Rattle.motion.specs.Displacement.{InRange}
use Rattle.motion.specs.Displaces.{Displaces}
use Rattle.motion.specs.Steps.{VectorStep, after_steps, sum_of}
use Rattle.motion.proofs.Congruence.{congruent_sym, congruent_trans}
use Rattle.motion.proofs.Range.{at_most_one, middle_in, middle-congruent}
use Rattle.motion.proofs.Steps.{after_in, after-congruent, sum_perm}
use Rattle.motion.proofs.Ways

-- The sentences of demand 3 (RULES D3.1 to D3.9) and what gives each. f is 2 ^ r, the range is -16 f .. 16 f - 1, and a step is a `VectorStep`.
--   D3.1  Each step has a stream and a place of its own, both arbitrary, and reads there by part 5: `VectorStep` holds nothing but the two and their limits,
-- and a
--         step reads by `motion_vector`, the definition that the contract of `decode_motion_vector` cites. Invalid codes and the end of the stream are among
--         what it reads
--   D3.2  The steps are applied in turn, with one f, and each gets the component that the step before it returned: `after_steps r component steps`
--   D3.3  After every list the component lies in the range: `in-range`
--   D3.4  It differs from start + S by a multiple of 32 f: `congruent`. S is `sum_of r steps`, the sum of what `displacement` reads in each step, and
--         `motion_vector` reads by this same `displacement`
--   D3.5  It is the only number of the range that does: `only_one`
--   D3.6  It is ((start + S + 16 f) mod 32 f) - 16 f: `formula`. `remainder` is from 0 to 32 f - 1 (`remainder-below` of Congruence.antt)
--   D3.7  Any other order gives the same component: `any_order`. A step is moved whole, with its stream and place
--   D3.8  From each number a of the range to each number b, a itself included, exactly one displacement from -16 f to 16 f leads (`one_way`), unless a and b
--         are 16 f apart: then exactly -16 f and 16 f lead (`two_ways`)
--   D3.9  One statement about the whole list, the empty one included: the record. One proof for all f: `demand3`, for r from 0 to 6
pub record Demand3 (r : ℕ) (component : ℤ) (steps : List VectorStep) : Type 0 where
  pub in-range : InRange (2 ^ r) (after_steps r component steps)
  pub congruent : Congruent (32 * 2 ^ r) (after_steps r component steps) (component +ℤ sum_of r steps)
  pub only_one : (x : ℤ) → InRange (2 ^ r) x → Congruent (32 * 2 ^ r) x (component +ℤ sum_of r steps) → x ≡ after_steps r component steps
  pub formula : after_steps r component steps ≡ pos (remainder (component +ℤ sum_of r steps +ℤ pos (16 * 2 ^ r)) (32 * 2 ^ r)) -ℤ pos (16 * 2 ^ r)
  pub any_order : (others : List VectorStep) → Perm steps others → after_steps r component others ≡ after_steps r component steps
  pub one_way : (a b : ℤ) → InRange (2 ^ r) a → InRange (2 ^ r) b → (nat_abs (a -ℤ b) ≡ 16 * 2 ^ r → ⊥)
      → (d : ℤ) × Displaces (2 ^ r) a b d × ((e : ℤ) → Displaces (2 ^ r) a b e → e ≡ d)
  pub two_ways : (a b : ℤ) → InRange (2 ^ r) a → InRange (2 ^ r) b → nat_abs (a -ℤ b) ≡ 16 * 2 ^ r
      → (d : ℤ) → Displaces (2 ^ r) a b d ↔ (d ≡ neg_ℤ (pos (16 * 2 ^ r))) ⊎ (d ≡ pos (16 * 2 ^ r))

-- the only number of the range that differs from start + sum by a multiple of 32 f
alone : (r : ℕ) (component : ℤ) → InRange (2 ^ r) component → (steps : List VectorStep) (x : ℤ) → InRange (2 ^ r) x
    → Congruent (32 * 2 ^ r) x (component +ℤ sum_of r steps) → x ≡ after_steps r component steps
alone r component i steps x j c =
    at_most_one (2 ^ r) j (after_in r steps i) (congruent_trans c (congruent_sym (after-congruent r steps component)))

pub demand3 : (r : ℕ) → r ≤ 6 → (component : ℤ) → InRange (2 ^ r) component → (steps : List VectorStep) → Demand3 r component steps
demand3 r _ component i steps =
    let z = component +ℤ sum_of r steps in
    record {
      in-range = after_in r steps i;
      congruent = after-congruent r steps component;
      only_one = alone r component i steps;
      formula = sym (alone r component i steps _ (middle_in (2 ^ r) z (pow_pos r)) (middle-congruent (2 ^ r) z (pow_pos r)));
      any_order = λ others p.
          alone r component i steps (after_steps r component others) (after_in r others i)
          (rw (sum_perm r p) (after-congruent r others component));
      one_way = λ a b. Ways.one_way (2 ^ r) a b (pow_pos r);
      two_ways = λ a b. Ways.two_ways (2 ^ r) a b;
    }
