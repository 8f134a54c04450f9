-- Demand 3 speaks of lists of vector steps, each at a stream and a place of its own.
use Rattle.std.specs.Prelude.{List, [], ◌∷◌, ℕ, ◌≤◌, ℤ, pos, ◌+ℤ◌, length}
use Rattle.bits.specs.Bounds.{longest_stream, last_position}
use Rattle.bits.specs.Programs.{run}
use Rattle.motion.specs.Vector.{displacement, motion_vector}

-- RULES D3.1: where a step reads: a stream that question 1 admits, and a place within 0 .. 134,217,728
pub record VectorStep : Type 0 where
  pub stream : List ℕ
  pub position : ℕ
  pub admitted : length stream ≤ longest_stream
  pub inside : position ≤ last_position

-- what a step adds: the displacement that it reads there
unfoldable pub displacement_of : ℕ → VectorStep → ℤ
displacement_of r x = (run (displacement r) x.stream x.position).value

-- RULES D3.2: the component after a list of steps, each of which gets what the last one returned
unfoldable pub after_steps : ℕ → ℤ → List VectorStep → ℤ
after_steps r component [] = component
after_steps r component (x ∷ xs) = after_steps r (run (motion_vector r component) x.stream x.position).value xs

-- the sum of all displacements
unfoldable pub sum_of : ℕ → List VectorStep → ℤ
sum_of r [] = pos 0
sum_of r (x ∷ xs) = displacement_of r x +ℤ sum_of r xs
