-- RULES 6.10, 6.11: the three stores, the planes of each, and the prediction of a macroblock's planes.
use Rattle.std.specs.Prelude.{Bool, cond, List, ℕ, ◌+◌, ◌*◌, eqb, ltb, ℤ, Some, None, Result, Ok, Err}
use borrow.Rule.Slice.PartMut.{mid_of, put_mid}
use Rattle.prediction.specs.declared.position.{HalfSampleOutside.HalfSampleOutside, Macroblock.Macroblock, BlockPosition.BlockPosition}
use Rattle.prediction.specs.declared.planes.Plane.{Plane}
use Rattle.prediction.specs.declared.planes.Plane.TheVariants.{Y, Cr, Cb}
use Rattle.prediction.specs.Predict.{PredictionSource, block_position_of, bytes, prediction_source, predicted, chroma}

-- macroblocks of the picture
abbrev pub macroblocks : Macroblock → ℕ
macroblocks m = m.across * m.down

-- the block size of a plane
abbrev pub block_size : Plane → ℕ
block_size Y = 16
block_size Cr = 8
block_size Cb = 8

-- RULES 3.1: the plane of block 0 to 5 of a macroblock
abbrev pub plane_of : ℕ → Plane
plane_of number = cond (ltb number 4) Y (cond (eqb number 4) Cb Cr)

-- where a plane begins within its store, for so many macroblocks
abbrev pub offset : Plane → ℕ → ℕ
offset Y n = 0
offset Cr n = 256 * n
offset Cb n = 320 * n

-- bytes of a plane
abbrev pub plane_length : Plane → ℕ → ℕ
plane_length p n = block_size p * block_size p * n

-- RULES 6.11: bytes of one store, and of the three
abbrev pub store_length : ℕ → ℕ
store_length n = 384 * n

abbrev pub stores_bytes : ℕ → ℕ
stores_bytes n = 1152 * n

-- where a plane of the store number k begins in the lent memory
abbrev pub plane_start : ℕ → Plane → ℕ → ℕ
plane_start k p n = k * store_length n + offset p n

-- RULES Q9: a prediction is done, or refused
abbrev pub Predicted : Type 0
Predicted = Result (Unit {0}) HalfSampleOutside

-- the lent memory after the prediction of a block, and its answer
pub record PredictionOutcome : Type 0 where
  pub store : List ℕ
  pub answer : Predicted

-- the same of a macroblock's planes, with the plane that was the last, and h and v in half samples of that plane
pub record PlaneAfter : Type 0 where
  pub plane : Plane
  pub h : ℤ
  pub v : ℤ
  pub store : List ℕ
  pub answer : Predicted

abbrev pub of_plane : Plane → ℤ → ℤ → PredictionOutcome → PlaneAfter
of_plane q h v o = record { plane = q; h = h; v = v; store = o.store; answer = o.answer }

-- what is done with the block at p of the plane that begins at `to`, from the plane at `from`
unfoldable pub predict_from_source : PredictionSource → BlockPosition → ℕ → ℕ → ℤ → ℤ → Bool → List ℕ → PredictionOutcome
predict_from_source (Ok None) p from to h v interpolate store = record { store = store; answer = Ok tt }
predict_from_source (Err e) p from to h v interpolate store = record { store = store; answer = Err e }
predict_from_source (Ok (Some a)) p from to h v interpolate store =
    record {
      store = put_mid to (bytes p) store (predicted p (mid_of from (bytes p) store) (mid_of to (bytes p) store) h v interpolate a);
      answer = Ok tt;
    }

-- RULES 6.4 to 6.9 for one plane
abbrev pub predict_plane : BlockPosition → ℕ → ℕ → ℤ → ℤ → Bool → List ℕ → PredictionOutcome
predict_plane p from to h v = predict_from_source (prediction_source p h v) p from to h v

-- a refusal ends the prediction
unfoldable pub and_then_plane : PlaneAfter → (List ℕ → PlaneAfter) → PlaneAfter
and_then_plane o f = elim o.answer [ Ok _ ↦ f o.store | Err _ ↦ o ]

-- the plane q of the store number `to` from that of the store number `from`
abbrev pub predict_plane_from_store : Macroblock → ℕ → ℕ → Bool → Plane → ℤ → ℤ → List ℕ → PlaneAfter
predict_plane_from_store m from to interpolate q h v store =
    of_plane q h v
    (predict_plane (block_position_of m (block_size q)) (plane_start from q (macroblocks m)) (plane_start to q (macroblocks m)) h v interpolate store)

-- RULES 6.2, 6.10: Y, then Cr and Cb with the vector halved; h and v are in half samples
unfoldable pub predicted_planes : Macroblock → ℕ → ℕ → ℤ → ℤ → Bool → List ℕ → PlaneAfter
predicted_planes m from to h v interpolate store =
    and_then_plane (predict_plane_from_store m from to interpolate Y h v store) (λ s.
    and_then_plane (predict_plane_from_store m from to interpolate Cr (chroma h) (chroma v) s)
    (predict_plane_from_store m from to interpolate Cb (chroma h) (chroma v)))
