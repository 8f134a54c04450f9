-- RULES D2.3, Q7, Q8, Q9: how the turns of a hand-out end, and what of the store they leave alone.
use mathlib.Core.Path.{◌≡◌, refl, ap, subst, ◌∙◌}
use mathlib.Core.Bool.{Bool, true, false}
use mathlib.Core.List.{List}
use mathlib.Core.Logic.{inr}
use Prim.Native.Nat.{ℕ, ◌*◌, ◌≤◌}
use native.Mathlib.Omega.{arith}
use native.Mathlib.Nat.{mul-le-mul_right}
use lib.Dec.{eqb}
use lib.ListN.{length}
use Rattle.laws.specs.Loops.{Step}
use Rattle.laws.proofs.Tests.{by-case}
use Rattle.bits.specs.Programs.{RunResult, run}
use Rattle.prediction.specs.Planes.{stores_bytes}
use Rattle.picture_state.specs.declared.types.{Matrices.Matrices, Sizes.Sizes, Stores.Stores}
use Rattle.picture_state.specs.Possible.{PossibleStores}
use Rattle.picture_state.specs.Result.{Result, error}
use Rattle.picture_state.specs.Stop.{error_code, Stop}
use Rattle.picture.specs.Pictures as P
use Rattle.picture_state.proofs.Exits.{OnResult}
use Rattle.picture.proofs.Kept.{after_kept}
use Rattle.playback.specs.declared.outcome.Shown.{Shown}
use Rattle.playback.specs.declared.outcome.Outcome.TheVariants as H
use Rattle.playback.specs.State.{position}
use Rattle.playback.specs.Steps.{DecodingState, LoopEnd, finished, aborted, picture_state_of, after_picture_search, picture_run, picture_step, pictures}
use Rattle.playback.specs.Cases.{is_picture_ready, is_flush, ReadsPicture, Outputs, b-picture, reference-picture, flushed-picture, StepCase, outputs}
use Rattle.playback.specs.Cases.{keeps-reference}
use Rattle.playback.specs.Cases.{aborts, no-picture}
use Rattle.playback.proofs.Next.{next-stores}
use Rattle.playback.proofs.Cases.{picture-step-is}
use Rattle.playback.proofs.TwoSteps.{Each, by_steps}
use Rattle.demands.specs.Stores.{SameBut, SameFrom}
use Rattle.demands.specs.Checks.{picture_end}
use Rattle.demands.specs.After.{StepReached, first_step, second-step}
use Rattle.demands.proofs.PictureLeft.{PictureLeaves, Stopped, picture-left}

-- ---- what of the store stays

pub same_from : {n : ℕ} {l : List ℕ} → SameFrom n l l
same_from = record { long = refl; same = λ i w. refl }

pub then_same : {n : ℕ} {l m k : List ℕ} → SameFrom n l m → SameFrom n m k → SameFrom n l k
then_same p q = record { long = q.long ∙ p.long; same = λ i w. q.same i w ∙ p.same i w }

but-from : {n k : ℕ} {l m : List ℕ} → k ≤ 2 → SameBut n k l m → SameFrom (stores_bytes n) l m
but-from {n} {k} h s = record { long = s.long; same = λ i w. s.same i (inr (omega (arith, mul-le-mul_right (384 * n) h))) }

-- ---- what a turn asks of the sizes, the roles of the stores, and the store

pub record Room (z : Sizes) (t : Stores) (l : List ℕ) : Type 0 where
  pub area : z.mb_size ≡ z.mb_width * z.mb_height
  pub stores : PossibleStores t
  pub long : stores_bytes z.mb_size ≤ length l

abbrev pub RoomFor : Sizes → DecodingState → Type 0
RoomFor z x = Room z x.state.picture.stores x.store

pub next-room : (s : List ℕ) {z : Sizes} (x : DecodingState) → RoomFor z x → RoomFor z (after_picture_search s x)
next-room s {z} x k = rw (next-stores s x.state) k

-- whether the picture at the state's place is decoded
abbrev pub is_decoded : List ℕ → DecodingState → Bool
is_decoded s x = P.is_decoded (run P.picture_header s (position x.state)).value

-- a picture that is read to its end, or leaves early
module _ (s : List ℕ) (z : Sizes) (m : Matrices) (x : DecodingState) (k : RoomFor z x) where
  run-left : OnResult (PictureLeaves z (picture_state_of x) (is_decoded s x)) (Stopped s z m k.area (picture_state_of x)) (picture_run s z m x).value
  run-left = picture-left s z m k.area (picture_state_of x) k.stores.cur k.long (position x.state)

  abbrev LeftBy : RunResult (Result Stop P.PictureState) → Type 0
  LeftBy o = OnResult (PictureLeaves z (picture_state_of x) (is_decoded s x)) (Stopped s z m k.area (picture_state_of x)) o.value

  pub frame-left : {f : P.PictureState} {a : ℕ} → ReadsPicture s z m x f a → PictureLeaves z (picture_state_of x) (is_decoded s x) f
  frame-left r = subst LeftBy r run-left

  stopped-left : {e : Stop} {a : ℕ} → picture_run s z m x ≡ record { value = error e; at = a }
      → SameBut z.mb_size x.state.picture.stores.cur x.store e.store
  stopped-left r = subst LeftBy r run-left

  pub past_room : {f : P.PictureState} {a : ℕ} → ReadsPicture s z m x f a → Room z f.picture.stores f.store
  past_room {f} r =
      let j = frame-left r in
      record { area = k.area; stores = go (is_decoded s x) refl; long = omega (arith, k.long, j.store.long) }
    where
      go : (b : Bool) → is_decoded s x ≡ b → PossibleStores f.picture.stores
      go true e =
          rw ((frame-left r).stores e)
          (by-case PossibleStores (eqb f.picture.picture_type 3) (λ b. k.stores) (λ b. after_kept k.stores))
      go false e = rw ((frame-left r).others e) k.stores

  past_same : {f : P.PictureState} {a : ℕ} → ReadsPicture s z m x f a → SameFrom (stores_bytes z.mb_size) x.store f.store
  past_same r = but-from k.stores.cur (frame-left r).store

-- ---- the turns

module _ (s : List ℕ) (z : Sizes) (m : Matrices) where
  -- a turn is given y, in a call whose first turn was given x
  pub record Reached (x y : DecodingState) : Type 0 where
    pub step : StepReached s z m x y
    pub room : RoomFor z y
    pub same : SameFrom (stores_bytes z.mb_size) x.store y.store

  pub data CallEnd (x : DecodingState) : LoopEnd → Type 0 where
    hands : {y left : DecodingState} {i : Shown} → Reached x y → Outputs s z m (after_picture_search s y) i left
        → SameFrom (stores_bytes z.mb_size) x.store left.store → CallEnd x (finished (H.Picture i) left)
    seven : {y : DecodingState} → Reached x y → is_picture_ready s (after_picture_search s y).state ≡ false
        → is_flush s (after_picture_search s y).state ≡ false
        → CallEnd x (finished (H.Refused 7) (after_picture_search s y))
    stops : {y : DecodingState} {e : Stop} → Reached x y → is_picture_ready s (after_picture_search s y).state ≡ true
        → picture_end s z m (after_picture_search s y) ≡ error e
        → SameFrom (stores_bytes z.mb_size) x.store e.store → CallEnd x (aborted (error_code e.cause) e.store)

  -- what a turn that goes on leaves to the next
  abbrev Follows : DecodingState → DecodingState → Type 0
  Follows y v = RoomFor z v × SameFrom (stores_bytes z.mb_size) y.store v.store

  step_end : (x y : DecodingState) → Reached x y → (t : Step DecodingState LoopEnd) → picture_step s z m y ≡ t → Each (Follows y) (CallEnd x) t
  step_end x y k t e = go (subst (StepCase s z m (after_picture_search s y)) e (picture-step-is s z m y))
    where
      room : RoomFor z (after_picture_search s y)
      room = next-room s y k.room

      go : {t : Step DecodingState LoopEnd} → StepCase s z m (after_picture_search s y) t → Each (Follows y) (CallEnd x) t
      go (outputs (b-picture t r b)) = hands k (b-picture t r b) (then_same k.same (past_same s z m (after_picture_search s y) room r))
      go (outputs (reference-picture t r b h)) = hands k (reference-picture t r b h) (then_same k.same (past_same s z m (after_picture_search s y) room r))
      go (outputs (flushed-picture t u)) = hands k (flushed-picture t u) k.same
      go (keeps-reference t r b h) = (past_room s z m (after_picture_search s y) room r, past_same s z m (after_picture_search s y) room r)
      go (aborts t r) =
          let j = stopped-left s z m (after_picture_search s y) room r in
          stops k t (ap (λ (o : RunResult (Result Stop P.PictureState)). o.value) r) (then_same k.same (but-from room.stores.cur j))
      go (no-picture t u) = seven k t u

  -- RULES 8.7: how the turns of a hand-out end
  pub pictures-end : (x : DecodingState) → RoomFor z x → CallEnd x (pictures s z m x)
  pictures-end x k =
      by_steps s z m x (Follows x) Follows (CallEnd x) (step_end x x (record { step = first_step; room = k; same = same_from }))
      (λ y e h. step_end x y (record { step = second-step e; room = h.0; same = h.1 }))
