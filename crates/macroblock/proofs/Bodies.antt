-- A macroblock's body, from what its parts say. Assumes nothing.
use mathlib.Core.Path.{◌≡◌, refl}
use mathlib.Core.Bool.{true, false}
use mathlib.Core.List.{List}
use Prim.Native.Nat.{ℕ}
use Rattle.std.specs.Prelude.{Some}
use Rattle.picture_state.specs.declared.types.StopMark.TheVariants.{PredictionOutside}
use lib.IntN.{ℤ, nat_abs}
use lib.ListN.{length}
use Rattle.bits.specs.declared.reader.Reader.{Reader}
use Rattle.bits.specs.Programs.{bits}
use Rattle.bits.specs.Runs.{RunsInBounds}
use Rattle.bits.proofs.Gives.{Gives, given_by, g-done, g_any, g-bind, g_if}
use Rattle.std.specs.Prelude.{Ok, Err}
use Rattle.prediction.specs.Planes.{Predicted}
use Rattle.prediction.specs.Predict.{half_sample_outside}
use Rattle.picture_state.specs.declared.types.{Context.Context, Matrices.Matrices, Slice.Slice, Progress.Progress}
use Rattle.picture_state.specs.Possible.{PossibleSlice}
use Rattle.picture_state.specs.State.{slice_state}
use Rattle.picture_state.specs.Flags.{flag, is_intra}
use Rattle.macroblock_head.specs.Heads.{macroblock_type, scale, forward, backward, vectors, head, pattern}
use Rattle.macroblock_head.specs.Predictions.{predict}
use Rattle.blocks.specs.Blocks.{blocks}
use Rattle.macroblock.specs.Macroblocks.{predict_unless_intra, body}
use Rattle.picture_state.specs.Promises.{AddressInPicture, MacroblockInvariant, RefinesAtMacroblock}
use Rattle.macroblock_head.specs.Promises.{RefinesPrediction}
use Rattle.macroblock_head.proofs.Kept.{head-gives}
use Rattle.picture_state.proofs.Results.{t-done, r-lift, r-bind, r_if-ok}
use Rattle.picture_state.proofs.Ready.{ready_on}

-- ---- prediction

module _ (g : Context) (t : ℕ) (x : Slice) (l : List ℕ) where
  pub unless_intra : is_intra t ≡ true → RefinesPrediction (predict_unless_intra g t x l) (Ok tt) l
  unfolding predict_unless_intra
  unless_intra e = record { is = rw e }

  pub unless-predicted : is_intra t ≡ false → (address : ℕ) → address ≡ nat_abs x.macroblock_address → {r : Predicted} {l₁ : List ℕ}
      → RefinesPrediction (predict g address x l) r l₁ → RefinesPrediction (predict_unless_intra g t x l) r l₁
  unfolding predict_unless_intra
  unless-predicted e address p k = record { is = rw (e, ← p) k.is }

-- ---- a head keeps the address

head-address : {s : List ℕ} (type t : ℕ) (x : Slice) → Gives s (λ (y : Slice). y.macroblock_address ≡ x.macroblock_address) (head type t x)
unfolding head scale vectors
head-address type t x =
    g-bind {P = λ (q : Slice). q.macroblock_address ≡ x.macroblock_address} _
    (g_if (flag t 16) (λ e. g-bind _ (g_any (bits 5)) (λ q h. g-done refl)) (λ e. g-done refl)) (λ q i.
    g_if (is_intra t) (λ e. g-done i) (λ e.
    g-bind _ (g_any (forward type q.motion_forward)) (λ f h. g-bind _ (g_any (backward q.motion_backward)) (λ b h. g-done i))))

-- ---- the body, behind the type and the head

module _ {g : Context} {x y : Slice} {left : List ℤ} {store s : List ℕ} {from typed headed : Reader} {t : ℕ}
    (ready : MacroblockInvariant g s from x left store) (type : RunsInBounds (macroblock_type g.picture_type) s from t typed)
    (leads : RunsInBounds (head g.picture_type t x) s typed y headed) where
  pub headed-possible : PossibleSlice y
  headed-possible = given_by (head-gives g.picture_type t ready.reads.slice) leads.runs

  headed-address : y.macroblock_address ≡ x.macroblock_address
  headed-address = given_by (head-address g.picture_type t x) leads.runs

  pub headed-here : AddressInPicture g y.macroblock_address
  headed-here = rw headed-address ready.here

  module _ {q : Predicted} {store₁ : List ℕ} (told : RefinesPrediction (predict_unless_intra g t y store) q store₁)
      (long : length store₁ ≡ length store) where
    pub body_refused : (m : Matrices) → q ≡ Err half_sample_outside
        → RefinesAtMacroblock (body g m (slice_state x left store)) g s from (record { reader = headed; state = y; stop = Some PredictionOutside }) left store₁
    unfolding body
    body_refused m e =
        record {
          runs = r-lift _ type.runs (r-lift _ leads.runs (r_if-ok _ (t-done (rw e at told.is))));
          ready = ready_on ready leads.inside headed-possible ready.reads.block headed-address long;
        }

    -- with the pattern
    module _ {c : ℕ} {patterned : Reader} (p : RunsInBounds (pattern t) s headed c patterned) where
      pub blocks-ready : MacroblockInvariant g s patterned y left store₁
      blocks-ready = ready_on ready p.inside headed-possible ready.reads.block headed-address long

      pub body-on : (m : Matrices) → q ≡ Ok tt → {r : Progress} {left₁ : List ℤ} {store₂ : List ℕ}
          → RefinesAtMacroblock (blocks g m (is_intra t) c (slice_state y left store₁)) g s patterned r left₁ store₂
          → RefinesAtMacroblock (body g m (slice_state x left store)) g s from r left₁ store₂
      unfolding body
      body-on m e w =
          record {
            runs = r-lift _ type.runs (r-lift _ leads.runs
                (r-bind _ (t-done (rw e at told.is)) (r-lift _ p.runs w.runs)));
            ready = w.ready;
          }
