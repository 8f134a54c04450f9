-- One turn of a hand-out, on a picture that conforms. Assumes RULES Q1.
use mathlib.Core.Path.{◌≡◌, refl, ap, ◌∙◌}
use mathlib.Core.Bool.{Bool, false, cond}
use mathlib.Core.List.{List}
use Prim.Native.Nat.{ℕ, ◌≤◌}
use lib.IntN.{ℤ, pos}
use lib.ListN.{length}
use Rattle.laws.specs.Loops.{finish}
use Rattle.bits.specs.Bounds.{longest_stream}
use Rattle.bits.specs.Bits.{Found}
use Rattle.bits.specs.Programs.{RunResult, run, eq_z, stream_fuel, find_start_code}
use Rattle.picture_state.specs.declared.types.{Stores.Stores, Sizes.Sizes, Matrices.Matrices}
use Rattle.picture_state.specs.State.{fresh_block}
use Rattle.picture_state.specs.Result.{Result, ok}
use Rattle.standard.specs.Standard.Prelude.{Forbidden}
use Rattle.picture.specs.Pictures.{PictureState}
use Rattle.standard.specs.Standard as S
use Rattle.standard.proofs.Agreement.{agreed}
use Rattle.standard.proofs.Related.{Rule}
use Rattle.standard.proofs.Slice.{Begun}
use Rattle.standard.proofs.Picture.{RefinesDecoded, picture-agrees}
use Rattle.playback.specs.declared.outcome.Outcome.TheVariants.{Refused}
use Rattle.playback.specs.declared.state.State.{State}
use Rattle.playback.specs.State as D
use Rattle.playback.specs.State.{start_code, with_search_result}
use Rattle.playback.specs.Search.{ensure_start_code, next_picture, is_followed}
use Rattle.playback.specs.Steps.{DecodingState, with_state, finished, picture_state_of, picture_step}
use Rattle.playback.specs.Cases.{ReadsPicture}
use Rattle.playback.proofs.Cases.{step-seven}
use Rattle.sequence.specs.Sequence.{SequenceState}
use Rattle.sequence.proofs.Searches.{Next}

-- our state and store while the standard is at the place a with x
pub record Waiting (x : SequenceState) (a : ℕ) (y : DecodingState) : Type 0 where
  pub position : D.position y.state ≡ a
  pub code : eq_z (start_code y.state) (pos 0) ≡ false
  pub stores : y.state.picture.stores ≡ x.stores
  pub begun : Begun x.forward x.backward y.state.picture.slice
  pub left : y.block_data ≡ fresh_block
  pub has_reference_frame : D.has_reference_frame y.state ≡ x.has_reference_frame
  pub pels : y.store ≡ x.pels

module _ (rule : Rule) (s : List ℕ) (long : length s ≤ longest_stream) (z : Sizes) (m : Matrices) (x : SequenceState) (a : ℕ) (y : DecodingState)
    (w : Waiting x a y) (f : Found) (n : Next s stream_fuel a f) where
  abbrev theirs : Stores → List ℕ → RunResult (Result Forbidden S.Decoded)
  theirs t l = run (S.picture rule.rules z m t x.forward x.backward l) s f.at

  -- the state behind the search
  abbrev pub found : State
  found = with_search_result (pos 0) f.at y.state

  -- RULES 8.2
  pub next-is : next_picture s y.state ≡ found
  unfolding ensure_start_code find_start_code
  next-is =
      let search : ℕ → State = λ a. let o = run (find_start_code (pos 0)) s a in with_search_result o.value o.at y.state in
      ap (λ (b : Bool). cond b y.state (search (D.position y.state))) w.code ∙ ap search w.position
      ∙ ap (λ (o : RunResult ℤ). with_search_result o.value o.at y.state) n.runs

  -- RULES 8.3: the last picture
  pub last : is_followed s f.at ≡ false → picture_step s z m y ≡ finish (finished (Refused 7) (with_state found y))
  last e = step-seven s z m y found next-is e refl

  module _ (c : S.Decoded) (h : (theirs x.stores x.pels).value ≡ ok c) where
    abbrev end : ℕ
    end = (theirs x.stores x.pels).at

    -- what ours leaves of the picture c
    pub record Picture : Type 0 where
      pub picture_state : PictureState
      pub reads : ReadsPicture s z m (with_state found y) picture_state end
      pub result : RefinesDecoded c picture_state

    same : theirs y.state.picture.stores y.store ≡ theirs x.stores x.pels
    same = λ j. theirs (w.stores j) (w.pels j)

    pub read : Picture
    read =
        let ours = agreed (picture-agrees rule s long z m (picture_state_of (with_state found y)) x.forward x.backward f.at w.begun w.left)
        (ap (λ (o : RunResult (Result Forbidden S.Decoded)). o.value) same ∙ h) in
        record {
          picture_state = ours.0;
          reads = ours.1 ∙ ap (λ (o : RunResult (Result Forbidden S.Decoded)). record { value = ok ours.0; at = o.at }) same;
          result = ours.2;
        }
