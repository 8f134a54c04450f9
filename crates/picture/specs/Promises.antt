-- What the functions of a picture say.
use Rattle.std.specs.Prelude.{Bool, true, false, List, ℕ, ◌≤◌, ℤ, nat_abs}
use Rattle.laws.specs.Loops.{Step, continue, finish}
use Rattle.bits.specs.declared.reader.Reader.{Reader}
use Rattle.bits.specs.Programs.{Prog}
use Rattle.bits.specs.Runs.{ReaderInBounds}
use Rattle.picture_state.specs.declared.types.{Context.Context, Matrices.Matrices, PictureProgress.PictureProgress, Slice.Slice, SlicesProgress.SlicesProgress}
use Rattle.picture.specs.Pictures as P
use Rattle.picture_state.specs.Result.{Result}
use Rattle.picture_state.specs.Stop.{Stop, stop_number}
use Rattle.picture_state.specs.Promises.{Exit, result_of, numbered_step, RunsAs, RunsNumbered, StoreFits, ReadInvariant}

-- a picture's state while its slices are read
abbrev pub picture_state_of : Context → ℤ → Slice → List ℤ → List ℕ → P.PictureState
picture_state_of g code x left store =
    P.picture_state (record { picture_type = g.picture_type; start_code = code; stores = g.stores; slice = x }) left store

-- what the slices of a picture do behind one
abbrev pub slices_step_of : Bool → Bool → ℕ → P.PictureState → Step P.SlicesLoopState (Result Exit P.PictureState)
slices_step_of true begun n f = continue (P.slices_loop_state begun f)
slices_step_of false begun n f = finish (result_of n f f.store)

-- a turn over the slices, whatever start code came before
pub record RefinesSlicesStep (g : Context) (m : Matrices) (s : List ℕ) (reader : Reader) (begun : Bool) (x : Slice) (left : List ℤ) (store : List ℕ)
    (r : SlicesProgress) (left₁ : List ℤ) (store₁ : List ℕ) : Type 0 where
  pub runs : (code : ℤ) → RunsAs numbered_step (P.slices_step g m (P.slices_loop_state begun (picture_state_of g code x left store))) s reader
      (slices_step_of r.continues r.begun (stop_number r.stop) (picture_state_of g r.code r.state left₁ store₁)) r.reader
  pub reads : ReadInvariant s r.reader r.state left₁
  pub store_fits : StoreFits g store₁
  pub few : nat_abs r.code ≤ 255

-- all slices of a picture
pub record RefinesSlices (p : Prog (Result Stop P.PictureState)) (g : Context) (s : List ℕ) (reader : Reader) (r : SlicesProgress) (left : List ℤ)
    (store : List ℕ) : Type 0 where
  pub runs : RunsNumbered p s reader (result_of (stop_number r.stop) (picture_state_of g r.code r.state left store) store) r.reader
  pub reads : ReadInvariant s r.reader r.state left
  pub store_fits : StoreFits g store
  pub few : nat_abs r.code ≤ 255

-- a picture, or its slices
pub record RefinesPicture (p : Prog (Result Stop P.PictureState)) (s : List ℕ) (reader : Reader) (r : PictureProgress) (left : List ℤ) (store : List ℕ) : Type 0
  where
    pub runs : RunsNumbered p s reader (result_of (stop_number r.stop) (P.picture_state r.picture left store) store) r.reader
    pub inside : ReaderInBounds s r.reader
