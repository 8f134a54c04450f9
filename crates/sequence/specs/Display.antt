-- The order in which pictures are shown, and what it means that a run of calls hands them out so.
use Rattle.std.specs.Prelude.{◌≡◌, List, [], ◌∷◌, ℕ, ◌+◌, ◌*◌, ◌<◌, eqb, get_or, Float}
use Rattle.bits.specs.Programs.{when◌then◌else◌}
use Rattle.standard.specs.Standard.{Decoded}
use Rattle.playback.specs.declared.outcome.Outcome.TheVariants.{Picture, Refused}
use Rattle.decoder.specs.declared.answers.DecodeResult.{DecodeResult}
use Rattle.decoder.specs.Calls.{Decodes}
use Rattle.decoder.specs.Run.{CallState, call_state}
use Rattle.clock.specs.Times.{time_at}

-- 2.4.1: a B picture is shown at once; an I or P picture waits for the next one, so that the B pictures between them come first. w is the one that waits
abbrev pub displayed : Decoded → List Decoded → List Decoded
displayed w [] = []
displayed w (d ∷ ds) = when eqb d.header.picture_coding_type 3 then d ∷ displayed w ds else w ∷ displayed d ds

-- DIFFERENCES A.7: the last picture is never decoded
abbrev pub all_but_last : List Decoded → List Decoded
all_but_last [] = []
all_but_last (d ∷ []) = []
all_but_last (d ∷ e ∷ ds) = d ∷ all_but_last (e ∷ ds)

-- from the first on, which waits; at the end one picture still waits, and is not shown (A.7)
abbrev pub shown : List Decoded → List Decoded
shown [] = []
shown (d ∷ ds) = displayed d ds

-- the store of a picture: a B picture's is `cur`, and that of an I or P picture has become `bwd`
abbrev pub store_of : Decoded → ℕ
store_of d = when eqb d.header.picture_coding_type 3 then d.stores.cur else d.stores.bwd

-- RULES 6.11: in the store of the picture d, of n macroblocks, l has the samples that d was decoded to
abbrev pub StoreHolds : ℕ → List ℕ → Decoded → Type 0
StoreHolds n l d = (i : ℕ) → i < 384 * n → get_or l (store_of d * (384 * n) + i) 0 ≡ get_or d.pels (store_of d * (384 * n) + i) 0

-- the calls of `decode` from y on, whatever they give by their contract, hand out these pictures, one after the other, and leave their samples in the
-- store; then the answer is 7. RULES 8.9: k pictures came before them, and the k-th, counted from 0, is shown at 0.0, or at k ÷ rate
abbrev pub OutputsInOrder : ℕ → Float → List ℕ → ℕ → CallState → List Decoded → Type 0
OutputsInOrder n rate s k y [] = (r : DecodeResult) (m : List ℕ) → Decodes y.decoder s y.store r m → r.outcome ≡ Refused 7
OutputsInOrder n rate s k y (d ∷ ds) = (r : DecodeResult) (m : List ℕ) → Decodes y.decoder s y.store r m
    → (r.outcome ≡ Picture (record { store = store_of d; time = time_at rate k })) × StoreHolds n m d
    × OutputsInOrder n rate s (k + 1) (call_state r.decoder m) ds
