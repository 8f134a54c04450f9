-- ISO/IEC 11172-2, 2.4.2.2 to 2.4.2.4: video_sequence(), from behind its first sequence header on, which opening reads. 2.4.1: start codes stand nowhere
-- else, so a header, a group's head, extension data and user data end at the first start code behind their own.
use Rattle.std.specs.Prelude.{Bool, true, false, ◌&&◌, ◌||◌, List, [], ◌∷◌, ◌++◌, ℕ, zero, suc, ◌%◌, eqb, ℤ, pos, negsuc}
use Rattle.laws.specs.Loops.{Step, continue, finish, iterate}
use Rattle.bits.specs.Bits.{Found, read_at, found}
use Rattle.bits.specs.Programs.{run, eq_z, stream_fuel, find_start_code, when◌then◌else◌}
use Rattle.picture_state.specs.declared.types.{Stores.Stores, Sizes.Sizes, Matrices.Matrices}
use Rattle.picture_state.specs.Result.{Result, ok, and_then}
use Rattle.standard.specs.Standard.Prelude.{Forbidden, forbidden}
use Rattle.standard.specs.Standard.State.{Direction, Rules}
use Rattle.standard.specs.Standard.{Decoded, picture}
use Rattle.header.specs.Sequences.{size, rest}

-- the numbers of two matrices
abbrev pub same_numbers : List ℕ → List ℕ → Bool
same_numbers [] [] = true
same_numbers [] (y ∷ ys) = false
same_numbers (x ∷ xs) [] = false
same_numbers (x ∷ xs) (y ∷ ys) = eqb x y && same_numbers xs ys

-- 2.4.2.3: a sequence header that comes again, behind its start code at the place a. It may load other matrices; the Rust does not read it (DIFFERENCES A.6),
-- so it is asked for the same ones. Its other fields are those of the first (2.4.3.2)
unfoldable pub same_matrices : Matrices → List ℕ → ℕ → Bool
same_matrices m s a =
    let k = (run rest s (run size s a).at).value.matrices in
    same_numbers k.intra_quant_matrix m.intra_quant_matrix && same_numbers k.non_intra_quant_matrix m.non_intra_quant_matrix

-- 2.4.2.4: time_code (25 bits), closed_gop and broken_link of a group. With broken_link its first B pictures are not to be shown; the Rust does not read it
-- (DIFFERENCES A.10), so it is asked to be 0
abbrev pub is_unbroken : List ℕ → ℕ → Bool
is_unbroken s a = eqb (read_at s a 27 % 2) 0

-- what may stand before a picture: user_data_start_code (B2), extension_start_code (B5), group_start_code (B8), sequence_header_code (B3)
abbrev pub is_skipped : Matrices → List ℕ → Found → Bool
is_skipped m s f =
    eq_z f.code (pos 0xb2) || eq_z f.code (pos 0xb5) || (eq_z f.code (pos 0xb8) && is_unbroken s f.at)
    || (eq_z f.code (pos 0xb3) && same_matrices m s f.at)

-- one start code, from the place a on: c, or one of what may stand before it
abbrev pub follow_step : ℤ → Matrices → List ℕ → ℕ → Step ℕ (Result Forbidden Found)
follow_step c m s a =
    let f = found s a in
    when eq_z f.code c then finish (ok f) else when is_skipped m s f then continue f.at else finish forbidden

-- on to the next picture_start_code (00) or sequence_end_code (B7), which is c
unfoldable pub following : ℤ → Matrices → List ℕ → ℕ → Result Forbidden Found
following c m s a = iterate stream_fuel (follow_step c m s) (λ a. forbidden) a

-- what goes from one picture to the next; `held`: has an I or P picture been decoded?
pub record SequenceState : Type 0 where
  pub stores : Stores
  pub forward : Direction
  pub backward : Direction
  pub has_reference_frame : Bool
  pub pels : List ℕ

-- before the first picture; no vector is read before a header says of its direction
abbrev pub no_vectors : Direction
no_vectors = record { full_pel_vector = false; r_size = 0 }

abbrev pub initial_state : List ℕ → SequenceState
initial_state l = record { stores = record { cur = 0; fwd = 1; bwd = 2 }; forward = no_vectors; backward = no_vectors; has_reference_frame = false; pels = l }

-- behind a picture; a B picture is no reference
abbrev pub state_after_decoded : SequenceState → Decoded → SequenceState
state_after_decoded x d = record {
  stores = d.stores;
  forward = d.header.forward;
  backward = d.header.backward;
  has_reference_frame = when eqb d.header.picture_coding_type 3 then x.has_reference_frame else true;
  pels = d.pels;
}

-- the first picture is an I picture
abbrev pub state_after_picture : SequenceState → Decoded → Result Forbidden SequenceState
state_after_picture x d = when x.has_reference_frame || eqb d.header.picture_coding_type 1 then ok (state_after_decoded x d) else forbidden

-- 2.4.1: start codes stand nowhere else, so a picture is the last where behind its own start code no other picture start code is found
abbrev pub is_last : List ℕ → ℕ → Bool
is_last s a = eq_z (run (find_start_code (pos 0)) s a).value (negsuc 0)

-- the stream with sequence_end_code behind it, and the byte that the search for a start code asks for (DIFFERENCES A.8)
abbrev pub ended : List ℕ → List ℕ
ended s = s ++ (0x00 ∷ 0x00 ∷ 0x01 ∷ 0xb7 ∷ 0x00 ∷ [])

-- the last picture, d, which ends at the place a: sequence_end_code follows
abbrev pub at_end : Matrices → List ℕ → ℕ → Decoded → Result Forbidden (List Decoded)
at_end m s a d = and_then (following (pos 0xb7) m s a) λ f. ok (d ∷ [])

-- 2.4.2.2, 2.4.2.4: the pictures up to sequence_end_code, at least one, in the order of the stream. The code may be its last four bytes, or be missing, where
-- the standard asks for it (DIFFERENCES B.18): the last picture is read with the code behind the stream
unfoldable pub pictures : Rules → Sizes → Matrices → List ℕ → ℕ → SequenceState → ℕ → Result Forbidden (List Decoded)
pictures r z m s zero x a = forbidden
pictures r z m s (suc n) x a =
    and_then (following (pos 0) m s a) λ f.
    let last = is_last s f.at in
    let t = when last then ended s else s in
    let o = run (picture r z m x.stores x.forward x.backward x.pels) t f.at in
    and_then o.value λ d. and_then (state_after_picture x d) λ y.
    when last then at_end m t o.at d else and_then (pictures r z m s n y o.at) λ ds. ok (d ∷ ds)
