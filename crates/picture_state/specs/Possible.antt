-- RULES Q2: is a picture's state possible?
use Rattle.std.specs.Prelude.{◌≡◌, Bool, true, not, ◌&&◌, ℕ, ◌≤◌, ◌<◌, eqb, leb, ℤ, pos, neg_ℤ, get_or}
use Rattle.std.specs.Int.Signed.{le_z}
use Rattle.laws.specs.Each.{all_below}
use Rattle.motion.specs.Displacement.{InRange}
use Rattle.coefficients.specs.Dcs.{dc_in_range}
use Rattle.picture_state.specs.declared.types.{Motion.Motion, Stores.Stores, Slice.Slice, Picture.Picture}

-- is x in low..high?
abbrev pub between : ℤ → ℤ → ℤ → Bool
between low high x = le_z low x && le_z x high

-- a permutation of 0, 1, 2
abbrev pub possible_stores : Stores → Bool
possible_stores t =
    leb t.cur 2 && leb t.fwd 2 && leb t.bwd 2 && not (eqb t.cur t.fwd) && not (eqb t.cur t.bwd) && not (eqb t.fwd t.bwd)

-- r and the components
abbrev pub possible_motion : Motion → Bool
possible_motion m = leb m.r_size 6 && between (neg_ℤ (pos 1024)) (pos 1023) m.h && between (neg_ℤ (pos 1024)) (pos 1023) m.v

-- scale, address, vectors, DC predictors
abbrev pub possible_slice : Slice → Bool
possible_slice s =
    leb s.quantizer_scale 31 && between (neg_ℤ (pos 1)) (pos 402700000) s.macroblock_address &&
    possible_motion s.motion_forward && possible_motion s.motion_backward &&
    all_below 3 (λ k. dc_in_range (get_or s.dc_predictor k (pos 0)))

-- type, start code, stores
abbrev pub possible_picture : Picture → Bool
possible_picture p =
    leb p.picture_type 7 && between (neg_ℤ (pos 1)) (pos 255) p.start_code && possible_stores p.stores && possible_slice p.slice

-- RULES Q2: the same as facts
pub record PossibleStores (t : Stores) : Type 0 where
  pub cur : t.cur ≤ 2
  pub fwd : t.fwd ≤ 2
  pub bwd : t.bwd ≤ 2
  pub cur-fwd : t.cur ≡ t.fwd → ⊥
  pub cur-bwd : t.cur ≡ t.bwd → ⊥
  pub fwd-bwd : t.fwd ≡ t.bwd → ⊥

pub record PossibleMotion (m : Motion) : Type 0 where
  pub size : m.r_size ≤ 6
  pub h : InRange 64 m.h
  pub v : InRange 64 m.v

pub record PossibleSlice (s : Slice) : Type 0 where
  pub scale : s.quantizer_scale ≤ 31
  pub address : between (neg_ℤ (pos 1)) (pos 402700000) s.macroblock_address ≡ true
  pub forward : PossibleMotion s.motion_forward
  pub backward : PossibleMotion s.motion_backward
  pub predictors : (k : ℕ) → k < 3 → dc_in_range (get_or s.dc_predictor k (pos 0)) ≡ true

pub record PossiblePicture (p : Picture) : Type 0 where
  pub type : p.picture_type ≤ 7
  pub code : between (neg_ℤ (pos 1)) (pos 255) p.start_code ≡ true
  pub stores : PossibleStores p.stores
  pub slice : PossibleSlice p.slice
