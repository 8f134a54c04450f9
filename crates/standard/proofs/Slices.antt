-- 2.4.2.5: the slices of a picture. Assumes RULES Q1.
use mathlib.Core.Path.{◌≡◌, refl, sym, ap, ◌∙◌, subst}
use mathlib.Core.Bool.{Bool, true, false, cond, not, ◌&&◌, false≢true}
use mathlib.Core.List.{List}
use Prim.Native.Nat.{ℕ, zero, suc, ◌≤◌}
use native.Mathlib.Omega.{arith}
use borrow.Author.Tests.{ne_eqb}
use lib.IntN.{ℤ, pos, negsuc, nat_abs, ◌+ℤ◌}
use lib.ListN.{length}
use lib.Signed.{lt_z, le_z}
use Rattle.laws.specs.Loops.{Step, continue, finish}
use Rattle.laws.proofs.Ints.{v, lit, ◌⊕◌, le_yes, le-no, lt_yes, lt_no}
use Rattle.bits.specs.Bounds.{longest_stream}
use Rattle.bits.specs.Bits.{found}
use Rattle.bits.specs.Programs.{RunResult, done, run, bind, stream_fuel, eq_z}
use Rattle.bits.proofs.Programs.{run_bind}
use Rattle.picture_state.specs.declared.types.{Context.Context, Matrices.Matrices, Stores.Stores, Picture.Picture}
use Rattle.picture_state.specs.State.{SliceState, slice_state, with_start_code, with_picture_slice, fresh_block}
use Rattle.picture_state.specs.Result.{Result, ok, error}
use Rattle.picture_state.specs.Stop.{Stop}
use Rattle.slice.specs.Slices as O
use Rattle.picture.specs.Pictures as P
use Rattle.standard.specs.Standard as S
use Rattle.standard.specs.Standard.Prelude.{Forbidden}
use Rattle.standard.proofs.Agreement.{Meets, StepMeets, Agree, a-loop}
use Rattle.standard.proofs.Related.{for_next, back_next, Related, Rule, coding}
use Rattle.standard.proofs.Slice.{Begun, slice-agrees}

-- a slice start code is no picture start code
not-picture : (c : ℤ) → P.is_slice c ≡ true → eq_z c (pos 0) ≡ false
not-picture (pos zero) h = absurd (false≢true h)
not-picture (pos (suc n)) h = ne_eqb (suc n) 0 (λ e. omega arith)
not-picture (negsuc n) h = absurd (false≢true h)

module _ (rule : Rule) (g : Context) (m : Matrices) (df db : S.Direction) (s : List ℕ) (long : length s ≤ longest_stream) (ty : ℕ) (st : Stores) where
  abbrev C : S.Coding
  C = coding rule g m df db

  -- a macroblock leaves what a slice begins with
  begun-again : (x : S.Variables) (w : SliceState) → Related C false x w → Begun df db w.slice
  begun-again x w r =
      record {
        for_set = r.o.for_set;
        back_set = r.o.back_set;
        for = for_next C false x;
        back = back_next C false x;
        forward = ap (λ (w : SliceState). w.slice.motion_forward) r.is;
        backward = ap (λ (w : SliceState). w.slice.motion_backward) r.is;
      }

  -- what the standard knows of a frame between slices, and behind them
  pub record Shown (l : List ℕ) (f : P.PictureState) : Type 0 where
    pub pels : f.store ≡ l
    pub begun : Begun df db f.picture.slice
    pub left : f.block_data ≡ fresh_block
    pub type : f.picture.picture_type ≡ ty
    pub stores : f.picture.stores ≡ st

  -- behind them the frame has the code of a slice, not of a picture
  pub record Ended (l : List ℕ) (f : P.PictureState) : Type 0 where
    pub shown : Shown l f
    pub code : eq_z f.picture.start_code (pos 0) ≡ false

  pub record Kept (x : S.SlicesLoopState) (y : P.SlicesLoopState) : Type 0 where
    pub same : y.begun ≡ x.begun
    pub shown : Shown x.pels y.picture_state

  abbrev Turns : RunResult (Step S.SlicesLoopState (Result Forbidden (List ℕ))) → RunResult (Step P.SlicesLoopState (Result Stop P.PictureState)) → Type 0
  Turns o u = StepMeets Kept Ended o.value o.at u.value u.at

  past_meets : (p : Picture) → p.picture_type ≡ ty → p.stores ≡ st → eq_z p.start_code (pos 0) ≡ false
      → (x : S.Variables) (w : SliceState) (e : ℕ) → Related C false x w
      → Turns (run (S.after_slice C (ok x)) s e) (run (P.after_slice g p (ok w)) s e)
  unfolding S.after_slice P.after_slice run
  past_meets p pt ps pc x w e r = go (lt_z (prev +ℤ pos 1) (pos n)) refl (le_z (pos n) (w.slice.macroblock_address +ℤ pos 1)) refl
    where
      prev : ℤ
      prev = x.previous_macroblock_address

      n : ℕ
      n = g.sizes.mb_size

      address : le_z (pos n) (w.slice.macroblock_address +ℤ pos 1) ≡ le_z (pos n) (prev +ℤ pos 1)
      address = ap (λ (w : SliceState). le_z (pos n) (w.slice.macroblock_address +ℤ pos 1)) r.is

      after : P.PictureState
      after = P.picture_state (with_picture_slice w.slice p) w.block_data w.store

      shown : Shown x.pels after
      shown = record {
        pels = ap (λ (w : SliceState). w.store) r.is;
        begun = begun-again x w r;
        left = ap (λ (w : SliceState). w.block_data) r.is;
        type = pt;
        stores = ps;
      }

      go : (more : Bool) → lt_z (prev +ℤ pos 1) (pos n) ≡ more → (last : Bool) → le_z (pos n) (w.slice.macroblock_address +ℤ pos 1) ≡ last
          → Turns (run (cond more (done (continue (record { begun = true; pels = x.pels }))) (done (finish (ok x.pels)))) s e)
          (run (cond last (done (finish (ok after))) (done (continue (P.slices_loop_state true after)))) s e)
      go true h false k = (refl, record { same = refl; shown = shown })
      go false h true k = (refl, record { shown = shown; code = pc })
      go true h true k =
          let a = lt_yes (v prev ⊕ lit 1) (lit n) h in
          let b = le_yes (lit n) (v prev ⊕ lit 1) (sym address ∙ k) in
          let z : ⊥ = omega arith in
          absurd z
      go false h false k =
          let a = lt_no (v prev ⊕ lit 1) (lit n) h in
          let b = le-no (lit n) (v prev ⊕ lit 1) (sym address ∙ k) in
          let z : ⊥ = omega arith in
          absurd z

  left : (d : Forbidden) (e : ℕ) (u : RunResult (Step P.SlicesLoopState (Result Stop P.PictureState))) → Turns (run (S.after_slice C (error d)) s e) u
  unfolding S.after_slice run
  left d e u = tt

  -- a slice, in the frame that has kept its start code
  slice_meets : (c : ℤ) (l : List ℕ) (p : Picture) → p.picture_type ≡ ty → p.stores ≡ st → eq_z p.start_code (pos 0) ≡ false
      → (w : SliceState) (e : ℕ) → w.store ≡ l → Begun df db w.slice → w.block_data ≡ fresh_block
      → Turns (run (bind (S.slice C (nat_abs c) l) (S.after_slice C)) s e) (run (bind (O.slice g m (nat_abs c) w) (P.after_slice g p)) s e)
  slice_meets c l p pt ps pc w e same b none =
      subst (λ (l : List ℕ). Turns (run (bind (S.slice C (nat_abs c) l) (S.after_slice C)) s e)
      (run (bind (O.slice g m (nat_abs c) w) (P.after_slice g p)) s e)) same
      (rw (run_bind (S.slice C (nat_abs c) w.store) (S.after_slice C) s e, run_bind (O.slice g m (nat_abs c) w) (P.after_slice g p) s e)
      (go (run (S.slice C (nat_abs c) w.store) s e).value (run (S.slice C (nat_abs c) w.store) s e).at _ _
      (slice-agrees rule g m df db s long (nat_abs c) w e b none).is))
    where
      go : (x : Result Forbidden S.Variables) (e : ℕ) (y : Result Stop SliceState) (j : ℕ) → Meets (Related C false) x e y j
          → Turns (run (S.after_slice C x) s e) (run (P.after_slice g p y) s j)
      go (ok x) e (ok y) j m = subst (λ (j : ℕ). Turns (run (S.after_slice C (ok x)) s e) (run (P.after_slice g p (ok y)) s j)) m.0
          (past_meets p pt ps pc x y e m.1)
      go (ok x) e (error d) j m = absurd m
      go (error d) e y j m = left d e _

  turn_meets : (x : S.SlicesLoopState) (y : P.SlicesLoopState) (a : ℕ) → Kept x y → Turns (run (S.slices_step C x) s a) (run (P.slices_step g m y) s a)
  unfolding S.slices_step P.slices_step bind run
  turn_meets x y a i = go (P.is_slice (found s a).code) refl (P.is_extra (found s a).code) y.begun x.begun i.same
    where
      c : ℤ
      c = (found s a).code

      e : ℕ
      e = (found s a).at

      p : Picture
      p = with_start_code c y.picture_state.picture

      w : SliceState
      w = slice_state p.slice y.picture_state.block_data y.picture_state.store

      go : (t : Bool) → P.is_slice c ≡ t → (u yb xb : Bool) → yb ≡ xb
          → Turns (run (cond t (bind (S.slice C (nat_abs c) x.pels) (S.after_slice C))
          (cond (u && not xb) (done (continue (record { begun = false; pels = x.pels }))) (done (finish S.forbidden)))) s e)
          (run (cond t (bind (O.slice g m (nat_abs c) w) (P.after_slice g p))
          (cond (u && not yb) (done (continue (P.slices_loop_state false (P.with_picture p y.picture_state))))
          (done (finish (ok (P.with_picture p y.picture_state)))))) s e)
      go true h u yb xb q = slice_meets c x.pels p i.shown.type i.shown.stores (not-picture c h) w e i.shown.pels
          i.shown.begun i.shown.left
      go false h false yb xb q = tt
      go false h true false false q =
          let k = i.shown in
          (refl, record { same = refl; shown = record { pels = k.pels; begun = k.begun; left = k.left; type = k.type; stores = k.stores } })
      go false h true false true q = tt
      go false h true true false q = absurd (false≢true (sym q))
      go false h true true true q = tt

  -- 2.4.2.5: the standard's slices of a picture and ours: the same store, at the same place
  pub slices-agree : (f : P.PictureState) (a : ℕ) → Begun df db f.picture.slice → f.block_data ≡ fresh_block → f.picture.picture_type ≡ ty
      → f.picture.stores ≡ st
      → Agree Ended s a (S.slices C f.store) (P.slices g m f)
  unfolding S.slices P.slices
  slices-agree f a b none pt ps = a-loop Kept Ended s (S.slices_step C) (P.slices_step g m) (ok f) turn_meets stream_fuel _ (P.slices_loop_state false f) a
      (record { same = refl; shown = record { pels = refl; begun = b; left = none; type = pt; stores = ps } })
