-- 2.4.2.6: a slice. Assumes RULES Q1.
use mathlib.Core.Path.{◌≡◌, refl, sym, ap, ◌∙◌, subst}
use mathlib.Core.Bool.{Bool, true, false, cond, not, ◌&&◌, false≢true}
use mathlib.Core.List.{List}
use Prim.Native.Nat.{ℕ, ◌-◌, ◌*◌, ◌≤◌}
use native.Mathlib.Omega.{arith}
use lib.Dec.{eqb}
use lib.IntN.{ℤ, pos, negsuc, ◌+ℤ◌}
use lib.ListN.{length}
use lib.Signed.{lt_z, le_z}
use Rattle.laws.specs.Loops.{Step, continue, finish}
use Rattle.laws.proofs.Ints.{v, lit, ◌⊕◌, ◌⊖◌, yes_lt, yes_le, le_yes, lt_yes}
use Rattle.bits.specs.Bounds.{longest_stream}
use Rattle.bits.specs.Bits.{has, read_at}
use Rattle.bits.specs.Programs.{Prog, RunResult, done, run, bind, bits, non_zero, stream_fuel}
use Rattle.bits.proofs.Programs.{run_bind}
use Rattle.picture_state.specs.declared.types.{Context.Context, Matrices.Matrices, Slice.Slice}
use Rattle.picture_state.specs.State.{SliceState, with_slice, fresh_block}
use Rattle.picture_state.specs.Result.{Result, ok, error, if_ok, bind_result, lift, pure}
use Rattle.picture_state.specs.Stop.{Stop}
use Rattle.macroblock.specs.Macroblocks as M
use Rattle.slice.specs.Slices as O
use Rattle.standard.specs.Standard as S
use Rattle.standard.specs.Standard.Prelude.{Forbidden}
use Rattle.standard.proofs.Agreement.{Meets, StepMeets, Agree, a-by, a-loop}
use Rattle.picture_state.proofs.Runs.{run_lift}
use Rattle.standard.proofs.Related.{motion_of, own, Related, Rule, coding}
use Rattle.standard.proofs.Heads.{zero_in}
use Rattle.standard.proofs.Macroblock.{macroblock-agrees}

-- our state before a slice: full-pel flags and r of the picture's header
pub record Begun (f b : S.Direction) (x : Slice) : Type 0 where
  pub for_set : Bool
  pub back_set : Bool
  pub for : S.Vector
  pub back : S.Vector
  pub forward : x.motion_forward ≡ motion_of f for_set for
  pub backward : x.motion_backward ≡ motion_of b back_set back

-- between two macroblocks
record Between (g : S.Coding) (x : S.SliceLoopState) (y : O.SliceLoopState) : Type 0 where
  first : y.first ≡ x.first
  same : Related g x.first x.variables y.slice_state

module _ (rule : Rule) (g : Context) (m : Matrices) (df db : S.Direction) (s : List ℕ) (long : length s ≤ longest_stream) where
  abbrev C : S.Coding
  C = coding rule g m df db

  abbrev Turns : RunResult (Step S.SliceLoopState (Result Forbidden S.Variables)) → RunResult (Step O.SliceLoopState (Result Stop SliceState)) → Type 0
  Turns o u = StepMeets (Between C) (Related C false) o.value o.at u.value u.at

  -- the end of a slice
  module _ (x : S.Variables) (w : SliceState) (e : ℕ) (r : Related C false x w) where
    abbrev theirs : Bool → Bool → Bool → Prog (Step S.SliceLoopState (Result Forbidden S.Variables))
    theirs h z more = cond (not h) (done (finish S.forbidden))
        (cond z (done (finish (ok x))) (cond more (done (continue (record { first = false; variables = x }))) (done (finish S.forbidden))))

    abbrev is_more : Bool
    is_more = lt_z (x.previous_macroblock_address +ℤ pos 1) (pos g.sizes.mb_size)

    not_last : O.is_last g w ≡ true → is_more ≡ true → ⊥
    not_last p q =
        let n = g.sizes.mb_size in
        let prev = x.previous_macroblock_address in
        let a : le_z (pos n) (prev +ℤ pos 1)
        ≡ true = ap (λ (z : ℤ). le_z (pos n) (z +ℤ pos 1)) (sym (ap (λ (w : SliceState). w.slice.macroblock_address) r.is)) ∙ p in
        let h = le_yes (lit n) (v prev ⊕ lit 1) a in
        let k = lt_yes (v prev ⊕ lit 1) (lit n) q in
        omega arith

    at_last : O.is_last g w ≡ true → (h z more : Bool) → is_more ≡ more → Turns (run (theirs h z more) s e) (record { value = finish (ok w); at = e })
    unfolding run
    at_last p false z more q = tt
    at_last p true true more q = (refl, r)
    at_last p true false true q = absurd (not_last p q)
    at_last p true false false q = tt

    before_last : (h z more : Bool)
        → Turns (run (theirs h z more) s e) (run (cond (h && not z) (done (continue (O.slice_loop_state false w))) (done (finish (ok w)))) s e)
    unfolding run
    before_last false z more = tt
    before_last true true more = (refl, r)
    before_last true false true = (refl, record { first = refl; same = r })
    before_last true false false = tt

    past_meets : Turns (run (S.after_macroblock C (ok x)) s e) (run (O.after_macroblock g (ok w)) s e)
    unfolding S.after_macroblock O.after_macroblock run bind
    past_meets = go (O.is_last g w) refl
      where
        go : (last : Bool) → O.is_last g w ≡ last
            → Turns (run (S.after_macroblock C (ok x)) s e)
            (run (cond last (done (finish (ok w)))
            (bind (non_zero 23) (λ more. cond more (done (continue (O.slice_loop_state false w))) (done (finish (ok w))))))
            s e)
        go true p = at_last p (has s e 23) (eqb (read_at s e 23) 0) is_more refl
        go false p = before_last (has s e 23) (eqb (read_at s e 23) 0) is_more

  left : (d : Forbidden) (e : ℕ) (u : RunResult (Step O.SliceLoopState (Result Stop SliceState))) → Turns (run (S.after_macroblock C (error d)) s e) u
  unfolding S.after_macroblock run
  left d e u = tt

  step_meets : (x : S.SliceLoopState) (y : O.SliceLoopState) (a : ℕ) → Between C x y → Turns (run (S.slice_step C x) s a) (run (O.slice_step g m y) s a)
  unfolding S.slice_step O.slice_step
  step_meets x y a i =
      let o = run (S.macroblock C x.first x.variables) s a in
      let u = run (M.macroblock g m y.first y.slice_state) s a in
      let r : Agree (Related C false) s a (S.macroblock C x.first x.variables) (M.macroblock g m y.first y.slice_state) =
      rw i.first (macroblock-agrees rule g m df db s long x.first x.variables y.slice_state a i.same) in
      rw (
        run_bind (S.macroblock C x.first x.variables) (S.after_macroblock C) s a,
        run_bind (M.macroblock g m y.first y.slice_state)
            (O.after_macroblock g) s a,
      )
      (go o.value o.at u.value u.at r.is)
    where
      go : (x : Result Forbidden S.Variables) (e : ℕ) (y : Result Stop SliceState) (j : ℕ) → Meets (Related C false) x e y j
          → Turns (run (S.after_macroblock C x) s e) (run (O.after_macroblock g y) s j)
      go (ok x) e (ok y) j m = subst (λ (j : ℕ). Turns (run (S.after_macroblock C (ok x)) s e) (run (O.after_macroblock g (ok y)) s j)) m.0
          (past_meets x y e m.1)
      go (ok x) e (error d) j m = absurd m
      go (error d) e y j m = left d e _

  -- ---- the whole

  -- the state at the beginning of a slice
  start-related : (position q : ℕ) (w : SliceState) → Begun df db w.slice → w.block_data ≡ fresh_block
      → Related C true (S.slice_start C position q w.store) (with_slice (O.slice_start g position q w.slice) w)
  start-related position q w b none =
      let before = (position - 1) * g.sizes.mb_width in
      record {
        o = own b.for_set b.back_set (pos 128) (pos 128) (pos 128);
        is = rw (b.forward, b.backward, none);
        for = zero_in df;
        back = zero_in db;
        flags = λ e f. absurd (false≢true (sym f));
        past = rw (yes_lt (lit 1) (lit before ⊖ lit 1 ⊕ lit 1 ⊖ v (negsuc 1)) (omega arith)) refl;
        order = yes_le (v (negsuc 1)) (lit before ⊖ lit 1) (omega arith);
        start = λ e. yes_lt (v (negsuc 1)) (lit before ⊖ lit 1) (omega arith);
      }

  -- quantizer_scale before what follows it
  scale_then : {A B : Type 0} {R : A → B → Type 0} (F : ℕ → Prog (Result Forbidden A)) (H : ℕ → Prog (Result Stop B)) (a : ℕ)
      → Agree R s (run (bits 5) s a).at (F (run (bits 5) s a).value) (H (run (bits 5) s a).value)
      → Agree R s a (bind_result S.quantizer_scale F) (bind (bits 5) H)
  unfolding bind_result if_ok lift bind run
  scale_then {A} {B} {R} F H a h = record { is = go (not (eqb q 0)) }
    where
      q : ℕ
      q = read_at s a 5

      theirs : Bool → Prog (Result Forbidden A)
      theirs b = bind (bind (S.shall b) (if_ok (λ u. pure q))) (if_ok F)

      go : (b : Bool) → Meets R (run (theirs b) s (run (bits 5) s a).at).value (run (theirs b) s (run (bits 5) s a).at).at
          (run (H q) s (run (bits 5) s a).at).value (run (H q) s (run (bits 5) s a).at).at
      go true = h.is
      go false = tt

  -- 2.4.2.6, 2.4.4: the standard's slice() and ours, from behind the start code on
  pub slice-agrees : (position : ℕ) (w : SliceState) (a : ℕ) → Begun df db w.slice → w.block_data ≡ fresh_block
      → Agree (Related C false) s a (S.slice C position w.store) (O.slice g m position w)
  unfolding S.slice O.slice
  slice-agrees position w a b none =
      let o = run (bits 5) s a in
      let e = run O.extra s o.at in
      let q = o.value in
      scale_then _ _ a (a-by _ _ (run_lift O.extra _ s o.at) (run_bind O.extra _ s o.at)
      (a-loop (Between C) (Related C false) s (S.slice_step C) (O.slice_step g m) (ok w) step_meets stream_fuel _ _ e.at
      (record { first = refl; same = start-related position q w b none })).is)
