-- 2.4.2.7, 2.4.4.2, 2.4.4.3: quantizer_scale and vectors of a macroblock. Assumes nothing.
use mathlib.Core.Path.{◌≡◌, refl, sym, ap, subst}
use mathlib.Core.Bool.{Bool, true, false, cond, not, false≢true}
use mathlib.Core.List.{List}
use Prim.Native.Nat.{ℕ, ◌*◌, ◌^◌}
use native.Mathlib.Nat.{le_refl}
use native.Mathlib.Omega.{arith}
use lib.Dec.{eqb}
use lib.IntN.{ℤ, pos}
use lib.Pow.{pow_pos}
use Rattle.laws.proofs.Ints.{lit, neg, le-by, lt_by}
use Rattle.bits.specs.Programs.{Prog, done, run, bind, bits}
use Rattle.motion.specs.Displacement.{InRange}
use Rattle.motion.specs.Standard.{standard_vector}
use Rattle.motion.specs.Vector.{displacement, motion_vector}
use Rattle.motion.proofs.Correction.{corrected_in}
use Rattle.motion.proofs.OneStep.{displacement-most, step_is}
use Rattle.motion.proofs.Standard.{standard-step}
use Rattle.picture_state.specs.declared.types.{Motion.Motion, Slice.Slice}
use Rattle.picture_state.specs.State.{with_scale, with_motions, dc_reset}
use Rattle.picture_state.specs.Result.{Result, if_ok, bind_result, lift, pure}
use Rattle.picture_state.specs.Stop.{Stop}
use Rattle.macroblock_head.specs.Heads as O
use Rattle.picture_state.specs.Flags.{flag}
use Rattle.standard.specs.Standard as S
use Rattle.standard.specs.Standard.Prelude.{Forbidden}
use Rattle.standard.proofs.Agreement.{Agree, a-same, a-pure, a-lift, a-bind, a-shall, a-code, a_as, lift-bind, lift-bind-on}
use Rattle.standard.proofs.Related.{In, motion_of, Own, own, slice_of}

zero_range : (f : ℕ) → InRange (2 ^ f) (pos 0)
zero_range f =
    let p = pow_pos f in
    record { low = le-by (neg (lit (16 * 2 ^ f))) (lit 0) (omega arith); high = lt_by (lit 0) (lit (16 * 2 ^ f)) (omega arith) }

pub zero_in : (d : S.Direction) → In d S.zero-vector
zero_in d = record { right = zero_range d.r_size; down = zero_range d.r_size }

step_in : (s : List ℕ) (r : ℕ) (z : ℤ) (a : ℕ) → InRange (2 ^ r) z → InRange (2 ^ r) (run (standard_vector r z) s a).value
step_in s r z a i = rw (standard-step r z i s a, step_is r z s a)
    (corrected_in (run (displacement r) s a).value (le_refl (2 ^ r)) ((displacement-most {s = s} r).value a) i)

module _ {s : List ℕ} where
  -- a vector that is read
  vector-agrees : (d : S.Direction) (b : Bool) (x : S.Vector) (a : ℕ) → In d x
      → Agree (λ y m. In d y × (m ≡ motion_of d b y)) s a (S.vector d x) (lift (O.vector (motion_of d b x)))
  unfolding S.vector O.vector lift bind
  vector-agrees d b x a i =
      let r = d.r_size in
      a-same (sym (lift-bind (motion_vector r x.right) _ s a)) (
      a-code 8 S.is_motion_code (standard_vector r x.right) (motion_vector r x.right) _ _ (standard-step r x.right i.right s a) (
      a-same (sym (lift-bind (motion_vector r x.down) _ s _)) (
      a-code 8 S.is_motion_code (standard_vector r x.down) (motion_vector r x.down) _ _ (standard-step r x.down i.down s _) (
      a-pure (record { right = step_in s r x.right _ i.right; down = step_in s r x.down _ i.down }, refl)))))

  -- the forward vector behind the type t
  forward-agrees : (g : S.Coding) (t : ℕ) (x : S.Vector) (a : ℕ) → In g.forward x
      → Agree (λ y m. In g.forward y × (m ≡ motion_of g.forward (flag t 8) y) × (flag t 8 ≡ false → eqb g.context.picture_type 2 ≡ true → y
      ≡ S.zero-vector)) s a (S.for_vector g t x) (lift (O.forward g.context.picture_type (motion_of g.forward (flag t 8) x)))
  unfolding S.for_vector O.forward lift bind
  forward-agrees g t x a i = go (flag t 8) (eqb g.context.picture_type 2)
    where
      go : (b p : Bool) → Agree (λ y m. In g.forward y × (m ≡ motion_of g.forward b y) × (b ≡ false → p ≡ true → y ≡ S.zero-vector)) s a
          (cond b (S.vector g.forward x) (cond p (pure S.zero-vector) (pure x)))
          (lift (cond b (O.vector (motion_of g.forward b x)) (cond p (done (motion_of g.forward b S.zero-vector)) (done (motion_of g.forward b x)))))
      go true p = a_as (λ y m h. (h.0, h.1, λ z. absurd (false≢true (sym z)))) (vector-agrees g.forward true x a i)
      go false true = a-pure (zero_in g.forward, refl, λ z y. refl)
      go false false = a-pure (i, refl, λ z y. absurd (false≢true y))

  backward-agrees : (g : S.Coding) (t : ℕ) (x : S.Vector) (a : ℕ) → In g.backward x
      → Agree (λ y m. In g.backward y × (m ≡ motion_of g.backward (flag t 4) y) × (flag t 4 ≡ false → y ≡ x)) s a (S.back_vector g t x)
      (lift (O.backward (motion_of g.backward (flag t 4) x)))
  unfolding S.back_vector O.backward lift bind
  backward-agrees g t x a i = go (flag t 4)
    where
      go : (b : Bool) → Agree (λ y m. In g.backward y × (m ≡ motion_of g.backward b y) × (b ≡ false → y ≡ x)) s a
          (cond b (S.vector g.backward x) (pure x))
          (lift (cond b (O.vector (motion_of g.backward b x)) (done (motion_of g.backward b x))))
      go true = a_as (λ y m h. (h.0, h.1, λ z. absurd (false≢true (sym z)))) (vector-agrees g.backward true x a i)
      go false = a-pure (i, refl, λ z. refl)

  scale-agrees : (t : ℕ) (y : Slice) (a : ℕ)
      → Agree (λ q z. z ≡ with_scale q y) s a (cond (flag t 16) S.quantizer_scale (pure y.quantizer_scale)) (lift (O.scale t y))
  unfolding O.scale lift bind
  scale-agrees t y a = go (flag t 16)
    where
      go : (b : Bool) → Agree (λ q z. z ≡ with_scale q y) s a (cond b S.quantizer_scale (pure y.quantizer_scale))
          (lift (cond b (bind (bits 5) (λ q. done (with_scale q y))) (done y)))
      go true =
          let q = (run (bits 5) s a).value in
          a-same (sym (lift-bind (bits 5) (λ q. done (with_scale q y)) s a)) (
          a-lift (bits 5) (bits 5) (λ q. bind_result (S.shall (not (eqb q 0))) (λ u. pure q)) (λ q. pure (with_scale q y)) refl (
          a-shall (not (eqb q 0)) (λ u. pure q) (λ z. a-pure refl)))
      go false = a-pure refl

-- the steps of the standard behind the type t, up to its vectors
abbrev pub their : {C : Type 0} → S.Coding → ℕ → ℕ → S.Vector → S.Vector → (ℕ → S.Vector → S.Vector → Prog (Result Forbidden C)) → Prog (Result Forbidden C)
their g t q f b F =
    bind_result (cond (flag t 16) S.quantizer_scale (pure q)) (λ q. bind_result (S.for_vector g t f) (λ f. bind_result (S.back_vector g t b) (F q f)))

-- our predictors behind a macroblock that is not intra
abbrev pub reset : ℕ → Own
reset t = own (flag t 8) (flag t 4) (pos 128) (pos 128) (pos 128)

module _ {C D : Type 0} {Q : C → D → Type 0} {s : List ℕ} (g : S.Coding) (A : ℤ) (q : ℕ) (f b₀ : S.Vector) (o : Own) (t : ℕ) (i : In g.forward f)
    (j : In g.backward b₀)
    (F : ℕ → S.Vector → S.Vector → Prog (Result Forbidden C)) (G : Slice → Prog (Result Stop D)) where
  -- not intra
  pub inter-head : flag t 1 ≡ false
      → ((q : ℕ) (f b : S.Vector) (e : ℕ) → In g.forward f → In g.backward b
      → (flag t 8 ≡ false → eqb g.context.picture_type 2 ≡ true → f ≡ S.zero-vector) → (flag t 4 ≡ false → b ≡ b₀)
      → Agree Q s e (F q f b) (G (slice_of g A q f b (reset t))))
      → (a : ℕ) → Agree Q s a (their g t q f b₀ F) (bind_result (lift (O.head g.context.picture_type t (slice_of g A q f b₀ o))) G)
  unfolding O.head O.vectors lift bind bind_result if_ok
  inter-head h k a =
      let x = O.flagged t (slice_of g A q f b₀ o) in
      let rest : Bool → Slice → Prog Slice = λ b z. cond b (done (O.vectors_reset z)) (O.vectors g.context.picture_type (dc_reset z)) in
      a-same (sym (lift-bind-on (O.scale t x) (rest (flag t 1)) G s a)) (
      a-bind _ _ (scale-agrees t x a) (λ q z e w.
      let u = with_scale q x in
      let F' = O.forward g.context.picture_type u.motion_forward in
      let B' = O.backward u.motion_backward in
      subst (λ (z : Slice). Agree Q s e (bind_result (S.for_vector g t f) (λ f. bind_result (S.back_vector g t b₀) (F q f)))
      (bind_result (lift (rest (flag t 1) z)) G))
      (sym w) (
      a-same (ap (λ (b : Bool). run (bind_result (lift (rest b u)) G) s e) (sym h)) (
      a-same (sym (lift-bind-on F' (λ f. bind B' (λ b. done (with_motions f b (dc_reset u)))) G s e)) (
      a-bind _ _ (forward-agrees g t f e i) (λ f m e c.
      a-same (sym (lift-bind-on B' (λ b. done (with_motions m b (dc_reset u))) G s e)) (
      a-bind _ _ (backward-agrees g t b₀ e j) (λ b n e d.
      subst (λ (m : Motion). Agree Q s e (F q f b) (G (with_motions m n (dc_reset u)))) (sym c.1) (
      subst (λ (n : Motion). Agree Q s e (F q f b) (G (with_motions (motion_of g.forward (flag t 8) f) n (dc_reset u)))) (sym d.1) (
      k q f b e c.0 d.0 c.2 d.2))))))))))

  -- intra: the standard keeps its vectors, and will not use them; ours are 0
  pub intra-head : flag t 1 ≡ true → flag t 8 ≡ false → flag t 4 ≡ false
      → ((q : ℕ) (f : S.Vector) (e : ℕ)
      → Agree Q s e (F q f b₀) (G (slice_of g A q S.zero-vector S.zero-vector (own (flag t 8) (flag t 4) o.y o.cb o.cr))))
      → (a : ℕ) → Agree Q s a (their g t q f b₀ F) (bind_result (lift (O.head g.context.picture_type t (slice_of g A q f b₀ o))) G)
  unfolding O.head S.for_vector S.back_vector lift bind bind_result if_ok
  intra-head h h8 h4 k a =
      let x = O.flagged t (slice_of g A q f b₀ o) in
      let rest : Bool → Slice → Prog Slice = λ b z. cond b (done (O.vectors_reset z)) (O.vectors g.context.picture_type (dc_reset z)) in
      a-same (sym (lift-bind-on (O.scale t x) (rest (flag t 1)) G s a)) (
      a-bind _ _ (scale-agrees t x a) (λ q z e w.
      subst (λ (z : Slice). Agree Q s e (bind_result (S.for_vector g t f) (λ f. bind_result (S.back_vector g t b₀) (F q f)))
      (bind_result (lift (rest (flag t 1) z)) G))
      (sym w) (
      a-same (ap (λ (b : Bool). run (bind_result (lift (rest b (with_scale q x))) G) s e) (sym h)) (go q e (eqb g.context.picture_type 2)))))
    where
      go : (q e : ℕ) (p : Bool) → Agree Q s e
          (bind_result (cond (flag t 8) (S.vector g.forward f) (cond p (pure S.zero-vector) (pure f)))
          (λ f. bind_result (cond (flag t 4) (S.vector g.backward b₀) (pure b₀)) (F q f)))
          (G (slice_of g A q S.zero-vector S.zero-vector (own (flag t 8) (flag t 4) o.y o.cb o.cr)))
      go q e true = rw (h8, h4) (rw (h8, h4) at (k q S.zero-vector e))
      go q e false = rw (h8, h4) (rw (h8, h4) at (k q f e))
