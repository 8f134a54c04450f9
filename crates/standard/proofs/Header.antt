-- 2.4.2.5: the header of a picture. Assumes nothing.
use mathlib.Core.Path.{◌≡◌, refl, sym, ap, ◌∙◌, subst}
use mathlib.Core.Bool.{Bool, true, false, cond, not, ◌&&◌, ◌||◌, false≢true, not-not}
use mathlib.Core.List.{List}
use Prim.Native.Nat.{ℕ, ◌-◌}
use lib.Dec.{eqb}
use borrow.Author.Tests.{eqb-true}
use Rattle.bits.specs.Bits.{has, read_at, after_read}
use Rattle.bits.specs.Programs.{Prog, done, skip, run, bind, bits}
use Rattle.picture_state.specs.declared.types.{Motion.Motion, Picture.Picture}
use Rattle.picture_state.specs.Result.{Result, ok, if_ok, bind_result, lift, pure}
use Rattle.picture_state.specs.Stop.{Stop}
use Rattle.picture.specs.Pictures as P
use Rattle.standard.specs.Standard as S
use Rattle.standard.specs.Standard.Prelude.{Forbidden}
use Rattle.standard.proofs.Agreement.{Meets, Agree, a-same, a-pure, a-bind, a-shall, lift-bind}
use Rattle.standard.proofs.Related.{motion_of}
use Rattle.standard.proofs.Slice.{Begun}

module _ (s : List ℕ) where
  field-bits : (n a : ℕ) → Agree ◌≡◌ s a (S.field n) (lift (bits n))
  unfolding S.field lift bind run
  field-bits n a = record { is = go (has s a n) }
    where
      go : (h : Bool) → Meets ◌≡◌ (run (cond h (skip n (pure (read_at s a n))) (done S.forbidden)) s a).value
          (run (cond h (skip n (pure (read_at s a n))) (done S.forbidden)) s a).at (ok (read_at s a n)) (after_read s a n)
      go true = (refl, refl)
      go false = tt

  -- a look ahead of the standard's
  nextbits-their : {C D : Type 0} {Q : C → D → Type 0} (n a : ℕ) (f : ℕ → Prog (Result Forbidden C)) {q : Prog (Result Stop D)}
      → ((x : ℕ) → Agree Q s a (f x) q)
      → Agree Q s a (bind_result (S.nextbits n) f) q
  unfolding bind_result if_ok bind run
  nextbits-their {C} {D} {Q} n a f {q} k = record { is = go (has s a n) }
    where
      p : Bool → Prog (Result Forbidden C)
      p h = bind (cond h (pure (read_at s a n)) (done S.forbidden)) (if_ok f)

      go : (h : Bool) → Meets Q (run (p h) s a).value (run (p h) s a).at (run q s a).value (run q s a).at
      go true = (k (read_at s a n)).is
      go false = tt

  -- one direction: its f code is not 0, and our motion has its flag and vector
  record Directed (d : S.Direction) (x : P.Direction) : Type 0 where
    code : P.has_zero_fcode x ≡ false
    motion : (m : Motion) → P.motion_by x m ≡ motion_of d m.is_set (record { right = m.h; down = m.v })

  direction-agrees : (a : ℕ) → Agree Directed s a S.direction (lift (P.direction true))
  unfolding S.direction P.direction lift bind
  direction-agrees a =
      a-same (sym (lift-bind (bits 1) (λ x. bind (bits 3) (last x)) s a)) (a-bind _ _ (field-bits 1 a) (λ x x' e i.
      subst (λ (x' : ℕ). Agree Directed s e (theirs x) (ours x')) i (
      a-same (sym (lift-bind (bits 3) (last x) s e)) (a-bind _ _ (field-bits 3 e) (λ f f' e j.
      subst (λ (f' : ℕ). Agree Directed s e (theirs' x f) (lift (last x f'))) j (
      a-shall (not (eqb f 0)) (λ z. pure (told x f)) (λ h. a-pure (directed x f (sym (not-not (eqb f 0)) ∙ ap not h)))))))))
    where
      told : ℕ → ℕ → S.Direction
      told x f = record { full_pel_vector = not (eqb x 0); r_size = f - 1 }

      theirs' : ℕ → ℕ → Prog (Result Forbidden S.Direction)
      theirs' x f = bind_result (S.shall (not (eqb f 0))) (λ z. pure (told x f))

      theirs : ℕ → Prog (Result Forbidden S.Direction)
      theirs x = bind_result (S.field 3) (theirs' x)

      last : ℕ → ℕ → Prog P.Direction
      last x f = done (P.present (not (eqb x 0)) f)

      ours : ℕ → Prog (Result Stop P.Direction)
      ours x = lift (bind (bits 3) (last x))

      directed : (x f : ℕ) → eqb f 0 ≡ false → Directed (told x f) (P.present (not (eqb x 0)) f)
      directed x f h = record { code = h; motion = λ m. rw h refl }

  -- what a header that the standard admits leaves of the picture p
  pub record HeadRead (p : Picture) (h : S.Header) (x : P.PictureHeader) : Type 0 where
    pub decoded : P.is_decoded x ≡ true
    pub type : x.picture_coding_type ≡ h.picture_coding_type
    pub begun : Begun h.forward h.backward (P.with_picture_header x p).slice

  module _ (p : Picture) (df db : S.Direction) (b : Begun df db p.slice) where
    abbrev found-header : ℕ → S.Direction → S.Direction → S.Header
    found-header type f b = record { picture_coding_type = type; forward = f; backward = b }

    -- extra_bit_picture
    abbrev ends : ℕ → S.Direction → S.Direction → Prog (Result Forbidden S.Header)
    ends type f b = bind_result (S.nextbits 1) (λ x. bind_result (S.shall (eqb x 0)) (λ z. pure (found-header type f b)))

    ends-agree : {type : ℕ} {f b : S.Direction} {x : P.PictureHeader} {e : ℕ} → HeadRead p (found-header type f b) x
        → Agree (HeadRead p) s e (ends type f b) (pure x)
    ends-agree {type} {f} {b} {x} {e} r = nextbits-their 1 e (λ y. bind_result (S.shall (eqb y 0)) (λ z. pure (found-header type f b)))
        (λ y. a-shall (eqb y 0) (λ z. pure (found-header type f b)) (λ z. a-pure r))

    abbrev directions : ℕ → Prog (Result Forbidden S.Header)
    directions type = bind_result (cond (eqb type 1) (pure df) S.direction) (λ f. bind_result (cond (eqb type 3) S.direction (pure db)) (ends type f))

    abbrev m : Motion
    m = p.slice.motion_forward

    abbrev n : Motion
    n = p.slice.motion_backward

    -- the vectors as they are before the picture
    abbrev vector_of : Motion → S.Vector
    vector_of q = record { right = q.h; down = q.v }

    -- a header of the numbers t and d that no field of the standard's header keeps
    module _ (t d : ℕ) where
      abbrev made : ℕ → P.Direction → P.Direction → P.PictureHeader
      made type f b = record { temporal_reference = t; picture_coding_type = type; vbv_delay = d; forward = f; backward = b }

      abbrev behind : ℕ → P.Direction → Prog P.PictureHeader
      behind type f = bind (P.direction (eqb type 3 && not (P.has_zero_fcode f))) (λ b. done (made type f b))

      abbrev ours : ℕ → Prog P.PictureHeader
      ours type = bind (P.direction (eqb type 2 || eqb type 3)) (behind type)

      i-header : (e : ℕ) → Agree (HeadRead p) s e (directions 1) (lift (ours 1))
      unfolding bind_result if_ok bind lift P.direction
      i-header e =
          ends-agree (record {
            decoded = refl;
            type = refl;
            begun = record { for_set = b.for_set; back_set = b.back_set; for = b.for; back = b.back; forward = b.forward; backward = b.backward };
          })

      p-ends : (f : S.Direction) (y : P.Direction) (e : ℕ) → Directed f y → Agree (HeadRead p) s e (bind_result (pure db) (ends 2 f)) (lift (behind 2 y))
      unfolding bind_result if_ok bind lift P.direction
      p-ends f y e k =
          ends-agree (record {
            decoded = rw k.code refl;
            type = refl;
            begun = record {
              for_set = m.is_set;
              back_set = b.back_set;
              for = vector_of m;
              back = b.back;
              forward = k.motion m;
              backward = b.backward;
            };
          })

      p-header : (e : ℕ) → Agree (HeadRead p) s e (directions 2) (lift (ours 2))
      p-header e = a-same (sym (lift-bind (P.direction true) (behind 2) s e)) (a-bind _ _ (direction-agrees e) (λ f y e k. p-ends f y e k))

      b-ends : (f g : S.Direction) (y z : P.Direction) (e : ℕ) → Directed f y → Directed g z → Agree (HeadRead p) s e (ends 3 f g) (lift (done (made 3 y z)))
      unfolding bind lift
      b-ends f g y z e k l =
          ends-agree (record {
            decoded = rw (k.code, l.code) refl;
            type = refl;
            begun = record {
              for_set = m.is_set;
              back_set = n.is_set;
              for = vector_of m;
              back = vector_of n;
              forward = k.motion m;
              backward = l.motion n;
            };
          })

      b-header : (e : ℕ) → Agree (HeadRead p) s e (directions 3) (lift (ours 3))
      b-header e =
          a-same (sym (lift-bind (P.direction true) (behind 3) s e)) (a-bind _ _ (direction-agrees e) (λ f y e k.
          let K : Bool → Prog P.PictureHeader = λ t. bind (P.direction (not t)) (λ b. done (made 3 y b)) in
          a-same (ap (λ (t : Bool). run (lift (K t)) s e) (sym k.code)) (
          a-same (sym (lift-bind (P.direction true) (λ b. done (made 3 y b)) s e)) (
          a-bind _ _ (direction-agrees e) (λ g z e l. b-ends f g y z e k l)))))

    pub header-agrees : (a : ℕ) → Agree (HeadRead p) s a (S.header df db) (lift P.picture_header)
    unfolding S.header P.picture_header
    header-agrees a =
        a-same (sym (lift-bind (bits 10) (λ t. bind (bits 3) (typed t)) s a)) (a-bind _ _ (field-bits 10 a) (λ x t e i.
        a-same (sym (lift-bind (bits 3) (typed t) s e)) (a-bind _ _ (field-bits 3 e) (λ type type' e i.
        subst (λ (u : ℕ). Agree (HeadRead p) s e (delayed type) (lift (typed t u))) i (
        a-same (sym (lift-bind (bits 16) (λ d. ours t d type) s e)) (a-bind _ _ (field-bits 16 e) (λ x d e i.
        a-shall _ _ (λ h. by-type t d type e (eqb type 1) refl (eqb type 2) refl (eqb type 3) refl h))))))))
      where
        delayed : ℕ → Prog (Result Forbidden S.Header)
        delayed type = bind_result (S.field 16) (λ delay. bind_result (S.shall (eqb type 1 || eqb type 2 || eqb type 3)) (λ z. directions type))

        typed : ℕ → ℕ → Prog P.PictureHeader
        typed t type = bind (bits 16) (λ d. ours t d type)

        Fits : ℕ → ℕ → ℕ → ℕ → Type 0
        Fits t d e type = Agree (HeadRead p) s e (directions type) (lift (ours t d type))

        by-type : (t d type e : ℕ) (x : Bool) → eqb type 1 ≡ x → (y : Bool) → eqb type 2 ≡ y → (z : Bool) → eqb type 3 ≡ z → (x || y || z) ≡ true
            → Fits t d e type
        by-type t d type e true p1 y p2 z p3 h = subst (Fits t d e) (sym (eqb-true type 1 p1)) (i-header t d e)
        by-type t d type e false p1 true p2 z p3 h = subst (Fits t d e) (sym (eqb-true type 2 p2)) (p-header t d e)
        by-type t d type e false p1 false p2 true p3 h = subst (Fits t d e) (sym (eqb-true type 3 p3)) (b-header t d e)
        by-type t d type e false p1 false p2 false p3 h = absurd (false≢true h)
