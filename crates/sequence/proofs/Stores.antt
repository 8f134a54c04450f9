-- 2.4.4: what a picture leaves in the stores: the one that waits to be shown is not written. Assumes nothing.
use mathlib.Core.Path.{◌≡◌, refl, sym, ap, ◌∙◌, subst}
use mathlib.Core.Bool.{Bool, true, false, cond}
use mathlib.Core.List.{List}
use mathlib.Core.Logic.{◌⊎◌, inl, inr}
use Prim.Native.Nat.{ℕ, ◌+◌, ◌*◌, ◌≤◌, ◌<◌}
use native.Mathlib.Decide.{dec_lt}
use native.Mathlib.Nat.{mul-le-mul_right}
use native.Mathlib.Omega.{arith}
use lib.Dec.{eqb}
use lib.ListN.{length, get_or}
use Rattle.picture_state.specs.declared.types.{Stores.Stores, Sizes.Sizes, Matrices.Matrices}
use Rattle.picture_state.specs.Possible.{PossibleStores}
use Rattle.standard.specs.Standard as S
use Rattle.standard.proofs.Related.{Rule}
use Rattle.standard.proofs.Agreement.{ResultIs}
use Rattle.standard.proofs.Spared.{Leaves, picture-spared}
use Rattle.prediction.specs.Planes.{stores_bytes}
use Rattle.sequence.specs.Sequence.{SequenceState, state_after_decoded}
use Rattle.sequence.specs.Display.{store_of, StoreHolds}
use Rattle.sequence.proofs.Pictures.{Begun, stream_before}

-- between pictures: three stores, and memory for them
pub record Sound (n : ℕ) (x : SequenceState) : Type 0 where
  pub three : PossibleStores x.stores
  pub long : stores_bytes n ≤ length x.pels

-- the picture w waits: its store is `bwd`, and has its samples
pub record Waits (n : ℕ) (w : S.Decoded) (x : SequenceState) : Type 0 where
  pub reference : eqb w.header.picture_coding_type 3 ≡ false
  pub store : w.stores.bwd ≡ x.stores.bwd
  pub holds : StoreHolds n x.pels w

abbrev turned : Stores → Stores
turned t = record { cur = t.fwd; fwd = t.bwd; bwd = t.cur }

three-turned : {t : Stores} → PossibleStores t → PossibleStores (turned t)
three-turned h = record {
  cur = h.fwd;
  fwd = h.bwd;
  bwd = h.cur;
  cur-bwd = λ e. h.cur-fwd (sym e);
  cur-fwd = h.fwd-bwd;
  fwd-bwd = λ e. h.cur-bwd (sym e);
}

module _ (rule : Rule) (s : List ℕ) (z : Sizes) (m : Matrices) (area : z.mb_size ≡ z.mb_width * z.mb_height) (x : SequenceState) (a : ℕ)
    (c : S.Decoded)
    (cs : List S.Decoded) (q : Begun rule s z m x a c cs) (h : Sound z.mb_size x) where
  abbrev n : ℕ
  n = z.mb_size

  abbrev N : ℕ
  N = 384 * n

  abbrev is_b : Bool
  is_b = eqb c.header.picture_coding_type 3

  room : x.stores.cur * N + N ≤ length x.pels
  room = omega (arith, mul-le-mul_right N h.three.cur, h.long)

  leaves : Leaves rule.rules z m x.stores x.pels (stream_before s cs) room area c
  leaves =
      subst (ResultIs (Leaves rule.rules z m x.stores x.pels (stream_before s cs) room area)) q.value
      ((picture-spared rule.rules z m x.stores x.pels (stream_before s cs) room area x.forward x.backward).value q.f.at)

  -- behind a B picture the stores have their roles, behind another they have turned
  b-stores : is_b ≡ true → c.stores ≡ x.stores
  b-stores e = leaves.stores ∙ ap (λ (b : Bool). cond b x.stores (turned x.stores)) e

  pub p-stores : is_b ≡ false → c.stores ≡ turned x.stores
  p-stores e = leaves.stores ∙ ap (λ (b : Bool). cond b x.stores (turned x.stores)) e

  pub sound-after : Sound n (state_after_decoded x c)
  sound-after = record { three = go is_b refl; long = omega (arith, h.long, leaves.spared.long) }
    where
      go : (b : Bool) → is_b ≡ b → PossibleStores c.stores
      go true e = subst PossibleStores (sym (b-stores e)) h.three
      go false e = subst PossibleStores (sym (p-stores e)) (three-turned h.three)

  -- the store `bwd` is not written
  bwd-same : (i : ℕ) → i < N → get_or c.pels (x.stores.bwd * N + i) 0 ≡ get_or x.pels (x.stores.bwd * N + i) 0
  bwd-same i l = leaves.spared.same (x.stores.bwd * N + i) (go (dec_lt x.stores.bwd x.stores.cur) (dec_lt x.stores.cur x.stores.bwd))
    where
      go : Dec (x.stores.bwd < x.stores.cur) → Dec (x.stores.cur < x.stores.bwd)
          → (x.stores.bwd * N + i < x.stores.cur * N) ⊎ (x.stores.cur * N + N ≤ x.stores.bwd * N + i)
      go (yes j) k = inl (omega (arith, mul-le-mul_right N j))
      go (no j) (yes k) = inr (omega (arith, mul-le-mul_right N k))
      go (no j) (no k) = absurd (h.three.cur-bwd (omega arith))

  module _ (w : S.Decoded) (k : Waits n w x) where
    store_is : store_of w ≡ x.stores.bwd
    store_is = ap (λ (b : Bool). cond b w.stores.cur w.stores.bwd) k.reference ∙ k.store

    -- the picture that waits has its samples behind the next one
    pub still-holds : StoreHolds n c.pels w
    still-holds i l =
        ap (λ (j : ℕ). get_or c.pels (j * N + i) 0) store_is ∙ bwd-same i l ∙ ap (λ (j : ℕ). get_or x.pels (j * N + i) 0) (sym store_is) ∙ k.holds i l

    -- and waits on behind a B picture
    pub waits-on : is_b ≡ true → Waits n w (state_after_decoded x c)
    waits-on e = record { reference = k.reference; store = k.store ∙ ap (λ (t : Stores). t.bwd) (sym (b-stores e)); holds = still-holds }

    -- it is in the store `fwd` behind another
    pub store-next : is_b ≡ false → c.stores.fwd ≡ store_of w
    store-next e = ap (λ (t : Stores). t.fwd) (p-stores e) ∙ sym store_is

  -- an I or P picture waits
  pub waits_now : is_b ≡ false → Waits n c (state_after_decoded x c)
  waits_now e = record { reference = e; store = refl; holds = λ i l. refl }
