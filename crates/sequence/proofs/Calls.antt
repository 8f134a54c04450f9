-- 2.4.1, 2.4.2.2: the calls hand out the pictures of a conforming sequence in the order in which they are shown, but for the last ones (DIFFERENCES A.7),
-- each at its time by the rate of the sequence header (RULES 8.9).
-- Assumes RULES Q1.
use mathlib.Core.Path.{◌≡◌, refl, sym, ap, ◌∙◌, subst}
use mathlib.Core.Bool.{true, false}
use mathlib.Core.List.{List, [], ◌∷◌}
use Prim.Native.Nat.{ℕ, suc, ◌+◌, ◌*◌, ◌≤◌, ◌<◌}
use lib.ListN.{length, get_or}
use lib.Ieee.{Float}
use Rattle.laws.specs.Loops.{iterate}
use Rattle.laws.proofs.Loops.{steps-again, steps-stop}
use Rattle.bits.specs.Bounds.{longest_stream}
use Rattle.bits.specs.Programs.{stream_fuel}
use Rattle.picture_state.specs.declared.types.{Sizes.Sizes, Matrices.Matrices}
use Rattle.picture_state.specs.Result.{ok}
use Rattle.picture_state.proofs.Possible.{stores-of}
use Rattle.standard.specs.Standard as S
use Rattle.header.specs.State.{zero_float}
use Rattle.standard.proofs.Related.{Rule}
use Rattle.decoder.specs.declared.record.Decoder.{Decoder}
use Rattle.decoder.specs.declared.answers.{Opening.Opening, Opened.Opened}
use Rattle.decoder.specs.declared.answers.Opening.TheVariants as O
use Rattle.playback.specs.declared.outcome.{Shown.Shown, Outcome.Outcome}
use Rattle.playback.specs.declared.outcome.Outcome.TheVariants as H
use Rattle.playback.specs.State.{frames, shown_picture}
use Rattle.playback.specs.Steps as P
use Rattle.playback.specs.Steps.{DecodingState, LoopEnd, finished, picture_step}
use Rattle.decoder.specs.Record.{CallResult, call_result, fresh, decoding_state_of, with_decoding_state, position}
use Rattle.decoder.specs.Opening.{opening}
use Rattle.decoder.specs.Decode as C
use Rattle.decoder.specs.Calls.{Opens}
use Rattle.decoder.specs.Run.{CallState, call_state, call, state_after}
use Rattle.demands.proofs.Keeps.{Keeps, keeps_resumed}
use Rattle.demands.proofs.RunSteps.{hands, flushes}
use Rattle.demands.proofs.RunCall.{EndsFrom, steps-end, keeps-call}
use Rattle.clock.specs.Times.{time_at, rate_read}
use Rattle.clock.proofs.Steps.{ClockAt, no-flush}
use Rattle.clock.proofs.Calls.{OpeningClock, opening-clock, CallTimesOf, call-times}
use Rattle.sequence.specs.Sequence.{SequenceState, initial_state, state_after_decoded, pictures}
use Rattle.sequence.specs.Display.{displayed, all_but_last, shown, store_of, StoreHolds, OutputsInOrder}
use Rattle.sequence.proofs.Steps.{Waiting}
use Rattle.sequence.proofs.Opened.{readied}
use Rattle.sequence.proofs.Pictures.{inverted, no-pictures}
use Rattle.sequence.proofs.Stores.{Sound, Waits, sound-after}
use Rattle.sequence.proofs.Outputs.{last_step, handing, holding}

module _ (s : List ℕ) (long : length s ≤ longest_stream) (bytes : (k : ℕ) → get_or s k 0 < 256) where
  -- a call that hands out a picture leaves what the next one needs
  hands-keep : {d : Decoder} {l : List ℕ} {n : ℕ} {i : Shown} {y : DecodingState} (k : Keeps s d l) → EndsFrom s long bytes d k n (finished (H.Picture i) y)
      → Keeps s (with_decoding_state d y) y.store
  hands-keep k (hands j e) = keeps_resumed k j
  hands-keep k (flushes j e u) = keeps_resumed k j

  abbrev unfinished : DecodingState → LoopEnd
  unfinished y = finished (H.Refused 7) y

  -- ---- the pictures behind the first, of a record with the sequence of d

  module _ (rule : Rule) (d : Decoder) (rate : Float) where
    -- RULES 8.12: what the clock has behind k pictures
    abbrev Clock : ℕ → DecodingState → Type 0
    Clock k y = (t : Float) × ClockAt rate k t y.state.display

    abbrev z : Sizes
    z = d.sequence.sizes

    abbrev m : Matrices
    m = d.sequence.matrices

    -- a call is given this
    abbrev at : DecodingState → CallState
    at y = call_state (with_decoding_state d y) y.store

    module _ (area : z.mb_size ≡ z.mb_width * z.mb_height) where
      -- w waits, and the call at g has come to y, with some turns left
      held_calls : (c : S.Decoded) (cs : List S.Decoded) (n : ℕ) (x : SequenceState) (a : ℕ) (y : DecodingState) (w : S.Decoded) (g : DecodingState) (k : ℕ)
          (number : ℕ) → Clock number g → x.has_reference_frame ≡ true → pictures rule.rules z m s n x a ≡ ok (c ∷ cs) → Waiting x a y
          → Sound z.mb_size x
          → Waits z.mb_size w x → Keeps s (with_decoding_state d g) g.store → P.pictures s z m g ≡ iterate (suc k) (picture_step s z m) unfinished y
          → OutputsInOrder z.mb_size rate s number (at g) (displayed w (all_but_last (c ∷ cs)))
      unfolding C.call_result_of P.pictures
      held_calls c [] n x a y w g k number clock held h v i j kept e =
          let turn = last_step rule s long z m x a y v c (inverted rule s z m n x a c [] h) in
          let ends = e ∙ steps-stop (picture_step s z m) k unfinished y _ turn in
          λ r l gave. ap (λ (r : CallResult Outcome). r.answer)
          (gave ∙ keeps-call s long (with_decoding_state d g) g.store kept ∙ ap (C.call_result_of (with_decoding_state d g) (with_decoding_state d g)) ends)
      held_calls c (c' ∷ cs) n x a y w g k number clock held h v i j kept e =
          let q = inverted rule s z m n x a c (c' ∷ cs) h in
          let o = handing rule s long z m x a y v c c' cs q area i held w j in
          let told_of = H.Picture (shown_picture (store_of o.picture) o.left.state) in
          let ends : P.pictures s z m g ≡ finished told_of o.left = e ∙ steps-stop (picture_step s z m) k unfinished y _ o.step in
          let left_is : call s (at g) ≡ call_result told_of (with_decoding_state d o.left) o.left.store =
          keeps-call s long (with_decoding_state d g) g.store kept ∙ ap (C.call_result_of (with_decoding_state d g) (with_decoding_state d g)) ends in
          let kept' : Keeps s (with_decoding_state d o.left) o.left.store =
          hands-keep kept
          (subst (EndsFrom s long bytes (with_decoding_state d g) kept (frames g.state)) ends (steps-end s long bytes (with_decoding_state d g) kept)) in
          let told = subst (CallTimesOf rate number clock.0) left_is
          (call-times s rate number clock.0 (with_decoding_state d g) g.store (kept.header, clock.1)) in
          let time = no-flush rate number clock.0 (o.waiting.has_reference_frame ∙ o.has_reference_frame) told.1 in
          let rest = held_calls c' cs q.fuel (state_after_decoded x c) _ o.left o.next o.left 1 (number + 1) (_, time.1)
          o.has_reference_frame q.rest o.waiting
          (sound-after rule s z m area x a c (c' ∷ cs) q i) o.waits kept' refl in
          subst (OutputsInOrder z.mb_size rate s number (at g)) (sym (o.order (all_but_last (c' ∷ cs)))) (λ r l gave.
          subst (λ (q : CallResult Outcome). (q.answer ≡ H.Picture (record { store = store_of o.picture; time = time_at rate number }))
          × StoreHolds z.mb_size q.store o.picture
          × OutputsInOrder z.mb_size rate s (number + 1) (state_after q) (displayed o.next (all_but_last (c' ∷ cs)))) (sym (gave ∙ left_is)) (
            ap (λ (t : Float). H.Picture (record { store = store_of o.picture; time = t })) time.0,
            subst (λ (l : List ℕ). StoreHolds z.mb_size l o.picture) (sym o.pels) o.holds,
            rest,
          ))

      -- from the first on
      first_calls : (ds : List S.Decoded) (n : ℕ) (x : SequenceState) (a : ℕ) (y : DecodingState) → Clock 0 y
          → x.has_reference_frame ≡ false → pictures rule.rules z m s n x a ≡ ok ds → Waiting x a y → Sound z.mb_size x
          → Keeps s (with_decoding_state d y) y.store
          → OutputsInOrder z.mb_size rate s 0 (at y) (shown (all_but_last ds))
      unfolding P.pictures C.call_result_of
      first_calls [] n x a y clock held h w i kept = no-pictures rule s z m n x a h
      first_calls (c ∷ []) n x a y clock held h w i kept =
          let turn = last_step rule s long z m x a y w c (inverted rule s z m n x a c [] h) in
          λ r l gave. ap (λ (r : CallResult Outcome). r.answer) (gave ∙ keeps-call s long (with_decoding_state d y) y.store kept
          ∙ ap (C.call_result_of (with_decoding_state d y) (with_decoding_state d y)) (steps-stop (picture_step s z m) 1 unfinished y _ turn))
      first_calls (c ∷ c' ∷ cs) n x a y clock held h w i kept =
          let q = inverted rule s z m n x a c (c' ∷ cs) h in
          let o = holding rule s long z m x a y w c c' cs q area i held in
          held_calls c' cs q.fuel (state_after_decoded x c) _ o.left c y 0 0 clock o.has_reference_frame q.rest o.waiting
          (sound-after rule s z m area x a c (c' ∷ cs) q i) o.waits kept
          (steps-again (picture_step s z m) 1 unfinished y o.left o.step)

-- ---- the whole

module _ (rule : Rule) (s : List ℕ) (bytes : (k : ℕ) → get_or s k 0 < 256) where
  -- the calls behind an opening that left this
  abbrev Shows : CallResult Opening → Type 0
  Shows q = let d = q.decoder in (ds : List S.Decoded)
      → pictures rule.rules d.sequence.sizes d.sequence.matrices s stream_fuel (initial_state q.store) (position d) ≡ ok ds
      → OutputsInOrder d.sequence.sizes.mb_size (rate_read s fresh) s 0 (call_state d q.store) (shown (all_but_last ds))

  opened-shows : (l : List ℕ) → (opening s l).answer ≡ O.Ready → Shows (opening s l)
  opened-shows l ready ds h =
      let r = readied s l ready in
      let d = (opening s l).decoder in
      let clock = subst (λ (o : Opening). OpeningClock s o d) ready (opening-clock s l) in
      first_calls s r.short bytes rule d (rate_read s fresh) r.starting.1 ds stream_fuel (initial_state (opening s l).store) (position d)
      (decoding_state_of d (opening s l).store) (zero_float, clock.1) refl h r.starting.0 (record { three = stores-of _ refl; long = r.keeps.step.long })
      r.keeps

  -- from a call of `open` that accepts the first header on: where the pictures behind it conform, the calls hand them out as they are shown
  pub pictures-output : (l : List ℕ) (r : Opened) (m : List ℕ) → Opens s l r m → r.answer ≡ O.Ready → (ds : List S.Decoded)
      → pictures rule.rules r.decoder.sequence.sizes r.decoder.sequence.matrices s stream_fuel (initial_state m) (position r.decoder) ≡ ok ds
      → OutputsInOrder r.decoder.sequence.sizes.mb_size (rate_read s fresh) s 0 (call_state r.decoder m) (shown (all_but_last ds))
  pictures-output l r m gave ready =
      subst Shows (sym gave) (opened-shows l (ap (λ (q : CallResult Opening). q.answer) (sym gave) ∙ ready))
