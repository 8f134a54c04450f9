-- Order of display: what a call of a run shows, and which picture waits behind it.
use mathlib.Core.Path.{◌≡◌, refl, sym, ap, subst, ◌∙◌}
use mathlib.Core.Bool.{Bool, true, false, true≢false}
use mathlib.Core.List.{List, [], ◌++◌}
use mathlib.Core.Logic.{◌⊎◌, inl, inr, ⊎_elim}
use Prim.Native.Nat.{ℕ, ◌≤◌, ◌<◌}
use native.Mathlib.Omega.{arith}
use lib.Dec.{eqb, leb}
use lib.ListN.{length, get_or}
use borrow.Author.Tests.{le-leb, eq-eqb}
use Rattle.laws.specs.Loops.{Step, continue, finish}
use Rattle.laws.proofs.Tests.{by-case}
use Rattle.picture_state.specs.declared.types.{Matrices.Matrices, Sizes.Sizes}
use Rattle.picture_state.proofs.Possible.{picture-of}
use Rattle.header.specs.Store.{cleared}
use Rattle.decoder.specs.declared.record.Decoder.{Decoder}
use Rattle.playback.specs.declared.outcome.Outcome.{Outcome}
use Rattle.playback.specs.declared.outcome.Outcome.TheVariants as H
use Rattle.playback.specs.State.{frames}
use Rattle.playback.specs.Steps.{DecodingState, LoopEnd, finished, aborted, after_picture_search, pictures}
use Rattle.playback.specs.Cases.{is_picture_ready, StepCase, outputs, keeps-reference, aborts, no-picture}
use Rattle.playback.proofs.Cases.{picture-step-is}
use Rattle.decoder.specs.Record.{CallResult, decoding_state_of, with_stop, store_bytes}
use Rattle.decoder.specs.Possible.{possible_with}
use Rattle.decoder.specs.Headers.{CheckResult, refused, passed, check_header, check_store}
use Rattle.decoder.specs.Decode.{call_result_of, check_header_and_store, start_state, after_checks}
use Rattle.decoder.specs.Run.{CallState, call, state_after}
use Rattle.decoder.proofs.Cleared.{begun-clears}
use Rattle.demands.specs.Display.{CodedPicture, displayed, waiting, AllDecoded, pictures_read, checked_reads, decode_reads, shown_by}
use Rattle.demands.proofs.Keeps.{Keeps, keeps_resumed, keeps-sized}
use Rattle.demands.proofs.RunSteps.{hands, flushes, seven, stops}
use Rattle.demands.proofs.Waiting.{Waits, Accepts, header_accepts}
use Rattle.demands.proofs.RunCall.{Resting, keeps-possible, keeps-marked, keeps-call, stuck-call, marked-call, waits-possible, waits-marked, waits-call}
use Rattle.demands.proofs.RunCall.{StuckAt, EndsFrom, steps-end, accepted-keeps}
use Rattle.demands.proofs.Reached.{RoomFor}
use Rattle.demands.proofs.DisplayStep.{ShowingAt, none-held, EndShows, reads_none}
use Rattle.demands.proofs.DisplaySteps.{pictures_show}
use Rattle.bits.specs.Bounds.{longest_stream}

-- every call from here on answers a number and reads nothing
abbrev pub Over : List ℕ → CallState → Type 0
Over s x = Resting s x ⊎ ((possible_with s x.decoder ≡ true) × ((x.decoder.stop ≡ 8) ⊎ (x.decoder.stop ≡ 9)))

-- of a record and a store
abbrev pub ShowingIn : Decoder → List ℕ → List (List ℕ) → Type 0
ShowingIn d l = ShowingAt d.sequence.sizes (decoding_state_of d l)

-- what the turns from a record on read
abbrev reads_from : List ℕ → Decoder → List ℕ → List CodedPicture
reads_from s d l = pictures_read s d.sequence.sizes d.sequence.matrices (decoding_state_of d l)

-- between two calls, while h waits for display
pub data Phase (s : List ℕ) (x : CallState) (h : List (List ℕ)) : Type 0 where
  no_header : Waits s x.decoder → h ≡ [] → Phase s x h
  under_way : Keeps s x.decoder x.store → ShowingIn x.decoder x.store h → Phase s x h
  over : Over s x → Phase s x h

-- the pictures c were read while h waited: what is shown, and how it goes on; the second case is a flush
abbrev pub CallShows : List ℕ → List (List ℕ) → List CodedPicture → CallResult Outcome → Type 0
CallShows s h c r =
    ((shown_by r.answer r.decoder r.store ≡ displayed h c) × Phase s (state_after r) (waiting h c)) ⊎
    ((shown_by r.answer r.decoder r.store ≡ displayed h c ++ waiting h c) × Over s (state_after r))

keeps-room : {s : List ℕ} {d : Decoder} {l : List ℕ} → Keeps s d l → RoomFor d.sequence.sizes (decoding_state_of d l)
keeps-room {s} {d} k =
    record { area = (keeps-sized k).area; stores = (picture-of d.state.picture k.step.picture).stores; long = k.step.long }

-- ---- what a call reads

module _ (s : List ℕ) (short : length s ≤ longest_stream) where
  keeps-reads : (d : Decoder) (l : List ℕ) → Keeps s d l → decode_reads d s l ≡ reads_from s d l
  unfolding decode_reads check_header_and_store check_store start_state
  keeps-reads d l k =
      let room = le-leb (store_bytes d) (length l) k.step.long in
      rw (le-leb (length s) longest_stream short, keeps-possible s short k, eq-eqb d.stop 0 k.mark, k.header, room) refl

  waits-reads : (d : Decoder) (l : List ℕ) → Waits s d → decode_reads d s l ≡ checked_reads s d l (check_store d l (check_header s d))
  unfolding decode_reads check_header_and_store
  waits-reads d l k = rw (le-leb (length s) longest_stream short, waits-possible s short k, eq-eqb d.stop 0 k.mark, k.header) refl

  marked-reads : (d : Decoder) (l : List ℕ) → possible_with s d ≡ true → (d.stop ≡ 8) ⊎ (d.stop ≡ 9) → decode_reads d s l ≡ []
  unfolding decode_reads
  marked-reads d l p m =
      let z : eqb d.stop 0 ≡ false = ⊎_elim (λ (e : d.stop ≡ 8). rw e refl) (λ (e : d.stop ≡ 9). rw e refl) m in
      rw (le-leb (length s) longest_stream short, p, z)

  -- a turn that answers 7 reads nothing
  abbrev is_seven : Step DecodingState LoopEnd → Bool
  is_seven (continue y) = false
  is_seven (finish (finished (H.Picture i) x)) = false
  is_seven (finish (finished (H.Refused n) x)) = true
  is_seven (finish (aborted n l)) = false

  seven-reads : {z : Sizes} {m : Matrices} {x : DecodingState} {t : Step DecodingState LoopEnd} → StepCase s z m x t → is_seven t ≡ true
      → is_picture_ready s x.state
      ≡ false
  seven-reads (outputs h) e = absurd (true≢false (sym e))
  seven-reads (keeps-reference i r b h) e = absurd (true≢false (sym e))
  seven-reads (aborts i r) e = absurd (true≢false (sym e))
  seven-reads (no-picture i u) e = i

  stuck-reads : (d : Decoder) (l : List ℕ) → StuckAt s d l → reads_from s d l ≡ []
  unfolding pictures_read
  stuck-reads d l t =
      let z = d.sequence.sizes in
      let m = d.sequence.matrices in
      let none = seven-reads (picture-step-is s z m (decoding_state_of d l)) (ap is_seven t) in
      rw (reads_none s z m (after_picture_search s (decoding_state_of d l)) none, t) refl

-- ---- what a call shows

module _ (s : List ℕ) (short : length s ≤ longest_stream) (bytes : (k : ℕ) → get_or s k 0 < 256) where
  pub over-call : (x : CallState) → Over s x
      → (shown_by (call s x).answer (call s x).decoder (call s x).store ≡ []) × (decode_reads x.decoder s x.store ≡ []) × Over s (state_after (call s x))
  over-call x (inl k) =
      let d = x.decoder in
      let l = x.store in
      let e = stuck-call s short d l k.0 k.1 in (
        ap (λ (r : CallResult Outcome). shown_by r.answer r.decoder r.store) e,
        keeps-reads s short d l k.0 ∙ stuck-reads s short d l k.1,
        subst (λ (r : CallResult Outcome). Over s (state_after r)) (sym e) (inl k),
      )
  over-call x (inr k) =
      let d = x.decoder in
      let l = x.store in
      let e = marked-call s short d l k.0 k.1 in (
        ap (λ (r : CallResult Outcome). shown_by r.answer r.decoder r.store) e,
        marked-reads s short d l k.0 k.1,
        subst (λ (r : CallResult Outcome). Over s (state_after r)) (sym e) (inr k),
      )

  -- the turns from x, m on, in a call that was given d
  ended-shows : (d x : Decoder) (m : List ℕ) (n : ℕ) (h : List (List ℕ)) (c : List CodedPicture) (e : LoopEnd)
      → ((i : ℕ) → (i ≡ 8) ⊎ (i ≡ 9) → possible_with s (with_stop i d) ≡ true) → (k : Keeps s x m) → EndsFrom s short bytes x k n e
      → EndShows x.sequence.sizes n h c e → CallShows s h c (call_result_of d x e)
  unfolding call_result_of
  ended-shows d x m n h c (finished (H.Picture i) y) p k (hands j q) (inl w) = inl (w.0, under_way (keeps_resumed k j) w.1)
  ended-shows d x m n h c (finished (H.Picture i) y) p k (hands j q) (inr w) = let f = w.1 in let no : ⊥ = omega arith in absurd no
  ended-shows d x m n h c (finished (H.Picture i) y) p k (flushes j q u) (inl w) = inl (w.0, under_way (keeps_resumed k j) w.1)
  ended-shows d x m n h c (finished (H.Picture i) y) p k (flushes j q u) (inr w) = inr (w.0, inl (keeps_resumed k j, u))
  ended-shows d x m n h c (finished (H.Refused i) y) p k (seven j q u) w = inl (sym w, over (inl (keeps_resumed k j, u)))
  ended-shows d x m n h c (aborted i o) p k (stops q) w = inl (sym w, over (inr (p i q, q)))

  steps_show : (d x : Decoder) (m : List ℕ) (h : List (List ℕ)) → ((i : ℕ) → (i ≡ 8) ⊎ (i ≡ 9) → possible_with s (with_stop i d) ≡ true) → Keeps s x m
      → ShowingIn x m h → AllDecoded (reads_from s x m)
      → CallShows s h (reads_from s x m) (call_result_of d x (pictures s x.sequence.sizes x.sequence.matrices (decoding_state_of x m)))
  steps_show d x m h p k w q =
      ended-shows d x m (frames x.state) h (reads_from s x m) (pictures s x.sequence.sizes x.sequence.matrices (decoding_state_of x m)) p k
      (steps-end s short bytes x k) (pictures_show s x.sequence.sizes x.sequence.matrices (decoding_state_of x m) h (keeps-room k) w q)

  checked-shows : (d : Decoder) (l : List ℕ) → Waits s d → (a : CheckResult) → Accepts s a → AllDecoded (checked_reads s d l (check_store d l a))
      → CallShows s [] (checked_reads s d l (check_store d l a)) (after_checks s d l (check_store d l a))
  unfolding check_store after_checks displayed waiting
  checked-shows d l k (refused n x) h = λ q. inl (refl, no_header h refl)
  checked-shows d l k (passed x) h =
      by-case (λ a. AllDecoded (checked_reads s d l a) → CallShows s [] (checked_reads s d l a) (after_checks s d l a)) (leb (store_bytes x) (length l))
      (λ e. subst (λ (y : DecodingState). AllDecoded (pictures_read s x.sequence.sizes x.sequence.matrices y)
      → CallShows s [] (pictures_read s x.sequence.sizes x.sequence.matrices y)
      (call_result_of d x (pictures s x.sequence.sizes x.sequence.matrices y))) (sym (begun-clears d x l k.header))
      (steps_show d x (cleared (store_bytes x) l) [] (λ i m. waits-marked s short i k m) (accepted-keeps s short l h e) (none-held h.has_reference_frame)))
      (λ e q. inl (refl, no_header k refl))

  -- a call with what it reads and gives replaced by what they are
  call-is : (x : CallState) (h : List (List ℕ)) {c : List CodedPicture} {r : CallResult Outcome} → decode_reads x.decoder s x.store ≡ c → call s x ≡ r
      → (AllDecoded c → CallShows s h c r) → AllDecoded (decode_reads x.decoder s x.store)
      → CallShows s h (decode_reads x.decoder s x.store) (call s x)
  call-is x h {c} e f k =
      subst (λ (b : List CodedPicture). AllDecoded b → CallShows s h b (call s x)) (sym e)
      (subst (λ (q : CallResult Outcome). AllDecoded c → CallShows s h c q) (sym f) k)

  pub call-shows : (x : CallState) (h : List (List ℕ)) → Phase s x h → AllDecoded (decode_reads x.decoder s x.store)
      → CallShows s h (decode_reads x.decoder s x.store) (call s x)
  unfolding displayed
  call-shows x h (no_header k e) =
      let d = x.decoder in
      let l = x.store in
      call-is x h (waits-reads s short d l k) (waits-call s short d l k)
      (subst (λ (g : List (List ℕ)). AllDecoded (checked_reads s d l (check_store d l (check_header s d)))
      → CallShows s g (checked_reads s d l (check_store d l (check_header s d))) (after_checks s d l (check_store d l (check_header s d)))) (sym e)
      (checked-shows d l k (check_header s d) (header_accepts k short)))
  call-shows x h (under_way k w) =
      let d = x.decoder in
      let l = x.store in
      call-is x h (keeps-reads s short d l k) (keeps-call s short d l k) (steps_show d d l h (λ i m. keeps-marked s short i k m) k w)
  call-shows x h (over k) =
      let o = over-call x k in
      call-is x h o.1 refl (λ q. inl (o.0, over o.2))
